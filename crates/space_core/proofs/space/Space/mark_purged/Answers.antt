use Rattle.space_core.proofs.space.Space.mark_purged.Goals as goal

pub invariant_of-self : goal.invariant_of-self
invariant_of-self g c = record {
  space = record {
    stands = λ honest. let stands = c.self.invariant.space.stands honest in record { memory = stands.memory; ran = stands.ran; shows = stands.shows; still = stands.still };
    cached = c.self.invariant.space.cached;
  };
  code = c.self.invariant.code;
}
