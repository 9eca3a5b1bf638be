use Rattle.std.proofs.Common.{◌≡◌, Some, sym, ap, ◌∙◌, subst}
use Rattle.paged_memory.proofs.NoticesLaws.{emptied_quiet, emptied_before}
use Rattle.paged_memory.specs.moves.Moving.{HasNothingBelow}
use Rattle.paged_memory.specs.cleaning.Copies.{LeavesCopies}
use Rattle.paged_memory.proofs.cleaning_laws.CopiesCallLaws.{taken_copies}
use Rattle.space_core.specs.RunningValue.{RunningValue}
use Rattle.space_core.specs.StandsFor.{SpaceValue}
use Rattle.space_core.proofs.CodeSpaces.{decoded_given_up}
use Rattle.space_core.proofs.space.Space.take_from.Goals as goal

pub take_from-requires : goal.take_from-requires
take_from-requires g c = record {
  quiet = emptied_quiet c.self.inside.memory c.clear_caches.new.self c.clear_caches.ensures;
  before =
      emptied_before c.self.inside.memory c.clear_caches.new.self c.args.from c.clear_caches.ensures
      (subst (λ (s : SpaceValue g.row.S.Denot). HasNothingBelow c.args.from s.memory) (sym c.self.view_is) c.requires);
}

pub invariant_of-self : goal.invariant_of-self
invariant_of-self g c =
    let inside : SpaceValue g.row.S.Denot = record { image = c.self.inside.image; input = c.self.inside.input; running = c.self.inside.recorded.running; schedule = c.self.inside.recorded.schedule; memory = c.self.inside.memory; purged = c.self.inside.purged } in
    let did = c.take_from.ensures in
    let ended : c.self.inside.recorded.running.ending ≡ Some c.in_ok-end.field-0 = ap (λ (r : RunningValue). r.ending) (sym c.running.ensures) ∙ sym c.end.ensures ∙ c.in_ok-end.was in
    decoded_given_up g.S.SwapSlot.content g.S.SwapSlot.honest c.self.inside.decoded inside c.take_from.new.self c.in_ok-end.field-0 ended c.clear_caches.new.self c.take_from.result c.clear_caches.ensures did.left did.given did.caches did.reserved c.self.invariant

pub returns-clause-copies : goal.returns-clause-copies
returns-clause-copies g c =
    subst (λ (v : SpaceValue g.row.S.Denot). LeavesCopies v.memory c.take_from.new.self) c.self.view_is
    (taken_copies c.take_from.result c.self.inside.memory c.clear_caches.new.self c.take_from.new.self c.clear_caches.ensures c.take_from.ensures.left c.take_from.ensures.given)
