use Rattle.std.proofs.Common.{sym, subst}
use Rattle.decoded_pages.specs.Code.{ShowsAll}
use Rattle.paged_memory.proofs.access_laws.UsingLaws.{caches_shown}
use Rattle.space_core.specs.StandsFor.{SpaceValue}
use Rattle.space_core.specs.StepByStep.{SlicesOne}
use Rattle.space_core.proofs.StepsOn.{LeftOne, refused_one}
use Rattle.space_core.proofs.space.Space.refuse.Given.{Over}
use Rattle.space_core.proofs.space.Space.refuse.Goals as goal

abbrev inside : (g : Over) (c : goal.After-coherent g) → SpaceValue g.row.S.Denot
inside g c = record { image = c.self.inside.image; input = c.self.inside.input; running = c.self.inside.recorded.running; schedule = c.self.inside.recorded.schedule; memory = c.self.inside.memory; purged = c.self.inside.purged }

left : (g : Over) (c : goal.After-coherent g) → LeftOne g.S.SwapSlot.content g.S.SwapSlot.honest c.args.hart 0 c.stop_refused-stop.result (inside g c) (record (inside g c) { memory = c.settle_caches.new.memory })
left g c =
    let now = c.coherent.ensures in
    let refused = c.stop_refused-stop.ensures in
    refused_one g.S.SwapSlot.content g.S.SwapSlot.honest c.args.hart c.stop_refused-stop.result (inside g c) c.settle_caches.new.memory refused.answers refused.begins refused.stop
    (record { stands = c.self.invariant.space.stands; cached = c.self.invariant.space.cached }) c.settle_caches.ensures.memory c.settle_caches.ensures.caches c.settle_caches.ensures.harts
    (record { agree = now.agree; accessed = now.accessed; framed = now.framed; unmarked = now.unmarked; walks = now.walks })

pub invariant_of-self : goal.invariant_of-self
invariant_of-self g c = record {
  space = (left g c).is;
  code = λ live. subst (ShowsAll c.self.inside.decoded) (sym (caches_shown g.S.SwapSlot.content c.self.inside.memory c.settle_caches.new.memory c.settle_caches.ensures.memory)) (c.self.invariant.code live);
}

pub returns : goal.returns
returns g c = record {
  slice = subst (λ (s : SpaceValue g.row.S.Denot). SlicesOne g.S.SwapSlot.content g.S.SwapSlot.honest c.args.hart 0 c.stop_refused-stop.result s (record (inside g c) { memory = c.settle_caches.new.memory })) c.self.view_is (left g c).slice;
}
