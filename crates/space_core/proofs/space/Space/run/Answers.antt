use Rattle.std.proofs.Common.{length, option_map, ap, ◌∙◌, subst, arith}
use Rattle.flat_machine.specs.Process.{may_step}
use Rattle.flat_machine.specs.Schedule.{room}
use Rattle.paged_memory.proofs.access_laws.UsingLaws.{caches_on}
use Rattle.space_core.specs.RunningValue.{RunningValue}
use Rattle.space_core.specs.Slicing.{shown_process}
use Rattle.space_core.specs.StandsFor.{SpaceValue}
use Rattle.space_core.specs.StepByStep.{StepsEach}
use Rattle.space_core.proofs.CodeKept.{each_keeps}
use Rattle.space_core.proofs.CodeSpaces.{decoded_ran, live_when_may}
use Rattle.space_core.proofs.SliceLaws.{settled_after}
use Rattle.space_core.proofs.StepsOn.{Left, all_left, last_left, no_fewer_harts}
use Rattle.space_core.proofs.space.Space.run.Given.{Over}
use Rattle.space_core.proofs.space.Space.run.Goals.{In_default}
use Rattle.space_core.proofs.space.Space.run.Goals as goal

pub run-steps-requires-clause-shows : goal.run-steps-requires-clause-shows
run-steps-requires-clause-shows g c =
    let inside : SpaceValue g.row.S.Denot = record { image = c.self.inside.image; input = c.self.inside.input; running = c.self.inside.recorded.running; schedule = c.self.inside.recorded.schedule; memory = c.self.inside.memory; purged = c.self.inside.purged } in
    c.self.invariant.code (live_when_may g.S.SwapSlot.content c.args.hart inside (ap (λ (s : SpaceValue g.row.S.Denot). may_step c.args.hart (shown_process g.S.SwapSlot.content s)) c.self.view_is ∙ c.requires.may))

pub add_harts-requires-clause-more : goal.add_harts-requires-clause-more
add_harts-requires-clause-more g c =
    let inside : SpaceValue g.row.S.Denot = record { image = c.self.inside.image; input = c.self.inside.input; running = c.self.inside.recorded.running; schedule = c.self.inside.recorded.schedule; memory = c.self.inside.memory; purged = c.self.inside.purged } in
    let more = no_fewer_harts g.S.SwapSlot.content g.S.SwapSlot.honest c.args.hart c.run-steps.result.ran c.run-steps.result.last c.in-Some.slice inside c.run-steps.new.self c.run-steps.new.memory c.in-Some.is c.self.invariant.space.cached c.run-steps.ensures.runs in
    let count = c.started.ensures.count in
    let same = ap (λ (r : RunningValue). length r.harts) c.running.ensures in
    omega (arith, more, count, same)

-- all were done

abbrev whole : (g : Over) (c : In_default g) → SpaceValue g.row.S.Denot
whole g c = record { image = c.self.inside.image; input = c.self.inside.input; running = c.self.inside.recorded.running; schedule = c.self.inside.recorded.schedule; memory = c.self.inside.memory; purged = c.self.inside.purged }

abbrev done : (g : Over) (c : In_default g) → SpaceValue g.row.S.Denot
done g c = record { image = c.self.inside.image; input = c.self.inside.input; running = c.run-steps.new.self.running; schedule = c.run-steps.new.self.schedule; memory = c.run-steps.new.memory; purged = c.self.inside.purged }

all : (g : Over) (c : In_default g) → Left g.S.SwapSlot.content g.S.SwapSlot.honest c.args.hart c.run-steps.result.ran (option_map (λ slice. (slice.ran, slice.stop)) c.run-steps.result.last) (whole g c) (done g c)
all g c =
    let did = c.run-steps.ensures in
    all_left g.S.SwapSlot.content g.S.SwapSlot.honest c.args.hart c.run-steps.result.ran c.args.most c.run-steps.result.last (whole g c) c.run-steps.new.self c.run-steps.new.memory c.in_default.is did.all c.requires.some
    (ap (λ (s : SpaceValue g.row.S.Denot). may_step c.args.hart (shown_process g.S.SwapSlot.content s)) c.self.view_is ∙ c.requires.may) (record { stands = c.self.invariant.space.stands; cached = c.self.invariant.space.cached }) did.runs

pub invariant_of-self : goal.invariant_of-self
invariant_of-self g c =
    decoded_ran g.S.SwapSlot.content g.S.SwapSlot.honest c.self.inside.decoded (whole g c) (done g c) (live_when_may g.S.SwapSlot.content c.args.hart (whole g c) (ap (λ (s : SpaceValue g.row.S.Denot). may_step c.args.hart (shown_process g.S.SwapSlot.content s)) c.self.view_is ∙ c.requires.may))
    (each_keeps g.S.SwapSlot.content g.S.SwapSlot.honest c.args.hart c.run-steps.result.ran (option_map (λ slice. (slice.ran, slice.stop)) c.run-steps.result.last) (whole g c) (done g c) (all g c).each) (all g c).is
    (record { space = record { stands = c.self.invariant.space.stands; cached = c.self.invariant.space.cached }; code = c.self.invariant.code })

pub returns-in_default-clause-each : goal.returns-in_default-clause-each
returns-in_default-clause-each g c =
    subst (λ (s : SpaceValue g.row.S.Denot). StepsEach g.S.SwapSlot.content g.S.SwapSlot.honest c.args.hart c.run-steps.result.ran (option_map (λ slice. (slice.ran, slice.stop)) c.run-steps.result.last) s (done g c)) c.self.view_is (all g c).each

-- the last one ended

abbrev inside : (g : Over) (c : goal.After-coherent g) → SpaceValue g.row.S.Denot
inside g c = record { image = c.self.inside.image; input = c.self.inside.input; running = c.self.inside.recorded.running; schedule = c.self.inside.recorded.schedule; memory = c.self.inside.memory; purged = c.self.inside.purged }

abbrev left : (g : Over) (c : goal.After-coherent g) → SpaceValue g.row.S.Denot
left g c = record { image = c.self.inside.image; input = c.self.inside.input; running = c.run-steps.new.self.running; schedule = c.run-steps.new.self.schedule; memory = c.settle_caches.new.memory; purged = c.self.inside.purged }

last : (g : Over) (c : goal.After-coherent g) → Left g.S.SwapSlot.content g.S.SwapSlot.honest c.args.hart c.run-steps.result.ran (option_map (λ slice. (slice.ran, slice.stop)) c.run-steps.result.last) (inside g c) (left g c)
last g c =
    let did = c.run-steps.ensures in
    let now = c.coherent.ensures in
    let fits = c.requires.fits in
    let same = ap (λ (s : SpaceValue g.row.S.Denot). room s.schedule c.args.hart) c.self.view_is in
    last_left g.S.SwapSlot.content g.S.SwapSlot.honest c.args.hart c.run-steps.result.ran c.args.most c.run-steps.result.last c.in-Some.slice (inside g c) c.run-steps.new.self c.run-steps.new.memory c.settle_caches.new.memory c.in-Some.is did.short
    (omega (arith, fits, same)) (ap (λ (s : SpaceValue g.row.S.Denot). may_step c.args.hart (shown_process g.S.SwapSlot.content s)) c.self.view_is ∙ c.requires.may) (record { stands = c.self.invariant.space.stands; cached = c.self.invariant.space.cached }) did.runs
    (caches_on c.run-steps.new.memory c.add_harts.new.memory c.settle_caches.new.memory c.add_harts.ensures.memory c.settle_caches.ensures.memory)
    (settled_after c.in-Some.slice.stop c.args.hart c.run-steps.new.memory c.add_harts.new.memory c.settle_caches.new.memory c.add_harts.ensures.caches c.settle_caches.ensures.caches)
    (c.settle_caches.ensures.harts ∙ c.add_harts.ensures.harts ∙ c.started.ensures.count ∙ ap (λ (r : RunningValue). length r.harts) c.running.ensures)
    (record { agree = now.agree; accessed = now.accessed; framed = now.framed; unmarked = now.unmarked; walks = now.walks })

pub invariant_of-self-2 : goal.invariant_of-self-2
invariant_of-self-2 g c =
    decoded_ran g.S.SwapSlot.content g.S.SwapSlot.honest c.self.inside.decoded (inside g c) (left g c) (live_when_may g.S.SwapSlot.content c.args.hart (inside g c) (ap (λ (s : SpaceValue g.row.S.Denot). may_step c.args.hart (shown_process g.S.SwapSlot.content s)) c.self.view_is ∙ c.requires.may))
    (each_keeps g.S.SwapSlot.content g.S.SwapSlot.honest c.args.hart c.run-steps.result.ran (option_map (λ slice. (slice.ran, slice.stop)) c.run-steps.result.last) (inside g c) (left g c) (last g c).each) (last g c).is
    (record { space = record { stands = c.self.invariant.space.stands; cached = c.self.invariant.space.cached }; code = c.self.invariant.code })

pub returns-clause-each : goal.returns-clause-each
returns-clause-each g c =
    subst (λ (s : SpaceValue g.row.S.Denot). StepsEach g.S.SwapSlot.content g.S.SwapSlot.honest c.args.hart c.run-steps.result.ran (option_map (λ slice. (slice.ran, slice.stop)) c.run-steps.result.last) s (left g c)) c.self.view_is (last g c).each
