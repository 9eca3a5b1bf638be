use Rattle.std.proofs.Common.{◌≡◌, ◌<◌, ◌++◌, take, drop, length, ap, ◌∙◌, arith}
use Rattle.std.proofs.lemmas.Grind.{common_steps}
use Rattle.guest_strings.specs.References.{kept, references_at, moved}
use Rattle.guest_strings.specs.Slices.{yields_at, turn_after}
use Rattle.guest_strings.proofs.SliceSteps.{one_told, none_left, no_turn}
use Rattle.guest_strings.proofs.round.Round.step.Goals as goal

pub returns-in_default-clause-done : goal.returns-in_default-clause-done
returns-in_default-clause-done c = λ _.
    no_turn c.args.self.now.accesses c.args.self.now.slice c.args.self.now.left c.args.self.now.turn c.args.self.now.processes.items c.in_default.is

pub returns-then-self-eq0-clause-done : goal.returns-then-self-eq0-clause-done
returns-then-self-eq0-clause-done c = λ _.
    none_left c.args.self.now.accesses c.args.self.now.slice c.args.self.now.left c.args.self.now.turn c.args.self.now.processes.items c.if-self-eq0.true

pub returns-clause-told : goal.returns-clause-told
returns-clause-told c =
    let some : 0 < c.args.self.now.left = let e = c.if-self-eq0.false in omega arith in
    let whole : take c.args.self.now.processes.len (c.step_at.new.processes ++ drop (length c.step_at.new.processes) c.args.self.now.processes.items) ≡ c.step_at.new.processes =
    grind (arith, common_steps, c.step_at.auto.processes, c.as_mut_slice.ensures.value, c.as_mut_slice.ensures.len, c.args.self.now.processes.ok.0) in
    one_told c.args.self.now.accesses c.args.self.now.slice c.args.self.now.left c.args.self.now.turn c.in-Some.turn c.args.self.now.processes.items
    (take c.args.self.now.processes.len (c.step_at.new.processes ++ drop (length c.step_at.new.processes) c.args.self.now.processes.items)) c.in_ok-step.step.yields
    _ c.turn_after-self.result some c.in-Some.is
    (c.in_ok-step.ensures.used ∙ ap (λ ps. kept c.args.self.now.accesses (references_at c.in-Some.turn.place ps)) c.as_mut_slice.ensures.value)
    (c.in_ok-step.ensures.yields ∙ ap (yields_at c.in-Some.turn.place) c.as_mut_slice.ensures.value)
    (whole ∙ c.in_ok-step.ensures.moved ∙ ap (moved c.in-Some.turn.place) c.as_mut_slice.ensures.value)
    (c.turn_after-self.ensures.turn ∙ ap (turn_after c.args.self.now.slice c.in_ok-step.step.yields c.in-Some.turn) c.as_slice.ensures.value)
