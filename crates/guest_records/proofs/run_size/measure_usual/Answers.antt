use Rattle.std.proofs.Common.{ap, ◌∙◌, subst, sym}
use Rattle.flat_machine.specs.ByTurns.{first_turn}
use Rattle.flat_machine.specs.Process.{opening}
use Rattle.guest_records.specs.GoingOn.{EndsAfter}
use Rattle.guest_records.proofs.Going.{ends_by_turns}
use Rattle.guest_records.proofs.run_size.measure_usual.Goals as goal

pub returns-in-Ok-clause-ended : goal.returns-in-Ok-clause-ended
returns-in-Ok-clause-ended c =
    let image = c.args.image.now in
    let begins = c.in_ok-process.ensures ∙ ap (opening image) c.in_ok-input.ensures.items in
    let ran = c.in-Ok.ensures.ran in
    λ its. subst (λ n. EndsAfter n (opening image c.args.input.now)) (sym c.size_after.ensures.steps)
    (ends_by_turns c.in-Ok.steps (first_turn c.in_ok-process.process) ran.0 c.in_ok-process.process (opening image c.args.input.now) c.run_for.new.self begins ran.1 (c.size_after.ensures.ended its))
