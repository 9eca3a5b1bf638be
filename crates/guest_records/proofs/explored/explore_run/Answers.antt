use Rattle.std.proofs.Common.{◌∙◌}
use Rattle.flat_machine.specs.Process.{opening}
use Rattle.run_records.specs.Records.{RecordValue}
use Rattle.guest_records.proofs.Going.{ends_within, replays_from}
use Rattle.guest_records.proofs.explored.explore_run.Goals as goal

pub returns-clause-replays : goal.returns-clause-replays
returns-clause-replays c =
    let told : RecordValue = record { image = c.args.file; input = c.take_fingerprint-input_print.result; turns = c.in_ok-kept.kept.items; closing = c.closing.result } in
    let after = c.run_chosen.new.process in
    let steps = c.in_ok-ran.ran.steps in
    let turns = c.in_ok-kept.ensures.items ∙ c.turns.ensures.turns in (
      after,
      (
        replays_from told c.in_ok-schedule.schedule c.run_chosen.new.schedule c.in_ok-process.process (opening c.args.image.now c.args.input.items) after steps
            c.in_ok-process.ensures c.in_ok-schedule.ensures c.in_ok-ran.ensures.ran turns c.closing.ensures.steps c.closing.ensures.ended c.closing.ensures.output,
        ends_within c.args.limit told c.run_chosen.new.schedule after steps c.in_ok-ran.ran.cause c.in_ok-ran.ensures.within c.in_ok-ran.ensures.stops turns c.closing.ensures.steps c.closing.ensures.own c.closing.ensures.killed,
      ),
    )
