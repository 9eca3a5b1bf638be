use Rattle.std.proofs.Common.{List, true, inr, subst}
use Rattle.flat_machine.specs.declared.schedule.Turn.{Turn}
use Rattle.run_paths.specs.Paths.{path_of}
use Rattle.run_paths.specs.declared.program.Program.{Program}
use Rattle.guest_history.specs.Histories.{Begins, RefusesTurns}
use Rattle.guest_cli.proofs.Begun.{begun_so, refused_so}
use Rattle.guest_cli.proofs.debug_command.history_as_told.Goals as goal

pub returns-clause-begins : goal.returns-clause-begins
returns-clause-begins g c =
    let program : Program = record { image = c.in_ok-image.image; input = c.in_ok-input.input } in
    begun_so c.recorded.result c.begun.result (λ begun begins. record {
      program = program;
      image_given = c.in_ok-image.ensures.image;
      input_given = c.in_ok-input.ensures.given;
      after = c.in_ok-check_record.ensures.replays.0;
      replays = c.in_ok-check_record.ensures.replays.1;
      begins = subst (λ (turns : List Turn). Begins program (path_of turns) true begun) c.as_slice-turns.ensures.value begins;
    }) c.recorded.ensures.begins c.begun.ensures.begun

pub returns-clause-refused : goal.returns-clause-refused
returns-clause-refused g c =
    refused_so c.args.image_name.now c.recorded.result c.begun.result (λ fault refuses why wrong.
    inr (
      c.in_ok-image.image,
      (
        c.in_ok-image.ensures.image,
        inr (
          c.in_ok-input.input.items,
          (
            c.in_ok-input.ensures.given,
            inr (record {
              after = c.in_ok-check_record.ensures.replays.0;
              replays = c.in_ok-check_record.ensures.replays.1;
              refused = fault;
              refuses = subst (λ (turns : List Turn). RefusesTurns turns fault) c.as_slice-turns.ensures.value refuses;
              wrong = wrong;
            }),
          ),
        ),
      ),
    ))
    c.recorded.ensures.refused c.begun.ensures.refused c.begun.ensures.ended
