use Rattle.guest_cli.proofs.trace_command.run_trace.Goals as goal

-- the steps that were told are those that the named image begins with
pub returns-clause-traced : goal.returns-clause-traced
returns-clause-traced g c =
    let begun = c.in_ok-steps.ensures in
    record {
      image = begun.image;
      image_given = begun.image_given;
      input = begun.input;
      input_whole = begun.input_whole;
      begun = c.in_ok-steps.steps;
      is_begun = begun.begun;
      last = c.write_steps.new.steps;
      traced = c.in_ok-write_steps.ensures;
    }
