use Rattle.guest_cli.proofs.profile_command.run_profile.Goals as goal

pub returns : goal.returns
returns g c =
    let begun = c.in_ok-steps.ensures in
    record {
      image = begun.image;
      image_given = begun.image_given;
      input = begun.input;
      input_whole = begun.input_whole;
      begun = c.in_ok-steps.steps;
      is_begun = begun.begun;
      profile = c.in_ok-counted.counted.profile;
      end = c.in_ok-counted.counted.end;
      done = c.in_ok-counted.counted.steps;
      counted = c.in_ok-counted.ensures;
      status_is = c.status_of.ensures;
    }
