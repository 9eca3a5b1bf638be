use Rattle.guest_cli.proofs.run_command.run_run.Goals as goal

pub returns : goal.returns
returns g c = record {
  image = c.in_ok-image.image;
  image_given = record {
    file = c.in_ok-file.file.items;
    given = rw (← c.as_slice.ensures.value) c.in_ok-file.ensures.given;
    holds = c.in_ok-image.ensures.image;
  };
  input = c.in_ok-input.input.items;
  input_whole = c.in_ok-input.ensures.whole;
  end = c.in_ok-end.end;
  steps = c.in_ok-end.steps;
  ran = c.in_ok-end.ensures;
  status_is = c.status_of.ensures;
}
