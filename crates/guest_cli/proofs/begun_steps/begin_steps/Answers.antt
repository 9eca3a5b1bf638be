use Rattle.std.proofs.Common.{ap, ◌∙◌}
use Rattle.flat_machine.specs.ByTurns.{first_turn}
use Rattle.guest_cli.proofs.begun_steps.begin_steps.Goals as goal

pub returns : goal.returns
returns g c = record {
  image = c.in_ok-program.program;
  image_given = c.in_ok-program.ensures.image;
  input = c.in_ok-input.input.items;
  input_whole = c.in_ok-input.ensures.whole;
  begun = record {
    process = c.new-2.ensures.process ∙ c.in_ok-process.ensures;
    turn = c.new-2.ensures.turn ∙ ap first_turn c.in_ok-process.ensures;
    most = c.new-2.ensures.limit;
    none = c.new-2.ensures.none;
  };
  file_given = c.in_ok-file.ensures.bytes;
}
