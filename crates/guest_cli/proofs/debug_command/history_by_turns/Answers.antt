use Rattle.guest_cli.proofs.Begun.{begun_so}
use Rattle.guest_cli.proofs.debug_command.history_by_turns.Goals as goal

pub returns-clause-begins : goal.returns-clause-begins
returns-clause-begins g c = begun_so c.new.result c.begun.result (λ begun begins. record {
  program = record { image = c.in_ok-image.image; input = c.in_ok-input.input };
  image_given = c.in_ok-image.ensures.image;
  input_given = c.in_ok-input.ensures.given;
  begins = begins;
}) c.new.ensures.begins c.begun.ensures.begun
