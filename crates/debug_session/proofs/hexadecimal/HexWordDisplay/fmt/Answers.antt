use Rattle.std.proofs.Common.{arith, rules}
use Rattle.std.proofs.lemmas.Grind.{common_steps}
use Rattle.debug_session.specs.ReplyText.{word_text}
use Rattle.debug_session.proofs.hexadecimal.HexWordDisplay.fmt.Goals as goal

pub returns-clause-writes : goal.returns-clause-writes
unfolding word_text
returns-clause-writes g c = first_of (search rules, grind (arith, common_steps))
