use Rattle.rv_isa.proofs.FormatLaws.{agrees_once}
use Rattle.rv_isa.proofs.encoding.encode.Goals as goal

pub returns-clause-only : goal.returns-clause-only
returns-clause-only c word fits agrees = agrees_once word c.word_of.result c.args.insn fits c.word_of.type_inv agrees c.word_of.ensures
