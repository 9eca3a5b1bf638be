use Rattle.rv_isa.proofs.SplitLaws.{low_part_fits}
use Rattle.asm_statements.proofs.laws.loaded_word.Goals as goal

pub returns-clause-fits : goal.returns-clause-fits
returns-clause-fits c = low_part_fits
