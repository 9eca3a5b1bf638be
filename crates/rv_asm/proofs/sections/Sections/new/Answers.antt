use Rattle.rv_asm.proofs.Spelling.{are_none, no_words_from}
use Rattle.rv_asm.proofs.sections.Sections.new.Goals as goal

pub invariant_of-result : goal.invariant_of-result
invariant_of-result c = are_none _ _ c.new.ensures.items c.new-2.ensures.items

pub returns : goal.returns
returns c = λ i. record { text = no_words_from c.new.result.items c.new-2.result.items c.new.ensures.items i; bytes = c.new-3.ensures.items i }
