use Rattle.std.proofs.Common.{◌∙◌, ap, ◌++◌, ◌∷◌, []}
use Rattle.rv_asm.specs.SecondPass.{Sections}
use Rattle.rv_asm.proofs.Spelling.{are_more, words_more}
use Rattle.rv_asm.proofs.sections.Sections.with_word.Goals as goal

pub invariant_of-self : goal.invariant_of-self
invariant_of-self c = are_more _ _ _ _ _ _ c.args.word c.self.invariant c.number.ensures c.instruction.ensures c.in_ok-push.ensures.items c.in_ok-push-2.ensures.items

pub returns : goal.returns
returns c = λ i. record {
  text = (words_more _ _ _ _ _ _ c.args.word c.self.invariant c.number.ensures c.instruction.ensures c.in_ok-push.ensures.items c.in_ok-push-2.ensures.items ∙ ap (λ (s : Sections). s.text ++ c.args.word ∷ []) c.self.view_is) i;
  bytes = ap (λ (s : Sections). s.bytes) c.self.view_is i;
}
