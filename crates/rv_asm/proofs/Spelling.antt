-- One more word at the end of a text.
use Rattle.std.proofs.Common.{◌≡◌, ℕ, List, [], ◌∷◌, ◌++◌, map, length, Option, refl, sym, ap, ◌∙◌, subst, arith}
use Rattle.std.proofs.lemmas.List.{map_push}
use Rattle.rv_isa.specs.declared.instruction.Insn.{Insn}
use Rattle.rv_asm.specs.declared.word.TextWord.{TextWord}
use Rattle.rv_asm.specs.declared.word.TextWord.TheVariants.{Instruction, Plain}
use Rattle.rv_asm.specs.Words.{StandsForWord, instruction_of, Spell, word_from, words_from, AreWords}

pub spell_push : (numbers : List ℕ) (words : List TextWord) (number : ℕ) (word : TextWord) → Spell numbers words → StandsForWord number word → Spell (numbers ++ number ∷ []) (words ++ word ∷ [])
unfolding Spell
spell_push [] [] number word s t = (t, tt)
spell_push [] (w ∷ words) number word s t = absurd s
spell_push (n ∷ numbers) [] number word s t = absurd s
spell_push (n ∷ numbers) (w ∷ words) number word s t = (s.0, spell_push numbers words number word s.1 t)

pub spell_length : (numbers : List ℕ) (words : List TextWord) → Spell numbers words → length numbers ≡ length words
unfolding Spell
spell_length [] [] s = refl
spell_length [] (w ∷ words) s = absurd s
spell_length (n ∷ numbers) [] s = absurd s
spell_length (n ∷ numbers) (w ∷ words) s = omega (arith, spell_length numbers words s.1)

from_word : (number : ℕ) (word : TextWord) → StandsForWord number word → word_from number (instruction_of word) ≡ word
from_word number (Instruction insn) s = refl
from_word number (Plain other) s = ap Plain s

-- the words of two lists that are a text's
pub words_back : (numbers : List ℕ) (words : List TextWord) → Spell numbers words → words_from numbers (map instruction_of words) ≡ words
unfolding Spell words_from
words_back [] [] s = refl
words_back [] (w ∷ words) s = absurd s
words_back (n ∷ numbers) [] s = absurd s
words_back (n ∷ numbers) (w ∷ words) s = λ i. from_word n w s.0 i ∷ words_back numbers words s.1 i

pub words_more : (numbers more : List ℕ) (insns others : List (Option Insn)) (number : ℕ) (insn : Option Insn) (word : TextWord) → AreWords numbers insns → StandsForWord number word → insn ≡ instruction_of word → more ≡ numbers ++ number ∷ [] → others ≡ insns ++ insn ∷ [] → words_from more others ≡ words_from numbers insns ++ word ∷ []
words_more numbers more insns others number insn word are stands is n e =
    let all : Spell (numbers ++ number ∷ []) (words_from numbers insns ++ word ∷ []) = spell_push numbers (words_from numbers insns) number word are.spell stands in
    let list : others ≡ map instruction_of (words_from numbers insns ++ word ∷ []) = e ∙ (λ i. are.instructions i ++ is i ∷ []) ∙ sym (map_push instruction_of (words_from numbers insns) word) in
    (λ i. words_from (n i) (list i)) ∙ words_back (numbers ++ number ∷ []) (words_from numbers insns ++ word ∷ []) all

pub are_more : (numbers more : List ℕ) (insns others : List (Option Insn)) (number : ℕ) (insn : Option Insn) (word : TextWord) → AreWords numbers insns → StandsForWord number word → insn ≡ instruction_of word → more ≡ numbers ++ number ∷ [] → others ≡ insns ++ insn ∷ [] → AreWords more others
are_more numbers more insns others number insn word are stands is n e =
    let from = words_more numbers more insns others number insn word are stands is n e in
    record {
      spell = subst (λ w. Spell more w) (sym from) (subst (λ l. Spell l (words_from numbers insns ++ word ∷ [])) (sym n) (spell_push numbers (words_from numbers insns) number word are.spell stands));
      instructions = e ∙ (λ i. are.instructions i ++ is i ∷ []) ∙ sym (map_push instruction_of (words_from numbers insns) word) ∙ ap (map instruction_of) (sym from);
    }

pub are_none : (numbers : List ℕ) (insns : List (Option Insn)) → numbers ≡ [] → insns ≡ [] → AreWords numbers insns
unfolding Spell words_from
are_none [] [] n e = record { spell = tt; instructions = refl }
are_none (number ∷ numbers) insns n e = cc
are_none [] (insn ∷ insns) n e = cc

pub no_words_from : (numbers : List ℕ) (insns : List (Option Insn)) → numbers ≡ [] → words_from numbers insns ≡ []
unfolding words_from
no_words_from [] insns n = refl
no_words_from (number ∷ numbers) insns n = cc
