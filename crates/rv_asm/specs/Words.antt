-- The words of a text: what each is as a number, and whose instruction's.
use Rattle.std.specs.Prelude.{◌≡◌, ℕ, List, [], ◌∷◌, map, Option, Some, None}
use Rattle.rv_isa.specs.Table.{Agrees}
use Rattle.rv_isa.specs.declared.instruction.Insn.{Insn}
use Rattle.rv_asm.specs.declared.word.TextWord.{TextWord}
use Rattle.rv_asm.specs.declared.word.TextWord.TheVariants.{Instruction, Plain}

-- a number represents a word: it agrees with the instruction by the instruction table, or is the number itself
abbrev pub StandsForWord : ℕ → TextWord → Type 0
StandsForWord number (Instruction insn) = Agrees number insn
StandsForWord number (Plain other) = number ≡ other

abbrev pub instruction_of : TextWord → Option Insn
instruction_of (Instruction insn) = Some insn
instruction_of (Plain number) = None

-- numbers represent words, each number its own word
unfoldable pub Spell : List ℕ → List TextWord → Type 0
Spell [] [] = Unit {0}
Spell [] (word ∷ words) = ⊥
Spell (number ∷ numbers) [] = ⊥
Spell (number ∷ numbers) (word ∷ words) = StandsForWord number word × Spell numbers words

-- a word from its number and its instruction
abbrev pub word_from : ℕ → Option Insn → TextWord
word_from number (Some insn) = Instruction insn
word_from number None = Plain number

-- words from two lists
unfoldable pub words_from : List ℕ → List (Option Insn) → List TextWord
words_from [] insns = []
words_from (number ∷ numbers) [] = []
words_from (number ∷ numbers) (insn ∷ insns) = word_from number insn ∷ words_from numbers insns

-- what the code keeps of a text: its numbers represent its words, and its instructions are those of the words
pub record AreWords (numbers : List ℕ) (insns : List (Option Insn)) : Type 0 where
  pub spell : Spell numbers (words_from numbers insns)
  pub instructions : insns ≡ map instruction_of (words_from numbers insns)
