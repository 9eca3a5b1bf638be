-- The lines that are written to a debugger that goes back, and what each asks for.
use Rattle.std.specs.Prelude.{◌≡◌, ◌⊎◌, ℕ, List, [], ◌∷◌, codes}
use Rattle.text_lines.specs.Text.{words_of}
use Rattle.text_lines.specs.Calls.{AreNameAndNumber, Writes}
use Rattle.debug_session.specs.Lines.{AsksFor}
use Rattle.debug_session.specs.declared.lines.Dialect.TheVariants.{Fuller}
use Rattle.guest_history.specs.declared.lines.HistoryLine.{HistoryLine}
use Rattle.guest_history.specs.declared.lines.HistoryLine.TheVariants.{Back, BackGo, BackGoWithin, At, Plain}

-- the words that ask for what other debuggers don't have; `back` without a number is one step
abbrev pub WritesOwn : HistoryLine → List (List ℕ) → Type 0
WritesOwn (Back count) words = ((words ≡ codes "back" ∷ []) × (count ≡ 1)) ⊎ AreNameAndNumber (codes "back") count words
WritesOwn BackGo words = words ≡ codes "back-go" ∷ []
WritesOwn (BackGoWithin count) words = AreNameAndNumber (codes "back-go") count words
WritesOwn At words = words ≡ codes "at" ∷ []
WritesOwn (Plain asked) words = ⊥

-- the same of one word
abbrev pub WritesOne : HistoryLine → List ℕ → Type 0
WritesOne (Back count) word = (word ≡ codes "back") × (count ≡ 1)
WritesOne BackGo word = word ≡ codes "back-go"
WritesOne (BackGoWithin count) word = ⊥
WritesOne At word = word ≡ codes "at"
WritesOne (Plain asked) word = ⊥

-- the same of a word and a number
abbrev pub WritesTwo : HistoryLine → List ℕ → List ℕ → Type 0
WritesTwo (Back count) name word = (name ≡ codes "back") × Writes word count
WritesTwo BackGo name word = ⊥
WritesTwo (BackGoWithin count) name word = (name ≡ codes "back-go") × Writes word count
WritesTwo At name word = ⊥
WritesTwo (Plain asked) name word = ⊥

-- a line that asks for this: for going back, or for what any debugger does
abbrev pub AsksOf : HistoryLine → List ℕ → Type 0
AsksOf (Back count) line = WritesOwn (Back count) (words_of line)
AsksOf BackGo line = WritesOwn BackGo (words_of line)
AsksOf (BackGoWithin count) line = WritesOwn (BackGoWithin count) (words_of line)
AsksOf At line = WritesOwn At (words_of line)
AsksOf (Plain asked) line = AsksFor Fuller asked line
