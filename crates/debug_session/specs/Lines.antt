-- The lines that are written to a debugger, and what each asks for.
use Rattle.std.specs.Prelude.{◌≡◌, ℕ, List, [], ◌∷◌, codes}
use Rattle.text_lines.specs.Text.{words_of}
use Rattle.text_lines.specs.Calls.{AreNameAndNumber, AreNameAndNumbers}
use Rattle.text_lines.specs.Lines.{IsSkipped}
use Rattle.debug_session.specs.declared.lines.DebugLine.{DebugLine}
use Rattle.debug_session.specs.declared.lines.DebugLine.TheVariants.{Break, Watch, Remove, Step, Go, Regs, Mem, Run, GoHart, End, Live, Quit}
use Rattle.debug_session.specs.declared.lines.Dialect.{Dialect}
use Rattle.debug_session.specs.declared.lines.Dialect.TheVariants.{Fuller}

-- the words that ask for something in a dialect: in the plain one there is nothing that asks to run, by turns or only one
-- hart, for the end, or for live harts
abbrev pub WritesLine : Dialect → DebugLine → List (List ℕ) → Type 0
WritesLine dialect (Break address) words = AreNameAndNumber (codes "break") address words
WritesLine dialect (Watch address length) words = AreNameAndNumbers (codes "watch") address length words
WritesLine dialect (Remove number) words = AreNameAndNumber (codes "remove") number words
WritesLine dialect (Step hart) words = AreNameAndNumber (codes "step") hart words
WritesLine dialect (Go limit) words = AreNameAndNumber (codes "go") limit words
WritesLine dialect (Regs hart) words = AreNameAndNumber (codes "regs") hart words
WritesLine dialect (Mem address length) words = AreNameAndNumbers (codes "mem") address length words
WritesLine dialect Quit words = words ≡ codes "quit" ∷ []
WritesLine dialect End words = (dialect ≡ Fuller) × (words ≡ codes "end" ∷ [])
WritesLine dialect (Run limit) words = (dialect ≡ Fuller) × AreNameAndNumber (codes "run") limit words
WritesLine dialect (GoHart hart limit) words = (dialect ≡ Fuller) × AreNameAndNumbers (codes "go-hart") hart limit words
WritesLine dialect (Live hart) words = (dialect ≡ Fuller) × AreNameAndNumber (codes "live") hart words

-- the same of one word that only the fuller dialect has
abbrev pub WritesWord : Dialect → DebugLine → List ℕ → Type 0
WritesWord dialect End word = (dialect ≡ Fuller) × (word ≡ codes "end")
WritesWord dialect other word = ⊥

-- the same of a name with a number after it that only the fuller dialect has
abbrev pub WritesFuller : Dialect → DebugLine → List ℕ → ℕ → Type 0
WritesFuller dialect (Run limit) name number = (dialect ≡ Fuller) × (name ≡ codes "run") × (limit ≡ number)
WritesFuller dialect (Live hart) name number = (dialect ≡ Fuller) × (name ≡ codes "live") × (hart ≡ number)
WritesFuller dialect other name number = ⊥

-- the same of a name with two numbers after it that only the fuller dialect has
abbrev pub WritesPair : Dialect → DebugLine → List ℕ → ℕ → ℕ → Type 0
WritesPair dialect (GoHart hart limit) name first second = (dialect ≡ Fuller) × (name ≡ codes "go-hart") × (hart ≡ first) × (limit ≡ second)
WritesPair dialect other name first second = ⊥

-- a line that is not skipped, and whose words ask for something
abbrev pub AsksFor : Dialect → DebugLine → List ℕ → Type 0
AsksFor dialect asked line = (¬ IsSkipped line) × WritesLine dialect asked (words_of line)
