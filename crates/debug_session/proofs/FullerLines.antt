-- Words that ask for nothing plain, and for nothing that only the fuller dialect has, ask for nothing.
use Rattle.std.proofs.Common.{◌≡◌, ◌∷◌, [], List, ℕ, codes}
use Rattle.text_lines.specs.Calls.{Writes}
use Rattle.debug_session.specs.Lines.{WritesFuller, WritesLine, WritesPair, WritesWord}
use Rattle.debug_session.specs.declared.lines.Dialect.{Dialect}
use Rattle.debug_session.specs.declared.lines.DebugLine.{DebugLine}
use Rattle.debug_session.specs.declared.lines.DebugLine.TheVariants.{Break, Watch, Remove, Step, Go, Regs, Mem, Run, GoHart, End, Live, Quit}

same_head : (name word : List ℕ) → name ∷ [] ≡ word ∷ [] → name ≡ word
same_head name word e = cc

none_longer : (name word first : List ℕ) → name ∷ [] ≡ word ∷ first ∷ [] → ⊥
none_longer name word first e = cc

none_longest : (name word first second : List ℕ) → name ∷ [] ≡ word ∷ first ∷ second ∷ [] → ⊥
none_longest name word first second e = cc

pub none_alone : (dialect : Dialect) (name : List ℕ) → (¬ (name ≡ codes "quit")) → ((asked : DebugLine) → ¬ WritesWord dialect asked name)
    → (asked : DebugLine) → ¬ WritesLine dialect asked (name ∷ [])
none_alone dialect name quit none (Break address) writes = none_longer name _ _ writes.1
none_alone dialect name quit none (Watch address length) writes = none_longest name _ _ _ writes.1.1
none_alone dialect name quit none (Remove number) writes = none_longer name _ _ writes.1
none_alone dialect name quit none (Step hart) writes = none_longer name _ _ writes.1
none_alone dialect name quit none (Go limit) writes = none_longer name _ _ writes.1
none_alone dialect name quit none (Regs hart) writes = none_longer name _ _ writes.1
none_alone dialect name quit none (Mem address length) writes = none_longest name _ _ _ writes.1.1
none_alone dialect name quit none (Run limit) writes = none_longer name _ _ writes.1.1
none_alone dialect name quit none (GoHart hart limit) writes = none_longest name _ _ _ writes.1.1.1
none_alone dialect name quit none End writes = none End (writes.0, same_head name _ writes.1)
none_alone dialect name quit none (Live hart) writes = none_longer name _ _ writes.1.1
none_alone dialect name quit none Quit writes = quit (same_head name _ writes)

same_name : (name first word other : List ℕ) → name ∷ first ∷ [] ≡ word ∷ other ∷ [] → name ≡ word
same_name name first word other e = cc

same_word : (name first word other : List ℕ) → name ∷ first ∷ [] ≡ word ∷ other ∷ [] → first ≡ other
same_word name first word other e = cc

none_more : (name first word one two : List ℕ) → name ∷ first ∷ [] ≡ word ∷ one ∷ two ∷ [] → ⊥
none_more name first word one two e = cc

none_fewer : (name first word : List ℕ) → name ∷ first ∷ [] ≡ word ∷ [] → ⊥
none_fewer name first word e = cc

same_number : (first word : List ℕ) (number told : ℕ) → first ≡ word → Writes first number → Writes word told → told ≡ number
same_number first word number told same is writes = cc

pub none_of_one : (dialect : Dialect) (name first : List ℕ) (number : ℕ) → Writes first number → (¬ (name ≡ codes "break")) → (¬ (name ≡ codes "remove"))
    → (¬ (name ≡ codes "step")) → (¬ (name ≡ codes "go")) → (¬ (name ≡ codes "regs")) → ((asked : DebugLine) → ¬ WritesFuller dialect asked name number)
    → (asked : DebugLine) → ¬ WritesLine dialect asked (name ∷ first ∷ [])
none_of_one dialect name first number is break remove step go regs none (Break address) writes = break (same_name name first _ _ writes.1)
none_of_one dialect name first number is break remove step go regs none (Watch address length) writes = none_more name first _ _ _ writes.1.1
none_of_one dialect name first number is break remove step go regs none (Remove point) writes = remove (same_name name first _ _ writes.1)
none_of_one dialect name first number is break remove step go regs none (Step hart) writes = step (same_name name first _ _ writes.1)
none_of_one dialect name first number is break remove step go regs none (Go limit) writes = go (same_name name first _ _ writes.1)
none_of_one dialect name first number is break remove step go regs none (Regs hart) writes = regs (same_name name first _ _ writes.1)
none_of_one dialect name first number is break remove step go regs none (Mem address length) writes = none_more name first _ _ _ writes.1.1
none_of_one dialect name first number is break remove step go regs none (Run limit) writes =
    none (Run limit) (writes.0, same_name name first _ _ writes.1.1, same_number first _ number limit (same_word name first _ _ writes.1.1) is writes.1.2)
none_of_one dialect name first number is break remove step go regs none (GoHart hart limit) writes = none_more name first _ _ _ writes.1.1.1
none_of_one dialect name first number is break remove step go regs none End writes = none_fewer name first _ writes.1
none_of_one dialect name first number is break remove step go regs none (Live hart) writes =
    none (Live hart) (writes.0, same_name name first _ _ writes.1.1, same_number first _ number hart (same_word name first _ _ writes.1.1) is writes.1.2)
none_of_one dialect name first number is break remove step go regs none Quit writes = none_fewer name first _ writes

too_many : (name first second word other : List ℕ) → name ∷ first ∷ second ∷ [] ≡ word ∷ other ∷ [] → ⊥
too_many name first second word other e = cc

none_single : (name first second word : List ℕ) → name ∷ first ∷ second ∷ [] ≡ word ∷ [] → ⊥
none_single name first second word e = cc

named : (name first second word one two : List ℕ) → name ∷ first ∷ second ∷ [] ≡ word ∷ one ∷ two ∷ [] → name ≡ word
named name first second word one two e = cc

first_same : (name first second word one two : List ℕ) → name ∷ first ∷ second ∷ [] ≡ word ∷ one ∷ two ∷ [] → first ≡ one
first_same name first second word one two e = cc

second_same : (name first second word one two : List ℕ) → name ∷ first ∷ second ∷ [] ≡ word ∷ one ∷ two ∷ [] → second ≡ two
second_same name first second word one two e = cc

pub none_of_two : (dialect : Dialect) (name first second : List ℕ) (one two : ℕ) → Writes first one → Writes second two → (¬ (name ≡ codes "watch")) → (¬ (name ≡ codes "mem"))
    → ((asked : DebugLine) → ¬ WritesPair dialect asked name one two) → (asked : DebugLine) → ¬ WritesLine dialect asked (name ∷ first ∷ second ∷ [])
none_of_two dialect name first second one two is too watch mem none (Break address) writes = too_many name first second _ _ writes.1
none_of_two dialect name first second one two is too watch mem none (Watch address length) writes = watch (named name first second _ _ _ writes.1.1)
none_of_two dialect name first second one two is too watch mem none (Remove number) writes = too_many name first second _ _ writes.1
none_of_two dialect name first second one two is too watch mem none (Step hart) writes = too_many name first second _ _ writes.1
none_of_two dialect name first second one two is too watch mem none (Go limit) writes = too_many name first second _ _ writes.1
none_of_two dialect name first second one two is too watch mem none (Regs hart) writes = too_many name first second _ _ writes.1
none_of_two dialect name first second one two is too watch mem none (Mem address length) writes = mem (named name first second _ _ _ writes.1.1)
none_of_two dialect name first second one two is too watch mem none (Run limit) writes = too_many name first second _ _ writes.1.1
none_of_two dialect name first second one two is too watch mem none (GoHart hart limit) writes =
    none (GoHart hart limit) (
      writes.0,
      named name first second _ _ _ writes.1.1.1,
      same_number first _ one hart (first_same name first second _ _ _ writes.1.1.1) is writes.1.1.2,
      same_number second _ two limit (second_same name first second _ _ _ writes.1.1.1) too writes.1.1.3,
    )
none_of_two dialect name first second one two is too watch mem none End writes = none_single name first second _ writes.1
none_of_two dialect name first second one two is too watch mem none (Live hart) writes = too_many name first second _ _ writes.1.1
none_of_two dialect name first second one two is too watch mem none Quit writes = none_single name first second _ writes
