-- Instructions one after another.
use Rattle.std.specs.Prelude.{◌≡◌, ℕ, zero, suc, All}
use Rattle.page_memory.specs.declared.words.Access.{Access}
use Rattle.page_memory.specs.declared.words.Access.TheVariants.{Store}
use Rattle.page_memory.specs.Memory.{Memory}
use Rattle.rv_exec.specs.Registers.{Registers}
use Rattle.rv_exec.specs.Line.{Next, line}
use Rattle.rv_exec.specs.Uses.{pages_used, pages_stored}

-- so many steps of a relation
unfoldable pub Iterates : {A : Type 0} → (A → A → Type 0) → ℕ → A → A → Type 0
Iterates step zero first last = last ≡ first
Iterates {A} step (suc n) first last = (between : A) × (Iterates step n first between × step between last)

-- a page is at hand for accesses of some kind
abbrev pub IsServed : {B : Type 0} → (B → Access → ℕ → Type 0) → B → ℕ → Type 0
IsServed serves memory page = (access : Access) × serves memory access page

-- the next instruction neither calls nor traps, whatever hart it is of, and leaves these registers and this memory; the pages that it uses
-- were at hand, those that it stores to for stores; and what stays over such accesses has stayed
pub record Steps {B : Type 0} (memory : B → Memory) (serves : B → Access → ℕ → Type 0) (stays : B → B → Type 0) (old new : Registers × B) : Type 0 where
  pub its_line : (hart : ℕ) → line hart old.0 (memory old.1) ≡ Next new.0 (memory new.1)
  pub used : All (IsServed serves old.1) (pages_used old.0 (memory old.1))
  pub stored : All (serves old.1 Store) (pages_stored old.0 (memory old.1))
  pub stayed : stays old.1 new.1
