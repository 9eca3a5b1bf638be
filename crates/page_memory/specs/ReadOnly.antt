-- Pages that may not be written: whatever accesses and calls do, they stay as they are.
use Rattle.std.specs.Prelude.{◌≡◌, ℕ, false, Some}
use Rattle.std.specs.FinMap.{get}
use Rattle.page_memory.specs.declared.words.Access.TheVariants.{Store}
use Rattle.page_memory.specs.Rights.{may}
use Rattle.page_memory.specs.Pages.{Page, Pages}
use Rattle.page_memory.specs.Memory.{Memory}

-- each page that may not be written is in both memories, with the same rights and bytes
abbrev pub KeepsReadOnly : Memory → Memory → Type 0
KeepsReadOnly old new = (number : ℕ) (page : Page) → get old.pages number ≡ Some page → may Store page.rights ≡ false → get new.pages number ≡ Some page
