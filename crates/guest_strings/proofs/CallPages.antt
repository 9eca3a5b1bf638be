-- The page that a call uses, by whether its page has the right.
use Rattle.std.specs.Prelude.{◌≡◌, ℕ, [], ◌∷◌, Result, Ok, Err, is_ok, cond, refl}
use Rattle.std.proofs.Common.{ap, ◌∙◌}
use Rattle.page_memory.specs.declared.fault.MemoryFault.{MemoryFault}
use Rattle.page_memory.specs.declared.words.Access.TheVariants.{Load, Store}
use Rattle.page_memory.specs.Words.{page_number}
use Rattle.page_memory.specs.Pages.{usable}
use Rattle.page_memory.specs.Memory.{Memory, copied_out}
use Rattle.rv_exec.specs.Uses.{page_of_access}
use Rattle.guest_strings.proofs.AccessPages.{copied_where}

allowed : {A : Type 0} (address : ℕ) (found : Result A MemoryFault) → page_of_access address found ≡ cond (is_ok found) (page_number address ∷ []) []
allowed address (Ok x) = refl
allowed address (Err fault) = refl

pub read_where : (memory : Memory) (address : ℕ)
    → page_of_access address (usable memory.pages Store address) ≡ cond (is_ok (usable memory.pages Store address)) (page_number address ∷ []) []
read_where memory address = allowed address (usable memory.pages Store address)

pub write_where : (memory : Memory) (address count : ℕ)
    → page_of_access address (copied_out memory address count) ≡ cond (is_ok (usable memory.pages Load address)) (page_number address ∷ []) []
write_where memory address count =
    allowed address (copied_out memory address count) ∙ ap (λ b. cond b (page_number address ∷ []) []) (copied_where memory address count)
