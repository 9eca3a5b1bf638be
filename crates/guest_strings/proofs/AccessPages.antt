-- The page of an access, by whether its page has the right.
use Rattle.std.specs.Prelude.{◌≡◌, ℕ, ◌-◌, ◌%◌, ◌==◌, Bool, true, false, [], ◌∷◌, Result, Ok, Err, is_ok, cond, refl}
use Rattle.std.proofs.Common.{arith, ap, ◌∙◌, eq-eqb}
use Rattle.page_memory.specs.declared.fault.MemoryFault.{MemoryFault}
use Rattle.page_memory.specs.declared.words.Access.{Access}
use Rattle.page_memory.specs.declared.words.Access.TheVariants.{Load, Store}
use Rattle.page_memory.specs.Words.{page_number, bytes_in}
use Rattle.page_memory.specs.Pages.{Page, answer_by, if_aligned, usable, aligned_page, number_at}
use Rattle.page_memory.specs.Pages as plain
use Rattle.page_memory.specs.Memory.{Memory, stored, replaced, copied_out}
use Rattle.rv_isa.specs.declared.kinds.LoadKind.{LoadKind}
use Rattle.rv_isa.specs.declared.kinds.StoreKind.{StoreKind}
use Rattle.rv_isa.specs.declared.kinds.AmoKind.{AmoKind}
use Rattle.rv_exec.specs.Amo.{amo_result}
use Rattle.rv_exec.specs.Access.{load_width, store_width}
use Rattle.rv_exec.specs.Uses.{page_of_access, load_pages, store_pages, amo_pages}
use Rattle.guest_strings.specs.Told.{page_where}

pub ok_by : {A B : Type 0} (f : A → B) (found : Result A MemoryFault) → is_ok (answer_by f found) ≡ is_ok found
ok_by f (Ok x) = refl
ok_by f (Err fault) = refl

page_by : {A B : Type 0} (f : A → B) (address : ℕ) (found : Result A MemoryFault) → page_of_access address (answer_by f found) ≡ page_of_access address found
page_by f address (Ok x) = refl
page_by f address (Err fault) = refl

found_where : {A : Type 0} (f : Page → A) (address : ℕ) (aligned : Bool) (found : Result Page MemoryFault)
    → page_of_access address (answer_by f (if_aligned aligned found)) ≡ cond aligned (cond (is_ok found) (page_number address ∷ []) []) []
found_where f address true (Ok page) = refl
found_where f address true (Err fault) = refl
found_where f address false found = refl

access_where : {A : Type 0} (f : Page → A) (memory : Memory) (access : Access) (bytes address : ℕ)
    → page_of_access address (answer_by f (aligned_page memory.pages access bytes address)) ≡ page_where (is_ok (usable memory.pages access address)) bytes address
unfolding aligned_page
access_where f memory access bytes address = found_where f address (address % bytes == 0) (usable memory.pages access address)

pub load_where : (memory : Memory) (kind : LoadKind) (address : ℕ)
    → load_pages memory kind address ≡ page_where (is_ok (usable memory.pages Load address)) (bytes_in (load_width kind)) address
unfolding load_pages plain.loaded
load_where memory kind address = access_where _ memory Load (bytes_in (load_width kind)) address

pub store_where : (memory : Memory) (kind : StoreKind) (address word : ℕ)
    → store_pages memory kind address word ≡ page_where (is_ok (usable memory.pages Store address)) (bytes_in (store_width kind)) address
unfolding store_pages stored plain.stored
store_where memory kind address word =
    page_by _ address (plain.stored memory.pages (store_width kind) address word) ∙ access_where _ memory Store (bytes_in (store_width kind)) address

pub amo_where : (memory : Memory) (kind : AmoKind) (address operand : ℕ)
    → amo_pages memory kind address operand ≡ page_where (is_ok (usable memory.pages Store address)) 4 address
unfolding amo_pages replaced plain.replaced
amo_where memory kind address operand =
    page_by _ address (plain.replaced memory.pages (λ old. amo_result kind old operand) address) ∙ access_where _ memory Store 4 address

pub copied_where : (memory : Memory) (address count : ℕ) → is_ok (copied_out memory address count) ≡ is_ok (usable memory.pages Load address)
unfolding plain.copied_out
copied_where memory address count = ok_by _ (usable memory.pages Load address)

-- the word that an address lies in is aligned, and lies in the same page
usable_at : (memory : Memory) (address place : ℕ) → page_number place ≡ page_number address → usable memory.pages Store place ≡ usable memory.pages Store address
unfolding usable
usable_at memory address place e = rw e refl

aligned_ok : {A : Type 0} (f : Page → A) (memory : Memory) (address : ℕ) → address % 4 ≡ 0
    → is_ok (answer_by f (aligned_page memory.pages Store 4 address)) ≡ is_ok (usable memory.pages Store address)
unfolding aligned_page
aligned_ok f memory address e = rw (eq-eqb (address % 4) 0 e) (ok_by f (usable memory.pages Store address))

pub replaced_where : (memory : Memory) (address : ℕ)
    → is_ok (answer_by (number_at 4 (address - address % 4)) (aligned_page memory.pages Store 4 (address - address % 4))) ≡ is_ok (usable memory.pages Store address)
replaced_where memory address =
    aligned_ok (number_at 4 (address - address % 4)) memory (address - address % 4) (omega arith)
    ∙ ap is_ok (usable_at memory address (address - address % 4) (omega arith))
