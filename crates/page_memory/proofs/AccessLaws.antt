-- What an access to memory answers, case by case.
use Rattle.std.proofs.Common.{◌≡◌, ◌≢◌, ℕ, ◌%◌, true, false, List, Some, None, option_and_then, Result, Ok, Err, ap, ◌∙◌, sym, eq-eqb, ne_eqb}
use Rattle.page_memory.specs.Entries.{place_of, value_at, with_value}
use Rattle.page_memory.proofs.EntriesLaws.{value_by_place, replaced_value}
use Rattle.std.specs.Ordering.{nat_cmp}
use Rattle.std.specs.FinMap.{get, from_entries}
use Rattle.byteorder.specs.Endian.{little_bytes}
use Rattle.page_memory.specs.declared.words.Access.{Access}
use Rattle.page_memory.specs.declared.words.Access.TheVariants.{Store}
use Rattle.page_memory.specs.declared.words.Width.{Width}
use Rattle.page_memory.specs.declared.fault.MemoryFault.{MemoryFault}
use Rattle.page_memory.specs.declared.fault.MemoryFault.TheVariants.{Misaligned, PageFault}
use Rattle.page_memory.specs.Words.{page_number, page_offset, bytes_in}
use Rattle.page_memory.specs.Rights.{may}
use Rattle.page_memory.specs.Pages.{Page, Pages, usable, aligned_page, stored, copied_in, memory_with, overwritten, with_right, page_if, if_aligned, answer_by}

pub usable_found : (memory : Pages) (access : Access) (address : ℕ) (page : Page) → get memory (page_number address) ≡ Some page → may access page.rights ≡ true → usable memory access address ≡ Ok page
unfolding usable
usable_found memory access address page found allowed = ap (with_right access) found ∙ ap (λ b. page_if b page) allowed

pub aligned_usable : (memory : Pages) (access : Access) (width address : ℕ) (answer : Result Page _) → address % width ≡ 0 → usable memory access address ≡ answer → aligned_page memory access width address ≡ answer
unfolding aligned_page
aligned_usable memory access width address answer aligned is = ap (λ b. if_aligned b (usable memory access address)) (eq-eqb (address % width) 0 aligned) ∙ is

pub stored_misaligned : (memory : Pages) (width : Width) (address word : ℕ) → address % bytes_in width ≢ 0 → stored memory width address word ≡ Err Misaligned
unfolding stored aligned_page
stored_misaligned memory width address word odd = ap (λ b. answer_by (memory_with memory address (little_bytes (bytes_in width) word)) (if_aligned b (usable memory Store address))) (ne_eqb (address % bytes_in width) 0 odd)

pub stored_done : (memory : Pages) (width : Width) (address word : ℕ) (page : Page) → address % bytes_in width ≡ 0 → get memory (page_number address) ≡ Some page → may Store page.rights ≡ true → stored memory width address word ≡ Ok (memory_with memory address (little_bytes (bytes_in width) word) page)
unfolding stored
stored_done memory width address word page aligned found allowed = ap (answer_by (memory_with memory address (little_bytes (bytes_in width) word))) (aligned_usable memory Store (bytes_in width) address _ aligned (usable_found memory Store address page found allowed))

pub copied_done : (memory : Pages) (address : ℕ) (bytes : List ℕ) (page : Page) → get memory (page_number address) ≡ Some page → may Store page.rights ≡ true → copied_in memory address bytes ≡ Ok (memory_with memory address bytes page)
unfolding copied_in
copied_done memory address bytes page found allowed = ap (answer_by (memory_with memory address bytes)) (usable_found memory Store address page found allowed)

-- what an access by a page's place is
found_at : (entries : List (ℕ × Page)) (number place : ℕ) (page : Page) → place_of number entries ≡ Some place → value_at place entries ≡ Some page → get (from_entries {R = nat_cmp} entries) number ≡ Some page
found_at entries number place page at is = value_by_place entries number ∙ ap (option_and_then (λ k. value_at k entries)) at ∙ is

pub stored_at : (entries : List (ℕ × Page)) (width : Width) (address word place : ℕ) (page : Page) → address % bytes_in width ≡ 0 → place_of (page_number address) entries ≡ Some place → value_at place entries ≡ Some page → may Store page.rights ≡ true → stored (from_entries entries) width address word ≡ Ok (from_entries (with_value entries place (record page { bytes = overwritten page.bytes (page_offset address) (little_bytes (bytes_in width) word) })))
stored_at entries width address word place page aligned at is allowed =
    stored_done (from_entries entries) width address word page aligned (found_at entries (page_number address) place page at is) allowed
    ∙ ap Ok (sym (replaced_value entries (page_number address) place _ at))

pub copied_at : (entries : List (ℕ × Page)) (address : ℕ) (bytes : List ℕ) (place : ℕ) (page : Page) → place_of (page_number address) entries ≡ Some place → value_at place entries ≡ Some page → may Store page.rights ≡ true → copied_in (from_entries entries) address bytes ≡ Ok (from_entries (with_value entries place (record page { bytes = overwritten page.bytes (page_offset address) bytes })))
copied_at entries address bytes place page at is allowed =
    copied_done (from_entries entries) address bytes page (found_at entries (page_number address) place page at is) allowed
    ∙ ap Ok (sym (replaced_value entries (page_number address) place _ at))

-- a fault in the answer of an access to its page
pub not_stored_at : (memory : Pages) (width : Width) (address word : ℕ) (fault : MemoryFault) → address % bytes_in width ≡ 0 → with_right Store (get memory (page_number address)) ≡ Err fault → stored memory width address word ≡ Err fault
unfolding stored usable
not_stored_at memory width address word fault aligned is = ap (answer_by (memory_with memory address (little_bytes (bytes_in width) word))) (aligned_usable memory Store (bytes_in width) address _ aligned is)

pub not_copied : (memory : Pages) (address : ℕ) (bytes : List ℕ) (fault : MemoryFault) → with_right Store (get memory (page_number address)) ≡ Err fault → copied_in memory address bytes ≡ Err fault
unfolding copied_in usable
not_copied memory address bytes fault is = ap (answer_by (memory_with memory address bytes)) is

pub ruleset not_stored = (stored_misaligned, not_stored_at)
