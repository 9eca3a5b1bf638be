-- When parts make an image.
use Rattle.std.specs.Prelude.{ℕ, ◌≡◌, ◌+◌, ◌<◌, ◌≤◌, Bool, true, false, cond, not, List, [], ◌∷◌, length, slice_index_or, Option, Some, None, refl}
use Rattle.std.proofs.Common.{sym, ap, arith, le-ltb, ltb-false}
use Rattle.std.proofs.lemmas.Bool.{false≢true, not-false}
use Rattle.page_memory.specs.MemoryMap.{most_image_pages, most_image_regions}
use Rattle.elf_image.specs.declared.image.ImagePage.{ImagePage}
use Rattle.elf_image.specs.declared.fault.ElfFault.{ElfFault}
use Rattle.elf_image.specs.Parts.{too_high, rising, entered, parts_fault}
use Rattle.elf_image.specs.Regions.{regions}
use Rattle.elf_image.proofs.RisingLaws.{rises, spread, distinct_none}

-- parts of which no refusal holds
pub record Pass (entry : ℕ) (pages : List ImagePage) : Type 0 where
  pub low : too_high pages ≡ false
  pub up : rising pages ≡ true
  pub few : length pages ≤ most_image_pages
  pub compact : length (regions pages) ≤ most_image_regions
  pub start : entered entry pages ≡ true

-- there is no fault where a test fails and there is none behind it, ..
pub no_fault_after : (test : Bool) (fault : ElfFault) (rest : Option ElfFault) → test ≡ false → rest ≡ None → cond test (Some fault) rest ≡ None
no_fault_after true fault rest e h = absurd (false≢true (sym e))
no_fault_after false fault rest e h = h

-- .. and only there
parts_of_no_fault : (test : Bool) (fault : ElfFault) (rest : Option ElfFault) → cond test (Some fault) rest ≡ None → (test ≡ false) × (rest ≡ None)
parts_of_no_fault true fault rest e = cc
parts_of_no_fault false fault rest e = (refl, e)

pub pass_from_no_fault : (entry : ℕ) (pages : List ImagePage) → parts_fault entry pages ≡ None → Pass entry pages
unfolding parts_fault
pass_from_no_fault entry pages none =
    let range = parts_of_no_fault _ _ _ none in
    let overlap = parts_of_no_fault _ _ _ range.1 in
    let large = parts_of_no_fault _ _ _ overlap.1 in
    let sparse = parts_of_no_fault _ _ _ large.1 in
    let start = parts_of_no_fault _ _ _ sparse.1 in
    record { low = range.0; up = not-false _ overlap.0; few = ltb-false 4032 _ large.0; compact = ltb-false 56 _ sparse.0; start = not-false _ start.0 }

pub no_fault_from_pass : (entry : ℕ) (pages : List ImagePage) → Pass entry pages → parts_fault entry pages ≡ None
unfolding parts_fault
no_fault_from_pass entry pages pass = no_fault_after _ _ _ pass.low (no_fault_after _ _ _ (ap not pass.up) (no_fault_after _ _ _ (le-ltb 4032 _ pass.few) (no_fault_after _ _ _ (le-ltb 56 _ pass.compact) (no_fault_after _ _ _ (ap not pass.start) refl))))

-- pages one behind the other from a number on rise, and lie in few regions where none lies at or above the 57344th
pub neighbours : (first : ℕ) (pages : List ImagePage) → first + length pages ≤ 57344 → ((i : ℕ) (d : ImagePage) → i < length pages → (slice_index_or pages i d).number ≡ first + i) → (rising pages ≡ true) × (length (regions pages) ≤ 56)
neighbours first pages within numbers = (up pages numbers, near pages within numbers)
  where
    up : (pages : List ImagePage) → ((i : ℕ) (d : ImagePage) → i < length pages → (slice_index_or pages i d).number ≡ first + i) → rising pages ≡ true
    up pages numbers = rises pages (λ k m d e l. let a = numbers k d (omega arith) in let b = numbers m d l in omega arith)

    near : (pages : List ImagePage) → first + length pages ≤ 57344 → ((i : ℕ) (d : ImagePage) → i < length pages → (slice_index_or pages i d).number ≡ first + i) → length (regions pages) ≤ 56
    near [] within numbers = omega (arith, distinct_none)
    near (one ∷ rest) within numbers =
        let wide = spread one rest 55 (up (one ∷ rest) numbers) (λ k d l. let a = numbers k d l in omega arith) in
        omega arith
