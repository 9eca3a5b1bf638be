-- The pages that segments load are those of an image where no fault is left.
use Rattle.std.proofs.Common.{◌≡◌, ◌≢◌, ℕ, ◌+◌, ◌<◌, ◌≤◌, Bool, true, false, not, cond, leb, ltb, List, [], ◌∷◌, length, map, get_or, arith, sym, ap, ◌∙◌, subst, inl, inr, Option, Some, None, Result, Ok, Err}
use Rattle.std.specs.List.{list_any, All, AllPairs, range_with_len}
use Rattle.std.specs.List.Sorted.{IsPermutation, IsNonDecreasingBy, IsStrictlyIncreasing}
use Rattle.std.specs.Result.{result_err, OnOk, IfErr}
use Rattle.std.specs.Option.{option_or}
use Rattle.std.proofs.lemmas.Bool.{false≢true}
use Rattle.std.proofs.lemmas.Bool.Decides.{nat_tests, leb_tells}
use Rattle.std.proofs.lemmas.List.{get_or-map, length-map}
use Rattle.std.proofs.lemmas.List.Sorted.{All-permutation}
use Rattle.std.proofs.lemmas.List.Kept.{IsStrictlyIncreasing-filter}
use Rattle.std.proofs.lemmas.List.Elements.{All-filter, All-weaker}
use Rattle.std.proofs.lemmas.List.Folds.{list_any_none}
use Rattle.std.proofs.lemmas.List.FromFn.{get_or-range_with_len, length-range_with_len}
use Rattle.elf_image.specs.declared.image.ImagePage.{ImagePage}
use Rattle.elf_image.specs.declared.program_header.ProgramHeader.{ProgramHeader}
use Rattle.elf_image.specs.declared.fault.ElfFault.{ElfFault}
use Rattle.elf_image.specs.declared.fault.ElfFault.TheVariants.{Overlap, Range, TooLarge, TooSparse, EntryNotExecutable, NoMemory}
use Rattle.elf_image.specs.ElfFiles.{end_of, touches, loaded_page, loaded_pages, touched_pages, image_page_limit, overlap, share_address, segments, header_fault, program_fault, loading_fault, file_fault, file_pages, file_image, file_entry, loading_tests}
use Rattle.elf_image.specs.Segments.{IsSoundSegment}
use Rattle.elf_image.specs.Parts.{first_fault, too_high, rising, entered, parts_fault, image_of_parts}
use Rattle.elf_image.specs.Regions.{regions}
use Rattle.elf_image.proofs.RisingLaws.{rises}
use Rattle.elf_image.proofs.Overlaps.{overlap_moved, two_overlap}
use Rattle.elf_image.proofs.TouchedRanges.{page_limit_is}
use Rattle.elf_image.proofs.Reading.{sound_segments, pages_moved}

-- touched pages lie below 0x70000000 and rise
pub touched_low : (loaded : List ProgramHeader) → All (λ page. page < 458752) (touched_pages loaded)
unfolding touched_pages
touched_low loaded = All-filter (λ page. list_any (touches page) loaded) (λ page. page < 458752) (range_with_len 0 image_page_limit) (λ k d within. let below : k < image_page_limit = subst (λ n. k < n) (length-range_with_len 0 image_page_limit) within in let at = get_or-range_with_len 0 image_page_limit k d below in omega (arith, page_limit_is))

touched_rise : (loaded : List ProgramHeader) → IsStrictlyIncreasing (touched_pages loaded)
unfolding touched_pages
touched_rise loaded = IsStrictlyIncreasing-filter (λ page. list_any (touches page) loaded) (range_with_len 0 image_page_limit) (λ k within.
    let below : k + 1 < image_page_limit = subst (λ n. k + 1 < n) (length-range_with_len 0 image_page_limit) within in
    let one = get_or-range_with_len 0 image_page_limit k 0 (omega arith) in
    let next = get_or-range_with_len 0 image_page_limit (k + 1) 0 below in
    omega arith)

count_loaded : (file : List ℕ) (loaded : List ProgramHeader) → length (loaded_pages file loaded) ≡ length (touched_pages loaded)
unfolding loaded_pages
count_loaded file loaded = length-map (touched_pages loaded) (loaded_page file loaded)

touched_number : (file : List ℕ) (loaded : List ProgramHeader) (k : ℕ) (d : ImagePage) → k < length (touched_pages loaded) → (get_or (loaded_pages file loaded) k d).number ≡ get_or (touched_pages loaded) k 0
unfolding loaded_pages loaded_page
touched_number file loaded k d within = ap (λ (p : ImagePage). p.number) (get_or-map (loaded_page file loaded) (touched_pages loaded) k 0 d within)

loaded_low : (file : List ℕ) (loaded : List ProgramHeader) → too_high (loaded_pages file loaded) ≡ false
unfolding too_high
loaded_low file loaded =
    list_any_none (λ (listed : ImagePage). leb 458752 listed.number) (loaded_pages file loaded) (λ k d within.
    let below : k < length (touched_pages loaded) = subst (λ n. k < n) (count_loaded file loaded) within in
    under (get_or (loaded_pages file loaded) k d).number (get_or (touched_pages loaded) k 0) (touched_number file loaded k d below) (touched_low loaded k 0 below))
  where
    under : (n m : ℕ) → n ≡ m → m < 458752 → leb 458752 n ≡ false
    under n m e h = grind (arith, nat_tests)

loaded_rise : (file : List ℕ) (loaded : List ProgramHeader) → rising (loaded_pages file loaded) ≡ true
loaded_rise file loaded = rises (loaded_pages file loaded) (λ k m d next within.
    let below : m < length (touched_pages loaded) = subst (λ n. m < n) (count_loaded file loaded) within in
    let one = touched_number file loaded k d (omega arith) in
    let other = touched_number file loaded m d below in
    let up : get_or (touched_pages loaded) k 0 < get_or (touched_pages loaded) (k + 1) 0 = touched_rise loaded k (omega arith) in
    let at : get_or (touched_pages loaded) m 0 ≡ get_or (touched_pages loaded) (k + 1) 0 = ap (λ n. get_or (touched_pages loaded) n 0) next in
    omega arith)

-- pages of segments that don't overlap are refused as parts are
pub loading_by_parts : (file : List ℕ) → overlap (segments file) ≡ false → parts_fault (file_entry file) (file_pages file) ≡ loading_fault file
unfolding parts_fault loading_fault
loading_by_parts file apart =
    (λ i. cond (loaded_low file (segments file) i) (Some Range) (cond (not (loaded_rise file (segments file) i)) (Some Overlap) last))
    ∙ sym (λ i. cond (apart i) (Some Overlap) last)
  where
    last : Option ElfFault
    last = first_fault ((ltb 4032 (length (file_pages file)), TooLarge) ∷ (ltb 56 (length (regions (file_pages file))), TooSparse) ∷ (not (entered (file_entry file) (file_pages file)), EntryNotExecutable) ∷ [])

large_parts : (file : List ℕ) → ltb 4032 (length (file_pages file)) ≡ true → parts_fault (file_entry file) (file_pages file) ≡ Some TooLarge
unfolding parts_fault
large_parts file large = λ i. cond (loaded_low file (segments file) i) (Some Range) (cond (not (loaded_rise file (segments file) i)) (Some Overlap) (cond (large i) (Some TooLarge) last))
  where
    last : Option ElfFault
    last = first_fault ((ltb 56 (length (regions (file_pages file))), TooSparse) ∷ (not (entered (file_entry file) (file_pages file)), EntryNotExecutable) ∷ [])

pub overlap_refused : (file : List ℕ) (loaded : List ProgramHeader) → IsPermutation (segments file) loaded → overlap loaded ≡ true → loading_fault file ≡ Some Overlap
unfolding loading_fault
overlap_refused file loaded moved e = ap (λ b. cond b (Some Overlap) (first_fault (tail (loading_tests file)))) (sym (overlap_moved (segments file) loaded moved) ∙ e)
  where
    tail : List (Bool × ElfFault) → List (Bool × ElfFault)
    tail [] = []
    tail (test ∷ tests) = tests

module _ (file : List ℕ) (loaded : List ProgramHeader) (program : program_fault file ≡ None) (moved : IsPermutation (segments file) loaded) where
  pub sound_loaded : All (IsSoundSegment (length file)) loaded
  sound_loaded = All-permutation (IsSoundSegment (length file)) (segments file) loaded moved (sound_segments file program)

  pub full_loaded : All (λ segment. 0 < segment.memory_size) loaded
  full_loaded = All-weaker (IsSoundSegment (length file)) (λ segment. 0 < segment.memory_size) (λ segment sound. sound.full) loaded sound_loaded

  pub low_loaded : All (λ segment. end_of segment ≤ 0x7000_0000) loaded
  low_loaded = All-weaker (IsSoundSegment (length file)) (λ segment. end_of segment ≤ 0x7000_0000) (λ segment sound. sound.low) loaded sound_loaded

  module _ (sorted : IsNonDecreasingBy (λ segment. segment.address) loaded) (none : overlap loaded ≡ false) where
    pub apart_loaded : AllPairs (λ one other. end_of one ≤ other.address) loaded
    apart_loaded i j d below within =
        apart (get_or loaded i d) (get_or loaded j d) (sorted i j d (omega arith) within) (full_loaded i d (omega arith)) (full_loaded j d within)
        (λ e. false≢true (sym none ∙ two_overlap loaded i j d below within e))
      where
        apart : (one other : ProgramHeader) → one.address ≤ other.address → 0 < one.memory_size → 0 < other.memory_size → (share_address one other ≡ true → ⊥) → end_of one ≤ other.address
        apart one other rise some more differ =
            elim (leb_tells (end_of one) other.address) [
              | inl before ↦ before.1
              | inr behind ↦ let late = behind.1 in absurd (differ (grind (arith, nat_tests)))
            ]

    not_overlapping : overlap (segments file) ≡ false
    not_overlapping = sym (overlap_moved (segments file) loaded moved) ∙ none

    same_pages : loaded_pages file loaded ≡ file_pages file
    same_pages = pages_moved file (length file) (segments file) loaded moved (sound_segments file program) not_overlapping

    pub file_pages_made : (numbers : List ℕ) (pages : List ImagePage) → numbers ≡ touched_pages loaded → pages ≡ map (loaded_page file loaded) numbers → pages ≡ file_pages file
    unfolding loaded_pages
    file_pages_made numbers pages first made = made ∙ ap (map (loaded_page file loaded)) first ∙ same_pages

    pub too_large_refused : 4032 < length (touched_pages loaded) → loading_fault file ≡ Some TooLarge
    too_large_refused many = sym (loading_by_parts file not_overlapping) ∙ large_parts file (over (length (file_pages file)) (length (touched_pages loaded)) (sym (ap length same_pages) ∙ count_loaded file loaded) many)
      where
        over : (n m : ℕ) → n ≡ m → 4032 < m → ltb 4032 n ≡ true
        over n m e h = grind (arith, nat_tests)

    pub fault_of_parts : (entry : ℕ) (pages : List ImagePage) → entry ≡ file_entry file → pages ≡ file_pages file → parts_fault entry pages ≡ loading_fault file
    fault_of_parts entry pages start made = (λ i. parts_fault (start i) (made i)) ∙ loading_by_parts file not_overlapping

    pub image_made : (entry : ℕ) (pages : List ImagePage) → entry ≡ file_entry file → pages ≡ file_pages file → image_of_parts entry pages ≡ file_image file
    unfolding file_image
    image_made entry pages start made = λ i. image_of_parts (start i) (made i)

-- an answer's fault, or that it has none
pub accepts : {A : Type 0} (result : Result A ElfFault) (fault other : Option ElfFault) → result_err result ≡ fault → fault ≡ other → OnOk result (other ≡ None)
accepts (Ok x) fault other e f = sym (e ∙ f)
accepts (Err x) fault other e f = tt

pub refuses : {A : Type 0} (result : Result A ElfFault) (fault other : Option ElfFault) → result_err result ≡ fault → fault ≡ other → IfErr result (λ f. f ≢ NoMemory → other ≡ Some f)
refuses (Ok x) fault other e f = tt
refuses (Err x) fault other e f = λ _. sym (e ∙ f)

-- the fault of a file is the first of the fault of its headers and that of what they load
pub first_of_headers : (file : List ℕ) (answer : Option ElfFault) (fault : ElfFault) → answer ≡ header_fault file → answer ≡ Some fault → file_fault file ≡ Some fault
unfolding file_fault
first_of_headers file answer fault e f = ap (λ o. option_or (option_or o (program_fault file)) (loading_fault file)) (sym e ∙ f)

pub first_of_programs : (file : List ℕ) (answer : Option ElfFault) (fault : ElfFault) → header_fault file ≡ None → answer ≡ program_fault file → answer ≡ Some fault → file_fault file ≡ Some fault
unfolding file_fault
first_of_programs file answer fault none e f = λ i. option_or (option_or (none i) ((sym e ∙ f) i)) (loading_fault file)

pub last_fault : (file : List ℕ) → header_fault file ≡ None → program_fault file ≡ None → loading_fault file ≡ file_fault file
unfolding file_fault
last_fault file none more = λ i. option_or (option_or (sym none i) (sym more i)) (loading_fault file)

-- an answer that says so of the one says so of the other
pub on_ok_none : {A : Type 0} (result : Result A ElfFault) (one other : Option ElfFault) → one ≡ other → OnOk result (one ≡ None) → OnOk result (other ≡ None)
on_ok_none {A} result one other e h = subst (λ o. OnOk result (o ≡ None)) e h

pub if_err_some : {A : Type 0} (result : Result A ElfFault) (one other : Option ElfFault) → one ≡ other → IfErr result (λ f. f ≢ NoMemory → one ≡ Some f) → IfErr result (λ f. f ≢ NoMemory → other ≡ Some f)
if_err_some {A} result one other e h = subst (λ o. IfErr result (λ f. f ≢ NoMemory → o ≡ Some f)) e h
