-- Going through the program headers of a file.
use Rattle.std.proofs.Common.{◌≡◌, ℕ, ◌+◌, ◌*◌, ◌<◌, Bool, true, false, ◌&&◌, ◌||◌, cond, ltb, List, [], ◌∷◌, ◌++◌, length, map, arith, refl, sym, ap, ◌∙◌, subst, append-nil}
use Rattle.std.specs.List.{range_with_len, list_any, filter}
use Rattle.std.proofs.lemmas.List.FromFn.{get_or-map-range_with_len, length-map-range_with_len, map-range_with_len_more, filter_of_map_range_with_len_more}
use Rattle.std.proofs.lemmas.List.Folds.{list_any-append, list_any_at}
use Rattle.elf_image.specs.declared.program_header.ProgramHeader.{ProgramHeader}
use Rattle.elf_image.specs.declared.header_checks.HeaderTest.TheVariants.{IsDynamic, IsOutOfFile, IsLargerInFile, IsOutOfRange}
use Rattle.elf_image.specs.declared.fault.ElfFault.TheVariants.{Dynamic, SegmentOutOfFile, SizeOrder, Range}
use Rattle.elf_image.specs.ElfFiles.{header_at, headers_offset, headers_count, program_headers, load_headers, segments, program_fault, is_load, is_dynamic, is_out_of_file, is_larger_in_file, is_out_of_range}
use Rattle.elf_image.specs.HeaderTests.{fails}
use Rattle.elf_image.specs.Parts.{first_fault}
use Rattle.elf_image.specs.Segments.{is_segment}

-- the k-th program header
abbrev pub header_of : List ℕ → ℕ → ProgramHeader
header_of file k = header_at file (headers_offset file + 32 * k)

pub any_goes_on : {X : Type 0} (p : X → Bool) (h : ℕ → X) (i : ℕ) → list_any p (map h (range_with_len 0 i)) ≡ false → p (h i) ≡ false → list_any p (map h (range_with_len 0 (i + 1))) ≡ false
any_goes_on {X} p h i before here =
    ap (list_any p) (map-range_with_len_more h 0 i i (omega arith))
    ∙ list_any-append p (map h (range_with_len 0 i)) (h i ∷ [])
    ∙ (λ j. before j || (here j || false))

pub any_stops : {X : Type 0} (p : X → Bool) (h : ℕ → X) (i n : ℕ) → i < n → p (h i) ≡ true → list_any p (map h (range_with_len 0 n)) ≡ true
any_stops {X} p h i n below here =
    list_any_at p (map h (range_with_len 0 n)) i (h i) (subst (λ m. i < m) (sym (length-map-range_with_len h 0 n)) below)
    (ap p (get_or-map-range_with_len h 0 n i i (h i) below (omega arith)) ∙ here)

-- a test of the elements that pass another
pub any-filter : {X : Type 0} (p q : X → Bool) (xs : List X) → list_any p (filter q xs) ≡ list_any (λ x. q x && p x) xs
any-filter p q [] = refl
any-filter {X} p q (x ∷ xs) =
    elim (q x) as (λ b. list_any p (cond b (x ∷ filter q xs) (filter q xs)) ≡ ((b && p x) || list_any (λ y. q y && p y) xs)) [
      | true ↦ ap (λ b. p x || b) (any-filter p q xs)
      | false ↦ any-filter p q xs
    ]

pub program_fault_by_tests : (file : List ℕ) → program_fault file ≡ first_fault ((list_any (fails IsDynamic (length file)) (program_headers file), Dynamic) ∷ (list_any (fails IsOutOfFile (length file)) (program_headers file), SegmentOutOfFile) ∷ (list_any (fails IsLargerInFile (length file)) (program_headers file), SizeOrder) ∷ (list_any (fails IsOutOfRange (length file)) (program_headers file), Range) ∷ [])
unfolding program_fault load_headers
program_fault_by_tests file =
    λ i. first_fault (
    (list_any is_dynamic (program_headers file), Dynamic)
    ∷ (any-filter (is_out_of_file (length file)) is_load (program_headers file) i, SegmentOutOfFile)
    ∷ (any-filter is_larger_in_file is_load (program_headers file) i, SizeOrder)
    ∷ (any-filter is_out_of_range is_load (program_headers file) i, Range)
    ∷ []
    )

filter-filter : {X : Type 0} (p q : X → Bool) (xs : List X) → filter p (filter q xs) ≡ filter (λ x. q x && p x) xs
filter-filter p q [] = refl
filter-filter {X} p q (x ∷ xs) =
    elim (q x) as (λ b. filter p (cond b (x ∷ filter q xs) (filter q xs)) ≡ cond (b && p x) (x ∷ filter (λ y. q y && p y) xs) (filter (λ y. q y && p y) xs)) [
      | true ↦ ap (λ l. cond (p x) (x ∷ l) l) (filter-filter p q xs)
      | false ↦ filter-filter p q xs
    ]

pub segments_by_test : (file : List ℕ) → segments file ≡ filter is_segment (map (header_of file) (range_with_len 0 (headers_count file)))
unfolding segments load_headers program_headers
segments_by_test file = filter-filter (λ header. ltb 0 header.memory_size) is_load (map (header_of file) (range_with_len 0 (headers_count file)))

-- the segments among the first headers, one header on
pub segment_pushed : (file : List ℕ) (old new : List ProgramHeader) (i : ℕ) (header : ProgramHeader) → old ≡ filter is_segment (map (header_of file) (range_with_len 0 i)) → header ≡ header_of file i → is_segment header ≡ true → new ≡ old ++ header ∷ [] → new ≡ filter is_segment (map (header_of file) (range_with_len 0 (i + 1)))
segment_pushed file old new i header before here passes pushed =
    pushed
    ∙ (λ j. before j ++ here j ∷ [])
    ∙ ap (λ b. filter is_segment (map (header_of file) (range_with_len 0 i)) ++ cond b (header_of file i ∷ []) []) (sym (sym (ap is_segment here) ∙ passes))
    ∙ sym (filter_of_map_range_with_len_more is_segment (header_of file) 0 i i (omega arith))

pub segment_skipped : (file : List ℕ) (old new : List ProgramHeader) (i : ℕ) (header : ProgramHeader) → old ≡ filter is_segment (map (header_of file) (range_with_len 0 i)) → header ≡ header_of file i → is_segment header ≡ false → new ≡ old → new ≡ filter is_segment (map (header_of file) (range_with_len 0 (i + 1)))
segment_skipped file old new i header before here fails' kept =
    kept
    ∙ before
    ∙ sym (append-nil (filter is_segment (map (header_of file) (range_with_len 0 i))))
    ∙ ap (λ b. filter is_segment (map (header_of file) (range_with_len 0 i)) ++ cond b (header_of file i ∷ []) []) (sym (sym (ap is_segment here) ∙ fails'))
    ∙ sym (filter_of_map_range_with_len_more is_segment (header_of file) 0 i i (omega arith))
