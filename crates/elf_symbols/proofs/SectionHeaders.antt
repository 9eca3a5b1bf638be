-- Section headers, by their numbers.
use Rattle.std.proofs.Common.{◌≡◌, ◌≢◌, ◌==◌, ℕ, suc, ◌+◌, ◌-◌, ◌*◌, ◌<◌, ◌≤◌, false, cond, List, [], ◌∷◌, length, map, find, slice_get, Some, None, sym, ap, ◌∙◌, zero-add, arith}
use Rattle.std.specs.List.{range_with_len}
use Rattle.std.specs.Option.{option_map}
use Rattle.std.proofs.lemmas.Bool.Decides.{nat_tests}
use Rattle.std.proofs.lemmas.List.FromFn.{length-range_with_len, get_or-range_with_len, length-map-range_with_len}
use Rattle.std.proofs.lemmas.Option.{slice_get-map, slice_get-get_or, slice_get_past}
use Rattle.elf_symbols.specs.declared.section.Section.{Section}
use Rattle.elf_symbols.specs.Sections.{headers_offset, section_count, numbered, sections_from, sections, is_symbol_table}

-- a file with sections has an ELF header, and each of their headers lies in it
pub has_header : (file : List ℕ) (number : ℕ) → number < section_count file → 52 ≤ length file
unfolding section_count
has_header file number below = grind (arith, nat_tests)

pub header_within : (file : List ℕ) (number : ℕ) → number < section_count file → headers_offset file + 40 * number + 40 ≤ length file
unfolding section_count
header_within file number below = grind (arith, nat_tests)

-- the first of some sections
more : (file : List ℕ) (number count : ℕ) → number < count → sections_from file number (count - number) ≡ numbered file number ∷ sections_from file (number + 1) (count - (number + 1))
unfolding sections_from
more file number count below =
    let left : count - number ≡ suc (count - (number + 1)) = omega arith in
    ap (λ n. map (numbered file) (range_with_len number n)) left

no_more : (file : List ℕ) (number count : ℕ) → count ≤ number → sections_from file number (count - number) ≡ []
unfolding sections_from
no_more file number count past =
    let left : count - number ≡ 0 = omega arith in
    ap (λ n. map (numbered file) (range_with_len number n)) left

step : (file : List ℕ) (number count : ℕ) → number < count → find is_symbol_table (sections_from file number (count - number)) ≡ cond ((numbered file number).kind == 2) (Some (numbered file number)) (find is_symbol_table (sections_from file (number + 1) (count - (number + 1))))
step file number count below = ap (find is_symbol_table) (more file number count below)

-- a symbol table is the first of these, where it stands first
pub section_found : (file : List ℕ) (number count : ℕ) (section : Section) → number < count → section ≡ numbered file number → section.kind ≡ 2 → find is_symbol_table (sections_from file number (count - number)) ≡ Some section
section_found file number count section below at is =
    let its : (numbered file number).kind ≡ 2 = ap (λ (s : Section). s.kind) (sym at) ∙ is in
    step file number count below
    ∙ ap (λ k. cond (k == 2) (Some (numbered file number)) (find is_symbol_table (sections_from file (number + 1) (count - (number + 1))))) its
    ∙ ap (λ (s : Section). Some s) (sym at)

-- another section is passed
pub section_passed : (file : List ℕ) (number count : ℕ) (section : Section) → number < count → section ≡ numbered file number → section.kind ≢ 2 → find is_symbol_table (sections_from file number (count - number)) ≡ find is_symbol_table (sections_from file (number + 1) (count - (number + 1)))
section_passed file number count section below at other =
    let its : (numbered file number).kind ≡ section.kind = ap (λ (s : Section). s.kind) (sym at) in
    step file number count below
    ∙ ap (λ k. cond (k == 2) (Some (numbered file number)) (find is_symbol_table (sections_from file (number + 1) (count - (number + 1))))) its
    ∙ ap (λ b. cond b (Some (numbered file number)) (find is_symbol_table (sections_from file (number + 1) (count - (number + 1))))) (apart section.kind 2 other)
  where
    apart : (a b : ℕ) → a ≢ b → (a == b) ≡ false
    apart a b h = grind (arith, nat_tests)

pub none_left : (file : List ℕ) (number count : ℕ) → count ≤ number → find is_symbol_table (sections_from file number (count - number)) ≡ None
none_left file number count past = ap (find is_symbol_table) (no_more file number count past)

-- the section of a number, where there are so many
pub section_there : (file : List ℕ) (number : ℕ) → number < section_count file → slice_get (sections file) number ≡ Some (numbered file number)
unfolding sections_from
section_there file number below =
    slice_get-map (numbered file) (range_with_len 0 (section_count file)) number
    ∙ ap (option_map (numbered file)) (slice_get-get_or (range_with_len 0 (section_count file)) number 0 (omega (arith, length-range_with_len 0 (section_count file))))
    ∙ ap (λ k. Some (numbered file k)) (get_or-range_with_len 0 (section_count file) number 0 below ∙ zero-add number)

pub section_past : (file : List ℕ) (number : ℕ) → section_count file ≤ number → slice_get (sections file) number ≡ None
unfolding sections_from
section_past file number past = slice_get_past (sections file) number (omega (arith, length-map-range_with_len (numbered file) 0 (section_count file)))
