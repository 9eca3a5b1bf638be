-- What a file's segments load is the same in any order of them, and makes an image where no fault is left.
use Rattle.std.proofs.Common.{◌≡◌, ℕ, zero, suc, ◌+◌, ◌*◌, ◌<◌, ◌≤◌, Bool, true, false, not, ◌&&◌, ◌||◌, cond, ltb, List, [], ◌∷◌, length, map, get_or, arith, refl, sym, ◌∙◌, Some, None, ◌==◌, lit<, if◌then◌else◌}
use Rattle.std.specs.List.{list_any, filter, sum_by, All, range_with_len}
use Rattle.std.specs.List.Sorted.{IsPermutation}
use Rattle.std.proofs.lemmas.Bool.{false≢true, or_parts}
use Rattle.std.proofs.lemmas.Bool.Decides.{nat_tests}
use Rattle.std.proofs.lemmas.List.Sums.{sum_by-cons}
use Rattle.std.proofs.lemmas.List.Sorted.{sum_by-IsPermutation, list_any-IsPermutation, All-permutation}
use Rattle.std.proofs.lemmas.List.Elements.{All-head, All-tail, All-filter, filter_passes}
use Rattle.std.proofs.lemmas.List.Folds.{list_any_at}
use Rattle.elf_image.specs.declared.program_header.ProgramHeader.{ProgramHeader}
use Rattle.elf_image.specs.declared.fault.ElfFault.{ElfFault}
use Rattle.elf_image.specs.declared.fault.ElfFault.TheVariants.{Short}
use Rattle.elf_image.specs.ElfFiles.{touches, gives, fills, filled_byte, loaded_byte, bytes_between, loaded_page, loaded_pages, page_rights, touched_pages, image_page_limit, overlap, share_address, segments, load_headers, header_fault, header_tests, program_tests, half_at, headers_count, headers_offset, program_fault, is_out_of_file, is_larger_in_file, is_out_of_range}
use Rattle.elf_image.specs.Segments.{IsSoundSegment}
use Rattle.elf_image.specs.Parts.{first_fault}
use Rattle.elf_image.proofs.Overlaps.{overlap_moved}

-- ---- what tests of headers leave

-- where no fault is first, no test holds
all_pass : (tests : List (Bool × ElfFault)) → first_fault tests ≡ None → (k : ℕ) (d : Bool × ElfFault) → k < length tests → (get_or tests k d).0 ≡ false
all_pass [] none k d within = absurd (omega arith)
all_pass (test ∷ rest) none k d within = cases test.0 refl none (λ n j w. all_pass rest n j d w)
  where
    cases : (b : Bool) → b ≡ test.0 → cond b (Some test.1) (first_fault rest) ≡ None → (first_fault rest ≡ None → (j : ℕ) → j < length rest → (get_or rest j d).0 ≡ false) → (get_or (test ∷ rest) k d).0 ≡ false
    cases true e n later = cc
    cases false e n later = each k within
      where
        each : (k : ℕ) → k < length (test ∷ rest) → (get_or (test ∷ rest) k d).0 ≡ false
        each zero w = sym e
        each (suc k) w = later n k (omega arith)

none_from_any : {X : Type 0} (p : X → Bool) (xs : List X) → list_any p xs ≡ false → All (λ x. p x ≡ false) xs
none_from_any {X} p xs none k d within = untrue (p (get_or xs k d)) (λ e. false≢true (sym none ∙ list_any_at p xs k d within e))
  where
    untrue : (b : Bool) → (b ≡ true → ⊥) → b ≡ false
    untrue true h = absurd (h refl)
    untrue false h = refl

pub long_enough : (file : List ℕ) → header_fault file ≡ None → 52 ≤ length file
unfolding header_fault
long_enough file none = at_least 52 (length file) (all_pass (header_tests file) none 0 (false, Short) (lit< tt))
  where
    at_least : (a n : ℕ) → ltb n a ≡ false → a ≤ n
    at_least a n e = grind (arith, nat_tests)

pub headers_within : (file : List ℕ) → header_fault file ≡ None → 0 < headers_count file → headers_offset file + 32 * headers_count file ≤ length file
unfolding header_fault
headers_within file none some =
    ends (headers_count file) (headers_offset file + 32 * headers_count file) (length file) (not (half_at 42 file == 32)) some (all_pass (header_tests file) none 6 (false, Short) (lit< tt))
  where
    ends : (n e l : ℕ) (b : Bool) → 0 < n → (ltb 0 n && (b || ltb l e)) ≡ false → e ≤ l
    ends n e l true some h = grind (arith, nat_tests)
    ends n e l false some h = grind (arith, nat_tests)

pub sound_segments : (file : List ℕ) → program_fault file ≡ None → All (IsSoundSegment (length file)) (segments file)
unfolding program_fault segments
sound_segments file none k d within =
    let takes : ProgramHeader → Bool = λ header. ltb 0 header.memory_size in
    let pass : (n : ℕ) → n < 4 → (get_or (program_tests file) n (false, Short)).0 ≡ false = λ n h. all_pass (program_tests file) none n (false, Short) h in
    each (get_or (filter takes (load_headers file)) k d)
    (filter_passes takes (load_headers file) k d within)
    (All-filter takes (λ header. is_out_of_file (length file) header ≡ false) (load_headers file) (none_from_any (is_out_of_file (length file)) (load_headers file) (pass 1 (lit< tt))) k d within)
    (All-filter takes (λ header. is_larger_in_file header ≡ false) (load_headers file) (none_from_any is_larger_in_file (load_headers file) (pass 2 (lit< tt))) k d within)
    (All-filter takes (λ header. is_out_of_range header ≡ false) (load_headers file) (none_from_any is_out_of_range (load_headers file) (pass 3 (lit< tt))) k d within)
  where
    each : (header : ProgramHeader) → ltb 0 header.memory_size ≡ true → is_out_of_file (length file) header ≡ false → is_larger_in_file header ≡ false → is_out_of_range header ≡ false → IsSoundSegment (length file) header
    each header full outside larger range = record {
      full = grind (arith, nat_tests);
      low = grind (arith, nat_tests);
      shorter = grind (arith, nat_tests);
      filed = λ some. grind (arith, nat_tests);
    }

-- ---- the order of segments

abbrev pub byte_from : List ℕ → ℕ → ProgramHeader → ℕ
byte_from file address segment = cond (fills address segment) (filled_byte file address segment) 0

sum_by-none : {X : Type 0} (f : X → ℕ) (xs : List X) → All (λ x. f x ≡ 0) xs → sum_by f xs ≡ 0
sum_by-none f [] none = refl
sum_by-none {X} f (x ∷ xs) none =
    let rest = sum_by-none f xs (All-tail (λ y. f y ≡ 0) x xs none) in
    let here = All-head (λ y. f y ≡ 0) x xs none in
    omega (arith, sum_by-cons f x xs)

both_fill : (size address : ℕ) (one other : ProgramHeader) → IsSoundSegment size one → IsSoundSegment size other → fills address one ≡ true → fills address other ≡ true → share_address one other ≡ true
both_fill size address one other s t a b = let u = s.shorter in let v = t.shorter in grind (arith, nat_tests)

-- where no segments overlap, at most one gives a byte
byte_summed : (file : List ℕ) (size address : ℕ) (loaded : List ProgramHeader) → All (IsSoundSegment size) loaded → overlap loaded ≡ false → loaded_byte file loaded address ≡ sum_by (byte_from file address) loaded
byte_summed file size address [] sound apart = refl
byte_summed file size address (one ∷ rest) sound apart =
    cases (fills address one) refl (byte_summed file size address rest (All-tail (IsSoundSegment size) one rest sound) (or_parts _ _ apart).1)
    ∙ sym (sum_by-cons (byte_from file address) one rest)
  where
    alone : fills address one ≡ true → All (λ other. byte_from file address other ≡ 0) rest
    alone fill k d within = blank (fills address (get_or rest k d)) refl
      where
        blank : (b : Bool) → b ≡ fills address (get_or rest k d) → cond b (filled_byte file address (get_or rest k d)) 0 ≡ 0
        blank true e = absurd (false≢true (sym (none_from_any (share_address one) rest (or_parts _ _ apart).0 k d within) ∙ both_fill size address one (get_or rest k d) (All-head (IsSoundSegment size) one rest sound) (All-tail (IsSoundSegment size) one rest sound k d within) fill (sym e)))
        blank false e = refl

    cases : (b : Bool) → b ≡ fills address one → loaded_byte file rest address ≡ sum_by (byte_from file address) rest → cond b (filled_byte file address one) (loaded_byte file rest address) ≡ cond b (filled_byte file address one) 0 + sum_by (byte_from file address) rest
    cases true e same = let none = sum_by-none (byte_from file address) rest (alone (sym e)) in omega arith
    cases false e same = omega arith

module _ (file : List ℕ) (size : ℕ) (xs ys : List ProgramHeader) (moved : IsPermutation xs ys) (sound : All (IsSoundSegment size) xs) (apart : overlap xs ≡ false) where
  byte_moved : (address : ℕ) → loaded_byte file ys address ≡ loaded_byte file xs address
  byte_moved address =
      byte_summed file size address ys (All-permutation (IsSoundSegment size) xs ys moved sound) (overlap_moved xs ys moved ∙ apart)
      ∙ sum_by-IsPermutation (byte_from file address) xs ys moved
      ∙ sym (byte_summed file size address xs sound apart)

  rights_moved : (page : ℕ) → page_rights ys page ≡ page_rights xs page
  unfolding page_rights
  rights_moved page = λ i. record {
    0 = (if sym (list_any-IsPermutation (gives 4 page) xs ys moved) i then 1 else 0)
        + ((if sym (list_any-IsPermutation (gives 2 page) xs ys moved) i then 2 else 0)
        + (if sym (list_any-IsPermutation (gives 1 page) xs ys moved) i then 4 else 0));
  }

  touched_moved : touched_pages ys ≡ touched_pages xs
  unfolding touched_pages
  touched_moved = λ i. filter (λ page. sym (list_any-IsPermutation (touches page) xs ys moved) i) (range_with_len 0 image_page_limit)

  page_moved : (page : ℕ) → loaded_page file ys page ≡ loaded_page file xs page
  unfolding loaded_page
  page_moved page = λ i. record {
    number = page;
    page = record { rights = rights_moved page i; bytes = bytes_between (λ address. byte_moved address i) (4096 * page) 4096 };
  }

  -- segments in another order load the same pages
  pub pages_moved : loaded_pages file ys ≡ loaded_pages file xs
  unfolding loaded_pages
  pages_moved = λ i. map (λ page. page_moved page i) (touched_moved i)
