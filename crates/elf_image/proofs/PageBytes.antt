-- The bytes and rights of a page as segments are copied into it.
use Rattle.std.proofs.Common.{◌≡◌, ℕ, suc, ◌+◌, ◌-◌, ◌*◌, ◌<◌, ◌≤◌, max, min, Bool, true, false, cond, List, [], ◌∷◌, ◌++◌, length, get_or, take, drop, replicate, arith, refl, sym, ap, ◌∙◌, subst, inl, inr, length-append, length-drop, length-take, if◌then◌else◌}
use Rattle.std.specs.List.{filter, All}
use Rattle.std.proofs.lemmas.List.{get_or-take, get_or-drop, get_or_append_left, get_or-append_right, get_or-replicate, length-replicate}
use Rattle.std.proofs.lemmas.Bool.Decides.{nat_tests, leb_tells}
use Rattle.std.proofs.lemmas.List.Elements.{All-head, All-tail}
use Rattle.std.proofs.lemmas.List.FromFn.{fill_by_all, get_or-map-range_with_len, length-map-range_with_len}
use Rattle.page_memory.specs.Pages.{overwritten}
use Rattle.elf_image.specs.declared.program_header.ProgramHeader.{ProgramHeader}
use Rattle.elf_image.specs.ElfFiles.{touches, fills, filled_byte, loaded_byte, bytes_between, page_rights}
use Rattle.elf_image.specs.Segments.{IsSoundSegment, has_flag, given_rights}
use Rattle.elf_image.proofs.Headers.{any-filter}

-- bytes that are those of a function
bytes_are : (f : ℕ → ℕ) (start count : ℕ) (xs : List ℕ) → length xs ≡ count → ((k : ℕ) → k < count → get_or xs k 0 ≡ f (start + k)) → xs ≡ bytes_between f start count
unfolding bytes_between
bytes_are f start count xs size each = fill_by_all (λ k. f (start + k)) xs count 0 size each

length-bytes_between : (f : ℕ → ℕ) (start count : ℕ) → length (bytes_between f start count) ≡ count
unfolding bytes_between
length-bytes_between f start count = length-map-range_with_len (λ k. f (start + k)) 0 count

byte_in : (f : ℕ → ℕ) (start count k : ℕ) → k < count → get_or (bytes_between f start count) k 0 ≡ f (start + k)
unfolding bytes_between
byte_in f start count k h = get_or-map-range_with_len (λ n. f (start + n)) 0 count k k 0 h (omega arith)

-- functions that agree there
pub bytes_like : (f g : ℕ → ℕ) (start count : ℕ) → ((a : ℕ) → start ≤ a → a < start + count → f a ≡ g a) → bytes_between f start count ≡ bytes_between g start count
bytes_like f g start count same = bytes_are g start count (bytes_between f start count) (length-bytes_between f start count) (λ k h. byte_in f start count k h ∙ same (start + k) (omega arith) (omega arith))

pub zeros_between : (start count : ℕ) → replicate count 0 ≡ bytes_between (λ a. 0) start count
zeros_between start count = bytes_are (λ a. 0) start count (replicate count 0) (length-replicate count 0) (λ k h. get_or-replicate count k 0 0 h)

-- a segment that fills no byte there
not_filled : (address : ℕ) (segment : ProgramHeader) → (segment.address ≤ address → segment.address + segment.file_size ≤ address) → fills address segment ≡ false
not_filled address segment h = elim (leb_tells segment.address address) [
  | inl from ↦ let far = h from.1 in grind (arith, nat_tests)
  | inr before ↦ grind (arith, nat_tests)
]

is_filled : (address : ℕ) (segment : ProgramHeader) → segment.address ≤ address → address < segment.address + segment.file_size → fills address segment ≡ true
is_filled address segment a b = grind (arith, nat_tests)

-- the bytes with those of one segment over them
abbrev pub over : List ℕ → ProgramHeader → (ℕ → ℕ) → ℕ → ℕ
over file segment f address = cond (fills address segment) (filled_byte file address segment) (f address)

over_none : (file : List ℕ) (segment : ProgramHeader) (f : ℕ → ℕ) (a : ℕ) → fills a segment ≡ false → f a ≡ over file segment f a
over_none file segment f a none = ap (λ b. cond b (filled_byte file a segment) (f a)) (sym none)

over_some : (file : List ℕ) (segment : ProgramHeader) (f : ℕ → ℕ) (a n : ℕ) → fills a segment ≡ true → n ≡ segment.offset + (a - segment.address) → get_or file n 0 ≡ over file segment f a
over_some file segment f a n some at = ap (λ i. get_or file i 0) at ∙ ap (λ b. cond b (filled_byte file a segment) (f a)) (sym some)

-- nothing of the segment's bytes lies between two addresses
pub nothing_copied : (file : List ℕ) (segment : ProgramHeader) (f : ℕ → ℕ) (old : List ℕ) (start count : ℕ) → min (segment.address + segment.file_size) (start + count) ≤ max segment.address start → old ≡ bytes_between f start count → old ≡ bytes_between (over file segment f) start count
nothing_copied file segment f old start count none is =
    is ∙ bytes_like f (over file segment f) start count (λ a from below. over_none file segment f a (not_filled a segment (λ h. omega arith)))

-- the segment's bytes between two addresses were written there
pub bytes_copied : (file : List ℕ) (segment : ProgramHeader) (f : ℕ → ℕ) (old new : List ℕ) (start count from place : ℕ) → max segment.address start < min (segment.address + segment.file_size) (start + count) → from ≡ segment.offset + (max segment.address start - segment.address) → place ≡ max segment.address start - start → new ≡ take (min (segment.address + segment.file_size) (start + count) - max segment.address start) (drop from file) → from + (min (segment.address + segment.file_size) (start + count) - max segment.address start) ≤ length file → old ≡ bytes_between f start count → overwritten old place new ≡ bytes_between (over file segment f) start count
bytes_copied file segment f old new start count from place some at there is within was =
    bytes_are (over file segment f) start count (overwritten old place new) whole each
  where
    n : ℕ
    n = min (segment.address + segment.file_size) (start + count) - max segment.address start

    size : length new ≡ min (segment.address + segment.file_size) (start + count) - max segment.address start
    size = ap length is ∙ length-take (min (segment.address + segment.file_size) (start + count) - max segment.address start) (drop from file) ∙ (let left = length-drop from file in omega arith)

    old_size : length old ≡ count
    old_size = ap length was ∙ length-bytes_between f start count

    front : length (take place old) ≡ place
    front = let short = length-take place old in omega (arith, old_size)

    whole : length (overwritten old place new) ≡ count
    whole =
        let all = length-append (take place old) (new ++ drop (place + length new) old) in
        let back = length-append new (drop (place + length new) old) in
        let rest = length-drop (place + length new) old in
        omega (arith, size, old_size, front, all, back, rest)

    each : (k : ℕ) → k < count → get_or (overwritten old place new) k 0 ≡ over file segment f (start + k)
    each k h =
        elim (leb_tells (suc k) place) [
          | inl before ↦
              get_or_append_left (take place old) (new ++ drop (place + length new) old) 0 k (subst (λ m. k < m) (sym front) before.1)
              ∙ get_or-take place old k 0 before.1
              ∙ ap (λ l. get_or l k 0) was
              ∙ byte_in f start count k h
              ∙ over_none file segment f (start + k) (not_filled (start + k) segment (λ g. let b = before.1 in omega arith))
          | inr behind ↦
              get_or-append_right (take place old) (new ++ drop (place + length new) old) place k 0 front (let b = behind.1 in omega arith)
              ∙ later k h (let b = behind.1 in omega arith)
        ]
      where
        later : (k : ℕ) → k < count → place ≤ k → get_or (new ++ drop (place + length new) old) (k - place) 0 ≡ over file segment f (start + k)
        later k h from' =
            elim (leb_tells (suc (k - place)) (length new)) [
              | inl inside ↦
                  let i = inside.1 in
                  get_or_append_left new (drop (place + length new) old) 0 (k - place) inside.1
                  ∙ ap (λ l. get_or l (k - place) 0) is
                  ∙ get_or-take (min (segment.address + segment.file_size) (start + count) - max segment.address start) (drop from file) (k - place) 0 (omega (arith, size))
                  ∙ get_or-drop from file (k - place) 0
                  ∙ over_some file segment f (start + k) (from + (k - place)) (is_filled (start + k) segment (omega arith) (omega (arith, size))) (omega arith)
              | inr outside ↦
                  let o = outside.1 in
                  let past : place + length new + (k - place - length new) ≡ k = omega arith in
                  get_or-append_right new (drop (place + length new) old) (length new) (k - place) 0 refl (omega arith)
                  ∙ get_or-drop (place + length new) old (k - place - length new) 0
                  ∙ ap (λ m. get_or old m 0) past
                  ∙ ap (λ l. get_or l k 0) was
                  ∙ byte_in f start count k h
                  ∙ over_none file segment f (start + k) (not_filled (start + k) segment (λ g. omega (arith, size)))
            ]

-- the segments that touch a page give it its rights
pub rights_of_run : (loaded : List ProgramHeader) (page : ℕ) → given_rights (filter (touches page) loaded) ≡ page_rights loaded page
unfolding given_rights page_rights
rights_of_run loaded page = λ i. record {
  0 = (if any-filter (has_flag 4) (touches page) loaded i then 1 else 0)
      + ((if any-filter (has_flag 2) (touches page) loaded i then 2 else 0)
      + (if any-filter (has_flag 1) (touches page) loaded i then 4 else 0));
}

-- and they fill its bytes
byte_of_run : (file : List ℕ) (size : ℕ) (loaded : List ProgramHeader) (page address : ℕ) → All (IsSoundSegment size) loaded → 4096 * page ≤ address → address < 4096 * page + 4096 → loaded_byte file (filter (touches page) loaded) address ≡ loaded_byte file loaded address
byte_of_run file size [] page address sound a b = refl
byte_of_run file size (one ∷ rest) page address sound a b =
    cases (touches page one) refl (byte_of_run file size rest page address (All-tail (IsSoundSegment size) one rest sound) a b)
  where
    cases : (t : Bool) → t ≡ touches page one → loaded_byte file (filter (touches page) rest) address ≡ loaded_byte file rest address → loaded_byte file (cond t (one ∷ filter (touches page) rest) (filter (touches page) rest)) address ≡ cond (fills address one) (filled_byte file address one) (loaded_byte file rest address)
    cases true e same = ap (λ n. cond (fills address one) (filled_byte file address one) n) same
    cases false e same = same ∙ ap (λ b. cond b (filled_byte file address one) (loaded_byte file rest address)) (sym (not_filled address one outside))
      where
        outside : one.address ≤ address → one.address + one.file_size ≤ address
        outside h = let shorter = (All-head (IsSoundSegment size) one rest sound).shorter in grind (arith, nat_tests)

pub bytes_of_run : (file : List ℕ) (size : ℕ) (loaded : List ProgramHeader) (page : ℕ) → All (IsSoundSegment size) loaded → bytes_between (loaded_byte file (filter (touches page) loaded)) (4096 * page) 4096 ≡ bytes_between (loaded_byte file loaded) (4096 * page) 4096
bytes_of_run file size loaded page sound = bytes_like (loaded_byte file (filter (touches page) loaded)) (loaded_byte file loaded) (4096 * page) 4096 (λ a from below. byte_of_run file size loaded page a sound from below)

-- the same from the numbers that the code computes
pub copied_between : (file : List ℕ) (segment : ProgramHeader) (f : ℕ → ℕ) (old : List ℕ) (start count low high from place n : ℕ) → low ≡ max segment.address start → high ≡ min (segment.address + segment.file_size) (start + count) → low < high → from ≡ segment.offset + (low - segment.address) → place ≡ low - start → n ≡ high - low → from + n ≤ length file → old ≡ bytes_between f start count → overwritten old place (take n (drop from file)) ≡ bytes_between (over file segment f) start count
copied_between file segment f old start count low high from place n lows highs some at there many within was =
    bytes_copied file segment f old (take n (drop from file)) start count from place (omega arith) (omega arith) (omega arith) (ap (λ m. take m (drop from file)) number) (omega arith) was
  where
    number : n ≡ min (segment.address + segment.file_size) (start + count) - max segment.address start
    number = omega arith
