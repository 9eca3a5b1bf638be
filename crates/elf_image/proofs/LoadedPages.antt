-- The pages that a written file loads are the image's.
use Rattle.std.proofs.Common.{◌≡◌, ℕ, zero, suc, ◌+◌, ◌*◌, ◌<◌, ◌≤◌, Bool, true, false, cond, not, ◌==◌, List, [], ◌∷◌, ◌++◌, length, map, slice_index, bit_and, arith, refl, sym, ap, ◌∙◌, inl, inr, IsTrue}
use Rattle.std.specs.List.{list_any, filter, range_with_len}
use Rattle.std.proofs.lemmas.List.{get_or_append_left, get_or-append-add}
use Rattle.std.proofs.lemmas.List.FromFn.{fill_by_all}
use Rattle.std.proofs.lemmas.Bool.{false≢true, cases_Bool}
use Rattle.page_memory.specs.Rights.{may, readable}
use Rattle.page_memory.specs.declared.words.Access.TheVariants.{Load, Store}
use Rattle.elf_image.specs.declared.image.ImagePage.{ImagePage}
use Rattle.elf_image.specs.declared.runs.Run.{Run}
use Rattle.elf_image.specs.ElfFiles.{touches, touched_pages, image_page_limit, page_rights, bytes_between, loaded_byte, loaded_page, loaded_pages}
use Rattle.elf_image.specs.Parts.{rising, readable_page}
use Rattle.elf_image.proofs.RisingLaws.{rising_rest, rising_far}
use Rattle.elf_image.specs.WrittenFiles.{flags_of, page_bytes}
use Rattle.elf_image.proofs.HeadersBack.{run_header}
use Rattle.elf_image.proofs.LoadedRuns.{blank, page_at, Rising, touched, touched_only, granted, byte_loaded}
use Rattle.elf_image.proofs.Tiles.{Tile}
use Rattle.elf_image.proofs.TouchedRanges.{page_limit_is}

-- the numbers that pass a test, where these are the numbers of pages
filter_pages : (test : ℕ → Bool) (n a : ℕ) (rest : List ImagePage) → rising rest ≡ true
    → ((k : ℕ) → k < length rest → (a ≤ (page_at rest k).number) × ((page_at rest k).number < a + n))
    → ((k : ℕ) → k < length rest → test (page_at rest k).number ≡ true)
    → ((x : ℕ) → a ≤ x → test x ≡ true → (k : ℕ) × (k < length rest) × ((page_at rest k).number ≡ x))
    → filter test (range_with_len a n) ≡ map (λ (p : ImagePage). p.number) rest
filter_pages test zero a [] up range passes only = refl
filter_pages test zero a (one ∷ rest) up range passes only = absurd (let within = range 0 (omega arith) in omega arith)
filter_pages test (suc n) a [] up range passes only =
    elim (cases_Bool (test a)) [
      | inl e ↦ absurd (let none = (only a (omega arith) e).1 in omega arith)
      | inr e ↦
          ap (λ b. cond b (a ∷ filter test (range_with_len (a + 1) n)) (filter test (range_with_len (a + 1) n))) e
          ∙ filter_pages test n (a + 1) [] up (λ k l. absurd (omega arith)) (λ k l. absurd (omega arith)) (λ x l e. only x (omega arith) e)
    ]
filter_pages test (suc n) a (one ∷ rest) up range passes only =
    elim (cases_Bool (test a)) [
      | inl e ↦
          let first = sym (found (only a (omega arith) e)) in
          let others = filter_pages test n (a + 1) rest (rising_rest one rest up)
          (λ k l. let more = later k l in let least = (range 0 (omega arith)).0 in let high = (range (suc k) (omega arith)).1 in (omega arith, omega arith))
          (λ k l. passes (suc k) (omega arith))
          (λ x l e. let same = first in behind x (omega arith) (only x (omega arith) e)) in
          ap (λ b. cond b (a ∷ filter test (range_with_len (a + 1) n)) (filter test (range_with_len (a + 1) n))) e
          ∙ (λ i. first i ∷ others i)
      | inr e ↦
          ap (λ b. cond b (a ∷ filter test (range_with_len (a + 1) n)) (filter test (range_with_len (a + 1) n))) e
          ∙ filter_pages test n (a + 1) (one ∷ rest) up
          (λ k l. let within = (range k l).1 in let least = above e k l in (omega arith, omega arith))
          passes
          (λ x l e. only x (omega arith) e)
    ]
  where
    later : (k : ℕ) → k < length rest → one.number < (page_at rest k).number
    later k l = rising_far (one ∷ rest) up 0 (suc k) blank (omega arith) (omega arith)

    found : (k : ℕ) × (k < length (one ∷ rest)) × ((page_at (one ∷ rest) k).number ≡ a) → one.number ≡ a
    found (zero, l, e) = e
    found (suc k, l, e) = absurd (let more = later k (omega arith) in let low = (range 0 (omega arith)).0 in omega arith)

    behind : (x : ℕ) → one.number < x → (k : ℕ) × (k < length (one ∷ rest)) × ((page_at (one ∷ rest) k).number ≡ x) → (k : ℕ) × (k < length rest) × ((page_at rest k).number ≡ x)
    behind x more (zero, l, e) = absurd (omega arith)
    behind x more (suc k, l, e) = (k, omega arith, e)

    differs : test a ≡ false → one.number ≡ a → ⊥
    differs e same = false≢true (sym e ∙ ap test (sym same) ∙ passes 0 (omega arith))

    above : test a ≡ false → (k : ℕ) → k < length (one ∷ rest) → a < (page_at (one ∷ rest) k).number
    above e zero l = let least = (range 0 l).0 in let other = differs e in omega arith
    above e (suc k) l = let least = (range 0 (omega arith)).0 in let more = later k (omega arith) in omega arith

pub touched_are : (pages : List ImagePage) (start : ℕ) (segments : List Run) → rising pages ≡ true → ((i : ℕ) → i < length pages → (page_at pages i).number < 458752) → Tile pages 0 segments → touched_pages (map (run_header start) segments) ≡ map (λ (p : ImagePage). p.number) pages
unfolding touched_pages
touched_are pages start segments up low tile =
    filter_pages (λ page. list_any (touches page) (map (run_header start) segments)) image_page_limit 0 pages up
    (λ k l. let below = low k l in let all = page_limit_is in (omega arith, omega arith))
    (λ k l. touched pages start 0 segments k tile (omega arith) l)
    (λ x l e. touched_only pages start 0 segments x tile e)

-- a page's bytes among those of all pages
pub byte_among : (pages : List ImagePage) (i offset : ℕ) → ((k : ℕ) → k < length pages → length (page_at pages k).page.bytes ≡ 4096) → i < length pages → offset < 4096 → slice_index (page_bytes pages) (4096 * i + offset) ≡ slice_index (page_at pages i).page.bytes offset
byte_among [] i offset whole l small = absurd (omega arith)
byte_among (one ∷ rest) zero offset whole l small = let size = whole 0 (omega arith) in let none : 4096 * zero + offset ≡ offset = omega arith in ap (slice_index (one.page.bytes ++ page_bytes rest)) none ∙ get_or_append_left one.page.bytes (page_bytes rest) 0 offset (omega arith)
byte_among (one ∷ rest) (suc i) offset whole l small =
    let size = whole 0 (omega arith) in
    let far : 4096 * suc i + offset ≡ length one.page.bytes + (4096 * i + offset) = omega arith in
    ap (slice_index (one.page.bytes ++ page_bytes rest)) far
    ∙ get_or-append-add one.page.bytes (page_bytes rest) (4096 * i + offset) 0
    ∙ byte_among rest i offset (λ k h. whole (suc k) (omega arith)) (omega arith) small

pub between_is : (byte_of : ℕ → ℕ) (start count : ℕ) (bytes : List ℕ) → length bytes ≡ count → ((k : ℕ) → k < count → slice_index bytes k ≡ byte_of (start + k)) → bytes_between byte_of start count ≡ bytes
unfolding bytes_between
between_is byte_of start count bytes size same = sym (fill_by_all (λ k. byte_of (start + k)) bytes count 0 size same)

-- rights as p_flags say them, read again
bits_back : (n : ℕ) → n < 8 → cond (not (bit_and (flags_of (record { 0 = n })) 4 == 0)) 1 0 + (cond (not (bit_and (flags_of (record { 0 = n })) 2 == 0)) 2 0 + cond (not (bit_and (flags_of (record { 0 = n })) 1 == 0)) 4 0) ≡ n
unfolding flags_of
bits_back zero l = refl
bits_back (suc zero) l = refl
bits_back (suc (suc zero)) l = refl
bits_back (suc (suc (suc zero))) l = refl
bits_back (suc (suc (suc (suc zero)))) l = refl
bits_back (suc (suc (suc (suc (suc zero))))) l = refl
bits_back (suc (suc (suc (suc (suc (suc zero)))))) l = refl
bits_back (suc (suc (suc (suc (suc (suc (suc zero))))))) l = refl
bits_back (suc (suc (suc (suc (suc (suc (suc (suc n)))))))) l = absurd (omega arith)

-- rights that are readable already
readable_back : (n : ℕ) → n < 8 → (IsTrue (may Store (record { 0 = n })) → IsTrue (may Load (record { 0 = n }))) → (readable (record { 0 = n })).0 ≡ n
unfolding readable
readable_back zero l h = refl
readable_back (suc zero) l h = refl
readable_back (suc (suc zero)) l h = absurd (false≢true (h refl))
readable_back (suc (suc (suc zero))) l h = refl
readable_back (suc (suc (suc (suc zero)))) l h = refl
readable_back (suc (suc (suc (suc (suc zero))))) l h = refl
readable_back (suc (suc (suc (suc (suc (suc zero)))))) l h = absurd (false≢true (h refl))
readable_back (suc (suc (suc (suc (suc (suc (suc zero))))))) l h = refl
readable_back (suc (suc (suc (suc (suc (suc (suc (suc n)))))))) l h = absurd (omega arith)

readable_page_back : (page : ImagePage) → page.page.rights.0 < 8 → (IsTrue (may Store page.page.rights) → IsTrue (may Load page.page.rights)) → readable_page page ≡ page
unfolding readable_page
readable_page_back page small loads = let bits = readable_back page.page.rights.0 small loads in λ i. record { number = page.number; page = record { rights = record { 0 = bits i }; bytes = page.page.bytes } }

-- pages that a function of their numbers gives
map_numbers : (f : ℕ → ImagePage) (pages : List ImagePage) → ((k : ℕ) → k < length pages → f (page_at pages k).number ≡ page_at pages k) → map f (map (λ (p : ImagePage). p.number) pages) ≡ pages
map_numbers f [] each = refl
map_numbers f (one ∷ rest) each =
    let first = each 0 (omega arith) in
    let others = map_numbers f rest (λ k l. each (suc k) (omega arith)) in
    λ i. first i ∷ others i

-- pages that a function leaves
pub map_same : (f : ImagePage → ImagePage) (pages : List ImagePage) → ((k : ℕ) → k < length pages → f (page_at pages k) ≡ page_at pages k) → map f pages ≡ pages
map_same f [] each = refl
map_same f (one ∷ rest) each =
    let first = each 0 (omega arith) in
    let others = map_same f rest (λ k l. each (suc k) (omega arith)) in
    λ i. first i ∷ others i

pub still_readable : (pages : List ImagePage) → ((k : ℕ) → k < length pages → (page_at pages k).page.rights.0 < 8) → ((k : ℕ) → k < length pages → IsTrue (may Store (page_at pages k).page.rights) → IsTrue (may Load (page_at pages k).page.rights)) → map readable_page pages ≡ pages
still_readable pages plain loads = map_same readable_page pages (λ k l. readable_page_back (page_at pages k) (plain k l) (loads k l))

rights_loaded : (pages : List ImagePage) (start : ℕ) (segments : List Run) (i : ℕ) → Rising pages → Tile pages 0 segments → i < length pages → (page_at pages i).page.rights.0 < 8 → page_rights (map (run_header start) segments) (page_at pages i).number ≡ (page_at pages i).page.rights
unfolding page_rights
rights_loaded pages start segments i up tile l small =
    let read = granted pages start 0 segments 4 i up tile (omega arith) l in
    let write = granted pages start 0 segments 2 i up tile (omega arith) l in
    let execute = granted pages start 0 segments 1 i up tile (omega arith) l in
    let bits = bits_back (page_at pages i).page.rights.0 small in
    (λ j. record { 0 = cond (read j) 1 0 + (cond (write j) 2 0 + cond (execute j) 4 0) })
    ∙ (λ j. record { 0 = bits j })

bytes_loaded : (front : List ℕ) (pages : List ImagePage) (start : ℕ) (segments : List Run) (i : ℕ) → length front ≡ start → Rising pages → Tile pages 0 segments → ((k : ℕ) → k < length pages → length (page_at pages k).page.bytes ≡ 4096) → i < length pages → bytes_between (loaded_byte (front ++ page_bytes pages) (map (run_header start) segments)) (4096 * (page_at pages i).number) 4096 ≡ (page_at pages i).page.bytes
bytes_loaded front pages start segments i at up tile whole l =
    between_is (loaded_byte (front ++ page_bytes pages) (map (run_header start) segments)) (4096 * (page_at pages i).number) 4096 (page_at pages i).page.bytes (whole i l) (λ k h. sym (
    byte_loaded (front ++ page_bytes pages) pages start 0 segments i k up tile (omega arith) l h
    ∙ ap (λ n. slice_index (front ++ page_bytes pages) (n + (4096 * i + k))) (sym at)
    ∙ get_or-append-add front (page_bytes pages) (4096 * i + k) 0
    ∙ byte_among pages i k whole l h))

page_loaded : (front : List ℕ) (pages : List ImagePage) (start : ℕ) (segments : List Run) (i : ℕ) → length front ≡ start → Rising pages → Tile pages 0 segments → ((k : ℕ) → k < length pages → length (page_at pages k).page.bytes ≡ 4096) → ((k : ℕ) → k < length pages → (page_at pages k).page.rights.0 < 8) → i < length pages → loaded_page (front ++ page_bytes pages) (map (run_header start) segments) (page_at pages i).number ≡ page_at pages i
unfolding loaded_page
page_loaded front pages start segments i at up tile whole plain l =
    let rights = rights_loaded pages start segments i up tile l (plain i l) in
    let bytes = bytes_loaded front pages start segments i at up tile whole l in
    λ j. record { number = (page_at pages i).number; page = record { rights = rights j; bytes = bytes j } }

-- all pages that segments load which are the runs of these pages
pub pages_loaded : (front : List ℕ) (pages : List ImagePage) (start : ℕ) (segments : List Run) → length front ≡ start → rising pages ≡ true → Rising pages → ((k : ℕ) → k < length pages → (page_at pages k).number < 458752) → ((k : ℕ) → k < length pages → length (page_at pages k).page.bytes ≡ 4096) → ((k : ℕ) → k < length pages → (page_at pages k).page.rights.0 < 8) → Tile pages 0 segments → loaded_pages (front ++ page_bytes pages) (map (run_header start) segments) ≡ pages
unfolding loaded_pages
pages_loaded front pages start segments at rise up low whole plain tile =
    ap (map (loaded_page (front ++ page_bytes pages) (map (run_header start) segments))) (touched_are pages start segments rise low tile)
    ∙ map_numbers (loaded_page (front ++ page_bytes pages) (map (run_header start) segments)) pages (λ k l. page_loaded front pages start segments k at up tile whole plain l)
