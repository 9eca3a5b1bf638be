-- The pages of a program make an image.
use Rattle.std.proofs.Common.{◌≡◌, ℕ, zero, suc, ◌+◌, ◌*◌, ◌/◌, ◌<◌, ◌≤◌, List, [], ◌∷◌, ◌++◌, length, map, Bool, true, false, ◌&&◌, ◌||◌, ◌==◌, Option, Some, None, arith, refl, sym, ap, ◌∙◌, subst, length-append, add-zero, eq-eqb}
use Rattle.std.specs.Prelude.{Result, Ok, Err, ⊤, nat_le, nat_lt, slice_index_or, codes}
use Rattle.std.specs.Result.{result_err, IsOk}
use Rattle.std.specs.List.{range_with_len, list_any}
use Rattle.std.proofs.lemmas.Bool.Decides.{nat_tests}
use Rattle.std.proofs.lemmas.List.Folds.{list_any_at, list_any-append}
use Rattle.std.proofs.lemmas.List.FromFn.{get_or-map-range_with_len, length-map-range_with_len}
use Rattle.elf_image.proofs.ImageLaws.{length-bytes_of}
use Rattle.page_memory.specs.declared.rights.Rights.{Rights}
use Rattle.page_memory.specs.declared.words.Access.TheVariants.{Fetch}
use Rattle.page_memory.specs.Rights.{may, readable}
use Rattle.page_memory.specs.Words.{page_number}
use Rattle.elf_image.specs.declared.image.ImagePage.{ImagePage}
use Rattle.elf_image.specs.Image.{bytes_of}
use Rattle.elf_image.specs.Parts.{too_high, entered, parts_fault, readable_page, image_of_parts}
use Rattle.elf_image.proofs.PartsLaws.{no_fault_from_pass, neighbours}
use Rattle.asm_statements.specs.declared.section.Section.{Section}
use Rattle.asm_statements.specs.declared.section.Section.TheVariants.{Text, Data}
use Rattle.rv_asm.specs.declared.label_place.LabelPlace.{LabelPlace}
use Rattle.rv_asm.specs.declared.item.Item.{Item}
use Rattle.rv_asm.specs.Program.{size, label_place, section_start}
use Rattle.elf_image.specs.BytePages.{page_count, nth_page, byte_pages}
use Rattle.rv_asm.specs.Listing.{text_rights, data_rights, entry_point_if, entry_point_in, entry_point_at, entry_point_of, image_of}

-- pages with numbers one behind the other
abbrev Numbered : ℕ → List ImagePage → Type 0
Numbered n [] = ⊤
Numbered n (page ∷ pages) = (page.number ≡ n) × Numbered (n + 1) pages

numbered_append : (n m : ℕ) (xs ys : List ImagePage) → m ≡ n + length xs → Numbered n xs → Numbered m ys → Numbered n (xs ++ ys)
numbered_append n m [] ys e a b = let same : m ≡ n = omega arith in subst (λ k. Numbered k ys) same b
numbered_append n m (x ∷ xs) ys e a b = (a.0, numbered_append (n + 1) m xs ys (omega arith) a.1 b)

numbered_map : (first : ℕ) (rights : Rights) (bytes : List ℕ) (a n m : ℕ) → m ≡ first + a → Numbered m (map (nth_page first rights bytes) (range_with_len a n))
numbered_map first rights bytes a zero m e = tt
numbered_map first rights bytes a (suc n) m e = (sym e, numbered_map first rights bytes (a + 1) n (m + 1) (omega arith))

numbered_at : (n : ℕ) (pages : List ImagePage) (i : ℕ) (d : ImagePage) → Numbered n pages → i < length pages → (slice_index_or pages i d).number ≡ n + i
numbered_at n [] i d a within = absurd (omega arith)
numbered_at n (page ∷ pages) zero d a within = a.0 ∙ sym (add-zero n)
numbered_at n (page ∷ pages) (suc i) d a within = numbered_at (n + 1) pages i d a.1 (omega arith) ∙ omega arith

numbered_low : (n : ℕ) (pages : List ImagePage) → Numbered n pages → n + length pages ≤ 57344 → too_high pages ≡ false
unfolding too_high
numbered_low n [] a within = refl
numbered_low n (page ∷ pages) a within =
    let low : nat_le 458752 page.number ≡ false = let is = a.0 in grind (arith, nat_tests) in
    rw low (numbered_low (n + 1) pages a.1 (omega arith))

-- the entry lies in the text
entry_within : (items : List Item) → 0 < size Text items → (offset : ℕ) × (entry_point_of items ≡ 0x10000 + offset) × (offset < size Text items)
unfolding entry_point_of
entry_within items some = by_place (label_place items (codes "_start"))
  where
    by_test : (b : Bool) (offset : ℕ) → nat_lt offset (size Text items) ≡ b → (o : ℕ) × (entry_point_if b offset ≡ 0x10000 + o) × (o < size Text items)
    by_test true offset e = (offset, refl, grind (arith, nat_tests))
    by_test false offset e = (0, refl, some)

    by_section : (section : Section) (offset : ℕ) → (o : ℕ) × (entry_point_in (size Text items) section offset ≡ 0x10000 + o) × (o < size Text items)
    by_section Text offset = by_test (nat_lt offset (size Text items)) offset refl
    by_section Data offset = (0, refl, some)

    by_place : (place : Option LabelPlace) → (o : ℕ) × (entry_point_at (size Text items) place ≡ 0x10000 + o) × (o < size Text items)
    by_place None = (0, refl, some)
    by_place (Some place) = by_section place.section place.offset

-- the pages of the text hold it
text_entered : (bytes : List ℕ) (offset entry : ℕ) (more : List ImagePage) → entry ≡ 0x10000 + offset → offset < length bytes → entered entry (byte_pages 16 text_rights bytes ++ more) ≡ true
unfolding entered byte_pages
text_entered bytes offset entry more is within =
    let test = λ (listed : ImagePage). (listed.number == page_number entry) && may Fetch listed.page.rights in
    let pages : List ImagePage = map (nth_page 16 text_rights bytes) (range_with_len 0 (page_count bytes)) in
    let k : ℕ = offset / 4096 in
    let below : k < page_count bytes = omega arith in
    let at : slice_index_or pages k (nth_page 16 text_rights bytes k) ≡ nth_page 16 text_rights bytes k = get_or-map-range_with_len (nth_page 16 text_rights bytes) 0 (page_count bytes) k k (nth_page 16 text_rights bytes k) below (omega arith) in
    let number : 16 + k ≡ page_number entry = omega arith in
    let passes : test (nth_page 16 text_rights bytes k) ≡ true = ap (λ b. b && true) (eq-eqb (16 + k) (page_number entry) number) in
    let here : list_any test pages ≡ true = list_any_at test pages k (nth_page 16 text_rights bytes k) (let len = length-map-range_with_len (nth_page 16 text_rights bytes) 0 (page_count bytes) in omega arith) (ap test at ∙ passes) in
    list_any-append test pages more ∙ ap (λ b. b || list_any test more) here

pub pages_pass : (items : List Item) (words bytes : List ℕ) → 4 * length words ≡ size Text items → length bytes ≡ size Data items → 0 < size Text items → size Text items ≤ 262144 → size Data items ≤ 1048576 → parts_fault (entry_point_of items) (byte_pages 16 text_rights (bytes_of words) ++ byte_pages (section_start items Data / 4096) data_rights bytes) ≡ None
unfolding byte_pages
pages_pass items words bytes words_size bytes_size some text_fits data_fits =
    let text_pages : List ImagePage = map (nth_page 16 text_rights (bytes_of words)) (range_with_len 0 (page_count (bytes_of words))) in
    let first : ℕ = section_start items Data / 4096 in
    let data_pages : List ImagePage = map (nth_page first data_rights bytes) (range_with_len 0 (page_count bytes)) in
    let n : length text_pages ≡ page_count (bytes_of words) = length-map-range_with_len (nth_page 16 text_rights (bytes_of words)) 0 (page_count (bytes_of words)) in
    let m : length data_pages ≡ page_count bytes = length-map-range_with_len (nth_page first data_rights bytes) 0 (page_count bytes) in
    let whole : length (bytes_of words) ≡ size Text items = length-bytes_of words ∙ words_size in
    let next : first ≡ 16 + length text_pages = omega arith in
    let numbers : Numbered 16 (text_pages ++ data_pages) = numbered_append 16 first text_pages data_pages next (numbered_map 16 text_rights (bytes_of words) 0 (page_count (bytes_of words)) 16 refl) (numbered_map first data_rights bytes 0 (page_count bytes) first (sym (add-zero first))) in
    let all : length (text_pages ++ data_pages) ≡ length text_pages + length data_pages = length-append text_pages data_pages in
    let few : 16 + length (text_pages ++ data_pages) ≤ 4032 = omega arith in
    let near = neighbours 16 (text_pages ++ data_pages) (omega arith) (λ i d within. numbered_at 16 (text_pages ++ data_pages) i d numbers within) in
    let entry = entry_within items some in
    no_fault_from_pass (entry_point_of items) (text_pages ++ data_pages) (record {
      low = numbered_low 16 (text_pages ++ data_pages) numbers (omega arith);
      up = near.0;
      few = omega arith;
      compact = near.1;
      start = text_entered (bytes_of words) entry.0 (entry_point_of items) data_pages entry.1 (let w = entry.2 in omega arith);
    })

readable_same : (first : ℕ) (rights : Rights) (bytes : List ℕ) (ks : List ℕ) → readable rights ≡ rights → map readable_page (map (nth_page first rights bytes) ks) ≡ map (nth_page first rights bytes) ks
unfolding readable_page
readable_same first rights bytes [] e = refl
readable_same first rights bytes (k ∷ ks) e = λ i. record { number = first + k; page = record { rights = e i; bytes = (nth_page first rights bytes k).page.bytes } } ∷ readable_same first rights bytes ks e i

map_append : (xs ys : List ImagePage) → map readable_page (xs ++ ys) ≡ map readable_page xs ++ map readable_page ys
map_append [] ys = refl
map_append (x ∷ xs) ys = ap (λ l. readable_page x ∷ l) (map_append xs ys)

-- the rights of these pages stay
pub image_from_parts : (items : List Item) (words bytes : List ℕ) → image_of_parts (entry_point_of items) (byte_pages 16 text_rights (bytes_of words) ++ byte_pages (section_start items Data / 4096) data_rights bytes) ≡ image_of items words bytes
unfolding image_of_parts image_of byte_pages readable
image_from_parts items words bytes =
    let first : ℕ = section_start items Data / 4096 in
    λ i. record {
      entry = entry_point_of items;
      pages = (map_append (map (nth_page 16 text_rights (bytes_of words)) (range_with_len 0 (page_count (bytes_of words)))) (map (nth_page first data_rights bytes) (range_with_len 0 (page_count bytes)))
          ∙ (λ j. readable_same 16 text_rights (bytes_of words) (range_with_len 0 (page_count (bytes_of words))) refl j ++ readable_same first data_rights bytes (range_with_len 0 (page_count bytes)) refl j)) i;
    }

pub ok_from_no_fault : {A E : Type 0} (r : Result A E) → result_err r ≡ None → IsOk r
ok_from_no_fault (Ok x) e = refl
ok_from_no_fault (Err fault) e = cc
