-- Bytes of one page, and bytes of one page after another.
use Rattle.std.proofs.Common.{◌≡◌, ◌≤◌, ◌<◌, ℕ, zero, suc, ◌+◌, ◌-◌, List, [], ◌∷◌, ◌++◌, length, map, take, drop, replicate, Option, Some, None, option_map, refl, sym, ap, ◌∙◌, arith}
use Rattle.std.specs.Prelude.{min, slice_index}
use Rattle.std.proofs.lemmas.List.{drop_at, drop_more, drop-drop, length-append, length-drop, length-map, length-take, length-take-le, take_at}
use Rattle.std.proofs.lemmas.Option.{none-some, same_Some}
use Rattle.page_memory.specs.Pages.{Page}
use Rattle.page_memory.specs.Pages as plain
use Rattle.page_memory.specs.Memory.{Memory, byte_at}
use Rattle.page_memory.specs.Words.{page_number, page_offset}
use Rattle.page_store.specs.Reading.{some_from}
use Rattle.paged_memory.specs.Peeking.{bytes_of}
use Rattle.paged_memory.specs.Showing.{mapped_page}
use Rattle.debug_core.specs.Points.{bytes_from}

-- an address further on in the same page
same_page : (address j : ℕ) → page_offset address + j < 4096 → page_number (address + j) ≡ page_number address
same_page address j within = omega (arith, within)

offset_on : (address j : ℕ) → page_offset address + j < 4096 → page_offset (address + j) ≡ page_offset address + j
offset_on address j within = omega (arith, within)

-- ---- of one page

-- the bytes of a page, one by one
by_page : (memory : Memory) (address : ℕ) (page : Page) → mapped_page memory (page_number address) ≡ Some page → (count j : ℕ) → page_offset address + (j + count) ≤ 4096 → page_offset address + (j + count) ≤ length page.bytes
    → some_from page.bytes (page_offset address + j) count ≡ bytes_from memory (address + j) count
unfolding some_from bytes_from plain.byte_at
by_page memory address page at zero j within size = refl
by_page memory address page at (suc count) j within size =
    let offset : ℕ = page_offset address in
    let here : byte_at memory (address + j) ≡ Some (slice_index page.bytes (offset + j)) =
    ap (λ n. option_map (λ (p : Page). slice_index p.bytes (page_offset (address + j))) (mapped_page memory n)) (same_page address j (omega (arith, within)))
    ∙ ap (option_map (λ (p : Page). slice_index p.bytes (page_offset (address + j)))) at
    ∙ ap (λ o. Some (slice_index page.bytes o)) (offset_on address j (omega (arith, within))) in
    let further : offset + j + 1 ≡ offset + (j + 1) = omega arith in
    let after : address + (j + 1) ≡ address + j + 1 = omega arith in
    ap (λ l. map Some (take (suc count) l)) (drop_more page.bytes (offset + j) 0 (omega (arith, size)))
    ∙ ap (λ k. Some (slice_index page.bytes (offset + j)) ∷ some_from page.bytes k count) further
    ∙ ap (λ l. Some (slice_index page.bytes (offset + j)) ∷ l) (by_page memory address page at count (j + 1) (omega (arith, within)) (omega (arith, size)))
    ∙ ap (λ a. Some (slice_index page.bytes (offset + j)) ∷ bytes_from memory a count) after
    ∙ ap (λ b. b ∷ bytes_from memory (address + j + 1) count) (sym here)

length_some : (bytes : List ℕ) (offset count : ℕ) → length (some_from bytes offset count) ≡ min count (length bytes - offset)
unfolding some_from
length_some bytes offset count = length-map (take count (drop offset bytes)) Some ∙ length-take count (drop offset bytes) ∙ ap (min count) (length-drop offset bytes)

nothing : (memory : Memory) (address : ℕ) → [] ≡ bytes_from memory address 0
unfolding bytes_from
nothing memory address = refl

pub in_page : (memory : Memory) (address count : ℕ) (bytes : List (Option ℕ)) → page_offset address + count ≤ 4096 → length bytes ≡ count → bytes_of memory address count ≡ Some bytes → bytes ≡ bytes_from memory address count
in_page memory address zero [] within size is = nothing memory address
in_page memory address zero (b ∷ bytes) within size is = absurd (omega (arith, size))
in_page memory address (suc count) bytes within size is = by_get (mapped_page memory (page_number address)) refl is
  where
    by_get : (o : Option Page) → mapped_page memory (page_number address) ≡ o → option_map (λ (page : Page). some_from page.bytes (page_offset address) (suc count)) o ≡ Some bytes → bytes ≡ bytes_from memory address (suc count)
    by_get None at none = absurd (none-some _ none)
    by_get (Some page) at some =
        let read : some_from page.bytes (page_offset address) (suc count) ≡ bytes = same_Some _ _ some in
        let long : min (suc count) (length page.bytes - page_offset address) ≡ suc count = sym (length_some page.bytes (page_offset address) (suc count)) ∙ ap length read ∙ size in
        let whole : page_offset address + (0 + suc count) ≤ length page.bytes = omega (arith, long) in
        let start : page_offset address ≡ page_offset address + 0 = omega arith in
        let first : address + 0 ≡ address = omega arith in
        sym read
        ∙ ap (λ o. some_from page.bytes o (suc count)) start
        ∙ by_page memory address page at (suc count) 0 (omega (arith, within)) whole
        ∙ ap (λ a. bytes_from memory a (suc count)) first

-- where the page of an address is not mapped
pub no_page : (memory : Memory) (address count : ℕ) → page_offset address + count ≤ 4096 → byte_at memory address ≡ None → replicate count None ≡ bytes_from memory address count
unfolding bytes_from plain.byte_at
no_page memory address count within missing = let first : address + 0 ≡ address = omega arith in on count 0 (omega (arith, within)) ∙ ap (λ a. bytes_from memory a count) first
  where
    nowhere : (o : Option Page) (offset offset' : ℕ) → option_map (λ (page : Page). slice_index page.bytes offset) o ≡ None → option_map (λ (page : Page). slice_index page.bytes offset') o ≡ None
    nowhere None offset offset' e = refl
    nowhere (Some page) offset offset' e = absurd (none-some _ (sym e))

    none_at : (j : ℕ) → page_offset address + j < 4096 → byte_at memory (address + j) ≡ None
    none_at j below =
        ap (λ n. option_map (λ (page : Page). slice_index page.bytes (page_offset (address + j))) (mapped_page memory n)) (same_page address j below)
        ∙ nowhere (mapped_page memory (page_number address)) (page_offset address) (page_offset (address + j)) missing

    on : (count j : ℕ) → page_offset address + (j + count) ≤ 4096 → replicate count None ≡ bytes_from memory (address + j) count
    on zero j within = refl
    on (suc count) j within =
        let after : address + (j + 1) ≡ address + j + 1 = omega arith in
        ap (λ b. b ∷ replicate count None) (sym (none_at j (omega (arith, within))))
        ∙ ap (λ l. byte_at memory (address + j) ∷ l) (on count (j + 1) (omega (arith, within)) ∙ ap (λ a. bytes_from memory a count) after)

-- ---- of one page after another

length_from : (memory : Memory) (address count : ℕ) → length (bytes_from memory address count) ≡ count
unfolding bytes_from
length_from memory address zero = refl
length_from memory address (suc count) = ap suc (length_from memory (address + 1) count)

from_both : (memory : Memory) (count more address : ℕ) → bytes_from memory address count ++ bytes_from memory (address + count) more ≡ bytes_from memory address (count + more)
unfolding bytes_from
from_both memory zero more address =
    let same : address + 0 ≡ address = omega arith in
    let none : more ≡ 0 + more = omega arith in
    ap (λ a. bytes_from memory a more) same ∙ ap (bytes_from memory address) none
from_both memory (suc count) more address =
    let next : address + suc count ≡ address + 1 + count = omega arith in
    let all : suc (count + more) ≡ suc count + more = omega arith in
    ap (λ a. byte_at memory address ∷ bytes_from memory (address + 1) count ++ bytes_from memory a more) next
    ∙ ap (λ l. byte_at memory address ∷ l) (from_both memory count more (address + 1))
    ∙ ap (bytes_from memory address) all

joined : (front middle back : List (Option ℕ)) → front ++ (middle ++ back) ≡ (front ++ middle) ++ back
joined [] middle back = refl
joined (x ∷ front) middle back = ap (λ l. x ∷ l) (joined front middle back)

-- the bytes of the next page put in their place
pub page_more : (memory : Memory) (address i count k : ℕ) (bytes first part : List (Option ℕ)) → k ≡ count → bytes ≡ bytes_from memory address i ++ drop i first → part ≡ bytes_from memory (address + i) count
    → take i bytes ++ (part ++ drop k (drop i bytes)) ≡ bytes_from memory address (i + count) ++ drop (i + count) first
page_more memory address i count k bytes first part as_many is read =
    let size = length_from memory address i in
    ap (λ n. take i bytes ++ (part ++ drop n (drop i bytes))) as_many
    ∙ ap (λ l. take i l ++ (part ++ drop count (drop i l))) is
    ∙ ap (λ l. l ++ (part ++ drop count (drop i (bytes_from memory address i ++ drop i first)))) (take_at (bytes_from memory address i) (drop i first) i size)
    ∙ ap (λ l. bytes_from memory address i ++ (part ++ drop count l)) (drop_at (bytes_from memory address i) (drop i first) i size)
    ∙ ap (λ l. bytes_from memory address i ++ (part ++ l)) (drop-drop count i first)
    ∙ ap (λ p. bytes_from memory address i ++ (p ++ drop (i + count) first)) read
    ∙ joined (bytes_from memory address i) (bytes_from memory (address + i) count) (drop (i + count) first)
    ∙ ap (λ l. l ++ drop (i + count) first) (from_both memory i count address)

-- as many as before
pub page_size : (memory : Memory) (address done : ℕ) (first : List (Option ℕ)) → done ≤ length first → length (bytes_from memory address done ++ drop done first) ≡ length first
page_size memory address done first within =
    let front = length_from memory address done in
    let back = length-drop done first in
    let both = length-append (bytes_from memory address done) (drop done first) in
    omega (arith, front, back, both, within)

-- the room for the next page
pub part_size : {A : Type 0} (bytes : List A) (i count k : ℕ) → k ≡ count → i + count ≤ length bytes → length (take k (drop i bytes)) ≡ count
part_size bytes i count k as_many within =
    ap (λ n. length (take n (drop i bytes))) as_many ∙ length-take-le count (drop i bytes) (let l = length-drop i bytes in omega (arith, l, within))
