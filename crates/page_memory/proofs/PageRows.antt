-- Laws of pages whose bytes stand in one row.
use Rattle.std.proofs.Common.{◌≡◌, ℕ, zero, suc, ◌+◌, ◌*◌, ◌≤◌, ◌<◌, List, [], ◌∷◌, ◌++◌, length, take, drop, position, ◌==◌, Option, Some, None, refl, sym, ap, ◌∙◌, arith, append-nil, append_assoc, replicate, subst, ◌%◌, ◌≢◌, option_map, option_and_then, Result, Ok, Err, ne_eqb}
use Rattle.std.specs.Option.{IsSomeAnd}
use Rattle.std.proofs.lemmas.Option.{same_Some, none-some}
use Rattle.std.proofs.lemmas.List.{take_at, drop_at, take_all, take-append-le, drop-append-le, length-drop, length-append, length-take-le, length-replicate, drop-drop}
use Rattle.page_memory.specs.declared.rights.Rights.{Rights}
use Rattle.byteorder.specs.Endian.{little_bytes, little_number}
use Rattle.std.specs.Ordering.{nat_cmp}
use Rattle.std.specs.FinMap.{get, from_entries}
use Rattle.page_memory.specs.declared.words.Width.{Width}
use Rattle.page_memory.specs.declared.words.Width.TheVariants.{Byte, Half, Word}
use Rattle.page_memory.specs.declared.words.Access.{Access}
use Rattle.page_memory.specs.declared.words.Access.TheVariants.{Load, Store}
use Rattle.page_memory.specs.declared.fault.MemoryFault.{MemoryFault}
use Rattle.page_memory.specs.declared.fault.MemoryFault.TheVariants.{Misaligned}
use Rattle.page_memory.specs.Words.{page_number, bytes_in, page_offset}
use Rattle.page_memory.specs.Rights.{may, read_write}
use Rattle.page_memory.specs.Pages.{Page, Pages, zero_page, overwritten, usable, with_right, answer_by, aligned_page, if_aligned, number_at, copied_out}
use Rattle.page_memory.specs.Remembered.{StandsAt}
use Rattle.page_memory.proofs.EntriesLaws.{value_by_place}
use Rattle.page_memory.proofs.AccessLaws.{usable_found, aligned_usable}
use Rattle.page_memory.specs.Entries.{pages_of, place_of, value_at, with_value, added_unless, added, with_added, LacksOne}
use Rattle.page_memory.specs.PageRow.{pages_in, page_of_row, with_page, Rewritten}

pages_same : (es : List (ℕ × Rights)) (bytes : List ℕ) → pages_of (pages_in es bytes) ≡ pages_of es
unfolding pages_in
pages_same [] bytes = refl
pages_same (e ∷ es) bytes = ap (λ l. e.0 ∷ l) (pages_same es (drop 4096 bytes))

pub same_place : (page : ℕ) (es : List (ℕ × Rights)) (bytes : List ℕ) → place_of page (pages_in es bytes) ≡ place_of page es
same_place page es bytes = ap (position (λ listed. listed == page)) (pages_same es bytes)

pub as_many : (es : List (ℕ × Rights)) (bytes : List ℕ) → length (pages_in es bytes) ≡ length es
unfolding pages_in
as_many [] bytes = refl
as_many (e ∷ es) bytes = ap (λ n. suc n) (as_many es (drop 4096 bytes))

-- what an option has of which something holds
pub had : {X : Type 0} (P : X → Type 0) (o : Option X) → IsSomeAnd o P → (x : X) × ((o ≡ Some x) × P x)
had P None is = absurd is
had P (Some x) is = (x, (refl, is))

pub some_rights : (es : List (ℕ × Rights)) (place : ℕ) → place < length es → (rights : Rights) × (value_at place es ≡ Some rights)
some_rights [] place within = absurd (omega arith)
some_rights (e ∷ es) zero within = (e.1, refl)
some_rights (e ∷ es) (suc place) within = some_rights es place (omega arith)

-- the page at a place
pub page_there : (es : List (ℕ × Rights)) (bytes : List ℕ) (place : ℕ) (rights : Rights) → value_at place es ≡ Some rights
    → value_at place (pages_in es bytes) ≡ Some (record { rights = rights; bytes = take 4096 (drop (place * 4096) bytes) })
unfolding pages_in
page_there [] bytes place rights is = absurd (none-some _ is)
page_there (e ∷ es) bytes zero rights is = ap (λ (r : Rights). Some (record { rights = r; bytes = take 4096 bytes })) (same_Some _ _ is)
page_there (e ∷ es) bytes (suc place) rights is =
    let on : 4096 + place * 4096 ≡ suc place * 4096 = omega arith in
    page_there es (drop 4096 bytes) place rights is
    ∙ ap (λ (l : List ℕ). Some (record { rights = rights; bytes = take 4096 l })) (drop-drop (place * 4096) 4096 bytes ∙ ap (λ n. drop n bytes) on)

-- before and behind a cut
fore : (m a : ℕ) (xs rest : List ℕ) → m ≤ length xs → take m (take (m + a) xs ++ rest) ≡ take m xs
fore zero a xs rest within = refl
fore (suc m) a [] rest within = absurd (omega arith)
fore (suc m) a (x ∷ xs) rest within =
    let e : suc m + a ≡ suc (m + a) = omega arith in
    ap (λ n. take (suc m) (take n (x ∷ xs) ++ rest)) e ∙ ap (λ l. x ∷ l) (fore m a xs rest (omega arith))

behind : (m a : ℕ) (xs rest : List ℕ) → m ≤ length xs → drop m (take (m + a) xs ++ rest) ≡ take a (drop m xs) ++ rest
behind zero a xs rest within = let e : 0 + a ≡ a = omega arith in ap (λ n. take n xs ++ rest) e
behind (suc m) a [] rest within = absurd (omega arith)
behind (suc m) a (x ∷ xs) rest within =
    let e : suc m + a ≡ suc (m + a) = omega arith in
    ap (λ n. drop (suc m) (take n (x ∷ xs) ++ rest)) e ∙ behind m a xs rest (omega arith)

-- one page's bytes are written
pub row_written : (es : List (ℕ × Rights)) (bytes : List ℕ) (place : ℕ) (new : List ℕ) (page : Page) → length bytes ≡ length es * 4096 → length new ≡ 4096
    → value_at place (pages_in es bytes) ≡ Some page → pages_in es (with_page place new bytes) ≡ with_value (pages_in es bytes) place (record page { bytes = new })
unfolding pages_in with_value
row_written [] bytes place new page all whole is = absurd (none-some _ is)
row_written (e ∷ es) bytes zero new page all whole is =
    let was = same_Some _ _ is in
    let first : take 4096 (new ++ drop 4096 bytes) ≡ new = take_at new (drop 4096 bytes) 4096 whole in
    let others : drop 4096 (new ++ drop 4096 bytes) ≡ drop 4096 bytes = drop_at new (drop 4096 bytes) 4096 whole in
    λ i. (e.0, record { rights = (was i).rights; bytes = first i }) ∷ pages_in es (others i)
row_written (e ∷ es) bytes (suc place) new page all whole is =
    let long : 4096 ≤ length bytes = omega arith in
    let at : suc place * 4096 ≡ 4096 + place * 4096 = omega arith in
    let past : suc place * 4096 + 4096 ≡ 4096 + (place * 4096 + 4096) = omega arith in
    let rest : List ℕ = new ++ drop (4096 + (place * 4096 + 4096)) bytes in
    let same : with_page (suc place) new bytes ≡ take (4096 + place * 4096) bytes ++ rest = λ i. take (at i) bytes ++ (new ++ drop (past i) bytes) in
    let first : take 4096 (with_page (suc place) new bytes) ≡ take 4096 bytes = ap (take 4096) same ∙ fore 4096 (place * 4096) bytes rest long in
    let others : drop 4096 (with_page (suc place) new bytes) ≡ with_page place new (drop 4096 bytes) =
    ap (drop 4096) same ∙ behind 4096 (place * 4096) bytes rest long
    ∙ ap (λ l. take (place * 4096) (drop 4096 bytes) ++ (new ++ l)) (sym (drop-drop (place * 4096 + 4096) 4096 bytes)) in
    let left = length-drop 4096 bytes in
    (λ i. (e.0, record { rights = e.1; bytes = first i }) ∷ pages_in es (others i))
    ∙ ap (λ l. (e.0, record { rights = e.1; bytes = take 4096 bytes }) ∷ l) (row_written es (drop 4096 bytes) place new page (omega arith) whole is)

-- a page comes behind the others
pub row_pushed : (es : List (ℕ × Rights)) (bytes : List ℕ) (number : ℕ) (rights : Rights) (new : List ℕ) → length bytes ≡ length es * 4096 → length new ≡ 4096
    → pages_in (es ++ (number, rights) ∷ []) (bytes ++ new) ≡ pages_in es bytes ++ (number, record { rights = rights; bytes = new }) ∷ []
unfolding pages_in
row_pushed [] [] number rights new all whole = ap (λ (l : List ℕ). (number, record { rights = rights; bytes = l }) ∷ []) (take_all 4096 new (omega arith))
row_pushed [] (b ∷ bytes) number rights new all whole = absurd (omega arith)
row_pushed (e ∷ es) bytes number rights new all whole =
    let first : take 4096 (bytes ++ new) ≡ take 4096 bytes = take-append-le 4096 bytes new (omega arith) in
    let others : drop 4096 (bytes ++ new) ≡ drop 4096 bytes ++ new = drop-append-le 4096 bytes new (omega arith) in
    let left = length-drop 4096 bytes in
    (λ i. (e.0, record { rights = e.1; bytes = first i }) ∷ pages_in (es ++ (number, rights) ∷ []) (others i))
    ∙ ap (λ l. (e.0, record { rights = e.1; bytes = take 4096 bytes }) ∷ l) (row_pushed es (drop 4096 bytes) number rights new (omega arith) whole)

abbrev pub zeros : ℕ → List ℕ
zeros count = replicate count 0

replicated : (m n : ℕ) → zeros (m + n) ≡ zeros m ++ zeros n
replicated zero n = let e : 0 + n ≡ n = omega arith in ap zeros e
replicated (suc m) n = let e : suc m + n ≡ suc (m + n) = omega arith in ap zeros e ∙ ap (λ l. 0 ∷ l) (replicated m n)

-- pages of zeros come behind the others: so many more, with their zeros behind the bytes
pub record ZeroedRow (first count : ℕ) (es : List (ℕ × Rights)) (bytes : List ℕ) : Type 0 where
  pub more : ℕ
  pub few : more ≤ count
  pub long : length (with_added first count read_write es) ≡ length es + more
  pub row : pages_in (with_added first count read_write es) (bytes ++ zeros (more * 4096)) ≡ with_added first count zero_page (pages_in es bytes)

-- one more
zeroed_one : (now : List (ℕ × Rights)) (bytes : List ℕ) (number k : ℕ) → length (bytes ++ zeros (k * 4096)) ≡ length now * 4096
    → pages_in (now ++ (number, read_write) ∷ []) (bytes ++ zeros (suc k * 4096)) ≡ pages_in now (bytes ++ zeros (k * 4096)) ++ (number, zero_page) ∷ []
zeroed_one now bytes number k room =
    let count : suc k * 4096 ≡ k * 4096 + 4096 = omega arith in
    let more : bytes ++ zeros (suc k * 4096) ≡ (bytes ++ zeros (k * 4096)) ++ zeros 4096 =
    ap (λ n. bytes ++ zeros n) count ∙ ap (λ l. bytes ++ l) (replicated (k * 4096) 4096) ∙ sym (append_assoc bytes (zeros (k * 4096)) (zeros 4096)) in
    ap (pages_in (now ++ (number, read_write) ∷ [])) more
    ∙ row_pushed now (bytes ++ zeros (k * 4096)) number read_write (zeros 4096) room (length-replicate {A = ℕ} 4096 0)

module _ (es : List (ℕ × Rights)) (bytes : List ℕ) (all : length bytes ≡ length es * 4096) where
  zeroed_next : (first count : ℕ) (place : Option ℕ) → place_of (first + count) (with_added first count read_write es) ≡ place → ZeroedRow first count es bytes → ZeroedRow first (suc count) es bytes
  unfolding with_added added
  zeroed_next first count (Some place) at before =
      let now = with_added first count read_write es in
      let rows = bytes ++ zeros (before.more * 4096) in
      let same : with_added first (suc count) read_write es ≡ now = ap (λ o. added_unless o (first + count) read_write now) at in
      let there : place_of (first + count) (with_added first count zero_page (pages_in es bytes)) ≡ Some place =
      ap (place_of (first + count)) (sym before.row) ∙ same_place (first + count) now rows ∙ at in
      record {
        more = before.more;
        few = (let few = before.few in omega (arith, few));
        long = ap length same ∙ before.long;
        row = ap (λ l. pages_in l rows) same ∙ before.row ∙ sym (ap (λ o. added_unless o (first + count) zero_page (with_added first count zero_page (pages_in es bytes))) there);
      }
  zeroed_next first count None at before =
      let now = with_added first count read_write es in
      let rows = bytes ++ zeros (before.more * 4096) in
      let same : with_added first (suc count) read_write es ≡ now ++ (first + count, read_write) ∷ [] = ap (λ o. added_unless o (first + count) read_write now) at in
      let nowhere : place_of (first + count) (with_added first count zero_page (pages_in es bytes)) ≡ None =
      ap (place_of (first + count)) (sym before.row) ∙ same_place (first + count) now rows ∙ at in
      let long = before.long in
      let room : length rows ≡ length now * 4096 = omega (arith, length-append bytes (zeros (before.more * 4096)), length-replicate {A = ℕ} (before.more * 4096)) in
      record {
        more = suc before.more;
        few = (let few = before.few in omega (arith, few));
        long = ap length same ∙ (let n = length-append now ((first + count, read_write) ∷ []) in omega (arith, n, long));
        row =
            ap (λ l. pages_in l (bytes ++ zeros (suc before.more * 4096))) same ∙ zeroed_one now bytes (first + count) before.more room ∙ ap (λ l. l ++ (first + count, zero_page) ∷ []) before.row
            ∙ sym (ap (λ o. added_unless o (first + count) zero_page (with_added first count zero_page (pages_in es bytes))) nowhere);
      }

  pub zeroed_row : (first count : ℕ) → ZeroedRow first count es bytes
  unfolding with_added
  zeroed_row first zero = record { more = 0; few = omega arith; long = omega arith; row = ap (pages_in es) (append-nil bytes) }
  zeroed_row first (suc count) = zeroed_next first count (place_of (first + count) (with_added first count read_write es)) refl (zeroed_row first count)

  pub row_lacks : (first count : ℕ) → LacksOne first count es → LacksOne first count (pages_in es bytes)
  row_lacks first count lacks =
      record { number = lacks.number; above = lacks.above; below = lacks.below; absent = same_place lacks.number es bytes ∙ lacks.absent }

-- what a write to a part of the row leaves
pub part_written : (a k : ℕ) (xs ys zs : List ℕ) → k ≡ 4096 → ys ≡ zs → take a xs ++ (ys ++ drop k (drop a xs)) ≡ take a xs ++ (zs ++ drop (a + 4096) xs)
part_written a k xs ys zs size same = λ i. take a xs ++ (same i ++ (drop-drop k a xs ∙ ap (λ m. drop (a + m) xs) size) i)

long_overwritten : (xs : List ℕ) (o : ℕ) (w : List ℕ) → length xs ≡ 4096 → o + length w ≤ 4096 → length (overwritten xs o w) ≡ 4096
long_overwritten xs o w whole fits =
    omega (arith, length-append (take o xs) (w ++ drop (o + length w) xs), length-append w (drop (o + length w) xs), length-take-le o xs (omega arith), length-drop (o + length w) xs)

pub offset_fits : (width : Width) (offset word : ℕ) → offset % bytes_in width ≡ 0 → offset < 4096 → offset + length (little_bytes (bytes_in width) word) ≤ 4096
offset_fits Byte offset word aligned small = omega arith
offset_fits Half offset word aligned small = omega arith
offset_fits Word offset word aligned small = omega arith

module _ (es : List (ℕ × Rights)) (bytes : List ℕ) (place : ℕ) (now : List (ℕ × Page)) where
  -- the page at a place lies within the row
  pub lies_within : pages_in es bytes ≡ now → length bytes ≡ length es * 4096 → place < length now → place * 4096 + 4096 ≤ length bytes
  lies_within is all within = let n : length now ≡ length es = ap length (sym is) ∙ as_many es bytes in omega arith

  pub within_rights : pages_in es bytes ≡ now → place < length now → place < length es
  within_rights is within = let n : length now ≡ length es = ap length (sym is) ∙ as_many es bytes in omega arith

  shows : pages_in es bytes ≡ now → (rights : Rights) → value_at place es ≡ Some rights → value_at place now ≡ Some (record { rights = rights; bytes = page_of_row place bytes })
  shows is rights there = ap (value_at place) (sym is) ∙ page_there es bytes place rights there

  pub shows_rights : (rights : Rights) → pages_in es bytes ≡ now → value_at place es ≡ Some rights → IsSomeAnd (value_at place now) (λ page. page.rights ≡ rights)
  shows_rights rights is there = subst (λ (o : Option Page). IsSomeAnd o (λ page. page.rights ≡ rights)) (sym (shows is rights there)) refl

  pub shows_bytes : (seen : List ℕ) → pages_in es bytes ≡ now → place < length now → seen ≡ page_of_row place bytes → IsSomeAnd (value_at place now) (λ page. page.bytes ≡ seen)
  shows_bytes seen is within same =
      let r = some_rights es place (within_rights is within) in
      subst (λ (o : Option Page). IsSomeAnd o (λ page. page.bytes ≡ seen)) (sym (shows is r.0 r.1)) (sym same)

  pub rewritten : (offset : ℕ) (w bytes' : List ℕ) → pages_in es bytes ≡ now → length bytes ≡ length es * 4096 → place < length now → offset + length w ≤ 4096
      → bytes' ≡ with_page place (overwritten (page_of_row place bytes) offset w) bytes → Rewritten place offset w now (pages_in es bytes')
  rewritten offset w bytes' is all within fits made =
      let r = some_rights es place (within_rights is within) in
      let page : Page = record { rights = r.0; bytes = page_of_row place bytes } in
      let there : value_at place (pages_in es bytes) ≡ Some page = page_there es bytes place r.0 r.1 in
      let lies = lies_within is all within in
      let whole : length (page_of_row place bytes) ≡ 4096 = length-take-le 4096 (drop (place * 4096) bytes) (omega (arith, length-drop (place * 4096) bytes)) in
      let changed : pages_in es bytes' ≡ with_value now place (record page { bytes = overwritten page.bytes offset w }) =
      ap (pages_in es) made ∙ row_written es bytes place (overwritten page.bytes offset w) page all (long_overwritten page.bytes offset w whole fits) there
      ∙ ap (λ l. with_value l place (record page { bytes = overwritten page.bytes offset w })) is in
      subst (λ (o : Option Page). IsSomeAnd o (λ page. pages_in es bytes' ≡ with_value now place (record page { bytes = overwritten page.bytes offset w }))) (sym (shows is r.0 r.1)) changed

-- the page that an access may use, by its place
pub not_usable : (pages : List (ℕ × Page)) (access : Access) (address number : ℕ) (fault : MemoryFault) → number ≡ page_number address
    → with_right access (get (from_entries {R = nat_cmp} pages) number) ≡ Err fault → usable (from_entries {R = nat_cmp} pages) access address ≡ Err fault
unfolding usable
not_usable pages access address number fault same is = ap (λ n. with_right access (get (from_entries {R = nat_cmp} pages) n)) (sym same) ∙ is

pub usable_there : (access : Access) (pages : List (ℕ × Page)) (address place : ℕ) (page : Page) → StandsAt access pages (page_number address) place → value_at place pages ≡ Some page
    → usable (from_entries {R = nat_cmp} pages) access address ≡ Ok page
usable_there access pages address place page stands is =
    let found : get (from_entries {R = nat_cmp} pages) (page_number address) ≡ Some page = value_by_place pages (page_number address) ∙ ap (option_and_then (λ k. value_at k pages)) stands.there ∙ is in
    usable_found (from_entries pages) access address page found (same_Some _ _ (sym (ap (option_map (λ p. may access p.rights)) is) ∙ stands.allowed))

-- what is read of its bytes
read_of : {A : Type 0} (f : List ℕ → A) (answer : Result Page MemoryFault) (bytes : List ℕ) → answer_by (λ page. page.bytes) answer ≡ Ok bytes → answer_by (λ page. f page.bytes) answer ≡ Ok (f bytes)
read_of f (Ok page) bytes is = let same : page.bytes ≡ bytes = cc in ap (λ l. Ok (f l)) same
read_of f (Err fault) bytes is = cc

pub replace_misaligned : (memory : Pages) (address : ℕ) → address % 4 ≢ 0 → answer_by (number_at 4 address) (aligned_page memory Store 4 address) ≡ Err Misaligned
unfolding aligned_page
replace_misaligned memory address odd = ap (λ b. answer_by (number_at 4 address) (if_aligned b (usable memory Store address))) (ne_eqb (address % 4) 0 odd)

pub replace_refused : (memory : Pages) (address : ℕ) (fault : MemoryFault) → address % 4 ≡ 0 → usable memory Store address ≡ Err fault → answer_by (number_at 4 address) (aligned_page memory Store 4 address) ≡ Err fault
replace_refused memory address fault aligned is = ap (answer_by (number_at 4 address)) (aligned_usable memory Store 4 address _ aligned is)

pub replace_read : (memory : Pages) (address : ℕ) (bytes : List ℕ) → address % 4 ≡ 0 → answer_by (λ page. page.bytes) (usable memory Store address) ≡ Ok bytes
    → answer_by (number_at 4 address) (aligned_page memory Store 4 address) ≡ Ok (little_number 4 (drop (page_offset address) bytes))
replace_read memory address bytes aligned is =
    ap (answer_by (number_at 4 address)) (aligned_usable memory Store 4 address (usable memory Store address) aligned refl)
    ∙ read_of (λ l. little_number 4 (drop (page_offset address) l)) (usable memory Store address) bytes is

pub ruleset replacing = (replace_misaligned, replace_refused, replace_read)

pub copy_refused : (memory : Pages) (address count : ℕ) (fault : MemoryFault) → usable memory Load address ≡ Err fault → copied_out memory address count ≡ Err fault
unfolding copied_out
copy_refused memory address count fault is = ap (answer_by (λ page. take count (drop (page_offset address) page.bytes))) is

pub copy_read : (memory : Pages) (address count : ℕ) (bytes : List ℕ) → answer_by (λ page. page.bytes) (usable memory Load address) ≡ Ok bytes
    → copied_out memory address count ≡ Ok (take count (drop (page_offset address) bytes))
unfolding copied_out
copy_read memory address count bytes is = read_of (λ l. take count (drop (page_offset address) l)) (usable memory Load address) bytes is

pub ruleset copying = (copy_refused, copy_read)
