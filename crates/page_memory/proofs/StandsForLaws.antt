-- What holds of the map that entries stand for, page by page: how it is looked up, and what becomes of it
-- where one page changes or pages are added.
use Rattle.std.proofs.Common.{◌≡◌, ℕ, zero, suc, ◌+◌, ◌%◌, position, ◌==◌, List, [], ◌∷◌, ◌++◌, map, Option, Some, None, option_map, option_and_then, Bool, true, false, cond, Ok, refl, sym, ap, ◌∙◌}
use Rattle.std.proofs.lemmas.List.{map-append}
use Rattle.std.specs.Ordering.{nat_cmp, eq_by_cmp}
use Rattle.std.specs.Cmp.{nat_cmp_total}
use Rattle.std.specs.FinMap.{get, insert, from_entries, find, get-from_entries, get-insert, same_map, nat_cmp-IsAntisymmetric}
use Rattle.byteorder.specs.Endian.{little_bytes}
use Rattle.page_memory.specs.declared.words.Access.{Access}
use Rattle.page_memory.specs.declared.words.Access.TheVariants.{Store}
use Rattle.page_memory.specs.declared.words.Width.{Width}
use Rattle.page_memory.specs.Words.{page_number, page_offset, bytes_in}
use Rattle.page_memory.specs.Rights.{may}
use Rattle.page_memory.specs.Pages.{Page, zero_page, with_zeroed, HasGap, usable, with_right, overwritten, stored, copied_in}
use Rattle.page_memory.proofs.ZeroedLaws.{added_zeroed, lacks_page}
use Rattle.page_memory.proofs.AccessLaws.{stored_done, copied_done}
use Rattle.page_memory.specs.Entries.{pages_of, place_of, value_at, with_value, added_unless, added, with_added, map_by, ChangesPage, LacksOne}
use Rattle.page_memory.proofs.EntriesLaws.{value_by_place, replaced_value, inserted, put_back}

module _ {S T : Type 0} (f : S → T) where
  through : (b : Bool) (x : S) (o : Option S) → option_map f (cond b (Some x) o) ≡ cond b (Some (f x)) (option_map f o)
  through true x o = refl
  through false x o = refl

  find-each : (entries : List (ℕ × S)) (q : ℕ) → find nat_cmp q (map (λ e. (e.0, f e.1)) entries) ≡ option_map f (find nat_cmp q entries)
  find-each [] q = refl
  find-each (e ∷ es) q = ap (cond (eq_by_cmp nat_cmp q e.0) (Some (f e.1))) (find-each es q) ∙ sym (through (eq_by_cmp nat_cmp q e.0) e.1 (find nat_cmp q es))

  -- each page has what its entry stands for
  pub get-map_by : (entries : List (ℕ × S)) (q : ℕ) → get (map_by f entries) q ≡ option_map f (get (from_entries {R = nat_cmp} entries) q)
  unfolding map_by
  get-map_by entries q = get-from_entries nat_cmp_total _ q ∙ find-each entries q ∙ ap (option_map f) (sym (get-from_entries nat_cmp_total entries q))

  -- the same by the page's place
  pub get-map_by-place : (entries : List (ℕ × S)) (q : ℕ) → get (map_by f entries) q ≡ option_map f (option_and_then (λ k. value_at k entries) (place_of q entries))
  get-map_by-place entries q = get-map_by entries q ∙ ap (option_map f) (value_by_place entries q)

  -- where one page changes, it alone changes
  pub map_by-changed : (old new : List (ℕ × S)) (page : ℕ) (value : S) → ChangesPage old new page value → map_by f new ≡ insert (map_by f old) page (f value)
  map_by-changed old new page value is =
      same_map nat_cmp_total nat_cmp-IsAntisymmetric _ _ (λ q.
      get-map_by new q ∙ ap (λ m. option_map f (get m q)) is.changed
      ∙ ap (option_map f) (get-insert nat_cmp_total (from_entries old) page value q)
      ∙ through (eq_by_cmp nat_cmp q page) value (get (from_entries {R = nat_cmp} old) q)
      ∙ ap (cond (eq_by_cmp nat_cmp q page) (Some (f value))) (sym (get-map_by old q))
      ∙ sym (get-insert nat_cmp_total (map_by f old) page (f value) q))

  -- where the page stands for what it stood for, nothing changes
  pub map_by-same : (old new : List (ℕ × S)) (page : ℕ) (before value : S) → get (from_entries {R = nat_cmp} old) page ≡ Some before → f value ≡ f before → ChangesPage old new page value → map_by f new ≡ map_by f old
  map_by-same old new page before value was same is =
      map_by-changed old new page value is ∙ ap (insert (map_by f old) page) same
      ∙ put_back (map_by f old) page (f before) (get-map_by old page ∙ ap (option_map f) was)

  -- a page is found at the same place
  pub place_of-each : (entries : List (ℕ × S)) (page : ℕ) → place_of page (map (λ e. (e.0, f e.1)) entries) ≡ place_of page entries
  place_of-each entries page = ap (position (λ p. p == page)) (pages entries)
    where
      pages : (es : List (ℕ × S)) → pages_of (map (λ e. (e.0, f e.1)) es) ≡ pages_of es
      pages [] = refl
      pages (e ∷ es) = ap (λ l. e.0 ∷ l) (pages es)

  each-case : (entries : List (ℕ × S)) (page : ℕ) (value : S) (place : Option ℕ) → map (λ e. (e.0, f e.1)) (added_unless place page value entries) ≡ added_unless place page (f value) (map (λ e. (e.0, f e.1)) entries)
  each-case entries page value None = map-append (λ e. (e.0, f e.1)) entries ((page, value) ∷ [])
  each-case entries page value (Some place) = refl

  each-added : (entries : List (ℕ × S)) (first count : ℕ) (value : S) → map (λ e. (e.0, f e.1)) (with_added first count value entries) ≡ with_added first count (f value) (map (λ e. (e.0, f e.1)) entries)
  unfolding with_added added
  each-added entries first zero value = refl
  each-added entries first (suc count) value =
      each-case (with_added first count value entries) (first + count) value (place_of (first + count) (with_added first count value entries))
      ∙ ap (λ o. added_unless o (first + count) (f value) (map (λ e. (e.0, f e.1)) (with_added first count value entries))) (sym (place_of-each (with_added first count value entries) (first + count)))
      ∙ ap (added (first + count) (f value)) (each-added entries first count value)

-- pages of zeros that are added stand for pages of zeros that are mapped
pub map_by-added : {S : Type 0} (f : S → Page) (entries : List (ℕ × S)) (first count : ℕ) (value : S) → f value ≡ zero_page → map_by f (with_added first count value entries) ≡ with_zeroed first count (map_by f entries)
unfolding map_by
map_by-added f entries first count value zeros =
    ap from_entries (each-added f entries first count value ∙ ap (λ p. with_added first count p (map (λ e. (e.0, f e.1)) entries)) zeros)
    ∙ added_zeroed (map (λ e. (e.0, f e.1)) entries) first count

-- entries that lack one of these page numbers stand for pages that do
pub gap-map_by : {S : Type 0} (f : S → Page) (entries : List (ℕ × S)) (first count : ℕ) → LacksOne first count entries → HasGap first count (map_by f entries)
unfolding map_by
gap-map_by f entries first count lacks =
    lacks_page (map (λ e. (e.0, f e.1)) entries) first count
    (record { number = lacks.number; above = lacks.above; below = lacks.below; absent = place_of-each f entries lacks.number ∙ lacks.absent })

-- the page that an access may use
pub usable-map_by : {S : Type 0} (f : S → Page) (entries : List (ℕ × S)) (access : Access) (address : ℕ) → usable (map_by f entries) access address ≡ with_right access (option_map f (option_and_then (λ k. value_at k entries) (place_of (page_number address) entries)))
unfolding usable
usable-map_by f entries access address = ap (with_right access) (get-map_by-place f entries (page_number address))

-- a store to the page that changes
pub stored-changed : {S : Type 0} (f : S → Page) (old new : List (ℕ × S)) (width : Width) (address word : ℕ) (before value : S) → address % bytes_in width ≡ 0 → get (from_entries {R = nat_cmp} old) (page_number address) ≡ Some before → may Store (f before).rights ≡ true → f value ≡ record (f before) { bytes = overwritten (f before).bytes (page_offset address) (little_bytes (bytes_in width) word) } → ChangesPage old new (page_number address) value → stored (map_by f old) width address word ≡ Ok (map_by f new)
stored-changed f old new width address word before value aligned was allowed is changes =
    stored_done (map_by f old) width address word (f before) aligned (get-map_by f old (page_number address) ∙ ap (option_map f) was) allowed
    ∙ ap Ok (ap (insert (map_by f old) (page_number address)) (sym is) ∙ sym (map_by-changed f old new (page_number address) value changes))

-- bytes that are copied to the page that changes
pub copied-changed : {S : Type 0} (f : S → Page) (old new : List (ℕ × S)) (address : ℕ) (bytes : List ℕ) (before value : S) → get (from_entries {R = nat_cmp} old) (page_number address) ≡ Some before → may Store (f before).rights ≡ true → f value ≡ record (f before) { bytes = overwritten (f before).bytes (page_offset address) bytes } → ChangesPage old new (page_number address) value → copied_in (map_by f old) address bytes ≡ Ok (map_by f new)
copied-changed f old new address bytes before value was allowed is changes =
    copied_done (map_by f old) address bytes (f before) (get-map_by f old (page_number address) ∙ ap (option_map f) was) allowed
    ∙ ap Ok (ap (insert (map_by f old) (page_number address)) (sym is) ∙ sym (map_by-changed f old new (page_number address) value changes))

-- another value at a page's place, or a first value behind the others, changes that page
pub value-changes : {T : Type 0} (entries : List (ℕ × T)) (page place : ℕ) (value : T) → place_of page entries ≡ Some place → ChangesPage entries (with_value entries place value) page value
value-changes entries page place value at = record { changed = replaced_value entries page place value at }

pub entry-changes : {T : Type 0} (entries : List (ℕ × T)) (page : ℕ) (value : T) → place_of page entries ≡ None → ChangesPage entries (entries ++ (page, value) ∷ []) page value
entry-changes entries page value absent = record { changed = inserted entries page value absent }
