-- Pages of zeros are mapped where none is.
use Rattle.std.specs.Prelude.{Result, Ok, Err, OnOk, OnErr, IfOk, ◌≡◌, ℕ, zero, suc, ◌+◌, ◌^◌, ◌<◌, ◌≤◌, ◌==◌, Bool, true, false, cond, if◌then◌else◌, Option, Some, None, option_map, is_some, List, [], ◌∷◌, ◌++◌, refl}
use Rattle.std.proofs.Common.{sym, ap, ◌∙◌, subst, arith, eqb-true}
use Rattle.std.specs.Cmp.{nat_cmp_total}
use Rattle.std.specs.FinMap.{get, from_entries, get-insert}
use Rattle.frame_pool.specs.FrameValue.{zero_bytes}
use Rattle.page_memory.specs.declared.words.Access.TheVariants.{Load, Store}
use Rattle.page_memory.specs.declared.rights.Rights.{Rights}
use Rattle.std.proofs.lemmas.Option.{same_Some, none-some}
use Rattle.page_memory.specs.Rights.{may, read_write}
use Rattle.page_memory.specs.Pages.{Page, with_zeroed, HasGap}
use Rattle.page_memory.specs.Memory as whole
use Rattle.page_memory.specs.Reservations.{Reservations}
use Rattle.page_memory.specs.Entries.{place_of, added, added_unless, with_added, LacksOne}
use Rattle.page_memory.proofs.EntriesLaws.{inserted, place_stays}
use Rattle.page_memory.proofs.StandsForLaws.{entry-changes, map_by-added, gap-map_by}
use Rattle.page_store.specs.PageValue.{PageValue, Fresh, fresh_zero_page}
use Rattle.sv32_table.specs.Entry.{blank}
use Rattle.sv32_table.specs.EntryAt.{entry_at}
use Rattle.tlb_core.specs.declared.translation.Translation.{Translation}
use Rattle.paged_memory.specs.Seen.{entry_seen, frame_seen}
use Rattle.paged_memory.specs.Paged.{PagedValue, seen_of, page_at, seen_at, flat_page, flat_pages, memory_in, Holds, ChangesPage}
use Rattle.page_store.specs.Lending.{with_bytes}
use Rattle.paged_memory.specs.access.HartMemory.{KeepsPages}
use Rattle.paged_memory.proofs.access_laws.HartMemoryLaws.{pages_itself, pages_on}
use Rattle.paged_memory.proofs.SoundnessLaws.{unheld_elsewhere}
use Rattle.paged_memory.proofs.move_laws.PagedLaws.{Change, get-page_at, page_at-nowhere, swap_key, changes_no_entry, Holds-unheld}

readable_zero : (rights : Rights) → Some read_write ≡ Some rights → may Load rights ≡ true
readable_zero rights is = let same : read_write ≡ rights = same_Some _ _ is in subst (λ r. may Load r ≡ true) same refl

module _ {S : Type 0} where
  appended : (pages : List (ℕ × PageValue S)) (number : ℕ) (page : PageValue S) → place_of number pages ≡ None → ChangesPage pages (pages ++ (number, page) ∷ []) number page
  appended pages number page none =
      record {
        places = λ q k at. place_stays pages (number, page) q k at;
        pages = λ q.
            get-page_at (pages ++ (number, page) ∷ []) q ∙ ap (λ m. get m q) (inserted pages number page none)
            ∙ get-insert nat_cmp_total (from_entries pages) number page q ∙ swap_key q number (Some page) (get (from_entries pages) q)
            ∙ ap (λ o. if q == number then Some page else o) (sym (get-page_at pages q));
        entries = entry-changes pages number page none;
      }

  module _ {held : S → List ℕ} {honest : Type 0} {tables : List (List ℕ)} {caches : List (List Translation)} where
    -- one page of zeros
    holds_one : (pages : List (ℕ × PageValue S)) (number : ℕ) → number < 2 ^ 20 → Holds held honest pages tables caches → Holds held honest (added number fresh_zero_page pages) tables caches
    unfolding added
    holds_one pages number small holds = by_place (place_of number pages) refl
      where
        by_place : (o : Option ℕ) → place_of number pages ≡ o → Holds held honest (added_unless o number fresh_zero_page pages) tables caches
        by_place (Some place) at = holds
        by_place None at =
            let seen_none : seen_at pages number ≡ None = ap (option_map seen_of) (page_at-nowhere pages number at) in
            let e_blank : entry_at tables number ≡ blank = (holds.agree.mapped number small).entry ∙ ap (λ s. entry_seen s (entry_at tables number).accessed (entry_at tables number).dirty) seen_none in
            let change : Change held honest pages (pages ++ (number, fresh_zero_page) ∷ []) tables tables number fresh_zero_page (entry_at tables number) =
            record {
              small = small;
              changes = appended pages number fresh_zero_page at;
              entry = changes_no_entry tables number;
              kept = λ q in_range has. has;
              tabled = λ framed. cc;
              mapped = record { entry = e_blank; readable = λ rights is store. readable_zero rights is };
              backed = λ is_honest unchanged. refl;
              constant = λ fixed. tt;
            } in
            Holds-unheld change caches holds (unheld_elsewhere caches number holds.agree (ap frame_seen seen_none))

    -- pages of zeros in a range
    pub holds_zeroed : (pages : List (ℕ × PageValue S)) (first count : ℕ) → first + count ≤ 2 ^ 20 → Holds held honest pages tables caches → Holds held honest (with_added first count fresh_zero_page pages) tables caches
    unfolding with_added
    holds_zeroed pages first zero within holds = holds
    holds_zeroed pages first (suc count) within holds = holds_one (with_added first count fresh_zero_page pages) (first + count) (omega arith) (holds_zeroed pages first count (omega arith) holds)

  -- and the memory that they stand for
  pub memory_zeroed : (held : S → List ℕ) (pages : List (ℕ × PageValue S)) (first count : ℕ) → flat_pages held (with_added first count fresh_zero_page pages) ≡ with_zeroed first count (flat_pages held pages)
  unfolding flat_pages zero_bytes
  memory_zeroed held pages first count = map_by-added (flat_page held) pages first count fresh_zero_page refl

  -- a page number without an entry has no page in the memory that they stand for
  pub gap_shown : (held : S → List ℕ) (pages : List (ℕ × PageValue S)) (first count : ℕ) → LacksOne first count pages → HasGap first count (flat_pages held pages)
  unfolding flat_pages
  gap_shown held pages first count lacks = gap-map_by (flat_page held) pages first count lacks

-- the pages that were there stay, and the others are pages of zeros
module _ {S : Type 0} where
  kept_one : (pages : List (ℕ × PageValue S)) (number : ℕ) → KeepsPages pages (added number fresh_zero_page pages)
  unfolding added
  kept_one pages number = by_place (place_of number pages) refl
    where
      by_place : (o : Option ℕ) → place_of number pages ≡ o → KeepsPages pages (added_unless o number fresh_zero_page pages)
      by_place (Some place) at = pages_itself pages
      by_place None at =
          let changes = appended pages number fresh_zero_page at in
          let none_here : page_at pages number ≡ None = page_at-nowhere pages number at in
          record {
            places = λ q place. changes.places q place;
            bare = λ q there. ap (option_map (λ p. with_bytes p [])) (changes.pages q ∙ other q (q == number) refl none_here there);
            fresh = λ q value none is. here q value (q == number) (sym (changes.pages q) ∙ is) none;
          }
        where
          other : (q : ℕ) (b : Bool) → (q == number) ≡ b → page_at pages number ≡ None → is_some (page_at pages q) ≡ true → cond b (Some fresh_zero_page) (page_at pages q) ≡ page_at pages q
          other q true is none there = let clash : true ≡ false = sym there ∙ ap is_some (ap (page_at pages) (eqb-true q number is) ∙ none) in cc
          other q false is none there = refl

          here : (q : ℕ) (value : PageValue S) (b : Bool) → cond b (Some fresh_zero_page) (page_at pages q) ≡ Some value → page_at pages q ≡ None → value ≡ fresh_zero_page
          here q value true is none = sym (same_Some _ _ is)
          here q value false is none = absurd (none-some _ (sym none ∙ is))

  kept_zeroed : (pages : List (ℕ × PageValue S)) (first count : ℕ) → KeepsPages pages (with_added first count fresh_zero_page pages)
  unfolding with_added
  kept_zeroed pages first zero = pages_itself pages
  kept_zeroed pages first (suc count) = pages_on pages (with_added first count fresh_zero_page pages) (added (first + count) fresh_zero_page (with_added first count fresh_zero_page pages)) (kept_zeroed pages first count) (kept_one (with_added first count fresh_zero_page pages) (first + count))

  pub kept_grown : {U E : Type 0} (result : Result U E) (old new : PagedValue S) (first count : ℕ) → OnOk result (new.pages ≡ with_added first count fresh_zero_page old.pages) → OnErr result (new ≡ old) → KeepsPages old.pages new.pages
  kept_grown (Ok u) old new first count ok err = subst (λ p. KeepsPages old.pages p) (sym ok) (kept_zeroed old.pages first count)
  kept_grown (Err e) old new first count ok err = subst (λ (m : PagedValue S). KeepsPages old.pages m.pages) (sym err) (pages_itself old.pages)

-- a page that was there is what it was
module _ {S : Type 0} where
  stays_one : (pages : List (ℕ × PageValue S)) (number q : ℕ) → is_some (page_at pages q) ≡ true → page_at (added number fresh_zero_page pages) q ≡ page_at pages q
  unfolding added
  stays_one pages number q there = by_place (place_of number pages) refl
    where
      other : (b : Bool) → (q == number) ≡ b → page_at pages number ≡ None → cond b (Some fresh_zero_page) (page_at pages q) ≡ page_at pages q
      other true is none = let clash : true ≡ false = sym there ∙ ap is_some (ap (page_at pages) (eqb-true q number is) ∙ none) in cc
      other false is none = refl

      by_place : (o : Option ℕ) → place_of number pages ≡ o → page_at (added_unless o number fresh_zero_page pages) q ≡ page_at pages q
      by_place (Some place) at = refl
      by_place None at = (appended pages number fresh_zero_page at).pages q ∙ other (q == number) refl (page_at-nowhere pages number at)

  stays_zeroed : (pages : List (ℕ × PageValue S)) (first count q : ℕ) → is_some (page_at pages q) ≡ true → page_at (with_added first count fresh_zero_page pages) q ≡ page_at pages q
  unfolding with_added
  stays_zeroed pages first zero q there = refl
  stays_zeroed pages first (suc count) q there =
      let before = stays_zeroed pages first count q there in
      stays_one (with_added first count fresh_zero_page pages) (first + count) q (ap is_some before ∙ there) ∙ before

  pub stays_grown : {U E : Type 0} (result : Result U E) (old new : PagedValue S) (first count : ℕ) → OnOk result (new.pages ≡ with_added first count fresh_zero_page old.pages) → OnErr result (new ≡ old)
      → (q : ℕ) → is_some (page_at old.pages q) ≡ true → page_at new.pages q ≡ page_at old.pages q
  stays_grown (Ok u) old new first count ok err q there = ap (λ pages. page_at pages q) ok ∙ stays_zeroed old.pages first count q there
  stays_grown (Err e) old new first count ok err q there = ap (λ (m : PagedValue S). page_at m.pages q) err

-- the same by what the growth answered
pub holds_grown : {S U E : Type 0} {held : S → List ℕ} {honest : Type 0} {tables : List (List ℕ)} {caches : List (List Translation)} (result : Result U E) (old new : List (ℕ × PageValue S)) (first count : ℕ) → first + count ≤ 2 ^ 20 → OnOk result (new ≡ with_added first count fresh_zero_page old) → OnErr result (new ≡ old) → Holds held honest old tables caches → Holds held honest new tables caches
holds_grown (Ok u) old new first count within ok err holds = rw ok (holds_zeroed old first count within holds)
holds_grown (Err e) old new first count within ok err holds = rw err holds

pub memory_grown : {S U E : Type 0} (held : S → List ℕ) (result : Result U E) (old new : List (ℕ × PageValue S)) (first count : ℕ) → OnOk result (new ≡ with_added first count fresh_zero_page old) → OnOk result (flat_pages held new ≡ with_zeroed first count (flat_pages held old))
memory_grown held (Ok u) old new first count ok = ap (flat_pages held) ok ∙ memory_zeroed held old first count
memory_grown held (Err e) old new first count ok = ok

-- and with the words that are reserved, which stay
pub memory_grown_with : {S U E : Type 0} (held : S → List ℕ) (reserved : Reservations) (result : Result U E) (old new : List (ℕ × PageValue S)) (first count : ℕ) → OnOk result (new ≡ with_added first count fresh_zero_page old)
    → OnOk result (memory_in held new reserved ≡ whole.with_zeroed first count (memory_in held old reserved))
memory_grown_with held reserved (Ok u) old new first count ok = ap (λ p. record { pages = p; reserved = reserved }) (memory_grown {E = Unit {0}} held (Ok u) old new first count ok)
memory_grown_with held reserved (Err e) old new first count ok = ok

-- one more page, as it begins
pub holds_mapped : {S : Type 0} {held : S → List ℕ} {honest : Type 0} {tables : List (List ℕ)} {caches : List (List Translation)} (pages : List (ℕ × PageValue S)) (number : ℕ) (origin : Page) → number < 2 ^ 20 → place_of number pages ≡ None → (may Store origin.rights ≡ true → may Load origin.rights ≡ true) → Holds held honest pages tables caches → Holds held honest (pages ++ (number, record { origin = origin; place = Fresh }) ∷ []) tables caches
holds_mapped {S} {held} {honest} {tables} {caches} pages number origin small at readable holds = Holds-unheld change caches holds (unheld_elsewhere caches number holds.agree (ap frame_seen seen_none))
  where
    seen_none : seen_at pages number ≡ None
    seen_none = ap (option_map seen_of) (page_at-nowhere pages number at)

    change : Change held honest pages (pages ++ (number, record { origin = origin; place = Fresh }) ∷ []) tables tables number (record { origin = origin; place = Fresh }) (entry_at tables number)
    change =
        record {
          small = small;
          changes = appended pages number (record { origin = origin; place = Fresh }) at;
          entry = changes_no_entry tables number;
          kept = λ q in_range has. has;
          tabled = λ framed. cc;
          mapped = record {
            entry = (holds.agree.mapped number small).entry ∙ ap (λ s. entry_seen s (entry_at tables number).accessed (entry_at tables number).dirty) seen_none;
            readable = λ rights is may_store. let same : origin.rights ≡ rights = same_Some _ _ is in subst (λ r. may Load r ≡ true) same (readable (subst (λ r. may Store r ≡ true) (sym same) may_store));
          };
          backed = λ is_honest unchanged. refl;
          constant = λ fixed. tt;
        }

pub holds_inserted : {S P E : Type 0} {held : S → List ℕ} {honest : Type 0} {tables : List (List ℕ)} {caches : List (List Translation)} (result : Result P E) (old new : List (ℕ × PageValue S)) (number : ℕ) (origin : Page) (value : PageValue S) → number < 2 ^ 20 → place_of number old ≡ None → (may Store origin.rights ≡ true → may Load origin.rights ≡ true) → value ≡ record { origin = origin; place = Fresh } → IfOk result (λ _. new ≡ old ++ (number, value) ∷ []) → OnErr result (new ≡ old) → Holds held honest old tables caches → Holds held honest new tables caches
holds_inserted (Ok p) old new number origin value small absent readable is ok err holds = rw (ok, is) (holds_mapped old number origin small absent readable holds)
holds_inserted (Err e) old new number origin value small absent readable is ok err holds = rw err holds
