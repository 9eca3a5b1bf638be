-- What keeps a process's pages, tables and caches together when one page changes.
use Rattle.std.specs.Prelude.{◌≡◌, ℕ, ◌^◌, ◌<◌, ◌==◌, true, false, cond, if◌then◌else◌, Option, Some, None, option_map, option_and_then, is_some, List, map, All, refl}
use Rattle.std.proofs.Common.{sym, ap, ◌∙◌, subst, eqb-true, eq-eqb, arith}
use Rattle.std.proofs.lemmas.List.Elements.{All-map, All-weaker}
use Rattle.std.specs.Ordering.{nat_cmp, eq_by_cmp}
use Rattle.std.specs.Cmp.{nat_cmp_total}
use Rattle.std.specs.FinMap.{get, from_entries, get-insert}
use Rattle.page_memory.specs.Entries.{place_of, value_at, with_value}
use Rattle.page_memory.proofs.EntriesLaws.{equal_by_order, value_by_place, replaced_value, put_back, place_of-with_value}
use Rattle.page_memory.proofs.StandsForLaws.{value-changes, map_by-same}
use Rattle.page_store.specs.PageValue.{PageValue, frame_of, failures_at, Backed}
use Rattle.sv32_table.specs.Entry.{Entry}
use Rattle.sv32_table.specs.EntryAt.{entry_at, has_table, ChangesEntry}
use Rattle.tlb_core.specs.declared.translation.Translation.{Translation}
use Rattle.tlb_core.specs.Cache.{doomed, doomed_entry}
use Rattle.paged_memory.specs.Seen.{frame_seen, rights_seen, is_used}
use Rattle.paged_memory.specs.Soundness.{IsMapped}
use Rattle.paged_memory.proofs.SoundnessLaws.{ChangesAt, Unheld, Unmarked, Stays, changed_unheld, changed_held, changed_unmarked, changed_doomed}
use Rattle.paged_memory.specs.Calls.{ChangesBy}
use Rattle.page_store.specs.Moves.{CalledOnce, IfAbsent}
use Rattle.paged_memory.specs.moves.Filling.{IsAbsent, PageCalledOnce, failures_of}
use Rattle.paged_memory.specs.Paged.{seen_of, page_at, seen_at, flat_page, flat_pages, ArePlaced, Holds, IsConstant, ChangesPage}

pub swap_key : {A : Type 0} (q number : ℕ) (x y : A) → cond (eq_by_cmp nat_cmp q number) x y ≡ (if q == number then x else y)
swap_key q number x y = ap (λ b. cond b x y) (equal_by_order q number ∙ turned number q)
  where
    turned : (a b : ℕ) → (a == b) ≡ (b == a)
    turned a b = grind (arith, eq-eqb, eqb-true)

pub same_where : {A : Type 0} (f : ℕ → A) (number q : ℕ) (x : A) → f number ≡ x → f q ≡ (if q == number then x else f q)
same_where f number q x is =
    elim (q == number) as (λ b. (q == number) ≡ b → f q ≡ cond b x (f q)) [
      | true ↦ λ e. ap f (eqb-true q number e) ∙ is
      | false ↦ λ e. refl
    ] refl

module _ {S : Type 0} where
  -- the page of a number is what a finite map of the pages has
  pub get-page_at : (pages : List (ℕ × PageValue S)) (q : ℕ) → page_at pages q ≡ get (from_entries {R = nat_cmp} pages) q
  unfolding page_at
  get-page_at pages q = sym (value_by_place pages q)

  -- a page by its place
  pub page_at-place : (pages : List (ℕ × PageValue S)) (number place : ℕ) (page : PageValue S) → place_of number pages ≡ Some place → value_at place pages ≡ Some page → page_at pages number ≡ Some page
  unfolding page_at
  page_at-place pages number place page at is = ap (option_and_then (λ k. value_at k pages)) at ∙ is

  pub page_at-nowhere : (pages : List (ℕ × PageValue S)) (number : ℕ) → place_of number pages ≡ None → page_at pages number ≡ None
  unfolding page_at
  page_at-nowhere pages number none = ap (option_and_then (λ k. value_at k pages)) none

  -- another value at a page's place
  pub page_at-with_value : (pages : List (ℕ × PageValue S)) (number place : ℕ) (page : PageValue S) → place_of number pages ≡ Some place → (q : ℕ) → page_at (with_value pages place page) q ≡ (if q == number then Some page else page_at pages q)
  page_at-with_value pages number place page at q =
      get-page_at (with_value pages place page) q ∙ ap (λ m. get m q) (replaced_value pages number place page at)
      ∙ get-insert nat_cmp_total (from_entries pages) number page q
      ∙ swap_key q number (Some page) (get (from_entries pages) q)
      ∙ ap (λ o. if q == number then Some page else o) (sym (get-page_at pages q))

  pub changes_at_place : (pages : List (ℕ × PageValue S)) (number place : ℕ) (page : PageValue S) → place_of number pages ≡ Some place → ChangesPage pages (with_value pages place page) number page
  changes_at_place pages number place page at = record { places = λ q k is. place_of-with_value pages place q page ∙ is; pages = page_at-with_value pages number place page at; entries = value-changes pages number place page at }

  pub changed_by : {by : PageValue S → PageValue S → Type 0} (pages : List (ℕ × PageValue S)) (number place : ℕ) (page page' : PageValue S) → place_of number pages ≡ Some place → value_at place pages ≡ Some page → by page page' → ChangesBy by pages (with_value pages place page') number
  changed_by pages number place page page' at is how = record { page = page; page' = page'; found = page_at-place pages number place page at is; changes = changes_at_place pages number place page' at; how = how }

  -- a page that stays
  pub changes_no_page : (pages : List (ℕ × PageValue S)) (number : ℕ) (page : PageValue S) → page_at pages number ≡ Some page → ChangesPage pages pages number page
  changes_no_page pages number page is = record { places = λ q k at. at; pages = λ q. same_where (page_at pages) number q (Some page) is; entries = record { changed = sym (put_back (from_entries {R = nat_cmp} pages) number page (sym (get-page_at pages number) ∙ is)) } }

  -- where a page shows what it showed, the memory stays
  pub memory_stays : (held : S → List ℕ) (old new : List (ℕ × PageValue S)) (number : ℕ) (before page : PageValue S) → page_at old number ≡ Some before → flat_page held page ≡ flat_page held before → ChangesPage old new number page → flat_pages held new ≡ flat_pages held old
  unfolding flat_pages
  memory_stays held old new number before page is same changes = map_by-same (flat_page held) old new number before page (sym (get-page_at old number) ∙ is) same changes.entries

-- an entry that stays
pub changes_no_entry : (tables : List (List ℕ)) (number : ℕ) → ChangesEntry tables tables number (entry_at tables number)
changes_no_entry tables number q small = same_where (entry_at tables) number q (entry_at tables number) refl

pub choice_here : {A : Type 0} (number : ℕ) (x y : A) → (if number == number then x else y) ≡ x
choice_here number x y = ap (λ b. cond b x y) (eq-eqb number number refl)

-- another value at a page's place, whose slot tells of as many failures
pub failures_placed : {S : Type 0} (failures : S → ℕ) (pages : List (ℕ × PageValue S)) (number place : ℕ) (page page' : PageValue S) → place_of number pages ≡ Some place → value_at place pages ≡ Some page
    → failures_at failures page'.place ≡ failures_at failures page.place → failures_of failures (page_at (with_value pages place page') number) ≡ failures_of failures (page_at pages number)
failures_placed failures pages number place page page' at is same =
    ap (failures_of failures) (page_at-with_value pages number place page' at number ∙ choice_here number (Some page') (page_at pages number))
    ∙ same ∙ sym (ap (failures_of failures) (page_at-place pages number place page at is))

-- the same of a call of its slot
pub called_placed : {S : Type 0} (called : S → S → Type 0) (pages : List (ℕ × PageValue S)) (number place : ℕ) (page page' : PageValue S) → place_of number pages ≡ Some place → value_at place pages ≡ Some page
    → CalledOnce called page.place page'.place → PageCalledOnce called (page_at pages number) (page_at (with_value pages place page') number)
called_placed called pages number place page page' at is once =
    subst (λ o. PageCalledOnce called o (page_at (with_value pages place page') number)) (sym (page_at-place pages number place page at is))
    (subst (PageCalledOnce called (Some page)) (sym (page_at-with_value pages number place page' at number ∙ choice_here number (Some page') (page_at pages number))) once)

-- no slot of a page was to be called that is not away
pub called_nowhere : {S : Type 0} (called : S → S → Type 0) (pages : List (ℕ × PageValue S)) (number : ℕ) → (¬ IsAbsent (page_at pages number)) → PageCalledOnce called (page_at pages number) (page_at pages number)
called_nowhere {S} called pages number present = by_page (page_at pages number) present
  where
    by_page : (o : Option (PageValue S)) → (¬ IsAbsent o) → PageCalledOnce called o o
    by_page None present = tt
    by_page (Some page) present = λ copy is. absurd (present (subst (λ p. IfAbsent p (Unit {0}) (λ _. Unit {0})) (sym is) tt))

pub choice_other : {A : Type 0} (q number : ℕ) (x y : A) → (q == number) ≡ false → (if q == number then x else y) ≡ y
choice_other q number x y other = ap (λ b. cond b x y) other

-- one page is this now, and has this entry, and both are lawful
pub record Change {S : Type 0} (held : S → List ℕ) (honest : Type 0) (pages pages' : List (ℕ × PageValue S)) (tables tables' : List (List ℕ)) (number : ℕ) (page : PageValue S) (e : Entry) : Type 0 where
  pub small : number < 2 ^ 20
  pub changes : ChangesPage pages pages' number page
  pub entry : ChangesEntry tables tables' number e
  pub kept : (q : ℕ) → q < 2 ^ 20 → has_table tables q ≡ true → has_table tables' q ≡ true
  pub tabled : is_some (frame_of page.place) ≡ true → has_table tables' number ≡ true
  pub mapped : IsMapped (Some (seen_of page)) e
  pub backed : honest → Backed held e.dirty page
  pub constant : IsConstant e.dirty page

module _ {S : Type 0} {held : S → List ℕ} {honest : Type 0} {pages pages' : List (ℕ × PageValue S)} {tables tables' : List (List ℕ)} {number : ℕ} {page : PageValue S} {e : Entry} (change : Change held honest pages pages' tables tables' number page e) where
  here : seen_at pages' number ≡ Some (seen_of page)
  here = ap (option_map seen_of) (change.changes.pages number ∙ choice_here number (Some page) (page_at pages number))

  entry_here : entry_at tables' number ≡ e
  entry_here = change.entry number change.small ∙ choice_here number e (entry_at tables number)

  mapped_here : IsMapped (seen_at pages' number) (entry_at tables' number)
  mapped_here = rw (here, entry_here) change.mapped

  changes_there : ChangesAt (seen_at pages) (seen_at pages') (entry_at tables) (entry_at tables') number
  changes_there =
      record {
        seen = λ q other. ap (option_map seen_of) (change.changes.pages q ∙ choice_other q number (Some page) (page_at pages q) other);
        entry = λ q in_range other. change.entry q in_range ∙ choice_other q number e (entry_at tables q) other;
      }

  backed_still : (honest → (q : ℕ) (p : PageValue S) → q < 2 ^ 20 → page_at pages q ≡ Some p → Backed held (entry_at tables q).dirty p) → honest → (q : ℕ) (p : PageValue S) → q < 2 ^ 20 → page_at pages' q ≡ Some p → Backed held (entry_at tables' q).dirty p
  backed_still old is_honest q p in_range is =
      elim (q == number) as (λ b. (q == number) ≡ b → Backed held (entry_at tables' q).dirty p) [
        | true ↦ λ at.
            let same : q ≡ number = eqb-true q number at in
            let found : page_at pages' number ≡ Some p = subst (λ q. page_at pages' q ≡ Some p) same is in
            let known : page_at pages' number ≡ Some page = change.changes.pages number ∙ choice_here number (Some page) (page_at pages number) in
            let equal : p ≡ page = cc in
            subst (λ q. Backed held (entry_at tables' q).dirty p) (sym same)
            (rw (entry_here, equal) (change.backed is_honest))
        | false ↦ λ other.
            let found : page_at pages q ≡ Some p = sym (change.changes.pages q ∙ choice_other q number (Some page) (page_at pages q) other) ∙ is in
            rw (change.entry q in_range ∙ choice_other q number e (entry_at tables q) other) (old is_honest q p in_range found)
      ] refl

  constant_still : ((q : ℕ) (p : PageValue S) → q < 2 ^ 20 → page_at pages q ≡ Some p → IsConstant (entry_at tables q).dirty p) → (q : ℕ) (p : PageValue S) → q < 2 ^ 20 → page_at pages' q ≡ Some p → IsConstant (entry_at tables' q).dirty p
  constant_still old q p in_range is =
      elim (q == number) as (λ b. (q == number) ≡ b → IsConstant (entry_at tables' q).dirty p) [
        | true ↦ λ at.
            let same : q ≡ number = eqb-true q number at in
            let found : page_at pages' number ≡ Some p = subst (λ q. page_at pages' q ≡ Some p) same is in
            let known : page_at pages' number ≡ Some page = change.changes.pages number ∙ choice_here number (Some page) (page_at pages number) in
            let equal : p ≡ page = cc in
            subst (λ q. IsConstant (entry_at tables' q).dirty p) (sym same)
            (rw (entry_here, equal) change.constant)
        | false ↦ λ other.
            let found : page_at pages q ≡ Some p = sym (change.changes.pages q ∙ choice_other q number (Some page) (page_at pages q) other) ∙ is in
            rw (change.entry q in_range ∙ choice_other q number e (entry_at tables q) other) (old q p in_range found)
      ] refl

  tabled_still : ((q : ℕ) (p : PageValue S) → q < 2 ^ 20 → page_at pages q ≡ Some p → is_some (frame_of p.place) ≡ true → has_table tables q ≡ true) → (q : ℕ) (p : PageValue S) → q < 2 ^ 20 → page_at pages' q ≡ Some p → is_some (frame_of p.place) ≡ true → has_table tables' q ≡ true
  tabled_still old q p in_range is framed =
      elim (q == number) as (λ b. (q == number) ≡ b → has_table tables' q ≡ true) [
        | true ↦ λ at.
            let same : q ≡ number = eqb-true q number at in
            let found : page_at pages' number ≡ Some p = subst (λ q. page_at pages' q ≡ Some p) same is in
            let known : page_at pages' number ≡ Some page = change.changes.pages number ∙ choice_here number (Some page) (page_at pages number) in
            let equal : p ≡ page = cc in
            let there : is_some (frame_of page.place) ≡ true = subst (λ (u : PageValue S). is_some (frame_of u.place) ≡ true) equal framed in
            ap (has_table tables') same ∙ change.tabled there
        | false ↦ λ other. change.kept q in_range (old q p in_range (sym (change.changes.pages q ∙ choice_other q number (Some page) (page_at pages q) other) ∙ is) framed)
      ] refl

  placed_still : (caches : List (List Translation)) → ArePlaced pages caches → ArePlaced pages' caches
  placed_still caches placed = All-weaker _ _ (λ cache in_cache. All-weaker _ _ (λ t is. change.changes.places t.page t.place is) cache in_cache) caches placed

  -- a page changes that no cache holds
  pub Holds-unheld : (caches : List (List Translation)) → Holds held honest pages tables caches → Unheld number caches → Holds held honest pages' tables' caches
  Holds-unheld caches holds unheld =
      record {
        agree = changed_unheld _ changes_there mapped_here caches holds.agree unheld;
        tabled = tabled_still holds.tabled;
        placed = placed_still caches holds.placed;
        backed = backed_still holds.backed;
        constant = constant_still holds.constant;
      }

  -- a page changes and keeps its frame, and its translations stand
  pub Holds-held : (caches : List (List Translation)) → Holds held honest pages tables caches → Stays (seen_at pages number) (seen_at pages' number) (entry_at tables number) (entry_at tables' number) → (is_used (seen_at pages number) (entry_at tables number) ≡ true → is_used (seen_at pages' number) (entry_at tables' number) ≡ true) → Holds held honest pages' tables' caches
  Holds-held caches holds stays used =
      record {
        agree = changed_held _ changes_there mapped_here caches holds.agree stays used;
        tabled = tabled_still holds.tabled;
        placed = placed_still caches holds.placed;
        backed = backed_still holds.backed;
        constant = constant_still holds.constant;
      }

  -- a page changes and keeps its frame, and none of its translations has the dirty mark
  pub Holds-unmarked : (caches : List (List Translation)) → Holds held honest pages tables caches → Unmarked number caches → frame_seen (seen_at pages' number) ≡ frame_seen (seen_at pages number) → rights_seen (seen_at pages' number) ≡ rights_seen (seen_at pages number) → (is_used (seen_at pages number) (entry_at tables number) ≡ true → is_used (seen_at pages' number) (entry_at tables' number) ≡ true) → Holds held honest pages' tables' caches
  Holds-unmarked caches holds unmarked frame rights used =
      record {
        agree = changed_unmarked _ changes_there mapped_here caches holds.agree unmarked frame rights used;
        tabled = tabled_still holds.tabled;
        placed = placed_still caches holds.placed;
        backed = backed_still holds.backed;
        constant = constant_still holds.constant;
      }

  -- a page changes and keeps its frame, and its translations are doomed
  pub Holds-doomed : (caches : List (List Translation)) → Holds held honest pages tables caches → Stays (seen_at pages number) (seen_at pages' number) (entry_at tables number) (entry_at tables' number) → Holds held honest pages' tables' (map (doomed number) caches)
  unfolding doomed
  Holds-doomed caches holds stays =
      record {
        agree = changed_doomed _ changes_there mapped_here caches holds.agree stays;
        tabled = tabled_still holds.tabled;
        placed = All-map (λ cache. All (λ t. place_of t.page pages' ≡ Some t.place) cache) (doomed number) caches (All-weaker _ _ (λ cache placed. All-map (λ t. place_of t.page pages' ≡ Some t.place) (doomed_entry number) cache placed) caches (placed_still caches holds.placed));
        backed = backed_still holds.backed;
        constant = constant_still holds.constant;
      }
