-- A page of a process is brought into a frame.
use Rattle.std.specs.Prelude.{◌≡◌, ℕ, ◌^◌, ◌<◌, ◌==◌, ◌/◌, ◌||◌, Bool, true, false, is_some, IfSome, Some, option_map, Result, Ok, Err, OnOk, OnErr, IfErr, List, refl}
use Rattle.std.proofs.Common.{sym, ap, ◌∙◌, subst, eq-eqb, true≢false}
use Rattle.frame_pool.specs.FrameValue.{FrameValue}
use Rattle.page_memory.specs.Entries.{place_of, value_at, with_value}
use Rattle.page_store.specs.Keeping.{Keeping, NoSlot}
use Rattle.page_memory.specs.Pages.{Page}
use Rattle.page_store.specs.CopyValue.{CopyValue}
use Rattle.page_store.specs.PageValue.{BackedAt, PageValue, Place, Fresh, Resident, Leaving, Saving, Away, Purged, frame_of, content, Backed}
use Rattle.page_store.specs.Moves.{Filled, IfAbsent, IfResident, IfAway, IfSaved}
use Rattle.page_memory.specs.declared.words.Access.TheVariants.{Load, Store}
use Rattle.page_memory.specs.Rights.{may}
use Rattle.sv32_table.specs.Entry.{Entry, page_entry}
use Rattle.sv32_table.specs.EntryAt.{entry_at, ChangesEntry, AddsTable, has_table}
use Rattle.sv32_table.proofs.EntryLaws.{dirty-page_entry}
use Rattle.tlb_core.specs.declared.translation.Translation.{Translation}
use Rattle.paged_memory.specs.Seen.{Elsewhere, entry_standing, rights_seen}
use Rattle.paged_memory.specs.Soundness.{IsMapped}
use Rattle.paged_memory.specs.moves.Moving.{ComesIn}
use Rattle.paged_memory.specs.Paged.{PagedValue, standing_of, seen_of, page_at, flat_page, flat_pages, memory_of, Holds, HoldsOrigin, IsConstant, IsUntouched}
use Rattle.paged_memory.specs.Calls.{ChangesBy}
use Rattle.paged_memory.specs.moves.Filling.{BroughtIn, StaysAbsent, FailsToLoad, ComesDamaged, StaysUnmapped, RefusesAbsent, RefusesPageIn}
use Rattle.paged_memory.specs.declared.filling.PageInFault.{PageInFault}
use Rattle.paged_memory.specs.declared.filling.PageInFault.TheVariants.{NotAbsent, Device, Damaged, NoMemory}
use Rattle.paged_memory.proofs.move_laws.PagedLaws.{Change, changed_by, Holds-unheld, memory_stays}
use Rattle.paged_memory.proofs.access_laws.CallLaws.{mapped_resident}
use Rattle.paged_memory.proofs.ConstancyLaws.{IsThere, unwritten_moved, unwritten_same, SameUnwritten}
use Rattle.paged_memory.proofs.move_laws.MovesLaws.{holds_moved, unheld_page}

or_more : (b more : Bool) → more ≡ true → (b || more) ≡ true
or_more true more is = refl
or_more false more is = is

module _ {S : Type 0} where
  pub entries_brought : {U E : Type 0} (pages : List (ℕ × PageValue S)) (tables tables' : List (List ℕ)) (number : ℕ) (frame : FrameValue) {page : PageValue S} → page_at pages number ≡ Some page → (result : Result U E)
      → OnOk result (ChangesEntry tables tables' number (page_entry frame.number page.origin.rights true false))
      → OnOk result (IfSome (page_at pages number) (λ page. ChangesEntry tables tables' number (page_entry frame.number page.origin.rights true false)))
  entries_brought pages tables tables' number frame found (Ok u) entries = subst (λ o. IfSome o (λ page. ChangesEntry tables tables' number (page_entry frame.number page.origin.rights true false))) (sym found) entries
  entries_brought pages tables tables' number frame found (Err e) entries = tt

  -- ---- what a page is that was brought in

  record IsFilled (frame : FrameValue) (page page' : PageValue S) : Type 0 where
    pub filled : FrameValue
    pub slot : Keeping S
    pub was : standing_of page.place ≡ Elsewhere
    pub is : page'.place ≡ Resident filled slot
    pub number : filled.number ≡ frame.number
    pub how : IfAbsent page.place ((filled.bytes ≡ page.origin.bytes) × (slot ≡ NoSlot)) (λ _. IfSaved slot (λ _. Unit {0}))

  absent_elsewhere : (place : Place S) (fresh : Type 0) (away : CopyValue S → Type 0) → IfAbsent place fresh away → standing_of place ≡ Elsewhere
  absent_elsewhere Fresh fresh away how = refl
  absent_elsewhere (Resident frame slot) fresh away how = absurd how
  absent_elsewhere (Leaving frame slot mark) fresh away how = absurd how
  absent_elsewhere (Saving frame mark) fresh away how = refl
  absent_elsewhere (Away slot) fresh away how = refl
  absent_elsewhere Purged fresh away how = refl

  absent_there : (place : Place S) (fresh : Type 0) (away : CopyValue S → Type 0) → IfAbsent place fresh away → IsThere place
  absent_there Fresh fresh away how = tt
  absent_there (Resident frame slot) fresh away how = absurd how
  absent_there (Leaving frame slot mark) fresh away how = absurd how
  absent_there (Saving frame mark) fresh away how = tt
  absent_there (Away slot) fresh away how = tt
  absent_there Purged fresh away how = absurd how

  is_filled : (frame : FrameValue) (page page' : PageValue S) → Filled frame page page' → IsFilled frame page page'
  is_filled frame page page' how = by_place page'.place refl how
    where
      by_place : (new : Place S) → page'.place ≡ new → IfResident new (λ filled slot. (filled.number ≡ frame.number) × IfAbsent page.place ((filled.bytes ≡ page.origin.bytes) × (slot ≡ NoSlot)) (λ _. IfSaved slot (λ _. Unit {0}))) → IsFilled frame page page'
      by_place Fresh at how = absurd how
      by_place (Resident filled slot) at how = record { filled = filled; slot = slot; was = absent_elsewhere page.place _ _ how.1; is = at; number = how.0; how = how.1 }
      by_place (Leaving filled slot mark) at how = absurd how
      by_place (Saving filled mark) at how = absurd how
      by_place (Away slot) at how = absurd how
      by_place Purged at how = absurd how

  shows : (held : S → List ℕ) (page page' : PageValue S) → page'.origin ≡ page.origin → content held page' ≡ content held page → flat_page held page' ≡ flat_page held page
  shows held page page' origin same = ap (λ (o : Page). record { rights = o.rights; bytes = content held page' }) origin ∙ ap (λ b. record { rights = page.origin.rights; bytes = b }) same

module _ {S : Type 0} (held : S → List ℕ) (honest : Type 0) where
  -- ---- the pages, by the one that changes

  module _ (frame : FrameValue) (pages : List (ℕ × PageValue S)) (number place : ℕ) (page page' : PageValue S) (at : place_of number pages ≡ Some place) (is : value_at place pages ≡ Some page) where
    pub pages_brought : {U E : Type 0} (result : Result U E) → OnOk result (BroughtIn held honest frame page page') → OnOk result (ChangesBy (BroughtIn held honest frame) pages (with_value pages place page') number)
    pages_brought (Ok u) how = changed_by pages number place page page' at is how
    pages_brought (Err e) how = tt

    pub pages_refused : {U : Type 0} (failures : S → ℕ) (tables : List (List ℕ)) (result : Result U (FrameValue × PageInFault)) → IfErr result (λ back. RefusesAbsent held honest failures frame (has_table tables number) page page' back.0 back.1)
        → IfErr result (λ back. RefusesPageIn held honest failures frame pages (with_value pages place page') tables number back.0 back.1)
    pages_refused failures tables (Ok u) how = tt
    pages_refused failures tables (Err back) how = by_fault back.1 how
      where
        by_fault : (fault : PageInFault) → RefusesAbsent held honest failures frame (has_table tables number) page page' back.0 fault → RefusesPageIn held honest failures frame pages (with_value pages place page') tables number back.0 fault
        by_fault NotAbsent how = absurd how
        by_fault Device how = (changed_by pages number place page page' at is how.0, how.1)
        by_fault Damaged how = (changed_by pages number place page page' at is how.0, how.1)
        by_fault NoMemory how = (how.0, (changed_by pages number place page page' at is how.1.0, how.1.1))

  -- ---- a page that stays absent

  record IsElsewhere (page : PageValue S) : Type 0 where
    pub stands : standing_of page.place ≡ Elsewhere
    pub unframed : is_some (frame_of page.place) ≡ false
    pub backed : Backed held false page
    pub there : IsThere page.place

  still_absent : (page page' : PageValue S) → IfAbsent page.place (page'.place ≡ Fresh) (λ _. IfAway page'.place (λ _. Unit {0})) → IsElsewhere page'
  still_absent page page' how = by_place page.place how
    where
      fresh : page'.place ≡ Fresh → IsElsewhere page'
      fresh is = record { stands = ap standing_of is; unframed = ap (λ p. is_some (frame_of p)) is; backed = subst (λ p. BackedAt held page'.origin.bytes false p) (sym is) (λ _. refl); there = subst IsThere (sym is) tt }

      away : (place : Place S) → page'.place ≡ place → IfAway place (λ _. Unit {0}) → IsElsewhere page'
      away Fresh is how = absurd how
      away (Resident frame slot) is how = absurd how
      away (Leaving frame slot mark) is how = absurd how
      away (Saving frame mark) is how = absurd how
      away (Away slot) is how = record { stands = ap standing_of is; unframed = ap (λ p. is_some (frame_of p)) is; backed = subst (λ p. BackedAt held page'.origin.bytes false p) (sym is) (λ _. refl); there = subst IsThere (sym is) tt }
      away Purged is how = absurd how

      by_place : (place : Place S) → IfAbsent place (page'.place ≡ Fresh) (λ _. IfAway page'.place (λ _. Unit {0})) → IsElsewhere page'
      by_place Fresh how = fresh how
      by_place (Resident frame slot) how = absurd how
      by_place (Leaving frame slot mark) how = absurd how
      by_place (Saving frame mark) how = absurd how
      by_place (Away slot) how = away page'.place refl how
      by_place Purged how = absurd how

  -- ---- everything goes together still

  module _ {pages pages' : List (ℕ × PageValue S)} {tables : List (List ℕ)} {caches : List (List Translation)} (number : ℕ) (small : number < 2 ^ 20) (holds : Holds held honest pages tables caches) where
    holds_brought : (tables' : List (List ℕ)) (frame : FrameValue) → ChangesBy (BroughtIn held honest frame) pages pages' number
        → IfSome (page_at pages number) (λ page. ChangesEntry tables tables' number (page_entry frame.number page.origin.rights true false)) → AddsTable tables tables' number
        → Holds held honest pages' tables' caches
    holds_brought tables' frame told entries adds = Holds-unheld change caches holds (unheld_page number small holds told.page told.found filled.was)
      where
        filled : IsFilled frame told.page told.page'
        filled = is_filled frame told.page told.page' told.how.filled

        entry : Entry
        entry = page_entry frame.number told.page.origin.rights true false

        whole : told.page' ≡ record { origin = told.page.origin; place = Resident filled.filled filled.slot }
        whole =
            ap (λ o. record told.page { origin = o; place = told.page'.place }) told.how.origin ∙ ap (λ p. record told.page { place = p }) filled.is

        readable : may Store told.page.origin.rights ≡ true → may Load told.page.origin.rights ≡ true
        readable = (holds.agree.mapped number small).readable told.page.origin.rights (ap rights_seen (ap (option_map seen_of) told.found))

        mapped : IsMapped (Some (seen_of told.page')) entry
        mapped = subst (λ p. IsMapped (Some (seen_of p)) entry) (sym whole) (mapped_resident told.page.origin filled.filled filled.slot true false (ap (λ n. page_entry n told.page.origin.rights true false) (sym filled.number)) readable)

        -- one that may not be written was in no slot
        constant_filled : (place : Place S) → IsUntouched (entry_at tables number).dirty told.page.origin.bytes place → IfAbsent place ((filled.filled.bytes ≡ told.page.origin.bytes) × (filled.slot ≡ NoSlot)) (λ _. IfSaved filled.slot (λ _. Unit {0})) → IsUntouched false told.page.origin.bytes (Resident filled.filled filled.slot)
        constant_filled Fresh untouched how = subst (HoldsOrigin false told.page.origin.bytes filled.filled) (sym how.1) (refl, how.0)
        constant_filled (Resident frame slot) untouched how = absurd how
        constant_filled (Leaving frame slot mark) untouched how = absurd how
        constant_filled (Saving frame mark) untouched how = absurd how
        constant_filled (Away copy) untouched how = absurd untouched
        constant_filled Purged untouched how = absurd how

        constant : IsConstant false told.page'
        constant = subst (IsConstant false) (sym whole) (λ fixed. constant_filled told.page.place (holds.constant number told.page small told.found fixed) filled.how)

        change : Change held honest pages pages' tables tables' number told.page' entry
        change =
            record {
              small = small;
              changes = told.changes;
              entry = subst (λ o. IfSome o (λ page. ChangesEntry tables tables' number (page_entry frame.number page.origin.rights true false))) told.found entries;
              kept = λ q in_range has. adds q in_range ∙ ap (λ b. b || (q / 1024 == number / 1024)) has;
              tabled = λ framed. adds number small ∙ or_more (has_table tables number) _ (eq-eqb (number / 1024) (number / 1024) refl);
              mapped = mapped;
              backed = λ is_honest. subst (λ d. Backed held d told.page') (sym (dirty-page_entry frame.number told.page.origin.rights true false)) (told.how.backed is_honest);
              constant = subst (λ d. IsConstant d told.page') (sym (dirty-page_entry frame.number told.page.origin.rights true false)) constant;
            }

    pub holds_absent : ChangesBy (StaysAbsent held honest) pages pages' number → Holds held honest pages' tables caches
    holds_absent told =
        holds_moved number small holds pages' told.page told.page' told.found told.changes told.how.origin (λ rights accessed dirty. ap (λ s. entry_standing rights s accessed dirty) was) (λ rights accessed dirty. ap (λ s. entry_standing rights s accessed dirty) now.stands)
        (λ framed. absurd (true≢false (sym framed ∙ now.unframed))) (λ _. now.backed) constant (unheld_page number small holds told.page told.found was)
      where
        now : IsElsewhere told.page'
        now = still_absent told.page told.page' told.how.place

        was : standing_of told.page.place ≡ Elsewhere
        was = absent_elsewhere told.page.place _ _ told.how.place

        stays_untouched : (place : Place S) → IsUntouched (entry_at tables number).dirty told.page.origin.bytes place → IfAbsent place (told.page'.place ≡ Fresh) (λ _. IfAway told.page'.place (λ _. Unit {0})) → IsUntouched false told.page'.origin.bytes told.page'.place
        stays_untouched Fresh untouched how = subst (IsUntouched false told.page'.origin.bytes) (sym how) tt
        stays_untouched (Resident frame slot) untouched how = absurd how
        stays_untouched (Leaving frame slot mark) untouched how = absurd how
        stays_untouched (Saving frame mark) untouched how = absurd how
        stays_untouched (Away copy) untouched how = absurd untouched
        stays_untouched Purged untouched how = absurd how

        constant : IsConstant false told.page'
        constant = λ fixed. stays_untouched told.page.place (holds.constant number told.page small told.found (ap (λ (o : Page). may Store o.rights) (sym told.how.origin) ∙ fixed)) told.how.place

    pub unwritten_absent : ChangesBy (StaysAbsent held honest) pages pages' number → SameUnwritten (flat_pages held pages) (flat_pages held pages')
    unwritten_absent told =
        unwritten_moved held number small holds (holds_absent told) told.page told.page' told.found told.changes told.how.origin
        (absent_there told.page.place _ _ told.how.place) ((still_absent told.page told.page' told.how.place).there)

  pub failed_stays : {failures : S → ℕ} {pages pages' : List (ℕ × PageValue S)} {number : ℕ} → ChangesBy (FailsToLoad held honest failures) pages pages' number → ChangesBy (StaysAbsent held honest) pages pages' number
  failed_stays told = record { page = told.page; page' = told.page'; found = told.found; changes = told.changes; how = told.how.stays }

  pub damaged_stays : {failures : S → ℕ} {back : FrameValue} {pages pages' : List (ℕ × PageValue S)} {number : ℕ} → ChangesBy (ComesDamaged held honest failures back) pages pages' number → ChangesBy (StaysAbsent held honest) pages pages' number
  damaged_stays told = record { page = told.page; page' = told.page'; found = told.found; changes = told.changes; how = told.how.stays }

  pub unmapped_stays : {failures : S → ℕ} {back : FrameValue} {pages pages' : List (ℕ × PageValue S)} {number : ℕ} → ChangesBy (StaysUnmapped held honest failures back) pages pages' number → ChangesBy (StaysAbsent held honest) pages pages' number
  unmapped_stays told = record { page = told.page; page' = told.page'; found = told.found; changes = told.changes; how = told.how.stays }

  pub memory_absent : {pages pages' : List (ℕ × PageValue S)} {number : ℕ} → ChangesBy (StaysAbsent held honest) pages pages' number → honest → flat_pages held pages' ≡ flat_pages held pages
  memory_absent {pages} {pages'} {number} told is_honest = memory_stays held pages pages' number told.page told.page' told.found (shows held told.page told.page' told.how.origin (told.how.content is_honest)) told.changes

  module _ {U : Type 0} (failures : S → ℕ) (frame : FrameValue) (pages pages' : List (ℕ × PageValue S)) (tables tables' : List (List ℕ)) (number : ℕ) where
    pub holds_paged_in : (caches : List (List Translation)) (result : Result U (FrameValue × PageInFault)) → number < 2 ^ 20 → OnOk result (ChangesBy (BroughtIn held honest frame) pages pages' number)
        → IfErr result (λ back. RefusesPageIn held honest failures frame pages pages' tables number back.0 back.1)
        → OnOk result (IfSome (page_at pages number) (λ page. ChangesEntry tables tables' number (page_entry frame.number page.origin.rights true false))) → OnOk result (AddsTable tables tables' number)
        → OnErr result (tables' ≡ tables) → Holds held honest pages tables caches → Holds held honest pages' tables' caches
    holds_paged_in caches (Ok u) small ok refused entries adds unmapped holds = holds_brought number small holds tables' frame ok entries adds
    holds_paged_in caches (Err back) small ok refused entries adds unmapped holds = by_fault back.1 refused
      where
        by_fault : (fault : PageInFault) → RefusesPageIn held honest failures frame pages pages' tables number back.0 fault → Holds held honest pages' tables' caches
        by_fault NotAbsent how = rw (unmapped, how.1.0) holds
        by_fault Device how = rw unmapped (holds_absent number small holds (failed_stays how.0))
        by_fault Damaged how = rw unmapped (holds_absent number small holds (damaged_stays how.0))
        by_fault NoMemory how = rw unmapped (holds_absent number small holds (unmapped_stays how.1.0))

    -- and what may not be written shows what it showed, whatever they are
    pub unwritten_paged_in : (caches : List (List Translation)) (result : Result U (FrameValue × PageInFault)) → number < 2 ^ 20 → OnOk result (ChangesBy (BroughtIn held honest frame) pages pages' number)
        → IfErr result (λ back. RefusesPageIn held honest failures frame pages pages' tables number back.0 back.1)
        → OnOk result (IfSome (page_at pages number) (λ page. ChangesEntry tables tables' number (page_entry frame.number page.origin.rights true false))) → OnOk result (AddsTable tables tables' number)
        → Holds held honest pages tables caches → SameUnwritten (flat_pages held pages) (flat_pages held pages')
    unwritten_paged_in caches (Ok u) small ok refused entries adds holds =
        let filled = is_filled frame ok.page ok.page' ok.how.filled in
        unwritten_moved held number small holds (holds_brought number small holds tables' frame ok entries adds) ok.page ok.page' ok.found ok.changes ok.how.origin
        (absent_there ok.page.place _ _ filled.how) (subst IsThere (sym filled.is) tt)
    unwritten_paged_in caches (Err back) small ok refused entries adds holds = by_fault back.1 refused
      where
        by_fault : (fault : PageInFault) → RefusesPageIn held honest failures frame pages pages' tables number back.0 fault → SameUnwritten (flat_pages held pages) (flat_pages held pages')
        by_fault NotAbsent how = unwritten_same held pages pages' (ap (flat_pages held) how.1.0)
        by_fault Device how = unwritten_absent number small holds (failed_stays how.0)
        by_fault Damaged how = unwritten_absent number small holds (damaged_stays how.0)
        by_fault NoMemory how = unwritten_absent number small holds (unmapped_stays how.1.0)

    -- and the memory shows what it showed, where slots are honest
    pub memory_paged_in : (result : Result U (FrameValue × PageInFault)) → OnOk result (ChangesBy (BroughtIn held honest frame) pages pages' number)
        → IfErr result (λ back. RefusesPageIn held honest failures frame pages pages' tables number back.0 back.1) → honest → flat_pages held pages' ≡ flat_pages held pages
    memory_paged_in (Ok u) ok refused is_honest = memory_stays held pages pages' number ok.page ok.page' ok.found (shows held ok.page ok.page' ok.how.origin (ok.how.content is_honest)) ok.changes
    memory_paged_in (Err back) ok refused is_honest = by_fault back.1 refused
      where
        by_fault : (fault : PageInFault) → RefusesPageIn held honest failures frame pages pages' tables number back.0 fault → flat_pages held pages' ≡ flat_pages held pages
        by_fault NotAbsent how = ap (flat_pages held) how.1.0
        by_fault Device how = memory_absent (failed_stays how.0) is_honest
        by_fault Damaged how = memory_absent (damaged_stays how.0) is_honest
        by_fault NoMemory how = memory_absent (unmapped_stays how.1.0) is_honest

-- what is told of its parts is the relation of the whole memory
pub comes_in : {S U E : Type 0} (held : S → List ℕ) (honest : Type 0) (frame : FrameValue) (vpn : ℕ) (old new : PagedValue S) (result : Result U E) → vpn < 2 ^ 20
    → new.process ≡ old.process → new.caches ≡ old.caches → new.reserved ≡ old.reserved → OnOk result (ChangesBy (BroughtIn held honest frame) old.pages new.pages vpn)
    → OnOk result (IfSome (page_at old.pages vpn) (λ page. ChangesEntry old.tables new.tables vpn (page_entry frame.number page.origin.rights true false)))
    → OnOk result (AddsTable old.tables new.tables vpn) → (honest → memory_of held new ≡ memory_of held old) → OnOk result (ComesIn held honest frame vpn old new)
comes_in held honest frame vpn old new (Err refusal) small process caches reserved page entry tables memory = page
comes_in held honest frame vpn old new (Ok done) small process caches reserved page entry tables memory = record {
  small = small;
  page = page;
  entry = entry;
  tables = tables;
  process = process;
  caches = caches;
  reserved = reserved;
  memory = memory;
}
