-- A look at bytes of a page.
use Rattle.std.specs.Prelude.{◌≡◌, ℕ, zero, suc, ◌^◌, ◌<◌, Option, Some, None, option_map, Result, Ok, Err, OnOk, List, [], ◌∷◌, refl}
use Rattle.std.proofs.Common.{sym, ap, ◌∙◌, subst, unwrap_or}
use Rattle.std.specs.FinMap.{get}
use Rattle.page_memory.specs.Words.{page_number, page_offset}
use Rattle.page_memory.specs.Entries.{place_of, value_at, with_value}
use Rattle.page_memory.specs.Reservations.{Reservations}
use Rattle.page_memory.proofs.StandsForLaws.{get-map_by-place}
use Rattle.page_store.specs.declared.refusal.ReadFault.TheVariants as read
use Rattle.page_store.specs.PageValue.{PageValue, Place, Fresh, Resident, Leaving, Saving, Away, Purged, content, page_state_of, Known, kept_digest}
use Rattle.page_store.specs.Moves.{IfAbsent, IfAway, RefusesRead}
use Rattle.page_store.specs.Reading.{some_from}
use Rattle.swap_slots.specs.Slot.{Rose}
use Rattle.tlb_core.specs.declared.translation.Translation.{Translation}
use Rattle.paged_memory.specs.Paged.{page_at, flat_page, flat_pages, memory_in, Holds}
use Rattle.paged_memory.specs.Calls.{ChangesBy}
use Rattle.paged_memory.specs.moves.Filling.{StaysAbsent, FailsToLoad}
use Rattle.paged_memory.specs.Peeking.{bytes_of, ShowsBytes, LeavesPlace, LeavesPage}
use Rattle.paged_memory.proofs.move_laws.PagedLaws.{changed_by, page_at-place}
use Rattle.paged_memory.proofs.move_laws.FillingLaws.{holds_absent, memory_absent, unwritten_absent}
use Rattle.paged_memory.proofs.ConstancyLaws.{unwritten_same, SameUnwritten}

-- a value that is put back at its place
same_value : {T : Type 0} (entries : List (ℕ × T)) (place : ℕ) (value : T) → value_at place entries ≡ Some value → with_value entries place value ≡ entries
unfolding with_value
same_value [] place value is = refl
same_value (e ∷ es) zero value is = ap (λ v. (e.0, v) ∷ es) (sym (ap (λ o. unwrap_or o value) is))
same_value (e ∷ es) (suc place) value is = ap (λ l. e ∷ l) (same_value es place value is)

module _ {S : Type 0} (held : S → List ℕ) (honest : Type 0) where
  -- ---- by the page that is looked at

  module _ (pages : List (ℕ × PageValue S)) (number place : ℕ) (page page' : PageValue S) (at : place_of number pages ≡ Some place) (is : value_at place pages ≡ Some page) where
    pages_same : page' ≡ page → with_value pages place page' ≡ pages
    pages_same same = ap (with_value pages place) same ∙ same_value pages place page is

    away_still : (was : Place S) → page_state_of page'.place ≡ page_state_of was → IfAway was (λ _. Unit {0}) → (new : Place S) → page'.place ≡ new → IfAway new (λ _. Unit {0})
    away_still Fresh state away new at = absurd away
    away_still (Resident frame slot) state away new at = absurd away
    away_still (Leaving frame slot mark) state away new at = absurd away
    away_still (Saving frame mark) state away new at = absurd away
    away_still Purged state away new at = absurd away
    away_still (Away slot) state away Fresh at = let clash = ap page_state_of at in cc
    away_still (Away slot) state away (Resident frame kept) at = let clash = ap page_state_of at in cc
    away_still (Away slot) state away (Leaving frame kept mark) at = let clash = ap page_state_of at in cc
    away_still (Away slot) state away (Saving frame mark) at = let clash = ap page_state_of at in cc
    away_still (Away slot) state away (Away after) at = tt
    away_still (Away slot) state away Purged at = let clash = ap page_state_of at in cc

    pub page_left : page_state_of page'.place ≡ page_state_of page.place → ((¬ IfAway page.place (λ _. Unit {0})) → page' ≡ page) → page'.origin ≡ page.origin → (Known honest page.place → content held page' ≡ content held page) → kept_digest page'.place ≡ kept_digest page.place
        → LeavesPage held honest pages (with_value pages place page') number (page_at pages number)
    page_left state at_hand origin kept digest = subst (LeavesPage held honest pages (with_value pages place page') number) (sym (page_at-place pages number place page at is)) (by_place page.place refl)
      where
        by_place : (was : Place S) → page.place ≡ was → LeavesPlace held honest pages (with_value pages place page') number was
        by_place Fresh here = pages_same (at_hand (λ away. subst (λ p. IfAway p (λ _. Unit {0})) here away))
        by_place (Resident frame slot) here = pages_same (at_hand (λ away. subst (λ p. IfAway p (λ _. Unit {0})) here away))
        by_place (Leaving frame slot mark) here = pages_same (at_hand (λ away. subst (λ p. IfAway p (λ _. Unit {0})) here away))
        by_place (Saving frame mark) here = pages_same (at_hand (λ away. subst (λ p. IfAway p (λ _. Unit {0})) here away))
        by_place Purged here = pages_same (at_hand (λ away. subst (λ p. IfAway p (λ _. Unit {0})) here away))
        by_place (Away slot) here =
            changed_by pages number place page page' at is
            (record {
              origin = origin;
              place = subst (λ p. IfAbsent p (page'.place ≡ Fresh) (λ _. IfAway page'.place (λ _. Unit {0}))) (sym here) (away_still (Away slot) (state ∙ ap page_state_of here) tt page'.place refl);
              content = λ is_honest. kept (subst (Known honest) (sym here) is_honest);
              digest = digest;
            })

    pub page_failed : (failures : S → ℕ) → RefusesRead failures page.place page'.place read.Device → page'.origin ≡ page.origin → (Known honest page.place → content held page' ≡ content held page) → kept_digest page'.place ≡ kept_digest page.place
        → ChangesBy (FailsToLoad held honest failures) pages (with_value pages place page') number
    page_failed failures failed origin kept digest =
        changed_by pages number place page page' at is (record { stays = record { origin = origin; place = stays page.place failed; content = λ is_honest. kept (known page.place failed is_honest); digest = digest }; failed = failed })
      where
        weaker : (failures' : ℕ) (new : Place S) → IfAway new (λ after. Rose failures' (failures after.slot)) → IfAway new (λ _. Unit {0})
        weaker failures' Fresh how = absurd how
        weaker failures' (Resident frame slot) how = absurd how
        weaker failures' (Leaving frame slot mark) how = absurd how
        weaker failures' (Saving frame mark) how = absurd how
        weaker failures' (Away slot) how = tt
        weaker failures' Purged how = absurd how

        stays : (was : Place S) → RefusesRead failures was page'.place read.Device → IfAbsent was (page'.place ≡ Fresh) (λ _. IfAway page'.place (λ _. Unit {0}))
        stays Fresh how = absurd how
        stays (Resident frame slot) how = absurd how
        stays (Leaving frame slot mark) how = absurd how
        stays (Saving frame mark) how = absurd how
        stays (Away copy) how = weaker (failures copy.slot) page'.place how
        stays Purged how = absurd how

        known : (was : Place S) → RefusesRead failures was page'.place read.Device → honest → Known honest was
        known Fresh how is_honest = absurd how
        known (Resident frame slot) how is_honest = absurd how
        known (Leaving frame slot mark) how is_honest = absurd how
        known (Saving frame mark) how is_honest = absurd how
        known (Away slot) how is_honest = is_honest
        known Purged how is_honest = absurd how

  -- ---- what stays

  left_stays : (pages pages' : List (ℕ × PageValue S)) (number : ℕ) (was : Option (PageValue S)) → LeavesPage held honest pages pages' number was → (P : Type 0) → (pages' ≡ pages → P) → (ChangesBy (StaysAbsent held honest) pages pages' number → P) → P
  left_stays pages pages' number None left P same moved = same left
  left_stays pages pages' number (Some page) left P same moved = by_place page.place left
    where
      by_place : (place : Place S) → LeavesPlace held honest pages pages' number place → P
      by_place Fresh left = same left
      by_place (Resident frame slot) left = same left
      by_place (Leaving frame slot mark) left = same left
      by_place (Saving frame mark) left = same left
      by_place (Away slot) left = moved left
      by_place Purged left = same left

  pub holds_peeked : (pages pages' : List (ℕ × PageValue S)) (tables : List (List ℕ)) (caches : List (List Translation)) (number : ℕ) (was : Option (PageValue S)) → number < 2 ^ 20 → LeavesPage held honest pages pages' number was → Holds held honest pages tables caches → Holds held honest pages' tables caches
  holds_peeked pages pages' tables caches number was small left holds = left_stays pages pages' number was left _ (λ same. rw same holds) (λ told. holds_absent held honest number small holds told)

  pub memory_peeked : (pages pages' : List (ℕ × PageValue S)) (number : ℕ) (was : Option (PageValue S)) → LeavesPage held honest pages pages' number was → honest → flat_pages held pages' ≡ flat_pages held pages
  memory_peeked pages pages' number was left is_honest = left_stays pages pages' number was left _ (λ same. ap (flat_pages held) same) (λ told. memory_absent held honest told is_honest)

  pub unwritten_peeked : (pages pages' : List (ℕ × PageValue S)) (tables : List (List ℕ)) (caches : List (List Translation)) (number : ℕ) (was : Option (PageValue S)) → number < 2 ^ 20 → LeavesPage held honest pages pages' number was → Holds held honest pages tables caches → SameUnwritten (flat_pages held pages) (flat_pages held pages')
  unwritten_peeked pages pages' tables caches number was small left holds =
      left_stays pages pages' number was left _ (λ same. unwritten_same held pages pages' (ap (flat_pages held) same)) (λ told. unwritten_absent held honest number small holds told)

  -- ---- the bytes

  all_known : (place : Place S) → honest → Known honest place
  all_known Fresh is_honest = tt
  all_known (Resident frame slot) is_honest = tt
  all_known (Leaving frame slot mark) is_honest = tt
  all_known (Saving frame mark) is_honest = tt
  all_known (Away slot) is_honest = is_honest
  all_known Purged is_honest = tt

  get-shown : (pages : List (ℕ × PageValue S)) (number : ℕ) → get (flat_pages held pages) number ≡ option_map (flat_page held) (page_at pages number)
  unfolding flat_pages page_at
  get-shown pages number = get-map_by-place (flat_page held) pages number

  pub bytes_shown : {U E : Type 0} (pages : List (ℕ × PageValue S)) (reserved : Reservations) (address number offset count : ℕ) (bytes : List (Option ℕ)) (result : Result U E) → number ≡ page_number address → offset ≡ page_offset address
      → OnOk result (ShowsBytes held honest (page_at pages number) offset count bytes) → honest → OnOk result (bytes_of (memory_in held pages reserved) address count ≡ Some bytes)
  bytes_shown pages reserved address number offset count bytes (Err e) is_number is_offset shows is_honest = tt
  bytes_shown pages reserved address number offset count bytes (Ok u) is_number is_offset shows is_honest =
      ap (option_map (λ page. some_from page.bytes (page_offset address) count)) (get-shown pages (page_number address))
      ∙ by_page (page_at pages (page_number address)) (subst (λ o. ShowsBytes held honest (page_at pages (page_number address)) o count bytes) is_offset (subst (λ n. ShowsBytes held honest (page_at pages n) offset count bytes) is_number shows))
    where
      by_page : (o : Option (PageValue S)) → ShowsBytes held honest o (page_offset address) count bytes → option_map (λ page. some_from page.bytes (page_offset address) count) (option_map (flat_page held) o) ≡ Some bytes
      by_page None shows = absurd shows
      by_page (Some page) shows = ap Some (sym (shows.1 (all_known page.place is_honest)))
