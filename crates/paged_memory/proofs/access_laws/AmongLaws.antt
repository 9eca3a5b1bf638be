-- How many of a memory's pages are resident, are being saved or hold a frame, by where each of them is.
use Rattle.std.proofs.Common.{◌≡◌, ℕ, zero, suc, ◌+◌, ◌≤◌, ◌<◌, ◌^◌, Bool, true, false, ◌&&◌, cond, List, [], ◌∷◌, map, Option, Some, None, option_map, slice_get, refl, sym, ap, ◌∙◌, arith}
use Rattle.std.specs.Option.{option_and_then}
use Rattle.page_memory.specs.Entries.{place_of, value_at, values_of}
use Rattle.page_memory.specs.Pages.{Page}
use Rattle.page_store.specs.declared.state.PageState.{PageState}
use Rattle.page_store.specs.PageValue.{PageValue, Place, Fresh, Resident, Leaving, Saving, Away, Purged, frame_of, slot_of, page_state_of}
use Rattle.page_store.specs.Keeping.{is_copy_out}
use Rattle.paged_memory.specs.cleaning.Copies.{copies_among}
use Rattle.paged_memory.specs.Counting.{page_passes, pages_below, pages_where, is_resident_place, is_saving_place, frame_passes, is_kept}
use Rattle.paged_memory.proofs.CountingLaws.{none_where_pass}
use Rattle.paged_memory.proofs.access_laws.FewerLaws.{Implies, fewer_where, one_fewer_where, once_where}
use Rattle.paged_memory.specs.Fresh.{HasFresh, fresh}
use Rattle.paged_memory.specs.Paged.{PagedValue, page_at}
use Rattle.paged_memory.specs.moves.Stages.{is_resident_stage, is_saving_stage, has_frame_stage}
use Rattle.paged_memory.specs.Whole.{stage_in, residents_among, savings_among, frames_among, slots_within}

both_parts : (a b : Bool) → a && b ≡ true → (a ≡ true) × (b ≡ true)
both_parts true true h = (refl, refl)
both_parts true false h = cc
both_parts false b h = cc

both_true : (a b : Bool) → a ≡ true → b ≡ true → a && b ≡ true
both_true true true h k = refl
both_true true false h k = cc
both_true false b h k = cc

second_false : (a b : Bool) → b ≡ false → a && b ≡ false
second_false true b h = h
second_false false b h = refl

false_where : (b : Bool) → (b ≡ true → ⊥) → b ≡ false
false_where true h = absurd (h refl)
false_where false h = refl

module _ {S : Type 0} where
  -- ---- a page is where its stage tells

  resident_stage : (place : Place S) → is_resident_stage (Some (page_state_of place)) ≡ is_resident_place place
  resident_stage place = refl

  saving_stage : (place : Place S) → is_saving_stage (Some (page_state_of place)) ≡ is_saving_place place
  saving_stage place = refl

  frame_stage : (place : Place S) → has_frame_stage (Some (page_state_of place)) ≡ frame_passes (λ _. true) (frame_of place)
  frame_stage Fresh = refl
  frame_stage (Resident frame slot) = refl
  frame_stage (Leaving frame slot mark) = refl
  frame_stage (Saving frame mark) = refl
  frame_stage (Away slot) = refl
  frame_stage Purged = refl

  -- a page is mapped, and its place passes
  record Is (passes : Place S → Bool) (memory : PagedValue S) (v : ℕ) : Type 0 where
    page : PageValue S
    at : page_at memory.pages v ≡ Some page
    is : passes page.place ≡ true

  module _ (by : Option PageState → Bool) (passes : Place S → Bool) (none : by None ≡ false) (same : (place : Place S) → by (Some (page_state_of place)) ≡ passes place) (memory : PagedValue S) where
    page_there : (v : ℕ) → by (stage_in memory v) ≡ true → Is passes memory v
    page_there v h = by_page (page_at memory.pages v) refl h
      where
        by_page : (o : Option (PageValue S)) → page_at memory.pages v ≡ o → by (option_map (λ page. page_state_of page.place) o) ≡ true → Is passes memory v
        by_page None at h = let e = none in cc
        by_page (Some page) at h = record { page = page; at = at; is = sym (same page.place) ∙ h }

    stage_there : (v : ℕ) (page : PageValue S) → page_at memory.pages v ≡ Some page → by (stage_in memory v) ≡ passes page.place
    stage_there v page at = ap (λ o. by (option_map (λ (p : PageValue S). page_state_of p.place) o)) at ∙ same page.place

    -- one of the pages that pass, by its number too
    abbrev counted : (ℕ → Bool) → ℕ
    counted test = pages_where (λ number page. passes page.place && test number) memory.pages

    fewer_counted : (few many : ℕ → Bool) (v : ℕ) → ((w : ℕ) → few w ≡ true → many w ≡ true) → v < 2 ^ 20 → by (stage_in memory v) ≡ true → few v ≡ false → many v ≡ true → counted few + 1 ≤ counted many
    fewer_counted few many v all small is not met =
        let there = page_there v is in
        one_fewer_where (λ number page. passes page.place && few number) (λ number page. passes page.place && many number) memory.pages
        (λ number page h. let parts = both_parts (passes page.place) (few number) h in both_true (passes page.place) (many number) parts.0 (all number parts.1))
        v there.page there.at (second_false (passes there.page.place) (few v) not) (both_true (passes there.page.place) (many v) there.is met) small

    some_counted : (test : ℕ → Bool) (v : ℕ) → v < 2 ^ 20 → by (stage_in memory v) ≡ true → test v ≡ true → 1 ≤ counted test
    some_counted test v small is met =
        let there = page_there v is in
        let one = one_fewer_where (λ number page. false) (λ number page. passes page.place && test number) memory.pages (λ number page h. absurd (cc))
        v there.page there.at refl (both_true (passes there.page.place) (test v) there.is met) small in
        omega (arith, one)

    one_counted : (test : ℕ → Bool) (v : ℕ) → ((w : ℕ) → test w ≡ true → w ≡ v) → v < 2 ^ 20 → by (stage_in memory v) ≡ true → test v ≡ true → counted test ≡ 1
    one_counted test v alone small is met =
        let some = some_counted test v small is met in
        let once = once_where (λ number page. passes page.place && test number) memory.pages v (λ number page h. alone number (both_parts (passes page.place) (test number) h).1) in
        omega (arith, some, once)

    none_counted : (test : ℕ → Bool) → ((w : ℕ) → w < 2 ^ 20 → by (stage_in memory w) ≡ true → test w ≡ true → ⊥) → counted test ≡ 0
    none_counted test none_passes = none_where_pass (λ number page. passes page.place && test number) memory.pages (λ number small. by_page number small (page_at memory.pages number) refl)
      where
        by_page : (number : ℕ) → number < 2 ^ 20 → (o : Option (PageValue S)) → page_at memory.pages number ≡ o → page_passes (λ page. passes page.place && test number) (page_at memory.pages number) ≡ false
        by_page number small None at = ap (page_passes (λ page. passes page.place && test number)) at
        by_page number small (Some page) at =
            ap (page_passes (λ page. passes page.place && test number)) at
            ∙ false_where (passes page.place && test number) (λ h. let parts = both_parts (passes page.place) (test number) h in none_passes number small (stage_there number page at ∙ parts.0) parts.1)

    record Found (test : ℕ → Bool) (bound : ℕ) : Type 0 where
      number : ℕ
      small : number < bound
      is : by (stage_in memory number) ≡ true
      passes_it : test number ≡ true

    found_below : (test : ℕ → Bool) (bound : ℕ) → 1 ≤ pages_below (λ number page. passes page.place && test number) memory.pages bound → Found test bound
    unfolding pages_below
    found_below test zero h = absurd (omega arith)
    found_below test (suc bound) h = by_page (found_below test bound) (page_at memory.pages bound) refl
      where
        rest : (1 ≤ pages_below (λ number page. passes page.place && test number) memory.pages bound → Found test bound) → page_passes (λ page. passes page.place && test bound) (page_at memory.pages bound) ≡ false → Found test (suc bound)
        rest more not =
            let here : cond {A = ℕ} (page_passes (λ (page : PageValue S). passes page.place && test bound) (page_at memory.pages bound)) 1 0 ≡ 0 = ap (λ b. cond {A = ℕ} b 1 0) not in
            let found = more (omega (arith, here, h)) in
            record { number = found.number; small = let s = found.small in omega (arith, s); is = found.is; passes_it = found.passes_it }

        by_test : (1 ≤ pages_below (λ number page. passes page.place && test number) memory.pages bound → Found test bound) → (page : PageValue S) (b : Bool) → page_at memory.pages bound ≡ Some page → passes page.place && test bound ≡ b → Found test (suc bound)
        by_test more page true at is = let parts = both_parts (passes page.place) (test bound) is in record { number = bound; small = omega arith; is = stage_there bound page at ∙ parts.0; passes_it = parts.1 }
        by_test more page false at is = rest more (ap (page_passes (λ (page : PageValue S). passes page.place && test bound)) at ∙ is)

        by_page : (1 ≤ pages_below (λ number page. passes page.place && test number) memory.pages bound → Found test bound) → (o : Option (PageValue S)) → page_at memory.pages bound ≡ o → Found test (suc bound)
        by_page more None at = rest more (ap (page_passes (λ (page : PageValue S). passes page.place && test bound)) at)
        by_page more (Some page) at = by_test more page (passes page.place && test bound) at refl

    found_counted : (test : ℕ → Bool) → 1 ≤ counted test → Found test (2 ^ 20)
    unfolding pages_where
    found_counted test h = found_below test (2 ^ 20) h

    -- fewer of them than of those that hold a frame
    framed_counted : ((place : Place S) → Implies (passes place) (frame_passes (λ _. true) (frame_of place))) → counted (λ _. true) ≤ frames_among memory (λ _. true)
    framed_counted all = fewer_where (λ number page. passes page.place && true) (λ number page. frame_passes (λ _. true) (frame_of page.place)) memory.pages (λ number page h. all page.place (both_parts (passes page.place) true h).0)

    one_framed_counted : ((place : Place S) → Implies (passes place) (frame_passes (λ _. true) (frame_of place))) → (v : ℕ) → v < 2 ^ 20 → has_frame_stage (stage_in memory v) ≡ true → by (stage_in memory v) ≡ false → counted (λ _. true) + 1 ≤ frames_among memory (λ _. true)
    one_framed_counted all v small framed not = by_page (page_at memory.pages v) refl framed
      where
        by_page : (o : Option (PageValue S)) → page_at memory.pages v ≡ o → has_frame_stage (option_map (λ (page : PageValue S). page_state_of page.place) o) ≡ true → counted (λ _. true) + 1 ≤ frames_among memory (λ _. true)
        by_page None at h = cc
        by_page (Some page) at h =
            let out : passes page.place ≡ false = sym (stage_there v page at) ∙ not in
            one_fewer_where (λ number page. passes page.place && true) (λ number page. frame_passes (λ _. true) (frame_of page.place)) memory.pages (λ number page h. all page.place (both_parts (passes page.place) true h).0)
            v page at (ap (λ b. b && true) out) (sym (frame_stage page.place) ∙ h) small

  resident_framed : (place : Place S) → Implies (is_resident_place place) (frame_passes (λ _. true) (frame_of place))
  resident_framed Fresh h = cc
  resident_framed (Resident frame slot) h = refl
  resident_framed (Leaving frame slot mark) h = cc
  resident_framed (Saving frame mark) h = cc
  resident_framed (Away slot) h = cc
  resident_framed Purged h = cc

  saving_framed : (place : Place S) → Implies (is_saving_place place) (frame_passes (λ _. true) (frame_of place))
  saving_framed Fresh h = cc
  saving_framed (Resident frame slot) h = cc
  saving_framed (Leaving frame slot mark) h = cc
  saving_framed (Saving frame mark) h = refl
  saving_framed (Away slot) h = cc
  saving_framed Purged h = cc

  module _ (memory : PagedValue S) where
    -- ---- the pages that are resident

    -- a resident page that passes one test alone is one more
    pub fewer_residents : (few many : ℕ → Bool) (v : ℕ) → ((w : ℕ) → few w ≡ true → many w ≡ true) → v < 2 ^ 20 → is_resident_stage (stage_in memory v) ≡ true → few v ≡ false → many v ≡ true
        → residents_among memory few + 1 ≤ residents_among memory many
    fewer_residents = fewer_counted is_resident_stage is_resident_place refl resident_stage memory

    -- a resident page whose number alone passes is one, and where none passes there is none
    pub one_resident : (test : ℕ → Bool) (v : ℕ) → ((w : ℕ) → test w ≡ true → w ≡ v) → v < 2 ^ 20 → is_resident_stage (stage_in memory v) ≡ true → test v ≡ true → residents_among memory test ≡ 1
    one_resident = one_counted is_resident_stage is_resident_place refl resident_stage memory

    pub no_residents : (test : ℕ → Bool) → ((w : ℕ) → w < 2 ^ 20 → is_resident_stage (stage_in memory w) ≡ true → test w ≡ true → ⊥) → residents_among memory test ≡ 0
    no_residents = none_counted is_resident_stage is_resident_place refl resident_stage memory

    -- one of those that pass
    pub record ResidentThere (test : ℕ → Bool) : Type 0 where
      pub number : ℕ
      pub small : number < 2 ^ 20
      pub resident : is_resident_stage (stage_in memory number) ≡ true
      pub passes : test number ≡ true

    pub resident_there : (test : ℕ → Bool) → 1 ≤ residents_among memory test → ResidentThere test
    resident_there test h =
        let found = found_counted is_resident_stage is_resident_place refl resident_stage memory test h in
        record { number = found.number; small = found.small; resident = found.is; passes = found.passes_it }

    -- they hold frames, and a page that holds one besides is one more
    pub residents_framed : residents_among memory (λ _. true) ≤ frames_among memory (λ _. true)
    residents_framed = framed_counted is_resident_stage is_resident_place refl resident_stage memory resident_framed

    pub one_resident_less : (v : ℕ) → v < 2 ^ 20 → has_frame_stage (stage_in memory v) ≡ true → is_resident_stage (stage_in memory v) ≡ false → residents_among memory (λ _. true) + 1 ≤ frames_among memory (λ _. true)
    one_resident_less = one_framed_counted is_resident_stage is_resident_place refl resident_stage memory resident_framed

    -- ---- those that are being saved

    pub some_saving : (test : ℕ → Bool) (v : ℕ) → v < 2 ^ 20 → is_saving_stage (stage_in memory v) ≡ true → test v ≡ true → 1 ≤ savings_among memory test
    some_saving = some_counted is_saving_stage is_saving_place refl saving_stage memory

    pub record SavingThere (test : ℕ → Bool) : Type 0 where
      pub number : ℕ
      pub small : number < 2 ^ 20
      pub saving : is_saving_stage (stage_in memory number) ≡ true
      pub passes : test number ≡ true

    pub saving_there : (test : ℕ → Bool) → 1 ≤ savings_among memory test → SavingThere test
    saving_there test h =
        let found = found_counted is_saving_stage is_saving_place refl saving_stage memory test h in
        record { number = found.number; small = found.small; saving = found.is; passes = found.passes_it }

    pub savings_framed : savings_among memory (λ _. true) ≤ frames_among memory (λ _. true)
    savings_framed = framed_counted is_saving_stage is_saving_place refl saving_stage memory saving_framed

    pub one_saving_less : (v : ℕ) → v < 2 ^ 20 → has_frame_stage (stage_in memory v) ≡ true → is_saving_stage (stage_in memory v) ≡ false → savings_among memory (λ _. true) + 1 ≤ frames_among memory (λ _. true)
    one_saving_less = one_framed_counted is_saving_stage is_saving_place refl saving_stage memory saving_framed

  -- ---- pages that were never brought in

  abbrev new_pages : List (ℕ × Page) → List (ℕ × PageValue S)
  new_pages pages = map (λ e. (e.0, fresh e.1)) pages

  fresh_values : (pages : List (ℕ × Page)) (place : ℕ) (page : PageValue S) → slice_get (values_of (new_pages pages)) place ≡ Some page → page.place ≡ Fresh
  fresh_values [] place page h = cc
  fresh_values (e ∷ es) zero page h = let same : fresh e.1 ≡ page = cc in ap (λ (p : PageValue S). p.place) (sym same)
  fresh_values (e ∷ es) (suc place) page h = fresh_values es place page h

  fresh_at : (pages : List (ℕ × Page)) (number : ℕ) (page : PageValue S) → page_at (new_pages pages) number ≡ Some page → page.place ≡ Fresh
  unfolding page_at
  fresh_at pages number page h = by_place (place_of number (new_pages pages)) h
    where
      by_place : (o : Option ℕ) → option_and_then (λ place. value_at place (new_pages pages)) o ≡ Some page → page.place ≡ Fresh
      by_place None h = cc
      by_place (Some place) h = fresh_values pages place page h

  none_fresh : (test : ℕ → PageValue S → Bool) (pages : List (ℕ × Page)) → ((number : ℕ) (page : PageValue S) → page.place ≡ Fresh → test number page ≡ false) → pages_where test (new_pages pages) ≡ 0
  none_fresh test pages none = none_where_pass test (new_pages pages) (λ number small. by_page number (page_at (new_pages pages) number) refl)
    where
      by_page : (number : ℕ) (o : Option (PageValue S)) → page_at (new_pages pages) number ≡ o → page_passes (test number) (page_at (new_pages pages) number) ≡ false
      by_page number None at = ap (page_passes (test number)) at
      by_page number (Some page) at = ap (page_passes (test number)) at ∙ none number page (fresh_at pages number page at)

  module _ (pages : List (ℕ × Page)) (memory : PagedValue S) (has : HasFresh pages memory) where
    pub fresh_residents : (test : ℕ → Bool) → residents_among memory test ≡ 0
    fresh_residents test =
        ap (pages_where (λ v (page : PageValue S). is_resident_place page.place && test v)) has
        ∙ none_fresh (λ v page. is_resident_place page.place && test v) pages (λ v page is. ap (λ p. is_resident_place p && test v) is)

    pub fresh_savings : (test : ℕ → Bool) → savings_among memory test ≡ 0
    fresh_savings test =
        ap (pages_where (λ v (page : PageValue S). is_saving_place page.place && test v)) has
        ∙ none_fresh (λ v page. is_saving_place page.place && test v) pages (λ v page is. ap (λ p. is_saving_place p && test v) is)

    pub fresh_copies : (test : ℕ → Bool) → copies_among memory test ≡ 0
    fresh_copies test =
        ap (pages_where (λ v (page : PageValue S). is_copy_out (slot_of page.place) && test v)) has
        ∙ none_fresh (λ v page. is_copy_out (slot_of page.place) && test v) pages (λ v page is. ap (λ p. is_copy_out (slot_of p) && test v) is)

    pub fresh_frames : (test : ℕ → Bool) → frames_among memory test ≡ 0
    fresh_frames test =
        ap (pages_where (λ v (page : PageValue S). frame_passes test (frame_of page.place))) has
        ∙ none_fresh (λ v page. frame_passes test (frame_of page.place)) pages (λ v page is. ap (λ p. frame_passes test (frame_of p)) is)

    pub fresh_slots : slots_within memory ≡ 0
    fresh_slots =
        ap (pages_where (λ v (page : PageValue S). is_kept (slot_of page.place))) has
        ∙ none_fresh (λ v page. is_kept (slot_of page.place)) pages (λ v page is. ap (λ p. is_kept (slot_of p)) is)
