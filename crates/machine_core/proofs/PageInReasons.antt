-- Why a page is not brought in, on the machine: what is absent is not listed, and the list is full only where no frame is free.
use Rattle.std.proofs.Common.{◌≡◌, ℕ, ◌<◌, ◌^◌, ◌==◌, ◌||◌, Bool, true, false, cond, List, [], ◌∷◌, length, Option, Some, None, option_map, is_some, Result, Ok, Err, slice_get, inl, inr, refl, sym, ap, ◌∙◌, arith, subst}
use Rattle.std.specs.Prelude.{if◌then◌else◌}
use Rattle.std.specs.Result.{is_ok}
use borrow.Author.Tests.{eqb-true}
use Rattle.std.proofs.lemmas.Bool.Decides.{nat_tests}
use Rattle.clock_policy.specs.declared.answer.Kind.{Kind}
use Rattle.clock_policy.specs.declared.entry.EntryKind.{EntryKind}
use Rattle.clock_policy.specs.declared.entry.EntryKind.TheVariants.{Hot, Test, Cold, Shadow}
use Rattle.clock_policy.specs.declared.key.Key.{Key}
use Rattle.clock_policy.specs.declared.refusal.Refusal.{Refusal}
use Rattle.clock_policy.proofs.AdmitLaws.{admitted_barred, key_residents, full_is}
use Rattle.clock_policy.specs.ClockPro.{ClockState, is_full, kind_of, admitted}
use Rattle.clock_policy.specs.Residents.{residents, is_key, has_resident, found_in_frame}
use Rattle.frame_pool.specs.FrameValue.{FrameValue}
use Rattle.pager_core.specs.declared.refusal.AdmitRefusal.{AdmitRefusal}
use Rattle.pager_core.specs.declared.refusal.AdmitRefusal.TheVariants as pager_refused
use Rattle.pager_core.specs.Pager.{PagerState, resident_kind, is_listed_resident, none_free, has_no_frame, admission_refused}
use Rattle.space_core.specs.StandsFor.{SpaceValue}
use Rattle.paged_memory.specs.moves.Stages.{is_absent_stage}
use Rattle.paged_memory.proofs.move_laws.StagesLaws.{resident_not_absent}
use Rattle.paged_memory.specs.Whole.{stage_in}
use Rattle.machine_sides.specs.Admitting.{is_absent_at, page_bars, bars, bars_from, pager_refusal}
use Rattle.machine_sides.specs.declared.admission.NotAdmitted.{NotAdmitted}
use Rattle.machine_sides.specs.declared.admission.NotAdmitted.TheVariants.{Ended, NotAbsent, NoFrame}
use Rattle.machine_core.specs.declared.error.EventRefusal.TheVariants as refusal
use Rattle.machine_core.specs.Machine.{CoreValue, IsMachine}
use Rattle.machine_core.specs.PagingIn.{admit_reason, page_in_reason}
use Rattle.machine_sides.proofs.StageLaws.{stage_below, stage_passes}
use Rattle.machine_sides.specs.Together.{residents_in, frames_in}
use Rattle.machine_core.proofs.Counted.{fewer_total, all_frames, all_numbers, residents_framed}
use Rattle.machine_core.proofs.Finding.{HasResident, total_some, has_resident as resident_of}

-- the first reason, by whether the process has ended, whether the page is absent and whether no frame is free
unfoldable pub first_reason : Bool → Bool → Bool → Option NotAdmitted
first_reason ended absent none = if ended then Some Ended else (if absent then (if none then Some NoFrame else None) else Some NotAbsent)

-- ---- what the list knows of a page

in_frames : (found : Option EntryKind) → resident_kind found ≡ found_in_frame found
in_frames None = refl
in_frames (Some Hot) = refl
in_frames (Some Test) = refl
in_frames (Some Cold) = refl
in_frames (Some Shadow) = refl

pub listed_alike : (key : Key) (list : ClockState) → is_listed_resident key list ≡ has_resident key list
listed_alike key list = in_frames (kind_of key list.entries)

or_same : (a b : Bool) → (a ≡ false → b ≡ false) → a || b ≡ a
or_same true b h = refl
or_same false b h = h refl

event_told : (ended absent none : Bool) → (if ended then Some refusal.Ended else (if absent then (if none then Some refusal.NoFrame else None) else Some refusal.NotAbsent)) ≡ option_map admit_reason (first_reason ended absent none)
unfolding first_reason
event_told true absent none = refl
event_told false true true = refl
event_told false true false = refl
event_told false false none = refl

module _ {S : Type 0} where
  -- ---- an absent page

  -- a resident page is not absent
  resident_there : (space : SpaceValue S) (key : Key) → HasResident space key → is_absent_at space key.vpn ≡ false
  resident_there space key there = ap is_absent_stage (stage_below space key.vpn there.small) ∙ resident_not_absent (stage_in space.memory key.vpn) there.resident

  -- an absent page is mapped, and has no frame
  pub record IsThere (space : SpaceValue S) (vpn : ℕ) : Type 0 where
    pub small : vpn < 2 ^ 20
    pub absent : is_absent_stage (stage_in space.memory vpn) ≡ true

  pub absent_there : (space : SpaceValue S) (vpn : ℕ) → is_absent_at space vpn ≡ true → IsThere space vpn
  absent_there space vpn h = let there = stage_passes space is_absent_stage vpn refl h in record { small = there.0; absent = there.1 }

  module _ (core : CoreValue S) (key : Key) (q : SpaceValue S) (machine : IsMachine core) (found : slice_get core.processes key.process ≡ Some q) where
    -- the list does not have an absent page as a resident one
    pub absent_unlisted : is_absent_at q key.vpn ≡ true → has_resident key core.pager.pager.list ≡ false
    absent_unlisted absent = by_kind (has_resident key core.pager.pager.list) refl
      where
        by_kind : (b : Bool) → has_resident key core.pager.pager.list ≡ b → has_resident key core.pager.pager.list ≡ false
        by_kind false is = is
        by_kind true is =
            let once : residents core.pager.pager.list (is_key key) ≡ 1 = key_residents key core.pager.pager.list machine.lawful ∙ ap (λ b. cond {A = ℕ} b 1 0) is in
            let listed = machine.listed (is_key key) in
            let one = total_some (λ (r : SpaceValue S). residents_in r (is_key key)) core.processes (omega (arith, once, listed)) in
            let there = resident_of one.item key one.some in
            let place : one.place ≡ key.process = sym (machine.numbered one.place one.item one.found) ∙ there.of_process in
            let same : one.item ≡ q = let a = one.found in let b = found in let c = place in cc in
            let no : is_absent_at q key.vpn ≡ false = resident_there q key (subst (λ (r : SpaceValue S). HasResident r key) same there) in
            cc

    -- where a frame is free the list is not full
    room_for : none_free core.pager.pager.free ≡ false → is_full core.pager.pager.list ≡ false
    room_for some = by_full (is_full core.pager.pager.list) refl
      where
        long : (frames : List FrameValue) → none_free frames ≡ false → 0 < length frames
        long [] h = cc
        long (frame ∷ frames) h = omega arith

        by_full : (b : Bool) → is_full core.pager.pager.list ≡ b → is_full core.pager.pager.list ≡ false
        by_full false is = is
        by_full true is =
            let full : residents core.pager.pager.list (λ _. true) ≡ core.pager.pager.list.frames = eqb-true (residents core.pager.pager.list (λ _. true)) core.pager.pager.list.frames (sym (full_is core.pager.pager.list) ∙ is) in
            let listed = machine.listed (λ _. true) in
            let framed = machine.framed (λ _. true) in
            let frames = machine.frames in
            let fewer = fewer_total (λ (r : SpaceValue S). residents_in r (λ _. true)) (λ (r : SpaceValue S). frames_in r (λ _. true)) residents_framed core.processes in
            absurd (omega (arith, full, listed, framed, frames, fewer, long core.pager.pager.free some, all_frames core.pager.pager.free, all_numbers core.pager.pager.size))

    pub no_frame_alike : has_no_frame core.pager.pager ≡ none_free core.pager.pager.free
    no_frame_alike = or_same (none_free core.pager.pager.free) (is_full core.pager.pager.list) room_for

    told : (ended absent : Bool) (refused : Option AdmitRefusal) (none : Bool) → (absent ≡ true → refused ≡ (if none then Some pager_refused.NoFrame else None))
        → bars_from (if ended then Some Ended else (if absent then None else Some NotAbsent)) refused ≡ first_reason ended absent none
    unfolding first_reason
    told true absent refused none h = refl
    told false true refused true h = ap (option_map pager_refusal) (h refl)
    told false true refused false h = ap (option_map pager_refusal) (h refl)
    told false false refused none h = refl

    -- what bars a page's admission is the first reason of the process's and the pager's, where a full list is none
    pub bars_are : bars key core.pager.pager q ≡ first_reason (is_some q.running.ending) (is_absent_at q key.vpn) (none_free core.pager.pager.free)
    unfolding bars page_bars admission_refused
    bars_are =
        told (is_some q.running.ending) (is_absent_at q key.vpn) (admission_refused key core.pager.pager) (none_free core.pager.pager.free)
        (λ absent.
        ap (λ b. if b then Some pager_refused.AlreadyResident else (if has_no_frame core.pager.pager then Some pager_refused.NoFrame else None)) (listed_alike key core.pager.pager.list ∙ absent_unlisted absent)
        ∙ ap (λ b. if b then Some pager_refused.NoFrame else None) no_frame_alike)

  pub reason_is : (vpn : ℕ) (free : List FrameValue) (q : SpaceValue S) → page_in_reason vpn free q ≡ option_map admit_reason (first_reason (is_some q.running.ending) (is_absent_at q vpn) (none_free free))
  reason_is vpn free q = event_told (is_some q.running.ending) (is_absent_at q vpn) (none_free free)

-- ---- an admission

-- what bars nothing
none_from : (first : Option NotAdmitted) (second : Option AdmitRefusal) → bars_from first second ≡ None → (first ≡ None) × (second ≡ None)
none_from (Some reason) second h = cc
none_from None (Some reason) h = cc
none_from None None h = (refl, refl)

none_refused : (listed full : Bool) → (if listed then Some pager_refused.AlreadyResident else (if full then Some pager_refused.NoFrame else None)) ≡ None → (listed ≡ false) × (full ≡ false)
none_refused true full h = cc
none_refused false true h = cc
none_refused false false h = (refl, refl)

or_second : (a b : Bool) → a || b ≡ false → b ≡ false
or_second true b h = cc
or_second false b h = h

-- a page that is refused for no reason is listed
pub lists : (key : Key) (state : PagerState) → admission_refused key state ≡ None → is_ok (admitted key state.list).1 ≡ true
unfolding admission_refused
lists key state none = by_answer (admitted key state.list).1 refl
  where
    free : (is_listed_resident key state.list ≡ false) × (has_no_frame state ≡ false)
    free = none_refused (is_listed_resident key state.list) (has_no_frame state) none

    by_answer : (r : Result Kind Refusal) → (admitted key state.list).1 ≡ r → is_ok (admitted key state.list).1 ≡ true
    by_answer (Ok kind) is = ap is_ok is
    by_answer (Err e) is =
        elim (admitted_barred key state.list e is) [
          | inl listed ↦
              let yes = listed.1 in
              let no : has_resident key state.list ≡ false = sym (listed_alike key state.list) ∙ free.0 in
              cc
          | inr full ↦
              let yes : is_full state.list ≡ true = full_is state.list ∙ equal (residents state.list (λ _. true)) state.list.frames full.2 in
              let no : is_full state.list ≡ false = or_second (none_free state.free) (is_full state.list) free.1 in
              cc
        ]
      where
        equal : (m n : ℕ) → m ≡ n → m == n ≡ true
        equal m n h = grind (arith, nat_tests)

page_told : (ended absent : Bool) → (if ended then Some Ended else (if absent then None else Some NotAbsent)) ≡ None → (ended ≡ false) × (absent ≡ true)
page_told true absent h = cc
page_told false true h = (refl, refl)
page_told false false h = cc

module _ {S : Type 0} where
  -- what was barred by nothing
  pub record Unbarred (key : Key) (state : PagerState) (space : SpaceValue S) : Type 0 where
    pub live : is_some space.running.ending ≡ false
    pub there : IsThere space key.vpn
    pub lists : is_ok (admitted key state.list).1 ≡ true

  pub unbarred : (key : Key) (state : PagerState) (space : SpaceValue S) → bars key state space ≡ None → Unbarred key state space
  unfolding bars page_bars
  unbarred key state space none =
      let parts = none_from (page_bars space key.vpn) (admission_refused key state) none in
      let page = page_told (is_some space.running.ending) (is_absent_at space key.vpn) parts.0 in
      record { live = page.0; there = absent_there space key.vpn page.1; lists = lists key state parts.1 }
