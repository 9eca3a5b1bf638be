-- What the list answers to a page that is to be admitted is what refuses the page.
use Rattle.std.specs.Prelude.{◌≡◌, Bool, true, false, List, [], ◌∷◌, Option, Some, None, Result, Ok, Err, IsOk, refl, if◌then◌else◌}
use Rattle.std.proofs.Common.{sym, subst}
use Rattle.frame_pool.specs.FrameValue.{FrameValue}
use Rattle.clock_policy.specs.declared.key.Key.{Key}
use Rattle.clock_policy.specs.declared.entry.EntryKind.{EntryKind}
use Rattle.clock_policy.specs.declared.entry.EntryKind.TheVariants.{Hot, Test, Cold, Shadow}
use Rattle.clock_policy.specs.declared.answer.Kind.{Kind}
use Rattle.clock_policy.specs.declared.answer.Kind.TheVariants as kind
use Rattle.clock_policy.specs.declared.refusal.Refusal.{Refusal}
use Rattle.clock_policy.specs.declared.refusal.Refusal.TheVariants as list
use Rattle.clock_policy.specs.ClockPro.{ClockState, kind_of, is_full, admitted}
use Rattle.pager_core.specs.declared.refusal.AdmitRefusal.{AdmitRefusal}
use Rattle.pager_core.specs.declared.refusal.AdmitRefusal.TheVariants.{AlreadyResident, NoFrame}
use Rattle.pager_core.specs.Pager.{PagerState, resident_kind, none_free, admission_refused}
use Rattle.pager_core.specs.Refusals.{RefusesAdmission, list_refusal}

-- why a page is refused where a frame is free, by what the list knows of it and whether the list is full
abbrev told : Option EntryKind → Bool → Option AdmitRefusal
told found full = if resident_kind found then Some AlreadyResident else (if full then Some NoFrame else None)

-- the list's answer by the same
abbrev listed : Option EntryKind → Bool → Result Kind Refusal
listed None true = Err list.Full
listed None false = Ok kind.Test
listed (Some Hot) full = Err list.AlreadyResident
listed (Some Test) full = Err list.AlreadyResident
listed (Some Cold) full = Err list.AlreadyResident
listed (Some Shadow) true = Err list.Full
listed (Some Shadow) false = Ok kind.Hot

told_at : (key : Key) (p : PagerState) (found : Option EntryKind) (full : Bool)
    → kind_of key p.list.entries ≡ found → is_full p.list ≡ full → none_free p.free ≡ false → admission_refused key p ≡ told found full
unfolding admission_refused
told_at key p found full known whole free = rw (known, whole, free) refl

listed_at : (key : Key) (s : ClockState) (found : Option EntryKind) (full : Bool)
    → kind_of key s.entries ≡ found → is_full s ≡ full → (admitted key s).1 ≡ listed found full
unfolding admitted
listed_at key s None true known whole = rw (known, whole) refl
listed_at key s None false known whole = rw (known, whole) refl
listed_at key s (Some Hot) full known whole = rw known refl
listed_at key s (Some Test) full known whole = rw known refl
listed_at key s (Some Cold) full known whole = rw known refl
listed_at key s (Some Shadow) true known whole = rw (known, whole) refl
listed_at key s (Some Shadow) false known whole = rw (known, whole) refl

-- a refusal of the list, told as one of the pager's
abbrev as_told : Result Kind Refusal → Option AdmitRefusal → Type 0
as_told (Ok kind) refused = refused ≡ None
as_told (Err list.AlreadyResident) refused = refused ≡ Some AlreadyResident
as_told (Err list.NoQuestion) refused = ⊥
as_told (Err list.NotThere) refused = ⊥
as_told (Err list.Full) refused = refused ≡ Some NoFrame
as_told (Err list.NoMemory) refused = ⊥

told_listed : (found : Option EntryKind) (full : Bool) → as_told (listed found full) (told found full)
told_listed None true = refl
told_listed None false = refl
told_listed (Some Hot) full = refl
told_listed (Some Test) full = refl
told_listed (Some Cold) full = refl
told_listed (Some Shadow) true = refl
told_listed (Some Shadow) false = refl

-- where a frame is free, the list's answer tells why a page is refused
told_by_list : (key : Key) (p : PagerState) → none_free p.free ≡ false → as_told (admitted key p.list).1 (admission_refused key p)
told_by_list key p free =
    let found : Option EntryKind = kind_of key p.list.entries in
    let full : Bool = is_full p.list in
    let answer : (admitted key p.list).1 ≡ listed found full = listed_at key p.list found full refl refl in
    let reason : admission_refused key p ≡ told found full = told_at key p found full refl refl free in
    subst (λ a. as_told a (admission_refused key p)) (sym answer) (subst (as_told (listed found full)) (sym reason) (told_listed found full))

refuses : (r : Refusal) (key : Key) (p : PagerState) → as_told (Err r) (admission_refused key p) → RefusesAdmission (list_refusal r) key p
refuses list.AlreadyResident key p e = e
refuses list.NoQuestion key p e = absurd e
refuses list.NotThere key p e = absurd e
refuses list.Full key p e = e
refuses list.NoMemory key p e = absurd e

some_free : (l : List FrameValue) → (l ≡ [] → ⊥) → none_free l ≡ false
some_free [] h = absurd (h refl)
some_free (x ∷ xs) h = refl

refuses_page : (key : Key) (p : PagerState) (r : Refusal) → none_free p.free ≡ false → (admitted key p.list).1 ≡ Err r → RefusesAdmission (list_refusal r) key p
refuses_page key p r free e = refuses r key p (subst (λ a. as_told a (admission_refused key p)) e (told_by_list key p free))

taken : (key : Key) (p : PagerState) (answer : Result Kind Refusal) → none_free p.free ≡ false → IsOk answer → (admitted key p.list).1 ≡ answer → admission_refused key p ≡ None
taken key p (Ok kind) free ok e = subst (λ a. as_told a (admission_refused key p)) e (told_by_list key p free)
taken key p (Err r) free ok e = cc

-- what a list may answer to a page that is to be admitted: its own answer, or, where that is no refusal, want of memory
abbrev pub Answered : Key → ClockState → Result Kind Refusal → Type 0
Answered key s answer =
    ((answer ≡ Err list.NoMemory → ⊥) → answer ≡ (admitted key s).1) × (answer ≡ Err list.NoMemory → IsOk (admitted key s).1)

refused_by : (r : Refusal) (key : Key) (p : PagerState) → none_free p.free ≡ false → Answered key p.list (Err r) → RefusesAdmission (list_refusal r) key p
refused_by list.AlreadyResident key p free h = refuses_page key p list.AlreadyResident free (sym (h.0 (λ e. cc)))
refused_by list.NoQuestion key p free h = refuses_page key p list.NoQuestion free (sym (h.0 (λ e. cc)))
refused_by list.NotThere key p free h = refuses_page key p list.NotThere free (sym (h.0 (λ e. cc)))
refused_by list.Full key p free h = refuses_page key p list.Full free (sym (h.0 (λ e. cc)))
refused_by list.NoMemory key p free h = taken key p (admitted key p.list).1 free (h.1 refl) refl

pub refuses_as_listed : (r : Refusal) (key : Key) (p : PagerState) → (p.free ≡ [] → ⊥) → Answered key p.list (Err r) → RefusesAdmission (list_refusal r) key p
refuses_as_listed r key p free h = refused_by r key p (some_free p.free free) h

pub takes_as_listed : (kind : Kind) (key : Key) (p : PagerState) → (p.free ≡ [] → ⊥) → Answered key p.list (Ok kind) → admission_refused key p ≡ None
takes_as_listed kind key p free h = taken key p (Ok kind) (some_free p.free free) (cc) (sym (h.0 (λ e. cc)))

pub ruleset admissions = (refuses_as_listed, takes_as_listed)

-- ---- where no frame is free

without_frame : (key : Key) (p : PagerState) (found : Option EntryKind) → kind_of key p.list.entries ≡ found → p.free ≡ []
    → admission_refused key p ≡ (if resident_kind found then Some AlreadyResident else Some NoFrame)
unfolding admission_refused
without_frame key p found known none = rw (known, none) refl

pub no_frame_unknown : (key : Key) (p : PagerState) → kind_of key p.list.entries ≡ None → p.free ≡ [] → admission_refused key p ≡ Some NoFrame
no_frame_unknown key p known none = without_frame key p None known none

pub no_frame_shadow : (key : Key) (p : PagerState) → kind_of key p.list.entries ≡ Some Shadow → p.free ≡ [] → admission_refused key p ≡ Some NoFrame
no_frame_shadow key p known none = without_frame key p (Some Shadow) known none

pub no_frame_hot : (key : Key) (p : PagerState) → kind_of key p.list.entries ≡ Some Hot → p.free ≡ [] → admission_refused key p ≡ Some AlreadyResident
no_frame_hot key p known none = without_frame key p (Some Hot) known none

pub no_frame_test : (key : Key) (p : PagerState) → kind_of key p.list.entries ≡ Some Test → p.free ≡ [] → admission_refused key p ≡ Some AlreadyResident
no_frame_test key p known none = without_frame key p (Some Test) known none

pub no_frame_cold : (key : Key) (p : PagerState) → kind_of key p.list.entries ≡ Some Cold → p.free ≡ [] → admission_refused key p ≡ Some AlreadyResident
no_frame_cold key p known none = without_frame key p (Some Cold) known none

pub ruleset no_frames = (no_frame_unknown, no_frame_shadow, no_frame_hot, no_frame_test, no_frame_cold)
