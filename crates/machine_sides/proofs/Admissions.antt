-- Why a page is not admitted.
use Rattle.std.proofs.Common.{◌≡◌, ◌++◌, [], ◌∷◌, length, Bool, true, false, Some, None, option_map, is_some, refl, sym, ap, ◌∙◌}
use Rattle.std.specs.Prelude.{if◌then◌else◌}
use Rattle.clock_policy.specs.declared.key.Key.{Key}
use Rattle.clock_policy.specs.ClockPro.{kind_of}
use Rattle.clock_policy.specs.Lawful.{Lawful}
use Rattle.frame_pool.specs.FrameValue.{FrameValue}
use Rattle.pager_core.specs.declared.refusal.AdmitRefusal.{AdmitRefusal}
use Rattle.pager_core.specs.declared.refusal.AdmitRefusal.TheVariants as pager
use Rattle.pager_core.specs.Pager.{PagerState, admission_refused, admitted_with}
use Rattle.pager_core.specs.Refusals.{RefusesAdmission}
use Rattle.space_core.specs.StandsFor.{SpaceValue}
use Rattle.machine_sides.specs.Sides.{PagerSideValue}
use Rattle.machine_sides.specs.declared.admission.NotAdmitted.{NotAdmitted}
use Rattle.machine_sides.specs.declared.admission.NotAdmitted.TheVariants.{Ended, NotAbsent, NoMemory}
use Rattle.machine_sides.specs.Admitting.{is_absent_at, page_bars, bars, bars_from, told_by, pager_refusal, Admits, DoesNotAdmit}

page_told : (ended absent : Bool) (reason : NotAdmitted) → (if ended then Some Ended else (if absent then None else Some NotAbsent)) ≡ Some reason → Some reason ≡ told_by reason
page_told true absent reason h = let e : reason ≡ Ended = cc in ap (λ r. Some r) e ∙ sym (ap told_by e)
page_told false true reason h = cc
page_told false false reason h = let e : reason ≡ NotAbsent = cc in ap (λ r. Some r) e ∙ sym (ap told_by e)

page_not_memory : (ended absent : Bool) (reason : NotAdmitted) → (if ended then Some Ended else (if absent then None else Some NotAbsent)) ≡ Some reason → reason ≡ NoMemory → ⊥
page_not_memory true absent reason h is = cc
page_not_memory false true reason h is = cc
page_not_memory false false reason h is = cc

memory_told : (r : AdmitRefusal) (reason : NotAdmitted) → reason ≡ pager_refusal r → reason ≡ NoMemory → r ≡ pager.NoMemory
memory_told pager.AlreadyResident reason is told = cc
memory_told pager.NoFrame reason is told = cc
memory_told pager.NoMemory reason is told = refl

as_told : (key : Key) (state : PagerState) (r : AdmitRefusal) → RefusesAdmission r key state → option_map pager_refusal (admission_refused key state) ≡ told_by (pager_refusal r)
as_told key state pager.AlreadyResident h = ap (option_map pager_refusal) h
as_told key state pager.NoFrame h = ap (option_map pager_refusal) h
as_told key state pager.NoMemory h = ap (option_map pager_refusal) h

module _ {S : Type 0} where
  pub barred : (key : Key) (old : PagerSideValue) (space : SpaceValue S) (reason : NotAdmitted) → Some reason ≡ page_bars space key.vpn → DoesNotAdmit key old old space reason
  unfolding bars page_bars
  barred key old space reason h = record {
    why = ap (λ o. bars_from o (admission_refused key old.pager)) (sym h) ∙ page_told (is_some space.running.ending) (is_absent_at space key.vpn) reason (sym h);
    grows = λ is. absurd (page_not_memory (is_some space.running.ending) (is_absent_at space key.vpn) reason (sym h) is);
    stays = refl;
  }

  pub refused : (key : Key) (old new : PagerSideValue) (space : SpaceValue S) (r : AdmitRefusal) (reason : NotAdmitted) → reason ≡ pager_refusal r → None ≡ page_bars space key.vpn → RefusesAdmission r key old.pager
      → (r ≡ pager.NoMemory → kind_of key old.pager.list.entries ≡ None) → new ≡ old → DoesNotAdmit key old new space reason
  unfolding bars
  refused key old new space r reason is none h grows same = record {
    why = ap (λ o. bars_from o (admission_refused key old.pager)) (sym none) ∙ as_told key old.pager r h ∙ sym (ap told_by is);
    grows = λ told. grows (memory_told r reason is told);
    stays = same;
  }

  pub admits : (key : Key) (old new : PagerSideValue) (space : SpaceValue S) (frame : FrameValue) → None ≡ page_bars space key.vpn → admission_refused key old.pager ≡ None
      → old.pager.free ≡ new.pager.free ++ frame ∷ [] → length frame.bytes ≡ 4096 → new ≡ record old { pager = admitted_with key new.pager.free old.pager } → Lawful new.pager.list
      → Admits key old new space (record { key = key; frame = frame })
  unfolding bars
  admits key old new space frame none ok taken whole moved lawful = record {
    allowed = ap (λ o. bars_from o (admission_refused key old.pager)) (sym none) ∙ ap (option_map pager_refusal) ok;
    key_is = refl;
    taken = taken;
    whole = whole;
    pager_is = moved;
    lawful = lawful;
  }
