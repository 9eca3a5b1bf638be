-- List and process agree on a page that was loaded, and as before where none was.
use Rattle.std.proofs.Common.{◌≡◌, ℕ, ◌^◌, ◌<◌, Bool, true, false, cond, None, Ok, Err, Result, List, inl, inr, refl, sym, ap, ◌∙◌, arith}
use Rattle.std.specs.Prelude.{OnOk, OnErr, IfErr}
use Rattle.std.proofs.lemmas.Bool.Decides.{leb_tells}
use Rattle.clock_policy.specs.declared.key.Key.{Key}
use Rattle.clock_policy.proofs.AdmitLaws.{is_key_self, key_residents}
use Rattle.clock_policy.specs.Residents.{is_key}
use Rattle.paged_memory.proofs.move_laws.ComeLaws.{come, refused_alike}
use Rattle.paged_memory.specs.moves.Stages.{is_resident_stage, is_absent_stage}
use Rattle.paged_memory.proofs.move_laws.StagesLaws.{resident_not_absent}
use Rattle.paged_memory.specs.Whole.{stage_in}
use Rattle.paged_memory.specs.declared.filling.PageInFault.{PageInFault}
use Rattle.pager_core.specs.Pager.{PagerState}
use Rattle.space_core.specs.StandsFor.{SpaceValue}
use Rattle.machine_sides.specs.Admitting.{AdmissionValue, is_resident_at}
use Rattle.machine_sides.specs.Agreeing.{AgreeStill, AgreesWhereListed}
use Rattle.machine_sides.specs.Loading.{Loads, DoesNotLoad}
use Rattle.machine_sides.proofs.StageLaws.{stage_below}
use Rattle.machine_sides.specs.Together.{residents_in, key_of}
use Rattle.machine_sides.proofs.TogetherLaws.{residents_more, alike_residents}
use Rattle.machine_sides.proofs.Agreements.{listed_agree, absent_counts}

module _ {S : Type 0} where
  -- an absent page is not resident
  absent_at : (space : SpaceValue S) (vpn : ℕ) → vpn < 2 ^ 20 → is_absent_stage (stage_in space.memory vpn) ≡ true → is_resident_at space vpn ≡ false
  absent_at space vpn small absent =
      ap is_resident_stage (stage_below space vpn small)
      ∙ by_test (is_resident_stage (stage_in space.memory vpn)) refl
    where
      by_test : (b : Bool) → is_resident_stage (stage_in space.memory vpn) ≡ b → is_resident_stage (stage_in space.memory vpn) ≡ false
      by_test true is = let no = resident_not_absent (stage_in space.memory vpn) is in cc
      by_test false is = is

  module _ (held : S → List ℕ) (honest : Type 0) (admission : AdmissionValue) (old new : SpaceValue S) where
    abbrev loaded_key : Key
    loaded_key = key_of old.memory.process admission.key.vpn

    -- the page that came in is counted once
    loaded_counts : Loads held honest admission old new → residents_in new (is_key loaded_key) ≡ 1
    loaded_counts loads =
        let told = come held honest admission.frame admission.key.vpn old.memory new.memory loads.moves in
        let more = residents_more old new loads.moves.process (is_key loaded_key) admission.key.vpn told.residents in
        let one : cond {A = ℕ} (is_key loaded_key loaded_key) 1 0 ≡ 1 = ap (λ b. cond {A = ℕ} b 1 0) (is_key_self loaded_key) in
        let none = absent_counts old loaded_key (absent_at old admission.key.vpn loads.moves.small told.was) in
        omega (arith, more, one, none)

    loaded_meets : Loads held honest admission old new → AgreesWhereListed new loaded_key
    loaded_meets loads = λ pager lawful listed. key_residents loaded_key pager.list lawful ∙ ap (λ b. cond {A = ℕ} b 1 0) listed ∙ sym (loaded_counts loads)

    pub loads_meet : {A E : Type 0} (result : Result A E) → OnOk result (Loads held honest admission old new) → OnOk result (AgreesWhereListed new loaded_key)
    loads_meet (Ok done) loads = loaded_meets loads
    loads_meet (Err fault) loads = loads

    -- ---- no page came in

    refusal_keeps : (failures : S → ℕ) (back : AdmissionValue) (fault : PageInFault) → DoesNotLoad held honest failures admission back fault old new → (pager : PagerState) → AgreeStill None pager pager old new
    refusal_keeps failures back fault fails pager = listed_agree pager pager old new fails.rest.process (λ test. let e = same_counts test in omega (arith, e))
      where
        same_counts : (test : Key → Bool) → residents_in new test ≡ residents_in old test
        same_counts test =
            elim (leb_tells (2 ^ 20) admission.key.vpn) [
              | inl beyond ↦ ap (λ (s : SpaceValue S). residents_in s test) (fails.beyond beyond.1).1.1
              | inr within ↦ alike_residents old new (refused_alike held honest old.memory new.memory fails.rest.process fails.unmapped admission.key.vpn within.1 failures admission.frame back.frame fault (fails.why within.1)) test
            ]

    pub refusals_keep : {A : Type 0} (failures : S → ℕ) (result : Result A (AdmissionValue × PageInFault)) → IfErr result (λ back. DoesNotLoad held honest failures admission back.0 back.1 old new) → OnErr result ((pager : PagerState) → AgreeStill None pager pager old new)
    refusals_keep failures (Ok done) fails = fails
    refusals_keep failures (Err back) fails = λ pager. refusal_keeps failures back.0 back.1 fails pager
