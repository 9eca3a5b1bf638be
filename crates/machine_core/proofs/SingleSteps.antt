-- Slices of one instruction in a row are so many steps of the machine.
use Rattle.std.proofs.Common.{◌≡◌, ℕ, zero, suc, ◌&&◌, Bool, true, false, List, [], ◌∷◌, ◌++◌, Option, Some, None, slice_get, inl, inr, refl, sym, ap, ◌∙◌, arith, subst}
use Rattle.std.specs.Prelude.{slice_set, slice_index_or, replicate, option_map, take, drop, length, is_some, is_none, if◌then◌else◌}
use Rattle.flat_machine.specs.declared.end.End.{End}
use Rattle.machine_core.proofs.Cores.{alike_machine, step_alike, lent_back}
use Rattle.machine_core.proofs.TotalLaws.{got_set, get_set_same}
use Rattle.machine_core.specs.Applying.{Applies, Runs}
use Rattle.machine_core.proofs.ApplyingLaws.{runs_none, runs_more}
use Rattle.machine_core.specs.Coherent.{IsCoherent, EachCoherent}
use Rattle.machine_core.specs.Faithful.{IsFaithful}
use Rattle.machine_core.specs.Machine.{CoreValue}
use Rattle.machine_core.specs.MachineRun.{step_reply, hart_reason, hart_refusal, of_process, ChangesOne}
use Rattle.machine_sides.specs.ProcessCalls.{Slices, StepsOnce, SlicesOn, SliceEnds, SlicesMany}
use Rattle.machine_sides.specs.Sides.{PagerSideValue}
use Rattle.machine_core.specs.declared.error.EventRefusal.TheVariants as refusal
use Rattle.machine_core.specs.declared.event.Event.TheVariants.{Step}
use Rattle.machine_core.specs.declared.event.Reply.{Reply}
use Rattle.machine_core.specs.declared.event.Reply.TheVariants.{Ran}
use Rattle.space_core.specs.StandsFor.{SpaceValue}
use Rattle.space_core.specs.declared.progress.SliceStop.{SliceStop}
use Rattle.space_core.specs.declared.progress.SliceStop.TheVariants.{Budget}
use Rattle.machine_core.specs.ManySteps.{steps_of, replies_of}
use Rattle.std.proofs.lemmas.List.{length-set}
use Rattle.swap_slots.specs.PoolValue.{PoolValue}
use Rattle.page_store.specs.JobValue.{JobValue}

-- one more of the same stands at the end too
replicate_last : {A : Type 0} (n : ℕ) (x : A) → replicate n x ++ x ∷ [] ≡ replicate (suc n) x
replicate_last zero x = refl
replicate_last (suc n) x = ap (λ l. x ∷ l) (replicate_last n x)

-- a place that is set to what is there, or twice
set_same : {A : Type 0} (xs : List A) (p : ℕ) (x : A) → slice_get xs p ≡ Some x → slice_set xs p x ≡ xs
set_same [] p x h = refl
set_same (z ∷ zs) zero x h = let e : z ≡ x = cc in ap (λ y. y ∷ zs) (sym e)
set_same (z ∷ zs) (suc p) x h = ap (λ l. z ∷ l) (set_same zs p x h)

set_twice : {A : Type 0} (xs : List A) (p : ℕ) (x y : A) → slice_set (slice_set xs p x) p y ≡ slice_set xs p y
set_twice [] p x y = refl
set_twice (z ∷ zs) zero x y = refl
set_twice (z ∷ zs) (suc p) x y = ap (λ l. z ∷ l) (set_twice zs p x y)

-- a hart that may step is not refused
may_go : (ending : Option End) (live : Bool) → is_none ending && live ≡ true → (if live then (if is_some ending then Some refusal.Ended else None) else Some refusal.NoHart) ≡ None
may_go None true h = refl
may_go None false h = cc
may_go (Some end) live h = cc

module _ {S : Type 0} (held : S → List ℕ) (honest : Type 0) (failures : S → ℕ) (p hart : ℕ) where
  -- one slice of a process of the machine is one step of it
  one_step : (core : CoreValue S) (q : SpaceValue S) (next : SpaceValue S) (ran : ℕ) (why : SliceStop) → slice_get core.processes p ≡ Some q → hart_reason hart q ≡ None
      → IsFaithful held honest core → Slices held honest hart 1 q next ran why
      → Applies held honest failures (Step p hart) core (record core { processes = slice_set core.processes p next }) (step_reply why)
  unfolding EachCoherent
  one_step core q next ran why found may faithful slice =
      let how : StepsOnce held honest hart why q next = record { ran = ran; slice = slice } in
      record {
        served = inr (record {
          allowed = ap (of_process (hart_reason hart)) found ∙ may;
          why = why;
          one = record { process = q; process' = next; found = found; how = how; is = refl };
          stays = refl;
          reply_is = refl;
        });
        faithful = record {
          coherent = λ number process at.
              elim (got_set core.processes p number next process at) [
                | inl here ↦ subst (λ (r : SpaceValue S). IsCoherent held honest r) (sym here.1) (record { stands = slice.stands; harts = slice.kept.harts; memory = slice.coheres })
                | inr there ↦ faithful.coherent number process there
              ];
          machine = alike_machine core p q next faithful.machine found (step_alike held honest hart why q next how);
        };
      }

  module _ (core : CoreValue S) (q : SpaceValue S) (found : slice_get core.processes p ≡ Some q) where
    -- the machine with its process so
    abbrev pub at : SpaceValue S → CoreValue S
    at space = record core { processes = slice_set core.processes p space }

    -- where so many steps have led
    pub record Led (count : ℕ) (space : SpaceValue S) : Type 0 where
      pub runs : Runs held honest failures (replicate count (Step p hart)) (replicate count Ran) core (at space)
      pub may : hart_reason hart space ≡ None
      pub faithful : IsFaithful held honest (at space)

    at_start : at q ≡ core
    at_start = ap (λ l. record core { processes = l }) (set_same core.processes p q found)

    -- one more step
    step_on : (count : ℕ) (space next : SpaceValue S) (ran : ℕ) (why : SliceStop) → Led count space → Slices held honest hart 1 space next ran why
        → Applies held honest failures (Step p hart) (at space) (at next) (step_reply why)
    step_on count space next ran why led slice =
        let there : slice_get (slice_set core.processes p space) p ≡ Some space = get_set_same core.processes p q space found in
        subst (λ l. Applies held honest failures (Step p hart) (at space) (record core { processes = l }) (step_reply why)) (set_twice core.processes p space next)
        (one_step (at space) space next ran why there led.may led.faithful slice)

    pub led_on : (may : hart_reason hart q ≡ None) → IsFaithful held honest core → (count : ℕ) (space : SpaceValue S) → SlicesOn held honest hart count q space → Led count space
    unfolding SlicesOn
    led_on may faithful zero space on =
        let same : q ≡ space = sym on in
        subst (λ s. Led 0 s) same (record {
          runs = subst (λ c. Runs held honest failures [] [] core c) (sym at_start) (runs_none held honest failures core);
          may = may;
          faithful = subst (λ c. IsFaithful held honest c) (sym at_start) faithful;
        })
    led_on may faithful (suc n) space on =
        let led = led_on may faithful n on.0 on.1.0 in
        let applies = step_on n on.0 space 1 Budget led on.1.1 in
        let more = runs_more held honest failures (replicate n (Step p hart)) (replicate n Ran) core (at on.0) (at space) (Step p hart) Ran led.runs applies in
        record {
          runs = subst (λ l. Runs held honest failures l (replicate (suc n) Ran) core (at space)) (replicate_last n (Step p hart))
              (subst (λ l. Runs held honest failures (replicate n (Step p hart) ++ Step p hart ∷ []) l core (at space)) (replicate_last n Ran) more);
          may = may_go space.running.ending (slice_index_or space.running.environment.live hart false) (on.1.1.stops.1 (omega arith));
          faithful = applies.faithful;
        }

    -- so many steps, and perhaps one more that stops
    pub led_last : (count : ℕ) (space next : SpaceValue S) (ran : ℕ) (why : SliceStop) → Led count space → Slices held honest hart 1 space next ran why
        → Runs held honest failures (replicate count (Step p hart) ++ Step p hart ∷ []) (replicate count Ran ++ step_reply why ∷ []) core (at next)
    led_last count space next ran why led slice =
        runs_more held honest failures (replicate count (Step p hart)) (replicate count Ran) core (at space) (at next) (Step p hart) (step_reply why) led.runs (step_on count space next ran why led slice)

    -- what many steps leave is a faithful machine, and they are a run
    pub record Stepped (count : ℕ) (last : Option Reply) (new : CoreValue S) : Type 0 where
      pub runs : Runs held honest failures (steps_of p hart count last) (replies_of count last) core new
      pub faithful : IsFaithful held honest new

    pub many_stepped : (may : hart_reason hart q ≡ None) → IsFaithful held honest core → (count : ℕ) (last : Option SliceStop) (q' : SpaceValue S) → SlicesMany held honest hart count last q q'
        → Stepped count (option_map step_reply last) (record core { processes = slice_set core.processes p q' })
    many_stepped may faithful count last q' many =
        by_last last many.ends
      where
        by_last : (o : Option SliceStop) → SliceEnds held honest hart o many.between q' → Stepped count (option_map step_reply o) (at q')
        by_last None ends =
            let led = led_on may faithful count many.between many.on in
            subst (λ s. Stepped count None (at s)) (sym ends) (record { runs = led.runs; faithful = led.faithful })
        by_last (Some why) ends =
            let led = led_on may faithful count many.between many.on in
            record {
              runs = led_last count many.between q' ends.0 why led ends.1;
              faithful = (step_on count many.between q' ends.0 why led ends.1).faithful;
            }

  -- the processes that were lent as a slice
  many_back : (pager : PagerSideValue) (slots : PoolValue S) (jobs copies : List (JobValue S)) (items lent new : List (SpaceValue S)) (n count : ℕ) (last : Option SliceStop)
      → None ≡ hart_refusal p hart items → IsFaithful held honest (record { pager = pager; slots = slots; processes = items; jobs = jobs; copies = copies }) → n ≡ length items → lent ≡ items
      → (one : ChangesOne (SlicesMany held honest hart count last) p lent new)
      → (Runs held honest failures (steps_of p hart count (option_map step_reply last)) (replies_of count (option_map step_reply last)) (record { pager = pager; slots = slots; processes = items; jobs = jobs; copies = copies })
      (record { pager = pager; slots = slots; processes = take n (new ++ drop (length new) items); jobs = jobs; copies = copies }))
      × IsFaithful held honest (record { pager = pager; slots = slots; processes = take n (new ++ drop (length new) items); jobs = jobs; copies = copies })
  many_back pager slots jobs copies items lent new n count last allowed faithful long same one =
      let core : CoreValue S = record { pager = pager; slots = slots; processes = items; jobs = jobs; copies = copies } in
      let found : slice_get items p ≡ Some one.process = ap (λ l. slice_get l p) (sym same) ∙ one.found in
      let is : new ≡ slice_set items p one.process' = one.is ∙ ap (λ l. slice_set l p one.process') same in
      let all : slice_set items p one.process' ≡ take n (new ++ drop (length new) items) = sym is ∙ sym (lent_back items new n long (ap length is ∙ length-set items p one.process')) in
      let may : hart_reason hart one.process ≡ None = sym (ap (of_process (hart_reason hart)) found) ∙ sym allowed in
      let stepped = many_stepped core one.process found may faithful count last one.process' one.how in (
        subst (λ l. Runs held honest failures (steps_of p hart count (option_map step_reply last)) (replies_of count (option_map step_reply last)) core (record { pager = pager; slots = slots; processes = l; jobs = jobs; copies = copies })) all stepped.runs,
        subst (λ l. IsFaithful held honest (record { pager = pager; slots = slots; processes = l; jobs = jobs; copies = copies })) all stepped.faithful,
      )

  -- the same of the machine as its caller sees it, and of the reply that it is told
  pub many_told : (pager : PagerSideValue) (slots : PoolValue S) (jobs copies : List (JobValue S)) (items lent new : List (SpaceValue S)) (n count : ℕ) (last : Option SliceStop) (reply : Option Reply) (old : CoreValue S)
      → record { pager = pager; slots = slots; processes = items; jobs = jobs; copies = copies } ≡ old → reply ≡ option_map step_reply last
      → None ≡ hart_refusal p hart items → IsFaithful held honest old → n ≡ length items → lent ≡ items → ChangesOne (SlicesMany held honest hart count last) p lent new
      → (Runs held honest failures (steps_of p hart count reply) (replies_of count reply) old (record { pager = pager; slots = slots; processes = take n (new ++ drop (length new) items); jobs = jobs; copies = copies }))
      × IsFaithful held honest (record { pager = pager; slots = slots; processes = take n (new ++ drop (length new) items); jobs = jobs; copies = copies })
  many_told pager slots jobs copies items lent new n count last reply old seen told allowed faithful long same one =
      let left : CoreValue S = record { pager = pager; slots = slots; processes = take n (new ++ drop (length new) items); jobs = jobs; copies = copies } in
      let back = many_back pager slots jobs copies items lent new n count last allowed (subst (IsFaithful held honest) (sym seen) faithful) long same one in (
        subst (λ l. Runs held honest failures (steps_of p hart count l) (replies_of count l) old left) (sym told)
            (subst (λ k. Runs held honest failures (steps_of p hart count (option_map step_reply last)) (replies_of count (option_map step_reply last)) k left) seen back.0),
        back.1,
      )
