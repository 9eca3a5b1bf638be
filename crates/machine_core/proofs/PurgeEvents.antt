-- The machine stays one where an ended process gives everything back, and all of it has its place.
use Rattle.std.proofs.Common.{◌≡◌, ℕ, zero, suc, ◌+◌, ◌≤◌, ◌++◌, ◌==◌, ◌&&◌, Bool, true, false, take, drop, List, [], ◌∷◌, length, Result, Ok, Err, Option, Some, None, option_map, slice_get, inl, inr, refl, sym, ap, ◌∙◌, arith, subst}
use Rattle.std.specs.Prelude.{slice_set, IfSome}
use Rattle.std.proofs.lemmas.Bool.Decides.{eqb_tells}
use Rattle.std.proofs.lemmas.List.{length-set}
use Rattle.clock_policy.specs.declared.key.Key.{Key}
use Rattle.clock_policy.proofs.ClockLaws.{purged_lawful}
use Rattle.clock_policy.specs.ClockPro.{purged}
use Rattle.clock_policy.proofs.KeptLaws.{purged_frames}
use Rattle.clock_policy.specs.Lawful.{Lawful}
use Rattle.clock_policy.specs.Residents.{residents}
use Rattle.frame_pool.specs.FrameValue.{FrameValue}
use Rattle.page_store.specs.JobValue.{JobValue}
use Rattle.paged_memory.proofs.access_laws.AmongLaws.{no_residents}
use Rattle.paged_memory.specs.Whole.{residents_among, slots_within}
use Rattle.pager_core.specs.Pager.{PagerState}
use Rattle.space_core.specs.StandsFor.{SpaceValue}
use Rattle.swap_slots.specs.PoolValue.{PoolValue}
use Rattle.machine_core.specs.declared.event.Reply.{Reply}
use Rattle.machine_core.specs.declared.event.Reply.TheVariants.{Purged}
use Rattle.machine_sides.specs.declared.purging.PurgeRefusal.{PurgeRefusal}
use Rattle.machine_core.specs.Machine.{CoreValue, IsMachine, total}
use Rattle.machine_core.specs.MachineRun.{of_process}
use Rattle.machine_core.specs.PurgeEvent.{purge_reason, purge_refusal, PurgesOnce}
use Rattle.machine_core.specs.PurgeSteps.{HasRoomAt, PurgesAt}
use Rattle.machine_sides.proofs.PurgeLaws.{given_savings, given_stays, given_copies, purged_together, purged_pool}
use Rattle.machine_sides.specs.Purging.{purge_bars, HasRoom, Purges, PurgesAll}
use Rattle.machine_sides.specs.Sides.{PagerSideValue}
use Rattle.machine_sides.specs.Together.{residents_in, frames_in, key_of}
use Rattle.machine_core.proofs.Cores.{lent_back}
use Rattle.machine_core.proofs.Kept.{moved_machine, out_stays, copies_stay, copies_even}
use Rattle.machine_core.proofs.TotalLaws.{total_at}

-- ---- a sum of which one place alone counts

total_none : {A : Type 0} (f : A → ℕ) (xs : List A) → ((i : ℕ) (y : A) → slice_get xs i ≡ Some y → f y ≡ 0) → total f xs ≡ 0
unfolding total
total_none f [] none = refl
total_none f (x ∷ xs) none = omega (arith, none 0 x refl, total_none f xs (λ i y at. none (suc i) y at))

total_one : {A : Type 0} (f : A → ℕ) (xs : List A) (p : ℕ) (x : A) → slice_get xs p ≡ Some x → ((i : ℕ) (y : A) → slice_get xs i ≡ Some y → (i ≡ p → ⊥) → f y ≡ 0) → total f xs ≡ f x
unfolding total
total_one f [] p x at others = cc
total_one f (z ∷ zs) zero x at others =
    let same : z ≡ x = cc in
    let e : f z ≡ f x = ap f same in
    omega (arith, e, total_none f zs (λ i y found. others (suc i) y found (λ same. omega (arith, same))))
total_one f (z ∷ zs) (suc p) x at others =
    omega (arith, others 0 z refl (λ same. omega (arith, same)), total_one f zs p x at (λ i y found apart. others (suc i) y found (λ same. apart (omega (arith, same)))))

same_number : (n : ℕ) → (n == n) ≡ true
same_number n = elim (eqb_tells n n) [ inl same ↦ same.0 | inr apart ↦ absurd (apart.1 refl) ]

module _ {S : Type 0} where
  -- a process has no page of another
  none_of_other : (space : SpaceValue S) (number : ℕ) (test : Key → Bool) → (space.memory.process == number) ≡ false → residents_in space (λ q. (q.process == number) && test q) ≡ 0
  unfolding residents_in
  none_of_other space number test other =
      no_residents space.memory (λ v. (space.memory.process == number) && test (key_of space.memory.process v))
      (λ v small is passes. let no : (space.memory.process == number) && test (key_of space.memory.process v) ≡ false = ap (λ b. b && test (key_of space.memory.process v)) other in cc)

  all_of_own : (space : SpaceValue S) (test : Key → Bool) → residents_in space (λ q. (q.process == space.memory.process) && test q) ≡ residents_in space test
  unfolding residents_in
  all_of_own space test = ap (λ b. residents_among space.memory (λ v. b && test (key_of space.memory.process v))) (same_number space.memory.process)

  -- list and pages of a process of the machine agree
  agreed : (core : CoreValue S) (p : ℕ) (q : SpaceValue S) → IsMachine core → slice_get core.processes p ≡ Some q → (test : Key → Bool)
      → residents core.pager.pager.list (λ k. (k.process == q.memory.process) && test k) ≡ residents_in q test
  agreed core p q machine found test =
      machine.listed (λ k. (k.process == q.memory.process) && test k)
      ∙ total_one (λ (r : SpaceValue S). residents_in r (λ k. (k.process == q.memory.process) && test k)) core.processes p q found
      (λ i r at apart. none_of_other r q.memory.process test (other i r at apart))
      ∙ all_of_own q test
    where
      other : (i : ℕ) (r : SpaceValue S) → slice_get core.processes i ≡ Some r → (i ≡ p → ⊥) → (r.memory.process == q.memory.process) ≡ false
      other i r at apart =
          elim (eqb_tells r.memory.process q.memory.process) [
            | inl same ↦ absurd (apart (sym (machine.numbered i r at) ∙ same.1 ∙ machine.numbered p q found))
            | inr differ ↦ differ.0
          ]

  -- ---- everything has its place

  has_room : (core : CoreValue S) (p : ℕ) (q : SpaceValue S) → IsMachine core → slice_get core.processes p ≡ Some q → length core.slots.free + slots_within q.memory ≤ core.slots.size
  has_room core p q machine found =
      let all = machine.slotted in
      let part = total_at (λ (r : SpaceValue S). slots_within r.memory) core.processes p q found in
      omega (arith, all, part)

  pub has_room_at : (pager : PagerSideValue) (slots : PoolValue S) (jobs copies : List (JobValue S)) (items lent : List (SpaceValue S)) (number : ℕ)
      → IsMachine (record { pager = pager; slots = slots; processes = items; jobs = jobs; copies = copies }) → lent ≡ items → HasRoomAt number lent slots
  has_room_at pager slots jobs copies items lent number machine same =
      subst (λ l. HasRoomAt number l slots) (sym same) (by_found (slice_get items number) refl)
    where
      by_found : (o : Option (SpaceValue S)) → slice_get items number ≡ o → IfSome o (λ (process : SpaceValue S). HasRoom process slots)
      by_found None is = tt
      by_found (Some q) is = has_room (record { pager = pager; slots = slots; processes = items; jobs = jobs; copies = copies }) number q machine is

  purges_all : (core : CoreValue S) (pager' : PagerSideValue) (pool' : PoolValue S) (q q' : SpaceValue S) (result : Result (Unit {0}) PurgeRefusal) → purge_bars q ≡ None → Purges core.pager pager' q q' core.slots pool' result → PurgesAll core.pager pager' q q' core.slots pool'
  purges_all core pager' pool' q q' (Ok done) allowed how = how
  purges_all core pager' pool' q q' (Err reason) allowed how = let why = how.why in cc

  -- ---- the machine stays one

  purged_machine : (core : CoreValue S) (pager' : PagerSideValue) (pool' : PoolValue S) (p : ℕ) (q q' : SpaceValue S) → IsMachine core → slice_get core.processes p ≡ Some q
      → PurgesAll core.pager pager' q q' core.slots pool' → IsMachine (record core { pager = pager'; slots = pool'; processes = slice_set core.processes p q' })
  purged_machine core pager' pool' p q q' machine found all =
      let now : pager'.pager ≡ record core.pager.pager { free = core.pager.pager.free ++ all.frames; list = purged q.memory.process core.pager.pager.list } = ap (λ (s : PagerSideValue). s.pager) all.pager_is in
      moved_machine core (record core { pager = pager'; slots = pool'; processes = slice_set core.processes p q' }) p q q' machine (record {
        found = found;
        processes = refl;
        together = purged_together core.pager pager' q q' core.slots pool' all (agreed core p q machine found);
        lawful = subst (λ (s : PagerState). Lawful s.list) (sym now) (purged_lawful q.memory.process core.pager.pager.list machine.lawful);
        frames = ap (λ (s : PagerState). s.list.frames) now ∙ purged_frames q.memory.process core.pager.pager.list ∙ machine.frames ∙ sym (ap (λ (s : PagerState). s.size) now);
        saved = λ test. let a = given_savings q q' all.moves test in omega (arith, a);
        slotted = let a = purged_pool core.pager pager' q q' core.slots pool' all in omega (arith, a);
        slots = ap (λ (s : PoolValue S). s.size) all.pool_is;
        out = out_stays core.processes p q q' core.jobs found (given_stays q q' all.moves) machine.out;
        copied = copies_even q q' core.copies all.moves.process (given_copies q q' all.moves);
        copies_out = copies_stay core.processes p q q' core.copies found (given_copies q q' all.moves).stand machine.copies_out;
      })

  unbarred_at : (processes : List (SpaceValue S)) (p : ℕ) (q : SpaceValue S) → purge_refusal p processes ≡ None → slice_get processes p ≡ Some q → purge_bars q ≡ None
  unbarred_at processes p q allowed found = none (purge_bars q) (sym (ap (of_process (λ side. option_map purge_reason (purge_bars side))) found) ∙ allowed)
    where
      none : (o : Option PurgeRefusal) → option_map purge_reason o ≡ None → o ≡ None
      none None h = refl
      none (Some reason) h = cc

  module _ (pager pager' : PagerSideValue) (pool pool' : PoolValue S) (jobs copies : List (JobValue S)) (items lent new : List (SpaceValue S)) (n p : ℕ) (result : Result (Unit {0}) PurgeRefusal)
      (machine : IsMachine (record { pager = pager; slots = pool; processes = items; jobs = jobs; copies = copies })) (allowed : purge_refusal p items ≡ None)
      (long : n ≡ length items) (same : lent ≡ items) (purges : PurgesAt pager pager' p lent new pool pool' result) where
    abbrev core : CoreValue S
    core = record { pager = pager; slots = pool; processes = items; jobs = jobs; copies = copies }

    abbrev left : CoreValue S
    left = record { pager = pager'; slots = pool'; processes = take n (new ++ drop (length new) items); jobs = jobs; copies = copies }

    found : slice_get items p ≡ Some purges.process
    found = ap (λ l. slice_get l p) (sym same) ∙ purges.found

    is_set : slice_set items p purges.process' ≡ take n (new ++ drop (length new) items)
    is_set =
        let is : new ≡ slice_set items p purges.process' = purges.is ∙ ap (λ l. slice_set l p purges.process') same in
        sym is ∙ sym (lent_back items new n long (ap length is ∙ length-set items p purges.process'))

    told : PurgesAll pager pager' purges.process purges.process' pool pool'
    told = purges_all core pager' pool' purges.process purges.process' result (unbarred_at items p purges.process allowed found) purges.how

    pub purged_back : IsMachine left
    purged_back = subst (λ l. IsMachine (record { pager = pager'; slots = pool'; processes = l; jobs = jobs; copies = copies })) is_set (purged_machine core pager' pool' p purges.process purges.process' machine found told)

    pub purged_size : pager'.pager.size ≡ pager.pager.size
    purged_size = ap (λ (s : PagerSideValue). s.pager.size) told.pager_is

    pub purged_once : (old : CoreValue S) (reply : Reply) → core ≡ old → reply ≡ Purged → PurgesOnce p old left reply
    purged_once old reply e is = subst (λ o. PurgesOnce p o left reply) e (record {
      allowed = allowed;
      process = purges.process;
      process' = purges.process';
      found = found;
      purges = told;
      processes = sym is_set;
      stays = refl;
      reply_is = is;
    })
