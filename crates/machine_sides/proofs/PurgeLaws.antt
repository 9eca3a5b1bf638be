-- A purge keeps list and pages together, where they agreed on the process's pages.
use Rattle.std.proofs.Common.{sym, ◌≡◌, ℕ, ◌+◌, ◌++◌, ◌==◌, Bool, true, false, ◌&&◌, not, cond, List, [], ◌∷◌, length, Option, Some, None, is_some, IsSome, inl, inr, refl, ap, ◌∙◌, arith, subst}
use Rattle.std.specs.Prelude.{if◌then◌else◌}
use Rattle.std.proofs.lemmas.Bool.Decides.{eqb_tells}
use Rattle.std.proofs.lemmas.List.{length-append}
use Rattle.clock_policy.specs.declared.entry.Entry.{Entry}
use Rattle.clock_policy.specs.declared.key.Key.{Key}
use Rattle.clock_policy.proofs.AdmitLaws.{purged_residents}
use Rattle.clock_policy.specs.ClockPro.{ClockState, number, purged}
use Rattle.clock_policy.specs.Residents.{in_frame, is_resident_that, residents}
use Rattle.flat_machine.specs.declared.end.End.{End}
use Rattle.frame_pool.specs.FrameValue.{FrameValue}
use Rattle.paged_memory.proofs.access_laws.AlikeLaws.{SavingsStay}
use Rattle.paged_memory.specs.cleaning.Copies.{LeavesCopies}
use Rattle.paged_memory.proofs.move_laws.GivenLaws.{HoldsNothing, bare_all, all_savings, all_stay, all_copies}
use Rattle.paged_memory.specs.moves.Moving.{SavesSome, SavesNone}
use Rattle.paged_memory.specs.moves.Moving as moving
use Rattle.paged_memory.specs.Paged.{PagedValue}
use Rattle.paged_memory.proofs.move_laws.SaveLaws.{some_save, none_save, none_saved}
use Rattle.paged_memory.specs.Whole.{outs_within, slots_within}
use Rattle.pager_core.specs.Pager.{PagerState, with_list}
use Rattle.space_core.specs.StandsFor.{SpaceValue}
use Rattle.swap_slots.specs.PoolValue.{PoolValue}
use Rattle.machine_sides.specs.Giving.{GivesToPools}
use Rattle.machine_sides.specs.Purging.{is_saving_any, purge_bars, PurgesAll}
use Rattle.machine_sides.specs.declared.purging.PurgeRefusal.TheVariants.{NotEnded, SavingStill, AlreadyPurged}
use Rattle.machine_sides.specs.Sides.{PagerSideValue}
use Rattle.machine_sides.specs.Together.{Together, residents_in, savings_in, frames_in, frames_where, key_of}
use Rattle.machine_sides.proofs.TogetherLaws.{savings_same}

pub frames_where-append : (test : ℕ → Bool) (a b : List FrameValue) → frames_where test (a ++ b) ≡ frames_where test a + frames_where test b
unfolding frames_where
frames_where-append test [] b = omega arith
frames_where-append test (frame ∷ a) b = omega (arith, frames_where-append test a b)

parted_one : (here mine passes : Bool) → cond {A = ℕ} (here && passes) 1 0 ≡ cond {A = ℕ} (here && (not mine && passes)) 1 0 + cond {A = ℕ} (here && (mine && passes)) 1 0
parted_one true true true = refl
parted_one true true false = refl
parted_one true false true = refl
parted_one true false false = refl
parted_one false mine passes = refl

parted_entries : (mine test : Key → Bool) (l : List Entry) → number (is_resident_that test) l ≡ number (is_resident_that (λ q. not (mine q) && test q)) l + number (is_resident_that (λ q. mine q && test q)) l
parted_entries mine test [] = refl
parted_entries mine test (e ∷ l) = omega (arith, parted_one (in_frame e.kind) (mine e.key) (test e.key), parted_entries mine test l)

-- resident entries are some of one kind and some of the other
pub parted : (mine test : Key → Bool) (s : ClockState) → residents s test ≡ residents s (λ q. not (mine q) && test q) + residents s (λ q. mine q && test q)
unfolding residents
parted mine test s = parted_entries mine test s.entries

neither_one : (here mine passes : Bool) → cond {A = ℕ} (here && (not mine && (mine && passes))) 1 0 ≡ 0
neither_one true true passes = refl
neither_one true false passes = refl
neither_one false mine passes = refl

neither_entry : (mine test : Key → Bool) (l : List Entry) → number (is_resident_that (λ q. not (mine q) && (mine q && test q))) l ≡ 0
neither_entry mine test [] = refl
neither_entry mine test (e ∷ l) = omega (arith, neither_one (in_frame e.kind) (mine e.key) (test e.key), neither_entry mine test l)

-- none are of both
pub neither : (mine test : Key → Bool) (s : ClockState) → residents s (λ q. not (mine q) && (mine q && test q)) ≡ 0
unfolding residents
neither mine test s = neither_entry mine test s.entries

not_barred : (ended saving done : Bool) → (if ended then (if saving then Some SavingStill else (if done then Some AlreadyPurged else None)) else Some NotEnded) ≡ None → (ended ≡ true) × ((saving ≡ false) × (done ≡ false))
not_barred true true done h = cc
not_barred true false true h = cc
not_barred true false false h = (refl, (refl, refl))
not_barred false saving done h = cc

pub some_ended : (o : Option End) → is_some o ≡ true → IsSome o
some_ended None h = cc
some_ended (Some end) h = refl

module _ {S : Type 0} where
  -- ---- whether bytes of a page are out

  pub is_saving_some : (memory : PagedValue S) → SavesSome memory → is_saving_any memory ≡ true
  unfolding is_saving_any
  is_saving_some memory saves =
      elim (eqb_tells (outs_within memory) 0) [
        | inl same ↦ let some = some_save memory saves in let none = same.1 in absurd (omega (arith, some, none))
        | inr apart ↦ ap not apart.0
      ]

  pub is_saving_none : (memory : PagedValue S) → SavesNone memory → is_saving_any memory ≡ false
  unfolding is_saving_any
  is_saving_none memory none = ap (λ n. not (n == 0)) (none_save memory none)

  none_counted : (memory : PagedValue S) → is_saving_any memory ≡ false → outs_within memory ≡ 0
  unfolding is_saving_any
  none_counted memory quiet =
      elim (eqb_tells (outs_within memory) 0) [
        | inl same ↦ same.1
        | inr apart ↦ let e = ap not apart.0 in let q = quiet in cc
      ]

  -- ---- what is left of pages that gave everything back

  module _ (old new : SpaceValue S) (moves : moving.GivesAll old.memory new.memory) where
    module _ (quiet : is_saving_any old.memory ≡ false) where
      abbrev bare : HoldsNothing new.memory
      bare = bare_all old.memory new.memory moves (none_saved old.memory (none_counted old.memory quiet))

      pub given_residents : (test : Key → Bool) → residents_in new test ≡ 0
      unfolding residents_in
      given_residents test = bare.residents (λ vpn. test (key_of new.memory.process vpn))

      given_frames : (test : ℕ → Bool) → frames_in new test ≡ 0
      unfolding frames_in
      given_frames test = bare.frames test

      given_slots : slots_within new.memory ≡ 0
      given_slots = bare.slots

    -- as many pages are being saved, and they stay so
    pub given_savings : (test : Key → Bool) → savings_in new test ≡ savings_in old test
    given_savings test = savings_same old new moves.process test (all_savings old.memory new.memory moves)

    pub given_stays : SavingsStay old.memory new.memory
    given_stays = all_stay old.memory new.memory moves

    -- and the same copies are out
    pub given_copies : LeavesCopies old.memory new.memory
    given_copies = all_copies old.memory new.memory moves

  -- ---- the whole call

  -- a process that may give back has ended, none of its pages is being saved, and it has not given back before
  pub unbarred : (process : SpaceValue S) → purge_bars process ≡ None → (is_some process.running.ending ≡ true) × ((is_saving_any process.memory ≡ false) × (process.purged ≡ false))
  unfolding purge_bars
  unbarred process h = not_barred (is_some process.running.ending) (is_saving_any process.memory) process.purged h

  -- no page holds a slot
  pub purged_slots : (pager pager' : PagerSideValue) (process process' : SpaceValue S) (pool pool' : PoolValue S) → PurgesAll pager pager' process process' pool pool' → slots_within process'.memory ≡ 0
  purged_slots pager pager' process process' pool pool' all = given_slots process process' all.moves (unbarred process all.allowed).1.0

  -- where list and pages agreed on the process's pages, nothing is counted on one side alone
  pub purged_together : (pager pager' : PagerSideValue) (process process' : SpaceValue S) (pool pool' : PoolValue S) → PurgesAll pager pager' process process' pool pool'
      → ((test : Key → Bool) → residents pager.pager.list (λ q. (q.process == process.memory.process) && test q) ≡ residents_in process test)
      → Together pager.pager pager'.pager process process'
  purged_together pager pager' process process' pool pool' all agree =
      let quiet = (unbarred process all.allowed).1.0 in
      let now : pager'.pager ≡ record pager.pager { free = pager.pager.free ++ all.frames; list = purged process.memory.process pager.pager.list } = ap (λ (p : PagerSideValue). p.pager) all.pager_is in
      record {
        listed = λ test.
            let list : residents pager'.pager.list test ≡ residents pager.pager.list (λ q. not (q.process == process.memory.process) && test q) =
            ap (λ (p : PagerState). residents p.list test) now ∙ purged_residents test process.memory.process pager.pager.list in
            let parts = parted (λ q. q.process == process.memory.process) test pager.pager.list in
            let own = agree test in
            let none = given_residents process process' all.moves quiet test in
            omega (arith, list, parts, own, none);
        framed = λ test.
            let free : frames_where test pager'.pager.free ≡ frames_where test (pager.pager.free ++ all.frames) = ap (λ (p : PagerState). frames_where test p.free) now in
            let both = frames_where-append test pager.pager.free all.frames in
            let gave = all.framed test in
            let none = given_frames process process' all.moves quiet test in
            omega (arith, free, both, gave, none);
        size = ap (λ (p : PagerState). p.size) now;
        process = all.moves.process;
      }

  -- slots move from the pages to their pool
  pub purged_pool : (pager pager' : PagerSideValue) (process process' : SpaceValue S) (pool pool' : PoolValue S) → PurgesAll pager pager' process process' pool pool'
      → length pool'.free + slots_within process'.memory ≡ length pool.free + slots_within process.memory
  purged_pool pager pager' process process' pool pool' all =
      let now : length pool'.free ≡ length (pool.free ++ all.slots) = ap (λ (p : PoolValue S). length p.free) all.pool_is in
      let none = purged_slots pager pager' process process' pool pool' all in
      omega (arith, now, length-append pool.free all.slots, all.slotted, none)

  -- ---- how the parts of the call are the call

  pub gave_all : (pager : PagerSideValue) (process : SpaceValue S) (pool pool' : PoolValue S) (between after : PagerState) (space : SpaceValue S) (number : ℕ)
      → purge_bars process ≡ None → GivesToPools pager.pager between pool pool' process space → number ≡ space.memory.process → after ≡ with_list (purged number between.list) between
      → PurgesAll pager (record pager { pager = after }) process (record space { purged = true }) pool pool'
  gave_all pager process pool pool' between after space number allowed gives is moved =
      let quiet = (unbarred process allowed).1.0 in
      record {
        allowed = allowed;
        frames = gives.frames;
        slots = gives.slots;
        pager_is =
            let of_process : number ≡ process.memory.process = is ∙ gives.gives.moves.process in
            ap (λ (p : PagerState). record pager { pager = p }) (moved ∙ ap (λ (p : PagerState). with_list (purged number p.list) p) gives.pager_is)
            ∙ ap (λ n. record pager { pager = record pager.pager { free = pager.pager.free ++ gives.frames; list = purged n pager.pager.list } }) of_process;
        pool_is = gives.pool_is;
        framed = λ test. let a = gives.framed test in let none = given_frames process space gives.gives.moves quiet test in omega (arith, a, none);
        slotted = let a = gives.slotted in let none = given_slots process space gives.gives.moves quiet in omega (arith, a, none);
        frames_named = gives.frames_named;
        named = gives.named;
        moves = gives.gives.moves;
        is = ap (λ (s : SpaceValue S). record s { purged = true }) gives.gives.stays;
      }

  -- the same where the pager is known by this name, and the process is marked
  pub gave_told : (pager pager0 : PagerSideValue) (process process' : SpaceValue S) (pool pool' : PoolValue S) (between after : PagerState) (space : SpaceValue S) (number : ℕ)
      → pager ≡ pager0 → purge_bars process ≡ None → GivesToPools pager.pager between pool pool' process space → number ≡ space.memory.process → after ≡ with_list (purged number between.list) between → process' ≡ record space { purged = true }
      → PurgesAll pager0 (record pager { pager = after }) process process' pool pool'
  gave_told pager pager0 process process' pool pool' between after space number same_pager allowed gives is moved marked =
      subst (λ (q : PagerSideValue). PurgesAll q (record pager { pager = after }) process process' pool pool') same_pager
      (subst (λ (q : SpaceValue S). PurgesAll pager (record pager { pager = after }) process q pool pool') (sym marked)
      (gave_all pager process pool pool' between after space number allowed gives is moved))
