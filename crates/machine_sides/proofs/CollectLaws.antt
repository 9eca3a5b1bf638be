-- A look at a page keeps list, pages, frames and slots together.
use Rattle.std.proofs.Common.{◌≡◌, ℕ, ◌+◌, Bool, cond, List, [], ◌∷◌, ◌++◌, length, length-append, Option, Some, None, is_some, ap, ◌∙◌, arith}
use Rattle.clock_policy.specs.declared.key.Key.{Key}
use Rattle.clock_policy.specs.Residents.{residents}
use Rattle.frame_pool.specs.FrameValue.{FrameValue}
use Rattle.page_store.specs.JobValue.{JobValue}
use Rattle.paged_memory.specs.moves.Moving.{slot_in}
use Rattle.paged_memory.proofs.move_laws.SaveLaws.{HasGone, gone, IsBeingSaved, being_saved}
use Rattle.paged_memory.specs.Whole.{slots_within}
use Rattle.swap_slots.specs.PoolValue.{PoolValue}
use Rattle.machine_sides.specs.Collecting.{Drops, StartsSaving, TakesSlot, IsDropped, IsCopied}
use Rattle.machine_sides.proofs.SavingLaws.{one_more_free}
use Rattle.machine_sides.specs.Sides.{PagerSideValue}
use Rattle.machine_sides.specs.Together.{Together, residents_in, savings_in, frames_in, frames_where, key_of}
use Rattle.machine_sides.proofs.TogetherLaws.{LeavesRest, residents_same, savings_same, savings_more, frames_same, frames_fewer}
use Rattle.space_core.specs.StandsFor.{SpaceValue}

module _ {S : Type 0} where
  -- ---- a page that is dropped

  module _ (vpn : ℕ) (frame : FrameValue) (old new : SpaceValue S) (drops : Drops vpn frame old new) where
    abbrev dropped : HasGone vpn frame old.memory new.memory
    dropped = gone vpn frame old.memory new.memory drops.moves

    pub dropped_process : new.memory.process ≡ old.memory.process
    dropped_process = dropped.keeps.process

    pub dropped_residents : (test : Key → Bool) → residents_in new test ≡ residents_in old test
    dropped_residents test = residents_same old new dropped_process test dropped.residents

    dropped_frames : (test : ℕ → Bool) → frames_in new test + cond (test frame.number) 1 0 ≡ frames_in old test
    dropped_frames test = frames_fewer old new frame.number dropped.frames test

    pub dropped_rest : LeavesRest old new
    dropped_rest = record { savings = λ test. savings_same old new dropped_process test dropped.savings; slots = dropped.slots; stay = dropped.stay; copies = dropped.copies }

  -- the frame that the process loses the pager gains
  pub dropped_together : (vpn : ℕ) (pager pager' : PagerSideValue) (old new : SpaceValue S) (slots slots' : PoolValue S) → IsDropped vpn pager pager' old new slots slots' → Together pager.pager pager'.pager old new
  dropped_together vpn pager pager' old new slots slots' dropped = record {
    listed = λ test.
        let list : residents pager'.pager.list test ≡ residents pager.pager.list test = ap (λ (p : PagerSideValue). residents p.pager.list test) dropped.frees in
        let pages = dropped_residents vpn dropped.frame old new dropped.drops test in
        omega (arith, list, pages);
    framed = λ test.
        let free : frames_where test pager'.pager.free ≡ frames_where test pager.pager.free + cond (test dropped.frame.number) 1 0 = ap (λ (p : PagerSideValue). frames_where test p.pager.free) dropped.frees ∙ one_more_free test pager.pager.free dropped.frame in
        let pages = dropped_frames vpn dropped.frame old new dropped.drops test in
        omega (arith, free, pages);
    size = ap (λ (p : PagerSideValue). p.pager.size) dropped.frees;
    process = dropped_process vpn dropped.frame old new dropped.drops;
  }

  -- ---- a page that is to be saved

  -- a free slot that is taken is one fewer
  pub slot_taken : (own : Option S) (slot : S) (free free' : List S) → TakesSlot own slot free free' → length free' + 1 ≡ length free + cond (is_some own) 1 0
  slot_taken None slot free free' takes = let e : length free ≡ length (free' ++ slot ∷ []) = ap length takes in omega (arith, e, length-append free' (slot ∷ []))
  slot_taken (Some own) slot free free' takes = let e : length free' ≡ length free = ap length takes.1 in omega (arith, e)

  module _ (vpn : ℕ) (job : JobValue S) (old new : SpaceValue S) (slots slots' : PoolValue S) (saving : StartsSaving vpn job old new slots slots') where
    -- the page is being saved, in a frame that holds the copy
    pub copied_now : IsBeingSaved vpn job old.memory new.memory
    copied_now = being_saved vpn job old.memory new.memory saving.moves

    pub copied_process : new.memory.process ≡ old.memory.process
    copied_process = copied_now.keeps.process

    copied_residents : (test : Key → Bool) → residents_in new test ≡ residents_in old test
    copied_residents test = residents_same old new copied_process test copied_now.residents

    copied_frames : (test : ℕ → Bool) → frames_in new test ≡ frames_in old test
    copied_frames test = frames_same old new copied_now.frames test

    -- one page more is being saved
    pub copied_savings : (test : Key → Bool) → savings_in new test ≡ savings_in old test + cond (test (key_of old.memory.process vpn)) 1 0
    copied_savings test = savings_more old new copied_process test vpn copied_now.savings

    -- the slot of the save is one fewer of the page's and the free ones
    pub copied_slots : length slots'.free + slots_within new.memory + 1 ≡ length slots.free + slots_within old.memory
    copied_slots =
        let own = copied_now.slots in
        let taken = slot_taken (slot_in old.memory vpn) job.slot slots.free slots'.free saving.slot in
        omega (arith, own, taken)

  pub copied_together : (vpn : ℕ) (pager pager' : PagerSideValue) (old new : SpaceValue S) (slots slots' : PoolValue S) (job : JobValue S) → IsCopied vpn pager pager' old new slots slots' job → Together pager.pager pager'.pager old new
  copied_together vpn pager pager' old new slots slots' job copied = record {
    listed = λ test.
        let list : residents pager'.pager.list test ≡ residents pager.pager.list test = ap (λ (p : PagerSideValue). residents p.pager.list test) copied.pager_stays in
        let pages = copied_residents vpn job old new slots slots' copied.saving test in
        omega (arith, list, pages);
    framed = λ test.
        let free : frames_where test pager'.pager.free ≡ frames_where test pager.pager.free = ap (λ (p : PagerSideValue). frames_where test p.pager.free) copied.pager_stays in
        let pages = copied_frames vpn job old new slots slots' copied.saving test in
        omega (arith, free, pages);
    size = ap (λ (p : PagerSideValue). p.pager.size) copied.pager_stays;
    process = copied_process vpn job old new slots slots' copied.saving;
  }
