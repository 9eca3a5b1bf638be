-- A page that is resident again keeps list and pages together.
use Rattle.std.proofs.Common.{◌≡◌, ℕ, ◌+◌, Bool, true, ◌&&◌, cond, ap, ◌∙◌, arith}
use Rattle.std.specs.Prelude.{is_ok}
use Rattle.clock_policy.specs.declared.key.Key.{Key}
use Rattle.clock_policy.proofs.AdmitLaws.{restored_residents}
use Rattle.clock_policy.specs.ClockPro.{ClockState, restored}
use Rattle.clock_policy.proofs.KeptLaws.{restored_frames}
use Rattle.clock_policy.specs.Residents.{residents}
use Rattle.paged_memory.proofs.move_laws.LeaveLaws.{HasReturned, returned}
use Rattle.pager_core.specs.Pager.{takes_back}
use Rattle.machine_sides.specs.Returning.{ListsAgain, MapsAgain, ComesBack}
use Rattle.machine_sides.specs.Sides.{PagerSideValue}
use Rattle.machine_sides.specs.Together.{Together, residents_in, frames_in, frames_where, key_of}
use Rattle.machine_sides.proofs.TogetherLaws.{LeavesRest, residents_more, savings_same, frames_same}
use Rattle.space_core.specs.StandsFor.{SpaceValue}

taken_back : (key : Key) (list : ClockState) → takes_back key list ≡ true → is_ok (restored key list).1 ≡ true
unfolding takes_back
taken_back key list taken = taken

-- the list has one more
listed_again : (key : Key) (old new : PagerSideValue) (test : Key → Bool) → ListsAgain key old new → residents new.pager.list test ≡ residents old.pager.list test + cond (test key) 1 0
listed_again key old new test lists =
    let now : residents new.pager.list test ≡ residents (restored key old.pager.list).0 test = ap (λ (p : PagerSideValue). residents p.pager.list test) lists.pager_is in
    now ∙ restored_residents test key old.pager.list ∙ ap (λ b. residents old.pager.list test + cond (b && test key) 1 0) (taken_back key old.pager.list lists.taken)

-- and as many frames
pub listed_frames : (key : Key) (old new : PagerSideValue) → ListsAgain key old new → new.pager.list.frames ≡ old.pager.list.frames
listed_frames key old new lists = ap (λ (p : PagerSideValue). p.pager.list.frames) lists.pager_is ∙ restored_frames key old.pager.list

module _ {S : Type 0} (vpn : ℕ) (old new : SpaceValue S) (maps : MapsAgain vpn old new) where
  abbrev told : HasReturned vpn old.memory new.memory
  told = returned vpn old.memory new.memory maps.moves

  returned_residents : (test : Key → Bool) → residents_in new test ≡ residents_in old test + cond (test (key_of old.memory.process vpn)) 1 0
  returned_residents test = residents_more old new maps.moves.process test vpn told.residents

  returned_frames : (test : ℕ → Bool) → frames_in new test ≡ frames_in old test
  returned_frames test = frames_same old new told.frames test

  -- the rest of the counts stays
  pub returned_rest : LeavesRest old new
  returned_rest = record { savings = λ test. savings_same old new maps.moves.process test told.savings; slots = told.slots; stay = told.stay; copies = told.copies }

module _ {S : Type 0} (vpn : ℕ) (pager pager' : PagerSideValue) (old new : SpaceValue S) where
  -- the list gains what the process does
  pub back_together : ComesBack vpn pager pager' old new → Together pager.pager pager'.pager old new
  back_together back = record {
    listed = λ test.
        let list = listed_again (key_of old.memory.process vpn) pager pager' test back.listed in
        let pages = returned_residents vpn old new back.mapped test in
        omega (arith, list, pages);
    framed = λ test.
        let free : frames_where test pager'.pager.free ≡ frames_where test pager.pager.free = ap (λ (p : PagerSideValue). frames_where test p.pager.free) back.listed.pager_is in
        let pages = returned_frames vpn old new back.mapped test in
        omega (arith, free, pages);
    size = ap (λ (p : PagerSideValue). p.pager.size) back.listed.pager_is;
    process = back.mapped.moves.process;
  }
