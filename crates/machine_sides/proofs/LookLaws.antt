-- What a look at a page does to the list and to the process's resident pages, whatever it comes to.
use Rattle.std.proofs.Common.{◌≡◌, ℕ, ◌+◌, Bool, refl, sym, ap, arith, subst}
use Rattle.clock_policy.specs.declared.key.Key.{Key}
use Rattle.clock_policy.specs.Residents.{residents}
use Rattle.swap_slots.specs.PoolValue.{PoolValue}
use Rattle.machine_sides.specs.Collecting.{Looks}
use Rattle.machine_sides.proofs.CollectLaws.{dropped_residents, dropped_together, copied_together}
use Rattle.machine_sides.specs.declared.collecting.Looked.{Looked}
use Rattle.machine_sides.specs.declared.collecting.Looked.TheVariants.{NotLeaving, NotYet, Freed, Dirty, NoSlot}
use Rattle.machine_sides.proofs.ReturnLaws.{back_together}
use Rattle.machine_sides.specs.Sides.{PagerSideValue}
use Rattle.machine_sides.specs.Together.{Together, residents_in}
use Rattle.space_core.specs.StandsFor.{SpaceValue}

module _ {S : Type 0} where
  pub same_sides : (pager pager' : PagerSideValue) (old new : SpaceValue S) → pager' ≡ pager → new ≡ old → Together pager.pager pager'.pager old new
  same_sides pager pager' old new same_pager same =
      subst (λ (r : SpaceValue S). Together pager.pager pager'.pager old r) (sym same)
      (subst (λ (s : PagerSideValue). Together pager.pager s.pager old old) (sym same_pager) (record { listed = λ test. refl; framed = λ test. refl; size = refl; process = refl }))

  module _ (vpn : ℕ) (pager pager' : PagerSideValue) (old new : SpaceValue S) (slots slots' : PoolValue S) where
    -- the list gains or loses what the process's resident pages do, whatever the look comes to
    pub looks_listed : (looked : Looked S) → Looks vpn pager pager' old new slots slots' looked → (test : Key → Bool) → residents pager'.pager.list test + residents_in old test ≡ residents pager.pager.list test + residents_in new test
    looks_listed NotLeaving how test = (same_sides pager pager' old new how.1.pager_stays how.1.process_stays).listed test
    looks_listed NotYet how test = (same_sides pager pager' old new how.stays.pager_stays how.stays.process_stays).listed test
    looks_listed Freed how test = (dropped_together vpn pager pager' old new slots slots' how).listed test
    looks_listed (Dirty job) how test = (copied_together vpn pager pager' old new slots slots' job how).listed test
    looks_listed NoSlot how test = (back_together vpn pager pager' old new how.returns).listed test
