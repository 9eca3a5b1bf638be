-- A page that could not leave its frame is resident again: it is listed again, and then mapped again.
use Rattle.std.specs.Prelude.{◌≡◌, ℕ, true}
use Rattle.clock_policy.specs.declared.key.Key.{Key}
use Rattle.clock_policy.specs.ClockPro.{restored}
use Rattle.clock_policy.specs.Lawful.{Lawful}
use Rattle.pager_core.specs.Pager.{takes_back, with_list}
use Rattle.paged_memory.specs.moves.Moving as moving
use Rattle.machine_sides.specs.Sides.{PagerSideValue, MovesMemory}
use Rattle.machine_sides.specs.Together.{key_of}
use Rattle.space_core.specs.StandsFor.{SpaceValue}

-- the list takes the page back, as one in its test
pub record ListsAgain (key : Key) (old new : PagerSideValue) : Type 0 where
  pub taken : takes_back key old.pager.list ≡ true
  pub pager_is : new ≡ record old { pager = with_list (restored key old.pager.list).0 old.pager }
  pub lawful : Lawful new.pager.list

module _ {S : Type 0} where
  -- the list takes the page of a number back, should it not leave its frame
  abbrev pub CanReturn : ℕ → PagerSideValue → SpaceValue S → Type 0
  CanReturn vpn pager space = takes_back (key_of space.memory.process vpn) pager.pager.list ≡ true

  -- a page that is leaving is mapped again, in its frame
  abbrev pub MapsAgain : ℕ → SpaceValue S → SpaceValue S → Type 0
  MapsAgain vpn old new = MovesMemory (moving.MapsAgain vpn) old new

  -- the page is resident again
  pub record ComesBack (vpn : ℕ) (pager pager' : PagerSideValue) (old new : SpaceValue S) : Type 0 where
    pub listed : ListsAgain (key_of old.memory.process vpn) pager pager'
    pub mapped : MapsAgain vpn old new
