-- Which of a process's pages the list and the process agree on: whether a page is resident.
use Rattle.std.specs.Prelude.{◌≡◌, ◌≢◌, ℕ, true, Option, Some, None}
use Rattle.clock_policy.specs.declared.key.Key.{Key}
use Rattle.clock_policy.specs.ClockPro.{question_of}
use Rattle.clock_policy.specs.Lawful.{Lawful}
use Rattle.clock_policy.specs.Residents.{residents, is_key, has_resident}
use Rattle.pager_core.specs.Pager.{PagerState}
use Rattle.space_core.specs.StandsFor.{SpaceValue}
use Rattle.machine_sides.specs.Together.{residents_in, key_of}

module _ {S : Type 0} where
  -- they agree on a page: it is listed as a resident one exactly where it is resident
  abbrev pub Agree : PagerState → SpaceValue S → Key → Type 0
  Agree pager space key = residents pager.list (is_key key) ≡ residents_in space (is_key key)

  -- each page of this process on which list and process agreed they agree on afterwards, but for the page of an admission that is out
  pub record AgreeStill (out : Option Key) (pager pager' : PagerState) (space space' : SpaceValue S) : Type 0 where
    pub process : space'.memory.process ≡ space.memory.process
    pub agree : (vpn : ℕ) → out ≢ Some (key_of space.memory.process vpn) → Agree pager space (key_of space.memory.process vpn) → Agree pager' space' (key_of space.memory.process vpn)

  -- whatever the list: it agrees with the process on a page that it has as a resident one
  abbrev pub AgreesWhereListed : SpaceValue S → Key → Type 0
  AgreesWhereListed space key = (pager : PagerState) → Lawful pager.list → has_resident key pager.list ≡ true → Agree pager space key

  -- the page that the list asks for is of this process
  abbrev pub AsksOf : PagerState → SpaceValue S → Type 0
  AsksOf pager space = (key : Key) → question_of pager.list ≡ Some key → key.process ≡ space.memory.process
