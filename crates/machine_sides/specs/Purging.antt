-- An ended process gives everything back: its entries in the list, its frames and its slots.
use Rattle.std.specs.Prelude.{◌≡◌, ℕ, ◌+◌, ◌++◌, ◌^◌, ◌≤◌, ◌==◌, Bool, true, not, is_some, length, List, Option, Some, None, Result, Ok, Err, if◌then◌else◌}
use Rattle.clock_policy.specs.ClockPro.{purged}
use Rattle.frame_pool.specs.FrameValue.{FrameValue}
use Rattle.swap_slots.specs.PoolValue.{PoolValue}
use Rattle.paged_memory.specs.moves.Moving.{given_below, given_frame, given_slot}
use Rattle.paged_memory.specs.moves.Moving as moving
use Rattle.paged_memory.specs.Paged.{PagedValue}
use Rattle.paged_memory.specs.Whole.{outs_within, slots_within}
use Rattle.space_core.specs.StandsFor.{SpaceValue}
use Rattle.machine_sides.specs.Sides.{PagerSideValue}
use Rattle.machine_sides.specs.Together.{frames_where, frames_in}
use Rattle.machine_sides.specs.declared.purging.PurgeRefusal.{PurgeRefusal}
use Rattle.machine_sides.specs.declared.purging.PurgeRefusal.TheVariants.{NotEnded, SavingStill, AlreadyPurged}

module _ {S : Type 0} where
  -- a pool has room for the slots of a process's pages, beside those that it has
  abbrev pub HasRoom : SpaceValue S → PoolValue S → Type 0
  HasRoom process pool = length pool.free + slots_within process.memory ≤ pool.size

  -- whether bytes of a page of a process are out with a job: it is being saved, or a copy of it is out
  unfoldable pub is_saving_any : PagedValue S → Bool
  is_saving_any memory = not (outs_within memory == 0)

  -- why a process gives nothing back: the first reason that holds
  unfoldable pub purge_bars : SpaceValue S → Option PurgeRefusal
  purge_bars process =
      if is_some process.running.ending
      then (if is_saving_any process.memory then Some SavingStill else (if process.purged then Some AlreadyPurged else None))
      else Some NotEnded

  -- the process has given everything back, its frames and slots by rising number of their pages, and the list has none of its pages
  pub record PurgesAll (pager pager' : PagerSideValue) (process process' : SpaceValue S) (pool pool' : PoolValue S) : Type 0 where
    pub allowed : purge_bars process ≡ None
    pub frames : List FrameValue
    pub slots : List S
    pub pager_is : pager' ≡ record pager { pager = record pager.pager { free = pager.pager.free ++ frames; list = purged process.memory.process pager.pager.list } }
    pub pool_is : pool' ≡ record pool { free = pool.free ++ slots }
    pub framed : (test : ℕ → Bool) → frames_where test frames ≡ frames_in process test
    pub slotted : length slots ≡ slots_within process.memory
    pub frames_named : frames ≡ given_below given_frame process.memory (2 ^ 20)
    pub named : slots ≡ given_below given_slot process.memory (2 ^ 20)
    pub moves : moving.GivesAll process.memory process'.memory
    pub is : process' ≡ record process { memory = process'.memory; purged = true }

  -- nothing has changed
  pub record DoesNotPurge (reason : PurgeRefusal) (pager pager' : PagerSideValue) (process process' : SpaceValue S) (pool pool' : PoolValue S) : Type 0 where
    pub why : purge_bars process ≡ Some reason
    pub pager_stays : pager' ≡ pager
    pub process_stays : process' ≡ process
    pub pool_stays : pool' ≡ pool

  abbrev pub Purges : PagerSideValue → PagerSideValue → SpaceValue S → SpaceValue S → PoolValue S → PoolValue S → Result (Unit {0}) PurgeRefusal → Type 0
  Purges pager pager' process process' pool pool' (Ok done) = PurgesAll pager pager' process process' pool pool'
  Purges pager pager' process process' pool pool' (Err reason) = DoesNotPurge reason pager pager' process process' pool pool'
