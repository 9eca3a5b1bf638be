-- The step of the event of an ended process: its purge.
use Rattle.std.specs.Prelude.{◌≡◌, ℕ, IfSome, List, Result, Some, slice_get, slice_set}
use Rattle.swap_slots.specs.PoolValue.{PoolValue}
use Rattle.machine_sides.specs.Purging.{HasRoom, Purges}
use Rattle.machine_sides.specs.Sides.{PagerSideValue}
use Rattle.machine_sides.specs.declared.purging.PurgeRefusal.{PurgeRefusal}
use Rattle.space_core.specs.StandsFor.{SpaceValue}

module _ {S : Type 0} where
  -- the pool has room for the slots of the process of this number
  abbrev pub HasRoomAt : ℕ → List (SpaceValue S) → PoolValue S → Type 0
  HasRoomAt number processes pool = IfSome (slice_get processes number) (λ (process : SpaceValue S). HasRoom process pool)

  -- a purge of the process of this number
  pub record PurgesAt (pager pager' : PagerSideValue) (number : ℕ) (old new : List (SpaceValue S)) (pool pool' : PoolValue S) (result : Result (Unit {0}) PurgeRefusal) : Type 0 where
    pub process : SpaceValue S
    pub process' : SpaceValue S
    pub found : slice_get old number ≡ Some process
    pub how : Purges pager pager' process process' pool pool' result
    pub is : new ≡ slice_set old number process'
