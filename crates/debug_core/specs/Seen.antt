-- What was seen of watches.
use Rattle.std.specs.Prelude.{◌≡◌, ℕ, ◌<◌, ⊤, false, List, [], length, take, slice_index_or, Option, Some, None}
use Rattle.page_memory.specs.Memory.{Memory}
use Rattle.flat_machine.specs.Process.{Process}
use Rattle.debug_core.specs.Limits.{CannotRead, Limit}
use Rattle.debug_core.specs.Points.{bytes_from, is_hit, point_at}
use Rattle.debug_core.specs.declared.point.Point.{Point}
use Rattle.debug_core.specs.declared.point.Point.TheVariants.{Break, Watch}
use Rattle.debug_core.specs.declared.target.TargetFault.{TargetFault}

-- a window has the bytes of a watch as a memory has them
abbrev pub IsSeen : Option Point → List (Option ℕ) → Memory → Type 0
IsSeen None window memory = ⊤
IsSeen (Some (Break address)) window memory = ⊤
IsSeen (Some (Watch address length)) window memory = take length window ≡ bytes_from memory address length

-- the same of each point and its window
abbrev pub AreSeen : List (Option Point) → List (List (Option ℕ)) → Memory → Type 0
AreSeen points windows memory = (number : ℕ) → number < length points → IsSeen (slice_index_or points number None) (slice_index_or windows number []) memory

-- the bytes of a point can't be read, for this reason: it is a watch
abbrev pub CannotSee : (Limit → Type 0) → Option Point → TargetFault → Type 0
CannotSee limits None why = ⊥
CannotSee limits (Some (Break address)) why = ⊥
CannotSee limits (Some (Watch address length)) why = limits (CannotRead address length why)

-- A target that shows this process can't read the bytes of a watch, and none of the watches with lower numbers was hit.
pub record IsUnread {T : Type 0} (shown : T → Process) (limits : T → Limit → Type 0) (points : List (Option Point)) (was : Memory) (process : Process) : Type 0 where
  pub number : ℕ
  pub at : T
  pub why : TargetFault
  pub shows : shown at ≡ process
  pub unseen : CannotSee (limits at) (point_at points number) why
  pub before : (lower : ℕ) → lower < number → is_hit was process.memory (point_at points lower) ≡ false
