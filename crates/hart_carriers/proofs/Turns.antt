-- A slice under a process's lock is no longer than was allowed.
use Rattle.std.proofs.Common.{◌≤◌, ℕ, List, Option, Some, None, IfSome}
use Rattle.held_machine.specs.HeldValue.{HeldValue}
use Rattle.held_machine.specs.Holding.{RunsWhere}
use Rattle.space_core.specs.declared.progress.Slice.{Slice}

pub slice_within : {S : Type 0} (content : S → List ℕ) (honest : Type 0) (number hart budget : ℕ) (reply : Option Slice) (old new : HeldValue S)
    → RunsWhere content honest number hart budget reply old new → IfSome reply (λ slice. slice.ran ≤ budget)
slice_within content honest number hart budget None old new runs = tt
slice_within content honest number hart budget (Some slice) old new runs = runs.slice.slice.within
