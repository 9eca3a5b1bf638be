-- What a process shows of a page, whatever its number: nothing where none is mapped.
use Rattle.std.specs.Prelude.{ℕ, ◌^◌, nat_lt, is_some, Option, None, if◌then◌else◌}
use Rattle.paged_memory.specs.moves.PageStatus.{status_in}
use Rattle.paged_memory.specs.declared.status.PageStatus.{PageStatus}
use Rattle.space_core.specs.StandsFor.{SpaceValue}

abbrev pub status_at : {S : Type 0} → SpaceValue S → ℕ → Option PageStatus
status_at space vpn = if nat_lt vpn (2 ^ 20) then status_in (is_some space.running.ending) space.memory vpn else None
