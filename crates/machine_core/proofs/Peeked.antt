-- A look at bytes leaves the counts: a page that is away stays so.
use Rattle.std.proofs.Common.{ℕ, ◌^◌, ◌<◌, List, Option, ap}
use Rattle.std.specs.Prelude.{Result}
use Rattle.paged_memory.proofs.access_laws.AlikeLaws.{CountsAlike}
use Rattle.paged_memory.proofs.move_laws.ComeLaws.{looked_alike}
use Rattle.paged_memory.specs.declared.peeking.PeekFault.{PeekFault}
use Rattle.machine_sides.specs.Showing.{Peeks}
use Rattle.space_core.specs.StandsFor.{SpaceValue}

module _ {S : Type 0} (held : S → List ℕ) (honest : Type 0) where
  pub peek_alike : (failures : S → ℕ) (address : ℕ) → address < 2 ^ 32 → (room bytes : List (Option ℕ)) (result : Result (Unit {0}) PeekFault) (q q' : SpaceValue S) → Peeks held honest failures address room bytes result q q'
      → CountsAlike q.memory q'.memory
  peek_alike failures address small room bytes result q q' how =
      looked_alike held honest address q.memory q'.memory small (ap (λ (p : SpaceValue S). p.memory) how.stays) how.left
