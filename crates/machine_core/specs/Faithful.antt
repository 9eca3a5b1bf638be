-- A machine whose processes represent their flat runs. Each process has consistent pages, tables and caches. The machine's list, pages,
-- frames and slots are consistent.
use Rattle.std.specs.Prelude.{ℕ, List}
use Rattle.machine_core.specs.Coherent.{EachCoherent}
use Rattle.machine_core.specs.Machine.{CoreValue, IsMachine}

-- what holds of a machine between any two events
pub record IsFaithful {S : Type 0} (held : S → List ℕ) (honest : Type 0) (core : CoreValue S) : Type 0 where
  pub coherent : EachCoherent held honest core.processes
  pub machine : IsMachine core
