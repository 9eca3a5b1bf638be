-- What a process shows beside its memory is that of the flat process that it stands for.
use Rattle.std.proofs.Common.{◌≡◌, ℕ, List, Some, ap}
use Rattle.flat_machine.specs.Process.{Process, opening, flat_run}
use Rattle.flat_machine.specs.Schedule.{written_out}
use Rattle.space_core.specs.StandsFor.{SpaceValue, StandsFor, own_ending, flat_with}

module _ {S : Type 0} (held : S → List ℕ) (honest : Type 0) (space : SpaceValue S) (flat : Process) (stands : honest → StandsFor held space) (is_honest : honest) (ran : flat_run (written_out space.schedule) (opening space.image space.input) ≡ Some flat) where
  same_flat : flat_with space.running (stands is_honest).memory ≡ flat
  same_flat = let a = (stands is_honest).ran in cc

  pub flat_harts : space.running.harts ≡ flat.harts
  flat_harts = ap (λ (p : Process). p.harts) same_flat

  pub flat_environment : space.running.environment ≡ flat.environment
  flat_environment = ap (λ (p : Process). p.environment) same_flat

  pub flat_ending : own_ending space.running.ending ≡ flat.ending
  flat_ending = ap (λ (p : Process). p.ending) same_flat
