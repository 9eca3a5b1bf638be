-- What an audit of the machine under locks has found, lock after lock.
use Rattle.std.specs.Prelude.{◌≡◌, ◌≤◌, ◌++◌, ℕ, List, length}
use Rattle.held_machine.specs.Audit.{IsSound}
use Rattle.held_machine.specs.DeskValue.{DeskValue}
use Rattle.held_machine.specs.HeldValue.{HeldValue}

-- a pager and so many processes, as their locks kept them, were found so
pub record FindsSound (S : Type 0) (processes : ℕ) : Type 0 where
  pub desk : DeskValue
  pub held : List (HeldValue S)
  pub many : length held ≡ processes
  pub sound : IsSound desk held

-- so were a pager and some of the processes, that the machine is not sound, whatever processes come after those
pub record FindsAmiss (S : Type 0) (processes : ℕ) : Type 0 where
  pub desk : DeskValue
  pub held : List (HeldValue S)
  pub few : length held ≤ processes
  pub amiss : (rest : List (HeldValue S)) → length (held ++ rest) ≡ processes → ¬ IsSound desk (held ++ rest)
