-- What is reached by one event, and by runs one after another.
use Rattle.std.proofs.Common.{ℕ, List}
use Rattle.machine_core.specs.declared.event.Event.{Event}
use Rattle.machine_core.specs.declared.event.Reply.{Reply}
use Rattle.machine_core.specs.Applying.{Applies, Runs, LeadsTo}
use Rattle.machine_core.proofs.ApplyingLaws.{reaches_same, reaches_more, reaches_on}
use Rattle.machine_core.specs.Machine.{CoreValue}

module _ {S : Type 0} (held : S → List ℕ) (honest : Type 0) (failures : S → ℕ) where
  pub reaches_one : (old new : CoreValue S) (event : Event) (reply : Reply) → Applies held honest failures event old new reply → LeadsTo held honest failures old new
  reaches_one old new event reply applies = reaches_more held honest failures old old new event reply (reaches_same held honest failures old) applies

  pub reaches_last : (old between late new : CoreValue S) → LeadsTo held honest failures old between → LeadsTo held honest failures between late
      → LeadsTo held honest failures late new → LeadsTo held honest failures old new
  reaches_last old between late new a b c = reaches_on held honest failures old late new (reaches_on held honest failures old between late a b) c

  pub reaches_by : (events : List Event) (replies : List Reply) (old new : CoreValue S) → Runs held honest failures events replies old new → LeadsTo held honest failures old new
  reaches_by events replies old new run = record { events = events; replies = replies; runs = run }
