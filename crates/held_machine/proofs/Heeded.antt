-- What the end of a save comes to under the locks, once the desk has heeded it.
use Rattle.std.specs.Prelude.{◌≡◌, ◌&&◌, Some, None}
use Rattle.std.proofs.Common.{ap, sym, subst}
use Rattle.machine_sides.specs.Agreeing.{AgreeStill}
use Rattle.machine_sides.specs.SavingBack.{EndsSave}
use Rattle.machine_sides.specs.declared.saving_back.SaveOutcome.{SaveOutcome}
use Rattle.page_store.specs.JobValue.{SavedValue}
use Rattle.held_machine.specs.DeskValue.{DeskValue}
use Rattle.held_machine.specs.Expected.{is_expected_end}
use Rattle.held_machine.specs.HeldValue.{HeldValue, tried_if}
use Rattle.held_machine.specs.SavingBack.{SavesHeld}
use Rattle.held_machine.specs.Tries.{save_failed}

module _ {S : Type 0} (desk mid desk' : DeskValue) (held held' : HeldValue S) (job : SavedValue S) where
  pub ended : (outcome : SaveOutcome S)
      → held.side.memory.process ≡ job.process
      → EndsSave job desk.pager mid.pager held.side held'.side outcome
      → mid ≡ record desk { pager = mid.pager }
      → held' ≡ record held { side = held'.side; tries = tried_if (save_failed outcome) held.tries }
      → AgreeStill None desk.pager.pager mid.pager.pager held.side held'.side
      → desk' ≡ record mid { sound = mid.sound && is_expected_end outcome }
      → SavesHeld job desk desk' held held' (Some outcome)
  ended outcome own ends is kept agree heeded =
      subst (λ (d : DeskValue). SavesHeld job desk d held held' (Some outcome)) (sym heeded)
      (record { process = own; did = ends; desk_is = ap (λ (d : DeskValue). record d { sound = d.sound && is_expected_end outcome }) is; held_is = kept; agree = agree })
