-- A run of so many events at most, and how it is closed.
use Rattle.std.specs.Prelude.{◌≡◌, ◌≢◌, ℕ, ◌*◌, ◌^◌, ◌<◌, ◌≤◌, false, List, [], ◌∷◌, All, length, slice_get, Option, Some, None, IsSome}
use Rattle.clock_policy.specs.declared.key.Key.{Key}
use Rattle.paged_memory.specs.moves.Stages.{is_saving_stage}
use Rattle.paged_memory.specs.Whole.{stage_in}
use Rattle.machine_core.specs.declared.event.Event.{Event}
use Rattle.machine_core.specs.declared.event.Event.TheVariants.{Saved}
use Rattle.machine_core.specs.declared.event.Reply.{Reply}
use Rattle.machine_core.specs.Applying.{Applies, Runs}
use Rattle.machine_core.specs.Machine.{CoreValue}
use Rattle.serial_driver.specs.Closing.{is_limit_kill, kill_of, closing_below}
use Rattle.serial_driver.specs.Endings.{HasEnded}
use Rattle.serial_driver.specs.Owing.{Duty, no_duty, duty_after, duty_with, owed_save, ArePaid}
use Rattle.serial_driver.specs.Patience.{tries_per_frame, tried_after, spent_after, IsPatient}
use Rattle.serial_driver.specs.Turning.{IsInTurn}
use Rattle.serial_driver.specs.declared.patience.Patience.{Patience}
use Rattle.space_core.specs.StandsFor.{SpaceValue}

module _ {S : Type 0} where
  -- no page of the machine is being saved
  abbrev pub SavesNone : CoreValue S → Type 0
  SavesNone core = (number : ℕ) (process : SpaceValue S) → slice_get core.processes number ≡ Some process → (q : ℕ) → q < 2 ^ 20 → is_saving_stage (stage_in process.memory q) ≡ false

module _ {S : Type 0} (held : S → List ℕ) (honest : Type 0) (failures : S → ℕ) where
  -- events lead from one machine to the other, one after another, each with its reply and each in turn in the machine that it finds
  unfoldable pub ComeInTurn : Duty → List Event → List Reply → CoreValue S → CoreValue S → Type 0
  ComeInTurn duty [] [] old new = new ≡ old
  ComeInTurn duty [] (answer ∷ answers) old new = ⊥
  ComeInTurn duty (event ∷ events) [] old new = ⊥
  ComeInTurn duty (event ∷ events) (answer ∷ answers) old new =
      (between : CoreValue S) × (Applies held honest failures event old between answer × (IsInTurn honest old duty.turn event × ComeInTurn (duty_with event answer duty) events answers between new))

  -- So many events lead from one machine to the other, each in turn. None of them ends a process for the limit. Each event that is owed, for an answer
  -- or for a process that was tried for too often, is the next; and for no other reason one is ended.
  pub record PlaysOn (most : ℕ) (tried : ℕ → ℕ) (duty : Duty) (spent : Option ℕ) (count : ℕ) (old new : CoreValue S) : Type 0 where
    pub events : List Event
    pub replies : List Reply
    pub in_turn : ComeInTurn duty events replies old new
    pub many : length events ≡ count
    pub unlimited : All (λ event. is_limit_kill event ≡ false) events
    pub paid : ArePaid most tried duty spent events replies

  -- the same, and what the driver remembers then
  pub record PlaysWith (most : ℕ) (tried : ℕ → ℕ) (duty : Duty) (spent : Option ℕ) (count : ℕ) (old new : CoreValue S) (patience : Patience) (left : Duty) : Type 0 where
    pub plays : PlaysOn most tried duty spent count old new
    pub patient : IsPatient most (λ number. tried_after number plays.events plays.replies (tried number)) patience
    pub spends : patience.spent ≡ spent_after most tried plays.events plays.replies spent
    pub owes : left ≡ duty_after plays.events plays.replies duty

  -- the same in slices of so many instructions, of as many events as the limit says, or of fewer where each process has ended; the save
  -- that is out is the one that is owed, and one is out only at the limit
  pub record PlaysUpTo (slice limit : ℕ) (unsaved : Option Key) (old new : CoreValue S) : Type 0 where
    pub count : ℕ
    pub plays : PlaysOn (tries_per_frame * old.pager.pager.size) (λ _. 0) (no_duty slice) None count old new
    pub within : count ≤ limit
    pub short : count < limit → (number : ℕ) → HasEnded new number
    pub saves_late : IsSome unsaved → count ≡ limit
    pub unsaved_is : unsaved ≡ owed_save (duty_after plays.events plays.replies (no_duty slice)).owed

  -- the save that is out is done, if there is one
  abbrev pub DoesSave : Option Key → CoreValue S → CoreValue S → Type 0
  DoesSave None old new = new ≡ old
  DoesSave (Some key) old new = (reply : Reply) × Applies held honest failures (Saved key) old new reply

  -- a process that goes on is ended for the limit, and no other changes
  pub record EndsOne (number : ℕ) (old new : CoreValue S) : Type 0 where
    pub replies : List Reply
    pub runs : Runs held honest failures (kill_of number (slice_get old.processes number)) replies old new
    pub others : (other : ℕ) → other ≢ number → slice_get new.processes other ≡ slice_get old.processes other

  -- of the processes below a number, by rising number, each that goes on is ended for the limit, and each gives back what it has
  pub record ClosesBelow (number : ℕ) (old new : CoreValue S) : Type 0 where
    pub replies : List Reply
    pub runs : Runs held honest failures (closing_below old.processes number) replies old new

  -- the same of all processes
  abbrev pub Closes : CoreValue S → CoreValue S → Type 0
  Closes old new = ClosesBelow (length old.processes) old new

  -- Processes run in slices of so many instructions until so many events have happened, or until each has ended. Then the save that is
  -- out is done, so that none is being saved where none was at first; and then the run is closed.
  pub record EndsByLimit (slice limit : ℕ) (old new : CoreValue S) : Type 0 where
    pub unsaved : Option Key
    pub played : CoreValue S
    pub plays : PlaysUpTo slice limit unsaved old played
    pub saved : CoreValue S
    pub saves : DoesSave unsaved played saved
    pub settled : SavesNone old → SavesNone saved
    pub closes : Closes saved new
