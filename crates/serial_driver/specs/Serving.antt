-- One instruction of a hart, with the pages that it needs brought in.
use Rattle.std.specs.Prelude.{◌≡◌, ◌≢◌, ◌⊎◌, ℕ, ◌+◌, ◌*◌, ◌^◌, ⊤, Bool, true, false, List, [], ◌∷◌, ◌++◌, All, Option, Some, None, slice_get}
use Rattle.flat_machine.specs.declared.end.KillCause.{KillCause}
use Rattle.flat_machine.specs.declared.end.KillCause.TheVariants as cause
use Rattle.machine_core.specs.declared.error.EventRefusal.{EventRefusal}
use Rattle.machine_core.specs.declared.error.EventRefusal.TheVariants as refusal
use Rattle.machine_core.specs.declared.event.Event.{Event}
use Rattle.machine_core.specs.declared.event.Event.TheVariants.{Step, Notice, Sweep, Collect, Saved, PageIn, Kill, Purge}
use Rattle.machine_core.specs.declared.event.Reply.{Reply}
use Rattle.machine_core.specs.declared.event.Reply.TheVariants.{ScheduleFull, Refused}
use Rattle.machine_core.specs.Applying.{Runs}
use Rattle.machine_core.specs.Headline.{has_run, HappensInvisibly, Remains}
use Rattle.machine_core.specs.Machine.{CoreValue}
use Rattle.serial_driver.specs.Endings.{HasEnded}
use Rattle.serial_driver.specs.Limit.{PlaysOn, PlaysWith}
use Rattle.serial_driver.specs.Owing.{Duty, duty_after, next_owed}
use Rattle.serial_driver.specs.Patience.{spent_after, tries_per_frame}
use Rattle.serial_driver.specs.Turning.{Phase, Turn, Begins, Clears, Rests, Runs as RunsOn, Waits}
use Rattle.serial_driver.specs.declared.patience.Patience.{Patience}
use Rattle.serial_driver.specs.declared.serving.ServedStep.{ServedStep}
use Rattle.serial_driver.specs.declared.serving.ServedStep.TheVariants as served
use Rattle.space_core.specs.StandsFor.{SpaceValue}

-- whether an event brings pages in, or makes room for them
abbrev pub is_paging : Event → Bool
is_paging (Notice process hart) = true
is_paging Sweep = true
is_paging (Collect key) = true
is_paging (Saved key) = true
is_paging (PageIn key) = true
is_paging _ = false

-- an event that serves a hart is its step, or brings pages in; so it ends no process, and purges none
abbrev pub ServesHart : ℕ → ℕ → Event → Type 0
ServesHart process hart event = (event ≡ Step process hart) ⊎ (is_paging event ≡ true)

-- whether a process is ended for a page that can't be had, or for one of its own that can't leave
abbrev pub is_of_pages : KillCause → Bool
is_of_pages cause.NoSwap = true
is_of_pages cause.LoadFailed = true
is_of_pages cause.Damaged = true
is_of_pages _ = false

-- Whether an event that a run has come next is where the instruction is given up: a process is ended for such a page, or gives back what
-- it has, since no such hart may step.
abbrev pub is_giving_up : Event → Bool
is_giving_up (Kill process cause) = is_of_pages cause
is_giving_up (Purge process) = true
is_giving_up _ = false

-- what is owed, if anything is, is no ending but for such a page
abbrev pub owes_pages : Option Event → Bool
owes_pages (Some (Kill process cause)) = is_of_pages cause
owes_pages _ = true

-- the hart's turn lasts: it runs, or waits for a page
abbrev pub Lasts : Phase → Type 0
Lasts (Begins last) = ⊥
Lasts RunsOn = ⊤
Lasts Rests = ⊥
Lasts Waits = ⊤
Lasts (Clears victim last) = ⊤

pub record IsServing (process hart : ℕ) (turn : Turn) : Type 0 where
  pub process_is : turn.process ≡ process
  pub hart_is : turn.hart ≡ hart
  pub lasts : Lasts turn.phase

-- the hart's turn, of one instruction
abbrev pub serving : ℕ → ℕ → Duty
serving process hart = record { faults = 0; owed = None; turn = record { slice = 1; process = process; hart = hart; left = 1; wanted = 0; phase = RunsOn } }

module _ {S : Type 0} (held : S → List ℕ) (honest : Type 0) (failures : S → ℕ) where
  -- Why an instruction is given up after events of a run with these replies, where this is owed then. The run next ends a process for a
  -- page that can't be had, or makes one give back what it has; or the last event was refused, and not for lack of memory; or each
  -- process has ended.
  pub data GivesUpFor (duty : Duty) (spent : Option ℕ) (replies : List Reply) (core : CoreValue S) : Type 0 where
    ends : (event : Event) → next_owed duty.owed spent ≡ Some event → is_giving_up event ≡ true → GivesUpFor duty spent replies core
    refuses : (before : List Reply) (why : EventRefusal) → replies ≡ before ++ Refused why ∷ [] → why ≢ refusal.NoMemory → GivesUpFor duty spent replies core
    over : ((number : ℕ) → HasEnded core number) → GivesUpFor duty spent replies core

  -- so many events of a run, from what is owed
  pub record PlaysFrom (most : ℕ) (tried : ℕ → ℕ) (duty : Duty) (spent : Option ℕ) (old new : CoreValue S) : Type 0 where
    pub count : ℕ
    pub plays : PlaysOn held honest failures most tried duty spent count old new

  -- the same, after which an instruction is given up
  pub record GivesUpFrom (most : ℕ) (tried : ℕ → ℕ) (duty : Duty) (spent : Option ℕ) (old new : CoreValue S) : Type 0 where
    pub run : PlaysFrom most tried duty spent old new
    pub why : GivesUpFor (duty_after run.plays.events run.plays.replies duty) (spent_after most tried run.plays.events run.plays.replies spent) run.plays.replies new

  -- the events of a run of a hart, which begins with its instruction
  abbrev pub PlaysHart : ℕ → ℕ → CoreValue S → CoreValue S → Type 0
  PlaysHart process hart old new = PlaysFrom (tries_per_frame * old.pager.pager.size) (λ _. 0) (serving process hart) None old new

  -- What comes of one event of a run: the instruction is served on, settled, or given up.
  abbrev pub Proceeds : ℕ → ℕ → Option ServedStep → ℕ → (ℕ → ℕ) → Duty → Option ℕ → CoreValue S → CoreValue S → Patience → Duty → Type 0
  Proceeds process hart None most tried duty spent old new patience left =
      PlaysWith held honest failures most tried duty spent 1 old new patience left × (IsServing process hart left.turn × (owes_pages left.owed ≡ true))
  Proceeds process hart (Some served.Ran) most tried duty spent old new patience left = PlaysWith held honest failures most tried duty spent 1 old new patience left
  Proceeds process hart (Some served.Absent) most tried duty spent old new patience left = GivesUpFrom most tried duty spent old new
  Proceeds process hart (Some served.Full) most tried duty spent old new patience left = PlaysWith held honest failures most tried duty spent 1 old new patience left
  Proceeds process hart (Some served.NoMemory) most tried duty spent old new patience left = PlaysWith held honest failures most tried duty spent 1 old new patience left

  -- A hart's instruction is given up where a run of only that instruction would end its process for a page, or can't go on; or once
  -- 2^64 - 1 events have happened.
  abbrev pub GivesUp : ℕ → ℕ → CoreValue S → CoreValue S → Type 0
  GivesUp process hart old new =
      GivesUpFrom (tries_per_frame * old.pager.pager.size) (λ _. 0) (serving process hart) None old new
      ⊎ ((run : PlaysHart process hart old new) × (run.count + 1 ≡ 2 ^ 64))

  -- events that serve a hart lead from one machine to the other, and no instruction of any process ran
  pub record BringsIn (process hart : ℕ) (old new : CoreValue S) : Type 0 where
    pub events : List Event
    pub replies : List Reply
    pub runs : Runs held honest failures events replies old new
    pub serve : All (ServesHart process hart) events
    pub remains : (number : ℕ) (side : SpaceValue S) → slice_get old.processes number ≡ Some side → Remains number [] new.processes side

  -- an event that serves a hart, and is answered so
  pub record Happens (process hart : ℕ) (answers : Reply → Type 0) (old new : CoreValue S) : Type 0 where
    pub event : Event
    pub reply : Reply
    pub serves : ServesHart process hart event
    pub happens : HappensInvisibly held honest failures event reply old new
    pub answer : answers reply

  -- the last event: the hart's step, which ran, or found the schedule full; or one that was refused for want of memory; or there is none
  abbrev pub EndsService : ServedStep → ℕ → ℕ → CoreValue S → CoreValue S → Type 0
  EndsService served.Ran process hart old new = (reply : Reply) × ((has_run reply ≡ true) × HappensInvisibly held honest failures (Step process hart) reply old new)
  EndsService served.Full process hart old new = HappensInvisibly held honest failures (Step process hart) ScheduleFull old new
  EndsService served.NoMemory process hart old new = Happens process hart (λ reply. reply ≡ Refused refusal.NoMemory) old new
  EndsService served.Absent process hart old new = new ≡ old

  -- pages were brought in for a hart, and then its instruction ran, or did not
  pub record Serves (process hart : ℕ) (what : ServedStep) (old new : CoreValue S) : Type 0 where
    pub between : CoreValue S
    pub brings : BringsIn process hart old between
    pub ends : EndsService what process hart between new

  -- what is settled of a hart's instruction, or pages that were brought in for it
  abbrev pub Goes : ℕ → ℕ → Option ServedStep → CoreValue S → CoreValue S → Type 0
  Goes process hart None old new = BringsIn process hart old new
  Goes process hart (Some what) old new = Serves process hart what old new
