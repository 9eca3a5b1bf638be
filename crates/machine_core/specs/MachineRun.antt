-- The machine's events: when each is refused, and what each does.
use Rattle.std.specs.Prelude.{◌≡◌, ℕ, Bool, true, false, is_some, Option, Some, None, List, slice_get, slice_set, slice_index_or, if◌then◌else◌}
use Rattle.flat_machine.specs.declared.end.KillCause.{KillCause}
use Rattle.space_core.specs.declared.progress.SliceStop.{SliceStop}
use Rattle.space_core.specs.declared.progress.SliceStop.TheVariants as stop
use Rattle.clock_policy.specs.declared.answer.Bit.{Bit}
use Rattle.clock_policy.specs.declared.answer.Bit.TheVariants.{Zero, One, Gone}
use Rattle.clock_policy.specs.declared.answer.Verdict.{Verdict}
use Rattle.clock_policy.specs.declared.answer.Verdict.TheVariants.{GoOn}
use Rattle.clock_policy.specs.declared.answer.Verdict.TheVariants as verdict
use Rattle.clock_policy.specs.declared.key.Key.{Key}
use Rattle.clock_policy.specs.Residents.{is_gone}
use Rattle.machine_core.specs.Machine.{CoreValue}
use Rattle.machine_sides.specs.ProcessCalls.{StepsOnce, TakesNotices, IsKilled}
use Rattle.machine_sides.specs.Sides.{PagerSideValue}
use Rattle.machine_sides.specs.Sweeping.{AnswersQuestion, Sweeps}
use Rattle.machine_core.specs.declared.error.EventRefusal.{EventRefusal}
use Rattle.machine_core.specs.declared.error.EventRefusal.TheVariants as refusal
use Rattle.machine_sides.specs.declared.sweeping.Swept.{Swept}
use Rattle.machine_sides.specs.declared.sweeping.Swept.TheVariants as swept
use Rattle.machine_core.specs.declared.event.Reply.{Reply}
use Rattle.machine_core.specs.declared.event.Reply.TheVariants.{Ran, Yielded, HartDone, Ended, Absent, ScheduleFull, Noticed, Asked, Victim, Killed, Refused}
use Rattle.space_core.specs.StandsFor.{SpaceValue}

-- what a slice of one instruction is replied with
abbrev pub step_reply : SliceStop → Reply
step_reply stop.Budget = Ran
step_reply (stop.Absent page) = Absent page
step_reply stop.Yield = Yielded
step_reply stop.HartDone = HartDone
step_reply stop.Ended = Ended
step_reply stop.NoHart = Refused refusal.NoHart
step_reply stop.ScheduleFull = ScheduleFull
step_reply stop.NoMemory = Refused refusal.NoMemory

abbrev pub used_bit : Bit → Bool
used_bit Zero = false
used_bit One = true
used_bit Gone = false

-- what a question's answer is replied with
abbrev pub sweep_reply : Key → Bit → Verdict → Reply
sweep_reply key bit GoOn = Asked key (used_bit bit)
sweep_reply key bit (verdict.Victim victim) = Victim key

-- why a question is refused
abbrev pub sweep_refusal : Option Key → Option EventRefusal
sweep_refusal None = Some refusal.NothingResident
sweep_refusal (Some key) = None

-- what a sweep is replied with
abbrev pub swept_reply : Swept → Reply
swept_reply swept.NothingResident = Refused refusal.NothingResident
swept_reply (swept.Asked key bit) = Asked key (used_bit bit)
swept_reply (swept.Victim key) = Victim key

module _ {S : Type 0} where
  -- why an event of a process is refused, where `reason` is that of a process that is there
  abbrev pub of_process : (SpaceValue S → Option EventRefusal) → Option (SpaceValue S) → Option EventRefusal
  of_process reason None = Some refusal.NoProcess
  of_process reason (Some process) = reason process

  abbrev pub end_reason : SpaceValue S → Option EventRefusal
  end_reason process = if is_some process.running.ending then Some refusal.Ended else None

  abbrev pub hart_reason : ℕ → SpaceValue S → Option EventRefusal
  hart_reason hart process = if slice_index_or process.running.environment.live hart false then end_reason process else Some refusal.NoHart

  -- why an event of a process's hart is refused
  abbrev pub hart_refusal : ℕ → ℕ → List (SpaceValue S) → Option EventRefusal
  hart_refusal process hart processes = of_process (hart_reason hart) (slice_get processes process)

  -- why a process is not ended by the machine
  abbrev pub kill_refusal : ℕ → List (SpaceValue S) → Option EventRefusal
  kill_refusal process processes = of_process end_reason (slice_get processes process)

  -- an event is refused, and nothing has changed
  pub record RefusesEvent (reason : Option EventRefusal) (old new : CoreValue S) (reply : Reply) : Type 0 where
    pub refusal : EventRefusal
    pub reason_is : reason ≡ Some refusal
    pub reply_is : reply ≡ Refused refusal
    pub stays : new ≡ old

  -- one process changes so, and no other
  pub record ChangesOne (by : SpaceValue S → SpaceValue S → Type 0) (number : ℕ) (old new : List (SpaceValue S)) : Type 0 where
    pub process : SpaceValue S
    pub process' : SpaceValue S
    pub found : slice_get old number ≡ Some process
    pub how : by process process'
    pub is : new ≡ slice_set old number process'

  -- a sweep of the pager and of the process of this number
  pub record SweepsAt (pager pager' : PagerSideValue) (number : ℕ) (old new : List (SpaceValue S)) (result : Swept) : Type 0 where
    pub process : SpaceValue S
    pub process' : SpaceValue S
    pub found : slice_get old number ≡ Some process
    pub how : Sweeps pager pager' process process' result
    pub is : new ≡ slice_set old number process'

  -- a process's hart runs one instruction, or does not
  pub record StepsHart (held : S → List ℕ) (honest : Type 0) (process hart : ℕ) (old new : CoreValue S) (reply : Reply) : Type 0 where
    pub allowed : hart_refusal process hart old.processes ≡ None
    pub why : SliceStop
    pub one : ChangesOne (StepsOnce held honest hart why) process old.processes new.processes
    pub stays : new ≡ record old { processes = new.processes }
    pub reply_is : reply ≡ step_reply why

  -- a process's hart drops its translations that are to be dropped
  pub record Notices (process hart : ℕ) (old new : CoreValue S) (reply : Reply) : Type 0 where
    pub allowed : hart_refusal process hart old.processes ≡ None
    pub one : ChangesOne (TakesNotices hart) process old.processes new.processes
    pub stays : new ≡ record old { processes = new.processes }
    pub reply_is : reply ≡ Noticed

  -- the machine ends a process
  pub record Kills (process : ℕ) (cause : KillCause) (old new : CoreValue S) (reply : Reply) : Type 0 where
    pub allowed : kill_refusal process old.processes ≡ None
    pub one : ChangesOne (IsKilled cause) process old.processes new.processes
    pub stays : new ≡ record old { processes = new.processes }
    pub reply_is : reply ≡ Killed

  -- the list asks for a resident page, and is answered by its accessed bit
  pub record SweepsOnce (old new : CoreValue S) (reply : Reply) : Type 0 where
    pub key : Key
    pub bit : Bit
    pub verdict : Verdict
    pub process : SpaceValue S
    pub process' : SpaceValue S
    pub found : slice_get old.processes key.process ≡ Some process
    pub answers : AnswersQuestion old.pager new.pager process process' key bit verdict
    pub there : is_gone bit ≡ false
    pub processes : new.processes ≡ slice_set old.processes key.process process'
    pub stays : new ≡ record old { pager = new.pager; processes = new.processes }
    pub reply_is : reply ≡ sweep_reply key bit verdict
