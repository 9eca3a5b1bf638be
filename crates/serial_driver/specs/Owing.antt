-- What the driver owes: which event has to come next for what the last one was answered with, and for how often pages were tried for.
use Rattle.std.specs.Prelude.{◌≡◌, ℕ, ◌+◌, min, nat_le, ⊤, Bool, true, false, List, [], ◌∷◌, Option, Some, None, if◌then◌else◌}
use Rattle.clock_policy.specs.declared.key.Key.{Key}
use Rattle.flat_machine.specs.declared.end.KillCause.TheVariants as cause
use Rattle.machine_core.specs.declared.error.EventRefusal.{EventRefusal}
use Rattle.machine_core.specs.declared.error.EventRefusal.TheVariants as refusal
use Rattle.machine_core.specs.declared.event.Event.{Event}
use Rattle.machine_core.specs.declared.event.Event.TheVariants.{Step, Notice, Sweep, Collect, Saved, PageIn, Kill, Purge}
use Rattle.machine_core.specs.declared.event.Reply.{Reply}
use Rattle.machine_core.specs.declared.event.Reply.TheVariants as reply
use Rattle.serial_driver.specs.Patience.{tried_with, spent_with}
use Rattle.serial_driver.specs.Turning.{Turn, first_turn, noticed_in, paged_in, purged_in, step_turn, swept_turn, waiting}

-- how many loads failed in a row within one absence, the event that the last answer settled, if it did, and whose turn it is
pub record Duty : Type 0 where
  pub faults : ℕ
  pub owed : Option Event
  pub turn : Turn

-- the same at first, where slices are of so many instructions
abbrev pub no_duty : ℕ → Duty
no_duty slice = record { faults = 0; owed = None; turn = first_turn slice }

-- after so many load faults in a row a process is ended
abbrev pub most_load_faults : ℕ
most_load_faults = 3

-- whether an event was refused for want of memory
abbrev pub is_no_memory : EventRefusal → Bool
is_no_memory refusal.NoMemory = true
is_no_memory _ = false

abbrev pub is_out_of_memory : Reply → Bool
is_out_of_memory (reply.Refused why) = is_no_memory why
is_out_of_memory _ = false

-- whether a step's hart has its next turn, or waits for its page
abbrev pub is_going_on : Reply → Bool
is_going_on reply.Ran = true
is_going_on reply.Yielded = true
is_going_on reply.HartDone = true
is_going_on (reply.Absent page) = true
is_going_on _ = false

abbrev pub is_absent : Reply → Bool
is_absent (reply.Absent page) = true
is_absent _ = false

abbrev pub is_full : Reply → Bool
is_full reply.ScheduleFull = true
is_full _ = false

abbrev pub is_dirty : Reply → Bool
is_dirty reply.Dirty = true
is_dirty _ = false

abbrev pub is_device : Reply → Bool
is_device reply.Device = true
is_device _ = false

abbrev pub is_damaged : Reply → Bool
is_damaged reply.Damaged = true
is_damaged _ = false

abbrev pub is_mapped : Reply → Bool
is_mapped reply.Mapped = true
is_mapped _ = false

-- A process is ended where its schedule is full or there is not enough memory for it. One that does not go on gives back what it has.
abbrev pub stop_owes : ℕ → Reply → Option Event
stop_owes process answer =
    if is_full answer then Some (Kill process cause.ScheduleFull) else (if is_out_of_memory answer then Some (Kill process cause.NoMemory) else Some (Purge process))

abbrev pub step_owes : ℕ → Reply → Option Event
step_owes process answer = if is_going_on answer then None else stop_owes process answer

-- a page that is absent begins the count of load faults anew
abbrev pub step_faults : Reply → ℕ → ℕ
step_faults answer faults = if is_absent answer then 0 else faults

-- where there is not enough memory to list a page, its process is ended for that
abbrev pub save_owes : ℕ → Reply → Option Event
save_owes process answer = if is_out_of_memory answer then Some (Kill process cause.NoMemory) else None

-- a changed page that was copied is saved
abbrev pub collect_owes : Key → Reply → Option Event
collect_owes key answer = if is_dirty answer then Some (Saved key) else save_owes key.process answer

-- after the last of so many load faults in a row the process is ended, and at once where its page is damaged
abbrev pub load_owes : ℕ → ℕ → Reply → Option Event
load_owes faults process answer =
    if is_device answer then (if nat_le most_load_faults (faults + 1) then Some (Kill process cause.LoadFailed) else None)
    else (if is_damaged answer then Some (Kill process cause.Damaged) else save_owes process answer)

abbrev pub load_faults : Reply → ℕ → ℕ
load_faults answer faults = if is_device answer then min (faults + 1) most_load_faults else (if is_mapped answer then 0 else faults)

-- A process has given back what it has, and the hart that has the slice is of it, or waits on. By an event that is no part of a run the
-- duty stays.
abbrev pub duty_purged : Event → Duty → Duty
duty_purged (Purge process) duty = record { faults = duty.faults; owed = None; turn = purged_in process duty.turn }
duty_purged _ duty = duty

-- what is owed after an event with its reply: a process that was ended gives back what it has
abbrev pub duty_with : Event → Reply → Duty → Duty
duty_with (Step process hart) answer duty =
    record { faults = step_faults answer duty.faults; owed = step_owes process answer; turn = step_turn process hart answer duty.turn.slice duty.turn.left duty.turn.wanted }
duty_with (Notice process hart) answer duty = record { faults = duty.faults; owed = None; turn = noticed_in duty.turn.phase hart duty.turn }
duty_with Sweep answer duty = record { faults = duty.faults; owed = None; turn = swept_turn answer duty.turn }
duty_with (Collect key) answer duty = record { faults = duty.faults; owed = collect_owes key answer; turn = waiting duty.turn }
duty_with (Saved key) answer duty = record { faults = duty.faults; owed = save_owes key.process answer; turn = waiting duty.turn }
duty_with (PageIn key) answer duty =
    record { faults = load_faults answer duty.faults; owed = load_owes duty.faults key.process answer; turn = paged_in (is_mapped answer) duty.turn }
duty_with (Kill process cause) answer duty = record { faults = duty.faults; owed = Some (Purge process); turn = waiting duty.turn }
duty_with event answer duty = duty_purged event duty

-- the same after events one after another
unfoldable pub duty_after : List Event → List Reply → Duty → Duty
duty_after [] answers duty = duty
duty_after (event ∷ events) [] duty = duty
duty_after (event ∷ events) (answer ∷ answers) duty = duty_after events answers (duty_with event answer duty)

-- whether an event comes only where it is owed: the save of a page, the end of a process, and that one gives back what it has
abbrev pub is_only_owed : Event → Bool
is_only_owed (Saved key) = true
is_only_owed (Kill process cause) = true
is_only_owed (Purge process) = true
is_only_owed _ = false

-- What comes next: the event that is settled; else the end of the process that is spent, at once, for want of a place for its pages.
abbrev pub next_owed : Option Event → Option ℕ → Option Event
next_owed (Some owed) spent = Some owed
next_owed None (Some process) = Some (Kill process cause.NoSwap)
next_owed None None = None

-- an event that is owed is the next; where none is, no page is saved, no process is ended, and none gives back what it has
abbrev pub Pays : Option Event → Event → Type 0
Pays (Some owed) event = event ≡ owed
Pays None event = is_only_owed event ≡ false

-- the same of events one after another, where a process is spent by so many tries; the counts are those before the first
unfoldable pub ArePaid : ℕ → (ℕ → ℕ) → Duty → Option ℕ → List Event → List Reply → Type 0
ArePaid most tried duty spent [] answers = ⊤
ArePaid most tried duty spent (event ∷ events) [] = ⊤
ArePaid most tried duty spent (event ∷ events) (answer ∷ answers) =
    Pays (next_owed duty.owed spent) event
    × ArePaid most (λ number. tried_with number event answer (tried number)) (duty_with event answer duty) (spent_with most tried event answer) events answers

-- the page whose save is owed
abbrev pub owed_save : Option Event → Option Key
owed_save (Some (Saved key)) = Some key
owed_save _ = None
