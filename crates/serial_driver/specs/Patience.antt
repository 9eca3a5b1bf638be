-- How often pages of a process were tried for since it last completed an instruction, and for which process that was once too often.
use Rattle.std.specs.Prelude.{◌≡◌, ℕ, ◌+◌, ◌<◌, ◌==◌, ◌||◌, min, nat_le, not, Bool, true, false, List, [], ◌∷◌, Option, Some, None, slice_index_or, if◌then◌else◌}
use Rattle.machine_core.specs.declared.event.Event.{Event}
use Rattle.machine_core.specs.declared.event.Event.TheVariants.{Step, Collect, Saved, PageIn}
use Rattle.machine_core.specs.declared.event.Reply.{Reply}
use Rattle.machine_core.specs.declared.event.Reply.TheVariants as reply
use Rattle.machine_core.specs.Headline.{has_run}
use Rattle.machine_limits.specs.Limits.{most_processes}
use Rattle.serial_driver.specs.declared.patience.Patience.{Patience}

-- whether a page failed to leave its frame: it found no slot, or the device failed
abbrev pub has_failed : Reply → Bool
has_failed reply.NoSlot = true
has_failed reply.Device = true
has_failed _ = false

-- whether an event was served, whatever came of it
abbrev pub is_served : Reply → Bool
is_served (reply.Refused refusal) = false
is_served _ = true

-- the process for whose page an event was a try: it was to come in, or it failed to leave
abbrev pub try_of : Event → Reply → Option ℕ
try_of (Collect key) answer = if has_failed answer then Some key.process else None
try_of (Saved key) answer = if has_failed answer then Some key.process else None
try_of (PageIn key) answer = if is_served answer then Some key.process else None
try_of _ answer = None

-- the process that completed an instruction
abbrev pub run_of : Event → Reply → Option ℕ
run_of (Step process hart) answer = if has_run answer then Some process else None
run_of _ answer = None

-- a process that completed an instruction begins its count anew
abbrev pub renewed : ℕ → Option ℕ → ℕ → ℕ
renewed number None tried = tried
renewed number (Some process) tried = if number == process then 0 else tried

-- one more try for a page of a process
abbrev pub tried_again : ℕ → Option ℕ → ℕ → ℕ
tried_again number None tried = tried
tried_again number (Some process) tried = if number == process then tried + 1 else tried

-- the count of a process after an event with its reply
abbrev pub tried_with : ℕ → Event → Reply → ℕ → ℕ
tried_with number event answer tried = tried_again number (try_of event answer) (renewed number (run_of event answer) tried)

-- the same after events one after another
unfoldable pub tried_after : ℕ → List Event → List Reply → ℕ → ℕ
tried_after number [] answers tried = tried
tried_after number (event ∷ events) [] tried = tried
tried_after number (event ∷ events) (answer ∷ answers) tried = tried_after number events answers (tried_with number event answer tried)

-- a process for whose page there was a try, where its count has reached a bound by that
abbrev pub spent_of : ℕ → (ℕ → ℕ) → Option ℕ → Option ℕ
spent_of most tried None = None
spent_of most tried (Some process) = if nat_le most (tried process) then Some process else None

-- the process that is spent by an event with its reply, from counts as they are before it
abbrev pub spent_with : ℕ → (ℕ → ℕ) → Event → Reply → Option ℕ
spent_with most tried event answer = spent_of most (λ number. tried_with number event answer (tried number)) (try_of event answer)

-- the one that is spent by the last of events one after another, if there is an event
unfoldable pub spent_after : ℕ → (ℕ → ℕ) → List Event → List Reply → Option ℕ → Option ℕ
spent_after most tried [] answers spent = spent
spent_after most tried (event ∷ events) [] spent = spent
spent_after most tried (event ∷ events) (answer ∷ answers) spent =
    spent_after most (λ number. tried_with number event answer (tried number)) events answers (spent_with most tried event answer)

-- a process may be tried for so often, for each frame of the machine
abbrev pub tries_per_frame : ℕ
tries_per_frame = 64

-- what the driver remembers: of each process of a machine, how often it was tried for, up to the bound
pub record IsPatient (most : ℕ) (tried : ℕ → ℕ) (patience : Patience) : Type 0 where
  pub bound : patience.most_tries ≡ most
  pub exact : (number : ℕ) → number < most_processes → slice_index_or patience.tries number 0 ≡ min (tried number) most

-- whether a step of some in a row ran
abbrev pub any_ran : ℕ → Option Reply → Bool
any_ran ran None = not (ran == 0)
any_ran ran (Some answer) = not (ran == 0) || has_run answer
