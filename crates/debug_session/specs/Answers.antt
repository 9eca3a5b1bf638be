-- What a debugger does for a line, and replies: for each line the debugger's call that it names, by what that call does.
use Rattle.std.specs.Prelude.{◌≡◌, ◌⊎◌, ℕ, true, map, slice_set, Option, None, Some, IsSomeAnd}
use Rattle.flat_machine.specs.Process.{Process, hart_registers, is_live}
use Rattle.debug_core.specs.Debugging.{DebuggerValue, AddsPoint, RefusesGo, RefusesLook, RefusesStep, StepsOnce, first_moment, lone_moment, lowest_free, turn_left}
use Rattle.debug_core.specs.Limits.{Limit}
use Rattle.debug_core.specs.Points.{bytes_from, point_at, IsRange}
use Rattle.debug_core.specs.Stops.{Stops, Wants, last_hart}
use Rattle.debug_core.specs.declared.point.Point.TheVariants as point
use Rattle.debug_core.specs.declared.refusal.DebugRefusal.TheVariants as refusal
use Rattle.debug_session.specs.declared.lines.DebugLine.{DebugLine}
use Rattle.debug_session.specs.declared.lines.DebugLine.TheVariants.{Break, Watch, Remove, Step, Go, Regs, Mem, Run, GoHart, End, Quit}
use Rattle.debug_session.specs.declared.lines.DebugLine.TheVariants as line
use Rattle.debug_session.specs.declared.reply.DebugReply.{DebugReply}
use Rattle.debug_session.specs.declared.reply.DebugReply.TheVariants.{Point, Removed, Stepped, Stopped, Told, Ending, Live, Registers, Bytes, Refused}

-- a point is added under the lowest free number, or there is none
abbrev pub AnswersBreak : {T : Type 0} → ℕ → DebuggerValue T → DebugReply → DebuggerValue T → Type 0
AnswersBreak address old (Point number) new =
    AddsPoint (point.Break address) number old.points new.points × (new ≡ record old { points = new.points })
AnswersBreak address old (Refused why) new = (why ≡ refusal.Full) × (lowest_free old.points ≡ None) × (new ≡ old)
AnswersBreak address old other new = ⊥

-- the same, and the bytes are 1 to 16
abbrev pub AnswersWatch : {T : Type 0} → ℕ → ℕ → DebuggerValue T → DebugReply → DebuggerValue T → Type 0
AnswersWatch address length old (Point number) new = IsRange 16 address length
    × AddsPoint (point.Watch address length) number old.points new.points × (new ≡ record old { points = new.points })
AnswersWatch address length old (Refused why) new =
    (((why ≡ refusal.Full) × (lowest_free old.points ≡ None))
    ⊎ ((why ≡ refusal.BadRange) × ((¬ (lowest_free old.points ≡ None)) × (¬ IsRange 16 address length)))) × (new ≡ old)
AnswersWatch address length old other new = ⊥

-- a point is removed, or there is none with the number
abbrev pub AnswersRemove : {T : Type 0} → ℕ → DebuggerValue T → DebugReply → DebuggerValue T → Type 0
AnswersRemove number old Removed new =
    (¬ (point_at old.points number ≡ None)) × (new ≡ record old { points = slice_set old.points number None })
AnswersRemove number old (Refused why) new = (why ≡ refusal.NoPoint) × (point_at old.points number ≡ None) × (new ≡ old)
AnswersRemove number old other new = ⊥

-- `shown` is the flat process that a target shows, and `limits` says what the target lacks
module _ {T : Type 0} (shown : T → Process) (limits : T → Limit → Type 0) where
  -- the flat step of a hart
  abbrev pub AnswersStep : ℕ → DebuggerValue T → DebugReply → DebuggerValue T → Type 0
  AnswersStep hart old (Stepped stepped) new =
      StepsOnce (limits old.target) stepped hart (shown old.target) old.turn (shown new.target) new.turn × (new.points ≡ old.points)
  AnswersStep hart old (Refused why) new =
      RefusesStep (limits old.target) why hart (shown old.target) (shown new.target) × (new.turn ≡ old.turn) × (new.points ≡ old.points)
  AnswersStep hart old other new = ⊥

  -- flat steps by turns, to the first reason to stop
  abbrev pub AnswersGo : ℕ → DebuggerValue T → DebugReply → DebuggerValue T → Type 0
  AnswersGo limit old (Stopped why turn steps) new =
      Stops shown limits old.target old.points limit why steps (first_moment (shown old.target) old.turn) new.turn (shown new.target)
      × (turn ≡ new.turn) × (new.points ≡ old.points)
  AnswersGo limit old (Refused why) new =
      (why ≡ refusal.NoMemory) × Wants limits old.target old.points limit (first_moment (shown old.target) old.turn) new.turn (shown new.target)
      × (new.points ≡ old.points)
  AnswersGo limit old other new = ⊥

  -- the same, with the hart of the last step
  abbrev pub AnswersRun : ℕ → DebuggerValue T → DebugReply → DebuggerValue T → Type 0
  AnswersRun limit old (Told why last turn steps) new =
      Stops shown limits old.target old.points limit why steps (first_moment (shown old.target) old.turn) new.turn (shown new.target)
      × (last_hart steps (first_moment (shown old.target) old.turn) ≡ Some last) × (turn ≡ new.turn) × (new.points ≡ old.points)
  AnswersRun limit old (Refused why) new =
      (why ≡ refusal.NoMemory) × Wants limits old.target old.points limit (first_moment (shown old.target) old.turn) new.turn (shown new.target)
      × (new.points ≡ old.points)
  AnswersRun limit old other new = ⊥

  -- flat steps of only one hart, to the first reason to stop
  abbrev pub AnswersGoHart : ℕ → ℕ → DebuggerValue T → DebugReply → DebuggerValue T → Type 0
  AnswersGoHart hart limit old (Told why last turn steps) new =
      (is_live hart (shown old.target) ≡ true)
      × Stops shown limits old.target old.points limit why steps (lone_moment (shown old.target) hart) hart (shown new.target)
      × (last ≡ hart) × (turn ≡ new.turn) × (new.turn ≡ turn_left steps hart old.turn (shown new.target)) × (new.points ≡ old.points)
  AnswersGoHart hart limit old (Refused why) new =
      RefusesGo limits why old.target old.points limit hart (shown old.target) old.turn (shown new.target) new.turn × (new.points ≡ old.points)
  AnswersGoHart hart limit old other new = ⊥

  -- the flat process's registers
  abbrev pub AnswersRegs : ℕ → DebuggerValue T → DebugReply → DebuggerValue T → Type 0
  AnswersRegs hart old (Registers regs) new = (hart_registers hart (shown old.target) ≡ Some regs) × (new ≡ old)
  AnswersRegs hart old (Refused why) new = (why ≡ refusal.NoHart) × (hart_registers hart (shown old.target) ≡ None) × (new ≡ old)
  AnswersRegs hart old other new = ⊥

  -- how the flat process ended
  abbrev pub AnswersEnd : DebuggerValue T → DebugReply → Type 0
  AnswersEnd now (Ending end) = (shown now.target).ending ≡ end
  AnswersEnd now other = ⊥

  -- whether a hart of the flat process is live
  abbrev pub AnswersLive : ℕ → DebuggerValue T → DebugReply → Type 0
  AnswersLive hart now (Live is) = is ≡ is_live hart (shown now.target)
  AnswersLive hart now other = ⊥

  -- what is shown, the points and the turn stay
  abbrev pub ShowsTheSame : DebuggerValue T → DebuggerValue T → Type 0
  ShowsTheSame old new = (shown new.target ≡ shown old.target) × (new.points ≡ old.points) × (new.turn ≡ old.turn)

  -- the flat process's bytes
  abbrev pub AnswersMem : ℕ → ℕ → DebuggerValue T → DebugReply → DebuggerValue T → Type 0
  AnswersMem address length old (Bytes bytes) new = IsRange 4096 address length
      × (map Some bytes.items ≡ bytes_from (shown old.target).memory address length) × ShowsTheSame old new
  AnswersMem address length old (Refused why) new =
      RefusesLook (limits old.target) why address length (shown old.target).memory × ShowsTheSame old new
  AnswersMem address length old other new = ⊥

  -- what is done for a line, and replied; there is no reply to `quit`
  abbrev pub Answers : DebugLine → DebuggerValue T → Option DebugReply → DebuggerValue T → Type 0
  Answers (Break address) old reply new = IsSomeAnd reply (λ reply. AnswersBreak address old reply new)
  Answers (Watch address length) old reply new = IsSomeAnd reply (λ reply. AnswersWatch address length old reply new)
  Answers (Remove number) old reply new = IsSomeAnd reply (λ reply. AnswersRemove number old reply new)
  Answers (Step hart) old reply new = IsSomeAnd reply (λ reply. AnswersStep hart old reply new)
  Answers (Go limit) old reply new = IsSomeAnd reply (λ reply. AnswersGo limit old reply new)
  Answers (Regs hart) old reply new = IsSomeAnd reply (λ reply. AnswersRegs hart old reply new)
  Answers (Mem address length) old reply new = IsSomeAnd reply (λ reply. AnswersMem address length old reply new)
  Answers (Run limit) old reply new = IsSomeAnd reply (λ reply. AnswersRun limit old reply new)
  Answers (GoHart hart limit) old reply new = IsSomeAnd reply (λ reply. AnswersGoHart hart limit old reply new)
  Answers End old reply new = IsSomeAnd reply (λ reply. AnswersEnd old reply × (new ≡ old))
  Answers (line.Live hart) old reply new = IsSomeAnd reply (λ reply. AnswersLive hart old reply × (new ≡ old))
  Answers Quit old reply new = (reply ≡ None) × (new ≡ old)
