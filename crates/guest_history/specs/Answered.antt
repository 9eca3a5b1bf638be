-- What a debugger that goes back replies to a line, and what it does.
use Rattle.std.specs.Prelude.{◌≡◌, ℕ, ◌⊎◌, ⊤, true, false, Option, None, Some, IsSomeAnd}
use Rattle.flat_machine.specs.Process.{Process, is_live}
use Rattle.debug_core.specs.Debugging.{DebuggerValue}
use Rattle.debug_core.specs.declared.point.Why.{Why}
use Rattle.debug_core.specs.declared.point.DebugStep.TheVariants as step
use Rattle.debug_core.specs.declared.refusal.DebugRefusal.TheVariants as refusal
use Rattle.debug_session.specs.Answers.{Answers, AnswersBreak, AnswersRemove, AnswersWatch}
use Rattle.debug_session.specs.declared.lines.DebugLine.{DebugLine}
use Rattle.debug_session.specs.declared.lines.DebugLine.TheVariants as line
use Rattle.debug_session.specs.declared.reply.DebugReply.{DebugReply}
use Rattle.debug_session.specs.declared.reply.DebugReply.TheVariants as debug
use Rattle.guest_history.specs.declared.forward.Stop.{Stop}
use Rattle.guest_history.specs.declared.lines.HistoryLine.{HistoryLine}
use Rattle.guest_history.specs.declared.lines.HistoryLine.TheVariants.{Back, BackGo, BackGoWithin, At, Plain}
use Rattle.guest_history.specs.declared.forward.Stepped.{Stepped}
use Rattle.guest_history.specs.declared.forward.Stepped.TheVariants.{Ran, Refused, PastRecord, OtherHart}
use Rattle.guest_history.specs.declared.history.History.{History}
use Rattle.guest_history.specs.declared.history.Looked.{Looked}
use Rattle.guest_history.specs.declared.history.Looked.TheVariants as looked
use Rattle.guest_history.specs.declared.reply.HistoryReply.{HistoryReply}
use Rattle.guest_history.specs.declared.reply.HistoryReply.TheVariants as reply
use Rattle.guest_history.specs.Going.{lacks, shows, turn_of, GoesAlone, HasGone}
use Rattle.guest_history.specs.Histories.{GoesBackBy, GoesBackTo, HasStepped, StopsBefore, StopsWithin}

-- how many steps were done, of how many
abbrev pub reply_at : History → HistoryReply
reply_at history = reply.At history.done history.path.total

-- It goes so many steps back, or refuses to, and nothing has changed.
abbrev pub AnswersBack : ℕ → History → HistoryReply → History → Type 0
AnswersBack count old told new =
    ((told ≡ reply_at new) × GoesBackBy count old true new) ⊎ ((told ≡ reply.NoStepBefore) × GoesBackBy count old false new)

-- it goes back to where a run stopped last, and says why
abbrev pub AnswersBackGo : History → HistoryReply → History → Type 0
AnswersBackGo old told new =
    (why : Option Why) × ((told ≡ reply.Met why new.done new.path.total) × (StopsBefore old why new × GoesBackTo new.done old new))

-- the same of a bounded way back
abbrev pub looked_reply : Looked → History → HistoryReply
looked_reply (looked.Met why) new = reply.Met (Some why) new.done new.path.total
looked_reply looked.Limit new = reply.NoneMet new.done new.path.total
looked_reply looked.Beginning new = reply.Met None new.done new.path.total

abbrev pub AnswersBackWithin : ℕ → History → HistoryReply → History → Type 0
AnswersBackWithin count old told new = (found : Looked) × ((told ≡ looked_reply found new) × (StopsWithin count old found new × GoesBackTo new.done old new))

-- what is replied where this has come of a step
abbrev pub reply_of : Stepped → HistoryReply
reply_of Ran = reply.Plain (debug.Stepped step.Ran)
reply_of (Refused why) = reply.Plain (debug.Refused why)
reply_of PastRecord = reply.PastRecord
reply_of OtherHart = reply.OtherHart

-- it takes a step, or says why not
abbrev pub AnswersStep : ℕ → History → HistoryReply → History → Type 0
AnswersStep hart old told new = (stepped : Stepped) × ((told ≡ reply_of stepped) × HasStepped hart old stepped new)

-- what is replied where a run has come to this
abbrev pub stop_reply : Option Why → ℕ → ℕ → HistoryReply
stop_reply None turn steps = reply.RecordEnds steps
stop_reply (Some why) turn steps = reply.Plain (debug.Stopped why turn steps)

-- the same with the hart of the last step
abbrev pub told_reply : Option Why → ℕ → ℕ → ℕ → HistoryReply
told_reply None last turn steps = reply.ToldRecordEnds last turn steps
told_reply (Some why) last turn steps = reply.Plain (debug.Told why last turn steps)

-- it goes on, and says where it stopped
abbrev pub AnswersGo : ℕ → History → HistoryReply → History → Type 0
AnswersGo limit old told new = (stop : Stop) × ((told ≡ stop_reply stop.why (turn_of new) stop.steps) × HasGone limit old stop new)

abbrev pub AnswersRun : ℕ → History → HistoryReply → History → Type 0
AnswersRun limit old told new = (stop : Stop) × ((told ≡ told_reply stop.why stop.last (turn_of new) stop.steps) × HasGone limit old stop new)

-- the same of one hart, which is live
pub record RunsAlone (hart limit : ℕ) (old : History) (told : HistoryReply) (new : History) : Type 0 where
  pub stop : Stop
  pub told_is : told ≡ told_reply stop.why stop.last (turn_of new) stop.steps
  pub live : is_live hart old.debugger.target ≡ true
  pub goes : GoesAlone hart limit old stop new

-- it is not, and nothing has changed
abbrev pub RefusesAlone : ℕ → History → HistoryReply → History → Type 0
RefusesAlone hart old told new =
    (told ≡ reply.Plain (debug.Refused refusal.NoHart)) × ((is_live hart old.debugger.target ≡ false) × (new ≡ old))

-- either of these; where harts take their turns by a record it is refused, and nothing has changed
abbrev pub AnswersGoHart : ℕ → ℕ → History → HistoryReply → History → Type 0
AnswersGoHart hart limit old told new =
    ((told ≡ reply.OtherHart) × ((old.is_recorded ≡ true) × (new ≡ old)))
    ⊎ ((old.is_recorded ≡ false) × (RefusesAlone hart old told new ⊎ RunsAlone hart limit old told new))

-- what any debugger does with its points, and the same points are kept
pub record AnswersPoint (answers : DebuggerValue Process → DebugReply → DebuggerValue Process → Type 0) (old : History) (told : HistoryReply) (new : History) : Type 0 where
  pub plain : DebugReply
  pub told_is : told ≡ reply.Plain plain
  pub answered : answers old.debugger plain new.debugger
  pub rest : new ≡ record old { points = new.points; debugger = new.debugger }

-- what any debugger shows
abbrev pub IsPlain : Option HistoryReply → Option DebugReply → Type 0
IsPlain None None = ⊤
IsPlain None (Some plain) = ⊥
IsPlain (Some told) None = ⊥
IsPlain (Some told) (Some plain) = told ≡ reply.Plain plain

pub record AnswersLook (asked : DebugLine) (old : History) (told : Option HistoryReply) (new : History) : Type 0 where
  pub plain : Option DebugReply
  pub told_is : IsPlain told plain
  pub answered : Answers shows lacks asked old.debugger plain new.debugger
  pub rest : new ≡ record old { debugger = new.debugger }

-- what is done for a line of any debugger, and replied
abbrev pub AnswersPlain : DebugLine → History → Option HistoryReply → History → Type 0
AnswersPlain (line.Break address) old told new = IsSomeAnd told (λ told. AnswersPoint (AnswersBreak address) old told new)
AnswersPlain (line.Watch address length) old told new = IsSomeAnd told (λ told. AnswersPoint (AnswersWatch address length) old told new)
AnswersPlain (line.Remove number) old told new = IsSomeAnd told (λ told. AnswersPoint (AnswersRemove number) old told new)
AnswersPlain (line.Step hart) old told new = IsSomeAnd told (λ told. AnswersStep hart old told new)
AnswersPlain (line.Go limit) old told new = IsSomeAnd told (λ told. AnswersGo limit old told new)
AnswersPlain (line.Run limit) old told new = IsSomeAnd told (λ told. AnswersRun limit old told new)
AnswersPlain (line.GoHart hart limit) old told new = IsSomeAnd told (λ told. AnswersGoHart hart limit old told new)
AnswersPlain (line.Regs hart) old told new = AnswersLook (line.Regs hart) old told new
AnswersPlain (line.Mem address length) old told new = AnswersLook (line.Mem address length) old told new
AnswersPlain line.End old told new = AnswersLook line.End old told new
AnswersPlain (line.Live hart) old told new = AnswersLook (line.Live hart) old told new
AnswersPlain line.Quit old told new = AnswersLook line.Quit old told new

-- what is done for a line, and replied; there is no reply to `quit`
abbrev pub AnswersLine : HistoryLine → History → Option HistoryReply → History → Type 0
AnswersLine (Back count) old told new = IsSomeAnd told (λ told. AnswersBack count old told new)
AnswersLine BackGo old told new = IsSomeAnd told (λ told. AnswersBackGo old told new)
AnswersLine (BackGoWithin count) old told new = IsSomeAnd told (λ told. AnswersBackWithin count old told new)
AnswersLine At old told new = IsSomeAnd told (λ told. (told ≡ reply_at new) × (new ≡ old))
AnswersLine (Plain asked) old told new = AnswersPlain asked old told new
