-- A conversation with a debugger.
use Rattle.std.specs.Prelude.{◌≡◌, ◌⊎◌, ℕ, ◌+◌, ◌<◌, ⊤, List, [], ◌∷◌, ◌++◌, length, Option, Some, IfSome, Result, Ok, Err, IsUtf8}
use Rattle.std.specs.Io.KnownBytes.{Appends}
use Rattle.text_lines.specs.Text.{lines_of}
use Rattle.text_lines.specs.Lines.{IsSkipped}
use Rattle.flat_machine.specs.Process.{Process}
use Rattle.debug_core.specs.Debugging.{DebuggerValue}
use Rattle.debug_core.specs.Limits.{Limit}
use Rattle.debug_session.specs.Answers.{Answers}
use Rattle.debug_session.specs.Lines.{AsksFor}
use Rattle.debug_session.specs.ReplyText.{reply_text}
use Rattle.debug_session.specs.declared.lines.DebugLine.{DebugLine}
use Rattle.debug_session.specs.declared.lines.Dialect.{Dialect}
use Rattle.debug_session.specs.declared.lines.DebugLine.TheVariants.{Quit}
use Rattle.debug_session.specs.declared.reply.DebugReply.{DebugReply}
use Rattle.debug_session.specs.declared.conversation.SessionFault.{SessionFault}
use Rattle.debug_session.specs.declared.conversation.SessionFault.TheVariants.{BadLine, NoMemory, CannotRead, CannotWrite}
use Rattle.debug_session.specs.declared.turn.Turn.{Turn}
use Rattle.debug_session.specs.declared.turn.Turn.TheVariants.{GoesOn, Quits, Bad}

-- a line that is skipped: empty, or a remark in UTF-8
abbrev pub IsRemark : List ℕ → Type 0
IsRemark line = IsSkipped line × IsUtf8 line

-- a line that is neither skipped nor asks for anything
abbrev pub IsBad : Dialect → List ℕ → Type 0
IsBad dialect line = (¬ IsRemark line) × ((asked : DebugLine) → ¬ AsksFor dialect asked line)

-- how the lines go on below those that were answered
abbrev pub Ends : Dialect → Result (Unit {0}) SessionFault → ℕ → List (List ℕ) → Type 0
Ends dialect (Ok done) above below = (below ≡ []) ⊎ ((line : List ℕ) × ((others : List (List ℕ)) × (below ≡ line ∷ others) × AsksFor dialect Quit line))
Ends dialect (Err (BadLine number)) above below = (line : List ℕ) × ((others : List (List ℕ)) × (below ≡ line ∷ others)
    × (IsBad dialect line ⊎ (33554432 < length line)) × (number ≡ above + 1))
Ends dialect (Err NoMemory) above below = ⊤
Ends dialect (Err CannotRead) above below = ⊤
Ends dialect (Err CannotWrite) above below = ⊤

-- the text of the replies follows what was written before, unless the output took no more
abbrev pub IsWritten : Result (Unit {0}) SessionFault → Option (List ℕ) → List ℕ → Option (List ℕ) → Type 0
IsWritten (Ok done) written told wrote = Appends written wrote told
IsWritten (Err (BadLine number)) written told wrote = Appends written wrote told
IsWritten (Err NoMemory) written told wrote = Appends written wrote told
IsWritten (Err CannotRead) written told wrote = Appends written wrote told
IsWritten (Err CannotWrite) written told wrote = ⊤

-- `dialect` says which lines there are, `shown` is the flat process that a target shows, and `limits` says what the target lacks
module _ (dialect : Dialect) {T : Type 0} (shown : T → Process) (limits : T → Limit → Type 0) where
  -- what is printed for a line, and what the debugger is after it
  abbrev pub IsAnswered : List ℕ → DebuggerValue T → List ℕ → DebuggerValue T → Type 0
  IsAnswered line old told new = (IsRemark line × (told ≡ []) × (new ≡ old))
      ⊎ ((asked : DebugLine) × ((reply : DebugReply) × AsksFor dialect asked line × Answers shown limits asked old (Some reply) new
      × (told ≡ reply_text reply ++ 10 ∷ [])))

  -- the same of lines, one after another
  unfoldable pub AreAnswered : List (List ℕ) → DebuggerValue T → List ℕ → DebuggerValue T → Type 0
  AreAnswered [] old told new = (told ≡ []) × (new ≡ old)
  AreAnswered (line ∷ lines) old told new = (now : DebuggerValue T) × ((first : List ℕ) × ((others : List ℕ) ×
      IsAnswered line old first now × AreAnswered lines now others new × (told ≡ first ++ others)))

  -- a line is skipped or answered, and the reply, if any, is written; or it is `quit`; or it is bad
  abbrev pub TakesTurn : Turn → List ℕ → DebuggerValue T → Option (List ℕ) → DebuggerValue T → Option (List ℕ) → Type 0
  TakesTurn GoesOn line old written new wrote = (told : List ℕ) × IsAnswered line old told new × Appends written wrote told
  TakesTurn Quits line old written new wrote = AsksFor dialect Quit line × (new ≡ old) × Appends written wrote []
  TakesTurn Bad line old written new wrote = IsBad dialect line × (new ≡ old) × Appends written wrote []

  -- Some lines were answered, one after another, and the replies are written. Where the input's bytes are known, these lines are its
  -- first lines. After them comes `quit`, or nothing, or the bad line whose number is reported.
  pub record HasConversed (result : Result (Unit {0}) SessionFault) (input : Option (List ℕ)) (old : DebuggerValue T) (written : Option (List ℕ))
      (new : DebuggerValue T) (wrote : Option (List ℕ)) : Type 0 where
    pub lines : List (List ℕ)
    pub told : List ℕ
    pub answered : AreAnswered lines old told new
    pub is_written : IsWritten result written told wrote
    pub ends : IfSome input (λ bytes. (below : List (List ℕ)) × ((lines_of bytes ≡ lines ++ below) × Ends dialect result (length lines) below))
