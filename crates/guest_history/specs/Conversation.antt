-- A conversation with a debugger that goes back.
use Rattle.std.specs.Prelude.{◌≡◌, ◌⊎◌, ℕ, ◌+◌, ⊤, List, [], ◌∷◌, ◌++◌, length, Option, Some, IfSome, Result, Ok, Err}
use Rattle.std.specs.Io.KnownBytes.{Appends}
use Rattle.text_lines.specs.Text.{lines_of}
use Rattle.debug_session.specs.Conversation.{IsRemark}
use Rattle.debug_session.specs.declared.lines.DebugLine.TheVariants.{Quit}
use Rattle.guest_history.specs.Answered.{AnswersLine}
use Rattle.guest_history.specs.Histories.{Keeps}
use Rattle.guest_history.specs.HistoryLines.{AsksOf}
use Rattle.guest_history.specs.HistoryText.{history_text}
use Rattle.guest_history.specs.declared.turn.Turn.{Turn}
use Rattle.guest_history.specs.declared.turn.Turn.TheVariants.{GoesOn, Quits, Bad}
use Rattle.guest_history.specs.declared.fault.HistoryFault.{HistoryFault}
use Rattle.guest_history.specs.declared.fault.HistoryFault.TheVariants.{BadLine, CannotRead, CannotWrite, Run}
use Rattle.guest_history.specs.declared.history.History.{History}
use Rattle.guest_history.specs.declared.lines.HistoryLine.{HistoryLine}
use Rattle.guest_history.specs.declared.lines.HistoryLine.TheVariants.{Plain}
use Rattle.guest_history.specs.declared.reply.HistoryReply.{HistoryReply}

-- a line that is neither skipped nor asks for anything
abbrev pub IsBad : List ℕ → Type 0
IsBad line = (¬ IsRemark line) × ((asked : HistoryLine) → ¬ AsksOf asked line)

-- what a line asks for is done, and replied; then another process may wait
pub record IsReplied (line : List ℕ) (old : History) (told : List ℕ) (new : History) : Type 0 where
  pub asked : HistoryLine
  pub asks : AsksOf asked line
  pub reply : HistoryReply
  pub after : History
  pub answers : AnswersLine asked old (Some reply) after
  pub keeps : Keeps after new
  pub told_is : told ≡ history_text reply ++ 10 ∷ []

-- the text that answers a line, and what the debugger is after it
abbrev pub IsAnswered : List ℕ → History → List ℕ → History → Type 0
IsAnswered line old told new = (IsRemark line × ((told ≡ []) × (new ≡ old))) ⊎ IsReplied line old told new

-- the same of lines, one after another
unfoldable pub AreAnswered : List (List ℕ) → History → List ℕ → History → Type 0
AreAnswered [] old told new = (told ≡ []) × (new ≡ old)
AreAnswered (line ∷ lines) old told new = (now : History) × ((first : List ℕ) × ((others : List ℕ) ×
    IsAnswered line old first now × AreAnswered lines now others new × (told ≡ first ++ others)))

-- a line is skipped or answered, and the answer is written; or it is `quit`; or it is bad
abbrev pub TakesTurn : Turn → List ℕ → History → Option (List ℕ) → History → Option (List ℕ) → Type 0
TakesTurn GoesOn line old written new wrote = (told : List ℕ) × IsAnswered line old told new × Appends written wrote told
TakesTurn Quits line old written new wrote = AsksOf (Plain Quit) line × (new ≡ old) × Appends written wrote []
TakesTurn Bad line old written new wrote = IsBad line × (new ≡ old) × Appends written wrote []

-- what breaks a turn off
abbrev pub IsBroken : HistoryFault → Type 0
IsBroken (BadLine number) = ⊥
IsBroken CannotRead = ⊥
IsBroken CannotWrite = ⊤
IsBroken (Run why) = ⊤

-- how the lines go on below those that were answered
abbrev pub Ends : Result (Unit {0}) HistoryFault → ℕ → List (List ℕ) → Type 0
Ends (Ok done) above below = (below ≡ []) ⊎ ((line : List ℕ) × ((others : List (List ℕ)) × (below ≡ line ∷ others) × AsksOf (Plain Quit) line))
Ends (Err (BadLine number)) above below =
    (line : List ℕ) × ((others : List (List ℕ)) × (below ≡ line ∷ others) × IsBad line × (number ≡ above + 1))
Ends (Err CannotRead) above below = ⊤
Ends (Err CannotWrite) above below = ⊤
Ends (Err (Run why)) above below = ⊤

-- the answers follow what was written before, unless a later line was broken off
abbrev pub IsWritten : Result (Unit {0}) HistoryFault → Option (List ℕ) → List ℕ → Option (List ℕ) → Type 0
IsWritten (Ok done) written told wrote = Appends written wrote told
IsWritten (Err (BadLine number)) written told wrote = Appends written wrote told
IsWritten (Err CannotRead) written told wrote = Appends written wrote told
IsWritten (Err CannotWrite) written told wrote = ⊤
IsWritten (Err (Run why)) written told wrote = ⊤

-- the debugger is left as it is after the lines that were answered; of a line that was broken off nothing is said
abbrev pub IsLeft : Result (Unit {0}) HistoryFault → History → History → Type 0
IsLeft (Ok done) after new = new ≡ after
IsLeft (Err (BadLine number)) after new = new ≡ after
IsLeft (Err CannotRead) after new = new ≡ after
IsLeft (Err CannotWrite) after new = ⊤
IsLeft (Err (Run why)) after new = ⊤

-- Some lines were answered, one after another, and the answers are written. Where the input's bytes are known, these are the first of
-- its lines; what follows them is `quit`, or nothing, or the bad line whose number is reported.
pub record HasConversed (result : Result (Unit {0}) HistoryFault) (input : Option (List ℕ)) (old : History) (written : Option (List ℕ))
    (new : History) (wrote : Option (List ℕ)) : Type 0 where
  pub lines : List (List ℕ)
  pub told : List ℕ
  pub after : History
  pub answered : AreAnswered lines old told after
  pub left : IsLeft result after new
  pub is_written : IsWritten result written told wrote
  pub ends : IfSome input (λ bytes. (below : List (List ℕ)) × ((lines_of bytes ≡ lines ++ below) × Ends result (length lines) below))
