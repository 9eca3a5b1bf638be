-- What is printed by a debugger that the program starts.
use Rattle.std.specs.Prelude.{◌≡◌, ⊤, ℕ, List, [], ◌∷◌, Option, Some, None, Result, Ok, Err, replicate}
use Rattle.command_line.specs.declared.request.DebugRequest.{DebugRequest}
use Rattle.elf_image.specs.Image.{ImageContent}
use Rattle.elf_image.specs.Start.{start_of}
use Rattle.machine_core.specs.Opening.{MachineBegins}
use Rattle.swap_slots.specs.Slot.{zero_content}
use Rattle.flat_machine.specs.ByTurns.{first_turn}
use Rattle.flat_machine.specs.Process.{Process, opening}
use Rattle.debug_core.specs.Debugging.{DebuggerValue}
use Rattle.debug_core.specs.Limits.{Limit}
use Rattle.debug_session.specs.declared.lines.Dialect.{Dialect}
use Rattle.debug_session.specs.declared.lines.Dialect.TheVariants.{Plain}
use Rattle.debug_session.specs.Conversation.{HasConversed}
use Rattle.debug_session.specs.declared.conversation.SessionFault.{SessionFault}
use Rattle.debug_session.specs.declared.conversation.SessionFault.TheVariants as session
use Rattle.paged_target.specs.Lacks.{Lacks}
use Rattle.paged_target.specs.Shown.{TargetValue, shown_of}
use Rattle.image_files.specs.Faults.{IsOfNoLine}
use Rattle.image_files.specs.Reading.{GivesImage}
use Rattle.image_files.specs.declared.fault.Fault.{Fault}
use Rattle.image_files.specs.declared.fault.Fault.TheVariants as fault

-- a debugger of a target, before its first call
abbrev pub new_debugger : {T : Type 0} → (T → Process) → T → DebuggerValue T
new_debugger shown target = record { target = target; points = replicate 32 None; turn = first_turn (shown target) }

-- A new debugger of a target that begins so, and shows the process that an image and an input of its own, `given`, begin, conversed over
-- lines of a dialect, with this result. `input` is what there is to read. `old` and `new` are the contents of the output before and after.
pub record Converses (dialect : Dialect) {T : Type 0} (shown : T → Process) (limits : T → Limit → Type 0) (begins : T → Type 0) (image : ImageContent) (given : List ℕ) (input old new : Option (List ℕ)) (result : Result (Unit {0}) SessionFault) : Type 0 where
  pub target : T
  pub begun : begins target
  pub opens : shown target ≡ opening image given
  pub end : DebuggerValue T
  pub conversed : HasConversed dialect shown limits result input (new_debugger shown target) old end new

-- a machine of one process for an image and an input, on so many frames and 4096 slots in memory, before its first event
abbrev pub BeginsOn : ℕ → ImageContent → List ℕ → TargetValue → Type 0
BeginsOn frames image given target = MachineBegins frames (replicate 4096 zero_content) (start_of image given ∷ []) target.core

-- the same on flat memory, or on such a machine of as many frames as are asked for
abbrev pub ConversesOver : Dialect → Option ℕ → ImageContent → List ℕ → Option (List ℕ) → Option (List ℕ) → Option (List ℕ) → Result (Unit {0}) SessionFault → Type 0
ConversesOver dialect None image given input old new result = Converses dialect {T = Process} (λ process. process) (λ process limit. ⊥) (λ process. ⊤) image given input old new result
ConversesOver dialect (Some frames) image given input old new result = Converses dialect {T = TargetValue} shown_of Lacks (BeginsOn frames image given) image given input old new result

-- what is known of the result of a conversation that came to its end, or to a bad line
abbrev pub IfLinesEnd : Result (Unit {0}) SessionFault → (Result (Unit {0}) SessionFault → Type 0) → Type 0
IfLinesEnd (Ok done) P = P (Ok done)
IfLinesEnd (Err (session.BadLine number)) P = P (Err (session.BadLine number))
IfLinesEnd (Err session.NoMemory) P = ⊤
IfLinesEnd (Err session.CannotRead) P = ⊤
IfLinesEnd (Err session.CannotWrite) P = ⊤

-- `gives` relates a name to the bytes that a file of this name may be found to hold
pub record DebugsAsAsked (gives : List ℕ → List ℕ → Type 0) (request : DebugRequest) (input old new : Option (List ℕ)) (result : Result (Unit {0}) SessionFault) : Type 0 where
  pub image : ImageContent
  pub image_given : GivesImage gives request.image.now image
  pub conversed : ConversesOver Plain request.frames image [] input old new result

-- a conversation's fault as one of the command: a bad line is one, of the same number, and no other is
abbrev pub IsTold : SessionFault → Fault → Type 0
IsTold (session.BadLine number) why = why ≡ fault.BadLine number
IsTold session.NoMemory why = why ≡ fault.NoMemory
IsTold session.CannotRead why = IsOfNoLine why
IsTold session.CannotWrite why = why ≡ fault.CannotWrite
