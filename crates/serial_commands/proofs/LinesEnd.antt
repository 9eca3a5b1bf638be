-- Conversations that end with the lines, or at a bad one.
use Rattle.std.proofs.Common.{◌≡◌, ℕ, Ok, Err, sym, subst}
use Rattle.std.specs.Prelude.{Result}
use Rattle.debug_session.specs.declared.conversation.SessionFault.{SessionFault}
use Rattle.debug_session.specs.declared.conversation.SessionFault.TheVariants as session
use Rattle.image_files.specs.declared.fault.Fault.{Fault}
use Rattle.image_files.specs.declared.fault.Fault.TheVariants as fault
use Rattle.image_files.specs.Faults.{IfBadLine, IsOfNoLine}
use Rattle.serial_commands.specs.Debugged.{IfLinesEnd, IsTold}

pub lines_end : (result : Result (Unit {0}) SessionFault) (P : Result (Unit {0}) SessionFault → Type 0) → P result → IfLinesEnd result P
lines_end (Ok tt) P p = p
lines_end (Err (session.BadLine number)) P p = p
lines_end (Err session.NoMemory) P p = tt
lines_end (Err session.CannotRead) P p = tt
lines_end (Err session.CannotWrite) P p = tt
