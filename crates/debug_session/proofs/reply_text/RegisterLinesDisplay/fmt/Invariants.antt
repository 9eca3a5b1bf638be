use Rattle.std.proofs.Common.{◌++◌, codes}
use Rattle.std.specs.Fmt.{HasWritten, IsPlainFormatter}
use Rattle.debug_session.specs.ReplyText.{register_lines, word_text}
use Rattle.debug_session.proofs.reply_text.RegisterLinesDisplay.fmt.Given as goal

-- The registers that were passed are written.
abbrev pub invariant-loop-above : goal.invariant-loop-above
invariant-loop-above g l = IsPlainFormatter l.fn.f → HasWritten g.W.Write.write_str_gives l.fn.f
    (codes "pc " ++ word_text l.self.0.now.pc ++ register_lines l.above l.self.0.now) l.f
