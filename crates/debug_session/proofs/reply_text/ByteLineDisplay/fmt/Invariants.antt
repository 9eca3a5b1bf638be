use Rattle.std.proofs.Common.{◌∷◌, get_or, take}
use Rattle.std.specs.Fmt.{HasWritten, IsPlainFormatter}
use Rattle.debug_session.specs.ReplyText.{bytes_text}
use Rattle.debug_session.proofs.reply_text.ByteLineDisplay.fmt.Given as goal

-- The bytes that were passed are written.
abbrev pub invariant-loop-byte : goal.invariant-loop-byte
invariant-loop-byte g l =
    IsPlainFormatter l.fn.f → HasWritten g.W.Write.write_str_gives l.fn.f (bytes_text (get_or l.self.0.now 0 0 ∷ take l.byte-index l.rest)) l.f
