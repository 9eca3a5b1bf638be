use Rattle.std.proofs.Common.{take}
use Rattle.std.specs.Io.KnownBytes.{Appends}
use Rattle.serial_commands.specs.Replies.{replies_text}
use Rattle.serial_commands.proofs.replies.write_replies.Given as goal

-- The replies so far are written.
abbrev pub invariant-loop-reply : goal.invariant-loop-reply
invariant-loop-reply g l = Appends (g.W.Write.contents l.fn.out) (g.W.Write.contents l.out) (replies_text (take l.reply-index l.replies))
