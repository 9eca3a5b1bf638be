use Rattle.std.proofs.Common.{arith}
use Rattle.whole_strings.proofs.NextPlaceLaws.{roomed_popped, roomed_free}
use Rattle.whole_strings.proofs.optimum.make_room.Goals as goal

pub returns-then-frames-len : goal.returns-then-frames-len
returns-then-frames-len c =
    let size = c.len.ensures.len in
    let full = c.if-frames-len.true in
    roomed_popped c.args.frames c.pop_last.result c.args.resident.now.keys c.pop_last.new.self.keys c.requires (omega (arith, size, full)) c.pop_last.ensures.variant c.pop_last.ensures.removal c.pop_last.ensures.all_below

pub returns-else-frames-len : goal.returns-else-frames-len
returns-else-frames-len c =
    let size = c.len.ensures.len in
    let free = c.if-frames-len.false in
    roomed_free c.args.frames c.args.resident.now.keys (omega (arith, size, free))
