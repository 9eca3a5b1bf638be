-- What is told of the process is what is written and returned.
use Rattle.std.proofs.Common.{subst}
use Rattle.std.proofs.KnownBytes.{Appends-kept}
use Rattle.std.specs.Io.KnownBytes.{Appends}
use Rattle.elf_image.specs.Start.{Start, start_of}
use Rattle.guest_frames.proofs.FlatReport.{runs_so, tells_so}
use Rattle.guest_frames.proofs.machine.run_on_frames.Goals as goal

pub returns : goal.returns
returns g c =
    let start : Start = start_of c.args.image c.args.input.items in
    let process = c.in_ok-process.process in
    let written : Appends (g.W.Write.contents c.args.out.now) (g.W.Write.contents c.flush.new.self) process.output.items =
    Appends-kept _ _ _ _ (subst (Appends (g.W.Write.contents c.args.out.now) (g.W.Write.contents c.write_all.new.self)) c.as_slice.ensures.value c.in_ok-write_all.ensures.bytes) c.flush.ensures.bytes in
    record {
      flat = tells_so c.args.frames c.args.limit start process c.unwrap_or-end.result c.in_ok-process.ensures.plays c.unwrap_or-end.ensures _ _ c.in_ok-process.ensures.flat written;
      runs = runs_so c.args.frames c.args.limit start process c.unwrap_or-end.result c.in_ok-process.ensures.plays c.unwrap_or-end.ensures;
    }
