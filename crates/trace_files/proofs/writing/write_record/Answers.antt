use Rattle.trace_files.proofs.WrittenLaws.{record_written}
use Rattle.trace_files.proofs.writing.write_record.Goals as goal

pub returns : goal.returns
returns g c = record_written (g.W.Write.contents c.args.out.now) (g.W.Write.contents c.write_u32.new.self) (g.W.Write.contents c.write_u64.new.self) (g.W.Write.contents c.write_u32-2.new.self) (g.W.Write.contents c.write_u64-2.new.self)
    c.args.time c.id_of.result c.args.next c.args.page c.id_of.ensures c.in_ok-write_u32.ensures.bytes c.in_ok-write_u64.ensures.bytes c.in_ok-write_u32-2.ensures.bytes c.in_ok-write_u64-2.ensures.bytes
