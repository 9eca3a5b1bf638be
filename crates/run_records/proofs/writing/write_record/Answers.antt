use Rattle.run_records.proofs.TurnTexts.{whole_written}
use Rattle.run_records.specs.Records.{value_of}
use Rattle.run_records.proofs.writing.write_record.Goals as goal

pub returns : goal.returns
returns g c = whole_written (g.W.Write.contents c.args.out.now) (g.W.Write.contents c.write_all.new.self) (g.W.Write.contents c.write_fingerprint.new.out) (g.W.Write.contents c.write_fingerprint-2.new.out)
    (g.W.Write.contents c.write_turns.new.out) (g.W.Write.contents c.write_closing.new.out) (value_of c.args.told.now) c.as_slice.result.now c.as_slice.ensures.value
    c.in_ok-write_all.ensures.bytes c.in_ok-write_fingerprint.ensures c.in_ok-write_fingerprint-2.ensures c.in_ok-write_turns.ensures c.in_ok-write_closing.ensures
