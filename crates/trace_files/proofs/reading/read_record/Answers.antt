use Rattle.std.proofs.Common.{◌≡◌, ◌∙◌, ◌<◌, arith, length}
use Rattle.std.proofs.lemmas.Grind.{common_steps}
use Rattle.trace_files.proofs.CutRecords.{end_taken, record_taken}
use Rattle.trace_files.proofs.reading.read_record.Goals as goal

pub returns-then-branch-eq0 : goal.returns-then-branch-eq0
returns-then-branch-eq0 g c =
    let appended = c.in_ok-read_onto.ensures.appended in
    let short : length c.bytes.bytes.items < 24 = grind (arith, common_steps, c.bytes.bytes.ok.0) in
    end_taken (g.B.Read.remaining c.args.file.now) (g.B.Read.remaining c.bytes.file) (g.B.Read.remaining c.read_onto.new.file) c.bytes.bytes.items c.read_onto.new.bytes.items appended.0
    c.bytes.invariant.read appended.1.0 (appended.1.1.0 ∙ c.if-branch-eq0.true) appended.1.1.1 (c.in_ok-read_onto.ensures.end c.if-branch-eq0.true) short c.is_empty.result
    (λ e. grind (arith, common_steps, c.read_onto.new.bytes.ok.0)) (λ e. grind (arith, common_steps, c.read_onto.new.bytes.ok.0))

pub returns : goal.returns
returns g c =
    let long : length c.bytes.bytes.items ≡ 24 = grind (arith, common_steps, c.bytes.bytes.ok.0) in
    record_taken (g.B.Read.remaining c.args.file.now) (g.B.Read.remaining c.bytes.file) c.bytes.bytes.items c.bytes.invariant.read long
