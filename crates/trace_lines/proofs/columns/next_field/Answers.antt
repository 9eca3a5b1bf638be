use Rattle.std.proofs.Common.{◌<◌, arith, length}
use Rattle.trace_lines.proofs.ColumnLaws.{cut_field}
use Rattle.trace_lines.proofs.columns.next_field.Goals as goal

pub returns-clause-fields : goal.returns-clause-fields
returns-clause-fields c =
    let short : c.field_size-size.result < length c.args.line.now = omega (arith, c.field_size-size.ensures.bound, c.if-size-line.false) in
    cut_field c.args.separator c.field_size-size.result c.args.line.now c.field_size-size.ensures.size short
