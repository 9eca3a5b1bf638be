use Rattle.std.proofs.Common.{◌≡◌, ◌<◌, ◌++◌, ◌∷◌, [], length, map, ap, ◌∙◌, arith}
use Rattle.machine_sides.specs.Reporting.{told}
use Rattle.hart_carriers.proofs.Growing.{map_push, stands_at}
use Rattle.hart_carriers.proofs.lines.add.Goals as goal

pub returns-clause-adds : goal.returns-clause-adds
returns-clause-adds g c =
    let is : c.len.result ≡ length c.args.told.now.processes.items = omega (arith, c.args.told.now.processes.ok.0, c.len.ensures) in
    let small : length c.args.told.now.processes.items < length c.args.handed.now = omega (arith, c.args.told.now.processes.ok.0, c.requires.known) in
    record {
      report = c.line_of-line.result.report;
      last = c.line_of-line.result.last;
      started = c.line_of-line.result.started;
      added = c.push_reserved-2.ensures.items;
      published = c.push_reserved.ensures.items;
      all = c.both-told.ensures;
      stands = λ honest started. stands_at c.args.handed.now _ _ c.index-handed-len.result c.as_slice.result.now (told c.line_of-line.result.report) is small c.index-handed-len.is c.as_slice.ensures.value (c.line_of-line.ensures.stands honest started);
      counted = c.line_of-line.ensures.last;
    }

pub returns-clause-told : goal.returns-clause-told
returns-clause-told g c =
    ap (map told) c.push_reserved-2.ensures.items ∙ map_push told c.args.told.now.processes.items c.line_of-line.result.report
    ∙ ap (λ t. map told c.args.told.now.processes.items ++ t ∷ []) c.line_of-line.ensures.told
