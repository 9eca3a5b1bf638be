use Rattle.std.proofs.Common.{◌≡◌, ◌<◌, arith, length}
use Rattle.std.proofs.lemmas.Grind.{common_steps}
use Rattle.trace_files.proofs.ManyTold.{all_blocks, empty_references, empty_string}
use Rattle.trace_files.specs.ReferenceAnswers.{to_come}
use Rattle.trace_files.proofs.whole_trace.read_references.Goals as goal

pub returns-then-is_empty-2-clause-fault : goal.returns-then-is_empty-2-clause-fault
returns-then-is_empty-2-clause-fault g c =
    let first = to_come g.B.Read.remaining c.args.trace.now in
    let now = to_come g.B.Read.remaining c.fills.trace in
    let later = to_come g.B.Read.remaining c.fill.new.self in
    let none : length c.fill.new.block.items ≡ 0 = grind (arith, common_steps, c.fill.new.block.ok.0) in
    let empty : length c.fills.string.items ≡ 0 = grind (arith, common_steps, c.fills.string.ok.0) in
    let few : length c.fill.new.block.items < 16384 = omega (arith, none) in
    empty_references c.fills.string.items c.fill.new.block.items first now later c.fills.invariant.told c.in_ok-fill.ensures.told (empty_string c.fill.new.block.items none) (c.in_ok-fill.ensures.full few) (empty_string c.fills.string.items empty)

pub returns-then-is_empty-clause-whole : goal.returns-then-is_empty-clause-whole
returns-then-is_empty-clause-whole g c =
    let first = to_come g.B.Read.remaining c.args.trace.now in
    let now = to_come g.B.Read.remaining c.fills.trace in
    let later = to_come g.B.Read.remaining c.fill.new.self in
    let none : length c.fill.new.block.items ≡ 0 = grind (arith, common_steps, c.fill.new.block.ok.0) in
    let few : length c.fill.new.block.items < 16384 = omega (arith, none) in
    all_blocks c.fills.string.items c.fill.new.block.items first now later c.fills.invariant.told c.in_ok-fill.ensures.told (empty_string c.fill.new.block.items none) (c.in_ok-fill.ensures.full few)
