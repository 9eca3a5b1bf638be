use Rattle.std.proofs.Common.{◌≡◌, None, Err, IfSome, rules, arith}
use Rattle.trace_files.proofs.AtHandTold.{ends_behind, none_behind, over_behind}
use Rattle.trace_files.proofs.Telling.{over_at_none}
use Rattle.trace_files.specs.ReferenceAnswers.{EndsBy, to_come}
use Rattle.trace_files.proofs.trace_file.TraceFile.fill.Goals as goal

pub returns-in_default-clause-full : goal.returns-in_default-clause-full
returns-in_default-clause-full g c = λ _.
    let first = to_come g.B.Read.remaining c.args.self.now in
    let before = to_come g.B.Read.remaining c.references.self in
    let now = to_come g.B.Read.remaining c.fill_at_hand.new.self in
    let later = to_come g.B.Read.remaining c.next.new.self in
    let none : c.in_ok-reference.field-0 ≡ None = first_of (cc, search rules, grind arith) in
    none_behind c.references.block.items c.fill_at_hand.new.block.items first before now c.references.invariant.told c.in_ok-fill_at_hand.ensures.told later (over_at_none c.in_ok-reference.field-0 now later none c.in_ok-reference.ensures.told)

pub returns-in_default-clause-told : goal.returns-in_default-clause-told
returns-in_default-clause-told g c =
    let first = to_come g.B.Read.remaining c.args.self.now in
    let before = to_come g.B.Read.remaining c.references.self in
    let now = to_come g.B.Read.remaining c.fill_at_hand.new.self in
    let later = to_come g.B.Read.remaining c.next.new.self in
    let none : c.in_ok-reference.field-0 ≡ None = first_of (cc, search rules, grind arith) in
    over_behind c.references.block.items c.fill_at_hand.new.block.items first before now c.references.invariant.told c.in_ok-fill_at_hand.ensures.told later (over_at_none c.in_ok-reference.field-0 now later none c.in_ok-reference.ensures.told)

pub returns-in_err-reference-clause-fault : goal.returns-in_err-reference-clause-fault
returns-in_err-reference-clause-fault g c =
    let first = to_come g.B.Read.remaining c.args.self.now in
    let before = to_come g.B.Read.remaining c.references.self in
    let now = to_come g.B.Read.remaining c.fill_at_hand.new.self in
    let ends : IfSome first (EndsBy c.in_err-reference.field-0.0) =
    ends_behind c.references.block.items c.fill_at_hand.new.block.items first before now c.references.invariant.told c.in_ok-fill_at_hand.ensures.told c.in_err-reference.field-0.0 c.in_err-reference.ensures.told in
    let is : c.from_residual-in_err-reference.result ≡ Err c.in_err-reference.field-0.0 = first_of (search rules, cc, grind arith) in
    rw is ends
