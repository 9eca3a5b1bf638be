use Rattle.std.proofs.Common.{◌≡◌, Ok, Option, None, rules, arith, subst, sym}
use Rattle.std.specs.Option.{option_map}
use Rattle.std.proofs.lemmas.Result.{err_from_is_err_and}
use Rattle.trace_files.proofs.JoinedTold.{held_breaks, last_told}
use Rattle.trace_files.proofs.Telling.{breaks_later, over_at_none, told_later}
use Rattle.guest_strings.specs.declared.reference.Reference.{Reference}
use Rattle.trace_files.specs.References.{Gives, due_from, joined}
use Rattle.trace_files.specs.ReferenceAnswers.{IsOver, Tells, joined_left}
use Rattle.trace_files.proofs.next_reference.next_joined.Goals as goal

pub returns-in_err-next-clause-told : goal.returns-in_err-next-clause-told
returns-in_err-next-clause-told g c =
    let p = err_from_is_err_and c.from_residual.result c.from_residual.ensures.1 in
    let fault = c.in_err-next.field-0.0 in
    rw (p.1, p.2) (breaks_later fault (joined_left g.B.Read.remaining c.args.format.now c.args.held.now c.args.due.now c.args.pieces.now)
    (joined_left g.B.Read.remaining c.references.format c.references.held c.references.due c.references.pieces) c.references.invariant.held
    (held_breaks (due_from c.references.format c.references.due c.references.pieces.count c.references.pieces.words) c.references.held fault (g.B.Read.remaining c.references.pieces.file) c.in_err-next.ensures.told))

pub returns-in_default-clause-told : goal.returns-in_default-clause-told
returns-in_default-clause-told g c =
    let f = due_from c.references.format c.references.due c.references.pieces.count c.references.pieces.words in
    let h = due_from c.next_due.new.format c.next_due.new.due c.next_due.new.pieces.count c.next_due.new.pieces.words in
    let known = g.B.Read.remaining c.references.pieces.file in
    let rest = g.B.Read.remaining c.next_due.new.pieces.file in
    let none : c.in_ok-next.field-0 ≡ None = first_of (cc, search rules, grind arith) in
    let over : IsOver (option_map f known) (option_map h rest) = over_at_none c.in_ok-next.field-0 (option_map f known) (option_map h rest) none c.in_ok-next.ensures.told in
    told_later Gives (Ok c.take.result) (joined_left g.B.Read.remaining c.args.format.now c.args.held.now c.args.due.now c.args.pieces.now)
    (joined_left g.B.Read.remaining c.references.format c.references.held c.references.due c.references.pieces)
    (joined_left g.B.Read.remaining c.next_due.new.format c.take.new.self c.next_due.new.due c.next_due.new.pieces) c.references.invariant.held
    (subst (λ (o : Option Reference). Tells Gives (Ok o) (option_map (λ bytes. joined c.references.held (f bytes)) known) (option_map (λ bytes. joined c.take.new.self (h bytes)) rest)) (sym c.take.ensures.value)
    (last_told f h c.references.held c.take.new.self known rest c.take.ensures.after over))
