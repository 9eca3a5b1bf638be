use Rattle.std.proofs.Common.{◌≡◌, ◌∙◌, ℕ, List, Option, None, Some, Ok, rules, arith, subst, sym}
use Rattle.trace_files.proofs.DueTold.{due_given, line_given_on}
use Rattle.trace_lines.specs.declared.trace_line.LineReferences.{LineReferences}
use Rattle.trace_files.specs.References.{Gives, Trace, lines, pieces_of, referring}
use Rattle.trace_files.specs.ReferenceAnswers.{Passes, Tells, due_left, lines_left}
use Rattle.trace_files.proofs.next_reference.next_due.Goals as goal

pub returns-in-Some-clause-told : goal.returns-in-Some-clause-told
returns-in-Some-clause-told g c =
    let line = c.in-Some.line in
    let left = c.left_of.result in
    let due : Some line ≡ c.args.due.now = sym c.in-Some.is ∙ c.take.ensures.value in
    let given : Passes (Gives line.first) (due_left g.B.Read.remaining c.args.format.now (Some line) c.args.pieces.now) (due_left g.B.Read.remaining c.args.format.now left c.args.pieces.now) =
    due_given line left c.left_of.ensures (λ bytes. lines c.args.format.now c.args.pieces.now.count c.args.pieces.now.words (pieces_of c.args.format.now bytes)) (g.B.Read.remaining c.args.pieces.now.file) in
    subst (λ (d : Option LineReferences). Passes (Gives line.first) (due_left g.B.Read.remaining c.args.format.now d c.args.pieces.now) (due_left g.B.Read.remaining c.args.format.now left c.args.pieces.now)) due given

pub returns-clause-told : goal.returns-clause-told
returns-clause-told g c =
    let line = c.in-Some-2.line in
    let left = c.left_of-2.result in
    let none : c.args.due.now ≡ None = first_of (cc, search rules, grind arith) in
    let read : Passes (referring line) (lines_left g.B.Read.remaining c.args.format.now c.args.pieces.now) (lines_left g.B.Read.remaining c.next_references.new.format c.next_references.new.self) =
    subst (λ (o : Option LineReferences). Tells referring (Ok o) (lines_left g.B.Read.remaining c.args.format.now c.args.pieces.now) (lines_left g.B.Read.remaining c.next_references.new.format c.next_references.new.self)) c.in-Some-2.is c.in_ok-line.ensures.told in
    let given : Passes (Gives line.first) (due_left g.B.Read.remaining c.args.format.now None c.args.pieces.now) (due_left g.B.Read.remaining c.next_references.new.format left c.next_references.new.self) =
    line_given_on line left c.left_of-2.ensures (λ bytes. lines c.args.format.now c.args.pieces.now.count c.args.pieces.now.words (pieces_of c.args.format.now bytes))
    (λ bytes. lines c.next_references.new.format c.next_references.new.self.count c.next_references.new.self.words (pieces_of c.next_references.new.format bytes))
    (g.B.Read.remaining c.args.pieces.now.file) (g.B.Read.remaining c.next_references.new.self.file) read in
    subst (λ (d : Option LineReferences). Passes (Gives line.first) (due_left g.B.Read.remaining c.args.format.now d c.args.pieces.now) (due_left g.B.Read.remaining c.next_references.new.format left c.next_references.new.self)) (sym none) given
