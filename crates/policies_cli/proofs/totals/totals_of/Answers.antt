use Rattle.std.specs.Prelude.{Option, Ok, ◌+◌}
use Rattle.std.proofs.Common.{arith, refl, subst}
use Rattle.guest_strings.specs.declared.reference.Reference.{Reference}
use Rattle.trace_files.specs.References.{Gives}
use Rattle.trace_files.specs.ReferenceAnswers.{to_come, Tells}
use Rattle.policies_cli.proofs.Counting.{counts_all, counts_none, counts_on}
use Rattle.policies_cli.proofs.totals.totals_of.Goals as goal

pub references-init : goal.references-init
references-init g c = record {
  counted = counts_none (to_come g.B.Read.remaining c.args.trace.now) c.none_seen-seen.result (record { references = 0; writes = 0; pages = 0 }) c.none_seen-seen.ensures refl refl refl;
  turns = refl;
  few_writes = omega arith;
  few_pages = omega arith;
}

pub returns-in_default : goal.returns-in_default
returns-in_default g c =
    let now = to_come g.B.Read.remaining c.references.trace in
    let later = to_come g.B.Read.remaining c.next.new.self in
    counts_all (to_come g.B.Read.remaining c.args.trace.now) now later c.references.seen c.references.totals c.references.invariant.counted
    (subst (λ (o : Option Reference). Tells Gives (Ok o) now later) c.in_default.is c.in_ok-reference.ensures.told)

pub references-preserved : goal.references-preserved
references-preserved g c =
    let now = to_come g.B.Read.remaining c.references.trace in
    let later = to_come g.B.Read.remaining c.next.new.self in
    let more = c.with_one-totals.ensures.references in
    let turns = c.references.invariant.turns in
    record {
      counted = counts_on (to_come g.B.Read.remaining c.args.trace.now) now later c.references.seen c.see.new.seen c.references.totals c.with_one-totals.result c.in-Some.reference c.in_ok-new.new c.references.invariant.counted
          (subst (λ (o : Option Reference). Tells Gives (Ok o) now later) c.in-Some.is c.in_ok-reference.ensures.told) c.in_ok-new.ensures.new c.in_ok-new.ensures.seen more c.with_one-totals.ensures.writes c.with_one-totals.ensures.pages;
      turns = omega (arith, more, turns);
      few_writes = c.with_one-totals.ensures.few_writes;
      few_pages = c.with_one-totals.ensures.few_pages;
    }
