use Rattle.std.proofs.Common.{sym, ◌∙◌}
use Rattle.guest_strings.proofs.Places.{place_found, place_passed, no_place}
use Rattle.guest_strings.proofs.turns.first_place.Goals as goal

pub returns-then-may_run-clause-first : goal.returns-then-may_run-clause-first
returns-then-may_run-clause-first c =
    sym (c.places.invariant ∙ place_found c.places.place c.args.below c.args.processes.now c.places-test.true (sym c.may_run.ensures ∙ c.if-may_run.true))

pub places-preserved : goal.places-preserved
places-preserved c =
    c.places.invariant ∙ place_passed c.places.place c.args.below c.args.processes.now c.places-test.true (sym c.may_run.ensures ∙ c.if-may_run.false)

pub returns-clause-first : goal.returns-clause-first
returns-clause-first c = sym (c.places.invariant ∙ no_place c.places.place c.args.below c.args.processes.now c.places-test.false)
