use Rattle.std.proofs.Common.{arith, refl, ap, sym, subst, ◌∙◌, ◌≡◌, ◌-◌, List, slice_index_or}
use Rattle.std.proofs.lemmas.List.{get_or_default}
use Rattle.run_paths.specs.declared.path.Path.{Path}
use Rattle.run_paths.specs.declared.path.Stretch.{Stretch}
use Rattle.run_paths.specs.declared.path.Whose.TheVariants.{ByTurns}
use Rattle.guest_history.specs.Histories.{IsNext}
use Rattle.run_paths.specs.Paths.{steps_of, part_of}
use Rattle.guest_history.specs.Checkpoints.{beginning}
use Rattle.guest_history.specs.Histories.{place_of}
use Rattle.std.proofs.lemmas.Option.{none-some}
use Rattle.run_paths.proofs.Parts.{count_all, steps_part}
use Rattle.guest_history.proofs.ByRecord.{at_end_of, goes_on, led_by, none_before, none_passed, stops_there}
use Rattle.guest_history.proofs.GoneOn.{last_after, next_turn, turn_done}
use Rattle.guest_history.proofs.history.History.go_by_record.Goals as goal

nothing : Stretch
nothing = record { whose = ByTurns; count = 0 }

pub stretches-init : goal.stretches-init
unfolding steps_of
stretches-init c = record {
  stands = c.requires.stands;
  path = refl;
  program = refl;
  recorded = refl;
  points = refl;
  done = omega arith;
  count = omega arith;
  steps = omega arith;
  last = c.turn-last.ensures;
  passed = none_passed c.args.self.now.debugger.points c.args.self.now.path.stretches.items (beginning c.args.self.now.program) c.args.self.now.done c.args.limit c.args.self.now.debugger.target;
}

pub go_turn-requires-clause-next : goal.go_turn-requires-clause-next
unfolding nothing
go_turn-requires-clause-next c =
    let n = c.stretches.stretch-index in
    let items = c.as_slice-stretch-items.result.now in
    let here = slice_index_or items n nothing in
    let old = c.args.self.now in
    let are : items ≡ part_of old.path.stretches.items old.done (old.path.total - old.done) =
    c.as_slice-stretch-items.ensures.value ∙ c.in_ok-ahead.ensures ∙ ap (λ (l : List Stretch). part_of l old.done (old.path.total - old.done)) c.as_slice-path.ensures.value in
    subst (λ (p : Path). IsNext p c.stretches.self.done here) (sym c.stretches.invariant.path)
    (next_turn old.path items old.done c.stretches.self.done n here c.requires.stands.counted c.requires.stands.within are c.stretches-test.true (get_or_default items n nothing here c.stretches-test.true) c.stretches.invariant.done)

pub stretches-preserved : goal.stretches-preserved
unfolding nothing
stretches-preserved c =
    let n = c.stretches.stretch-index in
    let items = c.as_slice-stretch-items.result.now in
    let here = slice_index_or items n nothing in
    let old = c.args.self.now in
    let sum = c.stretches.invariant.steps in
    let count = c.stretches.invariant.count in
    let less = c.in_ok-why.ensures.within in
    let more = c.in_ok-why.ensures.done in
    let are : items ≡ part_of old.path.stretches.items old.done (old.path.total - old.done) =
    c.as_slice-stretch-items.ensures.value ∙ c.in_ok-ahead.ensures ∙ ap (λ (l : List Stretch). part_of l old.done (old.path.total - old.done)) c.as_slice-path.ensures.value in
    let next = subst (λ (p : Path). IsNext p c.stretches.self.done here) (sym c.stretches.invariant.path)
    (next_turn old.path items old.done c.stretches.self.done n here c.requires.stands.counted c.requires.stands.within are c.stretches-test.true (get_or_default items n nothing here c.stretches-test.true) c.stretches.invariant.done) in
    let passes = c.stops.ensures.no c.if-stops.false in
    record {
      stands = c.in_ok-why.ensures.stands;
      path = c.in_ok-why.ensures.path ∙ c.stretches.invariant.path;
      program = c.in_ok-why.ensures.program ∙ c.stretches.invariant.program;
      recorded = c.in_ok-why.ensures.recorded ∙ c.stretches.invariant.recorded;
      points = c.in_ok-why.ensures.points ∙ c.stretches.invariant.points;
      done =
          turn_done items c.args.self.now.done c.stretches.self.done c.go_turn.new.self.done n c.in_ok-why.steps here c.stretches-test.true (get_or_default items n nothing here c.stretches-test.true) c.stretches.invariant.done c.in_ok-why.ensures.done
          c.in_ok-why.ensures.few passes.1;
      count = omega (arith, count, more);
      steps = omega (arith, sum, less);
      last = last_after old c.stretches.self here c.stretches.taken c.in_ok-why.steps c.stretches.last c.last_of-last.result next c.in_ok-why.ensures.few (ap (λ (p : Path). p.stretches.items) c.stretches.invariant.path) count c.stretches.invariant.last
          c.last_of-last.ensures.some c.last_of-last.ensures.none;
      passed = goes_on c.stretches.self c.go_turn.new.self (beginning old.program) old.done c.args.limit c.stretches.taken c.stretches.left here c.in_ok-why.why c.in_ok-why.steps old.debugger.points old.path.stretches.items
          c.stretches.invariant.stands next c.in_ok-why.ensures.gone (ap beginning (sym c.stretches.invariant.program)) c.stretches.invariant.points (ap (λ (p : Path). p.stretches.items) c.stretches.invariant.path) c.stretches.invariant.count
          c.stretches.invariant.steps c.stretches.invariant.passed passes.0;
    }

pub returns-then-stops-clause-gone : goal.returns-then-stops-clause-gone
unfolding nothing
returns-then-stops-clause-gone c =
    let n = c.stretches.stretch-index in
    let items = c.as_slice-stretch-items.result.now in
    let here = slice_index_or items n nothing in
    let old = c.args.self.now in
    let count = c.stretches.invariant.count in
    let more = c.in_ok-why.ensures.done in
    let are : items ≡ part_of old.path.stretches.items old.done (old.path.total - old.done) =
    c.as_slice-stretch-items.ensures.value ∙ c.in_ok-ahead.ensures ∙ ap (λ (l : List Stretch). part_of l old.done (old.path.total - old.done)) c.as_slice-path.ensures.value in
    let next = subst (λ (p : Path). IsNext p c.stretches.self.done here) (sym c.stretches.invariant.path)
    (next_turn old.path items old.done c.stretches.self.done n here c.requires.stands.counted c.requires.stands.within are c.stretches-test.true (get_or_default items n nothing here c.stretches-test.true) c.stretches.invariant.done) in
    record {
      done_is = omega (arith, count, more);
      points_are = c.in_ok-why.ensures.points ∙ c.stretches.invariant.points;
      before = none_before c.stretches.self c.go_turn.new.self (beginning old.program) old.done c.args.limit c.stretches.taken c.stretches.left here c.in_ok-why.why c.in_ok-why.steps old.debugger.points old.path.stretches.items
          c.stretches.invariant.stands next c.in_ok-why.ensures.gone (ap beginning (sym c.stretches.invariant.program)) c.stretches.invariant.points (ap (λ (p : Path). p.stretches.items) c.stretches.invariant.path) c.stretches.invariant.count
          c.stretches.invariant.steps c.stretches.invariant.passed;
      why_is = stops_there c.stretches.self c.go_turn.new.self (beginning old.program) old.done c.args.limit c.stretches.taken c.stretches.left here c.in_ok-why.why c.in_ok-why.steps old.debugger.points old.path.stretches.items
          c.stretches.invariant.stands next c.in_ok-why.ensures.gone (ap beginning (sym c.stretches.invariant.program)) c.stretches.invariant.points (ap (λ (p : Path). p.stretches.items) c.stretches.invariant.path) c.stretches.invariant.count
          c.stretches.invariant.steps c.stretches.invariant.passed (c.stops.ensures.yes c.if-stops.true);
      ends = λ none. absurd (none-some c.in_ok-why.why (sym none));
      last_is = last_after old c.stretches.self here c.stretches.taken c.in_ok-why.steps c.stretches.last c.last_of-last.result next c.in_ok-why.ensures.few (ap (λ (p : Path). p.stretches.items) c.stretches.invariant.path) count c.stretches.invariant.last
          c.last_of-last.ensures.some c.last_of-last.ensures.none;
    }

pub returns-clause-gone : goal.returns-clause-gone
returns-clause-gone c =
    let n = c.stretches.stretch-index in
    let items = c.as_slice-stretch-items.result.now in
    let old = c.args.self.now in
    let now = c.stretches.self in
    let count = c.stretches.invariant.count in
    let done = c.stretches.invariant.done in
    let stop = c.stretches-test.false in
    let within = c.requires.stands.within in
    let counted = c.requires.stands.counted in
    let are : items ≡ part_of old.path.stretches.items old.done (old.path.total - old.done) =
    c.as_slice-stretch-items.ensures.value ∙ c.in_ok-ahead.ensures ∙ ap (λ (l : List Stretch). part_of l old.done (old.path.total - old.done)) c.as_slice-path.ensures.value in
    let all : c.stretches.taken ≡ steps_of items = count_all items n c.stretches.taken (omega (arith, stop)) (omega (arith, count, done)) in
    let size : steps_of items ≡ old.path.total - old.done = ap steps_of are ∙ steps_part old.path.stretches.items old.done (old.path.total - old.done) (omega (arith, within, counted)) in
    record {
      done_is = count;
      points_are = c.stretches.invariant.points;
      before = c.stretches.invariant.passed.before;
      why_is = at_end_of old.debugger.points old.path.stretches.items (beginning old.program) (place_of now.debugger) old.done c.args.limit c.stretches.taken c.stretches.left c.stretches.invariant.passed
          (led_by old now c.stretches.taken c.stretches.invariant.stands c.stretches.invariant.path c.stretches.invariant.program count) (omega (arith, all, size, within, counted)) c.stretches.invariant.steps
          ∙ sym c.why_at_end-why.ensures;
      ends = λ none. omega (arith, count, all, size, within);
      last_is = c.stretches.invariant.last;
    }
