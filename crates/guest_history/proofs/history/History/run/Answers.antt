use Rattle.std.proofs.Common.{◌≡◌, ◌∙◌, ◌+◌, ◌≤◌, Some, ap, sym, subst, refl, arith}
use Rattle.flat_machine.specs.Process.{Process}
use Rattle.debug_core.specs.Debugging.{DebuggerValue}
use Rattle.debug_core.specs.Stops.{Stops}
use Rattle.debug_core.proofs.Passing.{last_of_none}
use Rattle.run_paths.specs.Paths.{hart_of}
use Rattle.guest_history.specs.Going.{lacks, shows}
use Rattle.guest_history.specs.Runs.{first_of, is_lone, TurnIs}
use Rattle.guest_history.specs.declared.history.History.{History}
use Rattle.guest_history.proofs.GoneOn.{next_rest}
use Rattle.guest_history.proofs.SameRuns.{same_keeps, same_then}
use Rattle.guest_history.proofs.InPieces.{last_on, none_passed, passes_further, still, stops_whole, turn_before, turn_further, HasPassed}
use Rattle.guest_history.proofs.history.History.run.Goals as goal

pub pieces-init : goal.pieces-init
pieces-init c =
    let debugger = c.args.self.now.debugger in
    record {
      stands = c.requires.stands;
      same = record { program_is = refl; recorded = refl; path_is = λ yes. refl };
      steps = omega arith;
      done = omega arith;
      points = refl;
      passed = none_passed debugger.points c.args.limit (hart_of c.args.whose debugger.turn) debugger.target (is_lone c.args.whose);
      last = λ by_turns. last_of_none (first_of c.args.whose debugger) ∙ ap (λ whose. Some (hart_of whose debugger.turn)) by_turns ∙ ap Some (sym c.turn-last.ensures.turn);
      turn = turn_before c.args.whose debugger;
    }

pub run_piece-requires-clause-next : goal.run_piece-requires-clause-next
run_piece-requires-clause-next c = λ recorded.
    let old = c.args.self.now in
    let inv = c.pieces.invariant in
    let first = sym inv.same.recorded ∙ recorded in
    let least = c.min-most.ensures in
    let steps = inv.steps in
    next_rest old.path c.pieces.self.path old.done c.pieces.self.done c.pieces.taken c.min-most.result c.args.limit c.args.whose (inv.same.path_is first) (c.requires.next first) inv.done (omega (arith, least, steps))

pub pieces-preserved : goal.pieces-preserved
pieces-preserved c =
    let old = c.args.self.now in
    let mid = c.pieces.self in
    let new = c.run_piece.new.self in
    let piece = c.in_ok-piece.piece in
    let runs = c.in_ok-piece.ensures.runs in
    let inv = c.pieces.invariant in
    let keeps = c.keep.ensures.keeps in
    let first = first_of c.args.whose old.debugger in
    let least = c.min-most.ensures in
    let steps = inv.steps in
    let within = runs.ran.within in
    let few : c.pieces.taken + c.min-most.result ≤ c.args.limit = omega (arith, least, steps) in
    let shown : c.keep.new.self.debugger ≡ new.debugger = ap (λ (h : History). h.debugger) keeps in
    let stops = subst (λ points. Stops shows lacks mid.debugger.target points c.min-most.result piece.why piece.steps (first_of c.args.whose mid.debugger) (hart_of c.args.whose new.debugger.turn) new.debugger.target) inv.points runs.ran.stops in
    let further = passes_further old.debugger.points c.args.limit c.pieces.taken c.min-most.result piece.steps (hart_of c.args.whose mid.debugger.turn) (hart_of c.args.whose new.debugger.turn) mid.debugger.target new.debugger.target old.debugger.target first
    piece.why inv.passed stops few (c.goes_on.ensures.yes c.if-not-goes_on.false).0 in
    let not_moved = still old.debugger.points c.args.limit c.pieces.taken c.min-most.result piece.steps (hart_of c.args.whose mid.debugger.turn) (hart_of c.args.whose new.debugger.turn) mid.debugger.target new.debugger.target old.debugger.target first
    piece.why inv.passed stops few in
    let done = ap (λ (h : History). h.done) keeps in
    let here = runs.done in
    let before = inv.done in
    record {
      stands = c.keep.ensures.stands;
      same = same_then old mid c.keep.new.self inv.same (same_then mid new c.keep.new.self c.in_ok-piece.ensures.same (same_keeps new c.keep.new.self keeps));
      steps = omega (arith, steps, within, least);
      done = omega (arith, done, here, before);
      points = ap (λ (d : DebuggerValue Process). d.points) shown ∙ runs.ran.points ∙ inv.points;
      passed = subst (λ (d : DebuggerValue Process). HasPassed old.debugger.points c.args.limit (c.pieces.taken + piece.steps) first (hart_of c.args.whose d.turn) d.target) (sym shown) further;
      last = last_on old.debugger.points c.args.limit c.pieces.taken piece.steps (hart_of c.args.whose mid.debugger.turn) mid.debugger.target first c.args.whose c.pieces.last piece.last c.last_hart-last.result inv.passed inv.last runs.ran.last
          c.last_hart-last.ensures.some c.last_hart-last.ensures.none;
      turn = subst (TurnIs c.args.whose (c.pieces.taken + piece.steps) old.debugger) (sym shown) (turn_further c.args.whose c.pieces.taken piece.steps old.debugger mid.debugger new.debugger inv.turn runs.ran.turn not_moved);
    }

pub returns-then-not-goes_on-clause-runs : goal.returns-then-not-goes_on-clause-runs
returns-then-not-goes_on-clause-runs c =
    let old = c.args.self.now in
    let mid = c.pieces.self in
    let new = c.run_piece.new.self in
    let piece = c.in_ok-piece.piece in
    let runs = c.in_ok-piece.ensures.runs in
    let inv = c.pieces.invariant in
    let keeps = c.keep.ensures.keeps in
    let first = first_of c.args.whose old.debugger in
    let least = c.min-most.ensures in
    let steps = inv.steps in
    let within = runs.ran.within in
    let few : c.pieces.taken + c.min-most.result ≤ c.args.limit = omega (arith, least, steps) in
    let shown : c.keep.new.self.debugger ≡ new.debugger = ap (λ (h : History). h.debugger) keeps in
    let stops = subst (λ points. Stops shows lacks mid.debugger.target points c.min-most.result piece.why piece.steps (first_of c.args.whose mid.debugger) (hart_of c.args.whose new.debugger.turn) new.debugger.target) inv.points runs.ran.stops in
    let whole = stops_whole old.debugger.points c.args.limit c.pieces.taken c.min-most.result piece.steps (hart_of c.args.whose mid.debugger.turn) (hart_of c.args.whose new.debugger.turn) mid.debugger.target new.debugger.target old.debugger.target first
    piece.why inv.passed stops few (λ limited. let none = c.goes_on.ensures.no c.if-not-goes_on.true limited in omega (arith, none, steps, within, least)) in
    let not_moved = still old.debugger.points c.args.limit c.pieces.taken c.min-most.result piece.steps (hart_of c.args.whose mid.debugger.turn) (hart_of c.args.whose new.debugger.turn) mid.debugger.target new.debugger.target old.debugger.target first
    piece.why inv.passed stops few in
    let done = ap (λ (h : History). h.done) keeps in
    let here = runs.done in
    let before = inv.done in
    record {
      ran = record {
        within = omega (arith, steps, within, least);
        stops = subst (λ (d : DebuggerValue Process). Stops shows lacks old.debugger.target old.debugger.points c.args.limit piece.why (c.pieces.taken + piece.steps) first (hart_of c.args.whose d.turn) d.target) (sym shown) whole;
        last = last_on old.debugger.points c.args.limit c.pieces.taken piece.steps (hart_of c.args.whose mid.debugger.turn) mid.debugger.target first c.args.whose c.pieces.last piece.last c.last_hart-last.result inv.passed inv.last runs.ran.last
            c.last_hart-last.ensures.some c.last_hart-last.ensures.none;
        turn = subst (TurnIs c.args.whose (c.pieces.taken + piece.steps) old.debugger) (sym shown) (turn_further c.args.whose c.pieces.taken piece.steps old.debugger mid.debugger new.debugger inv.turn runs.ran.turn not_moved);
        points = ap (λ (d : DebuggerValue Process). d.points) shown ∙ runs.ran.points ∙ inv.points;
      };
      done = omega (arith, done, here, before);
    }
