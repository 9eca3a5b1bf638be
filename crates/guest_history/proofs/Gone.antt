-- What a debugger has done that has gone on.
use Rattle.std.proofs.Common.{◌≡◌, ℕ, ◌+◌, inr, ◌<◌, ◌≤◌, ◌-◌, false, Some, min, arith, refl, sym, ap, subst, ◌∙◌}
use Rattle.flat_machine.specs.Process.{Process}
use Rattle.debug_core.specs.Debugging.{DebuggerValue, first_moment, lone_moment, turn_left}
use Rattle.debug_core.specs.Stops.{last_hart, Stops}
use Rattle.debug_core.specs.declared.point.Why.{Why}
use Rattle.guest_history.specs.Going.{lacks, shows, within_count, GoesAlone, GoesTurn, HasGone}
use Rattle.guest_history.specs.Histories.{IsNext}
use Rattle.run_paths.specs.declared.path.Stretch.{Stretch}
use Rattle.run_paths.specs.declared.path.Whose.TheVariants.{Hart}
use Rattle.guest_history.specs.declared.history.History.{History}

pub by_turns : (limit most : ℕ) (old new : History) (debugger : DebuggerValue Process) (why : Why) (steps last : ℕ) → old.is_recorded ≡ false → most ≡ within_count limit old
    → Stops shows lacks old.debugger.target old.debugger.points most why steps (first_moment old.debugger.target old.debugger.turn) debugger.turn debugger.target → last_hart steps (first_moment old.debugger.target old.debugger.turn) ≡ Some last
    → new.debugger ≡ debugger → new.done ≡ old.done + steps → debugger.points ≡ old.debugger.points → HasGone limit old (record { why = Some why; last = last; steps = steps }) new
by_turns limit most old new debugger why steps last is most_is stops last_is shown done points = inr (
  is,
  record {
    why = why;
    why_is = refl;
    stops = subst (λ (d : DebuggerValue Process). Stops shows lacks old.debugger.target old.debugger.points (within_count limit old) why steps (first_moment old.debugger.target old.debugger.turn) d.turn d.target) (sym shown)
        (subst (λ n. Stops shows lacks old.debugger.target old.debugger.points n why steps (first_moment old.debugger.target old.debugger.turn) debugger.turn debugger.target) most_is stops);
    last = last_is;
    done_is = done;
    points_are = ap (λ (d : DebuggerValue Process). d.points) shown ∙ points;
  },
)

pub alone : (hart limit most : ℕ) (old new : History) (debugger : DebuggerValue Process) (why : Why) (steps : ℕ) → most ≡ within_count limit old
    → Stops shows lacks old.debugger.target old.debugger.points most why steps (lone_moment old.debugger.target hart) hart debugger.target → debugger.turn ≡ turn_left steps hart old.debugger.turn debugger.target
    → new.debugger ≡ debugger → new.done ≡ old.done + steps → debugger.points ≡ old.debugger.points → GoesAlone hart limit old (record { why = Some why; last = hart; steps = steps }) new
alone hart limit most old new debugger why steps most_is stops turn shown done points = record {
  why = why;
  why_is = refl;
  stops = subst (λ (d : DebuggerValue Process). Stops shows lacks old.debugger.target old.debugger.points (within_count limit old) why steps (lone_moment old.debugger.target hart) hart d.target) (sym shown)
      (subst (λ n. Stops shows lacks old.debugger.target old.debugger.points n why steps (lone_moment old.debugger.target hart) hart debugger.target) most_is stops);
  turn_is = subst (λ (d : DebuggerValue Process). d.turn ≡ turn_left steps hart old.debugger.turn d.target) (sym shown) turn;
  last_is = refl;
  done_is = done;
  points_are = ap (λ (d : DebuggerValue Process). d.points) shown ∙ points;
}

-- the least of three numbers
least_first : (a b c m : ℕ) → m ≡ min (min a b) c → m ≤ a
least_first a b c m is = grind (arith, is)

least_second : (a b c m : ℕ) → m ≡ min (min a b) c → m ≤ b
least_second a b c m is = grind (arith, is)

least_is : (a b c m : ℕ) → m ≡ min (min a b) c → b ≤ c → m < b → m ≡ a
least_is a b c m is more less = grind (arith, is, more, less)

room_for : (done count total : ℕ) → done + count ≤ total → count ≤ total - done
room_for done count total within = omega (arith, within)

pub turn_gone : (old new : History) (stretch : Stretch) (limit hart most : ℕ) (why : Why) (steps : ℕ) → IsNext old.path old.done stretch → stretch.whose ≡ Hart hart → most ≡ min (min limit stretch.count) (old.path.total - old.done)
    → Stops shows lacks old.debugger.target old.debugger.points most why steps (lone_moment old.debugger.target hart) hart new.debugger.target → GoesTurn stretch limit old why steps new
turn_gone old new stretch limit hart most why steps next whose is stops = record {
  hart = hart;
  whose_is = whose;
  most = most;
  within = least_first limit stretch.count (old.path.total - old.done) most is;
  few = least_second limit stretch.count (old.path.total - old.done) most is;
  all = least_is limit stretch.count (old.path.total - old.done) most is (room_for old.done stretch.count old.path.total next.within);
  stops = stops;
}
