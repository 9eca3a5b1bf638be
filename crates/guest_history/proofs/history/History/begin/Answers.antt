use Rattle.std.proofs.Common.{All, arith, refl, ap, subst, sym}
use Rattle.std.proofs.lemmas.List.Elements.{All-nil}
use Rattle.guest_history.specs.Checkpoints.{IsKept}
use Rattle.guest_history.specs.Histories.{place_of}
use Rattle.debug_core.proofs.Points.{no_points}
use Rattle.guest_history.proofs.Standing.{led_first}
use Rattle.guest_history.proofs.history.History.begin.Goals as goal

pub returns : goal.returns
returns c = record {
  begins = record {
    stands = record {
      counted = c.requires.counted;
      within = omega arith;
      led = led_first c.args.path.stretches.items c.args.program c.in_ok-begin.field-0 (place_of c.new-debugger.result) c.in_ok-begin.ensures (ap place_of c.new-debugger.ensures);
      points = ap (λ debugger. debugger.points) c.new-debugger.ensures;
      ranged = no_points;
      kept = record { copies = subst (All (IsKept c.args.program c.args.path.stretches.items c.args.path.total)) (sym c.new.ensures.none) (All-nil (IsKept c.args.program c.args.path.stretches.items c.args.path.total)); spaced = c.new.ensures.spaced };
    };
    program_is = refl;
    path_is = refl;
    recorded = refl;
    none = refl;
  };
  refused = tt;
}
