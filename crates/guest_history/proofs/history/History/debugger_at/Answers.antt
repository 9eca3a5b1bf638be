use Rattle.std.proofs.Common.{◌∙◌, ap, sym, List, ◌-◌}
use Rattle.run_paths.specs.declared.path.Stretch.{Stretch}
use Rattle.run_paths.specs.Paths.{along, whose_at}
use Rattle.guest_history.specs.Checkpoints.{beginning}
use Rattle.guest_history.specs.Histories.{place_of}
use Rattle.guest_history.proofs.Standing.{led_first, led_one}
use Rattle.guest_history.proofs.history.History.debugger_at.Goals as goal

pub returns-then-step-eq0-clause-led : goal.returns-then-step-eq0-clause-led
returns-then-step-eq0-clause-led c =
    ap (λ n. along c.args.self.now.path.stretches.items n (beginning c.args.self.now.program)) c.if-step-eq0.true
    ∙ led_first c.args.self.now.path.stretches.items c.args.self.now.program c.in_ok-begin.field-0 (place_of c.new.result) c.in_ok-begin.ensures (ap place_of c.new.ensures)

pub returns-clause-led : goal.returns-clause-led
returns-clause-led c =
    led_one c.args.self.now.path.stretches.items c.args.step c.in-Some.whose (beginning c.args.self.now.program) c.in_ok-place.place (place_of c.in_ok-debugger.debugger) c.if-step-eq0.false c.in_ok-place.ensures.led
    (sym c.in-Some.is ∙ c.whose_at.ensures ∙ ap (λ (l : List Stretch). whose_at l (c.args.step - 1)) c.as_slice.ensures.value) c.in_ok-debugger.ensures.led
