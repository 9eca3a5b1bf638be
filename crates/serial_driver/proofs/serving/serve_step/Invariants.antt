use Rattle.std.proofs.Common.{◌≡◌, ℕ, ◌+◌, ◌-◌, ◌*◌, ◌^◌, None, true}
use Rattle.serial_driver.specs.Limit.{PlaysWith}
use Rattle.serial_driver.specs.Patience.{tries_per_frame}
use Rattle.serial_driver.specs.Serving.{owes_pages, serving, BringsIn, IsServing}
use Rattle.serial_driver.specs.TurnsDuty.{duty_of, stage_owes, turn_of}
use Rattle.serial_driver.proofs.serving.serve_step.Given as goal

-- pages were brought in so far by the events of a run, and nothing else was done
abbrev pub invariant-events : goal.invariant-events
invariant-events g l = record {
  brings : BringsIn g.S.SwapSlot.content g.S.SwapSlot.honest g.S.SwapSlot.failures l.process l.hart l.initial.core l.core;
  own : IsServing l.process l.hart (turn_of l.turns);
  owes : owes_pages (stage_owes l.turns.stage) ≡ true;
  plays : (count : ℕ) × ((count + l.left ≡ 2 ^ 64 - 1)
      × PlaysWith g.S.SwapSlot.content g.S.SwapSlot.honest g.S.SwapSlot.failures (tries_per_frame * l.initial.core.pager.pager.size) (λ _. 0) (serving l.process l.hart) None count l.initial.core l.core l.patience (duty_of l.turns));
}

abbrev pub decreases-events : goal.decreases-events
decreases-events g l = l.left
