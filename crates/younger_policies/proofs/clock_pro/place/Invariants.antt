use Rattle.std.proofs.Common.{◌≡◌, ◌-◌, true}
use Rattle.clock_policy.specs.ClockPro.{admitted}
use Rattle.younger_policies.specs.ClockProPlay.{is_full_refusal, placed, play_of}
use Rattle.younger_policies.proofs.clock_pro.place.Given as goal

-- No answer made room, so that the page would still be refused.
abbrev pub invariant-turns : goal.invariant-turns
invariant-turns g l = record {
  full : is_full_refusal (admitted l.page (g.C.Clock.state l.clock)).1 ≡ true;
  left : placed (l.turns - l._turn) l.page (play_of (g.C.Clock.state l.clock) l.used) ≡ placed l.turns l.page (play_of (g.C.Clock.state l.initial.clock) l.initial.used);
}
