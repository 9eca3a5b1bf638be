use Rattle.std.proofs.Common.{◌≡◌, ◌+◌, ◌*◌, ◌≤◌, drop}
use Rattle.clock_policy.specs.Bound.{answers_left, run_state, run_victim}
use Rattle.clock_policy.specs.Lawful.{Lawful}
use Rattle.clock_policy.proofs.run.first_victim.Given as goal

-- the bits that are left go on from here, and each answer that came is off the bound
abbrev pub invariant-loop-bit : goal.invariant-loop-bit
invariant-loop-bit g l =
    let start = g.C.Clock.state l.initial.clock in
    let now = g.C.Clock.state l.clock in
    record {
      moved : run_state (drop l.bit-index l.bits) now ≡ run_state l.bits start;
      victim : run_victim (drop l.bit-index l.bits) now ≡ run_victim l.bits start;
      lawful : Lawful now;
      fewer : answers_left now + l.bit-index ≤ 5 * start.frames;
    }
