use Rattle.std.proofs.Common.{◌≡◌, ◌∙◌, ℕ, ◌-◌, ◌+◌, false, not, ap, arith, sym}
use Rattle.clock_policy.specs.ClockPro.{ClockState, admitted}
use Rattle.younger_policies.specs.ClockProPlay.{Play, is_full_refusal, placed, play_of}
use Rattle.younger_policies.proofs.PlayLaws.{placed_at_once, placed_more, placed_never, refused_same}
use Rattle.younger_policies.proofs.clock_pro.place.Goals as goal

pub turns-init : goal.turns-init
turns-init g c =
    let same : g.C.Clock.state c.enter.new.clock ≡ g.C.Clock.state c.args.clock.now = refused_same c.args.page _ _ c.in_ok-enter.field-0 c.in_ok-enter.ensures.full c.if-not-branch.false c.in_ok-enter.ensures.moved in record {
      full = ap (λ (s : ClockState). is_full_refusal (admitted c.args.page s).1) same ∙ sym c.in_ok-enter.ensures.full ∙ c.if-not-branch.false;
      left = ap (λ (n : ℕ). placed n c.args.page (play_of (g.C.Clock.state c.enter.new.clock) c.args.used.now)) (omega arith);
    }

pub returns-then-ask-clause-placed : goal.returns-then-ask-clause-placed
returns-then-ask-clause-placed g c =
    let before : Play = play_of (g.C.Clock.state c.turns.clock) c.turns.used in
    let after : Play = play_of (g.C.Clock.state c.ask.new.clock) c.ask.new.used in
    let room : is_full_refusal (admitted c.args.page (g.C.Clock.state c.ask.new.clock)).1 ≡ false = c.ask.ensures.room c.args.page c.turns.invariant.full ∙ ap not c.if-ask.true in
    let same : g.C.Clock.state c.enter.new.clock ≡ g.C.Clock.state c.args.clock.now = refused_same c.args.page _ _ c.in_ok-enter.field-0 c.in_ok-enter.ensures.full c.if-not-branch.false c.in_ok-enter.ensures.moved in
    ap (λ (s : ClockState). play_of s c.ask.new.used) c.in_ok-enter-2.ensures.moved
    ∙ sym (placed_at_once (c.args.turns - (c.turns._turn + 1)) c.args.page after room)
    ∙ placed_more c.args.turns c.turns._turn c.args.page before after c.turns-test.true c.turns.invariant.full c.ask.ensures.moved
    ∙ c.turns.invariant.left
    ∙ ap (λ (s : ClockState). placed c.args.turns c.args.page (play_of s c.args.used.now)) same

pub turns-preserved : goal.turns-preserved
turns-preserved g c =
    let before : Play = play_of (g.C.Clock.state c.turns.clock) c.turns.used in
    let after : Play = play_of (g.C.Clock.state c.ask.new.clock) c.ask.new.used in record {
      full = c.ask.ensures.room c.args.page c.turns.invariant.full ∙ ap not c.if-ask.false;
      left = placed_more c.args.turns c.turns._turn c.args.page before after c.turns-test.true c.turns.invariant.full c.ask.ensures.moved ∙ c.turns.invariant.left;
    }

pub returns-clause-placed : goal.returns-clause-placed
returns-clause-placed g c =
    let before : Play = play_of (g.C.Clock.state c.turns.clock) c.turns.used in
    let none : c.args.turns - c.turns._turn ≡ 0 = omega arith in
    let same : g.C.Clock.state c.enter.new.clock ≡ g.C.Clock.state c.args.clock.now = refused_same c.args.page _ _ c.in_ok-enter.field-0 c.in_ok-enter.ensures.full c.if-not-branch.false c.in_ok-enter.ensures.moved in
    sym (placed_never c.args.page before c.turns.invariant.full)
    ∙ ap (λ (n : ℕ). placed n c.args.page before) (sym none)
    ∙ c.turns.invariant.left
    ∙ ap (λ (s : ClockState). placed c.args.turns c.args.page (play_of s c.args.used.now)) same
