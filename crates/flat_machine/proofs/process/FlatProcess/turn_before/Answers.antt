use Rattle.std.proofs.Common.{Some, ap, ◌∙◌, sym, subst, arith}
use Rattle.flat_machine.specs.Process.{IsWhole}
use Rattle.flat_machine.proofs.TurnBefore.{one_before, none_is}
use Rattle.flat_machine.proofs.process.FlatProcess.turn_before.Goals as goal

pub returns-then-turn_after-turn-clause-only : goal.returns-then-turn_after-turn-clause-only
returns-then-turn_after-turn-clause-only c hart lives is =
    ap Some
    (one_before c.harts.hart hart c.args.turn c.args.self.now (subst IsWhole c.self.view_is c.self.invariant.whole) (sym c.is_live.ensures ∙ c.if-is_live.true)
    (sym c.turn_after.ensures.turn ∙ c.if-turn_after-turn.true) lives is)

pub returns-clause-only : goal.returns-clause-only
returns-clause-only c hart lives is =
    absurd
    (none_is hart c.args.turn c.args.self.now (subst IsWhole c.self.view_is c.self.invariant.whole) (λ below small. c.harts.invariant below (omega (arith, c.harts-test.false, small))) lives is)
