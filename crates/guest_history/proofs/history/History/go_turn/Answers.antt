use Rattle.std.proofs.Common.{arith}
use Rattle.run_paths.specs.declared.path.Whose.TheVariants.{Hart}
use Rattle.guest_history.proofs.GoneOn.{next_some}
use Rattle.guest_history.proofs.history.History.go_turn.Goals as goal

pub run-requires-clause-next : goal.run-requires-clause-next
run-requires-clause-next c = λ recorded.
    let one = c.min.ensures in
    let other = c.min-most.ensures in
    next_some c.args.self.now.path c.args.self.now.done c.min-most.result c.args.stretch (Hart c.in-Hart.hart) c.requires.next c.in-Hart.is (omega (arith, one, other))
