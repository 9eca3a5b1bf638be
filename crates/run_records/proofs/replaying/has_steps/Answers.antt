use Rattle.std.proofs.Common.{arith, slice_index_or}
use Rattle.std.proofs.lemmas.List.{get_or_default}
use Rattle.flat_machine.specs.declared.schedule.Turn.{Turn}
use Rattle.run_records.proofs.Counting.{too_many}
use Rattle.run_records.proofs.replaying.has_steps.Goals as goal

pub returns-then-left-count : goal.returns-then-left-count
returns-then-left-count c =
    let less = c.if-left-count.true in
    let is = c.from-count.ensures in
    too_many c.args.turns.now c.turns.turn-index (slice_index_or c.args.turns.now c.turns.turn-index none) c.turns.left c.args.steps c.turns-test.true
    (get_or_default c.args.turns.now c.turns.turn-index none (slice_index_or c.args.turns.now c.turns.turn-index none) c.turns-test.true) c.turns.invariant (omega (arith, less, is))
  where
    none : Turn
    none = record { hart = 0; count = 0 }
