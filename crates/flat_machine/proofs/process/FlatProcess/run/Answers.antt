use Rattle.std.proofs.Common.{◌+◌, arith, refl, ap, sym, ◌∙◌, slice_index_or, subst}
use Rattle.std.proofs.lemmas.List.{get_or_default}
use Rattle.flat_machine.specs.declared.schedule.Turn.{Turn}
use Rattle.flat_machine.specs.Schedule.{written_out}
use Rattle.flat_machine.specs.Refusals.{StopsAt}
use Rattle.flat_machine.proofs.RunLaws.{flat_run_none}
use Rattle.flat_machine.proofs.Runs.{one_more_turn, length_more, turns_split, stops_within}
use Rattle.flat_machine.proofs.process.FlatProcess.run.Goals as goal

pub loop-turn-init : goal.loop-turn-init
loop-turn-init c = record { ran = flat_run_none c.args.self.now; counted = refl; bounded = omega arith }

pub returns-in-Err-clause-refused : goal.returns-in-Err-clause-refused
returns-in-Err-clause-refused c =
    let turn : Turn = slice_index_or c.turns-turn-items.result.now c.loop-turn.turn-index (record { hart = 0; count = 0 }) in
    let at = get_or_default c.turns-turn-items.result.now c.loop-turn.turn-index (record { hart = 0; count = 0 }) turn c.loop-turn-test.true in
    let stop = c.in-Err.ensures.refused in
    let whole = ap written_out (sym c.turns-turn-items.ensures.turns) ∙ turns_split c.turns-turn-items.result.now c.loop-turn.turn-index turn c.loop-turn-test.true at in
    subst (λ n. StopsAt (written_out c.args.schedule.now) c.args.self.now c.in-Err.refusal (c.loop-turn.before + n) c.repeat.new.self) (sym c.from.ensures)
    (subst (λ l. StopsAt l c.args.self.now c.in-Err.refusal (c.loop-turn.before + c.in-Err.done) c.repeat.new.self) (sym whole)
    (stops_within _ _ turn.hart turn.count c.in-Err.done c.loop-turn.before c.in-Err.refusal c.args.self.now c.loop-turn.self c.repeat.new.self stop.0 c.loop-turn.invariant.counted c.loop-turn.invariant.ran stop.1 stop.2))

pub loop-turn-preserved : goal.loop-turn-preserved
loop-turn-preserved c =
    let turn : Turn = slice_index_or c.turns-turn-items.result.now c.loop-turn.turn-index (record { hart = 0; count = 0 }) in
    let at = get_or_default c.turns-turn-items.result.now c.loop-turn.turn-index (record { hart = 0; count = 0 }) turn c.loop-turn-test.true in
    record {
      ran = one_more_turn c.turns-turn-items.result.now c.loop-turn.turn-index turn c.args.self.now c.loop-turn.self c.repeat.new.self c.loop-turn-test.true at c.loop-turn.invariant.ran c.in_default.ensures.ok;
      counted = (let more = length_more c.turns-turn-items.result.now c.loop-turn.turn-index turn c.loop-turn-test.true at in let counted = c.loop-turn.invariant.counted in let added = c.from-before.ensures in omega arith);
      bounded = (let before = c.loop-turn.invariant.bounded in let small = (rw (← c.turns-turn-items.ensures.turns) at c.turns-turn-items.ensures.joined.small) c.loop-turn.turn-index (record { hart = 0; count = 0 }) c.loop-turn-test.true in let added = c.from-before.ensures in omega arith);
    }
