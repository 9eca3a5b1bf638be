use Rattle.std.proofs.Common.{sym, subst, List}
use Rattle.flat_machine.specs.declared.schedule.Turn.{Turn}
use Rattle.text_lines.specs.Text.{lines_of}
use Rattle.run_records.proofs.Turning.{ReadsTurns, no_turn, one_read}
use Rattle.run_records.proofs.reading.read_turns.Goals as goal

pub returns-in_default-turn_in-clause-turns : goal.returns-in_default-turn_in-clause-turns
returns-in_default-turn_in-clause-turns c =
    (no_turn (lines_of c.args.text.now) c.lines.turns.items (lines_of c.lines.rest.now) (lines_of c.in-Some.later.now) c.in-Some.line.now c.in-Some.ensures.lines (sym c.in_default-turn_in.ensures) c.lines.invariant).0

pub returns-in_default-turn_in-clause-rest : goal.returns-in_default-turn_in-clause-rest
returns-in_default-turn_in-clause-rest c =
    (no_turn (lines_of c.args.text.now) c.lines.turns.items (lines_of c.lines.rest.now) (lines_of c.in-Some.later.now) c.in-Some.line.now c.in-Some.ensures.lines (sym c.in_default-turn_in.ensures) c.lines.invariant).1

pub lines-preserved : goal.lines-preserved
lines-preserved c =
    subst (λ (l : List Turn). ReadsTurns (lines_of c.args.text.now) l (lines_of c.in-Some.later.now)) (sym c.in_ok-add.ensures.added)
    (one_read (lines_of c.args.text.now) c.lines.turns.items (lines_of c.lines.rest.now) (lines_of c.in-Some.later.now) c.in-Some.line.now c.in-Some-turn_in.turn c.in-Some.ensures.lines (sym c.in-Some-turn_in.ensures) c.lines.invariant)
