-- Each line that was passed was answered; how the conversation ends is told by what was read, or by the turn that was taken.
use Rattle.std.proofs.Common.{◌≡◌, ◌+◌, Ok, Err, false, true, refl, rules, subst}
use Rattle.std.specs.Io.Buffered.{reader_remaining}
use Rattle.debug_session.specs.InputLines.{TakesLine}
use Rattle.debug_session.proofs.Passed.{appends_nothing}
use Rattle.guest_history.specs.Conversation.{TakesTurn}
use Rattle.guest_history.specs.declared.fault.HistoryFault.TheVariants.{BadLine, CannotRead, Run}
use Rattle.guest_history.specs.declared.turn.Turn.TheVariants.{Bad, GoesOn, Quits}
use Rattle.run_paths.specs.declared.fault.RunFault.TheVariants.{NoMemory}
use Rattle.guest_history.proofs.SameRuns.{same_path, same_then}
use Rattle.guest_history.proofs.Conversed.{at_bad, at_cannot_read, at_end, at_quit, begins, breaks_off, passes, stops}
use Rattle.guest_history.proofs.conversation.converse_back.Goals as goal

pub returns-in_default-clause-conversed : goal.returns-in_default-clause-conversed
returns-in_default-clause-conversed g c =
    let input = g.I.Read.remaining c.args.input in
    let written = g.O.Write.contents c.args.out.now in
    let start = begins input input c.args.history.now written refl in
    breaks_off (Run NoMemory) input input c.args.history.now c.args.history.now c.args.history.now written written written 0 start tt

pub lines-init : goal.lines-init
lines-init g c = record {
  stands = c.requires.stands;
  same = same_path c.args.history.now c.args.history.now refl refl refl;
  passed = begins _ _ c.args.history.now _ (search rules);
}

pub returns-in-Ok-false-clause-conversed : goal.returns-in-Ok-false-clause-conversed
returns-in-Ok-false-clause-conversed g c =
    let known = reader_remaining g.I.Read.remaining c.lines.reader in
    let rest = reader_remaining g.I.Read.remaining c.read_line.new.input in
    let none : TakesLine known false c.read_line.new.line.items rest = search rules in
    stops (Ok tt) _ known c.args.history.now c.lines.history c.lines.history _ _ _ c.lines.above c.lines.invariant.passed refl c.lines.invariant.passed.appended
    (at_end known rest c.read_line.new.line.items c.lines.above tt none)

pub returns-in-Err-clause-conversed : goal.returns-in-Err-clause-conversed
returns-in-Err-clause-conversed g c =
    let known = reader_remaining g.I.Read.remaining c.lines.reader in
    stops (Err CannotRead) _ known c.args.history.now c.lines.history c.lines.history _ _ _ c.lines.above c.lines.invariant.passed refl c.lines.invariant.passed.appended
    (at_cannot_read known c.lines.above)

pub returns-in-Ok-Quits-clause-conversed : goal.returns-in-Ok-Quits-clause-conversed
returns-in-Ok-Quits-clause-conversed g c =
    let known = reader_remaining g.I.Read.remaining c.lines.reader in
    let rest = reader_remaining g.I.Read.remaining c.read_line.new.input in
    let taken : TakesLine known true c.read_line.new.line.items rest = search rules in
    let same : c.read_line.new.line.items ≡ c.as_slice.result.now = search rules in
    let one : TakesLine known true c.as_slice.result.now rest = subst (λ l. TakesLine known true l rest) same taken in
    let turn : TakesTurn Quits c.as_slice.result.now c.lines.history (g.O.Write.contents c.lines.out) c.take_turn.new.history (g.O.Write.contents c.take_turn.new.out) = search rules in
    stops (Ok tt) _ known c.args.history.now c.lines.history c.take_turn.new.history _ _ _ c.lines.above c.lines.invariant.passed turn.1
    (appends_nothing _ _ _ c.lines.invariant.passed.told c.lines.invariant.passed.appended turn.2)
    (at_quit known rest c.as_slice.result.now c.lines.above tt one turn.0)

pub returns-in-Ok-Bad-clause-conversed : goal.returns-in-Ok-Bad-clause-conversed
returns-in-Ok-Bad-clause-conversed g c =
    let known = reader_remaining g.I.Read.remaining c.lines.reader in
    let rest = reader_remaining g.I.Read.remaining c.read_line.new.input in
    let taken : TakesLine known true c.read_line.new.line.items rest = search rules in
    let same : c.read_line.new.line.items ≡ c.as_slice.result.now = search rules in
    let one : TakesLine known true c.as_slice.result.now rest = subst (λ l. TakesLine known true l rest) same taken in
    let turn : TakesTurn Bad c.as_slice.result.now c.lines.history (g.O.Write.contents c.lines.out) c.take_turn.new.history (g.O.Write.contents c.take_turn.new.out) = search rules in
    stops (Err (BadLine (c.lines.above + 1))) _ known c.args.history.now c.lines.history c.take_turn.new.history _ _ _ c.lines.above c.lines.invariant.passed turn.1
    (appends_nothing _ _ _ c.lines.invariant.passed.told c.lines.invariant.passed.appended turn.2)
    (at_bad known rest c.as_slice.result.now c.lines.above one turn.0)

pub returns-in-Err-take_turn-clause-conversed : goal.returns-in-Err-take_turn-clause-conversed
returns-in-Err-take_turn-clause-conversed g c =
    breaks_off c.in-Err-take_turn.fault _ (reader_remaining g.I.Read.remaining c.lines.reader) c.args.history.now c.lines.history c.take_turn.new.history _ _ _ c.lines.above c.lines.invariant.passed c.in-Err-take_turn.ensures.broken

pub lines-preserved : goal.lines-preserved
lines-preserved g c =
    let known = reader_remaining g.I.Read.remaining c.lines.reader in
    let rest = reader_remaining g.I.Read.remaining c.read_line.new.input in
    let taken : TakesLine known true c.read_line.new.line.items rest = search rules in
    let same : c.read_line.new.line.items ≡ c.as_slice.result.now = search rules in
    let one : TakesLine known true c.as_slice.result.now rest = subst (λ l. TakesLine known true l rest) same taken in
    let turn : TakesTurn GoesOn c.as_slice.result.now c.lines.history (g.O.Write.contents c.lines.out) c.take_turn.new.history (g.O.Write.contents c.take_turn.new.out) = search rules in
    record {
      stands = search rules;
      same = same_then c.args.history.now c.lines.history c.take_turn.new.history c.lines.invariant.same (search rules);
      passed = passes _ known rest c.args.history.now c.lines.history c.take_turn.new.history _ _ _ c.lines.above c.as_slice.result.now turn.0 c.lines.invariant.passed one turn.1 turn.2;
    }

pub returns-clause-conversed : goal.returns-clause-conversed
returns-clause-conversed g c =
    let known = reader_remaining g.I.Read.remaining c.lines.reader in
    stops (Err CannotRead) _ known c.args.history.now c.lines.history c.lines.history _ _ _ c.lines.above c.lines.invariant.passed refl c.lines.invariant.passed.appended
    (at_cannot_read known c.lines.above)
