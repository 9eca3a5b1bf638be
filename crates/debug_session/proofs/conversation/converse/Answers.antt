-- Each line that was passed was answered; how the conversation ends is told by what was read, or by the turn that was taken.
use Rattle.std.proofs.Common.{◌≡◌, ℕ, ◌+◌, List, Ok, Err, false, true, refl, rules, subst, sym}
use Rattle.debug_session.specs.Conversation.{HasConversed, IsAnswered, TakesTurn}
use Rattle.debug_session.specs.InputLines.{BeginsTooLong, TakesLine, known_bytes}
use Rattle.debug_session.specs.declared.conversation.SessionFault.TheVariants.{BadLine, NoMemory}
use Rattle.debug_session.specs.declared.turn.Turn.TheVariants.{Bad, GoesOn, Quits}
use Rattle.debug_session.proofs.Passed.{appends_nothing, at_bad, at_cannot_read, at_end, at_long, at_no_memory, at_quit, begins, breaks_off, passes, stops}
use Rattle.debug_session.proofs.conversation.converse.Goals as goal

pub returns-in_default : goal.returns-in_default
returns-in_default g c =
    let input = g.I.Read.remaining c.args.input in
    let written = g.O.Write.contents c.args.out.now in
    let start = begins c.args.dialect g.T.Target.shown g.T.Target.limits input input c.args.debugger.now written refl in
    stops c.args.dialect g.T.Target.shown g.T.Target.limits (Err NoMemory) input input c.args.debugger.now c.args.debugger.now written written written 0 start start.appended
    (at_no_memory c.args.dialect input 0)

pub lines-init : goal.lines-init
lines-init g c = begins c.args.dialect g.T.Target.shown g.T.Target.limits _ _ c.args.debugger.now _ (search rules)

pub returns-in-Ok-false : goal.returns-in-Ok-false
returns-in-Ok-false g c =
    let known = known_bytes g.I.Read.remaining c.lines.lines in
    let rest = known_bytes g.I.Read.remaining c.read_line.new.self in
    let none : TakesLine known false c.read_line.new.line.items rest = search rules in
    stops c.args.dialect g.T.Target.shown g.T.Target.limits (Ok tt) _ known c.args.debugger.now c.lines.debugger _ _ _ c.lines.above c.lines.invariant c.lines.invariant.appended
    (at_end c.args.dialect known rest c.read_line.new.line.items c.lines.above tt none)

pub returns-in-Err-TooLong : goal.returns-in-Err-TooLong
returns-in-Err-TooLong g c =
    let known = known_bytes g.I.Read.remaining c.lines.lines in
    let long : BeginsTooLong known = search rules in
    stops c.args.dialect g.T.Target.shown g.T.Target.limits _ _ known c.args.debugger.now c.lines.debugger _ _ _ c.lines.above c.lines.invariant c.lines.invariant.appended
    (at_long c.args.dialect known c.lines.above long)

pub returns-in-Err-NoMemory : goal.returns-in-Err-NoMemory
returns-in-Err-NoMemory g c =
    let known = known_bytes g.I.Read.remaining c.lines.lines in
    stops c.args.dialect g.T.Target.shown g.T.Target.limits _ _ known c.args.debugger.now c.lines.debugger _ _ _ c.lines.above c.lines.invariant c.lines.invariant.appended
    (at_no_memory c.args.dialect known c.lines.above)

pub returns-in-Err-CannotRead : goal.returns-in-Err-CannotRead
returns-in-Err-CannotRead g c =
    let known = known_bytes g.I.Read.remaining c.lines.lines in
    stops c.args.dialect g.T.Target.shown g.T.Target.limits _ _ known c.args.debugger.now c.lines.debugger _ _ _ c.lines.above c.lines.invariant c.lines.invariant.appended
    (at_cannot_read c.args.dialect known c.lines.above)

pub returns-in-Ok-Quits : goal.returns-in-Ok-Quits
returns-in-Ok-Quits g c =
    let known = known_bytes g.I.Read.remaining c.lines.lines in
    let rest = known_bytes g.I.Read.remaining c.read_line.new.self in
    let taken : TakesLine known true c.read_line.new.line.items rest = search rules in
    let same : c.read_line.new.line.items ≡ c.as_slice.result.now = search rules in
    let one : TakesLine known true c.as_slice.result.now rest = subst (λ l. TakesLine known true l rest) same taken in
    let turn : TakesTurn c.args.dialect g.T.Target.shown g.T.Target.limits Quits c.as_slice.result.now c.lines.debugger (g.O.Write.contents c.lines.out) c.take_turn.new.debugger (g.O.Write.contents c.take_turn.new.out) = search rules in
    subst (λ d. HasConversed c.args.dialect g.T.Target.shown g.T.Target.limits (Ok tt) (g.I.Read.remaining c.args.input) c.args.debugger.now (g.O.Write.contents c.args.out.now) d (g.O.Write.contents c.take_turn.new.out)) (sym turn.1)
    (stops c.args.dialect g.T.Target.shown g.T.Target.limits (Ok tt) _ known c.args.debugger.now c.lines.debugger _ _ _ c.lines.above c.lines.invariant
    (appends_nothing _ _ _ c.lines.invariant.told c.lines.invariant.appended turn.2)
    (at_quit c.args.dialect known rest c.as_slice.result.now c.lines.above tt one turn.0))

pub returns-in-Ok-Bad : goal.returns-in-Ok-Bad
returns-in-Ok-Bad g c =
    let known = known_bytes g.I.Read.remaining c.lines.lines in
    let rest = known_bytes g.I.Read.remaining c.read_line.new.self in
    let taken : TakesLine known true c.read_line.new.line.items rest = search rules in
    let same : c.read_line.new.line.items ≡ c.as_slice.result.now = search rules in
    let one : TakesLine known true c.as_slice.result.now rest = subst (λ l. TakesLine known true l rest) same taken in
    let turn : TakesTurn c.args.dialect g.T.Target.shown g.T.Target.limits Bad c.as_slice.result.now c.lines.debugger (g.O.Write.contents c.lines.out) c.take_turn.new.debugger (g.O.Write.contents c.take_turn.new.out) = search rules in
    subst (λ d. HasConversed c.args.dialect g.T.Target.shown g.T.Target.limits (Err (BadLine (c.lines.above + 1))) (g.I.Read.remaining c.args.input) c.args.debugger.now (g.O.Write.contents c.args.out.now) d (g.O.Write.contents c.take_turn.new.out)) (sym turn.1)
    (stops c.args.dialect g.T.Target.shown g.T.Target.limits (Err (BadLine (c.lines.above + 1))) _ known c.args.debugger.now c.lines.debugger _ _ _ c.lines.above c.lines.invariant
    (appends_nothing _ _ _ c.lines.invariant.told c.lines.invariant.appended turn.2)
    (at_bad c.args.dialect known rest c.as_slice.result.now c.lines.above one turn.0))

pub returns-in-Err : goal.returns-in-Err
returns-in-Err g c =
    let known = known_bytes g.I.Read.remaining c.lines.lines in
    let rest = known_bytes g.I.Read.remaining c.read_line.new.self in
    let taken : TakesLine known true c.read_line.new.line.items rest = search rules in
    let same : c.read_line.new.line.items ≡ c.as_slice.result.now = search rules in
    let one : TakesLine known true c.as_slice.result.now rest = subst (λ l. TakesLine known true l rest) same taken in
    let said : (told : List ℕ) × IsAnswered c.args.dialect g.T.Target.shown g.T.Target.limits c.as_slice.result.now c.lines.debugger told c.take_turn.new.debugger = search rules in
    breaks_off c.args.dialect g.T.Target.shown g.T.Target.limits _ known rest c.args.debugger.now c.lines.debugger c.take_turn.new.debugger _ _ _ c.lines.above c.as_slice.result.now said.0 c.lines.invariant one said.1

pub lines-preserved : goal.lines-preserved
lines-preserved g c =
    let known = known_bytes g.I.Read.remaining c.lines.lines in
    let rest = known_bytes g.I.Read.remaining c.read_line.new.self in
    let taken : TakesLine known true c.read_line.new.line.items rest = search rules in
    let same : c.read_line.new.line.items ≡ c.as_slice.result.now = search rules in
    let one : TakesLine known true c.as_slice.result.now rest = subst (λ l. TakesLine known true l rest) same taken in
    let turn : TakesTurn c.args.dialect g.T.Target.shown g.T.Target.limits GoesOn c.as_slice.result.now c.lines.debugger (g.O.Write.contents c.lines.out) c.take_turn.new.debugger (g.O.Write.contents c.take_turn.new.out) = search rules in
    passes c.args.dialect g.T.Target.shown g.T.Target.limits _ known rest c.args.debugger.now c.lines.debugger c.take_turn.new.debugger _ _ _ c.lines.above c.as_slice.result.now turn.0 c.lines.invariant one turn.1 turn.2

pub returns : goal.returns
returns g c =
    let known = known_bytes g.I.Read.remaining c.lines.lines in
    stops c.args.dialect g.T.Target.shown g.T.Target.limits _ _ known c.args.debugger.now c.lines.debugger _ _ _ c.lines.above c.lines.invariant c.lines.invariant.appended
    (at_cannot_read c.args.dialect known c.lines.above)
