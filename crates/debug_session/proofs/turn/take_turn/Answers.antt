use Rattle.std.proofs.Common.{◌++◌, ◌∷◌, [], Some, inr, refl, rules}
use Rattle.debug_session.specs.Answers.{Answers}
use Rattle.debug_session.specs.Lines.{AsksFor}
use Rattle.debug_session.specs.ReplyText.{reply_text}
use Rattle.debug_session.proofs.turn.take_turn.Goals as goal

pub returns-clause-err : goal.returns-clause-err
returns-clause-err g c =
    let asks : AsksFor c.args.dialect c.in-Some.asked c.args.line.now = search rules in
    let answers : Answers g.T.Target.shown g.T.Target.limits c.in-Some.asked c.args.debugger.now (Some c.in-Some-answer.reply) c.answer.new.debugger = search rules in
    (reply_text c.in-Some-answer.reply ++ 10 ∷ [], inr (c.in-Some.asked, (c.in-Some-answer.reply, asks, answers, refl)))
