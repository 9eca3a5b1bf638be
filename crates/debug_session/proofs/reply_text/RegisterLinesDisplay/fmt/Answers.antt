use Rattle.std.proofs.Common.{◌++◌, ◌∙◌, ap, arith, codes, rules, sym}
use Rattle.std.proofs.Output.{has_written_append, has_written_of_eq}
use Rattle.std.proofs.lemmas.Grind.{common_steps}
use Rattle.debug_session.specs.ReplyText.{register_lines, word_text}
use Rattle.debug_session.proofs.RegisterLines.{joined, no_lines, one_more}
use Rattle.debug_session.proofs.reply_text.RegisterLinesDisplay.fmt.Goals as goal

pub loop-above-init : goal.loop-above-init
loop-above-init g c = search (rules, no_lines)

pub loop-above-preserved : goal.loop-above-preserved
loop-above-preserved g c = λ plain.
    let regs = c.args.self.now.0.now in
    has_written_of_eq _ _ _ _ _
    (joined (codes "pc ") (word_text regs.pc) (register_lines c.loop-above.above regs) _
    ∙ ap (λ l. codes "pc " ++ word_text regs.pc ++ l) (sym (one_more regs c.loop-above.above)))
    (has_written_append _ _ _ _ _ _ (c.loop-above.invariant plain) (first_of (search rules, grind (arith, common_steps))))
