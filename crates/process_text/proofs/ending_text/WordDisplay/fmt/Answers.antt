use Rattle.std.proofs.Common.{Some, subst}
use Rattle.std.specs.Prelude.{codes}
use Rattle.std.specs.Fmt.{DisplaysOnOk, option_append, styled_digits_output, digits_output}
use Rattle.process_text.proofs.Words.{shown_eight}
use Rattle.process_text.proofs.ending_text.WordDisplay.fmt.Goals as goal

pub returns-clause-writes : goal.returns-clause-writes
returns-clause-writes g c =
    let laid = subst (λ s. DisplaysOnOk g.W.Write.write_str_gives c.args.f.now c.write.result (option_append (Some (codes "0x")) (styled_digits_output c.in_radix.result s)) c.write.new.self)
    c.laid_out.ensures c.write.ensures.writes in
    subst (λ o. DisplaysOnOk g.W.Write.write_str_gives c.args.f.now c.write.result o c.write.new.self)
    (shown_eight c.args.self.now.0 c.in_radix.result.base (digits_output c.in_radix.result) c.in_radix.ensures) laid
