use Rattle.std.proofs.Common.{◌≡◌, codes, rules}
use Rattle.debug_session.proofs.FullerLines.{none_alone}
use Rattle.debug_session.proofs.lines.line_alone.Goals as goal

pub returns-else-eq-clause-none : goal.returns-else-eq-clause-none
returns-else-eq-clause-none c none =
    let quit : ¬ (c.args.name.now ≡ codes "quit") = search rules in
    none_alone c.args.dialect c.args.name.now quit (c.fuller_word.ensures.none none)
