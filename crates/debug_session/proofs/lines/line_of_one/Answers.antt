use Rattle.std.proofs.Common.{◌≡◌, codes, rules}
use Rattle.text_lines.specs.Calls.{Writes}
use Rattle.debug_session.proofs.FullerLines.{none_of_one}
use Rattle.debug_session.proofs.lines.line_of_one.Goals as goal

pub returns-else-eq-5-clause-none : goal.returns-else-eq-5-clause-none
returns-else-eq-5-clause-none c none =
    let name = c.args.name.now in
    let is : Writes c.args.first.now c.in_ok-number.number = search rules in
    let break : ¬ (name ≡ codes "break") = search rules in
    let remove : ¬ (name ≡ codes "remove") = search rules in
    let step : ¬ (name ≡ codes "step") = search rules in
    let go : ¬ (name ≡ codes "go") = search rules in
    let regs : ¬ (name ≡ codes "regs") = search rules in
    none_of_one c.args.dialect name c.args.first.now c.in_ok-number.number is break remove step go regs (c.fuller_line.ensures.none none)
