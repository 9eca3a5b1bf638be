use Rattle.std.proofs.Common.{◌≡◌, codes, rules}
use Rattle.text_lines.specs.Calls.{Writes}
use Rattle.debug_session.proofs.FullerLines.{none_of_two}
use Rattle.debug_session.proofs.lines.line_of_two.Goals as goal

pub returns-else-eq-2-clause-none : goal.returns-else-eq-2-clause-none
returns-else-eq-2-clause-none c none =
    let name = c.args.name.now in
    let is : Writes c.args.first.now c.in_ok-address.address = search rules in
    let too : Writes c.args.second.now c.in_ok-length.length = search rules in
    let watch : ¬ (name ≡ codes "watch") = search rules in
    let mem : ¬ (name ≡ codes "mem") = search rules in
    none_of_two c.args.dialect name c.args.first.now c.args.second.now c.in_ok-address.address c.in_ok-length.length is too watch mem (c.fuller_pair.ensures.none none)
