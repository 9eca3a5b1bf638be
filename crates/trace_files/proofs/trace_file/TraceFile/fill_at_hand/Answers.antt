use Rattle.std.proofs.Common.{◌≡◌, ◌≤◌, ◌<◌, ◌^◌, None, rules, arith}
use Rattle.std.proofs.lemmas.Grind.{common_steps}
use Rattle.trace_lines.specs.declared.format.TraceFormat.TheVariants.{Text}
use Rattle.trace_files.proofs.AtHandTold.{at_hand_told}
use Rattle.trace_files.proofs.trace_file.TraceFile.fill_at_hand.Goals as goal

pub returns-in-Text-clause-told : goal.returns-in-Text-clause-told
returns-in-Text-clause-told g c =
    let is : c.args.self.now.format ≡ Text = first_of (cc, search rules, grind arith) in
    let none : c.args.self.now.due ≡ None = first_of (cc, search rules, grind arith) in
    let later : 1 ≤ c.args.self.now.pieces.count = omega (arith, c.if-self-eq0.false) in
    let fits : c.args.self.now.pieces.count < 2 ^ 64 = first_of (search rules, grind (arith, common_steps)) in
    at_hand_told g.B.Read.remaining c.take_pages.result c.args.self.now.format c.args.self.now.held c.args.self.now.due c.args.self.now.pieces c.take_pages.new.self c.args.block.now.items c.take_pages.new.block.items
    is none later fits c.take_pages.ensures.taken c.take_pages.ensures.counted c.take_pages.ensures.words
