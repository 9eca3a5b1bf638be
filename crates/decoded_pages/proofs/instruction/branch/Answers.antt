use Rattle.std.proofs.Common.{refl, ap, ◌∙◌}
use Rattle.decoded_pages.specs.Classes.{class_of}
use Rattle.decoded_pages.proofs.Standing.{branch_stands}
use Rattle.decoded_pages.proofs.instruction.branch.Goals as goal

pub returns : goal.returns
returns c = λ start place offset page is.
    branch_stands _ start place c.args.kind c.args.rs1 c.args.rs2 offset (ap class_of c.plain.ensures ∙ c.of_branch.ensures) refl refl page is c.if-relative-ne0.false
