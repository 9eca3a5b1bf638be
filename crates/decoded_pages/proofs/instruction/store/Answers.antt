use Rattle.std.proofs.Common.{refl, ap, ◌∙◌}
use Rattle.decoded_pages.specs.Classes.{class_of}
use Rattle.decoded_pages.proofs.Standing.{stored_stands}
use Rattle.decoded_pages.proofs.instruction.store.Goals as goal

pub returns : goal.returns
returns c = λ start place. stored_stands _ start place c.args.kind c.args.rs1 c.args.rs2 c.args.offset (ap class_of c.plain.ensures ∙ c.of_store.ensures) refl refl c.word.ensures.value
