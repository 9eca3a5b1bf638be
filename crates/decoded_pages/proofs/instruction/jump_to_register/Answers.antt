use Rattle.std.proofs.Common.{refl, ap}
use Rattle.decoded_pages.specs.Classes.{class_of}
use Rattle.decoded_pages.proofs.Standing.{register_links, register_goes}
use Rattle.decoded_pages.proofs.instruction.jump_to_register.Goals as goal

pub returns-in-Some : goal.returns-in-Some
returns-in-Some c = λ start place. register_links _ start place c.args.rd c.args.rs1 c.args.offset (ap class_of c.plain.ensures) c.in-Some.ensures refl c.word.ensures.value

pub returns-in-None : goal.returns-in-None
returns-in-None c = λ start place. register_goes _ start place c.args.rd c.args.rs1 c.args.offset (ap class_of c.plain-in-None.ensures) c.in-None.ensures refl c.word-in-None.ensures.value
