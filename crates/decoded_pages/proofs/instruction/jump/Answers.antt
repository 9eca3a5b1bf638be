use Rattle.std.proofs.Common.{ap}
use Rattle.decoded_pages.specs.Classes.{class_of}
use Rattle.decoded_pages.proofs.Standing.{jump_links, jump_goes}
use Rattle.decoded_pages.proofs.instruction.jump.Goals as goal

pub returns-in-Some : goal.returns-in-Some
returns-in-Some c = λ start place offset page is. jump_links _ start place c.args.rd offset (ap class_of c.plain.ensures) c.in-Some.ensures page is c.if-relative-ne0.false

pub returns-in-None : goal.returns-in-None
returns-in-None c = λ start place offset page is. jump_goes _ start place c.args.rd offset (ap class_of c.plain-in-None.ensures) c.in-None.ensures page is c.if-relative-ne0.false
