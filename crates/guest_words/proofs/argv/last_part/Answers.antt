use Rattle.std.proofs.Common.{None, Some}
use Rattle.guest_words.proofs.NameLaws.{last_split}
use Rattle.guest_words.proofs.argv.last_part.Goals as goal

pub returns-in-Some : goal.returns-in-Some
returns-in-Some c = last_split c.args.name.now (Some (c.in-Some.field-0-0, c.in-Some.last)) c.in-Some.ensures.cases

pub returns-in-None : goal.returns-in-None
returns-in-None c = last_split c.args.name.now None c.in-None.ensures.cases
