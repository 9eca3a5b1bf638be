use Rattle.flat_machine.proofs.OpeningLaws.{image_page_at, stack_page_at, no_page_at}
use Rattle.flat_machine.proofs.laws.opening_has_pages.Goals as goal

pub returns-clause-image : goal.returns-clause-image
returns-clause-image c = image_page_at

pub returns-clause-stack : goal.returns-clause-stack
returns-clause-stack c = stack_page_at

pub returns-clause-none : goal.returns-clause-none
returns-clause-none c = no_page_at
