use Rattle.std.proofs.Common.{sym, ap, ◌∙◌, subst}
use Rattle.page_memory.specs.Words.{page_number}
use Rattle.page_memory.specs.declared.words.Access.TheVariants.{Fetch}
use Rattle.rv_exec.specs.declared.bus.BusError.{BusError}
use Rattle.rv_exec.specs.declared.bus.BusError.TheVariants.{Absent}
use Rattle.std.specs.Prelude.{Err}
use Rattle.paged_memory.specs.access.OnePage.{UsesPage}
use Rattle.paged_memory.proofs.access_laws.OnePageLaws.{uses_refused}
use Rattle.paged_memory.proofs.reading.fetch_anew.Goals as goal

pub returns-in-Err-Absent-clause-uses : goal.returns-in-Err-Absent-clause-uses
returns-in-Err-Absent-clause-uses g c =
    uses_refused (subst (λ (r : BusError). UsesPage c.args.hart Fetch (page_number c.args.address) (Err r) c.args.pages.now c.args.tables.now c.read.new.tables c.args.caches.now c.read.new.caches) (c.in-Err-Absent.field-0-is ∙ ap Absent (sym c.in-Err-Absent.page-is)) c.in-Err-Absent.ensures.uses)
