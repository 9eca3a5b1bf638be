-- What is reported of a machine on so many slots is what a machine on these slots comes to.
use Rattle.std.proofs.Common.{◌≡◌, ℕ, List, Vec, subst, vec_len}
use Rattle.elf_image.specs.Start.{Start}
use Rattle.hart_carriers.specs.Ending.{IsReportOf}
use Rattle.hart_carriers.specs.declared.crew.CrewRequest.{CrewRequest}
use Rattle.hart_carriers.specs.declared.report.RunReport.{RunReport}
use Rattle.paged_cli.specs.Running.{CameTo}

pub came_to : {S Y : Type 0} (honest : Type 0) (frames : ℕ) (slots : Vec S Y) (starts : List Start) (wanted : CrewRequest) (run : RunReport)
    → IsReportOf S honest frames (vec_len slots) starts wanted run → CameTo honest frames slots.items starts wanted run
came_to {S} honest frames slots starts wanted run reported = subst (λ n. IsReportOf S honest frames n starts wanted run) slots.ok.0 reported
