-- What a report says of what was handed in, by the processes' starts.
use Rattle.std.proofs.Common.{◌≡◌, ◌∙◌, ℕ, is_some, List, Option, Some, None, Vec, true, length, map, option_map, slice_get, sym, refl, subst, vec_len}
use Rattle.std.specs.Prelude.{IfSome}
use Rattle.std.proofs.lemmas.List.{length-map}
use Rattle.std.proofs.lemmas.Option.{slice_get-map, none-some}
use Rattle.elf_image.specs.Image.{ImageContent}
use Rattle.elf_image.specs.Start.{start_of}
use Rattle.hart_carriers.specs.Ending.{EndsSound, HaveEnded, IsCrewOf, IsReportOf, ShowLines}
use Rattle.hart_carriers.specs.FlatLines.{counts_of, starts_of, StandsForRuns}
use Rattle.hart_carriers.specs.declared.crew.CrewRequest.{CrewRequest}
use Rattle.hart_carriers.specs.declared.report.RunReport.{RunReport}
use Rattle.machine_sides.specs.FlatLines.{HasLine, HaveLines}
use Rattle.machine_sides.specs.Reporting.{told}
use Rattle.machine_sides.specs.declared.report.ProcessReport.{ProcessReport}

-- what a function of an entry is, if there is one
from_entry : {A B : Type 0} (f : A → B) (entry : Option A) (b : B) (P : B → Type 0) → option_map f entry ≡ Some b → ((a : A) → entry ≡ Some a → P (f a)) → P b
from_entry f None b P e each = elim (none-some b e) [ ]
from_entry f (Some a) b P e each = subst (λ found. IfSome found P) e (each a refl)

lines_of_starts : {Z : Type 0} (handed : List (ImageContent × Vec ℕ Z)) (reports : List ProcessReport) → StandsForRuns handed reports → HaveLines (starts_of handed) (map told reports)
lines_of_starts handed reports stands number start found =
    from_entry (λ given. start_of given.0 given.1.items) (slice_get handed number) start (λ s. HasLine s number (map told reports))
    (sym (slice_get-map (λ given. start_of given.0 given.1.items) handed number) ∙ found) (λ given at. stands number given at)

pub reported : {S Z : Type 0} (honest : Type 0) (frames slots : ℕ) (handed : List (ImageContent × Vec ℕ Z)) (wanted : CrewRequest) (run : RunReport)
    → (honest → run.report.audit ≡ true → StandsForRuns handed run.report.processes.items) → run.published.items ≡ map counts_of run.report.processes.items
    → (run.report.audit ≡ true → ShowLines run.viewers.items run.report.processes.items)
    → (run.report.audit ≡ true → vec_len run.report.processes ≡ length handed) → (run.report.audit ≡ true → HaveEnded run.report.processes.items)
    → run.report.frames ≡ frames → (run.report.audit ≡ true → run.slots ≡ slots) → IsCrewOf wanted run.crew
    → is_some run.cleans ≡ wanted.ahead → (run.report.audit ≡ true → EndsSound S (length handed) run) → IsReportOf S honest frames slots (starts_of handed) wanted run
reported {S} honest frames slots handed wanted run stands last shown many ended frames_are slots_are crew_is cleans_are sound =
    let as_many = length-map handed (λ given. start_of given.0 given.1.items) in
    record {
      stands = λ h audit. lines_of_starts handed run.report.processes.items (stands h audit);
      last = last;
      shown = shown;
      many = λ audit. many audit ∙ sym as_many;
      ended = ended;
      frames_are = frames_are;
      slots_are = slots_are;
      crew_is = crew_is;
      cleans_are = cleans_are;
      sound = λ audit. subst (λ n. EndsSound S n run) (sym as_many) (sound audit);
    }
