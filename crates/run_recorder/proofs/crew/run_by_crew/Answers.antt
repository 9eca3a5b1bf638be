-- What the machine reported of its only process is a flat run's.
use Rattle.std.proofs.Common.{◌≡◌, ℕ, List, [], ◌∷◌, Some, Bool, true, false, not, map, vec_len, length, slice_get, refl, sym, ap, ◌∙◌, subst, arith}
use Rattle.std.specs.Bool.{⊤}
use Rattle.std.proofs.lemmas.Option.{slice_get-get_or}
use Rattle.std.proofs.lemmas.List.{length-replicate}
use Rattle.elf_image.specs.Start.{Start, start_of}
use Rattle.swap_slots.specs.Slot.{zero_content}
use Rattle.guest_frames.proofs.FirstReport.{line_stands}
use Rattle.hart_carriers.specs.Ending.{IsReportOf}
use Rattle.run_recorder.proofs.crew.run_by_crew.Goals as goal

is_so : (b : Bool) → not b ≡ false → b ≡ true
is_so true e = refl
is_so false e = absurd (cc)

pub returns : goal.returns
returns g c =
    let start : Start = start_of c.args.image c.args.input.items in
    let listed : map (λ s. start_of s.0 s.1.items) c.as_slice.result.now ≡ start ∷ [] = rw (c.as_slice.ensures.value, c.push_reserved.ensures.items, c.in_ok-handed.ensures.items) refl in
    let many : vec_len c.in_ok-slots.slots ≡ c.args.slots = c.in_ok-slots.slots.ok.0 ∙ ap length c.in_ok-slots.ensures ∙ length-replicate c.args.slots zero_content in
    let reported : IsReportOf (List ℕ) ⊤ c.args.frames c.args.slots (start ∷ []) c.args.wanted.now c.in-Ok.run' =
    subst (λ n. IsReportOf (List ℕ) ⊤ c.args.frames n (start ∷ []) c.args.wanted.now c.in-Ok.run') many
    (subst (λ l. IsReportOf (List ℕ) ⊤ c.args.frames (vec_len c.in_ok-slots.slots) l c.args.wanted.now c.in-Ok.run') listed c.in-Ok.ensures.run) in
    let sound : c.in-Ok.run'.report.audit ≡ true = is_so c.in-Ok.run'.report.audit c.if-not-run.false in
    let items = c.in-Ok.run'.report.processes.items in
    let same : c.processes_of-reports.result.items ≡ items = ap (λ v. v.items) c.processes_of-reports.ensures in
    let first : slice_get items 0 ≡ Some c.swap_remove.result =
    ap (λ l. slice_get l 0) (sym same) ∙ slice_get-get_or c.processes_of-reports.result.items 0 c.swap_remove.result (omega arith) ∙ ap Some (sym c.swap_remove.ensures.value) in
    record {
      ran = record { run = c.in-Ok.run'; is_report = reported; sound = sound; first = first };
      flat = line_stands start _ items c.swap_remove.result (reported.stands tt sound) refl first;
      early = tt;
    }
