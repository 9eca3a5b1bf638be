-- The machine begins as the machine of this one process, whose line is what is told.
use Rattle.std.proofs.Common.{◌≡◌, [], ◌∷◌, Some, map, replicate, slice_get, refl, sym, ap, ◌∙◌, subst, arith}
use Rattle.std.proofs.lemmas.Option.{slice_get-get_or}
use Rattle.elf_image.specs.Start.{Start, start_of}
use Rattle.machine_core.specs.Opening.{MachineBegins}
use Rattle.swap_slots.specs.Slot.{zero_content}
use Rattle.guest_frames.proofs.FirstReport.{HasCome, come_first, line_stands}
use Rattle.guest_frames.proofs.playing.play_on.Goals as goal

pub returns : goal.returns
returns g c =
    let start : Start = start_of c.args.image c.args.input.items in
    let listed : map (λ s. start_of s.0 s.1.items) c.push_reserved.new.self.items ≡ start ∷ [] = rw (c.push_reserved.ensures.items, c.in_ok-processes.ensures.items) refl in
    let begins : MachineBegins c.args.frames c.in_ok-slots.slots.items (start ∷ []) c.in-Ok.core =
    subst (λ l. MachineBegins c.args.frames c.in_ok-slots.slots.items l c.in-Ok.core) listed c.in-Ok.ensures.begins in
    let empty : MachineBegins c.args.frames (replicate c.args.slots zero_content) (start ∷ []) c.in-Ok.core =
    subst (λ free. MachineBegins c.args.frames free (start ∷ []) c.in-Ok.core) c.in_ok-slots.ensures begins in
    let items = c.into_report-report.result.processes.items in
    let first : slice_get items 0 ≡ Some c.swap_remove.result = slice_get-get_or items 0 c.swap_remove.result (omega arith) ∙ ap Some (sym c.swap_remove.ensures.value) in
    let come : HasCome c.play_steps.new.core.processes c.swap_remove.result = come_first items c.play_steps.new.core.processes c.swap_remove.result c.into_report-report.ensures.processes first in
    record {
      plays = record {
        begun = c.in-Ok.core;
        begins = empty;
        over = c.play_steps.new.core;
        plays = c.play_steps.ensures.plays;
        unlimited = c.play_steps.ensures.unlimited 0;
        process = come.process;
        found = come.found;
        same = come.same;
      };
      flat = line_stands start _ items c.swap_remove.result (c.play_steps.ensures.flat c.args.frames c.in_ok-slots.slots.items (start ∷ []) begins tt) c.into_report-report.ensures.processes first;
    }
