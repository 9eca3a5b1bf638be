use Rattle.std.proofs.Common.{◌≡◌, ◌<◌, ◌∙◌, sym, subst, List, ℕ, IfOk, Some}
use Rattle.std.specs.List.{All}
use Rattle.std.proofs.lemmas.Result.{err_from_is_err_and}
use Rattle.elf_image.specs.Image.{ImageContent}
use Rattle.elf_image.specs.ElfFiles.{loading_fault}
use Rattle.elf_image.specs.declared.fault.ElfFault.{ElfFault}
use Rattle.elf_image.proofs.Reading.{long_enough}
use Rattle.elf_image.proofs.LoadedImages.{touched_low, overlap_refused, sound_loaded, full_loaded, low_loaded, apart_loaded, file_pages_made, too_large_refused, fault_of_parts, image_made, accepts, refuses}
use Rattle.elf_image.proofs.read.load_segments.Goals as goal

pub do_overlap-requires-clause-full : goal.do_overlap-requires-clause-full
do_overlap-requires-clause-full c = full_loaded c.args.file.now c.args.loaded.now c.requires.program c.requires.permutation

pub returns-then-do_overlap-clause-refused : goal.returns-then-do_overlap-clause-refused
returns-then-do_overlap-clause-refused c _ = overlap_refused c.args.file.now c.args.loaded.now c.requires.permutation (sym c.if-do_overlap.ensures)

pub touched_pages-requires-clause-full : goal.touched_pages-requires-clause-full
touched_pages-requires-clause-full c = full_loaded c.args.file.now c.args.loaded.now c.requires.program c.requires.permutation

pub touched_pages-requires-clause-low : goal.touched_pages-requires-clause-low
touched_pages-requires-clause-low c = low_loaded c.args.file.now c.args.loaded.now c.requires.program c.requires.permutation

pub touched_pages-requires-clause-apart : goal.touched_pages-requires-clause-apart
touched_pages-requires-clause-apart c = apart_loaded c.args.file.now c.args.loaded.now c.requires.program c.requires.permutation c.requires.sorted (sym c.if-do_overlap.ensures)

pub returns-in_err-numbers-clause-refused : goal.returns-in_err-numbers-clause-refused
returns-in_err-numbers-clause-refused c =
    let p = err_from_is_err_and c.from_residual.result c.from_residual.ensures.1 in
    rw (p.1, p.2) (λ other. let many = c.in_err-numbers.ensures.refused other in subst (λ (fault : ElfFault). loading_fault c.args.file.now ≡ Some fault) (sym many.0) (too_large_refused c.args.file.now c.args.loaded.now c.requires.program c.requires.permutation c.requires.sorted (sym c.if-do_overlap.ensures) many.1))

pub load_pages-requires-clause-sound : goal.load_pages-requires-clause-sound
load_pages-requires-clause-sound c = sound_loaded c.args.file.now c.args.loaded.now c.requires.program c.requires.permutation

pub load_pages-requires-clause-apart : goal.load_pages-requires-clause-apart
load_pages-requires-clause-apart c = apart_loaded c.args.file.now c.args.loaded.now c.requires.program c.requires.permutation c.requires.sorted (sym c.if-do_overlap.ensures)

pub load_pages-requires-clause-low : goal.load_pages-requires-clause-low
load_pages-requires-clause-low c = subst (λ (l : List ℕ). All (λ number. number < 458752) l) (sym (c.deref.ensures.value ∙ c.in_ok-numbers.ensures.pages)) (touched_low c.args.loaded.now)

pub entry-requires : goal.entry-requires
entry-requires c = long_enough c.args.file.now c.requires.header

pub returns-clause-image : goal.returns-clause-image
returns-clause-image c =
    let made = file_pages_made c.args.file.now c.args.loaded.now c.requires.program c.requires.permutation c.requires.sorted (sym c.if-do_overlap.ensures) c.deref.result.now c.in_ok-pages.pages.items (c.deref.ensures.value ∙ c.in_ok-numbers.ensures.pages) c.in_ok-pages.ensures in
    let same = image_made c.args.file.now c.args.loaded.now c.requires.program c.requires.permutation c.requires.sorted (sym c.if-do_overlap.ensures) c.entry.result c.in_ok-pages.pages.items c.entry.ensures made in
    subst (λ (content : ImageContent). IfOk c.from_parts.result (λ image. image ≡ content)) same c.from_parts.ensures.image

pub returns-clause-accepted : goal.returns-clause-accepted
returns-clause-accepted c =
    let made = file_pages_made c.args.file.now c.args.loaded.now c.requires.program c.requires.permutation c.requires.sorted (sym c.if-do_overlap.ensures) c.deref.result.now c.in_ok-pages.pages.items (c.deref.ensures.value ∙ c.in_ok-numbers.ensures.pages) c.in_ok-pages.ensures in
    accepts c.from_parts.result _ _ c.from_parts.ensures.refusal (fault_of_parts c.args.file.now c.args.loaded.now c.requires.program c.requires.permutation c.requires.sorted (sym c.if-do_overlap.ensures) c.entry.result c.in_ok-pages.pages.items c.entry.ensures made)

pub returns-clause-refused : goal.returns-clause-refused
returns-clause-refused c =
    let made = file_pages_made c.args.file.now c.args.loaded.now c.requires.program c.requires.permutation c.requires.sorted (sym c.if-do_overlap.ensures) c.deref.result.now c.in_ok-pages.pages.items (c.deref.ensures.value ∙ c.in_ok-numbers.ensures.pages) c.in_ok-pages.ensures in
    refuses c.from_parts.result _ _ c.from_parts.ensures.refusal (fault_of_parts c.args.file.now c.args.loaded.now c.requires.program c.requires.permutation c.requires.sorted (sym c.if-do_overlap.ensures) c.entry.result c.in_ok-pages.pages.items c.entry.ensures made)
