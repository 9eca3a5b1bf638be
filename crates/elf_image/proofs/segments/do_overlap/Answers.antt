use Rattle.std.proofs.Common.{◌<◌, ◌≤◌, length, get_or, arith, sym, subst}
use Rattle.std.specs.List.{AllAdjacentBelow}
use Rattle.elf_image.specs.declared.program_header.ProgramHeader.{ProgramHeader}
use Rattle.elf_image.specs.ElfFiles.{end_of}
use Rattle.elf_image.proofs.Overlaps.{near_overlap, none_overlap, all_apart}
use Rattle.elf_image.proofs.segments.do_overlap.Goals as goal

pub returns-then-end-loaded : goal.returns-then-end-loaded
returns-then-end-loaded c =
    let none : ProgramHeader = record { kind = 0; offset = 0; address = 0; file_size = 0; memory_size = 0; flags = 0 } in
    sym (near_overlap c.args.loaded.now c.loop-place.place none c.requires.sorted c.requires.full (omega arith) (omega arith) (subst (λ n. (get_or c.args.loaded.now c.loop-place.place none).address < n) c.end.ensures c.if-end-loaded.true))

pub returns : goal.returns
returns c =
    let near : AllAdjacentBelow (λ one other. end_of one ≤ other.address) c.args.loaded.now (length c.args.loaded.now) = λ k d within. c.loop-place.invariant k d (omega arith) in
    sym (none_overlap c.args.loaded.now (all_apart c.args.loaded.now c.requires.full near))
