use Rattle.std.proofs.Common.{◌-◌, ◌*◌, arith, length, take, drop, ℕ, List}
use Rattle.std.proofs.lemmas.List.{take_rest}
use Rattle.elf_image.specs.declared.program_header.ProgramHeader.{ProgramHeader}
use Rattle.elf_image.proofs.TouchedRanges.{touching_found}
use Rattle.elf_image.proofs.touched.touching.Goals as goal

pub returns : goal.returns
returns c =
    let start : ℕ = c.from.result * 4096 in
    let rest : List ProgramHeader = take (length c.args.loaded.now - c.count_ending_by.result) (drop c.count_ending_by.result c.args.loaded.now) in
    let whole = take_rest c.args.loaded.now c.count_ending_by.result in
    touching_found c.args.loaded.now rest c.args.page start c.count_ending_by.result c.count_starting_below.result (omega arith) whole c.count_ending_by.ensures.bound c.count_starting_below.ensures.bound c.count_ending_by.ensures.those c.count_starting_below.ensures.those c.requires.full
