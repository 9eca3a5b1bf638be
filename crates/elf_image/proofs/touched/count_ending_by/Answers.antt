use Rattle.std.proofs.Common.{leb, leb-true, leb-false, rules}
use Rattle.std.proofs.lemmas.List.Sorted.{IsPartitionPoint-from_clause, IsPartitionedBy-leb}
use Rattle.elf_image.specs.declared.program_header.ProgramHeader.{ProgramHeader}
use Rattle.elf_image.specs.ElfFiles.{end_of}
use Rattle.elf_image.proofs.touched.count_ending_by.Goals as goal

pub returns-clause-those : goal.returns-clause-those
returns-clause-those c =
    let found = IsPartitionPoint-from_clause (λ (segment : ProgramHeader). leb (end_of segment) c.args.address) c.args.loaded.now _ c.partition_point.ensures.partitioned (IsPartitionedBy-leb end_of c.args.loaded.now c.args.address c.requires.rising) (λ a r q k. search rules) in
    ((λ k d from below. leb-true _ _ (found.0 k d from below)), (λ k d from below. leb-false _ _ (found.1 k d from below)))
