use Rattle.std.proofs.Common.{ltb, ltb-true, ltb-false, rules}
use Rattle.std.proofs.lemmas.List.Sorted.{IsPartitionPoint-from_clause, IsPartitionedBy-ltb}
use Rattle.elf_image.specs.declared.program_header.ProgramHeader.{ProgramHeader}
use Rattle.elf_image.proofs.touched.count_starting_below.Goals as goal

pub returns-clause-those : goal.returns-clause-those
returns-clause-those c =
    let found = IsPartitionPoint-from_clause (λ (segment : ProgramHeader). ltb segment.address c.args.address) c.args.loaded.now _ c.partition_point.ensures.partitioned (IsPartitionedBy-ltb (λ (segment : ProgramHeader). segment.address) c.args.loaded.now c.args.address c.requires.rising) (λ a r q k. search rules) in
    ((λ k d from below. ltb-true _ _ (found.0 k d from below)), (λ k d from below. ltb-false _ _ (found.1 k d from below)))
