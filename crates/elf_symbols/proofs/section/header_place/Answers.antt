use Rattle.std.proofs.Common.{arith}
use Rattle.elf_symbols.proofs.SectionHeaders.{has_header, header_within}
use Rattle.elf_symbols.proofs.section.header_place.Goals as goal

pub word_at-requires : goal.word_at-requires
word_at-requires c = omega (arith, has_header c.args.file.now c.args.number c.requires)

pub overflow_mul-result : goal.overflow_mul-result
overflow_mul-result c = omega (arith, header_within c.args.file.now c.args.number c.requires)

pub overflow_add-result : goal.overflow_add-result
overflow_add-result c = omega (arith, header_within c.args.file.now c.args.number c.requires)

pub returns-clause-within : goal.returns-clause-within
returns-clause-within c = omega (arith, header_within c.args.file.now c.args.number c.requires)
