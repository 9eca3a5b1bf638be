use Rattle.elf_image.proofs.Reading.{long_enough, headers_within}
use Rattle.elf_image.proofs.read.load.Goals as goal

pub sorted_segments-requires-clause-long : goal.sorted_segments-requires-clause-long
sorted_segments-requires-clause-long c = long_enough c.args.file.now c.requires.header

pub sorted_segments-requires-clause-within : goal.sorted_segments-requires-clause-within
sorted_segments-requires-clause-within c = headers_within c.args.file.now c.requires.header
