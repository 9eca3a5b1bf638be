use Rattle.std.proofs.Common.{◌∙◌, sym}
use Rattle.elf_image.proofs.Reading.{long_enough, headers_within}
use Rattle.elf_image.proofs.LoadedImages.{first_of_headers, first_of_programs, last_fault, on_ok_none, if_err_some}
use Rattle.elf_image.proofs.read.read_elf.Goals as goal

pub returns-in-Some-clause-refused : goal.returns-in-Some-clause-refused
returns-in-Some-clause-refused c _ = first_of_headers c.args.file.now c.header_fault.result c.in-Some.fault c.header_fault.ensures c.in-Some.is

pub program_fault-requires-clause-long : goal.program_fault-requires-clause-long
program_fault-requires-clause-long c = long_enough c.args.file.now (sym c.header_fault.ensures ∙ c.in_default.is)

pub program_fault-requires-clause-within : goal.program_fault-requires-clause-within
program_fault-requires-clause-within c = headers_within c.args.file.now (sym c.header_fault.ensures ∙ c.in_default.is)

pub returns-in-Some-program_fault-clause-refused : goal.returns-in-Some-program_fault-clause-refused
returns-in-Some-program_fault-clause-refused c _ = first_of_programs c.args.file.now c.program_fault.result c.in-Some-program_fault.fault (sym c.header_fault.ensures ∙ c.in_default.is) c.program_fault.ensures c.in-Some-program_fault.is

pub returns-clause-accepted : goal.returns-clause-accepted
returns-clause-accepted c = on_ok_none c.load.result _ _ (last_fault c.args.file.now (sym c.header_fault.ensures ∙ c.in_default.is) (sym c.program_fault.ensures ∙ c.in_default-program_fault.is)) c.load.ensures.accepted

pub returns-clause-refused : goal.returns-clause-refused
returns-clause-refused c = if_err_some c.load.result _ _ (last_fault c.args.file.now (sym c.header_fault.ensures ∙ c.in_default.is) (sym c.program_fault.ensures ∙ c.in_default-program_fault.is)) c.load.ensures.refused
