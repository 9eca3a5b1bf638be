-- The tests of program headers by name, as the code goes through the headers for each.
use Rattle.std.specs.Prelude.{ℕ, Bool, ◌&&◌}
use Rattle.elf_image.specs.declared.header_checks.HeaderTest.{HeaderTest}
use Rattle.elf_image.specs.declared.header_checks.HeaderTest.TheVariants.{IsDynamic, IsOutOfFile, IsLargerInFile, IsOutOfRange}
use Rattle.elf_image.specs.declared.program_header.ProgramHeader.{ProgramHeader}
use Rattle.elf_image.specs.ElfFiles.{is_load, is_dynamic, is_out_of_file, is_larger_in_file, is_out_of_range}

-- whether a header fails a test, in a file of so many bytes
abbrev pub fails : HeaderTest → ℕ → ProgramHeader → Bool
fails IsDynamic size header = is_dynamic header
fails IsOutOfFile size header = is_load header && is_out_of_file size header
fails IsLargerInFile size header = is_load header && is_larger_in_file header
fails IsOutOfRange size header = is_load header && is_out_of_range header
