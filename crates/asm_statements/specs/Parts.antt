-- How much the parts take that statements put into the text.
use Rattle.std.specs.Prelude.{ℕ}
use Rattle.asm_statements.specs.declared.part.CodePart.{CodePart}
use Rattle.asm_statements.specs.declared.part.CodePart.TheVariants.{Fixed, LoadAddress, Jump, Branch, Number, Address}

-- how many bytes a part of the text takes: its words are of four bytes, and an address takes two of them
abbrev pub code_length : CodePart → ℕ
code_length (Fixed insn) = 4
code_length (LoadAddress rd label) = 8
code_length (Jump rd label) = 4
code_length (Branch kind rs1 rs2 label) = 4
code_length (Number number) = 4
code_length (Address label) = 4
