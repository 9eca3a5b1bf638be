-- The second pass over a program: item by item to the words of its text and the bytes of its data, and to the first fault
-- that can be found only with addresses.
use Rattle.std.specs.Prelude.{ℕ, ◌+◌, ◌*◌, ◌%◌, ◌==◌, ◌&&◌, pos, ◌-ℤ◌, nat_le, nat_lt, Bool, true, false, List, [], ◌∷◌, ◌++◌, length, replicate, Option, Some, None, Result, Ok, Err}
use Rattle.byteorder.specs.Endian.{little_bytes}
use Rattle.rv_isa.specs.declared.instruction.Insn.TheVariants.{Lui, OpImmediate, Jal, Branch as BranchInsn}
use Rattle.rv_isa.specs.declared.kinds.ImmediateKind.TheVariants.{Addi}
use Rattle.rv_isa.specs.declared.kinds.BranchKind.{BranchKind}
use Rattle.asm_lines.specs.declared.fault.FaultKind.{FaultKind}
use Rattle.asm_lines.specs.declared.fault.FaultKind.TheVariants.{NoLabel, Range}
use Rattle.asm_statements.specs.declared.part.CodePart.{CodePart}
use Rattle.asm_statements.specs.declared.part.CodePart.TheVariants.{Fixed, LoadAddress, Jump, Branch, Number, Address}
use Rattle.asm_values.specs.declared.datum.Datum.{Datum}
use Rattle.asm_values.specs.declared.datum.Datum.TheVariants.{Word, Pointer, Half, Byte, Zeros}
use Rattle.rv_asm.specs.declared.item.Item.{Item}
use Rattle.rv_asm.specs.declared.item.Item.TheVariants.{Label, InText, InData}
use Rattle.rv_asm.specs.declared.word.TextWord.{TextWord}
use Rattle.rv_asm.specs.declared.word.TextWord.TheVariants.{Instruction, Plain}
use Rattle.rv_asm.specs.declared.word.Words.{Words}
use Rattle.rv_asm.specs.declared.word.Words.TheVariants.{One, Two}
use Rattle.rv_asm.specs.Steps.{FaultAt, chained, map_value, on_line}
use Rattle.page_memory.specs.MemoryMap.{text_start}
use Rattle.rv_asm.specs.Program.{address_of}
use Rattle.rv_isa.specs.Split.{upper_part, low_part}

-- the words of the text and the bytes of the data
pub record Sections : Type 0 where
  pub text : List TextWord
  pub bytes : List ℕ

abbrev pub words_list : Words → List TextWord
words_list (One word) = word ∷ []
words_list (Two first second) = first ∷ second ∷ []

-- the address of a label that must be defined, and what it gives
abbrev pub at_label : {A : Type 0} → (ℕ → Result A FaultKind) → Option ℕ → Result A FaultKind
at_label next (Some address) = next address
at_label next None = Err NoLabel

-- the two instructions that put an address into a register
abbrev pub load_words : ℕ → ℕ → List TextWord
load_words rd address =
    Instruction (Lui rd (upper_part address)) ∷ Instruction (OpImmediate Addi rd rd (low_part address)) ∷ []

-- whether a distance is even, not below -reach and below reach
abbrev pub reaches : ℕ → ℕ → ℕ → Bool
reaches reach here target = nat_le here (target + reach) && nat_lt target (here + reach) && ((here + target) % 2 == 0)

-- an instruction with its distance, where it reaches
abbrev pub if_reached : Bool → TextWord → Result (List TextWord) FaultKind
if_reached true word = Ok (word ∷ [])
if_reached false word = Err Range

abbrev pub jump_words : ℕ → ℕ → ℕ → Result (List TextWord) FaultKind
jump_words rd here target = if_reached (reaches 1048576 here target) (Instruction (Jal rd (pos target -ℤ pos here)))

abbrev pub branch_words : BranchKind → ℕ → ℕ → ℕ → ℕ → Result (List TextWord) FaultKind
branch_words kind rs1 rs2 here target =
    if_reached (reaches 4096 here target) (Instruction (BranchInsn kind rs1 rs2 (pos target -ℤ pos here)))

-- the words of a part of the text at an address
unfoldable pub code_words : (List ℕ → Option ℕ) → ℕ → CodePart → Result (List TextWord) FaultKind
code_words address here (Fixed insn) = Ok (Instruction insn ∷ [])
code_words address here (LoadAddress rd label) = at_label (λ target. Ok (load_words rd target)) (address label)
code_words address here (Jump rd label) = at_label (jump_words rd here) (address label)
code_words address here (Branch kind rs1 rs2 label) = at_label (branch_words kind rs1 rs2 here) (address label)
code_words address here (Number number) = Ok (Plain number ∷ [])
code_words address here (Address label) = at_label (λ target. Ok (Plain target ∷ [])) (address label)

-- the bytes of a part of the data, the lowest of a number first
unfoldable pub datum_bytes : (List ℕ → Option ℕ) → Datum → Result (List ℕ) FaultKind
datum_bytes address (Word number) = Ok (little_bytes 4 number)
datum_bytes address (Pointer label) = at_label (λ target. Ok (little_bytes 4 target)) (address label)
datum_bytes address (Half number) = Ok (little_bytes 2 number)
datum_bytes address (Byte number) = Ok (number ∷ [])
datum_bytes address (Zeros count) = Ok (replicate count 0)

-- the address of the next word of text
abbrev pub next_address : Sections → ℕ
next_address sections = text_start + 4 * length sections.text

-- the sections with what one more item puts there
unfoldable pub put : List Item → Sections → Item → Result Sections FaultAt
put all sections (Label section name) = Ok sections
put all sections (InText line code) =
    on_line line (map_value (λ words. record sections { text = sections.text ++ words }) (code_words (address_of all) (next_address sections) code))
put all sections (InData line datum) =
    on_line line (map_value (λ bytes. record sections { bytes = sections.bytes ++ bytes }) (datum_bytes (address_of all) datum))

unfoldable pub put_all : List Item → Sections → List Item → Result Sections FaultAt
put_all all sections [] = Ok sections
put_all all sections (item ∷ items) = chained (λ more. put_all all more items) (put all sections item)

abbrev pub no_sections : Sections
no_sections = record { text = []; bytes = [] }

-- the sections of a program
unfoldable pub second_pass : List Item → Result Sections FaultAt
second_pass items = put_all items no_sections items
