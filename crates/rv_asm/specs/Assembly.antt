-- The assembler as a relation between a source, its program and a listing, and the first fault of a source. It does not depend
-- on any pass over the source. A program is what the lines say. A label's address is its section's start plus the sizes of
-- what precedes it in that section. Each part's words are at the address of the part.
use Rattle.std.specs.Prelude.{◌≡◌, ℕ, ◌+◌, ◌*◌, ◌<◌, ◌≤◌, ℤ, pos, ◌-ℤ◌, ◌+ℤ◌, ⊤, List, [], ◌∷◌, ◌++◌, length, map, replicate, Option, Some, None, Ok, Err, codes}
use Rattle.byteorder.specs.Endian.{little_bytes}
use Rattle.rv_isa.specs.Operands.{IsImmediate, IsBranchOffset, IsJumpOffset}
use Rattle.rv_isa.specs.declared.instruction.Insn.TheVariants.{Lui, OpImmediate, Jal, Branch as BranchInsn}
use Rattle.rv_isa.specs.declared.kinds.ImmediateKind.TheVariants.{Addi}
use Rattle.asm_lines.specs.declared.fault.FaultKind.{FaultKind}
use Rattle.asm_lines.specs.declared.fault.FaultKind.TheVariants.{LabelTwice, TooLong, Empty, NoLabel, Range}
use Rattle.rv_asm.specs.declared.fault.AsmError.{AsmError}
use Rattle.rv_asm.specs.declared.fault.AsmError.TheVariants.{Fault, NoMemory}
use Rattle.asm_statements.specs.declared.section.Section.{Section}
use Rattle.asm_statements.specs.declared.section.Section.TheVariants.{Text, Data}
use Rattle.asm_statements.specs.declared.part.CodePart.{CodePart}
use Rattle.asm_statements.specs.declared.part.CodePart.TheVariants.{Fixed, LoadAddress, Jump, Branch, Number, Address}
use Rattle.asm_values.specs.declared.datum.Datum.{Datum}
use Rattle.asm_values.specs.declared.datum.Datum.TheVariants.{Word, Pointer, Half, Byte, Zeros}
use Rattle.rv_asm.specs.declared.item.Item.{Item}
use Rattle.rv_asm.specs.declared.item.Item.TheVariants.{Label, InText, InData}
use Rattle.rv_asm.specs.declared.word.TextWord.{TextWord}
use Rattle.rv_asm.specs.declared.word.TextWord.TheVariants.{Instruction, Plain}
use Rattle.asm_lines.specs.Forms.{SourceLine}
use Rattle.asm_statements.specs.Effects.{StatementEffect, Enter, Text as TextEffect, Data as DataEffect}
use Rattle.asm_lines.specs.Lines.{line_form}
use Rattle.text_lines.specs.Text.{lines_of}
use Rattle.page_memory.specs.MemoryMap.{text_start}
use Rattle.rv_asm.specs.Program.{size, section_start, most_text, most_data}
use Rattle.rv_asm.specs.LineEffects.{line_effect}
use Rattle.rv_asm.specs.Listing.{ListingContent, Lists}

-- ---- what lines say

-- a line in a section: its labels, and what its statement does
pub record Says (section : Section) (text : List ℕ) (labels : List (List ℕ)) (effect : StatementEffect) : Type 0 where
  pub line : SourceLine
  pub form : line_form text ≡ Ok line
  pub named : labels ≡ line.labels
  pub does : line_effect section line ≡ Ok effect

-- the section of the next line
abbrev pub section_after : Section → StatementEffect → Section
section_after section (Enter other) = other
section_after section (TextEffect parts) = section
section_after section (DataEffect parts) = section

-- what a line puts into the sections
abbrev pub parts_of : ℕ → StatementEffect → List Item
parts_of line (Enter section) = []
parts_of line (TextEffect parts) = map (InText line) parts
parts_of line (DataEffect parts) = map (InData line) parts

-- a line's labels, which belong to the section in effect before the line, and then its parts
abbrev pub items_of : ℕ → Section → List (List ℕ) → StatementEffect → List Item
items_of line section labels effect = map (Label section) labels ++ parts_of line effect

-- lines after so many others, in a section: what they say one after another, and the section after them
unfoldable pub Tells : ℕ → Section → List (List ℕ) → List Item → Section → Type 0
Tells before section [] items last = (items ≡ []) × (last ≡ section)
Tells before section (text ∷ below) items last =
    (labels : List (List ℕ)) × ((effect : StatementEffect) × ((rest : List Item) ×
    (Says section text labels effect × (items ≡ items_of (before + 1) section labels effect ++ rest) × Tells (before + 1) (section_after section effect) below rest last)))

-- ---- labels

-- no label there has this name
unfoldable pub Lacks : List Item → List ℕ → Type 0
Lacks [] name = ⊤
Lacks (Label section other ∷ items) name = (other ≡ name → ⊥) × Lacks items name
Lacks (InText line code ∷ items) name = Lacks items name
Lacks (InData line datum ∷ items) name = Lacks items name

-- no label is defined twice
unfoldable pub DistinctLabels : List Item → Type 0
DistinctLabels [] = ⊤
DistinctLabels (Label section name ∷ items) = Lacks items name × DistinctLabels items
DistinctLabels (InText line code ∷ items) = DistinctLabels items
DistinctLabels (InData line datum ∷ items) = DistinctLabels items

-- a name's label has an address: its section's start plus the sizes of what precedes it in that section
pub record HasAddress (items : List Item) (name : List ℕ) (address : ℕ) : Type 0 where
  pub section : Section
  pub front : List Item
  pub back : List Item
  pub stands : items ≡ front ++ Label section name ∷ back
  pub is : address ≡ section_start items section + size section front

-- ---- programs

-- a program is not too long
pub record Fits (items : List Item) : Type 0 where
  pub text : size Text items ≤ most_text
  pub bytes : size Data items ≤ most_data

-- lines have a program
pub record HasProgram (lines : List (List ℕ)) (section : Section) (items : List Item) : Type 0 where
  pub told : Tells 0 Text lines items section
  pub distinct : DistinctLabels items
  pub fits : Fits items

-- an address in two parts, of which the lower is its low 12 bits taken signed
pub record IsSplit (address high : ℕ) (low : ℤ) : Type 0 where
  pub whole : pos (high * 4096) +ℤ low ≡ pos address
  pub signed : IsImmediate low

-- the words of a part of the text at an address
unfoldable pub PutsWords : List Item → ℕ → CodePart → List TextWord → Type 0
PutsWords items here (Fixed insn) words = words ≡ Instruction insn ∷ []
PutsWords items here (LoadAddress rd label) words =
    (address : ℕ) × ((high : ℕ) × ((low : ℤ) ×
    (HasAddress items label address × IsSplit address high low × (words ≡ Instruction (Lui rd high) ∷ Instruction (OpImmediate Addi rd rd low) ∷ []))))
PutsWords items here (Jump rd label) words =
    (address : ℕ) × (HasAddress items label address × IsJumpOffset (pos address -ℤ pos here) × (words ≡ Instruction (Jal rd (pos address -ℤ pos here)) ∷ []))
PutsWords items here (Branch kind rs1 rs2 label) words =
    (address : ℕ) × (HasAddress items label address × IsBranchOffset (pos address -ℤ pos here) × (words ≡ Instruction (BranchInsn kind rs1 rs2 (pos address -ℤ pos here)) ∷ []))
PutsWords items here (Number number) words = words ≡ Plain number ∷ []
PutsWords items here (Address label) words = (address : ℕ) × (HasAddress items label address × (words ≡ Plain address ∷ []))

-- the bytes of a part of the data, the lowest of a number first
unfoldable pub PutsBytes : List Item → Datum → List ℕ → Type 0
PutsBytes items (Word number) bytes = bytes ≡ little_bytes 4 number
PutsBytes items (Pointer label) bytes = (address : ℕ) × (HasAddress items label address × (bytes ≡ little_bytes 4 address))
PutsBytes items (Half number) bytes = bytes ≡ little_bytes 2 number
PutsBytes items (Byte number) bytes = bytes ≡ number ∷ []
PutsBytes items (Zeros count) bytes = bytes ≡ replicate count 0

-- the words of a part, after as many words as the parts before it take
pub record TextAt (items front : List Item) (code : CodePart) (text : List TextWord) : Type 0 where
  pub before : List TextWord
  pub words : List TextWord
  pub after : List TextWord
  pub stand : text ≡ before ++ (words ++ after)
  pub place : 4 * length before ≡ size Text front
  pub put : PutsWords items (text_start + size Text front) code words

-- the bytes of a part, after as many bytes as the parts before it take
pub record DataAt (items front : List Item) (datum : Datum) (data_bytes : List ℕ) : Type 0 where
  pub before : List ℕ
  pub bytes : List ℕ
  pub after : List ℕ
  pub stand : data_bytes ≡ before ++ (bytes ++ after)
  pub place : length before ≡ size Data front
  pub put : PutsBytes items datum bytes

-- the text and the data hold what the parts of a program put there, and nothing else
pub record HoldsParts (items : List Item) (text : List TextWord) (bytes : List ℕ) : Type 0 where
  pub text_parts : (front back : List Item) (line : ℕ) (code : CodePart) → items ≡ front ++ InText line code ∷ back → TextAt items front code text
  pub data_parts : (front back : List Item) (line : ℕ) (datum : Datum) → items ≡ front ++ InData line datum ∷ back → DataAt items front datum bytes
  pub text_size : 4 * length text ≡ size Text items
  pub data_size : length bytes ≡ size Data items

-- the entry is where the label `_start` is, if it is in the text before its end; else it is where the text begins
pub record EntersAt (items : List Item) (entry : ℕ) : Type 0 where
  pub labelled : (front back : List Item) → items ≡ front ++ Label Text (codes "_start") ∷ back → size Text front < size Text items → entry ≡ text_start + size Text front
  pub unlabelled : ((front back : List Item) → items ≡ front ++ Label Text (codes "_start") ∷ back → size Text front < size Text items → ⊥) → entry ≡ text_start

-- a source assembles to a listing
pub record Assembles (source : List ℕ) (listing : ListingContent) : Type 0 where
  pub section : Section
  pub items : List Item
  pub text : List TextWord
  pub bytes : List ℕ
  pub program : HasProgram (lines_of source) section items
  pub some : 0 < size Text items
  pub holds : HoldsParts items text bytes
  pub enters : EntersAt items listing.image.entry
  pub lists : Lists (record { items = items; sections = record { text = text; bytes = bytes } }) listing

-- ---- faults

-- what is wrong with a line after lines that have a program: its form, its statement, a label that is already defined, or too much
-- text or data, in this order
pub data LineFault (number : ℕ) (section : Section) (items : List Item) (text : List ℕ) (kind : FaultKind) : Type 0 where
  form : line_form text ≡ Err kind → LineFault number section items text kind
  statement : (line : SourceLine) → line_form text ≡ Ok line → line_effect section line ≡ Err kind → LineFault number section items text kind
  twice : (labels : List (List ℕ)) (effect : StatementEffect) → Says section text labels effect → (DistinctLabels (items ++ map (Label section) labels) → ⊥) → kind ≡ LabelTwice → LineFault number section items text kind
  long : (labels : List (List ℕ)) (effect : StatementEffect) → Says section text labels effect → DistinctLabels (items ++ map (Label section) labels) → (Fits (items ++ items_of number section labels effect) → ⊥) → kind ≡ TooLong → LineFault number section items text kind

-- a part has what it puts
unfoldable pub HasPut : List Item → List Item → Item → Type 0
HasPut items front (Label section name) = ⊤
HasPut items front (InText line code) = (words : List TextWord) × PutsWords items (text_start + size Text front) code words
HasPut items front (InData line datum) = (bytes : List ℕ) × PutsBytes items datum bytes

-- the label that a part of the text, or of the data, names
abbrev pub code_label : CodePart → Option (List ℕ)
code_label (Fixed insn) = None
code_label (LoadAddress rd label) = Some label
code_label (Jump rd label) = Some label
code_label (Branch kind rs1 rs2 label) = Some label
code_label (Number number) = None
code_label (Address label) = Some label

abbrev pub datum_label : Datum → Option (List ℕ)
datum_label (Word number) = None
datum_label (Pointer label) = Some label
datum_label (Half number) = None
datum_label (Byte number) = None
datum_label (Zeros count) = None

-- a jump or a branch that does not reach its label
unfoldable pub TooFar : List Item → ℕ → CodePart → Type 0
TooFar items here (Fixed insn) = ⊥
TooFar items here (LoadAddress rd label) = ⊥
TooFar items here (Jump rd label) = (address : ℕ) × (HasAddress items label address × (IsJumpOffset (pos address -ℤ pos here) → ⊥))
TooFar items here (Branch kind rs1 rs2 label) = (address : ℕ) × (HasAddress items label address × (IsBranchOffset (pos address -ℤ pos here) → ⊥))
TooFar items here (Number number) = ⊥
TooFar items here (Address label) = ⊥

-- what is wrong with a part at an address
pub data PartFault (items : List Item) (here : ℕ) (item : Item) (line : ℕ) (kind : FaultKind) : Type 0 where
  no_label : (code : CodePart) (name : List ℕ) → item ≡ InText line code → code_label code ≡ Some name → Lacks items name → kind ≡ NoLabel → PartFault items here item line kind
  no_datum_label : (datum : Datum) (name : List ℕ) → item ≡ InData line datum → datum_label datum ≡ Some name → Lacks items name → kind ≡ NoLabel → PartFault items here item line kind
  too_far : (code : CodePart) → item ≡ InText line code → TooFar items here code → kind ≡ Range → PartFault items here item line kind

-- the first fault of a source: of the first line that has one by itself or by the lines above it; else, where there is no word
-- of text, at line 0; else of the first part that has one by the addresses of labels
pub data FirstFault (source : List ℕ) (line : ℕ) (kind : FaultKind) : Type 0 where
  in_line : (good : List (List ℕ)) (bad : List ℕ) (below : List (List ℕ)) (section : Section) (items : List Item) → lines_of source ≡ good ++ bad ∷ below → HasProgram good section items → line ≡ length good + 1 → LineFault line section items bad kind → FirstFault source line kind
  no_text : (section : Section) (items : List Item) → HasProgram (lines_of source) section items → size Text items ≡ 0 → line ≡ 0 → kind ≡ Empty → FirstFault source line kind
  in_part : (section : Section) (items front back : List Item) (item : Item) → HasProgram (lines_of source) section items → 0 < size Text items → items ≡ front ++ item ∷ back → ((above between : List Item) (one : Item) → front ≡ above ++ one ∷ between → HasPut items above one) → PartFault items (text_start + size Text front) item line kind → FirstFault source line kind

-- an error is the first fault of a source, or want of memory
abbrev pub IsFirstFault : List ℕ → AsmError → Type 0
IsFirstFault source (Fault line kind) = FirstFault source line kind
IsFirstFault source NoMemory = ⊤
