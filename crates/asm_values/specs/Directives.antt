-- What directives put into the data.
-- Source: assembly programmer's manual, "Pseudo Ops".
use Rattle.std.specs.Prelude.{ℕ, ◌==◌, Bool, true, false, negsuc, List, [], ◌∷◌, map, Result, Ok, Err, if◌then◌else◌}
use Rattle.std.specs.List.{list_all}
use Rattle.std.specs.Int.{w8, w16, w32}
use Rattle.asm_lines.specs.declared.operand.Operand.{Operand}
use Rattle.asm_lines.specs.declared.operand.Operand.TheVariants.{Number, Name}
use Rattle.asm_values.specs.declared.datum.Datum.{Datum}
use Rattle.asm_values.specs.declared.datum.Datum.TheVariants as datum
use Rattle.asm_values.specs.declared.data.Size.{Size}
use Rattle.asm_values.specs.declared.data.Size.TheVariants.{Word, Half, Byte}
use Rattle.asm_lines.specs.declared.fault.FaultKind.{FaultKind}
use Rattle.asm_lines.specs.declared.fault.FaultKind.TheVariants.{Operand as BadOperand}
use Rattle.asm_values.specs.Operands.{one_number, one_text}
use Rattle.asm_values.specs.Ranges.{up_to, bits_within}
use Rattle.asm_values.specs.Answers.{given, map_ok}

-- ---- lists of values

-- a word is a number or a label, what is shorter is a number
unfoldable pub is_value : Size → Operand → Bool
is_value size (Number n) = true
is_value Word (Name name) = true
is_value _ _ = false

-- one value of the data
unfoldable pub data_value : Size → Operand → Result Datum FaultKind
data_value Word (Number n) = map_ok datum.Word (bits_within w32 (negsuc 0x7FFF_FFFF) 0xFFFF_FFFF n)
data_value Word (Name name) = Ok (datum.Pointer name)
data_value Half (Number n) = map_ok datum.Half (bits_within w16 (negsuc 0x7FFF) 0xFFFF n)
data_value Byte (Number n) = map_ok datum.Byte (bits_within w8 (negsuc 0x7F) 0xFF n)
data_value _ _ = Err BadOperand

abbrev pub append_first : {A : Type 0} → Result A FaultKind → Result (List A) FaultKind → Result (List A) FaultKind
append_first (Ok first) (Ok rest) = Ok (first ∷ rest)
append_first (Ok first) (Err fault) = Err fault
append_first (Err fault) rest = Err fault

-- each of a list, or the first fault
unfoldable pub each_of : {A : Type 0} → (Operand → Result A FaultKind) → List Operand → Result (List A) FaultKind
each_of read [] = Ok []
each_of read (first ∷ rest) = append_first (read first) (each_of read rest)

-- at least one operand, and each may stand in the list
unfoldable pub is_list : Size → List Operand → Bool
is_list size [] = false
is_list size (first ∷ rest) = list_all (is_value size) (first ∷ rest)

-- a list: that each operand may stand there comes before each in its range
unfoldable pub values : {A : Type 0} → Size → (Operand → Result A FaultKind) → List Operand → Result (List A) FaultKind
values size read operands = if is_list size operands then each_of read operands else Err BadOperand

-- ---- text

-- what a character stands for behind a backslash; a backslash and a quote stand for themselves
unfoldable pub escape : ℕ → ℕ
escape character =
    if character == 110 then 10  -- n, a new line
    else if character == 116 then 9  -- t, a tab
    else if character == 48 then 0
    else character

-- the characters of a text; the flag says that a backslash stands before it
unfoldable pub unescaped_after : Bool → List ℕ → List ℕ
unescaped_after behind [] = []
unescaped_after true (character ∷ rest) = escape character ∷ unescaped_after false rest
unescaped_after false (character ∷ rest) =
    if character == 92 then unescaped_after true rest else character ∷ unescaped_after false rest

unfoldable pub unescaped : List ℕ → List ℕ
unescaped text = unescaped_after false text

-- `.ascii "text"`
unfoldable pub ascii : List Operand → Result (List Datum) FaultKind
ascii operands = given (one_text operands) (λ text. Ok (map datum.Byte (unescaped text)))

-- `.space n`
unfoldable pub space : List Operand → Result Datum FaultKind
space operands = given (one_number operands) (λ n. map_ok datum.Zeros (up_to 65536 n))
