-- The text of a record, as it is written and as it is read.
use Rattle.std.specs.Prelude.{ℕ, ◌+◌, ◌==◌, Bool, false, List, [], ◌∷◌, ◌++◌, map, length, codes, Option, Some, None, is_some, cond, Result, Ok, Err}
use Rattle.std.specs.List.{flat_map}
use Rattle.std.specs.Str.{bytes_eq}
use Rattle.text_lines.specs.Text.{lines_of}
use Rattle.flat_machine.specs.declared.schedule.Turn.{Turn}
use Rattle.run_records.specs.RecordLines.{title, fingerprint_text, fingerprint_of, turn_text, turn_of, end_text, end_of, steps_text, steps_of}
use Rattle.run_records.specs.declared.fault.RecordFault.{RecordFault}
use Rattle.run_records.specs.declared.fault.RecordFault.TheVariants.{NotARecord, Cut, BadLine}
use Rattle.run_records.specs.declared.fingerprint.Fingerprint.{Fingerprint}
use Rattle.run_records.specs.declared.record.Closing.{Closing}
use Rattle.run_records.specs.declared.record.Record.{Record}

-- a record as a value
pub record RecordValue : Type 0 where
  pub image : Fingerprint
  pub input : Fingerprint
  pub turns : List Turn
  pub closing : Closing

abbrev pub value_of : Record → RecordValue
value_of told = record { image = told.image; input = told.input; turns = told.turns.items; closing = told.closing }

-- ---- as it is written

-- a line with its end
abbrev pub ended : List ℕ → List ℕ
ended line = line ++ 10 ∷ []

abbrev pub closing_lines : Closing → List (List ℕ)
closing_lines closing = end_text closing.end ∷ steps_text closing.steps ∷ fingerprint_text (codes "output") closing.output ∷ []

abbrev pub record_lines : RecordValue → List (List ℕ)
record_lines told =
    title ∷ fingerprint_text (codes "image") told.image ∷ fingerprint_text (codes "input") told.input ∷ (map turn_text told.turns ++ closing_lines told.closing)

unfoldable pub record_text : RecordValue → List ℕ
record_text told = flat_map ended (record_lines told)

-- ---- as it is read

-- the second step, if the first gave a value
abbrev pub on_ok : {A B : Type 0} → (A → Result B RecordFault) → Result A RecordFault → Result B RecordFault
on_ok f (Ok x) = f x
on_ok f (Err fault) = Err fault

abbrev pub said : {A : Type 0} → ℕ → List (List ℕ) → Option A → Result (A × List (List ℕ)) RecordFault
said number lines None = Err (BadLine number)
said number lines (Some x) = Ok (x, lines)

-- what the next line says, which has this number, and the lines after it
unfoldable pub next_of : {A : Type 0} → (List ℕ → Option A) → ℕ → List (List ℕ) → Result (A × List (List ℕ)) RecordFault
next_of says number [] = Err (BadLine number)
next_of says number (line ∷ lines) = said number lines (says line)

abbrev pub turn_before : Option Turn → List Turn → List Turn
turn_before None turns = []
turn_before (Some turn) turns = turn ∷ turns

-- the turns of the first lines, as far as these are turns
unfoldable pub turns_of : List (List ℕ) → List Turn
turns_of [] = []
turns_of (line ∷ lines) = turn_before (turn_of line) (turns_of lines)

-- the lines after those
unfoldable pub behind_turns : List (List ℕ) → List (List ℕ)
behind_turns [] = []
behind_turns (line ∷ lines) = cond (is_some (turn_of line)) (behind_turns lines) (line ∷ lines)

-- no line is left
abbrev pub alone : ℕ → List (List ℕ) → Closing → Result Closing RecordFault
alone number [] closing = Ok closing
alone number (line ∷ lines) closing = Err (BadLine number)

-- the last lines, the first of which has this number
unfoldable pub closing_of : ℕ → List (List ℕ) → Result Closing RecordFault
closing_of number lines =
    on_ok (λ end. on_ok (λ steps. on_ok (λ output.
    alone (number + 3) output.1 (record { end = end.0; steps = steps.0; output = output.0 }))
    (next_of (fingerprint_of (codes "output")) (number + 2) steps.1)) (next_of steps_of (number + 1) end.1)) (next_of end_of number lines)

-- turns and last lines
unfoldable pub rest_of : Fingerprint → Fingerprint → List (List ℕ) → Result RecordValue RecordFault
rest_of image input lines =
    on_ok (λ closing. Ok (record { image = image; input = input; turns = turns_of lines; closing = closing }))
    (closing_of (length (turns_of lines) + 4) (behind_turns lines))

-- the lines after the first
unfoldable pub body_of : List (List ℕ) → Result RecordValue RecordFault
body_of lines =
    on_ok (λ image. on_ok (λ input. rest_of image.0 input.0 input.1)
    (next_of (fingerprint_of (codes "input")) 3 image.1)) (next_of (fingerprint_of (codes "image")) 2 lines)

-- the last line of a text has an end
abbrev pub is_ended : List ℕ → Bool
is_ended [] = false
is_ended (c ∷ []) = c == 10
is_ended (c ∷ d ∷ text) = is_ended (d ∷ text)

abbrev pub titled : Bool → List (List ℕ) → Result RecordValue RecordFault
titled whole [] = Err NotARecord
titled whole (line ∷ lines) = cond (bytes_eq line title) (cond whole (body_of lines) (Err Cut)) (Err NotARecord)

-- the record that a text is, or why it is none: the first line that is none of a record
unfoldable pub record_of : List ℕ → Result RecordValue RecordFault
record_of text = titled (is_ended text) (lines_of text)
