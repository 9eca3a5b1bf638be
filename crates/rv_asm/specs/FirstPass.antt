-- The first pass over a source: line by line to the items of its program, and to the first fault that can be found without addresses.
use Rattle.std.specs.Prelude.{ℕ, ◌+◌, ◌&&◌, nat_le, Bool, true, false, List, [], ◌∷◌, ◌++◌, map, is_some, Result, Ok, Err}
use Rattle.asm_lines.specs.declared.fault.FaultKind.{FaultKind}
use Rattle.asm_lines.specs.declared.fault.FaultKind.TheVariants.{LabelTwice, TooLong}
use Rattle.asm_statements.specs.declared.section.Section.{Section}
use Rattle.asm_statements.specs.declared.section.Section.TheVariants.{Text, Data}
use Rattle.rv_asm.specs.declared.item.Item.{Item}
use Rattle.rv_asm.specs.declared.item.Item.TheVariants.{Label, InText, InData}
use Rattle.asm_lines.specs.Forms.{SourceLine}
use Rattle.asm_statements.specs.Effects.{StatementEffect, Enter, Text as TextEffect, Data as DataEffect}
use Rattle.asm_lines.specs.Lines.{line_form}
use Rattle.rv_asm.specs.LineEffects.{line_effect}
use Rattle.text_lines.specs.Text.{lines_of}
use Rattle.rv_asm.specs.Steps.{FaultAt, chained, on_line}
use Rattle.rv_asm.specs.Program.{size, label_place, most_text, most_data}

-- a program so far, and the section to which the next line belongs
pub record Progress : Type 0 where
  pub section : Section
  pub items : List Item

-- before the first line
abbrev pub no_lines : Progress
no_lines = record { section = Text; items = [] }

-- adds a label, which must not be defined yet
abbrev pub unless_there : Bool → Progress → List ℕ → Result Progress FaultKind
unless_there true progress name = Err LabelTwice
unless_there false progress name = Ok (record progress { items = progress.items ++ Label progress.section name ∷ [] })

unfoldable pub with_label : Progress → List ℕ → Result Progress FaultKind
with_label progress name = unless_there (is_some (label_place progress.items name)) progress name

unfoldable pub with_labels : Progress → List (List ℕ) → Result Progress FaultKind
with_labels progress [] = Ok progress
with_labels progress (name ∷ names) = chained (λ more. with_labels more names) (with_label progress name)

-- the most bytes that the text and the data may have
abbrev pub within_limits : List Item → Bool
within_limits items = nat_le (size Text items) most_text && nat_le (size Data items) most_data

-- an item is added for which there must be room
abbrev pub if_fits : Bool → Progress → Item → Result Progress FaultKind
if_fits true progress item = Ok (record progress { items = progress.items ++ item ∷ [] })
if_fits false progress item = Err TooLong

unfoldable pub with_item : Progress → Item → Result Progress FaultKind
with_item progress item = if_fits (within_limits (progress.items ++ item ∷ [])) progress item

unfoldable pub with_items : Progress → List Item → Result Progress FaultKind
with_items progress [] = Ok progress
with_items progress (item ∷ items) = chained (λ more. with_items more items) (with_item progress item)

-- what a line does to a program
abbrev pub with_effect : ℕ → Progress → StatementEffect → Result Progress FaultKind
with_effect line progress (Enter section) = Ok (record progress { section = section })
with_effect line progress (TextEffect parts) = with_items progress (map (InText line) parts)
with_effect line progress (DataEffect parts) = with_items progress (map (InData line) parts)

abbrev pub with_reading : ℕ → Progress → List (List ℕ) → StatementEffect → Result Progress FaultKind
with_reading line progress labels effect = chained (λ labelled. with_effect line labelled effect) (with_labels progress labels)

-- faults come in the order of their kinds: of the line's form, of its statement, of its labels, of its size
abbrev pub with_form : ℕ → Progress → SourceLine → Result Progress FaultKind
with_form line progress form = chained (with_reading line progress form.labels) (line_effect progress.section form)

unfoldable pub with_line : ℕ → Progress → List ℕ → Result Progress FaultKind
with_line line progress text = chained (with_form line progress) (line_form text)

-- lines after so many others
unfoldable pub with_lines : ℕ → Progress → List (List ℕ) → Result Progress FaultAt
with_lines before progress [] = Ok progress
with_lines before progress (text ∷ below) =
    chained (λ more. with_lines (before + 1) more below) (on_line (before + 1) (with_line (before + 1) progress text))

-- the program of a source
unfoldable pub first_pass : List ℕ → Result Progress FaultAt
first_pass source = with_lines 0 no_lines (lines_of source)
