-- A program: labels and what is put into the two sections, in the order of the source; and its addresses.
use Rattle.std.specs.Prelude.{ℕ, ◌+◌, ◌*◌, ◌/◌, List, [], ◌∷◌, Option, Some, None, option_map, if◌then◌else◌}
use Rattle.std.specs.Str.{bytes_eq}
use Rattle.page_memory.specs.MemoryMap.{text_start}
use Rattle.asm_statements.specs.declared.section.Section.{Section}
use Rattle.asm_statements.specs.declared.section.Section.TheVariants.{Text, Data}
use Rattle.asm_statements.specs.Parts.{code_length}
use Rattle.asm_values.specs.Lengths.{datum_length}
use Rattle.rv_asm.specs.declared.item.Item.{Item}
use Rattle.rv_asm.specs.declared.item.Item.TheVariants.{Label, InText, InData}
use Rattle.rv_asm.specs.declared.label_place.LabelPlace.{LabelPlace}

-- how many bytes an item takes in a section
abbrev pub item_length : Section → Item → ℕ
item_length section (Label of name) = 0
item_length Text (InText line code) = code_length code
item_length Data (InText line code) = 0
item_length Text (InData line datum) = 0
item_length Data (InData line datum) = datum_length datum

-- how many bytes a program's section has
unfoldable pub size : Section → List Item → ℕ
size section [] = 0
size section (item ∷ items) = item_length section item + size section items

-- the section of a label of this name
abbrev pub section_of_label : List ℕ → Item → Option Section
section_of_label name (Label section other) = if bytes_eq other name then Some section else None
section_of_label name (InText line code) = None
section_of_label name (InData line datum) = None

-- the place of a name in items that begin with this one, from its place in the items after it
abbrev pub place_from : Item → Option Section → Option LabelPlace → Option LabelPlace
place_from item (Some section) below = Some (record { section = section; offset = 0 })
place_from item None below = option_map (λ place. record { section = place.section; offset = item_length place.section item + place.offset }) below

-- where the label of a name is: its section, and how many bytes the section has before it
unfoldable pub label_place : List Item → List ℕ → Option LabelPlace
label_place [] name = None
label_place (item ∷ items) name = place_from item (section_of_label name item) (label_place items name)

-- the most bytes that the text may have, 65536 words, and that the data may have
abbrev pub most_text : ℕ
most_text = 262144

abbrev pub most_data : ℕ
most_data = 1048576

-- the address at which a section begins: the text where text begins, the data at the next multiple of 4096 after it
abbrev pub section_start : List Item → Section → ℕ
section_start items Text = text_start
section_start items Data = (text_start + size Text items + 4095) / 4096 * 4096

-- the address of the label of a name
unfoldable pub address_of : List Item → List ℕ → Option ℕ
address_of items name = option_map (λ place. section_start items place.section + place.offset) (label_place items name)
