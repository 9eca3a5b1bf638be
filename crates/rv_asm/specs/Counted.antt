-- What the code keeps besides the items of a program: where each name is defined, and how many bytes each section has.
use Rattle.std.specs.Prelude.{◌≡◌, ◌≤◌, ℕ, List}
use Rattle.std.specs.Str.{bytes_eq}
use Rattle.std.specs.HashMap.{HashMap, get_by}
use denote.Ref.{Bor}
use Rattle.asm_statements.specs.declared.section.Section.TheVariants.{Text, Data}
use Rattle.rv_asm.specs.declared.item.Item.{Item}
use Rattle.rv_asm.specs.declared.label_place.LabelPlace.{LabelPlace}
use Rattle.rv_asm.specs.Program.{size, label_place, most_text, most_data}

pub record IsCounted {S : Type 0} (items : List Item) (places : HashMap (Bor (List ℕ)) LabelPlace S) (text bytes : ℕ) : Type 0 where
  pub text_size : text ≡ size Text items
  pub data_size : bytes ≡ size Data items
  pub text_fits : text ≤ most_text
  pub data_fits : bytes ≤ most_data
  pub names : (name : List ℕ) → get_by (λ k. bytes_eq name k.now) places ≡ label_place items name
