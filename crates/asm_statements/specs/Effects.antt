-- What a statement does, as a plain value.
use Rattle.std.specs.Prelude.{List}
use Rattle.asm_statements.specs.declared.part.CodePart.{CodePart}
use Rattle.asm_values.specs.declared.datum.Datum.{Datum}
use Rattle.asm_statements.specs.declared.part.Effect.{Effect as EffectCode}
use Rattle.asm_statements.specs.declared.part.Effect.TheVariants.{Enter as EnterCode, Text as TextCode, Data as DataCode}
use Rattle.asm_statements.specs.declared.section.Section.{Section}

-- what a statement does: it enters a section, or puts something into the text or the data
pub data StatementEffect : Type 0 where
  Enter : Section → StatementEffect
  Text : List CodePart → StatementEffect
  Data : List Datum → StatementEffect

abbrev pub effect_value : EffectCode → StatementEffect
effect_value (EnterCode section) = Enter section
effect_value (TextCode parts) = Text parts.items
effect_value (DataCode parts) = Data parts.items
