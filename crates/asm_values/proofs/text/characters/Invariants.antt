use Rattle.std.proofs.Common.{◌≡◌, ◌++◌, map, drop}
use Rattle.asm_values.specs.declared.datum.Datum.TheVariants.{Byte}
use Rattle.asm_values.specs.Directives.{unescaped, unescaped_after}
use Rattle.asm_values.proofs.text.characters.Given as goal

abbrev pub invariant-loop-character : goal.invariant-loop-character
invariant-loop-character l =
    map Byte (unescaped l.text) ≡ l.bytes.items ++ map Byte (unescaped_after l.behind_backslash (drop l.character-index l.text))
