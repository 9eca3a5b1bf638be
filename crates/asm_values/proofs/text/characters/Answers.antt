use Rattle.std.proofs.Common.{arith, ◌≡◌, ◌≢◌, ◌<◌, ◌≤◌, ◌∷◌, [], ◌++◌, length, get_or}
use Rattle.asm_values.specs.declared.datum.Datum.TheVariants.{Byte}
use Rattle.asm_values.specs.Directives.{escape}
use Rattle.asm_values.proofs.EscapeLemmas.{unescaped_starts, unescaped_in_escape, unescaped_at_backslash, unescaped_at_other, unescaped_ends}
use Rattle.asm_values.proofs.text.characters.Goals as goal
use Rattle.asm_values.proofs.text.characters.Goals.{then-behind_backslash+in_ok-push, else-behind_backslash+then-character-eq92, else-behind_backslash+else-character-eq92+in_ok-push-2}

pub loop-character-init : goal.loop-character-init
loop-character-init c = let e = unescaped_starts c.args.text.now in cc

pub loop-character-preserved : goal.loop-character-preserved
loop-character-preserved c =
    let here : c.loop-character.character-index < length c.args.text.now = omega arith in
    elim c.if-behind_backslash.branch [
      | then-behind_backslash+in_ok-push w ↦ (
          let pushed : c.if-behind_backslash.bytes.items ≡ c.loop-character.bytes.items ++ Byte (escape (get_or c.args.text.now c.loop-character.character-index 0)) ∷ [] = grind arith in
          let e = unescaped_in_escape c.args.text.now c.loop-character.bytes.items c.loop-character.behind_backslash c.loop-character.character-index
          c.loop-character.invariant here w.if-behind_backslash.true in cc)
      | else-behind_backslash+then-character-eq92 w ↦ (
          let e = unescaped_at_backslash c.args.text.now c.loop-character.bytes.items c.loop-character.behind_backslash c.loop-character.character-index
          c.loop-character.invariant here w.if-behind_backslash.false w.if-character-eq92.true in cc)
      | else-behind_backslash+else-character-eq92+in_ok-push-2 w ↦ (
          let pushed : c.if-behind_backslash.bytes.items ≡ c.loop-character.bytes.items ++ Byte (get_or c.args.text.now c.loop-character.character-index 0) ∷ [] = grind arith in
          let other : get_or c.args.text.now c.loop-character.character-index 0 ≢ 92 = grind arith in
          let e = unescaped_at_other c.args.text.now c.loop-character.bytes.items c.loop-character.behind_backslash c.loop-character.character-index
          c.loop-character.invariant here w.if-behind_backslash.false other in cc)
    ]

pub returns : goal.returns
returns c =
    let past : length c.args.text.now ≤ c.loop-character.character-index = omega arith in
    unescaped_ends c.args.text.now c.loop-character.bytes.items c.loop-character.behind_backslash c.loop-character.character-index c.loop-character.invariant past
