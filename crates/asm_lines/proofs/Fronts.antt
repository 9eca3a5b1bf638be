-- What follows a token stays shorter where the text was longer still.
use Rattle.std.proofs.Common.{ℕ, ◌≤◌, List, length, arith}
use Rattle.asm_lines.specs.declared.front.Front.{Front}
use Rattle.asm_lines.specs.declared.front.Front.TheVariants.{End, Token, Bad}
use Rattle.asm_lines.specs.Fronts.{Shortens}

pub shorter_still : (front : Front) (rest text : List ℕ) → Shortens front rest → length rest ≤ length text → Shortens front text
shorter_still End rest text shorter within = tt
shorter_still (Token token behind) rest text shorter within = omega (arith, shorter)
shorter_still Bad rest text shorter within = tt
