-- How the operands of a statement go on behind one of them.
use Rattle.std.proofs.Common.{◌≡◌, ℤ, List, [], ◌∷◌, ◌++◌, Option, Some, None, append_assoc, refl, sym, ap}
use Rattle.std.specs.Option.{option_map, option_and_then}
use Rattle.asm_lines.specs.declared.operand.Operand.{Operand}
use Rattle.asm_lines.specs.declared.token.Token.{Token}
use Rattle.asm_lines.specs.declared.token.Token.TheVariants.{Number, Name, Open, Close}
use Rattle.asm_lines.specs.Tokens.{followed}
use Rattle.asm_lines.specs.Lines.{Due, operands_from}
use Rattle.asm_lines.specs.Readings.{base_of}

-- without a base behind a bracket there are no operands
pub no_base : (number : ℤ) (tokens : Option (List Token)) → option_and_then base_of tokens ≡ None
    → option_and_then (λ behind. operands_from Due (Number number ∷ behind)) (followed (Some Open) tokens) ≡ None
no_base number None none = refl
no_base number (Some []) none = refl
no_base number (Some (Name name ∷ [])) none = refl
no_base number (Some (Name name ∷ Close ∷ tokens)) none = absurd (cc)
no_base number (Some (Name name ∷ token ∷ tokens)) none = refl
no_base number (Some (token ∷ tokens)) none = refl

-- what is read so far, and what the rest gives
abbrev pub joined : List Operand → Option (List Operand) → Option (List Operand)
joined front later = option_map (λ operands. front ++ operands) later

pub one_more : (front : List Operand) (operand : Operand) (later : Option (List Operand))
    → joined front (option_map (λ operands. operand ∷ operands) later) ≡ joined (front ++ operand ∷ []) later
one_more front operand None = refl
one_more front operand (Some operands) = ap Some (sym (append_assoc front (operand ∷ []) operands))
