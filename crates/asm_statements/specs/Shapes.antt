-- The operands of statements, by their shapes: none where the operands are others in number or kind, or where a
-- register's name is unknown. A place for a label takes any name.
use Rattle.std.specs.Prelude.{ℕ, ℤ, List, [], ◌∷◌, Option, Some, None, option_map}
use Rattle.std.specs.Option.{option_zip}
use Rattle.asm_values.specs.Registers.{register_of}
use Rattle.asm_values.specs.Operands.{number_operand}
use Rattle.asm_lines.specs.declared.operand.Operand.{Operand}
use Rattle.asm_lines.specs.declared.operand.Operand.TheVariants.{Name, Indexed, Indirect}

-- ---- one operand

unfoldable pub register_operand : Operand → Option ℕ
register_operand (Name name) = register_of name
register_operand _ = None

unfoldable pub label : Operand → Option (List ℕ)
label (Name name) = Some name
label _ = None

-- `n(rs1)`
unfoldable pub indexed : Operand → Option (ℤ × ℕ)
indexed (Indexed offset base) = option_map (λ rs1. (offset, rs1)) (register_of base)
indexed _ = None

-- `(rs1)`
unfoldable pub indirect : Operand → Option ℕ
indirect (Indirect base) = register_of base
indirect _ = None

-- ---- all operands of a statement

abbrev pub zip_three : {A B C : Type 0} → Option A → Option B → Option C → Option (A × B × C)
zip_three (Some a) (Some b) (Some c) = Some (a, b, c)
zip_three _ _ _ = None

-- `rs1`
unfoldable pub one_register : List Operand → Option ℕ
one_register (a ∷ []) = register_operand a
one_register _ = None

-- `rd, rs1`
unfoldable pub two_registers : List Operand → Option (ℕ × ℕ)
two_registers (a ∷ b ∷ []) = option_zip (register_operand a) (register_operand b)
two_registers _ = None

-- `rd, rs1, rs2`
unfoldable pub three_registers : List Operand → Option (ℕ × ℕ × ℕ)
three_registers (a ∷ b ∷ c ∷ []) = zip_three (register_operand a) (register_operand b) (register_operand c)
three_registers _ = None

-- `rd, rs1, n`
unfoldable pub two_registers_number : List Operand → Option (ℕ × ℕ × ℤ)
two_registers_number (a ∷ b ∷ c ∷ []) = zip_three (register_operand a) (register_operand b) (number_operand c)
two_registers_number _ = None

-- `rd, n`
unfoldable pub register_number : List Operand → Option (ℕ × ℤ)
register_number (a ∷ b ∷ []) = option_zip (register_operand a) (number_operand b)
register_number _ = None

-- `n, rd, rs1`
unfoldable pub number_two_registers : List Operand → Option (ℤ × ℕ × ℕ)
number_two_registers (a ∷ b ∷ c ∷ []) = zip_three (number_operand a) (register_operand b) (register_operand c)
number_two_registers _ = None

-- `rd, n(rs1)`
unfoldable pub register_indexed : List Operand → Option (ℕ × (ℤ × ℕ))
register_indexed (a ∷ b ∷ []) = option_zip (register_operand a) (indexed b)
register_indexed _ = None

-- `rd, (rs1)`
unfoldable pub register_indirect : List Operand → Option (ℕ × ℕ)
register_indirect (a ∷ b ∷ []) = option_zip (register_operand a) (indirect b)
register_indirect _ = None

-- `rd, rs2, (rs1)`
unfoldable pub two_registers_indirect : List Operand → Option (ℕ × ℕ × ℕ)
two_registers_indirect (a ∷ b ∷ c ∷ []) = zip_three (register_operand a) (register_operand b) (indirect c)
two_registers_indirect _ = None

-- `label`
unfoldable pub one_label : List Operand → Option (List ℕ)
one_label (a ∷ []) = label a
one_label _ = None

-- `rd, label`
unfoldable pub register_label : List Operand → Option (ℕ × List ℕ)
register_label (a ∷ b ∷ []) = option_zip (register_operand a) (label b)
register_label _ = None

-- `rs1, rs2, label`
unfoldable pub two_registers_label : List Operand → Option (ℕ × ℕ × List ℕ)
two_registers_label (a ∷ b ∷ c ∷ []) = zip_three (register_operand a) (register_operand b) (label c)
two_registers_label _ = None
