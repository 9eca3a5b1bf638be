-- Pseudo-instructions are the instructions that the assembly programmer's manual has for them.
use Rattle.std.specs.Prelude.{◌≡◌, ℕ, ℤ, pos, negsuc, List, [], ◌∷◌, Option, Some, None, option_map, Result, Ok, codes, refl}
use Rattle.std.specs.Option.{option_zip}
use Rattle.rv_isa.specs.declared.kinds.BranchKind.{BranchKind}
use Rattle.rv_isa.specs.declared.kinds.BranchKind.TheVariants.{Beq, Bne}
use Rattle.rv_isa.specs.declared.kinds.ImmediateKind.TheVariants.{Addi}
use Rattle.rv_isa.specs.declared.instruction.Insn.TheVariants as insn
use Rattle.asm_lines.specs.declared.operand.Operand.TheVariants.{Number, Name, Indexed}
use Rattle.asm_lines.specs.declared.fault.FaultKind.{FaultKind}
use Rattle.asm_statements.specs.declared.part.CodePart.{CodePart}
use Rattle.asm_statements.specs.declared.part.CodePart.TheVariants as code
use Rattle.asm_statements.specs.declared.section.Section.TheVariants.{Text, Data}
use Rattle.asm_statements.specs.Effects.{StatementEffect, Text as TextEffect}
use Rattle.asm_values.specs.Names.{named}
use Rattle.asm_values.specs.Registers.{register_of}
use Rattle.asm_values.specs.Operands.{number_operand}
use Rattle.asm_statements.specs.Shapes.{register_operand, label, indexed, zip_three, one_register, two_registers, two_registers_number, register_indexed, one_label, register_label, two_registers_label}
use Rattle.asm_values.specs.Ranges.{within}
use Rattle.asm_statements.specs.Mnemonics.{mnemonic_of}
use Rattle.asm_values.specs.Answers.{given, map_ok}
use Rattle.asm_statements.specs.Instructions.{code_of, alone, op_immediate, copied, jalr, jal, jump, jump_register, branch, branch_zero}
use Rattle.asm_statements.specs.Statements.{statement_effect, statement_of, meaning, in_text, in_data}
use Rattle.asm_statements.specs.SameStatements.{DoesTheSame}

-- what a part puts into the text
abbrev one_part : Result CodePart FaultKind → Result StatementEffect FaultKind
one_part part = map_ok (λ one. TextEffect (one ∷ [])) part

pub no_operation : DoesTheSame (codes "nop") [] (codes "addi") (Name (codes "zero") ∷ Name (codes "zero") ∷ Number (pos 0) ∷ [])
unfolding statement_effect statement_of mnemonic_of named meaning in_text in_data code_of alone op_immediate two_registers_number register_operand number_operand register_of within
no_operation Text = refl
no_operation Data = refl

pub register_copy : (rd rs1 : List ℕ) → DoesTheSame (codes "mv") (Name rd ∷ Name rs1 ∷ []) (codes "addi") (Name rd ∷ Name rs1 ∷ Number (pos 0) ∷ [])
unfolding statement_effect statement_of mnemonic_of named meaning in_text in_data code_of copied op_immediate two_registers two_registers_number register_operand number_operand within
register_copy rd rs1 Data = refl
register_copy rd rs1 Text = for_registers (register_of rd) (register_of rs1)
  where
    for_registers : (a b : Option ℕ) → one_part (map_ok code.Fixed (given (option_zip a b) (λ r. Ok (insn.OpImmediate Addi r.0 r.1 (pos 0)))))
        ≡ one_part (map_ok code.Fixed (given (zip_three a b (Some (pos 0))) (λ r. map_ok (λ n. insn.OpImmediate Addi r.0 r.1 n) (within (negsuc 2047) (pos 2047) r.2))))
    for_registers (Some a) (Some b) = refl
    for_registers (Some a) None = refl
    for_registers None (Some b) = refl
    for_registers None None = refl

pub plain_jump : (target : List ℕ) → DoesTheSame (codes "j") (Name target ∷ []) (codes "jal") (Name (codes "zero") ∷ Name target ∷ [])
unfolding statement_effect statement_of mnemonic_of named meaning in_text in_data code_of jump jal one_label register_label register_operand label register_of
plain_jump target Text = refl
plain_jump target Data = refl

pub plain_call : (target : List ℕ) → DoesTheSame (codes "call") (Name target ∷ []) (codes "jal") (Name (codes "ra") ∷ Name target ∷ [])
unfolding statement_effect statement_of mnemonic_of named meaning in_text in_data code_of jump jal one_label register_label register_operand label register_of
plain_call target Text = refl
plain_call target Data = refl

pub register_jump : (rs1 : List ℕ) → DoesTheSame (codes "jr") (Name rs1 ∷ []) (codes "jalr") (Name (codes "zero") ∷ Indexed (pos 0) rs1 ∷ [])
unfolding statement_effect statement_of mnemonic_of named meaning in_text in_data code_of jump_register jalr one_register register_indexed register_operand indexed register_of within
register_jump rs1 Data = refl
register_jump rs1 Text = for_register (register_of rs1)
  where
    for_register : (a : Option ℕ) → one_part (map_ok code.Fixed (given a (λ r. Ok (insn.Jalr 0 r (pos 0)))))
        ≡ one_part (map_ok code.Fixed (given (option_zip {U = ℤ × ℕ} (Some 0) (option_map (λ r. (pos 0, r)) a)) (λ r. map_ok (λ n. insn.Jalr r.0 r.1.1 n) (within (negsuc 2047) (pos 2047) r.1.0))))
    for_register (Some a) = refl
    for_register None = refl

pub plain_return : DoesTheSame (codes "ret") [] (codes "jalr") (Name (codes "zero") ∷ Indexed (pos 0) (codes "ra") ∷ [])
unfolding statement_effect statement_of mnemonic_of named meaning in_text in_data code_of alone jalr register_indexed register_operand indexed register_of within
plain_return Text = refl
plain_return Data = refl

-- a branch by a register's distance from zero
zero_branch : (kind : BranchKind) (target : List ℕ) (a : Option ℕ) → one_part (given (option_zip a (Some target)) (λ r. Ok (code.Branch kind r.0 0 r.1)))
    ≡ one_part (given (zip_three a (Some 0) (Some target)) (λ r. Ok (code.Branch kind r.0 r.1 r.2)))
zero_branch kind target (Some a) = refl
zero_branch kind target None = refl

pub branch_if_zero : (rs1 target : List ℕ) → DoesTheSame (codes "beqz") (Name rs1 ∷ Name target ∷ []) (codes "beq") (Name rs1 ∷ Name (codes "zero") ∷ Name target ∷ [])
unfolding statement_effect statement_of mnemonic_of named meaning in_text in_data code_of branch branch_zero register_label two_registers_label register_operand label register_of
branch_if_zero rs1 target Data = refl
branch_if_zero rs1 target Text = zero_branch Beq target (register_of rs1)

pub branch_if_not_zero : (rs1 target : List ℕ) → DoesTheSame (codes "bnez") (Name rs1 ∷ Name target ∷ []) (codes "bne") (Name rs1 ∷ Name (codes "zero") ∷ Name target ∷ [])
unfolding statement_effect statement_of mnemonic_of named meaning in_text in_data code_of branch branch_zero register_label two_registers_label register_operand label register_of
branch_if_not_zero rs1 target Data = refl
branch_if_not_zero rs1 target Text = zero_branch Bne target (register_of rs1)
