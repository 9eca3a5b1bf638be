use Rattle.asm_statements.proofs.PseudoLaws.{no_operation, register_copy, plain_jump, plain_call, register_jump, plain_return, branch_if_zero, branch_if_not_zero}
use Rattle.asm_statements.proofs.laws.pseudo_instructions_are_instructions.Goals as goal

pub returns-clause-nop : goal.returns-clause-nop
returns-clause-nop c = no_operation

pub returns-clause-mv : goal.returns-clause-mv
returns-clause-mv c = register_copy

pub returns-clause-j : goal.returns-clause-j
returns-clause-j c = plain_jump

pub returns-clause-call : goal.returns-clause-call
returns-clause-call c = plain_call

pub returns-clause-jr : goal.returns-clause-jr
returns-clause-jr c = register_jump

pub returns-clause-ret : goal.returns-clause-ret
returns-clause-ret c = plain_return

pub returns-clause-beqz : goal.returns-clause-beqz
returns-clause-beqz c = branch_if_zero

pub returns-clause-bnez : goal.returns-clause-bnez
returns-clause-bnez c = branch_if_not_zero
