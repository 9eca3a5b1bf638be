use Rattle.asm_lines.specs.Tokens.{tokens_of}
use Rattle.asm_lines.proofs.OperandSteps.{no_base}
use Rattle.asm_lines.proofs.operands.number_operand.Goals as goal

pub returns-in_err-base-clause-operand : goal.returns-in_err-base-clause-operand
returns-in_err-base-clause-operand c =
    let opened = rw c.in-Token-Open-default.field-0-is at c.in-Token-Open-default.ensures.token in
    rw c.from_residual.ensures (rw opened (no_base c.args.number (tokens_of c.in-Token-Open-default.rest.now) c.in_err-base.ensures.base))
