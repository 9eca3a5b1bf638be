use Rattle.std.proofs.Common.{◌≡◌, drop}
use Rattle.asm_values.specs.Directives.{each_of, data_value}
use Rattle.asm_values.proofs.EachLaws.{continued}
use Rattle.asm_values.proofs.data.each_data_value.Given as goal

abbrev pub invariant-loop-operand : goal.invariant-loop-operand
invariant-loop-operand l =
    each_of (data_value l.size) l.operands ≡ continued l.values.items (each_of (data_value l.size) (drop l.operand-index l.operands))
