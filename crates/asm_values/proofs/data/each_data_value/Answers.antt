use Rattle.std.proofs.Common.{arith, ◌≡◌, ◌<◌, ◌≤◌, ◌∷◌, [], ◌++◌, Ok, Err, length}
use Rattle.std.proofs.lemmas.Grind.{common_steps}
use Rattle.asm_lines.specs.declared.fault.FaultKind.{FaultKind}
use Rattle.asm_values.specs.Directives.{each_of, data_value}
use Rattle.asm_values.proofs.EachLaws.{each_of_starts, each_of_goes_on, each_of_stops, each_of_ends}
use Rattle.asm_values.proofs.data.each_data_value.Goals as goal

pub loop-operand-init : goal.loop-operand-init
loop-operand-init c = let e = each_of_starts (each_of (data_value c.args.size) c.args.operands.now) in cc

pub returns-in_err-value-clause-refusal : goal.returns-in_err-value-clause-refusal
returns-in_err-value-clause-refusal c =
    let within : c.loop-operand.operand-index < length c.args.operands.now = omega arith in
    let stop : (fault : FaultKind) → data_value c.args.size c.operand-item.result ≡ Err fault → each_of (data_value c.args.size) c.args.operands.now ≡ Err fault =
    λ fault gives. each_of_stops (data_value c.args.size) c.args.operands.now c.loop-operand.values.items c.loop-operand.operand-index c.operand-item.result fault
    c.loop-operand.invariant within c.operand-item.is gives in
    grind (arith, common_steps, stop)

pub loop-operand-preserved : goal.loop-operand-preserved
loop-operand-preserved c =
    let within : c.loop-operand.operand-index < length c.args.operands.now = omega arith in
    let gives : data_value c.args.size c.operand-item.result ≡ Ok c.in_ok-value.value = grind arith in
    let pushed : c.push.new.self.items ≡ c.loop-operand.values.items ++ c.in_ok-value.value ∷ [] = grind arith in
    let e = each_of_goes_on (data_value c.args.size) c.args.operands.now c.loop-operand.values.items c.loop-operand.operand-index c.operand-item.result c.in_ok-value.value
    c.loop-operand.invariant within c.operand-item.is gives in cc

pub returns-clause-values : goal.returns-clause-values
returns-clause-values c =
    let past : length c.args.operands.now ≤ c.loop-operand.operand-index = omega arith in
    each_of_ends (data_value c.args.size) c.args.operands.now c.loop-operand.values.items c.loop-operand.operand-index c.loop-operand.invariant past
