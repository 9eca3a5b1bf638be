use Rattle.std.proofs.Common.{arith, ◌≡◌, ◌<◌, ◌≤◌, ◌∷◌, [], ◌++◌, Ok, Err, length}
use Rattle.std.proofs.lemmas.Grind.{common_steps}
use Rattle.asm_lines.specs.declared.fault.FaultKind.{FaultKind}
use Rattle.asm_values.specs.Directives.{each_of}
use Rattle.asm_statements.specs.Lists.{text_word}
use Rattle.asm_values.proofs.EachLaws.{each_of_starts, each_of_goes_on, each_of_stops, each_of_ends}
use Rattle.asm_statements.proofs.lists.each_text_word.Goals as goal

pub loop-operand-init : goal.loop-operand-init
loop-operand-init c = let e = each_of_starts (each_of text_word c.args.operands.now) in cc

pub returns-in_err-word-clause-refusal : goal.returns-in_err-word-clause-refusal
returns-in_err-word-clause-refusal c =
    let within : c.loop-operand.operand-index < length c.args.operands.now = omega arith in
    let stop : (fault : FaultKind) → text_word c.operand-item.result ≡ Err fault → each_of text_word c.args.operands.now ≡ Err fault =
    λ fault gives. each_of_stops text_word c.args.operands.now c.loop-operand.words.items c.loop-operand.operand-index c.operand-item.result fault
    c.loop-operand.invariant within c.operand-item.is gives in
    grind (arith, common_steps, stop)

pub loop-operand-preserved : goal.loop-operand-preserved
loop-operand-preserved c =
    let within : c.loop-operand.operand-index < length c.args.operands.now = omega arith in
    let gives : text_word c.operand-item.result ≡ Ok c.in_ok-word.word = grind arith in
    let pushed : c.push.new.self.items ≡ c.loop-operand.words.items ++ c.in_ok-word.word ∷ [] = grind arith in
    let e = each_of_goes_on text_word c.args.operands.now c.loop-operand.words.items c.loop-operand.operand-index c.operand-item.result c.in_ok-word.word
    c.loop-operand.invariant within c.operand-item.is gives in cc

pub returns-clause-words : goal.returns-clause-words
returns-clause-words c =
    let past : length c.args.operands.now ≤ c.loop-operand.operand-index = omega arith in
    each_of_ends text_word c.args.operands.now c.loop-operand.words.items c.loop-operand.operand-index c.loop-operand.invariant past
