use Rattle.std.proofs.Common.{arith, ap, length}
use Rattle.env_calls.specs.Environment.{Environment}
use Rattle.flat_machine.proofs.StepLaws.{whole_alone}
use Rattle.space_core.specs.RunningValue.{with_memory}
use Rattle.space_core.proofs.running.Running.new.Goals as goal

pub invariant_of-result : goal.invariant_of-result
invariant_of-result c = record {
  whole = λ memory. whole_alone (with_memory (record { harts = c.push_reserved.new.self.items; environment = c.new.result; ending = _ }) memory)
      (omega (arith, ap length (c.push_reserved.ensures.items), ap length c.in_ok-harts.ensures.items)) (ap (λ (e : Environment). e.live) c.new.ensures);
  roomy = (let same = c.push_reserved.ensures.capacity in let before = c.in_ok-harts.ensures.capacity in omega arith);
}
