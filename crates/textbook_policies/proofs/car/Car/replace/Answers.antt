use Rattle.std.proofs.Common.{◌∙◌}
use Rattle.textbook_policies.specs.Car.{clocks_of}
use Rattle.textbook_policies.proofs.CarLaws.{replaced_more}
use Rattle.textbook_policies.proofs.car.Car.replace.Goals as goal

pub loop-turn-preserved : goal.loop-turn-preserved
loop-turn-preserved c = record {
  clocks = replaced_more c.args.turns c.loop-turn._turn (clocks_of c.loop-turn.self) (clocks_of c.pass_head.new.self) c.loop-turn-test.true c.if-not-is_head_used.ensures c.in_ok-pass_head.ensures.clocks
      ∙ c.loop-turn.invariant.clocks;
  frames = c.pass_head.ensures.frames ∙ c.loop-turn.invariant.frames;
}
