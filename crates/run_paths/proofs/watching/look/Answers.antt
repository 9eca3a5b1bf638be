use Rattle.std.proofs.Common.{None, [], length-set, ◌+◌, drop, ◌∙◌, ap, refl, arith}
use Rattle.std.proofs.lemmas.List.{get_or-set_other}
use Rattle.std.specs.Option.{option_or}
use Rattle.std.specs.List.{position_from}
use Rattle.debug_core.specs.Points.{is_hit}
use Rattle.debug_core.proofs.Watching.{hit_here, seen_more}
use Rattle.run_paths.proofs.Looking.{hit_goes_on, hit_ends}
use Rattle.run_paths.proofs.watching.look.Goals as goal

pub points-init : goal.points-init
points-init c = record { room = refl; below = λ number h. absurd (omega (arith, h)); above = λ number h. refl; hit = λ was seen. refl }

pub points-preserved : goal.points-preserved
points-preserved c = record {
  room = length-set c.points.seen c.points.number c.look_at-is_hit.new.seen ∙ c.points.invariant.room;
  below = seen_more c.points.number c.args.points.now c.points.seen c.look_at-is_hit.new.seen c.args.process.now.memory (let room = c.requires.room in let same = c.points.invariant.room in omega (arith, c.points-test.true, room, same))
      c.points.invariant.below c.look_at-is_hit.ensures.seen;
  above = λ number h. get_or-set_other c.points.seen c.points.number number c.look_at-is_hit.new.seen [] (omega (arith, h)) ∙ c.points.invariant.above number (omega (arith, h));
  hit = λ was seen.
      ap (λ o. option_or o (position_from (is_hit was c.args.process.now.memory) (c.points.number + 1) (drop (c.points.number + 1) c.args.points.now))) c.first_hit-hit.ensures
      ∙ hit_goes_on (is_hit was c.args.process.now.memory) c.points.number c.args.points.now None c.points.hit c.look_at-is_hit.result c.points-test.true (c.points.invariant.hit was seen)
      (hit_here c.points.number c.args.points.now c.args.seen.now c.points.seen was c.args.process.now c.args.process.now c.look_at-is_hit.result c.points-test.true seen c.points.invariant.above refl c.look_at-is_hit.ensures.hit);
}

pub returns-clause-hit : goal.returns-clause-hit
returns-clause-hit c was seen = hit_ends (is_hit was c.args.process.now.memory) c.points.number c.args.points.now c.points.hit (omega (arith, c.points-test.false)) (c.points.invariant.hit was seen)

pub returns-clause-seen : goal.returns-clause-seen
returns-clause-seen c = λ number within. c.points.invariant.below number (omega (arith, within, c.points-test.false))
