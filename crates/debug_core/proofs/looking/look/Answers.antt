use Rattle.std.proofs.Common.{None, [], slice_index_or, length-set, ◌≡◌, ◌∙◌, false, below_more, subst, arith}
use Rattle.std.proofs.lemmas.List.{get_or-set_other}
use Rattle.debug_core.specs.Points.{is_hit}
use Rattle.debug_core.specs.Seen.{IsSeen}
use Rattle.debug_core.proofs.Room.{room_twice}
use Rattle.debug_core.proofs.Watching.{position_stops, position_goes_on, position_ends, hit_here, seen_more}
use Rattle.debug_core.proofs.looking.look.Goals as goal

pub returns-then-branch-clause-hit : goal.returns-then-branch-clause-hit
returns-then-branch-clause-hit g c was seen =
    let now = (g.T.Target.shown c.args.target.now).memory in
    position_stops (is_hit was now) c.points.number c.args.points.now None c.points-test.true (c.points.invariant.none was seen)
    (hit_here c.points.number c.args.points.now c.args.seen.now c.points.seen was (g.T.Target.shown c.points.target) (g.T.Target.shown c.args.target.now) c.in_ok-look_at.field-0 c.points-test.true seen
    c.points.invariant.above c.points.invariant.shown c.in_ok-look_at.ensures.hit ∙ c.if-branch.true)

pub points-preserved : goal.points-preserved
points-preserved g c = record {
  room = length-set c.points.seen c.points.number c.look_at.new.seen ∙ c.points.invariant.room;
  shown = c.in_ok-look_at.ensures.shown ∙ c.points.invariant.shown;
  below = seen_more c.points.number c.args.points.now c.points.seen c.look_at.new.seen (g.T.Target.shown c.args.target.now).memory (let room = c.requires.room in let same = c.points.invariant.room in omega (arith, c.points-test.true))
      c.points.invariant.below (subst (λ s. IsSeen (slice_index_or c.args.points.now c.points.number None) c.look_at.new.seen s.memory) c.points.invariant.shown c.in_ok-look_at.ensures.seen);
  above = λ number h. get_or-set_other c.points.seen c.points.number number c.look_at.new.seen [] (omega (arith, h)) ∙ c.points.invariant.above number (omega (arith, h));
  kept = room_twice (g.T.Target.limits c.args.target.now) (g.T.Target.limits c.points.target) (g.T.Target.limits c.look_at.new.target) c.points.invariant.kept c.in_ok-look_at.ensures.kept;
  passed = λ was seen number within.
      below_more (λ number. is_hit was (g.T.Target.shown c.args.target.now).memory (slice_index_or c.args.points.now number None) ≡ false) c.points.number
      (c.points.invariant.passed was seen)
      (hit_here c.points.number c.args.points.now c.args.seen.now c.points.seen was (g.T.Target.shown c.points.target) (g.T.Target.shown c.args.target.now) c.in_ok-look_at.field-0 c.points-test.true seen
      c.points.invariant.above c.points.invariant.shown c.in_ok-look_at.ensures.hit ∙ c.if-branch.false) number within;
  none = λ was seen.
      position_goes_on (is_hit was (g.T.Target.shown c.args.target.now).memory) c.points.number c.args.points.now None c.points-test.true (c.points.invariant.none was seen)
      (hit_here c.points.number c.args.points.now c.args.seen.now c.points.seen was (g.T.Target.shown c.points.target) (g.T.Target.shown c.args.target.now) c.in_ok-look_at.field-0 c.points-test.true seen
      c.points.invariant.above c.points.invariant.shown c.in_ok-look_at.ensures.hit ∙ c.if-branch.false);
}

pub returns-clause-hit : goal.returns-clause-hit
returns-clause-hit g c was seen = position_ends (is_hit was (g.T.Target.shown c.args.target.now).memory) c.points.number c.args.points.now (omega (arith, c.points-test.false)) (c.points.invariant.none was seen)

pub returns-clause-seen : goal.returns-clause-seen
returns-clause-seen g c none = λ number within. c.points.invariant.below number (omega (arith, within, c.points-test.false))

pub returns-then-branch-clause-kept : goal.returns-then-branch-clause-kept
returns-then-branch-clause-kept g c = room_twice (g.T.Target.limits c.args.target.now) (g.T.Target.limits c.points.target) (g.T.Target.limits c.look_at.new.target) c.points.invariant.kept c.in_ok-look_at.ensures.kept
