use Rattle.std.proofs.Common.{None, Some, [], refl, ◌∙◌}
use Rattle.debug_core.specs.Debugging.{opening_moment}
use Rattle.debug_core.specs.Limits.{CannotRecord}
use Rattle.debug_core.specs.Stops.{IsFullAt, Moment}
use Rattle.debug_core.proofs.Passing.{advances_by, last_of_more, passes_more, seen_unlooked, stops_as}
use Rattle.debug_core.proofs.Room.{room_here, room_more}
use Rattle.debug_core.proofs.running.run.Goals as goal

pub steps-init : goal.steps-init
steps-init g c =
    let first : Moment = opening_moment c.args.alone (g.T.Target.shown c.args.target.now) c.args.turn.now in
    let passed = c.in-Ok.ensures.passed in
    record {
      was = passed.was;
      passes = passed.passes;
      seen = seen_unlooked (g.T.Target.limits c.args.target.now) c.args.points.now c.args.limit c.in-Ok.taken.steps first
          (record { process = g.T.Target.shown c.take_at_once.new.target; turn = c.take_at_once.new.turn; was = passed.was; alone = c.args.alone }) c.requires.few c.requires.points refl passed.passes c.in-Ok.ensures.unseen;
      room = refl;
      recorded = c.in-Ok.ensures.recorded;
      last = c.in-Ok.ensures.last;
      live = c.take_at_once.ensures.live;
      lone = c.take_at_once.ensures.alone;
    }

pub steps-preserved : goal.steps-preserved
steps-preserved g c =
    let shown = g.T.Target.shown in
    let limits = g.T.Target.limits in
    let first : Moment = opening_moment c.args.alone (shown c.args.target.now) c.args.turn.now in
    let now : Moment = record { process = shown c.steps.target; turn = c.steps.turn; was = c.steps.invariant.was; alone = c.args.alone } in
    let next : Moment = record { process = shown c.advance.new.target; turn = c.advance.new.turn; was = (shown c.steps.target).memory; alone = c.args.alone } in
    let goes =
    advances_by shown limits (limits c.steps.target (CannotRecord [] c.steps.turn)) c.in-Ok-None.field-0 None c.args.points.now c.args.limit c.steps.steps now c.advance.new.turn (shown c.advance.new.target) c.in-Ok-None.field-0-is
    (c.in-Ok-None.ensures.advances c.steps.invariant.was c.steps.invariant.seen) in
    let here = room_here (limits c.args.target.now) (limits c.steps.target) c.steps.steps first c.steps.turn c.steps.invariant.recorded in
    record {
      was = (shown c.steps.target).memory;
      passes =
          passes_more (limits c.args.target.now) c.args.points.now c.args.limit c.steps.steps first now next c.steps.invariant.passes goes.0 (λ full. goes.1.1 (here.1 full)) goes.1.0
          (c.in-Ok-None.ensures.goes_on c.in-Ok-None.field-0-is);
      seen = c.in-Ok-None.ensures.seen c.in-Ok-None.field-0-is;
      room = c.in-Ok-None.ensures.room ∙ c.steps.invariant.room;
      recorded =
          room_more (limits c.args.target.now) (limits c.steps.target) (limits c.advance.new.target) c.steps.steps first now c.steps.invariant.passes.reached c.steps.invariant.recorded
          (c.in-Ok-None.ensures.recorded c.in-Ok-None.field-0-is);
      last = last_of_more c.steps.steps first now c.steps.invariant.passes.reached;
      live = c.in-Ok-None.ensures.live;
      lone = λ on. c.in-Ok-None.ensures.alone on ∙ c.steps.invariant.lone on;
    }

pub returns-in-Ok-Some-clause-stops : goal.returns-in-Ok-Some-clause-stops
returns-in-Ok-Some-clause-stops g c =
    let shown = g.T.Target.shown in
    let limits = g.T.Target.limits in
    let first : Moment = opening_moment c.args.alone (shown c.args.target.now) c.args.turn.now in
    let now : Moment = record { process = shown c.steps.target; turn = c.steps.turn; was = c.steps.invariant.was; alone = c.args.alone } in
    let full = limits c.steps.target (CannotRecord [] c.steps.turn) in
    let stop =
    advances_by shown limits full c.in-Ok-Some.field-0 (Some c.in-Ok-Some.why) c.args.points.now c.args.limit c.steps.steps now c.advance.new.turn (shown c.advance.new.target) c.in-Ok-Some.field-0-is
    (c.in-Ok-Some.ensures.advances c.steps.invariant.was c.steps.invariant.seen) in
    record {
      now = now;
      passes = c.steps.invariant.passes;
      stops =
          stops_as shown limits full (IsFullAt (limits c.args.target.now) c.steps.steps first now)
          (room_here (limits c.args.target.now) (limits c.steps.target) c.steps.steps first c.steps.turn c.steps.invariant.recorded)
          c.in-Ok-Some.why c.args.points.now c.args.limit c.steps.steps now (shown c.advance.new.target) stop.0;
      turn_is = stop.1;
    }

pub returns-in-Err-advance-clause-wants : goal.returns-in-Err-advance-clause-wants
returns-in-Err-advance-clause-wants g c =
    let shown = g.T.Target.shown in
    let limits = g.T.Target.limits in
    let here = room_here (limits c.args.target.now) (limits c.steps.target) c.steps.steps (opening_moment c.args.alone (shown c.args.target.now) c.args.turn.now) c.steps.turn c.steps.invariant.recorded in
    record {
      now = record { process = shown c.steps.target; turn = c.steps.turn; was = c.steps.invariant.was; alone = c.args.alone };
      passes = c.steps.invariant.passes;
      none = c.in-Err-advance.ensures.wants c.steps.invariant.was c.steps.invariant.seen;
      recordable = λ full. c.in-Err-advance.ensures.err.1.1 (here.1 full);
      process_is = c.in-Err-advance.ensures.err.0;
      turn_is = c.in-Err-advance.ensures.err.1.0;
    }
