-- One page after another gives back what it has.
use Rattle.std.proofs.Common.{refl, ◌∙◌, arith}
use Rattle.paged_memory.proofs.move_laws.GivenLaws.{has_given}
use Rattle.paged_memory.proofs.NoticesLaws.{empties_harts}
use Rattle.machine_sides.proofs.PurgeSteps.{none_gave, one_more_gave, slot_fits, all_gave, caches_now, ended_still}
use Rattle.machine_sides.proofs.purging.give_all_back.Goals as goal

pub loop-given-init : goal.loop-given-init
loop-given-init g c = record { gave = none_gave c.args.pager.now c.args.slots.now c.args.space.now; given = λ q low. absurd (omega arith); harts = refl }

pub pool_slot-requires : goal.pool_slot-requires
pool_slot-requires g c = λ some.
    slot_fits c.in-Some.given c.args.pager.now c.loop-given.pager c.args.slots.now c.loop-given.slots c.args.space.now c.loop-given.space c.take_from.new.self c.loop-given.invariant.gave c.in-Some.ensures.given c.requires.room some

pub loop-given-smaller : goal.loop-given-smaller
loop-given-smaller g c =
    let fewer = (has_given c.in-Some.given c.loop-given.space.memory c.take_from.new.self.memory c.in-Some.ensures.given).fewer in
    omega (arith, fewer)

pub loop-given-preserved : goal.loop-given-preserved
loop-given-preserved g c =
    let emptied = caches_now c.args.space.now c.loop-given.space c.take_from.new.self c.in-Some.ensures.ended c.loop-given.invariant.harts c.take_from.ensures.caches in
    record {
      gave = one_more_gave c.in-Some.given c.args.pager.now c.loop-given.pager c.free_frame.new.pager c.args.slots.now c.loop-given.slots c.pool_slot.new.slots
          c.args.space.now c.loop-given.space c.take_from.new.self c.loop-given.invariant.gave c.in-Some.ensures.given c.take_from.ensures.stays c.take_from.ensures.process (c.take_from.ensures.tabled, c.take_from.ensures.reserved) c.free_frame.ensures c.pool_slot.ensures;
      given = c.in-Some.ensures.next;
      harts = empties_harts c.args.space.now.memory c.take_from.new.self.memory emptied;
    }

pub returns : goal.returns
returns g c =
    all_gave c.args.pager.now c.loop-given.pager c.args.slots.now c.loop-given.slots c.args.space.now c.loop-given.space c.take_from.new.self c.loop-given.invariant.gave
    (ended_still c.args.pager.now c.loop-given.pager c.args.slots.now c.loop-given.slots c.args.space.now c.loop-given.space c.loop-given.invariant.gave c.requires.ended)
    c.loop-given.invariant.harts c.in_default.ensures.left
    (c.in_default.ensures.none (ended_still c.args.pager.now c.loop-given.pager c.args.slots.now c.loop-given.slots c.args.space.now c.loop-given.space c.loop-given.invariant.gave c.requires.ended))
