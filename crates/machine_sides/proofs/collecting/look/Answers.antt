-- The first look takes no slot; the second is made only for a changed page without one.
use Rattle.std.proofs.Common.{◌≡◌, ◌<◌, ◌^◌, arith}
use Rattle.page_store.specs.declared.answer.Collected.TheVariants.{NoSlot}
use Rattle.machine_sides.proofs.Looking.{looked_first, looked_second}
use Rattle.machine_sides.proofs.collecting.look.Goals as goal
use Rattle.machine_sides.proofs.collecting.look.Goals.{in-NoSlot, in_default}

pub returns-then-not-matches-clause-found : goal.returns-then-not-matches-clause-found
returns-then-not-matches-clause-found g c =
    let small : c.args.vpn < 2 ^ 20 = omega arith in
    elim c.match-matches.branch [
      | in-NoSlot w ↦ let a = w.matches-is in let b = c.if-not-matches.true in cc
      | in_default w ↦ looked_first _ _ c.args.vpn small c.args.space.now c.collect-found.new.self c.args.slots.now c.collect-found.new.spare c.collect-found.result c.collect-found.ensures.answer c.collect-found.ensures.stays c.collect-found.ensures.same w.in_default.not-NoSlot
    ]

pub returns-clause-found : goal.returns-clause-found
returns-clause-found g c =
    let small : c.args.vpn < 2 ^ 20 = omega arith in
    let none : c.collect-found.result ≡ NoSlot = elim c.match-matches.branch [ in-NoSlot w ↦ w.in-NoSlot.is | in_default w ↦ let a = w.matches-is in let b = c.if-not-matches.false in cc ] in
    looked_second _ _ c.args.vpn small c.args.space.now c.collect-found.new.self c.collect.new.self c.args.slots.now c.take-spare.new.self c.take-spare.result c.collect.new.spare c.collect-found.new.spare c.collect-found.result c.collect.result
    c.collect-found.ensures.answer c.collect-found.ensures.stays c.collect-found.ensures.same none
    c.collect.ensures.answer c.collect.ensures.stays c.collect.ensures.same c.take-spare.ensures.empty c.take-spare.ensures.taken c.take-spare.ensures.none c.take-spare.ensures.size
