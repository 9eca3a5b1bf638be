-- A free slot is at hand while the page is copied.
use Rattle.std.proofs.Common.{IsNone, refl, sym, arith, subst}
use Rattle.machine_sides.proofs.SpareSlots.{page_copied}
use Rattle.machine_sides.proofs.cleaning.copy_page.Goals as goal

pub returns-clause-copied : goal.returns-clause-copied
returns-clause-copied g c =
    page_copied c.args.vpn c.args.space.now c.copy_clean-copied.new.self c.args.slots.now c.take-spare.new.self c.put_back.new.slots c.take-spare.result c.copy_clean-copied.new.spare c.copy_clean-copied.result c.requires.small
    (c.copy_clean-copied.ensures.answer (subst IsNone (sym c.requires.live) refl)) c.copy_clean-copied.ensures.copies c.copy_clean-copied.ensures.same c.copy_clean-copied.ensures.stays
    (let count = c.len.ensures.free in let within = c.len.ensures.within in omega (arith, count, within)) c.take-spare.ensures.empty c.take-spare.ensures.taken c.take-spare.ensures.none c.take-spare.ensures.size c.put_back.ensures
