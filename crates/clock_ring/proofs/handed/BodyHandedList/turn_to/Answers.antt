use Rattle.std.proofs.Common.{sym, ap, ◌∙◌}
use Rattle.clock_policy.specs.declared.answer.Bit.{Bit}
use Rattle.clock_policy.specs.declared.answer.Bit.TheVariants.{Zero, One, Gone}
use Rattle.clock_policy.specs.declared.entry.EntryKind.TheVariants.{Cold}
use Rattle.clock_policy.specs.ClockPro.{turned_to}
use Rattle.clock_policy.specs.SingleMoves.{front_turned, front_answered}
use Rattle.clock_policy.proofs.HotMoveLaws.{turned_by_moves}
use Rattle.clock_ring.specs.BodyState.{state_of}
use Rattle.clock_ring.proofs.PassLaws.{held_in, marked_some}
use Rattle.clock_ring.proofs.handed.BodyHandedList.turn_to.Goals as goal

pub turn-requires : goal.turn-requires
turn-requires c = marked_some c.pass_fronts.new.self.ring.cells c.mark.new.self.ring.cells c.args.hot.at c.args.hot.entry Cold c.pass_fronts.ensures.holds c.mark.ensures.cells

pub returns-in-Zero : goal.returns-in-Zero
returns-in-Zero c =
    let b = c.args.self.now in
    record { moved = c.turn.ensures.moved ∙ ap front_turned c.mark.ensures.moved ∙ ap (front_answered Zero c.args.hot.entry.key) c.pass_fronts.ensures.moved ∙ turned_by_moves Zero c.args.hot.entry (state_of b) c.requires.lawful (held_in b.ring.cells c.args.hot.at c.args.hot.entry c.requires.there) ∙ ap (λ (t : Bit). turned_to t c.args.hot.entry (state_of b)) (sym c.in-Zero.is) }

pub returns-in-One : goal.returns-in-One
returns-in-One c =
    let b = c.args.self.now in
    record { moved = c.turn-in-One.ensures.moved ∙ ap (front_answered One c.args.hot.entry.key) c.pass_fronts.ensures.moved ∙ turned_by_moves One c.args.hot.entry (state_of b) c.requires.lawful (held_in b.ring.cells c.args.hot.at c.args.hot.entry c.requires.there) ∙ ap (λ (t : Bit). turned_to t c.args.hot.entry (state_of b)) (sym c.in-One.is) }

pub returns-in-Gone : goal.returns-in-Gone
returns-in-Gone c =
    let b = c.args.self.now in
    record { moved = c.remove.ensures.moved ∙ ap (front_answered Gone c.args.hot.entry.key) c.pass_fronts.ensures.moved ∙ turned_by_moves Gone c.args.hot.entry (state_of b) c.requires.lawful (held_in b.ring.cells c.args.hot.at c.args.hot.entry c.requires.there) ∙ ap (λ (t : Bit). turned_to t c.args.hot.entry (state_of b)) (sym c.in-Gone.is) }
