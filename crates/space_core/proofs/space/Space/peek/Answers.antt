use Rattle.std.proofs.Common.{◌≡◌, ◌<◌, ◌^◌, Some, subst, arith}
use Rattle.std.specs.Prelude.{OnOk, length}
use Rattle.page_memory.specs.Words.{page_number}
use Rattle.flat_machine.specs.Process.{Process, flat_run, opening}
use Rattle.flat_machine.specs.Schedule.{written_out}
use Rattle.paged_memory.specs.Peeking.{bytes_of}
use Rattle.paged_memory.proofs.ShowingLaws.{peeked_given_up}
use Rattle.paged_memory.specs.cleaning.Copies.{LeavesCopies}
use Rattle.paged_memory.proofs.move_laws.ComeLaws.{looked_alike}
use Rattle.space_core.specs.StandsFor.{SpaceValue}
use Rattle.space_core.proofs.PagingSpaces.{bytes_flat}
use Rattle.space_core.proofs.CodeSpaces.{decoded_pages_moved}
use Rattle.space_core.proofs.space.Space.peek.Goals as goal

pub invariant_of-self : goal.invariant_of-self
invariant_of-self g c =
    let inside : SpaceValue g.row.S.Denot = record { image = c.self.inside.image; input = c.self.inside.input; running = c.self.inside.recorded.running; schedule = c.self.inside.recorded.schedule; memory = c.self.inside.memory; purged = c.self.inside.purged } in
    let did = c.peek.ensures in
    decoded_pages_moved g.S.SwapSlot.content g.S.SwapSlot.honest c.self.inside.decoded inside c.peek.new.self did.stays did.memory did.read_only
    (peeked_given_up g.S.SwapSlot.content g.S.SwapSlot.honest (page_number c.args.address) inside.memory c.peek.new.self did.left) c.self.invariant

pub returns-clause-flat : goal.returns-clause-flat
returns-clause-flat g c is_honest =
    let inside : SpaceValue g.row.S.Denot = record { image = c.self.inside.image; input = c.self.inside.input; running = c.self.inside.recorded.running; schedule = c.self.inside.recorded.schedule; memory = c.self.inside.memory; purged = c.self.inside.purged } in
    let small : page_number c.args.address < 2 ^ 20 = omega arith in
    subst (λ (v : SpaceValue g.row.S.Denot). OnOk c.peek.result ((flat : Process) → flat_run (written_out v.schedule) (opening v.image v.input) ≡ Some flat → bytes_of flat.memory c.args.address (length c.args.bytes.now) ≡ Some c.peek.new.bytes)) c.self.view_is
    (bytes_flat g.S.SwapSlot.content g.S.SwapSlot.honest inside c.args.address (length c.args.bytes.now) c.peek.new.bytes c.peek.result small is_honest c.self.invariant.space c.peek.ensures.bytes)

pub returns-clause-copies : goal.returns-clause-copies
returns-clause-copies g c =
    subst (λ (v : SpaceValue g.row.S.Denot). LeavesCopies v.memory c.peek.new.self) c.self.view_is
    ((looked_alike g.S.SwapSlot.content g.S.SwapSlot.honest c.args.address c.self.inside.memory c.peek.new.self (omega arith) c.peek.ensures.stays c.peek.ensures.left).copies)
