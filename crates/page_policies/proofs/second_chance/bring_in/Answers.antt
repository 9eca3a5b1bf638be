use Rattle.std.proofs.Common.{◌≡◌, ◌<◌, ◌+◌, length, List, ◌++◌, ◌∷◌, [], true, arith, ap, ◌∙◌}
use Rattle.clock_policy.specs.declared.entry.EntryKind.TheVariants.{Hot}
use Rattle.page_policies.specs.SecondChance.{Slot, slots_of}
use Rattle.page_policies.proofs.SlotLaws.{slots-append, in_nowhere, made_few, length_more}
use Rattle.page_policies.proofs.second_chance.bring_in.Goals as goal

pub append-requires-clause-new : goal.append-requires-clause-new
append-requires-clause-new c = in_nowhere c.args.frames c.args.page c.args.ring.now.cells c.make_room.new.ring.cells c.requires.new c.make_room.ensures.slots

pub append-requires-clause-room : goal.append-requires-clause-room
append-requires-clause-room c =
    let less : length c.make_room.new.ring.cells < c.args.frames = made_few c.args.frames c.args.ring.now.cells c.make_room.new.ring.cells c.requires.some c.requires.few c.make_room.ensures.slots in
    omega (arith, less, c.make_room.ensures.room, c.requires.room)

pub returns-clause-slots : goal.returns-clause-slots
returns-clause-slots c =
    ap slots_of c.append.ensures.cells
    ∙ slots-append c.make_room.new.ring.cells (record { at = c.append.result; entry = record { key = c.args.page; kind = Hot } } ∷ [])
    ∙ ap (λ (l : List Slot). l ++ record { page = c.args.page; used = true } ∷ []) c.make_room.ensures.slots

pub returns-clause-few : goal.returns-clause-few
returns-clause-few c =
    let less : length c.make_room.new.ring.cells < c.args.frames = made_few c.args.frames c.args.ring.now.cells c.make_room.new.ring.cells c.requires.some c.requires.few c.make_room.ensures.slots in
    let more : length c.append.new.self.cells ≡ length c.make_room.new.ring.cells + 1 = ap length c.append.ensures.cells ∙ length_more c.make_room.new.ring.cells (record { at = c.append.result; entry = record { key = c.args.page; kind = Hot } }) in
    omega (arith, less, more)
