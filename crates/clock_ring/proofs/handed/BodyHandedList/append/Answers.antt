-- the circle has no cell of a page that the list does not know
use Rattle.std.proofs.Common.{arith}
use Rattle.clock_ring.proofs.CountedLaws.{entries_length}
use Rattle.clock_ring.proofs.StepLaws.{no_cell}
use Rattle.clock_ring.proofs.handed.BodyHandedList.append.Goals as goal

pub append-requires-clause-new : goal.append-requires-clause-new
append-requires-clause-new c = no_cell c.args.entry.key c.args.self.now.ring.cells c.requires.new

pub append-requires-clause-room : goal.append-requires-clause-room
append-requires-clause-room c = omega (arith, entries_length c.args.self.now.ring.cells, c.requires.room)
