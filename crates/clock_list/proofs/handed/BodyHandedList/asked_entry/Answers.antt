-- the entry that is asked stands in the list
use Rattle.std.proofs.Common.{sym}
use Rattle.clock_list.specs.BodyState.{state_of}
use Rattle.clock_policy.proofs.ListedLaws.{asked_listed}
use Rattle.clock_list.proofs.handed.BodyHandedList.asked_entry.Goals as goal

pub found-requires : goal.found-requires
found-requires c = asked_listed (state_of c.args.self.now) c.in-Some.entry (sym c.in-Some.ensures)
