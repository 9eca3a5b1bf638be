-- the entry that is found stands in the list, and has the key
use Rattle.std.specs.Prelude.{◌≡◌, Some, find}
use Rattle.std.proofs.Common.{ap, ◌∙◌}
use Rattle.clock_policy.specs.declared.entry.Entry.{Entry}
use Rattle.clock_policy.specs.ClockPro.{has_key}
use Rattle.clock_policy.proofs.AdmitLaws.{keyed}
use Rattle.clock_policy.proofs.FindLaws.{found_passes}
use Rattle.clock_policy.proofs.ListedLaws.{found_listed}
use Rattle.clock_list.proofs.handed.BodyHandedList.find.Goals as goal

pub found-requires : goal.found-requires
found-requires c =
    let l = c.args.self.now.entries.items in
    let is : find (has_key c.args.key) l ≡ Some c.in-Some.entry = cc in
    found_listed (has_key c.args.key) l c.in-Some.entry is

pub returns-clause-key : goal.returns-clause-key
returns-clause-key c =
    let l = c.args.self.now.entries.items in
    let is : find (has_key c.args.key) l ≡ Some c.in-Some.entry = cc in
    ap (λ (e : Entry). e.key) c.found.ensures.entry ∙ keyed c.args.key c.in-Some.entry (found_passes (has_key c.args.key) l c.in-Some.entry is)
