-- The iterator gives the processes in their order.
use Rattle.std.proofs.Common.{◌≡◌, ◌<◌, length, map, refl, sym, ap, ◌∙◌, arith, subst}
use Rattle.std.proofs.lemmas.Iterator.Adapters.{YieldsList-from_vec}
use Rattle.std.proofs.lemmas.Iterator.Consumers.{YieldsList-turn, YieldsList-end}
use Rattle.std.proofs.lemmas.List.{map-id, length-map}
use Rattle.machine_sides.specs.Reporting.{come_to, told}
use Rattle.machine_sides.proofs.Reported.{told_many}
use Rattle.machine_sides.proofs.reporting.into_report.Goals as goal

pub push_reserved-requires : goal.push_reserved-requires
push_reserved-requires g c =
    let gives = c.into_iter-space-iterator.ensures.into_iter_gives in
    let turn = YieldsList-turn (YieldsList-from_vec {s = c.into_iter-space-iterator.result} c.args.spaces.items gives.0 (gives.1 ∙ c.args.spaces.ok.0)) c.spaces.yielded c.spaces.space-iterator c.spaces.yielded_by c.next.result c.next.new.self c.in-Some.space c.in-Some.is c.next.ensures.steps in
    let less : length c.spaces.yielded < length c.args.spaces.items = turn.0 in
    let many = told_many told come_to c.spaces.reports.items c.spaces.yielded c.spaces.invariant.told_so in
    omega (arith, less, many, c.spaces.invariant.room, c.requires.room, c.args.spaces.ok.0, c.spaces.reports.ok.0)
