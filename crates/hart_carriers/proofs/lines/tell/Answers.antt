use Rattle.std.proofs.Common.{◌≡◌, ◌<◌, length, map, ap, sym, ◌∙◌, arith}
use Rattle.std.proofs.lemmas.Iterator.Adapters.{YieldsList-from_vec}
use Rattle.std.proofs.lemmas.Iterator.Consumers.{YieldsList-end}
use Rattle.std.proofs.lemmas.List.{map-id}
use Rattle.machine_sides.specs.Reporting.{come_to, told}
use Rattle.hart_carriers.proofs.Growing.{comes_more, told_more, told_all, many_more}
use Rattle.hart_carriers.proofs.lines.tell.Goals as goal

pub loop-ran-preserved-then-len-handed : goal.loop-ran-preserved-then-len-handed
loop-ran-preserved-then-len-handed g c =
    let small : length c.loop-ran.told.processes.items < length c.args.handed.now = omega (arith, c.loop-ran.told.processes.ok.0, c.len.ensures, c.if-len-handed.true) in
    record {
      so_far = told_more g.S.SwapSlot.honest c.args.handed.now _ _ c.loop-ran.invariant.so_far c.add.ensures.adds;
      come = comes_more g.S.SwapSlot.honest c.args.handed.now (λ ran. come_to ran.process) c.loop-ran.yielded c.in-Some.ran _ _ c.add.ensures.adds c.add.ensures.told c.loop-ran.invariant.come;
      many = many_more g.S.SwapSlot.honest c.args.handed.now _ _ c.add.ensures.adds small;
      room = omega (arith, c.loop-ran.invariant.room, c.add.ensures.room);
      space = omega (arith, c.loop-ran.invariant.space, c.add.ensures.space);
    }

pub returns-clause-stands : goal.returns-clause-stands
returns-clause-stands g c honest all =
    let many : length c.loop-ran.told.processes.items ≡ length c.args.handed.now = omega (arith, c.loop-ran.told.processes.ok.0, c.close.ensures.many all) in
    rw c.close.ensures.processes (told_all g.S.SwapSlot.honest c.args.handed.now _ c.loop-ran.invariant.so_far many honest (c.close.ensures.started all))

pub returns-clause-last : goal.returns-clause-last
returns-clause-last g c = rw (c.close.ensures.processes, c.close.ensures.published) c.loop-ran.invariant.so_far.last

-- the iterator gave all processes
pub returns-clause-told : goal.returns-clause-told
returns-clause-told g c all =
    let gives = c.into_iter-ran-iterator.ensures.into_iter_gives in
    let end = YieldsList-end (YieldsList-from_vec {s = c.into_iter-ran-iterator.result} c.args.processes.items gives.0 (gives.1 ∙ c.args.processes.ok.0)) c.loop-ran.yielded c.loop-ran.ran-iterator c.loop-ran.yielded_by c.next.result c.next.new.self c.in-None.is c.next.ensures.steps in
    ap (λ v. map told v.items) c.close.ensures.processes ∙ c.loop-ran.invariant.come (c.close.ensures.started all) ∙ ap (map (λ ran. come_to ran.process)) (sym (map-id c.loop-ran.yielded) ∙ end.0)
