-- The iterator gives the locks in their order.
use Rattle.std.proofs.Common.{◌≡◌, ◌<◌, length, sym, ap, ◌∙◌, arith}
use Rattle.std.proofs.lemmas.Iterator.Adapters.{YieldsList-from_vec}
use Rattle.std.proofs.lemmas.Iterator.Consumers.{YieldsList-turn, YieldsList-end}
use Rattle.std.proofs.lemmas.List.{map-id}
use Rattle.reclaim_daemon.proofs.process_locks.unlock_all.Goals as goal

pub push_reserved-requires : goal.push_reserved-requires
push_reserved-requires g c =
    let gives = c.into_iter-lock-iterator.ensures.into_iter_gives in
    let turn = YieldsList-turn (YieldsList-from_vec {s = c.into_iter-lock-iterator.result} c.args.locks.items gives.0 (gives.1 ∙ c.args.locks.ok.0)) c.loop-lock.yielded c.loop-lock.lock-iterator c.loop-lock.yielded_by c.next.result c.next.new.self c.in-Some.lock c.in-Some.is c.next.ensures.steps in
    let less : length c.loop-lock.yielded < length c.args.locks.items = turn.0 in
    omega (arith, less, c.loop-lock.invariant.many, c.loop-lock.invariant.room, c.requires.room, c.args.locks.ok.0, c.loop-lock.all.ok.0)

pub returns : goal.returns
returns g c =
    let gives = c.into_iter-lock-iterator.ensures.into_iter_gives in
    let end = YieldsList-end (YieldsList-from_vec {s = c.into_iter-lock-iterator.result} c.args.locks.items gives.0 (gives.1 ∙ c.args.locks.ok.0)) c.loop-lock.yielded c.loop-lock.lock-iterator c.loop-lock.yielded_by c.next.result c.next.new.self c.in-None.is c.next.ensures.steps in
    let many : length c.loop-lock.yielded ≡ length c.args.locks.items = ap length (sym (map-id c.loop-lock.yielded) ∙ end.0) in
    omega (arith, many, c.loop-lock.invariant.many, c.args.locks.ok.0, c.loop-lock.all.ok.0)
