-- The iterator gives the processes in their order.
use Rattle.std.proofs.Common.{◌≡◌, ◌<◌, ◌++◌, ◌∷◌, [], length, map, sym, ap, ◌∙◌, arith}
use Rattle.std.proofs.lemmas.Iterator.Adapters.{YieldsList-from_vec}
use Rattle.std.proofs.lemmas.Iterator.Consumers.{YieldsList-turn, YieldsList-end}
use Rattle.std.proofs.lemmas.List.{length-map, map-id}
use Rattle.machine_sides.specs.Reporting.{come_to}
use Rattle.hart_carriers.proofs.Growing.{map_push}
use Rattle.hart_carriers.proofs.closing.all_ran.Goals as goal

pub push_reserved-requires : goal.push_reserved-requires
push_reserved-requires g c =
    let gives = c.into_iter-held-iterator.ensures.into_iter_gives in
    let turn = YieldsList-turn (YieldsList-from_vec {s = c.into_iter-held-iterator.result} c.args.processes.items gives.0 (gives.1 ∙ c.args.processes.ok.0)) c.loop-held.yielded c.loop-held.held-iterator c.loop-held.yielded_by c.next.result c.next.new.self c.in-Some.held c.in-Some.is c.next.ensures.steps in
    let less : length c.loop-held.yielded < length c.args.processes.items = turn.0 in
    let many : length c.loop-held.all.items ≡ length c.loop-held.yielded =
    sym (length-map c.loop-held.all.items (λ ran. come_to ran.process)) ∙ ap length c.loop-held.invariant.come ∙ length-map c.loop-held.yielded (λ h. come_to h.side) in
    omega (arith, less, many, c.loop-held.invariant.room, c.requires.room, c.args.processes.ok.0, c.loop-held.all.ok.0)

pub loop-held-preserved : goal.loop-held-preserved
loop-held-preserved g c = record {
  come =
      ap (map (λ ran. come_to ran.process)) c.push_reserved.ensures.items ∙ map_push (λ ran. come_to ran.process) c.loop-held.all.items c.ran_of.result
      ∙ ap (λ l. l ++ come_to c.ran_of.result.process ∷ []) c.loop-held.invariant.come
      ∙ ap (λ p. map (λ h. come_to h.side) c.loop-held.yielded ++ come_to p ∷ []) c.ran_of.ensures
      ∙ sym (map_push (λ h. come_to h.side) c.loop-held.yielded c.in-Some.held);
  room = c.push_reserved.ensures.capacity ∙ c.loop-held.invariant.room;
}

pub returns : goal.returns
returns g c =
    let gives = c.into_iter-held-iterator.ensures.into_iter_gives in
    let end = YieldsList-end (YieldsList-from_vec {s = c.into_iter-held-iterator.result} c.args.processes.items gives.0 (gives.1 ∙ c.args.processes.ok.0)) c.loop-held.yielded c.loop-held.held-iterator c.loop-held.yielded_by c.next.result c.next.new.self c.in-None.is c.next.ensures.steps in
    record { come = c.loop-held.invariant.come ∙ ap (map (λ h. come_to h.side)) (sym (map-id c.loop-held.yielded) ∙ end.0) }
