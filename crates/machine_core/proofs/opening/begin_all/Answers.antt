-- The iterator gives the starts in their order, each of which has its number.
use Rattle.std.proofs.Common.{◌≡◌, ◌<◌, length, map, sym, ◌∙◌, arith, subst}
use Rattle.std.proofs.lemmas.Iterator.Adapters.{YieldsList-from_vec}
use Rattle.std.proofs.lemmas.Iterator.Consumers.{YieldsList-turn, YieldsList-end}
use Rattle.std.proofs.lemmas.List.{map-id, length-map}
use Rattle.elf_image.specs.Start.{start_of}
use Rattle.machine_core.specs.Opening.{AllBegin}
use Rattle.machine_core.proofs.Openings.{one_more_begins}
use Rattle.machine_core.proofs.opening.begin_all.Goals as goal

pub overflow_cast-number : goal.overflow_cast-number
overflow_cast-number g c =
    let gives = c.into_iter-image-iterator.ensures.into_iter_gives in
    let turn = YieldsList-turn (YieldsList-from_vec {s = c.into_iter-image-iterator.result} c.args.starts.items gives.0 (gives.1 ∙ c.args.starts.ok.0)) c.loop-image.yielded c.loop-image.image-iterator c.loop-image.yielded_by c.next.result c.next.new.self (c.in-Some.image, c.in-Some.input) c.in-Some.is c.next.ensures.steps in
    let less : length c.loop-image.yielded < length c.args.starts.items = turn.0 in
    let many : length c.loop-image.sides.items ≡ length c.loop-image.yielded = c.loop-image.invariant.many ∙ length-map c.loop-image.yielded (λ start. start_of start.0 start.1.items) in
    omega (arith, less, many, c.requires, c.len-number.ensures, c.loop-image.sides.ok.0)

pub loop-image-preserved : goal.loop-image-preserved
loop-image-preserved g c =
    one_more_begins (λ start. start_of start.0 start.1.items) c.loop-image.yielded (c.in-Some.image, c.in-Some.input) c.loop-image.sides.items c.push.new.self.items c.len-number.result c.in_ok-start.field-0
    c.loop-image.invariant (omega (arith, c.len-number.ensures, c.loop-image.sides.ok.0)) c.in_ok-push.ensures.items c.in_ok-start.ensures

pub returns : goal.returns
returns g c =
    let gives = c.into_iter-image-iterator.ensures.into_iter_gives in
    let end = YieldsList-end (YieldsList-from_vec {s = c.into_iter-image-iterator.result} c.args.starts.items gives.0 (gives.1 ∙ c.args.starts.ok.0)) c.loop-image.yielded c.loop-image.image-iterator c.loop-image.yielded_by c.next.result c.next.new.self c.in-None.is c.next.ensures.steps in
    subst (λ l. AllBegin (map (λ start. start_of start.0 start.1.items) l) c.loop-image.sides.items) (sym (map-id c.loop-image.yielded) ∙ end.0) c.loop-image.invariant
