use Rattle.std.proofs.Common.{◌<◌, ◌^◌, arith}
use Rattle.page_memory.specs.Words.{page_number}
use Rattle.page_memory.specs.declared.words.Access.TheVariants.{Store}
use Rattle.paged_memory.proofs.move_laws.LentLaws.{stored_lent}
use Rattle.paged_memory.proofs.access_laws.OnePageLaws.{uses_itself, writes_lent}
use Rattle.paged_memory.proofs.writing.store.Goals as goal

pub returns-in-Some-clause-answer : goal.returns-in-Some-clause-answer
returns-in-Some-clause-answer g c = (
  stored_lent g.S.SwapSlot.content c.args.pages.now c.args.tables.now c.args.address c.in-Some.spot.place c.in-Some.ensures.reaches c.at_mut.result.now c.put_number_in.new.page c.at_mut.ensures.value c.args.width c.args.word
      c.in-Some.spot.offset c.in-Some.ensures.aligned c.in-Some.ensures.offset c.put_number_in.ensures,
  (c.in-Some.ensures.has, c.in-Some.ensures.marked),
)

pub returns-in-Some-clause-writes : goal.returns-in-Some-clause-writes
returns-in-Some-clause-writes g c =
    let small : page_number c.args.address < 2 ^ 20 = omega arith in
    writes_lent (page_number c.args.address) c.in-Some.spot.place small c.requires.holds c.in-Some.ensures.reaches
    (uses_itself c.args.hart (page_number c.args.address) c.args.pages.now c.args.tables.now c.args.caches.now Store c.in-Some.spot.place c.in-Some.ensures.serves) c.at_mut.result.now c.put_number_in.new.page c.at_mut.ensures.value _ c.put_number_in.ensures
