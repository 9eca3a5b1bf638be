use Rattle.std.proofs.Common.{◌<◌, ◌^◌, arith}
use Rattle.page_memory.specs.Words.{page_number}
use Rattle.paged_memory.proofs.move_laws.LentLaws.{bare_lent, holds_lent, stored_lent}
use Rattle.paged_memory.proofs.writing.store_ready.Goals as goal

pub returns-in-Some-clause-holds : goal.returns-in-Some-clause-holds
returns-in-Some-clause-holds g c =
    let small : page_number c.args.address < 2 ^ 20 = omega arith in
    holds_lent (page_number c.args.address) c.in-Some.spot.place small c.requires.holds c.in-Some.ensures.reaches c.at_mut.result.now c.put_number_in.new.page c.at_mut.ensures.value _ c.put_number_in.ensures

pub returns-in-Some-clause-stored : goal.returns-in-Some-clause-stored
returns-in-Some-clause-stored g c = λ _.
    stored_lent g.S.SwapSlot.content c.args.pages.now c.args.tables.now c.args.address c.in-Some.spot.place c.in-Some.ensures.reaches c.at_mut.result.now c.put_number_in.new.page c.at_mut.ensures.value c.args.width c.args.word
    c.in-Some.spot.offset c.in-Some.ensures.aligned c.in-Some.ensures.offset c.put_number_in.ensures

pub returns-in-Some-clause-bare : goal.returns-in-Some-clause-bare
returns-in-Some-clause-bare g c = λ _.
    let small : page_number c.args.address < 2 ^ 20 = omega arith in
    bare_lent (page_number c.args.address) c.in-Some.spot.place small c.requires.holds c.in-Some.ensures.reaches c.at_mut.result.now c.put_number_in.new.page c.at_mut.ensures.value _ c.put_number_in.ensures
