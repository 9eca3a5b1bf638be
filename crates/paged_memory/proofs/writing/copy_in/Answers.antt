use Rattle.std.proofs.Common.{◌<◌, ◌^◌, arith}
use Rattle.page_memory.specs.Words.{page_number}
use Rattle.page_memory.specs.declared.words.Access.TheVariants.{Store}
use Rattle.paged_memory.specs.access.Access.{LacksPage}
use Rattle.paged_memory.specs.Paged.{flat_pages}
use Rattle.paged_memory.proofs.access_laws.ReadLaws.{refuses}
use Rattle.paged_memory.proofs.move_laws.LentLaws.{copied_lent}
use Rattle.paged_memory.proofs.access_laws.OnePageLaws.{writes_lent, writes_refused}
use Rattle.paged_memory.proofs.access_laws.WriteLaws.{copied_refused}
use Rattle.paged_memory.proofs.writing.copy_in.Goals as goal

pub returns-in-Ok-clause-answer : goal.returns-in-Ok-clause-answer
returns-in-Ok-clause-answer g c = (
  copied_lent g.S.SwapSlot.content c.args.pages.now c.reach.new.tables c.args.address c.in-Ok.place c.in-Ok.ensures.reached.reaches c.at_mut.result.now c.put_bytes_in.new.page c.at_mut.ensures.value c.args.from.now c.offset_in_page.result
      c.offset_in_page.ensures.offset c.put_bytes_in.ensures,
  (c.in-Ok.ensures.reached.has, c.in-Ok.ensures.reached.marked),
)

pub returns-in-Err-clause-answer : goal.returns-in-Err-clause-answer
returns-in-Err-clause-answer g c =
    copied_refused (LacksPage c.args.pages.now) (flat_pages g.S.SwapSlot.content c.args.pages.now) c.args.address c.args.from.now c.in-Err.refusal
    (refuses g.S.SwapSlot.content c.args.pages.now Store c.args.address c.in-Err.refusal c.in-Err.ensures.reached.refused)

pub returns-in-Ok-clause-writes : goal.returns-in-Ok-clause-writes
returns-in-Ok-clause-writes g c =
    let small : page_number c.args.address < 2 ^ 20 = omega arith in
    writes_lent (page_number c.args.address) c.in-Ok.place small c.reach.ensures.holds c.in-Ok.ensures.reached.reaches c.in-Ok.ensures.reached.uses c.at_mut.result.now c.put_bytes_in.new.page c.at_mut.ensures.value _ c.put_bytes_in.ensures

pub returns-in-Err-clause-writes : goal.returns-in-Err-clause-writes
returns-in-Err-clause-writes g c = writes_refused c.reach.ensures.holds c.in-Err.ensures.reached.uses
