use Rattle.std.proofs.Common.{◌<◌, ◌^◌, arith}
use Rattle.page_memory.specs.Words.{page_number}
use Rattle.page_memory.specs.declared.words.Access.TheVariants.{Store}
use Rattle.rv_exec.specs.Amo.{amo_result}
use Rattle.paged_memory.specs.access.Access.{LacksPage}
use Rattle.paged_memory.specs.Paged.{flat_pages}
use Rattle.paged_memory.proofs.access_laws.ReadLaws.{refuses}
use Rattle.paged_memory.proofs.move_laws.LentLaws.{replaced_lent}
use Rattle.paged_memory.proofs.access_laws.OnePageLaws.{writes_lent, writes_refused}
use Rattle.paged_memory.proofs.access_laws.WriteLaws.{replaced_refused, replaced_misaligned}
use Rattle.paged_memory.proofs.writing.amo_anew.Goals as goal

pub returns-then-address-ne0-clause-answer : goal.returns-then-address-ne0-clause-answer
returns-then-address-ne0-clause-answer g c = replaced_misaligned _ _ c.args.address c.if-address-ne0.true

pub returns-in-Ok-clause-answer : goal.returns-in-Ok-clause-answer
returns-in-Ok-clause-answer g c = (
  replaced_lent g.S.SwapSlot.content c.args.pages.now c.reach.new.tables c.args.address c.in-Ok.place c.in-Ok.ensures.reached.reaches c.at_mut.result.now c.replace_word_in.new.page c.at_mut.ensures.value
      (λ old. amo_result c.args.operation old c.args.operand) c.replace_word_in.result c.offset_in_page-offset.result c.if-address-ne0.false c.offset_in_page-offset.ensures.offset c.replace_word_in.ensures.old c.replace_word_in.ensures.page,
  (c.in-Ok.ensures.reached.has, c.in-Ok.ensures.reached.marked),
)

pub returns-in-Err-clause-answer : goal.returns-in-Err-clause-answer
returns-in-Err-clause-answer g c =
    replaced_refused (LacksPage c.args.pages.now) (flat_pages g.S.SwapSlot.content c.args.pages.now) (λ old. amo_result c.args.operation old c.args.operand) c.args.address c.in-Err.refusal c.if-address-ne0.false
    (refuses g.S.SwapSlot.content c.args.pages.now Store c.args.address c.in-Err.refusal c.in-Err.ensures.reached.refused)

pub returns-in-Ok-clause-writes : goal.returns-in-Ok-clause-writes
returns-in-Ok-clause-writes g c =
    let small : page_number c.args.address < 2 ^ 20 = omega arith in
    writes_lent (page_number c.args.address) c.in-Ok.place small c.reach.ensures.holds c.in-Ok.ensures.reached.reaches c.in-Ok.ensures.reached.uses c.at_mut.result.now c.replace_word_in.new.page c.at_mut.ensures.value _ c.replace_word_in.ensures.page

pub returns-in-Err-clause-writes : goal.returns-in-Err-clause-writes
returns-in-Err-clause-writes g c = writes_refused c.reach.ensures.holds c.in-Err.ensures.reached.uses
