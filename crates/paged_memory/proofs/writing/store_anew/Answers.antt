use Rattle.std.proofs.Common.{Err, ℕ, ◌≡◌, ◌≢◌, ◌%◌, ◌<◌, ◌^◌, arith, ap, sym, ◌∙◌, subst}
use Rattle.page_memory.proofs.AccessLaws.{stored_misaligned}
use Rattle.page_memory.specs.Pages.{stored}
use Rattle.page_memory.specs.Words.{page_number, bytes_in}
use Rattle.page_memory.specs.declared.fault.MemoryFault.TheVariants.{PageFault}
use Rattle.page_memory.specs.declared.words.Access.TheVariants.{Store}
use Rattle.rv_exec.specs.declared.bus.BusError.{BusError}
use Rattle.rv_exec.specs.declared.bus.BusError.TheVariants.{Fault, Absent}
use Rattle.rv_exec.specs.Answers.{BusRefuses}
use Rattle.paged_memory.specs.access.Access.{LacksPage, RefusesAccess}
use Rattle.paged_memory.specs.access.OnePage.{UsesPage}
use Rattle.paged_memory.specs.Paged.{flat_pages}
use Rattle.paged_memory.proofs.access_laws.ReadLaws.{refuses}
use Rattle.paged_memory.proofs.move_laws.LentLaws.{stored_lent}
use Rattle.paged_memory.proofs.access_laws.OnePageLaws.{writes_lent, writes_refused}
use Rattle.paged_memory.proofs.access_laws.WriteLaws.{stored_refused}
use Rattle.paged_memory.proofs.writing.store_anew.Goals as goal

pub returns-then-address-bytes-ne0-clause-answer :
    goal.returns-then-address-bytes-ne0-clause-answer
returns-then-address-bytes-ne0-clause-answer g c =
    stored_misaligned _ c.args.width c.args.address c.args.word (subst (λ w. c.args.address % w ≢ 0) c.bytes.ensures c.if-address-bytes-ne0.true)

pub returns-in-Ok-clause-answer : goal.returns-in-Ok-clause-answer
returns-in-Ok-clause-answer g c =
    let aligned : c.args.address % bytes_in c.args.width ≡ 0 = ap (λ w. c.args.address % w) (sym c.bytes.ensures) ∙ c.if-address-bytes-ne0.false in (
      stored_lent g.S.SwapSlot.content c.args.pages.now c.reach.new.tables c.args.address c.in-Ok.place c.in-Ok.ensures.reached.reaches c.at_mut.result.now c.put_number_in.new.page c.at_mut.ensures.value c.args.width c.args.word c.offset_in_page.result
          aligned c.offset_in_page.ensures.offset c.put_number_in.ensures,
      (c.in-Ok.ensures.reached.has, c.in-Ok.ensures.reached.marked),
    )

pub returns-in-Err-Absent-clause-answer : goal.returns-in-Err-Absent-clause-answer
returns-in-Err-Absent-clause-answer g c =
    let aligned : c.args.address % bytes_in c.args.width ≡ 0 = ap (λ w. c.args.address % w) (sym c.bytes.ensures) ∙ c.if-address-bytes-ne0.false in
    let refused = subst (λ (r : BusError). RefusesAccess c.args.pages.now Store (page_number c.args.address) r) c.in-Err-Absent.field-0-is c.in-Err-Absent.ensures.reached.refused in
    subst (λ (p : ℕ). BusRefuses (LacksPage c.args.pages.now) c.args.address (stored (flat_pages g.S.SwapSlot.content c.args.pages.now) c.args.width c.args.address c.args.word) (Absent p)) (sym c.in-Err-Absent.page-is)
    (stored_refused (LacksPage c.args.pages.now) (flat_pages g.S.SwapSlot.content c.args.pages.now) c.args.width c.args.address c.args.word (Absent c.in-Err-Absent.page) aligned
    (refuses g.S.SwapSlot.content c.args.pages.now Store c.args.address (Absent c.in-Err-Absent.page) refused))

pub returns-in-PageFault-clause-answer : goal.returns-in-PageFault-clause-answer
returns-in-PageFault-clause-answer g c =
    let aligned : c.args.address % bytes_in c.args.width ≡ 0 = ap (λ w. c.args.address % w) (sym c.bytes.ensures) ∙ c.if-address-bytes-ne0.false in
    let is : c.in-Err-Fault.field-0 ≡ Fault PageFault = c.in-Err-Fault.field-0-is ∙ ap Fault (sym c.in-Err-Fault.fault-is ∙ c.in-PageFault.is) in
    let refused = subst (λ (r : BusError). RefusesAccess c.args.pages.now Store (page_number c.args.address) r) is c.in-Err-Fault.ensures.reached.refused in
    stored_refused (LacksPage c.args.pages.now) (flat_pages g.S.SwapSlot.content c.args.pages.now) c.args.width c.args.address c.args.word (Fault PageFault) aligned
    (refuses g.S.SwapSlot.content c.args.pages.now Store c.args.address (Fault PageFault) refused)

pub returns-in-Ok-clause-writes : goal.returns-in-Ok-clause-writes
returns-in-Ok-clause-writes g c =
    let small : page_number c.args.address < 2 ^ 20 = omega arith in
    writes_lent (page_number c.args.address) c.in-Ok.place small c.reach.ensures.holds c.in-Ok.ensures.reached.reaches c.in-Ok.ensures.reached.uses c.at_mut.result.now c.put_number_in.new.page c.at_mut.ensures.value _ c.put_number_in.ensures

pub returns-in-Err-Absent-clause-writes : goal.returns-in-Err-Absent-clause-writes
returns-in-Err-Absent-clause-writes g c =
    writes_refused c.reach.ensures.holds (subst (λ (r : BusError). UsesPage {A = ℕ} c.args.hart Store (page_number c.args.address) (Err r) c.args.pages.now c.args.tables.now c.reach.new.tables c.args.caches.now c.reach.new.caches) (c.in-Err-Absent.field-0-is ∙ ap Absent (sym c.in-Err-Absent.page-is)) c.in-Err-Absent.ensures.reached.uses)
