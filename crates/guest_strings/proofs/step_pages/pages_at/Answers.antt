use Rattle.std.proofs.Common.{◌≡◌, [], ◌∷◌, sym, ap, ◌∙◌}
use Rattle.page_memory.specs.Words.{page_number}
use Rattle.guest_strings.proofs.StepParts.{pages_of_word, stores_of_word, yields_of_word, pages_of_illegal, stores_of_illegal, yields_of_illegal, pages_of_fault, stores_of_fault, yields_of_fault}
use Rattle.guest_strings.proofs.step_pages.pages_at.Goals as goal

pub returns-in-Some-clause-pages : goal.returns-in-Some-clause-pages
returns-in-Some-clause-pages c hart =
    let at : c.page_of.result ≡ page_number c.args.regs.now.pc = c.page_of.ensures.number ∙ ap page_number c.pc.ensures in
    let pages = c.page_of_insn.ensures.pages in
    (λ i. at i ∷ pages i) ∙ sym (pages_of_word hart c.args.regs.now c.args.memory.now c.in-Ok.word c.in-Some.insn (sym c.in-Ok.is ∙ c.requires) c.in-Some.ensures.value)

pub returns-in-Some-clause-stores : goal.returns-in-Some-clause-stores
returns-in-Some-clause-stores c hart =
    c.page_of_insn.ensures.stores ∙ sym (stores_of_word hart c.args.regs.now c.args.memory.now c.in-Ok.word c.in-Some.insn (sym c.in-Ok.is ∙ c.requires) c.in-Some.ensures.value)

pub returns-in-Some-clause-yields : goal.returns-in-Some-clause-yields
returns-in-Some-clause-yields c hart =
    c.yields-yields.ensures ∙ sym (yields_of_word hart c.args.regs.now c.args.memory.now c.in-Ok.word c.in-Some.insn (sym c.in-Ok.is ∙ c.requires) c.in-Some.ensures.value)

pub returns-in-None-clause-pages : goal.returns-in-None-clause-pages
returns-in-None-clause-pages c hart =
    let at : c.page_of.result ≡ page_number c.args.regs.now.pc = c.page_of.ensures.number ∙ ap page_number c.pc.ensures in
    ap (λ page. page ∷ []) at ∙ sym (pages_of_illegal hart c.args.regs.now c.args.memory.now c.in-Ok.word (sym c.in-Ok.is ∙ c.requires) c.in-None.ensures.value)

pub returns-in-None-clause-stores : goal.returns-in-None-clause-stores
returns-in-None-clause-stores c hart =
    sym (stores_of_illegal hart c.args.regs.now c.args.memory.now c.in-Ok.word (sym c.in-Ok.is ∙ c.requires) c.in-None.ensures.value)

pub returns-in-None-clause-yields : goal.returns-in-None-clause-yields
returns-in-None-clause-yields c hart =
    sym (yields_of_illegal hart c.args.regs.now c.args.memory.now c.in-Ok.word (sym c.in-Ok.is ∙ c.requires) c.in-None.ensures.value)

pub returns-in-Err-clause-pages : goal.returns-in-Err-clause-pages
returns-in-Err-clause-pages c hart = sym (pages_of_fault hart c.args.regs.now c.args.memory.now c.in-Err.field-0 (sym c.in-Err.is ∙ c.requires))

pub returns-in-Err-clause-stores : goal.returns-in-Err-clause-stores
returns-in-Err-clause-stores c hart = sym (stores_of_fault hart c.args.regs.now c.args.memory.now c.in-Err.field-0 (sym c.in-Err.is ∙ c.requires))

pub returns-in-Err-clause-yields : goal.returns-in-Err-clause-yields
returns-in-Err-clause-yields c hart = sym (yields_of_fault hart c.args.regs.now c.args.memory.now c.in-Err.field-0 (sym c.in-Err.is ∙ c.requires))
