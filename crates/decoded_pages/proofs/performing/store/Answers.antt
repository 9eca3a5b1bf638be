use Rattle.std.proofs.Common.{ap, ◌∙◌, sym}
use Rattle.page_memory.specs.Memory.{stored}
use Rattle.rv_exec.specs.Arithmetic.{word_sum}
use Rattle.decoded_pages.proofs.Done.{store_done, reached_store}
use Rattle.decoded_pages.proofs.performing.store.Goals as goal

pub returns-then-ready_store-clause-performed : goal.returns-then-ready_store-clause-performed
returns-then-ready_store-clause-performed g c = λ start place.
    store_done c.args.decoded.now c.args.kind start place c.add-address.result c.args.regs.now (g.M.ReadyMemory.memory c.args.memory.now) (g.M.ReadyMemory.memory c.ready_store.new.self) c.requires.class
    (c.add-address.ensures ∙ ap (λ a. word_sum a c.args.decoded.now.immediate) c.read.ensures)
    ((λ i. stored (g.M.ReadyMemory.memory c.args.memory.now) (sym c.width_of_store.ensures i) c.add-address.result (sym c.read-2.ensures i)) ∙ c.ready_store.ensures.done c.if-ready_store.true)

pub returns-then-ready_store-clause-reached : goal.returns-then-ready_store-clause-reached
returns-then-ready_store-clause-reached g c =
    reached_store g.M.ReadyMemory.memory (g.M.ReadyMemory.serves c.args.hart) (g.M.ReadyMemory.stays c.args.hart) c.args.decoded.now c.args.kind c.add-address.result c.args.regs.now c.args.memory.now c.ready_store.new.self c.requires.class
    (c.add-address.ensures ∙ ap (λ a. word_sum a c.args.decoded.now.immediate) c.read.ensures)
    ((λ i. stored (g.M.ReadyMemory.memory c.args.memory.now) (sym c.width_of_store.ensures i) c.add-address.result (sym c.read-2.ensures i)) ∙ c.ready_store.ensures.done c.if-ready_store.true)
    (c.ready_store.ensures.served c.if-ready_store.true) (c.ready_store.ensures.stayed c.if-ready_store.true)
