use Rattle.std.proofs.Common.{ap, ◌∙◌, sym}
use Rattle.page_memory.specs.Memory.{loaded}
use Rattle.rv_exec.specs.Arithmetic.{word_sum}
use Rattle.rv_exec.specs.Registers.{with_register}
use Rattle.decoded_pages.proofs.Done.{load_written, reached_load}
use Rattle.decoded_pages.proofs.performing.load.Goals as goal

pub returns-in-Some-clause-performed : goal.returns-in-Some-clause-performed
returns-in-Some-clause-performed g c = λ start place.
    load_written c.args.decoded.now c.args.kind start place c.add-address.result c.in-Some.number c.extend.result c.args.regs.now c.put.new.self (g.M.ReadyMemory.memory c.args.memory.now) c.requires.class
    (c.add-address.ensures ∙ ap (λ a. word_sum a c.args.decoded.now.immediate) c.read.ensures)
    (ap (λ w. loaded (g.M.ReadyMemory.memory c.args.memory.now) w c.add-address.result) (sym c.width_of_load.ensures) ∙ c.in-Some.ensures.value) c.extend.ensures
    (c.put.ensures ∙ ap (λ n. with_register c.args.regs.now n c.extend.result) c.index.ensures.value)

pub returns-in-Some-clause-reached : goal.returns-in-Some-clause-reached
returns-in-Some-clause-reached g c =
    reached_load g.M.ReadyMemory.memory (g.M.ReadyMemory.serves c.args.hart) (g.M.ReadyMemory.stays c.args.hart) c.args.decoded.now c.args.kind c.add-address.result c.in-Some.number c.args.regs.now c.args.memory.now c.requires.class
    (c.add-address.ensures ∙ ap (λ a. word_sum a c.args.decoded.now.immediate) c.read.ensures)
    (ap (λ w. loaded (g.M.ReadyMemory.memory c.args.memory.now) w c.add-address.result) (sym c.width_of_load.ensures) ∙ c.in-Some.ensures.value)
    c.in-Some.ensures.served (g.met.M.ReadyMemory.stays_itself c.args.hart c.args.memory.now)
