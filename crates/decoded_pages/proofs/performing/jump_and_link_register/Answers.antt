use Rattle.std.proofs.Common.{ap, ◌∙◌}
use Rattle.rv_exec.specs.Arithmetic.{word_sum, even}
use Rattle.rv_exec.specs.Registers.{with_register}
use Rattle.decoded_pages.proofs.Done.{linked_register}
use Rattle.decoded_pages.proofs.performing.jump_and_link_register.Goals as goal

pub returns : goal.returns
returns c = λ memory.
    linked_register c.args.decoded.now c.args.start c.args.place c.without_lowest_bit-target.result c.add-2.result c.args.regs.now c.put.new.self memory c.requires.class
    c.ranges.start.fits c.requires.page c.without_lowest_bit-target.type_inv
    (c.without_lowest_bit-target.ensures ∙ ap even (c.add.ensures ∙ ap (λ a. word_sum a c.args.decoded.now.immediate) c.read.ensures)) c.if-target-ne0.false c.add-2.ensures
    (c.put.ensures ∙ ap (λ n. with_register c.args.regs.now n c.add-2.result) c.index.ensures.value)
