use Rattle.std.proofs.Common.{ap, ◌∙◌}
use Rattle.rv_exec.specs.Arithmetic.{word_sum, even}
use Rattle.decoded_pages.proofs.Done.{jumped_register}
use Rattle.decoded_pages.proofs.performing.jump_register.Goals as goal

pub returns : goal.returns
returns c = λ place memory.
    jumped_register c.args.decoded.now c.args.start place c.without_lowest_bit-target.result c.args.regs.now memory c.requires.class
    c.ranges.start.fits c.requires.page c.without_lowest_bit-target.type_inv
    (c.without_lowest_bit-target.ensures ∙ ap even (c.add.ensures ∙ ap (λ a. word_sum a c.args.decoded.now.immediate) c.read.ensures)) c.if-target-ne0.false
