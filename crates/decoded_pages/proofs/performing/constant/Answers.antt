use Rattle.std.proofs.Common.{ap, ◌∙◌}
use Rattle.rv_exec.specs.Registers.{with_register}
use Rattle.decoded_pages.proofs.Done.{constant_written}
use Rattle.decoded_pages.proofs.performing.constant.Goals as goal

pub returns : goal.returns
returns c = λ start place memory.
    constant_written c.args.decoded.now start place c.args.regs.now c.put.new.self memory c.requires.class (c.put.ensures ∙ ap (λ n. with_register c.args.regs.now n c.args.decoded.now.immediate) c.index.ensures.value)
