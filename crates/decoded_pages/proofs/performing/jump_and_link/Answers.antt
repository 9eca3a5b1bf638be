use Rattle.std.proofs.Common.{ap, ◌∙◌}
use Rattle.rv_exec.specs.Registers.{with_register}
use Rattle.decoded_pages.proofs.Done.{linked}
use Rattle.decoded_pages.proofs.performing.jump_and_link.Goals as goal

pub returns : goal.returns
returns c = λ memory.
    linked c.args.decoded.now c.args.start c.args.place c.add.result c.args.regs.now c.put.new.self memory c.requires.class c.requires.aligned c.add.ensures
    (c.put.ensures ∙ ap (λ n. with_register c.args.regs.now n c.add.result) c.index.ensures.value)
