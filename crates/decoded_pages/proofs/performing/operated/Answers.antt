use Rattle.std.proofs.Common.{ap, ◌∙◌}
use Rattle.rv_exec.specs.Arithmetic.{result_of}
use Rattle.rv_exec.specs.Registers.{with_register}
use Rattle.decoded_pages.proofs.Done.{operation_written}
use Rattle.decoded_pages.proofs.performing.operated.Goals as goal

pub returns : goal.returns
returns c = λ start place memory.
    operation_written c.args.decoded.now c.args.kind start place c.operate-value.result c.args.regs.now c.put.new.self memory c.requires.class
    (c.operate-value.ensures ∙ (λ i. result_of c.args.kind (c.read.ensures i) (c.read-2.ensures i)))
    (c.put.ensures ∙ ap (λ n. with_register c.args.regs.now n c.operate-value.result) c.index.ensures.value)
