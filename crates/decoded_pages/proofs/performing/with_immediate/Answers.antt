use Rattle.std.proofs.Common.{ap, ◌∙◌}
use Rattle.rv_exec.specs.Arithmetic.{result_of, immediate_operation}
use Rattle.rv_exec.specs.Registers.{with_register}
use Rattle.decoded_pages.proofs.Done.{immediate_written}
use Rattle.decoded_pages.proofs.performing.with_immediate.Goals as goal

pub returns : goal.returns
returns c = λ start place memory.
    immediate_written c.args.decoded.now c.args.kind start place c.operate_immediate-value.result c.args.regs.now c.put.new.self memory c.requires.class
    (c.operate_immediate-value.ensures ∙ ap (λ a. result_of (immediate_operation c.args.kind) a c.args.decoded.now.immediate) c.read.ensures)
    (c.put.ensures ∙ ap (λ n. with_register c.args.regs.now n c.operate_immediate-value.result) c.index.ensures.value)
