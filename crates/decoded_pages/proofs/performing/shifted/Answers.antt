use Rattle.std.proofs.Common.{ap, ◌∙◌}
use Rattle.rv_exec.specs.Arithmetic.{result_of, shift_operation}
use Rattle.rv_exec.specs.Registers.{with_register}
use Rattle.decoded_pages.proofs.Done.{shift_written}
use Rattle.decoded_pages.proofs.performing.shifted.Goals as goal

pub returns : goal.returns
returns c = λ start place memory.
    shift_written c.args.decoded.now c.args.kind start place c.shift-value.result c.args.regs.now c.put.new.self memory c.requires.class
    (c.shift-value.ensures ∙ ap (λ a. result_of (shift_operation c.args.kind) a c.args.decoded.now.immediate) c.read.ensures)
    (c.put.ensures ∙ ap (λ n. with_register c.args.regs.now n c.shift-value.result) c.index.ensures.value)
