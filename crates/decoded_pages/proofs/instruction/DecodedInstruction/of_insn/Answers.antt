use Rattle.std.proofs.Common.{Some, sym, subst, ap, ◌∙◌, ◌*◌, ◌+◌}
use Rattle.rv_isa.specs.declared.instruction.Insn.TheVariants.{Lui, Auipc}
use Rattle.rv_exec.specs.Arithmetic.{word_sum}
use Rattle.decoded_pages.specs.Stands.{StandsFor}
use Rattle.decoded_pages.proofs.Standing.{lui_writes, auipc_writes, fence_stands, written_as}
use Rattle.decoded_pages.proofs.instruction.DecodedInstruction.of_insn.Goals as goal

pub returns-in-Lui : goal.returns-in-Lui
returns-in-Lui c =
    subst (λ i. StandsFor c.constant.result c.args.start c.args.place (Some i)) (sym c.in-Lui.is)
    (c.constant.ensures (Lui c.in-Lui.rd c.in-Lui.immediate) c.args.start c.args.place (written_as (Lui c.in-Lui.rd c.in-Lui.immediate) c.args.start c.args.place c.in-Lui.rd _ _ (sym c.upper_word.ensures) (lui_writes c.args.start c.args.place c.in-Lui.rd c.in-Lui.immediate)))

pub returns-in-Auipc : goal.returns-in-Auipc
returns-in-Auipc c =
    subst (λ i. StandsFor c.constant-in-Auipc.result c.args.start c.args.place (Some i)) (sym c.in-Auipc.is)
    (c.constant-in-Auipc.ensures (Auipc c.in-Auipc.rd c.in-Auipc.immediate) c.args.start c.args.place (auipc_writes c.args.start c.args.place c.in-Auipc.rd c.in-Auipc.immediate c.add.result (c.add.ensures ∙ ap (word_sum (c.args.start + c.args.place * 4)) c.upper_word-in-Auipc.ensures)))

pub returns-in-Jalr : goal.returns-in-Jalr
returns-in-Jalr c =
    subst (λ i. StandsFor c.jump_to_register.result c.args.start c.args.place (Some i)) (sym c.in-Jalr.is)
    (c.jump_to_register.ensures c.args.start c.args.place)

pub returns-in-Load : goal.returns-in-Load
returns-in-Load c =
    subst (λ i. StandsFor c.load.result c.args.start c.args.place (Some i)) (sym c.in-Load.is)
    (c.load.ensures c.args.start c.args.place)

pub returns-in-Store : goal.returns-in-Store
returns-in-Store c =
    subst (λ i. StandsFor c.store.result c.args.start c.args.place (Some i)) (sym c.in-Store.is)
    (c.store.ensures c.args.start c.args.place)

pub returns-in-OpImmediate : goal.returns-in-OpImmediate
returns-in-OpImmediate c =
    subst (λ i. StandsFor c.with_immediate.result c.args.start c.args.place (Some i)) (sym c.in-OpImmediate.is)
    (c.with_immediate.ensures c.args.start c.args.place)

pub returns-in-Shift : goal.returns-in-Shift
returns-in-Shift c =
    subst (λ i. StandsFor c.shifted.result c.args.start c.args.place (Some i)) (sym c.in-Shift.is)
    (c.shifted.ensures c.args.start c.args.place)

pub returns-in-Op : goal.returns-in-Op
returns-in-Op c =
    subst (λ i. StandsFor c.operated.result c.args.start c.args.place (Some i)) (sym c.in-Op.is)
    (c.operated.ensures c.args.start c.args.place)

pub returns-in-Fence : goal.returns-in-Fence
returns-in-Fence c =
    subst (λ i. StandsFor c.nothing.result c.args.start c.args.place (Some i)) (sym c.in-Fence.is)
    (fence_stands c.nothing.result c.args.start c.args.place c.in-Fence.bits c.in-Fence.rd c.in-Fence.rs1 c.nothing.ensures)
