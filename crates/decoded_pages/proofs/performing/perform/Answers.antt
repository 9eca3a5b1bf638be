-- What an operation came to is what its class comes to; one of a class that neither loads nor stores has no data.
use Rattle.std.proofs.Common.{ap}
use Rattle.decoded_pages.specs.Classes.{class_of}
use Rattle.decoded_pages.proofs.Done.{apart, has_data}
use Rattle.decoded_pages.proofs.performing.perform.Goals as goal

pub returns-in-ByWord-clause-performed : goal.returns-in-ByWord-clause-performed
returns-in-ByWord-clause-performed g c = c.by_word.ensures c.args.start c.args.place (g.M.ReadyMemory.memory c.args.memory.now)

pub returns-in-PageEnd-clause-performed : goal.returns-in-PageEnd-clause-performed
returns-in-PageEnd-clause-performed g c = c.by_word-in-PageEnd.ensures c.args.start c.args.place (g.M.ReadyMemory.memory c.args.memory.now)

pub returns-in-Nothing-clause-performed : goal.returns-in-Nothing-clause-performed
returns-in-Nothing-clause-performed g c = c.nothing.ensures c.args.start c.args.place (g.M.ReadyMemory.memory c.args.memory.now)

pub returns-in-Constant-clause-performed : goal.returns-in-Constant-clause-performed
returns-in-Constant-clause-performed g c = c.constant.ensures c.args.start c.args.place (g.M.ReadyMemory.memory c.args.memory.now)

pub returns-in-JumpAndLink-clause-performed : goal.returns-in-JumpAndLink-clause-performed
returns-in-JumpAndLink-clause-performed g c = c.jump_and_link.ensures (g.M.ReadyMemory.memory c.args.memory.now)

pub returns-in-Jump-clause-performed : goal.returns-in-Jump-clause-performed
returns-in-Jump-clause-performed g c = c.jump.ensures c.args.start c.args.place (g.M.ReadyMemory.memory c.args.memory.now)

pub returns-in-JumpAndLinkRegister-clause-performed : goal.returns-in-JumpAndLinkRegister-clause-performed
returns-in-JumpAndLinkRegister-clause-performed g c = c.jump_and_link_register.ensures (g.M.ReadyMemory.memory c.args.memory.now)

pub returns-in-JumpRegister-clause-performed : goal.returns-in-JumpRegister-clause-performed
returns-in-JumpRegister-clause-performed g c = c.jump_register.ensures c.args.place (g.M.ReadyMemory.memory c.args.memory.now)

pub returns-in-Beq-clause-performed : goal.returns-in-Beq-clause-performed
returns-in-Beq-clause-performed g c = c.branch-regs.ensures c.args.start c.args.place (g.M.ReadyMemory.memory c.args.memory.now)

pub returns-in-Bne-clause-performed : goal.returns-in-Bne-clause-performed
returns-in-Bne-clause-performed g c = c.branch-regs-in-Bne.ensures c.args.start c.args.place (g.M.ReadyMemory.memory c.args.memory.now)

pub returns-in-Blt-clause-performed : goal.returns-in-Blt-clause-performed
returns-in-Blt-clause-performed g c = c.branch-regs-in-Blt.ensures c.args.start c.args.place (g.M.ReadyMemory.memory c.args.memory.now)

pub returns-in-Bge-clause-performed : goal.returns-in-Bge-clause-performed
returns-in-Bge-clause-performed g c = c.branch-regs-in-Bge.ensures c.args.start c.args.place (g.M.ReadyMemory.memory c.args.memory.now)

pub returns-in-Bltu-clause-performed : goal.returns-in-Bltu-clause-performed
returns-in-Bltu-clause-performed g c = c.branch-regs-in-Bltu.ensures c.args.start c.args.place (g.M.ReadyMemory.memory c.args.memory.now)

pub returns-in-Bgeu-clause-performed : goal.returns-in-Bgeu-clause-performed
returns-in-Bgeu-clause-performed g c = c.branch-regs-in-Bgeu.ensures c.args.start c.args.place (g.M.ReadyMemory.memory c.args.memory.now)

pub returns-in-Lb-clause-performed : goal.returns-in-Lb-clause-performed
returns-in-Lb-clause-performed g c = c.load.ensures.performed c.args.start c.args.place

pub returns-in-Lh-clause-performed : goal.returns-in-Lh-clause-performed
returns-in-Lh-clause-performed g c = c.load-in-Lh.ensures.performed c.args.start c.args.place

pub returns-in-Lw-clause-performed : goal.returns-in-Lw-clause-performed
returns-in-Lw-clause-performed g c = c.load-in-Lw.ensures.performed c.args.start c.args.place

pub returns-in-Lbu-clause-performed : goal.returns-in-Lbu-clause-performed
returns-in-Lbu-clause-performed g c = c.load-in-Lbu.ensures.performed c.args.start c.args.place

pub returns-in-Lhu-clause-performed : goal.returns-in-Lhu-clause-performed
returns-in-Lhu-clause-performed g c = c.load-in-Lhu.ensures.performed c.args.start c.args.place

pub returns-in-Sb-clause-performed : goal.returns-in-Sb-clause-performed
returns-in-Sb-clause-performed g c = c.store.ensures.performed c.args.start c.args.place

pub returns-in-Sh-clause-performed : goal.returns-in-Sh-clause-performed
returns-in-Sh-clause-performed g c = c.store-in-Sh.ensures.performed c.args.start c.args.place

pub returns-in-Sw-clause-performed : goal.returns-in-Sw-clause-performed
returns-in-Sw-clause-performed g c = c.store-in-Sw.ensures.performed c.args.start c.args.place

pub returns-in-Addi-clause-performed : goal.returns-in-Addi-clause-performed
returns-in-Addi-clause-performed g c = c.with_immediate.ensures c.args.start c.args.place (g.M.ReadyMemory.memory c.args.memory.now)

pub returns-in-Slti-clause-performed : goal.returns-in-Slti-clause-performed
returns-in-Slti-clause-performed g c = c.with_immediate-in-Slti.ensures c.args.start c.args.place (g.M.ReadyMemory.memory c.args.memory.now)

pub returns-in-Sltiu-clause-performed : goal.returns-in-Sltiu-clause-performed
returns-in-Sltiu-clause-performed g c = c.with_immediate-in-Sltiu.ensures c.args.start c.args.place (g.M.ReadyMemory.memory c.args.memory.now)

pub returns-in-Xori-clause-performed : goal.returns-in-Xori-clause-performed
returns-in-Xori-clause-performed g c = c.with_immediate-in-Xori.ensures c.args.start c.args.place (g.M.ReadyMemory.memory c.args.memory.now)

pub returns-in-Ori-clause-performed : goal.returns-in-Ori-clause-performed
returns-in-Ori-clause-performed g c = c.with_immediate-in-Ori.ensures c.args.start c.args.place (g.M.ReadyMemory.memory c.args.memory.now)

pub returns-in-Andi-clause-performed : goal.returns-in-Andi-clause-performed
returns-in-Andi-clause-performed g c = c.with_immediate-in-Andi.ensures c.args.start c.args.place (g.M.ReadyMemory.memory c.args.memory.now)

pub returns-in-Slli-clause-performed : goal.returns-in-Slli-clause-performed
returns-in-Slli-clause-performed g c = c.shifted.ensures c.args.start c.args.place (g.M.ReadyMemory.memory c.args.memory.now)

pub returns-in-Srli-clause-performed : goal.returns-in-Srli-clause-performed
returns-in-Srli-clause-performed g c = c.shifted-in-Srli.ensures c.args.start c.args.place (g.M.ReadyMemory.memory c.args.memory.now)

pub returns-in-Srai-clause-performed : goal.returns-in-Srai-clause-performed
returns-in-Srai-clause-performed g c = c.shifted-in-Srai.ensures c.args.start c.args.place (g.M.ReadyMemory.memory c.args.memory.now)

pub returns-in-Add-clause-performed : goal.returns-in-Add-clause-performed
returns-in-Add-clause-performed g c = c.operated.ensures c.args.start c.args.place (g.M.ReadyMemory.memory c.args.memory.now)

pub returns-in-Sub-clause-performed : goal.returns-in-Sub-clause-performed
returns-in-Sub-clause-performed g c = c.operated-in-Sub.ensures c.args.start c.args.place (g.M.ReadyMemory.memory c.args.memory.now)

pub returns-in-Sll-clause-performed : goal.returns-in-Sll-clause-performed
returns-in-Sll-clause-performed g c = c.operated-in-Sll.ensures c.args.start c.args.place (g.M.ReadyMemory.memory c.args.memory.now)

pub returns-in-Slt-clause-performed : goal.returns-in-Slt-clause-performed
returns-in-Slt-clause-performed g c = c.operated-in-Slt.ensures c.args.start c.args.place (g.M.ReadyMemory.memory c.args.memory.now)

pub returns-in-Sltu-clause-performed : goal.returns-in-Sltu-clause-performed
returns-in-Sltu-clause-performed g c = c.operated-in-Sltu.ensures c.args.start c.args.place (g.M.ReadyMemory.memory c.args.memory.now)

pub returns-in-Xor-clause-performed : goal.returns-in-Xor-clause-performed
returns-in-Xor-clause-performed g c = c.operated-in-Xor.ensures c.args.start c.args.place (g.M.ReadyMemory.memory c.args.memory.now)

pub returns-in-Srl-clause-performed : goal.returns-in-Srl-clause-performed
returns-in-Srl-clause-performed g c = c.operated-in-Srl.ensures c.args.start c.args.place (g.M.ReadyMemory.memory c.args.memory.now)

pub returns-in-Sra-clause-performed : goal.returns-in-Sra-clause-performed
returns-in-Sra-clause-performed g c = c.operated-in-Sra.ensures c.args.start c.args.place (g.M.ReadyMemory.memory c.args.memory.now)

pub returns-in-Or-clause-performed : goal.returns-in-Or-clause-performed
returns-in-Or-clause-performed g c = c.operated-in-Or.ensures c.args.start c.args.place (g.M.ReadyMemory.memory c.args.memory.now)

pub returns-in-And-clause-performed : goal.returns-in-And-clause-performed
returns-in-And-clause-performed g c = c.operated-in-And.ensures c.args.start c.args.place (g.M.ReadyMemory.memory c.args.memory.now)

pub returns-in-Mul-clause-performed : goal.returns-in-Mul-clause-performed
returns-in-Mul-clause-performed g c = c.operated-in-Mul.ensures c.args.start c.args.place (g.M.ReadyMemory.memory c.args.memory.now)

pub returns-in-Mulh-clause-performed : goal.returns-in-Mulh-clause-performed
returns-in-Mulh-clause-performed g c = c.operated-in-Mulh.ensures c.args.start c.args.place (g.M.ReadyMemory.memory c.args.memory.now)

pub returns-in-Mulhsu-clause-performed : goal.returns-in-Mulhsu-clause-performed
returns-in-Mulhsu-clause-performed g c = c.operated-in-Mulhsu.ensures c.args.start c.args.place (g.M.ReadyMemory.memory c.args.memory.now)

pub returns-in-Mulhu-clause-performed : goal.returns-in-Mulhu-clause-performed
returns-in-Mulhu-clause-performed g c = c.operated-in-Mulhu.ensures c.args.start c.args.place (g.M.ReadyMemory.memory c.args.memory.now)

pub returns-in-Div-clause-performed : goal.returns-in-Div-clause-performed
returns-in-Div-clause-performed g c = c.operated-in-Div.ensures c.args.start c.args.place (g.M.ReadyMemory.memory c.args.memory.now)

pub returns-in-Divu-clause-performed : goal.returns-in-Divu-clause-performed
returns-in-Divu-clause-performed g c = c.operated-in-Divu.ensures c.args.start c.args.place (g.M.ReadyMemory.memory c.args.memory.now)

pub returns-in-Rem-clause-performed : goal.returns-in-Rem-clause-performed
returns-in-Rem-clause-performed g c = c.operated-in-Rem.ensures c.args.start c.args.place (g.M.ReadyMemory.memory c.args.memory.now)

pub returns-in-Remu-clause-performed : goal.returns-in-Remu-clause-performed
returns-in-Remu-clause-performed g c = c.operated-in-Remu.ensures c.args.start c.args.place (g.M.ReadyMemory.memory c.args.memory.now)

pub returns-in-ByWord-clause-reached : goal.returns-in-ByWord-clause-reached
returns-in-ByWord-clause-reached g c =
    apart g.M.ReadyMemory.memory (g.M.ReadyMemory.serves c.args.hart) (g.M.ReadyMemory.stays c.args.hart) c.args.decoded.now _ c.args.regs.now c.args.memory.now (g.met.M.ReadyMemory.stays_itself c.args.hart c.args.memory.now) (ap (λ o. has_data (class_of o)) c.in-ByWord.is)

pub returns-in-PageEnd-clause-reached : goal.returns-in-PageEnd-clause-reached
returns-in-PageEnd-clause-reached g c =
    apart g.M.ReadyMemory.memory (g.M.ReadyMemory.serves c.args.hart) (g.M.ReadyMemory.stays c.args.hart) c.args.decoded.now _ c.args.regs.now c.args.memory.now (g.met.M.ReadyMemory.stays_itself c.args.hart c.args.memory.now) (ap (λ o. has_data (class_of o)) c.in-PageEnd.is)

pub returns-in-Nothing-clause-reached : goal.returns-in-Nothing-clause-reached
returns-in-Nothing-clause-reached g c =
    apart g.M.ReadyMemory.memory (g.M.ReadyMemory.serves c.args.hart) (g.M.ReadyMemory.stays c.args.hart) c.args.decoded.now _ c.args.regs.now c.args.memory.now (g.met.M.ReadyMemory.stays_itself c.args.hart c.args.memory.now) (ap (λ o. has_data (class_of o)) c.in-Nothing.is)

pub returns-in-Constant-clause-reached : goal.returns-in-Constant-clause-reached
returns-in-Constant-clause-reached g c =
    apart g.M.ReadyMemory.memory (g.M.ReadyMemory.serves c.args.hart) (g.M.ReadyMemory.stays c.args.hart) c.args.decoded.now _ c.args.regs.now c.args.memory.now (g.met.M.ReadyMemory.stays_itself c.args.hart c.args.memory.now) (ap (λ o. has_data (class_of o)) c.in-Constant.is)

pub returns-in-JumpAndLink-clause-reached : goal.returns-in-JumpAndLink-clause-reached
returns-in-JumpAndLink-clause-reached g c =
    apart g.M.ReadyMemory.memory (g.M.ReadyMemory.serves c.args.hart) (g.M.ReadyMemory.stays c.args.hart) c.args.decoded.now _ c.args.regs.now c.args.memory.now (g.met.M.ReadyMemory.stays_itself c.args.hart c.args.memory.now) (ap (λ o. has_data (class_of o)) c.in-JumpAndLink.is)

pub returns-in-Jump-clause-reached : goal.returns-in-Jump-clause-reached
returns-in-Jump-clause-reached g c =
    apart g.M.ReadyMemory.memory (g.M.ReadyMemory.serves c.args.hart) (g.M.ReadyMemory.stays c.args.hart) c.args.decoded.now _ c.args.regs.now c.args.memory.now (g.met.M.ReadyMemory.stays_itself c.args.hart c.args.memory.now) (ap (λ o. has_data (class_of o)) c.in-Jump.is)

pub returns-in-JumpAndLinkRegister-clause-reached : goal.returns-in-JumpAndLinkRegister-clause-reached
returns-in-JumpAndLinkRegister-clause-reached g c =
    apart g.M.ReadyMemory.memory (g.M.ReadyMemory.serves c.args.hart) (g.M.ReadyMemory.stays c.args.hart) c.args.decoded.now _ c.args.regs.now c.args.memory.now (g.met.M.ReadyMemory.stays_itself c.args.hart c.args.memory.now) (ap (λ o. has_data (class_of o)) c.in-JumpAndLinkRegister.is)

pub returns-in-JumpRegister-clause-reached : goal.returns-in-JumpRegister-clause-reached
returns-in-JumpRegister-clause-reached g c =
    apart g.M.ReadyMemory.memory (g.M.ReadyMemory.serves c.args.hart) (g.M.ReadyMemory.stays c.args.hart) c.args.decoded.now _ c.args.regs.now c.args.memory.now (g.met.M.ReadyMemory.stays_itself c.args.hart c.args.memory.now) (ap (λ o. has_data (class_of o)) c.in-JumpRegister.is)

pub returns-in-Beq-clause-reached : goal.returns-in-Beq-clause-reached
returns-in-Beq-clause-reached g c =
    apart g.M.ReadyMemory.memory (g.M.ReadyMemory.serves c.args.hart) (g.M.ReadyMemory.stays c.args.hart) c.args.decoded.now _ c.args.regs.now c.args.memory.now (g.met.M.ReadyMemory.stays_itself c.args.hart c.args.memory.now) (ap (λ o. has_data (class_of o)) c.in-Beq.is)

pub returns-in-Bne-clause-reached : goal.returns-in-Bne-clause-reached
returns-in-Bne-clause-reached g c =
    apart g.M.ReadyMemory.memory (g.M.ReadyMemory.serves c.args.hart) (g.M.ReadyMemory.stays c.args.hart) c.args.decoded.now _ c.args.regs.now c.args.memory.now (g.met.M.ReadyMemory.stays_itself c.args.hart c.args.memory.now) (ap (λ o. has_data (class_of o)) c.in-Bne.is)

pub returns-in-Blt-clause-reached : goal.returns-in-Blt-clause-reached
returns-in-Blt-clause-reached g c =
    apart g.M.ReadyMemory.memory (g.M.ReadyMemory.serves c.args.hart) (g.M.ReadyMemory.stays c.args.hart) c.args.decoded.now _ c.args.regs.now c.args.memory.now (g.met.M.ReadyMemory.stays_itself c.args.hart c.args.memory.now) (ap (λ o. has_data (class_of o)) c.in-Blt.is)

pub returns-in-Bge-clause-reached : goal.returns-in-Bge-clause-reached
returns-in-Bge-clause-reached g c =
    apart g.M.ReadyMemory.memory (g.M.ReadyMemory.serves c.args.hart) (g.M.ReadyMemory.stays c.args.hart) c.args.decoded.now _ c.args.regs.now c.args.memory.now (g.met.M.ReadyMemory.stays_itself c.args.hart c.args.memory.now) (ap (λ o. has_data (class_of o)) c.in-Bge.is)

pub returns-in-Bltu-clause-reached : goal.returns-in-Bltu-clause-reached
returns-in-Bltu-clause-reached g c =
    apart g.M.ReadyMemory.memory (g.M.ReadyMemory.serves c.args.hart) (g.M.ReadyMemory.stays c.args.hart) c.args.decoded.now _ c.args.regs.now c.args.memory.now (g.met.M.ReadyMemory.stays_itself c.args.hart c.args.memory.now) (ap (λ o. has_data (class_of o)) c.in-Bltu.is)

pub returns-in-Bgeu-clause-reached : goal.returns-in-Bgeu-clause-reached
returns-in-Bgeu-clause-reached g c =
    apart g.M.ReadyMemory.memory (g.M.ReadyMemory.serves c.args.hart) (g.M.ReadyMemory.stays c.args.hart) c.args.decoded.now _ c.args.regs.now c.args.memory.now (g.met.M.ReadyMemory.stays_itself c.args.hart c.args.memory.now) (ap (λ o. has_data (class_of o)) c.in-Bgeu.is)

pub returns-in-Addi-clause-reached : goal.returns-in-Addi-clause-reached
returns-in-Addi-clause-reached g c =
    apart g.M.ReadyMemory.memory (g.M.ReadyMemory.serves c.args.hart) (g.M.ReadyMemory.stays c.args.hart) c.args.decoded.now _ c.args.regs.now c.args.memory.now (g.met.M.ReadyMemory.stays_itself c.args.hart c.args.memory.now) (ap (λ o. has_data (class_of o)) c.in-Addi.is)

pub returns-in-Slti-clause-reached : goal.returns-in-Slti-clause-reached
returns-in-Slti-clause-reached g c =
    apart g.M.ReadyMemory.memory (g.M.ReadyMemory.serves c.args.hart) (g.M.ReadyMemory.stays c.args.hart) c.args.decoded.now _ c.args.regs.now c.args.memory.now (g.met.M.ReadyMemory.stays_itself c.args.hart c.args.memory.now) (ap (λ o. has_data (class_of o)) c.in-Slti.is)

pub returns-in-Sltiu-clause-reached : goal.returns-in-Sltiu-clause-reached
returns-in-Sltiu-clause-reached g c =
    apart g.M.ReadyMemory.memory (g.M.ReadyMemory.serves c.args.hart) (g.M.ReadyMemory.stays c.args.hart) c.args.decoded.now _ c.args.regs.now c.args.memory.now (g.met.M.ReadyMemory.stays_itself c.args.hart c.args.memory.now) (ap (λ o. has_data (class_of o)) c.in-Sltiu.is)

pub returns-in-Xori-clause-reached : goal.returns-in-Xori-clause-reached
returns-in-Xori-clause-reached g c =
    apart g.M.ReadyMemory.memory (g.M.ReadyMemory.serves c.args.hart) (g.M.ReadyMemory.stays c.args.hart) c.args.decoded.now _ c.args.regs.now c.args.memory.now (g.met.M.ReadyMemory.stays_itself c.args.hart c.args.memory.now) (ap (λ o. has_data (class_of o)) c.in-Xori.is)

pub returns-in-Ori-clause-reached : goal.returns-in-Ori-clause-reached
returns-in-Ori-clause-reached g c =
    apart g.M.ReadyMemory.memory (g.M.ReadyMemory.serves c.args.hart) (g.M.ReadyMemory.stays c.args.hart) c.args.decoded.now _ c.args.regs.now c.args.memory.now (g.met.M.ReadyMemory.stays_itself c.args.hart c.args.memory.now) (ap (λ o. has_data (class_of o)) c.in-Ori.is)

pub returns-in-Andi-clause-reached : goal.returns-in-Andi-clause-reached
returns-in-Andi-clause-reached g c =
    apart g.M.ReadyMemory.memory (g.M.ReadyMemory.serves c.args.hart) (g.M.ReadyMemory.stays c.args.hart) c.args.decoded.now _ c.args.regs.now c.args.memory.now (g.met.M.ReadyMemory.stays_itself c.args.hart c.args.memory.now) (ap (λ o. has_data (class_of o)) c.in-Andi.is)

pub returns-in-Slli-clause-reached : goal.returns-in-Slli-clause-reached
returns-in-Slli-clause-reached g c =
    apart g.M.ReadyMemory.memory (g.M.ReadyMemory.serves c.args.hart) (g.M.ReadyMemory.stays c.args.hart) c.args.decoded.now _ c.args.regs.now c.args.memory.now (g.met.M.ReadyMemory.stays_itself c.args.hart c.args.memory.now) (ap (λ o. has_data (class_of o)) c.in-Slli.is)

pub returns-in-Srli-clause-reached : goal.returns-in-Srli-clause-reached
returns-in-Srli-clause-reached g c =
    apart g.M.ReadyMemory.memory (g.M.ReadyMemory.serves c.args.hart) (g.M.ReadyMemory.stays c.args.hart) c.args.decoded.now _ c.args.regs.now c.args.memory.now (g.met.M.ReadyMemory.stays_itself c.args.hart c.args.memory.now) (ap (λ o. has_data (class_of o)) c.in-Srli.is)

pub returns-in-Srai-clause-reached : goal.returns-in-Srai-clause-reached
returns-in-Srai-clause-reached g c =
    apart g.M.ReadyMemory.memory (g.M.ReadyMemory.serves c.args.hart) (g.M.ReadyMemory.stays c.args.hart) c.args.decoded.now _ c.args.regs.now c.args.memory.now (g.met.M.ReadyMemory.stays_itself c.args.hart c.args.memory.now) (ap (λ o. has_data (class_of o)) c.in-Srai.is)

pub returns-in-Add-clause-reached : goal.returns-in-Add-clause-reached
returns-in-Add-clause-reached g c =
    apart g.M.ReadyMemory.memory (g.M.ReadyMemory.serves c.args.hart) (g.M.ReadyMemory.stays c.args.hart) c.args.decoded.now _ c.args.regs.now c.args.memory.now (g.met.M.ReadyMemory.stays_itself c.args.hart c.args.memory.now) (ap (λ o. has_data (class_of o)) c.in-Add.is)

pub returns-in-Sub-clause-reached : goal.returns-in-Sub-clause-reached
returns-in-Sub-clause-reached g c =
    apart g.M.ReadyMemory.memory (g.M.ReadyMemory.serves c.args.hart) (g.M.ReadyMemory.stays c.args.hart) c.args.decoded.now _ c.args.regs.now c.args.memory.now (g.met.M.ReadyMemory.stays_itself c.args.hart c.args.memory.now) (ap (λ o. has_data (class_of o)) c.in-Sub.is)

pub returns-in-Sll-clause-reached : goal.returns-in-Sll-clause-reached
returns-in-Sll-clause-reached g c =
    apart g.M.ReadyMemory.memory (g.M.ReadyMemory.serves c.args.hart) (g.M.ReadyMemory.stays c.args.hart) c.args.decoded.now _ c.args.regs.now c.args.memory.now (g.met.M.ReadyMemory.stays_itself c.args.hart c.args.memory.now) (ap (λ o. has_data (class_of o)) c.in-Sll.is)

pub returns-in-Slt-clause-reached : goal.returns-in-Slt-clause-reached
returns-in-Slt-clause-reached g c =
    apart g.M.ReadyMemory.memory (g.M.ReadyMemory.serves c.args.hart) (g.M.ReadyMemory.stays c.args.hart) c.args.decoded.now _ c.args.regs.now c.args.memory.now (g.met.M.ReadyMemory.stays_itself c.args.hart c.args.memory.now) (ap (λ o. has_data (class_of o)) c.in-Slt.is)

pub returns-in-Sltu-clause-reached : goal.returns-in-Sltu-clause-reached
returns-in-Sltu-clause-reached g c =
    apart g.M.ReadyMemory.memory (g.M.ReadyMemory.serves c.args.hart) (g.M.ReadyMemory.stays c.args.hart) c.args.decoded.now _ c.args.regs.now c.args.memory.now (g.met.M.ReadyMemory.stays_itself c.args.hart c.args.memory.now) (ap (λ o. has_data (class_of o)) c.in-Sltu.is)

pub returns-in-Xor-clause-reached : goal.returns-in-Xor-clause-reached
returns-in-Xor-clause-reached g c =
    apart g.M.ReadyMemory.memory (g.M.ReadyMemory.serves c.args.hart) (g.M.ReadyMemory.stays c.args.hart) c.args.decoded.now _ c.args.regs.now c.args.memory.now (g.met.M.ReadyMemory.stays_itself c.args.hart c.args.memory.now) (ap (λ o. has_data (class_of o)) c.in-Xor.is)

pub returns-in-Srl-clause-reached : goal.returns-in-Srl-clause-reached
returns-in-Srl-clause-reached g c =
    apart g.M.ReadyMemory.memory (g.M.ReadyMemory.serves c.args.hart) (g.M.ReadyMemory.stays c.args.hart) c.args.decoded.now _ c.args.regs.now c.args.memory.now (g.met.M.ReadyMemory.stays_itself c.args.hart c.args.memory.now) (ap (λ o. has_data (class_of o)) c.in-Srl.is)

pub returns-in-Sra-clause-reached : goal.returns-in-Sra-clause-reached
returns-in-Sra-clause-reached g c =
    apart g.M.ReadyMemory.memory (g.M.ReadyMemory.serves c.args.hart) (g.M.ReadyMemory.stays c.args.hart) c.args.decoded.now _ c.args.regs.now c.args.memory.now (g.met.M.ReadyMemory.stays_itself c.args.hart c.args.memory.now) (ap (λ o. has_data (class_of o)) c.in-Sra.is)

pub returns-in-Or-clause-reached : goal.returns-in-Or-clause-reached
returns-in-Or-clause-reached g c =
    apart g.M.ReadyMemory.memory (g.M.ReadyMemory.serves c.args.hart) (g.M.ReadyMemory.stays c.args.hart) c.args.decoded.now _ c.args.regs.now c.args.memory.now (g.met.M.ReadyMemory.stays_itself c.args.hart c.args.memory.now) (ap (λ o. has_data (class_of o)) c.in-Or.is)

pub returns-in-And-clause-reached : goal.returns-in-And-clause-reached
returns-in-And-clause-reached g c =
    apart g.M.ReadyMemory.memory (g.M.ReadyMemory.serves c.args.hart) (g.M.ReadyMemory.stays c.args.hart) c.args.decoded.now _ c.args.regs.now c.args.memory.now (g.met.M.ReadyMemory.stays_itself c.args.hart c.args.memory.now) (ap (λ o. has_data (class_of o)) c.in-And.is)

pub returns-in-Mul-clause-reached : goal.returns-in-Mul-clause-reached
returns-in-Mul-clause-reached g c =
    apart g.M.ReadyMemory.memory (g.M.ReadyMemory.serves c.args.hart) (g.M.ReadyMemory.stays c.args.hart) c.args.decoded.now _ c.args.regs.now c.args.memory.now (g.met.M.ReadyMemory.stays_itself c.args.hart c.args.memory.now) (ap (λ o. has_data (class_of o)) c.in-Mul.is)

pub returns-in-Mulh-clause-reached : goal.returns-in-Mulh-clause-reached
returns-in-Mulh-clause-reached g c =
    apart g.M.ReadyMemory.memory (g.M.ReadyMemory.serves c.args.hart) (g.M.ReadyMemory.stays c.args.hart) c.args.decoded.now _ c.args.regs.now c.args.memory.now (g.met.M.ReadyMemory.stays_itself c.args.hart c.args.memory.now) (ap (λ o. has_data (class_of o)) c.in-Mulh.is)

pub returns-in-Mulhsu-clause-reached : goal.returns-in-Mulhsu-clause-reached
returns-in-Mulhsu-clause-reached g c =
    apart g.M.ReadyMemory.memory (g.M.ReadyMemory.serves c.args.hart) (g.M.ReadyMemory.stays c.args.hart) c.args.decoded.now _ c.args.regs.now c.args.memory.now (g.met.M.ReadyMemory.stays_itself c.args.hart c.args.memory.now) (ap (λ o. has_data (class_of o)) c.in-Mulhsu.is)

pub returns-in-Mulhu-clause-reached : goal.returns-in-Mulhu-clause-reached
returns-in-Mulhu-clause-reached g c =
    apart g.M.ReadyMemory.memory (g.M.ReadyMemory.serves c.args.hart) (g.M.ReadyMemory.stays c.args.hart) c.args.decoded.now _ c.args.regs.now c.args.memory.now (g.met.M.ReadyMemory.stays_itself c.args.hart c.args.memory.now) (ap (λ o. has_data (class_of o)) c.in-Mulhu.is)

pub returns-in-Div-clause-reached : goal.returns-in-Div-clause-reached
returns-in-Div-clause-reached g c =
    apart g.M.ReadyMemory.memory (g.M.ReadyMemory.serves c.args.hart) (g.M.ReadyMemory.stays c.args.hart) c.args.decoded.now _ c.args.regs.now c.args.memory.now (g.met.M.ReadyMemory.stays_itself c.args.hart c.args.memory.now) (ap (λ o. has_data (class_of o)) c.in-Div.is)

pub returns-in-Divu-clause-reached : goal.returns-in-Divu-clause-reached
returns-in-Divu-clause-reached g c =
    apart g.M.ReadyMemory.memory (g.M.ReadyMemory.serves c.args.hart) (g.M.ReadyMemory.stays c.args.hart) c.args.decoded.now _ c.args.regs.now c.args.memory.now (g.met.M.ReadyMemory.stays_itself c.args.hart c.args.memory.now) (ap (λ o. has_data (class_of o)) c.in-Divu.is)

pub returns-in-Rem-clause-reached : goal.returns-in-Rem-clause-reached
returns-in-Rem-clause-reached g c =
    apart g.M.ReadyMemory.memory (g.M.ReadyMemory.serves c.args.hart) (g.M.ReadyMemory.stays c.args.hart) c.args.decoded.now _ c.args.regs.now c.args.memory.now (g.met.M.ReadyMemory.stays_itself c.args.hart c.args.memory.now) (ap (λ o. has_data (class_of o)) c.in-Rem.is)

pub returns-in-Remu-clause-reached : goal.returns-in-Remu-clause-reached
returns-in-Remu-clause-reached g c =
    apart g.M.ReadyMemory.memory (g.M.ReadyMemory.serves c.args.hart) (g.M.ReadyMemory.stays c.args.hart) c.args.decoded.now _ c.args.regs.now c.args.memory.now (g.met.M.ReadyMemory.stays_itself c.args.hart c.args.memory.now) (ap (λ o. has_data (class_of o)) c.in-Remu.is)
