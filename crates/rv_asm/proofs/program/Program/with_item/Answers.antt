use Rattle.std.proofs.Common.{arith, inl, inr}
use Rattle.rv_asm.proofs.Places.{counted_item}
use Rattle.rv_asm.proofs.FirstSteps.{item_added, item_refused}
use Rattle.rv_asm.proofs.program.Program.with_item.Goals as goal
use Rattle.rv_asm.proofs.program.Program.with_item.Goals.{then-text-self-via-then-text-self, then-text-self-via-else-text-self+then-data-self}

pub returns-then-text-self-clause-refusal : goal.returns-then-text-self-clause-refusal
returns-then-text-self-clause-refusal c =
    item_refused c.args.self c.self.inside.section _ c.args.item _ _ _ _ c.self.view_is c.self.invariant.text_size c.self.invariant.data_size c.length-text.ensures c.length-data.ensures
    (elim c.then-text-self.branch [ then-text-self-via-then-text-self w ↦ inl (omega arith) | then-text-self-via-else-text-self+then-data-self w ↦ inr (omega arith) ])

pub invariant_of-self : goal.invariant_of-self
invariant_of-self c = counted_item _ _ _ _ _ _ _ _ c.self.invariant c.requires c.in_ok-push.ensures.items c.length-text.ensures c.length-data.ensures (omega arith) (omega arith)

pub returns-clause-program : goal.returns-clause-program
returns-clause-program c =
    item_added c.args.self c.self.inside.section _ _ c.args.item _ _ _ _ c.self.view_is c.self.invariant.text_size c.self.invariant.data_size c.length-text.ensures c.length-data.ensures (omega arith) (omega arith) c.in_ok-push.ensures.items
