use Rattle.std.proofs.Common.{◌∙◌, sym}
use Rattle.rv_exec.specs.Arithmetic.{is_taken}
use Rattle.decoded_pages.proofs.Done.{branch_taken, branch_left}
use Rattle.decoded_pages.proofs.performing.branch.Goals as goal

pub returns-then-branches : goal.returns-then-branches
returns-then-branches c = λ start place memory.
    branch_taken c.args.decoded.now c.args.kind start place c.args.regs.now memory c.requires.class c.requires.aligned
    ((λ i. is_taken c.args.kind (sym c.read.ensures i) (sym c.read-2.ensures i)) ∙ sym c.branches.ensures ∙ c.if-branches.true)

pub returns-else-branches : goal.returns-else-branches
returns-else-branches c = λ start place memory.
    branch_left c.args.decoded.now c.args.kind start place c.args.regs.now memory c.requires.class
    ((λ i. is_taken c.args.kind (sym c.read.ensures i) (sym c.read-2.ensures i)) ∙ sym c.branches.ensures ∙ c.if-branches.false)
