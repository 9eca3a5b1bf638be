use Rattle.std.proofs.lemmas.Result.{IfOk-weaker, IfErr-weaker}
use Rattle.rv_asm.specs.Steps.{Fails}
use Rattle.rv_asm.specs.Listing.{ListsTold, assembled}
use Rattle.rv_asm.specs.Assembly.{Assembles, IsFirstFault}
use Rattle.rv_asm.proofs.OneFault.{fault_answered}
use Rattle.rv_asm.proofs.Relation.{assembles, fails_first}
use Rattle.rv_asm.proofs.assembling.assemble.Goals as goal

pub returns-clause-listing : goal.returns-clause-listing
returns-clause-listing c = IfOk-weaker c.assemble_in_passes.result (ListsTold (assembled c.args.source.now)) (Assembles c.args.source.now) (assembles c.args.source.now) c.assemble_in_passes.ensures.listing

pub returns-clause-refusal : goal.returns-clause-refusal
returns-clause-refusal c = IfErr-weaker c.assemble_in_passes.result (Fails (assembled c.args.source.now)) (IsFirstFault c.args.source.now) (fails_first c.args.source.now) c.assemble_in_passes.ensures.refusal

pub returns-clause-exact : goal.returns-clause-exact
returns-clause-exact c line kind fault = fault_answered c.args.source.now c.assemble_in_passes.result line kind c.assemble_in_passes.ensures.listing c.assemble_in_passes.ensures.refusal fault
