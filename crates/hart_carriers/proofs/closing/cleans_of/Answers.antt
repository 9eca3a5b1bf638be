-- No process is left in the end.
use Rattle.std.proofs.Common.{◌∙◌, sym}
use Rattle.std.proofs.lemmas.List.{nil_from_length}
use Rattle.hart_carriers.proofs.Cleans.{with_none}
use Rattle.hart_carriers.proofs.closing.cleans_of.Goals as goal

pub returns : goal.returns
returns g c =
    sym (with_none c.loop-held.cleans c.loop-held.rest.now (nil_from_length c.loop-held.rest.now c.in_default.ensures.cases) c.loop-held.invariant.small) ∙ c.loop-held.invariant.counted
