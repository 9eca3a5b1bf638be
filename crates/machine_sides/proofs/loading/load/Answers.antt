-- A page came in, and list and process agree on it and on every other, or none did, and they agree as before.
use Rattle.machine_sides.proofs.Agreements.{loads_agree}
use Rattle.machine_sides.proofs.LoadAgreements.{loads_meet, refusals_keep}
use Rattle.machine_sides.proofs.loading.load.Goals as goal

pub returns-clause-agree : goal.returns-clause-agree
returns-clause-agree g c = loads_agree _ _ c.args.admission c.args.space.now c.bring_in.new.space c.bring_in.result c.bring_in.ensures.loaded

pub returns-clause-meets : goal.returns-clause-meets
returns-clause-meets g c = loads_meet _ _ c.args.admission c.args.space.now c.bring_in.new.space c.bring_in.result c.bring_in.ensures.loaded

pub returns-clause-keeps : goal.returns-clause-keeps
returns-clause-keeps g c = refusals_keep _ _ c.args.admission c.args.space.now c.bring_in.new.space _ c.bring_in.result c.bring_in.ensures.refused
