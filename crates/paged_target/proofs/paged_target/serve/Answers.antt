use Rattle.std.proofs.Common.{subst}
use Rattle.paged_target.specs.Serving.{ServesFlat}
use Rattle.paged_target.specs.Shown.{flat_at}
use Rattle.paged_target.proofs.GivingUp.{given_up_by}
use Rattle.paged_target.proofs.Recorded.{room_after}
use Rattle.paged_target.proofs.Showing.{shows_flat}
use Rattle.paged_target.proofs.Staying.{serves_full, serves_intact, serves_unkilled}
use Rattle.paged_target.proofs.Stepping.{serves_flat, serves_recorded, serves_there}
use Rattle.paged_target.proofs.paged_target.serve.Goals as goal

pub returns-clause-serves : goal.returns-clause-serves
returns-clause-serves g c =
    serves_flat _ _ _ c.args.hart c.serve_step-served.result c.args.core.now c.serve_step-served.new.core (shows_flat _ _ c.args.core.now (tt {0}) c.faithful.ensures c.requires.there) (tt {0}) c.faithful-2.ensures c.serve_step-served.ensures.serves

pub returns-clause-there : goal.returns-clause-there
returns-clause-there g c = serves_there _ _ _ c.args.hart c.serve_step-served.result c.args.core.now c.serve_step-served.new.core (shows_flat _ _ c.args.core.now (tt {0}) c.faithful.ensures c.requires.there) c.serve_step-served.ensures.serves

pub returns-clause-room : goal.returns-clause-room
returns-clause-room g c =
    room_after c.serve_step-served.result c.args.hart c.args.core.now c.serve_step-served.new.core
    (serves_recorded _ _ _ c.args.hart c.serve_step-served.result c.args.core.now c.serve_step-served.new.core (shows_flat _ _ c.args.core.now (tt {0}) c.faithful.ensures c.requires.there) c.serve_step-served.ensures.serves)

pub returns-clause-given_up : goal.returns-clause-given_up
returns-clause-given_up g c absent =
    let shows = shows_flat _ _ c.args.core.now (tt {0}) c.faithful.ensures c.requires.there in
    let serves = c.serve_step-served.ensures.serves in
    let there = serves_there _ _ _ c.args.hart c.serve_step-served.result c.args.core.now c.serve_step-served.new.core shows serves in
    let flat = serves_flat _ _ _ c.args.hart c.serve_step-served.result c.args.core.now c.serve_step-served.new.core shows (tt {0}) c.faithful-2.ensures serves in
    given_up_by _ c.args.hart c.args.core.now c.serve_step-served.new.core (shows_flat _ _ c.serve_step-served.new.core (tt {0}) c.faithful-2.ensures there)
    (serves_unkilled c.args.hart _ _ _ c.serve_step-served.result c.args.core.now c.serve_step-served.new.core serves c.requires.there c.requires.unkilled) c.requires.goes_on
    (subst (λ what. ServesFlat what c.args.hart (flat_at c.args.core.now) (flat_at c.serve_step-served.new.core)) absent flat) (c.serve_step-served.ensures.given_up absent)

pub returns-clause-full : goal.returns-clause-full
returns-clause-full g c full = serves_full c.args.hart _ _ _ c.serve_step-served.result c.args.core.now c.serve_step-served.new.core c.serve_step-served.ensures.serves c.requires.there full

pub returns-clause-intact : goal.returns-clause-intact
returns-clause-intact g c = serves_intact c.args.hart _ _ _ c.serve_step-served.result c.args.core.now c.serve_step-served.new.core c.serve_step-served.ensures.serves c.requires.there c.requires.intact

pub returns-clause-unkilled : goal.returns-clause-unkilled
returns-clause-unkilled g c = serves_unkilled c.args.hart _ _ _ c.serve_step-served.result c.args.core.now c.serve_step-served.new.core c.serve_step-served.ensures.serves c.requires.there c.requires.unkilled
