use Rattle.guest_history.proofs.Standing.{kept_here, stands_with}
use Rattle.guest_history.proofs.history.History.keep.Goals as goal

pub returns-in-Ok-clause-stands : goal.returns-in-Ok-clause-stands
returns-in-Ok-clause-stands c =
    let old = c.args.self.now in
    stands_with old c.add.new.self c.requires.stands
    (c.add.ensures old.program old.path.stretches.items old.path.total c.requires.stands.kept (kept_here old c.in-Ok.place c.requires.stands c.in-Ok.ensures.place c.in-Ok.ensures.live))
