use Rattle.guest_history.proofs.Standing.{kept_followed, stands_on}
use Rattle.guest_history.proofs.history.History.note.Goals as goal

pub returns-clause-stands : goal.returns-clause-stands
returns-clause-stands c = stands_on c.args.self.now c.args.whose c.args.count c.in_ok-is_kept.is_kept c.extend.new.self c.follow.new.self c.requires.moved c.in_ok-is_kept.ensures.extended
    (kept_followed c.args.self.now c.args.whose c.args.count c.in_ok-is_kept.is_kept c.extend.new.self c.follow.new.self c.in_ok-is_kept.ensures.extended c.requires.moved.kept c.follow.ensures.all c.follow.ensures.copies c.follow.ensures.within c.follow.ensures.spaced)
