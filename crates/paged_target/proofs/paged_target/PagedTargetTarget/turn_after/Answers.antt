use Rattle.std.proofs.Common.{◌≡◌, ◌∙◌, true, ap, subst, sym, unwrap_or}
use Rattle.flat_machine.specs.ByTurns.{turn_after}
use Rattle.flat_machine.specs.Process.{is_live}
use Rattle.paged_target.specs.Shown.{flat_at, shown_as, shown_of}
use Rattle.paged_target.proofs.Showing.{marks_few, shows_flat, turn_lives, turn_shown}
use Rattle.paged_target.proofs.paged_target.PagedTargetTarget.turn_after.Goals as goal

pub next_live-requires : goal.next_live-requires
next_live-requires g c = record { few = marks_few _ c.self.inside.core (shows_flat _ _ c.self.inside.core (tt {0}) c.faithful.ensures c.self.invariant.there) }

pub returns-clause-turn : goal.returns-clause-turn
returns-clause-turn g c =
    subst (λ t. c.unwrap_or.result ≡ turn_after c.args.hart (shown_of t)) c.self.view_is
    (c.unwrap_or.ensures ∙ ap (λ o. unwrap_or o c.args.hart) c.next_live.ensures.turn
    ∙ turn_shown _ c.self.inside.core (shows_flat _ _ c.self.inside.core (tt {0}) c.faithful.ensures c.self.invariant.there) c.self.inside.full c.args.hart)

pub returns-clause-live : goal.returns-clause-live
returns-clause-live g c =
    subst (λ t. is_live c.unwrap_or.result (shown_of t) ≡ true) c.self.view_is
    (subst (λ turn. is_live turn (shown_as c.self.inside.full (flat_at c.self.inside.core)) ≡ true) (sym (c.unwrap_or.ensures ∙ ap (λ o. unwrap_or o c.args.hart) c.next_live.ensures.turn))
    (turn_lives _ c.self.inside.core (shows_flat _ _ c.self.inside.core (tt {0}) c.faithful.ensures c.self.invariant.there) c.self.inside.full c.args.hart))
