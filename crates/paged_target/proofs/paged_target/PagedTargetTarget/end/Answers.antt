use Rattle.std.proofs.Common.{◌≡◌, ◌∙◌, ap, subst, sym}
use Rattle.paged_target.specs.Shown.{flat_at, shown_as, shown_of}
use Rattle.paged_target.proofs.Showing.{end_shown, shows_flat}
use Rattle.paged_target.proofs.paged_target.PagedTargetTarget.end.Goals as goal

pub returns-in-Some : goal.returns-in-Some
returns-in-Some g c =
    subst (λ t. c.own_ending.result ≡ (shown_of t).ending) c.self.view_is
    (c.own_ending.ensures ∙ end_shown _ c.self.inside.core (shows_flat _ _ c.self.inside.core (tt {0}) c.faithful.ensures c.self.invariant.there) c.in-Some.end c.in-Some.ensures.exact
    ∙ ap (λ full. (shown_as full (flat_at c.self.inside.core)).ending) (sym c.if-self.false))
