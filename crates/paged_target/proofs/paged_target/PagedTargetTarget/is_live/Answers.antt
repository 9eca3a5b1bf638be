use Rattle.std.proofs.Common.{◌≡◌, ◌∙◌, subst}
use Rattle.flat_machine.specs.Process.{is_live}
use Rattle.paged_target.specs.Shown.{shown_of}
use Rattle.paged_target.proofs.Showing.{live_shown, shows_flat}
use Rattle.paged_target.proofs.paged_target.PagedTargetTarget.is_live.Goals as goal

pub returns : goal.returns
returns g c =
    subst (λ t. c.is_live.result ≡ is_live c.args.hart (shown_of t)) c.self.view_is
    (c.is_live.ensures ∙ live_shown _ c.self.inside.core (shows_flat _ _ c.self.inside.core (tt {0}) c.faithful.ensures c.self.invariant.there) c.self.inside.full c.args.hart)
