use Rattle.std.proofs.Common.{◌≡◌, ◌∙◌, ap, is_some, subst}
use Rattle.page_memory.specs.Memory.{byte_at}
use Rattle.paged_target.specs.Shown.{shown_of}
use Rattle.paged_target.proofs.Showing.{mapped_shown, shows_flat}
use Rattle.paged_target.proofs.paged_target.PagedTargetTarget.is_mapped.Goals as goal

pub returns : goal.returns
returns g c =
    subst (λ t. c.is_some.result ≡ is_some (byte_at (shown_of t).memory c.args.address)) c.self.view_is
    (c.is_some.ensures ∙ ap is_some c.state.ensures
    ∙ mapped_shown _ c.self.inside.core (shows_flat _ _ c.self.inside.core (tt {0}) c.faithful.ensures c.self.invariant.there) c.self.inside.full c.args.address c.page_of.result c.page_of.ensures.number c.page_of.ensures.small)
