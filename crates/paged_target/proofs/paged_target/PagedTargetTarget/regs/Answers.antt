use Rattle.std.proofs.Common.{◌≡◌, ◌∙◌, subst}
use Rattle.std.specs.Option.{option_copied}
use Rattle.flat_machine.specs.Process.{hart_registers}
use Rattle.paged_target.specs.Shown.{shown_of}
use Rattle.paged_target.proofs.Showing.{harts_shown, shows_flat}
use Rattle.paged_target.proofs.paged_target.PagedTargetTarget.regs.Goals as goal

pub returns : goal.returns
returns g c =
    subst (λ t. option_copied c.regs.result ≡ hart_registers c.args.hart (shown_of t)) c.self.view_is
    (c.regs.ensures.exact ∙ harts_shown _ c.self.inside.core (shows_flat _ _ c.self.inside.core (tt {0}) c.faithful.ensures c.self.invariant.there) c.self.inside.full c.args.hart)
