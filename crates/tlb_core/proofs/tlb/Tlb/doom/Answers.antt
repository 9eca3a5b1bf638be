use Rattle.std.proofs.Common.{ap, ◌∙◌}
use Rattle.tlb_core.specs.Crowds.{pages_of}
use Rattle.tlb_core.proofs.CrowdLaws.{counted_same}
use Rattle.tlb_core.proofs.Places.{one_per_page_doomed, pages-doomed}
use Rattle.tlb_core.proofs.ReadyLaws.{ready_marked}
use Rattle.tlb_core.proofs.tlb.Tlb.doom.Goals as goal

pub invariant_of-self : goal.invariant_of-self
invariant_of-self c =
    record {
      one = one_per_page_doomed c.args.page _ _ c.self.invariant.one c.mark.ensures;
      counted = counted_same c.self.inside.crowds.counts c.self.inside.entries _ (ap pages_of c.mark.ensures ∙ pages-doomed c.args.page c.self.inside.entries) c.self.invariant.counted;
      shows = ready_marked c.args.page c.self.inside.entries c.mark.new.self c.self.inside.ready c.mark.ensures c.self.invariant.shows;
    }
