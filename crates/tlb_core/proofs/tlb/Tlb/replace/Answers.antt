use Rattle.std.proofs.Common.{◌≡◌, Some, ap, ◌∙◌, subst, sym}
use Rattle.std.specs.Prelude.{position}
use Rattle.tlb_core.specs.Cache.{is_of_page}
use Rattle.tlb_core.specs.Ready.{IsReady}
use Rattle.tlb_core.proofs.CrowdLaws.{counted_same}
use Rattle.tlb_core.proofs.Places.{one_per_page_replaced, pages_replaced}
use Rattle.tlb_core.proofs.ReadyLaws.{ready_replaced}
use Rattle.tlb_core.proofs.tlb.Tlb.replace.Goals as goal

pub invariant_of-self : goal.invariant_of-self
invariant_of-self c =
    let here : position (is_of_page c.args.entry.page) c.self.inside.entries ≡ Some c.args.place = ap (position (is_of_page c.args.entry.page)) c.self.view_is ∙ c.requires.place in
    record {
      one = one_per_page_replaced c.self.inside.entries c.put.new.self c.args.entry c.args.place c.self.invariant.one here c.put.ensures.entries;
      counted = counted_same c.self.inside.crowds.counts c.self.inside.entries c.put.new.self (pages_replaced c.self.inside.entries c.put.new.self c.args.entry c.args.place here c.put.ensures.entries) c.self.invariant.counted;
      shows = subst (λ r. IsReady c.put.new.self r) (sym c.forget.ensures)
          (ready_replaced c.self.inside.entries c.put.new.self c.args.entry c.args.place c.self.inside.ready here c.put.ensures.entries c.self.invariant.shows);
    }
