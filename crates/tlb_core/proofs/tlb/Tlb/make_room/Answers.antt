use Rattle.std.proofs.Common.{◌≡◌, arith, sym, subst, drop}
use Rattle.page_memory.specs.RecentPages.{forgotten}
use Rattle.tlb_core.specs.Ready.{IsReady}
use Rattle.tlb_core.proofs.CrowdLaws.{oldest_gone, oldest_some}
use Rattle.tlb_core.proofs.Places.{one_per_page_room}
use Rattle.tlb_core.proofs.ReadyLaws.{ready_oldest_gone}
use Rattle.tlb_core.proofs.tlb.Tlb.make_room.Goals as goal

pub go-requires : goal.go-requires
go-requires c = oldest_some c.self.inside.crowds.counts c.self.inside.entries c.take_oldest-oldest.result (omega arith) c.take_oldest-oldest.ensures.oldest c.self.invariant.counted

pub invariant_of-self : goal.invariant_of-self
invariant_of-self c =
    let left : c.take_oldest-oldest.new.self ≡ drop 1 c.self.inside.entries = c.take_oldest-oldest.ensures.left in
    record {
      one = one_per_page_room c.self.inside.entries c.take_oldest-oldest.new.self c.self.invariant.one left;
      counted = oldest_gone c.self.inside.crowds.counts c.self.inside.entries c.take_oldest-oldest.new.self c.take_oldest-oldest.result c.go.new.self.counts (omega arith) c.take_oldest-oldest.ensures.oldest left c.self.invariant.counted c.go.ensures;
      shows = subst (λ r. IsReady c.take_oldest-oldest.new.self r) (sym c.forget.ensures)
          (subst (λ l. IsReady l (forgotten c.take_oldest-oldest.result.page c.self.inside.ready)) (sym left)
          (ready_oldest_gone c.self.inside.entries c.take_oldest-oldest.result c.self.inside.ready c.take_oldest-oldest.ensures.oldest c.self.invariant.shows));
    }
