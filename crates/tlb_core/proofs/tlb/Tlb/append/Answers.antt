use Rattle.std.proofs.Common.{◌<◌, List, arith, length, subst, sym}
use Rattle.tlb_core.specs.declared.translation.Translation.{Translation}
use Rattle.tlb_core.proofs.CrowdLaws.{counted_behind, counted_short}
use Rattle.tlb_core.proofs.Places.{one_per_page_behind}
use Rattle.tlb_core.proofs.ReadyLaws.{ready_behind}
use Rattle.tlb_core.proofs.tlb.Tlb.append.Goals as goal

pub come-requires : goal.come-requires
come-requires c =
    let room : length c.self.inside.entries < 16 = subst (λ (l : List Translation). length l < 16) (sym c.self.view_is) c.make_room.ensures.room in
    counted_short c.self.inside.crowds.counts c.self.inside.entries c.args.entry.page c.self.invariant.counted (omega arith)

pub invariant_of-self : goal.invariant_of-self
invariant_of-self c =
    record {
      one = one_per_page_behind c.args.self.now _ _ c.args.entry c.self.invariant.one (cc) c.requires c.push.ensures;
      counted = counted_behind c.self.inside.crowds.counts c.self.inside.entries c.push.new.self c.args.entry c.come.new.self.counts c.self.invariant.counted c.push.ensures c.come.ensures;
      shows = ready_behind c.self.inside.entries c.push.new.self c.args.entry c.self.inside.ready c.push.ensures c.self.invariant.shows;
    }
