use Rattle.std.proofs.Common.{sym, subst, arith}
use Rattle.page_memory.specs.Words.{page_number}
use Rattle.tlb_core.specs.Cache.{Hits}
use Rattle.tlb_core.specs.Ready.{IsReady}
use Rattle.tlb_core.proofs.ReadyLaws.{ready_learned}
use Rattle.tlb_core.proofs.tlb.Tlb.remember.Goals as goal

pub invariant_of-self : goal.invariant_of-self
invariant_of-self c =
    let here = subst (λ l. Hits l c.args.access (page_number c.args.address) c.args.place) (sym c.self.view_is) c.requires in
    record {
      one = c.self.invariant.one;
      counted = c.self.invariant.counted;
      shows = subst (λ r. IsReady c.self.inside.entries r) (sym c.learn.ensures) (ready_learned c.self.inside.entries c.args.access c.args.address c.args.place c.self.inside.ready (omega arith) here c.self.invariant.shows);
    }
