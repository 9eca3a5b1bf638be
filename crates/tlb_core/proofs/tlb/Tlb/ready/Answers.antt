use Rattle.std.proofs.Common.{◌≡◌, ◌≤◌, ◌+◌, ◌*◌, ◌/◌, ◌%◌, ap, sym, ◌∙◌, subst, arith}
use Rattle.page_memory.specs.Words.{page_number, bytes_in}
use Rattle.page_memory.specs.declared.recent_pages.RecentPage.{RecentPage}
use Rattle.page_memory.specs.RecentPages.{recent_of}
use Rattle.page_memory.proofs.RememberedLaws.{below_four}
use Rattle.tlb_core.specs.Cache.{Hits}
use Rattle.tlb_core.proofs.ReadyLaws.{served}
use Rattle.tlb_core.proofs.tlb.Tlb.ready.Goals as goal

pub offset_past-requires : goal.offset_past-requires
offset_past-requires c =
    let shown = c.self.invariant.shows c.args.access (page_number c.args.address) in
    record {
      multiple = ap (λ (k : RecentPage). k.start % 4096) c.of-known.ensures ∙ shown.multiple;
      limit = subst (λ (k : RecentPage). k.start ≤ 4294967296) (sym c.of-known.ensures) shown.limit;
    }

pub returns-in-Some-clause-aligned : goal.returns-in-Some-clause-aligned
returns-in-Some-clause-aligned c =
    let e : c.args.address / 4096 * 4096 + c.args.address % bytes_in c.args.width ≡ (recent_of c.args.access (page_number c.args.address) c.self.inside.ready).start =
    c.in-Some.ensures.served ∙ ap (λ (k : RecentPage). k.start) c.of-known.ensures in
    (served c.self.inside.entries c.args.access c.args.address (c.args.address % bytes_in c.args.width) c.self.inside.ready c.self.invariant.shows (omega arith) (below_four c.args.width c.args.address) e).0

pub returns-in-Some-clause-hits : goal.returns-in-Some-clause-hits
returns-in-Some-clause-hits c =
    let e : c.args.address / 4096 * 4096 + c.args.address % bytes_in c.args.width ≡ (recent_of c.args.access (page_number c.args.address) c.self.inside.ready).start =
    c.in-Some.ensures.served ∙ ap (λ (k : RecentPage). k.start) c.of-known.ensures in
    let hits = (served c.self.inside.entries c.args.access c.args.address (c.args.address % bytes_in c.args.width) c.self.inside.ready c.self.invariant.shows (omega arith) (below_four c.args.width c.args.address) e).1 in
    subst (λ n. Hits c.args.self.now c.args.access (page_number c.args.address) n) (sym (ap (λ (k : RecentPage). k.place) c.of-known.ensures))
    (subst (λ l. Hits l c.args.access (page_number c.args.address) (recent_of c.args.access (page_number c.args.address) c.self.inside.ready).place) c.self.view_is hits)
