use Rattle.std.proofs.Common.{◌≡◌, None, subst, sym}
use Rattle.page_memory.specs.Entries.{place_of}
use Rattle.paged_memory.proofs.GrowthLaws.{holds_inserted}
use Rattle.paged_memory.proofs.memory.PagedMemory.map_page.Goals as goal

pub invariant_of-self : goal.invariant_of-self
invariant_of-self g c =
    let absent = subst (λ v. place_of c.args.vpn v.pages ≡ None) (sym c.self.view_is) c.requires.absent in
    holds_inserted c.insert.result c.self.inside.pages c.insert.new.self c.args.vpn c.args.page c.of_image.result c.requires.small absent c.requires.readable c.of_image.ensures c.insert.ensures.ok c.insert.ensures.err c.self.invariant
