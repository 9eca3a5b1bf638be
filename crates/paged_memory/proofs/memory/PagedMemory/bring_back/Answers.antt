use Rattle.std.proofs.Common.{◌≡◌, ap, refl, subst}
use Rattle.paged_memory.specs.Paged.{memory_in, memory_of}
use Rattle.paged_memory.proofs.move_laws.ReturningLaws.{holds_returned, memory_returned, plain, entry_plain}
use Rattle.paged_memory.proofs.memory.PagedMemory.bring_back.Goals as goal

pub invariant_of-self : goal.invariant_of-self
invariant_of-self g c =
    let told = c.bring_back_page-frame.ensures.back in
    holds_returned c.args.vpn c.requires c.self.invariant c.bring_back_page-frame.result.changed (plain told) c.remap.new.self (entry_plain told c.self.inside.tables c.remap.new.self c.remap.ensures.entries) c.remap.ensures.tables

pub returns-clause-ok : goal.returns-clause-ok
returns-clause-ok g c =
    let told = c.bring_back_page-frame.ensures.back in
    rw (← c.self.view_is) (record {
      small = c.requires;
      page = record { mark = c.bring_back_page-frame.result.changed; page = plain told; entry = entry_plain told c.self.inside.tables c.remap.new.self c.remap.ensures.entries };
      tabled = c.remap.ensures.tables;
      process = refl;
      caches = refl;
      reserved = refl;
    })

pub returns-clause-memory : goal.returns-clause-memory
returns-clause-memory g c =
    subst (λ v. memory_in g.S.SwapSlot.content c.bring_back_page-frame.new.pages c.self.inside.reservations ≡ memory_of g.S.SwapSlot.content v) c.self.view_is
    (ap (λ p. record { pages = p; reserved = c.self.inside.reservations }) (memory_returned g.S.SwapSlot.content (plain c.bring_back_page-frame.ensures.back)))
