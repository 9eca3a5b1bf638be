use Rattle.std.proofs.Common.{◌≡◌, ap, refl, subst}
use Rattle.paged_memory.specs.Calls.{ChangesBy, Leaves}
use Rattle.paged_memory.specs.Paged.{PagedValue, memory_in, memory_of}
use Rattle.paged_memory.proofs.move_laws.LeavingLaws.{memory_told, resident_told, changes_told, unmapped, begun_to_leave, leaving_copies}
use Rattle.paged_memory.proofs.memory.PagedMemory.begin_evict.Goals as goal

pub invariant_of-self : goal.invariant_of-self
invariant_of-self g c =
    let told = subst (λ d. ChangesBy (Leaves d) c.self.inside.pages c.leave.new.pages c.args.vpn) c.is_dirty-changed.ensures c.leave.ensures in
    rw c.doom.ensures (begun_to_leave _ c.args.vpn c.requires c.self.invariant (resident_told told) (changes_told told) c.unmap.ensures.entries c.unmap.ensures.tables)

pub returns-clause-ok : goal.returns-clause-ok
returns-clause-ok g c =
    let told = subst (λ d. ChangesBy (Leaves d) c.self.inside.pages c.leave.new.pages c.args.vpn) c.is_dirty-changed.ensures c.leave.ensures in
    let inside : PagedValue _ = record { process = c.self.inside.process; pages = c.self.inside.pages; tables = c.self.inside.tables; caches = c.self.inside.caches; reserved = c.self.inside.reservations } in
    let after : PagedValue _ = record inside { pages = c.leave.new.pages; tables = c.unmap.new.self; caches = c.doom.new.self } in
    rw (← c.self.view_is) (record {
      process = refl;
      page = told;
      entry = unmapped _ c.args.vpn c.requires c.self.invariant (resident_told told) (changes_told told) c.unmap.ensures.entries c.unmap.ensures.tables;
      tabled = c.unmap.ensures.tables;
      caches = c.doom.ensures;
      reserved = refl;
      copies = leaving_copies inside after c.args.vpn c.requires c.self.invariant told c.unmap.ensures.entries;
    })

pub returns-clause-memory : goal.returns-clause-memory
returns-clause-memory g c =
    subst (λ v. memory_in g.S.SwapSlot.content c.leave.new.pages c.self.inside.reservations ≡ memory_of g.S.SwapSlot.content v) c.self.view_is
    (ap (λ p. record { pages = p; reserved = c.self.inside.reservations }) (memory_told c.leave.ensures g.S.SwapSlot.content))
