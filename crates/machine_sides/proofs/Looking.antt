-- A look at a page that is to leave its frame: first with no slot to spare, and then, for a changed page without one, with a free slot.
use Rattle.std.proofs.Common.{◌≡◌, ℕ, ◌^◌, ◌<◌, Bool, false, List, Option, Some, None, [], ◌∷◌, ◌++◌, IsNone, IfSome, IfNone, ◌↔◌, refl, sym, ap, ◌∙◌, subst}
use Rattle.page_store.specs.declared.answer.Collected.{Collected}
use Rattle.page_store.specs.declared.answer.Collected.TheVariants as answer
use Rattle.paged_memory.specs.moves.Leaving.{lets_go}
use Rattle.paged_memory.proofs.access_laws.LooksLaws.{ComesTo, TakesSpare, comes_to, wants_slotless, leaving_stage, wants_uncached, wants_unbacked}
use Rattle.paged_memory.specs.moves.Moving.{WantsSlot, LooksAt, OnlyPages, with_pages, slot_in}
use Rattle.paged_memory.specs.Paged.{PagedValue}
use Rattle.paged_memory.specs.moves.Stages.{is_leaving_stage}
use Rattle.space_core.specs.StandsFor.{SpaceValue}
use Rattle.swap_slots.specs.PoolValue.{PoolValue}
use Rattle.machine_sides.specs.Collecting.{Finds, TakesSlot}
use Rattle.machine_sides.proofs.StageLaws.{stage_below}

module _ (L S : Type 0) (vpn : ℕ) (small : vpn < 2 ^ 20) where
  module _ (space space' : SpaceValue S) (stays : space' ≡ record space { memory = with_pages space.memory space'.memory }) where
    pages_stay : OnlyPages space.memory space'.memory
    pages_stay = ap (λ (s : SpaceValue S). s.memory) stays

    memory_stays : space' ≡ record space { memory = space'.memory }
    memory_stays = stays ∙ ap (λ (m : PagedValue S). record space { memory = m }) (sym pages_stay)

    -- with no slot to spare
    own_slot : (own : Option S) (slot : S) (spare' : Option S) (free : List S) → TakesSpare own slot None spare' → TakesSlot own slot free free
    own_slot None slot spare' free takes = let e = takes.0 in cc
    own_slot (Some own) slot spare' free takes = (takes.0, refl)

    pub first_found : (slots : PoolValue S) (spare' : Option S) (a : Collected L S) → ComesTo vpn None spare' space.memory space'.memory a → (lets_go a ≡ false → space' ≡ space) → (a ≡ answer.NoSlot → ⊥) → Finds vpn space space' slots slots a
    first_found slots spare' answer.NotLeaving to same apart = (ap is_leaving_stage (stage_below space vpn small) ∙ to.0, (same refl, refl))
    first_found slots spare' answer.NotYet to same apart = (to.0, (same refl, refl))
    first_found slots spare' (answer.Clean frame) to same apart = (record { moves = to.0; stays = memory_stays }, refl)
    first_found slots spare' (answer.Dirty job) to same apart = record {
      moves = to.0;
      stays = memory_stays;
      slot = own_slot (slot_in space.memory vpn) job.slot spare' slots.free to.1;
      size = refl;
    }
    first_found slots spare' answer.NoSlot to same apart = absurd (apart refl)

    -- with a slot to spare or none, where the page wants one
    module _ (wants : WantsSlot vpn space.memory) (slots slots' : PoolValue S) (spare spare' : Option S) (empty : IsNone spare ↔ (slots.free ≡ [])) (taken : IfSome spare (λ slot. slots.free ≡ slots'.free ++ slot ∷ []))
        (none : IfNone spare (slots'.free ≡ slots.free)) (size : slots'.size ≡ slots.size) where
      same_pool : slots'.free ≡ slots.free → slots' ≡ slots
      same_pool free = ap (λ f. record { free = f; size = slots'.size }) free ∙ ap (λ n. record { free = slots.free; size = n }) size

      wanted : (slot : S) → TakesSpare (slot_in space.memory vpn) slot spare spare' → TakesSlot (slot_in space.memory vpn) slot slots.free slots'.free
      wanted slot takes =
          let own = wants_slotless vpn space.memory wants in
          let spares : spare ≡ Some slot = (subst (λ o. TakesSpare o slot spare spare') own takes).0 in
          subst (λ o. TakesSlot o slot slots.free slots'.free) (sym own) (subst (λ o. IfSome o (λ s. slots.free ≡ slots'.free ++ s ∷ [])) spares taken)

      pub second_found : (a : Collected L S) → ComesTo vpn spare spare' space.memory space'.memory a → (lets_go a ≡ false → space' ≡ space) → Finds vpn space space' slots slots' a
      second_found answer.NotLeaving to same = let no = to.0 in let yes = leaving_stage vpn space.memory wants.page in cc
      second_found answer.NotYet to same = absurd (wants_uncached vpn space.memory wants to.0)
      second_found (answer.Clean frame) to same = absurd (wants_unbacked vpn frame space.memory space'.memory wants to.0)
      second_found (answer.Dirty job) to same = record { moves = to.0; stays = memory_stays; slot = wanted job.slot to.1; size = size }
      second_found answer.NoSlot to same =
          let no : IsNone spare = subst IsNone (sym to.1) refl in
          (record { wants = wants; empty = empty.0 no }, (same refl, same_pool (subst (λ o. IfNone o (slots'.free ≡ slots.free)) to.1 none)))

  pub looked_first : (space space' : SpaceValue S) (slots : PoolValue S) (spare' : Option S) (a : Collected L S) → LooksAt vpn None spare' a space.memory space'.memory
      → space' ≡ record space { memory = with_pages space.memory space'.memory } → (lets_go a ≡ false → space' ≡ space) → (a ≡ answer.NoSlot → ⊥) → Finds vpn space space' slots slots a
  looked_first space space' slots spare' a looks stays same apart =
      first_found space space' stays slots spare' a (comes_to L vpn None spare' space.memory space'.memory small (pages_stay space space' stays) a looks) same apart

  pub looked_second : (space between space' : SpaceValue S) (slots slots' : PoolValue S) (spare spare' first_spare' : Option S) (begun a : Collected L S)
      → LooksAt vpn None first_spare' begun space.memory between.memory → between ≡ record space { memory = with_pages space.memory between.memory } → (lets_go begun ≡ false → between ≡ space) → begun ≡ answer.NoSlot
      → LooksAt vpn spare spare' a between.memory space'.memory → space' ≡ record between { memory = with_pages between.memory space'.memory } → (lets_go a ≡ false → space' ≡ between)
      → (IsNone spare ↔ (slots.free ≡ [])) → IfSome spare (λ slot. slots.free ≡ slots'.free ++ slot ∷ []) → IfNone spare (slots'.free ≡ slots.free) → slots'.size ≡ slots.size → Finds vpn space space' slots slots' a
  looked_second space between space' slots slots' spare spare' first_spare' begun a looks stays same none looks' stays' same' empty taken nothing size =
      let back : between ≡ space = same (ap lets_go none) in
      let first : ComesTo {L = L} vpn None first_spare' space.memory between.memory answer.NoSlot = subst (ComesTo vpn None first_spare' space.memory between.memory) none (comes_to L vpn None first_spare' space.memory between.memory small (pages_stay space between stays) begun looks) in
      let wants : WantsSlot vpn between.memory = subst (λ (s : SpaceValue S). WantsSlot vpn s.memory) (sym back) first.0 in
      subst (λ s. Finds vpn s space' slots slots' a) back
      (second_found between space' stays' wants slots slots' spare spare' empty taken nothing size a (comes_to L vpn spare spare' between.memory space'.memory small (pages_stay between space' stays') a looks') same')
