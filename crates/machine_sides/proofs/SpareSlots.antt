-- A copy of a page is asked for with a free slot at hand, which goes back where it is not taken.
use Rattle.std.proofs.Common.{◌≡◌, ℕ, ◌+◌, ◌^◌, ◌<◌, ◌≤◌, Bool, false, List, Option, Some, None, [], ◌∷◌, ◌++◌, IsNone, IfSome, IfNone, ◌↔◌, length, length-append, refl, sym, ap, ◌∙◌, arith, subst}
use Rattle.page_store.specs.declared.answer.CleanCopy.{CleanCopy}
use Rattle.page_store.specs.declared.answer.CleanCopy.TheVariants as copied
use Rattle.paged_memory.proofs.cleaning_laws.CleanLaws.{CopyComesTo, copy_comes_to}
use Rattle.paged_memory.specs.cleaning.Cleaning.{CopiesPage, CopiesOut, settles}
use Rattle.paged_memory.proofs.access_laws.LooksLaws.{TakesSpare}
use Rattle.paged_memory.specs.moves.Moving.{OnlyPages, with_pages, slot_in}
use Rattle.paged_memory.specs.Paged.{PagedValue}
use Rattle.space_core.specs.StandsFor.{SpaceValue}
use Rattle.swap_slots.specs.PoolValue.{PoolValue}
use Rattle.machine_sides.specs.Cleaning.{SlotsAfter, PageCopied, SpareBack}
use Rattle.machine_sides.specs.Collecting.{TakesSlot}

module _ {S : Type 0} where
  same_pool : (old new : PoolValue S) → new.free ≡ old.free → new.size ≡ old.size → new ≡ old
  same_pool old new free size = ap (λ f. record { free = f; size = new.size }) free ∙ ap (λ n. record { free = old.free; size = n }) size

  module _ (slots between slots' : PoolValue S) (within : length slots.free ≤ slots.size) (spare spare' : Option S) (taken : IfSome spare (λ slot. slots.free ≡ between.free ++ slot ∷ [])) (none : IfNone spare (between.free ≡ slots.free))
      (size : between.size ≡ slots.size) (back : SpareBack spare' between slots') where
    sizes : slots'.size ≡ slots.size
    sizes = back.size ∙ size

    -- a slot that was taken left room
    room : (slot : S) → slots.free ≡ between.free ++ slot ∷ [] → length between.free ≡ between.size → ⊥
    room slot is full =
        let long : length slots.free ≡ length between.free + 1 = ap length is ∙ length-append between.free (slot ∷ []) in
        let same = size in
        omega (arith, long, full, same, within)

    -- it goes back
    unused : spare' ≡ spare → slots' ≡ slots
    unused same = by_spare spare same taken none
      where
        by_spare : (o : Option S) → spare' ≡ o → IfSome o (λ slot. slots.free ≡ between.free ++ slot ∷ []) → IfNone o (between.free ≡ slots.free) → slots' ≡ slots
        by_spare None is taken none = same_pool slots slots' (subst (λ o. IfNone o (slots'.free ≡ between.free)) is back.none ∙ none) sizes
        by_spare (Some slot) is taken none =
            let given = subst (λ o. IfSome o (λ slot. (length between.free ≡ between.size → ⊥) → slots'.free ≡ between.free ++ slot ∷ [])) is back.one in
            same_pool slots slots' (given (room slot taken) ∙ sym taken) sizes

    -- it was taken along
    used : (slot : S) → spare ≡ Some slot → spare' ≡ None → slots.free ≡ slots'.free ++ slot ∷ []
    used slot had left =
        let was : slots.free ≡ between.free ++ slot ∷ [] = subst (λ o. IfSome o (λ slot. slots.free ≡ between.free ++ slot ∷ [])) had taken in
        let stays : slots'.free ≡ between.free = subst (λ o. IfNone o (slots'.free ≡ between.free)) left back.none in
        was ∙ ap (λ l. l ++ slot ∷ []) (sym stays)

    slots_taken : (own : Option S) (slot : S) → TakesSpare own slot spare spare' → TakesSlot own slot slots.free slots'.free
    slots_taken (Some own) slot takes = (takes.0, ap (λ (p : PoolValue S). p.free) (unused takes.1))
    slots_taken None slot takes = used slot takes.0 takes.1

    pub slots_after : (vpn : ℕ) (old new : PagedValue S) (a : CleanCopy S) → CopyComesTo vpn spare spare' old new a → SlotsAfter (slot_in old vpn) slots slots' a
    slots_after vpn old new copied.NotCleaning came = unused came.1
    slots_after vpn old new copied.Stored came = unused came.1
    slots_after vpn old new copied.NotYet came = unused came.1
    slots_after vpn old new copied.NoSlot came = unused (came.1.1 ∙ sym came.1.0)
    slots_after vpn old new (copied.Copied job) came = (slots_taken (slot_in old vpn) job.slot came.takes, sizes)

  pub page_copied : (vpn : ℕ) (space space' : SpaceValue S) (slots between slots' : PoolValue S) (spare spare' : Option S) (a : CleanCopy S) → vpn < 2 ^ 20
      → CopiesPage vpn spare spare' a space.memory space'.memory → CopiesOut vpn a space.memory space'.memory → (settles a ≡ false → space' ≡ space) → space' ≡ record space { memory = with_pages space.memory space'.memory }
      → length slots.free ≤ slots.size → (IsNone spare ↔ (slots.free ≡ [])) → IfSome spare (λ slot. slots.free ≡ between.free ++ slot ∷ []) → IfNone spare (between.free ≡ slots.free) → between.size ≡ slots.size → SpareBack spare' between slots'
      → PageCopied vpn a space space' slots slots'
  page_copied vpn space space' slots between slots' spare spare' a small page copies same stays within empty taken none size back =
      let only : OnlyPages space.memory space'.memory = ap (λ (s : SpaceValue S). s.memory) stays in
      record {
        spare = spare;
        spare' = spare';
        lends = record {
          small = small;
          page = page;
          only = only;
          copies = copies;
          same = same;
          stays = stays ∙ ap (λ (m : PagedValue S). record space { memory = m }) (sym only);
        };
        empty = empty;
        slots_after = slots_after slots between slots' within spare spare' taken none size back vpn space.memory space'.memory a (copy_comes_to vpn spare spare' a space.memory space'.memory small only page);
      }
