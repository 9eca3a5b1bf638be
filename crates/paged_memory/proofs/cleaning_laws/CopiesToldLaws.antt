-- Where the same is told of each copy that is out, the same copies are out, and stand.
use Rattle.std.proofs.Common.{◌≡◌, ℕ, ◌^◌, ◌<◌, Bool, List, Option, Some, None, is_some, refl, sym, ap, ◌∙◌, subst}
use Rattle.std.specs.Prelude.{IsFalse}
use Rattle.page_store.specs.Cleaning.{IfOut, IfCopyOut}
use Rattle.page_store.specs.Keeping.{Keeping, NoSlot, Saved, Unbacked, Cleaning, CopyOut, is_copy_out}
use Rattle.page_store.specs.PageValue.{PageValue, Place, Fresh, Resident, Leaving, Saving, Away, Purged, slot_of}
use Rattle.sv32_table.specs.EntryAt.{entry_at}
use Rattle.paged_memory.specs.cleaning.Copies.{StandsAt, CopyStands, LeavesCopies, is_copied_in, if_out, told_of_place, told_of_page, told_in}
use Rattle.paged_memory.proofs.cleaning_laws.CopiesLaws.{copies_itself, copies_on}
use Rattle.paged_memory.specs.Counting.{page_passes}
use Rattle.paged_memory.specs.Paged.{PagedValue, page_at}

-- ---- a copy stands by what is told of it

abbrev Told : List ℕ → Option (Bool × List ℕ) → Type 0
Told bytes (Some told) = IsFalse told.0 → told.1 ≡ bytes
Told bytes None = ⊥

module _ {S : Type 0} (bytes : List ℕ) where
  told_keeping : (slot : Keeping S) (bit : Bool) (held : List ℕ) → IfOut slot (IsFalse bit → held ≡ bytes) → Told bytes (if_out slot (bit, held))
  told_keeping NoSlot bit held h = absurd h
  told_keeping (Saved copy) bit held h = absurd h
  told_keeping (Unbacked own) bit held h = absurd h
  told_keeping (Cleaning own) bit held h = absurd h
  told_keeping CopyOut bit held h = h

  keeping_told : (slot : Keeping S) (bit : Bool) (held : List ℕ) → Told bytes (if_out slot (bit, held)) → IfOut slot (IsFalse bit → held ≡ bytes)
  keeping_told NoSlot bit held h = absurd h
  keeping_told (Saved copy) bit held h = absurd h
  keeping_told (Unbacked own) bit held h = absurd h
  keeping_told (Cleaning own) bit held h = absurd h
  keeping_told CopyOut bit held h = h

  told_place : (dirty : Bool) (place : Place S) → IfCopyOut dirty place (λ frame stored. IsFalse stored → frame.bytes ≡ bytes) → Told bytes (told_of_place dirty place)
  told_place dirty Fresh h = absurd h
  told_place dirty (Resident frame slot) h = told_keeping slot dirty frame.bytes h
  told_place dirty (Leaving frame slot mark) h = told_keeping slot mark frame.bytes h
  told_place dirty (Saving frame mark) h = absurd h
  told_place dirty (Away copy) h = absurd h
  told_place dirty Purged h = absurd h

  place_told : (dirty : Bool) (place : Place S) → Told bytes (told_of_place dirty place) → IfCopyOut dirty place (λ frame stored. IsFalse stored → frame.bytes ≡ bytes)
  place_told dirty Fresh h = absurd h
  place_told dirty (Resident frame slot) h = keeping_told slot dirty frame.bytes h
  place_told dirty (Leaving frame slot mark) h = keeping_told slot mark frame.bytes h
  place_told dirty (Saving frame mark) h = absurd h
  place_told dirty (Away copy) h = absurd h
  place_told dirty Purged h = absurd h

  stands_told : (dirty : Bool) (o : Option (PageValue S)) → StandsAt bytes dirty o → Told bytes (told_of_page dirty o)
  stands_told dirty None h = absurd h
  stands_told dirty (Some page) h = told_place dirty page.place h

  told_stands : (dirty : Bool) (o : Option (PageValue S)) → Told bytes (told_of_page dirty o) → StandsAt bytes dirty o
  told_stands dirty None h = absurd h
  told_stands dirty (Some page) h = place_told dirty page.place h

module _ {S : Type 0} where
  -- ---- a copy is out where something is told of it

  out_keeping : {A : Type 0} (slot : Keeping S) (told : A) → is_some (if_out slot told) ≡ is_copy_out slot
  out_keeping NoSlot told = refl
  out_keeping (Saved copy) told = refl
  out_keeping (Unbacked own) told = refl
  out_keeping (Cleaning own) told = refl
  out_keeping CopyOut told = refl

  out_place : (dirty : Bool) (place : Place S) → is_some (told_of_place dirty place) ≡ is_copy_out (slot_of place)
  out_place dirty Fresh = refl
  out_place dirty (Resident frame slot) = out_keeping slot (dirty, frame.bytes)
  out_place dirty (Leaving frame slot mark) = out_keeping slot (mark, frame.bytes)
  out_place dirty (Saving frame mark) = refl
  out_place dirty (Away copy) = refl
  out_place dirty Purged = refl

  out_page : (dirty : Bool) (o : Option (PageValue S)) → is_some (told_of_page dirty o) ≡ page_passes (λ page. is_copy_out (slot_of page.place)) o
  out_page dirty None = refl
  out_page dirty (Some page) = out_place dirty page.place

  pub out_told : (memory : PagedValue S) (vpn : ℕ) → is_some (told_in memory vpn) ≡ is_copied_in memory vpn
  out_told memory vpn = out_page (entry_at memory.tables vpn).dirty (page_at memory.pages vpn)

  -- ---- memories

  -- one copy that stands
  pub stands_same : (old new : PagedValue S) (vpn : ℕ) (bytes : List ℕ) → told_in new vpn ≡ told_in old vpn → CopyStands vpn bytes old → CopyStands vpn bytes new
  stands_same old new vpn bytes same stands =
      told_stands bytes (entry_at new.tables vpn).dirty (page_at new.pages vpn)
      (subst (Told bytes) (sym same) (stands_told bytes (entry_at old.tables vpn).dirty (page_at old.pages vpn) stands))

  pub leaves_told : (old new : PagedValue S) → ((vpn : ℕ) → vpn < 2 ^ 20 → told_in new vpn ≡ told_in old vpn) → LeavesCopies old new
  leaves_told old new same = record {
    stand = λ vpn bytes small stands. stands_same old new vpn bytes (same vpn small) stands;
    out = λ vpn small. sym (out_told new vpn) ∙ ap is_some (same vpn small) ∙ out_told old vpn;
  }

  pub leaves_itself : (memory : PagedValue S) → LeavesCopies memory memory
  leaves_itself memory = record { stand = copies_itself memory; out = λ vpn small. refl }

  pub leaves_on : (old between new : PagedValue S) → LeavesCopies old between → LeavesCopies between new → LeavesCopies old new
  leaves_on old between new first second = record {
    stand = copies_on old between new first.stand second.stand;
    out = λ vpn small. second.out vpn small ∙ first.out vpn small;
  }

  -- the same pages, whose entries have the same dirty bits; the same tables
  pub leaves_bits : (old new : PagedValue S) → new.pages ≡ old.pages → ((vpn : ℕ) → vpn < 2 ^ 20 → (entry_at new.tables vpn).dirty ≡ (entry_at old.tables vpn).dirty) → LeavesCopies old new
  leaves_bits old new pages bits =
      leaves_told old new
      (λ vpn small. ap (λ p. told_of_page (entry_at new.tables vpn).dirty (page_at p vpn)) pages ∙ ap (λ b. told_of_page b (page_at old.pages vpn)) (bits vpn small))

  pub leaves_tables : (old new : PagedValue S) → new.pages ≡ old.pages → new.tables ≡ old.tables → LeavesCopies old new
  leaves_tables old new pages tables = leaves_bits old new pages (λ vpn small. ap (λ t. (entry_at t vpn).dirty) tables)
