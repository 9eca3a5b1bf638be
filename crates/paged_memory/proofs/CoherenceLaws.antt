-- What the invariant of a process's memory tells of its pages, tables and caches.
use Rattle.std.specs.Prelude.{◌≡◌, ◌≢◌, ℕ, ◌+◌, ◌*◌, ◌%◌, ◌^◌, ◌<◌, Bool, true, false, cond, ◌||◌, is_some, Option, Some, None, option_map, Ok, Err, List, All, refl}
use Rattle.std.specs.Result.{result_map_both}
use Rattle.std.proofs.Common.{sym, ap, ◌∙◌, true≢false, arith}
use Rattle.std.proofs.lemmas.List.Elements.{All-weaker}
use Rattle.std.proofs.lemmas.List.Folds.{list_any_none}
use Rattle.page_memory.specs.Words.{page_number}
use Rattle.page_memory.specs.Rights.{may}
use Rattle.page_memory.specs.declared.rights.Rights.{Rights}
use Rattle.page_memory.specs.declared.words.Access.{Access}
use Rattle.page_memory.specs.declared.words.Access.TheVariants.{Load, Store}
use Rattle.page_store.specs.Keeping.{Keeping, NoSlot, Saved, Unbacked, Cleaning, CopyOut, is_loose}
use Rattle.page_store.specs.PageValue as value
use Rattle.page_store.specs.PageValue.{PageValue, Place}
use Rattle.sv32_table.specs.Entry.{Entry, page_entry, word_of}
use Rattle.sv32_table.specs.EntryAt.{entry_at, walk_entry}
use Rattle.sv32_table.specs.Leading.{LeadsByEntry}
use Rattle.sv32_table.proofs.EntryLaws.{is_store, walk_entry-page_entry, walk_entry-blank}
use Rattle.sv32_table.specs.declared.fault.WalkFault.{WalkFault}
use Rattle.sv32_table.specs.declared.fault.WalkFault.TheVariants.{PageFault}
use Rattle.sv32_table.specs.declared.walk.Leaf.{Leaf}
use Rattle.tlb_core.specs.declared.translation.Translation.{Translation}
use Rattle.tlb_core.specs.Cache.{translation_of}
use Rattle.tlb_core.proofs.CacheLaws.{none-All}
use Rattle.paged_memory.specs.Seen.{Seen, Standing, Resident, Leaving, Elsewhere, entry_seen, entry_standing, rights_seen, takes_stores, dirty_standing, is_loose_standing, is_used, used_standing}
use Rattle.paged_memory.specs.Soundness.{IsSound}
use Rattle.paged_memory.specs.access.Access.{is_resident, is_resident_standing}
use Rattle.paged_memory.specs.cleaning.Copies.{if_out, told_of_place, told_of_page}
use Rattle.paged_memory.specs.Paged.{page_at, seen_at, seen_of, standing_of, Holds}
use Rattle.paged_memory.specs.Coherence.{led, led_standing, MarksClear, HoldsFramed, CopiesUnmarked, WalksLead}
use Rattle.paged_memory.proofs.SoundnessLaws.{unheld_elsewhere}

-- a resident page's use is marked where its A is set
used_resident : (page : Option Seen) (e : Entry) → is_resident page ≡ true → is_used page e ≡ e.accessed
used_resident None e resident = cc
used_resident (Some seen) e resident = by_standing seen.standing resident
  where
    by_standing : (standing : Standing) → is_resident_standing standing ≡ true → used_standing standing e ≡ e.accessed
    by_standing (Resident frame loose) resident = refl
    by_standing (Leaving frame mark loose) resident = cc
    by_standing Elsewhere resident = cc

-- a translation that is not to be dropped is of a page whose use is marked
dropped : (doomed : Bool) → (doomed ≡ false → ⊥) → doomed ≡ true
dropped true kept = refl
dropped false kept = absurd (kept refl)

-- where a walk leads for a page with such an entry
leads : (page : Option Seen) (accessed dirty : Bool) (address : ℕ) (access : Access) → ((rights : Rights) → rights_seen page ≡ Some rights → may Store rights ≡ true → may Load rights ≡ true)
    → result_map_both (λ (leaf : Leaf). leaf.physical) (λ (fault : WalkFault). fault) (walk_entry (entry_seen page accessed dirty) address access) ≡ led access address page
leads None accessed dirty address access readable = ap (result_map_both (λ (leaf : Leaf). leaf.physical) (λ (fault : WalkFault). fault)) (walk_entry-blank address access)
leads (Some seen) accessed dirty address access readable = by_standing seen.rights seen.standing (readable seen.rights refl)
  where
    by_right : (b : Bool) (leaf : Leaf) (to : ℕ) → leaf.physical ≡ to → result_map_both (λ (leaf : Leaf). leaf.physical) (λ (fault : WalkFault). fault) (cond b (Ok leaf) (Err PageFault)) ≡ cond b (Ok to) (Err PageFault)
    by_right true leaf to is = ap Ok is
    by_right false leaf to is = refl

    by_standing : (rights : Rights) (standing : Standing) → (may Store rights ≡ true → may Load rights ≡ true) → result_map_both (λ (leaf : Leaf). leaf.physical) (λ (fault : WalkFault). fault) (walk_entry (entry_standing rights standing accessed dirty) address access) ≡ led_standing access address rights standing
    by_standing rights (Resident frame loose) lawful =
        ap (result_map_both (λ (leaf : Leaf). leaf.physical) (λ (fault : WalkFault). fault)) (walk_entry-page_entry address access frame rights accessed dirty lawful)
        ∙ by_right (may access rights) (record { pte = record { 0 = word_of (page_entry frame rights true (is_store access || dirty)) }; physical = frame * 0x1000 + address % 0x1000 }) (frame * 0x1000 + address % 0x1000) refl
    by_standing rights (Leaving frame mark loose) lawful = ap (result_map_both (λ (leaf : Leaf). leaf.physical) (λ (fault : WalkFault). fault)) (walk_entry-blank address access)
    by_standing rights Elsewhere lawful = ap (result_map_both (λ (leaf : Leaf). leaf.physical) (λ (fault : WalkFault). fault)) (walk_entry-blank address access)

-- a mark is clear where it would tell that stores reach the page, and none do
unmarked_by : (mark : Bool) → (mark ≡ true → ⊥) → mark ≡ false
unmarked_by true none = absurd (none refl)
unmarked_by false none = refl

-- the bit that is told of a copy
abbrev bit_told : Option (Bool × List ℕ) → Bool
bit_told (Some told) = told.0
bit_told None = false

-- no store that is told of nowhere reaches a page of which a copy is out and whose bit tells of none
module _ {S : Type 0} (bytes : List ℕ) (e : Entry) where
  told_kept : (slot : Keeping S) (bit : Bool) (held : List ℕ) → if_out {A = Bool × List ℕ} slot (bit, held) ≡ Some (false, bytes) → (bit || is_loose slot) ≡ false
  told_kept NoSlot bit held told = cc
  told_kept (Saved copy) bit held told = cc
  told_kept (Unbacked own) bit held told = cc
  told_kept (Cleaning own) bit held told = cc
  told_kept CopyOut true held told = absurd (true≢false (ap bit_told told))
  told_kept CopyOut false held told = refl

  told_place : (place : Place S) → told_of_place e.dirty place ≡ Some (false, bytes) → (dirty_standing (standing_of place) e || is_loose_standing (standing_of place)) ≡ false
  told_place value.Fresh told = refl
  told_place (value.Resident frame slot) told = told_kept slot e.dirty frame.bytes told
  told_place (value.Leaving frame slot mark) told = told_kept slot mark frame.bytes told
  told_place (value.Saving frame mark) told = refl
  told_place (value.Away copy) told = refl
  told_place value.Purged told = refl

  told_page : (page : Option (PageValue S)) → told_of_page e.dirty page ≡ Some (false, bytes) → takes_stores (option_map seen_of page) e ≡ false
  told_page None told = refl
  told_page (Some page) told = told_place page.place told

module _ {S : Type 0} {held : S → List ℕ} {honest : Type 0} {pages : List (ℕ × PageValue S)} {tables : List (List ℕ)} {caches : List (List Translation)} (holds : Holds held honest pages tables caches) where
  pub marks_clear : MarksClear pages tables caches
  marks_clear number small resident clear =
      All-weaker (λ cache. All (λ (t : Translation). IsSound (seen_at pages t.page) (entry_at tables t.page) t) cache) (λ cache. All (λ (t : Translation). t.page ≡ number → t.doomed ≡ true) cache)
      (λ cache sound. All-weaker (λ (t : Translation). IsSound (seen_at pages t.page) (entry_at tables t.page) t) (λ (t : Translation). t.page ≡ number → t.doomed ≡ true) to_be_dropped cache sound) caches holds.agree.cached
    where
      unused : is_used (seen_at pages number) (entry_at tables number) ≡ false
      unused = used_resident (seen_at pages number) (entry_at tables number) resident ∙ clear

      to_be_dropped : (t : Translation) → IsSound (seen_at pages t.page) (entry_at tables t.page) t → t.page ≡ number → t.doomed ≡ true
      to_be_dropped t sound at = dropped t.doomed (λ kept. true≢false (sym (sound.used kept) ∙ ap (λ q. is_used (seen_at pages q) (entry_at tables q)) at ∙ unused))

  pub holds_framed : HoldsFramed pages caches
  holds_framed number none =
      list_any_none (λ cache. is_some (translation_of number cache)) caches
      (All-weaker (λ cache. All (λ (t : Translation). t.page ≢ number) cache) (λ cache. is_some (translation_of number cache) ≡ false) (λ cache unheld. ap is_some (none-All number cache unheld)) caches (unheld_elsewhere caches number holds.agree none))

  pub copies_unmarked : CopiesUnmarked pages tables caches
  copies_unmarked number bytes small told =
      All-weaker (λ cache. All (λ (t : Translation). IsSound (seen_at pages t.page) (entry_at tables t.page) t) cache) (λ cache. All (λ (t : Translation). t.page ≡ number → t.dirty ≡ false) cache)
      (λ cache sound. All-weaker (λ (t : Translation). IsSound (seen_at pages t.page) (entry_at tables t.page) t) (λ (t : Translation). t.page ≡ number → t.dirty ≡ false) unmarked cache sound) caches holds.agree.cached
    where
      none : takes_stores (seen_at pages number) (entry_at tables number) ≡ false
      none = told_page bytes (entry_at tables number) (page_at pages number) told

      unmarked : (t : Translation) → IsSound (seen_at pages t.page) (entry_at tables t.page) t → t.page ≡ number → t.dirty ≡ false
      unmarked t sound at = unmarked_by t.dirty (λ marked. true≢false (sym (sound.changed marked) ∙ ap (λ q. takes_stores (seen_at pages q) (entry_at tables q)) at ∙ none))

  pub walks_lead : LeadsByEntry tables → WalksLead pages tables
  walks_lead by_entry address access in_range =
      let small : page_number address < 2 ^ 20 = omega arith in
      let mapped = holds.agree.mapped (page_number address) small in
      by_entry address access in_range
      ∙ ap (λ e. result_map_both (λ (leaf : Leaf). leaf.physical) (λ (fault : WalkFault). fault) (walk_entry e address access)) mapped.entry
      ∙ leads (seen_at pages (page_number address)) (entry_at tables (page_number address)).accessed (entry_at tables (page_number address)).dirty address access mapped.readable
