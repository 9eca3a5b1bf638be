-- Copies stand over what a hart does.
use Rattle.std.proofs.Common.{◌≡◌, ℕ, ◌^◌, ◌<◌, Bool, true, false, ◌||◌, Option, Some, None, option_map, is_some, List, [], refl, sym, ap, ◌∙◌, subst, inl, inr, true≢false}
use Rattle.std.specs.Prelude.{◌⊎◌, IsFalse}
use Rattle.std.proofs.lemmas.Option.{same_Some}
use Rattle.frame_pool.specs.FrameValue.{FrameValue}
use Rattle.page_store.specs.Cleaning.{IfOut, IfCopyOut}
use Rattle.page_store.specs.Keeping.{Keeping, NoSlot, Saved, Unbacked, Cleaning, CopyOut, is_loose}
use Rattle.page_store.specs.Lending.{rewritten, with_bytes}
use Rattle.page_store.specs.PageValue.{PageValue, Place, Fresh, Resident, Leaving, Saving, Away, Purged, frame_of, slot_of}
use Rattle.sv32_table.specs.Entry.{Entry}
use Rattle.sv32_table.specs.EntryAt.{entry_at}
use Rattle.paged_memory.specs.access.Access.{bare_at}
use Rattle.paged_memory.specs.cleaning.Copies.{StandsAt, KeepsCopies}
use Rattle.paged_memory.specs.Paged.{PagedValue, page_at, seen_at, seen_of, standing_of}
use Rattle.paged_memory.specs.Seen.{is_dirty, dirty_standing, is_loose_standing, takes_stores}

pub copies_itself : {S : Type 0} (memory : PagedValue S) → KeepsCopies memory memory
copies_itself memory vpn bytes small stands = stands

pub copies_on : {S : Type 0} (old between new : PagedValue S) → KeepsCopies old between → KeepsCopies between new → KeepsCopies old new
copies_on old between new first second vpn bytes small stands = second vpn bytes small (first vpn bytes small stands)

-- a bit that is clear and does not fall was clear
was_clear : (before after : Bool) → (before ≡ true → after ≡ true) → after ≡ false → before ≡ false
was_clear true after rises clear = let set = rises refl in cc
was_clear false after rises clear = refl

set_or : (bit loose : Bool) → loose ≡ false → (bit || loose) ≡ true → bit ≡ true
set_or true loose tight is = refl
set_or false loose tight is = let clash : true ≡ false = sym is ∙ tight in cc

abbrev HeldAs : List ℕ → FrameValue → Bool → Type 0
HeldAs bytes frame stored = IsFalse stored → frame.bytes ≡ bytes

module _ {S : Type 0} (bytes : List ℕ) where
  -- what a frame holds of which a copy is out, by the bit that tells of a store before and after: nothing was written, or the bit is set
  frame_on : (frame frame' : FrameValue) (slot : Keeping S) (before after : Bool) → slot ≡ CopyOut → (before ≡ true → after ≡ true) → (frame' ≡ frame) ⊎ ((after || is_loose slot) ≡ true) → HeldAs bytes frame before → IfOut slot (HeldAs bytes frame' after)
  frame_on frame frame' slot before after out rises told held = subst (λ (k : Keeping S). IfOut k (HeldAs bytes frame' after)) (sym out) (by_told told)
    where
      by_told : (frame' ≡ frame) ⊎ ((after || is_loose slot) ≡ true) → HeldAs bytes frame' after
      by_told (inl same) = λ clear. ap (λ (f : FrameValue). f.bytes) same ∙ held (was_clear before after rises clear)
      by_told (inr takes) = λ clear. absurd (true≢false (sym (set_or after (is_loose slot) (ap is_loose out) takes) ∙ clear))

  abbrev Told : Entry → Place S → Place S → Type 0
  Told e' place place' = (place' ≡ place) ⊎ ((dirty_standing (standing_of place') e' || is_loose_standing (standing_of place')) ≡ true)

  -- what is told of the frame of a place is told of its frame
  of_frame : (e' : Entry) (place place' : Place S) (frame frame' : FrameValue) → frame_of place ≡ Some frame → frame_of place' ≡ Some frame' → Told e' place place' → (frame' ≡ frame) ⊎ ((dirty_standing (standing_of place') e' || is_loose_standing (standing_of place')) ≡ true)
  of_frame e' place place' frame frame' was is (inl same) = inl (same_Some _ _ (sym is ∙ ap frame_of same ∙ was))
  of_frame e' place place' frame frame' was is (inr takes) = inr takes

  stands_there : (e e' : Entry) (place place' : Place S) → rewritten [] place' ≡ rewritten [] place → (dirty_standing (standing_of place) e ≡ true → dirty_standing (standing_of place') e' ≡ true) → Told e' place place' → IfCopyOut e.dirty place (HeldAs bytes) → IfCopyOut e'.dirty place' (HeldAs bytes)
  stands_there e e' (Resident f CopyOut) (Resident f' k') bare rises told stands =
      frame_on f f' k' e.dirty e'.dirty (ap slot_of bare) rises (of_frame e' (Resident f CopyOut) (Resident f' k') f f' refl refl told) stands
  stands_there e e' (Leaving f CopyOut m) (Leaving f' k' m') bare rises told stands =
      frame_on f f' k' m m' (ap slot_of bare) rises (of_frame e' (Leaving f CopyOut m) (Leaving f' k' m') f f' refl refl told) stands
  stands_there e e' (Resident f CopyOut) Fresh bare rises told stands = let clash : ◌≡◌ {A = Place S} (rewritten [] Fresh) (rewritten [] (Resident f CopyOut)) = bare in cc
  stands_there e e' (Resident f CopyOut) (Leaving f' k' m') bare rises told stands = let clash : ◌≡◌ {A = Place S} (rewritten [] (Leaving f' k' m')) (rewritten [] (Resident f CopyOut)) = bare in cc
  stands_there e e' (Resident f CopyOut) (Saving f' m') bare rises told stands = let clash : ◌≡◌ {A = Place S} (rewritten [] (Saving f' m')) (rewritten [] (Resident f CopyOut)) = bare in cc
  stands_there e e' (Resident f CopyOut) (Away c) bare rises told stands = let clash : ◌≡◌ {A = Place S} (rewritten [] (Away c)) (rewritten [] (Resident f CopyOut)) = bare in cc
  stands_there e e' (Resident f CopyOut) Purged bare rises told stands = let clash : ◌≡◌ {A = Place S} (rewritten [] Purged) (rewritten [] (Resident f CopyOut)) = bare in cc
  stands_there e e' (Leaving f CopyOut m) Fresh bare rises told stands = let clash : ◌≡◌ {A = Place S} (rewritten [] Fresh) (rewritten [] (Leaving f CopyOut m)) = bare in cc
  stands_there e e' (Leaving f CopyOut m) (Resident f' k') bare rises told stands = let clash : ◌≡◌ {A = Place S} (rewritten [] (Resident f' k')) (rewritten [] (Leaving f CopyOut m)) = bare in cc
  stands_there e e' (Leaving f CopyOut m) (Saving f' m') bare rises told stands = let clash : ◌≡◌ {A = Place S} (rewritten [] (Saving f' m')) (rewritten [] (Leaving f CopyOut m)) = bare in cc
  stands_there e e' (Leaving f CopyOut m) (Away c) bare rises told stands = let clash : ◌≡◌ {A = Place S} (rewritten [] (Away c)) (rewritten [] (Leaving f CopyOut m)) = bare in cc
  stands_there e e' (Leaving f CopyOut m) Purged bare rises told stands = let clash : ◌≡◌ {A = Place S} (rewritten [] Purged) (rewritten [] (Leaving f CopyOut m)) = bare in cc
  stands_there e e' Fresh place' bare rises told stands = absurd stands
  stands_there e e' (Resident f NoSlot) place' bare rises told stands = absurd stands
  stands_there e e' (Resident f (Saved c)) place' bare rises told stands = absurd stands
  stands_there e e' (Resident f (Unbacked o)) place' bare rises told stands = absurd stands
  stands_there e e' (Resident f (Cleaning o)) place' bare rises told stands = absurd stands
  stands_there e e' (Leaving f NoSlot m) place' bare rises told stands = absurd stands
  stands_there e e' (Leaving f (Saved c) m) place' bare rises told stands = absurd stands
  stands_there e e' (Leaving f (Unbacked o) m) place' bare rises told stands = absurd stands
  stands_there e e' (Leaving f (Cleaning o) m) place' bare rises told stands = absurd stands
  stands_there e e' (Saving f m) place' bare rises told stands = absurd stands
  stands_there e e' (Away c) place' bare rises told stands = absurd stands
  stands_there e e' Purged place' bare rises told stands = absurd stands

module _ {S : Type 0} (old new : PagedValue S) where
  -- copies stand where pages keep all but their bytes and no dirty bit falls, and a page whose bytes change takes stores by its dirty bit
  pub copies_kept : ((vpn : ℕ) → is_some (page_at old.pages vpn) ≡ true → bare_at new.pages vpn ≡ bare_at old.pages vpn)
      → ((vpn : ℕ) → vpn < 2 ^ 20 → is_dirty (seen_at old.pages vpn) (entry_at old.tables vpn) ≡ true → is_dirty (seen_at new.pages vpn) (entry_at new.tables vpn) ≡ true)
      → ((vpn : ℕ) → vpn < 2 ^ 20 → is_some (page_at old.pages vpn) ≡ true → (page_at new.pages vpn ≡ page_at old.pages vpn) ⊎ (takes_stores (seen_at new.pages vpn) (entry_at new.tables vpn) ≡ true))
      → KeepsCopies old new
  copies_kept bare rises told vpn bytes small stands = by_page (page_at old.pages vpn) (page_at new.pages vpn) refl refl stands
    where
      by_page : (o o' : Option (PageValue S)) → page_at old.pages vpn ≡ o → page_at new.pages vpn ≡ o' → StandsAt bytes (entry_at old.tables vpn).dirty o → StandsAt bytes (entry_at new.tables vpn).dirty o'
      by_page None o' at at' h = absurd h
      by_page (Some page) None at at' h =
          let clash : None ≡ Some (with_bytes page []) = sym (ap (option_map (λ p. with_bytes p [])) at') ∙ bare vpn (ap is_some at) ∙ ap (option_map (λ p. with_bytes p [])) at in
          cc
      by_page (Some page) (Some page') at at' h =
          let same : Some (with_bytes page' []) ≡ Some (with_bytes page []) = sym (ap (option_map (λ p. with_bytes p [])) at') ∙ bare vpn (ap is_some at) ∙ ap (option_map (λ p. with_bytes p [])) at in
          let seen_then : seen_at old.pages vpn ≡ Some (seen_of page) = ap (option_map seen_of) at in
          let seen_now : seen_at new.pages vpn ≡ Some (seen_of page') = ap (option_map seen_of) at' in
          stands_there bytes (entry_at old.tables vpn) (entry_at new.tables vpn) page.place page'.place
          (ap (λ (p : PageValue S). p.place) (same_Some _ _ same))
          (λ was. sym (ap (λ s. is_dirty s (entry_at new.tables vpn)) seen_now) ∙ rises vpn small (ap (λ s. is_dirty s (entry_at old.tables vpn)) seen_then ∙ was))
          (by_told page page' at at' seen_now (told vpn small (ap is_some at)))
          h
        where
          by_told : (page page' : PageValue S) → page_at old.pages vpn ≡ Some page → page_at new.pages vpn ≡ Some page' → seen_at new.pages vpn ≡ Some (seen_of page')
              → (page_at new.pages vpn ≡ page_at old.pages vpn) ⊎ (takes_stores (seen_at new.pages vpn) (entry_at new.tables vpn) ≡ true)
              → (page'.place ≡ page.place) ⊎ ((dirty_standing (standing_of page'.place) (entry_at new.tables vpn) || is_loose_standing (standing_of page'.place)) ≡ true)
          by_told page page' at at' seen_now (inl stays) = inl (ap (λ (p : PageValue S). p.place) (same_Some _ _ (sym at' ∙ stays ∙ at)))
          by_told page page' at at' seen_now (inr takes) = inr (sym (ap (λ s. takes_stores s (entry_at new.tables vpn)) seen_now) ∙ takes)
