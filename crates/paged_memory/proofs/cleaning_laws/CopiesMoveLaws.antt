-- What one page's move from one place to another does to the copies that are out.
use Rattle.std.proofs.Common.{◌≡◌, ℕ, ◌+◌, ◌^◌, ◌<◌, ◌&&◌, Bool, cond, List, Option, Some, None, is_some, inl, inr, refl, sym, ap, ◌∙◌, arith, subst}
use Rattle.std.proofs.lemmas.Bool.Decides.{eqb_tells}
use Rattle.std.specs.Prelude.{IsFalse, if◌then◌else◌}
use Rattle.frame_pool.specs.FrameValue.{FrameValue}
use Rattle.page_store.specs.Cleaning.{IfCopyOut}
use Rattle.page_store.specs.Keeping.{is_copy_out, CopyOut}
use Rattle.page_store.specs.PageValue.{PageValue, Place, Resident, slot_of}
use Rattle.sv32_table.specs.Entry.{Entry}
use Rattle.sv32_table.specs.EntryAt.{entry_at, ChangesEntry}
use Rattle.paged_memory.specs.Calls.{ChangesBy}
use Rattle.paged_memory.specs.cleaning.Copies.{StandsAt, CopyStands, LeavesCopies, OtherCopies, is_copied_in, copies_among, told_of_place, told_of_page, told_in}
use Rattle.paged_memory.proofs.cleaning_laws.CopiesToldLaws.{leaves_told, out_told, stands_same}
use Rattle.paged_memory.specs.Counting.{page_passes}
use Rattle.paged_memory.proofs.CountingLaws.{pages_changed, same_where_pass}
use Rattle.paged_memory.proofs.move_laws.MoveLaws.{moved_others, moved_now}
use Rattle.paged_memory.specs.Paged.{PagedValue, page_at}

-- each other page's entry has the dirty bit that it had
abbrev pub OtherBits : ℕ → List (List ℕ) → List (List ℕ) → Type 0
OtherBits vpn old new = (q : ℕ) → q < 2 ^ 20 → (q ≡ vpn → ⊥) → (entry_at new q).dirty ≡ (entry_at old q).dirty

pub same_bits : (vpn : ℕ) (old new : List (List ℕ)) → new ≡ old → OtherBits vpn old new
same_bits vpn old new same q small apart = ap (λ t. (entry_at t q).dirty) same

pub other_bits : (vpn : ℕ) (e : Entry) (old new : List (List ℕ)) → ChangesEntry old new vpn e → OtherBits vpn old new
other_bits vpn e old new changes q small apart =
    elim (eqb_tells q vpn) [
      | inl here ↦ absurd (apart here.1)
      | inr other ↦ ap (λ (entry : Entry). entry.dirty) (changes q small ∙ ap (λ b. if b then e else entry_at old q) other.0)
    ]

pub entry_changed : (vpn : ℕ) (e : Entry) (old new : List (List ℕ)) → vpn < 2 ^ 20 → ChangesEntry old new vpn e → entry_at new vpn ≡ e
entry_changed vpn e old new small changes =
    elim (eqb_tells vpn vpn) [
      | inl here ↦ changes vpn small ∙ ap (λ b. if b then e else entry_at old vpn) here.0
      | inr other ↦ absurd (other.1 refl)
    ]

module _ {S : Type 0} (by : PageValue S → PageValue S → Type 0) (old new : PagedValue S) (vpn : ℕ) (told : ChangesBy by old.pages new.pages vpn) (bits : OtherBits vpn old.tables new.tables) where
  -- what is told of another page's copy stays
  pub others_told : (q : ℕ) → q < 2 ^ 20 → (q ≡ vpn → ⊥) → told_in new q ≡ told_in old q
  others_told q small apart =
      ap (told_of_page (entry_at new.tables q).dirty) (moved_others by old new vpn told q apart)
      ∙ ap (λ b. told_of_page b (page_at old.pages q)) (bits q small apart)

  module _ (from to : Place S) (was : told.page.place ≡ from) (is : told.page'.place ≡ to) where
    pub told_before : told_in old vpn ≡ told_of_place (entry_at old.tables vpn).dirty from
    told_before = ap (told_of_page (entry_at old.tables vpn).dirty) told.found ∙ ap (told_of_place (entry_at old.tables vpn).dirty) was

    pub told_after : told_in new vpn ≡ told_of_place (entry_at new.tables vpn).dirty to
    told_after = ap (told_of_page (entry_at new.tables vpn).dirty) (moved_now by old new vpn told) ∙ ap (told_of_place (entry_at new.tables vpn).dirty) is

    -- where the same is told of its own, the copies stay
    pub moved_copies : told_of_place (entry_at new.tables vpn).dirty to ≡ told_of_place (entry_at old.tables vpn).dirty from → LeavesCopies old new
    moved_copies here =
        leaves_told old new
        (λ q small.
        elim (eqb_tells q vpn) [
          | inl same ↦ ap (told_in new) same.1 ∙ told_after ∙ here ∙ sym told_before ∙ sym (ap (told_in old) same.1)
          | inr other ↦ others_told q small other.1
        ])

    -- so many copies are out
    pub moved_outs : vpn < 2 ^ 20 → (test : ℕ → Bool) → copies_among new test + cond (is_copy_out (slot_of from) && test vpn) 1 0 ≡ copies_among old test + cond (is_copy_out (slot_of to) && test vpn) 1 0
    moved_outs small test =
        let before : cond {A = ℕ} (is_copy_out (slot_of told.page.place) && test vpn) 1 0 ≡ cond (is_copy_out (slot_of from) && test vpn) 1 0 = ap (λ p. cond {A = ℕ} (is_copy_out (slot_of p) && test vpn) 1 0) was in
        let after : cond {A = ℕ} (is_copy_out (slot_of told.page'.place) && test vpn) 1 0 ≡ cond (is_copy_out (slot_of to) && test vpn) 1 0 = ap (λ p. cond {A = ℕ} (is_copy_out (slot_of p) && test vpn) 1 0) is in
        let changed = pages_changed (λ number page. is_copy_out (slot_of page.place) && test number) old.pages new.pages vpn told.page told.page' told.found told.changes small in
        omega (arith, before, after, changed)

    pub copied_before : is_copied_in old vpn ≡ is_copy_out (slot_of from)
    copied_before = ap (page_passes (λ (page : PageValue S). is_copy_out (slot_of page.place))) told.found ∙ ap (λ p. is_copy_out (slot_of p)) was

    pub copied_after : is_copied_in new vpn ≡ is_copy_out (slot_of to)
    copied_after = ap (page_passes (λ (page : PageValue S). is_copy_out (slot_of page.place))) (moved_now by old new vpn told) ∙ ap (λ p. is_copy_out (slot_of p)) is

    pub moved_other_copies : OtherCopies vpn old new
    moved_other_copies = record {
      stand = λ q bytes small apart stands. stands_same old new q bytes (others_told q small apart) stands;
      out = λ q small apart. sym (out_told new q) ∙ ap is_some (others_told q small apart) ∙ out_told old q;
    }

-- a copy that was just taken stands
pub out_stands : {S : Type 0} (by : PageValue S → PageValue S → Type 0) (old new : PagedValue S) (vpn : ℕ) (told : ChangesBy by old.pages new.pages vpn) (bits : OtherBits vpn old.tables new.tables) (frame : FrameValue)
    → told.page'.place ≡ Resident frame CopyOut → CopyStands vpn frame.bytes new
out_stands by old new vpn told bits frame is =
    subst (StandsAt frame.bytes (entry_at new.tables vpn).dirty) (sym (moved_now by old new vpn told))
    (subst (λ place. IfCopyOut (entry_at new.tables vpn).dirty place (λ f stored. IsFalse stored → f.bytes ≡ frame.bytes)) (sym is) (λ clear. refl))

-- the same copies are as many
pub leaves_among : {S : Type 0} (old new : PagedValue S) → LeavesCopies old new → (test : ℕ → Bool) → copies_among new test ≡ copies_among old test
leaves_among {S} old new leaves test =
    same_where_pass (λ number page. is_copy_out (slot_of page.place) && test number) old.pages new.pages
    (λ number small. split number (page_at new.pages number) ∙ ap (λ b. b && test number) (leaves.out number small) ∙ sym (split number (page_at old.pages number)))
  where
    split : (number : ℕ) (o : Option (PageValue S)) → page_passes (λ page. is_copy_out (slot_of page.place) && test number) o ≡ (page_passes (λ page. is_copy_out (slot_of page.place)) o && test number)
    split number None = refl
    split number (Some page) = refl
