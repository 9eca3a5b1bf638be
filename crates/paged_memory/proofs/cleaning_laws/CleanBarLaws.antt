-- When a page's cleaning begins and when a copy of it goes out; and how many copies can be out.
use Rattle.std.proofs.Common.{◌≡◌, ℕ, zero, suc, ◌+◌, ◌^◌, ◌<◌, ◌≤◌, ◌&&◌, Bool, true, false, cond, List, Option, Some, None, refl, sym, ap, ◌∙◌, inl, inr, arith, subst}
use Rattle.std.specs.Prelude.{IsFalse}
use Rattle.std.proofs.lemmas.Bool.Decides.{eqb_tells}
use Rattle.page_store.specs.Cleaning.{IfOut, IfCopyOut, is_being_cleaned}
use Rattle.page_store.specs.Keeping.{Keeping, NoSlot, Saved, Unbacked, Cleaning, CopyOut, is_copy_out}
use Rattle.page_store.specs.PageValue.{PageValue, Place, Fresh, Resident, Leaving, Saving, Away, Purged, frame_of, slot_of}
use Rattle.page_store.specs.declared.answer.CleanCopy.TheVariants as answer
use Rattle.page_memory.specs.declared.rights.Rights.{Rights}
use Rattle.page_store.specs.JobValue.{SavedValue}
use Rattle.sv32_table.specs.Entry.{Entry}
use Rattle.sv32_table.specs.EntryAt.{entry_at, dirty_of}
use Rattle.sv32_table.proofs.EntryLaws.{dirty_of-page_entry}
use Rattle.paged_memory.specs.cleaning.Cleaning.{IsCopyOf, is_cleaning_in}
use Rattle.paged_memory.specs.Coheres.{HoldsIn}
use Rattle.paged_memory.specs.cleaning.Copies.{StandsAt, CopyStands, KeepsCopies, CopyGoesOut, is_copied_in, copies_among}
use Rattle.paged_memory.specs.Counting.{page_passes, pages_below, pages_where, frame_passes}
use Rattle.paged_memory.proofs.access_laws.FewerLaws.{Implies, fewer_where, one_fewer_where}
use Rattle.paged_memory.specs.Paged.{PagedValue, page_at, seen_at}
use Rattle.paged_memory.specs.Seen.{Seen, Standing, entry_seen, entry_standing}
use Rattle.paged_memory.specs.Seen as seen
use Rattle.paged_memory.specs.Whole.{frames_among}

first_of : (a : Bool) → (a && true) ≡ true → a ≡ true
first_of true h = refl
first_of false h = h

both_of : (a b : Bool) → (a && b) ≡ true → (a ≡ true) × (b ≡ true)
both_of true true h = (refl, refl)
both_of true false h = cc
both_of false b h = cc

-- an entry of a page tells its D
dirty_seen : (page : Option Seen) (e : Entry) → e ≡ entry_seen page e.accessed e.dirty → dirty_of e ≡ e.dirty
unfolding dirty_of
dirty_seen None e is = ap dirty_of is ∙ sym (ap (λ (u : Entry). u.dirty) is)
dirty_seen (Some page) e is = by_standing page.rights page.standing is
  where
    by_standing : (rights : Rights) (standing : Standing) → e ≡ entry_standing rights standing e.accessed e.dirty → dirty_of e ≡ e.dirty
    by_standing rights (seen.Resident frame loose) is = ap dirty_of is ∙ dirty_of-page_entry frame rights e.accessed e.dirty
    by_standing rights (seen.Leaving frame mark loose) is = ap dirty_of is ∙ sym (ap (λ (u : Entry). u.dirty) is)
    by_standing rights seen.Elsewhere is = ap dirty_of is ∙ sym (ap (λ (u : Entry). u.dirty) is)

module _ {S : Type 0} where
  -- ---- a cleaning begins where nothing bars it

  -- ---- a page of which a copy is out holds a frame

  copied_framed : (place : Place S) → Implies (is_copy_out (slot_of place)) (frame_passes (λ _. true) (frame_of place))
  copied_framed Fresh h = cc
  copied_framed (Resident frame slot) h = refl
  copied_framed (Leaving frame slot mark) h = refl
  copied_framed (Saving frame mark) h = cc
  copied_framed (Away copy) h = cc
  copied_framed Purged h = cc

  pub copies_framed : (memory : PagedValue S) → copies_among memory (λ _. true) ≤ frames_among memory (λ _. true)
  copies_framed memory =
      fewer_where (λ number page. is_copy_out (slot_of page.place) && true) (λ number page. frame_passes (λ _. true) (frame_of page.place)) memory.pages
      (λ number page h. copied_framed page.place (first_of (is_copy_out (slot_of page.place)) h))

  -- and fewer are out where a page is being cleaned and none of it is
  cleaning_place : (place : Place S) → is_being_cleaned place ≡ true → (is_copy_out (slot_of place) ≡ false) × (frame_passes (λ _. true) (frame_of place) ≡ true)
  cleaning_place Fresh h = cc
  cleaning_place (Resident frame NoSlot) h = cc
  cleaning_place (Resident frame (Saved copy)) h = cc
  cleaning_place (Resident frame (Unbacked own)) h = cc
  cleaning_place (Resident frame (Cleaning own)) h = (refl, refl)
  cleaning_place (Resident frame CopyOut) h = cc
  cleaning_place (Leaving frame slot mark) h = cc
  cleaning_place (Saving frame mark) h = cc
  cleaning_place (Away copy) h = cc
  cleaning_place Purged h = cc

  pub one_copy_less : (memory : PagedValue S) (vpn : ℕ) → vpn < 2 ^ 20 → is_cleaning_in memory vpn ≡ true → copies_among memory (λ _. true) + 1 ≤ frames_among memory (λ _. true)
  one_copy_less memory vpn small cleaning = by_page (page_at memory.pages vpn) refl cleaning
    where
      by_page : (o : Option (PageValue S)) → page_at memory.pages vpn ≡ o → page_passes (λ (page : PageValue S). is_being_cleaned page.place) o ≡ true → copies_among memory (λ _. true) + 1 ≤ frames_among memory (λ _. true)
      by_page None at h = cc
      by_page (Some page) at h =
          let told = cleaning_place page.place h in
          one_fewer_where (λ number page. is_copy_out (slot_of page.place) && true) (λ number page. frame_passes (λ _. true) (frame_of page.place)) memory.pages
          (λ number page h. copied_framed page.place (first_of (is_copy_out (slot_of page.place)) h))
          vpn page at (ap (λ b. b && true) told.0) told.1 small

  -- ---- a copy that is out, by what is counted

  pub record CopyThere (memory : PagedValue S) (test : ℕ → Bool) : Type 0 where
    pub number : ℕ
    pub small : number < 2 ^ 20
    pub copied : is_copied_in memory number ≡ true
    pub passes : test number ≡ true

  record CopyBelow (memory : PagedValue S) (test : ℕ → Bool) (bound : ℕ) : Type 0 where
    number : ℕ
    below : number < bound
    copied : is_copied_in memory number ≡ true
    passes : test number ≡ true

  abbrev counts_copy : (ℕ → Bool) → ℕ → PageValue S → Bool
  counts_copy test number page = is_copy_out (slot_of page.place) && test number

  split : (test : ℕ → Bool) (number : ℕ) (o : Option (PageValue S)) → page_passes (counts_copy test number) o ≡ (page_passes (λ page. is_copy_out (slot_of page.place)) o && test number)
  split test number None = refl
  split test number (Some page) = refl

  copy_below : (memory : PagedValue S) (test : ℕ → Bool) (bound : ℕ) → 1 ≤ pages_below (counts_copy test) memory.pages bound → CopyBelow memory test bound
  unfolding pages_below
  copy_below memory test zero h = absurd (omega arith)
  copy_below memory test (suc bound) h = by_test (page_passes (counts_copy test bound) (page_at memory.pages bound)) refl (copy_below memory test bound)
    where
      by_test : (b : Bool) → page_passes (counts_copy test bound) (page_at memory.pages bound) ≡ b → (1 ≤ pages_below (counts_copy test) memory.pages bound → CopyBelow memory test bound) → CopyBelow memory test (suc bound)
      by_test true is more =
          let parts = both_of (is_copied_in memory bound) (test bound) (sym (split test bound (page_at memory.pages bound)) ∙ is) in
          record { number = bound; below = omega arith; copied = parts.0; passes = parts.1 }
      by_test false is more =
          let none : cond {A = ℕ} (page_passes (counts_copy test bound) (page_at memory.pages bound)) 1 0 ≡ 0 = ap (λ b. cond {A = ℕ} b 1 0) is in
          let rest = more (omega (arith, none, h)) in
          record { number = rest.number; below = let less = rest.below in omega (arith, less); copied = rest.copied; passes = rest.passes }

  pub copy_there : (memory : PagedValue S) (test : ℕ → Bool) → 1 ≤ copies_among memory test → CopyThere memory test
  unfolding pages_where
  copy_there memory test h = let found = copy_below memory test (2 ^ 20) h in record { number = found.number; small = found.below; copied = found.copied; passes = found.passes }

  -- ---- a copy that stands is the one that comes back

  pub stands_back : (held : S → List ℕ) (honest : Type 0) (memory : PagedValue S) (job : SavedValue S) → HoldsIn held honest memory → job.process ≡ memory.process → job.vpn < 2 ^ 20 → CopyStands job.vpn job.copy memory
      → IsCopyOf memory.process job (dirty_of (entry_at memory.tables job.vpn)) memory.pages
  stands_back held honest memory job holds process small stands = (
    process,
    (
      small,
      subst (λ bit. StandsAt job.copy bit (page_at memory.pages job.vpn)) (sym (dirty_seen (seen_at memory.pages job.vpn) (entry_at memory.tables job.vpn) (holds.agree.mapped job.vpn small).entry)) stands,
    ),
  )

  -- a copy that stands is out
  stands_out : (bytes : List ℕ) (dirty : Bool) (place : Place S) → IfCopyOut dirty place (λ frame stored. IsFalse stored → frame.bytes ≡ bytes) → is_copy_out (slot_of place) ≡ true
  stands_out bytes dirty Fresh h = absurd h
  stands_out bytes dirty (Resident frame slot) h = by_slot slot h
    where
      by_slot : (slot : Keeping S) → IfOut slot (IsFalse dirty → frame.bytes ≡ bytes) → is_copy_out slot ≡ true
      by_slot NoSlot h = absurd h
      by_slot (Saved copy) h = absurd h
      by_slot (Unbacked own) h = absurd h
      by_slot (Cleaning own) h = absurd h
      by_slot CopyOut h = refl
  stands_out bytes dirty (Leaving frame slot mark) h = by_slot slot h
    where
      by_slot : (slot : Keeping S) → IfOut slot (IsFalse mark → frame.bytes ≡ bytes) → is_copy_out slot ≡ true
      by_slot NoSlot h = absurd h
      by_slot (Saved copy) h = absurd h
      by_slot (Unbacked own) h = absurd h
      by_slot (Cleaning own) h = absurd h
      by_slot CopyOut h = refl
  stands_out bytes dirty (Saving frame mark) h = absurd h
  stands_out bytes dirty (Away copy) h = absurd h
  stands_out bytes dirty Purged h = absurd h

  pub stands_copied : (memory : PagedValue S) (vpn : ℕ) (bytes : List ℕ) → CopyStands vpn bytes memory → is_copied_in memory vpn ≡ true
  stands_copied memory vpn bytes stands = by_page (page_at memory.pages vpn) stands
    where
      by_page : (o : Option (PageValue S)) → StandsAt bytes (entry_at memory.tables vpn).dirty o → page_passes (λ (page : PageValue S). is_copy_out (slot_of page.place)) o ≡ true
      by_page None h = absurd h
      by_page (Some page) h = stands_out bytes (entry_at memory.tables vpn).dirty page.place h

  -- where one more goes out, those that stood stand
  pub goes_keeps : (old new : PagedValue S) (vpn : ℕ) (copy : List ℕ) → CopyGoesOut vpn copy old new → KeepsCopies old new
  goes_keeps old new vpn copy goes q bytes small stands =
      elim (eqb_tells q vpn) [
        | inl same ↦ let yes = stands_copied old q bytes stands in let no : is_copied_in old q ≡ false = ap (is_copied_in old) same.1 ∙ goes.before in absurd (let clash : true ≡ false = sym yes ∙ no in cc)
        | inr other ↦ goes.others.stand q bytes small other.1 stands
      ]
