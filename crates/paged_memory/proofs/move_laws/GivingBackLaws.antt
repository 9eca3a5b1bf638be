-- A page gives back its frame and its slot.
use Rattle.std.specs.Prelude.{◌≡◌, ℕ, ◌+◌, ◌^◌, ◌<◌, ◌≤◌, length, slice_index, ◌==◌, ◌≢◌, Bool, if◌then◌else◌, Option, Some, None, option_map, List, [], All, refl}
use Rattle.std.proofs.Common.{inl, inr, sym, ap, ◌∙◌, subst, true≢false, eqb-true, arith}
use Rattle.std.proofs.lemmas.Bool.Decides.{eqb_tells, leb_tells}
use Rattle.std.proofs.lemmas.List.{length-map}
use Rattle.std.proofs.lemmas.List.Quantifiers.{position-Some}
use Rattle.std.proofs.lemmas.List.Elements.{All-nil, All-weaker}
use Rattle.frame_pool.specs.FrameValue.{FrameValue}
use Rattle.page_memory.specs.declared.rights.Rights.{Rights}
use Rattle.page_store.specs.Moves.{given_back}
use Rattle.page_store.specs.PageValue.{PageValue, Purged}
use Rattle.sv32_table.specs.Entry.{blank}
use Rattle.sv32_table.specs.EntryAt.{entry_at, ChangesEntry, SameTables, unmapped_entry}
use Rattle.sv32_table.proofs.EntryLaws.{unmapped_entry-page_entry, unmapped_entry-blank}
use Rattle.tlb_core.specs.declared.translation.Translation.{Translation}
use Rattle.paged_memory.specs.Seen.{Seen, Standing, Resident, Leaving, Elsewhere, entry_seen, entry_standing, rights_seen}
use Rattle.page_memory.specs.Entries.{pages_of, place_of}
use Rattle.paged_memory.specs.Paged.{seen_of, page_at, seen_at, Holds, ChangesPage}
use Rattle.paged_memory.specs.Calls.{ChangesBy}
use Rattle.paged_memory.specs.moves.GivingBack.{GivesBack, GivesNothing}
use Rattle.paged_memory.proofs.SoundnessLaws.{Unheld}
use Rattle.paged_memory.proofs.move_laws.PagedLaws.{Change, Holds-unheld, page_at-nowhere}

-- what `unmap` makes of a page's entry
unmapped_seen : (page : Option Seen) (accessed dirty : Bool) → unmapped_entry (entry_seen page accessed dirty) ≡ blank
unmapped_seen None accessed dirty = unmapped_entry-blank
unmapped_seen (Some seen) accessed dirty = by_standing seen.rights seen.standing
  where
    by_standing : (rights : Rights) (standing : Standing) → unmapped_entry (entry_standing rights standing accessed dirty) ≡ blank
    by_standing rights (Resident frame loose) = unmapped_entry-page_entry frame rights accessed dirty
    by_standing rights (Leaving frame mark loose) = unmapped_entry-blank
    by_standing rights Elsewhere = unmapped_entry-blank

-- empty caches hold no page
quiet_unheld : (number : ℕ) (caches : List (List Translation)) → All (λ cache. cache ≡ []) caches → Unheld number caches
quiet_unheld number caches quiet =
    All-weaker (λ (cache : List Translation). cache ≡ []) (λ cache. All (λ (t : Translation). t.page ≢ number) cache) (λ cache is. rw is (All-nil (λ (t : Translation). t.page ≢ number))) caches quiet

module _ {S : Type 0} {held : S → List ℕ} {honest : Type 0} {pages : List (ℕ × PageValue S)} {tables : List (List ℕ)} {caches : List (List Translation)} (tables' : List (List ℕ)) (number : ℕ) (small : number < 2 ^ 20) (holds : Holds held honest pages tables caches) (entries : ChangesEntry tables tables' number (unmapped_entry (entry_at tables number))) where
  pub entries_blank : ChangesEntry tables tables' number blank
  entries_blank q in_range =
      entries q in_range ∙ ap (λ e. if q == number then e else entry_at tables q) (ap unmapped_entry (holds.agree.mapped number small).entry ∙ unmapped_seen (seen_at pages number) (entry_at tables number).accessed (entry_at tables number).dirty)

  -- everything goes together still, once no hart has a translation
  pub holds_given_back : {pages' : List (ℕ × PageValue S)} {given : Option FrameValue × Option S} → ChangesBy (GivesBack given) pages pages' number → SameTables tables tables' → All (λ cache. cache ≡ []) caches → Holds held honest pages' tables' caches
  holds_given_back {pages'} told same quiet = Holds-unheld change caches holds (quiet_unheld number caches quiet)
    where
      now : PageValue S
      now = record told.page { place = Purged }

      change : Change held honest pages pages' tables tables' number now blank
      change =
          record {
            small = small;
            changes = subst (λ p. ChangesPage pages pages' number p) told.how.1 told.changes;
            entry = entries_blank;
            kept = λ q in_range has. same q in_range ∙ has;
            tabled = λ framed. absurd (true≢false (sym framed));
            mapped = record { entry = refl; readable = λ rights is. (holds.agree.mapped number small).readable rights (ap rights_seen (ap (option_map seen_of) told.found) ∙ is) };
            backed = λ is_honest unchanged. refl;
            constant = λ fixed. tt;
          }

-- what holds of the page at each place, and of none, holds of the page of every number
pub every_page : {S : Type 0} (P : ℕ → Option (PageValue S) → Type 0) (pages : List (ℕ × PageValue S)) → ((q : ℕ) → P q None)
    → ((k : ℕ) → k < length pages → P (slice_index (pages_of pages) k) (page_at pages (slice_index (pages_of pages) k))) → (q : ℕ) → P q (page_at pages q)
every_page {S} P pages none each q =
    elim (place_of q pages) as (λ (o : Option ℕ). place_of q pages ≡ o → P q (page_at pages q)) [
      | None ↦ λ absent. subst (P q) (sym (page_at-nowhere pages q absent)) (none q)
      | Some k ↦ λ at.
          let found = position-Some (λ listed. listed == q) (pages_of pages) k 0 at in
          let within = found.0 in
          let many = length-map pages (λ (e : ℕ × PageValue S). e.0) in
          subst (λ n. P n (page_at pages n)) (eqb-true _ _ found.1) (each k (omega arith))
    ] refl

module _ {S : Type 0} where
  -- pages without a place have nothing
  pub nothing_between : (pages : List (ℕ × PageValue S)) (from end : ℕ) → ((q : ℕ) → q < from → GivesNothing (page_at pages q)) → ((q : ℕ) → from ≤ q → q < end → place_of q pages ≡ None)
      → (q : ℕ) → q < end → GivesNothing (page_at pages q)
  nothing_between pages from end before absent q low =
      elim (leb_tells from q) [
        | inl behind ↦ subst GivesNothing (sym (page_at-nowhere pages q (absent q behind.1 low))) tt
        | inr passed ↦ before q passed.1
      ]

  -- one page more has nothing
  pub nothing_behind : (pages : List (ℕ × PageValue S)) (from number : ℕ) → ((q : ℕ) → q < from → GivesNothing (page_at pages q)) → ((q : ℕ) → from ≤ q → q < number → place_of q pages ≡ None)
      → GivesNothing (page_at pages number) → (q : ℕ) → q < number + 1 → GivesNothing (page_at pages q)
  nothing_behind pages from number before absent nothing q low =
      elim (leb_tells number q) [
        | inl behind ↦ let same : number ≡ q = let past = behind.1 in omega arith in subst (λ n. GivesNothing (page_at pages n)) same nothing
        | inr passed ↦ nothing_between pages from number before absent q passed.1
      ]

  -- once a page has given back what it had, none up to it has anything
  pub nothing_as_far : (given : Option FrameValue × Option S) (old new : List (ℕ × PageValue S)) (number : ℕ) → ChangesBy (GivesBack given) old new number → ((q : ℕ) → q < number → GivesNothing (page_at old q))
      → (q : ℕ) → q < number + 1 → GivesNothing (page_at new q)
  nothing_as_far given old new number gives before q low =
      elim (eqb_tells q number) [
        | inl same ↦ subst GivesNothing (sym (gives.changes.pages q ∙ ap (λ b. if b then Some gives.page' else page_at old q) same.0)) (ap (λ (p : PageValue S). given_back p.place) gives.how.1)
        | inr apart ↦
            elim (leb_tells number q) [
              | inl behind ↦ absurd (apart.1 (let past = behind.1 in omega arith))
              | inr passed ↦ subst GivesNothing (sym (gives.changes.pages q ∙ ap (λ b. if b then Some gives.page' else page_at old q) apart.0)) (before q passed.1)
            ]
      ]
