-- A page that is not resident becomes another that is not.
use Rattle.std.specs.Prelude.{◌≡◌, ℕ, ◌^◌, ◌<◌, Bool, true, false, Some, option_map, is_some, List, [], ◌∷◌, zero, suc, refl}
use Rattle.std.proofs.Common.{sym, ap, ◌∙◌, subst}
use Rattle.page_memory.specs.Pages.{Page}
use Rattle.page_memory.specs.Entries.{value_at, with_value}
use Rattle.page_store.specs.PageValue.{PageValue, frame_of, Backed}
use Rattle.sv32_table.specs.Entry.{Entry, blank}
use Rattle.sv32_table.specs.EntryAt.{entry_at}
use Rattle.tlb_core.specs.declared.translation.Translation.{Translation}
use Rattle.paged_memory.specs.Seen.{Standing, Elsewhere, entry_seen, entry_standing, frame_seen, rights_seen, takes_stores, is_used}
use Rattle.paged_memory.specs.Soundness.{IsMapped}
use Rattle.paged_memory.specs.Paged.{standing_of, seen_of, page_at, seen_at, Holds, IsConstant, ChangesPage}
use Rattle.paged_memory.proofs.SoundnessLaws.{Unheld, unheld_elsewhere}
use Rattle.paged_memory.proofs.move_laws.PagedLaws.{Change, choice_here, changes_no_entry, Holds-unheld, Holds-held}

-- a page with no entry
abbrev pub IsBlank : Standing → Type 0
IsBlank standing = (rights : _) (accessed dirty : Bool) → entry_standing rights standing accessed dirty ≡ blank

module _ {S : Type 0} {held : S → List ℕ} {honest : Type 0} {pages : List (ℕ × PageValue S)} {tables : List (List ℕ)} {caches : List (List Translation)} (number : ℕ) (small : number < 2 ^ 20) (holds : Holds held honest pages tables caches) where
  -- a page that is not resident has no entry
  pub entry_blank : (page : PageValue S) → page_at pages number ≡ Some page → IsBlank (standing_of page.place) → entry_at tables number ≡ blank
  entry_blank page found is =
      (holds.agree.mapped number small).entry ∙ ap (λ s. entry_seen s (entry_at tables number).accessed (entry_at tables number).dirty) (ap (option_map seen_of) found)
      ∙ is page.origin.rights (entry_at tables number).accessed (entry_at tables number).dirty

  -- no cache holds a page that stands elsewhere
  pub unheld_page : (page : PageValue S) → page_at pages number ≡ Some page → standing_of page.place ≡ Elsewhere → Unheld number caches
  unheld_page page found is = unheld_elsewhere caches number holds.agree (ap frame_seen (ap (option_map seen_of) found ∙ ap (λ s. Some (record { rights = page.origin.rights; standing = s })) is))

  module _ (pages' : List (ℕ × PageValue S)) (page page' : PageValue S) (found : page_at pages number ≡ Some page) (changes : ChangesPage pages pages' number page') (origin : page'.origin ≡ page.origin) (blank_then : IsBlank (standing_of page.place)) (blank_now : IsBlank (standing_of page'.place)) (framed : is_some (frame_of page'.place) ≡ true → is_some (frame_of page.place) ≡ true) (backed : honest → Backed held false page') (constant : IsConstant false page') where
    none : entry_at tables number ≡ blank
    none = entry_blank page found blank_then

    moved : Change held honest pages pages' tables tables number page' (entry_at tables number)
    moved =
        record {
          small = small;
          changes = changes;
          entry = changes_no_entry tables number;
          kept = λ q in_range has. has;
          tabled = λ has. holds.tabled number page small found (framed has);
          mapped = record {
            entry = none ∙ sym (blank_now page'.origin.rights (entry_at tables number).accessed (entry_at tables number).dirty);
            readable = λ rights is. (holds.agree.mapped number small).readable rights (ap rights_seen (ap (option_map seen_of) found) ∙ sym (ap (λ (o : Page). Some o.rights) origin) ∙ is);
          };
          backed = λ is_honest. subst (λ (e : Entry). Backed held e.dirty page') (sym none) (backed is_honest);
          constant = subst (λ (e : Entry). IsConstant e.dirty page') (sym none) constant;
        }

    -- everything goes together still, if no cache holds the page
    pub holds_moved : Unheld number caches → Holds held honest pages' tables caches
    holds_moved unheld = Holds-unheld moved caches holds unheld

  -- a page that stays as it was
  pub holds_same : (pages' : List (ℕ × PageValue S)) (page : PageValue S) → page_at pages number ≡ Some page → ChangesPage pages pages' number page → Holds held honest pages' tables caches
  holds_same pages' page found changes =
      Holds-held same caches holds (record { frame = ap frame_seen seen_same; rights = ap rights_seen seen_same; changed = λ was. subst (λ s. takes_stores s (entry_at tables number) ≡ true) (sym seen_same) was }) (λ was. subst (λ s. is_used s (entry_at tables number) ≡ true) (sym seen_same) was)
    where
      seen_same : seen_at pages' number ≡ seen_at pages number
      seen_same = ap (option_map seen_of) (changes.pages number ∙ choice_here number (Some page) (page_at pages number) ∙ sym found)

      same : Change held honest pages pages' tables tables number page (entry_at tables number)
      same =
          record {
            small = small;
            changes = changes;
            entry = changes_no_entry tables number;
            kept = λ q in_range has. has;
            tabled = λ has. holds.tabled number page small found has;
            mapped = subst (λ s. IsMapped s (entry_at tables number)) (ap (option_map seen_of) found) (holds.agree.mapped number small);
            backed = λ is_honest. holds.backed is_honest number page small found;
            constant = holds.constant number page small found;
          }

-- the value that is at a place already
pub with_same : {T : Type 0} (entries : List (ℕ × T)) (place : ℕ) (value : T) → value_at place entries ≡ Some value → with_value entries place value ≡ entries
unfolding with_value
with_same [] place value at = refl
with_same (e ∷ es) zero value at = let same : e.1 ≡ value = cc in ap (λ v. (e.0, v) ∷ es) (sym same)
with_same (e ∷ es) (suc place) value at = ap (λ l. e ∷ l) (with_same es place value at)
