-- An access reads or writes the page that is lent from the place that it reached.
use Rattle.std.specs.Prelude.{◌≡◌, ℕ, ◌^◌, ◌<◌, ◌%◌, Some, Ok, List, drop}
use Rattle.std.proofs.Common.{sym, ap, ◌∙◌, subst}
use Rattle.std.proofs.lemmas.Option.{same_Some}
use Rattle.byteorder.specs.Endian.{little_bytes, little_number}
use Rattle.page_memory.specs.Pages.{overwritten, number_at, usable, stored, replaced, copied_in}
use Rattle.page_memory.specs.Words.{page_number, page_offset, bytes_in}
use Rattle.page_memory.specs.declared.words.Access.{Access}
use Rattle.page_memory.specs.declared.words.Access.TheVariants.{Store}
use Rattle.page_memory.specs.declared.words.Width.{Width}
use Rattle.page_memory.specs.Entries.{value_at, with_value}
use Rattle.page_store.specs.PageValue.{PageValue, content}
use Rattle.page_store.specs.Lending.{with_bytes}
use Rattle.tlb_core.specs.declared.translation.Translation.{Translation}
use Rattle.paged_memory.specs.access.Access.{Reaches, KeepsBare, UsesBytes}
use Rattle.paged_memory.specs.Paged.{Holds, flat_page, flat_pages}
use Rattle.paged_memory.proofs.access_laws.ReadLaws.{uses_bytes}
use Rattle.paged_memory.proofs.access_laws.WriteLaws.{holds_written, bare_stays, stored_written, copied_written, replaced_written}

module _ {S : Type 0} {pages : List (ℕ × PageValue S)} {tables : List (List ℕ)} {access : Access} {number place : ℕ} (reached : Reaches pages tables access number place) (lent : PageValue S) (at : value_at place pages ≡ Some lent) where
  lent_is : lent ≡ reached.page
  lent_is = same_Some lent reached.page (sym at ∙ reached.value)

-- what everything is after a write
module _ {S : Type 0} {held : S → List ℕ} {honest : Type 0} {pages : List (ℕ × PageValue S)} {tables : List (List ℕ)} {caches : List (List Translation)} (number place : ℕ) (small : number < 2 ^ 20) (holds : Holds held honest pages tables caches) (reached : Reaches pages tables Store number place) (lent now : PageValue S) (at : value_at place pages ≡ Some lent) (bytes : List ℕ) (is : now ≡ with_bytes lent bytes) where
  now_is : now ≡ with_bytes reached.page bytes
  now_is = is ∙ ap (λ p. with_bytes p bytes) (lent_is reached lent at)

  pub holds_lent : Holds held honest (with_value pages place now) tables caches
  holds_lent = subst (λ p. Holds held honest (with_value pages place p) tables caches) (sym now_is) (holds_written number place small holds reached bytes)

  pub bare_lent : KeepsBare number pages (with_value pages place now)
  bare_lent = subst (λ p. KeepsBare number pages (with_value pages place p)) (sym now_is) (bare_stays number place small holds reached bytes)

module _ {S : Type 0} (held : S → List ℕ) (pages : List (ℕ × PageValue S)) (tables : List (List ℕ)) (address place : ℕ) where
  -- and the memory
  module _ (reached : Reaches pages tables Store (page_number address) place) (lent now : PageValue S) (at : value_at place pages ≡ Some lent) where
    written_to : (bytes : PageValue S → List ℕ) → now ≡ with_bytes lent (bytes lent) → flat_pages held (with_value pages place (with_bytes reached.page (bytes reached.page))) ≡ flat_pages held (with_value pages place now)
    written_to bytes is = ap (λ p. flat_pages held (with_value pages place p)) (sym (is ∙ ap (λ p. with_bytes p (bytes p)) (lent_is reached lent at)))

    pub stored_lent : (width : Width) (word offset : ℕ) → address % bytes_in width ≡ 0 → offset ≡ page_offset address → now ≡ with_bytes lent (overwritten (content held lent) offset (little_bytes (bytes_in width) word))
        → stored (flat_pages held pages) width address word ≡ Ok (flat_pages held (with_value pages place now))
    stored_lent width word offset aligned offset_is is =
        stored_written held pages tables width address word place aligned reached
        ∙ ap Ok (written_to (λ p. overwritten (content held p) (page_offset address) (little_bytes (bytes_in width) word)) (is ∙ ap (λ o. with_bytes lent (overwritten (content held lent) o (little_bytes (bytes_in width) word))) offset_is))

    pub copied_lent : (from : List ℕ) (offset : ℕ) → offset ≡ page_offset address → now ≡ with_bytes lent (overwritten (content held lent) offset from) → copied_in (flat_pages held pages) address from ≡ Ok (flat_pages held (with_value pages place now))
    copied_lent from offset offset_is is =
        copied_written held pages tables address place from reached
        ∙ ap Ok (written_to (λ p. overwritten (content held p) (page_offset address) from) (is ∙ ap (λ o. with_bytes lent (overwritten (content held lent) o from)) offset_is))

    pub replaced_lent : (update : ℕ → ℕ) (old offset : ℕ) → address % 4 ≡ 0 → offset ≡ page_offset address → old ≡ little_number 4 (drop offset (content held lent)) → now ≡ with_bytes lent (overwritten (content held lent) offset (little_bytes 4 (update old)))
        → replaced (flat_pages held pages) update address ≡ Ok (old, flat_pages held (with_value pages place now))
    replaced_lent update old offset aligned offset_is old_there there =
        let old_is : old ≡ little_number 4 (drop (page_offset address) (content held lent)) = old_there ∙ ap (λ o. little_number 4 (drop o (content held lent))) offset_is in
        let is : now ≡ with_bytes lent (overwritten (content held lent) (page_offset address) (little_bytes 4 (update old))) = there ∙ ap (λ o. with_bytes lent (overwritten (content held lent) o (little_bytes 4 (update old)))) offset_is in
        let word = ap (λ p. number_at 4 address (flat_page held p)) (lent_is reached lent at) in
        replaced_written held pages tables update address place aligned reached
        ∙ ap (λ m. Ok (number_at 4 address (flat_page held reached.page), m)) (written_to (λ p. overwritten (content held p) (page_offset address) (little_bytes 4 (update (number_at 4 address (flat_page held p))))) (is ∙ ap (λ n. with_bytes lent (overwritten (content held lent) (page_offset address) (little_bytes 4 (update n)))) old_is))
        ∙ ap (λ n. Ok (n, flat_pages held (with_value pages place now))) (sym (old_is ∙ word))

  -- the bytes that are read
  pub uses_lent : {access : Access} (reached : Reaches pages tables access (page_number address) place) (lent : PageValue S) → value_at place pages ≡ Some lent → (bytes : List ℕ) → bytes ≡ content held lent → UsesBytes (usable (flat_pages held pages) access address) bytes
  uses_lent {access} reached lent at bytes is = uses_bytes held pages access address reached bytes (is ∙ ap (content held) (lent_is reached lent at))
