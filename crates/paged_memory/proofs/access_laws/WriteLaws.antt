-- A hart writes to a page that its access reaches.
use Rattle.std.specs.Prelude.{◌≡◌, ◌≢◌, ℕ, ◌^◌, ◌<◌, ◌%◌, ◌==◌, Bool, true, false, cond, Some, option_map, Result, Ok, Err, is_some, List, [], refl}
use Rattle.std.proofs.Common.{sym, ap, ◌∙◌, subst, eqb-true, eq-eqb, ne_eqb, true≢false}
use Rattle.byteorder.specs.Endian.{little_bytes}
use Rattle.page_memory.specs.Pages.{Page, overwritten, answer_by, usable, aligned_page, if_aligned, memory_with, number_at, Pages, exchanged, replaced, stored, copied_in}
use Rattle.page_memory.specs.declared.fault.MemoryFault.{MemoryFault}
use Rattle.page_memory.specs.declared.fault.MemoryFault.TheVariants.{Misaligned}
use Rattle.rv_exec.specs.declared.bus.BusError.{BusError}
use Rattle.rv_exec.specs.declared.bus.BusError.TheVariants.{Fault, Absent}
use Rattle.rv_exec.specs.Answers.{BusRefuses}
use Rattle.page_memory.specs.Words.{page_number, page_offset, bytes_in}
use Rattle.page_memory.specs.declared.words.Width.{Width}
use Rattle.page_memory.specs.declared.words.Width.TheVariants.{Word}
use Rattle.page_memory.specs.declared.words.Access.TheVariants.{Store}
use Rattle.page_memory.specs.Entries.{with_value}
use Rattle.page_memory.proofs.EntriesLaws.{place_of-with_value}
use Rattle.page_memory.proofs.StandsForLaws.{stored-changed, copied-changed}
use Rattle.page_store.specs.PageValue.{PageValue, Place, Fresh, Resident, Leaving, Saving, Away, Purged, content, shown, writable, frame_of, Backed, changed}
use Rattle.page_store.specs.Lending.{rewritten, with_bytes}
use Rattle.sv32_table.specs.Entry.{Entry}
use Rattle.sv32_table.specs.EntryAt.{entry_at}
use Rattle.tlb_core.specs.declared.translation.Translation.{Translation}
use Rattle.paged_memory.specs.Seen.{frame_seen, rights_seen, takes_stores, is_used}
use Rattle.paged_memory.specs.Soundness.{IsMapped}
use Rattle.paged_memory.specs.access.Access.{Reaches, KeepsBare, bare_at}
use Rattle.paged_memory.specs.Paged.{standing_of, seen_of, page_at, seen_at, flat_page, flat_pages, Holds, ChangesPage}
use Rattle.paged_memory.proofs.access_laws.HartMemoryLaws.{seen_bare}
use Rattle.paged_memory.proofs.SeenLaws.{stores_changed}
use Rattle.paged_memory.proofs.access_laws.ReadLaws.{usable_reached}
use Rattle.paged_memory.proofs.move_laws.PagedLaws.{Change, get-page_at, page_at-place, changes_at_place, changes_no_entry, Holds-held}

-- what a write to a page's frame leaves
module _ {S : Type 0} where
  standing_rewritten : (place : Place S) (bytes : List ℕ) → standing_of (rewritten bytes place) ≡ standing_of place
  standing_rewritten Fresh bytes = refl
  standing_rewritten (Resident frame slot) bytes = refl
  standing_rewritten (Leaving frame slot mark) bytes = refl
  standing_rewritten (Saving frame mark) bytes = refl
  standing_rewritten (Away slot) bytes = refl
  standing_rewritten Purged bytes = refl

  bare_rewritten : (place : Place S) (bytes : List ℕ) → rewritten [] (rewritten bytes place) ≡ rewritten [] place
  bare_rewritten Fresh bytes = refl
  bare_rewritten (Resident frame slot) bytes = refl
  bare_rewritten (Leaving frame slot mark) bytes = refl
  bare_rewritten (Saving frame mark) bytes = refl
  bare_rewritten (Away slot) bytes = refl
  bare_rewritten Purged bytes = refl

  framed_rewritten : (place : Place S) (bytes : List ℕ) → is_some (frame_of (rewritten bytes place)) ≡ is_some (frame_of place)
  framed_rewritten Fresh bytes = refl
  framed_rewritten (Resident frame slot) bytes = refl
  framed_rewritten (Leaving frame slot mark) bytes = refl
  framed_rewritten (Saving frame mark) bytes = refl
  framed_rewritten (Away slot) bytes = refl
  framed_rewritten Purged bytes = refl

  shown_rewritten : (held : S → List ℕ) (origin : List ℕ) (place : Place S) (bytes : List ℕ) → is_some (writable place) ≡ true → shown held origin (rewritten bytes place) ≡ bytes
  shown_rewritten held origin Fresh bytes is = cc
  shown_rewritten held origin (Resident frame slot) bytes is = refl
  shown_rewritten held origin (Leaving frame slot mark) bytes is = refl
  shown_rewritten held origin (Saving frame mark) bytes is = cc
  shown_rewritten held origin (Away slot) bytes is = cc
  shown_rewritten held origin Purged bytes is = cc

  changed_rewritten : (dirty : Bool) (place : Place S) (bytes : List ℕ) → changed dirty (rewritten bytes place) ≡ changed dirty place
  changed_rewritten dirty Fresh bytes = refl
  changed_rewritten dirty (Resident frame slot) bytes = refl
  changed_rewritten dirty (Leaving frame slot mark) bytes = refl
  changed_rewritten dirty (Saving frame mark) bytes = refl
  changed_rewritten dirty (Away slot) bytes = refl
  changed_rewritten dirty Purged bytes = refl

  -- a page that takes stores may be written
  backed_rewritten : (held : S → List ℕ) (page : PageValue S) (e : Entry) (bytes : List ℕ) → is_some (writable page.place) ≡ true → takes_stores (Some (seen_of page)) e ≡ true → Backed held e.dirty (with_bytes page bytes)
  backed_rewritten held page e bytes is takes unchanged =
      let clash : true ≡ false = sym (stores_changed page e takes) ∙ sym (changed_rewritten e.dirty page.place bytes) ∙ unchanged in
      cc

  module _ {held : S → List ℕ} {honest : Type 0} {pages : List (ℕ × PageValue S)} {tables : List (List ℕ)} {caches : List (List Translation)} (number place : ℕ) (small : number < 2 ^ 20) (holds : Holds held honest pages tables caches) (reached : Reaches pages tables Store number place) (bytes : List ℕ) where
    abbrev written : PageValue S
    written = with_bytes reached.page bytes

    abbrev pub pages_now : List (ℕ × PageValue S)
    pages_now = with_value pages place written

    found : page_at pages number ≡ Some reached.page
    found = page_at-place pages number place reached.page reached.at reached.value

    changes : ChangesPage pages pages_now number written
    changes = changes_at_place pages number place written reached.at

    seen_same : seen_of written ≡ seen_of reached.page
    seen_same = ap (λ s. record { rights = reached.page.origin.rights; standing = s }) (standing_rewritten reached.page.place bytes)
        -- all but the bytes in the frame stays

    pub bare_stays : KeepsBare number pages pages_now
    bare_stays =
        record {
          bare = λ q. ap (option_map (λ p. with_bytes p [])) (changes.pages q) ∙ choose q (q == number) refl;
          places = λ q. place_of-with_value pages place q written;
          others = λ q apart. changes.pages q ∙ ap (λ b. cond b (Some written) (page_at pages q)) (ne_eqb q number apart);
        }
      where
        choose : (q : ℕ) (b : Bool) → (q == number) ≡ b → option_map (λ p. with_bytes p []) (cond b (Some written) (page_at pages q)) ≡ bare_at pages q
        choose q true is =
            ap (λ p. Some (record reached.page { place = p })) (bare_rewritten reached.page.place bytes)
            ∙ sym (ap (option_map (λ p. with_bytes p [])) (ap (page_at pages) (eqb-true q number is) ∙ found))
        choose q false is = refl

    seen_stays : (q : ℕ) → seen_at pages_now q ≡ seen_at pages q
    seen_stays q = sym (seen_bare (page_at pages_now q)) ∙ ap (option_map seen_of) (bare_stays.bare q) ∙ seen_bare (page_at pages q)

    change : Change held honest pages pages_now tables tables number written (entry_at tables number)
    change =
        record {
          small = small;
          changes = changes;
          entry = changes_no_entry tables number;
          kept = λ q in_range has. has;
          tabled = λ framed. holds.tabled number reached.page small found (sym (framed_rewritten reached.page.place bytes) ∙ framed);
          mapped = subst (λ s. IsMapped s (entry_at tables number)) (ap (option_map seen_of) found ∙ sym (ap Some seen_same)) (holds.agree.mapped number small);
          backed = λ is_honest. backed_rewritten held reached.page (entry_at tables number) bytes reached.framed (reached.changed refl);
          constant = λ fixed. absurd (true≢false (sym reached.allowed ∙ fixed));
        }

    pub holds_written : Holds held honest pages_now tables caches
    holds_written =
        Holds-held change caches holds
        (record { frame = ap frame_seen (seen_stays number); rights = ap rights_seen (seen_stays number); changed = λ was. ap (λ s. takes_stores s (entry_at tables number)) (seen_stays number) ∙ was })
        (λ was. ap (λ s. is_used s (entry_at tables number)) (seen_stays number) ∙ was)

  -- the memory that is left by a store, and by a copy
  pub stored_written : (held : S → List ℕ) (pages : List (ℕ × PageValue S)) (tables : List (List ℕ)) (width : Width) (address word place : ℕ) → address % bytes_in width ≡ 0 → (reached : Reaches pages tables Store (page_number address) place) → stored (flat_pages held pages) width address word ≡ Ok (flat_pages held (with_value pages place (with_bytes reached.page (overwritten (content held reached.page) (page_offset address) (little_bytes (bytes_in width) word)))))
  unfolding flat_pages
  stored_written held pages tables width address word place aligned reached =
      let bytes = overwritten (content held reached.page) (page_offset address) (little_bytes (bytes_in width) word) in
      let found = page_at-place pages (page_number address) place reached.page reached.at reached.value in
      stored-changed (flat_page held) pages _ width address word reached.page (with_bytes reached.page bytes) aligned (sym (get-page_at pages (page_number address)) ∙ found) reached.allowed
      (ap (λ b. record (flat_page held reached.page) { bytes = b }) (shown_rewritten held reached.page.origin.bytes reached.page.place bytes reached.framed))
      (changes_at_place pages (page_number address) place (with_bytes reached.page bytes) reached.at).entries

  pub copied_written : (held : S → List ℕ) (pages : List (ℕ × PageValue S)) (tables : List (List ℕ)) (address place : ℕ) (from : List ℕ) (reached : Reaches pages tables Store (page_number address) place) → copied_in (flat_pages held pages) address from ≡ Ok (flat_pages held (with_value pages place (with_bytes reached.page (overwritten (content held reached.page) (page_offset address) from))))
  unfolding flat_pages
  copied_written held pages tables address place from reached =
      let bytes = overwritten (content held reached.page) (page_offset address) from in
      let found = page_at-place pages (page_number address) place reached.page reached.at reached.value in
      copied-changed (flat_page held) pages _ address from reached.page (with_bytes reached.page bytes) (sym (get-page_at pages (page_number address)) ∙ found) reached.allowed
      (ap (λ b. record (flat_page held reached.page) { bytes = b }) (shown_rewritten held reached.page.origin.bytes reached.page.place bytes reached.framed))
      (changes_at_place pages (page_number address) place (with_bytes reached.page bytes) reached.at).entries

-- an access that is refused, where what it does is not asked
answered_refused : {A : Type 0} (lacks : ℕ → Type 0) (address : ℕ) (g : Page → A) (refusal : BusError) (r : Result Page MemoryFault) → BusRefuses lacks address r refusal → BusRefuses lacks address (answer_by g r) refusal
answered_refused lacks address g (Fault fault) r is = ap (answer_by g) is
answered_refused lacks address g (Absent page) (Ok p) is = (is.0, is.1, refl)
answered_refused lacks address g (Absent page) (Err fault) is = let clash = is.2 in cc

-- a word that is replaced in one step
replaced_by : {S : Type 0} (held : S → List ℕ) (pages : List (ℕ × PageValue S)) (tables : List (List ℕ)) (update : ℕ → ℕ) (address place : ℕ) → address % 4 ≡ 0 → (reached : Reaches pages tables Store (page_number address) place) → aligned_page (flat_pages held pages) Store 4 address ≡ Ok (flat_page held reached.page)
unfolding aligned_page
replaced_by held pages tables update address place aligned reached =
    ap (λ b. if_aligned b (usable (flat_pages held pages) Store address)) (eq-eqb (address % 4) 0 aligned) ∙ usable_reached held pages Store address reached

pub replaced_written : {S : Type 0} (held : S → List ℕ) (pages : List (ℕ × PageValue S)) (tables : List (List ℕ)) (update : ℕ → ℕ) (address place : ℕ) → address % 4 ≡ 0 → (reached : Reaches pages tables Store (page_number address) place)
    → replaced (flat_pages held pages) update address ≡ Ok (number_at 4 address (flat_page held reached.page), flat_pages held (with_value pages place (with_bytes reached.page (overwritten (content held reached.page) (page_offset address) (little_bytes 4 (update (number_at 4 address (flat_page held reached.page))))))))
unfolding replaced stored
replaced_written held pages tables update address place aligned reached =
    let n = number_at 4 address (flat_page held reached.page) in
    let memory = flat_pages held pages in
    let found = replaced_by held pages tables update address place aligned reached in
    let after = stored_written held pages tables Word address (update n) place aligned reached in
    let same = ok_same _ _ (sym (ap (answer_by (memory_with memory address (little_bytes 4 (update n)))) found) ∙ after) in
    ap (answer_by (exchanged memory update address)) found ∙ ap (λ m. Ok (n, m)) same
  where
    ok_same : (x y : Pages) → ◌≡◌ {A = Result Pages MemoryFault} (Ok x) (Ok y) → x ≡ y
    ok_same x y is = cc

pub replaced_refused : (lacks : ℕ → Type 0) (memory : Pages) (update : ℕ → ℕ) (address : ℕ) (refusal : BusError) → address % 4 ≡ 0 → BusRefuses lacks address (usable memory Store address) refusal → BusRefuses lacks address (replaced memory update address) refusal
unfolding replaced aligned_page
replaced_refused lacks memory update address refusal aligned is =
    subst (λ b. BusRefuses lacks address (answer_by (exchanged memory update address) (if_aligned b (usable memory Store address))) refusal) (sym (eq-eqb (address % 4) 0 aligned))
    (answered_refused lacks address (exchanged memory update address) refusal (usable memory Store address) is)

pub replaced_misaligned : (memory : Pages) (update : ℕ → ℕ) (address : ℕ) → address % 4 ≢ 0 → replaced memory update address ≡ Err Misaligned
unfolding replaced aligned_page
replaced_misaligned memory update address odd = ap (λ b. answer_by (exchanged memory update address) (if_aligned b (usable memory Store address))) (ne_eqb (address % 4) 0 odd)

pub stored_refused : (lacks : ℕ → Type 0) (memory : Pages) (width : Width) (address word : ℕ) (refusal : BusError) → address % bytes_in width ≡ 0 → BusRefuses lacks address (usable memory Store address) refusal → BusRefuses lacks address (stored memory width address word) refusal
unfolding stored aligned_page
stored_refused lacks memory width address word refusal aligned is =
    subst (λ b. BusRefuses lacks address (answer_by (memory_with memory address (little_bytes (bytes_in width) word)) (if_aligned b (usable memory Store address))) refusal) (sym (eq-eqb (address % bytes_in width) 0 aligned))
    (answered_refused lacks address (memory_with memory address (little_bytes (bytes_in width) word)) refusal (usable memory Store address) is)

pub copied_refused : (lacks : ℕ → Type 0) (memory : Pages) (address : ℕ) (from : List ℕ) (refusal : BusError) → BusRefuses lacks address (usable memory Store address) refusal → BusRefuses lacks address (copied_in memory address from) refusal
unfolding copied_in
copied_refused lacks memory address from refusal is = answered_refused lacks address (memory_with memory address from) refusal (usable memory Store address) is
