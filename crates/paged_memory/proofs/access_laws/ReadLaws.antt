-- What an access to the pages' memory answers.
use Rattle.std.specs.Prelude.{◌≡◌, ℕ, Bool, true, false, cond, Option, Some, None, option_map, option_and_then, Ok, Err, IsOk, List}
use Rattle.std.proofs.Common.{sym, ap, ◌∙◌, subst}
use Rattle.page_memory.specs.Pages.{usable, with_right, page_if}
use Rattle.page_memory.specs.Words.{page_number}
use Rattle.page_memory.specs.declared.words.Access.{Access}
use Rattle.page_memory.specs.declared.fault.MemoryFault.{MemoryFault}
use Rattle.page_memory.specs.declared.fault.MemoryFault.TheVariants.{PageFault}
use Rattle.page_memory.specs.Rights.{may}
use Rattle.page_memory.specs.Entries.{value_at}
use Rattle.page_memory.proofs.StandsForLaws.{usable-map_by}
use Rattle.page_store.specs.PageValue.{PageValue, content}
use Rattle.rv_exec.specs.declared.bus.BusError.{BusError}
use Rattle.rv_exec.specs.declared.bus.BusError.TheVariants.{Fault, Absent}
use Rattle.rv_exec.specs.Answers.{BusRefuses}
use Rattle.paged_memory.specs.access.Access.{Reaches, RefusesAccess, LacksPage, UsesBytes, page_with_right}
use Rattle.paged_memory.specs.Paged.{page_at, flat_page, flat_pages}

module _ {S : Type 0} (held : S → List ℕ) (pages : List (ℕ × PageValue S)) (access : Access) (address : ℕ) where
  -- memory is used where the page may be
  usable_at : usable (flat_pages held pages) access address ≡ with_right access (option_map (flat_page held) (page_at pages (page_number address)))
  unfolding flat_pages page_at
  usable_at = usable-map_by (flat_page held) pages access address

  flat_right : (o : Option (PageValue S)) (fault : MemoryFault) → page_with_right access o ≡ Err fault → with_right access (option_map (flat_page held) o) ≡ Err fault
  flat_right None fault is = let same : PageFault ≡ fault = cc in ap Err same
  flat_right (Some page) fault is = by_right (may access page.origin.rights) is
    where
      by_right : (b : Bool) → cond b (Ok page) (Err PageFault) ≡ Err fault → page_if b (flat_page held page) ≡ Err fault
      by_right true is = cc
      by_right false is = let same : PageFault ≡ fault = cc in ap Err same

  flat_allowed : (o : Option (PageValue S)) → IsOk (page_with_right access o) → IsOk (with_right access (option_map (flat_page held) o))
  flat_allowed None is = is
  flat_allowed (Some page) is = by_right (may access page.origin.rights) is
    where
      by_right : (b : Bool) → IsOk (cond b (Ok page) (Err PageFault)) → IsOk (page_if b (flat_page held page))
      by_right true is = is
      by_right false is = is

  pub refuses : (refusal : BusError) → RefusesAccess pages access (page_number address) refusal → BusRefuses (LacksPage pages) address (usable (flat_pages held pages) access address) refusal
  refuses (Fault fault) is = usable_at ∙ flat_right (page_at pages (page_number address)) fault is
  refuses (Absent page) is = (is.0, subst (λ n. LacksPage pages n) (sym is.0) is.1.1, subst IsOk (sym usable_at) (flat_allowed (page_at pages (page_number address)) is.1.0))

  module _ {tables : List (List ℕ)} {place : ℕ} (reached : Reaches pages tables access (page_number address) place) where
    pub usable_reached : usable (flat_pages held pages) access address ≡ Ok (flat_page held reached.page)
    unfolding page_at
    usable_reached =
        usable_at ∙ ap (λ o. with_right access (option_map (flat_page held) (option_and_then (λ k. value_at k pages) o))) reached.at
        ∙ ap (λ o. with_right access (option_map (flat_page held) o)) reached.value
        ∙ ap (λ b. page_if b (flat_page held reached.page)) reached.allowed

    pub uses_bytes : (bytes : List ℕ) → bytes ≡ content held reached.page → UsesBytes (usable (flat_pages held pages) access address) bytes
    uses_bytes bytes is = subst (λ r. UsesBytes r bytes) (sym usable_reached) (sym is)
