-- What a hart's cache serves stays at hand over accesses that it serves.
use Rattle.std.specs.Prelude.{◌≡◌, ◌<◌, ℕ, true, is_some, refl, List}
use Rattle.std.proofs.Common.{sym, ap, ◌∙◌, subst, inl, inr}
use Rattle.page_memory.specs.declared.words.Access.{Access}
use Rattle.page_memory.specs.declared.words.Access.TheVariants.{Store}
use Rattle.sv32_table.specs.EntryAt.{entry_at}
use Rattle.paged_memory.specs.access.Access.{HasPage, KeepsBare, MarksUse, Serves, TakesStores, cache_of, is_resident}
use Rattle.paged_memory.specs.access.HartMemory.{KeepsAccess, UsedSince}
use Rattle.paged_memory.specs.access.Missing.{TakesSince}
use Rattle.paged_memory.specs.access.OwnCache.{FilledFrom}
use Rattle.paged_memory.specs.access.Ready.{ServesIn, KeepsReady}
use Rattle.paged_memory.specs.access.Using.{cache_in}
use Rattle.paged_memory.specs.Coheres.{Coheres}
use Rattle.paged_memory.specs.moves.Moving.{OnlyPages}
use Rattle.paged_memory.specs.Paged.{PagedValue, seen_at}
use Rattle.paged_memory.specs.Seen.{is_used, takes_stores}
use Rattle.paged_memory.proofs.access_laws.HartMemoryLaws.{access_itself, access_on, access_written}
use Rattle.paged_memory.proofs.access_laws.OnePageLaws.{keeps_itself}
use Rattle.paged_memory.proofs.access_laws.OwnCacheLaws.{filled_itself}
use Rattle.paged_memory.proofs.Since.{seen_written}

module _ {S : Type 0} where
  module _ (hart : ℕ) (old new : PagedValue S) (only : OnlyPages old new) (seen : (page : ℕ) → seen_at new.pages page ≡ seen_at old.pages page) where
    had_on : (page : ℕ) → HasPage old.pages (cache_of old.caches hart) page → HasPage new.pages (cache_of new.caches hart) page
    had_on page (inl resident) = inl (ap is_resident (seen page) ∙ resident)
    had_on page (inr held) = subst (λ (m : PagedValue S). HasPage new.pages (cache_of m.caches hart) page) (sym only) (inr held)

    marked_on : (access : Access) (page : ℕ) → MarksUse old.pages old.tables (cache_of old.caches hart) access page → MarksUse new.pages new.tables (cache_of new.caches hart) access page
    marked_on access page (inl used) = inl (ap (λ s. is_used s (entry_at new.tables page)) (seen page) ∙ ap (λ (m : PagedValue S). is_used (seen_at old.pages page) (entry_at m.tables page)) only ∙ used)
    marked_on access page (inr served) = subst (λ (m : PagedValue S). MarksUse new.pages new.tables (cache_of m.caches hart) access page) (sym only) (inr served)

    serves_still : (access : Access) (page : ℕ) → ServesIn old hart access page → ServesIn new hart access page
    serves_still access page serves = record {
      small = serves.small;
      has = had_on page serves.has;
      marked = marked_on access page serves.marked;
      takes = λ is. ap (λ s. takes_stores s (entry_at new.tables page)) (seen page) ∙ ap (λ (m : PagedValue S). takes_stores (seen_at old.pages page) (entry_at m.tables page)) only ∙ serves.takes is;
      serves = subst (λ (m : PagedValue S). Serves (cache_in m hart) access page) (sym only) serves.serves;
    }

  module _ {held : S → List ℕ} {honest : Type 0} where
    -- nothing but the bytes of the page of a store changes
    pub ready_written : (hart number : ℕ) (old new : PagedValue S) → OnlyPages old new → KeepsBare number old.pages new.pages → TakesStores old.pages old.tables number → Coheres held honest new → KeepsReady held honest hart old new
    ready_written hart number old new only bare takes coheres =
        let seen = seen_written old.pages new.pages bare in
        let kept : KeepsAccess hart old new = subst (KeepsAccess hart old) (sym only) (access_written hart number old (record old { pages = new.pages }) refl bare (keeps_itself hart number old.pages old.tables old.caches) (inr takes)) in
        record {
          only = only;
          seen = seen;
          since = λ start before. access_on hart start old new before kept;
          serves = serves_still hart old new only seen;
          coheres = λ _. coheres;
        }

    module _ (hart : ℕ) (old new : PagedValue S) (kept : KeepsReady held honest hart old new) where
      pub ready_kept : KeepsAccess hart old new
      ready_kept = kept.since old (access_itself hart old)

      -- a use that was marked is marked since then, by a page that the cache showed, and a page that took stores does
      pub marked_still : (access : Access) (page : ℕ) → ServesIn old hart access page → UsedSince hart new (cache_in old hart) page
      marked_still access page serves = (
        (
          serves.small,
          elim serves.marked [
            | inl used ↦ inl (ap (λ s. is_used s (entry_at new.tables page)) (kept.seen page) ∙ ap (λ (m : PagedValue S). is_used (seen_at old.pages page) (entry_at m.tables page)) kept.only ∙ used)
            | inr served ↦ inr (record { access = access; served = served })
          ],
        ),
        ∣ record {
          filled = subst (λ (m : PagedValue S). FilledFrom (λ _. true) (cache_in old hart) (cache_in m hart)) (sym kept.only) (filled_itself (λ _. true) (cache_in old hart));
          shown = inl (ap is_some serves.serves.hits.found);
        } ∣₁,
      )

      pub takes_still : (page : ℕ) → ServesIn old hart Store page → TakesSince new (cache_in old hart) page
      takes_still page serves = (
        (
          serves.small,
          ap (λ s. takes_stores s (entry_at new.tables page)) (kept.seen page) ∙ ap (λ (m : PagedValue S). takes_stores (seen_at old.pages page) (entry_at m.tables page)) kept.only ∙ serves.takes refl,
        ),
        inl serves.serves,
      )
