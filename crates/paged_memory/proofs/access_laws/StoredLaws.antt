-- A page that a store was answered for has D, or a translation served the store that the hart had when its turn began.
use Rattle.std.proofs.Common.{◌≡◌, ◌⊎◌, ℕ, ◌^◌, ◌<◌, ◌≤◌, ◌&&◌, Bool, true, false, List, [], Option, Some, None, length, nat_lt, inl, inr, refl, sym, ap, ◌∙◌, arith, subst}
use Rattle.std.proofs.lemmas.Bool.Decides.{nat_tests}
use Rattle.page_memory.specs.declared.words.Access.{Access}
use Rattle.page_memory.specs.declared.words.Access.TheVariants.{Store}
use Rattle.sv32_table.specs.Entry.{Entry}
use Rattle.sv32_table.specs.EntryAt.{entry_at, dirty_of}
use Rattle.tlb_core.specs.declared.translation.Translation.{Translation}
use Rattle.tlb_core.specs.Cache.{translation_of}
use Rattle.paged_memory.specs.access.Access.{MarksUse, Serves, cache_of}
use Rattle.paged_memory.specs.access.HartMemory.{InTurn, KeepsAccess}
use Rattle.paged_memory.specs.access.Missing.{TakesSince}
use Rattle.paged_memory.specs.access.Using.{cache_in}
use Rattle.paged_memory.specs.Coheres.{Coheres}
use Rattle.paged_memory.specs.Paged.{PagedValue, seen_at}
use Rattle.paged_memory.specs.Seen.{Seen, Standing, Resident, Leaving, Elsewhere, used_standing, dirty_standing, is_used, is_dirty}
use Rattle.paged_memory.proofs.access_laws.HitLaws.{marks_hit}
use lib.ListN.{get_or-eq_default}

-- a page that is resident, as its A tells, is marked as dirty where its entry has D
second_of : (a b : Bool) → a && b ≡ true → b ≡ true
second_of true b h = h
second_of false b h = cc

used_dirty : (seen : Option Seen) (e : Entry) → is_used seen e ≡ true → dirty_of e ≡ true → is_dirty seen e ≡ true
unfolding dirty_of
used_dirty None e used dirty = cc
used_dirty (Some seen) e used dirty = by_standing seen.standing used
  where
    by_standing : (standing : Standing) → used_standing standing e ≡ true → dirty_standing standing e ≡ true
    by_standing (Resident frame loose) used = second_of e.valid e.dirty dirty
    by_standing (Leaving frame mark loose) used = cc
    by_standing Elsewhere used = cc

-- what serves in one cache serves in another that has the same translation of the page
serves_there : (cache cache' : List Translation) (access : Access) (page : ℕ) (served : Serves cache access page) → translation_of page cache' ≡ Some served.hits.entry → Serves cache' access page
serves_there cache cache' access page served found = record {
  place = served.place;
  hits = record { entry = served.hits.entry; found = found; at = served.hits.at; allowed = served.hits.allowed; dirty = served.hits.dirty };
}

-- a cache with a translation is one of those
within_held : (caches : List (List Translation)) (hart page : ℕ) (t : Translation) → translation_of page (cache_of caches hart) ≡ Some t → hart < length caches
within_held caches hart page t found = elim (nat_lt hart (length caches)) as (λ b. nat_lt hart (length caches) ≡ b → hart < length caches) [
  | true ↦ λ is. grind (arith, is, nat_tests)
  | false ↦ λ is. absurd (
      let beyond : length caches ≤ hart = grind (arith, is, nat_tests) in
      let none : translation_of page (cache_of caches hart) ≡ None = ap (translation_of page) (get_or-eq_default caches [] beyond) in
      cc)
] refl

module _ {S : Type 0} where
  pub stored_dirty : (hart : ℕ) (access : Access) (page : ℕ) (opening : List Translation) (old new : PagedValue S) → access ≡ Store → page < 2 ^ 20 → InTurn hart opening old
      → ((q : ℕ) → seen_at new.pages q ≡ seen_at old.pages q) → (Serves (cache_of old.caches hart) access page → new.tables ≡ old.tables)
      → (Serves (cache_of old.caches hart) access page ⊎ (is_dirty (seen_at old.pages page) (entry_at new.tables page) ≡ true))
      → MarksUse old.pages new.tables (cache_of old.caches hart) access page
      → Serves opening Store page ⊎ (is_dirty (seen_at new.pages page) (entry_at new.tables page) ≡ true)
  stored_dirty hart access page opening old new store small turn seen walks dirtied marks =
      elim dirtied [
        | inr dirty ↦ inr (ap (λ s. is_dirty s (entry_at new.tables page)) (seen page) ∙ dirty)
        | inl served ↦ elim marks [
          | inr doomed ↦ inl (as_store (serves_there (cache_of old.caches hart) opening access page (record { place = doomed.place; hits = doomed.hits }) (turn.doomed page doomed.hits.entry doomed.hits.found doomed.doomed)))
          | inl used ↦ by_bit served used (dirty_of (entry_at old.tables page)) refl
        ]
      ]
    where
      as_store : Serves opening access page → Serves opening Store page
      as_store served = subst (λ a. Serves opening a page) store served

      by_bit : (served : Serves (cache_of old.caches hart) access page) → is_used (seen_at old.pages page) (entry_at new.tables page) ≡ true → (b : Bool) → dirty_of (entry_at old.tables page) ≡ b
          → Serves opening Store page ⊎ (is_dirty (seen_at new.pages page) (entry_at new.tables page) ≡ true)
      by_bit served used false clean = inl (as_store (serves_there (cache_of old.caches hart) opening access page served (turn.marked page served.hits.entry small served.hits.found (served.hits.dirty store) clean)))
      by_bit served used true set =
          let now : dirty_of (entry_at new.tables page) ≡ true = ap (λ t. dirty_of (entry_at t page)) (walks served) ∙ set in
          inr (ap (λ s. is_dirty s (entry_at new.tables page)) (seen page) ∙ used_dirty (seen_at old.pages page) (entry_at new.tables page) used now)

  -- what a page has of a turn that began behind another one of the hart it has of that one
  pub since_back : (held : S → List ℕ) (honest : Type 0) (hart page : ℕ) (before between after : PagedValue S) → KeepsAccess hart before between → Coheres held honest between → KeepsAccess hart between after
      → TakesSince after (cache_in between hart) page → TakesSince after (cache_in before hart) page
  since_back held honest hart page before between after first coheres second taken = (
    taken.0,
    elim taken.1 [
      | inr dirty ↦ inr dirty
      | inl served ↦
          let small = taken.0.0 in
          let t = served.hits.entry in
          elim (first.goes.carried page t small served.hits.found) [
            | inl was ↦ inl (serves_there (cache_in between hart) (cache_in before hart) Store page served was.0)
            | inr filled ↦ elim (marks_hit page hart served.place Store coheres.agree (within_held between.caches hart page t served.hits.found) served.hits) [
              | inl used ↦ inr (second.changed page small (used_dirty (seen_at between.pages page) (entry_at between.tables page) used (sym filled.1 ∙ served.hits.dirty refl)))
              | inr doomed ↦ inl (serves_there (cache_in between hart) (cache_in before hart) Store page (record { place = doomed.place; hits = doomed.hits }) (first.goes.doomed page doomed.hits.entry doomed.hits.found doomed.doomed))
            ]
          ]
    ],
  )
