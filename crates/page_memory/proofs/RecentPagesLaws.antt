-- What holds of each page that was used last holds on as one is learned or forgotten.
use Rattle.std.proofs.Common.{◌≡◌, ◌≢◌, ℕ, zero, suc, ◌*◌, ◌/◌, ◌%◌, ◌==◌, Bool, true, false, cond, refl, sym, ap, ◌∙◌, subst, arith, List, [], ◌∷◌, get_or, set, ◌⊎◌, inl, inr}
use Rattle.std.proofs.lemmas.List.{get_or-set_other, get_or-replicate}
use Rattle.std.proofs.lemmas.Bool.Decides.{nat_tests}
use Rattle.std.proofs.lemmas.Bool.{cases_eq}
use Rattle.page_memory.specs.declared.words.Access.{Access}
use Rattle.page_memory.specs.declared.words.Access.TheVariants.{Fetch, Load, Store}
use Rattle.page_memory.specs.declared.recent_pages.RecentPage.{RecentPage}
use Rattle.page_memory.specs.declared.recent_pages.RecentPages.{RecentPages}
use Rattle.page_memory.specs.Words.{page_number}
use Rattle.page_memory.specs.RecentPages.{nowhere, no_recent, recent_of, with_recent, learned, unless_of, forgotten, Each}

-- where none is kept
none_of : (access : Access) (page : ℕ) → recent_of access page no_recent ≡ nowhere
none_of Fetch page = refl
none_of Load page = get_or-replicate 64 (page % 64) nowhere nowhere (omega arith)
none_of Store page = get_or-replicate 64 (page % 64) nowhere nowhere (omega arith)

pub each_none : (holds : Access → ℕ → RecentPage → Type 0) → ((access : Access) (page : ℕ) → holds access page nowhere) → Each holds no_recent
each_none holds none = λ access page. subst (holds access page) (sym (none_of access page)) (none access page)

-- what stands where a page was put
at_set : (l : List RecentPage) (i : ℕ) (recent : RecentPage) → (get_or (set l i recent) i nowhere ≡ recent) ⊎ (get_or (set l i recent) i nowhere ≡ nowhere)
at_set [] i recent = inr refl
at_set (x ∷ l) zero recent = inl refl
at_set (x ∷ l) (suc i) recent = at_set l i recent

-- what stands at a place of a list in which one was put
holds_set : (holds : RecentPage → Type 0) (l : List RecentPage) (i j : ℕ) (recent : RecentPage) → holds nowhere → holds recent → holds (get_or l j nowhere) → holds (get_or (set l i recent) j nowhere)
holds_set holds l i j recent none new was =
    elim (cases_eq j i) [
      | inl same ↦ subst (λ k. holds (get_or (set l i recent) k nowhere)) (sym same) (elim (at_set l i recent) [ inl is ↦ subst holds (sym is) new | inr is ↦ subst holds (sym is) none ])
      | inr apart ↦ subst holds (sym (get_or-set_other l i j recent nowhere apart)) was
    ]

holds_with : (holds : Access → ℕ → RecentPage → Type 0) (used : Access) (page : ℕ) (recent : RecentPage) (pages : RecentPages) → ((access : Access) (q : ℕ) → holds access q nowhere)
    → ((q : ℕ) → holds used q recent) → Each holds pages → (access : Access) (q : ℕ) → holds access q (recent_of access q (with_recent used page recent pages))
holds_with holds Fetch page recent pages none new all Fetch q = new q
holds_with holds Fetch page recent pages none new all Load q = all Load q
holds_with holds Fetch page recent pages none new all Store q = all Store q
holds_with holds Load page recent pages none new all Fetch q = all Fetch q
holds_with holds Load page recent pages none new all Load q = holds_set (holds Load q) pages.loaded (page % 64) (q % 64) recent (none Load q) (new q) (all Load q)
holds_with holds Load page recent pages none new all Store q = all Store q
holds_with holds Store page recent pages none new all Fetch q = all Fetch q
holds_with holds Store page recent pages none new all Load q = all Load q
holds_with holds Store page recent pages none new all Store q = holds_set (holds Store q) pages.stored (page % 64) (q % 64) recent (none Store q) (new q) (all Store q)

-- one more is kept
pub each_learned : (holds : Access → ℕ → RecentPage → Type 0) (used : Access) (address place : ℕ) (pages : RecentPages) → ((access : Access) (q : ℕ) → holds access q nowhere)
    → ((q : ℕ) → holds used q (record { start = address / 4096 * 4096; place = place })) → Each holds pages → Each holds (learned used address place pages)
each_learned holds used address place pages none new all = holds_with holds used (page_number address) (record { start = address / 4096 * 4096; place = place }) pages none new all

-- one is kept no more: what is left serves another page
list_forgotten : (was is : RecentPage → Type 0) (l : List RecentPage) (q page : ℕ) → is nowhere → ((recent : RecentPage) → (q * 4096 ≡ recent.start → q ≢ page) → was recent → is recent)
    → was (get_or l (q % 64) nowhere) → is (get_or (set l (page % 64) nowhere) (q % 64) nowhere)
list_forgotten was is l q page none on it =
    elim (cases_eq (q % 64) (page % 64)) [
      | inl same ↦ subst (λ k. is (get_or (set l (page % 64) nowhere) k nowhere)) (sym same) (elim (at_set l (page % 64) nowhere) [ inl e ↦ subst is (sym e) none | inr e ↦ subst is (sym e) none ])
      | inr apart ↦ subst is (sym (get_or-set_other l (page % 64) (q % 64) nowhere nowhere apart)) (on (get_or l (q % 64) nowhere) (λ e s. apart (ap (λ n. n % 64) s)) it)
    ]

one_forgotten : (was is : RecentPage → Type 0) (recent : RecentPage) (q page : ℕ) → is nowhere → ((recent : RecentPage) → (q * 4096 ≡ recent.start → q ≢ page) → was recent → is recent)
    → was recent → is (unless_of page recent)
one_forgotten was is recent q page none on it = by_test (recent.start / 4096 == page) refl
  where
    by_test : (b : Bool) → (recent.start / 4096 == page) ≡ b → is (cond b nowhere recent)
    by_test true test = none
    by_test false test =
        let other : recent.start / 4096 ≢ page = grind (arith, nat_tests) in
        on recent (λ e s. other (its e ∙ s)) it
      where
        its : q * 4096 ≡ recent.start → recent.start / 4096 ≡ q
        its e = omega arith

pub each_forgotten : (was is : Access → ℕ → RecentPage → Type 0) (page : ℕ) (pages : RecentPages) → ((access : Access) (q : ℕ) → is access q nowhere)
    → ((access : Access) (q : ℕ) (recent : RecentPage) → (q * 4096 ≡ recent.start → q ≢ page) → was access q recent → is access q recent) → Each was pages → Each is (forgotten page pages)
each_forgotten was is page pages none on all = by_access
  where
    by_access : (access : Access) (q : ℕ) → is access q (recent_of access q (forgotten page pages))
    by_access Fetch q = one_forgotten (was Fetch q) (is Fetch q) pages.fetched q page (none Fetch q) (on Fetch q) (all Fetch q)
    by_access Load q = list_forgotten (was Load q) (is Load q) pages.loaded q page (none Load q) (on Load q) (all Load q)
    by_access Store q = list_forgotten (was Store q) (is Store q) pages.stored q page (none Store q) (on Store q) (all Store q)
