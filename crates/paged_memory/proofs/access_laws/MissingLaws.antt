-- Laws of what an access of a hart leaves, from below.
use Rattle.std.specs.Prelude.{◌≡◌, ℕ, ◌^◌, ◌<◌, ◌==◌, ◌||◌, Bool, true, false, List, [], ◌∷◌, refl}
use Rattle.std.proofs.Common.{ap, eq-eqb, inl, inr}
use Rattle.std.proofs.lemmas.List.Elements.{All-weaker}
use Rattle.page_memory.specs.declared.words.Access.{Access}
use Rattle.rv_exec.specs.Leaves.{MissedBefore}
use Rattle.sv32_table.specs.EntryAt.{entry_at}
use Rattle.tlb_core.specs.declared.translation.Translation.{Translation}
use Rattle.tlb_core.specs.Cache.{Hits}
use Rattle.paged_memory.specs.access.HartMemory.{KeepsAccess, KeepsPages}
use Rattle.paged_memory.proofs.access_laws.HartMemoryLaws.{by_seen}
use Rattle.paged_memory.specs.access.Missing.{is_among, MissesBehind, TakesIn, TakesSince}
use Rattle.paged_memory.specs.access.OwnCache.{FilledFrom, MayFill}
use Rattle.paged_memory.proofs.access_laws.OwnCacheLaws.{filled_itself, filled_on, filled_page}
use Rattle.paged_memory.specs.Paged.{PagedValue, seen_at}
use Rattle.paged_memory.specs.Seen.{is_dirty, loose_seen}

-- ---- pages that were accessed

among_first : (first : ℕ) (pages : List ℕ) → is_among (first ∷ pages) first ≡ true
unfolding is_among
among_first first pages = ap (λ b. b || is_among pages first) (eq-eqb first first refl)

or_right : (a b : Bool) → b ≡ true → (a || b) ≡ true
or_right true b is = refl
or_right false b is = is

among_behind : (first : ℕ) (pages : List ℕ) (page : ℕ) → is_among pages page ≡ true → is_among (first ∷ pages) page ≡ true
unfolding is_among
among_behind first pages page is = or_right (page == first) (is_among pages page) is

filled_weaker : (test test' : ℕ → Bool) (old new : List Translation) → ((page : ℕ) → test page ≡ true → test' page ≡ true) → FilledFrom test old new → FilledFrom test' old new
filled_weaker test test' old new more was = record {
  more = was.more;
  of_pages = All-weaker (λ (t : Translation). test t.page ≡ true) (λ (t : Translation). test' t.page ≡ true) (λ t is. more t.page is) was.more was.of_pages;
  live = was.live;
  missed = was.missed;
  is = was.is;
}

-- what is missed behind an access to a page was missed before, behind that page as well
pub missed_behind : (number : ℕ) (tables tables' : List (List ℕ)) (old new : List Translation) → MayFill number tables tables' old new → MissedBefore (MissesBehind old) (MissesBehind new) number
missed_behind number tables tables' old new fills = λ pages access page missed. record {
  later = missed.later;
  filled = filled_on (is_among (number ∷ pages)) old new missed.later
      (filled_page (is_among (number ∷ pages)) number tables tables' old new (among_first number pages) fills)
      (filled_weaker (is_among pages) (is_among (number ∷ pages)) new missed.later (among_behind number pages) missed.filled);
  none = missed.none;
}

pub missed_now : (cache : List Translation) (access : Access) (page : ℕ) → ((place : ℕ) → ¬ Hits cache access page place) → MissesBehind cache [] access page
missed_now cache access page none = record { later = cache; filled = filled_itself (is_among []) cache; none = none }

-- ---- a page goes on taking stores

or_on : (d d' l l' : Bool) → (d ≡ true → d' ≡ true) → (l ≡ true → l' ≡ true) → (d || l) ≡ true → (d' || l') ≡ true
or_on true d' l l' dirty loose is = ap (λ b. b || l') (dirty refl)
or_on false true l l' dirty loose is = refl
or_on false false l l' dirty loose is = loose is

module _ {S : Type 0} where
  pub takes_with : (page : ℕ) (old new : PagedValue S) → KeepsPages old.pages new.pages
      → ((page : ℕ) → page < 2 ^ 20 → is_dirty (seen_at old.pages page) (entry_at old.tables page) ≡ true → is_dirty (seen_at new.pages page) (entry_at new.tables page) ≡ true)
      → TakesIn old page → TakesIn new page
  takes_with page old new pages changed (small, takes) = (
    small,
    or_on (is_dirty (seen_at old.pages page) (entry_at old.tables page)) (is_dirty (seen_at new.pages page) (entry_at new.tables page)) (loose_seen (seen_at old.pages page)) (loose_seen (seen_at new.pages page))
        (changed page small) (by_seen (λ s s'. loose_seen s ≡ true → loose_seen s' ≡ true) old.pages new.pages pages page (λ s is. is) (λ no. cc)) takes,
  )

  pub takes_kept : (hart page : ℕ) (old new : PagedValue S) → KeepsAccess hart old new → TakesIn old page → TakesIn new page
  takes_kept hart page old new kept taken = takes_with page old new kept.pages kept.changed taken

  pub since_kept : (hart page : ℕ) (opening : List Translation) (old new : PagedValue S) → KeepsAccess hart old new → TakesSince old opening page → TakesSince new opening page
  since_kept hart page opening old new kept taken = (
    takes_kept hart page old new kept taken.0,
    elim taken.1 [ inl served ↦ inl served | inr dirty ↦ inr (kept.changed page taken.0.0 dirty) ],
  )
