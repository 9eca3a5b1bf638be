-- What an audit counts comes to, page by page: the list has a page as a resident one exactly where it is resident.
use Rattle.std.proofs.Common.{◌≡◌, ℕ, zero, suc, ◌+◌, ◌≤◌, ◌==◌, Bool, true, false, ◌&&◌, List, [], ◌∷◌, Option, Some, slice_get, inl, inr, refl, sym, ap, ◌∙◌, arith, subst}
use Rattle.std.specs.Prelude.{◌⊎◌}
use Rattle.std.proofs.lemmas.Bool.Decides.{eqb_tells}
use borrow.Author.Tests.{eqb-true}
use Rattle.clock_policy.specs.declared.key.Key.{Key}
use Rattle.clock_policy.specs.declared.entry.Entry.{Entry}
use Rattle.clock_policy.proofs.AdmitLaws.{residents_once}
use Rattle.clock_policy.specs.ClockPro.{number}
use Rattle.clock_policy.specs.Lawful.{Lawful}
use Rattle.clock_policy.specs.Residents.{residents, in_frame, is_resident_that, is_key}
use Rattle.paged_memory.proofs.access_laws.AmongLaws.{fewer_residents, one_resident, no_residents}
use Rattle.paged_memory.specs.moves.Stages.{is_resident_stage}
use Rattle.paged_memory.specs.Whole.{residents_among}
use Rattle.space_core.specs.StandsFor.{SpaceValue}
use Rattle.machine_sides.specs.Admitting.{is_resident_at}
use Rattle.machine_sides.specs.Agreeing.{Agree}
use Rattle.machine_sides.specs.Together.{residents_in, key_of}
use Rattle.machine_sides.specs.Held.{is_resident_of}
use Rattle.machine_sides.proofs.StageLaws.{stage_below, stage_passes}
use Rattle.pager_core.specs.Pager.{PagerState}
use Rattle.machine_sides.specs.Auditing.{total, resident_pages, IsListed, AreListed, AreSound, AgreeEverywhere}
use Rattle.machine_sides.proofs.ApartLaws.{Numbered, no_other}
use Rattle.machine_sides.proofs.AuditLaws.{listed_at}
use Rattle.machine_sides.proofs.EntryLaws.{both, together, less_numbers, one_missing}

equal : (n m : ℕ) → n ≡ m → (n == m) ≡ true
equal n m same = by_tells (eqb_tells n m)
  where
    by_tells : (((n == m) ≡ true) × (n ≡ m)) ⊎ (((n == m) ≡ false) × ((n ≡ m) → ⊥)) → (n == m) ≡ true
    by_tells (inl h) = h.0
    by_tells (inr h) = absurd (h.1 same)

module _ {S : Type 0} where
  -- ---- one process

  module _ (space : SpaceValue S) where
    -- how many resident pages pass by their numbers
    abbrev count : (ℕ → Bool) → ℕ
    count test = residents_among space.memory test

    fewer : (few many : ℕ → Bool) (v : ℕ) → ((w : ℕ) → few w ≡ true → many w ≡ true) → is_resident_at space v ≡ true → few v ≡ false → many v ≡ true → count few + 1 ≤ count many
    fewer few many v all is not passes =
        let there = stage_passes space is_resident_stage v refl is in
        fewer_residents space.memory few many v all there.0 there.1 not passes

    -- ---- the pages of a key

    -- whether a page's number is a key's
    abbrev of_key : Key → ℕ → Bool
    of_key key number = is_key key (key_of space.memory.process number)

    same_number : (key : Key) (number : ℕ) → of_key key number ≡ true → number ≡ key.vpn
    same_number key number h = eqb-true number key.vpn (both (space.memory.process == key.process) (number == key.vpn) h).1

    -- a resident page is one of its key
    counts_one : (key : Key) → space.memory.process ≡ key.process → is_resident_at space key.vpn ≡ true → residents_in space (is_key key) ≡ 1
    unfolding residents_in
    counts_one key own is =
        let there = stage_passes space is_resident_stage key.vpn refl is in
        one_resident space.memory (of_key key) key.vpn (same_number key) there.0 there.1
        (together (space.memory.process == key.process) (key.vpn == key.vpn) (equal space.memory.process key.process own) (equal key.vpn key.vpn refl))

    -- another is none
    counts_none : (key : Key) → is_resident_at space key.vpn ≡ false → residents_in space (is_key key) ≡ 0
    unfolding residents_in
    counts_none key not =
        no_residents space.memory (of_key key) (λ number small is own.
        let here : is_resident_at space number ≡ true = ap is_resident_stage (stage_below space number small) ∙ is in
        let there : is_resident_at space key.vpn ≡ true = ap (is_resident_at space) (sym (same_number key number own)) ∙ here in
        absurd (cc))

  -- ---- all processes

  numbered : (pager : PagerState) (n : ℕ) (xs : List (SpaceValue S)) → AreListed pager n xs → Numbered (λ (space : SpaceValue S). space.memory.process) (λ space v. is_resident_at space v) n xs
  unfolding AreListed Numbered
  numbered pager n [] each = tt
  numbered pager n (x ∷ xs) each = (each.0.process, numbered pager (n + 1) xs each.1)

  totals : (pager : PagerState) (n : ℕ) (xs : List (SpaceValue S)) → AreListed pager n xs
      → total (λ (space : SpaceValue S). number (is_resident_that (is_resident_of space)) pager.list.entries) xs ≡ total resident_pages xs
  unfolding AreListed total residents
  totals pager n [] each = refl
  totals pager n (x ∷ xs) each = let one = each.0.pages in let rest = totals pager (n + 1) xs each.1 in omega (arith, one, rest)

  -- a resident page is listed
  listed_once : (pager : PagerState) (space : SpaceValue S) (key : Key) → Lawful pager.list → IsListed pager key.process space → is_resident_at space key.vpn ≡ true
      → residents pager.list (is_key key) ≡ 1
  unfolding residents residents_in
  listed_once pager space key lawful listed is = by_count (number (is_resident_that (is_key key)) es) refl
    where
      es : List Entry
      es = pager.list.entries

      few : number (is_resident_that (is_key key)) es ≤ 1
      few = residents_once key pager.list lawful

      by_count : (n : ℕ) → number (is_resident_that (is_key key)) es ≡ n → number (is_resident_that (is_key key)) es ≡ 1
      by_count zero none =
          let missing = one_missing space.memory.process (is_resident_at space) (count space) (fewer space) es key lawful.distinct (sym listed.process) is none in
          let less = less_numbers (is_resident_that (is_resident_of space)) (λ e. in_frame e.kind && (((e.key.process == space.memory.process) && is_resident_at space e.key.vpn) && true)) es (λ e h. also (in_frame e.kind) (is_resident_of space e.key) h) in
          let pages = listed.pages in
          absurd (omega (arith, missing, less, pages))
        where
          also : (f b : Bool) → f && b ≡ true → f && (b && true) ≡ true
          also true true h = refl
          also true false h = cc
          also false b h = cc
      by_count (suc n) some = omega (arith, few, some)

  -- another is not
  listed_none : (pager : PagerState) (processes : List (SpaceValue S)) (number : ℕ) (space : SpaceValue S) (vpn : ℕ) → AreSound pager processes → slice_get processes number ≡ Some space
      → is_resident_at space vpn ≡ false → residents pager.list (is_key (key_of number vpn)) ≡ 0
  unfolding residents
  listed_none pager processes number space vpn sound found not =
      no_other (λ (space : SpaceValue S). space.memory.process) (λ space v. is_resident_at space v) (key_of number vpn) pager.list.entries processes
      (numbered pager 0 processes sound.each) avoid (let all = sound.all in let same = totals pager 0 processes sound.each in omega (arith, all, same))
    where
      avoid : (i : ℕ) (x : SpaceValue S) → slice_get processes i ≡ Some x → (number == x.memory.process) && is_resident_at x vpn ≡ false
      avoid i x at = by_tells (eqb_tells number x.memory.process)
        where
          by_tells : (((number == x.memory.process) ≡ true) × (number ≡ x.memory.process)) ⊎ (((number == x.memory.process) ≡ false) × ((number ≡ x.memory.process) → ⊥))
              → (number == x.memory.process) && is_resident_at x vpn ≡ false
          by_tells (inr apart) = ap (λ b. b && is_resident_at x vpn) apart.0
          by_tells (inl same) =
              let place : x.memory.process ≡ 0 + i = (listed_at pager 0 processes i x sound.each at).process in
              let e = same.1 in
              let here : number ≡ i = omega (arith, place, e) in
              let one : x ≡ space = same_item (slice_get processes number) x space (ap (slice_get processes) here ∙ at) found in
              ap (λ b. b && is_resident_at x vpn) same.0 ∙ ap (λ (h : SpaceValue S). is_resident_at h vpn) one ∙ not
            where
              same_item : (o : Option (SpaceValue S)) (a b : SpaceValue S) → o ≡ Some a → o ≡ Some b → a ≡ b
              same_item o a b h k = cc

  pub everywhere : (pager : PagerState) (processes : List (SpaceValue S)) → Lawful pager.list → AreSound pager processes → AgreeEverywhere pager processes
  everywhere pager processes lawful sound number space found vpn = by_page (is_resident_at space vpn) refl
    where
      listed : IsListed pager number space
      listed = subst (λ m. IsListed pager m space) (omega arith) (listed_at pager 0 processes number space sound.each found)

      by_page : (b : Bool) → is_resident_at space vpn ≡ b → Agree pager space (key_of number vpn)
      by_page true is = listed_once pager space (key_of number vpn) lawful listed is ∙ sym (counts_one space (key_of number vpn) listed.process is)
      by_page false is = listed_none pager processes number space vpn sound found is ∙ sym (counts_none space (key_of number vpn) is)
