-- How the counts of a cache's pages change as entries come and go.
use Rattle.std.proofs.Common.{◌≡◌, ◌≢◌, ℕ, zero, suc, ◌+◌, ◌-◌, ◌%◌, ◌<◌, ◌≤◌, ◌==◌, Bool, true, false, cond, refl, sym, ap, ◌∙◌, subst, arith, List, [], ◌∷◌, ◌++◌, drop, length, get_or, set, replicate, take, None, inl, inr}
use Rattle.std.proofs.Math.ListN.{length-set}
use Rattle.std.proofs.lemmas.List.{get_or-set_same, get_or-set_other, get_or-replicate, length-map, length-replicate}
use Rattle.std.proofs.lemmas.Bool.Decides.{nat_tests, eqb_tells}
use Rattle.tlb_core.specs.declared.translation.Translation.{Translation}
use Rattle.tlb_core.specs.Cache.{is_of_page, translation_of}
use Rattle.tlb_core.specs.Crowds.{pages_of, crowd, Counts}

-- a list of no page
pub none_counted : (counts : List ℕ) → counts ≡ replicate 256 0 → Counts counts []
unfolding crowd
none_counted counts is = record {
  long = ap length is ∙ length-replicate {A = ℕ} 256 0;
  each = λ bits within. ap (λ l. get_or l bits 0) is ∙ get_or-replicate 256 bits 0 0 within;
}

-- a crowd is no larger than its list
crowd_few : (bits : ℕ) (pages : List ℕ) → crowd bits pages ≤ length pages
unfolding crowd
crowd_few bits [] = omega arith
crowd_few bits (page ∷ pages) = by_test (page % 256 == bits) (crowd_few bits pages)
  where
    by_test : (b : Bool) → crowd bits pages ≤ length pages → cond b (suc (crowd bits pages)) (crowd bits pages) ≤ length (page ∷ pages)
    by_test true few = omega arith
    by_test false few = omega arith

-- one more page behind the others, and before them
crowd_push : (bits page : ℕ) (pages : List ℕ) → crowd bits (pages ++ page ∷ []) ≡ cond (page % 256 == bits) (suc (crowd bits pages)) (crowd bits pages)
unfolding crowd
crowd_push bits page [] = refl
crowd_push bits page (first ∷ pages) = ap (λ n. cond (first % 256 == bits) (suc n) n) (crowd_push bits page pages) ∙ both (first % 256 == bits) (page % 256 == bits)
  where
    both : (b c : Bool) → cond b (suc (cond c (suc (crowd bits pages)) (crowd bits pages))) (cond c (suc (crowd bits pages)) (crowd bits pages))
        ≡ cond c (suc (cond b (suc (crowd bits pages)) (crowd bits pages))) (cond b (suc (crowd bits pages)) (crowd bits pages))
    both true true = refl
    both true false = refl
    both false true = refl
    both false false = refl

crowd_first : (bits page : ℕ) (pages : List ℕ) → crowd bits (page ∷ pages) ≡ cond (page % 256 == bits) (suc (crowd bits pages)) (crowd bits pages)
unfolding crowd
crowd_first bits page pages = refl

module _ (counts pages : List ℕ) (page : ℕ) where
  low : page % 256 < 256
  low = omega arith

  pub comes : Counts counts pages → Counts (set counts (page % 256) (get_or counts (page % 256) 0 + 1)) (pages ++ page ∷ [])
  comes was = record {
    long = length-set counts (page % 256) (get_or counts (page % 256) 0 + 1) ∙ was.long;
    each = λ bits within.
        elim (eqb_tells (page % 256) bits) [
          | inl same ↦
              let e : get_or counts (page % 256) 0 ≡ crowd bits pages = was.each (page % 256) low ∙ ap (λ b. crowd b pages) same.1 in
              let more : get_or counts (page % 256) 0 + 1 ≡ suc (crowd bits pages) = omega arith in
              let there : page % 256 < length counts = let long = was.long in omega arith in
              ap (λ n. get_or (set counts (page % 256) (get_or counts (page % 256) 0 + 1)) n 0) (sym same.1) ∙ get_or-set_same counts (page % 256) (get_or counts (page % 256) 0 + 1) 0 there ∙ more
              ∙ sym (crowd_push bits page pages ∙ ap (λ b. cond b (suc (crowd bits pages)) (crowd bits pages)) same.0)
          | inr other ↦
              get_or-set_other counts (page % 256) bits (get_or counts (page % 256) 0 + 1) 0 (λ e. other.1 (sym e)) ∙ was.each bits within
              ∙ sym (crowd_push bits page pages ∙ ap (λ b. cond b (suc (crowd bits pages)) (crowd bits pages)) other.0)
        ];
  }

  -- what stands for the first page counts it
  first_counted : Counts counts (page ∷ pages) → get_or counts (page % 256) 0 ≡ suc (crowd (page % 256) pages)
  first_counted was =
      let test : (page % 256 == page % 256) ≡ true = grind (arith, nat_tests) in
      was.each (page % 256) low ∙ crowd_first (page % 256) page pages ∙ ap (λ b. cond b (suc (crowd (page % 256) pages)) (crowd (page % 256) pages)) test

  pub first_some : Counts counts (page ∷ pages) → 0 < get_or counts (page % 256) 0
  first_some was = let e = first_counted was in omega arith

  pub goes : Counts counts (page ∷ pages) → Counts (set counts (page % 256) (get_or counts (page % 256) 0 - 1)) pages
  goes was = record {
    long = length-set counts (page % 256) (get_or counts (page % 256) 0 - 1) ∙ was.long;
    each = λ bits within.
        elim (eqb_tells (page % 256) bits) [
          | inl same ↦
              let e = first_counted was in
              let less : get_or counts (page % 256) 0 - 1 ≡ crowd (page % 256) pages = omega arith in
              let there : page % 256 < length counts = let long = was.long in omega arith in
              ap (λ n. get_or (set counts (page % 256) (get_or counts (page % 256) 0 - 1)) n 0) (sym same.1) ∙ get_or-set_same counts (page % 256) (get_or counts (page % 256) 0 - 1) 0 there ∙ less
              ∙ ap (λ b. crowd b pages) same.1
          | inr other ↦
              get_or-set_other counts (page % 256) bits (get_or counts (page % 256) 0 - 1) 0 (λ e. other.1 (sym e)) ∙ was.each bits within ∙ crowd_first bits page pages
              ∙ ap (λ b. cond b (suc (crowd bits pages)) (crowd bits pages)) other.0
        ];
  }

  -- a short list has small counts
  pub counted_few : Counts counts pages → length pages ≤ 16 → get_or counts (page % 256) 0 < 255
  counted_few was short = let e = was.each (page % 256) low in let few = crowd_few (page % 256) pages in omega arith

-- a page of whose low bits there is none has no entry
none_crowded : (page : ℕ) (cache : List Translation) → crowd (page % 256) (pages_of cache) ≡ 0 → translation_of page cache ≡ None
unfolding crowd
none_crowded page [] none = refl
none_crowded page (x ∷ xs) none =
    elim (eqb_tells (x.page % 256) (page % 256)) [
      | inl same ↦ let clash = sym (ap (λ b. cond b (suc (crowd (page % 256) (pages_of xs))) (crowd (page % 256) (pages_of xs))) same.0) ∙ none in cc
      | inr other ↦
          let rest : crowd (page % 256) (pages_of xs) ≡ 0 = sym (ap (λ b. cond b (suc (crowd (page % 256) (pages_of xs))) (crowd (page % 256) (pages_of xs))) other.0) ∙ none in
          let apart : x.page ≢ page = λ e. other.1 (ap (λ n. n % 256) e) in
          let test : is_of_page page x ≡ false = grind (arith, nat_tests) in
          rw test (none_crowded page xs rest)
    ]

pub lacked_nowhere : (counts : List ℕ) (cache : List Translation) (page : ℕ) → Counts counts (pages_of cache) → (get_or counts (page % 256) 0 == 0) ≡ true → translation_of page cache ≡ None
lacked_nowhere counts cache page was none =
    let low : page % 256 < 256 = omega arith in
    let zeros : get_or counts (page % 256) 0 ≡ 0 = grind (arith, nat_tests) in
    none_crowded page cache (sym (was.each (page % 256) low) ∙ zeros)

-- ---- the pages of entries

pages_push : (xs : List Translation) (e : Translation) → pages_of (xs ++ e ∷ []) ≡ pages_of xs ++ e.page ∷ []
pages_push [] e = refl
pages_push (x ∷ xs) e = ap (λ l. x.page ∷ l) (pages_push xs e)

pages_more : (xs : List Translation) (i : ℕ) (d : Translation) → i < length xs → pages_of (take i xs) ++ (get_or xs i d).page ∷ [] ≡ pages_of (take (suc i) xs)
pages_more [] i d within = absurd (omega arith)
pages_more (x ∷ xs) zero d within = refl
pages_more (x ∷ xs) (suc i) d within = ap (λ l. x.page ∷ l) (pages_more xs i d (omega arith))

pages_first : (xs : List Translation) (d : Translation) → 0 < length xs → pages_of xs ≡ (get_or xs 0 d).page ∷ pages_of (drop 1 xs)
pages_first [] d some = absurd (omega arith)
pages_first (x ∷ xs) d some = refl

short_pages : (xs : List Translation) → length xs ≤ 16 → length (pages_of xs) ≤ 16
short_pages xs short = let same = length-map xs (λ (e : Translation). e.page) in omega arith

-- an entry is counted behind the others
pub counted_behind : (counts : List ℕ) (xs ys : List Translation) (e : Translation) (counts' : List ℕ) → Counts counts (pages_of xs) → ys ≡ xs ++ e ∷ []
    → counts' ≡ set counts (e.page % 256) (get_or counts (e.page % 256) 0 + 1) → Counts counts' (pages_of ys)
counted_behind counts xs ys e counts' was behind more =
    rw (more, behind) (subst (λ ps. Counts (set counts (e.page % 256) (get_or counts (e.page % 256) 0 + 1)) ps) (sym (pages_push xs e)) (comes counts (pages_of xs) e.page was))

pub counted_short : (counts : List ℕ) (xs : List Translation) (page : ℕ) → Counts counts (pages_of xs) → length xs ≤ 16 → get_or counts (page % 256) 0 < 255
counted_short counts xs page was short = counted_few counts (pages_of xs) page was (short_pages xs short)

-- of so many entries, one after the other
pub counted_more : (counts : List ℕ) (xs : List Translation) (i : ℕ) (d : Translation) (counts' : List ℕ) → i < length xs → Counts counts (pages_of (take i xs))
    → counts' ≡ set counts ((get_or xs i d).page % 256) (get_or counts ((get_or xs i d).page % 256) 0 + 1) → Counts counts' (pages_of (take (i + 1) xs))
counted_more counts xs i d counts' within was more =
    let next : suc i ≡ i + 1 = omega arith in
    rw more (subst (λ ps. Counts (set counts ((get_or xs i d).page % 256) (get_or counts ((get_or xs i d).page % 256) 0 + 1)) ps) (pages_more xs i d within ∙ ap (λ n. pages_of (take n xs)) next) (comes counts (pages_of (take i xs)) (get_or xs i d).page was))

pub counted_taken : (counts : List ℕ) (xs : List Translation) (i page : ℕ) → length xs ≤ 16 → Counts counts (pages_of (take i xs)) → get_or counts (page % 256) 0 < 255
counted_taken counts xs i page short was = counted_short counts (take i xs) page was (let few : length (take i xs) ≤ length xs = taken_fewer i xs in omega arith)
  where
    taken_fewer : (n : ℕ) (l : List Translation) → length (take n l) ≤ length l
    taken_fewer zero l = omega arith
    taken_fewer (suc n) [] = omega arith
    taken_fewer (suc n) (x ∷ l) = let rest = taken_fewer n l in omega arith

-- the oldest goes
pub oldest_some : (counts : List ℕ) (xs : List Translation) (oldest : Translation) → 0 < length xs → oldest ≡ get_or xs 0 oldest → Counts counts (pages_of xs) → 0 < get_or counts (oldest.page % 256) 0
oldest_some counts xs oldest some is was =
    let first : pages_of xs ≡ oldest.page ∷ pages_of (drop 1 xs) = pages_first xs oldest some ∙ ap (λ (x : Translation). x.page ∷ pages_of (drop 1 xs)) (sym is) in
    first_some counts (pages_of (drop 1 xs)) oldest.page (subst (λ ps. Counts counts ps) first was)

pub oldest_gone : (counts : List ℕ) (xs ys : List Translation) (oldest : Translation) (counts' : List ℕ) → 0 < length xs → oldest ≡ get_or xs 0 oldest → ys ≡ drop 1 xs → Counts counts (pages_of xs)
    → counts' ≡ set counts (oldest.page % 256) (get_or counts (oldest.page % 256) 0 - 1) → Counts counts' (pages_of ys)
oldest_gone counts xs ys oldest counts' some is left was less =
    let first : pages_of xs ≡ oldest.page ∷ pages_of (drop 1 xs) = pages_first xs oldest some ∙ ap (λ (x : Translation). x.page ∷ pages_of (drop 1 xs)) (sym is) in
    rw (less, left) (goes counts (pages_of (drop 1 xs)) oldest.page (subst (λ ps. Counts counts ps) first was))

-- the same pages are counted the same
pub counted_same : (counts : List ℕ) (xs ys : List Translation) → pages_of ys ≡ pages_of xs → Counts counts (pages_of xs) → Counts counts (pages_of ys)
counted_same counts xs ys same was = subst (λ ps. Counts counts ps) (sym same) was
