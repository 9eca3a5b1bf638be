-- LRU with every number of frames at once: proofs.
use Rattle.std.specs.Prelude.{◌≡◌, ℕ, zero, suc, ◌+◌, ◌-◌, ◌<◌, ◌≤◌, ◌==◌, ◌&&◌, Bool, true, false, cond, nat_lt, List, [], ◌∷◌, ◌++◌, take, drop, length, slice_index_or, slice_set, ⊤, refl}
use Rattle.std.proofs.Common.{arith, sym, ap, subst, ◌^◌, ◌∙◌}
use Rattle.std.proofs.lemmas.Bool.Decides.{nat_tests}
use Rattle.clock_policy.specs.declared.key.Key.{Key}
use Rattle.page_policies.specs.Strings.{is_page, holds, without, misses}
use Rattle.page_policies.specs.Queues.{lru, lru_misses}
use Rattle.page_policies.proofs.QueueLaws.{same}
use Rattle.page_policies.specs.Ordered.{to_front}
use Rattle.page_policies.proofs.InclusionLaws.{cut_step, nothing}
use Rattle.page_policies.proofs.NumberLaws.{less, most}
use Rattle.whole_strings.specs.LruDepths.{hits_within, IsLruCurve, noted, tails, referred}
use Rattle.whole_strings.specs.PageCounts.{first_uses, page_count}

-- how many pages are before it; where it is nowhere, how many there are
abbrev pub depth : Key → List Key → ℕ
depth p [] = 0
depth p (q ∷ qs) = cond (is_page p q) 0 (suc (depth p qs))

-- what was counted and what is to come make what LRU misses of a whole string, with any number of frames
abbrev pub CountsLru : ℕ → List ℕ → List Key → List Key → List Key → Type 0
CountsLru seen counts stack rest string = (m : ℕ) → lru_misses m string + hits_within m counts ≡ seen + misses holds (lru m) (take m stack) rest

next : (d m : ℕ) → nat_lt d m ≡ nat_lt (suc d) (suc m)
next d m = grind (arith, nat_tests)

first : (m : ℕ) → nat_lt 0 (suc m) ≡ true
first m = grind (arith, nat_tests)

pub noted_within : (m d : ℕ) (counts : List ℕ) → d < length counts → hits_within m (noted d counts) ≡ hits_within m counts + cond (nat_lt d m) 1 0
noted_within zero d counts h = none d
  where
    none : (d : ℕ) → 0 ≡ 0 + cond (nat_lt d 0) 1 0
    none d = grind (arith, nat_tests)
noted_within (suc m) d [] h = absurd (omega (arith, h))
noted_within (suc m) zero (n ∷ ns) h = let e : ◌≡◌ {A = ℕ} (cond (nat_lt 0 (suc m)) 1 0) 1 = ap (λ (b : Bool). let k : ℕ = cond b 1 0 in k) (first m) in omega (arith, e)
noted_within (suc m) (suc d) (n ∷ ns) h =
    let later : hits_within m (noted d ns) ≡ hits_within m ns + cond (nat_lt d m) 1 0 = noted_within m d ns (omega (arith, h)) in
    let e : ◌≡◌ {A = ℕ} (cond (nat_lt d m) 1 0) (cond (nat_lt (suc d) (suc m)) 1 0) = ap (λ (b : Bool). let k : ℕ = cond b 1 0 in k) (next d m) in
    omega (arith, later, e)

pub new_within : (m : ℕ) (counts : List ℕ) → hits_within m (counts ++ 0 ∷ []) ≡ hits_within m counts
new_within zero counts = refl
new_within (suc zero) [] = refl
new_within (suc (suc m)) [] = refl
new_within (suc m) (n ∷ ns) = ap (λ (k : ℕ). n + k) (new_within m ns)

-- whether a reference hits
pub hit_depth : (m : ℕ) (p : Key) (s : List Key) → depth p s < length s → holds p (take m s) ≡ nat_lt (depth p s) m
hit_depth m p [] h = absurd (omega (arith, h))
hit_depth zero p (q ∷ qs) h = none (depth p (q ∷ qs))
  where
    none : (d : ℕ) → false ≡ nat_lt d 0
    none d = grind (arith, nat_tests)
hit_depth (suc m) p (q ∷ qs) h = elim (is_page p q) as (λ b. cond b 0 (suc (depth p qs)) < suc (length qs) → cond b true (holds p (take m qs)) ≡ nat_lt (cond b 0 (suc (depth p qs))) (suc m)) [
  | true ↦ λ g. sym (first m)
  | false ↦ λ g. hit_depth m p qs (omega (arith, g)) ∙ next (depth p qs) m
] h

-- where there is no such page, no number of frames has it
pub cold_depth : (m : ℕ) (p : Key) (s : List Key) → length s ≤ depth p s → holds p (take m s) ≡ false
cold_depth zero p s h = refl
cold_depth (suc m) p [] h = refl
cold_depth (suc m) p (q ∷ qs) h = elim (is_page p q) as (λ b. suc (length qs) ≤ cond b 0 (suc (depth p qs)) → cond b true (holds p (take m qs)) ≡ false) [
  | true ↦ λ g. absurd (omega (arith, g))
  | false ↦ λ g. cold_depth m p qs (omega (arith, g))
] h

pub cold_without : (p : Key) (s : List Key) → length s ≤ depth p s → without p s ≡ s
cold_without p [] h = refl
cold_without p (q ∷ qs) h = elim (is_page p q) as (λ b. suc (length qs) ≤ cond b 0 (suc (depth p qs)) → cond b qs (q ∷ without p qs) ≡ q ∷ qs) [
  | true ↦ λ g. absurd (omega (arith, g))
  | false ↦ λ g. ap (λ (l : List Key). q ∷ l) (cold_without p qs (omega (arith, g)))
] h

-- One reference: what it adds to the hits with m frames, and to the references.

flip : (b : Bool) → ◌≡◌ {A = ℕ} (cond b 1 0 + cond b 0 1) 1
flip true = refl
flip false = refl

pub counts_hit : (seen : ℕ) (counts : List ℕ) (p : Key) (stack rest string : List Key) → depth p stack < length stack → length counts ≡ length stack →
    CountsLru seen counts stack (p ∷ rest) string → CountsLru (seen + 1) (noted (depth p stack) counts) (to_front p stack) rest string
counts_hit seen counts p stack rest string h size before m =
    let old : lru_misses m string + hits_within m counts ≡ seen + (cond (holds p (take m stack)) 0 1 + misses holds (lru m) (lru m p (take m stack)) rest) = before m in
    let cut : misses holds (lru m) (lru m p (take m stack)) rest ≡ misses holds (lru m) (take m (to_front p stack)) rest = ap (λ (l : List Key). misses holds (lru m) l rest) (cut_step m p stack) in
    let hit : ◌≡◌ {A = ℕ} (cond (holds p (take m stack)) 0 1) (cond (nat_lt (depth p stack) m) 0 1) = ap (λ (b : Bool). let n : ℕ = cond b 0 1 in n) (hit_depth m p stack h) in
    let more : hits_within m (noted (depth p stack) counts) ≡ hits_within m counts + cond (nat_lt (depth p stack) m) 1 0 = noted_within m (depth p stack) counts (omega (arith, h, size)) in
    let one : ◌≡◌ {A = ℕ} (cond (nat_lt (depth p stack) m) 1 0 + cond (nat_lt (depth p stack) m) 0 1) 1 = flip (nat_lt (depth p stack) m) in
    omega (arith, old, cut, hit, more, one)

pub counts_cold : (seen : ℕ) (counts : List ℕ) (p : Key) (stack rest string : List Key) → length stack ≤ depth p stack →
    CountsLru seen counts stack (p ∷ rest) string → CountsLru (seen + 1) (counts ++ 0 ∷ []) (p ∷ stack) rest string
counts_cold seen counts p stack rest string h before m =
    let old : lru_misses m string + hits_within m counts ≡ seen + (cond (holds p (take m stack)) 0 1 + misses holds (lru m) (lru m p (take m stack)) rest) = before m in
    let cut : misses holds (lru m) (lru m p (take m stack)) rest ≡ misses holds (lru m) (take m (p ∷ without p stack)) rest = ap (λ (l : List Key). misses holds (lru m) l rest) (cut_step m p stack) in
    let all : misses holds (lru m) (take m (p ∷ without p stack)) rest ≡ misses holds (lru m) (take m (p ∷ stack)) rest = ap (λ (l : List Key). misses holds (lru m) (take m (p ∷ l)) rest) (cold_without p stack h) in
    let hit : ◌≡◌ {A = ℕ} (cond (holds p (take m stack)) 0 1) 1 = ap (λ (b : Bool). let n : ℕ = cond b 0 1 in n) (cold_depth m p stack h) in
    let more : hits_within m (counts ++ 0 ∷ []) ≡ hits_within m counts = new_within m counts in
    omega (arith, old, cut, all, hit, more)

pub counts_open : (string : List Key) → CountsLru 0 [] [] string string
unfolding lru_misses
counts_open string m =
    let none : hits_within m [] ≡ 0 = no_hits m in
    let empty : misses holds (lru m) (take m []) string ≡ misses holds (lru m) [] string = ap (λ (l : List Key). misses holds (lru m) l string) (nothing m) in
    omega (arith, none, empty)
  where
    no_hits : (m : ℕ) → hits_within m [] ≡ 0
    no_hits zero = refl
    no_hits (suc m) = refl

-- at the end
pub counts_end : (m n : ℕ) (counts : List ℕ) (stack string : List Key) → CountsLru n counts stack [] string → n - hits_within m counts ≡ lru_misses m string
counts_end m n counts stack string all = let e : lru_misses m string + hits_within m counts ≡ n + 0 = all m in omega (arith, e)

-- The pages that were seen are those of the stack.

pub flip_page : (p q : Key) → is_page p q ≡ is_page q p
flip_page p q = two (p.process == q.process) (q.process == p.process) (p.vpn == q.vpn) (q.vpn == p.vpn) (flip p.process q.process) (flip p.vpn q.vpn)
  where
    flip : (a b : ℕ) → (a == b) ≡ (b == a)
    flip a b = grind (arith, nat_tests)

    two : (a b c d : Bool) → a ≡ b → c ≡ d → (a && c) ≡ (b && d)
    two a b c d e f = rw (e, f) refl

-- only what was seen matters
pub seen_alike : (string : List Key) (f g : Key → Bool) → ((q : Key) → f q ≡ g q) → first_uses f string ≡ first_uses g string
seen_alike [] f g h = refl
seen_alike (p ∷ ps) f g h =
    let rest : first_uses (λ q. cond (is_page p q) true (f q)) ps ≡ first_uses (λ q. cond (is_page p q) true (g q)) ps =
    seen_alike ps (λ q. cond (is_page p q) true (f q)) (λ q. cond (is_page p q) true (g q)) (λ q. ap (λ b. cond (is_page p q) true b) (h q)) in
    rw (h p) (rw rest refl)

depth_holds : (p : Key) (s : List Key) → holds p s ≡ nat_lt (depth p s) (length s)
depth_holds p [] = refl
depth_holds p (q ∷ qs) = elim (is_page p q) as (λ b. cond b true (holds p qs) ≡ nat_lt (cond b 0 (suc (depth p qs))) (suc (length qs))) [
  | true ↦ sym (first (length qs))
  | false ↦ depth_holds p qs ∙ next (depth p qs) (length qs)
]

others_held : (p q : Key) (s : List Key) → is_page q p ≡ false → holds q (without p s) ≡ holds q s
others_held p q [] h = refl
others_held p q (r ∷ rs) h = elim (is_page p r) as (λ b. is_page p r ≡ b → holds q (cond b rs (r ∷ without p rs)) ≡ cond (is_page q r) true (holds q rs)) [
  | true ↦ λ is. sym (ap (λ (b : Bool). cond b true (holds q rs)) (ap (is_page q) (sym (same p r is)) ∙ h))
  | false ↦ λ is. ap (λ (b : Bool). cond (is_page q r) true b) (others_held p q rs h)
] refl

front_held : (p q : Key) (s : List Key) → holds q (to_front p s) ≡ cond (is_page p q) true (holds q s)
front_held p q s = elim (is_page q p) as (λ b. is_page q p ≡ b → cond b true (holds q (without p s)) ≡ cond b true (holds q s)) [
  | true ↦ λ is. refl
  | false ↦ λ is. others_held p q s is
] refl ∙ ap (λ (b : Bool). cond b true (holds q s)) (flip_page q p)

add_zero : (n : ℕ) → n + 0 ≡ n
add_zero n = omega arith

pages_on : (b : Bool) (p : Key) (stack rest string : List Key) → holds p stack ≡ b → length (to_front p stack) ≡ length stack + cond b 0 1
    → length stack + first_uses (λ q. holds q stack) (p ∷ rest) ≡ page_count string → length (to_front p stack) + first_uses (λ q. holds q (to_front p stack)) rest ≡ page_count string
pages_on b p stack rest string there more before =
    let old : length stack + (cond (holds p stack) 0 1 + first_uses (λ q. cond (is_page p q) true (holds q stack)) rest) ≡ page_count string = before in
    let new : first_uses (λ q. holds q (to_front p stack)) rest ≡ first_uses (λ q. cond (is_page p q) true (holds q stack)) rest =
    seen_alike rest (λ q. holds q (to_front p stack)) (λ q. cond (is_page p q) true (holds q stack)) (λ q. front_held p q stack) in
    let one : ◌≡◌ {A = ℕ} (cond (holds p stack) 0 1) (cond b 0 1) = ap (λ (c : Bool). let n : ℕ = cond c 0 1 in n) there in
    omega (arith, old, new, one, more)

pages_open : (string : List Key) → 0 + first_uses (λ q. false) string ≡ page_count string
unfolding page_count
pages_open string = omega arith

-- no count is above so many

abbrev pub Few : ℕ → List ℕ → Type 0
Few n [] = ⊤
Few n (k ∷ ks) = (k ≤ n) × Few n ks

pub few_more : (n : ℕ) (ks : List ℕ) → Few n ks → Few (n + 1) ks
few_more n [] h = tt
few_more n (k ∷ ks) h = let one : k ≤ n = h.0 in (omega (arith, one), few_more n ks h.1)

pub few_noted : (n d : ℕ) (ks : List ℕ) → Few n ks → Few (n + 1) (noted d ks)
few_noted n d [] h = tt
few_noted n zero (k ∷ ks) h = let one : k ≤ n = h.0 in (omega (arith, one), few_more n ks h.1)
few_noted n (suc d) (k ∷ ks) h = let one : k ≤ n = h.0 in (omega (arith, one), few_noted n d ks h.1)

pub few_new : (n : ℕ) (ks : List ℕ) → Few n ks → Few (n + 1) (ks ++ 0 ∷ [])
few_new n [] h = (omega arith, tt)
few_new n (k ∷ ks) h = let one : k ≤ n = h.0 in (omega (arith, one), few_new n ks h.1)

pub few_at : (n d : ℕ) (ks : List ℕ) → Few n ks → d < length ks → slice_index_or ks d 0 ≤ n
few_at n d [] h some = absurd (omega (arith, some))
few_at n zero (k ∷ ks) h some = h.0
few_at n (suc d) (k ∷ ks) h some = few_at n d ks h.1 (omega (arith, some))

pub length_noted : (d : ℕ) (ks : List ℕ) → length (noted d ks) ≡ length ks
length_noted d [] = refl
length_noted zero (k ∷ ks) = refl
length_noted (suc d) (k ∷ ks) = ap suc (length_noted d ks)

pub length_new : {A : Type 0} → (ks : List A) (a : A) → length (ks ++ a ∷ []) ≡ suc (length ks)
length_new [] a = refl
length_new (k ∷ ks) a = ap suc (length_new ks a)

pub length_front_found : (p : Key) (s : List Key) → depth p s < length s → length (to_front p s) ≡ length s
length_front_found p [] h = absurd (omega (arith, h))
length_front_found p (q ∷ qs) h = elim (is_page p q) as (λ b. cond b 0 (suc (depth p qs)) < suc (length qs) → suc (length (cond b qs (q ∷ without p qs))) ≡ suc (length qs)) [
  | true ↦ λ g. refl
  | false ↦ λ g. ap suc (length_front_found p qs (omega (arith, g)))
] h

pub length_tails : (n : ℕ) (ks : List ℕ) → length (tails n ks) ≡ length ks
length_tails n [] = refl
length_tails n (k ∷ ks) = ap suc (length_tails (n - k) ks)

tail_at : (n m : ℕ) (ks : List ℕ) → m < length ks → slice_index_or (tails n ks) m 0 ≡ n - hits_within (suc m) ks
tail_at n m [] h = absurd (omega (arith, h))
tail_at n zero (k ∷ ks) h = omega arith
tail_at n (suc m) (k ∷ ks) h = let later : slice_index_or (tails (n - k) ks) m 0 ≡ (n - k) - hits_within (suc m) ks = tail_at (n - k) m ks (omega (arith, h)) in omega (arith, later)

hits_past : (m : ℕ) (ks : List ℕ) → length ks ≤ m → hits_within m ks ≡ hits_within (length ks) ks
hits_past zero [] h = refl
hits_past (suc m) [] h = refl
hits_past zero (k ∷ ks) h = absurd (omega (arith, h))
hits_past (suc m) (k ∷ ks) h = ap (λ (n : ℕ). k + n) (hits_past m ks (omega (arith, h)))

pub curve_is : (n : ℕ) (counts : List ℕ) (stack string : List Key) → CountsLru n counts stack [] string → length counts ≡ page_count string → IsLruCurve (tails n counts) string
curve_is n counts stack string all pages = record {
  rows = length_tails n counts ∙ pages;
  each = λ m h.
      let l : length (tails n counts) ≡ length counts = length_tails n counts in
      tail_at n m counts (omega (arith, h, l)) ∙ counts_end (suc m) n counts stack string all ∙ ap (λ (k : ℕ). lru_misses k string) (one m);
  rest = λ m h.
      let l : length (tails n counts) ≡ length counts = length_tails n counts in
      let a : n - hits_within m counts ≡ lru_misses m string = counts_end m n counts stack string all in
      let b : n - hits_within (length (tails n counts)) counts ≡ lru_misses (length (tails n counts)) string = counts_end (length (tails n counts)) n counts stack string all in
      let c : hits_within m counts ≡ hits_within (length counts) counts = hits_past m counts (omega (arith, h, l)) in
      let d : hits_within (length (tails n counts)) counts ≡ hits_within (length counts) counts = ap (λ (k : ℕ). hits_within k counts) l in
      omega (arith, a, b, c, d);
}
  where
    one : (m : ℕ) → suc m ≡ m + 1
    one m = omega arith

-- What the loops do.

pub noted_set : (d : ℕ) (ks : List ℕ) → slice_set ks d (slice_index_or ks d 0 + 1) ≡ noted d ks
noted_set d [] = refl
noted_set zero (k ∷ ks) = ap (λ (n : ℕ). n ∷ ks) (one k)
  where
    one : (k : ℕ) → k + 1 ≡ suc k
    one k = omega arith
noted_set (suc d) (k ∷ ks) = ap (λ (l : List ℕ). k ∷ l) (noted_set d ks)

-- one reference, wherever its page is

pub record Counting (seen : ℕ) (counts : List ℕ) (stack rest string : List Key) : Type 0 where
  pub counts_lru : CountsLru seen counts stack rest string
  pub few : Few seen counts
  pub size : length counts ≡ length stack
  pub pages : length stack + first_uses (λ q. holds q stack) rest ≡ page_count string

pub counting_on : (seen : ℕ) (counts : List ℕ) (p : Key) (stack rest string : List Key) → Counting seen counts stack (p ∷ rest) string → Counting (seen + 1) (referred (depth p stack) counts) (to_front p stack) rest string
counting_on seen counts p stack rest string before = elim (nat_lt (depth p stack) (length counts)) as (λ b. nat_lt (depth p stack) (length counts) ≡ b → Counting (seen + 1) (cond b (noted (depth p stack) counts) (counts ++ 0 ∷ [])) (to_front p stack) rest string) [
  | true ↦ λ h.
      let d : depth p stack < length counts = less (depth p stack) (length counts) h in
      let size : length counts ≡ length stack = before.size in
      let inside : depth p stack < length stack = omega (arith, d, size) in record {
        counts_lru = counts_hit seen counts p stack rest string inside before.size before.counts_lru;
        few = few_noted seen (depth p stack) counts before.few;
        size = length_noted (depth p stack) counts ∙ before.size ∙ sym (length_front_found p stack inside);
        pages = pages_on true p stack rest string (is_held true h before.size) (length_front_found p stack inside ∙ sym (add_zero (length stack))) before.pages;
      }
  | false ↦ λ h.
      let d : length counts ≤ depth p stack = most (depth p stack) (length counts) h in
      let size : length counts ≡ length stack = before.size in
      let outside : length stack ≤ depth p stack = omega (arith, d, size) in record {
        counts_lru = λ m. counts_cold seen counts p stack rest string outside before.counts_lru m ∙ ap (λ (l : List Key). (seen + 1) + misses holds (lru m) (take m (p ∷ l)) rest) (sym (cold_without p stack outside));
        few = few_new seen counts before.few;
        size = length_new counts 0 ∙ ap suc (before.size ∙ sym (ap length (cold_without p stack outside)));
        pages = pages_on false p stack rest string (is_held false h before.size) (ap suc (ap length (cold_without p stack outside)) ∙ one_on (length stack)) before.pages;
      }
] refl
  where
    is_held : (b : Bool) → nat_lt (depth p stack) (length counts) ≡ b → length counts ≡ length stack → holds p stack ≡ b
    is_held b h size = depth_holds p stack ∙ ap (nat_lt (depth p stack)) (sym size) ∙ h

    one_on : (k : ℕ) → suc k ≡ k + 1
    one_on k = omega arith

pub counting_open : (string : List Key) → Counting 0 [] [] string string
counting_open string = record { counts_lru = counts_open string; few = tt; size = refl; pages = pages_open string }

-- along a string, whose pages stand at their places
pub counting_along : (seen : ℕ) (counts next : List ℕ) (p : Key) (stack after string : List Key) → seen < length string → p ≡ slice_index_or string seen p → next ≡ referred (depth p stack) counts → after ≡ to_front p stack →
    Counting seen counts stack (drop seen string) string → Counting (seen + 1) next after (drop (seen + 1) string) string
counting_along seen counts next p stack after string h at is to before =
    subst (λ (l : List ℕ). Counting (seen + 1) l after (drop (seen + 1) string) string) (sym is)
    (subst (λ (l : List Key). Counting (seen + 1) (referred (depth p stack) counts) l (drop (seen + 1) string) string) (sym to)
    (counting_on seen counts p stack (drop (seen + 1) string) string (subst (λ (l : List Key). Counting seen counts stack l string) (split seen string h at ∙ ap (λ (k : ℕ). p ∷ drop k string) (one seen)) before)))
  where
    one : (k : ℕ) → suc k ≡ k + 1
    one k = omega arith

    split : (n : ℕ) (l : List Key) → n < length l → p ≡ slice_index_or l n p → drop n l ≡ p ∷ drop (suc n) l
    split n [] h at = absurd (omega (arith, h))
    split zero (q ∷ qs) h at = ap (λ (k : Key). k ∷ qs) (sym at)
    split (suc n) (q ∷ qs) h at = split n qs (omega (arith, h)) at

pub counting_end : (seen : ℕ) (counts : List ℕ) (stack string : List Key) → length string ≤ seen → seen ≤ length string → Counting seen counts stack (drop seen string) string → IsLruCurve (tails (length string) counts) string
counting_end seen counts stack string past within before =
    let e : seen ≡ length string = omega (arith, past, within) in
    let none : drop (length string) string ≡ [] = gone (length string) string refl in
    let pages : length stack + first_uses (λ q. holds q stack) (drop seen string) ≡ page_count string = before.pages in
    let left : first_uses (λ q. holds q stack) (drop seen string) ≡ 0 = ap (λ n. first_uses (λ q. holds q stack) (drop n string)) e ∙ ap (first_uses (λ q. holds q stack)) none in
    let size : length counts ≡ length stack = before.size in
    curve_is (length string) counts stack string
    (subst (λ (l : List Key). CountsLru (length string) counts stack l string) none (subst (λ (n : ℕ). CountsLru n counts stack (drop n string) string) e before.counts_lru))
    (omega (arith, pages, left, size))
  where
    gone : (n : ℕ) (s : List Key) → n ≡ length s → drop n s ≡ []
    gone zero [] h = refl
    gone zero (q ∷ qs) h = absurd (omega (arith, h))
    gone (suc n) [] h = refl
    gone (suc n) (q ∷ qs) h = gone n qs (omega (arith, h))

-- a count has room for one more
pub count_small : (seen d : ℕ) (counts : List ℕ) (stack rest string : List Key) → Counting seen counts stack rest string → seen < 2 ^ 63 → d < length counts → slice_index_or counts d 0 < 2 ^ 63
count_small seen d counts stack rest string c h inside = let f : slice_index_or counts d 0 ≤ seen = few_at seen d counts c.few inside in omega (arith, f, h)

-- a slice that was lent comes back whole
pub come_back : {A : Type 0} (n : ℕ) (a s t : List A) → n ≡ length s → length a ≡ length s → a ≡ t → take n (a ++ drop (length a) s) ≡ t
come_back {A = A} n a s t is same_length to = ap (λ (k : ℕ). take k (a ++ drop (length a) s)) (is ∙ sym same_length) ∙ first a (drop (length a) s) ∙ to
  where
    first : (a b : List A) → take (length a) (a ++ b) ≡ a
    first [] b = refl
    first (q ∷ qs) b = ap (λ (l : List A). q ∷ l) (first qs b)

pub counting_begins : (counts : List ℕ) (stack string : List Key) → counts ≡ [] → stack ≡ [] → Counting 0 counts stack string string
counting_begins counts stack string c s = subst (λ (l : List ℕ). Counting 0 l stack string string) (sym c) (subst (λ (l : List Key). Counting 0 [] l string string) (sym s) (counting_open string))

-- an element that is there is what it is, whatever stands for those that are not
pub same_default : (s : List Key) (n : ℕ) (p : Key) → n < length s → slice_index_or s n p ≡ slice_index_or s n (slice_index_or s n p)
same_default [] n p h = absurd (omega (arith, h))
same_default (q ∷ qs) zero p h = refl
same_default (q ∷ qs) (suc n) p h = same_default qs n p (omega (arith, h))
