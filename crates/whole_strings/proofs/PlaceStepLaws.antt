-- A reference keeps the places of next uses beside the optimum's pages: a proof.
use Rattle.std.specs.Prelude.{◌≡◌, ℕ, zero, suc, ◌+◌, ◌-◌, ◌<◌, ◌≤◌, Bool, true, false, cond, nat_lt, List, [], ◌∷◌, length, drop, refl, slice_index_or}
use Rattle.std.proofs.Common.{arith, sym, ap, subst, ◌∙◌}
use Rattle.std.proofs.lemmas.Bool.Decides.{nat_tests}
use Rattle.std.specs.Ordering.{nat_cmp}
use Rattle.std.specs.BTreeSet.{insert_key}
use Rattle.clock_policy.specs.declared.key.Key.{Key}
use Rattle.page_policies.specs.Strings.{is_page, holds}
use Rattle.page_policies.proofs.QueueLaws.{same}
use Rattle.page_policies.specs.Optimal.{next_use, but_farthest, room_for, optimal_from, optimal_misses}
use Rattle.page_policies.specs.NextUses.{next_uses}
use Rattle.page_policies.specs.Demand.{number, one}
use Rattle.page_policies.proofs.CountLaws.{is_near, near, none_number, Room, room_is, length_but}
use Rattle.page_policies.proofs.DemandLaws.{page_number, near_now, Once, once_more, holds_none, hit_exact, miss_exact, room_fewer}
use Rattle.page_policies.proofs.PlayedLaws.{here}
use Rattle.whole_strings.specs.NextPlaces.{under, place, Roomed, Refers}
use Rattle.whole_strings.proofs.NextPlaceLaws.{under_few, under_more, insert_under, insert_length}

-- Before the reference at `at` of n the pages s are in m frames, and the numbers are the places of their next uses in what is left.
pub record Stands (m at n : ℕ) (keys : List ℕ) (rest s : List Key) : Type 0 where
  pub once : Once s
  pub few : length s ≤ m
  pub size : length keys ≡ length s
  pub near_by : (t x : ℕ) → x ≡ at + t → t ≤ length rest → under x keys ≡ near rest t s
  pub past : under (n + at) keys ≡ length keys

-- two pages whose next uses are one are one
use_apart : (p q : Key) (ps : List Key) → next_use p ps < length ps → next_use q ps ≡ next_use p ps → is_page p q ≡ true
use_apart p q [] h e = absurd (omega (arith, h))
use_apart p q (r ∷ rs) h e = elim (is_page r p) as (λ b. is_page r p ≡ b → cond b 0 (suc (next_use p rs)) < suc (length rs) → cond (is_page r q) 0 (suc (next_use q rs)) ≡ cond b 0 (suc (next_use p rs)) → is_page p q ≡ true) [
  | true ↦ λ is h e. elim (is_page r q) as (λ b. is_page r q ≡ b → cond b 0 (suc (next_use q rs)) ≡ 0 → is_page p q ≡ true) [
    | true ↦ λ also e. subst (λ (k : Key). is_page k q ≡ true) (same r p is) also
    | false ↦ λ also e. absurd (omega (arith, e))
  ] refl e
  | false ↦ λ is h e. elim (is_page r q) as (λ b. is_page r q ≡ b → cond b 0 (suc (next_use q rs)) ≡ suc (next_use p rs) → is_page p q ≡ true) [
    | true ↦ λ also e. absurd (omega (arith, e))
    | false ↦ λ also e. use_apart p q rs (omega (arith, h)) (omega (arith, e))
  ] refl e
] refl h e

-- the pages of one distance that is before the end are one page
pub next_once : (p : Key) (ps s : List Key) → next_use p ps < length ps → near ps (suc (next_use p ps)) s ≡ near ps (next_use p ps) s + number (is_page p) s
next_once p ps [] h = refl
next_once p ps (q ∷ qs) h =
    let later : near ps (suc (next_use p ps)) qs ≡ near ps (next_use p ps) qs + number (is_page p) qs = next_once p ps qs h in
    elim (is_page p q) as (λ b. is_page p q ≡ b → one (nat_lt (next_use q ps) (suc (next_use p ps))) + near ps (suc (next_use p ps)) qs
    ≡ (one (nat_lt (next_use q ps) (next_use p ps)) + near ps (next_use p ps) qs) + (one b + number (is_page p) qs)) [
      | true ↦ λ is. rw (below (next_use q ps) (next_use p ps) (ap (λ (k : Key). next_use k ps) (sym (same p q is))), level (next_use q ps) (next_use p ps) (ap (λ (k : Key). next_use k ps) (sym (same p q is)))) (omega (arith, later))
      | false ↦ λ is. rw (alike (next_use q ps) (next_use p ps) (λ e. no (sym is ∙ use_apart p q ps h e))) (omega (arith, later))
    ] refl
  where
    no : false ≡ true → ⊥
    no e = cc

    below : (a b : ℕ) → a ≡ b → nat_lt a (suc b) ≡ true
    below a b e = grind (arith, nat_tests)

    level : (a b : ℕ) → a ≡ b → nat_lt a b ≡ false
    level a b e = grind (arith, nat_tests)

    alike : (a b : ℕ) → (a ≡ b → ⊥) → nat_lt a (suc b) ≡ nat_lt a b
    alike a b h = grind (arith, nat_tests)

-- a place is below another where the distance is
pub place_near : (n at u l t x : ℕ) → n ≡ at + suc l → x ≡ at + 1 + t → t ≤ l → nat_lt (place n at u) x ≡ nat_lt u t
place_near n at u l t x is e few = grind (arith, nat_tests)

pub place_past : (n at u l : ℕ) → n ≡ at + suc l → nat_lt (place n at u) (suc (n + at)) ≡ true
place_past n at u l is = grind (arith, nat_tests)

near_level : (u t : ℕ) → nat_lt u u ≡ false
near_level u t = grind (arith, nat_tests)

near_next : (u : ℕ) → nat_lt u (suc u) ≡ true
near_next u = grind (arith, nat_tests)

-- What is left when the referenced page's number is out, and the pages after the reference.
pub record Left (m at n : ℕ) (p : Key) (ps : List Key) (keys : List ℕ) (r : List Key) : Type 0 where
  pub once : Once r
  pub few : length r ≤ m
  pub there : holds p r ≡ true
  pub size : suc (length keys) ≡ length r
  pub near_by : (t x : ℕ) → x ≡ at + 1 + t → t ≤ length ps → one (is_near ps t p) + under x keys ≡ near ps t r
  pub past : under (n + at) keys ≡ length keys

pub past_more : (n at : ℕ) (keys : List ℕ) → under (n + at) keys ≡ length keys → under (suc (n + at)) keys ≡ length keys
past_more n at keys h =
    let more : under (n + at) keys ≤ under (suc (n + at)) keys = under_more (n + at) keys in
    let few : under (suc (n + at)) keys ≤ length keys = under_few (suc (n + at)) keys in omega (arith, h, more, few)

absent : (m at n : ℕ) (p : Key) (ps : List Key) (keys : List ℕ) (r : List Key) → n ≡ at + suc (length ps) → Left m at n p ps keys r → under (suc (place n at (next_use p ps))) keys ≡ under (place n at (next_use p ps)) keys
absent m at n p ps keys r is left = elim (nat_lt (next_use p ps) (length ps)) as (λ b. nat_lt (next_use p ps) (length ps) ≡ b → under (suc (place n at (next_use p ps))) keys ≡ under (place n at (next_use p ps)) keys) [
  | true ↦ λ h.
      let before : next_use p ps < length ps = below (next_use p ps) (length ps) h in
      let k : place n at (next_use p ps) ≡ at + 1 + next_use p ps = inside (next_use p ps) (length ps) is before in
      let now : one (is_near ps (next_use p ps) p) + under (place n at (next_use p ps)) keys ≡ near ps (next_use p ps) r = left.near_by (next_use p ps) (place n at (next_use p ps)) k (omega (arith, before)) in
      let next : one (is_near ps (suc (next_use p ps)) p) + under (suc (place n at (next_use p ps))) keys ≡ near ps (suc (next_use p ps)) r = left.near_by (suc (next_use p ps)) (suc (place n at (next_use p ps))) (omega (arith, k)) (omega (arith, before)) in
      let zero_now : one (is_near ps (next_use p ps) p) ≡ 0 = ap one (near_level (next_use p ps) 0) in
      let one_next : one (is_near ps (suc (next_use p ps)) p) ≡ 1 = ap one (near_next (next_use p ps)) in
      let more : near ps (suc (next_use p ps)) r ≡ near ps (next_use p ps) r + number (is_page p) r = next_once p ps r before in
      let single : number (is_page p) r ≡ 1 = page_number p r (left.once p) ∙ ap one left.there in
      omega (arith, now, next, zero_now, one_next, more, single)
  | false ↦ λ h. rw (outside (next_use p ps) (length ps) is h) (past_more n at keys left.past ∙ sym left.past)
] refl
  where
    below : (a b : ℕ) → nat_lt a b ≡ true → a < b
    below a b h = grind (arith, nat_tests)

    inside : (u l : ℕ) → n ≡ at + suc l → u < l → place n at u ≡ at + 1 + u
    inside u l is h = grind (arith, nat_tests)

    outside : (u l : ℕ) → n ≡ at + suc l → nat_lt u l ≡ false → place n at u ≡ n + at
    outside u l is h = grind (arith, nat_tests)

put_in : (m at n : ℕ) (p : Key) (ps : List Key) (keys : List ℕ) (r : List Key) → n ≡ at + suc (length ps) → Left m at n p ps keys r → Stands m (at + 1) n (insert_key nat_cmp keys (place n at (next_use p ps))) ps r
put_in m at n p ps keys r is left =
    let new : under (suc (place n at (next_use p ps))) keys ≡ under (place n at (next_use p ps)) keys = absent m at n p ps keys r is left in
    let size : length (insert_key nat_cmp keys (place n at (next_use p ps))) ≡ suc (length keys) = insert_length (place n at (next_use p ps)) keys new in
    record {
      once = left.once;
      few = left.few;
      size = size ∙ left.size;
      near_by = λ t x e few. insert_under (place n at (next_use p ps)) x keys new ∙ (ap (λ (b : Bool). one b + under x keys) (place_near n at (next_use p ps) (length ps) t x is e few) ∙ left.near_by t x e few);
      past = at_end (n + (at + 1)) (omega arith) ∙ sym size;
    }
  where
    at_end : (x : ℕ) → x ≡ suc (n + at) → under x (insert_key nat_cmp keys (place n at (next_use p ps))) ≡ suc (length keys)
    at_end x e = rw e (insert_under (place n at (next_use p ps)) (suc (n + at)) keys (absent m at n p ps keys r is left)
        ∙ (ap (λ (b : Bool). one b + under (suc (n + at)) keys) (place_past n at (next_use p ps) (length ps) is) ∙ (let e : under (suc (n + at)) keys ≡ length keys = past_more n at keys left.past in omega (arith, e))))

-- a hit takes the page's number out
pub hit_left : (m at n : ℕ) (p : Key) (ps : List Key) (old keys : List ℕ) (s : List Key) → n ≡ at + suc (length ps) → Stands m at n old (p ∷ ps) s → old ≡ at ∷ keys → holds p s ≡ true → Left m at n p ps keys s
hit_left m at n p ps old keys s is h gone there =
    let size : length old ≡ suc (length keys) = ap length gone in
    let past : under (n + at) old ≡ one (nat_lt at (n + at)) + under (n + at) keys = ap (under (n + at)) gone in
    let counted : one (nat_lt at (n + at)) ≡ 1 = ap one (above at (n + at) (omega (arith, is))) in
    let full : under (n + at) old ≡ length old = h.past in
    record {
      once = h.once;
      few = h.few;
      there = there;
      size = sym size ∙ h.size;
      near_by = λ t x e few.
          let old_near : under x old ≡ near (p ∷ ps) (suc t) s = h.near_by (suc t) x (omega (arith, e)) (omega (arith, few)) in
          let split : under x old ≡ one (nat_lt at x) + under x keys = ap (under x) gone in
          let before : one (nat_lt at x) ≡ 1 = ap one (above at x (omega (arith, e))) in
          let exact : near ps t s + 1 ≡ near (p ∷ ps) (suc t) s + one (is_near ps t p) = hit_exact p ps s t h.once there in
          omega (arith, old_near, split, before, exact);
      past = omega (arith, size, past, counted, full);
    }
  where
    above : (a b : ℕ) → a < b → nat_lt a b ≡ true
    above a b h = grind (arith, nat_tests)

-- a miss makes room
room_length : (m : ℕ) (string s : List Key) → length (room_for m string s) ≡ cond (nat_lt (length s) m) (length s) (length s - 1)
room_length m string [] = elim (nat_lt 0 m) as (λ b. 0 ≡ cond b 0 (0 - 1)) [ true ↦ refl | false ↦ refl ]
room_length m string (q ∷ s) = elim (nat_lt (suc (length s)) m) as (λ b. length (cond b (q ∷ s) (but_farthest string q s)) ≡ cond b (suc (length s)) (suc (length s) - 1)) [
  | true ↦ refl
  | false ↦ let e : length (but_farthest string q s) ≡ length s = length_but string q s in omega (arith, e)
]

-- the same bound cuts both counts
cut : (m l s a b x y : ℕ) → 1 ≤ m → s ≤ m → l ≡ cond (nat_lt s m) s (s - 1) → a ≤ s → a ≡ b → (a ≤ l → x ≡ a) → (l < a → x ≡ l) → (b ≤ m - 1 → y ≡ b) → (m - 1 < b → y ≡ m - 1) → x ≡ y
cut m l s a b x y some few is within e least most room_least room_most = elim (nat_lt s m) as (λ c. nat_lt s m ≡ c → l ≡ cond c s (s - 1) → x ≡ y) [
  | true ↦ λ h is. let less : s < m = below s m h in
      let x_is : x ≡ a = least (omega (arith, is, within)) in let y_is : y ≡ b = room_least (omega (arith, e, within, less)) in omega (arith, x_is, y_is, e)
  | false ↦ λ h is. let full : m ≤ s = above s m h in elim (nat_lt l a) as (λ c. nat_lt l a ≡ c → x ≡ y) [
    | true ↦ λ g. let over : l < a = below l a g in
        let x_is : x ≡ l = most over in let y_is : y ≡ m - 1 = room_most (omega (arith, e, over, is, full, few)) in omega (arith, x_is, y_is, is, full, few)
    | false ↦ λ g. let up_to : a ≤ l = above l a g in
        let x_is : x ≡ a = least up_to in let y_is : y ≡ b = room_least (omega (arith, e, up_to, is, full, few)) in omega (arith, x_is, y_is, e)
  ] refl
] refl is
  where
    below : (a b : ℕ) → nat_lt a b ≡ true → a < b
    below a b h = grind (arith, nat_tests)

    above : (a b : ℕ) → nat_lt a b ≡ false → b ≤ a
    above a b h = grind (arith, nat_tests)

pub miss_left : (m at n : ℕ) (p : Key) (ps : List Key) (old keys : List ℕ) (s : List Key) → 1 ≤ m → n ≡ at + suc (length ps) → Stands m at n old (p ∷ ps) s → Roomed m old keys → holds p s ≡ false → Left m at n p ps keys (p ∷ room_for m ps s)
miss_left m at n p ps old keys s some is h roomed gone =
    let room : Room m ps s (room_for m ps s) = room_is m ps s some h.few in
    let none : number (is_page p) s ≡ 0 = none_number p s gone in
    let fewer : number (is_page p) (room_for m ps s) ≤ number (is_page p) s = room_fewer (is_page p) m ps s in
    let out : holds p (room_for m ps s) ≡ false = holds_none p (room_for m ps s) (omega (arith, none, fewer)) in
    let keys_size : length keys ≡ cond (nat_lt (length s) m) (length s) (length s - 1) = subst (λ (k : ℕ). length keys ≡ cond (nat_lt k m) k (k - 1)) h.size roomed.size in
    let few : length keys ≤ length s = fewer_left (nat_lt (length s) m) (length s) (length keys) keys_size in
    let old_size : length old ≡ length s = h.size in
    let full : under (n + at) old ≡ length old = h.past in
    record {
      once = once_more p (room_for m ps s) (λ q. let o : number (is_page q) s ≤ 1 = h.once q in let f : number (is_page q) (room_for m ps s) ≤ number (is_page q) s = room_fewer (is_page q) m ps s in omega (arith, o, f)) out;
      few = room.few;
      there = here p (room_for m ps s);
      size = ap suc (keys_size ∙ sym (room_length m ps s));
      near_by = λ t x e small.
          let old_near : under x old ≡ near (p ∷ ps) (suc t) s = h.near_by (suc t) x (omega (arith, e)) (omega (arith, small)) in
          let exact : near ps t s ≡ near (p ∷ ps) (suc t) s = miss_exact p ps s t h.once gone in
          let within : under x old ≤ length old = under_few x old in
          ap (λ (k : ℕ). one (is_near ps t p) + k) (cut m (length keys) (length s) (under x old) (near ps t s) (under x keys) (near ps t (room_for m ps s)) some h.few keys_size
          (omega (arith, within, old_size)) (old_near ∙ sym exact) (roomed.least x) (roomed.most x) (room.least t) (room.most t));
      past = elim (nat_lt (length keys) (under (n + at) old)) as (λ b. nat_lt (length keys) (under (n + at) old) ≡ b → under (n + at) keys ≡ length keys) [
        | true ↦ λ g. roomed.most (n + at) (below (length keys) (under (n + at) old) g)
        | false ↦ λ g.
            let up_to : under (n + at) old ≤ length keys = above (length keys) (under (n + at) old) g in
            let e : under (n + at) keys ≡ under (n + at) old = roomed.least (n + at) up_to in omega (arith, up_to, e, full, old_size, few)
      ] refl;
    }
  where
    below : (a b : ℕ) → nat_lt a b ≡ true → a < b
    below a b h = grind (arith, nat_tests)

    above : (a b : ℕ) → nat_lt a b ≡ false → b ≤ a
    above a b h = grind (arith, nat_tests)

    fewer_left : (b : Bool) (s k : ℕ) → k ≡ cond b s (s - 1) → k ≤ s
    fewer_left true s k h = omega (arith, h)
    fewer_left false s k h = omega (arith, h)

-- the least number is the reference's place exactly where its page is there
pub there_now : (m at n : ℕ) (p : Key) (ps : List Key) (old : List ℕ) (s : List Key) → Stands m at n old (p ∷ ps) s → under (at + 1) old ≡ one (holds p s)
there_now m at n p ps old s h = h.near_by 1 (at + 1) refl (omega arith) ∙ (near_now p ps s ∙ page_number p s (h.once p))

pub none_yet : (m at n : ℕ) (p : Key) (ps : List Key) (old : List ℕ) (s : List Key) → Stands m at n old (p ∷ ps) s → under at old ≡ 0
none_yet m at n p ps old s h = h.near_by 0 at (omega arith) (omega arith) ∙ nothing s
  where
    nothing : (s : List Key) → near (p ∷ ps) 0 s ≡ 0
    nothing [] = refl
    nothing (q ∷ qs) = rw (never (next_use q (p ∷ ps))) (let later : near (p ∷ ps) 0 qs ≡ 0 = nothing qs in omega (arith, later))
      where
        never : (n : ℕ) → nat_lt n 0 ≡ false
        never n = grind (arith, nat_tests)

-- A reference: the pages after it, and what is missed from there on.
pub record Steps (m at n : ℕ) (p : Key) (ps : List Key) (new : List ℕ) (s : List Key) (hit : Bool) : Type 0 where
  pub pages : List Key
  pub stands : Stands m (at + 1) n new ps pages
  pub whole : cond hit 0 1 + optimal_from m pages ps ≡ optimal_from m s (p ∷ ps)

pub step : (m at n : ℕ) (p : Key) (ps : List Key) (old new : List ℕ) (s : List Key) (hit : Bool) → 1 ≤ m → n ≡ at + suc (length ps) → Stands m at n old (p ∷ ps) s → Refers m at (place n at (next_use p ps)) old new hit → Steps m at n p ps new s hit
step m at n p ps old new s true some is h refers =
    let gone : old ≡ at ∷ refers.left = refers.hits refl in
    let counted : under (at + 1) old ≡ one (nat_lt at (at + 1)) + under (at + 1) refers.left = ap (under (at + 1)) gone in
    let before : one (nat_lt at (at + 1)) ≡ 1 = ap one (next at) in
    let there : holds p s ≡ true = found (holds p s) refl (let e : under (at + 1) old ≡ one (holds p s) = there_now m at n p ps old s h in omega (arith, counted, before, e)) in
    record {
      pages = s;
      stands = subst (λ (l : List ℕ). Stands m (at + 1) n l ps s) (sym refers.now) (put_in m at n p ps refers.left s is (hit_left m at n p ps old refers.left s is h gone there));
      whole = rw there (omega arith);
    }
  where
    next : (a : ℕ) → nat_lt a (a + 1) ≡ true
    next a = grind (arith, nat_tests)

    found : (b : Bool) → holds p s ≡ b → 1 ≤ one (holds p s) → holds p s ≡ true
    found true e g = e
    found false e g = let z : one (holds p s) ≡ 0 = ap one e in absurd (omega (arith, z, g))
step m at n p ps old new s false some is h refers =
    let none : under (at + 1) old ≡ 0 = (refers.misses refl).0 (none_yet m at n p ps old s h) in
    let gone : holds p s ≡ false = lost (holds p s) refl (let e : under (at + 1) old ≡ one (holds p s) = there_now m at n p ps old s h in omega (arith, none, e)) in
    record {
      pages = p ∷ room_for m ps s;
      stands = subst (λ (l : List ℕ). Stands m (at + 1) n l ps (p ∷ room_for m ps s)) (sym refers.now) (put_in m at n p ps refers.left (p ∷ room_for m ps s) is (miss_left m at n p ps old refers.left s some is h (refers.misses refl).1 gone));
      whole = rw gone refl;
    }
  where
    lost : (b : Bool) → holds p s ≡ b → one (holds p s) ≡ 0 → holds p s ≡ false
    lost true e g = let z : one (holds p s) ≡ 1 = ap one e in absurd (omega (arith, z, g))
    lost false e g = e

-- the reference at `at` and those after it
pub record Uncovered (string : List Key) (at d : ℕ) : Type 0 where
  pub page : Key
  pub rest : List Key
  pub now : drop at string ≡ page ∷ rest
  pub later : drop (suc at) string ≡ rest
  pub ahead : slice_index_or (next_uses string) at d ≡ next_use page rest
  pub size : length string ≡ at + suc (length rest)

pub uncover : (string : List Key) (at d : ℕ) → at < length string → Uncovered string at d
uncover [] at d h = absurd (omega (arith, h))
uncover (q ∷ qs) zero d h = record { page = q; rest = qs; now = refl; later = refl; ahead = refl; size = omega arith }
uncover (q ∷ qs) (suc at) d h =
    let found : Uncovered qs at d = uncover qs at d (omega (arith, h)) in
    let size : length qs ≡ at + suc (length found.rest) = found.size in
    record { page = found.page; rest = found.rest; now = found.now; later = found.later; ahead = found.ahead; size = omega (arith, size) }

-- Before the reference at `at` so many of a string missed.
pub record Served (m at count : ℕ) (keys : List ℕ) (string : List Key) : Type 0 where
  pub pages : List Key
  pub stands : Stands m at (length string) keys (drop at string) pages
  pub whole : count + optimal_from m pages (drop at string) ≡ optimal_misses m string

pub served_first : (m : ℕ) (keys : List ℕ) (string : List Key) → keys ≡ [] → Served m 0 0 keys string
unfolding optimal_misses
served_first m keys string is = rw is (record {
  pages = [];
  stands = record { once = λ q. omega arith; few = omega arith; size = refl; near_by = λ t x e few. refl; past = refl };
  whole = omega arith;
})

-- a reference with m frames, from what it does to the pages in them
pub served_on : (m at count more next d : ℕ) (keys new : List ℕ) (string : List Key) (hit : Bool) → at < length string → next ≡ place (length string) at (slice_index_or (next_uses string) at d)
    → ((p : Key) (ps s : List Key) → length string ≡ at + suc (length ps) → next ≡ place (length string) at (next_use p ps) → Stands m at (length string) keys (p ∷ ps) s → Steps m at (length string) p ps new s hit)
    → more ≡ count + cond hit 0 1 → Served m at count keys string → Served m (at + 1) more new string
served_on m at count more next d keys new string hit inside to goes counted served =
    let found : Uncovered string at d = uncover string at d inside in
    let now : Stands m at (length string) keys (found.page ∷ found.rest) served.pages = subst (λ (l : List Key). Stands m at (length string) keys l served.pages) found.now served.stands in
    let place_is : next ≡ place (length string) at (next_use found.page found.rest) = to ∙ ap (λ (k : ℕ). place (length string) at k) found.ahead in
    let after : Steps m at (length string) found.page found.rest new served.pages hit = goes found.page found.rest served.pages found.size place_is now in
    let left : found.rest ≡ drop (at + 1) string = sym found.later ∙ ap (λ (k : ℕ). drop k string) (one_on at) in
    let before : count + optimal_from m served.pages (found.page ∷ found.rest) ≡ optimal_misses m string = subst (λ (l : List Key). count + optimal_from m served.pages l ≡ optimal_misses m string) found.now served.whole in
    let missed : cond hit 0 1 + optimal_from m after.pages found.rest ≡ optimal_from m served.pages (found.page ∷ found.rest) = after.whole in
    record {
      pages = after.pages;
      stands = subst (λ (l : List Key). Stands m (at + 1) (length string) new l after.pages) left after.stands;
      whole = subst (λ (l : List Key). more + optimal_from m after.pages l ≡ optimal_misses m string) left (sum count more (cond hit 0 1) (optimal_from m after.pages found.rest) (optimal_from m served.pages (found.page ∷ found.rest)) (optimal_misses m string) counted before missed);
    }
  where
    one_on : (a : ℕ) → suc a ≡ a + 1
    one_on a = omega arith

    sum : (c k b l o w : ℕ) → k ≡ c + b → c + o ≡ w → b + l ≡ o → k + l ≡ w
    sum c k b l o w h g e = omega (arith, h, g, e)

pub served_next : (m at count more : ℕ) (keys new uses : List ℕ) (string : List Key) (hit : Bool) (d : ℕ) → 1 ≤ m → at < length string → uses ≡ next_uses string
    → Refers m at (place (length string) at (slice_index_or uses at d)) keys new hit → more ≡ count + cond hit 0 1 → Served m at count keys string → Served m (at + 1) more new string
served_next m at count more keys new uses string hit d some inside is refers counted served =
    let to : place (length string) at (slice_index_or uses at d) ≡ place (length string) at (slice_index_or (next_uses string) at d) = ap (λ (l : List ℕ). place (length string) at (slice_index_or l at d)) is in
    served_on m at count more (place (length string) at (slice_index_or uses at d)) d keys new string hit inside to
    (λ p ps s n_is to_is stands. step m at (length string) p ps keys new s hit some n_is stands (subst (λ (k : ℕ). Refers m at k keys new hit) to_is refers))
    counted served

pub served_last : (m at count : ℕ) (keys : List ℕ) (string : List Key) → length string ≤ at → Served m at count keys string → count ≡ optimal_misses m string
served_last m at count keys string past served =
    let none : count + 0 ≡ optimal_misses m string = subst (λ (l : List Key). count + optimal_from m served.pages l ≡ optimal_misses m string) (gone string at past) served.whole in omega (arith, none)
  where
    gone : (s : List Key) (at : ℕ) → length s ≤ at → drop at s ≡ []
    gone [] zero h = refl
    gone [] (suc at) h = refl
    gone (q ∷ qs) zero h = absurd (omega (arith, h))
    gone (q ∷ qs) (suc at) h = gone qs at (omega (arith, h))

pub length_uses : (string : List Key) → length (next_uses string) ≡ length string
length_uses [] = refl
length_uses (p ∷ ps) = ap suc (length_uses ps)

-- the same, as a caller that has the uses alone knows it
pub served_step : (m number at n count more next ahead d : ℕ) (keys new uses : List ℕ) (string : List Key) (hit : Bool) → number ≡ m → 1 ≤ number → n ≡ length uses → at < n → next ≡ place n at ahead → ahead ≡ slice_index_or uses at d
    → uses ≡ next_uses string → Refers number at next keys new hit → more ≡ count + cond hit 0 1 → Served m at count keys string → Served m (at + 1) more new string
served_step m number at n count more next ahead d keys new uses string hit same_number some size inside is_next is_ahead is refers counted served =
    let long : n ≡ length string = size ∙ (ap length is ∙ length_uses string) in
    let place_is : next ≡ place (length string) at (slice_index_or uses at d) = is_next ∙ (ap (λ (k : ℕ). place k at ahead) long ∙ ap (λ (k : ℕ). place (length string) at k) is_ahead) in
    let some_m : 1 ≤ m = subst (λ (k : ℕ). 1 ≤ k) same_number some in
    let with_m : Refers m at next keys new hit = subst (λ (k : ℕ). Refers k at next keys new hit) same_number refers in
    served_next m at count more keys new uses string hit d some_m (subst (λ (k : ℕ). at < k) long inside) is (subst (λ (k : ℕ). Refers m at k keys new hit) place_is with_m) counted served
