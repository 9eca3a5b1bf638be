-- No way to serve a string misses less than the optimum: a proof.
use Rattle.std.specs.Prelude.{◌≡◌, ℕ, suc, ◌+◌, ◌-◌, ◌<◌, ◌≤◌, Bool, true, false, cond, nat_lt, List, [], ◌∷◌, length, refl}
use Rattle.std.proofs.Common.{arith, sym, ap, subst, ◌∙◌}
use Rattle.std.proofs.lemmas.Bool.Decides.{nat_tests}
use Rattle.clock_policy.specs.declared.key.Key.{Key}
use Rattle.page_policies.specs.Strings.{is_page, holds}
use Rattle.page_policies.proofs.QueueLaws.{same}
use Rattle.page_policies.specs.Optimal.{next_use, but_farthest, room_for, optimal_from, optimal_misses}
use Rattle.page_policies.specs.Demand.{number, one, MayLeave, Plays, NoneMissesLess}
use Rattle.page_policies.proofs.CountLaws.{is_near, near, number_few, none_number, some_number, near_after, Room, room_is}

pub page_number : (p : Key) (s : List Key) → number (is_page p) s ≤ 1 → number (is_page p) s ≡ one (holds p s)
page_number p s once = elim (holds p s) as (λ b. holds p s ≡ b → number (is_page p) s ≡ one b) [
  | true ↦ λ h. let some : 1 ≤ number (is_page p) s = some_number p s h in omega (arith, some, once)
  | false ↦ λ h. none_number p s h
] refl

-- the pages that stay, counted after the reference
pub near_stays : (p : Key) (ps : List Key) (t : ℕ) (s : List Key) → number (is_page p) s ≤ 1 →
    near ps t s + one (holds p s) ≡ near (p ∷ ps) (suc t) s + cond (is_near ps t p) (one (holds p s)) 0
near_stays p ps t s once = subst (λ (k : ℕ). near ps t s + k ≡ near (p ∷ ps) (suc t) s + cond (is_near ps t p) k 0) (page_number p s once) (near_after p ps t s)

-- the nearest are those of the page itself
pub near_now : (p : Key) (ps : List Key) (s : List Key) → near (p ∷ ps) 1 s ≡ number (is_page p) s
near_now p ps [] = refl
near_now p ps (q ∷ qs) = elim (is_page p q) as (λ b. one (nat_lt (cond b 0 (suc (next_use q ps))) 1) + near (p ∷ ps) 1 qs ≡ one b + number (is_page p) qs) [
  | true ↦ ap (λ (n : ℕ). 1 + n) (near_now p ps qs)
  | false ↦ rw (never (next_use q ps)) (ap (λ (n : ℕ). 0 + n) (near_now p ps qs))
]
  where
    never : (n : ℕ) → nat_lt (suc n) 1 ≡ false
    never n = grind (arith, nat_tests)

-- none of the pages twice
abbrev pub Once : List Key → Type 0
Once s = (q : Key) → number (is_page q) s ≤ 1

pub once_more : (p : Key) (s : List Key) → Once s → holds p s ≡ false → (q : Key) → number (is_page q) (p ∷ s) ≤ 1
once_more p s once h q = elim (is_page q p) as (λ b. is_page q p ≡ b → one b + number (is_page q) s ≤ 1) [
  | true ↦ λ is. let none : number (is_page q) s ≡ 0 = none_number q s (ap (λ (k : Key). holds k s) (same q p is) ∙ h) in omega (arith, none)
  | false ↦ λ is. let o : number (is_page q) s ≤ 1 = once q in omega (arith, o)
] refl

-- what may be left is counted no higher than this
once_left : (p : Key) (s u : List Key) (m : ℕ) → Once s → MayLeave m p s u → Once u
once_left p s u m once left q =
    let most : number (is_page q) u ≤ number (is_page q) (cond (holds p s) s (p ∷ s)) = left.from (is_page q) in
    let few : number (is_page q) (cond (holds p s) s (p ∷ s)) ≤ 1 = either (holds p s) refl in omega (arith, most, few)
  where
    either : (b : Bool) → holds p s ≡ b → number (is_page q) (cond b s (p ∷ s)) ≤ 1
    either true h = once q
    either false h = once_more p s once h q

-- where the page is there, at most the others are nearer than it
near_there : (p : Key) (ps : List Key) (t : ℕ) (u : List Key) → holds p u ≡ true → near ps t u + 1 ≤ length u + one (is_near ps t p)
near_there p ps t [] h = cc
near_there p ps t (q ∷ qs) h = elim (is_page p q) as (λ b. is_page p q ≡ b → cond b true (holds p qs) ≡ true → (one (is_near ps t q) + near ps t qs) + 1 ≤ suc (length qs) + one (is_near ps t p)) [
  | true ↦ λ is g. let few : near ps t qs ≤ length qs = number_few (is_near ps t) qs in rw (ap (is_near ps t) (sym (same p q is))) (omega (arith, few))
  | false ↦ λ is g. let later : near ps t qs + 1 ≤ length qs + one (is_near ps t p) = near_there p ps t qs g in other (is_near ps t q) (near ps t qs) (length qs) (one (is_near ps t p)) later
] refl h
  where
    other : (b : Bool) (n l e : ℕ) → n + 1 ≤ l + e → (one b + n) + 1 ≤ suc l + e
    other true n l e h = omega (arith, h)
    other false n l e h = omega (arith, h)

-- what a reference leaves of any play, counted
left_few : (m : ℕ) (p : Key) (ps s u : List Key) (t : ℕ) → Once s → MayLeave m p s u → near ps t u + one (holds p s) ≤ near (p ∷ ps) (suc t) s + one (is_near ps t p)
left_few m p ps s u t once left =
    let stays : near ps t s + one (holds p s) ≡ near (p ∷ ps) (suc t) s + cond (is_near ps t p) (one (holds p s)) 0 = near_stays p ps t s (once p) in
    let from : near ps t u ≤ number (is_near ps t) (cond (holds p s) s (p ∷ s)) = left.from (is_near ps t) in
    either (holds p s) (is_near ps t p) (near ps t u) (near ps t s) (near (p ∷ ps) (suc t) s) stays (within (holds p s) from)
  where
    within : (b : Bool) → near ps t u ≤ number (is_near ps t) (cond b s (p ∷ s)) → near ps t u ≤ cond b 0 (one (is_near ps t p)) + near ps t s
    within true h = omega (arith, h)
    within false h = h

    either : (b e : Bool) (n k l : ℕ) → k + one b ≡ l + cond e (one b) 0 → n ≤ cond b 0 (one e) + k → n + one b ≤ l + one e
    either true true n k l h g = omega (arith, h, g)
    either true false n k l h g = omega (arith, h, g)
    either false true n k l h g = omega (arith, h, g)
    either false false n k l h g = omega (arith, h, g)

-- a hit of the optimum, and a miss
pub hit_exact : (p : Key) (ps a : List Key) (t : ℕ) → Once a → holds p a ≡ true → near ps t a + 1 ≡ near (p ∷ ps) (suc t) a + one (is_near ps t p)
hit_exact p ps a t once h = subst (λ (b : Bool). near ps t a + one b ≡ near (p ∷ ps) (suc t) a + cond (is_near ps t p) (one b) 0) h (near_stays p ps t a (once p))

pub miss_exact : (p : Key) (ps a : List Key) (t : ℕ) → Once a → holds p a ≡ false → near ps t a ≡ near (p ∷ ps) (suc t) a
miss_exact p ps a t once h =
    let e : near ps t a + 0 ≡ near (p ∷ ps) (suc t) a + cond (is_near ps t p) 0 0 = subst (λ (b : Bool). near ps t a + one b ≡ near (p ∷ ps) (suc t) a + cond (is_near ps t p) (one b) 0) h (near_stays p ps t a (once p)) in
    nothing (is_near ps t p) (near ps t a) (near (p ∷ ps) (suc t) a) e
  where
    nothing : (b : Bool) (n k : ℕ) → n + 0 ≡ k + cond b 0 0 → n ≡ k
    nothing true n k h = omega (arith, h)
    nothing false n k h = omega (arith, h)

-- The step, for one distance: numbers alone.
after_hit : (m n na nb d x y e : ℕ) (hb : Bool) → x + 1 ≡ na + e → nb ≤ na + d → y + one hb ≤ nb + e → y ≤ x + (d + 1) - one hb
after_hit m n na nb d x y e true a i b = omega (arith, a, i, b)
after_hit m n na nb d x y e false a i b = omega (arith, a, i, b)

after_miss : (m l na nb d x y e r : ℕ) (hb : Bool) → 1 ≤ m → one hb ≤ d → x ≡ e + r → (na ≤ m - 1 → r ≡ na) → (m - 1 < na → r ≡ m - 1) → nb ≤ na + d → y + one hb ≤ nb + e → y + 1 ≤ l + e → l ≤ m → y ≤ x + (d - one hb)
after_miss m l na nb d x y e r hb some far is least most i b there few = elim (nat_lt (m - 1) na) as (λ t. nat_lt (m - 1) na ≡ t → y ≤ x + (d - one hb)) [
  | true ↦ λ k. let r_is : r ≡ m - 1 = most (above (m - 1) na k) in omega (arith, some, far, is, r_is, there, few)
  | false ↦ λ k. let r_is : r ≡ na = least (within (m - 1) na k) in omega (arith, some, far, is, r_is, i, b)
] refl
  where
    above : (a b : ℕ) → nat_lt a b ≡ true → a < b
    above a b h = grind (arith, nat_tests)

    within : (a b : ℕ) → nat_lt a b ≡ false → b ≤ a
    within a b h = grind (arith, nat_tests)

-- the optimum has frames' pages, and so has the play; what is nearer in the play is more by no more than d
pub record Behind (m d : ℕ) (string a b : List Key) : Type 0 where
  pub few : length a ≤ m
  pub once : Once a
  pub b_few : length b ≤ m
  pub b_once : Once b
  pub near_by : (t : ℕ) → near string t b ≤ near string t a + d

first_now : (m d : ℕ) (p : Key) (ps a b : List Key) → Behind m d (p ∷ ps) a b → one (holds p b) ≤ one (holds p a) + d
first_now m d p ps a b h =
    let now : near (p ∷ ps) 1 b ≤ near (p ∷ ps) 1 a + d = h.near_by 1 in
    let nb : near (p ∷ ps) 1 b ≡ one (holds p b) = near_now p ps b ∙ page_number p b (h.b_once p) in
    let na : near (p ∷ ps) 1 a ≡ one (holds p a) = near_now p ps a ∙ page_number p a (h.once p) in
    omega (arith, now, nb, na)

hit_behind : (m d : ℕ) (p : Key) (ps a b u : List Key) → holds p a ≡ true → Behind m d (p ∷ ps) a b → MayLeave m p b u → Behind m (d + 1 - one (holds p b)) ps a u
hit_behind m d p ps a b u there h left = record {
  few = h.few;
  once = h.once;
  b_few = left.few;
  b_once = once_left p b u m h.b_once left;
  near_by = λ t.
      let e : near ps t u ≤ near ps t a + (d + 1) - one (holds p b) = after_hit m 0 (near (p ∷ ps) (suc t) a) (near (p ∷ ps) (suc t) b) d (near ps t a) (near ps t u) (one (is_near ps t p)) (holds p b) (hit_exact p ps a t h.once there) (h.near_by (suc t)) (left_few m p ps b u t h.b_once left) in
      small (holds p b) (near ps t u) (near ps t a) d e;
}
  where
    small : (b : Bool) (y x d : ℕ) → y ≤ x + (d + 1) - one b → y ≤ x + (d + 1 - one b)
    small true y x d h = omega (arith, h)
    small false y x d h = omega (arith, h)

pub room_fewer : (test : Key → Bool) (m : ℕ) (string s : List Key) → number test (room_for m string s) ≤ number test s
room_fewer test m string [] = omega arith
room_fewer test m string (r ∷ s) = elim (nat_lt (suc (length s)) m) as (λ b. number test (cond b (r ∷ s) (but_farthest string r s)) ≤ number test (r ∷ s)) [
  | true ↦ omega arith
  | false ↦ fewer r s
]
  where
    fewer : (r : Key) (s : List Key) → number test (but_farthest string r s) ≤ number test (r ∷ s)
    fewer r [] = omega arith
    fewer r (x ∷ s) =
        let keeps : number test (but_farthest string x s) ≤ number test (x ∷ s) = fewer x s in
        let other : number test (but_farthest string r s) ≤ number test (r ∷ s) = fewer r s in
        elim (nat_lt (next_use r string) (next_use x string)) as (λ b. number test (cond b (r ∷ but_farthest string x s) (x ∷ but_farthest string r s)) ≤ number test (r ∷ x ∷ s)) [
          | true ↦ omega (arith, keeps)
          | false ↦ omega (arith, other)
        ]

pub holds_none : (p : Key) (s : List Key) → number (is_page p) s ≡ 0 → holds p s ≡ false
holds_none p s h = elim (holds p s) as (λ b. holds p s ≡ b → b ≡ false) [
  | true ↦ λ is. let some : 1 ≤ number (is_page p) s = some_number p s is in absurd (omega (arith, some, h))
  | false ↦ λ is. refl
] refl

miss_behind : (m d : ℕ) (p : Key) (ps a b u : List Key) → 1 ≤ m → holds p a ≡ false → Behind m d (p ∷ ps) a b → MayLeave m p b u → Behind m (d - one (holds p b)) ps (p ∷ room_for m ps a) u
miss_behind m d p ps a b u some gone h left =
    let room : Room m ps a (room_for m ps a) = room_is m ps a some h.few in
    let far : one (holds p b) ≤ one (holds p a) + d = first_now m d p ps a b h in
    let zero_a : one (holds p a) ≡ 0 = ap one gone in
    let far_b : one (holds p b) ≤ d = omega (arith, far, zero_a) in
    let none : number (is_page p) a ≡ 0 = none_number p a gone in
    let fewer : number (is_page p) (room_for m ps a) ≤ number (is_page p) a = room_fewer (is_page p) m ps a in
    let out : holds p (room_for m ps a) ≡ false = holds_none p (room_for m ps a) (omega (arith, none, fewer)) in
    record {
      few = room.few;
      once = once_more p (room_for m ps a) (λ q. let o : number (is_page q) a ≤ 1 = h.once q in let f : number (is_page q) (room_for m ps a) ≤ number (is_page q) a = room_fewer (is_page q) m ps a in omega (arith, o, f)) out;
      b_few = left.few;
      b_once = once_left p b u m h.b_once left;
      near_by = λ t.
          let same_count : near ps t a ≡ near (p ∷ ps) (suc t) a = miss_exact p ps a t h.once gone in
          after_miss m (length u) (near (p ∷ ps) (suc t) a) (near (p ∷ ps) (suc t) b) d (near ps t (p ∷ room_for m ps a)) (near ps t u) (one (is_near ps t p)) (near ps t (room_for m ps a)) (holds p b)
          some far_b refl
          (λ g. room.least t (subst (λ (k : ℕ). k ≤ m - 1) (sym same_count) g) ∙ same_count)
          (λ g. room.most t (subst (λ (k : ℕ). m - 1 < k) (sym same_count) g))
          (h.near_by (suc t)) (left_few m p ps b u t h.b_once left) (near_there p ps t u left.there) left.few;
    }

no_less : (m : ℕ) → 1 ≤ m → (string a b : List Key) (d n : ℕ) → Behind m d string a b → Plays m b string n → optimal_from m a string ≤ n + d
no_less m some [] a b d n h play = omega arith
no_less m some (p ∷ ps) a b d n h play = elim (holds p a) as (λ t. holds p a ≡ t → cond t (optimal_from m a ps) (1 + optimal_from m (p ∷ room_for m ps a) ps) ≤ n + d) [
  | true ↦ λ there.
      let later : optimal_from m a ps ≤ play.1.0 + (d + 1 - one (holds p b)) = no_less m some ps a play.0 (d + 1 - one (holds p b)) play.1.0 (hit_behind m d p ps a b play.0 there h play.1.1.0) play.1.1.1.1 in
      hit (holds p b) n (optimal_from m a ps) play.1.0 d play.1.1.1.0 later
  | false ↦ λ gone.
      let far : one (holds p b) ≤ one (holds p a) + d = first_now m d p ps a b h in
      let zero_a : one (holds p a) ≡ 0 = ap one gone in
      let later : optimal_from m (p ∷ room_for m ps a) ps ≤ play.1.0 + (d - one (holds p b)) = no_less m some ps (p ∷ room_for m ps a) play.0 (d - one (holds p b)) play.1.0 (miss_behind m d p ps a b play.0 some gone h play.1.1.0) play.1.1.1.1 in
      miss (holds p b) n (optimal_from m (p ∷ room_for m ps a) ps) play.1.0 d play.1.1.1.0 (omega (arith, far, zero_a)) later
] refl
  where
    hit : (b : Bool) (n o l d : ℕ) → n ≡ cond b 0 1 + l → o ≤ l + (d + 1 - one b) → o ≤ n + d
    hit true n o l d is h = omega (arith, is, h)
    hit false n o l d is h = omega (arith, is, h)

    miss : (b : Bool) (n o l d : ℕ) → n ≡ cond b 0 1 + l → one b ≤ d → o ≤ l + (d - one b) → 1 + o ≤ n + d
    miss true n o l d is far h = omega (arith, is, far, h)
    miss false n o l d is far h = omega (arith, is, far, h)

pub none_misses_less : NoneMissesLess
unfolding optimal_misses
none_misses_less frames n string some play =
    let e : optimal_from frames [] string ≤ n + 0 = no_less frames some string [] [] 0 n (record {
      few = omega arith;
      once = λ q. omega arith;
      b_few = omega arith;
      b_once = λ q. omega arith;
      near_by = λ t. omega arith;
    }) play in omega (arith, e)
