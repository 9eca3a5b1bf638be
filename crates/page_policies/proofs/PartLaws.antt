-- Pages in several lists, counted: what a policy that keeps more than one list of pages is a way to serve a string by.
use Rattle.std.specs.Prelude.{◌≡◌, ℕ, zero, suc, ◌+◌, ◌-◌, ◌≤◌, Bool, true, false, cond, List, [], ◌∷◌, ◌++◌, length, take, slice_get, Option, Some, None, refl}
use Rattle.std.proofs.Common.{arith, sym, ap, subst, ◌∙◌}
use Rattle.clock_policy.specs.declared.key.Key.{Key}
use Rattle.page_policies.specs.Strings.{is_page, holds, without, misses}
use Rattle.page_policies.specs.Ordered.{to_front, last_of, but_last}
use Rattle.page_policies.proofs.QueueLaws.{itself, same, absent}
use Rattle.page_policies.specs.Demand.{number, MayLeave, Plays}
use Rattle.page_policies.proofs.CountLaws.{none_number}
use Rattle.page_policies.proofs.PlayedLaws.{here, taken_number}

pub number_append : (test : Key → Bool) (a b : List Key) → number test (a ++ b) ≡ number test a + number test b
number_append test [] b = omega arith
number_append test (q ∷ qs) b = let later : number test (qs ++ b) ≡ number test qs + number test b = number_append test qs b in omega (arith, later)

pub holds_append : (p : Key) (a b : List Key) → holds p (a ++ b) ≡ cond (holds p a) true (holds p b)
holds_append p [] b = refl
holds_append p (q ∷ qs) b = elim (is_page p q) as (λ t. cond t true (holds p (qs ++ b)) ≡ cond (cond t true (holds p qs)) true (holds p b)) [ true ↦ refl | false ↦ holds_append p qs b ]

pub length_parts : (a b : List Key) → length (a ++ b) ≡ length a + length b
length_parts [] b = omega arith
length_parts (q ∷ qs) b = let later : length (qs ++ b) ≡ length qs + length b = length_parts qs b in omega (arith, later)

pub there_first : (p : Key) (a b : List Key) → holds p a ≡ true → holds p (a ++ b) ≡ true
there_first p a b h = holds_append p a b ∙ ap (λ (t : Bool). cond t true (holds p b)) h

pub there_second : (p : Key) (a b : List Key) → holds p b ≡ true → holds p (a ++ b) ≡ true
there_second p a b h = holds_append p a b ∙ ap (λ (t : Bool). cond (holds p a) true t) h ∙ either (holds p a)
  where
    either : (t : Bool) → cond t true true ≡ true
    either true = refl
    either false = refl

-- a page that is counted is there
pub there_counted : (p : Key) (s : List Key) → 1 ≤ number (is_page p) s → holds p s ≡ true
there_counted p s some = elim (holds p s) as (λ b. holds p s ≡ b → b ≡ true) [
  | true ↦ λ h. refl
  | false ↦ λ h. absurd (let none : number (is_page p) s ≡ 0 = none_number p s h in omega (arith, some, none))
] refl

pub counts_itself : (p : Key) → ◌≡◌ {A = ℕ} (cond (is_page p p) 1 0) 1
counts_itself p = ap (λ (b : Bool). let n : ℕ = cond b 1 0 in n) (itself p)

-- a page that is taken out

pub number_out : (test : Key → Bool) (p : Key) (s : List Key) → holds p s ≡ true → number test (without p s) + cond (test p) 1 0 ≡ number test s
number_out test p [] h = cc
number_out test p (q ∷ qs) h = elim (is_page p q) as (λ b. is_page p q ≡ b → cond b true (holds p qs) ≡ true → number test (cond b qs (q ∷ without p qs)) + cond (test p) 1 0 ≡ number test (q ∷ qs)) [
  | true ↦ λ is g. rw (same p q is) (omega arith)
  | false ↦ λ is g. let later : number test (without p qs) + cond (test p) 1 0 ≡ number test qs = number_out test p qs g in omega (arith, later)
] refl h

pub number_fewer : (test : Key → Bool) (p : Key) (s : List Key) → number test (without p s) ≤ number test s
number_fewer test p s = elim (holds p s) as (λ b. holds p s ≡ b → number test (without p s) ≤ number test s) [
  | true ↦ λ h. let e : number test (without p s) + cond (test p) 1 0 ≡ number test s = number_out test p s h in omega (arith, e)
  | false ↦ λ h. rw (absent p s h) (omega arith)
] refl

pub length_out : (p : Key) (s : List Key) → holds p s ≡ true → length (without p s) + 1 ≡ length s
length_out p [] h = cc
length_out p (q ∷ qs) h = elim (is_page p q) as (λ b. cond b true (holds p qs) ≡ true → length (cond b qs (q ∷ without p qs)) + 1 ≡ suc (length qs)) [
  | true ↦ λ g. omega arith
  | false ↦ λ g. let later : length (without p qs) + 1 ≡ length qs = length_out p qs g in omega (arith, later)
] h

pub length_fewer : (p : Key) (s : List Key) → length (without p s) ≤ length s
length_fewer p s = elim (holds p s) as (λ b. holds p s ≡ b → length (without p s) ≤ length s) [
  | true ↦ λ h. let e : length (without p s) + 1 ≡ length s = length_out p s h in omega (arith, e)
  | false ↦ λ h. rw (absent p s h) (omega arith)
] refl

-- the last one

pub length_but_last : (s : List Key) → length (but_last s) ≡ length s - 1
length_but_last s = taken (length s - 1) s (omega arith)
  where
    taken : (n : ℕ) (s : List Key) → n ≤ length s → length (take n s) ≡ n
    taken zero s h = refl
    taken (suc n) [] h = absurd (omega (arith, h))
    taken (suc n) (q ∷ qs) h = ap suc (taken n qs (omega (arith, h)))

pub number_but_last : (test : Key → Bool) (s : List Key) → number test (but_last s) ≤ number test s
number_but_last test s = taken_number test (length s - 1) s

pub last_split : (test : Key → Bool) (s : List Key) (p : Key) → last_of s ≡ Some p → number test (but_last s) + cond (test p) 1 0 ≡ number test s
last_split test [] p is = cc
last_split test (q ∷ qs) p is = let e : suc (length qs) - 1 ≡ length qs = omega arith in
    subst (λ (n : ℕ). number test (take n (q ∷ qs)) + cond (test p) 1 0 ≡ number test (q ∷ qs)) (sym e) (from q qs (sym (ap (slice_get (q ∷ qs)) e) ∙ is))
  where
    from : (q : Key) (qs : List Key) → slice_get (q ∷ qs) (length qs) ≡ Some p → number test (take (length qs) (q ∷ qs)) + cond (test p) 1 0 ≡ number test (q ∷ qs)
    from q [] is = rw (some q p is) (omega arith)
      where
        some : (q p : Key) → (let o : Option Key = Some q in o) ≡ Some p → q ≡ p
        some q p h = cc
    from q (r ∷ rs) is = let later : number test (take (length rs) (r ∷ rs)) + cond (test p) 1 0 ≡ number test (r ∷ rs) = from r rs is in omega (arith, later)

pub last_there : (s : List Key) (p : Key) → last_of s ≡ Some p → holds p s ≡ true
last_there s p is =
    let e : number (is_page p) (but_last s) + cond (is_page p p) 1 0 ≡ number (is_page p) s = last_split (is_page p) s p is in
    let one : ◌≡◌ {A = ℕ} (cond (is_page p p) 1 0) 1 = counts_itself p in there_counted p s (omega (arith, e, one))

pub some_last : (s : List Key) (p : Key) → last_of s ≡ Some p → 1 ≤ length s
some_last [] p is = cc
some_last (q ∷ qs) p is = omega arith

pub none_last : (s : List Key) → last_of s ≡ None → length s ≡ 0
none_last [] is = refl
none_last (q ∷ qs) is = let e : suc (length qs) - 1 ≡ length qs = omega arith in absurd (some q qs (sym (ap (slice_get (q ∷ qs)) e) ∙ is))
  where
    some : (q : Key) (qs : List Key) → slice_get (q ∷ qs) (length qs) ≡ None → ⊥
    some q [] is = cc
    some q (r ∷ rs) is = some r rs is

-- The page comes to the front: it is there, and nothing else is that was not.

pub front_there : (p : Key) (s : List Key) → holds p (to_front p s) ≡ true
front_there p s = here p (without p s)

pub number_front : (test : Key → Bool) (p : Key) (s : List Key) → number test (to_front p s) ≤ number test s + cond (test p) 1 0
number_front test p s = let e : number test (without p s) ≤ number test s = number_fewer test p s in omega (arith, e)

pub number_moved : (test : Key → Bool) (p : Key) (s : List Key) → holds p s ≡ true → number test (to_front p s) ≡ number test s
number_moved test p s h = let e : number test (without p s) + cond (test p) 1 0 ≡ number test s = number_out test p s h in omega (arith, e)

pub length_front : (p : Key) (s : List Key) → length (to_front p s) ≤ length s + 1
length_front p s = let e : length (without p s) ≤ length s = length_fewer p s in omega (arith, e)

pub length_moved : (p : Key) (s : List Key) → holds p s ≡ true → length (to_front p s) ≡ length s
length_moved p s h = let e : length (without p s) + 1 ≡ length s = length_out p s h in omega (arith, e)

-- what a hit may leave, and a miss

pub hit_leaves : (m : ℕ) (p : Key) (s u : List Key) → true ≡ holds p s → holds p u ≡ true → length u ≤ m → ((test : Key → Bool) → number test u ≤ number test s) → MayLeave m p s u
hit_leaves m p s u h there few from = record { there = there; few = few; from = λ test. subst (λ (b : Bool). number test u ≤ number test (cond b s (p ∷ s))) h (from test) }

pub miss_leaves : (m : ℕ) (p : Key) (s u : List Key) → false ≡ holds p s → holds p u ≡ true → length u ≤ m → ((test : Key → Bool) → number test u ≤ number test s + cond (test p) 1 0) → MayLeave m p s u
miss_leaves m p s u h there few from = record {
  there = there;
  few = few;
  from = λ test. subst (λ (b : Bool). number test u ≤ number test (cond b s (p ∷ s))) h (let e : number test u ≤ number test s + cond (test p) 1 0 = from test in omega (arith, e));
}

-- Where each reference leaves what it may, and what is so of the state that it begins with is so of the one that it leaves, the
-- whole is a way to serve any string.
pub record Serves {S : Type 0} (m : ℕ) (pages : S → List Key) (lawful : S → Type 0) (held : Key → S → Bool) (p : Key) (s t : S) : Type 0 where
  pub found : held p s ≡ holds p (pages s)
  pub leaves : MayLeave m p (pages s) (pages t)
  pub lawful_after : lawful t

pub served_plays : {S : Type 0} → (m : ℕ) (pages : S → List Key) (lawful : S → Type 0) (held : Key → S → Bool) (next : Key → S → S)
    → ((p : Key) (s : S) → lawful s → Serves m pages lawful held p s (next p s)) → (s : S) (string : List Key) → lawful s → Plays m (pages s) string (misses held next s string)
served_plays m pages lawful held next serves s [] so = refl
served_plays m pages lawful held next serves s (p ∷ ps) so = let now : Serves m pages lawful held p s (next p s) = serves p s so in (
  pages (next p s),
  (misses held next (next p s) ps, (now.leaves, (ap (λ (b : Bool). cond b 0 1 + misses held next (next p s) ps) now.found, served_plays m pages lawful held next serves (next p s) ps now.lawful_after))),
)
