-- W-TinyLFU is a way to serve a string: a proof.
use Rattle.std.specs.Prelude.{◌≡◌, ℕ, zero, suc, ◌+◌, ◌-◌, ◌*◌, ◌/◌, ◌<◌, ◌≤◌, ◌==◌, Bool, true, false, cond, nat_lt, max, List, ◌∷◌, ◌++◌, length, take, Option, Some, None, refl}
use Rattle.std.proofs.Common.{arith, sym, ap, subst, ◌∙◌}
use Rattle.std.proofs.Math.Nat.{mul-le-mul_left}
use Rattle.clock_policy.specs.declared.key.Key.{Key}
use Rattle.page_policies.specs.Strings.{is_page, holds, without}
use Rattle.page_policies.specs.Ordered.{to_front, last_of, but_last}
use Rattle.page_policies.specs.Demand.{number, IsPlayed}
use Rattle.page_policies.proofs.PlayedLaws.{here}
use Rattle.page_policies.proofs.NumberLaws.{less, most}
use Rattle.page_policies.proofs.PartLaws.{number_append, holds_append, there_first, there_second, there_counted, counts_itself, length_parts, front_there, number_front, number_moved, number_out, length_front, length_moved, length_out, length_but_last, number_but_last, last_split, none_last, some_last, hit_leaves, miss_leaves, Serves, served_plays}
use Rattle.tiny_lfu.specs.Sketch.{estimate}
use Rattle.tiny_lfu.specs.declared.shares.TinyLfuShares.{TinyLfuShares}
use Rattle.tiny_lfu.specs.declared.shares.TinyLfuRooms.{TinyLfuRooms}
use Rattle.tiny_lfu.specs.WTinyLfu.{WTinyLfuState, rooms_of, opening, joined, settled, promoted, window_used, protected_used, used, victim, victim_out, let_in, contested, admitted, window_cut, brought, in_w_tiny_lfu, noted, w_tiny_lfu, w_tiny_lfu_misses}

-- the pages in frames
abbrev pages : WTinyLfuState → List Key
pages s = s.window ++ (s.probation ++ s.protected)

-- how many the main cache has
abbrev main : WTinyLfuState → ℕ
main s = length s.probation + length s.protected

abbrev room : WTinyLfuState → ℕ
room s = length s.window + main s

abbrev main_count : (Key → Bool) → WTinyLfuState → ℕ
main_count test s = number test s.probation + number test s.protected

abbrev count : (Key → Bool) → WTinyLfuState → ℕ
count test s = number test s.window + main_count test s

size : (s : WTinyLfuState) → length (pages s) ≡ room s
size s =
    let a : length (pages s) ≡ length s.window + length (s.probation ++ s.protected) = length_parts s.window (s.probation ++ s.protected) in
    let b : length (s.probation ++ s.protected) ≡ main s = length_parts s.probation s.protected in omega (arith, a, b)

counted : (test : Key → Bool) (s : WTinyLfuState) → number test (pages s) ≡ count test s
counted test s =
    let a : number test (pages s) ≡ number test s.window + number test (s.probation ++ s.protected) = number_append test s.window (s.probation ++ s.protected) in
    let b : number test (s.probation ++ s.protected) ≡ main_count test s = number_append test s.probation s.protected in omega (arith, a, b)

found : (p : Key) (s : WTinyLfuState) → in_w_tiny_lfu p s ≡ holds p (pages s)
found p s = by_bits (holds p s.protected) (holds p s.window) (holds p s.probation)
    ∙ sym (holds_append p s.window (s.probation ++ s.protected) ∙ ap (λ (b : Bool). cond (holds p s.window) true b) (holds_append p s.probation s.protected))
  where
    by_bits : (a b c : Bool) → cond a true (cond b true c) ≡ cond b true (cond c true a)
    by_bits true true true = refl
    by_bits true true false = refl
    by_bits true false true = refl
    by_bits true false false = refl
    by_bits false true true = refl
    by_bits false true false = refl
    by_bits false false true = refl
    by_bits false false false = refl

-- the frames of the window and those of the main cache
record Divided (r : TinyLfuRooms) : Type 0 where
  some : 1 ≤ r.window
  whole : r.window + r.main ≡ r.frames

-- A protected page that is on probation again: all pages are there, and none more often.
record Settles (s t : WTinyLfuState) : Type 0 where
  window : t.window ≡ s.window
  few : main t ≤ main s
  fewer : (test : Key → Bool) → main_count test t ≤ main_count test s
  kept : (p : Key) → 1 ≤ number (is_page p) s.protected → holds p (t.probation ++ t.protected) ≡ true

settles_out : (s : WTinyLfuState) (o : Option Key) → last_of s.protected ≡ o → 1 ≤ length s.protected → Settles s (record { window = s.window; probation = joined o s.probation; protected = but_last s.protected; sketch = s.sketch })
settles_out s None is some = absurd (let e : length s.protected ≡ 0 = none_last s.protected is in omega (arith, e, some))
settles_out s (Some b) is some =
    let e : length (but_last s.protected) ≡ length s.protected - 1 = length_but_last s.protected in
    let k : length (to_front b s.probation) ≤ length s.probation + 1 = length_front b s.probation in record {
      window = refl;
      few = omega (arith, e, k, some);
      fewer = λ test.
          let g : number test (but_last s.protected) + cond (test b) 1 0 ≡ number test s.protected = last_split test s.protected b is in
          let h : number test (to_front b s.probation) ≤ number test s.probation + cond (test b) 1 0 = number_front test b s.probation in omega (arith, g, h);
      kept = λ p some. there_counted p (to_front b s.probation ++ but_last s.protected)
          (let g : number (is_page p) (but_last s.protected) + cond (is_page p b) 1 0 ≡ number (is_page p) s.protected = last_split (is_page p) s.protected b is in
          let a : number (is_page p) (to_front b s.probation ++ but_last s.protected) ≡ number (is_page p) (to_front b s.probation) + number (is_page p) (but_last s.protected) = number_append (is_page p) (to_front b s.probation) (but_last s.protected) in
          omega (arith, g, a, some));
    }

settles : (r : TinyLfuRooms) (s : WTinyLfuState) → Settles s (settled r s)
settles r s = elim (nat_lt r.protected (length s.protected)) as (λ b. nat_lt r.protected (length s.protected) ≡ b → Settles s (cond b (record { window = s.window; probation = joined (last_of s.protected) s.probation; protected = but_last s.protected; sketch = s.sketch }) s)) [
  | true ↦ λ h. settles_out s (last_of s.protected) refl (let g : r.protected < length s.protected = less r.protected (length s.protected) h in above r.protected (length s.protected) g)
  | false ↦ λ h. record { window = refl; few = omega arith; fewer = λ test. omega arith; kept = λ p some. there_second p s.probation s.protected (there_counted p s.protected some) }
] refl
  where
    above : (a b : ℕ) → a < b → 1 ≤ b
    above a b h = omega (arith, h)

record Lawful (r : TinyLfuRooms) (s : WTinyLfuState) : Type 0 where
  few_window : length s.window ≤ r.window
  few_main : main s ≤ r.main

all_fit : (r : TinyLfuRooms) (s : WTinyLfuState) → Divided r → Lawful r s → room s ≤ r.frames
all_fit r s some lawful = fits (length s.window) (main s) r.window r.main r.frames lawful.few_window lawful.few_main some.whole
  where
    fits : (a b c d m : ℕ) → a ≤ c → b ≤ d → c + d ≡ m → a + b ≤ m
    fits a b c d m f g e = omega (arith, f, g, e)

-- a hit: the page is there, and nothing else is that was not
record Uses (r : TinyLfuRooms) (p : Key) (s t : WTinyLfuState) : Type 0 where
  there : holds p (pages t) ≡ true
  from : (test : Key → Bool) → count test t ≤ count test s
  lawful_after : Lawful r t

uses_protected : (r : TinyLfuRooms) (p : Key) (s : WTinyLfuState) → Lawful r s → holds p s.protected ≡ true → Uses r p s (protected_used p s)
uses_protected r p s lawful h = record {
  there = there_second p s.window (s.probation ++ to_front p s.protected) (there_second p s.probation (to_front p s.protected) (front_there p s.protected));
  from = λ test. let e : number test (to_front p s.protected) ≡ number test s.protected = number_moved test p s.protected h in omega (arith, e);
  lawful_after = record {
    few_window = lawful.few_window;
    few_main = let e : length (to_front p s.protected) ≡ length s.protected = length_moved p s.protected h in sums (length s.probation) (length (to_front p s.protected)) (length s.protected) r.main e lawful.few_main;
  };
}
  where
    sums : (a b c d : ℕ) → b ≡ c → a + c ≤ d → a + b ≤ d
    sums a b c d e f = omega (arith, e, f)

uses_window : (r : TinyLfuRooms) (p : Key) (s : WTinyLfuState) → Lawful r s → holds p s.window ≡ true → Uses r p s (window_used p s)
uses_window r p s lawful h = record {
  there = there_first p (to_front p s.window) (s.probation ++ s.protected) (front_there p s.window);
  from = λ test. let e : number test (to_front p s.window) ≡ number test s.window = number_moved test p s.window h in omega (arith, e);
  lawful_after = record {
    few_window = subst (λ (n : ℕ). n ≤ r.window) (sym (length_moved p s.window h)) lawful.few_window;
    few_main = lawful.few_main;
  };
}

uses_probation : (r : TinyLfuRooms) (p : Key) (s : WTinyLfuState) → Lawful r s → holds p s.probation ≡ true → Uses r p s (promoted r p s)
uses_probation r p s lawful h =
    let t : WTinyLfuState = record { window = s.window; probation = without p s.probation; protected = to_front p s.protected; sketch = s.sketch } in
    let d : Settles (record { window = s.window; probation = without p s.probation; protected = to_front p s.protected; sketch = s.sketch }) (promoted r p s) =
    settles r (record { window = s.window; probation = without p s.probation; protected = to_front p s.protected; sketch = s.sketch }) in
    let o : length (without p s.probation) + 1 ≡ length s.probation = length_out p s.probation h in
    let l : length (to_front p s.protected) ≤ length s.protected + 1 = length_front p s.protected in
    let f : main (promoted r p s) ≤ length (without p s.probation) + length (to_front p s.protected) = d.few in
    record {
      there = there_second p (promoted r p s).window ((promoted r p s).probation ++ (promoted r p s).protected)
          (d.kept p (let e : ◌≡◌ {A = ℕ} (cond (is_page p p) 1 0) 1 = counts_itself p in omega (arith, e)));
      from = λ test.
          let w : number test (promoted r p s).window ≡ number test s.window = ap (number test) d.window in
          let g : main_count test (promoted r p s) ≤ number test (without p s.probation) + number test (to_front p s.protected) = d.fewer test in
          let a : number test (without p s.probation) + cond (test p) 1 0 ≡ number test s.probation = number_out test p s.probation h in
          let b : number test (to_front p s.protected) ≤ number test s.protected + cond (test p) 1 0 = number_front test p s.protected in omega (arith, w, g, a, b);
      lawful_after = record {
        few_window = subst (λ (w : List Key). length w ≤ r.window) (sym d.window) lawful.few_window;
        few_main = sums (main (promoted r p s)) (length (without p s.probation)) (length (to_front p s.protected)) (length s.probation) (length s.protected) r.main f o l lawful.few_main;
      };
    }
  where
    sums : (n a b c d k : ℕ) → n ≤ a + b → a + 1 ≡ c → b ≤ d + 1 → c + d ≤ k → n ≤ k
    sums n a b c d k f o l g = omega (arith, f, o, l, g)

uses : (r : TinyLfuRooms) (p : Key) (s : WTinyLfuState) → Lawful r s → in_w_tiny_lfu p s ≡ true → Uses r p s (used r p s)
uses r p s lawful h = elim (holds p s.protected) as (λ b. holds p s.protected ≡ b → cond b true (cond (holds p s.window) true (holds p s.probation)) ≡ true → Uses r p s (cond b (protected_used p s) (cond (holds p s.window) (window_used p s) (promoted r p s)))) [
  | true ↦ λ is g. uses_protected r p s lawful is
  | false ↦ λ is g. elim (holds p s.window) as (λ b. holds p s.window ≡ b → cond b true (holds p s.probation) ≡ true → Uses r p s (cond b (window_used p s) (promoted r p s))) [
    | true ↦ λ at k. uses_window r p s lawful at
    | false ↦ λ at k. uses_probation r p s lawful k
  ] refl g
] refl h

-- the victim leaves
record Leaves (s t : WTinyLfuState) : Type 0 where
  window : t.window ≡ s.window
  few : main t + 1 ≤ main s
  fewer : (test : Key → Bool) → main_count test t ≤ main_count test s

victim_leaves : (s : WTinyLfuState) (v : Key) → victim s ≡ Some v → Leaves s (victim_out s)
victim_leaves s v is = elim (length s.probation == 0) as (λ b. (length s.probation == 0) ≡ b → cond b (last_of s.protected) (last_of s.probation) ≡ Some v → Leaves s (cond b (record { window = s.window; probation = s.probation; protected = but_last s.protected; sketch = s.sketch })
    (record { window = s.window; probation = but_last s.probation; protected = s.protected; sketch = s.sketch }))) [
      | true ↦ λ h g.
          let some : 1 ≤ length s.protected = some_last s.protected v g in
          let e : length (but_last s.protected) ≡ length s.protected - 1 = length_but_last s.protected in
          record { window = refl; few = omega (arith, some, e); fewer = λ test. let n : number test (but_last s.protected) ≤ number test s.protected = number_but_last test s.protected in omega (arith, n) }
      | false ↦ λ h g.
          let some : 1 ≤ length s.probation = some_last s.probation v g in
          let e : length (but_last s.probation) ≡ length s.probation - 1 = length_but_last s.probation in
          record { window = refl; few = omega (arith, some, e); fewer = λ test. let n : number test (but_last s.probation) ≤ number test s.probation = number_but_last test s.probation in omega (arith, n) }
    ] refl is

-- a candidate comes in, or does not
record Admits (r : TinyLfuRooms) (c : Key) (s t : WTinyLfuState) : Type 0 where
  window : t.window ≡ s.window
  few : main t ≤ r.main
  fewer : (test : Key → Bool) → main_count test t ≤ main_count test s + cond (test c) 1 0

lets_in : (r : TinyLfuRooms) (c : Key) (s : WTinyLfuState) → main s < r.main → Admits r c s (let_in c s)
lets_in r c s less =
    let l : length (to_front c s.probation) ≤ length s.probation + 1 = length_front c s.probation in record {
      window = refl;
      few = sums (length (to_front c s.probation)) (length s.probation) (length s.protected) r.main l less;
      fewer = λ test. let n : number test (to_front c s.probation) ≤ number test s.probation + cond (test c) 1 0 = number_front test c s.probation in omega (arith, n);
    }
  where
    sums : (a b d k : ℕ) → a ≤ b + 1 → b + d < k → a + d ≤ k
    sums a b d k l h = omega (arith, l, h)

contests : (r : TinyLfuRooms) (c : Key) (s : WTinyLfuState) (o : Option Key) → main s ≤ r.main → victim s ≡ o → Admits r c s (contested r c o s)
contests r c s None few is = record { window = refl; few = few; fewer = λ test. omega arith }
contests r c s (Some v) few is = elim (nat_lt (estimate r.width v s.sketch.counts) (estimate r.width c s.sketch.counts)) as (λ b. Admits r c s (cond b (let_in c (victim_out s)) s)) [
  | true ↦
      let t : Leaves s (victim_out s) = victim_leaves s v is in
      let a : Admits r c (victim_out s) (let_in c (victim_out s)) = lets_in r c (victim_out s) (below (main (victim_out s)) (main s) r.main t.few few) in record {
        window = t.window;
        few = a.few;
        fewer = λ test.
            let f : main_count test (let_in c (victim_out s)) ≤ main_count test (victim_out s) + cond (test c) 1 0 = a.fewer test in
            let g : main_count test (victim_out s) ≤ main_count test s = t.fewer test in omega (arith, f, g);
      }
  | false ↦ record { window = refl; few = few; fewer = λ test. omega arith }
]
  where
    below : (a b k : ℕ) → a + 1 ≤ b → b ≤ k → a < k
    below a b k f g = omega (arith, f, g)

admits : (r : TinyLfuRooms) (c : Key) (s : WTinyLfuState) → main s ≤ r.main → Admits r c s (admitted r (Some c) s)
admits r c s few = elim (nat_lt (main s) r.main) as (λ b. nat_lt (main s) r.main ≡ b → Admits r c s (cond b (let_in c s) (contested r c (victim s) s))) [
  | true ↦ λ h. lets_in r c s (less (main s) r.main h)
  | false ↦ λ h. contests r c s (victim s) few refl
] refl

-- The window has no more pages than frames again. The page at its front stays.
record Cuts (r : TinyLfuRooms) (s t : WTinyLfuState) : Type 0 where
  few_window : length s.window ≤ r.window + 1 → length t.window ≤ r.window
  few_main : main t ≤ r.main
  fewer : (test : Key → Bool) → count test t ≤ count test s
  stays : (p : Key) (l : List Key) → s.window ≡ p ∷ l → holds p t.window ≡ true

front_stays : (p : Key) (l w : List Key) → w ≡ p ∷ l → 2 ≤ length w → holds p (but_last w) ≡ true
front_stays p l w is two = subst (λ (v : List Key). holds p (but_last v) ≡ true) (sym is) (at (suc (length l) - 1) (let e : length w ≡ suc (length l) = ap length is in omega (arith, e, two)))
  where
    at : (n : ℕ) → 1 ≤ n → holds p (take n (p ∷ l)) ≡ true
    at zero h = absurd (omega (arith, h))
    at (suc n) h = here p (take n l)

cuts_last : (r : TinyLfuRooms) (s : WTinyLfuState) (o : Option Key) → 1 ≤ r.window → main s ≤ r.main → last_of s.window ≡ o → r.window < length s.window → Cuts r s (admitted r o (record { window = but_last s.window; probation = s.probation; protected = s.protected; sketch = s.sketch }))
cuts_last r s None some few is more = absurd (let e : length s.window ≡ 0 = none_last s.window is in empty r.window (length s.window) e more)
  where
    empty : (a b : ℕ) → b ≡ 0 → a < b → ⊥
    empty a b e h = omega (arith, e, h)
cuts_last r s (Some c) some few is more =
    let cut : WTinyLfuState = record { window = but_last s.window; probation = s.probation; protected = s.protected; sketch = s.sketch } in
    let a : Admits r c cut (admitted r (Some c) cut) = admits r c cut few in
    let e : length (but_last s.window) ≡ length s.window - 1 = length_but_last s.window in record {
      few_window = λ h. subst (λ (w : List Key). length w ≤ r.window) (sym a.window) (one (length (but_last s.window)) (length s.window) r.window e h);
      few_main = a.few;
      fewer = λ test.
          let w : number test (admitted r (Some c) cut).window ≡ number test (but_last s.window) = ap (number test) a.window in
          let f : main_count test (admitted r (Some c) cut) ≤ main_count test s + cond (test c) 1 0 = a.fewer test in
          let g : number test (but_last s.window) + cond (test c) 1 0 ≡ number test s.window = last_split test s.window c is in
          sums (number test (admitted r (Some c) cut).window) (number test (but_last s.window)) (number test s.window) (main_count test (admitted r (Some c) cut)) (main_count test s) (cond (test c) 1 0) w f g;
      stays = λ p l at. subst (λ (w : List Key). holds p w ≡ true) (sym a.window) (front_stays p l s.window at (two r.window (length s.window) some more));
    }
  where
    one : (a b k : ℕ) → a ≡ b - 1 → b ≤ k + 1 → a ≤ k
    one a b k e h = omega (arith, e, h)

    two : (a b : ℕ) → 1 ≤ a → a < b → 2 ≤ b
    two a b f g = omega (arith, f, g)

    sums : (w v u n k x : ℕ) → w ≡ v → n ≤ k + x → v + x ≡ u → w + n ≤ u + k
    sums w v u n k x e f g = omega (arith, e, f, g)

cuts : (r : TinyLfuRooms) (s : WTinyLfuState) → 1 ≤ r.window → main s ≤ r.main → Cuts r s (window_cut r s)
cuts r s some few = elim (nat_lt r.window (length s.window)) as (λ b. nat_lt r.window (length s.window) ≡ b → Cuts r s (cond b (admitted r (last_of s.window) (record { window = but_last s.window; probation = s.probation; protected = s.protected; sketch = s.sketch })) s)) [
  | true ↦ λ h. cuts_last r s (last_of s.window) some few refl (less r.window (length s.window) h)
  | false ↦ λ h. record {
    few_window = λ g. most r.window (length s.window) h;
    few_main = few;
    fewer = λ test. omega arith;
    stays = λ p l at. subst (λ (w : List Key). holds p w ≡ true) (sym at) (here p l);
  }
] refl

hits : (r : TinyLfuRooms) (p : Key) (s : WTinyLfuState) → Divided r → Lawful r s → true ≡ in_w_tiny_lfu p s → Serves r.frames pages (Lawful r) in_w_tiny_lfu p s (used r p (noted r p s))
hits r p s some lawful is =
    let t : WTinyLfuState = used r p (noted r p s) in
    let u : Uses r p (noted r p s) (used r p (noted r p s)) = uses r p (noted r p s) (record { few_window = lawful.few_window; few_main = lawful.few_main }) (sym is) in record {
      found = found p s;
      leaves = hit_leaves r.frames p (pages s) (pages (used r p (noted r p s))) (is ∙ found p s) u.there
          (subst (λ (n : ℕ). n ≤ r.frames) (sym (size (used r p (noted r p s)))) (all_fit r (used r p (noted r p s)) some u.lawful_after))
          (λ test.
          let a : number test (pages (used r p (noted r p s))) ≡ count test (used r p (noted r p s)) = counted test (used r p (noted r p s)) in
          let b : number test (pages s) ≡ count test s = counted test s in
          let c : count test (used r p (noted r p s)) ≤ count test s = u.from test in
          three (number test (pages (used r p (noted r p s)))) (count test (used r p (noted r p s))) (count test s) (number test (pages s)) a c b);
      lawful_after = u.lawful_after;
    }
  where
    three : (a b c d : ℕ) → a ≡ b → b ≤ c → d ≡ c → a ≤ d
    three a b c d e f g = omega (arith, e, f, g)

misses_bring : (r : TinyLfuRooms) (p : Key) (s : WTinyLfuState) → Divided r → Lawful r s → false ≡ in_w_tiny_lfu p s → Serves r.frames pages (Lawful r) in_w_tiny_lfu p s (brought r p (noted r p s))
misses_bring r p s some lawful out =
    let w : WTinyLfuState = window_used p (noted r p s) in
    let c : Cuts r (window_used p (noted r p s)) (brought r p (noted r p s)) = cuts r (window_used p (noted r p s)) some.some lawful.few_main in
    let l : length (to_front p s.window) ≤ length s.window + 1 = length_front p s.window in
    let after : Lawful r (brought r p (noted r p s)) = record {
      few_window = c.few_window (one (length (to_front p s.window)) (length s.window) r.window l lawful.few_window);
      few_main = c.few_main;
    } in record {
      found = found p s;
      leaves = miss_leaves r.frames p (pages s) (pages (brought r p (noted r p s))) (out ∙ found p s)
          (there_first p (brought r p (noted r p s)).window ((brought r p (noted r p s)).probation ++ (brought r p (noted r p s)).protected) (c.stays p (without p s.window) refl))
          (subst (λ (n : ℕ). n ≤ r.frames) (sym (size (brought r p (noted r p s)))) (all_fit r (brought r p (noted r p s)) some after))
          (λ test.
          let a : number test (pages (brought r p (noted r p s))) ≡ count test (brought r p (noted r p s)) = counted test (brought r p (noted r p s)) in
          let b : number test (pages s) ≡ count test s = counted test s in
          let f : count test (brought r p (noted r p s)) ≤ number test (to_front p s.window) + main_count test s = c.fewer test in
          let g : number test (to_front p s.window) ≤ number test s.window + cond (test p) 1 0 = number_front test p s.window in
          sums (number test (pages (brought r p (noted r p s)))) (count test (brought r p (noted r p s))) (number test (to_front p s.window)) (number test s.window) (main_count test s) (cond (test p) 1 0) (number test (pages s)) a f g b);
      lawful_after = after;
    }
  where
    one : (a b k : ℕ) → a ≤ b + 1 → b ≤ k → a ≤ k + 1
    one a b k l h = omega (arith, l, h)

    sums : (a b c d e x n : ℕ) → a ≡ b → b ≤ c + e → c ≤ d + x → n ≡ d + e → a ≤ n + x
    sums a b c d e x n f g h k = omega (arith, f, g, h, k)

serves : (r : TinyLfuRooms) → Divided r → (p : Key) (s : WTinyLfuState) → Lawful r s → Serves r.frames pages (Lawful r) in_w_tiny_lfu p s (w_tiny_lfu r p s)
serves r some p s lawful = elim (in_w_tiny_lfu p s) as (λ b. b ≡ in_w_tiny_lfu p s → Serves r.frames pages (Lawful r) in_w_tiny_lfu p s (cond b (used r p (noted r p s)) (brought r p (noted r p s)))) [
  | true ↦ λ is. hits r p s some lawful is
  | false ↦ λ out. misses_bring r p s some lawful out
] refl

divided : (shares : TinyLfuShares) (m : ℕ) → 1 ≤ m → shares.window ≤ 100 → Divided (rooms_of shares m)
divided shares m some most = record { some = least (m * shares.window / 100); whole = parts (max (m * shares.window / 100) 1) (within (m * shares.window / 100) part) }
  where
    least : (k : ℕ) → 1 ≤ max k 1
    least k = grind arith

    part : m * shares.window / 100 ≤ m
    part = let e : m * shares.window ≤ m * 100 = mul-le-mul_left m most in omega (arith, e)

    within : (k : ℕ) → k ≤ m → max k 1 ≤ m
    within k h = grind (arith, some, h)

    parts : (w : ℕ) → w ≤ m → w + (m - w) ≡ m
    parts w h = omega (arith, h)

pub w_tiny_lfu_played : (shares : TinyLfuShares) → shares.window ≤ 100 → IsPlayed (w_tiny_lfu_misses shares)
unfolding w_tiny_lfu_misses
w_tiny_lfu_played shares most frames string some =
    served_plays frames pages (Lawful (rooms_of shares frames)) in_w_tiny_lfu (w_tiny_lfu (rooms_of shares frames)) (serves (rooms_of shares frames) (divided shares frames some most)) (opening (rooms_of shares frames)) string
    (record { few_window = omega arith; few_main = omega arith })
