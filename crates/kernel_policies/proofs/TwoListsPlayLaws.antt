-- The two lists are a way to serve a string: a proof.
use Rattle.std.specs.Prelude.{◌≡◌, ℕ, zero, suc, ◌+◌, ◌-◌, ◌*◌, ◌≤◌, ◌<◌, Bool, true, false, cond, nat_lt, List, ◌++◌, length, Option, Some, None, refl}
use Rattle.std.proofs.Common.{arith, sym, ap, ◌∙◌}
use Rattle.std.proofs.lemmas.Bool.Decides.{nat_tests}
use Rattle.clock_policy.specs.declared.key.Key.{Key}
use Rattle.page_policies.specs.Strings.{holds, without}
use Rattle.page_policies.specs.Ordered.{to_front, last_of, but_last}
use Rattle.page_policies.specs.Demand.{number, IsPlayed}
use Rattle.page_policies.proofs.NumberLaws.{less, most}
use Rattle.page_policies.proofs.PartLaws.{number_append, holds_append, there_first, there_second, length_parts, front_there, number_front, length_front, number_out, length_out, length_but_last, number_but_last, last_split, some_last, hit_leaves, miss_leaves, Serves, served_plays}
use Rattle.ticked_policies.specs.declared.arrival.Arrival.{Arrival}
use Rattle.kernel_policies.specs.declared.two_lists_parts.TwoListsParts.{TwoListsParts}
use Rattle.kernel_policies.specs.TwoLists.{ListsState, accessed, activated, arrives_marked, balanced, came, demoted, empty_lists, evicted, in_lists, is_low, left, marked_as, no_shadow, oldest_gone, placed, ratio_of, reclaimed, refaults, resident, room_made, shadows_cut, two_lists, two_lists_misses, with_head}

-- the pages in frames
abbrev pages : ListsState → List Key
pages s = s.active ++ s.inactive

abbrev count : (Key → Bool) → ListsState → ℕ
count test s = number test s.inactive + number test s.active

found : (p : Key) (s : ListsState) → in_lists p s ≡ holds p (pages s)
found p s = sym (holds_append p s.active s.inactive)

size : (s : ListsState) → length (pages s) ≡ resident s
size s = let e : length (s.active ++ s.inactive) ≡ length s.active + length s.inactive = length_parts s.active s.inactive in omega (arith, e)

counted : (test : Key → Bool) (s : ListsState) → number test (pages s) ≡ count test s
counted test s = let e : number test (s.active ++ s.inactive) ≡ number test s.active + number test s.inactive = number_append test s.active s.inactive in omega (arith, e)

-- no page comes in
record Keeps (s t : ListsState) : Type 0 where
  few : resident t ≤ resident s
  fewer : (test : Key → Bool) → count test t ≤ count test s

demotes_by : (o : Option Key) (s : ListsState) → last_of s.active ≡ o → Keeps s (record s { active = but_last s.active; inactive = with_head o s.inactive })
demotes_by None s is =
    let e : length (but_last s.active) ≡ length s.active - 1 = length_but_last s.active in record {
      few = omega (arith, e);
      fewer = λ test. let f : number test (but_last s.active) ≤ number test s.active = number_but_last test s.active in omega (arith, f);
    }
demotes_by (Some q) s is =
    let e : length (but_last s.active) ≡ length s.active - 1 = length_but_last s.active in
    let one : 1 ≤ length s.active = some_last s.active q is in
    let l : length (to_front q s.inactive) ≤ length s.inactive + 1 = length_front q s.inactive in record {
      few = omega (arith, e, one, l);
      fewer = λ test.
          let f : number test (but_last s.active) + cond (test q) 1 0 ≡ number test s.active = last_split test s.active q is in
          let g : number test (to_front q s.inactive) ≤ number test s.inactive + cond (test q) 1 0 = number_front test q s.inactive in omega (arith, f, g);
    }

demotes : (s : ListsState) → Keeps s (demoted s)
demotes s = demotes_by (last_of s.active) s refl

-- pages have gone to the inactive list until it is not low
record Balances (ratio : ℕ) (s t : ListsState) : Type 0 where
  keeps : Keeps s t
  enough : is_low ratio t ≡ false

balances : (ratio n : ℕ) (s : ListsState) → length s.active ≤ n → Balances ratio s (balanced ratio n s)
balances ratio zero s h = record { keeps = record { few = omega arith; fewer = λ test. omega arith }; enough = none (length s.inactive * ratio) (length s.active) (omega (arith, h)) }
  where
    none : (a b : ℕ) → b ≤ 0 → nat_lt a b ≡ false
    none a b h = grind (arith, nat_tests)
balances ratio (suc n) s h = elim (is_low ratio s) as (λ b. is_low ratio s ≡ b → Balances ratio s (cond b (balanced ratio n (demoted s)) s)) [
  | true ↦ λ low.
      let e : length (but_last s.active) ≡ length s.active - 1 = length_but_last s.active in
      let k : Keeps s (demoted s) = demotes s in
      let b : Balances ratio (demoted s) (balanced ratio n (demoted s)) = balances ratio n (demoted s) (omega (arith, e, h)) in
      record {
        keeps = record {
          few = let f : resident (demoted s) ≤ resident s = k.few in let g : resident (balanced ratio n (demoted s)) ≤ resident (demoted s) = b.keeps.few in omega (arith, f, g);
          fewer = λ test. let f : count test (demoted s) ≤ count test s = k.fewer test in let g : count test (balanced ratio n (demoted s)) ≤ count test (demoted s) = b.keeps.fewer test in omega (arith, f, g);
        };
        enough = b.enough;
      }
  | false ↦ λ low. record { keeps = record { few = omega arith; fewer = λ test. omega arith }; enough = low }
] refl

-- room for one page
record Room (m : ℕ) (s t : ListsState) : Type 0 where
  few : resident t < m
  fewer : (test : Key → Bool) → count test t ≤ count test s

-- the lists are those with one page less
same_lists : (o : Option Key) (s : ListsState) → ((left o s).inactive ≡ s.inactive) × ((left o s).active ≡ s.active)
same_lists None s = (refl, refl)
same_lists (Some q) s = (refl, refl)

evicts : (m ratio : ℕ) (s : ListsState) → 1 ≤ m → resident s ≤ m → is_low ratio s ≡ false → Room m s (evicted s)
evicts m ratio s some few enough =
    let one : length (evicted s).inactive ≡ length (but_last s.inactive) = ap length (same_lists (last_of s.inactive) (record s { inactive = but_last s.inactive })).0 in
    let two : length (evicted s).active ≡ length s.active = ap length (same_lists (last_of s.inactive) (record s { inactive = but_last s.inactive })).1 in
    let e : length (but_last s.inactive) ≡ length s.inactive - 1 = length_but_last s.inactive in
    let full : length s.inactive ≡ 0 → length s.active ≡ 0 = λ none. no_active (length s.inactive) (length s.active) ratio none enough in
    record {
      few = fewer_by (length s.inactive) (length s.active) (length (evicted s).inactive) (length (evicted s).active) m some few full (one ∙ e) two;
      fewer = λ test.
          let n1 : number test (evicted s).inactive ≡ number test (but_last s.inactive) = ap (number test) (same_lists (last_of s.inactive) (record s { inactive = but_last s.inactive })).0 in
          let n2 : number test (evicted s).active ≡ number test s.active = ap (number test) (same_lists (last_of s.inactive) (record s { inactive = but_last s.inactive })).1 in
          let f : number test (but_last s.inactive) ≤ number test s.inactive = number_but_last test s.inactive in omega (arith, n1, n2, f);
    }
  where
    no_active : (i a ratio : ℕ) → i ≡ 0 → nat_lt (i * ratio) a ≡ false → a ≡ 0
    no_active zero a ratio none h = let f : a ≤ 0 * ratio = most (0 * ratio) a h in omega (arith, f)
    no_active (suc i) a ratio none h = absurd (omega (arith, none))

    fewer_by : (i a j b m : ℕ) → 1 ≤ m → i + a ≤ m → (i ≡ 0 → a ≡ 0) → j ≡ i - 1 → b ≡ a → j + b < m
    fewer_by zero a j b m some few full one two = let none : a ≡ 0 = full refl in omega (arith, none, one, two, some)
    fewer_by (suc i) a j b m some few full one two = omega (arith, one, two, few)

-- shadows are no pages in frames
cuts : (m : ℕ) (s t : ListsState) → Room m s t → Room m s (shadows_cut m t)
cuts m s t r = elim (nat_lt m (length t.shadows)) as (λ b. Room m s (cond b (oldest_gone t) t)) [ true ↦ record { few = r.few; fewer = r.fewer } | false ↦ r ]

reclaims : (m ratio : ℕ) (s : ListsState) → 1 ≤ m → resident s ≤ m → Room m s (reclaimed m ratio s)
reclaims m ratio s some few =
    let b : Balances ratio s (balanced ratio (length s.active) s) = balances ratio (length s.active) s (omega arith) in
    let f : resident (balanced ratio (length s.active) s) ≤ resident s = b.keeps.few in
    let r : Room m (balanced ratio (length s.active) s) (evicted (balanced ratio (length s.active) s)) = evicts m ratio (balanced ratio (length s.active) s) some (omega (arith, f, few)) b.enough in
    cuts m s (evicted (balanced ratio (length s.active) s)) (record {
      few = r.few;
      fewer = λ test.
          let g : count test (evicted (balanced ratio (length s.active) s)) ≤ count test (balanced ratio (length s.active) s) = r.fewer test in
          let h : count test (balanced ratio (length s.active) s) ≤ count test s = b.keeps.fewer test in omega (arith, g, h);
    })

room_is : (m ratio : ℕ) (s : ListsState) → 1 ≤ m → resident s ≤ m → Room m s (room_made m ratio s)
room_is m ratio s some few = elim (nat_lt (resident s) m) as (λ b. nat_lt (resident s) m ≡ b → Room m s (cond b s (reclaimed m ratio s))) [
  | true ↦ λ h. record { few = less (resident s) m h; fewer = λ test. omega arith }
  | false ↦ λ h. reclaims m ratio s some few
] refl

-- the page comes in where there is room for it
record Fetches (m : ℕ) (p : Key) (s t : ListsState) : Type 0 where
  few : resident t ≤ m
  there : holds p (pages t) ≡ true
  from : (test : Key → Bool) → count test t ≤ count test s + cond (test p) 1 0

fetches : (m : ℕ) (arrival : Arrival) (p : Key) (s : ListsState) → resident s < m → Fetches m p s (came arrival p s)
fetches m arrival p s few = by (refaults p s)
  where
    by : (b : Bool) → Fetches m p s (marked_as (arrives_marked arrival) p (placed b p (no_shadow p s)))
    by true = let l : length (to_front p s.active) ≤ length s.active + 1 = length_front p s.active in record {
      few = omega (arith, l, few);
      there = there_first p (to_front p s.active) s.inactive (front_there p s.active);
      from = λ test. let f : number test (to_front p s.active) ≤ number test s.active + cond (test p) 1 0 = number_front test p s.active in omega (arith, f);
    }
    by false = let l : length (to_front p s.inactive) ≤ length s.inactive + 1 = length_front p s.inactive in record {
      few = omega (arith, l, few);
      there = there_second p s.active (to_front p s.inactive) (front_there p s.inactive);
      from = λ test. let f : number test (to_front p s.inactive) ≤ number test s.inactive + cond (test p) 1 0 = number_front test p s.inactive in omega (arith, f);
    }

-- a page that is there is used, and all stay
record Stays (p : Key) (s t : ListsState) : Type 0 where
  few : resident t ≤ resident s
  there : holds p (pages t) ≡ true
  from : (test : Key → Bool) → count test t ≤ count test s

stays : (p : Key) (s : ListsState) → in_lists p s ≡ true → Stays p s (accessed p s)
stays p s h = by (holds p s.active) refl (s.referenced p)
  where
    as_it_is : (t : ListsState) → pages t ≡ pages s → resident t ≡ resident s → ((test : Key → Bool) → count test t ≡ count test s) → Stays p s t
    as_it_is t same few counts = record {
      few = omega (arith, few);
      there = ap (holds p) same ∙ sym (found p s) ∙ h;
      from = λ test. let e : count test t ≡ count test s = counts test in omega (arith, e);
    }

    inactive : (b : Bool) → holds p s.active ≡ b → b ≡ false → in_lists p s ≡ true → holds p s.inactive ≡ true
    inactive b is none there = sym (ap (λ (c : Bool). cond c true (holds p s.inactive)) (is ∙ none)) ∙ there

    by : (b : Bool) → holds p s.active ≡ b → (c : Bool) → Stays p s (cond b (marked_as true p s) (cond c (activated p s) (marked_as true p s)))
    by true is c = as_it_is (marked_as true p s) refl refl (λ test. refl)
    by false is false = as_it_is (marked_as true p s) refl refl (λ test. refl)
    by false is true =
        let held : holds p s.inactive ≡ true = inactive false is refl h in
        let l : length (to_front p s.active) ≤ length s.active + 1 = length_front p s.active in
        let o : length (without p s.inactive) + 1 ≡ length s.inactive = length_out p s.inactive held in record {
          few = omega (arith, l, o);
          there = there_first p (to_front p s.active) (without p s.inactive) (front_there p s.active);
          from = λ test.
              let f : number test (to_front p s.active) ≤ number test s.active + cond (test p) 1 0 = number_front test p s.active in
              let g : number test (without p s.inactive) + cond (test p) 1 0 ≡ number test s.inactive = number_out test p s.inactive held in omega (arith, f, g);
        }

serves : (m ratio : ℕ) (arrival : Arrival) → 1 ≤ m → (p : Key) (s : ListsState) → resident s ≤ m → Serves m pages (λ t. resident t ≤ m) in_lists p s (two_lists m ratio arrival p s)
serves m ratio arrival some p s few = elim (in_lists p s) as (λ b. in_lists p s ≡ b → Serves m pages (λ t. resident t ≤ m) in_lists p s (cond b (accessed p s) (came arrival p (room_made m ratio s)))) [
  | true ↦ λ h.
      let k : Stays p s (accessed p s) = stays p s h in
      let f : resident (accessed p s) ≤ resident s = k.few in record {
        found = found p s;
        leaves = hit_leaves m p (pages s) (pages (accessed p s)) (sym h ∙ found p s) k.there (let e : length (pages (accessed p s)) ≡ resident (accessed p s) = size (accessed p s) in omega (arith, e, f, few))
            (λ test.
            let a : number test (pages (accessed p s)) ≡ count test (accessed p s) = counted test (accessed p s) in
            let b : number test (pages s) ≡ count test s = counted test s in
            let c : count test (accessed p s) ≤ count test s = k.from test in omega (arith, a, b, c));
        lawful_after = omega (arith, f, few);
      }
  | false ↦ λ h.
      let r : Room m s (room_made m ratio s) = room_is m ratio s some few in
      let k : Fetches m p (room_made m ratio s) (came arrival p (room_made m ratio s)) = fetches m arrival p (room_made m ratio s) r.few in
      let f : resident (came arrival p (room_made m ratio s)) ≤ m = k.few in record {
        found = found p s;
        leaves = miss_leaves m p (pages s) (pages (came arrival p (room_made m ratio s))) (sym h ∙ found p s) k.there
            (let e : length (pages (came arrival p (room_made m ratio s))) ≡ resident (came arrival p (room_made m ratio s)) = size (came arrival p (room_made m ratio s)) in omega (arith, e, f))
            (λ test.
            let a : number test (pages (came arrival p (room_made m ratio s))) ≡ count test (came arrival p (room_made m ratio s)) = counted test (came arrival p (room_made m ratio s)) in
            let b : number test (pages s) ≡ count test s = counted test s in
            let c : count test (room_made m ratio s) ≤ count test s = r.fewer test in
            let d : count test (came arrival p (room_made m ratio s)) ≤ count test (room_made m ratio s) + cond (test p) 1 0 = k.from test in omega (arith, a, b, c, d));
        lawful_after = f;
      }
] refl

pub two_lists_played : (parts : TwoListsParts) → IsPlayed (two_lists_misses parts)
unfolding two_lists_misses
two_lists_played parts frames string some =
    served_plays frames pages (λ t. resident t ≤ frames) in_lists (two_lists frames (ratio_of parts.ratio frames) parts.arrival) (serves frames (ratio_of parts.ratio frames) parts.arrival some) empty_lists string (omega arith)
