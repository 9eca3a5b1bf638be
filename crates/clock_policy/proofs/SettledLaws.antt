-- "A hand on what went rests on the next that stays" composes: moves that take entries out one after another leave the hands where one
-- move with the same outcome leaves them.
use Rattle.std.specs.Prelude.{◌≡◌, suc, Bool, true, false, ◌||◌, cond, Option, Some, None, find, filter, List, [], ◌∷◌, ◌++◌, take, drop, refl}
use Rattle.std.specs.List.{list_any}
use Rattle.std.specs.Option.{option_or}
use Rattle.std.proofs.Common.{arith, sym, ap, ◌∙◌, append_assoc, append-nil}
use Rattle.std.proofs.lemmas.List.Folds.{find-append}
use Rattle.std.proofs.Math.Bool.{or-true}
use Rattle.clock_policy.proofs.FindLaws.{found_passes, option_or-none, find_same}
use Rattle.clock_policy.specs.declared.key.Key.{Key}
use Rattle.clock_policy.specs.declared.entry.Entry.{Entry}
use Rattle.clock_policy.specs.ClockPro.{has_key, place, round, found_key, settled}
use Rattle.clock_policy.specs.Residents.{is_key}
use Rattle.clock_policy.proofs.AdmitLaws.{one_key, is_key_self}

-- Lists of keys.

pub is_one_key : (k q : Key) → is_key k q ≡ true → q ≡ k
is_one_key k q h = one_key q k (parts k q h).0 (parts k q h).1
  where
    parts : (k q : Key) → is_key k q ≡ true → (q.process ≡ k.process) × (q.vpn ≡ k.vpn)
    parts k q h = grind arith

abbrev pub keys : List Entry → List Key
keys [] = []
keys (e ∷ es) = e.key ∷ keys es

abbrev pub among : List Key → Key → Bool
among [] k = false
among (q ∷ qs) k = is_key k q || among qs k

-- no key stands twice
abbrev pub DistinctKeys : List Key → Type 0
DistinctKeys [] = Unit {0}
DistinctKeys (k ∷ ks) = (among ks k ≡ false) × DistinctKeys ks

-- the keys from the one on, and those before it
abbrev pub from_key : Key → List Key → List Key
from_key k [] = []
from_key k (q ∷ qs) = cond (is_key k q) (q ∷ qs) (from_key k qs)

abbrev pub before_key : Key → List Key → List Key
before_key k [] = []
before_key k (q ∷ qs) = cond (is_key k q) [] (q ∷ before_key k qs)

-- a test that implies another
abbrev pub Within : (Key → Bool) → (Key → Bool) → Type 0
Within q p = (k : Key) → q k ≡ true → p k ≡ true

no_of : (p q : Key → Bool) → Within q p → (k : Key) → p k ≡ false → q k ≡ false
no_of p q less k fails =
    elim (q k) as (λ t. q k ≡ t → t ≡ false) [
      | true ↦ λ is. let other : p k ≡ true = less k is in cc
      | false ↦ λ is. refl
    ] refl

find_none_of_less : (p q : Key → Bool) → Within q p → (ks : List Key) → find p ks ≡ None → find q ks ≡ None
find_none_of_less p q less [] h = refl
find_none_of_less p q less (k ∷ ks) h =
    elim (p k) as (λ t. p k ≡ t → cond t (Some k) (find p ks) ≡ None → find q (k ∷ ks) ≡ None) [
      | true ↦ λ is g. cc
      | false ↦ λ is g. rw (no_of p q less k is) (find_none_of_less p q less ks g)
    ] refl h

found_among : (p : Key → Bool) (ks : List Key) (y : Key) → find p ks ≡ Some y → among ks y ≡ true
found_among p [] y h = cc
found_among p (k ∷ ks) y h =
    elim (p k) as (λ t. cond t (Some k) (find p ks) ≡ Some y → is_key y k || among ks y ≡ true) [
      | true ↦ λ g. let same : k ≡ y = cc in rw (same, is_key_self y) refl
      | false ↦ λ g. rw (found_among p ks y g) (or-true (is_key y k))
    ] h

-- a key that fails the test is not one that passes it
not_key : (p : Key → Bool) (y k : Key) → p y ≡ true → p k ≡ false → is_key y k ≡ false
not_key p y k holds fails =
    elim (is_key y k) as (λ t. is_key y k ≡ t → t ≡ false) [
      | true ↦ λ is. let same : p k ≡ p y = ap p (is_one_key y k is) in cc
      | false ↦ λ is. refl
    ] refl

-- From the first key that passes one test, a narrower test finds the same as from the front.

from_found : (p q : Key → Bool) → Within q p → (ks : List Key) (y : Key) → find p ks ≡ Some y → find q (from_key y ks) ≡ find q ks
from_found p q less [] y h = refl
from_found p q less (k ∷ ks) y h =
    elim (p k) as (λ t. p k ≡ t → cond t (Some k) (find p ks) ≡ Some y → find q (cond (is_key y k) (k ∷ ks) (from_key y ks)) ≡ find q (k ∷ ks)) [
      | true ↦ λ is g. let same : k ≡ y = cc in rw (same, is_key_self y) refl
      | false ↦ λ is g. rw (not_key p y k (found_passes p ks y g) is, no_of p q less k is) (from_found p q less ks y g)
    ] refl h

before_found : (p q : Key → Bool) → Within q p → (ks : List Key) (y : Key) → find p ks ≡ Some y → find q (before_key y ks) ≡ None
before_found p q less [] y h = refl
before_found p q less (k ∷ ks) y h =
    elim (p k) as (λ t. p k ≡ t → cond t (Some k) (find p ks) ≡ Some y → find q (cond (is_key y k) [] (k ∷ before_key y ks)) ≡ None) [
      | true ↦ λ is g. let same : k ≡ y = cc in rw (same, is_key_self y) refl
      | false ↦ λ is g. rw (not_key p y k (found_passes p ks y g) is, no_of p q less k is) (before_found p q less ks y g)
    ] refl h

-- Two lists, one behind the other.

from_right : (y : Key) (u v : List Key) → among u y ≡ false → from_key y (u ++ v) ≡ from_key y v
from_right y [] v h = refl
from_right y (k ∷ ks) v h =
    elim (is_key y k) as (λ t. t || among ks y ≡ false → cond t (k ∷ (ks ++ v)) (from_key y (ks ++ v)) ≡ from_key y v) [ true ↦ λ g. cc | false ↦ λ g. from_right y ks v g ] h

before_right : (y : Key) (u v : List Key) → among u y ≡ false → before_key y (u ++ v) ≡ u ++ before_key y v
before_right y [] v h = refl
before_right y (k ∷ ks) v h =
    elim (is_key y k) as (λ t. t || among ks y ≡ false → cond t [] (k ∷ before_key y (ks ++ v)) ≡ k ∷ (ks ++ before_key y v)) [ true ↦ λ g. cc | false ↦ λ g. ap (λ (l : List Key). k ∷ l) (before_right y ks v g) ] h

from_left : (y : Key) (u v : List Key) → among u y ≡ true → from_key y (u ++ v) ≡ from_key y u ++ v
from_left y [] v h = cc
from_left y (k ∷ ks) v h =
    elim (is_key y k) as (λ t. t || among ks y ≡ true → cond t (k ∷ (ks ++ v)) (from_key y (ks ++ v)) ≡ cond t (k ∷ ks) (from_key y ks) ++ v) [ true ↦ λ g. refl | false ↦ λ g. from_left y ks v g ] h

before_left : (y : Key) (u v : List Key) → among u y ≡ true → before_key y (u ++ v) ≡ before_key y u
before_left y [] v h = cc
before_left y (k ∷ ks) v h =
    elim (is_key y k) as (λ t. t || among ks y ≡ true → cond t [] (k ∷ before_key y (ks ++ v)) ≡ cond t [] (k ∷ before_key y ks)) [ true ↦ λ g. refl | false ↦ λ g. ap (λ (l : List Key). k ∷ l) (before_left y ks v g) ] h

pub among-append : (y : Key) (u v : List Key) → among (u ++ v) y ≡ among u y || among v y
among-append y [] v = refl
among-append y (k ∷ ks) v =
    elim (is_key y k) as (λ t. t || among (ks ++ v) y ≡ (t || among ks y) || among v y) [ true ↦ refl | false ↦ among-append y ks v ]

-- a key of one part stands not in the other
pub apart_left : (y : Key) (u v : List Key) → DistinctKeys (u ++ v) → among v y ≡ true → among u y ≡ false
apart_left y [] v apart h = refl
apart_left y (k ∷ ks) v apart h =
    elim (is_key y k) as (λ t. is_key y k ≡ t → t || among ks y ≡ false) [
      | true ↦ λ is.
          let same : k ≡ y = is_one_key y k is in
          let gone : among ks k || among v k ≡ false = sym (among-append k ks v) ∙ apart.0 in
          let there : among v k ≡ true = rw same h in
          let both : among ks k || true ≡ false = rw there at gone in
          let holds : among ks k || true ≡ true = or-true (among ks k) in
          cc
      | false ↦ λ is. apart_left y ks v apart.1 h
    ] refl

-- Where a hand rests: from the key's place on, once round, the first key that passes the test.

abbrev pub rest : (Key → Bool) → List Key → Option Key → Option Key
rest q ks None = find q ks
rest q ks (Some k) = find q (from_key k ks ++ before_key k ks)

-- one list turned
pub rest_turned : (q : Key → Bool) (u v : List Key) (y : Key) → DistinctKeys (u ++ v) → among (u ++ v) y ≡ true → rest q (v ++ u) (Some y) ≡ rest q (u ++ v) (Some y)
rest_turned q u v y apart there =
    elim (among v y) as (λ t. among v y ≡ t → rest q (v ++ u) (Some y) ≡ rest q (u ++ v) (Some y)) [
      | true ↦ λ is.
          let other : among u y ≡ false = apart_left y u v apart is in
          rw (from_left y v u is, before_left y v u is, from_right y u v other, before_right y u v other) (ap (find q) (append_assoc (from_key y v) u (before_key y v)))
      | false ↦ λ is.
          let here : among u y ≡ true = first (among u y) (among v y) is (sym (among-append y u v) ∙ there) in
          rw (from_right y v u is, before_right y v u is, from_left y u v here, before_left y u v here) (ap (find q) (sym (append_assoc (from_key y u) v (before_key y u))))
    ] refl
  where
    first : (a b : Bool) → b ≡ false → a || b ≡ true → a ≡ true
    first true b gone h = refl
    first false b gone h = cc

-- one hand after another
pub rest_again : (p q : Key → Bool) → Within q p → (u v : List Key) (y : Key) → DistinctKeys (u ++ v) → find p (v ++ u) ≡ Some y → rest q (u ++ v) (Some y) ≡ find q (v ++ u)
rest_again p q less u v y apart h =
    elim (find p v) as (λ t. find p v ≡ t → option_or t (find p u) ≡ Some y → rest q (u ++ v) (Some y) ≡ find q (v ++ u)) [
      | None ↦ λ is g.
          let here : among u y ≡ true = found_among p u y g in
          let nothing : find q v ≡ None = find_none_of_less p q less v is in
          rw (from_left y u v here, before_left y u v here, find-append q (from_key y u ++ v) (before_key y u), find-append q (from_key y u) v, before_found p q less u y g, from_found p q less u y g, find-append q v u, nothing)
          (option_or-none (option_or (find q u) None) ∙ option_or-none (find q u))
      | Some x ↦ λ is g.
          let same : x ≡ y = cc in
          let found : find p v ≡ Some y = rw (← same) is in
          let there : among v y ≡ true = found_among p v y found in
          let other : among u y ≡ false = apart_left y u v apart there in
          rw (from_right y u v other, before_right y u v other, find-append q (from_key y v) (u ++ before_key y v), find-append q u (before_key y v), before_found p q less v y found, from_found p q less v y found, find-append q v u)
          (ap (option_or (find q v)) (option_or-none (find q u)))
    ] refl (sym (find-append p v u) ∙ h)

-- the list without what fails a test
find_filter : (p q : Key → Bool) → Within q p → (ks : List Key) → find q (filter p ks) ≡ find q ks
find_filter p q less [] = refl
find_filter p q less (k ∷ ks) =
    elim (p k) as (λ t. p k ≡ t → find q (cond t (k ∷ filter p ks) (filter p ks)) ≡ find q (k ∷ ks)) [
      | true ↦ λ is. elim (q k) as (λ t. cond t (Some k) (find q (filter p ks)) ≡ cond t (Some k) (find q ks)) [ true ↦ refl | false ↦ find_filter p q less ks ]
      | false ↦ λ is. rw (no_of p q less k is) (find_filter p q less ks)
    ] refl

from_filter : (p : Key → Bool) (y : Key) → p y ≡ true → (ks : List Key) → from_key y (filter p ks) ≡ filter p (from_key y ks)
from_filter p y holds [] = refl
from_filter p y holds (k ∷ ks) =
    elim (p k) as (λ t. p k ≡ t → from_key y (cond t (k ∷ filter p ks) (filter p ks)) ≡ filter p (cond (is_key y k) (k ∷ ks) (from_key y ks))) [
      | true ↦ λ is. elim (is_key y k) as (λ t. cond t (k ∷ filter p ks) (from_key y (filter p ks)) ≡ filter p (cond t (k ∷ ks) (from_key y ks))) [ true ↦ rw is refl | false ↦ from_filter p y holds ks ]
      | false ↦ λ is. rw (not_key p y k holds is) (from_filter p y holds ks)
    ] refl

before_filter : (p : Key → Bool) (y : Key) → p y ≡ true → (ks : List Key) → before_key y (filter p ks) ≡ filter p (before_key y ks)
before_filter p y holds [] = refl
before_filter p y holds (k ∷ ks) =
    elim (p k) as (λ t. p k ≡ t → before_key y (cond t (k ∷ filter p ks) (filter p ks)) ≡ filter p (cond (is_key y k) [] (k ∷ before_key y ks))) [
      | true ↦ λ is. elim (is_key y k) as (λ t. cond t [] (k ∷ before_key y (filter p ks)) ≡ filter p (cond t [] (k ∷ before_key y ks))) [ true ↦ refl | false ↦ rw is (ap (λ (l : List Key). k ∷ l) (before_filter p y holds ks)) ]
      | false ↦ λ is. rw (not_key p y k holds is, is) (before_filter p y holds ks)
    ] refl

pub rest_filter : (p q : Key → Bool) → Within q p → (y : Key) → p y ≡ true → (ks : List Key) → rest q (filter p ks) (Some y) ≡ rest q ks (Some y)
rest_filter p q less y holds ks =
    rw (from_filter p y holds ks, before_filter p y holds ks, find-append q (filter p (from_key y ks)) (filter p (before_key y ks)), find_filter p q less (from_key y ks), find_filter p q less (before_key y ks), find-append q (from_key y ks) (before_key y ks)) refl

-- Entries and their keys.

pub keys-append : (a b : List Entry) → keys (a ++ b) ≡ keys a ++ keys b
keys-append [] b = refl
keys-append (e ∷ es) b = ap (λ (l : List Key). e.key ∷ l) (keys-append es b)

find_keys : (q : Key → Bool) (l : List Entry) → found_key (find (λ e. q e.key) l) ≡ find q (keys l)
find_keys q [] = refl
find_keys q (e ∷ es) =
    elim (q e.key) as (λ t. found_key (cond t (Some e) (find (λ e. q e.key) es)) ≡ cond t (Some e.key) (find q (keys es))) [ true ↦ refl | false ↦ find_keys q es ]

pub stays_among : (l : List Entry) (k : Key) → list_any (has_key k) l ≡ among (keys l) k
stays_among [] k = refl
stays_among (e ∷ es) k = ap (λ (t : Bool). is_key k e.key || t) (stays_among es k)

from_place : (k : Key) (l : List Entry) → keys (drop (place k l) l) ≡ from_key k (keys l)
from_place k [] = refl
from_place k (e ∷ es) =
    elim (has_key k e) as (λ t. keys (drop (cond t 0 (suc (place k es))) (e ∷ es)) ≡ cond t (e.key ∷ keys es) (from_key k (keys es))) [ true ↦ refl | false ↦ from_place k es ]

before_place : (k : Key) (l : List Entry) → keys (take (place k l) l) ≡ before_key k (keys l)
before_place k [] = refl
before_place k (e ∷ es) =
    elim (has_key k e) as (λ t. keys (take (cond t 0 (suc (place k es))) (e ∷ es)) ≡ cond t [] (e.key ∷ before_key k (keys es))) [ true ↦ refl | false ↦ ap (λ (l : List Key). e.key ∷ l) (before_place k es) ]

pub settled_rest : (old new : List Entry) (hand : Option Key) → settled old new hand ≡ rest (among (keys new)) (keys old) hand
unfolding settled
settled_rest old new None =
    find_keys (λ k. list_any (has_key k) new) (round 0 old)
    ∙ find_same (λ k. list_any (has_key k) new) (among (keys new)) (stays_among new) (keys (round 0 old))
    ∙ ap (find (among (keys new))) (keys-append old [] ∙ append-nil (keys old))
settled_rest old new (Some k) =
    find_keys (λ q. list_any (has_key q) new) (round (place k old) old)
    ∙ find_same (λ q. list_any (has_key q) new) (among (keys new)) (stays_among new) (keys (round (place k old) old))
    ∙ ap (find (among (keys new))) (keys-append (drop (place k old) old) (take (place k old) old) ∙ ap (λ (l : List Key). l ++ keys (take (place k old) old)) (from_place k old) ∙ ap (λ (l : List Key). from_key k (keys old) ++ l) (before_place k old))

-- Two moves as one.

split_key : (k : Key) (ks : List Key) → before_key k ks ++ from_key k ks ≡ ks
split_key k [] = refl
split_key k (q ∷ qs) =
    elim (is_key k q) as (λ t. cond t [] (q ∷ before_key k qs) ++ cond t (q ∷ qs) (from_key k qs) ≡ q ∷ qs) [ true ↦ refl | false ↦ ap (λ (l : List Key). q ∷ l) (split_key k qs) ]

none_swapped : (p : Key → Bool) (a b : List Key) → find p (a ++ b) ≡ None → find p (b ++ a) ≡ None
none_swapped p a b h = find-append p b a ∙ swap (find p a) (find p b) (sym (find-append p a b) ∙ h)
  where
    swap : (x y : Option Key) → option_or x y ≡ None → option_or y x ≡ None
    swap None None h = refl
    swap None (Some k) h = cc
    swap (Some k) y h = cc

rest_composes : (p q : Key → Bool) → Within q p → (u v m a b : List Key) → a ++ b ≡ u ++ v → m ≡ filter p (v ++ u) → DistinctKeys (u ++ v) → rest q m (find p (b ++ a)) ≡ find q (b ++ a)
rest_composes p q less u v m a b parts is apart =
    elim (find p (b ++ a)) as (λ t. find p (b ++ a) ≡ t → rest q m t ≡ find q (b ++ a)) [
      | None ↦ λ h.
          let nothing : find p (u ++ v) ≡ None = ap (find p) (sym parts) ∙ none_swapped p b a h in
          let left : find q m ≡ None = ap (find q) is ∙ find_filter p q less (v ++ u) ∙ find_none_of_less p q less (v ++ u) (none_swapped p u v nothing) in
          left ∙ sym (find_none_of_less p q less (b ++ a) h)
      | Some y ↦ λ h.
          let holds : p y ≡ true = found_passes p (b ++ a) y h in
          let found : among (b ++ a) y ≡ true = found_among p (b ++ a) y h in
          let there : among (u ++ v) y ≡ true = ap (λ (l : List Key). among l y) (sym parts) ∙ among-append y a b ∙ or_swapped (among b y) (among a y) (sym (among-append y b a) ∙ found) in
          let one : rest q m (Some y) ≡ rest q (v ++ u) (Some y) = ap (λ (l : List Key). rest q l (Some y)) is ∙ rest_filter p q less y holds (v ++ u) in
          let two : rest q (u ++ v) (Some y) ≡ rest q (a ++ b) (Some y) = ap (λ (l : List Key). rest q l (Some y)) (sym parts) in
          one ∙ rest_turned q u v y apart there ∙ two ∙ rest_again p q less a b y (rw parts apart) h
    ] refl
  where
    or_swapped : (x y : Bool) → x || y ≡ true → y || x ≡ true
    or_swapped true y h = or-true y
    or_swapped false true h = refl
    or_swapped false false h = h

-- the list keeps some keys of the old one, in their order clockwise, wherever it begins
pub record Clockwise (old mid : List Entry) : Type 0 where
  pub passed : List Key
  pub ahead : List Key
  pub parts : keys old ≡ passed ++ ahead
  pub kept : keys mid ≡ filter (among (keys mid)) (ahead ++ passed)

-- A hand that was settled once, and once more, rests where it is settled at once.
pub settled_composes : (old mid new : List Entry) (hand : Option Key) → DistinctKeys (keys old) → Clockwise old mid → Within (among (keys new)) (among (keys mid)) →
    settled mid new (settled old mid hand) ≡ settled old new hand
settled_composes old mid new hand apart order less =
    ap (settled mid new) (settled_rest old mid hand)
    ∙ settled_rest mid new (rest (among (keys mid)) (keys old) hand)
    ∙ by_hand hand
    ∙ sym (settled_rest old new hand)
  where
    by_hand : (hand : Option Key) → rest (among (keys new)) (keys mid) (rest (among (keys mid)) (keys old) hand) ≡ rest (among (keys new)) (keys old) hand
    by_hand None =
        let p : Key → Bool = among (keys mid) in
        let q : Key → Bool = among (keys new) in
        ap (λ (l : List Key). rest q (keys mid) (find p l)) (sym (append-nil (keys old)))
        ∙ rest_composes p q less order.passed order.ahead (keys mid) [] (keys old) order.parts order.kept (rw order.parts at apart)
        ∙ ap (find q) (append-nil (keys old))
    by_hand (Some k) =
        rest_composes (among (keys mid)) (among (keys new)) less order.passed order.ahead (keys mid) (before_key k (keys old)) (from_key k (keys old)) (split_key k (keys old) ∙ order.parts) order.kept (rw order.parts at apart)
