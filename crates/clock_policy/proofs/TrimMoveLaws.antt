-- The trimming's equation is single moves, one after another: each entry from the test hand on ends its test, up to the first shadow.
use Rattle.std.specs.Prelude.{◌≡◌, ℕ, suc, ◌+◌, ◌-◌, ◌≤◌, max, Bool, true, false, ◌||◌, cond, Option, Some, find, List, [], ◌∷◌, ◌++◌, take, drop, set, refl}
use Rattle.std.proofs.Common.{arith, sym, ap, ◌∙◌, append_assoc, append-nil}
use Rattle.std.proofs.lemmas.List.{take-append-drop}
use Rattle.std.proofs.lemmas.List.Folds.{list_any-append}
use Rattle.clock_policy.specs.declared.key.Key.{Key}
use Rattle.clock_policy.specs.declared.entry.Entry.{Entry}
use Rattle.clock_policy.specs.declared.entry.EntryKind.{EntryKind}
use Rattle.clock_policy.specs.declared.entry.EntryKind.TheVariants.{Hot, Test, Cold, Shadow}
use Rattle.clock_policy.specs.ClockPro.{ClockState, has_key, place, place_of, round, found_key, is_shadow, is_in_test, of_kind, settled, relisted, removed, marked, fallen, test_ended, trimmed_part, trimmed_tests, trimmed_list, trimmed_once}
use Rattle.clock_policy.proofs.SteadyLaws.{Based}
use Rattle.clock_policy.proofs.ListedLaws.{has_key_refl}
use Rattle.clock_policy.proofs.LookupLaws.{any_shadow, round_tests_then, round_tests_else, trimmed_list_then, trimmed_list_else}
use Rattle.clock_policy.proofs.SettledLaws.{keys, among, DistinctKeys, rest, settled_rest, keys-append}
use Rattle.clock_policy.specs.SingleMoves.{test_hand_on, kind_ended, each_ended}
use Rattle.clock_policy.proofs.SingleMoveLaws.{apart_of, without_at, none_before}

-- The list with its first tests ended, and the share fallen by them: nothing else has changed.
unfoldable trimming : ℕ → List Entry → ClockState → ClockState
trimming n l s = record s { share = max (s.share - n) 1; entries = l }

trimming_starts : (s : ClockState) → Based s → trimming 0 s.entries s ≡ s
unfolding trimming
trimming_starts s h = ap (λ (c : ℕ). record s { share = c }) (same_share s.share h.share_low)
  where
    same_share : (c : ℕ) → 1 ≤ c → max (c - 0) 1 ≡ c
    same_share c h = omega arith

-- the entry behind others of other keys is marked
pub set_at : (e y : Entry) (t v : List Entry) → among (keys t) e.key ≡ false → set (t ++ e ∷ v) (place e.key (t ++ e ∷ v)) y ≡ t ++ y ∷ v
set_at e y [] v alone = rw (has_key_refl e) refl
set_at e y (d ∷ ds) v alone =
    elim (has_key e.key d) as (λ b. b || among (keys ds) e.key ≡ false → set (d ∷ (ds ++ e ∷ v)) (cond b 0 (suc (place e.key (ds ++ e ∷ v)))) y ≡ d ∷ (ds ++ y ∷ v)) [
      | true ↦ λ g. cc
      | false ↦ λ g. ap (λ (l : List Entry). d ∷ l) (set_at e y ds v g)
    ] alone

marked_at : (n : ℕ) (e : Entry) (t v : List Entry) (s : ClockState) → among (keys t) e.key ≡ false → fallen 1 (marked e.key Cold (trimming n (t ++ e ∷ v) s)) ≡ trimming (n + 1) (t ++ of_kind Cold e ∷ v) s
unfolding trimming marked fallen
marked_at n e t v s alone =
    ap (λ (l : List Entry). record s { share = max (max (s.share - n) 1 - 1) 1; entries = l }) (set_at e (of_kind Cold e) t v alone)
    ∙ ap (λ (c : ℕ). record s { share = c; entries = t ++ of_kind Cold e ∷ v }) (shares s.share n)
  where
    shares : (c n : ℕ) → max (max (c - n) 1 - 1) 1 ≡ max (c - (n + 1)) 1
    shares c n = omega arith

-- Entries with no shadow among them end their tests in place.
trimmed_part_keys : (l : List Entry) → any_shadow l ≡ false → keys (trimmed_part l) ≡ keys l
trimmed_part_keys [] h = refl
trimmed_part_keys (e ∷ es) h =
    elim e.kind as (λ t. is_shadow t || any_shadow es ≡ false → keys (cond (is_shadow t) es (test_ended t e ++ trimmed_part es)) ≡ e.key ∷ keys es) [
      | Hot ↦ λ g. ap (λ (l : List Key). e.key ∷ l) (trimmed_part_keys es g)
      | Test ↦ λ g. ap (λ (l : List Key). e.key ∷ l) (trimmed_part_keys es g)
      | Cold ↦ λ g. ap (λ (l : List Key). e.key ∷ l) (trimmed_part_keys es g)
      | Shadow ↦ λ g. cc
    ] h

-- one entry more before, in its place or marked
keys_marked : (e y : Entry) (t v : List Entry) → y.key ≡ e.key → keys ((t ++ y ∷ []) ++ v) ≡ keys (t ++ e ∷ v)
keys_marked e y t v same =
    ap keys (append_assoc t (y ∷ []) v) ∙ keys-append t (y ∷ v) ∙ ap (λ (k : Key). keys t ++ (k ∷ keys v)) same ∙ sym (keys-append t (e ∷ v))

-- the entry itself was passed, and what is left is told by these of the others
passed_one : (y : Entry) (es more t v : List Entry) (n m : ℕ) (s : ClockState) → m ≡ n + trimmed_tests es →
    each_ended (es ++ more) (trimming n ((t ++ y ∷ []) ++ (es ++ v)) s) ≡ each_ended more (trimming (n + trimmed_tests es) ((t ++ y ∷ []) ++ (trimmed_part es ++ v)) s) →
    each_ended (es ++ more) (trimming n (t ++ y ∷ (es ++ v)) s) ≡ each_ended more (trimming m (t ++ y ∷ (trimmed_part es ++ v)) s)
passed_one y es more t v n m s count h =
    ap (λ (l : List Entry). each_ended (es ++ more) (trimming n l s)) (sym (append_assoc t (y ∷ []) (es ++ v)))
    ∙ h
    ∙ ap (λ (l : List Entry). each_ended more (trimming (n + trimmed_tests es) l s)) (append_assoc t (y ∷ []) (trimmed_part es ++ v))
    ∙ ap (λ (c : ℕ). each_ended more (trimming c (t ++ y ∷ (trimmed_part es ++ v)) s)) (sym count)

-- so many entries, none a shadow, are passed with these before and behind them
passes : (w more t v : List Entry) (n : ℕ) (s : ClockState) → any_shadow w ≡ false → DistinctKeys (keys (t ++ (w ++ v))) →
    each_ended (w ++ more) (trimming n (t ++ (w ++ v)) s) ≡ each_ended more (trimming (n + trimmed_tests w) (t ++ (trimmed_part w ++ v)) s)
passes [] more t v n s none apart = ap (λ (c : ℕ). each_ended more (trimming c (t ++ v) s)) (omega arith)
passes (e ∷ es) more t v n s none apart =
    elim e.kind as (λ k. is_shadow k || any_shadow es ≡ false →
    kind_ended k e.key (each_ended (es ++ more)) (trimming n (t ++ e ∷ (es ++ v)) s)
    ≡ each_ended more (trimming (n + cond (is_shadow k) 1 (cond (is_in_test k) 1 0 + trimmed_tests es)) (t ++ (cond (is_shadow k) es (test_ended k e ++ trimmed_part es) ++ v)) s)) [
      | Hot ↦ λ g. passed_one e es more t v n (n + (0 + trimmed_tests es)) s (omega arith) (passes es more (t ++ e ∷ []) v n s g (rw (keys_marked e e t (es ++ v) refl) apart))
      | Test ↦ λ g.
          ap (each_ended (es ++ more)) (marked_at n e t (es ++ v) s (none_before e t (es ++ v) apart))
          ∙ passed_one (of_kind Cold e) es more t v (n + 1) (n + (1 + trimmed_tests es)) s (omega arith) (passes es more (t ++ of_kind Cold e ∷ []) v (n + 1) s g (rw (keys_marked e (of_kind Cold e) t (es ++ v) refl) apart))
      | Cold ↦ λ g. passed_one e es more t v n (n + (0 + trimmed_tests es)) s (omega arith) (passes es more (t ++ e ∷ []) v n s g (rw (keys_marked e e t (es ++ v) refl) apart))
      | Shadow ↦ λ g. cc
    ] none

-- The shadow goes.

settled_from : (old old' new : List Entry) (hand : Option Key) → keys old ≡ keys old' → settled old new hand ≡ settled old' new hand
settled_from old old' new hand same =
    settled_rest old new hand ∙ ap (λ (l : List Key). rest (among (keys new)) l hand) same ∙ sym (settled_rest old' new hand)

abbrev on_shadow : Option Key → ClockState → ClockState
on_shadow hand s = record s { test_hand = hand }

shadow_at : (n : ℕ) (e : Entry) (t v : List Entry) (s : ClockState) → among (keys t) e.key ≡ false → keys (t ++ e ∷ v) ≡ keys s.entries →
    fallen 1 (removed e.key (test_hand_on e.key (trimming n (t ++ e ∷ v) s))) ≡ fallen (n + 1) (relisted (t ++ v) (on_shadow (Some e.key) s))
unfolding trimming fallen removed relisted test_hand_on
shadow_at n e t v s alone same =
    let old : List Entry = t ++ e ∷ v in
    ap (λ (l : List Entry). record s { share = max (max (s.share - n) 1 - 1) 1; entries = l; cold_hand = settled old l s.cold_hand; test_hand = settled old l (Some e.key) }) (without_at e t v alone)
    ∙ ap (λ (c : Option Key). record s { share = max (max (s.share - n) 1 - 1) 1; entries = t ++ v; cold_hand = c; test_hand = settled old (t ++ v) (Some e.key) }) (settled_from old s.entries (t ++ v) s.cold_hand same)
    ∙ ap (λ (c : Option Key). record s { share = max (max (s.share - n) 1 - 1) 1; entries = t ++ v; cold_hand = settled s.entries (t ++ v) s.cold_hand; test_hand = c }) (settled_from old s.entries (t ++ v) (Some e.key) same)
    ∙ ap (λ (c : ℕ). record s { share = c; entries = t ++ v; cold_hand = settled s.entries (t ++ v) s.cold_hand; test_hand = settled s.entries (t ++ v) (Some e.key) }) (shares s.share n)
  where
    shares : (c n : ℕ) → max (max (c - n) 1 - 1) 1 ≡ max (c - (n + 1)) 1
    shares c n = omega arith

-- Where the first shadow stands.

record Shadowed (w : List Entry) : Type 0 where
  front : List Entry
  shadow : Entry
  behind : List Entry
  parts : w ≡ front ++ shadow ∷ behind
  none : any_shadow front ≡ false
  is : shadow.kind ≡ Shadow
  trimmed : trimmed_part w ≡ trimmed_part front ++ behind
  tests : trimmed_tests w ≡ trimmed_tests front + 1

shadow_kind : (k : EntryKind) → is_shadow k ≡ true → k ≡ Shadow
shadow_kind Hot h = cc
shadow_kind Test h = cc
shadow_kind Cold h = cc
shadow_kind Shadow h = refl

shadowed_in : (w : List Entry) → any_shadow w ≡ true → Shadowed w
shadowed_in [] h = cc
shadowed_in (e ∷ es) h =
    elim (is_shadow e.kind) as (λ t. is_shadow e.kind ≡ t → t || any_shadow es ≡ true → Shadowed (e ∷ es)) [
      | true ↦ λ is _. record {
        front = [];
        shadow = e;
        behind = es;
        parts = refl;
        none = refl;
        is = shadow_kind e.kind is;
        trimmed = rw is refl;
        tests = rw is refl;
      }
      | false ↦ λ is g.
          let f : Shadowed es = shadowed_in es g in
          record {
            front = e ∷ f.front;
            shadow = f.shadow;
            behind = f.behind;
            parts = ap (λ (l : List Entry). e ∷ l) f.parts;
            none = rw is f.none;
            is = f.is;
            trimmed = rw is (ap (λ (l : List Entry). test_ended e.kind e ++ l) f.trimmed ∙ sym (append_assoc (test_ended e.kind e) (trimmed_part f.front) f.behind));
            tests = rw is (omega (arith, f.tests));
          }
    ] refl h

ends_at : (e : Entry) (more : List Entry) (s : ClockState) → e.kind ≡ Shadow → each_ended (e ∷ more) s ≡ fallen 1 (removed e.key (test_hand_on e.key s))
ends_at e more s is = ap (λ (k : EntryKind). kind_ended k e.key (each_ended more) s) is

first_shadow : (e : Entry) (p r : List Entry) → any_shadow p ≡ false → e.kind ≡ Shadow → find (λ x. is_shadow x.kind) (p ++ e ∷ r) ≡ Some e
first_shadow e [] r none is = rw is refl
first_shadow e (d ∷ ds) r none is =
    elim (is_shadow d.kind) as (λ t. t || any_shadow ds ≡ false → cond t (Some d) (find (λ x. is_shadow x.kind) (ds ++ e ∷ r)) ≡ Some e) [
      | true ↦ λ g. cc
      | false ↦ λ g. first_shadow e ds r g is
    ] none

-- where entries end their tests the keys stay
keys_ended : (u p v : List Entry) → any_shadow p ≡ false → keys (u ++ (trimmed_part p ++ v)) ≡ keys (u ++ (p ++ v))
keys_ended u p v none =
    keys-append u (trimmed_part p ++ v)
    ∙ ap (λ (l : List Key). keys u ++ l) (keys-append (trimmed_part p) v ∙ ap (λ (l : List Key). l ++ keys v) (trimmed_part_keys p none) ∙ sym (keys-append p v))
    ∙ sym (keys-append u (p ++ v))

-- the shadow stands from the hand on
moves_ahead : (u v : List Entry) (s : ClockState) (f : Shadowed v) → s.entries ≡ u ++ v → DistinctKeys (keys s.entries) →
    each_ended (v ++ u) (trimming 0 s.entries s) ≡ fallen (trimmed_tests v) (relisted (u ++ trimmed_part v) (on_shadow (Some f.shadow.key) s))
moves_ahead u v s f is apart =
    let p : List Entry = f.front in
    let e : Entry = f.shadow in
    let r : List Entry = f.behind in
    let whole : s.entries ≡ u ++ (p ++ e ∷ r) = is ∙ ap (λ (l : List Entry). u ++ l) f.parts in
    let there : DistinctKeys (keys (u ++ (p ++ e ∷ r))) = rw whole at apart in
    let same : keys ((u ++ trimmed_part p) ++ e ∷ r) ≡ keys s.entries =
    ap keys (append_assoc u (trimmed_part p) (e ∷ r)) ∙ keys_ended u p (e ∷ r) f.none ∙ ap keys (sym whole) in
    ap (λ (l : List Entry). each_ended (v ++ u) (trimming 0 l s)) whole
    ∙ ap (λ (l : List Entry). each_ended (l ++ u) (trimming 0 (u ++ (p ++ e ∷ r)) s)) f.parts
    ∙ ap (λ (l : List Entry). each_ended l (trimming 0 (u ++ (p ++ e ∷ r)) s)) (append_assoc p (e ∷ r) u)
    ∙ passes p (e ∷ (r ++ u)) u (e ∷ r) 0 s f.none there
    ∙ ends_at e (r ++ u) (trimming (0 + trimmed_tests p) (u ++ (trimmed_part p ++ e ∷ r)) s) f.is
    ∙ ap (λ (l : List Entry). fallen 1 (removed e.key (test_hand_on e.key (trimming (0 + trimmed_tests p) l s)))) (sym (append_assoc u (trimmed_part p) (e ∷ r)))
    ∙ shadow_at (0 + trimmed_tests p) e (u ++ trimmed_part p) r s (none_before e (u ++ trimmed_part p) r (rw same apart)) same
    ∙ ap (λ (l : List Entry). fallen (0 + trimmed_tests p + 1) (relisted l (on_shadow (Some e.key) s))) (append_assoc u (trimmed_part p) r ∙ ap (λ (l : List Entry). u ++ l) (sym f.trimmed))
    ∙ ap (λ (c : ℕ). fallen c (relisted (u ++ trimmed_part v) (on_shadow (Some e.key) s))) (omega (arith, f.tests))

-- the shadow stands before the hand
moves_behind : (u v : List Entry) (s : ClockState) (f : Shadowed u) → any_shadow v ≡ false → s.entries ≡ u ++ v → DistinctKeys (keys s.entries) →
    each_ended (v ++ u) (trimming 0 s.entries s) ≡ fallen (trimmed_tests u + trimmed_tests v) (relisted (trimmed_part u ++ trimmed_part v) (on_shadow (Some f.shadow.key) s))
moves_behind u v s f clear is apart =
    let p : List Entry = f.front in
    let e : Entry = f.shadow in
    let r : List Entry = f.behind in
    let t : List Entry = trimmed_part v in
    let n : ℕ = 0 + trimmed_tests v in
    let ends : s.entries ≡ u ++ (v ++ []) = is ∙ ap (λ (l : List Entry). u ++ l) (sym (append-nil v)) in
    let passed : u ++ t ≡ p ++ (e ∷ (r ++ t)) = ap (λ (l : List Entry). l ++ t) f.parts ∙ append_assoc p (e ∷ r) t in
    let first : keys (u ++ t) ≡ keys s.entries =
    ap (λ (l : List Entry). keys (u ++ l)) (sym (append-nil t)) ∙ keys_ended u v [] clear ∙ ap keys (sym ends) in
    let second : keys (p ++ (e ∷ (r ++ t))) ≡ keys s.entries = ap keys (sym passed) ∙ first in
    let same : keys (trimmed_part p ++ e ∷ (r ++ t)) ≡ keys s.entries = keys_ended [] p (e ∷ (r ++ t)) f.none ∙ second in
    ap (λ (l : List Entry). each_ended (v ++ u) (trimming 0 l s)) ends
    ∙ passes v u u [] 0 s clear (rw ends at apart)
    ∙ ap (λ (l : List Entry). each_ended u (trimming n (u ++ l) s)) (append-nil t)
    ∙ ap (λ (l : List Entry). each_ended u (trimming n l s)) passed
    ∙ ap (λ (l : List Entry). each_ended l (trimming n (p ++ (e ∷ (r ++ t))) s)) f.parts
    ∙ passes p (e ∷ r) [] (e ∷ (r ++ t)) n s f.none (rw second apart)
    ∙ ends_at e r (trimming (n + trimmed_tests p) (trimmed_part p ++ (e ∷ (r ++ t))) s) f.is
    ∙ shadow_at (n + trimmed_tests p) e (trimmed_part p) (r ++ t) s (none_before e (trimmed_part p) (r ++ t) (rw same apart)) same
    ∙ ap (λ (l : List Entry). fallen (n + trimmed_tests p + 1) (relisted l (on_shadow (Some e.key) s))) (sym (ap (λ (l : List Entry). l ++ t) f.trimmed ∙ append_assoc (trimmed_part p) r t))
    ∙ ap (λ (c : ℕ). fallen c (relisted (trimmed_part u ++ t) (on_shadow (Some e.key) s))) (omega (arith, f.tests))

-- The first shadow from the test hand on goes, and the tests before it end, one after another.
pub trimmed_by_moves : (s : ClockState) → Based s → any_shadow s.entries ≡ true → each_ended (round (place_of s.test_hand s.entries) s.entries) s ≡ trimmed_once s
unfolding trimmed_once
trimmed_by_moves s h some =
    let l : List Entry = s.entries in
    let i : ℕ = place_of s.test_hand l in
    let u : List Entry = take i l in
    let v : List Entry = drop i l in
    let parts : l ≡ u ++ v = sym (take-append-drop i l) in
    let apart : DistinctKeys (keys l) = apart_of l h.distinct in
    ap (each_ended (v ++ u)) (sym (trimming_starts s h))
    ∙ elim (any_shadow v) as (λ b. any_shadow v ≡ b → each_ended (v ++ u) (trimming 0 l s) ≡ fallen (trimmed_tests (v ++ u)) (relisted (trimmed_list i l) (on_shadow (found_key (find (λ e. is_shadow e.kind) (v ++ u))) s))) [
      | true ↦ λ is.
          let f : Shadowed v = shadowed_in v is in
          moves_ahead u v s f parts apart
          ∙ ap (λ (c : ℕ). fallen c (relisted (u ++ trimmed_part v) (on_shadow (Some f.shadow.key) s))) (sym (round_tests_then i l is))
          ∙ ap (λ (m : List Entry). fallen (trimmed_tests (v ++ u)) (relisted m (on_shadow (Some f.shadow.key) s))) (sym (trimmed_list_then i l is))
          ∙ ap (λ (k : Option Key). fallen (trimmed_tests (v ++ u)) (relisted (trimmed_list i l) (on_shadow k s))) (sym (found_ahead v u f))
      | false ↦ λ is.
          let f : Shadowed u = shadowed_in u (any_left u v (ap any_shadow (sym parts) ∙ some) is) in
          moves_behind u v s f is parts apart
          ∙ ap (λ (c : ℕ). fallen c (relisted (trimmed_part u ++ trimmed_part v) (on_shadow (Some f.shadow.key) s))) (sym (round_tests_else i l is))
          ∙ ap (λ (m : List Entry). fallen (trimmed_tests (v ++ u)) (relisted m (on_shadow (Some f.shadow.key) s))) (sym (trimmed_list_else i l is))
          ∙ ap (λ (k : Option Key). fallen (trimmed_tests (v ++ u)) (relisted (trimmed_list i l) (on_shadow k s))) (sym (found_behind v u is f))
    ] refl
  where
    first : (x y : Bool) → x || y ≡ true → y ≡ false → x ≡ true
    first true y h g = refl
    first false y h g = cc

    any_left : (a b : List Entry) → any_shadow (a ++ b) ≡ true → any_shadow b ≡ false → any_shadow a ≡ true
    any_left a b h clear = first (any_shadow a) (any_shadow b) (sym (list_any-append (λ (e : Entry). is_shadow e.kind) a b) ∙ h) clear

    both_clear : (a b : List Entry) → any_shadow a ≡ false → any_shadow b ≡ false → any_shadow (a ++ b) ≡ false
    both_clear a b x y = list_any-append (λ (e : Entry). is_shadow e.kind) a b ∙ rw (x, y) refl

    found_ahead : (v u : List Entry) (f : Shadowed v) → found_key (find (λ e. is_shadow e.kind) (v ++ u)) ≡ Some f.shadow.key
    found_ahead v u f =
        ap (λ (m : List Entry). found_key (find (λ e. is_shadow e.kind) m)) (ap (λ (w : List Entry). w ++ u) f.parts ∙ append_assoc f.front (f.shadow ∷ f.behind) u)
        ∙ ap found_key (first_shadow f.shadow f.front (f.behind ++ u) f.none f.is)

    found_behind : (v u : List Entry) → any_shadow v ≡ false → (f : Shadowed u) → found_key (find (λ e. is_shadow e.kind) (v ++ u)) ≡ Some f.shadow.key
    found_behind v u clear f =
        ap (λ (m : List Entry). found_key (find (λ e. is_shadow e.kind) m)) (ap (λ (w : List Entry). v ++ w) f.parts ∙ sym (append_assoc v f.front (f.shadow ∷ f.behind)))
        ∙ ap found_key (first_shadow f.shadow (v ++ f.front) f.behind (both_clear v f.front clear f.none) f.is)
