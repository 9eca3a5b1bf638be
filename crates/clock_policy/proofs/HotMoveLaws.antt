-- The hot answer's equation is single moves, one after another: the front is passed until the entry that is asked stands there.
use Rattle.std.specs.Prelude.{◌≡◌, ℕ, zero, suc, ◌+◌, ◌-◌, ◌≤◌, max, Bool, not, ◌||◌, cond, Option, Some, None, filter, slice_get, List, [], ◌∷◌, ◌++◌, take, drop, length, refl}
use Rattle.std.proofs.Common.{arith, sym, ap, ◌∙◌, append_assoc, add-one, append-nil}
use Rattle.std.proofs.Math.Bool.{or_comm, or-false}
use Rattle.clock_policy.proofs.FindLaws.{find_same}
use Rattle.clock_policy.specs.declared.key.Key.{Key}
use Rattle.clock_policy.specs.declared.entry.Entry.{Entry}
use Rattle.clock_policy.specs.declared.entry.EntryKind.{EntryKind}
use Rattle.clock_policy.specs.declared.entry.EntryKind.TheVariants.{Hot, Test, Cold, Shadow}
use Rattle.clock_policy.specs.declared.answer.Bit.{Bit}
use Rattle.clock_policy.specs.declared.answer.Bit.TheVariants.{Zero, One, Gone}
use Rattle.clock_policy.specs.ClockPro.{ClockState, place, is_shadow, is_in_test, of_kind, settled, relisted, removed, marked, fallen, turned_to, test_ended, tests_ended, test_count, hot_left}
use Rattle.clock_policy.specs.Lawful.{Lawful}
use Rattle.clock_policy.proofs.ListedLaws.{has_key_refl}
use Rattle.clock_policy.proofs.CountLaws.{IsIn, place_holds, number-append}
use Rattle.clock_policy.specs.Residents.{is_key}
use Rattle.clock_policy.proofs.SettledLaws.{keys, among, DistinctKeys, Clockwise, rest, settled_rest, among-append, keys-append, from_key, before_key}
use Rattle.clock_policy.specs.SingleMoves.{front_turned, kind_passed, front_passed, fronts_passed, front_answered}
use Rattle.clock_policy.proofs.SingleMoveLaws.{apart_of, clockwise_behind, relisted_same, removed_at}

-- Moves of a front.

-- lists with the same keys settle a hand alike
settled_alike : (old a b : List Entry) (hand : Option Key) → ((k : Key) → among (keys a) k ≡ among (keys b) k) → settled old a hand ≡ settled old b hand
settled_alike old a b hand same = settled_rest old a hand ∙ by_hand hand ∙ sym (settled_rest old b hand)
  where
    by_hand : (hand : Option Key) → rest (among (keys a)) (keys old) hand ≡ rest (among (keys b)) (keys old) hand
    by_hand None = find_same (among (keys a)) (among (keys b)) same (keys old)
    by_hand (Some k) = find_same (among (keys a)) (among (keys b)) same (from_key k (keys old) ++ before_key k (keys old))

turned_keys : (e y : Entry) (r : List Entry) → y.key ≡ e.key → (k : Key) → among (keys (e ∷ r)) k ≡ among (keys (r ++ y ∷ [])) k
turned_keys e y r same k =
    or_comm (is_key k e.key) (among (keys r) k)
    ∙ ap (λ (t : Bool). among (keys r) k || t) (sym (or-false (is_key k y.key) ∙ ap (is_key k) same))
    ∙ sym (among-append k (keys r) (y.key ∷ []))
    ∙ ap (λ (l : List Key). among l k) (sym (keys-append r (y ∷ [])))

front_at : (n : ℕ) (e y : Entry) (r : List Entry) (s : ClockState) → y.key ≡ e.key → record (fallen n (relisted (e ∷ r) s)) { entries = r ++ y ∷ [] } ≡ fallen n (relisted (r ++ y ∷ []) s)
unfolding fallen relisted
front_at n e y r s same =
    ap (λ (c : Option Key). record s { share = max (s.share - n) 1; entries = r ++ y ∷ []; cold_hand = c; test_hand = settled s.entries (e ∷ r) s.test_hand }) (settled_alike s.entries (e ∷ r) (r ++ y ∷ []) s.cold_hand (turned_keys e y r same))
    ∙ ap (λ (c : Option Key). record s { share = max (s.share - n) 1; entries = r ++ y ∷ []; cold_hand = settled s.entries (r ++ y ∷ []) s.cold_hand; test_hand = c }) (settled_alike s.entries (e ∷ r) (r ++ y ∷ []) s.test_hand (turned_keys e y r same))

front_kept : (n : ℕ) (e : Entry) (r : List Entry) (s : ClockState) → front_turned (fallen n (relisted (e ∷ r) s)) ≡ record (fallen n (relisted (e ∷ r) s)) { entries = r ++ e ∷ [] }
unfolding front_turned fallen relisted
front_kept n e r s = refl

front_cold : (n : ℕ) (e : Entry) (r : List Entry) (s : ClockState) → front_turned (marked e.key Cold (fallen n (relisted (e ∷ r) s))) ≡ record (fallen n (relisted (e ∷ r) s)) { entries = r ++ of_kind Cold e ∷ [] }
unfolding front_turned marked fallen relisted
front_cold n e r s = rw (has_key_refl e) refl

front_gone : (n : ℕ) (k : Key) (s : ClockState) → removed k (fallen n s) ≡ fallen n (removed k s)
unfolding removed relisted fallen
front_gone n k s = refl

fallen_again : (m n : ℕ) (s : ClockState) → fallen m (fallen n s) ≡ fallen (n + m) s
unfolding fallen
fallen_again m n s = ap (λ (c : ℕ). record s { share = c }) (shares s.share m n)
  where
    shares : (c m n : ℕ) → max (max (c - n) 1 - m) 1 ≡ max (c - (n + m)) 1
    shares c m n = omega arith

-- A stage of the hand's way: the entries before were passed.

abbrev stage : List Entry → List Entry → ClockState → ClockState
stage u v s = fallen (test_count u) (relisted (v ++ tests_ended u) s)

tests_ended-append : (a b : List Entry) → tests_ended (a ++ b) ≡ tests_ended a ++ tests_ended b
tests_ended-append [] b = refl
tests_ended-append (e ∷ es) b = ap (λ (l : List Entry). test_ended e.kind e ++ l) (tests_ended-append es b) ∙ sym (append_assoc (test_ended e.kind e) (tests_ended es) (tests_ended b))

tests_ended_keys : (u : List Entry) → keys (tests_ended u) ≡ keys (filter (λ e. not (is_shadow e.kind)) u)
tests_ended_keys [] = refl
tests_ended_keys (e ∷ es) =
    elim e.kind as (λ t. keys (test_ended t e ++ tests_ended es) ≡ keys (cond (not (is_shadow t)) (e ∷ filter (λ e. not (is_shadow e.kind)) es) (filter (λ e. not (is_shadow e.kind)) es))) [
      | Hot ↦ ap (λ (l : List Key). e.key ∷ l) (tests_ended_keys es)
      | Test ↦ ap (λ (l : List Key). e.key ∷ l) (tests_ended_keys es)
      | Cold ↦ ap (λ (l : List Key). e.key ∷ l) (tests_ended_keys es)
      | Shadow ↦ tests_ended_keys es
    ]

-- the next stage, from what the front leaves and how many tests ended
next_stage : (u v : List Entry) (e : Entry) (s : ClockState) (left : List Entry) (n : ℕ) → test_ended e.kind e ≡ left → cond (is_in_test e.kind) 1 0 ≡ n →
    fallen (test_count u + n) (relisted ((v ++ tests_ended u) ++ left) s) ≡ stage (u ++ e ∷ []) v s
next_stage u v e s left n is tests =
    ap (λ (c : ℕ). fallen c (relisted ((v ++ tests_ended u) ++ left) s)) (counted u e n tests)
    ∙ ap (λ (l : List Entry). fallen (test_count (u ++ e ∷ [])) (relisted l s)) (listed u v e left is)
  where
    counted : (u : List Entry) (e : Entry) (n : ℕ) → cond (is_in_test e.kind) 1 0 ≡ n → test_count u + n ≡ test_count (u ++ e ∷ [])
    counted u e n tests = omega (arith, number-append (λ e. is_in_test e.kind) u (e ∷ []))

    listed : (u v : List Entry) (e : Entry) (left : List Entry) → test_ended e.kind e ≡ left → (v ++ tests_ended u) ++ left ≡ v ++ tests_ended (u ++ e ∷ [])
    listed u v e left is =
        append_assoc v (tests_ended u) left ∙ ap (λ (l : List Entry). v ++ l) (sym (tests_ended-append u (e ∷ []) ∙ ap (λ (l : List Entry). tests_ended u ++ l) (append-nil (test_ended e.kind e) ∙ is)))

front_of : (n : ℕ) (e : Entry) (r : List Entry) (s : ClockState) → front_passed (fallen n (relisted (e ∷ r) s)) ≡ kind_passed e.kind e.key (fallen n (relisted (e ∷ r) s))
unfolding fallen relisted
front_of n e r s = refl

stage_order : (u v : List Entry) (e : Entry) (s : ClockState) → s.entries ≡ u ++ e ∷ v → DistinctKeys (keys s.entries) → Clockwise s.entries (e ∷ (v ++ tests_ended u))
stage_order u v e s is apart =
    let there : DistinctKeys (keys (u ++ e ∷ v)) = rw is at apart in
    rw is (clockwise_behind (λ e. not (is_shadow e.kind)) u (e ∷ v) (tests_ended u) (tests_ended_keys u) (rw (keys-append u (e ∷ v)) at there))

-- the front of a list goes
front_removed : (n : ℕ) (e : Entry) (r : List Entry) (s : ClockState) → DistinctKeys (keys s.entries) → Clockwise s.entries (e ∷ r) → removed e.key (fallen n (relisted (e ∷ r) s)) ≡ fallen n (relisted (r ++ []) s)
front_removed n e r s apart order =
    front_gone n e.key (relisted (e ∷ r) s)
    ∙ ap (fallen n) (removed_at e [] r s refl apart order)
    ∙ ap (λ (l : List Entry). fallen n (relisted l s)) (sym (append-nil r))

stage_step : (u v : List Entry) (e : Entry) (s : ClockState) → s.entries ≡ u ++ e ∷ v → DistinctKeys (keys s.entries) → front_passed (stage u (e ∷ v) s) ≡ stage (u ++ e ∷ []) v s
stage_step u v e s is apart =
    front_of (test_count u) e (v ++ tests_ended u) s ∙ by_kind e.kind u v e s refl (stage_order u v e s is apart) apart
  where
    by_kind : (t : EntryKind) (u v : List Entry) (e : Entry) (s : ClockState) → e.kind ≡ t → Clockwise s.entries (e ∷ (v ++ tests_ended u)) → DistinctKeys (keys s.entries) →
        kind_passed t e.key (fallen (test_count u) (relisted (e ∷ (v ++ tests_ended u)) s)) ≡ stage (u ++ e ∷ []) v s
    by_kind Hot u v e s is order apart =
        front_kept (test_count u) e (v ++ tests_ended u) s ∙ front_at (test_count u) e e (v ++ tests_ended u) s refl
        ∙ ap (λ (c : ℕ). fallen c (relisted ((v ++ tests_ended u) ++ e ∷ []) s)) (omega arith)
        ∙ next_stage u v e s (e ∷ []) 0 (ap (λ (k : EntryKind). test_ended k e) is) (ap {B = ℕ} (λ (k : EntryKind). cond (is_in_test k) 1 0) is)
    by_kind Test u v e s is order apart =
        ap (fallen 1) (front_cold (test_count u) e (v ++ tests_ended u) s ∙ front_at (test_count u) e (of_kind Cold e) (v ++ tests_ended u) s refl)
        ∙ fallen_again 1 (test_count u) (relisted ((v ++ tests_ended u) ++ of_kind Cold e ∷ []) s)
        ∙ next_stage u v e s (of_kind Cold e ∷ []) 1 (ap (λ (k : EntryKind). test_ended k e) is) (ap {B = ℕ} (λ (k : EntryKind). cond (is_in_test k) 1 0) is)
    by_kind Cold u v e s is order apart =
        front_kept (test_count u) e (v ++ tests_ended u) s ∙ front_at (test_count u) e e (v ++ tests_ended u) s refl
        ∙ ap (λ (c : ℕ). fallen c (relisted ((v ++ tests_ended u) ++ e ∷ []) s)) (omega arith)
        ∙ next_stage u v e s (e ∷ []) 0 (ap (λ (k : EntryKind). test_ended k e) is) (ap {B = ℕ} (λ (k : EntryKind). cond (is_in_test k) 1 0) is)
    by_kind Shadow u v e s is order apart =
        ap (fallen 1) (front_removed (test_count u) e (v ++ tests_ended u) s apart order)
        ∙ fallen_again 1 (test_count u) (relisted ((v ++ tests_ended u) ++ []) s)
        ∙ next_stage u v e s [] 1 (ap (λ (k : EntryKind). test_ended k e) is) (ap {B = ℕ} (λ (k : EntryKind). cond (is_in_test k) 1 0) is)

stages : (w u v : List Entry) (s : ClockState) → s.entries ≡ u ++ (w ++ v) → DistinctKeys (keys s.entries) → fronts_passed (length w) (stage u (w ++ v) s) ≡ stage (u ++ w) v s
stages [] u v s is apart = ap (λ (l : List Entry). stage l v s) (sym (append-nil u))
stages (e ∷ es) u v s is apart =
    ap (fronts_passed (length es)) (stage_step u (es ++ v) e s is apart)
    ∙ stages es (u ++ e ∷ []) v s (is ∙ sym (append_assoc u (e ∷ []) (es ++ v))) apart
    ∙ ap (λ (l : List Entry). stage l v s) (append_assoc u (e ∷ []) es)

fallen_is : (s : ClockState) → max (s.share - 0) 1 ≡ s.share → fallen 0 s ≡ s
unfolding fallen
fallen_is s h = ap (λ (c : ℕ). record s { share = c }) h

-- nothing was passed yet
first_stage : (s : ClockState) → Lawful s → stage [] s.entries s ≡ s
first_stage s h = ap (λ (l : List Entry). fallen 0 (relisted l s)) (append-nil s.entries) ∙ ap (fallen 0) (relisted_same s h) ∙ none_fallen s h
  where
    same_share : (c : ℕ) → 1 ≤ c → max (c - 0) 1 ≡ c
    same_share c h = omega arith

    none_fallen : (s : ClockState) → Lawful s → fallen 0 s ≡ s
    none_fallen s h = fallen_is s (same_share s.share h.share_low)

last_stage : (bit : Bit) (x : Entry) (w z : List Entry) (s : ClockState) → s.entries ≡ w ++ x ∷ z → DistinctKeys (keys s.entries) →
    front_answered bit x.key (stage w (x ∷ z) s) ≡ fallen (test_count w) (relisted (z ++ tests_ended w ++ hot_left bit x) s)
last_stage Zero x w z s is apart = front_cold (test_count w) x (z ++ tests_ended w) s ∙ front_at (test_count w) x (of_kind Cold x) (z ++ tests_ended w) s refl
last_stage One x w z s is apart = front_kept (test_count w) x (z ++ tests_ended w) s ∙ front_at (test_count w) x x (z ++ tests_ended w) s refl
last_stage Gone x w z s is apart = front_removed (test_count w) x (z ++ tests_ended w) s apart (stage_order w z x s is apart)

split_at : (x : Entry) (l : List Entry) (i : ℕ) → slice_get l i ≡ Some x → take i l ++ x ∷ drop (i + 1) l ≡ l
split_at x l i h = rw add-one (split x l i h)
  where
    split : (x : Entry) (l : List Entry) (i : ℕ) → slice_get l i ≡ Some x → take i l ++ x ∷ drop (suc i) l ≡ l
    split x [] i h = cc
    split x (e ∷ es) zero h = let same : e ≡ x = cc in rw same refl
    split x (e ∷ es) (suc i) h = ap (λ (l : List Entry). e ∷ l) (split x es i h)

-- The hot hand goes to the entry by passing each front before it.
pub turned_by_moves : (bit : Bit) (x : Entry) (s : ClockState) → Lawful s → IsIn x s.entries →
    front_answered bit x.key (fronts_passed (place x.key s.entries) s) ≡ turned_to bit x s
unfolding turned_to
turned_by_moves bit x s h in_list =
    let l : List Entry = s.entries in
    let i : ℕ = place x.key l in
    let parts : take i l ++ x ∷ drop (i + 1) l ≡ l = split_at x l i (place_holds x l (h.distinct x.key) in_list) in
    ap (λ (t : ClockState). front_answered bit x.key (fronts_passed i t)) (sym (first_stage s h))
    ∙ ap (λ (m : List Entry). front_answered bit x.key (fronts_passed i (stage [] m s))) (sym parts)
    ∙ ap (λ (n : ℕ). front_answered bit x.key (fronts_passed n (stage [] (take i l ++ x ∷ drop (i + 1) l) s))) (taken x l i (place_holds x l (h.distinct x.key) in_list))
    ∙ ap (front_answered bit x.key) (stages (take i l) [] (x ∷ drop (i + 1) l) s (sym parts) (apart_of l h.distinct))
    ∙ last_stage bit x (take i l) (drop (i + 1) l) s (sym parts) (apart_of l h.distinct)
  where
    taken : (x : Entry) (l : List Entry) (i : ℕ) → slice_get l i ≡ Some x → i ≡ length (take i l)
    taken x [] i h = cc
    taken x (e ∷ es) zero h = refl
    taken x (e ∷ es) (suc i) h = ap (λ (n : ℕ). suc n) (taken x es i h)
