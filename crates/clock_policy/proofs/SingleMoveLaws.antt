-- The equations of the hot answer and of the purge are single moves, one after another.
use Rattle.std.specs.Prelude.{◌≡◌, ℕ, suc, ◌+◌, ◌≤◌, Bool, true, false, not, ◌||◌, cond, Option, Some, None, find, filter, List, [], ◌∷◌, ◌++◌, take, drop, refl}
use Rattle.std.proofs.Common.{arith, sym, ap, ◌∙◌, append_assoc, add-one, append-nil}
use Rattle.std.proofs.Math.Bool.{or-true, or_comm}
use Rattle.std.proofs.lemmas.Bool.{or_parts}
use Rattle.std.proofs.lemmas.List.Elements.{filter_agree, filter-append}
use Rattle.clock_policy.proofs.AdmitLaws.{is_key_self}
use Rattle.clock_policy.specs.declared.key.Key.{Key}
use Rattle.clock_policy.specs.declared.entry.Entry.{Entry}
use Rattle.clock_policy.specs.ClockPro.{ClockState, number, has_key, place, settled, relisted, removed, is_of_process, purged}
use Rattle.clock_policy.specs.Lawful.{Lawful, RestsIn}
use Rattle.clock_policy.proofs.ListedLaws.{has_key_refl}
use Rattle.clock_policy.proofs.CountLaws.{any_number, number_any}
use Rattle.clock_policy.specs.Residents.{is_key}
use Rattle.clock_policy.proofs.SettledLaws.{keys, among, DistinctKeys, Within, Clockwise, rest, settled_rest, settled_composes, is_one_key, from_key, among-append, keys-append, stays_among, apart_left}
use Rattle.clock_policy.specs.SingleMoves.{removed_of, each_removed}

-- Keys that stay.

pub apart_of : (l : List Entry) → ((k : Key) → number (has_key k) l ≤ 1) → DistinctKeys (keys l)
apart_of [] h = tt
apart_of (e ∷ es) h = (alone e es (h e.key), apart_of es (λ k. omega (arith, h k)))
  where
    alone : (e : Entry) (es : List Entry) → number (has_key e.key) (e ∷ es) ≤ 1 → among (keys es) e.key ≡ false
    alone e es h =
        elim (among (keys es) e.key) as (λ t. among (keys es) e.key ≡ t → t ≡ false) [
          | true ↦ λ is. absurd (omega (arith, rw (has_key_refl e) at h, any_number (has_key e.key) es (stays_among es e.key ∙ is)))
          | false ↦ λ is. refl
        ] refl

is_key_sym : (a b : Key) → is_key a b ≡ false → is_key b a ≡ false
is_key_sym a b h =
    elim (is_key b a) as (λ t. is_key b a ≡ t → t ≡ false) [
      | true ↦ λ is. let same : a ≡ b = is_one_key b a is in let holds : is_key a b ≡ true = rw same (is_key_self b) in cc
      | false ↦ λ is. refl
    ] refl

filter_skip : (x : Key) (p : Key → Bool) (ks : List Key) → among ks x ≡ false → filter (λ k. is_key k x || p k) ks ≡ filter p ks
filter_skip x p [] h = refl
filter_skip x p (k ∷ ks) h =
    let parts : (is_key x k ≡ false) × (among ks x ≡ false) = or_parts (is_key x k) (among ks x) h in
    rw (is_key_sym x k (parts.0)) (elim (p k) as (λ t. cond t (k ∷ filter (λ k. is_key k x || p k) ks) (filter (λ k. is_key k x || p k) ks) ≡ cond t (k ∷ filter p ks) (filter p ks)) [
      | true ↦ ap (λ (l : List Key). k ∷ l) (filter_skip x p ks (parts.1))
      | false ↦ filter_skip x p ks (parts.1)
    ])

filter_all : (p : Key → Bool) (ks : List Key) → Within (among ks) p → filter p ks ≡ ks
filter_all p [] less = refl
filter_all p (k ∷ ks) less =
    rw (less k (rw (is_key_self k) refl)) (ap (λ (l : List Key). k ∷ l) (filter_all p ks (λ q h. less q (rw h (or-true (is_key q k))))))

kept_among : (g : Entry → Bool) (u : List Entry) (a : List Key) (x : Key) → among (keys u ++ a) x ≡ false → among (keys (filter g u) ++ a) x ≡ false
kept_among g [] a x h = h
kept_among g (e ∷ es) a x h =
    let parts : (is_key x e.key ≡ false) × (among (keys es ++ a) x ≡ false) = or_parts (is_key x e.key) (among (keys es ++ a) x) h in
    elim (g e) as (λ t. among (keys (cond t (e ∷ filter g es) (filter g es)) ++ a) x ≡ false) [
      | true ↦ rw (parts.0) (kept_among g es a x (parts.1))
      | false ↦ kept_among g es a x (parts.1)
    ]

kept_keys : (g : Entry → Bool) (u : List Entry) (a : List Key) → DistinctKeys (keys u ++ a) → filter (among (keys (filter g u) ++ a)) (keys u) ≡ keys (filter g u)
kept_keys g [] a apart = refl
kept_keys g (e ∷ es) a apart =
    elim (g e) as (λ t. filter (among (keys (cond t (e ∷ filter g es) (filter g es)) ++ a)) (e.key ∷ keys es) ≡ keys (cond t (e ∷ filter g es) (filter g es))) [
      | true ↦ rw (is_key_self e.key) (ap (λ (l : List Key). e.key ∷ l) (filter_skip e.key (among (keys (filter g es) ++ a)) (keys es) (or_parts (among (keys es) e.key) (among a e.key) (sym (among-append e.key (keys es) a) ∙ apart.0)).0 ∙ kept_keys g es a apart.1))
      | false ↦ rw (kept_among g es a e.key apart.0) (kept_keys g es a apart.1)
    ]

-- The list with some of its first entries left out stays in the old order, in its place or behind the others.

among_either : (t v : List Entry) (k : Key) → among (keys (v ++ t)) k ≡ among (keys t ++ keys v) k
among_either t v k =
    ap (λ (l : List Key). among l k) (keys-append v t) ∙ among-append k (keys v) (keys t) ∙ or_comm (among (keys v) k) (among (keys t) k) ∙ sym (among-append k (keys t) (keys v))

kept_parts : (g : Entry → Bool) (u v t : List Entry) (p : Key → Bool) → keys t ≡ keys (filter g u) → DistinctKeys (keys u ++ keys v) → ((k : Key) → p k ≡ among (keys t ++ keys v) k) → (filter p (keys u) ≡ keys t) × (filter p (keys v) ≡ keys v)
kept_parts g u v t p same apart is = (
  filter_agree p (among (keys t ++ keys v)) is (keys u) ∙ ap (λ (l : List Key). filter (among (l ++ keys v)) (keys u)) same ∙ kept_keys g u (keys v) apart ∙ sym same,
  filter_all p (keys v) (λ k h. is k ∙ among-append k (keys t) (keys v) ∙ rw h (or-true (among (keys t) k))),
)

pub clockwise_behind : (g : Entry → Bool) (u v t : List Entry) → keys t ≡ keys (filter g u) → DistinctKeys (keys u ++ keys v) → Clockwise (u ++ v) (v ++ t)
clockwise_behind g u v t same apart =
    let p : Key → Bool = among (keys (v ++ t)) in
    let parts : (filter p (keys u) ≡ keys t) × (filter p (keys v) ≡ keys v) = kept_parts g u v t p same apart (among_either t v) in
    record {
      passed = keys u;
      ahead = keys v;
      parts = keys-append u v;
      kept = keys-append v t ∙ sym (filter-append p (keys v) (keys u) ∙ rw (parts.0, parts.1) refl);
    }

pub clockwise_kept : (g : Entry → Bool) (u v t : List Entry) → keys t ≡ keys (filter g u) → DistinctKeys (keys u ++ keys v) → Clockwise (u ++ v) (t ++ v)
clockwise_kept g u v t same apart =
    let p : Key → Bool = among (keys (t ++ v)) in
    let parts : (filter p (keys u) ≡ keys t) × (filter p (keys v) ≡ keys v) = kept_parts g u v t p same apart (λ k. ap (λ (l : List Key). among l k) (keys-append t v)) in
    record {
      passed = [];
      ahead = keys (u ++ v);
      parts = refl;
      kept = keys-append t v ∙ sym (ap (filter p) (append-nil (keys (u ++ v)) ∙ keys-append u v) ∙ filter-append p (keys u) (keys v) ∙ rw (parts.0, parts.1) refl);
    }

-- Lists put in place of the old one.

pub relisted_composes : (mid new : List Entry) (s : ClockState) → DistinctKeys (keys s.entries) → Clockwise s.entries mid → Within (among (keys new)) (among (keys mid)) → relisted new (relisted mid s) ≡ relisted new s
unfolding relisted
relisted_composes mid new s apart order less =
    ap (λ (c : Option Key). record s { entries = new; cold_hand = c; test_hand = settled mid new (settled s.entries mid s.test_hand) }) (settled_composes s.entries mid new s.cold_hand apart order less)
    ∙ ap (λ (c : Option Key). record s { entries = new; cold_hand = settled s.entries new s.cold_hand; test_hand = c }) (settled_composes s.entries mid new s.test_hand apart order less)

-- a hand that stays is where it was
pub rest_stays : (q : Key → Bool) (ks : List Key) (k : Key) → q k ≡ true → among ks k ≡ true → rest q ks (Some k) ≡ Some k
rest_stays q ks k holds there = ap (find q) refl ∙ first ks k there holds _
  where
    first : (ks : List Key) (k : Key) → among ks k ≡ true → q k ≡ true → (more : List Key) → find q (from_key k ks ++ more) ≡ Some k
    first [] k h g more = cc
    first (x ∷ xs) k h g more =
        elim (is_key k x) as (λ t. is_key k x ≡ t → t || among xs k ≡ true → find q (cond t (x ∷ xs) (from_key k xs) ++ more) ≡ Some k) [
          | true ↦ λ is _. rw (is_one_key k x is, g) refl
          | false ↦ λ is there. first xs k there g more
        ] refl h

settled_same : (l : List Entry) (hand : Option Key) → RestsIn l hand → settled l l hand ≡ hand
settled_same [] None rests = settled_rest [] [] None
settled_same (e ∷ es) None rests = absurd (omega arith)
settled_same l (Some k) rests =
    let there : among (keys l) k ≡ true = sym (stays_among l k) ∙ number_any (has_key k) l rests in
    settled_rest l l (Some k) ∙ rest_stays (among (keys l)) (keys l) k there there

pub relisted_same : (s : ClockState) → Lawful s → relisted s.entries s ≡ s
unfolding relisted
relisted_same s h =
    ap (λ (c : Option Key). record s { cold_hand = c; test_hand = settled s.entries s.entries s.test_hand }) (settled_same s.entries s.cold_hand h.cold_hand_rests)
    ∙ ap (λ (c : Option Key). record s { test_hand = c }) (settled_same s.entries s.test_hand h.test_hand_rests)

-- The purge.

-- the entry behind others of other keys is taken out
pub without_at : (e : Entry) (t v : List Entry) → among (keys t) e.key ≡ false →
    let l = t ++ e ∷ v in take (place e.key l) l ++ drop (place e.key l + 1) l ≡ t ++ v
without_at e t v apart = rw add-one (without e t v apart)
  where
    without : (e : Entry) (t v : List Entry) → among (keys t) e.key ≡ false →
        take (place e.key (t ++ e ∷ v)) (t ++ e ∷ v) ++ drop (suc (place e.key (t ++ e ∷ v))) (t ++ e ∷ v) ≡ t ++ v
    without e [] v apart = rw (has_key_refl e) refl
    without e (d ∷ ds) v apart =
        elim (has_key e.key d) as (λ b. b || among (keys ds) e.key ≡ false → take (cond b 0 (suc (place e.key (ds ++ e ∷ v)))) (d ∷ (ds ++ e ∷ v)) ++ drop (suc (cond b 0 (suc (place e.key (ds ++ e ∷ v))))) (d ∷ (ds ++ e ∷ v)) ≡ d ∷ (ds ++ v)) [
          | true ↦ λ g. cc
          | false ↦ λ g. ap (λ (l : List Entry). d ∷ l) (without e ds v g)
        ] apart

removed_from : (k : Key) (l : List Entry) (s : ClockState) → removed k (relisted l s) ≡ relisted (take (place k l) l ++ drop (place k l + 1) l) (relisted l s)
unfolding removed relisted
removed_from k l s = refl

one_less : (e : Entry) (t v : List Entry) → Within (among (keys (t ++ v))) (among (keys (t ++ e ∷ v)))
one_less e t v k h =
    ap (λ (l : List Key). among l k) (keys-append t (e ∷ v)) ∙ among-append k (keys t) (e.key ∷ keys v)
    ∙ wider (among (keys t) k) (is_key k e.key) (among (keys v) k) (sym (among-append k (keys t) (keys v)) ∙ sym (ap (λ (l : List Key). among l k) (keys-append t v)) ∙ h)
  where
    wider : (a b c : Bool) → a || c ≡ true → a || (b || c) ≡ true
    wider true b c h = refl
    wider false true c h = refl
    wider false false c h = h

pub removed_at : (e : Entry) (t v : List Entry) (s : ClockState) → among (keys t) e.key ≡ false → DistinctKeys (keys s.entries) → Clockwise s.entries (t ++ e ∷ v) → removed e.key (relisted (t ++ e ∷ v) s) ≡ relisted (t ++ v) s
removed_at e t v s alone apart order =
    removed_from e.key (t ++ e ∷ v) s
    ∙ ap (λ (l : List Entry). relisted l (relisted (t ++ e ∷ v) s)) (without_at e t v alone)
    ∙ relisted_composes (t ++ e ∷ v) (t ++ v) s apart order (one_less e t v)

abbrev stays : ℕ → Entry → Bool
stays process e = not (is_of_process process e)

pub none_before : (e : Entry) (u v : List Entry) → DistinctKeys (keys (u ++ e ∷ v)) → among (keys u) e.key ≡ false
none_before e u v apart = apart_left e.key (keys u) (keys (e ∷ v)) (rw (keys-append u (e ∷ v)) at apart) (rw (is_key_self e.key) refl)

none_kept : (g : Entry → Bool) (e : Entry) (u : List Entry) → among (keys u) e.key ≡ false → among (keys (filter g u)) e.key ≡ false
none_kept g e u h =
    ap (λ (l : List Key). among l e.key) (sym (append-nil (keys (filter g u)))) ∙ kept_among g u [] e.key (ap (λ (l : List Key). among l e.key) (append-nil (keys u)) ∙ h)

step_removed : (process : ℕ) (e : Entry) (u v : List Entry) (s : ClockState) → s.entries ≡ u ++ e ∷ v → DistinctKeys (keys s.entries) →
    removed_of process e (relisted (filter (stays process) u ++ e ∷ v) s) ≡ relisted (filter (stays process) (u ++ e ∷ []) ++ v) s
step_removed process e u v s is apart =
    let g : Entry → Bool = stays process in
    let there : DistinctKeys (keys (u ++ e ∷ v)) = rw is at apart in
    let parts : DistinctKeys (keys u ++ keys (e ∷ v)) = rw (keys-append u (e ∷ v)) at there in
    let order : Clockwise s.entries (filter g u ++ e ∷ v) = rw is (clockwise_kept g u (e ∷ v) (filter g u) refl parts) in
    elim (is_of_process process e) as (λ t. is_of_process process e ≡ t → cond t (removed e.key (relisted (filter g u ++ e ∷ v) s)) (relisted (filter g u ++ e ∷ v) s) ≡ relisted (filter g (u ++ e ∷ []) ++ v) s) [
      | true ↦ λ gone.
          removed_at e (filter g u) v s (none_kept g e u (none_before e u v there)) apart order
          ∙ ap (λ (l : List Entry). relisted (l ++ v) s) (sym (filter-append g u (e ∷ []) ∙ rw gone (append-nil (filter g u))))
      | false ↦ λ kept.
          ap (λ (l : List Entry). relisted l s) (sym (ap (λ (l : List Entry). l ++ v) (filter-append g u (e ∷ []) ∙ rw kept refl) ∙ append_assoc (filter g u) (e ∷ []) v))
    ] refl

each_from : (process : ℕ) (v u : List Entry) (s : ClockState) → s.entries ≡ u ++ v → DistinctKeys (keys s.entries) → each_removed process v (relisted (filter (stays process) u ++ v) s) ≡ relisted (filter (stays process) (u ++ v) ++ []) s
each_from process [] u s is apart = ap (λ (l : List Entry). relisted (filter (stays process) l ++ []) s) (sym (append-nil u))
each_from process (e ∷ es) u s is apart =
    ap (each_removed process es) (step_removed process e u es s is apart)
    ∙ each_from process es (u ++ e ∷ []) s (is ∙ sym (append_assoc u (e ∷ []) es)) apart
    ∙ ap (λ (l : List Entry). relisted (filter (stays process) l ++ []) s) (append_assoc u (e ∷ []) es)

-- The purge takes the entries of the process out, one after another.
pub purged_by_moves : (process : ℕ) (s : ClockState) → Lawful s → each_removed process s.entries s ≡ purged process s
unfolding purged
purged_by_moves process s h =
    ap (each_removed process s.entries) (sym (relisted_same s h))
    ∙ each_from process s.entries [] s refl (apart_of s.entries h.distinct)
    ∙ ap (λ (l : List Entry). relisted l s) (append-nil (filter (stays process) s.entries))
