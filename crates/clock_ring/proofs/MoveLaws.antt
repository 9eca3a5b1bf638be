-- The single moves on cells are the policy's moves on entries.
use Rattle.std.specs.Prelude.{◌≡◌, ℕ, suc, ◌+◌, Bool, true, false, ◌==◌, ◌||◌, cond, unwrap_or, Option, Some, None, find, set, List, [], ◌∷◌, ◌++◌, take, drop, length, refl}
use Rattle.std.proofs.Common.{arith, sym, ap, ◌∙◌, subst, append_assoc, add-one, eqb-true, append-nil, ne_eqb}
use Rattle.std.proofs.Math.Bool.{or-true, or_comm}
use Rattle.std.proofs.lemmas.Bool.{or_parts, eqb-false}
use Rattle.clock_policy.proofs.AdmitLaws.{is_key_self}
use Rattle.clock_policy.specs.declared.key.Key.{Key}
use Rattle.clock_policy.specs.declared.entry.Entry.{Entry}
use Rattle.clock_policy.specs.declared.entry.EntryKind.{EntryKind}
use Rattle.clock_policy.specs.declared.entry.EntryKind.TheVariants.{Shadow}
use Rattle.clock_policy.specs.ClockPro.{ClockState, number, has_key, place, round, found_key, settled, relisted, removed, appended, marked, sent_to_end, cold_hand_on, shadowed}
use Rattle.clock_policy.proofs.ListedLaws.{has_key_refl}
use Rattle.clock_policy.specs.Residents.{is_key}
use Rattle.clock_policy.proofs.SettledLaws.{keys, among, rest, settled_rest, from_key, before_key, among-append, keys-append}
use Rattle.clock_policy.specs.SingleMoves.{front_turned, test_hand_on}
use Rattle.clock_policy.proofs.SingleMoveLaws.{rest_stays, without_at}
use Rattle.clock_policy.proofs.TrimMoveLaws.{set_at}
use Rattle.page_ring.specs.Linked.{Cell, DistinctNodes, is_at, first_at}
use Rattle.page_ring.proofs.LinkLaws.{at_self, is_at-append}
use Rattle.page_ring.specs.Chain.{of_kind}
use Rattle.page_ring.specs.Index.{entries_of, DistinctPages}
use Rattle.page_ring.proofs.IndexLaws.{entries-append, number-cells, mark_number, remove_number}
use Rattle.clock_ring.specs.RingState.{entry_at_node, hand_at, Rests, Whole}

-- the state with these cells and hands
abbrev pub on : List Cell → ℕ → ℕ → ClockState → ClockState
on cs cold test s = record s { entries = entries_of cs; cold_hand = hand_at cs cold; test_hand = hand_at cs test }

-- Entries of nodes.

pub found_at : (cs : List Cell) (n : ℕ) (e : Entry) → entry_at_node cs n ≡ Some e → is_at cs n ≡ true
found_at [] n e h = cc
found_at (c ∷ cs) n e h =
    elim (c.at == n) as (λ t. cond t (Some c.entry) (entry_at_node cs n) ≡ Some e → t || is_at cs n ≡ true) [
      | true ↦ λ g. refl
      | false ↦ λ g. found_at cs n e g
    ] h

-- what stands behind entries of other nodes
pub entry_behind : (u v : List Cell) (n : ℕ) → is_at u n ≡ false → entry_at_node (u ++ v) n ≡ entry_at_node v n
entry_behind [] v n h = refl
entry_behind (c ∷ cs) v n h =
    let parts : ((c.at == n) ≡ false) × (is_at cs n ≡ false) = or_parts (c.at == n) (is_at cs n) h in
    rw (parts.0) (entry_behind cs v n (parts.1))

pub entry_before : (u v : List Cell) (n : ℕ) (e : Entry) → entry_at_node u n ≡ Some e → entry_at_node (u ++ v) n ≡ Some e
entry_before [] v n e h = cc
entry_before (c ∷ cs) v n e h =
    elim (c.at == n) as (λ t. cond t (Some c.entry) (entry_at_node cs n) ≡ Some e → cond t (Some c.entry) (entry_at_node (cs ++ v) n) ≡ Some e) [
      | true ↦ λ g. g
      | false ↦ λ g. entry_before cs v n e g
    ] h

pub alone_at : (u v : List Cell) (c : Cell) → DistinctNodes (u ++ c ∷ v) → is_at u c.at ≡ false
alone_at [] v c apart = refl
alone_at (d ∷ ds) v c apart =
    elim (d.at == c.at) as (λ t. (d.at == c.at) ≡ t → t || is_at ds c.at ≡ false) [
      | true ↦ λ is.
          let there : is_at (ds ++ c ∷ v) d.at ≡ true = is_at-append ds (c ∷ v) d.at ∙ rw (eqb-true d.at c.at is, at_self c.at) (or-true (is_at ds c.at)) in
          let gone : is_at (ds ++ c ∷ v) d.at ≡ false = apart.0 in
          cc
      | false ↦ λ is. alone_at ds v c (apart.1)
    ] refl

pub entry_here : (u v : List Cell) (c : Cell) → DistinctNodes (u ++ c ∷ v) → entry_at_node (u ++ c ∷ v) c.at ≡ Some c.entry
entry_here u v c apart = entry_behind u (c ∷ v) c.at (alone_at u v c apart) ∙ rw (at_self c.at) refl

entry_skipped : (u v : List Cell) (c : Cell) (n : ℕ) → (c.at == n) ≡ false → entry_at_node (u ++ c ∷ v) n ≡ entry_at_node (u ++ v) n
entry_skipped [] v c n h = rw h refl
entry_skipped (d ∷ ds) v c n h =
    elim (d.at == n) as (λ t. cond t (Some d.entry) (entry_at_node (ds ++ c ∷ v) n) ≡ cond t (Some d.entry) (entry_at_node (ds ++ v) n)) [ true ↦ refl | false ↦ entry_skipped ds v c n h ]

at_skipped : (u v : List Cell) (c : Cell) (n : ℕ) → (c.at == n) ≡ false → is_at (u ++ c ∷ v) n ≡ is_at (u ++ v) n
at_skipped [] v c n h = rw h refl
at_skipped (d ∷ ds) v c n h =
    elim (d.at == n) as (λ t. t || is_at (ds ++ c ∷ v) n ≡ t || is_at (ds ++ v) n) [ true ↦ refl | false ↦ at_skipped ds v c n h ]

-- a node has an entry, whose page is one of the circle's
record Entered (cs : List Cell) (n : ℕ) : Type 0 where
  entry : Entry
  is : entry_at_node cs n ≡ Some entry
  among : among (keys (entries_of cs)) entry.key ≡ true

entered : (cs : List Cell) (n : ℕ) → is_at cs n ≡ true → Entered cs n
entered [] n h = cc
entered (c ∷ cs) n h =
    elim (c.at == n) as (λ t. (c.at == n) ≡ t → t || is_at cs n ≡ true → Entered (c ∷ cs) n) [
      | true ↦ λ is g. record { entry = c.entry; is = rw is refl; among = rw (is_key_self c.entry.key) refl }
      | false ↦ λ is g.
          let e : Entered cs n = entered cs n g in
          record { entry = e.entry; is = rw is e.is; among = rw e.among (or-true (is_key e.entry.key c.entry.key)) }
    ] refl h

-- the cells around a node's
pub record Between (cs : List Cell) (at : ℕ) (e : Entry) : Type 0 where
  pub before : List Cell
  pub behind : List Cell
  pub parts : cs ≡ before ++ record { at = at; entry = e } ∷ behind

pub between : (cs : List Cell) (at : ℕ) (e : Entry) → entry_at_node cs at ≡ Some e → Between cs at e
between [] at e h = cc
between (c ∷ cs) at e h =
    elim (c.at == at) as (λ t. (c.at == at) ≡ t → cond t (Some c.entry) (entry_at_node cs at) ≡ Some e → Between (c ∷ cs) at e) [
      | true ↦ λ is g. record { before = []; behind = cs; parts = ap (λ (d : Cell). d ∷ cs) (one c at e (eqb-true c.at at is) g) }
      | false ↦ λ is g. let b : Between cs at e = between cs at e g in record { before = c ∷ b.before; behind = b.behind; parts = ap (λ (l : List Cell). c ∷ l) b.parts }
    ] refl h
  where
    one : (c : Cell) (at : ℕ) (e : Entry) → c.at ≡ at → Some c.entry ≡ Some e → c ≡ record { at = at; entry = e }
    one c at e n h = let same : c.entry ≡ e = cc in ap (λ (m : ℕ). record { at = m; entry = c.entry }) n ∙ ap (λ (x : Entry). record { at = at; entry = x }) same

-- Hands.

pub rests_at : (u v : List Cell) (c : Cell) (n : ℕ) → Rests (u ++ c ∷ v) n → is_at (u ++ c ∷ v) n ≡ true
rests_at [] v c n h = h
rests_at (d ∷ ds) v c n h = h

pub at_rests : (cs : List Cell) (n : ℕ) → is_at cs n ≡ true → Rests cs n
at_rests [] n h = cc
at_rests (c ∷ cs) n h = h

-- the keys of the others
none_among : (k : Key) (l : List Entry) → number (has_key k) l ≡ 0 → among (keys l) k ≡ false
none_among k [] h = refl
none_among k (e ∷ es) h =
    elim (has_key k e) as (λ t. cond t 1 0 + number (has_key k) es ≡ 0 → t || among (keys es) k ≡ false) [
      | true ↦ λ g. absurd (omega (arith, g))
      | false ↦ λ g. none_among k es (omega (arith, g))
    ] h

pub gone : (u v : List Cell) (c : Cell) → DistinctPages (u ++ c ∷ v) → among (keys (entries_of (u ++ v))) c.entry.key ≡ false
gone u v c distinct =
    let count : number (has_key c.entry.key) (entries_of (u ++ v)) + cond (has_key c.entry.key c.entry) 1 0 ≡ number (has_key c.entry.key) (entries_of (u ++ c ∷ v)) = remove_number (has_key c.entry.key) u v c in
    none_among c.entry.key (entries_of (u ++ v)) (omega (arith, rw (has_key_refl c.entry) at count, distinct c.entry.key))

pub among-cells : (u v : List Cell) (k : Key) → among (keys (entries_of (u ++ v))) k ≡ among (keys (entries_of u)) k || among (keys (entries_of v)) k
among-cells u v k =
    ap (λ (l : List Entry). among (keys l) k) (entries-append u v)
    ∙ ap (λ (l : List Key). among l k) (keys-append (entries_of u) (entries_of v))
    ∙ among-append k (keys (entries_of u)) (keys (entries_of v))

pub gone_before : (u v : List Cell) (c : Cell) → DistinctPages (u ++ c ∷ v) → among (keys (entries_of u)) c.entry.key ≡ false
gone_before u v c distinct = (or_parts (among (keys (entries_of u)) c.entry.key) (among (keys (entries_of v)) c.entry.key) (sym (among-cells u v c.entry.key) ∙ gone u v c distinct)).0

from_here : (k : Key) (a b : List Key) → among a k ≡ false → from_key k (a ++ k ∷ b) ≡ k ∷ b
from_here k [] b h = rw (is_key_self k) refl
from_here k (q ∷ qs) b h =
    let parts : (is_key k q ≡ false) × (among qs k ≡ false) = or_parts (is_key k q) (among qs k) h in
    rw (parts.0) (from_here k qs b (parts.1))

before_here : (k : Key) (a b : List Key) → among a k ≡ false → before_key k (a ++ k ∷ b) ≡ a
before_here k [] b h = rw (is_key_self k) refl
before_here k (q ∷ qs) b h =
    let parts : (is_key k q ≡ false) × (among qs k ≡ false) = or_parts (is_key k q) (among qs k) h in
    rw (parts.0) (ap (λ (l : List Key). q ∷ l) (before_here k qs b (parts.1)))

-- the page of the first cell
abbrev head_key : List Cell → Option Key
head_key [] = None
head_key (c ∷ cs) = Some c.entry.key

first_key : (q : Key → Bool) (l : List Cell) → ((k : Key) → among (keys (entries_of l)) k ≡ true → q k ≡ true) → find q (keys (entries_of l)) ≡ head_key l
first_key q [] all = refl
first_key q (c ∷ cs) all = rw (all c.entry.key (rw (is_key_self c.entry.key) refl)) refl

hand_first : (u v : List Cell) (n : ℕ) → DistinctNodes (u ++ v) → hand_at (u ++ v) (first_at (v ++ u) n) ≡ head_key (v ++ u)
hand_first u (d ∷ ds) n apart = ap found_key (entry_here u ds d apart)
hand_first [] [] n apart = refl
hand_first (d ∷ ds) [] n apart = rw (at_self d.at) refl

-- the next of a cell that goes
settled_next : (u v : List Cell) (c : Cell) → DistinctNodes (u ++ v) → DistinctPages (u ++ c ∷ v) →
    settled (entries_of (u ++ c ∷ v)) (entries_of (u ++ v)) (Some c.entry.key) ≡ hand_at (u ++ v) (first_at (v ++ u) c.at)
settled_next u v c apart distinct =
    let k : Key = c.entry.key in
    let q : Key → Bool = among (keys (entries_of (u ++ v))) in
    let ku : List Key = keys (entries_of u) in
    let kv : List Key = keys (entries_of v) in
    let whole : keys (entries_of (u ++ c ∷ v)) ≡ ku ++ k ∷ kv = ap keys (entries-append u (c ∷ v)) ∙ keys-append (entries_of u) (entries_of (c ∷ v)) in
    let alone : among ku k ≡ false = gone_before u v c distinct in
    settled_rest (entries_of (u ++ c ∷ v)) (entries_of (u ++ v)) (Some k)
    ∙ ap (λ (l : List Key). rest q l (Some k)) whole
    ∙ ap (λ (l : List Key). find q (l ++ before_key k (ku ++ k ∷ kv))) (from_here k ku kv alone)
    ∙ ap (λ (l : List Key). find q ((k ∷ kv) ++ l)) (before_here k ku kv alone)
    ∙ not_first q k (kv ++ ku) (gone u v c distinct)
    ∙ ap (find q) (sym (ap keys (entries-append v u) ∙ keys-append (entries_of v) (entries_of u)))
    ∙ first_key q (v ++ u) (λ x there. among-cells u v x ∙ or_comm (among ku x) (among kv x) ∙ sym (among-cells v u x) ∙ there)
    ∙ sym (hand_first u v c.at apart)
  where
    not_first : (q : Key → Bool) (k : Key) (l : List Key) → q k ≡ false → find q (k ∷ l) ≡ find q l
    not_first q k l h = rw h refl

unequal_sym : (m n : ℕ) → (m == n) ≡ false → (n == m) ≡ false
unequal_sym m n h = ne_eqb n m (λ same. eqb-false m n h (sym same))

-- where a hand rests once a cell is out
abbrev pub left_at : ℕ → ℕ → ℕ → ℕ
left_at hand at next = cond (hand == at) next hand

settled_hand : (u v : List Cell) (c : Cell) (hand : ℕ) → DistinctNodes (u ++ c ∷ v) → DistinctNodes (u ++ v) → DistinctPages (u ++ c ∷ v) → Rests (u ++ c ∷ v) hand →
    settled (entries_of (u ++ c ∷ v)) (entries_of (u ++ v)) (hand_at (u ++ c ∷ v) hand) ≡ hand_at (u ++ v) (left_at hand c.at (first_at (v ++ u) c.at))
settled_hand u v c hand apart left distinct rests =
    elim (hand == c.at) as (λ t. (hand == c.at) ≡ t → settled (entries_of (u ++ c ∷ v)) (entries_of (u ++ v)) (hand_at (u ++ c ∷ v) hand) ≡ hand_at (u ++ v) (cond t (first_at (v ++ u) c.at) hand)) [
      | true ↦ λ is.
          ap (settled (entries_of (u ++ c ∷ v)) (entries_of (u ++ v))) (ap (hand_at (u ++ c ∷ v)) (eqb-true hand c.at is) ∙ ap found_key (entry_here u v c apart))
          ∙ settled_next u v c left distinct
      | false ↦ λ is.
          let other : (c.at == hand) ≡ false = unequal_sym hand c.at is in
          let e : Entered (u ++ v) hand = entered (u ++ v) hand (sym (at_skipped u v c hand other) ∙ rests_at u v c hand rests) in
          let old : hand_at (u ++ c ∷ v) hand ≡ Some e.entry.key = ap found_key (entry_skipped u v c hand other ∙ e.is) in
          ap (settled (entries_of (u ++ c ∷ v)) (entries_of (u ++ v))) old
          ∙ settled_rest (entries_of (u ++ c ∷ v)) (entries_of (u ++ v)) (Some e.entry.key)
          ∙ rest_stays (among (keys (entries_of (u ++ v)))) (keys (entries_of (u ++ c ∷ v))) e.entry.key e.among (more u v c e.entry.key e.among)
          ∙ sym (ap found_key e.is)
    ] refl
  where
    more : (u v : List Cell) (c : Cell) (k : Key) → among (keys (entries_of (u ++ v))) k ≡ true → among (keys (entries_of (u ++ c ∷ v))) k ≡ true
    more u v c k h = among-cells u (c ∷ v) k ∙ wider (among (keys (entries_of u)) k) (is_key k c.entry.key) (among (keys (entries_of v)) k) (sym (among-cells u v k) ∙ h)
      where
        wider : (a b d : Bool) → a || d ≡ true → a || (b || d) ≡ true
        wider true b d h = refl
        wider false true d h = refl
        wider false false d h = h

-- Moves.

pub removed_on : (u v : List Cell) (c : Cell) (cold test : ℕ) (s : ClockState) → Whole (u ++ c ∷ v) cold test → DistinctNodes (u ++ v) →
    on (u ++ v) (left_at cold c.at (first_at (v ++ u) c.at)) (left_at test c.at (first_at (v ++ u) c.at)) s ≡ removed c.entry.key (on (u ++ c ∷ v) cold test s)
unfolding removed relisted
removed_on u v c cold test s w left =
    let old : List Entry = entries_of (u ++ c ∷ v) in
    let rest : take (place c.entry.key old) old ++ drop (place c.entry.key old + 1) old ≡ entries_of (u ++ v) =
    ap (λ (l : List Entry). take (place c.entry.key l) l ++ drop (place c.entry.key l + 1) l) (entries-append u (c ∷ v))
    ∙ without_at c.entry (entries_of u) (entries_of v) (gone_before u v c w.distinct)
    ∙ sym (entries-append u v) in
    sym (
    ap (λ (l : List Entry). record s { entries = l; cold_hand = settled old l (hand_at (u ++ c ∷ v) cold); test_hand = settled old l (hand_at (u ++ c ∷ v) test) }) rest
    ∙ ap (λ (h : Option Key). record s { entries = entries_of (u ++ v); cold_hand = h; test_hand = settled old (entries_of (u ++ v)) (hand_at (u ++ c ∷ v) test) }) (settled_hand u v c cold w.apart left w.distinct w.cold_rests)
    ∙ ap (λ (h : Option Key). record s { entries = entries_of (u ++ v); cold_hand = hand_at (u ++ v) (left_at cold c.at (first_at (v ++ u) c.at)); test_hand = h }) (settled_hand u v c test w.apart left w.distinct w.test_rests)
    )

first_in : (l : List Cell) (n : ℕ) → Rests l (first_at l n)
first_in [] n = tt
first_in (c ∷ cs) n = rw (at_self c.at) refl

swap_rests : (u v : List Cell) (n : ℕ) → Rests (v ++ u) n → Rests (u ++ v) n
swap_rests u v n h = by_cells (u ++ v) (v ++ u) refl h
  where
    filled : (u v : List Cell) (c : Cell) (cs : List Cell) → u ++ v ≡ c ∷ cs → Rests (v ++ u) n → is_at (v ++ u) n ≡ true
    filled (d ∷ ds) [] c cs e h = h
    filled [] [] c cs e h = cc
    filled u (d ∷ ds) c cs e h = h

    by_cells : (l m : List Cell) → u ++ v ≡ l → Rests (v ++ u) n → Rests l n
    by_cells [] m e h = tt
    by_cells (c ∷ cs) m e h = ap (λ (l : List Cell). is_at l n) (sym e) ∙ is_at-append u v n ∙ or_comm (is_at u n) (is_at v n) ∙ sym (is_at-append v u n) ∙ filled u v c cs e h

pub left_rests : (u v : List Cell) (c : Cell) (hand : ℕ) → Rests (u ++ c ∷ v) hand → Rests (u ++ v) (left_at hand c.at (first_at (v ++ u) c.at))
left_rests u v c hand rests =
    elim (hand == c.at) as (λ t. (hand == c.at) ≡ t → Rests (u ++ v) (cond t (first_at (v ++ u) c.at) hand)) [
      | true ↦ λ is. swap_rests u v (first_at (v ++ u) c.at) (first_in (v ++ u) c.at)
      | false ↦ λ is. at_rests (u ++ v) hand (sym (at_skipped u v c hand (unequal_sym hand c.at is)) ∙ rests_at u v c hand rests)
    ] refl

-- What stays whole.

marked_distinct : (kind : EntryKind) (u v : List Cell) (c : Cell) → DistinctPages (u ++ c ∷ v) → DistinctPages (u ++ of_kind kind c ∷ v)
marked_distinct kind u v c h k =
    let e : number (has_key k) (entries_of (u ++ of_kind kind c ∷ v)) + cond (has_key k c.entry) 1 0 ≡ number (has_key k) (entries_of (u ++ c ∷ v)) + cond (has_key k c.entry) 1 0 = mark_number (has_key k) kind u v c in
    omega (arith, e, h k)

removed_distinct : (u v : List Cell) (c : Cell) → DistinctPages (u ++ c ∷ v) → DistinctPages (u ++ v)
removed_distinct u v c h k = omega (arith, remove_number (has_key k) u v c, h k)

turned_distinct : (a b : List Cell) → DistinctPages (a ++ b) → DistinctPages (b ++ a)
turned_distinct a b h k = omega (arith, number-cells (has_key k) a b, number-cells (has_key k) b a, h k)

marked_at : (kind : EntryKind) (u v : List Cell) (c : Cell) (n : ℕ) → is_at (u ++ of_kind kind c ∷ v) n ≡ is_at (u ++ c ∷ v) n
marked_at kind [] v c n = refl
marked_at kind (d ∷ ds) v c n = ap (λ (t : Bool). (d.at == n) || t) (marked_at kind ds v c n)

filled_rests : (l m : List Cell) (n : ℕ) → ((k : ℕ) → is_at m k ≡ is_at l k) → length l ≡ length m → Rests l n → Rests m n
filled_rests l [] n same len h = tt
filled_rests [] (d ∷ ds) n same len h = absurd (omega (arith, len))
filled_rests (c ∷ cs) (d ∷ ds) n same len h = same n ∙ h

length_marked : (kind : EntryKind) (u v : List Cell) (c : Cell) → length (u ++ c ∷ v) ≡ length (u ++ of_kind kind c ∷ v)
length_marked kind [] v c = refl
length_marked kind (d ∷ ds) v c = ap (λ (n : ℕ). suc n) (length_marked kind ds v c)

pub marked_whole : (kind : EntryKind) (u v : List Cell) (c : Cell) (cold test : ℕ) → Whole (u ++ c ∷ v) cold test → DistinctNodes (u ++ of_kind kind c ∷ v) → Whole (u ++ of_kind kind c ∷ v) cold test
marked_whole kind u v c cold test w apart = record {
  apart = apart;
  distinct = marked_distinct kind u v c w.distinct;
  cold_rests = filled_rests (u ++ c ∷ v) (u ++ of_kind kind c ∷ v) cold (marked_at kind u v c) (length_marked kind u v c) w.cold_rests;
  test_rests = filled_rests (u ++ c ∷ v) (u ++ of_kind kind c ∷ v) test (marked_at kind u v c) (length_marked kind u v c) w.test_rests;
}

pub removed_whole : (u v : List Cell) (c : Cell) (cold test : ℕ) → Whole (u ++ c ∷ v) cold test → DistinctNodes (u ++ v) →
    Whole (u ++ v) (left_at cold c.at (first_at (v ++ u) c.at)) (left_at test c.at (first_at (v ++ u) c.at))
removed_whole u v c cold test w apart = record {
  apart = apart;
  distinct = removed_distinct u v c w.distinct;
  cold_rests = left_rests u v c cold w.cold_rests;
  test_rests = left_rests u v c test w.test_rests;
}

pub turned_whole : (c : Cell) (cs : List Cell) (cold test : ℕ) → Whole (c ∷ cs) cold test → DistinctNodes (cs ++ c ∷ []) → Whole (cs ++ c ∷ []) cold test
turned_whole c cs cold test w apart = record {
  apart = apart;
  distinct = turned_distinct (c ∷ []) cs w.distinct;
  cold_rests = swap_rests cs (c ∷ []) cold w.cold_rests;
  test_rests = swap_rests cs (c ∷ []) test w.test_rests;
}

-- An entry is marked.

hand_marked : (kind : EntryKind) (u v : List Cell) (c : Cell) (n : ℕ) → hand_at (u ++ of_kind kind c ∷ v) n ≡ hand_at (u ++ c ∷ v) n
hand_marked kind [] v c n =
    elim (c.at == n) as (λ t. found_key (cond t (Some (of_kind kind c).entry) (entry_at_node v n)) ≡ found_key (cond t (Some c.entry) (entry_at_node v n))) [ true ↦ refl | false ↦ refl ]
hand_marked kind (d ∷ ds) v c n =
    elim (d.at == n) as (λ t. found_key (cond t (Some d.entry) (entry_at_node (ds ++ of_kind kind c ∷ v) n)) ≡ found_key (cond t (Some d.entry) (entry_at_node (ds ++ c ∷ v) n))) [ true ↦ refl | false ↦ hand_marked kind ds v c n ]

pub marked_on : (kind : EntryKind) (u v : List Cell) (c : Cell) (cold test : ℕ) (s : ClockState) → DistinctPages (u ++ c ∷ v) →
    on (u ++ of_kind kind c ∷ v) cold test s ≡ marked c.entry.key kind (on (u ++ c ∷ v) cold test s)
unfolding marked
marked_on kind u v c cold test s distinct =
    let y : Entry = record { key = c.entry.key; kind = kind } in
    let new : entries_of (u ++ of_kind kind c ∷ v) ≡ set (entries_of (u ++ c ∷ v)) (place c.entry.key (entries_of (u ++ c ∷ v))) y =
    entries-append u (of_kind kind c ∷ v)
    ∙ sym (set_at c.entry y (entries_of u) (entries_of v) (gone_before u v c distinct))
    ∙ ap (λ (l : List Entry). set l (place c.entry.key l) y) (sym (entries-append u (c ∷ v))) in
    ap (λ (l : List Entry). record s { entries = l; cold_hand = hand_at (u ++ of_kind kind c ∷ v) cold; test_hand = hand_at (u ++ of_kind kind c ∷ v) test }) new
    ∙ ap (λ (h : Option Key). record s { entries = set (entries_of (u ++ c ∷ v)) (place c.entry.key (entries_of (u ++ c ∷ v))) y; cold_hand = h; test_hand = hand_at (u ++ of_kind kind c ∷ v) test }) (hand_marked kind u v c cold)
    ∙ ap (λ (h : Option Key). record s { entries = set (entries_of (u ++ c ∷ v)) (place c.entry.key (entries_of (u ++ c ∷ v))) y; cold_hand = hand_at (u ++ c ∷ v) cold; test_hand = h }) (hand_marked kind u v c test)

-- The front becomes the last.

entry_turned : (c : Cell) (cs : List Cell) (n : ℕ) → DistinctNodes (c ∷ cs) → entry_at_node (cs ++ c ∷ []) n ≡ entry_at_node (c ∷ cs) n
entry_turned c cs n apart =
    elim (c.at == n) as (λ t. (c.at == n) ≡ t → entry_at_node (cs ++ c ∷ []) n ≡ cond t (Some c.entry) (entry_at_node cs n)) [
      | true ↦ λ is.
          let alone : is_at cs n ≡ false = ap (is_at cs) (sym (eqb-true c.at n is)) ∙ apart.0 in
          entry_behind cs (c ∷ []) n alone ∙ rw is refl
      | false ↦ λ is. entry_skipped cs [] c n is ∙ ap (λ (l : List Cell). entry_at_node l n) (append-nil cs)
    ] refl

pub turned_on : (c : Cell) (cs : List Cell) (cold test : ℕ) (s : ClockState) → DistinctNodes (c ∷ cs) → on (cs ++ c ∷ []) cold test s ≡ front_turned (on (c ∷ cs) cold test s)
unfolding front_turned
turned_on c cs cold test s apart =
    ap (λ (l : List Entry). record s { entries = l; cold_hand = hand_at (cs ++ c ∷ []) cold; test_hand = hand_at (cs ++ c ∷ []) test }) (entries-append cs (c ∷ []))
    ∙ ap (λ (h : Option Entry). record s { entries = entries_of cs ++ c.entry ∷ []; cold_hand = found_key h; test_hand = hand_at (cs ++ c ∷ []) test }) (entry_turned c cs cold apart)
    ∙ ap (λ (h : Option Entry). record s { entries = entries_of cs ++ c.entry ∷ []; cold_hand = hand_at (c ∷ cs) cold; test_hand = found_key h }) (entry_turned c cs test apart)

-- A new last.

-- where a hand rests once a cell is the last: on it, if it stood on none
abbrev pub taken_up : List Cell → ℕ → ℕ → ℕ
taken_up [] at hand = at
taken_up (c ∷ cs) at hand = hand

pub appended_rests : (cs : List Cell) (c : Cell) (hand : ℕ) → Rests cs hand → Rests (cs ++ c ∷ []) (taken_up cs c.at hand)
appended_rests [] c hand h = rw (at_self c.at) refl
appended_rests (d ∷ ds) c hand h = is_at-append (d ∷ ds) (c ∷ []) hand ∙ rw h refl

pub appended_whole : (cs : List Cell) (c : Cell) (cold test : ℕ) → Whole cs cold test → DistinctNodes (cs ++ c ∷ []) → DistinctPages (cs ++ c ∷ []) → Whole (cs ++ c ∷ []) (taken_up cs c.at cold) (taken_up cs c.at test)
appended_whole cs c cold test w apart distinct = record {
  apart = apart;
  distinct = distinct;
  cold_rests = appended_rests cs c cold w.cold_rests;
  test_rests = appended_rests cs c test w.test_rests;
}

hand_appended : (cs : List Cell) (c : Cell) (hand : ℕ) → Rests cs hand → hand_at (cs ++ c ∷ []) (taken_up cs c.at hand) ≡ Some (unwrap_or (hand_at cs hand) c.entry.key)
hand_appended [] c hand h = rw (at_self c.at) refl
hand_appended (d ∷ ds) c hand h =
    let e : Entered (d ∷ ds) hand = entered (d ∷ ds) hand h in
    ap found_key (entry_before (d ∷ ds) (c ∷ []) hand e.entry e.is) ∙ sym (ap (λ (o : Option Entry). Some (unwrap_or (found_key o) c.entry.key)) e.is)

pub appended_on : (cs : List Cell) (c : Cell) (cold test : ℕ) (s : ClockState) → Rests cs cold → Rests cs test →
    on (cs ++ c ∷ []) (taken_up cs c.at cold) (taken_up cs c.at test) s ≡ appended c.entry (on cs cold test s)
unfolding appended
appended_on cs c cold test s cold_rests test_rests =
    ap (λ (l : List Entry). record s { entries = l; cold_hand = hand_at (cs ++ c ∷ []) (taken_up cs c.at cold); test_hand = hand_at (cs ++ c ∷ []) (taken_up cs c.at test) }) (entries-append cs (c ∷ []))
    ∙ ap (λ (h : Option Key). record s { entries = entries_of cs ++ c.entry ∷ []; cold_hand = h; test_hand = hand_at (cs ++ c ∷ []) (taken_up cs c.at test) }) (hand_appended cs c cold cold_rests)
    ∙ ap (λ (h : Option Key). record s { entries = entries_of cs ++ c.entry ∷ []; cold_hand = Some (unwrap_or (hand_at cs cold) c.entry.key); test_hand = h }) (hand_appended cs c test test_rests)

-- An entry becomes the last.

-- with no other cell the next of a cell is itself, and a hand that rests stands on it
left_taken : (u v : List Cell) (c : Cell) (hand : ℕ) → Rests (u ++ c ∷ v) hand →
    taken_up (u ++ v) c.at (left_at hand c.at (first_at (v ++ u) c.at)) ≡ left_at hand c.at (first_at (v ++ u) c.at)
left_taken [] [] c hand rests =
    elim (hand == c.at) as (λ t. (hand == c.at) ≡ t → c.at ≡ cond t c.at hand) [
      | true ↦ λ is. refl
      | false ↦ λ is. alone (c.at == hand) (unequal_sym hand c.at is) rests
    ] refl
  where
    alone : (b : Bool) → b ≡ false → b || false ≡ true → c.at ≡ hand
    alone true h g = cc
    alone false h g = cc
left_taken [] (d ∷ ds) c hand rests = refl
left_taken (d ∷ ds) v c hand rests = refl

pub sent_whole : (kind : EntryKind) (u v : List Cell) (c : Cell) (cold test : ℕ) → Whole (u ++ c ∷ v) cold test → DistinctNodes (u ++ v) → DistinctNodes ((u ++ v) ++ of_kind kind c ∷ []) →
    Whole ((u ++ v) ++ of_kind kind c ∷ []) (left_at cold c.at (first_at (v ++ u) c.at)) (left_at test c.at (first_at (v ++ u) c.at))
sent_whole kind u v c cold test w left apart =
    let next : ℕ = first_at (v ++ u) c.at in
    let out : Whole (u ++ v) (left_at cold c.at next) (left_at test c.at next) = removed_whole u v c cold test w left in
    record {
      apart = apart;
      distinct = λ k.
          let two : number (has_key k) (entries_of ((u ++ v) ++ of_kind kind c ∷ [])) ≡ number (has_key k) (entries_of (u ++ v)) + (cond (has_key k c.entry) 1 0 + 0) = number-cells (has_key k) (u ++ v) (of_kind kind c ∷ []) in
          omega (arith, two, remove_number (has_key k) u v c, w.distinct k);
      cold_rests = subst (Rests ((u ++ v) ++ of_kind kind c ∷ [])) (left_taken u v c cold w.cold_rests) (appended_rests (u ++ v) (of_kind kind c) (left_at cold c.at next) out.cold_rests);
      test_rests = subst (Rests ((u ++ v) ++ of_kind kind c ∷ [])) (left_taken u v c test w.test_rests) (appended_rests (u ++ v) (of_kind kind c) (left_at test c.at next) out.test_rests);
    }

pub sent_on : (kind : EntryKind) (u v : List Cell) (c : Cell) (cold test : ℕ) (s : ClockState) → Whole (u ++ c ∷ v) cold test → DistinctNodes (u ++ v) →
    on ((u ++ v) ++ of_kind kind c ∷ []) (left_at cold c.at (first_at (v ++ u) c.at)) (left_at test c.at (first_at (v ++ u) c.at)) s ≡ sent_to_end c.entry.key kind (on (u ++ c ∷ v) cold test s)
unfolding sent_to_end
sent_on kind u v c cold test s w left =
    let next : ℕ = first_at (v ++ u) c.at in
    let new : List Cell = (u ++ v) ++ of_kind kind c ∷ [] in
    let out : Whole (u ++ v) (left_at cold c.at next) (left_at test c.at next) = removed_whole u v c cold test w left in
    ap (λ (n : ℕ). on new n (left_at test c.at next) s) (sym (left_taken u v c cold w.cold_rests))
    ∙ ap (λ (n : ℕ). on new (taken_up (u ++ v) c.at (left_at cold c.at next)) n s) (sym (left_taken u v c test w.test_rests))
    ∙ appended_on (u ++ v) (of_kind kind c) (left_at cold c.at next) (left_at test c.at next) s out.cold_rests out.test_rests
    ∙ ap (appended (of_kind kind c).entry) (removed_on u v c cold test s w left)

-- Hands are set.

pub cold_set_on : (cs : List Cell) (at cold test : ℕ) (e : Entry) (s : ClockState) → entry_at_node cs at ≡ Some e → on cs at test s ≡ cold_hand_on e.key (on cs cold test s)
unfolding cold_hand_on
cold_set_on cs at cold test e s h = ap (λ (o : Option Entry). record s { entries = entries_of cs; cold_hand = found_key o; test_hand = hand_at cs test }) h

pub test_set_on : (cs : List Cell) (at cold test : ℕ) (e : Entry) (s : ClockState) → entry_at_node cs at ≡ Some e → on cs cold at s ≡ test_hand_on e.key (on cs cold test s)
unfolding test_hand_on
test_set_on cs at cold test e s h = ap (λ (o : Option Entry). record s { entries = entries_of cs; cold_hand = hand_at cs cold; test_hand = found_key o }) h

-- A shadow, with the cold hand on its next.

pub placed : (u v : List Cell) (c : Cell) → DistinctPages (u ++ c ∷ v) → place c.entry.key (entries_of (u ++ c ∷ v)) ≡ length u
placed u v c distinct = ap (place c.entry.key) (entries-append u (c ∷ v)) ∙ after u v c (gone_before u v c distinct)
  where
    after : (u v : List Cell) (c : Cell) → among (keys (entries_of u)) c.entry.key ≡ false → place c.entry.key (entries_of u ++ c.entry ∷ entries_of v) ≡ length u
    after [] v c h = rw (has_key_refl c.entry) refl
    after (d ∷ ds) v c h =
        let parts : (is_key c.entry.key d.entry.key ≡ false) × (among (keys (entries_of ds)) c.entry.key ≡ false) = or_parts (is_key c.entry.key d.entry.key) (among (keys (entries_of ds)) c.entry.key) h in
        let other : has_key c.entry.key d.entry ≡ false = parts.0 in
        rw other (ap (λ (n : ℕ). suc n) (after ds v c (parts.1)))

next_round : (u v : List Cell) (c : Cell) (n : ℕ) → n ≡ length u → found_key (find (λ _. true) (round (n + 1) (entries_of (u ++ c ∷ v)))) ≡ head_key (v ++ (u ++ c ∷ []))
next_round u v c n h = rw (add-one, h) (ap (λ (l : List Entry). found_key (find (λ _. true) l)) (turned u v c) ∙ first (v ++ (u ++ c ∷ [])))
  where
    dropped : (u v : List Cell) (c : Cell) → drop (suc (length u)) (entries_of (u ++ c ∷ v)) ≡ entries_of v
    dropped [] v c = refl
    dropped (d ∷ ds) v c = dropped ds v c

    kept : (u v : List Cell) (c : Cell) → take (suc (length u)) (entries_of (u ++ c ∷ v)) ≡ entries_of (u ++ c ∷ [])
    kept [] v c = refl
    kept (d ∷ ds) v c = ap (λ (l : List Entry). d.entry ∷ l) (kept ds v c)

    turned : (u v : List Cell) (c : Cell) → round (suc (length u)) (entries_of (u ++ c ∷ v)) ≡ entries_of (v ++ (u ++ c ∷ []))
    turned u v c = ap (λ (l : List Entry). l ++ take (suc (length u)) (entries_of (u ++ c ∷ v))) (dropped u v c) ∙ ap (λ (l : List Entry). entries_of v ++ l) (kept u v c) ∙ sym (entries-append v (u ++ c ∷ []))

    first : (l : List Cell) → found_key (find (λ _. true) (entries_of l)) ≡ head_key l
    first [] = refl
    first (d ∷ ds) = refl

pub next_hand : (u v : List Cell) (c : Cell) → DistinctNodes (u ++ c ∷ v) → hand_at (u ++ c ∷ v) (first_at (v ++ u) c.at) ≡ head_key (v ++ (u ++ c ∷ []))
next_hand u (d ∷ ds) c apart =
    ap (λ (l : List Cell). hand_at l d.at) (sym (append_assoc u (c ∷ []) (d ∷ ds)))
    ∙ ap found_key (entry_here (u ++ c ∷ []) ds d (subst DistinctNodes (sym (append_assoc u (c ∷ []) (d ∷ ds))) apart))
next_hand [] [] c apart = rw (at_self c.at) refl
next_hand (d ∷ ds) [] c apart = rw (at_self d.at) refl

pub next_rests : (u v : List Cell) (c : Cell) → Rests (u ++ c ∷ v) (first_at (v ++ u) c.at)
next_rests u v c = at_rests (u ++ c ∷ v) (first_at (v ++ u) c.at) (is_at-append u (c ∷ v) (first_at (v ++ u) c.at) ∙ there u v c)
  where
    there : (u v : List Cell) (c : Cell) → is_at u (first_at (v ++ u) c.at) || is_at (c ∷ v) (first_at (v ++ u) c.at) ≡ true
    there u (d ∷ ds) c = rw (at_self d.at, or-true (c.at == d.at)) (or-true (is_at u d.at))
    there [] [] c = rw (at_self c.at) refl
    there (d ∷ ds) [] c = rw (at_self d.at) refl

pub shadowed_on : (u v : List Cell) (c : Cell) (cold test : ℕ) (s : ClockState) → DistinctPages (u ++ c ∷ v) → DistinctNodes (u ++ of_kind Shadow c ∷ v) →
    on (u ++ of_kind Shadow c ∷ v) (first_at (v ++ u) c.at) test s ≡ shadowed c.entry.key (on (u ++ c ∷ v) cold test s)
unfolding shadowed
shadowed_on u v c cold test s distinct apart =
    let new : List Cell = u ++ of_kind Shadow c ∷ v in
    let at : place c.entry.key (entries_of (u ++ c ∷ v)) ≡ length u = placed u v c distinct in
    ap (λ (h : Option Key). record s { entries = entries_of new; cold_hand = h; test_hand = hand_at new test }) (next_hand u v (of_kind Shadow c) apart ∙ sym (next_round u v (of_kind Shadow c) (place c.entry.key (entries_of (u ++ c ∷ v))) at))
    ∙ ap (λ (m : ClockState). record m { cold_hand = found_key (find (λ _. true) (round (place c.entry.key (entries_of (u ++ c ∷ v)) + 1) m.entries)) }) (marked_on Shadow u v c cold test s distinct)
