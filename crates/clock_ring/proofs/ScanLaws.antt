-- A walk along the links, from a node on.
use Rattle.std.specs.Prelude.{◌≡◌, ℕ, zero, suc, ◌+◌, ◌≤◌, ◌<◌, Bool, true, false, ◌==◌, ◌||◌, ◌-◌, nat_lt, cond, find, slice_get, Option, Some, None, List, [], ◌∷◌, ◌++◌, take, drop, length, refl}
use Rattle.std.proofs.Common.{arith, sym, ap, ◌∙◌, subst, append_assoc, add-one, append-nil}
use Rattle.std.proofs.lemmas.List.Folds.{find-append}
use Rattle.std.proofs.lemmas.Bool.{or_parts}
use Rattle.clock_policy.proofs.FindLaws.{option_or-none}
use Rattle.clock_policy.proofs.QuestionLaws.{none_found}
use Rattle.clock_policy.specs.declared.key.Key.{Key}
use Rattle.clock_policy.specs.declared.entry.Entry.{Entry}
use Rattle.clock_policy.specs.ClockPro.{number, found_key, place_of, round, asks_hot, asked_entry, is_hot, is_cold, hot_count, cold_count, ClockState}
use Rattle.page_ring.specs.declared.links.Node.{Node}
use Rattle.page_ring.specs.Linked.{Cell, DistinctNodes, is_at, first_at, last_at}
use Rattle.page_ring.proofs.LinkLaws.{at_self}
use Rattle.page_ring.proofs.ChainLaws.{Split, split, rotates_split}
use Rattle.page_ring.specs.Index.{entries_of, DistinctPages}
use Rattle.page_ring.proofs.IndexLaws.{entries-append, number-cells, remove_number}
use Rattle.clock_ring.specs.RingState.{entry_at_node, hand_at, from_at, before_at, around, Rests}
use Rattle.clock_ring.proofs.MoveLaws.{alone_at, entry_here, next_rests, placed}
use Rattle.clock_ring.proofs.StepLaws.{NodeAt}

from_here : (u v : List Cell) (c : Cell) → is_at u c.at ≡ false → from_at (u ++ c ∷ v) c.at ≡ c ∷ v
from_here [] v c h = rw (at_self c.at) refl
from_here (d ∷ ds) v c h =
    let parts : ((d.at == c.at) ≡ false) × (is_at ds c.at ≡ false) = or_parts (d.at == c.at) (is_at ds c.at) h in
    rw (parts.0) (from_here ds v c (parts.1))

before_here : (u v : List Cell) (c : Cell) → is_at u c.at ≡ false → before_at (u ++ c ∷ v) c.at ≡ u
before_here [] v c h = rw (at_self c.at) refl
before_here (d ∷ ds) v c h =
    let parts : ((d.at == c.at) ≡ false) × (is_at ds c.at ≡ false) = or_parts (d.at == c.at) (is_at ds c.at) h in
    rw (parts.0) (ap (λ (l : List Cell). d ∷ l) (before_here ds v c (parts.1)))

pub around_here : (u v : List Cell) (c : Cell) → DistinctNodes (u ++ c ∷ v) → around (u ++ c ∷ v) c.at ≡ c ∷ (v ++ u)
around_here u v c apart =
    let alone : is_at u c.at ≡ false = alone_at u v c apart in
    ap (λ (l : List Cell). l ++ before_at (u ++ c ∷ v) c.at) (from_here u v c alone) ∙ ap (λ (l : List Cell). (c ∷ v) ++ l) (before_here u v c alone)

-- from the next on
pub around_next : (u v : List Cell) (c : Cell) → DistinctNodes (u ++ c ∷ v) → around (u ++ c ∷ v) (first_at (v ++ u) c.at) ≡ (v ++ u) ++ c ∷ []
around_next u (d ∷ ds) c apart =
    ap (λ (l : List Cell). around l d.at) (sym (append_assoc u (c ∷ []) (d ∷ ds)))
    ∙ around_here (u ++ c ∷ []) ds d (subst DistinctNodes (sym (append_assoc u (c ∷ []) (d ∷ ds))) apart)
    ∙ ap (λ (l : List Cell). d ∷ l) (sym (append_assoc ds u (c ∷ [])))
around_next [] [] c apart = rw (at_self c.at) refl
around_next (d ∷ ds) [] c apart = around_here [] (ds ++ c ∷ []) d apart ∙ append-nil (d ∷ (ds ++ c ∷ []))

pub rests_is : (u v : List Cell) (c : Cell) → Rests (u ++ c ∷ v) (first_at (v ++ u) c.at) → is_at (u ++ c ∷ v) (first_at (v ++ u) c.at) ≡ true
rests_is [] v c h = h
rests_is (d ∷ ds) v c h = h

-- where a node stands, and what it tells
pub record Stands (cells : List Cell) (at : ℕ) (node : Node) : Type 0 where
  pub before : List Cell
  pub cell : Cell
  pub behind : List Cell
  pub parts : cells ≡ before ++ cell ∷ behind
  pub is : cell.at ≡ at
  pub entry : node.entry ≡ cell.entry
  pub next : node.next ≡ first_at (behind ++ before) cell.at
  pub holds : entry_at_node cells at ≡ Some node.entry
  pub here : around cells at ≡ cell ∷ (behind ++ before)
  pub ahead : around cells node.next ≡ (behind ++ before) ++ cell ∷ []
  pub there : is_at cells node.next ≡ true

pub stands : (cells : List Cell) (at : ℕ) (node : Node) → DistinctNodes cells → is_at cells at ≡ true → NodeAt cells at node → Stands cells at node
stands cells at node apart there told = at_split (split cells at there)
  where
    at_split : Split cells at → Stands cells at node
    at_split e =
        let u : List Cell = e.before in
        let v : List Cell = e.behind in
        let c : Cell = e.cell in
        let same : node ≡ record { entry = c.entry; next = first_at (v ++ u) at; previous = last_at at (v ++ u) } = told c (v ++ u) (rotates_split cells u v c e.parts) e.is in
        let entry : node.entry ≡ c.entry = ap (λ (m : Node). m.entry) same in
        let next : node.next ≡ first_at (v ++ u) c.at = ap (λ (m : Node). m.next) same ∙ ap (first_at (v ++ u)) (sym e.is) in
        let whole : DistinctNodes (u ++ c ∷ v) = subst DistinctNodes e.parts apart in
        record {
          before = u;
          cell = c;
          behind = v;
          parts = e.parts;
          is = e.is;
          entry = entry;
          next = next;
          holds = ap (λ (l : List Cell). entry_at_node l at) e.parts ∙ ap (entry_at_node (u ++ c ∷ v)) (sym e.is) ∙ entry_here u v c whole ∙ ap (λ (x : Entry). Some x) (sym entry);
          here = ap (λ (l : List Cell). around l at) e.parts ∙ ap (around (u ++ c ∷ v)) (sym e.is) ∙ around_here u v c whole;
          ahead = ap (λ (l : List Cell). around l node.next) e.parts ∙ ap (around (u ++ c ∷ v)) next ∙ around_next u v c whole;
          there = ap (λ (l : List Cell). is_at l node.next) e.parts ∙ ap (is_at (u ++ c ∷ v)) next ∙ rests_is u v c (next_rests u v c);
        }

-- how many entries stand before the first that passes a test
abbrev pub steps_to : (Entry → Bool) → List Entry → ℕ
steps_to p [] = 0
steps_to p (e ∷ es) = cond (p e) 0 (suc (steps_to p es))

pub steps-append : (p : Entry → Bool) (a b : List Entry) → 1 ≤ number p a → steps_to p (a ++ b) ≡ steps_to p a
steps-append p [] b h = absurd (omega (arith, h))
steps-append p (e ∷ es) b h =
    elim (p e) as (λ t. 1 ≤ cond t 1 0 + number p es → cond t 0 (suc (steps_to p (es ++ b))) ≡ cond t 0 (suc (steps_to p es))) [
      | true ↦ λ g. refl
      | false ↦ λ g. ap (λ (n : ℕ). suc n) (steps-append p es b (omega (arith, g)))
    ] h

pub record Scanned (p : Entry → Bool) (cells : List Cell) (at next : ℕ) : Type 0 where
  pub there : is_at cells next ≡ true
  pub same : find p (entries_of (around cells next)) ≡ find p (entries_of (around cells at))
  pub nearer : steps_to p (entries_of (around cells next)) < steps_to p (entries_of (around cells at))

pub scan_goes_on : (p : Entry → Bool) (cells : List Cell) (at : ℕ) (node : Node) → DistinctNodes cells → is_at cells at ≡ true → NodeAt cells at node → 1 ≤ number p (entries_of cells) → p node.entry ≡ false → Scanned p cells at node.next
scan_goes_on p cells at node apart there told some fails =
    let w : Stands cells at node = stands cells at node apart there told in
    let c : Cell = w.cell in
    let r : List Cell = w.behind ++ w.before in
    let not : p c.entry ≡ false = ap p (sym w.entry) ∙ fails in
    let left : 1 ≤ number p (entries_of r) = rest_has w.before w.behind c not (subst (λ (l : List Cell). 1 ≤ number p (entries_of l)) w.parts some) in
    let here : entries_of (around cells at) ≡ c.entry ∷ entries_of r = ap entries_of w.here in
    let ahead : entries_of (around cells node.next) ≡ entries_of r ++ c.entry ∷ [] = ap entries_of w.ahead ∙ entries-append r (c ∷ []) in
    record {
      there = w.there;
      same = ap (find p) ahead ∙ find-append p (entries_of r) (c.entry ∷ []) ∙ rw not (option_or-none (find p (entries_of r))) ∙ sym (ap (find p) here ∙ skipped c (entries_of r) not);
      nearer = subst (λ (n : ℕ). n < steps_to p (entries_of (around cells at))) (sym (ap (steps_to p) ahead ∙ steps-append p (entries_of r) (c.entry ∷ []) left))
          (subst (λ (n : ℕ). steps_to p (entries_of r) < n) (sym (ap (steps_to p) here ∙ stepped c (entries_of r) not)) (omega arith));
    }
  where
    skipped : (c : Cell) (l : List Entry) → p c.entry ≡ false → find p (c.entry ∷ l) ≡ find p l
    skipped c l h = rw h refl

    stepped : (c : Cell) (l : List Entry) → p c.entry ≡ false → steps_to p (c.entry ∷ l) ≡ suc (steps_to p l)
    stepped c l h = rw h refl

    rest_has : (u v : List Cell) (c : Cell) → p c.entry ≡ false → 1 ≤ number p (entries_of (u ++ c ∷ v)) → 1 ≤ number p (entries_of (v ++ u))
    rest_has u v c h some =
        let count : number p (entries_of (u ++ v)) + cond (p c.entry) 1 0 ≡ number p (entries_of (u ++ c ∷ v)) = remove_number p u v c in
        omega (arith, rw h at count, number-cells p u v, number-cells p v u, some)

pub record Sighted (p : Entry → Bool) (cells : List Cell) (at : ℕ) (e : Entry) : Type 0 where
  pub holds : entry_at_node cells at ≡ Some e
  pub first : find p (entries_of (around cells at)) ≡ Some e

pub scan_ends : (p : Entry → Bool) (cells : List Cell) (at : ℕ) (node : Node) → DistinctNodes cells → is_at cells at ≡ true → NodeAt cells at node → p node.entry ≡ true → Sighted p cells at node.entry
scan_ends p cells at node apart there told passes =
    let w : Stands cells at node = stands cells at node apart there told in
    record {
      holds = w.holds;
      first = ap (λ (l : List Cell). find p (entries_of l)) w.here ∙ first_one w.cell (w.behind ++ w.before) (ap p (sym w.entry) ∙ passes) ∙ ap (λ (x : Entry). Some x) (sym w.entry);
    }
  where
    first_one : (c : Cell) (l : List Cell) → p c.entry ≡ true → find p (entries_of (c ∷ l)) ≡ Some c.entry
    first_one c l h = rw h refl

-- From the front on, and from the cold hand on.

pub around_front : (cells : List Cell) (front : ℕ) → ((c : Cell) → (cs : List Cell) → cells ≡ c ∷ cs → front ≡ c.at) → around cells front ≡ cells
around_front [] front h = refl
around_front (c ∷ cs) front h = rw (h c cs refl, at_self c.at) (append-nil (c ∷ cs))

pub some_cells : (p : Entry → Bool) (cells : List Cell) → 1 ≤ number p (entries_of cells) → 1 ≤ length cells
some_cells p [] h = absurd (omega (arith, h))
some_cells p (c ∷ cs) h = omega arith

pub rests_there : (cells : List Cell) (hand : ℕ) → 1 ≤ length cells → Rests cells hand → is_at cells hand ≡ true
rests_there [] hand some h = absurd (omega (arith, some))
rests_there (c ∷ cs) hand some h = h

pub round_hand : (cells : List Cell) (hand : ℕ) → DistinctNodes cells → DistinctPages cells → is_at cells hand ≡ true → round (place_of (hand_at cells hand) (entries_of cells)) (entries_of cells) ≡ entries_of (around cells hand)
round_hand cells hand apart distinct there = at_split (split cells hand there)
  where
    dropped : (u v : List Cell) (c : Cell) → drop (length u) (entries_of (u ++ c ∷ v)) ≡ entries_of (c ∷ v)
    dropped [] v c = refl
    dropped (d ∷ ds) v c = dropped ds v c

    kept : (u v : List Cell) (c : Cell) → take (length u) (entries_of (u ++ c ∷ v)) ≡ entries_of u
    kept [] v c = refl
    kept (d ∷ ds) v c = ap (λ (l : List Entry). d.entry ∷ l) (kept ds v c)

    at_split : Split cells hand → round (place_of (hand_at cells hand) (entries_of cells)) (entries_of cells) ≡ entries_of (around cells hand)
    at_split e =
        let u : List Cell = e.before in
        let v : List Cell = e.behind in
        let c : Cell = e.cell in
        let whole : DistinctNodes (u ++ c ∷ v) = subst DistinctNodes e.parts apart in
        let at : hand_at (u ++ c ∷ v) hand ≡ Some c.entry.key = ap (hand_at (u ++ c ∷ v)) (sym e.is) ∙ ap found_key (entry_here u v c whole) in
        let n : place_of (hand_at (u ++ c ∷ v) hand) (entries_of (u ++ c ∷ v)) ≡ length u = ap (λ (k : Option Key). place_of k (entries_of (u ++ c ∷ v))) at ∙ placed u v c (subst DistinctPages e.parts distinct) in
        ap (λ (l : List Cell). round (place_of (hand_at l hand) (entries_of l)) (entries_of l)) e.parts
        ∙ ap (λ (i : ℕ). round i (entries_of (u ++ c ∷ v))) n
        ∙ ap (λ (l : List Entry). l ++ take (length u) (entries_of (u ++ c ∷ v))) (dropped u v c)
        ∙ ap (λ (l : List Entry). entries_of (c ∷ v) ++ l) (kept u v c)
        ∙ sym (ap (λ (l : List Cell). entries_of (around l hand)) e.parts ∙ ap (λ (i : ℕ). entries_of (around (u ++ c ∷ v) i)) (sym e.is) ∙ ap entries_of (around_here u v c whole) ∙ entries-append (c ∷ v) u)

-- The walk from the front through all cells.

pub record Walked (cells : List Cell) (k next : ℕ) (e : Entry) : Type 0 where
  pub rests : Rests cells next
  pub around : around cells next ≡ drop (k + 1) cells ++ take (k + 1) cells
  pub entry : slice_get (entries_of cells) k ≡ Some e
  pub items : entries_of (take (k + 1) cells) ≡ entries_of (take k cells) ++ e ∷ []

-- the cell at a place
record Middle' (l : List Cell) (k : ℕ) : Type 0 where
  cell : Cell
  behind : List Cell
  from : drop k l ≡ cell ∷ behind
  after : drop (suc k) l ≡ behind
  upto : take (suc k) l ≡ take k l ++ cell ∷ []
  entry : slice_get (entries_of l) k ≡ Some cell.entry

middle' : (l : List Cell) (k : ℕ) → k < length l → Middle' l k
middle' [] k h = absurd (omega (arith, h))
middle' (c ∷ cs) zero h = record { cell = c; behind = cs; from = refl; after = refl; upto = refl; entry = refl }
middle' (c ∷ cs) (suc k) h =
    let m : Middle' cs k = middle' cs k (omega (arith, h)) in
    record { cell = m.cell; behind = m.behind; from = m.from; after = m.after; upto = ap (λ (l : List Cell). c ∷ l) m.upto; entry = m.entry }

pub record Middle (l : List Cell) (k : ℕ) : Type 0 where
  pub cell : Cell
  pub behind : List Cell
  pub from : drop k l ≡ cell ∷ behind
  pub after : drop (k + 1) l ≡ behind
  pub upto : take (k + 1) l ≡ take k l ++ cell ∷ []
  pub entry : slice_get (entries_of l) k ≡ Some cell.entry

pub middle : (l : List Cell) (k : ℕ) → k < length l → Middle l k
middle l k h = let m : Middle' l k = middle' l k h in record { cell = m.cell; behind = m.behind; from = m.from; after = rw add-one m.after; upto = rw add-one m.upto; entry = m.entry }

pub walk_goes_on : (cells : List Cell) (at k : ℕ) (node : Node) → DistinctNodes cells → Rests cells at → around cells at ≡ drop k cells ++ take k cells → k < length cells → NodeAt cells at node → Walked cells k node.next node.entry
walk_goes_on cells at k node apart rests here within told =
    let w : Stands cells at node = stands cells at node apart (rests_there cells at (omega arith) rests) told in
    let r : List Cell = w.behind ++ w.before in
    let m : Middle cells k = middle cells k within in
    let both : w.cell ∷ r ≡ m.cell ∷ (m.behind ++ take k cells) = sym w.here ∙ here ∙ ap (λ (l : List Cell). l ++ take k cells) m.from in
    let one : w.cell ≡ m.cell = cc in
    let rest : r ≡ m.behind ++ take k cells = cc in
    let entry : node.entry ≡ m.cell.entry = w.entry ∙ ap (λ (c : Cell). c.entry) one in
    record {
      rests = resting cells node.next w.there;
      around =
          w.ahead ∙ ap (λ (l : List Cell). l ++ w.cell ∷ []) rest ∙ append_assoc m.behind (take k cells) (w.cell ∷ [])
          ∙ ap (λ (c : Cell). m.behind ++ (take k cells ++ c ∷ [])) one
          ∙ ap (λ (l : List Cell). l ++ (take k cells ++ m.cell ∷ [])) (sym m.after)
          ∙ ap (λ (l : List Cell). drop (k + 1) cells ++ l) (sym m.upto);
      entry = m.entry ∙ ap (λ (x : Entry). Some x) (sym entry);
      items = ap entries_of m.upto ∙ entries-append (take k cells) (m.cell ∷ []) ∙ ap (λ (x : Entry). entries_of (take k cells) ++ x ∷ []) (sym entry);
    }
  where
    resting : (cells : List Cell) (n : ℕ) → is_at cells n ≡ true → Rests cells n
    resting [] n h = tt
    resting (c ∷ cs) n h = h

-- The entry that is asked.

pub asked_none : (s : ClockState) → asks_hot s ≡ true → hot_count s.entries ≡ 0 → asked_entry s ≡ None
unfolding asked_entry
asked_none s hot none = rw hot (none_found (λ e. is_hot e.kind) s.entries none)

pub asked_hot : (s : ClockState) (cells : List Cell) (front : ℕ) (e : Entry) → s.entries ≡ entries_of cells → asks_hot s ≡ true → ((c : Cell) → (cs : List Cell) → cells ≡ c ∷ cs → front ≡ c.at) →
    find (λ x. is_hot x.kind) (entries_of (around cells front)) ≡ Some e → asked_entry s ≡ Some e
unfolding asked_entry
asked_hot s cells front e is hot at found =
    rw hot (ap (find (λ x. is_hot x.kind)) is ∙ ap (λ (l : List Cell). find (λ x. is_hot x.kind) (entries_of l)) (sym (around_front cells front at)) ∙ found)

pub asked_cold : (s : ClockState) (cells : List Cell) (hand : ℕ) (e : Entry) → s.entries ≡ entries_of cells → s.cold_hand ≡ hand_at cells hand → asks_hot s ≡ false → DistinctNodes cells → DistinctPages cells → is_at cells hand ≡ true →
    find (λ x. is_cold x.kind) (entries_of (around cells hand)) ≡ Some e → asked_entry s ≡ Some e
unfolding asked_entry
asked_cold s cells hand e is at cold apart distinct there found =
    rw cold (ap (λ (l : List Entry). find (λ x. is_cold x.kind) (round (place_of s.cold_hand l) l)) is
    ∙ ap (λ (k : Option Key). find (λ x. is_cold x.kind) (round (place_of k (entries_of cells)) (entries_of cells))) at
    ∙ ap (find (λ x. is_cold x.kind)) (round_hand cells hand apart distinct there) ∙ found)

-- there is a cold entry where none is asked as a hot one
pub some_cold : (s : ClockState) → asks_hot s ≡ false → 1 ≤ cold_count s.entries
some_cold s h = by_tests (nat_lt (s.frames - s.share) (hot_count s.entries)) (cold_count s.entries) h
  where
    by_tests : (b : Bool) (n : ℕ) → b || (n == 0) ≡ false → 1 ≤ n
    by_tests true n h = cc
    by_tests false zero h = cc
    by_tests false (suc n) h = omega arith

pub get_past : (l : List Cell) (i : ℕ) → length l ≤ i → None ≡ slice_get (entries_of l) i
get_past [] i h = refl
get_past (c ∷ cs) zero h = absurd (omega (arith, h))
get_past (c ∷ cs) (suc i) h = get_past cs i (omega (arith, h))
