-- The test hand's way, entry by entry.
use Rattle.std.specs.Prelude.{◌≡◌, ℕ, suc, ◌+◌, ◌≤◌, ◌<◌, Bool, true, false, cond, Option, Some, List, [], ◌∷◌, ◌++◌, refl}
use Rattle.std.proofs.Common.{arith, sym, ap, ◌∙◌, subst}
use Rattle.clock_policy.specs.declared.key.Key.{Key}
use Rattle.clock_policy.specs.declared.entry.Entry.{Entry}
use Rattle.clock_policy.specs.declared.entry.EntryKind.{EntryKind}
use Rattle.clock_policy.specs.declared.entry.EntryKind.TheVariants.{Hot, Test, Cold, Shadow}
use Rattle.clock_policy.specs.ClockPro.{ClockState, number, is_shadow, is_in_test, shadow_count, place_of, round, removed, marked, fallen, trimmed_once}
use Rattle.clock_policy.proofs.CountLaws.{number_any}
use Rattle.clock_policy.proofs.SteadyLaws.{Based}
use Rattle.clock_policy.specs.SingleMoves.{test_hand_on, kind_ended, each_ended}
use Rattle.clock_policy.proofs.TrimMoveLaws.{trimmed_by_moves}
use Rattle.page_ring.specs.declared.links.Node.{Node}
use Rattle.page_ring.specs.Linked.{Cell, DistinctNodes, is_at}
use Rattle.page_ring.specs.Chain.{of_kind}
use Rattle.page_ring.specs.Index.{entries_of, DistinctPages}
use Rattle.page_ring.proofs.IndexLaws.{entries-append, number-cells}
use Rattle.clock_ring.specs.RingState.{entry_at_node, hand_at, around, ended_kind}
use Rattle.clock_ring.proofs.MoveLaws.{next_rests, entry_here}
use Rattle.clock_ring.proofs.StepLaws.{NodeAt, Made}
use Rattle.clock_ring.proofs.ScanLaws.{Stands, stands, around_next, steps_to, steps-append, rests_is, round_hand}

-- The single step.

-- an entry that is no shadow, and in no test, keeps its kind
pub kept_kind : (k : EntryKind) → is_shadow k ≡ false → is_in_test k ≡ false → ended_kind k ≡ k
kept_kind Hot h g = refl
kept_kind Test h g = cc
kept_kind Cold h g = refl
kept_kind Shadow h g = cc

pub ended_test : (k : EntryKind) → is_shadow k ≡ false → is_in_test k ≡ true → ended_kind k ≡ Cold
ended_test Hot h g = cc
ended_test Test h g = refl
ended_test Cold h g = cc
ended_test Shadow h g = cc

pub cell_entry : (cells u v : List Cell) (c : Cell) (at : ℕ) (e : Entry) → DistinctNodes cells → entry_at_node cells at ≡ Some e → cells ≡ u ++ c ∷ v → c.at ≡ at → c.entry ≡ e
cell_entry cells u v c at e apart holds parts is =
    let here : entry_at_node (u ++ c ∷ v) c.at ≡ Some c.entry = entry_here u v c (subst DistinctNodes parts apart) in
    let there : entry_at_node (u ++ c ∷ v) c.at ≡ Some e = ap (λ (l : List Cell). entry_at_node l c.at) (sym parts) ∙ ap (entry_at_node cells) is ∙ holds in
    cc

-- The way.

each-append : (a b : List Entry) (s : ClockState) → 1 ≤ shadow_count a → each_ended (a ++ b) s ≡ each_ended a s
each-append [] b s h = absurd (omega (arith, h))
each-append (e ∷ es) b s h =
    elim e.kind as (λ k. 1 ≤ cond (is_shadow k) 1 0 + shadow_count es → kind_ended k e.key (each_ended (es ++ b)) s ≡ kind_ended k e.key (each_ended es) s) [
      | Hot ↦ λ g. each-append es b s (omega (arith, g))
      | Test ↦ λ g. each-append es b (fallen 1 (marked e.key Cold s)) (omega (arith, g))
      | Cold ↦ λ g. each-append es b s (omega (arith, g))
      | Shadow ↦ λ g. refl
    ] h

pub record Trimming (cells new : List Cell) (at next : ℕ) (s t : ClockState) : Type 0 where
  pub there : is_at new next ≡ true
  pub rest : each_ended (entries_of (around new next)) t ≡ each_ended (entries_of (around cells at)) s
  pub some : 1 ≤ shadow_count (entries_of new)
  pub nearer : steps_to (λ e. is_shadow e.kind) (entries_of (around new next)) < steps_to (λ e. is_shadow e.kind) (entries_of (around cells at))

pub trim_goes_on : (cells new : List Cell) (at : ℕ) (node : Node) (s t : ClockState) → DistinctNodes cells → DistinctNodes new → is_at cells at ≡ true → NodeAt cells at node → 1 ≤ shadow_count (entries_of cells) → is_shadow node.entry.kind ≡ false →
    Made cells at new (λ u c v. u ++ of_kind (ended_kind c.entry.kind) c ∷ v) → ((more : ClockState → ClockState) → kind_ended node.entry.kind node.entry.key more s ≡ more t) → Trimming cells new at node.next s t
trim_goes_on cells new at node s t apart apart' there told some none made moved =
    let w : Stands cells at node = stands cells at node apart there told in
    let u : List Cell = w.before in
    let v : List Cell = w.behind in
    let c : Cell = w.cell in
    let d : Cell = of_kind (ended_kind c.entry.kind) c in
    let r : List Cell = v ++ u in
    let p : Entry → Bool = λ e. is_shadow e.kind in
    let is : new ≡ u ++ d ∷ v = made u v c w.parts w.is in
    let whole : DistinctNodes (u ++ d ∷ v) = subst DistinctNodes is apart' in
    let not : is_shadow c.entry.kind ≡ false = ap (λ (e : Entry). is_shadow e.kind) (sym w.entry) ∙ none in
    let after : around new node.next ≡ r ++ d ∷ [] = ap (λ (l : List Cell). around l node.next) is ∙ ap (around (u ++ d ∷ v)) w.next ∙ around_next u v d whole in
    let ahead : entries_of (around new node.next) ≡ entries_of r ++ d.entry ∷ [] = ap entries_of after ∙ entries-append r (d ∷ []) in
    let here : entries_of (around cells at) ≡ c.entry ∷ entries_of r = ap entries_of w.here in
    let left : 1 ≤ shadow_count (entries_of r) = rest_has u v c not (subst (λ (l : List Cell). 1 ≤ shadow_count (entries_of l)) w.parts some) in
    record {
      there = ap (λ (l : List Cell). is_at l node.next) is ∙ ap (is_at (u ++ d ∷ v)) w.next ∙ rests_is u v d (next_rests u v d);
      rest =
          ap (λ (l : List Entry). each_ended l t) ahead
          ∙ each-append (entries_of r) (d.entry ∷ []) t left
          ∙ sym (moved (each_ended (entries_of r)))
          ∙ ap (λ (e : Entry). kind_ended e.kind e.key (each_ended (entries_of r)) s) w.entry
          ∙ sym (ap (λ (l : List Entry). each_ended l s) here);
      some = subst (λ (l : List Cell). 1 ≤ shadow_count (entries_of l)) (sym is) (omega (arith, number-cells p u (d ∷ v), number-cells p v u, left));
      nearer = subst (λ (n : ℕ). n < steps_to p (entries_of (around cells at))) (sym (ap (steps_to p) ahead ∙ steps-append p (entries_of r) (d.entry ∷ []) left))
          (subst (λ (n : ℕ). steps_to p (entries_of r) < n) (sym (ap (steps_to p) here ∙ stepped c (entries_of r) not)) (omega arith));
    }
  where
    stepped : (c : Cell) (l : List Entry) → is_shadow c.entry.kind ≡ false → steps_to (λ e. is_shadow e.kind) (c.entry ∷ l) ≡ suc (steps_to (λ e. is_shadow e.kind) l)
    stepped c l h = rw h refl

    rest_has : (u v : List Cell) (c : Cell) → is_shadow c.entry.kind ≡ false → 1 ≤ shadow_count (entries_of (u ++ c ∷ v)) → 1 ≤ shadow_count (entries_of (v ++ u))
    rest_has u v c h some =
        let p : Entry → Bool = λ e. is_shadow e.kind in
        let count : number p (entries_of (u ++ c ∷ v)) ≡ number p (entries_of u) + (cond (is_shadow c.entry.kind) 1 0 + number p (entries_of v)) = number-cells p u (c ∷ v) in
        omega (arith, rw h at count, number-cells p v u, some)

-- the first shadow
pub trim_ends : (cells : List Cell) (at : ℕ) (node : Node) (s : ClockState) → DistinctNodes cells → is_at cells at ≡ true → NodeAt cells at node → is_shadow node.entry.kind ≡ true →
    fallen 1 (removed node.entry.key (test_hand_on node.entry.key s)) ≡ each_ended (entries_of (around cells at)) s
trim_ends cells at node s apart there told is =
    let w : Stands cells at node = stands cells at node apart there told in
    let r : List Cell = w.behind ++ w.before in
    sym (
    ap (λ (l : List Cell). each_ended (entries_of l) s) w.here
    ∙ ap (λ (e : Entry). kind_ended e.kind e.key (each_ended (entries_of r)) s) (sym w.entry)
    ∙ ap (λ (k : EntryKind). kind_ended k node.entry.key (each_ended (entries_of r)) s) (shadow_kind node.entry.kind is)
    )
  where
    shadow_kind : (k : EntryKind) → is_shadow k ≡ true → k ≡ Shadow
    shadow_kind Hot h = cc
    shadow_kind Test h = cc
    shadow_kind Cold h = cc
    shadow_kind Shadow h = refl

-- all of it
pub trim_whole : (s : ClockState) (cells : List Cell) (hand : ℕ) → s.entries ≡ entries_of cells → s.test_hand ≡ hand_at cells hand → Based s → DistinctNodes cells → DistinctPages cells → is_at cells hand ≡ true → 1 ≤ shadow_count (entries_of cells) →
    each_ended (entries_of (around cells hand)) s ≡ trimmed_once s
trim_whole s cells hand is at based apart distinct there some =
    ap (λ (l : List Entry). each_ended l s) (sym (
    ap (λ (l : List Entry). round (place_of s.test_hand l) l) is
    ∙ ap (λ (k : Option Key). round (place_of k (entries_of cells)) (entries_of cells)) at
    ∙ round_hand cells hand apart distinct there
    ))
    ∙ trimmed_by_moves s based (number_any (λ e. is_shadow e.kind) s.entries (subst (λ (l : List Entry). 1 ≤ shadow_count l) (sym is) some))
