-- What links stand for, read off and changed at a node: proofs.
use Rattle.std.specs.Prelude.{◌≡◌, ◌≢◌, ℕ, suc, ◌+◌, ◌≤◌, Bool, true, false, ◌==◌, ◌||◌, cond, List, [], ◌∷◌, ◌++◌, length, Option, Some, None, refl}
use Rattle.std.proofs.Common.{arith, sym, ap, ◌∙◌, subst, eqb-true, ne_eqb}
use Rattle.std.proofs.Math.Bool.{or-true}
use Rattle.slab.specs.Slab.{Slab, get, slab_len, ContainsKey}
use Rattle.clock_policy.specs.declared.entry.Entry.{Entry}
use Rattle.clock_policy.specs.declared.entry.EntryKind.{EntryKind}
use Rattle.page_ring.specs.declared.links.Node.{Node}
use Rattle.page_ring.specs.Linked.{Cell, first_at, last_at, is_at, DistinctNodes, Linked, Circle}
use Rattle.page_ring.specs.Chain.{Rotates, same, turn, cell_then, cells_from, cells_of, Held, of_kind}
use Rattle.page_ring.proofs.LinkLaws.{turned, linked_kept, at_self, not_same, free_of}

-- the cells around the one of a node
pub record Split (cs : List Cell) (at : ℕ) : Type 0 where
  pub before : List Cell
  pub cell : Cell
  pub behind : List Cell
  pub parts : cs ≡ before ++ cell ∷ behind
  pub is : cell.at ≡ at

pub split : (cs : List Cell) (at : ℕ) → is_at cs at ≡ true → Split cs at
split [] at h = cc
split (c ∷ cs) at h =
    elim (c.at == at) as (λ t. (c.at == at) ≡ t → t || is_at cs at ≡ true → Split (c ∷ cs) at) [
      | true ↦ λ is g. record { before = []; cell = c; behind = cs; parts = refl; is = eqb-true c.at at is }
      | false ↦ λ is g. let e : Split cs at = split cs at g in record { before = c ∷ e.before; cell = e.cell; behind = e.behind; parts = ap (λ (l : List Cell). c ∷ l) e.parts; is = e.is }
    ] refl h

-- Cells are read off by the links.

pub read_cells : (s : Slab Node) (p : ℕ) (cs : List Cell) (n : ℕ) → Linked s p cs n → cells_from s (length cs) (first_at cs n) ≡ cs
read_cells s p [] n h = refl
read_cells s p (c ∷ cs) n h =
    ap (λ (o : Option Node). cell_then o c.at (cells_from s (length cs))) (h.0)
    ∙ ap (λ (l : List Cell). c ∷ l) (read_cells s c.at cs n (h.1))

pub cells_held : (s : Slab Node) (f : ℕ) (cs : List Cell) → Held s f cs → cells_of s f ≡ cs
unfolding cells_of
cells_held s f [] h = ap (λ (n : ℕ). cells_from s n f) (sym h.count)
cells_held s f (c ∷ cs) h =
    ap (λ (n : ℕ). cells_from s n f) (sym h.count)
    ∙ ap (cells_from s (length (c ∷ cs))) (sym h.first)
    ∙ read_cells s (last_at 0 (c ∷ cs)) (c ∷ cs) c.at h.circle.linked

pub held_cells : (s : Slab Node) (f : ℕ) (cs : List Cell) → Held s f cs → Held s f (cells_of s f)
held_cells s f cs h = subst (Held s f) (sym (cells_held s f cs h)) h

pub rotates_split : (cs u v : List Cell) (c : Cell) → cs ≡ u ++ c ∷ v → Rotates cs (c ∷ (v ++ u))
rotates_split cs u v c parts = turn u (c ∷ v) (subst (Rotates cs) parts same)

pub length_with : (u v : List Cell) (c : Cell) → length (u ++ c ∷ v) ≡ suc (length (u ++ v))
length_with [] v c = refl
length_with (d ∷ ds) v c = ap suc (length_with ds v c)

-- A node and its neighbours.

pub rotated : (s : Slab Node) (cs ds : List Cell) → Rotates cs ds → Circle s cs → Circle s ds
rotated s cs ds same h = h
rotated s cs ds (turn a b r) h = turned s a b (rotated s cs (a ++ b) r h)

pub node_around : (s : Slab Node) (f at : ℕ) (node : Node) → Held s f (cells_of s f) → get s at ≡ Some node → (c : Cell) (cs : List Cell) → Rotates (cells_of s f) (c ∷ cs) → c.at ≡ at →
    node ≡ record { entry = c.entry; next = first_at cs at; previous = last_at at cs }
node_around s f at node h held c cs around is =
    let whole : Circle s (c ∷ cs) = rotated s (cells_of s f) (c ∷ cs) around h.circle in
    let here : get s at ≡ Some (record { entry = c.entry; next = first_at cs at; previous = last_at at cs }) = subst (λ (n : ℕ). get s n ≡ Some (record { entry = c.entry; next = first_at cs n; previous = last_at n cs })) is (whole.linked.0) in
    one (sym held ∙ here)
  where
    one : {a b : Node} → Some a ≡ Some b → a ≡ b
    one h = cc

pub held_node : (s : Slab Node) (f at : ℕ) (cs : List Cell) → Held s f cs → is_at cs at ≡ true → ContainsKey s at
held_node s f at cs h there = at_split (split cs at there)
  where
    at_split : Split cs at → ContainsKey s at
    at_split e =
        let whole : Circle s (e.cell ∷ (e.behind ++ e.before)) = turned s e.before (e.cell ∷ e.behind) (subst (Circle s) e.parts h.circle) in
        rw (← e.is, whole.linked.0) refl

-- Changes at a node, told by the cells around it.

pub record Changed (s t : Slab Node) (f g at : ℕ) (made : List Cell → Cell → List Cell → List Cell) : Type 0 where
  pub held : Held t g (cells_of t g)
  pub cells : (u v : List Cell) → (c : Cell) → cells_of s f ≡ u ++ c ∷ v → c.at ≡ at → cells_of t g ≡ made u c v

pub changes_at : (s t : Slab Node) (f g at : ℕ) (made : List Cell → Cell → List Cell → List Cell) → Held s f (cells_of s f) → is_at (cells_of s f) at ≡ true →
    ((u v : List Cell) → (c : Cell) → Held s f (u ++ c ∷ v) → c.at ≡ at → Held t g (made u c v)) → Changed s t f g at made
changes_at s t f g at made h there step = at_split (split (cells_of s f) at there)
  where
    at_split : Split (cells_of s f) at → Changed s t f g at made
    at_split e = record {
      held = held_cells t g (made e.before e.cell e.behind) (step e.before e.behind e.cell (subst (Held s f) e.parts h) e.is);
      cells = λ u v c parts is. cells_held t g (made u c v) (step u v c (subst (Held s f) parts h) is);
    }

-- an entry's kind
abbrev pub KindSet : Slab Node → Slab Node → ℕ → EntryKind → Type 0
KindSet s t at kind = (node : Node) → get s at ≡ Some node → get t at ≡ Some (record node { entry = record node.entry { kind = kind } })

kind_set : (s t : Slab Node) (at : ℕ) (kind : EntryKind) (c : Cell) (cs : List Cell) → c.at ≡ at → Circle s (c ∷ cs) → KindSet s t at kind → ((k : ℕ) → k ≢ at → get t k ≡ get s k) → Circle t (of_kind kind c ∷ cs)
kind_set s t at kind c cs is h set others = record {
  linked = (
    subst (λ (n : ℕ). get t n ≡ Some (record { entry = record { key = c.entry.key; kind = kind }; next = first_at cs c.at; previous = last_at c.at cs })) (sym is)
        (set _ (subst (λ (n : ℕ). get s n ≡ Some (record { entry = c.entry; next = first_at cs c.at; previous = last_at c.at cs })) is (h.linked.0))),
    linked_kept s t c.at cs c.at (λ k there. others k (λ same. not_same cs c.at k (h.apart.0) there (same ∙ sym is))) (h.linked.1),
  );
  apart = h.apart;
}

pub mark_step : (s t : Slab Node) (f at : ℕ) (kind : EntryKind) → KindSet s t at kind → ((k : ℕ) → k ≢ at → get t k ≡ get s k) → slab_len t ≡ slab_len s →
    (u v : List Cell) → (c : Cell) → Held s f (u ++ c ∷ v) → c.at ≡ at → Held t f (u ++ of_kind kind c ∷ v)
mark_step s t f at kind set others len u v c h is = record {
  circle = turned t (of_kind kind c ∷ v) u (kind_set s t at kind c (v ++ u) is (turned s u (c ∷ v) h.circle) set others);
  count = length_with u v (of_kind kind c) ∙ sym (length_with u v c) ∙ h.count ∙ sym len;
  first = same_first u h.first;
}
  where
    same_first : (u : List Cell) → first_at (u ++ c ∷ v) f ≡ f → first_at (u ++ of_kind kind c ∷ v) f ≡ f
    same_first [] g = g
    same_first (d ∷ ds) g = g

-- a node that goes
pub remove_step : (s t : Slab Node) (f g at next : ℕ) →
    ((c : Cell) → (cs : List Cell) → c.at ≡ at → Circle s (c ∷ cs) → Circle t cs) →
    ((c : Cell) → (cs : List Cell) → c.at ≡ at → Circle s (c ∷ cs) → next ≡ first_at cs at) →
    slab_len t + 1 ≡ slab_len s → g ≡ cond (f == at) next f →
    (u v : List Cell) → (c : Cell) → Held s f (u ++ c ∷ v) → c.at ≡ at → Held t g (u ++ v)
remove_step s t f g at next circle ahead len made u v c h is =
    let whole : Circle s (c ∷ (v ++ u)) = turned s u (c ∷ v) h.circle in
    let more : length (u ++ c ∷ v) ≡ suc (length (u ++ v)) = length_with u v c in
    let held : length (u ++ c ∷ v) ≡ slab_len s = h.count in
    record {
      circle = turned t v u (circle c (v ++ u) is whole);
      count = omega (arith, more, held, len);
      first = by_front u h.first h.circle.apart (ahead c (v ++ u) is whole);
    }
  where
    nil_behind : (l : List Cell) → l ++ [] ≡ l
    nil_behind [] = refl
    nil_behind (c ∷ cs) = ap (λ (l : List Cell). c ∷ l) (nil_behind cs)

    at_front : (l : List Cell) → next ≡ first_at l at → g ≡ next → first_at l g ≡ g
    at_front [] e m = refl
    at_front (d ∷ ds) e m = sym (m ∙ e)

    holds : (l : List Cell) → is_at (l ++ c ∷ v) c.at ≡ true
    holds [] = rw (at_self c.at) refl
    holds (d ∷ ds) = rw (holds ds) (or-true (d.at == c.at))

    by_front : (u : List Cell) → first_at (u ++ c ∷ v) f ≡ f → DistinctNodes (u ++ c ∷ v) → next ≡ first_at (v ++ u) at → first_at (u ++ v) g ≡ g
    by_front [] first apart e =
        let here : f ≡ at = sym first ∙ is in
        at_front v (e ∙ ap (λ (l : List Cell). first_at l at) (nil_behind v)) (made ∙ ap (λ (n : ℕ). cond (n == at) next f) here ∙ ap (λ (t : Bool). cond t next f) (at_self at))
    by_front (d ∷ ds) first apart e =
        let there : is_at (ds ++ c ∷ v) c.at ≡ true = holds ds in
        let away : c.at ≢ d.at = not_same (ds ++ c ∷ v) d.at c.at (apart.0) there in
        let off : f ≢ at = λ same. away (is ∙ sym same ∙ sym first) in
        first ∙ sym (made ∙ ap (λ (t : Bool). cond t next f) (ne_eqb f at off))

-- the front becomes the last
pub turn_step : (s : Slab Node) (f : ℕ) (node : Node) → get s f ≡ Some node → (c : Cell) → (cs : List Cell) → Held s f (c ∷ cs) → Held s node.next (cs ++ c ∷ [])
turn_step s f node got c cs h = record {
  circle = turned s (c ∷ []) cs h.circle;
  count = length_with cs [] c ∙ ap suc (ap length (nil_behind cs)) ∙ h.count;
  first = by_next cs (one (sym got ∙ ap (get s) (sym h.first) ∙ h.circle.linked.0));
}
  where
    nil_behind : (l : List Cell) → l ++ [] ≡ l
    nil_behind [] = refl
    nil_behind (c ∷ cs) = ap (λ (l : List Cell). c ∷ l) (nil_behind cs)

    one : {a b : Node} → Some a ≡ Some b → a ≡ b
    one h = cc

    by_next : (cs : List Cell) → node ≡ record { entry = c.entry; next = first_at cs c.at; previous = last_at c.at cs } → first_at (cs ++ c ∷ []) node.next ≡ node.next
    by_next [] e = sym (ap (λ (n : Node). n.next) e)
    by_next (d ∷ ds) e = sym (ap (λ (n : Node). n.next) e)

pub record Turned (s : Slab Node) (f g : ℕ) : Type 0 where
  pub held : Held s g (cells_of s g)
  pub cells : (c : Cell) → (cs : List Cell) → cells_of s f ≡ c ∷ cs → cells_of s g ≡ cs ++ c ∷ []

pub turned_held : (s : Slab Node) (f : ℕ) (node : Node) → Held s f (cells_of s f) → 1 ≤ length (cells_of s f) → get s f ≡ Some node → Turned s f node.next
turned_held s f node h some got = record {
  held = by_cells (cells_of s f) some h;
  cells = λ c cs parts. cells_held s node.next (cs ++ c ∷ []) (turn_step s f node got c cs (subst (Held s f) parts h));
}
  where
    by_cells : (l : List Cell) → 1 ≤ length l → Held s f l → Held s node.next (cells_of s node.next)
    by_cells [] few h = absurd (omega (arith, few))
    by_cells (c ∷ cs) few h = held_cells s node.next (cs ++ c ∷ []) (turn_step s f node got c cs h)

pub held_front : (s : Slab Node) (f : ℕ) (cs : List Cell) → Held s f cs → 1 ≤ length cs → is_at cs f ≡ true
held_front s f [] h some = absurd (omega (arith, some))
held_front s f (c ∷ cs) h some = rw (h.first, at_self f) refl

-- a new last
pub record Appended (s t : Slab Node) (f g at : ℕ) (entry : Entry) : Type 0 where
  pub held : Held t g (cells_of t g)
  pub cells : cells_of t g ≡ cells_of s f ++ record { at = at; entry = entry } ∷ []
  pub fresh : is_at (cells_of s f) at ≡ false

pub append_step : (s t : Slab Node) (f at : ℕ) (entry : Entry) → (cs : List Cell) → cells_of s f ≡ cs → Held s f cs → 1 ≤ slab_len s →
    ((d : Cell) → (ds : List Cell) → d.at ≡ f → Circle s (d ∷ ds) → Circle t ((d ∷ ds) ++ record { at = at; entry = entry } ∷ [])) →
    get s at ≡ None → slab_len t ≡ slab_len s + 1 → Appended s t f f at entry
append_step s t f at entry [] is h some circle free len = let none : 0 ≡ slab_len s = h.count in absurd (omega (arith, some, none))
append_step s t f at entry (d ∷ ds) is h some circle free len =
    let new : Cell = record { at = at; entry = entry } in
    let more : length ((d ∷ ds) ++ new ∷ []) ≡ suc (length ((d ∷ ds) ++ [])) = length_with (d ∷ ds) [] new in
    let nothing : length ((d ∷ ds) ++ []) ≡ length (d ∷ ds) = ap length (nil_behind (d ∷ ds)) in
    let held : length (d ∷ ds) ≡ slab_len s = h.count in
    let after : Held t f ((d ∷ ds) ++ new ∷ []) = record { circle = circle d ds h.first h.circle; count = omega (arith, more, nothing, held, len); first = h.first } in
    record {
      held = held_cells t f ((d ∷ ds) ++ new ∷ []) after;
      cells = cells_held t f ((d ∷ ds) ++ new ∷ []) after ∙ ap (λ (l : List Cell). l ++ new ∷ []) (sym is);
      fresh = ap (λ (l : List Cell). is_at l at) is ∙ free_of s (last_at d.at ds) (d ∷ ds) d.at at h.circle.linked free;
    }
  where
    nil_behind : (l : List Cell) → l ++ [] ≡ l
    nil_behind [] = refl
    nil_behind (c ∷ cs) = ap (λ (l : List Cell). c ∷ l) (nil_behind cs)

pub alone_step : (s t : Slab Node) (f at : ℕ) (entry : Entry) → (cs : List Cell) → cells_of s f ≡ cs → Held s f cs → slab_len s ≡ 0 →
    Circle t (record { at = at; entry = entry } ∷ []) → slab_len t ≡ slab_len s + 1 → Appended s t f at at entry
alone_step s t f at entry (d ∷ ds) is h none circle len = let held : suc (length ds) ≡ slab_len s = h.count in absurd (omega (arith, none, held))
alone_step s t f at entry [] is h none circle len =
    let new : Cell = record { at = at; entry = entry } in
    let after : Held t at (new ∷ []) = record { circle = circle; count = omega (arith, len, none); first = refl } in
    record {
      held = held_cells t at (new ∷ []) after;
      cells = cells_held t at (new ∷ []) after ∙ ap (λ (l : List Cell). l ++ new ∷ []) (sym is);
      fresh = ap (λ (l : List Cell). is_at l at) is;
    }

pub new_step : (s : Slab Node) (f : ℕ) → slab_len s ≡ 0 → Held s f []
new_step s f none = record { circle = record { linked = tt; apart = tt }; count = sym none; first = refl }
