-- A walk along the circle from its front, past the cells of other pages.
use Rattle.std.specs.Prelude.{◌≡◌, ℕ, ◌+◌, ◌<◌, ◌≤◌, true, false, List, [], ◌∷◌, length, Some, None, refl}
use Rattle.std.proofs.Common.{arith, sym, ap, ◌∙◌, subst}
use Rattle.slab.specs.Slab.{Slab, get, slab_len, ContainsKey}
use Rattle.clock_policy.specs.ClockPro.{has_key}
use Rattle.clock_policy.specs.declared.key.Key.{Key}
use Rattle.page_ring.specs.declared.links.Node.{Node}
use Rattle.page_ring.specs.Linked.{Cell, Linked, first_at, last_at}
use Rattle.page_ring.specs.Chain.{Held}
use Rattle.page_ring.specs.Index.{at_of}

-- after so many cells, which were not the page's, the walk stands on a node; the cells from there on are left
pub record Walks (s : Slab Node) (at passed : ℕ) (key : Key) (cells : List Cell) : Type 0 where
  pub rest : List Cell
  pub before : ℕ
  pub behind : ℕ
  pub linked : Linked s before rest behind
  pub here : first_at rest behind ≡ at
  pub left : length rest + passed ≡ slab_len s
  pub same : at_of key rest ≡ at_of key cells

pub walk_starts : (s : Slab Node) (f : ℕ) (key : Key) (cells : List Cell) → Held s f cells → Walks s f 0 key cells
walk_starts s f key [] h =
    let count : 0 ≡ slab_len s = h.count in
    record { rest = []; before = 0; behind = f; linked = tt; here = refl; left = omega (arith, count); same = refl }
walk_starts s f key (c ∷ cs) h =
    let count : length (c ∷ cs) ≡ slab_len s = h.count in
    record { rest = c ∷ cs; before = last_at 0 (c ∷ cs); behind = c.at; linked = h.circle.linked; here = h.first; left = omega (arith, count); same = refl }

one : {a b : Node} → Some a ≡ Some b → a ≡ b
one h = cc

there_in : (s : Slab Node) (p n at : ℕ) (rest : List Cell) → 1 ≤ length rest → Linked s p rest n → first_at rest n ≡ at → ContainsKey s at
there_in s p n at [] some linked here = absurd (omega (arith, some))
there_in s p n at (c ∷ cs) some linked here = subst (ContainsKey s) here (rw (linked.0) refl)

pub walk_there : (s : Slab Node) (at passed : ℕ) (key : Key) (cells : List Cell) → Walks s at passed key cells → passed < slab_len s → ContainsKey s at
walk_there s at passed key cells w within =
    let left = w.left in
    there_in s w.before w.behind at w.rest (omega (arith, left, within)) w.linked w.here

-- the node that the walk stands on
module _ (s : Slab Node) (at : ℕ) (key : Key) (node : Node) (got : get s at ≡ Some node) where
  is_cell : (p n : ℕ) (c : Cell) (cs : List Cell) → Linked s p (c ∷ cs) n → c.at ≡ at → node ≡ record { entry = c.entry; next = first_at cs n; previous = p }
  is_cell p n c cs linked here = one (sym got ∙ ap (get s) (sym here) ∙ linked.0)

  found_in : (p n : ℕ) (rest : List Cell) → 1 ≤ length rest → Linked s p rest n → first_at rest n ≡ at → has_key key node.entry ≡ true → at_of key rest ≡ Some at
  found_in p n [] some linked here is = absurd (omega (arith, some))
  found_in p n (c ∷ cs) some linked here is =
      let this : has_key key c.entry ≡ true = ap (λ (m : Node). has_key key m.entry) (sym (is_cell p n c cs linked here)) ∙ is in
      rw this (ap (λ (m : ℕ). Some m) here)

  pub walk_finds : (passed : ℕ) (cells : List Cell) → Walks s at passed key cells → passed < slab_len s → has_key key node.entry ≡ true → Some at ≡ at_of key cells
  walk_finds passed cells w within is =
      let left = w.left in
      sym (found_in w.before w.behind w.rest (omega (arith, left, within)) w.linked w.here is) ∙ w.same

  on_from : (p n passed : ℕ) (rest cells : List Cell) → length rest + passed ≡ slab_len s → passed < slab_len s → Linked s p rest n → first_at rest n ≡ at → at_of key rest ≡ at_of key cells
      → has_key key node.entry ≡ false → Walks s node.next (passed + 1) key cells
  on_from p n passed [] cells left within linked here same is = absurd (omega (arith, left, within))
  on_from p n passed (c ∷ cs) cells left within linked here same is =
      let cell : node ≡ record { entry = c.entry; next = first_at cs n; previous = p } = is_cell p n c cs linked here in
      let other : has_key key c.entry ≡ false = ap (λ (m : Node). has_key key m.entry) (sym cell) ∙ is in
      record {
        rest = cs;
        before = c.at;
        behind = n;
        linked = linked.1;
        here = ap (λ (m : Node). m.next) (sym cell);
        left = omega (arith, left);
        same = rw other at same;
      }

  pub walk_on : (passed : ℕ) (cells : List Cell) → Walks s at passed key cells → passed < slab_len s → has_key key node.entry ≡ false → Walks s node.next (passed + 1) key cells
  walk_on passed cells w within is = on_from w.before w.behind passed w.rest cells w.left within w.linked w.here w.same is

none_left : (rest : List Cell) (key : Key) → length rest ≡ 0 → None ≡ at_of key rest
none_left [] key h = refl
none_left (c ∷ cs) key h = absurd (omega (arith, h))

pub walk_ends : (s : Slab Node) (at passed : ℕ) (key : Key) (cells : List Cell) → Walks s at passed key cells → passed ≡ slab_len s → None ≡ at_of key cells
walk_ends s at passed key cells w all =
    let left = w.left in
    none_left w.rest key (omega (arith, left, all)) ∙ w.same
