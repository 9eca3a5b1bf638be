-- A cell that becomes the last and stays in its node.
use Rattle.std.specs.Prelude.{◌≡◌, ◌≢◌, ℕ, suc, ◌==◌, true, false, List, [], ◌∷◌, ◌++◌, length, Some, refl}
use Rattle.std.proofs.Common.{sym, ap, ◌∙◌, subst}
use Rattle.std.proofs.Math.Bool.{or-true, or_comm}
use Rattle.slab.specs.Slab.{Slab, get, slab_len}
use Rattle.clock_policy.specs.declared.entry.EntryKind.{EntryKind}
use Rattle.page_ring.specs.declared.links.Node.{Node}
use Rattle.page_ring.specs.Linked.{Cell, Circle, is_at, first_at, last_at}
use Rattle.page_ring.proofs.LinkLaws.{at_self, not_same, is_at-append, turned}
use Rattle.page_ring.specs.Chain.{Held, of_kind}
use Rattle.page_ring.proofs.ChainLaws.{KindSet, mark_step, turn_step, length_with}

there_in : (l v : List Cell) (c : Cell) → is_at (l ++ c ∷ v) c.at ≡ true
there_in [] v c = rw (at_self c.at) refl
there_in (d ∷ ds) v c = rw (there_in ds v c) (or-true (d.at == c.at))

-- the first becomes the last by a turn
pub send_front : (s t : Slab Node) (f at : ℕ) (kind : EntryKind) (node : Node) → get s at ≡ Some node → at ≡ f → KindSet s t at kind → ((k : ℕ) → k ≢ at → get t k ≡ get s k) → slab_len t ≡ slab_len s →
    (u v : List Cell) → (c : Cell) → Held s f (u ++ c ∷ v) → c.at ≡ at → Held t node.next ((u ++ v) ++ of_kind kind c ∷ [])
send_front s t f at kind node got here set others len [] v c h is =
    mark_step s t node.next at kind set others len v [] c (turn_step s f node (ap (get s) (sym here) ∙ got) c v h) is
send_front s t f at kind node got here set others len (d ∷ ds) v c h is =
    absurd (not_same (ds ++ c ∷ v) d.at c.at (h.circle.apart.0) (there_in ds v c) (is ∙ here ∙ sym h.first))

-- another is passed over and linked behind the last
pub send_behind : (s t w : Slab Node) (f at : ℕ) (kind : EntryKind) (node : Node) → get s at ≡ Some node → at ≢ f →
    ((c : Cell) → (cs : List Cell) → c.at ≡ at → Circle s (c ∷ cs) → Circle t cs) →
    ((d : Cell) → (ds : List Cell) → d.at ≡ f → is_at (d ∷ ds) at ≡ false → Circle t (d ∷ ds) → Circle w ((d ∷ ds) ++ record { at = at; entry = record { key = node.entry.key; kind = kind } } ∷ [])) →
    slab_len w ≡ slab_len s →
    (u v : List Cell) → (c : Cell) → Held s f (u ++ c ∷ v) → c.at ≡ at → Held w f ((u ++ v) ++ of_kind kind c ∷ [])
send_behind s t w f at kind node got off pass link len [] v c h is = absurd (off (sym is ∙ h.first))
send_behind s t w f at kind node got off pass link len (d ∷ ds) v c h is =
    let whole : Circle s (c ∷ (v ++ d ∷ ds)) = turned s (d ∷ ds) (c ∷ v) h.circle in
    let past : Circle t (d ∷ (ds ++ v)) = turned t v (d ∷ ds) (pass c (v ++ d ∷ ds) is whole) in
    let alone : is_at ((d ∷ ds) ++ v) at ≡ false = is_at-append (d ∷ ds) v at ∙ or_comm (is_at (d ∷ ds) at) (is_at v at) ∙ sym (is_at-append v (d ∷ ds) at) ∙ ap (is_at (v ++ d ∷ ds)) (sym is) ∙ whole.apart.0 in
    let told : get s c.at ≡ Some (record { entry = c.entry; next = first_at (v ++ d ∷ ds) c.at; previous = last_at c.at (v ++ d ∷ ds) }) = whole.linked.0 in
    let one : node ≡ record { entry = c.entry; next = first_at (v ++ d ∷ ds) c.at; previous = last_at c.at (v ++ d ∷ ds) } = same (sym got ∙ ap (get s) (sym is) ∙ told) in
    let cell : record { at = at; entry = record { key = node.entry.key; kind = kind } } ≡ of_kind kind c =
    ap (λ (n : ℕ). record { at = n; entry = record { key = node.entry.key; kind = kind } }) (sym is) ∙ ap (λ (n : Node). record { at = c.at; entry = record { key = n.entry.key; kind = kind } }) one in
    record {
      circle = subst (λ (x : Cell). Circle w ((d ∷ (ds ++ v)) ++ x ∷ [])) cell (link d (ds ++ v) h.first alone past);
      count = length_with (d ∷ (ds ++ v)) [] (of_kind kind c) ∙ ap suc (ap length (nil_behind (d ∷ (ds ++ v)))) ∙ sym (length_with (d ∷ ds) v c) ∙ h.count ∙ sym len;
      first = h.first;
    }
  where
    same : {a b : Node} → Some a ≡ Some b → a ≡ b
    same h = cc

    nil_behind : (l : List Cell) → l ++ [] ≡ l
    nil_behind [] = refl
    nil_behind (x ∷ xs) = ap (λ (l : List Cell). x ∷ l) (nil_behind xs)
