-- What happens to a circle when a node is taken out, put in or changed.
use Rattle.std.specs.Prelude.{◌≡◌, ◌≢◌, ℕ, true, false, ◌==◌, ◌||◌, List, [], ◌∷◌, ◌++◌, Some, None, refl}
use Rattle.std.proofs.Common.{arith, sym, ap, ◌∙◌, subst, eqb-true}
use Rattle.std.proofs.lemmas.Bool.Decides.{nat_tests}
use Rattle.std.proofs.Math.Bool.{or-true, or_comm}
use Rattle.std.proofs.lemmas.Bool.{or_parts}
use Rattle.slab.specs.Slab.{Slab, get}
use Rattle.clock_policy.specs.declared.entry.Entry.{Entry}
use Rattle.page_ring.specs.declared.links.Node.{Node}
use Rattle.page_ring.specs.Linked.{Cell, first_at, last_at, is_at, DistinctNodes, Linked, Circle, Changes, with_next, with_previous}

-- Ways one behind the other.

first-append : (a b : List Cell) (n : ℕ) → first_at (a ++ b) n ≡ first_at a (first_at b n)
first-append [] b n = refl
first-append (c ∷ cs) b n = refl

last-append : (p : ℕ) (a b : List Cell) → last_at p (a ++ b) ≡ last_at (last_at p a) b
last-append p [] b = refl
last-append p (c ∷ cs) b = last-append c.at cs b

pub linked_first : (s : Slab Node) (p : ℕ) (a b : List Cell) (n : ℕ) → Linked s p (a ++ b) n → Linked s p a (first_at b n)
linked_first s p [] b n h = tt
linked_first s p (c ∷ cs) b n h = (rw (first-append cs b n) at (h.0), linked_first s c.at cs b n (h.1))

pub linked_second : (s : Slab Node) (p : ℕ) (a b : List Cell) (n : ℕ) → Linked s p (a ++ b) n → Linked s (last_at p a) b n
linked_second s p [] b n h = h
linked_second s p (c ∷ cs) b n h = linked_second s c.at cs b n (h.1)

pub linked_both : (s : Slab Node) (p : ℕ) (a b : List Cell) (n : ℕ) → Linked s p a (first_at b n) → Linked s (last_at p a) b n → Linked s p (a ++ b) n
linked_both s p [] b n h g = g
linked_both s p (c ∷ cs) b n h g = (rw (first-append cs b n) (h.0), linked_both s c.at cs b n (h.1) g)

-- Nodes that keep what they hold.

pub at_self : (n : ℕ) → (n == n) ≡ true
at_self n = grind (arith, nat_tests)

pub linked_kept : (s t : Slab Node) (p : ℕ) (cs : List Cell) (n : ℕ) → ((k : ℕ) → is_at cs k ≡ true → get t k ≡ get s k) → Linked s p cs n → Linked t p cs n
linked_kept s t p [] n same h = tt
linked_kept s t p (c ∷ cs) n same h =
    (same c.at (rw (at_self c.at) refl) ∙ h.0, linked_kept s t c.at cs n (λ k there. same k (rw there (or-true (c.at == k)))) (h.1))

-- Keys of nodes.

pub is_at-append : (a b : List Cell) (k : ℕ) → is_at (a ++ b) k ≡ is_at a k || is_at b k
is_at-append [] b k = refl
is_at-append (c ∷ cs) b k =
    elim (c.at == k) as (λ t. t || is_at (cs ++ b) k ≡ (t || is_at cs k) || is_at b k) [ true ↦ refl | false ↦ is_at-append cs b k ]

-- A link that changes.

-- the first node's link back
pub previous_set : (s t : Slab Node) (p q : ℕ) (c : Cell) (cs : List Cell) (n : ℕ) → is_at cs c.at ≡ false →
    get t c.at ≡ Some (record { entry = c.entry; next = first_at cs n; previous = q }) → ((k : ℕ) → k ≢ c.at → get t k ≡ get s k) →
    Linked s p (c ∷ cs) n → Linked t q (c ∷ cs) n
previous_set s t p q c cs n alone set others h =
    (set, linked_kept s t c.at cs n (λ k there. others k (apart_from cs c.at k alone there)) (h.1))
  where
    apart_from : (cs : List Cell) (m k : ℕ) → is_at cs m ≡ false → is_at cs k ≡ true → k ≢ m
    apart_from cs m k alone there = λ same. let holds : is_at cs m ≡ true = ap (is_at cs) (sym same) ∙ there in cc

-- the last node's link ahead
pub next_set : (s t : Slab Node) (p : ℕ) (c : Cell) (cs : List Cell) (m n : ℕ) → is_at cs c.at ≡ false →
    get t c.at ≡ Some (record { entry = c.entry; next = n; previous = last_at p cs }) → ((k : ℕ) → k ≢ c.at → get t k ≡ get s k) →
    Linked s p (cs ++ c ∷ []) m → Linked t p (cs ++ c ∷ []) n
next_set s t p c cs m n alone set others h =
    linked_both t p cs (c ∷ []) n
    (linked_kept s t p cs c.at (λ k there. others k (apart_from cs c.at k alone there)) (linked_first s p cs (c ∷ []) m h))
    (set, tt)
  where
    apart_from : (cs : List Cell) (m k : ℕ) → is_at cs m ≡ false → is_at cs k ≡ true → k ≢ m
    apart_from cs m k alone there = λ same. let holds : is_at cs m ≡ true = ap (is_at cs) (sym same) ∙ there in cc

-- The last cell.

pub record Ended (cs : List Cell) : Type 0 where
  pub front : List Cell
  pub last : Cell
  pub parts : cs ≡ front ++ last ∷ []

pub ended_chain : (c : Cell) (cs : List Cell) → Ended (c ∷ cs)
ended_chain c [] = record { front = []; last = c; parts = refl }
ended_chain c (d ∷ ds) =
    let e : Ended (d ∷ ds) = ended_chain d ds in
    record { front = c ∷ e.front; last = e.last; parts = ap (λ (l : List Cell). c ∷ l) e.parts }

last_ended : (p : ℕ) (a : List Cell) (c : Cell) → last_at p (a ++ c ∷ []) ≡ c.at
last_ended p [] c = refl
last_ended p (d ∷ ds) c = last_ended d.at ds c

alone_last : (a : List Cell) (c : Cell) → DistinctNodes (a ++ c ∷ []) → is_at a c.at ≡ false
alone_last [] c h = refl
alone_last (d ∷ ds) c h =
    elim (d.at == c.at) as (λ t. (d.at == c.at) ≡ t → t || is_at ds c.at ≡ false) [
      | true ↦ λ is.
          let there : is_at (ds ++ c ∷ []) d.at ≡ true = is_at-append ds (c ∷ []) d.at ∙ rw (eqb-true d.at c.at is, at_self c.at) (or-true (is_at ds c.at)) in
          let gone : is_at (ds ++ c ∷ []) d.at ≡ false = h.0 in
          cc
      | false ↦ λ is. alone_last ds c (h.1)
    ] refl

pub not_same : (cs : List Cell) (m k : ℕ) → is_at cs m ≡ false → is_at cs k ≡ true → k ≢ m
not_same cs m k alone there = λ same. let holds : is_at cs m ≡ true = ap (is_at cs) (sym same) ∙ there in cc

-- One node is changed, and every other keeps what it has.

-- the way's end leads elsewhere
led_to : (s t : Slab Node) (p : ℕ) (d : Cell) (ds : List Cell) (m n : ℕ) → DistinctNodes (d ∷ ds) → Changes s t (last_at p (d ∷ ds)) (with_next n) → Linked s p (d ∷ ds) m → Linked t p (d ∷ ds) n
led_to s t p d ds m n apart change h = at_end (ended_chain d ds)
  where
    at_end : Ended (d ∷ ds) → Linked t p (d ∷ ds) n
    at_end e =
        let z : Cell = e.last in
        let i : List Cell = e.front in
        let way : Linked s p (i ++ z ∷ []) m = subst (λ (l : List Cell). Linked s p l m) e.parts h in
        let last : last_at p (d ∷ ds) ≡ z.at = ap (last_at p) e.parts ∙ last_ended p i z in
        let moved : Changes s t z.at (with_next n) = rw last at change in
        let held : get s z.at ≡ Some (record { entry = z.entry; next = m; previous = last_at p i }) = (linked_second s p i (z ∷ []) m way).0 in
        subst (λ (l : List Cell). Linked t p l n) (sym e.parts) (next_set s t p z i m n (alone_last i z (subst DistinctNodes e.parts apart)) (moved.set _ held) moved.others way)

-- the way's first node names another before it
led_from : (s t : Slab Node) (p q : ℕ) (d : Cell) (ds : List Cell) (n : ℕ) → DistinctNodes (d ∷ ds) → Changes s t d.at (with_previous q) → Linked s p (d ∷ ds) n → Linked t q (d ∷ ds) n
led_from s t p q d ds n apart change h = previous_set s t p q d ds n (apart.0) (change.set _ (h.0)) change.others h

-- The first cell is taken out: its node goes, and its neighbours name one another.
pub unlinked : (s t u w : Slab Node) (c : Cell) (cs : List Cell) → Circle s (c ∷ cs) → ((k : ℕ) → k ≢ c.at → get t k ≡ get s k) →
    Changes t u (last_at c.at cs) (with_next (first_at cs c.at)) → Changes u w (first_at cs c.at) (with_previous (last_at c.at cs)) → Circle w cs
unlinked s t u w c [] h others ahead back = record { linked = tt; apart = tt }
unlinked s t u w c (d ∷ ds) h others ahead back =
    let apart : DistinctNodes (d ∷ ds) = h.apart.1 in
    let kept : Linked t c.at (d ∷ ds) c.at = linked_kept s t c.at (d ∷ ds) c.at (λ k there. others k (not_same (d ∷ ds) c.at k (h.apart.0) there)) (h.linked.1) in
    let led : Linked u c.at (d ∷ ds) d.at = led_to t u c.at d ds c.at d.at apart ahead kept in
    record {
      linked = led_from u w c.at (last_at c.at (d ∷ ds)) d ds d.at apart back led;
      apart = apart;
    }

-- A cell is put behind the last, before the first.

apart_behind : (a : List Cell) (c : Cell) → DistinctNodes a → is_at a c.at ≡ false → DistinctNodes (a ++ c ∷ [])
apart_behind [] c h alone = (refl, tt)
apart_behind (d ∷ ds) c h alone =
    elim (d.at == c.at) as (λ t. (d.at == c.at) ≡ t → t || is_at ds c.at ≡ false → DistinctNodes (d ∷ (ds ++ c ∷ []))) [
      | true ↦ λ is g. cc
      | false ↦ λ is g. (is_at-append ds (c ∷ []) d.at ∙ rw (h.0, not_back d.at c.at is) refl, apart_behind ds c (h.1) g)
    ] refl alone
  where
    not_back : (m n : ℕ) → (m == n) ≡ false → (n == m) ≡ false
    not_back m n h = grind (arith, nat_tests)

-- a free node is none of the way's
pub free_of : (s : Slab Node) (p : ℕ) (cs : List Cell) (n k : ℕ) → Linked s p cs n → get s k ≡ None → is_at cs k ≡ false
free_of s p [] n k h free = refl
free_of s p (c ∷ cs) n k h free =
    elim (c.at == k) as (λ t. (c.at == k) ≡ t → t || is_at cs k ≡ false) [
      | true ↦ λ is. let same : c.at ≡ k = eqb-true c.at k is in let held : get s k ≡ Some (record { entry = c.entry; next = first_at cs n; previous = p }) = ap (get s) (sym same) ∙ h.0 in cc
      | false ↦ λ is. free_of s c.at cs n k (h.1) free
    ] refl

end_in : (p : ℕ) (d : Cell) (ds : List Cell) → is_at (d ∷ ds) (last_at p (d ∷ ds)) ≡ true
end_in p d [] = rw (at_self d.at) refl
end_in p d (e ∷ es) = rw (end_in d.at e es) (or-true (d.at == last_at e.at es))

-- A node outside the circle becomes the last before the first.
pub linked_in : (s t u w : Slab Node) (c d : Cell) (ds : List Cell) → Circle s (d ∷ ds) → is_at (d ∷ ds) c.at ≡ false →
    get t c.at ≡ Some (record { entry = c.entry; next = d.at; previous = last_at d.at ds }) → ((k : ℕ) → k ≢ c.at → get t k ≡ get s k) →
    Changes t u (last_at d.at ds) (with_next c.at) → Changes u w d.at (with_previous c.at) → Circle w ((d ∷ ds) ++ c ∷ [])
linked_in s t u w c d ds h alone put others ahead back =
    let way : Linked s (last_at d.at ds) (d ∷ ds) d.at = h.linked in
    let kept : Linked t (last_at d.at ds) (d ∷ ds) d.at = linked_kept s t (last_at d.at ds) (d ∷ ds) d.at (λ k there. others k (not_same (d ∷ ds) c.at k alone there)) way in
    let led : Linked u (last_at d.at ds) (d ∷ ds) c.at = led_to t u (last_at d.at ds) d ds d.at c.at h.apart ahead kept in
    let around : Linked w c.at (d ∷ ds) c.at = led_from u w (last_at d.at ds) c.at d ds c.at h.apart back led in
    let first : get w c.at ≡ get u c.at = back.others c.at (λ same. not_same (d ∷ ds) c.at d.at alone (rw (at_self d.at) refl) (sym same)) in
    let second : get u c.at ≡ get t c.at = ahead.others c.at (λ same. not_same (d ∷ ds) c.at (last_at d.at ds) alone (end_in d.at d ds) (sym same)) in
    record {
      linked = linked_both w (last_at d.at (ds ++ c ∷ [])) (d ∷ ds) (c ∷ []) d.at (subst (λ (p : ℕ). Linked w p (d ∷ ds) c.at) (sym (last_ended d.at ds c)) around) (first ∙ second ∙ put, tt);
      apart = apart_behind (d ∷ ds) c h.apart alone;
    }

apart_between : (c : Cell) (a b : List Cell) → DistinctNodes (a ++ b) → is_at (a ++ b) c.at ≡ false → DistinctNodes (a ++ c ∷ b)
apart_between c [] b h alone = (alone, h)
apart_between c (d ∷ ds) b h alone =
    let parts : ((d.at == c.at) ≡ false) × (is_at (ds ++ b) c.at ≡ false) = or_parts (d.at == c.at) (is_at (ds ++ b) c.at) alone in
    let away : (is_at ds d.at ≡ false) × (is_at b d.at ≡ false) = or_parts (is_at ds d.at) (is_at b d.at) (sym (is_at-append ds b d.at) ∙ h.0) in
    (is_at-append ds (c ∷ b) d.at ∙ rw (away.0, not_back d.at c.at (parts.0)) (away.1), apart_between c ds b (h.1) (parts.1))
  where
    not_back : (m n : ℕ) → (m == n) ≡ false → (n == m) ≡ false
    not_back m n h = grind (arith, nat_tests)

pub apart_turned : (a b : List Cell) → DistinctNodes (a ++ b) → DistinctNodes (b ++ a)
apart_turned [] b h = subst DistinctNodes (sym (nil_behind b)) h
  where
    nil_behind : (l : List Cell) → l ++ [] ≡ l
    nil_behind [] = refl
    nil_behind (c ∷ cs) = ap (λ (l : List Cell). c ∷ l) (nil_behind cs)
apart_turned (c ∷ cs) b h = apart_between c b cs (apart_turned cs b (h.1)) (is_at-append b cs c.at ∙ or_comm (is_at b c.at) (is_at cs c.at) ∙ sym (is_at-append cs b c.at) ∙ h.0)

-- A circle may begin anywhere.
pub turned : (s : Slab Node) (a b : List Cell) → Circle s (a ++ b) → Circle s (b ++ a)
turned s [] b h = subst (Circle s) (sym (nil_behind b)) h
  where
    nil_behind : (l : List Cell) → l ++ [] ≡ l
    nil_behind [] = refl
    nil_behind (c ∷ cs) = ap (λ (l : List Cell). c ∷ l) (nil_behind cs)
turned s (c ∷ cs) [] h = subst (Circle s) (nil_behind (c ∷ cs)) h
  where
    nil_behind : (l : List Cell) → l ++ [] ≡ l
    nil_behind [] = refl
    nil_behind (c ∷ cs) = ap (λ (l : List Cell). c ∷ l) (nil_behind cs)
turned s (c ∷ cs) (d ∷ ds) h =
    let ahead : last_at c.at (cs ++ d ∷ ds) ≡ last_at d.at ds = last-append c.at cs (d ∷ ds) in
    let behind : last_at d.at (ds ++ c ∷ cs) ≡ last_at c.at cs = last-append d.at ds (c ∷ cs) in
    let first : Linked s (last_at d.at ds) (c ∷ cs) d.at = linked_first s (last_at d.at ds) (c ∷ cs) (d ∷ ds) c.at (subst (λ (p : ℕ). Linked s p ((c ∷ cs) ++ d ∷ ds) c.at) ahead h.linked) in
    let second : Linked s (last_at c.at cs) (d ∷ ds) c.at = linked_second s (last_at d.at ds) (c ∷ cs) (d ∷ ds) c.at (subst (λ (p : ℕ). Linked s p ((c ∷ cs) ++ d ∷ ds) c.at) ahead h.linked) in
    record {
      linked = linked_both s (last_at d.at (ds ++ c ∷ cs)) (d ∷ ds) (c ∷ cs) d.at (subst (λ (p : ℕ). Linked s p (d ∷ ds) c.at) (sym behind) second) first;
      apart = apart_turned (c ∷ cs) (d ∷ ds) h.apart;
    }

-- The same of writes as a node tells where they go.

pub unlinked_at : (s t u w : Slab Node) (node : Node) (at : ℕ) → get s at ≡ Some node → ((k : ℕ) → k ≢ at → get t k ≡ get s k) →
    Changes t u node.previous (with_next node.next) → Changes u w node.next (with_previous node.previous) →
    (c : Cell) (cs : List Cell) → c.at ≡ at → Circle s (c ∷ cs) → Circle w cs
unlinked_at s t u w node at held others ahead back c cs is h =
    let told : get s c.at ≡ Some (record { entry = c.entry; next = first_at cs c.at; previous = last_at c.at cs }) = h.linked.0 in
    let here : get s c.at ≡ Some node = ap (get s) is ∙ held in
    let same : Some node ≡ Some (record { entry = c.entry; next = first_at cs c.at; previous = last_at c.at cs }) = sym here ∙ told in
    let one : node ≡ record { entry = c.entry; next = first_at cs c.at; previous = last_at c.at cs } = cc in
    unlinked s t u w c cs h (λ k away. others k (λ q. away (q ∙ sym is)))
    (subst (λ (n : Node). Changes t u n.previous (with_next n.next)) one ahead)
    (subst (λ (n : Node). Changes u w n.next (with_previous n.previous)) one back)

-- a node with its links told by other names
node_is : (t : Slab Node) (at front next previous last : ℕ) (entry : Entry) → get t at ≡ Some (record { entry = entry; next = front; previous = previous }) → next ≡ front → previous ≡ last →
    get t at ≡ Some (record { entry = entry; next = next; previous = last })
node_is t at front next previous last entry put first end =
    put ∙ ap (λ (n : ℕ). Some (record { entry = entry; next = n; previous = previous })) (sym first) ∙ ap (λ (n : ℕ). Some (record { entry = entry; next = next; previous = n })) end

pub linked_again : (s t u w : Slab Node) (node : Node) (front at : ℕ) (entry : Entry) → get s front ≡ Some node →
    get t at ≡ Some (record { entry = entry; next = front; previous = node.previous }) → ((k : ℕ) → k ≢ at → get t k ≡ get s k) →
    Changes t u node.previous (with_next at) → Changes u w front (with_previous at) →
    (d : Cell) (ds : List Cell) → d.at ≡ front → is_at (d ∷ ds) at ≡ false → Circle s (d ∷ ds) → Circle w ((d ∷ ds) ++ record { at = at; entry = entry } ∷ [])
linked_again s t u w node front at entry held put others ahead back d ds is alone h =
    let told : get s d.at ≡ Some (record { entry = d.entry; next = first_at ds d.at; previous = last_at d.at ds }) = h.linked.0 in
    let here : get s d.at ≡ Some node = ap (get s) is ∙ held in
    let same : Some node ≡ Some (record { entry = d.entry; next = first_at ds d.at; previous = last_at d.at ds }) = sym here ∙ told in
    let one : node ≡ record { entry = d.entry; next = first_at ds d.at; previous = last_at d.at ds } = cc in
    let end : node.previous ≡ last_at d.at ds = ap (λ (n : Node). n.previous) one in
    linked_in s t u w (record { at = at; entry = entry }) d ds h alone
    (node_is t at front d.at node.previous (last_at d.at ds) entry put is end)
    others
    (subst (λ (n : ℕ). Changes t u n (with_next at)) end ahead)
    (subst (λ (n : ℕ). Changes u w n (with_previous at)) (sym is) back)

pub linked_at : (s t u w : Slab Node) (node : Node) (front at : ℕ) (entry : Entry) → get s front ≡ Some node → get s at ≡ None →
    get t at ≡ Some (record { entry = entry; next = front; previous = node.previous }) → ((k : ℕ) → k ≢ at → get t k ≡ get s k) →
    Changes t u node.previous (with_next at) → Changes u w front (with_previous at) →
    (d : Cell) (ds : List Cell) → d.at ≡ front → Circle s (d ∷ ds) → Circle w ((d ∷ ds) ++ record { at = at; entry = entry } ∷ [])
linked_at s t u w node front at entry held free put others ahead back d ds is h =
    linked_again s t u w node front at entry held put others ahead back d ds is (free_of s (last_at d.at ds) (d ∷ ds) d.at at h.linked free) h
