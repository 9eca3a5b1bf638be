-- The hot hand's way, front by front.
use Rattle.std.specs.Prelude.{◌≡◌, ◌≢◌, ℕ, suc, ◌+◌, ◌≤◌, ◌<◌, Bool, true, false, ◌==◌, ◌⊎◌, cond, Some, List, [], ◌∷◌, ◌++◌, length, refl}
use Rattle.std.proofs.Common.{inl, inr, arith, sym, ap, ◌∙◌, subst, ne_eqb}
use Rattle.clock_policy.specs.declared.key.Key.{Key}
use Rattle.clock_policy.specs.declared.entry.Entry.{Entry}
use Rattle.clock_policy.specs.declared.entry.EntryKind.{EntryKind}
use Rattle.clock_policy.specs.ClockPro.{ClockState, has_key, number, place}
use Rattle.clock_policy.proofs.ListedLaws.{has_key_refl}
use Rattle.clock_policy.proofs.CountLaws.{IsIn}
use Rattle.clock_policy.specs.SingleMoves.{kind_passed, front_passed, fronts_passed}
use Rattle.page_ring.specs.declared.links.Node.{Node}
use Rattle.page_ring.specs.Linked.{Cell}
use Rattle.page_ring.proofs.LinkLaws.{at_self}
use Rattle.page_ring.specs.Chain.{same, of_kind}
use Rattle.page_ring.specs.Index.{entries_of, DistinctPages}
use Rattle.page_ring.proofs.IndexLaws.{entries-append}
use Rattle.clock_ring.specs.RingState.{entry_at_node, passed_as, passed_list}
use Rattle.clock_ring.proofs.MoveLaws.{Between, between, entry_before}
use Rattle.clock_ring.proofs.StepLaws.{NodeAt, Made}

-- the front's cell
pub record Front (cells : List Cell) (at : ℕ) (e : Entry) : Type 0 where
  pub rest : List Cell
  pub parts : cells ≡ record { at = at; entry = e } ∷ rest
  pub holds : entry_at_node cells at ≡ Some e

pub front_is : (cells : List Cell) (at : ℕ) (node : Node) → 1 ≤ length cells → ((c : Cell) → (cs : List Cell) → cells ≡ c ∷ cs → at ≡ c.at) → NodeAt cells at node → Front cells at node.entry
front_is [] at node some first told = absurd (omega (arith, some))
front_is (c ∷ cs) at node some first told =
    let is : c.at ≡ at = sym (first c cs refl) in
    let e : node.entry ≡ c.entry = ap (λ (m : Node). m.entry) (told c cs same is) in
    record {
      rest = cs;
      parts = ap (λ (n : ℕ). record { at = n; entry = c.entry } ∷ cs) is ∙ ap (λ (x : Entry). record { at = at; entry = x } ∷ cs) (sym e);
      holds = rw (is, at_self at) (ap (λ (x : Entry). Some x) (sym e));
    }

pub passed_one : (s : ClockState) (cells : List Cell) (at : ℕ) (e : Entry) (kind : EntryKind) → s.entries ≡ entries_of cells → (f : Front cells at e) → e.kind ≡ kind → front_passed s ≡ kind_passed kind e.key s
passed_one s cells at e kind is f k = by_entries s (is ∙ ap entries_of f.parts) ∙ ap (λ (t : EntryKind). kind_passed t e.key s) k
  where
    by_entries : (s : ClockState) → s.entries ≡ e ∷ entries_of f.rest → front_passed s ≡ kind_passed e.kind e.key s
    by_entries s h = rw h refl

pub passed_cells : (cells new : List Cell) (at : ℕ) (e : Entry) (kind : EntryKind) → (f : Front cells at e) → e.kind ≡ kind → new ≡ f.rest ++ passed_as kind (record { at = at; entry = e }) → new ≡ passed_list cells
passed_cells cells new at e kind f k h =
    h ∙ ap (λ (t : EntryKind). f.rest ++ passed_as t (record { at = at; entry = e })) (sym k) ∙ ap passed_list (sym f.parts)

pub some_at : (cells : List Cell) (at : ℕ) (e : Entry) → entry_at_node cells at ≡ Some e → 1 ≤ length cells
some_at [] at e h = cc
some_at (c ∷ cs) at e h = omega arith

pub marked_some : (cells new : List Cell) (at : ℕ) (e : Entry) (kind : EntryKind) → entry_at_node cells at ≡ Some e → Made cells at new (λ u c v. u ++ of_kind kind c ∷ v) → 1 ≤ length new
marked_some cells new at e kind holds made =
    let b : Between cells at e = between cells at e holds in
    let c : Cell = record { at = at; entry = e } in
    subst (λ (l : List Cell). 1 ≤ length l) (sym (made b.before b.behind c b.parts refl)) (some_with b.before b.behind (of_kind kind c))
  where
    some_with : (u v : List Cell) (c : Cell) → 1 ≤ length (u ++ c ∷ v)
    some_with [] v c = omega arith
    some_with (d ∷ ds) v c = omega arith

-- a key of an entry of these cells
pub listed_at : (cells : List Cell) (at : ℕ) (e : Entry) → entry_at_node cells at ≡ Some e → 1 ≤ number (has_key e.key) (entries_of cells)
listed_at [] at e h = cc
listed_at (c ∷ cs) at e h =
    elim (c.at == at) as (λ t. cond t (Some c.entry) (entry_at_node cs at) ≡ Some e → 1 ≤ number (has_key e.key) (entries_of (c ∷ cs))) [
      | true ↦ λ g. let one : c.entry ≡ e = cc in rw one (rw (has_key_refl e) (omega arith))
      | false ↦ λ g. omega (arith, listed_at cs at e g)
    ] h

pub held_in : (cells : List Cell) (at : ℕ) (e : Entry) → entry_at_node cells at ≡ Some e → IsIn e (entries_of cells)
held_in [] at e h = cc
held_in (c ∷ cs) at e h =
    elim (c.at == at) as (λ t. cond t (Some c.entry) (entry_at_node cs at) ≡ Some e → (c.entry ≡ e) ⊎ IsIn e (entries_of cs)) [
      | true ↦ λ g. let one : c.entry ≡ e = cc in inl one
      | false ↦ λ g. inr (held_in cs at e g)
    ] h

place-append : (k : Key) (a b : List Entry) → 1 ≤ number (has_key k) a → place k (a ++ b) ≡ place k a
place-append k [] b h = absurd (omega (arith, h))
place-append k (e ∷ es) b h =
    elim (has_key k e) as (λ t. 1 ≤ cond t 1 0 + number (has_key k) es → cond t 0 (suc (place k (es ++ b))) ≡ cond t 0 (suc (place k es))) [
      | true ↦ λ g. refl
      | false ↦ λ g. ap (λ (n : ℕ). suc n) (place-append k es b (omega (arith, g)))
    ] h

-- what is left of the way after a front was passed
pub record Passed (cells new : List Cell) (at : ℕ) (e : Entry) (s t : ClockState) : Type 0 where
  pub holds : entry_at_node new at ≡ Some e
  pub rest : fronts_passed (place e.key (entries_of new)) t ≡ fronts_passed (place e.key (entries_of cells)) s
  pub nearer : place e.key (entries_of new) < place e.key (entries_of cells)

pub front_goes_by : (cells new : List Cell) (at front : ℕ) (e : Entry) (s t : ClockState) → DistinctPages cells → entry_at_node cells at ≡ Some e → ((c : Cell) → (cs : List Cell) → cells ≡ c ∷ cs → front ≡ c.at) → front ≢ at →
    new ≡ passed_list cells → t ≡ front_passed s → Passed cells new at e s t
front_goes_by [] new at front e s t distinct holds first away is moved = cc
front_goes_by (c ∷ cs) new at front e s t distinct holds first away is moved =
    let other : (c.at == at) ≡ false = ne_eqb c.at at (λ (q : c.at ≡ at). away (first c cs refl ∙ q)) in
    let behind : entry_at_node cs at ≡ Some e = skipped c cs at e other holds in
    let listed : 1 ≤ number (has_key e.key) (entries_of cs) = listed_at cs at e behind in
    let fails : has_key e.key c.entry ≡ false = only (has_key e.key c.entry) (number (has_key e.key) (entries_of cs)) (distinct e.key) listed in
    let here : place e.key (entries_of (c ∷ cs)) ≡ suc (place e.key (entries_of cs)) = counted (has_key e.key c.entry) (place e.key (entries_of cs)) fails in
    let there : place e.key (entries_of new) ≡ place e.key (entries_of cs) =
    ap (λ (l : List Cell). place e.key (entries_of l)) is ∙ ap (place e.key) (entries-append cs (passed_as c.entry.kind c)) ∙ place-append e.key (entries_of cs) (entries_of (passed_as c.entry.kind c)) listed in
    record {
      holds = ap (λ (l : List Cell). entry_at_node l at) is ∙ entry_before cs (passed_as c.entry.kind c) at e behind;
      rest = ap (λ (n : ℕ). fronts_passed n t) there ∙ ap (fronts_passed (place e.key (entries_of cs))) moved ∙ sym (ap (λ (n : ℕ). fronts_passed n s) here);
      nearer = omega (arith, here, there);
    }
  where
    skipped : (c : Cell) (cs : List Cell) (at : ℕ) (e : Entry) → (c.at == at) ≡ false → entry_at_node (c ∷ cs) at ≡ Some e → entry_at_node cs at ≡ Some e
    skipped c cs at e h g = rw h at g

    only : (b : Bool) (n : ℕ) → cond b 1 0 + n ≤ 1 → 1 ≤ n → b ≡ false
    only true n h g = absurd (omega (arith, h, g))
    only false n h g = refl

    counted : (b : Bool) (n : ℕ) → b ≡ false → cond b 0 (suc n) ≡ suc n
    counted true n h = cc
    counted false n h = refl

-- the way ends where the entry stands at the front
pub front_reached : (cells : List Cell) (at front : ℕ) (e : Entry) → entry_at_node cells at ≡ Some e → ((c : Cell) → (cs : List Cell) → cells ≡ c ∷ cs → front ≡ c.at) → front ≡ at → place e.key (entries_of cells) ≡ 0
front_reached [] at front e holds first is = cc
front_reached (c ∷ cs) at front e holds first is =
    let here : (c.at == at) ≡ true = rw (sym (first c cs refl) ∙ is) (at_self at) in
    let found : cond true (Some c.entry) (entry_at_node cs at) ≡ Some e = rw here at holds in
    let one : c.entry ≡ e = cc in
    rw one (rw (has_key_refl e) refl)
