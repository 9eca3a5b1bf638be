-- The purge, entry by entry.
use Rattle.std.specs.Prelude.{◌≡◌, ℕ, ◌+◌, ◌<◌, Bool, true, false, cond, List, [], ◌∷◌, ◌++◌, take, drop, length, refl}
use Rattle.std.proofs.Common.{sym, ap, ◌∙◌, append_assoc}
use Rattle.std.proofs.Math.Bool.{or-true}
use Rattle.clock_policy.specs.declared.entry.Entry.{Entry}
use Rattle.clock_policy.specs.ClockPro.{ClockState, is_of_process, removed}
use Rattle.clock_policy.specs.SingleMoves.{removed_of, each_removed}
use Rattle.page_ring.specs.declared.links.Node.{Node}
use Rattle.page_ring.specs.Linked.{Cell, is_at, first_at, last_at}
use Rattle.page_ring.proofs.LinkLaws.{at_self, is_at-append}
use Rattle.page_ring.proofs.ChainLaws.{rotates_split}
use Rattle.page_ring.specs.Index.{entries_of}
use Rattle.clock_ring.proofs.StepLaws.{NodeAt, Made}
use Rattle.clock_ring.proofs.ScanLaws.{Middle, middle}

-- the cells that are not the process's
abbrev pub left_of : ℕ → List Cell → List Cell
left_of process [] = []
left_of process (c ∷ cs) = cond (is_of_process process c.entry) (left_of process cs) (c ∷ left_of process cs)

left-append : (process : ℕ) (a b : List Cell) → left_of process (a ++ b) ≡ left_of process a ++ left_of process b
left-append process [] b = refl
left-append process (c ∷ cs) b =
    elim (is_of_process process c.entry) as (λ t. cond t (left_of process (cs ++ b)) (c ∷ left_of process (cs ++ b)) ≡ cond t (left_of process cs) (c ∷ left_of process cs) ++ left_of process b) [
      | true ↦ left-append process cs b
      | false ↦ ap (λ (l : List Cell). c ∷ l) (left-append process cs b)
    ]

-- how far the purge has come: the first cells were passed, and a node is the next
pub record Purging (process : ℕ) (first now : List Cell) (i at : ℕ) (s : ClockState) (whole : ClockState) : Type 0 where
  pub cells : now ≡ left_of process (take i first) ++ drop i first
  pub next : first_at (drop i first) at ≡ at
  pub rest : each_removed process (entries_of (drop i first)) s ≡ whole

pub purge_starts : (process : ℕ) (first : List Cell) (at : ℕ) (s whole : ClockState) → ((c : Cell) → (cs : List Cell) → first ≡ c ∷ cs → at ≡ c.at) → each_removed process (entries_of first) s ≡ whole → Purging process first first 0 at s whole
purge_starts process [] at s whole front rest = record { cells = refl; next = refl; rest = rest }
purge_starts process (c ∷ cs) at s whole front rest = record { cells = refl; next = sym (front c cs refl); rest = rest }

-- the cell that is passed now
pub record Passing (process : ℕ) (first now : List Cell) (i at : ℕ) (node : Node) : Type 0 where
  pub kept : List Cell
  pub cell : Cell
  pub behind : List Cell
  pub parts : now ≡ kept ++ cell ∷ behind
  pub from : drop i first ≡ cell ∷ behind
  pub after : drop (i + 1) first ≡ behind
  pub kept_is : kept ≡ left_of process (take i first)
  pub upto : left_of process (take (i + 1) first) ≡ kept ++ cond (is_of_process process cell.entry) [] (cell ∷ [])
  pub is : cell.at ≡ at
  pub entry : node.entry ≡ cell.entry
  pub next : first_at behind node.next ≡ node.next

pub purge_at : (process : ℕ) (first now : List Cell) (i at : ℕ) (s whole : ClockState) → i < length first → Purging process first now i at s whole → is_at now at ≡ true
purge_at process first now i at s whole within h =
    let m : Middle first i = middle first i within in
    let is : m.cell.at ≡ at = ap (λ (l : List Cell). first_at l at) (sym m.from) ∙ h.next in
    ap (λ (l : List Cell). is_at l at) (h.cells ∙ ap (λ (l : List Cell). left_of process (take i first) ++ l) m.from)
    ∙ is_at-append (left_of process (take i first)) (m.cell ∷ m.behind) at
    ∙ rw (is, at_self at) (or-true (is_at (left_of process (take i first)) at))

pub passing : (process : ℕ) (first now : List Cell) (i at : ℕ) (node : Node) (s whole : ClockState) → i < length first → Purging process first now i at s whole → NodeAt now at node → Passing process first now i at node
passing process first now i at node s whole within h told =
    let m : Middle first i = middle first i within in
    let is : m.cell.at ≡ at = ap (λ (l : List Cell). first_at l at) (sym m.from) ∙ h.next in
    let kept : List Cell = left_of process (take i first) in
    let parts : now ≡ kept ++ m.cell ∷ m.behind = h.cells ∙ ap (λ (l : List Cell). kept ++ l) m.from in
    let same : node ≡ record { entry = m.cell.entry; next = first_at (m.behind ++ kept) at; previous = last_at at (m.behind ++ kept) } = told m.cell (m.behind ++ kept) (rotates_split now kept m.behind m.cell parts) is in
    record {
      kept = kept;
      cell = m.cell;
      behind = m.behind;
      parts = parts;
      from = m.from;
      after = m.after;
      kept_is = refl;
      upto = ap (left_of process) m.upto ∙ left-append process (take i first) (m.cell ∷ []);
      is = is;
      entry = ap (λ (n : Node). n.entry) same;
      next = by_behind m.behind kept at node.next (ap (λ (n : Node). n.next) same);
    }
  where
    by_behind : (v u : List Cell) (at next : ℕ) → next ≡ first_at (v ++ u) at → first_at v next ≡ next
    by_behind [] u at next h = refl
    by_behind (d ∷ ds) u at next h = sym h

pub purge_removes : (process : ℕ) (first now new : List Cell) (i at : ℕ) (node : Node) (s t whole : ClockState) → i < length first → Purging process first now i at s whole → NodeAt now at node → is_of_process process node.entry ≡ true →
    Made now at new (λ u c v. u ++ v) → t ≡ removed node.entry.key s → Purging process first new (i + 1) node.next t whole
purge_removes process first now new i at node s t whole within h told gone made moved =
    let p : Passing process first now i at node = passing process first now i at node s whole within h told in
    let it : is_of_process process p.cell.entry ≡ true = ap (is_of_process process) (sym p.entry) ∙ gone in
    record {
      cells = made p.kept p.behind p.cell p.parts p.is ∙ sym (ap (λ (l : List Cell). l ++ drop (i + 1) first) (p.upto ∙ dropped p.kept (p.cell ∷ []) (is_of_process process p.cell.entry) it) ∙ ap (λ (l : List Cell). p.kept ++ l) p.after);
      next = ap (λ (l : List Cell). first_at l node.next) p.after ∙ p.next;
      rest =
          ap (λ (l : List Cell). each_removed process (entries_of l) t) p.after
          ∙ ap (each_removed process (entries_of p.behind)) (moved ∙ ap (λ (e : Entry). removed e.key s) p.entry ∙ sym (goes p.cell.entry s it))
          ∙ sym (ap (λ (l : List Cell). each_removed process (entries_of l) s) p.from)
          ∙ h.rest;
    }
  where
    dropped : (a b : List Cell) (t : Bool) → t ≡ true → a ++ cond t [] b ≡ a
    dropped [] b true h = refl
    dropped (c ∷ cs) b true h = ap (λ (l : List Cell). c ∷ l) (dropped cs b true h)
    dropped a b false h = cc

    goes : (e : Entry) (s : ClockState) → is_of_process process e ≡ true → removed_of process e s ≡ removed e.key s
    goes e s h = rw h refl

pub purge_keeps : (process : ℕ) (first now : List Cell) (i at : ℕ) (node : Node) (s whole : ClockState) → i < length first → Purging process first now i at s whole → NodeAt now at node → is_of_process process node.entry ≡ false →
    Purging process first now (i + 1) node.next s whole
purge_keeps process first now i at node s whole within h told stays =
    let p : Passing process first now i at node = passing process first now i at node s whole within h told in
    let it : is_of_process process p.cell.entry ≡ false = ap (is_of_process process) (sym p.entry) ∙ stays in
    record {
      cells = p.parts ∙ sym (append_assoc p.kept (p.cell ∷ []) p.behind) ∙ sym (ap (λ (l : List Cell). l ++ drop (i + 1) first) (p.upto ∙ kept p.kept (p.cell ∷ []) (is_of_process process p.cell.entry) it) ∙ ap (λ (l : List Cell). (p.kept ++ p.cell ∷ []) ++ l) p.after);
      next = ap (λ (l : List Cell). first_at l node.next) p.after ∙ p.next;
      rest =
          ap (λ (l : List Cell). each_removed process (entries_of l) s) p.after
          ∙ ap (each_removed process (entries_of p.behind)) (sym (stands p.cell.entry s it))
          ∙ sym (ap (λ (l : List Cell). each_removed process (entries_of l) s) p.from)
          ∙ h.rest;
    }
  where
    kept : (a b : List Cell) (t : Bool) → t ≡ false → a ++ cond t [] b ≡ a ++ b
    kept a b true h = cc
    kept a b false h = refl

    stands : (e : Entry) (s : ClockState) → is_of_process process e ≡ false → removed_of process e s ≡ s
    stands e s h = rw h refl
