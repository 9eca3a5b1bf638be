-- The counts through the single moves.
use Rattle.std.specs.Prelude.{◌≡◌, ℕ, suc, ◌+◌, ◌≤◌, List, [], ◌∷◌, ◌++◌, length, refl}
use Rattle.std.proofs.Common.{arith, ap}
use Rattle.clock_policy.specs.declared.entry.EntryKind.{EntryKind}
use Rattle.clock_policy.specs.ClockPro.{is_hot, is_cold, is_shadow, hot_count, cold_count, shadow_count}
use Rattle.clock_policy.proofs.LookupLaws.{length_is}
use Rattle.page_ring.specs.Linked.{Cell}
use Rattle.page_ring.specs.Chain.{of_kind}
use Rattle.page_ring.specs.Index.{entries_of}
use Rattle.page_ring.proofs.IndexLaws.{number-cells, mark_number, remove_number, append_number}
use Rattle.clock_ring.specs.declared.counts.Counts.{Counts}
use Rattle.clock_ring.specs.RingState.{Counted, More, HasOne}

pub has_one : (n : Counts) (u v : List Cell) (c : Cell) → Counted n (u ++ c ∷ v) → HasOne n c.entry.kind
has_one n u v c h = record {
  hot = omega (arith, remove_number (λ e. is_hot e.kind) u v c, h.hot);
  cold = omega (arith, remove_number (λ e. is_cold e.kind) u v c, h.cold);
  shadows = omega (arith, remove_number (λ e. is_shadow e.kind) u v c, h.shadows);
}

pub counted_removed : (n m : Counts) (u v : List Cell) (c : Cell) → Counted n (u ++ c ∷ v) → More m n c.entry.kind → Counted m (u ++ v)
counted_removed n m u v c h less = record {
  hot = omega (arith, remove_number (λ e. is_hot e.kind) u v c, h.hot, less.hot);
  cold = omega (arith, remove_number (λ e. is_cold e.kind) u v c, h.cold, less.cold);
  shadows = omega (arith, remove_number (λ e. is_shadow e.kind) u v c, h.shadows, less.shadows);
}

pub counted_appended : (n m : Counts) (cs : List Cell) (c : Cell) → Counted n cs → More n m c.entry.kind → Counted m (cs ++ c ∷ [])
counted_appended n m cs c h more = record {
  hot = omega (arith, append_number (λ e. is_hot e.kind) cs c, h.hot, more.hot);
  cold = omega (arith, append_number (λ e. is_cold e.kind) cs c, h.cold, more.cold);
  shadows = omega (arith, append_number (λ e. is_shadow e.kind) cs c, h.shadows, more.shadows);
}

pub counted_marked : (n m k : Counts) (kind : EntryKind) (u v : List Cell) (c : Cell) → Counted n (u ++ c ∷ v) → More m n c.entry.kind → More m k kind → Counted k (u ++ of_kind kind c ∷ v)
counted_marked n m k kind u v c h less more = record {
  hot = omega (arith, mark_number (λ e. is_hot e.kind) kind u v c, h.hot, less.hot, more.hot);
  cold = omega (arith, mark_number (λ e. is_cold e.kind) kind u v c, h.cold, less.cold, more.cold);
  shadows = omega (arith, mark_number (λ e. is_shadow e.kind) kind u v c, h.shadows, less.shadows, more.shadows);
}

pub counted_turned : (n : Counts) (a b : List Cell) → Counted n (a ++ b) → Counted n (b ++ a)
counted_turned n a b h = record {
  hot = omega (arith, number-cells (λ e. is_hot e.kind) a b, number-cells (λ e. is_hot e.kind) b a, h.hot);
  cold = omega (arith, number-cells (λ e. is_cold e.kind) a b, number-cells (λ e. is_cold e.kind) b a, h.cold);
  shadows = omega (arith, number-cells (λ e. is_shadow e.kind) a b, number-cells (λ e. is_shadow e.kind) b a, h.shadows);
}

pub entries_length : (cs : List Cell) → length (entries_of cs) ≡ length cs
entries_length [] = refl
entries_length (c ∷ cs) = ap (λ (n : ℕ). suc n) (entries_length cs)

pub counted_length : (n : Counts) (cs : List Cell) → Counted n cs → n.hot + n.cold + n.shadows ≡ length cs
counted_length n cs h =
    let e : length (entries_of cs) ≡ hot_count (entries_of cs) + cold_count (entries_of cs) + shadow_count (entries_of cs) = length_is (entries_of cs) in
    omega (arith, e, entries_length cs, h.hot, h.cold, h.shadows)

-- so many are left where one goes
pub less_length : (n m : Counts) (cs : List Cell) (kind : EntryKind) → Counted n cs → More m n kind → m.hot + m.cold + m.shadows ≤ length cs
less_length n m cs kind h less = omega (arith, counted_length n cs h, less.hot, less.cold, less.shadows)

pub length_marked : (kind : EntryKind) (u v : List Cell) (c : Cell) → length (u ++ of_kind kind c ∷ v) ≡ length (u ++ c ∷ v)
length_marked kind [] v c = refl
length_marked kind (d ∷ ds) v c = ap (λ (n : ℕ). suc n) (length_marked kind ds v c)

pub length_removed : (u v : List Cell) (c : Cell) → length (u ++ v) + 1 ≡ length (u ++ c ∷ v)
length_removed [] v c = omega arith
length_removed (d ∷ ds) v c = omega (arith, length_removed ds v c)

-- where not each frame has its page, the circle has room for one more
