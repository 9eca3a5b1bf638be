-- The hand of generalized CLOCK passes pages one by one: proofs.
use Rattle.std.specs.Prelude.{◌≡◌, ℕ, suc, ◌+◌, ◌-◌, ◌<◌, Bool, true, cond, nat_lt, List, []}
use Rattle.std.specs.HashMap.{get}
use Rattle.std.proofs.Common.{arith, sym, ap, ◌∙◌}
use Rattle.clock_policy.specs.declared.key.Key.{Key}
use Rattle.page_policies.specs.Strings.{is_page, misses}
use Rattle.page_policies.specs.Ordered.{last_of}
use Rattle.page_policies.specs.NextUses.{known}
use Rattle.textbook_policies.specs.GClock.{GClockState, hand_count, passed, gone, swept, in_g_clock, g_clock, g_clock_misses, circle_of}
use Rattle.textbook_policies.specs.declared.g_clock_counts.GClockCounts.{GClockCounts}
use Rattle.textbook_policies.specs.declared.g_clock.GClock.{GClock}

pub swept_more : (n i : ℕ) (s t : GClockState) → i < n → true ≡ nat_lt 0 (hand_count (last_of s.pages) s) → t ≡ passed (last_of s.pages) s → swept (n - (i + 1)) t ≡ swept (n - i) s
swept_more n i s t h used is =
    let e : n - i ≡ suc (n - (i + 1)) = omega (arith, h) in
    ap (swept (n - (i + 1))) is
    ∙ ap (λ (b : Bool). cond b (swept (n - (i + 1)) (passed (last_of s.pages) s)) (gone s)) used
    ∙ ap (λ (k : ℕ). swept k s) (sym e)

pub g_clock_opens : (s : GClock) (counts : GClockCounts) (m : ℕ) → s.frames ≡ m → s.counts ≡ counts → s.pages ≡ [] → ((q : Key) → known (get is_page s.count q) ≡ 0) → (string : List Key) → misses in_g_clock (g_clock s.frames s.counts) (circle_of s) string ≡ g_clock_misses counts m string
unfolding g_clock_misses
g_clock_opens s counts m frames counts_are pages none string = λ i. misses in_g_clock (g_clock (frames i) (counts_are i)) (record { pages = pages i; count = λ q. none q i }) string
