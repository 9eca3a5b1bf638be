-- Second chance (Andrew S. Tanenbaum and Herbert Bos, "Modern Operating Systems", 4th edition, 3.4.4): R of the oldest page is looked at.
-- If it is 0, the page leaves. If it is 1, it is cleared, and the page goes to the end of the list as if it had just come. That is
-- generalized CLOCK with one bit, whose page at the hand is the oldest. R of a page that comes in is set, or clear.
use Rattle.std.specs.Prelude.{ℕ, List}
use Rattle.clock_policy.specs.declared.key.Key.{Key}
use Rattle.textbook_policies.specs.GClock.{g_clock_misses}
use Rattle.textbook_policies.specs.declared.g_clock_counts.GClockCounts.{GClockCounts}
use Rattle.ticked_policies.specs.declared.arrival.Arrival.{Arrival}
use Rattle.ticked_policies.specs.declared.arrival.Arrival.TheVariants.{Marked, Clear}

abbrev pub one_bit : Arrival → GClockCounts
one_bit Marked = record { most = 1; first = 1 }
one_bit Clear = record { most = 1; first = 0 }

abbrev pub second_chance_misses : Arrival → ℕ → List Key → ℕ
second_chance_misses arrival m string = g_clock_misses (one_bit arrival) m string
