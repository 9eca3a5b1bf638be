-- What each policy misses, by its name.
use Rattle.std.specs.Prelude.{◌≡◌, ℕ, ◌&&◌, ◌||◌, Bool, true, false, nat_le, List, [], ◌∷◌, length, Option, Some, None, map}
use Rattle.clock_policy.specs.FrameCounts.{least_frames, most_frames}
use Rattle.guest_strings.specs.declared.reference.Reference.{Reference}
use Rattle.page_policies.specs.declared.frames.Frames.{Frames}
use Rattle.page_policies.specs.Queues.{fifo_misses, lru_misses}
use Rattle.page_policies.specs.SecondChance.{clock_misses}
use Rattle.younger_policies.specs.ClockProPlay.{clock_pro_misses, clock_pro_used_misses}
use Rattle.younger_policies.specs.TwoQueues.{two_queues_misses}
use Rattle.younger_policies.specs.Lirs.{lirs_misses}
use Rattle.younger_policies.specs.Arc.{arc_misses}
use Rattle.younger_policies.specs.Sieve.{sieve_misses}
use Rattle.younger_policies.specs.S3Fifo.{s3_fifo_misses}
use Rattle.tiny_lfu.specs.WTinyLfu.{w_tiny_lfu_misses}
use Rattle.textbook_policies.specs.Car.{car_misses}
use Rattle.textbook_policies.specs.LruK.{lru_k_misses}
use Rattle.textbook_policies.specs.GClock.{g_clock_misses}
use Rattle.textbook_policies.specs.Lfu.{lfu_misses}
use Rattle.textbook_policies.specs.Mru.{mru_misses}
use Rattle.ticked_policies.specs.SecondChance.{second_chance_misses}
use Rattle.ticked_policies.specs.Ticked.{aging_misses, nru_misses}
use Rattle.ticked_policies.specs.WsClock.{ws_clock_misses}
use Rattle.kernel_policies.specs.TwoLists.{two_lists_misses}
use Rattle.page_policies.specs.Random.{random_misses}
use Rattle.page_policies.specs.Optimal.{optimal_misses}
use Rattle.miss_counts.specs.declared.counts.PolicyCount.{PolicyCount}
use Rattle.miss_counts.specs.declared.counts.PolicyCounts.{PolicyCounts}
use Rattle.miss_counts.specs.declared.policy_name.PolicyName.{PolicyName}
use Rattle.miss_counts.specs.declared.policy_name.PolicyName.TheVariants.{Fifo, Clock, Lru, ClockProUsed, ClockPro, TwoQueues, Lirs, Arc, Sieve, S3Fifo, WTinyLfu, Car, LruK, GClock, Lfu, Mru, SecondChance, Nru, Aging, WsClock, TwoLists, Random}
use Rattle.miss_counts.specs.StringPages.{pages_of, uses_of}
use Rattle.miss_counts.specs.declared.policy_set.PolicySet.{PolicySet}

-- what a policy misses of a string with so many frames
abbrev pub misses_of : PolicyName → ℕ → List Reference → ℕ
misses_of Fifo frames string = fifo_misses frames (pages_of string)
misses_of Clock frames string = clock_misses frames (pages_of string)
misses_of Lru frames string = lru_misses frames (pages_of string)
misses_of ClockProUsed frames string = clock_pro_used_misses frames (pages_of string)
misses_of ClockPro frames string = clock_pro_misses frames (pages_of string)
misses_of (TwoQueues shares) frames string = two_queues_misses shares frames (pages_of string)
misses_of (Lirs shares) frames string = lirs_misses shares frames (pages_of string)
misses_of Arc frames string = arc_misses frames (pages_of string)
misses_of Sieve frames string = sieve_misses frames (pages_of string)
misses_of (S3Fifo shares) frames string = s3_fifo_misses shares frames (pages_of string)
misses_of (WTinyLfu shares) frames string = w_tiny_lfu_misses shares frames (pages_of string)
misses_of Car frames string = car_misses frames (pages_of string)
misses_of (LruK uses) frames string = lru_k_misses uses frames (pages_of string)
misses_of (GClock counts) frames string = g_clock_misses counts frames (pages_of string)
misses_of Lfu frames string = lfu_misses frames (pages_of string)
misses_of Mru frames string = mru_misses frames (pages_of string)
misses_of (SecondChance arrival) frames string = second_chance_misses arrival frames (pages_of string)
misses_of (Nru ticks) frames string = nru_misses ticks frames (uses_of string)
misses_of (Aging ticks) frames string = aging_misses ticks frames (uses_of string)
misses_of (WsClock set) frames string = ws_clock_misses set frames (uses_of string)
misses_of (TwoLists parts) frames string = two_lists_misses parts frames (pages_of string)
misses_of (Random seed) frames string = random_misses seed frames (pages_of string)

-- whether so many frames are what a machine may have, and the list of CLOCK-Pro
abbrev pub is_machines : ℕ → Bool
is_machines n = nat_le least_frames n && nat_le n most_frames

-- whether the policy serves so many frames: CLOCK-Pro's list is for no others than a machine's
abbrev pub serves : PolicyName → ℕ → Bool
serves ClockProUsed n = is_machines n
serves ClockPro n = is_machines n
serves policy n = true

-- whether the policy goes by which references write
abbrev pub needs_writes : PolicyName → Bool
needs_writes (Nru ticks) = true
needs_writes (WsClock set) = true
needs_writes policy = false

-- whether one of the policies does
abbrev pub any_needs_writes : List PolicyName → Bool
any_needs_writes [] = false
any_needs_writes (p ∷ ps) = needs_writes p || any_needs_writes ps

-- whether one of the policies serves so many frames
abbrev pub any_serves : List PolicyName → ℕ → Bool
any_serves [] n = false
any_serves (p ∷ ps) n = serves p n || any_serves ps n

-- whether one of them serves one of these numbers of frames
abbrev pub any_served : List PolicyName → List ℕ → Bool
any_served policies [] = false
any_served policies (n ∷ ns) = any_serves policies n || any_served policies ns

-- whether anything is counted with one of these numbers of frames: the optimum serves all of them
abbrev pub is_counted : PolicySet → List ℕ → Bool
is_counted wanted numbers = wanted.optimum || any_served wanted.policies.items numbers

-- a count, where there is one
abbrev pub asked : Bool → ℕ → Option ℕ
asked true n = Some n
asked false n = None

-- the count of a policy that serves so many frames, by what it misses of each string with them
abbrev pub count_of : ((List Reference → ℕ) → ℕ) → ℕ → PolicyName → PolicyCount
count_of count frames policy = record { policy = policy; count = asked (serves policy frames) (count (misses_of policy frames)) }

-- A row has the count of each policy that is asked for, in their order, or none of one that serves other numbers of frames. The string that is served has so many references, and so much is
-- counted of the optimum.
pub record IsCounted (count : (List Reference → ℕ) → ℕ) (policies : List PolicyName) (references : ℕ) (optimum : Option ℕ) (frames : Frames) (row : PolicyCounts) : Type 0 where
  pub with_frames : row.frames ≡ frames
  pub of_references : row.references ≡ references
  pub of_policies : row.counts.items ≡ map (count_of count frames.number) policies
  pub of_optimum : row.optimum ≡ optimum

-- a row of what each policy that is asked for misses of a string, and of what the optimum does where it is asked for
unfoldable pub IsRow : PolicySet → List Reference → Frames → PolicyCounts → Type 0
IsRow wanted string frames row =
    IsCounted (λ misses. misses string) wanted.policies.items (length string) (asked wanted.optimum (optimal_misses frames.number (pages_of string))) frames row
