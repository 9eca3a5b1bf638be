-- S3-FIFO: Juncheng Yang, Yazhuo Zhang, Ziyue Qiu, Yao Yue and K. V. Rashmi, "FIFO Queues are All You Need for Cache Eviction",
-- SOSP 2023, algorithm 1. Lines of its pseudo-code are beside the equations, with its authors' names. S and M are the small and the
-- main queue, G has the ghosts, and S has 10% of the frames. Read so: M is full where it has more pages than S leaves it frames, of which
-- S has one at least, and else its share rounded down; S is compared with a share that is not rounded (line 15); there are as many ghosts as M
-- has frames, at most; a page that comes back is a ghost no more; and a page that goes from S to M keeps its count, which no line clears.
-- The text of section 4 says that it is cleared. Each of these may be asked for otherwise.
use Rattle.std.specs.Prelude.{ℕ, zero, suc, ◌+◌, ◌-◌, ◌*◌, ◌/◌, Bool, true, cond, nat_lt, nat_le, min, max, List, [], length, Option, Some, None}
use Rattle.std.specs.HashMap.{get}
use Rattle.clock_policy.specs.declared.key.Key.{Key}
use Rattle.page_policies.specs.Strings.{is_page, holds, without, misses}
use Rattle.page_policies.specs.Ordered.{to_front, last_of, but_last, at_most}
use Rattle.page_policies.specs.NextUses.{known}
use Rattle.younger_policies.specs.declared.s3_fifo_shares.MovedCount.{MovedCount}
use Rattle.younger_policies.specs.declared.s3_fifo_shares.MovedCount.TheVariants.{Keep, Clear}
use Rattle.younger_policies.specs.declared.s3_fifo_shares.S3FifoShares.{S3FifoShares}
use Rattle.younger_policies.specs.declared.s3_fifo_shares.S3FifoRooms.{S3FifoRooms}
use Rattle.younger_policies.specs.declared.s3_fifo.S3Fifo.{S3Fifo}

pub record S3FifoState : Type 0 where
  pub small : List Key
  pub main : List Key
  pub ghosts : List Key
  pub freq : Key → ℕ

-- S has 10% of the cache, and G as many ghosts as M has frames
abbrev pub usual_shares : S3FifoShares
usual_shares = record { small = 10; ghosts = 100; moved = Keep }

-- how many frames M has
abbrev pub main_frames : S3FifoShares → ℕ → ℕ
main_frames shares m = m - max (m * shares.small / 100) 1

abbrev pub rooms_of : S3FifoShares → ℕ → S3FifoRooms
rooms_of shares m = record {
  frames = m;
  hundredths = m * shares.small;
  main = main_frames shares m;
  ghosts = main_frames shares m * shares.ghosts / 100;
  moved = shares.moved;
}

-- the page's count becomes n
abbrev pub with_freq : Key → ℕ → (Key → ℕ) → Key → ℕ
with_freq p n freq q = cond (is_page p q) n (freq q)

abbrev pub pages_in : S3FifoState → ℕ
pages_in s = length s.small + length s.main

-- EVICTM. t <- tail of M; if t.freq > 0 then insert t to head of M, t.freq <- t.freq - 1 (lines 34 to 37)
abbrev pub main_again : Option Key → S3FifoState → S3FifoState
main_again None s = s
main_again (Some t) s = record { small = s.small; main = to_front t s.main; ghosts = s.ghosts; freq = with_freq t (s.freq t - 1) s.freq }

abbrev pub tail_freq : Option Key → S3FifoState → ℕ
tail_freq None s = 0
tail_freq (Some t) s = s.freq t

-- else remove t from M (line 39)
abbrev pub main_out : S3FifoState → S3FifoState
main_out s = record { small = s.small; main = but_last s.main; ghosts = s.ghosts; freq = s.freq }

-- while not evicted and M.size > 0 (line 33): no count is above 3, so that three turns a page are enough
abbrev pub evicted_main : ℕ → S3FifoState → S3FifoState
evicted_main zero s = main_out s
evicted_main (suc n) s = cond (nat_lt 0 (tail_freq (last_of s.main) s)) (evicted_main n (main_again (last_of s.main) s)) (main_out s)

abbrev pub main_turned : S3FifoState → S3FifoState
main_turned s = evicted_main (3 * length s.main) s

-- if M is full then EVICTM() (lines 25 and 26)
abbrev pub main_cut : S3FifoRooms → S3FifoState → S3FifoState
main_cut r s = cond (nat_lt r.main (length s.main)) (main_turned s) s

-- the counts where a page goes from S to M
abbrev pub moved_freq : MovedCount → Key → (Key → ℕ) → Key → ℕ
moved_freq Keep t freq = freq
moved_freq Clear t freq = with_freq t 0 freq

-- EVICTS. t <- tail of S; if t.freq > 1 then insert t to M (lines 22 to 24), remove t from S (line 30)
abbrev pub small_up : S3FifoRooms → Option Key → S3FifoState → S3FifoState
small_up r None s = s
small_up r (Some t) s = main_cut r (record { small = but_last s.small; main = to_front t s.main; ghosts = s.ghosts; freq = moved_freq r.moved t s.freq })

-- else insert t to G (line 28), remove t from S (line 30)
abbrev pub small_out : S3FifoRooms → Option Key → S3FifoState → S3FifoState
small_out r None s = s
small_out r (Some t) s = record { small = but_last s.small; main = s.main; ghosts = at_most r.ghosts (to_front t s.ghosts); freq = with_freq t 0 s.freq }

-- while not evicted and S.size > 0 (line 21), so many turns at most
abbrev pub evicted_small : S3FifoRooms → ℕ → S3FifoState → S3FifoState
evicted_small r zero s = s
evicted_small r (suc n) s = cond (nat_lt 1 (tail_freq (last_of s.small) s)) (evicted_small r n (small_up r (last_of s.small) s)) (small_out r (last_of s.small) s)

-- EVICT. if S.size >= 0.1 * cache size then EVICTS() else EVICTM() (lines 15 to 18)
abbrev pub evicted : S3FifoRooms → S3FifoState → S3FifoState
evicted r s = cond (nat_le r.hundredths (100 * length s.small)) (evicted_small r (length s.small) s) (main_turned s)

-- while cache is full do EVICT() (lines 8 and 9): where the first leaves no room S is empty, and the second takes a page of M
abbrev pub room_made : S3FifoRooms → ℕ → S3FifoState → S3FifoState
room_made r zero s = s
room_made r (suc n) s = cond (nat_lt (pages_in s) r.frames) s (room_made r n (evicted r s))

-- if x is in G then insert x to head of M (lines 10 and 11); x.freq <- 0 (line 6)
abbrev pub came_back : Key → S3FifoState → S3FifoState
came_back p s = record { small = s.small; main = to_front p s.main; ghosts = without p s.ghosts; freq = with_freq p 0 s.freq }

-- else insert x to head of S (line 13); x.freq <- 0 (line 6)
abbrev pub came : Key → S3FifoState → S3FifoState
came p s = record { small = to_front p s.small; main = s.main; ghosts = s.ghosts; freq = with_freq p 0 s.freq }

-- INSERT
abbrev pub inserted : Key → S3FifoState → S3FifoState
inserted p s = cond (holds p s.ghosts) (came_back p s) (came p s)

-- x.freq <- min(x.freq + 1, 3) (line 3)
abbrev pub used : Key → S3FifoState → S3FifoState
used p s = record { small = s.small; main = s.main; ghosts = s.ghosts; freq = with_freq p (min (s.freq p + 1) 3) s.freq }

-- if x in S or x in M (line 2)
abbrev pub in_s3_fifo : Key → S3FifoState → Bool
in_s3_fifo p s = cond (holds p s.small) true (holds p s.main)

abbrev pub s3_fifo : S3FifoRooms → Key → S3FifoState → S3FifoState
s3_fifo r p s = cond (in_s3_fifo p s) (used p s) (inserted p (room_made r 2 s))

unfoldable pub s3_fifo_misses : S3FifoShares → ℕ → List Key → ℕ
s3_fifo_misses shares m string = misses in_s3_fifo (s3_fifo (rooms_of shares m)) (record { small = []; main = []; ghosts = []; freq = λ q. 0 }) string

-- the counter as this definition sees it
abbrev pub queues_of : S3Fifo → S3FifoState
queues_of s = record { small = s.small; main = s.main; ghosts = s.ghosts; freq = λ q. known (get is_page s.freq q) }
