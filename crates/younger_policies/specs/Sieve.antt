-- SIEVE: Yazhuo Zhang, Juncheng Yang, Yao Yue, Ymir Vigfusson and K. V. Rashmi, "SIEVE is Simpler than LRU: an Efficient Turn-Key
-- Eviction Algorithm for Web Caches", NSDI 2024, algorithm 1. Lines of its pseudo-code are beside the equations. The queue T is
-- given in two parts, from its head to its tail. First is what lies ahead of the hand, with the page o at the hand last. Next is what the
-- hand has passed. Where the pseudo-code leaves the hand NULL until the next eviction it is at the tail at once here: pages come in at the
-- head, so that the tail is the same then.
use Rattle.std.specs.Prelude.{ℕ, zero, suc, ◌+◌, ◌==◌, Bool, true, false, cond, nat_lt, List, [], length, Option, Some, None}
use Rattle.std.specs.HashSet.{contains}
use Rattle.clock_policy.specs.declared.key.Key.{Key}
use Rattle.page_policies.specs.Strings.{is_page, holds, misses}
use Rattle.page_policies.specs.Ordered.{to_front, last_of, but_last}
use Rattle.younger_policies.specs.declared.sieve.Sieve.{Sieve}

pub record SieveState : Type 0 where
  pub ahead : List Key
  pub behind : List Key
  pub visited : Key → Bool

-- if o is NULL then o <- tail of T (lines 6 and 7, 11 and 12): nothing is ahead, and the whole queue is to come
abbrev pub wrapped : SieveState → SieveState
wrapped s = cond (length s.ahead == 0) (record { ahead = s.behind; behind = s.ahead; visited = s.visited }) s

-- o.visited = 1 (line 8)
abbrev pub hand_visited : Option Key → SieveState → Bool
hand_visited None s = false
hand_visited (Some o) s = s.visited o

-- o.visited <- 0, o <- o.prev (lines 9 and 10)
abbrev pub passed : Option Key → SieveState → SieveState
passed None s = s
passed (Some o) s = wrapped (record { ahead = but_last s.ahead; behind = to_front o s.behind; visited = λ q. cond (is_page o q) false (s.visited q) })

-- p <- o.prev, discard o in T (lines 13 and 14)
abbrev pub discarded : SieveState → SieveState
discarded s = wrapped (record { ahead = but_last s.ahead; behind = s.behind; visited = s.visited })

-- while o.visited = 1 (line 8): after one round each page was passed and has lost its mark, so that so many turns are enough
abbrev pub swept : ℕ → SieveState → SieveState
swept zero s = discarded s
swept (suc n) s = cond (hand_visited (last_of s.ahead) s) (swept n (passed (last_of s.ahead) s)) (discarded s)

abbrev pub queue_length : SieveState → ℕ
queue_length s = length s.ahead + length s.behind

-- if |T| = C (line 4)
abbrev pub made_room : ℕ → SieveState → SieveState
made_room m s = cond (nat_lt (queue_length s) m) s (swept (queue_length s) s)

-- Insert x in the head of T, x.visited <- 0 (lines 15 and 16)
abbrev pub inserted : Key → SieveState → SieveState
inserted p s = record { ahead = to_front p s.ahead; behind = s.behind; visited = λ q. cond (is_page p q) false (s.visited q) }

-- x.visited <- 1 (line 2)
abbrev pub visit : Key → SieveState → SieveState
visit p s = record { ahead = s.ahead; behind = s.behind; visited = λ q. cond (is_page p q) true (s.visited q) }

-- x is in T (line 1)
abbrev pub in_sieve : Key → SieveState → Bool
in_sieve p s = cond (holds p s.ahead) true (holds p s.behind)

abbrev pub sieve : ℕ → Key → SieveState → SieveState
sieve m p s = cond (in_sieve p s) (visit p s) (inserted p (made_room m s))

unfoldable pub sieve_misses : ℕ → List Key → ℕ
sieve_misses m string = misses in_sieve (sieve m) (record { ahead = []; behind = []; visited = λ q. false }) string

-- the counter as this definition sees it
abbrev pub queue_of : Sieve → SieveState
queue_of s = record { ahead = s.ahead; behind = s.behind; visited = λ q. contains is_page s.visited q }
