-- LIRS: Song Jiang and Xiaodong Zhang, "LIRS: An Efficient Low Inter-reference Recency Set Replacement Policy to Improve Buffer Cache
-- Performance", SIGMETRICS 2002, section 3. Sentences of its three cases are beside the equations as they were remembered, with its
-- authors' names. S is the stack of recency, the top first. Q is the list of the HIR pages in frames, its end first. The LIR pages are
-- in a list of their own in the order of S. The last of them is the one at the bottom of S. The three cases describe a cache
-- that is full: while a frame is free no page leaves one.
-- S may have a bound, as in the simulator of its authors: where S has more pages, the lowest of those that are in no frame leaves it. Then
-- these are in a list of their own too, in the order of S, which is that in which they leave their frames.
use Rattle.std.specs.Prelude.{ℕ, zero, suc, ◌+◌, ◌-◌, ◌*◌, ◌/◌, ◌&&◌, Bool, true, false, cond, nat_lt, max, List, [], length, Option, Some, None}
use Rattle.clock_policy.specs.declared.key.Key.{Key}
use Rattle.page_policies.specs.Strings.{holds, without, misses}
use Rattle.page_policies.specs.Ordered.{to_front, last_of, but_last}
use Rattle.younger_policies.specs.TwoQueues.{out_with}
use Rattle.younger_policies.specs.declared.lirs_shares.LirsShares.{LirsShares}
use Rattle.younger_policies.specs.declared.lirs_shares.LirsRooms.{LirsRooms}
use Rattle.younger_policies.specs.declared.lirs.Lirs.{Lirs}

pub record LirsState : Type 0 where
  pub lir : List Key
  pub stack : List Key
  pub queue : List Key
  pub gone : List Key

-- Lhirs is 1% of the cache, one frame at least, and S has no bound
abbrev pub usual_shares : LirsShares
usual_shares = record { hirs = 1; floor = 1; stack = None }

-- Llirs is the rest of m frames
abbrev pub most_lir : LirsShares → ℕ → ℕ
most_lir shares m = m - max (m * shares.hirs / 100) shares.floor

-- how many pages S has at most: so many hundredths of m frames, if it has a bound
abbrev pub most_stack : Option ℕ → ℕ → Option ℕ
most_stack None m = None
most_stack (Some hundredths) m = Some (m * hundredths / 100)

abbrev pub rooms_of : LirsShares → ℕ → LirsRooms
rooms_of shares m = record { frames = m; most_lir = most_lir shares m; most_stack = most_stack shares.stack m }

abbrev pub has_bound : Option ℕ → Bool
has_bound None = false
has_bound (Some most) = true

-- whether S has more pages than its bound
abbrev pub is_over : Option ℕ → ℕ → Bool
is_over None n = false
is_over (Some most) n = nat_lt most n

-- the others
abbrev pub apart : Option Key → List Key → List Key
apart None s = s
apart (Some y) s = without y s

abbrev pub is_bottom_lir : Option Key → LirsState → Bool
is_bottom_lir None s = true
is_bottom_lir (Some b) s = holds b s.lir

-- the page in the bottom of S leaves it
abbrev pub without_bottom : LirsState → LirsState
without_bottom s = record { lir = s.lir; stack = but_last s.stack; queue = s.queue; gone = apart (last_of s.stack) s.gone }

-- Stack pruning removes the HIR pages in the bottom of S until an LIR page sits there: so many turns as S has pages are enough.
abbrev pub pruned : ℕ → LirsState → LirsState
pruned zero s = s
pruned (suc n) s = cond (is_bottom_lir (last_of s.stack) s) s (pruned n (without_bottom s))

-- The LIR page in the bottom of S becomes an HIR one, and goes to the end of Q: where there would be more than Llirs of them.
abbrev pub demoted : LirsRooms → LirsState → LirsState
demoted r s = cond (nat_lt r.most_lir (length s.lir)) (record { lir = but_last s.lir; stack = s.stack; queue = out_with (last_of s.lir) s.queue; gone = s.gone }) s

-- X goes to the top of S, becomes an LIR page, and is removed from Q if it is there.
abbrev pub made_lir : Key → LirsState → LirsState
made_lir p s = record { lir = to_front p s.lir; stack = to_front p s.stack; queue = without p s.queue; gone = without p s.gone }

-- X goes to the top of S, stays an HIR page, and goes to the end of Q.
abbrev pub kept_hir : Key → LirsState → LirsState
kept_hir p s = record { lir = s.lir; stack = to_front p s.stack; queue = to_front p s.queue; gone = s.gone }

abbrev pub promoted : LirsRooms → Key → LirsState → LirsState
promoted r p s = pruned (length (demoted r (made_lir p s)).stack) (demoted r (made_lir p s))

-- Whether X becomes an LIR page: it is in S, or there are less than Llirs of them, as at first.
abbrev pub becomes_lir : LirsRooms → Key → LirsState → Bool
becomes_lir r p s = cond (nat_lt (length s.lir) r.most_lir) true (holds p s.stack)

-- The lowest page of S that is in no frame leaves it, if S has more pages than its bound.
abbrev pub cut : LirsRooms → LirsState → LirsState
cut r s = cond (is_over r.most_stack (length s.stack)) (record { lir = s.lir; stack = apart (last_of s.gone) s.stack; queue = s.queue; gone = but_last s.gone }) s

abbrev pub placed : LirsRooms → Key → LirsState → LirsState
placed r p s = cond (becomes_lir r p s) (promoted r p s) (cut r (kept_hir p s))

-- the pages of S that are in no frame, where another one leaves its frame: in S it is above them
abbrev pub gone_with : LirsRooms → Option Key → LirsState → List Key
gone_with r None s = s.gone
gone_with r (Some y) s = cond (has_bound r.most_stack && holds y s.stack) (to_front y s.gone) s.gone

-- The page at the front of Q leaves where no frame is free; in S it stays, if it is there.
abbrev pub room_made : LirsRooms → LirsState → LirsState
room_made r s = cond (nat_lt (length s.lir + length s.queue) r.frames) s (record { lir = s.lir; stack = s.stack; queue = but_last s.queue; gone = gone_with r (last_of s.queue) s })

-- Case 1, an LIR page: it goes to the top of S, which is pruned.
abbrev pub lir_used : Key → LirsState → LirsState
lir_used p s = pruned (length (to_front p s.stack)) (record { lir = to_front p s.lir; stack = to_front p s.stack; queue = s.queue; gone = s.gone })

-- Case 2, an HIR page in a frame, and case 3, a page in none.
abbrev pub hir_used : LirsRooms → Key → LirsState → LirsState
hir_used r p s = placed r p (cond (holds p s.queue) s (room_made r s))

abbrev pub in_lirs : Key → LirsState → Bool
in_lirs p s = cond (holds p s.lir) true (holds p s.queue)

abbrev pub lirs : LirsRooms → Key → LirsState → LirsState
lirs r p s = cond (holds p s.lir) (lir_used p s) (hir_used r p s)

unfoldable pub lirs_misses : LirsShares → ℕ → List Key → ℕ
lirs_misses shares m string = misses in_lirs (lirs (rooms_of shares m)) (record { lir = []; stack = []; queue = []; gone = [] }) string

-- the counter as this definition sees it
abbrev pub lists_of : Lirs → LirsState
lists_of s = record { lir = s.lir; stack = s.stack; queue = s.queue; gone = s.gone }

-- with other pages that are in no frame
abbrev pub with_gone : List Key → LirsState → LirsState
with_gone gone s = record { lir = s.lir; stack = s.stack; queue = s.queue; gone = gone }
