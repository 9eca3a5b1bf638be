-- 2Q, its full version: Theodore Johnson and Dennis Shasha, "2Q: A Low Overhead High Performance Buffer Management Replacement
-- Algorithm", VLDB 1994. Lines of its pseudo-code are beside the equations, with its authors' names. A1in and A1out are queues, the
-- first of pages in frames and the second of pages that left. Am is the stack of the pages that came back. The pseudo-code does not
-- say when a name leaves A1out for its page's sake: here it does when the page comes back. Kin and Kout are shares of the frames, rounded
-- down; its authors' advice for strings that are not known is 25% and 50%, so that A1in has no share of fewer than four frames.
use Rattle.std.specs.Prelude.{ℕ, ◌+◌, ◌*◌, ◌/◌, Bool, true, cond, nat_lt, List, [], length, Option, Some, None}
use Rattle.clock_policy.specs.declared.key.Key.{Key}
use Rattle.page_policies.specs.Strings.{holds, without, misses}
use Rattle.page_policies.specs.Ordered.{to_front, last_of, but_last, at_most}
use Rattle.younger_policies.specs.declared.two_queue_shares.TwoQueueShares.{TwoQueueShares}
use Rattle.younger_policies.specs.declared.two_queue_shares.TwoQueueRooms.{TwoQueueRooms}
use Rattle.younger_policies.specs.declared.two_queues.TwoQueues.{TwoQueues}

pub record TwoQueuesState : Type 0 where
  pub a1in : List Key
  pub a1out : List Key
  pub am : List Key

-- "Kin should be 25% of the available page slots"; "Kout should hold identifiers for as many pages as would fit on 50% of the buffer"
abbrev pub usual_shares : TwoQueueShares
usual_shares = record { kin = 25; kout = 50 }

-- so many hundredths of m frames
abbrev pub rooms_of : TwoQueueShares → ℕ → TwoQueueRooms
rooms_of shares m = record { frames = m; kin = m * shares.kin / 100; kout = m * shares.kout / 100 }

-- page out the tail of A1in, call it Y; add identifier of Y to the head of A1out
abbrev pub out_with : Option Key → List Key → List Key
out_with None s = s
out_with (Some y) s = to_front y s

-- the first branch of reclaimfor where no slot is free: if (|A1in| > Kin)
abbrev pub recent_out : TwoQueueRooms → TwoQueuesState → TwoQueuesState
recent_out r s = record { a1in = but_last s.a1in; a1out = at_most r.kout (out_with (last_of s.a1in) s.a1out); am = s.am }

-- else page out the tail of Am: do not put it on A1out
abbrev pub main_out : TwoQueuesState → TwoQueuesState
main_out s = record { a1in = s.a1in; a1out = s.a1out; am = but_last s.am }

-- reclaimfor: if there are free page slots then put X into a free page slot
abbrev pub reclaimed : TwoQueueRooms → TwoQueuesState → TwoQueuesState
reclaimed r s = cond (nat_lt (length s.a1in + length s.am) r.frames) s (cond (nat_lt r.kin (length s.a1in)) (recent_out r s) (main_out s))

-- if X is on Am then move X to the head of Am
abbrev pub moved : Key → TwoQueuesState → TwoQueuesState
moved p s = record { a1in = s.a1in; a1out = s.a1out; am = to_front p s.am }

-- else if (X is on A1out) then reclaimfor(X), add X to the head of Am
abbrev pub came_back : Key → TwoQueuesState → TwoQueuesState
came_back p s = record { a1in = s.a1in; a1out = without p s.a1out; am = to_front p s.am }

-- else (X is on no queue) reclaimfor(X), add X to the head of A1in
abbrev pub came : Key → TwoQueuesState → TwoQueuesState
came p s = record { a1in = to_front p s.a1in; a1out = s.a1out; am = s.am }

-- a miss
abbrev pub brought : TwoQueueRooms → Key → TwoQueuesState → TwoQueuesState
brought r p s = cond (holds p s.a1out) (came_back p (reclaimed r s)) (came p (reclaimed r s))

-- A hit: else if (X is on A1in) do nothing.
abbrev pub used : Key → TwoQueuesState → TwoQueuesState
used p s = cond (holds p s.am) (moved p s) s

abbrev pub in_two_queues : Key → TwoQueuesState → Bool
in_two_queues p s = cond (holds p s.am) true (holds p s.a1in)

abbrev pub two_queues : TwoQueueRooms → Key → TwoQueuesState → TwoQueuesState
two_queues r p s = cond (in_two_queues p s) (used p s) (brought r p s)

unfoldable pub two_queues_misses : TwoQueueShares → ℕ → List Key → ℕ
two_queues_misses shares m string = misses in_two_queues (two_queues (rooms_of shares m)) (record { a1in = []; a1out = []; am = [] }) string

-- the counter as this definition sees it
abbrev pub queues_of : TwoQueues → TwoQueuesState
queues_of s = record { a1in = s.a1in; a1out = s.a1out; am = s.am }
