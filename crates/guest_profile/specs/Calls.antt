-- The calls of harts, and what is counted of each call.
use Rattle.std.specs.Prelude.{ℕ, ◌+◌, ◌-◌, ◌%◌, ◌^◌, ◌==◌, nat_le, nat_lt, Bool, true, ◌&&◌, if◌then◌else◌, List, [], ◌∷◌, ◌++◌, length, take, drop, slice_get, slice_set, Option, Some, None, is_some, unwrap_or}
use Rattle.std.specs.HashMap.{get}
use Rattle.std.specs.Ordering.{nat_cmp, ordering_then}
use Rattle.std.specs.declared.cmp.Ordering.{Ordering}
use Rattle.std.specs.Option.{option_map, option_or}
use Rattle.guest_steps.specs.declared.flow.Flow.{Flow}
use Rattle.guest_steps.specs.declared.flow.Flow.TheVariants.{Call, Return, Branch, Other}
use Rattle.guest_profile.specs.declared.call_counts.CallCounts.{CallCounts}
use Rattle.guest_profile.specs.declared.call_site.CallCount.{CallCount}
use Rattle.guest_profile.specs.declared.call_site.CallSite.{CallSite}
use Rattle.guest_profile.specs.declared.call_stack.CallStack.{CallStack}
use Rattle.guest_profile.specs.declared.call_site.Jump.{Jump}
use Rattle.guest_profile.specs.declared.call_stack.PendingCall.{PendingCall}
use Rattle.guest_profile.specs.declared.call_stack.Sought.{Sought}
use Rattle.guest_profile.specs.declared.call_stack.Sought.TheVariants.{Behind, To, HeldAt, HeldAbove}
use Rattle.guest_profile.specs.Counting.{more}
use Rattle.guest_profile.specs.Sums.{both, nothing, without}
use Rattle.guest_profile.specs.declared.sums.Sums.{Sums}

-- two calls from the same place to the same callee, at the same levels
abbrev pub is_call : CallSite → CallSite → Bool
is_call one other = (one.site == other.site) && ((one.callee == other.callee) && ((one.from_level == other.from_level) && (one.level == other.level)))

-- calls by rising site, of one site by rising callee, and of one callee by rising levels
abbrev pub call_cmp : CallSite → CallSite → Ordering
call_cmp one other =
    ordering_then (nat_cmp one.site other.site) (ordering_then (nat_cmp one.callee other.callee) (ordering_then (nat_cmp one.from_level other.from_level) (nat_cmp one.level other.level)))

-- what is counted of a call, where it was made
abbrev pub calls_of : CallCounts → CallSite → Option CallCount
calls_of counts site = get is_call counts.counts site

abbrev pub was_made : CallCounts → CallSite → Bool
was_made counts site = is_some (calls_of counts site)

abbrev pub call_known : Option CallCount → CallCount
call_known count = unwrap_or count (record { times = 0; inside = nothing })

-- one more of the same call
abbrev pub begun_count : CallCount → CallCount
begun_count count = record { times = more count.times 1; inside = count.inside }

-- what is counted of a call after one was made, the same one or another
abbrev pub begun : CallSite → CallSite → Option CallCount → Option CallCount
begun call site count = if is_call call site then Some (begun_count (call_known count)) else count

-- one of the same calls is over after these steps, which count or do not
abbrev pub ended_count : Sums → Bool → CallCount → CallCount
ended_count inside counts count = record { times = count.times; inside = both count.inside (if counts then inside else nothing) }

-- what is counted of a call after one is over, the same one or another, when its hart had done this
abbrev pub ended_call : Sums → PendingCall → CallSite → Option CallCount → Option CallCount
ended_call done one site count = if is_call one.call site then Some (ended_count (without done one.begun) one.counts (call_known count)) else count

-- and after several are, the last one first
abbrev pub ended : Sums → List PendingCall → CallSite → Option CallCount → Option CallCount
ended done [] site count = count
ended done (one ∷ later) site count = ended_call done one site (ended done later site count)

-- the calls of a hart that have not returned, the last one last, and what it has done
pub record HartCalls : Type 0 where
  pub pending : List PendingCall
  pub done : Sums

abbrev pub hart_calls : CallStack → HartCalls
hart_calls stack = record { pending = stack.pending.items; done = stack.done }

abbrev pub no_calls : HartCalls
no_calls = record { pending = []; done = nothing }

-- the hart does a step
abbrev pub stepped : Sums → HartCalls → HartCalls
stepped step hart = record { pending = hart.pending; done = both hart.done step }

-- whether a pending call is one that is sought: an address is the one after it; it is of this callee; it was made at this stack pointer or
-- above it; it was made above it
abbrev pub is_sought : Sought → PendingCall → Bool
is_sought (Behind address) one = (one.call.site + 4) % 2 ^ 32 == address
is_sought (To callee) one = one.call.callee == callee
is_sought (HeldAt sp) one = nat_le sp one.sp
is_sought (HeldAbove sp) one = nat_lt sp one.sp

-- the last of some calls that is sought, by its place among them
abbrev pub last_sought : Sought → List PendingCall → Option ℕ
last_sought sought [] = None
last_sought sought (one ∷ later) = option_or (option_map (λ place. place + 1) (last_sought sought later)) (if is_sought sought one then Some 0 else None)

-- A call is an inner one, of level 2, where its hart has a pending call of the same callee; else it is of level 1. The steps of a hart count
-- for the level of its last pending call.
abbrev pub level_of : Option PendingCall → ℕ
level_of None = 1
level_of (Some one) = one.call.level

abbrev pub level_in : List PendingCall → ℕ
level_in pending = level_of (slice_get pending (length pending - 1))

-- the last pending call of a callee
abbrev pub call_at : Option ℕ → List PendingCall → Option PendingCall
call_at None pending = None
call_at (Some place) pending = slice_get pending place

abbrev pub last_to : ℕ → List PendingCall → Option PendingCall
last_to callee pending = call_at (last_sought (To callee) pending) pending

-- a call beside that one: its level, and whether its steps count, which they do once at each level
abbrev pub level_beside : Option PendingCall → ℕ
level_beside None = 1
level_beside (Some one) = 2

abbrev pub counts_beside : Option PendingCall → Bool
counts_beside None = true
counts_beside (Some one) = one.call.level == 1

-- the call that a step makes
abbrev pub call_made : Jump → List PendingCall → CallSite
call_made jump pending = record { site = jump.site; callee = jump.target; from_level = level_in pending; level = level_beside (last_to jump.target pending) }

abbrev pub pending_made : Jump → HartCalls → PendingCall
pending_made jump hart = record {
  call = call_made jump hart.pending;
  begun = hart.done;
  sp = jump.sp;
  counts = counts_beside (last_to jump.target hart.pending);
}

abbrev pub made : Jump → HartCalls → HartCalls
made jump hart = record { pending = hart.pending ++ pending_made jump hart ∷ []; done = hart.done }

-- the calls up to the last one that is sought are held
abbrev pub place_behind : Option ℕ → ℕ
place_behind None = 0
place_behind (Some place) = place + 1

abbrev pub held : Sought → List PendingCall → ℕ
held sought pending = place_behind (last_sought sought pending)

-- the calls from a place on are over
abbrev pub cut : ℕ → HartCalls → HartCalls
cut place hart = record { pending = take place hart.pending; done = hart.done }

abbrev pub ended_from : ℕ → HartCalls → CallSite → Option CallCount → Option CallCount
ended_from place hart site count = ended hart.done (drop place hart.pending) site count

-- A call that was made at a lower stack pointer than the hart's is over: the hart has left it, as longjmp does. So are all calls after the
-- last one that was made at this stack pointer or above it.
abbrev pub place_left : ℕ → HartCalls → ℕ
place_left sp hart = held (HeldAt sp) hart.pending

abbrev pub unwound : ℕ → HartCalls → HartCalls
unwound sp hart = cut (place_left sp hart) hart

-- To return to an address is to return from the last pending call before that address, and from all that were made since. Where it is
-- after no pending call, the hart comes back elsewhere: then it has left all calls that were made at its stack pointer or below it.
abbrev pub return_place : ℕ → ℕ → List PendingCall → ℕ
return_place address sp pending = unwrap_or (last_sought (Behind address) pending) (held (HeldAbove sp) pending)

abbrev pub place_returned : Jump → HartCalls → ℕ
place_returned jump hart = return_place jump.target jump.sp hart.pending

-- the calls of a hart after a step of it that calls, returns or does neither, once those are over that were left by the stack pointer
abbrev pub flowed : Flow → Jump → HartCalls → HartCalls
flowed Call jump hart = made jump hart
flowed Return jump hart = cut (place_returned jump hart) hart
flowed Branch jump hart = hart
flowed Other jump hart = hart

abbrev pub hart_after : Flow → Jump → HartCalls → HartCalls
hart_after flow jump hart = flowed flow jump (unwound jump.sp (stepped jump.step hart))

-- and what is counted of a call then
abbrev pub call_flowed : Flow → Jump → HartCalls → CallSite → Option CallCount → Option CallCount
call_flowed Call jump hart site count = begun (call_made jump hart.pending) site count
call_flowed Return jump hart site count = ended_from (place_returned jump hart) hart site count
call_flowed Branch jump hart site count = count
call_flowed Other jump hart site count = count

abbrev pub call_after : Flow → Jump → HartCalls → CallSite → Option CallCount → Option CallCount
call_after flow jump hart site count = call_flowed flow jump (unwound jump.sp (stepped jump.step hart)) site (ended_from (place_left jump.sp (stepped jump.step hart)) (stepped jump.step hart) site count)

-- the same where there is such a hart
abbrev pub hart_call_after : Option HartCalls → Flow → Jump → CallSite → Option CallCount → Option CallCount
hart_call_after None flow jump site count = count
hart_call_after (Some hart) flow jump site count = call_after flow jump hart site count

abbrev pub with_hart : ℕ → Option HartCalls → Flow → Jump → List HartCalls → List HartCalls
with_hart number None flow jump harts = harts
with_hart number (Some hart) flow jump harts = slice_set harts number (hart_after flow jump hart)

abbrev pub followed : ℕ → Flow → Jump → List HartCalls → List HartCalls
followed number flow jump harts = with_hart number (slice_get harts number) flow jump harts

-- the level at which a hart's steps count, and how many of its calls are pending
abbrev pub hart_level : Option HartCalls → ℕ
hart_level None = 1
hart_level (Some hart) = level_in hart.pending

abbrev pub hart_depth : Option HartCalls → ℕ
hart_depth None = 0
hart_depth (Some hart) = length hart.pending

-- all calls of a hart are over
abbrev pub none_pending : HartCalls → HartCalls
none_pending hart = record { pending = []; done = hart.done }

-- those of all harts are, one hart after the other
abbrev pub all_ended : List HartCalls → CallSite → Option CallCount → Option CallCount
all_ended [] site count = count
all_ended (hart ∷ others) site count = all_ended others site (ended hart.done hart.pending site count)
