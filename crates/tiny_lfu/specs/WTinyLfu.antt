-- W-TinyLFU: Gil Einziger, Roy Friedman and Ben Manes, "TinyLFU: A Highly Efficient Cache Admission Policy", ACM Transactions on
-- Storage 2017, section 4. Sentences of it are beside the equations as they were remembered, with its authors' names. The window
-- is an LRU list. The main cache is a segmented LRU: a list of pages on probation, and one of protected pages. All lists have
-- the page first that was used last. Read so: pages that come in while the main cache has free frames are not compared with any.
use Rattle.std.specs.Prelude.{ℕ, ◌+◌, ◌-◌, ◌*◌, ◌/◌, ◌==◌, Bool, true, cond, nat_lt, max, List, [], length, replicate, Option, Some, None}
use Rattle.clock_policy.specs.declared.key.Key.{Key}
use Rattle.page_policies.specs.Strings.{holds, without, misses}
use Rattle.page_policies.specs.Ordered.{to_front, last_of, but_last}
use Rattle.tiny_lfu.specs.Sketch.{SketchState, estimate, counted}
use Rattle.tiny_lfu.specs.declared.shares.SketchWidth.{SketchWidth}
use Rattle.tiny_lfu.specs.declared.shares.SketchWidth.TheVariants.{One, Four}
use Rattle.tiny_lfu.specs.declared.shares.TinyLfuShares.{TinyLfuShares}
use Rattle.tiny_lfu.specs.declared.shares.TinyLfuRooms.{TinyLfuRooms}
use Rattle.tiny_lfu.specs.declared.sketch_state.Sketch.{Sketch}
use Rattle.tiny_lfu.specs.declared.w_tiny_lfu_state.WTinyLfu.{WTinyLfu}

pub record WTinyLfuState : Type 0 where
  pub window : List Key
  pub probation : List Key
  pub protected : List Key
  pub sketch : SketchState

-- "the window is 1% of the cache"; "80% of the main cache is for protected pages"; a row of the sketch has a count for each frame, and
-- all counts are halved after ten uses for each
abbrev pub usual_shares : TinyLfuShares
usual_shares = record { window = 1; protected = 80; width = One; sample = 10 }

abbrev pub counts_of : SketchWidth → ℕ
counts_of One = 1
counts_of Four = 4

-- the window has one frame at least, and the main cache the rest
abbrev pub window_frames : TinyLfuShares → ℕ → ℕ
window_frames shares m = max (m * shares.window / 100) 1

abbrev pub main_frames : TinyLfuShares → ℕ → ℕ
main_frames shares m = m - window_frames shares m

-- of m frames, rounded down
abbrev pub rooms_of : TinyLfuShares → ℕ → TinyLfuRooms
rooms_of shares m = record {
  frames = m;
  window = window_frames shares m;
  main = main_frames shares m;
  protected = main_frames shares m * shares.protected / 100;
  width = m * counts_of shares.width;
  sample = max (m * shares.sample) 1;
}

-- a page put at the front of the list of pages on probation, or none
abbrev pub joined : Option Key → List Key → List Key
joined None s = s
joined (Some q) s = to_front q s

-- where there are too many protected pages the one whose last use is longest ago is on probation again
abbrev pub settled : TinyLfuRooms → WTinyLfuState → WTinyLfuState
settled r s = cond (nat_lt r.protected (length s.protected))
    (record { window = s.window; probation = joined (last_of s.protected) s.probation; protected = but_last s.protected; sketch = s.sketch })
    s

-- a page on probation that is used again becomes a protected one
abbrev pub promoted : TinyLfuRooms → Key → WTinyLfuState → WTinyLfuState
promoted r p s = settled r (record { window = s.window; probation = without p s.probation; protected = to_front p s.protected; sketch = s.sketch })

abbrev pub window_used : Key → WTinyLfuState → WTinyLfuState
window_used p s = record { window = to_front p s.window; probation = s.probation; protected = s.protected; sketch = s.sketch }

abbrev pub protected_used : Key → WTinyLfuState → WTinyLfuState
protected_used p s = record { window = s.window; probation = s.probation; protected = to_front p s.protected; sketch = s.sketch }

-- a hit
abbrev pub used : TinyLfuRooms → Key → WTinyLfuState → WTinyLfuState
used r p s = cond (holds p s.protected) (protected_used p s) (cond (holds p s.window) (window_used p s) (promoted r p s))

-- "the cache victim": the page on probation whose last use is longest ago; where none is on probation, the protected one
abbrev pub victim : WTinyLfuState → Option Key
victim s = cond (length s.probation == 0) (last_of s.protected) (last_of s.probation)

abbrev pub victim_out : WTinyLfuState → WTinyLfuState
victim_out s = cond (length s.probation == 0)
    (record { window = s.window; probation = s.probation; protected = but_last s.protected; sketch = s.sketch })
    (record { window = s.window; probation = but_last s.probation; protected = s.protected; sketch = s.sketch })

abbrev pub let_in : Key → WTinyLfuState → WTinyLfuState
let_in c s = record { window = s.window; probation = to_front c s.probation; protected = s.protected; sketch = s.sketch }

-- "TinyLFU decides whether it is worth admitting the new item at the expense of the victim": the candidate comes in where it was used
-- more often, and the victim leaves; else the candidate does
abbrev pub contested : TinyLfuRooms → Key → Option Key → WTinyLfuState → WTinyLfuState
contested r c None s = s
contested r c (Some v) s = cond (nat_lt (estimate r.width v s.sketch.counts) (estimate r.width c s.sketch.counts)) (let_in c (victim_out s)) s

-- a page that left the window is a candidate for the main cache
abbrev pub admitted : TinyLfuRooms → Option Key → WTinyLfuState → WTinyLfuState
admitted r None s = s
admitted r (Some c) s = cond (nat_lt (length s.probation + length s.protected) r.main) (let_in c s) (contested r c (victim s) s)

-- "the victim of the window is the candidate"
abbrev pub window_cut : TinyLfuRooms → WTinyLfuState → WTinyLfuState
window_cut r s = cond (nat_lt r.window (length s.window))
    (admitted r (last_of s.window) (record { window = but_last s.window; probation = s.probation; protected = s.protected; sketch = s.sketch }))
    s

-- a miss: "any new item goes to the window"
abbrev pub brought : TinyLfuRooms → Key → WTinyLfuState → WTinyLfuState
brought r p s = window_cut r (window_used p s)

abbrev pub in_w_tiny_lfu : Key → WTinyLfuState → Bool
in_w_tiny_lfu p s = cond (holds p s.protected) true (cond (holds p s.window) true (holds p s.probation))

-- each use is counted first
abbrev pub noted : TinyLfuRooms → Key → WTinyLfuState → WTinyLfuState
noted r p s = record { window = s.window; probation = s.probation; protected = s.protected; sketch = counted r.width r.sample p s.sketch }

abbrev pub w_tiny_lfu : TinyLfuRooms → Key → WTinyLfuState → WTinyLfuState
w_tiny_lfu r p s = cond (in_w_tiny_lfu p s) (used r p (noted r p s)) (brought r p (noted r p s))

-- no page, and four rows of counts
abbrev pub opening : TinyLfuRooms → WTinyLfuState
opening r = record { window = []; probation = []; protected = []; sketch = record { counts = replicate (4 * r.width) 0; added = 0 } }

unfoldable pub w_tiny_lfu_misses : TinyLfuShares → ℕ → List Key → ℕ
w_tiny_lfu_misses shares m string = misses in_w_tiny_lfu (w_tiny_lfu (rooms_of shares m)) (opening (rooms_of shares m)) string

-- the counter and its sketch as this definition sees them
abbrev pub sketch_of : Sketch → SketchState
sketch_of s = record { counts = s.counts.items; added = s.added }

abbrev pub lists_of : WTinyLfu → WTinyLfuState
lists_of s = record { window = s.window; probation = s.probation; protected = s.protected; sketch = sketch_of s.sketch }

-- where it is in a frame it is used
abbrev pub touched : TinyLfuRooms → Key → WTinyLfuState → WTinyLfuState
touched r p s = cond (in_w_tiny_lfu p s) (used r p s) s
