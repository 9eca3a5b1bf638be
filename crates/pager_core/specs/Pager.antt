-- The frames that are free and the replacement list, together: what each call of the pager does to both.
use Rattle.std.specs.Prelude.{ℕ, ◌+◌, ◌-◌, ◌^◌, ◌||◌, Bool, true, false, not, min, List, [], ◌∷◌, Option, Some, None, Result, Ok, Err, is_ok, if◌then◌else◌}
use Rattle.frame_pool.specs.FrameValue.{FrameValue}
use Rattle.frame_pool.specs.FramePoolValue.{full_pool}
use Rattle.clock_policy.specs.declared.key.Key.{Key}
use Rattle.clock_policy.specs.declared.entry.EntryKind.{EntryKind}
use Rattle.clock_policy.specs.declared.answer.Bit.{Bit}
use Rattle.clock_policy.specs.declared.answer.Verdict.{Verdict}
use Rattle.clock_policy.specs.declared.answer.Verdict.TheVariants.{GoOn, Victim}
use Rattle.clock_policy.specs.declared.refusal.Refusal.{Refusal}
use Rattle.clock_policy.specs.ClockPro.{ClockState, opening_state, kind_of, is_shadow, is_full, answered, admitted, restored}
use Rattle.pager_core.specs.declared.counts.Tallies.{Tallies}
use Rattle.pager_core.specs.declared.refusal.AdmitRefusal.{AdmitRefusal}
use Rattle.pager_core.specs.declared.refusal.AdmitRefusal.TheVariants.{AlreadyResident, NoFrame}

pub record PagerState : Type 0 where
  -- the frames that are free, and of how many the pager was made
  pub free : List FrameValue
  pub size : ℕ
  pub list : ClockState
  pub tallies : Tallies

-- a count and one more, which stays at the largest number that it can have
unfoldable pub tallied : ℕ → ℕ
tallied count = min (count + 1) (2 ^ 64 - 1)

abbrev pub nothing_tallied : Tallies
nothing_tallied = record { page_ins = 0; victims = 0; questions = 0 }

-- every frame is free, and the list has no page
abbrev pub full_pager : ℕ → PagerState
full_pager size = record { free = (full_pool size).free; size = size; list = opening_state size; tallies = nothing_tallied }

-- ---- a page comes in

-- whether what the list knows of a page is that it is resident
abbrev pub resident_kind : Option EntryKind → Bool
resident_kind None = false
resident_kind (Some kind) = not (is_shadow kind)

abbrev pub is_listed_resident : Key → ClockState → Bool
is_listed_resident key list = resident_kind (kind_of key list.entries)

abbrev pub none_free : List FrameValue → Bool
none_free [] = true
none_free (frame ∷ frames) = false

-- no frame is free, or the list has as many resident pages as there are frames
abbrev pub has_no_frame : PagerState → Bool
has_no_frame pager = none_free pager.free || is_full pager.list

-- why a page is not admitted, want of memory aside
unfoldable pub admission_refused : Key → PagerState → Option AdmitRefusal
admission_refused key pager =
    if is_listed_resident key pager.list then Some AlreadyResident else (if has_no_frame pager then Some NoFrame else None)

-- a page is admitted, with these frames left
unfoldable pub admitted_with : Key → List FrameValue → PagerState → PagerState
admitted_with key left pager = record pager {
  free = left;
  list = (admitted key pager.list).0;
  tallies = record pager.tallies { page_ins = tallied pager.tallies.page_ins };
}

-- ---- a question is answered

abbrev pub verdict_tallied : Result Verdict Refusal → Tallies → Tallies
verdict_tallied (Ok GoOn) tallies = record tallies { questions = tallied tallies.questions }
verdict_tallied (Ok (Victim key)) tallies =
    record tallies { questions = tallied tallies.questions; victims = tallied tallies.victims }
verdict_tallied (Err refusal) tallies = tallies

unfoldable pub pager_answered : Bit → PagerState → PagerState
pager_answered bit pager = record pager {
  list = (answered bit pager.list).0;
  tallies = verdict_tallied (answered bit pager.list).1 pager.tallies;
}

-- ---- what else happens to the list

-- whether the list takes a page back that could not leave its frame: it is not resident, and not each frame has its page
unfoldable pub takes_back : Key → ClockState → Bool
takes_back key list = is_ok (restored key list).1

abbrev pub with_list : ClockState → PagerState → PagerState
with_list list pager = record pager { list = list }
