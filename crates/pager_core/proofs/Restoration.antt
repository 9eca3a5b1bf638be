-- Whether the list takes a page back, by what it knows of the page and whether it is full.
use Rattle.std.specs.Prelude.{◌≡◌, Bool, true, false, not, Option, Some, None, is_ok, refl}
use Rattle.clock_policy.specs.declared.key.Key.{Key}
use Rattle.clock_policy.specs.declared.entry.EntryKind.{EntryKind}
use Rattle.clock_policy.specs.declared.entry.EntryKind.TheVariants.{Hot, Test, Cold, Shadow}
use Rattle.clock_policy.specs.ClockPro.{ClockState, kind_of, is_full, restored}
use Rattle.pager_core.specs.Pager.{takes_back}

by_fullness : (key : Key) (s : ClockState) (full : Bool) → kind_of key s.entries ≡ None → is_full s ≡ full → is_ok (restored key s).1 ≡ not full
unfolding restored
by_fullness key s true known whole = rw (known, whole) refl
by_fullness key s false known whole = rw (known, whole) refl

by_shadow : (key : Key) (s : ClockState) (full : Bool) → kind_of key s.entries ≡ Some Shadow → is_full s ≡ full → is_ok (restored key s).1 ≡ not full
unfolding restored
by_shadow key s true known whole = rw (known, whole) refl
by_shadow key s false known whole = rw (known, whole) refl

pub unknown_back : (key : Key) (s : ClockState) → kind_of key s.entries ≡ None → takes_back key s ≡ not (is_full s)
unfolding takes_back
unknown_back key s known = by_fullness key s (is_full s) known refl

pub shadow_back : (key : Key) (s : ClockState) → kind_of key s.entries ≡ Some Shadow → takes_back key s ≡ not (is_full s)
unfolding takes_back
shadow_back key s known = by_shadow key s (is_full s) known refl

pub hot_stays : (key : Key) (s : ClockState) → kind_of key s.entries ≡ Some Hot → takes_back key s ≡ false
unfolding takes_back restored
hot_stays key s known = rw known refl

pub test_stays : (key : Key) (s : ClockState) → kind_of key s.entries ≡ Some Test → takes_back key s ≡ false
unfolding takes_back restored
test_stays key s known = rw known refl

pub cold_stays : (key : Key) (s : ClockState) → kind_of key s.entries ≡ Some Cold → takes_back key s ≡ false
unfolding takes_back restored
cold_stays key s known = rw known refl

pub ruleset restorations = (unknown_back, shadow_back, hot_stays, test_stays, cold_stays)
