-- The first page is admitted by the definition.
use Rattle.std.specs.Prelude.{◌≡◌, ◌+◌, Bool, true, false, ◌==◌, None, IsOk, refl}
use Rattle.std.proofs.Common.{arith, sym, ap, subst}
use Rattle.std.proofs.lemmas.Bool.Decides.{nat_tests}
use Rattle.clock_policy.specs.declared.key.Key.{Key}
use Rattle.clock_policy.specs.ClockPro.{ClockState, kind_of, is_full, kind_admitted, new_admitted, admitted, hot_count, cold_count}
use Rattle.clock_policy.specs.Bound.{NothingResident}
use Rattle.clock_policy.specs.Lawful.{Lawful}

-- where no page is resident not each frame has its page
not_full : (s : ClockState) → Lawful s → NothingResident s → is_full s ≡ false
not_full s lawful none = let least = lawful.least in grind (arith, nat_tests)

pub first_admitted : (k : Key) (s : ClockState) → Lawful s → NothingResident s → kind_of k s.entries ≡ None → IsOk (admitted k s).1
unfolding admitted
first_admitted k s lawful none unknown = rw unknown (rw (not_full s lawful none) refl)
