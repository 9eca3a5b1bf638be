-- The last place before at which a run stops.
use Rattle.std.proofs.Common.{◌≡◌, ℕ, zero, suc, refl, sym, ◌+◌, ◌-◌, ◌<◌, ◌≤◌, Bool, true, false, Option, Some, None, IfSome, ap, ◌∙◌, arith}
use Rattle.std.specs.Prelude.{nat_le, if◌then◌else◌}
use Rattle.run_paths.specs.declared.searching.Met.{Met}
use Rattle.run_paths.specs.Meeting.{LastMet}
use Rattle.debug_core.specs.declared.point.Why.{Why}
use Rattle.guest_history.specs.declared.history.Looked.TheVariants as looked
use Rattle.guest_history.specs.declared.history.History.{History}
use Rattle.guest_history.specs.Histories.{ends_look, not_below, stops_at, StopsBefore, StopsWithin}

pub stops_there : (old new : History) (met : Met) → LastMet (stops_at old) 0 old.done (Some met) → new.done ≡ met.steps → StopsBefore old (Some met.why) new
stops_there old new met last is =
    let before = last.0 in
    (omega (arith, before, is), (ap (stops_at old) is ∙ last.1.0, λ i above h. last.1.1 i (omega (arith, above, is)) h))

pub stops_nowhere : (old new : History) → LastMet (stops_at old) 0 old.done None → new.done ≡ 0 → StopsBefore old None new
stops_nowhere old new last is = (is, λ i h. by_place i h)
  where
    by_place : (i : ℕ) → i < old.done → stops_at old i ≡ None
    by_place zero h = refl
    by_place (suc n) h = last (suc n) (omega arith) h

-- nothing was met behind so many steps
abbrev pub IsClear : History → ℕ → Type 0
IsClear old end = (i : ℕ) → end ≤ i → i < old.done → stops_at old i ≡ None

-- ---- no further than so many steps back

pub low_met : (stops : ℕ → Option Why) (low high : ℕ) (met : Option Met) → LastMet stops (low - 1) high met → LastMet stops (low - 1) high (not_below low met)
low_met stops low high None last = last
low_met stops low high (Some met) last = by_place (nat_le low met.steps) refl
  where
    by_place : (b : Bool) → nat_le low met.steps ≡ b → LastMet stops (low - 1) high (if b then Some met else None)
    by_place true is = last
    by_place false is = λ i above h. last.1.1 i (grind (arith, is, above)) h

pub low_above : (low : ℕ) (met : Option Met) → IfSome (not_below low met) (λ it. low ≤ it.steps)
low_above low None = tt
low_above low (Some met) = by_place (nat_le low met.steps) refl
  where
    by_place : (b : Bool) → nat_le low met.steps ≡ b → IfSome (if b then Some met else None) (λ it. low ≤ it.steps)
    by_place true is = grind (arith, is)
    by_place false is = tt

pub stops_within : (old new : History) (met : Met) (count low : ℕ) → LastMet (stops_at old) (low - 1) old.done (Some met) → low ≤ met.steps → low ≡ old.done - count → new.done ≡ met.steps → StopsWithin count old (looked.Met met.why) new
stops_within old new met count low last above low_is is =
    let before = last.0 in
    (omega (arith, above, low_is, is), (omega (arith, before, is), (ap (stops_at old) is ∙ last.1.0, λ i past h. last.1.1 i (omega (arith, past, is)) h)))

pub none_within : (old new : History) (count low : ℕ) → LastMet (stops_at old) (low - 1) old.done None → low ≡ old.done - count → new.done ≡ low → StopsWithin count old (ends_look low) new
none_within old new count zero last low_is is = (omega (arith, low_is), (is, λ i h. by_place i h))
  where
    by_place : (i : ℕ) → i < old.done → stops_at old i ≡ None
    by_place zero h = refl
    by_place (suc n) h = last (suc n) (omega arith) h
none_within old new count (suc n) last low_is is =
    (omega (arith, is), (omega (arith, low_is, is), λ i above h. last i (omega (arith, above, is)) h))
