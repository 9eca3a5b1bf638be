-- Where slots are honest, a process that goes on has a live hart.
use Rattle.std.proofs.Common.{◌≡◌, ℕ, ◌<◌, ◌≤◌, ◌&&◌, Bool, true, false, List, length, Option, Some, None, IsSome, slice_get, inl, inr, refl, arith}
use Rattle.std.specs.Prelude.{slice_index_or}
use Rattle.env_calls.specs.Environment.{any_live, next_live}
use Rattle.env_calls.proofs.LiveLaws.{next_is_live, next_is_some}
use Rattle.flat_machine.specs.Schedule.{written_out}
use Rattle.flat_machine.proofs.StepLaws.{marked_within}
use Rattle.machine_core.specs.Coherent.{EachCoherent}
use Rattle.machine_core.specs.Machine.{CoreValue}
use Rattle.machine_core.specs.Reading.{is_live_in}
use Rattle.space_core.specs.StandsFor.{SpaceValue, flat_with}
use Rattle.serial_driver.specs.Closing.{goes_on}
use Rattle.serial_driver.specs.Rounds.{IsFirst, IsNextProcess, NoneAbove}
use Rattle.serial_driver.proofs.WholeLaws.{whole_from_opening}

which : (o : Option ℕ) → IsSome o → (n : ℕ) × (o ≡ Some n)
which None some = cc
which (Some n) some = (n, refl)

-- of few marks with some live hart, one below their bound is live
live_one : (live : List Bool) → any_live live ≡ true → length live ≤ 8 → (hart : ℕ) × ((hart < 8) × (slice_index_or live hart false ≡ true))
live_one live some few =
    let next = which (next_live 0 live) (next_is_some 0 live some) in
    let lives = next_is_live 0 live next.0 next.1 in
    let within = marked_within live next.0 lives in
    (next.0, (omega (arith, within, few), lives))

both_hold : (a b : Bool) → a ≡ true → b ≡ true → a && b ≡ false → ⊥
both_hold true true h k n = cc
both_hold true false h k n = cc
both_hold false b h k n = cc

module _ {S : Type 0} (held : S → List ℕ) (honest : Type 0) where
  has_one : (core : CoreValue S) (process : ℕ) (found : Option (SpaceValue S)) → slice_get core.processes process ≡ found → EachCoherent held honest core.processes → goes_on found ≡ true
      → ((hart : ℕ) → hart < 8 → goes_on found && is_live_in found hart ≡ false) → honest → ⊥
  unfolding EachCoherent
  has_one core process None is coherent goes none is_honest = cc
  has_one core process (Some side) is coherent goes none is_honest =
      let stands = (coherent process side is).stands is_honest in
      let whole = whole_from_opening side.image side.input (written_out side.schedule) (flat_with side.running stands.memory) stands.ran in
      let lives = live_one side.running.environment.live whole.some whole.few in
      both_hold (goes_on (Some side)) (is_live_in (Some side) lives.0) goes lives.1.1 (none lives.0 lives.1.0)

  -- so only where they are not may the first hart be taken for want of a live one
  pub first_of_none : (core : CoreValue S) (process hart : ℕ) → EachCoherent held honest core.processes → goes_on (slice_get core.processes process) ≡ true → NoneAbove core process None → hart ≡ 0
      → IsFirst honest core process hart
  first_of_none core process hart coherent goes none is =
      inr (has_one core process (slice_get core.processes process) refl coherent goes (λ h small. none h small (tt {0})), (is, none))

-- the next process that goes on does so
pub next_goes : {S : Type 0} (core : CoreValue S) (last next : ℕ) → IsNextProcess core last next → goes_on (slice_get core.processes next) ≡ true
next_goes core last next is = elim is [ inl above ↦ above.1.goes | inr around ↦ around.1.goes ]
