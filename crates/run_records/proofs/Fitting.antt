-- Turns of a schedule, read one after another.
use Rattle.std.proofs.Common.{◌≡◌, ℕ, zero, suc, ◌+◌, ◌-◌, ◌^◌, ◌<◌, ◌≤◌, List, [], ◌∷◌, length, slice_index_or, refl, sym, ap, subst, arith}
use Rattle.flat_machine.specs.Schedule.{IsJoined}
use Rattle.flat_machine.specs.declared.schedule.Turn.{Turn}
use Rattle.run_records.specs.Fitting.{AreTurns, IsTurn}

abbrev pub AreHarts : List Turn → ℕ → Type 0
AreHarts turns n = (k : ℕ) (d : Turn) → k < n → (slice_index_or turns k d).hart < 4294967296

first_fits : (turn : Turn) (turns : List Turn) → AreHarts (turn ∷ turns) (length (turn ∷ turns)) → IsJoined (turn ∷ turns) → IsTurn turn
first_fits turn turns harts joined = record {
  hart = harts 0 turn (omega arith);
  some = joined.some 0 turn (omega arith);
  few = (let small = joined.small 0 turn (omega arith) in omega (arith, small));
}

behind : (turn : Turn) (turns : List Turn) → IsJoined (turn ∷ turns) → IsJoined turns
behind turn turns joined = record {
  few = let few = joined.few in omega (arith, few);
  small = λ k d within. joined.small (suc k) d (omega (arith, within));
  some = λ k d within. joined.some (suc k) d (omega (arith, within));
  joined = λ k d within same.
      let next : suc (k + 1) ≡ suc k + 1 = omega arith in
      joined.joined (suc k) d (omega (arith, within)) (subst (λ n. (slice_index_or turns k d).hart ≡ (slice_index_or (turn ∷ turns) n d).hart) next same);
}

pub turns_fit : (turns : List Turn) → AreHarts turns (length turns) → IsJoined turns → AreTurns turns
turns_fit [] harts joined = tt
turns_fit (turn ∷ turns) harts joined =
    (first_fits turn turns harts joined, turns_fit turns (λ k d within. harts (suc k) d (omega (arith, within))) (behind turn turns joined))
