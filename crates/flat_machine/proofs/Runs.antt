-- Runs one after another, and where a run by turns stops.
use Rattle.std.proofs.Common.{◌≡◌, ℕ, zero, suc, ◌+◌, ◌<◌, ◌≤◌, List, [], ◌∷◌, ◌++◌, length, take, drop, replicate, slice_index, slice_index_or, Some, arith, refl, sym, ap, ◌∙◌, subst, take-append-drop, drop-cons, append-nil, length-append, add-one}
use Rattle.std.proofs.lemmas.List.{length-replicate, get_or_append_left, get_or-append-add, get_or-replicate, take-append-le, take_more}
use Rattle.std.proofs.lemmas.Grind.{flat_map-append}
use Rattle.std.proofs.Math.Seq.{take-append-add}
use Rattle.flat_machine.specs.declared.schedule.Turn.{Turn}
use Rattle.flat_machine.specs.declared.stepping.StepRefusal.{StepRefusal}
use Rattle.flat_machine.specs.Schedule.{written_out}
use Rattle.flat_machine.specs.Process.{Process, flat_run}
use Rattle.flat_machine.proofs.RunLaws.{flat_run_append}
use Rattle.flat_machine.specs.Refusals.{RefusesStep, StopsAt}

written_more : (turns : List Turn) (i : ℕ) (t : Turn) → i < length turns → t ≡ slice_index_or turns i t → written_out (take (i + 1) turns) ≡ written_out (take i turns) ++ replicate t.count t.hart
written_more turns i t within at =
    ap written_out (take_more turns i t within)
    ∙ flat_map-append (λ (turn : Turn). replicate turn.count turn.hart) (take i turns) (slice_index_or turns i t ∷ [])
    ∙ ap (λ (turn : Turn). written_out (take i turns) ++ (replicate turn.count turn.hart ++ [])) (sym at)
    ∙ ap (λ l. written_out (take i turns) ++ l) (append-nil (replicate t.count t.hart))

take_replicated : (n k hart : ℕ) → k ≤ n → take k (replicate n hart) ≡ replicate k hart
take_replicated n zero hart h = refl
take_replicated zero (suc k) hart h = absurd (omega arith)
take_replicated (suc n) (suc k) hart h = ap (λ l. hart ∷ l) (take_replicated n k hart (omega arith))

-- one more turn
pub one_more_turn : (turns : List Turn) (i : ℕ) (t : Turn) (before between after : Process) → i < length turns → t ≡ slice_index_or turns i t
    → flat_run (written_out (take i turns)) before ≡ Some between → flat_run (replicate t.count t.hart) between ≡ Some after
    → flat_run (written_out (take (i + 1) turns)) before ≡ Some after
one_more_turn turns i t before between after within at ran more =
    ap (λ l. flat_run l before) (written_more turns i t within at) ∙ flat_run_append (written_out (take i turns)) (replicate t.count t.hart) before between ran ∙ more

-- a run stops within a turn
pub stops_within : (xs zs : List ℕ) (hart n k before_steps : ℕ) (refusal : StepRefusal) (before between after : Process) → k < n → before_steps ≡ length xs
    → flat_run xs before ≡ Some between → flat_run (replicate k hart) between ≡ Some after → RefusesStep refusal hart after
    → StopsAt (xs ++ (replicate n hart ++ zs)) before refusal (before_steps + k) after
stops_within xs zs hart n k before_steps refusal before between after h count ran more refused =
    let front : length (replicate n hart) ≡ n = length-replicate n hart in
    let cut : take (before_steps + k) (xs ++ (replicate n hart ++ zs)) ≡ xs ++ replicate k hart =
    ap (λ b. take (b + k) (xs ++ (replicate n hart ++ zs))) count
    ∙ take-append-add xs (replicate n hart ++ zs) k
    ∙ ap (λ l. xs ++ l) (take-append-le k (replicate n hart) zs (omega arith) ∙ take_replicated n k hart (omega arith)) in
    let at : slice_index (xs ++ (replicate n hart ++ zs)) (before_steps + k) ≡ hart =
    ap (λ b. slice_index (xs ++ (replicate n hart ++ zs)) (b + k)) count
    ∙ get_or-append-add xs (replicate n hart ++ zs) k 0
    ∙ get_or_append_left (replicate n hart) zs 0 k (omega arith)
    ∙ get_or-replicate n k hart 0 h in
    record {
      there = omega (arith, length-append xs (replicate n hart ++ zs), length-append (replicate n hart) zs);
      ran = ap (λ l. flat_run l before) cut ∙ flat_run_append xs (replicate k hart) before between ran ∙ more;
      refused = subst (λ x. RefusesStep refusal x after) (sym at) refused;
    }

-- the turns before one, that one, and those behind it
pub turns_split : (turns : List Turn) (i : ℕ) (t : Turn) → i < length turns → t ≡ slice_index_or turns i t
    → written_out turns ≡ written_out (take i turns) ++ (replicate t.count t.hart ++ written_out (drop (i + 1) turns))
turns_split turns i t within at =
    ap written_out (sym (take-append-drop i turns))
    ∙ flat_map-append (λ (turn : Turn). replicate turn.count turn.hart) (take i turns) (drop i turns)
    ∙ ap (λ l. written_out (take i turns) ++ written_out l) (drop-cons turns i t within)
    ∙ ap (λ (turn : Turn). written_out (take i turns) ++ (replicate turn.count turn.hart ++ written_out (drop (suc i) turns))) (sym at)
    ∙ ap (λ k. written_out (take i turns) ++ (replicate t.count t.hart ++ written_out (drop k turns))) (sym (add-one i))

-- as many instructions as turns have
pub length_more : (turns : List Turn) (i : ℕ) (t : Turn) → i < length turns → t ≡ slice_index_or turns i t → length (written_out (take (i + 1) turns)) ≡ length (written_out (take i turns)) + t.count
length_more turns i t within at =
    let size = length-replicate t.count t.hart in
    let more = ap length (written_more turns i t within at) in
    omega (arith, length-append (written_out (take i turns)) (replicate t.count t.hart))
