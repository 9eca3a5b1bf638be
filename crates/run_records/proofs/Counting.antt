-- The steps of turns, one turn after another.
use Rattle.std.proofs.Common.{◌≡◌, ℕ, ◌+◌, ◌<◌, ◌≤◌, ◌==◌, Bool, true, false, List, [], ◌∷◌, ◌++◌, length, take, drop, replicate, slice_index_or, refl, sym, ap, ◌∙◌, arith, append-nil, take-append-drop, length-append}
use Rattle.std.proofs.lemmas.Bool.Decides.{Decides-eqb}
use Rattle.std.proofs.lemmas.List.{length-replicate, take_more}
use Rattle.std.proofs.lemmas.Grind.{flat_map-append}
use Rattle.flat_machine.specs.declared.schedule.Turn.{Turn}
use Rattle.flat_machine.specs.Schedule.{written_out, room, IsJoined}
use Rattle.run_records.specs.Replaying.{TakesNoMore}

written_more : (turns : List Turn) (i : ℕ) (t : Turn) → i < length turns → t ≡ slice_index_or turns i t → written_out (take (i + 1) turns) ≡ written_out (take i turns) ++ replicate t.count t.hart
written_more turns i t within at =
    ap written_out (take_more turns i t within)
    ∙ flat_map-append (λ (turn : Turn). replicate turn.count turn.hart) (take i turns) (slice_index_or turns i t ∷ [])
    ∙ ap (λ (turn : Turn). written_out (take i turns) ++ (replicate turn.count turn.hart ++ [])) (sym at)
    ∙ ap (λ l. written_out (take i turns) ++ l) (append-nil (replicate t.count t.hart))

count_more : (turns : List Turn) (i : ℕ) (t : Turn) → i < length turns → t ≡ slice_index_or turns i t → length (written_out (take (i + 1) turns)) ≡ length (written_out (take i turns)) + t.count
count_more turns i t within at =
    ap length (written_more turns i t within at) ∙ length-append (written_out (take i turns)) (replicate t.count t.hart) ∙ ap (λ n. length (written_out (take i turns)) + n) (length-replicate t.count t.hart)

-- fewer turns are no more steps
no_more : (turns : List Turn) (i : ℕ) → length (written_out (take i turns)) ≤ length (written_out turns)
no_more turns i =
    let split : written_out turns ≡ written_out (take i turns) ++ written_out (drop i turns) =
    ap written_out (sym (take-append-drop i turns)) ∙ flat_map-append (λ (turn : Turn). replicate turn.count turn.hart) (take i turns) (drop i turns) in
    let long : length (written_out turns) ≡ length (written_out (take i turns)) + length (written_out (drop i turns)) =
    ap length split ∙ length-append (written_out (take i turns)) (written_out (drop i turns)) in
    omega (arith, long)

pub one_more_counted : (turns : List Turn) (i : ℕ) (t : Turn) (left fewer steps : ℕ) → i < length turns → t ≡ slice_index_or turns i t → left + length (written_out (take i turns)) ≡ steps → fewer + t.count ≡ left
    → fewer + length (written_out (take (i + 1) turns)) ≡ steps
one_more_counted turns i t left fewer steps within at before e = omega (arith, count_more turns i t within at, before, e)

differs : (a b : ℕ) (r : Bool) → (a == b) ≡ r → b < a → false ≡ r
differs a b false e h = refl
differs a b true e h = let same : a ≡ b = (Decides-eqb a b).0 e in absurd (omega (arith, same, h))

pub too_many : (turns : List Turn) (i : ℕ) (t : Turn) (left steps : ℕ) → i < length turns → t ≡ slice_index_or turns i t → left + length (written_out (take i turns)) ≡ steps → left < t.count
    → false ≡ (length (written_out turns) == steps)
too_many turns i t left steps within at before e =
    differs (length (written_out turns)) steps _ refl (omega (arith, count_more turns i t within at, no_more turns (i + 1), before, e))

pub one_more_recorded : (turns : List Turn) (i : ℕ) (t : Turn) (old new : List Turn) → i < length turns → t ≡ slice_index_or turns i t → written_out old ≡ written_out (take i turns)
    → written_out new ≡ written_out old ++ replicate t.count t.hart → written_out new ≡ written_out (take (i + 1) turns)
one_more_recorded turns i t old new within at before e =
    e ∙ ap (λ (l : List ℕ). l ++ replicate t.count t.hart) before ∙ sym (written_more turns i t within at)

pub takes_no_more : (turns : List Turn) (i : ℕ) (t : Turn) (schedule : List Turn) → i < length turns → t ≡ slice_index_or turns i t → IsJoined schedule → written_out schedule ≡ written_out (take i turns)
    → room schedule t.hart < t.count → TakesNoMore turns
takes_no_more turns i t schedule within at joined same full = record { before = i; next = t; schedule = schedule; joined = joined; there = within; is_next = at; same = same; full = full }
