-- Lines that are turns, one after another.
use Rattle.std.proofs.Common.{◌≡◌, ℕ, List, [], ◌∷◌, ◌++◌, Some, None, refl, sym, ap, ◌∙◌, append_assoc}
use Rattle.flat_machine.specs.declared.schedule.Turn.{Turn}
use Rattle.run_records.specs.RecordLines.{turn_of}
use Rattle.run_records.specs.Records.{turns_of, behind_turns}

-- the turns that were read, and those of the lines that are left
pub record ReadsTurns (whole : List (List ℕ)) (read : List Turn) (left : List (List ℕ)) : Type 0 where
  pub turns : read ++ turns_of left ≡ turns_of whole
  pub rest : behind_turns left ≡ behind_turns whole

pub nothing_read : (whole : List (List ℕ)) → ReadsTurns whole [] whole
nothing_read whole = record { turns = refl; rest = refl }

pub one_read : (whole : List (List ℕ)) (read : List Turn) (left later : List (List ℕ)) (line : List ℕ) (turn : Turn) → left ≡ line ∷ later → turn_of line ≡ Some turn → ReadsTurns whole read left
    → ReadsTurns whole (read ++ turn ∷ []) later
unfolding turns_of behind_turns
one_read whole read left later line turn is told before =
    let first : turns_of left ≡ turn ∷ turns_of later = rw is (rw told refl) in
    let behind : behind_turns left ≡ behind_turns later = rw is (rw told refl) in
    record {
      turns = append_assoc read (turn ∷ []) (turns_of later) ∙ ap (λ (l : List Turn). read ++ l) (sym first) ∙ before.turns;
      rest = sym behind ∙ before.rest;
    }

without_more : (turns : List Turn) → turns ++ [] ≡ turns
without_more [] = refl
without_more (turn ∷ turns) = ap (λ (l : List Turn). turn ∷ l) (without_more turns)

pub no_turn : (whole : List (List ℕ)) (read : List Turn) (left later : List (List ℕ)) (line : List ℕ) → left ≡ line ∷ later → turn_of line ≡ None → ReadsTurns whole read left
    → (read ≡ turns_of whole) × (left ≡ behind_turns whole)
unfolding turns_of behind_turns
no_turn whole read left later line is none before =
    let turns : turns_of left ≡ [] = rw is (rw none refl) in
    let behind : behind_turns left ≡ left = rw is (rw none refl) in
    (sym (without_more read) ∙ ap (λ (l : List Turn). read ++ l) (sym turns) ∙ before.turns, sym behind ∙ before.rest)

pub no_line : (whole : List (List ℕ)) (read : List Turn) (left : List (List ℕ)) → left ≡ [] → ReadsTurns whole read left → (read ≡ turns_of whole) × (left ≡ behind_turns whole)
unfolding turns_of behind_turns
no_line whole read left is before =
    let turns : turns_of left ≡ [] = rw is refl in
    let behind : behind_turns left ≡ left = rw is refl in
    (sym (without_more read) ∙ ap (λ (l : List Turn). read ++ l) (sym turns) ∙ before.turns, sym behind ∙ before.rest)
