-- What is told when one line or record after another is read.
use Rattle.std.proofs.Common.{◌≡◌, ◌∙◌, ℕ, true, false, List, [], ◌∷◌, Option, None, Some, Result, Ok, Err, IfSome, ap, subst, sym}
use Rattle.std.specs.Option.{option_map}
use Rattle.guest_strings.specs.declared.reference.Reference.{Reference}
use Rattle.trace_files.specs.References.{Flaw, Trace, Ends, Breaks, Gives}
use Rattle.trace_files.specs.ReferenceAnswers.{BreaksBy, IsOver, Passes, TakesPiece, Tells}
use Rattle.trace_files.specs.declared.fault.TraceFault.{TraceFault}

-- a piece that was taken, of bytes that are told piece by piece
module _ (cut : List ℕ → List (List ℕ)) (before after : List (List ℕ) → Trace) where
  pub piece_passed : (piece : List ℕ) (front : Trace → Trace) (known rest : Option (List ℕ)) → TakesPiece cut true piece known rest → ((pieces : List (List ℕ)) → before (piece ∷ pieces) ≡ front (after pieces))
      → Passes front (option_map (λ bytes. before (cut bytes)) known) (option_map (λ bytes. after (cut bytes)) rest)
  piece_passed piece front None rest taken step = tt
  piece_passed piece front (Some bytes) None taken step = elim taken [ ]
  piece_passed piece front (Some bytes) (Some others) taken step = ap before taken ∙ step (cut others)

  pub piece_breaks : (piece : List ℕ) (flaw : Flaw) (fault : TraceFault) (known rest : Option (List ℕ)) → TakesPiece cut true piece known rest → ((pieces : List (List ℕ)) → before (piece ∷ pieces) ≡ Breaks flaw) → BreaksBy fault (Breaks flaw)
      → IfSome (option_map (λ bytes. before (cut bytes)) known) (BreaksBy fault)
  piece_breaks piece flaw fault None rest taken step breaks = tt
  piece_breaks piece flaw fault (Some bytes) None taken step breaks = elim taken [ ]
  piece_breaks piece flaw fault (Some bytes) (Some others) taken step breaks = subst (BreaksBy fault) (sym (ap before taken ∙ step (cut others))) breaks

  pub pieces_over : (piece : List ℕ) (known rest : Option (List ℕ)) → TakesPiece cut false piece known rest → before [] ≡ Ends → after [] ≡ Ends
      → IsOver (option_map (λ bytes. before (cut bytes)) known) (option_map (λ bytes. after (cut bytes)) rest)
  pieces_over piece None rest taken ends end = tt
  pieces_over piece (Some bytes) None taken ends end = elim taken [ ]
  pieces_over piece (Some bytes) (Some others) taken ends end = (ap before taken.0 ∙ ends, ap after taken.1 ∙ end)

pub passed_on : (front later : Trace → Trace) (first second third : Option Trace) → Passes front first second → Passes later second third → Passes (λ (rest : Trace). front (later rest)) first third
passed_on front later None second third p q = tt
passed_on front later (Some first) None third p q = elim p [ ]
passed_on front later (Some first) (Some second) None p q = elim q [ ]
passed_on front later (Some first) (Some second) (Some third) p q = p ∙ ap front q

over_later : (first second third : Option Trace) → Passes (λ (rest : Trace). rest) first second → IsOver second third → IsOver first third
over_later None second third p q = tt
over_later (Some first) None third p q = elim p [ ]
over_later (Some first) (Some second) None p q = elim q [ ]
over_later (Some first) (Some second) (Some third) p q = (p ∙ q.0, q.1)

pub breaks_later : (fault : TraceFault) (first second : Option Trace) → Passes (λ (rest : Trace). rest) first second → IfSome second (BreaksBy fault) → IfSome first (BreaksBy fault)
breaks_later fault None second p q = tt
breaks_later fault (Some first) None p q = elim p [ ]
breaks_later fault (Some first) (Some second) p q = subst (BreaksBy fault) (sym p) q

pub told_later : {A : Type 0} → (gives : A → Trace → Trace) (result : Result (Option A) TraceFault) (first second third : Option Trace) → Passes (λ (rest : Trace). rest) first second → Tells gives result second third
    → Tells gives result first third
told_later gives (Ok (Some answer)) first second third p q = passed_on (λ (rest : Trace). rest) (gives answer) first second third p q
told_later gives (Ok None) first second third p q = over_later first second third p q
told_later gives (Err fault) first second third p q = breaks_later fault first second p q

-- an answer that is none tells of the end
pub over_at_none : (answer : Option Reference) (trace rest : Option Trace) → answer ≡ None → Tells Gives (Ok answer) trace rest → IsOver trace rest
over_at_none None trace rest e told = told
over_at_none (Some reference) trace rest e told = cc
