-- Processes are reported one after another.
use Rattle.std.proofs.Common.{◌≡◌, ℕ, zero, suc, ◌<◌, ◌≤◌, ◌++◌, ◌&&◌, [], ◌∷◌, Bool, true, false, List, Vec, length, map, Some, slice_get, refl, sym, ap, ◌∙◌, subst, get_or, ⊎_elim, arith, length-append, eq-or-lt_of_le}
use Rattle.std.proofs.lemmas.List.{length-map}
use Rattle.std.proofs.lemmas.Option.{slice_get_within, slice_get_read}
use Rattle.elf_image.specs.Image.{ImageContent}
use Rattle.elf_image.specs.Start.{Start, start_of}
use Rattle.hart_carriers.specs.FlatLines.{StandsForRuns, counts_of}
use Rattle.hart_carriers.specs.Telling.{Adds, ToldSoFar}
use Rattle.hart_carriers.specs.declared.lines.Told as so
use Rattle.machine_sides.specs.FlatLines.{HasLine, StandsForRun}
use Rattle.machine_sides.specs.Reporting.{Told, told}
use Rattle.machine_sides.specs.declared.report.ProcessReport.{ProcessReport}

module _ {A : Type 0} where
  get_before : (xs : List A) (y : A) (k : ℕ) (x : A) → slice_get xs k ≡ Some x → slice_get (xs ++ y ∷ []) k ≡ Some x
  get_before [] y k x e = absurd (cc)
  get_before (z ∷ xs) y zero x e = e
  get_before (z ∷ xs) y (suc k) x e = get_before xs y k x e

  get_last : (xs : List A) (y : A) → slice_get (xs ++ y ∷ []) (length xs) ≡ Some y
  get_last [] y = refl
  get_last (x ∷ xs) y = get_last xs y

  pub map_push : {B : Type 0} (f : A → B) (xs : List A) (x : A) → map f (xs ++ x ∷ []) ≡ map f xs ++ f x ∷ []
  map_push f [] x = refl
  map_push f (z ∷ zs) x = ap (λ l. f z ∷ l) (map_push f zs x)

both_true : (a b : Bool) → a && b ≡ true → (a ≡ true) × (b ≡ true)
both_true true true e = (refl, refl)
both_true true false e = absurd (cc)
both_true false b e = absurd (cc)

has_before : (start : Start) (number : ℕ) (xs : List Told) (y : Told) → HasLine start number xs → HasLine start number (xs ++ y ∷ [])
has_before start number xs y has = record { line = has.line; found = get_before xs y number has.line has.found; stands = has.stands }

module _ {Z : Type 0} (honest : Type 0) (handed : List (ImageContent × Vec ℕ Z)) where
  grown : (before started : Bool) (old : List ProcessReport) (report : ProcessReport)
      → (honest → before ≡ true → (number : ℕ) (given : ImageContent × Vec ℕ Z) → number < length old → slice_get handed number ≡ Some given → HasLine (start_of given.0 given.1.items) number (map told old))
      → (honest → started ≡ true → (given : ImageContent × Vec ℕ Z) → slice_get handed (length old) ≡ Some given → StandsForRun (start_of given.0 given.1.items) (told report))
      → honest → before && started ≡ true → (number : ℕ) (given : ImageContent × Vec ℕ Z) → number < length (old ++ report ∷ []) → slice_get handed number ≡ Some given
      → HasLine (start_of given.0 given.1.items) number (map told (old ++ report ∷ []))
  grown before started old report earlier stands is_honest all number given small at =
      let parts = both_true before started all in
      let within : number ≤ length old = omega (arith, length-append old (report ∷ []), small) in
      subst (HasLine (start_of given.0 given.1.items) number) (sym (map_push told old report))
      (⊎_elim
      (λ (here : number ≡ length old).
      let at' : slice_get handed (length old) ≡ Some given = subst (λ (n : ℕ). slice_get handed n ≡ Some given) here at in
      let place : length (map told old) ≡ number = length-map old told ∙ sym here in
      record {
        line = told report;
        found = subst (λ (n : ℕ). slice_get (map told old ++ told report ∷ []) n ≡ Some (told report)) place (get_last (map told old) (told report));
        stands = stands is_honest parts.1 given at';
      })
      (λ (below : number < length old). has_before _ number (map told old) (told report) (earlier is_honest parts.0 number given below at))
      (eq-or-lt_of_le within))

  pub told_more : (old new : so.Told) → ToldSoFar honest handed old → Adds honest handed old new → ToldSoFar honest handed new
  told_more old new so_far adds = record {
    stands = λ is_honest all number given small at.
        let within : number < length (old.processes.items ++ adds.report ∷ []) = subst (λ (l : List ProcessReport). number < length l) adds.added small in
        subst (λ (l : List ProcessReport). HasLine (start_of given.0 given.1.items) number (map told l)) (sym adds.added)
        (grown old.started adds.started old.processes.items adds.report so_far.stands adds.stands is_honest (sym adds.all ∙ all) number given within at);
    last = adds.published ∙ ap (λ l. l ++ adds.last ∷ []) so_far.last ∙ ap (λ s. map counts_of old.processes.items ++ s ∷ []) adds.counted
        ∙ sym (map_push counts_of old.processes.items adds.report) ∙ sym (ap (map counts_of) adds.added);
  }

  -- each line says what a process has come to, where all were started from what was handed in
  pub comes_more : {R : Type 0} (come : R → Told) (yielded : List R) (ran : R) (old new : so.Told) → Adds honest handed old new
      → map told new.processes.items ≡ map told old.processes.items ++ come ran ∷ [] → (old.started ≡ true → map told old.processes.items ≡ map come yielded)
      → new.started ≡ true → map told new.processes.items ≡ map come (yielded ++ ran ∷ [])
  comes_more come yielded ran old new adds grows so_far all =
      grows ∙ ap (λ l. l ++ come ran ∷ []) (so_far (both_true old.started adds.started (sym adds.all ∙ all)).0) ∙ sym (map_push come yielded ran)

  -- all are reported where there is one for each
  pub told_all : (so_far : so.Told) → ToldSoFar honest handed so_far → length so_far.processes.items ≡ length handed → honest → so_far.started ≡ true → StandsForRuns handed so_far.processes.items
  told_all so_far told_so many is_honest all number given at = told_so.stands is_honest all number given (rw many (slice_get_within handed number given at)) at

  pub many_more : (old new : so.Told) → Adds honest handed old new → length old.processes.items < length handed → length new.processes.items ≤ length handed
  many_more old new adds small = omega (arith, ap (λ (l : List ProcessReport). length l) adds.added, length-append old.processes.items (adds.report ∷ []), small)

-- what was looked up is what was handed in under that number
pub stands_at : {Z : Type 0} (handed : List (ImageContent × Vec ℕ Z)) (at n : ℕ) (found : ImageContent × Vec ℕ Z) (input : List ℕ) (line : Told) → at ≡ n → n < length handed
    → found ≡ get_or handed at found → input ≡ found.1.items → StandsForRun (start_of found.0 input) line
    → (given : ImageContent × Vec ℕ Z) → slice_get handed n ≡ Some given → StandsForRun (start_of given.0 given.1.items) line
stands_at {Z} handed at n found input line is small read same stands given given_at =
    let read' : found ≡ get_or handed n found = subst (λ (k : ℕ). found ≡ get_or handed k found) is read in
    let here : slice_get handed n ≡ Some found = slice_get_read handed (length handed) n found refl small read' in
    let e : found ≡ given = cc in
    subst (λ (g : ImageContent × Vec ℕ Z). StandsForRun (start_of g.0 g.1.items) line) e (subst (λ (i : List ℕ). StandsForRun (start_of found.0 i) line) same stands)
