-- Runs of pages, as they are found from the front on.
use Rattle.std.proofs.Common.{◌≡◌, ℕ, ◌+◌, ◌<◌, ◌≤◌, Bool, true, false, cond, ◌&&◌, ◌==◌, List, [], ◌∷◌, ◌++◌, length, drop, slice_index_or, arith, refl, sym, ap, ◌∙◌, append_assoc, eqb-true}
use Rattle.std.proofs.lemmas.List.{drop_more, drop_all}
use Rattle.std.proofs.lemmas.Bool.{and_parts}
use Rattle.elf_image.specs.declared.image.ImagePage.{ImagePage}
use Rattle.elf_image.specs.declared.runs.Run.{Run}
use Rattle.elf_image.specs.WrittenFiles.{run_of, goes_on, joined, runs_from, runs}

abbrev merged : Run → ℕ → Run
merged run more = record { number = run.number; place = run.place; count = run.count + more; rights = run.rights }

joined_by : (run next : Run) (later : List Run) (b : Bool) → goes_on run next ≡ b → joined run (next ∷ later) ≡ cond b (merged run next.count ∷ later) (run ∷ next ∷ later)
unfolding joined
joined_by run next later b e = ap (λ t. cond t (merged run next.count ∷ later) (run ∷ next ∷ later)) e

joined_none : (run : Run) → joined run [] ≡ run ∷ []
unfolding joined
joined_none run = refl

-- a run with a page more goes on as the page's run does
goes_on_as : (run next later : Run) → next.count ≡ 1 → goes_on run next ≡ true → goes_on (merged run 1) later ≡ goes_on next later
goes_on_as run next later one e =
    let both = and_parts _ _ e in
    let ends : run.number + run.count ≡ next.number = eqb-true _ _ both.0 in
    let rights : run.rights.0 ≡ next.rights.0 = eqb-true _ _ both.1 in
    let end : run.number + (run.count + 1) ≡ next.number + next.count = omega arith in
    λ i. (end i == later.number) && (rights i == later.rights.0)

-- one run more at the front of the rest: it goes on with the run before
pub joined_on : (run : Run) (place : ℕ) (one : ImagePage) (later : List Run) → goes_on run (run_of place one) ≡ true → joined run (joined (run_of place one) later) ≡ joined (merged run 1) later
joined_on run place one [] e = ap (joined run) (joined_none (run_of place one)) ∙ joined_by run (run_of place one) [] true e ∙ sym (joined_none (merged run 1))
joined_on run place one (next ∷ later) e = by (goes_on (run_of place one) next) refl
  where
    by : (b : Bool) → goes_on (run_of place one) next ≡ b → joined run (joined (run_of place one) (next ∷ later)) ≡ joined (merged run 1) (next ∷ later)
    by true f =
        let count : run.count + (1 + next.count) ≡ run.count + 1 + next.count = omega arith in
        ap (joined run) (joined_by (run_of place one) next later true f)
        ∙ joined_by run (merged (run_of place one) next.count) later true e
        ∙ (λ i. (record { number = run.number; place = run.place; count = count i; rights = run.rights }) ∷ later)
        ∙ sym (joined_by (merged run 1) next later true (goes_on_as run (run_of place one) next refl e ∙ f))
    by false f =
        ap (joined run) (joined_by (run_of place one) next later false f)
        ∙ joined_by run (run_of place one) (next ∷ later) true e
        ∙ sym (joined_by (merged run 1) next later false (goes_on_as run (run_of place one) next refl e ∙ f))

-- or it does not
pub joined_apart : (run : Run) (place : ℕ) (one : ImagePage) (later : List Run) → goes_on run (run_of place one) ≡ false → joined run (joined (run_of place one) later) ≡ run ∷ joined (run_of place one) later
joined_apart run place one [] e = ap (joined run) (joined_none (run_of place one)) ∙ joined_by run (run_of place one) [] false e ∙ ap (λ l. run ∷ l) (sym (joined_none (run_of place one)))
joined_apart run place one (next ∷ later) e = by (goes_on (run_of place one) next) refl
  where
    by : (b : Bool) → goes_on (run_of place one) next ≡ b → joined run (joined (run_of place one) (next ∷ later)) ≡ run ∷ joined (run_of place one) (next ∷ later)
    by true f =
        ap (joined run) (joined_by (run_of place one) next later true f)
        ∙ joined_by run (merged (run_of place one) next.count) later false e
        ∙ ap (λ l. run ∷ l) (sym (joined_by (run_of place one) next later true f))
    by false f =
        ap (joined run) (joined_by (run_of place one) next later false f)
        ∙ joined_by run (run_of place one) (next ∷ later) false e
        ∙ ap (λ l. run ∷ l) (sym (joined_by (run_of place one) next later false f))

runs_first : (place : ℕ) (one : ImagePage) (rest : List ImagePage) → runs_from place (one ∷ rest) ≡ joined (run_of place one) (runs_from (place + 1) rest)
unfolding runs_from
runs_first place one rest = refl

runs_none : (place : ℕ) → runs_from place [] ≡ []
unfolding runs_from
runs_none place = refl

runs_at : (pages : List ImagePage) (place : ℕ) (one : ImagePage) → place < length pages → one ≡ slice_index_or pages place one → runs_from place (drop place pages) ≡ joined (run_of place one) (runs_from (place + 1) (drop (place + 1) pages))
runs_at pages place one l at = ap (runs_from place) (drop_more pages place one l ∙ ap (λ p. p ∷ drop (place + 1) pages) (sym at)) ∙ runs_first place one (drop (place + 1) pages)

-- how the search for runs begins, goes on and ends
pub run_begins : (pages : List ImagePage) (first : ImagePage) → 0 < length pages → first ≡ slice_index_or pages 0 first → [] ++ joined (run_of 0 first) (runs_from 1 (drop 1 pages)) ≡ runs pages
run_begins pages first l at = sym (runs_at pages 0 first l at)

pub run_grows : (pages : List ImagePage) (place : ℕ) (one : ImagePage) (run : Run) (found : List Run) → place < length pages → one ≡ slice_index_or pages place one → goes_on run (run_of place one) ≡ true → found ++ joined run (runs_from place (drop place pages)) ≡ runs pages → found ++ joined (merged run 1) (runs_from (place + 1) (drop (place + 1) pages)) ≡ runs pages
run_grows pages place one run found l at e before =
    ap (λ r. found ++ r) (sym (joined_on run place one (runs_from (place + 1) (drop (place + 1) pages)) e))
    ∙ ap (λ r. found ++ joined run r) (sym (runs_at pages place one l at))
    ∙ before

pub run_ends : (pages : List ImagePage) (place : ℕ) (one : ImagePage) (run : Run) (found : List Run) → place < length pages → one ≡ slice_index_or pages place one → goes_on run (run_of place one) ≡ false → found ++ joined run (runs_from place (drop place pages)) ≡ runs pages → (found ++ run ∷ []) ++ joined (run_of place one) (runs_from (place + 1) (drop (place + 1) pages)) ≡ runs pages
run_ends pages place one run found l at e before =
    append_assoc found (run ∷ []) (joined (run_of place one) (runs_from (place + 1) (drop (place + 1) pages)))
    ∙ ap (λ r. found ++ r) (sym (joined_apart run place one (runs_from (place + 1) (drop (place + 1) pages)) e))
    ∙ ap (λ r. found ++ joined run r) (sym (runs_at pages place one l at))
    ∙ before

pub runs_end : (pages : List ImagePage) (place : ℕ) (run : Run) (found : List Run) → length pages ≤ place → found ++ joined run (runs_from place (drop place pages)) ≡ runs pages → found ++ run ∷ [] ≡ runs pages
runs_end pages place run found l before =
    ap (λ r. found ++ r) (sym (ap (joined run) (ap (runs_from place) (drop_all place pages l) ∙ runs_none place) ∙ joined_none run))
    ∙ before

pub runs_of_none : (pages : List ImagePage) → length pages ≤ 0 → [] ≡ runs pages
runs_of_none [] l = sym (runs_none 0)
runs_of_none (one ∷ rest) l = absurd (omega arith)
