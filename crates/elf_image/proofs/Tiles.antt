-- The runs of pages lie one behind the other and cover all pages.
use Rattle.std.proofs.Common.{◌≡◌, ℕ, ◌+◌, ◌-◌, ◌<◌, ◌≤◌, Bool, true, false, cond, List, [], ◌∷◌, length, drop, slice_index_or, arith, refl, sym, ap, ◌∙◌, subst, inl, inr, eqb-true}
use Rattle.std.proofs.lemmas.List.{get_or-drop, drop-drop, length-drop}
use Rattle.std.proofs.lemmas.Bool.{and_parts}
use Rattle.std.proofs.lemmas.Bool.Decides.{leb_tells}
use Rattle.page_memory.specs.declared.rights.Rights.{Rights}
use Rattle.elf_image.specs.declared.image.ImagePage.{ImagePage}
use Rattle.elf_image.specs.declared.runs.Run.{Run}
use Rattle.elf_image.specs.WrittenFiles.{run_of, goes_on, joined, runs_from, runs}

-- a run's pages stand from its place on
pub record IsRun (pages : List ImagePage) (run : Run) : Type 0 where
  pub full : 0 < run.count
  pub within : run.place + run.count ≤ length pages
  pub numbers : (j : ℕ) (d : ImagePage) → j < run.count → (slice_index_or pages (run.place + j) d).number ≡ run.number + j
  pub rights : (j : ℕ) (d : ImagePage) → j < run.count → (slice_index_or pages (run.place + j) d).page.rights ≡ run.rights

-- runs from a place on: each begins where the one before ends, and the last ends with the pages
abbrev pub Tile : List ImagePage → ℕ → List Run → Type 0
Tile pages place [] = place ≡ length pages
Tile pages place (run ∷ later) = (run.place ≡ place) × (IsRun pages run × Tile pages (place + run.count) later)

same_rights : (one other : Rights) → one.0 ≡ other.0 → one ≡ other
same_rights one other e = λ i. record { 0 = e i }

-- two runs that go on with one another are one
merged_run : (pages : List ImagePage) (run next : Run) → IsRun pages run → IsRun pages next → next.place ≡ run.place + run.count → goes_on run next ≡ true → IsRun pages (record { number = run.number; place = run.place; count = run.count + next.count; rights = run.rights })
merged_run pages run next one other behind on =
    let both = and_parts _ _ on in
    let number : run.number + run.count ≡ next.number = eqb-true _ _ both.0 in
    let same : run.rights ≡ next.rights = same_rights _ _ (eqb-true _ _ both.1) in
    record {
      full = let f = one.full in omega arith;
      within = let w = other.within in omega arith;
      numbers = λ j d l. elim (leb_tells run.count j) [
        | inl past ↦ let far = past.1 in let moved = other.numbers (j - run.count) d (omega arith) in let place : next.place + (j - run.count) ≡ run.place + j = omega arith in let at = ap (λ n. (slice_index_or pages n d).number) place in omega arith
        | inr near ↦ one.numbers j d near.1
      ];
      rights = λ j d l. elim (leb_tells run.count j) [
        | inl past ↦ let far = past.1 in let place : run.place + j ≡ next.place + (j - run.count) = omega arith in ap (λ n. (slice_index_or pages n d).page.rights) place ∙ other.rights (j - run.count) d (omega arith) ∙ sym same
        | inr near ↦ one.rights j d near.1
      ];
    }

joined_tile : (pages : List ImagePage) (run : Run) (later : List Run) → IsRun pages run → Tile pages (run.place + run.count) later → Tile pages run.place (joined run later)
unfolding joined
joined_tile pages run [] one tile = (refl, (one, tile))
joined_tile pages run (next ∷ later) one tile = by (goes_on run next) refl
  where
    whole : Run
    whole = record { number = run.number; place = run.place; count = run.count + next.count; rights = run.rights }

    by : (b : Bool) → goes_on run next ≡ b → Tile pages run.place (cond b (record { number = run.number; place = run.place; count = run.count + next.count; rights = run.rights } ∷ later) (run ∷ next ∷ later))
    by true e =
        let end : run.place + run.count + next.count ≡ run.place + (run.count + next.count) = omega arith in
        (refl, (merged_run pages run next one tile.1.0 tile.0 e, subst (λ n. Tile pages n later) end tile.1.1))
    by false e = (refl, (one, tile))

single_run : (pages : List ImagePage) (place : ℕ) (one : ImagePage) (rest : List ImagePage) → drop place pages ≡ one ∷ rest → IsRun pages (run_of place one)
single_run pages place one rest e =
    let count : length (drop place pages) ≡ length rest + 1 = ap length e ∙ more rest in
    let all = length-drop place pages in
    record {
      full = omega arith;
      within = omega arith;
      numbers = λ j d l. let none : j ≡ 0 = omega arith in let at = ap (λ (p : ImagePage). p.number) (here j d none) in omega arith;
      rights = λ j d l. ap (λ (p : ImagePage). p.page.rights) (here j d (omega arith));
    }
  where
    more : (l : List ImagePage) → length (one ∷ l) ≡ length l + 1
    more l = omega arith

    here : (j : ℕ) (d : ImagePage) → j ≡ 0 → slice_index_or pages (place + j) d ≡ one
    here j d none = ap (λ k. slice_index_or pages (place + k) d) none ∙ sym (get_or-drop place pages 0 d) ∙ ap (λ l. slice_index_or l 0 d) e

tile_from : (pages : List ImagePage) (place : ℕ) (rest : List ImagePage) → place ≤ length pages → drop place pages ≡ rest → Tile pages place (runs_from place rest)
unfolding runs_from
tile_from pages place [] l e = let count = ap length e in let all = length-drop place pages in omega arith
tile_from pages place (one ∷ rest) l e =
    let run = single_run pages place one rest e in
    let within = run.within in
    joined_tile pages (run_of place one) (runs_from (place + 1) rest) run (tile_from pages (place + 1) rest (omega arith) (sym (drop-drop 1 place pages) ∙ ap (drop 1) e))

pub runs_tile : (pages : List ImagePage) → Tile pages 0 (runs pages)
runs_tile pages = tile_from pages 0 pages (omega arith) refl
