-- A row of entries of which the first so many are gone.
use Rattle.std.proofs.Common.{◌≡◌, ℕ, ◌+◌, ◌≤◌, List, [], ◌∷◌, ◌++◌, length, set, drop, ap, sym, ◌∙◌}
use Rattle.std.specs.List.{refill}
use Rattle.std.proofs.lemmas.List.{drop-append-le, drop-drop, drop-set-add, drop-map}
use Rattle.tlb_core.specs.declared.translation.Translation.{Translation}
use Rattle.tlb_core.specs.Cache.{doomed, doomed_entry}
use Rattle.tlb_core.proofs.Places.{marked_whole, refill_set}

-- an entry comes behind the others
pub pushed : (n : ℕ) (row : List Translation) (e : Translation) → n ≤ length row → drop n (row ++ e ∷ []) ≡ drop n row ++ e ∷ []
pushed n row e within = drop-append-le n row (e ∷ []) within

-- the first one goes
pub first_gone : (n : ℕ) (row : List Translation) → drop (n + 1) row ≡ drop 1 (drop n row)
first_gone n row = sym (drop-drop 1 n row)

-- one is put in the place of another
pub put : (n place : ℕ) (row : List Translation) (e : Translation) → drop n (refill (length row) row (set row (n + place) e)) ≡ set (drop n row) place e
put n place row e = ap (drop n) (refill_set row (n + place) e) ∙ drop-set-add n row place e

-- those of a page are marked
pub marked : (n page : ℕ) (row written : List Translation) → written ≡ doomed page row → drop n (refill (length row) row written) ≡ doomed page (drop n row)
unfolding doomed
marked n page row written made = ap (drop n) (marked_whole page row written made) ∙ drop-map (doomed_entry page) n row
