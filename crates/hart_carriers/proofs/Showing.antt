-- Viewers look one after another, and show the pairs of their numbers.
use Rattle.std.proofs.Common.{◌≡◌, ℕ, suc, ◌+◌, ◌<◌, ◌≤◌, ◌++◌, [], ◌∷◌, List, length, map, set, take, get_or, refl, ap, sym, ◌∙◌, arith}
use Rattle.std.proofs.lemmas.List.{length-map, map-set, take_all, take_more_set}
use Rattle.std.proofs.Math.Seq.{take-suc}
use Rattle.status_cell.specs.ViewerValue.{ViewerValue}
use Rattle.status_cell.specs.declared.status.Status.{Status}

abbrev seen_by : List ViewerValue → List Status
seen_by viewers = map (λ (v : ViewerValue). v.seen) viewers

pub shown_none : (viewers : List ViewerValue) (pairs : List Status) → take 0 (seen_by viewers) ≡ take 0 pairs
shown_none viewers pairs = refl

pub shown_more : (viewers : List ViewerValue) (pairs : List Status) (number : ℕ) (viewer : ViewerValue) (other : Status)
    → number < length viewers → length viewers ≡ length pairs → viewer.seen ≡ get_or pairs number other
    → take number (seen_by viewers) ≡ take number pairs → take (number + 1) (seen_by (set viewers number viewer)) ≡ take (number + 1) pairs
shown_more viewers pairs number viewer other small many seen so_far =
    let within : number < length (seen_by viewers) = omega (arith, length-map viewers (λ (v : ViewerValue). v.seen), small) in
    let inside : number < length pairs = omega (arith, small, many) in
    let next : suc number ≡ number + 1 = omega arith in
    ap (take (number + 1)) (map-set (λ (v : ViewerValue). v.seen) viewers number viewer)
    ∙ take_more_set (seen_by viewers) number viewer.seen within
    ∙ ap (λ l. l ++ viewer.seen ∷ []) so_far
    ∙ ap (λ s. take number pairs ++ s ∷ []) seen
    ∙ sym (take-suc pairs number other inside)
    ∙ ap (λ n. take n pairs) next

pub shown_all : (viewers : List ViewerValue) (pairs : List Status) (number : ℕ) → length pairs ≤ number → length viewers ≡ length pairs
    → take number (seen_by viewers) ≡ take number pairs → seen_by viewers ≡ pairs
shown_all viewers pairs number all many so_far =
    sym (take_all number (seen_by viewers) (omega (arith, length-map viewers (λ (v : ViewerValue). v.seen), all, many))) ∙ so_far ∙ take_all number pairs all
