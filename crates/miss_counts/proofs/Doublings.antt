-- One number of frames more.
use Rattle.std.proofs.Common.{◌≡◌, ℕ, suc, ◌+◌, ◌-◌, ◌^◌, ◌<◌, ◌≤◌, ◌++◌, ◌∷◌, List, [], cond, true, false, map, refl, arith, ap, sym, ◌∙◌, append_assoc, append-nil, lt-ltb, le-ltb}
use Rattle.std.specs.Prelude.{nat_lt}
use Rattle.std.proofs.lemmas.List.{map-append}
use Rattle.page_policies.specs.declared.frames.Frames.{Frames}
use Rattle.miss_counts.specs.FrameNumbers.{doublings, usual_numbers}

abbrev pub numbers_of : List Frames → List ℕ
numbers_of all = map (λ f. f.number) all

pub all_to_come : (pages : ℕ) → usual_numbers pages ≡ doublings pages 2 11
unfolding usual_numbers
all_to_come pages = refl

-- the number is put behind those that are there
pub one_more : (pages power : ℕ) (old new : List Frames) (frames : Frames) → power < 13 → frames.number ≡ 2 ^ power → new ≡ old ++ frames ∷ []
    → usual_numbers pages ≡ numbers_of old ++ doublings pages power (13 - power)
    → usual_numbers pages ≡ numbers_of new ++ cond (nat_lt (2 ^ power) pages) (doublings pages (power + 1) (13 - (power + 1))) []
one_more pages power old new frames most is pushed whole =
    let rest = cond (nat_lt (2 ^ power) pages) (doublings pages (power + 1) (13 - (power + 1))) [] in
    let e : 13 - power ≡ suc (13 - (power + 1)) = omega (arith, most) in
    let cut : doublings pages power (13 - power) ≡ frames.number ∷ rest = rw e (rw is refl) in
    let joined : numbers_of new ++ rest ≡ numbers_of old ++ (frames.number ∷ rest) =
    ap (λ l. numbers_of l ++ rest) pushed ∙ ap (λ l. l ++ rest) (map-append (λ f. f.number) old (frames ∷ [])) ∙ append_assoc (numbers_of old) (frames.number ∷ []) rest in
    whole ∙ ap (λ l. numbers_of old ++ l) cut ∙ sym joined

pub goes_on : (pages power : ℕ) (numbers : List ℕ) → 2 ^ power < pages
    → usual_numbers pages ≡ numbers ++ cond (nat_lt (2 ^ power) pages) (doublings pages (power + 1) (13 - (power + 1))) []
    → usual_numbers pages ≡ numbers ++ doublings pages (power + 1) (13 - (power + 1))
goes_on pages power numbers below whole =
    let is : nat_lt (2 ^ power) pages ≡ true = lt-ltb (2 ^ power) pages below in
    whole ∙ ap (λ b. numbers ++ cond b (doublings pages (power + 1) (13 - (power + 1))) []) is

pub ends : (pages power : ℕ) (numbers : List ℕ) → pages ≤ 2 ^ power
    → usual_numbers pages ≡ numbers ++ cond (nat_lt (2 ^ power) pages) (doublings pages (power + 1) (13 - (power + 1))) []
    → numbers ≡ usual_numbers pages
ends pages power numbers enough whole =
    let is : nat_lt (2 ^ power) pages ≡ false = le-ltb (2 ^ power) pages enough in
    sym (whole ∙ ap (λ b. numbers ++ cond b (doublings pages (power + 1) (13 - (power + 1))) []) is ∙ append-nil numbers)
