-- Reservations, one after another.
use Rattle.std.proofs.Common.{◌≡◌, ℕ, zero, suc, ◌+◌, ◌<◌, ◌≤◌, false, refl, ap, ◌∙◌, arith, [], ◌∷◌, ◌++◌, length, get_or, set, take, drop, map, replicate, add-one, Option, Some, None}
use Rattle.std.specs.Option.{is_some}
use Rattle.std.specs.List.{list_any}
use Rattle.std.proofs.lemmas.List.{take_all, drop_all, append-nil}
use Rattle.page_memory.specs.Reservations.{Reservations, none_reserved, unless_touched, left_by}

all_none : (reserved : Reservations) → list_any is_some reserved ≡ false → reserved ≡ replicate (length reserved) None
all_none [] none = refl
all_none (Some word ∷ reserved) none = absurd (cc)
all_none (None ∷ reserved) none = ap (λ l. None ∷ l) (all_none reserved none)

-- where no hart has a reservation, there is none
pub none_left : (reserved : Reservations) → length reserved ≡ 8 → list_any is_some reserved ≡ false → reserved ≡ none_reserved
none_left reserved long none = all_none reserved none ∙ ap (λ n. replicate n None) long

-- the reservations when the first of them were looked at
abbrev pub left_below : ℕ → ℕ → Reservations → ℕ → Reservations
left_below address count reserved i = map (unless_touched address count) (take i reserved) ++ drop i reserved

left_suc : (address count : ℕ) (reserved : Reservations) (i : ℕ) (d : Option ℕ) → i < length reserved
    → set (left_below address count reserved i) i (unless_touched address count (get_or (left_below address count reserved i) i d)) ≡ left_below address count reserved (suc i)
left_suc address count [] i d within = absurd (omega arith)
left_suc address count (r ∷ reserved) zero d within = refl
left_suc address count (r ∷ reserved) (suc i) d within = ap (λ l. unless_touched address count r ∷ l) (left_suc address count reserved i d (omega arith))

pub left_more : (address count : ℕ) (reserved : Reservations) (i : ℕ) (d : Option ℕ) → i < length reserved
    → set (left_below address count reserved i) i (unless_touched address count (get_or (left_below address count reserved i) i d)) ≡ left_below address count reserved (i + 1)
left_more address count reserved i d within = rw add-one (left_suc address count reserved i d within)

pub left_all : (address count : ℕ) (reserved : Reservations) (i : ℕ) → length reserved ≤ i → left_below address count reserved i ≡ left_by address count reserved
unfolding left_by
left_all address count reserved i past = rw (take_all i reserved past, drop_all i reserved past) (append-nil (map (unless_touched address count) reserved))

-- where no word is reserved, no reservation ends
pub nothing_left : (address count : ℕ) (reserved : Reservations) → reserved ≡ none_reserved → reserved ≡ left_by address count reserved
unfolding left_by
nothing_left address count reserved none = rw none refl
