-- Sums of the places that count, by blocks and groups of them: proofs.
use Rattle.std.specs.Prelude.{◌≡◌, ℕ, zero, suc, ◌+◌, ◌-◌, ◌*◌, ◌/◌, ◌%◌, ◌^◌, ◌<◌, ◌≤◌, true, false, nat_lt, min, List, [], ◌∷◌, ◌++◌, take, drop, length, replicate, slice_index_or, slice_set, refl}
use Rattle.std.proofs.Common.{arith, sym, ap, subst, ◌∙◌}
use Rattle.page_policies.specs.Demand.{one}
use Rattle.page_policies.proofs.NumberLaws.{less, most, yes_less, no_less, next_less}
use Rattle.whole_strings.specs.LruDepths.{noted}
use Rattle.whole_strings.proofs.LruDepthLaws.{length_noted, come_back}
use Rattle.whole_strings.specs.LastPlaces.{total, sum_from, AreBlockSums, lowered, AreSummed, Adds, Removes}
use Rattle.whole_strings.specs.declared.last_places.LastPlaces.{LastPlaces}

-- ---- sums of counts

pub sum_here : (k : ℕ) (xs : List ℕ) → sum_from k xs ≡ slice_index_or xs k 0 + sum_from (suc k) xs
sum_here zero [] = refl
sum_here (suc k) [] = refl
sum_here zero (x ∷ xs) = refl
sum_here (suc k) (x ∷ xs) = sum_here k xs

sum_of_rest : (k : ℕ) (xs : List ℕ) → sum_from k xs ≤ total xs
sum_of_rest zero xs = omega arith
sum_of_rest (suc k) [] = omega arith
sum_of_rest (suc k) (x ∷ xs) = let e : sum_from k xs ≤ total xs = sum_of_rest k xs in omega (arith, e)

pub sum_less : (j k : ℕ) (xs : List ℕ) → j ≤ k → sum_from k xs ≤ sum_from j xs
sum_less zero k xs h = sum_of_rest k xs
sum_less (suc j) zero xs h = absurd (omega (arith, h))
sum_less (suc j) (suc k) [] h = omega arith
sum_less (suc j) (suc k) (x ∷ xs) h = sum_less j k xs (omega (arith, h))

pub one_of_sum : (k : ℕ) (xs : List ℕ) → slice_index_or xs k 0 ≤ total xs
one_of_sum k xs =
    let here : sum_from k xs ≡ slice_index_or xs k 0 + sum_from (suc k) xs = sum_here k xs in
    let few : sum_from k xs ≤ total xs = sum_of_rest k xs in omega (arith, here, few)

pub sum_noted : (at k : ℕ) (xs : List ℕ) → at < length xs → sum_from k (noted at xs) ≡ sum_from k xs + one (nat_lt k (suc at))
sum_noted at k [] h = absurd (omega (arith, h))
sum_noted zero zero (x ∷ xs) h = let e : one (nat_lt 0 1) ≡ 1 = ap one (yes_less 0 1 (omega arith)) in omega (arith, e)
sum_noted zero (suc k) (x ∷ xs) h = let e : one (nat_lt (suc k) 1) ≡ 0 = ap one (no_less (suc k) 1 (omega arith)) in omega (arith, e)
sum_noted (suc at) zero (x ∷ xs) h =
    let later : sum_from 0 (noted at xs) ≡ sum_from 0 xs + one (nat_lt 0 (suc at)) = sum_noted at 0 xs (omega (arith, h)) in
    let e : one (nat_lt 0 (suc at)) ≡ 1 = ap one (yes_less 0 (suc at) (omega arith)) in
    let f : one (nat_lt 0 (suc (suc at))) ≡ 1 = ap one (yes_less 0 (suc (suc at)) (omega arith)) in omega (arith, later, e, f)
sum_noted (suc at) (suc k) (x ∷ xs) h =
    let later : sum_from k (noted at xs) ≡ sum_from k xs + one (nat_lt k (suc at)) = sum_noted at k xs (omega (arith, h)) in
    let e : one (nat_lt (suc k) (suc (suc at))) ≡ one (nat_lt k (suc at)) = ap one (next_less k (suc at)) in omega (arith, later, e)

noted_lowered : (at : ℕ) (xs : List ℕ) → 0 < slice_index_or xs at 0 → noted at (lowered at xs) ≡ xs
noted_lowered at [] h = refl
noted_lowered zero (x ∷ xs) h = ap (λ (n : ℕ). n ∷ xs) (omega (arith, h))
noted_lowered (suc at) (x ∷ xs) h = ap (λ (l : List ℕ). x ∷ l) (noted_lowered at xs h)

pub length_lowered : (at : ℕ) (xs : List ℕ) → length (lowered at xs) ≡ length xs
length_lowered at xs = set_length at (slice_index_or xs at 0 - 1) xs
  where
    set_length : (at k : ℕ) (xs : List ℕ) → length (slice_set xs at k) ≡ length xs
    set_length at k [] = refl
    set_length zero k (y ∷ ys) = refl
    set_length (suc at) k (y ∷ ys) = ap suc (set_length at k ys)

inside_some : (at : ℕ) (xs : List ℕ) → 0 < slice_index_or xs at 0 → at < length xs
inside_some at [] h = absurd (none at h)
  where
    none : (at : ℕ) → 0 < slice_index_or [] at 0 → ⊥
    none zero h = omega (arith, h)
    none (suc at) h = omega (arith, h)
inside_some zero (x ∷ xs) h = omega arith
inside_some (suc at) (x ∷ xs) h = let e : at < length xs = inside_some at xs h in omega (arith, e)

pub sum_lowered : (at k : ℕ) (xs : List ℕ) → 0 < slice_index_or xs at 0 → sum_from k xs ≡ sum_from k (lowered at xs) + one (nat_lt k (suc at))
sum_lowered at k xs h =
    let inside : at < length xs = inside_some at xs h in
    let size : length (lowered at xs) ≡ length xs = length_lowered at xs in
    ap (λ (l : List ℕ). sum_from k l) (sym (noted_lowered at xs h)) ∙ sum_noted at k (lowered at xs) (omega (arith, inside, size))

-- ---- sums of blocks

same_block : (k at : ℕ) → nat_lt (k * 256) (suc at) ≡ nat_lt k (suc (at / 256))
same_block k at = elim (nat_lt k (suc (at / 256))) as (λ b. nat_lt k (suc (at / 256)) ≡ b → nat_lt (k * 256) (suc at) ≡ b) [
  | true ↦ λ h. let e : k < suc (at / 256) = less k (suc (at / 256)) h in yes_less (k * 256) (suc at) (omega (arith, e))
  | false ↦ λ h. let e : suc (at / 256) ≤ k = most k (suc (at / 256)) h in no_less (k * 256) (suc at) (omega (arith, e))
] refl

pub block_inside : (at : ℕ) (xs ys : List ℕ) → AreBlockSums xs ys → at < length xs → at / 256 < length ys
block_inside at xs ys sums h = let w : length xs ≤ length ys * 256 = sums.whole in omega (arith, w, h)

pub blocks_noted : (at : ℕ) (xs ys : List ℕ) → at < length xs → AreBlockSums xs ys → AreBlockSums (noted at xs) (noted (at / 256) ys)
blocks_noted at xs ys h sums = record {
  each = λ k.
      let upper : sum_from k (noted (at / 256) ys) ≡ sum_from k ys + one (nat_lt k (suc (at / 256))) = sum_noted (at / 256) k ys (block_inside at xs ys sums h) in
      let lower : sum_from (k * 256) (noted at xs) ≡ sum_from (k * 256) xs + one (nat_lt (k * 256) (suc at)) = sum_noted at (k * 256) xs h in
      let test : one (nat_lt (k * 256) (suc at)) ≡ one (nat_lt k (suc (at / 256))) = ap one (same_block k at) in
      let before : sum_from k ys ≡ sum_from (k * 256) xs = sums.each k in omega (arith, upper, lower, test, before);
  whole = let a : length (noted at xs) ≡ length xs = length_noted at xs in
      let b : length (noted (at / 256) ys) ≡ length ys = length_noted (at / 256) ys in
      let w : length xs ≤ length ys * 256 = sums.whole in omega (arith, a, b, w);
}

pub block_some : (at : ℕ) (xs ys : List ℕ) → AreBlockSums xs ys → 0 < slice_index_or xs at 0 → 0 < slice_index_or ys (at / 256) 0
block_some at xs ys sums h =
    let here : sum_from (at / 256) ys ≡ slice_index_or ys (at / 256) 0 + sum_from (suc (at / 256)) ys = sum_here (at / 256) ys in
    let first : sum_from (at / 256) ys ≡ sum_from (at / 256 * 256) xs = sums.each (at / 256) in
    let last : sum_from (suc (at / 256)) ys ≡ sum_from (suc (at / 256) * 256) xs = sums.each (suc (at / 256)) in
    let from_first : sum_from at xs ≤ sum_from (at / 256 * 256) xs = sum_less (at / 256 * 256) at xs (omega arith) in
    let to_last : sum_from (suc (at / 256) * 256) xs ≤ sum_from (suc at) xs = sum_less (suc at) (suc (at / 256) * 256) xs (omega arith) in
    let there : sum_from at xs ≡ slice_index_or xs at 0 + sum_from (suc at) xs = sum_here at xs in
    omega (arith, here, first, last, from_first, to_last, there, h)

pub blocks_lowered : (at : ℕ) (xs ys : List ℕ) → 0 < slice_index_or xs at 0 → AreBlockSums xs ys → AreBlockSums (lowered at xs) (lowered (at / 256) ys)
blocks_lowered at xs ys h sums = record {
  each = λ k.
      let upper : sum_from k ys ≡ sum_from k (lowered (at / 256) ys) + one (nat_lt k (suc (at / 256))) = sum_lowered (at / 256) k ys (block_some at xs ys sums h) in
      let lower : sum_from (k * 256) xs ≡ sum_from (k * 256) (lowered at xs) + one (nat_lt (k * 256) (suc at)) = sum_lowered at (k * 256) xs h in
      let test : one (nat_lt (k * 256) (suc at)) ≡ one (nat_lt k (suc (at / 256))) = ap one (same_block k at) in
      let before : sum_from k ys ≡ sum_from (k * 256) xs = sums.each k in omega (arith, upper, lower, test, before);
  whole = let a : length (lowered at xs) ≡ length xs = length_lowered at xs in
      let b : length (lowered (at / 256) ys) ≡ length ys = length_lowered (at / 256) ys in
      let w : length xs ≤ length ys * 256 = sums.whole in omega (arith, a, b, w);
}

pub blocks_none : (n m : ℕ) → n ≤ m * 256 → AreBlockSums (replicate n 0) (replicate m 0)
blocks_none n m h = record {
  each = λ k. none m k ∙ sym (none n (k * 256));
  whole = let a : length (replicate n 0) ≡ n = size n in let b : length (replicate m 0) ≡ m = size m in omega (arith, a, b, h);
}
  where
    size : (n : ℕ) → length (replicate n (let z : ℕ = 0 in z)) ≡ n
    size zero = refl
    size (suc n) = ap suc (size n)

    none : (n k : ℕ) → sum_from k (replicate n 0) ≡ 0
    none zero zero = refl
    none zero (suc k) = refl
    none (suc n) zero = let e : total (replicate n 0) ≡ 0 = none n 0 in omega (arith, e)
    none (suc n) (suc k) = none n k

pub sums_none : (n k : ℕ) → sum_from k (replicate n 0) ≡ 0
sums_none zero zero = refl
sums_none zero (suc k) = refl
sums_none (suc n) zero = let e : total (replicate n 0) ≡ 0 = sums_none n 0 in omega (arith, e)
sums_none (suc n) (suc k) = sums_none n k

pub length_replicate : (n : ℕ) → length (replicate n (let z : ℕ = 0 in z)) ≡ n
length_replicate zero = refl
length_replicate (suc n) = ap suc (length_replicate n)

-- what is behind a place: in its block, and in the blocks behind that
pub behind_is : (at : ℕ) (xs ys : List ℕ) → AreBlockSums xs ys → total (take (min (length (drop (at + 1) xs)) (255 - at % 256)) (drop (at + 1) xs)) + sum_from (at / 256 + 1) ys ≡ sum_from (at + 1) xs
behind_is at xs ys sums =
    let cut : take (min (length (drop (at + 1) xs)) (255 - at % 256)) (drop (at + 1) xs) ≡ take (255 - at % 256) (drop (at + 1) xs) = take_min (drop (at + 1) xs) (255 - at % 256) in
    let parts : total (take (255 - at % 256) (drop (at + 1) xs)) + total (drop (255 - at % 256) (drop (at + 1) xs)) ≡ total (drop (at + 1) xs) = split (255 - at % 256) (drop (at + 1) xs) in
    let later : sum_from (at / 256 + 1) ys ≡ sum_from ((at / 256 + 1) * 256) xs = sums.each (at / 256 + 1) in
    let place : total (drop (255 - at % 256) (drop (at + 1) xs)) ≡ sum_from ((at / 256 + 1) * 256) xs = ap total (drop_drop (255 - at % 256) (at + 1) xs) ∙ ap (λ (k : ℕ). sum_from k xs) (edge at) in
    let first : total (take (min (length (drop (at + 1) xs)) (255 - at % 256)) (drop (at + 1) xs)) ≡ total (take (255 - at % 256) (drop (at + 1) xs)) = ap total cut in
    omega (arith, parts, later, place, first)
  where
    edge : (at : ℕ) → (at + 1) + (255 - at % 256) ≡ (at / 256 + 1) * 256
    edge at = omega arith

    drop_later : (n k m : ℕ) (xs : List ℕ) → m ≡ k + n → drop n (drop k xs) ≡ drop m xs
    drop_later n zero m xs h = ap (λ (i : ℕ). drop i xs) (omega (arith, h))
    drop_later n (suc k) zero xs h = absurd (omega (arith, h))
    drop_later zero (suc k) (suc m) [] h = refl
    drop_later (suc n) (suc k) (suc m) [] h = refl
    drop_later n (suc k) (suc m) (x ∷ xs) h = drop_later n k m xs (omega (arith, h))

    drop_drop : (n k : ℕ) (xs : List ℕ) → drop n (drop k xs) ≡ drop (k + n) xs
    drop_drop n k xs = drop_later n k (k + n) xs refl

    split : (n : ℕ) (xs : List ℕ) → total (take n xs) + total (drop n xs) ≡ total xs
    split zero xs = omega arith
    split (suc n) [] = refl
    split (suc n) (x ∷ xs) = let e : total (take n xs) + total (drop n xs) ≡ total xs = split n xs in omega (arith, e)

    take_min : (xs : List ℕ) (n : ℕ) → take (min (length xs) n) xs ≡ take n xs
    take_min xs n = cut_to (min (length xs) n) n xs refl
      where
        none : (n : ℕ) → take n (let l : List ℕ = [] in l) ≡ []
        none zero = refl
        none (suc n) = refl

        cut_to : (m n : ℕ) (xs : List ℕ) → m ≡ min (length xs) n → take m xs ≡ take n xs
        cut_to m n [] h = none m ∙ sym (none n)
        cut_to zero zero (x ∷ xs) h = refl
        cut_to (suc m) zero (x ∷ xs) h = absurd (omega (arith, h))
        cut_to zero (suc n) (x ∷ xs) h = absurd (omega (arith, h))
        cut_to (suc m) (suc n) (x ∷ xs) h = ap (λ (l : List ℕ). x ∷ l) (cut_to m n xs (omega (arith, h)))

-- ---- the counts of the places of last uses

pub adds_is : (at : ℕ) (old new : LastPlaces) → at < length old.places.items → AreSummed old → new.places.items ≡ noted at old.places.items → new.blocks.items ≡ noted (at / 256) old.blocks.items → new.groups.items ≡ noted (at / 256 / 256) old.groups.items → Adds at old new
adds_is at old new inside summed p b g = record {
  sums = record {
    blocks = subst (λ (l : List ℕ). AreBlockSums l new.blocks.items) (sym p) (subst (λ (l : List ℕ). AreBlockSums (noted at old.places.items) l) (sym b) (blocks_noted at old.places.items old.blocks.items inside summed.blocks));
    groups = subst (λ (l : List ℕ). AreBlockSums l new.groups.items) (sym b) (subst (λ (l : List ℕ). AreBlockSums (noted (at / 256) old.blocks.items) l) (sym g)
        (blocks_noted (at / 256) old.blocks.items old.groups.items (block_inside at old.places.items old.blocks.items summed.blocks inside) summed.groups));
  };
  size = ap length p ∙ length_noted at old.places.items;
  counted = λ k. ap (λ (l : List ℕ). sum_from k l) p ∙ sum_noted at k old.places.items inside;
}

pub removes_is : (at : ℕ) (old new : LastPlaces) → 0 < slice_index_or old.places.items at 0 → AreSummed old → new.places.items ≡ lowered at old.places.items → new.blocks.items ≡ lowered (at / 256) old.blocks.items → new.groups.items ≡ lowered (at / 256 / 256) old.groups.items → Removes at old new
removes_is at old new some summed p b g = record {
  sums = record {
    blocks = subst (λ (l : List ℕ). AreBlockSums l new.blocks.items) (sym p) (subst (λ (l : List ℕ). AreBlockSums (lowered at old.places.items) l) (sym b) (blocks_lowered at old.places.items old.blocks.items some summed.blocks));
    groups = subst (λ (l : List ℕ). AreBlockSums l new.groups.items) (sym b) (subst (λ (l : List ℕ). AreBlockSums (lowered (at / 256) old.blocks.items) l) (sym g)
        (blocks_lowered (at / 256) old.blocks.items old.groups.items (block_some at old.places.items old.blocks.items summed.blocks some) summed.groups));
  };
  size = ap length p ∙ length_lowered at old.places.items;
  counted = λ k. sum_lowered at k old.places.items some ∙ ap (λ (l : List ℕ). sum_from k l + one (nat_lt k (suc at))) (sym p);
}

-- what is behind a place, in three parts
pub behind_all : (at near middle far : ℕ) (c : LastPlaces) → AreSummed c
    → near ≡ total (take (min (length (drop (at + 1) c.places.items)) (255 - at % 256)) (drop (at + 1) c.places.items))
    → middle ≡ total (take (min (length (drop (at / 256 + 1) c.blocks.items)) (255 - at / 256 % 256)) (drop (at / 256 + 1) c.blocks.items))
    → far ≡ sum_from (at / 256 / 256 + 1) c.groups.items → near + middle + far ≡ sum_from (at + 1) c.places.items
behind_all at near middle far c sums n m f =
    let places : total (take (min (length (drop (at + 1) c.places.items)) (255 - at % 256)) (drop (at + 1) c.places.items)) + sum_from (at / 256 + 1) c.blocks.items ≡ sum_from (at + 1) c.places.items = behind_is at c.places.items c.blocks.items sums.blocks in
    let blocks : total (take (min (length (drop (at / 256 + 1) c.blocks.items)) (255 - at / 256 % 256)) (drop (at / 256 + 1) c.blocks.items)) + sum_from (at / 256 / 256 + 1) c.groups.items ≡ sum_from (at / 256 + 1) c.blocks.items = behind_is (at / 256) c.blocks.items c.groups.items sums.groups in
    omega (arith, places, blocks, n, m, f)

-- no sum is above the whole
pub blocks_total : (c : LastPlaces) → AreSummed c → total c.blocks.items ≡ total c.places.items
blocks_total c sums = sums.blocks.each 0

pub groups_total : (c : LastPlaces) → AreSummed c → total c.groups.items ≡ total c.places.items
groups_total c sums = sums.groups.each 0 ∙ sums.blocks.each 0

-- what the functions know of slices

pub noted_back : (n at : ℕ) (a s m : List ℕ) → n ≡ length s → m ≡ s → a ≡ noted at m → take n (a ++ drop (length a) s) ≡ noted at s
noted_back n at a s m size value is = let e : a ≡ noted at s = is ∙ ap (noted at) value in come_back n a s (noted at s) size (ap length e ∙ length_noted at s) e

pub lowered_back : (n at : ℕ) (a s m : List ℕ) → n ≡ length s → m ≡ s → a ≡ lowered at m → take n (a ++ drop (length a) s) ≡ lowered at s
lowered_back n at a s m size value is = let e : a ≡ lowered at s = is ∙ ap (lowered at) value in come_back n a s (lowered at s) size (ap length e ∙ length_lowered at s) e

pub small_one : (at : ℕ) (m s : List ℕ) → m ≡ s → total s < 2 ^ 63 → slice_index_or m at 0 < 2 ^ 63
small_one at m s is h = let e : slice_index_or s at 0 ≤ total s = one_of_sum at s in let f : slice_index_or m at 0 ≡ slice_index_or s at 0 = ap (λ (l : List ℕ). slice_index_or l at 0) is in omega (arith, e, f, h)

pub some_one : (at : ℕ) (m s : List ℕ) → m ≡ s → 0 < slice_index_or s at 0 → 0 < slice_index_or m at 0
some_one at m s is h = let f : slice_index_or m at 0 ≡ slice_index_or s at 0 = ap (λ (l : List ℕ). slice_index_or l at 0) is in omega (arith, f, h)

whole_rest : (k : ℕ) (xs : List ℕ) → take (length xs - k) (drop k xs) ≡ drop k xs
whole_rest k xs = full (length xs - k) (drop k xs) (left k xs)
  where
    full : (n : ℕ) (xs : List ℕ) → n ≡ length xs → take n xs ≡ xs
    full zero [] h = refl
    full zero (x ∷ xs) h = absurd (omega (arith, h))
    full (suc n) [] h = refl
    full (suc n) (x ∷ xs) h = ap (λ (l : List ℕ). x ∷ l) (full n xs (omega (arith, h)))

    left : (k : ℕ) (xs : List ℕ) → length xs - k ≡ length (drop k xs)
    left zero xs = omega arith
    left (suc k) [] = omega arith
    left (suc k) (x ∷ xs) = let e : length xs - k ≡ length (drop k xs) = left k xs in omega (arith, e)

pub behind_slices : (at near middle far : ℕ) (c : LastPlaces) (xs ys zs : List ℕ) → AreSummed c → xs ≡ c.places.items → ys ≡ c.blocks.items → zs ≡ c.groups.items
    → near ≡ total (take (min (length (drop (at + 1) xs)) (255 - at % 256)) (drop (at + 1) xs))
    → middle ≡ total (take (min (length (drop (at / 256 + 1) ys)) (255 - at / 256 % 256)) (drop (at / 256 + 1) ys))
    → far ≡ total (take (length zs - (at / 256 / 256 + 1)) (drop (at / 256 / 256 + 1) zs)) → near + middle + far ≡ sum_from (at + 1) c.places.items
behind_slices at near middle far c xs ys zs sums x y z n m f = behind_all at near middle far c sums
    (n ∙ ap (λ (l : List ℕ). total (take (min (length (drop (at + 1) l)) (255 - at % 256)) (drop (at + 1) l))) x)
    (m ∙ ap (λ (l : List ℕ). total (take (min (length (drop (at / 256 + 1) l)) (255 - at / 256 % 256)) (drop (at / 256 + 1) l))) y)
    (f ∙ ap total (whole_rest (at / 256 / 256 + 1) zs) ∙ ap (λ (l : List ℕ). sum_from (at / 256 / 256 + 1) l) z)

pub behind_few : (at whole : ℕ) (c : LastPlaces) → whole ≡ sum_from (at + 1) c.places.items → sum_from 0 c.places.items < 2 ^ 63 → whole < 2 ^ 63
behind_few at whole c is h = let few : sum_from (at + 1) c.places.items ≤ total c.places.items = sum_of_rest (at + 1) c.places.items in omega (arith, is, few, h)

pub total_cut : (n m k : ℕ) (xs : List ℕ) → total (take n (take m (drop k xs))) ≤ total xs
total_cut n m k xs =
    let rest : sum_from k xs ≤ total xs = sum_of_rest k xs in
    let first : total (take m (drop k xs)) ≤ total (drop k xs) = few m (drop k xs) in
    let second : total (take n (take m (drop k xs))) ≤ total (take m (drop k xs)) = few n (take m (drop k xs)) in omega (arith, rest, first, second)
  where
    few : (n : ℕ) (xs : List ℕ) → total (take n xs) ≤ total xs
    few zero xs = omega arith
    few (suc n) [] = omega arith
    few (suc n) (x ∷ xs) = let e : total (take n xs) ≤ total xs = few n xs in omega (arith, e)

pub summed_none : (n m k : ℕ) (c : LastPlaces) → m ≡ n / 256 + 1 → k ≡ m / 256 + 1 → c.places.items ≡ replicate n 0 → c.blocks.items ≡ replicate m 0 → c.groups.items ≡ replicate k 0 → AreSummed c
summed_none n m k c m_is k_is p b g = record {
  blocks = subst (λ (l : List ℕ). AreBlockSums l c.blocks.items) (sym p) (subst (λ (l : List ℕ). AreBlockSums (replicate n 0) l) (sym b) (blocks_none n m (omega (arith, m_is))));
  groups = subst (λ (l : List ℕ). AreBlockSums l c.groups.items) (sym b) (subst (λ (l : List ℕ). AreBlockSums (replicate m 0) l) (sym g) (blocks_none m k (omega (arith, k_is))));
}

pub total_part : (n k : ℕ) (xs : List ℕ) → total (take n (drop k xs)) ≤ total xs
total_part n k xs = let rest : sum_from k xs ≤ total xs = sum_of_rest k xs in let first : total (take n (drop k xs)) ≤ total (drop k xs) = few n (drop k xs) in omega (arith, rest, first)
  where
    few : (n : ℕ) (xs : List ℕ) → total (take n xs) ≤ total xs
    few zero xs = omega arith
    few (suc n) [] = omega arith
    few (suc n) (x ∷ xs) = let e : total (take n xs) ≤ total xs = few n xs in omega (arith, e)
