-- An audit goes through the processes, one after another.
use Rattle.std.proofs.Common.{◌≡◌, ℕ, zero, suc, ◌+◌, ◌*◌, ◌^◌, ◌≤◌, ◌<◌, List, [], ◌∷◌, ◌++◌, length, map, take, get_or, Some, slice_get, option_map, refl, sym, ap, ◌∙◌, arith, subst, length-append}
use Rattle.std.proofs.lemmas.List.{take_more}
use Rattle.std.proofs.lemmas.Option.{slice_get_read, slice_get-map}
use Rattle.paged_memory.specs.declared.counting.HeldPages.{HeldPages}
use Rattle.pager_core.specs.Pager.{PagerState}
use Rattle.space_core.specs.StandsFor.{SpaceValue}
use Rattle.machine_sides.specs.Auditing.{total, resident_pages, framed_pages, IsListed, AreListed, CountsMore, AreSound, HoldsAll}

total_more : {A : Type 0} (f : A → ℕ) (xs : List A) (x : A) → total f (xs ++ x ∷ []) ≡ total f xs + f x
unfolding total
total_more f [] x = omega arith
total_more f (y ∷ ys) x = let rest = total_more f ys x in omega (arith, rest)

map_push : {A B : Type 0} (f : A → B) (xs : List A) (x : A) → map f (xs ++ x ∷ []) ≡ map f xs ++ f x ∷ []
map_push f [] x = refl
map_push f (z ∷ zs) x = ap (λ l. f z ∷ l) (map_push f zs x)

module _ {S : Type 0} (pager : PagerState) where
  -- these processes were counted, which are so many
  pub record CountedSo (seen : List (SpaceValue S)) (found : HeldPages) (number : ℕ) : Type 0 where
    pub each : AreListed pager 0 seen
    pub many : length seen ≡ number
    pub resident : found.resident ≡ total resident_pages seen
    pub framed : found.framed ≡ total framed_pages seen
    pub few_resident : found.resident ≤ number * 2 ^ 20
    pub few_framed : found.framed ≤ number * 2 ^ 20

  listed_more : (n : ℕ) (xs : List (SpaceValue S)) (x : SpaceValue S) → AreListed pager n xs → IsListed pager (n + length xs) x → AreListed pager n (xs ++ x ∷ [])
  unfolding AreListed
  listed_more n [] x each one = (subst (λ m. IsListed pager m x) (omega arith) one, tt)
  listed_more n (y ∷ ys) x each one = (each.0, listed_more (n + 1) ys x each.1 (subst (λ m. IsListed pager m x) (omega arith) one))

  -- each of those that are listed so is the one of its number
  pub listed_at : (n : ℕ) (xs : List (SpaceValue S)) (i : ℕ) (x : SpaceValue S) → AreListed pager n xs → slice_get xs i ≡ Some x → IsListed pager (n + i) x
  unfolding AreListed
  listed_at n [] i x each at = absurd (cc)
  listed_at n (y ∷ ys) zero x each at =
      let same : y ≡ x = cc in
      subst (λ m. IsListed pager m x) (omega arith) (subst (λ h. IsListed pager n h) same each.0)
  listed_at n (y ∷ ys) (suc i) x each at = subst (λ m. IsListed pager m x) (omega arith) (listed_at (n + 1) ys i x each.1 at)

  pub counted_none : (found : HeldPages) → found.resident ≡ 0 → found.framed ≡ 0 → CountedSo [] found 0
  unfolding AreListed total
  counted_none found resident framed = record { each = tt; many = refl; resident = resident; framed = framed; few_resident = omega (arith, resident); few_framed = omega (arith, framed) }

  pub counted_more : (seen : List (SpaceValue S)) (found more : HeldPages) (number : ℕ) (space : SpaceValue S) → CountedSo seen found number → CountsMore pager number space found more
      → CountedSo (seen ++ space ∷ []) more (number + 1)
  counted_more seen found more number space counted one =
      let resident = total_more resident_pages seen space in
      let framed = total_more framed_pages seen space in
      record {
        each = listed_more 0 seen space counted.each (subst (λ m. IsListed pager m space) (omega (arith, counted.many)) one.listed);
        many = omega (arith, length-append seen (space ∷ []), counted.many);
        resident = omega (arith, one.resident, counted.resident, resident);
        framed = omega (arith, one.framed, counted.framed, framed);
        few_resident = one.few_resident;
        few_framed = one.few_framed;
      }

  -- the same of processes in a list
  pub space_next : (all : List (SpaceValue S)) (found more : HeldPages) (number : ℕ) (space : SpaceValue S) → number < length all → space ≡ get_or all number space
      → CountedSo (take number all) found number → CountsMore pager number space found more → CountedSo (take (number + 1) all) more (number + 1)
  space_next all found more number space small is counted one =
      subst (λ l. CountedSo l more (number + 1)) (ap (λ h. take number all ++ h ∷ []) is ∙ sym (take_more all number space small))
      (counted_more (take number all) found more number space counted one)

  -- a process that is not so listed makes it unsound
  pub space_unsound : (all : List (SpaceValue S)) (number : ℕ) (space : SpaceValue S) → number < length all → space ≡ get_or all number space → (IsListed pager number space → ⊥) → AreSound pager all → ⊥
  space_unsound all number space small is unlisted sound =
      let found : slice_get all number ≡ Some space = slice_get_read all (length all) number space refl small is in
      unlisted (subst (λ m. IsListed pager m space) (omega arith) (listed_at 0 all number space sound.each found))

  -- the same of what has its process, in a list
  module _ {A : Type 0} (space_in : A → SpaceValue S) where
    pub counted_next : (all : List A) (found more : HeldPages) (number : ℕ) (x : A) → number < length all → x ≡ get_or all number x
        → CountedSo (map space_in (take number all)) found number → CountsMore pager number (space_in x) found more → CountedSo (map space_in (take (number + 1) all)) more (number + 1)
    counted_next all found more number x small is counted one =
        let next : take (number + 1) all ≡ take number all ++ x ∷ [] = take_more all number x small ∙ ap (λ h. take number all ++ h ∷ []) (sym is) in
        subst (λ l. CountedSo l more (number + 1)) (sym (ap (map space_in) next ∙ map_push space_in (take number all) x))
        (counted_more (map space_in (take number all)) found more number (space_in x) counted one)

    pub counted_push : (seen : List A) (found more : HeldPages) (number : ℕ) (x : A) → CountedSo (map space_in seen) found number → CountsMore pager number (space_in x) found more
        → CountedSo (map space_in (seen ++ x ∷ [])) more (number + 1)
    counted_push seen found more number x counted one =
        subst (λ l. CountedSo l more (number + 1)) (sym (map_push space_in seen x)) (counted_more (map space_in seen) found more number (space_in x) counted one)

    -- a process that is not so listed makes it unsound
    pub not_sound : (all : List A) (number : ℕ) (x : A) → number < length all → x ≡ get_or all number x → (IsListed pager number (space_in x) → ⊥) → AreSound pager (map space_in all) → ⊥
    not_sound all number x small is unlisted sound =
        let found : slice_get all number ≡ Some x = slice_get_read all (length all) number x refl small is in
        let there : slice_get (map space_in all) number ≡ Some (space_in x) = slice_get-map space_in all number ∙ ap (option_map space_in) found in
        unlisted (subst (λ m. IsListed pager m (space_in x)) (omega arith) (listed_at 0 (map space_in all) number (space_in x) sound.each there))

  -- where they are all, the machine is sound, and else it is not
  pub sound_all : (seen : List (SpaceValue S)) (found : HeldPages) (number : ℕ) → CountedSo seen found number → HoldsAll pager found → AreSound pager seen
  sound_all seen found number counted holds = record {
    each = counted.each;
    all = holds.all ∙ counted.resident;
    framed = let framed = holds.framed in let so = counted.framed in omega (arith, framed, so);
  }

  pub all_sound : (seen : List (SpaceValue S)) (found : HeldPages) (number : ℕ) → CountedSo seen found number → AreSound pager seen → HoldsAll pager found
  all_sound seen found number counted sound = record {
    all = sound.all ∙ sym counted.resident;
    framed = let framed = sound.framed in let so = counted.framed in omega (arith, framed, so);
  }
