-- The files of processes are read one after another.
use Rattle.std.proofs.Common.{◌≡◌, ◌∙◌, ◌++◌, ◌∷◌, inl, ◌+◌, ◌<◌, ◌≤◌, ℕ, List, [], length, map, drop, take, get_or, ap, arith, refl, sym, subst, suc, slice_index_or, slice_set, Option, None}
use Rattle.std.proofs.lemmas.List.{map-append, drop_more, take_more, take_all, take-append-drop, nil_from_length}
use Rattle.elf_image.specs.Start.{Start}
use Rattle.image_files.specs.Reading.{AreGiven, GivesImage, GivesInput}
use Rattle.image_files.specs.Refused.{GivesNoImage, StopsAtImage}
use Rattle.image_files.specs.declared.fault.Fault.{Fault}
use Rattle.image_files.specs.declared.fault.Fault.TheVariants as fault

module _ (gives : List ℕ → List ℕ → Type 0) where
  given_behind : (names more : List (List ℕ)) (starts others : List Start) → AreGiven gives None names starts → AreGiven gives None more others → AreGiven gives None (names ++ more) (starts ++ others)
  unfolding AreGiven
  given_behind [] more [] others given behind = behind
  given_behind [] more (start ∷ starts) others given behind = absurd given
  given_behind (name ∷ names) more [] others given behind = absurd given
  given_behind (name ∷ names) more (start ∷ starts) others given behind = (given.0, (given.1.0, given_behind names more starts others given.1.1 behind))

  pub none_read : {X P : Type 0} (called : X → List ℕ) (start : P → Start) (images : List X) (items : List P) → items ≡ [] → AreGiven gives None (map called (take 0 images)) (map start items)
  unfolding AreGiven
  none_read called start images items e = subst (λ l. AreGiven gives None [] (map start l)) (sym e) (tt {0})

  pub one_read : {X P : Type 0} (called : X → List ℕ) (start : P → Start) (images : List X) (i : ℕ) (d : X) (old new : List P) (one : P) → i < length images
      → AreGiven gives None (map called (take i images)) (map start old) → GivesImage gives (called (get_or images i d)) (start one).image
      → (start one).input ≡ [] → new ≡ old ++ one ∷ [] → AreGiven gives None (map called (take (i + 1) images)) (map start new)
  unfolding AreGiven
  one_read called start images i d old new one within read given none e =
      let names : map called (take (i + 1) images) ≡ map called (take i images) ++ called (get_or images i d) ∷ [] =
      ap (map called) (take_more images i d within) ∙ map-append called (take i images) (get_or images i d ∷ []) in
      let starts : map start new ≡ map start old ++ start one ∷ [] = ap (map start) e ∙ map-append start old (one ∷ []) in
      subst (λ l. AreGiven gives None l (map start new)) (sym names)
      (subst (λ l. AreGiven gives None (map called (take i images) ++ called (get_or images i d) ∷ []) l) (sym starts)
      (given_behind (map called (take i images)) (called (get_or images i d) ∷ []) (map start old) (start one ∷ []) read (given, (none, tt {0}))))

  pub all_read : {X P : Type 0} (called : X → List ℕ) (start : P → Start) (images : List X) (i : ℕ) (items : List P) → length images ≤ i
      → AreGiven gives None (map called (take i images)) (map start items) → AreGiven gives None (map called images) (map start items)
  all_read called start images i items past read = subst (λ l. AreGiven gives None (map called l) (map start items)) (take_all i images past) read

  -- a fault of one image, behind those that were read
  pub stops_at : {X P : Type 0} (withholds : List ℕ → Type 0) (called : X → List ℕ) (start : P → Start) (images : List X) (i : ℕ) (d : X) (items : List P) (why : Fault) → i < length images
      → AreGiven gives None (map called (take i images)) (map start items) → GivesNoImage gives withholds (called (get_or images i d)) why → StopsAtImage gives withholds (map called images) why
  stops_at withholds called start images i d items why within read refused = record {
    above = map called (take i images);
    name = called (get_or images i d);
    below = map called (drop (i + 1) images);
    starts = map start items;
    stands =
        ap (map called) (sym (take-append-drop i images)) ∙ ap (λ l. map called (take i images ++ l)) (drop_more images i d within)
        ∙ map-append called (take i images) (get_or images i d ∷ drop (i + 1) images);
    read = read;
    refused = refused;
  }

  -- the same for want of memory
  pub stops_scant : {X P : Type 0} (withholds : List ℕ → Type 0) (called : X → List ℕ) (start : P → Start) (images : List X) (i : ℕ) (items : List P) → i < length images
      → AreGiven gives None (map called (take i images)) (map start items) → StopsAtImage gives withholds (map called images) fault.NoMemory
  stops_scant withholds called start [] i items within read = absurd (omega (arith, within))
  stops_scant withholds called start (image ∷ images) i items within read = stops_at withholds called start (image ∷ images) i image items fault.NoMemory within read (inl (tt {0}))

  pub none_given : {P : Type 0} (start : P → Start) (input : Option (List ℕ)) (names : List (List ℕ)) (items : List P) → length items ≡ 0
      → AreGiven gives None names (map start items) → AreGiven gives input names (map start items)
  unfolding AreGiven
  none_given start input [] [] none given = given
  none_given start input [] (item ∷ items) none given = given
  none_given start input (name ∷ names) [] none given = given
  none_given start input (name ∷ names) (item ∷ items) none given =
      elim (subst (λ l. AreGiven gives None (name ∷ names) (map start l)) (nil_from_length (item ∷ items) none) given) [ ]

  -- the first gets the input
  pub first_given : {P : Type 0} (start : P → Start) (input : Option (List ℕ)) (names : List (List ℕ)) (items : List P) (first new : P) → first ≡ slice_index_or items 0 first
      → (start new).image ≡ (start first).image → GivesInput gives input (start new).input → AreGiven gives None names (map start items)
      → AreGiven gives input names (map start (slice_set items 0 new))
  unfolding AreGiven
  first_given start input [] [] first new at same read given = given
  first_given start input [] (item ∷ items) first new at same read given = given
  first_given start input (name ∷ names) [] first new at same read given = given
  first_given start input (name ∷ names) (item ∷ items) first new at same read given =
      let image : (start new).image ≡ (start item).image = same ∙ ap (λ p. (start p).image) at in
      (subst (λ i. GivesImage gives name i) (sym image) given.0, (read, given.1.1))

  -- there are as many processes as files
  pub as_many : {P : Type 0} (start : P → Start) (input : Option (List ℕ)) (names : List (List ℕ)) (items : List P) → AreGiven gives input names (map start items)
      → length items ≡ length names
  unfolding AreGiven
  as_many start input [] [] given = refl
  as_many start input [] (item ∷ items) given = elim given [ ]
  as_many start input (name ∷ names) [] given = elim given [ ]
  as_many start input (name ∷ names) (item ∷ items) given = ap (λ n. suc n) (as_many start None names items given.1.1)
