-- Words one after another: their bytes, and where they begin.
use Rattle.std.proofs.Common.{◌≡◌, ◌∙◌, ◌++◌, ◌∷◌, ◌+◌, ◌*◌, ◌^◌, ◌<◌, ◌≤◌, ℕ, List, [], length, map, take, drop, get_or, ap, arith, refl, sym, length-append, append_assoc}
use Rattle.std.proofs.lemmas.List.{append-nil, map-append, take_more, take-append-drop, length-map}
use Rattle.std.proofs.lemmas.List.Concat.{flat_map-append}
use Rattle.guest_words.specs.Words.{head_size, places_from, size_of, texts_of}

texts_append : (words more : List (List ℕ)) → texts_of (words ++ more) ≡ texts_of words ++ texts_of more
unfolding texts_of
texts_append words more = flat_map-append (λ w. w ++ 0 ∷ []) words more

-- one word more
texts_more : (words : List (List ℕ)) (word : List ℕ) → texts_of (words ++ word ∷ []) ≡ texts_of words ++ (word ++ 0 ∷ [])
unfolding texts_of
texts_more words word = texts_append words (word ∷ []) ∙ ap (λ l. texts_of words ++ l) (append-nil (word ++ 0 ∷ []))

texts_length_more : (words : List (List ℕ)) (word : List ℕ) → length (texts_of (words ++ word ∷ [])) ≡ length (texts_of words) + (length word + 1)
texts_length_more words word =
    ap length (texts_more words word) ∙ length-append (texts_of words) (word ++ 0 ∷ []) ∙ ap (λ n. length (texts_of words) + n) (length-append word (0 ∷ []))

texts_length_cons : (word : List ℕ) (words : List (List ℕ)) → length (texts_of (word ∷ words)) ≡ (length word + 1) + length (texts_of words)
unfolding texts_of
texts_length_cons word words = length-append (word ++ 0 ∷ []) (texts_of words) ∙ ap (λ n. n + length (texts_of words)) (length-append word (0 ∷ []))

places_more : (at : ℕ) (words : List (List ℕ)) (word : List ℕ) → places_from at (words ++ word ∷ []) ≡ places_from at words ++ (at + length (texts_of words)) ∷ []
unfolding places_from texts_of
places_more at [] word = let here : at ≡ at + 0 = omega arith in ap (λ n. n ∷ []) here
places_more at (first ∷ words) word =
    let later = places_more (at + (length first + 1)) words word in
    let there : (at + (length first + 1)) + length (texts_of words) ≡ at + length (texts_of (first ∷ words)) = omega (arith, texts_length_cons first words) in
    ap (λ l. at ∷ l) (later ∙ ap (λ n. places_from (at + (length first + 1)) words ++ n ∷ []) there)

-- ---- the first words of a list that calls them

module _ {X : Type 0} (called : X → List ℕ) (words : List X) (i : ℕ) where
  pub words_more : (d : X) → i < length words → map called (take (i + 1) words) ≡ map called (take i words) ++ called (get_or words i d) ∷ []
  words_more d within = ap (map called) (take_more words i d within) ∙ map-append called (take i words) (get_or words i d ∷ [])

  pub taken_texts : (d : X) → i < length words → length (texts_of (map called (take (i + 1) words))) ≡ length (texts_of (map called (take i words))) + (length (called (get_or words i d)) + 1)
  taken_texts d within = ap (λ l. length (texts_of l)) (words_more d within) ∙ texts_length_more (map called (take i words)) (called (get_or words i d))

  -- they are no more bytes than all
  texts_within : (n : ℕ) → length (texts_of (map called (take n words))) ≤ length (texts_of (map called words))
  texts_within n =
      let front = map called (take n words) in
      let back = map called (drop n words) in
      let parts : map called words ≡ front ++ back = ap (map called) (sym (take-append-drop n words)) ∙ map-append called (take n words) (drop n words) in
      let whole : length (texts_of (map called words)) ≡ length (texts_of front) + length (texts_of back) = ap (λ l. length (texts_of l)) parts ∙ ap length (texts_append front back) ∙ length-append (texts_of front) (texts_of back) in
      omega (arith, whole)

  -- ---- a word more of them

  pub added : (d : X) (old mid new first : List ℕ) → i < length words → mid ≡ first ++ texts_of (map called (take i words)) → old ≡ mid ++ called (get_or words i d) → new ≡ old ++ 0 ∷ []
      → new ≡ first ++ texts_of (map called (take (i + 1) words))
  added d old mid new first within front word zero =
      let texts = texts_of (map called (take i words)) in
      let it = called (get_or words i d) in
      zero ∙ ap (λ l. l ++ 0 ∷ []) (word ∙ ap (λ l. l ++ it) front)
      ∙ append_assoc (first ++ texts) it (0 ∷ []) ∙ append_assoc first texts (it ++ 0 ∷ [])
      ∙ ap (λ l. first ++ l) (sym (ap texts_of (words_more d within) ∙ texts_more (map called (take i words)) it))

  numbers_more_by : (d : X) (count at place : ℕ) (old new : List ℕ) → i < length words → old ≡ count ∷ places_from at (map called (take i words))
      → place ≡ at + length (texts_of (map called (take i words))) → new ≡ old ++ place ∷ [] → new ≡ count ∷ places_from at (map called (take (i + 1) words))
  numbers_more_by d count at place old new within were stands pushed =
      let places = places_from at (map called (take i words)) in
      pushed ∙ ap (λ l. l ++ place ∷ []) were ∙ ap (λ n. count ∷ (places ++ n ∷ [])) stands
      ∙ ap (λ l. count ∷ l) (sym (ap (places_from at) (words_more d within) ∙ places_more at (map called (take i words)) (called (get_or words i d))))

  -- what has been counted and one word more end below a bound
  pub word_fits : (address bound : ℕ) → i < length words → address + size_of (map called words) < bound → (d : X)
      → address + head_size (length words) + length (texts_of (map called (take i words))) + (length (called (get_or words i d)) + 1) < bound
  word_fits address bound within low d = omega (arith, low, length-map words called, taken_texts d within, texts_within (i + 1))

-- the numbers with that of one word more
pub numbers_more : {X : Type 0} (called : X → List ℕ) (words : List X) (i count at place : ℕ) (old new : List ℕ) → i < length words → old ≡ count ∷ places_from at (map called (take i words))
    → place ≡ at + length (texts_of (map called (take i words))) → new ≡ old ++ place ∷ [] → new ≡ count ∷ places_from at (map called (take (i + 1) words))
numbers_more called [] i count at place old new within were stands pushed = absurd (omega (arith, within))
numbers_more called (word ∷ words) i count at place old new within were stands pushed =
    numbers_more_by called (word ∷ words) i word count at place old new within were stands pushed

pub texts_none : (bytes : List ℕ) → bytes ≡ bytes ++ texts_of []
unfolding texts_of
texts_none bytes = sym (append-nil bytes)

pub numbers_none : (count at : ℕ) (items : List ℕ) → items ≡ count ∷ [] → items ≡ count ∷ places_from at []
unfolding places_from
numbers_none count at items is = is

pub place_none : (address count : ℕ) → address + 8 + 4 * count ≡ address + head_size count + length (texts_of [])
unfolding texts_of
place_none address count = omega arith
