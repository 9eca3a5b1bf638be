-- The bytes of an object, and how many they are.
use Rattle.std.proofs.Common.{◌≡◌, ◌∙◌, ◌++◌, ◌∷◌, suc, ◌+◌, ◌-◌, ◌*◌, ◌^◌, ◌<◌, ◌≤◌, ℕ, List, [], length, map, min, take, get_or, replicate, ap, arith, refl, sym, append_assoc, length-append}
use Rattle.std.proofs.lemmas.List.{length-replicate, take_all}
use Rattle.byteorder.specs.Endian.{little_bytes}
use Rattle.elf_image.specs.Image.{bytes_of}
use Rattle.guest_words.specs.Words.{head_size, numbers_of, object_bytes, places_from, size_of, texts_of}
use Rattle.guest_words.proofs.WordLaws.{taken_texts, words_more}

length-bytes_of : (words : List ℕ) → length (bytes_of words) ≡ 4 * length words
length-bytes_of [] = refl
length-bytes_of (w ∷ words) = let rest = length-bytes_of words in omega (arith, length-append (little_bytes 4 w) (bytes_of words))

length-places : (at : ℕ) (words : List (List ℕ)) → length (places_from at words) ≡ length words
unfolding places_from
length-places at [] = refl
length-places at (word ∷ words) = ap suc (length-places (at + (length word + 1)) words)

-- the numbers and the words are as many bytes as words take
object_length : (address : ℕ) (words : List (List ℕ)) → length (bytes_of (numbers_of address words) ++ texts_of words) ≡ size_of words
object_length address words =
    let places = places_from (address + head_size (length words)) words in
    omega (arith, length-append (bytes_of (numbers_of address words)) (texts_of words), length-bytes_of (numbers_of address words), length-append places (0 ∷ []), length-places (address + head_size (length words)) words)

-- with zeros after them
pub resized : (address size : ℕ) (words : List (List ℕ)) (bytes : List ℕ) → bytes ≡ bytes_of (numbers_of address words) ++ texts_of words → size_of words ≤ size
    → take size bytes ++ replicate (size - length bytes) 0 ≡ object_bytes address size words
unfolding object_bytes
resized address size words bytes is fits =
    let all : length bytes ≡ size_of words = ap length is ∙ object_length address words in
    ap (λ l. l ++ replicate (size - length bytes) 0) (take_all size bytes (omega (arith, all)))
    ∙ ap (λ n. bytes ++ replicate (size - n) 0) all
    ∙ ap (λ l. l ++ replicate (size - size_of words) 0) is
    ∙ append_assoc (bytes_of (numbers_of address words)) (texts_of words) (replicate (size - size_of words) 0)

-- how many bytes words take, word by word
pub size_none : 8 ≡ min (size_of []) (2 ^ 64 - 1)
unfolding texts_of
size_none = refl

pub size_more : {X : Type 0} (called : X → List ℕ) (words : List X) (i : ℕ) (d : X) (size first last : ℕ) → i < length words → size ≡ min (size_of (map called (take i words))) (2 ^ 64 - 1)
    → first ≡ min (size + 5) (2 ^ 64 - 1) → last ≡ min (first + length (called (get_or words i d))) (2 ^ 64 - 1)
    → last ≡ min (size_of (map called (take (i + 1) words))) (2 ^ 64 - 1)
size_more called words i d size first last within is five word =
    let more : length (map called (take (i + 1) words)) ≡ length (map called (take i words)) + 1 =
    ap length (words_more called words i d within) ∙ length-append (map called (take i words)) (called (get_or words i d) ∷ []) in
    omega (arith, is, five, word, more, taken_texts called words i d within)
