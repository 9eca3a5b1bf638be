-- Bytes read one by one.
use Rattle.std.proofs.Common.{◌≡◌, ℕ, zero, suc, ◌+◌, ◌<◌, List, [], ◌∷◌, ◌++◌, length, map, take, drop, unwrap_or, slice_set, slice_index_or, Option, None, Some, is_some, true, false, true≢false, ◌-◌, sym, ap, ◌∙◌, refl, append-nil, arith}
use Rattle.std.proofs.Math.Seq.{drop-nil}
use Rattle.std.proofs.lemmas.List.{map-append}
use Rattle.page_memory.specs.Memory.{Memory, byte_at}
use Rattle.debug_core.specs.Points.{all_there, bytes_from}

pub bytes_none : (memory : Memory) (address : ℕ) (bytes : List (Option ℕ)) → bytes ≡ bytes_from memory address 0 ++ drop 0 bytes
unfolding bytes_from
bytes_none memory address bytes = refl

-- the next byte put in its place
pub bytes_more : (memory : Memory) (address i : ℕ) (bytes first : List (Option ℕ)) → i < length first → bytes ≡ bytes_from memory address i ++ drop i first
    → slice_set bytes i (byte_at memory (address + i)) ≡ bytes_from memory address (i + 1) ++ drop (i + 1) first
unfolding bytes_from
bytes_more memory address i bytes first h is =
    let more : suc i ≡ i + 1 = omega arith in
    ap (λ l. slice_set l i (byte_at memory (address + i))) is ∙ put memory address i first h ∙ ap (λ k. bytes_from memory address k ++ drop k first) more
  where
    put : (memory : Memory) (address i : ℕ) (first : List (Option ℕ)) → i < length first → slice_set (bytes_from memory address i ++ drop i first) i (byte_at memory (address + i)) ≡ bytes_from memory address (suc i) ++ drop (suc i) first
    put memory address i [] h = absurd (omega arith)
    put memory address zero (x ∷ first) h = let same : address + 0 ≡ address = omega arith in ap (λ a. byte_at memory a ∷ first) same
    put memory address (suc i) (x ∷ first) h =
        let next : address + suc i ≡ (address + 1) + i = omega arith in
        ap (λ a. byte_at memory address ∷ slice_set (bytes_from memory (address + 1) i ++ drop i first) i (byte_at memory a)) next
        ∙ ap (λ l. byte_at memory address ∷ l) (put memory (address + 1) i first (omega arith))

pub bytes_all : (memory : Memory) (address i : ℕ) (bytes first : List (Option ℕ)) → length first ≡ i → bytes ≡ bytes_from memory address i ++ drop i first → bytes ≡ bytes_from memory address (length first)
bytes_all memory address i bytes first all is =
    is ∙ ap (λ l. bytes_from memory address i ++ l) (none i first all) ∙ append-nil (bytes_from memory address i) ∙ ap (bytes_from memory address) (sym all)
  where
    none : (i : ℕ) (first : List (Option ℕ)) → length first ≡ i → drop i first ≡ []
    none i [] all = drop-nil i
    none zero (x ∷ first) all = absurd (omega (arith, all))
    none (suc i) (x ∷ first) all = none i first (omega (arith, all))

-- ---- whether all are there

pub all_next : (memory : Memory) (address count i : ℕ) → i < count → is_some (byte_at memory (address + i)) ≡ true
    → all_there (bytes_from memory (address + i) (count - i)) ≡ all_there (bytes_from memory (address + (i + 1)) (count - (i + 1)))
unfolding bytes_from all_there
all_next memory address count i h there =
    let left : count - i ≡ suc (count - (i + 1)) = omega (arith, h) in
    let next : (address + i) + 1 ≡ address + (i + 1) = omega arith in
    ap (λ k. all_there (bytes_from memory (address + i) k)) left ∙ skip (byte_at memory (address + i)) (bytes_from memory (address + i + 1) (count - (i + 1))) there
    ∙ ap (λ a. all_there (bytes_from memory a (count - (i + 1)))) next
  where
    skip : (byte : Option ℕ) (bytes : List (Option ℕ)) → is_some byte ≡ true → all_there (byte ∷ bytes) ≡ all_there bytes
    skip None bytes e = absurd (true≢false (sym e))
    skip (Some byte) bytes e = refl

pub one_missing : (memory : Memory) (address count i : ℕ) → i < count → is_some (byte_at memory (address + i)) ≡ false → all_there (bytes_from memory (address + i) (count - i)) ≡ false
unfolding bytes_from all_there
one_missing memory address count i h missing =
    let left : count - i ≡ suc (count - (i + 1)) = omega (arith, h) in
    ap (λ k. all_there (bytes_from memory (address + i) k)) left ∙ stop (byte_at memory (address + i)) (bytes_from memory (address + i + 1) (count - (i + 1))) missing
  where
    stop : (byte : Option ℕ) (bytes : List (Option ℕ)) → is_some byte ≡ false → all_there (byte ∷ bytes) ≡ false
    stop None bytes e = refl
    stop (Some byte) bytes e = absurd (true≢false e)

pub all_past : (memory : Memory) (address i count : ℕ) → i ≡ count → all_there (bytes_from memory address (count - i)) ≡ true
unfolding bytes_from all_there
all_past memory address i count all = let none : count - i ≡ 0 = omega (arith, all) in ap (λ k. all_there (bytes_from memory address k)) none

-- ---- bytes that are there, copied

pub copied_more : (bytes : List (Option ℕ)) (i : ℕ) (copy : List ℕ) (byte : ℕ) → i < length bytes → map Some copy ≡ take i bytes → all_there (drop i bytes) ≡ true
    → byte ≡ unwrap_or (slice_index_or bytes i None) 0 → map Some (copy ++ byte ∷ []) ≡ take (i + 1) bytes
unfolding all_there
copied_more bytes i copy byte h here there is =
    let more : suc i ≡ i + 1 = omega arith in
    map-append Some copy (byte ∷ []) ∙ ap (λ l. l ++ Some byte ∷ []) here ∙ ap (λ b. take i bytes ++ Some b ∷ []) is ∙ one bytes i h there ∙ ap (λ k. take k bytes) more
  where
    one : (bytes : List (Option ℕ)) (i : ℕ) → i < length bytes → all_there (drop i bytes) ≡ true → take i bytes ++ Some (unwrap_or (slice_index_or bytes i None) 0) ∷ [] ≡ take (suc i) bytes
    one [] i h there = absurd (omega arith)
    one (None ∷ bytes) zero h there = absurd (true≢false (sym there))
    one (Some b ∷ bytes) zero h there = refl
    one (b ∷ bytes) (suc i) h there = ap (λ l. b ∷ l) (one bytes i (omega arith) there)

pub there_more : (bytes : List (Option ℕ)) (i : ℕ) → i < length bytes → all_there (drop i bytes) ≡ true → all_there (drop (i + 1) bytes) ≡ true
unfolding all_there
there_more bytes i h there = let more : suc i ≡ i + 1 = omega arith in ap (λ k. all_there (drop k bytes)) (sym more) ∙ rest bytes i h there
  where
    rest : (bytes : List (Option ℕ)) (i : ℕ) → i < length bytes → all_there (drop i bytes) ≡ true → all_there (drop (suc i) bytes) ≡ true
    rest [] i h there = absurd (omega arith)
    rest (None ∷ bytes) zero h there = absurd (true≢false (sym there))
    rest (Some b ∷ bytes) zero h there = there
    rest (b ∷ bytes) (suc i) h there = rest bytes i (omega arith) there
