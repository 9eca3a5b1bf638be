-- Bytes read one by one.
use Rattle.std.proofs.Common.{◌≡◌, ℕ, zero, suc, ◌+◌, ◌-◌, ◌<◌, ◌≤◌, List, [], ◌∷◌, ◌++◌, length, map, take, drop, replicate, get_or, slice_set, Option, Some, sym, ap, ◌∙◌, refl, append-nil, arith}
use Rattle.std.proofs.lemmas.List.{set_at, drop_more, map-append, take_more, get_or-drop, length-drop, length-map, length-take-le, drop_all, take-replicate, drop-replicate}
use Rattle.frame_pool.specs.FrameValue.{zero_bytes}
use Rattle.page_store.specs.Reading.{some_from}

pub some_none : (page : List ℕ) (offset : ℕ) (bytes : List (Option ℕ)) → bytes ≡ some_from page offset 0 ++ drop 0 bytes
unfolding some_from
some_none page offset bytes = refl

next : (page : List ℕ) (offset i : ℕ) → offset + i < length page → some_from page offset i ++ Some (get_or page (offset + i) 0) ∷ [] ≡ some_from page offset (i + 1)
unfolding some_from
next page offset i within =
    let size : i < length (drop offset page) = let l = length-drop offset page in omega (arith, l, within) in
    ap (λ b. map Some (take i (drop offset page)) ++ Some b ∷ []) (sym (get_or-drop offset page i 0))
    ∙ sym (map-append Some (take i (drop offset page)) (get_or (drop offset page) i 0 ∷ []))
    ∙ ap (map Some) (sym (take_more (drop offset page) i 0 size))

size_of : (page : List ℕ) (offset count : ℕ) → offset + count ≤ length page → length (some_from page offset count) ≡ count
unfolding some_from
size_of page offset count within =
    length-map (take count (drop offset page)) Some
    ∙ length-take-le count (drop offset page) (let l = length-drop offset page in omega (arith, l, within))

-- the next byte put in its place
pub some_more : (page : List ℕ) (offset i : ℕ) (bytes first : List (Option ℕ)) → i < length first → offset + i < length page → bytes ≡ some_from page offset i ++ drop i first
    → slice_set bytes i (Some (get_or page (offset + i) 0)) ≡ some_from page offset (i + 1) ++ drop (i + 1) first
some_more page offset i bytes first h within is =
    let byte : Option ℕ = Some (get_or page (offset + i) 0) in
    let split : drop i first ≡ get_or first i byte ∷ drop (i + 1) first = drop_more first i byte h in
    ap (λ l. slice_set l i byte) (is ∙ ap (λ l. some_from page offset i ++ l) split)
    ∙ set_at (some_from page offset i) (get_or first i byte) (drop (i + 1) first) byte i (size_of page offset i (omega (arith, within)))
    ∙ pushed (some_from page offset i) byte (drop (i + 1) first)
    ∙ ap (λ l. l ++ drop (i + 1) first) (next page offset i within)
  where
    pushed : (front : List (Option ℕ)) (b : Option ℕ) (back : List (Option ℕ)) → front ++ b ∷ back ≡ (front ++ b ∷ []) ++ back
    pushed [] b back = refl
    pushed (x ∷ front) b back = ap (λ l. x ∷ l) (pushed front b back)

pub some_all : (page : List ℕ) (offset i : ℕ) (bytes first : List (Option ℕ)) → length first ≡ i → bytes ≡ some_from page offset i ++ drop i first → bytes ≡ some_from page offset (length first)
some_all page offset i bytes first all is =
    is ∙ ap (λ l. some_from page offset i ++ l) (drop_all i first (omega (arith, all))) ∙ append-nil (some_from page offset i) ∙ ap (some_from page offset) (sym all)

-- of a page of zeros
pub some_zeros : (offset count : ℕ) → offset + count ≤ 4096 → replicate count (Some 0) ≡ some_from zero_bytes offset count
unfolding some_from zero_bytes
some_zeros offset count within =
    sym (all count)
    ∙ ap (map Some) (sym (take-replicate count (4096 - offset) 0 (omega (arith, within))) ∙ ap (take count) (sym (drop-replicate offset 4096 0)))
  where
    all : (count : ℕ) → map {A = ℕ} Some (replicate count 0) ≡ replicate count (Some 0)
    all zero = refl
    all (suc count) = ap (λ l. Some 0 ∷ l) (all count)
