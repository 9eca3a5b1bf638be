-- A page's bytes as its words are written one after another.
use Rattle.std.proofs.Common.{◌≡◌, ◌≢◌, ℕ, ◌+◌, ◌-◌, ◌*◌, ◌<◌, ◌≤◌, min, List, [], ◌∷◌, ◌++◌, length, take, drop, replicate, map, slice_index, slice_index_or, arith, refl, sym, ap, ◌∙◌, subst, append_assoc, append-nil, take_all, length-drop, length-take, IsTrue, ◌&&◌, ◌==◌, lit<}
use Rattle.std.specs.List.{range_with_len, list_any}
use Rattle.std.proofs.lemmas.List.{take_min, take_more, drop-replicate, nil_from_length}
use Rattle.std.proofs.lemmas.Grind.{flat_map-append}
use Rattle.std.proofs.lemmas.List.FromFn.{get_or-map-range_with_len, length-map-range_with_len}
use Rattle.std.proofs.Math.Seq.{drop-append-add, take-append_seam}
use Rattle.byteorder.specs.Endian.{little_bytes}
use Rattle.page_memory.specs.Pages.{overwritten}
use Rattle.page_memory.specs.Rights.{may}
use Rattle.page_memory.specs.declared.words.Access.TheVariants.{Fetch, Load}
use Rattle.std.proofs.lemmas.List.Folds.{list_any_at}
use Rattle.page_memory.specs.Words.{page_offset}
use Rattle.elf_image.specs.declared.image.ImagePage.{ImagePage}
use Rattle.elf_image.specs.Image.{IsLawful, bytes_of, padded, word_page, word_pages, most_words}
use Rattle.elf_image.proofs.ImageLaws.{length-bytes_of}
use Rattle.elf_image.proofs.PartsLaws.{neighbours}

-- one more word's bytes
bytes_more : (words : List ℕ) (i : ℕ) → i < length words → bytes_of (take (i + 1) words) ≡ bytes_of (take i words) ++ little_bytes 4 (slice_index words i)
bytes_more words i h =
    ap bytes_of (take_more words i 0 h)
    ∙ flat_map-append (little_bytes 4) (take i words) (slice_index words i ∷ [])
    ∙ ap (λ l. bytes_of (take i words) ++ l) (append-nil (little_bytes 4 (slice_index words i)))

-- four bytes written behind those that stand before zeros
over_zeros : (before bytes : List ℕ) (place n : ℕ) → length before ≡ place → length bytes ≡ 4 → overwritten (before ++ replicate n 0) place bytes ≡ (before ++ bytes) ++ replicate (n - 4) 0
over_zeros before bytes place n e four =
    subst (λ p. overwritten (before ++ replicate n 0) p bytes ≡ (before ++ bytes) ++ replicate (n - 4) 0) e
    (rw (take-append_seam, drop-append-add before (replicate n 0) (length bytes), drop-replicate, four) (sym (append_assoc before bytes (replicate (n - 4) 0))))

pub word_written : (words bytes : List ℕ) (address i : ℕ) → address ≡ 4 * i → i < length words → length words ≤ 1024 → bytes ≡ bytes_of (take i words) ++ replicate (4096 - 4 * i) 0 → overwritten bytes (page_offset address) (little_bytes 4 (slice_index words i)) ≡ bytes_of (take (i + 1) words) ++ replicate (4096 - 4 * (i + 1)) 0
word_written words bytes address i at h few is =
    let new : List ℕ = little_bytes 4 (slice_index words i) in
    let offset : page_offset address ≡ 4 * i = omega arith in
    let front : length (bytes_of (take i words)) ≡ 4 * i = omega (arith, length-bytes_of (take i words), length-take i words) in
    let left : 4096 - 4 * i - 4 ≡ 4096 - 4 * (i + 1) = omega arith in
    ap (λ b. overwritten b (page_offset address) (little_bytes 4 (slice_index words i))) is
    ∙ ap (λ p. overwritten (bytes_of (take i words) ++ replicate (4096 - 4 * i) 0) p (little_bytes 4 (slice_index words i))) offset
    ∙ over_zeros (bytes_of (take i words)) (little_bytes 4 (slice_index words i)) (4 * i) (4096 - 4 * i) front refl
    ∙ ap (λ l. l ++ replicate (4096 - 4 * i - 4) 0) (sym (bytes_more words i h))
    ∙ ap (λ n. bytes_of (take (i + 1) words) ++ replicate n 0) left

-- when all words are written
pub words_written : (words bytes : List ℕ) (i : ℕ) → length words ≤ i → i ≤ length words → bytes ≡ bytes_of (take i words) ++ replicate (4096 - 4 * i) 0 → bytes ≡ padded (bytes_of words)
words_written words bytes i past within is =
    let size = length-bytes_of words in
    let left : 4096 - 4 * i ≡ 4096 - length (bytes_of words) = omega arith in
    is ∙ ap (λ l. bytes_of l ++ replicate (4096 - 4 * i) 0) (take_all i words past) ∙ ap (λ n. bytes_of words ++ replicate n 0) left

-- the words of a page, cut at the end of all words
pub page_cut : (words : List ℕ) (place : ℕ) → 1024 * place < length words → take (min (place * 1024 + 1024) (length words) - place * 1024) (drop (place * 1024) words) ≡ take 1024 (drop (1024 * place) words)
page_cut words place h =
    let start : place * 1024 ≡ 1024 * place = omega arith in
    let rest : length (drop (1024 * place) words) ≡ length words - 1024 * place = length-drop (1024 * place) words in
    let cut : min (place * 1024 + 1024) (length words) - place * 1024 ≡ min 1024 (length (drop (1024 * place) words)) = omega arith in
    ap (λ s. take (min (place * 1024 + 1024) (length words) - place * 1024) (drop s words)) start
    ∙ ap (λ n. take n (drop (1024 * place) words)) cut
    ∙ take_min 1024 (drop (1024 * place) words)

pub lawful_words : (words : List ℕ) (pages : List ImagePage) → words ≢ [] → length words ≤ most_words → pages ≡ map (word_page words) (range_with_len 0 (word_pages words)) → IsLawful (record { entry = 65536; pages = pages })
lawful_words words pages some few e =
    let count : length pages ≡ word_pages words = ap length e ∙ length-map-range_with_len (word_page words) 0 (word_pages words) in
    let most : word_pages words ≤ 4032 = omega arith in
    record {
      pages = record {
        rising = λ i j d below within. let a = ap (λ (p : ImagePage). p.number) (at i d (omega arith)) in let b = ap (λ (p : ImagePage). p.number) (at j d within) in omega arith;
        low = λ i d within. let a = ap (λ (p : ImagePage). p.number) (at i d within) in omega arith;
        few = omega arith;
        compact = (neighbours 16 pages (omega arith) (λ i d within. ap (λ (p : ImagePage). p.number) (at i d within))).1;
        plain = λ i d within. subst (λ (p : ImagePage). p.page.rights.0 < 8) (sym (at i d within)) (lit< tt);
        readable = λ i d within _. subst (λ (p : ImagePage). IsTrue (may Load p.page.rights)) (sym (at i d within)) refl;
      };
      entered = entered pages count most e;
    }
  where
    some_page : word_pages words ≢ 0
    some_page none = some (nil_from_length words (omega arith))

    entered : (pages : List ImagePage) → length pages ≡ word_pages words → word_pages words ≤ 4032 → pages ≡ map (word_page words) (range_with_len 0 (word_pages words)) → IsTrue (list_any (λ listed. (listed.number == 16) && may Fetch listed.page.rights) pages)
    entered [] count most e = absurd (some_page (sym count))
    entered (p ∷ rest) count most e = list_any_at (λ (listed : ImagePage). (listed.number == 16) && may Fetch listed.page.rights) (p ∷ rest) 0 p (omega arith) (ap (λ (listed : ImagePage). (listed.number == 16) && may Fetch listed.page.rights) first)
      where
        first : p ≡ word_page words 0
        first = ap (λ l. slice_index_or l 0 p) e ∙ get_or-map-range_with_len (word_page words) 0 (word_pages words) 0 0 p (omega arith) refl

    at : (i : ℕ) (d : ImagePage) → i < length pages → slice_index_or pages i d ≡ word_page words i
    at i d within =
        let count : length pages ≡ word_pages words = ap length e ∙ length-map-range_with_len (word_page words) 0 (word_pages words) in
        ap (λ l. slice_index_or l i d) e ∙ get_or-map-range_with_len (word_page words) 0 (word_pages words) i i d (omega arith) (omega arith)
