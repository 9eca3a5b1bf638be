-- Pages, cut from a section's bytes.
use Rattle.std.proofs.Common.{◌≡◌, ℕ, ◌+◌, ◌-◌, ◌*◌, ◌<◌, min, List, [], ◌∷◌, ◌++◌, length, map, take, drop, replicate, arith, sym, ap, ◌∙◌, append_assoc, length-drop, zero-add}
use Rattle.std.specs.List.{range_with_len}
use Rattle.std.proofs.lemmas.List.{take_min, drop-replicate}
use Rattle.std.proofs.lemmas.List.FromFn.{map-range_with_len_more}
use Rattle.page_memory.specs.Pages.{overwritten}
use Rattle.elf_image.specs.declared.image.ImagePage.{ImagePage}
use Rattle.elf_image.specs.Image.{padded}

-- the bytes of a page, cut at the end of all bytes
pub page_cut : (bytes : List ℕ) (place : ℕ) → 4096 * place < length bytes → take (min (place * 4096 + 4096) (length bytes) - place * 4096) (drop (place * 4096) bytes) ≡ take 4096 (drop (4096 * place) bytes)
page_cut bytes place h =
    let start : place * 4096 ≡ 4096 * place = omega arith in
    let rest : length (drop (4096 * place) bytes) ≡ length bytes - 4096 * place = length-drop (4096 * place) bytes in
    let cut : min (place * 4096 + 4096) (length bytes) - place * 4096 ≡ min 4096 (length (drop (4096 * place) bytes)) = omega arith in
    ap (λ s. take (min (place * 4096 + 4096) (length bytes) - place * 4096) (drop s bytes)) start
    ∙ ap (λ n. take n (drop (4096 * place) bytes)) cut
    ∙ take_min 4096 (drop (4096 * place) bytes)

-- bytes written at the start of a page of zeros
pub written_first : (bytes : List ℕ) → overwritten (replicate 4096 0) 0 bytes ≡ padded bytes
written_first bytes =
    ap (λ n. bytes ++ drop n (replicate 4096 0)) (zero-add (length bytes)) ∙ ap (λ l. bytes ++ l) (drop-replicate (length bytes) 4096 0)

-- one more page of a section behind those that stand
pub pages_push : (before pages more : List ImagePage) (nth : ℕ → ImagePage) (place : ℕ) (page : ImagePage) → pages ≡ before ++ map nth (range_with_len 0 place) → page ≡ nth place → more ≡ pages ++ page ∷ [] → more ≡ before ++ map nth (range_with_len 0 (place + 1))
pages_push before pages more nth place page so_far is pushed =
    pushed
    ∙ (λ i. so_far i ++ is i ∷ [])
    ∙ append_assoc before (map nth (range_with_len 0 place)) (nth place ∷ [])
    ∙ ap (λ l. before ++ l) (sym (map-range_with_len_more nth 0 place place (omega arith)))
