-- Decoded pages that are made one instruction after another.
use Rattle.std.proofs.Common.{◌≡◌, ◌≢◌, ◌+◌, ◌*◌, ◌%◌, ◌^◌, ◌<◌, ℕ, List, [], ◌∷◌, ◌++◌, length, drop, slice_index_or, slice_set, ◌≤◌, ap, ◌∙◌, sym, subst, arith, inl, inr}
use Rattle.std.proofs.Math.Seq.{get_or-append_seam}
use Rattle.std.proofs.lemmas.Bool.Decides.{eqb_tells}
use Rattle.std.proofs.lemmas.List.{get_or_append_left, get_or_default, get_or-set_other, get_or-set_same, length-append}
use Rattle.byteorder.specs.Endian.{little_number}
use Rattle.page_memory.specs.declared.rights.Rights.{Rights}
use Rattle.page_memory.specs.Words.{page_offset}
use Rattle.decoded_pages.specs.declared.instruction.DecodedInstruction.{DecodedInstruction}
use Rattle.decoded_pages.specs.declared.page.DecodedPage.{DecodedPage}
use Rattle.decoded_pages.specs.Classes.{class_of, EndsLine, Undecoded}
use Rattle.decoded_pages.specs.Code.{IsDecoded}
use Rattle.decoded_pages.specs.Lines.{LinesFrom}
use Rattle.decoded_pages.specs.Stands.{Stands}

-- the first of some instructions stand for the words of a page that starts there
abbrev pub StandBelow : (count start : ℕ) → List ℕ → List DecodedInstruction → Type 0
StandBelow count start bytes instructions = (place : ℕ) (d : DecodedInstruction) → place < count
    → Stands (slice_index_or instructions place d) start place (little_number 4 (drop (page_offset (start + place * 4)) bytes))

at_last : (place count : ℕ) → place < count + 1 → place ≢ count → place < count
at_last place count within apart = omega arith

pub one_more_stands : (count start : ℕ) (bytes : List ℕ) (old new : List DecodedInstruction) (decoded : DecodedInstruction) → length old ≡ count → new ≡ old ++ decoded ∷ []
    → StandBelow count start bytes old → Stands decoded start count (little_number 4 (drop (page_offset (start + count * 4)) bytes)) → StandBelow (count + 1) start bytes new
one_more_stands count start bytes old new decoded long pushed below one = λ place d within.
    subst (λ l. Stands (slice_index_or l place d) start place (little_number 4 (drop (page_offset (start + place * 4)) bytes))) (sym pushed)
    (elim (eqb_tells place count) [
      | inl same ↦
          let here : slice_index_or (old ++ decoded ∷ []) place d ≡ decoded = ap (λ n. slice_index_or (old ++ decoded ∷ []) n d) (same.1 ∙ sym long) ∙ get_or-append_seam old decoded [] d in
          subst (λ i. Stands i start place (little_number 4 (drop (page_offset (start + place * 4)) bytes))) (sym here)
          (subst (λ n. Stands decoded start n (little_number 4 (drop (page_offset (start + n * 4)) bytes))) (sym same.1) one)
      | inr apart ↦
          let before = at_last place count within apart.1 in
          let here : slice_index_or (old ++ decoded ∷ []) place d ≡ slice_index_or old place d = get_or_append_left old (decoded ∷ []) d place (omega (arith, before, long)) in
          subst (λ i. Stands i start place (little_number 4 (drop (page_offset (start + place * 4)) bytes))) (sym here) (below place d before)
    ])

pub whole_page : (page : DecodedPage) (bytes : List ℕ) (rights : Rights) (old : List DecodedInstruction) (decoded : DecodedInstruction) → page.start % 4096 ≡ 0 → page.start < 2 ^ 32 → length old ≡ 1024
    → page.instructions.items ≡ old ++ decoded ∷ [] → StandBelow 1024 page.start bytes old → class_of decoded.operation ≡ Undecoded
    → length page.ends.items ≡ 1025 → LinesFrom 0 page.instructions.items page.ends.items → IsDecoded page (record { rights = rights; bytes = bytes })
whole_page page bytes rights old decoded aligned small long pushed below class counted lines =
    record {
      aligned = aligned;
      small = small;
      whole = ap length pushed ∙ length-append old (decoded ∷ []) ∙ ap (λ n. n + 1) long;
      stands = λ place d within.
          let here : slice_index_or page.instructions.items place d ≡ slice_index_or old place d = ap (λ l. slice_index_or l place d) pushed ∙ get_or_append_left old (decoded ∷ []) d place (omega (arith, within, long)) in
          subst (λ i. Stands i page.start place (little_number 4 (drop (page_offset (page.start + place * 4)) bytes))) (sym here) (below place d within);
      counted = counted;
      lines = λ place d e within. lines place d e (omega arith) within;
      last = λ d.
          let here : slice_index_or page.instructions.items 1024 d ≡ decoded = ap (λ l. slice_index_or l 1024 d) pushed ∙ ap (λ n. slice_index_or (old ++ decoded ∷ []) n d) (sym long) ∙ get_or-append_seam old decoded [] d in
          ap (λ (i : DecodedInstruction). class_of i.operation) here ∙ class;
    }

-- ---- ends of straight lines, from the last instruction back

at_first : (place first : ℕ) → first ≤ place → place ≢ first → first + 1 ≤ place
at_first place first above apart = omega arith

pub one_more_line : (first end next : ℕ) (instructions : List DecodedInstruction) (ends : List ℕ) (decoded : DecodedInstruction) → first < 1024 → length ends ≡ 1025
    → decoded ≡ slice_index_or instructions first decoded → length instructions ≡ 1025 → next ≡ slice_index_or ends (first + 1) next → EndsLine (class_of decoded.operation) first end next
    → LinesFrom (first + 1) instructions ends → LinesFrom first instructions (slice_set ends first end)
one_more_line first end next instructions ends decoded small long at many is line lines = λ place d e above below.
    let after : slice_index_or (slice_set ends first end) (place + 1) e ≡ slice_index_or ends (place + 1) e = get_or-set_other ends first (place + 1) end e (omega (arith, above)) in
    elim (eqb_tells place first) [
      | inl same ↦
          let here : slice_index_or (slice_set ends first end) place e ≡ end = ap (λ n. slice_index_or (slice_set ends first end) n e) same.1 ∙ get_or-set_same ends first end e (omega (arith, small, long)) in
          let next_here : slice_index_or (slice_set ends first end) (place + 1) e ≡ next =
          after ∙ ap (λ n. slice_index_or ends (n + 1) e) same.1 ∙ get_or_default ends (first + 1) e next (omega (arith, small, long)) ∙ sym is in
          let one : slice_index_or instructions place d ≡ decoded = ap (λ n. slice_index_or instructions n d) same.1 ∙ get_or_default instructions first d decoded (omega (arith, small, many)) ∙ sym at in
          subst (λ (i : DecodedInstruction). EndsLine (class_of i.operation) place (slice_index_or (slice_set ends first end) place e) (slice_index_or (slice_set ends first end) (place + 1) e)) (sym one)
          (subst (λ n. EndsLine (class_of decoded.operation) place n (slice_index_or (slice_set ends first end) (place + 1) e)) (sym here)
          (subst (λ n. EndsLine (class_of decoded.operation) place end n) (sym next_here)
          (subst (λ n. EndsLine (class_of decoded.operation) n end next) (sym same.1) line)))
      | inr apart ↦
          let behind = at_first place first above apart.1 in
          let here : slice_index_or (slice_set ends first end) place e ≡ slice_index_or ends place e = get_or-set_other ends first place end e (omega (arith, behind)) in
          subst (λ n. EndsLine (class_of (slice_index_or instructions place d).operation) place n (slice_index_or (slice_set ends first end) (place + 1) e)) (sym here)
          (subst (λ n. EndsLine (class_of (slice_index_or instructions place d).operation) place (slice_index_or ends place e) n) (sym after) (lines place d e behind below))
    ]
