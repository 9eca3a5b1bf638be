-- Numbers and pages as their digits come: proofs.
use Rattle.std.specs.Prelude.{◌≡◌, ℕ, ◌+◌, ◌*◌, ◌/◌, ◌%◌, ◌<◌, false, List, [], ◌∷◌, ◌++◌, refl}
use Rattle.std.specs.Fmt.{decimal}
use Rattle.std.proofs.Common.{arith, sym, ap, ◌∙◌, append-nil, append_assoc}
use Rattle.std.proofs.lemmas.Fmt.{decimal_digit, decimal_step}
use Rattle.clock_policy.specs.declared.key.Key.{Key}
use Rattle.clock_policy.specs.Text.{key_text}
use Rattle.guest_strings.specs.declared.reference.Reference.{Reference}
use Rattle.trace_lines.specs.PageLines.{IsPage, referred}
use Rattle.trace_files.specs.WrittenPages.{EachIsPage, page_lines, read_only, AddsPages}

pub digit_alone : (byte digit : ℕ) (rest : List ℕ) → byte ≡ 48 + digit → digit < 10 → byte ∷ rest ≡ decimal digit ++ rest
digit_alone byte digit rest is small = ap (λ (c : ℕ). c ∷ rest) is ∙ ap (λ (l : List ℕ). l ++ rest) (sym (decimal_digit digit small))

pub digit_more : (number byte digit : ℕ) (rest : List ℕ) → 0 < number → number < 400000000 → byte ≡ 48 + digit → digit < 10 → decimal number ++ byte ∷ rest ≡ decimal (10 * number + digit) ++ rest
digit_more number byte digit rest some few is small =
    let m : ℕ = 10 * number + digit in
    let front : m / 10 ≡ number = omega (arith, small) in
    let end : 48 + m % 10 ≡ byte = omega (arith, small, is) in
    sym (append_assoc (decimal number) (byte ∷ []) rest)
    ∙ ap (λ (l : List ℕ). l ++ rest) (sym (decimal_step m (omega (arith, some)) (omega (arith, few, small)) ∙ (λ i. decimal (front i) ++ (end i ∷ []))))

pub page_before : (process vpn : ℕ) (text first second third rest : List ℕ) → text ≡ decimal process ++ first → first ≡ 47 ∷ second → second ≡ decimal vpn ++ third → third ≡ 10 ∷ rest
    → text ≡ key_text (record { process = process; vpn = vpn }) ++ 10 ∷ rest
page_before process vpn text first second third rest a b c d =
    a ∙ ap (λ (l : List ℕ). decimal process ++ l) (b ∙ ap (λ (l : List ℕ). 47 ∷ l) (c ∙ ap (λ (l : List ℕ). decimal vpn ++ l) d))
    ∙ sym (append_assoc (decimal process) (47 ∷ decimal vpn) (10 ∷ rest))
    ∙ ap (λ (l : List ℕ). l ++ 10 ∷ rest) (sym (append_assoc (decimal process) (47 ∷ []) (decimal vpn)))

lines_after : (pages : List Key) (page : Key) (rest : List ℕ) → page_lines (pages ++ page ∷ []) ++ rest ≡ page_lines pages ++ (key_text page ++ 10 ∷ rest)
lines_after [] page rest = append_assoc (key_text page) (10 ∷ []) rest
lines_after (p ∷ pages) page rest =
    append_assoc (key_text p) (10 ∷ page_lines (pages ++ page ∷ [])) rest
    ∙ ap (λ (l : List ℕ). key_text p ++ 10 ∷ l) (lines_after pages page rest)
    ∙ sym (append_assoc (key_text p) (10 ∷ page_lines pages) (key_text page ++ 10 ∷ rest))

pages_after : (pages : List Key) (page : Key) → EachIsPage pages → IsPage page → EachIsPage (pages ++ page ∷ [])
pages_after [] page h here = (here, tt)
pages_after (p ∷ pages) page h here = (h.0, pages_after pages page h.1 here)

pub none_added : (text : List ℕ) (block : List Reference) → AddsPages text text block block
none_added text block = ([], (sym (append-nil block), (refl, tt)))

read_after : (pages : List Key) (page : Key) → read_only (pages ++ page ∷ []) ≡ read_only pages ++ referred false page ∷ []
read_after [] page = refl
read_after (p ∷ pages) page = ap (λ (l : List Reference). referred false p ∷ l) (read_after pages page)

pub one_added : (text now rest : List ℕ) (old block : List Reference) (page : Key) → AddsPages text now old block → now ≡ key_text page ++ 10 ∷ rest → IsPage page → AddsPages text rest old (block ++ referred false page ∷ [])
one_added text now rest old block page added is here = (
  added.0 ++ page ∷ [],
  (
    ap (λ (l : List Reference). l ++ referred false page ∷ []) added.1.0 ∙ append_assoc old (read_only added.0) (referred false page ∷ []) ∙ ap (λ (l : List Reference). old ++ l) (sym (read_after added.0 page)),
    (
      added.1.1.0 ∙ ap (λ (l : List ℕ). page_lines added.0 ++ l) is ∙ sym (lines_after added.0 page rest),
      pages_after added.0 page added.1.1.1 here,
    ),
  ),
)
