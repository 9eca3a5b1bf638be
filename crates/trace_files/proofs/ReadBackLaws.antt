-- What is written of a reference is read as that reference: proofs.
use Rattle.std.specs.Prelude.{◌≡◌, ℕ, suc, ◌+◌, ◌*◌, ◌/◌, ◌%◌, ◌^◌, ◌<◌, ◌==◌, ◌&&◌, Bool, true, false, cond, nat_eq, nat_lt, List, [], ◌∷◌, ◌++◌, length, drop, map, filter, position, codes, Option, Some, refl}
use Rattle.std.specs.List.{starts_with, position_or_len, flat_map}
use Rattle.std.specs.Char.{digit_value}
use Rattle.std.specs.Fmt.{decimal}
use Rattle.std.specs.Str.Parse.{AllDigits, digits_value}
use Rattle.std.proofs.Common.{arith, sym, ap, subst, ◌∙◌, append_assoc}
use Rattle.std.proofs.Math.Seq.{take-append_seam}
use Rattle.std.proofs.lemmas.Bool.Decides.{nat_tests, Decides-eqb}
use Rattle.std.proofs.lemmas.Fmt.{decimal_is_IsNumeral}
use Rattle.clock_policy.specs.declared.key.Key.{Key}
use Rattle.clock_policy.specs.Text.{key_text}
use Rattle.guest_strings.specs.declared.reference.Reference.{Reference}
use Rattle.text_lines.specs.Text.{parts_at, ahead, is_blank, is_line_end, lines_of, words_of}
use Rattle.byteorder.specs.Endian.{little_bytes}
use Rattle.byteorder.specs.Numbers.{little_number-reads_back}
use Rattle.trace_lines.specs.Ids.{written_below}
use Rattle.trace_lines.proofs.IdLaws.{number_told}
use Rattle.trace_files.specs.Written.{record_bytes, reference_line}
use Rattle.trace_lines.specs.PageIds.{id_of, page_of_id}
use Rattle.trace_lines.specs.PageLines.{is_bar, page_in, words_reference, line_reference, record_page, IsPage, AreReferences}

-- ---- a part that has no end in it

abbrev pub Lacks : (ℕ → Bool) → List ℕ → Type 0
Lacks ends [] = Unit {0}
Lacks ends (c ∷ text) = (ends c ≡ false) × Lacks ends text

pub lacks_both : (ends : ℕ → Bool) (front back : List ℕ) → Lacks ends front → Lacks ends back → Lacks ends (front ++ back)
lacks_both ends [] back h k = k
lacks_both ends (c ∷ front) back h k = (h.0, lacks_both ends front back h.1 k)

pub lacks_digits : (ends : ℕ → Bool) → ((c : ℕ) → digit_value c < 10 → ends c ≡ false) → (text : List ℕ) → AllDigits 10 text → Lacks ends text
lacks_digits ends none [] h = tt
lacks_digits ends none (c ∷ text) h = (none c h.0, lacks_digits ends none text h.1)

pub part_before : (ends : ℕ → Bool) (text : List ℕ) (c : ℕ) (rest : List ℕ) → Lacks ends text → ends c ≡ true → parts_at ends (text ++ c ∷ rest) ≡ text ∷ parts_at ends rest
part_before ends [] c rest h here = rw here refl
part_before ends (d ∷ text) c rest h here = rw h.0 (ap (ahead d) (part_before ends text c rest h.1 here))

part_whole : (ends : ℕ → Bool) (c : ℕ) (text : List ℕ) → Lacks ends (c ∷ text) → parts_at ends (c ∷ text) ≡ (c ∷ text) ∷ []
part_whole ends c [] h = rw h.0 refl
part_whole ends c (d ∷ text) h = rw h.0 (ap (ahead c) (part_whole ends d text h.1))

first_at : (ends : ℕ → Bool) (text : List ℕ) (c : ℕ) (rest : List ℕ) → Lacks ends text → ends c ≡ true → position_or_len ends (text ++ c ∷ rest) ≡ length text
first_at ends [] c rest h here = rw here refl
first_at ends (d ∷ text) c rest h here = rw h.0 (let later = first_at ends text c rest h.1 here in omega (arith, later))

-- ---- digits

pub other_byte : (k c : ℕ) (b : Bool) → (c == k) ≡ b → (digit_value k < 10 → ⊥) → digit_value c < 10 → b ≡ false
other_byte k c false e none h = refl
other_byte k c true e none h = let same : c ≡ k = (Decides-eqb c k).0 e in absurd (none (subst (λ (n : ℕ). digit_value n < 10) same h))

no_blank : (c : ℕ) → digit_value c < 10 → is_blank c ≡ false
no_blank c h =
    let space : (c == 32) ≡ false = other_byte 32 c (c == 32) refl (λ k. absurd (omega (arith, k))) h in
    let tab : (c == 9) ≡ false = other_byte 9 c (c == 9) refl (λ k. absurd (omega (arith, k))) h in
    rw space (rw tab refl)

no_bar : (c : ℕ) → digit_value c < 10 → is_bar c ≡ false
no_bar c h = other_byte 47 c (c == 47) refl (λ k. absurd (omega (arith, k))) h

pub no_line_end : (c : ℕ) → digit_value c < 10 → is_line_end c ≡ false
no_line_end c h = other_byte 10 c (c == 10) refl (λ k. absurd (omega (arith, k))) h

x_is_no_digit : (d : ℕ) (b : Bool) → (120 == d) ≡ b → digit_value d < 10 → b ≡ false
x_is_no_digit d false e h = refl
x_is_no_digit d true e h =
    let same : 120 ≡ d = (Decides-eqb 120 d).0 e in
    let digit : digit_value 120 < 10 = subst (λ (n : ℕ). digit_value n < 10) (sym same) h in
    absurd (omega (arith, digit))

pub and_no : (a b : Bool) → b ≡ false → (a && b) ≡ false
and_no true b h = h
and_no false b h = refl

pub not_hexadecimal : (text : List ℕ) → AllDigits 10 text → starts_with nat_eq text (codes "0x") ≡ false
not_hexadecimal [] h = refl
not_hexadecimal (c ∷ []) h = and_no (48 == c) false refl
not_hexadecimal (c ∷ d ∷ text) h = and_no (48 == c) ((120 == d) && true) (rw (x_is_no_digit d (120 == d) refl h.1.0) refl)

decimal_read : (n : ℕ) → n < 4294967296 → written_below 4294967296 (decimal n) ≡ Some n
unfolding written_below
decimal_read n small =
    let told = decimal_is_IsNumeral n (omega (arith, small)) in
    let fits : digits_value 10 (decimal n) < 4294967296 = omega (arith, told.1, small) in
    rw (not_hexadecimal (decimal n) told.0.1) (sym (number_told 4294967296 10 (decimal n) (Some n) ((told.0, fits), sym told.1)))

-- ---- a page, and the line that is written of it

digits_in : (n : ℕ) → n < 4294967296 → AllDigits 10 (decimal n)
digits_in n small = (decimal_is_IsNumeral n (omega (arith, small))).0.1

pub key_lacks : (ends : ℕ → Bool) → ((c : ℕ) → digit_value c < 10 → ends c ≡ false) → ends 47 ≡ false → (page : Key) → IsPage page → Lacks ends (key_text page)
key_lacks ends none bar page h =
    lacks_both ends (decimal page.process ++ codes "/") (decimal page.vpn)
    (lacks_both ends (decimal page.process) (codes "/") (lacks_digits ends none (decimal page.process) (digits_in page.process h.process)) (bar, tt))
    (lacks_digits ends none (decimal page.vpn) (digits_in page.vpn h.vpn))

key_is : (page : Key) → key_text page ≡ decimal page.process ++ 47 ∷ decimal page.vpn
key_is page = append_assoc (decimal page.process) (47 ∷ []) (decimal page.vpn)

page_read : (page : Key) → IsPage page → page_in (key_text page) ≡ Some page
unfolding page_in
page_read page h =
    let front : List ℕ = decimal page.process in
    let back : List ℕ = decimal page.vpn in
    let place : position_or_len is_bar (front ++ 47 ∷ back) ≡ length front = first_at is_bar front 47 back (lacks_digits is_bar no_bar front (digits_in page.process h.process)) refl in
    let found : position is_bar (front ++ 47 ∷ back) ≡ Some (length front) = found_at front back place in
    let behind : drop (length front + 1) (front ++ 47 ∷ back) ≡ back = behind_bar front back in
    rw (key_is page) (rw found (rw (take-append_seam front (47 ∷ back)) (rw behind (rw (decimal_read page.process h.process) (rw (decimal_read page.vpn h.vpn) refl)))))
  where
    longer : (front back : List ℕ) → length front < length (front ++ 47 ∷ back)
    longer [] back = omega arith
    longer (c ∷ front) back = omega (arith, longer front back)

    found_at : (front back : List ℕ) → position_or_len is_bar (front ++ 47 ∷ back) ≡ length front → position is_bar (front ++ 47 ∷ back) ≡ Some (length front)
    found_at front back place =
        let inside : nat_lt (length front) (length (front ++ 47 ∷ back)) ≡ true = grind (arith, nat_tests, longer front back) in
        rw place (rw inside refl)

    behind_bar : (front back : List ℕ) → drop (length front + 1) (front ++ 47 ∷ back) ≡ back
    behind_bar [] back = refl
    behind_bar (c ∷ front) back = let on : length (c ∷ front) + 1 ≡ suc (length front + 1) = omega arith in rw on (behind_bar front back)

-- a line as it is written, without its line feed
abbrev line_text : Reference → List ℕ
line_text reference = key_text reference.page ++ cond reference.is_written (codes " w") []

line_lacks : (ends : ℕ → Bool) → ((c : ℕ) → digit_value c < 10 → ends c ≡ false) → ends 47 ≡ false → ends 32 ≡ false → ends 119 ≡ false → (page : Key) (written : Bool) → IsPage page
    → Lacks ends (key_text page ++ cond written (codes " w") [])
line_lacks ends none bar space mark page true h = lacks_both ends (key_text page) (codes " w") (key_lacks ends none bar page h) (space, (mark, tt))
line_lacks ends none bar space mark page false h = lacks_both ends (key_text page) [] (key_lacks ends none bar page h) tt

decimal_some : (n : ℕ) → n < 4294967296 → 0 < length (decimal n)
decimal_some n small = (decimal_is_IsNumeral n (omega (arith, small))).0.0

pub key_some : (page : Key) → IsPage page → 0 < length (key_text page)
key_some page h = longer (decimal page.process) (codes "/") (decimal page.vpn) (decimal_some page.process h.process)
  where
    longer : (a b c : List ℕ) → 0 < length a → 0 < length (a ++ b ++ c)
    longer [] b c h = absurd (omega (arith, h))
    longer (x ∷ a) b c h = omega arith

kept_word : (word : List ℕ) (others : List (List ℕ)) → 0 < length word → filter (λ part. nat_lt 0 (length part)) (word ∷ others) ≡ word ∷ filter (λ part. nat_lt 0 (length part)) others
kept_word word others h = let some : nat_lt 0 (length word) ≡ true = grind (arith, nat_tests, h) in rw some refl

one_word : (word : List ℕ) → Lacks is_blank word → 0 < length word → words_of word ≡ word ∷ []
one_word [] h some = absurd (omega (arith, some))
one_word (c ∷ word) h some = rw (part_whole is_blank c word h) (kept_word (c ∷ word) [] some)

word_and_mark : (word : List ℕ) → Lacks is_blank word → 0 < length word → words_of (word ++ codes " w") ≡ word ∷ codes "w" ∷ []
word_and_mark word h some = rw (part_before is_blank word 32 (codes "w") h refl) (kept_word word (codes "w" ∷ []) some)

pub without_more : (text : List ℕ) → text ++ [] ≡ text
without_more [] = refl
without_more (c ∷ text) = ap (λ (l : List ℕ). c ∷ l) (without_more text)

pub line_read : (page : Key) (written : Bool) → IsPage page → line_reference (key_text page ++ cond written (codes " w") []) ≡ Some (record { page = page; is_written = written })
line_read page true h =
    let blank = key_lacks is_blank no_blank refl page h in
    ap words_reference (word_and_mark (key_text page) blank (key_some page h)) ∙ rw (page_read page h) refl
line_read page false h =
    let blank = key_lacks is_blank no_blank refl page h in
    ap line_reference (without_more (key_text page)) ∙ ap words_reference (one_word (key_text page) blank (key_some page h)) ∙ rw (page_read page h) refl

pub lines_read : (references : List Reference) → AreReferences references
    → map line_reference (lines_of (flat_map reference_line references)) ≡ map (λ (reference : Reference). Some reference) references
lines_read [] h = refl
lines_read (r ∷ rs) h =
    let rest : List ℕ = flat_map reference_line rs in
    ap (λ (text : List ℕ). map line_reference (lines_of text)) (append_assoc (line_text r) (10 ∷ []) rest)
    ∙ ap (map line_reference) (part_before is_line_end (line_text r) 10 rest (line_lacks is_line_end no_line_end refl refl refl r.page r.is_written h.0) refl)
    ∙ ap (λ (first : Option Reference). first ∷ map line_reference (lines_of rest)) (line_read r.page r.is_written h.0)
    ∙ ap (λ (others : List (Option Reference)). Some r ∷ others) (lines_read rs h.1)

-- ---- records

pub record_read : (time id size next : ℕ) → id < 2 ^ 64 → record_page (little_bytes 4 time ++ little_bytes 8 id ++ little_bytes 4 size ++ little_bytes 8 next) ≡ Some (page_of_id id)
unfolding record_page
record_read time id size next h = ap (λ (n : ℕ). Some (page_of_id n)) (little_number-reads_back 8 id [] h)

-- an id that stands for a page is read as that page
pub page_back : (page : Key) → IsPage page → page_of_id (id_of page) ≡ page
unfolding page_of_id
page_back page h =
    let vpn = h.vpn in
    let process : (page.process * 4294967296 + page.vpn) / 4294967296 ≡ page.process = omega (arith, vpn) in
    let rest : (page.process * 4294967296 + page.vpn) % 4294967296 ≡ page.vpn = omega (arith, vpn) in
    rw (process, rest) refl

pub record_of_page : (time next : ℕ) (page : Key) → IsPage page → record_page (record_bytes time page next) ≡ Some page
unfolding record_bytes
record_of_page time next page h =
    let process = h.process in
    let vpn = h.vpn in
    record_read time (id_of page) 1 next (omega (arith, process, vpn)) ∙ ap (λ (p : Key). Some p) (page_back page h)

-- each id has a page of its own
pub page_of_one_id : (a b : ℕ) → page_of_id a ≡ page_of_id b → a ≡ b
unfolding page_of_id
page_of_one_id a b e =
    let quotients : a / 4294967296 ≡ b / 4294967296 = ap (λ (page : Key). page.process) e in
    let remainders : a % 4294967296 ≡ b % 4294967296 = ap (λ (page : Key). page.vpn) e in
    omega (arith, quotients, remainders)
