-- Numbers, digests and cut texts that are written and read: proofs.
use Rattle.std.proofs.Common.{◌≡◌, ℕ, zero, suc, ◌+◌, ◌*◌, ◌<◌, ◌≤◌, ◌==◌, Bool, true, false, ◌&&◌, nat_le, nat_lt, List, [], ◌∷◌, ◌++◌, length, get_or, Option, Some, None, cond, refl, sym, ap, subst, arith, ◌∙◌, inl, inr, ◌⊎◌}
use Rattle.std.specs.Prelude.{slice_index, Result, Ok, Err}
use Rattle.std.specs.Bool.{Decides}
use Rattle.std.specs.Option.{SomeIff, option_map, unwrap_or}
use Rattle.std.specs.List.{list_all}
use Rattle.std.specs.Char.{digit_value}
use Rattle.std.specs.Fmt.{decimal}
use Rattle.std.specs.Str.{bytes_eq}
use Rattle.std.specs.Str.Parse.{AllDigits, IsNumeral, digits_value, digits_value_after}
use Rattle.std.proofs.lemmas.Bool.Decides.{Decides-and, Decides-ltb, Decides-eqb, nat_tests, leb_tells}
use Rattle.std.proofs.lemmas.Fmt.{decimal_is_IsNumeral, decimal_digit, first_decimal, decimal-digits_value}
use Rattle.std.proofs.lemmas.Str.Parse.{numerals_by_value, tells_digits}
use Rattle.std.proofs.lemmas.Slice.Eq.{bytes_eq-Decides}
use Rattle.std.proofs.lemmas.Option.{none-some}
use Rattle.hex.specs.Hex.{encode_lower, encode_with, lower_digits, decode_sized, IsBytes}
use Rattle.hex.specs.declared.error.FromHexError.{FromHexError}
use Rattle.hex.proofs.HexLemmas.{decode_sized-encode_lower}
use Rattle.run_records.specs.Words.{cut, is_space, longer, is_numeral, numeral_of, is_padded, up_to, number_of, written_so, digest_of}

pub some_same : {A : Type 0} (x y : A) → Some x ≡ Some y → x ≡ y
some_same x y e = ap (λ o. unwrap_or o x) e

-- ---- the number that digits write

at_least : (n radix : ℕ) → 1 ≤ radix → n ≤ n * radix
at_least n radix h = grind arith

-- more digits never make a number smaller
pub digits_grow : (radix n : ℕ) (digits : List ℕ) → 1 ≤ radix → n ≤ digits_value_after radix n digits
digits_grow radix n [] h = omega arith
digits_grow radix n (c ∷ digits) h = omega (arith, at_least n radix h, digits_grow radix (n * radix + digit_value c) digits h)

digits_decided : (text : List ℕ) → Decides (list_all (λ c. nat_lt (digit_value c) 10) text) (AllDigits 10 text)
digits_decided [] = (λ _. tt, λ _. refl)
digits_decided (c ∷ text) = Decides-and _ _ (Decides-ltb (digit_value c) 10) (digits_decided text)

abbrev Writes : List ℕ → Type 0
Writes text = IsNumeral 10 text × (digits_value 10 text < 18446744073709551616)

abbrev writes : List ℕ → Bool
writes text = is_numeral text && nat_lt (digits_value 10 text) 18446744073709551616

writes_decided : (text : List ℕ) → Decides (writes text) (Writes text)
writes_decided text = Decides-and _ _ (Decides-and _ _ (Decides-ltb 0 (length text)) (digits_decided text)) (Decides-ltb (digits_value 10 text) 18446744073709551616)

by_test : (P : Type 0) (b : Bool) (r : Option ℕ) (v : ℕ) → Decides b P → SomeIff r P v → r ≡ cond b (Some v) None
by_test P true None v d h = absurd (h (d.0 refl))
by_test P true (Some x) v d h = ap Some h.1
by_test P false None v d h = refl
by_test P false (Some x) v d h = let e : false ≡ true = d.1 h.0 in cc

pub number_told : (text : List ℕ) (r : Option ℕ) → SomeIff r (IsNumeral 10 text × (digits_value 10 text < 18446744073709551616)) (digits_value 10 text) → r ≡ numeral_of text
unfolding numeral_of
number_told text r h = by_test (Writes text) (writes text) r (digits_value 10 text) (writes_decided text) h

told_back : (P : Type 0) (b : Bool) (v n : ℕ) → Decides b P → cond b (Some v) None ≡ Some n → P × (v ≡ n)
told_back P true v n d e = (d.0 refl, cc)
told_back P false v n d e = absurd (none-some n e)

numeral_is : (text : List ℕ) (n : ℕ) → numeral_of text ≡ Some n → Writes text × (digits_value 10 text ≡ n)
unfolding numeral_of
numeral_is text n e = told_back (Writes text) (writes text) (digits_value 10 text) n (writes_decided text) e

-- ---- a number is written with no zero in front

no_other : (k c : ℕ) (b : Bool) → (c == k) ≡ b → k < c → b ≡ false
no_other k c false e h = refl
no_other k c true e h = let same : c ≡ k = (Decides-eqb c k).0 e in absurd (omega (arith, same, h))

and_no : (a b : Bool) → b ≡ false → (a && b) ≡ false
and_no true b h = h
and_no false b h = refl

decimal_plain : (n : ℕ) → n < 18446744073709551616 → is_padded (decimal n) ≡ false
decimal_plain n small =
    elim (leb_tells 10 n) [
      | inl high ↦ and_no (nat_lt 1 (length (decimal n))) (slice_index (decimal n) 0 == 48) (no_other 48 (slice_index (decimal n) 0) _ refl (first_decimal n (omega (arith, high)) small))
      | inr low ↦ let e : decimal n ≡ (48 + n) ∷ [] = decimal_digit n (omega (arith, low)) in ap is_padded e
    ]

pub number_read : (most n : ℕ) → n ≤ most → most < 18446744073709551616 → number_of most (decimal n) ≡ Some n
unfolding number_of
number_read most n within small =
    let fits : n < 18446744073709551616 = omega (arith, within, small) in
    let told = decimal_is_IsNumeral n fits in
    let value : digits_value 10 (decimal n) ≡ n = told.1 in
    let below : digits_value 10 (decimal n) < 18446744073709551616 = omega (arith, value, fits) in
    let is : numeral_of (decimal n) ≡ Some n = sym (number_told (decimal n) (Some n) ((told.0, below), sym value)) in
    let le : nat_le n most ≡ true = grind (arith, nat_tests, within) in
    rw (decimal_plain n fits) (rw is (rw le refl))

within_told : (most m n : ℕ) (b : Bool) → cond b (Some m) None ≡ Some n → m ≡ n
within_told most m n true e = cc
within_told most m n false e = absurd (none-some n e)

plain_first : (text : List ℕ) → is_padded text ≡ false → get_or text 0 0 ≡ 48 → (length text ≡ 1) ⊎ (length text ≡ 0)
plain_first [] e h = inr refl
plain_first (c ∷ []) e h = inl refl
plain_first (c ∷ d ∷ text) e h = absurd (padded c d text e h)
  where
    padded : (c d : ℕ) (text : List ℕ) → is_padded (c ∷ d ∷ text) ≡ false → c ≡ 48 → ⊥
    padded c d text e h =
        let long : nat_lt 1 (length (c ∷ d ∷ text)) ≡ true = grind (arith, nat_tests) in
        let zero : (c == 48) ≡ true = (Decides-eqb c 48).1 h in
        let both : is_padded (c ∷ d ∷ text) ≡ true = rw long (rw zero refl) in
        cc

written_numeral : (text : List ℕ) (m : ℕ) → is_padded text ≡ false → numeral_of text ≡ Some m → decimal m ≡ text
written_numeral text m plain e =
    let is = numeral_is text m e in
    let some : 0 < length text = is.0.0.0 in
    let alone : get_or text 0 0 ≡ 48 → length text ≡ 1 = λ h. elim (plain_first text plain h) [ inl one ↦ one | inr none ↦ absurd (omega (arith, some, none)) ] in
    ap decimal (sym is.1) ∙ decimal-digits_value (numerals_by_value (AllDigits 10) tells_digits) text is.0.0.1 some alone is.0.1

pub number_written : (most : ℕ) (text : List ℕ) (n : ℕ) → number_of most text ≡ Some n → decimal n ≡ text
unfolding number_of
number_written most text n e = by_pad (is_padded text) refl (numeral_of text) refl e
  where
    by_pad : (b : Bool) → is_padded text ≡ b → (o : Option ℕ) → numeral_of text ≡ o → cond b None (up_to most o) ≡ Some n → decimal n ≡ text
    by_pad true padded o is e = absurd (none-some n e)
    by_pad false plain None is e = absurd (none-some n e)
    by_pad false plain (Some m) is e =
        let same : m ≡ n = within_told most m n (nat_le m most) e in
        ap decimal (sym same) ∙ written_numeral text m plain is

-- ---- texts with no space, or with no line end

abbrev pub Lacks : (ℕ → Bool) → List ℕ → Type 0
Lacks ends [] = Unit {0}
Lacks ends (c ∷ text) = (ends c ≡ false) × Lacks ends text

pub lacks_both : (ends : ℕ → Bool) (front back : List ℕ) → Lacks ends front → Lacks ends back → Lacks ends (front ++ back)
lacks_both ends [] back h k = k
lacks_both ends (c ∷ front) back h k = (h.0, lacks_both ends front back h.1 k)

lacks_digits : (ends : ℕ → Bool) → ((c : ℕ) → digit_value c < 10 → ends c ≡ false) → (text : List ℕ) → AllDigits 10 text → Lacks ends text
lacks_digits ends none [] h = tt
lacks_digits ends none (c ∷ text) h = (none c h.0, lacks_digits ends none text h.1)

pub decimal_lacks : (ends : ℕ → Bool) → ((c : ℕ) → digit_value c < 10 → ends c ≡ false) → (n : ℕ) → n < 18446744073709551616 → Lacks ends (decimal n)
decimal_lacks ends none n small = lacks_digits ends none (decimal n) (decimal_is_IsNumeral n small).0.1

other_byte : (k c : ℕ) (b : Bool) → (c == k) ≡ b → (digit_value k < 10 → ⊥) → digit_value c < 10 → b ≡ false
other_byte k c false e none h = refl
other_byte k c true e none h = let same : c ≡ k = (Decides-eqb c k).0 e in absurd (none (subst (λ (n : ℕ). digit_value n < 10) same h))

pub no_space : (c : ℕ) → digit_value c < 10 → is_space c ≡ false
no_space c h = other_byte 32 c (c == 32) refl (λ k. absurd (omega (arith, k))) h

pub no_line_end : (c : ℕ) → digit_value c < 10 → (c == 10) ≡ false
no_line_end c h = other_byte 10 c (c == 10) refl (λ k. absurd (omega (arith, k))) h

lacks_at : (ends : ℕ → Bool) (table : List ℕ) (k : ℕ) → Lacks ends table → ends 0 ≡ false → ends (slice_index table k) ≡ false
lacks_at ends [] k h none = none
lacks_at ends (c ∷ table) zero h none = h.0
lacks_at ends (c ∷ table) (suc k) h none = lacks_at ends table k h.1 none

pub hex_lacks : (ends : ℕ → Bool) → Lacks ends lower_digits → ends 0 ≡ false → (bytes : List ℕ) → Lacks ends (encode_lower bytes)
unfolding encode_with
hex_lacks ends table none [] = tt
hex_lacks ends table none (b ∷ bytes) = (lacks_at ends lower_digits _ table none, (lacks_at ends lower_digits _ table none, hex_lacks ends table none bytes))

-- ---- a text cut in two

pub cut_read : (text rest : List ℕ) → Lacks is_space text → cut (text ++ 32 ∷ rest) ≡ Some (text, rest)
unfolding cut
cut_read [] rest h = refl
cut_read (c ∷ text) rest h = rw h.0 (ap (option_map (longer c)) (cut_read text rest h.1))

cut_byte : (c : ℕ) (text : List ℕ) (parts : List ℕ × List ℕ) (b : Bool) → is_space c ≡ b → (o : Option (List ℕ × List ℕ))
    → ((shorter : List ℕ × List ℕ) → cut text ≡ Some shorter → text ≡ shorter.0 ++ 32 ∷ shorter.1)
    → cut text ≡ o → cond b (Some ([], text)) (option_map (longer c) o) ≡ Some parts → c ∷ text ≡ parts.0 ++ 32 ∷ parts.1
cut_byte c text parts true here o later is e =
    let same : c ≡ 32 = (Decides-eqb c 32).0 here in
    let parted : ([], text) ≡ parts = some_same ([], text) parts e in
    subst (λ (p : List ℕ × List ℕ). c ∷ text ≡ p.0 ++ 32 ∷ p.1) parted (ap (λ (x : ℕ). x ∷ text) same)
cut_byte c text parts false there None later is e = absurd (none-some parts e)
cut_byte c text parts false there (Some shorter) later is e =
    let parted : longer c shorter ≡ parts = some_same (longer c shorter) parts e in
    subst (λ (p : List ℕ × List ℕ). c ∷ text ≡ p.0 ++ 32 ∷ p.1) parted (ap (λ (x : List ℕ). c ∷ x) (later shorter is))

pub cut_written : (text : List ℕ) (parts : List ℕ × List ℕ) → cut text ≡ Some parts → text ≡ parts.0 ++ 32 ∷ parts.1
unfolding cut
cut_written [] parts e = absurd (none-some parts e)
cut_written (c ∷ text) parts e = cut_byte c text parts (is_space c) refl (cut text) (λ shorter is. cut_written text shorter is) refl e

-- ---- digests

pub digest_read : (digest : List ℕ) → length digest ≡ 32 → IsBytes digest → digest_of (encode_lower digest) ≡ Some digest
unfolding digest_of
digest_read digest sized bytes =
    let same : bytes_eq (encode_lower digest) (encode_lower digest) ≡ true = (bytes_eq-Decides (encode_lower digest) (encode_lower digest)).1 refl in
    rw (decode_sized-encode_lower digest 32 sized bytes) (rw same refl)

pub digest_written : (text digest : List ℕ) → digest_of text ≡ Some digest → encode_lower digest ≡ text
unfolding digest_of
digest_written text digest e = by_answer (decode_sized text 32) e
  where
    by_test : (read : List ℕ) (b : Bool) → bytes_eq (encode_lower read) text ≡ b → cond b (Some read) None ≡ Some digest → encode_lower digest ≡ text
    by_test read true same e =
        let is : read ≡ digest = cc in
        ap encode_lower (sym is) ∙ (bytes_eq-Decides (encode_lower read) text).0 same
    by_test read false other e = absurd (none-some digest e)

    by_answer : (r : Result (List ℕ) FromHexError) → written_so text r ≡ Some digest → encode_lower digest ≡ text
    by_answer (Ok read) e = by_test read (bytes_eq (encode_lower read) text) refl e
    by_answer (Err error) e = absurd (none-some digest e)
