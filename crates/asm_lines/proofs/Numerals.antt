-- A number that is held down at each digit is the whole number held down once.
use Rattle.std.proofs.Common.{◌≡◌, ℕ, ◌+◌, ◌*◌, ◌<◌, ◌≤◌, min, List, [], ◌∷◌, Bool, true, false, cond, ◌&&◌, Option, Some, None, arith, refl, sym, ◌∙◌, ap, lt-ltb, le-ltb}
use Rattle.std.proofs.Math.Nat.{min_comm}
use Rattle.std.specs.List.{list_all}
use Rattle.std.specs.Char.{digit_value, is_digit}
use Rattle.std.specs.Str.Parse.{digits_value_after}

saturated_step : (limit m radix d : ℕ) → 1 ≤ radix → min limit (min limit m * radix + d) ≡ min limit (m * radix + d)
saturated_step limit m radix d h = grind arith

saturated_early : (limit radix m : ℕ) (digits : List ℕ) → 1 ≤ radix → min limit (digits_value_after radix (min limit m) digits) ≡ min limit (digits_value_after radix m digits)
saturated_early limit radix m [] h = omega arith
saturated_early limit radix m (c ∷ digits) h =
    sym (saturated_early limit radix (min limit m * radix + digit_value c) digits h)
    ∙ ap (λ n. min limit (digits_value_after radix n digits)) (saturated_step limit m radix (digit_value c) h)
    ∙ saturated_early limit radix (m * radix + digit_value c) digits h

-- what digits write behind those of n, held down to a limit
abbrev pub numeral_behind : ℕ → ℕ → ℕ → List ℕ → Option ℕ
numeral_behind limit radix n digits = cond (list_all (λ digit. is_digit digit radix) digits) (Some (min limit (digits_value_after radix n digits))) None

digit_passes : (b all : Bool) (x y : ℕ) → b ≡ true → x ≡ y → cond all (Some x) None ≡ cond (b && all) (Some y) None
digit_passes true all x y e f = ap (λ n. cond all (Some n) None) f
digit_passes false all x y e f = absurd (cc)

digit_fails : (b all : Bool) (x : ℕ) → b ≡ false → ◌≡◌ {A = Option ℕ} (cond (b && all) (Some x) None) None
digit_fails true all x e = absurd (cc)
digit_fails false all x e = refl

pub numeral_goes_on : (limit radix n c d next : ℕ) (digits text : List ℕ) → 1 ≤ radix → text ≡ c ∷ digits → digit_value c < radix → d ≡ digit_value c
    → next ≡ min (n * radix + d) limit → numeral_behind limit radix next digits ≡ numeral_behind limit radix n text
numeral_goes_on limit radix n c d next digits text h split here digit held =
    let held_first : next ≡ min limit (n * radix + digit_value c) = rw digit at (held ∙ min_comm (n * radix + d) limit) in
    let on : numeral_behind limit radix (min limit (n * radix + digit_value c)) digits ≡ numeral_behind limit radix n (c ∷ digits)
    = digit_passes (is_digit c radix) (list_all (λ digit. is_digit digit radix) digits) _ _ (lt-ltb _ _ here) (saturated_early limit radix (n * radix + digit_value c) digits h) in
    ap (λ m. numeral_behind limit radix m digits) held_first ∙ on ∙ ap (numeral_behind limit radix n) (sym split)

pub numeral_stops : (limit radix n c : ℕ) (digits : List ℕ) → radix ≤ digit_value c → numeral_behind limit radix n (c ∷ digits) ≡ None
numeral_stops limit radix n c digits h = digit_fails (is_digit c radix) (list_all (λ digit. is_digit digit radix) digits) _ (le-ltb _ _ h)
