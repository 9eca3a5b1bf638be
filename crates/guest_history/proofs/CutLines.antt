-- The first line of known bytes is what a read up to a line feed takes of them.
use Rattle.std.proofs.Common.{◌≡◌, ◌∙◌, ℕ, suc, ◌-◌, ◌<◌, Bool, true, false, List, [], ◌∷◌, length, take, Option, None, Some, IfSome, cond, nat_lt, ap, arith, refl, rules, subst, sym}
use Rattle.std.specs.Prelude.{◌==◌, ◌&&◌, slice_index}
use Rattle.std.specs.Io.BufRead.{take_through, drop_through, ends_with_byte, strip_last}
use Rattle.text_lines.specs.Text.{ahead, lines_of}
use Rattle.debug_session.specs.InputLines.{TakesLine}

some_more : (n : ℕ) → nat_lt 0 (suc n) ≡ true
some_more n = let some : 0 < suc n = omega arith in search rules

ends_on : (x y : ℕ) (zs : List ℕ) → ends_with_byte 10 (x ∷ y ∷ zs) ≡ ends_with_byte 10 (y ∷ zs)
ends_on x y zs =
    let one : suc (suc (length zs)) - 1 ≡ suc (length zs) = omega arith in
    let other : suc (length zs) - 1 ≡ length zs = omega arith in
    let same : nat_lt 0 (suc (suc (length zs))) ≡ nat_lt 0 (suc (length zs)) = some_more (suc (length zs)) ∙ sym (some_more (length zs)) in
    rw (one, other) (ap (λ (b : Bool). b && (slice_index (y ∷ zs) (length zs) == 10)) same)

strip_cond : (x y : ℕ) (zs : List ℕ) (b : Bool) → cond b (take (suc (suc (length zs)) - 1) (x ∷ y ∷ zs)) (x ∷ y ∷ zs) ≡ x ∷ cond b (take (suc (length zs) - 1) (y ∷ zs)) (y ∷ zs)
strip_cond x y zs true =
    let one : suc (suc (length zs)) - 1 ≡ suc (length zs) = omega arith in
    let other : suc (length zs) - 1 ≡ length zs = omega arith in
    rw (one, other) refl
strip_cond x y zs false = refl

strip_on : (x : ℕ) (ys : List ℕ) → (x == 10) ≡ false → strip_last 10 (x ∷ ys) ≡ x ∷ strip_last 10 ys
strip_on x [] e = rw e refl
strip_on x (y ∷ zs) e = ap (λ (b : Bool). cond b (take (suc (suc (length zs)) - 1) (x ∷ y ∷ zs)) (x ∷ y ∷ zs)) (ends_on x y zs) ∙ strip_cond x y zs (ends_with_byte 10 (y ∷ zs))

first_by : (x : ℕ) (xs : List ℕ) (b : Bool) → (x == 10) ≡ b → ahead x (lines_of xs) ≡ (x ∷ strip_last 10 (take_through 10 xs)) ∷ lines_of (drop_through 10 xs)
    → lines_of (x ∷ xs) ≡ strip_last 10 (take_through 10 (x ∷ xs)) ∷ lines_of (drop_through 10 (x ∷ xs))
first_by x xs true e later = rw (e, e) refl
first_by x xs false e later = rw e (later ∙ ap (λ (line : List ℕ). line ∷ lines_of (drop_through 10 xs)) (sym (strip_on x (take_through 10 xs) e)))

line_first : (x : ℕ) (xs : List ℕ) → lines_of (x ∷ xs) ≡ strip_last 10 (take_through 10 (x ∷ xs)) ∷ lines_of (drop_through 10 (x ∷ xs))
line_first x [] = first_by x [] (x == 10) refl refl
line_first x (y ∷ ys) = first_by x (y ∷ ys) (x == 10) refl (ap (ahead x) (line_first y ys))

taken_by : (x : ℕ) (xs : List ℕ) (b : Bool) → (x == 10) ≡ b → 0 < length (take_through 10 (x ∷ xs))
taken_by x xs true e = rw e (omega arith)
taken_by x xs false e = rw e (omega arith)

-- what was read up to a line feed, and is a line without it
pub line_taken : (known rest : Option (List ℕ)) (whole line : List ℕ) (read : ℕ) → IfSome known (λ bytes. whole ≡ take_through 10 bytes) → IfSome known (λ bytes. rest ≡ Some (drop_through 10 bytes))
    → length whole ≡ read → line ≡ strip_last 10 whole → TakesLine known (nat_lt 0 read) line rest
line_taken None rest whole line read taken dropped long stripped = tt
line_taken (Some []) rest whole line read taken dropped long stripped =
    let none : read ≡ 0 = sym long ∙ ap length taken in
    subst (λ (k : ℕ). TakesLine (Some []) (nat_lt 0 k) line rest) (sym none) refl
line_taken (Some (x ∷ xs)) rest whole line read taken dropped long stripped =
    let some : 0 < read = subst (λ (n : ℕ). 0 < n) (sym (ap length taken) ∙ long) (taken_by x xs (x == 10) refl) in
    let is_there : nat_lt 0 read ≡ true = search (rules, some) in
    let first : lines_of (x ∷ xs) ≡ line ∷ lines_of (drop_through 10 (x ∷ xs)) =
    line_first x xs ∙ ap (λ (l : List ℕ). l ∷ lines_of (drop_through 10 (x ∷ xs))) (ap (strip_last 10) (sym taken) ∙ sym stripped) in
    subst (λ (b : Bool). TakesLine (Some (x ∷ xs)) b line rest) (sym is_there) (subst (λ (r : Option (List ℕ)). TakesLine (Some (x ∷ xs)) true line r) (sym dropped) first)
