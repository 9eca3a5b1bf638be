-- What the fields of a word are as quotients and remainders, for the code's shifts.
use Rattle.std.proofs.Common.{◌≡◌, ℕ, suc, ◌+◌, ◌-◌, ◌*◌, ◌/◌, ◌%◌, ◌^◌, ◌<◌, ◌≤◌, ℤ, pos, negsuc, ◌-ℤ◌, ◌+ℤ◌, ◌*ℤ◌, ap, sym, ◌∙◌, arith, subst, w32, to_z, of_z, FitsSigned, lit<}
use Rattle.std.proofs.Math.Decide.{dec_lt}
use Rattle.std.proofs.lemmas.Nat.{one_shl, mod_below, pow_pos}
use Rattle.std.proofs.lemmas.Int.{ints, of_z-to_z, to_z_pos, to_z-of_z}
use Rattle.std.specs.Int.Signed.{shr_z}
use Rattle.rv_isa.specs.Table.{b_immediate, j_immediate}
use Rattle.rv_isa.specs.Bits.{bits, signed}
use Rattle.rv_isa.specs.Operands.{IsImmediate, IsBranchOffset, IsJumpOffset}

-- a word as the code's signed type has it
to_z-small : (word : ℕ) → word < 2 ^ 31 → to_z w32 word ≡ pos word
to_z-small word h = to_z_pos w32 word h

to_z-large : (word : ℕ) → 2 ^ 31 ≤ word → word < 2 ^ 32 → to_z w32 word ≡ negsuc (2 ^ 32 - 1 - word)
to_z-large word h g =
    let back : 2 ^ 32 - suc (2 ^ 32 - 1 - word) ≡ word = omega arith in
    let fits : FitsSigned w32 (negsuc (2 ^ 32 - 1 - word)) = record { sfits = omega arith } in
    ap (to_z w32) (sym back) ∙ to_z-of_z w32 (negsuc (2 ^ 32 - 1 - word)) fits

-- two's complement at each sign
pub signed-small : (width n : ℕ) → n < 2 ^ (width - 1) → signed width n ≡ pos n
unfolding signed
signed-small width n h = grind arith

pub signed-large : (width n : ℕ) → 2 ^ (width - 1) ≤ n → n < 2 ^ width
    → signed width n ≡ negsuc (2 ^ width - 1 - n)
unfolding signed
signed-large width n h g =
    let whole : pos n -ℤ pos (2 ^ width) ≡ negsuc (2 ^ width - 1 - n) = omega (arith, ints) in
    grind arith

-- a signed number as the code's goals show it
abbrev seen : ℤ → ℤ
seen z = to_z w32 (of_z w32 z)

-- the code's `word.cast_signed() >> low`
pub shifted : (word m : ℕ) (r : ℤ) → word < 2 ^ 32 → r ≡ to_z w32 word
    → seen (shr_z (seen r) m) ≡ seen (shr_z (to_z w32 word) m)
shifted word m r h e =
    ap (λ n. seen (shr_z (to_z w32 n) m)) (ap (of_z w32) e ∙ of_z-to_z w32 word h)

pub shifted_20 : (word : ℕ) → word < 2 ^ 32
    → seen (shr_z (to_z w32 word) 1048576) ≡ signed 12 (word / 1048576 % 4096)
shifted_20 word h =
    elim (dec_lt word (2 ^ 31)) [
      | yes small ↦ rw (to_z-small word small) (let e : word / 1048576 % 4096 < 2 ^ 11 = omega arith in
          rw (signed-small 12 (word / 1048576 % 4096) e) (omega (arith, ints)))
      | no large ↦ (let g : 2 ^ 31 ≤ word = omega arith in
          rw (to_z-large word g h) (let e : 2 ^ 11 ≤ word / 1048576 % 4096 = omega arith in
          (let f : word / 1048576 % 4096 < 2 ^ 12 = omega arith in
          rw (signed-large 12 (word / 1048576 % 4096) e f) (omega (arith, ints)))))
    ]

-- the sign bit's shift
pub shifted_31 : (word : ℕ) → word < 2 ^ 32
    → seen (shr_z (to_z w32 word) 2147483648) ≡ pos 0 -ℤ pos (word / 2147483648 % 2)
shifted_31 word h =
    elim (dec_lt word (2 ^ 31)) [
      | yes small ↦ rw (to_z-small word small) (omega (arith, ints))
      | no large ↦ (let g : 2 ^ 31 ≤ word = omega arith in rw (to_z-large word g h) (omega (arith, ints)))
    ]

-- the code's `1 << width`
pub bits_field : (k : ℕ) → k < 32 → 1 * 2 ^ k % 4294967296 ≡ 2 ^ k
bits_field k h = one_shl k 32 h

-- a field is below 2 to its width
pub bits_below : (word high low : ℕ) → bits word high low < 2 ^ (high + 1 - low)
unfolding bits
bits_below word high low = mod_below (word / 2 ^ low) (2 ^ (high + 1 - low)) (pow_pos (high + 1 - low))

-- the code's sums of the sign bit, which counts negative, and the bits below it
pub branch_sum : (s : ℤ) (b low : ℕ) (z : ℤ) → b < 2 → low < 4096 → s ≡ pos 0 -ℤ pos b → z ≡ to_z w32 low
    → seen (seen (seen s *ℤ pos 4096) +ℤ seen z) ≡ signed 13 (b * 4096 + low)
branch_sum s b low z h g e d =
    elim (dec_lt b 1) [
      | yes small ↦ (let k : b * 4096 + low < 2 ^ 12 = omega arith in
          rw (signed-small 13 (b * 4096 + low) k) (omega (arith, ints)))
      | no large ↦ (let k : 2 ^ 12 ≤ b * 4096 + low = omega arith in
          let f : b * 4096 + low < 2 ^ 13 = omega arith in
          rw (signed-large 13 (b * 4096 + low) k f) (omega (arith, ints)))
    ]

pub jump_sum : (s : ℤ) (b low : ℕ) (z : ℤ) → b < 2 → low < 1048576 → s ≡ pos 0 -ℤ pos b → z ≡ to_z w32 low
    → seen (seen (seen s *ℤ pos 1048576) +ℤ seen z) ≡ signed 21 (b * 1048576 + low)
jump_sum s b low z h g e d =
    elim (dec_lt b 1) [
      | yes small ↦ (let k : b * 1048576 + low < 2 ^ 20 = omega arith in
          rw (signed-small 21 (b * 1048576 + low) k) (omega (arith, ints)))
      | no large ↦ (let k : 2 ^ 20 ≤ b * 1048576 + low = omega arith in
          let f : b * 1048576 + low < 2 ^ 21 = omega arith in
          rw (signed-large 21 (b * 1048576 + low) k f) (omega (arith, ints)))
    ]

-- an even distance
pub branch_even : (b half : ℕ) → b < 2 → half < 2048 → IsBranchOffset (signed 13 (b * 4096 + half * 2))
branch_even b half h g =
    elim (dec_lt b 1) [
      | yes small ↦ (let k : b * 4096 + half * 2 < 2 ^ 12 = omega arith in
          rw (signed-small 13 (b * 4096 + half * 2) k)
          (record { low = omega (arith, ints); high = omega (arith, ints); even = omega arith }))
      | no large ↦ (let k : 2 ^ 12 ≤ b * 4096 + half * 2 = omega arith in
          let f : b * 4096 + half * 2 < 2 ^ 13 = omega arith in
          rw (signed-large 13 (b * 4096 + half * 2) k f)
          (record { low = omega (arith, ints); high = omega (arith, ints); even = omega arith }))
    ]

pub jump_even : (b half : ℕ) → b < 2 → half < 524288 → IsJumpOffset (signed 21 (b * 1048576 + half * 2))
jump_even b half h g =
    elim (dec_lt b 1) [
      | yes small ↦ (let k : b * 1048576 + half * 2 < 2 ^ 20 = omega arith in
          rw (signed-small 21 (b * 1048576 + half * 2) k)
          (record { low = omega (arith, ints); high = omega (arith, ints); even = omega arith }))
      | no large ↦ (let k : 2 ^ 20 ≤ b * 1048576 + half * 2 = omega arith in
          let f : b * 1048576 + half * 2 < 2 ^ 21 = omega arith in
          rw (signed-large 21 (b * 1048576 + half * 2) k f)
          (record { low = omega (arith, ints); high = omega (arith, ints); even = omega arith }))
    ]

-- a sign bit that counts negative, moved up
pub branch_sign_fits : (s : ℤ) (b : ℕ) → b < 2 → s ≡ pos 0 -ℤ pos b → FitsSigned w32 (seen s *ℤ pos 4096)
branch_sign_fits s b h e =
    elim (dec_lt b 1) [
      | yes small ↦ (let z : s ≡ pos 0 = omega (arith, ints) in rw z (record { sfits = lit< tt }))
      | no large ↦ (let z : s ≡ negsuc 0 = omega (arith, ints) in rw z (record { sfits = lit< tt }))
    ]

pub jump_sign_fits : (s : ℤ) (b : ℕ) → b < 2 → s ≡ pos 0 -ℤ pos b → FitsSigned w32 (seen s *ℤ pos 1048576)
jump_sign_fits s b h e =
    elim (dec_lt b 1) [
      | yes small ↦ (let z : s ≡ pos 0 = omega (arith, ints) in rw z (record { sfits = lit< tt }))
      | no large ↦ (let z : s ≡ negsuc 0 = omega (arith, ints) in rw z (record { sfits = lit< tt }))
    ]

-- the code's distance of a branch is the table's, and lawful
pub branch_value : (word : ℕ) (s z : ℤ) (a b c : ℕ)
    → s ≡ pos 0 -ℤ pos (bits word 31 31) → bits word 31 31 < 2
    → (a ≡ bits word 7 7) × (a < 2) → (b ≡ bits word 30 25) × (b < 64) → (c ≡ bits word 11 8) × (c < 16)
    → z ≡ to_z w32 (a * 2048 + b * 32 + c * 2)
    → (seen (seen (seen s *ℤ pos 4096) +ℤ seen z) ≡ b_immediate word) × IsBranchOffset (b_immediate word)
branch_value word s z a b c e h f g d k =
    let rest : a * 2048 + b * 32 + c * 2 < 4096 = omega arith in
    let whole : bits word 31 31 * 4096 + (a * 2048 + b * 32 + c * 2) ≡ bits word 31 31 * 2 ^ 12 + bits word 7 7
    * 2 ^ 11 + bits word 30 25 * 2 ^ 5 + bits word 11 8 * 2 = omega arith in
    let half : a * 1024 + b * 16 + c < 2048 = omega arith in
    let even : bits word 31 31 * 4096 + (a * 1024 + b * 16 + c) * 2 ≡ bits word 31 31 * 2 ^ 12 + bits word 7 7 *
    2 ^ 11 + bits word 30 25 * 2 ^ 5 + bits word 11 8 * 2 = omega arith in (
      branch_sum s (bits word 31 31) (a * 2048 + b * 32 + c * 2) z h rest e k ∙ ap (signed 13) whole,
      subst (λ n. IsBranchOffset (signed 13 n)) even
          (branch_even (bits word 31 31) (a * 1024 + b * 16 + c) h half),
    )

-- the code's distance of a jump is the table's, and lawful
pub jump_value : (word : ℕ) (s z : ℤ) (a b c : ℕ)
    → s ≡ pos 0 -ℤ pos (bits word 31 31) → bits word 31 31 < 2
    → (a ≡ bits word 19 12) × (a < 256) → (b ≡ bits word 20 20) × (b < 2) → (c ≡ bits word 30 21) × (c < 1024)
    → z ≡ to_z w32 (a * 4096 + b * 2048 + c * 2)
    → (seen (seen (seen s *ℤ pos 1048576) +ℤ seen z) ≡ j_immediate word) × IsJumpOffset (j_immediate word)
jump_value word s z a b c e h f g d k =
    let rest : a * 4096 + b * 2048 + c * 2 < 1048576 = omega arith in
    let whole : bits word 31 31 * 1048576 + (a * 4096 + b * 2048 + c * 2) ≡ bits word 31 31 * 2 ^ 20 + bits word
    19 12 * 2 ^ 12 + bits word 20 20 * 2 ^ 11 + bits word 30 21 * 2 = omega arith in
    let half : a * 2048 + b * 1024 + c < 524288 = omega arith in
    let even : bits word 31 31 * 1048576 + (a * 2048 + b * 1024 + c) * 2 ≡ bits word 31 31 * 2 ^ 20 + bits word
    19 12 * 2 ^ 12 + bits word 20 20 * 2 ^ 11 + bits word 30 21 * 2 = omega arith in (
      jump_sum s (bits word 31 31) (a * 4096 + b * 2048 + c * 2) z h rest e k ∙ ap (signed 21) whole,
      subst (λ n. IsJumpOffset (signed 21 n)) even
          (jump_even (bits word 31 31) (a * 2048 + b * 1024 + c) h half),
    )

-- a signed number of twelve bits
pub immediate_range : (n : ℕ) → n < 4096 → IsImmediate (signed 12 n)
immediate_range n h =
    elim (dec_lt n 2048) [
      | yes small ↦ rw (signed-small 12 n small)
          (record { low = omega (arith, ints); high = omega (arith, ints) })
      | no large ↦ (let k : 2 ^ 11 ≤ n = omega arith in
          rw (signed-large 12 n k h) (record { low = omega (arith, ints); high = omega (arith, ints) }))
    ]

pub shifted_25 : (word : ℕ) → word < 2 ^ 32
    → seen (shr_z (to_z w32 word) 33554432) ≡ signed 7 (word / 33554432 % 128)
shifted_25 word h =
    elim (dec_lt word (2 ^ 31)) [
      | yes small ↦ rw (to_z-small word small) (let e : word / 33554432 % 128 < 2 ^ 6 = omega arith in
          rw (signed-small 7 (word / 33554432 % 128) e) (omega (arith, ints)))
      | no large ↦ (let g : 2 ^ 31 ≤ word = omega arith in
          rw (to_z-large word g h) (let e : 2 ^ 6 ≤ word / 33554432 % 128 = omega arith in
          (let f : word / 33554432 % 128 < 2 ^ 7 = omega arith in
          rw (signed-large 7 (word / 33554432 % 128) e f) (omega (arith, ints)))))
    ]

-- a negative number by 32
negative_32 : (n : ℕ) → n < 64 → negsuc n *ℤ pos 32 ≡ negsuc (n * 32 + 31)
negative_32 n h = omega (arith, ints)

-- the code's sum of a store's upper and lower bits
pub store_sum : (s : ℤ) (high low : ℕ) (z : ℤ) → high < 128 → low < 32 → s ≡ signed 7 high → z ≡ to_z w32 low
    → (FitsSigned w32 (seen s *ℤ pos 32))
    × (seen (seen (seen s *ℤ pos 32) +ℤ seen z) ≡ signed 12 (high * 32 + low))
store_sum s high low z h g e d =
    elim (dec_lt high 64) [
      | yes small ↦ (
          let is : s ≡ pos high = e ∙ signed-small 7 high small in
          let k : high * 32 + low < 2 ^ 11 = omega arith in
          let fits : FitsSigned w32 (pos high *ℤ pos 32) = record { sfits = omega arith } in
          let same : seen s ≡ pos high = omega (arith, ints) in
          (rw same fits, rw (same, signed-small 12 (high * 32 + low) k) (omega (arith, ints))))
      | no large ↦ (
          let big : 2 ^ 6 ≤ high = omega arith in
          let is : s ≡ negsuc (127 - high) = e ∙ signed-large 7 high big h in
          let k : 2 ^ 11 ≤ high * 32 + low = omega arith in
          let f : high * 32 + low < 2 ^ 12 = omega arith in
          let code : seen s ≡ negsuc (127 - high) = omega (arith, ints) in
          let same : seen s *ℤ pos 32 ≡ negsuc ((127 - high) * 32 + 31) =
          ap (λ n. n *ℤ pos 32) code ∙ negative_32 (127 - high) (omega arith) in
          let fits : FitsSigned w32 (negsuc ((127 - high) * 32 + 31)) = record { sfits = omega arith } in (
            subst (FitsSigned w32) (sym same) fits,
            ap (λ n. seen (seen n +ℤ seen z)) same
                ∙ rw (signed-large 12 (high * 32 + low) k f) (omega (arith, ints)),
          ))
    ]
