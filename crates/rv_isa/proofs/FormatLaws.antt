-- The code's words have the formats of the table, and a format leaves one word.
use Rattle.std.proofs.Common.{◌≡◌, ℕ, suc, ◌+◌, ◌-◌, ◌*◌, ◌/◌, ◌%◌, ◌^◌, ◌<◌, ℤ, pos, negsuc, refl, ap, sym, ◌∙◌, arith, w32, of_z}
use Rattle.std.proofs.Math.Decide.{dec_lt}
use Rattle.std.proofs.lemmas.Int.{ints}
use Rattle.rv_isa.specs.Bits.{bits, signed}
use Rattle.rv_isa.proofs.BitsLaws.{signed-small, signed-large}
use Rattle.rv_isa.specs.Operands.{IsImmediate, IsBranchOffset, IsJumpOffset}
use Rattle.rv_isa.specs.declared.kinds.Code.{Code}
use Rattle.rv_isa.specs.declared.instruction.Insn.{Insn}
use Rattle.rv_isa.specs.declared.instruction.Insn.TheVariants.{Lui, Auipc, Jal, Jalr, Branch, Load, Store, OpImmediate, Shift, Op, Fence, Amo, LoadReserved, StoreConditional, Ecall, Ebreak}
use Rattle.rv_isa.specs.Table.{Agrees, shift_code, op_code, IsRFormat, IsIFormat, IsSFormat, IsBFormat, IsUFormat, IsJFormat, IsFenceFormat, IsAmoFormat}

-- the low bits of a signed number, read back
signed_low_12 : (z : ℤ) → IsImmediate z → signed 12 (of_z w32 z % 4096) ≡ z
signed_low_12 (pos n) h =
    let below : n < 2048 = omega (arith, ints, h.high) in
    let low : n % 4096 ≡ n = omega arith in
    ap (signed 12) low ∙ signed-small 12 n below
signed_low_12 (negsuc n) h =
    let below : n < 2048 = omega (arith, ints, h.low) in
    let low : (2 ^ 32 - suc n) % 4096 ≡ 4095 - n = omega arith in
    let is : negsuc (2 ^ 12 - 1 - (4095 - n)) ≡ negsuc n = ap negsuc (omega arith) in
    ap (signed 12) low ∙ signed-large 12 (4095 - n) (omega arith) (omega arith) ∙ is

signed_low_13 : (z : ℤ) → IsBranchOffset z → signed 13 (of_z w32 z % 8192) ≡ z
signed_low_13 (pos n) h =
    let below : n < 4096 = omega (arith, ints, h.high) in
    let low : n % 8192 ≡ n = omega arith in
    ap (signed 13) low ∙ signed-small 13 n below
signed_low_13 (negsuc n) h =
    let below : n < 4096 = omega (arith, ints, h.low) in
    let low : (2 ^ 32 - suc n) % 8192 ≡ 8191 - n = omega arith in
    let is : negsuc (2 ^ 13 - 1 - (8191 - n)) ≡ negsuc n = ap negsuc (omega arith) in
    ap (signed 13) low ∙ signed-large 13 (8191 - n) (omega arith) (omega arith) ∙ is

signed_low_21 : (z : ℤ) → IsJumpOffset z → signed 21 (of_z w32 z % 2097152) ≡ z
signed_low_21 (pos n) h =
    let below : n < 1048576 = omega (arith, ints, h.high) in
    let low : n % 2097152 ≡ n = omega arith in
    ap (signed 21) low ∙ signed-small 21 n below
signed_low_21 (negsuc n) h =
    let below : n < 1048576 = omega (arith, ints, h.low) in
    let low : (2 ^ 32 - suc n) % 2097152 ≡ 2097151 - n = omega arith in
    let is : negsuc (2 ^ 21 - 1 - (2097151 - n)) ≡ negsuc n = ap negsuc (omega arith) in
    ap (signed 21) low ∙ signed-large 21 (2097151 - n) (omega arith) (omega arith) ∙ is

-- an even number's word is even
even_13 : (z : ℤ) → IsBranchOffset z → of_z w32 z % 2 ≡ 0
even_13 (pos n) h = h.even
even_13 (negsuc n) h = let e : suc n % 2 ≡ 0 = h.even in let b : n < 4096 = omega (arith, ints, h.low) in
    omega arith

even_21 : (z : ℤ) → IsJumpOffset z → of_z w32 z % 2 ≡ 0
even_21 (pos n) h = h.even
even_21 (negsuc n) h = let e : suc n % 2 ≡ 0 = h.even in let b : n < 1048576 = omega (arith, ints, h.low) in
    omega arith

-- ---- the code's sums

abbrev r_word : ℕ → ℕ → ℕ → ℕ → ℕ → ℕ → ℕ
r_word funct7 rs2 rs1 funct3 rd opcode =
    funct7 * 2 ^ 25 % 2 ^ 32 + rs2 * 2 ^ 20 % 2 ^ 32 + rs1 * 2 ^ 15 % 2 ^ 32 + funct3 * 2 ^ 12 % 2 ^ 32
    + rd * 2 ^ 7 % 2 ^ 32 + opcode

abbrev i_word : ℕ → ℕ → ℕ → ℕ → ℕ → ℕ
i_word immediate rs1 funct3 rd opcode =
    immediate * 2 ^ 20 % 2 ^ 32 + rs1 * 2 ^ 15 % 2 ^ 32 + funct3 * 2 ^ 12 % 2 ^ 32 + rd * 2 ^ 7 % 2 ^ 32 +
    opcode

abbrev b_word : ℕ → ℕ → ℕ → ℕ → ℕ → ℕ → ℕ → ℕ → ℕ
b_word bit_12 bits_10_5 rs2 rs1 funct3 bits_4_1 bit_11 opcode =
    r_word (bit_12 * 2 ^ 6 % 2 ^ 32 + bits_10_5) rs2 rs1 funct3 (bits_4_1 * 2 % 2 ^ 32 + bit_11) opcode

abbrev u_word : ℕ → ℕ → ℕ → ℕ
u_word immediate rd opcode = immediate * 2 ^ 12 % 2 ^ 32 + rd * 2 ^ 7 % 2 ^ 32 + opcode

abbrev j_word : ℕ → ℕ → ℕ → ℕ → ℕ → ℕ → ℕ
j_word bit_20 bits_10_1 bit_11 bits_19_12 rd opcode =
    (bit_20 * 2 ^ 10 % 2 ^ 32 + bits_10_1) * 2 ^ 21 % 2 ^ 32 + (bit_11 * 2 ^ 8 % 2 ^ 32 + bits_19_12) * 2 ^ 12 %
    2 ^ 32
    + rd * 2 ^ 7 % 2 ^ 32 + opcode

abbrev fence_word : ℕ → ℕ → ℕ → ℕ → ℕ
fence_word kept rs1 rd opcode = kept * 2 ^ 20 % 2 ^ 32 + rs1 * 2 ^ 15 % 2 ^ 32 + rd * 2 ^ 7 % 2 ^ 32 + opcode

abbrev amo_word : ℕ → ℕ → ℕ → ℕ → ℕ → ℕ → ℕ
amo_word funct5 acquire release rs2 rs1 rd =
    (funct5 * 2 ^ 2 % 2 ^ 32 + acquire * 2 % 2 ^ 32 + release) * 2 ^ 25 % 2 ^ 32 + rs2 * 2 ^ 20 % 2 ^ 32
    + rs1 * 2 ^ 15 % 2 ^ 32 + 0b010 * 2 ^ 12 + rd * 2 ^ 7 % 2 ^ 32 + 0b0101111

pub r_placed : (opcode : ℕ) (code : Code) (r1 r2 r rs1 rs2 rd : ℕ) → opcode < 128 → code.funct7 < 128
    → code.funct3 < 8
    → r1 ≡ rs1 → r1 < 32 → r2 ≡ rs2 → r2 < 32 → r ≡ rd → r < 32
    → IsRFormat (r_word code.funct7 r2 r1 code.funct3 r opcode) opcode code rd rs1 rs2
unfolding bits
r_placed opcode code r1 r2 r rs1 rs2 rd a b c is1 d is2 e is f = record {
  in_6_0 = omega arith;
  in_11_7 = omega arith;
  in_14_12 = omega arith;
  in_19_15 = omega arith;
  in_24_20 = omega arith;
  in_31_25 = omega arith;
}

pub i_placed : (opcode funct3 r1 r f w rs1 rd : ℕ) (z : ℤ) → opcode < 128 → funct3 < 8 → r1 ≡ rs1 → r1 < 32
    → r ≡ rd → r < 32 → IsImmediate z → w ≡ of_z w32 z → f ≡ bits w 11 0
    → IsIFormat (i_word f r1 funct3 r opcode) opcode funct3 rd rs1 z
unfolding bits
i_placed opcode funct3 r1 r f w rs1 rd z a b is1 c is d range e g =
    let low : f ≡ w % 4096 = omega arith in
    let place : (i_word f r1 funct3 r opcode) / 1048576 % 4096 ≡ f = omega arith in
    record {
      in_6_0 = omega arith;
      in_11_7 = omega arith;
      in_14_12 = omega arith;
      in_19_15 = omega arith;
      in_31_20 = ap (signed 12) (place ∙ low ∙ ap (λ n. n % 4096) e) ∙ signed_low_12 z range;
    }

pub u_placed : (opcode r i rd immediate : ℕ) → opcode < 128 → r ≡ rd → r < 32 → i ≡ immediate → i < 1048576
    → IsUFormat (u_word i r opcode) opcode rd immediate
unfolding bits
u_placed opcode r i rd immediate a e b d c = record
    { in_6_0 = omega arith; in_11_7 = omega arith; in_31_12 = omega arith }

pub fence_placed : (opcode r1 r k rs1 rd kept : ℕ) → opcode < 128 → r1 ≡ rs1 → r1 < 32 → r ≡ rd → r < 32
    → k ≡ kept → k < 4096
    → IsFenceFormat (fence_word k r1 r opcode) opcode 0 kept rd rs1
unfolding bits
fence_placed opcode r1 r k rs1 rd kept a is1 c is d e f = record {
  in_6_0 = omega arith;
  in_11_7 = omega arith;
  in_14_12 = omega arith;
  in_19_15 = omega arith;
  in_31_20 = omega arith;
}

pub amo_placed : (funct5 acquire release r1 r2 r rs1 rs2 rd : ℕ) → funct5 < 32 → acquire < 2 → release < 2
    → r1 ≡ rs1 → r1 < 32 → r2 ≡ rs2 → r2 < 32 → r ≡ rd → r < 32
    → IsAmoFormat (amo_word funct5 acquire release r2 r1 r)
    0b0101111 funct5 acquire release 0b010 rd rs1 rs2
unfolding bits
amo_placed funct5 acquire release r1 r2 r rs1 rs2 rd a b c is1 d is2 e is f = record {
  in_6_0 = omega arith;
  in_11_7 = omega arith;
  in_14_12 = omega arith;
  in_19_15 = omega arith;
  in_24_20 = omega arith;
  in_25 = omega arith;
  in_26 = omega arith;
  in_31_27 = omega arith;
}

-- the parts of a store's immediate, in their places
s_places : (opcode funct3 r1 r2 f g word : ℕ) → opcode < 128 → funct3 < 8 → r1 < 32 → r2 < 32 → f < 128 → g < 32
    → word ≡ r_word f r2 r1 funct3 g opcode
    → (bits word 31 25 ≡ f) × (bits word 11 7 ≡ g)
unfolding bits
s_places opcode funct3 r1 r2 f g word a b c d bf bg is = (omega arith, omega arith)

pub s_placed : (opcode funct3 r1 r2 f g w rs1 rs2 : ℕ) (z : ℤ) → opcode < 128 → funct3 < 8 → r1 ≡ rs1 → r1 < 32
    → r2 ≡ rs2 → r2 < 32
    → IsImmediate z → w ≡ of_z w32 z → f ≡ bits w 11 5 → g ≡ bits w 4 0
    → IsSFormat (r_word f r2 r1 funct3 g opcode) opcode funct3 rs1 rs2 z
unfolding bits
s_placed opcode funct3 r1 r2 f g w rs1 rs2 z a b is1 c is2 d range e p q =
    let bf : f < 128 = omega arith in let bg : g < 32 = omega arith in
    let parts : f * 32 + g ≡ w % 4096 = omega arith in
    let places = s_places opcode funct3 r1 r2 f g _ a b c d bf bg refl in
    record {
      in_6_0 = omega arith;
      in_14_12 = omega arith;
      in_19_15 = omega arith;
      in_24_20 = omega arith;
      in_31_25_11_7 = ap (signed 12) (rw (places.0, places.1) (parts ∙ ap (λ n. n % 4096) e)) ∙ signed_low_12 z
          range;
    }

-- the parts of a branch's distance, in their places
b_places : (opcode funct3 r1 r2 f g h k word : ℕ) → opcode < 128 → funct3 < 8 → r1 < 32 → r2 < 32 → f < 2
    → g < 64 → h < 16 → k < 2
    → word ≡ b_word f g r2 r1 funct3 h k opcode
    → (bits word 31 31 ≡ f) × (bits word 7 7 ≡ k) × (bits word 30 25 ≡ g) × (bits word 11 8 ≡ h)
unfolding bits
b_places opcode funct3 r1 r2 f g h k word a b c d bf bg bh bk is =
    (omega arith, omega arith, omega arith, omega arith)

pub b_placed : (opcode funct3 r1 r2 w f g h k rs1 rs2 : ℕ) (z : ℤ) → opcode < 128 → funct3 < 8 → r1 ≡ rs1
    → r1 < 32 → r2 ≡ rs2 → r2 < 32
    → IsBranchOffset z → w ≡ of_z w32 z → f ≡ bits w 12 12 → g ≡ bits w 10 5 → h ≡ bits w 4 1 → k ≡ bits w 11 11
    → IsBFormat (b_word f g r2 r1 funct3 h k opcode) opcode funct3 rs1 rs2 z
unfolding bits
b_placed opcode funct3 r1 r2 w f g h k rs1 rs2 z a b is1 c is2 d range e p q r s =
    let even : w % 2 ≡ 0 = ap (λ n. n % 2) e ∙ even_13 z range in
    let parts : f * 4096 + k * 2048 + g * 32 + h * 2 ≡ w % 8192 = omega arith in
    let bf : f < 2 = omega arith in let bg : g < 64 = omega arith in let bh : h < 16 = omega arith in
    let bk : k < 2 = omega arith in
    let places = b_places opcode funct3 r1 r2 f g h k _ a b c d bf bg bh bk refl in
    record {
      in_6_0 = omega arith;
      in_14_12 = omega arith;
      in_19_15 = omega arith;
      in_24_20 = omega arith;
      in_31_25_11_7 = ap (signed 13)
          (rw (places.0, places.1, places.2, places.3) (parts ∙ ap (λ n. n % 8192) e)) ∙ signed_low_13 z range;
    }

-- the parts of a jump's distance, in their places
j_places : (opcode r f g h k word : ℕ) → opcode < 128 → r < 32 → f < 2 → g < 1024 → h < 2 → k < 256
    → word ≡ j_word f g h k r opcode
    → (bits word 31 31 ≡ f) × (bits word 19 12 ≡ k) × (bits word 20 20 ≡ h) × (bits word 30 21 ≡ g)
unfolding bits
j_places opcode r f g h k word a b bf bg bh bk is = (omega arith, omega arith, omega arith, omega arith)

pub j_placed : (opcode r w f g h k rd : ℕ) (z : ℤ) → opcode < 128 → r ≡ rd → r < 32
    → IsJumpOffset z → w ≡ of_z w32 z → f ≡ bits w 20 20 → g ≡ bits w 10 1 → h ≡ bits w 11 11 → k ≡ bits w 19 12
    → IsJFormat (j_word f g h k r opcode) opcode rd z
unfolding bits
j_placed opcode r w f g h k rd z a is b range e p q t s =
    let even : w % 2 ≡ 0 = ap (λ n. n % 2) e ∙ even_21 z range in
    let parts : f * 1048576 + k * 4096 + h * 2048 + g * 2 ≡ w % 2097152 = omega arith in
    let bf : f < 2 = omega arith in let bg : g < 1024 = omega arith in let bh : h < 2 = omega arith in
    let bk : k < 256 = omega arith in
    let places = j_places opcode r f g h k _ a b bf bg bh bk refl in
    record {
      in_6_0 = omega arith;
      in_11_7 = omega arith;
      in_31_12 = ap (signed 21)
          (rw (places.0, places.1, places.2, places.3) (parts ∙ ap (λ n. n % 2097152) e)) ∙ signed_low_21 z
          range;
    }

-- ---- one word

-- two numbers of a width with one signed value
signed_same : (width a b : ℕ) → a < 2 ^ width → b < 2 ^ width → 2 ^ width ≡ 2 * 2 ^ (width - 1)
    → signed width a ≡ signed width b → a ≡ b
signed_same width a b h g two e =
    elim (dec_lt a (2 ^ (width - 1))) [
      | yes small ↦ elim (dec_lt b (2 ^ (width - 1))) [
        | yes small_too ↦ (let same : pos a ≡ pos b = sym (signed-small width a small) ∙ e ∙ signed-small width
            b small_too in cc)
        | no large ↦ (let off : pos a ≡ negsuc (2 ^ width - 1 - b) = sym (signed-small width a small) ∙ e ∙
            signed-large width b (omega arith) g in cc)
      ]
      | no large ↦ elim (dec_lt b (2 ^ (width - 1))) [
        | yes small ↦ (let off : negsuc (2 ^ width - 1 - a) ≡ pos b = sym
            (signed-large width a (omega arith) h) ∙ e ∙ signed-small width b small in cc)
        | no large_too ↦ (let same : negsuc (2 ^ width - 1 - a) ≡ negsuc (2 ^ width - 1 - b) = sym
            (signed-large width a (omega arith) h) ∙ e ∙ signed-large width b (omega arith) g in
            let less : 2 ^ width - 1 - a ≡ 2 ^ width - 1 - b = cc in omega arith)
      ]
    ]

r_once : (v w opcode : ℕ) (code : Code) (rd rs1 rs2 : ℕ) → v < 2 ^ 32 → w < 2 ^ 32
    → IsRFormat v opcode code rd rs1 rs2 → IsRFormat w opcode code rd rs1 rs2 → v ≡ w
unfolding bits
r_once v w opcode code rd rs1 rs2 h g a b = omega arith

i_once : (v w opcode funct3 rd rs1 : ℕ) (z : ℤ) → v < 2 ^ 32 → w < 2 ^ 32 → IsIFormat v opcode funct3 rd rs1 z
    → IsIFormat w opcode funct3 rd rs1 z → v ≡ w
unfolding bits
i_once v w opcode funct3 rd rs1 z h g a b =
    let same : v / 1048576 % 4096 ≡ w / 1048576 % 4096 = signed_same 12 _ _ (omega arith) (omega arith) refl
    (a.in_31_20 ∙ sym b.in_31_20) in
    omega arith

u_once : (v w opcode rd immediate : ℕ) → v < 2 ^ 32 → w < 2 ^ 32 → IsUFormat v opcode rd immediate
    → IsUFormat w opcode rd immediate → v ≡ w
unfolding bits
u_once v w opcode rd immediate h g a b = omega arith

-- the parts of a distance are those of its bits
b_parts : (a b c d e f g h : ℕ) → a < 2 → b < 2 → c < 64 → d < 16 → e < 2 → f < 2 → g < 64 → h < 16
    → a * 4096 + b * 2048 + c * 32 + d * 2 ≡ e * 4096 + f * 2048 + g * 32 + h * 2
    → (a ≡ e) × (b ≡ f) × (c ≡ g) × (d ≡ h)
b_parts a b c d e f g h p q r s t u v w same = (omega arith, omega arith, omega arith, omega arith)

j_parts : (a b c d e f g h : ℕ) → a < 2 → b < 256 → c < 2 → d < 1024 → e < 2 → f < 256 → g < 2 → h < 1024
    → a * 1048576 + b * 4096 + c * 2048 + d * 2 ≡ e * 1048576 + f * 4096 + g * 2048 + h * 2
    → (a ≡ e) × (b ≡ f) × (c ≡ g) × (d ≡ h)
j_parts a b c d e f g h p q r s t u v w same = (omega arith, omega arith, omega arith, omega arith)

b_once : (v w opcode funct3 rs1 rs2 : ℕ) (z : ℤ) → v < 2 ^ 32 → w < 2 ^ 32 → IsBFormat v opcode funct3 rs1 rs2 z
    → IsBFormat w opcode funct3 rs1 rs2 z → v ≡ w
unfolding bits
b_once v w opcode funct3 rs1 rs2 z h g a b =
    let parts = b_parts (v / 2147483648 % 2) (v / 128 % 2) (v / 33554432 % 64) (v / 256 % 16)
    (w / 2147483648 % 2) (w / 128 % 2) (w / 33554432 % 64) (w / 256 % 16)
    (omega arith) (omega arith) (omega arith) (omega arith) (omega arith) (omega arith) (omega arith)
    (omega arith)
    (signed_same 13 _ _ (omega arith) (omega arith) refl (a.in_31_25_11_7 ∙ sym b.in_31_25_11_7)) in
    omega arith

j_once : (v w opcode rd : ℕ) (z : ℤ) → v < 2 ^ 32 → w < 2 ^ 32 → IsJFormat v opcode rd z
    → IsJFormat w opcode rd z → v ≡ w
unfolding bits
j_once v w opcode rd z h g a b =
    let parts = j_parts (v / 2147483648 % 2) (v / 4096 % 256) (v / 1048576 % 2) (v / 2097152 % 1024)
    (w / 2147483648 % 2) (w / 4096 % 256) (w / 1048576 % 2) (w / 2097152 % 1024)
    (omega arith) (omega arith) (omega arith) (omega arith) (omega arith) (omega arith) (omega arith)
    (omega arith)
    (signed_same 21 _ _ (omega arith) (omega arith) refl (a.in_31_12 ∙ sym b.in_31_12)) in
    omega arith

s_once : (v w opcode funct3 rs1 rs2 : ℕ) (z : ℤ) → v < 2 ^ 32 → w < 2 ^ 32 → IsSFormat v opcode funct3 rs1 rs2 z
    → IsSFormat w opcode funct3 rs1 rs2 z → v ≡ w
unfolding bits
s_once v w opcode funct3 rs1 rs2 z h g a b =
    let same : v / 33554432 % 128 * 32 + v / 128 % 32 ≡ w / 33554432 % 128 * 32 + w / 128 % 32 = signed_same 12
    _ _ (omega arith) (omega arith) refl (a.in_31_25_11_7 ∙ sym b.in_31_25_11_7) in
    omega arith

fence_once : (v w opcode funct3 kept rd rs1 : ℕ) → v < 2 ^ 32 → w < 2 ^ 32
    → IsFenceFormat v opcode funct3 kept rd rs1 → IsFenceFormat w opcode funct3 kept rd rs1 → v ≡ w
unfolding bits
fence_once v w opcode funct3 kept rd rs1 h g a b = omega arith

amo_once : (v w opcode funct5 acquire release funct3 rd rs1 rs2 : ℕ) → v < 2 ^ 32 → w < 2 ^ 32
    → IsAmoFormat v opcode funct5 acquire release funct3 rd rs1 rs2
    → IsAmoFormat w opcode funct5 acquire release funct3 rd rs1 rs2 → v ≡ w
unfolding bits
amo_once v w opcode funct5 acquire release funct3 rd rs1 rs2 h g a b = omega arith

-- an instruction has one word
pub agrees_once : (v w : ℕ) (insn : Insn) → v < 2 ^ 32 → w < 2 ^ 32 → Agrees v insn → Agrees w insn → v ≡ w
unfolding Agrees
agrees_once v w (Lui rd immediate) h g a b = u_once v w _ rd immediate h g a b
agrees_once v w (Auipc rd immediate) h g a b = u_once v w _ rd immediate h g a b
agrees_once v w (Jal rd offset) h g a b = j_once v w _ rd offset h g a b
agrees_once v w (Jalr rd rs1 offset) h g a b = i_once v w _ _ rd rs1 offset h g a b
agrees_once v w (Branch kind rs1 rs2 offset) h g a b = b_once v w _ _ rs1 rs2 offset h g a b
agrees_once v w (Load kind rd rs1 offset) h g a b = i_once v w _ _ rd rs1 offset h g a b
agrees_once v w (Store kind rs1 rs2 offset) h g a b = s_once v w _ _ rs1 rs2 offset h g a b
agrees_once v w (OpImmediate kind rd rs1 immediate) h g a b = i_once v w _ _ rd rs1 immediate h g a b
agrees_once v w (Shift kind rd rs1 amount) h g a b = r_once v w _ (shift_code kind) rd rs1 amount h g a b
agrees_once v w (Op kind rd rs1 rs2) h g a b = r_once v w _ (op_code kind) rd rs1 rs2 h g a b
agrees_once v w (Fence kept rd rs1) h g a b = fence_once v w _ _ kept rd rs1 h g a b
agrees_once v w (Amo kind acquire release rd rs1 rs2) h g a b = amo_once v w _ _ _ _ _ rd rs1 rs2 h g a b
agrees_once v w (LoadReserved acquire release rd rs1) h g a b = amo_once v w _ _ _ _ _ rd rs1 0 h g a b
agrees_once v w (StoreConditional acquire release rd rs1 rs2) h g a b = amo_once v w _ _ _ _ _ rd rs1 rs2 h g a b
agrees_once v w Ecall h g a b = a ∙ sym b
agrees_once v w Ebreak h g a b = a ∙ sym b
