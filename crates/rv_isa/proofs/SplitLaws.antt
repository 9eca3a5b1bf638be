-- The two parts of a word make the word, and each fits its field.
use Rattle.std.proofs.Common.{◌≡◌, ℕ, ◌+◌, ◌-◌, ◌*◌, ◌%◌, ◌^◌, ◌<◌, ◌≤◌, pos, negsuc, arith}
use Rattle.std.specs.Int.{w32, cast_unsigned}
use Rattle.std.proofs.Math.Decide.{dec_lt}
use Rattle.std.proofs.lemmas.Int.{ints}
use Rattle.rv_isa.proofs.BitsLaws.{signed-small, signed-large}
use Rattle.rv_isa.specs.Operands.{IsImmediate}
use Rattle.rv_isa.specs.Split.{low_part, high_part}

-- the low part at each sign
pub low_part_small : (word : ℕ) → word % 4096 < 2048 → low_part word ≡ pos (word % 4096)
unfolding low_part
low_part_small word small = signed-small 12 (word % 4096) small

pub low_part_large : (word : ℕ) → 2048 ≤ word % 4096 → low_part word ≡ negsuc (4095 - word % 4096)
unfolding low_part
low_part_large word large = signed-large 12 (word % 4096) large (omega arith)

-- what `lui` leaves and `addi` adds, as a word, is the word
pub parts_make_word : (word : ℕ) → word < 2 ^ 32
    → (high_part word * 4096 + cast_unsigned w32 (low_part word)) % 2 ^ 32 ≡ word
unfolding high_part
parts_make_word word below =
    elim (dec_lt (word % 4096) 2048) [
      | yes small ↦ rw (low_part_small word small) (omega arith)
      | no large ↦ (let big : 2048 ≤ word % 4096 = omega arith in rw (low_part_large word big) (omega arith))
    ]

pub low_part_fits : (word : ℕ) → IsImmediate (low_part word)
low_part_fits word =
    elim (dec_lt (word % 4096) 2048) [
      | yes small ↦ rw (low_part_small word small) (record { low = omega (arith, ints); high = omega (arith, ints) })
      | no large ↦ (let big : 2048 ≤ word % 4096 = omega arith in
          rw (low_part_large word big) (record { low = omega (arith, ints); high = omega (arith, ints) }))
    ]
