-- Words and entries are the same thing: `entry_of` and `word_of` undo each other, and flags are the bits that masks test and set.
use Rattle.std.proofs.Common.{◌≡◌, ℕ, zero, suc, ◌+◌, ◌-◌, ◌*◌, ◌/◌, ◌%◌, ◌^◌, ◌<◌, ◌≤◌, Bool, true, false, refl, ap, ◌∙◌, arith, lit<, bit_and, bit_or, ◌==◌}
use Rattle.std.proofs.lemmas.Bool.Decides.{nat_tests}
use Rattle.std.specs.Int.Bits.{or_add_and}
use Rattle.std.proofs.lemmas.Nat.Bits.{and_pow}
use Rattle.sv32_table.specs.Entry.{Entry, flag, weigh, entry_of, word_of}

pub weigh-eq_one : (n weight : ℕ) → n < 2 → weigh (n == 1) weight ≡ n * weight
weigh-eq_one zero weight small = omega arith
weigh-eq_one (suc zero) weight small = omega arith
weigh-eq_one (suc (suc n)) weight small = absurd (omega arith)

pub weigh-flag : (word weight : ℕ) → weigh (flag word weight) weight ≡ word / weight % 2 * weight
weigh-flag word weight = weigh-eq_one (word / weight % 2) weight (omega arith)

pub by_halving : (word : ℕ) → word ≡ word / 1 % 2 + 2 * (word / 2 % 2) + 4 * (word / 4 % 2) + 8 * (word / 8 % 2) + 16 * (word / 16)
by_halving word = omega arith

pub more_halves : (word : ℕ) → word / 16 ≡ word / 16 % 2 + 2 * (word / 32 % 2) + 4 * (word / 64 % 2) + 8 * (word / 128 % 2) + 16 * (word / 256)
more_halves word = omega arith

pub word_of-entry_of : (word : ℕ) → word_of (entry_of word) ≡ word
unfolding word_of entry_of
word_of-entry_of word =
    let a = weigh-flag word 1 in
    let b = weigh-flag word 2 in
    let c = weigh-flag word 4 in
    let d = weigh-flag word 8 in
    let e = weigh-flag word 16 in
    let f = weigh-flag word 32 in
    let g = weigh-flag word 64 in
    let h = weigh-flag word 128 in
    let low = by_halving word in
    let high = more_halves word in
    let top : word / 256 ≡ word / 256 % 4 + 4 * (word / 1024) = omega arith in
    omega arith

eq-weigh : (bit weight : ℕ) → bit < 2 → 0 < weight → (bit * weight == weight) ≡ (bit == 1)
eq-weigh zero weight small some = grind (arith, nat_tests)
eq-weigh (suc zero) weight small some = grind (arith, nat_tests)
eq-weigh (suc (suc n)) weight small some = absurd (omega arith)

-- the test of a mask of one bit
pub mask_test : (word weight k : ℕ) → weight ≡ 2 ^ k → 0 < weight → (bit_and word weight == weight) ≡ flag word weight
mask_test word weight k is some =
    let both : bit_and word weight ≡ word / weight % 2 * weight = rw is (and_pow word k) in
    ap (λ n. n == weight) both ∙ eq-weigh (word / weight % 2) weight (omega arith) some

weigh-scale : (set : Bool) (weight : ℕ) → weigh set weight ≡ weight * weigh set 1
weigh-scale true weight = omega arith
weigh-scale false weight = omega arith

weigh-le : (set : Bool) → weigh set 1 ≤ 1
weigh-le true = omega arith
weigh-le false = omega arith

eq_one-weigh : (set : Bool) → (weigh set 1 == 1) ≡ set
eq_one-weigh true = refl
eq_one-weigh false = refl

-- the word of plain digits, its two quotients and its flags
module _ (a b c d e f g h s p : ℕ) (a1 : a ≤ 1) (b1 : b ≤ 1) (c1 : c ≤ 1) (d1 : d ≤ 1) (e1 : e ≤ 1) (f1 : f ≤ 1) (g1 : g ≤ 1) (h1 : h ≤ 1) (s3 : s ≤ 3) where
  abbrev total : ℕ
  total = a + 2 * b + 4 * c + 8 * d + 16 * e + 32 * f + 64 * g + 128 * h + 256 * s + 1024 * p

  digit_a : total / 1 % 2 ≡ a
  digit_a = omega arith

  digit_b : total / 2 % 2 ≡ b
  digit_b = omega arith

  digit_c : total / 4 % 2 ≡ c
  digit_c = omega arith

  digit_d : total / 8 % 2 ≡ d
  digit_d = omega arith

  digit_e : total / 16 % 2 ≡ e
  digit_e = omega arith

  digit_f : total / 32 % 2 ≡ f
  digit_f = omega arith

  digit_g : total / 64 % 2 ≡ g
  digit_g = omega arith

  digit_h : total / 128 % 2 ≡ h
  digit_h = omega arith

  digit_s : total / 256 % 4 ≡ s
  digit_s = omega arith

  digit_p : total / 1024 ≡ p
  digit_p = omega arith

pub entry_of-word_of : (e : Entry) → e.software < 4 → entry_of (word_of e) ≡ e
unfolding word_of entry_of
entry_of-word_of e small =
    let small' : e.software ≤ 3 = omega arith in
    let sum : word_of e ≡ total (weigh e.valid 1) (weigh e.read 1) (weigh e.write 1) (weigh e.execute 1) (weigh e.user 1) (weigh e.global 1) (weigh e.accessed 1) (weigh e.dirty 1) e.software e.ppn (weigh-le e.valid) (weigh-le e.read) (weigh-le e.write) (weigh-le e.execute) (weigh-le e.user) (weigh-le e.global) (weigh-le e.accessed) (weigh-le e.dirty) small' = omega (arith, weigh-scale e.valid 1, weigh-scale e.read 2, weigh-scale e.write 4, weigh-scale e.execute 8, weigh-scale e.user 16, weigh-scale e.global 32, weigh-scale e.accessed 64, weigh-scale e.dirty 128) in
    let valid-is : flag (word_of e) 1 ≡ e.valid = ap (λ w. flag w 1) sum ∙ ap (λ n. n == 1) (digit_a (weigh e.valid 1) (weigh e.read 1) (weigh e.write 1) (weigh e.execute 1) (weigh e.user 1) (weigh e.global 1) (weigh e.accessed 1) (weigh e.dirty 1) e.software e.ppn (weigh-le e.valid) (weigh-le e.read) (weigh-le e.write) (weigh-le e.execute) (weigh-le e.user) (weigh-le e.global) (weigh-le e.accessed) (weigh-le e.dirty) small') ∙ eq_one-weigh e.valid in
    let read-is : flag (word_of e) 2 ≡ e.read = ap (λ w. flag w 2) sum ∙ ap (λ n. n == 1) (digit_b (weigh e.valid 1) (weigh e.read 1) (weigh e.write 1) (weigh e.execute 1) (weigh e.user 1) (weigh e.global 1) (weigh e.accessed 1) (weigh e.dirty 1) e.software e.ppn (weigh-le e.valid) (weigh-le e.read) (weigh-le e.write) (weigh-le e.execute) (weigh-le e.user) (weigh-le e.global) (weigh-le e.accessed) (weigh-le e.dirty) small') ∙ eq_one-weigh e.read in
    let write-is : flag (word_of e) 4 ≡ e.write = ap (λ w. flag w 4) sum ∙ ap (λ n. n == 1) (digit_c (weigh e.valid 1) (weigh e.read 1) (weigh e.write 1) (weigh e.execute 1) (weigh e.user 1) (weigh e.global 1) (weigh e.accessed 1) (weigh e.dirty 1) e.software e.ppn (weigh-le e.valid) (weigh-le e.read) (weigh-le e.write) (weigh-le e.execute) (weigh-le e.user) (weigh-le e.global) (weigh-le e.accessed) (weigh-le e.dirty) small') ∙ eq_one-weigh e.write in
    let execute-is : flag (word_of e) 8 ≡ e.execute = ap (λ w. flag w 8) sum ∙ ap (λ n. n == 1) (digit_d (weigh e.valid 1) (weigh e.read 1) (weigh e.write 1) (weigh e.execute 1) (weigh e.user 1) (weigh e.global 1) (weigh e.accessed 1) (weigh e.dirty 1) e.software e.ppn (weigh-le e.valid) (weigh-le e.read) (weigh-le e.write) (weigh-le e.execute) (weigh-le e.user) (weigh-le e.global) (weigh-le e.accessed) (weigh-le e.dirty) small') ∙ eq_one-weigh e.execute in
    let user-is : flag (word_of e) 16 ≡ e.user = ap (λ w. flag w 16) sum ∙ ap (λ n. n == 1) (digit_e (weigh e.valid 1) (weigh e.read 1) (weigh e.write 1) (weigh e.execute 1) (weigh e.user 1) (weigh e.global 1) (weigh e.accessed 1) (weigh e.dirty 1) e.software e.ppn (weigh-le e.valid) (weigh-le e.read) (weigh-le e.write) (weigh-le e.execute) (weigh-le e.user) (weigh-le e.global) (weigh-le e.accessed) (weigh-le e.dirty) small') ∙ eq_one-weigh e.user in
    let global-is : flag (word_of e) 32 ≡ e.global = ap (λ w. flag w 32) sum ∙ ap (λ n. n == 1) (digit_f (weigh e.valid 1) (weigh e.read 1) (weigh e.write 1) (weigh e.execute 1) (weigh e.user 1) (weigh e.global 1) (weigh e.accessed 1) (weigh e.dirty 1) e.software e.ppn (weigh-le e.valid) (weigh-le e.read) (weigh-le e.write) (weigh-le e.execute) (weigh-le e.user) (weigh-le e.global) (weigh-le e.accessed) (weigh-le e.dirty) small') ∙ eq_one-weigh e.global in
    let accessed-is : flag (word_of e) 64 ≡ e.accessed = ap (λ w. flag w 64) sum ∙ ap (λ n. n == 1) (digit_g (weigh e.valid 1) (weigh e.read 1) (weigh e.write 1) (weigh e.execute 1) (weigh e.user 1) (weigh e.global 1) (weigh e.accessed 1) (weigh e.dirty 1) e.software e.ppn (weigh-le e.valid) (weigh-le e.read) (weigh-le e.write) (weigh-le e.execute) (weigh-le e.user) (weigh-le e.global) (weigh-le e.accessed) (weigh-le e.dirty) small') ∙ eq_one-weigh e.accessed in
    let dirty-is : flag (word_of e) 128 ≡ e.dirty = ap (λ w. flag w 128) sum ∙ ap (λ n. n == 1) (digit_h (weigh e.valid 1) (weigh e.read 1) (weigh e.write 1) (weigh e.execute 1) (weigh e.user 1) (weigh e.global 1) (weigh e.accessed 1) (weigh e.dirty 1) e.software e.ppn (weigh-le e.valid) (weigh-le e.read) (weigh-le e.write) (weigh-le e.execute) (weigh-le e.user) (weigh-le e.global) (weigh-le e.accessed) (weigh-le e.dirty) small') ∙ eq_one-weigh e.dirty in
    let software-is : word_of e / 256 % 4 ≡ e.software = ap (λ w. w / 256 % 4) sum ∙ digit_s (weigh e.valid 1) (weigh e.read 1) (weigh e.write 1) (weigh e.execute 1) (weigh e.user 1) (weigh e.global 1) (weigh e.accessed 1) (weigh e.dirty 1) e.software e.ppn (weigh-le e.valid) (weigh-le e.read) (weigh-le e.write) (weigh-le e.execute) (weigh-le e.user) (weigh-le e.global) (weigh-le e.accessed) (weigh-le e.dirty) small' in
    let ppn-is : word_of e / 1024 ≡ e.ppn = ap (λ w. w / 1024) sum ∙ digit_p (weigh e.valid 1) (weigh e.read 1) (weigh e.write 1) (weigh e.execute 1) (weigh e.user 1) (weigh e.global 1) (weigh e.accessed 1) (weigh e.dirty 1) e.software e.ppn (weigh-le e.valid) (weigh-le e.read) (weigh-le e.write) (weigh-le e.execute) (weigh-le e.user) (weigh-le e.global) (weigh-le e.accessed) (weigh-le e.dirty) small' in
    λ i. record { valid = valid-is i; read = read-is i; write = write-is i; execute = execute-is i; user = user-is i; global = global-is i; accessed = accessed-is i; dirty = dirty-is i; software = software-is i; ppn = ppn-is i }

-- a flag set by its mask
pub word_of_accessed : (word : ℕ) → bit_or word 64 ≡ word_of (record (entry_of word) { accessed = true })
unfolding word_of entry_of
word_of_accessed word =
    let whole = word_of-entry_of word in
    let sum = or_add_and word 64 in
    let part : bit_and word 64 ≡ word / 64 % 2 * 64 = and_pow word 6 in
    let was = weigh-flag word 64 in
    omega arith

pub word_of_dirty : (word : ℕ) → bit_or word 128 ≡ word_of (record (entry_of word) { dirty = true })
unfolding word_of entry_of
word_of_dirty word =
    let whole = word_of-entry_of word in
    let sum = or_add_and word 128 in
    let part : bit_and word 128 ≡ word / 128 % 2 * 128 = and_pow word 7 in
    let was = weigh-flag word 128 in
    omega arith

-- a flag cleared by taking its weight away
pub word_of_not_accessed : (word : ℕ) → (entry_of word).accessed ≡ true → word - 64 ≡ word_of (record (entry_of word) { accessed = false })
unfolding word_of entry_of
word_of_not_accessed word set =
    let whole = word_of-entry_of word in
    let was : weigh (flag word 64) 64 ≡ 64 = ap (λ b. weigh b 64) set in
    omega arith

pub word_of_not_dirty : (word : ℕ) → (entry_of word).dirty ≡ true → word - 128 ≡ word_of (record (entry_of word) { dirty = false })
unfolding word_of entry_of
word_of_not_dirty word set =
    let whole = word_of-entry_of word in
    let was : weigh (flag word 128) 128 ≡ 128 = ap (λ b. weigh b 128) set in
    omega arith

-- each flag is the test of its mask
pub valid_flag : (word : ℕ) → (bit_and word 1 == 1) ≡ (entry_of word).valid
unfolding entry_of
valid_flag word = mask_test word 1 0 refl (lit< tt)

pub read_flag : (word : ℕ) → (bit_and word 2 == 2) ≡ (entry_of word).read
unfolding entry_of
read_flag word = mask_test word 2 1 refl (lit< tt)

pub write_flag : (word : ℕ) → (bit_and word 4 == 4) ≡ (entry_of word).write
unfolding entry_of
write_flag word = mask_test word 4 2 refl (lit< tt)

pub execute_flag : (word : ℕ) → (bit_and word 8 == 8) ≡ (entry_of word).execute
unfolding entry_of
execute_flag word = mask_test word 8 3 refl (lit< tt)

pub user_flag : (word : ℕ) → (bit_and word 16 == 16) ≡ (entry_of word).user
unfolding entry_of
user_flag word = mask_test word 16 4 refl (lit< tt)

pub accessed_flag : (word : ℕ) → (bit_and word 64 == 64) ≡ (entry_of word).accessed
unfolding entry_of
accessed_flag word = mask_test word 64 6 refl (lit< tt)

pub dirty_flag : (word : ℕ) → (bit_and word 128 == 128) ≡ (entry_of word).dirty
unfolding entry_of
dirty_flag word = mask_test word 128 7 refl (lit< tt)

pub ppn_part : (word : ℕ) → word / 1024 ≡ (entry_of word).ppn
unfolding entry_of
ppn_part word = refl

pub software_small : (word : ℕ) → (entry_of word).software < 4
unfolding entry_of
software_small word = omega arith

pub accessed_room : (word : ℕ) → (entry_of word).accessed ≡ true → 64 ≤ word
unfolding entry_of
accessed_room word set =
    let was : weigh (flag word 64) 64 ≡ 64 = ap (λ b. weigh b 64) set in
    let part = weigh-flag word 64 in
    omega arith

pub same_accessed : (word : ℕ) → (entry_of word).accessed ≡ false → word ≡ word_of (record (entry_of word) { accessed = false })
unfolding word_of entry_of
same_accessed word clear =
    let whole = word_of-entry_of word in
    let was : weigh (flag word 64) 64 ≡ 0 = ap (λ b. weigh b 64) clear in
    omega arith

pub dirty_room : (word : ℕ) → (entry_of word).dirty ≡ true → 128 ≤ word
unfolding entry_of
dirty_room word set =
    let was : weigh (flag word 128) 128 ≡ 128 = ap (λ b. weigh b 128) set in
    let part = weigh-flag word 128 in
    omega arith

pub same_dirty : (word : ℕ) → (entry_of word).dirty ≡ false → word ≡ word_of (record (entry_of word) { dirty = false })
unfolding word_of entry_of
same_dirty word clear =
    let whole = word_of-entry_of word in
    let was : weigh (flag word 128) 128 ≡ 0 = ap (λ b. weigh b 128) clear in
    omega arith

-- a store sets A and then D
pub touched_by_store : (word one two : ℕ) → one ≡ word_of (record (entry_of word) { accessed = true })
    → two ≡ word_of (record (entry_of one) { dirty = true }) → two ≡ word_of (record (entry_of word) { accessed = true; dirty = true })
touched_by_store word one two first second =
    let e : Entry = record (entry_of word) { accessed = true } in
    let back : entry_of one ≡ e = ap entry_of first ∙ entry_of-word_of e (software_small word) in
    second ∙ ap (λ (x : Entry). word_of (record x { dirty = true })) back
