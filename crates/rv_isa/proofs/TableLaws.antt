-- `insn_of` finds the instruction that a word agrees with.
use Rattle.std.proofs.Common.{◌≡◌, ℕ, Bool, true, false, ◌&&◌, ◌==◌, cond, Option, Some, None, option_map, IfSome, List, [], ◌∷◌, ◌⊎◌, inl, inr, refl, sym, ◌∙◌, ap, subst, arith, ◌<◌, if◌then◌else◌}
use Rattle.std.proofs.lemmas.Bool.{eqb-true}
use Rattle.std.proofs.lemmas.Bool.Decides.{eqb_tells}
use Rattle.std.specs.Option.{option_or}
use Rattle.std.specs.List.{find}
use Rattle.rv_isa.specs.Bits.{bits}
use Rattle.rv_isa.proofs.BitsLaws.{bits_below}
use Rattle.rv_isa.specs.declared.kinds.BranchKind.{BranchKind}
use Rattle.rv_isa.specs.declared.kinds.BranchKind.TheVariants.{Beq, Bne, Blt, Bge, Bltu, Bgeu}
use Rattle.rv_isa.specs.declared.kinds.ImmediateKind.{ImmediateKind}
use Rattle.rv_isa.specs.declared.kinds.ImmediateKind.TheVariants.{Addi, Slti, Sltiu, Xori, Ori, Andi}
use Rattle.rv_isa.specs.declared.kinds.ShiftKind.{ShiftKind}
use Rattle.rv_isa.specs.declared.kinds.ShiftKind.TheVariants.{Slli, Srli, Srai}
use Rattle.rv_isa.specs.declared.kinds.OpKind.{OpKind}
use Rattle.rv_isa.specs.declared.kinds.OpKind.TheVariants.{Add, Sub, Sll, Slt, Sltu, Xor, Srl, Sra, Or, And, Mul, Mulh, Mulhsu, Mulhu, Div, Divu, Rem, Remu}
use Rattle.rv_isa.specs.declared.kinds.LoadKind.{LoadKind}
use Rattle.rv_isa.specs.declared.kinds.LoadKind.TheVariants.{Lb, Lh, Lw, Lbu, Lhu}
use Rattle.rv_isa.specs.declared.kinds.StoreKind.{StoreKind}
use Rattle.rv_isa.specs.declared.kinds.StoreKind.TheVariants.{Sb, Sh, Sw}
use Rattle.rv_isa.specs.declared.kinds.AmoKind.{AmoKind}
use Rattle.rv_isa.specs.declared.kinds.AmoKind.TheVariants.{Amoadd, Amoswap, Amoxor, Amoor, Amoand, Amomin, Amomax, Amominu, Amomaxu}
use Rattle.rv_isa.specs.declared.kinds.ReservationKind.{ReservationKind}
use Rattle.rv_isa.specs.declared.kinds.ReservationKind.TheVariants.{Lr, Sc}
use Rattle.rv_isa.specs.declared.kinds.Code.{Code}
use Rattle.rv_isa.specs.declared.instruction.Insn.{Insn}
use Rattle.rv_isa.specs.declared.instruction.Insn.TheVariants.{Lui, Auipc, Jal, Jalr, Branch, Load, Store, OpImmediate, Shift, Op, Fence, Amo, LoadReserved, StoreConditional, Ecall, Ebreak}
use Rattle.rv_isa.specs.Table.{Agrees, branch_kinds, load_kinds, store_kinds, immediate_kinds, shift_kinds, op_kinds, amo_kinds, reservation_kinds, branch_code, load_code, store_code, immediate_code, shift_code, op_code, amo_code, flag_code, branch_kind, load_kind, store_kind, immediate_kind, has_parts, has_reservation_codes, shift_kind, op_kind, amo_kind, reservation_kind, jalr_of, branch_of, load_of, store_of, shift_of, op_immediate_of, op_of, fence_of, amo_of, reservation_of, reservation_insn, system_of, operation_of, insn_of, i_immediate, u_immediate, j_immediate}

-- ---- what was found

-- a test of a number that chose
chosen : (a n : ℕ) (x y : Option Insn) (insn : Insn) → (if a == n then x else y) ≡ Some insn
    → ((a ≡ n) × (x ≡ Some insn)) ⊎ (y ≡ Some insn)
chosen a n x y insn h =
    elim (eqb_tells a n) [
      | inl (t, e) ↦ inl (e, sym (ap (λ b. cond b x y) t) ∙ h)
      | inr (f, _) ↦ inr (sym (ap (λ b. cond b x y) f) ∙ h)
    ]

-- what passes the test of a search
passes : {K : Type 0} (p : K → Bool) (x k : K) (rest : Option K) (b : Bool) → p x ≡ b → (rest ≡ Some k
    → p k ≡ true)
    → cond b (Some x) rest ≡ Some k → p k ≡ true
passes p x k rest true e later h = let same : x ≡ k = cc in sym (ap p same) ∙ e
passes p x k rest false e later h = later h

found_passes : {K : Type 0} (p : K → Bool) (xs : List K) (k : K) → find p xs ≡ Some k → p k ≡ true
found_passes p [] k h = cc
found_passes {K = K} p (x ∷ xs) k h = passes p x k (find p xs) (p x) refl (found_passes {K = K} p xs k) h

-- what a kind that was found makes
kind_found : {K : Type 0} (f : K → Insn) (o : Option K) (insn : Insn) → option_map f o ≡ Some insn
    → (k : K) × ((o ≡ Some k) × (f k ≡ insn))
kind_found f None insn h = cc
kind_found f (Some k) insn h = (k, (refl, cc))

-- the first of two that is there
either : (a b : Option Insn) (insn : Insn) → option_or a b ≡ Some insn → (a ≡ Some insn) ⊎ (b ≡ Some insn)
either None b insn h = inr h
either (Some x) b insn h = inl h

branch_kind-code : (funct3 : ℕ) (kind : BranchKind) → branch_kind funct3 ≡ Some kind → funct3 ≡ branch_code kind
unfolding branch_kind
branch_kind-code funct3 kind h = sym
    (eqb-true _ _ (found_passes (λ kind. branch_code kind == funct3) branch_kinds kind h))

load_kind-code : (funct3 : ℕ) (kind : LoadKind) → load_kind funct3 ≡ Some kind → funct3 ≡ load_code kind
unfolding load_kind
load_kind-code funct3 kind h = sym
    (eqb-true _ _ (found_passes (λ kind. load_code kind == funct3) load_kinds kind h))

store_kind-code : (funct3 : ℕ) (kind : StoreKind) → store_kind funct3 ≡ Some kind → funct3 ≡ store_code kind
unfolding store_kind
store_kind-code funct3 kind h = sym
    (eqb-true _ _ (found_passes (λ kind. store_code kind == funct3) store_kinds kind h))

immediate_kind-code : (funct3 : ℕ) (kind : ImmediateKind) → immediate_kind funct3 ≡ Some kind
    → funct3 ≡ immediate_code kind
unfolding immediate_kind
immediate_kind-code funct3 kind h = sym
    (eqb-true _ _ (found_passes (λ kind. immediate_code kind == funct3) immediate_kinds kind h))

-- two tests that passed
both_equal : (a m b n : ℕ) → (a == m && b == n) ≡ true → (m ≡ a) × (n ≡ b)
both_equal a m b n h =
    elim (eqb_tells a m) [
      | inl (t, e) ↦ (sym e, sym (eqb-true b n (sym (ap (λ x. x && (b == n)) t) ∙ h)))
      | inr (f, _) ↦ (let no : false ≡ true = sym (ap (λ x. x && (b == n)) f) ∙ h in cc)
    ]

-- a code with these parts
both_parts : (code : Code) (funct7 funct3 : ℕ) → has_parts code funct7 funct3 ≡ true
    → (funct7 ≡ code.funct7) × (funct3 ≡ code.funct3)
both_parts code funct7 funct3 h = both_equal code.funct7 funct7 code.funct3 funct3 h

shift_kind-code : (funct7 funct3 : ℕ) (kind : ShiftKind) → shift_kind funct7 funct3 ≡ Some kind
    → (funct7 ≡ (shift_code kind).funct7) × (funct3 ≡ (shift_code kind).funct3)
unfolding shift_kind
shift_kind-code funct7 funct3 kind h =
    both_parts (shift_code kind) funct7 funct3
    (found_passes (λ kind. has_parts (shift_code kind) funct7 funct3) shift_kinds kind h)

op_kind-code : (funct7 funct3 : ℕ) (kind : OpKind) → op_kind funct7 funct3 ≡ Some kind
    → (funct7 ≡ (op_code kind).funct7) × (funct3 ≡ (op_code kind).funct3)
unfolding op_kind
op_kind-code funct7 funct3 kind h =
    both_parts (op_code kind) funct7 funct3
    (found_passes (λ kind. has_parts (op_code kind) funct7 funct3) op_kinds kind h)

amo_kind-code : (funct5 funct3 : ℕ) (kind : AmoKind) → amo_kind funct5 funct3 ≡ Some kind
    → (funct5 ≡ amo_code kind) × (funct3 ≡ 0b010)
unfolding amo_kind
amo_kind-code funct5 funct3 kind h =
    elim (eqb_tells funct3 0b010) [
      | inl (t, e) ↦ (
        sym (eqb-true _ _ (found_passes (λ kind. amo_code kind == funct5) amo_kinds kind
            (sym (ap (λ b. cond b (find (λ kind. amo_code kind == funct5) amo_kinds) None) t) ∙ h))),
        e,
      )
      | inr (f, _) ↦ (let no : None ≡ Some kind = sym
          (ap (λ b. cond b (find (λ kind. amo_code kind == funct5) amo_kinds) None) f) ∙ h in cc)
    ]

reservation_kind-codes : (funct5 rs2 funct3 : ℕ) (kind : ReservationKind)
    → reservation_kind funct5 rs2 funct3 ≡ Some kind
    → (has_reservation_codes kind funct5 rs2 ≡ true) × (funct3 ≡ 0b010)
unfolding reservation_kind
reservation_kind-codes funct5 rs2 funct3 kind h =
    let search = find (λ kind. has_reservation_codes kind funct5 rs2) reservation_kinds in
    elim (eqb_tells funct3 0b010) [
      | inl (t, e) ↦ (
        found_passes (λ kind. has_reservation_codes kind funct5 rs2) reservation_kinds kind
            (sym (ap (λ b. cond b search None) t) ∙ h),
        e,
      )
      | inr (f, _) ↦ (let no : None ≡ Some kind = sym (ap (λ b. cond b search None) f) ∙ h in cc)
    ]

-- a bit as a flag
flag_of_bit : (bit : ℕ) → bit < 2 → bit ≡ flag_code (bit == 1)
flag_of_bit bit h =
    elim (eqb_tells bit 1) [
      | inl (t, e) ↦ rw t e
      | inr (f, other) ↦ rw f (omega arith)
    ]

jalr_of-agrees : (word : ℕ) (insn : Insn) → bits word 6 0 ≡ 0b1100111 → jalr_of word ≡ Some insn
    → Agrees word insn
unfolding jalr_of Agrees
jalr_of-agrees word insn o h =
    elim (chosen (bits word 14 12) 0 _ None insn h) [
      | inl (e, same) ↦ (let is : Jalr (bits word 11 7) (bits word 19 15) (i_immediate word) ≡ insn = cc in
          subst (Agrees word) is
          (record { in_6_0 = o; in_11_7 = refl; in_14_12 = e; in_19_15 = refl; in_31_20 = refl }))
      | inr none ↦ (let no : None ≡ Some insn = none in cc)
    ]

branch_of-agrees : (word : ℕ) (insn : Insn) → bits word 6 0 ≡ 0b1100011 → branch_of word ≡ Some insn
    → Agrees word insn
unfolding branch_of Agrees
branch_of-agrees word insn o h =
    let (kind, (found, is)) = kind_found _ _ insn h in
    subst (Agrees word) is
    (record {
      in_6_0 = o;
      in_14_12 = branch_kind-code _ kind found;
      in_19_15 = refl;
      in_24_20 = refl;
      in_31_25_11_7 = refl;
    })

load_of-agrees : (word : ℕ) (insn : Insn) → bits word 6 0 ≡ 0b0000011 → load_of word ≡ Some insn
    → Agrees word insn
unfolding load_of Agrees
load_of-agrees word insn o h =
    let (kind, (found, is)) = kind_found _ _ insn h in
    subst (Agrees word) is
    (record {
      in_6_0 = o;
      in_11_7 = refl;
      in_14_12 = load_kind-code _ kind found;
      in_19_15 = refl;
      in_31_20 =
          refl;
    })

store_of-agrees : (word : ℕ) (insn : Insn) → bits word 6 0 ≡ 0b0100011 → store_of word ≡ Some insn
    → Agrees word insn
unfolding store_of Agrees
store_of-agrees word insn o h =
    let (kind, (found, is)) = kind_found _ _ insn h in
    subst (Agrees word) is
    (record {
      in_6_0 = o;
      in_14_12 = store_kind-code _ kind found;
      in_19_15 = refl;
      in_24_20 = refl;
      in_31_25_11_7 = refl;
    })

shift_of-agrees : (word : ℕ) (insn : Insn) → bits word 6 0 ≡ 0b0010011 → shift_of word ≡ Some insn
    → Agrees word insn
unfolding shift_of Agrees
shift_of-agrees word insn o h =
    let (kind, (found, is)) = kind_found _ _ insn h in
    let codes = shift_kind-code _ _ kind found in
    subst (Agrees word) is
    (record {
      in_6_0 = o;
      in_11_7 = refl;
      in_14_12 = codes.1;
      in_19_15 = refl;
      in_24_20 = refl;
      in_31_25 =
          codes.0;
    })

op_immediate_of-agrees : (word : ℕ) (insn : Insn) → bits word 6 0 ≡ 0b0010011 → op_immediate_of word ≡ Some insn
    → Agrees word insn
unfolding op_immediate_of Agrees
op_immediate_of-agrees word insn o h =
    elim (either _ (shift_of word) insn h) [
      | inl one ↦ (let (kind, (found, is)) = kind_found _ _ insn one in
          subst (Agrees word) is
          (record {
            in_6_0 = o;
            in_11_7 = refl;
            in_14_12 = immediate_kind-code _ kind found;
            in_19_15 = refl;
            in_31_20 = refl;
          }))
      | inr other ↦ shift_of-agrees word insn o other
    ]

op_of-agrees : (word : ℕ) (insn : Insn) → bits word 6 0 ≡ 0b0110011 → op_of word ≡ Some insn → Agrees word insn
unfolding op_of Agrees
op_of-agrees word insn o h =
    let (kind, (found, is)) = kind_found _ _ insn h in
    let codes = op_kind-code _ _ kind found in
    subst (Agrees word) is
    (record {
      in_6_0 = o;
      in_11_7 = refl;
      in_14_12 = codes.1;
      in_19_15 = refl;
      in_24_20 = refl;
      in_31_25 =
          codes.0;
    })

fence_of-agrees : (word : ℕ) (insn : Insn) → bits word 6 0 ≡ 0b0001111 → fence_of word ≡ Some insn
    → Agrees word insn
unfolding fence_of Agrees
fence_of-agrees word insn o h =
    elim (chosen (bits word 14 12) 0 _ None insn h) [
      | inl (e, same) ↦ (let is : Fence (bits word 31 20) (bits word 11 7) (bits word 19 15) ≡ insn = cc in
          subst (Agrees word) is
          (record { in_6_0 = o; in_11_7 = refl; in_14_12 = e; in_19_15 = refl; in_31_20 = refl }))
      | inr none ↦ (let no : None ≡ Some insn = none in cc)
    ]

reservation_agrees : (word : ℕ) (kind : ReservationKind) → bits word 6 0 ≡ 0b0101111 → bits word 14 12 ≡ 0b010
    → has_reservation_codes kind (bits word 31 27) (bits word 24 20) ≡ true
    → Agrees word (reservation_insn word kind)
unfolding Agrees
reservation_agrees word Lr o funct3 codes =
    let (funct5, rs2) = both_equal 0b00010 (bits word 31 27) 0 (bits word 24 20) codes in
    record {
      in_6_0 = o;
      in_11_7 = refl;
      in_14_12 = funct3;
      in_19_15 = refl;
      in_24_20 = rs2;
      in_25 = flag_of_bit _ (bits_below word 25 25);
      in_26 = flag_of_bit _ (bits_below word 26 26);
      in_31_27 = funct5;
    }
reservation_agrees word Sc o funct3 code = record {
  in_6_0 = o;
  in_11_7 = refl;
  in_14_12 = funct3;
  in_19_15 = refl;
  in_24_20 = refl;
  in_25 = flag_of_bit _ (bits_below word 25 25);
  in_26 = flag_of_bit _ (bits_below word 26 26);
  in_31_27 = sym (eqb-true 0b00011 (bits word 31 27) code);
}

reservation_of-agrees : (word : ℕ) (insn : Insn) → bits word 6 0 ≡ 0b0101111 → reservation_of word ≡ Some insn
    → Agrees word insn
unfolding reservation_of
reservation_of-agrees word insn o h =
    let (kind, (found, is)) = kind_found _ _ insn h in
    let codes = reservation_kind-codes _ _ _ kind found in
    subst (Agrees word) is (reservation_agrees word kind o codes.1 codes.0)

amo_of-agrees : (word : ℕ) (insn : Insn) → bits word 6 0 ≡ 0b0101111 → amo_of word ≡ Some insn
    → Agrees word insn
unfolding amo_of Agrees
amo_of-agrees word insn o h =
    elim (either _ (reservation_of word) insn h) [
      | inl one ↦ (let (kind, (found, is)) = kind_found _ _ insn one in
          let codes = amo_kind-code _ _ kind found in
          subst (Agrees word) is
          (record {
            in_6_0 = o;
            in_11_7 = refl;
            in_14_12 = codes.1;
            in_19_15 = refl;
            in_24_20 = refl;
            in_25 = flag_of_bit _ (bits_below word 25 25);
            in_26 = flag_of_bit _ (bits_below word 26 26);
            in_31_27 = codes.0;
          }))
      | inr other ↦ reservation_of-agrees word insn o other
    ]

system_of-agrees : (word : ℕ) (insn : Insn) → system_of word ≡ Some insn → Agrees word insn
unfolding system_of Agrees
system_of-agrees word insn h =
    elim (chosen word 0x00000073 (Some Ecall) _ insn h) [
      | inl (e, same) ↦ (let is : Ecall ≡ insn = cc in subst (Agrees word) is e)
      | inr rest ↦ (elim (chosen word 0x00100073 (Some Ebreak) None insn rest) [
        | inl (e, same) ↦ (let is : Ebreak ≡ insn = cc in subst (Agrees word) is e)
        | inr none ↦ (let no : None ≡ Some insn = none in cc)
      ])
    ]

operation_of-agrees : (word : ℕ) (insn : Insn) → operation_of word ≡ Some insn → Agrees word insn
unfolding operation_of
operation_of-agrees word insn h =
    elim (chosen (bits word 6 0) 0b0000011 _ _ insn h) [
      | inl (e, found) ↦ load_of-agrees word insn e found
      | inr h ↦ elim (chosen (bits word 6 0) 0b0100011 _ _ insn h) [
        | inl (e, found) ↦ store_of-agrees word insn e found
        | inr h ↦ elim (chosen (bits word 6 0) 0b0010011 _ _ insn h) [
          | inl (e, found) ↦ op_immediate_of-agrees word insn e found
          | inr h ↦ elim (chosen (bits word 6 0) 0b0110011 _ _ insn h) [
            | inl (e, found) ↦ op_of-agrees word insn e found
            | inr h ↦ elim (chosen (bits word 6 0) 0b0001111 _ _ insn h) [
              | inl (e, found) ↦ fence_of-agrees word insn e found
              | inr h ↦ elim (chosen (bits word 6 0) 0b0101111 _ _ insn h) [
                | inl (e, found) ↦ amo_of-agrees word insn e found
                | inr h ↦ elim (chosen (bits word 6 0) 0b1110011 _ None insn h) [
                  | inl (e, found) ↦ system_of-agrees word insn found
                  | inr none ↦ (let no : None ≡ Some insn = none in cc)
                ]
              ]
            ]
          ]
        ]
      ]
    ]

-- what was found agrees
pub lookup_found : (word : ℕ) (insn : Insn) → insn_of word ≡ Some insn → Agrees word insn
unfolding insn_of Agrees
lookup_found word insn h =
    elim (chosen (bits word 6 0) 0b0110111 _ _ insn h) [
      | inl (e, same) ↦ (let is : Lui (bits word 11 7) (u_immediate word) ≡ insn = cc in
          subst (Agrees word) is (record { in_6_0 = e; in_11_7 = refl; in_31_12 = refl }))
      | inr h ↦ elim (chosen (bits word 6 0) 0b0010111 _ _ insn h) [
        | inl (e, same) ↦ (let is : Auipc (bits word 11 7) (u_immediate word) ≡ insn = cc in
            subst (Agrees word) is (record { in_6_0 = e; in_11_7 = refl; in_31_12 = refl }))
        | inr h ↦ elim (chosen (bits word 6 0) 0b1101111 _ _ insn h) [
          | inl (e, same) ↦ (let is : Jal (bits word 11 7) (j_immediate word) ≡ insn = cc in
              subst (Agrees word) is (record { in_6_0 = e; in_11_7 = refl; in_31_12 = refl }))
          | inr h ↦ elim (chosen (bits word 6 0) 0b1100111 _ _ insn h) [
            | inl (e, found) ↦ jalr_of-agrees word insn e found
            | inr h ↦ elim (chosen (bits word 6 0) 0b1100011 _ (operation_of word) insn h) [
              | inl (e, found) ↦ branch_of-agrees word insn e found
              | inr rest ↦ operation_of-agrees word insn rest
            ]
          ]
        ]
      ]
    ]

-- ---- what agrees is found

branch_kind-of_code : (kind : BranchKind) → branch_kind (branch_code kind) ≡ Some kind
unfolding branch_kind
branch_kind-of_code Beq = refl
branch_kind-of_code Bne = refl
branch_kind-of_code Blt = refl
branch_kind-of_code Bge = refl
branch_kind-of_code Bltu = refl
branch_kind-of_code Bgeu = refl

load_kind-of_code : (kind : LoadKind) → load_kind (load_code kind) ≡ Some kind
unfolding load_kind
load_kind-of_code Lb = refl
load_kind-of_code Lh = refl
load_kind-of_code Lw = refl
load_kind-of_code Lbu = refl
load_kind-of_code Lhu = refl

store_kind-of_code : (kind : StoreKind) → store_kind (store_code kind) ≡ Some kind
unfolding store_kind
store_kind-of_code Sb = refl
store_kind-of_code Sh = refl
store_kind-of_code Sw = refl

immediate_kind-of_code : (kind : ImmediateKind) → immediate_kind (immediate_code kind) ≡ Some kind
unfolding immediate_kind
immediate_kind-of_code Addi = refl
immediate_kind-of_code Slti = refl
immediate_kind-of_code Sltiu = refl
immediate_kind-of_code Xori = refl
immediate_kind-of_code Ori = refl
immediate_kind-of_code Andi = refl

-- a shift's code is no other operation's
immediate_kind-of_shift : (kind : ShiftKind) → immediate_kind (shift_code kind).funct3 ≡ None
unfolding immediate_kind
immediate_kind-of_shift Slli = refl
immediate_kind-of_shift Srli = refl
immediate_kind-of_shift Srai = refl

shift_kind-of_code : (kind : ShiftKind)
    → shift_kind (shift_code kind).funct7 (shift_code kind).funct3 ≡ Some kind
unfolding shift_kind
shift_kind-of_code Slli = refl
shift_kind-of_code Srli = refl
shift_kind-of_code Srai = refl

op_kind-of_code : (kind : OpKind) → op_kind (op_code kind).funct7 (op_code kind).funct3 ≡ Some kind
unfolding op_kind
op_kind-of_code Add = refl
op_kind-of_code Sub = refl
op_kind-of_code Sll = refl
op_kind-of_code Slt = refl
op_kind-of_code Sltu = refl
op_kind-of_code Xor = refl
op_kind-of_code Srl = refl
op_kind-of_code Sra = refl
op_kind-of_code Or = refl
op_kind-of_code And = refl
op_kind-of_code Mul = refl
op_kind-of_code Mulh = refl
op_kind-of_code Mulhsu = refl
op_kind-of_code Mulhu = refl
op_kind-of_code Div = refl
op_kind-of_code Divu = refl
op_kind-of_code Rem = refl
op_kind-of_code Remu = refl

amo_kind-of_code : (kind : AmoKind) → amo_kind (amo_code kind) 0b010 ≡ Some kind
unfolding amo_kind
amo_kind-of_code Amoadd = refl
amo_kind-of_code Amoswap = refl
amo_kind-of_code Amoxor = refl
amo_kind-of_code Amoor = refl
amo_kind-of_code Amoand = refl
amo_kind-of_code Amomin = refl
amo_kind-of_code Amomax = refl
amo_kind-of_code Amominu = refl
amo_kind-of_code Amomaxu = refl

-- LR.W and SC.W are no other operation of their opcode
amo_kind-of_lr : amo_kind 0b00010 0b010 ≡ None
unfolding amo_kind
amo_kind-of_lr = refl

amo_kind-of_sc : amo_kind 0b00011 0b010 ≡ None
unfolding amo_kind
amo_kind-of_sc = refl

reservation_kind-of_lr : reservation_kind 0b00010 0 0b010 ≡ Some Lr
unfolding reservation_kind
reservation_kind-of_lr = refl

reservation_kind-of_sc : (rs2 : ℕ) → reservation_kind 0b00011 rs2 0b010 ≡ Some Sc
unfolding reservation_kind
reservation_kind-of_sc rs2 = refl

flag-of_code : (b : Bool) → (flag_code b == 1) ≡ b
flag-of_code true = refl
flag-of_code false = refl

insn_of-ecall : insn_of 0x00000073 ≡ Some Ecall
unfolding insn_of operation_of bits system_of
insn_of-ecall = refl

insn_of-ebreak : insn_of 0x00100073 ≡ Some Ebreak
unfolding insn_of operation_of bits system_of
insn_of-ebreak = refl

pub lookup_only : (word : ℕ) (insn : Insn) → Agrees word insn → insn_of word ≡ Some insn
unfolding insn_of operation_of Agrees jalr_of branch_of load_of store_of op_immediate_of shift_of op_of fence_of
    amo_of reservation_of system_of
lookup_only word (Lui rd immediate) h = rw h.in_6_0 (rw (h.in_11_7, h.in_31_12) refl)
lookup_only word (Auipc rd immediate) h = rw h.in_6_0 (rw (h.in_11_7, h.in_31_12) refl)
lookup_only word (Jal rd offset) h = rw h.in_6_0 (rw (h.in_11_7, h.in_31_12) refl)
lookup_only word (Jalr rd rs1 offset) h = rw h.in_6_0
    (rw h.in_14_12 (rw (h.in_11_7, h.in_19_15, h.in_31_20) refl))
lookup_only word (Branch kind rs1 rs2 offset) h =
    rw h.in_6_0 (rw h.in_14_12 (rw branch_kind-of_code (rw (h.in_19_15, h.in_24_20, h.in_31_25_11_7) refl)))
lookup_only word (Load kind rd rs1 offset) h =
    rw h.in_6_0 (rw h.in_14_12 (rw load_kind-of_code (rw (h.in_11_7, h.in_19_15, h.in_31_20) refl)))
lookup_only word (Store kind rs1 rs2 offset) h =
    rw h.in_6_0 (rw h.in_14_12 (rw store_kind-of_code (rw (h.in_19_15, h.in_24_20, h.in_31_25_11_7) refl)))
lookup_only word (OpImmediate kind rd rs1 immediate) h =
    rw h.in_6_0 (rw h.in_14_12 (rw immediate_kind-of_code (rw (h.in_11_7, h.in_19_15, h.in_31_20) refl)))
lookup_only word (Shift kind rd rs1 amount) h =
    rw h.in_6_0 (rw (h.in_14_12, h.in_31_25)
    (rw immediate_kind-of_shift (rw shift_kind-of_code (rw (h.in_11_7, h.in_19_15, h.in_24_20) refl))))
lookup_only word (Op kind rd rs1 rs2) h =
    rw h.in_6_0 (rw (h.in_14_12, h.in_31_25) (rw op_kind-of_code (rw (h.in_11_7, h.in_19_15, h.in_24_20) refl)))
lookup_only word (Fence kept rd rs1) h = rw h.in_6_0
    (rw h.in_14_12 (rw (h.in_11_7, h.in_19_15, h.in_31_20) refl))
lookup_only word (Amo kind acquire release rd rs1 rs2) h =
    rw h.in_6_0 (rw (h.in_14_12, h.in_31_27) (rw amo_kind-of_code
    (rw (h.in_11_7, h.in_19_15, h.in_24_20, h.in_25, h.in_26)
    (rw (flag-of_code acquire, flag-of_code release) refl))))
lookup_only word (LoadReserved acquire release rd rs1) h =
    rw h.in_6_0 (rw (h.in_14_12, h.in_31_27, h.in_24_20) (rw (amo_kind-of_lr, reservation_kind-of_lr)
    (rw (h.in_11_7, h.in_19_15, h.in_25, h.in_26)
    (rw (flag-of_code acquire, flag-of_code release) refl))))
lookup_only word (StoreConditional acquire release rd rs1 rs2) h =
    rw h.in_6_0 (rw (h.in_14_12, h.in_31_27, h.in_24_20) (rw (amo_kind-of_sc, reservation_kind-of_sc)
    (rw (h.in_11_7, h.in_19_15, h.in_24_20, h.in_25, h.in_26)
    (rw (flag-of_code acquire, flag-of_code release) refl))))
lookup_only word Ecall h = rw h insn_of-ecall
lookup_only word Ebreak h = rw h insn_of-ebreak

-- the contract of `decode` by that of a look-up in the table
pub found_agrees : (word : ℕ) (found : Option Insn) → found ≡ insn_of word → IfSome found (Agrees word)
found_agrees word None e = tt
found_agrees word (Some insn) e = lookup_found word insn (sym e)

pub only_agreeing : (word : ℕ) (found : Option Insn) (insn : Insn) → found ≡ insn_of word → Agrees word insn
    → found ≡ Some insn
only_agreeing word found insn e h = e ∙ lookup_only word insn h

-- a word agrees with one instruction
pub agrees_with_one : (word : ℕ) (first second : Insn) → Agrees word first → Agrees word second → first ≡ second
agrees_with_one word first second h g =
    let same : Some first ≡ Some second = sym (lookup_only word first h) ∙ lookup_only word second g in cc
