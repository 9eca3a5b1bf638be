-- What the form of a word leaves to tell is the table's instruction.
use Rattle.std.proofs.Common.{◌≡◌, ℕ, zero, suc, Bool, true, false, ◌==◌, cond, Option, Some, None, option_map, inl, inr, refl, ◌∙◌, ap, arith, ◌<◌, if◌then◌else◌}
use Rattle.std.proofs.lemmas.Bool.Decides.{eqb_tells}
use Rattle.std.specs.Option.{option_or}
use Rattle.rv_isa.specs.Bits.{bits}
use Rattle.rv_isa.proofs.BitsLaws.{bits_below}
use Rattle.rv_isa.specs.declared.kinds.BranchKind.{BranchKind}
use Rattle.rv_isa.specs.declared.kinds.BranchKind.TheVariants.{Beq, Bne, Blt, Bge, Bltu, Bgeu}
use Rattle.rv_isa.specs.declared.kinds.ImmediateKind.{ImmediateKind}
use Rattle.rv_isa.specs.declared.kinds.ImmediateKind.TheVariants.{Addi, Slti, Sltiu, Xori, Ori, Andi}
use Rattle.rv_isa.specs.declared.kinds.ShiftKind.{ShiftKind}
use Rattle.rv_isa.specs.declared.kinds.ShiftKind.TheVariants.{Slli, Srli, Srai}
use Rattle.rv_isa.specs.declared.kinds.OpKind.{OpKind}
use Rattle.rv_isa.specs.declared.kinds.OpKind.TheVariants.{Add, Sub, Sll, Slt, Sltu, Xor, Srl, Sra, Or, And, Mul, Mulh, Mulhsu, Mulhu, Div, Divu, Rem, Remu}
use Rattle.rv_isa.specs.declared.kinds.LoadKind.{LoadKind}
use Rattle.rv_isa.specs.declared.kinds.LoadKind.TheVariants.{Lb, Lh, Lw, Lbu, Lhu}
use Rattle.rv_isa.specs.declared.kinds.StoreKind.{StoreKind}
use Rattle.rv_isa.specs.declared.kinds.StoreKind.TheVariants.{Sb, Sh, Sw}
use Rattle.rv_isa.specs.declared.instruction.Insn.{Insn}
use Rattle.rv_isa.specs.declared.forms.Form.{Form}
use Rattle.rv_isa.specs.declared.forms.Form.TheVariants.{Illegal, Lui as LuiForm, Auipc as AuipcForm, Jal as JalForm, Jalr as JalrForm, Fence as FenceForm, Amo as AmoForm, System as SystemForm}
use Rattle.rv_isa.specs.Table.{branch_kind, load_kind, store_kind, immediate_kind, shift_kind, op_kind, jalr_of, branch_of, load_of, store_of, shift_of, op_immediate_of, op_of, fence_of, operation_of, insn_of}
use Rattle.rv_isa.specs.Forms.{branch_form, load_form, store_form, immediate_form, op_form, operation_form, form_of, branch_insn, load_insn, store_insn, immediate_insn, shift_insn, op_insn, shift_left_of, shift_right_of, op_of_two, op_of_three, insn_of_form}

-- a test that chooses alike
chosen_alike : (word : ℕ) (b : Bool) (x y : Option Insn) (p q : Form) → x ≡ insn_of_form p word → y ≡ insn_of_form q word
    → cond b x y ≡ insn_of_form (cond b p q) word
chosen_alike word true x y p q h g = h
chosen_alike word false x y p q h g = g

branch_meaning : (word : ℕ) (kind : Option BranchKind)
    → option_map (λ kind. branch_insn kind word) kind ≡ insn_of_form (branch_form kind) word
branch_meaning word None = refl
branch_meaning word (Some Beq) = refl
branch_meaning word (Some Bne) = refl
branch_meaning word (Some Blt) = refl
branch_meaning word (Some Bge) = refl
branch_meaning word (Some Bltu) = refl
branch_meaning word (Some Bgeu) = refl

load_meaning : (word : ℕ) (kind : Option LoadKind)
    → option_map (λ kind. load_insn kind word) kind ≡ insn_of_form (load_form kind) word
load_meaning word None = refl
load_meaning word (Some Lb) = refl
load_meaning word (Some Lh) = refl
load_meaning word (Some Lw) = refl
load_meaning word (Some Lbu) = refl
load_meaning word (Some Lhu) = refl

store_meaning : (word : ℕ) (kind : Option StoreKind)
    → option_map (λ kind. store_insn kind word) kind ≡ insn_of_form (store_form kind) word
store_meaning word None = refl
store_meaning word (Some Sb) = refl
store_meaning word (Some Sh) = refl
store_meaning word (Some Sw) = refl

immediate_meaning : (word funct3 : ℕ) (kind : Option ImmediateKind) → shift_of word ≡ insn_of_form (immediate_form None funct3) word
    → option_or (option_map (λ kind. immediate_insn kind word) kind) (shift_of word) ≡ insn_of_form (immediate_form kind funct3) word
immediate_meaning word funct3 None shift = shift
immediate_meaning word funct3 (Some Addi) shift = refl
immediate_meaning word funct3 (Some Slti) shift = refl
immediate_meaning word funct3 (Some Sltiu) shift = refl
immediate_meaning word funct3 (Some Xori) shift = refl
immediate_meaning word funct3 (Some Ori) shift = refl
immediate_meaning word funct3 (Some Andi) shift = refl

-- a shift by an immediate amount, by funct7
shift_kind-1 : (funct7 : ℕ) → shift_kind funct7 1 ≡ (if funct7 == 0 then Some Slli else None)
unfolding shift_kind
shift_kind-1 funct7 = grind arith

shift_kind-5 : (funct7 : ℕ) → shift_kind funct7 5 ≡ (if funct7 == 0 then Some Srli else if funct7 == 32 then Some Srai else None)
unfolding shift_kind
shift_kind-5 funct7 = grind arith

shift_kind-other : (funct7 funct3 : ℕ) → (funct3 == 1) ≡ false → (funct3 == 5) ≡ false → shift_kind funct7 funct3 ≡ None
unfolding shift_kind
shift_kind-other funct7 funct3 h g = grind arith

mapped_shift_1 : (word : ℕ) (a : Bool) (x : ShiftKind)
    → option_map (λ kind. shift_insn kind word) (cond a (Some x) None) ≡ cond a (Some (shift_insn x word)) None
mapped_shift_1 word true x = refl
mapped_shift_1 word false x = refl

mapped_shift_2 : (word : ℕ) (a b : Bool) (x y : ShiftKind)
    → option_map (λ kind. shift_insn kind word) (cond a (Some x) (cond b (Some y) None)) ≡ cond a (Some (shift_insn x word)) (cond b (Some (shift_insn y word)) None)
mapped_shift_2 word true b x y = refl
mapped_shift_2 word false true x y = refl
mapped_shift_2 word false false x y = refl

shift_meaning_at : (word funct3 : ℕ)
    → option_map (λ kind. shift_insn kind word) (shift_kind (bits word 31 25) funct3) ≡ insn_of_form (immediate_form None funct3) word
unfolding shift_left_of shift_right_of
shift_meaning_at word funct3 =
    elim (eqb_tells funct3 1) [
      | inl (t, e) ↦ rw e (ap (option_map (λ kind. shift_insn kind word)) (shift_kind-1 (bits word 31 25)) ∙ mapped_shift_1 word (bits word 31 25 == 0) Slli)
      | inr (f, _) ↦ elim (eqb_tells funct3 5) [
        | inl (t, e) ↦ rw e (ap (option_map (λ kind. shift_insn kind word)) (shift_kind-5 (bits word 31 25)) ∙ mapped_shift_2 word (bits word 31 25 == 0) (bits word 31 25 == 32) Srli Srai)
        | inr (g, _) ↦ rw (f, g) (ap (option_map (λ kind. shift_insn kind word)) (shift_kind-other (bits word 31 25) funct3 f g))
      ]
    ]

-- an operation on two registers, by funct7
op_kind-0 : (funct7 : ℕ) → op_kind funct7 0 ≡ (if funct7 == 0 then Some Add else if funct7 == 1 then Some Mul else if funct7 == 32 then Some Sub else None)
unfolding op_kind
op_kind-0 funct7 = grind arith

op_kind-1 : (funct7 : ℕ) → op_kind funct7 1 ≡ (if funct7 == 0 then Some Sll else if funct7 == 1 then Some Mulh else None)
unfolding op_kind
op_kind-1 funct7 = grind arith

op_kind-2 : (funct7 : ℕ) → op_kind funct7 2 ≡ (if funct7 == 0 then Some Slt else if funct7 == 1 then Some Mulhsu else None)
unfolding op_kind
op_kind-2 funct7 = grind arith

op_kind-3 : (funct7 : ℕ) → op_kind funct7 3 ≡ (if funct7 == 0 then Some Sltu else if funct7 == 1 then Some Mulhu else None)
unfolding op_kind
op_kind-3 funct7 = grind arith

op_kind-4 : (funct7 : ℕ) → op_kind funct7 4 ≡ (if funct7 == 0 then Some Xor else if funct7 == 1 then Some Div else None)
unfolding op_kind
op_kind-4 funct7 = grind arith

op_kind-5 : (funct7 : ℕ) → op_kind funct7 5 ≡ (if funct7 == 0 then Some Srl else if funct7 == 1 then Some Divu else if funct7 == 32 then Some Sra else None)
unfolding op_kind
op_kind-5 funct7 = grind arith

op_kind-6 : (funct7 : ℕ) → op_kind funct7 6 ≡ (if funct7 == 0 then Some Or else if funct7 == 1 then Some Rem else None)
unfolding op_kind
op_kind-6 funct7 = grind arith

op_kind-7 : (funct7 : ℕ) → op_kind funct7 7 ≡ (if funct7 == 0 then Some And else if funct7 == 1 then Some Remu else None)
unfolding op_kind
op_kind-7 funct7 = grind arith

mapped_two : (word : ℕ) (a b : Bool) (x y : OpKind)
    → option_map (λ kind. op_insn kind word) (cond a (Some x) (cond b (Some y) None)) ≡ cond a (Some (op_insn x word)) (cond b (Some (op_insn y word)) None)
mapped_two word true b x y = refl
mapped_two word false true x y = refl
mapped_two word false false x y = refl

mapped_three : (word : ℕ) (a b c : Bool) (x y z : OpKind)
    → option_map (λ kind. op_insn kind word) (cond a (Some x) (cond b (Some y) (cond c (Some z) None)))
    ≡ cond a (Some (op_insn x word)) (cond b (Some (op_insn y word)) (cond c (Some (op_insn z word)) None))
mapped_three word true b c x y z = refl
mapped_three word false true c x y z = refl
mapped_three word false false true x y z = refl
mapped_three word false false false x y z = refl

of_two : (word funct3 : ℕ) (base m : OpKind)
    → op_kind (bits word 31 25) funct3 ≡ (if bits word 31 25 == 0 then Some base else if bits word 31 25 == 1 then Some m else None)
    → option_map (λ kind. op_insn kind word) (op_kind (bits word 31 25) funct3) ≡ op_of_two base m word
unfolding op_of_two
of_two word funct3 base m h =
    ap (option_map (λ kind. op_insn kind word)) h ∙ mapped_two word (bits word 31 25 == 0) (bits word 31 25 == 1) base m

of_three : (word funct3 : ℕ) (base m other : OpKind)
    → op_kind (bits word 31 25) funct3 ≡ (if bits word 31 25 == 0 then Some base else if bits word 31 25 == 1 then Some m else if bits word 31 25 == 32 then Some other else None)
    → option_map (λ kind. op_insn kind word) (op_kind (bits word 31 25) funct3) ≡ op_of_three base m other word
unfolding op_of_three
of_three word funct3 base m other h =
    ap (option_map (λ kind. op_insn kind word)) h ∙ mapped_three word (bits word 31 25 == 0) (bits word 31 25 == 1) (bits word 31 25 == 32) base m other

op_meaning_at : (word funct3 : ℕ) → funct3 < 8
    → option_map (λ kind. op_insn kind word) (op_kind (bits word 31 25) funct3) ≡ insn_of_form (op_form funct3) word
op_meaning_at word zero h = of_three word 0 Add Mul Sub (op_kind-0 (bits word 31 25))
op_meaning_at word (suc zero) h = of_two word 1 Sll Mulh (op_kind-1 (bits word 31 25))
op_meaning_at word (suc (suc zero)) h = of_two word 2 Slt Mulhsu (op_kind-2 (bits word 31 25))
op_meaning_at word (suc (suc (suc zero))) h = of_two word 3 Sltu Mulhu (op_kind-3 (bits word 31 25))
op_meaning_at word (suc (suc (suc (suc zero)))) h = of_two word 4 Xor Div (op_kind-4 (bits word 31 25))
op_meaning_at word (suc (suc (suc (suc (suc zero))))) h = of_three word 5 Srl Divu Sra (op_kind-5 (bits word 31 25))
op_meaning_at word (suc (suc (suc (suc (suc (suc zero)))))) h = of_two word 6 Or Rem (op_kind-6 (bits word 31 25))
op_meaning_at word (suc (suc (suc (suc (suc (suc (suc zero))))))) h = of_two word 7 And Remu (op_kind-7 (bits word 31 25))
op_meaning_at word (suc (suc (suc (suc (suc (suc (suc (suc n)))))))) h = absurd (omega arith)

jalr_meaning : (word : ℕ) → jalr_of word ≡ insn_of_form (if bits word 14 12 == 0b000 then JalrForm else Illegal) word
unfolding jalr_of
jalr_meaning word = chosen_alike word (bits word 14 12 == 0b000) _ None JalrForm Illegal refl refl

fence_meaning : (word : ℕ) → fence_of word ≡ insn_of_form (if bits word 14 12 == 0b000 then FenceForm else Illegal) word
unfolding fence_of
fence_meaning word = chosen_alike word (bits word 14 12 == 0b000) _ None FenceForm Illegal refl refl

load_of-meaning : (word : ℕ) → load_of word ≡ insn_of_form (load_form (load_kind (bits word 14 12))) word
unfolding load_of
load_of-meaning word = load_meaning word (load_kind (bits word 14 12))

store_of-meaning : (word : ℕ) → store_of word ≡ insn_of_form (store_form (store_kind (bits word 14 12))) word
unfolding store_of
store_of-meaning word = store_meaning word (store_kind (bits word 14 12))

branch_of-meaning : (word : ℕ) → branch_of word ≡ insn_of_form (branch_form (branch_kind (bits word 14 12))) word
unfolding branch_of
branch_of-meaning word = branch_meaning word (branch_kind (bits word 14 12))

shift_of-meaning : (word : ℕ) → shift_of word ≡ insn_of_form (immediate_form None (bits word 14 12)) word
unfolding shift_of
shift_of-meaning word = shift_meaning_at word (bits word 14 12)

op_immediate_of-meaning : (word : ℕ) → op_immediate_of word ≡ insn_of_form (immediate_form (immediate_kind (bits word 14 12)) (bits word 14 12)) word
unfolding op_immediate_of
op_immediate_of-meaning word = immediate_meaning word (bits word 14 12) (immediate_kind (bits word 14 12)) (shift_of-meaning word)

op_of-meaning : (word : ℕ) → op_of word ≡ insn_of_form (op_form (bits word 14 12)) word
unfolding op_of
op_of-meaning word = op_meaning_at word (bits word 14 12) (bits_below word 14 12)

operation_meaning : (word : ℕ) → operation_of word ≡ insn_of_form (operation_form (bits word 6 0) (bits word 14 12)) word
unfolding operation_of operation_form
operation_meaning word =
    chosen_alike word (bits word 6 0 == 0b0000011) _ _ _ _ (load_of-meaning word)
    (chosen_alike word (bits word 6 0 == 0b0100011) _ _ _ _ (store_of-meaning word)
    (chosen_alike word (bits word 6 0 == 0b0010011) _ _ _ _ (op_immediate_of-meaning word)
    (chosen_alike word (bits word 6 0 == 0b0110011) _ _ _ _ (op_of-meaning word)
    (chosen_alike word (bits word 6 0 == 0b0001111) _ _ _ _ (fence_meaning word)
    (chosen_alike word (bits word 6 0 == 0b0101111) _ _ AmoForm _ refl
    (chosen_alike word (bits word 6 0 == 0b1110011) _ _ SystemForm Illegal refl refl))))))

-- the instruction of a word is the one of its form
pub form_meaning : (word : ℕ) → insn_of word ≡ insn_of_form (form_of (bits word 6 0) (bits word 14 12)) word
unfolding insn_of form_of
form_meaning word =
    chosen_alike word (bits word 6 0 == 0b0110111) _ _ LuiForm _ refl
    (chosen_alike word (bits word 6 0 == 0b0010111) _ _ AuipcForm _ refl
    (chosen_alike word (bits word 6 0 == 0b1101111) _ _ JalForm _ refl
    (chosen_alike word (bits word 6 0 == 0b1100111) _ _ _ _ (jalr_meaning word)
    (chosen_alike word (bits word 6 0 == 0b1100011) _ _ _ _ (branch_of-meaning word) (operation_meaning word)))))
