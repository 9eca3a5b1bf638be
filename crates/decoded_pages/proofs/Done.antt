-- A decoded instruction that was done has done what its line says.
use Rattle.std.proofs.Common.{◌≡◌, ◌<◌, ℕ, ◌+◌, ◌-◌, ◌*◌, ◌%◌, ◌^◌, ◌==◌, Bool, true, false, [], ◌∷◌, All, Ok, ap, ◌∙◌, sym, subst, refl, arith, eq-eqb}
use Rattle.page_memory.specs.declared.words.Access.{Access}
use Rattle.page_memory.specs.declared.words.Access.TheVariants as access
use Rattle.page_memory.specs.Memory.{Memory, loaded, stored}
use Rattle.page_memory.specs.Words.{page_number}
use Rattle.rv_isa.specs.declared.kinds.BranchKind.{BranchKind}
use Rattle.rv_isa.specs.declared.kinds.LoadKind.{LoadKind}
use Rattle.rv_isa.specs.declared.kinds.StoreKind.{StoreKind}
use Rattle.rv_isa.specs.declared.kinds.ImmediateKind.{ImmediateKind}
use Rattle.rv_isa.specs.declared.kinds.ShiftKind.{ShiftKind}
use Rattle.rv_isa.specs.declared.kinds.OpKind.{OpKind}
use Rattle.rv_exec.specs.Access.{load_width, store_width, extended}
use Rattle.rv_exec.specs.Arithmetic.{word_sum, even, result_of, immediate_operation, shift_operation, is_taken}
use Rattle.rv_exec.specs.Registers.{Registers, register, with_register, with_pc, next_pc}
use Rattle.rv_exec.proofs.RegistersLaws.{read_aside, advanced, computed_aside, landed_aside}
use Rattle.rv_exec.specs.Line.{Line, Next, computed, landed, jumped, load_line, store_line, after_load, after_store}
use Rattle.rv_exec.proofs.LineLaws.{all_front, all_none}
use Rattle.rv_exec.specs.Uses.{page_of_access, load_pages, store_pages}
use Rattle.decoded_pages.specs.declared.performing.After.{After}
use Rattle.decoded_pages.specs.declared.performing.After.TheVariants as after
use Rattle.decoded_pages.specs.declared.instruction.DecodedInstruction.{DecodedInstruction}
use Rattle.decoded_pages.specs.Classes.{Class, Continues, Constant, Links, Jumps, LinksRegister, JumpsRegister, Branches, Loads, Stores, WithImmediate, Shifts, Operates, class_of, class_line, class_data, class_stores, decoded_as, data_of, stores_of, OfClass, Falls, branch_target}
use Rattle.decoded_pages.specs.Following.{Performs, Reaches, Stays, WhereDone}
use Rattle.decoded_pages.specs.Running.{IsServed}

-- where it was not done, nothing has changed
pub undone : (decoded : DecodedInstruction) (start place : ℕ) (regs regs' : Registers) (memory memory' : Memory) → regs' ≡ regs → memory' ≡ memory → Performs decoded start place after.ByWord regs regs' memory memory'
undone decoded start place regs regs' memory memory' r m = record { followed = λ line at. tt; falls = tt; registers_stay = r; memory_stays = m }

pub stays_anyhow : (result : After) (fact : Type 0) → fact → Stays result fact
stays_anyhow after.Next fact h = tt
stays_anyhow (after.To relative) fact h = tt
stays_anyhow after.ByWord fact h = h

pub undecoded : (decoded : DecodedInstruction) (start place : ℕ) (regs : Registers) (memory : Memory) → Performs decoded start place after.ByWord regs regs memory memory
undecoded decoded start place regs memory = undone decoded start place regs regs memory memory refl refl

-- the line of the class, of the registers with pc aside
abbrev pub line_at : DecodedInstruction → Class → (start place : ℕ) → Registers → Memory → Line
line_at decoded c start place regs memory = class_line c decoded.rd decoded.rs1 decoded.rs2 decoded.immediate start (with_pc regs (start + place * 4)) memory

-- of a class that is run without its word
went_on : (decoded : DecodedInstruction) (c : Class) (start place : ℕ) (regs regs' : Registers) (memory memory' : Memory) → class_of decoded.operation ≡ c
    → Falls c
    → ((fact : Type 0) → OfClass c fact → fact)
    → line_at decoded c start place regs memory ≡ Next (with_pc regs' (word_sum (start + place * 4) 4)) memory'
    → Performs decoded start place after.Next regs regs' memory memory'
unfolding decoded_as
went_on decoded c start place regs regs' memory memory' class falls of is =
    record {
      followed = λ line. subst (λ k. OfClass k (line ≡ line_at decoded k start place regs memory) → line ≡ Next (with_pc regs' (word_sum (start + place * 4) 4)) memory') (sym class) (λ e. of (line ≡ line_at decoded c start place regs memory) e ∙ is);
      falls = subst Falls (sym class) falls;
      registers_stay = tt;
      memory_stays = tt;
    }

went_to : (decoded : DecodedInstruction) (c : Class) (start place relative : ℕ) (regs regs' : Registers) (memory : Memory) → class_of decoded.operation ≡ c
    → ((fact : Type 0) → OfClass c fact → fact)
    → line_at decoded c start place regs memory ≡ Next (with_pc regs' (word_sum start relative)) memory → relative % 4 ≡ 0
    → Performs decoded start place (after.To relative) regs regs' memory memory
unfolding decoded_as
went_to decoded c start place relative regs regs' memory class of is even =
    record {
      followed = λ line. subst (λ k. OfClass k (line ≡ line_at decoded k start place regs memory) → (line ≡ Next (with_pc regs' (word_sum start relative)) memory) × (relative % 4 ≡ 0)) (sym class) (λ e. (of (line ≡ line_at decoded c start place regs memory) e ∙ is, even));
      falls = tt;
      registers_stay = tt;
      memory_stays = tt;
    }

-- ---- the next one follows

moves_on : (regs : Registers) (pc : ℕ) → with_pc (with_pc regs pc) (next_pc (with_pc regs pc)) ≡ with_pc regs (word_sum pc 4)
unfolding word_sum
moves_on regs pc = sym (advanced regs pc)

pub continues : (decoded : DecodedInstruction) (start place : ℕ) (regs : Registers) (memory : Memory) → class_of decoded.operation ≡ Continues → Performs decoded start place after.Next regs regs memory memory
continues decoded start place regs memory class =
    went_on decoded Continues start place regs regs memory memory class tt (λ fact h. h) (ap (λ r. Next r memory) (moves_on regs (start + place * 4)))

writes_on : (regs : Registers) (pc rd value other : ℕ) → other ≡ value → computed (with_pc regs pc) rd other ≡ with_pc (with_register regs rd value) (word_sum pc 4)
unfolding word_sum
writes_on regs pc rd value other same = ap (computed (with_pc regs pc) rd) same ∙ sym (computed_aside regs pc rd value)

pub constant_written : (decoded : DecodedInstruction) (start place : ℕ) (regs regs' : Registers) (memory : Memory) → class_of decoded.operation ≡ Constant → regs' ≡ with_register regs decoded.rd decoded.immediate
    → Performs decoded start place after.Next regs regs' memory memory
constant_written decoded start place regs regs' memory class left =
    went_on decoded Constant start place regs regs' memory memory class tt (λ fact h. h)
    (ap (λ r. Next r memory) (writes_on regs (start + place * 4) decoded.rd decoded.immediate decoded.immediate refl ∙ ap (λ r. with_pc r (word_sum (start + place * 4) 4)) (sym left)))

pub immediate_written : (decoded : DecodedInstruction) (kind : ImmediateKind) (start place value : ℕ) (regs regs' : Registers) (memory : Memory) → class_of decoded.operation ≡ WithImmediate kind
    → value ≡ result_of (immediate_operation kind) (register regs decoded.rs1) decoded.immediate → regs' ≡ with_register regs decoded.rd value
    → Performs decoded start place after.Next regs regs' memory memory
immediate_written decoded kind start place value regs regs' memory class is left =
    went_on decoded (WithImmediate kind) start place regs regs' memory memory class tt (λ fact h. h)
    (ap (λ r. Next r memory)
    (writes_on regs (start + place * 4) decoded.rd value _ (ap (λ a. result_of (immediate_operation kind) a decoded.immediate) (read_aside regs (start + place * 4) decoded.rs1) ∙ sym is)
    ∙ ap (λ r. with_pc r (word_sum (start + place * 4) 4)) (sym left)))

pub shift_written : (decoded : DecodedInstruction) (kind : ShiftKind) (start place value : ℕ) (regs regs' : Registers) (memory : Memory) → class_of decoded.operation ≡ Shifts kind
    → value ≡ result_of (shift_operation kind) (register regs decoded.rs1) decoded.immediate → regs' ≡ with_register regs decoded.rd value
    → Performs decoded start place after.Next regs regs' memory memory
shift_written decoded kind start place value regs regs' memory class is left =
    went_on decoded (Shifts kind) start place regs regs' memory memory class tt (λ fact h. h)
    (ap (λ r. Next r memory)
    (writes_on regs (start + place * 4) decoded.rd value _ (ap (λ a. result_of (shift_operation kind) a decoded.immediate) (read_aside regs (start + place * 4) decoded.rs1) ∙ sym is)
    ∙ ap (λ r. with_pc r (word_sum (start + place * 4) 4)) (sym left)))

pub operation_written : (decoded : DecodedInstruction) (kind : OpKind) (start place value : ℕ) (regs regs' : Registers) (memory : Memory) → class_of decoded.operation ≡ Operates kind
    → value ≡ result_of kind (register regs decoded.rs1) (register regs decoded.rs2) → regs' ≡ with_register regs decoded.rd value
    → Performs decoded start place after.Next regs regs' memory memory
operation_written decoded kind start place value regs regs' memory class is left =
    went_on decoded (Operates kind) start place regs regs' memory memory class tt (λ fact h. h)
    (ap (λ r. Next r memory)
    (writes_on regs (start + place * 4) decoded.rd value _
    ((λ i. result_of kind (read_aside regs (start + place * 4) decoded.rs1 i) (read_aside regs (start + place * 4) decoded.rs2 i)) ∙ sym is)
    ∙ ap (λ r. with_pc r (word_sum (start + place * 4) 4)) (sym left)))

-- ---- loads and stores

pub load_written : (decoded : DecodedInstruction) (kind : LoadKind) (start place address number value : ℕ) (regs regs' : Registers) (memory : Memory) → class_of decoded.operation ≡ Loads kind
    → address ≡ word_sum (register regs decoded.rs1) decoded.immediate → loaded memory (load_width kind) address ≡ Ok number → value ≡ extended kind number → regs' ≡ with_register regs decoded.rd value
    → Performs decoded start place after.Next regs regs' memory memory
unfolding load_line
load_written decoded kind start place address number value regs regs' memory class at served is left =
    let pc = start + place * 4 in
    let base : word_sum (register (with_pc regs pc) decoded.rs1) decoded.immediate ≡ address = ap (λ a. word_sum a decoded.immediate) (read_aside regs pc decoded.rs1) ∙ sym at in
    went_on decoded (Loads kind) start place regs regs' memory memory class tt (λ fact h. h)
    (ap (load_line (with_pc regs pc) memory kind decoded.rd) base
    ∙ ap (after_load (with_pc regs pc) memory kind decoded.rd address) served
    ∙ ap (λ r. Next r memory) (writes_on regs pc decoded.rd value _ (sym is) ∙ ap (λ r. with_pc r (word_sum pc 4)) (sym left)))

pub store_done : (decoded : DecodedInstruction) (kind : StoreKind) (start place address : ℕ) (regs : Registers) (memory memory' : Memory) → class_of decoded.operation ≡ Stores kind
    → address ≡ word_sum (register regs decoded.rs1) decoded.immediate → stored memory (store_width kind) address (register regs decoded.rs2) ≡ Ok memory'
    → Performs decoded start place after.Next regs regs memory memory'
unfolding store_line
store_done decoded kind start place address regs memory memory' class at served =
    let pc = start + place * 4 in
    let base : word_sum (register (with_pc regs pc) decoded.rs1) decoded.immediate ≡ address = ap (λ a. word_sum a decoded.immediate) (read_aside regs pc decoded.rs1) ∙ sym at in
    went_on decoded (Stores kind) start place regs regs memory memory' class tt (λ fact h. h)
    ((λ i. store_line (with_pc regs pc) memory kind (base i) (read_aside regs pc decoded.rs2 i))
    ∙ ap (after_store (with_pc regs pc) address) served
    ∙ ap (λ r. Next r memory') (moves_on regs pc))

-- ---- jumps and branches

pub jumped_by : (decoded : DecodedInstruction) (start place : ℕ) (regs : Registers) (memory : Memory) → class_of decoded.operation ≡ Jumps → decoded.immediate % 4 ≡ 0
    → Performs decoded start place (after.To decoded.immediate) regs regs memory memory
unfolding with_pc
jumped_by decoded start place regs memory class even = went_to decoded Jumps start place decoded.immediate regs regs memory class (λ fact h. h) refl even

-- the address of the next instruction
next_address : (start place : ℕ) → word_sum start (place * 4 + 4) ≡ (start + place * 4 + 4) % 2 ^ 32
unfolding word_sum
next_address start place = let order : start + (place * 4 + 4) ≡ start + place * 4 + 4 = omega arith in ap (λ p. p % 2 ^ 32) order

links : (regs regs' : Registers) (start place rd link target : ℕ) → link ≡ word_sum start (place * 4 + 4) → regs' ≡ with_register regs rd link
    → with_register (with_pc (with_pc regs (start + place * 4)) target) rd (next_pc (with_pc regs (start + place * 4))) ≡ with_pc regs' target
links regs regs' start place rd link target is left =
    sym (landed_aside regs (start + place * 4) rd target) ∙ ap (λ l. with_pc (with_register regs rd l) target) (sym (is ∙ next_address start place)) ∙ ap (λ r. with_pc r target) (sym left)

pub linked : (decoded : DecodedInstruction) (start place link : ℕ) (regs regs' : Registers) (memory : Memory) → class_of decoded.operation ≡ Links → decoded.immediate % 4 ≡ 0
    → link ≡ word_sum start (place * 4 + 4) → regs' ≡ with_register regs decoded.rd link
    → Performs decoded start place (after.To decoded.immediate) regs regs' memory memory
linked decoded start place link regs regs' memory class even is left =
    went_to decoded Links start place decoded.immediate regs regs' memory class (λ fact h. h)
    (ap (λ r. Next r memory) (links regs regs' start place decoded.rd link (word_sum start decoded.immediate) is left)) even

branches_as : (taken : Bool) (start place immediate : ℕ) (regs : Registers) (memory : Memory) → taken ≡ true
    → Next (with_pc (with_pc regs (start + place * 4)) (branch_target taken start immediate (with_pc regs (start + place * 4)))) memory ≡ Next (with_pc regs (word_sum start immediate)) memory
unfolding with_pc
branches_as true start place immediate regs memory h = refl
branches_as false start place immediate regs memory h = absurd (cc)

leaves_as : (taken : Bool) (start place immediate : ℕ) (regs : Registers) (memory : Memory) → taken ≡ false
    → Next (with_pc (with_pc regs (start + place * 4)) (branch_target taken start immediate (with_pc regs (start + place * 4)))) memory ≡ Next (with_pc regs (word_sum (start + place * 4) 4)) memory
leaves_as true start place immediate regs memory h = absurd (cc)
leaves_as false start place immediate regs memory h = ap (λ r. Next r memory) (moves_on regs (start + place * 4))

compared : (decoded : DecodedInstruction) (kind : BranchKind) (regs : Registers) (pc : ℕ) → is_taken kind (register (with_pc regs pc) decoded.rs1) (register (with_pc regs pc) decoded.rs2) ≡ is_taken kind (register regs decoded.rs1) (register regs decoded.rs2)
compared decoded kind regs pc = λ i. is_taken kind (read_aside regs pc decoded.rs1 i) (read_aside regs pc decoded.rs2 i)

pub branch_taken : (decoded : DecodedInstruction) (kind : BranchKind) (start place : ℕ) (regs : Registers) (memory : Memory) → class_of decoded.operation ≡ Branches kind → decoded.immediate % 4 ≡ 0
    → is_taken kind (register regs decoded.rs1) (register regs decoded.rs2) ≡ true → Performs decoded start place (after.To decoded.immediate) regs regs memory memory
branch_taken decoded kind start place regs memory class even taken =
    went_to decoded (Branches kind) start place decoded.immediate regs regs memory class (λ fact h. h)
    (branches_as _ start place decoded.immediate regs memory (compared decoded kind regs (start + place * 4) ∙ taken)) even

pub branch_left : (decoded : DecodedInstruction) (kind : BranchKind) (start place : ℕ) (regs : Registers) (memory : Memory) → class_of decoded.operation ≡ Branches kind
    → is_taken kind (register regs decoded.rs1) (register regs decoded.rs2) ≡ false → Performs decoded start place after.Next regs regs memory memory
branch_left decoded kind start place regs memory class left =
    went_on decoded (Branches kind) start place regs regs memory memory class tt (λ fact h. h)
    (leaves_as _ start place decoded.immediate regs memory (compared decoded kind regs (start + place * 4) ∙ left))

-- a target is so far past the page's first address
back_to : (start target : ℕ) → start < 2 ^ 32 → target < 2 ^ 32 → word_sum start ((target + (2 ^ 32 - start)) % 2 ^ 32) ≡ target
unfolding word_sum
back_to start target s t = omega arith

aligned_past : (start target : ℕ) → start < 2 ^ 32 → start % 4096 ≡ 0 → target % 4 ≡ 0 → ((target + (2 ^ 32 - start)) % 2 ^ 32) % 4 ≡ 0
aligned_past start target s page even = omega arith

lands : (regs : Registers) (memory : Memory) (rd target other : ℕ) → other ≡ target → target % 4 ≡ 0 → jumped regs memory rd other ≡ Next (with_register (with_pc regs target) rd (next_pc regs)) memory
unfolding jumped
lands regs memory rd target other same even =
    ap (λ t. landed regs memory rd t (t % 4 == 0)) same ∙ ap (landed regs memory rd target) (eq-eqb (target % 4) 0 even)

pub linked_register : (decoded : DecodedInstruction) (start place target link : ℕ) (regs regs' : Registers) (memory : Memory) → class_of decoded.operation ≡ LinksRegister
    → start < 2 ^ 32 → start % 4096 ≡ 0 → target < 2 ^ 32 → target ≡ even (word_sum (register regs decoded.rs1) decoded.immediate) → target % 4 ≡ 0
    → link ≡ word_sum start (place * 4 + 4) → regs' ≡ with_register regs decoded.rd link
    → Performs decoded start place (after.To ((target + (2 ^ 32 - start)) % 2 ^ 32)) regs regs' memory memory
linked_register decoded start place target link regs regs' memory class s page t at aligned is left =
    let pc = start + place * 4 in
    let base : even (word_sum (register (with_pc regs pc) decoded.rs1) decoded.immediate) ≡ target = ap (λ a. even (word_sum a decoded.immediate)) (read_aside regs pc decoded.rs1) ∙ sym at in
    went_to decoded LinksRegister start place ((target + (2 ^ 32 - start)) % 2 ^ 32) regs regs' memory class (λ fact h. h)
    (lands (with_pc regs pc) memory decoded.rd target _ base aligned
    ∙ ap (λ r. Next r memory) (links regs regs' start place decoded.rd link target is left)
    ∙ ap (λ k. Next (with_pc regs' k) memory) (sym (back_to start target s t)))
    (aligned_past start target s page aligned)

to_zero : (regs : Registers) (value : ℕ) → with_register regs 0 value ≡ regs
unfolding with_register
to_zero regs value = refl

again : (regs : Registers) (pc target : ℕ) → with_pc (with_pc regs pc) target ≡ with_pc regs target
unfolding with_pc
again regs pc target = refl

pub jumped_register : (decoded : DecodedInstruction) (start place target : ℕ) (regs : Registers) (memory : Memory) → class_of decoded.operation ≡ JumpsRegister
    → start < 2 ^ 32 → start % 4096 ≡ 0 → target < 2 ^ 32 → target ≡ even (word_sum (register regs decoded.rs1) decoded.immediate) → target % 4 ≡ 0
    → Performs decoded start place (after.To ((target + (2 ^ 32 - start)) % 2 ^ 32)) regs regs memory memory
jumped_register decoded start place target regs memory class s page t at aligned =
    let pc = start + place * 4 in
    let base : even (word_sum (register (with_pc regs pc) decoded.rs1) decoded.immediate) ≡ target = ap (λ a. even (word_sum a decoded.immediate)) (read_aside regs pc decoded.rs1) ∙ sym at in
    went_to decoded JumpsRegister start place ((target + (2 ^ 32 - start)) % 2 ^ 32) regs regs memory class (λ fact h. h)
    (lands (with_pc regs pc) memory 0 target _ base aligned
    ∙ ap (λ r. Next r memory) (to_zero (with_pc (with_pc regs pc) target) (next_pc (with_pc regs pc)) ∙ again regs pc target)
    ∙ ap (λ k. Next (with_pc regs k) memory) (sym (back_to start target s t)))
    (aligned_past start target s page aligned)

-- ---- the pages of its data

-- whether a class loads or stores
abbrev pub has_data : Class → Bool
has_data (Loads kind) = true
has_data (Stores kind) = true
has_data _ = false

no_data : (c : Class) (rs1 rs2 immediate : ℕ) (regs : Registers) (memory : Memory) → has_data c ≡ false → class_data c rs1 rs2 immediate regs memory ≡ []
no_data (Loads kind) rs1 rs2 immediate regs memory h = absurd (cc)
no_data (Stores kind) rs1 rs2 immediate regs memory h = absurd (cc)
no_data _ rs1 rs2 immediate regs memory h = refl

no_stores : (c : Class) (rs1 rs2 immediate : ℕ) (regs : Registers) (memory : Memory) → has_data c ≡ false → class_stores c rs1 rs2 immediate regs memory ≡ []
no_stores (Stores kind) rs1 rs2 immediate regs memory h = absurd (cc)
no_stores _ rs1 rs2 immediate regs memory h = refl

where_done : (result : After) (fact : Type 0) → fact → WhereDone result fact
where_done after.Next fact h = h
where_done (after.To relative) fact h = h
where_done after.ByWord fact h = tt

module _ {B : Type 0} (memory : B → Memory) (serves : B → Access → ℕ → Type 0) (stays : B → B → Type 0) (decoded : DecodedInstruction) where
  pub unreached : (regs : Registers) (old new : B) → Reaches memory serves stays decoded after.ByWord regs old new
  unreached regs old new = record { used = tt; stored = tt; stayed = tt }

  pub apart : (result : After) (regs : Registers) (same : B) → stays same same → has_data (class_of decoded.operation) ≡ false → Reaches memory serves stays decoded result regs same same
  unfolding data_of stores_of
  apart result regs same itself none =
      let used = no_data (class_of decoded.operation) decoded.rs1 decoded.rs2 decoded.immediate regs (memory same) none in
      let stored = no_stores (class_of decoded.operation) decoded.rs1 decoded.rs2 decoded.immediate regs (memory same) none in
      record {
        used = where_done result _ (subst (All (IsServed serves same)) (sym used) (all_none (IsServed serves same)));
        stored = where_done result _ (subst (All (serves same access.Store)) (sym stored) (all_none (serves same access.Store)));
        stayed = where_done result _ itself;
      }

  pub reached_load : (kind : LoadKind) (address number : ℕ) (regs : Registers) (same : B) → class_of decoded.operation ≡ Loads kind
      → address ≡ word_sum (register regs decoded.rs1) decoded.immediate → loaded (memory same) (load_width kind) address ≡ Ok number
      → serves same access.Load (page_number address) → stays same same → Reaches memory serves stays decoded after.Next regs same same
  unfolding data_of stores_of load_pages
  reached_load kind address number regs same class at is served itself =
      let used : data_of decoded regs (memory same) ≡ page_number address ∷ [] =
      ap (λ c. class_data c decoded.rs1 decoded.rs2 decoded.immediate regs (memory same)) class ∙ ap (load_pages (memory same) kind) (sym at) ∙ ap (page_of_access address) is in
      let stored : stores_of decoded regs (memory same) ≡ [] = ap (λ c. class_stores c decoded.rs1 decoded.rs2 decoded.immediate regs (memory same)) class in
      record {
        used = subst (All (IsServed serves same)) (sym used) (all_front (IsServed serves same) (page_number address) [] (access.Load, served) (all_none (IsServed serves same)));
        stored = subst (All (serves same access.Store)) (sym stored) (all_none (serves same access.Store));
        stayed = itself;
      }

  pub reached_store : (kind : StoreKind) (address : ℕ) (regs : Registers) (old new : B) → class_of decoded.operation ≡ Stores kind
      → address ≡ word_sum (register regs decoded.rs1) decoded.immediate → stored (memory old) (store_width kind) address (register regs decoded.rs2) ≡ Ok (memory new)
      → serves old access.Store (page_number address) → stays old new → Reaches memory serves stays decoded after.Next regs old new
  unfolding data_of stores_of store_pages
  reached_store kind address regs old new class at is served kept =
      let whole : store_pages (memory old) kind (word_sum (register regs decoded.rs1) decoded.immediate) (register regs decoded.rs2) ≡ page_number address ∷ [] =
      ap (λ a. store_pages (memory old) kind a (register regs decoded.rs2)) (sym at) ∙ ap (page_of_access address) is in
      let used : data_of decoded regs (memory old) ≡ page_number address ∷ [] = ap (λ c. class_data c decoded.rs1 decoded.rs2 decoded.immediate regs (memory old)) class ∙ whole in
      let stored : stores_of decoded regs (memory old) ≡ page_number address ∷ [] = ap (λ c. class_stores c decoded.rs1 decoded.rs2 decoded.immediate regs (memory old)) class ∙ whole in
      record {
        used = subst (All (IsServed serves old)) (sym used) (all_front (IsServed serves old) (page_number address) [] (access.Store, served) (all_none (IsServed serves old)));
        stored = subst (All (serves old access.Store)) (sym stored) (all_front (serves old access.Store) (page_number address) [] served (all_none (serves old access.Store)));
        stayed = kept;
      }
