-- The line of an instruction, and the class that it is decoded to.
use Rattle.std.proofs.Common.{◌≡◌, ℕ, ◌+◌, ◌*◌, ◌%◌, ◌^◌, ◌==◌, ℤ, Bool, true, false, Some, Option, ap, ◌∙◌, sym, subst, refl, arith, eq-eqb}
use Rattle.page_memory.specs.Memory.{Memory}
use Rattle.rv_isa.specs.declared.instruction.Insn.{Insn}
use Rattle.rv_isa.specs.declared.instruction.Insn.TheVariants.{Lui, Auipc, Jal, Jalr, Branch, Load, Store, OpImmediate, Shift, Op, Fence}
use Rattle.rv_isa.specs.declared.kinds.BranchKind.{BranchKind}
use Rattle.rv_isa.specs.declared.kinds.LoadKind.{LoadKind}
use Rattle.rv_isa.specs.declared.kinds.StoreKind.{StoreKind}
use Rattle.rv_isa.specs.declared.kinds.ImmediateKind.{ImmediateKind}
use Rattle.rv_isa.specs.declared.kinds.ShiftKind.{ShiftKind}
use Rattle.rv_isa.specs.declared.kinds.OpKind.{OpKind}
use Rattle.rv_exec.specs.Arithmetic.{word_sum, word_of_signed, even, is_taken}
use Rattle.rv_exec.specs.Registers.{Registers, register, with_register, with_pc, next_pc}
use Rattle.rv_exec.specs.Line.{Next, computed, landed, jumped, branched, insn_line, decoded_line}
use Rattle.rv_exec.specs.Uses.{data_pages, data_stores, decoded_pages, decoded_stores}
use Rattle.decoded_pages.specs.declared.instruction.DecodedInstruction.{DecodedInstruction}
use Rattle.decoded_pages.specs.Classes.{Class, Undecoded, Continues, Constant, Links, Jumps, LinksRegister, JumpsRegister, Branches, Loads, Stores, WithImmediate, Shifts, Operates, class_of, class_line, class_data, class_stores, decoded_as, data_of, stores_of, OfClass, HasAligned, branch_target}
use Rattle.decoded_pages.specs.Stands.{StandsFor, Writes}

of_fact : (c : Class) (fact : Type 0) → fact → OfClass c fact
of_fact Undecoded fact h = tt
of_fact Continues fact h = h
of_fact Constant fact h = h
of_fact Links fact h = h
of_fact Jumps fact h = h
of_fact LinksRegister fact h = h
of_fact JumpsRegister fact h = h
of_fact (Branches kind) fact h = h
of_fact (Loads kind) fact h = h
of_fact (Stores kind) fact h = h
of_fact (WithImmediate kind) fact h = h
of_fact (Shifts kind) fact h = h
of_fact (Operates kind) fact h = h

-- where the class's line is the instruction's, and so are the pages of its data, it stands for it
stands_as : (decoded : DecodedInstruction) (c : Class) (insn : Insn) (start place : ℕ) → class_of decoded.operation ≡ c → HasAligned c decoded.immediate
    → ((regs : Registers) (memory : Memory) → data_pages regs memory insn ≡ class_data c decoded.rs1 decoded.rs2 decoded.immediate regs memory)
    → ((regs : Registers) (memory : Memory) → data_stores regs memory insn ≡ class_stores c decoded.rs1 decoded.rs2 decoded.immediate regs memory)
    → ((hart : ℕ) (regs : Registers) (memory : Memory) → regs.pc ≡ start + place * 4 → insn_line hart regs memory insn ≡ class_line c decoded.rd decoded.rs1 decoded.rs2 decoded.immediate start regs memory)
    → StandsFor decoded start place (Some insn)
unfolding decoded_as data_of stores_of
stands_as decoded c insn start place class aligned uses stores is =
    record {
      line = λ hart word regs memory at.
          subst (λ k. OfClass k (insn_line hart regs memory insn ≡ class_line k decoded.rd decoded.rs1 decoded.rs2 decoded.immediate start regs memory)) (sym class)
          (of_fact c (insn_line hart regs memory insn ≡ class_line c decoded.rd decoded.rs1 decoded.rs2 decoded.immediate start regs memory) (is hart regs memory at));
      uses = λ regs memory.
          subst (λ k. OfClass k (data_pages regs memory insn ≡ class_data k decoded.rs1 decoded.rs2 decoded.immediate regs memory)) (sym class)
          (of_fact c (data_pages regs memory insn ≡ class_data c decoded.rs1 decoded.rs2 decoded.immediate regs memory) (uses regs memory));
      stores = λ regs memory.
          subst (λ k. OfClass k (data_stores regs memory insn ≡ class_stores k decoded.rs1 decoded.rs2 decoded.immediate regs memory)) (sym class)
          (of_fact c (data_stores regs memory insn ≡ class_stores c decoded.rs1 decoded.rs2 decoded.immediate regs memory) (stores regs memory));
      aligned = subst (λ k. HasAligned k decoded.immediate) (sym class) aligned;
    }

-- what is run by its word stands for every word
pub stands_undecoded : (decoded : DecodedInstruction) (start place : ℕ) (insn : Option Insn) → class_of decoded.operation ≡ Undecoded → StandsFor decoded start place insn
unfolding decoded_as data_of stores_of
stands_undecoded decoded start place insn class =
    record {
      line = λ hart word regs memory at.
          subst (λ k. OfClass k (decoded_line hart regs memory word insn ≡ class_line k decoded.rd decoded.rs1 decoded.rs2 decoded.immediate start regs memory)) (sym class) tt;
      uses = λ regs memory.
          subst (λ k. OfClass k (decoded_pages regs memory insn ≡ class_data k decoded.rs1 decoded.rs2 decoded.immediate regs memory)) (sym class) tt;
      stores = λ regs memory.
          subst (λ k. OfClass k (decoded_stores regs memory insn ≡ class_stores k decoded.rs1 decoded.rs2 decoded.immediate regs memory)) (sym class) tt;
      aligned = subst (λ k. HasAligned k decoded.immediate) (sym class) tt;
    }

-- ---- what writes a value to rd

zero_computed : (regs : Registers) (rd value : ℕ) → rd ≡ 0 → computed regs rd value ≡ with_pc regs (next_pc regs)
unfolding computed with_register
zero_computed regs rd value h = ap (λ r. with_register (with_pc regs (next_pc regs)) r value) h

pub operated_nothing : (decoded : DecodedInstruction) (start place : ℕ) (kind : OpKind) (rd rs1 rs2 : ℕ) → class_of decoded.operation ≡ Continues → rd ≡ 0 → StandsFor decoded start place (Some (Op kind rd rs1 rs2))
unfolding insn_line data_pages data_stores
operated_nothing decoded start place kind rd rs1 rs2 class h = stands_as decoded Continues (Op kind rd rs1 rs2) start place class tt (λ regs memory. refl) (λ regs memory. refl)
    (λ hart regs memory at. ap (λ r. Next r memory) (zero_computed regs rd _ h))

pub operated_stands : (decoded : DecodedInstruction) (start place : ℕ) (kind : OpKind) (rd rs1 rs2 : ℕ) → class_of decoded.operation ≡ Operates kind → decoded.rd ≡ rd → decoded.rs1 ≡ rs1 → decoded.rs2 ≡ rs2
    → StandsFor decoded start place (Some (Op kind rd rs1 rs2))
unfolding insn_line data_pages data_stores
operated_stands decoded start place kind rd rs1 rs2 class d a b =
    stands_as decoded (Operates kind) (Op kind rd rs1 rs2) start place class tt (λ regs memory. refl) (λ regs memory. refl)
    (λ hart regs memory at. sym (λ i. class_line (Operates kind) (d i) (a i) (b i) decoded.immediate start regs memory))

pub shifted_nothing : (decoded : DecodedInstruction) (start place : ℕ) (kind : ShiftKind) (rd rs1 amount : ℕ) → class_of decoded.operation ≡ Continues → rd ≡ 0 → StandsFor decoded start place (Some (Shift kind rd rs1 amount))
unfolding insn_line data_pages data_stores
shifted_nothing decoded start place kind rd rs1 amount class h = stands_as decoded Continues (Shift kind rd rs1 amount) start place class tt (λ regs memory. refl) (λ regs memory. refl)
    (λ hart regs memory at. ap (λ r. Next r memory) (zero_computed regs rd _ h))

pub shifted_stands : (decoded : DecodedInstruction) (start place : ℕ) (kind : ShiftKind) (rd rs1 amount : ℕ) → class_of decoded.operation ≡ Shifts kind → decoded.rd ≡ rd → decoded.rs1 ≡ rs1 → decoded.immediate ≡ amount
    → StandsFor decoded start place (Some (Shift kind rd rs1 amount))
unfolding insn_line data_pages data_stores
shifted_stands decoded start place kind rd rs1 amount class d a b =
    stands_as decoded (Shifts kind) (Shift kind rd rs1 amount) start place class tt (λ regs memory. refl) (λ regs memory. refl)
    (λ hart regs memory at. sym (λ i. class_line (Shifts kind) (d i) (a i) decoded.rs2 (b i) start regs memory))

pub immediate_nothing : (decoded : DecodedInstruction) (start place : ℕ) (kind : ImmediateKind) (rd rs1 : ℕ) (immediate : ℤ) → class_of decoded.operation ≡ Continues → rd ≡ 0 → StandsFor decoded start place (Some (OpImmediate kind rd rs1 immediate))
unfolding insn_line data_pages data_stores
immediate_nothing decoded start place kind rd rs1 immediate class h = stands_as decoded Continues (OpImmediate kind rd rs1 immediate) start place class tt (λ regs memory. refl) (λ regs memory. refl)
    (λ hart regs memory at. ap (λ r. Next r memory) (zero_computed regs rd _ h))

pub immediate_stands : (decoded : DecodedInstruction) (start place : ℕ) (kind : ImmediateKind) (rd rs1 : ℕ) (immediate : ℤ) → class_of decoded.operation ≡ WithImmediate kind → decoded.rd ≡ rd → decoded.rs1 ≡ rs1 → decoded.immediate ≡ word_of_signed immediate
    → StandsFor decoded start place (Some (OpImmediate kind rd rs1 immediate))
unfolding insn_line data_pages data_stores
immediate_stands decoded start place kind rd rs1 immediate class d a b =
    stands_as decoded (WithImmediate kind) (OpImmediate kind rd rs1 immediate) start place class tt (λ regs memory. refl) (λ regs memory. refl)
    (λ hart regs memory at. sym (λ i. class_line (WithImmediate kind) (d i) (a i) decoded.rs2 (b i) start regs memory))

-- ---- constants

pub lui_writes : (start place rd immediate : ℕ) → Writes (Lui rd immediate) start place rd (immediate * 2 ^ 12)
unfolding insn_line data_pages data_stores
lui_writes start place rd immediate = record { line = λ hart regs memory at. refl; uses = λ regs memory. refl; stores = λ regs memory. refl }

pub written_as : (insn : Insn) (start place rd value other : ℕ) → value ≡ other → Writes insn start place rd value → Writes insn start place rd other
written_as insn start place rd value other same writes = subst (Writes insn start place rd) same writes

pub auipc_writes : (start place rd immediate value : ℕ) → value ≡ word_sum (start + place * 4) (immediate * 2 ^ 12) → Writes (Auipc rd immediate) start place rd value
unfolding insn_line data_pages data_stores
auipc_writes start place rd immediate value is =
    record {
      line = λ hart regs memory at. ap (λ v. Next (computed regs rd v) memory) (ap (λ pc. word_sum pc (immediate * 2 ^ 12)) at ∙ sym is);
      uses = λ regs memory. refl;
      stores = λ regs memory. refl;
    }

pub constant_nothing : (decoded : DecodedInstruction) (insn : Insn) (start place rd value : ℕ) → class_of decoded.operation ≡ Continues → rd ≡ 0 → Writes insn start place rd value → StandsFor decoded start place (Some insn)
constant_nothing decoded insn start place rd value class h writes = stands_as decoded Continues insn start place class tt writes.uses writes.stores
    (λ hart regs memory at. writes.line hart regs memory at ∙ ap (λ r. Next r memory) (zero_computed regs rd value h))

pub constant_stands : (decoded : DecodedInstruction) (insn : Insn) (start place rd value : ℕ) → class_of decoded.operation ≡ Constant → decoded.rd ≡ rd → decoded.immediate ≡ value → Writes insn start place rd value
    → StandsFor decoded start place (Some insn)
constant_stands decoded insn start place rd value class d v writes = stands_as decoded Constant insn start place class tt writes.uses writes.stores
    (λ hart regs memory at. writes.line hart regs memory at ∙ sym (λ i. Next (computed regs (d i) (v i)) memory))

-- ---- loads and stores

pub loaded_stands : (decoded : DecodedInstruction) (start place : ℕ) (kind : LoadKind) (rd rs1 : ℕ) (offset : ℤ) → class_of decoded.operation ≡ Loads kind → decoded.rd ≡ rd → decoded.rs1 ≡ rs1 → decoded.immediate ≡ word_of_signed offset
    → StandsFor decoded start place (Some (Load kind rd rs1 offset))
unfolding insn_line data_pages data_stores
loaded_stands decoded start place kind rd rs1 offset class d a b =
    stands_as decoded (Loads kind) (Load kind rd rs1 offset) start place class tt
    (λ regs memory. sym (λ i. class_data (Loads kind) (a i) decoded.rs2 (b i) regs memory)) (λ regs memory. refl)
    (λ hart regs memory at. sym (λ i. class_line (Loads kind) (d i) (a i) decoded.rs2 (b i) start regs memory))

pub stored_stands : (decoded : DecodedInstruction) (start place : ℕ) (kind : StoreKind) (rs1 rs2 : ℕ) (offset : ℤ) → class_of decoded.operation ≡ Stores kind → decoded.rs1 ≡ rs1 → decoded.rs2 ≡ rs2 → decoded.immediate ≡ word_of_signed offset
    → StandsFor decoded start place (Some (Store kind rs1 rs2 offset))
unfolding insn_line data_pages data_stores
stored_stands decoded start place kind rs1 rs2 offset class a c b =
    stands_as decoded (Stores kind) (Store kind rs1 rs2 offset) start place class tt
    (λ regs memory. sym (λ i. class_data (Stores kind) (a i) (c i) (b i) regs memory)) (λ regs memory. sym (λ i. class_stores (Stores kind) (a i) (c i) (b i) regs memory))
    (λ hart regs memory at. sym (λ i. class_line (Stores kind) decoded.rd (a i) (c i) (b i) start regs memory))

-- ---- jumps and branches

-- the target is the page's first address and what the instruction is decoded to, and a multiple of 4
same_target : (start place offset : ℕ) → word_sum (start + place * 4) offset ≡ word_sum start (word_sum (place * 4) offset)
unfolding word_sum
same_target start place offset = omega arith

aligned_target : (start relative : ℕ) → start % 4096 ≡ 0 → relative % 4 ≡ 0 → word_sum start relative % 4 ≡ 0
unfolding word_sum
aligned_target start relative page even = omega arith

lands : (regs : Registers) (memory : Memory) (rd start place relative offset : ℕ) → regs.pc ≡ start + place * 4 → start % 4096 ≡ 0 → relative ≡ word_sum (place * 4) offset → relative % 4 ≡ 0
    → jumped regs memory rd (word_sum regs.pc offset) ≡ Next (with_register (with_pc regs (word_sum start relative)) rd (next_pc regs)) memory
unfolding jumped
lands regs memory rd start place relative offset at page is even =
    let target : word_sum regs.pc offset ≡ word_sum start relative = ap (λ pc. word_sum pc offset) at ∙ same_target start place offset ∙ ap (word_sum start) (sym is) in
    ap (λ t. landed regs memory rd t (t % 4 == 0)) target
    ∙ ap (landed regs memory rd (word_sum start relative)) (eq-eqb (word_sum start relative % 4) 0 (aligned_target start relative page even))

to_zero : (regs : Registers) (rd value : ℕ) → rd ≡ 0 → with_register regs rd value ≡ regs
unfolding with_register
to_zero regs rd value h = ap (λ r. with_register regs r value) h

pub jump_links : (decoded : DecodedInstruction) (start place rd : ℕ) (offset : ℤ) → class_of decoded.operation ≡ Links → decoded.rd ≡ rd → start % 4096 ≡ 0 → decoded.immediate ≡ word_sum (place * 4) (word_of_signed offset) → decoded.immediate % 4 ≡ 0
    → StandsFor decoded start place (Some (Jal rd offset))
unfolding insn_line data_pages data_stores
jump_links decoded start place rd offset class d page is even =
    stands_as decoded Links (Jal rd offset) start place class even (λ regs memory. refl) (λ regs memory. refl)
    (λ hart regs memory at. lands regs memory rd start place decoded.immediate (word_of_signed offset) at page is even
    ∙ sym (ap (λ r. Next (with_register (with_pc regs (word_sum start decoded.immediate)) r (next_pc regs)) memory) d))

pub jump_goes : (decoded : DecodedInstruction) (start place rd : ℕ) (offset : ℤ) → class_of decoded.operation ≡ Jumps → rd ≡ 0 → start % 4096 ≡ 0 → decoded.immediate ≡ word_sum (place * 4) (word_of_signed offset) → decoded.immediate % 4 ≡ 0
    → StandsFor decoded start place (Some (Jal rd offset))
unfolding insn_line data_pages data_stores
jump_goes decoded start place rd offset class h page is even =
    stands_as decoded Jumps (Jal rd offset) start place class even (λ regs memory. refl) (λ regs memory. refl)
    (λ hart regs memory at. lands regs memory rd start place decoded.immediate (word_of_signed offset) at page is even
    ∙ ap (λ r. Next r memory) (to_zero (with_pc regs (word_sum start decoded.immediate)) rd (next_pc regs) h))

pub register_links : (decoded : DecodedInstruction) (start place rd rs1 : ℕ) (offset : ℤ) → class_of decoded.operation ≡ LinksRegister → decoded.rd ≡ rd → decoded.rs1 ≡ rs1 → decoded.immediate ≡ word_of_signed offset
    → StandsFor decoded start place (Some (Jalr rd rs1 offset))
unfolding insn_line data_pages data_stores
register_links decoded start place rd rs1 offset class d a b =
    stands_as decoded LinksRegister (Jalr rd rs1 offset) start place class tt (λ regs memory. refl) (λ regs memory. refl)
    (λ hart regs memory at. sym (λ i. class_line LinksRegister (d i) (a i) decoded.rs2 (b i) start regs memory))

pub register_goes : (decoded : DecodedInstruction) (start place rd rs1 : ℕ) (offset : ℤ) → class_of decoded.operation ≡ JumpsRegister → rd ≡ 0 → decoded.rs1 ≡ rs1 → decoded.immediate ≡ word_of_signed offset
    → StandsFor decoded start place (Some (Jalr rd rs1 offset))
unfolding insn_line data_pages data_stores
register_goes decoded start place rd rs1 offset class h a b =
    stands_as decoded JumpsRegister (Jalr rd rs1 offset) start place class tt (λ regs memory. refl) (λ regs memory. refl)
    (λ hart regs memory at. ap (λ r. jumped regs memory r (even (word_sum (register regs rs1) (word_of_signed offset)))) h
    ∙ sym (λ i. class_line JumpsRegister decoded.rd (a i) decoded.rs2 (b i) start regs memory))

branches_so : (taken : Bool) (regs : Registers) (memory : Memory) (start place relative offset : ℕ) → regs.pc ≡ start + place * 4 → start % 4096 ≡ 0 → relative ≡ word_sum (place * 4) offset → relative % 4 ≡ 0
    → branched regs memory (word_sum regs.pc offset) taken ≡ Next (with_pc regs (branch_target taken start relative regs)) memory
branches_so true regs memory start place relative offset at page is even =
    lands regs memory 0 start place relative offset at page is even ∙ ap (λ r. Next r memory) (to_zero (with_pc regs (word_sum start relative)) 0 (next_pc regs) refl)
branches_so false regs memory start place relative offset at page is even = refl

pub branch_stands : (decoded : DecodedInstruction) (start place : ℕ) (kind : BranchKind) (rs1 rs2 : ℕ) (offset : ℤ) → class_of decoded.operation ≡ Branches kind → decoded.rs1 ≡ rs1 → decoded.rs2 ≡ rs2 → start % 4096 ≡ 0
    → decoded.immediate ≡ word_sum (place * 4) (word_of_signed offset) → decoded.immediate % 4 ≡ 0 → StandsFor decoded start place (Some (Branch kind rs1 rs2 offset))
unfolding insn_line data_pages data_stores
branch_stands decoded start place kind rs1 rs2 offset class a c page is even =
    stands_as decoded (Branches kind) (Branch kind rs1 rs2 offset) start place class even (λ regs memory. refl) (λ regs memory. refl)
    (λ hart regs memory at. branches_so (is_taken kind (register regs rs1) (register regs rs2)) regs memory start place decoded.immediate (word_of_signed offset) at page is even
    ∙ sym (λ i. class_line (Branches kind) decoded.rd (a i) (c i) decoded.immediate start regs memory))

pub fence_stands : (decoded : DecodedInstruction) (start place kept rd rs1 : ℕ) → class_of decoded.operation ≡ Continues → StandsFor decoded start place (Some (Fence kept rd rs1))
unfolding insn_line data_pages data_stores
fence_stands decoded start place kept rd rs1 class = stands_as decoded Continues (Fence kept rd rs1) start place class tt (λ regs memory. refl) (λ regs memory. refl) (λ hart regs memory at. refl)
