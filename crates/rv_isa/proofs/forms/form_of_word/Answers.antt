use Rattle.std.proofs.Common.{◌≡◌, ℕ, ◌+◌, ◌*◌, ◌<◌, List, map, length, get_or, replicate, slice_index_or, refl, ap, sym, ◌∙◌, subst, arith}
use Rattle.std.proofs.lemmas.List.FromFn.{get_or-map-range_with_len, get_or-range_with_len}
use Rattle.std.proofs.lemmas.List.{get_or_append_left}
use Rattle.std.proofs.lemmas.List.Folds.{flat_map-map}
use Rattle.std.specs.List.{range_with_len, flat_map}
use Rattle.rv_isa.specs.Bits.{bits}
use Rattle.rv_isa.proofs.BitsLaws.{bits_below}
use Rattle.rv_isa.specs.Table.{branch_kind, load_kind, store_kind, immediate_kind}
use Rattle.rv_isa.specs.Forms.{form_of, operation_form, insn_of_form}
use Rattle.rv_isa.proofs.FormLaws.{form_meaning}
use Rattle.rv_isa.specs.declared.forms.Form.{Form}
use Rattle.rv_isa.specs.declared.forms.Form.TheVariants.{Illegal}
use Rattle.rv_isa.specs.declared.forms.TheConstants.{FORMS}
use Rattle.rv_isa.proofs.Flattened.{in_one, placed}
use Rattle.rv_isa.proofs.forms.form_of_word.Goals as goal

-- the row of a funct3, and its copies
row : ℕ → List Form
row funct3 = map (λ opcode. form_of opcode funct3) (range_with_len 0 128)

block : ℕ → List (List Form)
block funct3 = replicate 32 (row funct3)

table_is : FORMS ≡ map block (range_with_len 0 8)
unfolding form_of operation_form branch_kind load_kind store_kind immediate_kind row block
table_is = refl

row_long : (funct3 : ℕ) → length (row funct3) ≡ 128
unfolding row
row_long funct3 = refl

block_long : (funct3 : ℕ) → length (flat_map (λ x. x) (block funct3)) ≡ 4096
unfolding row block
block_long funct3 = refl

first_row : (funct3 opcode : ℕ) → opcode < 128 → slice_index_or (flat_map (λ x. x) (block funct3)) opcode Illegal ≡ slice_index_or (row funct3) opcode Illegal
unfolding block
first_row funct3 opcode h =
    get_or_append_left (row funct3) (flat_map (λ x. x) (replicate 31 (row funct3))) Illegal opcode (subst (λ n. opcode < n) (sym (row_long funct3)) h)

in_row : (funct3 opcode : ℕ) → opcode < 128 → slice_index_or (row funct3) opcode Illegal ≡ form_of opcode funct3
unfolding row
in_row funct3 opcode h = get_or-map-range_with_len (λ opcode. form_of opcode funct3) 0 128 opcode opcode Illegal h (omega arith)

read : (opcode funct3 : ℕ) → opcode < 128 → funct3 < 8
    → slice_index_or (flat_map (λ x. x) (flat_map (λ x. x) FORMS)) (opcode + funct3 * 4096) Illegal ≡ form_of opcode funct3
read opcode funct3 h g =
    let place = opcode + funct3 * 4096 in
    let its : get_or (range_with_len 0 8) funct3 0 ≡ funct3 = get_or-range_with_len 0 8 funct3 0 g ∙ omega arith in
    ap (λ tables. slice_index_or (flat_map (λ x. x) (flat_map (λ x. x) tables)) place Illegal) table_is
    ∙ ap (λ all. slice_index_or all place Illegal) (in_one (map block (range_with_len 0 8)) ∙ flat_map-map (λ table. flat_map (λ x. x) table) block (range_with_len 0 8))
    ∙ placed (λ k. flat_map (λ x. x) (block k)) 4096 block_long (range_with_len 0 8) funct3 opcode 0 Illegal g (omega arith)
    ∙ ap (λ k. slice_index_or (flat_map (λ x. x) (block k)) opcode Illegal) its
    ∙ first_row funct3 opcode h
    ∙ in_row funct3 opcode h

pub overflow_mul-place : goal.overflow_mul-place
overflow_mul-place c = let below : c.funct3.result < 8 = subst (λ n. n < 8) (sym c.funct3.ensures) (bits_below c.args.word 14 12) in record { fits = omega arith }

pub overflow_add-place : goal.overflow_add-place
overflow_add-place c =
    let below : c.funct3.result < 8 = subst (λ n. n < 8) (sym c.funct3.ensures) (bits_below c.args.word 14 12) in
    let small : c.opcode.result < 128 = subst (λ n. n < 128) (sym c.opcode.ensures) (bits_below c.args.word 6 0) in
    record { fits = omega arith }

pub bounds-as_flattened-place : goal.bounds-as_flattened-place
bounds-as_flattened-place c =
    let below : c.funct3.result < 8 = subst (λ n. n < 8) (sym c.funct3.ensures) (bits_below c.args.word 14 12) in
    let small : c.opcode.result < 128 = subst (λ n. n < 128) (sym c.opcode.ensures) (bits_below c.args.word 6 0) in
    omega (arith, c.as_flattened-2.ensures.len, c.as_flattened.ensures.len)

pub returns-clause-value : goal.returns-clause-value
returns-clause-value c =
    rw (c.opcode.ensures, c.funct3.ensures)
    (ap (λ all. slice_index_or all (bits c.args.word 6 0 + bits c.args.word 14 12 * 4096) Illegal)
    (c.as_flattened-2.ensures.value ∙ ap (flat_map (λ x. x)) c.as_flattened.ensures.value)
    ∙ read (bits c.args.word 6 0) (bits c.args.word 14 12) (bits_below c.args.word 6 0) (bits_below c.args.word 14 12))

pub returns-clause-meaning : goal.returns-clause-meaning
returns-clause-meaning c =
    rw (c.opcode.ensures, c.funct3.ensures)
    (form_meaning c.args.word
    ∙ ap (λ form. insn_of_form form c.args.word)
    (sym (ap (λ all. slice_index_or all (bits c.args.word 6 0 + bits c.args.word 14 12 * 4096) Illegal)
    (c.as_flattened-2.ensures.value ∙ ap (flat_map (λ x. x)) c.as_flattened.ensures.value)
    ∙ read (bits c.args.word 6 0) (bits c.args.word 14 12) (bits_below c.args.word 6 0) (bits_below c.args.word 14 12))))
