-- Items one after another in the second pass, and how much each puts.
use Rattle.std.proofs.Common.{◌≡◌, ℕ, ◌+◌, ◌*◌, ◌<◌, ◌≤◌, List, [], ◌∷◌, ◌++◌, length, drop, get_or, Bool, true, false, Option, Some, None, Result, Ok, Err, refl, sym, ap, ◌∙◌, subst, arith, length-append, drop-cons, add-one, add-zero, zero-add}
use Rattle.std.proofs.lemmas.List.{length-replicate, drop_all}
use Rattle.byteorder.specs.Endian.{little_bytes}
use Rattle.std.specs.Prelude.{⊤, pos, ◌-ℤ◌}
use Rattle.rv_isa.specs.declared.instruction.Insn.TheVariants.{Jal, Branch as BranchInsn}
use Rattle.rv_asm.specs.declared.word.TextWord.TheVariants.{Instruction, Plain}
use Rattle.asm_lines.specs.declared.fault.FaultKind.{FaultKind}
use Rattle.rv_asm.specs.declared.fault.AsmError.{AsmError}
use Rattle.rv_asm.specs.declared.fault.AsmError.TheVariants.{Fault, NoMemory}
use Rattle.asm_statements.specs.declared.section.Section.{Section}
use Rattle.asm_statements.specs.declared.section.Section.TheVariants.{Text, Data}
use Rattle.asm_statements.specs.declared.part.CodePart.{CodePart}
use Rattle.asm_statements.specs.declared.part.CodePart.TheVariants.{Fixed, LoadAddress, Jump, Branch, Number, Address}
use Rattle.asm_values.specs.declared.datum.Datum.{Datum}
use Rattle.asm_values.specs.declared.datum.Datum.TheVariants.{Word, Pointer, Half, Byte, Zeros}
use Rattle.rv_asm.specs.declared.item.Item.{Item}
use Rattle.rv_asm.specs.declared.item.Item.TheVariants.{Label, InText, InData}
use Rattle.rv_asm.specs.declared.word.TextWord.{TextWord}
use Rattle.rv_asm.specs.Steps.{FaultAt, Fails, chained, map_value, on_line}
use Rattle.rv_asm.specs.Program.{size, item_length, address_of}
use Rattle.asm_statements.specs.Parts.{code_length}
use Rattle.asm_values.specs.Lengths.{datum_length}
use Rattle.rv_asm.specs.SecondPass.{Sections, code_words, datum_bytes, at_label, load_words, jump_words, branch_words, if_reached, reaches, next_address, put, put_all, no_sections, second_pass}

pub put_next : (all : List Item) (sections more : Sections) (items : List Item) (i : ℕ) (item : Item) → i < length items → item ≡ get_or items i item → put all sections item ≡ Ok more → put_all all sections (drop i items) ≡ put_all all more (drop (i + 1) items)
unfolding put_all
put_next all sections more items i item within at is =
    let cut : drop i items ≡ item ∷ drop (i + 1) items = drop-cons items i item within ∙ (λ k. sym at k ∷ sym (ap (λ n. drop n items) (add-one i)) k) in
    ap (put_all all sections) cut ∙ ap (chained (λ s. put_all all s (drop (i + 1) items))) is

pub put_refuse : (all : List Item) (sections : Sections) (items : List Item) (i : ℕ) (item : Item) (told : Result Sections FaultAt) (error : AsmError) → i < length items → item ≡ get_or items i item → put_all all sections (drop i items) ≡ told → Fails (put all sections item) error → Fails told error
unfolding put_all
put_refuse all sections items i item told (Fault line kind) within at same is =
    let cut : drop i items ≡ item ∷ drop (i + 1) items = drop-cons items i item within ∙ (λ k. sym at k ∷ sym (ap (λ n. drop n items) (add-one i)) k) in
    sym same ∙ ap (put_all all sections) cut ∙ ap (chained (λ s. put_all all s (drop (i + 1) items))) is
put_refuse all sections items i item told NoMemory within at same is = tt

pub put_end : (all : List Item) (sections : Sections) (items : List Item) (i : ℕ) → length items ≤ i → put_all all sections (drop i items) ≡ Ok sections
unfolding put_all
put_end all sections items i past = ap (put_all all sections) (drop_all i items past)

pub size_next : (section : Section) (items : List Item) (i : ℕ) (item : Item) → i < length items → item ≡ get_or items i item → size section (drop i items) ≡ item_length section item + size section (drop (i + 1) items)
unfolding size
size_next section items i item within at =
    let cut : drop i items ≡ item ∷ drop (i + 1) items = drop-cons items i item within ∙ (λ k. sym at k ∷ sym (ap (λ n. drop n items) (add-one i)) k) in
    ap (size section) cut

-- how many words a part gives
abbrev OfLength : ℕ → Result (List TextWord) FaultKind → Type 0
OfLength n (Ok words) = 4 * length words ≡ n
OfLength n (Err kind) = ⊤

label_length : (n : ℕ) (found : Option ℕ) (next : ℕ → Result (List TextWord) FaultKind) → ((target : ℕ) → OfLength n (next target)) → OfLength n (at_label next found)
label_length n (Some target) next sized = sized target
label_length n None next sized = tt

reached_length : (b : Bool) (word : TextWord) → OfLength 4 (if_reached b word)
reached_length true word = refl
reached_length false word = tt

code_words_length : (address : List ℕ → Option ℕ) (here : ℕ) (code : CodePart) → OfLength (code_length code) (code_words address here code)
unfolding code_words
code_words_length address here (Fixed insn) = refl
code_words_length address here (LoadAddress rd label) = label_length 8 (address label) (λ target. Ok (load_words rd target)) (λ target. refl)
code_words_length address here (Jump rd label) = label_length 4 (address label) (jump_words rd here) (λ target. reached_length (reaches 1048576 here target) (Instruction (Jal rd (pos target -ℤ pos here))))
code_words_length address here (Branch kind rs1 rs2 label) = label_length 4 (address label) (branch_words kind rs1 rs2 here) (λ target. reached_length (reaches 4096 here target) (Instruction (BranchInsn kind rs1 rs2 (pos target -ℤ pos here))))
code_words_length address here (Number number) = refl
code_words_length address here (Address label) = label_length 4 (address label) (λ target. Ok (Plain target ∷ [])) (λ target. refl)

-- how many bytes a part gives
abbrev OfBytes : ℕ → Result (List ℕ) FaultKind → Type 0
OfBytes n (Ok bytes) = length bytes ≡ n
OfBytes n (Err kind) = ⊤

datum_bytes_length : (address : List ℕ → Option ℕ) (datum : Datum) → OfBytes (datum_length datum) (datum_bytes address datum)
unfolding datum_bytes
datum_bytes_length address (Word number) = refl
datum_bytes_length address (Pointer label) = by_option (address label)
  where
    by_option : (found : Option ℕ) → OfBytes 4 (at_label (λ target. Ok (little_bytes 4 target)) found)
    by_option (Some target) = refl
    by_option None = tt
datum_bytes_length address (Half number) = refl
datum_bytes_length address (Byte number) = refl
datum_bytes_length address (Zeros count) = length-replicate count 0

-- how much an item adds to the text and to the data
abbrev Adds : Sections → Item → Result Sections FaultAt → Type 0
Adds sections item (Ok more) = (4 * length more.text ≡ 4 * length sections.text + item_length Text item) × (length more.bytes ≡ length sections.bytes + item_length Data item)
Adds sections item (Err fault) = ⊤

put_adds : (all : List Item) (sections : Sections) (item : Item) → Adds sections item (put all sections item)
unfolding put
put_adds all sections (Label section name) = (sym (add-zero (4 * length sections.text)), sym (add-zero (length sections.bytes)))
put_adds all sections (InText line code) = by_words (code_words (address_of all) (next_address sections) code) (code_words_length (address_of all) (next_address sections) code)
  where
    by_words : (r : Result (List TextWord) FaultKind) → OfLength (code_length code) r → Adds sections (InText line code) (on_line line (map_value (λ words. record sections { text = sections.text ++ words }) r))
    by_words (Ok words) sized = (omega (arith, length-append sections.text words), sym (add-zero (length sections.bytes)))
    by_words (Err kind) sized = tt
put_adds all sections (InData line datum) = by_bytes (datum_bytes (address_of all) datum) (datum_bytes_length (address_of all) datum)
  where
    by_bytes : (r : Result (List ℕ) FaultKind) → OfBytes (datum_length datum) r → Adds sections (InData line datum) (on_line line (map_value (λ bytes. record sections { bytes = sections.bytes ++ bytes }) r))
    by_bytes (Ok bytes) sized = (sym (add-zero (4 * length sections.text)), omega (arith, length-append sections.bytes bytes))
    by_bytes (Err kind) sized = tt

pub put_length : (all : List Item) (sections more : Sections) (item : Item) → put all sections item ≡ Ok more → (4 * length more.text ≡ 4 * length sections.text + item_length Text item) × (length more.bytes ≡ length sections.bytes + item_length Data item)
put_length all sections more item is = subst (Adds sections item) is (put_adds all sections item)

abbrev AddsAll : Sections → List Item → Result Sections FaultAt → Type 0
AddsAll sections items (Ok more) = (4 * length more.text ≡ 4 * length sections.text + size Text items) × (length more.bytes ≡ length sections.bytes + size Data items)
AddsAll sections items (Err fault) = ⊤

put_all_adds : (all : List Item) (sections : Sections) (items : List Item) → AddsAll sections items (put_all all sections items)
unfolding put_all size
put_all_adds all sections [] = (sym (add-zero (4 * length sections.text)), sym (add-zero (length sections.bytes)))
put_all_adds all sections (item ∷ items) = by_first (put all sections item) (put_adds all sections item) (λ more. put_all_adds all more items)
  where
    by_rest : (more : Sections) (r : Result Sections FaultAt) → (4 * length more.text ≡ 4 * length sections.text + item_length Text item) × (length more.bytes ≡ length sections.bytes + item_length Data item) → AddsAll more items r → AddsAll sections (item ∷ items) r
    by_rest more (Ok last) first rest = let t = first.0 in let d = first.1 in let u = rest.0 in let v = rest.1 in (omega arith, omega arith)
    by_rest more (Err fault) first rest = tt

    by_first : (r : Result Sections FaultAt) → Adds sections item r → ((more : Sections) → AddsAll more items (put_all all more items)) → AddsAll sections (item ∷ items) (chained (λ more. put_all all more items) r)
    by_first (Ok more) first rest = by_rest more (put_all all more items) first (rest more)
    by_first (Err fault) first rest = tt

-- the sections of a program are as long as its items say
pub pass_length : (items : List Item) (sections : Sections) → second_pass items ≡ Ok sections → (4 * length sections.text ≡ size Text items) × (length sections.bytes ≡ size Data items)
unfolding second_pass
pass_length items sections is =
    let adds : AddsAll no_sections items (Ok sections) = subst (AddsAll no_sections items) is (put_all_adds items no_sections items) in
    (adds.0 ∙ zero-add (size Text items), adds.1 ∙ zero-add (size Data items))
