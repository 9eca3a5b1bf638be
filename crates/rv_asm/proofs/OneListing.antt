-- A source has one listing: the relation leaves nothing open.
use Rattle.std.proofs.Common.{◌≡◌, ℕ, ◌+◌, ◌*◌, ◌<◌, ◌^◌, List, [], ◌∷◌, ◌++◌, map, length, arith, refl, sym, ap, ◌∙◌, subst, append_assoc, append-nil, length-append}
use Rattle.std.specs.Prelude.{ℤ, pos, ◌-ℤ◌}
use Rattle.std.specs.List.{AllByRecursion}
use Rattle.std.proofs.lemmas.Int.{ints}
use Rattle.std.proofs.lemmas.List.{length-replicate, nil_from_length}
use Rattle.rv_asm.proofs.ListLemmas.{equal_fronts}
use Rattle.byteorder.specs.Endian.{little_bytes}
use Rattle.rv_isa.proofs.FormatLaws.{agrees_once}
use Rattle.rv_isa.specs.declared.instruction.Insn.TheVariants.{Lui, OpImmediate, Jal, Branch as BranchInsn}
use Rattle.rv_isa.specs.declared.kinds.ImmediateKind.TheVariants.{Addi}
use Rattle.asm_statements.specs.declared.section.Section.TheVariants.{Text, Data}
use Rattle.asm_statements.specs.declared.part.CodePart.{CodePart}
use Rattle.asm_statements.specs.declared.part.CodePart.TheVariants.{Fixed, LoadAddress, Jump, Branch, Number, Address}
use Rattle.asm_values.specs.declared.datum.Datum.{Datum}
use Rattle.asm_values.specs.declared.datum.Datum.TheVariants.{Word, Pointer, Half, Byte, Zeros}
use Rattle.rv_asm.specs.declared.item.Item.{Item}
use Rattle.rv_asm.specs.declared.item.Item.TheVariants.{Label, InText, InData}
use Rattle.rv_asm.specs.declared.word.TextWord.{TextWord}
use Rattle.rv_asm.specs.declared.word.TextWord.TheVariants.{Instruction, Plain}
use Rattle.text_lines.specs.Text.{lines_of}
use Rattle.rv_asm.specs.Words.{Spell, instruction_of}
use Rattle.rv_asm.specs.Program.{size}
use Rattle.asm_statements.specs.Parts.{code_length}
use Rattle.asm_values.specs.Lengths.{datum_length}
use Rattle.rv_asm.specs.Listing.{ListingContent, image_of}
use Rattle.rv_asm.specs.Assembly.{DistinctLabels, IsSplit, PutsWords, PutsBytes, TextAt, DataAt, HoldsParts, Assembles}
use Rattle.rv_asm.proofs.Places.{size_push}
use Rattle.rv_asm.proofs.OneFault.{one_address, one_program}

-- ---- what one part puts

one_split : (address high other : ℕ) (low another : ℤ) → IsSplit address high low → IsSplit address other another → (high ≡ other) × (low ≡ another)
one_split address high other low another a b =
    let whole = a.whole in
    let again = b.whole in
    let least = a.signed.low in
    let most = a.signed.high in
    let low_least = b.signed.low in
    let low_most = b.signed.high in
    (omega (arith, ints), omega (arith, ints))

one_putting : (items : List Item) (here : ℕ) (code : CodePart) (one other : List TextWord) → DistinctLabels items → PutsWords items here code one → PutsWords items here code other → one ≡ other
unfolding PutsWords
one_putting items here (Fixed insn) one other d a b = a ∙ sym b
one_putting items here (LoadAddress rd label) one other d a b =
    let address = one_address items label a.0 b.0 d a.1.1.1.0 b.1.1.1.0 in
    let parts = one_split b.0 a.1.0 b.1.0 a.1.1.0 b.1.1.0 (subst (λ n. IsSplit n a.1.0 a.1.1.0) address a.1.1.1.1) b.1.1.1.1 in
    a.1.1.1.2 ∙ (λ i. Instruction (Lui rd (parts.0 i)) ∷ Instruction (OpImmediate Addi rd rd (parts.1 i)) ∷ []) ∙ sym b.1.1.1.2
one_putting items here (Jump rd label) one other d a b =
    let address = one_address items label a.0 b.0 d a.1.0 b.1.0 in
    a.1.2 ∙ (λ i. Instruction (Jal rd (pos (address i) -ℤ pos here)) ∷ []) ∙ sym b.1.2
one_putting items here (Branch kind rs1 rs2 label) one other d a b =
    let address = one_address items label a.0 b.0 d a.1.0 b.1.0 in
    a.1.2 ∙ (λ i. Instruction (BranchInsn kind rs1 rs2 (pos (address i) -ℤ pos here)) ∷ []) ∙ sym b.1.2
one_putting items here (Number number) one other d a b = a ∙ sym b
one_putting items here (Address label) one other d a b =
    let address = one_address items label a.0 b.0 d a.1.0 b.1.0 in
    a.1.1 ∙ (λ i. Plain (address i) ∷ []) ∙ sym b.1.1

putting_length : (items : List Item) (here : ℕ) (code : CodePart) (words : List TextWord) → PutsWords items here code words → 4 * length words ≡ code_length code
unfolding PutsWords
putting_length items here (Fixed insn) words a = ap (λ (l : List TextWord). 4 * length l) a
putting_length items here (LoadAddress rd label) words a = ap (λ (l : List TextWord). 4 * length l) a.1.1.1.2
putting_length items here (Jump rd label) words a = ap (λ (l : List TextWord). 4 * length l) a.1.2
putting_length items here (Branch kind rs1 rs2 label) words a = ap (λ (l : List TextWord). 4 * length l) a.1.2
putting_length items here (Number number) words a = ap (λ (l : List TextWord). 4 * length l) a
putting_length items here (Address label) words a = ap (λ (l : List TextWord). 4 * length l) a.1.1

one_datum : (items : List Item) (datum : Datum) (one other : List ℕ) → DistinctLabels items → PutsBytes items datum one → PutsBytes items datum other → one ≡ other
unfolding PutsBytes
one_datum items (Word number) one other d a b = a ∙ sym b
one_datum items (Pointer label) one other d a b =
    let address = one_address items label a.0 b.0 d a.1.0 b.1.0 in
    a.1.1 ∙ ap (little_bytes 4) address ∙ sym b.1.1
one_datum items (Half number) one other d a b = a ∙ sym b
one_datum items (Byte number) one other d a b = a ∙ sym b
one_datum items (Zeros count) one other d a b = a ∙ sym b

putting_bytes : (items : List Item) (datum : Datum) (bytes : List ℕ) → PutsBytes items datum bytes → length bytes ≡ datum_length datum
unfolding PutsBytes
putting_bytes items (Word number) bytes a = ap (λ (l : List ℕ). length l) a
putting_bytes items (Pointer label) bytes a = ap (λ (l : List ℕ). length l) a.1.1
putting_bytes items (Half number) bytes a = ap (λ (l : List ℕ). length l) a
putting_bytes items (Byte number) bytes a = ap (λ (l : List ℕ). length l) a
putting_bytes items (Zeros count) bytes a = ap (λ (l : List ℕ). length l) a ∙ length-replicate count 0

-- ---- sections

-- two texts of one program that are the same up to an item are the same
one_text : (items front back : List Item) (text other before rest more : List TextWord) → DistinctLabels items → items ≡ front ++ back
    → ((f b : List Item) (line : ℕ) (code : CodePart) → items ≡ f ++ InText line code ∷ b → TextAt items f code text)
    → ((f b : List Item) (line : ℕ) (code : CodePart) → items ≡ f ++ InText line code ∷ b → TextAt items f code other)
    → 4 * length text ≡ size Text items → 4 * length other ≡ size Text items
    → text ≡ before ++ rest → other ≡ before ++ more → 4 * length before ≡ size Text front → text ≡ other
unfolding size
one_text items front [] text other before rest more d cut parts others long longer is same here =
    let whole : size Text items ≡ size Text front = ap (size Text) (cut ∙ append-nil front) in
    let text_long = ap (λ (l : List TextWord). length l) is ∙ length-append before rest in
    let other_long = ap (λ (l : List TextWord). length l) same ∙ length-append before more in
    is ∙ ap (λ l. before ++ l) (nil_from_length rest (omega arith) ∙ sym (nil_from_length more (omega arith))) ∙ sym same
one_text items front (Label section name ∷ back) text other before rest more d cut parts others long longer is same here =
    one_text items (front ++ Label section name ∷ []) back text other before rest more d (cut ∙ sym (append_assoc front (Label section name ∷ []) back)) parts others long longer is same
    (omega (arith, size_push Text front (Label section name)))
one_text items front (InData line datum ∷ back) text other before rest more d cut parts others long longer is same here =
    one_text items (front ++ InData line datum ∷ []) back text other before rest more d (cut ∙ sym (append_assoc front (InData line datum ∷ []) back)) parts others long longer is same
    (omega (arith, size_push Text front (InData line datum)))
one_text items front (InText line code ∷ back) text other before rest more d cut parts others long longer is same here =
    let at = parts front back line code cut in
    let stands = others front back line code cut in
    let place = at.place in
    let place_too = stands.place in
    let here_text = equal_fronts before at.before rest (at.words ++ at.after) (sym is ∙ at.stand) (omega arith) in
    let here_other = equal_fronts before stands.before more (stands.words ++ stands.after) (sym same ∙ stands.stand) (omega arith) in
    let words : at.words ≡ stands.words = one_putting items (0x10000 + size Text front) code at.words stands.words d at.put stands.put in
    let long_words = putting_length items (0x10000 + size Text front) code at.words at.put in
    one_text items (front ++ InText line code ∷ []) back text other (before ++ at.words) at.after stands.after d (cut ∙ sym (append_assoc front (InText line code ∷ []) back)) parts others long longer
    (is ∙ ap (λ l. before ++ l) here_text.1 ∙ sym (append_assoc before at.words at.after))
    (same ∙ ap (λ l. before ++ l) here_other.1 ∙ (λ i. before ++ (sym words i ++ stands.after)) ∙ sym (append_assoc before at.words stands.after))
    (omega (arith, length-append before at.words, size_push Text front (InText line code)))

one_data : (items front back : List Item) (bytes other before rest more : List ℕ) → DistinctLabels items → items ≡ front ++ back
    → ((f b : List Item) (line : ℕ) (datum : Datum) → items ≡ f ++ InData line datum ∷ b → DataAt items f datum bytes)
    → ((f b : List Item) (line : ℕ) (datum : Datum) → items ≡ f ++ InData line datum ∷ b → DataAt items f datum other)
    → length bytes ≡ size Data items → length other ≡ size Data items
    → bytes ≡ before ++ rest → other ≡ before ++ more → length before ≡ size Data front → bytes ≡ other
unfolding size
one_data items front [] bytes other before rest more d cut parts others long longer is same here =
    let whole : size Data items ≡ size Data front = ap (size Data) (cut ∙ append-nil front) in
    let bytes_long = ap (λ (l : List ℕ). length l) is ∙ length-append before rest in
    let other_long = ap (λ (l : List ℕ). length l) same ∙ length-append before more in
    is ∙ ap (λ l. before ++ l) (nil_from_length rest (omega arith) ∙ sym (nil_from_length more (omega arith))) ∙ sym same
one_data items front (Label section name ∷ back) bytes other before rest more d cut parts others long longer is same here =
    one_data items (front ++ Label section name ∷ []) back bytes other before rest more d (cut ∙ sym (append_assoc front (Label section name ∷ []) back)) parts others long longer is same
    (omega (arith, size_push Data front (Label section name)))
one_data items front (InText line code ∷ back) bytes other before rest more d cut parts others long longer is same here =
    one_data items (front ++ InText line code ∷ []) back bytes other before rest more d (cut ∙ sym (append_assoc front (InText line code ∷ []) back)) parts others long longer is same
    (omega (arith, size_push Data front (InText line code)))
one_data items front (InData line datum ∷ back) bytes other before rest more d cut parts others long longer is same here =
    let at = parts front back line datum cut in
    let stands = others front back line datum cut in
    let place = at.place in
    let place_too = stands.place in
    let here_bytes = equal_fronts before at.before rest (at.bytes ++ at.after) (sym is ∙ at.stand) (omega arith) in
    let here_other = equal_fronts before stands.before more (stands.bytes ++ stands.after) (sym same ∙ stands.stand) (omega arith) in
    let same_bytes : at.bytes ≡ stands.bytes = one_datum items datum at.bytes stands.bytes d at.put stands.put in
    let long_bytes = putting_bytes items datum at.bytes at.put in
    one_data items (front ++ InData line datum ∷ []) back bytes other (before ++ at.bytes) at.after stands.after d (cut ∙ sym (append_assoc front (InData line datum ∷ []) back)) parts others long longer
    (is ∙ ap (λ l. before ++ l) here_bytes.1 ∙ sym (append_assoc before at.bytes at.after))
    (same ∙ ap (λ l. before ++ l) here_other.1 ∙ (λ i. before ++ (sym same_bytes i ++ stands.after)) ∙ sym (append_assoc before at.bytes stands.after))
    (omega (arith, length-append before at.bytes, size_push Data front (InData line datum)))

-- ---- words

one_spelling : (one other : List ℕ) (text : List TextWord) → AllByRecursion (λ word. word < 2 ^ 32) one → AllByRecursion (λ word. word < 2 ^ 32) other → Spell one text → Spell other text → one ≡ other
unfolding Spell
one_spelling [] [] [] small low a b = refl
one_spelling [] (n ∷ other) [] small low a b = absurd b
one_spelling (n ∷ one) other [] small low a b = absurd a
one_spelling [] other (word ∷ text) small low a b = absurd a
one_spelling (n ∷ one) [] (word ∷ text) small low a b = absurd b
one_spelling (n ∷ one) (m ∷ other) (Instruction insn ∷ text) small low a b = λ i. agrees_once n m insn small.0 low.0 a.0 b.0 i ∷ one_spelling one other text small.1 low.1 a.1 b.1 i
one_spelling (n ∷ one) (m ∷ other) (Plain number ∷ text) small low a b = λ i. (a.0 ∙ sym b.0) i ∷ one_spelling one other text small.1 low.1 a.1 b.1 i

-- ---- listings

pub one_listing : (source : List ℕ) (one other : ListingContent) → AllByRecursion (λ word. word < 2 ^ 32) one.words → AllByRecursion (λ word. word < 2 ^ 32) other.words → Assembles source one → Assembles source other → one ≡ other
unfolding size
one_listing source one other small low a b =
    let items = (one_program 0 Text (lines_of source) a.items b.items a.section b.section a.program.told b.program.told).0 in
    let holds : HoldsParts a.items b.text b.bytes = subst (λ l. HoldsParts l b.text b.bytes) (sym items) b.holds in
    let text : a.text ≡ b.text = one_text a.items [] a.items a.text b.text [] a.text b.text a.program.distinct refl a.holds.text_parts holds.text_parts a.holds.text_size holds.text_size refl refl refl in
    let bytes : a.bytes ≡ b.bytes = one_data a.items [] a.items a.bytes b.bytes [] a.bytes b.bytes a.program.distinct refl a.holds.data_parts holds.data_parts a.holds.data_size holds.data_size refl refl refl in
    let words : one.words ≡ other.words = one_spelling one.words other.words a.text small low a.lists.words (subst (Spell other.words) (sym text) b.lists.words) in
    let instructions : one.instructions ≡ other.instructions = a.lists.instructions ∙ ap (map instruction_of) text ∙ sym b.lists.instructions in
    let image : one.image ≡ other.image = a.lists.image ∙ (λ i. image_of (items i) (words i) (bytes i)) ∙ sym b.lists.image in
    let data_bytes : one.data_bytes ≡ other.data_bytes = a.lists.data_bytes ∙ ap (λ (l : List ℕ). length l) bytes ∙ sym b.lists.data_bytes in
    λ i. record { image = image i; words = words i; instructions = instructions i; data_bytes = data_bytes i }
