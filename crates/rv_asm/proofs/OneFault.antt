-- A source has one first fault, and the two passes tell it.
use Rattle.std.proofs.Common.{◌≡◌, ℕ, ◌+◌, List, [], ◌∷◌, ◌++◌, map, length, Bool, true, false, ◌==◌, Some, None, Result, Ok, Err, arith, refl, sym, ap, ◌∙◌, subst, append_assoc, zero-add, inl, inr, ◌⊎◌, pos}
use Rattle.std.specs.Prelude.{option_map, ◌-ℤ◌, if◌then◌else◌}
use Rattle.std.specs.Str.{bytes_eq}
use Rattle.std.proofs.lemmas.Slice.Eq.{bytes_eq-Decides}
use Rattle.std.proofs.lemmas.Bool.Decides.{nat_tests}
use Rattle.rv_isa.specs.Operands.{IsBranchOffset, IsJumpOffset}
use Rattle.asm_lines.specs.declared.fault.FaultKind.{FaultKind}
use Rattle.asm_lines.specs.declared.fault.FaultKind.TheVariants.{Empty}
use Rattle.std.specs.Result.{IfOk, IfErr}
use Rattle.rv_asm.proofs.ListLemmas.{Apart, one_place, first_above, second_above, two_cuts}
use Rattle.rv_asm.specs.declared.fault.AsmError.{AsmError}
use Rattle.rv_asm.specs.declared.fault.AsmError.TheVariants.{Fault, NoMemory}
use Rattle.asm_statements.specs.declared.section.Section.{Section}
use Rattle.asm_statements.specs.declared.section.Section.TheVariants.{Text}
use Rattle.asm_statements.specs.declared.part.CodePart.{CodePart}
use Rattle.asm_statements.specs.declared.part.CodePart.TheVariants.{Fixed, LoadAddress, Jump, Branch, Number, Address}
use Rattle.asm_values.specs.declared.datum.Datum.{Datum}
use Rattle.asm_values.specs.declared.datum.Datum.TheVariants.{Word, Pointer, Half, Byte, Zeros}
use Rattle.rv_asm.specs.declared.item.Item.{Item}
use Rattle.rv_asm.specs.declared.item.Item.TheVariants.{Label, InText, InData}
use Rattle.rv_asm.specs.declared.word.TextWord.{TextWord}
use Rattle.asm_lines.specs.Forms.{SourceLine}
use Rattle.asm_statements.specs.Effects.{StatementEffect}
use Rattle.text_lines.specs.Text.{lines_of}
use Rattle.rv_asm.specs.Steps.{FaultAt, Fails, chained, map_value}
use Rattle.rv_asm.specs.Program.{size, place_from, label_place, section_start, address_of}
use Rattle.rv_asm.specs.FirstPass.{Progress, no_lines, with_lines, first_pass}
use Rattle.rv_asm.specs.LineEffects.{line_effect}
use Rattle.rv_asm.specs.SecondPass.{Sections, second_pass}
use Rattle.rv_asm.specs.Listing.{Assembly, ListingContent, ListsTold, unless_empty, laid_out, assembled}
use Rattle.rv_asm.specs.Assembly.{Says, section_after, parts_of, items_of, Tells, Lacks, DistinctLabels, HasAddress, Fits, HasProgram, PutsWords, PutsBytes, HasPut, code_label, datum_label, TooFar, PartFault, no_label, no_datum_label, too_far, LineFault, form, statement, twice, long, FirstFault, in_line, no_text, in_part}
use Rattle.rv_asm.proofs.LineLaws.{LinesSaid, LinesStop, lines_said, program_read, lacks_label, fits_front}
use Rattle.rv_asm.proofs.PartLaws.{pass_holds, PassStops, pass_stops}

-- ---- labels

pub place_label : (front back : List Item) (section : Section) (name : List ℕ) → DistinctLabels (front ++ Label section name ∷ back) → label_place (front ++ Label section name ∷ back) name ≡ Some (record { section = section; offset = size section front })
unfolding label_place size DistinctLabels
place_label [] back section name d = rw ((bytes_eq-Decides name name).1 refl) refl
place_label (Label s other ∷ front) back section name d = by_test (bytes_eq other name) refl (place_label front back section name d.1)
  where
    by_test : (b : Bool) → bytes_eq other name ≡ b → label_place (front ++ Label section name ∷ back) name ≡ Some (record { section = section; offset = size section front }) → place_from (Label s other) (if b then Some s else None) (label_place (front ++ Label section name ∷ back) name) ≡ Some (record { section = section; offset = 0 + size section front })
    by_test true same rest = absurd (lacks_label front back section name (subst (λ n. Lacks (front ++ Label section name ∷ back) n) ((bytes_eq-Decides other name).0 same) d.0))
    by_test false differs rest = ap (place_from (Label s other) None) rest
place_label (InText line code ∷ front) back section name d = ap (place_from (InText line code) None) (place_label front back section name d)
place_label (InData line datum ∷ front) back section name d = ap (place_from (InData line datum) None) (place_label front back section name d)

address_is : (items : List Item) (name : List ℕ) (address : ℕ) → DistinctLabels items → HasAddress items name address → address_of items name ≡ Some address
unfolding address_of
address_is items name address d has =
    let place : label_place items name ≡ Some (record { section = has.section; offset = size has.section has.front }) = ap (λ l. label_place l name) has.stands ∙ place_label has.front has.back has.section name (subst DistinctLabels has.stands d) in
    ap (option_map (λ place. section_start items place.section + place.offset)) place ∙ ap Some (sym has.is)

pub one_address : (items : List Item) (name : List ℕ) (one other : ℕ) → DistinctLabels items → HasAddress items name one → HasAddress items name other → one ≡ other
one_address items name one other d a b = some_same (sym (address_is items name one d a) ∙ address_is items name other d b)
  where
    some_same : {x y : ℕ} → Some x ≡ Some y → x ≡ y
    some_same e = cc

no_address_of_lacking : (items : List Item) (name : List ℕ) (address : ℕ) → Lacks items name → HasAddress items name address → ⊥
no_address_of_lacking items name address lacks has = lacks_label has.front has.back has.section name (subst (λ l. Lacks l name) has.stands lacks)

-- ---- parts

code_address : (items : List Item) (here : ℕ) (code : CodePart) (words : List TextWord) (name : List ℕ) → PutsWords items here code words → code_label code ≡ Some name → (address : ℕ) × HasAddress items name address
unfolding PutsWords
code_address items here (Fixed insn) words name puts is = cc
code_address items here (LoadAddress rd label) words name puts is = let e : label ≡ name = cc in (puts.0, subst (λ n. HasAddress items n puts.0) e puts.1.1.1.0)
code_address items here (Jump rd label) words name puts is = let e : label ≡ name = cc in (puts.0, subst (λ n. HasAddress items n puts.0) e puts.1.0)
code_address items here (Branch kind rs1 rs2 label) words name puts is = let e : label ≡ name = cc in (puts.0, subst (λ n. HasAddress items n puts.0) e puts.1.0)
code_address items here (Number number) words name puts is = cc
code_address items here (Address label) words name puts is = let e : label ≡ name = cc in (puts.0, subst (λ n. HasAddress items n puts.0) e puts.1.0)

far_address : (items : List Item) (here : ℕ) (code : CodePart) (name : List ℕ) → TooFar items here code → code_label code ≡ Some name → (address : ℕ) × HasAddress items name address
unfolding TooFar
far_address items here (Fixed insn) name beyond is = absurd beyond
far_address items here (LoadAddress rd label) name beyond is = absurd beyond
far_address items here (Jump rd label) name beyond is = let e : label ≡ name = cc in (beyond.0, subst (λ n. HasAddress items n beyond.0) e beyond.1.0)
far_address items here (Branch kind rs1 rs2 label) name beyond is = let e : label ≡ name = cc in (beyond.0, subst (λ n. HasAddress items n beyond.0) e beyond.1.0)
far_address items here (Number number) name beyond is = absurd beyond
far_address items here (Address label) name beyond is = absurd beyond

far_or_put : (items : List Item) (here : ℕ) (code : CodePart) (words : List TextWord) → DistinctLabels items → PutsWords items here code words → TooFar items here code → ⊥
unfolding PutsWords TooFar
far_or_put items here (Fixed insn) words d puts beyond = beyond
far_or_put items here (LoadAddress rd label) words d puts beyond = beyond
far_or_put items here (Jump rd label) words d puts beyond = beyond.1.1 (subst (λ a. IsJumpOffset (pos a -ℤ pos here)) (one_address items label puts.0 beyond.0 d puts.1.0 beyond.1.0) puts.1.1)
far_or_put items here (Branch kind rs1 rs2 label) words d puts beyond = beyond.1.1 (subst (λ a. IsBranchOffset (pos a -ℤ pos here)) (one_address items label puts.0 beyond.0 d puts.1.0 beyond.1.0) puts.1.1)
far_or_put items here (Number number) words d puts beyond = beyond
far_or_put items here (Address label) words d puts beyond = beyond

datum_address : (items : List Item) (datum : Datum) (bytes name : List ℕ) → PutsBytes items datum bytes → datum_label datum ≡ Some name → (address : ℕ) × HasAddress items name address
unfolding PutsBytes
datum_address items (Word number) bytes name puts is = cc
datum_address items (Pointer label) bytes name puts is = let e : label ≡ name = cc in (puts.0, subst (λ n. HasAddress items n puts.0) e puts.1.0)
datum_address items (Half number) bytes name puts is = cc
datum_address items (Byte number) bytes name puts is = cc
datum_address items (Zeros count) bytes name puts is = cc

-- a part that has what it puts has no fault
no_part_fault : (items front : List Item) (item : Item) (line : ℕ) (kind : FaultKind) → DistinctLabels items → HasPut items front item → PartFault items (0x10000 + size Text front) item line kind → ⊥
unfolding HasPut
no_part_fault items front item line kind d has (no_label code name is names lacks k) =
    let p : (words : List TextWord) × PutsWords items (0x10000 + size Text front) code words = subst (HasPut items front) is has in
    let a = code_address items (0x10000 + size Text front) code p.0 name p.1 names in
    no_address_of_lacking items name a.0 lacks a.1
no_part_fault items front item line kind d has (no_datum_label datum name is names lacks k) =
    let p : (bytes : List ℕ) × PutsBytes items datum bytes = subst (HasPut items front) is has in
    let a = datum_address items datum p.0 name p.1 names in
    no_address_of_lacking items name a.0 lacks a.1
no_part_fault items front item line kind d has (too_far code is beyond k) =
    let p : (words : List TextWord) × PutsWords items (0x10000 + size Text front) code words = subst (HasPut items front) is has in
    far_or_put items (0x10000 + size Text front) code p.0 d p.1 beyond

one_part_fault : (items : List Item) (here : ℕ) (item : Item) (line other : ℕ) (kind another : FaultKind) → PartFault items here item line kind → PartFault items here item other another → (line ≡ other) × (kind ≡ another)
one_part_fault items here item line other kind another (no_label code name is names lacks k) (no_label code2 name2 is2 names2 lacks2 k2) = let e : InText line code ≡ InText other code2 = sym is ∙ is2 in (cc, k ∙ sym k2)
one_part_fault items here item line other kind another (no_label code name is names lacks k) (no_datum_label datum name2 is2 names2 lacks2 k2) = let e : InText line code ≡ InData other datum = sym is ∙ is2 in cc
one_part_fault items here item line other kind another (no_label code name is names lacks k) (too_far code2 is2 beyond k2) =
    let e : InText line code ≡ InText other code2 = sym is ∙ is2 in
    let same : code ≡ code2 = cc in
    let a = far_address items here code2 name beyond (ap code_label (sym same) ∙ names) in
    absurd (no_address_of_lacking items name a.0 lacks a.1)
one_part_fault items here item line other kind another (no_datum_label datum name is names lacks k) (no_label code name2 is2 names2 lacks2 k2) = let e : InData line datum ≡ InText other code = sym is ∙ is2 in cc
one_part_fault items here item line other kind another (no_datum_label datum name is names lacks k) (no_datum_label datum2 name2 is2 names2 lacks2 k2) = let e : InData line datum ≡ InData other datum2 = sym is ∙ is2 in (cc, k ∙ sym k2)
one_part_fault items here item line other kind another (no_datum_label datum name is names lacks k) (too_far code2 is2 beyond k2) = let e : InData line datum ≡ InText other code2 = sym is ∙ is2 in cc
one_part_fault items here item line other kind another (too_far code is beyond k) (no_label code2 name2 is2 names2 lacks2 k2) =
    let e : InText line code ≡ InText other code2 = sym is ∙ is2 in
    let same : code ≡ code2 = cc in
    let a = far_address items here code name2 beyond (ap code_label same ∙ names2) in
    absurd (no_address_of_lacking items name2 a.0 lacks2 a.1)
one_part_fault items here item line other kind another (too_far code is beyond k) (no_datum_label datum name2 is2 names2 lacks2 k2) = let e : InText line code ≡ InData other datum = sym is ∙ is2 in cc
one_part_fault items here item line other kind another (too_far code is beyond k) (too_far code2 is2 beyond2 k2) = let e : InText line code ≡ InText other code2 = sym is ∙ is2 in (cc, k ∙ sym k2)

-- ---- lines

err_same : {A : Type 0} {x y : FaultKind} → ◌≡◌ {A = Result A FaultKind} (Err x) (Err y) → x ≡ y
err_same e = cc

ok_not_err : {A : Type 0} {x : A} {k : FaultKind} → ◌≡◌ {A = Result A FaultKind} (Ok x) (Err k) → ⊥
ok_not_err e = cc

ok_value : {A : Type 0} {x y : A} → ◌≡◌ {A = Result A FaultKind} (Ok x) (Ok y) → x ≡ y
ok_value e = cc

one_reading : (section : Section) (text : List ℕ) (labels others : List (List ℕ)) (effect another : StatementEffect) → Says section text labels effect → Says section text others another → (labels ≡ others) × (effect ≡ another)
one_reading section text labels others effect another a b =
    let lines : a.line ≡ b.line = ok_value (sym a.form ∙ b.form) in
    (a.named ∙ ap (λ (l : SourceLine). l.labels) lines ∙ sym b.named, ok_value (sym a.does ∙ ap (line_effect section) lines ∙ b.does))

pub one_program : (before : ℕ) (section : Section) (lines : List (List ℕ)) (items others : List Item) (last another : Section) → Tells before section lines items last → Tells before section lines others another → (items ≡ others) × (last ≡ another)
unfolding Tells
one_program before section [] items others last another a b = (a.0 ∙ sym b.0, a.1 ∙ sym b.1)
one_program before section (text ∷ below) items others last another a b =
    let r = one_reading section text a.0 b.0 a.1.0 b.1.0 a.1.1.1.0 b.1.1.1.0 in
    let told : Tells (before + 1) (section_after section a.1.0) below b.1.1.0 another = subst (λ e. Tells (before + 1) (section_after section e) below b.1.1.0 another) (sym r.1) b.1.1.1.2 in
    let rest = one_program (before + 1) (section_after section a.1.0) below a.1.1.0 b.1.1.0 last another a.1.1.1.2 told in
    (a.1.1.1.1 ∙ (λ i. items_of (before + 1) section (r.0 i) (r.1 i) ++ rest.0 i) ∙ sym b.1.1.1.1, rest.1)

-- the lines in front of a line, and what that line says
record Cut (before : ℕ) (section : Section) (good : List (List ℕ)) (bad : List ℕ) (items : List Item) : Type 0 where
  front : List Item
  last : Section
  told : Tells before section good front last
  labels : List (List ℕ)
  effect : StatementEffect
  says : Says last bad labels effect
  rest : List Item
  whole : items ≡ front ++ (items_of (before + (length good + 1)) last labels effect ++ rest)

cut_told : (before : ℕ) (section : Section) (good : List (List ℕ)) (bad : List ℕ) (below : List (List ℕ)) (items : List Item) (last : Section) → Tells before section (good ++ bad ∷ below) items last → Cut before section good bad items
unfolding Tells
cut_told before section [] bad below items last t = record {
  front = [];
  last = section;
  told = (refl, refl);
  labels = t.0;
  effect = t.1.0;
  says = t.1.1.1.0;
  rest = t.1.1.0;
  whole = t.1.1.1.1 ∙ ap (λ n. items_of (before + n) section t.0 t.1.0 ++ t.1.1.0) (sym (zero-add 1));
}
cut_told before section (text ∷ good) bad below items last t =
    let c = cut_told (before + 1) (section_after section t.1.0) good bad below t.1.1.0 last t.1.1.1.2 in
    let number : (before + 1) + (length good + 1) ≡ before + (length (text ∷ good) + 1) = omega arith in
    let new : List Item = items_of (before + 1) section t.0 t.1.0 in
    record {
      front = new ++ c.front;
      last = c.last;
      told = (t.0, (t.1.0, (c.front, (t.1.1.1.0, refl, c.told))));
      labels = c.labels;
      effect = c.effect;
      says = c.says;
      rest = c.rest;
      whole = t.1.1.1.1 ∙ ap (λ l. new ++ l) c.whole ∙ sym (append_assoc new c.front (items_of ((before + 1) + (length good + 1)) c.last c.labels c.effect ++ c.rest)) ∙ ap (λ n. (new ++ c.front) ++ (items_of n c.last c.labels c.effect ++ c.rest)) number;
    }

lacks_front : (front back : List Item) (name : List ℕ) → Lacks (front ++ back) name → Lacks front name
unfolding Lacks
lacks_front [] back name lacks = tt
lacks_front (Label section other ∷ front) back name lacks = (lacks.0, lacks_front front back name lacks.1)
lacks_front (InText line code ∷ front) back name lacks = lacks_front front back name lacks
lacks_front (InData line datum ∷ front) back name lacks = lacks_front front back name lacks

distinct_front : (front back : List Item) → DistinctLabels (front ++ back) → DistinctLabels front
unfolding DistinctLabels Lacks
distinct_front [] back d = tt
distinct_front (Label section name ∷ front) back d = (lacks_front front back name d.0, distinct_front front back d.1)
distinct_front (InText line code ∷ front) back d = distinct_front front back d
distinct_front (InData line datum ∷ front) back d = distinct_front front back d

-- a line that says something that fits has no fault
no_line_fault : (number : ℕ) (section : Section) (items : List Item) (text : List ℕ) (kind : FaultKind) (labels : List (List ℕ)) (effect : StatementEffect) (rest : List Item) → Says section text labels effect → DistinctLabels (items ++ (items_of number section labels effect ++ rest)) → Fits (items ++ (items_of number section labels effect ++ rest)) → LineFault number section items text kind → ⊥
no_line_fault number section items text kind labels effect rest says d f (form is) = ok_not_err (sym says.form ∙ is)
no_line_fault number section items text kind labels effect rest says d f (statement line is does) =
    let same : line ≡ says.line = ok_value (sym is ∙ says.form) in
    ok_not_err (sym says.does ∙ ap (line_effect section) (sym same) ∙ does)
no_line_fault number section items text kind labels effect rest says d f (twice others another says2 not k) =
    let r = one_reading section text others labels another effect says2 says in
    let names : List Item = map (Label section) labels in
    let parts : List Item = parts_of number effect in
    let all : items ++ ((names ++ parts) ++ rest) ≡ (items ++ names) ++ (parts ++ rest) = ap (λ l. items ++ l) (append_assoc names parts rest) ∙ sym (append_assoc items names (parts ++ rest)) in
    not (subst (λ l. DistinctLabels (items ++ map (Label section) l)) (sym r.0) (distinct_front (items ++ names) (parts ++ rest) (subst DistinctLabels all d)))
no_line_fault number section items text kind labels effect rest says d f (long others another says2 distinct not k) =
    let r = one_reading section text others labels another effect says2 says in
    let new : List Item = items_of number section labels effect in
    not (subst Fits (λ i. items ++ items_of number section (sym r.0 i) (sym r.1 i)) (fits_front (items ++ new) rest (subst Fits (sym (append_assoc items new rest)) f)))

one_line_fault : (number : ℕ) (section : Section) (items : List Item) (text : List ℕ) (kind another : FaultKind) → LineFault number section items text kind → LineFault number section items text another → kind ≡ another
one_line_fault number section items text kind another (form a) (form b) = err_same (sym a ∙ b)
one_line_fault number section items text kind another (form a) (statement line b does) = absurd (ok_not_err (sym b ∙ a))
one_line_fault number section items text kind another (form a) (twice labels effect says not k) = absurd (ok_not_err (sym says.form ∙ a))
one_line_fault number section items text kind another (form a) (long labels effect says distinct not k) = absurd (ok_not_err (sym says.form ∙ a))
one_line_fault number section items text kind another (statement line a does) (form b) = absurd (ok_not_err (sym a ∙ b))
one_line_fault number section items text kind another (statement line a does) (statement line2 b does2) = err_same (sym does ∙ ap (line_effect section) (ok_value (sym a ∙ b)) ∙ does2)
one_line_fault number section items text kind another (statement line a does) (twice labels effect says not k) = absurd (ok_not_err (sym says.does ∙ ap (line_effect section) (ok_value (sym says.form ∙ a)) ∙ does))
one_line_fault number section items text kind another (statement line a does) (long labels effect says distinct not k) = absurd (ok_not_err (sym says.does ∙ ap (line_effect section) (ok_value (sym says.form ∙ a)) ∙ does))
one_line_fault number section items text kind another (twice labels effect says not k) (form b) = absurd (ok_not_err (sym says.form ∙ b))
one_line_fault number section items text kind another (twice labels effect says not k) (statement line b does) = absurd (ok_not_err (sym says.does ∙ ap (line_effect section) (ok_value (sym says.form ∙ b)) ∙ does))
one_line_fault number section items text kind another (twice labels effect says not k) (twice labels2 effect2 says2 not2 k2) = k ∙ sym k2
one_line_fault number section items text kind another (twice labels effect says not k) (long labels2 effect2 says2 distinct not2 k2) = absurd (not (subst (λ l. DistinctLabels (items ++ map (Label section) l)) (one_reading section text labels2 labels effect2 effect says2 says).0 distinct))
one_line_fault number section items text kind another (long labels effect says distinct not k) (form b) = absurd (ok_not_err (sym says.form ∙ b))
one_line_fault number section items text kind another (long labels effect says distinct not k) (statement line b does) = absurd (ok_not_err (sym says.does ∙ ap (line_effect section) (ok_value (sym says.form ∙ b)) ∙ does))
one_line_fault number section items text kind another (long labels effect says distinct not k) (twice labels2 effect2 says2 not2 k2) = absurd (not2 (subst (λ l. DistinctLabels (items ++ map (Label section) l)) (one_reading section text labels labels2 effect effect2 says says2).0 distinct))
one_line_fault number section items text kind another (long labels effect says distinct not k) (long labels2 effect2 says2 distinct2 not2 k2) = k ∙ sym k2

-- lines that have a program have no line at fault
no_fault_among : (good : List (List ℕ)) (bad : List ℕ) (below : List (List ℕ)) (section last : Section) (items all : List Item) (number : ℕ) (kind : FaultKind) → HasProgram (good ++ bad ∷ below) last all → HasProgram good section items → number ≡ length good + 1 → LineFault number section items bad kind → ⊥
no_fault_among good bad below section last items all number kind whole program at fault =
    let c = cut_told 0 Text good bad below all last whole.told in
    let same = one_program 0 Text good c.front items c.last section c.told program.told in
    let line : 0 + (length good + 1) ≡ number = zero-add (length good + 1) ∙ sym at in
    let is : all ≡ items ++ (items_of number section c.labels c.effect ++ c.rest) = c.whole ∙ (λ i. same.0 i ++ (items_of (line i) (same.1 i) c.labels c.effect ++ c.rest)) in
    no_line_fault number section items bad kind c.labels c.effect c.rest (subst (λ s. Says s bad c.labels c.effect) same.1 c.says) (subst DistinctLabels is whole.distinct) (subst Fits is whole.fits) fault

-- ---- the two passes

first_is : (source : List ℕ) (section : Section) (items : List Item) → HasProgram (lines_of source) section items → (q : Progress) × (first_pass source ≡ Ok q) × (q.items ≡ items)
unfolding first_pass
first_is source section items program = by_lines (with_lines 0 no_lines (lines_of source)) refl (lines_said 0 no_lines (lines_of source))
  where
    by_lines : (r : Result Progress FaultAt) → with_lines 0 no_lines (lines_of source) ≡ r → LinesSaid 0 no_lines (lines_of source) r → (q : Progress) × (with_lines 0 no_lines (lines_of source) ≡ Ok q) × (q.items ≡ items)
    by_lines (Ok q) is read = (q, is, (one_program 0 Text (lines_of source) q.items items q.section section (program_read (lines_of source) q read).told program.told).0)
    by_lines (Err fault) is stop =
        let above = program_read stop.good stop.m stop.read in
        absurd (no_fault_among stop.good stop.bad stop.below stop.m.section section stop.m.items items fault.line fault.kind (subst (λ l. HasProgram l section items) stop.cut program) above (stop.number ∙ zero-add (length stop.good + 1)) (stop.wrong above.distinct))

first_stops : (source : List ℕ) (good : List (List ℕ)) (bad : List ℕ) (below : List (List ℕ)) (section : Section) (items : List Item) (line : ℕ) (kind : FaultKind) → lines_of source ≡ good ++ bad ∷ below → HasProgram good section items → line ≡ length good + 1 → LineFault line section items bad kind → first_pass source ≡ Err (record { line = line; kind = kind })
unfolding first_pass
first_stops source good bad below section items line kind cut program at wrong = by_lines (with_lines 0 no_lines (lines_of source)) refl (lines_said 0 no_lines (lines_of source))
  where
    by_place : (fault : FaultAt) (stop : LinesStop 0 no_lines (lines_of source) fault) → HasProgram stop.good stop.m.section stop.m.items → Apart good bad stop.good stop.bad → fault ≡ record { line = line; kind = kind }
    by_place fault stop above (one_place g b) =
        let number : fault.line ≡ line = stop.number ∙ zero-add (length stop.good + 1) ∙ ap (λ l. length l + 1) (sym g) ∙ sym at in
        let told = one_program 0 Text good stop.m.items items stop.m.section section (subst (λ l. Tells 0 Text l stop.m.items stop.m.section) (sym g) above.told) program.told in
        let here : LineFault line section items bad fault.kind = subst (λ n. LineFault n section items bad fault.kind) number (subst (λ t. LineFault fault.line section items t fault.kind) (sym b) (subst (λ i. LineFault fault.line section i stop.bad fault.kind) told.0 (subst (λ s. LineFault fault.line s stop.m.items stop.bad fault.kind) told.1 (stop.wrong above.distinct)))) in
        λ i. record { line = number i; kind = one_line_fault line section items bad fault.kind kind here wrong i }
    by_place fault stop above (first_above between is) = absurd (no_fault_among good bad between section stop.m.section items stop.m.items line kind (subst (λ l. HasProgram l stop.m.section stop.m.items) is above) program at wrong)
    by_place fault stop above (second_above between is) = absurd (no_fault_among stop.good stop.bad between stop.m.section section stop.m.items items fault.line fault.kind (subst (λ l. HasProgram l section items) is program) above (stop.number ∙ zero-add (length stop.good + 1)) (stop.wrong above.distinct))

    by_lines : (r : Result Progress FaultAt) → with_lines 0 no_lines (lines_of source) ≡ r → LinesSaid 0 no_lines (lines_of source) r → with_lines 0 no_lines (lines_of source) ≡ Err (record { line = line; kind = kind })
    by_lines (Ok q) is read = absurd (no_fault_among good bad below section q.section items q.items line kind (subst (λ l. HasProgram l q.section q.items) cut (program_read (lines_of source) q read)) program at wrong)
    by_lines (Err fault) is stop = is ∙ ap Err (by_place fault stop (program_read stop.good stop.m stop.read) (two_cuts good below stop.good stop.below bad stop.bad (sym cut ∙ stop.cut)))

second_stops : (items front back : List Item) (item : Item) (line : ℕ) (kind : FaultKind) → DistinctLabels items → items ≡ front ++ item ∷ back → ((above between : List Item) (one : Item) → front ≡ above ++ one ∷ between → HasPut items above one) → PartFault items (0x10000 + size Text front) item line kind → second_pass items ≡ Err (record { line = line; kind = kind })
unfolding HasPut
second_stops items front back item line kind d cut puts wrong = by_pass (second_pass items) refl
  where
    held : (sections : Sections) → second_pass items ≡ Ok sections → HasPut items front item
    held sections is = by_item item cut
      where
        by_item : (one : Item) → items ≡ front ++ one ∷ back → HasPut items front one
        by_item (Label section name) e = tt
        by_item (InText n code) e = let t = (pass_holds items sections is).text_parts front back n code e in (t.words, t.put)
        by_item (InData n datum) e = let t = (pass_holds items sections is).data_parts front back n datum e in (t.bytes, t.put)

    by_place : (fault : FaultAt) (stop : PassStops items fault) → Apart front item stop.above stop.item → fault ≡ record { line = line; kind = kind }
    by_place fault stop (one_place f i) =
        let here : PartFault items (0x10000 + size Text front) item fault.line fault.kind = subst (λ l. PartFault items (0x10000 + size Text l) item fault.line fault.kind) (sym f) (subst (λ x. PartFault items (0x10000 + size Text stop.above) x fault.line fault.kind) (sym i) stop.wrong) in
        let r = one_part_fault items (0x10000 + size Text front) item fault.line line fault.kind kind here wrong in
        λ j. record { line = r.0 j; kind = r.1 j }
    by_place fault stop (first_above between is) = absurd (no_part_fault items front item line kind d (stop.put_above front between item is) wrong)
    by_place fault stop (second_above between is) = absurd (no_part_fault items stop.above stop.item fault.line fault.kind d (puts stop.above between stop.item is) stop.wrong)

    by_pass : (r : Result Sections FaultAt) → second_pass items ≡ r → second_pass items ≡ Err (record { line = line; kind = kind })
    by_pass (Ok sections) is = absurd (no_part_fault items front item line kind d (held sections is) wrong)
    by_pass (Err fault) is = let stop = pass_stops items fault is in is ∙ ap Err (by_place fault stop (two_cuts front back stop.above stop.below item stop.item (sym cut ∙ stop.cut)))

pub fault_assembled : (source : List ℕ) (line : ℕ) (kind : FaultKind) → FirstFault source line kind → assembled source ≡ Err (record { line = line; kind = kind })
unfolding assembled laid_out
fault_assembled source line kind (in_line good bad below section items cut program at wrong) = ap (chained (λ progress. laid_out progress.items)) (first_stops source good bad below section items line kind cut program at wrong)
fault_assembled source line kind (no_text section items program none at is) =
    let f = first_is source section items program in
    let empty : (size Text f.0.items == 0) ≡ true = let n = ap (size Text) f.2 in grind (arith, nat_tests) in
    ap (chained (λ progress. laid_out progress.items)) f.1 ∙ ap (λ b. unless_empty b f.0.items) empty ∙ (λ i. Err (record { line = sym at i; kind = sym is i }))
fault_assembled source line kind (in_part section items front back item program some cut puts wrong) =
    let f = first_is source section items program in
    let full : (size Text f.0.items == 0) ≡ false = let n = ap (size Text) f.2 in grind (arith, nat_tests) in
    let pass : second_pass f.0.items ≡ Err (record { line = line; kind = kind }) = ap second_pass f.2 ∙ second_stops items front back item line kind program.distinct cut puts wrong in
    ap (chained (λ progress. laid_out progress.items)) f.1 ∙ ap (λ b. unless_empty b f.0.items) full ∙ ap (map_value (λ sections. record { items = f.0.items; sections = sections })) pass

-- ---- the answer

pub fault_answered : (source : List ℕ) (result : Result ListingContent AsmError) (line : ℕ) (kind : FaultKind) → IfOk result (ListsTold (assembled source)) → IfErr result (Fails (assembled source)) → FirstFault source line kind → (result ≡ Err (Fault line kind)) ⊎ (result ≡ Err NoMemory)
fault_answered source (Ok listing) line kind ok err fault = absurd (subst (λ r. ListsTold r listing) (fault_assembled source line kind fault) ok)
fault_answered source (Err NoMemory) line kind ok err fault = inr refl
fault_answered source (Err (Fault other another)) line kind ok err fault = inl (same_fault (sym err ∙ fault_assembled source line kind fault))
  where
    fault_line : Result Assembly FaultAt → ℕ
    fault_line (Ok assembly) = 0
    fault_line (Err fault) = fault.line

    fault_kind : Result Assembly FaultAt → FaultKind
    fault_kind (Ok assembly) = Empty
    fault_kind (Err fault) = fault.kind

    same_fault : ◌≡◌ {A = Result Assembly FaultAt} (Err (record { line = other; kind = another })) (Err (record { line = line; kind = kind })) → ◌≡◌ {A = Result ListingContent AsmError} (Err (Fault other another)) (Err (Fault line kind))
    same_fault e = λ i. Err (Fault (ap fault_line e i) (ap fault_kind e i))
