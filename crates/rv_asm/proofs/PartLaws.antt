-- What the second pass says of a program, in the words of the relation.
use Rattle.std.proofs.Common.{◌≡◌, ℕ, ◌+◌, ◌*◌, ◌%◌, ◌≤◌, ◌<◌, List, [], ◌∷◌, ◌++◌, length, Bool, true, false, ◌&&◌, ◌==◌, Option, Some, None, Result, Ok, Err, arith, refl, sym, ap, ◌∙◌, subst, append_assoc, append-nil, pos, ◌+ℤ◌}
use Rattle.std.specs.Prelude.{◌-ℤ◌, nat_le, nat_lt}
use Rattle.byteorder.specs.Endian.{little_bytes}
use Rattle.std.proofs.Math.Decide.{dec_lt}
use Rattle.std.proofs.lemmas.Int.{ints}
use Rattle.std.proofs.lemmas.Grind.{common_steps}
use Rattle.std.proofs.lemmas.Bool.{false≢true}
use Rattle.std.proofs.lemmas.Bool.Decides.{nat_tests}
use Rattle.rv_asm.proofs.ListLemmas.{cons_head, cons_tail, no_cut_of_nil}
use Rattle.rv_isa.specs.Operands.{IsBranchOffset, IsJumpOffset}
use Rattle.rv_isa.specs.declared.instruction.Insn.TheVariants.{Jal, Branch as BranchInsn}
use Rattle.asm_lines.specs.declared.fault.FaultKind.{FaultKind}
use Rattle.asm_lines.specs.declared.fault.FaultKind.TheVariants.{NoLabel, Range}
use Rattle.asm_statements.specs.declared.section.Section.TheVariants.{Text, Data}
use Rattle.asm_statements.specs.declared.part.CodePart.{CodePart}
use Rattle.asm_statements.specs.declared.part.CodePart.TheVariants.{Fixed, LoadAddress, Jump, Branch, Number, Address}
use Rattle.asm_values.specs.declared.datum.Datum.{Datum}
use Rattle.asm_values.specs.declared.datum.Datum.TheVariants.{Word, Pointer, Half, Byte, Zeros}
use Rattle.rv_asm.specs.declared.item.Item.{Item}
use Rattle.rv_asm.specs.declared.item.Item.TheVariants.{Label, InText, InData}
use Rattle.rv_asm.specs.declared.word.TextWord.{TextWord}
use Rattle.rv_asm.specs.declared.word.TextWord.TheVariants.{Instruction, Plain}
use Rattle.rv_asm.specs.Steps.{FaultAt, chained, map_value, on_line}
use Rattle.rv_asm.specs.Program.{size, address_of}
use Rattle.rv_asm.specs.SecondPass.{Sections, at_label, load_words, reaches, if_reached, jump_words, branch_words, code_words, datum_bytes, next_address, put, put_all, no_sections, second_pass}
use Rattle.rv_asm.specs.Assembly.{Lacks, IsSplit, PutsWords, PutsBytes, TextAt, DataAt, HoldsParts, HasPut, code_label, datum_label, TooFar, PartFault, no_label, no_datum_label, too_far}
use Rattle.rv_isa.specs.Split.{upper_part, low_part}
use Rattle.rv_isa.proofs.SplitLaws.{low_part_small, low_part_large, low_part_fits}
use Rattle.rv_asm.proofs.Places.{size_push}
use Rattle.rv_asm.proofs.LabelLaws.{address_found, no_address}
use Rattle.rv_asm.proofs.SecondSteps.{put_length, pass_length}

-- ---- distances

branch_reached : (here target : ℕ) → reaches 4096 here target ≡ true → IsBranchOffset (pos target -ℤ pos here)
branch_reached here target e = by_tests (nat_le here (target + 4096)) (nat_lt target (here + 4096)) ((here + target) % 2 == 0) refl refl refl e
  where
    by_tests : (a b c : Bool) → nat_le here (target + 4096) ≡ a → nat_lt target (here + 4096) ≡ b → ((here + target) % 2 == 0) ≡ c → (a && b && c) ≡ true → IsBranchOffset (pos target -ℤ pos here)
    by_tests true true true ea eb ec e =
        let a : here ≤ target + 4096 = grind (arith, nat_tests) in
        let b : target < here + 4096 = grind (arith, nat_tests) in
        let p : (here + target) % 2 ≡ 0 = grind (arith, nat_tests) in
        record { low = omega (arith, ints); high = omega (arith, ints); even = grind (arith, common_steps) }
    by_tests true true false ea eb ec e = cc
    by_tests true false c ea eb ec e = cc
    by_tests false b c ea eb ec e = cc

branch_missed : (here target : ℕ) → reaches 4096 here target ≡ false → IsBranchOffset (pos target -ℤ pos here) → ⊥
branch_missed here target e is =
    let a : here ≤ target + 4096 = let l = is.low in omega (arith, ints) in
    let b : target < here + 4096 = let l = is.high in omega (arith, ints) in
    let p : (here + target) % 2 ≡ 0 = let l = is.even in grind (arith, common_steps) in
    let t : reaches 4096 here target ≡ true = grind (arith, nat_tests) in
    false≢true (sym e ∙ t)

jump_reached : (here target : ℕ) → reaches 1048576 here target ≡ true → IsJumpOffset (pos target -ℤ pos here)
jump_reached here target e = by_tests (nat_le here (target + 1048576)) (nat_lt target (here + 1048576)) ((here + target) % 2 == 0) refl refl refl e
  where
    by_tests : (a b c : Bool) → nat_le here (target + 1048576) ≡ a → nat_lt target (here + 1048576) ≡ b → ((here + target) % 2 == 0) ≡ c → (a && b && c) ≡ true → IsJumpOffset (pos target -ℤ pos here)
    by_tests true true true ea eb ec e =
        let a : here ≤ target + 1048576 = grind (arith, nat_tests) in
        let b : target < here + 1048576 = grind (arith, nat_tests) in
        let p : (here + target) % 2 ≡ 0 = grind (arith, nat_tests) in
        record { low = omega (arith, ints); high = omega (arith, ints); even = grind (arith, common_steps) }
    by_tests true true false ea eb ec e = cc
    by_tests true false c ea eb ec e = cc
    by_tests false b c ea eb ec e = cc

jump_missed : (here target : ℕ) → reaches 1048576 here target ≡ false → IsJumpOffset (pos target -ℤ pos here) → ⊥
jump_missed here target e is =
    let a : here ≤ target + 1048576 = let l = is.low in omega (arith, ints) in
    let b : target < here + 1048576 = let l = is.high in omega (arith, ints) in
    let p : (here + target) % 2 ≡ 0 = let l = is.even in grind (arith, common_steps) in
    let t : reaches 1048576 here target ≡ true = grind (arith, nat_tests) in
    false≢true (sym e ∙ t)

address_splits : (address : ℕ) → IsSplit address (upper_part address) (low_part address)
address_splits address = record { whole = parts_are_whole; signed = low_part_fits address }
  where
    parts_are_whole : pos (upper_part address * 4096) +ℤ low_part address ≡ pos address
    parts_are_whole =
        elim (dec_lt (address % 4096) 2048) [
          | yes small ↦ rw (low_part_small address small) (omega (arith, ints))
          | no large ↦ (let big : 2048 ≤ address % 4096 = omega arith in rw (low_part_large address big) (omega (arith, ints)))
        ]

-- ---- parts

data CodeFault (items : List Item) (here : ℕ) (code : CodePart) (kind : FaultKind) : Type 0 where
  unlabelled : (name : List ℕ) → code_label code ≡ Some name → Lacks items name → kind ≡ NoLabel → CodeFault items here code kind
  far : TooFar items here code → kind ≡ Range → CodeFault items here code kind

abbrev CodeSaid : List Item → ℕ → CodePart → Result (List TextWord) FaultKind → Type 0
CodeSaid items here code (Ok words) = PutsWords items here code words
CodeSaid items here code (Err kind) = CodeFault items here code kind

code_said : (items : List Item) (here : ℕ) (code : CodePart) → CodeSaid items here code (code_words (address_of items) here code)
unfolding code_words PutsWords TooFar
code_said items here (Fixed insn) = refl
code_said items here (LoadAddress rd label) = by_label (address_of items label) refl
  where
    by_label : (found : Option ℕ) → address_of items label ≡ found → CodeSaid items here (LoadAddress rd label) (at_label (λ target. Ok (load_words rd target)) found)
    by_label (Some address) e = (address, (upper_part address, (low_part address, (address_found items label address e, address_splits address, refl))))
    by_label None e = unlabelled label refl (no_address items label e) refl
code_said items here (Jump rd label) = by_label (address_of items label) refl
  where
    by_reach : (address : ℕ) (b : Bool) → address_of items label ≡ Some address → reaches 1048576 here address ≡ b → CodeSaid items here (Jump rd label) (if_reached b (Instruction (Jal rd (pos address -ℤ pos here))))
    by_reach address true e r = (address, (address_found items label address e, jump_reached here address r, refl))
    by_reach address false e r = far (address, (address_found items label address e, jump_missed here address r)) refl

    by_label : (found : Option ℕ) → address_of items label ≡ found → CodeSaid items here (Jump rd label) (at_label (jump_words rd here) found)
    by_label (Some address) e = by_reach address (reaches 1048576 here address) e refl
    by_label None e = unlabelled label refl (no_address items label e) refl
code_said items here (Branch kind rs1 rs2 label) = by_label (address_of items label) refl
  where
    by_reach : (address : ℕ) (b : Bool) → address_of items label ≡ Some address → reaches 4096 here address ≡ b → CodeSaid items here (Branch kind rs1 rs2 label) (if_reached b (Instruction (BranchInsn kind rs1 rs2 (pos address -ℤ pos here))))
    by_reach address true e r = (address, (address_found items label address e, branch_reached here address r, refl))
    by_reach address false e r = far (address, (address_found items label address e, branch_missed here address r)) refl

    by_label : (found : Option ℕ) → address_of items label ≡ found → CodeSaid items here (Branch kind rs1 rs2 label) (at_label (branch_words kind rs1 rs2 here) found)
    by_label (Some address) e = by_reach address (reaches 4096 here address) e refl
    by_label None e = unlabelled label refl (no_address items label e) refl
code_said items here (Number number) = refl
code_said items here (Address label) = by_label (address_of items label) refl
  where
    by_label : (found : Option ℕ) → address_of items label ≡ found → CodeSaid items here (Address label) (at_label (λ target. Ok (Plain target ∷ [])) found)
    by_label (Some address) e = (address, (address_found items label address e, refl))
    by_label None e = unlabelled label refl (no_address items label e) refl

abbrev DatumSaid : List Item → Datum → Result (List ℕ) FaultKind → Type 0
DatumSaid items datum (Ok bytes) = PutsBytes items datum bytes
DatumSaid items datum (Err kind) = (name : List ℕ) × (datum_label datum ≡ Some name) × Lacks items name × (kind ≡ NoLabel)

datum_said : (items : List Item) (datum : Datum) → DatumSaid items datum (datum_bytes (address_of items) datum)
unfolding datum_bytes PutsBytes
datum_said items (Word number) = refl
datum_said items (Pointer label) = by_label (address_of items label) refl
  where
    by_label : (found : Option ℕ) → address_of items label ≡ found → DatumSaid items (Pointer label) (at_label (λ target. Ok (little_bytes 4 target)) found)
    by_label (Some address) e = (address, (address_found items label address e, refl))
    by_label None e = (label, refl, no_address items label e, refl)
datum_said items (Half number) = refl
datum_said items (Byte number) = refl
datum_said items (Zeros count) = refl

-- ---- items one after another

-- what an item puts behind others of its program
abbrev Put : List Item → List Item → Item → List TextWord → List ℕ → Type 0
Put all front (Label section name) words bytes = (words ≡ []) × (bytes ≡ [])
Put all front (InText line code) words bytes = PutsWords all (0x10000 + size Text front) code words × (bytes ≡ [])
Put all front (InData line datum) words bytes = (words ≡ []) × PutsBytes all datum bytes

record PutStep (all front : List Item) (s : Sections) (item : Item) (more : Sections) : Type 0 where
  words : List TextWord
  bytes : List ℕ
  text : more.text ≡ s.text ++ words
  more_bytes : more.bytes ≡ s.bytes ++ bytes
  has_put : Put all front item words bytes

abbrev StepSaid : List Item → List Item → Sections → Item → Result Sections FaultAt → Type 0
StepSaid all front s item (Ok more) = PutStep all front s item more
StepSaid all front s item (Err fault) = PartFault all (0x10000 + size Text front) item fault.line fault.kind

step_said : (all front : List Item) (s : Sections) (item : Item) → 4 * length s.text ≡ size Text front → StepSaid all front s item (put all s item)
unfolding put
step_said all front s (Label section name) at = record { words = []; bytes = []; text = sym (append-nil s.text); more_bytes = sym (append-nil s.bytes); has_put = (refl, refl) }
step_said all front s (InText line code) at = by_code (code_words (address_of all) (next_address s) code) (subst (λ here. CodeSaid all here code (code_words (address_of all) (next_address s) code)) (ap (λ n. 0x10000 + n) at) (code_said all (next_address s) code))
  where
    by_code : (r : Result (List TextWord) FaultKind) → CodeSaid all (0x10000 + size Text front) code r → StepSaid all front s (InText line code) (on_line line (map_value (λ words. record s { text = s.text ++ words }) r))
    by_code (Ok words) said = record { words = words; bytes = []; text = refl; more_bytes = sym (append-nil s.bytes); has_put = (said, refl) }
    by_code (Err kind) said = by_fault said
      where
        by_fault : CodeFault all (0x10000 + size Text front) code kind → PartFault all (0x10000 + size Text front) (InText line code) line kind
        by_fault (unlabelled name names lacks is) = no_label code name refl names lacks is
        by_fault (far beyond is) = too_far code refl beyond is
step_said all front s (InData line datum) at = by_datum (datum_bytes (address_of all) datum) (datum_said all datum)
  where
    by_datum : (r : Result (List ℕ) FaultKind) → DatumSaid all datum r → StepSaid all front s (InData line datum) (on_line line (map_value (λ bytes. record s { bytes = s.bytes ++ bytes }) r))
    by_datum (Ok bytes) said = record { words = []; bytes = bytes; text = sym (append-nil s.text); more_bytes = refl; has_put = (refl, said) }
    by_datum (Err kind) said = no_datum_label datum said.0 refl said.1 said.2 said.3

put_part : (all front : List Item) (s : Sections) (item : Item) (more : Sections) → PutStep all front s item more → HasPut all front item
unfolding HasPut
put_part all front s (Label section name) more step = tt
put_part all front s (InText line code) more step = (step.words, step.has_put.0)
put_part all front s (InData line datum) more step = (step.bytes, step.has_put.1)

record FillsItems (all front : List Item) (s : Sections) (items : List Item) (q : Sections) : Type 0 where
  words : List TextWord
  bytes : List ℕ
  text : q.text ≡ s.text ++ words
  more_bytes : q.bytes ≡ s.bytes ++ bytes
  text_parts : (f b : List Item) (line : ℕ) (code : CodePart) → items ≡ f ++ InText line code ∷ b → TextAt all (front ++ f) code q.text
  data_parts : (f b : List Item) (line : ℕ) (datum : Datum) → items ≡ f ++ InData line datum ∷ b → DataAt all (front ++ f) datum q.bytes

record Stuck (all front items : List Item) (fault : FaultAt) : Type 0 where
  above : List Item
  below : List Item
  item : Item
  cut : items ≡ above ++ item ∷ below
  put_above : (f b : List Item) (one : Item) → above ≡ f ++ one ∷ b → HasPut all (front ++ f) one
  wrong : PartFault all (0x10000 + size Text (front ++ above)) item fault.line fault.kind

abbrev AllSaid : List Item → List Item → Sections → List Item → Result Sections FaultAt → Type 0
AllSaid all front s items (Ok q) = FillsItems all front s items q
AllSaid all front s items (Err fault) = Stuck all front items fault

first_text : (all front : List Item) (s more q : Sections) (item : Item) (line : ℕ) (code : CodePart) (rest : List TextWord) → item ≡ InText line code → 4 * length s.text ≡ size Text front → PutStep all front s item more → q.text ≡ more.text ++ rest → TextAt all (front ++ []) code q.text
first_text all front s more q item line code rest is at step whole =
    let same : front ≡ front ++ [] = sym (append-nil front) in
    let has : Put all front (InText line code) step.words step.bytes = subst (λ i. Put all front i step.words step.bytes) is step.has_put in
    record {
      before = s.text;
      words = step.words;
      after = rest;
      stand = whole ∙ ap (λ t. t ++ rest) step.text ∙ append_assoc s.text step.words rest;
      place = at ∙ ap (size Text) same;
      put = subst (λ f. PutsWords all (0x10000 + size Text f) code step.words) same has.0;
    }

first_data : (all front : List Item) (s more q : Sections) (item : Item) (line : ℕ) (datum : Datum) (rest : List ℕ) → item ≡ InData line datum → length s.bytes ≡ size Data front → PutStep all front s item more → q.bytes ≡ more.bytes ++ rest → DataAt all (front ++ []) datum q.bytes
first_data all front s more q item line datum rest is at step whole =
    let same : front ≡ front ++ [] = sym (append-nil front) in
    let has : Put all front (InData line datum) step.words step.bytes = subst (λ i. Put all front i step.words step.bytes) is step.has_put in
    record {
      before = s.bytes;
      bytes = step.bytes;
      after = rest;
      stand = whole ∙ ap (λ t. t ++ rest) step.more_bytes ∙ append_assoc s.bytes step.bytes rest;
      place = at ∙ ap (size Data) same;
      put = has.1;
    }

-- an item's place behind the first
behind : (front : List Item) (item one : Item) (f : List Item) → item ≡ one → (front ++ item ∷ []) ++ f ≡ front ++ (one ∷ f)
behind front item one f e = append_assoc front (item ∷ []) f ∙ ap (λ i. front ++ (i ∷ f)) e

filled_more : (all front : List Item) (s more q : Sections) (item : Item) (rest : List Item) → 4 * length s.text ≡ size Text front → length s.bytes ≡ size Data front → PutStep all front s item more → FillsItems all (front ++ item ∷ []) more rest q → FillsItems all front s (item ∷ rest) q
filled_more all front s more q item rest at data_at step filled = record {
  words = step.words ++ filled.words;
  bytes = step.bytes ++ filled.bytes;
  text = filled.text ∙ ap (λ t. t ++ filled.words) step.text ∙ append_assoc s.text step.words filled.words;
  more_bytes = filled.more_bytes ∙ ap (λ t. t ++ filled.bytes) step.more_bytes ∙ append_assoc s.bytes step.bytes filled.bytes;
  text_parts = texts;
  data_parts = datas;
}
  where
    texts : (f b : List Item) (line : ℕ) (code : CodePart) → item ∷ rest ≡ f ++ InText line code ∷ b → TextAt all (front ++ f) code q.text
    texts [] b line code e = first_text all front s more q item line code filled.words (cons_head item (InText line code) rest b e) at step filled.text
    texts (one ∷ f) b line code e = subst (λ l. TextAt all l code q.text) (behind front item one f (cons_head item one rest (f ++ InText line code ∷ b) e)) (filled.text_parts f b line code (cons_tail item one rest (f ++ InText line code ∷ b) e))

    datas : (f b : List Item) (line : ℕ) (datum : Datum) → item ∷ rest ≡ f ++ InData line datum ∷ b → DataAt all (front ++ f) datum q.bytes
    datas [] b line datum e = first_data all front s more q item line datum filled.bytes (cons_head item (InData line datum) rest b e) data_at step filled.more_bytes
    datas (one ∷ f) b line datum e = subst (λ l. DataAt all l datum q.bytes) (behind front item one f (cons_head item one rest (f ++ InData line datum ∷ b) e)) (filled.data_parts f b line datum (cons_tail item one rest (f ++ InData line datum ∷ b) e))

stuck_more : (all front : List Item) (item : Item) (rest : List Item) (fault : FaultAt) → HasPut all front item → Stuck all (front ++ item ∷ []) rest fault → Stuck all front (item ∷ rest) fault
stuck_more all front item rest fault has stuck = record {
  above = item ∷ stuck.above;
  below = stuck.below;
  item = stuck.item;
  cut = ap (λ l. item ∷ l) stuck.cut;
  put_above = puts;
  wrong = subst (λ l. PartFault all (0x10000 + size Text l) stuck.item fault.line fault.kind) (behind front item item stuck.above refl) stuck.wrong;
}
  where
    puts : (f b : List Item) (one : Item) → item ∷ stuck.above ≡ f ++ one ∷ b → HasPut all (front ++ f) one
    puts [] b one e = subst (λ l. HasPut all l one) (sym (append-nil front)) (subst (λ i. HasPut all front i) (cons_head item one stuck.above b e) has)
    puts (other ∷ f) b one e = subst (λ l. HasPut all l one) (behind front item other f (cons_head item other stuck.above (f ++ one ∷ b) e)) (stuck.put_above f b one (cons_tail item other stuck.above (f ++ one ∷ b) e))

all_said : (all front : List Item) (s : Sections) (items : List Item) → 4 * length s.text ≡ size Text front → length s.bytes ≡ size Data front → AllSaid all front s items (put_all all s items)
unfolding put_all
all_said all front s [] at data_at = record {
  words = [];
  bytes = [];
  text = sym (append-nil s.text);
  more_bytes = sym (append-nil s.bytes);
  text_parts = λ f b line code e. absurd (no_cut_of_nil f b (InText line code) e);
  data_parts = λ f b line datum e. absurd (no_cut_of_nil f b (InData line datum) e);
}
all_said all front s (item ∷ items) at data_at = by_step (put all s item) refl (step_said all front s item at) (λ more a d. all_said all (front ++ item ∷ []) more items a d)
  where
    by_rest : (more : Sections) (r : Result Sections FaultAt) → PutStep all front s item more → AllSaid all (front ++ item ∷ []) more items r → AllSaid all front s (item ∷ items) r
    by_rest more (Ok q) step rest = filled_more all front s more q item items at data_at step rest
    by_rest more (Err fault) step rest = stuck_more all front item items fault (put_part all front s item more step) rest

    by_step : (r : Result Sections FaultAt) → put all s item ≡ r → StepSaid all front s item r → ((more : Sections) → 4 * length more.text ≡ size Text (front ++ item ∷ []) → length more.bytes ≡ size Data (front ++ item ∷ []) → AllSaid all (front ++ item ∷ []) more items (put_all all more items)) → AllSaid all front s (item ∷ items) (chained (λ more. put_all all more items) r)
    by_step (Ok more) is step rest =
        let l = put_length all s more item is in
        let t = l.0 in
        let d = l.1 in
        by_rest more (put_all all more items) step (rest more (omega (arith, size_push Text front item)) (omega (arith, size_push Data front item)))
    by_step (Err fault) is step rest = record {
      above = [];
      below = items;
      item = item;
      cut = refl;
      put_above = λ f b one e. absurd (no_cut_of_nil f b one e);
      wrong = subst (λ l. PartFault all (0x10000 + size Text l) item fault.line fault.kind) (sym (append-nil front)) step;
    }

-- ---- the whole second pass

pub pass_holds : (items : List Item) (sections : Sections) → second_pass items ≡ Ok sections → HoldsParts items sections.text sections.bytes
unfolding second_pass size
pass_holds items sections is =
    let said : FillsItems items [] no_sections items sections = subst (AllSaid items [] no_sections items) is (all_said items [] no_sections items refl refl) in
    let long = pass_length items sections is in
    record { text_parts = said.text_parts; data_parts = said.data_parts; text_size = long.0; data_size = long.1 }

pub record PassStops (items : List Item) (fault : FaultAt) : Type 0 where
  pub above : List Item
  pub below : List Item
  pub item : Item
  pub cut : items ≡ above ++ item ∷ below
  pub put_above : (f b : List Item) (one : Item) → above ≡ f ++ one ∷ b → HasPut items f one
  pub wrong : PartFault items (0x10000 + size Text above) item fault.line fault.kind

pub pass_stops : (items : List Item) (fault : FaultAt) → second_pass items ≡ Err fault → PassStops items fault
unfolding second_pass size
pass_stops items fault is =
    let said : Stuck items [] items fault = subst (AllSaid items [] no_sections items) is (all_said items [] no_sections items refl refl) in
    record { above = said.above; below = said.below; item = said.item; cut = said.cut; put_above = said.put_above; wrong = said.wrong }
