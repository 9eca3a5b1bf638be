-- What the first pass says of a source, in the words of the relation.
use Rattle.std.proofs.Common.{◌≡◌, ℕ, ◌+◌, List, [], ◌∷◌, ◌++◌, map, length, Bool, true, false, ◌&&◌, Result, Ok, Err, arith, refl, sym, ap, ◌∙◌, subst, append_assoc, append-nil, zero-add}
use Rattle.std.specs.Prelude.{⊤, is_some, nat_le}
use Rattle.std.proofs.lemmas.Bool.{false≢true}
use Rattle.std.proofs.lemmas.Bool.Decides.{nat_tests}
use Rattle.asm_lines.specs.declared.fault.FaultKind.{FaultKind}
use Rattle.asm_lines.specs.declared.fault.FaultKind.TheVariants.{LabelTwice, TooLong}
use Rattle.asm_statements.specs.declared.section.Section.{Section}
use Rattle.asm_statements.specs.declared.section.Section.TheVariants.{Text, Data}
use Rattle.asm_statements.specs.declared.part.CodePart.{CodePart}
use Rattle.asm_values.specs.declared.datum.Datum.{Datum}
use Rattle.rv_asm.specs.declared.item.Item.{Item}
use Rattle.rv_asm.specs.declared.item.Item.TheVariants.{Label, InText, InData}
use Rattle.asm_lines.specs.Forms.{SourceLine}
use Rattle.asm_statements.specs.Effects.{StatementEffect, Enter, Text as TextEffect, Data as DataEffect}
use Rattle.asm_lines.specs.Lines.{line_form}
use Rattle.rv_asm.specs.Steps.{FaultAt, chained, on_line}
use Rattle.rv_asm.specs.Program.{size, label_place}
use Rattle.rv_asm.specs.FirstPass.{Progress, no_lines, unless_there, with_label, with_labels, within_limits, if_fits, with_item, with_items, with_effect, with_reading, with_form, with_line, with_lines}
use Rattle.rv_asm.specs.LineEffects.{line_effect}
use Rattle.rv_asm.specs.Assembly.{Says, section_after, parts_of, items_of, Tells, Lacks, DistinctLabels, Fits, HasProgram, LineFault, form, statement, twice, long}
use Rattle.rv_asm.proofs.Places.{size_append}
use Rattle.rv_asm.proofs.LabelLaws.{lacks_none, none_from_lacks}
use Rattle.rv_asm.proofs.FirstSteps.{none_unless_some}

-- ---- labels

lacks_push : (items : List Item) (section : Section) (name other : List ℕ) → Lacks items name → (other ≡ name → ⊥) → Lacks (items ++ Label section other ∷ []) name
unfolding Lacks
lacks_push [] section name other lacks apart = (apart, tt)
lacks_push (Label s first ∷ items) section name other lacks apart = (lacks.0, lacks_push items section name other lacks.1 apart)
lacks_push (InText line code ∷ items) section name other lacks apart = lacks_push items section name other lacks apart
lacks_push (InData line datum ∷ items) section name other lacks apart = lacks_push items section name other lacks apart

distinct_push : (items : List Item) (section : Section) (name : List ℕ) → DistinctLabels items → Lacks items name → DistinctLabels (items ++ Label section name ∷ [])
unfolding DistinctLabels Lacks
distinct_push [] section name d lacks = (tt, tt)
distinct_push (Label s first ∷ items) section name d lacks = (lacks_push items section first name d.0 (λ e. lacks.0 (sym e)), distinct_push items section name d.1 lacks.1)
distinct_push (InText line code ∷ items) section name d lacks = distinct_push items section name d lacks
distinct_push (InData line datum ∷ items) section name d lacks = distinct_push items section name d lacks

-- what stands before a label has no other of its name
pub lacks_label : (items rest : List Item) (section : Section) (name : List ℕ) → Lacks (items ++ Label section name ∷ rest) name → ⊥
unfolding Lacks
lacks_label [] rest section name lacks = lacks.0 refl
lacks_label (Label s first ∷ items) rest section name lacks = lacks_label items rest section name lacks.1
lacks_label (InText line code ∷ items) rest section name lacks = lacks_label items rest section name lacks
lacks_label (InData line datum ∷ items) rest section name lacks = lacks_label items rest section name lacks

lacks_before : (items rest : List Item) (section : Section) (name : List ℕ) → DistinctLabels (items ++ Label section name ∷ rest) → Lacks items name
unfolding DistinctLabels Lacks
lacks_before [] rest section name d = tt
lacks_before (Label s first ∷ items) rest section name d = ((λ e. lacks_label items rest section name (subst (λ n. Lacks (items ++ Label section name ∷ rest) n) e d.0)), lacks_before items rest section name d.1)
lacks_before (InText line code ∷ items) rest section name d = lacks_before items rest section name d
lacks_before (InData line datum ∷ items) rest section name d = lacks_before items rest section name d

abbrev LabelsSaid : Progress → List (List ℕ) → Result Progress FaultKind → Type 0
LabelsSaid p names (Ok q) = (q.section ≡ p.section) × (q.items ≡ p.items ++ map (Label p.section) names) × (DistinctLabels p.items → DistinctLabels q.items)
LabelsSaid p names (Err kind) = (kind ≡ LabelTwice) × (DistinctLabels (p.items ++ map (Label p.section) names) → ⊥)

pub labels_said : (p : Progress) (names : List (List ℕ)) → LabelsSaid p names (with_labels p names)
unfolding with_labels with_label
labels_said p [] = (refl, sym (append-nil p.items), λ d. d)
labels_said p (name ∷ names) = by_test (is_some (label_place p.items name)) refl (labels_said (record p { items = p.items ++ Label p.section name ∷ [] }) names)
  where
    all : (p.items ++ Label p.section name ∷ []) ++ map (Label p.section) names ≡ p.items ++ (Label p.section name ∷ map (Label p.section) names)
    all = append_assoc p.items (Label p.section name ∷ []) (map (Label p.section) names)

    later : (r : Result Progress FaultKind) → is_some (label_place p.items name) ≡ false → LabelsSaid (record p { items = p.items ++ Label p.section name ∷ [] }) names r → LabelsSaid p (name ∷ names) r
    later (Ok q) new rest = (rest.0, rest.1 ∙ all, λ d. rest.2 (distinct_push p.items p.section name d (lacks_none p.items name (none_unless_some (label_place p.items name) new))))
    later (Err kind) new rest = (rest.0, λ d. rest.1 (subst DistinctLabels (sym all) d))

    by_test : (b : Bool) → is_some (label_place p.items name) ≡ b → LabelsSaid (record p { items = p.items ++ Label p.section name ∷ [] }) names (with_labels (record p { items = p.items ++ Label p.section name ∷ [] }) names) → LabelsSaid p (name ∷ names) (chained (λ more. with_labels more names) (unless_there b p name))
    by_test true there rest = (refl, λ d. false≢true (sym (ap is_some (none_from_lacks p.items name (lacks_before p.items (map (Label p.section) names) p.section name d))) ∙ there))
    by_test false new rest = later (with_labels (record p { items = p.items ++ Label p.section name ∷ [] }) names) new rest

-- ---- parts

abbrev Parts : List Item → Type 0
Parts [] = ⊤
Parts (Label section name ∷ items) = ⊥
Parts (InText line code ∷ items) = Parts items
Parts (InData line datum ∷ items) = Parts items

lacks_part : (items : List Item) (item : Item) (name : List ℕ) → Parts (item ∷ []) → Lacks items name → Lacks (items ++ item ∷ []) name
unfolding Lacks
lacks_part [] (Label s n) name part lacks = absurd part
lacks_part [] (InText line code) name part lacks = tt
lacks_part [] (InData line datum) name part lacks = tt
lacks_part (Label s first ∷ items) item name part lacks = (lacks.0, lacks_part items item name part lacks.1)
lacks_part (InText line code ∷ items) item name part lacks = lacks_part items item name part lacks
lacks_part (InData line datum ∷ items) item name part lacks = lacks_part items item name part lacks

distinct_part : (items : List Item) (item : Item) → Parts (item ∷ []) → DistinctLabels items → DistinctLabels (items ++ item ∷ [])
unfolding DistinctLabels
distinct_part [] (Label s n) part d = absurd part
distinct_part [] (InText line code) part d = tt
distinct_part [] (InData line datum) part d = tt
distinct_part (Label s first ∷ items) item part d = (lacks_part items item first part d.0, distinct_part items item part d.1)
distinct_part (InText line code ∷ items) item part d = distinct_part items item part d
distinct_part (InData line datum ∷ items) item part d = distinct_part items item part d

text_parts : (line : ℕ) (parts : List CodePart) → Parts (map (InText line) parts)
text_parts line [] = tt
text_parts line (code ∷ parts) = text_parts line parts

data_parts : (line : ℕ) (parts : List Datum) → Parts (map (InData line) parts)
data_parts line [] = tt
data_parts line (datum ∷ parts) = data_parts line parts

first_part : (item : Item) (items : List Item) → Parts (item ∷ items) → Parts (item ∷ []) × Parts items
first_part (Label s n) items parts = absurd parts
first_part (InText line code) items parts = (tt, parts)
first_part (InData line datum) items parts = (tt, parts)

pub fits_from : (items : List Item) → within_limits items ≡ true → Fits items
fits_from items e = by_tests (nat_le (size Text items) 262144) (nat_le (size Data items) 1048576) refl refl e
  where
    by_tests : (t d : Bool) → nat_le (size Text items) 262144 ≡ t → nat_le (size Data items) 1048576 ≡ d → (t && d) ≡ true → Fits items
    by_tests true true et ed e = record { text = grind (arith, nat_tests); bytes = grind (arith, nat_tests) }
    by_tests true false et ed e = cc
    by_tests false d et ed e = cc

pub from_fits : (items : List Item) → Fits items → within_limits items ≡ true
from_fits items f =
    let t : nat_le (size Text items) 262144 ≡ true = let h = f.text in grind (arith, nat_tests) in
    let d : nat_le (size Data items) 1048576 ≡ true = let h = f.bytes in grind (arith, nat_tests) in
    rw (t, d) refl

pub fits_front : (items more : List Item) → Fits (items ++ more) → Fits items
fits_front items more f =
    let t = f.text in
    let d = f.bytes in
    record { text = omega (arith, size_append Text items more); bytes = omega (arith, size_append Data items more) }

abbrev ItemsSaid : Progress → List Item → Result Progress FaultKind → Type 0
ItemsSaid p new (Ok q) = (q.section ≡ p.section) × (q.items ≡ p.items ++ new) × (DistinctLabels p.items → DistinctLabels q.items) × (Fits p.items → Fits q.items)
ItemsSaid p new (Err kind) = (kind ≡ TooLong) × (Fits (p.items ++ new) → ⊥)

pub items_said : (p : Progress) (new : List Item) → Parts new → ItemsSaid p new (with_items p new)
unfolding with_items with_item
items_said p [] parts = (refl, sym (append-nil p.items), (λ d. d), (λ f. f))
items_said p (item ∷ items) parts = by_test (within_limits (p.items ++ item ∷ [])) refl (items_said (record p { items = p.items ++ item ∷ [] }) items (first_part item items parts).1)
  where
    all : (p.items ++ item ∷ []) ++ items ≡ p.items ++ (item ∷ items)
    all = append_assoc p.items (item ∷ []) items

    later : (r : Result Progress FaultKind) → within_limits (p.items ++ item ∷ []) ≡ true → ItemsSaid (record p { items = p.items ++ item ∷ [] }) items r → ItemsSaid p (item ∷ items) r
    later (Ok q) room rest = (rest.0, rest.1 ∙ all, (λ d. rest.2 (distinct_part p.items item (first_part item items parts).0 d)), (λ f. rest.3 (fits_from (p.items ++ item ∷ []) room)))
    later (Err kind) room rest = (rest.0, λ f. rest.1 (subst Fits (sym all) f))

    by_test : (b : Bool) → within_limits (p.items ++ item ∷ []) ≡ b → ItemsSaid (record p { items = p.items ++ item ∷ [] }) items (with_items (record p { items = p.items ++ item ∷ [] }) items) → ItemsSaid p (item ∷ items) (chained (λ more. with_items more items) (if_fits b p item))
    by_test true room rest = later (with_items (record p { items = p.items ++ item ∷ [] }) items) room rest
    by_test false full rest = (refl, λ f. false≢true (sym full ∙ from_fits (p.items ++ item ∷ []) (fits_front (p.items ++ item ∷ []) items (subst Fits (sym all) f))))

-- labels take no room
labels_size : (kind of : Section) (labels : List (List ℕ)) → size kind (map (Label of) labels) ≡ 0
unfolding size
labels_size kind of [] = refl
labels_size kind of (name ∷ labels) = ap (λ n. 0 + n) (labels_size kind of labels)

labels_fit : (items : List Item) (section : Section) (labels : List (List ℕ)) → Fits items → Fits (items ++ map (Label section) labels)
labels_fit items section labels f =
    let t = f.text in
    let d = f.bytes in
    record {
      text = omega (arith, size_append Text items (map (Label section) labels), labels_size Text section labels);
      bytes = omega (arith, size_append Data items (map (Label section) labels), labels_size Data section labels);
    }

-- ---- lines

pub record LineRead (number : ℕ) (p : Progress) (text : List ℕ) (q : Progress) : Type 0 where
  pub labels : List (List ℕ)
  pub effect : StatementEffect
  pub says : Says p.section text labels effect
  pub section : q.section ≡ section_after p.section effect
  pub items : q.items ≡ p.items ++ items_of number p.section labels effect
  pub distinct : DistinctLabels p.items → DistinctLabels q.items
  pub fits : Fits p.items → Fits q.items

abbrev pub LineSaid : ℕ → Progress → List ℕ → Result Progress FaultKind → Type 0
LineSaid number p text (Ok q) = LineRead number p text q
LineSaid number p text (Err kind) = DistinctLabels p.items → LineFault number p.section p.items text kind

-- what a statement does, behind the line's labels
abbrev EffectSaid : ℕ → Progress → StatementEffect → Result Progress FaultKind → Type 0
EffectSaid number p effect (Ok q) = (q.section ≡ section_after p.section effect) × (q.items ≡ p.items ++ parts_of number effect) × (DistinctLabels p.items → DistinctLabels q.items) × (Fits p.items → Fits q.items)
EffectSaid number p effect (Err kind) = (kind ≡ TooLong) × (Fits (p.items ++ parts_of number effect) → ⊥)

effect_said : (number : ℕ) (p : Progress) (effect : StatementEffect) → EffectSaid number p effect (with_effect number p effect)
effect_said number p (Enter section) = (refl, sym (append-nil p.items), (λ d. d), (λ f. f))
effect_said number p (TextEffect parts) = by_result (with_items p (map (InText number) parts)) (items_said p (map (InText number) parts) (text_parts number parts))
  where
    by_result : (r : Result Progress FaultKind) → ItemsSaid p (map (InText number) parts) r → EffectSaid number p (TextEffect parts) r
    by_result (Ok q) s = s
    by_result (Err kind) s = s
effect_said number p (DataEffect parts) = by_result (with_items p (map (InData number) parts)) (items_said p (map (InData number) parts) (data_parts number parts))
  where
    by_result : (r : Result Progress FaultKind) → ItemsSaid p (map (InData number) parts) r → EffectSaid number p (DataEffect parts) r
    by_result (Ok q) s = s
    by_result (Err kind) s = s

reading_said : (number : ℕ) (p : Progress) (text : List ℕ) (labels : List (List ℕ)) (effect : StatementEffect) → Says p.section text labels effect → LineSaid number p text (with_reading number p labels effect)
reading_said number p text labels effect says = by_labels (with_labels p labels) (labels_said p labels)
  where
    by_effect : (m : Progress) (r : Result Progress FaultKind) → LabelsSaid p labels (Ok m) → EffectSaid number m effect r → LineSaid number p text r
    by_effect m (Ok q) l e = record {
      labels = labels;
      effect = effect;
      says = says;
      section = e.0 ∙ ap (λ s. section_after s effect) l.0;
      items = e.1 ∙ ap (λ i. i ++ parts_of number effect) l.1 ∙ append_assoc p.items (map (Label p.section) labels) (parts_of number effect);
      distinct = λ d. e.2 (l.2 d);
      fits = λ f. e.3 (subst Fits (sym l.1) (labels_fit p.items p.section labels f));
    }
    by_effect m (Err kind) l e = λ d. long labels effect says (subst DistinctLabels l.1 (l.2 d)) (λ f. e.1 (subst Fits (sym (append_assoc p.items (map (Label p.section) labels) (parts_of number effect)) ∙ ap (λ i. i ++ parts_of number effect) (sym l.1)) f)) e.0

    by_labels : (r : Result Progress FaultKind) → LabelsSaid p labels r → LineSaid number p text (chained (λ labelled. with_effect number labelled effect) r)
    by_labels (Ok m) l = by_effect m (with_effect number m effect) l (effect_said number m effect)
    by_labels (Err kind) l = λ d. twice labels effect says l.1 l.0

pub line_said : (number : ℕ) (p : Progress) (text : List ℕ) → LineSaid number p text (with_line number p text)
unfolding with_line
line_said number p text = by_form (line_form text) refl
  where
    by_effect : (line : SourceLine) (e : Result StatementEffect FaultKind) → line_form text ≡ Ok line → line_effect p.section line ≡ e → LineSaid number p text (chained (with_reading number p line.labels) e)
    by_effect line (Ok effect) is does = reading_said number p text line.labels effect (record { line = line; form = is; named = refl; does = does })
    by_effect line (Err kind) is does = λ d. statement line is does

    by_form : (r : Result SourceLine FaultKind) → line_form text ≡ r → LineSaid number p text (chained (with_form number p) r)
    by_form (Ok line) is = by_effect line (line_effect p.section line) is refl
    by_form (Err kind) is = λ d. form is

pub record LinesRead (before : ℕ) (p : Progress) (lines : List (List ℕ)) (q : Progress) : Type 0 where
  pub new : List Item
  pub items : q.items ≡ p.items ++ new
  pub told : Tells before p.section lines new q.section
  pub distinct : DistinctLabels p.items → DistinctLabels q.items
  pub fits : Fits p.items → Fits q.items

pub record LinesStop (before : ℕ) (p : Progress) (lines : List (List ℕ)) (fault : FaultAt) : Type 0 where
  pub good : List (List ℕ)
  pub bad : List ℕ
  pub below : List (List ℕ)
  pub cut : lines ≡ good ++ bad ∷ below
  pub m : Progress
  pub read : LinesRead before p good m
  pub number : fault.line ≡ before + (length good + 1)
  pub wrong : DistinctLabels m.items → LineFault fault.line m.section m.items bad fault.kind

abbrev pub LinesSaid : ℕ → Progress → List (List ℕ) → Result Progress FaultAt → Type 0
LinesSaid before p lines (Ok q) = LinesRead before p lines q
LinesSaid before p lines (Err fault) = LinesStop before p lines fault

no_lines_read : (before : ℕ) (p : Progress) → LinesRead before p [] p
unfolding Tells
no_lines_read before p = record { new = []; items = sym (append-nil p.items); told = (refl, refl); distinct = λ d. d; fits = λ f. f }

line_and_lines : (before : ℕ) (p more q : Progress) (text : List ℕ) (below : List (List ℕ)) → LineRead (before + 1) p text more → LinesRead (before + 1) more below q → LinesRead before p (text ∷ below) q
unfolding Tells
line_and_lines before p more q text below line rest = record {
  new = items_of (before + 1) p.section line.labels line.effect ++ rest.new;
  items = rest.items ∙ ap (λ i. i ++ rest.new) line.items ∙ append_assoc p.items (items_of (before + 1) p.section line.labels line.effect) rest.new;
  told = (line.labels, (line.effect, (rest.new, (line.says, refl, subst (λ s. Tells (before + 1) s below rest.new q.section) line.section rest.told))));
  distinct = λ d. rest.distinct (line.distinct d);
  fits = λ f. rest.fits (line.fits f);
}

pub lines_said : (before : ℕ) (p : Progress) (lines : List (List ℕ)) → LinesSaid before p lines (with_lines before p lines)
unfolding with_lines
lines_said before p [] = no_lines_read before p
lines_said before p (text ∷ below) = by_line (with_line (before + 1) p text) (line_said (before + 1) p text) (λ more. lines_said (before + 1) more below)
  where
    by_rest : (more : Progress) (r : Result Progress FaultAt) → LineRead (before + 1) p text more → LinesSaid (before + 1) more below r → LinesSaid before p (text ∷ below) r
    by_rest more (Ok q) line rest = line_and_lines before p more q text below line rest
    by_rest more (Err fault) line rest = record {
      good = text ∷ rest.good;
      bad = rest.bad;
      below = rest.below;
      cut = ap (λ l. text ∷ l) rest.cut;
      m = rest.m;
      read = line_and_lines before p more rest.m text rest.good line rest.read;
      number = rest.number ∙ omega arith;
      wrong = rest.wrong;
    }

    by_line : (r : Result Progress FaultKind) → LineSaid (before + 1) p text r → ((more : Progress) → LinesSaid (before + 1) more below (with_lines (before + 1) more below)) → LinesSaid before p (text ∷ below) (chained (λ more. with_lines (before + 1) more below) (on_line (before + 1) r))
    by_line (Ok more) line rest = by_rest more (with_lines (before + 1) more below) line (rest more)
    by_line (Err kind) line rest = record {
      good = [];
      bad = text;
      below = below;
      cut = refl;
      m = p;
      read = no_lines_read before p;
      number = ap (λ n. before + n) (sym (zero-add 1));
      wrong = line;
    }

-- ---- the whole first pass

pub program_read : (lines : List (List ℕ)) (q : Progress) → LinesRead 0 no_lines lines q → HasProgram lines q.section q.items
unfolding DistinctLabels size
program_read lines q read = record {
  told = subst (λ i. Tells 0 Text lines i q.section) (sym read.items) read.told;
  distinct = read.distinct tt;
  fits = read.fits (record { text = omega arith; bytes = omega arith });
}
