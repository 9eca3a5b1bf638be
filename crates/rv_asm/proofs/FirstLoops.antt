-- Labels, parts and lines one after another.
use Rattle.std.proofs.Common.{◌≡◌, ℕ, ◌+◌, List, [], ◌∷◌, Result, Ok, Err, sym, ap, ◌∙◌}
use Rattle.asm_lines.specs.declared.fault.FaultKind.{FaultKind}
use Rattle.asm_lines.specs.declared.fault.LineRefusal.{LineRefusal}
use Rattle.asm_lines.specs.declared.fault.LineRefusal.TheVariants.{Fault, NoMemory}
use Rattle.rv_asm.specs.declared.item.Item.{Item}
use Rattle.asm_lines.specs.Faults.{RefusesLine}
use Rattle.rv_asm.specs.Errors.{error_on}
use Rattle.rv_asm.specs.Steps.{FaultAt, Fails, chained, on_line}
use Rattle.rv_asm.specs.FirstPass.{Progress, with_label, with_labels, with_item, with_items, with_line, with_lines}

pub labels_go_on : (progress more : Progress) (name : List ℕ) (names : List (List ℕ)) → with_label progress name ≡ Ok more → with_labels progress (name ∷ names) ≡ with_labels more names
unfolding with_labels
labels_go_on progress more name names is = ap (chained (λ p. with_labels p names)) is

pub labels_stop : (progress : Progress) (kind : FaultKind) (name : List ℕ) (names : List (List ℕ)) → with_label progress name ≡ Err kind → with_labels progress (name ∷ names) ≡ Err kind
unfolding with_labels
labels_stop progress kind name names is = ap (chained (λ p. with_labels p names)) is

pub labels_end : (progress : Progress) (names : List (List ℕ)) → names ≡ [] → with_labels progress names ≡ Ok progress
unfolding with_labels
labels_end progress names none = ap (with_labels progress) none

pub labels_refuse : (progress start : Progress) (name : List ℕ) (names rest all : List (List ℕ)) (refusal : LineRefusal) → rest ≡ name ∷ names → with_labels progress rest ≡ with_labels start all → RefusesLine (with_label progress name) refusal → RefusesLine (with_labels start all) refusal
labels_refuse progress start name names rest all (Fault kind) are same is = sym same ∙ ap (with_labels progress) are ∙ labels_stop progress kind name names is
labels_refuse progress start name names rest all NoMemory are same is = tt

pub items_go_on : (progress more : Progress) (item : Item) (items : List Item) → with_item progress item ≡ Ok more → with_items progress (item ∷ items) ≡ with_items more items
unfolding with_items
items_go_on progress more item items is = ap (chained (λ p. with_items p items)) is

pub items_stop : (progress : Progress) (kind : FaultKind) (item : Item) (items : List Item) → with_item progress item ≡ Err kind → with_items progress (item ∷ items) ≡ Err kind
unfolding with_items
items_stop progress kind item items is = ap (chained (λ p. with_items p items)) is

pub items_end : (progress : Progress) (items : List Item) → items ≡ [] → with_items progress items ≡ Ok progress
unfolding with_items
items_end progress items none = ap (with_items progress) none

pub items_refuse : (progress start : Progress) (item : Item) (items rest all : List Item) (refusal : LineRefusal) → rest ≡ item ∷ items → with_items progress rest ≡ with_items start all → RefusesLine (with_item progress item) refusal → RefusesLine (with_items start all) refusal
items_refuse progress start item items rest all (Fault kind) are same is = sym same ∙ ap (with_items progress) are ∙ items_stop progress kind item items is
items_refuse progress start item items rest all NoMemory are same is = tt

pub lines_go_on : (before : ℕ) (progress more : Progress) (text : List ℕ) (below lines : List (List ℕ)) → lines ≡ text ∷ below → with_line (before + 1) progress text ≡ Ok more → with_lines before progress lines ≡ with_lines (before + 1) more below
unfolding with_lines
lines_go_on before progress more text below lines are is =
    ap (with_lines before progress) are ∙ ap (λ r. chained (λ p. with_lines (before + 1) p below) (on_line (before + 1) r)) is

pub lines_stop : (before : ℕ) (progress : Progress) (kind : FaultKind) (text : List ℕ) (below lines : List (List ℕ)) → lines ≡ text ∷ below → with_line (before + 1) progress text ≡ Err kind → with_lines before progress lines ≡ Err (record { line = before + 1; kind = kind })
unfolding with_lines
lines_stop before progress kind text below lines are is =
    ap (with_lines before progress) are ∙ ap (λ r. chained (λ p. with_lines (before + 1) p below) (on_line (before + 1) r)) is

pub lines_refuse : (before : ℕ) (progress : Progress) (all : Result Progress FaultAt) (text : List ℕ) (below lines : List (List ℕ)) (refusal : LineRefusal) → lines ≡ text ∷ below → with_lines before progress lines ≡ all → RefusesLine (with_line (before + 1) progress text) refusal → Fails all (error_on (before + 1) refusal)
lines_refuse before progress all text below lines (Fault kind) are same is = sym same ∙ lines_stop before progress kind text below lines are is
lines_refuse before progress all text below lines NoMemory are same is = tt

pub lines_end : (before : ℕ) (progress : Progress) (lines : List (List ℕ)) → lines ≡ [] → with_lines before progress lines ≡ Ok progress
unfolding with_lines
lines_end before progress lines none = ap (with_lines before progress) none
