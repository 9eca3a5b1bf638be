-- Where labels stand, and that none stands twice.
use Rattle.std.proofs.Common.{◌≡◌, ℕ, ◌+◌, List, [], ◌∷◌, ◌++◌, Bool, true, false, Option, Some, None, refl, sym, ap, ◌∙◌}
use Rattle.std.specs.Prelude.{option_map, if◌then◌else◌}
use Rattle.std.specs.Str.{bytes_eq}
use Rattle.std.proofs.lemmas.Slice.Eq.{bytes_eq-Decides}
use Rattle.std.proofs.lemmas.Bool.{false≢true}
use Rattle.asm_statements.specs.declared.section.Section.{Section}
use Rattle.rv_asm.specs.declared.item.Item.{Item}
use Rattle.rv_asm.specs.declared.item.Item.TheVariants.{Label, InText, InData}
use Rattle.rv_asm.specs.declared.label_place.LabelPlace.{LabelPlace}
use Rattle.rv_asm.specs.Program.{size, item_length, section_of_label, place_from, label_place, section_start, address_of}
use Rattle.rv_asm.specs.Assembly.{Lacks, HasAddress}

none_below : (item : Item) (below : Option LabelPlace) → place_from item None below ≡ None → below ≡ None
none_below item None is = refl
none_below item (Some place) is = cc

-- a look-up that finds nothing
pub lacks_none : (items : List Item) (name : List ℕ) → label_place items name ≡ None → Lacks items name
unfolding label_place Lacks
lacks_none [] name is = tt
lacks_none (Label section other ∷ items) name is = by_test (bytes_eq other name) refl (label_place items name) (lacks_none items name) is
  where
    by_test : (b : Bool) → bytes_eq other name ≡ b → (below : Option LabelPlace) → (below ≡ None → Lacks items name) → place_from (Label section other) ((if b then Some section else None)) below ≡ None → (other ≡ name → ⊥) × Lacks items name
    by_test true same below rest is = cc
    by_test false differs None rest is = ((λ e. false≢true (sym differs ∙ (bytes_eq-Decides other name).1 e)), rest refl)
    by_test false differs (Some place) rest is = cc
lacks_none (InText line code ∷ items) name is = lacks_none items name (none_below (InText line code) (label_place items name) is)
lacks_none (InData line datum ∷ items) name is = lacks_none items name (none_below (InData line datum) (label_place items name) is)

pub none_from_lacks : (items : List Item) (name : List ℕ) → Lacks items name → label_place items name ≡ None
unfolding label_place Lacks
none_from_lacks [] name lacks = refl
none_from_lacks (Label section other ∷ items) name lacks = by_test (bytes_eq other name) refl (none_from_lacks items name lacks.1)
  where
    by_test : (b : Bool) → bytes_eq other name ≡ b → label_place items name ≡ None → place_from (Label section other) (if b then Some section else None) (label_place items name) ≡ None
    by_test true same none = absurd (lacks.0 ((bytes_eq-Decides other name).0 same))
    by_test false differs none = ap (place_from (Label section other) None) none
none_from_lacks (InText line code ∷ items) name lacks = ap (place_from (InText line code) None) (none_from_lacks items name lacks)
none_from_lacks (InData line datum ∷ items) name lacks = ap (place_from (InData line datum) None) (none_from_lacks items name lacks)

-- a label that is found has its address
pub label_found_at : (items : List Item) (name : List ℕ) (place : LabelPlace) → label_place items name ≡ Some place → (front : List Item) × ((back : List Item) × ((items ≡ front ++ Label place.section name ∷ back) × (place.offset ≡ size place.section front)))
unfolding label_place size
label_found_at [] name place is = cc
label_found_at (item ∷ items) name place is = by_here (section_of_label name item) refl (label_place items name) (label_found_at items name) is
  where
    by_item : (item : Item) (section : Section) → section_of_label name item ≡ Some section → item ≡ Label section name
    by_item (Label s other) section e = by_test (bytes_eq other name) refl e
      where
        by_test : (b : Bool) → bytes_eq other name ≡ b → (if b then Some s else None) ≡ Some section → Label s other ≡ Label section name
        by_test true same e = let n = (bytes_eq-Decides other name).0 same in cc
        by_test false differs e = cc
    by_item (InText line code) section e = cc
    by_item (InData line datum) section e = cc

    by_here : (here : Option Section) → section_of_label name item ≡ here → (below : Option LabelPlace) → ((p : LabelPlace) → below ≡ Some p → (front : List Item) × ((back : List Item) × ((items ≡ front ++ Label p.section name ∷ back) × (p.offset ≡ size p.section front)))) → place_from item here below ≡ Some place → (front : List Item) × ((back : List Item) × ((item ∷ items ≡ front ++ Label place.section name ∷ back) × (place.offset ≡ size place.section front)))
    by_here (Some section) e below rest is =
        let at : place ≡ record { section = section; offset = 0 } = cc in
        ([], (items, ((λ i. (by_item item section e ∙ (λ j. Label (sym at j).section name)) i ∷ items), ap (λ (p : LabelPlace). p.offset) at)))
    by_here None e None rest is = cc
    by_here None e (Some p) rest is =
        let at : place ≡ record { section = p.section; offset = item_length p.section item + p.offset } = cc in
        let r = rest p refl in (
          item ∷ r.0,
          (
            r.1.0,
            (
              (λ i. item ∷ (r.1.1.0 ∙ (λ j. r.0 ++ Label (sym at j).section name ∷ r.1.0)) i),
              ap (λ (q : LabelPlace). q.offset) at ∙ ap (λ n. item_length p.section item + n) r.1.1.1 ∙ (λ j. item_length (sym at j).section item + size (sym at j).section r.0),
            ),
          ),
        )

pub address_found : (items : List Item) (name : List ℕ) (address : ℕ) → address_of items name ≡ Some address → HasAddress items name address
unfolding address_of
address_found items name address is = by_place (label_place items name) refl is
  where
    by_place : (found : Option LabelPlace) → label_place items name ≡ found → option_map (λ place. section_start items place.section + place.offset) found ≡ Some address → HasAddress items name address
    by_place None e is = cc
    by_place (Some place) e is =
        let r = label_found_at items name place e in
        let a : address ≡ section_start items place.section + place.offset = cc in
        record { section = place.section; front = r.0; back = r.1.0; stands = r.1.1.0; is = a ∙ ap (λ n. section_start items place.section + n) r.1.1.1 }

pub no_address : (items : List Item) (name : List ℕ) → address_of items name ≡ None → Lacks items name
unfolding address_of
no_address items name is = lacks_none items name (by_place (label_place items name) is)
  where
    by_place : (found : Option LabelPlace) → option_map (λ place. section_start items place.section + place.offset) found ≡ None → found ≡ None
    by_place None is = refl
    by_place (Some place) is = cc
