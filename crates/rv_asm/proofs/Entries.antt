-- The entry of a program, in the words of the relation.
use Rattle.std.proofs.Common.{◌≡◌, ℕ, ◌+◌, ◌<◌, List, ◌∷◌, ◌++◌, Bool, true, false, Option, Some, None, arith, refl, ap, ◌∙◌, subst}
use Rattle.std.specs.Prelude.{codes, nat_lt}
use Rattle.std.proofs.lemmas.Bool.Decides.{nat_tests}
use Rattle.asm_statements.specs.declared.section.Section.{Section}
use Rattle.asm_statements.specs.declared.section.Section.TheVariants.{Text, Data}
use Rattle.rv_asm.specs.declared.item.Item.{Item}
use Rattle.rv_asm.specs.declared.item.Item.TheVariants.{Label}
use Rattle.rv_asm.specs.declared.label_place.LabelPlace.{LabelPlace}
use Rattle.rv_asm.specs.Program.{size, label_place}
use Rattle.rv_asm.specs.Listing.{entry_point_if, entry_point_in, entry_point_at, entry_point_of}
use Rattle.rv_asm.specs.Assembly.{DistinctLabels, EntersAt}
use Rattle.rv_asm.proofs.LabelLaws.{label_found_at}
use Rattle.rv_asm.proofs.OneFault.{place_label}

pub enters : (items : List Item) (entry : ℕ) → DistinctLabels items → entry ≡ entry_point_of items → EntersAt items entry
unfolding entry_point_of
enters items entry d is = record { labelled = at_label; unlabelled = λ none. is ∙ by_place none (label_place items (codes "_start")) refl }
  where
    at_label : (front back : List Item) → items ≡ front ++ Label Text (codes "_start") ∷ back → size Text front < size Text items → entry ≡ 0x10000 + size Text front
    at_label front back stands within =
        let place : label_place items (codes "_start") ≡ Some (record { section = Text; offset = size Text front }) = ap (λ l. label_place l (codes "_start")) stands ∙ place_label front back Text (codes "_start") (subst DistinctLabels stands d) in
        let below : nat_lt (size Text front) (size Text items) ≡ true = grind (arith, nat_tests) in
        is ∙ ap (entry_point_at (size Text items)) place ∙ ap (λ b. entry_point_if b (size Text front)) below

    by_test : (place : LabelPlace) → place.section ≡ Text → label_place items (codes "_start") ≡ Some place → ((front back : List Item) → items ≡ front ++ Label Text (codes "_start") ∷ back → size Text front < size Text items → ⊥) → (b : Bool) → nat_lt place.offset (size Text items) ≡ b → entry_point_if b place.offset ≡ 0x10000
    by_test place text at none false e = refl
    by_test place text at none true e =
        let r = label_found_at items (codes "_start") place at in
        let below : place.offset < size Text items = grind (arith, nat_tests) in
        let offset : place.offset ≡ size Text r.0 = r.1.1.1 ∙ ap (λ s. size s r.0) text in
        absurd (none r.0 r.1.0 (r.1.1.0 ∙ (λ i. r.0 ++ Label (text i) (codes "_start") ∷ r.1.0)) (omega arith))

    by_section : (place : LabelPlace) (section : Section) → place.section ≡ section → label_place items (codes "_start") ≡ Some place → ((front back : List Item) → items ≡ front ++ Label Text (codes "_start") ∷ back → size Text front < size Text items → ⊥) → entry_point_in (size Text items) section place.offset ≡ 0x10000
    by_section place Text is at none = by_test place is at none (nat_lt place.offset (size Text items)) refl
    by_section place Data is at none = refl

    by_place : ((front back : List Item) → items ≡ front ++ Label Text (codes "_start") ∷ back → size Text front < size Text items → ⊥) → (found : Option LabelPlace) → label_place items (codes "_start") ≡ found → entry_point_at (size Text items) found ≡ 0x10000
    by_place none None at = refl
    by_place none (Some place) at = by_section place place.section refl at none
