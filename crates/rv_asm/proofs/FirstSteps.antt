-- What one label, one part and one line do to a program.
use Rattle.std.proofs.Common.{◌≡◌, ℕ, ◌+◌, ◌≤◌, ◌<◌, ◌⊎◌, inl, inr, List, [], ◌∷◌, ◌++◌, Bool, true, false, ◌&&◌, Option, Some, None, Ok, Err, arith, refl, sym, ap, ◌∙◌, subst}
use Rattle.std.specs.Prelude.{is_some, nat_le}
use Rattle.std.proofs.lemmas.Bool.Decides.{nat_tests}
use Rattle.asm_lines.specs.declared.fault.FaultKind.TheVariants.{LabelTwice, TooLong}
use Rattle.asm_statements.specs.declared.section.Section.{Section}
use Rattle.asm_statements.specs.declared.section.Section.TheVariants.{Text, Data}
use Rattle.rv_asm.specs.declared.item.Item.{Item}
use Rattle.rv_asm.specs.declared.item.Item.TheVariants.{Label}
use Rattle.rv_asm.specs.Program.{size, item_length, label_place}
use Rattle.rv_asm.specs.FirstPass.{Progress, with_label, with_item, if_fits, within_limits}
use Rattle.rv_asm.proofs.Places.{size_push}

pub label_twice : (progress : Progress) (name : List ℕ) → is_some (label_place progress.items name) ≡ true → with_label progress name ≡ Err LabelTwice
unfolding with_label
label_twice progress name there = rw there refl

pub label_new : (progress : Progress) (name : List ℕ) → is_some (label_place progress.items name) ≡ false → with_label progress name ≡ Ok (record progress { items = progress.items ++ Label progress.section name ∷ [] })
unfolding with_label
label_new progress name there = rw there refl

pub none_unless_some : {A : Type 0} (o : Option A) → is_some o ≡ false → o ≡ None
none_unless_some None e = refl
none_unless_some (Some x) e = cc

pub item_fits : (progress : Progress) (item : Item) (text bytes : ℕ) → text ≡ size Text progress.items → bytes ≡ size Data progress.items → text + item_length Text item ≤ 262144 → bytes + item_length Data item ≤ 1048576 → with_item progress item ≡ Ok (record progress { items = progress.items ++ item ∷ [] })
unfolding with_item
item_fits progress item text bytes is_text is_data text_fits data_fits =
    let t : nat_le (size Text (progress.items ++ item ∷ [])) 262144 ≡ true = let p = size_push Text progress.items item in grind (arith, nat_tests) in
    let d : nat_le (size Data (progress.items ++ item ∷ [])) 1048576 ≡ true = let p = size_push Data progress.items item in grind (arith, nat_tests) in
    rw (t, d) refl

pub item_too_long : (progress : Progress) (item : Item) (text bytes : ℕ) → text ≡ size Text progress.items → bytes ≡ size Data progress.items → (262144 < text + item_length Text item) ⊎ (1048576 < bytes + item_length Data item) → with_item progress item ≡ Err TooLong
unfolding with_item
item_too_long progress item text bytes is_text is_data (inl long) =
    let t : nat_le (size Text (progress.items ++ item ∷ [])) 262144 ≡ false = let p = size_push Text progress.items item in grind (arith, nat_tests) in
    rw t refl
item_too_long progress item text bytes is_text is_data (inr long) =
    let d : nat_le (size Data (progress.items ++ item ∷ [])) 1048576 ≡ false = let p = size_push Data progress.items item in grind (arith, nat_tests) in
    let e : within_limits (progress.items ++ item ∷ []) ≡ false = rw d (and_false (nat_le (size Text (progress.items ++ item ∷ [])) 262144)) in
    ap (λ b. if_fits b progress item) e
  where
    and_false : (b : Bool) → (b && false) ≡ false
    and_false true = refl
    and_false false = refl

pub label_added : (progress : Progress) (section : Section) (items more : List Item) (name : List ℕ) → record { section = section; items = items } ≡ progress → is_some (label_place progress.items name) ≡ false → more ≡ items ++ Label section name ∷ [] → with_label progress name ≡ Ok (record { section = section; items = more })
label_added progress section items more name view there is =
    let same : is_some (label_place items name) ≡ false = ap (λ (p : Progress). is_some (label_place p.items name)) view ∙ there in
    subst (λ p. with_label p name ≡ Ok (record { section = section; items = more })) view
    (label_new (record { section = section; items = items }) name same ∙ ap (λ l. Ok (record { section = section; items = l })) (sym is))

pub item_added : (progress : Progress) (section : Section) (items more : List Item) (item : Item) (text bytes t d : ℕ) → record { section = section; items = items } ≡ progress → text ≡ size Text items → bytes ≡ size Data items → t ≡ item_length Text item → d ≡ item_length Data item → text + t ≤ 262144 → bytes + d ≤ 1048576 → more ≡ items ++ item ∷ [] → with_item progress item ≡ Ok (record { section = section; items = more })
item_added progress section items more item text bytes t d view is_text is_data is_t is_d text_fits data_fits is =
    subst (λ p. with_item p item ≡ Ok (record { section = section; items = more })) view
    (item_fits (record { section = section; items = items }) item text bytes is_text is_data (omega arith) (omega arith) ∙ ap (λ l. Ok (record { section = section; items = l })) (sym is))

pub item_refused : (progress : Progress) (section : Section) (items : List Item) (item : Item) (text bytes t d : ℕ) → record { section = section; items = items } ≡ progress → text ≡ size Text items → bytes ≡ size Data items → t ≡ item_length Text item → d ≡ item_length Data item → (262144 < text + t) ⊎ (1048576 < bytes + d) → with_item progress item ≡ Err TooLong
item_refused progress section items item text bytes t d view is_text is_data is_t is_d (inl long) =
    subst (λ p. with_item p item ≡ Err TooLong) view (item_too_long (record { section = section; items = items }) item text bytes is_text is_data (inl (omega arith)))
item_refused progress section items item text bytes t d view is_text is_data is_t is_d (inr long) =
    subst (λ p. with_item p item ≡ Err TooLong) view (item_too_long (record { section = section; items = items }) item text bytes is_text is_data (inr (omega arith)))
