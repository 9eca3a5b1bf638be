-- Sizes and places of a program that grows by one item.
use Rattle.std.proofs.Common.{◌≡◌, ℕ, ◌+◌, ◌≤◌, List, [], ◌∷◌, ◌++◌, Bool, true, false, cond, Option, Some, None, arith, refl, sym, ap, ◌∙◌, subst, zero-add, add-zero}
use Rattle.std.specs.Prelude.{IfSome}
use Rattle.std.specs.Str.{bytes_eq}
use Rattle.std.specs.HashMap as hash
use Rattle.std.specs.HashMap.{HashMap}
use denote.Ref.{Bor}
use Rattle.std.proofs.lemmas.Slice.Eq.{bytes_eq-Decides}
use Rattle.std.proofs.lemmas.Map.Text.{hash_map_updates_str}
use Rattle.asm_statements.specs.declared.section.Section.{Section}
use Rattle.asm_statements.specs.declared.section.Section.TheVariants.{Text, Data}
use Rattle.rv_asm.specs.declared.item.Item.{Item}
use Rattle.rv_asm.specs.declared.item.Item.TheVariants.{Label}
use Rattle.rv_asm.specs.declared.label_place.LabelPlace.{LabelPlace}
use Rattle.rv_asm.specs.Program.{size, item_length, section_of_label, place_from, label_place}
use Rattle.rv_asm.specs.Counted.{IsCounted}

pub size_append : (section : Section) (items more : List Item) → size section (items ++ more) ≡ size section items + size section more
unfolding size
size_append section [] more = sym (zero-add (size section more))
size_append section (item ∷ items) more = omega (arith, size_append section items more)

pub size_push : (section : Section) (items : List Item) (item : Item) → size section (items ++ item ∷ []) ≡ size section items + item_length section item
unfolding size
size_push section items item = size_append section items (item ∷ []) ∙ ap (λ n. size section items + n) (add-zero (item_length section item))

-- an item that is no label of the name leaves its place
pub past_item : (items : List Item) (item : Item) (name : List ℕ) → section_of_label name item ≡ None → label_place (items ++ item ∷ []) name ≡ label_place items name
unfolding label_place
past_item [] item name none = rw none refl
past_item (first ∷ items) item name none = ap (place_from first (section_of_label name first)) (past_item items item name none)

bytes_same : (name : List ℕ) → bytes_eq name name ≡ true
bytes_same name = (bytes_eq-Decides name name).1 refl

-- a name that does not stand yet has its first place at the end
pub at_end : (items : List Item) (section : Section) (name : List ℕ) → label_place items name ≡ None → label_place (items ++ Label section name ∷ []) name ≡ Some (record { section = section; offset = size section items })
unfolding label_place size
at_end [] section name none = rw (bytes_same name) refl
at_end (first ∷ items) section name none = by_first (section_of_label name first) (label_place items name) (label_place (items ++ Label section name ∷ []) name) (at_end items section name) none
  where
    by_first : (here : Option Section) (below after : Option LabelPlace) → (below ≡ None → after ≡ Some (record { section = section; offset = size section items })) → place_from first here below ≡ None → place_from first here after ≡ Some (record { section = section; offset = item_length section first + size section items })
    by_first (Some other) below after then none = cc
    by_first None (Some place) after then none = cc
    by_first None None after then none = rw (then refl) refl

pub place_at_label : (items : List Item) (section : Section) (name other : List ℕ) → label_place items name ≡ None → label_place (items ++ Label section name ∷ []) other ≡ cond (bytes_eq name other) (Some (record { section = section; offset = size section items })) (label_place items other)
place_at_label items section name other none = by_test (bytes_eq name other) refl
  where
    by_test : (b : Bool) → bytes_eq name other ≡ b → label_place (items ++ Label section name ∷ []) other ≡ cond b (Some (record { section = section; offset = size section items })) (label_place items other)
    by_test true same = subst (λ q. label_place (items ++ Label section name ∷ []) q ≡ Some (record { section = section; offset = size section items })) ((bytes_eq-Decides name other).0 same) (at_end items section name none)
    by_test false differs = past_item items (Label section name) other (rw differs refl)

-- the map with the name of a new label
pub label_kept : {S : Type 0} (items : List Item) (section : Section) (name : List ℕ) (old new : HashMap (Bor (List ℕ)) LabelPlace S) (offset : ℕ) → ((q : List ℕ) → hash.get_by (λ k. bytes_eq q k.now) old ≡ label_place items q) → label_place items name ≡ None → offset ≡ size section items → hash.UpdatesBy (λ x y. bytes_eq x.now y.now) (λ k. bytes_eq name k.now) old new (Some (record { section = section; offset = offset })) → (q : List ℕ) → hash.get_by (λ k. bytes_eq q k.now) new ≡ label_place (items ++ Label section name ∷ []) q
label_kept items section name old new offset known none end updates q =
    hash_map_updates_str name old new _ updates q
    ∙ ap (cond (bytes_eq name q) (Some (record { section = section; offset = offset }))) (known q)
    ∙ ap (λ n. cond (bytes_eq name q) (Some (record { section = section; offset = n })) (label_place items q)) end
    ∙ sym (place_at_label items section name q none)

pub counted_none : {S : Type 0} (items : List Item) (places : HashMap (Bor (List ℕ)) LabelPlace S) → items ≡ [] → places.entries ≡ [] → IsCounted items places 0 0
unfolding label_place size
counted_none items places none empty = record {
  text_size = rw none refl;
  data_size = rw none refl;
  text_fits = omega arith;
  data_fits = omega arith;
  names = λ name. rw (none, empty) refl;
}

pub counted_label : {S : Type 0} (items more : List Item) (section : Section) (name key : List ℕ) (old new : HashMap (Bor (List ℕ)) LabelPlace S) (text bytes : ℕ) (place : LabelPlace) → IsCounted items old text bytes → label_place items name ≡ None → place ≡ record { section = section; offset = size section items } → key ≡ name → hash.UpdatesBy (λ x y. bytes_eq x.now y.now) (λ k. bytes_eq key k.now) old new (Some place) → more ≡ items ++ Label section name ∷ [] → IsCounted more new text bytes
unfolding size
counted_label items more section name key old new text bytes place counted none at same updates is = record {
  text_size = counted.text_size ∙ sym (ap (size Text) is ∙ size_push Text items (Label section name) ∙ add-zero (size Text items));
  data_size = counted.data_size ∙ sym (ap (size Data) is ∙ size_push Data items (Label section name) ∙ add-zero (size Data items));
  text_fits = counted.text_fits;
  data_fits = counted.data_fits;
  names = λ q. label_kept items section name old new (size section items) counted.names none refl (subst (λ p. hash.UpdatesBy (λ x y. bytes_eq x.now y.now) (λ k. bytes_eq name k.now) old new (Some p)) at (subst (λ q. hash.UpdatesBy (λ x y. bytes_eq x.now y.now) (λ k. bytes_eq q k.now) old new (Some place)) same updates)) q ∙ ap (λ l. label_place l q) (sym is);
}

pub counted_item : {S : Type 0} (items more : List Item) (item : Item) (places : HashMap (Bor (List ℕ)) LabelPlace S) (text bytes t d : ℕ) → IsCounted items places text bytes → ((name : List ℕ) → section_of_label name item ≡ None) → more ≡ items ++ item ∷ [] → t ≡ item_length Text item → d ≡ item_length Data item → text + t ≤ 262144 → bytes + d ≤ 1048576 → IsCounted more places (text + t) (bytes + d)
counted_item items more item places text bytes t d counted part is is_t is_d text_fits data_fits = record {
  text_size = (λ i. counted.text_size i + is_t i) ∙ sym (ap (size Text) is ∙ size_push Text items item);
  data_size = (λ i. counted.data_size i + is_d i) ∙ sym (ap (size Data) is ∙ size_push Data items item);
  text_fits = text_fits;
  data_fits = data_fits;
  names = λ q. counted.names q ∙ sym (ap (λ l. label_place l q) is ∙ past_item items item q (part q));
}

-- a label stands in its section or at its end
pub label_place_within : (items : List Item) (name : List ℕ) (place : LabelPlace) → label_place items name ≡ Some place → place.offset ≤ size place.section items
unfolding label_place size
label_place_within [] name place is = cc
label_place_within (first ∷ items) name place is = by_first (section_of_label name first) (label_place items name) (label_place_within items name) is
  where
    by_first : (here : Option Section) (below : Option LabelPlace) → ((p : LabelPlace) → below ≡ Some p → p.offset ≤ size p.section items) → place_from first here below ≡ Some place → place.offset ≤ item_length place.section first + size place.section items
    by_first (Some other) below within is = let none : place.offset ≡ 0 = cc in omega arith
    by_first None None within is = cc
    by_first None (Some p) within is =
        let low = within p refl in
        subst (λ (q : Option LabelPlace). IfSome q (λ q. q.offset ≤ item_length q.section first + size q.section items)) is (omega arith)

size_low : {S : Type 0} (items : List Item) (places : HashMap (Bor (List ℕ)) LabelPlace S) (text bytes : ℕ) (section : Section) → IsCounted items places text bytes → size section items ≤ 1048576
size_low items places text bytes Text counted = let t = counted.text_size in let f = counted.text_fits in omega arith
size_low items places text bytes Data counted = let t = counted.data_size in let f = counted.data_fits in omega arith

pub place_low : {S : Type 0} (items : List Item) (places : HashMap (Bor (List ℕ)) LabelPlace S) (text bytes : ℕ) (name : List ℕ) (found : Option LabelPlace) → IsCounted items places text bytes → found ≡ label_place items name → IfSome found (λ place. place.offset ≤ 1048576)
place_low items places text bytes name None counted is = tt
place_low items places text bytes name (Some place) counted is = let low = label_place_within items name place (sym is) in let s = size_low items places text bytes place.section counted in omega arith
