-- Slots of zeros, made one after another.
use Rattle.std.proofs.Common.{◌≡◌, ◌∙◌, ◌≤◌, ◌+◌, ◌++◌, ◌∷◌, ℕ, List, [], ap, arith, length, length-append, replicate, sym}
use Rattle.std.proofs.lemmas.List.{replicate_more}
use Rattle.swap_slots.specs.Slot.{zero_content}

pub one_more : (items new : List (List ℕ)) → items ≡ replicate (length items) zero_content → new ≡ items ++ zero_content ∷ []
    → new ≡ replicate (length new) zero_content
one_more items new all e =
    let grown : length new ≡ length items + 1 = omega (arith, ap length e, length-append items (zero_content ∷ [])) in
    e ∙ ap (λ l. l ++ zero_content ∷ []) all ∙ replicate_more (length items) zero_content ∙ ap (λ n. replicate n zero_content) (sym grown)

pub as_many : (items : List (List ℕ)) (n : ℕ) → items ≡ replicate (length items) zero_content → length items ≤ n → n ≤ length items
    → items ≡ replicate n zero_content
as_many items n all most least =
    let same : length items ≡ n = omega (arith, most, least) in
    all ∙ ap (λ k. replicate k zero_content) same
