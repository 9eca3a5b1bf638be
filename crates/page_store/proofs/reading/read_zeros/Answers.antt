use Rattle.std.proofs.Common.{ℕ, Option, Some, None, ◌≡◌, ◌∙◌, ap}
use Rattle.page_store.proofs.PartLaws.{some_zeros}
use Rattle.page_store.proofs.reading.read_zeros.Goals as goal

-- a clone of an option, told by cases
by_option : (x : Option ℕ) (C : Option ℕ → Type 0) → (C None → None ≡ x) → ((b : ℕ) → C (Some b) → Some b ≡ x) → (y : Option ℕ) → C y → y ≡ x
by_option x C none some None h = none h
by_option x C none some (Some b) h = some b h

pub returns : goal.returns
returns c = c.fill.ensures.after (by_option _ _ (λ h. absurd h) (λ b h. ap Some h)) ∙ some_zeros c.args.offset _ c.requires
