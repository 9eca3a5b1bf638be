-- What a slot that is filled or emptied, and a map beside the slots, tell of pages.
use Rattle.std.specs.Prelude.{◌≡◌, ℕ, ◌⊎◌, Bool, true, false, cond, Option, Some, None, refl}
use Rattle.std.specs.Option.{option_or}
use Rattle.std.proofs.Common.{arith, sym, ap, ◌∙◌, inl, inr}
use Rattle.std.proofs.lemmas.Bool.Decides.{nat_tests}
use Rattle.clock_policy.specs.declared.key.Key.{Key}
use Rattle.clock_policy.proofs.AdmitLaws.{one_key}
use Rattle.page_ring.specs.Slots.{same_key}

pub keys_same : (k q : Key) → same_key k q ≡ true → k ≡ q
keys_same k q h = one_key k q (parts k q h).0 (parts k q h).1
  where
    parts : (k q : Key) → same_key k q ≡ true → (k.process ≡ q.process) × (k.vpn ≡ q.vpn)
    parts k q h = grind (arith, nat_tests)

-- Look-ups f and g, one after the other.

-- a page gets a value, or loses it
abbrev pub Puts : (Key → Option ℕ) → (Key → Option ℕ) → Key → Option ℕ → Type 0
Puts f h key w = (k : Key) → h k ≡ cond (same_key key k) w (f k)

abbrev pub Alone : (Key → Option ℕ) → (Key → Option ℕ) → Type 0
Alone f g = (k : Key) → f k ≡ None ⊎ g k ≡ None

first_none : (a b : Option ℕ) → option_or a b ≡ None → a ≡ None
first_none None b h = refl
first_none (Some n) b h = cc

pub put_second_alone : (f g h : Key → Option ℕ) (key : Key) (n : ℕ) → Puts g h key (Some n) → option_or (f key) (g key) ≡ None → Alone f g → Alone f h
put_second_alone f g h key n put none alone k =
    elim (same_key key k) as (λ t. same_key key k ≡ t → f k ≡ None ⊎ h k ≡ None) [
      | true ↦ λ is. inl (ap f (sym (keys_same key k is)) ∙ first_none (f key) (g key) none)
      | false ↦ λ is. elim (alone k) as (λ _. f k ≡ None ⊎ h k ≡ None) [ inl e ↦ inl e | inr e ↦ inr (put k ∙ ap (λ (t : Bool). cond t (Some n) (g k)) is ∙ e) ]
    ] refl

cond_none : (t : Bool) (a : Option ℕ) → a ≡ None → cond t None a ≡ None
cond_none true a h = refl
cond_none false a h = h

pub take_second_alone : (f g h : Key → Option ℕ) (key : Key) → Puts g h key None → Alone f g → Alone f h
take_second_alone f g h key put alone k = elim (alone k) as (λ _. f k ≡ None ⊎ h k ≡ None) [ inl e ↦ inl e | inr e ↦ inr (put k ∙ cond_none (same_key key k) (g k) e) ]

-- A slot that is filled or emptied.
