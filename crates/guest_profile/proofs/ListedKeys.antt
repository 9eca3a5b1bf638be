-- The keys of maps.
use Rattle.std.proofs.Common.{◌≡◌, ℕ, suc, Bool, true, false, ◌||◌, cond, List, [], ◌∷◌, length, nat_eq, is_some, Some, None, refl, sym, ap, ◌∙◌, arith}
use Rattle.std.specs.List.{IsDistinct, AllByRecursion, list_any, filter}
use Rattle.std.specs.List.Sorted.{IsPermutation}
use Rattle.std.specs.Map.{lookup, keys_of, values_of}
use Rattle.std.proofs.lemmas.List.{length-map}
use Rattle.std.proofs.lemmas.Option.{none-some}
use Rattle.std.specs.Cmp.{nat_eq_equiv}
use Rattle.std.proofs.lemmas.List.Sorted.{list_any-IsPermutation}
use Rattle.std.proofs.lemmas.Map.Keys.{IsDistinct-IsPermutation, IsDistinct-head, IsDistinct-tail}
use Rattle.std.proofs.lemmas.Map.Made.{is_some-lookup, IsDistinct-keys_filter}
use Rattle.guest_profile.specs.Listed.{AreAll, AreSoMany}
use Rattle.guest_profile.specs.Pages.{is_stored_to}

-- those that stand in another order
pub moved : {K : Type 0} (eq : K → K → Bool) (flips : (x y : K) → eq x y ≡ eq y x) (test : K → Bool) (xs ys : List K) → IsPermutation xs ys → AreAll eq test xs → AreAll eq test ys
moved eq flips test xs ys moves all = record {
  each_once = IsDistinct-IsPermutation eq flips xs ys moves all.each_once;
  all = λ key. sym (list_any-IsPermutation (eq key) xs ys moves) ∙ all.all key;
}

-- all keys of entries
pub all_keys : {K X : Type 0} (eq : K → K → Bool) (entries : List (K × X)) → IsDistinct eq (keys_of entries) → AreAll eq (λ key. is_some (lookup (eq key) entries)) (keys_of entries)
all_keys eq entries apart = record { each_once = apart; all = λ key. sym (is_some-lookup (eq key) entries) }

pub keys_many : {K X : Type 0} (eq : K → K → Bool) (entries : List (K × X)) (count : ℕ) → count ≡ length entries → IsDistinct eq (keys_of entries) → AreSoMany eq (λ key. is_some (lookup (eq key) entries)) count
keys_many eq entries count is apart = record { listed = keys_of entries; are_all = all_keys eq entries apart; many = length-map entries (λ e. e.0) ∙ sym is }

-- no entry, no key
pub none_found : {X : Type 0} (entries : List (ℕ × X)) → length entries ≡ 0 → (key : ℕ) → lookup (nat_eq key) entries ≡ None
none_found [] none key = refl
none_found (one ∷ others) none key = absurd (omega arith)

pub none_there : {X : Type 0} (entries : List (ℕ × X)) → ((key : ℕ) → lookup (nat_eq key) entries ≡ None) → length entries ≡ 0
none_there [] none = refl
none_there (one ∷ others) none = absurd (none-some one.1 (sym (none one.0) ∙ ap (λ b. cond b (Some one.1) (lookup (nat_eq one.0) others)) (nat_eq_equiv.refl one.0)))

-- the keys that are true
not_there : (entries : List (ℕ × Bool)) (key other : ℕ) → AllByRecursion (λ y. nat_eq other y ≡ false) (keys_of entries) → nat_eq key other ≡ true → lookup (nat_eq key) entries ≡ None
not_there [] key other apart same = refl
not_there (one ∷ others) key other apart same =
    ap (λ b. cond b (Some one.1) (lookup (nat_eq key) others)) (nat_eq_equiv.congr key other one.0 same ∙ apart.0)
    ∙ not_there others key other apart.1 same

true_keys : (entries : List (ℕ × Bool)) (key : ℕ) → IsDistinct nat_eq (keys_of entries) → list_any (nat_eq key) (keys_of (filter (λ e. e.1) entries)) ≡ is_stored_to (lookup (nat_eq key) entries)
true_keys [] key apart = refl
true_keys (one ∷ others) key apart =
    choose one.1 (nat_eq key one.0) refl (true_keys others key (IsDistinct-tail nat_eq one.0 (keys_of others) apart)) (not_there others key one.0 (IsDistinct-head nat_eq one.0 (keys_of others) apart))
  where
    choose : (stored same : Bool) → nat_eq key one.0 ≡ same → list_any (nat_eq key) (keys_of (filter (λ (e : ℕ × Bool). e.1) others)) ≡ is_stored_to (lookup (nat_eq key) others) → (nat_eq key one.0 ≡ true → lookup (nat_eq key) others ≡ None)
        → list_any (nat_eq key) (keys_of (cond stored (one ∷ filter (λ (e : ℕ × Bool). e.1) others) (filter (λ (e : ℕ × Bool). e.1) others))) ≡ is_stored_to (cond same (Some stored) (lookup (nat_eq key) others))
    choose true true e rest none = ap (λ b. b || list_any (nat_eq key) (keys_of (filter (λ (e : ℕ × Bool). e.1) others))) e
    choose true false e rest none = ap (λ b. b || list_any (nat_eq key) (keys_of (filter (λ (e : ℕ × Bool). e.1) others))) e ∙ rest
    choose false true e rest none = rest ∙ ap is_stored_to (none e)
    choose false false e rest none = rest

pub true_many : (entries : List (ℕ × Bool)) (count : ℕ) → count ≡ length (filter (λ b. b) (values_of entries)) → IsDistinct nat_eq (keys_of entries) → AreSoMany nat_eq (λ key. is_stored_to (lookup (nat_eq key) entries)) count
true_many entries count is apart = record {
  listed = keys_of (filter (λ e. e.1) entries);
  are_all = record {
    each_once = IsDistinct-keys_filter nat_eq (λ e. e.1) entries apart;
    all = λ key. true_keys entries key apart;
  };
  many = length-map (filter (λ e. e.1) entries) (λ e. e.0) ∙ sizes entries ∙ sym is;
}
  where
    sizes : (es : List (ℕ × Bool)) → length (filter (λ (e : ℕ × Bool). e.1) es) ≡ length (filter (λ b. b) (values_of es))
    sizes [] = refl
    sizes (e ∷ es) = choose e.1 (sizes es)
      where
        choose : (b : Bool) → length (filter (λ (e : ℕ × Bool). e.1) es) ≡ length (filter (λ b. b) (values_of es))
            → length (cond b (e ∷ filter (λ (e : ℕ × Bool). e.1) es) (filter (λ (e : ℕ × Bool). e.1) es)) ≡ length (cond b (e.1 ∷ filter (λ b. b) (values_of es)) (filter (λ b. b) (values_of es)))
        choose true same = ap suc same
        choose false same = same
