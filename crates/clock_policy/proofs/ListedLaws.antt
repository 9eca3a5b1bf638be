-- What a look-up finds stands in the list.
use Rattle.std.specs.Prelude.{◌≡◌, ℕ, suc, ◌<◌, Bool, true, false, ◌||◌, cond, Some, is_some, option_map, find, List, [], ◌∷◌, take, drop, length, refl}
use Rattle.std.specs.List.{list_any}
use Rattle.std.proofs.Common.{arith, sym, ap, ◌∙◌}
use Rattle.std.proofs.lemmas.List.{take-append-drop}
use Rattle.std.proofs.lemmas.List.Folds.{list_any-append}
use Rattle.std.proofs.Math.Bool.{or-true, or_comm}
use Rattle.clock_policy.specs.declared.key.Key.{Key}
use Rattle.clock_policy.specs.declared.entry.Entry.{Entry}
use Rattle.clock_policy.specs.ClockPro.{ClockState, has_key, place, place_of, place_of, round, is_hot, is_cold, asks_hot, asked_entry, kind_of}

pub has_key_refl : (e : Entry) → has_key e.key e ≡ true
has_key_refl e = grind arith

-- where an entry has the key, its place is within the list
pub place_within : (k : Key) (l : List Entry) → list_any (has_key k) l ≡ true → place k l < length l
place_within k [] h = cc
place_within k (e ∷ es) h =
    elim (has_key k e) as (λ t. t || list_any (has_key k) es ≡ true → cond t 0 (suc (place k es)) < suc (length es)) [
      | true ↦ λ _. omega arith
      | false ↦ λ g. omega (arith, place_within k es g)
    ] h

pub found_any : (p : Entry → Bool) (l : List Entry) (x : Entry) → find p l ≡ Some x → list_any (has_key x.key) l ≡ true
found_any p [] x h = cc
found_any p (e ∷ es) x h =
    elim (p e) as (λ t. cond t (Some e) (find p es) ≡ Some x → has_key x.key e || list_any (has_key x.key) es ≡ true) [
      | true ↦ λ g. let same : e ≡ x = cc in rw (← same) (rw (has_key_refl e) refl)
      | false ↦ λ g. rw (found_any p es x g) (or-true (has_key x.key e))
    ] h

pub list_any-round : (q : Entry → Bool) (i : ℕ) (l : List Entry) → list_any q (round i l) ≡ list_any q l
list_any-round q i l =
    list_any-append q (drop i l) (take i l)
    ∙ or_comm (list_any q (drop i l)) (list_any q (take i l))
    ∙ sym (list_any-append q (take i l) (drop i l))
    ∙ ap (list_any q) (take-append-drop i l)

pub found_listed : (p : Entry → Bool) (l : List Entry) (x : Entry) → find p l ≡ Some x → place x.key l < length l
found_listed p l x h = place_within x.key l (found_any p l x h)

pub found_listed_round : (p : Entry → Bool) (i : ℕ) (l : List Entry) (x : Entry) → find p (round i l) ≡ Some x → place x.key l < length l
found_listed_round p i l x h = place_within x.key l (sym (list_any-round (has_key x.key) i l) ∙ found_any p (round i l) x h)

pub asked_listed : (s : ClockState) (x : Entry) → asked_entry s ≡ Some x → place x.key s.entries < length s.entries
unfolding asked_entry
asked_listed s x h =
    elim (asks_hot s) as (λ t. cond t (find (λ e. is_hot e.kind) s.entries) (find (λ e. is_cold e.kind) (round (place_of s.cold_hand s.entries) s.entries)) ≡ Some x → place x.key s.entries < length s.entries) [
      | true ↦ λ g. found_listed (λ e. is_hot e.kind) s.entries x g
      | false ↦ λ g. found_listed_round (λ e. is_cold e.kind) (place_of s.cold_hand s.entries) s.entries x g
    ] h

pub kind_listed : (k : Key) (l : List Entry) → is_some (kind_of k l) ≡ true → place k l < length l
kind_listed k [] h = cc
kind_listed k (e ∷ es) h =
    elim (has_key k e) as (λ t. is_some (option_map (λ (x : Entry). x.kind) (cond t (Some e) (find (has_key k) es))) ≡ true → cond t 0 (suc (place k es)) < suc (length es)) [
      | true ↦ λ _. omega arith
      | false ↦ λ g. omega (arith, kind_listed k es g)
    ] h
