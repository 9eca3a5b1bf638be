-- A name up to its first point, and behind it.
use Rattle.std.proofs.Common.{◌≡◌, ℕ, ◌+◌, ◌-◌, ◌≤◌, List, [], Bool, true, false, Some, None, cond, nat_lt, length, take, drop, arith, refl, sym, ap, ◌∙◌}
use Rattle.std.specs.List.{position, position_or_len, before_first, after_first}
use Rattle.std.proofs.lemmas.Option.{cond_some}
use Rattle.std.proofs.lemmas.List.{take_all, drop_all}
use Rattle.std.proofs.lemmas.Bool.{ltb-false}
use Rattle.std.proofs.lemmas.Slice.{between_to_end}
use Rattle.asm_statements.specs.Mnemonics.{is_point}

none_past : (b : Bool) (n : ℕ) → cond b (Some n) None ≡ None → b ≡ false
none_past true n is = cc
none_past false n is = refl

pub stem_before_point : (name : List ℕ) (point : ℕ) → position is_point name ≡ Some point
    → before_first is_point name ≡ take point name
stem_before_point name point is =
    let parts = cond_some (nat_lt (position_or_len is_point name) (length name)) (position_or_len is_point name) point is in
    ap (λ n. take n name) parts.1

pub suffix_after_point : (name : List ℕ) (point : ℕ) → position is_point name ≡ Some point
    → after_first is_point name ≡ take (length name - (point + 1)) (drop (point + 1) name)
suffix_after_point name point is =
    let parts = cond_some (nat_lt (position_or_len is_point name) (length name)) (position_or_len is_point name) point is in
    ap (λ n. drop (n + 1) name) parts.1 ∙ sym (between_to_end name (point + 1) (length name) (omega arith))

past_end : (name : List ℕ) → position is_point name ≡ None → length name ≤ position_or_len is_point name
past_end name is =
    ltb-false (position_or_len is_point name) (length name)
    (none_past (nat_lt (position_or_len is_point name) (length name)) (position_or_len is_point name) is)

pub stem_with_no_point : (name : List ℕ) → position is_point name ≡ None → before_first is_point name ≡ name
stem_with_no_point name is = take_all (position_or_len is_point name) name (past_end name is)

pub suffix_with_no_point : (name : List ℕ) → position is_point name ≡ None → after_first is_point name ≡ []
suffix_with_no_point name is =
    let past : length name ≤ position_or_len is_point name = past_end name is in
    drop_all (position_or_len is_point name + 1) name (omega arith)
