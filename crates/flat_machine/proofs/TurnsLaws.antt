-- How a schedule grows by instructions of one hart.
use Rattle.std.proofs.Common.{◌≡◌, ◌≢◌, ℕ, zero, suc, ◌+◌, ◌-◌, ◌*◌, ◌<◌, ◌≤◌, ◌^◌, List, [], ◌∷◌, ◌++◌, length, replicate, slice_set, slice_index_or, slice_get, Some, None, cond, arith, refl, sym, ap, ◌∙◌, append_assoc, append-nil, eq-eqb, ne_eqb, below_more, length-set, subst, inl, inr}
use Rattle.std.proofs.lemmas.Bool.Decides.{eqb_tells, leb_tells}
use Rattle.std.proofs.lemmas.Option.{slice_get_within, get_or_from_slice_get, slice_get-get_or, none-some}
use Rattle.std.proofs.lemmas.List.{get_or_append_left, get_or_default, get_or-set_same, get_or-set_other, length_push, replicate-append-replicate}
use Rattle.std.proofs.Math.Seq.{get_or-append_seam}
use Rattle.flat_machine.specs.declared.schedule.Turn.{Turn}
use Rattle.flat_machine.specs.Schedule.{written_out, rest_in, rest_in_last, room, IsJoined}

-- ---- what a turn and the last turn still take

rest_same : (turn : Turn) (hart : ℕ) → turn.hart ≡ hart → rest_in turn hart ≡ (2 ^ 32 - 1) - turn.count
rest_same turn hart e = ap (λ b. cond b ((2 ^ 32 - 1) - turn.count) 0) (eq-eqb turn.hart hart e)

rest_other : (turn : Turn) (hart : ℕ) → turn.hart ≢ hart → rest_in turn hart ≡ 0
rest_other turn hart e = ap (λ b. cond b ((2 ^ 32 - 1) - turn.count) 0) (ne_eqb turn.hart hart e)

-- a turn that takes some is the hart's
rest_of_hart : (turn : Turn) (hart : ℕ) → 0 < rest_in turn hart → (turn.hart ≡ hart) × (rest_in turn hart ≡ (2 ^ 32 - 1) - turn.count)
rest_of_hart turn hart some =
    elim (eqb_tells turn.hart hart) [
      | inl same ↦ (same.1, rest_same turn hart same.1)
      | inr other ↦ let none = rest_other turn hart other.1 in absurd (omega arith)
    ]

pub rest_at : (turns : List Turn) (hart : ℕ) (d : Turn) → 0 < length turns → rest_in_last turns hart ≡ rest_in (slice_index_or turns (length turns - 1) d) hart
unfolding rest_in_last
rest_at [] hart d some = absurd (omega arith)
rest_at (turn ∷ []) hart d some = refl
rest_at (turn ∷ (next ∷ turns)) hart d some =
    let at : length (turn ∷ (next ∷ turns)) - 1 ≡ suc (length (next ∷ turns) - 1) = omega arith in
    rest_at (next ∷ turns) hart d (omega arith) ∙ ap (λ k. rest_in (slice_index_or (turn ∷ (next ∷ turns)) k d) hart) (sym at)

pub rest_none : (turns : List Turn) (hart : ℕ) → length turns ≡ 0 → rest_in_last turns hart ≡ 0
unfolding rest_in_last
rest_none [] hart none = refl
rest_none (turn ∷ turns) hart none = absurd (omega arith)

-- where the last turn takes some, it is there, and the hart's
pub last_turn : (turns : List Turn) (hart : ℕ) (d : Turn) → 0 < rest_in_last turns hart
    → (0 < length turns) × ((slice_index_or turns (length turns - 1) d).hart ≡ hart) × (rest_in_last turns hart ≡ (2 ^ 32 - 1) - (slice_index_or turns (length turns - 1) d).count)
last_turn turns hart d some =
    elim (eqb_tells (length turns) 0) [
      | inl empty ↦ let none = rest_none turns hart empty.1 in absurd (omega arith)
      | inr filled ↦
          let there : 0 < length turns = let e = filled.1 in omega arith in
          let at = rest_at turns hart d there in
          let of = rest_of_hart (slice_index_or turns (length turns - 1) d) hart (omega (arith, at)) in
          (there, of.0, at ∙ of.1)
    ]

-- the last turn by its place
pub last_turn_at : (turns : List Turn) (last hart n : ℕ) (t : Turn) → last + 1 ≡ length turns → t ≡ slice_index_or turns last t → n ≤ rest_in_last turns hart → 0 < n
    → (t.hart ≡ hart) × (t.count + n ≤ 2 ^ 32 - 1)
last_turn_at turns last hart n t there at fit some =
    let facts = last_turn turns hart t (omega arith) in
    let index : length turns - 1 ≡ last = omega arith in
    let same : slice_index_or turns (length turns - 1) t ≡ t = ap (λ k. slice_index_or turns k t) index ∙ sym at in
    let count : rest_in_last turns hart ≡ (2 ^ 32 - 1) - t.count = facts.2 ∙ ap (λ (u : Turn). (2 ^ 32 - 1) - u.count) same in
    (ap (λ (u : Turn). u.hart) (sym same) ∙ facts.1, omega arith)

-- where it takes some, there is one
pub last_there : (turns : List Turn) (hart n : ℕ) → n ≤ rest_in_last turns hart → 0 < n → 0 < length turns
last_there turns hart n fit some = let facts = last_turn turns hart (record { hart = 0; count = 0 }) (omega arith) in facts.0

-- the same by a look-up of the last turn
pub rest_by_last : (turns : List Turn) (hart : ℕ) (t : Turn) → slice_get turns (length turns - 1) ≡ Some t → rest_in_last turns hart ≡ rest_in t hart
rest_by_last turns hart t e =
    let within = slice_get_within turns (length turns - 1) t e in
    rest_at turns hart t (omega arith) ∙ ap (λ (u : Turn). rest_in u hart) (get_or_from_slice_get turns (length turns - 1) t t e)

pub rest_by_same : (turns : List Turn) (hart : ℕ) (t : Turn) → slice_get turns (length turns - 1) ≡ Some t → t.hart ≡ hart → rest_in_last turns hart ≡ (2 ^ 32 - 1) - t.count
rest_by_same turns hart t e same = rest_by_last turns hart t e ∙ rest_same t hart same

pub rest_by_other : (turns : List Turn) (hart : ℕ) (t : Turn) → slice_get turns (length turns - 1) ≡ Some t → t.hart ≢ hart → rest_in_last turns hart ≡ 0
rest_by_other turns hart t e other = rest_by_last turns hart t e ∙ rest_other t hart other

pub rest_by_none : (turns : List Turn) (hart : ℕ) → slice_get turns (length turns - 1) ≡ None → rest_in_last turns hart ≡ 0
rest_by_none [] hart e = rest_none [] hart refl
rest_by_none (turn ∷ turns) hart e = absurd (none-some _ (sym e ∙ slice_get-get_or (turn ∷ turns) (length (turn ∷ turns) - 1) turn (omega arith)))

-- a new turn behind the others is the last one
pub rest_new : (turns : List Turn) (hart n : ℕ) → n ≤ 2 ^ 32 - 1 → rest_in_last (turns ++ record { hart = hart; count = n } ∷ []) hart + n ≡ 2 ^ 32 - 1
rest_new turns hart n h =
    let last : Turn = record { hart = hart; count = n } in
    let longer : length (turns ++ last ∷ []) ≡ length turns + 1 = length_push turns last in
    let at = rest_at (turns ++ last ∷ []) hart last (omega arith) in
    let index : length (turns ++ last ∷ []) - 1 ≡ length turns = omega arith in
    let is : rest_in_last (turns ++ last ∷ []) hart ≡ (2 ^ 32 - 1) - n =
    at ∙ ap (λ k. rest_in (slice_index_or (turns ++ last ∷ []) k last) hart) index ∙ ap (λ (u : Turn). rest_in u hart) (get_or-append_seam turns last [] last) ∙ rest_same last hart refl in
    omega arith

-- the last turn made longer takes so much less
pub rest_up : (turns : List Turn) (last hart n : ℕ) (t : Turn) → last + 1 ≡ length turns → t ≡ slice_index_or turns last t → t.hart ≡ hart → t.count + n ≤ 2 ^ 32 - 1
    → rest_in_last (slice_set turns last (record { hart = t.hart; count = t.count + n })) hart + n ≡ rest_in_last turns hart
rest_up turns last hart n t there at same h =
    let up : Turn = record { hart = t.hart; count = t.count + n } in
    let size : length (slice_set turns last up) ≡ length turns = length-set turns last up in
    let index : length (slice_set turns last up) - 1 ≡ last = omega arith in
    let index_before : length turns - 1 ≡ last = omega arith in
    let after : rest_in_last (slice_set turns last up) hart ≡ (2 ^ 32 - 1) - (t.count + n) =
    rest_at (slice_set turns last up) hart t (omega arith) ∙ ap (λ k. rest_in (slice_index_or (slice_set turns last up) k t) hart) index
    ∙ ap (λ (u : Turn). rest_in u hart) (get_or-set_same turns last up t (omega arith)) ∙ rest_same up hart same in
    let before : rest_in_last turns hart ≡ (2 ^ 32 - 1) - t.count =
    rest_at turns hart t (omega arith) ∙ ap (λ k. rest_in (slice_index_or turns k t) hart) index_before ∙ ap (λ (u : Turn). rest_in u hart) (sym at) ∙ rest_same t hart same in
    omega arith

-- the room goes by what the last turn takes and by how many entries there are
pub room_up : (old new : List Turn) (hart n : ℕ) → length new ≡ length old → rest_in_last new hart + n ≡ rest_in_last old hart → room new hart + n ≡ room old hart
unfolding room
room_up old new hart n same less = let k = ap (λ l. (2 ^ 32 - 1) * (1000000 - l)) same in omega arith

pub room_new : (old new : List Turn) (hart n : ℕ) → length old < 1000000 → length new ≡ length old + 1 → rest_in_last old hart ≡ 0 → rest_in_last new hart + n ≡ 2 ^ 32 - 1 → room new hart + n ≡ room old hart
unfolding room
room_new old new hart n few more none rest = omega arith

pub room_is : (turns : List Turn) (hart : ℕ) → room turns hart ≡ rest_in_last turns hart + (2 ^ 32 - 1) * (1000000 - length turns)
unfolding room
room_is turns hart = refl

-- ---- written out

-- the last turn made longer, it is written out with so many instructions more
pub written_up : (turns : List Turn) (last hart n : ℕ) (t d : Turn) → last + 1 ≡ length turns → t ≡ slice_index_or turns last d → t.hart ≡ hart
    → written_out (slice_set turns last (record { hart = t.hart; count = t.count + n })) ≡ written_out turns ++ replicate n hart
written_up [] last hart n t d at is same = absurd (omega arith)
written_up (turn ∷ []) zero hart n t d at is same =
    append-nil _ ∙ sym (replicate-append-replicate t.count n t.hart)
    ∙ (λ i. replicate (is i).count (is i).hart ++ replicate n (same i))
    ∙ ap (λ l. l ++ replicate n hart) (sym (append-nil (replicate turn.count turn.hart)))
written_up (turn ∷ []) (suc last) hart n t d at is same = absurd (omega arith)
written_up (turn ∷ (next ∷ turns)) zero hart n t d at is same = absurd (omega arith)
written_up (turn ∷ (next ∷ turns)) (suc last) hart n t d at is same =
    ap (λ l. replicate turn.count turn.hart ++ l) (written_up (next ∷ turns) last hart n t d (omega arith) is same)
    ∙ sym (append_assoc (replicate turn.count turn.hart) (written_out (next ∷ turns)) (replicate n hart))

-- a list with a new turn behind it is written out with its instructions
pub written_new : (turns : List Turn) (hart n : ℕ) → written_out (turns ++ record { hart = hart; count = n } ∷ []) ≡ written_out turns ++ replicate n hart
written_new [] hart n = append-nil (replicate n hart)
written_new (turn ∷ turns) hart n = ap (λ l. replicate turn.count turn.hart ++ l) (written_new turns hart n) ∙ sym (append_assoc (replicate turn.count turn.hart) (written_out turns) (replicate n hart))

-- ---- neighbours are joined

-- the last turn is as long as a turn can be, or is another hart's
full_turn : (turns : List Turn) (hart k : ℕ) (d : Turn) → k + 1 ≡ length turns → rest_in_last turns hart ≡ 0 → (slice_index_or turns k d).count ≤ 2 ^ 32 - 1 → (slice_index_or turns k d).hart ≡ hart → (slice_index_or turns k d).count ≡ 2 ^ 32 - 1
full_turn turns hart k d at none small same =
    let index : length turns - 1 ≡ k = omega arith in
    let rest : rest_in_last turns hart ≡ (2 ^ 32 - 1) - (slice_index_or turns k d).count =
    rest_at turns hart d (omega arith) ∙ ap (λ i. rest_in (slice_index_or turns i d) hart) index ∙ rest_same (slice_index_or turns k d) hart same in
    omega arith

-- a new turn
pub joined_more : (turns : List Turn) (hart n : ℕ) → IsJoined turns → rest_in_last turns hart ≡ 0 → length turns < 1000000 → 0 < n → n ≤ 2 ^ 32 - 1 → IsJoined (turns ++ record { hart = hart; count = n } ∷ [])
joined_more turns hart n is fresh few some most =
    let longer : length (turns ++ record { hart = hart; count = n } ∷ []) ≡ length turns + 1 = length_push turns (record { hart = hart; count = n }) in
    record {
      few = omega arith;
      small = λ k d h. below_more (λ i. (slice_index_or (turns ++ record { hart = hart; count = n } ∷ []) i d).count ≤ 2 ^ 32 - 1) (length turns)
          (λ i l. subst (λ (t : Turn). t.count ≤ 2 ^ 32 - 1) (sym (get_or_append_left turns _ d i l)) (is.small i d l))
          (subst (λ (t : Turn). t.count ≤ 2 ^ 32 - 1) (sym (get_or-append_seam turns (record { hart = hart; count = n }) [] d)) (omega arith)) k (omega arith);
      some = λ k d h. below_more (λ i. 0 < (slice_index_or (turns ++ record { hart = hart; count = n } ∷ []) i d).count) (length turns)
          (λ i l. subst (λ (t : Turn). 0 < t.count) (sym (get_or_append_left turns _ d i l)) (is.some i d l))
          (subst (λ (t : Turn). 0 < t.count) (sym (get_or-append_seam turns (record { hart = hart; count = n }) [] d)) (omega arith)) k (omega arith);
      joined = λ k d h same. joined_at k d (omega arith) same;
    }
  where
    joined_at : (k : ℕ) (d : Turn) → k < length turns → (slice_index_or (turns ++ record { hart = hart; count = n } ∷ []) k d).hart ≡ (slice_index_or (turns ++ record { hart = hart; count = n } ∷ []) (k + 1) d).hart → (slice_index_or (turns ++ record { hart = hart; count = n } ∷ []) k d).count ≡ 2 ^ 32 - 1
    joined_at k d h same =
        let here = get_or_append_left turns (record { hart = hart; count = n } ∷ []) d k h in
        elim (eqb_tells (k + 1) (length turns)) [
          | inl last ↦
              let next = ap (λ i. slice_index_or (turns ++ record { hart = hart; count = n } ∷ []) i d) last.1 ∙ get_or-append_seam turns (record { hart = hart; count = n }) [] d in
              ap (λ (t : Turn). t.count) here ∙ full_turn turns hart k d last.1 fresh (is.small k d h) (ap (λ (t : Turn). t.hart) (sym here) ∙ same ∙ ap (λ (t : Turn). t.hart) next)
          | inr inner ↦
              let within : k + 1 < length turns = let differs = inner.1 in omega arith in
              let next = get_or_append_left turns (record { hart = hart; count = n } ∷ []) d (k + 1) within in
              ap (λ (t : Turn). t.count) here ∙ is.joined k d within (ap (λ (t : Turn). t.hart) (sym here) ∙ same ∙ ap (λ (t : Turn). t.hart) next)
        ]

-- the last turn made longer
pub joined_up : (turns : List Turn) (last n : ℕ) (t : Turn) → IsJoined turns → last + 1 ≡ length turns → t ≡ slice_index_or turns last t → t.count + n ≤ 2 ^ 32 - 1 → 0 < n
    → IsJoined (slice_set turns last (record { hart = t.hart; count = t.count + n }))
joined_up turns last n t is at there small some =
    let same_length : length (slice_set turns last (record { hart = t.hart; count = t.count + n })) ≡ length turns = length-set turns last (record { hart = t.hart; count = t.count + n }) in
    record {
      few = omega arith;
      small = λ k d h. counts (λ c. c ≤ 2 ^ 32 - 1) k d (omega arith) (omega arith) (is.small k d (omega arith));
      some = λ k d h. counts (λ c. 0 < c) k d (omega arith) (omega arith) (is.some k d (omega arith));
      joined = λ k d h same.
          let before : k ≢ last = omega arith in
          ap (λ (u : Turn). u.count) (get_or-set_other turns last k (record { hart = t.hart; count = t.count + n }) d before)
          ∙ is.joined k d (omega arith) (sym (hart_stays k d) ∙ same ∙ hart_stays (k + 1) d);
    }
  where
    hart_stays : (k : ℕ) (d : Turn) → (slice_index_or (slice_set turns last (record { hart = t.hart; count = t.count + n })) k d).hart ≡ (slice_index_or turns k d).hart
    hart_stays k d =
        elim (eqb_tells k last) [
          | inl here ↦
              ap (λ i. (slice_index_or (slice_set turns last (record { hart = t.hart; count = t.count + n })) i d).hart) here.1
              ∙ ap (λ (u : Turn). u.hart) (get_or-set_same turns last (record { hart = t.hart; count = t.count + n }) d (omega arith))
              ∙ ap (λ (u : Turn). u.hart) (there ∙ get_or_default turns last t d (omega arith))
              ∙ ap (λ i. (slice_index_or turns i d).hart) (sym here.1)
          | inr apart ↦ ap (λ (u : Turn). u.hart) (get_or-set_other turns last k (record { hart = t.hart; count = t.count + n }) d apart.1)
        ]

    counts : (P : ℕ → Type 0) (k : ℕ) (d : Turn) → k < length turns → P (t.count + n) → P (slice_index_or turns k d).count → P (slice_index_or (slice_set turns last (record { hart = t.hart; count = t.count + n })) k d).count
    counts P k d h up stay =
        elim (eqb_tells k last) [
          | inl here ↦ subst P (sym (ap (λ i. (slice_index_or (slice_set turns last (record { hart = t.hart; count = t.count + n })) i d).count) here.1 ∙ ap (λ (u : Turn). u.count) (get_or-set_same turns last (record { hart = t.hart; count = t.count + n }) d (omega arith)))) up
          | inr apart ↦ subst P (sym (ap (λ (u : Turn). u.count) (get_or-set_other turns last k (record { hart = t.hart; count = t.count + n }) d apart.1))) stay
        ]

-- ---- one more instruction

-- a schedule with one more instruction of a hart
pub record OneMore (turns : List Turn) (hart : ℕ) : Type 0 where
  pub after : List Turn
  pub recorded : written_out after ≡ written_out turns ++ replicate 1 hart
  pub left : room after hart + 1 ≡ room turns hart

-- there is one, where one more fits
pub one_more : (turns : List Turn) (hart : ℕ) → 0 < room turns hart → OneMore turns hart
one_more turns hart some =
    let d : Turn = record { hart = hart; count = 0 } in
    elim (eqb_tells (rest_in_last turns hart) 0) [
      | inl none ↦
          let first : Turn = record { hart = hart; count = 1 } in
          let is = room_is turns hart in
          let few : length turns < 1000000 = few_turns turns hart some none.1 in
          record {
            after = turns ++ first ∷ [];
            recorded = written_new turns hart 1;
            left = room_new turns (turns ++ first ∷ []) hart 1 few (length_push turns first) none.1 (rest_new turns hart 1 (omega arith));
          }
      | inr more ↦
          let takes : 0 < rest_in_last turns hart = let e = more.1 in omega arith in
          let facts = last_turn turns hart d takes in
          let last : length turns - 1 + 1 ≡ length turns = let there = facts.0 in omega arith in
          let t : Turn = slice_index_or turns (length turns - 1) d in
          let at : t ≡ slice_index_or turns (length turns - 1) t = let there = facts.0 in get_or_default turns (length turns - 1) d t (omega arith) in
          let fits = last_turn_at turns (length turns - 1) hart 1 t last at takes (omega arith) in
          let after : List Turn = slice_set turns (length turns - 1) (record { hart = t.hart; count = t.count + 1 }) in
          record {
            after = after;
            recorded = written_up turns (length turns - 1) hart 1 t d last refl fits.0;
            left = room_up turns after hart 1 (length-set turns (length turns - 1) (record { hart = t.hart; count = t.count + 1 })) (rest_up turns (length turns - 1) hart 1 t last at fits.0 fits.1);
          }
    ]
  where
    few_turns : (turns : List Turn) (hart : ℕ) → 0 < room turns hart → rest_in_last turns hart ≡ 0 → length turns < 1000000
    few_turns turns hart some none =
        let is = room_is turns hart in
        elim (leb_tells 1000000 (length turns)) [
          | inl full ↦
              let over : 1000000 - length turns ≡ 0 = let l = full.1 in omega arith in
              let nothing : (2 ^ 32 - 1) * (1000000 - length turns) ≡ 0 = ap (λ n. (2 ^ 32 - 1) * n) over in
              absurd (omega (arith, some, none, is, nothing))
          | inr below ↦ let l = below.1 in omega arith
        ]
