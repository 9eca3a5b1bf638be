-- An order of instructions is recorded in one schedule at most.
use Rattle.std.proofs.Common.{◌≡◌, ℕ, zero, suc, ◌+◌, ◌<◌, List, [], ◌∷◌, ◌++◌, replicate, slice_index_or, refl, sym, ap, ◌∙◌, subst, inl, inr, arith}
use Rattle.std.specs.Prelude.{◌⊎◌, ◌^◌, ◌-◌}
use Rattle.flat_machine.specs.Schedule.{written_out, IsJoined}
use Rattle.flat_machine.specs.declared.schedule.Turn.{Turn}

behind : (turn : Turn) (turns : List Turn) → IsJoined (turn ∷ turns) → IsJoined turns
behind turn turns joined = record {
  few = let few = joined.few in omega (arith, few);
  small = λ k d within. joined.small (suc k) d (omega (arith, within));
  some = λ k d within. joined.some (suc k) d (omega (arith, within));
  joined = λ k d within same.
      let next : suc (k + 1) ≡ suc k + 1 = omega arith in
      joined.joined (suc k) d (omega (arith, within)) (subst (λ n. (slice_index_or turns k d).hart ≡ (slice_index_or (turn ∷ turns) n d).hart) next same);
}

-- a list that goes on with more of one hart, or another's
record Longer (hart : ℕ) (rest : List ℕ) : Type 0 where
  pub others : List ℕ
  pub is : rest ≡ hart ∷ others

-- what two numbers of harts in a row, and what follows, tell of one another where they are the same list
compare : (m n hart : ℕ) (rest others : List ℕ) → replicate m hart ++ rest ≡ replicate n hart ++ others
    → ((m ≡ n) × (rest ≡ others)) ⊎ (((m < n) × Longer hart rest) ⊎ ((n < m) × Longer hart others))
compare zero zero hart rest others e = inl (refl, e)
compare zero (suc n) hart rest others e = inr (inl (omega arith, record { others = replicate n hart ++ others; is = e }))
compare (suc m) zero hart rest others e = inr (inr (omega arith, record { others = replicate m hart ++ rest; is = sym e }))
compare (suc m) (suc n) hart rest others e =
    elim (compare m n hart rest others (tail_is hart hart (replicate m hart ++ rest) (replicate n hart ++ others) e)) [
      | inl same ↦ inl (ap (λ k. suc k) same.0, same.1)
      | inr differ ↦ inr (elim differ [
        | inl less ↦ inl (let l = less.0 in omega (arith, l), less.1)
        | inr more ↦ inr (let l = more.0 in omega (arith, l), more.1)
      ])
    ]
  where
    tail_is : (x y : ℕ) (xs ys : List ℕ) → x ∷ xs ≡ y ∷ ys → xs ≡ ys
    tail_is x y xs ys e = cc

-- a turn, and what is written of it
record Begins (turn : Turn) (turns : List Turn) : Type 0 where
  pub others : List ℕ
  pub is : written_out (turn ∷ turns) ≡ turn.hart ∷ others

begins : (turn : Turn) (turns : List Turn) → IsJoined (turn ∷ turns) → Begins turn turns
begins turn turns joined = by_count turn.count refl (joined.some 0 turn (omega arith))
  where
    by_count : (count : ℕ) → turn.count ≡ count → 0 < turn.count → Begins turn turns
    by_count zero is some = absurd (omega (arith, is, some))
    by_count (suc n) is some = record { others = replicate n turn.hart ++ written_out turns; is = ap (λ k. replicate k turn.hart ++ written_out turns) is }

head_is : (x y : ℕ) (xs ys : List ℕ) → x ∷ xs ≡ y ∷ ys → x ≡ y
head_is x y xs ys e = cc

-- a turn behind which the same hart goes on is as long as a turn may be
whole : (turn : Turn) (turns : List Turn) → IsJoined (turn ∷ turns) → Longer turn.hart (written_out turns) → turn.count ≡ 2 ^ 32 - 1
whole turn [] joined longer = let is = longer.is in cc
whole turn (next ∷ turns) joined longer =
    let first = begins next turns (behind turn (next ∷ turns) joined) in
    joined.joined 0 turn (omega arith) (sym (head_is next.hart turn.hart first.others longer.others (sym first.is ∙ longer.is)))

pub one_schedule : (some other : List Turn) → IsJoined some → IsJoined other → written_out some ≡ written_out other → some ≡ other
one_schedule [] [] joined joined' e = refl
one_schedule [] (turn ∷ turns) joined joined' e = let first = begins turn turns joined' in let is = first.is in cc
one_schedule (turn ∷ turns) [] joined joined' e = let first = begins turn turns joined in let is = first.is in cc
one_schedule (turn ∷ turns) (turn' ∷ turns') joined joined' e =
    let first = begins turn turns joined in
    let first' = begins turn' turns' joined' in
    let hart : turn.hart ≡ turn'.hart = head_is turn.hart turn'.hart first.others first'.others (sym first.is ∙ e ∙ first'.is) in
    let same : replicate turn.count turn.hart ++ written_out turns ≡ replicate turn'.count turn.hart ++ written_out turns' =
    e ∙ ap (λ h. replicate turn'.count h ++ written_out turns') (sym hart) in
    elim (compare turn.count turn'.count turn.hart (written_out turns) (written_out turns') same) [
      | inl both ↦
          let rest = one_schedule turns turns' (behind turn turns joined) (behind turn' turns' joined') both.1 in
          let here : turn ≡ turn' = turn_is turn turn' hart both.0 in
          ap (λ t. t ∷ turns) here ∙ ap (λ l. turn' ∷ l) rest
      | inr differ ↦ elim differ [
        | inl less ↦
            let longest = whole turn turns joined less.1 in
            let small = joined'.small 0 turn' (omega arith) in
            let l = less.0 in absurd (omega (arith, longest, small, l))
        | inr more ↦
            let longest = whole turn' turns' joined' (subst (λ h. Longer h (written_out turns')) hart more.1) in
            let small = joined.small 0 turn (omega arith) in
            let l = more.0 in absurd (omega (arith, longest, small, l))
      ]
    ]
  where
    turn_is : (one two : Turn) → one.hart ≡ two.hart → one.count ≡ two.count → one ≡ two
    turn_is one two hart count = λ i. record { hart = hart i; count = count i }
