-- What look-ups and the numbers of keys are after a change: proofs.
use Rattle.std.specs.Prelude.{◌≡◌, ◌≤◌, ◌+◌, ◌==◌, ℕ, Bool, true, false, cond, List, [], ◌∷◌, ◌++◌, Option, Some, None, refl}
use Rattle.std.specs.Option.{option_or}
use Rattle.std.proofs.Common.{arith, sym, ap, ◌∙◌, subst, inl, inr}
use Rattle.std.proofs.lemmas.Bool.Decides.{nat_tests}
use Rattle.clock_policy.proofs.FindLaws.{option_or-none}
use Rattle.clock_policy.specs.declared.key.Key.{Key}
use Rattle.clock_policy.specs.declared.entry.Entry.{Entry}
use Rattle.clock_policy.specs.declared.entry.EntryKind.{EntryKind}
use Rattle.clock_policy.specs.ClockPro.{has_key, number}
use Rattle.clock_policy.proofs.CountLaws.{number-append}
use Rattle.clock_policy.proofs.AdmitLaws.{one_key}
use Rattle.page_ring.specs.Linked.{Cell}
use Rattle.page_ring.specs.Slots.{same_key}
use Rattle.page_ring.specs.Chain.{of_kind}
use Rattle.page_ring.specs.Index.{entries_of, at_of, DistinctPages, Finds, FindsNodes}

-- What a look-up tells.

finds_cond : (lacks t : Bool) (a b w : Option ℕ) → Finds lacks a b → Finds lacks (cond t w a) (cond t w b)
finds_cond false true a b w h = refl
finds_cond true true a b w h = inr refl
finds_cond lacks false a b w h = h

-- of a page that is nowhere nothing is told
pub told_none : (lacks : Bool) (a : Option ℕ) → Finds lacks a None → a ≡ None
told_none false a h = h
told_none true a (inl h) = h
told_none true a (inr h) = h

may_lack : (lacks : Bool) (a b : Option ℕ) → Finds lacks a b → Finds true a b
may_lack false a b h = inr h
may_lack true a b h = h

-- Entries of cells.

pub entries-append : (a b : List Cell) → entries_of (a ++ b) ≡ entries_of a ++ entries_of b
entries-append [] b = refl
entries-append (c ∷ cs) b = ap (λ (l : List Entry). c.entry ∷ l) (entries-append cs b)

pub number-cells : (p : Entry → Bool) (a b : List Cell) → number p (entries_of (a ++ b)) ≡ number p (entries_of a) + number p (entries_of b)
number-cells p a b = ap (number p) (entries-append a b) ∙ number-append p (entries_of a) (entries_of b)

-- Look-ups.

at_of-append : (k : Key) (a b : List Cell) → at_of k (a ++ b) ≡ option_or (at_of k a) (at_of k b)
at_of-append k [] b = refl
at_of-append k (c ∷ cs) b =
    elim (has_key k c.entry) as (λ t. cond t (Some c.at) (at_of k (cs ++ b)) ≡ option_or (cond t (Some c.at) (at_of k cs)) (at_of k b)) [ true ↦ refl | false ↦ at_of-append k cs b ]

pub none_at : (k : Key) (cs : List Cell) → number (has_key k) (entries_of cs) ≡ 0 → at_of k cs ≡ None
none_at k [] h = refl
none_at k (c ∷ cs) h =
    elim (has_key k c.entry) as (λ t. cond t 1 0 + number (has_key k) (entries_of cs) ≡ 0 → cond t (Some c.at) (at_of k cs) ≡ None) [
      | true ↦ λ g. absurd (omega (arith, g))
      | false ↦ λ g. none_at k cs (omega (arith, g))
    ] h

pub at_none : (k : Key) (cs : List Cell) → at_of k cs ≡ None → number (has_key k) (entries_of cs) ≡ 0
at_none k [] h = refl
at_none k (c ∷ cs) h =
    elim (has_key k c.entry) as (λ t. cond t (Some c.at) (at_of k cs) ≡ None → cond t 1 0 + number (has_key k) (entries_of cs) ≡ 0) [
      | true ↦ λ g. cc
      | false ↦ λ g. let none : number (has_key k) (entries_of cs) ≡ 0 = at_none k cs g in omega (arith, none)
    ] h

swapped : (k : Key) (a b : List Cell) → number (has_key k) (entries_of a) + number (has_key k) (entries_of b) ≤ 1 → option_or (at_of k a) (at_of k b) ≡ option_or (at_of k b) (at_of k a)
swapped k a b h =
    elim (at_of k a) as (λ o. at_of k a ≡ o → option_or o (at_of k b) ≡ option_or (at_of k b) o) [
      | None ↦ λ is. sym (option_or-none (at_of k b))
      | Some n ↦ λ is. rw (none_at k b (other is)) refl
    ] refl
  where
    other : {n : ℕ} → at_of k a ≡ Some n → number (has_key k) (entries_of b) ≡ 0
    other {n} is = by_number (number (has_key k) (entries_of a)) (number (has_key k) (entries_of b)) refl h
      where
        by_number : (m r : ℕ) → number (has_key k) (entries_of a) ≡ m → m + r ≤ 1 → r ≡ 0
        by_number m r same few = elim (m == 0) as (λ t. (m == 0) ≡ t → r ≡ 0) [
          | true ↦ λ e. let zero : m ≡ 0 = grind (arith, nat_tests) in let gone : at_of k a ≡ None = none_at k a (same ∙ zero) in cc
          | false ↦ λ e. let some : 1 ≤ m = grind (arith, nat_tests) in omega (arith, some, few)
        ] refl

-- What a change does to look-ups and to the numbers of keys.

pub mark_number : (p : Entry → Bool) (kind : EntryKind) (u v : List Cell) (c : Cell) → number p (entries_of (u ++ of_kind kind c ∷ v)) + cond (p c.entry) 1 0 ≡ number p (entries_of (u ++ c ∷ v)) + cond (p (of_kind kind c).entry) 1 0
mark_number p kind u v c =
    let new : number p (entries_of (u ++ of_kind kind c ∷ v)) ≡ number p (entries_of u) + (cond (p (of_kind kind c).entry) 1 0 + number p (entries_of v)) = number-cells p u (of_kind kind c ∷ v) in
    let old : number p (entries_of (u ++ c ∷ v)) ≡ number p (entries_of u) + (cond (p c.entry) 1 0 + number p (entries_of v)) = number-cells p u (c ∷ v) in
    omega (arith, new, old)

pub remove_number : (p : Entry → Bool) (u v : List Cell) (c : Cell) → number p (entries_of (u ++ v)) + cond (p c.entry) 1 0 ≡ number p (entries_of (u ++ c ∷ v))
remove_number p u v c =
    let new : number p (entries_of (u ++ v)) ≡ number p (entries_of u) + number p (entries_of v) = number-cells p u v in
    let old : number p (entries_of (u ++ c ∷ v)) ≡ number p (entries_of u) + (cond (p c.entry) 1 0 + number p (entries_of v)) = number-cells p u (c ∷ v) in
    omega (arith, new, old)

pub append_number : (p : Entry → Bool) (cs : List Cell) (c : Cell) → number p (entries_of (cs ++ c ∷ [])) ≡ number p (entries_of cs) + cond (p c.entry) 1 0
append_number p cs c = let e : number p (entries_of (cs ++ c ∷ [])) ≡ number p (entries_of cs) + (cond (p c.entry) 1 0 + 0) = number-cells p cs (c ∷ []) in omega (arith, e)

mark_at : (k : Key) (kind : EntryKind) (u v : List Cell) (c : Cell) → at_of k (u ++ of_kind kind c ∷ v) ≡ at_of k (u ++ c ∷ v)
mark_at k kind [] v c = refl
mark_at k kind (d ∷ ds) v c = ap (λ (o : Option ℕ). cond (has_key k d.entry) (Some d.at) o) (mark_at k kind ds v c)

remove_at : (k : Key) (u v : List Cell) (c : Cell) → number (has_key k) (entries_of (u ++ c ∷ v)) ≤ 1 → at_of k (u ++ v) ≡ cond (has_key k c.entry) None (at_of k (u ++ c ∷ v))
remove_at k u v c one =
    elim (has_key k c.entry) as (λ t. has_key k c.entry ≡ t → at_of k (u ++ v) ≡ cond t None (at_of k (u ++ c ∷ v))) [
      | true ↦ λ is.
          let gone : number (has_key k) (entries_of (u ++ v)) + cond (has_key k c.entry) 1 0 ≡ number (has_key k) (entries_of (u ++ c ∷ v)) = remove_number (has_key k) u v c in
          none_at k (u ++ v) (omega (arith, rw is at gone, one))
      | false ↦ λ is. at_of-append k u v ∙ sym (at_of-append k u (c ∷ v) ∙ ap (λ (t : Bool). option_or (at_of k u) (cond t (Some c.at) (at_of k v))) is)
    ] refl

append_at : (k : Key) (cs : List Cell) (c : Cell) → at_of c.entry.key cs ≡ None → at_of k (cs ++ c ∷ []) ≡ cond (has_key k c.entry) (Some c.at) (at_of k cs)
append_at k cs c free =
    at_of-append k cs (c ∷ [])
    ∙ elim (has_key k c.entry) as (λ t. has_key k c.entry ≡ t → option_or (at_of k cs) (cond t (Some c.at) None) ≡ cond t (Some c.at) (at_of k cs)) [
      | true ↦ λ is. rw (none is) refl
      | false ↦ λ is. option_or-none (at_of k cs)
    ] refl
  where
    parts : (k : Key) (e : Entry) → has_key k e ≡ true → (k.process ≡ e.key.process) × (k.vpn ≡ e.key.vpn)
    parts k e h = grind (arith, nat_tests)

    none : has_key k c.entry ≡ true → at_of k cs ≡ None
    none is = let same : k ≡ c.entry.key = one_key k c.entry.key (parts k c.entry is).0 (parts k c.entry is).1 in ap (λ (q : Key). at_of q cs) same ∙ free

turn_at : (k : Key) (a b : List Cell) → number (has_key k) (entries_of (a ++ b)) ≤ 1 → at_of k (b ++ a) ≡ at_of k (a ++ b)
turn_at k a b one =
    let both : number (has_key k) (entries_of (a ++ b)) ≡ number (has_key k) (entries_of a) + number (has_key k) (entries_of b) = number-cells (has_key k) a b in
    at_of-append k b a ∙ sym (swapped k a b (omega (arith, one, both))) ∙ sym (at_of-append k a b)

-- The index after a change.

pub index_mark : (lacks : Bool) (look : Key → Option ℕ) (kind : EntryKind) (u v : List Cell) (c : Cell) → FindsNodes (u ++ c ∷ v) lacks look → FindsNodes (u ++ of_kind kind c ∷ v) lacks look
index_mark lacks look kind u v c h = record {
  found = λ k. subst (Finds lacks (look k)) (sym (mark_at k kind u v c)) (h.found k);
  distinct = λ k. let e : number (has_key k) (entries_of (u ++ of_kind kind c ∷ v)) + cond (has_key k c.entry) 1 0 ≡ number (has_key k) (entries_of (u ++ c ∷ v)) + cond (has_key k c.entry) 1 0 = mark_number (has_key k) kind u v c in omega (arith, e, h.distinct k);
}

pub index_turn : (lacks : Bool) (look : Key → Option ℕ) (a b : List Cell) → FindsNodes (a ++ b) lacks look → FindsNodes (b ++ a) lacks look
index_turn lacks look a b h = record {
  found = λ k. subst (Finds lacks (look k)) (sym (turn_at k a b (h.distinct k))) (h.found k);
  distinct = λ k.
      let old : number (has_key k) (entries_of (a ++ b)) ≡ number (has_key k) (entries_of a) + number (has_key k) (entries_of b) = number-cells (has_key k) a b in
      let new : number (has_key k) (entries_of (b ++ a)) ≡ number (has_key k) (entries_of b) + number (has_key k) (entries_of a) = number-cells (has_key k) b a in
      omega (arith, old, new, h.distinct k);
}

pub index_remove : (lacks : Bool) (old new : Key → Option ℕ) (u v : List Cell) (c : Cell) → ((k : Key) → new k ≡ cond (same_key c.entry.key k) None (old k)) → FindsNodes (u ++ c ∷ v) lacks old → FindsNodes (u ++ v) lacks new
index_remove lacks old new u v c gone h = record {
  found = λ k. subst (λ a. Finds lacks a (at_of k (u ++ v))) (sym (gone k))
      (subst (Finds lacks (cond (has_key k c.entry) None (old k))) (sym (remove_at k u v c (h.distinct k)))
      (finds_cond lacks (has_key k c.entry) (old k) (at_of k (u ++ c ∷ v)) None (h.found k)));
  distinct = λ k. let e : number (has_key k) (entries_of (u ++ v)) + cond (has_key k c.entry) 1 0 ≡ number (has_key k) (entries_of (u ++ c ∷ v)) = remove_number (has_key k) u v c in omega (arith, e, h.distinct k);
}

pub appended_distinct : (cs : List Cell) (c : Cell) → DistinctPages cs → at_of c.entry.key cs ≡ None → DistinctPages (cs ++ c ∷ [])
appended_distinct cs c distinct free k =
    elim (has_key k c.entry) as (λ t. has_key k c.entry ≡ t → number (has_key k) (entries_of (cs ++ c ∷ [])) ≤ 1) [
      | true ↦ λ is.
          let same : k ≡ c.entry.key = one_key k c.entry.key (parts k c.entry is).0 (parts k c.entry is).1 in
          let none : number (has_key k) (entries_of cs) ≡ 0 = at_none k cs (ap (λ (q : Key). at_of q cs) same ∙ free) in
          let e : number (has_key k) (entries_of (cs ++ c ∷ [])) ≡ number (has_key k) (entries_of cs) + cond (has_key k c.entry) 1 0 = append_number (has_key k) cs c in
          omega (arith, rw is at e, none)
      | false ↦ λ is.
          let e : number (has_key k) (entries_of (cs ++ c ∷ [])) ≡ number (has_key k) (entries_of cs) + cond (has_key k c.entry) 1 0 = append_number (has_key k) cs c in
          omega (arith, rw is at e, distinct k)
    ] refl
  where
    parts : (k : Key) (e : Entry) → has_key k e ≡ true → (k.process ≡ e.key.process) × (k.vpn ≡ e.key.vpn)
    parts k e h = grind (arith, nat_tests)

pub index_append : (lacks : Bool) (old new : Key → Option ℕ) (cs : List Cell) (c : Cell) → at_of c.entry.key cs ≡ None → ((k : Key) → new k ≡ cond (same_key c.entry.key k) (Some c.at) (old k)) → FindsNodes cs lacks old → FindsNodes (cs ++ c ∷ []) lacks new
index_append lacks old new cs c free put h = record {
  found = λ k. subst (λ a. Finds lacks a (at_of k (cs ++ c ∷ []))) (sym (put k))
      (subst (Finds lacks (cond (has_key k c.entry) (Some c.at) (old k))) (sym (append_at k cs c free))
      (finds_cond lacks (has_key k c.entry) (old k) (at_of k cs) (Some c.at) (h.found k)));
  distinct = appended_distinct cs c h.distinct free;
}

-- a page for which there is no room in the index
pub index_lacking : (lacks : Bool) (old new : Key → Option ℕ) (cs : List Cell) (c : Cell) → at_of c.entry.key cs ≡ None → ((k : Key) → new k ≡ old k) → FindsNodes cs lacks old → FindsNodes (cs ++ c ∷ []) true new
index_lacking lacks old new cs c free same h = record {
  found = λ k. subst (λ a. Finds true a (at_of k (cs ++ c ∷ []))) (sym (same k)) (subst (Finds true (old k)) (sym (append_at k cs c free)) (by_key k));
  distinct = appended_distinct cs c h.distinct free;
}
  where
    parts : (k : Key) (e : Entry) → has_key k e ≡ true → (k.process ≡ e.key.process) × (k.vpn ≡ e.key.vpn)
    parts k e h = grind (arith, nat_tests)

    by_key : (k : Key) → Finds true (old k) (cond (has_key k c.entry) (Some c.at) (at_of k cs))
    by_key k = elim (has_key k c.entry) as (λ t. has_key k c.entry ≡ t → Finds true (old k) (cond t (Some c.at) (at_of k cs))) [
      | true ↦ λ is.
          let same : k ≡ c.entry.key = one_key k c.entry.key (parts k c.entry is).0 (parts k c.entry is).1 in
          inl (told_none lacks (old k) (subst (Finds lacks (old k)) (ap (λ (q : Key). at_of q cs) same ∙ free) (h.found k)))
      | false ↦ λ is. may_lack lacks (old k) (at_of k cs) (h.found k)
    ] refl

-- a cell that becomes the last
pub index_send : (lacks : Bool) (look : Key → Option ℕ) (kind : EntryKind) (u v : List Cell) (c : Cell) → FindsNodes (u ++ c ∷ v) lacks look → FindsNodes ((u ++ v) ++ of_kind kind c ∷ []) lacks look
index_send lacks look kind u v c h =
    index_mark lacks look kind (u ++ v) [] c (subst (λ (l : List Cell). FindsNodes l lacks look) (sym (append_again u v (c ∷ []))) (moved u v h))
  where
    append_again : (a b d : List Cell) → (a ++ b) ++ d ≡ a ++ (b ++ d)
    append_again [] b d = refl
    append_again (x ∷ xs) b d = ap (λ (l : List Cell). x ∷ l) (append_again xs b d)

    by_halves : (k : Key) (u v : List Cell) → number (has_key k) (entries_of (u ++ c ∷ v)) ≤ 1 → at_of k (u ++ c ∷ v) ≡ at_of k (u ++ (v ++ c ∷ []))
    by_halves k u v few =
        let old : number (has_key k) (entries_of (u ++ c ∷ v)) ≡ number (has_key k) (entries_of u) + (cond (has_key k c.entry) 1 0 + number (has_key k) (entries_of v)) = number-cells (has_key k) u (c ∷ v) in
        at_of-append k u (c ∷ v)
        ∙ ap (option_or (at_of k u)) (at_of-append k (c ∷ []) v ∙ swapped k (c ∷ []) v (omega (arith, old, few)) ∙ sym (at_of-append k v (c ∷ [])))
        ∙ sym (at_of-append k u (v ++ c ∷ []))

    moved : (u v : List Cell) → FindsNodes (u ++ c ∷ v) lacks look → FindsNodes (u ++ (v ++ c ∷ [])) lacks look
    moved u v g =
        record {
          found = λ k. subst (Finds lacks (look k)) (by_halves k u v (g.distinct k)) (g.found k);
          distinct = λ k.
              let one : number (has_key k) (entries_of (u ++ (v ++ c ∷ []))) ≡ number (has_key k) (entries_of u) + number (has_key k) (entries_of (v ++ c ∷ [])) = number-cells (has_key k) u (v ++ c ∷ []) in
              let two : number (has_key k) (entries_of (v ++ c ∷ [])) ≡ number (has_key k) (entries_of v) + cond (has_key k c.entry) 1 0 = append_number (has_key k) v c in
              let old : number (has_key k) (entries_of (u ++ c ∷ v)) ≡ number (has_key k) (entries_of u) + (cond (has_key k c.entry) 1 0 + number (has_key k) (entries_of v)) = number-cells (has_key k) u (c ∷ v) in
              omega (arith, one, two, old, g.distinct k);
        }
