-- LIRS is a way to serve a string: a proof.
use Rattle.std.specs.Prelude.{◌≡◌, ℕ, zero, suc, ◌+◌, ◌-◌, ◌*◌, ◌/◌, ◌<◌, ◌≤◌, Bool, true, false, cond, nat_lt, max, List, [], ◌++◌, length, Option, Some, None, refl}
use Rattle.std.proofs.Common.{arith, sym, ap, ◌∙◌}
use Rattle.clock_policy.specs.declared.key.Key.{Key}
use Rattle.page_policies.specs.Strings.{is_page, holds, without}
use Rattle.page_policies.specs.Ordered.{to_front, last_of, but_last}
use Rattle.page_policies.specs.Demand.{number, IsPlayed}
use Rattle.page_policies.proofs.NumberLaws.{less, most}
use Rattle.page_policies.proofs.PartLaws.{number_append, holds_append, there_first, there_second, there_counted, counts_itself, length_parts, front_there, number_front, number_moved, length_front, length_moved, length_but_last, number_but_last, last_split, none_last, hit_leaves, miss_leaves, Serves, served_plays}
use Rattle.younger_policies.specs.TwoQueues.{out_with}
use Rattle.younger_policies.specs.declared.lirs_shares.LirsShares.{LirsShares}
use Rattle.younger_policies.specs.declared.lirs_shares.LirsRooms.{LirsRooms}
use Rattle.younger_policies.specs.Lirs.{LirsState, rooms_of, is_bottom_lir, is_over, apart, without_bottom, pruned, demoted, made_lir, kept_hir, promoted, becomes_lir, cut, placed, gone_with, room_made, lir_used, hir_used, in_lirs, lirs, lirs_misses}

-- the pages in frames
abbrev pages : LirsState → List Key
pages s = s.lir ++ s.queue

abbrev room : LirsState → ℕ
room s = length s.lir + length s.queue

abbrev count : (Key → Bool) → LirsState → ℕ
count test s = number test s.lir + number test s.queue

found : (p : Key) (s : LirsState) → in_lirs p s ≡ holds p (pages s)
found p s = sym (holds_append p s.lir s.queue)

size : (s : LirsState) → length (pages s) ≡ room s
size s = length_parts s.lir s.queue

counted : (test : Key → Bool) (s : LirsState) → number test (pages s) ≡ count test s
counted test s = number_append test s.lir s.queue

-- Pruning changes the stack alone.
record Same (s t : LirsState) : Type 0 where
  lir : t.lir ≡ s.lir
  queue : t.queue ≡ s.queue

prunes : (n : ℕ) (s : LirsState) → Same s (pruned n s)
prunes zero s = record { lir = refl; queue = refl }
prunes (suc n) s = elim (is_bottom_lir (last_of s.stack) s) as (λ b. Same s (cond b s (pruned n (without_bottom s)))) [
  | true ↦ record { lir = refl; queue = refl }
  | false ↦ let later : Same (without_bottom s) (pruned n (without_bottom s)) = prunes n (without_bottom s) in record { lir = later.lir; queue = later.queue }
]

-- A page that goes from the LIR list to the queue: all pages are there, and none more often.
record Moves (r : LirsRooms) (s t : LirsState) : Type 0 where
  some : length t.lir ≤ length s.lir
  few : room t ≤ room s
  equal : (test : Key → Bool) → count test t ≤ count test s
  kept : (p : Key) → 1 ≤ number (is_page p) s.lir → holds p (pages t) ≡ true
  bound : length s.lir ≤ r.most_lir + 1 → length t.lir ≤ r.most_lir

moves_out : (r : LirsRooms) (s : LirsState) (o : Option Key) → last_of s.lir ≡ o → r.most_lir < length s.lir → Moves r s (record { lir = but_last s.lir; stack = s.stack; queue = out_with o s.queue; gone = s.gone })
moves_out r s None is full = absurd (let e : length s.lir ≡ 0 = none_last s.lir is in omega (arith, e, full))
moves_out r s (Some b) is full =
    let e : length (but_last s.lir) ≡ length s.lir - 1 = length_but_last s.lir in
    let k : length (to_front b s.queue) ≤ length s.queue + 1 = length_front b s.queue in record {
      some = omega (arith, e);
      few = omega (arith, e, k, full);
      equal = λ test.
          let g : number test (but_last s.lir) + cond (test b) 1 0 ≡ number test s.lir = last_split test s.lir b is in
          let h : number test (to_front b s.queue) ≤ number test s.queue + cond (test b) 1 0 = number_front test b s.queue in omega (arith, g, h);
      kept = λ p some. there_counted p (but_last s.lir ++ to_front b s.queue)
          (let g : number (is_page p) (but_last s.lir) + cond (is_page p b) 1 0 ≡ number (is_page p) s.lir = last_split (is_page p) s.lir b is in
          let a : number (is_page p) (but_last s.lir ++ to_front b s.queue) ≡ number (is_page p) (but_last s.lir) + number (is_page p) (to_front b s.queue) = number_append (is_page p) (but_last s.lir) (to_front b s.queue) in
          omega (arith, g, a, some));
      bound = λ h. omega (arith, e, h);
    }

demotes : (r : LirsRooms) (s : LirsState) → Moves r s (demoted r s)
demotes r s = elim (nat_lt r.most_lir (length s.lir)) as (λ b. nat_lt r.most_lir (length s.lir) ≡ b → Moves r s (cond b (record { lir = but_last s.lir; stack = s.stack; queue = out_with (last_of s.lir) s.queue; gone = s.gone }) s)) [
  | true ↦ λ h. moves_out r s (last_of s.lir) refl (less r.most_lir (length s.lir) h)
  | false ↦ λ h. record {
    some = omega arith;
    few = omega arith;
    equal = λ test. omega arith;
    kept = λ p some. there_first p s.lir s.queue (there_counted p s.lir some);
    bound = λ g. most r.most_lir (length s.lir) h;
  }
] refl

record Lawful (r : LirsRooms) (s : LirsState) : Type 0 where
  some : length s.lir ≤ r.most_lir
  few : room s ≤ r.frames

-- What it leaves where a page is used that is no LIR page: the page is there, and nothing else is that was not.
record Places (r : LirsRooms) (p : Key) (s t : LirsState) : Type 0 where
  there : holds p (pages t) ≡ true
  some : length t.lir ≤ r.most_lir
  few : room t ≤ length s.lir + length (to_front p s.queue)
  from : (test : Key → Bool) → count test t ≤ number test s.lir + number test (to_front p s.queue)

-- the page has left the queue, and has come to the LIR list
promotes : (r : LirsRooms) (p : Key) (s : LirsState) → Lawful r s → Places r p s (promoted r p s)
promotes r p s lawful =
    let t : LirsState = made_lir p s in
    let d : Moves r (made_lir p s) (demoted r (made_lir p s)) = demotes r (made_lir p s) in
    let same : Same (demoted r (made_lir p s)) (promoted r p s) = prunes (length (demoted r (made_lir p s)).stack) (demoted r (made_lir p s)) in
    let l : length (to_front p s.lir) ≤ length s.lir + 1 = length_front p s.lir in
    record {
      there = ap (λ (a : List Key). holds p (a ++ (promoted r p s).queue)) same.lir ∙ ap (λ (b : List Key). holds p ((demoted r (made_lir p s)).lir ++ b)) same.queue
          ∙ d.kept p (let e : ◌≡◌ {A = ℕ} (cond (is_page p p) 1 0) 1 = counts_itself p in omega (arith, e));
      some = let e : length (promoted r p s).lir ≡ length (demoted r (made_lir p s)).lir = ap length same.lir in let b : length (demoted r (made_lir p s)).lir ≤ r.most_lir = d.bound (let g : length s.lir ≤ r.most_lir = lawful.some in omega (arith, l, g)) in omega (arith, e, b);
      few =
          let e : length (promoted r p s).lir ≡ length (demoted r (made_lir p s)).lir = ap length same.lir in
          let f : length (promoted r p s).queue ≡ length (demoted r (made_lir p s)).queue = ap length same.queue in
          let g : room (demoted r (made_lir p s)) ≤ length (to_front p s.lir) + length (without p s.queue) = d.few in omega (arith, e, f, g, l);
      from = λ test.
          let e : number test (promoted r p s).lir ≡ number test (demoted r (made_lir p s)).lir = ap (number test) same.lir in
          let f : number test (promoted r p s).queue ≡ number test (demoted r (made_lir p s)).queue = ap (number test) same.queue in
          let g : count test (demoted r (made_lir p s)) ≤ number test (to_front p s.lir) + number test (without p s.queue) = d.equal test in
          let h : number test (to_front p s.lir) ≤ number test s.lir + cond (test p) 1 0 = number_front test p s.lir in omega (arith, e, f, g, h);
    }

-- the stack alone is cut
abbrev stack_cut : LirsState → LirsState
stack_cut s = record { lir = s.lir; stack = apart (last_of s.gone) s.stack; queue = s.queue; gone = but_last s.gone }

places : (r : LirsRooms) (p : Key) (s : LirsState) → Lawful r s → Places r p s (placed r p s)
places r p s lawful = elim (becomes_lir r p s) as (λ b. Places r p s (cond b (promoted r p s) (cut r (kept_hir p s)))) [
  | true ↦ promotes r p s lawful
  | false ↦ elim (is_over r.most_stack (length (kept_hir p s).stack)) as (λ b. Places r p s (cond b (stack_cut (kept_hir p s)) (kept_hir p s))) [
    | true ↦ record {
      there = there_second p s.lir (to_front p s.queue) (front_there p s.queue);
      some = lawful.some;
      few = omega arith;
      from = λ test. omega arith;
    }
    | false ↦ record {
      there = there_second p s.lir (to_front p s.queue) (front_there p s.queue);
      some = lawful.some;
      few = omega arith;
      from = λ test. omega arith;
    }
  ]
]

-- room for one page
record Room (r : LirsRooms) (s t : LirsState) : Type 0 where
  some : length t.lir ≤ r.most_lir
  few : room t < r.frames
  fewer : (test : Key → Bool) → count test t ≤ count test s

room_is : (r : LirsRooms) (s : LirsState) → r.most_lir < r.frames → Lawful r s → Room r s (room_made r s)
room_is r s some lawful = elim (nat_lt (room s) r.frames) as (λ b. nat_lt (room s) r.frames ≡ b → Room r s (cond b s (record { lir = s.lir; stack = s.stack; queue = but_last s.queue; gone = gone_with r (last_of s.queue) s }))) [
  | true ↦ λ h. record { some = lawful.some; few = less (room s) r.frames h; fewer = λ test. omega arith }
  | false ↦ λ h.
      let full : r.frames ≤ room s = most (room s) r.frames h in
      let e : length (but_last s.queue) ≡ length s.queue - 1 = length_but_last s.queue in
      let f : r.most_lir < r.frames = some in
      let g : length s.lir ≤ r.most_lir = lawful.some in
      let k : room s ≤ r.frames = lawful.few in record {
        some = lawful.some;
        few = one (length s.lir) (length s.queue) (length (but_last s.queue)) r.most_lir r.frames e f g k full;
        fewer = λ test. let n : number test (but_last s.queue) ≤ number test s.queue = number_but_last test s.queue in omega (arith, n);
      }
] refl
  where
    one : (a b c l m : ℕ) → c ≡ b - 1 → l < m → a ≤ l → a + b ≤ m → m ≤ a + b → a + c < m
    one a b c l m e f g k full = omega (arith, e, f, g, k, full)

used_lir : (r : LirsRooms) (p : Key) (s : LirsState) → Lawful r s → holds p s.lir ≡ true → true ≡ in_lirs p s → Serves r.frames pages (Lawful r) in_lirs p s (lir_used p s)
used_lir r p s lawful h is =
    let same : Same (record { lir = to_front p s.lir; stack = to_front p s.stack; queue = s.queue; gone = s.gone }) (lir_used p s) = prunes (length (to_front p s.stack)) (record { lir = to_front p s.lir; stack = to_front p s.stack; queue = s.queue; gone = s.gone }) in
    let l : length (to_front p s.lir) ≡ length s.lir = length_moved p s.lir h in
    let e : length (lir_used p s).lir ≡ length (to_front p s.lir) = ap length same.lir in
    let f : length (lir_used p s).queue ≡ length s.queue = ap length same.queue in
    let few : room s ≤ r.frames = lawful.few in
    record {
      found = found p s;
      leaves = hit_leaves r.frames p (pages s) (pages (lir_used p s)) (is ∙ found p s)
          (ap (λ (a : List Key). holds p (a ++ (lir_used p s).queue)) same.lir ∙ there_first p (to_front p s.lir) (lir_used p s).queue (front_there p s.lir))
          (let z : length (pages (lir_used p s)) ≡ room (lir_used p s) = size (lir_used p s) in omega (arith, z, e, f, l, few))
          (λ test.
          let a : number test (pages (lir_used p s)) ≡ count test (lir_used p s) = counted test (lir_used p s) in
          let b : number test (pages s) ≡ count test s = counted test s in
          let c : number test (lir_used p s).lir ≡ number test (to_front p s.lir) = ap (number test) same.lir in
          let d : number test (lir_used p s).queue ≡ number test s.queue = ap (number test) same.queue in
          let k : number test (to_front p s.lir) ≡ number test s.lir = number_moved test p s.lir h in omega (arith, a, b, c, d, k));
      lawful_after = record { some = let g : length s.lir ≤ r.most_lir = lawful.some in omega (arith, e, l, g); few = omega (arith, e, f, l, few) };
    }

used_hir : (r : LirsRooms) (p : Key) (s : LirsState) → Lawful r s → holds p s.queue ≡ true → true ≡ in_lirs p s → Serves r.frames pages (Lawful r) in_lirs p s (placed r p s)
used_hir r p s lawful h is =
    let there : Places r p s (placed r p s) = places r p s lawful in
    let l : length (to_front p s.queue) ≡ length s.queue = length_moved p s.queue h in
    let f : room (placed r p s) ≤ length s.lir + length (to_front p s.queue) = there.few in
    let few : room s ≤ r.frames = lawful.few in
    record {
      found = found p s;
      leaves = hit_leaves r.frames p (pages s) (pages (placed r p s)) (is ∙ found p s) there.there
          (let z : length (pages (placed r p s)) ≡ room (placed r p s) = size (placed r p s) in omega (arith, z, f, l, few))
          (λ test.
          let a : number test (pages (placed r p s)) ≡ count test (placed r p s) = counted test (placed r p s) in
          let b : number test (pages s) ≡ count test s = counted test s in
          let c : count test (placed r p s) ≤ number test s.lir + number test (to_front p s.queue) = there.from test in
          let k : number test (to_front p s.queue) ≡ number test s.queue = number_moved test p s.queue h in omega (arith, a, b, c, k));
      lawful_after = record { some = there.some; few = omega (arith, f, l, few) };
    }

missed : (r : LirsRooms) (p : Key) (s : LirsState) → r.most_lir < r.frames → Lawful r s → false ≡ in_lirs p s → Serves r.frames pages (Lawful r) in_lirs p s (placed r p (room_made r s))
missed r p s one lawful out =
    let t : Room r s (room_made r s) = room_is r s one lawful in
    let some : length (room_made r s).lir ≤ r.most_lir = t.some in
    let less : room (room_made r s) < r.frames = t.few in
    let there : Places r p (room_made r s) (placed r p (room_made r s)) = places r p (room_made r s) (record { some = some; few = omega (arith, less) }) in
    let l : length (to_front p (room_made r s).queue) ≤ length (room_made r s).queue + 1 = length_front p (room_made r s).queue in
    let f : room (placed r p (room_made r s)) ≤ length (room_made r s).lir + length (to_front p (room_made r s).queue) = there.few in
    record {
      found = found p s;
      leaves = miss_leaves r.frames p (pages s) (pages (placed r p (room_made r s))) (out ∙ found p s) there.there
          (let z : length (pages (placed r p (room_made r s))) ≡ room (placed r p (room_made r s)) = size (placed r p (room_made r s)) in omega (arith, z, f, l, less))
          (λ test.
          let a : number test (pages (placed r p (room_made r s))) ≡ count test (placed r p (room_made r s)) = counted test (placed r p (room_made r s)) in
          let b : number test (pages s) ≡ count test s = counted test s in
          let c : count test (placed r p (room_made r s)) ≤ number test (room_made r s).lir + number test (to_front p (room_made r s).queue) = there.from test in
          let d : count test (room_made r s) ≤ count test s = t.fewer test in
          let k : number test (to_front p (room_made r s).queue) ≤ number test (room_made r s).queue + cond (test p) 1 0 = number_front test p (room_made r s).queue in omega (arith, a, b, c, d, k));
      lawful_after = record { some = there.some; few = omega (arith, f, l, less) };
    }

serves : (r : LirsRooms) → r.most_lir < r.frames → (p : Key) (s : LirsState) → Lawful r s → Serves r.frames pages (Lawful r) in_lirs p s (lirs r p s)
serves r one p s lawful = elim (holds p s.lir) as (λ b. holds p s.lir ≡ b → cond b true (holds p s.queue) ≡ in_lirs p s → Serves r.frames pages (Lawful r) in_lirs p s (cond b (lir_used p s) (hir_used r p s))) [
  | true ↦ λ h is. used_lir r p s lawful h is
  | false ↦ λ h is. elim (holds p s.queue) as (λ b. holds p s.queue ≡ b → b ≡ in_lirs p s → Serves r.frames pages (Lawful r) in_lirs p s (placed r p (cond b s (room_made r s)))) [
    | true ↦ λ g is. used_hir r p s lawful g is
    | false ↦ λ g is. missed r p s one lawful is
  ] refl is
] refl (ap (λ (b : Bool). cond b true (holds p s.queue)) refl)

most_below : (m a b : ℕ) → 1 ≤ m → 1 ≤ b → m - max a b < m
most_below m a b some least = one (max a b) (above a b)
  where
    one : (k : ℕ) → b ≤ k → m - k < m
    one k h = omega (arith, h, some, least)

    above : (a b : ℕ) → b ≤ max a b
    above a b = grind arith

pub lirs_played : (shares : LirsShares) → 1 ≤ shares.floor → IsPlayed (lirs_misses shares)
unfolding lirs_misses
lirs_played shares least frames string some =
    served_plays frames pages (Lawful (rooms_of shares frames)) in_lirs (lirs (rooms_of shares frames)) (serves (rooms_of shares frames) (most_below frames (frames * shares.hirs / 100) shares.floor some least))
    (record { lir = []; stack = []; queue = []; gone = [] }) string (record { some = omega arith; few = omega arith })
