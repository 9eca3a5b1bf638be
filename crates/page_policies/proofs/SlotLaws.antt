-- The circle's cells as slots.
use Rattle.std.specs.Prelude.{◌≡◌, ℕ, zero, suc, ◌+◌, ◌-◌, ◌<◌, ◌≤◌, ◌==◌, ◌||◌, Bool, true, false, cond, nat_lt, List, [], ◌∷◌, ◌++◌, length, drop, Option, Some, None, is_some, refl}
use Rattle.std.proofs.Common.{arith, sym, ap, ◌∙◌}
use Rattle.std.proofs.lemmas.Bool.Decides.{nat_tests}
use Rattle.std.proofs.Math.Bool.{or-true}
use Rattle.clock_policy.specs.declared.key.Key.{Key}
use Rattle.clock_policy.specs.declared.entry.EntryKind.TheVariants.{Hot}
use Rattle.page_ring.specs.Linked.{Cell, is_at}
use Rattle.page_ring.proofs.LinkLaws.{at_self}
use Rattle.page_ring.specs.Chain.{of_kind}
use Rattle.page_ring.specs.Index.{at_of}
use Rattle.page_policies.specs.Strings.{is_page}
use Rattle.page_policies.specs.SecondChance.{Slot, in_slots, touched, front_used, turned, one_gone, room_made, slot_of, slots_of}

pub slots-append : (a b : List Cell) → slots_of (a ++ b) ≡ slots_of a ++ slots_of b
slots-append [] b = refl
slots-append (c ∷ cs) b = ap (λ (l : List Slot). slot_of c ∷ l) (slots-append cs b)

pub length-slots : (cs : List Cell) → length (slots_of cs) ≡ length cs
length-slots [] = refl
length-slots (c ∷ cs) = ap suc (length-slots cs)

pub in_slots_at : (p : Key) (cs : List Cell) → in_slots p (slots_of cs) ≡ is_some (at_of p cs)
in_slots_at p [] = refl
in_slots_at p (c ∷ cs) = elim (is_page c.entry.key p) as (λ t. cond t true (in_slots p (slots_of cs)) ≡ is_some (cond t (Some c.at) (at_of p cs))) [ true ↦ refl | false ↦ in_slots_at p cs ]

-- the cell that a page is found in
pub record Touches (p : Key) (cs : List Cell) (at : ℕ) : Type 0 where
  pub before : List Cell
  pub cell : Cell
  pub behind : List Cell
  pub parts : cs ≡ before ++ cell ∷ behind
  pub is : cell.at ≡ at
  pub touches : slots_of (before ++ of_kind Hot cell ∷ behind) ≡ touched p (slots_of cs)

pub touches : (p : Key) (cs : List Cell) (at : ℕ) → at_of p cs ≡ Some at → Touches p cs at
touches p [] at h = cc
touches p (c ∷ cs) at h =
    elim (is_page c.entry.key p) as (λ t. is_page c.entry.key p ≡ t → cond t (Some c.at) (at_of p cs) ≡ Some at → Touches p (c ∷ cs) at) [
      | true ↦ λ is g. record {
        before = [];
        cell = c;
        behind = cs;
        parts = refl;
        is = one g;
        touches = sym (ap (λ (t : Bool). cond t (record { page = c.entry.key; used = true } ∷ slots_of cs) (slot_of c ∷ touched p (slots_of cs))) is);
      }
      | false ↦ λ is g. let e : Touches p cs at = touches p cs at g in record {
        before = c ∷ e.before;
        cell = e.cell;
        behind = e.behind;
        parts = ap (λ (l : List Cell). c ∷ l) e.parts;
        is = e.is;
        touches = ap (λ (l : List Slot). slot_of c ∷ l) e.touches ∙ sym (ap (λ (t : Bool). cond t (record { page = c.entry.key; used = true } ∷ slots_of cs) (slot_of c ∷ touched p (slots_of cs))) is);
      }
    ] refl h
  where
    one : {a b : ℕ} → Some a ≡ Some b → a ≡ b
    one h = cc

pub found_at : (p : Key) (cs : List Cell) (at : ℕ) → at_of p cs ≡ Some at → is_at cs at ≡ true
found_at p [] at h = cc
found_at p (c ∷ cs) at h =
    elim (is_page c.entry.key p) as (λ t. cond t (Some c.at) (at_of p cs) ≡ Some at → (c.at == at) || is_at cs at ≡ true) [
      | true ↦ λ g. let e : c.at ≡ at = one g in ap (λ (n : ℕ). (c.at == n) || is_at cs n) (sym e) ∙ here c cs
      | false ↦ λ g. rw (found_at p cs at g) (or-true (c.at == at))
    ] h
  where
    one : {a b : ℕ} → Some a ≡ Some b → a ≡ b
    one h = cc

    here : (c : Cell) (cs : List Cell) → (c.at == c.at) || is_at cs c.at ≡ true
    here c cs = rw (at_self c.at) refl

-- The front.

pub record FrontAt (cs : List Cell) (at : ℕ) : Type 0 where
  pub cell : Cell
  pub rest : List Cell
  pub parts : cs ≡ cell ∷ rest
  pub is : at ≡ cell.at
  pub held : is_at cs at ≡ true

pub front_at : (cs : List Cell) (at : ℕ) → 1 ≤ length cs → ((c : Cell) → (ds : List Cell) → cs ≡ c ∷ ds → at ≡ c.at) → FrontAt cs at
front_at [] at some h = absurd (omega (arith, some))
front_at (c ∷ cs) at some h = record { cell = c; rest = cs; parts = refl; is = h c cs refl; held = ap (is_at (c ∷ cs)) (h c cs refl) ∙ rw (at_self c.at) refl }

pub length-turned : (s : List Slot) → length (turned s) ≡ length s
length-turned [] = refl
length-turned (x ∷ xs) = longer xs (record { page = x.page; used = false })
  where
    longer : (xs : List Slot) (y : Slot) → length (xs ++ y ∷ []) ≡ suc (length xs)
    longer [] y = refl
    longer (x ∷ xs) y = ap suc (longer xs y)

pub length-drop_one : (s : List Slot) → length (drop 1 s) ≡ length s - 1
length-drop_one [] = refl
length-drop_one (x ∷ xs) = omega arith

pub length-one_gone : (n : ℕ) (s : List Slot) → length (one_gone n s) ≡ length s - 1
length-one_gone zero s = length-drop_one s
length-one_gone (suc n) s = elim (front_used s) as (λ t. length (cond t (one_gone n (turned s)) (drop 1 s)) ≡ length s - 1) [
  | true ↦ length-one_gone n (turned s) ∙ ap (λ (k : ℕ). k - 1) (length-turned s)
  | false ↦ length-drop_one s
]

pub length-room_made : (m : ℕ) (s : List Slot) → 1 ≤ m → length s ≤ m → length (room_made m s) < m
length-room_made m s some few = elim (nat_lt (length s) m) as (λ t. nat_lt (length s) m ≡ t → length (cond t s (one_gone (length s) s)) < m) [
  | true ↦ λ is. grind (arith, nat_tests, is)
  | false ↦ λ is. let e : length (one_gone (length s) s) ≡ length s - 1 = length-one_gone (length s) s in omega (arith, e, some, few)
] refl

-- a page that is nowhere is nowhere after

out_append : (p : Key) (a : List Slot) (y : Slot) → in_slots p a ≡ false → is_page y.page p ≡ false → in_slots p (a ++ y ∷ []) ≡ false
out_append p [] y h g = ap (λ (t : Bool). cond t true false) g
out_append p (x ∷ xs) y h g = elim (is_page x.page p) as (λ t. cond t true (in_slots p xs) ≡ false → cond t true (in_slots p (xs ++ y ∷ [])) ≡ false) [ true ↦ λ k. cc | false ↦ λ k. out_append p xs y k g ] h

out_head : (p : Key) (x : Slot) (xs : List Slot) → in_slots p (x ∷ xs) ≡ false → is_page x.page p ≡ false
out_head p x xs h = elim (is_page x.page p) as (λ t. cond t true (in_slots p xs) ≡ false → t ≡ false) [ true ↦ λ k. cc | false ↦ λ k. refl ] h

out_tail : (p : Key) (x : Slot) (xs : List Slot) → in_slots p (x ∷ xs) ≡ false → in_slots p xs ≡ false
out_tail p x xs h = elim (is_page x.page p) as (λ t. cond t true (in_slots p xs) ≡ false → in_slots p xs ≡ false) [ true ↦ λ k. cc | false ↦ λ k. k ] h

out_turned : (p : Key) (s : List Slot) → in_slots p s ≡ false → in_slots p (turned s) ≡ false
out_turned p [] h = h
out_turned p (x ∷ xs) h = out_append p xs (record { page = x.page; used = false }) (out_tail p x xs h) (out_head p x xs h)

out_dropped : (p : Key) (s : List Slot) → in_slots p s ≡ false → in_slots p (drop 1 s) ≡ false
out_dropped p [] h = h
out_dropped p (x ∷ xs) h = out_tail p x xs h

out_gone : (n : ℕ) (p : Key) (s : List Slot) → in_slots p s ≡ false → in_slots p (one_gone n s) ≡ false
out_gone zero p s h = out_dropped p s h
out_gone (suc n) p s h = elim (front_used s) as (λ t. in_slots p (cond t (one_gone n (turned s)) (drop 1 s)) ≡ false) [ true ↦ out_gone n p (turned s) (out_turned p s h) | false ↦ out_dropped p s h ]

pub out_made : (m : ℕ) (p : Key) (s : List Slot) → in_slots p s ≡ false → in_slots p (room_made m s) ≡ false
out_made m p s h = elim (nat_lt (length s) m) as (λ t. in_slots p (cond t s (one_gone (length s) s)) ≡ false) [ true ↦ h | false ↦ out_gone (length s) p s h ]

pub out_nowhere : (p : Key) (cs : List Cell) → in_slots p (slots_of cs) ≡ false → at_of p cs ≡ None
out_nowhere p cs h = nothing (at_of p cs) (sym (in_slots_at p cs) ∙ h)
  where
    nothing : (o : Option ℕ) → is_some o ≡ false → o ≡ None
    nothing None h = refl
    nothing (Some n) h = cc

-- The hand's turns, one by one.

pub turn_more : (n i : ℕ) (s t : List Slot) → i < n → front_used s ≡ true → t ≡ turned s → one_gone (n - (i + 1)) t ≡ one_gone (n - i) s
turn_more n i s t h used is =
    let e : n - i ≡ suc (n - (i + 1)) = omega (arith, h) in
    ap (one_gone (n - (i + 1))) is
    ∙ sym (ap (λ (b : Bool). cond b (one_gone (n - (i + 1)) (turned s)) (drop 1 s)) used)
    ∙ ap (λ (k : ℕ). one_gone k s) (sym e)

pub room_full : (m n : ℕ) (cs : List Cell) (t : List Slot) → n ≡ length cs → m ≤ n → t ≡ one_gone n (slots_of cs) → t ≡ room_made m (slots_of cs)
room_full m n cs t len full is =
    let same : length (slots_of cs) ≡ n = length-slots cs ∙ sym len in
    let no : nat_lt (length (slots_of cs)) m ≡ false = ap (λ (k : ℕ). nat_lt k m) same ∙ above n m full in
    is ∙ ap (λ (k : ℕ). one_gone k (slots_of cs)) (sym same)
    ∙ sym (ap (λ (b : Bool). cond b (slots_of cs) (one_gone (length (slots_of cs)) (slots_of cs))) no)
  where
    above : (n m : ℕ) → m ≤ n → nat_lt n m ≡ false
    above n m h = grind (arith, nat_tests)

pub room_free : (m n : ℕ) (cs : List Cell) → n ≡ length cs → n < m → slots_of cs ≡ room_made m (slots_of cs)
room_free m n cs len few =
    let same : length (slots_of cs) ≡ n = length-slots cs ∙ sym len in
    let yes : nat_lt (length (slots_of cs)) m ≡ true = ap (λ (k : ℕ). nat_lt k m) same ∙ below n m few in
    sym (ap (λ (b : Bool). cond b (slots_of cs) (one_gone (length (slots_of cs)) (slots_of cs))) yes)
  where
    below : (n m : ℕ) → n < m → nat_lt n m ≡ true
    below n m h = grind (arith, nat_tests)

-- a page that comes in

pub in_nowhere : (m : ℕ) (p : Key) (cs ds : List Cell) → at_of p cs ≡ None → slots_of ds ≡ room_made m (slots_of cs) → at_of p ds ≡ None
in_nowhere m p cs ds none is = out_nowhere p ds (ap (in_slots p) is ∙ out_made m p (slots_of cs) (in_slots_at p cs ∙ ap is_some none))

pub made_few : (m : ℕ) (cs ds : List Cell) → 1 ≤ m → length cs ≤ m → slots_of ds ≡ room_made m (slots_of cs) → length ds < m
made_few m cs ds some few is =
    let before : length (slots_of cs) ≡ length cs = length-slots cs in
    let after : length ds ≡ length (room_made m (slots_of cs)) = sym (length-slots ds) ∙ ap length is in
    let less : length (room_made m (slots_of cs)) < m = length-room_made m (slots_of cs) some (omega (arith, before, few)) in
    omega (arith, after, less)

pub length_more : (ds : List Cell) (c : Cell) → length (ds ++ c ∷ []) ≡ length ds + 1
length_more [] c = refl
length_more (d ∷ ds) c = let e : length (ds ++ c ∷ []) ≡ length ds + 1 = length_more ds c in omega (arith, e)

pub length_marked : (cs before behind : List Cell) (c d : Cell) → cs ≡ before ++ c ∷ behind → length (before ++ d ∷ behind) ≡ length cs
length_marked cs before behind c d parts = either before ∙ sym (ap length parts)
  where
    either : (before : List Cell) → length (before ++ d ∷ behind) ≡ length (before ++ c ∷ behind)
    either [] = refl
    either (b ∷ bs) = ap suc (either bs)
