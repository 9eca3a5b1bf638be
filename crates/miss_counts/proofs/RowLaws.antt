-- Rows that play, skip what came, and tell their counts.
use Rattle.std.specs.Prelude.{◌≡◌, ℕ, ◌+◌, ◌-◌, ◌<◌, ◌≤◌, ◌^◌, Bool, List, [], ◌∷◌, ◌++◌, length, take, map, option_map, Option, Some, None, refl}
use Rattle.std.specs.List.{AllZip}
use Rattle.std.proofs.Common.{arith, ap, sym, ◌∙◌}
use Rattle.std.proofs.lemmas.List.{append-nil, append_assoc, length-append}
use Rattle.guest_strings.specs.declared.reference.Reference.{Reference}
use Rattle.page_policies.specs.declared.frames.Frames.{Frames}
use Rattle.miss_counts.specs.Counted.{asked, count_of, misses_of, serves}
use Rattle.miss_counts.specs.Playing.{Begins, Opens, PlaysPages, StartsAnew, Where}
use Rattle.miss_counts.specs.Replayed.{HasCounted, CountsWhereServed, CountsByName, HasPlayed, RowPlays, RowSkips, RowTells, missed_behind}
use Rattle.miss_counts.specs.contracts.any_player.AnyPlayerCounting.TheImpl as any
use Rattle.miss_counts.specs.declared.any_player.AnyPlayer.{AnyPlayer}
use Rattle.miss_counts.specs.declared.counts.PolicyCount.{PolicyCount}
use Rattle.miss_counts.specs.declared.counts.PolicyCounts.{PolicyCounts}
use Rattle.miss_counts.specs.declared.policy_name.PolicyName.{PolicyName}
use Rattle.miss_counts.specs.declared.policy_name.PolicyName.TheVariants.{Fifo, Clock, Lru, ClockProUsed, ClockPro, TwoQueues, Lirs, Arc, Sieve, S3Fifo, WTinyLfu, Car, LruK, GClock, Lfu, Mru, SecondChance, Nru, Aging, WsClock, TwoLists, Random}
use Rattle.page_policies.specs.Queues.{fifo_misses, lru_misses}
use Rattle.page_policies.specs.SecondChance.{clock_misses}
use Rattle.page_policies.specs.Random.{random_misses}
use Rattle.younger_policies.specs.ClockProPlay.{clock_pro_misses, clock_pro_used_misses}
use Rattle.younger_policies.specs.TwoQueues.{two_queues_misses}
use Rattle.younger_policies.specs.Lirs.{lirs_misses}
use Rattle.younger_policies.specs.Arc.{arc_misses}
use Rattle.younger_policies.specs.Sieve.{sieve_misses}
use Rattle.younger_policies.specs.S3Fifo.{s3_fifo_misses}
use Rattle.tiny_lfu.specs.WTinyLfu.{w_tiny_lfu_misses}
use Rattle.textbook_policies.specs.Car.{car_misses}
use Rattle.textbook_policies.specs.LruK.{lru_k_misses}
use Rattle.textbook_policies.specs.GClock.{g_clock_misses}
use Rattle.textbook_policies.specs.Lfu.{lfu_misses}
use Rattle.textbook_policies.specs.Mru.{mru_misses}
use Rattle.ticked_policies.specs.SecondChance.{second_chance_misses}
use Rattle.ticked_policies.specs.Ticked.{aging_misses, nru_misses, ticked_misses}
use Rattle.ticked_policies.specs.WsClock.{ws_clock_misses}
use Rattle.kernel_policies.specs.TwoLists.{two_lists_misses}
use Rattle.miss_counts.specs.declared.row.NamedPlayer.{NamedPlayer}
use Rattle.miss_counts.specs.declared.row.Row.{Row}

-- what is counted, and what would be counted of a string to come
abbrev all : AnyPlayer → List Reference → ℕ
all = any.all-value.it

-- two lists and two more, place by place
pub zip_through : {A B C : Type 0} (P : A → B → Type 0) (R : B → C → Type 0) (Q : A → C → Type 0) → ((a : A) (b : B) (c : C) → P a b → R b c → Q a c) →
    (xs : List A) (ys : List B) (zs : List C) → AllZip P xs ys → AllZip R ys zs → AllZip Q xs zs
zip_through P R Q step [] [] [] p r = tt
zip_through P R Q step [] [] (z ∷ zs) p r = absurd r
zip_through P R Q step [] (y ∷ ys) zs p r = absurd p
zip_through P R Q step (x ∷ xs) [] zs p r = absurd p
zip_through P R Q step (x ∷ xs) (y ∷ ys) [] p r = absurd r
zip_through P R Q step (x ∷ xs) (y ∷ ys) (z ∷ zs) p r = (step x y z p.0 r.0, zip_through P R Q step xs ys zs p.1 r.1)

zip_weaker : {A B : Type 0} (P Q : A → B → Type 0) → ((a : A) (b : B) → P a b → Q a b) → (xs : List A) (ys : List B) → AllZip P xs ys → AllZip Q xs ys
zip_weaker P Q step [] [] p = tt
zip_weaker P Q step [] (y ∷ ys) p = absurd p
zip_weaker P Q step (x ∷ xs) [] p = absurd p
zip_weaker P Q step (x ∷ xs) (y ∷ ys) p = (step x y p.0, zip_weaker P Q step xs ys p.1)

-- items that are the same of both lists
zip_same : {A B C : Type 0} (f : A → C) (g : B → C) → (xs : List A) (ys : List B) → AllZip (λ x y. g y ≡ f x) xs ys → map g ys ≡ map f xs
zip_same f g [] [] p = refl
zip_same f g [] (y ∷ ys) p = absurd p
zip_same f g (x ∷ xs) [] p = absurd p
zip_same {C = C} f g (x ∷ xs) (y ∷ ys) p = ap (λ (c : C). c ∷ map g ys) p.0 ∙ ap (λ (l : List C). f x ∷ l) (zip_same f g xs ys p.1)

-- ---- one policy

-- nothing is missed of no references
pub nothing_missed : (policy : PolicyName) (frames : ℕ) → misses_of policy frames [] ≡ 0
unfolding fifo_misses clock_misses lru_misses clock_pro_used_misses clock_pro_misses two_queues_misses lirs_misses arc_misses sieve_misses s3_fifo_misses w_tiny_lfu_misses car_misses lru_k_misses g_clock_misses lfu_misses mru_misses nru_misses aging_misses ticked_misses ws_clock_misses two_lists_misses random_misses
nothing_missed Fifo frames = refl
nothing_missed Clock frames = refl
nothing_missed Lru frames = refl
nothing_missed ClockProUsed frames = refl
nothing_missed ClockPro frames = refl
nothing_missed (TwoQueues shares) frames = refl
nothing_missed (Lirs shares) frames = refl
nothing_missed Arc frames = refl
nothing_missed Sieve frames = refl
nothing_missed (S3Fifo shares) frames = refl
nothing_missed (WTinyLfu shares) frames = refl
nothing_missed Car frames = refl
nothing_missed (LruK uses) frames = refl
nothing_missed (GClock counts) frames = refl
nothing_missed Lfu frames = refl
nothing_missed Mru frames = refl
nothing_missed (SecondChance arrival) frames = refl
nothing_missed (Nru ticks) frames = refl
nothing_missed (Aging ticks) frames = refl
nothing_missed (WsClock set) frames = refl
nothing_missed (TwoLists parts) frames = refl
nothing_missed (Random seed) frames = refl

begun : (frames : ℕ) (policy : PolicyName) (player : Option AnyPlayer) → Begins all frames policy player → CountsWhereServed frames policy [] [] player
begun frames policy None begins = begins
begun frames policy (Some player) begins =
    let none : misses_of policy frames [] ≡ 0 = nothing_missed policy frames in
    let first : all player [] ≡ misses_of policy frames [] = begins.1 [] in record {
      served = begins.0;
      few = omega (arith, first, none);
      counts = λ string. let is : all player string ≡ misses_of policy frames string = begins.1 string in omega (arith, none, is);
    }

played_on : (pages skipped played : List Reference) (frames : ℕ) (policy : PolicyName) (p q : AnyPlayer) → length (played ++ pages) < 2 ^ 64 → HasCounted frames policy skipped played p → PlaysPages all pages p q
    → HasCounted frames policy skipped (played ++ pages) q
played_on pages skipped played frames policy p q fit h plays =
    let sized : length (played ++ pages) ≡ length played + length pages = length-append played pages in
    let few : all p [] ≤ length played = h.few in
    let more : all q [] ≤ all p [] + length pages = plays.1 in
    let goes : (string : List Reference) → all p (pages ++ string) ≡ all q string = plays.0 (omega (arith, few, sized, fit)) in record {
      served = h.served;
      few = omega (arith, more, few, sized);
      counts = λ string. ap (λ (n : ℕ). misses_of policy frames skipped + n) (sym (goes string)) ∙ h.counts (pages ++ string) ∙ ap (λ (l : List Reference). misses_of policy frames (skipped ++ l)) (sym (append_assoc played pages string));
    }

-- what was counted, and what was played
whole : (skipped played : List Reference) (frames : ℕ) (policy : PolicyName) (p : AnyPlayer) → HasCounted frames policy skipped played p → misses_of policy frames skipped + all p [] ≡ misses_of policy frames (skipped ++ played)
whole skipped played frames policy p h = h.counts [] ∙ ap (λ (l : List Reference). misses_of policy frames (skipped ++ l)) (append-nil played)

skipped_on : (skipped played : List Reference) (frames : ℕ) (policy : PolicyName) (p q : AnyPlayer) → HasCounted frames policy skipped played p → StartsAnew all p q → HasCounted frames policy (skipped ++ played) [] q
skipped_on skipped played frames policy p q h anew =
    let first : all p [] ≡ all p [] + all q [] = anew [] in
    let before : misses_of policy frames skipped + all p [] ≡ misses_of policy frames (skipped ++ played) = whole skipped played frames policy p h in record {
      served = h.served;
      few = omega (arith, first);
      counts = λ string.
          let later : all p string ≡ all p [] + all q string = anew string in
          let on : misses_of policy frames skipped + all p string ≡ misses_of policy frames (skipped ++ (played ++ string)) = h.counts string in
          let sum : misses_of policy frames (skipped ++ played) + all q string ≡ misses_of policy frames (skipped ++ (played ++ string)) = omega (arith, before, later, on) in
          sum ∙ ap (misses_of policy frames) (sym (append_assoc skipped played string));
    }

front : (skipped played : List Reference) → take (length skipped) (skipped ++ played) ≡ skipped
front [] played = refl
front (k ∷ ks) played = ap (λ (l : List Reference). k ∷ l) (front ks played)

behind : (skipped played : List Reference) (frames : ℕ) (policy : PolicyName) (p : AnyPlayer) → HasCounted frames policy skipped played p → all p [] ≡ missed_behind (length skipped) (skipped ++ played) (misses_of policy frames)
behind skipped played frames policy p h =
    let sum : misses_of policy frames skipped + all p [] ≡ misses_of policy frames (skipped ++ played) = whole skipped played frames policy p h in
    let rest : all p [] ≡ misses_of policy frames (skipped ++ played) - misses_of policy frames skipped = omega (arith, sum) in
    rest ∙ ap (λ (l : List Reference). misses_of policy frames (skipped ++ played) - misses_of policy frames l) (sym (front skipped played))

-- ---- where it serves so many frames

where_on : (pages skipped played : List Reference) (frames : ℕ) (policy : PolicyName) (p q : Option AnyPlayer) → length (played ++ pages) < 2 ^ 64 → CountsWhereServed frames policy skipped played p → Where (PlaysPages all pages) p q
    → CountsWhereServed frames policy skipped (played ++ pages) q
where_on pages skipped played frames policy None None fit h plays = h
where_on pages skipped played frames policy None (Some q) fit h plays = absurd plays
where_on pages skipped played frames policy (Some p) None fit h plays = absurd plays
where_on pages skipped played frames policy (Some p) (Some q) fit h plays = played_on pages skipped played frames policy p q fit h plays

where_skipped : (skipped played : List Reference) (frames : ℕ) (policy : PolicyName) (p q : Option AnyPlayer) → CountsWhereServed frames policy skipped played p → Where (StartsAnew all) p q
    → CountsWhereServed frames policy (skipped ++ played) [] q
where_skipped skipped played frames policy None None h anew = h
where_skipped skipped played frames policy None (Some q) h anew = absurd anew
where_skipped skipped played frames policy (Some p) None h anew = absurd anew
where_skipped skipped played frames policy (Some p) (Some q) h anew = skipped_on skipped played frames policy p q h anew

where_told : (skipped played : List Reference) (frames : ℕ) (policy : PolicyName) (p : Option AnyPlayer) → CountsWhereServed frames policy skipped played p
    → option_map (λ q. all q []) p ≡ asked (serves policy frames) (missed_behind (length skipped) (skipped ++ played) (misses_of policy frames))
where_told skipped played frames policy None h = ap (λ (b : Bool). asked b (missed_behind (length skipped) (skipped ++ played) (misses_of policy frames))) (sym h)
where_told skipped played frames policy (Some p) h =
    ap Some (behind skipped played frames policy p h) ∙ ap (λ (b : Bool). asked b (missed_behind (length skipped) (skipped ++ played) (misses_of policy frames))) (sym h.served)

-- ---- rows

pub opens : (policies : List PolicyName) (frames : Frames) (row : Row) → row.frames ≡ frames → row.references ≡ 0 → AllZip (λ policy named. Opens all frames.number policy (named.policy, named.player)) policies row.players.items
    → HasPlayed policies [] [] frames row
opens policies frames row is none each = record {
  with_frames = is;
  of_references = none;
  of_policies = zip_weaker (λ policy named. Opens all frames.number policy (named.policy, named.player)) (CountsByName frames.number [] []) (λ policy named begins. (begins.0, begun frames.number policy named.player begins.1)) policies row.players.items each;
}

pub plays : (pages : List Reference) (s t : Row) → t.frames ≡ s.frames → (s.references + length pages < 2 ^ 64 → t.references ≡ s.references + length pages)
    → AllZip (λ s t. (t.policy ≡ s.policy) × Where (PlaysPages all pages) s.player t.player) s.players.items t.players.items → RowPlays pages s t
plays pages s t same counted each = λ policies skipped played frames fit h.
    let sized : length (played ++ pages) ≡ length played + length pages = length-append played pages in
    let before : s.references ≡ length played = h.of_references in
    let now : t.references ≡ s.references + length pages = counted (omega (arith, sized, fit, before)) in record {
      with_frames = same ∙ h.with_frames;
      of_references = omega (arith, now, before, sized);
      of_policies = zip_through (CountsByName frames.number skipped played) (λ s t. (t.policy ≡ s.policy) × Where (PlaysPages all pages) s.player t.player) (CountsByName frames.number skipped (played ++ pages))
          (λ policy p q named on. (on.0 ∙ named.0, where_on pages skipped played frames.number policy p.player q.player fit named.1 on.1)) policies s.players.items t.players.items h.of_policies each;
    }

pub skips : (s t : Row) → t.frames ≡ s.frames → t.references ≡ 0 → AllZip (λ s t. (t.policy ≡ s.policy) × Where (StartsAnew all) s.player t.player) s.players.items t.players.items → RowSkips s t
skips s t same none each = λ policies skipped played frames h. record {
  with_frames = same ∙ h.with_frames;
  of_references = none;
  of_policies = zip_through (CountsByName frames.number skipped played) (λ s t. (t.policy ≡ s.policy) × Where (StartsAnew all) s.player t.player) (CountsByName frames.number (skipped ++ played) [])
      (λ policy p q named on. (on.0 ∙ named.0, where_skipped skipped played frames.number policy p.player q.player named.1 on.1)) policies s.players.items t.players.items h.of_policies each;
}

abbrev counted_of : NamedPlayer AnyPlayer → PolicyCount
counted_of named = record { policy = named.policy; count = option_map (λ p. all p []) named.player }

pub tells : (row : Row) (counts : PolicyCounts) → counts.frames ≡ row.frames → counts.references ≡ row.references
    → counts.counts.items ≡ map (λ named. record { policy = named.policy; count = option_map (λ p. all p []) named.player }) row.players.items → counts.optimum ≡ None → RowTells row counts
tells row counts same references each none = λ policies skipped played frames h. record {
  with_frames = same ∙ h.with_frames;
  of_references = references ∙ h.of_references;
  of_policies = each ∙ zip_same (count_of (missed_behind (length skipped) (skipped ++ played)) frames.number) counted_of policies row.players.items
      (zip_weaker (CountsByName frames.number skipped played) (λ policy named. counted_of named ≡ count_of (missed_behind (length skipped) (skipped ++ played)) frames.number policy)
      (λ policy named is. let count : option_map (λ p. all p []) named.player ≡ asked (serves policy frames.number) (missed_behind (length skipped) (skipped ++ played) (misses_of policy frames.number)) = where_told skipped played frames.number policy named.player is.1 in
      λ i. record { policy = is.0 i; count = count i }) policies row.players.items h.of_policies);
  of_optimum = none;
}
