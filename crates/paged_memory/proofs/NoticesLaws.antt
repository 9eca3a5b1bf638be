-- Laws of what notices, endings and clearings do to the caches of a process's harts.
use Rattle.std.specs.Prelude.{IfNone, OnSome, OnOk, OnErr}
use Rattle.std.proofs.Common.{◌≡◌, ℕ, Bool, List, [], ◌∷◌, All, length, map, slice_set, Option, Some, None, Result, Ok, Err, ap, ◌∙◌, refl, sym, subst, length-set, arith}
use Rattle.std.proofs.lemmas.List.{length-map}
use Rattle.std.proofs.lemmas.List.Elements.{All-nil, All-cons}
use Rattle.page_store.specs.declared.refusal.CleanRefusal.{CleanRefusal}
use Rattle.page_store.specs.declared.refusal.LeaveRefusal.{LeaveRefusal}
use Rattle.paged_memory.specs.cleaning.Cleaning.{BeginsCleaning}
use Rattle.tlb_core.specs.Cache.{doomed}
use Rattle.tlb_core.specs.declared.translation.Translation.{Translation}
use Rattle.paged_memory.specs.moves.Moving.{BeginsToLeave, EmptiesCaches, ForgetsUse, HasNothingBelow, OnlyCaches}
use Rattle.paged_memory.specs.access.Notices.{emptied}
use Rattle.paged_memory.specs.Paged.{PagedValue}
use Rattle.paged_memory.specs.Whole.{harts_in}

-- caches that were emptied are empty
quiet : (caches : List (List Translation)) → All {X = List Translation} (λ cache. cache ≡ []) (map (λ _. []) caches)
quiet [] = All-nil {X = List Translation} (λ cache. cache ≡ [])
quiet (cache ∷ caches) = All-cons {X = List Translation} (λ cache. cache ≡ []) [] (map (λ _. []) caches) refl (quiet caches)

-- as many of them are the same
empty_as : (few many : List (List Translation)) → length few ≡ length many → map {B = List Translation} (λ _. []) few ≡ map (λ _. []) many
empty_as [] [] same = refl
empty_as [] (b ∷ more) same = absurd (omega (arith, same))
empty_as (a ∷ few) [] same = absurd (omega (arith, same))
empty_as (a ∷ few) (b ∷ many) same = ap (λ l. [] ∷ l) (empty_as few many (omega (arith, same)))

module _ {S : Type 0} where
  pub emptied_quiet : (old mid : PagedValue S) → mid ≡ emptied old → All {X = List Translation} (λ cache. cache ≡ []) mid.caches
  emptied_quiet old mid clear = subst (λ (m : PagedValue S). All {X = List Translation} (λ cache. cache ≡ []) m.caches) (sym clear) (quiet old.caches)

  pub emptied_harts : (memory : PagedValue S) → harts_in (emptied memory) ≡ harts_in memory
  emptied_harts memory = length-map memory.caches (λ _. [])

  -- a page that had nothing to give has nothing once the caches are emptied
  pub emptied_before : (old mid : PagedValue S) (from : ℕ) → mid ≡ emptied old → HasNothingBelow from old → HasNothingBelow from mid
  emptied_before old mid from clear before = subst (λ (m : PagedValue S). HasNothingBelow from m) (sym clear) before

  -- a hart's cache is another
  pub noticed_harts : (hart : ℕ) (cache : List Translation) (old new : PagedValue S) → new ≡ record old { caches = slice_set old.caches hart cache } → harts_in new ≡ harts_in old
  noticed_harts hart cache old new only = ap (λ (m : PagedValue S). length m.caches) only ∙ length-set old.caches hart cache

  pub noticed_only : (hart : ℕ) (cache : List Translation) (old new : PagedValue S) → new ≡ record old { caches = slice_set old.caches hart cache } → OnlyCaches old new
  noticed_only hart cache old new only = only ∙ ap (λ cs. record old { caches = cs }) (sym (ap (λ (m : PagedValue S). m.caches) only))

  -- caches whose translations were marked are as many
  pub cleared_harts : (o : Option Bool) (vpn : ℕ) (old new : PagedValue S) → IfNone o (new ≡ old) → OnSome o (ForgetsUse vpn old new) → harts_in new ≡ harts_in old
  cleared_harts None vpn old new same marked = ap (λ (m : PagedValue S). length m.caches) same
  cleared_harts (Some bit) vpn old new same marked = ap length marked.caches ∙ length-map old.caches (doomed vpn)

  pub left_harts : (r : Result Unit LeaveRefusal) (vpn : ℕ) (old new : PagedValue S) → OnErr r (new ≡ old) → OnOk r (BeginsToLeave vpn old new) → harts_in new ≡ harts_in old
  left_harts (Err refusal) vpn old new same marked = ap (λ (m : PagedValue S). length m.caches) same
  left_harts (Ok done) vpn old new same marked = ap length marked.caches ∙ length-map old.caches (doomed vpn)

  pub begun_harts : (ended : Bool) (r : Result Unit CleanRefusal) (vpn : ℕ) (old new : PagedValue S) → OnErr r (new ≡ old) → OnOk r (BeginsCleaning ended vpn old new) → harts_in new ≡ harts_in old
  begun_harts ended (Err refusal) vpn old new same marked = ap (λ (m : PagedValue S). length m.caches) same
  begun_harts ended (Ok done) vpn old new same marked = ap length marked.caches ∙ length-map old.caches (doomed vpn)

  -- ---- no cache holds a translation

  -- emptied caches are those of any memory with as many
  pub empties_as : (old between new : PagedValue S) → harts_in between ≡ harts_in old → EmptiesCaches between new → EmptiesCaches old new
  empties_as old between new same empties = empties ∙ empty_as between.caches old.caches same

  pub empties_harts : (old new : PagedValue S) → EmptiesCaches old new → harts_in new ≡ harts_in old
  empties_harts old new empties = ap length empties ∙ length-map old.caches (λ _. [])
