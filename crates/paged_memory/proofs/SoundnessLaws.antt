-- What keeps pages, tables and caches together when one page changes.
use Rattle.std.specs.Prelude.{◌≡◌, ℕ, ◌^◌, ◌<◌, ◌==◌, ◌≢◌, Bool, true, false, ◌||◌, Option, Some, None, List, All, map, refl}
use Rattle.std.proofs.Common.{sym, ap, ◌∙◌, subst, eqb-true, eq-eqb, true≢false, ne_eqb}
use Rattle.std.proofs.lemmas.List.Elements.{All-map, All-weaker}
use Rattle.sv32_table.specs.Entry.{Entry}
use Rattle.tlb_core.specs.declared.translation.Translation.{Translation}
use Rattle.tlb_core.specs.Cache.{doomed_entry, doomed}
use Rattle.paged_memory.specs.Seen.{Seen, frame_seen, rights_seen, takes_stores, is_used}
use Rattle.paged_memory.specs.Soundness.{IsMapped, IsSound, Agree}

-- pages and entries are what they were, but for one page's
pub record ChangesAt (pages pages' : ℕ → Option Seen) (entries entries' : ℕ → Entry) (page : ℕ) : Type 0 where
  pub seen : (q : ℕ) → (q == page) ≡ false → pages' q ≡ pages q
  pub entry : (q : ℕ) → q < 2 ^ 20 → (q == page) ≡ false → entries' q ≡ entries q

-- what one hart's translations and all harts' are of pages
abbrev pub SoundCache : (ℕ → Option Seen) → (ℕ → Entry) → List Translation → Type 0
SoundCache pages entries cache = All (λ t. IsSound (pages t.page) (entries t.page) t) cache

-- no cache holds a translation of the page
abbrev pub Unheld : ℕ → List (List Translation) → Type 0
Unheld page caches = All (λ cache. All (λ t. t.page ≢ page) cache) caches

-- a translation of a page that keeps its frame and its rights, and is not less changed, is sound once it is doomed, or
-- if the page's use is marked where it was
pub record Stays (seen seen' : Option Seen) (e e' : Entry) : Type 0 where
  pub frame : frame_seen seen' ≡ frame_seen seen
  pub rights : rights_seen seen' ≡ rights_seen seen
  pub changed : takes_stores seen e ≡ true → takes_stores seen' e' ≡ true

or_true : (b : Bool) → (b || true) ≡ true
or_true true = refl
or_true false = refl

module _ {seen seen' : Option Seen} {e e' : Entry} (stays : Stays seen seen' e e') (t : Translation) where
  pub sound_still : (is_used seen e ≡ true → is_used seen' e' ≡ true) → IsSound seen e t → IsSound seen' e' t
  sound_still used sound =
      record {
        small = sound.small;
        frame = stays.frame ∙ sound.frame;
        rights = stays.rights ∙ sound.rights;
        changed = λ dirty. stays.changed (sound.changed dirty);
        used = λ undoomed. used (sound.used undoomed);
      }

  pub sound_doomed : (page : ℕ) → t.page ≡ page → IsSound seen e t → IsSound seen' e' (doomed_entry page t)
  sound_doomed page at sound =
      record {
        small = sound.small;
        frame = stays.frame ∙ sound.frame;
        rights = stays.rights ∙ sound.rights;
        changed = λ dirty. stays.changed (sound.changed dirty);
        used = λ undoomed.
            let is : (t.page == page) ≡ true = eq-eqb t.page page at in
            absurd (true≢false (sym (ap (λ b. t.doomed || b) is ∙ or_true t.doomed) ∙ undoomed));
      }

-- no cache holds a translation of the page with the dirty mark
abbrev pub Unmarked : ℕ → List (List Translation) → Type 0
Unmarked page caches = All (λ cache. All (λ t. t.page ≡ page → t.dirty ≡ false) cache) caches

-- one without the dirty mark is sound whether stores may reach the page or not
sound_unmarked : {seen seen' : Option Seen} {e e' : Entry} (t : Translation) → frame_seen seen' ≡ frame_seen seen → rights_seen seen' ≡ rights_seen seen → (is_used seen e ≡ true → is_used seen' e' ≡ true) → t.dirty ≡ false → IsSound seen e t → IsSound seen' e' t
sound_unmarked t frame rights used unmarked sound =
    record {
      small = sound.small;
      frame = frame ∙ sound.frame;
      rights = rights ∙ sound.rights;
      changed = λ dirty. absurd (true≢false (sym dirty ∙ unmarked));
      used = λ undoomed. used (sound.used undoomed);
    }

-- of a page that it is not of, a doomed translation is as before
doomed_other : (page : ℕ) (t : Translation) → (t.page == page) ≡ false → doomed_entry page t ≡ t
doomed_other page t other = rw (other, or_false t.doomed) refl
  where
    or_false : (b : Bool) → (b || false) ≡ b
    or_false true = refl
    or_false false = refl

module _ {pages pages' : ℕ → Option Seen} {entries entries' : ℕ → Entry} (page : ℕ) (changes : ChangesAt pages pages' entries entries' page) (mapped : IsMapped (pages' page) (entries' page)) where
  mapped_still : ((q : ℕ) → q < 2 ^ 20 → IsMapped (pages q) (entries q)) → (q : ℕ) → q < 2 ^ 20 → IsMapped (pages' q) (entries' q)
  mapped_still old q small =
      elim (q == page) as (λ b. (q == page) ≡ b → IsMapped (pages' q) (entries' q)) [
        | true ↦ λ e. subst (λ q. IsMapped (pages' q) (entries' q)) (sym (eqb-true q page e)) mapped
        | false ↦ λ e. rw (changes.seen q e, changes.entry q small e) (old q small)
      ] refl

  sound_other : (t : Translation) → (t.page == page) ≡ false → IsSound (pages t.page) (entries t.page) t → IsSound (pages' t.page) (entries' t.page) t
  sound_other t other sound = rw (changes.seen t.page other, changes.entry t.page sound.small other) sound

  sound_here : (t : Translation) → t.page ≡ page → IsSound (pages t.page) (entries t.page) t → IsSound (pages page) (entries page) t
  sound_here t at sound = subst (λ q. IsSound (pages q) (entries q) t) at sound

  sound_there : (t : Translation) → t.page ≡ page → IsSound (pages' page) (entries' page) t → IsSound (pages' t.page) (entries' t.page) t
  sound_there t at sound = subst (λ q. IsSound (pages' q) (entries' q) t) (sym at) sound

  -- a page that no cache holds changes
  pub changed_unheld : (caches : List (List Translation)) → Agree pages entries caches → Unheld page caches → Agree pages' entries' caches
  changed_unheld caches agree unheld =
      record {
        mapped = mapped_still agree.mapped;
        cached = λ k d in_caches j c in_cache. sound_other _ (ne_eqb _ page (unheld k d in_caches j c in_cache)) (agree.cached k d in_caches j c in_cache);
      }

  -- a page keeps its frame, and its translations stand
  pub changed_held : (caches : List (List Translation)) → Agree pages entries caches → Stays (pages page) (pages' page) (entries page) (entries' page) → (is_used (pages page) (entries page) ≡ true → is_used (pages' page) (entries' page) ≡ true) → Agree pages' entries' caches
  changed_held caches agree stays used =
      record {
        mapped = mapped_still agree.mapped;
        cached = All-weaker _ _ (λ cache sound. All-weaker _ _ still cache sound) caches agree.cached;
      }
    where
      still : (t : Translation) → IsSound (pages t.page) (entries t.page) t → IsSound (pages' t.page) (entries' t.page) t
      still t sound =
          elim (t.page == page) as (λ b. (t.page == page) ≡ b → IsSound (pages' t.page) (entries' t.page) t) [
            | true ↦ λ e. let at : t.page ≡ page = eqb-true t.page page e in sound_there t at (sound_still stays t used (sound_here t at sound))
            | false ↦ λ e. sound_other t e sound
          ] refl

  -- a page keeps its frame, and none of its translations has the dirty mark
  pub changed_unmarked : (caches : List (List Translation)) → Agree pages entries caches → Unmarked page caches → frame_seen (pages' page) ≡ frame_seen (pages page) → rights_seen (pages' page) ≡ rights_seen (pages page) → (is_used (pages page) (entries page) ≡ true → is_used (pages' page) (entries' page) ≡ true) → Agree pages' entries' caches
  changed_unmarked caches agree unmarked frame rights used =
      record {
        mapped = mapped_still agree.mapped;
        cached = λ k d in_caches j c in_cache. still _ (unmarked k d in_caches j c in_cache) (agree.cached k d in_caches j c in_cache);
      }
    where
      still : (t : Translation) → (t.page ≡ page → t.dirty ≡ false) → IsSound (pages t.page) (entries t.page) t → IsSound (pages' t.page) (entries' t.page) t
      still t clear sound =
          elim (t.page == page) as (λ b. (t.page == page) ≡ b → IsSound (pages' t.page) (entries' t.page) t) [
            | true ↦ λ e. let at : t.page ≡ page = eqb-true t.page page e in sound_there t at (sound_unmarked t frame rights used (clear at) (sound_here t at sound))
            | false ↦ λ e. sound_other t e sound
          ] refl

  -- a page keeps its frame, and its translations are doomed
  pub changed_doomed : (caches : List (List Translation)) → Agree pages entries caches → Stays (pages page) (pages' page) (entries page) (entries' page) → Agree pages' entries' (map (doomed page) caches)
  unfolding doomed
  changed_doomed caches agree stays =
      record {
        mapped = mapped_still agree.mapped;
        cached =
            All-map (SoundCache pages' entries') (doomed page) caches
            (All-weaker _ _ (λ cache sound. All-map (λ t. IsSound (pages' t.page) (entries' t.page) t) (doomed_entry page) cache (All-weaker _ _ still cache sound)) caches agree.cached);
      }
    where
      still : (t : Translation) → IsSound (pages t.page) (entries t.page) t → IsSound (pages' t.page) (entries' t.page) (doomed_entry page t)
      still t sound =
          elim (t.page == page) as (λ b. (t.page == page) ≡ b → IsSound (pages' t.page) (entries' t.page) (doomed_entry page t)) [
            | true ↦ λ e.
                let at : t.page ≡ page = eqb-true t.page page e in
                subst (λ q. IsSound (pages' q) (entries' q) (doomed_entry page t)) (sym at) (sound_doomed stays t page at (sound_here t at sound))
            | false ↦ λ e. subst (λ u. IsSound (pages' t.page) (entries' t.page) u) (sym (doomed_other page t e)) (sound_other t e sound)
          ] refl

-- a page that holds no frame is in no cache
pub unheld_elsewhere : {pages : ℕ → Option Seen} {entries : ℕ → Entry} (caches : List (List Translation)) (page : ℕ) → Agree pages entries caches → frame_seen (pages page) ≡ None → Unheld page caches
unheld_elsewhere {pages} {entries} caches page agree none = All-weaker _ _ (λ cache sound. All-weaker _ _ apart cache sound) caches agree.cached
  where
    apart : (t : Translation) → IsSound (pages t.page) (entries t.page) t → t.page ≢ page
    apart t sound at = let frame : frame_seen (pages page) ≡ Some t.frame = subst (λ q. frame_seen (pages q) ≡ Some t.frame) at sound.frame in cc
