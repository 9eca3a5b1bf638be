-- How an access uses, reaches or writes a page.
use Rattle.std.specs.Prelude.{◌≡◌, ℕ, ◌^◌, ◌<◌, List, Result, Ok, Err, IfOk, OnOk, Some, length, refl}
use Rattle.std.proofs.Common.{inl, inr}
use Rattle.page_memory.specs.declared.words.Access.{Access}
use Rattle.page_memory.specs.declared.words.Access.TheVariants.{Store}
use Rattle.page_memory.specs.Entries.{value_at, with_value}
use Rattle.page_store.specs.Lending.{with_bytes}
use Rattle.page_store.specs.PageValue.{PageValue}
use Rattle.rv_exec.specs.declared.bus.BusError.{BusError}
use Rattle.rv_exec.specs.declared.bus.BusError.TheVariants.{Fault, Absent}
use Rattle.tlb_core.specs.Cache.{Hits}
use Rattle.tlb_core.specs.declared.translation.Translation.{Translation}
use Rattle.paged_memory.specs.access.Access.{KeepsTranslations, Reaches, Serves, ServesHeld, cache_of}
use Rattle.paged_memory.specs.access.OnePage.{ReachesPage, UsesPage, WritesPage}
use Rattle.paged_memory.specs.Paged.{Holds}
use Rattle.paged_memory.proofs.access_laws.HitLaws.{has_hit, marks_hit, reaches_hit, reaches_takes}
use Rattle.paged_memory.proofs.move_laws.LentLaws.{bare_lent, holds_lent}
use Rattle.paged_memory.proofs.access_laws.ReservationLaws.{bare_itself}

-- a page that the cache shows is not absent to an access that would answer something else either
held_refused : (A B : Type 0) (cache : List Translation) (access : Access) (page : ℕ) (refusal : BusError) → ServesHeld {A = A} cache access page (Err refusal) → ServesHeld {A = B} cache access page (Err refusal)
held_refused A B cache access page (Fault fault) is = λ place hits. tt
held_refused A B cache access page (Absent absent) is = is

-- what follows where something is answered
pub on_answer : {A P Q : Type 0} (result : Result A BusError) → (P → Q) → OnOk result P → OnOk result Q
on_answer (Ok answer) step is = step is
on_answer (Err refusal) step is = tt

-- what follows from a place where one is answered
pub on_place : {A : Type 0} {P : A → Type 0} {Q : Type 0} (result : Result A BusError) → ((place : A) → P place → Q) → IfOk result P → OnOk result Q
on_place (Ok place) step is = step place is
on_place (Err refusal) step is = tt

module _ {S : Type 0} {hart page : ℕ} {access : Access} {pages : List (ℕ × PageValue S)} {tables tables' : List (List ℕ)} {caches caches' : List (List Translation)} where
  -- the same use by an access that answers something else
  pub uses_answered : {A B : Type 0} {first : A} {second : B} → UsesPage hart access page (Ok first) pages tables tables' caches caches' → UsesPage hart access page (Ok second) pages tables tables' caches caches'
  uses_answered uses = record { held = λ place hits. tt; kept = uses.kept; entries = uses.entries; unmarked = tt; unfilled = tt; served = uses.served; shown = uses.shown; dirtied = uses.dirtied }

  pub uses_refused : {A B : Type 0} {refusal : BusError} → UsesPage {A = A} hart access page (Err refusal) pages tables tables' caches caches' → UsesPage {A = B} hart access page (Err refusal) pages tables tables' caches caches'
  uses_refused {A} {B} {refusal} uses = record { held = held_refused A B (cache_of caches hart) access page refusal uses.held; kept = uses.kept; entries = uses.entries; unmarked = uses.unmarked; unfilled = uses.unfilled; served = uses.served; shown = tt; dirtied = λ is. tt }

module _ {S : Type 0} (hart page : ℕ) (pages : List (ℕ × PageValue S)) (tables : List (List ℕ)) (caches : List (List Translation)) where
  -- nothing changes
  pub keeps_itself : KeepsTranslations pages hart page tables tables caches caches
  keeps_itself = record {
    harts = refl;
    others = λ h apart. refl;
    used = λ q small is. is;
    changed = λ q small is. is;
    held = λ q is. inr is;
    doomed = λ q t found is. found;
    tabled = λ q small. refl;
    fills = inl (refl, refl);
  }

  pub uses_itself : {A : Type 0} (access : Access) (answer : A) → Serves (cache_of caches hart) access page → UsesPage hart access page (Ok answer) pages tables tables caches caches
  uses_itself access answer serves = record {
    held = λ place hits. tt;
    kept = keeps_itself;
    entries = inl refl;
    unmarked = tt;
    unfilled = tt;
    served = λ other. (refl, refl);
    shown = serves;
    dirtied = λ is. inl serves;
  }

-- a page is reached where the hart's cache shows it
pub reaches_at_once : {S : Type 0} {held : S → List ℕ} {honest : Type 0} {pages : List (ℕ × PageValue S)} {tables : List (List ℕ)} {caches : List (List Translation)} (page hart place : ℕ) (access : Access) → Holds held honest pages tables caches → hart < length caches → Hits (cache_of caches hart) access page place
    → ReachesPage hart access page (Ok place) pages tables tables caches caches
reaches_at_once {pages} {tables} {caches} page hart place access holds within hits = record {
  reaches = reaches_hit page hart place access holds within hits;
  refused = tt;
  has = has_hit page hart place access holds within hits;
  marked = marks_hit page hart place access holds within hits;
  uses = uses_itself hart page pages tables caches access place (record { place = place; hits = hits });
}

-- a page is written that is lent from the place that a store reached, whatever the write answers
pub writes_lent : {S : Type 0} {held : S → List ℕ} {honest : Type 0} {pages : List (ℕ × PageValue S)} {before tables : List (List ℕ)} {caches_before caches : List (List Translation)} {A B : Type 0} {hart : ℕ} {reply : A} {answer : B} (page place : ℕ) → page < 2 ^ 20 → Holds held honest pages tables caches
    → Reaches pages tables Store page place → UsesPage hart Store page (Ok reply) pages before tables caches_before caches → (lent now : PageValue S) → value_at place pages ≡ Some lent → (bytes : List ℕ) → now ≡ with_bytes lent bytes
    → WritesPage held honest hart page (Ok answer) pages (with_value pages place now) before tables caches_before caches
writes_lent {pages} {tables} page place small holds reached uses lent now at bytes is = record {
  holds = holds_lent page place small holds reached lent now at bytes is;
  uses = uses_answered uses;
  bare = bare_lent page place small holds reached lent now at bytes is;
  takes = reaches_takes pages tables Store page place reached refl;
  refused = tt;
}

-- a write that is refused changes no page
pub writes_refused : {S : Type 0} {held : S → List ℕ} {honest : Type 0} {pages : List (ℕ × PageValue S)} {before tables : List (List ℕ)} {caches_before caches : List (List Translation)} {A B : Type 0} {hart page : ℕ} {refusal : BusError} → Holds held honest pages tables caches
    → UsesPage {A = A} hart Store page (Err refusal) pages before tables caches_before caches → WritesPage {A = B} held honest hart page (Err refusal) pages pages before tables caches_before caches
writes_refused {pages} holds uses = record { holds = holds; uses = uses_refused uses; bare = bare_itself pages; takes = tt; refused = refl }
