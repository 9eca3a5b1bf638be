-- Which marks an access of a hart sets.
use Rattle.std.specs.Prelude.{◌≡◌, ℕ, ◌^◌, ◌<◌, ◌==◌, ◌⊎◌, ◌&&◌, Bool, true, false, if◌then◌else◌, List, [], ◌∷◌, Result, Ok, Err, IsOk, OnErr, refl}
use Rattle.std.proofs.Common.{arith, sym, ap, ◌∙◌, subst, inl, inr, eqb-true}
use Rattle.page_memory.specs.declared.fault.MemoryFault.{MemoryFault}
use Rattle.page_memory.specs.declared.words.Access.{Access}
use Rattle.page_memory.specs.declared.words.Access.TheVariants.{Fetch, Load, Store}
use Rattle.page_memory.specs.Words.{page_number}
use Rattle.rv_exec.specs.declared.bus.BusError.{BusError}
use Rattle.rv_exec.specs.Answers.{Answers, with_answer}
use Rattle.rv_exec.specs.Bounds.{Pass, Bounds}
use Rattle.rv_exec.specs.Uses.{page_of_access}
use Rattle.sv32_table.specs.Entry.{Entry, shape_of, allows, touched}
use Rattle.sv32_table.specs.EntryAt.{entry_at, ChangesEntry, is_leaf, walked_entry}
use Rattle.paged_memory.specs.access.Access.{MayWalk}
use Rattle.paged_memory.specs.access.HartMemory.{MarksWithin}

-- an access that may be a store: it stores to its pages
abbrev pub stores_of : Access → List ℕ → List ℕ
stores_of Fetch pages = []
stores_of Load pages = []
stores_of Store pages = pages

-- D is set after a walk only where it was before or the walk is a store's
dirty_walked : (access : Access) (e : Entry) (page : ℕ) (test : ℕ → Bool) → Pass test (stores_of access (page ∷ []))
    → (e.dirty ≡ true → test page ≡ true) → (walked_entry e access).dirty ≡ true → test page ≡ true
unfolding walked_entry touched
dirty_walked Fetch e page test passes was is = by_test (is_leaf (shape_of e) && allows Fetch e) is
  where
    by_test : (b : Bool) → (if b then (record e { accessed = true }) else e).dirty ≡ true → test page ≡ true
    by_test true is = was is
    by_test false is = was is
dirty_walked Load e page test passes was is = by_test (is_leaf (shape_of e) && allows Load e) is
  where
    by_test : (b : Bool) → (if b then (record e { accessed = true }) else e).dirty ≡ true → test page ≡ true
    by_test true is = was is
    by_test false is = was is
dirty_walked Store e page test passes was is = passes 0 page (omega arith)

marks_walked : (access : Access) (old new : List (List ℕ)) (page : ℕ) (used stored : ℕ → Bool)
    → ChangesEntry old new page (walked_entry (entry_at old page) access) → used page ≡ true → Pass stored (stores_of access (page ∷ []))
    → MarksWithin old used stored → MarksWithin new used stored
marks_walked access old new page used stored changes mark store was = record {
  accessed = λ q small is. accessed_by q small (q == page) refl (ap (λ (e : Entry). e.accessed) (sym (changes q small)) ∙ is);
  dirty = λ q small is. dirty_by q small (q == page) refl (ap (λ (e : Entry). e.dirty) (sym (changes q small)) ∙ is);
}
  where
    walked : Entry
    walked = walked_entry (entry_at old page) access

    accessed_by : (q : ℕ) → q < 2 ^ 20 → (b : Bool) → (q == page) ≡ b → (if b then walked else entry_at old q).accessed ≡ true → used q ≡ true
    accessed_by q small true same is = ap used (eqb-true q page same) ∙ mark
    accessed_by q small false other is = was.accessed q small is

    dirty_by : (q : ℕ) → q < 2 ^ 20 → (b : Bool) → (q == page) ≡ b → (if b then walked else entry_at old q).dirty ≡ true → stored q ≡ true
    dirty_by q small true same is =
        let here : q ≡ page = eqb-true q page same in
        ap stored here ∙ dirty_walked access (entry_at old page) page stored store (was.dirty page (subst (λ p. p < 2 ^ 20) here small)) is
    dirty_by q small false other is = was.dirty q small is

-- an access whose page memory allows, or none
bounds_answer : {A : Type 0} (access : Access) (address : ℕ) (old new : List (List ℕ)) (expected : Result A MemoryFault)
    → (new ≡ old) ⊎ (IsOk expected × ChangesEntry old new (page_number address) (walked_entry (entry_at old (page_number address)) access))
    → Bounds (MarksWithin old) (MarksWithin new) (page_of_access address expected) (stores_of access (page_of_access address expected))
bounds_answer access address old new expected (inl same) = record {
  bound = λ u s passes stores was. subst (λ tables. MarksWithin tables u s) (sym same) was;
}
bounds_answer access address old new (Ok answer) (inr walked) = record {
  bound = λ u s passes stores was. marks_walked access old new (page_number address) u s walked.1 (passes 0 (page_number address) (omega arith)) stores was;
}
bounds_answer access address old new (Err fault) (inr walked) = absurd (cc)

-- what a bus's answer says of the marks, where a refusal leaves the tables
pub bounds_access : {A : Type 0} (access : Access) (has marks lacks : ℕ → Type 0) (address : ℕ) (old new : List (List ℕ)) (expected : Result A MemoryFault) (result : Result A BusError)
    → Answers has marks lacks address expected result → MayWalk access (page_number address) old new → OnErr result (new ≡ old)
    → Bounds (MarksWithin old) (MarksWithin new) (page_of_access address expected) (stores_of access (page_of_access address expected))
bounds_access access has marks lacks address old new expected (Ok answer) answers (inl same) unmarked = bounds_answer access address old new expected (inl same)
bounds_access access has marks lacks address old new expected (Ok answer) answers (inr walked) unmarked =
    bounds_answer access address old new expected (inr (subst IsOk (sym answers.0) refl, walked))
bounds_access access has marks lacks address old new expected (Err refusal) answers walks unmarked = bounds_answer access address old new expected (inl unmarked)

-- the same of an answer with another value
pub bounds_access_with : {A B : Type 0} (access : Access) (has marks lacks : ℕ → Type 0) (address : ℕ) (old new : List (List ℕ)) (expected : Result A MemoryFault) (f : B → A) (result : Result B BusError)
    → Answers has marks lacks address expected (with_answer f result) → MayWalk access (page_number address) old new → OnErr result (new ≡ old)
    → Bounds (MarksWithin old) (MarksWithin new) (page_of_access address expected) (stores_of access (page_of_access address expected))
bounds_access_with access has marks lacks address old new expected f (Ok answer) answers walks unmarked =
    bounds_access access has marks lacks address old new expected (Ok (f answer)) answers walks unmarked
bounds_access_with access has marks lacks address old new expected f (Err refusal) answers walks unmarked =
    bounds_access access has marks lacks address old new expected (Err refusal) answers walks unmarked

-- the tables stay
pub bounds_same : (old new : List (List ℕ)) → new ≡ old → Bounds (MarksWithin old) (MarksWithin new) [] []
bounds_same old new same = record { bound = λ u s passes stores was. subst (λ tables. MarksWithin tables u s) (sym same) was }
