-- What a look at a page that may be leaving comes to, by its answer.
use Rattle.std.proofs.Common.{◌≡◌, ℕ, ◌^◌, ◌<◌, Bool, true, false, ◌||◌, Option, Some, None, option_map, option_and_then, refl, sym, ap, ◌∙◌, subst}
use Rattle.std.proofs.lemmas.Option.{same_Some}
use Rattle.frame_pool.specs.FrameValue.{FrameValue}
use Rattle.page_store.specs.Keeping.{Keeping, NoSlot, Saved, Unbacked, Cleaning, CopyOut, kept, is_unbacked, is_copy_out}
use Rattle.page_store.specs.Moves.{CollectedPage, collected, collect_leaving, let_go, with_spare, save_unbacked, job_of}
use Rattle.page_store.specs.PageValue.{PageValue, Place, Fresh, Resident, Leaving, Saving, Away, Purged, page_state_of, slot_of}
use Rattle.page_store.specs.declared.answer.Collected.{Collected}
use Rattle.page_store.specs.declared.answer.Collected.TheVariants as answer
use Rattle.paged_memory.specs.moves.Leaving.{CollectsAt}
use Rattle.paged_memory.specs.moves.Moving.{IsLeavingPage, IsHeldStill, WantsSlot, GoesToBacking, GoesToBeSaved, LooksAt, OnlyPages, counts_changed, dropped_to, slot_in}
use Rattle.paged_memory.specs.Paged.{PagedValue, page_at, ChangesPage}
use Rattle.paged_memory.specs.Soundness.{is_held}
use Rattle.paged_memory.specs.moves.Stages.{is_leaving_stage}
use Rattle.paged_memory.specs.Whole.{stage_in}

module _ {S : Type 0} where
  -- the slot of a job: the page's own, and the spare one is left; or else the spare one
  abbrev pub TakesSpare : Option S → S → Option S → Option S → Type 0
  TakesSpare (Some own) slot spare spare' = (slot ≡ own) × (spare' ≡ spare)
  TakesSpare None slot spare spare' = (spare ≡ Some slot) × (spare' ≡ None)

  module _ {L : Type 0} (vpn : ℕ) (spare spare' : Option S) (old new : PagedValue S) where
    abbrev pub ComesTo : Collected L S → Type 0
    ComesTo answer.NotLeaving = (is_leaving_stage (stage_in old vpn) ≡ false) × (spare' ≡ spare)
    ComesTo answer.NotYet = IsHeldStill vpn old × (spare' ≡ spare)
    ComesTo (answer.Clean frame) = GoesToBacking vpn frame old new × (spare' ≡ spare)
    ComesTo (answer.Dirty job) = GoesToBeSaved vpn job old new × TakesSpare (slot_in old vpn) job.slot spare spare'
    ComesTo answer.NoSlot = WantsSlot vpn old × (spare ≡ None)

  -- ---- a page that wants a slot

  pub wants_slotless : (vpn : ℕ) (memory : PagedValue S) → WantsSlot vpn memory → slot_in memory vpn ≡ None
  wants_slotless vpn memory wants =
      ap (option_and_then (λ (page : PageValue S). kept (slot_of page.place))) wants.page.found
      ∙ ap (λ p. kept (slot_of p)) wants.page.leaving
      ∙ wants.slotless

  pub leaving_stage : (vpn : ℕ) (memory : PagedValue S) → IsLeavingPage vpn memory → is_leaving_stage (stage_in memory vpn) ≡ true
  leaving_stage vpn memory leaving =
      ap (λ o. is_leaving_stage (option_map (λ (page : PageValue S). page_state_of page.place) o)) leaving.found
      ∙ ap (λ p. is_leaving_stage (Some (page_state_of p))) leaving.leaving

  -- it is held by no cache and no copy of it is out, and it does not go to its backing
  pub wants_uncached : (vpn : ℕ) (memory : PagedValue S) → WantsSlot vpn memory → IsHeldStill vpn memory → ⊥
  wants_uncached vpn memory wants still =
      let one : Some wants.page.page ≡ Some still.page.page = sym wants.page.found ∙ still.page.found in
      let places : wants.page.page.place ≡ still.page.page.place = ap (λ (page : PageValue S). page.place) (same_Some _ _ one) in
      let slots : wants.page.slot ≡ still.page.slot = ap slot_of (sym wants.page.leaving ∙ places ∙ still.page.leaving) in
      let alone : is_copy_out still.page.slot ≡ false = ap is_copy_out (sym slots) ∙ wants.alone in
      let clash : true ≡ false = sym still.held ∙ ap (λ b. b || is_copy_out still.page.slot) wants.held ∙ alone in
      cc

  pub wants_unbacked : (vpn : ℕ) (frame : FrameValue) (old new : PagedValue S) → WantsSlot vpn old → GoesToBacking vpn frame old new → ⊥
  wants_unbacked vpn frame old new wants goes =
      let this : wants.page.page ≡ goes.page.page = let a = wants.page.found in let b = goes.page.found in cc in
      let yes : counts_changed goes.page.page ≡ true = ap counts_changed (sym this) ∙ wants.changed in
      let no = goes.page.how.unchanged in
      cc

  -- ---- the look

  module _ (L : Type 0) (vpn : ℕ) (spare spare' : Option S) (old new : PagedValue S) (small : vpn < 2 ^ 20) (stays : OnlyPages old new) where
    module _ (page page' : PageValue S) (found : page_at old.pages vpn ≡ Some page) (origin : page'.origin ≡ page.origin) (changed : ChangesPage old.pages new.pages vpn page') where
      moved : (place : Place S) → page'.place ≡ place → page' ≡ record page { place = place }
      moved place at = ap (λ o. record { origin = o; place = page'.place }) origin ∙ ap (λ p. record { origin = page.origin; place = p }) at

      not_leaving : (place : Place S) → page.place ≡ place → is_leaving_stage (Some (page_state_of place)) ≡ false → is_leaving_stage (stage_in old vpn) ≡ false
      not_leaving place at apart =
          ap (λ o. is_leaving_stage (option_map (λ (p : PageValue S). page_state_of p.place) o)) found ∙ ap (λ p. is_leaving_stage (Some (page_state_of p))) at ∙ apart

      leaving : (frame : FrameValue) (slot : Keeping S) (mark : Bool) → page.place ≡ Leaving frame slot mark → IsLeavingPage vpn old
      leaving frame slot mark at = record { small = small; page = page; frame = frame; slot = slot; mark = mark; found = found; leaving = at }

      counts : (frame : FrameValue) (slot : Keeping S) (mark b : Bool) → page.place ≡ Leaving frame slot mark → (mark || is_unbacked slot) ≡ b → counts_changed page ≡ b
      counts frame slot mark b at is = ap (λ p. counts_changed (record page { place = p })) at ∙ is

      drops : (frame : FrameValue) (slot : Keeping S) (mark : Bool) → is_held vpn old.caches ≡ false → page.place ≡ Leaving frame slot mark → (mark || is_unbacked slot) ≡ false → page'.place ≡ dropped_to slot → GoesToBacking vpn frame old new
      drops frame slot mark held at unchanged is = record {
        small = small;
        held = held;
        page = record { page = page; page' = page'; found = found; changes = changed; how = record { slot = slot; mark = mark; was = at; unchanged = counts frame slot mark false at unchanged; is = moved (dropped_to slot) is } };
        stays = stays;
      }

      saves : (frame : FrameValue) (slot : Keeping S) (mark : Bool) (taken : S) → is_held vpn old.caches ≡ false → is_copy_out slot ≡ false → page.place ≡ Leaving frame slot mark → (mark || is_unbacked slot) ≡ true → page'.place ≡ Saving frame mark
          → TakesSpare (kept slot) taken spare spare' → ComesTo {L = L} vpn spare spare' old new (answer.Dirty (job_of old.process vpn frame taken))
      saves frame slot mark taken held alone at counted is takes = (
        record {
          small = small;
          held = held;
          page = record { page = page; page' = page'; found = found; changes = changed; how = record { frame = frame; slot = slot; mark = mark; was = at; changed = counts frame slot mark true at counted; alone = alone; is = moved (Saving frame mark) is; copy = refl } };
          stays = stays;
          process = refl;
          vpn_is = refl;
        },
        subst (λ o. TakesSpare o taken spare spare') (sym (ap (option_and_then (λ (p : PageValue S). kept (slot_of p.place))) found ∙ ap (λ p. kept (slot_of p)) at)) takes,
      )

      always : (mark : Bool) → (mark || true) ≡ true
      always true = refl
      always false = refl

      abbrev After : Option S → Place S → CollectedPage L S → Type 0
      After given place to = page.place ≡ place → page'.place ≡ to.0 → spare ≡ given → spare' ≡ to.1.0 → ComesTo {L = L} vpn spare spare' old new to.1.1

      -- one that has no slot
      with : (frame : FrameValue) (slot : Keeping S) (mark : Bool) (given : Option S) → is_held vpn old.caches ≡ false → is_copy_out slot ≡ false → kept slot ≡ None → (mark || is_unbacked slot) ≡ true → After given (Leaving frame slot mark) (with_spare {L = L} old.process vpn frame slot mark given)
      unfolding leaving
      with frame slot mark None held alone none counted at is was left = (record { page = leaving frame slot mark at; held = held; alone = alone; changed = counts frame slot mark true at counted; slotless = none }, was)
      with frame slot mark (Some spare_slot) held alone none counted at is was left = saves frame slot mark spare_slot held alone at counted is (subst (λ o. TakesSpare o spare_slot spare spare') (sym none) (was, left))

      -- one that nothing backs
      unbacked : (frame : FrameValue) (slot : Keeping S) (own : Option S) (mark : Bool) (given : Option S) → is_held vpn old.caches ≡ false → is_copy_out slot ≡ false → kept slot ≡ own → is_unbacked slot ≡ true → After given (Leaving frame slot mark) (save_unbacked {L = L} old.process vpn frame slot own mark given)
      unbacked frame slot None mark given held alone own counted at is was left = with frame slot mark given held alone own (ap (λ b. mark || b) counted ∙ always mark) at is was left
      unbacked frame slot (Some taken) mark given held alone own counted at is was left =
          saves frame slot mark taken held alone at (ap (λ b. mark || b) counted ∙ always mark) is (subst (λ o. TakesSpare o taken spare spare') (sym own) (refl, left ∙ sym was))

      -- and one of which a copy is out
      out : (frame : FrameValue) (mark : Bool) → page.place ≡ Leaving frame CopyOut mark → IsHeldStill vpn old
      unfolding leaving
      out frame mark at = record { page = leaving frame CopyOut mark at; held = always (is_held vpn old.caches) }

      goes : (frame : FrameValue) (slot : Keeping S) (mark : Bool) (given : Option S) → is_held vpn old.caches ≡ false → After given (Leaving frame slot mark) (let_go {L = L} old.process vpn frame slot mark given)
      goes frame NoSlot false given held at is was left = (drops frame NoSlot false held at refl is, left ∙ sym was)
      goes frame NoSlot true given held at is was left = with frame NoSlot true given held refl refl refl at is was left
      goes frame (Unbacked slot) mark given held at is was left = unbacked frame (Unbacked slot) slot mark given held refl refl refl at is was left
      goes frame (Cleaning slot) mark given held at is was left = unbacked frame (Cleaning slot) slot mark given held refl refl refl at is was left
      goes frame CopyOut mark given held at is was left = (out frame mark at, left ∙ sym was)
      goes frame (Saved copy) false given held at is was left = (drops frame (Saved copy) false held at refl is, left ∙ sym was)
      goes frame (Saved copy) true given held at is was left = saves frame (Saved copy) true copy.slot held refl at refl is (refl, left ∙ sym was)

      looks : (frame : FrameValue) (slot : Keeping S) (mark b : Bool) (given : Option S) → is_held vpn old.caches ≡ b → After given (Leaving frame slot mark) (collect_leaving {L = L} old.process vpn frame slot mark b given)
      unfolding leaving
      looks frame slot mark true given held at is was left = (record { page = leaving frame slot mark at; held = ap (λ b. b || is_copy_out slot) held }, left ∙ sym was)
      looks frame slot mark false given held at is was left = goes frame slot mark given held at is was left

      at_place : (place : Place S) → After spare place (collected {L = L} old.process vpn (is_held vpn old.caches) place spare)
      at_place Fresh at is was left = (not_leaving Fresh at refl, left)
      at_place (Resident frame slot) at is was left = (not_leaving (Resident frame slot) at refl, left)
      at_place (Leaving frame slot mark) at is was left = looks frame slot mark (is_held vpn old.caches) spare refl at is was left
      at_place (Saving frame mark) at is was left = (not_leaving (Saving frame mark) at refl, left)
      at_place (Away slot) at is was left = (not_leaving (Away slot) at refl, left)
      at_place Purged at is was left = (not_leaving Purged at refl, left)

      page_to : (a : Collected L S) → (page'.place, (spare', a)) ≡ collected old.process vpn (is_held vpn old.caches) page.place spare → ComesTo vpn spare spare' old new a
      page_to a how =
          subst (ComesTo vpn spare spare' old new) (sym (ap (λ (t : CollectedPage L S). t.1.1) how))
          (at_place page.place refl (ap (λ (t : CollectedPage L S). t.0) how) refl (ap (λ (t : CollectedPage L S). t.1.0) how))

    pub comes_to : (a : Collected L S) → LooksAt vpn spare spare' a old new → ComesTo vpn spare spare' old new a
    comes_to a looks = by_page (page_at old.pages vpn) refl looks
      where
        by_page : (o : Option (PageValue S)) → page_at old.pages vpn ≡ o → CollectsAt old.process vpn (is_held vpn old.caches) spare spare' a old.pages new.pages o → ComesTo vpn spare spare' old new a
        by_page None at told =
            subst (ComesTo vpn spare spare' old new) (sym told.0)
            (ap (λ o. is_leaving_stage (option_map (λ (p : PageValue S). page_state_of p.place) o)) at, told.1.0)
        by_page (Some page) at told = page_to told.page told.page' told.found told.how.0 told.changes a told.how.1
