-- Which frames and slots pages give back, one page after another.
use Rattle.std.specs.Prelude.{◌≡◌, ℕ, zero, suc, ◌^◌, ◌<◌, ◌≤◌, ◌==◌, false, Option, Some, None, option_and_then, List, [], refl, if◌then◌else◌}
use Rattle.std.proofs.Common.{sym, ap, ◌∙◌, subst, arith, inl, inr}
use Rattle.std.proofs.lemmas.Bool.Decides.{eqb_tells, leb_tells}
use Rattle.frame_pool.specs.FrameValue.{FrameValue}
use Rattle.page_store.specs.Moves.{given_back}
use Rattle.page_store.specs.PageValue.{PageValue}
use Rattle.paged_memory.specs.moves.GivingBack.{GivesNothing}
use Rattle.paged_memory.specs.moves.Moving.{GivesBelow, GivesIn, HasNothingBelow, SamePage, given_frame, given_slot, with_given, given_below}
use Rattle.paged_memory.specs.Paged.{PagedValue, page_at}

module _ {S A : Type 0} (of : Option (PageValue S) → Option A) where
  pub none_below : (memory : PagedValue S) → given_below of memory 0 ≡ []
  unfolding given_below
  none_below memory = refl

  pub one_below : (memory : PagedValue S) (number : ℕ) → given_below of memory (suc number) ≡ with_given (given_below of memory number) (of (page_at memory.pages number))
  unfolding given_below
  one_below memory number = refl

  -- pages that give nothing add none
  pub same_below : (memory : PagedValue S) (from number : ℕ) → from ≤ number → ((q : ℕ) → from ≤ q → q < number → of (page_at memory.pages q) ≡ None) → given_below of memory number ≡ given_below of memory from
  same_below memory from zero within none = ap (given_below of memory) (let e : 0 ≡ from = omega arith in e)
  same_below memory from (suc number) within none = elim (eqb_tells from (suc number)) [
    | inl same ↦ ap (given_below of memory) (sym same.1)
    | inr apart ↦
        let differs = apart.1 in
        let low : from ≤ number = omega arith in
        one_below memory number ∙ ap (with_given (given_below of memory number)) (none number low (omega arith)) ∙ same_below memory from number low (λ q above below. none q above (omega arith))
  ]

  -- one more page gives what it had, and none between has anything
  pub more_below : (memory : PagedValue S) (given : List A) (from number : ℕ) (one : Option A) → from ≤ number → given ≡ given_below of memory from
      → ((q : ℕ) → from ≤ q → q < number → of (page_at memory.pages q) ≡ None) → of (page_at memory.pages number) ≡ one → with_given given one ≡ given_below of memory (suc number)
  more_below memory given from number one within before none is =
      ap (λ l. with_given l one) (before ∙ sym (same_below memory from number within none)) ∙ ap (with_given (given_below of memory number)) (sym is) ∙ sym (one_below memory number)

module _ {S : Type 0} where
  pub nothing_frame : (o : Option (PageValue S)) → GivesNothing o → given_frame o ≡ None
  nothing_frame None nothing = refl
  nothing_frame (Some page) nothing = ap (λ (g : Option (Option FrameValue × Option S)). option_and_then (λ given. given.0) g) nothing

  pub nothing_slot : (o : Option (PageValue S)) → GivesNothing o → given_slot o ≡ None
  nothing_slot None nothing = refl
  nothing_slot (Some page) nothing = ap (λ (g : Option (Option FrameValue × Option S)). option_and_then (λ given. given.1) g) nothing

  has_frame : (given : Option FrameValue × Option S) (page : PageValue S) → given_back page.place ≡ Some given → given_frame (Some page) ≡ given.0
  has_frame given page is = ap (λ (g : Option (Option FrameValue × Option S)). option_and_then (λ x. x.0) g) is

  has_slot : (given : Option FrameValue × Option S) (page : PageValue S) → given_back page.place ≡ Some given → given_slot (Some page) ≡ given.1
  has_slot given page is = ap (λ (g : Option (Option FrameValue × Option S)). option_and_then (λ x. x.1) g) is

  gives_some : (given : Option FrameValue × Option S) (o : Option (PageValue S)) (page : PageValue S) → o ≡ Some page → given_back page.place ≡ Some given → GivesNothing o → ⊥
  gives_some given None page is gives nothing = cc
  gives_some given (Some other) page is gives nothing = let same : other ≡ page = cc in let none : given_back page.place ≡ None = ap (λ (p : PageValue S). given_back p.place) (sym same) ∙ nothing in cc

  pub none_gives_below : (memory : PagedValue S) → GivesBelow [] [] memory memory
  none_gives_below memory = record {
    below = 0;
    within = omega arith;
    framed = sym (none_below given_frame memory);
    named = sym (none_below given_slot memory);
    nothing = λ q low. absurd (omega arith);
    beyond = λ number above. refl;
  }

  module _ (frames : List FrameValue) (slots : List S) (given : Option FrameValue × Option S) (old mid new : PagedValue S) (gave : GivesBelow frames slots old mid) (one : GivesIn given mid new) where
    not_below : gave.below ≤ one.number
    not_below = elim (leb_tells gave.below one.number) [
      | inl high ↦ high.1
      | inr low ↦ absurd (gives_some given (page_at mid.pages one.number) one.pages.page one.pages.found one.pages.how.0 (gave.nothing one.number low.1))
    ]

    found_old : page_at old.pages one.number ≡ Some one.pages.page
    found_old = sym (gave.beyond one.number not_below) ∙ one.pages.found

    -- the pages between have nothing
    nothing_between : (q : ℕ) → gave.below ≤ q → q < one.number → GivesNothing (page_at old.pages q)
    nothing_between q above low = subst (λ (o : Option (PageValue S)). GivesNothing o) (gave.beyond q above) (one.first q low)

    other_page : (q : ℕ) → (q == one.number) ≡ false → SamePage mid new q
    other_page q other = one.pages.changes.pages q ∙ ap (λ b. if b then Some one.pages.page' else page_at mid.pages q) other

    pub one_gives_below : GivesBelow (with_given frames given.0) (with_given slots given.1) old new
    one_gives_below = record {
      below = suc one.number;
      within = (let small = one.small in omega (arith, small));
      framed = more_below given_frame old frames gave.below one.number given.0 not_below gave.framed (λ q above low. nothing_frame (page_at old.pages q) (nothing_between q above low))
          (ap given_frame found_old ∙ has_frame given one.pages.page one.pages.how.0);
      named = more_below given_slot old slots gave.below one.number given.1 not_below gave.named (λ q above low. nothing_slot (page_at old.pages q) (nothing_between q above low))
          (ap given_slot found_old ∙ has_slot given one.pages.page one.pages.how.0);
      nothing = λ q low. elim (eqb_tells q one.number) [
        | inl same ↦ subst (λ (o : Option (PageValue S)). GivesNothing o)
            (sym (one.pages.changes.pages q ∙ ap (λ b. if b then Some one.pages.page' else page_at mid.pages q) same.0))
            (ap (λ (p : PageValue S). given_back p.place) one.pages.how.1)
        | inr apart ↦ (let differs = apart.1 in subst (λ (o : Option (PageValue S)). GivesNothing o) (sym (other_page q apart.0)) (one.first q (omega (arith, low, differs))))
      ];
      beyond = λ q above. elim (eqb_tells q one.number) [
        | inl same ↦ (let is = same.1 in absurd (omega (arith, above, is)))
        | inr apart ↦ other_page q apart.0 ∙ gave.beyond q (let low = not_below in omega (arith, above, low))
      ];
    }

  -- where no page has anything left, these are all frames and slots that pages had
  module _ (frames : List FrameValue) (slots : List S) (old new : PagedValue S) (gave : GivesBelow frames slots old new) (none : HasNothingBelow (2 ^ 20) new) where
    nothing_beyond : (q : ℕ) → gave.below ≤ q → q < 2 ^ 20 → GivesNothing (page_at old.pages q)
    nothing_beyond q above low = subst (λ (o : Option (PageValue S)). GivesNothing o) (gave.beyond q above) (none q low)

    pub all_frames_below : frames ≡ given_below given_frame old (2 ^ 20)
    all_frames_below = gave.framed ∙ sym (same_below given_frame old gave.below (2 ^ 20) gave.within (λ q above low. nothing_frame (page_at old.pages q) (nothing_beyond q above low)))

    pub all_slots_below : slots ≡ given_below given_slot old (2 ^ 20)
    all_slots_below = gave.named ∙ sym (same_below given_slot old gave.below (2 ^ 20) gave.within (λ q above low. nothing_slot (page_at old.pages q) (nothing_beyond q above low)))
