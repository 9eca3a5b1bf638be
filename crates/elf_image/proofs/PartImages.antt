-- An image of parts is lawful where no refusal of them holds.
use Rattle.std.proofs.Common.{◌≡◌, ℕ, ◌<◌, Bool, true, false, cond, ◌&&◌, ◌||◌, ◌==◌, List, [], ◌∷◌, length, map, slice_index_or, None, bit_and, bit_or, arith, refl, sym, ap, ◌∙◌, subst, IsTrue, ◌++◌, take, drop, append-nil, take_all}
use Rattle.std.specs.List.{list_any}
use Rattle.std.proofs.lemmas.List.{get_or-map, length-map, drop_all}
use Rattle.std.proofs.lemmas.Nat.{and_or_self, and_or_apart, and_assoc, and_mask}
use Rattle.std.specs.Int.Bits.{or_add_and}
use Rattle.std.proofs.lemmas.Bool.{false≢true}
use Rattle.page_memory.specs.Words.{page_number}
use Rattle.page_memory.specs.Rights.{may, known, readable}
use Rattle.page_memory.specs.declared.rights.Rights.{Rights}
use Rattle.page_memory.specs.declared.words.Access.TheVariants.{Fetch, Load, Store}
use Rattle.elf_image.specs.declared.image.ImagePage.{ImagePage}
use Rattle.elf_image.specs.Image.{IsLawful}
use Rattle.elf_image.specs.Parts.{readable_page, entered, parts_fault}
use Rattle.elf_image.proofs.PartsLaws.{pass_from_no_fault}
use Rattle.elf_image.specs.Regions.{region_of, distinct, regions}
use Rattle.elf_image.proofs.RisingLaws.{rising_far, low_pages}

-- what may be written may be read
readable_loads : (rights : Rights) → IsTrue (may Store (readable rights)) → IsTrue (may Load (readable rights))
unfolding readable
readable_loads rights h = by (may Store rights) refl h
  where
    by : (b : Bool) → may Store rights ≡ b → IsTrue (may Store (cond b (record { 0 = bit_or (known rights).0 1 }) (known rights))) → IsTrue (may Load (cond b (record { 0 = bit_or (known rights).0 1 }) (known rights)))
    by true e h = ap (λ n. n == 1) (and_or_self 1 (known rights).0)
    by false e h = absurd (false≢true (sym e ∙ sym (ap (λ n. n == 2) (and_assoc 2 rights.0 7)) ∙ h))

-- what may be executed stays so
readable_fetches : (rights : Rights) → may Fetch (readable rights) ≡ may Fetch rights
unfolding readable
readable_fetches rights = by (may Store rights)
  where
    by : (b : Bool) → may Fetch (cond b (record { 0 = bit_or (known rights).0 1 }) (known rights)) ≡ may Fetch rights
    by true = ap (λ n. n == 4) (and_or_apart 4 (known rights).0 1 refl ∙ and_assoc 4 rights.0 7)
    by false = ap (λ n. n == 4) (and_assoc 4 rights.0 7)

-- no other rights are left
readable_plain : (rights : Rights) → (readable rights).0 < 8
unfolding readable
readable_plain rights = by (may Store rights)
  where
    small : (n : ℕ) → bit_and n 7 < 8
    small n = let rest = and_mask n 3 in omega arith

    with_read : (n : ℕ) → n < 8 → bit_or n 1 < 8
    with_read n l = let both = or_add_and n 1 in let last = and_mask n 1 in omega arith

    by : (b : Bool) → (cond b (record { 0 = bit_or (known rights).0 1 }) (known rights)).0 < 8
    by true = with_read (known rights).0 (small rights.0)
    by false = small rights.0

same_number : (page : ImagePage) → (readable_page page).number ≡ page.number
unfolding readable_page
same_number page = refl

same_fetch : (page : ImagePage) → may Fetch (readable_page page).page.rights ≡ may Fetch page.page.rights
unfolding readable_page
same_fetch page = readable_fetches page.page.rights

loads : (page : ImagePage) → IsTrue (may Store (readable_page page).page.rights) → IsTrue (may Load (readable_page page).page.rights)
unfolding readable_page
loads page h = readable_loads page.page.rights h

plain_page : (page : ImagePage) → (readable_page page).page.rights.0 < 8
unfolding readable_page
plain_page page = readable_plain page.page.rights

same_regions : (pages : List ImagePage) → map region_of (map readable_page pages) ≡ map region_of pages
unfolding readable_page
same_regions [] = refl
same_regions (page ∷ pages) = ap (λ rest. region_of page ∷ rest) (same_regions pages)

still_entered : (entry : ℕ) (pages : List ImagePage) → entered entry pages ≡ true → IsTrue (list_any (λ listed. (listed.number == page_number entry) && may Fetch listed.page.rights) (map readable_page pages))
unfolding entered
still_entered entry pages e = same pages ∙ e
  where
    same : (pages : List ImagePage) → list_any (λ (listed : ImagePage). (listed.number == page_number entry) && may Fetch listed.page.rights) (map readable_page pages) ≡ entered entry pages
    same [] = refl
    same (page ∷ rest) = λ i. (((same_number page i == page_number entry) && same_fetch page i) || same rest i)

pub lawful_parts : (entry : ℕ) (pages parts : List ImagePage) → parts_fault entry parts ≡ None → pages ≡ map readable_page parts → IsLawful (record { entry = entry; pages = pages })
lawful_parts entry pages parts none are =
    let pass = pass_from_no_fault entry parts none in
    let count : length pages ≡ length parts = ap length are ∙ length-map parts readable_page in
    record {
      pages = record {
        rising = λ i j d below within.
            let here = number i d (omega arith) in
            let there = number j d (omega arith) in
            let rise = rising_far parts pass.up i j d below (omega arith) in
            omega arith;
        low = λ i d within. let here = number i d (omega arith) in let low = low_pages parts pass.low i d (omega arith) in omega arith;
        few = omega arith;
        compact = let same : length (regions pages) ≡ length (regions parts) = ap (λ l. length (distinct l)) (ap (map region_of) are ∙ same_regions parts) in omega arith;
        plain = λ i d within. subst (λ (p : ImagePage). p.page.rights.0 < 8) (sym (at i d (omega arith))) (plain_page (slice_index_or parts i d));
        readable = λ i d within h. subst (λ (p : ImagePage). IsTrue (may Load p.page.rights)) (sym (at i d (omega arith))) (loads (slice_index_or parts i d) (subst (λ (p : ImagePage). IsTrue (may Store p.page.rights)) (at i d (omega arith)) h));
      };
      entered = subst (λ l. IsTrue (list_any (λ (listed : ImagePage). (listed.number == page_number entry) && may Fetch listed.page.rights) l)) (sym are) (still_entered entry parts pass.start);
    }
  where
    at : (i : ℕ) (d : ImagePage) → i < length parts → slice_index_or pages i d ≡ readable_page (slice_index_or parts i d)
    at i d within = ap (λ l. slice_index_or l i d) are ∙ get_or-map readable_page parts i d d within

    number : (i : ℕ) (d : ImagePage) → i < length parts → (slice_index_or pages i d).number ≡ (slice_index_or parts i d).number
    number i d within = ap (λ (p : ImagePage). p.number) (at i d within) ∙ same_number (slice_index_or parts i d)

-- what a whole list that was lent leaves in its place
pub written_back : (new old : List ImagePage) (n : ℕ) → n ≡ length old → new ≡ map readable_page old → take n (new ++ drop (length new) old) ≡ map readable_page old
written_back new old n e are =
    let count : length new ≡ length old = ap length are ∙ length-map old readable_page in
    ap (λ l. take n (new ++ l)) (drop_all (length new) old (omega arith))
    ∙ ap (take n) (append-nil new)
    ∙ take_all n new (omega arith)
    ∙ are
