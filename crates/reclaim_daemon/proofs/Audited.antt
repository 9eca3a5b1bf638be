-- An audit goes through the processes, one lock after another.
use Rattle.std.proofs.Common.{◌≡◌, ℕ, ◌+◌, ◌<◌, ◌≤◌, Bool, true, false, List, [], ◌∷◌, ◌++◌, length, length-append, map, get_or, ap, refl, sym, subst, ◌∙◌, true≢false, arith}
use Rattle.std.proofs.lemmas.List.{length-map}
use Rattle.machine_sides.proofs.AuditLaws.{CountedSo, all_sound, counted_none, counted_push, not_sound, sound_all}
use Rattle.machine_sides.specs.Auditing.{AreSound, CountsMore, IsListed}
use Rattle.paged_memory.specs.declared.counting.HeldPages.{HeldPages}
use Rattle.held_machine.specs.Audit.{HoldsAll, IsSound, space_in}
use Rattle.held_machine.specs.DeskValue.{DeskValue}
use Rattle.held_machine.specs.HeldValue.{HeldValue}
use Rattle.reclaim_daemon.specs.Audit.{FindsAmiss, FindsSound}

-- some processes were counted, which are so many
pub record FoundSoFar (S : Type 0) (desk : DeskValue) (found : HeldPages) (number : ℕ) : Type 0 where
  pub seen : List (HeldValue S)
  pub counted : CountedSo desk.pager.pager (map space_in seen) found number

pub found_none : (S : Type 0) (desk : DeskValue) (found : HeldPages) → found.resident ≡ 0 → found.framed ≡ 0 → FoundSoFar S desk found 0
found_none S desk found resident framed = record { seen = []; counted = counted_none desk.pager.pager found resident framed }

pub found_more : {S : Type 0} (desk : DeskValue) (found more : HeldPages) (number : ℕ) (held : HeldValue S) → FoundSoFar S desk found number → CountsMore desk.pager.pager number (space_in held) found more
    → FoundSoFar S desk more (number + 1)
found_more desk found more number held so_far one =
    record { seen = so_far.seen ++ held ∷ []; counted = counted_push desk.pager.pager space_in so_far.seen found more number held so_far.counted one }

pub found_sound : {S : Type 0} (desk : DeskValue) (found : HeldPages) (number : ℕ) → FoundSoFar S desk found number → HoldsAll desk found → FindsSound S number
found_sound desk found number so_far holds = record {
  desk = desk;
  held = so_far.seen;
  many = sym (length-map so_far.seen space_in) ∙ so_far.counted.many;
  sound = record { sound = holds.sound; spaces = sound_all desk.pager.pager (map space_in so_far.seen) found number so_far.counted holds.counted };
}

-- ---- what is amiss

get_after : {A : Type 0} (xs : List A) (x : A) (rest : List A) → x ≡ get_or ((xs ++ x ∷ []) ++ rest) (length xs) x
get_after [] x rest = refl
get_after (y ∷ xs) x rest = get_after xs x rest

append_none : {A : Type 0} (xs rest : List A) → length (xs ++ rest) ≡ length xs → xs ++ rest ≡ xs
append_none [] [] same = refl
append_none [] (x ∷ rest) same = absurd (cc)
append_none (y ∷ xs) rest same =
    let shorter : length (xs ++ rest) ≡ length xs = omega (arith, same) in
    ap (λ l. y ∷ l) (append_none xs rest shorter)

module _ {S : Type 0} (desk : DeskValue) (found : HeldPages) (number processes : ℕ) where
  -- a process that is not listed
  pub found_short : (held : HeldValue S) → FoundSoFar S desk found number → number < processes → (IsListed desk.pager.pager number (space_in held) → ⊥) → FindsAmiss S processes
  found_short held so_far small unlisted =
      let many : length so_far.seen ≡ number = sym (length-map so_far.seen space_in) ∙ so_far.counted.many in
      let one : length (so_far.seen ++ held ∷ []) ≡ number + 1 = omega (arith, many, length-append so_far.seen (held ∷ [])) in
      record {
        desk = desk;
        held = so_far.seen ++ held ∷ [];
        few = omega (arith, one, small);
        amiss = λ rest all sound.
            let within : number < length ((so_far.seen ++ held ∷ []) ++ rest) = omega (arith, all, small) in
            let at : held ≡ get_or ((so_far.seen ++ held ∷ []) ++ rest) number held = subst (λ n. held ≡ get_or ((so_far.seen ++ held ∷ []) ++ rest) n held) many (get_after so_far.seen held rest) in
            not_sound desk.pager.pager space_in ((so_far.seen ++ held ∷ []) ++ rest) number held within at unlisted sound.spaces;
      }

  -- all processes, which are not all that the pager knows of
  pub found_amiss : (result : Bool) → FoundSoFar S desk found number → number ≡ processes → (HoldsAll desk found → result ≡ true) → result ≡ false → FindsAmiss S processes
  found_amiss result so_far all exact is =
      let many : length so_far.seen ≡ number = sym (length-map so_far.seen space_in) ∙ so_far.counted.many in
      record {
        desk = desk;
        held = so_far.seen;
        few = omega (arith, many, all);
        amiss = λ rest whole sound.
            let none : so_far.seen ++ rest ≡ so_far.seen = append_none so_far.seen rest (whole ∙ sym all ∙ sym many) in
            let spaces : AreSound desk.pager.pager (map space_in so_far.seen) = subst (λ (l : List (HeldValue S)). AreSound desk.pager.pager (map space_in l)) none sound.spaces in
            let holds : HoldsAll desk found = record { sound = sound.sound; counted = all_sound desk.pager.pager (map space_in so_far.seen) found number so_far.counted spaces } in
            true≢false (sym (exact holds) ∙ is);
      }
