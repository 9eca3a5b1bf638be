-- The references of a line, one after another.
use Rattle.std.proofs.Common.{◌≡◌, ◌∙◌, ℕ, zero, suc, ◌-◌, ◌<◌, List, Option, None, Some, ap, arith, refl, sym}
use Rattle.std.specs.Option.{option_map}
use Rattle.guest_strings.specs.declared.reference.Reference.{Reference}
use Rattle.trace_lines.specs.declared.trace_line.LineReferences.{LineReferences}
use Rattle.trace_files.specs.References.{Trace, Gives, due_before, following, left_of, referring, run_given}
use Rattle.trace_files.specs.ReferenceAnswers.{Passes}

pub none_left : (reference : Reference) (more : ℕ) → more ≡ 0 → left_of reference more ≡ None
none_left reference more none = ap (left_of reference) none

pub some_left : (line left : LineReferences) → 0 < line.more → left.first ≡ following line.first → left.more ≡ line.more - 1 → left_of line.first line.more ≡ Some left
some_left line left some first more =
    let is : line.more ≡ suc left.more = omega (arith, some, more) in
    ap (left_of line.first) is ∙ ap (λ (r : Reference). Some (record { first = r; more = left.more })) (sym first)

given_on : (reference : Reference) (more : ℕ) (rest : Trace) → run_given reference more rest ≡ Gives reference (due_before (left_of reference more) rest)
unfolding run_given
given_on reference zero rest = refl
given_on reference (suc more) rest = refl

module _ (line : LineReferences) (left : Option LineReferences) (is : left ≡ left_of line.first line.more) where
  on : (rest : Trace) → referring line rest ≡ Gives line.first (due_before left rest)
  on rest = given_on line.first line.more rest ∙ ap (λ (o : Option LineReferences). Gives line.first (due_before o rest)) (sym is)

  -- the first reference of those that were due is given
  pub due_given : (f : List ℕ → Trace) (known : Option (List ℕ)) → Passes (Gives line.first) (option_map (λ bytes. referring line (f bytes)) known) (option_map (λ bytes. due_before left (f bytes)) known)
  due_given f None = tt
  due_given f (Some bytes) = on (f bytes)

  -- the first reference of a line that was read is given, and the others are due
  pub line_given_on : (f h : List ℕ → Trace) (known rest : Option (List ℕ)) → Passes (referring line) (option_map f known) (option_map h rest)
      → Passes (Gives line.first) (option_map f known) (option_map (λ bytes. due_before left (h bytes)) rest)
  line_given_on f h None rest passed = tt
  line_given_on f h (Some bytes) None passed = elim passed [ ]
  line_given_on f h (Some bytes) (Some others) passed = passed ∙ on (h others)
