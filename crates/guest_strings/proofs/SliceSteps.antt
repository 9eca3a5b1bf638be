-- What instructions refer to that run by slices, one after another.
use Rattle.std.proofs.Common.{◌≡◌, ℕ, zero, suc, ◌-◌, ◌<◌, Bool, List, [], ◌++◌, Option, Some, None, arith, refl, sym, ap, ◌∙◌}
use Rattle.flat_machine.specs.Process.{Process}
use Rattle.guest_strings.specs.declared.access_kinds.AccessKinds.{AccessKinds}
use Rattle.guest_strings.specs.declared.turns.Turn.{Turn}
use Rattle.guest_strings.specs.declared.reference.Reference.{Reference}
use Rattle.guest_strings.specs.References.{kept, references_at, moved, used}
use Rattle.guest_strings.specs.Slices.{yields_at, turn_after, by_slices}

one : (accesses : AccessKinds) (slice count : ℕ) (turn : Turn) (ps : List Process)
    → used accesses (by_slices slice (suc count) (Some turn) ps) ps
    ≡ kept accesses (references_at turn.place ps) ++ used accesses (by_slices slice count (turn_after slice (yields_at turn.place ps) turn (moved turn.place ps)) (moved turn.place ps)) (moved turn.place ps)
unfolding used by_slices
one accesses slice count turn ps = refl

-- an instruction more
pub one_told : (accesses : AccessKinds) (slice left : ℕ) (now : Option Turn) (turn : Turn) (ps left_by : List Process) (yielded : Bool) (refs : List Reference) (next : Option Turn)
    → 0 < left → now ≡ Some turn → refs ≡ kept accesses (references_at turn.place ps) → yielded ≡ yields_at turn.place ps → left_by ≡ moved turn.place ps
    → next ≡ turn_after slice yielded turn left_by
    → used accesses (by_slices slice left now ps) ps ≡ refs ++ used accesses (by_slices slice (left - 1) next left_by) left_by
one_told accesses slice left now turn ps left_by yielded refs next some is told yields moves then =
    let count : left ≡ suc (left - 1) = omega arith in
    ap (λ n. used accesses (by_slices slice n now ps) ps) count
    ∙ ap (λ t. used accesses (by_slices slice (suc (left - 1)) t ps) ps) is
    ∙ one accesses slice (left - 1) turn ps
    ∙ (λ i. sym told i ++ used accesses (by_slices slice (left - 1) (turn_after slice (sym yields i) turn (sym moves i)) (sym moves i)) (sym moves i))
    ∙ ap (λ t. refs ++ used accesses (by_slices slice (left - 1) t left_by) left_by) (sym then)

-- none is left
pub none_left : (accesses : AccessKinds) (slice left : ℕ) (now : Option Turn) (ps : List Process) → left ≡ 0 → used accesses (by_slices slice left now ps) ps ≡ []
unfolding used by_slices
none_left accesses slice left now ps none = ap (λ n. used accesses (by_slices slice n now ps) ps) none

nobody : (accesses : AccessKinds) (slice left : ℕ) (ps : List Process) → used accesses (by_slices slice left None ps) ps ≡ []
unfolding used by_slices
nobody accesses slice zero ps = refl
nobody accesses slice (suc left) ps = refl

-- no hart may step
pub no_turn : (accesses : AccessKinds) (slice left : ℕ) (now : Option Turn) (ps : List Process) → now ≡ None → used accesses (by_slices slice left now ps) ps ≡ []
no_turn accesses slice left now ps none = ap (λ t. used accesses (by_slices slice left t ps) ps) none ∙ nobody accesses slice left ps
