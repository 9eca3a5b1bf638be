-- One more step of a trace.
use Rattle.std.proofs.Common.{◌≡◌, ℕ, ◌+◌, true, false, List, [], ◌∷◌, ◌++◌, ap, arith, length, length-append, refl, sym}
use Rattle.guest_steps.specs.declared.told_step.ToldStep.{ToldStep}
use Rattle.guest_cli.specs.TracedRuns.{asked, is_asked, lines_for}
use Rattle.guest_cli.specs.declared.request.TraceRequest.{TraceRequest}

pub asked_none : (request : TraceRequest) (number : ℕ) → asked request number [] ≡ 0
unfolding asked
asked_none request number = refl

pub asked_more : (request : TraceRequest) (steps : List ToldStep) (told : ToldStep) (number at : ℕ) → at ≡ number + length steps
    → asked request number (steps ++ told ∷ []) ≡ asked request number steps + lines_for (is_asked request at told)
unfolding asked
asked_more request [] told number at stands =
    let here : at ≡ number = omega (arith, stands) in
    let same : lines_for (is_asked request number told) ≡ lines_for (is_asked request at told) = ap (λ n. lines_for (is_asked request n told)) (sym here) in
    omega (arith, same)
asked_more request (first ∷ later) told number at stands =
    let further : at ≡ number + 1 + length later = omega (arith, stands) in
    let more : asked request (number + 1) (later ++ told ∷ []) ≡ asked request (number + 1) later + lines_for (is_asked request at told) = asked_more request later told (number + 1) at further in
    omega (arith, more)

pub lines_more : (request : TraceRequest) (steps : List ToldStep) (told : ToldStep) (number at lines : ℕ) → at ≡ number + length steps → lines ≡ asked request number steps → is_asked request at told ≡ true
    → lines + 1 ≡ asked request number (steps ++ told ∷ [])
lines_more request steps told number at lines stands counted is =
    let one : lines_for (is_asked request at told) ≡ 1 = ap lines_for is in
    omega (arith, one, counted, asked_more request steps told number at stands)

pub lines_same : (request : TraceRequest) (steps : List ToldStep) (told : ToldStep) (number at lines : ℕ) → at ≡ number + length steps → lines ≡ asked request number steps → is_asked request at told ≡ false
    → lines ≡ asked request number (steps ++ told ∷ [])
lines_same request steps told number at lines stands counted is =
    let none : lines_for (is_asked request at told) ≡ 0 = ap lines_for is in
    omega (arith, none, counted, asked_more request steps told number at stands)

-- the numbers of a step behind others that were told
pub one_behind : (begun between done : ℕ) (steps : List ToldStep) → between ≡ begun + length steps → done ≡ between + 1 → done ≡ begun + 1 + length steps
one_behind begun between done steps stands counted = omega (arith, stands, counted)

pub told_count : (begun between done : ℕ) (steps : List ToldStep) (told : ToldStep) → between ≡ begun + length steps → done ≡ between + 1 → done ≡ begun + length (steps ++ told ∷ [])
told_count begun between done steps told stands counted = omega (arith, stands, counted, length-append steps (told ∷ []))
