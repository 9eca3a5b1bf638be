-- An input that is read up to one byte more than it may have.
use Rattle.std.proofs.Common.{◌≡◌, ℕ, ◌+◌, ◌≤◌, List, length, take, Option, Some, None, IfSome, ap, ◌∙◌, arith}
use Rattle.std.specs.Option.{option_map}
use Rattle.std.proofs.lemmas.List.{length-take, take_all}
use Rattle.image_files.specs.WholeBytes.{AreWhole}

-- where it has no more than it may, it is whole
pub whole_input : (known : Option (List ℕ)) (limit most : ℕ) (bytes : List ℕ) → limit ≡ most + 1 → IfSome (option_map (take limit) known) (λ all. bytes ≡ all) → length bytes ≤ most → AreWhole known bytes
whole_input None limit most bytes more read few = tt
whole_input (Some all) limit most bytes more read few =
    let size = ap length read in
    let short : length all ≤ limit = omega (arith, size, length-take limit all) in
    read ∙ take_all limit all short
