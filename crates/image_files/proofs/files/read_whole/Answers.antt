use Rattle.std.proofs.Common.{◌≡◌, ◌++◌, ◌≤◌, ℕ, List, length, take, IfSome, subst, rules}
use Rattle.std.specs.Option.{option_map}
use Rattle.image_files.specs.WholeBytes.{AreWhole}
use Rattle.image_files.proofs.WholeInput.{whole_input}
use Rattle.image_files.proofs.files.read_whole.Goals as goal

pub returns-clause-whole : goal.returns-clause-whole
returns-clause-whole g c =
    let bytes : List ℕ = c.read_to_end.new.buf.items in
    let read : IfSome (option_map (take c.take.result.limit) (g.I.Read.remaining c.take.result.inner)) (λ all. bytes ≡ c.new-bytes.result.items ++ all) = c.in_default.ensures.bytes in
    let few : length bytes ≤ 33554432 = search rules in
    subst (λ i. AreWhole (g.I.Read.remaining i) bytes) c.take.ensures.inner
    (whole_input (g.I.Read.remaining c.take.result.inner) c.take.result.limit 33554432 bytes c.take.ensures.limit
    (subst (λ (before : List ℕ). IfSome (option_map (take c.take.result.limit) (g.I.Read.remaining c.take.result.inner)) (λ all. bytes ≡ before ++ all)) c.new-bytes.ensures.items read) few)
