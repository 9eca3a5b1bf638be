use Rattle.std.specs.Prelude.{ℕ, List, OnOk}
use Rattle.std.proofs.Common.{ap, subst, ◌∙◌}
use Rattle.std.specs.Io.KnownBytes.{Appends}
use Rattle.guest_strings.specs.ToCome.{to_come}
use Rattle.miss_counts.specs.StringPages.{pages_of}
use Rattle.policies_cli.proofs.Writing.{oracle_text}
use Rattle.policies_cli.proofs.trace_command.write_all_oracle.Goals as goal

pub returns : goal.returns
returns g c =
    subst (λ (l : List ℕ). OnOk c.write_oracle.result (Appends (g.W.Write.contents c.args.out.now) (g.W.Write.contents c.write_oracle.new.out) l))
    (oracle_text c.in_ok-string.string.items (to_come c.args.guests) c.as_slice-2.result.now c.in_ok-string.ensures (c.as_slice-2.ensures.value ∙ c.in_ok-pages.ensures ∙ ap pages_of c.as_slice.ensures.value)) c.write_oracle.ensures
