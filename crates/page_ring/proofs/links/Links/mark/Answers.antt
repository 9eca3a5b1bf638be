-- one entry has another kind
use Rattle.std.specs.Prelude.{◌≡◌, true, ◌∷◌, List, ◌++◌}
use Rattle.std.proofs.Common.{sym, ap, ◌∙◌, subst}
use Rattle.page_ring.specs.Linked.{Cell, is_at}
use Rattle.page_ring.specs.Chain.{Chain, cells_of, of_kind}
use Rattle.page_ring.proofs.ChainLaws.{Changed, changes_at, mark_step}
use Rattle.page_ring.proofs.links.Links.mark.Goals as goal

pub invariant_of-self : goal.invariant_of-self
invariant_of-self c =
    let seen : c.args.self.now.cells ≡ cells_of c.self.inside.nodes c.self.inside.front = sym (ap (λ (l : Chain). l.cells) c.self.view_is) in
    let there : is_at (cells_of c.self.inside.nodes c.self.inside.front) c.args.at ≡ true = subst (λ (l : List Cell). is_at l c.args.at ≡ true) seen c.requires in
    let step : Changed c.self.inside.nodes c.set_kind.new.nodes c.self.inside.front c.self.inside.front c.args.at (λ u d v. u ++ of_kind c.args.kind d ∷ v) =
    changes_at c.self.inside.nodes c.set_kind.new.nodes c.self.inside.front c.self.inside.front c.args.at (λ u d v. u ++ of_kind c.args.kind d ∷ v) c.self.invariant there (mark_step c.self.inside.nodes c.set_kind.new.nodes c.self.inside.front c.args.at c.args.kind c.set_kind.ensures.set c.set_kind.ensures.others c.set_kind.ensures.len) in
    step.held

pub returns-clause-cells : goal.returns-clause-cells
returns-clause-cells c =
    let seen : c.args.self.now.cells ≡ cells_of c.self.inside.nodes c.self.inside.front = sym (ap (λ (l : Chain). l.cells) c.self.view_is) in
    let there : is_at (cells_of c.self.inside.nodes c.self.inside.front) c.args.at ≡ true = subst (λ (l : List Cell). is_at l c.args.at ≡ true) seen c.requires in
    let step : Changed c.self.inside.nodes c.set_kind.new.nodes c.self.inside.front c.self.inside.front c.args.at (λ u d v. u ++ of_kind c.args.kind d ∷ v) =
    changes_at c.self.inside.nodes c.set_kind.new.nodes c.self.inside.front c.self.inside.front c.args.at (λ u d v. u ++ of_kind c.args.kind d ∷ v) c.self.invariant there (mark_step c.self.inside.nodes c.set_kind.new.nodes c.self.inside.front c.args.at c.args.kind c.set_kind.ensures.set c.set_kind.ensures.others c.set_kind.ensures.len) in
    λ u v d parts is. step.cells u v d (sym seen ∙ parts) is

pub returns-clause-apart : goal.returns-clause-apart
returns-clause-apart c =
    let seen : c.args.self.now.cells ≡ cells_of c.self.inside.nodes c.self.inside.front = sym (ap (λ (l : Chain). l.cells) c.self.view_is) in
    let there : is_at (cells_of c.self.inside.nodes c.self.inside.front) c.args.at ≡ true = subst (λ (l : List Cell). is_at l c.args.at ≡ true) seen c.requires in
    let step : Changed c.self.inside.nodes c.set_kind.new.nodes c.self.inside.front c.self.inside.front c.args.at (λ u d v. u ++ of_kind c.args.kind d ∷ v) =
    changes_at c.self.inside.nodes c.set_kind.new.nodes c.self.inside.front c.self.inside.front c.args.at (λ u d v. u ++ of_kind c.args.kind d ∷ v) c.self.invariant there (mark_step c.self.inside.nodes c.set_kind.new.nodes c.self.inside.front c.args.at c.args.kind c.set_kind.ensures.set c.set_kind.ensures.others c.set_kind.ensures.len) in
    step.held.circle.apart
