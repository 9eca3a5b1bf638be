-- one node goes
use Rattle.std.specs.Prelude.{◌≡◌, true, List, ◌++◌}
use Rattle.std.proofs.Common.{sym, ap, ◌∙◌, subst}
use Rattle.page_ring.specs.Linked.{Cell, is_at}
use Rattle.page_ring.specs.Chain.{Chain, cells_of}
use Rattle.page_ring.proofs.ChainLaws.{Changed, changes_at, remove_step, held_node}
use Rattle.page_ring.proofs.links.Links.remove.Goals as goal

pub unlink-next-requires : goal.unlink-next-requires
unlink-next-requires c =
    let seen : c.args.self.now.cells ≡ cells_of c.self.inside.nodes c.self.inside.front = sym (ap (λ (l : Chain). l.cells) c.self.view_is) in
    let there : is_at (cells_of c.self.inside.nodes c.self.inside.front) c.args.at ≡ true = subst (λ (l : List Cell). is_at l c.args.at ≡ true) seen c.requires in
    held_node c.self.inside.nodes c.self.inside.front c.args.at (cells_of c.self.inside.nodes c.self.inside.front) c.self.invariant there

pub invariant_of-self : goal.invariant_of-self
invariant_of-self c =
    let seen : c.args.self.now.cells ≡ cells_of c.self.inside.nodes c.self.inside.front = sym (ap (λ (l : Chain). l.cells) c.self.view_is) in
    let there : is_at (cells_of c.self.inside.nodes c.self.inside.front) c.args.at ≡ true = subst (λ (l : List Cell). is_at l c.args.at ≡ true) seen c.requires in
    let step : Changed c.self.inside.nodes c.unlink-next.new.nodes c.self.inside.front c.after-self-inside.result c.args.at (λ u d v. u ++ v) =
    changes_at c.self.inside.nodes c.unlink-next.new.nodes c.self.inside.front c.after-self-inside.result c.args.at (λ u d v. u ++ v) c.self.invariant there (remove_step c.self.inside.nodes c.unlink-next.new.nodes c.self.inside.front c.after-self-inside.result c.args.at c.unlink-next.result c.unlink-next.ensures.circle c.unlink-next.ensures.next c.unlink-next.ensures.len c.after-self-inside.ensures) in
    step.held

pub returns-clause-cells : goal.returns-clause-cells
returns-clause-cells c =
    let seen : c.args.self.now.cells ≡ cells_of c.self.inside.nodes c.self.inside.front = sym (ap (λ (l : Chain). l.cells) c.self.view_is) in
    let there : is_at (cells_of c.self.inside.nodes c.self.inside.front) c.args.at ≡ true = subst (λ (l : List Cell). is_at l c.args.at ≡ true) seen c.requires in
    let step : Changed c.self.inside.nodes c.unlink-next.new.nodes c.self.inside.front c.after-self-inside.result c.args.at (λ u d v. u ++ v) =
    changes_at c.self.inside.nodes c.unlink-next.new.nodes c.self.inside.front c.after-self-inside.result c.args.at (λ u d v. u ++ v) c.self.invariant there (remove_step c.self.inside.nodes c.unlink-next.new.nodes c.self.inside.front c.after-self-inside.result c.args.at c.unlink-next.result c.unlink-next.ensures.circle c.unlink-next.ensures.next c.unlink-next.ensures.len c.after-self-inside.ensures) in
    λ u v d parts is. step.cells u v d (sym seen ∙ parts) is

pub returns-clause-apart : goal.returns-clause-apart
returns-clause-apart c =
    let seen : c.args.self.now.cells ≡ cells_of c.self.inside.nodes c.self.inside.front = sym (ap (λ (l : Chain). l.cells) c.self.view_is) in
    let there : is_at (cells_of c.self.inside.nodes c.self.inside.front) c.args.at ≡ true = subst (λ (l : List Cell). is_at l c.args.at ≡ true) seen c.requires in
    let step : Changed c.self.inside.nodes c.unlink-next.new.nodes c.self.inside.front c.after-self-inside.result c.args.at (λ u d v. u ++ v) =
    changes_at c.self.inside.nodes c.unlink-next.new.nodes c.self.inside.front c.after-self-inside.result c.args.at (λ u d v. u ++ v) c.self.invariant there (remove_step c.self.inside.nodes c.unlink-next.new.nodes c.self.inside.front c.after-self-inside.result c.args.at c.unlink-next.result c.unlink-next.ensures.circle c.unlink-next.ensures.next c.unlink-next.ensures.len c.after-self-inside.ensures) in
    step.held.circle.apart
