-- the cell becomes the last, by a turn or by new links
use Rattle.std.specs.Prelude.{◌≡◌, ◌++◌, true, [], ◌∷◌, List}
use Rattle.std.proofs.Common.{sym, ap, ◌∙◌, subst}
use Rattle.page_ring.specs.Linked.{Cell, is_at}
use Rattle.page_ring.specs.Chain.{Chain, cells_of, of_kind}
use Rattle.page_ring.proofs.ChainLaws.{Changed, changes_at, held_node}
use Rattle.page_ring.proofs.SendLaws.{send_front, send_behind}
use Rattle.page_ring.proofs.links.Links.send_to_end.Goals as goal

pub invariant_of-self : goal.invariant_of-self
invariant_of-self c =
    let seen : c.args.self.now.cells ≡ cells_of c.self.inside.nodes c.self.inside.front = sym (ap (λ (l : Chain). l.cells) c.self.view_is) in
    let there : is_at (cells_of c.self.inside.nodes c.self.inside.front) c.args.at ≡ true = subst (λ (l : List Cell). is_at l c.args.at ≡ true) seen c.requires in
    let step : Changed c.self.inside.nodes c.set_kind.new.nodes c.self.inside.front c.index.result.now.next c.args.at (λ u d v. (u ++ v) ++ of_kind c.args.kind d ∷ []) =
    changes_at c.self.inside.nodes c.set_kind.new.nodes c.self.inside.front c.index.result.now.next c.args.at (λ u d v. (u ++ v) ++ of_kind c.args.kind d ∷ []) c.self.invariant there
    (send_front c.self.inside.nodes c.set_kind.new.nodes c.self.inside.front c.args.at c.args.kind c.index.result.now c.index.ensures c.if-at-self.true c.set_kind.ensures.set c.set_kind.ensures.others c.set_kind.ensures.len) in
    step.held

pub returns-then-at-self-clause-cells : goal.returns-then-at-self-clause-cells
returns-then-at-self-clause-cells c =
    let seen : c.args.self.now.cells ≡ cells_of c.self.inside.nodes c.self.inside.front = sym (ap (λ (l : Chain). l.cells) c.self.view_is) in
    let there : is_at (cells_of c.self.inside.nodes c.self.inside.front) c.args.at ≡ true = subst (λ (l : List Cell). is_at l c.args.at ≡ true) seen c.requires in
    let step : Changed c.self.inside.nodes c.set_kind.new.nodes c.self.inside.front c.index.result.now.next c.args.at (λ u d v. (u ++ v) ++ of_kind c.args.kind d ∷ []) =
    changes_at c.self.inside.nodes c.set_kind.new.nodes c.self.inside.front c.index.result.now.next c.args.at (λ u d v. (u ++ v) ++ of_kind c.args.kind d ∷ []) c.self.invariant there
    (send_front c.self.inside.nodes c.set_kind.new.nodes c.self.inside.front c.args.at c.args.kind c.index.result.now c.index.ensures c.if-at-self.true c.set_kind.ensures.set c.set_kind.ensures.others c.set_kind.ensures.len) in
    λ u v d parts is. step.cells u v d (sym seen ∙ parts) is

pub returns-then-at-self-clause-apart : goal.returns-then-at-self-clause-apart
returns-then-at-self-clause-apart c =
    let seen : c.args.self.now.cells ≡ cells_of c.self.inside.nodes c.self.inside.front = sym (ap (λ (l : Chain). l.cells) c.self.view_is) in
    let there : is_at (cells_of c.self.inside.nodes c.self.inside.front) c.args.at ≡ true = subst (λ (l : List Cell). is_at l c.args.at ≡ true) seen c.requires in
    let step : Changed c.self.inside.nodes c.set_kind.new.nodes c.self.inside.front c.index.result.now.next c.args.at (λ u d v. (u ++ v) ++ of_kind c.args.kind d ∷ []) =
    changes_at c.self.inside.nodes c.set_kind.new.nodes c.self.inside.front c.index.result.now.next c.args.at (λ u d v. (u ++ v) ++ of_kind c.args.kind d ∷ []) c.self.invariant there
    (send_front c.self.inside.nodes c.set_kind.new.nodes c.self.inside.front c.args.at c.args.kind c.index.result.now c.index.ensures c.if-at-self.true c.set_kind.ensures.set c.set_kind.ensures.others c.set_kind.ensures.len) in
    step.held.circle.apart

pub pass_over-requires : goal.pass_over-requires
pass_over-requires c =
    let seen : c.args.self.now.cells ≡ cells_of c.self.inside.nodes c.self.inside.front = sym (ap (λ (l : Chain). l.cells) c.self.view_is) in
    let there : is_at (cells_of c.self.inside.nodes c.self.inside.front) c.args.at ≡ true = subst (λ (l : List Cell). is_at l c.args.at ≡ true) seen c.requires in
    held_node c.self.inside.nodes c.self.inside.front c.args.at (cells_of c.self.inside.nodes c.self.inside.front) c.self.invariant there

pub invariant_of-self-2 : goal.invariant_of-self-2
invariant_of-self-2 c =
    let seen : c.args.self.now.cells ≡ cells_of c.self.inside.nodes c.self.inside.front = sym (ap (λ (l : Chain). l.cells) c.self.view_is) in
    let there : is_at (cells_of c.self.inside.nodes c.self.inside.front) c.args.at ≡ true = subst (λ (l : List Cell). is_at l c.args.at ≡ true) seen c.requires in
    let step : Changed c.self.inside.nodes c.link_again.new.nodes c.self.inside.front c.self.inside.front c.args.at (λ u d v. (u ++ v) ++ of_kind c.args.kind d ∷ []) =
    changes_at c.self.inside.nodes c.link_again.new.nodes c.self.inside.front c.self.inside.front c.args.at (λ u d v. (u ++ v) ++ of_kind c.args.kind d ∷ []) c.self.invariant there
    (send_behind c.self.inside.nodes c.pass_over.new.nodes c.link_again.new.nodes c.self.inside.front c.args.at c.args.kind c.pass_over.result c.pass_over.ensures.node c.if-at-self.false c.pass_over.ensures.circle c.link_again.ensures.circle (c.link_again.ensures.len ∙ c.pass_over.ensures.len)) in
    step.held

pub returns-clause-cells : goal.returns-clause-cells
returns-clause-cells c =
    let seen : c.args.self.now.cells ≡ cells_of c.self.inside.nodes c.self.inside.front = sym (ap (λ (l : Chain). l.cells) c.self.view_is) in
    let there : is_at (cells_of c.self.inside.nodes c.self.inside.front) c.args.at ≡ true = subst (λ (l : List Cell). is_at l c.args.at ≡ true) seen c.requires in
    let step : Changed c.self.inside.nodes c.link_again.new.nodes c.self.inside.front c.self.inside.front c.args.at (λ u d v. (u ++ v) ++ of_kind c.args.kind d ∷ []) =
    changes_at c.self.inside.nodes c.link_again.new.nodes c.self.inside.front c.self.inside.front c.args.at (λ u d v. (u ++ v) ++ of_kind c.args.kind d ∷ []) c.self.invariant there
    (send_behind c.self.inside.nodes c.pass_over.new.nodes c.link_again.new.nodes c.self.inside.front c.args.at c.args.kind c.pass_over.result c.pass_over.ensures.node c.if-at-self.false c.pass_over.ensures.circle c.link_again.ensures.circle (c.link_again.ensures.len ∙ c.pass_over.ensures.len)) in
    λ u v d parts is. step.cells u v d (sym seen ∙ parts) is

pub returns-clause-apart : goal.returns-clause-apart
returns-clause-apart c =
    let seen : c.args.self.now.cells ≡ cells_of c.self.inside.nodes c.self.inside.front = sym (ap (λ (l : Chain). l.cells) c.self.view_is) in
    let there : is_at (cells_of c.self.inside.nodes c.self.inside.front) c.args.at ≡ true = subst (λ (l : List Cell). is_at l c.args.at ≡ true) seen c.requires in
    let step : Changed c.self.inside.nodes c.link_again.new.nodes c.self.inside.front c.self.inside.front c.args.at (λ u d v. (u ++ v) ++ of_kind c.args.kind d ∷ []) =
    changes_at c.self.inside.nodes c.link_again.new.nodes c.self.inside.front c.self.inside.front c.args.at (λ u d v. (u ++ v) ++ of_kind c.args.kind d ∷ []) c.self.invariant there
    (send_behind c.self.inside.nodes c.pass_over.new.nodes c.link_again.new.nodes c.self.inside.front c.args.at c.args.kind c.pass_over.result c.pass_over.ensures.node c.if-at-self.false c.pass_over.ensures.circle c.link_again.ensures.circle (c.link_again.ensures.len ∙ c.pass_over.ensures.len)) in
    step.held.circle.apart
