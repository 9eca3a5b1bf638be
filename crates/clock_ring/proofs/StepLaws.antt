-- What a call on the links makes of the circle with its hands and counts.
use Rattle.std.specs.Prelude.{◌≡◌, ◌≢◌, ℕ, ◌+◌, ◌*◌, ◌≤◌, ◌<◌, true, false, ◌==◌, ◌||◌, cond, find, option_map, Option, Some, None, List, [], ◌∷◌, ◌++◌, length, refl}
use Rattle.std.proofs.Common.{arith, sym, ap, ◌∙◌, subst, eqb-true}
use Rattle.std.proofs.lemmas.List.{length_push}
use Rattle.clock_policy.specs.FrameCounts.{most_frames}
use Rattle.clock_policy.specs.declared.key.Key.{Key}
use Rattle.clock_policy.specs.declared.entry.Entry.{Entry}
use Rattle.clock_policy.specs.declared.entry.EntryKind.{EntryKind}
use Rattle.clock_policy.specs.declared.entry.EntryKind.TheVariants.{Shadow}
use Rattle.clock_policy.specs.ClockPro.{ClockState, has_key, kind_of, found_key, removed, appended, marked, sent_to_end, cold_hand_on, shadowed}
use Rattle.clock_policy.proofs.AdmitLaws.{keyed}
use Rattle.clock_policy.specs.SingleMoves.{front_turned, test_hand_on}
use Rattle.page_ring.specs.declared.links.Node.{Node}
use Rattle.page_ring.specs.Linked.{Cell, DistinctNodes, is_at, first_at, last_at}
use Rattle.page_ring.proofs.LinkLaws.{at_self, not_same, apart_turned}
use Rattle.page_ring.specs.Chain.{of_kind, Rotates}
use Rattle.page_ring.proofs.ChainLaws.{rotates_split}
use Rattle.page_ring.specs.Index.{entries_of, at_of}
use Rattle.page_ring.proofs.IndexLaws.{appended_distinct}
use Rattle.clock_ring.specs.declared.counts.Counts.{Counts}
use Rattle.clock_ring.specs.RingState.{entry_at_node, hand_at, Rests, Whole, Counted, Kept, More, HasOne}
use Rattle.clock_ring.proofs.CountedLaws.{has_one, counted_removed, counted_appended, counted_marked, counted_turned, counted_length, less_length, length_marked, length_removed}
use Rattle.clock_ring.proofs.MoveLaws.{on, Between, between, found_at, left_at, taken_up, at_rests, turned_on, turned_whole, marked_on, marked_whole, removed_on, removed_whole, appended_on, appended_whole, sent_on, sent_whole, cold_set_on, test_set_on, shadowed_on, next_rests}

-- what a circle tells of a node
abbrev pub NodeAt : List Cell → ℕ → Node → Type 0
NodeAt cells at node = (c : Cell) → (cs : List Cell) → Rotates cells (c ∷ cs) → c.at ≡ at → node ≡ record { entry = c.entry; next = first_at cs at; previous = last_at at cs }

-- what a change at a node makes of the cells
abbrev pub Made : List Cell → ℕ → List Cell → (List Cell → Cell → List Cell → List Cell) → Type 0
Made cells at new made = (u v : List Cell) → (c : Cell) → cells ≡ u ++ c ∷ v → c.at ≡ at → new ≡ made u c v

-- a move: what is kept behind it, and which of the policy's it is
pub record Step (cells : List Cell) (cold test : ℕ) (new : List Cell) (cold' test' : ℕ) (n' : Counts) (frames : ℕ) (move : ClockState → ClockState) : Type 0 where
  pub kept : Kept new cold' test' n' frames
  pub moved : (s : ClockState) → on new cold' test' s ≡ move (on cells cold test s)

pub has_one_at : (n : Counts) (cells : List Cell) (at : ℕ) (e : Entry) → Counted n cells → entry_at_node cells at ≡ Some e → HasOne n e.kind
has_one_at n cells at e h holds =
    let b : Between cells at e = between cells at e holds in
    has_one n b.before b.behind (record { at = at; entry = e }) (subst (Counted n) b.parts h)

-- there is room for one more in the counts
pub few_counted : (cells : List Cell) (cold test frames : ℕ) (n : Counts) → frames ≤ most_frames → Kept cells cold test n frames → n.hot + n.cold + n.shadows ≤ 8192
few_counted cells cold test frames n most h = omega (arith, counted_length n cells h.counted, h.within)

pub few_less : (cells : List Cell) (cold test frames : ℕ) (n m : Counts) (kind : EntryKind) → frames ≤ most_frames → Kept cells cold test n frames → More m n kind → m.hot + m.cold + m.shadows ≤ 8192
few_less cells cold test frames n m kind most h less = omega (arith, less_length n m cells kind h.counted less, h.within)

parted : (u v : List Cell) (c : Cell) → DistinctNodes (u ++ c ∷ v) → DistinctNodes (u ++ v)
parted u v c apart = let around : DistinctNodes ((c ∷ v) ++ u) = apart_turned u (c ∷ v) apart in apart_turned v u (around.1)

next_is : (u v : List Cell) (c : Cell) (cells : List Cell) (node : Node) → cells ≡ u ++ c ∷ v → NodeAt cells c.at node → node.next ≡ first_at (v ++ u) c.at
next_is u v c cells node parts h = ap (λ (m : Node). m.next) (h c (v ++ u) (rotates_split cells u v c parts) refl)

pub node_entry : (cells : List Cell) (at : ℕ) (e : Entry) (node : Node) → entry_at_node cells at ≡ Some e → NodeAt cells at node → node.entry ≡ e
node_entry cells at e node holds h =
    let b : Between cells at e = between cells at e holds in
    ap (λ (m : Node). m.entry) (h (record { at = at; entry = e }) (b.behind ++ b.before) (rotates_split cells b.before b.behind (record { at = at; entry = e }) b.parts) refl)

pub turn_step : (cells new : List Cell) (cold test : ℕ) (n : Counts) (frames : ℕ) → Kept cells cold test n frames → 1 ≤ length cells →
    ((c : Cell) → (cs : List Cell) → cells ≡ c ∷ cs → new ≡ cs ++ c ∷ []) → DistinctNodes new → Step cells cold test new cold test n frames front_turned
turn_step [] new cold test n frames h some made apart = absurd (omega (arith, some))
turn_step (c ∷ cs) new cold test n frames h some made apart =
    let is : new ≡ cs ++ c ∷ [] = made c cs refl in
    record {
      kept = subst (λ (l : List Cell). Kept l cold test n frames) (sym is) (record {
        whole = turned_whole c cs cold test h.whole (subst DistinctNodes is apart);
        counted = counted_turned n (c ∷ []) cs h.counted;
        within = omega (arith, length_push cs c, h.within);
      });
      moved = λ s. ap (λ (l : List Cell). on l cold test s) is ∙ turned_on c cs cold test s h.whole.apart;
    }

pub mark_step : (cells new : List Cell) (at : ℕ) (e : Entry) (kind : EntryKind) (cold test : ℕ) (n m k : Counts) (frames : ℕ) → Kept cells cold test n frames → entry_at_node cells at ≡ Some e →
    Made cells at new (λ u c v. u ++ of_kind kind c ∷ v) → DistinctNodes new → More m n e.kind → More m k kind → Step cells cold test new cold test k frames (marked e.key kind)
mark_step cells new at e kind cold test n m k frames h holds made apart less more = at_cells (between cells at e holds)
  where
    at_cells : Between cells at e → Step cells cold test new cold test k frames (marked e.key kind)
    at_cells b =
        let c : Cell = record { at = at; entry = e } in
        let u : List Cell = b.before in
        let v : List Cell = b.behind in
        let is : new ≡ u ++ of_kind kind c ∷ v = made u v c b.parts refl in
        let old : Kept (u ++ c ∷ v) cold test n frames = subst (λ (l : List Cell). Kept l cold test n frames) b.parts h in
        record {
          kept = subst (λ (l : List Cell). Kept l cold test k frames) (sym is) (record {
            whole = marked_whole kind u v c cold test old.whole (subst DistinctNodes is apart);
            counted = counted_marked n m k kind u v c old.counted less more;
            within = omega (arith, length_marked kind u v c, old.within);
          });
          moved = λ s. ap (λ (l : List Cell). on l cold test s) is ∙ marked_on kind u v c cold test s old.whole.distinct ∙ ap (λ (l : List Cell). marked e.key kind (on l cold test s)) (sym b.parts);
        }

pub remove_step : (cells new : List Cell) (at : ℕ) (e : Entry) (node : Node) (cold test cold' test' : ℕ) (n m : Counts) (frames : ℕ) → Kept cells cold test n frames → entry_at_node cells at ≡ Some e → NodeAt cells at node →
    Made cells at new (λ u c v. u ++ v) → More m n e.kind → cold' ≡ left_at cold at node.next → test' ≡ left_at test at node.next → Step cells cold test new cold' test' m frames (removed e.key)
remove_step cells new at e node cold test cold' test' n m frames h holds told made less cold_is test_is = at_cells (between cells at e holds)
  where
    at_cells : Between cells at e → Step cells cold test new cold' test' m frames (removed e.key)
    at_cells b =
        let c : Cell = record { at = at; entry = e } in
        let u : List Cell = b.before in
        let v : List Cell = b.behind in
        let is : new ≡ u ++ v = made u v c b.parts refl in
        let old : Kept (u ++ c ∷ v) cold test n frames = subst (λ (l : List Cell). Kept l cold test n frames) b.parts h in
        let apart : DistinctNodes (u ++ v) = parted u v c old.whole.apart in
        let next : node.next ≡ first_at (v ++ u) at = next_is u v c cells node b.parts told in
        let one : cold' ≡ left_at cold at (first_at (v ++ u) at) = cold_is ∙ ap (left_at cold at) next in
        let two : test' ≡ left_at test at (first_at (v ++ u) at) = test_is ∙ ap (left_at test at) next in
        let after : Kept (u ++ v) (left_at cold at (first_at (v ++ u) at)) (left_at test at (first_at (v ++ u) at)) m frames = record {
          whole = removed_whole u v c cold test old.whole apart;
          counted = counted_removed n m u v c old.counted less;
          within = omega (arith, length_removed u v c, old.within);
        } in
        record {
          kept = subst (λ (l : List Cell). Kept l cold' test' m frames) (sym is) (subst (λ (k : ℕ). Kept (u ++ v) k test' m frames) (sym one) (subst (λ (k : ℕ). Kept (u ++ v) (left_at cold at (first_at (v ++ u) at)) k m frames) (sym two) after));
          moved = λ s.
              ap (λ (l : List Cell). on l cold' test' s) is
              ∙ ap (λ (k : ℕ). on (u ++ v) k test' s) one
              ∙ ap (λ (k : ℕ). on (u ++ v) (left_at cold at (first_at (v ++ u) at)) k s) two
              ∙ removed_on u v c cold test s old.whole apart
              ∙ ap (λ (l : List Cell). removed e.key (on l cold test s)) (sym b.parts);
        }

pub append_step : (cells new : List Cell) (at : ℕ) (e : Entry) (cold test cold' test' : ℕ) (n m : Counts) (frames : ℕ) → Kept cells cold test n frames → length cells < 2 * frames → at_of e.key cells ≡ None →
    new ≡ cells ++ record { at = at; entry = e } ∷ [] → DistinctNodes new → More n m e.kind → cold' ≡ taken_up cells at cold → test' ≡ taken_up cells at test → Step cells cold test new cold' test' m frames (appended e)
append_step cells new at e cold test cold' test' n m frames h room free is apart more cold_is test_is =
    let c : Cell = record { at = at; entry = e } in
    let after : Kept (cells ++ c ∷ []) (taken_up cells at cold) (taken_up cells at test) m frames = record {
      whole = appended_whole cells c cold test h.whole (subst DistinctNodes is apart) (appended_distinct cells c h.whole.distinct free);
      counted = counted_appended n m cells c h.counted more;
      within = omega (arith, length_push cells c, room);
    } in
    record {
      kept = subst (λ (l : List Cell). Kept l cold' test' m frames) (sym is) (subst (λ (k : ℕ). Kept (cells ++ c ∷ []) k test' m frames) (sym cold_is) (subst (λ (k : ℕ). Kept (cells ++ c ∷ []) (taken_up cells at cold) k m frames) (sym test_is) after));
      moved = λ s.
          ap (λ (l : List Cell). on l cold' test' s) is
          ∙ ap (λ (k : ℕ). on (cells ++ c ∷ []) k test' s) cold_is
          ∙ ap (λ (k : ℕ). on (cells ++ c ∷ []) (taken_up cells at cold) k s) test_is
          ∙ appended_on cells c cold test s h.whole.cold_rests h.whole.test_rests;
    }

pub send_step : (cells new : List Cell) (at : ℕ) (e : Entry) (kind : EntryKind) (node : Node) (cold test cold' test' : ℕ) (n m k : Counts) (frames : ℕ) → Kept cells cold test n frames → entry_at_node cells at ≡ Some e → NodeAt cells at node →
    Made cells at new (λ u c v. (u ++ v) ++ of_kind kind c ∷ []) → DistinctNodes new → More m n e.kind → More m k kind → cold' ≡ left_at cold at node.next → test' ≡ left_at test at node.next → Step cells cold test new cold' test' k frames (sent_to_end e.key kind)
send_step cells new at e kind node cold test cold' test' n m k frames h holds told made apart less more cold_is test_is = at_cells (between cells at e holds)
  where
    at_cells : Between cells at e → Step cells cold test new cold' test' k frames (sent_to_end e.key kind)
    at_cells b =
        let c : Cell = record { at = at; entry = e } in
        let u : List Cell = b.before in
        let v : List Cell = b.behind in
        let l' : List Cell = (u ++ v) ++ of_kind kind c ∷ [] in
        let is : new ≡ (u ++ v) ++ of_kind kind c ∷ [] = made u v c b.parts refl in
        let old : Kept (u ++ c ∷ v) cold test n frames = subst (λ (l : List Cell). Kept l cold test n frames) b.parts h in
        let left : DistinctNodes (u ++ v) = parted u v c old.whole.apart in
        let next : node.next ≡ first_at (v ++ u) at = next_is u v c cells node b.parts told in
        let one : cold' ≡ left_at cold at (first_at (v ++ u) at) = cold_is ∙ ap (left_at cold at) next in
        let two : test' ≡ left_at test at (first_at (v ++ u) at) = test_is ∙ ap (left_at test at) next in
        let after : Kept ((u ++ v) ++ of_kind kind c ∷ []) (left_at cold at (first_at (v ++ u) at)) (left_at test at (first_at (v ++ u) at)) k frames = record {
          whole = sent_whole kind u v c cold test old.whole left (subst DistinctNodes is apart);
          counted = counted_appended m k (u ++ v) (of_kind kind c) (counted_removed n m u v c old.counted less) more;
          within = omega (arith, length_removed u v c, length_push (u ++ v) (of_kind kind c), old.within);
        } in
        record {
          kept = subst (λ (l : List Cell). Kept l cold' test' k frames) (sym is) (subst (λ (j : ℕ). Kept l' j test' k frames) (sym one) (subst (λ (j : ℕ). Kept l' (left_at cold at (first_at (v ++ u) at)) j k frames) (sym two) after));
          moved = λ s.
              ap (λ (l : List Cell). on l cold' test' s) is
              ∙ ap (λ (j : ℕ). on l' j test' s) one
              ∙ ap (λ (j : ℕ). on l' (left_at cold at (first_at (v ++ u) at)) j s) two
              ∙ sent_on kind u v c cold test s old.whole left
              ∙ ap (λ (l : List Cell). sent_to_end e.key kind (on l cold test s)) (sym b.parts);
        }

-- hands are set
pub cold_set_step : (cells : List Cell) (at : ℕ) (e : Entry) (cold test : ℕ) (n : Counts) (frames : ℕ) → Kept cells cold test n frames → entry_at_node cells at ≡ Some e → Step cells cold test cells at test n frames (cold_hand_on e.key)
cold_set_step cells at e cold test n frames h holds = record {
  kept = record {
    whole = record { apart = h.whole.apart; distinct = h.whole.distinct; cold_rests = at_rests cells at (found_at cells at e holds); test_rests = h.whole.test_rests };
    counted = h.counted;
    within = h.within;
  };
  moved = λ s. cold_set_on cells at cold test e s holds;
}

pub test_set_step : (cells : List Cell) (at : ℕ) (e : Entry) (cold test : ℕ) (n : Counts) (frames : ℕ) → Kept cells cold test n frames → entry_at_node cells at ≡ Some e → Step cells cold test cells cold at n frames (test_hand_on e.key)
test_set_step cells at e cold test n frames h holds = record {
  kept = record {
    whole = record { apart = h.whole.apart; distinct = h.whole.distinct; cold_rests = h.whole.cold_rests; test_rests = at_rests cells at (found_at cells at e holds) };
    counted = h.counted;
    within = h.within;
  };
  moved = λ s. test_set_on cells at cold test e s holds;
}

pub shadow_step : (cells new : List Cell) (at : ℕ) (e : Entry) (node : Node) (cold test : ℕ) (n m k : Counts) (frames : ℕ) → Kept cells cold test n frames → entry_at_node cells at ≡ Some e → NodeAt cells at node →
    Made cells at new (λ u c v. u ++ of_kind Shadow c ∷ v) → DistinctNodes new → More m n e.kind → More m k Shadow → Step cells cold test new node.next test k frames (shadowed e.key)
shadow_step cells new at e node cold test n m k frames h holds told made apart less more = at_cells (between cells at e holds)
  where
    at_cells : Between cells at e → Step cells cold test new node.next test k frames (shadowed e.key)
    at_cells b =
        let c : Cell = record { at = at; entry = e } in
        let u : List Cell = b.before in
        let v : List Cell = b.behind in
        let is : new ≡ u ++ of_kind Shadow c ∷ v = made u v c b.parts refl in
        let old : Kept (u ++ c ∷ v) cold test n frames = subst (λ (l : List Cell). Kept l cold test n frames) b.parts h in
        let next : node.next ≡ first_at (v ++ u) at = next_is u v c cells node b.parts told in
        let marked : Whole (u ++ of_kind Shadow c ∷ v) cold test = marked_whole Shadow u v c cold test old.whole (subst DistinctNodes is apart) in
        let after : Kept (u ++ of_kind Shadow c ∷ v) (first_at (v ++ u) at) test k frames = record {
          whole = record { apart = marked.apart; distinct = marked.distinct; cold_rests = next_rests u v (of_kind Shadow c); test_rests = marked.test_rests };
          counted = counted_marked n m k Shadow u v c old.counted less more;
          within = omega (arith, length_marked Shadow u v c, old.within);
        } in
        record {
          kept = subst (λ (l : List Cell). Kept l node.next test k frames) (sym is) (subst (λ (j : ℕ). Kept (u ++ of_kind Shadow c ∷ v) j test k frames) (sym next) after);
          moved = λ s.
              ap (λ (l : List Cell). on l node.next test s) is
              ∙ ap (λ (j : ℕ). on (u ++ of_kind Shadow c ∷ v) j test s) next
              ∙ shadowed_on u v c cold test s old.whole.distinct marked.apart
              ∙ ap (λ (l : List Cell). shadowed e.key (on l cold test s)) (sym b.parts);
        }

-- Look-ups.

pub rests_on : (cells : List Cell) (n len : ℕ) → Rests cells n → len ≡ length cells → len ≢ 0 → is_at cells n ≡ true
rests_on [] n len h is some = absurd (some is)
rests_on (c ∷ cs) n len h is some = h

pub none_on : (cells : List Cell) (n len : ℕ) → len ≡ length cells → len ≡ 0 → None ≡ hand_at cells n
none_on [] n len is none = refl
none_on (c ∷ cs) n len is none = absurd (omega (arith, is, none))

pub taken_none : (cells : List Cell) (at hand len : ℕ) → len ≡ length cells → len ≡ 0 → at ≡ taken_up cells at hand
taken_none [] at hand len is none = refl
taken_none (c ∷ cs) at hand len is none = absurd (omega (arith, is, none))

pub taken_some : (cells : List Cell) (at hand len : ℕ) → len ≡ length cells → len ≢ 0 → hand ≡ taken_up cells at hand
taken_some [] at hand len is some = absurd (some is)
taken_some (c ∷ cs) at hand len is some = refl

pub node_key : (cells : List Cell) (n : ℕ) (node : Node) → is_at cells n ≡ true → NodeAt cells n node → Some node.entry.key ≡ hand_at cells n
node_key cells n node there told = by_entry (entry_at_node cells n) refl
  where
    none : (l : List Cell) (n : ℕ) → is_at l n ≡ true → entry_at_node l n ≡ None → false ≡ true
    none [] n h g = h
    none (c ∷ cs) n h g =
        elim (c.at == n) as (λ t. t || is_at cs n ≡ true → cond t (Some c.entry) (entry_at_node cs n) ≡ None → false ≡ true) [ true ↦ λ _ g. cc | false ↦ λ h g. none cs n h g ] h g

    by_entry : (o : Option Entry) → entry_at_node cells n ≡ o → Some node.entry.key ≡ hand_at cells n
    by_entry None is = let no : false ≡ true = none cells n there is in cc
    by_entry (Some e) is = ap (λ (x : Entry). Some x.key) (node_entry cells n e node is told) ∙ sym (ap found_key is)

-- the entry of a page
pub record Located (cells : List Cell) (k : Key) (at : ℕ) : Type 0 where
  pub entry : Entry
  pub holds : entry_at_node cells at ≡ Some entry
  pub key : entry.key ≡ k
  pub kind : kind_of k (entries_of cells) ≡ Some entry.kind

pub located : (k : Key) (cells : List Cell) (at : ℕ) → DistinctNodes cells → at_of k cells ≡ Some at → Located cells k at
located k [] at apart h = cc
located k (c ∷ cs) at apart h =
    elim (has_key k c.entry) as (λ t. has_key k c.entry ≡ t → cond t (Some c.at) (at_of k cs) ≡ Some at → Located (c ∷ cs) k at) [
      | true ↦ λ is g.
          let same : c.at ≡ at = cc in
          record { entry = c.entry; holds = rw (same, at_self at) refl; key = keyed k c.entry is; kind = rw is refl }
      | false ↦ λ is g.
          let l : Located cs k at = located k cs at (apart.1) g in
          let away : (c.at == at) ≡ false = differs cs c.at at (apart.0) (found_at cs at l.entry l.holds) in
          record { entry = l.entry; holds = rw away l.holds; key = l.key; kind = rw is l.kind }
    ] refl h
  where
    differs : (cs : List Cell) (m n : ℕ) → is_at cs m ≡ false → is_at cs n ≡ true → (m == n) ≡ false
    differs cs m n alone there =
        elim (m == n) as (λ t. (m == n) ≡ t → t ≡ false) [
          | true ↦ λ is. absurd (not_same cs m n alone there (sym (eqb-true m n is)))
          | false ↦ λ is. refl
        ] refl

pub not_located : (k : Key) (cells : List Cell) → at_of k cells ≡ None → kind_of k (entries_of cells) ≡ None
not_located k [] h = refl
not_located k (c ∷ cs) h =
    elim (has_key k c.entry) as (λ t. cond t (Some c.at) (at_of k cs) ≡ None → option_map (λ (x : Entry). x.kind) (cond t (Some c.entry) (find (has_key k) (entries_of cs))) ≡ None) [
      | true ↦ λ g. cc
      | false ↦ λ g. not_located k cs g
    ] h

-- a page that the list does not know has no cell
pub no_cell : (k : Key) (cells : List Cell) → kind_of k (entries_of cells) ≡ None → at_of k cells ≡ None
no_cell k [] h = refl
no_cell k (c ∷ cs) h =
    elim (has_key k c.entry) as (λ t. option_map (λ (x : Entry). x.kind) (cond t (Some c.entry) (find (has_key k) (entries_of cs))) ≡ None → cond t (Some c.at) (at_of k cs) ≡ None) [
      | true ↦ λ g. cc
      | false ↦ λ g. no_cell k cs g
    ] h
