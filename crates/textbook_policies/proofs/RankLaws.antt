-- Pages in an order, each found by its name: proofs.
use Rattle.std.specs.Prelude.{◌≡◌, ℕ, Bool, true, false, cond, nat_lt, List, [], ◌∷◌, length, Option, Some, None, refl}
use Rattle.std.specs.Ordering.{nat_cmp, ordering_then, match_ordering, is_eq}
use Rattle.std.specs.declared.cmp.Ordering.{Ordering}
use Rattle.std.specs.declared.cmp.Ordering.TheVariants.{Less, Equal, Greater}
use Rattle.std.specs.BTreeSet.{insert_key}
use Rattle.std.specs.Set.{remove_key}
use Rattle.std.proofs.Common.{arith, sym, ap, subst, ◌∙◌}
use Rattle.std.proofs.lemmas.Bool.Decides.{nat_tests}
use Rattle.clock_policy.specs.declared.key.Key.{Key}
use Rattle.clock_policy.proofs.AdmitLaws.{one_key}
use Rattle.page_policies.specs.Strings.{is_page}
use Rattle.page_policies.proofs.QueueLaws.{itself, same}
use Rattle.textbook_policies.specs.declared.ranked.Ranked.{Ranked}
use Rattle.textbook_policies.specs.Ranks.{page_of, rank_cmp, rank_in, unranked, placed, room_made, Apart, IsRanking}

-- ranks that are equal

nat_same : (n : ℕ) → nat_cmp n n ≡ Equal
nat_same n = grind (arith, nat_tests)

nat_equal : (a b : ℕ) → nat_cmp a b ≡ Equal → a ≡ b
nat_equal a b h = grind (arith, nat_tests)

then_equal : (a b : Ordering) → ordering_then a b ≡ Equal → (a ≡ Equal) × (b ≡ Equal)
then_equal Less b h = cc
then_equal Equal b h = (refl, h)
then_equal Greater b h = cc

pub rank_itself : (k : Ranked) → rank_cmp k k ≡ Equal
rank_itself k =
    ap (λ (o : Ordering). ordering_then o (ordering_then (nat_cmp k.second k.second) (ordering_then (nat_cmp k.process k.process) (nat_cmp k.vpn k.vpn)))) (nat_same k.first)
    ∙ ap (λ (o : Ordering). ordering_then o (ordering_then (nat_cmp k.process k.process) (nat_cmp k.vpn k.vpn))) (nat_same k.second)
    ∙ ap (λ (o : Ordering). ordering_then o (nat_cmp k.vpn k.vpn)) (nat_same k.process)
    ∙ nat_same k.vpn

pub equal_page : (k x : Ranked) → rank_cmp k x ≡ Equal → page_of k ≡ page_of x
equal_page k x h =
    let first : (nat_cmp k.first x.first ≡ Equal) × (ordering_then (nat_cmp k.second x.second) (ordering_then (nat_cmp k.process x.process) (nat_cmp k.vpn x.vpn)) ≡ Equal) = then_equal _ _ h in
    let second : (nat_cmp k.second x.second ≡ Equal) × (ordering_then (nat_cmp k.process x.process) (nat_cmp k.vpn x.vpn) ≡ Equal) = then_equal _ _ first.1 in
    let third : (nat_cmp k.process x.process ≡ Equal) × (nat_cmp k.vpn x.vpn ≡ Equal) = then_equal _ _ second.1 in
    λ i. record { process = nat_equal k.process x.process third.0 i; vpn = nat_equal k.vpn x.vpn third.1 i }

is_equal : (k x : Ranked) → is_eq (rank_cmp k x) ≡ true → rank_cmp k x ≡ Equal
is_equal k x h = by_order (rank_cmp k x) h
  where
    by_order : (o : Ordering) → is_eq o ≡ true → o ≡ Equal
    by_order Less h = cc
    by_order Equal h = refl
    by_order Greater h = cc

-- a page that is found

taken : (x k : Ranked) → (let o : Option Ranked = Some x in o) ≡ Some k → x ≡ k
taken x k h = cc

pub rank_page : (p : Key) (s : List Ranked) (k : Ranked) → rank_in p s ≡ Some k → page_of k ≡ p
rank_page p [] k h = cc
rank_page p (x ∷ xs) k h = elim (is_page p (page_of x)) as (λ b. is_page p (page_of x) ≡ b → cond b (Some x) (rank_in p xs) ≡ Some k → page_of k ≡ p) [
  | true ↦ λ is g. sym (ap page_of (taken x k g)) ∙ sym (same p (page_of x) is)
  | false ↦ λ is g. rank_page p xs k g
] refl h

-- a rank that is taken out is the page's

pub removed : (k : Ranked) (p : Key) (s : List Ranked) → rank_in p s ≡ Some k → remove_key (λ x. is_eq (rank_cmp k x)) s ≡ unranked p s
removed k p [] h = cc
removed k p (x ∷ xs) h =
    elim (is_page p (page_of x)) as (λ b. is_page p (page_of x) ≡ b → cond b (Some x) (rank_in p xs) ≡ Some k → cond (is_eq (rank_cmp k x)) xs (x ∷ remove_key (λ x. is_eq (rank_cmp k x)) xs) ≡ cond b xs (x ∷ unranked p xs)) [
      | true ↦ λ is g. ap (λ (b : Bool). cond b xs (x ∷ remove_key (λ x. is_eq (rank_cmp k x)) xs)) (ap (λ (r : Ranked). is_eq (rank_cmp k r)) (taken x k g) ∙ ap is_eq (rank_itself k))
      | false ↦ λ is g. ap (λ (b : Bool). cond b xs (x ∷ remove_key (λ x. is_eq (rank_cmp k x)) xs)) (other (is_eq (rank_cmp k x)) refl is (rank_page p xs k g)) ∙ ap (λ (l : List Ranked). x ∷ l) (removed k p xs g)
    ] refl h
  where
    other : (b : Bool) → is_eq (rank_cmp k x) ≡ b → is_page p (page_of x) ≡ false → page_of k ≡ p → b ≡ false
    other true e is page = sym (itself p) ∙ ap (is_page p) (sym page ∙ equal_page k x (is_equal k x e)) ∙ is
    other false e is page = refl

pub rank_out : (p q : Key) (s : List Ranked) → Apart s → rank_in q (unranked p s) ≡ cond (is_page p q) None (rank_in q s)
rank_out p q [] apart = either (is_page p q)
  where
    either : (b : Bool) → None ≡ (let o : Option Ranked = cond b None None in o)
    either true = refl
    either false = refl
rank_out p q (x ∷ xs) apart = elim (is_page p (page_of x)) as (λ b. is_page p (page_of x) ≡ b → rank_in q (cond b xs (x ∷ unranked p xs)) ≡ cond (is_page p q) None (cond (is_page q (page_of x)) (Some x) (rank_in q xs))) [
  | true ↦ λ is. elim (is_page p q) as (λ b. is_page p q ≡ b → rank_in q xs ≡ cond b None (cond (is_page q (page_of x)) (Some x) (rank_in q xs))) [
    | true ↦ λ e. ap (λ (r : Key). rank_in r xs) (sym (same p q e) ∙ same p (page_of x) is) ∙ apart.0
    | false ↦ λ e. sym (ap (λ (b : Bool). cond b (Some x) (rank_in q xs)) (apart_from (is_page q (page_of x)) refl (same p (page_of x) is) e))
  ] refl
  | false ↦ λ is. elim (is_page q (page_of x)) as (λ b. is_page q (page_of x) ≡ b → cond b (Some x) (rank_in q (unranked p xs)) ≡ cond (is_page p q) None (cond b (Some x) (rank_in q xs))) [
    | true ↦ λ e. sym (ap (λ (b : Bool). let o : Option Ranked = cond b None (Some x) in o) (ap (is_page p) (same q (page_of x) e) ∙ is))
    | false ↦ λ e. rank_out p q xs apart.1
  ] refl
] refl
  where
    apart_from : (b : Bool) → is_page q (page_of x) ≡ b → p ≡ page_of x → is_page p q ≡ false → b ≡ false
    apart_from true e page differs = sym (itself p) ∙ ap (is_page p) (page ∙ sym (same q (page_of x) e)) ∙ differs
    apart_from false e page differs = refl

none_either : (b : Bool) (o : Option Ranked) → o ≡ None → (let r : Option Ranked = cond b None o in r) ≡ None
none_either true o h = refl
none_either false o h = h

pub apart_out : (p : Key) (s : List Ranked) → Apart s → Apart (unranked p s)
apart_out p [] apart = tt
apart_out p (x ∷ xs) apart = elim (is_page p (page_of x)) as (λ b. Apart (cond b xs (x ∷ unranked p xs))) [
  | true ↦ apart.1
  | false ↦ (rank_out p (page_of x) xs apart.1 ∙ none_either (is_page p (page_of x)) (rank_in (page_of x) xs) apart.0, apart_out p xs apart.1)
]

-- the first that leaves
pub first_out : (x : Ranked) (xs : List Ranked) → Apart (x ∷ xs) → (q : Key) → rank_in q xs ≡ cond (is_page (page_of x) q) None (rank_in q (x ∷ xs))
first_out x xs apart q = ap (λ (b : Bool). rank_in q (cond b xs (x ∷ unranked (page_of x) xs))) (sym (itself (page_of x))) ∙ rank_out (page_of x) q (x ∷ xs) apart

-- a rank that goes to its place

none_there : (p : Key) (x : Ranked) (xs : List Ranked) → rank_in p (x ∷ xs) ≡ None → (is_page p (page_of x) ≡ false) × (rank_in p xs ≡ None)
none_there p x xs h = elim (is_page p (page_of x)) as (λ b. cond b (Some x) (rank_in p xs) ≡ None → (b ≡ false) × (rank_in p xs ≡ None)) [ true ↦ λ g. cc | false ↦ λ g. (refl, g) ] h

never_equal : (k x : Ranked) (xs : List Ranked) → rank_in (page_of k) (x ∷ xs) ≡ None → rank_cmp k x ≡ Equal → ⊥
never_equal k x xs h e = no (sym (itself (page_of k)) ∙ ap (is_page (page_of k)) (equal_page k x e) ∙ (none_there (page_of k) x xs h).0)
  where
    no : true ≡ false → ⊥
    no h = cc

pub rank_put : (k : Ranked) (q : Key) (s : List Ranked) → rank_in (page_of k) s ≡ None → rank_in q (placed k s) ≡ cond (is_page q (page_of k)) (Some k) (rank_in q s)
rank_put k q [] h = refl
rank_put k q (x ∷ xs) h = elim (rank_cmp k x) as (λ o. rank_cmp k x ≡ o → rank_in q (match_ordering o (k ∷ x ∷ xs) (x ∷ xs) (x ∷ placed k xs)) ≡ cond (is_page q (page_of k)) (Some k) (rank_in q (x ∷ xs))) [
  | Less ↦ λ e. refl
  | Equal ↦ λ e. absurd (never_equal k x xs h e)
  | Greater ↦ λ e. elim (is_page q (page_of x)) as (λ b. is_page q (page_of x) ≡ b → cond b (Some x) (rank_in q (placed k xs)) ≡ cond (is_page q (page_of k)) (Some k) (cond b (Some x) (rank_in q xs))) [
    | true ↦ λ is. sym (ap (λ (b : Bool). let o : Option Ranked = cond b (Some k) (Some x) in o) (other (is_page q (page_of k)) refl (same q (page_of x) is) (none_there (page_of k) x xs h).0))
    | false ↦ λ is. rank_put k q xs (none_there (page_of k) x xs h).1
  ] refl
] refl
  where
    other : (b : Bool) → is_page q (page_of k) ≡ b → q ≡ page_of x → is_page (page_of k) (page_of x) ≡ false → b ≡ false
    other true e page differs = sym (itself (page_of k)) ∙ ap (is_page (page_of k)) (sym (same q (page_of k) e) ∙ page) ∙ differs
    other false e page differs = refl

pub apart_put : (k : Ranked) (s : List Ranked) → rank_in (page_of k) s ≡ None → Apart s → Apart (placed k s)
apart_put k [] h apart = (refl, tt)
apart_put k (x ∷ xs) h apart = elim (rank_cmp k x) as (λ o. rank_cmp k x ≡ o → Apart (match_ordering o (k ∷ x ∷ xs) (x ∷ xs) (x ∷ placed k xs))) [
  | Less ↦ λ e. (h, apart)
  | Equal ↦ λ e. absurd (never_equal k x xs h e)
  | Greater ↦ λ e. (
    rank_put k (page_of x) xs (none_there (page_of k) x xs h).1 ∙ ap (λ (b : Bool). cond b (Some k) (rank_in (page_of x) xs)) (other (is_page (page_of x) (page_of k)) refl (none_there (page_of k) x xs h).0) ∙ apart.0,
    apart_put k xs (none_there (page_of k) x xs h).1 apart.1,
  )
] refl
  where
    other : (b : Bool) → is_page (page_of x) (page_of k) ≡ b → is_page (page_of k) (page_of x) ≡ false → b ≡ false
    other true e differs = sym (itself (page_of k)) ∙ ap (is_page (page_of k)) (sym (same (page_of x) (page_of k) e)) ∙ differs
    other false e differs = refl

-- the page is nowhere once it is taken out
pub out_of : (p : Key) (s : List Ranked) → Apart s → rank_in p (unranked p s) ≡ None
out_of p s apart = rank_out p p s apart ∙ ap (λ (b : Bool). cond b None (rank_in p s)) (itself p)

pub absent : (p : Key) (s : List Ranked) → rank_in p s ≡ None → unranked p s ≡ s
absent p [] h = refl
absent p (x ∷ xs) h = elim (is_page p (page_of x)) as (λ b. cond b (Some x) (rank_in p xs) ≡ None → cond b xs (x ∷ unranked p xs) ≡ x ∷ xs) [ true ↦ λ g. cc | false ↦ λ g. ap (λ (l : List Ranked). x ∷ l) (absent p xs g) ] h

pub room_out : (m : ℕ) (p : Key) (s : List Ranked) → rank_in p s ≡ None → rank_in p (room_made m s) ≡ None
room_out m p [] h = elim (nat_lt 0 m) as (λ b. rank_in p (cond b [] []) ≡ None) [ true ↦ refl | false ↦ refl ]
room_out m p (x ∷ xs) h = elim (nat_lt (length (x ∷ xs)) m) as (λ b. rank_in p (cond b (x ∷ xs) xs) ≡ None) [ true ↦ h | false ↦ (none_there p x xs h).1 ]

pub gone_out : (k : Ranked) (p : Key) (old new : List Ranked) (f : Key → Option Ranked) → IsRanking old f → rank_in p old ≡ Some k → new ≡ remove_key (λ x. is_eq (rank_cmp k x)) old → rank_in p new ≡ None
gone_out k p old new f ranks there is = ap (rank_in p) (is ∙ removed k p old there) ∙ out_of p old ranks.once

-- the order and the ranks by name, together

pub first_left : (x : Ranked) (p : Key) (old xs : List Ranked) (f g : Key → Option Ranked) → old ≡ x ∷ xs → p ≡ page_of x → IsRanking old f → ((q : Key) → g q ≡ cond (is_page p q) None (f q)) → IsRanking xs g
first_left x p old xs f g is page ranks gone = let once : Apart (x ∷ xs) = subst Apart is ranks.once in record {
  once = once.1;
  known = λ q. gone q ∙ ap (λ (r : Key). cond (is_page r q) None (f q)) page ∙ ap (λ (o : Option Ranked). cond (is_page (page_of x) q) None o) (ranks.known q ∙ ap (rank_in q) is) ∙ sym (first_out x xs once q);
}

pub rank_left : (k : Ranked) (p : Key) (old new : List Ranked) (f g : Key → Option Ranked) → rank_in p old ≡ Some k → new ≡ remove_key (λ x. is_eq (rank_cmp k x)) old → IsRanking old f → ((q : Key) → g q ≡ cond (is_page p q) None (f q)) → IsRanking new g
rank_left k p old new f g there is ranks gone = subst (λ (l : List Ranked). IsRanking l g) (sym (is ∙ removed k p old there)) (record {
  once = apart_out p old ranks.once;
  known = λ q. gone q ∙ ap (λ (o : Option Ranked). cond (is_page p q) None o) (ranks.known q) ∙ sym (rank_out p q old ranks.once);
})

flips : (p q : Key) → is_page p q ≡ is_page q p
flips p q = elim (is_page p q) as (λ b. is_page p q ≡ b → b ≡ is_page q p) [ true ↦ λ e. sym (ap (is_page q) (same p q e) ∙ itself q) | false ↦ λ e. other (is_page q p) refl e ] refl
  where
    other : (b : Bool) → is_page q p ≡ b → is_page p q ≡ false → false ≡ b
    other true e differs = sym differs ∙ ap (is_page p) (same q p e) ∙ itself p
    other false e differs = refl

pub rank_came : (k : Ranked) (p : Key) (old new : List Ranked) (f g : Key → Option Ranked) → p ≡ page_of k → rank_in p old ≡ None → new ≡ placed k old → IsRanking old f → ((q : Key) → g q ≡ cond (is_page p q) (Some k) (f q)) → IsRanking new g
rank_came k p old new f g page fresh is ranks noted = let out : rank_in (page_of k) old ≡ None = ap (λ (r : Key). rank_in r old) (sym page) ∙ fresh in subst (λ (l : List Ranked). IsRanking l g) (sym is) (record {
  once = apart_put k old out ranks.once;
  known = λ q. noted q ∙ ap (λ (r : Key). cond (is_page r q) (Some k) (f q)) page ∙ ap (λ (o : Option Ranked). cond (is_page (page_of k) q) (Some k) o) (ranks.known q)
      ∙ ap (λ (b : Bool). cond b (Some k) (rank_in q old)) (flips (page_of k) q) ∙ sym (rank_put k q old out);
})

pub rank_stays : (s : List Ranked) (f g : Key → Option Ranked) → IsRanking s f → ((q : Key) → g q ≡ f q) → IsRanking s g
rank_stays s f g ranks same_ranks = record { once = ranks.once; known = λ q. same_ranks q ∙ ranks.known q }

pub rank_undone : (k : Ranked) (p : Key) (s t : List Ranked) (f g h : Key → Option Ranked) → rank_in p s ≡ None → t ≡ s → IsRanking s f → ((q : Key) → g q ≡ cond (is_page p q) (Some k) (f q)) → ((q : Key) → h q ≡ cond (is_page p q) None (g q)) → IsRanking t h
rank_undone k p s t f g h fresh is ranks noted gone = subst (λ (l : List Ranked). IsRanking l h) (sym is) (record {
  once = ranks.once;
  known = λ q. gone q ∙ ap (λ (o : Option Ranked). cond (is_page p q) None o) (noted q) ∙ either q (is_page p q) refl ∙ ranks.known q;
})
  where
    either : (q : Key) (b : Bool) → is_page p q ≡ b → cond b None (cond b (Some k) (f q)) ≡ f q
    either q true e = sym (ranks.known q ∙ ap (λ (r : Key). rank_in r s) (sym (same p q e)) ∙ fresh)
    either q false e = refl
