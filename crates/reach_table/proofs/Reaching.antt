-- Chains of pairs, and the nodes that are reached once every reached node was followed.
use Rattle.std.proofs.Common.{◌≡◌, ℕ, ◌+◌, ◌<◌, Bool, true, false, cond, List, [], ◌∷◌, ◌++◌, length, get_or, drop, refl, sym, ◌∙◌, ap, subst, inl, inr, below_more, eqb}
use Rattle.std.specs.Prelude.{◌↔◌}
use Rattle.std.specs.List.{All, Contains}
use Rattle.std.proofs.lemmas.Bool.{both_ways, cases_Bool, cases_lt, cond-false, cond-true, eq-eqb, eqb-true, or_cases, or_left}
use Rattle.std.proofs.lemmas.List.{append_assoc, drop_at}
use Rattle.std.proofs.lemmas.List.Elements.{All-get_or}
use Rattle.reach_table.specs.Chains.{Chain, IsLeast, IsSymmetric, Spread, empty, is_marked, longer}
use Rattle.reach_table.specs.Worklists.{FollowedTo, GrowsBy, HasParts, IsReachedFrom, Reached, has, with_node}
use Rattle.reach_table.proofs.Nodes.{has-cases, has_behind, has_kept, place_of}

-- a chain does not leave nodes that were all followed
has_along : (pairs : List (ℕ × ℕ)) (nodes : List ℕ) → FollowedTo pairs nodes (length nodes) → {a b : ℕ} → Chain pairs a b → has nodes a ≡ true → has nodes b ≡ true
has_along pairs nodes followed (empty a) h = h
has_along pairs nodes followed (longer a b c chain pair) h =
    let at = place_of nodes b (has_along pairs nodes followed chain h) in
    followed at.0 at.1 c (subst (λ (n : ℕ). Contains pairs (n, c)) (sym at.2) pair)

-- one chain after another, and the way back where each pair has its reverse
Chain-cons : (pairs : List (ℕ × ℕ)) (a : ℕ) {b c : ℕ} → Contains pairs (a, b) → Chain pairs b c → Chain pairs a c
Chain-cons pairs a pair (empty b) = longer a a b (empty a) pair
Chain-cons pairs a pair (longer b c d chain last) = longer a c d (Chain-cons pairs a pair chain) last

Chain-trans : (pairs : List (ℕ × ℕ)) {a b c : ℕ} → Chain pairs a b → Chain pairs b c → Chain pairs a c
Chain-trans pairs first (empty b) = first
Chain-trans pairs first (longer b c d chain last) = longer _ c d (Chain-trans pairs first chain) last

Chain-back : (pairs : List (ℕ × ℕ)) → IsSymmetric pairs → {a b : ℕ} → Chain pairs a b → Chain pairs b a
Chain-back pairs symmetric (empty a) = empty a
Chain-back pairs symmetric (longer a b c chain pair) = Chain-cons pairs c (symmetric b c pair) (Chain-back pairs symmetric chain)

-- what holds of all nodes holds of each
All-has : (P : ℕ → Type 0) (nodes : List ℕ) (n : ℕ) → All P nodes → has nodes n ≡ true → P n
All-has P nodes n all h = let at = place_of nodes n h in subst P at.2 (All-get_or P nodes at.0 0 at.1 all)

pub has_below : (nodes : List ℕ) (limit n : ℕ) → All (λ m. m < limit) nodes → has nodes n ≡ true → n < limit
has_below nodes limit n all h = All-has (λ m. m < limit) nodes n all h

has_grown : (P : ℕ → Type 0) (old new : Reached) → GrowsBy P old new → (n : ℕ) → has old.nodes n ≡ true → has new.nodes n ≡ true
has_grown P old new grown n h = subst (λ (r : Reached). has r.nodes n ≡ true) (sym grown.1) (has_kept old.nodes grown.0 n h)

pub Spread-from_followed : (pairs : List (ℕ × ℕ)) (marked : List Bool) (old new : Reached) → ((n : ℕ) → has old.nodes n ≡ is_marked marked n) → GrowsBy (IsReachedFrom pairs old.nodes) old new → FollowedTo pairs new.nodes (length new.nodes) → (node : ℕ) → (has new.nodes node ≡ true) ↔ Spread pairs marked node
Spread-from_followed pairs marked old new start grown followed node = (
  λ h. elim (has-cases old.nodes grown.0 node (subst (λ (r : Reached). has r.nodes node ≡ true) grown.1 h)) [
    | inl first ↦ (node, sym (start node) ∙ first, empty node)
    | inr later ↦ let reached = All-has (IsReachedFrom pairs old.nodes) grown.0 node grown.2 later in (reached.0, sym (start reached.0) ∙ reached.1, reached.2)
  ],
  λ spread. has_along pairs new.nodes followed spread.2 (has_grown (IsReachedFrom pairs old.nodes) old new grown spread.0 (start spread.0 ∙ spread.1)),
)

has_only : (root n : ℕ) → has (root ∷ []) n ≡ true → n ≡ root
has_only root n h = elim (or_cases (eqb n root) false h) [ inl e ↦ eqb-true n root e | inr e ↦ absurd (let f : false ≡ true = e in cc) ]

Chain-from_root : (pairs : List (ℕ × ℕ)) (root n : ℕ) → IsReachedFrom pairs (root ∷ []) n → Chain pairs root n
Chain-from_root pairs root n reached = subst (λ (a : ℕ). Chain pairs a n) (has_only root reached.0 reached.1) reached.2

module _ (pairs : List (ℕ × ℕ)) (nodes more least found : List ℕ) (root : ℕ) (symmetric : IsSymmetric pairs) (parts : HasParts pairs nodes least root) (new : has nodes root ≡ false) (from_root : All (IsReachedFrom pairs (root ∷ [])) more) where
  -- the root and the nodes that it leads to are a part, of which it is the least
  root_leads : (n : ℕ) → has (root ∷ more) n ≡ true → Chain pairs root n
  root_leads n h =
      elim (or_cases (eqb n root) (has more n) h) [
        | inl e ↦ subst (Chain pairs root) (sym (eqb-true n root e)) (empty root)
        | inr m ↦ Chain-from_root pairs root n (All-has (IsReachedFrom pairs (root ∷ [])) more n from_root m)
      ]

  root_is_least : (n : ℕ) → has (root ∷ more) n ≡ true → IsLeast (Chain pairs n) root
  root_is_least n h =
      let chain = root_leads n h in (
        Chain-back pairs symmetric chain,
        λ m leads. elim (cases_lt m root) [
          | inl less ↦ absurd (both_ways (has nodes root) new (has_along pairs nodes parts.whole (Chain-back pairs symmetric (Chain-trans pairs chain leads)) (parts.below m less)))
          | inr above ↦ above
        ],
      )

  has_root : has (root ∷ more) root ≡ true
  has_root = or_left (eqb root root) (has more root) (eq-eqb root root refl)

  pub HasParts-root : FollowedTo pairs (nodes ++ root ∷ more) (length (nodes ++ root ∷ more)) → ((n : ℕ) → has (nodes ++ root ∷ more) n ≡ true → get_or found n 0 ≡ cond (has (root ∷ more) n) root (get_or least n 0)) → HasParts pairs (nodes ++ root ∷ more) found (root + 1)
  HasParts-root whole is = record {
    whole = whole;
    below = below_more (λ n. has (nodes ++ root ∷ more) n ≡ true) root (λ n h. has_kept nodes (root ∷ more) n (parts.below n h)) (has_behind nodes (root ∷ more) root has_root);
    least = λ n h. elim (cases_Bool (has (root ∷ more) n)) [
      | inl here ↦ subst (IsLeast (Chain pairs n)) (sym (is n h ∙ cond-true (has (root ∷ more) n) root (get_or least n 0) here)) (root_is_least n here)
      | inr elsewhere ↦
          let before : has nodes n ≡ true = elim (has-cases nodes (root ∷ more) n h) [ inl there ↦ there | inr here ↦ absurd (both_ways (has (root ∷ more) n) elsewhere here) ] in
          subst (IsLeast (Chain pairs n)) (sym (is n h ∙ cond-false (has (root ∷ more) n) root (get_or least n 0) elsewhere)) (parts.least n before)
    ];
  }

-- the same in the words of the calls
pub HasParts-more : (pairs : List (ℕ × ℕ)) (old list new : Reached) (least found rest : List ℕ) (root from : ℕ) → IsSymmetric pairs → HasParts pairs old.nodes least root → has old.nodes root ≡ false → from ≡ length old.nodes → list ≡ record old { nodes = with_node old.nodes root } → GrowsBy (IsReachedFrom pairs (drop from list.nodes)) list new → FollowedTo pairs new.nodes (length new.nodes) → rest ≡ drop from new.nodes → ((n : ℕ) → has new.nodes n ≡ true → get_or found n 0 ≡ cond (has rest n) root (get_or least n 0)) → HasParts pairs new.nodes found (root + 1)
HasParts-more pairs old list new least found rest root from symmetric parts fresh is_from is_list grown whole is_rest is =
    let more = grown.0 in
    let listed : list.nodes ≡ old.nodes ++ root ∷ [] = ap (λ (r : Reached). r.nodes) is_list ∙ cond-false (has old.nodes root) old.nodes (old.nodes ++ root ∷ []) fresh in
    let start : drop from list.nodes ≡ root ∷ [] = ap (λ (ns : List ℕ). drop from ns) listed ∙ drop_at old.nodes (root ∷ []) from (sym is_from) in
    let all : new.nodes ≡ old.nodes ++ (root ∷ more) = ap (λ (r : Reached). r.nodes) grown.1 ∙ ap (λ (ns : List ℕ). ns ++ more) listed ∙ append_assoc old.nodes (root ∷ []) more in
    let behind : rest ≡ root ∷ more = is_rest ∙ ap (λ (ns : List ℕ). drop from ns) all ∙ drop_at old.nodes (root ∷ more) from (sym is_from) in
    subst (λ (ns : List ℕ). HasParts pairs ns found (root + 1)) (sym all)
    (HasParts-root pairs old.nodes more least found root symmetric parts fresh (subst (λ (ns : List ℕ). All (IsReachedFrom pairs ns) more) start grown.2)
    (subst (λ (ns : List ℕ). FollowedTo pairs ns (length ns)) all whole)
    (λ n h. is n (subst (λ (ns : List ℕ). has ns n ≡ true) (sym all) h) ∙ ap (λ (ns : List ℕ). cond (has ns n) root (get_or least n 0)) behind))
