-- The list of the nodes that were reached: what it has, and how it grows.
use Rattle.std.proofs.Common.{◌≡◌, ℕ, ◌<◌, Bool, true, false, List, [], ◌∷◌, ◌++◌, length, get_or, set, replicate, refl, sym, ◌∙◌, ap, subst, eqb, inl, inr}
use Rattle.std.specs.Prelude.{◌||◌, ◌⊎◌}
use Rattle.std.specs.List.{All, IsDistinct}
use Rattle.std.proofs.lemmas.Bool.{cases_Bool, cases_eq, cases_lt, cond-true, cond-false, cond_both, eq-eqb, eqb-true, ne_eqb, or_cases, or_left, or_right}
use Rattle.std.proofs.lemmas.Cmp.{nat_eq_equiv}
use Rattle.std.proofs.lemmas.Grind.{get_or-set_at}
use Rattle.std.proofs.lemmas.List.{length-set, length-replicate, get_or-replicate, append_assoc, get_or-set_other, get_or_default, get_or_past}
use Rattle.std.proofs.lemmas.List.Elements.{All-append, All-nil, All-push, All-weaker}
use Rattle.std.proofs.lemmas.List.Folds.{Any-from_list_any, list_any-append, list_any_at}
use Rattle.std.proofs.lemmas.Map.Keys.{IsDistinct-push}
use Rattle.reach_table.specs.Chains.{is_marked}
use Rattle.reach_table.specs.Worklists.{GrowsBy, IsMarkedList, Reached, has, with_node}

or_false : (b : Bool) → (b || false) ≡ b
or_false true = refl
or_false false = refl

pub has_push : (nodes : List ℕ) (x n : ℕ) → has (nodes ++ x ∷ []) n ≡ (has nodes n || eqb n x)
has_push nodes x n = list_any-append (eqb n) nodes (x ∷ []) ∙ ap (λ b. has nodes n || b) (or_false (eqb n x))

pub has_kept : (nodes more : List ℕ) (n : ℕ) → has nodes n ≡ true → has (nodes ++ more) n ≡ true
has_kept nodes more n h = list_any-append (eqb n) nodes more ∙ or_left (has nodes n) (has more n) h

pub has_behind : (nodes more : List ℕ) (n : ℕ) → has more n ≡ true → has (nodes ++ more) n ≡ true
has_behind nodes more n h = list_any-append (eqb n) nodes more ∙ or_right (has nodes n) (has more n) h

pub has-cases : (nodes more : List ℕ) (n : ℕ) → has (nodes ++ more) n ≡ true → (has nodes n ≡ true) ⊎ (has more n ≡ true)
has-cases nodes more n h = or_cases (has nodes n) (has more n) (sym (list_any-append (eqb n) nodes more) ∙ h)

pub has_with-kept : (nodes : List ℕ) (x n : ℕ) → has nodes n ≡ true → has (with_node nodes x) n ≡ true
has_with-kept nodes x n h = cond_both (has nodes x) nodes (nodes ++ x ∷ []) (λ l. has l n ≡ true) (λ _. h) (λ _. has_kept nodes (x ∷ []) n h)

pub has_with-itself : (nodes : List ℕ) (x : ℕ) → has (with_node nodes x) x ≡ true
has_with-itself nodes x =
    cond_both (has nodes x) nodes (nodes ++ x ∷ []) (λ l. has l x ≡ true) (λ h. h) (λ _. has_push nodes x x ∙ or_right (has nodes x) (eqb x x) (eq-eqb x x refl))

-- a node at a place, and the place of a node
pub has-get_or : (nodes : List ℕ) (place : ℕ) → place < length nodes → has nodes (get_or nodes place 0) ≡ true
has-get_or nodes place within = list_any_at (eqb (get_or nodes place 0)) nodes place 0 within (eq-eqb (get_or nodes place 0) (get_or nodes place 0) refl)

pub place_of : (nodes : List ℕ) (n : ℕ) → has nodes n ≡ true → (k : ℕ) × (k < length nodes) × (get_or nodes k 0 ≡ n)
place_of nodes n h =
    let found = Any-from_list_any (eqb n) nodes h in
    (found.0, found.2, get_or_default nodes found.0 0 found.1 found.2 ∙ found.3 ∙ sym (eqb-true n found.1 found.4))

-- a node more, with the property that those so far have
pub GrowsBy-with : (P : ℕ → Type 0) (old list new : Reached) (x : ℕ) → GrowsBy P old list → new ≡ record list { nodes = with_node list.nodes x } → P x → GrowsBy P old new
GrowsBy-with P old list new x grown is p =
    elim (cases_Bool (has list.nodes x)) [
      | inl h ↦ (grown.0, is ∙ ap (λ (ns : List ℕ). record list { nodes = ns }) (cond-true (has list.nodes x) list.nodes (list.nodes ++ x ∷ []) h) ∙ grown.1, grown.2)
      | inr h ↦ (
        grown.0 ++ x ∷ [],
        is ∙ ap (λ (ns : List ℕ). record list { nodes = ns }) (cond-false (has list.nodes x) list.nodes (list.nodes ++ x ∷ []) h)
            ∙ ap (λ (r : Reached). record r { nodes = r.nodes ++ x ∷ [] }) grown.1 ∙ ap (λ (ns : List ℕ). record old { nodes = ns }) (append_assoc old.nodes grown.0 (x ∷ [])),
        All-push P grown.0 x grown.2 p,
      )
    ]

pub GrowsBy-then : (P Q : ℕ → Type 0) (old list new : Reached) → GrowsBy P old list → GrowsBy Q list new → ((n : ℕ) → Q n → P n) → GrowsBy P old new
GrowsBy-then P Q old list new first second also = (
  first.0 ++ second.0,
  second.1 ∙ ap (λ (r : Reached). record r { nodes = r.nodes ++ second.0 }) first.1 ∙ ap (λ (ns : List ℕ). record old { nodes = ns }) (append_assoc old.nodes first.0 second.0),
  All-append P first.0 second.0 first.2 (All-weaker Q P also second.0 second.2),
)

distinct_none : IsDistinct eqb []
unfolding IsDistinct
distinct_none = tt

is_marked-replicate : (limit node : ℕ) → is_marked (replicate limit false) node ≡ false
is_marked-replicate limit node =
    elim (cases_lt node limit) [ inl h ↦ get_or-replicate limit node false false h | inr h ↦ get_or_past (replicate limit false) node false (rw (length-replicate limit false) h) ]

pub IsMarkedList-new : (limit : ℕ) → IsMarkedList (replicate limit false) []
IsMarkedList-new limit = record {
  reached = record { below = All-nil (λ n. n < length (replicate limit false)); distinct = distinct_none };
  marked = is_marked-replicate limit;
}

is_marked-set : (marks : List Bool) (node n : ℕ) → node < length marks → is_marked (set marks node true) n ≡ (is_marked marks n || eqb n node)
is_marked-set marks node n within =
    elim (cases_eq n node) [
      | inl e ↦ get_or-set_at marks node n true false e within ∙ sym (or_right (is_marked marks n) (eqb n node) (eq-eqb n node e))
      | inr ne ↦ get_or-set_other marks node n true false ne ∙ sym (ap (λ b. is_marked marks n || b) (ne_eqb n node ne) ∙ or_false (is_marked marks n))
    ]

pub IsMarkedList-push : (marks : List Bool) (nodes : List ℕ) (node : ℕ) → node < length marks → is_marked marks node ≡ false → IsMarkedList marks nodes → IsMarkedList (set marks node true) (nodes ++ node ∷ [])
IsMarkedList-push marks nodes node within new list = record {
  reached = record {
    below = subst (λ (k : ℕ). All (λ n. n < k) (nodes ++ node ∷ [])) (sym (length-set marks node true)) (All-push (λ n. n < length marks) nodes node list.reached.below within);
    distinct = IsDistinct-push nat_eq_equiv nodes node list.reached.distinct (sym (list.marked node) ∙ new);
  };
  marked = λ n. is_marked-set marks node n within ∙ ap (λ b. b || eqb n node) (list.marked n) ∙ sym (has_push nodes node n);
}
