-- The used nodes of a line and all of its nodes are the same for what calls alone give.
use Rattle.std.proofs.Common.{◌≡◌, ℕ, ◌+◌, cond, List, [], ◌∷◌, ◌++◌, refl, ap, sym, ◌∙◌}
use Rattle.std.specs.Prelude.{Option, Some, None, is_some}
use Rattle.std.specs.List.{flat_map}
use Rattle.std.proofs.lemmas.Grind.{flat_map-append}
use Rattle.vb_tree.specs.Tree.{Exp, Form, assign, set}
use Rattle.bound_tree.specs.Tree.{Expr, typed, Line, Passed, no_passed, next_passed, Declarations, Procedure}
use Rattle.bound_facts.specs.Bounds.{argument_ties, node_ties, store_ties}
use Rattle.bound_facts.specs.Effects.{params_of, passes_from, node_passes}
use Rattle.bound_facts.specs.Node.{called_by, called, args_at}
use Rattle.bound_facts.specs.Nodes.{nodes, nodes_in, line_nodes}
use Rattle.bound_facts.specs.Parts.{target_nodes, used_nodes, line_uses}
use Rattle.array_bounds.specs.Givens.{stored_tie}

module _ {X : Type 0} (g : Expr → List X) (calls_give : (e : Expr) → called e ≡ None → g e ≡ []) where
  target_all : (e : Expr) → flat_map g (target_nodes e) ≡ flat_map g (nodes e)
  target_all (typed ty t) = by_call (called_by t) refl
    where
      by_call : (o : Option ℕ) → called_by t ≡ o → flat_map g (cond (is_some o) (nodes (typed ty t)) (nodes_in t)) ≡ flat_map g (nodes (typed ty t))
      by_call (Some p) e = refl
      by_call None e = ap (λ (xs : List X). xs ++ flat_map g (nodes_in t)) (sym (calls_give (typed ty t) e))

  uses_all : (form : Form) (es : List Expr) → flat_map g (used_nodes form es) ≡ flat_map g (flat_map nodes es)
  uses_all (set target value) [] = refl
  uses_all (set target value) (e ∷ es) =
      flat_map-append g (target_nodes e) (flat_map nodes es) ∙ ap (λ (xs : List X). xs ++ flat_map g (flat_map nodes es)) (target_all e)
      ∙ sym (flat_map-append g (nodes e) (flat_map nodes es))
  uses_all _ es = refl

-- ---- ties

no_ties : (D : Declarations) (i : ℕ) (args : Passed) → argument_ties D [] i args ≡ []
no_ties D i no_passed = refl
no_ties D i (next_passed a rest) = no_ties D (i + 1) rest

pub ties_of_uses : (D : Declarations) (l : Line) → flat_map (node_ties D) (line_uses l) ≡ flat_map (node_ties D) (line_nodes l)
ties_of_uses D l =
    uses_all (node_ties D) (λ e h. ap (λ o. argument_ties D (params_of D.procs o) 0 (args_at e)) h ∙ no_ties D 0 (args_at e)) l.source.form l.bindings.exprs

pub store_is : (D : Declarations) (target value : Exp) (es : List Expr) → store_ties D (assign target value) es ≡ stored_tie D es
store_is D target value [] = refl
store_is D target value (e ∷ []) = refl
store_is D target value (e ∷ f ∷ es) = refl

-- ---- what is passed on

no_passes : (i : ℕ) (args : Passed) → passes_from [] i args ≡ []
no_passes i no_passed = refl
no_passes i (next_passed a rest) = no_passes (i + 1) rest

pub passes_of_uses : (procs : List Procedure) (l : Line) → flat_map (node_passes procs) (line_uses l) ≡ flat_map (node_passes procs) (line_nodes l)
passes_of_uses procs l =
    uses_all (node_passes procs) (λ e h. ap (λ o. passes_from (params_of procs o) 0 (args_at e)) h ∙ no_passes 0 (args_at e)) l.source.form l.bindings.exprs
