-- Where an object and the value that one of its variables takes may be evaluated in either order, they don't both raise, and no Put function is
-- written.
use Rattle.std.proofs.Common.{◌≡◌, ◌∙◌, refl, sym, ap, ⊎_elim, ℕ, true, false, ◌&&◌, ◌||◌, true≢false, not}
use Rattle.std.proofs.lemmas.Bool.{and_left, and_right, not_from_true, or_cases, or_right}
use Rattle.std.specs.Prelude.{is_some}
use Rattle.std.specs.List.{list_any}
use Rattle.vb_tree.specs.BoundTree as types
use Rattle.vb_tree.specs.BoundTree.{Ty}
use Rattle.bound_tree.specs.Tree.{Declarations, Expr, typed, Term, constant, variable, field, convert, me, with_object}
use Rattle.bound_facts.proofs.Chains.{both_true}
use Rattle.bound_facts.specs.CanRaise.{can_raise, is_constant_node, is_safe, raises}
use Rattle.bound_facts.specs.Locks.{is_same_type}
use Rattle.bound_facts.specs.Node.{type_at}
use Rattle.bound_facts.specs.Nodes.{nodes}
use Rattle.written_trees.specs.Names.{Scope}
use Rattle.written_trees.specs.Puts.{order_shows}
use Rattle.run_matches.specs.CoveredExprs.{Uses, are_still, converts_constant, covers_object_term, is_calm, is_calm_object, is_literal_value, keeps_object, widens}
use Rattle.run_matches.specs.Upgrades.{Upgrade}
use Rattle.run_statements.specs.Frames.{AreReadable}
use Rattle.line_laws.proofs.Elements.{known_auto}
use Rattle.line_laws.proofs.Uses.{no_auto, not_true}
use Rattle.agreeing_laws.proofs.PlainUses.{object_variable}

-- a conversion to a wider type raises nothing
widens_safely : (from to : Ty) → widens from to ≡ true → is_safe from to ≡ true
widens_safely types.boolean to h = refl
widens_safely types.byte types.integer h = refl
widens_safely types.byte types.long h = refl
widens_safely types.byte types.currency h = refl
widens_safely types.integer types.long h = refl
widens_safely types.integer types.currency h = refl
widens_safely types.long types.currency h = refl
widens_safely _ to h = absurd (true≢false (sym h))

module _ (U : Upgrade) (T : Scope) (uses : Uses) (readable : AreReadable U T uses) where
  abbrev D : Declarations
  D = U.program.declarations

  literal_raises : (e : Expr) → is_literal_value e ≡ true → can_raise D e ≡ false
  literal_raises (typed ty (constant x o)) h = refl
  literal_raises (typed ty (convert to e)) h = of_constant e (both_true (is_same_type to ty) (converts_constant to e) h).1
    where
      of_constant : (e : Expr) → converts_constant to e ≡ true → can_raise D (typed ty (convert to e)) ≡ false
      of_constant (typed s (constant x o)) h = refl
      of_constant (typed s _) h = absurd (true≢false (sym h))
  literal_raises (typed ty _) h = absurd (true≢false (sym h))

  calm_raises : (e : Expr) → is_calm uses e ≡ true → can_raise D e ≡ false
  calm_raises (typed ty (constant x o)) h = refl
  calm_raises (typed ty (variable v qualified)) h =
      let used = (both_true (uses.scalar v && uses.named v qualified) (uses.exact v && (uses.is_of v ty && uses.relied v)) h).0 in
      ap (λ o. is_some o || false) (no_auto U v.0 (readable.scalars v (both_true (uses.scalar v) (uses.named v qualified) used).0))
  calm_raises (typed ty (convert to e)) h =
      let all = both_true (is_same_type to ty) (widens (type_at e) to && is_calm uses e) h in
      let both = both_true (widens (type_at e) to) (is_calm uses e) all.1 in
      ap (λ b. (b || false) || can_raise D e) (not_from_true (is_constant_node e || is_safe (type_at e) to)
      (or_right (is_constant_node e) (is_safe (type_at e) to) (widens_safely (type_at e) to both.0)))
      ∙ calm_raises e both.1
  calm_raises (typed ty _) h = absurd (true≢false (sym h))

  object_raises : (of_class : ℕ) (t : Term) → is_calm_object uses (typed (types.class of_class) t) ≡ true
      → covers_object_term uses (types.class of_class) t ≡ true
      → list_any (raises D) (nodes (typed (types.class of_class) t)) ≡ false
  object_raises of_class (variable v qualified) calm covers =
      let ty : Ty = types.class of_class in
      let none : uses.auto v ty ≡ false = not_true (uses.auto v ty) (both_true (not (uses.auto v ty)) (uses.exact v) calm).0 in
      let used = (both_true (uses.group v ty) (uses.named v qualified) (object_variable uses ty v qualified covers none)).0 in
      ap (λ o. is_some o || false) (known_auto U v.0 (readable.groups v ty used).known)
  object_raises of_class me calm covers = refl
  object_raises of_class (with_object r) calm covers = refl
  object_raises of_class _ calm covers = absurd (true≢false (sym calm))

  module _ (ty : Ty) (of_class i : ℕ) (t : Term) (e : Expr) where
    abbrev d : Expr
    d = typed (types.class of_class) t

    abbrev Hidden : Type 0
    Hidden = order_shows D (typed ty (field d i)) e ≡ false

    by_value : can_raise D e ≡ false → Hidden
    by_value h = and_right (list_any (raises D) (nodes d)) (can_raise D e) h

    pub member_order_hidden : keeps_object uses d e ≡ true → covers_object_term uses (types.class of_class) t ≡ true → Hidden
    member_order_hidden keeps covers =
        ⊎_elim (λ x. by_value (literal_raises e x))
        (λ x.
        ⊎_elim
        (λ y.
        and_left (list_any (raises D) (nodes d)) (can_raise D e)
        (object_raises of_class t (both_true (is_calm_object uses d) (are_still uses (nodes e)) y).0 covers))
        (λ y. by_value (calm_raises e (both_true (is_calm uses e) (are_still uses (nodes d)) y).0))
        (or_cases (is_calm_object uses d && are_still uses (nodes e)) (is_calm uses e && are_still uses (nodes d)) x))
        (or_cases (is_literal_value e) ((is_calm_object uses d && are_still uses (nodes e)) || (is_calm uses e && are_still uses (nodes d))) keeps)
