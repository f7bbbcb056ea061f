-- Nothing, by itself and as an object.
use Rattle.std.proofs.Common.{◌≡◌, ◌∙◌, refl, sym, ap, subst, inl, inr, ◌⊎◌, Bool, true, ◌&&◌, ◌||◌, true≢false, ℕ, []}
use Rattle.vb_tree.specs.BoundTree as types
use Rattle.vb_tree.specs.BoundTree.{Ty}
use Rattle.vb_tree.specs.declared.value.Value6.TheVariants as v6
use Rattle.bound_tree.specs.declared.expression.Origin.{Origin}
use Rattle.bound_tree.specs.Tree.{Expr, typed, constant, convert}
use Rattle.bound_facts.specs.Locks.{is_same_type}
use Rattle.bound_facts.specs.Node.{type_at}
use Rattle.net_tree.specs.Tree as tree
use Rattle.net_tree.specs.Tree.{Exp}
use Rattle.net_meaning.specs.declared.value.ValueN.TheVariants as n
use Rattle.net_meaning.specs.ValueMatch.{no_object_of, nothing}
use Rattle.net_meaning.specs.WrittenRows.{is_reference}
use Rattle.run_base.specs.Outcomes.{Outcome, after, gives}
use Rattle.vb6_run.specs.Expressions as source
use Rattle.vb6_run.specs.Expressions.{Context, declared}
use Rattle.vb6_run.specs.Shapes.{simple}
use Rattle.vb6_run.specs.Store.{provided}
use Rattle.vb6_run.specs.Values.{Value, elements, fields, is_of_shape, scalar}
use Rattle.net_run.specs.Expressions as target
use Rattle.net_run.specs.Making.{Jobs}
use Rattle.net_run.specs.Names as net_names
use Rattle.net_run.specs.Store as net
use Rattle.net_run.specs.Values as net_value
use Rattle.written_trees.specs.Conversions.{converted}
use Rattle.written_trees.specs.Exprs.{exp_of}
use Rattle.written_trees.specs.Names.{Scope}
use Rattle.run_matches.specs.Agreeing.{Agrees}
use Rattle.run_matches.specs.CoveredExprs.{Uses, covers_group, covers_group_term, covers_operand, covers_place_term, is_nothing, is_nothing_in}
use Rattle.run_matches.specs.Likeness.{LikeV, like_scalar}
use Rattle.run_matches.specs.Maps.{World}
use Rattle.run_matches.specs.Match.{MemoryMatch}
use Rattle.run_matches.specs.Pledges.{Pledge}
use Rattle.run_matches.specs.Upgrades.{Upgrade}
use Rattle.run_matches.specs.UserTypes.{is_class_type}
use Rattle.run_statements.specs.Frames.{PlainMatch, ScalarMatch, type_shape}
use Rattle.run_statements.specs.Groups.{ValueMatch}
use Rattle.agreeing_laws.proofs.Agreeing.{agrees_gives, agrees_weaker, left_alone}
use Rattle.expression_laws.proofs.Checks.{plain_agrees, provided_agrees}
use Rattle.expression_laws.proofs.Types.{both_true, class_of, either_true, same_class}

-- ---- what is covered

pub nothing_is : (e : Expr) → is_nothing e ≡ true → (origin : Origin) × (e ≡ typed types.nothing (constant v6.Nothing origin))
nothing_is (typed types.nothing (constant v6.Nothing origin)) h = (origin, refl)
nothing_is (typed types.nothing (constant _ origin)) h = absurd (true≢false (sym h))
nothing_is (typed types.nothing _) h = absurd (true≢false (sym h))
nothing_is (typed _ t) h = absurd (true≢false (sym h))

-- Nothing that is converted to the class that the whole has
pub record IsNothingOf (ty to : Ty) (e : Expr) : Type 0 where
  pub class : ℕ
  pub origin : Origin
  pub is_type : ty ≡ types.class class
  pub is_converted : to ≡ types.class class
  pub is_nothing : e ≡ typed types.nothing (constant v6.Nothing origin)

pub nothing_converted : (given : Bool) (ty to : Ty) (e : Expr) → (given && (is_class_type ty && (is_same_type ty to && is_nothing e))) ≡ true
    → IsNothingOf ty to e
nothing_converted given ty to e h =
    let both = both_true (is_class_type ty) (is_same_type ty to && is_nothing e) (both_true given (is_class_type ty && (is_same_type ty to && is_nothing e)) h).1 in
    let inner = both_true (is_same_type ty to) (is_nothing e) both.1 in
    let c = class_of ty both.0 in
    let x = nothing_is e inner.1 in
    record {
      class = c.0;
      origin = x.0;
      is_type = c.1;
      is_converted = same_class c.0 to (subst (λ z. is_same_type z to ≡ true) c.1 inner.0);
      is_nothing = x.1;
    }

-- the conversion writes nothing
pub nothing_exp : (T : Scope) (ty to : Ty) (e : Expr) → IsNothingOf ty to e → exp_of T (typed ty (convert to e)) ≡ tree.nothing
nothing_exp T ty to e x =
    ap (λ z. converted z e (exp_of T e)) x.is_converted ∙ ap (λ z. converted (types.class x.class) z (exp_of T z)) x.is_nothing

-- what Is compares is of a type whose values are objects
pub operand_reference : (uses : Uses) (e : Expr) → covers_operand uses e ≡ true → is_reference (type_at e) ≡ true
operand_reference uses (typed ty t) h =
    by (either_true (is_nothing_in ty t) (is_class_type ty && (covers_place_term uses ty t || covers_group_term uses ty t)) h)
  where
    by : (is_nothing_in ty t ≡ true) ⊎ ((is_class_type ty && (covers_place_term uses ty t || covers_group_term uses ty t)) ≡ true)
        → is_reference ty ≡ true
    by (inl e) = ap (λ z. is_reference (type_at z)) (nothing_is (typed ty t) e).1
    by (inr e) = ap is_reference (class_of ty (both_true (is_class_type ty) (covers_place_term uses ty t || covers_group_term uses ty t) e).0).1

-- ---- values

-- an object is a scalar of its class
pub as_scalar : (U : Upgrade) (c : ℕ) (w : World) (x : Value) (y : net_value.Value) → ValueMatch U (simple (types.class c)) w x y
    → ScalarMatch U (types.class c) w x y
as_scalar U c w (scalar s z) y m = (z, ap (λ q. scalar q z) m.0, subst (λ q. LikeV U w (scalar q z) y) m.0 m.1)
as_scalar U c w (fields t xs) y m = absurd m.0
as_scalar U c w (elements e dims xs) y m = absurd m.0

module _ (U : Upgrade) (K : Pledge) (C : Context) (S : net_names.Scope) (oracle : Jobs) (T : Scope) (w : World) (start : MemoryMatch U w) where
  abbrev written : Expr → Outcome net.Memory net_value.Value
  written e = target.value_of S oracle (exp_of T e) w.net

  object_agrees : (c : ℕ) (origin : Origin)
      → Agrees U K w (ValueMatch U (simple (types.class c)))
      (source.value_of C (typed (types.class c) (convert (types.class c) (typed types.nothing (constant v6.Nothing origin)))) w.src)
      (target.value_of S oracle tree.nothing w.net)
  object_agrees c origin =
      let R = ValueMatch U (simple (types.class c)) in
      let x : Value = scalar (types.class c) v6.Nothing in
      let y : Outcome net.Memory net_value.Value = gives [] (net_value.single n.Nothing) w.net in
      let is = provided (is_of_shape (source.type_shape (declared C) (types.class c)) x) (λ v. gives [] x v) w.src in
      left_alone U K w R (after [] is) y
      (left_alone U K w R is y
      (provided_agrees U K w R (is_of_shape (source.type_shape (declared C) (types.class c)) x) x y (λ ok.
      agrees_gives U K w R x (net_value.single n.Nothing) start (refl, like_scalar (types.class c) v6.Nothing n.Nothing (no_object_of c)))))

  -- Nothing as an object
  pub nothing_agrees : (ty to : Ty) (e : Expr) → IsNothingOf ty to e
      → Agrees U K w (ValueMatch U (type_shape U ty)) (source.value_of C (typed ty (convert to e)) w.src)
      (target.value_of S oracle (exp_of T (typed ty (convert to e))) w.net)
  nothing_agrees ty to e x =
      subst (λ z. Agrees U K w (ValueMatch U (type_shape U ty)) (source.value_of C (typed ty (convert to e)) w.src) (target.value_of S oracle z w.net))
      (sym (nothing_exp T ty to e x))
      (subst (λ z. Agrees U K w (ValueMatch U (type_shape U z)) (source.value_of C (typed z (convert to e)) w.src) (target.value_of S oracle tree.nothing w.net))
      (sym x.is_type)
      (subst (λ z. Agrees U K w (ValueMatch U (simple (types.class x.class))) (source.value_of C (typed (types.class x.class) (convert z e)) w.src)
      (target.value_of S oracle tree.nothing w.net)) (sym x.is_converted)
      (subst (λ z. Agrees U K w (ValueMatch U (simple (types.class x.class)))
      (source.value_of C (typed (types.class x.class) (convert (types.class x.class) z)) w.src) (target.value_of S oracle tree.nothing w.net)) (sym x.is_nothing)
      (object_agrees x.class x.origin))))

  -- Nothing itself
  nothing_itself : (origin : Origin)
      → Agrees U K w (PlainMatch U types.nothing) (source.scalar_value C (typed types.nothing (constant v6.Nothing origin)) w.src)
      (written (typed types.nothing (constant v6.Nothing origin)))
  nothing_itself origin =
      agrees_gives U K w (PlainMatch U types.nothing) v6.Nothing (net_value.single n.Nothing) start (like_scalar types.nothing v6.Nothing n.Nothing nothing)

  object_scalar : (e : Expr) (ty : Ty) → is_class_type ty ≡ true → Agrees U K w (ValueMatch U (type_shape U ty)) (source.value_of C e w.src) (written e)
      → Agrees U K w (ScalarMatch U ty) (source.value_of C e w.src) (written e)
  object_scalar e (types.class c) is h =
      agrees_weaker U K w (ValueMatch U (simple (types.class c))) (ScalarMatch U (types.class c)) (source.value_of C e w.src) (written e)
      (λ v x y l m. as_scalar U c v x y m) h
  object_scalar e _ is h = absurd (true≢false (sym is))

  -- what Is compares
  pub operand_agrees : (uses : Uses) (e : Expr) → covers_operand uses e ≡ true
      → (covers_group uses e ≡ true
      → Agrees U K w (ValueMatch U (type_shape U (type_at e))) (source.value_of C e w.src) (target.value_of S oracle (exp_of T e) w.net))
      → Agrees U K w (PlainMatch U (type_at e)) (source.scalar_value C e w.src) (target.value_of S oracle (exp_of T e) w.net)
  operand_agrees uses (typed ty t) h group =
      by (either_true (is_nothing_in ty t) (is_class_type ty && (covers_place_term uses ty t || covers_group_term uses ty t)) h)
    where
      by : (is_nothing_in ty t ≡ true) ⊎ ((is_class_type ty && (covers_place_term uses ty t || covers_group_term uses ty t)) ≡ true)
          → Agrees U K w (PlainMatch U ty) (source.scalar_value C (typed ty t) w.src) (written (typed ty t))
      by (inl is) =
          let x = nothing_is (typed ty t) is in
          subst (λ z. Agrees U K w (PlainMatch U (type_at z)) (source.scalar_value C z w.src) (written z)) (sym x.1) (nothing_itself x.0)
      by (inr is) =
          let both = both_true (is_class_type ty) (covers_place_term uses ty t || covers_group_term uses ty t) is in
          plain_agrees U K C (typed ty t) ty w (written (typed ty t)) start (object_scalar (typed ty t) ty both.0 (group both.1))
