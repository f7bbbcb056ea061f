-- What a call gives that is of a user type or of a class.
use Rattle.std.proofs.Common.{◌≡◌, ◌⊎◌, ◌∙◌, refl, sym, ap, subst, inl, inr, ℕ, zero, suc, Bool, true, true≢false, eqb-true, [], Option, Some, None}
use Rattle.std.specs.Prelude.{slice_get, length}
use Rattle.vb_tree.specs.BoundTree as types
use Rattle.vb_tree.specs.BoundTree.{Ty}
use Rattle.vb_tree.specs.declared.declared.ProcId.{ProcId}
use Rattle.bound_tree.specs.declared.declared.TypeDecl.{TypeDecl}
use Rattle.bound_tree.specs.Tree.{Declarations, Expr, typed, call, Object, Passed}
use Rattle.bound_facts.specs.Locks.{is_same_type}
use Rattle.run_base.specs.Outcomes.{Outcome, after, gives, then}
use Rattle.vb6_run.specs.Expressions as source
use Rattle.vb6_run.specs.Expressions.{Context, Parts, declared, result_parts}
use Rattle.vb6_run.specs.Forms.{SourceLine}
use Rattle.vb6_run.specs.Shapes.{Shape, Shapes, endless, group, group_by, simple, user_shape, user_shapes}
use Rattle.vb6_run.specs.Store.{Memory, SourceCalls, SourceFrame, provided}
use Rattle.vb6_run.specs.Values.{Value, elements, fields, is_of_shape, is_typed, scalar}
use Rattle.net_run.specs.Calls.{result_address}
use Rattle.net_run.specs.Expressions as target
use Rattle.net_run.specs.Shapes as shape
use Rattle.net_run.specs.Store as net
use Rattle.net_run.specs.Values as net_value
use Rattle.run_matches.specs.Agreeing.{Agrees, HasAllFields, ResultMatch}
use Rattle.run_matches.specs.Kinds.{IsValueOf}
use Rattle.run_matches.specs.Maps.{World}
use Rattle.run_matches.specs.Match.{MemoryMatch}
use Rattle.run_matches.specs.Pledges.{Pledge}
use Rattle.run_matches.specs.Upgrades.{Upgrade}
use Rattle.run_matches.specs.UserTypes.{is_group_type}
use Rattle.run_statements.specs.Frames.{context_of, type_shape}
use Rattle.run_statements.specs.Groups.{ValueMatch}
use Rattle.row_laws.proofs.Composing.{then_assoc}
use Rattle.agreeing_laws.proofs.Agreeing.{agrees_gives, agrees_outside, left_alone, then_agrees}
use Rattle.expression_laws.specs.Calls.{GivenMatch, result_shape}
use Rattle.expression_laws.proofs.Checks.{provided_agrees}
use Rattle.expression_laws.proofs.Types.{both_true, same_class}

-- ---- values that have all fields

-- a user type has fields, or no end
abbrev IsGroupShape : (user_type : ℕ) → Shape → Type 0
IsGroupShape t s = (s ≡ endless) ⊎ ((fs : Shapes) × (s ≡ group t fs))

shape_is : (D : Declarations) (n t : ℕ) → IsGroupShape t (user_shape D n t)
shape_is D zero t = inl refl
shape_is D (suc n) t = by (slice_get D.types t)
  where
    by : (o : Option TypeDecl) → IsGroupShape t (group_by D (λ u. user_shape D n u) t o)
    by None = inl refl
    by (Some d) = inr (_, refl)

-- what is of the shape of a user type, and has all its fields, is a value of it
all_fields : (U : Upgrade) (t : ℕ) (s : Shape) → user_shapes U.program.declarations t ≡ s → IsGroupShape t s → (x : Value) → is_of_shape s x ≡ true
    → HasAllFields U x → IsValueOf s x
all_fields U t s is of (scalar ty z) ok whole = absurd (no_scalar of)
  where
    no_scalar : IsGroupShape t s → ⊥
    no_scalar (inl e) = true≢false (sym ok ∙ ap (λ z'. is_of_shape z' (scalar ty z)) e)
    no_scalar (inr (fs, e)) = true≢false (sym ok ∙ ap (λ z'. is_of_shape z' (scalar ty z)) e)
all_fields U t s is of (elements e dims xs) ok whole = absurd (no_elements of)
  where
    no_elements : IsGroupShape t s → ⊥
    no_elements (inl i) = true≢false (sym ok ∙ ap (λ z'. is_of_shape z' (elements e dims xs)) i)
    no_elements (inr (fs, i)) = true≢false (sym ok ∙ ap (λ z'. is_of_shape z' (elements e dims xs)) i)
all_fields U t s is (inl i) (fields u xs) ok whole = absurd (true≢false (sym ok ∙ ap (λ z. is_of_shape z (fields u xs)) i))
all_fields U t s is (inr (fs, i)) (fields u xs) ok whole =
    subst (λ z. IsValueOf z (fields u xs)) is
    (subst (λ n. IsValueOf (user_shapes U.program.declarations n) (fields u xs))
    (sym (eqb-true t u (sym (ap (λ z. is_of_shape z (fields u xs)) i) ∙ ok))) whole)

-- so is an object of its class
object_value : (c : ℕ) (x : Value) → is_of_shape (simple (types.class c)) x ≡ true → IsValueOf (simple (types.class c)) x
object_value c (scalar s z) ok = same_class c s (both_true (is_same_type (types.class c) s) (is_typed s z) ok).0
object_value c (fields t xs) ok = absurd (true≢false (sym ok))
object_value c (elements e dims xs) ok = absurd (true≢false (sym ok))

pub group_value : (U : Upgrade) (ty : Ty) (x : Value) → is_group_type ty ≡ true → is_of_shape (type_shape U ty) x ≡ true → HasAllFields U x
    → IsValueOf (type_shape U ty) x
group_value U (types.user t) x grouped ok whole =
    let D : Declarations = U.program.declarations in
    all_fields U t (user_shapes D t) refl (shape_is D (length D.types) t) x ok whole
group_value U (types.class c) x grouped ok whole = object_value c x ok
group_value U _ x grouped ok whole = absurd (true≢false (sym grouped))

-- ---- what a call gives

module _ (U : Upgrade) (K : Pledge) (p : ℕ) (f : SourceFrame) (oracle : SourceCalls) (l : SourceLine) (ty : Ty) (grouped : is_group_type ty ≡ true)
    (q : ProcId) (qualified : Bool) (of : Object) (args : Passed) (number : ℕ) where
  abbrev C : Context
  C = context_of U oracle p f l

  abbrev e : Expr
  e = typed ty (call q qualified of args)

  abbrev R : World → Value → net_value.Value → Type 0
  R = ValueMatch U (type_shape U ty)

  abbrev behind : Parts → Memory → Outcome Memory Value
  behind x v = then (source.as_new C (call q qualified of args) x v) (source.value_in C e)

  result_agrees : (v : World) (o : Option Value) (o' : Option net_value.Value) (s : shape.Shape) → MemoryMatch U v → ResultMatch U v o o'
      → Agrees U K v R (behind (result_parts o) v.src) (target.read (result_address s o') v.net)
  result_agrees v None None s start m = agrees_outside U K v R (target.read (result_address s None) v.net)
  result_agrees v None (Some y) s start m = absurd m
  result_agrees v (Some x) None s start m = absurd m
  result_agrees v (Some x) (Some y) s start m =
      let is = provided (is_of_shape (source.type_shape (declared C) ty) x) (λ w. gives [] x w) v.src in
      left_alone U K v R (after [] is) (gives [] y v.net)
      (left_alone U K v R is (gives [] y v.net)
      (provided_agrees U K v R (is_of_shape (source.type_shape (declared C) ty) x) x (gives [] y v.net) (λ ok.
      agrees_gives U K v R x y start (group_value U ty x grouped ok m.whole, m.like))))

  -- a call that gives what matches gives a value of the type that does
  pub group_value_agrees : (w : World) (r' : Outcome net.Memory net.Address) → MemoryMatch U w
      → Agrees U K w (GivenMatch U number) (source.term_parts (context_of U oracle p f l) ty (call q qualified of args) w.src) r'
      → Agrees U K w (ValueMatch U (type_shape U ty))
      (source.value_of (context_of U oracle p f l) (typed ty (call q qualified of args)) w.src) (then r' target.read)
  group_value_agrees w r' start h =
      let r = source.term_parts C ty (call q qualified of args) w.src in
      subst (λ z. Agrees U K w R z (then r' target.read))
      (sym (then_assoc r (source.as_new C (call q qualified of args)) (source.value_in C e)))
      (then_agrees U K w (GivenMatch U number) R r r' behind target.read start h
      (λ x a v m later.
      subst (λ z. Agrees U K v R (behind z v.src) (target.read a v.net)) (sym m.is_given)
      (subst (λ z. Agrees U K v R (behind (result_parts m.given) v.src) (target.read z v.net)) (sym m.is_net_given)
      (result_agrees v m.given m.net_given (result_shape U number) later.match m.match))))
