-- The values of fields of user types and of variables of objects.
use Rattle.std.proofs.Common.{◌≡◌, ◌∙◌, refl, sym, ap, subst, inl, ℕ, Bool, true, false, ◌&&◌, ◌||◌, true≢false, []}
use Rattle.vb_tree.specs.BoundTree as types
use Rattle.vb_tree.specs.BoundTree.{Ty}
use Rattle.vb_tree.specs.declared.declared.VarId.{VarId}
use Rattle.bound_tree.specs.Tree.{Expr, typed, Term, variable, field, me}
use Rattle.bound_facts.specs.Node.{type_at}
use Rattle.run_base.specs.Outcomes.{gives, then}
use Rattle.vb6_run.specs.Expressions as source
use Rattle.vb6_run.specs.Expressions.{Context}
use Rattle.vb6_run.specs.Forms.{SourceLine}
use Rattle.vb6_run.specs.Shapes.{simple}
use Rattle.vb6_run.specs.Store as store
use Rattle.vb6_run.specs.Store.{SourceCalls, SourceFrame}
use Rattle.vb6_run.specs.Values.{Value}
use Rattle.net_run.specs.Expressions as target
use Rattle.net_run.specs.Lines.{NetFrame, NetLine, scope_of}
use Rattle.net_run.specs.Making.{Jobs}
use Rattle.net_run.specs.Members.{Code}
use Rattle.net_run.specs.Names as net_names
use Rattle.net_run.specs.Store as net
use Rattle.net_run.specs.Values as net_value
use Rattle.written_trees.specs.Exprs.{exp_of}
use Rattle.written_trees.specs.Names.{Scope}
use Rattle.run_matches.specs.Addresses.{is_element}
use Rattle.run_matches.specs.Agreeing.{Agrees}
use Rattle.run_matches.specs.CoveredExprs.{Uses, covers_base, covers_expr, covers_group, covers_object, covers_place, has_member, has_scalar}
use Rattle.run_matches.specs.CoveredVariables.{covers_type}
use Rattle.run_matches.specs.Maps.{World}
use Rattle.run_matches.specs.Match.{MemoryMatch}
use Rattle.run_matches.specs.Pledges.{Pledge}
use Rattle.run_matches.specs.Upgrades.{Upgrade}
use Rattle.run_statements.specs.Members.{ObjectMatch}
use Rattle.run_statements.specs.Frames.{AllCalled, AreReadable, IsOpen, ScalarMatch, context_of, demands, type_shape}
use Rattle.run_statements.specs.Groups.{ValueMatch}
use Rattle.row_laws.proofs.Composing.{after_nil, then_gives}
use Rattle.agreeing_laws.proofs.Agreeing.{agrees_gives, agrees_outside, then_agrees}
use Rattle.agreeing_laws.proofs.Members.{is_alone}
use Rattle.run_matches.specs.Runs.{CallsAgree}
use Rattle.run_statements.specs.Objects.{ClassesAreWritten}
use Rattle.run_statements.specs.Written.{Passes}
use Rattle.expression_laws.specs.Calls.{Stands}
use Rattle.expression_laws.proofs.FieldValues.{place_value_agrees, scalar_field_agrees}
use Rattle.expression_laws.proofs.ObjectMatches.{ObjectIs, no_value, reached}
use Rattle.expression_laws.proofs.KeptObjects.{object_is}
use Rattle.expression_laws.proofs.Objects.{member_declared, member_read}
use Rattle.expression_laws.proofs.Library.{by_either}
use Rattle.expression_laws.proofs.Types.{both_true}
use Rattle.expression_laws.proofs.Variables.{Checked, same_agrees}
use Rattle.expression_laws.proofs.Withs.{HavePlaces}

or_one : (b : Bool) → (b || true) ≡ true
or_one true = refl
or_one false = refl

module _ (U : Upgrade) (K : Pledge) (p : ℕ) (f : SourceFrame) (g : NetFrame) (oracle : SourceCalls) (net_oracle : Jobs) (l : SourceLine) (k : NetLine)
    (c : Code) (T : Scope) (uses : Uses) (same_declarations : T.declarations ≡ U.program.declarations) (readable : AreReadable U T uses) (w : World)
    (have : HavePlaces U p f g oracle net_oracle l k c T uses K w) (start : MemoryMatch U w) (opened : IsOpen (scope_of U.written c g k))
    (agree : CallsAgree U (Passes U) oracle net_oracle) (classes : ClassesAreWritten U) (stands : Stands U K w p f g) where
  abbrev C : Context
  C = context_of U oracle p f l

  abbrev S : net_names.Scope
  S = scope_of U.written c g k

  -- a scalar that an object has
  member_scalar_agrees : (ty : Ty) (e : Expr) (j : ℕ) → AllCalled (demands U K p l k S T) e → covers_type ty ≡ true → has_member uses (type_at e) j covers_type ≡ true → covers_object uses e ≡ true
      → Agrees U K w (ScalarMatch U ty) (source.value_of C (typed ty (field e j)) w.src) (target.value_of S net_oracle (exp_of T (typed ty (field e j))) w.net)
  member_scalar_agrees ty (typed (types.class d) t) j can covers has object =
      let x = member_declared U T uses readable covers_type d j (uses.member_type d j) refl has in
      member_read U K p f g oracle net_oracle l k c T same_declarations w start d j t x.0 x.2 ty (inl x.1)
      (object_is U K p f g oracle net_oracle l k c T uses same_declarations readable w start have opened agree classes stands d t can
      object) (ScalarMatch U ty) target.read
      (λ a b v found match.
      subst (λ z. Agrees U K v (ScalarMatch U ty) (then z (Checked C ty)) (target.read b v.net)) (after_nil (store.read a v.src))
      (same_agrees U K C ty a b v (inl (ap is_element found.stands)) covers match found.same))
  member_scalar_agrees ty (typed _ t) j can covers has object = absurd (true≢false (sym has))

  -- an object that is kept, as a value
  object_value : (d : ℕ) (t : Term) → AllCalled (demands U K p l k S T) (typed (types.class d) t) → is_alone (typed (types.class d) t) ≡ true → covers_object uses (typed (types.class d) t) ≡ true
      → Agrees U K w (ValueMatch U (simple (types.class d))) (source.value_of C (typed (types.class d) t) w.src)
      (target.value_of S net_oracle (exp_of T (typed (types.class d) t)) w.net)
  object_value d t can alone covers =
      by (object_is U K p f g oracle net_oracle l k c T uses same_declarations readable w start have opened agree classes stands d t can covers)
    where
      whole : Expr
      whole = typed (types.class d) t

      R : World → Value → net_value.Value → Type 0
      R = ValueMatch U (simple (types.class d))

      by : ObjectIs U K C S net_oracle T w d t → Agrees U K w R (source.value_of C whole w.src) (target.value_of S net_oracle (exp_of T whole) w.net)
      by (no_value none) =
          subst (λ z. Agrees U K w R z (target.value_of S net_oracle (exp_of T whole) w.net)) (sym none)
          (agrees_outside U K w R (target.value_of S net_oracle (exp_of T whole) w.net))
      by (reached r leads before agrees) =
          subst (λ z. Agrees U K w R (source.value_of C whole w.src) (target.value_from S net_oracle z)) (sym (leads.reached alone w.net))
          (subst (λ z. Agrees U K w R z (target.value_from S net_oracle (r w.net))) (then_gives (source.value_of C whole w.src))
          (then_agrees U K w (ObjectMatch U d) R (source.value_of C whole w.src) (target.address_from S net_oracle (r w.net)) (λ x v. gives [] x v) target.read start
          agrees
          (λ x a v m later.
          agrees_gives U K v R x (net.looked_up a v.net) later.match (subst (λ z. R v z (net.looked_up a v.net)) (sym m.like.1) (refl, m.like.2)))))

  -- a variable: what is of a user type or an object, or an As New one, whose use is an object
  pub group_variable_agrees : (ty : Ty) (v : VarId) (qualified : Bool)
      → AllCalled (demands U K p l k (scope_of U.written c g k) T) (typed ty (variable v qualified)) → covers_group uses (typed ty (variable v qualified)) ≡ true
      → Agrees U K w (ValueMatch U (type_shape U ty)) (source.value_of (context_of U oracle p f l) (typed ty (variable v qualified)) w.src)
      (target.value_of (scope_of U.written c g k) net_oracle (exp_of T (typed ty (variable v qualified))) w.net)
  group_variable_agrees ty v qualified can covers =
      by_either (uses.group v ty && uses.named v qualified) (uses.auto v ty && uses.named v qualified) covers
      (place_value_agrees U K p f g oracle net_oracle l k c T uses same_declarations readable w have start ty (variable v qualified) can)
      (λ auto.
      let both = both_true (uses.auto v ty) (uses.named v qualified) auto in
      used ty (readable.autos v ty both.0).0 (readable.autos v ty both.0).1 can both.0 both.1)
    where
      used : (ty : Ty) (d : ℕ) → ty ≡ types.class d → AllCalled (demands U K p l k S T) (typed ty (variable v qualified)) → uses.auto v ty ≡ true
          → uses.named v qualified ≡ true
          → Agrees U K w (ValueMatch U (type_shape U ty)) (source.value_of C (typed ty (variable v qualified)) w.src)
          (target.value_of S net_oracle (exp_of T (typed ty (variable v qualified))) w.net)
      used (types.class d) e is can auto named =
          object_value d (variable v qualified) can refl
          (ap (λ b. (uses.group v (types.class d) || b) && uses.named v qualified) auto
          ∙ ap (λ b. b && uses.named v qualified) (or_one (uses.group v (types.class d))) ∙ named)
      used _ e is can auto named = absurd (cc is)

  -- one that an object has
  member_object_agrees : (ty : Ty) (e : Expr) (j : ℕ) → AllCalled (demands U K p l k S T) e → covers_object uses (typed ty (field e j)) ≡ true
      → Agrees U K w (ValueMatch U (type_shape U ty)) (source.value_of C (typed ty (field e j)) w.src)
      (target.value_of S net_oracle (exp_of T (typed ty (field e j))) w.net)
  member_object_agrees (types.class d) e j can covers = object_value d (field e j) can refl covers
  member_object_agrees _ e j can covers = absurd (true≢false (sym covers))

  -- Me
  pub me_agrees : (ty : Ty) → covers_object uses (typed ty me) ≡ true
      → Agrees U K w (ValueMatch U (type_shape U ty)) (source.value_of (context_of U oracle p f l) (typed ty me) w.src)
      (target.value_of (scope_of U.written c g k) net_oracle (exp_of T (typed ty me)) w.net)
  me_agrees (types.class d) covers = object_value d me tt refl covers
  me_agrees _ covers = absurd (true≢false (sym covers))

  -- ---- of either

  -- a scalar
  pub field_agrees : (ty : Ty) (e : Expr) (j : ℕ) → AllCalled (demands U K p l k (scope_of U.written c g k) T) e
      → covers_expr uses (typed ty (field e j)) ≡ true
      → Agrees U K w (ScalarMatch U ty)
      (source.value_of (context_of U oracle p f l) (typed ty (field e j)) w.src)
      (target.value_of (scope_of U.written c g k) net_oracle (exp_of T (typed ty (field e j))) w.net)
  field_agrees ty e j can covers =
      let in_place : Bool = has_scalar uses (type_at e) j && covers_base uses e in
      let in_object : Bool = has_member uses (type_at e) j covers_type && covers_object uses e in
      let both = both_true (covers_type ty) (in_place || in_object) covers in
      by_either in_place in_object both.1
      (λ h.
      let x = both_true (has_scalar uses (type_at e) j) (covers_base uses e) h in
      scalar_field_agrees U K p f g oracle net_oracle l k c T uses same_declarations readable w have start ty e j both.0 x.0 can x.1)
      (λ h.
      let x = both_true (has_member uses (type_at e) j covers_type) (covers_object uses e) h in
      member_scalar_agrees ty e j can both.0 x.0 x.1)

  -- what is of a user type, or an object
  pub group_field_agrees : (ty : Ty) (e : Expr) (j : ℕ) → AllCalled (demands U K p l k (scope_of U.written c g k) T) e
      → covers_group uses (typed ty (field e j)) ≡ true
      → Agrees U K w (ValueMatch U (type_shape U ty))
      (source.value_of (context_of U oracle p f l) (typed ty (field e j)) w.src)
      (target.value_of (scope_of U.written c g k) net_oracle (exp_of T (typed ty (field e j))) w.net)
  group_field_agrees ty e j can covers =
      by_either (covers_place uses (typed ty (field e j))) (covers_object uses (typed ty (field e j))) covers
      (place_value_agrees U K p f g oracle net_oracle l k c T uses same_declarations readable w have start ty (field e j) can) (member_object_agrees ty e j can)
