-- User types and objects that are given by value.
use Rattle.std.proofs.Common.{◌≡◌, refl, sym, ap, subst, ◌∙◌, ℕ, suc, Bool, true, false, ◌&&◌, List, [], ◌∷◌, ◌++◌, Some, true≢false, not}
use Rattle.vb_tree.specs.BoundTree as types
use Rattle.vb_tree.specs.BoundTree.{Ty}
use Rattle.bound_tree.specs.Tree.{Expr, typed, variable, field, call, convert, me, new_object}
use Rattle.bound_tree.specs.Tree as tree
use Rattle.bound_facts.specs.Node.{type_at}
use Rattle.net_tree.specs.declared.declaration.NetPassing.{NetPassing}
use Rattle.run_base.specs.Outcomes.{Outcome, gives, then}
use Rattle.vb6_run.specs.Expressions as source
use Rattle.vb6_run.specs.Forms.{SourceLine}
use Rattle.vb6_run.specs.Shapes.{Shape, simple, group, array, endless, Shapes, no_shapes, next_shape, user_shapes}
use Rattle.vb6_run.specs.Store.{Memory, SourceCalls, SourceFrame, SourceGiven}
use Rattle.vb6_run.specs.Values.{Value, scalar, fields, Values}
use Rattle.net_run.specs.Calls.{Arguments}
use Rattle.net_run.specs.Expressions as target
use Rattle.net_run.specs.Lines.{NetFrame, NetLine, scope_of}
use Rattle.net_run.specs.Making.{Jobs}
use Rattle.net_run.specs.Members.{Code}
use Rattle.net_run.specs.Names as net_names
use Rattle.net_run.specs.Store as net
use Rattle.net_run.specs.Values as net_value
use Rattle.written_trees.specs.Arguments.{argument_exp, has_address, is_copied, kept, takes_reference, is_property}
use Rattle.written_trees.specs.Exprs.{exp_of}
use Rattle.written_trees.specs.Facts.{Facts, holds_array}
use Rattle.written_trees.specs.Names.{Scope}
use Rattle.run_matches.specs.Addresses.{IsDeclaredShape, IsGivable, TakesValue}
use Rattle.run_matches.specs.Agreeing.{Agrees}
use Rattle.run_matches.specs.CoveredExprs.{Uses, covers_group, covers_passed, covers_receiver, is_class_of}
use Rattle.run_matches.specs.CoveredVariables.{covers_group_type}
use Rattle.run_matches.specs.Kinds.{AreValuesOf, IsValueOf}
use Rattle.run_matches.specs.Likeness.{FieldsLike, LikeV, like_elements, like_field, like_fields, like_flagged, like_none, like_scalar, numbers_of}
use Rattle.run_matches.specs.Maps.{World}
use Rattle.run_matches.specs.Match.{MemoryMatch}
use Rattle.run_matches.specs.Pledges.{Later, Pledge, arrays_in, arrays_in_all, type_of_shape}
use Rattle.run_matches.specs.SoundShapes.{AreSoundShapes, IsSoundShape}
use Rattle.run_matches.specs.Upgrades.{Upgrade}
use Rattle.run_matches.specs.UserTypes.{is_group_type}
use Rattle.run_statements.specs.Frames.{AreReadable, context_of, passing_by, type_shape}
use Rattle.run_statements.specs.Groups.{ValueMatch}
use Rattle.agreeing_laws.proofs.UserShapes.{declared_group}
use Rattle.memory_laws.proofs.Groups.{field_sound}
use Rattle.memory_laws.proofs.GroupValues.{value_later}
use Rattle.run_statements.specs.Arguments.{ArgumentsMatch}
use Rattle.expression_laws.specs.Statements.{IsSoundType}
use Rattle.expression_laws.proofs.Arguments.{no_arrays}
use Rattle.expression_laws.proofs.Handed.{Lasts, taken_agrees}
use Rattle.expression_laws.proofs.Handled.{Handles}
use Rattle.expression_laws.proofs.Library.{by_either}
use Rattle.expression_laws.proofs.Me.{me_class}
use Rattle.expression_laws.proofs.Nothings.{nothing_converted}
use Rattle.expression_laws.proofs.Seen.{IsSeen}
use Rattle.expression_laws.proofs.Temporaries.{value_goes}
use Rattle.expression_laws.proofs.Types.{both_true, is_group}
use Rattle.run_matches.specs.Covered.{takes_address}

-- ---- values of user types and objects

-- a user type of scalars holds no array
module _ (U : Upgrade) (w : World) where
  no_more : (xs ys : List ℕ) → xs ≡ [] → ys ≡ [] → xs ++ ys ≡ []
  no_more xs ys e f = ap (λ z. z ++ ys) e ∙ f

  mutual
    pub value_without : (s : Shape) (x : Value) (y : net_value.Value) → IsSoundShape U s → IsValueOf s x → LikeV U w x y → arrays_in y ≡ []
    value_without s _ _ c of (like_scalar ty x y m) = no_arrays U w ty x (net_value.single y) (like_scalar ty x y m)
    value_without (group t fs) _ _ c of (like_fields u xs ys m) =
        values_without t 0 fs xs ys c of.1 (subst (λ z. FieldsLike U (numbers_of w) z 0 xs ys) of.0 m)
    value_without (simple ty) _ _ c of (like_fields u xs ys m) = absurd of
    value_without (array e bounds) _ _ c of (like_fields u xs ys m) = absurd of
    value_without endless _ _ c of (like_fields u xs ys m) = absurd of
    value_without (simple ty) _ _ c of (like_elements e dims xs k m) = absurd of
    value_without (group t fs) _ _ c of (like_elements e dims xs k m) = absurd of
    value_without (array f bounds) _ _ c of (like_elements e dims xs k m) = absurd of
    value_without endless _ _ c of (like_elements e dims xs k m) = absurd of

    values_without : (t k : ℕ) (fs : Shapes) (xs : Values) (ys : net_value.Values) → AreSoundShapes U t k fs → AreValuesOf fs xs
        → FieldsLike U (numbers_of w) t k xs ys → arrays_in_all ys ≡ []
    values_without t k fs _ _ c of (like_none _ _) = refl
    values_without t k no_shapes _ _ c of (like_field _ _ x y xs ys m ranked more) = absurd of
    values_without t k (next_shape s rest) _ _ c of (like_field _ _ x y xs ys m ranked more) =
        no_more (arrays_in y) (arrays_in_all ys) (value_without s x y c.1 of.0 m) (values_without t (suc k) rest xs ys c.2 of.1 more)
    values_without t k no_shapes _ _ c of (like_flagged _ _ x y xs ys flagged more) = absurd of
    values_without t k (next_shape s rest) _ _ c of (like_flagged _ _ x y xs ys flagged more) =
        absurd (true≢false (sym flagged ∙ field_sound U t k (type_of_shape s) c.0))

-- it is given with a value for each field
givable : (U : Upgrade) (q i : ℕ) (s : Shape) → IsDeclaredShape U s → (x : Value) → IsValueOf s x → IsGivable U q i x
givable U q i (simple ty) declared (scalar u z) v = tt
givable U q i (group u fs) declared (fields k xs) v =
    subst (λ n. IsValueOf (user_shapes U.program.declarations n) (fields k xs)) (sym v.0) (subst (λ z. IsValueOf z (fields k xs)) (sym declared) v)
givable U q i _ declared _ v = absurd v

pub group_lasts : (U : Upgrade) (K : Pledge) (q i : ℕ) (ty : Ty) → IsSoundType U ty → Lasts U K q i (ValueMatch U (type_shape U ty))
group_lasts U K q i ty of = record {
  like = λ w x y m. m.1;
  later = λ w u x y l m. value_later U K w u l (type_shape U ty) x y of.sound m.0 m.1;
  givable = λ w x y m. givable U q i (type_shape U ty) (declared_group U ty of.covers) x m.0;
  no_arrays = λ w x y m. value_without U w (type_shape U ty) x y of.sound m.0 m.1;
}

-- ---- what is written

-- no copy is made of it
uncopied : (U : Upgrade) (T : Scope) (uses : Uses) → AreReadable U T uses → (ty : Ty) (copied : Bool) → covers_group_type U.program.declarations ty ≡ true
    → (holds_array T.facts ty && copied) ≡ false
uncopied U T uses readable (types.user t) copied covers =
    ap (λ (F : Facts). F.holds_array t && copied) readable.facts ∙ ap (λ b. b && copied) (readable.flat t covers)
uncopied U T uses readable (types.class c) copied covers = refl
uncopied U T uses readable _ copied covers = absurd (true≢false (sym covers))

-- ---- arguments

-- what is given as a user type or an object is of one
pub grouped : (U : Upgrade) (T : Scope) (uses : Uses) → AreReadable U T uses → (e : Expr) → covers_group uses e ≡ true → is_group_type (type_at e) ≡ true
grouped U T uses readable (typed ty (variable v qualified)) h =
    by_either (uses.group v ty && uses.named v qualified) (uses.auto v ty && uses.named v qualified) h
    (λ group. is_group U.program.declarations ty (readable.groups v ty (both_true (uses.group v ty) (uses.named v qualified) group).0).covers)
    (λ auto. ap is_group_type (readable.autos v ty (both_true (uses.auto v ty) (uses.named v qualified) auto).0).1)
grouped U T uses readable (typed (types.user t) (field e j)) h = refl
grouped U T uses readable (typed (types.class d) (field e j)) h = refl
grouped U T uses readable (typed _ (field e j)) h = absurd (true≢false (sym h))
grouped U T uses readable (typed ty (call q qualified of args)) h =
    is_group U.program.declarations ty (readable.given ty (both_true (uses.given ty) (uses.gives q.0 && (covers_receiver uses of && covers_passed uses args)) h).0)
grouped U T uses readable (typed ty me) h = ap is_group_type (me_class uses.me ty h).1
grouped U T uses readable (typed ty (new_object c)) h =
    ap is_group_type (me_class (Some c.0) ty (both_true (is_class_of (Some c.0) ty) (uses.made c.0) h).0).1
grouped U T uses readable (typed ty (convert to e)) h = ap is_group_type (nothing_converted (uses.given ty) ty to e h).is_type
grouped U T uses readable (typed ty _) h = absurd (true≢false (sym h))

module _ (U : Upgrade) (K : Pledge) (p : ℕ) (f : SourceFrame) (g : NetFrame) (oracle : SourceCalls) (net_oracle : Jobs) (l : SourceLine) (k : NetLine)
    (c : Code) (T : Scope) (uses : Uses) (same_declarations : T.declarations ≡ U.program.declarations) (readable : AreReadable U T uses) (w : World)
    (start : MemoryMatch U w) (q i : ℕ) where
  abbrev C : source.Context
  C = context_of U oracle p f l

  abbrev S : net_names.Scope
  S = scope_of U.written c g k

  abbrev Goes : (quiet : Bool) → NetPassing → Expr → (Memory → Outcome Memory (List SourceGiven)) → (net.Memory → Outcome net.Memory Arguments) → Type 0
  Goes quiet mode e rest rest' =
      Agrees U K w (ArgumentsMatch U K q i)
      (then (source.argument_of (context_of U oracle p f l) quiet (tree.by_value e) w.src) (λ g w. then (rest w) (λ gs w. gives [] (g ∷ gs) w)))
      (then (target.given (scope_of U.written c g k) net_oracle mode
      (target.reach (scope_of U.written c g k) net_oracle false
      (argument_exp T (takes_reference T.declarations q i) (tree.by_value e) (exp_of T e)) w.net))
      (λ g w. then (rest' w) (λ gs w. gives [] (g ∷ gs) w)))

  -- a value goes as one, whatever its parameter takes
  pub group_goes : (quiet : Bool) (mode : NetPassing) (e : Expr) (rest : Memory → Outcome Memory (List SourceGiven))
      (rest' : net.Memory → Outcome net.Memory Arguments) → mode ≡ passing_by (takes_address U.program.declarations q i) → TakesValue U q i → IsSoundType U (type_at e)
      → (has_address T.declarations (kept e) ≡ false
      → Handles (scope_of U.written c g k) (IsSeen (context_of U oracle p f l) (scope_of U.written c g k) net_oracle w e) (exp_of T e))
      → Agrees U K w (ValueMatch U (type_shape U (type_at e))) (source.value_of (context_of U oracle p f l) e w.src)
      (target.value_of (scope_of U.written c g k) net_oracle (exp_of T e) w.net)
      → ((v : World) → Later U K w v → Agrees U K v (ArgumentsMatch U K q (suc i)) (rest v.src) (rest' v.net)) → Goes quiet mode e rest rest'
  group_goes quiet mode e rest rest' m takes of handles values more =
      let ty : Ty = type_at e in
      taken_agrees U K q i takes (ValueMatch U (type_shape U ty)) (group_lasts U K q i ty of) w (source.value_of C e w.src)
      (target.value_of S net_oracle (exp_of T e) w.net) (source.argument_of C quiet (tree.by_value e) w.src)
      (target.given S net_oracle mode
      (target.reach S net_oracle false (argument_exp T (takes_reference T.declarations q i) (tree.by_value e) (exp_of T e)) w.net))
      rest rest' refl
      (value_goes C S net_oracle T e (uncopied U T uses readable ty (is_copied e) of.covers) w handles
      (takes_address U.program.declarations q i) mode (takes_reference T.declarations q i) m
      (λ addressed.
      ap (λ E. takes_reference E q i) same_declarations
      ∙ (both_true (not (is_property U.program.declarations q)) (takes_reference U.program.declarations q i) addressed).1))
      start values more
