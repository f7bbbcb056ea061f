-- An assignment of a scalar to a variable does the same as what is written for it.
use Rattle.std.proofs.Common.{◌≡◌, ◌∙◌, refl, sym, ap, subst, ℕ, Bool, true, false, ◌&&◌, Option, Some, None, List, [], true≢false, inl, inr}
use Rattle.vb_tree.specs.BoundTree as types
use Rattle.vb_tree.specs.BoundTree.{Ty}
use Rattle.vb_tree.specs.declared.declared.VarId.{VarId}
use Rattle.vb_tree.specs.declared.value.Value6.{Value6}
use Rattle.bound_tree.specs.Tree.{Expr, typed, variable}
use Rattle.bound_facts.specs.Locks.{is_same_type}
use Rattle.bound_facts.specs.Node.{type_at}
use Rattle.net_tree.specs.Tree as net
use Rattle.run_base.specs.Outcomes.{gives, outside, some_of}
use Rattle.run_base.specs.Positions.{Position}
use Rattle.written_trees.specs.Exprs.{exp_of}
use Rattle.written_trees.specs.Names.{Scope, variable_path}
use Rattle.written_trees.specs.Puts.{formed, order_shows, target_rank, put_type, store_by, store_line}
use Rattle.vb6_run.specs.Expressions as source
use Rattle.vb6_run.specs.Forms.{SourceLine}
use Rattle.vb6_run.specs.Lines.{keeps_lows}
use Rattle.vb6_run.specs.Shapes.{simple}
use Rattle.vb6_run.specs.Store.{Address, root, Locked, Memory, SourceCalls, SourceFrame, store, write, item, put_item}
use Rattle.vb6_run.specs.Values.{scalar, is_typed, if_of_shape, kept_as}
use Rattle.net_run.specs.Expressions as target
use Rattle.net_run.specs.Lines.{NetFrame, NetLine, scope_of}
use Rattle.net_run.specs.Making.{Jobs}
use Rattle.net_run.specs.Members.{Code}
use Rattle.net_run.specs.Names as net_names
use Rattle.net_run.specs.Store as net_store
use Rattle.net_run.specs.Values as net_value
use Rattle.run_matches.specs.Upgrades.{Upgrade}
use Rattle.run_matches.specs.Maps.{World}
use Rattle.run_matches.specs.Likeness.{LikeV}
use Rattle.run_matches.specs.Match.{MemoryMatch}
use Rattle.run_matches.specs.Pledges.{Pledge}
use Rattle.run_matches.specs.Addresses.{Same, IsTarget, IsScalarAt}
use Rattle.run_matches.specs.Agreeing.{Agrees}
use Rattle.run_matches.specs.CoveredVariables.{covers_type}
use Rattle.run_matches.specs.CoveredExprs.{Uses}
use Rattle.run_matches.specs.Frames.{StandsAs, FrameMatch, OwnsAll, is_mirrored}
use Rattle.run_statements.specs.Frames.{ExpressionsAgree, ScalarsAreWritten, IsKnown, IsOpen, IsReadable, ArePlaced, MayChange, ScalarMatch, AnyUnits, context_of, AllCalled, demands, AreReadable}
use Rattle.run_matches.specs.Runs.{CallsAgree}
use Rattle.run_statements.specs.Written.{Passes}
use Rattle.agreeing_laws.proofs.Agreeing.{agrees_outside}
use Rattle.line_laws.proofs.Flat.{flat_scalar, known_scalar}
use Rattle.line_laws.proofs.OwnTargets.{IsOwnTarget, target_changes}
use Rattle.line_laws.proofs.Placed.{FlatImages, PlacedVariable, placed_variable}
use Rattle.line_laws.proofs.Targets.{SameStore, Target, target_stored}
use Rattle.line_laws.proofs.Uses.{good_parts, is_good, type_covered, address_found, path_is, variable_reached, scalar_type, shape_is}

-- ---- types

same_boolean : (t : Ty) → is_same_type types.boolean t ≡ true → t ≡ types.boolean
same_boolean types.boolean e = refl
same_boolean _ e = absurd (true≢false (sym e))

same_byte : (t : Ty) → is_same_type types.byte t ≡ true → t ≡ types.byte
same_byte types.byte e = refl
same_byte _ e = absurd (true≢false (sym e))

same_integer : (t : Ty) → is_same_type types.integer t ≡ true → t ≡ types.integer
same_integer types.integer e = refl
same_integer _ e = absurd (true≢false (sym e))

same_long : (t : Ty) → is_same_type types.long t ≡ true → t ≡ types.long
same_long types.long e = refl
same_long _ e = absurd (true≢false (sym e))

same_currency : (t : Ty) → is_same_type types.currency t ≡ true → t ≡ types.currency
same_currency types.currency e = refl
same_currency _ e = absurd (true≢false (sym e))

same_text : (t : Ty) → is_same_type types.str t ≡ true → t ≡ types.str
same_text types.str e = refl
same_text _ e = absurd (true≢false (sym e))

pub same_type : (s t : Ty) → covers_type s ≡ true → is_same_type s t ≡ true → t ≡ s
same_type types.boolean t c e = same_boolean t e
same_type types.byte t c e = same_byte t e
same_type types.integer t c e = same_integer t e
same_type types.long t c e = same_long t e
same_type types.currency t c e = same_currency t e
same_type types.str t c e = same_text t e
same_type _ t c e = absurd (true≢false (sym c))

-- a variable of another type takes no such value
kept_scalar : (s t : Ty) (z : Value6) → covers_type s ≡ true → kept_as (simple s) (scalar t z) ≡ if_of_shape (is_same_type s t && is_typed t z) (scalar t z)
kept_scalar types.boolean t z c = refl
kept_scalar types.byte t z c = refl
kept_scalar types.integer t z c = refl
kept_scalar types.long t z c = refl
kept_scalar types.currency t z c = refl
kept_scalar types.str t z c = refl
kept_scalar _ t z c = absurd (true≢false (sym c))

pub not_kept : (locked : Locked) (s t : Ty) (z : Value6) (q : Position) (m : Memory) → covers_type s ≡ true → is_same_type s t ≡ false
    → write locked (scalar t z) (root (simple s) q) m ≡ outside []
not_kept locked s t z q m c e =
    ap (λ o. some_of o (λ x w. store locked x q w) m) (kept_scalar s t z c ∙ ap (λ b. if_of_shape (b && is_typed t z) (scalar t z)) e)

not_kept_item : (locked : Locked) (s t : Ty) (z : Value6) (q : Position) (j : ℕ) (m : Memory) → covers_type s ≡ true → is_same_type s t ≡ false
    → write locked (scalar t z) (item (simple s) q j []) m ≡ outside []
not_kept_item locked s t z q j m c e =
    ap (λ o. some_of o (λ x w. put_item (w.held q) q j [] x w) m) (kept_scalar s t z c ∙ ap (λ b. if_of_shape (b && is_typed t z) (scalar t z)) e)

none_kept : (locked : Locked) (s t : Ty) (z : Value6) (q : Position) (a : Address) (m : Memory) → IsScalarAt s a q → covers_type s ≡ true
    → is_same_type s t ≡ false → write locked (scalar t z) a m ≡ outside []
none_kept locked s t z q a m (inl at) c e = ap (λ d. write locked (scalar t z) d m) at ∙ not_kept locked s t z q m c e
none_kept locked s t z q a m (inr x) c e = ap (λ d. write locked (scalar t z) d m) x.1 ∙ not_kept_item locked s t z q x.0 m c e

-- ---- what is written

pub formed_alone : (T : Scope) (rank : ℕ) (ty : Ty) (a : net.Exp) → covers_type ty ≡ true → formed T rank ty a ≡ a
formed_alone T rank types.boolean a c = refl
formed_alone T rank types.byte a c = refl
formed_alone T rank types.integer a c = refl
formed_alone T rank types.long a c = refl
formed_alone T rank types.currency a c = refl
formed_alone T rank types.str a c = refl
formed_alone T rank _ a c = absurd (true≢false (sym c))

store_alone : (o : Option (List ℕ)) (t a : net.Exp) → store_by false o t a ≡ net.assign t a
store_alone None t a = refl
store_alone (Some ty) t a = refl

-- for what has no part that is evaluated before the value it is an assignment
pub line_is : (T : Scope) (to e : Expr) → order_shows T.declarations to e ≡ false → covers_type (type_at to) ≡ true
    → store_line T to e ≡ net.assign (exp_of T to) (exp_of T e)
line_is T to e none c =
    ap (λ b. store_by b (put_type (type_at to)) (exp_of T to) (formed T (target_rank T to) (type_at to) (exp_of T e))) none
    ∙ store_alone (put_type (type_at to)) (exp_of T to) (formed T (target_rank T to) (type_at to) (exp_of T e))
    ∙ ap (λ a. net.assign (exp_of T to) a) (formed_alone T (target_rank T to) (type_at to) (exp_of T e) c)

-- ---- scalars that are written

module _ (U : Upgrade) (scalars : ScalarsAreWritten U) (K : Pledge) (w : World) (h : MemoryMatch U w) (ty : Ty) (covers : covers_type ty ≡ true)
    (a : Address) (b : net_store.Address) (q : Position) (same : Same U K w a b) (stands : IsScalarAt ty a q) (target : IsTarget U a)
    (change : MayChange K a) (locked : Locked) (s : Ty) (covers_s : covers_type s ≡ true) (z : Value6) (y : net_value.Value)
    (like : LikeV U w (scalar s z) y) where
  written_by : (t : Bool) → is_same_type ty s ≡ t → Agrees U K w AnyUnits (write locked (scalar s z) a w.src) (net_store.written b y w.net)
  written_by true t =
      scalars K w a b locked s z y covers_s h same (q, subst (λ r. IsScalarAt r a q) (sym (same_type ty s covers t)) stands) target change like
  written_by false t =
      subst (λ x. Agrees U K w AnyUnits x (net_store.written b y w.net)) (sym (none_kept locked ty s z q a w.src stands covers t))
      (agrees_outside U K w AnyUnits (net_store.written b y w.net))

  -- of whatever type
  pub scalar_written : Agrees U K w AnyUnits (write locked (scalar s z) a w.src) (net_store.written b y w.net)
  scalar_written = written_by (is_same_type ty s) refl

-- ---- the assignment

module _ (U : Upgrade) (expressions : ExpressionsAgree U) (scalars : ScalarsAreWritten U) (K : Pledge) (p : ℕ) (f : SourceFrame)
    (g : NetFrame) (l : SourceLine) (k : NetLine) (c : Code) (T : Scope) (declared : T.declarations ≡ U.program.declarations) (oracle : SourceCalls)
    (net_oracle : Jobs) (is_open : IsOpen (scope_of U.written c g k)) (uses : Uses) (readable : AreReadable U T uses)
    (placed : ArePlaced U p f (scope_of U.written c g k) T uses)
    (agree : CallsAgree U (Passes U) oracle net_oracle) (w : World) (h : MemoryMatch U w) (F : FrameMatch U K w p f g) (e : Expr)
    (can : AllCalled (demands U K p l k (scope_of U.written c g k) T) e) (well : is_good uses e ≡ true) where
  abbrev C : source.Context
  C = context_of U oracle p f l

  abbrev S : net_names.Scope
  S = scope_of U.written c g k

  abbrev Goal : Expr → Type 0
  Goal to = SameStore U K w C S T net_oracle to e

  -- to a place of a scalar
  pub scalar_stored : (to : Expr) (a : Address) (b : net_store.Address) → Target U K w C S T net_oracle to a b → (ty : Ty) (q : Position)
      → covers_type ty ≡ true → IsScalarAt ty a q → Goal to
  scalar_stored to a b at ty q covers_ty stands =
      let parts = good_parts uses e well in
      target_stored U K w h C S T net_oracle to a b at e (ScalarMatch U (type_at e))
      (expressions K w p f g oracle net_oracle l k c T uses e h F declared is_open readable placed agree can parts.0 parts.1)
      (λ w1 x y m. ap (keeps_lows C to) m.1)
      (λ w1 x y h1 same m.
      subst (λ v. Agrees U K w1 AnyUnits (write f.env v a w1.src) (net_store.written b y w1.net)) (sym m.1)
      (scalar_written U scalars K w1 h1 ty covers_ty a b q same stands at.target at.change f.env (type_at e) (type_covered uses e parts.0) m.0 y m.2))

  -- to a variable
  pub assignment_agrees : OwnsAll U K p f → (ty : Ty) (v : VarId) (qualified : Bool) → uses.scalar v ≡ true → uses.named v qualified ≡ true
      → is_mirrored U v.0 ≡ false → IsOwnTarget U K p f (typed ty (variable v qualified)) → Goal (typed ty (variable v qualified))
  assignment_agrees owns ty v qualified used named exact own =
      let r : IsReadable U v.0 = readable.scalars v used in
      let known : IsKnown U v.0 = known_scalar U v.0 r in
      let x : PlacedVariable U K w f S T v.0 = placed_variable U K w p f g k c T declared F v.0 known (placed.places v (inl used)) in
      let i : FlatImages U K w v.0 x.address x.net_address = x.flat h (λ d same. flat_scalar U v.0 r) exact in
      scalar_stored (typed ty (variable v qualified)) x.address x.net_address
      (record {
        lets = λ x s. refl;
        found = λ s. address_found U C refl ty v qualified r s ∙ ap (λ o. some_of o (λ a s. gives [] a s) s) x.found;
        leads = λ t.
            ap (λ z. target.reach S net_oracle false z t) (path_is U T declared ty v qualified r)
            ∙ variable_reached S net_oracle (variable_path T qualified v.0) x.net_address t (x.leads qualified (placed.named v qualified named));
        same = i.same;
        target = i.target;
        change = λ steady. target_changes U K w p f g F owns S T v.0 known (placed.places v (inl used)) (own steady) x.address x.found;
      })
      r.variable.ty i.position (scalar_type U v.0 r) (subst (λ d. StandsAs d x.address i.position) (shape_is U v.0 r) i.stands)
