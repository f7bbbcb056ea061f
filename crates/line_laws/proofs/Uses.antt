-- What a variable of a covered use leads to on both sides.
use Rattle.std.proofs.Common.{◌≡◌, ◌∙◌, refl, sym, ap, ℕ, ℤ, Bool, true, false, cond, not, ◌&&◌, nat_eq, Option, Some, None, List, [], ◌∷◌, slice_get, true≢false}
use Rattle.std.specs.List.{list_all}
use Rattle.std.specs.Map.{lookup}
use Rattle.vb_tree.specs.BoundTree as types
use Rattle.vb_tree.specs.BoundTree.{Ty}
use Rattle.vb_tree.specs.declared.declared.Owner.{Owner}
use Rattle.vb_tree.specs.declared.declared.Owner.TheVariants as owner
use Rattle.vb_tree.specs.declared.declared.VarId.{VarId}
use Rattle.bound_tree.specs.Tree.{Declarations, Expr, typed, variable}
use Rattle.bound_facts.proofs.Chains.{both_true}
use Rattle.bound_facts.specs.Effects.{is_own_owner, is_own_variable}
use Rattle.bound_facts.specs.Facts.{Known, is_quiet_owner, is_quiet_variable}
use Rattle.bound_facts.specs.Node.{type_at, auto_class, class_in}
use Rattle.net_tree.specs.Tree as net
use Rattle.run_base.specs.Outcomes.{gives, then, some_of}
use Rattle.written_trees.specs.Exprs.{exp_of, made_if}
use Rattle.written_trees.specs.Names.{Scope, alone, owner_path, variable_path, variable_path_of, variable_name_of}
use Rattle.vb6_run.specs.Expressions as source
use Rattle.vb6_run.specs.Expressions.{Context, at_address, made_for, as_new, finished}
use Rattle.vb6_run.specs.Runnables.{declarations_of, owned_address, declared_address, variable_address}
use Rattle.vb6_run.specs.Shapes.{Shape, simple, shape_by, declared_shape, user_shapes, variable_shape}
use Rattle.vb6_run.specs.Store.{Address, Memory, SourceFrame}
use Rattle.net_run.specs.Expressions.{reach, started}
use Rattle.net_run.specs.Making.{Jobs}
use Rattle.net_run.specs.Names as net_names
use Rattle.net_run.specs.Names.{at_place, starts, path_start, frame_start, var_in}
use Rattle.net_run.specs.Store as store
use Rattle.run_matches.specs.Upgrades.{Upgrade, runnable_of}
use Rattle.run_matches.specs.Formed.{is_formed}
use Rattle.run_matches.specs.CoveredVariables.{covers_type, covers_owner}
use Rattle.run_matches.specs.CoveredExprs.{Uses, covers_expr, covers_term}
use Rattle.run_matches.specs.Covered.{is_reference_owner_of}
use Rattle.run_matches.specs.Frames.{is_own_of, name_of, is_mirrored, is_scalar_in}
use Rattle.run_statements.specs.Frames.{IsReadable}

-- ---- expressions

pub type_covered : (uses : Uses) (e : Expr) → covers_expr uses e ≡ true → covers_type (type_at e) ≡ true
type_covered uses (typed ty t) h = (both_true (covers_type ty) (covers_term uses t) h).0

-- ---- owners

own_owner : (p : ℕ) (o : Owner) → is_own_owner p o ≡ true → (T : Scope) (qualified : Bool) (name : List ℕ) → owner_path T qualified name o ≡ alone name
own_owner p (owner.Local q) h T qualified name = refl
own_owner p (owner.Value q) h T qualified name = refl
own_owner p (owner.Answer q) h T qualified name = refl
own_owner p _ h T qualified name = absurd (true≢false (sym h))

pub own_address : (D : Declarations) (f : SourceFrame) (v p : ℕ) (o : Owner) → is_own_owner p o ≡ true → owned_address D f v o ≡ lookup (nat_eq v) f.vars
own_address D f v p (owner.Local q) h = refl
own_address D f v p (owner.Value q) h = refl
own_address D f v p (owner.Answer q) h = refl
own_address D f v p _ h = absurd (true≢false (sym h))

pub given_address : (D : Declarations) (f : SourceFrame) (v p : ℕ) (o : Owner) → is_reference_owner_of p o ≡ true → owned_address D f v o ≡ lookup (nat_eq v) f.vars
given_address D f v p (owner.Reference q) h = refl
given_address D f v p _ h = absurd (true≢false (sym h))

own_not_quiet : (F : Known) (p : ℕ) (o : Owner) → is_own_owner p o ≡ true → is_quiet_owner F o ≡ false
own_not_quiet F p (owner.Reference q) h = absurd (true≢false (sym h))
own_not_quiet F p _ h = refl

pub simple_type : (users : ℕ → Shape) (bounds : List (ℤ × ℤ)) (ty : Ty) → covers_type ty ≡ true → shape_by users bounds ty ≡ simple ty
simple_type users bounds types.boolean c = refl
simple_type users bounds types.byte c = refl
simple_type users bounds types.integer c = refl
simple_type users bounds types.long c = refl
simple_type users bounds types.currency c = refl
simple_type users bounds types.str c = refl
simple_type users bounds _ c = absurd (true≢false (sym c))

pub not_true : (b : Bool) → not b ≡ true → b ≡ false
not_true true e = absurd (true≢false (sym e))
not_true false e = refl

-- ---- a variable that can be read

module _ (U : Upgrade) (v : ℕ) (r : IsReadable U v) where
  abbrev D : Declarations
  D = U.program.declarations

  covered : (covers_owner r.variable.owner ≡ true) × (covers_type r.variable.ty && not r.variable.auto ≡ true)
  covered = both_true (covers_owner r.variable.owner) (covers_type r.variable.ty && not r.variable.auto) r.covers

  pub scalar_type : covers_type r.variable.ty ≡ true
  scalar_type = (both_true (covers_type r.variable.ty) (not r.variable.auto) covered.1).0

  pub no_auto : auto_class (slice_get D.vars v) ≡ None
  no_auto =
      ap auto_class r.is_variable
      ∙ ap (λ b. cond b (class_in r.variable.ty) None) (not_true r.variable.auto (both_true (covers_type r.variable.ty) (not r.variable.auto) covered.1).1)

  pub shape_is : variable_shape D v ≡ simple r.variable.ty
  shape_is = ap (declared_shape (user_shapes D)) r.is_variable ∙ simple_type (user_shapes D) r.variable.bounds r.variable.ty scalar_type

  pub name_is : name_of U v ≡ r.variable.name
  name_is = ap variable_name_of r.is_variable

  -- where it is the procedure's own

  own_is : (p : ℕ) → is_own_of U p v ≡ true → is_own_owner p r.variable.owner ≡ true
  own_is p h = sym (ap (is_own_variable p) r.is_variable) ∙ h

  -- it is no quiet parameter
  pub own_exact : (p : ℕ) → is_own_of U p v ≡ true → is_mirrored U v ≡ false
  own_exact p h =
      ap (λ b. b && is_scalar_in (slice_get D.vars v))
      (ap (λ o. is_quiet_variable U.known o && not (U.known.touched v)) r.is_variable
      ∙ ap (λ b. b && not (U.known.touched v)) (own_not_quiet U.known p r.variable.owner (own_is p h)))

  -- its address is in the source's frame
  pub address_is : (p : ℕ) → is_own_of U p v ≡ true → (f : SourceFrame) → variable_address D f v ≡ lookup (nat_eq v) f.vars
  address_is p own f = ap (declared_address D f v) r.is_variable ∙ own_address D f v p r.variable.owner (own_is p own)

  -- its path is its name
  pub own_path : (p : ℕ) → is_own_of U p v ≡ true → (T : Scope) → T.declarations ≡ D → (qualified : Bool) → variable_path T qualified v ≡ r.variable.name ∷ []
  own_path p own T e qualified =
      ap (λ (E : Declarations). variable_path_of T qualified (slice_get E.vars v)) e ∙ ap (variable_path_of T qualified) r.is_variable
      ∙ own_owner p r.variable.owner (own_is p own) T qualified r.variable.name

pub address_by : (C : Context) (o : Option Address) (m : Option ℕ) → m ≡ None → (s : Memory)
    → then (then (some_of o (λ a w. gives [] (at_address a) w) s) (made_for C m)) finished ≡ some_of o (λ a w. gives [] a w) s
address_by C None m e s = refl
address_by C (Some a) m e s = ap (λ z. then (then (gives [] (at_address a) s) (made_for C z)) finished) e

-- the target of an assignment in the source
pub address_found : (U : Upgrade) (C : Context) → C.runnable ≡ runnable_of U → (ty : Ty) (v : VarId) (qualified : Bool) (r : IsReadable U v.0) (s : Memory)
    → source.address_of C (typed ty (variable v qualified)) s
    ≡ some_of (variable_address U.program.declarations C.frame v.0) (λ a w. gives [] a w) s
address_found U C e ty v qualified r s =
    ap (λ o. then (then (some_of o (λ a w. gives [] (at_address a) w) s) (as_new C (variable v qualified))) finished)
    (ap (λ R. variable_address (declarations_of R) C.frame v.0) e)
    ∙ address_by C (variable_address U.program.declarations C.frame v.0) (auto_class (slice_get (declarations_of C.runnable).vars v.0))
    (ap (λ R. auto_class (slice_get (declarations_of R).vars v.0)) e ∙ no_auto U v.0 r) s

-- ---- what is written for it

-- its path alone
pub path_is : (U : Upgrade) (T : Scope) → T.declarations ≡ U.program.declarations → (ty : Ty) (v : VarId) (qualified : Bool) (r : IsReadable U v.0)
    → exp_of T (typed ty (variable v qualified)) ≡ net.path (variable_path T qualified v.0)
path_is U T e ty v qualified r =
    ap (λ m. made_if T.declarations m (net.path (variable_path T qualified v.0)))
    (ap (λ (d : Declarations). auto_class (slice_get d.vars v.0)) e ∙ no_auto U v.0 r)

module _ (S : net_names.Scope) (oracle : Jobs) where
  -- a path that leads to a variable
  pub variable_reached : (names : List (List ℕ)) (a : store.Address) (t : store.Memory) → path_start S false names ≡ starts (at_place a) []
      → reach S oracle false (net.path names) t ≡ gives [] (at_place a) t
  variable_reached names a t e = ap (λ z. started S oracle z t) e

  -- a variable of the frame
  pub variable_named : (name : List ℕ) (a : store.Address) → var_in S.vars name ≡ Some a → path_start S false (name ∷ []) ≡ starts (at_place a) []
  variable_named name a e = ap (λ o. frame_start S name [] o) e

-- ---- covered and well formed

abbrev pub is_good : Uses → Expr → Bool
is_good uses e = covers_expr uses e && is_formed e

pub good : (uses : Uses) (e : Expr) → covers_expr uses e ≡ true → is_formed e ≡ true → is_good uses e ≡ true
good uses e covers formed = ap (λ b. b && is_formed e) covers ∙ formed

pub good_parts : (uses : Uses) (e : Expr) → is_good uses e ≡ true → (covers_expr uses e ≡ true) × (is_formed e ≡ true)
good_parts uses e h = both_true (covers_expr uses e) (is_formed e) h

pub all_good : (uses : Uses) (es : List Expr) → list_all (covers_expr uses) es ≡ true → list_all is_formed es ≡ true → list_all (is_good uses) es ≡ true
all_good uses [] covers formed = refl
all_good uses (e ∷ es) covers formed =
    let c = both_true (covers_expr uses e) (list_all (covers_expr uses) es) covers in
    let f = both_true (is_formed e) (list_all is_formed es) formed in
    ap (λ b. b && list_all (is_good uses) es) (good uses e c.0 f.0) ∙ all_good uses es c.1 f.1
