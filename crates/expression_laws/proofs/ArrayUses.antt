-- Uses of covered arrays: their elements, and their bounds.
use Rattle.std.proofs.Common.{◌≡◌, inr, refl, sym, subst, ℕ, suc, ◌+◌, ◌≤◌, ◌<◌, length, arith, Bool, true, false, ◌&&◌, List, [], ◌∷◌, inl}
use Rattle.vb_tree.specs.BoundTree as types
use Rattle.vb_tree.specs.BoundTree.{Ty, long}
use Rattle.vb_tree.specs.declared.bound.LibCall.{LibCall}
use Rattle.vb_tree.specs.declared.declared.VarId.{VarId}
use Rattle.bound_tree.specs.Tree.{Expr, typed, variable, element, library, Exprs, no_exprs, next_expr}
use Rattle.bound_facts.specs.Locks.{is_same_type}
use Rattle.bound_facts.specs.Node.{type_at}
use Rattle.run_base.specs.Outcomes.{Outcome, gives, then}
use Rattle.vb6_run.specs.Expressions as source
use Rattle.vb6_run.specs.Expressions.{Context, lows_at}
use Rattle.vb6_run.specs.Forms.{SourceLine}
use Rattle.vb6_run.specs.Store.{SourceCalls, SourceFrame}
use Rattle.net_run.specs.Expressions as target
use Rattle.net_run.specs.Lines.{NetFrame, NetLine, scope_of}
use Rattle.net_run.specs.Making.{Jobs}
use Rattle.net_run.specs.Members.{Code}
use Rattle.net_run.specs.Names as net_names
use Rattle.net_run.specs.Store as net
use Rattle.net_run.specs.Values as net_value
use Rattle.written_trees.specs.Exprs.{exp_of, indexes_of}
use Rattle.written_trees.specs.Library.{low_at}
use Rattle.written_trees.specs.Names.{Scope}
use Rattle.run_matches.specs.Agreeing.{Agrees}
use Rattle.run_matches.specs.CoveredExprs.{Uses, covers_array, covers_bounded, covers_dimension, is_bound}
use Rattle.run_matches.specs.Maps.{World}
use Rattle.run_matches.specs.Match.{MemoryMatch}
use Rattle.run_matches.specs.Pledges.{Pledge}
use Rattle.run_matches.specs.Upgrades.{Upgrade}
use Rattle.run_statements.specs.Elements.{IndexedMatch}
use Rattle.run_statements.specs.Fitting.{FitsRank}
use Rattle.run_statements.specs.Frames.{IsArray, LeadsBefore, ScalarMatch, IsOpen, context_of, AreReadable}
use Rattle.run_matches.specs.Formed.{are_formed, are_longs, has_elements, is_row_of_call, types_of, is_formed}
use Rattle.expression_laws.specs.Images.{HaveImages}
use Rattle.expression_laws.proofs.Types.{both_true, same_of}
use Rattle.expression_laws.proofs.Elements.{IndexesLike, indexed_agrees, sound_array}
use Rattle.expression_laws.proofs.Bounds.{bounds_agree, long_bound}

-- an array variable
pub record IsArrayUse (uses : Uses) (e : Expr) : Type 0 where
  pub element : Ty
  pub rank : ℕ
  pub id : VarId
  pub qualified : Bool
  pub is : e ≡ typed (types.array element rank) (variable id qualified)
  pub used : uses.array id element ≡ true
  pub named : uses.named id qualified ≡ true

pub array_use : (uses : Uses) (e : Expr) → covers_array uses e ≡ true → IsArrayUse uses e
array_use uses (typed (types.array d rank) (variable v qualified)) h =
    let both = both_true (uses.array v d) (uses.named v qualified) h in
    record { element = d; rank = rank; id = v; qualified = qualified; is = refl; used = both.0; named = both.1 }
array_use uses (typed (types.array d rank) _) h = absurd (cc h)
array_use uses (typed _ t) h = absurd (cc h)

-- what is written for arrays leads to them before indexes too
abbrev pub AllLead : net_names.Scope → Scope → Uses → Type 0
AllLead S T uses = (v : VarId) (element : Ty) → uses.array v element ≡ true → LeadsBefore S T v.0

-- indexes are Longs, of which there are two at most
abbrev pub AllLong : List Ty → Type 0
AllLong [] = Unit {0}
AllLong (t ∷ ts) = (t ≡ long) × AllLong ts

pub all_long : (ts : List Ty) → are_longs ts ≡ true → AllLong ts × (length ts ≤ 2)
all_long [] h = absurd (cc h)
all_long (t ∷ []) h = ((same_of long t refl h, tt), omega arith)
all_long (t ∷ s ∷ []) h =
    let both = both_true (is_same_type long t) (is_same_type long s) h in
    ((same_of long t refl both.0, (same_of long s refl both.1, tt)), omega arith)
all_long (t ∷ s ∷ r ∷ ts) h = absurd (cc h)

pub from_none : (ts : List Ty) → length ts ≤ 2 → 0 + length ts ≤ 2
from_none ts h = omega arith

pub in_two : (d : ℕ) (t : Ty) (ts : List Ty) → d + length (t ∷ ts) ≤ 2 → d < 2
in_two d t ts h = omega arith

pub in_two_more : (d : ℕ) (t : Ty) (ts : List Ty) → d + length (t ∷ ts) ≤ 2 → suc d + length ts ≤ 2
in_two_more d t ts h = omega arith

-- ---- elements and bounds

module _ (U : Upgrade) (p : ℕ) (f : SourceFrame) (g : NetFrame) (oracle : SourceCalls) (net_oracle : Jobs)
    (l : SourceLine) (k : NetLine) (c : Code) (T : Scope) (uses : Uses) (same_declarations : T.declarations ≡ U.program.declarations)
    (opened : IsOpen (scope_of U.written c g k)) (readable : AreReadable U T uses) where
  abbrev C : Context
  C = context_of U oracle p f l

  abbrev S : net_names.Scope
  S = scope_of U.written c g k

  abbrev written : Expr → World → Outcome net.Memory net_value.Value
  written e w = target.value_of S net_oracle (exp_of T e) w.net

  -- an element, where its indexes agree
  pub indexed_by : (leads : AllLead (scope_of U.written c g k) T uses) (K : Pledge) (ty : Ty) (e : Expr) (indexes : Exprs) (w : World) → MemoryMatch U w → HaveImages U K w f S T uses → covers_array uses e ≡ true
      → has_elements (type_at e) ty ≡ true → FitsRank U e indexes
      → Agrees U K w (λ u zs ys. IndexesLike (λ d. low_at T e d) 0 (length (types_of indexes)) zs ys) (source.indexes_of C indexes w.src)
      (target.values_of S net_oracle (indexes_of T e 0 indexes) w.net)
      → Agrees U K w (IndexedMatch U (lows_at C e) ty)
      (then (source.address_of C e w.src) (λ b s. then (source.indexes_of C indexes s) (λ zs s. gives [] (b, zs) s)))
      (target.reach S net_oracle false (exp_of T (typed ty (element e indexes))) w.net)
  indexed_by leads K ty e indexes w start have covers typed_as fits given =
      let x : IsArrayUse uses e = array_use uses e covers in
      by x e x.is typed_as fits given
    where
      by : (x : IsArrayUse uses e) (d : Expr) → d ≡ typed (types.array x.element x.rank) (variable x.id x.qualified) → has_elements (type_at d) ty ≡ true
          → FitsRank U d indexes
          → Agrees U K w (λ u zs ys. IndexesLike (λ j. low_at T d j) 0 (length (types_of indexes)) zs ys) (source.indexes_of C indexes w.src)
          (target.values_of S net_oracle (indexes_of T d 0 indexes) w.net)
          → Agrees U K w (IndexedMatch U (lows_at C d) ty)
          (then (source.address_of C d w.src) (λ b s. then (source.indexes_of C indexes s) (λ zs s. gives [] (b, zs) s)))
          (target.reach S net_oracle false (exp_of T (typed ty (element d indexes))) w.net)
      by x d is =
          subst (λ d. has_elements (type_at d) ty ≡ true → FitsRank U d indexes
          → Agrees U K w (λ u zs ys. IndexesLike (λ j. low_at T d j) 0 (length (types_of indexes)) zs ys) (source.indexes_of C indexes w.src)
          (target.values_of S net_oracle (indexes_of T d 0 indexes) w.net)
          → Agrees U K w (IndexedMatch U (lows_at C d) ty)
          (then (source.address_of C d w.src) (λ b s. then (source.indexes_of C indexes s) (λ zs s. gives [] (b, zs) s)))
          (target.reach S net_oracle false (exp_of T (typed ty (element d indexes))) w.net)) (sym is)
          (λ typed_as fits given.
          let r : IsArray U x.id.0 x.element = readable.arrays x.id x.element x.used in
          let a : Expr = typed (types.array x.element x.rank) (variable x.id x.qualified) in
          subst (λ t. Agrees U K w (IndexedMatch U (lows_at C a) t)
          (then (source.address_of C a w.src) (λ b s. then (source.indexes_of C indexes s) (λ zs s. gives [] (b, zs) s)))
          (target.reach S net_oracle false (exp_of T (typed t (element a indexes))) w.net)) (sym (same_of x.element ty r.covers typed_as))
          (indexed_agrees U K p f g oracle net_oracle l k c T same_declarations x.element x.rank x.id x.qualified r w start (uses.named x.id) x.named
          (λ a at. have x.id a (inr (inl (x.element, x.used))) at) indexes (length (types_of indexes)) readable.facts (leads x.id x.element x.used)
          (fits (sound_array U x.id x.element (types.array x.element x.rank) x.qualified r refl)) given))

  -- the bounds of an array
  pub bounded_by : (K : Pledge) (ty : Ty) (function : LibCall) (args : Exprs) (w : World) → MemoryMatch U w → HaveImages U K w f S T uses
      → (is_bound function && covers_bounded uses args) ≡ true → is_formed (typed ty (library function args)) ≡ true
      → Agrees U K w (ScalarMatch U ty) (source.value_of C (typed ty (library function args)) w.src) (written (typed ty (library function args)) w)
  bounded_by K ty function no_exprs w start have covers formed = absurd (cc (both_true (is_bound function) false covers).1)
  bounded_by K ty function (next_expr e rest) w start have covers formed =
      let both = both_true (is_bound function) (covers_array uses e && covers_dimension rest) covers in
      let inner = both_true (covers_array uses e) (covers_dimension rest) both.1 in
      let forms = both_true (is_row_of_call function (types_of (next_expr e rest)) ty) (are_formed (next_expr e rest)) formed in
      let x : IsArrayUse uses e = array_use uses e inner.0 in
      subst (λ d. Agrees U K w (ScalarMatch U ty) (source.value_of C (typed ty (library function (next_expr d rest))) w.src)
      (written (typed ty (library function (next_expr d rest))) w)) (sym x.is)
      (bounds_agree U K p f g oracle net_oracle l k c T same_declarations readable.facts opened.support x.element x.rank x.id x.qualified
      (readable.arrays x.id x.element x.used) w start (uses.named x.id) x.named (λ a at. have x.id a (inr (inl (x.element, x.used))) at) function ty rest both.0
      (long_bound function (types_of (next_expr e rest)) ty both.0 forms.0))
