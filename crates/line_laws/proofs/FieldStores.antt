-- An assignment of a scalar to a field of a user type does the same as what is written for it.
use Rattle.std.proofs.Common.{◌≡◌, refl, ap, inl, inr, ℕ, true, false, ◌&&◌, List, [], sym, true≢false}
use Rattle.std.specs.List.{list_any}
use Rattle.vb_tree.specs.BoundTree as types
use Rattle.vb_tree.specs.BoundTree.{Ty}
use Rattle.bound_tree.specs.Tree.{Declarations, Expr, typed, Term, variable, field, with_object}
use Rattle.bound_facts.proofs.Chains.{both_true}
use Rattle.bound_facts.specs.CanRaise.{can_raise, raises}
use Rattle.bound_facts.specs.Node.{type_at}
use Rattle.written_trees.specs.Names.{Scope}
use Rattle.written_trees.specs.Puts.{before_store, order_shows}
use Rattle.run_base.specs.Outcomes.{then}
use Rattle.vb6_run.specs.Expressions as source
use Rattle.vb6_run.specs.Forms.{SourceLine}
use Rattle.vb6_run.specs.Lines.{store_at}
use Rattle.vb6_run.specs.Shapes.{user_shapes}
use Rattle.vb6_run.specs.Store as source_store
use Rattle.vb6_run.specs.Store.{SourceCalls, SourceFrame}
use Rattle.net_run.specs.Lines.{NetFrame, NetLine, scope_of}
use Rattle.net_run.specs.Making.{Jobs}
use Rattle.net_run.specs.Members.{Code}
use Rattle.net_run.specs.Names as net_names
use Rattle.net_run.specs.Store as net
use Rattle.run_matches.specs.CoveredExprs.{Uses, covers_base, has_inner, has_scalar}
use Rattle.run_matches.specs.CoveredVariables.{covers_type}
use Rattle.run_matches.specs.Frames.{FrameMatch, OwnsAll}
use Rattle.run_matches.specs.Maps.{World}
use Rattle.run_matches.specs.Match.{MemoryMatch}
use Rattle.run_matches.specs.Pledges.{Pledge}
use Rattle.run_matches.specs.Runs.{CallsAgree}
use Rattle.run_matches.specs.Upgrades.{Upgrade}
use Rattle.run_statements.specs.Frames.{AllCalled, AreReadable, ArePlaced, ExpressionsAgree, IsOpen, ScalarMatch, ScalarsAreWritten, context_of, demands}
use Rattle.run_statements.specs.Written.{Passes}
use Rattle.line_laws.proofs.OwnTargets.{IsOwnTarget}
use Rattle.line_laws.proofs.Places.{Located, ScalarPlace, place_target, scalar_place}
use Rattle.line_laws.proofs.Stores.{scalar_stored}
use Rattle.line_laws.proofs.Targets.{SameStore, absent_stored}
use Rattle.line_laws.proofs.Uses.{good_parts, is_good, simple_type}

-- ---- the order

-- nothing of a place is evaluated before the value
nothing_before : (uses : Uses) (ty : Ty) (tm : Term) → covers_base uses (typed ty tm) ≡ true → before_store (typed ty tm) ≡ []
nothing_before uses ty (variable v qualified) covers = refl
nothing_before uses ty (with_object r) covers = refl
nothing_before uses ty (field (typed (types.user s) tm) j) covers =
    nothing_before uses (types.user s) tm (both_true (has_inner uses (types.user s) j ty) (covers_base uses (typed (types.user s) tm)) covers).1
nothing_before uses (types.user t) (field (typed _ tm) j) covers = absurd (true≢false (sym covers))
nothing_before uses _ (field (typed _ tm) j) covers = absurd (true≢false (sym covers))
nothing_before uses _ _ covers = absurd (true≢false (sym covers))

pub order_is_hidden : (D : Declarations) (uses : Uses) (ty : Ty) (d : Expr) (j : ℕ) (e : Expr) → (has_scalar uses (type_at d) j && covers_base uses d) ≡ true
    → order_shows D (typed ty (field d j)) e ≡ false
order_is_hidden D uses ty (typed (types.user s) tm) j e covers =
    ap (λ (xs : List Expr). list_any (raises D) xs && can_raise D e)
    (nothing_before uses (types.user s) tm (both_true (has_scalar uses (types.user s) j) (covers_base uses (typed (types.user s) tm)) covers).1)
order_is_hidden D uses ty (typed _ tm) j e covers = absurd (true≢false (sym covers))

-- ---- the assignment

module _ (U : Upgrade) (expressions : ExpressionsAgree U) (scalars : ScalarsAreWritten U) (K : Pledge) (p : ℕ) (f : SourceFrame) (g : NetFrame)
    (l : SourceLine) (k : NetLine) (c : Code) (T : Scope) (declared : T.declarations ≡ U.program.declarations) (oracle : SourceCalls) (net_oracle : Jobs)
    (is_open : IsOpen (scope_of U.written c g k)) (uses : Uses) (readable : AreReadable U T uses) (placed : ArePlaced U p f (scope_of U.written c g k) T uses)
    (agree : CallsAgree U (Passes U) oracle net_oracle) (w : World) (h : MemoryMatch U w) (F : FrameMatch U K w p f g) (e : Expr)
    (can : AllCalled (demands U K p l k (scope_of U.written c g k) T) e) (well : is_good uses e ≡ true) (owns : OwnsAll U K p f) (ty : Ty) (d : Expr) (j : ℕ) where
  abbrev C : source.Context
  C = context_of U oracle p f l

  abbrev S : net_names.Scope
  S = scope_of U.written c g k

  abbrev to : Expr
  to = typed ty (field d j)

  abbrev Goal : Type 0
  Goal = SameStore U K w C S T net_oracle to e

  stored_at : (of : Ty) → covers_type of ≡ true → Located U K p w C S T net_oracle of to
      → IsOwnTarget U K p f to → Goal
  stored_at of covers (inl x) own =
      scalar_stored U expressions scalars K p f g l k c T declared oracle net_oracle is_open uses readable placed agree w h F e can well to _ _
      (place_target U K p f g l k c T declared oracle net_oracle uses readable placed w h F owns of to refl x (λ y s. refl) own)
      of x.place.position covers
      (inl (ap (λ z. source_store.root z x.place.position) (simple_type (user_shapes U.program.declarations) [] of covers)))
  stored_at of covers (inr x) own =
      let parts = good_parts uses e well in
      absent_stored U K w h C S T net_oracle to e (ScalarMatch U (type_at e))
      (expressions K w p f g oracle net_oracle l k c T uses e h F declared is_open readable placed agree can parts.0 parts.1) net.nowhere
      (x.written.reached refl) (λ y s. ap (λ r. then (then r source.finished) (store_at C to y)) (x.missing s))

  pub field_stored : AllCalled (demands U K p l k S T) d → (has_scalar uses (type_at d) j && covers_base uses d) ≡ true
      → IsOwnTarget U K p f to → Goal
  field_stored can_to covers own =
      let x : ScalarPlace U K p w C S T net_oracle to =
      scalar_place U K p f g l k c T declared oracle net_oracle uses readable placed w h F owns ty d j can_to covers in
      stored_at x.of x.covers x.place own
