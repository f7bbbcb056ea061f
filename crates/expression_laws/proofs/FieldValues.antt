-- The values of scalar fields of places of user types, and of places as a whole.
use Rattle.std.proofs.Common.{◌≡◌, refl, sym, subst, inl, true, Option, Some, None, [], ℕ, true≢false}
use Rattle.vb_tree.specs.BoundTree.{Ty}
use Rattle.vb_tree.specs.BoundTree as types
use Rattle.bound_tree.specs.Tree.{Expr, typed, Term, field}
use Rattle.bound_facts.specs.Node.{class_in, type_at}
use Rattle.run_base.specs.Positions.{Position}
use Rattle.run_base.specs.Outcomes.{Outcome, after, gives, then}
use Rattle.vb6_run.specs.Expressions as source
use Rattle.vb6_run.specs.Expressions.{Context, declared}
use Rattle.vb6_run.specs.Forms.{SourceLine}
use Rattle.vb6_run.specs.Store as store
use Rattle.vb6_run.specs.Store.{Address, root, Memory, SourceCalls, SourceFrame, provided}
use Rattle.vb6_run.specs.Values.{Value, is_of_shape}
use Rattle.net_run.specs.Expressions as target
use Rattle.net_run.specs.Lines.{NetFrame, NetLine, scope_of}
use Rattle.net_run.specs.Making.{Jobs}
use Rattle.net_run.specs.Members.{Code}
use Rattle.net_run.specs.Names as net_names
use Rattle.net_run.specs.Store as net
use Rattle.net_run.specs.Values as net_value
use Rattle.written_trees.specs.Exprs.{exp_of}
use Rattle.written_trees.specs.Names.{Scope}
use Rattle.run_matches.specs.Addresses.{Same}
use Rattle.run_matches.specs.Agreeing.{Agrees}
use Rattle.run_matches.specs.CoveredVariables.{covers_type}
use Rattle.run_matches.specs.CoveredExprs.{Uses, covers_base, covers_place, has_scalar, is_scalar_type}
use Rattle.run_matches.specs.Maps.{World}
use Rattle.run_matches.specs.Match.{MemoryMatch}
use Rattle.run_matches.specs.Pledges.{Pledge}
use Rattle.run_matches.specs.SoundShapes.{IsField, IsSoundShape}
use Rattle.run_matches.specs.Upgrades.{Upgrade}
use Rattle.run_statements.specs.Frames.{AllCalled, AreReadable, ScalarMatch, context_of, demands, type_shape}
use Rattle.run_statements.specs.Groups.{ValueMatch}
use Rattle.agreeing_laws.proofs.Agreeing.{agrees_gives, agrees_outside, left_alone}
use Rattle.row_laws.proofs.Composing.{after_nil}
use Rattle.agreeing_laws.proofs.Members.{is_alone}
use Rattle.memory_laws.proofs.Groups.{groups_are_read}
use Rattle.expression_laws.proofs.Checks.{provided_agrees, source_then}
use Rattle.expression_laws.proofs.Places.{base_is, field_is, place_alone, place_is}
use Rattle.expression_laws.proofs.Variables.{same_agrees}
use Rattle.expression_laws.proofs.Withs.{HavePlaces, PlaceIs, missing, placed}

-- ---- scalar fields

no_class : (ty : Ty) → covers_type ty ≡ true → class_in ty ≡ None
no_class (types.class c) h = absurd (true≢false (sym h))
no_class _ h = refl

-- a field that is a scalar
pub record ScalarField (U : Upgrade) (s j : ℕ) : Type 0 where
  pub ty : Ty
  pub covers : covers_type ty ≡ true
  pub declared : IsField U s j ty

scalar_declared : (U : Upgrade) (T : Scope) (uses : Uses) → AreReadable U T uses → (s j : ℕ) (o : Option Ty) → uses.field_type s j ≡ o
    → is_scalar_type o ≡ true → ScalarField U s j
scalar_declared U T uses readable s j None is e = absurd (true≢false (sym e))
scalar_declared U T uses readable s j (Some ty) is e = record { ty = ty; covers = e; declared = readable.fields s j ty is }

module _ (U : Upgrade) (K : Pledge) (p : ℕ) (f : SourceFrame) (g : NetFrame) (oracle : SourceCalls) (net_oracle : Jobs) (l : SourceLine) (k : NetLine)
    (c : Code) (T : Scope) (uses : Uses) (same_declarations : T.declarations ≡ U.program.declarations) (readable : AreReadable U T uses) (w : World)
    (have : HavePlaces U p f g oracle net_oracle l k c T uses K w) where
  abbrev C : Context
  C = context_of U oracle p f l

  abbrev S : net_names.Scope
  S = scope_of U.written c g k

  abbrev Stands : Ty → Expr → Type 0
  Stands ty e = PlaceIs U K C S net_oracle T w ty e

  -- a scalar field of what is covered
  pub scalar_is : (ty : Ty) (s : ℕ) (tm : Term) (j : ℕ) → has_scalar uses (types.user s) j ≡ true
      → AllCalled (demands U K p l k (scope_of U.written c g k) T) (typed (types.user s) tm) → covers_base uses (typed (types.user s) tm) ≡ true
      → (x : ScalarField U s j)
      × PlaceIs U K (context_of U oracle p f l) (scope_of U.written c g k) net_oracle T w x.ty (typed ty (field (typed (types.user s) tm) j))
  scalar_is ty s tm j scalar can base =
      let x : ScalarField U s j = scalar_declared U T uses readable s j (uses.field_type s j) refl scalar in (
        x,
        field_is U K p f g oracle net_oracle l k c T uses same_declarations readable w s j tm x.ty ty x.declared (no_class x.ty x.covers)
            (base_is U K p f g oracle net_oracle l k c T uses same_declarations readable w have s tm can base),
      )

  abbrev read_as : Ty → Value → Memory → Outcome Memory Value
  read_as ty x v = provided (is_of_shape (source.type_shape (declared C) ty) x) (λ v. gives [] x v) v

  -- where it stands, its value is read there
  value_at : (R : World → Value → net_value.Value → Type 0) (fty ty : Ty) (tm : Term) → is_alone (typed ty tm) ≡ true → Stands fty (typed ty tm)
      → ((q : Position) (b : net.Address) → IsSoundShape U (type_shape U fty) → Same U K w (root (type_shape U fty) q) b
      → Agrees U K w R (then (store.read (root (type_shape U fty) q) w.src) (read_as ty)) (target.read b w.net))
      → Agrees U K w R (source.value_of C (typed ty tm) w.src) (target.value_of S net_oracle (exp_of T (typed ty tm)) w.net)
  value_at R fty ty tm alone (missing none) go =
      subst (λ z. Agrees U K w R (then z (source.value_in C (typed ty tm))) (target.value_of S net_oracle (exp_of T (typed ty tm)) w.net)) (sym (none w.src))
      (agrees_outside U K w R (target.value_of S net_oracle (exp_of T (typed ty tm)) w.net))
  value_at R fty ty tm alone (placed r plain x) go =
      let a : Address = root (type_shape U fty) x.position in
      subst (λ z. Agrees U K w R (then z (source.value_in C (typed ty tm))) (target.value_of S net_oracle (exp_of T (typed ty tm)) w.net)) (sym (x.found w.src))
      (subst (λ z. Agrees U K w R (after [] (then (after [] (store.read a w.src)) (read_as ty))) (target.value_from S net_oracle z))
      (sym (x.written.reached alone w.net))
      (left_alone U K w R (then (after [] (store.read a w.src)) (read_as ty)) (target.read x.address w.net)
      (subst (λ z. Agrees U K w R (then z (read_as ty)) (target.read x.address w.net)) (sym (after_nil (store.read a w.src))) (go x.position x.address x.sound x.same))))

  module _ (start : MemoryMatch U w) where
    pub scalar_field_agrees : (ty : Ty) (e : Expr) (j : ℕ) → covers_type ty ≡ true → has_scalar uses (type_at e) j ≡ true
        → AllCalled (demands U K p l k (scope_of U.written c g k) T) e → covers_base uses e ≡ true
        → Agrees U K w (ScalarMatch U ty)
        (source.value_of (context_of U oracle p f l) (typed ty (field e j)) w.src)
        (target.value_of (scope_of U.written c g k) net_oracle (exp_of T (typed ty (field e j))) w.net)
    scalar_field_agrees ty (typed (types.user s) tm) j covers scalar can base =
        let x = scalar_is ty s tm j scalar can base in
        value_at (ScalarMatch U ty) x.0.ty ty (field (typed (types.user s) tm) j) refl x.1 (λ q b sound same.
        subst (λ z. Agrees U K w (ScalarMatch U ty) (then z (read_as ty)) (target.read b w.net)) (after_nil (store.read (root (type_shape U x.0.ty) q) w.src))
        (same_agrees U K C ty (root (type_shape U x.0.ty) q) b w (inl refl) covers start same))
    scalar_field_agrees ty (typed _ tm) j covers scalar can base = absurd (true≢false (sym scalar))

    -- ---- as a whole

    pub place_value_agrees : (ty : Ty) (tm : Term) → AllCalled (demands U K p l k (scope_of U.written c g k) T) (typed ty tm)
        → covers_place uses (typed ty tm) ≡ true
        → Agrees U K w (ValueMatch U (type_shape U ty))
        (source.value_of (context_of U oracle p f l) (typed ty tm) w.src)
        (target.value_of (scope_of U.written c g k) net_oracle (exp_of T (typed ty tm)) w.net)
    place_value_agrees ty tm can place =
        value_at (ValueMatch U (type_shape U ty)) ty ty tm (place_alone uses ty tm place)
        (place_is U K p f g oracle net_oracle l k c T uses same_declarations readable w have ty tm can place) (λ q b sound same.
        source_then U K w (ValueMatch U (type_shape U ty)) (ValueMatch U (type_shape U ty)) (store.read (root (type_shape U ty) q) w.src) (target.read b w.net)
        (read_as ty) start (groups_are_read U K w (type_shape U ty) q b sound start same)
        (λ x z v m later.
        provided_agrees U K v (ValueMatch U (type_shape U ty)) (is_of_shape (source.type_shape (declared C) ty) x) x (gives [] z v.net) (λ ok.
        agrees_gives U K v (ValueMatch U (type_shape U ty)) x z later.match m)))
