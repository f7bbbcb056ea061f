-- Arrays at their places.
use Rattle.std.proofs.Common.{◌≡◌, refl, sym, ap, ◌∙◌, subst, ℕ, ℤ, Bool, true≢false, List, [], Some}
use Rattle.vb_tree.specs.BoundTree as types
use Rattle.vb_tree.specs.BoundTree.{Ty}
use Rattle.vb_tree.specs.declared.declared.VarId.{VarId}
use Rattle.bound_tree.specs.Tree.{Declarations, Variable, typed, variable}
use Rattle.run_base.specs.Outcomes.{found, gives, then}
use Rattle.run_base.specs.Positions.{Position}
use Rattle.vb6_run.specs.Expressions.{Context, address_of, declared, finished}
use Rattle.vb6_run.specs.Runnables.{variable_address}
use Rattle.vb6_run.specs.Shapes.{Shape, array, simple}
use Rattle.vb6_run.specs.Store.{Address, Held, Memory, array_in, constant, item, read, root, value_if}
use Rattle.vb6_run.specs.Values.{Value, elements}
use Rattle.run_matches.specs.CoveredVariables.{covers_type}
use Rattle.typing_laws.specs.Frames.{Footprint, Ground, IsPlace, Keeps, Stands, ground}
use Rattle.typing_laws.specs.Leaving.{IsNamed}
use Rattle.typing_laws.specs.Plain.{Holds, IsShapeOf, array_shape, holds_array, scalar_shape}
use Rattle.typing_laws.proofs.Expressions.{Fits, variable_is}
use Rattle.typing_laws.proofs.Held.{Table, table_of}
use Rattle.typing_laws.proofs.Plain.{is_covered, self}
use Rattle.typing_laws.proofs.Uses.{PlaceOf, UsedArray, flat_place}

-- ---- arrays of any rank

with_rank : (e : Ty) (rank other : ℕ) (h : Held) → Holds (types.array e rank) h → Holds (types.array e other) h
with_rank e rank other h k =
    let t : Table e h = table_of e rank h k in
    subst (λ z. Holds (types.array e other) z) (sym t.holds) (holds_array e other t.dims t.values t.covers t.sized t.plain)

pub stands_with_rank : (K : Ground) (w : Memory) (q : Position) (e : Ty) (rank other : ℕ) → Stands K w q (types.array e rank) → Stands K w q (types.array e other)
stands_with_rank K w q e rank other s = record { holds = with_rank e rank other (w.held q) s.holds; made = s.made; allowed = s.allowed }

-- ---- where an array stands

pub record HasArray (C : Context) (F : Footprint) (w : Memory) (v : ℕ) (e : Ty) : Type 0 where
  pub bounds : List (ℤ × ℤ)
  pub place : Position
  pub is : variable_address (declared C) C.frame v ≡ Some (root (array (simple e) bounds) place)
  pub stands : Stands (ground (declared C) F) w place (types.array e 0)

array_bounds : {D : Declarations} (e : Ty) (rank : ℕ) (d : Shape) → IsShapeOf D (types.array e rank) d → (bounds : List (ℤ × ℤ)) × (d ≡ array (simple e) bounds)
array_bounds e rank _ (array_shape f other bounds c) = (bounds, refl)
array_bounds e rank _ (scalar_shape ty c) = absurd (true≢false (sym c))

no_array_element : (K : Ground) (w : Memory) (q : Position) (e : Ty) (rank : ℕ) → Stands K w q (types.array (types.array e rank) 0) → ⊥
no_array_element K w q e rank s = true≢false (sym (table_of (types.array e rank) 0 (w.held q) s.holds).covers)

pub array_place : (C : Context) (F : Footprint) (w : Memory) → Fits C F w → (v : VarId) (e : Ty) (u : UsedArray (declared C) C.procedure v e) → HasArray C F w v.0 e
array_place C F w f v e u =
    by (flat_place C.runnable.program F C.procedure C.frame w f.sound f.own v.0 u.variable u.is_variable u.owned u.flat)
  where
    at : (x : Variable) (a : Address) → x.ty ≡ types.array e u.rank → variable_address (declared C) C.frame v.0 ≡ Some a → IsPlace C.runnable.program F w v.0 x a
        → HasArray C F w v.0 e
    at x (root d q) ty is h =
        let b = array_bounds e u.rank d (subst (λ t. IsShapeOf (declared C) t d) ty h.0) in
        record {
          bounds = b.0;
          place = q;
          is = is ∙ ap (λ s. Some (root s q)) b.1;
          stands = stands_with_rank (ground (declared C) F) w q e u.rank 0 (subst (λ t. Stands (ground (declared C) F) w q t) ty h.1.0);
        }
    at x (item s q j path) ty is h =
        absurd (no_array_element (ground (declared C) F) w q e u.rank (subst (λ t. Stands (ground (declared C) F) w q (types.array t 0)) ty h.1.2))
    at x (constant y) ty is h = absurd (true≢false (sym (ap covers_type (sym ty) ∙ is_covered x.ty h.1.0 h.1.2)))

    by : PlaceOf C.runnable.program F C.frame w v.0 u.variable → HasArray C F w v.0 e
    by p = at u.variable p.0 u.is_type p.1 p.2

-- the address of an array
pub array_address : (C : Context) (F : Footprint) (w v : Memory) (ty : Ty) (x : VarId) (qualified : Bool) (e : Ty) (u : UsedArray (declared C) C.procedure x e)
    (h : HasArray C F v x.0 e) → address_of C (typed ty (variable x qualified)) w ≡ gives [] (root (array (simple e) h.bounds) h.place) w
array_address C F w v ty x qualified e u h =
    ap (λ r. then r finished) (variable_is C ty x qualified w (root (array (simple e) h.bounds) h.place) h.is u.plain)

abbrev pub array_later : (C : Context) (F : Footprint) (w v : Memory) (x : ℕ) (e : Ty) → Keeps (ground (declared C) F) w v → HasArray C F w x e → HasArray C F v x e
array_later C F w v x e k h = record { bounds = h.bounds; place = h.place; is = h.is; stands = k.places h.place (types.array e 0) h.stands }

-- what it holds there
pub table_at : (C : Context) (F : Footprint) (w : Memory) (x : ℕ) (e : Ty) (h : HasArray C F w x e) → Table e (w.held h.place)
table_at C F w x e h = table_of e 0 (w.held h.place) h.stands.holds

-- an array is read as a whole
pub array_read : (C : Context) (F : Footprint) (w : Memory) (x : ℕ) (e : Ty) (h : HasArray C F w x e)
    → (y : Value) × (read (root (array (simple e) h.bounds) h.place) w ≡ gives [] y w)
array_read C F w x e h =
    let t : Table e (w.held h.place) = table_at C F w x e h in (
      elements (simple e) t.dims t.values,
      ap (λ z. found (array_in (simple e) z) w) t.holds ∙ ap (λ b. found (value_if b (elements (simple e) t.dims t.values)) w) (self e t.covers),
    )

-- an array with its dimensions, for where a run leaves
pub named_at : (C : Context) (F : Footprint) (w v : Memory) (ty : Ty) (x : VarId) (qualified : Bool) (e : Ty) (u : UsedArray (declared C) C.procedure x e)
    (h : HasArray C F v x.0 e) → IsNamed C (typed ty (variable x qualified)) w v (table_at C F v x.0 e h).dims
named_at C F w v ty x qualified e u h =
    let t : Table e (v.held h.place) = table_at C F v x.0 e h in
    record {
      shape = array (simple e) h.bounds;
      place = h.place;
      element = simple e;
      values = t.values;
      named = array_address C F w v ty x qualified e u h;
      holds = t.holds;
    }
