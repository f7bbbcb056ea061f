-- Frames that go on: what changes of a frame leaves its variables and what its heads keep.
use Rattle.std.proofs.Common.{◌≡◌, refl, sym, ap, subst, ◌∙◌, ℕ, Bool, true, false, cond, nat_eq, true≢false, List, Option, Some, None, eqb-true}
use Rattle.std.specs.Prelude.{slice_get}
use Rattle.std.specs.Map.{lookup}
use Rattle.vb_tree.specs.BoundTree as types
use Rattle.vb_tree.specs.BoundTree.{Ty}
use Rattle.vb_tree.specs.declared.declared.Owner.{Owner}
use Rattle.vb_tree.specs.declared.declared.Owner.TheVariants as owner
use Rattle.vb_tree.specs.Tree.{Form}
use Rattle.bound_tree.specs.Tree.{Variable, Declarations, Expr}
use Rattle.bound_tree.specs.Tree as tree
use Rattle.bound_facts.specs.Node.{type_at}
use Rattle.bound_facts.specs.SelfMade.{module_of}
use Rattle.run_base.specs.Frames.{Handler, Kept, keeps_nothing, keeps_limit, keeps_value, keeps_address, to_line, keeping, with_handler, at_handler, resumed_at}
use Rattle.run_base.specs.Machines.{line_at}
use Rattle.run_base.specs.Positions.{updated_at}
use Rattle.vb6_run.specs.Forms.{SourceLine}
use Rattle.vb6_run.specs.Programs.{machine_of}
use Rattle.vb6_run.specs.Runnables.{Runnable, declarations_of, declared_address, module_root, owned_address, root_address, static_root, variable_address}
use Rattle.vb6_run.specs.Store.{Address, Memory, SourceFrame, root, item, constant}
use Rattle.vb6_run.specs.Values.{Value}
use Rattle.typing_laws.specs.Frames.{HasOwn, IsKeptBy, IsLimit, IsPlace, IsTypedFrame, Keeps, code_line}
use Rattle.typing_laws.proofs.Addresses.{place_later}
use Rattle.typing_laws.proofs.Places.{at, fills_by, some_is}
use Rattle.typing_laws.specs.Frames.{Footprint, Ground, Stands, anywhere, ground}
use Rattle.run_base.specs.Positions.{Position}

-- ---- addresses

module _ (D : Declarations) (f g : SourceFrame) (vars : g.vars ≡ f.vars) (me : g.me ≡ f.me) where
  owned_same : (v : ℕ) (o : Owner) → owned_address D g v o ≡ owned_address D f v o
  owned_same v (owner.Module file) = ap (λ m. root_address D v (module_root D m v file)) me
  owned_same v (owner.Local p) = ap (λ (xs : List (ℕ × Address)). lookup (nat_eq v) xs) vars
  owned_same v (owner.Static p) = ap (λ m. root_address D v (static_root D m v (module_of (slice_get D.procs p.0)))) me
  owned_same v (owner.Value p) = ap (λ (xs : List (ℕ × Address)). lookup (nat_eq v) xs) vars
  owned_same v (owner.Reference p) = ap (λ (xs : List (ℕ × Address)). lookup (nat_eq v) xs) vars
  owned_same v (owner.Answer p) = ap (λ (xs : List (ℕ × Address)). lookup (nat_eq v) xs) vars
  owned_same v (owner.Field t) = refl

  address_same : (v : ℕ) → variable_address D g v ≡ variable_address D f v
  address_same v = by (slice_get D.vars v)
    where
      by : (o : Option Variable) → declared_address D g v o ≡ declared_address D f v o
      by None = refl
      by (Some x) = owned_same v x.owner

-- ---- later memories

limit_later : (K : Ground) (w v : Memory) (ty : Ty) (k : Kept Value Address) → Keeps K w v → IsLimit K w ty k → IsLimit K v ty k
limit_later K w v ty keeps_nothing k h = h
limit_later K w v ty (keeps_limit (root d q) y s) k h = (h.0, k.places q ty h.1, h.2, h.3)
limit_later K w v ty (keeps_limit (item e q j path) y s) k h = h
limit_later K w v ty (keeps_limit (constant x) y s) k h = h
limit_later K w v ty (keeps_value x) k h = h
limit_later K w v ty (keeps_address a) k h = h

kept_later : (K : Ground) (w v : Memory) (f : Form) (es : List Expr) (k : Kept Value Address) → Keeps K w v → IsKeptBy K w f es k → IsKeptBy K v f es k
kept_later K w v f es k l h = record { limit = λ e is. limit_later K w v (type_at e) k l (h.limit e is); choice = h.choice }

pub frame_later : (F : Footprint) (R : Runnable) (p : ℕ) (w v : Memory) (f : SourceFrame) → Keeps (ground (declarations_of R) F) w v → IsTypedFrame F R p w f → IsTypedFrame F R p v f
frame_later F R p w v f k t = record {
  own = λ n x is b c. let h = t.own n x is b c in (h.0, h.1, place_later R.program F w v n x h.0 k h.2);
  kept = λ h m is. kept_later (ground (declarations_of R) F) w v m.source.form m.bindings.exprs (f.kept h) k (t.kept h m is);
  error = t.error;
}

-- ---- frames that go on

module _ (F : Footprint) (R : Runnable) (p : ℕ) (w : Memory) (f : SourceFrame) (t : IsTypedFrame F R p w f) where
  abbrev K : Ground
  K = ground (declarations_of R) F

  own_on : (g : SourceFrame) → g.vars ≡ f.vars → g.me ≡ f.me → HasOwn R.program F p w g
  own_on g vars me n x is b c =
      let h = t.own n x is b c in
      (h.0, address_same (declarations_of R) f g vars me n ∙ h.1, h.2)

  pub frame_at : (n : ℕ) → IsTypedFrame F R p w (to_line n f)
  frame_at n = record { own = own_on (to_line n f) refl refl; kept = t.kept; error = t.error }

  pub frame_handling : (h : Handler) (n : ℕ) → IsTypedFrame F R p w (with_handler h n f)
  frame_handling h n = record { own = own_on (with_handler h n f) refl refl; kept = t.kept; error = t.error }

  pub frame_resumed : (n : ℕ) → IsTypedFrame F R p w (resumed_at n f)
  frame_resumed n = record { own = own_on (resumed_at n f) refl refl; kept = t.kept; error = λ e. absurd (true≢false (sym e)) }

  pub frame_caught : (n : ℕ) (l : SourceLine) → line_at (machine_of R) p f.line ≡ Some l → IsTypedFrame F R p w (at_handler n f)
  frame_caught n l is = record { own = own_on (at_handler n f) refl refl; kept = t.kept; error = λ e. (l, is) }

  -- what the head of a block keeps at its line
  pub frame_keeping : (k : Kept Value Address) (n : ℕ) (m : tree.Line) → code_line R.program p f.line ≡ Some m
      → IsKeptBy K w m.source.form m.bindings.exprs k → IsTypedFrame F R p w (keeping k n f)
  frame_keeping k n m is fits = record {
    own = own_on (keeping k n f) refl refl;
    kept = λ h l at. by h l at (nat_eq f.line h) refl;
    error = t.error;
  }
    where
      by : (h : ℕ) (l : tree.Line) → code_line R.program p h ≡ Some l → (b : Bool) → nat_eq f.line h ≡ b
          → IsKeptBy K w l.source.form l.bindings.exprs (updated_at f.kept f.line k h)
      by h l at true e =
          let one : m ≡ l = some_is (sym is ∙ ap (λ j. code_line R.program p j) (eqb-true f.line h e) ∙ at) in
          subst (λ z. IsKeptBy K w l.source.form l.bindings.exprs z) (sym (ap (λ b. cond b k (f.kept h)) e))
          (subst (λ (z : tree.Line). IsKeptBy K w z.source.form z.bindings.exprs k) one fits)
      by h l at false e =
          subst (λ z. IsKeptBy K w l.source.form l.bindings.exprs z) (sym (ap (λ b. cond b k (f.kept h)) e)) (t.kept h l at)

-- wherever what is written may stand
pub frame_anywhere : (F : Footprint) (R : Runnable) (p : ℕ) (w : Memory) (f : SourceFrame) → IsTypedFrame F R p w f → IsTypedFrame anywhere R p w f
frame_anywhere F R p w f t = record {
  own = λ n x is b c. let h = t.own n x is b c in (h.0, h.1, place_anywhere n x h.0 h.2);
  kept = λ h m is. record {
    limit = λ e i. limit_anywhere (type_at e) (f.kept h) ((t.kept h m is).limit e i);
    choice = (t.kept h m is).choice;
  };
  error = t.error;
}
  where
    stands_anywhere : (q : Position) (ty : Ty) → Stands (ground (declarations_of R) F) w q ty → Stands (ground (declarations_of R) anywhere) w q ty
    stands_anywhere q ty s = record { holds = s.holds; made = s.made; allowed = refl }

    place_anywhere : (v : ℕ) (x : Variable) (a : Address) → IsPlace R.program F w v x a → IsPlace R.program anywhere w v x a
    place_anywhere v x (root d q) h =
        (h.0, fills_by (ground (declarations_of R) F) (ground (declarations_of R) anywhere) w w q (λ path ty s. stands_anywhere (at q.root path) ty s) x.ty d h.1)
    place_anywhere v x (item e q j path) h = (h.0, (h.1.0, h.1.1, stands_anywhere q (types.array x.ty 0) h.1.2))
    place_anywhere v x (constant y) h = h

    limit_anywhere : (ty : Ty) (k : Kept Value Address) → IsLimit (ground (declarations_of R) F) w ty k → IsLimit (ground (declarations_of R) anywhere) w ty k
    limit_anywhere ty keeps_nothing h = h
    limit_anywhere ty (keeps_limit (root d q) y s) h = (h.0, stands_anywhere q ty h.1, h.2, h.3)
    limit_anywhere ty (keeps_limit (item e q j path) y s) h = h
    limit_anywhere ty (keeps_limit (constant x) y s) h = h
    limit_anywhere ty (keeps_value x) h = h
    limit_anywhere ty (keeps_address a) h = h
