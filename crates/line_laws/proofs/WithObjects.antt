-- A With on an object keeps it on both sides: what is written leads to it at an address of its class.
use Rattle.std.proofs.Common.{◌≡◌, ◌∙◌, refl, sym, ap, subst, ℕ, Some, [], ◌∷◌, append-nil}
use Rattle.vb_tree.specs.BoundTree as types
use Rattle.vb_tree.specs.Tree as source_form
use Rattle.bound_tree.specs.Tree.{Expr, typed, Term}
use Rattle.net_tree.specs.Tree as tree
use Rattle.net_tree.specs.Types.{TypeName}
use Rattle.run_base.specs.Frames.{Kept, keeping, keeps_address, keeps_value}
use Rattle.run_base.specs.Outcomes.{Outcome, gives, raises, spent, outside, then}
use Rattle.written_trees.specs.Exprs.{exp_of}
use Rattle.written_trees.specs.Names.{Scope}
use Rattle.vb6_run.specs.Expressions as source
use Rattle.vb6_run.specs.Forms.{SourceLine}
use Rattle.vb6_run.specs.Lines.{keeps_at, with_does}
use Rattle.vb6_run.specs.Store.{Address, Memory, SourceCalls, SourceFrame}
use Rattle.vb6_run.specs.Values.{Value}
use Rattle.net_run.specs.Expressions as target
use Rattle.net_run.specs.Lines.{NetFrame, NetLine, scope_of, with_kept}
use Rattle.net_run.specs.Making.{Jobs, created}
use Rattle.net_run.specs.Members.{Code}
use Rattle.net_run.specs.Names as net_names
use Rattle.net_run.specs.Shapes as shape
use Rattle.net_run.specs.Store as net
use Rattle.net_run.specs.Values as net_value
use Rattle.run_matches.specs.Addresses.{KeptMatch, both_objects}
use Rattle.run_matches.specs.Agreeing.{Agrees}
use Rattle.run_matches.specs.Frames.{KeepsObject}
use Rattle.run_matches.specs.Maps.{World}
use Rattle.run_matches.specs.Match.{MemoryMatch}
use Rattle.run_matches.specs.Pledges.{Later, Pledge}
use Rattle.run_matches.specs.Upgrades.{Upgrade, class_home}
use Rattle.run_statements.specs.Frames.{ScalarMatch, context_of}
use Rattle.run_statements.specs.Members.{ObjectMatch}
use Rattle.agreeing_laws.proofs.Agreeing.{agrees_gives, then_agrees}
use Rattle.line_laws.proofs.FrameLater.{Keeps}
use Rattle.line_laws.proofs.KeptPlaces.{CanKeep}

-- an address of the class that is written for one
pub record HasShape (U : Upgrade) (class : ℕ) (a : net.Address) : Type 0 where
  pub home : ℕ
  pub is_home : class_home U class ≡ Some home
  pub shaped : net.shape_at a ≡ shape.class home

-- where the source gives a value, what is written leads to such an address
abbrev pub IsShaped : Upgrade → (class : ℕ) → Outcome Memory Value → Outcome net.Memory net.Address → Type 0
IsShaped U class (gives o x s) (gives q a t) = HasShape U class a
IsShaped U class _ _ = Unit {0}

shaped_at : (U : Upgrade) (class : ℕ) (r : Outcome Memory Value) (a : net.Address) (t : net.Memory) → HasShape U class a → IsShaped U class r (gives [] a t)
shaped_at U class (gives o x s) a t h = h
shaped_at U class (raises o e s) a t h = tt
shaped_at U class (spent o s) a t h = tt
shaped_at U class (outside o) a t h = tt

-- so it is looked up there
pub looked_up : (U : Upgrade) (K : Pledge) (w : World) (class : ℕ) (r : Outcome Memory Value) (r' : Outcome net.Memory net.Address) → IsShaped U class r r'
    → Agrees U K w (ScalarMatch U (types.class class)) r (then r' target.read) → Agrees U K w (ObjectMatch U class) r r'
looked_up U K w class (gives o x s) (gives q a t) has h = (sym (append-nil q) ∙ h.0, h.1, record { like = h.2; home = has.home; is_home = has.is_home; shaped = has.shaped }, h.3)
looked_up U K w class (gives o x s) (raises q e t) has h = absurd h
looked_up U K w class (gives o x s) (spent q t) has h = absurd h
looked_up U K w class (gives o x s) (outside q) has h = absurd h
looked_up U K w class (raises o d s) (gives q a t) has h = absurd h
looked_up U K w class (raises o d s) (raises q e t) has h = h
looked_up U K w class (raises o d s) (spent q t) has h = absurd h
looked_up U K w class (raises o d s) (outside q) has h = absurd h
looked_up U K w class (spent o s) (gives q a t) has h = absurd h
looked_up U K w class (spent o s) (raises q e t) has h = absurd h
looked_up U K w class (spent o s) (spent q t) has h = h
looked_up U K w class (spent o s) (outside q) has h = absurd h
looked_up U K w class (outside o) (gives q a t) has h = (h.0, sym (append-nil q) ∙ h.1)
looked_up U K w class (outside o) (raises q e t) has h = h
looked_up U K w class (outside o) (spent q t) has h = h
looked_up U K w class (outside o) (outside q) has h = h

-- a new object of a class that is written
module _ (U : Upgrade) (class home : ℕ) (is_home : class_home U class ≡ Some home) (S : net_names.Scope) (oracle : Jobs) where
  made_shaped : (r : Outcome Memory Value) (m : Outcome net.Memory net_value.Value)
      → IsShaped U class r (target.address_from S oracle (target.as_reached (then m (λ v w. gives [] (net.constant (shape.class home) v) w))))
  made_shaped (gives o x s) (gives q v t) = record { home = home; is_home = is_home; shaped = refl }
  made_shaped (gives o x s) (raises q e t) = tt
  made_shaped (gives o x s) (spent q t) = tt
  made_shaped (gives o x s) (outside q) = tt
  made_shaped (raises o e s) m = tt
  made_shaped (spent o s) m = tt
  made_shaped (outside o) m = tt

  pub new_shaped : (ty : TypeName) → shape.shape_of S.project S.home ty ≡ shape.class home → (r : Outcome Memory Value) (w : net.Memory)
      → IsShaped U class r (target.address_of S oracle (tree.new_object ty tree.no_exps) w)
  new_shaped ty leads r w =
      subst (λ d. IsShaped U class r (target.address_from S oracle (target.as_reached (target.object_new S oracle d w)))) (sym leads)
      (made_shaped r (created S.project oracle home w))

-- ---- the With

no_address : (x : Value) (a : Address) → ◌≡◌ {A = Kept Value Address} (keeps_value x) (keeps_address a) → ⊥
no_address x a e = cc e

no_user : (class t : ℕ) → types.class class ≡ types.user t → ⊥
no_user class t e = cc e

class_number : (c d : ℕ) → types.class c ≡ types.class d → c ≡ d
class_number c d e = cc e

module _ (U : Upgrade) (K : Pledge) (p : ℕ) (f : SourceFrame) (g : NetFrame) (l : SourceLine) (k : NetLine) (c : Code) (T : Scope) (oracle : SourceCalls)
    (net_oracle : Jobs) (R : World → SourceFrame → NetFrame → Type 0) (w : World) (h : MemoryMatch U w) (aims : k.aims ≡ l.aims) (head : source_form.Exp)
    (class : ℕ) (t : Term) where
  abbrev D : source.Context
  D = context_of U oracle p f l

  abbrev N : net_names.Scope
  N = scope_of U.written c g k

  abbrev e : Expr
  e = typed (types.class class) t

  abbrev keeps : net.Address → net.Memory → Outcome net.Memory NetFrame
  keeps a t = then (with_kept (net.shape_at a) a t) (λ b t. gives [] (keeping (keeps_address b) k.aims.after g) t)

  kept_object : (x : Value) (a : net.Address) (u : World) → ObjectMatch U class u x a → Keeps U K p f g R w (source_form.with_head head) (e ∷ [])
      → Later U K w u → Agrees U K u R (keeps_at D (keeps_value x) u.src) (keeps a u.net)
  kept_object x a u at keep later =
      let y : net_value.Value = net.looked_up a u.net in
      let b : net.Address = net.constant (shape.class at.home) y in
      let can : CanKeep U K p f u (source_form.with_head head) (e ∷ []) (keeps_value x) (keeps_address b) =
      record {
        by = tt;
        in_place = λ d own is. absurd (no_address x d is);
        own = λ d own is. absurd (no_address x d is);
        place = λ with. (
          (λ n is. no_user class n is),
          (λ n is.
              subst (λ i. KeepsObject x (keeps_address b) i) (class_number class n is)
              (record { object = at.like.0; is_object = at.like.1; address = b; is_kept = refl })),
        );
      } in
      subst (λ s. Agrees U K u R (keeps_at D (keeps_value x) u.src) (then (with_kept s a u.net) (λ b t. gives [] (keeping (keeps_address b) k.aims.after g) t)))
      (sym at.shaped)
      (agrees_gives U K u R (keeping (keeps_value x) l.aims.after f) (keeping (keeps_address b) k.aims.after g) later.match
      (keep (keeps_value x) (keeps_address b) l.aims.after k.aims.after (ap (λ z. z.after) aims) u later
      (λ exact.
      subst (λ v. KeptMatch U K u exact (keeps_value v) (keeps_address b)) (sym at.like.1)
      (both_objects (types.class class) at.like.0 (shape.class at.home) y at.like.2 (at.home, at.is_home, refl)))
      can))

  pub with_object_agrees : Agrees U K w (ObjectMatch U class) (source.value_of D e w.src) (target.address_of N net_oracle (exp_of T e) w.net)
      → Keeps U K p f g R w (source_form.with_head head) (e ∷ [])
      → Agrees U K w R (with_does D e (types.class class) w.src) (then (target.address_of N net_oracle (exp_of T e) w.net) keeps)
  with_object_agrees object keep =
      then_agrees U K w (ObjectMatch U class) R (source.value_of D e w.src) (target.address_of N net_oracle (exp_of T e) w.net)
      (λ x s. keeps_at D (keeps_value x) s) keeps h object (λ x a u at later. kept_object x a u at keep later)
