-- A variable of Me is one of the object of the frame, which a steady procedure may change where it owns that.
use Rattle.std.proofs.Common.{◌≡◌, ◌∙◌, refl, sym, ap, subst, ⊎_elim, ℕ, Bool, true, false, Some, [], ◌∷◌, true≢false}
use Rattle.vb_tree.specs.BoundTree as types
use Rattle.vb_tree.specs.BoundTree.{Ty}
use Rattle.vb_tree.specs.declared.value.Value6.TheVariants as v
use Rattle.bound_tree.specs.Tree.{Expr, typed, Term, field, me}
use Rattle.bound_facts.specs.CanRaise.{is_me_in}
use Rattle.run_base.specs.Outcomes.{Outcome, gives, raises, spent, outside}
use Rattle.run_base.specs.Positions as position
use Rattle.run_base.specs.Positions.{Position, whole}
use Rattle.written_trees.specs.Names.{Scope}
use Rattle.vb6_run.specs.Expressions as source
use Rattle.vb6_run.specs.Expressions.{at_field}
use Rattle.vb6_run.specs.Forms.{SourceLine}
use Rattle.vb6_run.specs.Objects.{is_class}
use Rattle.vb6_run.specs.Shapes.{variable_shape}
use Rattle.vb6_run.specs.Store.{Address, root, Memory, SourceCalls, SourceFrame, provided}
use Rattle.vb6_run.specs.Values.{scalar}
use Rattle.net_run.specs.Lines.{NetFrame, NetLine, scope_of}
use Rattle.net_run.specs.Members.{Code}
use Rattle.run_matches.specs.Addresses.{position_of}
use Rattle.run_matches.specs.CoveredExprs.{Uses, covers_object_term}
use Rattle.run_matches.specs.Frames.{FrameMatch}
use Rattle.run_matches.specs.Maps.{World}
use Rattle.run_matches.specs.Pledges.{IsOld, Pledge}
use Rattle.run_matches.specs.Upgrades.{Upgrade}
use Rattle.run_statements.specs.Frames.{ArePlaced, IsMember, MayChange, context_of}
use Rattle.agreeing_laws.specs.Promises.{Yields}
use Rattle.line_laws.proofs.Bounds.{some_is}
use Rattle.line_laws.proofs.Me.{has_object, me_gives, numbered}
use Rattle.line_laws.proofs.MemberParts.{member_parts}
use Rattle.line_laws.proofs.OwnTargets.{IsOwnTarget}

-- what holds under a premise is given under it
yields_when : {A : Type 0} (X : Type 0) (Q : A → Type 0) (r : Outcome Memory A) → (X → Yields (λ a s. Q a) r) → Yields (λ a s. X → Q a) r
yields_when X Q (gives o a s) go = go
yields_when X Q (raises o e s) go = tt
yields_when X Q (spent o s) go = tt
yields_when X Q (outside o) go = tt

yields_provided : {A : Type 0} (Q : A → Type 0) (b : Bool) (a : A) (s : Memory) → Q a → Yields (λ a s. Q a) (provided b (λ w. gives [] a w) s)
yields_provided Q true a s h = h
yields_provided Q false a s h = tt

module _ (U : Upgrade) (f : SourceFrame) (of_class number : ℕ) (t : Term) where
  abbrev parts_in : ℕ → source.Parts
  parts_in o = at_field (scalar (types.class of_class) (v.Object o)) of_class (variable_shape U.program.declarations number) number

  abbrev address_in : ℕ → Address
  address_in o = root (variable_shape U.program.declarations number) (whole (position.field o (number ∷ [])))

  -- where the object is Me, it is that of the frame
  abbrev pub HasMyParts : source.Parts → Type 0
  HasMyParts x = is_me_in t ≡ true → (o : ℕ) × (f.me ≡ Some o) × (x ≡ parts_in o)

  abbrev pub IsMyAddress : Address → Type 0
  IsMyAddress a = is_me_in t ≡ true → (o : ℕ) × (f.me ≡ Some o) × (a ≡ address_in o)

  pub my_address : (x : source.Parts) (s : Memory) → HasMyParts x → Yields (λ a s. IsMyAddress a) (source.finished x s)
  my_address x s has =
      yields_when (is_me_in t ≡ true) (λ a. (o : ℕ) × (f.me ≡ Some o) × (a ≡ address_in o)) (source.finished x s)
      (λ h.
      let y = has h in
      subst (λ z. Yields (λ a s. (o : ℕ) × (f.me ≡ Some o) × (a ≡ address_in o)) (source.finished z s)) (sym y.2)
      (yields_provided (λ a. (o : ℕ) × (f.me ≡ Some o) × (a ≡ address_in o)) (is_class of_class (s.class_of y.0)) (address_in y.0) s (y.0, y.1, refl)))

-- a steady procedure changes variables of its object alone, and of no other
pub member_change : (U : Upgrade) (K : Pledge) (p : ℕ) (f : SourceFrame) (of_class number i : ℕ) (ty : Ty) (t : Term) (a : Address)
    → IsOwnTarget U K p f (typed ty (field (typed (types.class of_class) t) i)) → IsMyAddress U f of_class number t a → MayChange K a
member_change U K p f of_class number i ty t a own mine steady =
    ⊎_elim (λ inside. absurd (true≢false inside))
    (λ y z at old.
    let x = mine y.0 in
    let q : Position = whole (position.field x.0 (number ∷ [])) in
    y.1.owns x.0 (number ∷ []) x.1
    (subst (λ (j : Position). IsOld K j.root) (some_is z q (sym at ∙ ap position_of x.2)) old))
    (own steady)

module _ (U : Upgrade) (K : Pledge) (p : ℕ) (f : SourceFrame) (g : NetFrame) (l : SourceLine) (k : NetLine) (c : Code) (T : Scope) (oracle : SourceCalls)
    (uses : Uses) (placed : ArePlaced U p f (scope_of U.written c g k) T uses) (w : World) (F : FrameMatch U K w p f g) (of_class i : ℕ) (member_type : Ty)
    (m : IsMember U of_class i member_type) (ty : Ty) where
  abbrev C : source.Context
  C = context_of U oracle p f l

  abbrev to : Term → Expr
  to t = typed ty (field (typed (types.class of_class) t) i)

  pub my_parts : (t : Term) → covers_object_term uses (types.class of_class) t ≡ true
      → Yields (λ x s. HasMyParts U f of_class m.number t x) (source.parts_of C (to t) w.src)
  my_parts me covers =
      let x : (o : ℕ) × (f.me ≡ Some o) = has_object U K w p f g F of_class (placed.me of_class (numbered of_class uses.me covers)) in
      subst (λ r. Yields (λ x s. HasMyParts U f of_class m.number me x) r)
      (sym (member_parts U of_class i member_type m oracle p f l ty me (v.Object x.0) w.src (me_gives C of_class x.0 x.1 w.src))) (λ h. (x.0, x.1, refl))
  my_parts t covers =
      yields_when (is_me_in t ≡ true) (λ x. (o : ℕ) × (f.me ≡ Some o) × (x ≡ parts_in U f of_class m.number t o)) (source.parts_of C (to t) w.src)
      (λ h. absurd (true≢false (sym h)))
