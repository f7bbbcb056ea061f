-- A steady procedure stores to variables of its own, or to those of its object where it may change that.
use Rattle.std.proofs.Common.{◌≡◌, ◌∙◌, ◌⊎◌, inl, inr, ⊎_elim, refl, sym, ap, subst, ℕ, Bool, true, false, cond, not, Option, Some, None, [], ◌∷◌, slice_get, true≢false, eqb-true, eq-eqb}
use Rattle.vb_tree.specs.declared.declared.Owner.{Owner}
use Rattle.vb_tree.specs.declared.declared.Owner.TheVariants as owner
use Rattle.bound_tree.specs.Tree.{Declarations, Expr, Variable}
use Rattle.bound_facts.proofs.Chains.{both_true}
use Rattle.bound_facts.specs.Effects.{is_outside}
use Rattle.bound_facts.specs.Node.{root}
use Rattle.bound_facts.specs.SelfMade.{is_mine, is_mine_owner, is_mine_variable, is_number, module_of}
use Rattle.run_base.specs.Positions.{Key, Position, field, whole}
use Rattle.vb6_run.specs.Runnables.{is_class_file, variable_address}
use Rattle.vb6_run.specs.Shapes.{variable_shape}
use Rattle.vb6_run.specs.Store as source_store
use Rattle.vb6_run.specs.Store.{Address, SourceFrame}
use Rattle.net_run.specs.Lines.{NetFrame}
use Rattle.net_run.specs.Names as net_names
use Rattle.written_trees.specs.Names.{Scope}
use Rattle.run_matches.specs.Addresses.{position_of}
use Rattle.run_matches.specs.Covered.{is_reference_in, is_reference_owner_of}
use Rattle.run_matches.specs.Frames.{FrameMatch, IsOwnAddress, OwnObject, OwnsAll, frame_pledge, is_own_of}
use Rattle.run_matches.specs.Maps.{World}
use Rattle.run_matches.specs.Pledges.{IsOld, Pledge, is_self_made, is_that_object, stands_in_class}
use Rattle.run_matches.specs.Upgrades.{Upgrade}
use Rattle.run_statements.specs.Frames.{IsKnown, IsPlaced}
use Rattle.run_statements.specs.Kept.{IsOwnStore}
use Rattle.agreeing_laws.proofs.OwnObjects.{static_place}
use Rattle.line_laws.proofs.Bounds.{some_is}
use Rattle.line_laws.proofs.Elements.{known_address}
use Rattle.line_laws.proofs.Placed.{field_found, static_found}

-- a procedure of a class that may change its object
pub record OwnsObject (U : Upgrade) (K : Pledge) (p : ℕ) (f : SourceFrame) : Type 0 where
  pub in_class : stands_in_class U (module_of (slice_get U.program.declarations.procs p)) ≡ true
  pub owns : (o : ℕ) (k : Key) → f.me ≡ Some o → IsOld K (field o k) → ⊥

abbrev pub MayStoreTo : Upgrade → Pledge → (procedure : ℕ) → SourceFrame → (outside mine : Bool) → Type 0
MayStoreTo U K p f outside mine = (outside ≡ false) ⊎ ((mine ≡ true) × OwnsObject U K p f)

abbrev pub IsOwnTarget : Upgrade → Pledge → (procedure : ℕ) → SourceFrame → Expr → Type 0
IsOwnTarget U K p f e =
    K.steady → MayStoreTo U K p f (is_outside U.program.declarations.vars p (root e)) (is_mine U.program.declarations p e)

-- the frame of a self-made procedure owns its object
pub own_target : (U : Upgrade) (p : ℕ) (w : World) (f : SourceFrame) (e : Expr) → IsOwnStore U p e
    → MayStoreTo U (frame_pledge U p w f) p f (is_outside U.program.declarations.vars p (root e)) (is_mine U.program.declarations p e)
own_target U p w f e (inl h) = inl h
own_target U p w f e (inr h) =
    let K : Pledge = frame_pledge U p w f in
    let of : K.own.object ≡ f.me = ap (λ b. cond b None (cond (is_self_made U p) f.me None)) h.0 ∙ ap (λ b. cond b f.me None) h.1.0 in
    inr (
      h.1.1,
      record {
        in_class = (both_true (not (U.known.unplain p)) (stands_in_class U (module_of (slice_get U.program.declarations.procs p))) h.1.0).1;
        owns = λ o k is old. true≢false (sym (ap (λ m. is_that_object m o) (of ∙ is) ∙ eq-eqb o o refl) ∙ old.foreign);
      },
    )

-- ---- variables

pub not_outside : (b : Bool) → not b ≡ false → b ≡ true
not_outside true e = refl
not_outside false e = absurd (true≢false e)

-- one of a module that isn't the procedure's class is none of its object
not_mine : (U : Upgrade) (p file : ℕ) (o : Option ℕ) → is_class_file U.program.declarations file ≡ false → stands_in_class U o ≡ true → is_number o file ≡ true → ⊥
not_mine U p file None standard in_class h = true≢false (sym h)
not_mine U p file (Some m) standard in_class h = true≢false (sym (subst (λ n. is_class_file U.program.declarations n ≡ true) (eqb-true m file h) in_class) ∙ standard)

-- nor is one that was given
given_not_mine : (p : ℕ) (home : Option ℕ) (o : Owner) → is_reference_owner_of p o ≡ true → is_mine_owner p home o ≡ true → ⊥
given_not_mine p home (owner.Reference q) given h = true≢false (sym h)
given_not_mine p home _ given h = true≢false (sym given)

module _ (U : Upgrade) (K : Pledge) (w : World) (p : ℕ) (f : SourceFrame) (g : NetFrame) (F : FrameMatch U K w p f g) (owns : OwnsAll U K p f)
    (S : net_names.Scope) (T : Scope) (v : ℕ) (x : IsKnown U v) where
  abbrev D : Declarations
  D = U.program.declarations

  abbrev of_variable : Option Variable
  of_variable = slice_get D.vars v

  abbrev MayChangeAt : Address → Type 0
  MayChangeAt a = variable_address D f v ≡ Some a → IsOwnAddress K a

  -- the procedure's own
  own_changes : is_own_of U p v ≡ true → (a : Address) → MayChangeAt a
  own_changes own a found = owns.variables v a (sym (known_address U v x p own f) ∙ found) own

  module _ (object : OwnsObject U K p f) (mine : is_mine_variable D p of_variable ≡ true) where
    abbrev home : Option ℕ
    home = module_of (slice_get D.procs p)

    mine_owner : (y : Variable) → of_variable ≡ Some y → is_mine_owner p home y.owner ≡ true
    mine_owner y is = sym (ap (is_mine_variable D p) is) ∙ mine

    mine_changes : IsPlaced U p f S T v → (a : Address) → MayChangeAt a
    mine_changes (inl own) a found = own_changes own a found
    mine_changes (inr (inl s)) a found =
        ⊎_elim
        (λ m. absurd (true≢false (sym (subst (λ o. stands_in_class U o ≡ true) s.is_file object.in_class) ∙ m.0)))
        (λ o.
        let q : Position = whole (field o.0.object (v ∷ [])) in
        let is : a ≡ source_store.root (variable_shape D v) q =
        some_is a (source_store.root (variable_shape D v) q) (sym found ∙ static_found U p f v s (field o.0.object (v ∷ [])) o.1) in
        λ z at old.
        object.owns o.0.object (v ∷ []) o.0.is_me
        (subst (λ (i : Position). IsOld K i.root) (some_is z q (sym at ∙ ap position_of is)) old))
        (static_place U w p v s.file f.me s.is_file F.own_object)
    mine_changes (inr (inr (inl s))) a found =
        absurd
        (not_mine U p s.file home s.standard object.in_class
        (subst (λ o. is_mine_owner p home o ≡ true) s.is_owner (mine_owner s.variable s.is_variable)))
    mine_changes (inr (inr (inr (inl y)))) a found =
        absurd (given_not_mine p home x.variable.owner (sym (ap (is_reference_in p) x.is_variable) ∙ y.reference) (mine_owner x.variable x.is_variable))
    mine_changes (inr (inr (inr (inr s)))) a found =
        let y : OwnObject U w s.file f.me = F.own_object s.file s.own s.is_class in
        let q : Position = whole (field y.object (v ∷ [])) in
        let is : a ≡ source_store.root (variable_shape D v) q = some_is a (source_store.root (variable_shape D v) q) (sym found ∙ field_found U p f S T v s y.object y.is_me) in
        λ z at old.
        object.owns y.object (v ∷ []) y.is_me
        (subst (λ (i : Position). IsOld K i.root) (some_is z q (sym at ∙ ap position_of is)) old)

  pub target_changes : IsPlaced U p f S T v → MayStoreTo U K p f (not (is_own_of U p v)) (is_mine_variable D p of_variable) → (a : Address) → MayChangeAt a
  target_changes placed (inl inside) a found = own_changes (not_outside (is_own_of U p v) inside) a found
  target_changes placed (inr h) a found = mine_changes h.1 h.0 placed a found
