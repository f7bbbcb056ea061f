-- The object that a variable or a With keeps, and Me, are the same whatever is evaluated before them, where nothing that was there has changed.
use Rattle.std.proofs.Common.{◌≡◌, ◌∙◌, ◌⊎◌, refl, sym, ap, subst, inl, inr, ℕ, Bool, true, false, ◌&&◌, Some, [], true≢false, not}
use Rattle.vb_tree.specs.BoundTree as types
use Rattle.vb_tree.specs.BoundTree.{Ty}
use Rattle.vb_tree.specs.declared.declared.VarId.{VarId}
use Rattle.vb_tree.specs.declared.value.Value6.{Value6}
use Rattle.vb_tree.specs.declared.value.Value6.TheVariants as v
use Rattle.bound_tree.specs.Tree.{Expr, typed, Term, variable, me, with_object}
use Rattle.bound_tree.specs.declared.expression.Root.{Root}
use Rattle.net_meaning.specs.declared.value.ValueN.{ValueN}
use Rattle.net_meaning.specs.ValueMatch.{Matches, no_object_of, objects_of}
use Rattle.run_base.specs.Outcomes.{after, gives, outside, then}
use Rattle.run_base.specs.Positions.{Position}
use Rattle.written_trees.specs.Names.{Scope}
use Rattle.vb6_run.specs.Expressions as source
use Rattle.vb6_run.specs.Expressions.{value_in}
use Rattle.vb6_run.specs.Forms.{SourceLine}
use Rattle.vb6_run.specs.Shapes.{simple}
use Rattle.vb6_run.specs.Store.{Address, root, single, Memory, SourceCalls, SourceFrame, provided}
use Rattle.vb6_run.specs.Values.{is_of_shape, is_typed, scalar}
use Rattle.net_run.specs.Lines.{NetFrame, NetLine, scope_of}
use Rattle.net_run.specs.Making.{Jobs}
use Rattle.net_run.specs.Members.{Code}
use Rattle.net_run.specs.Names as net_names
use Rattle.run_matches.specs.Addresses.{AllMatched}
use Rattle.run_matches.specs.CoveredExprs.{Uses, covers_object_term, covers_place, is_calm_object}
use Rattle.run_matches.specs.Frames.{FrameMatch, OwnsAll}
use Rattle.run_matches.specs.Maps.{World, is_auto_root, moved_at}
use Rattle.run_matches.specs.Match.{MemoryMatch}
use Rattle.run_matches.specs.Pledges.{Pledge}
use Rattle.run_matches.specs.Upgrades.{Upgrade}
use Rattle.run_statements.specs.Frames.{AllCalled, AreReadable, ArePlaced, StandsWithin, context_of, demands}
use Rattle.agreeing_laws.proofs.WithPlaces.{IsWithObject, object_found}
use Rattle.line_laws.proofs.Calm.{Gives, IsFit, fit_of_like, typed_read}
use Rattle.line_laws.proofs.Me.{has_object, me_gives, numbered, same_class}
use Rattle.line_laws.proofs.Places.{Place, variable_place}
use Rattle.line_laws.proofs.Standing.{Stable, held_fit, not_blank, read_single, same_matched}
use Rattle.agreeing_laws.proofs.PlainUses.{object_variable}
use Rattle.line_laws.proofs.Uses.{not_true}
use Rattle.bound_facts.proofs.Chains.{both_true}

-- Nothing or an object
object_typed : (k : ℕ) (x : Value6) → IsFit (types.class k) x → is_typed (types.class k) x ≡ true
object_typed k x fit = by_match fit.0 x fit.1 fit.2
  where
    by_match : (same : ℕ → ℕ → Bool) (x : Value6) (y : ValueN) → Matches same (types.class k) x y → is_typed (types.class k) x ≡ true
    by_match same _ _ (no_object_of k) = refl
    by_match same _ _ (objects_of k i j e) = refl

module _ (U : Upgrade) (K : Pledge) (p : ℕ) (f : SourceFrame) (g : NetFrame) (l : SourceLine) (k : NetLine) (c : Code) (T : Scope)
    (declared : T.declarations ≡ U.program.declarations) (oracle : SourceCalls) (net_oracle : Jobs) (uses : Uses) (readable : AreReadable U T uses)
    (placed : ArePlaced U p f (scope_of U.written c g k) T uses) (w : World) (h : MemoryMatch U w) (F : FrameMatch U K w p f g)
    (owns : OwnsAll U K p f) where
  abbrev C : source.Context
  C = context_of U oracle p f l

  abbrev S : net_names.Scope
  S = scope_of U.written c g k

  abbrev Kept : (of_class : ℕ) → Term → Type 0
  Kept of_class t = (x : Value6) × ((s : Memory) → Stable U w s → Gives C (typed (types.class of_class) t) x s)

  -- or a With that keeps none
  abbrev pub NoneKept : (of_class : ℕ) → Term → Type 0
  NoneKept of_class t = (r : Root) × (t ≡ with_object r) × ((s : Memory) → source.parts_of C (typed (types.class of_class) t) s ≡ outside [])

  with_kept : (of_class : ℕ) (r : Root) → IsWithObject U K w p f g F oracle l k c net_oracle T of_class r → Kept of_class (with_object r)
  with_kept of_class r x =
      let ty : Ty = types.class of_class in
      let shaped : is_of_shape (simple ty) (scalar ty x.object) ≡ true =
      ap (λ b. b && is_typed ty x.object) (same_class of_class) ∙ object_typed of_class x.object (fit_of_like U w ty x.object x.value x.like) in (
        x.object,
        λ s before.
            ap (λ r'. then r' (value_in C (typed ty (with_object r)))) (x.found s)
            ∙ ap (λ b. after [] (after [] (provided b (λ w. gives [] (scalar ty x.object) w) s))) shaped,
      )

  calm_with : (of_class : ℕ) (r : Root) → StandsWithin U p l k (types.class of_class) r → Kept of_class (with_object r) ⊎ NoneKept of_class (with_object r)
  calm_with of_class r x =
      by (object_found U K w p f g F oracle l k c net_oracle T of_class r x.head x.is_round x.line x.is_line x.covers x.is_head x.keeps x.same_aims)
    where
      by : IsWithObject U K w p f g F oracle l k c net_oracle T of_class r ⊎ ((s : Memory) → source.parts_of C (typed (types.class of_class) (with_object r)) s ≡ outside [])
          → Kept of_class (with_object r) ⊎ NoneKept of_class (with_object r)
      by (inl y) = inl (with_kept of_class r y)
      by (inr none) = inr (r, refl, none)

  calm_variable : (of_class : ℕ) (v : VarId) (qualified : Bool) → covers_place uses (typed (types.class of_class) (variable v qualified)) ≡ true
      → Kept of_class (variable v qualified)
  calm_variable of_class v qualified covers =
      let ty : Ty = types.class of_class in
      let e : Expr = typed ty (variable v qualified) in
      let x : Place U K p w C S T net_oracle ty e =
      variable_place U K p f g l k c T declared oracle net_oracle uses readable placed w h F owns ty v qualified covers in
      let q : Position = x.place.position in
      let a : Address = root (simple ty) q in
      let matched : AllMatched U w (simple ty) q = same_matched U K w ty q a x.place.address refl x.place.same in
      let kind : (z : Value6) × (w.src.held q ≡ single ty z) = matched.1 in
      let fit : IsFit ty kind.0 = held_fit U w ty kind.0 (w.src.held q) (w.net.cell (moved_at U w.map q)) kind.1 (h.stores.values q matched.0) in
      let shaped : is_of_shape (simple ty) (scalar ty kind.0) ≡ true =
      ap (λ b. b && is_typed ty kind.0) (same_class of_class) ∙ object_typed of_class kind.0 fit in
      let plain : is_auto_root U w.map q.root ≡ false = subst (λ r. is_auto_root U w.map r ≡ false) (sym x.place.in_root) x.plain in (
        kind.0,
        λ s before.
            let is : s.held q ≡ single ty kind.0 = before q matched.0.is_made plain (λ z. not_blank ty kind.0 (sym kind.1 ∙ z)) ∙ kind.1 in
            ap (λ r. then r (value_in C e)) (x.place.found s)
            ∙ ap (after []) (typed_read C e a s kind.0 refl shaped (read_single ty kind.0 q s (same_class of_class) is)),
      )

  calm_me : (of_class : ℕ) → covers_object_term uses (types.class of_class) me ≡ true → Kept of_class me
  calm_me of_class covers =
      let x : (o : ℕ) × (f.me ≡ Some o) = has_object U K w p f g F of_class (placed.me of_class (numbered of_class uses.me covers)) in
      (v.Object x.0, λ s before. me_gives C of_class x.0 x.1 s)

  pub calm_object : (of_class : ℕ) (t : Term) → is_calm_object uses (typed (types.class of_class) t) ≡ true
      → covers_object_term uses (types.class of_class) t ≡ true → AllCalled (demands U K p l k S T) (typed (types.class of_class) t)
      → ((x : Value6) × ((s : Memory) → Stable U w s → Gives C (typed (types.class of_class) t) x s)) ⊎ NoneKept of_class t
  calm_object of_class (variable v qualified) calm covers can =
      let ty : Ty = types.class of_class in
      let none : uses.auto v ty ≡ false = not_true (uses.auto v ty) (both_true (not (uses.auto v ty)) (uses.exact v) calm).0 in
      inl (calm_variable of_class v qualified (object_variable uses ty v qualified covers none))
  calm_object of_class me calm covers can = inl (calm_me of_class covers)
  calm_object of_class (with_object r) calm covers can = calm_with of_class r can
  calm_object of_class _ calm covers can = absurd (true≢false (sym calm))
