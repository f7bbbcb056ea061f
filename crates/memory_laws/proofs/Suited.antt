-- What is put at a position suits what the position holds, and what its variable declares.
use Rattle.std.proofs.Common.{◌≡◌, inl, inr, ⊎_elim, refl, sym, ap, subst, ◌∙◌, ℕ, ◌<◌, Bool, false, Some, [], ◌∷◌}
use Rattle.std.specs.Prelude.{slice_get}
use Rattle.bound_tree.specs.Tree.{Variable}
use Rattle.run_base.specs.Positions.{Position, Root, field, shared, whole, updated}
use Rattle.vb6_run.specs.Programs.{is_module_variable}
use Rattle.vb6_run.specs.Shapes.{variable_shape}
use Rattle.vb6_run.specs.Store.{Held}
use Rattle.run_matches.specs.Kinds.{AreKinds, KeepsKind}
use Rattle.run_matches.specs.Maps.{World}
use Rattle.run_matches.specs.Match.{HeldAs, StoreMatch, is_class_variable}
use Rattle.run_matches.specs.Upgrades.{Upgrade, is_flagged}
use Rattle.agreeing_laws.proofs.SameKinds.{keeps_as, kinds_kept}
use Rattle.memory_laws.specs.Changes.{IsSuited, root_key}
use Rattle.memory_laws.proofs.Moved.{same_variable_place}
use Rattle.memory_laws.proofs.Positions.{at, either_position, either_root, updated_here, updated_other}

module _ (U : Upgrade) (w : World) (q : Position) (x : Held) (suits : IsSuited U w q x) where
  pub same_kinds_suited : (p : Position) → KeepsKind (w.src.held p) (updated w.src.held q x p)
  same_kinds_suited p =
      ⊎_elim
      (λ s. subst (λ z. KeepsKind (w.src.held z) (updated w.src.held q x z)) s
      (subst (λ z. KeepsKind (w.src.held q) z) (sym (updated_here w.src.held q x)) suits.kept))
      (λ o. keeps_as (w.src.held p) (updated w.src.held q x p) (updated_other w.src.held q x p o)) (either_position q p)

  held_suited : (r : Root) (v : ℕ) → root_key r ≡ Some (v ∷ []) → (laid : Bool) → HeldAs U.program.declarations v laid r w.src.held
      → HeldAs U.program.declarations v laid r (updated w.src.held q x)
  held_suited r v key laid h =
      ⊎_elim
      (λ b. ⊎_elim (λ s. inr (suits.laid r v key s (ap (λ z. w.src.held (at z q.path)) s ∙ b.0 q.path)))
      (λ o. inl (λ path. updated_other w.src.held q x (at r path) (λ e. o (ap (λ (p : Position). p.root) e)) ∙ b.0 path, b.1)) (either_root q.root r))
      (λ k. inr (kinds_kept (variable_shape U.program.declarations v) (whole r) w.src.held (updated w.src.held q x) same_kinds_suited k)) h

  pub kinds_suited : StoreMatch U w → (v : ℕ) (y : Variable) → slice_get U.program.declarations.vars v ≡ Some y → is_flagged U v ≡ false
      → HeldAs U.program.declarations v (is_module_variable U.program.declarations y.owner) (shared (v ∷ [])) (updated w.src.held q x)
  kinds_suited h v y is sound =
      held_suited (shared (v ∷ [])) v refl (is_module_variable U.program.declarations y.owner) (h.kinds v y is sound)

  pub fields_suited : StoreMatch U w → (o c v : ℕ) (y : Variable) → o < w.src.next_object → w.src.class_of o ≡ Some c
      → slice_get U.program.declarations.vars v ≡ Some y → is_flagged U v ≡ false
      → HeldAs U.program.declarations v (is_class_variable U.program.declarations c y.owner) (field o (v ∷ [])) (updated w.src.held q x)
  fields_suited h o c v y lt of is sound =
      held_suited (field o (v ∷ [])) v refl (is_class_variable U.program.declarations c y.owner) (h.fields o c v y lt of is sound)

-- what is laid at the key of a variable is what it declares, and what no other does
pub root_laid : (U : Upgrade) (v : ℕ) (q : Root) → root_key q ≡ Some (v ∷ []) → (h : Position → Held)
    → AreKinds (variable_shape U.program.declarations v) (whole q) h → (r : Root) (u : ℕ) → root_key r ≡ Some (u ∷ []) → q ≡ r
    → AreKinds (variable_shape U.program.declarations u) (whole r) h
root_laid U v q is h k r u of e =
    subst (λ z. AreKinds (variable_shape U.program.declarations u) (whole z) h) e
    (subst (λ z. AreKinds (variable_shape U.program.declarations z) (whole q) h) (same_variable_place v u q r is of e) k)
