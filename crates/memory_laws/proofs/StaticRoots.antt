-- Where a Static stands, in its module or in an object: the root is matched, and what stands there is what the Static declares.
use Rattle.std.proofs.Common.{◌≡◌, ◌⊎◌, inl, inr, ⊎_elim, refl, sym, ap, subst, ℕ, Bool, false, not, Some, [], ◌∷◌}
use Rattle.std.specs.Prelude.{is_some, slice_get}
use Rattle.bound_tree.specs.Tree.{Variable}
use Rattle.run_base.specs.Positions.{Key, Root, field, shared, whole}
use Rattle.vb6_run.specs.Programs.{is_module_variable}
use Rattle.vb6_run.specs.Shapes.{variable_shape}
use Rattle.run_matches.specs.Kinds.{AreKinds}
use Rattle.run_matches.specs.Maps.{World, IsMatched, root_variable}
use Rattle.run_matches.specs.Match.{HeldAs, IsBlank, StoreMatch, is_class_variable}
use Rattle.run_matches.specs.Upgrades.{Upgrade, is_flagged, variable_key}
use Rattle.run_statements.specs.Frames.{IsObjectRoot, IsStaticRoot}
use Rattle.memory_laws.specs.Changes.{root_key}
use Rattle.memory_laws.proofs.GroupWriting.{StandsAlone}
use Rattle.memory_laws.proofs.Moved.{field_goes_alone, part_goes_alone}

pub record StaticStands (U : Upgrade) (w : World) (v : ℕ) (r : Root) : Type 0 where
  pub matched : IsMatched U w (whole r)
  pub is_variable : root_key r ≡ Some (v ∷ [])
  pub declared : root_variable w.map r ≡ Some v
  pub alone : StandsAlone U r
  -- what its declaration says, or nothing yet
  pub held : IsBlank r w.src.held ⊎ AreKinds (variable_shape U.program.declarations v) (whole r) w.src.held

module _ (U : Upgrade) (w : World) (v : ℕ) (x : Variable) (is_variable : slice_get U.program.declarations.vars v ≡ Some x) (sound : is_flagged U v ≡ false)
    (h : StoreMatch U w) (key : Key) (is : variable_key U v ≡ Some key) (differs : (u : ℕ) → variable_key U u ≡ Some key → v ≡ u) where
  blank_or_kinds : (laid : Bool) (r : Root) → HeldAs U.program.declarations v laid r w.src.held
      → IsBlank r w.src.held ⊎ AreKinds (variable_shape U.program.declarations v) (whole r) w.src.held
  blank_or_kinds laid r k = ⊎_elim (λ b. inl b.0) (λ i. inr i) k

  in_module : StaticStands U w v (shared (v ∷ []))
  in_module = record {
    matched = record { is_made = tt; counterpart = ap is_some is; sound = ap not sound };
    is_variable = refl;
    declared = refl;
    alone = λ w h path m. part_goes_alone U w v key is differs path;
    held = blank_or_kinds (is_module_variable U.program.declarations x.owner) (shared (v ∷ [])) (h.kinds v x is_variable sound);
  }

  in_object : (r : Root) (o : IsObjectRoot w v r) → StaticStands U w v (field o.object (v ∷ []))
  in_object r o = record {
    matched = record { is_made = o.is_made; counterpart = ap is_some is; sound = ap not sound };
    is_variable = refl;
    declared = refl;
    alone = λ w h path m. field_goes_alone U w h o.object v key is differs m.is_made path;
    held =
        blank_or_kinds (is_class_variable U.program.declarations o.class x.owner) (field o.object (v ∷ []))
        (h.fields o.object o.class v x o.is_made o.is_class is_variable sound);
  }

  pub static_stands : (r : Root) → IsStaticRoot w v r → StaticStands U w v r
  static_stands r s =
      ⊎_elim (λ e. subst (λ z. StaticStands U w v z) (sym e) in_module) (λ o. subst (λ z. StaticStands U w v z) (sym o.stands) (in_object r o)) s
