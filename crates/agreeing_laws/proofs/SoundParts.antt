-- Variables of user types whose declarations carry no issue: where they are made they are compared, with all their fields.
use Rattle.std.proofs.Common.{◌≡◌, ◌⊎◌, inl, inr, refl, sym, ap, subst, ◌∙◌, ℕ, suc, Bool, true, false, not, ◌&&◌, List, [], ◌∷◌, Option, Some, None, true≢false}
use Rattle.std.specs.Prelude.{option_and_then}
use Rattle.up_base.proofs.Tests.{and_true}
use Rattle.vb_tree.specs.BoundTree.{Ty, user}
use Rattle.run_base.specs.Positions.{Root, Position, inner}
use Rattle.vb6_run.specs.Shapes.{Shape, simple, group, array, endless, Shapes, no_shapes, next_shape}
use Rattle.net_run.specs.Shapes as shape
use Rattle.run_matches.specs.Kinds.{AreKinds, AreFieldKinds}
use Rattle.run_matches.specs.Upgrades.{Upgrade, is_flagged, is_flagged_some, is_sound, part_of_type, part_variable, type_of}
use Rattle.run_matches.specs.Maps.{World, IsMade, IsMatched, has_counterpart, is_sound_part, mark, root_variable}
use Rattle.run_matches.specs.Pledges.{type_of_shape}
use Rattle.run_matches.specs.Addresses.{AllMatched, FieldsMatched, AllRanked, FieldsRanked}
use Rattle.run_matches.specs.SoundShapes.{IsField, IsSoundShape, AreSoundShapes}

abbrev pub at_part : Root → List ℕ → Position
at_part r path = record { root = r; path = path }

-- the type of a part of a variable, as it is declared
abbrev pub part_type : Upgrade → (variable : ℕ) → (path : List ℕ) → Option Ty
part_type U v path = option_and_then (type_of U) (part_variable U v path)

-- ---- one field

module _ (U : Upgrade) (v : ℕ) (path : List ℕ) (t k : ℕ) (ty : Ty) (of : part_type U v path ≡ Some (user t)) (f : IsField U t k ty) where
  part_is : part_variable U v (k ∷ path) ≡ Some f.variable
  part_is = ap (part_of_type U k) of ∙ f.declares

  pub field_type_is : part_type U v (k ∷ path) ≡ Some ty
  field_type_is = ap (option_and_then (type_of U)) part_is ∙ f.is_type

  pub field_is_sound : is_sound U v path ≡ true → is_sound U v (k ∷ path) ≡ true
  field_is_sound sound =
      and_true (is_sound U v path) (not (is_flagged_some U (part_variable U v (k ∷ path)))) sound
      (ap (λ o. not (is_flagged_some U o)) part_is ∙ ap not f.sound)

-- ---- all fields

module _ (U : Upgrade) (w : World) (r : Root) (v : ℕ) (is_made : IsMade (mark w.src) r) (counterpart : has_counterpart U w.map r ≡ true)
    (declared : root_variable w.map r ≡ Some v) where
  pub part_matched : (path : List ℕ) → is_sound U v path ≡ true → IsMatched U w (at_part r path)
  part_matched path sound = record {
    is_made = is_made;
    counterpart = counterpart;
    sound = subst (λ o. is_sound_part U o path ≡ true) (sym declared) sound;
  }

  mutual
    pub all_matched_made : (s : Shape) (path : List ℕ) → IsSoundShape U s → part_type U v path ≡ Some (type_of_shape s) → is_sound U v path ≡ true
        → AreKinds s (at_part r path) w.src.held → AllMatched U w s (at_part r path)
    all_matched_made (simple ty) path c of sound kinds = (part_matched path sound, kinds)
    all_matched_made (group t fs) path c of sound kinds = (part_matched path sound, kinds.0, fields_matched_made t 0 fs path c of sound kinds.1)
    all_matched_made (array e bounds) path c of sound kinds = absurd c
    all_matched_made endless path c of sound kinds = absurd c

    fields_matched_made : (t k : ℕ) (fs : Shapes) (path : List ℕ) → AreSoundShapes U t k fs → part_type U v path ≡ Some (user t) → is_sound U v path ≡ true
        → AreFieldKinds fs (at_part r path) k w.src.held → FieldsMatched U w t k fs (at_part r path)
    fields_matched_made t k no_shapes path c of sound kinds = tt
    fields_matched_made t k (next_shape s rest) path c of sound kinds = (
      inr (all_matched_made s (k ∷ path) c.1 (field_type_is U v path t k (type_of_shape s) of c.0)
          (field_is_sound U v path t k (type_of_shape s) of c.0 sound) kinds.0),
      fields_matched_made t (suc k) rest path c.2 of sound kinds.1,
    )

-- no array in it has a rank
mutual
  pub all_ranked_sound : (U : Upgrade) (w : World) (s : Shape) (d : shape.Shape) (q : Position) → IsSoundShape U s → AllRanked U w s d q
  all_ranked_sound U w (simple ty) d q c = tt
  all_ranked_sound U w (group t fs) (shape.structured home member gs) q c = fields_ranked_sound U w t 0 fs gs q c
  all_ranked_sound U w (group t fs) (shape.scalar ty) q c = tt
  all_ranked_sound U w (group t fs) (shape.class home) q c = tt
  all_ranked_sound U w (group t fs) (shape.array d rank) q c = tt
  all_ranked_sound U w (group t fs) shape.shapeless q c = tt
  all_ranked_sound U w (array e bounds) d q c = absurd c
  all_ranked_sound U w endless d q c = absurd c

  fields_ranked_sound : (U : Upgrade) (w : World) (t k : ℕ) (fs : Shapes) (gs : shape.Fields) (q : Position) → AreSoundShapes U t k fs
      → FieldsRanked U w t k fs gs q
  fields_ranked_sound U w t k no_shapes gs q c = tt
  fields_ranked_sound U w t k (next_shape s rest) shape.no_fields q c = tt
  fields_ranked_sound U w t k (next_shape s rest) (shape.next_field name d others) q c =
      (inr (all_ranked_sound U w s d (inner q k) c.1), fields_ranked_sound U w t (suc k) rest others q c.2)
