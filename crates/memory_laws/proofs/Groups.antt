-- Variables of user types and of classes are read as a whole.
use Rattle.std.proofs.Common.{◌≡◌, ◌⊎◌, inl, inr, refl, sym, ap, subst, ◌∙◌, ℕ, suc, Bool, true, false, Option, Some, None, [], true≢false}
use Rattle.vb_tree.specs.BoundTree.{Ty, class}
use Rattle.vb_tree.specs.declared.value.Value6.{Value6}
use Rattle.net_meaning.specs.declared.value.ValueN.{ValueN}
use Rattle.net_meaning.specs.declared.value.ValueN.TheVariants as n
use Rattle.net_meaning.specs.ValueMatch.{Matches}
use Rattle.run_base.specs.Outcomes.{gives, found}
use Rattle.run_base.specs.Positions.{Position, inner}
use Rattle.vb6_run.specs.Shapes.{Shape, simple, group, array, endless, Shapes, no_shapes, next_shape}
use Rattle.vb6_run.specs.Store.{root, single, value_if, single_in, fields_from, both_from, gathered, all_gathered}
use Rattle.vb6_run.specs.Values.{Value, scalar, fields, Values, no_values, next_value}
use Rattle.net_run.specs.Shapes as shape
use Rattle.net_run.specs.Store as net
use Rattle.net_run.specs.Values as net_value
use Rattle.run_matches.specs.Kinds.{IsKind, IsValueOf, AreValuesOf}
use Rattle.run_matches.specs.Upgrades.{Upgrade, is_flagged_field, is_flagged_some}
use Rattle.run_matches.specs.Maps.{World, IsMatched, moved_at}
use Rattle.run_matches.specs.Match.{Holds, holds_single, MemoryMatch}
use Rattle.run_matches.specs.Likeness.{SameShape, same_scalar, same_class, same_group, SameFields, no_fields, same_field, flagged_field, LikeV, like_scalar, like_fields, FieldsLike, like_none, like_field, IsFieldRanked, are_same, numbers_of}
use Rattle.run_matches.specs.Pledges.{type_of_shape}
use Rattle.run_matches.specs.Addresses.{AllMatched, FieldsMatched, Same, same_root}
use Rattle.run_matches.specs.Agreeing.{Agrees}
use Rattle.run_matches.specs.SoundShapes.{IsField, IsSoundShape, AreSoundShapes}
use Rattle.run_statements.specs.Groups.{ValueMatch, GroupsAreRead}
use Rattle.agreeing_laws.proofs.Agreeing.{agrees_gives}
use Rattle.memory_laws.proofs.Scalars.{scalar_is_no_array}
use Rattle.memory_laws.proofs.SimpleShapes.{type_itself}

-- what is no array has no rank
pub unranked : (U : Upgrade) (w : World) (t k : ℕ) (y : ValueN) → ((j : ℕ) → y ≡ n.Array j → ⊥) → IsFieldRanked U (numbers_of w) t k (net_value.single y)
unranked U w t k (n.Array j) x = absurd (x j refl)
unranked U w t k _ x = tt

-- a declared field carries no issue
pub field_sound : (U : Upgrade) (t k : ℕ) (ty : Ty) → IsField U t k ty → is_flagged_field U t k ≡ false
field_sound U t k ty f = ap (is_flagged_some U) f.declares ∙ f.sound

pub unflagged : {A : Type 0} → (b : Bool) → b ≡ false → (b ≡ true) ⊎ A → A
unflagged b f (inl e) = absurd (true≢false (sym e ∙ f))
unflagged b f (inr a) = a

-- ---- what is gathered

-- what stands in a variable of a shape, and what stands for it
pub record Gathered (U : Upgrade) (w : World) (s : Shape) (q : Position) (y : net_value.Value) : Type 0 where
  pub value : Value
  pub is : gathered s q w.src.held ≡ Some value
  pub of : IsValueOf s value
  pub like : LikeV U w value y
  pub ranked : (t k : ℕ) → IsFieldRanked U (numbers_of w) t k y

pub record GatheredAll (U : Upgrade) (w : World) (t k : ℕ) (fs : Shapes) (q : Position) (ys : net_value.Values) : Type 0 where
  pub values : Values
  pub are : all_gathered fs q k w.src.held ≡ Some values
  pub of : AreValuesOf fs values
  pub like : FieldsLike U (numbers_of w) t k values ys

module _ (U : Upgrade) (w : World) (h : MemoryMatch U w) where
  abbrev Standing : Ty → Value6 → net.Cell → Type 0
  Standing ty z c = (y : ValueN) × (c ≡ net.holds y) × Matches (are_same w) ty z y

  standing : (ty : Ty) (z : Value6) (c : net.Cell) → Holds U w (single ty z) c → Standing ty z c
  standing ty z _ (holds_single _ _ y m) = (y, refl, m)

  single_gathered : (ty : Ty) (q : Position) → IsMatched U w q → IsKind (simple ty) (w.src.held q)
      → Gathered U w (simple ty) q (net.held (w.net.cell (moved_at U w.map q)))
  single_gathered ty q m i =
      let l : Standing ty i.0 (w.net.cell (moved_at U w.map q)) =
      standing ty i.0 (w.net.cell (moved_at U w.map q)) (subst (λ x. Holds U w x (w.net.cell (moved_at U w.map q))) i.1 (h.stores.values q m)) in
      record {
        value = scalar ty i.0;
        is = ap (single_in ty) i.1 ∙ ap (λ b. value_if b (scalar ty i.0)) (type_itself ty);
        of = refl;
        like = subst (λ x. LikeV U w (scalar ty i.0) (net.held x)) (sym l.1) (like_scalar ty i.0 l.0 l.2);
        ranked = λ u k.
            subst (λ x. IsFieldRanked U (numbers_of w) u k (net.held x)) (sym l.1)
            (unranked U w u k l.0 (λ j f. scalar_is_no_array (are_same w) ty i.0 l.0 l.2 j (ap net.holds f)));
      }

  simple_gathered : (ty : Ty) (q : Position) (d : shape.Shape) → SameShape U (simple ty) d → IsMatched U w q → IsKind (simple ty) (w.src.held q)
      → Gathered U w (simple ty) q (net.gathered d (moved_at U w.map q) w.net.cell)
  simple_gathered _ q _ (same_scalar ty t e) m i = single_gathered ty q m i
  simple_gathered _ q _ (same_class k home e) m i = single_gathered (class k) q m i

  group_gathered : (t : ℕ) (fs : Shapes) (q : Position) (ys : net_value.Values) → GatheredAll U w t 0 fs q ys
      → Gathered U w (group t fs) q (net_value.fields ys)
  group_gathered t fs q ys x = record {
    value = fields t x.values;
    is = ap (fields_from t) x.are;
    of = (refl, x.of);
    like = like_fields t x.values ys x.like;
    ranked = λ u k. tt;
  }

  next_gathered : (t k : ℕ) (s : Shape) (rest : Shapes) (q : Position) (y : net_value.Value) (ys : net_value.Values) → Gathered U w s (inner q k) y
      → GatheredAll U w t (suc k) rest q ys → GatheredAll U w t k (next_shape s rest) q (net_value.next_value y ys)
  next_gathered t k s rest q y ys one all = record {
    values = next_value one.value all.values;
    are =
        ap (λ o. both_from o (all_gathered rest q (suc k) w.src.held)) one.is ∙ ap (both_from (Some one.value)) all.are;
    of = (one.of, all.of);
    like = like_field t k one.value y all.values ys one.like (one.ranked t k) all.like;
  }

  mutual
    pub gathered_like : (s : Shape) (q : Position) (d : shape.Shape) → IsSoundShape U s → SameShape U s d → AllMatched U w s q
        → Gathered U w s q (net.gathered d (moved_at U w.map q) w.net.cell)
    gathered_like (simple ty) q d c sh m = simple_gathered ty q d sh m.0 m.1
    gathered_like (group t fs) q _ c (same_group _ home member _ gs is sh) m =
        group_gathered t fs q (net.all_gathered gs (moved_at U w.map q) 0 w.net.cell) (all_gathered_like t 0 fs q gs c sh m.2)
    gathered_like (array e bounds) q d c sh m = absurd c
    gathered_like endless q d c sh m = absurd c

    all_gathered_like : (t k : ℕ) (fs : Shapes) (q : Position) (gs : shape.Fields) → AreSoundShapes U t k fs → SameFields U t k fs gs
        → FieldsMatched U w t k fs q → GatheredAll U w t k fs q (net.all_gathered gs (moved_at U w.map q) k w.net.cell)
    all_gathered_like t k no_shapes q _ c (no_fields _ _) m = record { values = no_values; are = refl; of = tt; like = like_none t k }
    all_gathered_like t k (next_shape s rest) q _ c (same_field _ _ _ d _ others sh ranked more) m =
        next_gathered t k s rest q (net.gathered d (inner (moved_at U w.map q) k) w.net.cell)
        (net.all_gathered others (moved_at U w.map q) (suc k) w.net.cell)
        (gathered_like s (inner q k) d c.1 sh (unflagged (is_flagged_field U t k) (field_sound U t k (type_of_shape s) c.0) m.0)) (all_gathered_like t (suc k) rest q others c.2 more m.1)
    all_gathered_like t k (next_shape s rest) q _ c (flagged_field _ _ _ d _ others flagged more) m = absurd (true≢false (sym flagged ∙ field_sound U t k (type_of_shape s) c.0))

pub groups_are_read : (U : Upgrade) → GroupsAreRead U
groups_are_read U K w s q _ c h (same_root _ d _ sh m r) =
    let g : Gathered U w s q (net.gathered d (moved_at U w.map q) w.net.cell) = gathered_like U w h s q d c sh m in
    subst (λ o. Agrees U K w (ValueMatch U s) (found o w.src) (gives [] (net.gathered d (moved_at U w.map q) w.net.cell) w.net)) (sym g.is)
    (agrees_gives U K w (ValueMatch U s) g.value (net.gathered d (moved_at U w.map q) w.net.cell) h (g.of, g.like))
