-- Scalars and objects that match go on to match.
use Rattle.std.proofs.Common.{◌≡◌, ◌∙◌, refl, sym, ap, subst, ℕ, Bool, true, false, ◌&&◌, nat_eq, Option, Some, None, option_map, true≢false, ltb-true, lt-ltb}
use Rattle.std.specs.Prelude.{nat_lt}
use Rattle.vb_tree.specs.BoundTree.{Ty}
use Rattle.vb_tree.specs.declared.value.Value6.{Value6}
use Rattle.net_meaning.specs.declared.value.ValueN.{ValueN}
use Rattle.net_meaning.specs.ValueMatch.{Matches, booleans, bytes, integers, longs, currencies, texts, empty_text, fixed_texts, no_object, no_object_of, nothing, objects, objects_of, in_variant_empty, in_variant_boolean, in_variant_byte, in_variant_integer, in_variant_long, in_variant_currency, in_variant_text}
use Rattle.vb6_run.specs.Values.{scalar}
use Rattle.net_run.specs.Values as net
use Rattle.run_matches.specs.Upgrades.{Upgrade}
use Rattle.run_matches.specs.Maps.{World, Extends, Below, mark}
use Rattle.run_matches.specs.Likeness.{LikeV, like_scalar, are_same}
use Rattle.run_matches.specs.Pledges.{Pledge, Later}
use Rattle.run_matches.specs.Runs.{IsObject}
use Rattle.agreeing_laws.proofs.Made.{more}

pub matches_more : (r t : ℕ → ℕ → Bool) → ((i j : ℕ) → r i j ≡ true → t i j ≡ true) → (ty : Ty) (x : Value6) (y : ValueN) → Matches r ty x y → Matches t ty x y
matches_more r t f _ _ _ (booleans b) = booleans b
matches_more r t f _ _ _ (bytes m e) = bytes m e
matches_more r t f _ _ _ (integers z e) = integers z e
matches_more r t f _ _ _ (longs z e) = longs z e
matches_more r t f _ _ _ (currencies z m s e d) = currencies z m s e d
matches_more r t f _ _ _ (texts units) = texts units
matches_more r t f _ _ _ empty_text = empty_text
matches_more r t f _ _ _ (fixed_texts units) = fixed_texts units
matches_more r t f _ _ _ no_object = no_object
matches_more r t f _ _ _ (no_object_of k) = no_object_of k
matches_more r t f _ _ _ nothing = nothing
matches_more r t f _ _ _ (objects i j e) = objects i j (f i j e)
matches_more r t f _ _ _ (objects_of k i j e) = objects_of k i j (f i j e)
matches_more r t f _ _ _ in_variant_empty = in_variant_empty
matches_more r t f _ _ _ (in_variant_boolean b) = in_variant_boolean b
matches_more r t f _ _ _ (in_variant_byte m e) = in_variant_byte m e
matches_more r t f _ _ _ (in_variant_integer z e) = in_variant_integer z e
matches_more r t f _ _ _ (in_variant_long z e) = in_variant_long z e
matches_more r t f _ _ _ (in_variant_currency z m s e d) = in_variant_currency z m s e d
matches_more r t f _ _ _ (in_variant_text units) = in_variant_text units

both : (a b c d : Bool) → (a ≡ true → c ≡ true) → (a ≡ true → b ≡ true → d ≡ true) → (a && b) ≡ true → (c && d) ≡ true
both true b c d f g e = subst (λ z. (z && d) ≡ true) (sym (f refl)) (g refl e)
both false b c d f g e = absurd (true≢false (sym e))

pub same_later : (w0 w1 : World) → Extends w0 w1 → Below (mark w0.src) (mark w1.src) → (i j : ℕ) → are_same w0 i j ≡ true → are_same w1 i j ≡ true
same_later w0 w1 x g i j e =
    both (nat_lt i w0.src.next_object) (nat_eq (w0.map.objects i) j) (nat_lt i w1.src.next_object) (nat_eq (w1.map.objects i) j)
    (λ z. lt-ltb i w1.src.next_object (more i w0.src.next_object w1.src.next_object g.objects (ltb-true i w0.src.next_object z)))
    (λ z same. ap (λ o. nat_eq o j) (x.same_objects i (ltb-true i w0.src.next_object z)) ∙ same) e

pub scalar_later : (U : Upgrade) (K : Pledge) (w0 w1 : World) (ty : Ty) (x : Value6) (y : net.Value) → Later U K w0 w1 → LikeV U w0 (scalar ty x) y
    → LikeV U w1 (scalar ty x) y
scalar_later U K w0 w1 _ _ _ l (like_scalar ty x y h) = like_scalar ty x y (matches_more (are_same w0) (are_same w1) (same_later w0 w1 l.extends l.grows) ty x y h)

-- the object of a call is mapped as it was
pub object_later : (w0 w1 : World) (me : Option ℕ) → Extends w0 w1 → IsObject w0 me → option_map w1.map.objects me ≡ option_map w0.map.objects me
object_later w0 w1 None x h = refl
object_later w0 w1 (Some o) x h = ap (λ z. Some z) (x.same_objects o h)
