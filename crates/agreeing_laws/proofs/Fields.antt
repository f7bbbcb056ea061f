-- The image of a field of a user type is the field of its image, by its name.
use Rattle.std.proofs.Common.{◌≡◌, ◌⊎◌, inl, inr, refl, sym, ap, subst, ◌∙◌, ℕ, ◌<◌, ◌≤◌, zero, suc, ◌+◌, Bool, true, false, cond, List, Option, Some, None, true≢false, arith}
use Rattle.up_base.specs.Names.{is_same_name}
use Rattle.run_base.specs.Positions.{Position, inner}
use Rattle.vb6_run.specs.Shapes.{Shape, group, Shapes, no_shapes, next_shape, shape_at}
use Rattle.vb6_run.specs.Store.{root}
use Rattle.net_run.specs.Shapes as shape
use Rattle.net_run.specs.Shapes.{field_named}
use Rattle.net_run.specs.Store as net
use Rattle.run_matches.specs.Upgrades.{Upgrade, is_flagged_field, field_name}
use Rattle.run_matches.specs.Maps.{World, moved_at}
use Rattle.run_matches.specs.Likeness.{SameShape, SameFields, same_group, no_fields, same_field, flagged_field}
use Rattle.run_matches.specs.Pledges.{Pledge}
use Rattle.run_matches.specs.Addresses.{AllMatched, FieldsMatched, AllRanked, FieldsRanked, Same, same_root}

-- the number of a field at a place among those that are numbered from i
abbrev pub counted : (i place : ℕ) → ℕ
counted i zero = i
counted i (suc k) = counted (suc i) k

over_one : (i k : ℕ) → suc i + k ≡ i + suc k
over_one i k = omega arith

over_none : (i : ℕ) → i ≡ i + 0
over_none i = omega arith

counted_is : (i k : ℕ) → counted i k ≡ i + k
counted_is i zero = over_none i
counted_is i (suc k) = counted_is (suc i) k ∙ over_one i k

none_over : (k n : ℕ) → n ≡ 0 + k → n ≡ k
none_over k n e = omega arith

pub counted_from_first : (k : ℕ) → counted 0 k ≡ k
counted_from_first k = none_over k (counted 0 k) (counted_is 0 k)

above : (i k n : ℕ) → n ≡ suc i + k → i < n
above i k n e = omega arith

below_counted : (i k : ℕ) → i < counted (suc i) k
below_counted i k = above i k (counted (suc i) k) (counted_is (suc i) k)

less : (i : ℕ) → i ≤ i
less i = omega arith

step : (i j : ℕ) → suc i ≤ j → i ≤ j
step i j x = omega arith

-- ---- one field

-- the field of a number is compared, and the written one has its name, of fields that are numbered from i
pub record FieldImage (U : Upgrade) (w : World) (t i n : ℕ) (s : Shape) (gs : shape.Fields) (q : Position) : Type 0 where
  pub shape : shape.Shape
  pub found : field_named (field_name U t n) i gs ≡ Some (n, shape)
  pub same : SameShape U s shape
  pub matched : AllMatched U w s (inner q n)
  pub ranked : AllRanked U w s shape (inner q n)

-- no field from i on, before the one of a number, has its name
abbrev pub IsFirstNamed : Upgrade → (user_type i number : ℕ) → Type 0
IsFirstNamed U t i n = (j : ℕ) → i ≤ j → j < n → is_same_name (field_name U t j) (field_name U t n) ≡ false

module _ (U : Upgrade) (w : World) (t : ℕ) (q : Position) (itself : (name : List ℕ) → is_same_name name name ≡ true) where
  from_shape : (a b : Shape) → Some a ≡ Some b → a ≡ b
  from_shape a b e = cc

  unflagged : {A : Type 0} → (b : Bool) → b ≡ false → (b ≡ true) ⊎ A → A
  unflagged b f (inl e) = absurd (true≢false (sym e ∙ f))
  unflagged b f (inr a) = a

  this_field : (i : ℕ) (r : Shape) (d : shape.Shape) (others : shape.Fields) → SameShape U r d → AllMatched U w r (inner q i)
      → AllRanked U w r d (inner q i) → FieldImage U w t i i r (shape.next_field (field_name U t i) d others) q
  this_field i r d others sh m k = record {
    shape = d;
    found = ap (λ b. cond b (Some (i, d)) (field_named (field_name U t i) (suc i) others)) (itself (field_name U t i));
    same = sh;
    matched = m;
    ranked = k;
  }

  later_field : (i n : ℕ) (s : Shape) (d : shape.Shape) (others : shape.Fields) → is_same_name (field_name U t i) (field_name U t n) ≡ false
      → FieldImage U w t (suc i) n s others q → FieldImage U w t i n s (shape.next_field (field_name U t i) d others) q
  later_field i n s d others e x = record {
    shape = x.shape;
    found = ap (λ b. cond b (Some (i, d)) (field_named (field_name U t n) (suc i) others)) e ∙ x.found;
    same = x.same;
    matched = x.matched;
    ranked = x.ranked;
  }

  pub field_image : (i k : ℕ) (s : Shape) (fs : Shapes) (gs : shape.Fields) → SameFields U t i fs gs → FieldsMatched U w t i fs q
      → FieldsRanked U w t i fs gs q → shape_at fs k ≡ Some s → is_flagged_field U t (counted i k) ≡ false → IsFirstNamed U t i (counted i k)
      → FieldImage U w t i (counted i k) s gs q
  field_image i k s _ _ (no_fields _ _) m r e f first = cc
  field_image i zero s _ _ (same_field _ _ z d rest others sh ranked more) m r e f first =
      subst (λ x. FieldImage U w t i i x (shape.next_field (field_name U t i) d others) q) (from_shape z s e)
      (this_field i z d others sh (unflagged (is_flagged_field U t i) f m.0) (unflagged (is_flagged_field U t i) f r.0))
  field_image i (suc k) s _ _ (same_field _ _ z d rest others sh ranked more) m r e f first =
      later_field i (counted (suc i) k) s d others (first i (less i) (below_counted i k))
      (field_image (suc i) k s rest others more m.1 r.1 e f (λ j le lt. first j (step i j le) lt))
  field_image i zero s _ _ (flagged_field _ _ z d rest others flagged more) m r e f first = absurd (true≢false (sym flagged ∙ f))
  field_image i (suc k) s _ _ (flagged_field _ _ z d rest others flagged more) m r e f first =
      later_field i (counted (suc i) k) s d others (first i (less i) (below_counted i k))
      (field_image (suc i) k s rest others more m.1 r.1 e f (λ j le lt. first j (step i j le) lt))

-- ---- addresses

-- what is known of a variable of a user type and its image
pub record GroupImage (U : Upgrade) (w : World) (t : ℕ) (fs : Shapes) (b : net.Address) (q : Position) : Type 0 where
  pub home : ℕ
  pub member : ℕ
  pub written : shape.Fields
  pub stands : b ≡ net.root (shape.structured home member written) (moved_at U w.map q)
  pub same : SameFields U t 0 fs written
  pub matched : FieldsMatched U w t 0 fs q
  pub ranked : FieldsRanked U w t 0 fs written q

-- the images of a field, which is found by its name
pub record SameField (U : Upgrade) (K : Pledge) (w : World) (t k : ℕ) (s : Shape) (gs : shape.Fields) (q : Position) : Type 0 where
  pub shape : shape.Shape
  pub found : field_named (field_name U t k) 0 gs ≡ Some (k, shape)
  pub same : Same U K w (root s (inner q k)) (net.root shape (inner (moved_at U w.map q) k))

abbrev kept_image : (U : Upgrade) (K : Pledge) (w : World) (t n : ℕ) (s : Shape) (gs : shape.Fields) (q : Position) → FieldImage U w t 0 n s gs q
    → SameField U K w t n s gs q
kept_image U K w t n s gs q x = record { shape = x.shape; found = x.found; same = same_root s x.shape (inner q n) x.same x.matched x.ranked }

-- from the images of a user type to those of a field whose declaration carries no issue
pub same_of_field : (U : Upgrade) (K : Pledge) (w : World) (t k : ℕ) (s : Shape) (fs : Shapes) (gs : shape.Fields) (q : Position)
    → ((name : List ℕ) → is_same_name name name ≡ true) → SameFields U t 0 fs gs → FieldsMatched U w t 0 fs q → FieldsRanked U w t 0 fs gs q
    → shape_at fs k ≡ Some s → is_flagged_field U t k ≡ false → IsFirstNamed U t 0 k → SameField U K w t k s gs q
same_of_field U K w t k s fs gs q itself sh m r e f first =
    kept_image U K w t k s gs q
    (subst (λ n. FieldImage U w t 0 n s gs q) (counted_from_first k)
    (field_image U w t q itself 0 k s fs gs sh m r e
    (subst (λ n. is_flagged_field U t n ≡ false) (sym (counted_from_first k)) f)
    (subst (λ n. IsFirstNamed U t 0 n) (sym (counted_from_first k)) first)))

pub group_parts : (U : Upgrade) (K : Pledge) (w : World) (t : ℕ) (fs : Shapes) (d : shape.Shape) (q : Position) → SameShape U (group t fs) d
    → AllMatched U w (group t fs) q → AllRanked U w (group t fs) d q → GroupImage U w t fs (net.root d (moved_at U w.map q)) q
group_parts U K w _ _ _ q (same_group t home member fs gs is sh) m r =
    record { home = home; member = member; written = gs; stands = refl; same = sh; matched = m.2; ranked = r }
