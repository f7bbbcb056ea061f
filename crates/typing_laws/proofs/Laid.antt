-- Places of all shapes as they are made: what is laid changes nothing elsewhere, and fills the place with its parts.
use Rattle.std.proofs.Common.{◌≡◌, inl, inr, refl, sym, ap, ◌∙◌, subst, ℕ, suc, ◌+◌, ◌≤◌, ◌<◌, Bool, true, false, cond, ◌&&◌, nat_eq, eqb-true, true≢false, List, [], ◌∷◌, ◌++◌, append_assoc, length, Some, arith}
use Rattle.std.proofs.lemmas.List.{length-append}
use Rattle.std.specs.Prelude.{slice_get}
use Rattle.vb_tree.specs.BoundTree as types
use Rattle.vb_tree.specs.BoundTree.{Ty}
use Rattle.vb_tree.specs.declared.declared.VarId.{VarId}
use Rattle.bound_tree.specs.Tree.{Declarations, Variable}
use Rattle.bound_facts.specs.Node.{is_array_type}
use Rattle.run_base.specs.Positions.{Root, shared, made, field, Position, inner, is_same_path, is_same_position, is_same_root, updated, whole}
use Rattle.vb6_run.specs.Shapes.{Shape, simple, group, array, endless, Shapes, no_shapes, next_shape, variable_shape}
use Rattle.vb6_run.specs.Store.{Held, Memory, all_laid, blank, laid, parts, single, with_held}
use Rattle.vb6_run.specs.Values.{first_scalar, is_makeable}
use Rattle.run_matches.specs.Maps.{IsMade, mark}
use Rattle.run_matches.specs.Pledges.{type_of_shape}
use Rattle.typing_laws.specs.Frames.{AreInside, Fills, Ground, Inside, IsPartOf, IsUnlaid, Keeps, MayStand, Stands, is_static, shared_place}
use Rattle.typing_laws.specs.Flat.{is_flat}
use Rattle.run_matches.specs.UserTypes.{is_user}
use Rattle.typing_laws.specs.Plain.{AreShapesOf, Holds, IsShapeOf, array_shape, holds_parts, holds_scalar, next_field, no_fields, scalar_shape, user_shape}
use Rattle.typing_laws.proofs.Made.{first_held, first_of_variable, laid_is, shape_of_variable}
use Rattle.typing_laws.proofs.Places.{at, held_blank, keeps_new, keeps_where, root_same, same_position, same_root, self_same, some_is, static_where}
use Rattle.typing_laws.proofs.Plain.{first_plain}
use Rattle.typing_laws.proofs.UserTypes.{shape_type}

-- ---- paths

-- the field by which a path leads on from an outer one
same_field : (xs ys p : List ℕ) (j k : ℕ) → xs ++ (j ∷ p) ≡ ys ++ (k ∷ p) → j ≡ k
same_field [] [] p j k e = cc
same_field [] (y ∷ ys) p j k e = absurd (too_long (ap length e ∙ ap suc (length-append ys (k ∷ p))))
  where
    too_long : suc (length p) ≡ suc (length ys + suc (length p)) → ⊥
    too_long f = omega arith
same_field (x ∷ xs) [] p j k e = absurd (too_long (sym (ap length e) ∙ ap suc (length-append xs (j ∷ p))))
  where
    too_long : suc (length p) ≡ suc (length xs + suc (length p)) → ⊥
    too_long f = omega arith
same_field (x ∷ xs) (y ∷ ys) p j k e = same_field xs ys p j k (tail_is e)
  where
    tail_is : x ∷ (xs ++ (j ∷ p)) ≡ y ∷ (ys ++ (k ∷ p)) → xs ++ (j ∷ p) ≡ ys ++ (k ∷ p)
    tail_is f = cc

not_outer : (xs p : List ℕ) (k : ℕ) → xs ++ (k ∷ p) ≡ p → ⊥
not_outer xs p k e = too_long (sym (ap length e) ∙ length-append xs (k ∷ p))
  where
    too_long : length p ≡ length xs + suc (length p) → ⊥
    too_long f = omega arith

-- ---- positions

-- the part of a position at a path of fields
abbrev pub part : Position → List ℕ → Position
part q path = at q.root (path ++ q.path)

-- no part of a position is another one
abbrev pub Apart : Position → Position → Type 0
Apart q p = (path : List ℕ) → part q path ≡ p → ⊥

-- nor is a part of a field of it, from one on
abbrev pub ApartFrom : Position → (field : ℕ) → Position → Type 0
ApartFrom q k p = (j : ℕ) → k ≤ j → Apart (inner q j) p

path_of : (p q : Position) → p ≡ q → p.path ≡ q.path
path_of p q e = ap (λ (z : Position). z.path) e

apart_inner : (q p : Position) (k : ℕ) → Apart q p → Apart (inner q k) p
apart_inner q p k a path e = a (path ++ (k ∷ [])) (ap (at q.root) (append_assoc path (k ∷ []) q.path) ∙ e)

apart_all : (q p : Position) (k : ℕ) → Apart q p → ApartFrom q k p
apart_all q p k a j le = apart_inner q p j a

not_same : (k j : ℕ) → suc k ≤ j → j ≡ k → ⊥
not_same k j le e = omega arith

up_one : (k j : ℕ) → suc k ≤ j → k ≤ j
up_one k j le = omega arith

self_le : (k : ℕ) → k ≤ k
self_le k = omega arith

apart_later : (q p : Position) (k : ℕ) → ApartFrom q k p → ApartFrom q (suc k) p
apart_later q p k a j le = a j (up_one k j le)

whole_apart : (q : Position) (k : ℕ) → ApartFrom q k q
whole_apart q k j le path e = not_outer path q.path j (path_of (part (inner q j) path) q e)

-- a part of a field is apart from those behind it
field_apart : (q : Position) (k : ℕ) (path : List ℕ) → ApartFrom q (suc k) (part (inner q k) path)
field_apart q k path j le rest e =
    not_same k j le (same_field rest path q.path j k (path_of (part (inner q j) rest) (part (inner q k) path) e))

-- nor is one of another root
pub root_apart : (q p : Position) → (q.root ≡ p.root → ⊥) → Apart q p
root_apart q p o path e = o (ap (λ (z : Position). z.root) e)

-- ---- what is laid elsewhere

put_apart : (q r : Position) (h : Held) (w : Memory) → Apart q r → (with_held q h w).held r ≡ w.held r
put_apart q r h w apart = by (is_same_position q r) refl
  where
    by : (b : Bool) → is_same_position q r ≡ b → updated w.held q h r ≡ w.held r
    by true e = absurd (apart [] (same_position q r e))
    by false e = ap (λ b. cond b h (w.held r)) e

put_here : (q : Position) (h : Held) (w : Memory) → (with_held q h w).held q ≡ h
put_here q h w = ap (λ b. cond b h (w.held q)) (self_same q)

mutual
  pub laid_apart : (s : Shape) (q r : Position) (w : Memory) → Apart q r → (laid s q w).held r ≡ w.held r
  laid_apart (simple ty) q r w apart = put_apart q r (single ty (first_scalar ty)) w apart
  laid_apart (group t fs) q r w apart = all_laid_apart fs q 0 r (with_held q parts w) (apart_all q r 0 apart) ∙ put_apart q r parts w apart
  laid_apart (array e bounds) q r w apart = put_apart q r _ w apart
  laid_apart endless q r w apart = refl

  all_laid_apart : (fs : Shapes) (q : Position) (k : ℕ) (r : Position) (w : Memory) → ApartFrom q k r → (all_laid fs q k w).held r ≡ w.held r
  all_laid_apart no_shapes q k r w apart = refl
  all_laid_apart (next_shape s rest) q k r w apart =
      all_laid_apart rest q (suc k) r (laid s (inner q k) w) (apart_later q r k apart) ∙ laid_apart s (inner q k) r w (apart k (self_le k))

-- nothing else changes
pub record IsLaidIn (w u : Memory) : Type 0 where
  pub next : u.next ≡ w.next
  pub objects : u.next_object ≡ w.next_object
  pub classes : u.class_of ≡ w.class_of

laid_then : (w v u : Memory) → IsLaidIn w v → IsLaidIn v u → IsLaidIn w u
laid_then w v u h k = record { next = k.next ∙ h.next; objects = k.objects ∙ h.objects; classes = k.classes ∙ h.classes }

mutual
  pub laid_in : (s : Shape) (q : Position) (w : Memory) → IsLaidIn w (laid s q w)
  laid_in (simple ty) q w = record { next = refl; objects = refl; classes = refl }
  laid_in (group t fs) q w =
      let l : IsLaidIn (with_held q parts w) (all_laid fs q 0 (with_held q parts w)) = all_laid_in fs q 0 (with_held q parts w) in
      record { next = l.next; objects = l.objects; classes = l.classes }
  laid_in (array e bounds) q w = record { next = refl; objects = refl; classes = refl }
  laid_in endless q w = record { next = refl; objects = refl; classes = refl }

  all_laid_in : (fs : Shapes) (q : Position) (k : ℕ) (w : Memory) → IsLaidIn w (all_laid fs q k w)
  all_laid_in no_shapes q k w = record { next = refl; objects = refl; classes = refl }
  all_laid_in (next_shape s rest) q k w =
      laid_then w (laid s (inner q k) w) (all_laid rest q (suc k) (laid s (inner q k) w)) (laid_in s (inner q k) w)
      (all_laid_in rest q (suc k) (laid s (inner q k) w))

-- ---- what is held inside

abbrev mutual
  pub HoldsInside : (Position → Held) → Shape → Position → Type 0
  HoldsInside h (simple ty) q = Unit {0}
  HoldsInside h (group t fs) q = AllHoldInside h fs q 0
  HoldsInside h (array e bounds) q = Unit {0}
  HoldsInside h endless q = Unit {0}

  pub AllHoldInside : (Position → Held) → Shapes → Position → (field : ℕ) → Type 0
  AllHoldInside h no_shapes q k = Unit {0}
  AllHoldInside h (next_shape s rest) q k = Holds (type_of_shape s) (h (inner q k)) × HoldsInside h s (inner q k) × AllHoldInside h rest q (suc k)

inner_same : (q : Position) (k : ℕ) (g h : Position → Held) → ((path : List ℕ) → h (part q path) ≡ g (part q path)) → (path : List ℕ)
    → h (part (inner q k) path) ≡ g (part (inner q k) path)
inner_same q k g h same path =
    subst (λ z. h (at q.root z) ≡ g (at q.root z)) (append_assoc path (k ∷ []) q.path) (same (path ++ (k ∷ [])))

mutual
  inside_as : (s : Shape) (q : Position) (g h : Position → Held) → ((path : List ℕ) → h (part q path) ≡ g (part q path)) → HoldsInside g s q → HoldsInside h s q
  inside_as (simple ty) q g h same k = tt
  inside_as (group t fs) q g h same k = all_inside_as fs q 0 g h same k
  inside_as (array e bounds) q g h same k = tt
  inside_as endless q g h same k = tt

  all_inside_as : (fs : Shapes) (q : Position) (i : ℕ) (g h : Position → Held) → ((path : List ℕ) → h (part q path) ≡ g (part q path))
      → AllHoldInside g fs q i → AllHoldInside h fs q i
  all_inside_as no_shapes q i g h same k = tt
  all_inside_as (next_shape s rest) q i g h same k = (
    subst (λ z. Holds (type_of_shape s) z) (sym (same (i ∷ []))) k.0,
    inside_as s (inner q i) g h (inner_same q i g h same) k.1,
    all_inside_as rest q (suc i) g h same k.2,
  )

module _ (D : Declarations) where
  mutual
    pub laid_holds : (ty : Ty) (s : Shape) → IsShapeOf D ty s → is_array_type ty ≡ false → (q : Position) (w : Memory)
        → Holds ty ((laid s q w).held q) × HoldsInside ((laid s q w).held) s q
    laid_holds _ _ (scalar_shape ty c) flat q w =
        (subst (λ z. Holds ty z) (sym (put_here q (single ty (first_scalar ty)) w)) (holds_scalar ty (first_scalar ty) (first_plain ty c)), tt)
    laid_holds _ _ (array_shape e rank bounds c) flat q w = absurd (true≢false flat)
    laid_holds _ _ (user_shape t d fs is of) flat q w = (
      subst (λ z. Holds (types.user t) z) (sym (all_laid_apart fs q 0 q (with_held q parts w) (whole_apart q 0) ∙ put_here q parts w)) (holds_parts t),
      all_hold d.fields fs of q 0 (with_held q parts w),
    )

    all_hold : (vs : List VarId) (fs : Shapes) → AreShapesOf D vs fs → (q : Position) (k : ℕ) (w : Memory) → AllHoldInside ((all_laid fs q k w).held) fs q k
    all_hold _ _ no_fields q k w = tt
    all_hold _ _ (next_field v vs x s fs is flat of rest) q k w =
        let v1 : Memory = laid s (inner q k) w in
        let u : Memory = all_laid fs q (suc k) v1 in
        let one = laid_holds x.ty s of flat (inner q k) w in
        let same = λ (path : List ℕ). all_laid_apart fs q (suc k) (part (inner q k) path) v1 (field_apart q k path) in (
          subst (λ z. Holds (type_of_shape s) z) (sym (same [])) (subst (λ t. Holds t (v1.held (inner q k))) (sym (shape_type D x.ty s of flat)) one.0),
          inside_as s (inner q k) v1.held u.held same one.1,
          all_hold vs fs rest q (suc k) v1,
        )

-- ---- what stands inside

mutual
  inside_of : (K : Ground) (u : Memory) (r : Root) → IsMade (mark u) r → ((path : List ℕ) → K.footprint (at r path) ≡ true) → (s : Shape) (path : List ℕ)
      → HoldsInside u.held s (at r path) → Inside K u s (at r path)
  inside_of K u r m allowed (simple ty) path h = tt
  inside_of K u r m allowed (group t fs) path h = all_inside_of K u r m allowed fs path 0 h
  inside_of K u r m allowed (array e bounds) path h = tt
  inside_of K u r m allowed endless path h = tt

  all_inside_of : (K : Ground) (u : Memory) (r : Root) → IsMade (mark u) r → ((path : List ℕ) → K.footprint (at r path) ≡ true) → (fs : Shapes) (path : List ℕ)
      (k : ℕ) → AllHoldInside u.held fs (at r path) k → AreInside K u fs (at r path) k
  all_inside_of K u r m allowed no_shapes path k h = tt
  all_inside_of K u r m allowed (next_shape s rest) path k h = (
    record { holds = h.0; made = m; allowed = allowed (k ∷ path) },
    inside_of K u r m allowed s (k ∷ path) h.1,
    all_inside_of K u r m allowed rest path (suc k) h.2,
  )

-- a variable of a user type that is laid at a root
pub user_filled : (K : Ground) (t : ℕ) (s : Shape) (r : Root) (w : Memory) → IsShapeOf K.declarations (types.user t) s → IsMade (mark w) r
    → ((path : List ℕ) → K.footprint (at r path) ≡ true) → Fills K (laid s (whole r) w) (whole r) (types.user t) s
user_filled K t s r w shape m allowed =
    let h = laid_holds K.declarations (types.user t) s shape refl (whole r) w in
    let l : IsLaidIn w (laid s (whole r) w) = laid_in s (whole r) w in
    let there : IsMade (mark (laid s (whole r) w)) r = made_as w (laid s (whole r) w) l r m in
    (record { holds = h.0; made = there; allowed = allowed [] }, inside_of K (laid s (whole r) w) r there allowed s [] h.1)
  where
    made_as : (w u : Memory) → IsLaidIn w u → (r : Root) → IsMade (mark w) r → IsMade (mark u) r
    made_as w u l (shared k) m = tt
    made_as w u l (made n) m = subst (λ z. n < z) (sym l.next) m
    made_as w u l (field o k) m = subst (λ z. o < z) (sym l.objects) m

-- a new place of any shape
pub keeps_laid : (K : Ground) (w : Memory) (s : Shape) → Keeps K w (laid s (whole (made w.next)) (record w { next = suc w.next }))
keeps_laid K w s =
    let w1 : Memory = record w { next = suc w.next } in
    let l : IsLaidIn w1 (laid s (whole (made w.next)) w1) = laid_in s (whole (made w.next)) w1 in
    keeps_new K w (laid s (whole (made w.next)) w1)
    (λ q e. laid_apart s (whole (made w.next)) q w1
    (root_apart (whole (made w.next)) q (λ i. true≢false (sym (subst (λ r. is_same_root (made w.next) r ≡ true) i (root_same (made w.next))) ∙ e))))
    l.next l.objects l.classes

-- what is no user type has no parts
inside_single : (K : Ground) (w : Memory) (ty : Ty) (s : Shape) (q : Position) → IsShapeOf K.declarations ty s → is_user ty ≡ false → Inside K w s q
inside_single K w _ _ q (scalar_shape ty c) alone = tt
inside_single K w _ _ q (array_shape e rank bounds c) alone = tt
inside_single K w _ _ q (user_shape t d fs is of) alone = absurd (true≢false alone)

pub user_is : (ty : Ty) → is_user ty ≡ true → (t : ℕ) × (ty ≡ types.user t)
user_is (types.user t) h = (t, refl)
user_is _ h = absurd (true≢false (sym h))

-- a variable that is laid at a root fills it
pub laid_fills : (K : Ground) (k : ℕ) (x : Variable) → slice_get K.declarations.vars k ≡ Some x → is_flat K.declarations x ≡ true
    → is_makeable (variable_shape K.declarations k) ≡ true → (r : Root) (w : Memory) → IsMade (mark w) r → K.footprint (whole r) ≡ true
    → (is_user x.ty ≡ true → (path : List ℕ) → K.footprint (at r path) ≡ true)
    → Fills K (laid (variable_shape K.declarations k) (whole r) w) (whole r) x.ty (variable_shape K.declarations k)
laid_fills K k x is flat makeable r w m allowed parts_allowed = by (is_user x.ty) refl
  where
    s : Shape
    s = variable_shape K.declarations k

    shape : IsShapeOf K.declarations x.ty s
    shape = shape_of_variable K.declarations k x is flat

    by : (b : Bool) → is_user x.ty ≡ b → Fills K (laid s (whole r) w) (whole r) x.ty s
    by true user =
        let t = user_is x.ty user in
        subst (λ ty. Fills K (laid s (whole r) w) (whole r) ty s) (sym t.1)
        (user_filled K t.0 s r w (subst (λ ty. IsShapeOf K.declarations ty s) t.1 shape) m (parts_allowed user))
    by false alone =
        subst (λ u. Fills K u (whole r) x.ty s) (sym (laid_is K.declarations x.ty s (whole r) w shape alone)) (
          record {
            holds = subst (λ z. Holds x.ty z) (sym (put_here (whole r) (first_held s) w)) (first_of_variable K.declarations k x is flat makeable);
            made = m;
            allowed = allowed;
          },
          inside_single K (with_held (whole r) (first_held s) w) x.ty s (whole r) shape alone,
        )

-- ---- a Static that is made

module _ (K : Ground) (w : Memory) (k : ℕ) (x : Variable) (is : slice_get K.declarations.vars k ≡ Some x) (st : is_static x.owner ≡ true)
    (flat : is_flat K.declarations x ≡ true) (makeable : is_makeable (variable_shape K.declarations k) ≡ true) (allowed : K.footprint (shared_place k) ≡ true)
    (parts_allowed : is_user x.ty ≡ true → (path : List ℕ) → K.footprint (at (shared (k ∷ [])) path) ≡ true) (unlaid : IsUnlaid w (shared_place k) x.ty) where
  abbrev s : Shape
  s = variable_shape K.declarations k

  abbrev u : Memory
  u = laid (variable_shape K.declarations k) (shared_place k) w

  pub static_fills : Fills K u (shared_place k) x.ty s
  static_fills = laid_fills K k x is flat makeable (shared (k ∷ [])) w tt allowed parts_allowed

  -- what changes, for a user type and for another
  abbrev changed : Bool → Position → Bool
  changed true q = is_same_root (shared (k ∷ [])) q.root
  changed false q = is_same_position (shared_place k) q

  elsewhere : (b : Bool) → is_user x.ty ≡ b → (q : Position) → changed b q ≡ false → u.held q ≡ w.held q
  elsewhere true user q e =
      laid_apart s (shared_place k) q w
      (root_apart (shared_place k) q (λ i. true≢false (sym (subst (λ r. is_same_root (shared (k ∷ [])) r ≡ true) i (root_same (shared (k ∷ [])))) ∙ e)))
  elsewhere false alone q e =
      ap (λ (m : Memory). m.held q) (laid_is K.declarations x.ty s (shared_place k) w (shape_of_variable K.declarations k x is flat) alone)
      ∙ ap (λ b. cond b (first_held s) (w.held q)) e

  blank_there : (b : Bool) → is_user x.ty ≡ b → (q : Position) → changed b q ≡ true → w.held q ≡ blank
  blank_there true user q e = subst (λ r. w.held (at r q.path) ≡ blank) (same_root (shared (k ∷ [])) q.root e) (unlaid.parts user q.path)
  blank_there false alone q e = subst (λ p. w.held p ≡ blank) (same_position (shared_place k) q e) unlaid.whole

  part_there : (b : Bool) → is_user x.ty ≡ b → (q : Position) → changed b q ≡ true → IsPartOf k x.ty q
  part_there true user q e = inr (user, sym (same_root (shared (k ∷ [])) q.root e))
  part_there false alone q e = inl (sym (same_position (shared_place k) q e))

  other_static : (b : Bool) (j : ℕ) (path : List ℕ) → nat_eq k j ≡ false → changed b (at (shared (j ∷ [])) path) ≡ false
  other_static true j path e = ap (λ t. t && true) e
  other_static false j path e = ap (λ t. (t && true) && is_same_path [] path) e

  module _ (b : Bool) (kind : is_user x.ty ≡ b) where
    nothing : (q : Position) (ty : Ty) → changed b q ≡ true → Stands K w q ty → ⊥
    nothing q ty e z = held_blank ty (w.held q) z.holds (blank_there b kind q e)

    made_on : (r : Root) → IsMade (mark w) r → IsMade (mark u) r
    made_on (shared key) m = tt
    made_on (made n) m = subst (λ z. n < z) (sym (laid_in s (shared_place k) w).next) m
    made_on (field o key) m = subst (λ z. o < z) (sym (laid_in s (shared_place k) w).objects) m

    static_now : (j : ℕ) (y : Variable) → slice_get K.declarations.vars j ≡ Some y → MayStand K w j y → MayStand K u j y
    static_now j y at_j m = by (nat_eq k j) refl
      where
        by : (c : Bool) → nat_eq k j ≡ c → MayStand K u j y
        by true e =
            let same : k ≡ j = eqb-true k j e in
            let one : x ≡ y = some_is (sym is ∙ ap (λ n. slice_get K.declarations.vars n) same ∙ at_j) in
            inr (subst (λ n. Fills K u (shared_place n) y.ty (variable_shape K.declarations n)) same
            (subst (λ (v : Variable). Fills K u (shared_place k) v.ty s) one static_fills))
        by false e =
            static_where K w u (changed b) (elsewhere b kind) nothing made_on j y (λ path. other_static b j path e) m

    static_keeps : Keeps K w u
    static_keeps =
        let l : IsLaidIn w u = laid_in s (shared_place k) w in
        keeps_where K w u (changed b) (elsewhere b kind) nothing made_on (let n = l.next in omega (arith, n)) l.objects l.classes
        (λ j y at_j st2 m. static_now j y at_j m)
        (λ q e m n. n (record {
          number = k;
          variable = x;
          is_variable = is;
          static = st;
          flat = flat;
          place = part_there b kind q e;
          is_blank = blank_there b kind q e;
        }))

  pub keeps_static : Keeps K w u
  keeps_static = static_keeps (is_user x.ty) refl
