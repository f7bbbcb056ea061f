-- Positions that hold values of their types, and what changes them.
use Rattle.std.proofs.Common.{◌≡◌, inl, inr, refl, sym, ap, subst, ◌∙◌, ℕ, zero, suc, ◌<◌, ◌≤◌, Bool, true, false, true≢false, cond, ◌&&◌, ◌||◌, nat_eq, List, [], ◌∷◌, ◌++◌, append_assoc, Option, Some, None, eqb-true, eq-eqb, arith}
use Rattle.std.specs.Prelude.{slice_get}
use Rattle.std.specs.List.{list_all}
use Rattle.up_base.proofs.Lists.{all_first, all_rest}
use Rattle.up_base.proofs.Tests.{both_true}
use Rattle.vb_tree.specs.BoundTree.{Ty}
use Rattle.bound_tree.specs.Tree.{Variable}
use Rattle.run_base.specs.Positions.{Root, shared, made, field, Position, whole, is_same_path, is_same_root, is_same_position}
use Rattle.vb6_run.specs.Shapes.{Shape, simple, group, array, endless, Shapes, no_shapes, next_shape, variable_shape}
use Rattle.vb6_run.specs.Store.{Held, blank, Memory, with_held}
use Rattle.run_matches.specs.Maps.{IsMade, mark}
use Rattle.run_matches.specs.Pledges.{type_of_shape}
use Rattle.typing_laws.specs.Frames.{AreInside, Fills, Ground, Inside, IsBlankStatic, Keeps, MayStand, Stands, goes_on_from, is_place_of, is_static, shared_place}
use Rattle.typing_laws.specs.Plain.{Holds, holds_array, holds_parts, holds_scalar}
use Rattle.typing_laws.proofs.Held.{same_kind}

-- ---- positions

same_path : (p q : List ℕ) → is_same_path p q ≡ true → p ≡ q
same_path [] [] e = refl
same_path (a ∷ p) (b ∷ q) e =
    let h : (nat_eq a b ≡ true) × (is_same_path p q ≡ true) = both_true (nat_eq a b) (is_same_path p q) e in
    ap (λ x. x ∷ p) (eqb-true a b h.0) ∙ ap (λ x. b ∷ x) (same_path p q h.1)
same_path _ _ e = cc

pub same_root : (r s : Root) → is_same_root r s ≡ true → r ≡ s
same_root (shared k) (shared l) e = ap shared (same_path k l e)
same_root (made a) (made b) e = ap made (eqb-true a b e)
same_root (field a k) (field b l) e =
    let h : (nat_eq a b ≡ true) × (is_same_path k l ≡ true) = both_true (nat_eq a b) (is_same_path k l) e in
    ap (λ x. field x k) (eqb-true a b h.0) ∙ ap (λ x. field b x) (same_path k l h.1)
same_root _ _ e = cc

abbrev pub at : Root → List ℕ → Position
at r path = record { root = r; path = path }

pub same_position : (p q : Position) → is_same_position p q ≡ true → p ≡ q
same_position p q e =
    let h : (is_same_root p.root q.root ≡ true) × (is_same_path p.path q.path ≡ true) = both_true (is_same_root p.root q.root) (is_same_path p.path q.path) e in
    ap (λ x. at x p.path) (same_root p.root q.root h.0) ∙ ap (λ x. at q.root x) (same_path p.path q.path h.1)

path_same : (p : List ℕ) → is_same_path p p ≡ true
path_same [] = refl
path_same (a ∷ p) = ap (λ b. b && is_same_path p p) (eq-eqb a a refl) ∙ path_same p

pub root_same : (r : Root) → is_same_root r r ≡ true
root_same (shared k) = path_same k
root_same (made a) = eq-eqb a a refl
root_same (field a k) = ap (λ b. b && is_same_path k k) (eq-eqb a a refl) ∙ path_same k

pub self_same : (p : Position) → is_same_position p p ≡ true
self_same p = ap (λ b. b && is_same_path p.path p.path) (root_same p.root) ∙ path_same p.path

-- ---- lists and options

pub some_is : {A : Type 0} {x y : A} → ◌≡◌ {A = Option A} (Some x) (Some y) → x ≡ y
some_is e = cc e

pub not_none : {A : Type 0} {x : A} → ◌≡◌ {A = Option A} None (Some x) → ⊥
not_none e = cc e

pub all_at : {A : Type 0} (f : A → Bool) (xs : List A) (k : ℕ) (x : A) → list_all f xs ≡ true → slice_get xs k ≡ Some x → f x ≡ true
all_at f [] k x h e = absurd (not_none e)
all_at f (y ∷ xs) zero x h e = ap f (sym (some_is e)) ∙ all_first f y xs h
all_at f (y ∷ xs) (suc k) x h e = all_at f xs k x (all_rest f y xs h) e

-- ---- what a position holds

pub held_blank : (ty : Ty) (h : Held) → Holds ty h → h ≡ blank → ⊥
held_blank _ _ (holds_scalar ty z p) e = cc e
held_blank _ _ (holds_array e rank dims xs c n p) i = cc i
held_blank _ _ (holds_parts t) i = cc i

-- ---- parts

-- the parts of a place stand where all that stands at its root does
mutual
  pub inside_by : (K L : Ground) (w u : Memory) (r : Root) → ((path : List ℕ) (ty : Ty) → Stands K w (at r path) ty → Stands L u (at r path) ty) → (d : Shape)
      (path : List ℕ) → Inside K w d (at r path) → Inside L u d (at r path)
  inside_by K L w u r on (simple ty) path h = tt
  inside_by K L w u r on (group t fs) path h = are_inside_by K L w u r on fs path 0 h
  inside_by K L w u r on (array e bounds) path h = tt
  inside_by K L w u r on endless path h = tt

  pub are_inside_by : (K L : Ground) (w u : Memory) (r : Root) → ((path : List ℕ) (ty : Ty) → Stands K w (at r path) ty → Stands L u (at r path) ty) → (fs : Shapes)
      (path : List ℕ) (k : ℕ) → AreInside K w fs (at r path) k → AreInside L u fs (at r path) k
  are_inside_by K L w u r on no_shapes path k h = tt
  are_inside_by K L w u r on (next_shape s rest) path k h =
      (on (k ∷ path) (type_of_shape s) h.0, inside_by K L w u r on s (k ∷ path) h.1, are_inside_by K L w u r on rest path (suc k) h.2)

pub fills_by : (K L : Ground) (w u : Memory) (q : Position) → ((path : List ℕ) (ty : Ty) → Stands K w (at q.root path) ty → Stands L u (at q.root path) ty) → (ty : Ty)
    (d : Shape) → Fills K w q ty d → Fills L u q ty d
fills_by K L w u q on ty d f = (on q.path ty f.0, inside_by K L w u q.root on d q.path f.1)

-- so do those where all that stands there does
mutual
  inside_part : (K L : Ground) (w u : Memory) (r : Root) (path : List ℕ)
      → ((p : List ℕ) (ty : Ty) → Stands K w (at r (p ++ path)) ty → Stands L u (at r (p ++ path)) ty) → (d : Shape) → Inside K w d (at r path)
      → Inside L u d (at r path)
  inside_part K L w u r path on (simple ty) h = tt
  inside_part K L w u r path on (group t fs) h = are_inside_part K L w u r path on fs 0 h
  inside_part K L w u r path on (array e bounds) h = tt
  inside_part K L w u r path on endless h = tt

  are_inside_part : (K L : Ground) (w u : Memory) (r : Root) (path : List ℕ)
      → ((p : List ℕ) (ty : Ty) → Stands K w (at r (p ++ path)) ty → Stands L u (at r (p ++ path)) ty) → (fs : Shapes) (k : ℕ) → AreInside K w fs (at r path) k
      → AreInside L u fs (at r path) k
  are_inside_part K L w u r path on no_shapes k h = tt
  are_inside_part K L w u r path on (next_shape s rest) k h = (
    on (k ∷ []) (type_of_shape s) h.0,
    inside_part K L w u r (k ∷ path)
        (λ p ty z.
        let same : (p ++ (k ∷ [])) ++ path ≡ p ++ (k ∷ path) = append_assoc p (k ∷ []) path in
        subst (λ x. Stands L u (at r x) ty) same (on (p ++ (k ∷ [])) ty (subst (λ x. Stands K w (at r x) ty) (sym same) z))) s h.1,
    are_inside_part K L w u r path on rest (suc k) h.2,
  )

goes_on_itself : (p : List ℕ) → goes_on_from p p ≡ true
goes_on_itself [] = refl
goes_on_itself (k ∷ p) = ap (λ b. b || goes_on_from (k ∷ p) p) (path_same (k ∷ p))

goes_on_more : (p path : List ℕ) → goes_on_from path (p ++ path) ≡ true
goes_on_more [] path = goes_on_itself path
goes_on_more (k ∷ p) path = last_true (is_same_path path (k ∷ (p ++ path))) (goes_on_more p path)
  where
    last_true : (a : Bool) {b : Bool} → b ≡ true → a || b ≡ true
    last_true true e = refl
    last_true false e = e

place_itself : (d : Shape) (q : Position) → is_place_of d q q ≡ true
place_itself (simple ty) q = self_same q
place_itself (group t fs) q = ap (λ b. b && goes_on_from q.path q.path) (root_same q.root) ∙ goes_on_itself q.path
place_itself (array e bounds) q = self_same q
place_itself endless q = self_same q

-- a place in a footprint that has all of it
pub fills_in : (K L : Ground) (w : Memory) (d : Shape) (q : Position) (ty : Ty) → ((r : Position) → is_place_of d q r ≡ true → L.footprint r ≡ true)
    → Fills K w q ty d → Fills L w q ty d
fills_in K L w d q ty allowed f = (record { holds = f.0.holds; made = f.0.made; allowed = allowed q (place_itself d q) }, by d allowed f.1)
  where
    by : (d : Shape) → ((r : Position) → is_place_of d q r ≡ true → L.footprint r ≡ true) → Inside K w d q → Inside L w d q
    by (simple s) a h = tt
    by (array e bounds) a h = tt
    by endless a h = tt
    by (group t fs) a h =
        inside_part K L w w q.root q.path
        (λ p s z. record {
          holds = z.holds;
          made = z.made;
          allowed = a (at q.root (p ++ q.path)) (ap (λ b. b && goes_on_from q.path (p ++ q.path)) (root_same q.root) ∙ goes_on_more p q.path);
        })
        (group t fs) h

-- ---- memories between which some positions change, where nothing stood

pub made_later : (K : Ground) (w v : Memory) → Keeps K w v → (r : Root) → IsMade (mark w) r → IsMade (mark v) r
made_later K w v k (shared key) m = tt
made_later K w v k (made n) m =
    let less : n < w.next = m in
    let next = k.next in
    omega (arith, less, next)
made_later K w v k (field o key) m = subst (λ z. o < z) (sym k.objects) m

module _ (K : Ground) (w u : Memory) (changed : Position → Bool) (elsewhere : (q : Position) → changed q ≡ false → u.held q ≡ w.held q)
    (nothing : (q : Position) (ty : Ty) → changed q ≡ true → Stands K w q ty → ⊥) (made_still : (r : Root) → IsMade (mark w) r → IsMade (mark u) r) where
  pub stands_where : (q : Position) (ty : Ty) → Stands K w q ty → Stands K u q ty
  stands_where q ty s = by (changed q) refl
    where
      by : (b : Bool) → changed q ≡ b → Stands K u q ty
      by true e = absurd (nothing q ty e s)
      by false e = record { holds = subst (λ z. Holds ty z) (sym (elsewhere q e)) s.holds; made = made_still q.root s.made; allowed = s.allowed }

  -- a Static none of whose positions changes
  pub static_where : (k : ℕ) (x : Variable) → ((path : List ℕ) → changed (at (shared (k ∷ [])) path) ≡ false) → MayStand K w k x → MayStand K u k x
  static_where k x same (inl n) = inl (record {
    whole = elsewhere (shared_place k) (same []) ∙ n.whole;
    parts = λ is path. elsewhere (at (shared (k ∷ [])) path) (same path) ∙ n.parts is path;
  })
  static_where k x same (inr f) = inr (fills_by K K w u (shared_place k) (λ path ty s. stands_where (at (shared (k ∷ [])) path) ty s) x.ty (variable_shape K.declarations k) f)

  pub keeps_where : (next : w.next ≤ u.next) (objects : u.next_object ≡ w.next_object) (classes : u.class_of ≡ w.class_of)
      → ((k : ℕ) (x : Variable) → slice_get K.declarations.vars k ≡ Some x → is_static x.owner ≡ true → MayStand K w k x → MayStand K u k x)
      → ((q : Position) → changed q ≡ true → IsMade (mark w) q.root → (IsBlankStatic K w q → ⊥) → ⊥) → Keeps K w u
  keeps_where next objects classes static written = record {
    places = stands_where;
    statics = λ k x is st c m. static k x is st m;
    others = λ q m s b. by q m b (changed q) refl;
    next = next;
    objects = objects;
    classes = classes;
  }
    where
      by : (q : Position) → IsMade (mark w) q.root → (IsBlankStatic K w q → ⊥) → (b : Bool) → changed q ≡ b → u.held q ≡ w.held q
      by q m b true e = absurd (written q e m b)
      by q m b false e = elsewhere q e

-- ---- a thing of the kind that stands there

module _ (K : Ground) (w : Memory) (q : Position) (t : Ty) (h : Held) (s : Stands K w q t) (holds : Holds t h) where
  abbrev u : Memory
  u = with_held q h w

  stands_at : (ty : Ty) → Holds ty h → Stands K u q ty
  stands_at ty k = record {
    holds = subst (λ z. Holds ty z) (sym (ap (λ b. cond b h (w.held q)) (self_same q))) k;
    made = s.made;
    allowed = s.allowed;
  }

  pub stands_changed : Stands K u q t
  stands_changed = stands_at t holds

  stands_on : (r : Position) (ty : Ty) → Stands K w r ty → Stands K u r ty
  stands_on r ty z = by (is_same_position q r) refl
    where
      by : (b : Bool) → is_same_position q r ≡ b → Stands K u r ty
      by true e =
          let one : q ≡ r = same_position q r e in
          subst (λ p. Stands K u p ty) one
          (stands_at ty (same_kind t ty (w.held q) h s.holds (subst (λ p. Stands K w p ty) (sym one) z).holds holds))
      by false e = record {
        holds = subst (λ z. Holds ty z) (sym (ap (λ b. cond b h (w.held r)) e)) z.holds;
        made = z.made;
        allowed = z.allowed;
      }

  still_blank : (r : Position) → w.held r ≡ blank → u.held r ≡ blank
  still_blank r e = by (is_same_position q r) refl
    where
      by : (b : Bool) → is_same_position q r ≡ b → u.held r ≡ blank
      by true i = absurd (held_blank t (w.held q) s.holds (ap w.held (same_position q r i) ∙ e))
      by false i = ap (λ b. cond b h (w.held r)) i ∙ e

  static_on : (k : ℕ) (x : Variable) → MayStand K w k x → MayStand K u k x
  static_on k x (inl n) = inl (record {
    whole = still_blank (shared_place k) n.whole;
    parts = λ is path. still_blank (at (shared (k ∷ [])) path) (n.parts is path);
  })
  static_on k x (inr f) =
      inr (fills_by K K w u (shared_place k) (λ path ty z. stands_on (at (shared (k ∷ [])) path) ty z) x.ty (variable_shape K.declarations k) f)

  pub keeps_changed : Keeps K w u
  keeps_changed = record {
    places = stands_on;
    statics = λ k x is st c m. static_on k x m;
    others = λ r m z b. by r z (is_same_position q r) refl;
    next = omega arith;
    objects = refl;
    classes = refl;
  }
    where
      by : (r : Position) → ((ty : Ty) → Stands K w r ty → ⊥) → (b : Bool) → is_same_position q r ≡ b → u.held r ≡ w.held r
      by r z true e = absurd (z t (subst (λ p. Stands K w p t) (same_position q r e) s))
      by r z false e = ap (λ b. cond b h (w.held r)) e

-- ---- memories that hold the same

made_same : (w v : Memory) → v.next ≡ w.next → v.next_object ≡ w.next_object → (r : Root) → IsMade (mark w) r → IsMade (mark v) r
made_same w v places objects (shared k) h = tt
made_same w v places objects (made n) h = subst (λ z. n < z) (sym places) h
made_same w v places objects (field o k) h = subst (λ z. o < z) (sym objects) h

module _ (K : Ground) (w v : Memory) (held : v.held ≡ w.held) (places : v.next ≡ w.next) (objects : v.next_object ≡ w.next_object) where
  stands_same : (q : Position) (ty : Ty) → Stands K w q ty → Stands K v q ty
  stands_same q ty s = record {
    holds = subst (λ z. Holds ty z) (sym (ap (λ (h : Position → Held). h q) held)) s.holds;
    made = made_same w v places objects q.root s.made;
    allowed = s.allowed;
  }

  may_stand_same : (k : ℕ) (x : Variable) → MayStand K w k x → MayStand K v k x
  may_stand_same k x (inl n) = inl (record {
    whole = ap (λ (h : Position → Held). h (shared_place k)) held ∙ n.whole;
    parts = λ is path. ap (λ (h : Position → Held). h (at (shared (k ∷ [])) path)) held ∙ n.parts is path;
  })
  may_stand_same k x (inr f) =
      inr (fills_by K K w v (shared_place k) (λ path ty z. stands_same (at (shared (k ∷ [])) path) ty z) x.ty (variable_shape K.declarations k) f)

  pub keeps_same : v.class_of ≡ w.class_of → Keeps K w v
  keeps_same classes = record {
    places = stands_same;
    statics = λ k x is st c m. may_stand_same k x m;
    others = λ q m s b. ap (λ (h : Position → Held). h q) held;
    next = omega (arith, places);
    objects = objects;
    classes = classes;
  }

-- ---- a place of its own

-- the memory in which the next place was made
abbrev pub made_next : Held → Memory → Memory
made_next h w = with_held (whole (made w.next)) h (record w { next = suc w.next })

-- a place that is made, whatever is made there
module _ (K : Ground) (w u : Memory) (elsewhere : (q : Position) → is_same_root (made w.next) q.root ≡ false → u.held q ≡ w.held q)
    (next : u.next ≡ suc w.next) (objects : u.next_object ≡ w.next_object) (classes : u.class_of ≡ w.class_of) where
  abbrev new : Position → Bool
  new q = is_same_root (made w.next) q.root

  unmade : (r : Root) → is_same_root (made w.next) r ≡ true → IsMade (mark w) r → ⊥
  unmade (made n) e m =
      let same : w.next ≡ n = eqb-true w.next n e in
      let l : n < w.next = m in
      absurd (omega (arith, same, l))
  unmade (shared k) e m = absurd (true≢false (sym e))
  unmade (field o k) e m = absurd (true≢false (sym e))

  made_on : (r : Root) → IsMade (mark w) r → IsMade (mark u) r
  made_on (shared k) m = tt
  made_on (made n) m =
      let l : n < w.next = m in
      omega (arith, next, l)
  made_on (field o k) m = subst (λ z. o < z) (sym objects) m

  pub keeps_new : Keeps K w u
  keeps_new =
      keeps_where K w u new elsewhere (λ q ty e s. unmade q.root e s.made) made_on (omega (arith, next)) objects classes
      (λ k x is st m. static_where K w u new elsewhere (λ q ty e s. unmade q.root e s.made) made_on k x (λ path. refl) m) (λ q e m b. unmade q.root e m)

module _ (K : Ground) (w : Memory) (ty : Ty) (h : Held) (holds : Holds ty h) (allowed : K.footprint (whole (made w.next)) ≡ true) where
  abbrev place : Position
  place = whole (made w.next)

  last_made : w.next < suc w.next
  last_made = omega arith

  pub keeps_made : Keeps K w (made_next h w)
  keeps_made =
      keeps_new K w (made_next h w) (λ q e. by q e (is_same_position place q) refl) refl refl refl
    where
      by : (q : Position) → is_same_root (made w.next) q.root ≡ false → (b : Bool) → is_same_position place q ≡ b → (made_next h w).held q ≡ w.held q
      by q e true i = absurd (true≢false (sym (both_true (is_same_root (made w.next) q.root) (is_same_path [] q.path) i).0 ∙ e))
      by q e false i = ap (λ b. cond b h (w.held q)) i

  pub stands_made : Stands K (made_next h w) place ty
  stands_made = record {
    holds = subst (λ z. Holds ty z) (sym (ap (λ b. cond b h (w.held place)) (self_same place))) holds;
    made = last_made;
    allowed = allowed;
  }
