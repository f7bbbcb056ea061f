-- What a quiet parameter is bound to: values that match on both sides, now and later.
use Rattle.std.proofs.Common.{◌≡◌, refl, sym, ap, subst, ◌∙◌, Bool, true, false, cond, ◌&&◌, Some, None, [], true≢false}
use Rattle.up_base.proofs.Tests.{by_test}
use Rattle.vb_tree.specs.BoundTree as types
use Rattle.vb_tree.specs.BoundTree.{Ty}
use Rattle.vb_tree.specs.declared.value.Value6.{Value6}
use Rattle.bound_facts.specs.Locks.{is_same_type}
use Rattle.net_tree.specs.Types.{TypeName}
use Rattle.net_meaning.specs.declared.value.ValueN.{ValueN}
use Rattle.net_meaning.specs.declared.value.ValueN.TheVariants as n
use Rattle.run_base.specs.Outcomes.{gives, outside, some_of}
use Rattle.run_base.specs.Positions.{Position}
use Rattle.vb6_run.specs.Programs.{temporary}
use Rattle.vb6_run.specs.Shapes.{simple}
use Rattle.vb6_run.specs.Store.{Address, root, constant, held_at}
use Rattle.vb6_run.specs.Values.{Value, scalar, fields, elements, if_of_shape, is_typed, kept_as}
use Rattle.net_run.specs.Shapes as shape
use Rattle.net_run.specs.Store as net
use Rattle.net_run.specs.Values as net_value
use Rattle.run_matches.specs.Addresses.{HoldsSame, IsPlain, IsTypedAs, Mirrors, is_element}
use Rattle.run_matches.specs.Agreeing.{Agrees}
use Rattle.run_matches.specs.CoveredVariables.{covers_type}
use Rattle.run_matches.specs.Likeness.{LikeV, like_scalar, like_fields, like_elements, Like, SameShape, ShapedAs, are_same, scalar_shaped, scalar_word}
use Rattle.run_matches.specs.Maps.{World}
use Rattle.run_matches.specs.Match.{MemoryMatch, StoreMatch}
use Rattle.run_matches.specs.Pledges.{Pledge, Later}
use Rattle.run_matches.specs.Upgrades.{Upgrade}
use Rattle.agreeing_laws.proofs.Agreeing.{agrees_gives, agrees_outside}
use Rattle.agreeing_laws.proofs.Lasting.{later_from, weaker_self}
use Rattle.agreeing_laws.proofs.Scalars.{matches_more, same_later, scalar_later}
use Rattle.memory_laws.proofs.Alone.{fresh_lasts, fresh_later, fresh_place, with_fresh}
use Rattle.memory_laws.proofs.Parameters.{kept_by, no_elements, no_fields}
use Rattle.memory_laws.proofs.Reading.{HasWord, scalar_there, word_of_shape}
use Rattle.memory_laws.proofs.Scalars.{kept_scalar, same_covered, scalar_of_word}

some_is : {A : Type 0} {x y : A} → Some x ≡ Some y → x ≡ y
some_is e = cc e

-- values that match stand at both, and the source's is no element
pub record QuietMatch (U : Upgrade) (K : Pledge) (t : TypeName) (w : World) (a : Address) (b : net.Address) : Type 0 where
  pub mirrors : Mirrors U K w a b
  pub whole : is_element a ≡ false
  pub plain : IsPlain U w a
  pub shape_is : net.shape_at b ≡ shape.scalar t

-- a written type is the same as itself
itself : (ty : Ty) (t : TypeName) → covers_type ty ≡ true → scalar_word ty ≡ Some t → shape.is_same_word t t ≡ true
itself types.boolean t c e = subst (λ z. shape.is_same_word z z ≡ true) (some_is e) refl
itself types.byte t c e = subst (λ z. shape.is_same_word z z ≡ true) (some_is e) refl
itself types.integer t c e = subst (λ z. shape.is_same_word z z ≡ true) (some_is e) refl
itself types.long t c e = subst (λ z. shape.is_same_word z z ≡ true) (some_is e) refl
itself types.currency t c e = subst (λ z. shape.is_same_word z z ≡ true) (some_is e) refl
itself types.str t c e = subst (λ z. shape.is_same_word z z ≡ true) (some_is e) refl
itself _ t c e = absurd (true≢false (sym c))

itself_same : (ty : Ty) (t u : TypeName) → covers_type ty ≡ true → scalar_word ty ≡ Some t → scalar_word ty ≡ Some u → shape.is_same_word u t ≡ true
itself_same ty t u c e f = subst (λ z. shape.is_same_word z t ≡ true) (some_is (sym e ∙ f)) (itself ty t c e)

module _ (U : Upgrade) (K : Pledge) (ty : Ty) (t : TypeName) (c : covers_type ty ≡ true) (e : scalar_word ty ≡ Some t) where
  -- ---- values on both sides: the source needs no place

  fresh_mirrors : (w : World) (z : Value6) (y : ValueN) → MemoryMatch U w → Like w ty z y
      → Mirrors U K (with_fresh w (net.holds y)) (constant (scalar ty z)) (net.root (shape.scalar t) (fresh_place w))
  fresh_mirrors w z y h like = record {
    holds = λ w1 l. record {
      value = scalar ty z;
      source = refl;
      like =
          subst (λ k. LikeV U w1 (scalar ty z) (net.held k)) (sym (fresh_lasts U w (net.holds y) h K w1 l))
          (scalar_later U K (with_fresh w (net.holds y)) w1 ty z (net_value.single y) l (like_scalar ty z y like));
      shaped = scalar_shaped ty z (shape.scalar t);
      is_made = λ q s. absurd (cc s);
    };
  }

  abbrev Bound : World → Value → net_value.Value → Type 0
  Bound w x y = Agrees U K w (QuietMatch U K t) (temporary true (simple ty) x w.src) (net.made_with (shape.scalar t) y w.net)

  same_bound : (w : World) (z : Value6) (y : ValueN) → MemoryMatch U w → Like w ty z y → Bound w (scalar ty z) (net_value.single y)
  same_bound w z y h like =
      subst (λ o. Agrees U K w (QuietMatch U K t) (some_of o (λ x v. gives [] (constant x) v) w.src) (net.made_with (shape.scalar t) (net_value.single y) w.net))
      (sym (kept_scalar (are_same w) ty z y c like))
      (subst
      (λ b. Agrees U K w (QuietMatch U K t) (gives [] (constant (scalar ty z)) w.src)
      (cond b (gives [] (net.root (shape.scalar t) (fresh_place w)) (with_fresh w (net.holds y)).net) (outside [])))
      (sym (scalar_of_word (are_same w) ty z y t c e like))
      (refl, w.map, record { mirrors = fresh_mirrors w z y h like; whole = refl; plain = λ q s. absurd (cc s); shape_is = refl }, fresh_later U w (net.holds y) h K))

  none_bound : (w : World) (x : Value) (y : net_value.Value) → kept_as (simple ty) x ≡ None → Bound w x y
  none_bound w x y none =
      subst (λ o. Agrees U K w (QuietMatch U K t) (some_of o (λ x v. gives [] (constant x) v) w.src) (net.made_with (shape.scalar t) y w.net)) (sym none)
      (agrees_outside U K w (QuietMatch U K t) (net.made_with (shape.scalar t) y w.net))

  -- values that matched at an earlier world
  pub values_bound : (w0 w : World) (x : Value) (y : net_value.Value) → Later U K w0 w → LikeV U w0 x y → Bound w x y
  values_bound w0 w _ _ l (like_scalar s z y like) =
      by_test (is_same_type ty s) (λ b. is_same_type ty s ≡ b → Bound w (scalar s z) (net_value.single y))
      (λ is test. other s (same_covered ty s c is) (matches_more (are_same w0) (are_same w) (same_later w0 w l.extends l.grows) s z y like))
      (λ no test. none_bound w (scalar s z) (net_value.single y) (kept_by ty s z c ∙ ap (λ b. if_of_shape (b && is_typed s z) (scalar s z)) no)) refl
    where
      other : (s : Ty) → s ≡ ty → Like w s z y → Bound w (scalar s z) (net_value.single y)
      other s same m =
          subst (λ u. Bound w (scalar u z) (net_value.single y)) (sym same) (same_bound w z y l.match (subst (λ u. Like w u z y) same m))
  values_bound w0 w _ _ l (like_fields u xs ys m) = none_bound w (fields u xs) (net_value.fields ys) (no_fields ty u xs c)
  values_bound w0 w _ _ l (like_elements d dims xs k m) =
      none_bound w (elements d dims xs) (net_value.single (n.Array k)) (no_elements ty d dims xs c)

  -- ---- by reference on the source's side alone: the target has a place for the value

  from_like : (w : World) (z : Value6) (y : net_value.Value) → LikeV U w (scalar ty z) y → (x : ValueN) × (y ≡ net_value.single x) × Like w ty z x
  from_like w z _ (like_scalar _ _ x m) = (x, refl, m)

  module _ (w0 w : World) (a : Address) (s : shape.Shape) (y : net_value.Value) (start : StoreMatch U w0) (l : Later U K w0 w)
      (m : Mirrors U K w0 a (net.constant s y)) (at : (q : Position) × (a ≡ root (simple ty) q)) (plain : IsPlain U w a) where
    -- a scalar of the type is there
    there : (u : World) (x : HoldsSame U u a (net.constant s y)) → (z : Value6) × (x.value ≡ scalar ty z)
    there u x = scalar_there ty (u.src.held at.0) x.value c (subst (λ b. held_at b u.src.held ≡ Some x.value) at.1 x.source)

    fresh_holds : (x : ValueN) → y ≡ net_value.single x → Mirrors U K (with_fresh w (net.holds x)) a (net.root (shape.scalar t) (fresh_place w))
    fresh_holds x is = record {
      holds = λ w1 later.
          let all : Later U K w0 w1 =
          later_from U K K w0 (with_fresh w (net.holds x)) w1 start (weaker_self w0 K)
          (later_from U K K w0 w (with_fresh w (net.holds x)) start (weaker_self w0 K) l (fresh_later U w (net.holds x) l.match K)) later in
          let q : HoldsSame U w1 a (net.constant s y) = m.holds w1 all in
          let z : (z : Value6) × (q.value ≡ scalar ty z) = there w1 q in
          record {
            value = q.value;
            source = q.source;
            like =
                subst (λ k. LikeV U w1 q.value (net.held k)) (sym (fresh_lasts U w (net.holds x) l.match K w1 later))
                (subst (λ v. LikeV U w1 q.value v) is q.like);
            shaped = subst (λ v. ShapedAs U v (shape.scalar t)) (sym z.1) (scalar_shaped ty z.0 (shape.scalar t));
            is_made = q.is_made;
          };
    }

    pub source_is_bound : Agrees U K w (QuietMatch U K t) (gives [] a w.src) (net.made_with (shape.scalar t) y w.net)
    source_is_bound =
        let q : HoldsSame U w a (net.constant s y) = m.holds w l in
        let z : (z : Value6) × (q.value ≡ scalar ty z) = there w q in
        let x : (x : ValueN) × (y ≡ net_value.single x) × Like w ty z.0 x = from_like w z.0 y (subst (λ v. LikeV U w v y) z.1 q.like) in
        subst (λ v. Agrees U K w (QuietMatch U K t) (gives [] a w.src) (net.made_with (shape.scalar t) v w.net)) (sym x.1)
        (subst
        (λ b. Agrees U K w (QuietMatch U K t) (gives [] a w.src)
        (cond b (gives [] (net.root (shape.scalar t) (fresh_place w)) (with_fresh w (net.holds x.0)).net) (outside [])))
        (sym (scalar_of_word (are_same w) ty z.0 x.0 t c e x.2))
        (refl, w.map, record { mirrors = fresh_holds x.0 x.1; whole = ap is_element at.1; plain = plain; shape_is = refl }, fresh_later U w (net.holds x.0) l.match K))

  -- ---- by reference on the target's side alone

  mirrors_later : (w0 w : World) (a : Address) (b : net.Address) → StoreMatch U w0 → Later U K w0 w → Mirrors U K w0 a b → Mirrors U K w a b
  mirrors_later w0 w a b start l m = record { holds = λ w1 later. m.holds w1 (later_from U K K w0 w w1 start (weaker_self w0 K) l later) }

  shape_is_word : (d : shape.Shape) → SameShape U (simple ty) d → d ≡ shape.scalar t
  shape_is_word d same =
      let x : HasWord ty d = word_of_shape U ty d c same in
      x.1 ∙ ap (λ u. shape.scalar u) (some_is (sym x.2 ∙ e))

  shape_is_same : (d : shape.Shape) → SameShape U (simple ty) d → shape.is_same_shape d (shape.scalar t) ≡ true
  shape_is_same d same =
      let x : HasWord ty d = word_of_shape U ty d c same in
      ap (λ s. shape.is_same_shape s (shape.scalar t)) x.1 ∙ itself_same ty t x.0 c e x.2

  module _ (w0 w : World) (b : net.Address) (start : StoreMatch U w0) (l : Later U K w0 w) where
    abbrev Takes : Value → Type 0
    Takes x =
        Agrees U K w (QuietMatch U K t) (temporary true (simple ty) x w.src)
        (cond (shape.is_same_shape (net.shape_at b) (shape.scalar t)) (gives [] b w.net) (outside []))

    none_taken : (x : Value) → kept_as (simple ty) x ≡ None → Takes x
    none_taken x none =
        subst (λ o. Agrees U K w (QuietMatch U K t) (some_of o (λ x v. gives [] (constant x) v) w.src)
        (cond (shape.is_same_shape (net.shape_at b) (shape.scalar t)) (gives [] b w.net) (outside []))) (sym none)
        (agrees_outside U K w (QuietMatch U K t) (cond (shape.is_same_shape (net.shape_at b) (shape.scalar t)) (gives [] b w.net) (outside [])))

    kept_or_not : (z : Value6) → Mirrors U K w0 (constant (scalar ty z)) b → SameShape U (simple ty) (net.shape_at b) → (test : Bool)
        → Agrees U K w (QuietMatch U K t) (some_of (if_of_shape test (scalar ty z)) (λ x v. gives [] (constant x) v) w.src)
        (cond (shape.is_same_shape (net.shape_at b) (shape.scalar t)) (gives [] b w.net) (outside []))
    kept_or_not z m d false =
        agrees_outside U K w (QuietMatch U K t) (cond (shape.is_same_shape (net.shape_at b) (shape.scalar t)) (gives [] b w.net) (outside []))
    kept_or_not z m d true =
        subst (λ k. Agrees U K w (QuietMatch U K t) (gives [] (constant (scalar ty z)) w.src) (cond k (gives [] b w.net) (outside [])))
        (sym (shape_is_same (net.shape_at b) d))
        (agrees_gives U K w (QuietMatch U K t) (constant (scalar ty z)) b l.match
        (record { mirrors = mirrors_later w0 w (constant (scalar ty z)) b start l m; whole = refl; plain = λ q s. absurd (cc s); shape_is = shape_is_word (net.shape_at b) d }))

    pub target_is_bound : (x : Value) → Mirrors U K w0 (constant x) b → IsTypedAs U x (net.shape_at b) → Takes x
    target_is_bound (scalar s z) m d =
        by_test (is_same_type ty s) (λ k. is_same_type ty s ≡ k → Takes (scalar s z))
        (λ is test. other s (same_covered ty s c is) m (d s z refl))
        (λ no test. none_taken (scalar s z) (kept_by ty s z c ∙ ap (λ k. if_of_shape (k && is_typed s z) (scalar s z)) no)) refl
      where
        other : (s : Ty) → s ≡ ty → Mirrors U K w0 (constant (scalar s z)) b → SameShape U (simple s) (net.shape_at b) → Takes (scalar s z)
        other s same n g =
            subst (λ u. Takes (scalar u z)) (sym same)
            (subst (λ o. Agrees U K w (QuietMatch U K t) (some_of o (λ x v. gives [] (constant x) v) w.src)
            (cond (shape.is_same_shape (net.shape_at b) (shape.scalar t)) (gives [] b w.net) (outside []))) (sym (kept_by ty ty z c))
            (kept_or_not z (subst (λ u. Mirrors U K w0 (constant (scalar u z)) b) same n) (subst (λ u. SameShape U (simple u) (net.shape_at b)) same g)
            (is_same_type ty ty && is_typed ty z)))
    target_is_bound (fields u xs) m d = none_taken (fields u xs) (no_fields ty u xs c)
    target_is_bound (elements k dims xs) m d = none_taken (elements k dims xs) (no_elements ty k dims xs c)
