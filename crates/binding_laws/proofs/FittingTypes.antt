-- What is given to a parameter, or tested, has the type that is wanted, where both have one.
use Rattle.std.proofs.Common.{◌≡◌, ℕ, suc, ◌+◌, Bool, true, false, cond, not, refl, sym, ap, ◌∙◌, subst, true≢false, nat_eq, List, [], ◌∷◌, length, Option, Some, None, arith, ltb-true, ◌<◌}
use Rattle.std.specs.Prelude.{nat_lt, position, slice_get}
use Rattle.std.specs.List.{position_or_len}
use Rattle.up_base.proofs.Tests.{both_true}
use Rattle.vb_tree.specs.BoundTree.{Ty}
use Rattle.vb_tree.specs.declared.declared.ProcKind.{ProcKind}
use Rattle.vb_tree.specs.declared.declared.ProcKind.TheVariants as kind
use Rattle.bound_tree.specs.Tree.{Declarations, Procedure, Variable, Expr, typed, Argument, by_value, by_reference, Passed}
use Rattle.bound_tree.specs.Tree as tree
use Rattle.bound_facts.specs.Node.{type_at}
use Rattle.typing_rows.specs.declared.conversions.Conversion.{Conversion}
use Rattle.typing_rows.specs.declared.conversions.Conversion.TheVariants.{Stands, To, Breaks}
use Rattle.typing_rows.specs.declared.conversions.Conversion.TheVariants as conversions
use Rattle.typing_rows.specs.Conversions.{converts}
use Rattle.typing_rows.specs.Types.{ty_of}
use Rattle.expression_words.specs.Flaws as flaws
use Rattle.expression_words.specs.Flaws.{Typed, known, breaks, on_known}
use Rattle.expression_words.specs.Converting.{gives_none, fails, converted, plain, finally, by_conversion, wanted}
use Rattle.expression_words.specs.Members.{is_kind, is_part, is_property, part, store_part, store_part_of}
use Rattle.run_matches.specs.Covered.{is_plain_kind}
use Rattle.binding_laws.proofs.AssignedTypes.{Fits, Makes, converts_makes}

-- ---- types that fit

abbrev pub IsFit : (wanted_type : Ty) → Typed → Type 0
IsFit t (known e) = Fits t (type_at e)
IsFit t (flaws.unknown f) = Unit {0}

module _ (t : Ty) where
  either_fit : (b : Bool) (x y : Typed) → IsFit t x → IsFit t y → IsFit t (cond b x y)
  either_fit true x y h k = h
  either_fit false x y h k = k

  over_fit : (next : Expr → Typed) (x : Typed) → ((e : Expr) → IsFit t (next e)) → IsFit t (on_known next x)
  over_fit next (known e) h = h e
  over_fit next (flaws.unknown f) h = tt

  converted_fit : (to : Ty) (e : Expr) → Fits t to → IsFit t (converted to e)
  converted_fit to e h =
      either_fit (gives_none e) (flaws.unknown (breaks 21)) (cond (fails to e) (flaws.unknown (breaks 25)) (known (typed to (tree.convert to e)))) tt
      (either_fit (fails to e) (flaws.unknown (breaks 25)) (known (typed to (tree.convert to e))) tt h)

  finally_fit : (e : Expr) (c : Conversion) → Makes t (type_at e) c → IsFit t (finally e c)
  finally_fit e Stands h = h
  finally_fit e (To u) h = converted_fit (ty_of u) e h
  finally_fit e conversions.ByDefault h = tt
  finally_fit e (Breaks rule) h = tt

  -- what is wanted as a type
  pub wanted_fit : (D : Declarations) (e : Expr) → IsFit t (wanted D (λ (s : Ty). converts s t) e)
  wanted_fit D e = by (converts (type_at e) t) (converts_makes (type_at e) t)
    where
      by : (c : Conversion) → Makes t (type_at e) c → IsFit t (by_conversion D (λ (s : Ty). converts s t) e c)
      by Stands h = h
      by (To u) h = converted_fit (ty_of u) e h
      by conversions.ByDefault h =
          over_fit (λ (y : Expr). finally y (converts (type_at y) t)) (plain D e) (λ y. finally_fit y (converts (type_at y) t) (converts_makes (type_at y) t))
      by (Breaks rule) h = tt

  pub over_wanted_fit : (D : Declarations) (x : Typed) → IsFit t (on_known (wanted D (λ (s : Ty). converts s t)) x)
  over_wanted_fit D x = over_fit (wanted D (λ (s : Ty). converts s t)) x (wanted_fit D)

-- ---- the parts of properties

-- the item that is found passes
pub record Found {A : Type 0} (f : A → Bool) (xs : List A) (i : ℕ) : Type 0 where
  pub item : A
  pub is : slice_get xs i ≡ Some item
  pub passes : f item ≡ true

found_at : {A : Type 0} (f : A → Bool) (xs : List A) (n : ℕ) → position_or_len f xs ≡ n → n < length xs → Found f xs n
found_at f [] n e l = absurd (omega (arith, l))
found_at {A} f (y ∷ ys) n e l = by (f y) refl (λ less. found_at f ys (position_or_len f ys) refl less)
  where
    by : (b : Bool) → f y ≡ b → (position_or_len f ys < length ys → Found f ys (position_or_len f ys)) → Found f (y ∷ ys) n
    by true d more =
        let first : n ≡ 0 = sym e ∙ ap (λ b. cond (not b) (1 + position_or_len f ys) 0) d in
        subst (λ k. Found f (y ∷ ys) k) (sym first) (record { item = y; is = refl; passes = d })
    by false d more =
        let later : n ≡ 1 + position_or_len f ys = sym e ∙ ap (λ b. cond (not b) (1 + position_or_len f ys) 0) d in
        let next : n ≡ suc (position_or_len f ys) = omega (arith, later) in
        let less : position_or_len f ys < length ys = omega (arith, l, later) in
        let r : Found f ys (position_or_len f ys) = more less in
        subst (λ k. Found f (y ∷ ys) k) (sym next) (record { item = r.item; is = r.is; passes = r.passes })

pub position_found : {A : Type 0} (f : A → Bool) (xs : List A) (i : ℕ) → position f xs ≡ Some i → Found f xs i
position_found f xs i e = by (nat_lt (position_or_len f xs) (length xs)) refl e
  where
    by : (b : Bool) → nat_lt (position_or_len f xs) (length xs) ≡ b → cond b (Some (position_or_len f xs)) None ≡ Some i → Found f xs i
    by true t e =
        let same : position_or_len f xs ≡ i = cc e in
        found_at f xs i same (subst (λ n. n < length xs) same (ltb-true (position_or_len f xs) (length xs) t))
    by false t e = absurd (cc e)

part_is_plain : (k j : ProcKind) → is_kind k j ≡ true → is_plain_kind k ≡ false → is_plain_kind j ≡ false
part_is_plain kind.Get kind.Get h i = refl
part_is_plain kind.Let kind.Let h i = refl
part_is_plain kind.Set kind.Set h i = refl
part_is_plain kind.Sub j h i = absurd (true≢false i)
part_is_plain kind.Function j h i = absurd (true≢false i)
part_is_plain _ _ h i = absurd (true≢false (sym h))

-- the part of a property that takes a value is no Sub and no Function
pub no_plain_part : (D : Declarations) (k : ProcKind) (p q : ℕ) → is_plain_kind k ≡ false → store_part D k p ≡ Some q
    → (x : Procedure) × (slice_get D.procs q ≡ Some x) × (is_plain_kind x.kind ≡ false)
no_plain_part D k p q plain e = by (slice_get D.procs p) e
  where
    by : (o : Option Procedure) → store_part_of D k o ≡ Some q → (x : Procedure) × (slice_get D.procs q ≡ Some x) × (is_plain_kind x.kind ≡ false)
    by None e = absurd (cc e)
    by (Some y) e = at (is_property y.kind) e
      where
        at : (b : Bool) → cond b (part D k y.first.0) None ≡ Some q → (x : Procedure) × (slice_get D.procs q ≡ Some x) × (is_plain_kind x.kind ≡ false)
        at false e = absurd (cc e)
        at true e =
            let r : Found (is_part y.first.0 k) D.procs q = position_found (is_part y.first.0 k) D.procs q e in
            (r.item, r.is, part_is_plain k r.item.kind (both_true (nat_eq r.item.first.0 y.first.0) (is_kind k r.item.kind) r.passes).1 plain)
