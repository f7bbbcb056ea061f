-- Places of user types as values and as arguments.
use Rattle.std.proofs.Common.{◌≡◌, sym, ap, ◌∙◌, subst, Bool, true, false, not, ◌||◌, true≢false, List, [], Some}
use Rattle.vb_tree.specs.BoundTree.{Ty}
use Rattle.bound_tree.specs.declared.body.Mention.{Mention}
use Rattle.bound_tree.specs.Tree.{Declarations, Expr, Variable, field, typed, variable}
use Rattle.bound_tree.specs.Tree as tree
use Rattle.bound_facts.specs.Node.{is_array_type, type_at}
use Rattle.run_base.specs.Frames.{by_address, by_value}
use Rattle.run_base.specs.Outcomes.{after, found, gives, then}
use Rattle.written_trees.specs.Arguments.{is_reference_owner}
use Rattle.vb6_run.specs.Expressions.{Context, argument_of, at_address, declared, given_address, given_parts, goes_by_address, type_shape, value_in, value_of}
use Rattle.vb6_run.specs.Store.{Address, Memory, provided, read, root}
use Rattle.vb6_run.specs.Values.{Value, is_of_shape}
use Rattle.run_matches.specs.CoveredExprs.{Uses, covers_place}
use Rattle.run_matches.specs.UserTypes.{is_user}
use Rattle.typing_laws.specs.Flat.{flat_uses}
use Rattle.typing_laws.specs.Frames.{Fills, Footprint, Ground, IsGiven, ground}
use Rattle.typing_laws.specs.Plain.{IsShapeOf, IsValueOf}
use Rattle.typing_laws.proofs.Ends.{Ends, keeps_self, then_ends}
use Rattle.typing_laws.proofs.Expressions.{Fits, or_true}
use Rattle.typing_laws.proofs.Fields.{IsPlaced, place_ends, place_no_object}
use Rattle.typing_laws.proofs.Wholes.{IsRead, no_array_user, whole_fits, whole_read}

module _ (C : Context) (F : Footprint) (mentions : List Mention) where
  abbrev D : Declarations
  D = declared C

  abbrev K : Ground
  K = ground (declared C) F

  abbrev uses : Uses
  uses = flat_uses C.runnable.program C.procedure mentions

  abbrev IsOf : Ty → Memory → Value → Type 0
  IsOf ty v x = IsValueOf D ty x

  -- a place as a value
  pub place_value : (E : Type 0) (w : Memory) → Fits C F w → (e : Expr) → covers_place uses e ≡ true → is_user (type_at e) ≡ true
      → Ends K (IsOf (type_at e)) E w (value_of C e w)
  place_value E w fits e covers user =
      let ty : Ty = type_at e in
      let p : IsPlaced C F mentions e ty w = place_ends C F mentions e covers w fits in
      let r : IsRead K w p.shape p.position = whole_read K w ty p.shape (no_array_user ty user) p.fits p.position p.fills in
      subst (λ o. Ends K (IsOf ty) E w o)
      (sym (ap (λ o. then o (value_in C e)) p.is
      ∙ ap (λ o. after [] (then (after [] (found o w)) (λ x m. provided (is_of_shape (type_shape D ty) x) (λ m. gives [] x m) m))) r.1
      ∙ ap (λ b. after [] (after [] (provided b (λ m. gives [] r.0 m) w))) (whole_fits D ty p.shape r.0 p.fits user r.2)))
      (keeps_self K w, (p.shape, p.fits, r.2))

  -- it goes by value
  pub place_by_value : (E : Type 0) (w : Memory) → Fits C F w → (y : Variable) (e : Expr) (quiet : Bool) → covers_place uses e ≡ true → is_user (type_at e) ≡ true
      → type_at e ≡ y.ty → Ends K (λ v g. IsGiven K v (Some y) g) E w (argument_of C quiet (tree.by_value e) w)
  place_by_value E w fits y e quiet covers user same =
      then_ends K (IsOf (type_at e)) (λ v g. IsGiven K v (Some y) g) E w (value_of C e w) (λ x v. gives [] (by_value x) v) (place_value E w fits e covers user)
      (λ o x v one k p. (keeps_self K v, subst (λ t. IsValueOf D t x) same p))

  place_goes : (e : Expr) → covers_place uses e ≡ true → goes_by_address e ≡ true
  place_goes (typed ty (variable x qualified)) h = or_true (is_array_type ty)
  place_goes (typed ty (field e k)) h =
      ap (λ b. is_array_type ty || not b) (place_no_object C F mentions (typed ty (field e k)) h) ∙ or_true (is_array_type ty)
  place_goes (typed ty _) h = absurd (true≢false (sym h))

  -- and by reference
  pub place_by_reference : (E : Type 0) (w : Memory) → Fits C F w → (y : Variable) (e : Expr) (quiet : Bool) → covers_place uses e ≡ true → is_user (type_at e) ≡ true
      → type_at e ≡ y.ty → is_reference_owner y.owner ≡ true → Ends K (λ v g. IsGiven K v (Some y) g) E w (argument_of C quiet (tree.by_reference e) w)
  place_by_reference E w fits y e quiet covers user same reference =
      let ty : Ty = type_at e in
      let p : IsPlaced C F mentions e ty w = place_ends C F mentions e covers w fits in
      let a : Address = root p.shape p.position in
      let r : IsRead K w p.shape p.position = whole_read K w ty p.shape (no_array_user ty user) p.fits p.position p.fills in
      subst (λ r. Ends K (λ v g. IsGiven K v (Some y) g) E w r)
      (sym (ap (λ r. then r (given_parts C quiet e (goes_by_address e))) p.is ∙ ap (λ b. after [] (given_parts C quiet e b (at_address a) w)) (place_goes e covers)))
      (by quiet a
      (reference, subst (λ t. IsShapeOf D t p.shape) same p.fits, subst (λ t. Fills K w p.position t p.shape) same p.fills) r.0 (ap (λ o. found o w) r.1))
    where
      by : (quiet : Bool) (a : Address) → IsGiven K w (Some y) (by_address a) → (x : Value) → read a w ≡ gives [] x w
          → Ends K (λ v g. IsGiven K v (Some y) g) E w (after [] (after [] (given_address quiet a w)))
      by false a good x reads = (keeps_self K w, good)
      by true a good x reads =
          subst (λ o. Ends K (λ v g. IsGiven K v (Some y) g) E w (after [] (after [] (then o (λ x w. gives [] (by_address a) w)))))
          (sym reads) (keeps_self K w, good)
