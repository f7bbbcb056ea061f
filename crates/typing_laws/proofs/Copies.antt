-- User types that are assigned as wholes.
use Rattle.std.proofs.Common.{◌≡◌, refl, sym, ap, ◌∙◌, subst, true, true≢false, List, []}
use Rattle.vb_tree.specs.BoundTree.{Ty}
use Rattle.bound_tree.specs.declared.body.Mention.{Mention}
use Rattle.bound_tree.specs.Tree.{Declarations, Expr, field, typed, variable}
use Rattle.bound_facts.specs.Locks.{is_same_type}
use Rattle.bound_facts.specs.Node.{type_at}
use Rattle.row_laws.proofs.Composing.{then_assoc}
use Rattle.run_base.specs.Outcomes.{gives, then}
use Rattle.run_base.specs.Positions.{Position}
use Rattle.vb6_run.specs.Expressions.{Context, address_of, declared, finished, value_of}
use Rattle.vb6_run.specs.Lines.{goes_on, keeps_lows, let_to, store_at}
use Rattle.vb6_run.specs.Shapes.{Shape}
use Rattle.vb6_run.specs.Store.{Memory, provided, root, write}
use Rattle.vb6_run.specs.Values.{Value, elements, fields, scalar}
use Rattle.run_matches.specs.CoveredExprs.{Uses, covers_place}
use Rattle.run_matches.specs.UserTypes.{is_user}
use Rattle.typing_laws.specs.Calls.{CallsKeep, SourceJob}
use Rattle.typing_laws.specs.Flat.{flat_uses}
use Rattle.typing_laws.specs.Frames.{Fills, Footprint, Ground, ground}
use Rattle.typing_laws.specs.Plain.{IsShapeOf, IsValueOf, IsWhole, array_shape, scalar_shape, user_shape}
use Rattle.typing_laws.proofs.Ends.{Ends, ends_after, then_ends}
use Rattle.typing_laws.proofs.Fields.{IsPlaced, place_ends, same_users}
use Rattle.typing_laws.proofs.Frames.{frame_at, frame_later}
use Rattle.typing_laws.proofs.Lines.{Good, IsIn, fits_in, in_later}
use Rattle.typing_laws.proofs.Groups.{place_value}
use Rattle.typing_laws.proofs.Wholes.{no_array_user, one_shape, whole_written}

module _ (C : Context) (F : Footprint) (X : SourceJob → Memory → Type 0) (calls : CallsKeep C F X) (mentions : List Mention) where
  abbrev D : Declarations
  D = declared C

  abbrev K : Ground
  K = ground (declared C) F

  abbrev uses : Uses
  uses = flat_uses C.runnable.program C.procedure mentions

  abbrev IsOf : Ty → Memory → Value → Type 0
  IsOf ty v x = IsValueOf D ty x

  -- ---- what is assigned

  -- it is no array
  keeps_whole : (to : Expr) (ty : Ty) (d : Shape) (x : Value) → IsShapeOf D ty d → is_user ty ≡ true → IsWhole d x → keeps_lows C to x ≡ true
  keeps_whole to ty d (fields u xs) shape user p = refl
  keeps_whole to ty d (scalar s z) shape user p = refl
  keeps_whole to _ _ (elements e dims xs) (user_shape t d fs is of) user p = absurd p
  keeps_whole to _ _ (elements e dims xs) (array_shape f rank bounds c) user p = absurd (true≢false (sym user))
  keeps_whole to _ _ (elements e dims xs) (scalar_shape ty c) user p = absurd (plain_no_array (elements e dims xs) p.1)
    where
      plain_no_array : (x : Value) → elements e dims xs ≡ scalar ty p.0 → ⊥
      plain_no_array x h = cc h

  stored_whole : (L : Type 0) (v : Memory) → IsIn C F v → (to : Expr) (ty : Ty) (d : Shape) → IsShapeOf D ty d → is_user ty ≡ true → (x : Value) → IsWhole d x
      → (q : Position) → Fills K v q ty d → Ends K (Good C F) L v (then (store_at C to x (root d q) v) (λ (u : Unit {0}) m. goes_on C m))
  stored_whole L v i to ty d shape user x p q f =
      let s = whole_written K C.frame.env v ty d shape user x p q f in
      subst (λ b. Ends K (Good C F) L v (then (provided b (λ m. write C.frame.env x (root d q) m) v) (λ (u : Unit {0}) m. goes_on C m))) (sym (keeps_whole to ty d x shape user p))
      (subst (λ r. Ends K (Good C F) L v (then r (λ (u : Unit {0}) m. goes_on C m))) (sym s.1)
      (s.2, frame_at F C.runnable C.procedure s.0 C.frame (frame_later F C.runnable C.procedure v s.0 C.frame s.2 i.frame) C.aims.after))

  assigned_whole : (L : Type 0) (v : Memory) → IsIn C F v → (to : Expr) → covers_place uses to ≡ true → is_user (type_at to) ≡ true → (x : Value)
      → IsValueOf D (type_at to) x → Ends K (Good C F) L v (then (then (address_of C to v) (store_at C to x)) (λ (u : Unit {0}) m. goes_on C m))
  assigned_whole L v i to covers user x h =
      let ty : Ty = type_at to in
      let p : IsPlaced C F mentions to ty v = place_ends C F mentions to covers v (fits_in C F v i) in
      let same : h.0 ≡ p.shape = one_shape D ty h.0 p.shape (no_array_user ty user) h.1 p.fits in
      subst (λ r. Ends K (Good C F) L v (then (then (then r finished) (store_at C to x)) (λ (u : Unit {0}) m. goes_on C m))) (sym p.is)
      (subst (λ r. Ends K (Good C F) L v r)
      (sym (then_assoc (gives [] (root p.shape p.position) v) (store_at C to x) (λ (u : Unit {0}) m. goes_on C m)))
      (ends_after K (Good C F) L v [] (then (store_at C to x (root p.shape p.position) v) (λ (u : Unit {0}) m. goes_on C m))
      (stored_whole L v i to ty p.shape p.fits user x (subst (λ d. IsWhole d x) same h.2) p.position p.fills)))

  let_whole : (to : Expr) → covers_place uses to ≡ true → (x : Value) (v : Memory) → let_to C to x v ≡ then (address_of C to v) (store_at C to x)
  let_whole (typed ty (variable k qualified)) c x v = refl
  let_whole (typed ty (field e k)) c x v = refl
  let_whole (typed ty _) c x v = absurd (true≢false (sym c))

  pub copy_ends : (w : Memory) → IsIn C F w → (L : Type 0) (to e : Expr) → is_user (type_at to) ≡ true → is_same_type (type_at to) (type_at e) ≡ true
      → covers_place uses to ≡ true → covers_place uses e ≡ true → Ends K (Good C F) L w (then (then (value_of C e w) (let_to C to)) (λ x s. goes_on C s))
  copy_ends w h L to e user same target source =
      let one : type_at to ≡ type_at e = same_users (type_at to) (type_at e) user same in
      subst (λ r. Ends K (Good C F) L w r) (sym (then_assoc (value_of C e w) (let_to C to) (λ x s. goes_on C s)))
      (then_ends K (IsOf (type_at e)) (Good C F) L w (value_of C e w) (λ y s. then (let_to C to y s) (λ z t. goes_on C t))
      (place_value C F mentions L w (fits_in C F w h) e source (ap is_user (sym one) ∙ user))
      (λ o x v is k m.
      subst (λ r. Ends K (Good C F) L v (then r (λ (u : Unit {0}) t. goes_on C t))) (sym (let_whole to target x v))
      (assigned_whole L v (in_later C F w v k h) to target user x (subst (λ t. IsValueOf D t x) (sym one) m))))
