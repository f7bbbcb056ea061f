-- Assignments keep a well-typed frame well typed, or leave.
use Rattle.std.proofs.Common.{false, ◌≡◌, ◌⊎◌, inl, inr, sym, ap, ◌∙◌, subst, ℕ, Bool, true, true≢false, List, [], Some}
use Rattle.up_base.proofs.Tests.{both_true}
use Rattle.vb_tree.specs.BoundTree.{Ty}
use Rattle.vb_tree.specs.declared.declared.VarId.{VarId}
use Rattle.vb_tree.specs.declared.value.Value6.{Value6}
use Rattle.bound_tree.specs.declared.body.Mention.{Mention}
use Rattle.bound_tree.specs.Tree.{Declarations, Expr, Exprs, typed, variable, field, element, with_object}
use Rattle.bound_facts.specs.Node.{type_at}
use Rattle.row_laws.proofs.Composing.{then_assoc}
use Rattle.run_base.specs.Outcomes.{Output, after, gives, then}
use Rattle.vb6_run.specs.Expressions.{Context, address_of, declared, finished, value_of}
use Rattle.vb6_run.specs.Lines.{goes_on, let_to, store_at}
use Rattle.vb6_run.specs.Runnables.{variable_address}
use Rattle.vb6_run.specs.Store.{Address, Held, Memory, single, with_held, write}
use Rattle.vb6_run.specs.Values.{Value, scalar}
use Rattle.run_matches.specs.CoveredVariables.{covers_type, is_loud}
use Rattle.run_matches.specs.CoveredExprs.{Uses, is_changeable}
use Rattle.run_matches.specs.CoveredLines.{is_ordered}
use Rattle.typing_laws.specs.Calls.{CallsKeep, SourceJob}
use Rattle.typing_laws.specs.Flat.{flat_uses}
use Rattle.typing_laws.specs.Frames.{Footprint, Ground, Keeps, ground}
use Rattle.typing_laws.specs.Leaving.{Leaves, at_gone}
use Rattle.typing_laws.specs.Plain.{IsValue, Plain, holds_scalar}
use Rattle.typing_laws.proofs.Addresses.{IsConstant, IsSeat, IsUnwritten, IsWritten, no_constant, root_written, seat_of, write_seat}
use Rattle.typing_laws.proofs.Elements.{IsFound}
use Rattle.typing_laws.proofs.Ends.{Ends, ends_after, ends_weaker, keeps_then, then_ends}
use Rattle.typing_laws.proofs.Found.{IsFieldAt, never_gone, seat_found}
use Rattle.typing_laws.proofs.Held.{Single, single_of}
use Rattle.typing_laws.proofs.Places.{keeps_changed}
use Rattle.typing_laws.proofs.Expressions.{IsTyped, same_type, variable_is, variable_place}
use Rattle.typing_laws.proofs.Flat.{variable_used}
use Rattle.typing_laws.proofs.Frames.{frame_at, frame_later}
use Rattle.typing_laws.proofs.Lines.{Good, IsFine, IsIn, fine_address, fine_ends, fine_type, fits_in, in_later}
use Rattle.typing_laws.proofs.Uses.{PlaceOf, Used, use_is}

module _ (C : Context) (F : Footprint) (X : SourceJob → Memory → Type 0) (calls : CallsKeep C F X) (mentions : List Mention) where
  abbrev D : Declarations
  D = declared C

  abbrev K : Ground
  K = ground (declared C) F

  abbrev uses : Uses
  uses = flat_uses C.runnable.program C.procedure mentions

  abbrev Fine : Expr → Type 0
  Fine e = IsFine C F X calls mentions e

  -- the value of an assignment is written where the variable stands
  module _ (L : Type 0) (v : Memory) (ty : Ty) (x : VarId) (qualified : Bool) (fine : Fine (typed ty (variable x qualified)))
      (changes : uses.exact x ≡ true) (i : IsIn C F v) (gone : Leaves C X (typed ty (variable x qualified)) v → L) where
    abbrev to : Expr
    to = typed ty (variable x qualified)

    written_by : (t : Ty) (a : Address) (z : Value6) (plain : Plain t z) → variable_address D C.frame x.0 ≡ Some a
        → IsWritten K v t C.frame.env z plain a ⊎ IsUnwritten K v t C.frame.env z plain a
        → Ends K (Good C F) L v (then (write C.frame.env (scalar t z) a v) (λ (u : Unit {0}) m. goes_on C m))
    written_by t a z plain is (inl r) =
        subst (λ o. Ends K (Good C F) L v (then o (λ (u : Unit {0}) m. goes_on C m))) (sym r.writes)
        (r.keeps, frame_at F C.runnable C.procedure r.memory C.frame (frame_later F C.runnable C.procedure v r.memory C.frame r.keeps i.frame) C.aims.after)
    written_by t a z plain is (inr n) =
        subst (λ o. Ends K (Good C F) L v (then o (λ (u : Unit {0}) m. goes_on C m))) (sym n.1) (gone (at_gone ty x qualified v a is n.0))

    stored_ends : (y : Value) → IsValue ty y → Ends K (Good C F) L v (then (let_to C to y v) (λ (u : Unit {0}) m. goes_on C m))
    stored_ends y m =
        let u : Used D C.procedure x = use_is C.runnable.program C.procedure mentions x (variable_used uses ty x qualified fine.covers) in
        let p : PlaceOf C.runnable.program F C.frame v x.0 u.variable = variable_place C F v (fits_in C F v i) x u in
        let same : ty ≡ u.variable.ty = same_type D C.procedure ty x u fine.typed in
        let seat : IsSeat K v ty p.0 = subst (λ t. IsSeat K v t p.0) (sym same) (seat_of C.runnable.program F v x.0 u.variable p.0 p.2) in
        let loud = sym (ap (λ o. is_loud C.runnable.program x.0 o) u.is_variable) ∙ changes in
        let goes = λ (z : Unit {0}) (t : Memory). goes_on C t in
        subst (λ z. Ends K (Good C F) L v (then (let_to C to z v) goes)) (sym m.1)
        (subst (λ r. Ends K (Good C F) L v (then (then (then r finished) (store_at C to (scalar ty m.0))) goes)) (sym (variable_is C ty x qualified v p.0 p.1 u.plain))
        (subst (λ r. Ends K (Good C F) L v r)
        (sym (then_assoc (gives [] p.0 v) (store_at C to (scalar ty m.0)) goes))
        (ends_after K (Good C F) L v [] (then (write C.frame.env (scalar ty m.0) p.0 v) goes)
        (written_by ty p.0 m.0 m.2 p.1
        (write_seat K v ty C.frame.env m.0 m.2 p.0 (fine_type C F X calls mentions to fine) seat (no_constant C.runnable.program F v x.0 u.variable p.0 p.2 loud))))))

  -- the value is written where the field stands
  field_ends : (L : Type 0) (v : Memory) (ty : Ty) (d : Expr) (k : ℕ) → covers_type ty ≡ true → IsFieldAt C F ty d k v → IsIn C F v → (y : Value) → IsValue ty y
      → Ends K (Good C F) L v (then (let_to C (typed ty (field d k)) y v) (λ (u : Unit {0}) m. goes_on C m))
  field_ends L v ty d k c f i y m =
      let to : Expr = typed ty (field d k) in
      let one : Single ty (v.held f.position) = single_of ty (v.held f.position) c f.stands.holds in
      let h : Held = single ty m.0 in
      let u : Memory = with_held f.position h v in
      let keeps : Keeps K v u = keeps_changed K v f.position ty h f.stands (holds_scalar ty m.0 m.2) in
      let goes = λ (z : Unit {0}) (t : Memory). goes_on C t in
      subst (λ z. Ends K (Good C F) L v (then (let_to C to z v) goes)) (sym m.1)
      (subst (λ r. Ends K (Good C F) L v (then (then (then r finished) (store_at C to (scalar ty m.0))) goes)) (sym f.is)
      (subst (λ r. Ends K (Good C F) L v (then (after [] r) goes)) (sym (root_written K v ty C.frame.env m.0 m.2 f.position one.value one.holds))
      (keeps, frame_at F C.runnable C.procedure u C.frame (frame_later F C.runnable C.procedure v u C.frame keeps i.frame) C.aims.after)))

  -- the value is written where the element is
  module _ (L : Type 0) (v : Memory) (ty : Ty) (d : Expr) (indexes : Exprs) (fine : Fine (typed ty (element d indexes))) (i : IsIn C F v)
      (leaves : Leaves C X (typed ty (element d indexes)) v → L) where
    abbrev item_to : Expr
    item_to = typed ty (element d indexes)

    element_by : (m : Memory) → Keeps K v m → (b : Address) (z : Value6) (plain : Plain ty z) → IsFound K ty m b
        → IsWritten K m ty C.frame.env z plain b ⊎ IsUnwritten K m ty C.frame.env z plain b
        → Ends K (Good C F) L m (then (write C.frame.env (scalar ty z) b m) (λ (u : Unit {0}) n. goes_on C n))
    element_by m k b z plain f (inl r) =
        subst (λ o. Ends K (Good C F) L m (then o (λ (u : Unit {0}) n. goes_on C n))) (sym r.writes) (
          r.keeps,
          frame_at F C.runnable C.procedure r.memory C.frame
              (frame_later F C.runnable C.procedure v r.memory C.frame (keeps_then K v m r.memory k r.keeps) i.frame) C.aims.after,
        )
    element_by m k b z plain f (inr n) = absurd (never_gone K ty m b f n.0)

    no_value_there : (m : Memory) (b : Address) → IsFound K ty m b → IsConstant b → ⊥
    no_value_there m b f n = subst IsConstant f.is n

    element_ends : (y : Value) → IsValue ty y → Ends K (Good C F) L v (then (let_to C item_to y v) (λ (u : Unit {0}) m. goes_on C m))
    element_ends y p =
        let goes = λ (z : Unit {0}) (t : Memory). goes_on C t in
        subst (λ z. Ends K (Good C F) L v (then (let_to C item_to z v) goes)) (sym p.1)
        (subst (λ r. Ends K (Good C F) L v r) (sym (then_assoc (address_of C item_to v) (store_at C item_to (scalar ty p.0)) goes))
        (then_ends K (IsFound K ty) (Good C F) L v (address_of C item_to v) (λ b m. then (store_at C item_to (scalar ty p.0) b m) goes)
        (ends_weaker K (IsFound K ty) (Leaves C X item_to v) L v (address_of C item_to v) leaves (fine_address C F X calls mentions item_to fine v i))
        (λ o b m one k f.
        element_by m k b p.0 p.2 f
        (write_seat K m ty C.frame.env p.0 p.2 b (fine_type C F X calls mentions item_to fine) (seat_found K ty m b f) (no_value_there m b f)))))

  -- an assignment to a variable that is changed, or to an element
  pub assign_ends : (w : Memory) → IsIn C F w → (L : Type 0) (to e : Expr) → (is_changeable uses to ≡ true) ⊎ (is_ordered uses to e ≡ true) → Fine to → Fine e
      → type_at e ≡ type_at to → (Leaves C X e w → L) → ((o : List Output) (x : Value) (v : Memory) → value_of C e w ≡ gives o x v → Leaves C X to v → L)
      → Ends K (Good C F) L w (then (then (value_of C e w) (let_to C to)) (λ x s. goes_on C s))
  assign_ends w h L to e kind target f same leads_ gone =
      subst (λ r. Ends K (Good C F) L w r) (sym (then_assoc (value_of C e w) (let_to C to) (λ x s. goes_on C s)))
      (then_ends K (IsTyped (type_at e)) (Good C F) L w (value_of C e w) (λ y s. then (let_to C to y s) (λ z t. goes_on C t))
      (ends_weaker K (IsTyped (type_at e)) (Leaves C X e w) L w (value_of C e w) leads_ (fine_ends C F X calls mentions e f w h))
      (λ o y v one k m. by kind target v (in_later C F w v k h) (gone o y v one) y (subst (λ t. IsValue t y) same m)))
    where
      changes : (to : Expr) → is_changeable uses to ≡ true → Fine to → (v : Memory) → IsIn C F v → (Leaves C X to v → L) → (y : Value) → IsValue (type_at to) y
          → Ends K (Good C F) L v (then (let_to C to y v) (λ (u : Unit {0}) m. goes_on C m))
      changes (typed ty (variable x qualified)) c target v i leaves y m = stored_ends L v ty x qualified target c i leaves y m
      changes (typed ty (field d k)) c target v i leaves y m = field_ends L v ty d k (fine_type C F X calls mentions (typed ty (field d k)) target) (fine_address C F X calls mentions (typed ty (field d k)) target v i) i y m
      changes (typed ty (with_object r)) c target v i leaves y m = absurd (true≢false (sym (both_true (covers_type ty) false target.covers).1))
      changes (typed ty _) c target v i leaves y m = absurd (true≢false (sym c))

      ordered : (to : Expr) → is_ordered uses to e ≡ true → Fine to → (v : Memory) → IsIn C F v → (Leaves C X to v → L) → (y : Value) → IsValue (type_at to) y
          → Ends K (Good C F) L v (then (let_to C to y v) (λ (u : Unit {0}) m. goes_on C m))
      ordered (typed ty (element d indexes)) c target v i leaves y m = element_ends L v ty d indexes target i leaves y m
      ordered (typed ty _) c target v i leaves y m = absurd (true≢false (sym c))

      by : (is_changeable uses to ≡ true) ⊎ (is_ordered uses to e ≡ true) → (target : Fine to) (v : Memory) → IsIn C F v → (Leaves C X to v → L) → (y : Value)
          → IsValue (type_at to) y → Ends K (Good C F) L v (then (let_to C to y v) (λ (u : Unit {0}) m. goes_on C m))
      by (inl c) target v i leaves y m = changes to c target v i leaves y m
      by (inr c) target v i leaves y m = ordered to c target v i leaves y m
