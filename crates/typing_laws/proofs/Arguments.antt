-- The arguments of calls: values, variables, elements, and arrays.
use Rattle.std.proofs.Common.{false, ◌≡◌, refl, sym, ap, ◌∙◌, subst, ℕ, Bool, true, ◌&&◌, ◌||◌, true≢false, List, [], Option, Some, ◌⊎◌, inl, inr}
use Rattle.std.specs.Prelude.{slice_get}
use Rattle.up_base.proofs.Tests.{both_true}
use Rattle.vb_tree.specs.BoundTree.{Ty}
use Rattle.vb_tree.specs.BoundTree as types
use Rattle.vb_tree.specs.declared.declared.VarId.{VarId}
use Rattle.bound_tree.specs.declared.body.Mention.{Mention}
use Rattle.bound_tree.specs.Tree.{Declarations, Procedure, Program, Variable, Expr, typed, Term, constant, variable, field, element, call, library, unary, binary, convert, new_object, me, with_object, err_number, err_raise, err_clear, is_same, loose, Object, no_object, of_object, Exprs, no_exprs, next_expr, Argument, Passed, no_passed, next_passed}
use Rattle.bound_tree.specs.Tree as tree
use Rattle.bound_facts.specs.Locks.{is_same_type}
use Rattle.bound_facts.specs.Node.{type_at, is_array_type}
use Rattle.row_laws.proofs.Composing.{then_assoc}
use Rattle.run_base.specs.Frames.{by_value, by_address}
use Rattle.run_base.specs.Outcomes.{gives, after, then}
use Rattle.written_trees.specs.Arguments.{is_reference_owner}
use Rattle.vb6_run.specs.Expressions.{Context, at_address, declared, value_in, parts_of, value_of, given_address, given_parts, goes_by_address, argument_of}
use Rattle.vb6_run.specs.Runnables.{variable_address}
use Rattle.vb6_run.specs.Store as store
use Rattle.vb6_run.specs.Store.{Address, root, Memory, SourceGiven}
use Rattle.vb6_run.specs.Values.{Value}
use Rattle.run_matches.specs.CoveredVariables.{covers_type, is_loud}
use Rattle.run_matches.specs.CoveredExprs.{Uses, covers_expr, is_passable, covers_array, covers_exprs}
use Rattle.run_matches.specs.Covered.{is_referred}
use Rattle.typing_laws.specs.Flat.{flat_uses}
use Rattle.typing_laws.specs.Calls.{CallsKeep, SourceJob}
use Rattle.typing_laws.specs.Frames.{IsGiven}
use Rattle.typing_laws.specs.Leaving.{Leaves, at_gone}
use Rattle.typing_laws.specs.Plain.{IsValue}
use Rattle.typing_laws.specs.Typed.{has_type, is_typed}
use Rattle.typing_laws.proofs.Addresses.{IsConstant, IsRead, IsSeat, IsUnread, no_constant, read_seat, seat_of}
use Rattle.typing_laws.proofs.Ends.{Ends, ends_after, keeps_self, then_ends}
use Rattle.typing_laws.proofs.Expressions.{Fits, IsTyped, no_array, or_true, same_type, variable_is, variable_place}
use Rattle.typing_laws.proofs.Plain.{same_as}
use Rattle.typing_laws.proofs.Uses.{PlaceOf, Used, use_is}
use Rattle.typing_laws.specs.Frames.{Footprint, Ground, Stands, ground}
use Rattle.typing_laws.specs.Flat.{is_flat}
use Rattle.typing_laws.specs.Plain.{IsShapeOf, IsValueOf, array_shape}
use Rattle.typing_laws.proofs.Wholes.{of_scalar}
use Rattle.typing_laws.specs.Typed.{fits_type}
use Rattle.typing_laws.proofs.Arrays.{HasArray, array_place, array_read, stands_with_rank, table_at}
use Rattle.typing_laws.proofs.Expressions.{fit_same}
use Rattle.typing_laws.proofs.Fields.{field_given}
use Rattle.typing_laws.proofs.Flat.{NamesArray, variable_used}
use Rattle.typing_laws.proofs.Found.{IsRight, element_given}
use Rattle.typing_laws.proofs.Made.{FlatKind, flat_kinds, flat_known}
use Rattle.typing_laws.proofs.Uses.{UsedArray, array_use_is}
use Rattle.vb6_run.specs.Shapes.{array, simple}

-- the address of a variable that is changed
given_seat : (K : Ground) (w : Memory) (y : Variable) (a : Address) → is_reference_owner y.owner ≡ true → IsSeat K w y.ty a → (IsConstant a → ⊥)
    → IsGiven K w (Some y) (by_address a)
given_seat K w y (root d q) reference h n = (reference, h.0, h.1)
given_seat K w y (store.item e q j path) reference h n = (reference, h)
given_seat K w y (store.constant x) reference h n = absurd (n tt)

module _ (C : Context) (F : Footprint) (X : SourceJob → Memory → Type 0) (calls : CallsKeep C F X) (mentions : List Mention) where
  abbrev D : Declarations
  D = declared C

  abbrev K : Ground
  K = ground (declared C) F

  abbrev P : Program
  P = C.runnable.program

  abbrev uses : Uses
  uses = flat_uses C.runnable.program C.procedure mentions

  -- ---- one argument

  abbrev GoodGiven : Option Variable → Memory → SourceGiven → Type 0
  GoodGiven o v g = IsGiven K v o g

  value_given : (y : Variable) (t : Ty) (x : Value) (v : Memory) → t ≡ y.ty → IsValue t x → IsGiven K v (Some y) (by_value x)
  value_given y t x v e h = subst (λ s. IsValueOf D s x) e (of_scalar D t x h)

  pub by_value_ends : (w : Memory) (y : Variable) (e : Expr) (quiet : Bool) → type_at e ≡ y.ty
      → Ends K (IsTyped (type_at e)) (Leaves C X e w) w (value_of C e w)
      → Ends K (GoodGiven (Some y)) (Leaves C X e w) w (argument_of C quiet (tree.by_value e) w)
  by_value_ends w y e quiet same h =
      then_ends K (IsTyped (type_at e)) (GoodGiven (Some y)) (Leaves C X e w) w (value_of C e w) (λ x v. gives [] (by_value x) v) h
      (λ o x v one k p. (keeps_self K v, value_given y (type_at e) x v same p))

  -- a variable goes by its address
  variable_given : (w : Memory) → Fits C F w → (y : Variable) (ty : Ty) (x : VarId) (qualified quiet : Bool) → uses.scalar x ≡ true → uses.exact x ≡ true
      → has_type ty (slice_get D.vars x.0) ≡ true → ty ≡ y.ty → is_reference_owner y.owner ≡ true
      → Ends K (GoodGiven (Some y)) (Leaves C X (typed ty (variable x qualified)) w) w (argument_of C quiet (tree.by_reference (typed ty (variable x qualified))) w)
  variable_given w fits y ty x qualified quiet used exact typing same reference =
      let u : Used D C.procedure x = use_is P C.procedure mentions x used in
      let p : PlaceOf P F C.frame w x.0 u.variable = variable_place C F w fits x u in
      let e : Expr = typed ty (variable x qualified) in
      let one : u.variable.ty ≡ y.ty = sym (same_type D C.procedure ty x u typing) ∙ same in
      let seat : IsSeat K w y.ty p.0 = subst (λ t. IsSeat K w t p.0) one (seat_of P F w x.0 u.variable p.0 p.2) in
      let good : IsGiven K w (Some y) (by_address p.0) =
      given_seat K w y p.0 reference seat (no_constant P F w x.0 u.variable p.0 p.2 (sym (ap (λ o. is_loud P x.0 o) u.is_variable) ∙ exact)) in
      subst (λ r. Ends K (GoodGiven (Some y)) (Leaves C X e w) w r)
      (sym (ap (λ r. then r (given_parts C quiet e (goes_by_address e))) (variable_is C ty x qualified w p.0 p.1 u.plain)
      ∙ ap (λ b. after [] (given_parts C quiet e b (at_address p.0) w)) (or_true (is_array_type ty))))
      (ends_after K (GoodGiven (Some y)) (Leaves C X e w) w [] (after [] (given_address quiet p.0 w))
      (ends_after K (GoodGiven (Some y)) (Leaves C X e w) w [] (given_address quiet p.0 w)
      (by p.0 quiet p.1 good (read_seat K w y.ty p.0 (subst (λ t. covers_type t ≡ true) one u.covers) seat))))
    where
      by : (a : Address) (quiet : Bool) → variable_address D C.frame x.0 ≡ Some a → IsGiven K w (Some y) (by_address a) → IsRead K w y.ty a ⊎ IsUnread K w y.ty a
          → Ends K (GoodGiven (Some y)) (Leaves C X (typed ty (variable x qualified)) w) w (given_address quiet a w)
      by a false is good r = (keeps_self K w, good)
      by a true is good (inl r) =
          subst (λ o. Ends K (GoodGiven (Some y)) (Leaves C X (typed ty (variable x qualified)) w) w (then o (λ x w. gives [] (by_address a) w))) (sym r.reads)
          (keeps_self K w, good)
      by a true is good (inr n) =
          subst (λ o. Ends K (GoodGiven (Some y)) (Leaves C X (typed ty (variable x qualified)) w) w (then o (λ x w. gives [] (by_address a) w))) (sym n.1)
          (at_gone ty x qualified w a is n.0)

  -- what is converted goes as a temporary
  converted_given : (w : Memory) (y : Variable) (ty to : Ty) (e : Expr) (quiet : Bool) → covers_type ty ≡ true → ty ≡ y.ty
      → Ends K (IsTyped ty) (Leaves C X (typed ty (convert to e)) w) w (value_of C (typed ty (convert to e)) w)
      → Ends K (GoodGiven (Some y)) (Leaves C X (typed ty (convert to e)) w) w (argument_of C quiet (tree.by_reference (typed ty (convert to e))) w)
  converted_given w y ty to e quiet c same h =
      let d : Expr = typed ty (convert to e) in
      subst (λ r. Ends K (GoodGiven (Some y)) (Leaves C X d w) w r)
      (then_assoc (parts_of C d w) (value_in C d) (λ x v. gives [] (by_value x) v)
      ∙ sym (ap (λ b. then (parts_of C d w) (given_parts C quiet d (b || false))) (no_array ty c)))
      (then_ends K (IsTyped ty) (GoodGiven (Some y)) (Leaves C X d w) w (value_of C d w) (λ x v. gives [] (by_value x) v) h
      (λ o x v one k p. (keeps_self K v, value_given y ty x v same p)))

  no_reference : (ty : Ty) (t : Term) → is_referred (typed ty t) ≡ false → is_referred (typed ty t) ≡ true → ⊥
  no_reference ty t a h = true≢false (sym h ∙ a)

  -- an array goes by its address
  named_given : (w : Memory) → Fits C F w → (y : Variable) (el : Ty) (rank : ℕ) (x : VarId) (qualified quiet : Bool) → uses.array x el ≡ true → is_flat D y ≡ true
      → fits_type y.ty (types.array el rank) ≡ true → is_reference_owner y.owner ≡ true
      → Ends K (GoodGiven (Some y)) (Leaves C X (typed (types.array el rank) (variable x qualified)) w) w
      (argument_of C quiet (tree.by_reference (typed (types.array el rank) (variable x qualified))) w)
  named_given w fits y el rank x qualified quiet used flat fit reference =
      let u : UsedArray D C.procedure x el = (array_use_is P C.procedure mentions x el used).0 in
      let h : HasArray C F w x.0 el = array_place C F w fits x el u in
      let d : Expr = typed (types.array el rank) (variable x qualified) in
      let there : Address = root (array (simple el) h.bounds) h.place in
      subst (λ r. Ends K (GoodGiven (Some y)) (Leaves C X d w) w (then r (given_parts C quiet d true))) (sym (variable_is C (types.array el rank) x qualified w there h.is u.plain))
      (ends_after K (GoodGiven (Some y)) (Leaves C X d w) w [] (after [] (given_address quiet there w))
      (ends_after K (GoodGiven (Some y)) (Leaves C X d w) w [] (given_address quiet there w) (by h quiet (kinds h (flat_kinds D y flat)))))
    where
      Left : Memory → Type 0
      Left w = Leaves C X (typed (types.array el rank) (variable x qualified)) w

      same : is_same_type y.ty (types.array el rank) ≡ true
      same = fit_same y.ty (types.array el rank) (flat_known D y flat) refl fit

      of_array : (h : HasArray C F w x.0 el) (f : Ty) (other : ℕ) → y.ty ≡ types.array f other → IsGiven K w (Some y) (by_address (root (array (simple el) h.bounds) h.place))
      of_array h f other is =
          let c : covers_type el ≡ true = (table_at C F w x.0 el h).covers in
          let one : f ≡ el = same_as f el c (sym (ap (λ t. is_same_type t (types.array el rank)) is) ∙ same) in
          let ty : y.ty ≡ types.array el other = is ∙ ap (λ t. types.array t other) one in (
            reference,
            subst (λ t. IsShapeOf D t (array (simple el) h.bounds)) (sym ty) (array_shape el other h.bounds c),
            (subst (λ t. Stands K w h.place t) (sym ty) (stands_with_rank K w h.place el 0 other h.stands), tt),
          )

      kinds : (h : HasArray C F w x.0 el) → FlatKind D y → IsGiven K w (Some y) (by_address (root (array (simple el) h.bounds) h.place))
      kinds h (inr (inl a)) = of_array h a.element a.rank a.is_type
      kinds h (inr (inr u)) = absurd (true≢false (sym (sym (ap (λ t. is_same_type t (types.array el rank)) u.is_type) ∙ same)))
      kinds h (inl c) = absurd (no_scalar y.ty c same)
        where
          no_scalar : (ty : Ty) → covers_type ty ≡ true → is_same_type ty (types.array el rank) ≡ true → ⊥
          no_scalar (types.array f r) c h = true≢false (sym c)
          no_scalar types.boolean c h = true≢false (sym h)
          no_scalar types.byte c h = true≢false (sym h)
          no_scalar types.integer c h = true≢false (sym h)
          no_scalar types.long c h = true≢false (sym h)
          no_scalar types.currency c h = true≢false (sym h)
          no_scalar types.str c h = true≢false (sym h)
          no_scalar _ c h = true≢false (sym c)

      by : (h : HasArray C F w x.0 el) (quiet : Bool) → IsGiven K w (Some y) (by_address (root (array (simple el) h.bounds) h.place))
          → Ends K (GoodGiven (Some y)) (Left w) w (given_address quiet (root (array (simple el) h.bounds) h.place) w)
      by h false good = (keeps_self K w, good)
      by h true good =
          subst (λ r. Ends K (GoodGiven (Some y)) (Left w) w (then r (λ x m. gives [] (by_address (root (array (simple el) h.bounds) h.place)) m)))
          (sym (array_read C F w x.0 el h).1) (keeps_self K w, good)

  pub array_given : (w : Memory) → Fits C F w → (y : Variable) (e : Expr) (quiet : Bool) → NamesArray uses e → is_flat D y ≡ true → fits_type y.ty (type_at e) ≡ true
      → is_reference_owner y.owner ≡ true → Ends K (GoodGiven (Some y)) (Leaves C X e w) w (argument_of C quiet (tree.by_reference e) w)
  array_given w fits y e quiet n flat fit reference =
      subst (λ d. Ends K (GoodGiven (Some y)) (Leaves C X d w) w (argument_of C quiet (tree.by_reference d) w)) (sym n.is)
      (named_given w fits y n.element n.rank n.variable n.qualified quiet n.used flat (subst (λ d. fits_type y.ty (type_at d) ≡ true) n.is fit) reference)

  pub reference_ends : (w : Memory) → Fits C F w → (y : Variable) (e : Expr) (quiet : Bool) → covers_expr uses e ≡ true → is_passable uses e ≡ true → is_typed D e ≡ true → is_referred e ≡ true
      → type_at e ≡ y.ty → is_reference_owner y.owner ≡ true
      → IsRight C F X e w → Ends K (GoodGiven (Some y)) (Leaves C X e w) w (argument_of C quiet (tree.by_reference e) w)
  reference_ends w fits y (typed ty (variable x qualified)) quiet covers passes typing referred same reference h =
      variable_given w fits y ty x qualified quiet (variable_used uses ty x qualified covers) passes typing same reference
  reference_ends w fits y (typed ty (convert to e)) quiet covers passes typing referred same reference h =
      converted_given w y ty to e quiet (both_true (covers_type ty) (covers_type to && covers_expr uses e) covers).0 same h.0
  reference_ends w fits y (typed ty (constant x origin)) quiet covers passes typing referred same reference h = absurd (no_reference ty (constant x origin) refl referred)
  reference_ends w fits y (typed ty (call q qualified of args)) quiet covers passes typing referred same reference h =
      absurd (no_reference ty (call q qualified of args) refl referred)
  reference_ends w fits y (typed ty (library f args)) quiet covers passes typing referred same reference h = absurd (no_reference ty (library f args) refl referred)
  reference_ends w fits y (typed ty (unary op e)) quiet covers passes typing referred same reference h = absurd (no_reference ty (unary op e) refl referred)
  reference_ends w fits y (typed ty (binary op d e)) quiet covers passes typing referred same reference h = absurd (no_reference ty (binary op d e) refl referred)
  reference_ends w fits y (typed ty (field e i)) quiet covers passes typing referred same reference h =
      field_given C F mentions X w y ty e i quiet covers h.1 same reference
  reference_ends w fits y (typed ty (element e i)) quiet covers passes typing referred same reference h =
      element_given C F X ty e i w (both_true (covers_type ty) (covers_array uses e && covers_exprs uses i) covers).0 h.1 quiet y same reference
  reference_ends w fits y (typed ty (new_object c)) quiet covers passes typing referred same reference h = absurd (no_reference ty (new_object c) refl referred)
  reference_ends w fits y (typed ty me) quiet covers passes typing referred same reference h = absurd (no_reference ty me refl referred)
  reference_ends w fits y (typed ty (with_object r)) quiet covers passes typing referred same reference h = absurd (no_reference ty (with_object r) refl referred)
  reference_ends w fits y (typed ty err_number) quiet covers passes typing referred same reference h = absurd (no_reference ty err_number refl referred)
  reference_ends w fits y (typed ty (err_raise e)) quiet covers passes typing referred same reference h = absurd (no_reference ty (err_raise e) refl referred)
  reference_ends w fits y (typed ty err_clear) quiet covers passes typing referred same reference h = absurd (no_reference ty err_clear refl referred)
  reference_ends w fits y (typed ty (is_same d e)) quiet covers passes typing referred same reference h = absurd (no_reference ty (is_same d e) refl referred)
  reference_ends w fits y (typed ty (loose e r)) quiet covers passes typing referred same reference h = absurd (no_reference ty (loose e r) refl referred)
