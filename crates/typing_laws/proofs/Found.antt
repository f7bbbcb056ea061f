-- Elements that are found: their values, and elements as arguments by reference.
use Rattle.std.proofs.Common.{◌≡◌, ◌⊎◌, inl, inr, refl, sym, ap, ◌∙◌, subst, ℕ, Bool, true, false, [], Some}
use Rattle.vb_tree.specs.BoundTree.{Ty}
use Rattle.bound_tree.specs.Tree.{Declarations, Expr, Exprs, Variable, element, field, no_exprs, next_expr, typed, variable}
use Rattle.bound_tree.specs.Tree as tree
use Rattle.bound_facts.specs.Node.{is_array_type, type_at}
use Rattle.row_laws.proofs.Composing.{then_assoc}
use Rattle.run_base.specs.Frames.{by_address}
use Rattle.run_base.specs.Outcomes.{Outcome, after, gives, then}
use Rattle.run_base.specs.Positions.{Position}
use Rattle.written_trees.specs.Arguments.{is_reference_owner}
use Rattle.vb6_run.specs.Expressions.{Context, Parts, at_address, address_of, argument_of, declared, finished, given_address, given_parts, parts_of, type_shape, value_of}
use Rattle.vb6_run.specs.Shapes.{simple}
use Rattle.vb6_run.specs.Store.{Address, Memory, provided, read, root}
use Rattle.vb6_run.specs.Values.{Value, is_of_shape, scalar}
use Rattle.run_matches.specs.CoveredVariables.{covers_type}
use Rattle.typing_laws.specs.Calls.{SourceJob}
use Rattle.typing_laws.specs.Frames.{Footprint, Ground, IsElement, IsGiven, IsGone, Stands, ground}
use Rattle.typing_laws.specs.Leaving.{Leaves}
use Rattle.typing_laws.proofs.Addresses.{IsRead, IsSeat, IsUnread, read_seat}
use Rattle.typing_laws.proofs.Ends.{Ends, keeps_self, then_ends}
use Rattle.typing_laws.proofs.Expressions.{IsTyped, or_true}
use Rattle.typing_laws.proofs.Places.{not_none}
use Rattle.typing_laws.proofs.Plain.{is_of_type}
use Rattle.typing_laws.proofs.Elements.{IsFound}

-- ---- what is found

-- where a scalar field of a user type stands
pub record IsFieldAt (C : Context) (F : Footprint) (ty : Ty) (d : Expr) (k : ℕ) (w : Memory) : Type 0 where
  pub position : Position
  pub is : parts_of C (typed ty (field d k)) w ≡ gives [] (at_address (root (simple ty) position)) w
  pub stands : Stands (ground (declared C) F) w position ty

-- the value of an expression, and the place of an element or a field
abbrev pub HasAddress : Context → Footprint → (SourceJob → Memory → Type 0) → Expr → Memory → Type 0
HasAddress C F X (typed ty (element d indexes)) w =
    Ends (ground (declared C) F) (IsFound (ground (declared C) F) ty) (Leaves C X (typed ty (element d indexes)) w) w (address_of C (typed ty (element d indexes)) w)
HasAddress C F X (typed ty (field d k)) w = IsFieldAt C F ty d k w
HasAddress C F X e w = Unit {0}

abbrev pub IsRight : Context → Footprint → (SourceJob → Memory → Type 0) → Expr → Memory → Type 0
IsRight C F X e w = Ends (ground (declared C) F) (IsTyped (type_at e)) (Leaves C X e w) w (value_of C e w) × HasAddress C F X e w

-- what is found is read
pub seat_found : (K : Ground) (ty : Ty) (v : Memory) (b : Address) → IsFound K ty v b → IsSeat K v ty b
seat_found K ty v b f = subst (λ c. IsSeat K v ty c) (sym f.is) (refl, refl, f.stands)

pub never_gone : (K : Ground) (ty : Ty) (v : Memory) (b : Address) → IsFound K ty v b → IsGone b v → ⊥
never_gone K ty v b f g = not_none (sym (subst (λ c. IsGone c v) f.is g) ∙ f.there)

module _ (C : Context) (F : Footprint) (X : SourceJob → Memory → Type 0) (ty : Ty) (d : Expr) (indexes : Exprs) (w : Memory) (covers : covers_type ty ≡ true)
    (found_there : HasAddress C F X (typed ty (element d indexes)) w) where
  abbrev K : Ground
  K = ground (declared C) F

  abbrev e : Expr
  e = typed ty (element d indexes)

  abbrev L : Type 0
  L = Leaves C X e w

  read_found : (v : Memory) (b : Address) → IsFound K ty v b → IsRead K v ty b
  read_found v b f = by (read_seat K v ty b covers (seat_found K ty v b f))
    where
      by : IsRead K v ty b ⊎ IsUnread K v ty b → IsRead K v ty b
      by (inl r) = r
      by (inr n) = absurd (never_gone K ty v b f n.0)

  -- ---- its value

  abbrev check : Value → Memory → Outcome Memory Value
  check z m = provided (is_of_shape (type_shape (declared C) ty) z) (λ m. gives [] z m) m

  abbrev read_check : Address → Memory → Outcome Memory Value
  read_check b m = then (read b m) check

  value_is : value_of C e w ≡ then (address_of C e w) read_check
  value_is =
      ap (λ (k : Parts → Memory → Outcome Memory Value). then (parts_of C e w) k) (λ i p m. then_assoc (finished p m) read check i)
      ∙ sym (then_assoc (parts_of C e w) finished read_check)

  pub element_value : Ends K (IsTyped ty) L w (value_of C e w)
  element_value =
      subst (λ o. Ends K (IsTyped ty) L w o) (sym value_is)
      (then_ends K (IsFound K ty) (IsTyped ty) L w (address_of C e w) read_check found_there
      (λ o b v one k f.
      let r : IsRead K v ty b = read_found v b f in
      subst (λ z. Ends K (IsTyped ty) L v z)
      (sym (ap (λ z. then z check) r.reads ∙ ap (λ t. after [] (provided t (λ m. gives [] (scalar ty r.value) m) v)) (is_of_type (declared C) ty r.value r.plain)))
      (keeps_self K v, (r.value, refl, r.plain))))

  -- ---- the element as an argument by reference

  given_is : (quiet : Bool) → argument_of C quiet (tree.by_reference e) w ≡ then (address_of C e w) (given_address quiet)
  given_is quiet =
      ap (λ b. then (parts_of C e w) (given_parts C quiet e b)) (or_true (is_array_type ty)) ∙ sym (then_assoc (parts_of C e w) finished (given_address quiet))

  pub element_given : (quiet : Bool) (y : Variable) → ty ≡ y.ty → is_reference_owner y.owner ≡ true
      → Ends K (λ v g. IsGiven K v (Some y) g) L w (argument_of C quiet (tree.by_reference e) w)
  element_given quiet y same reference =
      subst (λ o. Ends K (λ v g. IsGiven K v (Some y) g) L w o) (sym (given_is quiet))
      (then_ends K (IsFound K ty) (λ v g. IsGiven K v (Some y) g) L w (address_of C e w) (given_address quiet) found_there
      (λ o b v one k f. by quiet v b f))
    where
      good : (v : Memory) (b : Address) → IsFound K ty v b → IsGiven K v (Some y) (by_address b)
      good v b f =
          subst (λ d. IsGiven K v (Some y) (by_address d)) (sym f.is)
          (reference, subst (λ t. IsElement K v t (simple ty) f.place []) same (refl, refl, f.stands))

      by : (quiet : Bool) (v : Memory) (b : Address) → IsFound K ty v b → Ends K (λ v g. IsGiven K v (Some y) g) L v (given_address quiet b v)
      by false v b f = (keeps_self K v, good v b f)
      by true v b f =
          let r : IsRead K v ty b = read_found v b f in
          subst (λ z. Ends K (λ v g. IsGiven K v (Some y) g) L v (then z (λ x m. gives [] (by_address b) m))) (sym r.reads) (keeps_self K v, good v b f)
