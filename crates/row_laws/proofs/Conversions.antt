-- What is written for conversions is the row of it.
use Rattle.std.proofs.Common.{◌≡◌, ℕ, Bool, true, false, cond, ◌&&◌, Option, Some, None, IfSome, refl, sym, subst}
use Rattle.std.specs.Prelude.{nat_eq}
use Rattle.vb_tree.specs.BoundTree as types
use Rattle.vb_tree.specs.BoundTree.{Ty}
use Rattle.bound_tree.specs.Tree.{Expr, Term, typed}
use Rattle.bound_facts.specs.Node.{type_at}
use Rattle.net_tree.specs.Tree.{Exp}
use Rattle.net_meaning.specs.declared.value.ValueN.{ValueN}
use Rattle.net_meaning.specs.WrittenRows.{Row, operand_a, evaluate, write_conversion, write_from_variant}
use Rattle.written_trees.specs.Conversions.{conversion, applied, converted, literal_or}
use Rattle.written_trees.specs.Literals.{takes_literals, literal_of, literal_as}
use Rattle.net_run.specs.Names.{Scope}
use Rattle.net_run.specs.Making.{Jobs}
use Rattle.row_laws.specs.Uncaptured.{IsUncaptured}
use Rattle.row_laws.specs.Follows.{Any, RowOfOne}
use Rattle.row_laws.specs.Rows.{plain, row_exp, is_over_a}
use Rattle.row_laws.proofs.Rows.{plain_fits, over_a}

-- what is written is a row over the first operand
abbrev pub IsRow : Exp → Exp → Row → Type 0
IsRow a e r = (is_over_a r ≡ true) × (e ≡ row_exp r (plain a) (plain a))

module _ (a : Exp) where
  abbrev Is : Option Row → (from to : Ty) → Type 0
  Is o from to = IfSome o (IsRow a (applied (conversion from to) a))

  to_boolean : (from : Ty) → Is (write_conversion from types.boolean) from types.boolean
  to_boolean types.boolean = (refl, refl)
  to_boolean types.byte = (refl, refl)
  to_boolean types.integer = (refl, refl)
  to_boolean types.long = (refl, refl)
  to_boolean types.currency = (refl, refl)
  to_boolean _ = tt

  to_byte : (from : Ty) → Is (write_conversion from types.byte) from types.byte
  to_byte types.boolean = (refl, refl)
  to_byte types.byte = (refl, refl)
  to_byte types.integer = (refl, refl)
  to_byte types.long = (refl, refl)
  to_byte types.currency = (refl, refl)
  to_byte _ = tt

  to_integer : (from : Ty) → Is (write_conversion from types.integer) from types.integer
  to_integer types.boolean = (refl, refl)
  to_integer types.byte = (refl, refl)
  to_integer types.integer = (refl, refl)
  to_integer types.long = (refl, refl)
  to_integer types.currency = (refl, refl)
  to_integer _ = tt

  to_long : (from : Ty) → Is (write_conversion from types.long) from types.long
  to_long types.boolean = (refl, refl)
  to_long types.byte = (refl, refl)
  to_long types.integer = (refl, refl)
  to_long types.long = (refl, refl)
  to_long types.currency = (refl, refl)
  to_long _ = tt

  to_currency : (from : Ty) → Is (write_conversion from types.currency) from types.currency
  to_currency types.boolean = (refl, refl)
  to_currency types.byte = (refl, refl)
  to_currency types.integer = (refl, refl)
  to_currency types.long = (refl, refl)
  to_currency types.currency = (refl, refl)
  to_currency _ = tt

  to_str : (from : Ty) → Is (write_conversion from types.str) from types.str
  to_str types.boolean = (refl, refl)
  to_str types.byte = (refl, refl)
  to_str types.integer = (refl, refl)
  to_str types.long = (refl, refl)
  to_str types.currency = (refl, refl)
  to_str types.str = (refl, refl)
  to_str (types.fixed k) = (refl, refl)
  to_str _ = tt

  to_fixed : (units : ℕ) (from : Ty) → Is (write_conversion from (types.fixed units)) from (types.fixed units)
  to_fixed units types.boolean = (refl, refl)
  to_fixed units types.byte = (refl, refl)
  to_fixed units types.integer = (refl, refl)
  to_fixed units types.long = (refl, refl)
  to_fixed units types.currency = (refl, refl)
  to_fixed units types.str = (refl, refl)
  to_fixed units (types.fixed k) = (refl, refl)
  to_fixed units _ = tt

  to_variant : (from : Ty) → Is (write_conversion from types.variant) from types.variant
  to_variant types.boolean = (refl, refl)
  to_variant types.byte = (refl, refl)
  to_variant types.integer = (refl, refl)
  to_variant types.long = (refl, refl)
  to_variant types.currency = (refl, refl)
  to_variant types.str = (refl, refl)
  to_variant (types.fixed k) = (refl, refl)
  to_variant types.variant = (refl, refl)
  to_variant _ = tt

  to_object : (from : Ty) → Is (write_conversion from types.object) from types.object
  to_object types.object = (refl, refl)
  to_object (types.class k) = (refl, refl)
  to_object types.nothing = (refl, refl)
  to_object _ = tt

  same_class : (b : Bool) (k l : ℕ) → IfSome (cond b (Some operand_a) None) (IsRow a (applied (conversion (types.class l) (types.class k)) a))
  same_class true k l = (refl, refl)
  same_class false k l = tt

  to_class : (k : ℕ) (from : Ty) → Is (write_conversion from (types.class k)) from (types.class k)
  to_class k (types.class l) = same_class (nat_eq k l) k l
  to_class k types.nothing = (refl, refl)
  to_class k _ = tt

  to_nothing : (from : Ty) → Is (write_conversion from types.nothing) from types.nothing
  to_nothing types.nothing = (refl, refl)
  to_nothing _ = tt

  pub conversion_row : (from to : Ty) → Is (write_conversion from to) from to
  conversion_row from types.boolean = to_boolean from
  conversion_row from types.byte = to_byte from
  conversion_row from types.integer = to_integer from
  conversion_row from types.long = to_long from
  conversion_row from types.currency = to_currency from
  conversion_row from types.str = to_str from
  conversion_row from (types.fixed k) = to_fixed k from
  conversion_row from (types.user k) = tt
  conversion_row from (types.class k) = to_class k from
  conversion_row from types.object = to_object from
  conversion_row from types.variant = to_variant from
  conversion_row from (types.array t r) = tt
  conversion_row from types.nothing = to_nothing from
  conversion_row from types.unknown = tt

  pub from_variant_row : (to : Ty) → Is (write_from_variant to) types.variant to
  from_variant_row types.boolean = (refl, refl)
  from_variant_row types.byte = (refl, refl)
  from_variant_row types.integer = (refl, refl)
  from_variant_row types.long = (refl, refl)
  from_variant_row types.currency = (refl, refl)
  from_variant_row types.str = (refl, refl)
  from_variant_row types.variant = (refl, refl)
  from_variant_row _ = tt

module _ (S : Scope) (oracle : Jobs) (free : IsUncaptured S) where
  row_gives : (o : Option Row) (e a : Exp) → IfSome o (IsRow a e) → (y : ValueN) → IfSome o (λ r. RowOfOne S oracle Any e a (λ x. evaluate r x y))
  row_gives None e a h y = tt
  row_gives (Some r) e a h y =
      subst (λ q. RowOfOne S oracle Any q a (λ x. evaluate r x y)) (sym h.1)
      (over_a S oracle free (plain a) (plain a) (plain_fits S oracle a) (plain_fits S oracle a) r y h.0)

  -- a conversion is its row
  pub conversion_gives : (from to : Ty) (a : Exp) (y : ValueN) → IfSome (write_conversion from to) (λ r. RowOfOne S oracle Any (applied (conversion from to) a) a (λ x. evaluate r x y))
  conversion_gives from to a y = row_gives (write_conversion from to) (applied (conversion from to) a) a (conversion_row a from to) y

  pub from_variant_gives : (to : Ty) (a : Exp) (y : ValueN) → IfSome (write_from_variant to) (λ r. RowOfOne S oracle Any (applied (conversion types.variant to) a) a (λ x. evaluate r x y))
  from_variant_gives to a y = row_gives (write_from_variant to) (applied (conversion types.variant to) a) a (from_variant_row a to) y

  -- so it is where no literal stands in its place
  pub converted_gives : (to : Ty) (e : Expr) (a : Exp) (y : ValueN) → literal_as to e ≡ None → IfSome (write_conversion (type_at e) to) (λ r. RowOfOne S oracle Any (converted to e a) a (λ x. evaluate r x y))
  converted_gives to e a y none =
      subst (λ q. IfSome (write_conversion (type_at e) to) (λ r. RowOfOne S oracle Any (literal_or q (applied (conversion (type_at e) to) a)) a (λ x. evaluate r x y))) (sym none)
      (conversion_gives (type_at e) to a y)

  -- and that of a Variant has no literal in its place
  pub converted_variant_gives : (to : Ty) (t : Term) (a : Exp) (y : ValueN) → IfSome (write_from_variant to) (λ r. RowOfOne S oracle Any (converted to (typed types.variant t) a) a (λ x. evaluate r x y))
  converted_variant_gives to t a y =
      subst (λ q. IfSome (write_from_variant to) (λ r. RowOfOne S oracle Any (literal_or q (applied (conversion types.variant to) a)) a (λ x. evaluate r x y))) (sym (none (takes_literals to)))
      (from_variant_gives to a y)
    where
      none : (b : Bool) → cond (b && false) (literal_of to t) None ≡ None
      none true = refl
      none false = refl
