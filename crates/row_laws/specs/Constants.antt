-- Constants that have a value of Visual Basic .NET, and literals in the place of conversions.
use Rattle.std.specs.Prelude.{◌≡◌, ℕ, nat_le, Bool, true, false, List}
use Rattle.std.specs.List.{list_all}
use Rattle.vb_tree.specs.BoundTree.{Ty}
use Rattle.vb_tree.specs.declared.value.Value6.{Value6}
use Rattle.vb_tree.specs.declared.value.Value6.TheVariants as v
use Rattle.vb6_meaning.specs.Answers.{gives}
use Rattle.vb6_meaning.specs.Values.{coerce}
use Rattle.bound_tree.specs.Tree.{Expr, typed, Term, constant}
use Rattle.net_tree.specs.Tree.{Exp}
use Rattle.net_meaning.specs.WrittenLiterals.{is_within, type_of_constant}
use Rattle.written_trees.specs.Literals.{written_constant}

-- units of 16 bits
abbrev pub are_units : List ℕ → Bool
are_units s = list_all (λ c. nat_le c 65535) s

-- a constant of a text has such units, and no constant is an object
abbrev pub is_literal : Value6 → Bool
is_literal (v.Str units) = are_units units
is_literal (v.Object k) = false
is_literal _ = true

-- where an expression is a constant, this is within the limits of its type
abbrev pub HoldsTerm : Ty → Term → Type 0
HoldsTerm ty (constant x origin) = (is_within x ≡ true) × (type_of_constant x ≡ ty)
HoldsTerm ty _ = Unit {0}

abbrev pub IsHeld : Expr → Type 0
IsHeld (typed ty t) = HoldsTerm ty t

-- a literal is the constant that the conversion of a constant gives
abbrev pub Literal : (to : Ty) → Term → Exp → Type 0
Literal to (constant x origin) l = (y : Value6) × (coerce x to ≡ gives y) × (written_constant y origin ≡ l)
Literal to _ l = ⊥
