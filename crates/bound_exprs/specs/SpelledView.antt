-- What references to names, spellings and arguments of the code show.
use Rattle.std.specs.Prelude.{ℕ, Bool, Option, option_map, List}
use Rattle.std.specs.Borrow.{Bor}
use Rattle.vb_tree.specs.declared.expression.Arg6.{Arg6}
use Rattle.vb_tree.specs.Tree.{Given}
use Rattle.vb_tree.specs.View.{given_of}
use Rattle.expression_words.specs.Meanings.{Scope}
use Rattle.bound_exprs.specs.declared.spelling.Spelt.{Spelt as Spelt6}
use Rattle.bound_exprs.specs.declared.spelling.Spelt.TheVariants as s
use Rattle.bound_exprs.specs.Spelled.{Spelt, stands, alone, behind, spelled_given}

abbrev pub name_in : Option (Bor (List ℕ)) → Option (List ℕ)
name_in o = option_map (λ (b : Bor (List ℕ)). b.now) o

abbrev pub spelt_of : Spelt6 → Spelt
spelt_of s.Stands = stands
spelt_of (s.Alone name) = alone name.now
spelt_of (s.Behind from name) = behind from.now name.now

-- an argument of a list
pub record Arg : Type 0 where
  pub name : Option (List ℕ)
  pub marked : Bool
  pub value : Given

abbrev pub arg_of : Arg6 → Arg
arg_of a = record { name = a.name; marked = a.marked; value = given_of a.value }

abbrev pub spelled_arg : Scope → Arg → Arg
spelled_arg S a = record a { value = spelled_given S a.value }
