-- Fixed strings that are given to a reference parameter that isn't quiet.
use Rattle.std.specs.Prelude.{ℕ, suc, Bool, true, false, not, ◌||◌, ◌&&◌, Option, Some, None, List, slice_get}
use Rattle.std.specs.List.{list_any}
use Rattle.vb_tree.specs.BoundTree.{Ty}
use Rattle.bound_tree.specs.Tree.{Expr, typed, Term, convert, Argument, by_value, by_reference, Passed, no_passed, next_passed, Line}
use Rattle.bound_facts.specs.Node.{called, args_at}
use Rattle.bound_facts.specs.Nodes.{line_nodes}
use Rattle.fixed_strings.specs.Lengths.{is_fixed_string}

-- for each procedure, and for each of its parameters, whether it is quiet
abbrev pub Quiet : Type 0
Quiet = List (List Bool)

abbrev pub is_set : Option Bool → Bool
is_set None = false
is_set (Some b) = b

abbrev pub is_set_in : ℕ → Option (List Bool) → Bool
is_set_in i None = false
is_set_in i (Some flags) = is_set (slice_get flags i)

abbrev pub is_quiet_at : Quiet → (procedure place : ℕ) → Bool
is_quiet_at quiet p i = is_set_in i (slice_get quiet p)

-- whether what is given to a parameter, perhaps of another type, is a fixed string
abbrev mutual
  pub is_fixed_given : Expr → Bool
  is_fixed_given (typed ty t) = is_fixed_in ty t

  pub is_fixed_in : Ty → Term → Bool
  is_fixed_in ty (convert to e) = is_fixed_given e
  is_fixed_in ty t = is_fixed_string ty

abbrev pub gives_fixed : Argument → Bool
gives_fixed (by_value e) = false
gives_fixed (by_reference e) = is_fixed_given e

-- whether a fixed string is among arguments from place i on, at a parameter that isn't quiet
abbrev pub gives_from : Quiet → (procedure i : ℕ) → Passed → Bool
gives_from quiet p i no_passed = false
gives_from quiet p i (next_passed a rest) = (gives_fixed a && not (is_quiet_at quiet p i)) || gives_from quiet p (suc i) rest

abbrev pub gives_to : Quiet → Option ℕ → Passed → Bool
gives_to quiet None args = false
gives_to quiet (Some p) args = gives_from quiet p 0 args

-- whether a node gives a fixed string to such a parameter
abbrev pub gives : Quiet → Expr → Bool
gives quiet e = gives_to quiet (called e) (args_at e)

abbrev pub breaks_given : Quiet → Line → Bool
breaks_given quiet l = list_any (gives quiet) (line_nodes l)
