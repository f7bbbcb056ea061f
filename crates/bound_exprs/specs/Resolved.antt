-- What an expression of the source means: names by what they stand for, conversions written out, the type of every part.
use Rattle.std.specs.Prelude.{ℕ, Bool, true, false, Option, Some, None, is_some, List, [], ◌∷◌}
use Rattle.vb_tree.specs.Tree.{Exp, lit, word, bracketed, me, member, with_member, with_bang, index, unary, binary, paren, new_object, bang, type_of, address_of, Args, no_args, next_arg, Given, omitted}
use Rattle.vb_tree.specs.Tree as source
use Rattle.name_tables.specs.declared.uses.Wanted.{Wanted}
use Rattle.name_tables.specs.declared.uses.Wanted.TheVariants as wanted
use Rattle.expression_words.specs.declared.lookups.Lookup.{Lookup}
use Rattle.expression_words.specs.Flaws.{Typed, unknown, breaks, flawed_by}
use Rattle.expression_words.specs.Passing.{Supplied, Value, left_out, given}
use Rattle.expression_words.specs.Operators.{literal_of, binary_over, unary_over}
use Rattle.expression_words.specs.Meanings.{Scope, Meaning, value, valued, word_meaning, bracketed_meaning, member_meaning, list_meaning, me_value, kept_value, new_value, type_test}

-- ---- lookups

abbrev pub as_value : Lookup
as_value = record { first = wanted.Value; next = None }

-- what is given a value: a Sub is found too, which can't be
abbrev pub as_target : Lookup
as_target = record { first = wanted.Value; next = Some wanted.Callee }

-- what a statement enters: a variable or a property is found too, which can't be
abbrev pub as_callee : Lookup
as_callee = record { first = wanted.Callee; next = Some wanted.Value }

-- what stands before a full stop: a Sub is found too, which gives no value
abbrev pub as_qualifier : Lookup
as_qualifier = record { first = wanted.Qualifier; next = Some wanted.Callee }

abbrev pub with_list_in : Wanted → Wanted
with_list_in wanted.Callee = wanted.Callee
with_list_in w = wanted.Indexed

abbrev pub with_list_next : Option Wanted → Option Wanted
with_list_next None = None
with_list_next (Some w) = Some (with_list_in w)

-- the lookup of what an argument list stands behind
abbrev pub with_list : Lookup → Lookup
with_list r = record { first = with_list_in r.first; next = with_list_next r.next }

-- ---- expressions

abbrev pub is_parenthesised : Exp → Bool
is_parenthesised (paren e) = true
is_parenthesised _ = false

abbrev pub is_parenthesised_in : Given → Bool
is_parenthesised_in omitted = false
is_parenthesised_in (source.given e) = is_parenthesised e

abbrev pub supplied_as : Option (List ℕ) → (marked parenthesised : Bool) → Value → Supplied
supplied_as name marked parenthesised v = record { named = is_some name; marked = marked; parenthesised = parenthesised; value = v }

abbrev mutual
  pub meaning : Scope → Lookup → Exp → Meaning
  meaning S r (lit l) = value (literal_of l)
  meaning S r (word name s) = word_meaning S r name s
  meaning S r (bracketed name s) = bracketed_meaning S r name s
  meaning S r me = value (me_value S)
  meaning S r (member e name) = member_meaning S r (meaning S as_qualifier e) name
  meaning S r (with_member name) = member_meaning S r (value (kept_value S.kept)) name
  meaning S r (with_bang name) = value (flawed_by 6 (kept_value S.kept))
  meaning S r (index e args) = list_meaning S.declarations (meaning S (with_list r) e) (supplied S args)
  meaning S r (unary op e) = value (unary_over S.declarations op (valued S.declarations (meaning S as_value e)))
  meaning S r (binary op e f) =
      value (binary_over S.declarations op (valued S.declarations (meaning S as_value e)) (valued S.declarations (meaning S as_value f)))
  meaning S r (paren e) = value (valued S.declarations (meaning S as_value e))
  meaning S r (new_object name) = value (new_value S name)
  meaning S r (bang e name) = value (flawed_by 6 (valued S.declarations (meaning S as_value e)))
  meaning S r (type_of e name) = value (type_test S (valued S.declarations (meaning S as_value e)) name)
  meaning S r (address_of name) = value (unknown (breaks 2))

  -- arguments as they are supplied
  pub supplied : Scope → Args → List Supplied
  supplied S no_args = []
  supplied S (next_arg name marked arg rest) = supplied_as name marked (is_parenthesised_in arg) (value_in S arg) ∷ supplied S rest

  pub value_in : Scope → Given → Value
  value_in S omitted = left_out
  value_in S (source.given e) = given (valued S.declarations (meaning S as_value e))

-- the value of an expression
abbrev pub resolved : Scope → Exp → Typed
resolved S e = valued S.declarations (meaning S as_value e)
