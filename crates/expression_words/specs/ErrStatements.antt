-- Err.Raise and Err.Clear, which give no value.
use Rattle.std.specs.Prelude.{cond, List, [], ◌∷◌}
use Rattle.vb_tree.specs.BoundTree.{nothing}
use Rattle.bound_tree.specs.Tree.{Declarations, Expr, typed, err_raise, err_clear}
use Rattle.typing_rows.specs.Conversions.{error_number}
use Rattle.expression_words.specs.declared.lookups.ErrMember.{ErrMember}
use Rattle.expression_words.specs.declared.lookups.ErrMember.TheVariants as err_members
use Rattle.expression_words.specs.Flaws.{Typed, known, unknown, breaks, together, on_known}
use Rattle.expression_words.specs.Converting.{wanted}
use Rattle.expression_words.specs.Passing.{Supplied, Value, left_out, given, is_worded, value_flaw, with_slack}

abbrev pub raised : Declarations → Expr → Typed
raised D e = on_known (λ (x : Expr). known (typed nothing (err_raise x))) (wanted D error_number e)

abbrev pub raised_value : Declarations → Value → Typed
raised_value D left_out = unknown (breaks 19)
raised_value D (given t) = on_known (raised D) t

abbrev pub raise_one : Declarations → Supplied → Typed
raise_one D a = cond (is_worded a) (unknown (together (breaks 18) (value_flaw a.value))) (raised_value D a.value)

-- Err.Raise takes one number
abbrev pub raise_of : Declarations → List Supplied → Typed
raise_of D [] = unknown (breaks 19)
raise_of D (a ∷ []) = raise_one D a
raise_of D (a ∷ b ∷ rest) = unknown (with_slack (breaks 19) (a ∷ b ∷ rest))

abbrev pub clear_of : List Supplied → Typed
clear_of [] = known (typed nothing err_clear)
clear_of (a ∷ rest) = unknown (with_slack (breaks 19) (a ∷ rest))

abbrev pub err_statement : Declarations → ErrMember → List Supplied → Typed
err_statement D err_members.Raise args = raise_of D args
err_statement D err_members.Clear args = clear_of args
