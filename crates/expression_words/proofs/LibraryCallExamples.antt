-- Worked examples of calls of the library.
use Rattle.std.proofs.Common.{◌≡◌, false, true, [], ◌∷◌, refl, codes, pos}
use Rattle.vb_tree.specs.BoundTree.{byte, integer, long, str, nothing}
use Rattle.vb_tree.specs.declared.bound.LibCall.TheVariants as lib
use Rattle.vb_tree.specs.declared.value.Value6.TheVariants as v
use Rattle.bound_tree.specs.declared.expression.Origin.TheVariants.{Literal}
use Rattle.bound_tree.specs.Tree.{Expr, typed, constant, library, no_exprs, next_expr}
use Rattle.expression_words.specs.Flaws.{Typed, known, unknown, no_flaw, breaks, breaks_if, together}
use Rattle.expression_words.specs.Passing.{Supplied, given, with_slack, left_out}
use Rattle.expression_words.specs.LibraryCalls.{library_called, library_call_of}
use Rattle.expression_words.proofs.SampleProject.{D, a, n, number, long_number, lost, plain_argument, named_argument}

abbrev text : Expr
text = typed str (constant (v.Str (codes "ab")) Literal)

abbrev three_hundred : Expr
three_hundred = typed integer (constant (v.Int (pos 300)) Literal)

abbrev nothing_given : Supplied
nothing_given = record { named = false; marked = false; parenthesised = false; value = left_out }

abbrev parenthesised_argument : Typed → Supplied
parenthesised_argument t = record { named = false; marked = false; parenthesised = true; value = given t }

abbrev two : Expr
two = typed integer (constant (v.Int (pos 2)) Literal)

-- Len("ab")
a_length : library_called D lib.Len (plain_argument (known text) ∷ []) ≡ known (typed long (library lib.Len (next_expr text no_exprs)))
a_length = refl

-- Left("ab", 1)
a_left : library_called D lib.Left (plain_argument (known text) ∷ plain_argument (known number) ∷ [])
    ≡ known (typed str (library lib.Left (next_expr text (next_expr long_number no_exprs))))
a_left = refl

-- Left("ab") wants two
wrong_count : library_called D lib.Left (plain_argument (known text) ∷ []) ≡ unknown (with_slack (breaks_if 18 true) (plain_argument (known text) ∷ []))
wrong_count = refl

-- Len(String:="ab"): no argument of the library has a name
with_name : library_called D lib.Len (named_argument (known text) ∷ []) ≡ unknown (with_slack (breaks_if 18 false) (named_argument (known text) ∷ []))
with_name = refl

-- an argument without a type
hidden : library_called D lib.Len (plain_argument (unknown lost) ∷ []) ≡ unknown (with_slack (breaks_if 18 false) (plain_argument (unknown lost) ∷ []))
hidden = refl

-- CByte(300) raises
out_of_range : library_called D lib.CByte (plain_argument (known three_hundred) ∷ []) ≡ unknown (together no_flaw (breaks 25))
out_of_range = refl

-- CByte(1): a conversion takes its argument as it stands
in_range : library_called D lib.CByte (plain_argument (known number) ∷ []) ≡ known (typed byte (library lib.CByte (next_expr number no_exprs)))
in_range = refl

-- UBound(a, 2), whose dimension stands as it is, and UBound(a, n), whose dimension is no constant
a_bound : library_called D lib.UBound (plain_argument (known a) ∷ plain_argument (known two) ∷ [])
    ≡ known (typed long (library lib.UBound (next_expr a (next_expr two no_exprs))))
a_bound = refl

no_dimension : library_called D lib.UBound (plain_argument (known a) ∷ plain_argument (known n) ∷ []) ≡ unknown (together (together no_flaw no_flaw) (breaks 3))
no_dimension = refl

-- x = MsgBox("ab"), and MsgBox "ab" as a statement
no_value : library_called D lib.MsgBox (plain_argument (known text) ∷ []) ≡ unknown (with_slack (breaks 18) (plain_argument (known text) ∷ []))
no_value = refl

shown_as_statement : library_call_of D lib.MsgBox (plain_argument (known text) ∷ []) ≡ known (typed nothing (library lib.MsgBox (next_expr text no_exprs)))
shown_as_statement = refl

-- Left(, 1)
left_empty : library_called D lib.Left (nothing_given ∷ plain_argument (known number) ∷ []) ≡ unknown (with_slack (breaks_if 18 false) (nothing_given ∷ plain_argument (known number) ∷ []))
left_empty = refl

-- UBound((a))
in_parentheses : library_called D lib.UBound (parenthesised_argument (known a) ∷ []) ≡ unknown (together no_flaw (breaks 21))
in_parentheses = refl
