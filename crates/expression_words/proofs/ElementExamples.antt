-- Worked examples of elements of arrays, and of Err.Raise and Err.Clear.
use Rattle.std.proofs.Common.{◌≡◌, false, [], ◌∷◌, refl, codes}
use Rattle.vb_tree.specs.BoundTree.{long, str, nothing}
use Rattle.vb_tree.specs.declared.value.Value6.TheVariants as v
use Rattle.bound_tree.specs.declared.expression.Origin.TheVariants.{Literal}
use Rattle.bound_tree.specs.Tree.{Expr, typed, constant, call, element, err_raise, err_clear, of_object, no_passed, no_exprs, next_expr}
use Rattle.expression_words.specs.declared.lookups.ErrMember.TheVariants as err_members
use Rattle.expression_words.specs.Flaws.{known, unknown, no_flaw, breaks, together}
use Rattle.expression_words.specs.Passing.{Supplied, left_out, with_slack}
use Rattle.expression_words.specs.Elements.{element_of}
use Rattle.expression_words.specs.ErrStatements.{err_statement}
use Rattle.expression_words.proofs.SampleProject.{D, p, a, n, item, number, long_number, lost, plain_argument, named_argument}

abbrev text : Expr
text = typed str (constant (v.Str (codes "ab")) Literal)

abbrev nothing_given : Supplied
nothing_given = record { named = false; marked = false; parenthesised = false; value = left_out }

-- the default member of item
abbrev count : Expr
count = typed long (call (p 0) false (of_object item) no_passed)

-- ---- elements

-- a(1): the Integer is converted
an_element : element_of D a (plain_argument (known number) ∷ []) ≡ known (typed long (element a (next_expr long_number no_exprs)))
an_element = refl

-- a(item, n) takes the default member of item
two_indexes : element_of D a (plain_argument (known item) ∷ plain_argument (known n) ∷ []) ≡ known (typed long (element a (next_expr count (next_expr n no_exprs))))
two_indexes = refl

-- a("ab")
no_index : element_of D a (plain_argument (known text) ∷ []) ≡ unknown (together no_flaw (breaks 21))
no_index = refl

-- a(i:=1), and a(1, ) without its second index
named_index : element_of D a (named_argument (known number) ∷ []) ≡ unknown (together no_flaw (together (breaks 18) no_flaw))
named_index = refl

missing_index : element_of D a (plain_argument (known number) ∷ nothing_given ∷ []) ≡ unknown (together (together no_flaw no_flaw) (breaks 18))
missing_index = refl

-- an index without a type
hidden_index : element_of D a (plain_argument (unknown lost) ∷ []) ≡ unknown (together no_flaw lost)
hidden_index = refl

-- ---- Err.Raise and Err.Clear

-- Err.Raise 1
raised : err_statement D err_members.Raise (plain_argument (known number) ∷ []) ≡ known (typed nothing (err_raise long_number))
raised = refl

-- Err.Raise item takes the default member of item
raised_by_default : err_statement D err_members.Raise (plain_argument (known item) ∷ []) ≡ known (typed nothing (err_raise count))
raised_by_default = refl

-- Err.Raise, and Err.Raise 1, "ab": its source can't be given
no_number : err_statement D err_members.Raise [] ≡ unknown (breaks 19)
no_number = refl

with_source : err_statement D err_members.Raise (plain_argument (known number) ∷ plain_argument (known text) ∷ [])
    ≡ unknown (with_slack (breaks 19) (plain_argument (known number) ∷ plain_argument (known text) ∷ []))
with_source = refl

-- Err.Raise Number:=1
named_number : err_statement D err_members.Raise (named_argument (known number) ∷ []) ≡ unknown (together (breaks 18) no_flaw)
named_number = refl

-- Err.Clear, and Err.Clear 1
cleared : err_statement D err_members.Clear [] ≡ known (typed nothing err_clear)
cleared = refl

cleared_with : err_statement D err_members.Clear (plain_argument (known number) ∷ []) ≡ unknown (with_slack (breaks 19) (plain_argument (known number) ∷ []))
cleared_with = refl
