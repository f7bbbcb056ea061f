-- Calls of the library that are covered, and such that aren't well formed.
use Rattle.std.proofs.Common.{◌≡◌, refl, pos, true, false, List, [], ◌∷◌}
use Rattle.vb_tree.specs.BoundTree.{integer, long, currency, str, nothing}
use Rattle.vb_tree.specs.declared.bound.LibCall.TheVariants as lib
use Rattle.vb_tree.specs.declared.value.Value6.TheVariants as v
use Rattle.vb_tree.specs.Tree as source
use Rattle.bound_tree.specs.declared.expression.Origin.TheVariants.{Literal}
use Rattle.bound_tree.specs.Tree.{Expr, typed, constant, convert, library, Exprs, no_exprs, next_expr, Line, Program}
use Rattle.run_matches.specs.Covered.{covers_procedure}
use Rattle.run_matches.specs.Formed.{is_formed}
use Rattle.run_matches.proofs.Samples.{program, any, the_c, code}

abbrev with_one : Expr → Exprs
with_one e = next_expr e no_exprs

abbrev with_two : Expr → Expr → Exprs
with_two d e = next_expr d (with_one e)

abbrev with_three : Expr → Expr → Expr → Exprs
with_three c d e = next_expr c (with_two d e)

-- a count is converted to Long
abbrev count : Expr
count = typed long (convert long (typed integer (constant (v.Int (pos 2)) Literal)))

abbrev as_text : Expr
as_text = typed str (library lib.CStr (with_one the_c))

abbrev middle : Exprs → Expr
middle args = typed str (library lib.Mid args)

abbrev calls : List Line
calls =
    -- c = Abs(c)
    code (source.assign any any) (the_c ∷ typed currency (library lib.Abs (with_one the_c)) ∷ [])
    -- c = CCur(Len(Space(2)))
    ∷ code (source.assign any any)
    (the_c ∷ typed currency (library lib.CCur (with_one (typed long (library lib.Len (with_one (typed str (library lib.Space (with_one count)))))))) ∷ [])
    -- Debug.Print Mid(CStr(c), 2, 2); InStr(Trim(CStr(c)), Chr(2)); Asc(Left(CStr(c), 2)); Mid(UCase(CStr(c)), 2)
    ∷ code (source.debug_print [] false)
    (middle (with_three as_text count count)
    ∷ typed long (library lib.InStr (with_two (typed str (library lib.Trim (with_one as_text))) (typed str (library lib.Chr (with_one count)))))
    ∷ typed integer (library lib.Asc (with_one (typed str (library lib.Left (with_two as_text count)))))
    ∷ middle (with_two (typed str (library lib.UCase (with_one as_text))) count)
    ∷ [])
    -- MsgBox InputBox(CStr(c))
    ∷ code (source.invoke any source.no_args) (typed nothing (library lib.MsgBox (with_one (typed str (library lib.InputBox (with_one as_text))))) ∷ [])
    ∷ []

abbrev calling : Program
calling = record program { bodies = [] ∷ [] ∷ calls ∷ [] ∷ [] }

calls_are_covered : covers_procedure calling 2 ≡ true
calls_are_covered = refl

-- with a number where a text is wanted, and with a value too few
number_is_no_text : is_formed (middle (with_two the_c count)) ≡ false
number_is_no_text = refl

one_is_too_few : is_formed (middle (with_one as_text)) ≡ false
one_is_too_few = refl

-- MsgBox gives no value
box_is_no_text : is_formed (typed str (library lib.MsgBox (with_one as_text))) ≡ false
box_is_no_text = refl
