-- Worked examples of what statements do with what they name.
use Rattle.std.proofs.Common.{◌≡◌, false, [], ◌∷◌, refl}
use Rattle.vb_tree.specs.BoundTree.{long, str, class, nothing}
use Rattle.vb_tree.specs.declared.bound.LibCall.TheVariants as lib
use Rattle.bound_tree.specs.declared.body.Mention.TheVariants as mention
use Rattle.bound_tree.specs.Tree.{Expr, typed, call, convert, library, err_number, err_raise, err_clear, no_object, of_object, no_exprs, next_expr, no_passed, next_passed, by_value}
use Rattle.expression_words.specs.declared.lookups.ErrMember.TheVariants as err_members
use Rattle.expression_words.specs.Flaws.{known, unknown, no_flaw, breaks, lacks, together}
use Rattle.expression_words.specs.Passing.{with_slack}
use Rattle.expression_words.specs.Meanings.{value, procedure, library_word, of_module, err_member, no_list, listed}
use Rattle.expression_words.specs.Targets.{let_target, set_target, counter, resized, statement}
use Rattle.expression_words.proofs.SampleProject.{D, p, a, n, item, number, long_number, lost, plain_argument}

abbrev number_of_err : Expr
number_of_err = typed long err_number

-- ---- assignments

let_variable : let_target D (value (known n)) ≡ known n
let_variable = refl

let_number : let_target D (value (known number)) ≡ unknown (breaks 21)
let_number = refl

let_err_number : let_target D (value (known number_of_err)) ≡ unknown (breaks 19)
let_err_number = refl

let_hidden : let_target D (value (unknown lost)) ≡ unknown lost
let_hidden = refl

-- item = .. goes to the Let of its default member
let_default : let_target D (value (known item)) ≡ known (typed long (call (p 1) false (of_object item) no_passed))
let_default = refl

-- item.Size = ..
let_read_only : let_target D (procedure 5 false (of_object item) no_list) ≡ unknown (breaks 21)
let_read_only = refl

-- Odd = ..
let_odd : let_target D (procedure 4 false no_object no_list) ≡ unknown (lacks (mention.Proc (p 4)))
let_odd = refl

set_variable : set_target D (value (known item)) ≡ known item
set_variable = refl

-- Set item.Count = ..
set_without_part : set_target D (procedure 0 false (of_object item) no_list) ≡ unknown (breaks 21)
set_without_part = refl

set_hidden : set_target D (value (unknown lost)) ≡ unknown lost
set_hidden = refl

-- ---- For, ReDim and Erase

counts_in_n : counter D (value (known n)) ≡ known n
counts_in_n = refl

counts_in_item : counter D (value (known item)) ≡ unknown (breaks 22)
counts_in_item = refl

counts_in_lost : counter D (value (unknown lost)) ≡ unknown lost
counts_in_lost = refl

resized_array : resized D (value (known a)) ≡ known a
resized_array = refl

resized_make : resized D (procedure 2 false no_object no_list) ≡ known (typed (class 0) (call (p 2) false no_object no_passed))
resized_make = refl

resized_module : resized D (of_module 1) ≡ unknown (breaks 3)
resized_module = refl

-- ---- statements

-- Start 1
calls_start : statement D (procedure 3 false no_object (listed (plain_argument (known number) ∷ [])))
    ≡ known (typed nothing (call (p 3) false no_object (next_passed (by_value long_number) no_passed)))
calls_start = refl

-- Start without its argument
calls_too_few : statement D (procedure 3 false no_object no_list) ≡ unknown (together no_flaw (breaks 18))
calls_too_few = refl

-- Start Lost
calls_hidden : statement D (procedure 3 false no_object (listed (plain_argument (unknown lost) ∷ []))) ≡ unknown (together no_flaw lost)
calls_hidden = refl

-- a property is no statement
enters_property : statement D (procedure 0 false (of_object item) no_list) ≡ unknown (breaks 3)
enters_property = refl

enters_number : statement D (value (known n)) ≡ unknown (breaks 3)
enters_number = refl

-- Len "ab"
enters_length : statement D (library_word lib.Len (listed (plain_argument (known number) ∷ []))) ≡ unknown (with_slack (breaks 3) (plain_argument (known number) ∷ []))
enters_length = refl

-- MsgBox 1
shows_number : statement D (library_word lib.MsgBox (listed (plain_argument (known number) ∷ [])))
    ≡ known (typed nothing (library lib.MsgBox (next_expr (typed str (convert str number)) no_exprs)))
shows_number = refl

raises : statement D (err_member err_members.Raise (listed (plain_argument (known number) ∷ []))) ≡ known (typed nothing (err_raise long_number))
raises = refl

raises_nothing : statement D (err_member err_members.Raise no_list) ≡ unknown (breaks 19)
raises_nothing = refl

raises_hidden : statement D (err_member err_members.Raise (listed (plain_argument (unknown lost) ∷ []))) ≡ unknown lost
raises_hidden = refl

clears : statement D (err_member err_members.Clear no_list) ≡ known (typed nothing err_clear)
clears = refl
