-- Worked examples of words, members and argument lists.
use Rattle.std.proofs.Common.{◌≡◌, ℕ, false, true, [], ◌∷◌, Some, None, refl, codes}
use Rattle.vb_tree.specs.BoundTree.{long, boolean, class}
use Rattle.vb_tree.specs.declared.declared.ProcKind.TheVariants as kind
use Rattle.vb_tree.specs.declared.token.Suffix.TheVariants as suffix
use Rattle.vb_tree.specs.declared.value.Value6.TheVariants as v
use Rattle.bound_tree.specs.declared.body.Mention.TheVariants as mention
use Rattle.bound_tree.specs.declared.declared.Named.TheVariants as named
use Rattle.bound_tree.specs.declared.declared.Scope.TheVariants as scope
use Rattle.bound_tree.specs.declared.expression.Origin.TheVariants.{Literal}
use Rattle.bound_tree.specs.declared.expression.Root.TheVariants as root
use Rattle.bound_tree.specs.Tree.{Declarations, typed, constant, variable, element, call, me, with_object, new_object, err_number, no_object, of_object, no_exprs, next_expr, no_passed}
use Rattle.name_tables.specs.declared.uses.Spelling.TheVariants as spelling
use Rattle.name_tables.specs.declared.uses.Use6.TheVariants as use6
use Rattle.name_tables.specs.declared.uses.Wanted.TheVariants as wanted
use Rattle.typing_rows.specs.LibraryNames.{names_a_to_c, names_d_to_i, names_j_to_p, names_q_to_y}
use Rattle.expression_words.specs.Flaws.{known, unknown, no_flaw, breaks, lacks, together}
use Rattle.expression_words.specs.Members.{value_part, store_part, result_of, taken_by, default_of, class_of_file}
use Rattle.expression_words.specs.Passing.{with_slack}
use Rattle.expression_words.specs.Meanings.{Scope, value, procedure, of_module, err, no_list, listed, no_with, keeps, without_value, keyword_of, named_meaning, use_as, with_suffix, valued, err_member_of, list_meaning, me_of, kept_value, new_of}
use Rattle.expression_words.proofs.SampleProject.{D, p, w, a, n, item, number, long_number, lost, plain_argument, named_argument}

-- ---- members of declarations

-- a Let is read by the Get of its property
read_by_get : value_part D 1 ≡ Some 0
read_by_get = refl

given_by_let : store_part D kind.Let 0 ≡ Some 1
given_by_let = refl

read_only : store_part D kind.Let 5 ≡ None
read_only = refl

gives_a_car : result_of D (value_part D 2) ≡ class 0
gives_a_car = refl

takes_a_long : taken_by D 1 ≡ long
takes_a_long = refl

default_member : default_of D 0 ≡ Some 0
default_member = refl

class_of_car : class_of_file D 2 ≡ Some 0
class_of_car = refl

class_of_main : class_of_file D 1 ≡ None
class_of_main = refl

-- ---- words

word_true : keyword_of (codes "true") ≡ Some (known (typed boolean (constant (v.Boolean true) Literal)))
word_true = refl

word_null : keyword_of (codes "null") ≡ Some (unknown (breaks 5))
word_null = refl

a_variable : named_meaning D true (named.Var (w 0)) ≡ value (known (typed long (variable (w 0) true)))
a_variable = refl

without_type : named_meaning D false (named.Var (w 1)) ≡ value (unknown lost)
without_type = refl

a_procedure : named_meaning D false (named.Proc (p 2)) ≡ procedure 2 false no_object no_list
a_procedure = refl

-- a suffix of a floating type, whatever the word stands for
floating : with_suffix suffix.Double (value (unknown lost)) ≡ without_value 1
floating = refl

-- ---- variables that no line declares

-- the variable x of Start, whose first use stands in some line
abbrev with_x : Declarations
with_x = record D { names = record { name = codes "x"; scope = scope.Local (p 3); named = named.Var (w 6) } ∷ [] }

-- in Start, where the variables from this one on are used in later lines alone
abbrev in_start : ℕ → Scope
in_start later = record { declarations = with_x; written = D; later = later; site = record { file = 1; procedure = Some (p 3) }; kept = no_with; missing = 3 }

-- from that line on x is this variable
x_used : use_as (in_start 7) wanted.Value spelling.Plain (codes "x") ≡ use6.Local (named.Var (w 6))
x_used = refl

-- and before it x is declared nowhere
x_later : use_as (in_start 6) wanted.Value spelling.Plain (codes "x") ≡ use6.Undeclared
unfolding names_a_to_c names_d_to_i names_j_to_p names_q_to_y
x_later = refl

-- ---- values

called_without_list : valued D (procedure 2 false no_object no_list) ≡ known (typed (class 0) (call (p 2) false no_object no_passed))
called_without_list = refl

-- the head of Odd leaves it without a type
odd_head : valued D (procedure 4 false no_object no_list) ≡ unknown (lacks (mention.Proc (p 4)))
odd_head = refl

a_module : valued D (of_module 1) ≡ unknown (breaks 3)
a_module = refl

err_alone : valued D err ≡ unknown (breaks 19)
err_alone = refl

-- ---- members

number_of_err : err_member_of (codes "number") ≡ value (known (typed long err_number))
number_of_err = refl

text_of_err : err_member_of (codes "description") ≡ without_value 19
text_of_err = refl

-- ---- argument lists

-- a(1)
an_element : list_meaning D (value (known a)) (plain_argument (known number) ∷ []) ≡ value (known (typed long (element a (next_expr long_number no_exprs))))
an_element = refl

-- a()
whole_array : list_meaning D (value (known a)) [] ≡ value (known a)
whole_array = refl

-- a(i:=1)
named_index : list_meaning D (value (known a)) (named_argument (known number) ∷ []) ≡ value (unknown (together no_flaw (together (breaks 18) no_flaw)))
named_index = refl

hidden_index : list_meaning D (value (known a)) (plain_argument (unknown lost) ∷ []) ≡ value (unknown (together no_flaw lost))
hidden_index = refl

-- n(1)
behind_a_number : list_meaning D (value (known n)) (plain_argument (known number) ∷ []) ≡ value (unknown (with_slack (breaks 3) (plain_argument (known number) ∷ [])))
behind_a_number = refl

behind_lost : list_meaning D (value (unknown lost)) (plain_argument (known number) ∷ []) ≡ value (unknown (with_slack lost (plain_argument (known number) ∷ [])))
behind_lost = refl

-- item(1) goes to the default member
behind_item : list_meaning D (value (known item)) (plain_argument (known number) ∷ []) ≡ procedure 0 false (of_object item) (listed (plain_argument (known number) ∷ []))
behind_item = refl

-- Make(1): Make takes nothing, so the list is that of the default member of what it gives
behind_make : list_meaning D (procedure 2 false no_object no_list) (plain_argument (known number) ∷ [])
    ≡ procedure 0 false (of_object (typed (class 0) (call (p 2) false no_object no_passed))) (listed (plain_argument (known number) ∷ []))
behind_make = refl

-- Start(1)
behind_start : list_meaning D (procedure 3 false no_object no_list) (plain_argument (known number) ∷ []) ≡ procedure 3 false no_object (listed (plain_argument (known number) ∷ []))
behind_start = refl

-- ---- single words

me_in_car : me_of (class_of_file D 2) ≡ known (typed (class 0) me)
me_in_car = refl

me_in_main : me_of (class_of_file D 1) ≡ unknown (breaks 3)
me_in_main = refl

without_with : kept_value no_with ≡ unknown (breaks 3)
without_with = refl

behind_with : kept_value (keeps (class 0) root.Object) ≡ known (typed (class 0) (with_object root.Object))
behind_with = refl

new_car : new_of (use6.Class (record { 0 = 0 })) ≡ known (typed (class 0) (new_object (record { 0 = 0 })))
new_car = refl

new_ambiguous : new_of use6.Ambiguous ≡ unknown (breaks 20)
new_ambiguous = refl
