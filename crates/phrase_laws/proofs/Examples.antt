-- What is read from small texts.
use Rattle.std.specs.Fmt.{digits}
use Rattle.std.proofs.Common.{◌^◌, ◌≡◌, ℕ, true, false, pos, negsuc, List, [], ◌∷◌, codes, refl, Some}
use Rattle.net_tree.specs.declared.expression.NetBin.TheVariants as op
use Rattle.net_tree.specs.declared.expression.NetUn.TheVariants as un
use Rattle.net_tree.specs.declared.expression.CastWord.TheVariants as word
use Rattle.net_tree.specs.Types as ty
use Rattle.net_tree.specs.Tree.{Exp, Exps, binary, call_of, cast, ctype, decimal, dot, integer, lit, long, me, new_array, new_object, next_exp, no_exps, path, short, str, type_of, unary, with_dot}
use Rattle.net_tree.specs.declared.line.NetLabel.TheVariants.{Number}
use Rattle.net_tree.specs.Spelling.{label_text}
use Rattle.net_exprs.specs.Names.{label_at}
use Rattle.net_exprs.specs.Types.{basic_type_of}
use Rattle.net_exprs.specs.Expressions.{exp_at, front_of, keyword_of, operator_at, start_of, suffix_of, word_front}

abbrev one_name : List ℕ → Exp
one_name name = path (name ∷ [])

abbrev a : Exp
a = one_name (codes "a")

abbrev b : Exp
b = one_name (codes "b")

abbrev one : Exp → Exps
one e = next_exp e no_exps

abbrev T : ty.TypeName
T = ty.named (codes "T" ∷ [])

abbrev whole_number : ℕ → Exp
whole_number n = lit (integer (pos n) false)

-- objects, and arrays that are made
object_called : exp_at (codes "New T(a)(b)") ≡ Some (call_of (new_object T (one a)) (one b), [])
unfolding basic_type_of front_of keyword_of operator_at start_of suffix_of word_front
object_called = refl

no_items : exp_at (codes "New T() {}") ≡ Some (new_array T no_exps, [])
unfolding basic_type_of front_of keyword_of operator_at start_of suffix_of word_front
no_items = refl

array_of_arrays : exp_at (codes "New T()(b) {}") ≡ Some (new_array (ty.array_of T 1) (one b), [])
unfolding basic_type_of front_of keyword_of operator_at start_of suffix_of word_front
array_of_arrays = refl

object_alone : exp_at (codes "New T()") ≡ Some (new_object T no_exps, [])
unfolding basic_type_of front_of keyword_of operator_at start_of suffix_of word_front
object_alone = refl

object_calls : exp_at (codes "New T()()(a)") ≡ Some (call_of (call_of (new_object T no_exps) no_exps) (one a), [])
unfolding basic_type_of front_of keyword_of operator_at start_of suffix_of word_front
object_calls = refl

empty_array : exp_at (codes "New T(-1) {}") ≡ Some (new_array T (one (lit (integer (negsuc 0) false))), [])
unfolding basic_type_of front_of keyword_of operator_at start_of suffix_of word_front
empty_array = refl

arrays_of_ranks : exp_at (codes "New Integer(,)()(a, 2) {}") ≡ Some (new_array (ty.array_of (ty.array_of ty.integer 2) 1) (next_exp a (one (whole_number 2))), [])
unfolding basic_type_of front_of keyword_of operator_at start_of suffix_of word_front
arrays_of_ranks = refl

array_item : exp_at (codes "New T(a) {}(b).c") ≡ Some (dot (call_of (new_array T (one a)) (one b)) (codes "c"), [])
unfolding basic_type_of front_of keyword_of operator_at start_of suffix_of word_front
array_item = refl

object_member : exp_at (codes "New T()().c") ≡ Some (dot (call_of (new_object T no_exps) no_exps) (codes "c"), [])
unfolding basic_type_of front_of keyword_of operator_at start_of suffix_of word_front
object_member = refl

number_member : exp_at (codes "5.name") ≡ Some (dot (whole_number 5) (codes "name"), [])
unfolding basic_type_of front_of keyword_of operator_at start_of suffix_of word_front
number_member = refl

decimal_places : exp_at (codes "5.5D") ≡ Some (lit (decimal (pos 55000)), [])
unfolding basic_type_of front_of keyword_of operator_at start_of suffix_of word_front
decimal_places = refl

hexadecimal_short : exp_at (codes "&HFFFFS") ≡ Some (lit (short (negsuc 0) true), [])
unfolding basic_type_of front_of keyword_of operator_at start_of suffix_of word_front
hexadecimal_short = refl

hexadecimal_integer : exp_at (codes "&H7FI") ≡ Some (lit (integer (pos 127) true), [])
unfolding basic_type_of front_of keyword_of operator_at start_of suffix_of word_front
hexadecimal_integer = refl

long_number : exp_at (codes "17L") ≡ Some (lit (long (pos 17)), [])
unfolding basic_type_of front_of keyword_of operator_at start_of suffix_of word_front
long_number = refl

short_number : exp_at (codes "17S") ≡ Some (lit (short (pos 17) false), [])
unfolding basic_type_of front_of keyword_of operator_at start_of suffix_of word_front
short_number = refl

nested_calls : exp_at (codes "a(a(b), a(), 1)") ≡ Some (call_of a (next_exp (call_of a (one b)) (next_exp (call_of a no_exps) (one (whole_number 1)))), [])
unfolding basic_type_of front_of keyword_of operator_at start_of suffix_of word_front
nested_calls = refl

doubled_quote : exp_at (codes "\"a\"\"b\"") ≡ Some (lit (str (codes "a\"b")), [])
unfolding basic_type_of front_of keyword_of operator_at start_of suffix_of word_front
doubled_quote = refl

bracketed : exp_at (codes "[Me].x") ≡ Some (path (codes "Me" ∷ codes "x" ∷ []), [])
unfolding basic_type_of front_of keyword_of operator_at start_of suffix_of word_front
bracketed = refl

member_of_me : exp_at (codes "Me.x") ≡ Some (dot me (codes "x"), [])
unfolding basic_type_of front_of keyword_of operator_at start_of suffix_of word_front
member_of_me = refl

library_path : exp_at (codes "System.Me") ≡ Some (path (codes "System" ∷ codes "Me" ∷ []), [])
unfolding basic_type_of front_of keyword_of operator_at start_of suffix_of word_front
library_path = refl

with_member : exp_at (codes ".a.[Next](b)") ≡ Some (call_of (dot (with_dot (codes "a")) (codes "Next")) (one b), [])
unfolding basic_type_of front_of keyword_of operator_at start_of suffix_of word_front
with_member = refl

operators : exp_at (codes "((a <> b) And (Not (-a)))") ≡ Some (binary op.And (binary op.NotEqual a b) (unary un.Not (unary un.Neg a)), [])
unfolding basic_type_of front_of keyword_of operator_at start_of suffix_of word_front
operators = refl

conversion : exp_at (codes "CInt(CType(a, T(,)))") ≡ Some (cast word.CInt (ctype a (ty.array_of T 2)), [])
unfolding basic_type_of front_of keyword_of operator_at start_of suffix_of word_front
conversion = refl

type_tested : exp_at (codes "(TypeOf a Is System.Array)") ≡ Some (type_of a ty.system_array, [])
unfolding basic_type_of front_of keyword_of operator_at start_of suffix_of word_front
type_tested = refl

ended : exp_at (codes "a Then") ≡ Some (a, codes " Then")
unfolding basic_type_of front_of keyword_of operator_at start_of suffix_of word_front
ended = refl

-- Of a number of more than 64 digits the last 64 are written, so a number that fits no type may not be read back.
long_label : label_at (label_text (Number (10 ^ 64))) ≡ Some (Number 0, [])
unfolding digits
long_label = refl
