-- What is written for an expression without a type: it stands as it is, without conversions, and parentheses are left out.
use Rattle.std.specs.Prelude.{ℕ, Bool, true, false, cond, ◌||◌, nat_eq, List, codes}
use Rattle.std.specs.Cmp.Lexicographic.{pointwise}
use Rattle.up_base.specs.Names.{lower_case}
use Rattle.vb_tree.specs.declared.token.Literal6.{Literal6}
use Rattle.vb_tree.specs.declared.token.Literal6.TheVariants as literal
use Rattle.vb_tree.specs.declared.value.Value6.TheVariants as v
use Rattle.vb_tree.specs.Tree.{Exp, lit, word, bracketed, me, member, with_member, with_bang, index, unary, binary, paren, new_object, bang, type_of, address_of, Args, no_args, next_arg, Given, omitted, given}
use Rattle.net_tree.specs.Tree as net
use Rattle.net_tree.specs.Types as types
use Rattle.written_trees.specs.Literals.{constant_exp}
use Rattle.written_trees.specs.Names as names
use Rattle.written_trees.specs.Operators.{signed, unsigned}

abbrev pub literal_exp : Literal6 → net.Exp
literal_exp (literal.Int z hexadecimal) = constant_exp hexadecimal (v.Int z)
literal_exp (literal.Long z hexadecimal) = constant_exp hexadecimal (v.Long z)
literal_exp (literal.Cur z) = constant_exp false (v.Cur z)
literal_exp (literal.Plain z) = constant_exp false (v.Cur z)
literal_exp literal.Floating = net.nothing
literal_exp literal.Date = net.nothing
literal_exp (literal.Str units) = constant_exp false (v.Str units)

abbrev pub is_word : List ℕ → List ℕ → Bool
is_word key name = pointwise nat_eq key name

abbrev pub no_value : List ℕ → Bool
no_value key = is_word key (codes "nothing") || (is_word key (codes "empty") || is_word key (codes "null"))

-- keywords of values; all else is a name
abbrev pub keyed : (key name : List ℕ) → net.Exp
keyed key name =
    cond (is_word key (codes "true")) (net.lit (net.boolean true))
    (cond (is_word key (codes "false")) (net.lit (net.boolean false))
    (cond (no_value key) net.nothing (net.path (names.alone name))))

abbrev pub word_exp : List ℕ → net.Exp
word_exp name = keyed (lower_case name) name

-- What breaks a rule that replaces its line has nothing written for it: `!`, TypeOf, AddressOf, and operators that aren't translated.
abbrev mutual
  pub loose_exp : Exp → net.Exp
  loose_exp (lit l) = literal_exp l
  loose_exp (word name suffix) = word_exp name
  loose_exp (bracketed name suffix) = net.path (names.alone name)
  loose_exp me = net.me
  loose_exp (member e name) = names.member (loose_exp e) name
  loose_exp (with_member name) = net.with_dot name
  loose_exp (with_bang name) = net.nothing
  loose_exp (index e args) = net.call_of (loose_exp e) (loose_args args)
  loose_exp (unary o e) = unsigned o (loose_exp e)
  loose_exp (binary o e f) = signed o (loose_exp e) (loose_exp f)
  loose_exp (paren e) = loose_exp e
  loose_exp (new_object c) = net.new_object (types.named (names.alone c)) net.no_exps
  loose_exp (bang e name) = net.nothing
  loose_exp (type_of e ty) = net.nothing
  loose_exp (address_of name) = net.nothing

  pub loose_args : Args → net.Exps
  loose_args no_args = net.no_exps
  loose_args (next_arg name marked arg rest) = loose_given arg (loose_args rest)

  pub loose_given : Given → net.Exps → net.Exps
  loose_given omitted rest = rest
  loose_given (given e) rest = net.next_exp (loose_exp e) rest
