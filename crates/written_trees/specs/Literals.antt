-- What is written for constants.
use Rattle.std.specs.Prelude.{ℕ, suc, nat_le, Bool, true, false, ◌&&◌, ◌||◌, cond, ℤ, pos, negsuc, List, [], ◌∷◌, codes, Option, Some, None}
use Rattle.vb_tree.specs.BoundTree as vb
use Rattle.vb_tree.specs.BoundTree.{Ty}
use Rattle.vb_tree.specs.declared.value.Value6.{Value6}
use Rattle.vb_tree.specs.declared.value.Value6.TheVariants as v
use Rattle.bound_tree.specs.declared.expression.Origin.{Origin}
use Rattle.bound_tree.specs.declared.expression.Origin.TheVariants.{Literal, Hexadecimal, Declared}
use Rattle.bound_tree.specs.Tree.{Expr, typed, Term, constant}
use Rattle.bound_facts.specs.Folded.{converted_value}
use Rattle.net_tree.specs.declared.expression.CastWord.TheVariants as word
use Rattle.net_tree.specs.declared.expression.NetBin.TheVariants as op
use Rattle.net_tree.specs.declared.expression.NetUn.TheVariants as un
use Rattle.net_tree.specs.Tree as net
use Rattle.written_trees.specs.Names.{strings}

-- ---- texts: a quoted run, perhaps empty, then single units and further runs

pub data Piece : Type 0 where
  quoted : List ℕ → Piece
  unit : ℕ → Piece

pub record Pieces : Type 0 where
  pub first : List ℕ
  pub more : List Piece

-- units that stand in quotes
abbrev pub is_plain : ℕ → Bool
is_plain c = nat_le 32 c && nat_le c 126

-- no empty run stands behind a single unit
abbrev pub behind : List ℕ → List Piece → List Piece
behind [] more = more
behind (c ∷ run) more = quoted (c ∷ run) ∷ more

abbrev pub in_front : ℕ → Pieces → Pieces
in_front c p = cond (is_plain c) (record { first = c ∷ p.first; more = p.more }) (record { first = []; more = unit c ∷ behind p.first p.more })

abbrev pub pieces_of : List ℕ → Pieces
pieces_of [] = record { first = []; more = [] }
pieces_of (c ∷ units) = in_front c (pieces_of units)

abbrev pub text : List ℕ → net.Exp
text units = net.lit (net.str units)

abbrev pub number : ℕ → net.Exp
number n = net.lit (net.integer (pos n) false)

abbrev pub piece_exp : Piece → net.Exp
piece_exp (quoted run) = text run
piece_exp (unit c) = net.call_of (net.path (strings (codes "ChrW"))) (net.next_exp (number c) net.no_exps)

-- joined from the left
abbrev pub joined : net.Exp → List Piece → net.Exp
joined e [] = e
joined e (p ∷ more) = joined (net.binary op.Concat e (piece_exp p)) more

abbrev pub text_exp : List ℕ → net.Exp
text_exp units = joined (text (pieces_of units).first) (pieces_of units).more

-- ---- constants

abbrev pub is_negative : ℤ → Bool
is_negative (pos m) = false
is_negative (negsuc m) = true

-- Currency counts ten-thousandths; a negative one has its minus written
abbrev pub currency_exp : ℤ → net.Exp
currency_exp (pos m) = net.lit (net.decimal (pos m))
currency_exp (negsuc m) = net.unary un.Neg (net.lit (net.decimal (pos (suc m))))

-- whole numbers are written in hexadecimal where they are spelt so, and where they are negative
abbrev pub constant_exp : (hexadecimal : Bool) → Value6 → net.Exp
constant_exp h (v.Boolean b) = net.lit (net.boolean b)
constant_exp h (v.Byte m) = net.cast word.CByte (net.lit (net.short (pos m) false))
constant_exp h (v.Int z) = net.lit (net.short z (h || is_negative z))
constant_exp h (v.Long z) = net.lit (net.integer z (h || is_negative z))
constant_exp h (v.Cur z) = currency_exp z
constant_exp h (v.Str units) = text_exp units
constant_exp h v.Nothing = net.nothing
constant_exp h (v.Object k) = net.nothing
constant_exp h v.Empty = net.nothing

abbrev pub is_hexadecimal : Origin → Bool
is_hexadecimal Literal = false
is_hexadecimal Hexadecimal = true
is_hexadecimal (Declared c) = false

abbrev pub written_constant : Value6 → Origin → net.Exp
written_constant x origin = constant_exp (is_hexadecimal origin) x

-- ---- whole numbers that are written as literals of the type that they are converted to

abbrev pub is_whole : Ty → Bool
is_whole vb.integer = true
is_whole vb.long = true
is_whole _ = false

abbrev pub takes_literals : Ty → Bool
takes_literals vb.long = true
takes_literals vb.currency = true
takes_literals _ = false

abbrev pub spelt : Origin → Option Value6 → Option net.Exp
spelt origin None = None
spelt origin (Some x) = Some (written_constant x origin)

abbrev pub literal_of : Ty → Term → Option net.Exp
literal_of to (constant x origin) = spelt origin (converted_value to (Some x))
literal_of to _ = None

-- the literal of a type in the place of a constant of type Integer or Long that is converted to it, if the expression is one
abbrev pub literal_as : Ty → Expr → Option net.Exp
literal_as to (typed from term) = cond (takes_literals to && is_whole from) (literal_of to term) None
