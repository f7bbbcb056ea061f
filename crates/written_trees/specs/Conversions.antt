-- What is written where an expression of a type is converted to another.
use Rattle.std.specs.Prelude.{ℕ, Bool, true, false, cond, List, [], codes, Option, Some, None}
use Rattle.vb_tree.specs.BoundTree as vb
use Rattle.vb_tree.specs.BoundTree.{Ty}
use Rattle.bound_tree.specs.Tree.{Expr}
use Rattle.bound_facts.specs.Locks.{is_same_type}
use Rattle.bound_facts.specs.Node.{type_at}
use Rattle.net_tree.specs.declared.expression.CastWord.{CastWord}
use Rattle.net_tree.specs.declared.expression.CastWord.TheVariants as word
use Rattle.net_tree.specs.declared.expression.NetBin.TheVariants as op
use Rattle.net_tree.specs.Tree as net
use Rattle.written_trees.specs.Literals.{number, literal_as}
use Rattle.written_trees.specs.Names.{Path, support}

-- ---- calls

abbrev pub one : net.Exp → net.Exps
one a = net.next_exp a net.no_exps

abbrev pub two : net.Exp → net.Exp → net.Exps
two a b = net.next_exp a (one b)

abbrev pub three : net.Exp → net.Exp → net.Exp → net.Exps
three a b c = net.next_exp a (two b c)

abbrev pub call_path : Path → net.Exps → net.Exp
call_path names args = net.call_of (net.path names) args

-- a call of a support function
abbrev pub support_call : List ℕ → net.Exps → net.Exp
support_call name args = call_path (support name) args

-- ---- conversions

pub data Conversion : Type 0 where
  -- nothing is written
  stands : Conversion
  by_word : CastWord → Conversion
  by_support : (name : List ℕ) → Conversion
  -- a text in a Variant is never Nothing
  text_object : Conversion
  -- a text of a fixed length, cut or padded after a conversion to String
  cut : Conversion → (units : ℕ) → Conversion

abbrev pub applied : Conversion → net.Exp → net.Exp
applied stands e = e
applied (by_word w) e = net.cast w e
applied (by_support name) e = support_call name (one e)
applied text_object e = net.cast word.CObj (net.binary op.Concat (net.lit (net.str [])) e)
applied (cut c units) e = support_call (codes "Fix") (two (applied c e) (number units))

-- what becomes of a Boolean, a number or a Variant that has another type than the wanted one
abbrev pub counted : CastWord → (variants : List ℕ) → Ty → Conversion
counted w name vb.variant = by_support name
counted w name vb.unknown = stands
counted w name _ = by_word w

-- to a Boolean or a number
abbrev pub to_count : Ty → CastWord → (variants : List ℕ) → Ty → Conversion
to_count to w name from = cond (is_same_type from to) stands (counted w name from)

abbrev pub to_text : Ty → Conversion
to_text vb.boolean = by_word word.CStr
to_text vb.byte = by_word word.CStr
to_text vb.integer = by_word word.CStr
to_text vb.long = by_word word.CStr
to_text vb.currency = by_support (codes "CurText")
to_text vb.variant = by_support (codes "VarStr")
to_text _ = stands

abbrev pub to_variant : Ty → Conversion
to_variant vb.boolean = by_word word.CObj
to_variant vb.byte = by_word word.CObj
to_variant vb.integer = by_word word.CObj
to_variant vb.long = by_word word.CObj
to_variant vb.currency = by_word word.CObj
to_variant vb.str = text_object
to_variant (vb.fixed units) = text_object
to_variant _ = stands

-- an object goes to another type of objects as it stands
abbrev pub conversion : (from to : Ty) → Conversion
conversion from vb.boolean = to_count vb.boolean word.CBool (codes "VarBool") from
conversion from vb.byte = to_count vb.byte word.CByte (codes "VarByte") from
conversion from vb.integer = to_count vb.integer word.CShort (codes "VarShort") from
conversion from vb.long = to_count vb.long word.CInt (codes "VarInt") from
conversion from vb.currency = to_count vb.currency word.CDec (codes "VarCur") from
conversion from vb.str = to_text from
conversion from (vb.fixed units) = cut (to_text from) units
conversion from vb.variant = to_variant from
conversion from _ = stands

abbrev pub is_stands : Conversion → Bool
is_stands stands = true
is_stands _ = false

-- whether a conversion writes nothing
abbrev pub writes_nothing : (from to : Ty) → Bool
writes_nothing from to = is_stands (conversion from to)

abbrev pub literal_or : Option net.Exp → net.Exp → net.Exp
literal_or None e = e
literal_or (Some l) e = l

-- an expression, which is written `e`, as one of a type
abbrev pub converted : (to : Ty) → Expr → net.Exp → net.Exp
converted to from e = literal_or (literal_as to from) (applied (conversion (type_at from) to) e)
