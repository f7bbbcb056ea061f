-- How expressions and their arguments are read.
use Rattle.std.specs.Prelude.{ℕ, zero, suc, negsuc, true, false, nat_le, ◌||◌, ◌==◌, if◌then◌else◌, List, [], ◌∷◌, length, codes, Option, Some, None}
use Rattle.net_tree.specs.declared.expression.CastWord.{CastWord}
use Rattle.net_tree.specs.declared.expression.CastWord.TheVariants as word
use Rattle.net_tree.specs.declared.expression.NetBin.{NetBin}
use Rattle.net_tree.specs.declared.expression.NetBin.TheVariants as op
use Rattle.net_tree.specs.declared.expression.NetUn.TheVariants as un
use Rattle.net_tree.specs.Types.{TypeName, array_of}
use Rattle.net_tree.specs.Tree.{Exp, Exps, binary, boolean, call_of, cast, ctype, dot, integer, lit, me, new_array, new_object, next_exp, no_exps, nothing, paren, path, type_of, unary, with_dot}
use Rattle.net_tree.specs.Spelling.{is_word_part, is_same_text}
use Rattle.net_tree.specs.Expressions.{operator_text}
use Rattle.net_tree.specs.Depth.{depth_exp, depth_exps}
use Rattle.net_exprs.specs.declared.openings.Nest.{Nest}
use Rattle.net_exprs.specs.declared.openings.Nest.TheVariants as nest
use Rattle.net_exprs.specs.declared.starts.Front.{Front}
use Rattle.net_exprs.specs.declared.starts.Front.TheVariants as opens
use Rattle.net_exprs.specs.declared.starts.Keyword.{Keyword}
use Rattle.net_exprs.specs.declared.starts.Keyword.TheVariants as key
use Rattle.net_exprs.specs.declared.starts.Start.{Start}
use Rattle.net_exprs.specs.declared.starts.Start.TheVariants as start
use Rattle.net_exprs.specs.Readers.{after, behind, look_up, past, word_at}
use Rattle.net_exprs.specs.Names.{is_digit, name_at, path_at}
use Rattle.net_exprs.specs.Literals.{literal_at}
use Rattle.net_exprs.specs.Types.{base_at, commas_from, type_at}

-- ---- what is read so far

-- An expression; or New, a type and parentheses. While these hold nothing but commas, they may be ranks, and the last ones
-- stand first; behind expressions the braces decide whether these are the bounds of an array.
pub data Stage : Type 0 where
  whole : Exp → Stage
  ranked : TypeName → (ranks : List ℕ) → Stage
  bounded : TypeName → (ranks : List ℕ) → (bounds : Exps) → Stage

-- what stands in parentheses: commas alone, as a rank, or expressions
pub data Group : Type 0 where
  rank : ℕ → Group
  items : Exps → Group

-- the array type with these ranks, of which the last stands first
abbrev pub with_ranks : TypeName → List ℕ → TypeName
with_ranks t [] = t
with_ranks t (r ∷ ranks) = array_of (with_ranks t ranks) r

-- an object of a type, with a call for each of the parentheses behind the first
abbrev pub object_of : TypeName → List ℕ → Exp
object_of t [] = new_object t no_exps
object_of t (r ∷ []) = new_object t no_exps
object_of t (r ∷ q ∷ ranks) = call_of (object_of t (q ∷ ranks)) no_exps

abbrev pub object_with : TypeName → List ℕ → Exps → Exp
object_with t [] args = new_object t args
object_with t (r ∷ ranks) args = call_of (object_of t (r ∷ ranks)) args

-- the expression that ends here
abbrev pub value_of : Stage → Exp
value_of (whole e) = e
value_of (ranked t ranks) = object_of t ranks
value_of (bounded t ranks bounds) = object_with t ranks bounds

-- the array that is made where braces follow
abbrev pub array_made : Stage → Option Exp
array_made (whole e) = None
array_made (ranked t []) = None
array_made (ranked t (r ∷ ranks)) = Some (new_array (with_ranks t ranks) no_exps)
array_made (bounded t ranks bounds) = Some (new_array (with_ranks t ranks) bounds)

abbrev pub with_group : Stage → Group → Stage
with_group (whole e) (rank r) = whole (call_of e no_exps)
with_group (whole e) (items es) = whole (call_of e es)
with_group (ranked t ranks) (rank r) = ranked t (r ∷ ranks)
with_group (ranked t ranks) (items es) = bounded t ranks es
with_group (bounded t ranks bounds) (rank r) = whole (call_of (object_with t ranks bounds) no_exps)
with_group (bounded t ranks bounds) (items es) = whole (call_of (object_with t ranks bounds) es)

-- ---- what stands in parentheses

-- what may stand behind an opening parenthesis
unfoldable pub word_front : List ℕ → Front
word_front word = if is_same_text word (codes "Not") then opens.Negation else (if is_same_text word (codes "TypeOf") then opens.TypeTest else opens.Operand)

unfoldable pub front_of : List ℕ → Front
front_of [] = opens.Operand
front_of (c ∷ s) = if c == 41 then opens.Closing else (if c == 44 then opens.Comma else (if c == 45 then opens.Minus else word_front (word_at (c ∷ s)).0))

-- what follows an expression of a list: the closing parenthesis, or a comma and more
abbrev pub items_behind : (List ℕ → Option (Exps × List ℕ)) → Exp → List ℕ → Option (Exps × List ℕ)
items_behind go e [] = None
items_behind go e (c ∷ s) =
    elim (c == 41) [
      | true ↦ Some (next_exp e no_exps, s)
      | false ↦ past (after (codes ", ") (c ∷ s)) (λ s. behind (go s) (λ es rest. Some (next_exp e es, rest)))
    ]

-- at least one expression and at most so many, up to the closing parenthesis
abbrev pub items_from : (read : List ℕ → Option (Exp × List ℕ)) → ℕ → List ℕ → Option (Exps × List ℕ)
items_from read zero s = None
items_from read (suc n) s = behind (read s) (items_behind (items_from read n))

abbrev pub group_by : (read : List ℕ → Option (Exp × List ℕ)) → ℕ → List ℕ → Front → Option (Group × List ℕ)
group_by read n s opens.Closing = behind (commas_from 1 s) (λ r rest. Some (rank r, rest))
group_by read n s opens.Comma = behind (commas_from 1 s) (λ r rest. Some (rank r, rest))
group_by read n s opens.Minus = behind (items_from read n s) (λ es rest. Some (items es, rest))
group_by read n s opens.Negation = behind (items_from read n s) (λ es rest. Some (items es, rest))
group_by read n s opens.TypeTest = behind (items_from read n s) (λ es rest. Some (items es, rest))
group_by read n s opens.Operand = behind (items_from read n s) (λ es rest. Some (items es, rest))

-- what stands behind an opening parenthesis of a call, an element or an array, up to the closing one
abbrev pub group_at : (read : List ℕ → Option (Exp × List ℕ)) → List ℕ → Option (Group × List ℕ)
group_at read s = group_by read (length s) s (front_of s)

-- ---- suffixes

-- what follows an expression, and what stands behind its sign
pub data Suffix : Type 0 where
  member : List ℕ → Suffix
  group : List ℕ → Suffix
  braces : List ℕ → Suffix
  no_suffix : Suffix

abbrev pub braces_or_none : Option (List ℕ) → Suffix
braces_or_none (Some s) = braces s
braces_or_none None = no_suffix

unfoldable pub suffix_of : List ℕ → Suffix
suffix_of [] = no_suffix
suffix_of (c ∷ s) = if c == 46 then member s else (if c == 40 then group s else braces_or_none (after (codes " {}") (c ∷ s)))

-- what follows the braces, if an array was made
abbrev pub braces_behind : (Stage → List ℕ → Option (Exp × List ℕ)) → Stage → (s behind_braces : List ℕ) → Option Exp → Option (Exp × List ℕ)
braces_behind go stage s behind_braces (Some e) = go (whole e) behind_braces
braces_behind go stage s behind_braces None = Some (value_of stage, s)

abbrev pub suffix_by : (Stage → List ℕ → Option (Exp × List ℕ)) → (List ℕ → Option (Group × List ℕ)) → Stage → List ℕ → Suffix → Option (Exp × List ℕ)
suffix_by go read_group stage s (member rest) = behind (name_at rest) (λ name. go (whole (dot (value_of stage) name)))
suffix_by go read_group stage s (group rest) = behind (read_group rest) (λ g. go (with_group stage g))
suffix_by go read_group stage s (braces rest) = braces_behind go stage s rest (array_made stage)
suffix_by go read_group stage s no_suffix = Some (value_of stage, s)

-- what is read so far, with at most so many suffixes
abbrev pub suffixes : (read_group : List ℕ → Option (Group × List ℕ)) → ℕ → Stage → List ℕ → Option (Exp × List ℕ)
suffixes read_group zero stage s = Some (value_of stage, s)
suffixes read_group (suc n) stage s = suffix_by (suffixes read_group n) read_group stage s (suffix_of s)

-- ---- what an expression begins with

-- an expression up to the closing parenthesis
abbrev pub closed : (Exp → Exp) → Exp → List ℕ → Option (Stage × List ℕ)
closed make e s = past (after (codes ")") s) (λ rest. Some (whole (make e), rest))

abbrev pub type_closed : TypeName → List ℕ → Option (TypeName × List ℕ)
type_closed t s = past (after (codes ")") s) (λ rest. Some (t, rest))

-- a text and a type, up to the closing parenthesis
abbrev pub type_behind : (text s : List ℕ) → Option (TypeName × List ℕ)
type_behind text s = past (after text s) (λ s. behind (type_at s) type_closed)

-- an expression, a text and a type, up to the closing parenthesis
abbrev pub closed_type : (text : List ℕ) → (Exp → TypeName → Exp) → Exp → List ℕ → Option (Stage × List ℕ)
closed_type text make e s = behind (type_behind text s) (λ t rest. Some (whole (make e t), rest))

abbrev pub operators : List NetBin
operators =
    op.Add ∷ op.Sub ∷ op.Mul ∷ op.IntDiv ∷ op.Mod ∷ op.Concat ∷ op.Equal ∷ op.NotEqual ∷ op.Less ∷ op.Greater ∷ op.LessEqual ∷ op.GreaterEqual ∷ op.And ∷ op.Or ∷ op.Xor
    ∷ op.Is ∷ []

abbrev pub operator_or : NetBin → Option (List ℕ) → Option (NetBin × List ℕ) → Option (NetBin × List ℕ)
operator_or o (Some rest) more = Some (o, rest)
operator_or o None more = more

-- the first of these operators that stands at the front, with the blanks around it
abbrev pub operator_from : List NetBin → List ℕ → Option (NetBin × List ℕ)
operator_from [] s = None
operator_from (o ∷ os) s = operator_or o (after (operator_text o) s) (operator_from os s)

unfoldable pub operator_at : List ℕ → Option (NetBin × List ℕ)
operator_at s = operator_from operators s

-- what follows the first operand in parentheses
abbrev pub operand_behind : (read : List ℕ → Option (Exp × List ℕ)) → Exp → List ℕ → Option (Stage × List ℕ)
operand_behind read e [] = None
operand_behind read e (c ∷ s) =
    elim (c == 41) [
      | true ↦ Some (whole (paren e), s)
      | false ↦ behind (operator_at (c ∷ s)) (λ o s. behind (read s) (closed (binary o e)))
    ]

-- what stands behind an expression that is nested in another
abbrev pub nest_behind : (read : List ℕ → Option (Exp × List ℕ)) → Nest → Exp → List ℕ → Option (Stage × List ℕ)
nest_behind read (nest.Cast w) e = closed (cast w) e
nest_behind read nest.Convert e = closed_type (codes ", ") ctype e
nest_behind read (nest.Unary o) e = closed (unary o) e
nest_behind read nest.TypeTest e = closed_type (codes " Is ") type_of e
nest_behind read nest.Parentheses e = operand_behind read e

-- What an expression begins with: what needs no other expression, or what stands before one that is nested.
pub data Opening : Type 0 where
  leaf : Stage → Opening
  nested : Nest → Opening

abbrev pub nested_past : Nest → Option (List ℕ) → Option (Opening × List ℕ)
nested_past n behind_it = past behind_it (λ s. Some (nested n, s))

-- what stands behind an opening parenthesis that an expression begins with
abbrev pub parenthesized : List ℕ → Front → Option (Opening × List ℕ)
parenthesized s opens.Closing = None
parenthesized s opens.Comma = None
parenthesized s opens.Minus = nested_past (nest.Unary un.Neg) (after (codes "-") s)
parenthesized s opens.Negation = nested_past (nest.Unary un.Not) (after (codes "Not ") s)
parenthesized s opens.TypeTest = nested_past nest.TypeTest (after (codes "TypeOf ") s)
parenthesized s opens.Operand = Some (nested nest.Parentheses, s)

abbrev pub cast_words : List (List ℕ × CastWord)
cast_words =
    (codes "CBool", word.CBool) ∷ (codes "CByte", word.CByte) ∷ (codes "CShort", word.CShort) ∷ (codes "CInt", word.CInt)
    ∷ (codes "CLng", word.CLng) ∷ (codes "CDec", word.CDec) ∷ (codes "CStr", word.CStr) ∷ (codes "CObj", word.CObj) ∷ []

-- the words of the language that an expression begins with
abbrev pub keywords : List (List ℕ × Keyword)
keywords =
    (codes "Nothing", key.Nothing) ∷ (codes "Me", key.Me) ∷ (codes "True", key.True) ∷ (codes "False", key.False)
    ∷ (codes "CBool", key.Cast word.CBool) ∷ (codes "CByte", key.Cast word.CByte) ∷ (codes "CShort", key.Cast word.CShort) ∷ (codes "CInt", key.Cast word.CInt)
    ∷ (codes "CLng", key.Cast word.CLng) ∷ (codes "CDec", key.Cast word.CDec) ∷ (codes "CStr", key.Cast word.CStr) ∷ (codes "CObj", key.Cast word.CObj)
    ∷ (codes "CType", key.CType) ∷ (codes "New", key.New) ∷ []

unfoldable pub keyword_of : List ℕ → Option Keyword
keyword_of word = look_up word keywords

abbrev pub path_opening : List ℕ → Option (Opening × List ℕ)
path_opening s = behind (path_at s) (λ names rest. Some (leaf (whole (path names)), rest))

-- an object or an array that is made, behind New
abbrev pub new_opening : List ℕ → Option (Opening × List ℕ)
new_opening s = past (after (codes " ") s) (λ s. behind (base_at s) (λ t rest. Some (leaf (ranked t []), rest)))

-- what stands behind a word of the language; where there is none, a path begins
abbrev pub worded : (rest s : List ℕ) → Option Keyword → Option (Opening × List ℕ)
worded rest s (Some key.Nothing) = Some (leaf (whole nothing), rest)
worded rest s (Some key.Me) = Some (leaf (whole me), rest)
worded rest s (Some key.True) = Some (leaf (whole (lit (boolean true))), rest)
worded rest s (Some key.False) = Some (leaf (whole (lit (boolean false))), rest)
worded rest s (Some (key.Cast w)) = nested_past (nest.Cast w) (after (codes "(") rest)
worded rest s (Some key.CType) = nested_past nest.Convert (after (codes "(") rest)
worded rest s (Some key.New) = new_opening rest
worded rest s None = path_opening s

-- what the first character tells
unfoldable pub start_of : ℕ → Start
start_of c =
    if is_digit c then start.Literal
    else (if is_word_part c then start.Word
    else (if c == 34 || c == 38 then start.Literal
    else (if c == 91 then start.Bracket
    else (if c == 46 then start.Point
    else (if c == 40 then start.Opening
    else (if c == 45 then start.Minus else start.Other))))))

abbrev pub literal_opening : List ℕ → Option (Opening × List ℕ)
literal_opening s = behind (literal_at s) (λ l rest. Some (leaf (whole (lit l)), rest))

-- a member of the innermost With's object, behind its full stop
abbrev pub point_opening : List ℕ → Option (Opening × List ℕ)
point_opening s = behind (name_at s) (λ name rest. Some (leaf (whole (with_dot name)), rest))

-- The one number with a sign is the bound -1.
abbrev pub minus_opening : List ℕ → Option (Opening × List ℕ)
minus_opening s = past (after (codes "1") s) (λ rest. Some (leaf (whole (lit (integer (negsuc 0) false))), rest))

abbrev pub started : (s rest : List ℕ) → Start → Option (Opening × List ℕ)
started s rest start.Literal = literal_opening s
started s rest start.Word = worded (word_at s).1 s (keyword_of (word_at s).0)
started s rest start.Bracket = path_opening s
started s rest start.Point = point_opening rest
started s rest start.Opening = parenthesized rest (front_of rest)
started s rest start.Minus = minus_opening rest
started s rest start.Other = None

abbrev pub opening_at : List ℕ → Option (Opening × List ℕ)
opening_at [] = None
opening_at (c ∷ s) = started (c ∷ s) s (start_of c)

abbrev pub opened : (read : List ℕ → Option (Exp × List ℕ)) → Opening → List ℕ → Option (Stage × List ℕ)
opened read (leaf stage) s = Some (stage, s)
opened read (nested n) s = behind (read s) (nest_behind read n)

-- what an expression begins with, up to its suffixes
abbrev pub head_at : (read : List ℕ → Option (Exp × List ℕ)) → List ℕ → Option (Stage × List ℕ)
head_at read s = behind (opening_at s) (opened read)

-- ---- expressions

-- An expression in which at most so many operands, arguments and parentheses are nested; of suffixes there may be more.
abbrev pub exp_nested : (room : ℕ) → List ℕ → Option (Exp × List ℕ)
exp_nested zero s = None
exp_nested (suc room) s = behind (head_at (exp_nested room) s) (suffixes (group_at (exp_nested room)) (length s))

abbrev pub exp_at : List ℕ → Option (Exp × List ℕ)
exp_at s = exp_nested (suc (length s)) s

abbrev pub arguments_of : Group → Exps
arguments_of (rank r) = no_exps
arguments_of (items es) = es

-- arguments, or the bounds of an array, with their parentheses, each of at most so many nested expressions
abbrev pub arguments_nested : (room : ℕ) → List ℕ → Option (Exps × List ℕ)
arguments_nested room s = past (after (codes "(") s) (λ inner. behind (group_at (exp_nested room) inner) (λ g rest. Some (arguments_of g, rest)))

abbrev pub arguments_at : List ℕ → Option (Exps × List ℕ)
arguments_at s = arguments_nested (suc (length s)) s

-- ---- what is no deeper than the room

abbrev pub no_deeper : {X : Type 0} → (depth : X → ℕ) → (room : ℕ) → X → List ℕ → Option (X × List ℕ)
no_deeper depth room x rest = if nat_le (depth x) room then Some (x, rest) else None

-- an expression that is no deeper than that, where members and argument lists behind an expression count too
abbrev pub exp_within : (room : ℕ) → List ℕ → Option (Exp × List ℕ)
exp_within room s = behind (exp_nested room s) (no_deeper depth_exp room)

-- arguments, or the bounds of an array, with their parentheses, none of them deeper than that
abbrev pub arguments_within : (room : ℕ) → List ℕ → Option (Exps × List ℕ)
arguments_within room s = behind (arguments_nested room s) (no_deeper depth_exps room)
