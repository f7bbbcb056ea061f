-- Which tokens are an expression, and of which tree (MS-VBAL, Expressions).
--
-- Each token is a symbol. An expression as it is written is a tree that holds all that its symbols say, so its
-- spelling is a function; the precedence list says which such trees are grouped. The tree of an expression is what is
-- left without the words of keywords, and without suffixes and brackets where a name takes none.
use Rattle.std.specs.Prelude.{◌≡◌, ℕ, ◌+◌, ◌<◌, ◌≤◌, max, List, [], ◌∷◌, ◌++◌, length, take, map, Option, Some, None, is_some, Bool, true, false, codes, if◌then◌else◌, nat_eq}
use Rattle.std.specs.Cmp.Lexicographic.{pointwise}
use Rattle.up_base.specs.Names.{is_name, lower_case}
use Rattle.vb_tree.specs.declared.expression.BinOp.{BinOp}
use Rattle.vb_tree.specs.declared.expression.BinOp.TheVariants.{Pow, Mul, Div, IntDiv, Mod, Add, Sub, Concat, Equal, NotEqual, Less, Greater, LessEqual, GreaterEqual, Is, Like, And, Or, Xor, Eqv, Imp}
use Rattle.vb_tree.specs.declared.expression.UnOp.{UnOp}
use Rattle.vb_tree.specs.declared.expression.UnOp.TheVariants as un
use Rattle.vb_tree.specs.declared.token.Literal6.{Literal6}
use Rattle.vb_tree.specs.declared.token.Sign.{Sign}
use Rattle.vb_tree.specs.declared.token.Sign.TheVariants as sign
use Rattle.vb_tree.specs.declared.token.Suffix.{Suffix}
use Rattle.vb_tree.specs.declared.token.Suffix.TheVariants.{Absent}
use Rattle.vb_tree.specs.declared.token.Token.{Token}
use Rattle.vb_tree.specs.declared.token.TokenKind.{TokenKind}
use Rattle.vb_tree.specs.declared.token.TokenKind.TheVariants as kind
use Rattle.vb_tree.specs.Tree.{Exp, Args, Given}
use Rattle.vb_tree.specs.Tree as exp

-- What a token is (MS-VBAL, Lexical Tokens).

-- a word that can be a name: one that is not reserved, or one in brackets
pub data Naming : Type 0 where
  bare : (name : List ℕ) → Suffix → Naming
  in_brackets : (name : List ℕ) → Suffix → Naming

-- a token that is an operand by itself: a literal, a name, True, False, Nothing, Empty or Null, or Me
pub data Leaf : Type 0 where
  literal : Literal6 → Leaf
  naming : Naming → Leaf
  constant : (name : List ℕ) → Suffix → Leaf
  self : (name : List ℕ) → Leaf

-- What a token is in an expression. Each word keeps its letters, since behind `.` or `!` it is a name.
pub data Symbol : Type 0 where
  leaf : Leaf → Symbol
  new_word : (name : List ℕ) → Symbol
  type_of_word : (name : List ℕ) → Symbol
  address_of_word : (name : List ℕ) → Symbol
  by_val_word : (name : List ℕ) → Symbol
  not_word : (name : List ℕ) → Symbol
  operator : BinOp → (word : Option (List ℕ)) → Symbol
  reserved_word : (name : List ℕ) → Symbol
  access : (bang : Bool) → Symbol
  opening : Symbol
  closing : Symbol
  comma : Symbol
  assign : Symbol
  hash : Symbol
  other : Symbol

-- what a reserved word without a suffix is; a plain one begins and joins no expression
pub data Keyword : Type 0 where
  constant_word : Keyword
  self_word : Keyword
  new_keyword : Keyword
  type_of_keyword : Keyword
  address_of_keyword : Keyword
  by_val_keyword : Keyword
  not_keyword : Keyword
  operator_keyword : BinOp → Keyword
  plain_keyword : Keyword

-- the reserved words in small letters (MS-VBAL, Reserved Identifiers)
abbrev pub keywords : List (List ℕ × Keyword)
keywords =
    (codes "addressof", address_of_keyword)
    ∷ (codes "and", operator_keyword And)
    ∷ (codes "as", plain_keyword)
    ∷ (codes "byref", plain_keyword)
    ∷ (codes "byval", by_val_keyword)
    ∷ (codes "call", plain_keyword)
    ∷ (codes "case", plain_keyword)
    ∷ (codes "const", plain_keyword)
    ∷ (codes "declare", plain_keyword)
    ∷ (codes "dim", plain_keyword)
    ∷ (codes "do", plain_keyword)
    ∷ (codes "each", plain_keyword)
    ∷ (codes "else", plain_keyword)
    ∷ (codes "elseif", plain_keyword)
    ∷ (codes "empty", constant_word)
    ∷ (codes "end", plain_keyword)
    ∷ (codes "enum", plain_keyword)
    ∷ (codes "eqv", operator_keyword Eqv)
    ∷ (codes "erase", plain_keyword)
    ∷ (codes "event", plain_keyword)
    ∷ (codes "exit", plain_keyword)
    ∷ (codes "false", constant_word)
    ∷ (codes "for", plain_keyword)
    ∷ (codes "friend", plain_keyword)
    ∷ (codes "function", plain_keyword)
    ∷ (codes "global", plain_keyword)
    ∷ (codes "gosub", plain_keyword)
    ∷ (codes "goto", plain_keyword)
    ∷ (codes "if", plain_keyword)
    ∷ (codes "imp", operator_keyword Imp)
    ∷ (codes "implements", plain_keyword)
    ∷ (codes "in", plain_keyword)
    ∷ (codes "is", operator_keyword Is)
    ∷ (codes "let", plain_keyword)
    ∷ (codes "like", operator_keyword Like)
    ∷ (codes "loop", plain_keyword)
    ∷ (codes "lset", plain_keyword)
    ∷ (codes "me", self_word)
    ∷ (codes "mod", operator_keyword Mod)
    ∷ (codes "new", new_keyword)
    ∷ (codes "next", plain_keyword)
    ∷ (codes "not", not_keyword)
    ∷ (codes "nothing", constant_word)
    ∷ (codes "null", constant_word)
    ∷ (codes "on", plain_keyword)
    ∷ (codes "option", plain_keyword)
    ∷ (codes "optional", plain_keyword)
    ∷ (codes "or", operator_keyword Or)
    ∷ (codes "paramarray", plain_keyword)
    ∷ (codes "preserve", plain_keyword)
    ∷ (codes "private", plain_keyword)
    ∷ (codes "public", plain_keyword)
    ∷ (codes "raiseevent", plain_keyword)
    ∷ (codes "redim", plain_keyword)
    ∷ (codes "rem", plain_keyword)
    ∷ (codes "resume", plain_keyword)
    ∷ (codes "return", plain_keyword)
    ∷ (codes "rset", plain_keyword)
    ∷ (codes "select", plain_keyword)
    ∷ (codes "set", plain_keyword)
    ∷ (codes "static", plain_keyword)
    ∷ (codes "stop", plain_keyword)
    ∷ (codes "sub", plain_keyword)
    ∷ (codes "then", plain_keyword)
    ∷ (codes "to", plain_keyword)
    ∷ (codes "true", constant_word)
    ∷ (codes "type", plain_keyword)
    ∷ (codes "typeof", type_of_keyword)
    ∷ (codes "until", plain_keyword)
    ∷ (codes "wend", plain_keyword)
    ∷ (codes "while", plain_keyword)
    ∷ (codes "with", plain_keyword)
    ∷ (codes "withevents", plain_keyword)
    ∷ (codes "xor", operator_keyword Xor)
    ∷ []

abbrev pub keyword_in : List (List ℕ × Keyword) → List ℕ → Option Keyword
keyword_in [] w = None
keyword_in (k ∷ ks) w = if pointwise nat_eq w k.0 then Some k.1 else keyword_in ks w

-- what a word in small letters is, if it is reserved
unfoldable pub keyword_of : List ℕ → Option Keyword
keyword_of w = keyword_in keywords w

abbrev pub keyword_symbol : Keyword → List ℕ → Symbol
keyword_symbol constant_word n = leaf (constant n Absent)
keyword_symbol self_word n = leaf (self n)
keyword_symbol new_keyword n = new_word n
keyword_symbol type_of_keyword n = type_of_word n
keyword_symbol address_of_keyword n = address_of_word n
keyword_symbol by_val_keyword n = by_val_word n
keyword_symbol not_keyword n = not_word n
keyword_symbol (operator_keyword op) n = operator op (Some n)
keyword_symbol plain_keyword n = reserved_word n

-- a reserved word with a suffix is neither a keyword nor a name
abbrev pub word_symbol : Option Keyword → List ℕ → Suffix → Symbol
word_symbol None n s = leaf (naming (bare n s))
word_symbol (Some k) n Absent = keyword_symbol k n
word_symbol (Some k) n _ = reserved_word n

abbrev pub sign_symbol : Sign → Symbol
sign_symbol sign.OpenParen = opening
sign_symbol sign.CloseParen = closing
sign_symbol sign.Comma = comma
sign_symbol sign.Dot = access false
sign_symbol sign.Bang = access true
sign_symbol sign.Equal = operator Equal None
sign_symbol sign.Less = operator Less None
sign_symbol sign.Greater = operator Greater None
sign_symbol sign.LessEqual = operator LessEqual None
sign_symbol sign.GreaterEqual = operator GreaterEqual None
sign_symbol sign.NotEqual = operator NotEqual None
sign_symbol sign.ColonEqual = assign
sign_symbol sign.Plus = operator Add None
sign_symbol sign.Minus = operator Sub None
sign_symbol sign.Star = operator Mul None
sign_symbol sign.Slash = operator Div None
sign_symbol sign.Backslash = operator IntDiv None
sign_symbol sign.Caret = operator Pow None
sign_symbol sign.Ampersand = operator Concat None
sign_symbol sign.Hash = hash
sign_symbol _ = other

abbrev pub symbol_of : TokenKind → Symbol
symbol_of (kind.Word n s) = word_symbol (keyword_of (lower_case n)) n s
symbol_of (kind.Bracketed n s) = leaf (naming (in_brackets n s))
symbol_of (kind.Lit l) = leaf (literal l)
symbol_of (kind.Sign s) = sign_symbol s

abbrev pub symbols : List Token → List Symbol
symbols tokens = map (λ t. symbol_of t.kind) tokens

-- behind `.` and `!` each word is a name
abbrev pub IsWord : Symbol → Type 0
IsWord (leaf (literal l)) = ⊥
IsWord (leaf _) = Unit {0}
IsWord (new_word n) = Unit {0}
IsWord (type_of_word n) = Unit {0}
IsWord (address_of_word n) = Unit {0}
IsWord (by_val_word n) = Unit {0}
IsWord (not_word n) = Unit {0}
IsWord (operator op (Some n)) = Unit {0}
IsWord (reserved_word n) = Unit {0}
IsWord _ = ⊥

abbrev pub name_of : Naming → List ℕ
name_of (bare n s) = n
name_of (in_brackets n s) = n

-- the name that a word is behind `.` or `!`
abbrev pub name_in : Symbol → List ℕ
name_in (leaf (naming n)) = name_of n
name_in (leaf (constant n s)) = n
name_in (leaf (self n)) = n
name_in (new_word n) = n
name_in (type_of_word n) = n
name_in (address_of_word n) = n
name_in (by_val_word n) = n
name_in (not_word n) = n
name_in (operator op (Some n)) = n
name_in (reserved_word n) = n
name_in _ = []

-- Expressions as they are written.

-- a type: a name, or a name with the library before it
pub data WrittenType : Type 0 where
  single : Naming → WrittenType
  dotted : Naming → (part : Symbol) → WrittenType

-- an operator before one operand: the minus sign, or Not
pub data Prefix : Type 0 where
  negation : Prefix
  complement : (word : List ℕ) → Prefix

-- what says that an argument is passed by value
pub data Mark : Type 0 where
  by_val : (word : List ℕ) → Mark
  number_sign : Mark

mutual
  -- An expression with all that its symbols say: a token alone; `.n` or `!n`; `New` and a type; `AddressOf n`;
  -- `TypeOf e Is` and a type; and what holds expressions. A word is that of a keyword, as it is spelt.
  pub data Written : Type 0 where
    simple : Leaf → Written
    implicit : (bang : Bool) → (name : Symbol) → Written
    creation : (word : List ℕ) → WrittenType → Written
    address : (word : List ℕ) → Naming → Written
    type_test : (word : List ℕ) → Written → (is : Option (List ℕ)) → WrittenType → Written
    paren : Written → Written
    unary : Prefix → Written → Written
    binary : BinOp → (word : Option (List ℕ)) → Written → Written → Written
    member : Written → (bang : Bool) → (name : Symbol) → Written
    index : Written → WrittenArgs → Written

  pub data WrittenArgs : Type 0 where
    no_args : WrittenArgs
    arg : (name : Option Naming) → Option Mark → WrittenValue → WrittenArgs → WrittenArgs

  pub data WrittenValue : Type 0 where
    omitted : WrittenValue
    given : Written → WrittenValue

abbrev pub type_spelling : WrittenType → List Symbol
type_spelling (single n) = leaf (naming n) ∷ []
type_spelling (dotted n part) = leaf (naming n) ∷ access false ∷ part ∷ []

abbrev pub prefix_symbol : Prefix → Symbol
prefix_symbol negation = operator Sub None
prefix_symbol (complement w) = not_word w

abbrev pub name_spelling : Option Naming → List Symbol
name_spelling None = []
name_spelling (Some n) = leaf (naming n) ∷ assign ∷ []

abbrev pub mark_spelling : Option Mark → List Symbol
mark_spelling None = []
mark_spelling (Some (by_val w)) = by_val_word w ∷ []
mark_spelling (Some number_sign) = hash ∷ []

abbrev mutual
  pub spelling : Written → List Symbol
  spelling (simple a) = leaf a ∷ []
  spelling (implicit bang n) = access bang ∷ n ∷ []
  spelling (creation w ty) = new_word w ∷ type_spelling ty
  spelling (address w n) = address_of_word w ∷ leaf (naming n) ∷ []
  spelling (type_test w e is ty) = type_of_word w ∷ (spelling e ++ operator Is is ∷ type_spelling ty)
  spelling (paren e) = opening ∷ (spelling e ++ closing ∷ [])
  spelling (unary p e) = prefix_symbol p ∷ spelling e
  spelling (binary op w l r) = spelling l ++ operator op w ∷ spelling r
  spelling (member e bang n) = spelling e ++ access bang ∷ n ∷ []
  spelling (index e args) = spelling e ++ opening ∷ (args_spelling args ++ closing ∷ [])

  pub args_spelling : WrittenArgs → List Symbol
  args_spelling no_args = []
  args_spelling (arg name mark value rest) = name_spelling name ++ (mark_spelling mark ++ (value_spelling value ++ more_spelling rest))

  -- further arguments, each behind a comma
  pub more_spelling : WrittenArgs → List Symbol
  more_spelling no_args = []
  more_spelling (arg name mark value rest) = comma ∷ (name_spelling name ++ (mark_spelling mark ++ (value_spelling value ++ more_spelling rest)))

  pub value_spelling : WrittenValue → List Symbol
  value_spelling omitted = []
  value_spelling (given e) = spelling e

-- The precedence list, from the tightest, 1 (MS-VBAL, Operator Precedence and Associativity). Level 2 is the unary
-- minus, level 9 is Not.
abbrev pub level_of : BinOp → ℕ
level_of Pow = 1
level_of Mul = 3
level_of Div = 3
level_of IntDiv = 4
level_of Mod = 5
level_of Add = 6
level_of Sub = 6
level_of Concat = 7
level_of Equal = 8
level_of NotEqual = 8
level_of Less = 8
level_of Greater = 8
level_of LessEqual = 8
level_of GreaterEqual = 8
level_of Is = 8
level_of Like = 8
level_of And = 10
level_of Or = 11
level_of Xor = 12
level_of Eqv = 13
level_of Imp = 14

abbrev pub prefix_level : Prefix → ℕ
prefix_level negation = 2
prefix_level (complement w) = 9

-- the level of the operator that joins an expression, 0 where none does
abbrev pub join_level : Written → ℕ
join_level (binary op w l r) = level_of op
join_level _ = 0

-- the loosest level of the operators whose operand reaches to the end, 0 where there is none
abbrev pub end_level : Written → ℕ
end_level (unary p e) = max (prefix_level p) (end_level e)
end_level (binary op w l r) = max (level_of op) (end_level r)
end_level _ = 0

-- A type with its library is one name. Where that would be too long for a name, the dot is no part of the type.
abbrev pub qualified : Naming → Symbol → List ℕ
qualified n part = name_of n ++ 46 ∷ name_in part

abbrev pub IsType : WrittenType → Type 0
IsType (single n) = Unit {0}
IsType (dotted n part) = IsWord part × (is_name (qualified n part) ≡ true)

-- a dot and a word behind a type of one name belong to the type where they can
abbrev pub IsNoPart : WrittenType → Bool → Symbol → Type 0
IsNoPart (single n) false part = is_name (qualified n part) ≡ false
IsNoPart _ _ _ = Unit {0}

abbrev pub IsNoTypePart : Written → Bool → Symbol → Type 0
IsNoTypePart (creation w ty) bang part = IsNoPart ty bang part
IsNoTypePart (type_test w e is ty) bang part = IsNoPart ty bang part
IsNoTypePart _ _ _ = Unit {0}

-- an empty list has no argument, and not one that is left out
abbrev pub IsNoLoneOmitted : WrittenArgs → Type 0
IsNoLoneOmitted (arg name mark omitted no_args) = ⊥
IsNoLoneOmitted _ = Unit {0}

-- The precedence list groups an expression. To the left of an operator stands what ends in no looser one,
-- and to the right what is joined by a tighter one: so equal ones group from the left. A unary minus or Not may
-- begin the right operand of any operator, and takes what is joined by a tighter one. Members, argument lists
-- and the Is of TypeOf bind tightest, so they stand behind what ends in no operator at all.
abbrev mutual
  pub IsGrouped : Written → Type 0
  IsGrouped (simple a) = Unit {0}
  IsGrouped (implicit bang n) = IsWord n
  IsGrouped (creation w ty) = IsType ty
  IsGrouped (address w n) = Unit {0}
  IsGrouped (type_test w e is ty) = IsGrouped e × (end_level e ≤ 0) × IsType ty
  IsGrouped (paren e) = IsGrouped e
  IsGrouped (unary p e) = IsGrouped e × (join_level e < prefix_level p)
  IsGrouped (binary op w l r) = IsGrouped l × IsGrouped r × (end_level l ≤ level_of op) × (join_level r < level_of op)
  IsGrouped (member e bang n) = IsGrouped e × (end_level e ≤ 0) × IsWord n × IsNoTypePart e bang n
  IsGrouped (index e args) = IsGrouped e × (end_level e ≤ 0) × AreGrouped args × IsNoLoneOmitted args

  pub AreGrouped : WrittenArgs → Type 0
  AreGrouped no_args = Unit {0}
  AreGrouped (arg name mark value rest) = IsArgument name mark value × AreGrouped rest

  -- what is left out has no name and no mark
  pub IsArgument : Option Naming → Option Mark → WrittenValue → Type 0
  IsArgument name mark (given e) = IsGrouped e
  IsArgument None None omitted = Unit {0}
  IsArgument _ _ omitted = ⊥

-- The tree of an expression, without what it drops.

abbrev pub leaf_tree : Leaf → Exp
leaf_tree (literal l) = exp.lit l
leaf_tree (naming (bare n s)) = exp.word n s
leaf_tree (naming (in_brackets n s)) = exp.bracketed n s
leaf_tree (constant n s) = exp.word n s
leaf_tree (self n) = exp.me

abbrev pub type_in : WrittenType → List ℕ
type_in (single n) = name_of n
type_in (dotted n part) = qualified n part

abbrev pub prefix_of : Prefix → UnOp
prefix_of negation = un.Neg
prefix_of (complement w) = un.Not

abbrev pub name_before : Option Naming → Option (List ℕ)
name_before None = None
name_before (Some n) = Some (name_of n)

abbrev pub implicit_tree : Bool → List ℕ → Exp
implicit_tree false n = exp.with_member n
implicit_tree true n = exp.with_bang n

abbrev pub member_tree : Exp → Bool → List ℕ → Exp
member_tree e false n = exp.member e n
member_tree e true n = exp.bang e n

abbrev mutual
  pub tree_of : Written → Exp
  tree_of (simple a) = leaf_tree a
  tree_of (implicit bang n) = implicit_tree bang (name_in n)
  tree_of (creation w ty) = exp.new_object (type_in ty)
  tree_of (address w n) = exp.address_of (name_of n)
  tree_of (type_test w e is ty) = exp.type_of (tree_of e) (type_in ty)
  tree_of (paren e) = exp.paren (tree_of e)
  tree_of (unary p e) = exp.unary (prefix_of p) (tree_of e)
  tree_of (binary op w l r) = exp.binary op (tree_of l) (tree_of r)
  tree_of (member e bang n) = member_tree (tree_of e) bang (name_in n)
  tree_of (index e args) = exp.index (tree_of e) (arg_trees args)

  pub arg_trees : WrittenArgs → Args
  arg_trees no_args = exp.no_args
  arg_trees (arg name mark value rest) = exp.next_arg (name_before name) (is_some mark) (value_tree value) (arg_trees rest)

  pub value_tree : WrittenValue → Given
  value_tree omitted = exp.omitted
  value_tree (given e) = exp.given (tree_of e)

abbrev mutual
  -- how deep a tree is: what holds a part is one deeper than the deepest part
  pub depth_of : Exp → ℕ
  depth_of (exp.member e n) = depth_of e + 1
  depth_of (exp.with_member n) = 1
  depth_of (exp.with_bang n) = 1
  depth_of (exp.index e args) = max (depth_of e) (args_depth args) + 1
  depth_of (exp.unary op e) = depth_of e + 1
  depth_of (exp.binary op l r) = max (depth_of l) (depth_of r) + 1
  depth_of (exp.paren e) = depth_of e + 1
  depth_of (exp.bang e n) = depth_of e + 1
  depth_of (exp.type_of e ty) = depth_of e + 1
  depth_of (exp.address_of n) = 1
  depth_of _ = 0

  pub args_depth : Args → ℕ
  args_depth exp.no_args = 0
  args_depth (exp.next_arg name marked value rest) = max (given_depth value) (args_depth rest)

  pub given_depth : Given → ℕ
  given_depth exp.omitted = 0
  given_depth (exp.given e) = depth_of e

-- Expressions in a list of tokens.

-- the tokens are an expression, and the tree is its tree
pub record IsExpression (tokens : List Token) (t : Exp) : Type 0 where
  pub written : Written
  pub grouped : IsGrouped written
  pub spelled : symbols tokens ≡ spelling written
  pub tree : tree_of written ≡ t

-- the first len tokens are an expression
pub record Begins (tokens : List Token) (t : Exp) (len : ℕ) : Type 0 where
  pub within : len ≤ length tokens
  pub expression : IsExpression (take len tokens) t

-- and no more of them are one
pub record BeginsLongest (tokens : List Token) (t : Exp) (len : ℕ) : Type 0 where
  pub begins : Begins tokens t len
  pub longest : (u : Exp) (m : ℕ) → Begins tokens u m → m ≤ len

-- no expression goes on with the token
abbrev pub IsStop : Symbol → Type 0
IsStop (operator op w) = ⊥
IsStop (access bang) = ⊥
IsStop opening = ⊥
IsStop _ = Unit {0}
