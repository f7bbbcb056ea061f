-- What the parts of the reader answer.
use Rattle.std.specs.Prelude.{◌≡◌, ℕ, ◌<◌, ◌≤◌, List, [], ◌∷◌, ◌++◌, take, Option, Some, None, Result, Ok, Err, Bool, true, false, nat_lt}
use Rattle.std.specs.Borrow.{Bor}
use Rattle.vb_tree.specs.declared.expression.BinOp.{BinOp}
use Rattle.vb_tree.specs.declared.expression.Expr6.{Expr6}
use Rattle.vb_tree.specs.declared.expression.Arg6.{Arg6}
use Rattle.vb_tree.specs.declared.token.Token.{Token}
use Rattle.vb_tree.specs.Tree.{Exp, Args, Given}
use Rattle.vb_tree.specs.View.{exp_of, args_of, given_of}
use Rattle.vb_tree.specs.Expressions.{Symbol, leaf, naming, operator, access, opening, closing, comma, assign, by_val_word, hash, symbols, IsWord, Naming, name_of, Written, WrittenType, WrittenArgs, WrittenValue, Mark, binary, member, index, IsNoTypePart, IsNoPart, spelling, args_spelling, value_spelling, name_spelling, mark_spelling, level_of, join_level, end_level, IsGrouped, AreGrouped, IsArgument, IsNoLoneOmitted, depth_of, args_depth, given_depth}
use Rattle.vb_exprs.specs.declared.token_class.Class.{Class}
use Rattle.vb_exprs.specs.declared.token_class.Class.TheVariants as c
use Rattle.vb_exprs.specs.declared.fail.ExprFail.{ExprFail}
use Rattle.vb_exprs.specs.declared.fail.ExprFail.TheVariants as fail
use Rattle.vb_exprs.specs.declared.reader.Part.{Part}
use Rattle.vb_exprs.specs.declared.reader.Listed.{Listed}
use Rattle.vb_exprs.specs.declared.reader.ReadArg.{ReadArg}
use Rattle.vb_exprs.specs.TokenClass.{class_of}

-- the longest front, of those up to i symbols, that is an expression
abbrev pub IsWritten : List Symbol → Written → Type 0
IsWritten now t = IsGrouped t × (now ≡ spelling t)

abbrev pub IsLongestEnd : ℕ → List Symbol → Option ℕ → Type 0
IsLongestEnd i now None = (m : ℕ) (t : Written) → m ≤ i → IsWritten (take m now) t → ⊥
IsLongestEnd i now (Some n) = (n ≤ i) × ((t : Written) × IsWritten (take n now) t) × ((m : ℕ) (t : Written) → m ≤ i → IsWritten (take m now) t → m ≤ n)

-- nothing that binds tighter than the level comes next
abbrev pub NoTighter : ℕ → List Symbol → Type 0
NoTighter n (operator op w ∷ more) = n ≤ level_of op
NoTighter n (access bang ∷ more) = n ≤ 0
NoTighter n (opening ∷ more) = n ≤ 0
NoTighter n _ = Unit {0}

-- whether a symbol takes an operand into what is read below the bound
abbrev pub continues_at : ℕ → Class → Bool
continues_at bound (c.Operator op w) = nat_lt (level_of op) bound
continues_at bound (c.Access bang) = true
continues_at bound c.Opening = true
continues_at bound _ = false

abbrev pub continues_of : ℕ → List Symbol → Bool
continues_of bound [] = false
continues_of bound (s ∷ more) = continues_at bound (class_of s)

-- the symbols are t and the rest, and t takes all that can stand in it below the bound
pub record Stands (bound : ℕ) (t : Written) (now rest : List Symbol) : Type 0 where
  pub grouped : IsGrouped t
  pub joined : join_level t < bound
  pub spelled : now ≡ spelling t ++ rest
  pub closed : NoTighter (end_level t) rest
  pub stops : NoTighter bound rest

-- t begins with no other expression
abbrev pub IsFirst : Written → Type 0
IsFirst (binary op w l r) = ⊥
IsFirst (member e bang n) = ⊥
IsFirst (index e args) = ⊥
IsFirst _ = Unit {0}

-- what comes next is no part of the type
abbrev pub NoPartAfter : WrittenType → List Symbol → Type 0
NoPartAfter ty (access bang ∷ part ∷ more) = IsNoPart ty bang part
NoPartAfter ty _ = Unit {0}

-- what comes next is no part of the type at the end of t
abbrev pub NoPartNext : Written → List Symbol → Type 0
NoPartNext t (access bang ∷ part ∷ more) = IsNoTypePart t bang part
NoPartNext t _ = Unit {0}

-- the symbols are t and the rest
pub record Starts (t : Written) (now rest : List Symbol) : Type 0 where
  pub grouped : IsGrouped t
  pub first : IsFirst t
  pub spelled : now ≡ spelling t ++ rest
  pub closed : NoTighter (end_level t) rest
  pub no_part : NoPartNext t rest

-- what takes an expression into a larger one
pub data Link : Type 0 where
  operator_link : BinOp → (word : Option (List ℕ)) → Written → Link
  member_link : (bang : Bool) → Symbol → Link
  index_link : WrittenArgs → Link

abbrev pub extended : Written → Link → Written
extended t (operator_link op w r) = binary op w t r
extended t (member_link bang n) = member t bang n
extended t (index_link args) = index t args

abbrev pub link_spelling : Link → List Symbol
link_spelling (operator_link op w r) = operator op w ∷ spelling r
link_spelling (member_link bang n) = access bang ∷ n ∷ []
link_spelling (index_link args) = opening ∷ (args_spelling args ++ closing ∷ [])

-- the symbols are a list of arguments, its closing parenthesis and the rest
pub record ArgsStand (args : WrittenArgs) (now rest : List Symbol) : Type 0 where
  pub grouped : AreGrouped args
  pub not_lone : IsNoLoneOmitted args
  pub spelled : now ≡ args_spelling args ++ closing ∷ rest

-- the right side of a link stands behind its first symbol
abbrev pub LinkStands : Link → List Symbol → List Symbol → Type 0
LinkStands (operator_link op w r) now rest = (after : List Symbol) × (now ≡ operator op w ∷ after) × Stands (level_of op) r after rest
LinkStands (member_link bang n) now rest = (now ≡ access bang ∷ n ∷ rest) × IsWord n
LinkStands (index_link args) now rest = (after : List Symbol) × (now ≡ opening ∷ after) × ArgsStand args after rest

-- an argument ends before a comma or a closing parenthesis
abbrev pub EndsArgument : List Symbol → Type 0
EndsArgument (comma ∷ more) = Unit {0}
EndsArgument (closing ∷ more) = Unit {0}
EndsArgument _ = ⊥

-- the symbols are an argument and the rest
pub record ArgumentStands (name : Option Naming) (mark : Option Mark) (value : WrittenValue) (now rest : List Symbol) : Type 0 where
  pub grouped : IsArgument name mark value
  pub spelled : now ≡ name_spelling name ++ (mark_spelling mark ++ (value_spelling value ++ rest))
  pub ends : EndsArgument rest

abbrev pub GivesLeaf : Option Expr6 → Exp → Type 0
GivesLeaf None t = ⊥
GivesLeaf (Some e) t = exp_of e ≡ t

abbrev pub GivesType : Option (List ℕ × Bor (List Token)) → List ℕ → List Symbol → Type 0
GivesType None ty rest = ⊥
GivesType (Some f) ty rest = (f.0 ≡ ty) × (symbols f.1.now ≡ rest)

-- what says that an argument is passed by value
abbrev pub IsMark : Symbol → Type 0
IsMark (by_val_word w) = Unit {0}
IsMark hash = Unit {0}
IsMark _ = ⊥

-- a name and `:=` were passed, if they stood there
abbrev pub IsOptionalName : List Symbol → Option (List ℕ) → List Symbol → Type 0
IsOptionalName now (Some n) rest = (m : Naming) × (now ≡ leaf (naming m) ∷ assign ∷ rest) × (name_of m ≡ n)
IsOptionalName now None rest = (now ≡ rest) × ((m : Naming) (more : List Symbol) → now ≡ leaf (naming m) ∷ assign ∷ more → ⊥)

-- a mark was passed, if one stood there
abbrev pub IsOptionalMark : List Symbol → Bool → List Symbol → Type 0
IsOptionalMark now true rest = (s : Symbol) × (now ≡ s ∷ rest) × IsMark s
IsOptionalMark now false rest = (now ≡ rest) × ((s : Symbol) (more : List Symbol) → now ≡ s ∷ more → IsMark s → ⊥)

-- what an error says where something of the depth stands
abbrev pub Fails : ℕ → ExprFail → ℕ → Type 0
Fails room fail.NotExpr depth = ⊥
Fails room fail.TooDeep depth = room < depth
Fails room fail.Mem depth = Unit {0}

-- what a call gives where t stands
abbrev pub Gives : ℕ → Result (Part × Bor (List Token)) ExprFail → Exp → List Symbol → Type 0
Gives room (Ok read) t rest = (exp_of read.0.expr ≡ t) × (symbols read.1.now ≡ rest)
Gives room (Err e) t rest = Fails room e (depth_of t)

abbrev pub GivesArgs : ℕ → Result (Listed × Bor (List Token)) ExprFail → Args → List Symbol → Type 0
GivesArgs room (Ok read) args rest = (args_of read.0.args.items ≡ args) × (symbols read.1.now ≡ rest)
GivesArgs room (Err e) args rest = Fails room e (args_depth args)

pub record IsArg (a : Arg6) (name : Option (List ℕ)) (marked : Bool) (value : Given) : Type 0 where
  pub name_is : a.name ≡ name
  pub marked_is : a.marked ≡ marked
  pub value_is : given_of a.value ≡ value

abbrev pub GivesArgument : ℕ → Result (ReadArg × Bor (List Token)) ExprFail → Option (List ℕ) → Bool → Given → List Symbol → Type 0
GivesArgument room (Ok read) name marked value rest = IsArg read.0.arg name marked value × (symbols read.1.now ≡ rest)
GivesArgument room (Err e) name marked value rest = Fails room e (given_depth value)

-- the depth that a part has is its tree's
abbrev pub IsMeasured : ℕ → Part → Type 0
IsMeasured room part = (part.depth ≡ depth_of (exp_of part.expr)) × (part.depth ≤ room)

abbrev pub AreMeasured : ℕ → Listed → Type 0
AreMeasured room listed = (listed.depth ≡ args_depth (args_of listed.args.items)) × (listed.depth ≤ room)

abbrev pub IsArgMeasured : ℕ → ReadArg → Type 0
IsArgMeasured room read = (read.depth ≡ given_depth (given_of read.arg.value)) × (read.depth ≤ room)
