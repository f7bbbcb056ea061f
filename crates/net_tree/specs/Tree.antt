-- The trees of written Visual Basic .NET projects without memory. What holds no tree stands as it is in the code.
use Rattle.std.specs.Prelude.{ℕ, ℤ, Bool, List, Option}
use Rattle.net_tree.specs.declared.declaration.NetClose.{NetClose}
use Rattle.net_tree.specs.declared.declaration.NetPassing.{NetPassing}
use Rattle.net_tree.specs.declared.declaration.NetVisibility.{NetVisibility}
use Rattle.net_tree.specs.declared.expression.CastWord.{CastWord}
use Rattle.net_tree.specs.declared.expression.NetBin.{NetBin}
use Rattle.net_tree.specs.declared.expression.NetUn.{NetUn}
use Rattle.net_tree.specs.declared.line.NetExit.{NetExit}
use Rattle.net_tree.specs.declared.line.NetLabel.{NetLabel}
use Rattle.net_tree.specs.Types.{TypeName}

-- A literal. The flag of a Short or an Integer tells whether it is spelt in hexadecimal; a Decimal counts ten-thousandths; a
-- text has UTF-16 units.
pub data Literal : Type 0 where
  boolean : Bool → Literal
  short : ℤ → (hexadecimal : Bool) → Literal
  integer : ℤ → (hexadecimal : Bool) → Literal
  long : ℤ → Literal
  decimal : (ten_thousandths : ℤ) → Literal
  str : (units : List ℕ) → Literal

mutual
  pub data Exp : Type 0 where
    lit : Literal → Exp
    nothing : Exp
    me : Exp
    path : List (List ℕ) → Exp
    with_dot : (name : List ℕ) → Exp
    dot : Exp → (name : List ℕ) → Exp
    call_of : Exp → Exps → Exp
    cast : CastWord → Exp → Exp
    ctype : Exp → TypeName → Exp
    unary : NetUn → Exp → Exp
    binary : NetBin → Exp → Exp → Exp
    paren : Exp → Exp
    new_object : TypeName → Exps → Exp
    new_array : TypeName → (bounds : Exps) → Exp
    type_of : Exp → TypeName → Exp

  -- the expressions of a list, in order
  pub data Exps : Type 0 where
    no_exps : Exps
    next_exp : Exp → Exps → Exps

pub data CaseItem : Type 0 where
  case_value : Exp → CaseItem
  case_range : (lower upper : Exp) → CaseItem
  case_is : NetBin → Exp → CaseItem

pub record ReDimItem : Type 0 where
  pub array : Exp
  pub bounds : Exps

-- a line of a procedure
pub data Line : Type 0 where
  comment : (units : List ℕ) → Line
  assign : (target value : Exp) → Line
  call : (callee : Exp) → (arguments : Exps) → Line
  if_head : (condition : Exp) → Line
  else_if : (condition : Exp) → Line
  else_line : Line
  end_if : Line
  select : Exp → Line
  case_line : List CaseItem → Line
  case_else : Line
  end_select : Line
  for_head : (counter from to : Exp) → (step : Option Exp) → Line
  next : Line
  do_head : Line
  do_while : (condition : Exp) → Line
  do_until : (condition : Exp) → Line
  loop : Line
  loop_while : (condition : Exp) → Line
  loop_until : (condition : Exp) → Line
  while_head : (condition : Exp) → Line
  end_while : Line
  with_head : Exp → Line
  end_with : Line
  goto : NetLabel → Line
  label : NetLabel → Line
  on_error_goto : NetLabel → Line
  on_error_goto_zero : Line
  on_error_resume_next : Line
  resume : Line
  resume_next : Line
  resume_at : NetLabel → Line
  exit : NetExit → Line
  redim : (preserve : Bool) → List ReDimItem → Line

-- a variable, and the value that it begins with where one is written
pub record Variable : Type 0 where
  pub name : List ℕ
  pub ty : TypeName
  pub value : Option Exp

pub record Constant : Type 0 where
  pub name : List ℕ
  pub ty : TypeName
  pub value : Exp

-- a declaration at the head of a procedure
pub data Dim : Type 0 where
  local : Variable → Dim
  static_local : Variable → Dim
  constant : Constant → Dim

pub record Param : Type 0 where
  pub passing : NetPassing
  pub name : List ℕ
  pub ty : TypeName

-- the head of a procedure, or of a part of a property
pub data Head : Type 0 where
  sub : NetVisibility → (name : List ℕ) → List Param → Head
  function : NetVisibility → (name : List ℕ) → List Param → TypeName → Head
  sub_new : Head
  get_part : Head
  set_part : (name : List ℕ) → TypeName → Head

pub record Procedure : Type 0 where
  pub head : Head
  pub prologue : List Dim
  pub lines : List Line
  pub close : NetClose

pub record Property : Type 0 where
  pub visibility : NetVisibility
  pub name : List ℕ
  pub params : List Param
  pub ty : TypeName
  pub get_comments : List (List ℕ)
  pub get : Option Procedure
  pub set_comments : List (List ℕ)
  pub set : Option Procedure

-- what stands in a structure
pub data Field : Type 0 where
  field_comment : (units : List ℕ) → Field
  field : (name : List ℕ) → TypeName → Field

pub record Structure : Type 0 where
  pub name : List ℕ
  pub fields : List Field

-- what stands in a module
pub data Member : Type 0 where
  member_comment : (units : List ℕ) → Member
  variable : NetVisibility → Variable → Member
  const_member : NetVisibility → Constant → Member
  structure : Structure → Member
  property : Property → Member
  proc : Procedure → Member

pub record Module : Type 0 where
  pub name : List ℕ
  pub class : Bool
  pub members : List Member

pub record Project : Type 0 where
  pub library : Bool
  pub main : Option (List ℕ)
  pub note : Option (List ℕ)
  pub modules : List Module
  pub support : Module
