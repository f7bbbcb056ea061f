-- The trees of Visual Basic 6 without memory. What holds no tree stands as it is in the code.
use Rattle.std.specs.Prelude.{ℕ, ℤ, Bool, List, Option}
use Rattle.up_base.specs.declared.place.Place.{Place}
use Rattle.vb_tree.specs.declared.declared.ProcKind.{ProcKind}
use Rattle.vb_tree.specs.declared.expression.BinOp.{BinOp}
use Rattle.vb_tree.specs.declared.expression.UnOp.{UnOp}
use Rattle.vb_tree.specs.declared.form_parts.Compare.{Compare}
use Rattle.vb_tree.specs.declared.form_parts.DefWord.{DefWord}
use Rattle.vb_tree.specs.declared.form_parts.ExitKind.{ExitKind}
use Rattle.vb_tree.specs.declared.form_parts.Label6.{Label6}
use Rattle.vb_tree.specs.declared.form_parts.LetterRange.{LetterRange}
use Rattle.vb_tree.specs.declared.form_parts.Passing.{Passing}
use Rattle.vb_tree.specs.declared.form_parts.VarWord.{VarWord}
use Rattle.vb_tree.specs.declared.form_parts.Visibility.{Visibility}
use Rattle.vb_tree.specs.declared.project.ProjectFile.{ProjectFile}
use Rattle.vb_tree.specs.declared.token.Literal6.{Literal6}
use Rattle.vb_tree.specs.declared.token.Suffix.{Suffix}
use Rattle.vb_tree.specs.declared.token.Token.{Token}

mutual
  pub data Exp : Type 0 where
    lit : Literal6 → Exp
    word : (name : List ℕ) → Suffix → Exp
    bracketed : (name : List ℕ) → Suffix → Exp
    me : Exp
    member : Exp → (name : List ℕ) → Exp
    with_member : (name : List ℕ) → Exp
    with_bang : (name : List ℕ) → Exp
    index : Exp → Args → Exp
    unary : UnOp → Exp → Exp
    binary : BinOp → Exp → Exp → Exp
    paren : Exp → Exp
    new_object : (class : List ℕ) → Exp
    bang : Exp → (name : List ℕ) → Exp
    type_of : Exp → (ty : List ℕ) → Exp
    address_of : (name : List ℕ) → Exp

  -- the arguments of a list, in order
  pub data Args : Type 0 where
    no_args : Args
    next_arg : (name : Option (List ℕ)) → (marked : Bool) → Given → Args → Args

  -- the value of an argument, or none where it is left out
  pub data Given : Type 0 where
    omitted : Given
    given : Exp → Given

-- a type in a declaration
pub data TypeName : Type 0 where
  named : (name : List ℕ) → TypeName
  fixed_string : (units : Exp) → TypeName

pub record Bounds : Type 0 where
  pub lower : Option Exp
  pub upper : Exp

pub record Declarator : Type 0 where
  pub name : List ℕ
  pub suffix : Suffix
  pub bounds : Option (List Bounds)
  pub auto : Bool
  pub ty : Option TypeName

pub record Constant : Type 0 where
  pub name : List ℕ
  pub suffix : Suffix
  pub ty : Option TypeName
  pub value : Exp

pub record Param : Type 0 where
  pub optional : Bool
  pub passing : Passing
  pub param_array : Bool
  pub name : List ℕ
  pub suffix : Suffix
  pub array : Bool
  pub ty : Option TypeName
  pub preset : Option Exp

-- what the head of a procedure says beside its kind and its result
pub record Signature : Type 0 where
  pub visibility : Option Visibility
  pub name : List ℕ
  pub suffix : Suffix
  pub params : List Param

pub record ResultType : Type 0 where
  pub ty : TypeName
  pub array : Bool

pub data CaseItem : Type 0 where
  case_value : Exp → CaseItem
  case_range : (lower upper : Exp) → CaseItem
  case_is : BinOp → Exp → CaseItem

pub record ReDimItem : Type 0 where
  pub array : Exp
  pub bounds : List Bounds
  pub ty : Option TypeName

-- what a line is, with its parts
pub data Form : Type 0 where
  attribute : List Token → Form
  option_explicit : Form
  option_base : (lower : ℤ) → Form
  option_compare : Compare → Form
  option_private_module : Form
  def_type : DefWord → List LetterRange → Form
  variables : VarWord → List Declarator → Form
  constants : Option Visibility → List Constant → Form
  type_head : Option Visibility → (name : List ℕ) → Suffix → Form
  field : (name : List ℕ) → Suffix → Option (List Bounds) → TypeName → Form
  end_type : Form
  enum_head : Option Visibility → (name : List ℕ) → Suffix → Form
  enum_member : (name : List ℕ) → Suffix → Option Exp → Form
  end_enum : Form
  sub_head : Signature → Form
  function_head : Signature → Option ResultType → Form
  get_head : Signature → Option ResultType → Form
  let_head : Signature → Form
  set_head : Signature → Form
  end_sub : Form
  end_function : Form
  end_property : Form
  assign : (target value : Exp) → Form
  set : (target value : Exp) → Form
  call : (callee : Exp) → Form
  invoke : (callee : Exp) → Args → Form
  debug_print : List Exp → (ended : Bool) → Form
  if_head : (condition : Exp) → Form
  else_if : (condition : Exp) → Form
  else_line : Form
  end_if : Form
  line_if : (condition : Exp) → Form
  select : Exp → Form
  case_line : List CaseItem → Form
  case_else : Form
  end_select : Form
  for_head : (counter from to : Exp) → (step : Option Exp) → Form
  for_each : (name : List ℕ) → Suffix → Exp → Form
  next : Option (List ℕ × Suffix) → Form
  do_head : Form
  do_while : (condition : Exp) → Form
  do_until : (condition : Exp) → Form
  loop : Form
  loop_while : (condition : Exp) → Form
  loop_until : (condition : Exp) → Form
  while_head : (condition : Exp) → Form
  wend : Form
  with_head : Exp → Form
  end_with : Form
  goto : Label6 → Form
  label : Label6 → Form
  on_error_goto : Label6 → Form
  on_error_goto_zero : Form
  on_error_resume_next : Form
  resume : Form
  resume_next : Form
  resume_at : Label6 → Form
  exit : ExitKind → Form
  redim : (preserve : Bool) → List ReDimItem → Form
  erase : Exp → Form
  static_head : ProcKind → Signature → Option ResultType → Form
  event_variables : VarWord → List Declarator → Form
  opaque : List Token → Form

-- a line at its place, with its own text in UTF-16 units
pub record Line : Type 0 where
  pub place : Place
  pub text : List ℕ
  pub form : Form

mutual
  -- what stands in the body of a procedure
  pub data Node : Type 0 where
    line : Line → Node
    block : (head : Line) → (body : Nodes) → (middles : Middles) → (close : Line) → Node

  pub data Nodes : Type 0 where
    no_nodes : Nodes
    next_node : Node → Nodes → Nodes

  -- the lines that part a block, each with what stands behind it
  pub data Middles : Type 0 where
    no_middles : Middles
    next_middle : Line → Nodes → Middles → Middles

-- what stands in a module: a line, a Type or Enum, or a procedure, with head and closing line
pub data Member : Type 0 where
  alone : Line → Member
  group : Line → List Line → Line → Member
  proc : Line → Nodes → Line → Member

pub record Module : Type 0 where
  pub file : ℕ
  pub name : List ℕ
  pub class : Bool
  pub members : List Member
  pub comments : List (ℕ × List ℕ)

-- what the project file says, and the module of each of its entries
pub record Project : Type 0 where
  pub file : ProjectFile
  pub modules : List Module
