-- Declarations and bound expressions without memory. What holds no tree stands as it is in the code.
use Rattle.std.specs.Prelude.{ℕ, ℤ, Bool, List, Option}
use Rattle.up_base.specs.declared.place.Place.{Place}
use Rattle.vb_tree.specs.declared.bound.LibCall.{LibCall}
use Rattle.vb_tree.specs.declared.declared.ClassId.{ClassId}
use Rattle.vb_tree.specs.declared.declared.Owner.{Owner}
use Rattle.vb_tree.specs.declared.declared.ProcId.{ProcId}
use Rattle.vb_tree.specs.declared.declared.ProcKind.{ProcKind}
use Rattle.vb_tree.specs.declared.declared.VarId.{VarId}
use Rattle.vb_tree.specs.declared.expression.BinOp.{BinOp}
use Rattle.vb_tree.specs.declared.expression.UnOp.{UnOp}
use Rattle.vb_tree.specs.declared.form_parts.Visibility.{Visibility}
use Rattle.vb_tree.specs.declared.value.Value6.{Value6}
use Rattle.vb_tree.specs.Tree.{Exp, Project}
use Rattle.vb_tree.specs.Tree as source
use Rattle.vb_tree.specs.BoundTree.{Ty}
use Rattle.bound_tree.specs.declared.body.Mention.{Mention}
use Rattle.bound_tree.specs.declared.declared.EnumDecl.{EnumDecl}
use Rattle.bound_tree.specs.declared.declared.NamedEntry.{NamedEntry}
use Rattle.bound_tree.specs.declared.declared.TypeDecl.{TypeDecl}
use Rattle.bound_tree.specs.declared.expression.Origin.{Origin}
use Rattle.bound_tree.specs.declared.expression.Root.{Root}
use Rattle.bound_tree.specs.declared.rule_set.RuleSet.{RuleSet}

pub record Variable : Type 0 where
  pub name : List ℕ
  pub place : Place
  pub statement : ℕ
  pub owner : Owner
  pub ty : Ty
  pub named : Ty
  pub qualified : Bool
  pub lettered : Option ℕ
  pub bounds : List (ℤ × ℤ)
  pub auto : Bool
  pub preset : Option Value6

pub record Constant : Type 0 where
  pub name : List ℕ
  pub place : Place
  pub statement : ℕ
  pub owner : Owner
  pub ty : Ty
  pub value : Option Value6

pub record Procedure : Type 0 where
  pub name : List ℕ
  pub place : Place
  pub module_number : ℕ
  pub kind : ProcKind
  pub visibility : Visibility
  pub params : List VarId
  pub result : Ty
  pub answer : Option VarId
  pub first : ProcId

-- a project and all that it declares
pub record Declarations : Type 0 where
  pub project : Project
  pub names : List NamedEntry
  pub vars : List Variable
  pub consts : List Constant
  pub procs : List Procedure
  pub types : List TypeDecl
  pub enums : List EnumDecl
  pub defaults : List (Option ProcId)

mutual
  -- a bound expression: its type and what it is
  pub data Expr : Type 0 where
    typed : Ty → Term → Expr

  pub data Term : Type 0 where
    constant : Value6 → Origin → Term
    variable : VarId → (qualified : Bool) → Term
    field : Expr → ℕ → Term
    element : Expr → Exprs → Term
    call : ProcId → (qualified : Bool) → Object → Passed → Term
    library : LibCall → Exprs → Term
    unary : UnOp → Expr → Term
    binary : BinOp → Expr → Expr → Term
    convert : Ty → Expr → Term
    new_object : ClassId → Term
    me : Term
    with_object : Root → Term
    err_number : Term
    err_raise : Expr → Term
    err_clear : Term
    is_same : Expr → Expr → Term
    loose : Exp → RuleSet → Term

  -- the object of a call, or none
  pub data Object : Type 0 where
    no_object : Object
    of_object : Expr → Object

  pub data Exprs : Type 0 where
    no_exprs : Exprs
    next_expr : Expr → Exprs → Exprs

  -- an argument of a call
  pub data Argument : Type 0 where
    by_value : Expr → Argument
    by_reference : Expr → Argument

  -- the arguments of a call
  pub data Passed : Type 0 where
    no_passed : Passed
    next_passed : Argument → Passed → Passed

-- what is bound in a code line
pub record Bindings : Type 0 where
  pub exprs : List Expr
  pub rules : RuleSet
  pub mentions : List Mention

-- a code line of the source with what is bound in it
pub record Line : Type 0 where
  pub source : source.Line
  pub bindings : Bindings

-- a project whose names are bound: what it declares, and the code lines of each of its procedures
pub record Program : Type 0 where
  pub declarations : Declarations
  pub bodies : List (List Line)
