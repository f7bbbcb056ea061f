-- Types, declarations and bound expressions without memory. What holds no tree stands as it is in the code.
use Rattle.std.specs.Prelude.{ℕ, ℤ, Bool, List, Option}
use Rattle.up_base.specs.declared.place.Place.{Place}
use Rattle.vb_tree.specs.declared.bound.LibCall.{LibCall}
use Rattle.vb_tree.specs.declared.declared.ClassId.{ClassId}
use Rattle.vb_tree.specs.declared.declared.ConstDecl.{ConstDecl}
use Rattle.vb_tree.specs.declared.declared.Owner.{Owner}
use Rattle.vb_tree.specs.declared.declared.ProcId.{ProcId}
use Rattle.vb_tree.specs.declared.declared.ProcKind.{ProcKind}
use Rattle.vb_tree.specs.declared.declared.TypeDecl.{TypeDecl}
use Rattle.vb_tree.specs.declared.declared.VarId.{VarId}
use Rattle.vb_tree.specs.declared.expression.BinOp.{BinOp}
use Rattle.vb_tree.specs.declared.expression.UnOp.{UnOp}
use Rattle.vb_tree.specs.declared.value.Value6.{Value6}
use Rattle.vb_tree.specs.Tree.{Exp, Project}

pub data Ty : Type 0 where
  boolean : Ty
  byte : Ty
  integer : Ty
  long : Ty
  currency : Ty
  str : Ty
  fixed : (units : ℕ) → Ty
  user : ℕ → Ty
  class : ℕ → Ty
  object : Ty
  variant : Ty
  array : Ty → (rank : ℕ) → Ty
  nothing : Ty
  unknown : Ty

pub record Variable : Type 0 where
  pub name : List ℕ
  pub place : Place
  pub owner : Owner
  pub ty : Ty
  pub bounds : List (ℤ × ℤ)
  pub auto : Bool
  pub preset : Option Value6

pub record ProcedureDecl : Type 0 where
  pub name : List ℕ
  pub place : Place
  pub module_number : ℕ
  pub kind : ProcKind
  pub params : List VarId
  pub result : Ty

-- a project and all that it declares
pub record Declarations : Type 0 where
  pub project : Project
  pub vars : List Variable
  pub procs : List ProcedureDecl
  pub types : List TypeDecl
  pub consts : List ConstDecl
  pub defaults : List (Option ProcId)

mutual
  -- a bound expression: its type and what it is
  pub data Expr : Type 0 where
    typed : Ty → Term → Expr

  pub data Term : Type 0 where
    constant : Value6 → (hexadecimal : Bool) → Term
    variable : VarId → Term
    field : Expr → ℕ → Term
    element : Expr → Exprs → Term
    call : ProcId → Object → Passed → Term
    library : LibCall → Exprs → Term
    unary : UnOp → Expr → Term
    binary : BinOp → Expr → Expr → Term
    convert : Ty → Expr → Term
    new_object : ClassId → Term
    me : Term
    with_object : Term
    err_number : Term
    err_raise : Expr → Term
    err_clear : Term
    is_same : Expr → Expr → Term
    loose : Exp → Term

  -- the object of a call, or none
  pub data Object : Type 0 where
    no_object : Object
    of_object : Expr → Object

  pub data Exprs : Type 0 where
    no_exprs : Exprs
    next_expr : Expr → Exprs → Exprs

  -- the arguments of a call
  pub data Passed : Type 0 where
    no_passed : Passed
    by_value : Expr → Passed → Passed
    by_reference : Expr → Passed → Passed

-- the bound lines of a procedure
pub record Body : Type 0 where
  pub procedure : ProcId
  pub lines : List (List Expr)

-- a project whose names are bound
pub record Bound : Type 0 where
  pub declarations : Declarations
  pub bodies : List Body
