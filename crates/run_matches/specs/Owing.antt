-- What the nodes and the order of a line owe to the pledge of its frame, so that the line does the same.
use Rattle.std.specs.Prelude.{◌≡◌, ◌↔◌, ◌⊎◌, IsTrue, ℕ, Bool, true, false, not, cond, ◌&&◌, ◌||◌, nat_eq, is_some, Option, Some, None, List, [], ◌∷◌, ◌++◌, option_to_list}
use Rattle.std.specs.List.{list_any, list_all, Contains}
use Rattle.vb_tree.specs.BoundTree.{Ty, user, class, object, array}
use Rattle.vb_tree.specs.declared.declared.Owner.{Owner}
use Rattle.vb_tree.specs.declared.declared.Owner.TheVariants as owner
use Rattle.vb_tree.specs.Tree.{Form, assign, set, with_head}
use Rattle.bound_tree.specs.Tree.{Variable, Declarations, Expr, typed, Term, field, element, Argument, by_value, by_reference, Passed, no_passed, next_passed, Line}
use Rattle.bound_facts.specs.Calls.{initialized}
use Rattle.bound_facts.specs.CanRaise as node
use Rattle.bound_facts.specs.Effects.{is_loud, is_outside}
use Rattle.bound_facts.specs.Facts.{stirs}
use Rattle.bound_facts.specs.Locks.{HoldsArray, Keeps, is_locking_line}
use Rattle.bound_facts.specs.Node.{type_at, called, args_at, root, variable_at, variable_number, is_object_type}
use Rattle.bound_facts.specs.Nodes.{nodes, nodes_in, nodes_of_all, nodes_of_passed}
use Rattle.bound_facts.specs.Parts.{line_stores, line_uses}
use Rattle.bound_facts.specs.SelfMade.{is_mine}
use Rattle.written_trees.specs.Arguments.{is_property}
use Rattle.vb6_run.specs.Expressions.{goes_by_address}
use Rattle.run_matches.specs.Upgrades.{Upgrade, declarations_in}
use Rattle.run_matches.specs.Pledges.{Pledge, is_self_made}

-- ---- nodes

-- the procedures that a node enters: by a call, or by making an object, which the use of an As New variable may do too
abbrev pub entered_by : Upgrade → Expr → List ℕ
entered_by U e = option_to_list (called e) ++ option_to_list (initialized (declarations_in U) e)

-- a use that isn't stirring: it calls an inward procedure, makes an object of a self-made class, or does neither
abbrev pub is_still : Upgrade → Expr → Bool
is_still U e = not (stirs (declarations_in U) U.known e)

-- ---- arguments by reference

abbrev pub element_in : Ty → Option Ty
element_in (array e rank) = Some e
element_in ty = None

abbrev mutual
  -- the type of the elements of the array that an address leads into
  pub points_at : Expr → Option Ty
  points_at (typed ty t) = points_in t

  pub points_in : Term → Option Ty
  points_in (element e indexes) = element_in (type_at e)
  points_in (field e k) = cond (is_object_type (type_at e)) None (points_at e)
  points_in t = None

abbrev pub argument_points : Argument → Option Ty
argument_points (by_value e) = None
argument_points (by_reference e) = cond (goes_by_address e) (points_at e) None

-- whatever nodes enter keeps the arrays of elements of a type
abbrev pub AllKeep : Upgrade → List Expr → Ty → Type 0
AllKeep U es ty = (e : Expr) (g : ℕ) → Contains es e → Contains (entered_by U e) g → Keeps U.program g ty

-- An element by reference: what is called keeps its array, and so does what later arguments enter. Its own indexes come before it.
abbrev pub ElementsOk : Upgrade → (procedure : ℕ) → Passed → Type 0
ElementsOk U p no_passed = Unit {0}
ElementsOk U p (next_passed a rest) =
    ((ty : Ty) → argument_points a ≡ Some ty → Keeps U.program p ty × AllKeep U (nodes_of_passed rest) ty) × ElementsOk U p rest

abbrev pub is_by_reference : Argument → Bool
is_by_reference (by_value e) = false
is_by_reference (by_reference e) = true

-- a variable is given by reference, and no later argument has a stirring use
abbrev pub IndexesOk : Upgrade → Passed → Type 0
IndexesOk U no_passed = Unit {0}
IndexesOk U (next_passed a rest) = (is_by_reference a ≡ true → list_all (is_still U) (nodes_of_passed rest) ≡ true) × IndexesOk U rest

pub record CallOk (U : Upgrade) (p : ℕ) (args : Passed) : Type 0 where
  pub elements : ElementsOk U p args
  -- the index parameters of a property take values in the target
  pub indexes : is_property (declarations_in U) p ≡ true → IndexesOk U args

-- ---- what a node owes

-- The procedures that pass are those that are clean and covered.
pub record NodeOk (U : Upgrade) (passes : ℕ → Type 0) (K : Pledge) (e : Expr) : Type 0 where
  pub entered : (g : ℕ) → Contains (entered_by U e) g → passes g
  pub call : (p : ℕ) → called e ≡ Some p → CallOk U p (args_at e)
  pub keeps : (ty : Ty) (g : ℕ) → K.keeps ty → Contains (entered_by U e) g → Keeps U.program g ty
  pub still : K.steady → is_still U e ≡ true

-- ---- the order of a target's parts and the value

abbrev pub is_fixed_type : Ty → Bool
is_fixed_type (array ty rank) = not (nat_eq rank 0)
is_fixed_type ty = false

abbrev pub is_home_owner : Owner → Bool
is_home_owner (owner.Module file) = true
is_home_owner (owner.Local p) = true
is_home_owner (owner.Static p) = true
is_home_owner of = false

abbrev pub is_home : Option Variable → Bool
is_home None = false
is_home (Some x) = is_home_owner x.owner

-- a fixed array by itself, that is no parameter, no field and not reached through an object: nothing puts another array there
abbrev pub stays : Declarations → Expr → Bool
stays D e = is_fixed_type (type_at e) && is_home (variable_number D.vars (variable_at e))

-- what is evaluated of a target before the store: the object before a member, the indexes of an element, and its array unless that stays
abbrev mutual
  pub parts_of : Declarations → Expr → List Expr
  parts_of D (typed ty t) = parts_in D t

  pub parts_in : Declarations → Term → List Expr
  parts_in D (field e k) = cond (is_object_type (type_at e)) (nodes e) (parts_of D e)
  parts_in D (element e indexes) = cond (stays D e) [] (nodes e) ++ nodes_of_all indexes
  parts_in D t = nodes_in t

-- a target for which there is no call that keeps the order: a property, or one of a user, class, Object or array type
abbrev pub is_whole_type : Ty → Bool
is_whole_type (user t) = true
is_whole_type (class c) = true
is_whole_type object = true
is_whole_type (array ty rank) = true
is_whole_type ty = false

abbrev pub is_whole : Expr → Bool
is_whole e = is_some (called e) || is_whole_type (type_at e)

abbrev pub are_still : Upgrade → List Expr → Bool
are_still U es = list_all (is_still U) es

abbrev pub are_constant : List Expr → Bool
are_constant es = list_all node.is_fixed es

abbrev pub can_raise : Declarations → List Expr → Bool
can_raise D es = list_any (node.raises D) es

-- The order of parts and value is free: the parts are still or the value is constant, the value is still or the parts are constant, and
-- where there is no call that keeps the order not both can raise.
abbrev pub is_free : Upgrade → (whole : Bool) → (parts value : List Expr) → Bool
is_free U whole p r =
    (are_still U p || are_constant r) && ((are_still U r || are_constant p)
    && not (whole && (can_raise (declarations_in U) p && can_raise (declarations_in U) r)))

abbrev pub is_free_store : Upgrade → List Expr → Bool
is_free_store U (to ∷ e ∷ []) = is_free U (is_whole to) (parts_of (declarations_in U) to) (nodes e)
is_free_store U es = true

abbrev pub has_free_order : Upgrade → Form → List Expr → Bool
has_free_order U (assign target value) es = is_free_store U es
has_free_order U (set target value) es = is_free_store U es
has_free_order U f es = true

-- ---- what a line owes

-- a store to what is the procedure's own, or of the object that an initializer fills
abbrev pub IsOwnStore : Upgrade → (procedure : ℕ) → Expr → Type 0
IsOwnStore U p e =
    (is_outside U.program.declarations.vars p (root e) ≡ false) ⊎ ((is_self_made U p ≡ true) × (is_mine (declarations_in U) p e ≡ true))

-- a With stands on no element
abbrev pub leads_into : Form → List Expr → Bool
leads_into (with_head e) (x ∷ es) = is_some (points_at x)
leads_into f es = false

pub record LineOk (U : Upgrade) (passes : ℕ → Type 0) (K : Pledge) (p : ℕ) (l : Line) : Type 0 where
  pub nodes : (e : Expr) → Contains (line_uses l) e → NodeOk U passes K e
  pub order : has_free_order U l.source.form l.bindings.exprs ≡ true
  pub anchored : leads_into l.source.form l.bindings.exprs ≡ false
  -- it makes no array anew that is kept
  pub keeps :
      (ty : Ty) (holds : ℕ → Bool) → ((t : ℕ) → IsTrue (holds t) ↔ HoldsArray (declarations_in U) ty t) → K.keeps ty
      → is_locking_line holds ty l ≡ false
  pub own : K.steady → (e : Expr) → Contains (line_stores l) e → IsOwnStore U p e
  pub silent : K.steady → is_loud l.source.form ≡ false
