-- Lines in which the order of effects shows: of the target of an assignment or a Set and its right side, and of the bounds of a
-- ReDim Preserve.
use Rattle.std.specs.Prelude.{Bool, true, false, cond, not, ◌||◌, ◌&&◌, nat_eq, is_some, Option, Some, None, List, [], ◌∷◌, ◌++◌}
use Rattle.std.specs.List.{list_any, list_all, flat_map}
use Rattle.vb_tree.specs.BoundTree.{Ty, user, class, object, array}
use Rattle.vb_tree.specs.declared.declared.Owner.{Owner}
use Rattle.vb_tree.specs.declared.declared.Owner.TheVariants as owner
use Rattle.vb_tree.specs.Tree.{Form, assign, set, redim}
use Rattle.bound_tree.specs.Tree.{Expr, typed, Term, field, element, loose, Line, Variable, Declarations}
use Rattle.bound_facts.specs.CanRaise.{raises, is_fixed}
use Rattle.bound_facts.specs.Node.{type_at, called, variable_at, variable_number, is_object_type}
use Rattle.bound_facts.specs.Nodes.{nodes, nodes_in, nodes_of_all}
use Rattle.byref_analysis.specs.Lines.{bounds_in}

-- ---- the parts of a target

abbrev pub is_fixed_array : Ty → Bool
is_fixed_array (array ty rank) = not (nat_eq rank 0)
is_fixed_array _ = false

abbrev pub is_home_owner : Owner → Bool
is_home_owner (owner.Module m) = true
is_home_owner (owner.Local p) = true
is_home_owner (owner.Static p) = true
is_home_owner _ = false

abbrev pub is_home : Option Variable → Bool
is_home None = false
is_home (Some v) = is_home_owner v.owner

-- a fixed array that is a local, a static or a module variable by itself: nothing puts another array there
abbrev pub stays : Declarations → Expr → Bool
stays D e = is_fixed_array (type_at e) && is_home (variable_number D.vars (variable_at e))

-- the nodes of the parts that are evaluated before the store: the index expressions, the array variable of an element unless it
-- stays, and the object before a member; a plain variable and a field path on one have none
abbrev mutual
  pub part_nodes : Declarations → Expr → List Expr
  part_nodes D (typed ty t) = part_nodes_in D t

  pub part_nodes_in : Declarations → Term → List Expr
  part_nodes_in D (field e k) = cond (is_object_type (type_at e)) (nodes e) (part_nodes D e)
  part_nodes_in D (element e indexes) = cond (stays D e) [] (nodes e) ++ nodes_of_all indexes
  part_nodes_in D t = nodes_in t

-- ---- targets

abbrev pub is_whole_type : Ty → Bool
is_whole_type (user t) = true
is_whole_type (class c) = true
is_whole_type object = true
is_whole_type (array ty rank) = true
is_whole_type _ = false

-- a property, or of a user, class, Object or array type
abbrev pub is_whole : Expr → Bool
is_whole e = is_some (called e) || is_whole_type (type_at e)

-- ---- lines

-- whether the order of the parts p of a target and of its right side r shows, by a test that tells which uses are stirring
abbrev pub clashes : Declarations → (stirs : Expr → Bool) → (whole : Bool) → (p r : List Expr) → Bool
clashes D stirs whole p r =
    (list_any stirs p && not (list_all is_fixed r))
    || ((list_any stirs r && not (list_all is_fixed p)) || (whole && (list_any (raises D) p && list_any (raises D) r)))

abbrev pub is_loose_in : Term → Bool
is_loose_in (loose e rules) = true
is_loose_in _ = false

abbrev pub is_loose : Expr → Bool
is_loose (typed ty t) = is_loose_in t

-- a right side without a type is passed over, and a target without one has no parts
abbrev pub breaks_store : Declarations → (stirs : Expr → Bool) → List Expr → Bool
breaks_store D stirs (to ∷ e ∷ es) = not (is_loose e) && clashes D stirs (is_whole to) (part_nodes D to) (nodes e)
breaks_store D stirs _ = false

abbrev pub breaks_order_in : Declarations → (stirs : Expr → Bool) → Form → List Expr → Bool
breaks_order_in D stirs (assign target value) es = breaks_store D stirs es
breaks_order_in D stirs (set target value) es = breaks_store D stirs es
breaks_order_in D stirs (redim preserve items) es = preserve && list_any stirs (flat_map nodes (bounds_in items es))
breaks_order_in D stirs _ es = false

abbrev pub breaks_order : Declarations → (stirs : Expr → Bool) → Line → Bool
breaks_order D stirs l = breaks_order_in D stirs l.source.form l.bindings.exprs
