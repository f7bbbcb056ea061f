-- Lines that make arrays anew, erase them or assign them whole: a lower bound that isn't constant (rule 9), and an array that
-- can't be made or erased so (rule 11).
use Rattle.std.specs.Prelude.{ℕ, Bool, true, false, not, ◌||◌, ◌&&◌, nat_lt, is_some, Option, Some, None, List, length}
use Rattle.std.specs.List.{list_any}
use Rattle.vb_tree.specs.BoundTree.{Ty, user}
use Rattle.vb_tree.specs.Tree.{Form, assign, redim, erase}
use Rattle.bound_tree.specs.declared.expression.Root.{Root}
use Rattle.bound_tree.specs.declared.expression.Root.TheVariants as root
use Rattle.bound_tree.specs.Tree.{Expr, typed, Term, variable, field, with_object, loose, Line}
use Rattle.bound_facts.specs.Bounds.{whole_of}
use Rattle.bound_facts.specs.Folded.{folded}
use Rattle.bound_facts.specs.Node.{type_at, is_array_type}
use Rattle.bound_facts.specs.Parts.{Extent, Resize, resizes, resized_by, first_of}
use Rattle.array_bounds.specs.Types.{is_fixed_array}

abbrev pub is_loose_in : Term → Bool
is_loose_in (loose e rules) = true
is_loose_in _ = false

-- an expression of type Unknown, over which the rules pass
abbrev pub is_loose : Expr → Bool
is_loose (typed ty t) = is_loose_in t

-- ---- lower bounds

-- a lower bound that is written and has no constant value
abbrev pub is_open : Option Expr → Bool
is_open None = false
is_open (Some e) = not (is_loose e) && not (is_some (whole_of (folded e)))

abbrev pub has_open : Resize → Bool
has_open r = list_any (λ (x : Extent). is_open x.0) r.extents

abbrev pub breaks_lows : Line → Bool
breaks_lows l = list_any has_open (resized_by l.source.form l.bindings.exprs)

-- ---- arrays

abbrev pub is_user_type : Ty → Bool
is_user_type (user t) = true
is_user_type _ = false

abbrev pub is_variable_root : Root → Bool
is_variable_root (root.Variable v) = true
is_variable_root _ = false

-- a variable, or a path of fields of user types on one; what a With keeps is as its head was
abbrev mutual
  pub is_path : Expr → Bool
  is_path (typed ty t) = is_path_in t

  pub is_path_in : Term → Bool
  is_path_in (variable v qualified) = true
  is_path_in (field e k) = is_user_type (type_at e) && is_path e
  is_path_in (with_object r) = is_variable_root r
  is_path_in _ = false

-- an array variable or such a path to an array, without bounds in its declaration: one that can be made anew and erased
abbrev pub is_free_array : Expr → Bool
is_free_array e = (is_array_type (type_at e) && is_path e) && not (is_fixed_array (type_at e))

-- a rank over 2, or one over 1 where the elements are preserved
abbrev pub is_over : (preserve : Bool) → (rank : ℕ) → Bool
is_over preserve n = nat_lt 2 n || (preserve && nat_lt 1 n)

abbrev pub breaks_resize : (preserve : Bool) → Resize → Bool
breaks_resize preserve r = not (is_loose r.array) && (not (is_free_array r.array) || is_over preserve (length r.extents))

abbrev pub breaks_erase : Expr → Bool
breaks_erase e = not (is_loose e) && not (is_free_array e)

abbrev pub breaks_copy : Expr → Bool
breaks_copy e = is_fixed_array (type_at e)

abbrev pub breaks_form : Form → List Expr → Bool
breaks_form (redim preserve items) es = list_any (breaks_resize preserve) (resizes items es)
breaks_form (erase array) es = list_any breaks_erase (first_of es)
breaks_form (assign target value) es = list_any breaks_copy (first_of es)
breaks_form _ es = false
