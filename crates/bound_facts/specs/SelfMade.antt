-- Classes whose objects are made without any effect that can be seen: they have no initializer, or one that assigns to its
-- object and to its own variables alone, what can't raise and holds no call.
use Rattle.std.specs.Prelude.{ℕ, Bool, true, false, cond, not, ◌||◌, ◌&&◌, nat_eq, Option, Some, None, is_some, List, [], ◌∷◌, slice_get}
use Rattle.std.specs.List.{flat_map, list_any}
use Rattle.vb_tree.specs.declared.declared.Owner.{Owner}
use Rattle.vb_tree.specs.declared.declared.Owner.TheVariants as owner
use Rattle.vb_tree.specs.Tree.{Form, assign}
use Rattle.bound_tree.specs.Tree.{Expr, typed, Term, field, element, variable, loose, Line, Variable, Procedure, Declarations, Program}
use Rattle.bound_facts.specs.CanRaise.{is_me, can_raise}
use Rattle.bound_facts.specs.Items.{project_items}
use Rattle.bound_facts.specs.Members.{initializer}
use Rattle.bound_facts.specs.Node.{type_at, called, created, asks, is_object_type}
use Rattle.bound_facts.specs.Parts.{line_uses}

abbrev pub module_of : Option Procedure → Option ℕ
module_of None = None
module_of (Some p) = Some p.module_number

abbrev pub is_number : Option ℕ → ℕ → Bool
is_number None n = false
is_number (Some m) n = nat_eq m n

-- a variable of a procedure, or of the object that it runs for: a variable of its class
abbrev pub is_mine_owner : (i : ℕ) → (home : Option ℕ) → Owner → Bool
is_mine_owner i home (owner.Local p) = nat_eq p.0 i
is_mine_owner i home (owner.Static p) = nat_eq p.0 i
is_mine_owner i home (owner.Module m) = is_number home m
is_mine_owner i home _ = false

abbrev pub is_mine_variable : Declarations → ℕ → Option Variable → Bool
is_mine_variable D i None = false
is_mine_variable D i (Some v) = is_mine_owner i (module_of (slice_get D.procs i)) v.owner

-- a part of such a variable, or of a field of Me; a field of another object is none. What has no type is passed over.
abbrev mutual
  pub is_mine : Declarations → ℕ → Expr → Bool
  is_mine D i (typed ty t) = is_mine_in D i t

  pub is_mine_in : Declarations → ℕ → Term → Bool
  is_mine_in D i (variable v qualified) = is_mine_variable D i (slice_get D.vars v.0)
  is_mine_in D i (field e k) = cond (is_object_type (type_at e)) (is_me e) (is_mine D i e)
  is_mine_in D i (element e indexes) = is_mine D i e
  is_mine_in D i (loose e rules) = true
  is_mine_in D i _ = false

-- whether a node calls a procedure, makes an object or asks
abbrev pub enters : Declarations → Expr → Bool
enters D e = is_some (called e) || (is_some (created D e) || asks e)

abbrev pub is_plain_store : Declarations → ℕ → Form → List Expr → Bool
is_plain_store D i (assign target value) (to ∷ e ∷ es) = is_mine D i to && not (can_raise D e)
is_plain_store D i _ es = false

-- whether a line may stand in the initializer of a self-made class
abbrev pub is_plain_line : Declarations → ℕ → Line → Bool
is_plain_line D i l = is_plain_store D i l.source.form l.bindings.exprs && not (list_any (enters D) (line_uses l))

abbrev pub unplain_items : Declarations → ℕ → Line → List ℕ
unplain_items D i l = cond (is_plain_line D i l) [] (i ∷ [])

-- the procedures with a line that may not
abbrev pub unplain : Program → List ℕ
unplain P = project_items (unplain_items P.declarations) P.bodies
