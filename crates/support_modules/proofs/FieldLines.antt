-- The lines of a field by the variable that declares it.
use Rattle.std.proofs.Common.{◌≡◌, ℕ, List, ◌++◌, map, sym, ap, ◌∙◌}
use Rattle.std.specs.Prelude.{Option, Some, None, option_map, slice_get}
use Rattle.std.proofs.lemmas.List.{append-nil}
use Rattle.std.proofs.lemmas.Option.{slice_get-map}
use Rattle.bound_tree.specs.declared.declared.VarDecl.{VarDecl}
use Rattle.bound_tree.specs.Tree.{Variable}
use Rattle.bound_tree.specs.View.{variable_of}
use Rattle.net_tree.specs.Tree as net
use Rattle.vb_tree.specs.BoundTree.{Ty}
use Rattle.written_trees.specs.Facts.{Facts}
use Rattle.written_trees.specs.Supports.{field_line}

pub field_undeclared : (value : ℕ → Variable → Ty → Option net.Exp) (F : Facts) (vars : List VarDecl) (v : ℕ) (old : List net.Line) → None ≡ slice_get vars v → old ≡ old ++ field_line value F v (slice_get (map variable_of vars) v)
field_undeclared value F vars v old h =
    sym (append-nil old) ∙ ap (λ (x : Option Variable). old ++ field_line value F v x) (ap (option_map variable_of) h ∙ sym (slice_get-map variable_of vars v))

pub field_declared : (value : ℕ → Variable → Ty → Option net.Exp) (F : Facts) (vars : List VarDecl) (v : ℕ) (x : VarDecl) → Some x ≡ slice_get vars v → field_line value F v (Some (variable_of x)) ≡ field_line value F v (slice_get (map variable_of vars) v)
field_declared value F vars v x h = ap (field_line value F v) (ap (option_map variable_of) h ∙ sym (slice_get-map variable_of vars v))
