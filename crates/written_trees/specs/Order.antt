-- Which procedure of the source each written one is, in the order in which they are written: the parts of a property stand together.
use Rattle.std.specs.Prelude.{ℕ, not, cond, List, [], ◌∷◌, ◌++◌, map, Option, Some, None, option_to_list, slice_get}
use Rattle.std.specs.List.{flat_map}
use Rattle.vb_tree.specs.declared.declared.ProcKind.TheVariants as kind
use Rattle.vb_tree.specs.Tree.{Module, Member, alone, group, proc}
use Rattle.bound_tree.specs.Tree.{Procedure, Declarations, Program}
use Rattle.written_trees.specs.Arguments.{is_property_kind}
use Rattle.written_trees.specs.Facts.{Facts}
use Rattle.written_trees.specs.Members.{is_later}
use Rattle.written_trees.specs.Names.{Scope}
use Rattle.written_trees.specs.Placing.{Numbers, Placed, placed_members, behind_members}
use Rattle.written_trees.specs.Properties.{part_number, or_part, is_counted, is_separate}
use Rattle.written_trees.specs.Projects.{module_scope, has_initializer, next_module, first_numbers}

abbrev pub itself : ℕ → List (Option ℕ)
itself p = Some p ∷ []

-- the Get of a property goes before its Let or Set
abbrev pub parts_of : Declarations → (first : ℕ) → List (Option ℕ)
parts_of D first =
    map Some (option_to_list (part_number D kind.Get first) ++ option_to_list (or_part (part_number D kind.Let first) (part_number D kind.Set first)))

abbrev pub joined_order : Scope → (procedure : ℕ) → Procedure → List (Option ℕ)
joined_order S p q = cond (is_later S p q) [] (cond (is_counted S.declarations p q) (parts_of S.declarations p) (itself p))

abbrev pub procedure_order : Scope → (procedure : ℕ) → Option Procedure → List (Option ℕ)
procedure_order S p None = []
procedure_order S p (Some q) = cond (not (is_property_kind q.kind)) (itself p) (cond (is_separate S q) (itself p) (joined_order S p q))

abbrev pub member_order : Scope → (procedure : ℕ) → Member → List (Option ℕ)
member_order S p (alone l) = []
member_order S p (group head lines close) = []
member_order S p (proc head body close) = procedure_order S p (slice_get S.declarations.procs p)

abbrev pub members_order : Scope → List Placed → List (Option ℕ)
members_order S ps = flat_map (λ (p : Placed). member_order S p.at.procedure p.member) ps

-- Sub New is none of the source's
abbrev pub module_order : Program → Facts → Numbers → Module → List (Option ℕ)
module_order P F at m =
    cond (has_initializer P.declarations m.file m) (None ∷ []) [] ++ members_order (module_scope P F m) (placed_members at m.comments m.members)

abbrev pub modules_order : Program → Facts → Numbers → List Module → List (Option ℕ)
modules_order P F at [] = []
modules_order P F at (m ∷ ms) = module_order P F at m ++ modules_order P F (next_module (behind_members at m.members)) ms

-- for each procedure that is written the number of the source's
abbrev pub written_order : Program → Facts → List (Option ℕ)
written_order P F = modules_order P F first_numbers P.declarations.project.modules
