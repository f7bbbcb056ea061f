-- The procedures that run when an object ends, at a time that isn't fixed any more.
use Rattle.std.specs.Prelude.{ℕ, Bool, ◌&&◌, nat_eq, codes}
use Rattle.std.specs.List.{list_any}
use Rattle.up_base.specs.Names.{is_same_name}
use Rattle.vb_tree.specs.Tree.{Module, Project}
use Rattle.bound_tree.specs.Tree.{Procedure, Declarations}
use Rattle.bound_facts.specs.Members.{is_sub}

abbrev pub is_class_file : Project → ℕ → Bool
is_class_file P file = list_any (λ (m : Module). m.class && nat_eq m.file file) P.modules

-- a Sub Class_Terminate in a class
abbrev pub is_terminator : Declarations → Procedure → Bool
is_terminator D p = is_sub p.kind && is_same_name p.name (codes "Class_Terminate") && is_class_file D.project p.module_number
