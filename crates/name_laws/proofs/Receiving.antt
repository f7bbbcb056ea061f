-- The object with which what is called runs.
use Rattle.std.proofs.Common.{◌≡◌, ap, sym, ◌∙◌, inl, inr, ℕ, Bool, true, false, cond, not, ◌&&◌, ◌++◌, nat_eq, Some, slice_get, eqb-true}
use Rattle.std.specs.Prelude.{◌||◌}
use Rattle.std.specs.Cmp.Lexicographic.{pointwise}
use Rattle.bound_tree.specs.Tree.{Procedure, Declarations, no_object}
use Rattle.bound_facts.specs.SelfMade.{module_of}
use Rattle.written_trees.specs.Names.{first_name, is_foreign, module_name}
use Rattle.vb6_run.specs.Runnables.{is_class_file}
use Rattle.run_matches.specs.Callees.{is_found, is_found_behind, is_found_here, is_found_inside, is_found_outside, other_names, result_name}
use Rattle.run_matches.specs.Covered.{is_method_site}
use Rattle.run_matches.specs.Pledges.{stands_in_class}
use Rattle.run_matches.specs.Sites.{Site}
use Rattle.run_matches.specs.Upgrades.{Upgrade}
use Rattle.run_statements.specs.Frames.{Receives, StandsInClass}
use Rattle.name_laws.proofs.Classes.{stands_in}
use Rattle.name_laws.proofs.Found.{method_test}
use Rattle.name_laws.proofs.Lists.{both_true}
use Rattle.name_laws.proofs.Looked.{not_true}

-- where it is called for no object, that of the caller, or none
pub found_receives : (U : Upgrade) (p q : ℕ) (s t : Site) (x y : Procedure) → slice_get U.program.declarations.procs p ≡ Some x
    → slice_get U.program.declarations.procs q ≡ Some y → (qualified : Bool) → is_found U.program.declarations (Some x) s (Some y) (Some t) qualified ≡ true
    → Receives U p q no_object
found_receives U p q s t x y is of qualified h =
    by t.source_module.class
    (both_true (pointwise nat_eq (first_name D (Some y)) y.name)
    (cond t.source_module.class (is_found_inside D (Some x) s y t qualified) (is_found_outside D (Some x) s y t)) h).1
  where
    D : Declarations
    D = U.program.declarations

    by : (class : Bool) → cond class (is_found_inside D (Some x) s y t qualified) (is_found_outside D (Some x) s y t) ≡ true → Receives U p q no_object
    by true k =
        let same = nat_eq s.source_module.file y.module_number && nat_eq x.module_number y.module_number in
        let a = both_true (not qualified && same) (is_found_here D (other_names D (Some x) s) s t y.name) k in
        let b = both_true (nat_eq s.source_module.file y.module_number) (nat_eq x.module_number y.module_number) (both_true (not qualified) same a.0).1 in
        inr (ap module_of of ∙ ap Some (sym (eqb-true x.module_number y.module_number b.1)) ∙ sym (ap module_of is))
    by false k =
        let here = is_foreign D s.source_module.file y.module_number || is_found_here D (other_names D (Some x) s) s t y.name in
        let behind = is_found_behind D (result_name (Some x) ++ other_names D (Some x) s) s t y.name in
        let a = both_true (pointwise nat_eq (module_name D y.module_number) t.source_module.name) (not (is_class_file D y.module_number) && (here && behind)) k in
        let b = both_true (not (is_class_file D y.module_number)) (here && behind) a.1 in
        inl (ap (λ o. stands_in_class U (module_of o)) of ∙ not_true (is_class_file D y.module_number) b.0)

-- where it is called for an object, that of the class in which it stands
pub method_receives : (U : Upgrade) (q class : ℕ) (y : Procedure) (t : Site) → slice_get U.program.declarations.procs q ≡ Some y
    → is_method_site U.program.declarations class y (Some t) ≡ true → StandsInClass U q class
method_receives U q class y t is h = stands_in U q class y.module_number (method_test U.program.declarations class y t h).is_file (ap module_of is)
