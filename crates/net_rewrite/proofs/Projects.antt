-- What a project stands for, by its parts.
use Rattle.std.proofs.Common.{◌≡◌, ℕ, Bool, List, map, Option, None, ap, ◌∙◌}
use Rattle.std.specs.Prelude.{is_none}
use Rattle.bound_tree.specs.Tree.{Program}
use Rattle.net_tree.specs.declared.project.NetModule.{NetModule}
use Rattle.net_tree.specs.declared.project.NetProject.{NetProject}
use Rattle.net_tree.specs.Tree as net
use Rattle.net_tree.specs.View.{module_of, project_of}
use Rattle.written_trees.specs.Facts.{Facts}
use Rattle.written_trees.specs.Projects.{main_of, written_modules, written_project}
use Rattle.written_trees.specs.Supports.{support_module}

abbrev made : (library : Bool) (main note : Option (List ℕ)) → List net.Module → net.Module → net.Project
made library main note modules support = record { library = library; main = main; note = note; modules = modules; support = support }

pub project_is : (P : Program) (F : Facts) (p : NetProject) (main : Option (List ℕ)) (given modules : List NetModule) (support : NetModule)
    → given ≡ modules → main ≡ main_of P.declarations → map module_of modules ≡ written_modules P F
    → module_of support ≡ support_module P.declarations F (map module_of given)
    → p.library ≡ is_none main → p.main ≡ main → p.note ≡ None → p.modules ≡ modules → p.support ≡ support
    → project_of p ≡ written_project P F
project_is P F p main given modules support same starts written supports library kept note items support_kept =
    let all : map module_of p.modules ≡ written_modules P F = ap (λ (ms : List NetModule). map module_of ms) items ∙ written in
    let first : p.main ≡ main_of P.declarations = kept ∙ starts in
    ap (λ (l : Bool). made l p.main p.note (map module_of p.modules) (module_of p.support)) (library ∙ ap (λ (m : Option (List ℕ)). is_none m) starts)
    ∙ ap (λ (m : Option (List ℕ)). made (is_none (main_of P.declarations)) m p.note (map module_of p.modules) (module_of p.support)) first
    ∙ ap (λ (n : Option (List ℕ)). made (is_none (main_of P.declarations)) (main_of P.declarations) n (map module_of p.modules) (module_of p.support)) note
    ∙ ap (λ (ms : List net.Module). made (is_none (main_of P.declarations)) (main_of P.declarations) None ms (module_of p.support)) all
    ∙ ap (λ (s : net.Module). made (is_none (main_of P.declarations)) (main_of P.declarations) None (written_modules P F) s)
    (ap (λ (s : NetModule). module_of s) support_kept ∙ supports ∙ ap (λ (ms : List net.Module). support_module P.declarations F ms) (ap (λ (ms : List NetModule). map module_of ms) same ∙ written))
