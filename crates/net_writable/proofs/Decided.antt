-- The test of projects decides which can be written.
use Rattle.std.proofs.Common.{◌≡◌, ℕ, suc, arith, Bool, true, false, ◌&&◌, ◌==◌, List, [], ◌∷◌, length, refl}
use Rattle.std.specs.Cmp.Derive.{both_true}
use Rattle.std.proofs.lemmas.Bool.Decides.{nat_tests}
use Rattle.std.specs.Prelude.{is_none}
use Rattle.std.specs.List.{list_all}
use Rattle.net_tree.specs.Tree.{Module, Project}
use Rattle.net_tree.specs.Declarations.{has_no_comment}
use Rattle.net_tree.specs.Text.{IsWritable, is_main, is_note, is_support, is_writable_module, written_modules}
use Rattle.net_writable.specs.Projects.{has_file_name, has_target, is_file, is_writable_project}
use Rattle.up_base.proofs.Tests.{both_true as both_pass}

is_target : (library without_main : Bool) → has_target library without_main ≡ true → library ≡ without_main
is_target true true h = refl
is_target true false h = absurd (cc h)
is_target false true h = absurd (cc h)
is_target false false h = refl

target_of : (library without_main : Bool) → library ≡ without_main → has_target library without_main ≡ true
target_of true true h = refl
target_of true false h = absurd (cc h)
target_of false true h = absurd (cc h)
target_of false false h = refl

-- the tests of the modules one after the other
names_of : (modules : List Module) → list_all is_file modules ≡ true → list_all has_file_name modules ≡ true
names_of [] h = refl
names_of (m ∷ modules) h =
    let all = both_pass (is_file m) (list_all is_file modules) h in
    both_true (both_pass (has_file_name m) (is_writable_module m) all.0).0 (names_of modules all.1)

modules_of : (modules : List Module) → list_all is_file modules ≡ true → list_all is_writable_module modules ≡ true
modules_of [] h = refl
modules_of (m ∷ modules) h =
    let all = both_pass (is_file m) (list_all is_file modules) h in
    both_true (both_pass (has_file_name m) (is_writable_module m) all.0).1 (modules_of modules all.1)

files_of : (modules : List Module) → list_all has_file_name modules ≡ true → list_all is_writable_module modules ≡ true → list_all is_file modules ≡ true
files_of [] h w = refl
files_of (m ∷ modules) h w =
    let named = both_pass (has_file_name m) (list_all has_file_name modules) h in
    let written = both_pass (is_writable_module m) (list_all is_writable_module modules) w in
    both_true (both_true named.0 written.0) (files_of modules named.1 written.1)

pub written : (N : Project) → is_writable_project N ≡ true → IsWritable N
written N h =
    let files = both_pass (is_note N.note && is_main N.main && has_target N.library (is_none N.main) && is_support N.support) (list_all is_file (written_modules N)) h in
    let support = both_pass (is_note N.note && is_main N.main && has_target N.library (is_none N.main)) (is_support N.support) files.0 in
    let target = both_pass (is_note N.note && is_main N.main) (has_target N.library (is_none N.main)) support.0 in
    let words = both_pass (is_note N.note) (is_main N.main) target.0 in
    record {
      note = words.0;
      main = words.1;
      target = is_target N.library (is_none N.main) target.1;
      modules = modules_of (written_modules N) files.1;
      support = support.1;
      file_names = names_of (written_modules N) files.1;
    }

pub passes : (N : Project) → IsWritable N → is_writable_project N ≡ true
passes N w =
    both_true (both_true (both_true (both_true w.note w.main) (target_of N.library (is_none N.main) w.target)) w.support)
    (files_of (written_modules N) w.file_names w.modules)

more_than_none : (n : ℕ) → (suc n == 0) ≡ false
more_than_none n = grind (arith, nat_tests)

pub none_stands : (comments : List (List ℕ)) → (length comments == 0) ≡ has_no_comment comments
none_stands [] = refl
none_stands (units ∷ comments) = more_than_none (length comments)
