-- Which projects can be written, as a test.
use Rattle.std.specs.Prelude.{Bool, true, false, not, ◌&&◌, is_none}
use Rattle.std.specs.List.{list_all}
use Rattle.up_base.specs.Names.{is_name}
use Rattle.net_tree.specs.Tree.{Module, Project}
use Rattle.net_tree.specs.Text.{file_name, is_main, is_note, is_support, is_writable_module, written_modules}

-- whether a project is a library just where it has no main module
abbrev pub has_target : (library without_main : Bool) → Bool
has_target true without_main = without_main
has_target false without_main = not without_main

abbrev pub has_file_name : Module → Bool
has_file_name m = is_name (file_name m)

-- whether a module can be written to a file
abbrev pub is_file : Module → Bool
is_file m = has_file_name m && is_writable_module m

abbrev pub is_writable_project : Project → Bool
is_writable_project N =
    is_note N.note && is_main N.main && has_target N.library (is_none N.main) && is_support N.support && list_all is_file (written_modules N)
