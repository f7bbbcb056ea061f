use Rattle.std.proofs.Common.{◌≡◌, map, take}
use Rattle.vb_tree.specs.View.{module_of}
use Rattle.expression_words.specs.MemberTables.{class_files_in}
use Rattle.expression_words.proofs.member_tables.class_files.Given as goal

abbrev pub invariant-loop-m : goal.invariant-loop-m
invariant-loop-m l = l.all.items ≡ class_files_in (map module_of (take l.m-index l.modules))
