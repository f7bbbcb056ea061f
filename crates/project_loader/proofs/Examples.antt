-- Small folders: what they hold, and the first faults of what they don't.
use Rattle.std.proofs.Common.{◌≡◌, ℕ, zero, suc, ◌≤◌, Bool, true, false, ◌&&◌, ◌||◌, ◌==◌, cond, nat_eq, List, [], ◌∷◌, codes, Option, Some, None, refl, arith, lit≤}
use Rattle.std.specs.Cmp.Lexicographic.{pointwise}
use Rattle.std.proofs.lemmas.List.Elements.{All-nil}
use Rattle.up_base.specs.Outside.{Files}
use Rattle.up_base.specs.declared.place.Fault.{Fault}
use Rattle.vb_tree.specs.declared.project.Entry.{Entry}
use Rattle.vb_tree.specs.LogicalLines.{readings}
use Rattle.vb_tree.specs.ProjectLines.{HasNoFault, lines_of, project_file}
use Rattle.vb_tree.specs.Tree.{Module}
use Rattle.vb_lexer.specs.Answers.{Lexes}
use Rattle.project_loader.specs.Texts.{decoded}
use Rattle.project_loader.specs.Modules.{TextIsModule}
use Rattle.project_loader.specs.Held.{HeldFile, HeldProject, sizes}
use Rattle.project_loader.specs.Faults.{fault_at, no_project, no_module, FileFault, FirstFault}
use Rattle.project_loader.proofs.Unique.{file_or_fault}

-- a byte with a character of its own number, one without a character, and the sign of the euro
some_bytes : decoded (65 ∷ 129 ∷ 128 ∷ []) ≡ 65 ∷ 127 ∷ 8364 ∷ []
some_bytes = refl

abbrev project_name : List ℕ
project_name = codes "P.vbp"

abbrev project_bytes : List ℕ
project_bytes = codes "Module=A; A.bas"

-- the one entry that the project file has
abbrev entry : Entry
entry = record { line = 1; class = false; name = codes "A"; file = codes "A.bas" }

-- a folder with the project file, and with these bytes in the other file
abbrev folder : Option (List ℕ) → Files
folder content name = cond (pointwise nat_eq name project_name) (Some project_bytes) (cond (pointwise nat_eq name (codes "A.bas")) content None)

-- files count as often as they are named
two_sizes : sizes (folder (Some (codes "Beep"))) (entry ∷ entry ∷ []) ≡ 8
two_sizes = refl

-- ---- a project file

and_false : (b : Bool) → (b && false) ≡ false
and_false true = refl
and_false false = refl

no_fault : HasNoFault (lines_of (decoded project_bytes))
no_fault zero k = refl
no_fault (suc zero) k = by (k == 6) (k == 3) (k == 5)
  where
    by : (a b c : Bool) → ((a && false) || ((b && false) || (c && false))) ≡ false
    by true true true = refl
    by true true false = refl
    by true false true = refl
    by true false false = refl
    by false true true = refl
    by false true false = refl
    by false false true = refl
    by false false false = refl
no_fault (suc (suc i)) k = refl

held_file : (content : Option (List ℕ)) → HeldFile (folder content) project_name (project_file project_bytes)
held_file content = record { bytes = project_bytes; held = record { held = refl; short = lit≤ tt }; is = record { right = no_fault; says = refl } }

one_entry : (project_file project_bytes).entries ≡ entry ∷ []
one_entry = refl

-- ---- the module of an empty file

abbrev empty_module : Module
empty_module = record { file = 1; name = codes "A"; class = false; members = []; comments = [] }

no_lines : Lexes 1 [] None []
unfolding readings
no_lines = record { first = refl; before = refl }

empty_text : TextIsModule entry 1 [] empty_module
empty_text = record {
  lines = [];
  lexed = no_lines;
  is = record { file = refl; name = refl; class = refl; comments = refl; lines = []; read = refl; closed = refl; tree = record { nested = All-nil _; in_order = refl } };
}

held_project : HeldProject (folder (Some [])) project_name (record { file = project_file project_bytes; modules = empty_module ∷ [] })
held_project = record {
  file = held_file (Some []);
  modules = (record { bytes = []; held = record { held = refl; short = lit≤ tt }; within = lit≤ tt; is = empty_text }, tt);
}

-- ---- first faults

no_file : FirstFault (λ name. None) project_name project_name (fault_at 0 0 1)
no_file = record { read = 0; fault = no_project refl refl; first = λ k g later. omega arith; is_said = refl }

no_module_file : FirstFault (folder None) project_name project_name (fault_at 0 1 2)
no_module_file = record {
  read = 1;
  fault = (project_file project_bytes, held_file None, entry, refl, no_module refl refl);
  first = first;
  is_said = refl;
}
  where
    first : (k : ℕ) (g : Fault) → FileFault (folder None) project_name k g → 1 ≤ k
    first zero g fault = absurd (file_or_fault (folder None) project_name (project_file project_bytes) g (held_file None) fault)
    first (suc k) g fault = omega arith
