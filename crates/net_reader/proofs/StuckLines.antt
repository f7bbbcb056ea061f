-- A reader is stuck at no line past the one behind the last of a file.
use Rattle.std.proofs.Common.{◌≡◌, ℕ, ◌+◌, ◌≤◌, cond, List, length, refl, sym, ap, ◌∙◌, arith, Option, Some}
use Rattle.net_tree.specs.Text.{byte_order_mark}
use Rattle.net_tree.specs.Tree.{Module}
use Rattle.net_exprs.specs.Readers.{after}
use Rattle.net_exprs.proofs.Words.{by_test}
use Rattle.net_reader.specs.FileLines.{file_lines}
use Rattle.net_reader.specs.FileSteps.{file_reading, is_last_support, last_reading, named_reading, project_by, read_as, started_by}
use Rattle.net_reader.specs.ModuleReader.{Reading, at_end, complete, module_behind_mark, module_in, start, step, stuck}
use Rattle.net_reader.specs.ProjectReader.{Before, at_target, behind_module, module_name, modules_before, project_with, response_end, response_in, response_step}
use Rattle.net_reader.proofs.Machines.{not_past, same_number, stuck_complete}
use Rattle.net_reader.proofs.Marks.{behind_mark, no_fewer_lines}
use Rattle.net_reader.proofs.ModulesStand as modules
use Rattle.net_reader.proofs.Responses as responses

abbrev Within : {X : Type 0} → (file : List ℕ) → Reading X → Type 0
Within file r = (line : ℕ) → r ≡ stuck line → line ≤ 1 + length (file_lines file)

at_front : {X : Type 0} (file : List ℕ) (n : ℕ) → n ≤ 1 → Within {X = X} file (stuck n)
at_front {X} file n h line e = omega (arith, same_number {X = X} n line e)

module_within : (known : Option (Option (List ℕ))) (name file : List ℕ) → Within file (module_in known name file)
module_within known name file = go (after byte_order_mark file) refl
  where
    go : (found : Option (List ℕ)) → after byte_order_mark file ≡ found → Within file (module_behind_mark known name found)
    go Option.None is = at_front file 1 (omega arith)
    go (Some rest) is = λ line e.
        let within = not_past step at_end modules.stops (start known name) 1 (file_lines rest) line (sym (modules.run_is (start known name) 1 (file_lines rest)) ∙ e) in
        omega (arith, within, no_fewer_lines rest, ap (λ file. length (file_lines file)) (behind_mark file rest is))

response_within : (ms : List Module) (file : List ℕ) → Within file (response_in ms file)
response_within ms file line e = not_past (response_step ms) response_end (responses.stops ms) at_target 1 (file_lines file) line (sym (responses.runs_response ms at_target 1 (file_lines file)) ∙ e)

as_within : {A B : Type 0} (make : A → B) (file : List ℕ) (r : Reading A) → Within file r → Within file (read_as make r)
as_within {A} {B} make file (stuck n) h = λ line e. h line (ap (λ n. stuck n) (same_number {X = B} n line e))
as_within make file (complete x) h = λ line e. stuck_complete line (make x) (sym e)

named_within : (b : Before) (name : Option (List ℕ)) (text : List ℕ) → Within text (named_reading b name text)
named_within b Option.None text = at_front text 0 (omega arith)
named_within b (Some name) text = as_within (behind_module b) text (module_in b.note name text) (module_within b.note name text)

pub file_within : (b : Before) (name text : List ℕ) (line : ℕ) → stuck line ≡ file_reading b name text → line ≤ 1 + length (file_lines text)
file_within b name text line e = named_within b (module_name name) text line (sym e)

project_within : (b : Before) (last : Option Module) (main : Option (List ℕ)) (text : List ℕ) → Within text (project_by b last main)
project_within b Option.None main text = at_front text 0 (omega arith)
project_within b (Some m) main text = λ line e. stuck_complete line (project_with b m main) (sym e)

started_within : (b : Before) (last : Option Module) (text : List ℕ) (r : Reading (Option (List ℕ))) → Within text r → Within text (started_by b last r)
started_within b last text (stuck n) h = λ line e. h line (ap (λ n. stuck n) (same_number n line e))
started_within b last text (complete main) h = project_within b last main text

pub last_within : (b : Before) (text : List ℕ) → (line : ℕ) → stuck line ≡ last_reading b text → line ≤ 1 + length (file_lines text)
last_within b text line e =
    by_test (is_last_support b.last) (λ t. Within text (cond t (started_by b b.last (response_in (modules_before b) text)) (stuck 0)))
    (λ t. started_within b b.last text (response_in (modules_before b) text) (response_within (modules_before b) text)) (λ f. at_front text 0 (omega arith)) line (sym e)
