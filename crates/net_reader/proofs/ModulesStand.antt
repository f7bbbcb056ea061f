-- A module that is read is one that its file stands for, and a line that isn't taken is the first at which no module's file goes on.
use Rattle.std.proofs.Common.{◌≡◌, ℕ, suc, ◌-◌, ◌≤◌, true, List, [], ◌∷◌, ◌++◌, refl, sym, ap, subst, ◌∙◌, arith, Option, Some, None}
use Rattle.std.proofs.lemmas.Option.{none-some}
use Rattle.net_tree.specs.Spelling.{is_identifier}
use Rattle.net_tree.specs.Text.{byte_order_mark}
use Rattle.net_exprs.specs.Fitting.{fits_name}
use Rattle.net_exprs.specs.Readers.{after}
use Rattle.net_reader.specs.FileLines.{file_lines}
use Rattle.net_reader.specs.Laws.{IsFineNote, IsModuleOf, ModuleBegins, ModuleFaultsAreFirst, ModulesAreRead, ReadModulesStand, file_of}
use Rattle.net_reader.specs.ModuleReader.{NotedModule, Reading, State, at_end, at_front, behind_line, complete, ended, module_behind_mark, run, start, step, stuck}
use Rattle.net_reader.proofs.Completions.{completes}
use Rattle.net_reader.proofs.FileCuts.{begins_at_all}
use Rattle.net_reader.proofs.Growth.{any_front, grows}
use Rattle.net_reader.proofs.Machines.{faults, runs, same_number, stands, stuck_complete}
use Rattle.net_reader.proofs.Marks.{begins_marked, begins_unmarked, behind_mark, first_line_marked}
use Rattle.net_reader.proofs.SoFar.{Holds, unmarked}

-- ---- the reader as one that goes from line to line

pub run_is : (s : State) (n : ℕ) (lines : List (List ℕ)) → run s n lines ≡ runs step at_end s n lines
run_is s n [] = refl
run_is s n (line ∷ lines) = go (step s line) (λ next. run_is next (suc n) lines)
  where
    go : (o : Option State) → ((next : State) → run next (suc n) lines ≡ runs step at_end next (suc n) lines) →
        behind_line n o (λ (next : State). run next (suc n) lines) ≡ behind_line n o (λ (next : State). runs step at_end next (suc n) lines)
    go None each = refl
    go (Some next) each = each next

read_of : NotedModule → Reading NotedModule → NotedModule
read_of other (complete m) = m
read_of other (stuck n) = other

same_module : (a b : NotedModule) → complete a ≡ complete b → a ≡ b
unfolding read_of
same_module a b h = ap (read_of a) h

pub stops : (s : State) (n l : ℕ) → at_end s n ≡ stuck l → l ≡ n
stops (ended m) n l e = stuck_complete l m (sym e)
stops (at_front named) n l e = sym (same_number {X = NotedModule} n l e)
stops _ n l e = sym (same_number {X = NotedModule} n l e)

module _ (known : Option (Option (List ℕ))) (name : List ℕ) (is_name : is_identifier name ≡ true) (name_fits : fits_name name ≡ true) where
  ends : (bytes : List ℕ) (s : State) (n : ℕ) (m : NotedModule) → Holds known name bytes s → at_end s n ≡ complete m → IsModuleOf known name m × (unmarked m ≡ bytes)
  ends bytes (ended x) n m is e =
      subst (λ (m : NotedModule). IsModuleOf known name m × (unmarked m ≡ bytes)) (same_module x m e) (is.tree, sym is.are)
  ends bytes (at_front named) n m is e = stuck_complete n m e
  ends bytes _ n m is e = stuck_complete n m e

begins : (known : Option (Option (List ℕ))) (name : List ℕ) → is_identifier name ≡ true → fits_name name ≡ true → IsFineNote known → Holds known name [] (start known name)
begins None name h k fine = record { is_known = refl; same = refl; are = refl }
begins (Some note) name h k fine = record { is_known = refl; note = fine; same = refl; are = any_front note }

-- ---- whole modules

module_stands : (known : Option (Option (List ℕ))) (name file : List ℕ) (m : NotedModule) → IsFineNote known → is_identifier name ≡ true → fits_name name ≡ true →
    (found : Option (List ℕ)) → after byte_order_mark file ≡ found → module_behind_mark known name found ≡ complete m → IsModuleOf known name m × (file ≡ file_of m)
module_stands known name file m fine h k None are e = stuck_complete 1 m e
module_stands known name file m fine h k (Some rest) are e =
    let whole =
    stands step at_end (Holds known name) stops (grows known name h k) (start known name) (IsModuleOf known name) unmarked (begins known name h k fine)
    (ends known name h k) rest m (sym (run_is (start known name) 1 (file_lines rest)) ∙ e) in
    (whole.0, behind_mark file rest are ∙ ap (λ t. byte_order_mark ++ t) whole.1)

pub modules_stand : ReadModulesStand
modules_stand known name file m fine h k e = module_stands known name file m fine h k (after byte_order_mark file) refl e

-- ---- faults

abbrev IsFirst : Option (Option (List ℕ)) → (name file : List ℕ) → ℕ → Type 0
IsFirst known name file line = (1 ≤ line) × ModuleBegins known name (line - 1) file × (ModuleBegins known name line file → ⊥)

unmarked_file : (known : Option (Option (List ℕ))) (name file : List ℕ) → IsFineNote known → is_identifier name ≡ true → fits_name name ≡ true →
    after byte_order_mark file ≡ None → IsFirst known name file 1
unmarked_file known name file fine h k none =
    let done = completes known name h k [] (start known name) (begins known name h k fine) in (
      omega arith,
      (done.0, done.1, begins_at_all file (file_of done.0)),
      (λ other. let marks = first_line_marked file (unmarked other.0) other.2 in
          none-some marks.0 (sym none ∙ ap (after byte_order_mark) marks.1)),
    )

marked_file : ModulesAreRead → (known : Option (Option (List ℕ))) (name rest : List ℕ) (line : ℕ) → IsFineNote known → is_identifier name ≡ true → fits_name name ≡ true →
    run (start known name) 1 (file_lines rest) ≡ stuck line → IsFirst known name (byte_order_mark ++ rest) line
marked_file are_read known name rest line fine h k e =
    let first =
    faults step at_end (Holds known name) stops (grows known name h k) (start known name) (IsModuleOf known name) unmarked (begins known name h k fine)
    (completes known name h k) (λ m is. sym (run_is (start known name) 1 (file_lines (unmarked m))) ∙ are_read known name m is)
    rest line (sym (run_is (start known name) 1 (file_lines rest)) ∙ e) in (
      first.0,
      (first.1.0, first.1.1, begins_marked (line - 1) rest (unmarked first.1.0) first.1.2),
      (λ other. first.2 (other.0, other.1, begins_unmarked line rest (unmarked other.0) other.2)),
    )

module_is_first : ModulesAreRead → (known : Option (Option (List ℕ))) (name file : List ℕ) (line : ℕ) → IsFineNote known → is_identifier name ≡ true → fits_name name ≡ true →
    (found : Option (List ℕ)) → after byte_order_mark file ≡ found → module_behind_mark known name found ≡ stuck line → IsFirst known name file line
module_is_first are_read known name file line fine h k None are e =
    subst (λ (l : ℕ). IsFirst known name file l) (same_number {X = NotedModule} 1 line e) (unmarked_file known name file fine h k are)
module_is_first are_read known name file line fine h k (Some rest) are e =
    subst (λ (t : List ℕ). IsFirst known name t line) (sym (behind_mark file rest are)) (marked_file are_read known name rest line fine h k e)

pub module_faults : ModulesAreRead → ModuleFaultsAreFirst
module_faults are_read known name file line fine h k e = module_is_first are_read known name file line fine h k (after byte_order_mark file) refl e
