-- Which functions the module of support functions has: those that other modules use, and those that these use.
use Rattle.std.specs.Prelude.{◌≡◌, ℕ, suc, zero, Bool, true, false, ◌||◌, List, [], ◌∷◌, map, length}
use Rattle.std.specs.List.{fold, filter, list_any}
use Rattle.std.specs.Cmp.Lexicographic.{pointwise}
use Rattle.net_tree.specs.Spelling.{is_same_text}
use Rattle.net_tree.specs.Text.{is_support, is_writable_module, file_name}
use Rattle.up_base.specs.Names.{is_name}
use Rattle.net_tree.specs.Tree.{Module, proc}
use Rattle.support_text.specs.declared.row.SupportRow.{SupportRow}
use Rattle.support_text.specs.Rows.{all_rows, row_name, row_path, row_procedure, support_name}
use Rattle.support_text.specs.Walk.{walk_module, walk_procedure}

-- whether two paths are spelt alike
abbrev pub is_path : List (List ℕ) → List (List ℕ) → Bool
is_path a b = pointwise is_same_text a b

-- whether a path is the wanted one, or that was met before
abbrev pub met : List (List ℕ) → Bool → List (List ℕ) → Bool
met wanted before names = is_path names wanted || before

-- whether modules use a function
abbrev pub uses : SupportRow → List Module → Bool
uses row modules = fold (walk_module (met (row_path row))) false modules

-- whether a function calls another, by its name alone
abbrev pub calls : SupportRow → SupportRow → Bool
calls row other = walk_procedure (met (row_name other ∷ [])) false (row_procedure row)

-- the functions that a function calls
abbrev pub callees : SupportRow → List SupportRow
callees row = filter (calls row) all_rows

-- whether a function leads to another by at most as many calls
abbrev pub leads_within : ℕ → SupportRow → SupportRow → Bool
leads_within zero other row = is_same_text (row_name other) (row_name row)
leads_within (suc n) other row = list_any (λ callee. leads_within n callee row) (other ∷ callees other)

-- whether a function leads to another by calls, of which no chain has more than there are functions
abbrev pub leads_to : SupportRow → SupportRow → Bool
leads_to other row = leads_within (length all_rows) other row

-- the functions that are needed where some are used: those that used ones lead to
abbrev pub needed : (SupportRow → Bool) → SupportRow → Bool
needed used row = list_any used (filter (λ other. leads_to other row) all_rows)

-- The set has those of the other, and with a function those that it calls.
pub record IsClosed (used : SupportRow → Bool) (set : SupportRow → Bool) : Type 0 where
  pub has_used : (row : SupportRow) → used row ≡ true → set row ≡ true
  pub has_called : (row other : SupportRow) → set row ≡ true → calls row other ≡ true → set other ≡ true

-- The needed functions are the least such set.
pub record IsLeast (used : SupportRow → Bool) (set : SupportRow → Bool) : Type 0 where
  pub closed : IsClosed used set
  pub least : (more : SupportRow → Bool) → IsClosed used more → (row : SupportRow) → set row ≡ true → more row ≡ true

-- the module of the support functions that modules need
abbrev pub support_module : List Module → Module
support_module modules = record {
  name = support_name;
  class = false;
  members = map (λ row. proc (row_procedure row)) (filter (needed (λ row. uses row modules)) all_rows);
}

-- The module can be written beside others, as the module of support functions.
pub record CanBeWritten (m : Module) : Type 0 where
  pub writable : is_writable_module m ≡ true
  pub support : is_support m ≡ true
  pub file_name : is_name (file_name m) ≡ true
