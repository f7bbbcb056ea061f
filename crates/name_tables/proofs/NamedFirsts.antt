-- What a name at the place of the first that passes a test is declared as.
use Rattle.std.proofs.Common.{◌≡◌, ℕ, Bool, List, refl, ap, sym, ◌∙◌}
use Rattle.std.specs.Prelude.{position, find, Option, Some, None, slice_get, option_map}
use Rattle.vb_tree.specs.Tree.{Module}
use Rattle.bound_tree.specs.declared.declared.NamedEntry.{NamedEntry}
use Rattle.name_tables.specs.Rows.{entry_named, file_at, module_file, named_at}
use Rattle.name_tables.specs.Scopes.{first_named}
use Rattle.name_tables.proofs.Firsts.{find_first, item_at}

entry : (o : Option NamedEntry) → entry_named o ≡ option_map (λ (e : NamedEntry). e.named) o
entry None = refl
entry (Some e) = refl

at : (names : List NamedEntry) (o : Option ℕ) → named_at names o ≡ option_map (λ (e : NamedEntry). e.named) (item_at names o)
at names None = refl
at names (Some i) = entry (slice_get names i)

pub named_first : (test : NamedEntry → Bool) (names : List NamedEntry) → named_at names (position test names) ≡ first_named test names
named_first test names = at names (position test names) ∙ ap (option_map (λ (e : NamedEntry). e.named)) (sym (find_first test names))

filed : (o : Option Module) → module_file o ≡ option_map (λ (m : Module). m.file) o
filed None = refl
filed (Some m) = refl

file_in : (modules : List Module) (o : Option ℕ) → file_at modules o ≡ option_map (λ (m : Module). m.file) (item_at modules o)
file_in modules None = refl
file_in modules (Some i) = filed (slice_get modules i)

pub file_first : (test : Module → Bool) (modules : List Module) → file_at modules (position test modules) ≡ option_map (λ (m : Module). m.file) (find test modules)
file_first test modules = file_in modules (position test modules) ∙ ap (option_map (λ (m : Module). m.file)) (sym (find_first test modules))
