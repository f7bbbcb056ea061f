-- Optional declarations as what a name stands for.
use Rattle.std.specs.Prelude.{ℕ, Option, option_map}
use Rattle.std.specs.Borrow.{Bor}
use Rattle.vb_tree.specs.declared.form_parts.Label6.{Label6}
use Rattle.bound_tree.specs.Labels.{Label, label_of}
use Rattle.bound_tree.specs.declared.declared.Named.{Named}
use Rattle.name_tables.specs.declared.uses.Use6.{Use6}
use Rattle.name_tables.specs.declared.uses.Use6.TheVariants as use6
use Rattle.name_tables.specs.Scopes.{use_in}

abbrev pub local_of : Option Named → Option Use6
local_of n = option_map use6.Local n

abbrev pub own_of : Option Named → Option Use6
own_of n = option_map use6.Own n

abbrev pub uses_in : ℕ → ℕ → Option Named → Option Use6
uses_in from file n = option_map (use_in from file) n

-- the label that a line may have
abbrev pub label_shown : Option (Bor Label6) → Option Label
label_shown o = option_map (λ l. label_of l.now) o
