-- What references point to.
use Rattle.std.specs.Prelude.{ℕ, List, Option, Some, None, option_map}
use Rattle.std.specs.Borrow.{Bor}
use Rattle.vb_tree.specs.declared.declared.ProcKind.{ProcKind}
use Rattle.vb_tree.specs.declared.token.Token.{Token}
use Rattle.declaration_forms.specs.declared.outlines.Outlined.{Outlined}
use Rattle.declaration_forms.specs.declared.starts.Start.{Start}
use Rattle.declaration_forms.specs.Outlines.{Outline}

abbrev pub begun_now : Option (Start × Bor (List Token)) → Option (Start × List Token)
begun_now found = option_map (λ f. (f.0, f.1.now)) found

abbrev pub part_now : Option (ProcKind × Bor (List Token)) → Option (ProcKind × List Token)
part_now found = option_map (λ f. (f.0, f.1.now)) found

abbrev pub tokens_now : Option (Bor (List Token)) → Option (List Token)
tokens_now found = option_map (λ f. f.now) found

abbrev pub twice_now : Option (Option (Bor (List Token))) → Option (Option (List Token))
twice_now found = option_map tokens_now found

abbrev pub outlined_now : Outlined → Outline
outlined_now o = record { name = o.name.now; suffix = o.suffix; inside = tokens_now o.inside; ty = tokens_now o.ty }

abbrev pub outline_now : Option Outlined → Option Outline
outline_now found = option_map outlined_now found
