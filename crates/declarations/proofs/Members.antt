-- Whether one of a module's members passes a test, by its view.
use Rattle.std.proofs.Common.{◌≡◌, List, [], ◌∷◌, map, refl, ap}
use Rattle.std.specs.Prelude.{◌||◌}
use Rattle.std.specs.List.{list_any}
use Rattle.vb_tree.specs.declared.module.Member6.{Member6}
use Rattle.vb_tree.specs.View.{member_of}
use Rattle.declarations.specs.ModuleFacts.{is_explicit_member}

pub any_member : (ms : List Member6) → list_any (λ m. is_explicit_member (member_of m)) ms ≡ list_any is_explicit_member (map member_of ms)
any_member [] = refl
any_member (m ∷ ms) = ap (λ b. is_explicit_member (member_of m) || b) (any_member ms)
