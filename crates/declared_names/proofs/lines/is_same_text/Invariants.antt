use Rattle.std.proofs.Common.{◌≡◌, drop, length, nat_eq}
use Rattle.std.specs.Cmp.Lexicographic.{pointwise}
use Rattle.up_base.specs.Names.{lower_case}
use Rattle.declared_names.proofs.lines.is_same_text.Given as goal

abbrev pub invariant-loop-i : goal.invariant-loop-i
invariant-loop-i l =
    (length l.text ≡ length l.small)
    × (pointwise nat_eq (lower_case l.text) l.small ≡ pointwise nat_eq (lower_case (drop l.i l.text)) (drop l.i l.small))
