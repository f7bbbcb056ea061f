-- What is left of an iterator over a `Vec`.
use Rattle.std.proofs.Common.{◌≡◌, sym, ◌∙◌, ap, length, drop, Option, Some, None}
use Rattle.std.proofs.lemmas.List.{nil_from_length}
use Rattle.std.specs.declared.vec.IntoIter.{IntoIter}
use Rattle.std.specs.Vec.Iter.{into_iter_items, into_iter_len, into_iter_steps}

pub len-items : {X Z : Type 0} (it : IntoIter X Z) → into_iter_len it ≡ length (into_iter_items it)
len-items it = it.rest.ok.0

-- after its first call, all items but the first are left
pub after-first : {X Z : Type 0} (s : IntoIter X Z) (first : Option X) (t : IntoIter X Z) → into_iter_steps s first t → into_iter_items t ≡ drop 1 (into_iter_items s)
after-first s None t p =
    nil_from_length _ (sym (len-items t) ∙ p.1) ∙ sym (ap (drop 1) (nil_from_length _ (sym (len-items s) ∙ p.0)))
after-first s (Some x) t p = sym (ap (drop 1) p.0)
