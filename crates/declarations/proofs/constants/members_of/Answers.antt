use Rattle.std.proofs.Common.{◌≡◌, ℕ, Bool, List, ◌&&◌, map, length, nat_lt, ap, sym, ◌∙◌}
use Rattle.std.proofs.lemmas.List.{length-map}
use Rattle.bound_facts.specs.Leading.{is_in}
use Rattle.declared_names.specs.declared.lists.DeclaredNames.{DeclaredNames}
use Rattle.declared_names.specs.View.{constant_of as named_constant, names_of}
use Rattle.declarations.specs.Constants.{is_member, member_numbers}
use Rattle.declarations.proofs.constants.members_of.Goals as goal

marked_as : (names : DeclaredNames) (k n : ℕ) (numbers : List ℕ) (b : Bool) → n ≡ length names.consts → numbers ≡ member_numbers names.enums
    → b ≡ (nat_lt k n && is_in numbers k) → b ≡ is_member (names_of names) k
marked_as names k n numbers b count are marked =
    marked
    ∙ ap (λ (m : ℕ). nat_lt k m && is_in numbers k) (count ∙ sym (length-map names.consts named_constant))
    ∙ ap (λ (ns : List ℕ). nat_lt k (length (map named_constant names.consts)) && is_in ns k) are

pub returns : goal.returns
returns c k =
    marked_as c.args.names.now k c.in_ok-count.field-0 c.in_ok-numbers.numbers.items _ (c.in_ok-count.ensures ∙ c.len.ensures)
    (c.in_ok-numbers.ensures ∙ ap member_numbers c.as_slice.ensures)
    (c.in_ok-marks_of.ensures.marks k ∙ ap (λ (ns : List ℕ). nat_lt k c.in_ok-count.field-0 && is_in ns k) c.deref.ensures.value)
