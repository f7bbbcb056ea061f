-- The names of local variables, one procedure after the other.
use Rattle.std.proofs.Common.{◌≡◌, ℕ, ◌+◌, ◌<◌, List, [], ◌∷◌, ◌++◌, drop, get_or, length, map, sym, ap, ◌∙◌, append_assoc, arith}
use Rattle.std.proofs.lemmas.List.{at_drop_more, length-map}
use Rattle.bound_tree.specs.declared.declared.NamedEntry.{NamedEntry}
use Rattle.binder.specs.declared.locals.Locals as code
use Rattle.binder.specs.ImplicitLocals.{Implicit, all_variables, entries_from, entry_at}
use Rattle.binder.specs.View.{implicit_of, locals_shown}

entries_then : (k : ℕ) (xs ys : List Implicit) → entries_from k (xs ++ ys) ≡ entries_from k xs ++ entries_from (k + length xs) ys
entries_then k [] ys =
    let same : k ≡ k + 0 = omega arith in
    ap (λ (n : ℕ). entries_from n ys) same
entries_then k (x ∷ xs) ys =
    ap (λ (es : List NamedEntry). entry_at k x ∷ es)
    (entries_then (k + 1) xs ys ∙ ap (λ (n : ℕ). entries_from (k + 1) xs ++ entries_from n ys) (omega arith))

-- the loop over procedures: the names of one more, which are numbered from k
pub entries_more : (k next : ℕ) (ls : List code.Locals) (i : ℕ) (own : code.Locals) (before after : List NamedEntry)
    → i < length ls → own ≡ get_or ls i own
    → after ≡ before ++ entries_from k (map implicit_of own.variables.items) → next ≡ k + length own.variables.items
    → after ++ entries_from next (all_variables (map locals_shown (drop (i + 1) ls))) ≡ before ++ entries_from k (all_variables (map locals_shown (drop i ls)))
entries_more k next ls i own before after within item put counted =
    let xs : List Implicit = map implicit_of own.variables.items in
    let ys : List Implicit = all_variables (map locals_shown (drop (i + 1) ls)) in
    ap (λ (es : List NamedEntry). es ++ entries_from next ys) put
    ∙ ap (λ (n : ℕ). (before ++ entries_from k xs) ++ entries_from n ys) (counted ∙ ap (λ (n : ℕ). k + n) (sym (length-map own.variables.items implicit_of)))
    ∙ append_assoc before (entries_from k xs) (entries_from (k + length xs) ys)
    ∙ ap (λ (es : List NamedEntry). before ++ es) (sym (entries_then k xs ys))
    ∙ ap (λ (y : code.Locals). before ++ entries_from k (all_variables (map locals_shown (y ∷ drop (i + 1) ls)))) item
    ∙ sym (at_drop_more (λ (l : List code.Locals). before ++ entries_from k (all_variables (map locals_shown l))) ls i own within)
