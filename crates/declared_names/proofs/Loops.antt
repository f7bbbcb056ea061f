-- Loops that put what a list declares behind other declarations.
use Rattle.std.proofs.Common.{◌≡◌, ℕ, ◌+◌, ◌<◌, ◌≤◌, sym, ap, ◌∙◌, List, [], ◌∷◌, length, drop, get_or, map, Option, Some}
use Rattle.std.proofs.lemmas.List.{at_drop_all, at_drop_more}
use Rattle.vb_tree.specs.declared.form.CodeLine.{CodeLine}
use Rattle.vb_tree.specs.View.{line_of}
use Rattle.bound_tree.specs.declared.declared.ConstId.{ConstId}
use Rattle.bound_tree.specs.declared.declared.Scope.{Scope}
use Rattle.declared_names.specs.Declaring.{Lists, Declares, enum_line_declares, follow, members_declare, nothing, with_declared}
use Rattle.declared_names.proofs.Following.{behind_follow, behind_nothing, members_done, members_more}

-- one item more: what is declared from it on is what it declares itself and, behind it, what the rest declares
pub loop_more : {A : Type 0} (F G : List A → Declares) (head : Declares) (xs : List A) (i : ℕ) (x : A) (old new : Lists)
    → i < length xs → x ≡ get_or xs i x → ((rest : List A) → F (x ∷ rest) ≡ follow head (G rest)) → new ≡ with_declared head old
    → with_declared (G (drop (i + 1) xs)) new ≡ with_declared (F (drop i xs)) old
loop_more F G head xs i x old new within item parted made =
    sym (ap (λ (g : Declares). with_declared g old) (at_drop_more F xs i x within ∙ ap (λ y. F (y ∷ drop (i + 1) xs)) (sym item) ∙ parted (drop (i + 1) xs))
    ∙ behind_follow head (G (drop (i + 1) xs)) old
    ∙ ap (with_declared (G (drop (i + 1) xs))) (sym made))

pub loop_done : {A : Type 0} (F : List A → Declares) (xs : List A) (i : ℕ) (d : Lists)
    → length xs ≤ i → F [] ≡ nothing → with_declared (F (drop i xs)) d ≡ d
loop_done F xs i d over empty = ap (λ (g : Declares). with_declared g d) (at_drop_all F xs i over ∙ empty) ∙ behind_nothing d

-- the members of an Enum, of which each has the number of the one before
pub members_step : (s : Scope) (file : ℕ) (before : Option ConstId) (n m k : ℕ) (xs : List CodeLine) (i : ℕ) (x : CodeLine) (old new : Lists)
    → i < length xs → x ≡ get_or xs i x → m ≡ n + 1 → k ≡ length old.consts
    → new ≡ with_declared (enum_line_declares s file before n (line_of x).place (line_of x).form) old
    → with_declared (members_declare s file (Some (record { 0 = k })) m (map line_of (drop (i + 1) xs))) new
    ≡ with_declared (members_declare s file before n (map line_of (drop i xs))) old
members_step s file before n m k xs i x old new within item next number made =
    sym (at_drop_more (λ (ls : List CodeLine). with_declared (members_declare s file before n (map line_of ls)) old) xs i x within
    ∙ ap (λ (y : CodeLine). with_declared (members_declare s file before n (map line_of (y ∷ drop (i + 1) xs))) old) (sym item)
    ∙ members_more s file before n (line_of x) (map line_of (drop (i + 1) xs)) old
    ∙ ap (with_declared (members_declare s file (Some (record { 0 = length old.consts })) (n + 1) (map line_of (drop (i + 1) xs)))) (sym made)
    ∙ ap (λ (j : ℕ). with_declared (members_declare s file (Some (record { 0 = j })) (n + 1) (map line_of (drop (i + 1) xs))) new) (sym number)
    ∙ ap (λ (j : ℕ). with_declared (members_declare s file (Some (record { 0 = k })) j (map line_of (drop (i + 1) xs))) new) (sym next))

pub members_end : (s : Scope) (file : ℕ) (before : Option ConstId) (n : ℕ) (xs : List CodeLine) (i : ℕ) (d : Lists)
    → length xs ≤ i → with_declared (members_declare s file before n (map line_of (drop i xs))) d ≡ d
members_end s file before n xs i d over =
    at_drop_all (λ (ls : List CodeLine). with_declared (members_declare s file before n (map line_of ls)) d) xs i over ∙ members_done s file before n d
