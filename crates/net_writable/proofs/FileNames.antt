-- The names of the modules' files, and the files of all modules.
use Rattle.std.proofs.Common.{◌≡◌, ℕ, true, ◌+◌, ◌&&◌, ◌++◌, List, [], ◌∷◌, length, codes, nat_le, ap, ◌∙◌, arith, le-leb, leb-true}
use Rattle.std.specs.List.{list_all}
use Rattle.std.proofs.Math.Bool.{and-true}
use Rattle.std.proofs.lemmas.Bool.{lt-leb, leb-false}
use Rattle.std.proofs.lemmas.List.{length-append}
use Rattle.std.proofs.lemmas.List.Folds.{list_all-append}
use Rattle.net_tree.specs.Tree.{Project}
use Rattle.net_tree.specs.Text.{written_modules}
use Rattle.up_base.specs.Names.{is_name, is_printable}
use Rattle.net_writable.specs.Projects.{is_file}
use Rattle.up_base.proofs.Tests.{by_test, both_true as both_pass}

has_room : (n : ℕ) → nat_le (n + 3) 512 ≡ nat_le n 509
has_room n =
    by_test (nat_le n 509) (λ t. nat_le (n + 3) 512 ≡ t) (λ e. let h = leb-true n 509 e in le-leb (n + 3) 512 (omega arith))
    (λ e. let h = leb-false n 509 e in lt-leb (n + 3) 512 (omega arith))

-- a name with the ending is a name where there is room
pub with_ending : (name : List ℕ) → is_name name ≡ true → is_name (name ++ codes ".vb") ≡ nat_le (length name) 509
with_ending name named =
    let printable = (both_pass (nat_le 1 (length name) && nat_le (length name) 512) (list_all is_printable name) named).1 in
    ap (λ n. nat_le 1 n && nat_le n 512 && list_all is_printable (name ++ codes ".vb")) (length-append name (codes ".vb"))
    ∙ ap (λ all. nat_le 1 (length name + 3) && nat_le (length name + 3) 512 && all) (list_all-append is_printable name (codes ".vb") ∙ ap (λ all. all && true) printable)
    ∙ ap (λ low. low && nat_le (length name + 3) 512 && true) (le-leb 1 (length name + 3) (omega arith))
    ∙ ap (λ b. b && true) (has_room (length name))
    ∙ and-true (nat_le (length name) 509)

pub with_support : (N : Project) → list_all is_file (written_modules N) ≡ (list_all is_file N.modules && is_file N.support)
with_support N = list_all-append is_file N.modules (N.support ∷ []) ∙ ap (λ last. list_all is_file N.modules && last) (and-true (is_file N.support))
