-- The files of a project of the grammar can be named.
use Rattle.std.proofs.Common.{◌≡◌, ℕ, suc, ◌+◌, ◌≤◌, Bool, true, false, ◌&&◌, codes, List, [], ◌∷◌, ◌++◌, map, length, length-append, Option, refl, ap, ◌∙◌, arith}
use Rattle.std.specs.Prelude.{nat_le}
use Rattle.std.specs.List.{list_all}
use Rattle.std.proofs.lemmas.Bool.Decides.{nat_tests}
use Rattle.std.proofs.lemmas.List.Folds.{list_all-append}
use Rattle.up_base.specs.Names.{is_name, is_printable}
use Rattle.vb_tree.specs.declared.project.Entry.{Entry}
use Rattle.vb_tree.specs.ProjectLines.{is_letter, is_name_unit, is_module_name, is_named}
use Rattle.vb_tree.specs.Tree.{Project}
use Rattle.net_tree.specs.Text.{files_of, file_name, module_text, response_text, written_modules}
use Rattle.net_tree.specs.Tree as net
use Rattle.project_file.proofs.ModuleNames.{module_is_name}
use Rattle.project_loader.specs.Held.{IsOfGrammar}
use Rattle.wizard_cli.specs.Headline.{in_folder}
use Rattle.wizard_cli.proofs.Apart.{NamedAs}
use Rattle.wizard_cli.proofs.Grammar.{entries_named}

both_true : (a b : Bool) → a && b ≡ true → (a ≡ true) × (b ≡ true)
both_true true b e = (refl, e)
both_true false b e = absurd (cc e)

and_true : (a b : Bool) → a ≡ true → b ≡ true → a && b ≡ true
and_true true b h k = k
and_true false b h k = absurd (cc h)

-- ---- names of files

-- a list of printable characters that isn't long
abbrev IsShort : List ℕ → Type 0
IsShort name = (length name ≤ 255) × (list_all is_printable name ≡ true)

short_module : (name : List ℕ) → is_module_name name ≡ true → IsShort name
short_module [] h = absurd (cc h)
short_module (c ∷ cs) h =
    let p = both_true (is_letter c && nat_le (length cs) 254) (list_all is_name_unit cs) h in
    let q = both_true (is_letter c) (nat_le (length cs) 254) p.0 in
    let name = both_true (nat_le 1 (length (c ∷ cs)) && nat_le (length (c ∷ cs)) 512) (list_all is_printable (c ∷ cs)) (module_is_name (c ∷ cs) h) in
    (fits (length cs) q.1, name.1)
  where
    fits : (n : ℕ) → nat_le n 254 ≡ true → suc n ≤ 255
    fits n e = grind (arith, nat_tests)

in_limits : (n : ℕ) → 1 ≤ n → n ≤ 512 → (nat_le 1 n && nat_le n 512) ≡ true
in_limits n a b = grind (arith, nat_tests)

-- with a front and an end such a list is a name
named_between : (front name end : List ℕ) → 1 ≤ length end → length front + length end ≤ 257 → list_all is_printable front ≡ true → list_all is_printable end ≡ true → IsShort name → is_name (front ++ (name ++ end)) ≡ true
named_between front name end some few f e s =
    let inner = length-append name end in
    let all = length-append front (name ++ end) in
    let back = list_all-append is_printable name end ∙ and_true (list_all is_printable name) (list_all is_printable end) s.1 e in
    and_true (nat_le 1 (length (front ++ (name ++ end))) && nat_le (length (front ++ (name ++ end))) 512) (list_all is_printable (front ++ (name ++ end)))
    (in_limits (length (front ++ (name ++ end))) (omega (arith, inner, all, some)) (omega (arith, inner, all, few, s.0)))
    (list_all-append is_printable front (name ++ end) ∙ and_true (list_all is_printable front) (list_all is_printable (name ++ end)) f back)

file_named : (name : List ℕ) → IsShort name → is_name (name ++ codes ".vb") ≡ true
file_named name s = named_between [] name (codes ".vb") (omega arith) (omega arith) refl refl s

folder_named : (name : List ℕ) → IsShort name → is_name (in_folder (name ++ codes ".vb")) ≡ true
folder_named name s = named_between (codes "upgraded/") name (codes ".vb") (omega arith) (omega arith) refl refl s

entry_short : (e : Entry) → is_named e ≡ true → IsShort e.name
entry_short e h = short_module e.name (both_true (is_module_name e.name) (is_name e.file) h).0

-- ---- files in the folder

abbrev pub has_folder_name : List ℕ × List ℕ → Bool
has_folder_name f = is_name (in_folder f.0)

names_in_folder : (said : Option (List ℕ)) (es : List Entry) (ns : List net.Module) → list_all is_named es ≡ true → NamedAs es ns → list_all has_folder_name (map (λ (m : net.Module). (file_name m, module_text said m)) ns) ≡ true
names_in_folder said [] [] h k = refl
names_in_folder said [] (n ∷ ns) h k = absurd k
names_in_folder said (e ∷ es) [] h k = absurd k
names_in_folder said (e ∷ es) (n ∷ ns) h k =
    let both = both_true (is_named e) (list_all is_named es) h in
    and_true (is_name (in_folder (file_name n))) (list_all has_folder_name (map (λ (m : net.Module). (file_name m, module_text said m)) ns))
    (ap (λ s. is_name (in_folder (s ++ codes ".vb"))) k.0 ∙ folder_named e.name (entry_short e both.0)) (names_in_folder said es ns both.1 k.1)

map_append : {A B : Type 0} (f : A → B) (xs ys : List A) → map f (xs ++ ys) ≡ map f xs ++ map f ys
map_append f [] ys = refl
map_append f (x ∷ xs) ys = ap (λ zs. f x ∷ zs) (map_append f xs ys)

pub folder_names : (P : Project) (N : net.Project) → IsOfGrammar P → N.support.name ≡ codes "UpgradeSupport" → NamedAs P.file.entries N.modules
    → list_all has_folder_name (files_of N) ≡ true
folder_names P N g support named =
    let file : net.Module → List ℕ × List ℕ = λ m. (file_name m, module_text N.note m) in
    let modules = names_in_folder N.note P.file.entries N.modules (entries_named P g) named in
    let of_support = ap (λ s. is_name (in_folder (s ++ codes ".vb"))) support in
    let last : list_all has_folder_name (file N.support ∷ []) ≡ true = and_true (has_folder_name (file N.support)) true of_support refl in
    let written : list_all has_folder_name (map file (written_modules N)) ≡ true =
    ap (list_all has_folder_name) (map_append file N.modules (N.support ∷ [])) ∙ list_all-append has_folder_name (map file N.modules) (file N.support ∷ [])
    ∙ and_true (list_all has_folder_name (map file N.modules)) (list_all has_folder_name (file N.support ∷ [])) modules last in
    list_all-append has_folder_name (map file (written_modules N)) ((codes "upgrade.rsp", response_text N) ∷ []) ∙ and_true (list_all has_folder_name (map file (written_modules N))) true written refl

-- the response file is one
pub some_files : (N : net.Project) → 1 ≤ length (files_of N)
some_files N = let size = length-append {A = List ℕ × List ℕ} (map (λ (m : net.Module). (file_name m, module_text N.note m)) (written_modules N)) ((codes "upgrade.rsp", response_text N) ∷ []) in omega (arith, size)
