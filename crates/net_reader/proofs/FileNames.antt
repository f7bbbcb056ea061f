-- The names of files, and the modules that they are named for.
use Rattle.std.proofs.Common.{◌≡◌, ℕ, ◌≤◌, nat_le, true, false, cond, ◌&&◌, List, [], ◌∷◌, ◌++◌, length, codes, length-append, arith, refl, sym, ap, subst, ◌∙◌, Option, Some}
use Rattle.std.specs.Prelude.{option_map, is_none, unwrap_or}
use Rattle.std.specs.Cmp.Lexicographic.{bytes_decides}
use Rattle.std.specs.List.{list_all}
use Rattle.std.proofs.lemmas.Bool.{leb-true, le-leb}
use Rattle.std.proofs.lemmas.List.Folds.{list_all-append}
use Rattle.up_base.specs.Names.{is_name, is_printable}
use Rattle.net_tree.specs.Spelling.{is_identifier, is_same_text}
use Rattle.net_tree.specs.Text.{file_name}
use Rattle.net_tree.specs.Tree.{Module}
use Rattle.net_exprs.specs.Fitting.{fits_name}
use Rattle.net_exprs.proofs.Words.{both_true, by_test, never}
use Rattle.net_reader.specs.ProjectReader.{base_name, checked_name, module_name}
use Rattle.net_reader.proofs.TakenLines.{if_some, mapped}
use Rattle.net_reader.proofs.Tests.{and_true}

longer : (c : ℕ) (cs : List ℕ) → is_same_text (c ∷ cs ++ codes ".vb") (codes ".vb") ≡ false
longer c cs =
    by_test (is_same_text (c ∷ cs ++ codes ".vb") (codes ".vb")) (λ b. is_same_text (c ∷ cs ++ codes ".vb") (codes ".vb") ≡ b → b ≡ false)
    (λ t h. absurd (omega (arith, ap length ((bytes_decides (c ∷ cs ++ codes ".vb") (codes ".vb")).0 h), length-append cs (codes ".vb")))) (λ f h. refl) refl

pub base_of : (name : List ℕ) → base_name (name ++ codes ".vb") ≡ Some name
base_of [] = refl
base_of (c ∷ cs) =
    ap (λ b. cond b (Some []) (option_map (λ name. c ∷ name) (base_name (cs ++ codes ".vb")))) (longer c cs) ∙ ap (option_map (λ name. c ∷ name)) (base_of cs)

pub base_is : (file name : List ℕ) → base_name file ≡ Some name → file ≡ name ++ codes ".vb"
base_is [] name h = absurd (cc h)
base_is (c ∷ cs) name h =
    by_test (is_same_text (c ∷ cs) (codes ".vb")) (λ b. is_same_text (c ∷ cs) (codes ".vb") ≡ b → cond b (Some []) (option_map (λ name. c ∷ name) (base_name cs)) ≡ Some name → c ∷ cs ≡ name ++ codes ".vb")
    (λ t is k. (bytes_decides (c ∷ cs) (codes ".vb")).0 is ∙ ap (λ (o : Option (List ℕ)). unwrap_or o [] ++ codes ".vb") k)
    (λ f is k.
    let found = mapped (λ name. c ∷ name) (base_name cs) name k in
    ap (λ more. c ∷ more) (base_is cs found.item found.is) ∙ ap (λ (n : List ℕ). n ++ codes ".vb") found.gives)
    refl h

-- what a file is named for
pub record IsNamed (file name : List ℕ) : Type 0 where
  pub is : file ≡ name ++ codes ".vb"
  pub identifier : is_identifier name ≡ true
  pub named : is_name file ≡ true

pub named_for : (file name : List ℕ) → module_name file ≡ Some name → IsNamed file name
named_for file name h = go (base_name file) refl h
  where
    go : (o : Option (List ℕ)) → base_name file ≡ o → checked_name file o ≡ Some name → IsNamed file name
    go Option.None is k = absurd (cc k)
    go (Some base) is k =
        let found = if_some (is_identifier base && is_name file) base name k in
        let both = both_true (is_identifier base) (is_name file) found.0 in
        record { is = base_is file base is ∙ ap (λ (n : List ℕ). n ++ codes ".vb") found.1; identifier = subst (λ n. is_identifier n ≡ true) found.1 both.0; named = both.1 }

some_length : (name : List ℕ) → is_identifier name ≡ true → 1 ≤ length name
some_length [] h = never h
some_length (c ∷ cs) h = omega arith

-- and the name can be held
pub fine_name : (file name : List ℕ) → IsNamed file name → fits_name name ≡ true
fine_name file name named =
    let same : is_name (name ++ codes ".vb") ≡ true = subst (λ f. is_name f ≡ true) named.is named.named in
    let both = both_true (nat_le 1 (length (name ++ codes ".vb")) && nat_le (length (name ++ codes ".vb")) 512) (list_all is_printable (name ++ codes ".vb")) same in
    let lengths = both_true (nat_le 1 (length (name ++ codes ".vb"))) (nat_le (length (name ++ codes ".vb")) 512) both.0 in
    let short = leb-true (length (name ++ codes ".vb")) 512 lengths.1 in
    and_true (nat_le 1 (length name) && nat_le (length name) 512) (list_all is_printable name)
    (and_true (nat_le 1 (length name)) (nat_le (length name) 512) (le-leb 1 (length name) (some_length name named.identifier)) (le-leb (length name) 512 (omega (arith, short, length-append name (codes ".vb")))))
    (both_true (list_all is_printable name) (list_all is_printable (codes ".vb")) (sym (list_all-append is_printable name (codes ".vb")) ∙ both.1)).0

pub is_named_for : (m : Module) → is_identifier m.name ≡ true → is_name (file_name m) ≡ true → module_name (file_name m) ≡ Some m.name
is_named_for m h k =
    ap (checked_name (file_name m)) (base_of m.name) ∙ ap (λ b. cond b (Some m.name) Option.None) (and_true (is_identifier m.name) (is_name (file_name m)) h k)

-- no module's file has the name of the response file
pub no_response : {A : Type 0} (m : Module) → file_name m ≡ codes "upgrade.rsp" → A
no_response m h = never (sym (ap is_none (base_of m.name)) ∙ ap (λ file. is_none (base_name file)) h)

pub same_names : (m n : Module) → file_name m ≡ file_name n → m.name ≡ n.name
same_names m n h = ap (λ (o : Option (List ℕ)). unwrap_or o []) (sym (base_of m.name) ∙ ap base_name h ∙ base_of n.name)

pub other_name : (m : Module) → is_same_text (file_name m) (codes "upgrade.rsp") ≡ false
other_name m =
    by_test (is_same_text (file_name m) (codes "upgrade.rsp")) (λ b. is_same_text (file_name m) (codes "upgrade.rsp") ≡ b → b ≡ false)
    (λ t h. no_response m ((bytes_decides (file_name m) (codes "upgrade.rsp")).0 h)) (λ f h. refl) refl
