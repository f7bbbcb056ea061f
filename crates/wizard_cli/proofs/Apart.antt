-- The files that are written have names of their own, so all of them stand after they were put.
use Rattle.std.proofs.Common.{◌≡◌, ◌≢◌, ℕ, suc, ◌+◌, ◌-◌, Bool, true, false, not, ◌&&◌, ◌||◌, codes, List, [], ◌∷◌, ◌++◌, map, length, drop, append_assoc, Option, Some, refl, sym, ap, ◌∙◌, subst, arith}
use Rattle.std.specs.Prelude.{insert, nat_eq}
use Rattle.std.specs.List.{list_all, list_any}
use Rattle.std.specs.Cmp.Lexicographic.{pointwise}
use Rattle.std.proofs.lemmas.Bool.Decides.{nat_tests}
use Rattle.std.proofs.lemmas.List.{append_cancel_right}
use Rattle.std.proofs.lemmas.List.Elements.{All-cons, All-nil}
use Rattle.up_base.specs.Names.{is_same_name, lower_case}
use Rattle.up_base.specs.Outside.{Files}
use Rattle.vb_tree.specs.declared.project.Entry.{Entry}
use Rattle.vb_tree.specs.ProjectLines.{is_new, is_taken, is_reserved, with_earlier, are_apart}
use Rattle.net_tree.specs.Text.{files_of, file_name, module_text, response_text}
use Rattle.net_tree.specs.Tree as net
use Rattle.wizard_cli.specs.Headline.{moved, in_folder, report_file, put_order, PutAll, HoldsAll}

abbrev File : Type 0
File = List ℕ × List ℕ

abbrev pub NotAmong : List ℕ → List File → Type 0
NotAmong name [] = Unit {0}
NotAmong name (f ∷ files) = (name ≢ f.0) × NotAmong name files

-- no name of a list of files comes twice
abbrev pub Apart : List File → Type 0
Apart [] = Unit {0}
Apart (f ∷ files) = NotAmong f.0 files × Apart files

-- what was put stays where all later files have other names
stays : (files : List File) (name : List ℕ) (before after : Files) → NotAmong name files → PutAll files before after → after name ≡ before name
stays [] name before after others put = put name
stays (f ∷ files) name before after others put = stays files name put.0 after others.1 put.3 ∙ put.2 name others.0

-- each of these files stands
abbrev pub Stands : List File → Files → Type 0
Stands [] after = Unit {0}
Stands (f ∷ files) after = (after f.0 ≡ Some f.1) × Stands files after

-- files with names of their own all stand after they were put
pub all_stand : (files : List File) (before after : Files) → Apart files → PutAll files before after → Stands files after
all_stand [] before after apart put = tt
all_stand (f ∷ files) before after apart put =
    (stays files f.0 put.0 after apart.0 put.3 ∙ put.1, all_stand files put.0 after apart.1 put.3)

-- ---- one file before the last

before_last : {A : Type 0} (xs : List A) (y f : A) → insert (xs ++ y ∷ []) (length (xs ++ y ∷ []) - 1) f ≡ xs ++ f ∷ y ∷ []
before_last xs y f = ap (λ n. insert (xs ++ y ∷ []) n f) (count xs) ∙ at_end xs
  where
    count : (xs : List _) → length (xs ++ y ∷ []) - 1 ≡ length xs
    count xs = let all = size xs in omega (arith, all)
      where
        size : (xs : List _) → length (xs ++ y ∷ []) ≡ length xs + 1
        size [] = refl
        size (x ∷ xs) = let more = size xs in omega (arith, more)

    at_end : (xs : List _) → insert (xs ++ y ∷ []) (length xs) f ≡ xs ++ f ∷ y ∷ []
    at_end [] = refl
    at_end (x ∷ xs) = ap (λ zs. x ∷ zs) (at_end xs)

-- ---- names

in_one_folder : (a b : List ℕ) → in_folder a ≡ in_folder b → a ≡ b
in_one_folder a b e = ap (drop 9) e

abbrev last_or : ℕ → List ℕ → ℕ
last_or d [] = d
last_or d (x ∷ xs) = last_or x xs

last_of : (d : ℕ) (xs : List ℕ) → last_or d (xs ++ codes ".vb") ≡ 98
last_of d [] = refl
last_of d (x ∷ xs) = last_of x xs

-- the file of a module is neither the report nor the response file
no_report : (name : List ℕ) → in_folder (name ++ codes ".vb") ≢ in_folder (codes "Upgrade.txt")
no_report name e = different (sym (last_of 0 name) ∙ ap (last_or 0) (in_one_folder (name ++ codes ".vb") (codes "Upgrade.txt") e))
  where
    different : ◌≡◌ {A = ℕ} 98 116 → ⊥
    different h = omega (arith, h)

no_response : (name : List ℕ) → in_folder (name ++ codes ".vb") ≢ in_folder (codes "upgrade.rsp")
no_response name e = different (sym (last_of 0 name) ∙ ap (last_or 0) (in_one_folder (name ++ codes ".vb") (codes "upgrade.rsp") e))
  where
    different : ◌≡◌ {A = ℕ} 98 112 → ⊥
    different h = omega (arith, h)

report_no_response : in_folder (codes "Upgrade.txt") ≢ in_folder (codes "upgrade.rsp")
report_no_response e = different (ap (last_or 0) e)
  where
    different : ◌≡◌ {A = ℕ} 116 112 → ⊥
    different h = omega (arith, h)

same_number : (n : ℕ) → nat_eq n n ≡ true
same_number n = grind (arith, nat_tests)

same_self : (xs : List ℕ) → pointwise nat_eq xs xs ≡ true
same_self [] = refl
same_self (x ∷ xs) = ap (λ b. b && pointwise nat_eq xs xs) (same_number x) ∙ same_self xs

-- names that aren't one differ
names_differ : (a b : List ℕ) → is_same_name a b ≡ false → a ≢ b
names_differ a b e same = cc (sym (same_self (lower_case b)) ∙ sym (ap (λ x. is_same_name x b) same) ∙ e)

files_differ : (a b : List ℕ) → is_same_name a b ≡ false → in_folder (a ++ codes ".vb") ≢ in_folder (b ++ codes ".vb")
files_differ a b e same = names_differ a b e (append_cancel_right a b (codes ".vb") (in_one_folder (a ++ codes ".vb") (b ++ codes ".vb") same))

differ_back : (a b : List ℕ) → is_same_name a b ≡ false → in_folder (b ++ codes ".vb") ≢ in_folder (a ++ codes ".vb")
differ_back a b e same = files_differ a b e (sym same)

-- ---- entries

or_false : (a b : Bool) → a || b ≡ false → (a ≡ false) × (b ≡ false)
or_false true b e = absurd (cc e)
or_false false b e = (refl, e)

not_true : (b : Bool) → not b ≡ true → b ≡ false
not_true true e = absurd (cc e)
not_true false e = refl

both_true : (a b : Bool) → a && b ≡ true → (a ≡ true) × (b ≡ true)
both_true true b e = (refl, e)
both_true false b e = absurd (cc e)

-- a name is none of these, without case
abbrev NotNamed : List ℕ → List Entry → Type 0
NotNamed name [] = Unit {0}
NotNamed name (e ∷ es) = (is_same_name name e.name ≡ false) × NotNamed name es

-- each entry has a name of its own, and none that is reserved
abbrev EachNew : List Entry → List Entry → Type 0
EachNew earlier [] = Unit {0}
EachNew earlier (e ∷ es) = (is_reserved e.name ≡ false) × NotNamed e.name earlier × EachNew (earlier ++ e ∷ []) es

none_named : (name : List ℕ) (es : List Entry) → list_any (λ e. is_same_name name e.name) es ≡ false → NotNamed name es
none_named name [] h = tt
none_named name (e ∷ es) h = let both = or_false (is_same_name name e.name) (list_any (λ e. is_same_name name e.name) es) h in (both.0, none_named name es both.1)

each_new : (earlier es : List Entry) → list_all is_new (with_earlier earlier es) ≡ true → EachNew earlier es
each_new earlier [] h = tt
each_new earlier (e ∷ es) h =
    let both = both_true (is_new (earlier, e)) (list_all is_new (with_earlier (earlier ++ e ∷ []) es)) h in
    let new = or_false (is_reserved e.name) (list_any (λ x. is_same_name e.name x.name) earlier) (not_true (is_taken earlier e.name) both.0) in
    (new.0, none_named e.name earlier new.1, each_new (earlier ++ e ∷ []) es both.1)

named_append : (name : List ℕ) (xs ys : List Entry) → NotNamed name (xs ++ ys) → NotNamed name xs × NotNamed name ys
named_append name [] ys h = (tt, h)
named_append name (x ∷ xs) ys h = let more = named_append name xs ys h.1 in ((h.0, more.0), more.1)

-- none of these entries has a name
abbrev OthersThan : List ℕ → List Entry → Type 0
OthersThan name [] = Unit {0}
OthersThan name (e ∷ es) = (is_same_name e.name name ≡ false) × OthersThan name es

-- no entry behind others has the name of one of them
later_differ : (e : Entry) (front back es : List Entry) → EachNew (front ++ e ∷ back) es → OthersThan e.name es
later_differ e front back [] h = tt
later_differ e front back (x ∷ xs) h =
    let named = named_append x.name front (e ∷ back) h.1 in
    (named.1.0, later_differ e front (back ++ x ∷ []) xs (subst (λ es. EachNew es xs) (append_assoc front (e ∷ back) (x ∷ [])) h.2))

-- ---- files of modules

-- modules have the names of entries
abbrev pub NamedAs : List Entry → List net.Module → Type 0
NamedAs [] [] = Unit {0}
NamedAs [] (n ∷ ns) = ⊥
NamedAs (e ∷ es) [] = ⊥
NamedAs (e ∷ es) (n ∷ ns) = (n.name ≡ e.name) × NamedAs es ns

abbrev module_file : Option (List ℕ) → net.Module → File
module_file note n = (file_name n, module_text note n)

-- what is put behind the files of the modules
abbrev last_files : Option (List ℕ) → net.Module → (report response : List ℕ) → List File
last_files note support report response = moved (module_file note support) ∷ report_file report ∷ moved (codes "upgrade.rsp", response) ∷ []

module _ (note : Option (List ℕ)) (support : net.Module) (report response : List ℕ) (is_support : support.name ≡ codes "UpgradeSupport") where
  no_support : (name : List ℕ) → is_reserved name ≡ false → in_folder (name ++ codes ".vb") ≢ in_folder (support.name ++ codes ".vb")
  no_support name e =
      let first = or_false (is_same_name name (codes "UpgradeSupport") || is_same_name name (codes "System")) (is_same_name name (codes "Microsoft")) e in
      let own = or_false (is_same_name name (codes "UpgradeSupport")) (is_same_name name (codes "System")) first.0 in
      subst (λ s. in_folder (name ++ codes ".vb") ≢ in_folder (s ++ codes ".vb")) (sym is_support) (files_differ name (codes "UpgradeSupport") own.0)

  none_last : (name : List ℕ) → is_reserved name ≡ false → NotAmong (in_folder (name ++ codes ".vb")) (last_files note support report response)
  none_last name e = (no_support name e, (no_report name, (no_response name, tt)))

  none_of_files : (name : List ℕ) (es : List Entry) (ns : List net.Module) → OthersThan name es → NamedAs es ns → NotAmong (in_folder (name ++ codes ".vb")) (last_files note support report response) → NotAmong (in_folder (name ++ codes ".vb")) (map moved (map (module_file note) ns) ++ last_files note support report response)
  none_of_files name [] [] o h l = l
  none_of_files name [] (n ∷ ns) o h l = absurd h
  none_of_files name (e ∷ es) [] o h l = absurd h
  none_of_files name (e ∷ es) (n ∷ ns) o h l =
      (subst (λ s. in_folder (name ++ codes ".vb") ≢ in_folder (s ++ codes ".vb")) (sym h.0) (differ_back e.name name o.0), none_of_files name es ns o.1 h.1 l)

  last_apart : Apart (last_files note support report response)
  last_apart = (
    (
      subst (λ s. in_folder (s ++ codes ".vb") ≢ in_folder (codes "Upgrade.txt")) (sym is_support) (no_report (codes "UpgradeSupport")),
      (subst (λ s. in_folder (s ++ codes ".vb") ≢ in_folder (codes "upgrade.rsp")) (sym is_support) (no_response (codes "UpgradeSupport")), tt),
    ),
    ((report_no_response, tt), (tt, tt)),
  )

  files_apart : (earlier es : List Entry) (ns : List net.Module) → EachNew earlier es → NamedAs es ns → Apart (map moved (map (module_file note) ns) ++ last_files note support report response)
  files_apart earlier [] [] h k = last_apart
  files_apart earlier [] (n ∷ ns) h k = absurd k
  files_apart earlier (e ∷ es) [] h k = absurd k
  files_apart earlier (e ∷ es) (n ∷ ns) h k = (
    subst (λ s. NotAmong (in_folder (s ++ codes ".vb")) (map moved (map (module_file note) ns) ++ last_files note support report response)) (sym k.0) (none_of_files e.name es ns (later_differ e earlier [] es h.2) k.1 (none_last e.name h.0)),
    files_apart (earlier ++ e ∷ []) es ns h.2 k.1,
  )

-- ---- all files of a project

map_append : {A B : Type 0} (f : A → B) (xs ys : List A) → map f (xs ++ ys) ≡ map f xs ++ map f ys
map_append f [] ys = refl
map_append f (x ∷ xs) ys = ap (λ zs. f x ∷ zs) (map_append f xs ys)

length_map : {A B : Type 0} (f : A → B) (xs : List A) → length (map f xs) ≡ length xs
length_map f [] = refl
length_map f (x ∷ xs) = ap suc (length_map f xs)

-- the files that stand for N, in the order in which they are put with the report
files_put : (N : net.Project) (report : List ℕ) → put_order N report ≡ map moved (map (module_file N.note) N.modules) ++ last_files N.note N.support report (response_text N)
files_put N report =
    ap (λ n. insert (map moved (files_of N)) (n - 1) (report_file report)) (sym (length_map moved (files_of N)))
    ∙ ap (λ fs. insert fs (length fs - 1) (report_file report)) (map_append moved (map file (N.modules ++ N.support ∷ [])) (last ∷ []))
    ∙ before_last (map moved (map file (N.modules ++ N.support ∷ []))) (moved last) (report_file report)
    ∙ ap (λ fs. fs ++ report_file report ∷ moved last ∷ []) (ap (map moved) (map_append file N.modules (N.support ∷ [])) ∙ map_append moved (map file N.modules) (file N.support ∷ []))
    ∙ append_assoc (map moved (map file N.modules)) (moved (file N.support) ∷ []) (report_file report ∷ moved last ∷ [])
  where
    file : net.Module → File
    file m = (file_name m, module_text N.note m)

    last : File
    last = (codes "upgrade.rsp", response_text N)

pub put_apart : (N : net.Project) (report : List ℕ) (es : List Entry) → N.support.name ≡ codes "UpgradeSupport" → are_apart es ≡ true → NamedAs es N.modules → Apart (put_order N report)
put_apart N report es is_support apart named =
    subst Apart (sym (files_put N report)) (files_apart N.note N.support report (response_text N) is_support [] es N.modules (each_new [] es apart) named)

stands_parts : (xs ys : List File) (after : Files) → Stands (xs ++ ys) after → Stands xs after × Stands ys after
stands_parts [] ys after h = (tt, h)
stands_parts (x ∷ xs) ys after h = let more = stands_parts xs ys after h.1 in ((h.0, more.0), more.1)

holds_more : (xs : List File) (y z : File) (after : Files) → Stands (map moved xs) after → after (in_folder y.0) ≡ Some y.1 → after (in_folder z.0) ≡ Some z.1 → HoldsAll ((xs ++ y ∷ []) ++ z ∷ []) after
holds_more [] y z after h k l =
    let P : File → Type 0 = λ f. after (in_folder f.0) ≡ Some f.1 in
    All-cons P y (z ∷ []) k (All-cons P z [] l (All-nil P))
holds_more (x ∷ xs) y z after h k l =
    let P : File → Type 0 = λ f. after (in_folder f.0) ≡ Some f.1 in
    All-cons P x ((xs ++ y ∷ []) ++ z ∷ []) h.0 (holds_more xs y z after h.1 k l)

-- the files of a project, and the report, stand after all were put
pub put_stand : (N : net.Project) (report : List ℕ) (before after : Files) → Apart (put_order N report) → PutAll (put_order N report) before after
    → HoldsAll (files_of N) after × (after (in_folder (codes "Upgrade.txt")) ≡ Some report)
put_stand N report before after apart put =
    let stand = subst (λ fs. Stands fs after) (files_put N report) (all_stand (put_order N report) before after apart put) in
    let parts = stands_parts (map moved (map (module_file N.note) N.modules)) (last_files N.note N.support report (response_text N)) after stand in (
      subst (λ fs. HoldsAll (fs ++ (codes "upgrade.rsp", response_text N) ∷ []) after)
          (sym (map_append (module_file N.note) N.modules (N.support ∷ [])))
          (holds_more (map (module_file N.note) N.modules) (module_file N.note N.support) (codes "upgrade.rsp", response_text N) after parts.0 parts.1.0 parts.1.1.1.0),
      parts.1.1.0,
    )
