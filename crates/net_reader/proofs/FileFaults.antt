-- Where the files of a project are stuck is the first fault, and what is read whole stands.
use Rattle.std.proofs.Common.{◌≡◌, ℕ, zero, suc, ◌≤◌, ◌<◌, ◌-◌, Bool, true, false, cond, ◌&&◌, nat_le, List, [], ◌∷◌, ◌++◌, length, take, drop, codes, append_assoc, append-nil, length-append, arith, refl, sym, ap, subst, ◌∙◌, Option, Some}
use Rattle.std.specs.Prelude.{is_none, is_some, slice_get}
use Rattle.std.specs.List.{flat_map, list_all}
use Rattle.std.specs.Cmp.Lexicographic.{bytes_decides}
use Rattle.std.proofs.lemmas.List.{length-map}
use Rattle.std.proofs.lemmas.Option.{slice_get_past}
use Rattle.up_base.specs.Names.{is_name}
use Rattle.net_tree.specs.Spelling.{at_depth, is_identifier, is_same_text}
use Rattle.net_tree.specs.Text.{NetText, file_name, files_of, is_note, is_support, main_text, module_text, response_text, target_text, written_modules}
use Rattle.net_tree.specs.Tree.{Module, Project}
use Rattle.net_exprs.proofs.Words.{both_true, by_test, never}
use Rattle.net_reader.specs.Fits.{fits_main, fits_module}
use Rattle.net_reader.specs.Laws.{IsFineNote, IsModuleOf, IsNoteKnown, ModuleBegins, ModuleFaultsAreFirst, ModulesAreRead, ReadModulesStand}
use Rattle.net_reader.specs.ModuleReader.{NotedModule, Reading, complete, module_in, stuck}
use Rattle.net_reader.specs.Places.{BeginBefore, BeginUpTo, BeginsAs, IsFileUpTo, IsFirstFault, IsProjectUpTo, IsReadable}
use Rattle.net_reader.specs.ProjectReader.{Before, Outcome, behind_module, faulty, finished, listed, module_by, module_name, modules_before, named_by, none_before, note_before, project_in, read_from, response_by, response_in, whole}
use Rattle.net_reader.proofs.FileCuts.{begins_at_all}
use Rattle.net_reader.proofs.FileLists.{drop_more, first_of, is_within, next_is, take_all, take_less, take_more}
use Rattle.net_reader.proofs.FileNames.{IsNamed, fine_name, is_named_for, named_for, no_response, same_names}
use Rattle.net_reader.proofs.ProjectFronts.{AreFine, File, FrontIs, IsFine, IsNoteOf, first_fine, front_is, front_next, front_taken, module_files, more_fine, none_fine}
use Rattle.net_reader.proofs.Responses.{response_faults, responses_stand}
use Rattle.net_reader.proofs.ResponsesRead.{IsMain, response_file, response_of_project}
use Rattle.net_reader.proofs.Tests.{and_true}

-- ---- projects of given modules

abbrev project_of : Option (List ℕ) → List Module → Module → Option (List ℕ) → Project
project_of head ms support main = record { library = is_none main; main = main; note = head; modules = ms; support = support }

readable : (head : Option (List ℕ)) (ms : List Module) (support : Module) (main : Option (List ℕ)) → is_note head ≡ true → AreFine (ms ++ support ∷ []) → is_support support ≡ true → IsMain main → IsReadable (project_of head ms support main)
readable head ms support main h fine s is = record {
  writable = record { note = h; main = is.writable; target = refl; modules = fine.writable; support = s; file_names = fine.named };
  fits = and_true (fits_main main) (list_all fits_module (ms ++ support ∷ [])) is.fits fine.fits;
}

abbrev support_alone : Module
support_alone = record { name = codes "UpgradeSupport"; class = false; members = [] }

support_fine : IsFine support_alone
support_fine = record { writable = refl; fits = refl; named = refl }

abbrev library_of : Option (List ℕ) → List Module → Project
library_of head ms = project_of head ms support_alone Option.None

readable_library : (head : Option (List ℕ)) (ms : List Module) → is_note head ≡ true → AreFine ms → IsReadable (library_of head ms)
readable_library head ms h fine = readable head ms support_alone Option.None h (more_fine ms support_alone fine support_fine) refl (record { writable = refl; fits = refl })

-- the modules of a project that can be read back
modules_fine : (N : Project) → IsReadable N → AreFine (written_modules N)
modules_fine N r = record { writable = r.writable.modules; fits = (both_true (fits_main N.main) (list_all fits_module (written_modules N)) r.fits).1; named = r.writable.file_names }

main_fine : (N : Project) → IsReadable N → IsMain N.main
main_fine N r = record { writable = r.writable.main; fits = (both_true (fits_main N.main) (list_all fits_module (written_modules N)) r.fits).0 }

-- ---- where the next file stands

-- a comment is known where there is a module
abbrev IsStarted : Option (Option (List ℕ)) → List Module → Type 0
IsStarted Option.None [] = Unit {0}
IsStarted Option.None (m ∷ ms) = ⊥
IsStarted (Some head) [] = ⊥
IsStarted (Some head) (m ∷ ms) = Unit {0}

-- where no module is the last, there is none
abbrev IsLast : Option Module → List Module → Type 0
IsLast Option.None ms = ms ≡ []
IsLast (Some m) ms = Unit {0}

abbrev known : Before → List Module
known b = modules_before b

abbrev head_of : Before → Option (List ℕ)
head_of b = note_before b.note

record At (files : List File) (k : ℕ) (b : Before) (rest : List File) : Type 0 where
  taken : take k files ≡ module_files (head_of b) (known b)
  left : drop k files ≡ rest
  count : k ≡ length (known b)
  note : IsFineNote b.note
  fine : AreFine (known b)
  started : IsStarted b.note (known b)
  last : IsLast b.last (known b)

at_start : (files : List File) → At files 0 none_before files
at_start files = record { taken = refl; left = refl; count = refl; note = tt; fine = none_fine; started = tt; last = refl }

fine_head : (o : Option (Option (List ℕ))) → IsFineNote o → is_note (note_before o) ≡ true
fine_head Option.None h = refl
fine_head (Some head) h = h

-- a project that begins so gives a place
begin_up_to : (files : List File) (k : ℕ) (b : Before) (rest : List File) (n : ℕ) → At files k b rest → (N : Project) → IsReadable N
    → take (length (known b)) (files_of N) ≡ module_files (head_of b) (known b) → IsFileUpTo (first_of rest) n (slice_get (files_of N) (length (known b))) → BeginUpTo files k n
begin_up_to files k b rest n at N r same up = (
  N,
  r,
  (
    ap (λ k. take k (files_of N)) at.count ∙ same ∙ sym at.taken,
    subst (λ (o : Option File). IsFileUpTo o n (slice_get (files_of N) k)) (sym (next_is k files ∙ ap first_of at.left))
        (subst (λ (k : ℕ). IsFileUpTo (first_of rest) n (slice_get (files_of N) k)) (sym at.count) up),
  ),
)

begin_before : (files : List File) (k : ℕ) (b : Before) (file : File) (rest : List File) → At files k b (file ∷ rest) → (N : Project) → IsReadable N
    → take (length (known b)) (files_of N) ≡ module_files (head_of b) (known b) → BeginBefore files k 0
begin_before files k b file rest at N r same = (N, r, ap (λ k. take k (files_of N)) at.count ∙ same ∙ sym at.taken, is_within k files file rest at.left)

-- the library of the modules so far, and of one more
library_front : (b : Before) → take (length (known b)) (files_of (library_of (head_of b) (known b))) ≡ module_files (head_of b) (known b)
library_front b = front_taken (head_of b) (known b) (support_alone ∷ []) ((codes "upgrade.rsp", response_text (library_of (head_of b) (known b))) ∷ [])

-- what a project that begins so has behind its front
abbrev Behind : Before → Project → Type 0
Behind b N = FrontIs (head_of b) N.note (known b) (written_modules N) (codes "upgrade.rsp", response_text N)

behind_front : ModulesAreRead → (files : List File) (k : ℕ) (b : Before) (rest : List File) (n : ℕ) → At files k b rest → (N : Project) → IsReadable N → IsProjectUpTo files k n N → Behind b N
behind_front read files k b rest n at N r up =
    front_is read (head_of b) N.note (known b) (written_modules N) (response_text N) (fine_head b.note at.note) r.writable.note at.fine (modules_fine N r)
    (ap (λ k. take k (files_of N)) (sym at.count) ∙ up.0 ∙ at.taken)

-- the file of a project at the place
file_there : (files : List File) (k : ℕ) (b : Before) (rest : List File) (n : ℕ) → At files k b rest → (N : Project) → IsProjectUpTo files k n N → (f : Behind b N)
    → IsFileUpTo (first_of rest) n (first_of (module_files N.note f.rest ++ (codes "upgrade.rsp", response_text N) ∷ []))
file_there files k b rest n at N up f =
    subst (λ (o : Option File). IsFileUpTo (first_of rest) n o) f.next
    (subst (λ (k : ℕ). IsFileUpTo (first_of rest) n (slice_get (files_of N) k)) at.count
    (subst (λ (o : Option File). IsFileUpTo o n (slice_get (files_of N) k)) (next_is k files ∙ ap first_of at.left) up.1))

-- what is known of the comment of a project that begins so
note_known : (o : Option (Option (List ℕ))) (ms : List Module) (own : Option (List ℕ)) → IsStarted o ms → IsNoteOf (note_before o) own ms → IsNoteKnown o own
note_known Option.None ms own s h = tt
note_known (Some head) [] own s h = absurd s
note_known (Some head) (m ∷ ms) own s h = h

middle_fine : (ms : List Module) (m : Module) (rest : List Module) → AreFine (ms ++ m ∷ rest) → IsFine m
middle_fine [] m rest h = (first_fine m rest h).0
middle_fine (x ∷ ms) m rest h = middle_fine ms m rest (first_fine x (ms ++ m ∷ rest) h).1

next_fine : (b : Before) (N : Project) (m : Module) (rest : List Module) → IsReadable N → written_modules N ≡ known b ++ m ∷ rest → IsFine m
next_fine b N m rest r same = middle_fine (known b) m rest (subst (λ ms. AreFine ms) same (modules_fine N r))

-- ---- no more files

some_text : (head : Option (List ℕ)) (m : Module) → module_text head m ≡ [] → ⊥
some_text head m h = cc h

some_target : (library : Bool) (m e t f : List ℕ) → at_depth 0 (target_text library) ++ m ++ e ++ t ++ f ≡ [] → ⊥
some_target true m e t f h = cc h
some_target false m e t f h = cc h

some_response : (N : Project) → response_text N ≡ [] → ⊥
some_response N h =
    some_target N.library (main_text N.main) (at_depth 0 (codes "/optionexplicit+")) (at_depth 0 (codes "/optionstrict-")) (flat_map (λ (m : Module). at_depth 0 (file_name m)) (written_modules N)) h

no_files_left : ModulesAreRead → (files : List File) (k : ℕ) (b : Before) → At files k b [] → IsFirstFault files k 1
no_files_left read files k b at = record {
  before = begin_up_to files k b [] 0 at (library_of (head_of b) (known b)) (readable_library (head_of b) (known b) (fine_head b.note at.note) at.fine) (library_front b)
      (subst (λ (o : Option File). IsFileUpTo Option.None 0 o) (sym (front_next (head_of b) (known b) (support_alone ∷ []) ((codes "upgrade.rsp", response_text (library_of (head_of b) (known b))) ∷ []))) (refl, refl));
  faulty = λ begin.
      let f = behind_front read files k b [] 1 at begin.0 begin.1 begin.2 in
      none_there begin.0 f.rest (file_there files k b [] 1 at begin.0 begin.2 f);
}
  where
    none_there : (N : Project) (rest : List Module) → IsFileUpTo Option.None 1 (first_of (module_files N.note rest ++ (codes "upgrade.rsp", response_text N) ∷ [])) → ⊥
    none_there N [] up = some_response N up.1
    none_there N (m ∷ rest) up = some_text N.note m up.1

-- ---- a file whose name fits no module

no_name : ModulesAreRead → (files : List File) (k : ℕ) (b : Before) (file : File) (rest : List File) → At files k b (file ∷ rest) → is_same_text file.0 (codes "upgrade.rsp") ≡ false → module_name file.0 ≡ Option.None → IsFirstFault files k 0
no_name read files k b file rest at other none = record {
  before = begin_before files k b file rest at (library_of (head_of b) (known b)) (readable_library (head_of b) (known b) (fine_head b.note at.note) at.fine) (library_front b);
  faulty = λ begin.
      let f = behind_front read files k b (file ∷ rest) 0 at begin.0 begin.1 begin.2 in
      none_there begin.0 begin.1 f.rest f.same (file_there files k b (file ∷ rest) 0 at begin.0 begin.2 f);
}
  where
    none_there : (N : Project) → IsReadable N → (rest : List Module) → written_modules N ≡ known b ++ rest → IsFileUpTo (Some file) 0 (first_of (module_files N.note rest ++ (codes "upgrade.rsp", response_text N) ∷ [])) → ⊥
    none_there N r [] same up = never (sym other ∙ (bytes_decides file.0 (codes "upgrade.rsp")).1 up.0)
    none_there N r (m ∷ rest) same up =
        let fine = next_fine b N m rest r same in
        let identifier = (both_true (is_identifier m.name) _ fine.writable).0 in
        never (ap is_some (sym none ∙ ap module_name up.0 ∙ is_named_for m identifier fine.named))

-- ---- a file of a module

-- the files of the modules so far have the comment that is known
same_files : (o : Option (Option (List ℕ))) (ms : List Module) (own : Option (List ℕ)) → IsStarted o ms → IsNoteKnown o own → module_files (note_before o) ms ≡ module_files own ms
same_files Option.None [] own s h = refl
same_files Option.None (m ∷ ms) own s h = absurd s
same_files (Some head) ms own s h = ap (λ head. module_files head ms) h

-- a module that is named for a file, and can be read back
module_fine : (o : Option (Option (List ℕ))) (file name : List ℕ) (m : NotedModule) → IsNamed file name → IsModuleOf o name m → IsFine m.tree × (file ≡ file_name m.tree)
module_fine o file name m named is =
    let same : file ≡ file_name m.tree = named.is ∙ ap (λ (n : List ℕ). n ++ codes ".vb") (sym is.named) in
    (record { writable = is.writable; fits = is.fits; named = subst (λ f. is_name f ≡ true) same named.named }, same)

one_less : (n : ℕ) → suc n - 1 ≡ n
one_less n = omega arith

some_started : (head : Option (List ℕ)) (ms : List Module) (m : Module) → IsStarted (Some head) (ms ++ m ∷ [])
some_started head [] m = tt
some_started head (x ∷ ms) m = tt

files_append : (head : Option (List ℕ)) (ms : List Module) (m : Module) (file : File) → file.0 ≡ file_name m → file.1 ≡ module_text head m → module_files head ms ++ file ∷ [] ≡ module_files head (ms ++ m ∷ [])
files_append head [] m file h k = ap (λ (name : List ℕ). (name, file.1) ∷ []) h ∙ ap (λ (text : List ℕ). (file_name m, text) ∷ []) k
files_append head (x ∷ ms) m file h k = ap (λ files. (file_name x, module_text head x) ∷ files) (files_append head ms m file h k)

-- some project begins as a module that is named for the next file
module_begins : (files : List File) (k : ℕ) (b : Before) (file : File) (rest : List File) (name : List ℕ) (n : ℕ) → At files k b (file ∷ rest) → IsNamed file.0 name → ModuleBegins b.note name n file.1 → BeginUpTo files k n
module_begins files k b file rest name n at named begins =
    let m = begins.0 in
    let is = begins.1 in
    let fine = module_fine b.note file.0 name m named is in
    let N = library_of m.note (known b ++ m.tree ∷ []) in
    let last = (codes "upgrade.rsp", response_text N) ∷ [] in
    let again : module_files m.note ((known b ++ m.tree ∷ []) ++ support_alone ∷ []) ≡ module_files m.note (known b ++ m.tree ∷ support_alone ∷ []) = ap (module_files m.note) (append_assoc (known b) (m.tree ∷ []) (support_alone ∷ [])) in
    begin_up_to files k b (file ∷ rest) n at N
    (readable_library m.note (known b ++ m.tree ∷ []) is.note (more_fine (known b) m.tree at.fine fine.0))
    (ap (λ files. take (length (known b)) (files ++ last)) again ∙ front_taken m.note (known b) (m.tree ∷ support_alone ∷ []) last ∙ sym (same_files b.note (known b) m.note at.started is.is_known))
    (subst (λ (o : Option File). IsFileUpTo (Some file) n o) (sym (ap (λ files. slice_get (files ++ last) (length (known b))) again ∙ front_next m.note (known b) (m.tree ∷ support_alone ∷ []) last))
    (fine.1, begins.2))

same_base : (m : Module) (name : List ℕ) → file_name m ≡ name ++ codes ".vb" → m.name ≡ name
same_base m name h = same_names m (record { name = name; class = false; members = [] }) h

module_stuck : ModulesAreRead → ModuleFaultsAreFirst → (files : List File) (k : ℕ) (b : Before) (file : File) (rest : List File) (name : List ℕ) (line : ℕ) → At files k b (file ∷ rest)
    → is_same_text file.0 (codes "upgrade.rsp") ≡ false → IsNamed file.0 name → module_in b.note name file.1 ≡ stuck line → IsFirstFault files k line
module_stuck read first files k b file rest name line at other named e =
    let fault = first b.note name file.1 line at.note named.identifier (fine_name file.0 name named) e in
    record {
      before = before line fault.0 fault.1;
      faulty = λ begin.
          let f = behind_front read files k b (file ∷ rest) line at begin.0 begin.1 begin.2 in
          none_there fault.2 begin.0 begin.1 f.rest f.same f.notes (file_there files k b (file ∷ rest) line at begin.0 begin.2 f);
    }
  where
    before : (line : ℕ) → 1 ≤ line → ModuleBegins b.note name (line - 1) file.1 → BeginBefore files k line
    before zero h begins = absurd (omega (arith, h))
    before (suc n) h begins = module_begins files k b file rest name n at named (subst (λ n. ModuleBegins b.note name n file.1) (one_less n) begins)

    none_there : (ModuleBegins b.note name line file.1 → ⊥) → (N : Project) → IsReadable N → (rest : List Module) → written_modules N ≡ known b ++ rest → IsNoteOf (head_of b) N.note (known b)
        → IsFileUpTo (Some file) line (first_of (module_files N.note rest ++ (codes "upgrade.rsp", response_text N) ∷ [])) → ⊥
    none_there none N r [] same notes up = never (sym other ∙ (bytes_decides file.0 (codes "upgrade.rsp")).1 up.0)
    none_there none N r (m ∷ rest) same notes up =
        let fine = next_fine b N m rest r same in
        none (
          record { note = N.note; tree = m },
          record { is_known = note_known b.note (known b) N.note at.started notes; note = r.writable.note; named = same_base m name (sym up.0 ∙ named.is); writable = fine.writable; fits = fine.fits },
          up.1,
        )

at_next : ReadModulesStand → (files : List File) (k : ℕ) (b : Before) (file : File) (rest : List File) (name : List ℕ) (m : NotedModule) → At files k b (file ∷ rest)
    → IsNamed file.0 name → module_in b.note name file.1 ≡ complete m → At files (suc k) (behind_module b m) rest
at_next stand files k b file rest name m at named e =
    let stands = stand b.note name file.1 m at.note named.identifier (fine_name file.0 name named) e in
    let fine = module_fine b.note file.0 name m named stands.0 in
    record {
      taken = take_more k files file rest at.left ∙ ap (λ front. front ++ file ∷ []) (at.taken ∙ same_files b.note (known b) m.note at.started stands.0.is_known) ∙ files_append m.note (known b) m.tree file fine.1 stands.1;
      left = drop_more k files file rest at.left;
      count = omega (arith, at.count, length-append (known b) (m.tree ∷ []));
      note = stands.0.note;
      fine = more_fine (known b) m.tree at.fine fine.0;
      started = some_started m.note (known b) m.tree;
      last = tt;
    }

-- ---- the response file

last_same : {A : Type 0} (xs ys : List A) (x y : A) → xs ++ x ∷ [] ≡ ys ++ y ∷ [] → (xs ≡ ys) × (x ≡ y)
last_same [] [] x y h = (refl, cc h)
last_same [] (z ∷ ys) x y h = absurd (longer ys y (cc h))
  where
    longer : {A : Type 0} (ys : List A) (y : A) → ◌≡◌ {A = List A} [] (ys ++ y ∷ []) → ⊥
    longer [] y h = cc h
    longer (z ∷ ys) y h = cc h
last_same (z ∷ xs) [] x y h = absurd (longer xs x (cc h))
  where
    longer : {A : Type 0} (ys : List A) (y : A) → ◌≡◌ {A = List A} (ys ++ y ∷ []) [] → ⊥
    longer [] y h = cc h
    longer (z ∷ ys) y h = cc h
last_same (z ∷ xs) (w ∷ ys) x y h =
    let rest = last_same xs ys x y (cc h) in
    (first_and z w xs ys (cc h) rest.0, rest.1)
  where
    first_and : {A : Type 0} (z w : A) (xs ys : List A) → z ≡ w → xs ≡ ys → z ∷ xs ≡ w ∷ ys
    first_and z w xs ys h k = cc (h, k)

-- behind the front of a project, only the response file has its name
only_response : (b : Before) (N : Project) (file : File) (n : ℕ) → is_same_text file.0 (codes "upgrade.rsp") ≡ true → (rest : List Module) → written_modules N ≡ known b ++ rest
    → IsFileUpTo (Some file) n (first_of (module_files N.note rest ++ (codes "upgrade.rsp", response_text N) ∷ [])) → (written_modules N ≡ known b) × BeginsAs n file.1 (response_text N)
only_response b N file n named [] same up = (same ∙ append-nil (known b), up.1)
only_response b N file n named (m ∷ rest) same up = no_response m (sym up.0 ∙ (bytes_decides file.0 (codes "upgrade.rsp")).0 named)

nothing_there : (N : Project) → written_modules N ≡ [] → ⊥
nothing_there N h = longer N.modules N.support h
  where
    longer : (ms : List Module) (m : Module) → ms ++ m ∷ [] ≡ [] → ⊥
    longer [] m h = cc h
    longer (x ∷ ms) m h = cc h

-- no module stands before the response file
response_first : ModulesAreRead → (files : List File) (k : ℕ) (b : Before) (file : File) (rest : List File) → At files k b (file ∷ rest) → is_same_text file.0 (codes "upgrade.rsp") ≡ true → b.last ≡ Option.None → IsFirstFault files k 0
response_first read files k b file rest at named none = record {
  before = begin_before files k b file rest at (library_of (head_of b) (known b)) (readable_library (head_of b) (known b) (fine_head b.note at.note) at.fine) (library_front b);
  faulty = λ begin.
      let f = behind_front read files k b (file ∷ rest) 0 at begin.0 begin.1 begin.2 in
      nothing_there begin.0 ((only_response b begin.0 file 0 named f.rest f.same (file_there files k b (file ∷ rest) 0 at begin.0 begin.2 f)).0 ∙ subst (λ (last : Option Module). IsLast last (known b)) none at.last);
}

known_is : (b : Before) (m : Module) → b.last ≡ Some m → known b ≡ b.earlier ++ m ∷ []
known_is b m h = ap (λ last. b.earlier ++ listed last) h

-- the last module before the response file isn't that of the support functions
other_before : ModulesAreRead → (files : List File) (k : ℕ) (b : Before) (file : File) (rest : List File) (m : Module) → At files k b (file ∷ rest) → is_same_text file.0 (codes "upgrade.rsp") ≡ true → b.last ≡ Some m → is_support m ≡ false → IsFirstFault files k 0
other_before read files k b file rest m at named last other = record {
  before = begin_before files k b file rest at (library_of (head_of b) (known b)) (readable_library (head_of b) (known b) (fine_head b.note at.note) at.fine) (library_front b);
  faulty = λ begin.
      let f = behind_front read files k b (file ∷ rest) 0 at begin.0 begin.1 begin.2 in
      let whole = only_response b begin.0 file 0 named f.rest f.same (file_there files k b (file ∷ rest) 0 at begin.0 begin.2 f) in
      let same = last_same begin.0.modules b.earlier begin.0.support m (whole.0 ∙ known_is b m last) in
      never (sym other ∙ ap is_support (sym same.1) ∙ begin.1.writable.support);
}

-- the project whose response file stands next
abbrev next_project : Before → Module → Option (List ℕ) → Project
next_project b m main = project_of (head_of b) b.earlier m main

next_readable : (files : List File) (k : ℕ) (b : Before) (rest : List File) (m : Module) (main : Option (List ℕ)) → At files k b rest → b.last ≡ Some m → is_support m ≡ true → IsMain main → IsReadable (next_project b m main)
next_readable files k b rest m main at last support is = readable (head_of b) b.earlier m main (fine_head b.note at.note) (subst (λ ms. AreFine ms) (known_is b m last) at.fine) support is

next_response : (b : Before) (m : Module) (main : Option (List ℕ)) → b.last ≡ Some m → response_text (next_project b m main) ≡ response_file (known b) main
next_response b m main last = response_of_project (next_project b m main) refl ∙ ap (λ ms. response_file ms main) (sym (known_is b m last))

abbrev next_last : Before → Module → Option (List ℕ) → List File
next_last b m main = (codes "upgrade.rsp", response_text (next_project b m main)) ∷ []

next_files : (b : Before) (m : Module) (main : Option (List ℕ)) → b.last ≡ Some m → files_of (next_project b m main) ≡ module_files (head_of b) (known b ++ []) ++ next_last b m main
next_files b m main last = ap (λ ms. module_files (head_of b) ms ++ next_last b m main) (sym (append-nil (known b) ∙ known_is b m last))

response_begins : (files : List File) (k : ℕ) (b : Before) (file : File) (rest : List File) (m : Module) (main : Option (List ℕ)) (n : ℕ) → At files k b (file ∷ rest) → is_same_text file.0 (codes "upgrade.rsp") ≡ true
    → b.last ≡ Some m → is_support m ≡ true → IsMain main → BeginsAs n file.1 (response_file (known b) main) → BeginUpTo files k n
response_begins files k b file rest m main n at named last support is begins =
    begin_up_to files k b (file ∷ rest) n at (next_project b m main) (next_readable files k b (file ∷ rest) m main at last support is)
    (ap (take (length (known b))) (next_files b m main last) ∙ front_taken (head_of b) (known b) [] (next_last b m main))
    (subst (λ (o : Option File). IsFileUpTo (Some file) n o) (sym (ap (λ files. slice_get files (length (known b))) (next_files b m main last) ∙ front_next (head_of b) (known b) [] (next_last b m main)))
    ((bytes_decides file.0 (codes "upgrade.rsp")).0 named, subst (λ t. BeginsAs n file.1 t) (sym (next_response b m main last)) begins))

response_stuck : ModulesAreRead → (files : List File) (k : ℕ) (b : Before) (file : File) (rest : List File) (m : Module) (line : ℕ) → At files k b (file ∷ rest) → is_same_text file.0 (codes "upgrade.rsp") ≡ true
    → b.last ≡ Some m → is_support m ≡ true → response_in (known b) file.1 ≡ stuck line → IsFirstFault files k line
response_stuck read files k b file rest m line at named last support e =
    let fault = response_faults (known b) file.1 line at.fine.writable e in
    record {
      before = before line fault.0 fault.1;
      faulty = λ begin.
          let f = behind_front read files k b (file ∷ rest) line at begin.0 begin.1 begin.2 in
          let whole = only_response b begin.0 file line named f.rest f.same (file_there files k b (file ∷ rest) line at begin.0 begin.2 f) in
          fault.2 (begin.0.main, main_fine begin.0 begin.1, subst (λ t. BeginsAs line file.1 t) (response_of_project begin.0 begin.1.writable.target ∙ ap (λ ms. response_file ms begin.0.main) whole.0) whole.1);
    }
  where
    before : (line : ℕ) → 1 ≤ line → (main : Option (List ℕ)) × IsMain main × BeginsAs (line - 1) file.1 (response_file (known b) main) → BeginBefore files k line
    before zero h begins = absurd (omega (arith, h))
    before (suc n) h begins = response_begins files k b file rest m begins.0 n at named last support begins.1 (subst (λ n. BeginsAs n file.1 (response_file (known b) begins.0)) (one_less n) begins.2)

front_left : (head : Option (List ℕ)) (known rest : List Module) (last : List File) → drop (length known) (module_files head (known ++ rest) ++ last) ≡ module_files head rest ++ last
front_left head [] rest last = refl
front_left head (m ∷ known) rest last = front_left head known rest last

-- all files are read
all_files : (files : List File) (k : ℕ) (b : Before) (file : File) (rest : List File) (m : Module) (main : Option (List ℕ)) → At files k b (file ∷ rest) → is_same_text file.0 (codes "upgrade.rsp") ≡ true
    → b.last ≡ Some m → file.1 ≡ response_file (known b) main → take (suc k) files ≡ files_of (next_project b m main)
all_files files k b file rest m main at named last text =
    take_more k files file rest at.left ∙ ap (λ front. front ++ file ∷ []) at.taken
    ∙ ap (λ files. files ++ file ∷ []) (ap (module_files (head_of b)) (known_is b m last))
    ∙ ap (λ (name : List ℕ). module_files (head_of b) (b.earlier ++ m ∷ []) ++ (name, file.1) ∷ []) ((bytes_decides file.0 (codes "upgrade.rsp")).0 named)
    ∙ ap (λ (text : List ℕ). module_files (head_of b) (b.earlier ++ m ∷ []) ++ (codes "upgrade.rsp", text) ∷ []) (text ∙ sym (next_response b m main last))

take_whole : {A : Type 0} (k : ℕ) (xs : List A) → length xs ≤ k → take k xs ≡ xs
take_whole zero [] h = refl
take_whole zero (x ∷ xs) h = absurd (omega (arith, h))
take_whole (suc k) [] h = refl
take_whole (suc k) (x ∷ xs) h = ap (λ more. x ∷ more) (take_whole k xs (omega (arith, h)))

pub files_length : (N : Project) → length (files_of N) ≡ suc (length (written_modules N))
files_length N =
    let mapped : length (module_files N.note (written_modules N)) ≡ length (written_modules N) = length-map (written_modules N) (λ (m : Module). (file_name m, module_text N.note m)) in
    omega (arith, length-append (module_files N.note (written_modules N)) ((codes "upgrade.rsp", response_text N) ∷ []), mapped)

-- a file stands behind the response file
one_file_more : ModulesAreRead → (files : List File) (k : ℕ) (b : Before) (file : File) (rest : List File) (m : Module) (main : Option (List ℕ)) → At files k b (file ∷ rest) → is_same_text file.0 (codes "upgrade.rsp") ≡ true
    → b.last ≡ Some m → is_support m ≡ true → response_in (known b) file.1 ≡ complete main → suc k < length files → IsFirstFault files (suc k) 0
one_file_more read files k b file rest m main at named last support e more =
    let stand = responses_stand (known b) file.1 main e in
    let N = next_project b m main in
    record {
      before = (
        N,
        next_readable files k b (file ∷ rest) m main at last support stand.0,
        take_whole (suc k) (files_of N) (omega (arith, files_length N, ap (λ (ms : List Module). length ms) (known_is b m last), at.count)) ∙ sym (all_files files k b file rest m main at named last stand.1),
        more,
      );
      faulty = λ begin.
          let less = take_less k (files_of begin.0) files begin.2.0 in
          let found : slice_get files k ≡ Some file = next_is k files ∙ ap first_of at.left in
          let up : IsProjectUpTo files k 0 begin.0 = (less.0, subst (λ (o : Option File). IsFileUpTo (slice_get files k) 0 o) (sym (less.1 ∙ found)) (subst (λ (o : Option File). IsFileUpTo o 0 (Some file)) (sym found) (refl, begins_at_all file.1 file.1))) in
          let f = behind_front read files k b (file ∷ rest) 0 at begin.0 begin.1 up in
          let whole = only_response b begin.0 file 0 named f.rest f.same (file_there files k b (file ∷ rest) 0 at begin.0 up f) in
          subst (λ (o : Option File). IsFileUpTo (slice_get files (suc k)) 0 o)
          (slice_get_past (files_of begin.0) (suc k) (omega (arith, files_length begin.0, ap (λ (ms : List Module). length ms) whole.0, at.count))) begin.2.1;
    }

-- ---- all files

-- a place of which it is known that it is the first fault
abbrev Faulty : List File → Outcome → Type 0
Faulty files (faulty file line) = IsFirstFault files file line
Faulty files (whole N) = IsReadable N × NetText N files

finished_answers : ModulesAreRead → (files : List File) (k : ℕ) (b : Before) (file : File) (rest : List File) (m : Module) → At files k b (file ∷ rest) → is_same_text file.0 (codes "upgrade.rsp") ≡ true
    → b.last ≡ Some m → is_support m ≡ true → (r : Reading (Option (List ℕ))) → response_in (known b) file.1 ≡ r → Faulty files (finished k b m r rest)
finished_answers read files k b file rest m at named last support (stuck line) e = response_stuck read files k b file rest m line at named last support e
finished_answers read files k b file (next ∷ rest) m at named last support (complete main) e = one_file_more read files k b file (next ∷ rest) m main at named last support e (is_within (suc k) files next rest (drop_more k files file (next ∷ rest) at.left))
finished_answers read files k b file [] m at named last support (complete main) e =
    let stand = responses_stand (known b) file.1 main e in
    let readable = next_readable files k b (file ∷ []) m main at last support stand.0 in
    (readable, record { writable = readable.writable; are_files = sym (take_all (suc k) files (drop_more k files file [] at.left)) ∙ all_files files k b file [] m main at named last stand.1 })

response_answers : ModulesAreRead → (files : List File) (k : ℕ) (b : Before) (file : File) (rest : List File) → At files k b (file ∷ rest) → is_same_text file.0 (codes "upgrade.rsp") ≡ true
    → (last : Option Module) → b.last ≡ last → Faulty files (response_by k b last file.1 rest)
response_answers read files k b file rest at named Option.None last = response_first read files k b file rest at named last
response_answers read files k b file rest at named (Some m) last =
    by_test (is_support m) (λ t. is_support m ≡ t → Faulty files (cond t (finished k b m (response_in (modules_before b) file.1) rest) (faulty k 0)))
    (λ t support. finished_answers read files k b file rest m at named last support (response_in (known b) file.1) refl)
    (λ f other. other_before read files k b file rest m at named last other) refl

module_answers : ModulesAreRead → ModuleFaultsAreFirst → ReadModulesStand → (files : List File) (k : ℕ) (b : Before) (file : File) (rest : List File) → At files k b (file ∷ rest) → is_same_text file.0 (codes "upgrade.rsp") ≡ false
    → (go : Before → Outcome) → ((next : Before) → At files (suc k) next rest → Faulty files (go next)) → (name : List ℕ) → IsNamed file.0 name → (r : Reading NotedModule) → module_in b.note name file.1 ≡ r → Faulty files (module_by k b r go)
module_answers read first stand files k b file rest at other go later name named (stuck line) e = module_stuck read first files k b file rest name line at other named e
module_answers read first stand files k b file rest at other go later name named (complete m) e = later (behind_module b m) (at_next stand files k b file rest name m at named e)

named_answers : ModulesAreRead → ModuleFaultsAreFirst → ReadModulesStand → (files : List File) (k : ℕ) (b : Before) (file : File) (rest : List File) → At files k b (file ∷ rest) → is_same_text file.0 (codes "upgrade.rsp") ≡ false
    → (go : Before → Outcome) → ((next : Before) → At files (suc k) next rest → Faulty files (go next)) → (o : Option (List ℕ)) → module_name file.0 ≡ o → Faulty files (named_by k b o file.1 go)
named_answers read first stand files k b file rest at other go later Option.None e = no_name read files k b file rest at other e
named_answers read first stand files k b file rest at other go later (Some name) e =
    module_answers read first stand files k b file rest at other go later name (named_for file.0 name e) (module_in b.note name file.1) refl

answers_from : ModulesAreRead → ModuleFaultsAreFirst → ReadModulesStand → (files : List File) (rest : List File) (k : ℕ) (b : Before) → At files k b rest → Faulty files (read_from k b rest)
answers_from read first stand files [] k b at = no_files_left read files k b at
answers_from read first stand files (file ∷ rest) k b at =
    by_test (is_same_text file.0 (codes "upgrade.rsp"))
    (λ t. is_same_text file.0 (codes "upgrade.rsp") ≡ t → Faulty files (cond t (response_by k b b.last file.1 rest) (named_by k b (module_name file.0) file.1 (λ (next : Before). read_from (suc k) next rest))))
    (λ t named. response_answers read files k b file rest at named b.last refl)
    (λ f other. named_answers read first stand files k b file rest at other (λ (next : Before). read_from (suc k) next rest) (λ next later. answers_from read first stand files rest (suc k) next later) (module_name file.0) refl)
    refl

answers : ModulesAreRead → ModuleFaultsAreFirst → ReadModulesStand → (files : List File) → Faulty files (project_in files)
answers read first stand files = answers_from read first stand files files 0 none_before (at_start files)

pub file_faults : ModulesAreRead → ModuleFaultsAreFirst → ReadModulesStand → (files : List File) (file line : ℕ) → project_in files ≡ faulty file line → IsFirstFault files file line
file_faults read first stand files file line e = subst (λ (o : Outcome). Faulty files o) e (answers read first stand files)

pub files_stand : ModulesAreRead → ModuleFaultsAreFirst → ReadModulesStand → (N : Project) (files : List File) → project_in files ≡ whole N → IsReadable N × NetText N files
files_stand read first stand N files e = subst (λ (o : Outcome). Faulty files o) e (answers read first stand files)
