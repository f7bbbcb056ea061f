-- Projects are read back from their files, which so stand for one project.
use Rattle.std.proofs.Common.{◌≡◌, ℕ, suc, Bool, true, ◌&&◌, List, [], ◌∷◌, ◌++◌, map, codes, refl, sym, ap, ◌∙◌, append_assoc, append-nil, Option, Some}
use Rattle.std.specs.List.{list_all}
use Rattle.up_base.specs.Names.{is_name}
use Rattle.net_tree.specs.Tree.{Module, Project}
use Rattle.net_tree.specs.Spelling.{is_identifier, is_same_text}
use Rattle.net_tree.specs.Text.{IsWritable, StandForOne, file_name, files_of, is_note, is_support, is_writable_module, module_text, response_text, written_modules}
use Rattle.net_exprs.proofs.Words.{both_true}
use Rattle.net_reader.specs.Fits.{can_be_held, fits_main, fits_module}
use Rattle.net_reader.specs.Laws.{IsNoteKnown}
use Rattle.net_reader.specs.ModuleReader.{complete}
use Rattle.net_reader.specs.ProjectReader.{Before, Outcome, behind_module, faulty, finished, module_by, module_name, modules_before, named_by, none_before, project_in, project_with, read_from, response_by, response_in, whole}
use Rattle.net_reader.proofs.FileNames.{is_named_for, other_name}
use Rattle.net_reader.proofs.ModulesRead.{module_reads}
use Rattle.net_reader.proofs.ResponsesRead.{response_of_project, response_read}
use Rattle.net_reader.proofs.Tests.{all_both, if_false, if_true}

-- ---- the modules

abbrev module_file : Option (List ℕ) → Module → List ℕ × List ℕ
module_file noted m = (file_name m, module_text noted m)

abbrev is_read_module : Module → Bool
is_read_module m = is_writable_module m && fits_module m && is_name (file_name m)

abbrev behind_modules : Option (List ℕ) → Before → List Module → Before
behind_modules noted b [] = b
behind_modules noted b (m ∷ ms) = behind_modules noted (behind_module b (record { note = noted; tree = m })) ms

one_read : (noted : Option (List ℕ)) (k : ℕ) (b : Before) (m : Module) (files : List (List ℕ × List ℕ)) → is_note noted ≡ true → IsNoteKnown b.note noted →
    is_read_module m ≡ true →
    read_from k b (module_file noted m ∷ files) ≡ read_from (suc k) (behind_module b (record { note = noted; tree = m })) files
one_read noted k b m files h known can =
    let two = both_true (is_writable_module m && fits_module m) (is_name (file_name m)) can in
    let one = both_true (is_writable_module m) (fits_module m) two.0 in
    let name = (both_true (is_identifier m.name) _ one.0).0 in
    let go : Before → Outcome = λ next. read_from (suc k) next files in
    if_false (is_same_text (file_name m) (codes "upgrade.rsp")) (response_by k b b.last (module_text noted m) files)
    (named_by k b (module_name (file_name m)) (module_text noted m) go) (other_name m)
    ∙ ap (λ o. named_by k b o (module_text noted m) go) (is_named_for m name two.1)
    ∙ ap (λ r. module_by k b r go)
    (module_reads b.note m.name (record { note = noted; tree = m }) (record { is_known = known; note = h; named = refl; writable = one.0; fits = one.1 }))

-- the files of modules, with the number of the file behind them
modules_read : (noted : Option (List ℕ)) (k : ℕ) (b : Before) (ms : List Module) (files : List (List ℕ × List ℕ)) → is_note noted ≡ true → IsNoteKnown b.note noted →
    list_all is_read_module ms ≡ true →
    (n : ℕ) × (read_from k b (map (module_file noted) ms ++ files) ≡ read_from n (behind_modules noted b ms) files)
modules_read noted k b [] files h known can = (k, refl)
modules_read noted k b (m ∷ ms) files h known can =
    let both = both_true (is_read_module m) (list_all is_read_module ms) can in
    let more = modules_read noted (suc k) (behind_module b (record { note = noted; tree = m })) ms files h refl both.1 in
    (more.0, one_read noted k b m (map (module_file noted) ms ++ files) h known both.0 ∙ more.1)

abbrev before_response : Option (List ℕ) → List Module → Module → Before
before_response noted ms support = record { note = Some noted; earlier = ms; last = Some support }

all_behind : (noted : Option (List ℕ)) (b : Before) (ms : List Module) (support : Module) →
    behind_modules noted b (ms ++ support ∷ []) ≡ before_response noted (modules_before b ++ ms) support
all_behind noted b [] support = ap (λ (ms : List Module). before_response noted ms support) (sym (append-nil (modules_before b)))
all_behind noted b (m ∷ ms) support =
    all_behind noted (behind_module b (record { note = noted; tree = m })) ms support
    ∙ ap (λ (ms : List Module). before_response noted ms support) (append_assoc (modules_before b) (m ∷ []) ms)

-- ---- all files

response_taken : (k : ℕ) (noted : Option (List ℕ)) (ms : List Module) (support : Module) (main : Option (List ℕ)) (text : List ℕ) → is_support support ≡ true →
    response_in (ms ++ support ∷ []) text ≡ complete main →
    read_from k (before_response noted ms support) ((codes "upgrade.rsp", text) ∷ []) ≡ whole (project_with (before_response noted ms support) support main)
response_taken k noted ms support main text h e =
    if_true (is_support support) (finished k (before_response noted ms support) support (response_in (ms ++ support ∷ []) text) []) _ h
    ∙ ap (λ r. finished k (before_response noted ms support) support r []) e

pub project_reads : (N : Project) → IsWritable N → can_be_held N ≡ true → project_in (files_of N) ≡ whole N
project_reads N w h =
    let fit = both_true (fits_main N.main) (list_all fits_module (written_modules N)) h in
    let modules = written_modules N in
    let response : List ℕ × List ℕ = (codes "upgrade.rsp", response_text N) in
    let both = all_both is_writable_module fits_module modules w.modules fit.1 in
    let can = all_both (λ (m : Module). is_writable_module m && fits_module m) (λ (m : Module). is_name (file_name m)) modules both w.file_names in
    let read = modules_read N.note 0 none_before modules (response ∷ []) w.note tt can in
    read.1
    ∙ ap (λ b. read_from read.0 b (response ∷ [])) (all_behind N.note none_before N.modules N.support)
    ∙ response_taken read.0 N.note N.modules N.support N.main (response_text N) w.support (ap (response_in modules) (response_of_project N w.target) ∙ response_read modules N.main w.modules (record { writable = w.main; fits = fit.0 }))
    ∙ ap (λ library. whole (record { library = library; main = N.main; note = N.note; modules = N.modules; support = N.support })) (sym w.target)

-- the project that is read, or another where none is
abbrev project_or : Project → Outcome → Project
project_or M (whole N) = N
project_or M (faulty file line) = M

pub stand_for_one : StandForOne (λ N. can_be_held N ≡ true)
stand_for_one M N files h k a b =
    ap (project_or M) (sym (project_reads M a.writable h) ∙ ap project_in (sym a.are_files ∙ b.are_files) ∙ project_reads N b.writable k)
