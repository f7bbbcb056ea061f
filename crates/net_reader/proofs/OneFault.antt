-- Files have one first fault at most, and those of a project that can be read back have none.
use Rattle.std.proofs.Common.{◌≡◌, ℕ, zero, suc, ◌≤◌, ◌<◌, nat_le, List, [], ◌∷◌, ◌++◌, length, take, codes, arith, refl, sym, ap, subst, ◌∙◌, ⊎_elim, Option, Some}
use Rattle.std.specs.Prelude.{slice_get}
use Rattle.std.proofs.lemmas.Bool.{cases_lt, cases_order, leb-true}
use Rattle.std.proofs.lemmas.List.{take_all}
use Rattle.std.proofs.lemmas.Option.{slice_get_within}
use Rattle.net_tree.specs.Text.{files_of, response_text, written_modules}
use Rattle.net_tree.specs.Tree.{Module, Project}
use Rattle.net_exprs.proofs.Words.{by_test}
use Rattle.net_reader.specs.FileLines.{file_lines}
use Rattle.net_reader.specs.Laws.{FaultyFilesStandForNone, OneFirstFault}
use Rattle.net_reader.specs.Places.{BeginBefore, BeginsAs, IsFileUpTo, IsFirstFault, IsProjectUpTo, IsReadable, given}
use Rattle.net_reader.proofs.FileCuts.{as_first, as_second}
use Rattle.net_reader.proofs.FileFaults.{files_length}
use Rattle.net_reader.proofs.FileLists.{same_parts, take_fewer, take_less, take_within}
use Rattle.net_reader.proofs.FileNames.{no_response}
use Rattle.net_reader.proofs.Marks.{begins_itself, lines_begin, same_begins}
use Rattle.net_reader.proofs.ProjectFronts.{File, module_files}

-- ---- fronts

-- a file that begins as another does so for fewer lines too
fewer_lines : (n m : ℕ) (text own : List ℕ) → n ≤ m → BeginsAs m text own → BeginsAs n text own
fewer_lines n m text own less h =
    by_test (nat_le m (length (file_lines text))) (λ b. nat_le m (length (file_lines text)) ≡ b → BeginsAs n text own)
    (λ t e. lines_begin n text own (omega (arith, less, leb-true m (length (file_lines text)) e))
    (take_fewer n m (file_lines own) (file_lines text) less (as_first (nat_le m (length (file_lines text))) (take m (file_lines own) ≡ take m (file_lines text)) (own ≡ text) e h)))
    (λ f e. same_begins n text own (as_second (nat_le m (length (file_lines text))) (take m (file_lines own) ≡ take m (file_lines text)) (own ≡ text) e h)) refl

file_fewer : (n m : ℕ) (found own : Option File) → n ≤ m → IsFileUpTo found m own → IsFileUpTo found n own
file_fewer n m found Option.None less h = absurd h
file_fewer n m found (Some own) less h = (h.0, fewer_lines n m (given found own.0).1 own.1 less h.1)

-- a file that is given begins as itself
itself : (n k : ℕ) (files : List File) (found : Option File) → slice_get files k ≡ found → k < length files → IsFileUpTo found n found
itself n k files Option.None e within = absurd (none files k e within)
  where
    none : (files : List File) (k : ℕ) → slice_get files k ≡ Option.None → k < length files → ⊥
    none [] k e within = omega (arith, within)
    none (file ∷ files) zero e within = cc e
    none (file ∷ files) (suc k) e within = none files k e (omega (arith, within))
itself n k files (Some file) e within = (refl, begins_itself n file.1)

-- a project whose files are the given ones behind a file is so up to each of its lines
up_to : (files : List File) (k n : ℕ) (N : Project) → k < length files → take (suc k) (files_of N) ≡ take (suc k) files → IsProjectUpTo files k n N
up_to files k n N within e =
    let less = take_less k (files_of N) files e in
    (less.0, subst (λ (o : Option File). IsFileUpTo (slice_get files k) n o) (sym less.1) (itself n k files (slice_get files k) refl within))

-- a project has the file up to a line of which its files are the given ones
is_there : (n k : ℕ) (found : Option File) (own : List File) (o : Option File) → slice_get own k ≡ o → IsFileUpTo found n o → k < length own
is_there n k found own Option.None e h = absurd h
is_there n k found own (Some file) e h = slice_get_within own k file e

-- before a line, some project has the files before that line's
before_front : (files : List File) (k n : ℕ) → BeginBefore files k n → (N : Project) × IsReadable N × (take k (files_of N) ≡ take k files) × (k ≤ length files)
before_front files k zero h = (h.0, h.1, h.2, omega (arith, h.3))
before_front files k (suc n) h =
    let there = is_there n k (slice_get files k) (files_of h.0) (slice_get (files_of h.0) k) refl h.2.1 in
    (h.0, h.1, h.2.0, take_within k (files_of h.0) files h.2.0 (omega (arith, there)))

-- ---- one first fault

no_later_file : (files : List File) (k n j m : ℕ) → IsFirstFault files k n → IsFirstFault files j m → k < j → ⊥
no_later_file files k n j m first second less =
    let front = before_front files j m second.before in
    first.faulty (front.0, front.1, up_to files k n front.0 (omega (arith, less, front.3)) (take_fewer (suc k) j (files_of front.0) files (omega (arith, less)) front.2))

no_later_line : (files : List File) (k n m : ℕ) → IsFirstFault files k n → IsFirstFault files k m → n < m → ⊥
no_later_line files k n zero first second less = absurd (omega (arith, less))
no_later_line files k n (suc m) first second less =
    let begin = second.before in
    first.faulty (begin.0, begin.1, (begin.2.0, file_fewer n m (slice_get files k) (slice_get (files_of begin.0) k) (omega (arith, less)) begin.2.1))

same_line : (files : List File) (k n j m : ℕ) → IsFirstFault files k n → IsFirstFault files j m → k ≡ j → n ≡ m
same_line files k n j m first second same =
    let third = subst (λ (j : ℕ). IsFirstFault files j m) (sym same) second in
    ⊎_elim (λ e. e) (λ other. ⊎_elim (λ less. absurd (no_later_line files k n m first third less)) (λ less. absurd (no_later_line files k m n third first less)) other) (cases_order n m)

pub one_first_fault : OneFirstFault
one_first_fault files k n j m first second =
    let file = ⊎_elim (λ e. e) (λ other. ⊎_elim (λ less. absurd (no_later_file files k n j m first second less)) (λ less. absurd (no_later_file files j m k n second first less)) other) (cases_order k j) in
    (file, same_line files k n j m first second file)

-- ---- no fault in the files of a project

same_names : {f g : File} {fs gs : List File} → ◌≡◌ {A = List File} (f ∷ fs) (g ∷ gs) → f.0 ≡ g.0
same_names h = ap (λ (f : File). f.0) (same_parts h).0

-- behind files up to a response file no other stands
no_more : (own head : Option (List ℕ)) (known ms : List Module) (text last : List ℕ) →
    take (suc (length known)) (module_files own ms ++ (codes "upgrade.rsp", text) ∷ []) ≡ module_files head known ++ (codes "upgrade.rsp", last) ∷ [] → length ms ≡ length known
no_more own head [] [] text last e = refl
no_more own head [] (m ∷ ms) text last e = no_response m (same_names e)
no_more own head (x ∷ known) [] text last e = no_response x (sym (same_names e))
no_more own head (x ∷ known) (m ∷ ms) text last e = ap suc (no_more own head known ms text last (same_parts e).1)

ends_there : (N other : Project) (k : ℕ) → length (files_of N) ≡ k → take k (files_of other) ≡ files_of N → k < length (files_of other) → ⊥
ends_there N other k count same within =
    let as_many = no_more other.note N.note (written_modules N) (written_modules other) (response_text other) (response_text N) (ap (λ (k : ℕ). take k (files_of other)) (sym (files_length N) ∙ count) ∙ same) in
    omega (arith, count, files_length N, files_length other, as_many, within)

no_fault_behind : (N : Project) (k n : ℕ) → BeginBefore (files_of N) k n → length (files_of N) ≤ k → ⊥
no_fault_behind N k zero h behind = omega (arith, h.3, behind)
no_fault_behind N k (suc n) h behind =
    let front = before_front (files_of N) k (suc n) h in
    ends_there N h.0 k (omega (arith, front.3, behind)) (h.2.0 ∙ take_all k (files_of N) behind) (is_there n k (slice_get (files_of N) k) (files_of h.0) (slice_get (files_of h.0) k) refl h.2.1)

no_fault : (N : Project) (k n : ℕ) → IsReadable N → IsFirstFault (files_of N) k n → ⊥
no_fault N k n is fault = ⊎_elim (λ less. fault.faulty (N, is, up_to (files_of N) k n N less refl)) (λ behind. no_fault_behind N k n fault.before behind) (cases_lt k (length (files_of N)))

pub faulty_files_stand_for_none : FaultyFilesStandForNone
faulty_files_stand_for_none files k n fault N is same = no_fault N k n is (subst (λ (files : List File). IsFirstFault files k n) (sym same) fault)
