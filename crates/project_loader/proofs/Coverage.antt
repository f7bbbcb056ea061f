-- No folder falls between: it holds a project under a name, or that has a first fault.
use Rattle.std.proofs.Common.{◌≡◌, ◌⊎◌, inl, inr, ℕ, ◌+◌, ◌<◌, ◌≤◌, Bool, true, false, ◌==◌, if◌then◌else◌, List, [], ◌∷◌, ◌++◌, length, Option, Some, None, refl, sym, ap, ◌∙◌, subst, arith}
use Rattle.std.proofs.Math.Nat.{eq-or-lt_of_le}
use Rattle.up_base.specs.Outside.{Files}
use Rattle.up_base.specs.declared.place.Fault.{Fault}
use Rattle.vb_tree.specs.declared.project.Entry.{Entry}
use Rattle.vb_tree.specs.declared.project.ProjectFile.{ProjectFile}
use Rattle.vb_tree.specs.declared.token.Line.{Line}
use Rattle.vb_tree.specs.LogicalLines.{readings, first_fault, lines_before_fault}
use Rattle.vb_tree.specs.ProjectLines.{HasNoFault, IsFirstFault, ComesFirst, rank, is_fault, lines_of, project_file}
use Rattle.vb_tree.specs.Tree.{Module, Project}
use Rattle.vb_tree.specs.Tree as tree
use Rattle.vb_lexer.specs.Answers.{Lexes}
use Rattle.vb_lines.specs.Modules.{spot_of, AreRead, HasFault, IsFirstFault as IsFirstOfParts, IsUnclosed, Head, ended, malformed, unended, head_of, comments_of, IsModuleOf, IsModule, IsModuleFault}
use Rattle.vb_lines.specs.Nesting.{Open, open_after, fault_of}
use Rattle.vb_lines.specs.Parts.{Part, all_parts, Outcome, gives, formless, deep, PartGives, first_of, lines_fault, outcome_fault}
use Rattle.project_loader.specs.Texts.{HeldText, file_limit, total_limit, size_of, decoded}
use Rattle.project_loader.specs.Modules.{TextIsModule, TextFault, of_lines, before_lexical, lexical}
use Rattle.project_loader.specs.Held.{HeldFile, HeldEntry, HeldEntries, HeldProject, sizes}
use Rattle.project_loader.specs.Faults.{fault_at, ProjectFault, no_project, long_project, project_line, EntryFault, no_module, long_module, long_together, module_line, FirstFault}
use Rattle.project_loader.specs.Steps.{EntryRefused}
use Rattle.project_loader.proofs.Either.{Irrefutable, pure, bind, either, cases, at_most, same_number, Least, least}
use Rattle.project_loader.proofs.Outcomes.{cut_gives}
use Rattle.project_loader.proofs.Nested.{no_fault_append, members_of}
use Rattle.project_loader.proofs.Unique.{sizes_cons}
use Rattle.project_loader.proofs.Loads.{first_in_project, first_at_entry}

some_or_none : (k : ℕ) → ◌≡◌ {A = Option ℕ} (Some k) None → ⊥
some_or_none k e = cc

-- ---- the parts of logical lines

-- an outcome without a fault gives code lines
lines_given : (opens : List Open) (o : Outcome) → outcome_fault opens o ≡ None → (new : List tree.Line) × (o ≡ gives new) × (lines_fault opens new ≡ None)
lines_given opens (gives new) e = (new, refl, e)
lines_given opens formless e = absurd (some_or_none 10 e)
lines_given opens (deep r) e = absurd (by (fault_of opens r) e)
  where
    by : (k : Option ℕ) → first_of k (Some 14) ≡ None → ⊥
    by None e = some_or_none 14 e
    by (Some k) e = some_or_none k e

abbrev IsRead : List Open → List Part → Type 0
IsRead opens parts = (lines : List tree.Line) × AreRead opens parts lines

abbrev IsFaulty : List Open → List Part → Type 0
IsFaulty opens parts = (f : Fault) × HasFault opens parts f

part_more : (opens : List Open) (p : Part) (parts : List Part) → ((os : List Open) → Irrefutable (IsRead os parts ⊎ IsFaulty os parts)) → (new : List tree.Line) → PartGives (spot_of opens) p (gives new) → lines_fault opens new ≡ None → Irrefutable (IsRead opens (p ∷ parts) ⊎ IsFaulty opens (p ∷ parts))
part_more opens p parts more new given right =
    cases (more (open_after opens new))
    (λ read. pure (inl (new ++ read.0, (new, read.0, given, right, read.1, refl))))
    (λ faulty. pure (inr (faulty.0, inr (new, given, right, faulty.1))))

part_read : (opens : List Open) (p : Part) (parts : List Part) → ((os : List Open) → Irrefutable (IsRead os parts ⊎ IsFaulty os parts)) → (o : Outcome) → PartGives (spot_of opens) p o → (k : Option ℕ) → outcome_fault opens o ≡ k → Irrefutable (IsRead opens (p ∷ parts) ⊎ IsFaulty opens (p ∷ parts))
part_read opens p parts more o given (Some k) e = pure (inr (record { place = p.place; kind = k }, inl (record { outcome = o; given = given; kind = e; place = refl })))
part_read opens p parts more o given None e =
    let lines = lines_given opens o e in
    part_more opens p parts more lines.0 (subst (PartGives (spot_of opens) p) lines.1 given) lines.2

-- parts are read, or they have a first fault
parts_read : (parts : List Part) (opens : List Open) → Irrefutable (IsRead opens parts ⊎ IsFaulty opens parts)
parts_read [] opens = pure (inl ([], refl))
parts_read (p ∷ parts) opens =
    bind (cut_gives opens p.place p.text p.cut)
    (λ given. part_read opens p parts (parts_read parts) given.0 given.1 (outcome_fault opens given.0) refl)

read_without_fault : (opens : List Open) (parts : List Part) (lines : List tree.Line) → AreRead opens parts lines → lines_fault opens lines ≡ None
read_without_fault opens [] lines h = ap (lines_fault opens) h
read_without_fault opens (p ∷ parts) lines h = ap (lines_fault opens) h.5 ∙ no_fault_append opens h.0 h.1 h.3 (read_without_fault (open_after opens h.0) parts h.1 h.4)

-- ---- modules

module_with : (entry : Entry) (n : ℕ) (body : List Line) (lines : List tree.Line) → AreRead [] (all_parts body) lines → open_after [] lines ≡ [] → (m : Module) × IsModuleOf entry n body m
module_with entry n body lines read closed =
    let members = members_of lines (read_without_fault [] (all_parts body) lines read) closed in (
      record { file = n; name = entry.name; class = entry.class; members = members.0; comments = comments_of body },
      record { file = refl; name = refl; class = refl; comments = refl; lines = lines; read = read; closed = closed; tree = record { in_order = members.1; nested = members.2 } },
    )

lines_behind : (entry : Entry) (n : ℕ) (body : List Line) (lines : List tree.Line) → AreRead [] (all_parts body) lines → (opens : List Open) → open_after [] lines ≡ opens → ((m : Module) × IsModuleOf entry n body m) ⊎ ((f : Fault) × IsFirstOfParts (all_parts body) f)
lines_behind entry n body lines read [] e = inl (module_with entry n body lines read e)
lines_behind entry n body lines read (o ∷ opens) e =
    let f : Fault = record { place = o.head.place; kind = 12 } in
    inr (f, inr (lines, read, subst (λ os. IsUnclosed os f) (sym e) (refl, refl)))

-- what lines are whose head is this: a module, or they have a first fault
head_read : (entry : Entry) (n : ℕ) (head : Head) → Irrefutable (((m : Module) × IsModule entry n head m) ⊎ ((f : Fault) × IsModuleFault n head f))
head_read entry n (ended body) =
    cases (parts_read (all_parts body) [])
    (λ read. pure (lines_behind entry n body read.0 read.1 (open_after [] read.0) refl))
    (λ faulty. pure (inr (faulty.0, inl faulty.1)))
head_read entry n (malformed place) = pure (inr (record { place = place; kind = 15 }, (refl, refl)))
head_read entry n unended = pure (inr (record { place = record { file = n; line = 1 }; kind = 12 }, (refl, refl)))

-- ---- texts of modules

abbrev TextRead : Entry → ℕ → List ℕ → Type 0
TextRead entry n text = ((m : Module) × TextIsModule entry n text m) ⊎ ((f : Fault) × TextFault entry n text f)

text_whole : (entry : Entry) (n : ℕ) (text : List ℕ) (lines : List Line) → Lexes n text None lines → Irrefutable (TextRead entry n text)
text_whole entry n text lines lexed =
    cases (head_read entry n (head_of entry.class lines))
    (λ h. pure (inl (h.0, record { lines = lines; lexed = lexed; is = h.1 })))
    (λ h. pure (inr (h.0, of_lines lines lexed h.1)))

abbrev EarlierFault : Entry → ℕ → List Line → Type 0
EarlierFault entry n lines = (f : Fault) × IsModuleFault n (head_of entry.class lines) f × (f.kind ≡ 12 → ⊥)

text_faulty : (entry : Entry) (n : ℕ) (text : List ℕ) (l : Fault) (lines : List Line) → Lexes n text (Some l) lines → Irrefutable (TextRead entry n text)
text_faulty entry n text l lines lexed =
    cases (either (EarlierFault entry n lines))
    (λ h. pure (inr (h.0, before_lexical l lines lexed h.1 h.2)))
    (λ none. pure (inr (l, lexical lines lexed (λ g fault. same_number g.kind 12 (λ other. none (g, fault, other))))))

text_with : (entry : Entry) (n : ℕ) (text : List ℕ) (o : Option Fault) → first_fault (readings n text) ≡ o → Irrefutable (TextRead entry n text)
text_with entry n text None e = text_whole entry n text (lines_before_fault (readings n text)) (record { first = e; before = refl })
text_with entry n text (Some l) e = text_faulty entry n text l (lines_before_fault (readings n text)) (record { first = e; before = refl })

-- a text is a module, or it has a first fault
pub text_read : (entry : Entry) (n : ℕ) (text : List ℕ) → Irrefutable (TextRead entry n text)
text_read entry n text = text_with entry n text (first_fault (readings n text)) refl

-- ---- texts of project files

abbrev LineFaulty : List (List ℕ) → ℕ → Type 0
LineFaulty lines n = (k : ℕ) × (is_fault lines n k ≡ true)

abbrev RankFaulty : List (List ℕ) → ℕ → ℕ → Type 0
RankFaulty lines n r = (k : ℕ) × (is_fault lines n k ≡ true) × (rank k ≡ r)

comes_first : (line kind n k : ℕ) → (line ≡ n) ⊎ (line < n) → (line ≡ n → rank kind ≤ rank k) → ComesFirst line kind n k
comes_first line kind n k (inl e) low = inr (e, low e)
comes_first line kind n k (inr less) low = inl less

-- the fault of the lowest rank on the first line that has one
first_of_line : (lines : List (List ℕ)) (n : Least (LineFaulty lines)) (r : Least (RankFaulty lines n.0)) → IsFirstFault lines n.0 r.1.0
first_of_line lines n r = record {
  is = r.1.1;
  first = λ i k faulty. comes_first n.0 r.1.0 i k (eq-or-lt_of_le (n.2 i (k, faulty))) (λ e. subst (λ x. x ≤ rank k) (sym r.1.2) (r.2 (rank k) (k, subst (λ x. is_fault lines x k ≡ true) (sym e) faulty, refl)));
}

not_true : (b : Bool) → (b ≡ true → ⊥) → b ≡ false
not_true true h = absurd (h refl)
not_true false h = refl

-- lines have no fault, or a first one
lines_read : (lines : List (List ℕ)) → Irrefutable (HasNoFault lines ⊎ ((n : ℕ) × (k : ℕ) × IsFirstFault lines n k))
lines_read lines =
    cases (either ((n : ℕ) × LineFaulty lines n))
    (λ some. bind (least (LineFaulty lines) some.0 some.1) (λ n. bind (least (RankFaulty lines n.0) (rank n.1.0) (n.1.0, n.1.1, refl)) (λ r. pure (inr (n.0, r.1.0, first_of_line lines n r)))))
    (λ none. pure (inl (λ n k. not_true (is_fault lines n k) (λ e. none (n, (k, e))))))

-- ---- the project file

abbrev FileRead : Files → List ℕ → Type 0
FileRead files name = ((file : ProjectFile) × HeldFile files name file) ⊎ ((f : Fault) × ProjectFault files name f)

file_text : (files : Files) (name bytes : List ℕ) → HeldText files name bytes → Irrefutable (FileRead files name)
file_text files name bytes held =
    cases (lines_read (lines_of (decoded bytes)))
    (λ right. pure (inl (project_file (decoded bytes), record { bytes = bytes; held = held; is = record { right = right; says = refl } })))
    (λ h. pure (inr (fault_at 0 h.0 h.1, project_line bytes held refl h.2)))

file_with : (files : Files) (name : List ℕ) (o : Option (List ℕ)) → files name ≡ o → Irrefutable (FileRead files name)
file_with files name None e = pure (inr (fault_at 0 0 1, no_project e refl))
file_with files name (Some bytes) e =
    cases (at_most (length bytes) file_limit)
    (λ short. file_text files name bytes (record { held = e; short = short }))
    (λ long. pure (inr (fault_at 0 0 3, long_project (record { bytes = bytes; held = e; long = long }) refl)))

-- ---- the files of entries

abbrev EntryRead : Files → (before n : ℕ) → Entry → Type 0
EntryRead files before n entry = ((m : Module) × HeldEntry files before n entry m) ⊎ ((f : Fault) × EntryFault files before n entry f)

entry_text : (files : Files) (before n : ℕ) (entry : Entry) (bytes : List ℕ) → HeldText files entry.file bytes → Irrefutable (EntryRead files before n entry)
entry_text files before n entry bytes held =
    cases (at_most (before + size_of (files entry.file)) total_limit)
    (λ low. cases (text_read entry n (decoded bytes))
    (λ h. pure (inl (h.0, record { bytes = bytes; held = held; within = low; is = h.1 })))
    (λ h. pure (inr (h.0, module_line bytes held low h.1))))
    (λ above. pure (inr (fault_at 0 entry.line 3, long_together bytes held above refl)))

entry_with : (files : Files) (before n : ℕ) (entry : Entry) (o : Option (List ℕ)) → files entry.file ≡ o → Irrefutable (EntryRead files before n entry)
entry_with files before n entry None e = pure (inr (fault_at 0 entry.line 2, no_module e refl))
entry_with files before n entry (Some bytes) e =
    cases (at_most (length bytes) file_limit)
    (λ short. entry_text files before n entry bytes (record { held = e; short = short }))
    (λ long. pure (inr (fault_at 0 entry.line 3, long_module (record { bytes = bytes; held = e; long = long }) refl)))

-- the file of one of the entries has a fault, and those before it hold modules
record IsStopped (files : Files) (before k : ℕ) (entries : List Entry) : Type 0 where
  fault : Fault
  earlier : List Entry
  entry : Entry
  later : List Entry
  parts : earlier ++ entry ∷ later ≡ entries
  modules : List Module
  held : HeldEntries files before k earlier modules
  is : EntryFault files (before + sizes files earlier) (k + length earlier) entry fault

stopped_first : (files : Files) (before k : ℕ) (e : Entry) (es : List Entry) (f : Fault) → EntryFault files before k e f → IsStopped files before k (e ∷ es)
stopped_first files before k e es f fault =
    let bytes : before ≡ before + 0 = omega arith in
    let number : k ≡ k + 0 = omega arith in
    record {
      fault = f;
      earlier = [];
      entry = e;
      later = es;
      parts = refl;
      modules = [];
      held = tt;
      is = subst (λ x. EntryFault files (before + 0) x e f) number (subst (λ x. EntryFault files x k e f) bytes fault);
    }

stopped_later : (files : Files) (before k : ℕ) (e : Entry) (es : List Entry) (m : Module) → HeldEntry files before k e m → IsStopped files (before + size_of (files e.file)) (k + 1) es → IsStopped files before k (e ∷ es)
stopped_later files before k e es m h s =
    let size = size_of (files e.file) in
    let sum = sizes_cons files e s.earlier in
    let bytes : (before + size) + sizes files s.earlier ≡ before + sizes files (e ∷ s.earlier) = omega (arith, sum) in
    let number : (k + 1) + length s.earlier ≡ k + length (e ∷ s.earlier) = omega arith in
    record {
      fault = s.fault;
      earlier = e ∷ s.earlier;
      entry = s.entry;
      later = s.later;
      parts = ap (λ xs. e ∷ xs) s.parts;
      modules = m ∷ s.modules;
      held = (h, s.held);
      is = subst (λ x. EntryFault files (before + sizes files (e ∷ s.earlier)) x s.entry s.fault) number (subst (λ x. EntryFault files x ((k + 1) + length s.earlier) s.entry s.fault) bytes s.is);
    }

-- the files of entries hold modules, or one of them has the first fault
entries_read : (files : Files) (entries : List Entry) (before k : ℕ) → Irrefutable (((ms : List Module) × HeldEntries files before k entries ms) ⊎ IsStopped files before k entries)
entries_read files [] before k = pure (inl ([], tt))
entries_read files (e ∷ es) before k =
    cases (entry_with files before k e (files e.file) refl)
    (λ h. cases (entries_read files es (before + size_of (files e.file)) (k + 1))
    (λ more. pure (inl (h.0 ∷ more.0, (h.1, more.1))))
    (λ s. pure (inr (stopped_later files before k e es h.0 h.1 s))))
    (λ h. pure (inr (stopped_first files before k e es h.0 h.1)))

-- ---- the project

-- the file that the fault at an entry is said of
abbrev said_at : {files : Files} {before k : ℕ} {entries : List Entry} → (name : List ℕ) → IsStopped files before k entries → List ℕ
said_at name s = if s.fault.place.file == 0 then name else s.entry.file

refused : (files : Files) (name : List ℕ) (entries : List Entry) (s : IsStopped files (size_of (files name)) 1 entries) → EntryRefused files name (size_of (files name)) entries (said_at name s) s.fault
refused files name entries s =
    let number : 1 + length s.earlier ≡ length s.earlier + 1 = omega arith in
    record {
      earlier = s.earlier;
      entry = s.entry;
      later = s.later;
      parts = s.parts;
      modules = s.modules;
      held = s.held;
      fault = subst (λ x. EntryFault files (size_of (files name) + sizes files s.earlier) x s.entry s.fault) number s.is;
      is_said = refl;
    }

project_read : (files : Files) (name : List ℕ) → Irrefutable (((P : Project) × HeldProject files name P) ⊎ ((said : List ℕ) × (f : Fault) × FirstFault files name said f))
project_read files name =
    cases (file_with files name (files name) refl)
    (λ h. cases (entries_read files h.0.entries (size_of (files name)) 1)
    (λ ms. pure (inl (record { file = h.0; modules = ms.0 }, record { file = h.1; modules = ms.1 })))
    (λ s. pure (inr (said_at name s, s.fault, first_at_entry files name h.0 (said_at name s) s.fault h.1 (refused files name h.0.entries s)))))
    (λ h. pure (inr (name, h.0, first_in_project files name h.0 h.1)))

-- no folder has neither a project nor a first fault under a name
pub held_or_first_fault : (files : Files) (name : List ℕ) → ((P : Project) → ¬ (HeldProject files name P)) → ((said : List ℕ) (f : Fault) → ¬ (FirstFault files name said f)) → ⊥
held_or_first_fault files name none right = project_read files name by
  where
    by : ((P : Project) × HeldProject files name P) ⊎ ((said : List ℕ) × (f : Fault) × FirstFault files name said f) → ⊥
    by (inl h) = none h.0 h.1
    by (inr h) = right h.0 h.1 h.2
