-- A folder holds one project under a name, or that has one first fault.
use Rattle.std.proofs.Common.{◌≡◌, inl, inr, ℕ, zero, suc, ◌+◌, true, List, [], ◌∷◌, map, take, length, slice_get, Option, Some, None, refl, sym, ap, ◌∙◌, subst, arith}
use Rattle.std.proofs.lemmas.Bool.Decides.{nat_tests}
use Rattle.std.proofs.lemmas.List.Sums.{sum_by-cons}
use Rattle.up_base.specs.Outside.{Files}
use Rattle.up_base.specs.declared.place.Fault.{Fault}
use Rattle.vb_tree.specs.declared.project.Entry.{Entry}
use Rattle.vb_tree.specs.declared.project.ProjectFile.{ProjectFile}
use Rattle.vb_tree.specs.declared.token.Line.{Line}
use Rattle.vb_tree.specs.LogicalLines.{readings, first_fault}
use Rattle.vb_tree.specs.ProjectLines.{HasNoFault, IsFirstFault, ComesFirst, rank, is_fault, lines_of, project_file}
use Rattle.vb_tree.specs.Tree.{Module, Project}
use Rattle.vb_lexer.specs.Answers.{Lexes}
use Rattle.vb_lines.specs.Modules.{IsModule, IsModuleFault, head_of}
use Rattle.vb_lines.proofs.OneAnswer.{head_module_once, head_fault_once, head_module_or_fault}
use Rattle.project_loader.specs.Texts.{HeldText, IsTooLong, size_of, decoded}
use Rattle.project_loader.specs.Modules.{TextIsModule, TextFault, of_lines, before_lexical, lexical}
use Rattle.project_loader.specs.Held.{HeldFile, HeldEntry, HeldEntries, HeldProject, sizes}
use Rattle.project_loader.specs.Faults.{ProjectFault, no_project, long_project, project_line, EntryFault, no_module, long_module, long_together, module_line, FileFault, IsNameOf, FirstFault}

-- ---- what options tell

some_once : {A : Type 0} (o : Option A) (x y : A) → o ≡ Some x → o ≡ Some y → x ≡ y
some_once o x y p q = cc

none_or_some : {A : Type 0} (o : Option A) (x : A) → o ≡ None → o ≡ Some x → ⊥
none_or_some o x p q = cc

-- ---- one text

same_lines : (n : ℕ) (text : List ℕ) (o p : Option Fault) (ls ms : List Line) → Lexes n text o ls → Lexes n text p ms → ls ≡ ms
same_lines n text o p ls ms h k = sym h.before ∙ k.before

same_lexical : (n : ℕ) (text : List ℕ) (o p : Option Fault) (ls ms : List Line) → Lexes n text o ls → Lexes n text p ms → o ≡ p
same_lexical n text o p ls ms h k = sym h.first ∙ k.first

whole_or_lexical : (n : ℕ) (text : List ℕ) (f : Fault) (ls ms : List Line) → Lexes n text None ls → Lexes n text (Some f) ms → ⊥
whole_or_lexical n text f ls ms h k = none_or_some (first_fault (readings n text)) f h.first k.first

lexical_once : (n : ℕ) (text : List ℕ) (f g : Fault) (ls ms : List Line) → Lexes n text (Some f) ls → Lexes n text (Some g) ms → f ≡ g
lexical_once n text f g ls ms h k = some_once (first_fault (readings n text)) f g h.first k.first

-- the fault of these lines, where those are the same
moved_fault : (entry : Entry) (n : ℕ) (ls ms : List Line) (f : Fault) → ls ≡ ms → IsModuleFault n (head_of entry.class ls) f → IsModuleFault n (head_of entry.class ms) f
moved_fault entry n ls ms f e h = subst (λ x. IsModuleFault n (head_of entry.class x) f) e h

pub text_module_once : (entry : Entry) (n : ℕ) (text : List ℕ) (l m : Module) → TextIsModule entry n text l → TextIsModule entry n text m → l ≡ m
text_module_once entry n text l m h k =
    let same = same_lines n text None None k.lines h.lines k.lexed h.lexed in
    head_module_once entry n (head_of entry.class h.lines) l m h.is (subst (λ x. IsModule entry n (head_of entry.class x) m) same k.is)

pub text_module_or_fault : (entry : Entry) (n : ℕ) (text : List ℕ) (m : Module) (f : Fault) → TextIsModule entry n text m → TextFault entry n text f → ⊥
text_module_or_fault entry n text m f h (of_lines lines lexed fault) =
    head_module_or_fault entry n (head_of entry.class h.lines) m f h.is (moved_fault entry n lines h.lines f (same_lines n text None None lines h.lines lexed h.lexed) fault)
text_module_or_fault entry n text m f h (before_lexical l lines lexed fault other) = whole_or_lexical n text l h.lines lines h.lexed lexed
text_module_or_fault entry n text m f h (lexical lines lexed none) = whole_or_lexical n text f h.lines lines h.lexed lexed

pub text_fault_once : (entry : Entry) (n : ℕ) (text : List ℕ) (f g : Fault) → TextFault entry n text f → TextFault entry n text g → f ≡ g
text_fault_once entry n text f g (of_lines ls h a) (of_lines ms k b) =
    head_fault_once n (head_of entry.class ls) f g a (moved_fault entry n ms ls g (same_lines n text None None ms ls k h) b)
text_fault_once entry n text f g (of_lines ls h a) (before_lexical l ms k b other) = absurd (whole_or_lexical n text l ls ms h k)
text_fault_once entry n text f g (of_lines ls h a) (lexical ms k none) = absurd (whole_or_lexical n text g ls ms h k)
text_fault_once entry n text f g (before_lexical l ls h a other) (of_lines ms k b) = absurd (whole_or_lexical n text l ms ls k h)
text_fault_once entry n text f g (before_lexical l ls h a other) (before_lexical i ms k b more) =
    head_fault_once n (head_of entry.class ls) f g a (moved_fault entry n ms ls g (same_lines n text (Some i) (Some l) ms ls k h) b)
text_fault_once entry n text f g (before_lexical l ls h a other) (lexical ms k none) =
    absurd (other (none f (moved_fault entry n ls ms f (same_lines n text (Some l) (Some g) ls ms h k) a)))
text_fault_once entry n text f g (lexical ls h none) (of_lines ms k b) = absurd (whole_or_lexical n text f ms ls k h)
text_fault_once entry n text f g (lexical ls h none) (before_lexical l ms k b other) =
    absurd (other (none g (moved_fault entry n ms ls g (same_lines n text (Some l) (Some f) ms ls k h) b)))
text_fault_once entry n text f g (lexical ls h none) (lexical ms k more) = lexical_once n text f g ls ms h k

-- ---- one file

text_held_once : (files : Files) (name a b : List ℕ) → HeldText files name a → HeldText files name b → a ≡ b
text_held_once files name a b h k = some_once (files name) a b h.held k.held

absent_or_held : (files : Files) (name bytes : List ℕ) → files name ≡ None → HeldText files name bytes → ⊥
absent_or_held files name bytes h k = none_or_some (files name) bytes h k.held

absent_or_long : (files : Files) (name : List ℕ) → files name ≡ None → IsTooLong files name → ⊥
absent_or_long files name h k = none_or_some (files name) k.bytes h k.held

long_or_held : (files : Files) (name bytes : List ℕ) → IsTooLong files name → HeldText files name bytes → ⊥
long_or_held files name bytes h k =
    let lengths = ap length (some_once (files name) h.bytes bytes h.held k.held) in
    omega (arith, h.long, k.short)

-- ---- the project file

same_rank : (j k : ℕ) → rank j ≡ rank k → j ≡ k
same_rank j k h = grind (arith, nat_tests)

first_line_once : (lines : List (List ℕ)) (i j k l : ℕ) → IsFirstFault lines i j → IsFirstFault lines k l → (i ≡ k) × (j ≡ l)
first_line_once lines i j k l h m = by (h.first k l m.is) (m.first i j h.is)
  where
    by : ComesFirst i j k l → ComesFirst k l i j → (i ≡ k) × (j ≡ l)
    by (inl a) (inl b) = absurd (omega (arith, a, b))
    by (inl a) (inr b) = absurd (omega (arith, a, b.0))
    by (inr a) (inl b) = absurd (omega (arith, a.0, b))
    by (inr a) (inr b) = (a.0, same_rank j l (omega (arith, a.1, b.1)))

same_fault : (f g : Fault) → f.place.file ≡ g.place.file → f.place.line ≡ g.place.line → f.kind ≡ g.kind → f ≡ g
same_fault f g a b c = λ i. record { place = record { file = a i; line = b i }; kind = c i }

pub file_once : (files : Files) (name : List ℕ) (a b : ProjectFile) → HeldFile files name a → HeldFile files name b → a ≡ b
file_once files name a b h k = h.is.says ∙ ap (λ bytes. project_file (decoded bytes)) (text_held_once files name h.bytes k.bytes h.held k.held) ∙ sym k.is.says

right_or_fault : (lines : List (List ℕ)) (n k : ℕ) → HasNoFault lines → is_fault lines n k ≡ true → ⊥
right_or_fault lines n k h e = let none = h n k in cc

pub file_or_fault : (files : Files) (name : List ℕ) (file : ProjectFile) (f : Fault) → HeldFile files name file → ProjectFault files name f → ⊥
file_or_fault files name file f h (no_project absent is) = absent_or_held files name h.bytes absent h.held
file_or_fault files name file f h (long_project long is) = long_or_held files name h.bytes long h.held
file_or_fault files name file f h (project_line bytes held in_file first) =
    let same = text_held_once files name bytes h.bytes held h.held in
    right_or_fault (lines_of (decoded h.bytes)) f.place.line f.kind h.is.right (ap (λ b. is_fault (lines_of (decoded b)) f.place.line f.kind) (sym same) ∙ first.is)

pub project_fault_once : (files : Files) (name : List ℕ) (f g : Fault) → ProjectFault files name f → ProjectFault files name g → f ≡ g
project_fault_once files name f g (no_project a p) (no_project b q) = p ∙ sym q
project_fault_once files name f g (no_project a p) (long_project b q) = absurd (absent_or_long files name a b)
project_fault_once files name f g (no_project a p) (project_line bytes held in_file first) = absurd (absent_or_held files name bytes a held)
project_fault_once files name f g (long_project a p) (no_project b q) = absurd (absent_or_long files name b a)
project_fault_once files name f g (long_project a p) (long_project b q) = p ∙ sym q
project_fault_once files name f g (long_project a p) (project_line bytes held in_file first) = absurd (long_or_held files name bytes a held)
project_fault_once files name f g (project_line bytes held in_file first) (no_project b q) = absurd (absent_or_held files name bytes b held)
project_fault_once files name f g (project_line bytes held in_file first) (long_project b q) = absurd (long_or_held files name bytes b held)
project_fault_once files name f g (project_line bytes held in_file first) (project_line others other_held in_other other) =
    let same = text_held_once files name others bytes other_held held in
    let both = first_line_once (lines_of (decoded bytes)) f.place.line f.kind g.place.line g.kind first (subst (λ b. IsFirstFault (lines_of (decoded b)) g.place.line g.kind) same other) in
    same_fault f g (in_file ∙ sym in_other) both.0 both.1

-- ---- an entry's file

pub entry_or_fault : (files : Files) (before n : ℕ) (entry : Entry) (m : Module) (f : Fault) → HeldEntry files before n entry m → EntryFault files before n entry f → ⊥
entry_or_fault files before n entry m f h (no_module absent is) = absent_or_held files entry.file h.bytes absent h.held
entry_or_fault files before n entry m f h (long_module long is) = long_or_held files entry.file h.bytes long h.held
entry_or_fault files before n entry m f h (long_together bytes held long is) = let within = h.within in omega (arith, long, within)
entry_or_fault files before n entry m f h (module_line bytes held within fault) =
    text_module_or_fault entry n (decoded h.bytes) m f h.is (subst (λ b. TextFault entry n (decoded b) f) (text_held_once files entry.file bytes h.bytes held h.held) fault)

pub entry_fault_once : (files : Files) (before n : ℕ) (entry : Entry) (f g : Fault) → EntryFault files before n entry f → EntryFault files before n entry g → f ≡ g
entry_fault_once files before n entry f g (no_module a p) (no_module b q) = p ∙ sym q
entry_fault_once files before n entry f g (no_module a p) (long_module b q) = absurd (absent_or_long files entry.file a b)
entry_fault_once files before n entry f g (no_module a p) (long_together bytes held b q) = absurd (absent_or_held files entry.file bytes a held)
entry_fault_once files before n entry f g (no_module a p) (module_line bytes held b q) = absurd (absent_or_held files entry.file bytes a held)
entry_fault_once files before n entry f g (long_module a p) (no_module b q) = absurd (absent_or_long files entry.file b a)
entry_fault_once files before n entry f g (long_module a p) (long_module b q) = p ∙ sym q
entry_fault_once files before n entry f g (long_module a p) (long_together bytes held b q) = p ∙ sym q
entry_fault_once files before n entry f g (long_module a p) (module_line bytes held b q) = absurd (long_or_held files entry.file bytes a held)
entry_fault_once files before n entry f g (long_together bytes held a p) (no_module b q) = absurd (absent_or_held files entry.file bytes b held)
entry_fault_once files before n entry f g (long_together bytes held a p) (long_module b q) = p ∙ sym q
entry_fault_once files before n entry f g (long_together bytes held a p) (long_together others other_held b q) = p ∙ sym q
entry_fault_once files before n entry f g (long_together bytes held a p) (module_line others other_held b q) = absurd (omega (arith, a, b))
entry_fault_once files before n entry f g (module_line bytes held a p) (no_module b q) = absurd (absent_or_held files entry.file bytes b held)
entry_fault_once files before n entry f g (module_line bytes held a p) (long_module b q) = absurd (long_or_held files entry.file bytes b held)
entry_fault_once files before n entry f g (module_line bytes held a p) (long_together others other_held b q) = absurd (omega (arith, a, b))
entry_fault_once files before n entry f g (module_line bytes held a p) (module_line others other_held b q) =
    text_fault_once entry n (decoded bytes) f g p (subst (λ x. TextFault entry n (decoded x) g) (text_held_once files entry.file others bytes other_held held) q)

-- ---- all entries

pub sizes_cons : (files : Files) (e : Entry) (es : List Entry) → sizes files (e ∷ es) ≡ size_of (files e.file) + sizes files es
sizes_cons files e es = sum_by-cons (λ (e : Entry). size_of (files e.file)) e es

-- of entries that hold modules none has a fault
pub entries_or_fault : (files : Files) (before k : ℕ) (entries : List Entry) (ms : List Module) (i : ℕ) (entry : Entry) (f : Fault) → HeldEntries files before k entries ms → slice_get entries i ≡ Some entry → EntryFault files (before + sizes files (take i entries)) (k + i) entry f → ⊥
entries_or_fault files before k [] ms i entry f h at fault = none_or_some None entry refl at
entries_or_fault files before k (e ∷ es) [] i entry f h at fault = absurd h
entries_or_fault files before k (e ∷ es) (m ∷ ms) zero entry f h at fault =
    let same : entry ≡ e = some_once (Some e) entry e at refl in
    let bytes : before + 0 ≡ before = omega arith in
    let number : k + 0 ≡ k = omega arith in
    entry_or_fault files before k e m f h.0 (subst (λ x. EntryFault files before k x f) same (subst (λ x. EntryFault files before x entry f) number (subst (λ x. EntryFault files x (k + 0) entry f) bytes fault)))
entries_or_fault files before k (e ∷ es) (m ∷ ms) (suc i) entry f h at fault =
    let size = size_of (files e.file) in
    let more = sizes files (take i es) in
    let parts : sizes files (e ∷ take i es) ≡ size + more = sizes_cons files e (take i es) in
    let bytes : before + sizes files (e ∷ take i es) ≡ (before + size) + more = omega (arith, parts) in
    let number : k + suc i ≡ (k + 1) + i = omega arith in
    entries_or_fault files (before + size) (k + 1) es ms i entry f h.1 at
    (subst (λ x. EntryFault files ((before + size) + more) x entry f) number (subst (λ x. EntryFault files x (k + suc i) entry f) bytes fault))

entries_once : (files : Files) (before k : ℕ) (entries : List Entry) (ms ns : List Module) → HeldEntries files before k entries ms → HeldEntries files before k entries ns → ms ≡ ns
entries_once files before k [] [] [] h g = refl
entries_once files before k [] [] (n ∷ ns) h g = absurd g
entries_once files before k [] (m ∷ ms) ns h g = absurd h
entries_once files before k (e ∷ es) [] ns h g = absurd h
entries_once files before k (e ∷ es) (m ∷ ms) [] h g = absurd g
entries_once files before k (e ∷ es) (m ∷ ms) (n ∷ ns) h g =
    let bytes = text_held_once files e.file g.0.bytes h.0.bytes g.0.held h.0.held in
    let first = text_module_once e k (decoded h.0.bytes) m n h.0.is (subst (λ b. TextIsModule e k (decoded b) n) bytes g.0.is) in
    ap (λ x. x ∷ ms) first ∙ ap (λ xs. n ∷ xs) (entries_once files (before + size_of (files e.file)) (k + 1) es ms ns h.1 g.1)

-- ---- the project

pub file_fault_once : (files : Files) (name : List ℕ) (k : ℕ) (f g : Fault) → FileFault files name k f → FileFault files name k g → f ≡ g
file_fault_once files name zero f g h m = project_fault_once files name f g h m
file_fault_once files name (suc k) f g h m =
    let file = file_once files name m.0 h.0 m.1 h.1 in
    let at : slice_get h.0.entries k ≡ Some m.2 = ap (λ (x : ProjectFile). slice_get x.entries k) (sym file) ∙ m.3 in
    let entry : m.2 ≡ h.2 = some_once (slice_get h.0.entries k) m.2 h.2 at h.3 in
    let size = size_of (files name) in
    let fault : EntryFault files (size + sizes files (take k h.0.entries)) (suc k) m.2 g = subst (λ (x : ProjectFile). EntryFault files (size + sizes files (take k x.entries)) (suc k) m.2 g) file m.4 in
    entry_fault_once files (size + sizes files (take k h.0.entries)) (suc k) h.2 f g h.4 (subst (λ x. EntryFault files (size + sizes files (take k h.0.entries)) (suc k) x g) entry fault)

name_once : (files : Files) (name : List ℕ) (k : ℕ) (s t : List ℕ) → IsNameOf files name k s → IsNameOf files name k t → s ≡ t
name_once files name zero s t h m = h ∙ sym m
name_once files name (suc k) s t h m =
    let file = file_once files name m.0 h.0 m.1 h.1 in
    some_once (slice_get (map (λ (e : Entry). e.file) h.0.entries) k) s t h.2 (ap (λ (x : ProjectFile). slice_get (map (λ (e : Entry). e.file) x.entries) k) (sym file) ∙ m.2)

pub first_fault_once : (files : Files) (name s t : List ℕ) (f g : Fault) → FirstFault files name s f → FirstFault files name t g → (s ≡ t) × (f ≡ g)
first_fault_once files name s t f g h m =
    let low = h.first m.read g m.fault in
    let high = m.first h.read f h.fault in
    let read : m.read ≡ h.read = omega (arith, low, high) in
    let faults : f ≡ g = file_fault_once files name h.read f g h.fault (subst (λ k. FileFault files name k g) read m.fault) in
    (name_once files name f.place.file s t h.is_said (subst (λ (x : Fault). IsNameOf files name x.place.file t) (sym faults) m.is_said), faults)

held_or_file_fault : (files : Files) (name : List ℕ) (P : Project) (k : ℕ) (f : Fault) → HeldProject files name P → FileFault files name k f → ⊥
held_or_file_fault files name P zero f h fault = file_or_fault files name P.file f h.file fault
held_or_file_fault files name P (suc k) f h fault =
    let file = file_once files name fault.0 P.file fault.1 h.file in
    let at : slice_get P.file.entries k ≡ Some fault.2 = ap (λ (x : ProjectFile). slice_get x.entries k) (sym file) ∙ fault.3 in
    let size = size_of (files name) in
    let moved : EntryFault files (size + sizes files (take k P.file.entries)) (suc k) fault.2 f = subst (λ (x : ProjectFile). EntryFault files (size + sizes files (take k x.entries)) (suc k) fault.2 f) file fault.4 in
    let number : suc k ≡ 1 + k = omega arith in
    entries_or_fault files size 1 P.file.entries P.modules k fault.2 f h.modules at (subst (λ x. EntryFault files (size + sizes files (take k P.file.entries)) x fault.2 f) number moved)

pub held_or_fault : (files : Files) (name said : List ℕ) (P : Project) (f : Fault) → HeldProject files name P → ¬ (FirstFault files name said f)
held_or_fault files name said P f h m = held_or_file_fault files name P m.read f h m.fault

pub project_once : (files : Files) (name : List ℕ) (P Q : Project) → HeldProject files name P → HeldProject files name Q → P ≡ Q
project_once files name P Q h m =
    let file = file_once files name Q.file P.file m.file h.file in
    let entries = ap (λ (x : ProjectFile). x.entries) file in
    let modules = entries_once files (size_of (files name)) 1 P.file.entries P.modules Q.modules h.modules (subst (λ es. HeldEntries files (size_of (files name)) 1 es Q.modules) entries m.modules) in
    ap (λ x. record { file = x; modules = P.modules }) (sym file) ∙ ap (λ x. record { file = Q.file; modules = x }) modules
