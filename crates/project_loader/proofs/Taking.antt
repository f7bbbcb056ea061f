-- One entry after the other.
use Rattle.std.proofs.Common.{◌≡◌, ◌⊎◌, inl, inr, ℕ, ◌+◌, ◌-◌, ◌<◌, ◌≤◌, Bool, true, false, ◌==◌, if◌then◌else◌, List, [], ◌∷◌, ◌++◌, append_assoc, map, length, take, drop, get_or, take_all, Option, Some, None, Result, Ok, Err, IfSome, IfErr, IsErrAnd, refl, sym, ap, ◌∙◌, subst, arith}
use Rattle.std.proofs.lemmas.Bool.Decides.{nat_tests}
use Rattle.std.proofs.lemmas.List.Sums.{sum_by-append}
use Rattle.up_base.specs.Outside.{Files, IfTold, CountsCall, Rose}
use Rattle.up_base.specs.declared.place.Fault.{Fault}
use Rattle.up_base.specs.declared.place.ReadFail.{ReadFail}
use Rattle.up_base.specs.declared.place.ReadFail.TheVariants as fail
use Rattle.vb_tree.specs.declared.module.Module6.{Module6}
use Rattle.vb_tree.specs.declared.project.Entry.{Entry}
use Rattle.vb_tree.specs.declared.token.Line.{Line}
use Rattle.vb_tree.specs.Tree.{Module}
use Rattle.vb_tree.specs.View.{module_of}
use Rattle.vb_lexer.specs.Answers.{Lexes}
use Rattle.vb_lines.specs.Modules.{IsModuleFault, IsModuleAnswer, head_of}
use Rattle.vb_lines.proofs.OneAnswer.{head_fault_once, head_module_or_fault}
use Rattle.project_loader.specs.declared.loading.LoadFail.{LoadFail}
use Rattle.project_loader.specs.declared.loading.LoadFail.TheVariants as load
use Rattle.project_loader.specs.declared.modules.ModuleList.{ModuleList}
use Rattle.project_loader.specs.declared.texts.Stop.{Stop}
use Rattle.project_loader.specs.declared.texts.Stop.TheVariants as stop
use Rattle.project_loader.specs.Texts.{HeldText, total_limit, size_of, decoded}
use Rattle.project_loader.specs.Modules.{TextIsModule, TextFault, of_lines, before_lexical, lexical}
use Rattle.project_loader.specs.Held.{HeldEntry, HeldEntries, AreModules, sizes}
use Rattle.project_loader.specs.Faults.{EntryFault, fault_at, no_module, long_module, long_together, module_line}
use Rattle.project_loader.specs.Loading.{OnFailed}
use Rattle.project_loader.proofs.Unique.{sizes_cons}
use Rattle.project_loader.specs.Steps.{first_of, IfFault, OnStop, OnFault, stop_of, UnreadFault, TakesEntry, HasTaken, EntryRefused, StopsAtEntry, fail_of, said_of}

-- ---- lists of modules, and one more

abbrev Texts : Entry → ℕ → Module → Type 0
Texts entry k m = (bytes : List ℕ) × TextIsModule entry k (decoded bytes) m

texts_push : (k : ℕ) (es : List Entry) (ms : List Module) (e : Entry) (m : Module) (n : ℕ) → n ≡ k + length es → AreModules k es ms → Texts e n m → AreModules k (es ++ e ∷ []) (ms ++ m ∷ [])
texts_push k [] [] e m n at h t =
    let same : n ≡ k = omega (arith, at) in
    (subst (λ x. Texts e x m) same t, tt)
texts_push k [] (x ∷ ms) e m n at h t = absurd h
texts_push k (x ∷ es) [] e m n at h t = absurd h
texts_push k (x ∷ es) (y ∷ ms) e m n at h t =
    let same : n ≡ (k + 1) + length es = omega (arith, at) in
    (h.0, texts_push (k + 1) es ms e m n same h.1 t)

held_push : (files : Files) (before k : ℕ) (es : List Entry) (ms : List Module) (e : Entry) (m : Module) (b n : ℕ) → b ≡ before + sizes files es → n ≡ k + length es → HeldEntries files before k es ms → HeldEntry files b n e m → HeldEntries files before k (es ++ e ∷ []) (ms ++ m ∷ [])
held_push files before k [] [] e m b n size at h t =
    let number : n ≡ k = omega (arith, at) in
    let bytes : b ≡ before = omega (arith, size) in
    (subst (λ x. HeldEntry files before x e m) number (subst (λ x. HeldEntry files x n e m) bytes t), tt)
held_push files before k [] (x ∷ ms) e m b n size at h t = absurd h
held_push files before k (x ∷ es) [] e m b n size at h t = absurd h
held_push files before k (x ∷ es) (y ∷ ms) e m b n size at h t =
    let number : n ≡ (k + 1) + length es = omega (arith, at) in
    let parts = sizes_cons files x es in
    let bytes : b ≡ (before + size_of (files x.file)) + sizes files es = omega (arith, size, parts) in
    (h.0, held_push files (before + size_of (files x.file)) (k + 1) es ms e m b n bytes number h.1 t)

sizes_push : (files : Files) (es : List Entry) (e : Entry) → sizes files (es ++ e ∷ []) ≡ sizes files es + size_of (files e.file)
sizes_push files es e =
    let parts = sum_by-append (λ (e : Entry). size_of (files e.file)) es (e ∷ []) in
    let one = sizes_cons files e [] in
    omega (arith, parts, one)

length_push : (es : List Entry) (e : Entry) → length (es ++ e ∷ []) ≡ length es + 1
length_push [] e = refl
length_push (x ∷ es) e = let more = length_push es e in omega (arith, more)

-- one more entry is taken
pub taken_more : (held : Option Files) (before : ℕ) (es : List Entry) (entry : Entry) (a b : ModuleList) → HasTaken held before es a → TakesEntry held entry a b → HasTaken held before (es ++ entry ∷ []) b
taken_more held before es entry a b h t =
    let number : a.count + 1 ≡ 1 + length es = omega (arith, h.count) in
    record {
      count = t.count ∙ ap (λ n. n + 1) h.count ∙ sym (length_push es entry);
      within = t.within;
      texts = subst (AreModules 1 (es ++ entry ∷ [])) (sym t.modules) (texts_push 1 es (map module_of a.modules) entry t.m (a.count + 1) number h.texts t.text);
      told = by held h.told t.told;
    }
  where
    number_again : a.count + 1 ≡ 1 + length es
    number_again = omega (arith, h.count)

    by : (o : Option Files)
        → IfSome o (λ files. HeldEntries files before 1 es (map module_of a.modules) × (a.bytes ≡ before + sizes files es))
        → IfSome o (λ files. HeldEntry files a.bytes (a.count + 1) entry t.m × (b.bytes ≡ a.bytes + size_of (files entry.file)))
        → IfSome o (λ files. HeldEntries files before 1 (es ++ entry ∷ []) (map module_of b.modules) × (b.bytes ≡ before + sizes files (es ++ entry ∷ [])))
    by None p q = tt
    by (Some files) p q =
        let pushed = held_push files before 1 es (map module_of a.modules) entry t.m a.bytes (a.count + 1) p.1 number_again p.0 q.0 in
        let size = size_of (files entry.file) in
        let more = sizes_push files es entry in
        let total : b.bytes ≡ before + sizes files (es ++ entry ∷ []) = omega (arith, q.1, p.1, more) in
        (subst (HeldEntries files before 1 (es ++ entry ∷ [])) (sym t.modules) pushed, total)

-- no entry is taken yet
pub none_taken : (held : Option Files) (before : ℕ) (list : ModuleList) → list.count ≡ 0 → list.bytes ≡ before → map module_of list.modules ≡ [] → before ≤ total_limit → HasTaken held before [] list
none_taken held before list count bytes modules within =
    record {
      count = count;
      within = subst (λ n. n ≤ total_limit) (sym bytes) within;
      texts = subst (AreModules 1 []) (sym modules) tt;
      told = by held;
    }
  where
    by : (o : Option Files) → IfSome o (λ files. HeldEntries files before 1 [] (map module_of list.modules) × (list.bytes ≡ before + sizes files []))
    by None = tt
    by (Some files) =
        let total : list.bytes ≡ before + 0 = omega (arith, bytes) in
        (subst (HeldEntries files before 1 []) (sym modules) tt, total)

-- ---- calls

pub calls_more : (a b c : Option ℕ) (n : ℕ) → IfTold a b (λ x y. y ≡ x + n) → CountsCall b c → IfTold a c (λ x y. y ≡ x + (n + 1))
calls_more a b None n first second = tt
calls_more a None (Some z) n first second = absurd second
calls_more None (Some y) (Some z) n first second = first
calls_more (Some x) (Some y) (Some z) n first second = omega (arith, first, second)

pub no_calls : (a : Option ℕ) → IfTold a a (λ x y. y ≡ x + 0)
no_calls None = tt
no_calls (Some x) = omega arith

-- ---- where the loading stops at an entry

pub stops_at : (held : Option Files) (a b c : Option ℕ) (name : List ℕ) (before : ℕ) (done : List Entry) (entry : Entry) (later entries : List Entry) (list : ModuleList) (s : Stop) (fail : LoadFail)
    → done ++ entry ∷ later ≡ entries → HasTaken held before done list
    → IfTold a b (λ x y. y ≡ x + length done) → CountsCall b c
    → IfSome held (λ files. IfFault s (EntryFault files list.bytes (list.count + 1) entry))
    → (fail ≡ fail_of (said_of name entry.file s) s) ⊎ (fail ≡ load.Mem)
    → StopsAtEntry held a c name before entries fail
stops_at held a b c name before done entry later entries list s fail parts taken first second fault (inr mem) =
    subst (StopsAtEntry held a c name before entries) (sym mem) tt
stops_at held a b c name before done entry later entries list s fail parts taken first second fault (inl is) =
    subst (StopsAtEntry held a c name before entries) (sym is) (by s fault)
  where
    refused : (o : Option Files) (f : Fault)
        → IfSome o (λ files. HeldEntries files before 1 done (map module_of list.modules) × (list.bytes ≡ before + sizes files done))
        → IfSome o (λ files. EntryFault files list.bytes (list.count + 1) entry f)
        → IfSome o (λ files. EntryRefused files name before entries (if f.place.file == 0 then name else entry.file) f)
    refused None f p q = tt
    refused (Some files) f p q =
        let moved = subst (λ n. EntryFault files n (list.count + 1) entry f) p.1 q in
        record {
          earlier = done;
          entry = entry;
          later = later;
          parts = parts;
          modules = map module_of list.modules;
          held = p.0;
          fault = subst (λ n. EntryFault files (before + sizes files done) (n + 1) entry f) taken.count moved;
          is_said = refl;
        }

    by : (s : Stop) → IfSome held (λ files. IfFault s (EntryFault files list.bytes (list.count + 1) entry)) → StopsAtEntry held a c name before entries (fail_of (said_of name entry.file s) s)
    by (stop.Fault f) h = refused held f taken.told h
    by stop.Failed h = record { earlier = done; entry = entry; later = later; parts = parts; reads = calls_more a b c (length done) first second; is_said = refl }
    by stop.Mem h = tt

-- where the folder failed, a count rose
pub rose_later : (a b c : ℕ) → a ≤ b → Rose b c → Rose a c
rose_later a b c h r = omega (arith, h, r)

pub failed_at : (said : List ℕ) (s : Stop) (fail : LoadFail) (P : Type 0) → (fail ≡ fail_of said s) ⊎ (fail ≡ load.Mem) → (s ≡ stop.Failed → P) → OnFailed P fail
failed_at said s fail P (inr mem) h = subst (OnFailed P) (sym mem) tt
failed_at said s fail P (inl is) h = subst (OnFailed P) (sym is) (by s h)
  where
    by : (s : Stop) → (s ≡ stop.Failed → P) → OnFailed P (fail_of said s)
    by (stop.Fault f) h = tt
    by stop.Failed h = h refl
    by stop.Mem h = tt

-- ---- stops that are passed on

pub stop_passed : {T U : Type 0} (held : Option Files) (P Q : Files → Fault → Type 0) (from : Result U Stop) (result : Result T Stop) (e : Stop) → from ≡ Err e → IsErrAnd result (λ x. x ≡ e) → ((files : Files) (f : Fault) → held ≡ Some files → P files f → Q files f) → IfSome held (λ files. OnStop from (P files)) → IfSome held (λ files. OnStop result (Q files))
stop_passed None P Q from result e was is leads h = tt
stop_passed (Some files) P Q from (Ok x) e was is leads h = absurd is
stop_passed {T} {U} (Some files) P Q from (Err x) e was is leads h = rw is (by e (rw was at h))
  where
    by : (e : Stop) → OnStop {T = U} (Err e) (P files) → OnStop {T = T} (Err e) (Q files)
    by (stop.Fault f) p = leads files f refl p
    by stop.Failed p = tt
    by stop.Mem p = tt

-- the fault of a reading, as a stop
pub reading_stopped : {T U : Type 0} (P : Fault → Type 0) (from : Result U ReadFail) (result : Result T Stop) (e : ReadFail) → from ≡ Err e → IsErrAnd result (λ x. x ≡ stop_of e) → OnFault from P → OnStop result P
reading_stopped P from (Ok x) e was is h = absurd is
reading_stopped {T} {U} P from (Err x) e was is h = rw is (by e (rw was at h))
  where
    by : (e : ReadFail) → OnFault {T = U} (Err e) P → OnStop {T = T} (Err (stop_of e)) P
    by (fail.Fault f) p = p
    by fail.Mem p = tt

-- the fault of a reading, passed on
pub fault_passed : {T U : Type 0} (P Q : Fault → Type 0) (from : Result U ReadFail) (result : Result T ReadFail) (e : ReadFail) → from ≡ Err e → IsErrAnd result (λ x. x ≡ e) → ((f : Fault) → P f → Q f) → OnFault from P → OnFault result Q
fault_passed P Q from (Ok x) e was is leads h = absurd is
fault_passed {T} {U} P Q from (Err x) e was is leads h = rw is (by e (rw was at h))
  where
    by : (e : ReadFail) → OnFault {T = U} (Err e) P → OnFault {T = T} (Err e) Q
    by (fail.Fault f) p = leads f p
    by fail.Mem p = tt

-- ---- the faults of an entry's file

pub unread_fault : (files : Files) (before n : ℕ) (entry : Entry) (f : Fault) → UnreadFault files entry.file entry.line 2 f → EntryFault files before n entry f
unread_fault files before n entry f (inl h) = no_module h.0 h.1
unread_fault files before n entry f (inr h) = long_module h.0 h.1

size_held : (files : Files) (name bytes : List ℕ) → HeldText files name bytes → size_of (files name) ≡ length bytes
size_held files name bytes h = ap size_of h.held

-- with the bytes before it the file is too long
pub long_with_others : (held : Option Files) (before n : ℕ) (entry : Entry) (bytes : List ℕ) (s : Stop) → s ≡ stop.Fault (fault_at 0 entry.line 3) → total_limit < before + length bytes → IfSome held (λ files. HeldText files entry.file bytes) → IfSome held (λ files. IfFault s (EntryFault files before n entry))
long_with_others None before n entry bytes s is long h = tt
long_with_others (Some files) before n entry bytes s is long h =
    let size = size_held files entry.file bytes h in
    let above : total_limit < before + size_of (files entry.file) = omega (arith, size, long) in
    subst (λ s. IfFault s (EntryFault files before n entry)) (sym is) (long_together bytes h above refl)

-- the file's text has a fault
pub text_stopped : {T : Type 0} (held : Option Files) (before n : ℕ) (entry : Entry) (bytes : List ℕ) (result : Result T Stop) → before + length bytes ≤ total_limit → IfSome held (λ files. HeldText files entry.file bytes) → OnStop result (TextFault entry n (decoded bytes)) → IfSome held (λ files. OnStop result (EntryFault files before n entry))
text_stopped None before n entry bytes result within h fault = tt
text_stopped (Some files) before n entry bytes (Ok x) within h fault = tt
text_stopped (Some files) before n entry bytes (Err (stop.Fault f)) within h fault =
    let size = size_held files entry.file bytes h in
    let below : before + size_of (files entry.file) ≤ total_limit = omega (arith, size, within) in
    module_line bytes h below fault
text_stopped (Some files) before n entry bytes (Err stop.Failed) within h fault = tt
text_stopped (Some files) before n entry bytes (Err stop.Mem) within h fault = tt

-- one more module, with its bytes
pub takes_entry : (held : Option Files) (entry : Entry) (old new : ModuleList) (m : Module) (bytes : List ℕ) → map module_of new.modules ≡ map module_of old.modules ++ m ∷ [] → new.count ≡ old.count + 1 → new.bytes ≡ old.bytes + length bytes → old.bytes + length bytes ≤ total_limit → TextIsModule entry (old.count + 1) (decoded bytes) m → IfSome held (λ files. HeldText files entry.file bytes) → TakesEntry held entry old new
takes_entry held entry old new m bytes modules count total within is h =
    record { m = m; modules = modules; count = count; within = subst (λ n. n ≤ total_limit) (sym total) within; text = (bytes, is); told = by held h }
  where
    by : (o : Option Files) → IfSome o (λ files. HeldText files entry.file bytes) → IfSome o (λ files. HeldEntry files old.bytes (old.count + 1) entry m × (new.bytes ≡ old.bytes + size_of (files entry.file)))
    by None h = tt
    by (Some files) h =
        let size = size_held files entry.file bytes h in
        let below : old.bytes + size_of (files entry.file) ≤ total_limit = omega (arith, size, within) in
        (record { bytes = bytes; held = h; within = below; is = is }, total ∙ ap (λ n. old.bytes + n) (sym size))

-- ---- what a text is read as

pub lines_fault : (entry : Entry) (n : ℕ) (lines : List Line) (r : Result Module6 ReadFail) → IsModuleAnswer entry n lines r → OnFault r (IsModuleFault n (head_of entry.class lines))
lines_fault entry n lines (Ok m) h = tt
lines_fault entry n lines (Err (fail.Fault f)) h = h
lines_fault entry n lines (Err fail.Mem) h = tt

pub lines_stopped : {T : Type 0} (entry : Entry) (n : ℕ) (text : List ℕ) (lines : List Line) (r : Result Module6 ReadFail) (result : Result T ReadFail) (e : ReadFail) → r ≡ Err e → IsErrAnd result (λ x. x ≡ e) → Lexes n text None lines → IsModuleAnswer entry n lines r → OnFault result (TextFault entry n text)
lines_stopped entry n text lines r result e was is lexed h =
    fault_passed (IsModuleFault n (head_of entry.class lines)) (TextFault entry n text) r result e was is (λ f p. of_lines lines lexed p) (lines_fault entry n lines r h)

pub lexical_stopped : (entry : Entry) (n : ℕ) (text : List ℕ) (l : Fault) (lines : List Line) (r : Result Module6 ReadFail) → Lexes n text (Some l) lines → IsModuleAnswer entry n lines r → OnFault {T = Module6} (Err (first_of l r)) (TextFault entry n text)
lexical_stopped entry n text l lines (Ok m) lexed h =
    lexical lines lexed (λ g fault. absurd (head_module_or_fault entry n (head_of entry.class lines) (module_of m) g h fault))
lexical_stopped entry n text l lines (Err (fail.Fault f)) lexed h = by (f.kind == 12) refl
  where
    is_twelve : (k : ℕ) → (k == 12) ≡ true → k ≡ 12
    is_twelve k e = grind (arith, nat_tests)

    not_twelve : (k : ℕ) → (k == 12) ≡ false → k ≡ 12 → ⊥
    not_twelve k e is = grind (arith, nat_tests)

    by : (b : Bool) → (f.kind == 12) ≡ b → OnFault {T = Module6} (Err (if b then fail.Fault l else fail.Fault f)) (TextFault entry n text)
    by true e = lexical lines lexed (λ g fault. ap (λ x. x.kind) (head_fault_once n (head_of entry.class lines) g f fault h) ∙ is_twelve f.kind e)
    by false e = before_lexical l lines lexed h (not_twelve f.kind e)
lexical_stopped entry n text l lines (Err fail.Mem) lexed h = tt

-- ---- answers that are passed on

pub err_passed : {T U : Type 0} (P Q : LoadFail → Type 0) (from : Result U LoadFail) (result : Result T LoadFail) (e : LoadFail) → from ≡ Err e → IsErrAnd result (λ x. x ≡ e) → ((e : LoadFail) → P e → Q e) → IfErr from P → IfErr result Q
err_passed P Q from (Ok x) e was is leads h = absurd is
err_passed P Q from (Err x) e was is leads h = rw is (leads e (rw was at h))

-- ---- the entries that are left

pub first_left : (rest : List Entry) (x : Entry) → 1 ≤ length rest → x ≡ get_or rest 0 x → x ∷ take (length rest - 1) (drop 1 rest) ≡ rest
first_left [] x some is = absurd (omega (arith, some))
first_left (y ∷ rest) x some is =
    let whole : take (length (y ∷ rest) - 1) rest ≡ rest = take_all (length (y ∷ rest) - 1) rest (omega arith) in
    ap (λ z. z ∷ take (length (y ∷ rest) - 1) rest) is ∙ ap (λ zs. y ∷ zs) whole

abbrev Loaded : Option Files → Option Files → (faults_before faults_now : ℕ) → (calls_before calls_now : Option ℕ) → (before : ℕ) → List Entry → List Entry → ModuleList → Type 0
Loaded old now faults_before faults_now calls_before calls_now before entries rest list =
    (done : List Entry) × (done ++ rest ≡ entries) × HasTaken old before done list
    × IfTold calls_before calls_now (λ b a. a ≡ b + length done)
    × (now ≡ old)
    × (faults_before ≤ faults_now)

pub loaded_more : (old now next : Option Files) (faults_a faults_b faults_c : ℕ) (calls_a calls_b calls_c : Option ℕ) (before : ℕ) (entries rest after : List Entry) (entry : Entry) (list new : ModuleList)
    → entry ∷ after ≡ rest → Loaded old now faults_a faults_b calls_a calls_b before entries rest list
    → TakesEntry now entry list new → CountsCall calls_b calls_c → next ≡ now → faults_b ≤ faults_c
    → Loaded old next faults_a faults_c calls_a calls_c before entries after new
loaded_more old now next faults_a faults_b faults_c calls_a calls_b calls_c before entries rest after entry list new first loaded takes counts held faults =
    let parts : (loaded.0 ++ entry ∷ []) ++ after ≡ entries = append_assoc loaded.0 (entry ∷ []) after ∙ ap (λ es. loaded.0 ++ es) first ∙ loaded.1 in
    let same = subst (λ o. TakesEntry o entry list new) loaded.4 takes in
    let calls = subst (λ n. IfTold calls_a calls_c (λ b a. a ≡ b + n)) (sym (length_push loaded.0 entry)) (calls_more calls_a calls_b calls_c (length loaded.0) loaded.3 counts) in
    let total : faults_a ≤ faults_c = omega (arith, loaded.5, faults) in
    (loaded.0 ++ entry ∷ [], parts, taken_more old before loaded.0 entry list new loaded.2 same, calls, held ∙ loaded.4, total)
