-- Which answers are left: where the words ask for nothing, where settings are refused or the project has a fault, and where nothing fails.
use Rattle.std.proofs.Common.{◌≡◌, ◌⊎◌, ℕ, zero, suc, List, length, Option, Some, None, refl, sym, ap, ◌∙◌, subst, inl, inr, arith}
use Rattle.std.specs.Prelude.{IfSome}
use Rattle.std.proofs.lemmas.Option.{same_Some}
use Rattle.up_base.specs.Outside.{Files}
use Rattle.up_base.specs.declared.place.Fault.{Fault}
use Rattle.vb_tree.specs.Tree.{Project}
use Rattle.wizard_cli.specs.declared.answer.Answer.{Answer}
use Rattle.wizard_cli.specs.declared.answer.Answer.TheVariants.{Done, Same, Differs, Made, Rules, BadWords, SettingsRefused, Refused, ReadFault, WriteFault, OutOfMemory}
use Rattle.wizard_cli.specs.declared.answer.Status.{Status}
use Rattle.wizard_cli.specs.declared.answer.Status.TheVariants as status
use Rattle.command_words.specs.Asks.{Asks}
use Rattle.command_words.specs.declared.asked.Asked.TheVariants as asked
use Rattle.project_loader.specs.Held.{HeldProject}
use Rattle.project_loader.proofs.Unique.{first_fault_once, held_or_fault}
use Rattle.settings_file.specs.Settings.{Given, settings_of}
use Rattle.wizard_cli.specs.Answers.{done_status, status_of}
use Rattle.wizard_cli.specs.Runs.{AsksFor, CheckAnswer, Concludes, HasFault, IsAnswer, upgrades, checks, makes, lists, asks_nothing, wants_memory, IsDone, MakeAnswer, OnFault, Told, Translates, UpgradeAnswer}
use Rattle.wizard_cli.specs.Settings.{AreRefused, AreSet}
use Rattle.wizard_cli.proofs.Requests.{check_once, check_or_make, check_or_rules, for_once, for_or_make, for_or_rules, make_or_rules, upgrade_once, upgrade_or_check, upgrade_or_make, upgrade_or_rules}

-- what is concluded from an answer is its status, or the console failed
pub concluded : (P : Status → Type 0) (answer : Answer) (before after : Option (List ℕ)) (ended : Status) → Concludes answer before after ended → P (status_of answer) → P status.ConsoleFault → P ended
concluded P answer before after ended (inl h) said failed = subst P (sym h.0) said
concluded P answer before after ended (inr h) said failed = subst P (sym h.0) failed

-- what is known of what a folder held, where it tells that
told_of : {A : Type 0} (P : A → Type 0) (o : Option A) (a : A) → o ≡ Some a → IfSome o P → P a
told_of P o a e h = subst (λ x. IfSome x P) e h

-- settings that are set aren't refused
set_or_refused : (files : Files) (settings : Option (List ℕ)) (given : Given) (name : List ℕ) → settings ≡ Some name → AreSet files settings given → AreRefused files name → ⊥
set_or_refused files settings given name is set refused = by (subst (λ s. AreSet files s given) is set) refused
  where
    by : AreSet files (Some name) given → AreRefused files name → ⊥
    by set (inl absent) = let bad : None ≡ Some set.0 = sym absent ∙ set.1.held in cc bad
    by set (inr (inl long)) =
        let same : set.0 ≡ long.bytes = same_Some set.0 long.bytes (sym set.1.held ∙ long.held) in
        let size : length set.0 ≡ length long.bytes = ap length same in
        let short = set.1.short in
        let over = long.long in omega (arith, size, short, over)
    by set (inr (inr other)) =
        let same : set.0 ≡ other.0 = same_Some set.0 other.0 (sym set.1.held ∙ other.1.held) in
        let bad : Some given ≡ None = sym set.2 ∙ ap settings_of same ∙ other.2 in cc bad

-- ---- projects with faults

-- a project that is translated has no fault
translated_or_fault : (held : Option Files) (files : Files) (f : List ℕ) (s : Option (List ℕ)) (n : ℕ) (said : List ℕ) (fault : Fault) → held ≡ Some files → Translates held f s n → HasFault files f s said fault → ⊥
translated_or_fault held files f s n said fault is t has =
    held_or_fault files f said t.project fault (told_of (λ fs. AreSet fs s t.given × HeldProject fs f t.project) held files is t.told).1 has.1

-- a fault that was answered is the first
same_fault : (held : Option Files) (files : Files) (f : List ℕ) (s : Option (List ℕ)) (other said : List ℕ) (g fault : Fault) → held ≡ Some files → IfSome held (λ fs. HasFault fs f s other g) → HasFault files f s said fault → Refused other g ≡ Refused said fault
same_fault held files f s other said g fault is found has =
    let one = told_of (λ fs. HasFault fs f s other g) held files is found in
    let same = first_fault_once files f other said g fault one.1 has.1 in ap (λ n. Refused n g) same.0 ∙ ap (Refused said) same.1

abbrev RefusedOr : Answer → Answer → Type 0
RefusedOr answer want = (answer ≡ want) ⊎ (status_of answer ≡ status.ReadFault) ⊎ (status_of answer ≡ status.OutOfMemory)

upgrade_refused : (told : Told) (u : Type 0) (files : Files) (f : List ℕ) (s : Option (List ℕ)) (said : List ℕ) (fault : Fault) (answer : Answer) → told.held ≡ Some files → HasFault files f s said fault → UpgradeAnswer told u f s answer → RefusedOr answer (Refused said fault)
upgrade_refused told u files f s said fault (Done n) is has h = absurd (translated_or_fault told.held files f s n said fault is h.0.0 has)
upgrade_refused told u files f s said fault (Same n) is has h = absurd h
upgrade_refused told u files f s said fault (Differs x) is has h = absurd h
upgrade_refused told u files f s said fault (Made numbers) is has h = absurd h
upgrade_refused told u files f s said fault Rules is has h = absurd h
upgrade_refused told u files f s said fault BadWords is has h = absurd h
upgrade_refused told u files f s said fault (SettingsRefused x) is has h =
    absurd (set_or_refused files s has.0.0 x h.0 has.0.1 (told_of (λ fs. AreRefused fs x) told.held files is h.1))
upgrade_refused told u files f s said fault (Refused x g) is has h = inl (same_fault told.held files f s x said g fault is h.0 has)
upgrade_refused told u files f s said fault (ReadFault x) is has h = inr (inl refl)
upgrade_refused told u files f s said fault (WriteFault x) is has h = absurd (translated_or_fault told.held files f s h.count said fault is h.translates has)
upgrade_refused told u files f s said fault OutOfMemory is has h = inr (inr refl)

check_refused : (held : Option Files) (b a : Option ℕ) (files : Files) (f : List ℕ) (s : Option (List ℕ)) (said : List ℕ) (fault : Fault) (answer : Answer) → held ≡ Some files → HasFault files f s said fault → CheckAnswer held b a f s answer → RefusedOr answer (Refused said fault)
check_refused held b a files f s said fault (Done n) is has h = absurd h
check_refused held b a files f s said fault (Same n) is has h = absurd (translated_or_fault held files f s n said fault is h.translates has)
check_refused held b a files f s said fault (Differs x) is has h = absurd (translated_or_fault held files f s h.comes.count said fault is h.comes.translates has)
check_refused held b a files f s said fault (Made numbers) is has h = absurd h
check_refused held b a files f s said fault Rules is has h = absurd h
check_refused held b a files f s said fault BadWords is has h = absurd h
check_refused held b a files f s said fault (SettingsRefused x) is has h =
    absurd (set_or_refused files s has.0.0 x h.0 has.0.1 (told_of (λ fs. AreRefused fs x) held files is h.1))
check_refused held b a files f s said fault (Refused x g) is has h = inl (same_fault held files f s x said g fault is h has)
check_refused held b a files f s said fault (ReadFault x) is has h = inr (inl refl)
check_refused held b a files f s said fault (WriteFault x) is has h = absurd h
check_refused held b a files f s said fault OutOfMemory is has h = inr (inr refl)

pub has_fault : (words : List (List ℕ)) (told : Told) (u r : Type 0) (answer : Answer) (files : Files) (file : List ℕ) (settings : Option (List ℕ)) (said : List ℕ) (fault : Fault) → told.held ≡ Some files → AsksFor words file settings → HasFault files file settings said fault
    → IsAnswer words told u r answer → RefusedOr answer (Refused said fault)
has_fault words told u r answer files file settings said fault is asks has (upgrades f s own h) =
    let same = for_once words file f settings s asks (inl own) in
    upgrade_refused told u files f s said fault answer is (subst (λ x. HasFault files f x said fault) same.1 (subst (λ x. HasFault files x settings said fault) same.0 has)) h
has_fault words told u r answer files file settings said fault is asks has (checks f s own h same_outlet) =
    let same = for_once words file f settings s asks (inr own) in
    check_refused told.held told.reads_before told.reads_after files f s said fault answer is (subst (λ x. HasFault files f x said fault) same.1 (subst (λ x. HasFault files x settings said fault) same.0 has)) h
has_fault words told u r answer files file settings said fault is asks has (makes n own h x y) = absurd (for_or_make words file settings n asks own)
has_fault words told u r answer files file settings said fault is asks has (lists own e x y) = absurd (for_or_rules words file settings asks own)
has_fault words told u r answer files file settings said fault is asks has (asks_nothing none e x y) = absurd (elim asks [ inl h ↦ none (asked.Upgrade file settings) h | inr h ↦ none (asked.Check file settings) h ])
has_fault words told u r answer files file settings said fault is asks has (wants_memory e x y) = inr (inr (ap status_of e))

-- ---- settings that are refused

translated_or_refused : (held : Option Files) (files : Files) (f : List ℕ) (s : Option (List ℕ)) (n : ℕ) (said : List ℕ) → held ≡ Some files → s ≡ Some said → Translates held f s n → AreRefused files said → ⊥
translated_or_refused held files f s n said is named t refused =
    set_or_refused files s t.given said named (told_of (λ fs. AreSet fs s t.given × HeldProject fs f t.project) held files is t.told).0 refused

fault_or_refused : (held : Option Files) (files : Files) (f : List ℕ) (s : Option (List ℕ)) (other said : List ℕ) (g : Fault) → held ≡ Some files → s ≡ Some said → IfSome held (λ fs. HasFault fs f s other g) → AreRefused files said → ⊥
fault_or_refused held files f s other said g is named h refused =
    let one = told_of (λ fs. HasFault fs f s other g) held files is h in set_or_refused files s one.0.0 said named one.0.1 refused

same_settings : (s : Option (List ℕ)) (x said : List ℕ) → s ≡ Some x → s ≡ Some said → SettingsRefused x ≡ SettingsRefused said
same_settings s x said p q = ap (λ (n : List ℕ). SettingsRefused n) (same_Some x said (sym p ∙ q))

upgrade_set : (told : Told) (u : Type 0) (files : Files) (f : List ℕ) (s : Option (List ℕ)) (said : List ℕ) (answer : Answer) → told.held ≡ Some files → s ≡ Some said → AreRefused files said → UpgradeAnswer told u f s answer → RefusedOr answer (SettingsRefused said)
upgrade_set told u files f s said (Done n) is named bad h = absurd (translated_or_refused told.held files f s n said is named h.0.0 bad)
upgrade_set told u files f s said (Same n) is named bad h = absurd h
upgrade_set told u files f s said (Differs x) is named bad h = absurd h
upgrade_set told u files f s said (Made numbers) is named bad h = absurd h
upgrade_set told u files f s said Rules is named bad h = absurd h
upgrade_set told u files f s said BadWords is named bad h = absurd h
upgrade_set told u files f s said (SettingsRefused x) is named bad h = inl (same_settings s x said h.0 named)
upgrade_set told u files f s said (Refused x g) is named bad h = absurd (fault_or_refused told.held files f s x said g is named h.0 bad)
upgrade_set told u files f s said (ReadFault x) is named bad h = inr (inl refl)
upgrade_set told u files f s said (WriteFault x) is named bad h = absurd (translated_or_refused told.held files f s h.count said is named h.translates bad)
upgrade_set told u files f s said OutOfMemory is named bad h = inr (inr refl)

check_set : (held : Option Files) (b a : Option ℕ) (files : Files) (f : List ℕ) (s : Option (List ℕ)) (said : List ℕ) (answer : Answer) → held ≡ Some files → s ≡ Some said → AreRefused files said → CheckAnswer held b a f s answer → RefusedOr answer (SettingsRefused said)
check_set held b a files f s said (Done n) is named bad h = absurd h
check_set held b a files f s said (Same n) is named bad h = absurd (translated_or_refused held files f s n said is named h.translates bad)
check_set held b a files f s said (Differs x) is named bad h = absurd (translated_or_refused held files f s h.comes.count said is named h.comes.translates bad)
check_set held b a files f s said (Made numbers) is named bad h = absurd h
check_set held b a files f s said Rules is named bad h = absurd h
check_set held b a files f s said BadWords is named bad h = absurd h
check_set held b a files f s said (SettingsRefused x) is named bad h = inl (same_settings s x said h.0 named)
check_set held b a files f s said (Refused x g) is named bad h = absurd (fault_or_refused held files f s x said g is named h bad)
check_set held b a files f s said (ReadFault x) is named bad h = inr (inl refl)
check_set held b a files f s said (WriteFault x) is named bad h = absurd h
check_set held b a files f s said OutOfMemory is named bad h = inr (inr refl)

pub has_refused : (words : List (List ℕ)) (told : Told) (u r : Type 0) (answer : Answer) (files : Files) (file said : List ℕ) → told.held ≡ Some files → AsksFor words file (Some said) → AreRefused files said → IsAnswer words told u r answer → RefusedOr answer (SettingsRefused said)
has_refused words told u r answer files file said is asks bad (upgrades f s own h) =
    let same = for_once words file f (Some said) s asks (inl own) in upgrade_set told u files f s said answer is (sym same.1) bad h
has_refused words told u r answer files file said is asks bad (checks f s own h same_outlet) =
    let same = for_once words file f (Some said) s asks (inr own) in check_set told.held told.reads_before told.reads_after files f s said answer is (sym same.1) bad h
has_refused words told u r answer files file said is asks bad (makes n own h x y) = absurd (for_or_make words file (Some said) n asks own)
has_refused words told u r answer files file said is asks bad (lists own e x y) = absurd (for_or_rules words file (Some said) asks own)
has_refused words told u r answer files file said is asks bad (asks_nothing none e x y) = absurd (elim asks [ inl h ↦ none (asked.Upgrade file (Some said)) h | inr h ↦ none (asked.Check file (Some said)) h ])
has_refused words told u r answer files file said is asks bad (wants_memory e x y) = inr (inr (ap status_of e))

-- ---- nothing failed

pub done_ends : (n : ℕ) → IsDone (done_status n)
done_ends zero = inl refl
done_ends (suc n) = inr refl

-- where a project is held, it isn't refused
held_or_refused : (held : Option Files) (files : Files) (f : List ℕ) (s : Option (List ℕ)) (given : Given) (P : Project) (said : List ℕ) (g : Fault) → held ≡ Some files → HeldProject files f P → IfSome held (λ fs. HasFault fs f s said g) → ⊥
held_or_refused held files f s given P said g is project h = held_or_fault files f said P g project (told_of (λ fs. HasFault fs f s said g) held files is h).1

upgrade_done : (told : Told) (u R W : Type 0) (files : Files) (f : List ℕ) (s : Option (List ℕ)) (given : Given) (P : Project) (answer : Answer) → told.held ≡ Some files → AreSet files s given → HeldProject files f P → (R → ⊥) → (W → ⊥) → OnFault answer R W
    → UpgradeAnswer told u f s answer → IsDone (status_of answer) ⊎ (status_of answer ≡ status.OutOfMemory)
upgrade_done told u R W files f s given P (Done n) is set project no_read no_write cause h = inl (done_ends n)
upgrade_done told u R W files f s given P (Same n) is set project no_read no_write cause h = absurd h
upgrade_done told u R W files f s given P (Differs x) is set project no_read no_write cause h = absurd h
upgrade_done told u R W files f s given P (Made numbers) is set project no_read no_write cause h = absurd h
upgrade_done told u R W files f s given P Rules is set project no_read no_write cause h = absurd h
upgrade_done told u R W files f s given P BadWords is set project no_read no_write cause h = absurd h
upgrade_done told u R W files f s given P (SettingsRefused x) is set project no_read no_write cause h =
    absurd (set_or_refused files s given x h.0 set (told_of (λ fs. AreRefused fs x) told.held files is h.1))
upgrade_done told u R W files f s given P (Refused x g) is set project no_read no_write cause h = absurd (held_or_refused told.held files f s given P x g is project h.0)
upgrade_done told u R W files f s given P (ReadFault x) is set project no_read no_write cause h = absurd (no_read cause)
upgrade_done told u R W files f s given P (WriteFault x) is set project no_read no_write cause h = absurd (no_write cause)
upgrade_done told u R W files f s given P OutOfMemory is set project no_read no_write cause h = inr refl

abbrev CheckEnds : Status → Type 0
CheckEnds ended = IsDone ended ⊎ (ended ≡ status.Differs) ⊎ (ended ≡ status.OutOfMemory)

check_done : (held : Option Files) (b a : Option ℕ) (R W : Type 0) (files : Files) (f : List ℕ) (s : Option (List ℕ)) (given : Given) (P : Project) (answer : Answer) → held ≡ Some files → AreSet files s given → HeldProject files f P → (R → ⊥) → OnFault answer R W
    → CheckAnswer held b a f s answer → CheckEnds (status_of answer)
check_done held b a R W files f s given P (Done n) is set project no_read cause h = absurd h
check_done held b a R W files f s given P (Same n) is set project no_read cause h = inl (done_ends n)
check_done held b a R W files f s given P (Differs x) is set project no_read cause h = inr (inl refl)
check_done held b a R W files f s given P (Made numbers) is set project no_read cause h = absurd h
check_done held b a R W files f s given P Rules is set project no_read cause h = absurd h
check_done held b a R W files f s given P BadWords is set project no_read cause h = absurd h
check_done held b a R W files f s given P (SettingsRefused x) is set project no_read cause h =
    absurd (set_or_refused files s given x h.0 set (told_of (λ fs. AreRefused fs x) held files is h.1))
check_done held b a R W files f s given P (Refused x g) is set project no_read cause h = absurd (held_or_refused held files f s given P x g is project h)
check_done held b a R W files f s given P (ReadFault x) is set project no_read cause h = absurd (no_read cause)
check_done held b a R W files f s given P (WriteFault x) is set project no_read cause h = absurd h
check_done held b a R W files f s given P OutOfMemory is set project no_read cause h = inr (inr refl)

pub completes : (words : List (List ℕ)) (told : Told) (u r R W : Type 0) (answer : Answer) (files : Files) (file : List ℕ) (settings : Option (List ℕ)) (given : Given) (P : Project) → told.held ≡ Some files → Asks words (asked.Upgrade file settings) → AreSet files settings given
    → HeldProject files file P → (R → ⊥) → (W → ⊥) → OnFault answer R W → IsAnswer words told u r answer → IsDone (status_of answer) ⊎ (status_of answer ≡ status.OutOfMemory)
completes words told u r R W answer files file settings given P is asks set project no_read no_write cause (upgrades f s own h) =
    let same = upgrade_once words file f settings s asks own in
    upgrade_done told u R W files f s given P answer is (subst (λ x. AreSet files x given) same.1 set) (subst (λ x. HeldProject files x P) same.0 project) no_read no_write cause h
completes words told u r R W answer files file settings given P is asks set project no_read no_write cause (checks f s own h x) = absurd (upgrade_or_check words file f settings s asks own)
completes words told u r R W answer files file settings given P is asks set project no_read no_write cause (makes n own h x y) = absurd (upgrade_or_make words file settings n asks own)
completes words told u r R W answer files file settings given P is asks set project no_read no_write cause (lists own e x y) = absurd (upgrade_or_rules words file settings asks own)
completes words told u r R W answer files file settings given P is asks set project no_read no_write cause (asks_nothing none e x y) = absurd (none (asked.Upgrade file settings) asks)
completes words told u r R W answer files file settings given P is asks set project no_read no_write cause (wants_memory e x y) = inr (ap status_of e)

pub completes_check : (words : List (List ℕ)) (told : Told) (u r R W : Type 0) (answer : Answer) (files : Files) (file : List ℕ) (settings : Option (List ℕ)) (given : Given) (P : Project) → told.held ≡ Some files → Asks words (asked.Check file settings) → AreSet files settings given
    → HeldProject files file P → (R → ⊥) → OnFault answer R W → IsAnswer words told u r answer → CheckEnds (status_of answer)
completes_check words told u r R W answer files file settings given P is asks set project no_read cause (upgrades f s own h) = absurd (upgrade_or_check words f file s settings own asks)
completes_check words told u r R W answer files file settings given P is asks set project no_read cause (checks f s own h x) =
    let same = check_once words file f settings s asks own in
    check_done told.held told.reads_before told.reads_after R W files f s given P answer is (subst (λ x. AreSet files x given) same.1 set) (subst (λ x. HeldProject files x P) same.0 project) no_read cause h
completes_check words told u r R W answer files file settings given P is asks set project no_read cause (makes n own h x y) = absurd (check_or_make words file settings n asks own)
completes_check words told u r R W answer files file settings given P is asks set project no_read cause (lists own e x y) = absurd (check_or_rules words file settings asks own)
completes_check words told u r R W answer files file settings given P is asks set project no_read cause (asks_nothing none e x y) = absurd (none (asked.Check file settings) asks)
completes_check words told u r R W answer files file settings given P is asks set project no_read cause (wants_memory e x y) = inr (inr (ap status_of e))

make_done : (n : ℕ) (answer : Answer) → MakeAnswer n answer → IsDone (status_of answer) ⊎ (status_of answer ≡ status.OutOfMemory)
make_done n (Done m) h = absurd h
make_done n (Same m) h = absurd h
make_done n (Differs x) h = absurd h
make_done n (Made numbers) h = inl (done_ends numbers.issues)
make_done n Rules h = absurd h
make_done n BadWords h = absurd h
make_done n (SettingsRefused x) h = absurd h
make_done n (Refused x g) h = absurd h
make_done n (ReadFault x) h = absurd h
make_done n (WriteFault x) h = absurd h
make_done n OutOfMemory h = inr refl

pub completes_make : (words : List (List ℕ)) (told : Told) (u r : Type 0) (answer : Answer) (n : ℕ) → Asks words (asked.Make n) → IsAnswer words told u r answer → IsDone (status_of answer) ⊎ (status_of answer ≡ status.OutOfMemory)
completes_make words told u r answer n asks (upgrades f s own h) = absurd (upgrade_or_make words f s n own asks)
completes_make words told u r answer n asks (checks f s own h x) = absurd (check_or_make words f s n own asks)
completes_make words told u r answer n asks (makes m own h x y) = make_done m answer h
completes_make words told u r answer n asks (lists own e x y) = absurd (make_or_rules words n asks own)
completes_make words told u r answer n asks (asks_nothing none e x y) = absurd (none (asked.Make n) asks)
completes_make words told u r answer n asks (wants_memory e x y) = inr (ap status_of e)

pub completes_rules : (words : List (List ℕ)) (told : Told) (u r : Type 0) (answer : Answer) → Asks words asked.Rules → IsAnswer words told u r answer → (status_of answer ≡ status.Done) ⊎ (status_of answer ≡ status.OutOfMemory)
completes_rules words told u r answer asks (upgrades f s own h) = absurd (upgrade_or_rules words f s own asks)
completes_rules words told u r answer asks (checks f s own h x) = absurd (check_or_rules words f s own asks)
completes_rules words told u r answer asks (makes m own h x y) = absurd (make_or_rules words m own asks)
completes_rules words told u r answer asks (lists own e x y) = inl (ap status_of e)
completes_rules words told u r answer asks (asks_nothing none e x y) = absurd (none asked.Rules asks)
completes_rules words told u r answer asks (wants_memory e x y) = inr (ap status_of e)
