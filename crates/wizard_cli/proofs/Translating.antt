-- What is read before files are written or compared, and where that stops.
use Rattle.std.proofs.Common.{◌≡◌, inl, inr, ℕ, suc, ◌+◌, ◌≤◌, List, [], ◌∷◌, ◌++◌, length, length-append, slice_get, Option, Some, None, refl, sym, ap, ◌∙◌, subst, arith}
use Rattle.std.specs.Prelude.{IfSome}
use Rattle.up_base.specs.Outside.{Files, IfTold, Rose}
use Rattle.up_base.specs.declared.place.Fault.{Fault}
use Rattle.vb_tree.specs.Tree.{Project}
use Rattle.project_loader.specs.declared.loading.LoadFail.{LoadFail}
use Rattle.project_loader.specs.declared.loading.LoadFail.TheVariants as load
use Rattle.project_loader.specs.Faults.{FirstFault, file_names}
use Rattle.project_loader.specs.Held.{HeldProject, IsOfGrammar}
use Rattle.project_loader.specs.Loading.{OnFailed, ReadingOrder, ReadsAll, ReadsUpTo, StopsLoading}
use Rattle.settings_file.specs.Settings.{Given}
use Rattle.wizard_cli.specs.declared.answer.Answer.{Answer}
use Rattle.wizard_cli.specs.declared.answer.Answer.TheVariants.{Done, Same, Differs, Made, Rules, BadWords, SettingsRefused, Refused, ReadFault, WriteFault, OutOfMemory}
use Rattle.wizard_cli.specs.declared.upgrading.WrittenFiles.{WrittenFiles}
use Rattle.wizard_cli.specs.Answers.{answer_to}
use Rattle.wizard_cli.specs.Runs.{CheckAnswer, ComesTo, HasFault, OnFault, StopsReading, Told, Translates, UpgradeAnswer, files_written, names_read}
use Rattle.wizard_cli.specs.Settings.{AreSet, settings_names}
use Rattle.wizard_cli.specs.Steps.{CompareAnswer, ComparesTo, StopsAtSettings, StopsTranslating}
use Rattle.wizard_cli.specs.Upgrading.{AreFiles, AreToWrite}
use Rattle.wizard_cli.proofs.Upgrades.{translated}

-- ---- counts

-- calls after calls
pub calls_then : (b m a : Option ℕ) (p q : ℕ) → IfTold b m (λ x y. y ≡ x + p) → IfTold m a (λ x y. y ≡ x + q) → IfTold b a (λ x y. y ≡ x + (p + q))
calls_then b m None p q first then = tt
calls_then b None (Some z) p q first then = absurd then
calls_then None (Some y) (Some z) p q first then = absurd first
calls_then (Some x) (Some y) (Some z) p q first then = omega (arith, first, then)

counted : (b a : Option ℕ) (p q : ℕ) → p ≡ q → IfTold b a (λ x y. y ≡ x + p) → IfTold b a (λ x y. y ≡ x + q)
counted b a p q same h = subst (λ n. IfTold b a (λ x y. y ≡ x + n)) same h

pub rose_before : (a b c : ℕ) → Rose a b → b ≤ c → Rose a c
rose_before a b c rose later = omega (arith, rose)

-- ---- what is to be written

both_told : (P Q : Files → Type 0) (held now : Option Files) → now ≡ held → IfSome held P → IfSome now Q → IfSome held (λ files. P files × Q files)
both_told P Q held now same p q = by held p (subst (λ h. IfSome h Q) same q)
  where
    by : (h : Option Files) → IfSome h P → IfSome h Q → IfSome h (λ files. P files × Q files)
    by None p q = tt
    by (Some files) p q = (p, q)

pub to_write : (held now : Option Files) (b m a : Option ℕ) (name : List ℕ) (settings : Option (List ℕ)) (given : Given) (P : Project) (u : WrittenFiles) → now ≡ held → IfSome held (λ files. AreSet files settings given) → ReadsAll b m (settings_names settings)
    → IfSome now (λ files. HeldProject files name P) → ReadsAll m a (file_names name P.file.entries) → IsOfGrammar P → AreFiles name P given u → AreToWrite held b a name settings u
to_write held now b m a name settings given P u same set first project then grammar are = record {
  project = P;
  given = given;
  told = both_told (λ files. AreSet files settings given) (λ files. HeldProject files name P) held now same set project;
  grammar = grammar;
  reads = counted b a _ _ (sym (length-append (settings_names settings) (file_names name P.file.entries))) (calls_then b m a (length (settings_names settings)) (length (file_names name P.file.entries)) first then);
  are = are;
}

-- ---- where that stops

refused_later : (held now : Option Files) (name : List ℕ) (settings : Option (List ℕ)) (given : Given) (said : List ℕ) (fault : Fault) → now ≡ held → IfSome held (λ files. AreSet files settings given) → IfSome now (λ files. FirstFault files name said fault)
    → IfSome held (λ files. HasFault files name settings said fault)
refused_later held now name settings given said fault same set first = by held set (subst (λ h. IfSome h (λ files. FirstFault files name said fault)) same first)
  where
    by : (h : Option Files) → IfSome h (λ files. AreSet files settings given) → IfSome h (λ files. FirstFault files name said fault) → IfSome h (λ files. HasFault files name settings said fault)
    by None set first = tt
    by (Some files) set first = ((given, set), first)

behind_settings : (settings : Option (List ℕ)) (order : List (List ℕ)) (k : ℕ) (said : List ℕ) → slice_get order k ≡ Some said → slice_get (settings_names settings ++ order) (length (settings_names settings) + k) ≡ Some said
behind_settings None order k said h = let same : 0 + k ≡ k = omega arith in ap (λ n. slice_get order n) same ∙ h
behind_settings (Some name) order k said h = let same : 1 + k ≡ suc k = omega arith in ap (λ n. slice_get (name ∷ order) n) same ∙ h

read_up_to : (b m a : Option ℕ) (settings : Option (List ℕ)) (order : List (List ℕ)) (said : List ℕ) → ReadsAll b m (settings_names settings) → ReadsUpTo m a order said → ReadsUpTo b a (settings_names settings ++ order) said
read_up_to b m None settings order said first then = tt
read_up_to b None (Some z) settings order said first then = absurd then
read_up_to None (Some y) (Some z) settings order said first then = absurd first
read_up_to (Some x) (Some y) (Some z) settings order said first then =
    (length (settings_names settings) + then.0, omega (arith, first, then.1), behind_settings settings order then.0 said then.2)

pub stops_later : (held now : Option Files) (b m a : Option ℕ) (name : List ℕ) (settings : Option (List ℕ)) (given : Given) (fail : LoadFail) → now ≡ held → IfSome held (λ files. AreSet files settings given) → ReadsAll b m (settings_names settings)
    → StopsLoading now m a name fail → StopsTranslating held b a name settings (answer_to fail)
stops_later held now b m a name settings given (load.Refused said fault) same set first h = refused_later held now name settings given said fault same set h
stops_later held now b m a name settings given (load.Failed said) same set first h =
    (settings_names settings ++ h.0, (h.0, subst (λ o. ReadingOrder o name h.0) same h.1, refl), read_up_to b m a settings h.0 said first h.2)
stops_later held now b m a name settings given load.Mem same set first h = tt

one_read : (b a : Option ℕ) (said file : List ℕ) → IfTold b a (λ x y. y ≡ x + 1) → ReadsUpTo b a (said ∷ file ∷ []) said
one_read b None said file h = tt
one_read None (Some y) said file h = absurd h
one_read (Some x) (Some y) said file h = (0, h, refl)

-- where no settings were read, nothing else was
pub stops_first : (held : Option Files) (b a : Option ℕ) (name : List ℕ) (settings : Option (List ℕ)) (answer : Answer) → StopsAtSettings held b a settings answer → StopsTranslating held b a name settings answer
stops_first held b a name settings (Done n) h = absurd h
stops_first held b a name settings (Same n) h = absurd h
stops_first held b a name settings (Differs said) h = absurd h
stops_first held b a name settings (Made numbers) h = absurd h
stops_first held b a name settings Rules h = absurd h
stops_first held b a name settings BadWords h = absurd h
stops_first held b a name settings (SettingsRefused said) h = h
stops_first held b a name settings (Refused said fault) h = absurd h
stops_first held b a name settings (ReadFault said) h =
    subst (λ s. StopsReading held b a name s said) (sym h.0) (said ∷ name ∷ [], (name ∷ [], inl refl, refl), one_read b a said name h.1)
stops_first held b a name settings (WriteFault said) h = absurd h
stops_first held b a name settings OutOfMemory h = tt

-- a failure of the loading is one of the whole
pub failed_later : (R : ℕ → ℕ → Type 0) (W : Type 0) (a b c : ℕ) (fail : LoadFail) → (R b c → R a c) → OnFailed (R b c) fail → OnFault (answer_to fail) (R a c) W
failed_later R W a b c (load.Refused said fault) later h = tt
failed_later R W a b c (load.Failed said) later h = later h
failed_later R W a b c load.Mem later h = tt

-- a failure that is known before more is done
pub failed_before : (P Q V W : Type 0) (answer : Answer) → (P → Q) → (V → W) → OnFault answer P V → OnFault answer Q W
failed_before P Q V W (Done n) f g h = tt
failed_before P Q V W (Same n) f g h = tt
failed_before P Q V W (Differs said) f g h = tt
failed_before P Q V W (Made numbers) f g h = tt
failed_before P Q V W Rules f g h = tt
failed_before P Q V W BadWords f g h = tt
failed_before P Q V W (SettingsRefused said) f g h = tt
failed_before P Q V W (Refused said fault) f g h = tt
failed_before P Q V W (ReadFault said) f g h = f h
failed_before P Q V W (WriteFault said) f g h = g h
failed_before P Q V W OutOfMemory f g h = tt

-- where there is nothing to write, the upgrade ends so
pub upgrade_stops : (told : Told) (untouched : Type 0) (name : List ℕ) (settings : Option (List ℕ)) (answer : Answer) → untouched → StopsTranslating told.held told.reads_before told.reads_after name settings answer → UpgradeAnswer told untouched name settings answer
upgrade_stops told untouched name settings (Done n) same h = absurd h
upgrade_stops told untouched name settings (Same n) same h = absurd h
upgrade_stops told untouched name settings (Differs said) same h = absurd h
upgrade_stops told untouched name settings (Made numbers) same h = absurd h
upgrade_stops told untouched name settings Rules same h = absurd h
upgrade_stops told untouched name settings BadWords same h = absurd h
upgrade_stops told untouched name settings (SettingsRefused said) same h = (h.0, h.1, same)
upgrade_stops told untouched name settings (Refused said fault) same h = (h, same)
upgrade_stops told untouched name settings (ReadFault said) same h = (h, same)
upgrade_stops told untouched name settings (WriteFault said) same h = absurd h
upgrade_stops told untouched name settings OutOfMemory same h = same

-- and so does the check
pub check_stops : (held : Option Files) (b a : Option ℕ) (name : List ℕ) (settings : Option (List ℕ)) (answer : Answer) → StopsTranslating held b a name settings answer → CheckAnswer held b a name settings answer
check_stops held b a name settings (Done n) h = absurd h
check_stops held b a name settings (Same n) h = absurd h
check_stops held b a name settings (Differs said) h = absurd h
check_stops held b a name settings (Made numbers) h = absurd h
check_stops held b a name settings Rules h = absurd h
check_stops held b a name settings BadWords h = absurd h
check_stops held b a name settings (SettingsRefused said) h = h
check_stops held b a name settings (Refused said fault) h = h
check_stops held b a name settings (ReadFault said) h = inl h
check_stops held b a name settings (WriteFault said) h = absurd h
check_stops held b a name settings OutOfMemory h = tt

-- how the comparing ended is how the check did
pub ends_comparing : (held now : Option Files) (b m a : Option ℕ) (name : List ℕ) (settings : Option (List ℕ)) (u : WrittenFiles) (answer : Answer) → now ≡ held → AreToWrite held b m name settings u
    → CompareAnswer u.files.items u.issues now m a answer → CheckAnswer held b a name settings answer
ends_comparing held now b m a name settings u answer same w compared =
    by answer (subst (λ fs. CompareAnswer fs u.issues held m a answer) w.are.files (subst (λ h. CompareAnswer u.files.items u.issues h m a answer) same compared))
  where
    t : Translates held name settings u.issues
    t = translated held b m name settings u w

    comes : (said : List ℕ) (place : ℕ) (bytes : List ℕ) → slice_get (files_written t) place ≡ Some (said, bytes) → ComparesTo (files_written t) held m a place → ComesTo held b a name settings said
    comes said place bytes is c = record {
      count = u.issues;
      translates = t;
      place = place;
      bytes = bytes;
      is_said = is;
      same = c.same;
      calls = calls_then b m a (length (names_read t)) (place + 1) w.reads c.calls;
    }

    by : (answer : Answer) → CompareAnswer (files_written t) u.issues held m a answer → CheckAnswer held b a name settings answer
    by (Done n) c = absurd c
    by (Same n) c =
        subst (λ k. CheckAnswer held b a name settings (Same k)) (sym c.0)
        (record { translates = t; same = c.1; calls = calls_then b m a (length (names_read t)) (length (files_written t)) w.reads c.2 })
    by (Differs said) c = record { comes = comes said c.0 c.1 c.2 c.3; unlike = c.4 }
    by (Made numbers) c = absurd c
    by Rules c = absurd c
    by BadWords c = absurd c
    by (SettingsRefused said) c = absurd c
    by (Refused said fault) c = absurd c
    by (ReadFault said) c = inr (comes said c.0 c.1 c.2 c.3)
    by (WriteFault said) c = absurd c
    by OutOfMemory c = tt
