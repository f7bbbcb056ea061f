-- How a run ends, by the answer that it came to.
use Rattle.std.proofs.Common.{◌≡◌, ◌≢◌, ◌⊎◌, ℕ, zero, suc, List, ◌++◌, Option, Some, None, refl, sym, ap, ◌∙◌, subst, inl, inr}
use Rattle.std.specs.Prelude.{IfSome}
use Rattle.up_base.specs.Outside.{Files, IfTold}
use Rattle.up_base.specs.declared.place.Fault.{Fault}
use Rattle.vb_tree.specs.Tree.{Project}
use Rattle.wizard_cli.specs.declared.answer.Answer.{Answer}
use Rattle.wizard_cli.specs.declared.answer.Answer.TheVariants.{Done, Same, Differs, Made, Rules, BadWords, SettingsRefused, Refused, ReadFault, WriteFault, OutOfMemory}
use Rattle.wizard_cli.specs.declared.answer.Status.{Status}
use Rattle.wizard_cli.specs.declared.answer.Status.TheVariants as status
use Rattle.command_words.specs.Asks.{Asks}
use Rattle.command_words.specs.declared.asked.Asked.{Asked}
use Rattle.command_words.specs.declared.asked.Asked.TheVariants as asked
use Rattle.project_loader.specs.Held.{HeldProject}
use Rattle.settings_file.specs.Settings.{Given}
use Rattle.wizard_cli.specs.Answers.{done_status, status_of, answer_text}
use Rattle.wizard_cli.specs.Headline.{IsUpgraded}
use Rattle.wizard_cli.specs.Runs.{AsksFor, Concludes, EndsAs, HasFault, IsAnswer, upgrades, checks, makes, lists, asks_nothing, wants_memory, IsDone, IsStopped, OnFault, Told, UpgradeAnswer}
use Rattle.wizard_cli.specs.Settings.{AreRefused, AreSet}
use Rattle.wizard_cli.proofs.Complete.{concluded, has_fault, has_refused, completes, completes_check, completes_make, completes_rules}
use Rattle.wizard_cli.proofs.Requests.{upgrade_once, upgrade_or_check, upgrade_or_make, upgrade_or_rules}

-- ---- words that ask for nothing

none_asked : (words : List (List ℕ)) (told : Told) (u r : Type 0) (answer : Answer) → ((a : Asked) → ¬ (Asks words a)) → IsAnswer words told u r answer → (status_of answer ≡ status.BadWords) ⊎ (status_of answer ≡ status.OutOfMemory)
none_asked words told u r answer none (upgrades f s own h) = absurd (none (asked.Upgrade f s) own)
none_asked words told u r answer none (checks f s own h x) = absurd (none (asked.Check f s) own)
none_asked words told u r answer none (makes n own h x y) = absurd (none (asked.Make n) own)
none_asked words told u r answer none (lists own e x y) = absurd (none asked.Rules own)
none_asked words told u r answer none (asks_nothing own e x y) = inl (ap status_of e)
none_asked words told u r answer none (wants_memory e x y) = inr (ap status_of e)

pub none_asked_ends : (words : List (List ℕ)) (told : Told) (u r : Type 0) (answer : Answer) (before after : Option (List ℕ)) (ended : Status) → IsAnswer words told u r answer → Concludes answer before after ended → ((a : Asked) → ¬ (Asks words a))
    → (ended ≡ status.BadWords) ⊎ (ended ≡ status.OutOfMemory) ⊎ (ended ≡ status.ConsoleFault)
none_asked_ends words told u r answer before after ended h ends none =
    concluded (λ e. (e ≡ status.BadWords) ⊎ (e ≡ status.OutOfMemory) ⊎ (e ≡ status.ConsoleFault)) answer before after ended ends
    (elim (none_asked words told u r answer none h) [ inl e ↦ inl e | inr e ↦ inr (inl e) ]) (inr (inr refl))

-- ---- a refusal

-- a run that was to end as one answer does so, or it was stopped
ends_as : (want answer : Answer) (before after : Option (List ℕ)) (ended : Status) → Concludes answer before after ended → (answer ≡ want) ⊎ (status_of answer ≡ status.ReadFault) ⊎ (status_of answer ≡ status.OutOfMemory) → EndsAs want before after ended ⊎ IsStopped ended
ends_as want answer before after ended (inl h) (inl is) = inl (h.0 ∙ ap status_of is, subst (λ a. IfTold before after (λ old new. new ≡ old ++ answer_text a)) is h.1)
ends_as want answer before after ended (inr h) (inl is) = inr (inr (inr h.0))
ends_as want answer before after ended (inl h) (inr (inl is)) = inr (inl (h.0 ∙ is))
ends_as want answer before after ended (inr h) (inr (inl is)) = inr (inr (inr h.0))
ends_as want answer before after ended (inl h) (inr (inr is)) = inr (inr (inl (h.0 ∙ is)))
ends_as want answer before after ended (inr h) (inr (inr is)) = inr (inr (inr h.0))

pub fault_ends : (words : List (List ℕ)) (told : Told) (u r : Type 0) (answer : Answer) (before after : Option (List ℕ)) (ended : Status) → IsAnswer words told u r answer → Concludes answer before after ended → (file : List ℕ) (settings : Option (List ℕ)) → AsksFor words file settings
    → IfSome told.held (λ files. (said : List ℕ) (fault : Fault) → HasFault files file settings said fault → EndsAs (Refused said fault) before after ended ⊎ IsStopped ended)
fault_ends words told u r answer before after ended h ends file settings asks = by told.held refl
  where
    by : (o : Option Files) → told.held ≡ o → IfSome o (λ files. (said : List ℕ) (fault : Fault) → HasFault files file settings said fault → EndsAs (Refused said fault) before after ended ⊎ IsStopped ended)
    by None e = tt
    by (Some files) e = λ said fault has. ends_as (Refused said fault) answer before after ended ends (has_fault words told u r answer files file settings said fault e asks has h)

pub settings_end : (words : List (List ℕ)) (told : Told) (u r : Type 0) (answer : Answer) (before after : Option (List ℕ)) (ended : Status) → IsAnswer words told u r answer → Concludes answer before after ended → (file said : List ℕ) → AsksFor words file (Some said)
    → IfSome told.held (λ files. AreRefused files said → EndsAs (SettingsRefused said) before after ended ⊎ IsStopped ended)
settings_end words told u r answer before after ended h ends file said asks = by told.held refl
  where
    by : (o : Option Files) → told.held ≡ o → IfSome o (λ files. AreRefused files said → EndsAs (SettingsRefused said) before after ended ⊎ IsStopped ended)
    by None e = tt
    by (Some files) e = λ bad. ends_as (SettingsRefused said) answer before after ended ends (has_refused words told u r answer files file said e asks bad h)

-- ---- nothing failed

pub upgrade_ends : (words : List (List ℕ)) (told : Told) (u r R W C : Type 0) (answer : Answer) (ended : Status) → ended ≡ status_of answer → OnFault answer R W → IsAnswer words told u r answer → (file : List ℕ) (settings : Option (List ℕ)) → Asks words (asked.Upgrade file settings)
    → IfSome told.held (λ files. (given : Given) (P : Project) → AreSet files settings given → HeldProject files file P → (R → ⊥) → (W → ⊥) → (C → ⊥) → IsDone ended ⊎ (ended ≡ status.OutOfMemory))
upgrade_ends words told u r R W C answer ended is cause h file settings asks = by told.held refl
  where
    by : (o : Option Files) → told.held ≡ o → IfSome o (λ files. (given : Given) (P : Project) → AreSet files settings given → HeldProject files file P → (R → ⊥) → (W → ⊥) → (C → ⊥) → IsDone ended ⊎ (ended ≡ status.OutOfMemory))
    by None e = tt
    by (Some files) e = λ given P set project no_read no_write no_console.
        subst (λ s. IsDone s ⊎ (s ≡ status.OutOfMemory)) (sym is) (completes words told u r R W answer files file settings given P e asks set project no_read no_write cause h)

pub check_ends : (words : List (List ℕ)) (told : Told) (u r R W C : Type 0) (answer : Answer) (ended : Status) → ended ≡ status_of answer → OnFault answer R W → IsAnswer words told u r answer → (file : List ℕ) (settings : Option (List ℕ)) → Asks words (asked.Check file settings)
    → IfSome told.held (λ files. (given : Given) (P : Project) → AreSet files settings given → HeldProject files file P → (R → ⊥) → (C → ⊥) → IsDone ended ⊎ (ended ≡ status.Differs) ⊎ (ended ≡ status.OutOfMemory))
check_ends words told u r R W C answer ended is cause h file settings asks = by told.held refl
  where
    by : (o : Option Files) → told.held ≡ o → IfSome o (λ files. (given : Given) (P : Project) → AreSet files settings given → HeldProject files file P → (R → ⊥) → (C → ⊥) → IsDone ended ⊎ (ended ≡ status.Differs) ⊎ (ended ≡ status.OutOfMemory))
    by None e = tt
    by (Some files) e = λ given P set project no_read no_console.
        subst (λ s. IsDone s ⊎ (s ≡ status.Differs) ⊎ (s ≡ status.OutOfMemory)) (sym is) (completes_check words told u r R W answer files file settings given P e asks set project no_read cause h)

pub make_ends : (words : List (List ℕ)) (told : Told) (u r : Type 0) (answer : Answer) (ended : Status) → ended ≡ status_of answer → IsAnswer words told u r answer → (n : ℕ) → Asks words (asked.Make n) → IsDone ended ⊎ (ended ≡ status.OutOfMemory)
make_ends words told u r answer ended is h n asks = subst (λ s. IsDone s ⊎ (s ≡ status.OutOfMemory)) (sym is) (completes_make words told u r answer n asks h)

pub rules_end : (words : List (List ℕ)) (told : Told) (u r : Type 0) (answer : Answer) (ended : Status) → ended ≡ status_of answer → IsAnswer words told u r answer → Asks words asked.Rules → (ended ≡ status.Done) ⊎ (ended ≡ status.OutOfMemory)
rules_end words told u r answer ended is h asks = subst (λ s. (s ≡ status.Done) ⊎ (s ≡ status.OutOfMemory)) (sym is) (completes_rules words told u r answer asks h)

-- ---- what is left

not_done : (P : Type 0) (s : Status) → (s ≡ status.Done → ⊥) → (s ≡ status.DoneWithIssues → ⊥) → IsDone s → P
not_done P s a b (inl e) = absurd (a e)
not_done P s a b (inr e) = absurd (b e)

-- what a done run with so many issues leaves, where that is told
abbrev Leaves : Option Files → Option Files → Option Files → List ℕ → Option (List ℕ) → Status → Type 0
Leaves held before after file settings ended = IfSome held (λ files. IfTold before after (λ b a. (count : ℕ) × (ended ≡ done_status count) × IsUpgraded files file settings count b a))

leaves : (held before after : Option Files) (file : List ℕ) (settings : Option (List ℕ)) (n : ℕ) → IfSome held (λ files. IfTold before after (IsUpgraded files file settings n)) → Leaves held before after file settings (done_status n)
leaves None before after file settings n h = tt
leaves (Some files) before None file settings n h = tt
leaves (Some files) None (Some after) file settings n h = h
leaves (Some files) (Some before) (Some after) file settings n h = (n, refl, h)

upgrade_leaves : (told : Told) (u : Type 0) (f : List ℕ) (s : Option (List ℕ)) (answer : Answer) → IsDone (status_of answer) → UpgradeAnswer told u f s answer → Leaves told.held told.outlet_before told.outlet_after f s (status_of answer)
upgrade_leaves told u f s (Done n) done h = leaves told.held told.outlet_before told.outlet_after f s n h.1
upgrade_leaves told u f s (Same n) done h = absurd h
upgrade_leaves told u f s (Differs x) done h = absurd h
upgrade_leaves told u f s (Made numbers) done h = absurd h
upgrade_leaves told u f s Rules done h = absurd h
upgrade_leaves told u f s BadWords done h = absurd h
upgrade_leaves told u f s (SettingsRefused x) done h = not_done _ status.BadWords (λ e. cc e) (λ e. cc e) done
upgrade_leaves told u f s (Refused x g) done h = not_done _ status.Refused (λ e. cc e) (λ e. cc e) done
upgrade_leaves told u f s (ReadFault x) done h = not_done _ status.ReadFault (λ e. cc e) (λ e. cc e) done
upgrade_leaves told u f s (WriteFault x) done h = not_done _ status.WriteFault (λ e. cc e) (λ e. cc e) done
upgrade_leaves told u f s OutOfMemory done h = not_done _ status.OutOfMemory (λ e. cc e) (λ e. cc e) done

done_leaves : (words : List (List ℕ)) (told : Told) (u r : Type 0) (answer : Answer) (file : List ℕ) (settings : Option (List ℕ)) → IsDone (status_of answer) → Asks words (asked.Upgrade file settings) → IsAnswer words told u r answer
    → Leaves told.held told.outlet_before told.outlet_after file settings (status_of answer)
done_leaves words told u r answer file settings done asks (upgrades f s own h) =
    let same = upgrade_once words file f settings s asks own in
    subst (λ x. Leaves told.held told.outlet_before told.outlet_after file x (status_of answer)) (sym same.1)
    (subst (λ x. Leaves told.held told.outlet_before told.outlet_after x s (status_of answer)) (sym same.0) (upgrade_leaves told u f s answer done h))
done_leaves words told u r answer file settings done asks (checks f s own h x) = absurd (upgrade_or_check words file f settings s asks own)
done_leaves words told u r answer file settings done asks (makes n own h x y) = absurd (upgrade_or_make words file settings n asks own)
done_leaves words told u r answer file settings done asks (lists own e x y) = absurd (upgrade_or_rules words file settings asks own)
done_leaves words told u r answer file settings done asks (asks_nothing none e x y) = absurd (none (asked.Upgrade file settings) asks)
done_leaves words told u r answer file settings done asks (wants_memory e x y) =
    not_done _ status.OutOfMemory (λ e. cc e) (λ e. cc e) (subst IsDone (ap status_of e) done)

-- a run that is done has upgraded the project that the words ask for
pub done_is_upgraded : (words : List (List ℕ)) (told : Told) (u r : Type 0) (answer : Answer) (ended : Status) → ended ≡ status_of answer → IsAnswer words told u r answer → IsDone ended → (file : List ℕ) (settings : Option (List ℕ)) → Asks words (asked.Upgrade file settings)
    → Leaves told.held told.outlet_before told.outlet_after file settings ended
done_is_upgraded words told u r answer ended is h done file settings asks =
    subst (Leaves told.held told.outlet_before told.outlet_after file settings) (sym is) (done_leaves words told u r answer file settings (subst IsDone is done) asks h)

-- ---- the outlet

upgrade_untouched : (told : Told) (u : Type 0) (f : List ℕ) (s : Option (List ℕ)) (answer : Answer) → UpgradeAnswer told u f s answer → (IsDone (status_of answer) → ⊥) → (status_of answer ≢ status.WriteFault) → u
upgrade_untouched told u f s (Done n) h not_done not_write = absurd (not_done (done n))
  where
    done : (n : ℕ) → IsDone (done_status n)
    done zero = inl refl
    done (suc n) = inr refl
upgrade_untouched told u f s (Same n) h not_done not_write = absurd h
upgrade_untouched told u f s (Differs x) h not_done not_write = absurd h
upgrade_untouched told u f s (Made numbers) h not_done not_write = absurd h
upgrade_untouched told u f s Rules h not_done not_write = absurd h
upgrade_untouched told u f s BadWords h not_done not_write = absurd h
upgrade_untouched told u f s (SettingsRefused x) h not_done not_write = h.2
upgrade_untouched told u f s (Refused x g) h not_done not_write = h.1
upgrade_untouched told u f s (ReadFault x) h not_done not_write = h.1
upgrade_untouched told u f s (WriteFault x) h not_done not_write = absurd (not_write refl)
upgrade_untouched told u f s OutOfMemory h not_done not_write = h

answer_untouched : (words : List (List ℕ)) (told : Told) (u r : Type 0) (answer : Answer) → IsAnswer words told u r answer → (IsDone (status_of answer) → ⊥) → (status_of answer ≢ status.WriteFault) → u
answer_untouched words told u r answer (upgrades f s own h) not_done not_write = upgrade_untouched told u f s answer h not_done not_write
answer_untouched words told u r answer (checks f s own h x) not_done not_write = x
answer_untouched words told u r answer (makes n own h x y) not_done not_write = x
answer_untouched words told u r answer (lists own e x y) not_done not_write = x
answer_untouched words told u r answer (asks_nothing none e x y) not_done not_write = x
answer_untouched words told u r answer (wants_memory e x y) not_done not_write = x

pub untouched : (words : List (List ℕ)) (told : Told) (u r : Type 0) (answer : Answer) (ended : Status) → ended ≡ status_of answer → IsAnswer words told u r answer → (IsDone ended → ⊥) → (ended ≢ status.WriteFault) → (ended ≢ status.ConsoleFault) → u
untouched words told u r answer ended is h not_done not_write not_console =
    answer_untouched words told u r answer h (λ done. not_done (subst IsDone (sym is) done)) (λ e. not_write (is ∙ e))

-- ---- causes

done_or : (n : ℕ) (s : Status) → (status.Done ≡ s → ⊥) → (status.DoneWithIssues ≡ s → ⊥) → done_status n ≡ s → ⊥
done_or zero s a b e = a e
done_or (suc n) s a b e = b e

pub read_failed : (R W : Type 0) (answer : Answer) (ended : Status) → ended ≡ status_of answer → OnFault answer R W → ended ≡ status.ReadFault → R
read_failed R W answer ended is cause e = by answer cause (sym is ∙ e)
  where
    by : (answer : Answer) → OnFault answer R W → status_of answer ≡ status.ReadFault → R
    by (Done n) h e = absurd (done_or n status.ReadFault (λ e. cc e) (λ e. cc e) e)
    by (Same n) h e = absurd (done_or n status.ReadFault (λ e. cc e) (λ e. cc e) e)
    by (Differs x) h e = absurd (cc e)
    by (Made numbers) h e = absurd (done_or numbers.issues status.ReadFault (λ e. cc e) (λ e. cc e) e)
    by Rules h e = absurd (cc e)
    by BadWords h e = absurd (cc e)
    by (SettingsRefused x) h e = absurd (cc e)
    by (Refused x g) h e = absurd (cc e)
    by (ReadFault x) h e = h
    by (WriteFault x) h e = absurd (cc e)
    by OutOfMemory h e = absurd (cc e)

pub write_failed : (R W : Type 0) (answer : Answer) (ended : Status) → ended ≡ status_of answer → OnFault answer R W → ended ≡ status.WriteFault → W
write_failed R W answer ended is cause e = by answer cause (sym is ∙ e)
  where
    by : (answer : Answer) → OnFault answer R W → status_of answer ≡ status.WriteFault → W
    by (Done n) h e = absurd (done_or n status.WriteFault (λ e. cc e) (λ e. cc e) e)
    by (Same n) h e = absurd (done_or n status.WriteFault (λ e. cc e) (λ e. cc e) e)
    by (Differs x) h e = absurd (cc e)
    by (Made numbers) h e = absurd (done_or numbers.issues status.WriteFault (λ e. cc e) (λ e. cc e) e)
    by Rules h e = absurd (cc e)
    by BadWords h e = absurd (cc e)
    by (SettingsRefused x) h e = absurd (cc e)
    by (Refused x g) h e = absurd (cc e)
    by (ReadFault x) h e = absurd (cc e)
    by (WriteFault x) h e = h
    by OutOfMemory h e = absurd (cc e)
