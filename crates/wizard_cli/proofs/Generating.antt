-- What there is in a generated project, and how a run of `make` ends.
use Rattle.std.proofs.Common.{◌≡◌, ℕ, List, codes, refl, subst}
use Rattle.up_base.specs.MemoryTwins.{lookup}
use Rattle.vb_tree.specs.Tree.{Project}
use Rattle.project_loader.specs.Held.{HeldProject}
use Rattle.settings_file.specs.Settings.{Given}
use Rattle.generated_project.specs.Generated.{generated_files}
use Rattle.wizard_cli.specs.declared.answer.Answer.{Answer}
use Rattle.wizard_cli.specs.declared.answer.Answer.TheVariants.{Done, Same, Differs, Made, Rules, BadWords, SettingsRefused, Refused, ReadFault, WriteFault, OutOfMemory}
use Rattle.wizard_cli.specs.declared.upgrading.WrittenFiles.{WrittenFiles}
use Rattle.wizard_cli.specs.Headline.{IsUpgrade}
use Rattle.wizard_cli.specs.Runs.{AreNumbers, MakeAnswer, OnFault}
use Rattle.wizard_cli.specs.Settings.{no_settings}
use Rattle.wizard_cli.specs.Upgrading.{AreFiles}

pub are_numbers : (modules : ℕ) (name : List ℕ) (P : Project) (given : Given) (u : WrittenFiles) (files : List (List ℕ × List ℕ)) → files ≡ generated_files modules → name ≡ codes "Gen.vbp" → given ≡ no_settings → HeldProject (lookup files) name P → AreFiles name P given u
    → AreNumbers modules (record { modules = modules; procedures = u.procedures; issues = u.issues; clean = u.clean })
are_numbers modules name P given u files are named none held made = record {
  modules_are = refl;
  project = P;
  held = subst (λ n. HeldProject (lookup (generated_files modules)) n P) named (subst (λ fs. HeldProject (lookup fs) name P) are held);
  upgrade = subst (λ n. IsUpgrade n P no_settings u.issues) named (subst (λ s. IsUpgrade name P s u.issues) none made.upgrade);
  has_procedures = made.has_procedures;
}

-- nothing outside fails in it
pub nothing_fails : (R W : Type 0) (n : ℕ) (answer : Answer) → MakeAnswer n answer → OnFault answer R W
nothing_fails R W n (Done m) h = tt
nothing_fails R W n (Same m) h = tt
nothing_fails R W n (Differs x) h = tt
nothing_fails R W n (Made numbers) h = tt
nothing_fails R W n Rules h = tt
nothing_fails R W n BadWords h = tt
nothing_fails R W n (SettingsRefused x) h = tt
nothing_fails R W n (Refused x g) h = tt
nothing_fails R W n (ReadFault x) h = absurd h
nothing_fails R W n (WriteFault x) h = absurd h
nothing_fails R W n OutOfMemory h = tt
