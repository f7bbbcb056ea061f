-- The settings of a run.
use Rattle.std.specs.Prelude.{◌≡◌, ◌⊎◌, ℕ, false, List, [], ◌∷◌, Option, Some, None}
use Rattle.up_base.specs.Outside.{Files}
use Rattle.project_loader.specs.Texts.{HeldText, IsTooLong}
use Rattle.settings_file.specs.Settings.{Given, settings_of}
use Rattle.settings_file.specs.declared.settings.Settings.{Settings}

abbrev pub given_of : Settings → Given
given_of s = record { library = s.library; note = s.note }

-- where no file is named, the target goes by the project and there is no note
abbrev pub no_settings : Given
no_settings = record { library = false; note = None }

-- What is set: by the file of this name, where one is named. The folder holds it, it has no more bytes than a file of a project may have,
-- and it is of the form of settings.
abbrev pub AreSet : Files → Option (List ℕ) → Given → Type 0
AreSet files None given = given ≡ no_settings
AreSet files (Some name) given = (bytes : List ℕ) × HeldText files name bytes × (settings_of bytes ≡ Some given)

-- the settings file of this name is absent, too long or not of its form
abbrev pub AreRefused : Files → (name : List ℕ) → Type 0
AreRefused files name = (files name ≡ None) ⊎ IsTooLong files name ⊎ ((bytes : List ℕ) × HeldText files name bytes × (settings_of bytes ≡ None))

-- the settings file, if one is named, as the first of the files that are read
abbrev pub settings_names : Option (List ℕ) → List (List ℕ)
settings_names None = []
settings_names (Some name) = name ∷ []
