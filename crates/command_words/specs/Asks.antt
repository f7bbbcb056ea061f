-- What the command words ask for.
use Rattle.std.specs.Prelude.{◌≡◌, ◌≤◌, ◌⊎◌, ℕ, Bool, true, false, ◌&&◌, ◌||◌, not, ◌==◌, nat_eq, List, [], ◌∷◌, ◌++◌, Option, Some, None, codes}
use Rattle.std.specs.Fmt.{decimal}
use Rattle.std.specs.List.{list_any, ends_with}
use Rattle.up_base.specs.Names.{is_name, lower_case}
use Rattle.command_words.specs.declared.asked.Asked.{Asked}
use Rattle.command_words.specs.declared.asked.Asked.TheVariants.{Upgrade, Check, Make, Rules}

abbrev pub Word : Type 0
Word = List ℕ

-- whether a byte parts folders
abbrev pub is_separator : ℕ → Bool
is_separator c = (c == 47) || (c == 92)

abbrev pub begins_with_minus : Word → Bool
begins_with_minus [] = false
begins_with_minus (c ∷ cs) = c == 45

-- whether a word names a project file: it names no folder and ends in .vbp in any case
abbrev pub is_project_file : Word → Bool
is_project_file word = is_name word && not (list_any is_separator word) && ends_with nat_eq (lower_case word) (codes ".vbp")

-- whether a word names a settings file
abbrev pub is_settings_name : Word → Bool
is_settings_name word = is_name word && not (begins_with_minus word)

abbrev pub AreSettings : Option Word → Type 0
AreSettings None = Unit {0}
AreSettings (Some name) = is_settings_name name ≡ true

-- the words of a file: it alone, where it can't be taken for an option, or behind two minus signs
abbrev pub SpellFile : Word → List Word → Type 0
SpellFile file words = ((begins_with_minus file ≡ false) × (words ≡ file ∷ [])) ⊎ (words ≡ codes "--" ∷ file ∷ [])

-- the words of the option, which may be left out: two of them, or one with an equals sign
abbrev pub SpellSettings : Option Word → List Word → Type 0
SpellSettings None words = words ≡ []
SpellSettings (Some name) words = (words ≡ codes "--settings" ∷ name ∷ []) ⊎ (words ≡ (codes "--settings=" ++ name) ∷ [])

-- the words behind `upgrade` or `check`: the option stands before the file or behind it, but not behind two minus signs
pub record NameFile (words : List Word) (file : Word) (settings : Option Word) : Type 0 where
  pub is_file : is_project_file file ≡ true
  pub are_settings : AreSettings settings
  pub words_are :
      ((option ending : List Word) × SpellSettings settings option × SpellFile file ending × (words ≡ option ++ ending))
      ⊎ ((option : List Word) × SpellSettings settings option × (begins_with_minus file ≡ false) × (words ≡ file ∷ option))

-- the words behind `make`: a number of modules, in decimal digits without a leading zero
abbrev pub NameCount : List Word → ℕ → Type 0
NameCount words n = (1 ≤ n) × (n ≤ 200) × (words ≡ decimal n ∷ [])

abbrev pub Asks : List Word → Asked → Type 0
Asks words (Upgrade file settings) = (rest : List Word) × (words ≡ codes "upgrade" ∷ rest) × NameFile rest file settings
Asks words (Check file settings) = (rest : List Word) × (words ≡ codes "check" ∷ rest) × NameFile rest file settings
Asks words (Make n) = (rest : List Word) × (words ≡ codes "make" ∷ rest) × NameCount rest n
Asks words Rules = words ≡ codes "rules" ∷ []
