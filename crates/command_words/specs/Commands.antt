-- The simple commands that read the words behind each command word, as clap's words say them.
use Rattle.std.specs.Prelude.{Bool, true, false, List, [], ◌∷◌, Option, Some, codes, map, option_map}
use Rattle.std.specs.Borrow.{Bor}
use Rattle.std.specs.List.{list_all}
use Rattle.std.specs.Str.{bytes_eq}
use Rattle.up_base.specs.Names.{is_printable}
use Rattle.command_words.specs.Asks.{Word}
use Rattle.command_words.specs.declared.forms.Form.{Form}
use Rattle.command_words.specs.declared.forms.Form.TheVariants as form
use Rattle.clap.specs.Faults.{fault_of}
use Rattle.clap.specs.Kinds.{Kinds}
use Rattle.clap.specs.Simple.{App, matches_of, new_app, new_rule, on_top, with_rule}
use Rattle.clap.specs.Walk.{Rule, first_of}
use Rattle.clap.specs.declared.builder.action.ArgAction.TheVariants.{Set}

-- a word that has to stand
abbrev pub file_rule : Rule
file_rule = record (new_rule (codes "FILE")) { action = Some Set; required = true }

abbrev pub settings_rule : Rule
settings_rule = record (new_rule (codes "settings")) { long = Some (codes "settings"); action = Some Set }

abbrev pub count_rule : Rule
count_rule = record (new_rule (codes "N")) { action = Some Set; required = true }

-- no word of it asks for help
abbrev pub plain_app : App
plain_app = on_top (λ s. record s { disable_help_flag = true }) (new_app (codes "vbup"))

abbrev pub file_app : App
file_app = with_rule (with_rule plain_app file_rule) settings_rule

abbrev pub count_app : App
count_app = with_rule plain_app count_rule

-- why clap refuses the words, and what it finds where it takes them
unfoldable pub file_faults : List Word → Kinds
file_faults words = fault_of file_app words

unfoldable pub file_found : Word → List Word → Option Word
file_found id words = first_of id (matches_of file_app words)

unfoldable pub count_faults : List Word → Kinds
count_faults words = fault_of count_app words

unfoldable pub count_found : List Word → Option Word
count_found words = first_of (codes "N") (matches_of count_app words)

-- the words behind references
abbrev pub seen : List (Bor Word) → List Word
seen = map (λ s. s.now)

abbrev pub seen_one : Option (Bor Word) → Option Word
seen_one = option_map (λ s. s.now)

abbrev pub are_printable : List Word → Bool
are_printable = list_all (list_all is_printable)

-- the command word of a form
abbrev pub word_of : Form → Word
word_of form.Upgrade = codes "upgrade"
word_of form.Check = codes "check"
word_of form.Make = codes "make"
word_of form.Rules = codes "rules"

-- whether the last word is two minus signs
abbrev pub last_is_dashes : List Word → Bool
last_is_dashes [] = false
last_is_dashes (word ∷ []) = bytes_eq word (codes "--")
last_is_dashes (word ∷ next ∷ more) = last_is_dashes (next ∷ more)
