-- Worked examples: what settings files set, computed.
use Rattle.std.proofs.Common.{◌≡◌, ℕ, Bool, true, false, List, [], ◌∷◌, ◌++◌, Option, Some, None, codes, refl}
use Rattle.std.specs.Char.{encode_utf8}
use Rattle.std.specs.List.{repeat}
use Rattle.std.specs.Str.{chars, is_utf8}
use Rattle.toml.proofs.OnLiterals.{toml_on_literals}
use Rattle.settings_file.specs.Settings.{Given, document_of, settings_of, is_note}

abbrev sets : Bool → Option (List ℕ) → Option Given
sets l n = Some (record { library = l; note = n })

nothing : settings_of [] ≡ sets false None
unfolding toml_on_literals document_of is_utf8 chars encode_utf8
nothing = refl

both : settings_of (codes "target = \"library\"\nnote = \"checked\"\n") ≡ sets true (Some (codes "checked"))
unfolding toml_on_literals document_of is_utf8 chars encode_utf8
both = refl

literal : settings_of (codes "# a comment\r\nnote = 'it is \"so\" ~'\r\ntarget='auto'") ≡ sets false (Some (codes "it is \"so\" ~"))
unfolding toml_on_literals document_of is_utf8 chars encode_utf8
literal = refl

empty_note : settings_of (codes "note = \"\"") ≡ sets false (Some [])
unfolding toml_on_literals document_of is_utf8 chars encode_utf8
empty_note = refl

other_key : settings_of (codes "colour = 1\n") ≡ None
unfolding toml_on_literals document_of is_utf8 chars encode_utf8
other_key = refl

other_target : settings_of (codes "target = \"exe\"\n") ≡ None
unfolding toml_on_literals document_of is_utf8 chars encode_utf8
other_target = refl

line_end : settings_of (codes "note = \"a\\nb\"\n") ≡ None
unfolding toml_on_literals document_of is_utf8 chars encode_utf8
line_end = refl

no_text : settings_of (codes "note = 1\n") ≡ None
unfolding toml_on_literals document_of is_utf8 chars encode_utf8
no_text = refl

twice : settings_of (codes "note = 'a'\nnote = 'b'\n") ≡ None
unfolding toml_on_literals document_of is_utf8 chars encode_utf8
twice = refl

no_utf8 : settings_of (codes "note = 'a'" ++ 255 ∷ []) ≡ None
unfolding toml_on_literals document_of is_utf8 chars encode_utf8
no_utf8 = refl

longest : is_note (repeat 200 (97 ∷ [])) ≡ true
longest = refl

too_long : is_note (repeat 201 (97 ∷ [])) ≡ false
too_long = refl
