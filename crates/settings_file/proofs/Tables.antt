-- A table beside its map, and a document by what its reader says.
use Rattle.std.proofs.Common.{◌≡◌, ℕ, ◌&&◌, List, [], ◌∷◌, Some, None, String, Global, string_bytes, refl, ap, inl, inr}
use Rattle.std.proofs.lemmas.Bool.{cases_Bool}
use Rattle.std.proofs.lemmas.Str.{IsUtf8-from_is_utf8, is_utf8-from_IsUtf8}
use Rattle.std.specs.List.{list_all}
use Rattle.std.specs.Map.{keys_of}
use Rattle.std.specs.Str.{IsUtf8, is_utf8}
use Rattle.toml.specs.Data.{Members}
use Rattle.toml.specs.Parse.{parse_document}
use Rattle.toml.specs.View.{members_view}
use Rattle.toml.specs.declared.value.Value.{Value}
use Rattle.settings_file.specs.Settings.{is_setting, has_settings_alone, document_of}

pub alone_by_keys : (es : List (String Global × Value)) → list_all (λ key. is_setting (string_bytes key)) (keys_of es) ≡ has_settings_alone (members_view es)
alone_by_keys [] = refl
alone_by_keys (e ∷ es) = ap (λ b. is_setting (string_bytes e.0) && b) (alone_by_keys es)

pub document_read : (bytes : List ℕ) (table : Members) → IsUtf8 bytes → parse_document bytes ≡ Some table → document_of bytes ≡ Some table
unfolding document_of
document_read bytes table spelt read = rw (is_utf8-from_IsUtf8 bytes spelt) read

pub document_refused : (bytes : List ℕ) → (IsUtf8 bytes → parse_document bytes ≡ None) → document_of bytes ≡ None
unfolding document_of
document_refused bytes refused =
    elim (cases_Bool (is_utf8 bytes)) [
      | inl spelt ↦ rw spelt (refused (IsUtf8-from_is_utf8 bytes spelt))
      | inr other ↦ rw other
    ]
