-- A note that is set can be written.
use Rattle.std.proofs.Common.{◌≡◌, ℕ, Bool, true, false, cond, List, Option, Some, None, IfSome, inl, inr, refl, subst}
use Rattle.std.proofs.lemmas.Bool.{cases_Bool}
use Rattle.std.proofs.lemmas.Option.{same_Some}
use Rattle.toml.specs.Data.{Data, Members, string, integer, float, boolean, datetime, array, table, get_member}
use Rattle.std.specs.Prelude.{codes, option_and_then}
use Rattle.settings_file.specs.Settings.{Given, document_of, has_settings_alone, is_note, note_of, set, settings_in, settings_of, target_of}

abbrev pub fits : Option (List ℕ) → Bool
fits None = true
fits (Some note) = is_note note

note_fits : (value : Option Data) → IfSome (note_of value) (λ note. fits note ≡ true)
note_fits None = refl
note_fits (Some (string text)) = elim (cases_Bool (is_note text)) [
  | inl short ↦ rw short short
  | inr other ↦ rw other tt
]
note_fits (Some (integer z)) = tt
note_fits (Some (float x)) = tt
note_fits (Some (boolean b)) = tt
note_fits (Some (datetime dt)) = tt
note_fits (Some (array ds)) = tt
note_fits (Some (table ms)) = tt

set_fits : (library : Option Bool) (kept : Option (Option (List ℕ))) (g : Given) → IfSome kept (λ n. fits n ≡ true) → set library kept ≡ Some g → fits g.note ≡ true
set_fits None kept g h e = absurd (cc e)
set_fits (Some l) None g h e = absurd (cc e)
set_fits (Some l) (Some n) g h e = subst (λ (k : Given). fits k.note ≡ true) (same_Some _ _ e) h

where_alone : (b : Bool) (library : Option Bool) (kept : Option (Option (List ℕ))) (g : Given) → IfSome kept (λ n. fits n ≡ true) → cond b (set library kept) None ≡ Some g → fits g.note ≡ true
where_alone true library kept g h e = set_fits library kept g h e
where_alone false library kept g h e = absurd (cc e)

in_table : (document : Option Members) (g : Given) → option_and_then settings_in document ≡ Some g → fits g.note ≡ true
in_table None g e = absurd (cc e)
in_table (Some ms) g e =
    where_alone (has_settings_alone ms) (target_of (get_member (codes "target") ms)) (note_of (get_member (codes "note") ms)) g (note_fits (get_member (codes "note") ms)) e

pub note_can_be_written : (bytes : List ℕ) (g : Given) → settings_of bytes ≡ Some g → fits g.note ≡ true
note_can_be_written bytes g e = in_table (document_of bytes) g e
