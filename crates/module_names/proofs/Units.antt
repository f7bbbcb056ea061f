-- Units that stand for bytes, and texts of units that can stand in comments.
use Rattle.std.proofs.Common.{◌≡◌, ℕ, Bool, true, false, not, ◌&&◌, ◌||◌, cond, if◌then◌else◌, nat_le, nat_lt, nat_eq, Some, List, [], ◌∷◌, unwrap_or, refl, ap, ◌∙◌, arith}
use Rattle.std.proofs.lemmas.Bool.Decides.{nat_tests}
use Rattle.std.specs.List.{list_all}
use Rattle.std.specs.Map.{lookup}
use Rattle.std.specs.Char.Utf16.{is_high_surrogate, is_low_surrogate}
use Rattle.up_base.specs.Windows1252.{assigned, unit_of}
use Rattle.vb_tree.specs.Tokens.{is_line_end}
use Rattle.vb_tree.specs.LogicalLines.{shown_unit, shown}
use Rattle.net_tree.specs.Comments.{is_surrogate, is_well_formed, is_within_line, is_comment}
use Rattle.project_loader.specs.Texts.{is_byte, unit_or_delete, decoded}
use Rattle.module_names.specs.Texts.{is_single, are_single}
use Rattle.up_base.proofs.Tests.{not_true}
use Rattle.net_tree.proofs.Characters.{formed_behind}
use Rattle.up_base.proofs.Lists.{by_test, both_true, and_true, all_first, all_rest, all_map, all_through, all_leads}

byte_is_single : (b : ℕ) → nat_lt b 256 ≡ true → is_single b ≡ true
byte_is_single b h =
    let high : is_high_surrogate b ≡ false = grind (arith, nat_tests) in
    let low : is_low_surrogate b ≡ false = grind (arith, nat_tests) in
    ap (λ c. not (c || is_low_surrogate b)) high ∙ ap not low

found_is_single : (b : ℕ) (rs : List (ℕ × ℕ)) → list_all (λ r. is_single r.1) rs ≡ true → is_single (unwrap_or (lookup (nat_eq b) rs) 127) ≡ true
found_is_single b [] h = refl
found_is_single b (r ∷ rs) h =
    by_test (nat_eq b r.0) (λ t. is_single (unwrap_or (if t then Some r.1 else lookup (nat_eq b) rs) 127) ≡ true)
    (λ e. all_first (λ r. is_single r.1) r rs h)
    (λ e. found_is_single b rs (all_rest (λ r. is_single r.1) r rs h))

unit_of_byte_is_single : (b : ℕ) → nat_lt b 256 ≡ true → is_single (unwrap_or (unit_of b) 127) ≡ true
unit_of_byte_is_single b h =
    by_test (nat_le 0x80 b && nat_le b 0x9F) (λ t. is_single (unwrap_or (cond t (lookup (nat_eq b) assigned) (Some b)) 127) ≡ true)
    (λ e. found_is_single b assigned refl)
    (λ e. byte_is_single b h)

unit_is_single : (n : ℕ) → is_single (unit_or_delete n) ≡ true
unit_is_single n = by_test (is_byte n) (λ t. is_single (cond t (unwrap_or (unit_of n) 127) 127) ≡ true) (λ e. unit_of_byte_is_single n e) (λ e. refl)

pub decoded_singly : (bytes : List ℕ) → are_single (decoded bytes) ≡ true
decoded_singly bytes = all_map is_single unit_or_delete bytes unit_is_single

-- ---- texts within a line

-- a unit that is a character by itself, and ends no line
abbrev pub is_simple : ℕ → Bool
is_simple u = is_within_line u && is_single u

shown_is_simple : (u : ℕ) → is_single u ≡ true → is_simple (shown_unit u) ≡ true
shown_is_simple u h =
    by_test (is_line_end u) (λ t. is_simple (if t then 32 else u) ≡ true)
    (λ e. refl)
    (λ e. and_true (is_within_line u) (is_single u) (ap not e) h)

pub shown_simply : (units : List ℕ) → are_single units ≡ true → list_all is_simple (shown units) ≡ true
shown_simply units h = all_through is_single is_simple shown_unit shown_is_simple units h

formed : (units : List ℕ) → list_all is_simple units ≡ true → is_well_formed units ≡ true
formed [] h = refl
formed (u ∷ units) h =
    formed_behind u units (not_true (is_surrogate u) (both_true (is_within_line u) (is_single u) (all_first is_simple u units h)).1)
    (formed units (all_rest is_simple u units h))

pub simple_is_comment : (units : List ℕ) → list_all is_simple units ≡ true → is_comment units ≡ true
simple_is_comment units h =
    and_true (list_all is_within_line units) (is_well_formed units)
    (all_leads is_simple is_within_line (λ u e. (both_true (is_within_line u) (is_single u) e).0) units h)
    (formed units h)
