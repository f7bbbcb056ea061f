-- Each entry of a text has the name of a module and the name of a file.
use Rattle.std.proofs.Common.{◌≡◌, ℕ, suc, ◌+◌, zero, Bool, true, false, ◌&&◌, cond, List, [], ◌∷◌, map, take, refl, codes, Option, Some, None}
use Rattle.std.specs.List.{list_all, prefix_len, enumerate_from}
use Rattle.up_base.specs.Names.{is_name}
use Rattle.vb_tree.specs.ProjectLines.{ProjectLine, blank, head, entry, type_line, startup_line, not_carried, other, malformed, is_no_head, trimmed, parted, is_head, is_key, is_left_behind, is_module_name, named_entry, entry_line, setting_line, keyed_line, content_line, project_line, numbered_lines, entries_of, read_lines, is_named}
use Rattle.up_base.proofs.Tests.{both_true}

-- whether a line, if it is an entry, has such names
abbrev has_names : ProjectLine → Bool
has_names blank = true
has_names head = true
has_names (entry class name file) = is_module_name name && is_name file
has_names (type_line value) = true
has_names (startup_line value) = true
has_names not_carried = true
has_names other = true
has_names malformed = true

either : (b : Bool) (l m : ProjectLine) → has_names l ≡ true → has_names m ≡ true → has_names (cond b l m) ≡ true
either true l m p q = p
either false l m p q = q

entry_named : (class : Bool) (name file : List ℕ) → has_names (named_entry class name file) ≡ true
entry_named class name file = by (is_module_name name && is_name file) refl
  where
    by : (b : Bool) → (is_module_name name && is_name file) ≡ b → has_names (cond b (entry class name file) malformed) ≡ true
    by true e = e
    by false e = refl

parts_named : (class : Bool) (parts : Option (List ℕ × List ℕ)) → has_names (entry_line class parts) ≡ true
parts_named class None = refl
parts_named class (Some parts) = entry_named class parts.0 (trimmed parts.1)

setting_named : (key value : List ℕ) → has_names (setting_line key value) ≡ true
setting_named key value =
    either (is_key key (codes "module")) _ _ (parts_named false (parted 59 value))
    (either (is_key key (codes "class")) _ _ (parts_named true (parted 59 value))
    (either (is_key key (codes "type")) _ _ refl (either (is_key key (codes "startup")) _ _ refl (either (is_left_behind key) _ _ refl refl))))

keyed_named : (parts : Option (List ℕ × List ℕ)) → has_names (keyed_line parts) ≡ true
keyed_named None = refl
keyed_named (Some parts) = setting_named (trimmed parts.0) (trimmed parts.1)

content_named : (content : List ℕ) → has_names (content_line content) ≡ true
content_named [] = refl
content_named (c ∷ cs) = either (is_head (c ∷ cs)) _ _ refl (keyed_named (parted 61 (c ∷ cs)))

abbrev is_right : ℕ × ProjectLine → Bool
is_right (n, line) = has_names line

lines_named : (k : ℕ) (lines : List (List ℕ)) → list_all is_right (enumerate_from k (map project_line lines)) ≡ true
lines_named k [] = refl
lines_named k (line ∷ lines) = let here = content_named (trimmed line) in let more = lines_named (k + 1) lines in both _ _ here more
  where
    both : (a b : Bool) → a ≡ true → b ≡ true → (a && b) ≡ true
    both true b p q = q
    both false b p q = cc

all_taken : {X : Type 0} (p : X → Bool) (n : ℕ) (xs : List X) → list_all p xs ≡ true → list_all p (take n xs) ≡ true
all_taken p zero xs h = refl
all_taken p (suc n) [] h = refl
all_taken p (suc n) (x ∷ xs) h = let k = both_true (p x) (list_all p xs) h in rw (k.0, all_taken p n xs k.1)

entries_named : (lines : List (ℕ × ProjectLine)) → list_all is_right lines ≡ true → list_all is_named (entries_of lines) ≡ true
entries_named [] h = refl
entries_named ((n, line) ∷ lines) h = let k = both_true (has_names line) (list_all is_right lines) h in by line k.0 (entries_named lines k.1)
  where
    by : (line : ProjectLine) → has_names line ≡ true → list_all is_named (entries_of lines) ≡ true → list_all is_named (entries_of ((n, line) ∷ lines)) ≡ true
    by blank p more = more
    by head p more = more
    by (entry class name file) p more = rw (p, more)
    by (type_line value) p more = more
    by (startup_line value) p more = more
    by not_carried p more = more
    by other p more = more
    by malformed p more = more

pub named_entries : (lines : List (List ℕ)) → list_all is_named (entries_of (read_lines lines)) ≡ true
named_entries lines = entries_named (read_lines lines) (all_taken is_right (prefix_len is_no_head (numbered_lines lines)) (numbered_lines lines) (lines_named 1 lines))
