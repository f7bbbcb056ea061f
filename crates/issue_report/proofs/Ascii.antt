-- Each piece of a report is ASCII.
use Rattle.std.specs.Prelude.{codes, unwrap_or}
use Rattle.std.proofs.Common.{◌≡◌, ℕ, ◌+◌, ◌^◌, ◌/◌, ◌%◌, ◌<◌, ◌≤◌, Bool, true, false, cond, nat_lt, nat_eq, List, [], ◌∷◌, ◌++◌, length, take, get_or, Option, Some, refl, arith, append_assoc}
use Rattle.std.specs.Char.{is_ascii}
use Rattle.std.specs.Fmt.{decimal}
use Rattle.std.specs.List.{list_all, flat_map}
use Rattle.std.specs.Map.{lookup}
use Rattle.std.specs.Str.{IsAscii}
use Rattle.std.proofs.lemmas.Bool.{and_parts}
use Rattle.std.proofs.lemmas.Bool.Decides.{nat_tests}
use Rattle.std.proofs.lemmas.Fmt.{IsAscii-decimal}
use Rattle.std.proofs.lemmas.Grind.{common_steps}
use Rattle.std.proofs.lemmas.List.Sums.{count_by-le-length}
use Rattle.std.proofs.lemmas.Str.{IsAscii-append}
use Rattle.std.proofs.lemmas.Str.Ascii.{IsAscii-nil, IsAscii-cons}
use Rattle.up_base.specs.Names.{is_name, is_printable}
use Rattle.up_base.specs.LineEnd.{line_end}
use Rattle.up_base.specs.declared.issue.Issue.{Issue}
use Rattle.up_base.specs.declared.place.Place.{Place}
use Rattle.issue_report.specs.Texts.{rule_texts, rule_text}
use Rattle.issue_report.specs.Reports.{two_digits, name_of_file, place_text, numbered_rule, issue_line, count_text, issue_count_line, part_text, word_text, procedure_name, verdict_line, clean_count, is_clean_word, verdict_count_line}
use Rattle.issue_report.specs.declared.verdict.Part.{Part}
use Rattle.issue_report.specs.declared.verdict.Part.TheVariants.{Plain, GetPart, LetPart, SetPart}
use Rattle.issue_report.specs.declared.verdict.VerdictWord.{VerdictWord}
use Rattle.issue_report.specs.declared.verdict.VerdictWord.TheVariants.{Clean, Flagged, Reaches}
use Rattle.issue_report.specs.declared.verdict.Verdict.{Verdict}

below_of_test : (b : ℕ) → nat_lt b 128 ≡ true → b < 128
below_of_test b h = grind (arith, nat_tests)

below_of_printable : (b : ℕ) → is_printable b ≡ true → b < 128
below_of_printable b h = grind (arith, nat_tests)

-- a text that passes a test of its bytes is ASCII
of_test : (p : ℕ → Bool) → ((b : ℕ) → p b ≡ true → b < 128) → (bs : List ℕ) → list_all p bs ≡ true → IsAscii bs
of_test p low [] h = IsAscii-nil
of_test p low (b ∷ bs) h =
    let parts = and_parts (p b) (list_all p bs) h in
    IsAscii-cons b bs (low b parts.0) (of_test p low bs parts.1)

-- a text that is written out
of_codes : (bs : List ℕ) → list_all is_ascii bs ≡ true → IsAscii bs
of_codes bs h = of_test is_ascii below_of_test bs h

of_name : (bs : List ℕ) → is_name bs ≡ true → IsAscii bs
of_name bs h =
    let parts = and_parts _ (list_all is_printable bs) h in
    of_test is_printable below_of_printable bs parts.1

chosen : (b : Bool) (text : List ℕ) (rest : Option (List ℕ)) → IsAscii text → IsAscii (unwrap_or rest []) → IsAscii (unwrap_or (cond b (Some text) rest) [])
chosen true text rest h g = h
chosen false text rest h g = g

of_lookup : (n : ℕ) (texts : List (ℕ × List ℕ)) → list_all (λ e. list_all is_ascii e.1) texts ≡ true → IsAscii (unwrap_or (lookup (nat_eq n) texts) [])
of_lookup n [] h = IsAscii-nil
of_lookup n (e ∷ es) h =
    let parts = and_parts (list_all is_ascii e.1) (list_all (λ e. list_all is_ascii e.1) es) h in
    chosen (nat_eq n e.0) e.1 (lookup (nat_eq n) es) (of_codes e.1 parts.0) (of_lookup n es parts.1)

of_rule : (rule : ℕ) → rule < 2 ^ 8 → IsAscii (numbered_rule rule)
of_rule rule small =
    let digits : IsAscii (two_digits rule) = IsAscii-cons (48 + rule / 10) ((48 + rule % 10) ∷ []) (omega arith) (IsAscii-cons (48 + rule % 10) [] (omega arith) IsAscii-nil) in
    let number = IsAscii-append (codes "U") (two_digits rule) (of_codes (codes "U") refl) digits in
    IsAscii-append (codes "U" ++ two_digits rule ++ codes " ") (unwrap_or (rule_text rule) []) (IsAscii-append (codes "U" ++ two_digits rule) (codes " ") number (of_codes (codes " ") refl)) (of_lookup rule rule_texts refl)

of_place : (names : List (List ℕ)) (place : Place) → is_name (name_of_file names place.file) ≡ true → place.line < 2 ^ 64 → IsAscii (place_text names place)
of_place names place named small =
    let name = name_of_file names place.file in
    let opened = IsAscii-append name (codes "(") (of_name name named) (of_codes (codes "(") refl) in
    let line = IsAscii-append (name ++ codes "(") (decimal place.line) opened (IsAscii-decimal place.line small) in
    IsAscii-append (name ++ codes "(" ++ decimal place.line) (codes ")") line (of_codes (codes ")") refl)

pub of_issue_line : (names : List (List ℕ)) (issue : Issue) → is_name (name_of_file names issue.place.file) ≡ true → issue.place.line < 2 ^ 64 → issue.rule < 2 ^ 8 → IsAscii (issue_line names issue)
of_issue_line names issue named line rule =
    let place = place_text names issue.place in
    let numbered = numbered_rule issue.rule in
    let parted = IsAscii-append place (codes ": ") (of_place names issue.place named line) (of_codes (codes ": ") refl) in
    IsAscii-append (place ++ codes ": " ++ numbered) line_end (IsAscii-append (place ++ codes ": ") numbered parted (of_rule issue.rule rule)) (of_codes line_end refl)

of_count : (label : List ℕ) (count : ℕ) → list_all is_ascii label ≡ true → count < 2 ^ 64 → IsAscii (count_text label count)
of_count label count h small = IsAscii-append label (decimal count) (of_codes label h) (IsAscii-decimal count small)

pub of_issue_count : (issues : List Issue) → length issues < 2 ^ 64 → IsAscii (issue_count_line issues)
of_issue_count issues small =
    IsAscii-append (count_text (codes "issues: ") (length issues)) line_end (of_count (codes "issues: ") (length issues) refl small) (of_codes line_end refl)

of_part : (part : Part) → IsAscii (part_text part)
of_part Plain = IsAscii-nil
of_part GetPart = of_codes (codes " Get") refl
of_part LetPart = of_codes (codes " Let") refl
of_part SetPart = of_codes (codes " Set") refl

of_word : (word : VerdictWord) → IsAscii (word_text word)
of_word Clean = of_codes (codes "clean") refl
of_word Flagged = of_codes (codes "flagged") refl
of_word Reaches = of_codes (codes "reaches") refl

pub of_verdict_line : (names : List (List ℕ)) (verdict : Verdict) → is_name (name_of_file names verdict.file) ≡ true → is_name verdict.name ≡ true → IsAscii (verdict_line names verdict)
of_verdict_line names verdict file_named named =
    let file = name_of_file names verdict.file in
    let name = procedure_name verdict in
    let word = word_text verdict.word in
    let a = IsAscii-append file (codes " ") (of_name file file_named) (of_codes (codes " ") refl) in
    let b = IsAscii-append (file ++ codes " ") name a (IsAscii-append verdict.name (part_text verdict.part) (of_name verdict.name named) (of_part verdict.part)) in
    let c = IsAscii-append (file ++ codes " " ++ name) (codes ": ") b (of_codes (codes ": ") refl) in
    let d = IsAscii-append (file ++ codes " " ++ name ++ codes ": ") word c (of_word verdict.word) in
    IsAscii-append (file ++ codes " " ++ name ++ codes ": " ++ word) line_end d (of_codes line_end refl)

pub of_verdict_count : (verdicts : List Verdict) → length verdicts < 2 ^ 64 → IsAscii (verdict_count_line verdicts)
of_verdict_count verdicts small =
    let few : clean_count verdicts < 2 ^ 64 = omega (arith, count_by-le-length (λ (v : Verdict). is_clean_word v.word) verdicts) in
    let procedures = count_text (codes "procedures: ") (length verdicts) in
    let clean = count_text (codes ", clean: ") (clean_count verdicts) in
    let both = IsAscii-append procedures clean (of_count (codes "procedures: ") (length verdicts) refl small) (of_count (codes ", clean: ") (clean_count verdicts) refl few) in
    IsAscii-append (procedures ++ clean) line_end both (of_codes line_end refl)

-- a turn of a loop that appends the text of each item
pub of_turn : {X : Type 0} (f : X → List ℕ) (xs : List X) (i : ℕ) (d : X) (start before after : List ℕ) → i < length xs → before ≡ start ++ flat_map f (take i xs) → IsAscii (flat_map f (take i xs)) → after ≡ before ++ f (get_or xs i d) → IsAscii (f (get_or xs i d)) → (after ≡ start ++ flat_map f (take (i + 1) xs)) × IsAscii (flat_map f (take (i + 1) xs))
of_turn f xs i d start before after within so_far ascii text here =
    let more : flat_map f (take (i + 1) xs) ≡ flat_map f (take i xs) ++ f (get_or xs i d) = grind (arith, common_steps) in
    (rw (text, so_far, more) (simp append_assoc), rw more (IsAscii-append (flat_map f (take i xs)) (f (get_or xs i d)) ascii here))

-- the texts of all items, and what follows them
pub of_end : {X : Type 0} (f : X → List ℕ) (xs : List X) (i : ℕ) (last : List ℕ) → length xs ≤ i → IsAscii (flat_map f (take i xs)) → IsAscii last → IsAscii (flat_map f xs ++ last)
of_end f xs i last past ascii h =
    let all : take i xs ≡ xs = grind (arith, common_steps) in
    IsAscii-append (flat_map f xs) last (rw all at ascii) h

-- a head, and what follows it
pub of_head : (head rest : List ℕ) → list_all is_ascii head ≡ true → IsAscii rest → IsAscii (head ++ rest)
of_head head rest h g = IsAscii-append head rest (of_codes head h) g
