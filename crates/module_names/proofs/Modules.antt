-- The names, the texts and the depth of the lines of a module that was read.
use Rattle.std.proofs.Common.{◌≡◌, ℕ, Bool, true, false, not, ◌&&◌, ◌||◌, if◌then◌else◌, nat_le, Option, Some, None, List, [], ◌∷◌, ◌++◌, length, codes, refl, sym, ap, ◌∙◌, arith}
use Rattle.std.proofs.lemmas.Bool.Decides.{nat_tests}
use Rattle.std.specs.List.{list_all, flat_map}
use Rattle.vb_tree.specs.declared.project.Entry.{Entry}
use Rattle.vb_tree.specs.declared.token.Line.{Line}
use Rattle.vb_tree.specs.FlatLines.{flat_lines, member_lines, module_lines}
use Rattle.vb_tree.specs.ProjectLines.{is_letter, is_name_unit, is_module_name}
use Rattle.vb_tree.specs.Tree.{Member, alone, group, proc, Module}
use Rattle.vb_tree.specs.Tree as tree
use Rattle.vb_lines.specs.Modules.{comment_at, comments_of, begins_version, is_one_word, is_setting, Head, ended, malformed, unended, is_blank_line, settings, begin_line, class_head, head_of, IsModuleOf, IsModule}
use Rattle.vb_lines.specs.Parts.{all_parts}
use Rattle.project_loader.specs.Modules.{TextIsModule}
use Rattle.net_tree.specs.Comments.{is_comment}
use Rattle.net_tree.specs.Spelling.{is_word_part, is_identifier}
use Rattle.module_names.specs.Limits.{has_shallow_form, has_shallow_line, is_shallow_module}
use Rattle.module_names.specs.Named.{Comment, are_comments, has_comment_text, names_sub, heads_in, is_named_head, names_variables, is_named_module}
use Rattle.module_names.specs.Texts.{are_single}
use Rattle.module_names.proofs.Contents.{is_good_line, has_simple_comment, lines_good}
use Rattle.module_names.proofs.Cuts.{are_named, all_parts_good}
use Rattle.module_names.proofs.Lines.{is_good_code, read_good}
use Rattle.up_base.proofs.Lists.{both_true, and_true, all_more, all_first, all_rest, all_append, all_left, all_right, all_leads, all_flat}
use Rattle.module_names.proofs.Statements.{is_good_form}
use Rattle.module_names.proofs.Units.{is_simple, simple_is_comment}

-- ---- the name of a module

letter_is_no_digit : (c : ℕ) → is_letter c ≡ true → nat_le 48 c && nat_le c 57 ≡ false
letter_is_no_digit c h = grind (arith, nat_tests)

letter_is_part : (c : ℕ) → is_letter c ≡ true → is_word_part c ≡ true
letter_is_part c h = grind (arith, nat_tests)

name_unit_is_part : (c : ℕ) → is_name_unit c ≡ true → is_word_part c ≡ true
name_unit_is_part c h = grind (arith, nat_tests)

pub module_name_is_identifier : (name : List ℕ) → is_module_name name ≡ true → is_identifier name ≡ true
module_name_is_identifier [] h = absurd (cc h)
module_name_is_identifier (c ∷ cs) h =
    let all = both_true (is_letter c && nat_le (length cs) 254) (list_all is_name_unit cs) h in
    let letter = (both_true (is_letter c) (nat_le (length cs) 254) all.0).0 in
    and_true (not (nat_le 48 c && nat_le c 57)) (list_all is_word_part (c ∷ cs)) (ap not (letter_is_no_digit c letter))
    (all_more is_word_part c cs (letter_is_part c letter) (all_leads is_name_unit is_word_part name_unit_is_part cs all.1))

-- ---- the lines behind the head of a class file

abbrev GoodHead : Head → Type 0
GoodHead (ended body) = list_all is_good_line body ≡ true
GoodHead (malformed place) = Unit {0}
GoodHead unended = Unit {0}

either_head : (b : Bool) (x y : Head) → GoodHead x → GoodHead y → GoodHead (if b then x else y)
either_head true x y h k = h
either_head false x y h k = k

settings_good : (lines : List Line) → list_all is_good_line lines ≡ true → GoodHead (settings lines)
settings_good [] h = tt
settings_good (l ∷ lines) h =
    let rest = all_rest is_good_line l lines h in
    either_head (is_one_word (codes "end") l.tokens) (ended lines) (if is_blank_line l || is_setting l.tokens then settings lines else malformed l.place) rest
    (either_head (is_blank_line l || is_setting l.tokens) (settings lines) (malformed l.place) (settings_good lines rest) tt)

begin_good : (lines : List Line) → list_all is_good_line lines ≡ true → GoodHead (begin_line lines)
begin_good [] h = tt
begin_good (l ∷ lines) h =
    let rest = all_rest is_good_line l lines h in
    either_head (is_one_word (codes "begin") l.tokens) (settings lines) (if is_blank_line l then begin_line lines else malformed l.place) (settings_good lines rest)
    (either_head (is_blank_line l) (begin_line lines) (malformed l.place) (begin_good lines rest) tt)

class_good : (lines : List Line) → list_all is_good_line lines ≡ true → GoodHead (class_head lines)
class_good [] h = tt
class_good (l ∷ lines) h =
    let rest = all_rest is_good_line l lines h in
    either_head (begins_version l.tokens) (begin_line lines) (if is_blank_line l then class_head lines else malformed l.place) (begin_good lines rest)
    (either_head (is_blank_line l) (class_head lines) (malformed l.place) (class_good lines rest) tt)

head_good : (class : Bool) (lines : List Line) → list_all is_good_line lines ≡ true → GoodHead (head_of class lines)
head_good class lines h = either_head class (class_head lines) (ended lines) (class_good lines h) h

-- ---- comments

abbrev is_comment_at : Comment → Bool
is_comment_at c = is_comment c.1

line_comments : (l : Line) → is_good_line l ≡ true → list_all is_comment_at (comment_at l.place l.comment) ≡ true
line_comments l h =
    of_comment l.comment
    (both_true (list_all is_simple l.text) (has_simple_comment l.comment) (both_true (are_named l.tokens) (list_all is_simple l.text && has_simple_comment l.comment) h).1).1
  where
    of_comment : (o : Option (List ℕ)) → has_simple_comment o ≡ true → list_all is_comment_at (comment_at l.place o) ≡ true
    of_comment None k = refl
    of_comment (Some text) k = all_more is_comment_at (l.place.line, text) [] (simple_is_comment text k) refl

comments_good : (lines : List Line) → list_all is_good_line lines ≡ true → are_comments (comments_of lines) ≡ true
comments_good lines h = all_flat is_good_line is_comment_at (λ l. comment_at l.place l.comment) line_comments lines h

-- ---- members

code_has_comment : (l : tree.Line) → is_good_code l ≡ true → has_comment_text l ≡ true
code_has_comment l h = simple_is_comment l.text (both_true (list_all is_simple l.text) (is_good_form l.form) h).0

code_names : (l : tree.Line) → is_good_code l ≡ true → (names_sub l.form ≡ true) × (names_variables l ≡ true)
code_names l h =
    let form = (both_true (list_all is_simple l.text) (is_good_form l.form) h).1 in
    both_true (names_sub l.form) (names_variables l) (both_true (has_shallow_form l.form) (names_sub l.form && names_variables l) form).1

code_is_shallow : (l : tree.Line) → is_good_code l ≡ true → has_shallow_line l ≡ true
code_is_shallow l h =
    (both_true (has_shallow_form l.form) (names_sub l.form && names_variables l) (both_true (list_all is_simple l.text) (is_good_form l.form) h).1).0

member_heads : (m : Member) → list_all is_good_code (member_lines m) ≡ true → list_all is_named_head (heads_in m) ≡ true
member_heads (alone l) h = refl
member_heads (group head lines close) h = refl
member_heads (proc head body close) h =
    all_more is_named_head head []
    (code_names head (all_first is_good_code head (flat_lines body ++ close ∷ []) h)).0
    refl

heads_good : (members : List Member) → list_all is_good_code (flat_map member_lines members) ≡ true → list_all is_named_head (flat_map heads_in members) ≡ true
heads_good [] h = refl
heads_good (m ∷ ms) h =
    all_append is_named_head (heads_in m) (flat_map heads_in ms)
    (member_heads m (all_left is_good_code (member_lines m) (flat_map member_lines ms) h))
    (heads_good ms (all_right is_good_code (member_lines m) (flat_map member_lines ms) h))

-- ---- a module

body_lines : (entry : Entry) (number : ℕ) (body : List Line) (m : Module) → list_all is_good_line body ≡ true → IsModuleOf entry number body m → list_all is_good_code (module_lines m) ≡ true
body_lines entry number body m k is =
    ap (λ ls. list_all is_good_code ls) is.tree.in_order ∙ read_good [] (all_parts body) is.lines (all_parts_good body k) is.read

of_body : (entry : Entry) (number : ℕ) (body : List Line) (m : Module) → is_module_name entry.name ≡ true → list_all is_good_line body ≡ true → IsModuleOf entry number body m → is_named_module m ≡ true
of_body entry number body m h k is =
    let lines = body_lines entry number body m k is in
    let texts = and_true (is_identifier m.name && are_comments m.comments) (list_all has_comment_text (module_lines m))
    (and_true (is_identifier m.name) (are_comments m.comments)
    (ap is_identifier is.name ∙ module_name_is_identifier entry.name h)
    (ap are_comments is.comments ∙ comments_good body k))
    (all_leads is_good_code has_comment_text code_has_comment (module_lines m) lines) in
    let heads = and_true (is_identifier m.name && are_comments m.comments && list_all has_comment_text (module_lines m)) (list_all is_named_head (flat_map heads_in m.members)) texts (heads_good m.members lines) in
    and_true (is_identifier m.name && are_comments m.comments && list_all has_comment_text (module_lines m) && list_all is_named_head (flat_map heads_in m.members)) (list_all names_variables (module_lines m))
    heads (all_leads is_good_code names_variables (λ l e. (code_names l e).1) (module_lines m) lines)

of_head : (entry : Entry) (number : ℕ) (head : Head) (m : Module) → is_module_name entry.name ≡ true → GoodHead head → IsModule entry number head m → is_named_module m ≡ true
of_head entry number (ended body) m h k is = of_body entry number body m h k is
of_head entry number (malformed place) m h k is = absurd is
of_head entry number unended m h k is = absurd is

shallow_head : (entry : Entry) (number : ℕ) (head : Head) (m : Module) → GoodHead head → IsModule entry number head m → is_shallow_module m ≡ true
shallow_head entry number (ended body) m k is = all_leads is_good_code has_shallow_line code_is_shallow (module_lines m) (body_lines entry number body m k is)
shallow_head entry number (malformed place) m k is = absurd is
shallow_head entry number unended m k is = absurd is

text_head : (entry : Entry) (number : ℕ) (text : List ℕ) (m : Module) → are_single text ≡ true → (is : TextIsModule entry number text m) → GoodHead (head_of entry.class is.lines)
text_head entry number text m k is =
    head_good entry.class is.lines (ap (λ ls. list_all is_good_line ls) (sym is.lexed.before) ∙ lines_good number text k)

pub named_module : (entry : Entry) (number : ℕ) (text : List ℕ) (m : Module) → is_module_name entry.name ≡ true → are_single text ≡ true → TextIsModule entry number text m → is_named_module m ≡ true
named_module entry number text m h k is = of_head entry number (head_of entry.class is.lines) m h (text_head entry number text m k is) is.is

pub shallow_module : (entry : Entry) (number : ℕ) (text : List ℕ) (m : Module) → are_single text ≡ true → TextIsModule entry number text m → is_shallow_module m ≡ true
shallow_module entry number text m k is = shallow_head entry number (head_of entry.class is.lines) m (text_head entry number text m k is) is.is
