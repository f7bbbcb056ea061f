-- What stands at the front and at the end of statements.
use Rattle.std.specs.Prelude.{ℕ, pos, List, [], ◌∷◌, Option, Some, None, option_map, option_and_then, Bool, true, false, ◌&&◌, ◌||◌, not, codes, nat_eq, if◌then◌else◌}
use Rattle.std.specs.Cmp.Lexicographic.{pointwise}
use Rattle.up_base.specs.Names.{lower_case}
use Rattle.std.specs.Ordering.{int_eq}
use Rattle.vb_tree.specs.declared.form_parts.ExitKind.TheVariants as exit_kind
use Rattle.vb_tree.specs.declared.form_parts.Label6.{Label6}
use Rattle.vb_tree.specs.declared.form_parts.Label6.TheVariants as label6
use Rattle.vb_tree.specs.declared.token.Sign.{Sign}
use Rattle.vb_tree.specs.declared.token.Sign.TheVariants.{OpenParen, CloseParen, Dot, Bang, Equal, Semicolon}
use Rattle.vb_tree.specs.declared.token.Suffix.{Suffix}
use Rattle.vb_tree.specs.declared.token.Suffix.TheVariants.{Absent, Str}
use Rattle.vb_tree.specs.declared.token.Token.{Token}
use Rattle.vb_tree.specs.declared.token.TokenKind.{TokenKind}
use Rattle.vb_tree.specs.declared.token.TokenKind.TheVariants as kind
use Rattle.vb_tree.specs.Tree.{Form}
use Rattle.vb_tree.specs.Tree as tree
use Rattle.form_parts.specs.Words.{is_key}
use Rattle.statement_forms.specs.declared.fronts.Ending.{Ending}
use Rattle.statement_forms.specs.declared.fronts.Ending.TheVariants as ending
use Rattle.form_parts.specs.Parts.{kind_label, name_of_token}

-- what stands behind the keyword w at the front
abbrev pub behind_key : List ℕ → List Token → Option (List Token)
behind_key w [] = None
behind_key w (t ∷ ts) = if is_key w t then Some ts else None

abbrev pub is_found : Option (List Token) → Bool
is_found None = false
is_found (Some rest) = true

abbrev pub past_found : Option (List Token) → List Token → List Token
past_found None ts = ts
past_found (Some rest) ts = rest

-- the tokens without the keyword w at their front
abbrev pub past_word : List ℕ → List Token → List Token
past_word w ts = past_found (behind_key w ts) ts

-- what stands before the last token, where that passes a test
abbrev pub before_last : (Token → Bool) → List Token → Option (List Token)
before_last p [] = None
before_last p (t ∷ []) = if p t then Some [] else None
before_last p (t ∷ u ∷ ts) = option_map (λ x. t ∷ x) (before_last p (u ∷ ts))

abbrev pub is_sign_of : (Sign → Bool) → TokenKind → Bool
is_sign_of p (kind.Word n s) = false
is_sign_of p (kind.Bracketed n s) = false
is_sign_of p (kind.Lit l) = false
is_sign_of p (kind.Sign s) = p s

abbrev pub semicolon_sign : Sign → Bool
semicolon_sign Semicolon = true
semicolon_sign _ = false

abbrev pub close_paren_sign : Sign → Bool
close_paren_sign CloseParen = true
close_paren_sign _ = false

-- the word Then, a semicolon or a closing parenthesis
abbrev pub is_ending : Ending → Token → Bool
is_ending ending.Then t = is_key (codes "then") t
is_ending ending.Semicolon t = is_sign_of semicolon_sign t.kind
is_ending ending.Closing t = is_sign_of close_paren_sign t.kind

-- what stands before the word Then at the end
abbrev pub before_then : List Token → Option (List Token)
before_then ts = before_last (is_ending ending.Then) ts

-- what stands before a semicolon at the end
abbrev pub before_semicolon : List Token → Option (List Token)
before_semicolon ts = before_last (is_ending ending.Semicolon) ts

-- the label that the tokens are
abbrev pub label_in : List Token → Option Label6
label_in [] = None
label_in (t ∷ []) = kind_label t.kind
label_in (t ∷ u ∷ ts) = None

-- Forms of words alone.

abbrev pub end_form : Token → Option Form
end_form t =
    if is_key (codes "if") t then Some tree.end_if
    else if is_key (codes "select") t then Some tree.end_select
    else if is_key (codes "with") t then Some tree.end_with
    else None

abbrev pub exit_form : Token → Option Form
exit_form t =
    if is_key (codes "sub") t then Some (tree.exit exit_kind.Sub)
    else if is_key (codes "function") t then Some (tree.exit exit_kind.Function)
    else if is_key (codes "property") t then Some (tree.exit exit_kind.Property)
    else if is_key (codes "for") t then Some (tree.exit exit_kind.For)
    else if is_key (codes "do") t then Some (tree.exit exit_kind.Do)
    else None

abbrev pub one_word : Token → Option Form
one_word t =
    if is_key (codes "else") t then Some tree.else_line
    else if is_key (codes "do") t then Some tree.do_head
    else if is_key (codes "loop") t then Some tree.loop
    else if is_key (codes "wend") t then Some tree.wend
    else if is_key (codes "resume") t then Some tree.resume
    else None

abbrev pub two_words : Token → Token → Option Form
two_words t u =
    if is_key (codes "end") t then end_form u
    else if is_key (codes "exit") t then exit_form u
    else if is_key (codes "case") t && is_key (codes "else") u then Some tree.case_else
    else if is_key (codes "resume") t && is_key (codes "next") u then Some tree.resume_next
    else None

abbrev pub four_words : Token → Token → Token → Token → Option Form
four_words t u v w =
    if is_key (codes "on") t && is_key (codes "error") u && is_key (codes "resume") v && is_key (codes "next") w
    then Some tree.on_error_resume_next
    else None

-- the form of a line that is made of words alone
abbrev pub words_form : List Token → Option Form
words_form [] = None
words_form (t ∷ []) = one_word t
words_form (t ∷ u ∷ []) = two_words t u
words_form (t ∷ u ∷ v ∷ []) = None
words_form (t ∷ u ∷ v ∷ w ∷ []) = four_words t u v w
words_form (t ∷ u ∷ v ∷ w ∷ x ∷ more) = None

-- Jumps: a label of number 0 has a meaning of its own.

abbrev pub is_zero_label : Label6 → Bool
is_zero_label (label6.Word n) = false
is_zero_label (label6.Number n) = int_eq n (pos 0)

abbrev pub labelled : Form → (Label6 → Form) → Option Label6 → Option Form
labelled zero_form form None = None
labelled zero_form form (Some l) = if is_zero_label l then Some zero_form else Some (form l)

-- `GoTo` and a label
abbrev pub jump_form : List Token → Option Form
jump_form ts = option_and_then (λ rest. option_map tree.goto (label_in rest)) (behind_key (codes "goto") ts)

-- what stands behind `On Error GoTo`
abbrev pub behind_error : List Token → Option (List Token)
behind_error ts = option_and_then (behind_key (codes "goto")) (option_and_then (behind_key (codes "error")) (behind_key (codes "on") ts))

-- `On Error GoTo` and a label
abbrev pub error_form : List Token → Option Form
error_form ts = option_and_then (λ rest. labelled tree.on_error_goto_zero tree.on_error_goto (label_in rest)) (behind_error ts)

-- `Resume` and a label
abbrev pub resume_form : List Token → Option Form
resume_form ts = option_and_then (λ rest. labelled tree.resume tree.resume_at (label_in rest)) (behind_key (codes "resume") ts)

abbrev pub named_next : List Token → Option Form
named_next [] = Some (tree.next None)
named_next (t ∷ []) = option_map (λ n. tree.next (Some n)) (name_of_token t)
named_next (t ∷ u ∷ ts) = None

-- `Next`, with its name or without
abbrev pub next_form : List Token → Option Form
next_form ts = option_and_then named_next (behind_key (codes "next") ts)

abbrev pub named_each : List Token → Option ((List ℕ × Suffix) × List Token)
named_each [] = None
named_each (t ∷ ts) = option_and_then (λ n. option_map (λ rest. (n, rest)) (behind_key (codes "in") ts)) (name_of_token t)

-- the name of a `For Each` and the tokens behind In
abbrev pub each_parts : List Token → Option ((List ℕ × Suffix) × List Token)
each_parts ts = option_and_then named_each (option_and_then (behind_key (codes "each")) (behind_key (codes "for") ts))

-- Debug.Print, and what a line that begins with it holds.

abbrev pub dot_sign : Sign → Bool
dot_sign Dot = true
dot_sign _ = false

abbrev pub access_sign : Sign → Bool
access_sign Dot = true
access_sign Bang = true
access_sign _ = false

abbrev pub part_sign : Sign → Bool
part_sign Equal = true
part_sign Dot = true
part_sign OpenParen = true
part_sign _ = false

-- what stands behind Debug, a full stop and the word w
abbrev pub behind_debug : List ℕ → List Token → Option (List Token)
behind_debug w [] = None
behind_debug w (t ∷ []) = None
behind_debug w (t ∷ u ∷ []) = None
behind_debug w (t ∷ u ∷ v ∷ ts) = if is_key (codes "debug") t && is_sign_of dot_sign u.kind && is_key w v then Some ts else None

abbrev pub is_column_word : Token → Bool
is_column_word t = is_key (codes "tab") t || is_key (codes "spc") t

-- whether the word Tab or Spc stands in the tokens other than behind `.` or `!`; one may stand before them
abbrev pub has_column : Bool → List Token → Bool
has_column named [] = false
has_column named (t ∷ ts) = (not named && is_column_word t) || has_column (is_sign_of access_sign t.kind) ts

-- Lines that are kept as their tokens.

abbrev pub keeps_any : Token → Bool
keeps_any t =
    is_key (codes "gosub") t || is_key (codes "return") t || is_key (codes "stop") t
    || is_key (codes "lset") t || is_key (codes "rset") t || is_key (codes "raiseevent") t

abbrev pub keeps_file : Token → Bool
keeps_file t =
    is_key (codes "close") t || is_key (codes "error") t || is_key (codes "get") t || is_key (codes "input") t
    || is_key (codes "kill") t || is_key (codes "line") t || is_key (codes "load") t || is_key (codes "lock") t

abbrev pub keeps_more : Token → Bool
keeps_more t =
    is_key (codes "name") t || is_key (codes "open") t || is_key (codes "print") t || is_key (codes "put") t
    || is_key (codes "seek") t || is_key (codes "unload") t || is_key (codes "unlock") t || is_key (codes "write") t

-- whether a `=`, a full stop or a parenthesis stands first
abbrev pub begins_part : List Token → Bool
begins_part [] = false
begins_part (t ∷ ts) = is_sign_of part_sign t.kind

-- whether the word of a procedure stands first, as behind the End of its closing line
abbrev pub begins_procedure : List Token → Bool
begins_procedure [] = false
begins_procedure (t ∷ ts) = is_key (codes "sub") t || is_key (codes "function") t || is_key (codes "property") t

-- whether the first word is one whose line is kept
abbrev pub keeps_first : List Token → Bool
keeps_first [] = false
keeps_first (t ∷ ts) =
    keeps_any t || (is_key (codes "end") t && not (begins_procedure ts))
    || ((keeps_file t || keeps_more t) && not (begins_part ts))

abbrev pub keeps : List Token → Bool
keeps ts = keeps_first ts || is_found (behind_debug (codes "assert") ts)

-- Mid as a statement: the word, an argument list and `=`.

abbrev pub mid_suffix : Suffix → Bool
mid_suffix Absent = true
mid_suffix Str = true
mid_suffix _ = false

abbrev pub is_mid : TokenKind → Bool
is_mid (kind.Word n s) = mid_suffix s && pointwise nat_eq (lower_case n) (codes "mid")
is_mid (kind.Bracketed n s) = false
is_mid (kind.Lit l) = false
is_mid (kind.Sign s) = false

abbrev pub open_paren_sign : Sign → Bool
open_paren_sign OpenParen = true
open_paren_sign _ = false

-- the tokens between the parentheses behind Mid, where nothing else stands there
abbrev pub mid_list : List Token → Option (List Token)
mid_list [] = None
mid_list (t ∷ []) = None
mid_list (t ∷ u ∷ ts) = if is_mid t.kind && is_sign_of open_paren_sign u.kind then before_last (is_ending ending.Closing) ts else None

-- Members that draw.

-- whether a word has this name, in brackets or not and in any case
abbrev pub is_name_of : List ℕ → TokenKind → Bool
is_name_of w (kind.Word n s) = pointwise nat_eq (lower_case n) w
is_name_of w (kind.Bracketed n s) = pointwise nat_eq (lower_case n) w
is_name_of w (kind.Lit l) = false
is_name_of w (kind.Sign s) = false

abbrev pub draws : Token → Bool
draws t =
    is_name_of (codes "circle") t.kind || is_name_of (codes "line") t.kind || is_name_of (codes "print") t.kind
    || is_name_of (codes "pset") t.kind || is_name_of (codes "scale") t.kind

-- whether the last two tokens are a full stop and a member that draws
abbrev pub ends_drawn : List Token → Bool
ends_drawn [] = false
ends_drawn (t ∷ []) = false
ends_drawn (t ∷ u ∷ []) = is_sign_of dot_sign t.kind && draws u
ends_drawn (t ∷ u ∷ v ∷ ts) = ends_drawn (u ∷ v ∷ ts)

-- whether the last token is a full stop
abbrev pub ends_dot : List Token → Bool
ends_dot [] = false
ends_dot (t ∷ []) = is_sign_of dot_sign t.kind
ends_dot (t ∷ u ∷ ts) = ends_dot (u ∷ ts)
