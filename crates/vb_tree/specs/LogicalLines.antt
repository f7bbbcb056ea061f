-- The logical lines of a module's text, and its first lexical fault. (MS-VBAL, module line structure and lexical tokens.)
use Rattle.std.specs.Prelude.{◌≡◌, ℕ, zero, suc, ◌+◌, ◌-◌, ◌<◌, ◌≤◌, Bool, true, false, not, ◌&&◌, ◌||◌, if◌then◌else◌, ◌==◌, nat_eq, nat_lt, List, [], ◌∷◌, ◌++◌, map, take, drop, codes, Option, Some, None, option_map}
use Rattle.std.specs.List.{list_all}
use Rattle.up_base.specs.declared.place.Fault.{Fault}
use Rattle.std.specs.Cmp.Lexicographic.{pointwise}
use Rattle.up_base.specs.Names.{lower_case}
use Rattle.vb_tree.specs.declared.token.Line.{Line}
use Rattle.vb_tree.specs.declared.token.Literal6.TheVariants as literal
use Rattle.vb_tree.specs.declared.token.Sign.TheVariants as sign
use Rattle.vb_tree.specs.declared.token.Suffix.TheVariants as suffix
use Rattle.vb_tree.specs.declared.token.Token.{Token}
use Rattle.vb_tree.specs.declared.token.TokenKind.{TokenKind}
use Rattle.vb_tree.specs.declared.token.TokenKind.TheVariants as kind
use Rattle.vb_tree.specs.Tokens.{is_blank, is_line_end, token_at, begins}

-- Physical lines

-- a unit before the lines that follow it
abbrev pub onto : ℕ → List (List ℕ) → List (List ℕ)
onto c [] = (c ∷ []) ∷ []
onto c (line ∷ lines) = (c ∷ line) ∷ lines

-- a line feed and a carriage return end a line, and a carriage return before a line feed is a part of that end
abbrev pub cut : (feed_follows : Bool) → ℕ → List (List ℕ) → List (List ℕ)
cut feed_follows c lines =
    if c == 10 then [] ∷ lines
    else if c == 13 then (if feed_follows then lines else [] ∷ lines)
    else onto c lines

-- the physical lines of a text, without their ends; a line end at the end of the text begins no further line
abbrev pub physical_lines : List ℕ → List (List ℕ)
physical_lines [] = []
physical_lines (c ∷ cs) = cut (begins (λ d. d == 10) cs) c (physical_lines cs)

-- Logical lines

-- whether these units end a line that goes on: a blank, an underscore and blanks
abbrev pub is_continuation : List ℕ → Bool
is_continuation (b ∷ u ∷ blanks) = is_blank b && u == 95 && list_all is_blank blanks
is_continuation _ = false

-- what stands before the continuation of a line that goes on
abbrev pub continued : List ℕ → Option (List ℕ)
continued [] = None
continued (c ∷ cs) = if is_continuation (c ∷ cs) then Some [] else option_map (λ front. c ∷ front) (continued cs)

-- A line before the lines that follow it. Its continuation becomes one line feed, or a carriage return where no line follows:
-- no line holds either otherwise.
abbrev pub join : List ℕ → Option (List ℕ) → List (List ℕ) → List (List ℕ)
join line None lines = line ∷ lines
join line (Some front) [] = (front ++ 13 ∷ []) ∷ []
join line (Some front) (next ∷ lines) = (front ++ 10 ∷ next) ∷ lines

-- physical lines joined where one goes on
abbrev pub joined : List (List ℕ) → List (List ℕ)
joined [] = []
joined (line ∷ lines) = join line (continued line) (joined lines)

-- 1 where a unit is a continuation
abbrev pub joint : ℕ → ℕ
joint c = if is_line_end c then 1 else 0

-- the number of continuations in a line
abbrev pub joints : List ℕ → ℕ
joints [] = 0
joints (c ∷ cs) = joint c + joints cs

-- a unit as it is shown: a continuation is one blank
abbrev pub shown_unit : ℕ → ℕ
shown_unit c = if is_line_end c then 32 else c

abbrev pub shown : List ℕ → List ℕ
shown units = map shown_unit units

-- Where a statement begins. Each list has the tokens before a place, the last one first.

-- whether a token is this word, given in small letters
abbrev pub is_word : List ℕ → TokenKind → Bool
is_word name (kind.Word spelt suffix.Absent) = pointwise nat_eq (lower_case spelt) name
is_word name _ = false

abbrev pub is_colon : TokenKind → Bool
is_colon (kind.Sign sign.Colon) = true
is_colon _ = false

-- a full stop or an exclamation mark: each word behind it is a name
abbrev pub is_access : TokenKind → Bool
is_access (kind.Sign sign.Dot) = true
is_access (kind.Sign sign.Bang) = true
is_access _ = false

-- a decimal number that may be a label
abbrev pub is_line_number : TokenKind → Bool
is_line_number (kind.Lit (literal.Int n radix)) = not radix
is_line_number (kind.Lit (literal.Long n radix)) = not radix
is_line_number _ = false

abbrev pub is_nil : List TokenKind → Bool
is_nil [] = true
is_nil _ = false

abbrev pub last_is_access : List TokenKind → Bool
last_is_access [] = false
last_is_access (token ∷ before) = is_access token

-- At the start of a line, behind a colon, behind a number that is the first token, and behind the Then or Else of an If on
-- one line. The second says whether an If began a statement.
abbrev mutual
  pub begins_statement : List TokenKind → Bool
  begins_statement [] = true
  begins_statement (token ∷ before) =
      is_colon token
      || (is_line_number token && is_nil before)
      || ((is_word (codes "then") token || is_word (codes "else") token) && not (last_is_access before) && has_if before)

  pub has_if : List TokenKind → Bool
  has_if [] = false
  has_if (token ∷ before) = (is_word (codes "if") token && begins_statement before) || has_if before

-- Tokens

-- what stands at the front of the rest of a line
pub data Part : Type 0 where
  -- one unit that separates tokens
  gap : Part
  -- a comment, with the number of units of its mark
  note : ℕ → Part
  lexeme : TokenKind → (units : ℕ) → Part
  -- no token begins here
  stuck : Part

abbrev pub is_rem : TokenKind → Bool
is_rem kind = is_word (codes "rem") kind

abbrev pub token_part : (statement : Bool) → Option (TokenKind × ℕ) → Part
token_part statement None = stuck
token_part statement (Some found) = if statement && is_rem found.0 then note found.1 else lexeme found.0 found.1

-- the first says whether a statement begins here
unfoldable pub part_at : Bool → List ℕ → Part
part_at statement units =
    if begins is_blank units || begins is_line_end units then gap
    else if begins (λ c. c == 39) units then note 1
    else token_part statement (token_at units)

-- what a line holds: its tokens, its comment, and the place where no token begins
pub record Content : Type 0 where
  pub tokens : List Token
  pub comment : Option (List ℕ)
  pub stop : Option ℕ

abbrev pub with_token : Token → Content → Content
with_token t content = record content { tokens = t ∷ content.tokens }

-- The content of a line from a place on, with the tokens before it, the last one first, and the physical line of the place.
-- The first `inside` units belong to a token or a comment mark before.
abbrev pub content_from : (before : List TokenKind) (line at inside : ℕ) → List ℕ → Content
content_from before line at inside [] = record { tokens = []; comment = None; stop = None }
content_from before line at (suc inside) (c ∷ cs) = content_from before line (at + 1) inside cs
content_from before line at zero (c ∷ cs) =
    elim (part_at (begins_statement before) (c ∷ cs)) [
      | gap ↦ content_from before (line + joint c) (at + 1) 0 cs
      | note units ↦ record { tokens = []; comment = Some (shown (drop units (c ∷ cs))); stop = None }
      | lexeme kind units ↦
          with_token (record { kind = kind; line = line; from = at; to = at + units })
          (content_from (kind ∷ before) line (at + 1) (units - 1) cs)
      | stuck ↦ record { tokens = []; comment = None; stop = Some at }
    ]

-- A token of a line whose first physical line has this number is the one that is read at its place, and it has the physical
-- line of that place.
pub record IsPlaced (units : List ℕ) (number : ℕ) (t : Token) : Type 0 where
  pub read : token_at (drop t.from units) ≡ Some (t.kind, t.to - t.from)
  pub line : t.line ≡ number + joints (take t.from units)

-- what separates tokens: a blank, a tab or a continuation
abbrev pub is_gap : ℕ → Bool
is_gap c = is_blank c || is_line_end c

-- Tokens of a line stand in order behind a place, each of a unit at least, and gaps alone stand before and between them.
abbrev pub AreSpread : List ℕ → (place : ℕ) → List Token → Type 0
AreSpread units place [] = Unit {0}
AreSpread units place (t ∷ ts) =
    (place ≤ t.from) × (list_all is_gap (take (t.from - place) (drop place units)) ≡ true) × (t.from < t.to) × AreSpread units t.to ts

-- Faults

-- a control unit other than a tab
abbrev pub is_control : ℕ → Bool
is_control c = (nat_lt c 32 && not (c == 9) && not (is_line_end c)) || c == 127

abbrev pub is_hash : TokenKind → Bool
is_hash (kind.Sign sign.Hash) = true
is_hash _ = false

abbrev pub is_any_word : TokenKind → Bool
is_any_word (kind.Word name s) = true
is_any_word (kind.Bracketed name s) = true
is_any_word _ = false

-- the place of a `#` that is the first token, where a word is the second
abbrev pub directive : List Token → Option ℕ
directive (first ∷ second ∷ tokens) = if is_hash first.kind && is_any_word second.kind then Some first.from else None
directive _ = None

abbrev pub is_place : Option ℕ → ℕ → Bool
is_place None at = false
is_place (Some place) at = place == at

-- What is wrong with the unit at a place, behind so many continuations: a control unit, the 25th continuation or one that no
-- line follows, a directive, an opening quote that nothing closes, a unit that begins no token.
unfoldable pub fault_at : (directive stop : Option ℕ) → (joints at unit : ℕ) → Option ℕ
fault_at directive stop joints at c =
    if is_control c then Some 6
    else if c == 13 || (c == 10 && joints == 24) then Some 7
    else if is_place directive at then Some 13
    else if is_place stop at then Some (if c == 34 then 8 else 9)
    else None

-- The first place that is faulty, with its kind and its physical line.
abbrev pub first_fault_from : (directive stop : Option ℕ) → (file line joints at : ℕ) → List ℕ → Option Fault
first_fault_from directive stop file line joints at [] = None
first_fault_from directive stop file line joints at (c ∷ cs) =
    elim (fault_at directive stop joints at c) [
      | Some kind ↦ Some (record { place = record { file = file; line = line + joints }; kind = kind })
      | None ↦ first_fault_from directive stop file line (joints + joint c) (at + 1) cs
    ]

-- The whole text

-- a logical line, and its first fault
pub record Reading : Type 0 where
  pub line : Line
  pub fault : Option Fault

abbrev pub line_of : (file number : ℕ) → List ℕ → Content → Line
line_of file number units content = record {
  place = record { file = file; line = number };
  text = shown units;
  tokens = content.tokens;
  comment = content.comment;
}

-- what a line comes to whose first physical line has this number
abbrev pub reading_with : (file number : ℕ) → List ℕ → Content → Reading
reading_with file number units content = record {
  line = line_of file number units content;
  fault = first_fault_from (directive content.tokens) content.stop file number 0 0 units;
}

unfoldable pub reading : (file number : ℕ) → List ℕ → Reading
reading file number units = reading_with file number units (content_from [] number 0 0 units)

-- lines whose first physical line has this number
abbrev pub readings_from : (file number : ℕ) → List (List ℕ) → List Reading
readings_from file number [] = []
readings_from file number (units ∷ lines) = reading file number units ∷ readings_from file (number + 1 + joints units) lines

-- the logical lines of a text, each with its first fault
unfoldable pub readings : (file : ℕ) → List ℕ → List Reading
readings file text = readings_from file 1 (joined (physical_lines text))

-- the first fault, and the lines before the one that holds it; all where there is none
abbrev pub first_fault : List Reading → Option Fault
first_fault [] = None
first_fault (r ∷ rs) = elim r.fault [ Some fault ↦ Some fault | None ↦ first_fault rs ]

abbrev pub lines_before_fault : List Reading → List Line
lines_before_fault [] = []
lines_before_fault (r ∷ rs) = elim r.fault [ Some fault ↦ [] | None ↦ r.line ∷ lines_before_fault rs ]
