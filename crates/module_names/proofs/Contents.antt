-- The tokens, the comment and the text of each logical line.
use Rattle.std.proofs.Common.{◌≡◌, ℕ, zero, suc, ◌+◌, ◌-◌, ◌==◌, Bool, true, ◌&&◌, ◌||◌, if◌then◌else◌, Option, Some, None, option_map, List, [], ◌∷◌, ◌++◌, drop, refl}
use Rattle.std.specs.List.{list_all}
use Rattle.up_base.specs.declared.place.Fault.{Fault}
use Rattle.vb_tree.specs.declared.token.Line.{Line}
use Rattle.vb_tree.specs.declared.token.TokenKind.{TokenKind}
use Rattle.vb_tree.specs.Tokens.{is_blank, is_line_end, begins, token_at}
use Rattle.vb_tree.specs.LogicalLines.{onto, cut, physical_lines, continued, is_continuation, join, joined, joint, joints, shown, begins_statement, Part, gap, note, lexeme, stuck, is_rem, token_part, part_at, Content, with_token, content_from, Reading, reading, readings_from, readings, lines_before_fault}
use Rattle.module_names.specs.Texts.{is_single, are_single}
use Rattle.up_base.proofs.Lists.{by_test, and_true, all_more, all_first, all_rest, all_append, all_drop}
use Rattle.module_names.proofs.Tokens.{is_named_kind, is_named_token, found_named, read_named}
use Rattle.module_names.proofs.Units.{is_simple, shown_simply}

-- ---- physical and joined lines

abbrev are_all_single : List (List ℕ) → Bool
are_all_single lines = list_all are_single lines

onto_single : (c : ℕ) (lines : List (List ℕ)) → is_single c ≡ true → are_all_single lines ≡ true → are_all_single (onto c lines) ≡ true
onto_single c [] h k = all_more are_single (c ∷ []) [] (all_more is_single c [] h refl) refl
onto_single c (line ∷ lines) h k =
    all_more are_single (c ∷ line) lines (all_more is_single c line h (all_first are_single line lines k)) (all_rest are_single line lines k)

cut_single : (feed : Bool) (c : ℕ) (lines : List (List ℕ)) → is_single c ≡ true → are_all_single lines ≡ true → are_all_single (cut feed c lines) ≡ true
cut_single feed c lines h k =
    by_test (c == 10) (λ t. are_all_single (if t then [] ∷ lines else if c == 13 then (if feed then lines else [] ∷ lines) else onto c lines) ≡ true)
    (λ e. k)
    (λ e. by_test (c == 13) (λ t. are_all_single (if t then (if feed then lines else [] ∷ lines) else onto c lines) ≡ true)
    (λ f. by_test feed (λ t. are_all_single (if t then lines else [] ∷ lines) ≡ true) (λ g. k) (λ g. k))
    (λ f. onto_single c lines h k))

physical_single : (text : List ℕ) → are_single text ≡ true → are_all_single (physical_lines text) ≡ true
physical_single [] h = refl
physical_single (c ∷ cs) h =
    cut_single (begins (λ d. d == 10) cs) c (physical_lines cs) (all_first is_single c cs h) (physical_single cs (all_rest is_single c cs h))

abbrev SingleFront : Option (List ℕ) → Type 0
SingleFront None = Unit {0}
SingleFront (Some front) = are_single front ≡ true

continued_single : (line : List ℕ) → are_single line ≡ true → SingleFront (continued line)
continued_single [] h = tt
continued_single (c ∷ cs) h =
    by_test (is_continuation (c ∷ cs)) (λ t. SingleFront (if t then Some [] else option_map (λ front. c ∷ front) (continued cs)))
    (λ e. refl)
    (λ e. of_rest (continued cs) (continued_single cs (all_rest is_single c cs h)))
  where
    of_rest : (o : Option (List ℕ)) → SingleFront o → SingleFront (option_map (λ front. c ∷ front) o)
    of_rest None k = tt
    of_rest (Some front) k = all_more is_single c front (all_first is_single c cs h) k

join_single : (line : List ℕ) (front : Option (List ℕ)) (lines : List (List ℕ)) → are_single line ≡ true → SingleFront front → are_all_single lines ≡ true → are_all_single (join line front lines) ≡ true
join_single line None lines h f k = all_more are_single line lines h k
join_single line (Some front) [] h f k = all_more are_single (front ++ 13 ∷ []) [] (all_append is_single front (13 ∷ []) f refl) refl
join_single line (Some front) (next ∷ lines) h f k =
    all_more are_single (front ++ 10 ∷ next) lines
    (all_append is_single front (10 ∷ next) f (all_first are_single next lines k))
    (all_rest are_single next lines k)

joined_single : (lines : List (List ℕ)) → are_all_single lines ≡ true → are_all_single (joined lines) ≡ true
joined_single [] h = refl
joined_single (line ∷ lines) h =
    let first = all_first are_single line lines h in
    join_single line (continued line) (joined lines) first (continued_single line first) (joined_single lines (all_rest are_single line lines h))

-- ---- what a line holds

-- a part is a word of an identifier or no word
abbrev NamedPart : Part → Type 0
NamedPart gap = Unit {0}
NamedPart (note n) = Unit {0}
NamedPart (lexeme k n) = is_named_kind k ≡ true
NamedPart stuck = Unit {0}

part_named : (statement : Bool) (units : List ℕ) → NamedPart (part_at statement units)
unfolding part_at
part_named statement units =
    by_test (begins is_blank units || begins is_line_end units)
    (λ t. NamedPart (if t then gap else if begins (λ c. c == 39) units then note 1 else token_part statement (token_at units)))
    (λ e. tt)
    (λ e. by_test (begins (λ c. c == 39) units) (λ t. NamedPart (if t then note 1 else token_part statement (token_at units)))
    (λ f. tt)
    (λ f. of_token (token_at units) (read_named units)))
  where
    of_token : (o : Option (TokenKind × ℕ)) → found_named o ≡ true → NamedPart (token_part statement o)
    of_token None h = tt
    of_token (Some found) h =
        by_test (statement && is_rem found.0) (λ t. NamedPart (if t then note found.1 else lexeme found.0 found.1))
        (λ e. tt)
        (λ e. h)

abbrev pub has_simple_comment : Option (List ℕ) → Bool
has_simple_comment None = true
has_simple_comment (Some text) = list_all is_simple text

pub record IsGood (c : Content) : Type 0 where
  pub tokens : list_all is_named_token c.tokens ≡ true
  pub comment : has_simple_comment c.comment ≡ true

content_good : (before : List TokenKind) (line at inside : ℕ) (units : List ℕ) → are_single units ≡ true → IsGood (content_from before line at inside units)
content_good before line at inside [] h = record { tokens = refl; comment = refl }
content_good before line at (suc inside) (c ∷ cs) h = content_good before line (at + 1) inside cs (all_rest is_single c cs h)
content_good before line at zero (c ∷ cs) h =
    of_part (part_at (begins_statement before) (c ∷ cs)) (part_named (begins_statement before) (c ∷ cs))
    (λ before line inside. content_good before line (at + 1) inside cs (all_rest is_single c cs h))
  where
    of_part : (p : Part) → NamedPart p → ((before : List TokenKind) (line inside : ℕ) → IsGood (content_from before line (at + 1) inside cs)) → IsGood (elim p [
      | gap ↦ content_from before (line + joint c) (at + 1) 0 cs
      | note units ↦ record { tokens = []; comment = Some (shown (drop units (c ∷ cs))); stop = None }
      | lexeme kind units ↦
          with_token (record { kind = kind; line = line; from = at; to = at + units })
          (content_from (kind ∷ before) line (at + 1) (units - 1) cs)
      | stuck ↦ record { tokens = []; comment = None; stop = Some at }
    ])
    of_part gap n more = more before (line + joint c) 0
    of_part (note units) n more = record { tokens = refl; comment = shown_simply (drop units (c ∷ cs)) (all_drop is_single units (c ∷ cs) h) }
    of_part (lexeme k units) n more =
        let rest = more (k ∷ before) line (units - 1) in
        record {
          tokens = all_more is_named_token (record { kind = k; line = line; from = at; to = at + units }) (content_from (k ∷ before) line (at + 1) (units - 1) cs).tokens n rest.tokens;
          comment = rest.comment;
        }
    of_part stuck n more = record { tokens = refl; comment = refl }

-- ---- lines

-- a line's names are identifiers, and its text and its comment can stand in comments
abbrev pub is_good_line : Line → Bool
is_good_line l = list_all is_named_token l.tokens && (list_all is_simple l.text && has_simple_comment l.comment)

reading_good : (file number : ℕ) (units : List ℕ) → are_single units ≡ true → is_good_line (reading file number units).line ≡ true
unfolding reading
reading_good file number units h =
    let good = content_good [] number 0 0 units h in
    and_true (list_all is_named_token (content_from [] number 0 0 units).tokens) (list_all is_simple (shown units) && has_simple_comment (content_from [] number 0 0 units).comment)
    good.tokens
    (and_true (list_all is_simple (shown units)) (has_simple_comment (content_from [] number 0 0 units).comment) (shown_simply units h) good.comment)

abbrev is_good_reading : Reading → Bool
is_good_reading r = is_good_line r.line

all_good : (file number : ℕ) (lines : List (List ℕ)) → are_all_single lines ≡ true → list_all is_good_reading (readings_from file number lines) ≡ true
all_good file number [] h = refl
all_good file number (units ∷ lines) h =
    all_more is_good_reading (reading file number units) (readings_from file (number + 1 + joints units) lines)
    (reading_good file number units (all_first are_single units lines h))
    (all_good file (number + 1 + joints units) lines (all_rest are_single units lines h))

before_good : (rs : List Reading) → list_all is_good_reading rs ≡ true → list_all is_good_line (lines_before_fault rs) ≡ true
before_good [] h = refl
before_good (r ∷ rs) h = of_fault r.fault (before_good rs (all_rest is_good_reading r rs h))
  where
    of_fault : (o : Option Fault) → list_all is_good_line (lines_before_fault rs) ≡ true → list_all is_good_line (elim o [ Some fault ↦ [] | None ↦ r.line ∷ lines_before_fault rs ]) ≡ true
    of_fault (Some fault) k = refl
    of_fault None k = all_more is_good_line r.line (lines_before_fault rs) (all_first is_good_reading r rs h) k

pub lines_good : (file : ℕ) (text : List ℕ) → are_single text ≡ true → list_all is_good_line (lines_before_fault (readings file text)) ≡ true
unfolding readings
lines_good file text h = before_good (readings_from file 1 (joined (physical_lines text))) (all_good file 1 (joined (physical_lines text)) (joined_single (physical_lines text) (physical_single text h)))
