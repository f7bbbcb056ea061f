-- How the tokens of a logical line are cut: a label, statements between colons, and the code lines of an If on one line
-- (MS-VBAL, Statement Blocks, Statement Labels and If Statement).
use Rattle.std.specs.Prelude.{ℕ, zero, suc, ◌+◌, Bool, true, false, not, ◌&&◌, ◌||◌, if◌then◌else◌, List, [], ◌∷◌, ◌++◌, length, take, drop, codes, Option, Some, None, is_none}
use Rattle.std.specs.List.{list_all}
use Rattle.up_base.specs.Names.{lower_case}
use Rattle.vb_tree.specs.declared.token.Suffix.TheVariants as suffix
use Rattle.vb_tree.specs.declared.token.Token.{Token}
use Rattle.vb_tree.specs.declared.token.TokenKind.{TokenKind}
use Rattle.vb_tree.specs.declared.token.TokenKind.TheVariants as kind
use Rattle.vb_tree.specs.Expressions.{keyword_of}
use Rattle.vb_tree.specs.LogicalLines.{is_word, is_colon, is_access, is_line_number}

-- a part of a logical line
pub data Cut : Type 0 where
  -- a first word or number that is a label where labels stand
  label_cut : Token → Cut
  -- a statement, with its tokens
  statement_cut : List Token → Cut
  -- the head of an If on one line, with its tokens up to Then
  head_cut : List Token → Cut
  -- a whole number in place of statements, to which control goes
  jump_cut : Token → Cut
  -- the Else of an If on one line
  else_cut : Token → Cut
  -- an Else on the line of Ifs that have one already
  stray_cut : Token → Cut
  -- the end of an If on one line
  end_cut : Cut

-- Tests

abbrev pub is_else : Token → Bool
is_else t = is_word (codes "else") t.kind

abbrev pub is_then : Token → Bool
is_then t = is_word (codes "then") t.kind

-- whether tokens begin with an If
abbrev pub begins_if : List Token → Bool
begins_if [] = false
begins_if (t ∷ ts) = is_word (codes "if") t.kind

abbrev pub begins_colon : List Token → Bool
begins_colon [] = false
begins_colon (t ∷ ts) = is_colon t.kind

abbrev pub ends_or_begins_else : List Token → Bool
ends_or_begins_else [] = true
ends_or_begins_else (t ∷ ts) = is_else t

abbrev pub are_colons : List Token → Bool
are_colons tokens = list_all (λ t. is_colon t.kind) tokens

-- whether a word is no reserved one
abbrev pub is_free : List ℕ → Bool
is_free name = is_none (keyword_of (lower_case name))

-- a word that can be a label: not reserved, or in brackets, and without a suffix
abbrev pub is_label_word : TokenKind → Bool
is_label_word (kind.Word name suffix.Absent) = is_free name
is_label_word (kind.Bracketed name suffix.Absent) = true
is_label_word _ = false

-- One statement

-- Whether a token ends the statement before it: a colon, or an Else on the line of an If. Behind `.` or `!` each word is a name.
abbrev pub ends_statement : (in_if behind_access : Bool) → Token → Bool
ends_statement in_if behind t = is_colon t.kind || (in_if && not behind && is_else t)

-- where a statement ends, counted on from a number
abbrev pub statement_end : ℕ → (in_if behind_access : Bool) → List Token → ℕ
statement_end at in_if behind [] = at
statement_end at in_if behind (t ∷ ts) =
    if ends_statement in_if behind t then at else statement_end (at + 1) in_if (is_access t.kind) ts

-- where a statement goes on behind its first Then, counted on from a number
abbrev pub behind_then : ℕ → (in_if behind_access : Bool) → List Token → Option ℕ
behind_then at in_if behind [] = None
behind_then at in_if behind (t ∷ ts) =
    if ends_statement in_if behind t then None
    else if not behind && is_then t then Some (at + 1)
    else behind_then (at + 1) in_if (is_access t.kind) ts

-- how many tokens the head of an If on one line has: something other than colons stands behind it
abbrev pub unless_colons : List Token → Option ℕ → Option ℕ
unless_colons tokens None = None
unless_colons tokens (Some n) = if are_colons (drop n tokens) then None else Some n

abbrev pub line_if_head : (in_if : Bool) → List Token → Option ℕ
line_if_head in_if tokens = if begins_if tokens then unless_colons tokens (behind_then 0 in_if false tokens) else None

-- Ifs on one line. A list has for each that is open whether it has its Else, the innermost one first.

abbrev pub is_in_if : List Bool → Bool
is_in_if [] = false
is_in_if (has_else ∷ outer) = true

-- all of them end
abbrev pub ends : List Bool → List Cut
ends [] = []
ends (has_else ∷ outer) = end_cut ∷ ends outer

-- an Else ends the Ifs inside of the innermost one that has none, and is its Else
abbrev pub else_cuts : List Bool → Token → List Cut
else_cuts [] t = stray_cut t ∷ []
else_cuts (true ∷ outer) t = end_cut ∷ else_cuts outer t
else_cuts (false ∷ outer) t = else_cut t ∷ []

abbrev pub behind_else : List Bool → List Bool
behind_else [] = []
behind_else (true ∷ outer) = behind_else outer
behind_else (false ∷ outer) = true ∷ outer

-- whether a whole number stands alone behind Then or Else
abbrev pub begins_jump : List Token → Bool
begins_jump [] = false
begins_jump (t ∷ ts) = is_line_number t.kind && ends_or_begins_else ts

abbrev pub jumps : List Token → List Cut
jumps [] = []
jumps (t ∷ ts) = if begins_jump (t ∷ ts) then jump_cut t ∷ [] else []

abbrev pub past_jump : List Token → List Token
past_jump [] = []
past_jump (t ∷ ts) = if begins_jump (t ∷ ts) then ts else t ∷ ts

-- what is cut off first, with the Ifs that are open behind it and the tokens that are left
pub record Step : Type 0 where
  pub cuts : List Cut
  pub ifs : List Bool
  pub rest : List Token

abbrev pub else_step : List Bool → Token → List Token → Step
else_step ifs t rest = record { cuts = else_cuts ifs t ++ jumps rest; ifs = behind_else ifs; rest = past_jump rest }

abbrev pub statement_step : List Bool → List Token → Option ℕ → Step
statement_step ifs tokens (Some n) =
    record { cuts = head_cut (take n tokens) ∷ jumps (drop n tokens); ifs = false ∷ ifs; rest = past_jump (drop n tokens) }
statement_step ifs tokens None =
    let n = statement_end 0 (is_in_if ifs) false tokens in
    record { cuts = statement_cut (take n tokens) ∷ []; ifs = ifs; rest = drop n tokens }

abbrev pub first_step : List Bool → List Token → Step
first_step ifs [] = record { cuts = []; ifs = ifs; rest = [] }
first_step ifs (t ∷ ts) =
    if is_colon t.kind then record { cuts = []; ifs = ifs; rest = ts }
    else if is_in_if ifs && is_else t then else_step ifs t ts
    else statement_step ifs (t ∷ ts) (line_if_head (is_in_if ifs) (t ∷ ts))

-- The parts of the statements of at most n tokens. Each step takes a token at least.
abbrev pub statements : (n : ℕ) → List Bool → List Token → List Cut
statements zero ifs tokens = ends ifs
statements (suc n) ifs [] = ends ifs
statements (suc n) ifs (t ∷ ts) =
    let step = first_step ifs (t ∷ ts) in
    step.cuts ++ statements n step.ifs step.rest

abbrev pub cut_statements : List Token → List Cut
cut_statements tokens = statements (length tokens) [] tokens

-- whether a logical line begins with what is a label where labels stand
abbrev pub begins_label : List Token → Bool
begins_label [] = false
begins_label (t ∷ ts) = is_line_number t.kind || (is_label_word t.kind && begins_colon ts)

abbrev pub labels : List Token → List Cut
labels [] = []
labels (t ∷ ts) = if begins_label (t ∷ ts) then label_cut t ∷ [] else []

abbrev pub past_label : List Token → List Token
past_label [] = []
past_label (t ∷ ts) = if begins_label (t ∷ ts) then ts else t ∷ ts

-- the parts of a logical line in order
abbrev pub line_cuts : List Token → List Cut
line_cuts tokens = labels tokens ++ cut_statements (past_label tokens)
