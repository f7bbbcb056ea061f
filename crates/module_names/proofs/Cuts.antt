-- The tokens of the parts of a line are tokens of the line.
use Rattle.std.proofs.Common.{◌≡◌, ℕ, zero, suc, Bool, true, false, ◌&&◌, if◌then◌else◌, Option, Some, None, List, [], ◌∷◌, take, drop, length, refl}
use Rattle.std.specs.List.{list_all}
use Rattle.up_base.specs.declared.place.Place.{Place}
use Rattle.vb_tree.specs.declared.token.Line.{Line}
use Rattle.vb_tree.specs.declared.token.Token.{Token}
use Rattle.vb_tree.specs.LogicalLines.{is_colon}
use Rattle.vb_lines.specs.Statements.{Cut, label_cut, statement_cut, head_cut, jump_cut, else_cut, stray_cut, end_cut, is_else, statement_end, line_if_head, is_in_if, ends, else_cuts, begins_jump, jumps, past_jump, Step, else_step, statement_step, first_step, statements, cut_statements, begins_label, labels, past_label, line_cuts}
use Rattle.vb_lines.specs.Parts.{Part, parts_at, parts_of, all_parts}
use Rattle.up_base.proofs.Lists.{by_test, both_true, and_true, all_more, all_first, all_rest, all_append, all_take, all_drop, all_flat}
use Rattle.module_names.proofs.Contents.{is_good_line, has_simple_comment}
use Rattle.module_names.proofs.Tokens.{is_named_token}
use Rattle.module_names.proofs.Units.{is_simple}

abbrev pub are_named : List Token → Bool
are_named tokens = list_all is_named_token tokens

abbrev pub is_named_cut : Cut → Bool
is_named_cut (label_cut t) = is_named_token t
is_named_cut (statement_cut tokens) = are_named tokens
is_named_cut (head_cut tokens) = are_named tokens
is_named_cut (jump_cut t) = is_named_token t
is_named_cut (else_cut t) = is_named_token t
is_named_cut (stray_cut t) = is_named_token t
is_named_cut end_cut = true

abbrev pub are_named_cuts : List Cut → Bool
are_named_cuts cuts = list_all is_named_cut cuts

ends_named : (ifs : List Bool) → are_named_cuts (ends ifs) ≡ true
ends_named [] = refl
ends_named (b ∷ outer) = ends_named outer

else_named : (ifs : List Bool) (t : Token) → is_named_token t ≡ true → are_named_cuts (else_cuts ifs t) ≡ true
else_named [] t h = all_more is_named_cut (stray_cut t) [] h refl
else_named (true ∷ outer) t h = else_named outer t h
else_named (false ∷ outer) t h = all_more is_named_cut (else_cut t) [] h refl

jumps_named : (tokens : List Token) → are_named tokens ≡ true → are_named_cuts (jumps tokens) ≡ true
jumps_named [] h = refl
jumps_named (t ∷ ts) h =
    by_test (begins_jump (t ∷ ts)) (λ b. are_named_cuts (if b then jump_cut t ∷ [] else []) ≡ true)
    (λ e. all_more is_named_cut (jump_cut t) [] (all_first is_named_token t ts h) refl)
    (λ e. refl)

past_jump_named : (tokens : List Token) → are_named tokens ≡ true → are_named (past_jump tokens) ≡ true
past_jump_named [] h = refl
past_jump_named (t ∷ ts) h =
    by_test (begins_jump (t ∷ ts)) (λ b. are_named (if b then ts else t ∷ ts) ≡ true)
    (λ e. all_rest is_named_token t ts h)
    (λ e. h)

record NamedStep (s : Step) : Type 0 where
  cuts : are_named_cuts s.cuts ≡ true
  rest : are_named s.rest ≡ true

statement_named : (ifs : List Bool) (tokens : List Token) (head : Option ℕ) → are_named tokens ≡ true → NamedStep (statement_step ifs tokens head)
statement_named ifs tokens (Some n) h =
    let rest = all_drop is_named_token n tokens h in
    record {
      cuts = all_more is_named_cut (head_cut (take n tokens)) (jumps (drop n tokens)) (all_take is_named_token n tokens h) (jumps_named (drop n tokens) rest);
      rest = past_jump_named (drop n tokens) rest;
    }
statement_named ifs tokens None h =
    record {
      cuts = all_more is_named_cut (statement_cut (take (statement_end 0 (is_in_if ifs) false tokens) tokens)) [] (all_take is_named_token (statement_end 0 (is_in_if ifs) false tokens) tokens h) refl;
      rest = all_drop is_named_token (statement_end 0 (is_in_if ifs) false tokens) tokens h;
    }

step_named : (ifs : List Bool) (tokens : List Token) → are_named tokens ≡ true → NamedStep (first_step ifs tokens)
step_named ifs [] h = record { cuts = refl; rest = refl }
step_named ifs (t ∷ ts) h =
    by_test (is_colon t.kind) (λ b. NamedStep (if b then record { cuts = []; ifs = ifs; rest = ts } else if is_in_if ifs && is_else t then else_step ifs t ts else statement_step ifs (t ∷ ts) (line_if_head (is_in_if ifs) (t ∷ ts))))
    (λ e. record { cuts = refl; rest = rest })
    (λ e. by_test (is_in_if ifs && is_else t) (λ b. NamedStep (if b then else_step ifs t ts else statement_step ifs (t ∷ ts) (line_if_head (is_in_if ifs) (t ∷ ts))))
    (λ f. record { cuts = all_append is_named_cut (else_cuts ifs t) (jumps ts) (else_named ifs t (all_first is_named_token t ts h)) (jumps_named ts rest); rest = past_jump_named ts rest })
    (λ f. statement_named ifs (t ∷ ts) (line_if_head (is_in_if ifs) (t ∷ ts)) h))
  where
    rest : are_named ts ≡ true
    rest = all_rest is_named_token t ts h

statements_named : (n : ℕ) (ifs : List Bool) (tokens : List Token) → are_named tokens ≡ true → are_named_cuts (statements n ifs tokens) ≡ true
statements_named zero ifs tokens h = ends_named ifs
statements_named (suc n) ifs [] h = ends_named ifs
statements_named (suc n) ifs (t ∷ ts) h =
    let step = step_named ifs (t ∷ ts) h in
    all_append is_named_cut (first_step ifs (t ∷ ts)).cuts (statements n (first_step ifs (t ∷ ts)).ifs (first_step ifs (t ∷ ts)).rest) step.cuts
    (statements_named n (first_step ifs (t ∷ ts)).ifs (first_step ifs (t ∷ ts)).rest step.rest)

labels_named : (tokens : List Token) → are_named tokens ≡ true → are_named_cuts (labels tokens) ≡ true
labels_named [] h = refl
labels_named (t ∷ ts) h =
    by_test (begins_label (t ∷ ts)) (λ b. are_named_cuts (if b then label_cut t ∷ [] else []) ≡ true)
    (λ e. all_more is_named_cut (label_cut t) [] (all_first is_named_token t ts h) refl)
    (λ e. refl)

past_label_named : (tokens : List Token) → are_named tokens ≡ true → are_named (past_label tokens) ≡ true
past_label_named [] h = refl
past_label_named (t ∷ ts) h =
    by_test (begins_label (t ∷ ts)) (λ b. are_named (if b then ts else t ∷ ts) ≡ true)
    (λ e. all_rest is_named_token t ts h)
    (λ e. h)

cuts_named : (tokens : List Token) → are_named tokens ≡ true → are_named_cuts (line_cuts tokens) ≡ true
cuts_named tokens h =
    all_append is_named_cut (labels tokens) (cut_statements (past_label tokens)) (labels_named tokens h)
    (statements_named (length (past_label tokens)) [] (past_label tokens) (past_label_named tokens h))

-- ---- parts

-- a part whose text can stand in a comment, and whose names are identifiers
abbrev pub is_good_part : Part → Bool
is_good_part p = list_all is_simple p.text && is_named_cut p.cut

parts_at_good : (place : Place) (text : List ℕ) (cuts : List Cut) → list_all is_simple text ≡ true → are_named_cuts cuts ≡ true → list_all is_good_part (parts_at place text cuts) ≡ true
parts_at_good place text [] h k = refl
parts_at_good place text (c ∷ cuts) h k =
    all_more is_good_part (record { place = place; text = text; cut = c }) (parts_at place text cuts)
    (and_true (list_all is_simple text) (is_named_cut c) h (all_first is_named_cut c cuts k))
    (parts_at_good place text cuts h (all_rest is_named_cut c cuts k))

parts_good : (l : Line) → is_good_line l ≡ true → list_all is_good_part (parts_of l) ≡ true
parts_good l h =
    let both = both_true (list_all is_named_token l.tokens) (list_all is_simple l.text && has_simple_comment l.comment) h in
    parts_at_good l.place l.text (line_cuts l.tokens) (both_true (list_all is_simple l.text) (has_simple_comment l.comment) both.1).0 (cuts_named l.tokens both.0)

pub all_parts_good : (lines : List Line) → list_all is_good_line lines ≡ true → list_all is_good_part (all_parts lines) ≡ true
all_parts_good lines h = all_flat is_good_line is_good_part parts_of parts_good lines h
