-- Cutting statements: each step takes a token at least, and the steps come to all statements.
use Rattle.std.proofs.Common.{◌≡◌, ◌==◌, ℕ, zero, suc, ◌+◌, ◌<◌, ◌≤◌, Bool, true, false, ◌&&◌, ◌||◌, not, cond, List, [], ◌∷◌, ◌++◌, length, drop, Option, Some, None, refl, sym, ap, ◌∙◌, arith, length-drop, append_assoc}
use Rattle.vb_tree.specs.declared.token.Token.{Token}
use Rattle.vb_tree.specs.LogicalLines.{is_colon, is_access}
use Rattle.vb_lines.specs.Cuts.{HasCut}
use Rattle.vb_lines.specs.Statements.{Cut, is_else, is_then, begins_if, are_colons, ends_statement, statement_end, behind_then, unless_colons, line_if_head, is_in_if, else_step, statement_step, first_step, past_jump, begins_jump, ends, statements, cut_statements}

pub end_from : (at : ℕ) (in_if behind : Bool) (ts : List Token) → at ≤ statement_end at in_if behind ts
end_from at in_if behind [] = omega arith
end_from at in_if behind (t ∷ ts) =
    elim (ends_statement in_if behind t) as (λ b. at ≤ cond b at (statement_end (at + 1) in_if (is_access t.kind) ts)) [
      | true ↦ omega arith
      | false ↦ omega (arith, end_from (at + 1) in_if (is_access t.kind) ts)
    ]

-- a place that was found lies behind the one that is counted from
abbrev IsBehind : ℕ → Option ℕ → Type 0
IsBehind at None = Unit {0}
IsBehind at (Some n) = at < n

is_behind_more : (at : ℕ) (o : Option ℕ) → IsBehind (at + 1) o → IsBehind at o
is_behind_more at None h = tt
is_behind_more at (Some n) h = omega arith

then_from : (at : ℕ) (in_if behind : Bool) (ts : List Token) → IsBehind at (behind_then at in_if behind ts)
then_from at in_if behind [] = tt
then_from at in_if behind (t ∷ ts) =
    let more = is_behind_more at _ (then_from (at + 1) in_if (is_access t.kind) ts) in
    elim (ends_statement in_if behind t) as (λ b. IsBehind at (cond b None (cond (not behind && is_then t) (Some (at + 1)) (behind_then (at + 1) in_if (is_access t.kind) ts)))) [
      | true ↦ tt
      | false ↦ elim (not behind && is_then t) as (λ b. IsBehind at (cond b (Some (at + 1)) (behind_then (at + 1) in_if (is_access t.kind) ts))) [
        | true ↦ (let h : at < at + 1 = omega arith in h)
        | false ↦ more
      ]
    ]

unless_behind : (tokens : List Token) (o : Option ℕ) → IsBehind 0 o → IsBehind 0 (unless_colons tokens o)
unless_behind tokens None h = tt
unless_behind tokens (Some n) h = elim (are_colons (drop n tokens)) as (λ b. IsBehind 0 (cond b None (Some n))) [ true ↦ tt | false ↦ h ]

head_behind : (in_if : Bool) (tokens : List Token) → IsBehind 0 (line_if_head in_if tokens)
head_behind in_if tokens =
    elim (begins_if tokens) as (λ b. IsBehind 0 (cond b (unless_colons tokens (behind_then 0 in_if false tokens)) None)) [
      | true ↦ unless_behind tokens _ (then_from 0 in_if false tokens)
      | false ↦ tt
    ]

past_jump_shorter : (ts : List Token) → length (past_jump ts) ≤ length ts
past_jump_shorter [] = omega arith
past_jump_shorter (t ∷ ts) = elim (begins_jump (t ∷ ts)) as (λ b. length (cond b ts (t ∷ ts)) ≤ length (t ∷ ts)) [ true ↦ omega arith | false ↦ omega arith ]

statement_shorter : (ifs : List Bool) (t : Token) (ts : List Token) (o : Option ℕ) → IsBehind 0 o → 0 < statement_end 0 (is_in_if ifs) false (t ∷ ts) → length (statement_step ifs (t ∷ ts) o).rest < length (t ∷ ts)
statement_shorter ifs t ts None h e = omega (arith, length-drop (statement_end 0 (is_in_if ifs) false (t ∷ ts)) (t ∷ ts))
statement_shorter ifs t ts (Some n) h e = omega (arith, h, past_jump_shorter (drop n (t ∷ ts)), length-drop n (t ∷ ts))

-- where no colon and no Else of an If begins a statement, it has a token
statement_has_token : (in_if colon else_word : Bool) (n : ℕ) → colon ≡ false → (in_if && else_word) ≡ false → 1 ≤ n → 0 < cond (colon || (in_if && not false && else_word)) 0 n
statement_has_token in_if true else_word n p q h = cc
statement_has_token true false true n p q h = cc
statement_has_token true false false n p q h = omega arith
statement_has_token false false else_word n p q h = omega arith

pub step_shorter : (ifs : List Bool) (t : Token) (ts : List Token) → length (first_step ifs (t ∷ ts)).rest < length (t ∷ ts)
step_shorter ifs t ts = by_colon (is_colon t.kind) refl
  where
    by_else : (e : Bool) → is_colon t.kind ≡ false → (is_in_if ifs && is_else t) ≡ e → length (cond e (else_step ifs t ts) (statement_step ifs (t ∷ ts) (line_if_head (is_in_if ifs) (t ∷ ts)))).rest < length (t ∷ ts)
    by_else true p q = omega (arith, past_jump_shorter ts)
    by_else false p q = statement_shorter ifs t ts _ (head_behind (is_in_if ifs) (t ∷ ts)) (statement_has_token (is_in_if ifs) (is_colon t.kind) (is_else t) _ p q (end_from 1 (is_in_if ifs) (is_access t.kind) ts))

    by_colon : (c : Bool) → is_colon t.kind ≡ c → length (cond c (record { cuts = []; ifs = ifs; rest = ts }) (cond (is_in_if ifs && is_else t) (else_step ifs t ts) (statement_step ifs (t ∷ ts) (line_if_head (is_in_if ifs) (t ∷ ts))))).rest < length (t ∷ ts)
    by_colon true p = omega arith
    by_colon false p = by_else (is_in_if ifs && is_else t) p refl

-- Cutting all statements

pub nothing_cut : (before : List Cut) (tokens : List Token) → HasCut before tokens before [] tokens
nothing_cut before tokens = record { fuel = length tokens; room = omega arith; joined = refl }

pub step_cut : (before : List Cut) (tokens : List Token) (cuts : List Cut) (ifs : List Bool) (rest : List Token) → 0 < length rest → HasCut before tokens cuts ifs rest → HasCut before tokens (cuts ++ (first_step ifs rest).cuts) (first_step ifs rest).ifs (first_step ifs rest).rest
step_cut before tokens cuts ifs [] h done = absurd (omega arith)
step_cut before tokens cuts ifs (t ∷ ts) h done = by done.fuel done.room done.joined
  where
    by : (fuel : ℕ) → length (t ∷ ts) ≤ fuel → cuts ++ statements fuel ifs (t ∷ ts) ≡ before ++ cut_statements tokens → HasCut before tokens (cuts ++ (first_step ifs (t ∷ ts)).cuts) (first_step ifs (t ∷ ts)).ifs (first_step ifs (t ∷ ts)).rest
    by zero room joined = absurd (omega arith)
    by (suc m) room joined = record {
      fuel = m;
      room = omega (arith, step_shorter ifs t ts);
      joined = append_assoc cuts (first_step ifs (t ∷ ts)).cuts (statements m (first_step ifs (t ∷ ts)).ifs (first_step ifs (t ∷ ts)).rest) ∙ joined;
    }

ends_here : (fuel : ℕ) (ifs : List Bool) → statements fuel ifs [] ≡ ends ifs
ends_here zero ifs = refl
ends_here (suc n) ifs = refl

pub all_cut : (before : List Cut) (tokens : List Token) (cuts : List Cut) (ifs : List Bool) (rest : List Token) → rest ≡ [] → HasCut before tokens cuts ifs rest → cuts ++ ends ifs ≡ before ++ cut_statements tokens
all_cut before tokens cuts ifs rest e done = ap (λ xs. cuts ++ xs) (sym (ends_here done.fuel ifs)) ∙ ap (λ xs. cuts ++ statements done.fuel ifs xs) (sym e) ∙ done.joined

pub is_nonempty : (rest : List Token) → (length rest == 0) ≡ false → 0 < length rest
is_nonempty [] e = cc
is_nonempty (t ∷ ts) e = omega arith

pub rest_shorter : (ifs : List Bool) (rest after : List Token) → 0 < length rest → after ≡ (first_step ifs rest).rest → length after < length rest
rest_shorter ifs [] after h e = absurd (omega arith)
rest_shorter ifs (t ∷ ts) after h e = omega (arith, step_shorter ifs t ts, ap length e)

pub step_cut_to : (before : List Cut) (tokens : List Token) (cuts : List Cut) (ifs : List Bool) (rest : List Token) (new : List Cut) (inner : List Bool) (after : List Token) → 0 < length rest → new ≡ cuts ++ (first_step ifs rest).cuts → inner ≡ (first_step ifs rest).ifs → after ≡ (first_step ifs rest).rest → HasCut before tokens cuts ifs rest → HasCut before tokens new inner after
step_cut_to before tokens cuts ifs rest new inner after h e f g done = rw (e, f, g) (step_cut before tokens cuts ifs rest h done)
