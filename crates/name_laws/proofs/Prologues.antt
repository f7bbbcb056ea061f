-- The declarations at the head of a procedure are those of what its lines declare.
use Rattle.std.proofs.Common.{◌≡◌, refl, ap, sym, ◌∙◌, append-nil, ℕ, suc, ◌+◌, Bool, true, false, cond, ◌&&◌, List, [], ◌∷◌, ◌++◌, map, zip, Option, Some, None, slice_get}
use Rattle.std.specs.Prelude.{is_some}
use Rattle.vb_tree.specs.Blocks.{is_code}
use Rattle.vb_tree.specs.Tree.{Form}
use Rattle.vb_tree.specs.Tree as source
use Rattle.bound_tree.specs.declared.rule_set.RuleSet.{RuleSet}
use Rattle.bound_tree.specs.Tree.{Variable, Constant, Line, Program}
use Rattle.net_tree.specs.Tree as net
use Rattle.written_trees.specs.Bodies.{lines_in}
use Rattle.written_trees.specs.Lines.{is_for, is_flagged_for, replaced_by}
use Rattle.written_trees.specs.Names.{Scope}
use Rattle.written_trees.specs.Prologues.{variables_of, constants_of, variable_dim, constant_dim, statement_dims, dims_from, declares, counter_dim, count_replaced, counters_from, prologue}
use Rattle.run_matches.specs.Sites.{own_variables, own_constants, statement_owns, owns_from}
use Rattle.run_statements.specs.Kept.{own_dim}
use Rattle.name_laws.proofs.Lists.{map_append}

-- ---- declared ones

variable_dims : (S : Scope) (vs : List (ℕ × Variable)) → map (own_dim S) (own_variables vs) ≡ map (variable_dim S) vs
variable_dims S [] = refl
variable_dims S (v ∷ vs) = ap {B = List net.Dim} (λ ds. variable_dim S v ∷ ds) (variable_dims S vs)

constant_dims : (S : Scope) (cs : List (ℕ × Constant)) → map (own_dim S) (own_constants cs) ≡ map (constant_dim S) cs
constant_dims S [] = refl
constant_dims S (c ∷ cs) = ap {B = List net.Dim} (λ ds. constant_dim S c ∷ ds) (constant_dims S cs)

statement_same : (S : Scope) (n : ℕ) → map (own_dim S) (statement_owns S.declarations S.file n) ≡ statement_dims S n
statement_same S n =
    let vs = variables_of S.declarations S.file n in
    let cs = constants_of S.declarations S.file n in
    map_append (own_dim S) (own_variables vs) (own_constants cs)
    ∙ ap {B = List net.Dim} (λ ds. ds ++ map (own_dim S) (own_constants cs)) (variable_dims S vs)
    ∙ ap {B = List net.Dim} (λ ds. map (variable_dim S) vs ++ ds) (constant_dims S cs)

pub dims_same : (S : Scope) (test : Form → Bool) (n : ℕ) (lines : List source.Line)
    → map (own_dim S) (owns_from S.declarations S.file test n lines) ≡ dims_from S test n lines
dims_same S test n [] = refl
dims_same S test n (l ∷ ls) =
    map_append (own_dim S) (cond (test l.form) (statement_owns S.declarations S.file n) []) (owns_from S.declarations S.file test (suc n) ls)
    ∙ ap {B = List net.Dim} (λ ds. ds ++ map (own_dim S) (owns_from S.declarations S.file test (suc n) ls)) (by (test l.form))
    ∙ ap {B = List net.Dim} (λ ds. cond (test l.form) (statement_dims S n) [] ++ ds) (dims_same S test (suc n) ls)
  where
    by : (b : Bool) → map (own_dim S) (cond b (statement_owns S.declarations S.file n) []) ≡ cond b (statement_dims S n) []
    by true = statement_same S n
    by false = refl

-- ---- no counters of replaced heads

no_flag : (o : Option ℕ) (f : Form) → o ≡ None → is_for f && is_some o ≡ false
no_flag o f e = by (is_for f) (ap is_some e)
  where
    by : (b : Bool) → is_some o ≡ false → b && is_some o ≡ false
    by true h = h
    by false h = refl

-- no head of a For is replaced
no_counters : (k : ℕ) (sets : List RuleSet) (lines : List Line) → ((i : ℕ) (rules : RuleSet) → slice_get sets i ≡ Some rules → replaced_by rules ≡ None)
    → counters_from k (zip sets lines) ≡ []
no_counters k [] lines h = refl
no_counters k (r ∷ sets) [] h = refl
no_counters k (r ∷ sets) (l ∷ lines) h =
    let more = counters_from (k + count_replaced (r, l)) (zip sets lines) in
    let plain : is_flagged_for r l.source.form ≡ false = no_flag (replaced_by r) l.source.form (h 0 r refl) in
    ap {B = List net.Dim} (λ t. cond t (counter_dim (suc k) ∷ []) [] ++ more) plain
    ∙ no_counters (k + count_replaced (r, l)) sets lines (λ i rules e. h (suc i) rules e)

-- ---- the whole

pub prologue_is : (P : Program) (S : Scope) (p n : ℕ) (lines : List source.Line) (sets : List RuleSet)
    → ((i : ℕ) (rules : RuleSet) → slice_get sets i ≡ Some rules → replaced_by rules ≡ None)
    → prologue S n lines (zip sets (lines_in (slice_get P.bodies p)))
    ≡ map (own_dim S) (owns_from S.declarations S.file declares n lines ++ owns_from S.declarations S.file is_code n lines)
prologue_is P S p n lines sets h =
    let declared = owns_from S.declarations S.file declares n lines in
    let used = owns_from S.declarations S.file is_code n lines in
    let dims = dims_from S declares n lines ++ dims_from S is_code n lines in
    let owns : map (own_dim S) (declared ++ used) ≡ dims =
    map_append (own_dim S) declared used ∙ ap {B = List net.Dim} (λ ds. ds ++ map (own_dim S) used) (dims_same S declares n lines)
    ∙ ap {B = List net.Dim} (λ ds. dims_from S declares n lines ++ ds) (dims_same S is_code n lines) in
    ap {B = List net.Dim} (λ ds. dims ++ ds) (no_counters 0 sets (lines_in (slice_get P.bodies p)) h)
    ∙ append-nil dims ∙ sym owns
