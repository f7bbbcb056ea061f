-- No rule replaces a clean line that is covered.
use Rattle.std.proofs.Common.{◌≡◌, refl, ap, sym, subst, ◌∙◌, ℕ, zero, suc, ◌+◌, nat_eq, arith, Bool, true, false, cond, List, [], ◌∷◌, ◌++◌, map, Option, Some, slice_get}
use Rattle.std.specs.List.{list_all}
use Rattle.std.proofs.lemmas.Bool.Decides.{nat_tests}
use Rattle.vb_tree.specs.Blocks.{is_code}
use Rattle.vb_tree.specs.Tree as source
use Rattle.bound_tree.specs.declared.rule_set.RuleSet.{RuleSet}
use Rattle.bound_tree.specs.RuleSets.{none, both, is_broken}
use Rattle.bound_tree.specs.Tree.{Variable, Constant, Procedure, Declarations, Line}
use Rattle.bound_facts.specs.Clean.{IsClean}
use Rattle.run_base.specs.Machines.{nth_line}
use Rattle.written_trees.specs.Bodies.{inside_procedure}
use Rattle.written_trees.specs.Facts.{Facts, line_set, variable_set, constant_set, is_flagged_variable}
use Rattle.written_trees.specs.Names.{Scope}
use Rattle.written_trees.specs.Prologues.{variables_of, constants_of, union, statement_set, one_if, set_if, code_sets, declares}
use Rattle.run_matches.specs.CleanLines.{IsCleanLine, lines_at, or_none}
use Rattle.run_matches.specs.Covered.{IsCoveredLine, covers_procedure, covers_statement, is_mentioned}
use Rattle.run_matches.specs.JoinedProperties.{is_empty}
use Rattle.run_matches.specs.Sites.{Site, site_of, site_lines, first_statement, code_statement, statement_of, Own, own_variable, own_constant, owns_from, owns_of, statement_owns}
use Rattle.run_matches.specs.Upgrades.{Upgrade, is_unknown, type_of}
use Rattle.run_statements.specs.Kept.{IsUnreplaced}
use Rattle.run_statements.specs.Written.{IsWritten, WrittenProcedure, site_scope}
use Rattle.name_laws.proofs.Lists.{both_true, neither, some_same, Among, among_right, all_among}
use Rattle.name_laws.proofs.Sets.{unbroken_none, unbroken_both, unreplaced, unbroken_union, unbroken_line, unbroken_that}
use Rattle.name_laws.proofs.Arrows.{variable_unflagged, lines_unbroken}
use Rattle.name_laws.proofs.Owned.{variable_of_statement, variable_among, constant_among, line_owns}
use Rattle.name_laws.proofs.Owns.{covered_parts, own_unflagged, own_usable, usable_sound}
use Rattle.name_laws.proofs.Uses.{mentioned_unbroken}

-- ---- the statement of a code line

-- the code line of a number, counted from 0, among lines of which the first is the statement n, i code lines being before them
record CodePlace (S : Scope) (p n i : ℕ) (lines : List source.Line) (k : ℕ) (rules : RuleSet) : Type 0 where
  pub place : ℕ
  pub line : source.Line
  pub is_line : slice_get lines place ≡ Some line
  pub form : is_code line.form ≡ true
  pub statement : code_statement n lines (suc k) ≡ Some (n + place)
  pub rules_are : rules ≡ both (line_set S.facts p (i + k)) (statement_set S.declarations S.facts S.file (n + place))

zero_is : nat_eq 0 0 ≡ true
zero_is = grind (arith, nat_tests)

next_is_not : (k : ℕ) → nat_eq (suc k) 0 ≡ false
next_is_not k = grind (arith, nat_tests)

module _ (S : Scope) (p : ℕ) where
  abbrev rules_at : (i n : ℕ) → RuleSet
  rules_at i n = both (line_set S.facts p i) (statement_set S.declarations S.facts S.file n)

  here : (n i : ℕ) (l : source.Line) (ls : List source.Line) (rules : RuleSet) → is_code l.form ≡ true → Some (rules_at i n) ≡ Some rules
      → CodePlace S p n i (l ∷ ls) 0 rules
  here n i l ls rules h e = record {
    place = 0;
    line = l;
    is_line = refl;
    form = h;
    statement =
        ap (λ (b : Bool). cond b (cond (nat_eq 0 0) (Some n) (code_statement (suc n) ls 0)) (code_statement (suc n) ls 1)) h
        ∙ ap (λ (b : Bool). cond b (Some n) (code_statement (suc n) ls 0)) zero_is ∙ ap {B = Option ℕ} Some (let q : n ≡ n + 0 = omega arith in q);
    rules_are =
        sym (some_same (rules_at i n) rules e) ∙ ap (λ (m : ℕ). rules_at m n) (let q : i ≡ i + 0 = omega arith in q)
        ∙ ap (λ (m : ℕ). rules_at (i + 0) m) (let q : n ≡ n + 0 = omega arith in q);
  }

  behind_code : (n i k : ℕ) (l : source.Line) (ls : List source.Line) (rules : RuleSet) → is_code l.form ≡ true → CodePlace S p (suc n) (i + 1) ls k rules
      → CodePlace S p n i (l ∷ ls) (suc k) rules
  behind_code n i k l ls rules h C = record {
    place = suc C.place;
    line = C.line;
    is_line = C.is_line;
    form = C.form;
    statement =
        ap (λ (b : Bool). cond b (cond (nat_eq (suc k) 0) (Some n) (code_statement (suc n) ls (suc k))) (code_statement (suc n) ls (suc (suc k)))) h
        ∙ ap (λ (b : Bool). cond b (Some n) (code_statement (suc n) ls (suc k))) (next_is_not k) ∙ C.statement
        ∙ ap {B = Option ℕ} Some (let q : suc n + C.place ≡ n + suc C.place = omega arith in q);
    rules_are =
        C.rules_are ∙ ap (λ (m : ℕ). rules_at m (suc n + C.place)) (let q : i + 1 + k ≡ i + suc k = omega arith in q)
        ∙ ap (λ (m : ℕ). rules_at (i + suc k) m) (let q : suc n + C.place ≡ n + suc C.place = omega arith in q);
  }

  behind_other : (n i k : ℕ) (l : source.Line) (ls : List source.Line) (rules : RuleSet) → is_code l.form ≡ false → CodePlace S p (suc n) (i + 0) ls k rules
      → CodePlace S p n i (l ∷ ls) k rules
  behind_other n i k l ls rules h C = record {
    place = suc C.place;
    line = C.line;
    is_line = C.is_line;
    form = C.form;
    statement =
        ap (λ (b : Bool). cond b (cond (nat_eq k 0) (Some n) (code_statement (suc n) ls k)) (code_statement (suc n) ls (suc k))) h ∙ C.statement
        ∙ ap {B = Option ℕ} Some (let q : suc n + C.place ≡ n + suc C.place = omega arith in q);
    rules_are =
        C.rules_are ∙ ap (λ (m : ℕ). rules_at m (suc n + C.place)) (let q : i + 0 + k ≡ i + k = omega arith in q)
        ∙ ap (λ (m : ℕ). rules_at (i + k) m) (let q : suc n + C.place ≡ n + suc C.place = omega arith in q);
  }

  code_place : (n i : ℕ) (lines : List source.Line) (k : ℕ) (rules : RuleSet) → slice_get (code_sets S p n i lines) k ≡ Some rules → CodePlace S p n i lines k rules
  code_place n i [] k rules e = absurd (cc e)
  code_place n i (l ∷ ls) k rules e = by (is_code l.form) refl k e (λ j q. code_place (suc n) (i + one_if (is_code l.form)) ls j rules q)
    where
      by : (b : Bool) → is_code l.form ≡ b → (k : ℕ) → slice_get (set_if b (rules_at i n) ++ code_sets S p (suc n) (i + one_if b) ls) k ≡ Some rules
          → ((j : ℕ) → slice_get (code_sets S p (suc n) (i + one_if b) ls) j ≡ Some rules → CodePlace S p (suc n) (i + one_if b) ls j rules)
          → CodePlace S p n i (l ∷ ls) k rules
      by true h zero q more = here n i l ls rules h q
      by true h (suc j) q more = behind_code n i j l ls rules h (more j q)
      by false h j q more = behind_other n i j l ls rules h (more j q)

-- ---- the rules of a statement

statement_unbroken : (D : Declarations) (F : Facts) (file n : ℕ) → F.statement file n ≡ none
    → ((v : ℕ × Variable) → Among (variables_of D file n) v → is_broken (variable_set F v.0) ≡ false)
    → ((c : ℕ × Constant) → Among (constants_of D file n) c → is_broken (constant_set F c.0) ≡ false)
    → is_broken (statement_set D F file n) ≡ false
statement_unbroken D F file n e vars consts =
    let vs = union (map (λ (v : ℕ × Variable). variable_set F v.0) (variables_of D file n)) in
    let cs = union (map (λ (c : ℕ × Constant). constant_set F c.0) (constants_of D file n)) in
    unbroken_both (F.statement file n) (both vs cs) (ap is_broken e ∙ unbroken_none)
    (unbroken_both vs cs (unbroken_union (λ (v : ℕ × Variable). variable_set F v.0) (variables_of D file n) vars)
    (unbroken_union (λ (c : ℕ × Constant). constant_set F c.0) (constants_of D file n) consts))

-- a code line is unreplaced, where its marks and its statement are unbroken
kept_by : (S : Scope) (p n i k : ℕ) (lines : List source.Line) (rules : RuleSet) (C : CodePlace S p n i lines k rules) → is_broken (line_set S.facts p (i + k)) ≡ false
    → is_broken (statement_set S.declarations S.facts S.file (n + C.place)) ≡ false → is_broken rules ≡ false
kept_by S p n i k lines rules C h e =
    ap is_broken C.rules_are ∙ unbroken_both (line_set S.facts p (i + k)) (statement_set S.declarations S.facts S.file (n + C.place)) h e

at_first : (F : Facts) (p k : ℕ) → is_broken (line_set F p k) ≡ false → is_broken (line_set F p (0 + k)) ≡ false
at_first F p k h = subst (λ (m : ℕ). is_broken (line_set F p m) ≡ false) (let q : k ≡ 0 + k = omega arith in q) h

-- ---- in a clean procedure

pub clean_lines_are_unreplaced : (U : Upgrade) → IsWritten U → (p : ℕ) (s : Site) (x : Procedure) → site_of U.program.declarations p ≡ Some s
    → slice_get U.program.declarations.procs p ≡ Some x → (W : WrittenProcedure U p s x) → IsClean U.program U.facts.marks p
    → covers_procedure U.program p ≡ true → (k : ℕ) → IsUnreplaced U p s k
clean_lines_are_unreplaced U I p s x e f W clean h k rules r =
    let D = U.program.declarations in
    let S = inside_procedure (site_scope U s) p in
    let n = first_statement s in
    let file = s.source_module.file in
    let Z = covered_parts U.program p s e h in
    let C = code_place S p n 0 (site_lines s) k rules r in
    let own : (o : Own) → Among (statement_owns D file (n + C.place)) o → Among (owns_of D s) o =
    λ o m. among_right (owns_from D file declares n (site_lines s)) (owns_from D file is_code n (site_lines s)) o
    (line_owns D file is_code n C.place (site_lines s) C.line o C.is_line C.form m) in
    let vars : (v : ℕ × Variable) → Among (variables_of D file (n + C.place)) v → is_broken (variable_set U.facts v.0) ≡ false =
    λ v m. (neither (is_flagged_variable U.facts v.0) (is_unknown (type_of U v.0))
    (usable_sound U v.0 (own_usable U I p s Z clean v.0 v.1 (own (own_variable v.0 v.1) (variable_among D file (n + C.place) v m))))).0 in
    let consts : (c : ℕ × Constant) → Among (constants_of D file (n + C.place)) c → is_broken (constant_set U.facts c.0) ≡ false =
    λ c m. own_unflagged U p s Z clean c.0 c.1 (own (own_constant c.0 c.1) (constant_among D file (n + C.place) c m)) in
    unreplaced rules
    (kept_by S p n 0 k (site_lines s) rules C
    (at_first U.facts p k (unbroken_line (slice_get U.facts.marks.lines p) k (lines_unbroken U.program U.facts.marks p clean)))
    (statement_unbroken D U.facts file (n + C.place) (I.forms p s e C.place C.line C.is_line C.form) vars consts))

-- ---- lines that are clean by themselves

empty_none : {X : Type 0} (xs : List X) (x : X) → is_empty xs ≡ true → Among xs x → ⊥
empty_none [] x h m = m
empty_none (y ∷ ys) x h m = absurd (cc h)

lines_same : (o : Option (List Line)) (ls : List Line) → o ≡ Some ls → or_none o ≡ ls
lines_same o ls e = ap or_none e

pub clean_line_is_unreplaced : (U : Upgrade) → IsWritten U → (p : ℕ) (s : Site) (k : ℕ) → site_of U.program.declarations p ≡ Some s
    → IsCleanLine U.program U.facts.marks p (suc k) → IsCoveredLine U.program U.facts.marks p (suc k) → IsUnreplaced U p s k
clean_line_is_unreplaced U I p s k e clean L rules r =
    let D = U.program.declarations in
    let S = inside_procedure (site_scope U s) p in
    let n = first_statement s in
    let file = s.source_module.file in
    let C = code_place S p n 0 (site_lines s) k rules r in
    let same : L.site ≡ s = some_same L.site s (sym L.is_site ∙ e) in
    let declared : covers_statement D file (statement_of s (suc k)) L.line.bindings.mentions ≡ true =
    subst (λ (t : Site). covers_statement D t.source_module.file (statement_of t (suc k)) L.line.bindings.mentions ≡ true) same L.declares in
    let statement : covers_statement D file (Some (n + C.place)) L.line.bindings.mentions ≡ true =
    subst (λ (o : Option ℕ). covers_statement D file o L.line.bindings.mentions ≡ true) C.statement declared in
    let parts = both_true (list_all (is_mentioned L.line.bindings.mentions) (variables_of D file (n + C.place))) (is_empty (constants_of D file (n + C.place))) statement in
    let line : nth_line (lines_at U.program p) (suc k) ≡ Some L.line =
    ap (λ (ls : List Line). nth_line ls (suc k)) (lines_same (slice_get U.program.bodies p) L.lines L.are_lines) ∙ L.is_line in
    let vars : (v : ℕ × Variable) → Among (variables_of D file (n + C.place)) v → is_broken (variable_set U.facts v.0) ≡ false =
    λ v m. variable_unflagged D U.facts v.0 v.1 (variable_of_statement D file (n + C.place) v m)
    (mentioned_unbroken U.program U.facts.marks p (suc k) L.line (record { 0 = v.0 }) clean line
    (all_among (is_mentioned L.line.bindings.mentions) (variables_of D file (n + C.place)) v parts.0 m)) in
    let consts : (c : ℕ × Constant) → Among (constants_of D file (n + C.place)) c → is_broken (constant_set U.facts c.0) ≡ false =
    λ c m. absurd (empty_none (constants_of D file (n + C.place)) c parts.1 m) in
    unreplaced rules
    (kept_by S p n 0 k (site_lines s) rules C (at_first U.facts p k (unbroken_that (slice_get U.facts.marks.lines p) k clean.itself.unbroken))
    (statement_unbroken D U.facts file (n + C.place) (I.forms p s e C.place C.line C.is_line C.form) vars consts))
