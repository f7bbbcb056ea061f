-- Statements in the list of those that are broken.
use Rattle.std.proofs.Common.{◌≡◌, ℕ, suc, Bool, true, false, List, [], ◌∷◌, refl, ap, sym, ◌∙◌, inl, inr, ⊎_elim}
use Rattle.std.specs.Prelude.{◌⊎◌, ◌||◌, ◌&&◌, slice_get}
use Rattle.std.proofs.lemmas.List.Folds.{list_any-append}
use Rattle.up_base.specs.declared.place.Place.{Place}
use Rattle.bound_tree.specs.declared.marks.Marks.{Marks}
use Rattle.bound_tree.specs.declared.rule_set.RuleSet.{RuleSet}
use Rattle.bound_tree.specs.Tree.{Variable, Constant, Declarations}
use Rattle.bound_facts.specs.Clean.{constants_broken, is_statement, set_broken, statement_broken, variables_broken}
use Rattle.clean_procedures.specs.Broken.{Statement, constant_statements, is_among, is_same, of_constant, of_variable, pass_statements, statement_if, statements, variable_statements}
use Rattle.clean_procedures.proofs.Among.{Among}

or_false : (b : Bool) → (b || false) ≡ (b && true)
or_false true = refl
or_false false = refl

and_false : (b : Bool) → false ≡ (b && false)
and_false true = refl
and_false false = refl

one_is : (b : Bool) (s t : Statement) → is_among (statement_if b t) s ≡ (is_same s t && b)
one_is true s t = or_false (is_same s t)
one_is false s t = and_false (is_same s t)

variables_are : (sets : List RuleSet) (place : Place) (n k : ℕ) (vs : List Variable) → is_among (variable_statements sets k vs) (place.file, n) ≡ variables_broken sets place n k vs
variables_are sets place n k [] = refl
variables_are sets place n k (v ∷ vs) =
    let s : Statement = (place.file, n) in
    let first = statement_if (set_broken (slice_get sets k)) (of_variable v) in
    let rest = variable_statements sets (suc k) vs in
    list_any-append (is_same s) first rest ∙ ap (λ b. b || is_among rest s) (one_is (set_broken (slice_get sets k)) s (of_variable v))
    ∙ ap (λ b. (is_statement place n v.place v.statement && set_broken (slice_get sets k)) || b) (variables_are sets place n (suc k) vs)

constants_are : (sets : List RuleSet) (place : Place) (n k : ℕ) (cs : List Constant) → is_among (constant_statements sets k cs) (place.file, n) ≡ constants_broken sets place n k cs
constants_are sets place n k [] = refl
constants_are sets place n k (c ∷ cs) =
    let s : Statement = (place.file, n) in
    let first = statement_if (set_broken (slice_get sets k)) (of_constant c) in
    let rest = constant_statements sets (suc k) cs in
    list_any-append (is_same s) first rest ∙ ap (λ b. b || is_among rest s) (one_is (set_broken (slice_get sets k)) s (of_constant c))
    ∙ ap (λ b. (is_statement place n c.place c.statement && set_broken (slice_get sets k)) || b) (constants_are sets place n (suc k) cs)

pass_is : (D : Declarations) (m : Marks) (place : Place) (n : ℕ) → is_among (pass_statements D m) (place.file, n) ≡ statement_broken D m place n
pass_is D m place n =
    let s : Statement = (place.file, n) in
    list_any-append (is_same s) (variable_statements m.vars 0 D.vars) (constant_statements m.consts 0 D.consts)
    ∙ ap (λ b. b || is_among (constant_statements m.consts 0 D.consts) s) (variables_are m.vars place n 0 D.vars)
    ∙ ap (λ b. variables_broken m.vars place n 0 D.vars || b) (constants_are m.consts place n 0 D.consts)

-- ---- several passes

pub or_cases : (a b : Bool) → (a || b) ≡ true → (a ≡ true) ⊎ (b ≡ true)
or_cases true b h = inl refl
or_cases false b h = inr h

pub or_left : (a b : Bool) → a ≡ true → (a || b) ≡ true
or_left a b e = ap (λ c. c || b) e

pub or_right : (a b : Bool) → b ≡ true → (a || b) ≡ true
or_right true b e = refl
or_right false b e = e

some_pass : (D : Declarations) (ms : List Marks) (s : Statement) → is_among (statements D ms) s ≡ true → (m : Marks) × Among ms m × (is_among (pass_statements D m) s ≡ true)
some_pass D [] s h = absurd (cc h)
some_pass D (m ∷ ms) s h = ⊎_elim
    (λ l. (m, inl refl, l)) (λ r. let o = some_pass D ms s r in (o.0, inr o.1, o.2))
    (or_cases (is_among (pass_statements D m) s) (is_among (statements D ms) s) (sym (list_any-append (is_same s) (pass_statements D m) (statements D ms)) ∙ h))

pass_some : (D : Declarations) (ms : List Marks) (m : Marks) (s : Statement) → Among ms m → is_among (pass_statements D m) s ≡ true → is_among (statements D ms) s ≡ true
pass_some D [] m s a h = absurd a
pass_some D (o ∷ ms) m s (inl e) h =
    list_any-append (is_same s) (pass_statements D o) (statements D ms) ∙ or_left (is_among (pass_statements D o) s) (is_among (statements D ms) s) (ap (λ (x : Marks). is_among (pass_statements D x) s) e ∙ h)
pass_some D (o ∷ ms) m s (inr a) h =
    list_any-append (is_same s) (pass_statements D o) (statements D ms) ∙ or_right (is_among (pass_statements D o) s) (is_among (statements D ms) s) (pass_some D ms m s a h)

pub broken_by : (D : Declarations) (ms : List Marks) (place : Place) (n : ℕ) → is_among (statements D ms) (place.file, n) ≡ true → (m : Marks) × Among ms m × (statement_broken D m place n ≡ true)
broken_by D ms place n h = let o = some_pass D ms (place.file, n) h in (o.0, o.1, sym (pass_is D o.0 place n) ∙ o.2)

pub by_broken : (D : Declarations) (ms : List Marks) (m : Marks) (place : Place) (n : ℕ) → Among ms m → statement_broken D m place n ≡ true → is_among (statements D ms) (place.file, n) ≡ true
by_broken D ms m place n a h = pass_some D ms m (place.file, n) a (pass_is D m place n ∙ h)
