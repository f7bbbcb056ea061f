-- What the lines of a procedure declare, and what they use that no line declares, is what it owns.
use Rattle.std.proofs.Common.{◌≡◌, ℕ, suc, ◌+◌, Bool, true, false, List, [], ◌∷◌, ◌++◌, length, map, Option, Some, None, slice_get, refl, sym, ap, subst, ◌∙◌, arith}
use Rattle.std.specs.Prelude.{cond}
use Rattle.std.specs.List.{AllByRecursion as Each}
use Rattle.std.proofs.lemmas.List.{map-append}
use Rattle.std.proofs.lemmas.List.Concat.{flat_map-append}
use Rattle.vb_tree.specs.declared.declared.Owner.{Owner}
use Rattle.vb_tree.specs.Blocks.{is_code}
use Rattle.vb_tree.specs.FlatLines.{flat_lines}
use Rattle.vb_tree.specs.Tree.{Form, Line, Module, Project}
use Rattle.bound_tree.specs.declared.body.Bound.{Bound}
use Rattle.bound_tree.specs.declared.marks.Marks.{Marks}
use Rattle.bound_tree.specs.declared.rule_set.RuleSet.{RuleSet}
use Rattle.bound_tree.specs.Tree.{Constant, Declarations, Program, Variable}
use Rattle.bound_tree.specs.View.{program_of}
use Rattle.written_trees.specs.Projects.{first_numbers}
use Rattle.written_trees.specs.Prologues.{declares, variables_from, variables_of, constants_of}
use Rattle.declared_names.specs.Declaring.{NamedVariable, counts, lists_of, no_lists, project_declares, with_declared}
use Rattle.declarations.specs.Bare.{bare}
use Rattle.declarations.specs.Constants.{settled}
use Rattle.declarations.specs.Finals.{IsDeclared, final_variable, is_flagged, planned_at, plans_of, rules_at}
use Rattle.declarations.specs.Numbered.{numbered}
use Rattle.declarations.specs.Plans.{Plan}
use Rattle.declarations.specs.Typed.{typed_variable}
use Rattle.binder.specs.ImplicitLocals.{Implicit, all_variables, project_locals, variable_of}
use Rattle.binder.specs.Programs.{all_declarations}
use Rattle.broken_rules.specs.View.{IsBoundTo}
use Rattle.vb6_run.specs.Programs.{is_local_of, is_static_of, owned_from}
use Rattle.run_matches.specs.Sites.{Site, first_statement, own_constants, own_variables, owns_from, owns_of, site_lines, site_of, sites_from, statement_owns, variable_number, variable_numbers}
use Rattle.upgrade_laws.specs.Ordered.{AreOrderly}
use Rattle.upgrade_laws.proofs.Homes.{HomeOf, Key, home_of_site, homes_apart, homes_at, homes_filed, others_apart}
use Rattle.upgrade_laws.proofs.Listed.{modules_found}
use Rattle.upgrade_laws.proofs.Settling.{settled_keeps}
use Rattle.upgrade_laws.proofs.Slots.{Slot, by_lines, ends, is_at, numbers}
use Rattle.upgrade_laws.proofs.Stretches.{IsNotStatic, Stretch, own_numbers}
use Rattle.upgrade_laws.proofs.Used.{homes_found, slot_for}
use Rattle.upgrade_laws.proofs.Walked.{slot, slot_in, slots_along, slots_in}

-- ---- variables as slots

abbrev var_slot : Variable → Slot
var_slot x = slot x.owner x.place x.statement

abbrev var_slots : List Variable → List Slot
var_slots xs = map var_slot xs

statement_numbers : (file n k : ℕ) (vs : List Variable) → variable_numbers (own_variables (variables_from file n k vs)) ≡ numbers (is_at file n) k (var_slots vs)
statement_numbers file n k [] = refl
statement_numbers file n k (v ∷ vs) =
    by (is_at file n (var_slot v)) (statement_numbers file n (suc k) vs)
  where
    by : (b : Bool) → variable_numbers (own_variables (variables_from file n (suc k) vs)) ≡ numbers (is_at file n) (suc k) (var_slots vs)
        → variable_numbers (own_variables (cond b ((k, v) ∷ variables_from file n (suc k) vs) (variables_from file n (suc k) vs)))
        ≡ cond b (k ∷ numbers (is_at file n) (suc k) (var_slots vs)) (numbers (is_at file n) (suc k) (var_slots vs))
    by true h = ap (λ (l : List ℕ). k ∷ l) h
    by false h = h

no_numbers : (cs : List (ℕ × Constant)) → variable_numbers (own_constants cs) ≡ []
no_numbers [] = refl
no_numbers (c ∷ cs) = no_numbers cs

at_statement : (D : Declarations) (file n : ℕ) → variable_numbers (statement_owns D file n) ≡ numbers (is_at file n) 0 (var_slots D.vars)
at_statement D file n =
    flat_map-append variable_number (own_variables (variables_of D file n)) (own_constants (constants_of D file n))
    ∙ ap (λ (l : List ℕ). variable_numbers (own_variables (variables_of D file n)) ++ l) (no_numbers (constants_of D file n))
    ∙ ends (variable_numbers (own_variables (variables_of D file n)))
    ∙ statement_numbers file n 0 D.vars

by_statements : (D : Declarations) (file : ℕ) (test : Form → Bool) (n : ℕ) (ls : List Line)
    → variable_numbers (owns_from D file test n ls) ≡ by_lines file test 0 (var_slots D.vars) n ls
by_statements D file test n [] = refl
by_statements D file test n (l ∷ ls) =
    flat_map-append variable_number (cond (test l.form) (statement_owns D file n) []) (owns_from D file test (suc n) ls)
    ∙ ap (λ (x : List ℕ). x ++ variable_numbers (owns_from D file test (suc n) ls)) (head (test l.form))
    ∙ ap (λ (x : List ℕ). cond (test l.form) (numbers (is_at file n) 0 (var_slots D.vars)) [] ++ x) (by_statements D file test (suc n) ls)
  where
    head : (b : Bool) → variable_numbers (cond b (statement_owns D file n) []) ≡ cond b (numbers (is_at file n) 0 (var_slots D.vars)) []
    head true = at_statement D file n
    head false = refl

owned_numbers : (test : Owner → Bool) (k : ℕ) (vs : List Variable) → owned_from test k vs ≡ numbers (λ (s : Slot). test s.owner) k (var_slots vs)
owned_numbers test k [] = refl
owned_numbers test k (v ∷ vs) = ap (λ (l : List ℕ). cond (test v.owner) (k ∷ l) l) (owned_numbers test (suc k) vs)

none_owned : (test : Owner → Bool) (k : ℕ) (vs : List Variable) → owned_from test k vs ≡ [] → Each (λ (s : Slot). test s.owner ≡ false) (var_slots vs)
none_owned test k [] h = tt
none_owned test k (v ∷ vs) h = by (test v.owner) refl h (λ e. none_owned test (suc k) vs e)
  where
    by : (b : Bool) → test v.owner ≡ b → cond b (k ∷ owned_from test (suc k) vs) (owned_from test (suc k) vs) ≡ []
        → (owned_from test (suc k) vs ≡ [] → Each (λ (s : Slot). test s.owner ≡ false) (var_slots vs)) → (test v.owner ≡ false) × Each (λ (s : Slot). test s.owner ≡ false) (var_slots vs)
    by true e h go = absurd (omega (arith, ap length h))
    by false e h go = (e, go h)

-- ---- declared variables

typed_slots : (B : Declarations) (xs : List NamedVariable) → var_slots (map (typed_variable B) xs) ≡ map slot_in xs
typed_slots B [] = refl
typed_slots B (x ∷ xs) = ap (λ (l : List Slot). slot_in x ∷ l) (typed_slots B xs)

planned_slot : (x : Variable) (flagged : Bool) (o : Option Plan) → var_slot (planned_at x flagged o) ≡ var_slot x
planned_slot x flagged None = refl
planned_slot x flagged (Some p) = refl

final_slots : (plans : List Plan) (rules : List RuleSet) (n : ℕ) (xs : List Variable) → var_slots (numbered (final_variable plans rules) n xs) ≡ var_slots xs
final_slots plans rules n [] = refl
final_slots plans rules n (x ∷ xs) =
    ap (λ (s : Slot). s ∷ var_slots (numbered (final_variable plans rules) (n + 1) xs)) (planned_slot x (is_flagged (rules_at rules n)) (slice_get plans n))
    ∙ ap (λ (l : List Slot). var_slot x ∷ l) (final_slots plans rules (n + 1) xs)

declared_slots : (P : Project) (D : Declarations) (M : Marks) → IsDeclared P D M → var_slots D.vars ≡ slots_in (lists_of P)
declared_slots P D M is =
    let S : Declarations = settled is.member P (lists_of P) in
    ap (λ (E : Declarations). var_slots E.vars) is.declarations
    ∙ final_slots (plans_of S (lists_of P)) M.vars 0 S.vars
    ∙ settled_keeps (λ (E : Declarations). var_slots E.vars) (λ E cs. refl) is.member P
    ∙ typed_slots (bare P (lists_of P)) (lists_of P).vars

listed_slots : (P : Project) → slots_in (lists_of P) ≡ slots_in (project_declares P.modules (counts no_lists))
unfolding with_declared
listed_slots P = slots_along no_lists (project_declares P.modules (counts no_lists))

-- ---- those that no line declares

implicit_slots : (D : Declarations) (xs : List Implicit) → var_slots (map (variable_of D) xs) ≡ map slot_for xs
implicit_slots D [] = refl
implicit_slots D (x ∷ xs) = ap (λ (l : List Slot). slot_for x ∷ l) (implicit_slots D xs)

-- ---- the procedure

used_found : (D : Declarations) (p : ℕ) (s : Site) → AreOrderly D.project.modules → site_of D p ≡ Some s
    → Stretch p s.source_module.file is_code (first_statement s) (site_lines s) (map slot_for (all_variables (project_locals D)))
used_found D p s o got =
    let ms : List Module = D.project.modules in
    let h : HomeOf (homes_at ms) p s = home_of_site 0 first_numbers ms p s refl got in
    let found : Stretch p h.home.file is_code h.home.first (flat_lines h.home.body) (map slot_for (all_variables (project_locals D))) =
    homes_found D p 0 (length D.vars) p (homes_at ms) h.home h.is_home (omega arith) (homes_filed ms o.members)
    (others_apart (homes_at ms) p h.home h.is_home (homes_apart ms o.files)) in
    subst (λ (k : Key). Stretch p k.file is_code k.first (flat_lines k.body) (map slot_for (all_variables (project_locals D)))) h.same found

bound_variables : (P : Project) (D : Declarations) (M : Marks) → IsDeclared P D M → D.project ≡ P → AreOrderly P.modules → (p : ℕ) (s : Site)
    → site_of (all_declarations D) p ≡ Some s → owned_from (is_static_of p) 0 (all_declarations D).vars ≡ []
    → variable_numbers (owns_of (all_declarations D) s) ≡ owned_from (is_local_of p) 0 (all_declarations D).vars
bound_variables P D M is same o p s got none =
    let A : Declarations = all_declarations D in
    let file : ℕ = s.source_module.file in
    let n : ℕ = first_statement s in
    let ls : List Line = site_lines s in
    let xs : List Slot = slots_in (project_declares P.modules (counts no_lists)) in
    let ys : List Slot = map slot_for (all_variables (project_locals D)) in
    let parts : var_slots A.vars ≡ xs ++ ys =
    map-append var_slot D.vars (map (variable_of D) (all_variables (project_locals D)))
    ∙ ap (λ (l : List Slot). l ++ var_slots (map (variable_of D) (all_variables (project_locals D)))) (declared_slots P D M is ∙ listed_slots P)
    ∙ ap (λ (l : List Slot). xs ++ l) (implicit_slots D (all_variables (project_locals D))) in
    let first : Stretch p file declares n ls xs =
    modules_found p 0 first_numbers P.modules (counts no_lists) p s o.members o.files refl
    (subst (λ (Q : Project). slice_get (sites_from 0 first_numbers Q.modules) p ≡ Some s) same got) (omega arith) in
    let second : Stretch p file is_code n ls ys =
    used_found D p s (subst (λ (Q : Project). AreOrderly Q.modules) (sym same) o) got in
    flat_map-append variable_number (owns_from A file declares n ls) (owns_from A file is_code n ls)
    ∙ ap (λ (l : List ℕ). l ++ variable_numbers (owns_from A file is_code n ls)) (by_statements A file declares n ls)
    ∙ ap (λ (l : List ℕ). by_lines file declares 0 (var_slots A.vars) n ls ++ l) (by_statements A file is_code n ls)
    ∙ ap (λ (l : List Slot). by_lines file declares 0 l n ls ++ by_lines file is_code 0 l n ls) parts
    ∙ own_numbers p file n ls xs ys first second (subst (λ (l : List Slot). Each (IsNotStatic p) l) parts (none_owned (is_static_of p) 0 A.vars none))
    ∙ sym (ap (λ (l : List Slot). numbers (λ (x : Slot). is_local_of p x.owner) 0 l) parts)
    ∙ sym (owned_numbers (is_local_of p) 0 A.vars)

pub own_variables_are_declared : (P : Project) (b : Bound) → IsBoundTo P b → AreOrderly P.modules → (p : ℕ) (s : Site) → site_of (program_of b).declarations p ≡ Some s
    → owned_from (is_static_of p) 0 (program_of b).declarations.vars ≡ []
    → variable_numbers (owns_of (program_of b).declarations s) ≡ owned_from (is_local_of p) 0 (program_of b).declarations.vars
own_variables_are_declared P b is o p s =
    let D : Declarations = is.declarations in
    let same : D.project ≡ P = ap (λ (Q : Program). Q.declarations.project) (sym is.program) ∙ is.project in
    subst (λ (Q : Program). site_of Q.declarations p ≡ Some s → owned_from (is_static_of p) 0 Q.declarations.vars ≡ []
    → variable_numbers (owns_of Q.declarations s) ≡ owned_from (is_local_of p) 0 Q.declarations.vars) (sym is.program)
    (bound_variables P D b.declared.marks is.declared same o p s)
