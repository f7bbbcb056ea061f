-- What the head of a procedure breaks as it is declared is none of the rules on properties.
use Rattle.std.proofs.Common.{ℕ, zero, suc, ◌+◌, List, [], ◌∷◌, map, Option, Some, None, refl, ap, ◌∙◌}
use Rattle.std.specs.Prelude.{◌||◌, slice_get}
use Rattle.vb_tree.specs.declared.declared.Owner.{Owner}
use Rattle.vb_tree.specs.declared.declared.Owner.TheVariants as owner
use Rattle.vb_tree.specs.declared.declared.VarId.{VarId}
use Rattle.vb_tree.specs.declared.token.Suffix.{Suffix}
use Rattle.vb_tree.specs.declared.token.Suffix.TheVariants as suffix
use Rattle.vb_tree.specs.Tree.{Module, Project}
use Rattle.bound_tree.specs.declared.declared.Named.{Named}
use Rattle.bound_tree.specs.declared.declared.Named.TheVariants as named
use Rattle.bound_tree.specs.declared.declared.Scope.TheVariants as scope
use Rattle.bound_tree.specs.declared.marks.Marks.{Marks}
use Rattle.bound_tree.specs.declared.rule_set.RuleSet.{RuleSet}
use Rattle.bound_tree.specs.RuleSets.{has, none, with_if, both}
use Rattle.bound_tree.specs.Tree.{Declarations}
use Rattle.declared_names.specs.Declaring.{Lists, lists_of, NamedProcedure, NamedVariable}
use Rattle.declared_names.specs.Rules as names
use Rattle.declared_names.specs.Rules.{field_rules, is_given_initializer, is_reserved, is_second_field, is_taken, local_rules, member_rules, name_marks, name_rules, procedure_rules, sets, with_answer, with_params, is_inherited}
use Rattle.declarations.specs.Constants.{settled, suffix_rules}
use Rattle.declarations.specs.Finals.{IsDeclared, answer_rules, head_rules, params_rules, plan_rules, plans_of, rules_at, rules_of_variable}
use Rattle.declarations.specs.Numbered.{numbered}
use Rattle.declarations.specs.Plans.{plan_of}
use Rattle.written_trees.specs.Facts.{set_at}
use Rattle.upgrade_laws.proofs.SparedPlans.{if_spares, plan_spares}
use Rattle.upgrade_laws.proofs.SparedRules.{SparesShape, both_spare, none_spares, rule_spares}

-- ---- sets by their numbers

rules_spare : {A : Type 0} (f : ℕ → A → RuleSet) → ((n : ℕ) (x : A) → SparesShape (f n x)) → (n : ℕ) (xs : List A) (k : ℕ)
    → SparesShape (rules_at (sets f n xs) k)
rules_spare f h n [] k = none_spares
rules_spare f h n (x ∷ xs) zero = h n x
rules_spare f h n (x ∷ xs) (suc k) = rules_spare f h (n + 1) xs k

numbered_spare : {A : Type 0} (f : ℕ → A → RuleSet) → ((n : ℕ) (x : A) → SparesShape (f n x)) → (n : ℕ) (xs : List A) (k : ℕ)
    → SparesShape (set_at (numbered f n xs) k)
numbered_spare f h n [] k = none_spares
numbered_spare f h n (x ∷ xs) zero = h n x
numbered_spare f h n (x ∷ xs) (suc k) = numbered_spare f h (n + 1) xs k

-- ---- names

module _ (ms : List Module) (d : Lists) where
  member_spares : (file : ℕ) (name : List ℕ) (what : Named) → SparesShape (member_rules ms d file name what)
  member_spares file name what =
      let taken = is_taken ms d (scope.Private file) name what in
      if_spares (with_if none 20 taken) 16 (is_inherited name) refl (if_spares none 20 taken refl none_spares)

  local_spares : (p : ℕ) (name : List ℕ) (what : Named) → SparesShape (local_rules ms d p name what)
  local_spares p name what = if_spares none 20 (is_taken ms d (scope.Local (record { 0 = p })) name what) refl none_spares

  field_spares : (t : ℕ) (name : List ℕ) (k : ℕ) → SparesShape (field_rules d t name k)
  field_spares t name k =
      let taken = is_second_field t name k 0 d.vars || is_reserved name in
      if_spares (with_if none 20 taken) 16 (is_inherited name) refl (if_spares none 20 taken refl none_spares)

  name_spares : (k : ℕ) (name : List ℕ) (o : Owner) → SparesShape (name_rules ms d k name o)
  name_spares k name (owner.Module file) = member_spares file name (named.Var (record { 0 = k }))
  name_spares k name (owner.Field t) = field_spares t.0 name k
  name_spares k name (owner.Local p) = local_spares p.0 name (named.Var (record { 0 = k }))
  name_spares k name (owner.Static p) = local_spares p.0 name (named.Var (record { 0 = k }))
  name_spares k name (owner.Value p) = local_spares p.0 name (named.Var (record { 0 = k }))
  name_spares k name (owner.Reference p) = local_spares p.0 name (named.Var (record { 0 = k }))
  name_spares k name (owner.Answer p) = local_spares p.0 name (named.Var (record { 0 = k }))

  own_spares : (k : ℕ) (o : Option NamedVariable) → SparesShape (names.rules_at ms d k o)
  own_spares k None = none_spares
  own_spares k (Some v) = if_spares (name_rules ms d k v.name v.owner) 18 v.param_array refl (name_spares k v.name v.owner)

  with_params_spare : (rules : RuleSet) (vs : List VarId) → SparesShape rules → SparesShape (with_params ms d rules vs)
  with_params_spare rules [] h = h
  with_params_spare rules (v ∷ vs) h =
      let own = names.rules_at ms d v.0 (slice_get d.vars v.0) in
      with_params_spare (both rules own) vs (both_spare rules own h (own_spares v.0 (slice_get d.vars v.0)))

  with_answer_spares : (rules : RuleSet) (o : Option VarId) → SparesShape rules → SparesShape (with_answer ms d rules o)
  with_answer_spares rules None h = h
  with_answer_spares rules (Some v) h =
      both_spare rules (names.rules_at ms d v.0 (slice_get d.vars v.0)) h (own_spares v.0 (slice_get d.vars v.0))

  named_head_spares : (k : ℕ) (p : NamedProcedure) → SparesShape (names.head_rules ms d k p)
  named_head_spares k p =
      let rules = procedure_rules ms d k p in
      let member = member_rules ms d p.module_number p.name (named.Proc (record { 0 = k })) in
      with_answer_spares (with_params ms d rules p.params) p.answer
      (with_params_spare rules p.params
      (if_spares (with_if member 4 p.static) 18 (is_given_initializer ms p) refl
      (if_spares member 4 p.static refl (member_spares p.module_number p.name (named.Proc (record { 0 = k }))))))

-- ---- types, bounds and defaults

plans_spare : (D : Declarations) (xs : List NamedVariable) (i : ℕ) → SparesShape (plan_rules (slice_get (map (plan_of D) xs) i))
plans_spare D [] i = none_spares
plans_spare D (x ∷ xs) zero = plan_spares D x
plans_spare D (x ∷ xs) (suc i) = plans_spare D xs i

params_spare : (D : Declarations) (L : Lists) (rules : RuleSet) (ws : List VarId) → SparesShape rules → SparesShape (params_rules (plans_of D L) rules ws)
params_spare D L rules [] h = h
params_spare D L rules (w ∷ ws) h =
    let own = rules_of_variable (plans_of D L) w in
    params_spare D L (both rules own) ws (both_spare rules own h (plans_spare D L.vars w.0))

suffix_spares : (s : Suffix) → SparesShape (suffix_rules s)
suffix_spares suffix.Single = rule_spares 1 refl
suffix_spares suffix.Double = rule_spares 1 refl
suffix_spares _ = none_spares

answer_spares : (D : Declarations) (L : Lists) (s : Suffix) (o : Option VarId) → SparesShape (answer_rules (plans_of D L) s o)
answer_spares D L s None = suffix_spares s
answer_spares D L s (Some w) = plans_spare D L.vars w.0

head_spares : (ms : List Module) (D : Declarations) (L : Lists) (n : ℕ) (p : NamedProcedure)
    → SparesShape (head_rules (sets (names.head_rules ms L) 0 L.procs) (plans_of D L) n p)
head_spares ms D L n p =
    let by_name = rules_at (sets (names.head_rules ms L) 0 L.procs) n in
    both_spare (params_rules (plans_of D L) by_name p.params) (answer_rules (plans_of D L) p.suffix p.answer)
    (params_spare D L by_name p.params (rules_spare (names.head_rules ms L) (named_head_spares ms L) 0 L.procs n)) (answer_spares D L p.suffix p.answer)

-- the heads of what a project declares
pub declared_heads_spare : (P : Project) (D : Declarations) (M : Marks) → IsDeclared P D M → (k : ℕ) → SparesShape (set_at M.heads k)
declared_heads_spare P D M is k =
    let L = lists_of P in
    let S = settled is.member P L in
    ap (λ (m : Marks). has (set_at m.heads k) 7) is.marks
    ∙ numbered_spare (head_rules (sets (names.head_rules P.modules L) 0 L.procs) (plans_of S L)) (head_spares P.modules S L) 0 L.procs k
