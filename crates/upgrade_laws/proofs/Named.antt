-- A variable of a bound project whose type is known has the type that its declaration names.
use Rattle.std.proofs.Common.{◌≡◌, ℕ, ◌+◌, Bool, true, false, List, [], ◌∷◌, ◌++◌, map, Option, Some, None, slice_get, refl, sym, ap, subst, ◌∙◌}
use Rattle.std.specs.Prelude.{cond}
use Rattle.std.specs.List.{AllByRecursion as Each}
use Rattle.vb_tree.specs.BoundTree.{Ty, unknown, user}
use Rattle.vb_tree.specs.Tree.{Project}
use Rattle.bound_tree.specs.declared.body.Bound.{Bound}
use Rattle.bound_tree.specs.declared.marks.Marks.{Marks}
use Rattle.bound_tree.specs.declared.rule_set.RuleSet.{RuleSet}
use Rattle.bound_tree.specs.Tree.{Declarations, Program, Variable}
use Rattle.bound_tree.specs.View.{program_of}
use Rattle.declared_names.specs.Declaring.{NamedVariable, lists_of}
use Rattle.declarations.specs.Bare.{bare}
use Rattle.declarations.specs.Constants.{settled}
use Rattle.declarations.specs.Finals.{IsDeclared, final_variable, is_flagged, planned_at, plans_of, rules_at}
use Rattle.declarations.specs.Numbered.{numbered}
use Rattle.declarations.specs.Plans.{Plan}
use Rattle.declarations.specs.Typed.{typed_variable, typed_variables}
use Rattle.binder.specs.ImplicitLocals.{Implicit, all_variables, choice_of, is_taken, project_locals, variable_of}
use Rattle.binder.specs.Programs.{all_declarations}
use Rattle.broken_rules.specs.View.{IsBoundTo}
use Rattle.upgrade_laws.proofs.Lists.{each_append, each_got}
use Rattle.upgrade_laws.proofs.Settling.{settled_keeps}

abbrev IsNamed : Variable → Type 0
IsNamed x = (t : ℕ) → x.ty ≡ user t → x.named ≡ user t

-- a type that is named, unless the declaration breaks a rule
unless : (flagged : Bool) (named : Ty) (t : ℕ) → cond flagged unknown named ≡ user t → named ≡ user t
unless true named t e = absurd (cc e)
unless false named t e = e

-- ---- lists

each_mapped : {A B : Type 0} (P : B → Type 0) (f : A → B) → ((x : A) → P (f x)) → (xs : List A) → Each P (map f xs)
each_mapped P f h [] = tt
each_mapped P f h (x ∷ xs) = (h x, each_mapped P f h xs)

each_numbered : {A B : Type 0} (P : A → Type 0) (Q : B → Type 0) (f : ℕ → A → B) → ((k : ℕ) (x : A) → P x → Q (f k x)) → (n : ℕ) (xs : List A) → Each P xs
    → Each Q (numbered f n xs)
each_numbered P Q f h n [] e = tt
each_numbered P Q f h n (x ∷ xs) e = (h n x e.0, each_numbered P Q f h (n + 1) xs e.1)

-- ---- variables that lines declare

planned_named : (x : Variable) (flagged : Bool) (o : Option Plan) → IsNamed x → IsNamed (planned_at x flagged o)
planned_named x flagged None h = h
planned_named x flagged (Some p) h = λ t e. unless flagged p.named t e

declared_named : (P : Project) (D : Declarations) (M : Marks) → IsDeclared P D M → Each IsNamed D.vars
declared_named P D M is =
    let S : Declarations = settled is.member P (lists_of P) in
    let typed : Each IsNamed (typed_variables P (lists_of P)) =
    each_mapped IsNamed (typed_variable (bare P (lists_of P))) (λ x t e. e) (lists_of P).vars in
    let kept : Each IsNamed S.vars =
    subst (λ (vs : List Variable). Each IsNamed vs) (sym (settled_keeps (λ (E : Declarations). E.vars) (λ E cs. refl) is.member P)) typed in
    subst (λ (vs : List Variable). Each IsNamed vs) (sym (ap (λ (E : Declarations). E.vars) is.declarations))
    (each_numbered IsNamed IsNamed (final_variable (plans_of S (lists_of P)) M.vars)
    (λ k x h. planned_named x (is_flagged (rules_at M.vars k)) (slice_get (plans_of S (lists_of P)) k) h) 0 S.vars kept)

-- ---- all variables

all_named : (P : Project) (D : Declarations) (M : Marks) → IsDeclared P D M → Each IsNamed (all_declarations D).vars
all_named P D M is =
    each_append IsNamed D.vars (map (variable_of D) (all_variables (project_locals D))) (declared_named P D M is)
    (each_mapped IsNamed (variable_of D) (λ (x : Implicit) t e. unless (is_taken D x.name) (choice_of D x).ty t e) (all_variables (project_locals D)))

pub types_are_named : (P : Project) (b : Bound) → IsBoundTo P b → (v : ℕ) (x : Variable) (t : ℕ) → slice_get (program_of b).declarations.vars v ≡ Some x
    → x.ty ≡ user t → x.named ≡ user t
types_are_named P b is v x t e =
    let all : Each IsNamed (program_of b).declarations.vars =
    subst (λ (Q : Program). Each IsNamed Q.declarations.vars) (sym is.program) (all_named P is.declarations b.declared.marks is.declared) in
    each_got IsNamed (program_of b).declarations.vars v x e all t
