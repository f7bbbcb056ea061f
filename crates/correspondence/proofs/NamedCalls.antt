-- What is written for a call names what its arguments name, where the path of its procedure is no variable's.
use Rattle.std.proofs.Common.{◌≡◌, ℕ, ◌+◌, Bool, true, false, not, ◌&&◌, cond, List, [], ◌∷◌, ◌++◌, Option, Some, None, refl, sym, ap, subst, ◌∙◌, arith, nat_eq, eqb-true, ◌⊎◌, inl, inr}
use Rattle.std.specs.List.{list_any}
use Rattle.std.specs.Prelude.{slice_get, ◌||◌}
use Rattle.up_base.specs.Names.{is_same_name, lower_case}
use Rattle.up_base.proofs.Lists.{both_true, by_test}
use Rattle.vb_tree.specs.BoundTree as types
use Rattle.vb_tree.specs.BoundTree.{Ty}
use Rattle.bound_tree.specs.Tree.{Declarations, Expr, typed, Procedure, Term, Object, no_object, of_object, with_object, by_value, by_reference}
use Rattle.bound_facts.specs.Node.{type_at}
use Rattle.net_tree.specs.Tree.{Exp, Exps, no_exps}
use Rattle.net_tree.specs.Tree as net
use Rattle.written_trees.specs.Arguments.{argument_exp, copy_by, has_address, in_parentheses, kept, has_reference, needs_copy, temporary_exp}
use Rattle.written_trees.specs.Exprs.{called, callee_of, exp_of, member_in, term_exp}
use Rattle.written_trees.specs.Lines.{as_call}
use Rattle.written_trees.specs.Facts.{Facts, holds_array}
use Rattle.written_trees.specs.Names.{Path, Scope, copy_name, first_name, is_foreign, member, is_standard_module, module_at, module_name, procedure_name, procedure_path, procedure_path_of, support}
use Rattle.run_matches.specs.CoveredVariables.{covers_type}
use Rattle.run_matches.specs.CoveredExprs.{Uses, covers_expr, covers_term}
use Rattle.correspondence.specs.Uses.{exps_name, is_named_there, names, path_names, shared_names, stands_elsewhere}
use Rattle.correspondence.proofs.SharedVariables.{alone_none, behind_none, shared_other}
use Rattle.correspondence.proofs.Variables.{one_of, same_itself}

-- ---- tests

pub neither : (b c : Bool) → (b || c) ≡ false → (b ≡ false) × (c ≡ false)
neither true c h = absurd (cc h)
neither false c h = (refl, h)

pub none_of_both : {A : Type 0} (test : A → Bool) (xs ys : List A) → list_any test (xs ++ ys) ≡ false → (list_any test xs ≡ false) × (list_any test ys ≡ false)
none_of_both test [] ys h = (refl, h)
none_of_both test (x ∷ xs) ys h =
    let first = neither (test x) (list_any test (xs ++ ys)) h in
    let rest = none_of_both test xs ys first.1 in
    (ap (λ b. b || list_any test xs) first.0 ∙ rest.0, rest.1)

-- ---- paths of procedures

-- no module has the name that fields stand behind
abbrev pub NoModule : (fielded : Bool) → Declarations → (name : List ℕ) → Type 0
NoModule fielded D name = (file : ℕ) → fielded ≡ true → is_same_name (module_name D file) name ≡ true → ⊥

-- that of a procedure of another name
pub path_other : (D : Declarations) (S : Scope) → S.declarations ≡ D → (fielded : Bool) (name : List ℕ) → NoModule fielded D name → (q : Bool) (p : ℕ)
    (rest : List (List ℕ)) → (rest ≡ []) ⊎ ((y : Procedure) × (slice_get S.declarations.procs p ≡ Some y))
    → is_same_name (procedure_name D p) name ≡ false → path_names fielded name (procedure_path S q p ++ rest) ≡ 0
path_other D S same fielded name apart q p rest known h =
    by (slice_get S.declarations.procs p) known (ap (λ (d : Declarations). is_same_name (procedure_name d p) name) same ∙ h)
  where
    alone : (n : List ℕ) (rest : List (List ℕ)) → is_same_name n name ≡ false → path_names fielded name (n ∷ rest) ≡ 0
    alone n [] e = ap {B = ℕ} (λ c. cond c 1 0) e
    alone n (m ∷ more) e = one_of fielded (is_same_name n name) (λ a b. cc (sym e ∙ b))

    either : (b : Bool) (file : ℕ) (n : List ℕ) → is_same_name n name ≡ false
        → path_names fielded name (cond b (module_name S.declarations file ∷ n ∷ []) (n ∷ []) ++ rest) ≡ 0
    either true file n e =
        one_of fielded (is_same_name (module_name S.declarations file) name)
        (λ a b. apart file a (subst (λ (d : Declarations). is_same_name (module_name d file) name ≡ true) same b))
    either false file n e = alone n rest e

    by : (o : Option Procedure) → (rest ≡ []) ⊎ ((y : Procedure) × (o ≡ Some y)) → is_same_name (first_name S.declarations o) name ≡ false
        → path_names fielded name (procedure_path_of S q o ++ rest) ≡ 0
    by None (inl none) e = ap (path_names fielded name) none
    by None (inr (y, is)) e = absurd (cc is)
    by (Some y) k e = either (q || is_foreign S.declarations S.file y.module_number) y.module_number (first_name S.declarations (Some y)) e

apart : (a b c : Bool) → (a && not (b && not c)) ≡ false → a ≡ true → (b ≡ true) × (c ≡ false)
apart true true true h e = absurd (cc h)
apart true true false h e = (refl, refl)
apart true false c h e = absurd (cc h)
apart false b c h e = absurd (cc e)

-- and of one of another name or of another standard module, behind which nothing stands where it has the name of the module
module _ (S : Scope) (fielded : Bool) (file : ℕ) (name : List ℕ) (q : Bool) (rest : List (List ℕ)) (no_module : NoModule fielded S.declarations name) where
  abbrev D : Declarations
  D = S.declarations

  abbrev of : List ℕ
  of = module_name D file

  abbrev count : Path → ℕ
  count = shared_names fielded (nat_eq S.file file) of name

  abbrev Suits : List ℕ → Type 0
  Suits n = (rest ≡ []) ⊎ (is_same_name n of ≡ false)

  unnamed : (behind : Bool) (home : ℕ) (n : List ℕ) → Suits n → is_same_name n name ≡ false
      → count (cond behind (module_name D home ∷ n ∷ []) (n ∷ []) ++ rest) ≡ 0
  unnamed true home n suits e =
      behind_none fielded (nat_eq S.file file) of name (module_name D home) n rest (λ s t. cc (sym e ∙ t)) (no_module home)
  unnamed false home n suits e = alone_none fielded (nat_eq S.file file) of name n rest (λ s t. cc (sym e ∙ t)) suits

  elsewhere : (y : Procedure) → Suits (first_name D (Some y)) → is_standard_module (module_at D.project y.module_number) ≡ true
      → is_same_name (module_name D y.module_number) of ≡ false → count (procedure_path_of S q (Some y) ++ rest) ≡ 0
  elsewhere y suits standard differs =
      let n : List ℕ = first_name D (Some y) in
      let m : List ℕ = module_name D y.module_number in
      ap {B = ℕ} (λ b. count (cond (q || (not (nat_eq S.file y.module_number) && b)) (m ∷ n ∷ []) (n ∷ []) ++ rest)) standard
      ∙ shared_other fielded (nat_eq S.file file) of name q (nat_eq S.file y.module_number) m n rest (λ s t. cc (sym differs ∙ s))
      (λ s t u.
      let here : is_same_name (module_name D y.module_number) of ≡ true =
      subst (λ i. is_same_name (module_name D i) of ≡ true) (sym (eqb-true S.file file t) ∙ eqb-true S.file y.module_number s)
      (same_itself (lower_case of)) in
      cc (sym differs ∙ here))
      (no_module y.module_number) suits

  of_procedure : (y : Procedure) → Suits (first_name D (Some y))
      → (is_same_name (first_name D (Some y)) name && not (stands_elsewhere D of (Some y))) ≡ false → count (procedure_path_of S q (Some y) ++ rest) ≡ 0
  of_procedure y suits e =
      by_test (is_same_name (first_name D (Some y)) name) (λ c. count (procedure_path_of S q (Some y) ++ rest) ≡ 0)
      (λ s.
      let parts = apart (is_same_name (first_name D (Some y)) name) (is_standard_module (module_at D.project y.module_number))
      (is_same_name (module_name D y.module_number) of) e s in
      elsewhere y suits parts.0 parts.1)
      (λ s. unnamed (q || is_foreign D S.file y.module_number) y.module_number (first_name D (Some y)) suits s)

  of_other : (o : Option Procedure) → (rest ≡ []) ⊎ ((y : Procedure) × (o ≡ Some y) × (is_same_name (first_name D o) of ≡ false))
      → (is_same_name (first_name D o) name && not (stands_elsewhere D of o)) ≡ false → count (procedure_path_of S q o ++ rest) ≡ 0
  of_other None (inl none) e = ap count none
  of_other None (inr (y, is, s)) e = absurd (cc is)
  of_other (Some y) (inl none) e = of_procedure y (inl none) e
  of_other (Some y) (inr (z, is, s)) e = of_procedure y (inr s) e

pub shared_path_other : (D : Declarations) (S : Scope) → S.declarations ≡ D → (fielded : Bool) (file : ℕ) (name : List ℕ) (q : Bool) (p : ℕ)
    (rest : List (List ℕ))
    → (rest ≡ []) ⊎ ((y : Procedure) × (slice_get S.declarations.procs p ≡ Some y) × (is_same_name (procedure_name D p) (module_name D file) ≡ false))
    → NoModule fielded D name → is_named_there D (module_name D file) name (Some p) ≡ false
    → shared_names fielded (nat_eq S.file file) (module_name D file) name (procedure_path S q p ++ rest) ≡ 0
shared_path_other D S same fielded file name q p rest known no_module h =
    subst (λ (d : Declarations).
    (rest ≡ []) ⊎ ((y : Procedure) × (slice_get S.declarations.procs p ≡ Some y) × (is_same_name (procedure_name d p) (module_name d file) ≡ false))
    → NoModule fielded d name → is_named_there d (module_name d file) name (Some p) ≡ false
    → shared_names fielded (nat_eq S.file file) (module_name d file) name (procedure_path S q p ++ rest) ≡ 0) same
    (λ k m e. of_other S fielded file name q rest m (slice_get S.declarations.procs p) k e) known no_module h

-- ---- arguments

pub covered_type : (cover : Uses) (e : Expr) → covers_expr cover e ≡ true → covers_type (type_at e) ≡ true
covered_type cover (typed ty t) h = (both_true (covers_type ty) (covers_term cover t) h).0

pub no_copy : (F : Facts) (ty : Ty) (copied : Bool) → covers_type ty ≡ true → (holds_array F ty && copied) ≡ false
no_copy F (types.user t) copied h = absurd (cc h)
no_copy F _ copied h = refl

-- what copies a value names what that does
copy_names : (count : Path → ℕ) → ((name : List ℕ) → count (support name) ≡ 0) → (ty : Ty) (a : Exp) → names count (copy_by ty a) ≡ names count a
copy_names count no_support (types.user t) a = let none = no_support (copy_name t) in omega (arith, none)
copy_names count no_support _ a = refl

-- an argument by value names what it is
pub argument_names : (S : Scope) (count : Path → ℕ) → ((name : List ℕ) → count (support name) ≡ 0) → (by_address : Bool) (e : Expr)
    → names count (argument_exp S by_address (by_value e) (exp_of S e)) ≡ names count (exp_of S e)
argument_names S count no_support true e = by (needs_copy S.facts e) (has_address S.declarations (kept e))
  where
    by : (b c : Bool) → names count (cond b (copy_by (type_at e) (exp_of S e)) (in_parentheses c (exp_of S e))) ≡ names count (exp_of S e)
    by true c = copy_names count no_support (type_at e) (exp_of S e)
    by false true = refl
    by false false = refl
argument_names S count no_support false e = by (needs_copy S.facts e)
  where
    by : (b : Bool) → names count (cond b (copy_by (type_at e) (exp_of S e)) (exp_of S e)) ≡ names count (exp_of S e)
    by true = copy_names count no_support (type_at e) (exp_of S e)
    by false = refl

-- and one by reference
pub reference_names : (S : Scope) (count : Path → ℕ) → ((name : List ℕ) → count (support name) ≡ 0) → (by_address : Bool) (e : Expr)
    → names count (argument_exp S by_address (by_reference e) (exp_of S e)) ≡ names count (exp_of S e)
reference_names S count no_support by_address e = by (has_reference e)
  where
    by : (b : Bool) → names count (cond b (exp_of S e) (temporary_exp S e (exp_of S e))) ≡ names count (exp_of S e)
    by true = refl
    by false = argument_names S count no_support true e

-- ---- calls

pub bare_names : (count : Path → ℕ) (b : Bool) (c : Exp) → names count c ≡ 0 → names count (called b c no_exps) ≡ 0
bare_names count true c h = h
bare_names count false c h = omega (arith, h)

pub none_before : (n : ℕ) → 0 + n ≡ n
none_before n = omega arith

pub full_names : (count : Path → ℕ) (b c : Bool) (e : Exp) (es : Exps) → names count e ≡ 0 → names count (called (b && (false && c)) e es) ≡ exps_name count es
full_names count true c e es h = omega (arith, h)
full_names count false c e es h = omega (arith, h)

-- ---- callees as lines

member_called : (a : Exp) (name : List ℕ) → as_call (member a name) ≡ net.call (member a name) net.no_exps
member_called (net.path q) name = refl
member_called _ name = refl

object_called : (t : Term) (a : Exp) (name : List ℕ) → as_call (member_in t a name) ≡ net.call (member_in t a name) net.no_exps
object_called (with_object r) a name = refl
object_called _ a name = member_called a name

pub callee_called : (S : Scope) (q : ℕ) (qualified : Bool) (of : Object)
    → as_call (callee_of S q qualified of) ≡ net.call (callee_of S q qualified of) net.no_exps
callee_called S q qualified no_object = refl
callee_called S q qualified (of_object (typed ty t)) = object_called t (term_exp S ty t) (procedure_name S.declarations q)
