-- What is written for a member of an object leads to the same where it stands before arguments.
use Rattle.std.proofs.Common.{◌≡◌, ◌∙◌, refl, ap, subst, sym, ℕ, Bool, true, false, cond, ◌||◌, List, [], ◌∷◌, ◌++◌, Option, Some, None}
use Rattle.std.specs.Prelude.{slice_get}
use Rattle.vb_tree.specs.BoundTree.{Ty}
use Rattle.vb_tree.specs.declared.declared.Owner.{Owner}
use Rattle.vb_tree.specs.declared.declared.Owner.TheVariants as owner
use Rattle.vb_tree.specs.declared.declared.ProcId.{ProcId}
use Rattle.vb_tree.specs.declared.declared.VarId.{VarId}
use Rattle.bound_tree.specs.declared.expression.Root as expression
use Rattle.bound_tree.specs.Tree.{Variable, Declarations, Expr, typed, Term, variable, field, call, me, with_object, no_object, of_object, Passed}
use Rattle.bound_facts.specs.Node.{auto_class, declared_in, variable_number}
use Rattle.net_tree.specs.Tree.{Exp, Exps, call_of, path}
use Rattle.net_run.specs.Expressions.{reach, started}
use Rattle.net_run.specs.Making.{Jobs}
use Rattle.net_run.specs.Names.{Scope, Callee, named, path_start, starts}
use Rattle.net_run.specs.Store.{Memory}
use Rattle.written_trees.specs.Exprs.{called, callee_of, exp_of, field_name, is_bare, made_if, member_in, member_of, passed_of}
use Rattle.written_trees.specs.Names as written
use Rattle.written_trees.specs.Names.{member, owner_path, procedure_name, procedure_path, variable_path_of}
use Rattle.expression_laws.proofs.Variables.{known_exp}

-- no path without a name, so that a member behind it is no name by itself
abbrev IsLong : Exp → Type 0
IsLong (path []) = ⊥
IsLong e = Unit {0}

-- the name of a Function stands for its result where no arguments are behind it, but only by itself
long_start : (S : Scope) (first : List ℕ) (names : List (List ℕ)) (name : List ℕ)
    → path_start S true (first ∷ (names ++ name ∷ [])) ≡ path_start S false (first ∷ (names ++ name ∷ []))
long_start S first [] name = refl
long_start S first (next ∷ names) name = refl

-- ---- what is long

two_or_one : (b : Bool) (home name : List ℕ) → IsLong (path (cond b (home ∷ name ∷ []) (name ∷ [])))
two_or_one true home name = tt
two_or_one false home name = tt

owner_long : (T : written.Scope) (qualified : Bool) (name : List ℕ) (o : Owner) → IsLong (path (owner_path T qualified name o))
owner_long T qualified name (owner.Module home) =
    two_or_one (qualified || written.is_foreign T.declarations T.file home) (written.module_name T.declarations home) name
owner_long T qualified name (owner.Local p) = tt
owner_long T qualified name (owner.Static p) = tt
owner_long T qualified name (owner.Value p) = tt
owner_long T qualified name (owner.Reference p) = tt
owner_long T qualified name (owner.Answer p) = tt
owner_long T qualified name (owner.Field t) = tt

member_long : (e : Exp) (name : List ℕ) → IsLong (member e name)
member_long (path []) name = tt
member_long (path (first ∷ names)) name = tt
member_long _ name = tt

member_in_long : (t : Term) (e : Exp) (name : List ℕ) → IsLong (member_in t e name)
member_in_long (with_object root) e name = tt
member_in_long _ e name = member_long e name

made_long : (D : Declarations) (class : Option ℕ) (e : Exp) → IsLong e → IsLong (made_if D class e)
made_long D None e h = h
made_long D (Some c) e h = tt

called_long : (bare : Bool) (a : Exp) (args : Exps) → IsLong a → IsLong (called bare a args)
called_long true a args h = h
called_long false a args h = tt

-- a path that leads to what can be called
named_long : (S : Scope) (names : List (List ℕ)) (z : Callee) → path_start S true names ≡ starts (named z) [] → IsLong (path names)
named_long S [] z e = cc
named_long S (name ∷ names) z e = tt

module _ (S : Scope) (oracle : Jobs) where
  before : (e : Exp) → IsLong e → (name : List ℕ) (s : Memory) → reach S oracle true (member e name) s ≡ reach S oracle false (member e name) s
  before (path []) h name s = absurd h
  before (path (first ∷ names)) h name s = ap (λ z. started S oracle z s) (long_start S first names name)
  before _ h name s = refl

  module _ (T : written.Scope) where
    abbrev pub IsBefore : Expr → Type 0
    IsBefore e = (name : List ℕ) (s : Memory) → reach S oracle true (member_of e (exp_of T e) name) s ≡ reach S oracle false (member_of e (exp_of T e) name) s

    pub variable_before : (ty : Ty) (v : VarId) (qualified : Bool) (x : Variable) → slice_get T.declarations.vars v.0 ≡ Some x → x.auto ≡ false
        → IsBefore (typed ty (variable v qualified))
    variable_before ty v qualified x is plain =
        before (exp_of T (typed ty (variable v qualified)))
        (subst IsLong (sym (known_exp T ty v qualified x is plain ∙ ap (λ o. path (variable_path_of T qualified o)) is)) (owner_long T qualified x.name x.owner))

    -- an As New variable is written as a call
    pub auto_before : (ty : Ty) (v : VarId) (qualified : Bool) (a : Exp) (args : Exps) → exp_of T (typed ty (variable v qualified)) ≡ call_of a args
        → IsBefore (typed ty (variable v qualified))
    auto_before ty v qualified a args is = before (exp_of T (typed ty (variable v qualified))) (subst IsLong (sym is) tt)

    pub field_before : (ty : Ty) (e : Expr) (k : ℕ) → IsBefore (typed ty (field e k))
    field_before ty (typed of t) k =
        let e : Expr = typed of t in
        before (exp_of T (typed ty (field e k)))
        (made_long T.declarations (auto_class (variable_number T.declarations.vars (declared_in T.declarations (field e k))))
        (member_of e (exp_of T e) (field_name T e k)) (member_in_long t (exp_of T e) (field_name T e k)))

    -- a call
    pub named_before : (ty : Ty) (q : ProcId) (qualified : Bool) (args : Passed) (z : Callee)
        → path_start S true (procedure_path T qualified q.0) ≡ starts (named z) [] → IsBefore (typed ty (call q qualified no_object args))
    named_before ty q qualified args z found =
        before (exp_of T (typed ty (call q qualified no_object args)))
        (called_long (is_bare T q.0 qualified no_object args) (path (procedure_path T qualified q.0)) (passed_of T q.0 0 args)
        (named_long S (procedure_path T qualified q.0) z found))

    pub method_before : (ty : Ty) (q : ProcId) (qualified : Bool) (e : Expr) (args : Passed) → IsBefore (typed ty (call q qualified (of_object e) args))
    method_before ty q qualified (typed of t) args =
        let e : Expr = typed of t in
        before (exp_of T (typed ty (call q qualified (of_object e) args)))
        (called_long (is_bare T q.0 qualified (of_object e) args) (callee_of T q.0 qualified (of_object e)) (passed_of T q.0 0 args)
        (member_in_long t (exp_of T e) (procedure_name T.declarations q.0)))

    pub me_before : (ty : Ty) → IsBefore (typed ty me)
    me_before ty name s = refl

    pub with_before : (ty : Ty) (r : expression.Root) → IsBefore (typed ty (with_object r))
    with_before ty r name s = refl
