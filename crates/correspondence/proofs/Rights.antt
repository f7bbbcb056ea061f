-- The counts by which a variable's names are counted are right: for one of the procedure, and for one of a standard module.
use Rattle.std.proofs.Common.{◌≡◌, ℕ, Bool, true, false, ◌&&◌, List, [], ◌∷◌, Some, refl, sym, ap, ◌∙◌, nat_eq, codes, inl, inr, append-nil}
use Rattle.std.specs.List.{list_any}
use Rattle.std.specs.Prelude.{◌||◌, slice_get}
use Rattle.up_base.specs.Names.{is_same_name}
use Rattle.vb_tree.specs.declared.declared.Owner.TheVariants as owner
use Rattle.bound_tree.specs.declared.body.Mention.{Mention}
use Rattle.bound_tree.specs.Tree.{Declarations, Expr, typed, call, no_object, no_passed, Program, Variable}
use Rattle.written_trees.specs.Names.{Scope, module_name, procedure_name, procedure_path, variable_name_of}
use Rattle.run_matches.specs.UserTypes.{is_group_type}
use Rattle.run_matches.specs.CoveredVariables.{belongs_to, is_reached}
use Rattle.correspondence.specs.Uses.{stands_outside, IsAlone, IsFirst, IsSharedAlone, is_call_in, is_call_of, is_group_named, is_named_there, path_names, shared_names}
use Rattle.correspondence.proofs.NamedArrays.{IsRight}
use Rattle.correspondence.proofs.NamedCalls.{neither, path_other, shared_path_other}
use Rattle.correspondence.proofs.SharedVariables.{shared_named, shared_reserved, shared_use}
use Rattle.correspondence.proofs.OwnVariables.{own_named, own_reserved, own_use}
use Rattle.correspondence.proofs.Variables.{module_outer}

-- neither of two tests finds an item
pub any_either : {A : Type 0} (f g : A → Bool) (xs : List A) → list_any f xs ≡ false → list_any g xs ≡ false → list_any (λ (x : A). f x || g x) xs ≡ false
any_either f g [] h e = refl
any_either f g (x ∷ xs) h e =
    let a = neither (f x) (list_any f xs) h in
    let b = neither (g x) (list_any g xs) e in
    none (f x) (g x) (list_any (λ x. f x || g x) xs) a.0 b.0 (any_either f g xs a.1 b.1)
  where
    none : (a b c : Bool) → a ≡ false → b ≡ false → c ≡ false → ((a || b) || c) ≡ false
    none true b c h e k = absurd (cc h)
    none false true c h e k = absurd (cc e)
    none false false c h e k = k

-- a call of the name, or a variable of a user type or a class that has the name of the module
abbrev pub is_shared_test : Program → (file : ℕ) → Variable → Expr → Bool
is_shared_test P file x e =
    is_call_in P.declarations (module_name P.declarations file) x.name e || is_group_named P.declarations (module_name P.declarations file) e

module _ (P : Program) (S : Scope) (same : S.declarations ≡ P.declarations) (p v : ℕ) (x : Variable) where
  pub own_right : slice_get P.declarations.vars v ≡ Some x → belongs_to p x.owner ≡ true → IsAlone P.declarations p v x → IsFirst P.declarations x
      → (mentions : List Mention) → IsRight P S p mentions v (path_names (is_group_type x.ty) x.name) (is_call_of S.declarations x.name)
  own_right at own alone first mentions = record {
    no_support = λ n. own_reserved P S same p v x at own alone first (codes "UpgradeSupport") n [] refl;
    no_strings = λ n. own_reserved P S same p v x at own alone first (codes "Microsoft") (codes "VisualBasic") (codes "Strings" ∷ n ∷ []) refl;
    no_math = own_reserved P S same p v x at own alone first (codes "System") (codes "Math") (codes "Abs" ∷ []) refl;
    used = own_use P S same p v x at own alone first mentions;
    fields = λ k q ty y rest is group of_group free. own_named P S same p v x at own alone first k.0 y q rest is (inr group);
    uncalled = λ ty q qualified args e.
        ap (path_names (is_group_type x.ty) x.name) (sym (append-nil (procedure_path S qualified q.0)))
        ∙ path_other S.declarations S refl (is_group_type x.ty) x.name (λ file a b. module_outer P.declarations file x.name (first a) (named file b)) qualified q.0
        [] (inl refl) e;
    behind_call = λ ty q qualified y rest is group e.
        path_other S.declarations S refl (is_group_type x.ty) x.name (λ file a b. module_outer P.declarations file x.name (first a) (named file b)) qualified q.0
        rest (inr (y, is)) e;
  }
    where
      named : (file : ℕ) → is_same_name (module_name S.declarations file) x.name ≡ true → is_same_name (module_name P.declarations file) x.name ≡ true
      named file b = sym (ap (λ (d : Declarations). is_same_name (module_name d file) x.name) same) ∙ b

  pub shared_right : (file : ℕ) → slice_get P.declarations.vars v ≡ Some x → x.owner ≡ owner.Module file
      → stands_outside P.declarations (slice_get P.declarations.procs p) ≡ true
      → is_reached P.declarations p v x.name x.owner ≡ true → IsSharedAlone P.declarations v file x → IsFirst P.declarations x → (mentions : List Mention)
      → IsRight P S p mentions v (shared_names (is_group_type x.ty) (nat_eq S.file file) (module_name P.declarations file) x.name) (is_shared_test P file x)
  shared_right file at of outside reached alone first mentions = record {
    no_support = λ n. shared_reserved P S same p v x file at of outside reached alone first (codes "UpgradeSupport") n [] refl;
    no_strings = λ n. shared_reserved P S same p v x file at of outside reached alone first (codes "Microsoft") (codes "VisualBasic") (codes "Strings" ∷ n ∷ []) refl;
    no_math = shared_reserved P S same p v x file at of outside reached alone first (codes "System") (codes "Math") (codes "Abs" ∷ []) refl;
    used = shared_use P S same p v x file at of outside reached alone first mentions;
    fields = λ k q ty y rest is group of_group free.
        let named : Bool = is_same_name (variable_name_of (slice_get P.declarations.vars k.0)) (module_name P.declarations file) in
        let other : is_same_name y.name (module_name P.declarations file) ≡ false =
        ap (λ o. is_same_name (variable_name_of o) (module_name P.declarations file)) (sym is.0)
        ∙ sym (ap {B = Bool} (λ b. b && named) of_group) ∙ (neither false (is_group_type ty && named) free).1 in
        shared_named P S same p v x file at of outside reached alone first k.0 y q rest is (inr (group, other));
    uncalled = λ ty q qualified args e.
        ap (shared_names (is_group_type x.ty) (nat_eq S.file file) (module_name P.declarations file) x.name) (sym (append-nil (procedure_path S qualified q.0)))
        ∙ shared_path_other P.declarations S same (is_group_type x.ty) file x.name qualified q.0 [] (inl refl)
        (λ f a b. module_outer P.declarations f x.name (first a) b)
        (neither (is_named_there P.declarations (module_name P.declarations file) x.name (Some q.0))
        (is_group_named P.declarations (module_name P.declarations file) (typed ty (call q qualified no_object args))) e).0;
    behind_call = λ ty q qualified y rest is group e.
        let tests = neither (is_named_there P.declarations (module_name P.declarations file) x.name (Some q.0))
        (is_group_named P.declarations (module_name P.declarations file) (typed ty (call q qualified no_object no_passed))) e in
        let named : Bool = is_same_name (procedure_name P.declarations q.0) (module_name P.declarations file) in
        let other : is_same_name (procedure_name P.declarations q.0) (module_name P.declarations file) ≡ false =
        sym (ap {B = Bool} (λ b. b && named) group) ∙ tests.1 in
        shared_path_other P.declarations S same (is_group_type x.ty) file x.name qualified q.0 rest (inr (y, is, other))
        (λ f a b. module_outer P.declarations f x.name (first a) b) tests.0;
  }
