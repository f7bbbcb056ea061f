-- The written path of a covered variable names a variable of the procedure where it is that one, and else none.
use Rattle.std.proofs.Common.{◌≡◌, ℕ, Bool, true, false, ◌&&◌, cond, List, [], ◌∷◌, Some, refl, sym, ap, subst, ◌∙◌, nat_eq, eq-eqb, eqb-true, append-nil, ◌++◌, inl, inr}
use Rattle.std.specs.Prelude.{slice_get, ◌||◌, codes}
use Rattle.up_base.specs.Names.{is_same_name, lower_case}
use Rattle.up_base.proofs.Lists.{both_true, by_test}
use Rattle.vb_tree.specs.BoundTree.{Ty}
use Rattle.vb_tree.specs.declared.declared.Owner.{Owner}
use Rattle.vb_tree.specs.declared.declared.Owner.TheVariants as owner
use Rattle.vb_tree.specs.declared.declared.VarId.{VarId}
use Rattle.vb_tree.specs.ProjectLines.{is_reserved}
use Rattle.bound_tree.specs.declared.body.Mention.{Mention}
use Rattle.bound_tree.specs.Tree as tree
use Rattle.bound_tree.specs.Tree.{Variable, Program, typed, variable}
use Rattle.written_trees.specs.Exprs.{exp_of}
use Rattle.written_trees.specs.Names.{Path, Scope, module_name, is_foreign, owner_path}
use Rattle.written_trees.specs.Prologues.{one_if}
use Rattle.run_matches.specs.CoveredVariables.{covers_owner, belongs_to, is_foreign_name, is_reached}
use Rattle.run_matches.specs.UserTypes.{is_group_type}
use Rattle.run_matches.specs.CoveredExprs.{IsUsed, uses_in}
use Rattle.run_matches.specs.Shared.{names_lead, is_alone_static, field_leads}
use Rattle.correspondence.specs.Uses.{path_names, names, IsAlone, IsFirst}
use Rattle.correspondence.proofs.Variables.{IsCoveredAt, Suits, foreign_name, module_outer, name_reserved, one_of, reserved_outer, same_itself, some_same, turned_false, use_counted, used_at}

module _ (P : Program) (S : Scope) (same : S.declarations ≡ P.declarations) (p v : ℕ) (x : Variable) (at : slice_get P.declarations.vars v ≡ Some x)
    (own : belongs_to p x.owner ≡ true) (alone : IsAlone P.declarations p v x) (first : IsFirst P.declarations x) where
  abbrev own_count : Path → ℕ
  own_count = path_names (is_group_type x.ty) x.name

  -- a name that differs, with fields or without
  differing_named : (n : List ℕ) (rest : List (List ℕ)) → is_same_name n x.name ≡ false → own_count (n ∷ rest) ≡ 0
  differing_named n [] h = ap {B = ℕ} (λ c. cond c 1 0) h
  differing_named n (f ∷ rest) h = one_of (is_group_type x.ty) (is_same_name n x.name) (λ a b. cc (sym h ∙ b))

  -- what stands behind the name of a module
  behind_module : (file : ℕ) (n : List ℕ) (rest : List (List ℕ)) → own_count (module_name S.declarations file ∷ n ∷ rest) ≡ 0
  behind_module file n rest =
      one_of (is_group_type x.ty) (is_same_name (module_name S.declarations file) x.name)
      (λ a b. module_outer P.declarations file x.name (first a) (subst (λ (d : tree.Declarations). is_same_name (module_name d file) x.name ≡ true) same b))

  path_named : (b : Bool) (file : ℕ) (name : List ℕ) (rest : List (List ℕ)) → is_same_name name x.name ≡ false
      → own_count (cond b (module_name S.declarations file ∷ name ∷ []) (name ∷ []) ++ rest) ≡ 0
  path_named true file name rest h = behind_module file name rest
  path_named false file name rest h = differing_named name rest h

  other_own : (k : ℕ) (y : Variable) (rest : List (List ℕ)) → slice_get P.declarations.vars k ≡ Some y → belongs_to p y.owner ≡ true → nat_eq v k ≡ false
      → own_count (y.name ∷ rest) ≡ 0
  other_own k y rest is h n =
      differing_named y.name rest
      (by_test (is_same_name y.name x.name) (λ c. c ≡ false)
      (λ s. absurd (cc (sym n ∙ eq-eqb v k (sym (alone k y is h s)))))
      (λ s. refl))

  other : (k : ℕ) (y : Variable) (q : Bool) (rest : List (List ℕ)) → slice_get P.declarations.vars k ≡ Some y → (o : Owner) → y.owner ≡ o
      → is_reached P.declarations p k y.name o ≡ true → covers_owner o ≡ true → nat_eq v k ≡ false → own_count (owner_path S q y.name o ++ rest) ≡ 0
  other k y q rest is (owner.Module file) e h c n =
      let leads = both_true (names_lead P.declarations p k y.name file || field_leads P.declarations p k y.name file) (is_foreign_name P.declarations p y.name) h in
      path_named (q || is_foreign S.declarations S.file file) file y.name rest
      (turned_false x.name y.name (foreign_name p y.name P.declarations.vars v x leads.1 at own))
  other k y q rest is (owner.Local r) e h c n = other_own k y rest is (ap (belongs_to p) e ∙ h) n
  other k y q rest is (owner.Static r) e h c n =
      other_own k y rest is (ap (belongs_to p) e ∙ (both_true (nat_eq p r.0) (is_alone_static P.declarations p k y.name) h).0) n
  other k y q rest is (owner.Value r) e h c n = other_own k y rest is (ap (belongs_to p) e ∙ h) n
  other k y q rest is (owner.Reference r) e h c n = other_own k y rest is (ap (belongs_to p) e ∙ h) n
  other k y q rest is (owner.Answer r) e h c n = other_own k y rest is (ap (belongs_to p) e ∙ h) n
  other k y q rest is (owner.Field t) e h c n = absurd (cc c)

  -- its own name, alone or with fields
  own_name : (rest : List (List ℕ)) → Suits x rest → own_count (x.name ∷ rest) ≡ 1
  own_name [] s = ap {B = ℕ} (λ c. cond c 1 0) (same_itself (lower_case x.name))
  own_name (f ∷ rest) (inl e) = absurd (cc e)
  own_name (f ∷ rest) (inr u) =
      ap {B = ℕ} (λ c. cond (c && is_same_name x.name x.name) 1 0) u ∙ ap {B = ℕ} (λ c. cond c 1 0) (same_itself (lower_case x.name))

  itself : (q : Bool) (rest : List (List ℕ)) → Suits x rest → (o : Owner) → belongs_to p o ≡ true → own_count (owner_path S q x.name o ++ rest) ≡ 1
  itself q rest s (owner.Module file) h = absurd (cc h)
  itself q rest s (owner.Local r) h = own_name rest s
  itself q rest s (owner.Static r) h = own_name rest s
  itself q rest s (owner.Value r) h = own_name rest s
  itself q rest s (owner.Reference r) h = own_name rest s
  itself q rest s (owner.Answer r) h = own_name rest s
  itself q rest s (owner.Field t) h = absurd (cc h)

  pub own_named : (k : ℕ) (y : Variable) (q : Bool) (rest : List (List ℕ)) → IsCoveredAt P p k y → Suits y rest
      → one_if (nat_eq v k) ≡ own_count (owner_path S q y.name y.owner ++ rest)
  own_named k y q rest is s =
      by_test (nat_eq v k) (λ c. one_if c ≡ own_count (owner_path S q y.name y.owner ++ rest))
      (λ e.
      let found : x ≡ y = some_same x y (sym at ∙ ap (slice_get P.declarations.vars) (eqb-true v k e) ∙ is.0) in
      sym (itself q rest (subst (λ (z : Variable). Suits z rest) (sym found) s) x.owner own)
      ∙ ap (λ (z : Variable). own_count (owner_path S q z.name z.owner ++ rest)) found)
      (λ e. sym (other k y q rest is.0 y.owner refl is.1 is.2 e))

  -- no name of the support module or of the run-time library
  pub own_reserved : (word n : List ℕ) (rest : List (List ℕ)) → is_reserved word ≡ true → own_count (word ∷ n ∷ rest) ≡ 0
  own_reserved word n rest h =
      one_of (is_group_type x.ty) (is_same_name word x.name) (λ a b. reserved_outer P.declarations x.name (first a) (name_reserved word x.name h b))

  module _ (mentions : List Mention) where
    pub own_use : (k : VarId) (q : Bool) (ty : Ty) → IsUsed (uses_in P p mentions) k
        → one_if (nat_eq v k.0) ≡ names (path_names (is_group_type x.ty) x.name) (exp_of S (typed ty (variable k q)))
    own_use k q ty h =
        let found = used_at P p mentions k h in
        own_named k.0 found.variable q [] found.covered (inl refl)
        ∙ ap own_count (append-nil (owner_path S q found.variable.name found.variable.owner))
        ∙ sym (use_counted P S same p k q found.variable found.covered ty found.made (path_names (is_group_type x.ty) x.name)
        (λ n. own_reserved (codes "UpgradeSupport") n [] refl))
