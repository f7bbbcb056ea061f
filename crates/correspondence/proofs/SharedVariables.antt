-- The written path of a covered variable names a variable of a standard module where it is that one, and else none.
use Rattle.std.proofs.Common.{◌≡◌, ℕ, Bool, true, false, not, ◌&&◌, cond, List, [], ◌∷◌, ◌++◌, Some, refl, sym, ap, subst, ◌∙◌, nat_eq, append-nil, eq-eqb, eqb-true, inl, inr, Option, None}
use Rattle.std.specs.Prelude.{codes, slice_get, ◌||◌, ◌⊎◌, position, option_and_then}
use Rattle.up_base.specs.Names.{is_same_name, lower_case}
use Rattle.up_base.proofs.Lists.{both_true, by_test}
use Rattle.vb_tree.specs.BoundTree.{Ty}
use Rattle.vb_tree.specs.declared.declared.Owner.{Owner}
use Rattle.vb_tree.specs.declared.declared.Owner.TheVariants as owner
use Rattle.vb_tree.specs.declared.declared.VarId.{VarId}
use Rattle.vb_tree.specs.ProjectLines.{is_reserved}
use Rattle.vb_tree.specs.Tree.{Module}
use Rattle.bound_tree.specs.declared.body.Mention.{Mention}
use Rattle.bound_tree.specs.Tree as tree
use Rattle.bound_tree.specs.Tree.{Variable, Program, typed, variable, Procedure}
use Rattle.written_trees.specs.Exprs.{exp_of}
use Rattle.written_trees.specs.Names.{Path, Scope, module_at, is_standard_module, module_name, is_foreign, owner_path}
use Rattle.written_trees.specs.Prologues.{one_if}
use Rattle.run_matches.specs.UserTypes.{is_group_type}
use Rattle.run_matches.specs.CoveredVariables.{covers_owner, belongs_to, is_foreign_name, is_reached}
use Rattle.run_matches.specs.CoveredExprs.{IsUsed, uses_in}
use Rattle.run_matches.specs.Shared.{names_lead, leads_to_home, is_alone_static, field_leads, is_alone_field, is_free_from, is_free_in, is_of_module, keeps_alone, others_differ, placed_module}
use Rattle.correspondence.specs.Uses.{shared_names, names, IsFirst, IsSharedAlone, stands_outside}
use Rattle.correspondence.proofs.Variables.{IsCoveredAt, foreign_name, module_free, module_outer, name_reserved, one_of, reserved_outer, same_itself, some_same, use_counted, used_at}
use Rattle.vb6_run.specs.Runnables.{is_class_file}
use Rattle.run_matches.specs.Sites.{Site, site_of}
use Rattle.correspondence.proofs.Among.{or_cases}

one_of_both : (a b : Bool) → a ≡ false → b ≡ false → ◌≡◌ {A = ℕ} (cond (a || b) 1 0) 0
one_of_both true b h e = absurd (cc h)
one_of_both false b h e = ap {B = ℕ} (λ c. cond c 1 0) e

both_false : (a b : Bool) → (a ≡ true → b ≡ true → ⊥) → (a && b) ≡ false
both_false true true h = absurd (h refl refl)
both_false true false h = refl
both_false false b h = refl

-- ---- paths

module _ (fielded inside : Bool) (of name : List ℕ) where
  abbrev counted : Path → ℕ
  counted = shared_names fielded inside of name

  -- a name alone, with fields or without
  pub alone_none : (n : List ℕ) (rest : List (List ℕ)) → (inside ≡ true → is_same_name n name ≡ true → ⊥) → (rest ≡ []) ⊎ (is_same_name n of ≡ false)
      → counted (n ∷ rest) ≡ 0
  alone_none n [] h e = one_of inside (is_same_name n name) h
  alone_none n (f ∷ rest) h (inl e) = absurd (cc e)
  alone_none n (f ∷ []) h (inr e) =
      one_of_both (is_same_name n of && is_same_name f name) (fielded && (inside && is_same_name n name))
      (both_false (is_same_name n of) (is_same_name f name) (λ a b. cc (sym e ∙ a)))
      (both_false fielded (inside && is_same_name n name) (λ a b. let c = both_true inside (is_same_name n name) b in h c.0 c.1))
  alone_none n (f ∷ g ∷ rest) h (inr e) =
      one_of fielded ((is_same_name n of && is_same_name f name) || (inside && is_same_name n name))
      (λ a b. cc (sym (either (both_false (is_same_name n of) (is_same_name f name) (λ c d. cc (sym e ∙ c))) (both_false inside (is_same_name n name) h)) ∙ b))
    where
      either : {a b : Bool} → a ≡ false → b ≡ false → (a || b) ≡ false
      either {a} {b} h e = ap {B = Bool} (λ c. c || b) h ∙ e

  -- one behind the name of a module
  pub behind_none : (o n : List ℕ) (rest : List (List ℕ)) → (is_same_name o of ≡ true → is_same_name n name ≡ true → ⊥)
      → (fielded ≡ true → is_same_name o name ≡ true → ⊥) → counted (o ∷ n ∷ rest) ≡ 0
  behind_none o n [] h e =
      one_of_both (is_same_name o of && is_same_name n name) (fielded && (inside && is_same_name o name))
      (both_false (is_same_name o of) (is_same_name n name) h)
      (both_false fielded (inside && is_same_name o name) (λ a b. e a (both_true inside (is_same_name o name) b).1))
  behind_none o n (f ∷ rest) h e =
      one_of fielded ((is_same_name o of && is_same_name n name) || (inside && is_same_name o name))
      (λ a b. cc (sym (either (both_false (is_same_name o of) (is_same_name n name) h)
      (both_false inside (is_same_name o name) (λ c d. e a d))) ∙ b))
    where
      either : {a b : Bool} → a ≡ false → b ≡ false → (a || b) ≡ false
      either {a} {b} h e = ap {B = Bool} (λ c. c || b) h ∙ e

  -- the path of another variable, or of a procedure
  pub shared_other : (q here : Bool) (other n : List ℕ) (rest : List (List ℕ)) → (is_same_name other of ≡ true → is_same_name n name ≡ true → ⊥)
      → (here ≡ true → inside ≡ true → is_same_name n name ≡ true → ⊥) → (fielded ≡ true → is_same_name other name ≡ true → ⊥)
      → (rest ≡ []) ⊎ (is_same_name n of ≡ false)
      → counted (cond (q || (not here && true)) (other ∷ n ∷ []) (n ∷ []) ++ rest) ≡ 0
  shared_other true here other n rest h e k s = behind_none other n rest h k
  shared_other false false other n rest h e k s = behind_none other n rest h k
  shared_other false true other n rest h e k s = alone_none n rest (e refl) s

both_same : (a b : List ℕ) → (is_same_name a a && is_same_name b b) ≡ true
both_same a b = ap {B = Bool} (λ c. c && is_same_name b b) (same_itself (lower_case a)) ∙ same_itself (lower_case b)

last_true : (a b : Bool) → b ≡ true → ◌≡◌ {A = ℕ} (cond (a || b) 1 0) 1
last_true true b h = refl
last_true false b h = ap {B = ℕ} (λ c. cond c 1 0) h

-- its own path, by whether it stands in its module
behind_itself : (fielded inside : Bool) (of name : List ℕ) (rest : List (List ℕ)) → (rest ≡ []) ⊎ (fielded ≡ true)
    → shared_names fielded inside of name (of ∷ name ∷ rest) ≡ 1
behind_itself fielded inside of name [] s =
    ap {B = ℕ} (λ c. cond (c || (fielded && (inside && is_same_name of name))) 1 0) (both_same of name)
behind_itself fielded inside of name (f ∷ rest) (inl e) = absurd (cc e)
behind_itself fielded inside of name (f ∷ rest) (inr u) =
    ap {B = ℕ} (λ c. cond (c && ((is_same_name of of && is_same_name name name) || (inside && is_same_name of name))) 1 0) u
    ∙ ap {B = ℕ} (λ c. cond (c || (inside && is_same_name of name)) 1 0) (both_same of name)

inside_itself : (fielded : Bool) (of name : List ℕ) (rest : List (List ℕ)) → (rest ≡ []) ⊎ (fielded ≡ true)
    → shared_names fielded true of name (name ∷ rest) ≡ 1
inside_itself fielded of name [] s = ap {B = ℕ} (λ c. cond c 1 0) (same_itself (lower_case name))
inside_itself fielded of name (f ∷ rest) (inl e) = absurd (cc e)
inside_itself fielded of name (f ∷ []) (inr u) =
    last_true (is_same_name name of && is_same_name f name) (fielded && (true && is_same_name name name))
    (ap {B = Bool} (λ c. c && is_same_name name name) u ∙ same_itself (lower_case name))
inside_itself fielded of name (f ∷ g ∷ rest) (inr u) =
    ap {B = ℕ} (λ c. cond (c && ((is_same_name name of && is_same_name f name) || (true && is_same_name name name))) 1 0) u
    ∙ last_true (is_same_name name of && is_same_name f name) (is_same_name name name) (same_itself (lower_case name))

shared_itself : (fielded q inside : Bool) (of name : List ℕ) (rest : List (List ℕ)) → (rest ≡ []) ⊎ (fielded ≡ true)
    → shared_names fielded inside of name (cond (q || (not inside && true)) (of ∷ name ∷ []) (name ∷ []) ++ rest) ≡ 1
shared_itself fielded true inside of name rest s = behind_itself fielded inside of name rest s
shared_itself fielded false false of name rest s = behind_itself fielded false of name rest s
shared_itself fielded false true of name rest s = inside_itself fielded of name rest s

-- ---- the variable

-- fields stand behind the path of a variable of a user type alone, which hasn't the name of the module
abbrev pub SuitsBy : (of : List ℕ) → Variable → List (List ℕ) → Type 0
SuitsBy of y rest = (rest ≡ []) ⊎ ((is_group_type y.ty ≡ true) × (is_same_name y.name of ≡ false))

module _ (P : Program) (S : Scope) (same : S.declarations ≡ P.declarations) (p v : ℕ) (x : Variable) (file : ℕ)
    (at : slice_get P.declarations.vars v ≡ Some x) (of : x.owner ≡ owner.Module file)
    (outside : stands_outside P.declarations (slice_get P.declarations.procs p) ≡ true) (reached : is_reached P.declarations p v x.name x.owner ≡ true)
    (alone : IsSharedAlone P.declarations v file x) (first : IsFirst P.declarations x) where
  abbrev D : tree.Declarations
  D = P.declarations

  abbrev count : Path → ℕ
  count = shared_names (is_group_type x.ty) (nat_eq S.file file) (module_name D file) x.name

  abbrev home : List ℕ
  home = module_name D file

  -- no name leads to a variable of a class
  outside_leads : (k f : ℕ) (name : List ℕ) → (names_lead D p k name f || field_leads D p k name f) ≡ true → names_lead D p k name f ≡ true
  outside_leads k f name h = by (or_cases (names_lead D p k name f) (field_leads D p k name f) h)
    where
      no_field : (o : Option Site) (q : Option Procedure) → stands_outside D q ≡ true → is_class_file D f ≡ true → is_free_from D name f o q ≡ true → ⊥
      no_field None q out class e = cc e
      no_field (Some s) None out class e = cc e
      no_field (Some s) (Some q) out class e =
          let a = both_true (nat_eq s.source_module.file f && nat_eq q.module_number f) (is_free_in D s q name) e in
          let b = both_true (nat_eq s.source_module.file f) (nat_eq q.module_number f) a.0 in
          let there : is_class_file D q.module_number ≡ true = ap (is_class_file D) (eqb-true q.module_number f b.1) ∙ class in
          cc (sym (ap not there) ∙ out)

      by : (names_lead D p k name f ≡ true) ⊎ (field_leads D p k name f ≡ true) → names_lead D p k name f ≡ true
      by (inl e) = e
      by (inr e) =
          let a = both_true (is_alone_field D k name f) (is_free_from D name f (site_of D p) (slice_get D.procs p)) e in
          let class =
          (both_true (is_class_file D f)
          (keeps_alone D k name (option_and_then (placed_module D) (position (λ (m : Module). nat_eq m.file f) D.project.modules))
          && others_differ (is_of_module f) k name 0 D.vars) a.0).0 in
          absurd (no_field (site_of D p) (slice_get D.procs p) outside class a.1)

  leading : (names_lead D p v x.name file ≡ true) × (is_foreign_name D p x.name ≡ true)
  leading =
      let both = both_true (names_lead D p v x.name file || field_leads D p v x.name file) (is_foreign_name D p x.name)
      (sym (ap (is_reached D p v x.name) of) ∙ reached) in
      (outside_leads v file x.name both.0, both.1)

  standard_at : (k f : ℕ) (name : List ℕ) → names_lead D p k name f ≡ true → is_standard_module (module_at D.project f) ≡ true
  standard_at k f name h =
      let free = both_true (is_standard_module (module_at D.project f) && not (is_reserved (module_name D f)))
      (leads_to_home D p k name f (position (λ (m : Module). nat_eq m.file f) D.project.modules)) h in
      (both_true (is_standard_module (module_at D.project f)) (not (is_reserved (module_name D f))) free.0).0

  unreserved : is_reserved (module_name D file) ≡ false
  unreserved = module_free D p v file x.name leading.0

  -- its written path
  module_path_is : (q : Bool) (name : List ℕ) (f : ℕ) → is_standard_module (module_at D.project f) ≡ true
      → owner_path S q name (owner.Module f) ≡ cond (q || (not (nat_eq S.file f) && true)) (module_name D f ∷ name ∷ []) (name ∷ [])
  module_path_is q name f h =
      ap (λ (d : tree.Declarations). cond (q || is_foreign d S.file f) (module_name d f ∷ name ∷ []) (name ∷ [])) same
      ∙ ap (λ b. cond (q || (not (nat_eq S.file f) && b)) (module_name D f ∷ name ∷ []) (name ∷ [])) h

  by_fields : (y : Variable) (rest : List (List ℕ)) → SuitsBy home y rest → (rest ≡ []) ⊎ (is_same_name y.name home ≡ false)
  by_fields y rest (inl e) = inl e
  by_fields y rest (inr h) = inr h.1

  by_type : (y : Variable) (rest : List (List ℕ)) → SuitsBy home y rest → (rest ≡ []) ⊎ (is_group_type y.ty ≡ true)
  by_type y rest (inl e) = inl e
  by_type y rest (inr h) = inr h.0

  -- a variable of the procedure
  own_shared : (k : ℕ) (y : Variable) (rest : List (List ℕ)) → SuitsBy home y rest → slice_get D.vars k ≡ Some y → belongs_to p y.owner ≡ true
      → count (y.name ∷ rest) ≡ 0
  own_shared k y rest s is h =
      alone_none (is_group_type x.ty) (nat_eq S.file file) home x.name y.name rest
      (λ a b. cc (sym (foreign_name p x.name D.vars k y leading.1 is h) ∙ b)) (by_fields y rest s)

  other_shared : (k : ℕ) (y : Variable) (q : Bool) (rest : List (List ℕ)) → SuitsBy home y rest → slice_get D.vars k ≡ Some y → (o : Owner) → y.owner ≡ o
      → is_reached D p k y.name o ≡ true → covers_owner o ≡ true → nat_eq v k ≡ false → count (owner_path S q y.name o ++ rest) ≡ 0
  other_shared k y q rest s is (owner.Module f) e h c n =
      let leads = both_true (names_lead D p k y.name f || field_leads D p k y.name f) (is_foreign_name D p y.name) h in
      let differs : is_same_name (module_name D f) home ≡ true → is_same_name y.name x.name ≡ true → ⊥ =
      λ s t. cc (sym n ∙ eq-eqb v k (sym (alone k y f is e t s))) in
      ap (λ (path : Path). count (path ++ rest)) (module_path_is q y.name f (standard_at k f y.name (outside_leads k f y.name leads.0)))
      ∙ shared_other (is_group_type x.ty) (nat_eq S.file file) home x.name q (nat_eq S.file f) (module_name D f) y.name rest differs
      (λ a b. differs
      (subst (λ i. is_same_name (module_name D i) home ≡ true) (sym (eqb-true S.file file b) ∙ eqb-true S.file f a)
      (same_itself (lower_case home))))
      (λ a b. module_outer D f x.name (first a) b) (by_fields y rest s)
  other_shared k y q rest s is (owner.Local r) e h c n = own_shared k y rest s is (ap (belongs_to p) e ∙ h)
  other_shared k y q rest s is (owner.Static r) e h c n =
      own_shared k y rest s is (ap (belongs_to p) e ∙ (both_true (nat_eq p r.0) (is_alone_static D p k y.name) h).0)
  other_shared k y q rest s is (owner.Value r) e h c n = own_shared k y rest s is (ap (belongs_to p) e ∙ h)
  other_shared k y q rest s is (owner.Reference r) e h c n = own_shared k y rest s is (ap (belongs_to p) e ∙ h)
  other_shared k y q rest s is (owner.Answer r) e h c n = own_shared k y rest s is (ap (belongs_to p) e ∙ h)
  other_shared k y q rest s is (owner.Field t) e h c n = absurd (cc c)

  pub shared_named : (k : ℕ) (y : Variable) (q : Bool) (rest : List (List ℕ)) → IsCoveredAt P p k y → SuitsBy home y rest
      → one_if (nat_eq v k) ≡ count (owner_path S q y.name y.owner ++ rest)
  shared_named k y q rest is s =
      by_test (nat_eq v k) (λ c. one_if c ≡ count (owner_path S q y.name y.owner ++ rest))
      (λ e.
      let found : x ≡ y = some_same x y (sym at ∙ ap (slice_get D.vars) (eqb-true v k e) ∙ is.0) in
      let suits : (rest ≡ []) ⊎ (is_group_type x.ty ≡ true) = by_type x rest (subst (λ (z : Variable). SuitsBy home z rest) (sym found) s) in
      sym (ap (λ o. count (owner_path S q x.name o ++ rest)) of
      ∙ ap (λ (path : Path). count (path ++ rest)) (module_path_is q x.name file (standard_at v file x.name leading.0))
      ∙ shared_itself (is_group_type x.ty) q (nat_eq S.file file) home x.name rest suits)
      ∙ ap (λ (z : Variable). count (owner_path S q z.name z.owner ++ rest)) found)
      (λ e. sym (other_shared k y q rest s is.0 y.owner refl is.1 is.2 e))

  -- no name of the support module or of the run-time library
  pub shared_reserved : (word n : List ℕ) (rest : List (List ℕ)) → is_reserved word ≡ true → count (word ∷ n ∷ rest) ≡ 0
  shared_reserved word n rest h =
      behind_none (is_group_type x.ty) (nat_eq S.file file) home x.name word n rest (λ a b. cc (sym unreserved ∙ name_reserved word home h a))
      (λ a b. reserved_outer D x.name (first a) (name_reserved word x.name h b))

  module _ (mentions : List Mention) where
    pub shared_use : (k : VarId) (q : Bool) (ty : Ty) → IsUsed (uses_in P p mentions) k
        → one_if (nat_eq v k.0) ≡ names count (exp_of S (typed ty (variable k q)))
    shared_use k q ty h =
        let found = used_at P p mentions k h in
        shared_named k.0 found.variable q [] found.covered (inl refl) ∙ ap count (append-nil (owner_path S q found.variable.name found.variable.owner))
        ∙ sym (use_counted P S same p k q found.variable found.covered ty found.made count (λ n. shared_reserved (codes "UpgradeSupport") n [] refl))
