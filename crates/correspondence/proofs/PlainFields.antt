-- Fields that may be asked for make no object, and groups are of user types or classes.
use Rattle.std.proofs.Common.{◌≡◌, ℕ, Bool, true, false, not, ◌&&◌, cond, List, Option, Some, None, refl, ap, ◌∙◌}
use Rattle.std.specs.List.{list_any}
use Rattle.std.specs.Prelude.{slice_get}
use Rattle.up_base.proofs.Lists.{both_true}
use Rattle.vb_tree.specs.BoundTree as types
use Rattle.vb_tree.specs.BoundTree.{Ty}
use Rattle.bound_tree.specs.declared.body.Mention.{Mention}
use Rattle.bound_tree.specs.Tree as tree
use Rattle.bound_tree.specs.Tree.{Variable, field, variable}
use Rattle.bound_facts.specs.Locks.{is_same_type}
use Rattle.bound_facts.specs.Members.{class_files, field_of}
use Rattle.bound_facts.specs.Node.{auto_class, class_in, variable_number}
use Rattle.net_tree.specs.Tree as net
use Rattle.written_trees.specs.Exprs.{made_if}
use Rattle.run_matches.specs.UserTypes.{is_group_type}
use Rattle.run_matches.specs.Shared.{is_alone_field}
use Rattle.run_matches.specs.CoveredVariables.{covers_group_type, covers_place_type, covers_type, field_type_in, field_type_of, is_member, is_mention_of, member_type_in, member_type_of}
use Rattle.run_matches.specs.Upgrades.{is_unknown, type_of_some}
use Rattle.correspondence.proofs.Variables.{not_true}

-- a type of which no object is made
pub no_class : (ty : Ty) → covers_type ty ≡ true → class_in ty ≡ None
no_class types.boolean h = refl
no_class types.byte h = refl
no_class types.integer h = refl
no_class types.long h = refl
no_class types.currency h = refl
no_class types.str h = refl
no_class _ h = absurd (cc h)

pub same_no_class : (t : ℕ) (ty : Ty) → is_same_type (types.user t) ty ≡ true → class_in ty ≡ None
same_no_class t (types.user u) h = refl
same_no_class t _ h = absurd (cc h)

no_auto : (D : tree.Declarations) (a : net.Exp) (o : Option Variable) (ty : Ty) → type_of_some o ≡ Some ty → class_in ty ≡ None → made_if D (auto_class o) a ≡ a
no_auto D a None ty e h = absurd (cc e)
no_auto D a (Some x) ty e h =
    let same : x.ty ≡ ty = the_type x.ty ty e in
    ap (λ (o : Option ℕ). made_if D o a) (ap (λ z. cond x.auto (class_in z) None) same ∙ ap (λ o. cond x.auto o None) h ∙ either x.auto)
  where
    the_type : (s t : Ty) → Some s ≡ Some t → s ≡ t
    the_type s t e = cc

    either : (b : Bool) → ◌≡◌ {A = Option ℕ} (cond b None None) None
    either true = refl
    either false = refl

-- the type of a field that may be asked for is that of its declaration
pub declared_type : (D : tree.Declarations) (mentions : List Mention) (v : ℕ) (ty : Ty) → field_type_of D mentions (Some v) ≡ Some ty
    → type_of_some (slice_get D.vars v) ≡ Some ty
declared_type D mentions v ty h = by (list_any (is_mention_of (record { 0 = v })) mentions) (is_unknown (type_of_some (slice_get D.vars v))) h
  where
    by : (a b : Bool) → cond (a && not b) (type_of_some (slice_get D.vars v)) None ≡ Some ty → type_of_some (slice_get D.vars v) ≡ Some ty
    by true false e = e
    by true true e = absurd (cc e)
    by false b e = absurd (cc e)

-- so it makes no object
pub field_made : (D : tree.Declarations) (mentions : List Mention) (t k : ℕ) (a : net.Exp) (ty : Ty) → field_type_in D mentions t k ≡ Some ty → class_in ty ≡ None
    → made_if D (auto_class (variable_number D.vars (field_of D (types.user t) k))) a ≡ a
field_made D mentions t k a ty h none = by (field_of D (types.user t) k) h
  where
    by : (o : Option ℕ) → field_type_of D mentions o ≡ Some ty → made_if D (auto_class (variable_number D.vars o)) a ≡ a
    by None e = refl
    by (Some v) e = no_auto D a (slice_get D.vars v) ty (declared_type D mentions v ty e) none

-- nor does the use of an object's variable
pub member_made : (D : tree.Declarations) (mentions : List Mention) (c k : ℕ) (a : net.Exp) (ty : Ty) → member_type_in D mentions c k ≡ Some ty
    → made_if D (auto_class (variable_number D.vars (field_of D (types.class c) k))) a ≡ a
member_made D mentions c k a ty h = by (slice_get (class_files D.project) c) (field_of D (types.class c) k) h
  where
    of_variable : (file v : ℕ) (o : Option Variable) → is_member D file v o ≡ true → made_if D (auto_class o) a ≡ a
    of_variable file v None e = refl
    of_variable file v (Some x) e =
        let plain = both_true (is_alone_field D v x.name file) (covers_place_type D x.ty && not x.auto) e in
        ap (λ c. made_if D (cond c (class_in x.ty) None) a) (not_true x.auto (both_true (covers_place_type D x.ty) (not x.auto) plain.1).1)

    by : (file v : Option ℕ) → member_type_of D mentions file v ≡ Some ty → made_if D (auto_class (variable_number D.vars v)) a ≡ a
    by file None e = absurd (cc e)
    by None (Some v) e = absurd (cc e)
    by (Some file) (Some v) e =
        of_variable file v (slice_get D.vars v)
        (passed (list_any (is_mention_of (record { 0 = v })) mentions) (is_member D file v (slice_get D.vars v)) (type_of_some (slice_get D.vars v)) e)
      where
        passed : (a b : Bool) (o : Option Ty) → cond (a && b) o None ≡ Some ty → b ≡ true
        passed true true o e = refl
        passed true false o e = absurd (cc e)
        passed false b o e = absurd (cc e)

-- a group is of a user type or a class
pub group_covered : (D : tree.Declarations) (ty : Ty) → covers_group_type D ty ≡ true → is_group_type ty ≡ true
group_covered D (types.user t) c = refl
group_covered D (types.class k) c = refl
group_covered D _ c = absurd (cc c)

pub a_group : (D : tree.Declarations) (ty s : Ty) → is_same_type ty s ≡ true → covers_group_type D s ≡ true → is_group_type ty ≡ true
a_group D (types.user t) s h c = refl
a_group D (types.class k) s h c = refl
a_group D _ (types.user t) h c = absurd (cc h)
a_group D _ (types.class k) h c = absurd (cc h)
a_group D _ _ h c = absurd (cc c)
