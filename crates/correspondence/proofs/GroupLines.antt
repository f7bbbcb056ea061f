-- The parts of covered copies, of Set and of With.
use Rattle.std.proofs.Common.{◌≡◌, ℕ, true, not, ◌&&◌, List, [], ◌∷◌, refl, sym, ap, ◌∙◌, Bool, inl, inr}
use Rattle.std.specs.Prelude.{◌||◌, ◌⊎◌}
use Rattle.up_base.proofs.Lists.{both_true}
use Rattle.vb_tree.specs.BoundTree as types
use Rattle.vb_tree.specs.BoundTree.{Ty}
use Rattle.vb_tree.specs.declared.declared.VarId.{VarId}
use Rattle.bound_tree.specs.declared.body.Mention.{Mention}
use Rattle.bound_tree.specs.Tree.{Program, Expr, typed, field, variable, Variable}
use Rattle.bound_facts.specs.Locks.{is_same_type}
use Rattle.bound_facts.specs.Node.{type_at}
use Rattle.net_tree.specs.Tree as net
use Rattle.written_trees.specs.Exprs.{exp_of, target_exp}
use Rattle.written_trees.specs.Names.{Path, Scope, owner_path, support}
use Rattle.run_matches.specs.CoveredVariables.{covers_auto_use, covers_group_use, is_named_so}
use Rattle.run_matches.specs.UserTypes.{is_class_type, is_user}
use Rattle.run_matches.specs.CoveredExprs.{Uses, covers_base, covers_group, covers_object, covers_place, has_inner, is_auto_use, is_changeable, is_new, uses_in}
use Rattle.run_matches.specs.CoveredLines.{covers_copy, covers_set_member, covers_set_variable, is_auto_target, is_member_ordered, covers_with}
use Rattle.correspondence.specs.Uses.{names}
use Rattle.correspondence.proofs.Among.{or_cases}
use Rattle.correspondence.proofs.Objects.{member_written}
use Rattle.correspondence.proofs.Variables.{IsCoveredAt, auto_use_at, group_use_at, target_path, use_counted, variable_exp}

-- a place and the value that it takes
pub group_parts : (cover : Uses) (to e : Expr)
    → (is_changeable cover to && (is_same_type (type_at to) (type_at e) && (covers_place cover to && covers_group cover e))) ≡ true
    → (covers_place cover to ≡ true) × (covers_group cover e ≡ true)
group_parts cover to e h =
    let a = both_true (is_changeable cover to) (is_same_type (type_at to) (type_at e) && (covers_place cover to && covers_group cover e)) h in
    let b = both_true (is_same_type (type_at to) (type_at e)) (covers_place cover to && covers_group cover e) a.1 in
    both_true (covers_place cover to) (covers_group cover e) b.1

pub copy_parts : (cover : Uses) (to e : Expr) → covers_copy cover to e ≡ true
    → (is_user (type_at to) ≡ true) × (covers_place cover to ≡ true) × (covers_group cover e ≡ true)
copy_parts cover to e h =
    let rest : Bool = is_changeable cover to && (is_same_type (type_at to) (type_at e) && (covers_place cover to && covers_group cover e)) in
    let a = both_true (is_user (type_at to)) rest h in
    let b = group_parts cover to e a.1 in
    (a.0, b.0, b.1)

abbrev pub covers_set_of : Uses → (target value : Expr) → Bool
covers_set_of cover to e = is_class_type (type_at to) && (covers_set_variable cover to e || covers_set_member cover to e)

-- a variable of an object
abbrev pub IsField : Expr → Type 0
IsField (typed ty (field e k)) = Unit {0}
IsField e = ⊥

-- what is set: a variable of a class, one of an object, or an As New variable
abbrev pub IsSettable : Uses → Expr → Type 0
IsSettable cover to = (covers_place cover to ≡ true) ⊎ (((covers_object cover to ≡ true) × IsField to) ⊎ (is_auto_target cover to ≡ true))

ordered_field : (cover : Uses) (to e : Expr) → is_member_ordered cover to e ≡ true → IsField to
ordered_field cover (typed ty (field d k)) e h = tt
ordered_field cover (typed ty _) e h = absurd (cc h)

-- what is set, and the value that it takes
pub set_parts : (cover : Uses) (to e : Expr) → covers_set_of cover to e ≡ true
    → (is_class_type (type_at to) ≡ true) × IsSettable cover to × (covers_group cover e ≡ true)
set_parts cover to e h =
    let a = both_true (is_class_type (type_at to)) (covers_set_variable cover to e || covers_set_member cover to e) h in
    let b = by (or_cases (covers_set_variable cover to e) (covers_set_member cover to e) a.1) in
    (a.0, b.0, b.1)
  where
    kept : Bool
    kept = is_changeable cover to && (is_same_type (type_at to) (type_at e) && (covers_place cover to && covers_group cover e))

    auto : Bool
    auto = is_auto_target cover to && (is_same_type (type_at to) (type_at e) && covers_group cover e)

    of_variable : (kept ≡ true) ⊎ (auto ≡ true) → IsSettable cover to × (covers_group cover e ≡ true)
    of_variable (inl c) = let g = group_parts cover to e c in (inl g.0, g.1)
    of_variable (inr c) =
        let a = both_true (is_auto_target cover to) (is_same_type (type_at to) (type_at e) && covers_group cover e) c in
        (inr (inr a.0), (both_true (is_same_type (type_at to) (type_at e)) (covers_group cover e) a.1).1)

    by : (covers_set_variable cover to e ≡ true) ⊎ (covers_set_member cover to e ≡ true) → IsSettable cover to × (covers_group cover e ≡ true)
    by (inl c) = of_variable (or_cases kept auto c)
    by (inr c) =
        let a = both_true (is_member_ordered cover to e) (is_same_type (type_at to) (type_at e) && (covers_object cover to && covers_group cover e)) c in
        let b = both_true (is_same_type (type_at to) (type_at e)) (covers_object cover to && covers_group cover e) a.1 in
        let g = both_true (covers_object cover to) (covers_group cover e) b.1 in
        (inr (inl (g.0, ordered_field cover to e a.0)), g.1)

-- what a With keeps: a place, an object that is kept, or a new one
pub with_parts : (cover : Uses) (e : Expr) → covers_with cover (e ∷ []) ≡ true
    → (covers_place cover e ≡ true) ⊎ ((covers_object cover e ≡ true) ⊎ (covers_group cover e ≡ true))
with_parts cover e h = by (or_cases (is_user (type_at e) && covers_place cover e) (is_class_type (type_at e) && objects) h)
  where
    kept : Bool
    kept = not (is_auto_use cover e) && covers_object cover e

    objects : Bool
    objects = kept || (is_new e && covers_group cover e)

    object : (kept ≡ true) ⊎ ((is_new e && covers_group cover e) ≡ true)
        → (covers_place cover e ≡ true) ⊎ ((covers_object cover e ≡ true) ⊎ (covers_group cover e ≡ true))
    object (inl c) = inr (inl (both_true (not (is_auto_use cover e)) (covers_object cover e) c).1)
    object (inr c) = inr (inr (both_true (is_new e) (covers_group cover e) c).1)

    by : ((is_user (type_at e) && covers_place cover e) ≡ true) ⊎ ((is_class_type (type_at e) && objects) ≡ true)
        → (covers_place cover e ≡ true) ⊎ ((covers_object cover e ≡ true) ⊎ (covers_group cover e ≡ true))
    by (inl c) = inl (both_true (is_user (type_at e)) (covers_place cover e) c).1
    by (inr c) =
        object (or_cases kept (is_new e && covers_group cover e) (both_true (is_class_type (type_at e)) objects c).1)

-- a variable of a class, and one of an object, is written as it is used
pub set_target : (P : Program) (S : Scope) → S.declarations ≡ P.declarations → (p : ℕ) (mentions : List Mention) (to : Expr) → is_class_type (type_at to) ≡ true
    → (covers_place (uses_in P p mentions) to ≡ true) ⊎ ((covers_object (uses_in P p mentions) to ≡ true) × IsField to) → target_exp S to ≡ exp_of S to
set_target P S same p mentions (typed ty (variable k q)) is (inl h) =
    let found = group_use_at P p mentions k ty (both_true (covers_group_use P p mentions k ty) (is_named_so P.declarations k q) h).0 in
    target_path P S same p k q found.variable found.covered ty ∙ sym (variable_exp P S same p k q found.variable found.covered ty found.plain)
set_target P S same p mentions (typed ty (field e k)) is (inl h) =
    absurd (no_object ty (both_true (has_inner (uses_in P p mentions) (type_at e) k ty) (covers_base (uses_in P p mentions) e) h).0 is)
  where
    no_object : (ty : Ty) → has_inner (uses_in P p mentions) (type_at e) k ty ≡ true → is_class_type ty ≡ true → ⊥
    no_object (types.user t) h is = cc is
    no_object _ h is = cc h
set_target P S same p mentions (typed ty _) is (inl h) = absurd (cc h)
set_target P S same p mentions (typed ty (field e k)) is (inr h) = sym (member_written P S same p mentions ty e k h.0)
set_target P S same p mentions (typed ty _) is (inr h) = absurd h.1

-- an As New variable is written as its path, where its use is that of its object
pub record AutoTarget (P : Program) (S : Scope) (p : ℕ) (mentions : List Mention) (e : Expr) : Type 0 where
  pub root : VarId
  pub qualified : Bool
  pub root_type : Ty
  pub is_use : e ≡ typed root_type (variable root qualified)
  pub covers : covers_auto_use P p mentions root root_type ≡ true
  pub root_variable : Variable
  pub covered : IsCoveredAt P p root.0 root_variable
  pub written : target_exp S e ≡ net.path (owner_path S qualified root_variable.name root_variable.owner)
  -- both name what the path does
  pub counted : (count : Path → ℕ) → ((name : List ℕ) → count (support name) ≡ 0) → names count (exp_of S e) ≡ names count (target_exp S e)

pub auto_target : (P : Program) (S : Scope) → S.declarations ≡ P.declarations → (p : ℕ) (mentions : List Mention) (e : Expr)
    → is_auto_target (uses_in P p mentions) e ≡ true → AutoTarget P S p mentions e
auto_target P S same p mentions (typed ty (variable k q)) h =
    let covers = (both_true (covers_auto_use P p mentions k ty) (is_named_so P.declarations k q) h).0 in
    let found = auto_use_at P p mentions k ty covers in
    let written = target_path P S same p k q found.variable found.covered ty in
    record {
      root = k;
      qualified = q;
      root_type = ty;
      is_use = refl;
      covers = covers;
      root_variable = found.variable;
      covered = found.covered;
      written = written;
      counted = λ count no_support.
          use_counted P S same p k q found.variable found.covered ty (inr (found.class, found.of_class, found.is_auto, found.made)) count no_support
          ∙ sym (ap (names count) written);
    }
auto_target P S same p mentions (typed ty _) h = absurd (cc h)
