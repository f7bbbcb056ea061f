-- Covered variables, what is written for their uses, and the names by which their paths begin.
use Rattle.std.proofs.Common.{◌≡◌, ℕ, zero, suc, Bool, true, false, not, ◌&&◌, cond, List, [], ◌∷◌, Option, Some, None, refl, sym, ap, ◌∙◌, arith, nat_eq, unwrap_or, eq-eqb, eqb-true, inl, inr}
use Rattle.std.specs.List.{list_all, list_any}
use Rattle.std.specs.Prelude.{slice_get, ◌||◌, ◌⊎◌, codes, find, position}
use Rattle.std.specs.Cmp.Lexicographic.{bytes_decides, pointwise}
use Rattle.up_base.specs.Names.{is_same_name, lower_case}
use Rattle.up_base.proofs.Lists.{both_true, by_test}
use Rattle.vb_tree.specs.BoundTree as types
use Rattle.vb_tree.specs.BoundTree.{Ty}
use Rattle.vb_tree.specs.declared.declared.Owner.{Owner}
use Rattle.vb_tree.specs.declared.declared.Owner.TheVariants as owner
use Rattle.vb_tree.specs.declared.declared.VarId.{VarId}
use Rattle.vb_tree.specs.ProjectLines.{is_reserved}
use Rattle.vb_tree.specs.Tree.{Module}
use Rattle.bound_tree.specs.declared.body.Mention.{Mention}
use Rattle.bound_tree.specs.Tree as tree
use Rattle.bound_tree.specs.Tree.{Expr, Variable, Program, typed, variable, Constant, Procedure}
use Rattle.bound_facts.specs.Locks.{is_same_type}
use Rattle.bound_facts.specs.Node.{auto_class, class_in}
use Rattle.net_tree.specs.Tree as net
use Rattle.written_trees.specs.Conversions.{one, support_call}
use Rattle.written_trees.specs.Exprs.{exp_of, made_if, target_exp}
use Rattle.written_trees.specs.Names.{Path, Scope, auto_name, support, module_at, is_standard_module, module_name, name_in, is_foreign, variable_path_of, owner_path}
use Rattle.written_trees.specs.Types.{element_type}
use Rattle.run_matches.specs.CoveredVariables.{covers_type, covers_owner, covers_variable, belongs_to, is_reached, covers_some, is_mention_of, covers_array_owner, covers_array_variable, covers_auto_owner, covers_auto_use, covers_auto_variable, covers_bounds, covers_declared, covers_group_type, covers_group_use, covers_group_variable, covers_made, covers_some_array, covers_some_group, is_array_of, is_named_apart}
use Rattle.run_matches.specs.UserTypes.{is_group_type}
use Rattle.run_matches.specs.CoveredExprs.{Uses, covers_expr, covers_array, covers_place, is_passable, IsUsed, uses_in}
use Rattle.run_matches.specs.Shared.{names_lead, leads_to_home}
use Rattle.name_laws.proofs.Autos.{auto_parts, auto_use}
use Rattle.correspondence.proofs.Among.{or_cases}
use Rattle.correspondence.specs.Uses.{names, is_outer}
use Rattle.run_matches.specs.Covered.{covers_names, is_free_name}

pub some_same : {A : Type 0} (x y : A) → Some x ≡ Some y → x ≡ y
some_same x y e = ap (λ o. unwrap_or o x) e

-- the covered variable y, which stands at the number k
abbrev pub IsCoveredAt : (P : Program) (p k : ℕ) → Variable → Type 0
IsCoveredAt P p k y =
    (slice_get P.declarations.vars k ≡ Some y) × (is_reached P.declarations p k y.name y.owner ≡ true) × (covers_owner y.owner ≡ true)

-- its use makes no object, or may make one of a class
abbrev pub IsMadeOf : Program → Variable → Type 0
IsMadeOf P y = (y.auto ≡ false) ⊎ ((class : ℕ) × (y.ty ≡ types.class class) × (y.auto ≡ true) × (covers_made P class ≡ true))

pub record UsedAt (P : Program) (p k : ℕ) : Type 0 where
  pub variable : Variable
  pub covered : IsCoveredAt P p k variable
  pub made : IsMadeOf P variable

pub not_true : (c : Bool) → not c ≡ true → c ≡ false
not_true true e = absurd (cc e)
not_true false e = refl

pub covered_at : (P : Program) (p k : ℕ) → covers_some P.declarations p k (slice_get P.declarations.vars k) ≡ true → UsedAt P p k
covered_at P p k h = by (slice_get P.declarations.vars k) refl h
  where
    by : (o : Option Variable) → slice_get P.declarations.vars k ≡ o → covers_some P.declarations p k o ≡ true → UsedAt P p k
    by None e c = absurd (cc c)
    by (Some y) e c =
        let f = both_true (is_reached P.declarations p k y.name y.owner) (covers_variable y) c in
        let g = both_true (covers_owner y.owner) (covers_type y.ty && not y.auto) f.1 in
        let i = both_true (covers_type y.ty) (not y.auto) g.1 in
        record { variable = y; covered = (e, f.0, g.0); made = inl (not_true y.auto i.1) }

array_owner : (o : Owner) → covers_array_owner o ≡ true → covers_owner o ≡ true
array_owner (owner.Module file) h = refl
array_owner (owner.Local p) h = refl
array_owner (owner.Static p) h = refl
array_owner (owner.Reference p) h = refl
array_owner _ h = absurd (cc h)

array_parts : (element : Ty) (y : Variable) → covers_array_variable element y ≡ true → (covers_owner y.owner ≡ true) × (y.auto ≡ false)
array_parts element y h =
    let a = both_true (covers_array_owner y.owner) (covers_type element && (is_array_of element y.ty && (covers_bounds y.ty y.bounds && not y.auto))) h in
    let b = both_true (covers_type element) (is_array_of element y.ty && (covers_bounds y.ty y.bounds && not y.auto)) a.1 in
    let c = both_true (is_array_of element y.ty) (covers_bounds y.ty y.bounds && not y.auto) b.1 in
    let d = both_true (covers_bounds y.ty y.bounds) (not y.auto) c.1 in
    (array_owner y.owner a.0, not_true y.auto d.1)

group_parts : (D : tree.Declarations) (y : Variable) → covers_group_variable D y ≡ true
    → (covers_owner y.owner ≡ true) × (y.auto ≡ false) × (covers_group_type D y.ty ≡ true)
group_parts D y h =
    let a = both_true (covers_owner y.owner) (covers_group_type D y.ty && not y.auto) h in
    let b = both_true (covers_group_type D y.ty) (not y.auto) a.1 in
    (a.0, not_true y.auto b.1, b.0)

auto_owner : (o : Owner) → covers_auto_owner o ≡ true → covers_owner o ≡ true
auto_owner (owner.Module file) h = refl
auto_owner (owner.Local p) h = refl
auto_owner (owner.Static p) h = refl
auto_owner _ h = absurd (cc h)

-- a declared scalar, an array or a variable of a user type or a class, which may be As New
pub declared_owner : (D : tree.Declarations) (x : Variable) → covers_declared D x ≡ true → covers_owner x.owner ≡ true
declared_owner D x h =
    by (or_cases (covers_variable x) (covers_array_variable (element_type x.ty) x || object) h)
  where
    object : Bool
    object = covers_group_variable D x || covers_auto_variable D x

    of_class : (covers_group_variable D x ≡ true) ⊎ (covers_auto_variable D x ≡ true) → covers_owner x.owner ≡ true
    of_class (inl c) = (group_parts D x c).0
    of_class (inr c) = auto_owner x.owner (auto_parts D x c).owner

    other : (covers_array_variable (element_type x.ty) x ≡ true) ⊎ (object ≡ true) → covers_owner x.owner ≡ true
    other (inl c) = (array_parts (element_type x.ty) x c).0
    other (inr c) = of_class (or_cases (covers_group_variable D x) (covers_auto_variable D x) c)

    by : (covers_variable x ≡ true) ⊎ ((covers_array_variable (element_type x.ty) x || object) ≡ true) → covers_owner x.owner ≡ true
    by (inl c) = (both_true (covers_owner x.owner) (covers_type x.ty && not x.auto) c).0
    by (inr c) = other (or_cases (covers_array_variable (element_type x.ty) x) object c)

array_at : (P : Program) (p k : ℕ) (element : Ty) → covers_some_array P.declarations p k element (slice_get P.declarations.vars k) ≡ true
    → UsedAt P p k
array_at P p k element h = by (slice_get P.declarations.vars k) refl h
  where
    by : (o : Option Variable) → slice_get P.declarations.vars k ≡ o → covers_some_array P.declarations p k element o ≡ true → UsedAt P p k
    by None e c = absurd (cc c)
    by (Some y) e c =
        let apart = is_named_apart (slice_get P.declarations.procs p) y.name in
        let f = both_true (is_reached P.declarations p k y.name y.owner) (covers_array_variable element y && apart) c in
        let g = array_parts element y (both_true (covers_array_variable element y) apart f.1).0 in
        record { variable = y; covered = (e, f.0, g.0); made = inl g.1 }

-- a variable of a user type or a class
pub record IsGroupAt (P : Program) (p k : ℕ) (ty : Ty) : Type 0 where
  pub variable : Variable
  pub covered : IsCoveredAt P p k variable
  pub plain : variable.auto ≡ false
  pub same : is_same_type ty variable.ty ≡ true
  pub covers : covers_group_type P.declarations variable.ty ≡ true

group_at : (P : Program) (p k : ℕ) (ty : Ty) → covers_some_group P.declarations p k ty (slice_get P.declarations.vars k) ≡ true → IsGroupAt P p k ty
group_at P p k ty h = by (slice_get P.declarations.vars k) refl h
  where
    by : (o : Option Variable) → slice_get P.declarations.vars k ≡ o → covers_some_group P.declarations p k ty o ≡ true → IsGroupAt P p k ty
    by None e c = absurd (cc c)
    by (Some y) e c =
        let f = both_true (is_reached P.declarations p k y.name y.owner) (is_same_type ty y.ty && covers_group_variable P.declarations y) c in
        let g = both_true (is_same_type ty y.ty) (covers_group_variable P.declarations y) f.1 in
        let i = group_parts P.declarations y g.1 in
        record { variable = y; covered = (e, f.0, i.0); plain = i.1; same = g.0; covers = i.2 }

pub group_use_at : (P : Program) (p : ℕ) (mentions : List Mention) (k : VarId) (ty : Ty) → covers_group_use P p mentions k ty ≡ true → IsGroupAt P p k.0 ty
group_use_at P p mentions k ty h =
    let o : Option Variable = slice_get P.declarations.vars k.0 in
    group_at P p k.0 ty (both_true (list_any (is_mention_of k) mentions) (covers_some_group P.declarations p k.0 ty o) h).1

-- an As New variable of a class
pub record UsedAuto (P : Program) (p k : ℕ) (ty : Ty) : Type 0 where
  pub variable : Variable
  pub covered : IsCoveredAt P p k variable
  pub class : ℕ
  pub of_class : variable.ty ≡ types.class class
  pub is_auto : variable.auto ≡ true
  pub made : covers_made P class ≡ true
  pub is_type : ty ≡ types.class class

pub auto_use_at : (P : Program) (p : ℕ) (mentions : List Mention) (k : VarId) (ty : Ty) → covers_auto_use P p mentions k ty ≡ true → UsedAuto P p k.0 ty
auto_use_at P p mentions k ty h =
    let found = (auto_use P p mentions k ty h).1 in
    record {
      variable = found.used;
      covered = (found.is_used, found.reached, auto_owner found.used.owner found.parts.owner);
      class = found.parts.class;
      of_class = found.parts.is_type;
      is_auto = found.parts.is_auto;
      made = found.made;
      is_type = found.is_type;
    }

-- a scalar, an array or a variable of a user type or a class, which may be As New
pub used_at : (P : Program) (p : ℕ) (mentions : List Mention) (k : VarId) → IsUsed (uses_in P p mentions) k → UsedAt P p k.0
used_at P p mentions k (inl h) =
    let o : Option Variable = slice_get P.declarations.vars k.0 in
    covered_at P p k.0 (both_true (list_any (is_mention_of k) mentions) (covers_some P.declarations p k.0 o) h).1
used_at P p mentions k (inr (inl h)) =
    let o : Option Variable = slice_get P.declarations.vars k.0 in
    array_at P p k.0 h.0 (both_true (list_any (is_mention_of k) mentions) (covers_some_array P.declarations p k.0 h.0 o) h.1).1
used_at P p mentions k (inr (inr (inl h))) =
    let found = group_use_at P p mentions k h.0 h.1 in
    record { variable = found.variable; covered = found.covered; made = inl found.plain }
used_at P p mentions k (inr (inr (inr h))) =
    let found = auto_use_at P p mentions k h.0 h.1 in
    record { variable = found.variable; covered = found.covered; made = inr (found.class, found.of_class, found.is_auto, found.made) }

-- what is given by reference: a scalar, an array or a place of a user type
pub passed_cases : (uses : Uses) (e : Expr) → ((is_passable uses e && covers_expr uses e) || (covers_array uses e || covers_place uses e)) ≡ true
    → (covers_expr uses e ≡ true) ⊎ ((covers_array uses e ≡ true) ⊎ (covers_place uses e ≡ true))
passed_cases uses e h = by (or_cases (is_passable uses e && covers_expr uses e) (covers_array uses e || covers_place uses e) h)
  where
    by : ((is_passable uses e && covers_expr uses e) ≡ true) ⊎ ((covers_array uses e || covers_place uses e) ≡ true)
        → (covers_expr uses e ≡ true) ⊎ ((covers_array uses e ≡ true) ⊎ (covers_place uses e ≡ true))
    by (inl c) = inl (both_true (is_passable uses e) (covers_expr uses e) c).1
    by (inr c) = inr (or_cases (covers_array uses e) (covers_place uses e) c)

module _ (P : Program) (S : Scope) (same : S.declarations ≡ P.declarations) (p : ℕ) (v : VarId) (q : Bool) (y : Variable) (is : IsCoveredAt P p v.0 y) where
  abbrev path_of : Path
  path_of = owner_path S q y.name y.owner

  at : slice_get S.declarations.vars v.0 ≡ Some y
  at = ap (λ (d : tree.Declarations). slice_get d.vars v.0) same ∙ is.0

  -- where a variable is set, it is written as its path
  pub target_path : (ty : Ty) → target_exp S (typed ty (variable v q)) ≡ net.path path_of
  target_path ty = ap (λ (o : Option Variable). net.path (variable_path_of S q o)) at

  exp_by : (ty : Ty) (o : Option ℕ) → auto_class (Some y) ≡ o → exp_of S (typed ty (variable v q)) ≡ made_if S.declarations o (net.path path_of)
  exp_by ty o auto =
      ap (λ (o : Option Variable). made_if S.declarations (auto_class o) (net.path (variable_path_of S q o))) at
      ∙ ap (λ (o : Option ℕ). made_if S.declarations o (net.path path_of)) auto

  -- a use of it is written so too, where it makes no object
  pub variable_exp : (ty : Ty) → y.auto ≡ false → exp_of S (typed ty (variable v q)) ≡ net.path path_of
  variable_exp ty plain = exp_by ty None (ap (λ (c : Bool). cond c (class_in y.ty) None) plain)

  -- and else as a call of the function of its class with the path
  pub auto_exp : (ty : Ty) (class : ℕ) → y.ty ≡ types.class class → y.auto ≡ true
      → exp_of S (typed ty (variable v q)) ≡ support_call (auto_name S.declarations class) (one (net.path path_of))
  auto_exp ty class of_class auto =
      exp_by ty (Some class) (ap (λ (c : Bool). cond c (class_in y.ty) None) auto ∙ ap class_in of_class)

  -- so it names what its path does
  pub use_counted : (ty : Ty) → IsMadeOf P y → (count : Path → ℕ) → ((name : List ℕ) → count (support name) ≡ 0)
      → names count (exp_of S (typed ty (variable v q))) ≡ count path_of
  use_counted ty (inl plain) count no_support = ap (names count) (variable_exp ty plain)
  use_counted ty (inr auto) count no_support =
      let none = no_support (auto_name S.declarations auto.0) in
      let written = ap (names count) (auto_exp ty auto.0 auto.1 auto.2) in
      omega (arith, none, written)

-- a name alone, or one behind the name of a module that isn't reserved
abbrev pub IsVariablePath : Path → Type 0
IsVariablePath [] = ⊥
IsVariablePath (name ∷ []) = Unit {0}
IsVariablePath (outer ∷ name ∷ more) = is_reserved outer ≡ false

-- the name of the module of a variable to which names lead isn't reserved
pub module_free : (D : tree.Declarations) (p k file : ℕ) (name : List ℕ) → names_lead D p k name file ≡ true → is_reserved (module_name D file) ≡ false
module_free D p k file name h =
    let free = both_true (is_standard_module (module_at D.project file) && not (is_reserved (module_name D file)))
    (leads_to_home D p k name file (position (λ (m : Module). nat_eq m.file file) D.project.modules)) h in
    not_true (is_reserved (module_name D file)) (both_true (is_standard_module (module_at D.project file)) (not (is_reserved (module_name D file))) free.0).1

-- so are all, where no name is
pub modules_free : (D : tree.Declarations) → covers_names D ≡ true → (file : ℕ) → is_reserved (module_name D file) ≡ false
modules_free D h file = by D.project.modules (both_true (list_all (λ (m : Module). is_free_name m.name) D.project.modules) rest h).0
  where
    rest : Bool
    rest =
        list_all (λ (x : Variable). is_free_name x.name) D.vars
        && (list_all (λ (c : Constant). is_free_name c.name) D.consts && list_all (λ (q : Procedure). is_free_name q.name) D.procs)

    by : (ms : List Module) → list_all (λ (m : Module). is_free_name m.name) ms ≡ true
        → is_reserved (name_in (find (λ (m : Module). nat_eq m.file file) ms)) ≡ false
    by [] e = refl
    by (m ∷ ms) e =
        let both = both_true (is_free_name m.name) (list_all (λ (m : Module). is_free_name m.name) ms) e in
        found (nat_eq m.file file) (not_true (is_reserved m.name) both.0) (by ms both.1)
      where
        found : (b : Bool) → is_reserved m.name ≡ false → is_reserved (name_in (find (λ (m : Module). nat_eq m.file file) ms)) ≡ false
            → is_reserved (name_in (cond b (Some m) (find (λ (m : Module). nat_eq m.file file) ms))) ≡ false
        found true h more = h
        found false h more = more

module_path : (b : Bool) (outer name : List ℕ) → is_reserved outer ≡ false → IsVariablePath (cond b (outer ∷ name ∷ []) (name ∷ []))
module_path true outer name h = h
module_path false outer name h = tt

pub path_is : (P : Program) (S : Scope) → S.declarations ≡ P.declarations → covers_names P.declarations ≡ true → (p k : ℕ) (q : Bool) (y : Variable) → IsCoveredAt P p k y
    → IsVariablePath (owner_path S q y.name y.owner)
path_is P S same free p k q y is = by y.owner is.1 is.2
  where
    by : (o : Owner) → is_reached P.declarations p k y.name o ≡ true → covers_owner o ≡ true → IsVariablePath (owner_path S q y.name o)
    by (owner.Module file) h c =
        module_path (q || is_foreign S.declarations S.file file) (module_name S.declarations file) y.name
        (ap (λ (d : tree.Declarations). is_reserved (module_name d file)) same ∙ modules_free P.declarations free file)
    by (owner.Local q) h c = tt
    by (owner.Static q) h c = tt
    by (owner.Value q) h c = tt
    by (owner.Reference q) h c = tt
    by (owner.Answer q) h c = tt
    by (owner.Field t) h c = absurd (cc c)

-- fields stand behind the path of a variable of a user type alone
abbrev pub Suits : Variable → List (List ℕ) → Type 0
Suits y rest = (rest ≡ []) ⊎ (is_group_type y.ty ≡ true)

or_true : (a b : Bool) → b ≡ true → (a || b) ≡ true
or_true true b h = refl
or_true false b h = h

same_units : (xs ys : List ℕ) → pointwise nat_eq xs ys ≡ true → xs ≡ ys
same_units xs ys h = (bytes_decides xs ys).0 h

-- it is named where it is used
pub same_itself : (xs : List ℕ) → pointwise nat_eq xs xs ≡ true
same_itself [] = refl
same_itself (x ∷ xs) = ap {B = Bool} (λ c. c && pointwise nat_eq xs xs) (eq-eqb x x refl) ∙ same_itself xs

same_turned : (xs ys : List ℕ) → pointwise nat_eq xs ys ≡ true → pointwise nat_eq ys xs ≡ true
same_turned [] [] h = refl
same_turned [] (y ∷ ys) h = absurd (cc h)
same_turned (x ∷ xs) [] h = absurd (cc h)
same_turned (x ∷ xs) (y ∷ ys) h =
    let b = both_true (nat_eq x y) (pointwise nat_eq xs ys) h in
    ap {B = Bool} (λ c. c && pointwise nat_eq ys xs) (eq-eqb y x (sym (eqb-true x y b.0))) ∙ same_turned xs ys b.1

-- a name that no variable of the procedure has
pub foreign_name : (p : ℕ) (name : List ℕ) (xs : List Variable) (i : ℕ) (x : Variable)
    → list_all (λ (x : Variable). not (belongs_to p x.owner && is_same_name x.name name)) xs ≡ true → slice_get xs i ≡ Some x → belongs_to p x.owner ≡ true
    → is_same_name x.name name ≡ false
foreign_name p name [] i x h e own = absurd (cc e)
foreign_name p name (y ∷ ys) zero x h e own =
    let b = both_true (not (belongs_to p y.owner && is_same_name y.name name)) (list_all (λ (x : Variable). not (belongs_to p x.owner && is_same_name x.name name)) ys) h in
    let here : not (belongs_to p x.owner && is_same_name x.name name) ≡ true =
    ap (λ (z : Variable). not (belongs_to p z.owner && is_same_name z.name name)) (sym (some_same y x e)) ∙ b.0 in
    not_true (is_same_name x.name name) (sym (ap {B = Bool} (λ c. not (c && is_same_name x.name name)) own) ∙ here)
foreign_name p name (y ∷ ys) (suc i) x h e own =
    foreign_name p name ys i x
    (both_true (not (belongs_to p y.owner && is_same_name y.name name)) (list_all (λ (x : Variable). not (belongs_to p x.owner && is_same_name x.name name)) ys) h).1 e own

pub turned_false : (a b : List ℕ) → is_same_name a b ≡ false → is_same_name b a ≡ false
turned_false a b h =
    by_test (is_same_name b a) (λ c. c ≡ false) (λ c. absurd (cc (sym (same_turned (lower_case b) (lower_case a) c) ∙ h))) (λ c. refl)

-- ---- names of modules

pub one_of : (a b : Bool) → (a ≡ true → b ≡ true → ⊥) → ◌≡◌ {A = ℕ} (cond (a && b) 1 0) 0
one_of true true h = absurd (h refl refl)
one_of true false h = refl
one_of false b h = refl

find_named : (test : Module → Bool) (ms : List Module) (name : List ℕ) → is_same_name [] name ≡ false → is_same_name (name_in (find test ms)) name ≡ true
    → list_any (λ (m : Module). is_same_name m.name name) ms ≡ true
find_named test [] name none h = absurd (cc (sym none ∙ h))
find_named test (m ∷ ms) name none h = by (test m) h (find_named test ms name none)
  where
    by : (b : Bool) → is_same_name (name_in (cond b (Some m) (find test ms))) name ≡ true
        → (is_same_name (name_in (find test ms)) name ≡ true → list_any (λ (m : Module). is_same_name m.name name) ms ≡ true)
        → list_any (λ (m : Module). is_same_name m.name name) (m ∷ ms) ≡ true
    by true e more = ap {B = Bool} (λ c. c || list_any (λ (m : Module). is_same_name m.name name) ms) e
    by false e more = or_true (is_same_name m.name name) (list_any (λ (m : Module). is_same_name m.name name) ms) (more e)

-- a name of a module, and a reserved one, isn't the first of a variable's path
pub module_outer : (D : tree.Declarations) (file : ℕ) (name : List ℕ) → is_outer D name ≡ false → is_same_name (module_name D file) name ≡ true → ⊥
module_outer D file [] free h = cc free
module_outer D file (c ∷ cs) free h =
    let any = list_any (λ (m : Module). is_same_name m.name (c ∷ cs)) D.project.modules in
    let found : any ≡ true = find_named (λ (m : Module). nat_eq m.file file) D.project.modules (c ∷ cs) refl h in
    cc (sym free ∙ or_true (is_reserved (c ∷ cs)) any found)

pub reserved_outer : (D : tree.Declarations) (name : List ℕ) → is_outer D name ≡ false → is_reserved name ≡ true → ⊥
reserved_outer D [] free h = cc free
reserved_outer D (c ∷ cs) free h =
    cc (sym free ∙ ap {B = Bool} (λ b. b || list_any (λ (m : Module). is_same_name m.name (c ∷ cs)) D.project.modules) h)

pub name_reserved : (word name : List ℕ) → is_reserved word ≡ true → is_same_name word name ≡ true → is_reserved name ≡ true
name_reserved word name h e =
    let lower : lower_case name ≡ lower_case word = sym (same_units (lower_case word) (lower_case name) e) in
    ap (λ (l : List ℕ). pointwise nat_eq l (lower_case (codes "UpgradeSupport")) || pointwise nat_eq l (lower_case (codes "System"))
    || pointwise nat_eq l (lower_case (codes "Microsoft"))) lower ∙ h
