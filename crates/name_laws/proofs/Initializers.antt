-- What is written for a class begins its objects by what is written for its Class_Initialize.
use Rattle.std.proofs.Common.{◌≡◌, refl, ap, sym, ◌∙◌, ℕ, suc, ◌+◌, arith, Bool, true, false, cond, not, ◌&&◌, nat_eq, List, [], ◌∷◌, ◌++◌, codes, Option, Some, None, slice_get}
use Rattle.std.specs.Prelude.{is_some, option_and_then}
use Rattle.std.specs.Cmp.Lexicographic.{pointwise}
use Rattle.std.specs.List.{list_all}
use Rattle.up_base.specs.Names.{is_same_name, lower_case}
use Rattle.vb_tree.specs.declared.declared.ProcKind.{ProcKind}
use Rattle.vb_tree.specs.declared.declared.ProcKind.TheVariants as kind
use Rattle.vb_tree.specs.declared.value.Value6.{Value6}
use Rattle.vb_tree.specs.Tree.{Member, Nodes}
use Rattle.bound_tree.specs.Tree.{Constant, Declarations, Procedure, Program}
use Rattle.bound_facts.specs.Members.{class_files, class_sub, initializer, is_sub, is_sub_named, sub_from}
use Rattle.net_tree.specs.declared.declaration.NetClose.TheVariants.{EndFunction, EndSub}
use Rattle.net_tree.specs.declared.declaration.NetVisibility.{NetVisibility}
use Rattle.net_tree.specs.Tree as net
use Rattle.run_base.specs.Machines.{enters}
use Rattle.run_base.specs.Outcomes.{gives, then}
use Rattle.written_trees.specs.Arguments.{is_property_kind}
use Rattle.written_trees.specs.Bodies.{procedure_with}
use Rattle.written_trees.specs.Comments.{Comment}
use Rattle.written_trees.specs.DeclaredMembers.{constant_by, module_constant}
use Rattle.written_trees.specs.Heads.{head_of, is_function, params_of, result_type, written_visibility}
use Rattle.written_trees.specs.Members.{plain_member, written_members}
use Rattle.written_trees.specs.Names.{Scope, first_name}
use Rattle.written_trees.specs.Placing.{Numbers, Placed, placed_members}
use Rattle.written_trees.specs.Projects.{has_initializer, maker, makers, module_scope, written_module}
use Rattle.written_trees.specs.Prologues.{sound_value}
use Rattle.net_run.specs.Making as making
use Rattle.net_run.specs.Making.{Jobs, initialized, initialized_by, initializer_at, initializer_of}
use Rattle.net_run.specs.Members.{is_head_named, is_member_named, is_new, is_new_head}
use Rattle.net_run.specs.Shapes.{first_from, members_of, module_at}
use Rattle.net_run.specs.Store as net_store
use Rattle.run_matches.specs.Callees.{is_once, names_in}
use Rattle.run_matches.specs.Covered.{is_method_site}
use Rattle.run_matches.specs.CoveredExprs.{is_number}
use Rattle.run_matches.specs.Shared.{member_names, member_owns}
use Rattle.run_matches.specs.Sites.{Site, site_of}
use Rattle.run_matches.specs.Upgrades.{Upgrade, class_home, home_of}
use Rattle.run_statements.specs.Frames.{written_initialized}
use Rattle.run_statements.specs.Written.{IsWritten, WrittenProcedure}
use Rattle.name_laws.specs.Objects.{InitializersAreFound, NothingInitializes}
use Rattle.name_laws.proofs.CodeMembers.{member_found, members_are, number_is}
use Rattle.name_laws.proofs.Found.{MethodTest, method_test}
use Rattle.name_laws.proofs.Homes.{HomeModule, home_module}
use Rattle.name_laws.proofs.Lists.{and_true, both_true, same_numbers, some_same}
use Rattle.name_laws.proofs.Looked.{first_none}
use Rattle.name_laws.proofs.Others.{all_by, members_pass}

-- ---- a name that is the same without case

-- the first Sub of a name is one, and has the name
sub_named : (file : ℕ) (name : List ℕ) (k : ℕ) (ps : List Procedure) (q : ℕ) → sub_from file name k ps ≡ Some q
    → (i : ℕ) × (q ≡ k + i) × (p : Procedure) × (slice_get ps i ≡ Some p) × (is_sub p.kind ≡ true) × (is_same_name p.name name ≡ true)
sub_named file name k [] q e = absurd (cc e)
sub_named file name k (p ∷ ps) q e = by (is_sub_named file name p) refl e (λ h. sub_named file name (suc k) ps q h)
  where
    here : k ≡ k + 0
    here = omega arith

    further : (i : ℕ) → q ≡ suc k + i → q ≡ k + suc i
    further i h = omega (arith, h)

    by : (b : Bool) → is_sub_named file name p ≡ b → cond b (Some k) (sub_from file name (suc k) ps) ≡ Some q
        → (sub_from file name (suc k) ps ≡ Some q
        → (i : ℕ) × (q ≡ suc k + i) × (z : Procedure) × (slice_get ps i ≡ Some z) × (is_sub z.kind ≡ true) × (is_same_name z.name name ≡ true))
        → (i : ℕ) × (q ≡ k + i) × (z : Procedure) × (slice_get (p ∷ ps) i ≡ Some z) × (is_sub z.kind ≡ true) × (is_same_name z.name name ≡ true)
    by true t h more =
        let a = both_true (nat_eq p.module_number file) (is_sub p.kind && is_same_name p.name name) t in
        let b = both_true (is_sub p.kind) (is_same_name p.name name) a.1 in
        (0, sym (some_same k q h) ∙ here, p, refl, b.0, b.1)
    by false t h more = let m = more h in (suc m.0, further m.0 m.1, m.2, m.3, m.4, m.5)

plain_sub : (k : ProcKind) → is_sub k ≡ true → is_property_kind k ≡ false
plain_sub kind.Sub h = refl
plain_sub kind.Function h = absurd (cc h)
plain_sub kind.Get h = absurd (cc h)
plain_sub kind.Let h = absurd (cc h)
plain_sub kind.Set h = absurd (cc h)

same_member : (a b : List ℕ) → lower_case a ≡ lower_case b → (m : net.Member) → is_member_named a m ≡ is_member_named b m
same_member a b e (net.member_comment units) = refl
same_member a b e (net.variable visibility v) = ap (pointwise nat_eq (lower_case v.name)) e
same_member a b e (net.const_member visibility c) = ap (pointwise nat_eq (lower_case c.name)) e
same_member a b e (net.structure s) = refl
same_member a b e (net.property p) = ap (pointwise nat_eq (lower_case p.name)) e
same_member a b e (net.proc p) = by p.head
  where
    by : (h : net.Head) → is_head_named a h ≡ is_head_named b h
    by (net.sub visibility name params) = ap (pointwise nat_eq (lower_case name)) e
    by (net.function visibility name params ty) = ap (pointwise nat_eq (lower_case name)) e
    by net.sub_new = refl
    by net.get_part = refl
    by (net.set_part name ty) = refl

same_first : {X : Type 0} (f g : X → Bool) → ((x : X) → f x ≡ g x) → (k : ℕ) (xs : List X) → first_from f k xs ≡ first_from g k xs
same_first f g same k [] = refl
same_first f g same k (x ∷ xs) =
    ap (λ b. cond b (Some (k, x)) (first_from f (suc k) xs)) (same x) ∙ ap (λ o. cond (g x) (Some (k, x)) o) (same_first f g same (suc k) xs)

-- ---- no other Sub New is written

module _ (P : Program) (S : Scope) where
  abbrev test : net.Member → Bool
  test m = not (is_new m)

  constant_old : (seen : NetVisibility) (c : ℕ × Constant) → test (module_constant S seen c) ≡ true
  constant_old seen c = by (sound_value S.facts c)
    where
      by : (x : Option Value6) → test (constant_by S seen c.1 x) ≡ true
      by None = refl
      by (Some x) = refl

  procedure_old : (p : Placed) (body : Nodes) (q : Procedure) (n : List ℕ) → test (plain_member P S p body q n) ≡ true
  procedure_old p body q n = by (is_function q.kind) (head_old (is_function q.kind))
    where
      head_old : (b : Bool)
          → not (is_new_head (cond b (net.function (written_visibility q.visibility) n (params_of S false q.params) (result_type S q))
          (net.sub (written_visibility q.visibility) n (params_of S false q.params)))) ≡ true
      head_old true = refl
      head_old false = refl

      by : (b : Bool) → not (is_new_head (head_of S q n)) ≡ true
          → test (net.proc (cond b (procedure_with P S p body (head_of S q n) EndFunction) (procedure_with P S p body (head_of S q n) EndSub))) ≡ true
      by true e = e
      by false e = e

  members_old : (at : Numbers) (cs : List Comment) (ms : List Member) → list_all test (written_members P S at cs ms) ≡ true
  members_old at cs ms =
      members_pass P S (λ o. true) (λ n. true) test (λ seen v e h. refl) (λ seen c h. constant_old seen c) (λ u. refl) (λ s. refl)
      (λ p body q n h. procedure_old p body q n) (λ q n get set h. refl) at cs ms
      (all_by (λ (p : Placed). list_all (λ o. true) (member_owns S.declarations S.file p p.member) && list_all (λ n. true) (member_names S.declarations p p.member))
      (placed_members at cs ms) (λ p m. and_true (list_all (λ o. true) (member_owns S.declarations S.file p p.member))
      (list_all (λ n. true) (member_names S.declarations p p.member)) (all_by (λ o. true) (member_owns S.declarations S.file p p.member) (λ o a. refl))
      (all_by (λ n. true) (member_names S.declarations p p.member) (λ n a. refl))))

-- ---- where a class has a Class_Initialize

module _ (U : Upgrade) (I : IsWritten U) (q class home : ℕ) (t : Site) (y : Procedure) (V : WrittenProcedure U q t y)
    (is_site : site_of U.program.declarations q ≡ Some t) (is_procedure : slice_get U.program.declarations.procs q ≡ Some y)
    (is : initializer U.program.declarations class ≡ Some q) (h : is_method_site U.program.declarations class y (Some t) ≡ true)
    (is_home : class_home U class ≡ Some home) where
  abbrev D : Declarations
  D = U.program.declarations

  abbrev N : net.Project
  N = U.written

  abbrev name : List ℕ
  name = codes "Class_Initialize"

  m : MethodTest D class y t
  m = method_test D class y t h

  sub_is : sub_from y.module_number name 0 D.procs ≡ Some q
  sub_is = sym (ap (class_sub D name) m.is_file) ∙ is

  is_named_sub : (is_sub y.kind ≡ true) × (is_same_name y.name name ≡ true)
  is_named_sub =
      let s = sub_named y.module_number name 0 D.procs q sub_is in
      let number : s.0 ≡ q = (let e = s.1 in omega (arith, e)) in
      let same : s.2 ≡ y = some_same s.2 y (sym s.3 ∙ ap (slice_get D.procs) number ∙ is_procedure) in
      (ap (λ (z : Procedure). is_sub z.kind) (sym same) ∙ s.4, ap (λ (z : Procedure). is_same_name z.name name) (sym same) ∙ s.5)

  alike : lower_case y.name ≡ lower_case name
  alike = same_numbers (lower_case y.name) (lower_case name) is_named_sub.1

  at : home ≡ t.home
  at =
      some_same home t.home
      (sym (ap (home_of U) m.stands ∙ ap (option_and_then (home_of U)) (sym m.is_file) ∙ is_home) ∙ I.homes q t is_site)

  abbrev w : net.Module
  w = written_module U.program U.facts V.numbers t.source_module

  members : members_of (module_at N home) ≡ w.members
  members = ap (λ n. members_of (module_at N n)) at ∙ members_are U I t.home w V.is_module

  is_class : t.source_module.class ≡ true
  is_class =
      let own = pointwise nat_eq (first_name D (Some y)) y.name && is_once y.name (names_in D t.home) in
      (both_true t.source_module.class own
      (both_true (is_number y.module_number (slice_get (class_files D.project) class) && nat_eq t.source_module.file y.module_number)
      (t.source_module.class && own) h).1).0

  has : has_initializer D t.source_module.file t.source_module ≡ true
  has =
      ap (λ b. b && is_some (sub_from t.source_module.file name 0 D.procs)) is_class
      ∙ ap (λ f. is_some (sub_from f name 0 D.procs)) m.stands ∙ ap is_some sub_is

  -- the first of its members is a Sub New
  abbrev rest : List net.Member
  rest = written_members U.program (module_scope U.program U.facts t.source_module) V.numbers t.source_module.comments t.source_module.members

  made : members_of (module_at N home) ≡ net.proc maker ∷ rest
  made = members ∙ ap (λ b. makers b ++ rest) has

  found : initializer_of N home ≡ Some V.number
  found =
      ap (λ n. initializer_of N n) at
      ∙ ap (initializer_at N t.home)
      (same_first (is_member_named making.initializer) (is_member_named y.name) (same_member making.initializer y.name (sym alike)) 0
      (members_of (module_at N t.home)) ∙ member_found U I q t y V m.once)
      ∙ number_is U I q t y V false (V.alone (plain_sub y.kind is_named_sub.0)).sets

  pub initializer_found : (oracle : Jobs) (o : ℕ) (s : net_store.Memory)
      → written_initialized U home oracle o s ≡ then (oracle (enters V.number (Some o) tt []) s) (λ x s. gives [] tt s)
  initializer_found oracle o s =
      ap (λ ms. initialized N oracle home o (first_from is_new 0 ms) s) made ∙ ap (λ n. initialized_by oracle o n s) found

-- ---- where it has none

module _ (U : Upgrade) (I : IsWritten U) (class home : ℕ) (is_home : class_home U class ≡ Some home)
    (is : initializer U.program.declarations class ≡ None) where
  none_new : (file : ℕ) → slice_get (class_files U.program.declarations.project) class ≡ Some file → home_of U file ≡ Some home
      → first_from is_new 0 (members_of (module_at U.written home)) ≡ None
  none_new file f e =
      let M : HomeModule U file home = home_module U I file home e in
      let S : Scope = module_scope U.program U.facts M.source in
      let none : sub_from M.source.file (codes "Class_Initialize") 0 U.program.declarations.procs ≡ None =
      ap (λ n. sub_from n (codes "Class_Initialize") 0 U.program.declarations.procs) M.is_file ∙ sym (ap (class_sub U.program.declarations (codes "Class_Initialize")) f) ∙ is in
      let has : has_initializer U.program.declarations M.source.file M.source ≡ false =
      ap (λ o. M.source.class && is_some o) none ∙ and_false M.source.class in
      let rest = written_members U.program S M.numbers M.source.comments M.source.members in
      ap (λ o. first_from is_new 0 (members_of o)) M.is_written ∙ ap (λ b. first_from is_new 0 (makers b ++ rest)) has
      ∙ first_none is_new 0 rest (members_old U.program S M.numbers M.source.comments M.source.members)
    where
      and_false : (b : Bool) → (b && false) ≡ false
      and_false true = refl
      and_false false = refl

  pub nothing_called : (oracle : Jobs) (o : ℕ) (s : net_store.Memory) → written_initialized U home oracle o s ≡ gives [] tt s
  nothing_called oracle o s = ap (λ z. initialized U.written oracle home o z s) (by (slice_get (class_files U.program.declarations.project) class) refl is_home)
    where
      by : (z : Option ℕ) → slice_get (class_files U.program.declarations.project) class ≡ z → option_and_then (home_of U) z ≡ Some home
          → first_from is_new 0 (members_of (module_at U.written home)) ≡ None
      by None f e = absurd (cc e)
      by (Some file) f e = none_new file f e

-- ---- the laws

pub initializers_are_found : (U : Upgrade) → IsWritten U → InitializersAreFound U
initializers_are_found U I q class home t y V is_site is_procedure is h is_home oracle o w =
    initializer_found U I q class home t y V is_site is_procedure is h is_home oracle o w

pub nothing_initializes : (U : Upgrade) → IsWritten U → NothingInitializes U
nothing_initializes U I class home is_home is oracle o w = nothing_called U I class home is_home is oracle o w
