-- The variables of a class are written in their order among its members, each under a key of its own.
use Rattle.std.proofs.Common.{◌≡◌, ◌⊎◌, inl, inr, refl, ap, sym, subst, ◌∙◌, ℕ, zero, suc, ◌+◌, ◌<◌, arith, Bool, true, false, cond, not, ◌&&◌, true≢false, List, [], ◌∷◌, ◌++◌, length, Option, Some, None, option_map, slice_get, append_assoc, ⊎_elim}
use Rattle.std.specs.Prelude.{is_some, option_and_then}
use Rattle.std.specs.List.{list_all}
use Rattle.std.proofs.lemmas.Bool.{ltb-true}
use Rattle.up_base.specs.Names.{is_same_name}
use Rattle.vb_tree.specs.declared.declared.Owner.TheVariants as owner
use Rattle.bound_tree.specs.Tree.{Declarations, Variable}
use Rattle.bound_facts.specs.Members.{class_files, is_of_module, terminator, variables_from}
use Rattle.net_tree.specs.declared.declaration.NetVisibility.{NetVisibility}
use Rattle.net_tree.specs.Tree as net
use Rattle.written_trees.specs.DeclaredMembers.{module_variable}
use Rattle.written_trees.specs.Names.{Scope}
use Rattle.written_trees.specs.Placing.{Placed, placed_members}
use Rattle.written_trees.specs.Projects.{has_initializer, module_scope, written_module}
use Rattle.written_trees.specs.Prologues.{object_variable, one_if, written_variable}
use Rattle.net_run.specs.Members.{is_member_named, member_named}
use Rattle.net_run.specs.Names.{key_of}
use Rattle.net_run.specs.Shapes.{members_of, module_at}
use Rattle.vb6_run.specs.Programs.{owned_from}
use Rattle.run_matches.specs.Callees.{count_named, is_once, names_in}
use Rattle.run_matches.specs.CoveredVariables.{covers_class, covers_class_file, covers_declared, covers_made_file, covers_made_variable, declared_numbers, declares_in_order, has_extents, declares_variables, declares_variables_at, declares_variables_in, has_own_name}
use Rattle.run_matches.specs.Shared as shared_names
use Rattle.run_matches.specs.Shared.{others_differ, placed_module}
use Rattle.run_matches.specs.UserTypes.{is_user}
use Rattle.run_matches.specs.Upgrades.{Upgrade, declared_key, home_of, member_key, owned_key, variable_key}
use Rattle.run_statements.specs.Objects.{AreWritten, ClassesAreWritten, IsWrittenAs, none_written, other_member, stands_for_none, variable_written}
use Rattle.run_statements.specs.Written.{IsWritten}
use Rattle.name_laws.proofs.ClassTypes.{ClassLed, class_led}
use Rattle.name_laws.proofs.Codes.{module_is}
use Rattle.name_laws.proofs.Counting.{count_append, count_of, first_found}
use Rattle.name_laws.proofs.FieldWords.{field_written, object_begins}
use Rattle.name_laws.proofs.CodeMembers.{from_start, members_most}
use Rattle.name_laws.proofs.Homes.{HomeModule, home_module, same_file}
use Rattle.name_laws.proofs.Laid.{Laid, constant_laid, members_laid, nothing_laid, other_laid, variable_laid}
use Rattle.name_laws.proofs.Led.{differing}
use Rattle.name_laws.proofs.Lists.{Among, all_among, all_at, both_true, same_number, same_numbers, some_same}
use Rattle.name_laws.proofs.Looked.{name_joined, name_self}
use Rattle.name_laws.proofs.MemberKeys.{KeyParts, key_parts}
use Rattle.name_laws.proofs.Members.{module_owned, owner_is}
use Rattle.name_laws.proofs.Owned.{owned_is}
use Rattle.name_laws.proofs.Owns.{own_covers}
use Rattle.name_laws.proofs.Reached.{written_name}
use Rattle.name_laws.proofs.Standing.{first_stands, found_same}

-- ---- lists

at_length : {X : Type 0} (before : List X) (m : X) (ms : List X) → slice_get (before ++ m ∷ ms) (length before) ≡ Some m
at_length [] m ms = refl
at_length (x ∷ before) m ms = at_length before m ms

one_longer : {X : Type 0} (before : List X) (m : X) → length (before ++ m ∷ []) ≡ suc (length before)
one_longer [] m = refl
one_longer (x ∷ before) m = ap suc (one_longer before m)

more_count : {X : Type 0} (test : X → Bool) (before : List X) (m : X) → 0 < count_of test before → 0 < count_of test (before ++ m ∷ [])
more_count test before m h = let n = count_append test before (m ∷ []) in omega (arith, h, n)

last_count : {X : Type 0} (test : X → Bool) (before : List X) (m : X) → test m ≡ true → 0 < count_of test (before ++ m ∷ [])
last_count test before m h = let n = count_append test before (m ∷ []) in let one = ap one_if h in omega (arith, n, one)

-- a variable of a module is among those of the module
listed : (file k : ℕ) (xs : List Variable) (i : ℕ) (x : Variable) → slice_get xs i ≡ Some x → is_of_module file x.owner ≡ true
    → Among (variables_from file k xs) (k + i)
listed file k [] i x e h = absurd (cc e)
listed file k (y ∷ ys) zero x e h =
    let here : k ≡ k + 0 = omega arith in
    subst (λ b. Among (cond b (k ∷ variables_from file (suc k) ys) (variables_from file (suc k) ys)) (k + 0))
    (sym (ap (λ (z : Variable). is_of_module file z.owner) (some_same y x e) ∙ h)) (inl here)
listed file k (y ∷ ys) (suc i) x e h =
    let further : suc k + i ≡ k + suc i = omega arith in
    by (is_of_module file y.owner) (subst (λ n. Among (variables_from file (suc k) ys) n) further (listed file (suc k) ys i x e h))
  where
    by : (b : Bool) → Among (variables_from file (suc k) ys) (k + suc i)
        → Among (cond b (k ∷ variables_from file (suc k) ys) (variables_from file (suc k) ys)) (k + suc i)
    by true a = inr a
    by false a = a

-- ---- what the tests say of a variable of a class

record FieldOf (U : Upgrade) (file home v : ℕ) : Type 0 where
  variable : Variable
  is_variable : slice_get U.program.declarations.vars v ≡ Some variable
  is_owner : variable.owner ≡ owner.Module file
  once : count_named variable.name (names_in U.program.declarations home) < 2
  others : others_differ (shared_names.is_of_module file) v variable.name 0 U.program.declarations.vars ≡ true
  covers : covers_declared U.program.declarations variable ≡ true
  no_user : not (is_user variable.ty) ≡ true

module _ (U : Upgrade) (I : IsWritten U) (class file home : ℕ) (is_file : slice_get (class_files U.program.declarations.project) class ≡ Some file)
    (at : home_of U file ≡ Some home) (M : HomeModule U file home)
    (named : list_all (λ (v : ℕ). has_own_name U.program.declarations file home v (slice_get U.program.declarations.vars v))
    (variables_from file 0 U.program.declarations.vars) ≡ true)
    (covered : covers_made_file U.program.declarations (Some file) ≡ true) (dims : has_extents U.program ≡ true) where
  abbrev D : Declarations
  D = U.program.declarations

  abbrev S : Scope
  S = module_scope U.program U.facts M.source

  abbrev w : net.Module
  w = written_module U.program U.facts M.numbers M.source

  abbrev all : List ℕ
  all = variables_from file 0 D.vars

  field_of : (v : ℕ) → Among all v → FieldOf U file home v
  field_of v a =
      by (slice_get D.vars v) refl (all_among (λ (v : ℕ). has_own_name D file home v (slice_get D.vars v)) all v named a)
    where
      by : (o : Option Variable) → slice_get D.vars v ≡ o → has_own_name D file home v o ≡ true → FieldOf U file home v
      by None e h = absurd (cc h)
      by (Some x) e h =
          let b = both_true (is_once x.name (names_in D home)) (others_differ (shared_names.is_of_module file) v x.name 0 D.vars) h in
          let own : Among (owned_from (is_of_module file) 0 D.vars) v = subst (λ (ns : List ℕ). Among ns v) (module_owned file 0 D.vars) a in
          let made =
          both_true (covers_declared D x) (not (is_user x.ty))
          (own_covers (shared_names.is_of_module file x.owner) (covers_made_variable D x)
          (all_at (λ (x : Variable). cond (shared_names.is_of_module file x.owner) (covers_made_variable D x) true) D.vars v x covered e)
          (ap (shared_names.is_of_module file) (owner_is file x.owner (owned_is (is_of_module file) D.vars v x own e)) ∙ same_number file file refl)) in
          let of : x.owner ≡ owner.Module file = owner_is file x.owner (owned_is (is_of_module file) D.vars v x own e) in
          record {
            variable = x;
            is_variable = e;
            is_owner = of;
            once = ltb-true (count_named x.name (names_in D home)) 2 b.0;
            others = b.1;
            covers = made.0;
            no_user = made.1;
          }

  members_are : members_of (module_at U.written home) ≡ w.members
  members_are = ap members_of M.is_written

  single : (v : ℕ) (F : FieldOf U file home v) → count_of (is_member_named F.variable.name) w.members < 2
  single v F =
      let most = members_most U I home w F.variable.name (sym (module_is U.written.modules home) ∙ M.is_written) in
      let once = F.once in
      omega (arith, most, once)

  -- ---- each variable has a member of its name

  own_name : (v : ℕ) (x : Variable) (seen : NetVisibility) → is_member_named x.name (module_variable S seen (v, x)) ≡ true
  own_name v x seen = ap (λ n. is_same_name n x.name) (written_name S (v, x)) ∙ name_self x.name

  up : (b : Bool) (n : ℕ) → 0 < n → 0 < one_if b + n
  up b n h = omega (arith, h)

  first_up : (b : Bool) (n : ℕ) → b ≡ true → 0 < one_if b + n
  first_up b n h = let one = ap one_if h in omega (arith, one)

  laid_named : (vs : List ℕ) (ms : List net.Member) → Laid S vs ms → (u : ℕ) → Among vs u → (z : Variable) → slice_get D.vars u ≡ Some z
      → 0 < count_of (is_member_named z.name) ms
  laid_named _ _ nothing_laid u a z e = absurd a
  laid_named _ _ (other_laid vs m ms k more) u a z e =
      up (is_member_named z.name m) (count_of (is_member_named z.name) ms) (laid_named vs ms more u a z e)
  laid_named _ _ (constant_laid vs seen name ms more) u a z e =
      up (is_member_named z.name (net.variable seen (object_variable name))) (count_of (is_member_named z.name) ms) (laid_named vs ms more u a z e)
  laid_named _ _ (variable_laid v vs seen x ms k more) u (inl n) z e =
      first_up (is_member_named z.name (module_variable S seen (v, x))) (count_of (is_member_named z.name) ms)
      (ap (λ (y : Variable). is_member_named y.name (module_variable S seen (v, x))) (sym (some_same x z (sym k ∙ ap (slice_get D.vars) n ∙ e)))
      ∙ own_name v x seen)
  laid_named _ _ (variable_laid v vs seen x ms k more) u (inr a) z e =
      up (is_member_named z.name (module_variable S seen (v, x))) (count_of (is_member_named z.name) ms) (laid_named vs ms more u a z e)

  -- each variable is among those to come, or a member before has its name
  abbrev Earlier : List net.Member → List ℕ → Type 0
  Earlier before vs =
      (u : ℕ) → Among all u → Among vs u ⊎ ((z : Variable) → slice_get D.vars u ≡ Some z → 0 < count_of (is_member_named z.name) before)

  further : (before : List net.Member) (m : net.Member) (vs : List ℕ) → Earlier before vs → Earlier (before ++ m ∷ []) vs
  further before m vs h u a =
      ⊎_elim inl (λ k. inr (λ z e. more_count (is_member_named z.name) before m (k z e))) (h u a)

  past_variable : (before : List net.Member) (v : ℕ) (vs : List ℕ) (seen : NetVisibility) (x : Variable) → slice_get D.vars v ≡ Some x
      → Earlier before (v ∷ vs) → Earlier (before ++ module_variable S seen (v, x) ∷ []) vs
  past_variable before v vs seen x is h u a = by (h u a)
    where
      m : net.Member
      m = module_variable S seen (v, x)

      by : Among (v ∷ vs) u ⊎ ((z : Variable) → slice_get D.vars u ≡ Some z → 0 < count_of (is_member_named z.name) before)
          → Among vs u ⊎ ((z : Variable) → slice_get D.vars u ≡ Some z
          → 0 < count_of (is_member_named z.name) (before ++ module_variable S seen (v, x) ∷ []))
      by (inl (inl n)) =
          inr (λ z e.
          last_count (is_member_named z.name) before (module_variable S seen (v, x))
          (ap (λ (y : Variable). is_member_named y.name (module_variable S seen (v, x))) (sym (some_same x z (sym is ∙ ap (slice_get D.vars) n ∙ e)))
          ∙ own_name v x seen))
      by (inl (inr b)) = inl b
      by (inr k) = inr (λ z e. more_count (is_member_named z.name) before (module_variable S seen (v, x)) (k z e))

  -- ---- a member among the others

  module _ (before : List net.Member) (m : net.Member) (ms : List net.Member) (parts : w.members ≡ before ++ m ∷ ms) (k : ℕ) (place : k ≡ length before) where
    total : (test : net.Member → Bool) → count_of test w.members ≡ count_of test before + (one_if (test m) + count_of test ms)
    total test = ap (count_of test) parts ∙ count_append test before (m ∷ ms)

    first_is : (v : ℕ) (F : FieldOf U file home v) → is_member_named F.variable.name m ≡ true
        → member_named F.variable.name (members_of (module_at U.written home)) ≡ Some (k, m)
    first_is v F h =
        ap (member_named F.variable.name) (members_are ∙ parts)
        ∙ first_found (is_member_named F.variable.name) 0 (before ++ m ∷ ms) (length before) m (at_length before m ms) h
        (subst (λ ns. count_of (is_member_named F.variable.name) ns < 2) parts (single v F))
        ∙ ap (λ n. Some (n, m)) (from_start (length before) ∙ sym place)

    key_is : (v : ℕ) (F : FieldOf U file home v) → is_member_named F.variable.name m ≡ true → variable_key U v ≡ Some (key_of home k)
    key_is v F h =
        ap (declared_key U) F.is_variable ∙ ap (owned_key U F.variable.name) F.is_owner ∙ ap (option_and_then (member_key U F.variable.name)) at
        ∙ ap (option_map (λ (found : ℕ × net.Member). key_of home found.0)) (first_is v F h)

    -- no other variable has the key
    key_differs : (v : ℕ) (F : FieldOf U file home v) (seen : NetVisibility) → m ≡ module_variable S seen (v, F.variable) → (u : ℕ)
        → variable_key U u ≡ Some (key_of home k) → v ≡ u
    key_differs v F seen is u e =
        let K : KeyParts U home k u = key_parts U home k u e in
        let x : Variable = F.variable in
        let own : is_member_named x.name m ≡ true = ap (is_member_named x.name) is ∙ own_name v x seen in
        let other : is_member_named K.variable.name m ≡ true =
        found_same (is_member_named x.name) (is_member_named K.variable.name) (members_of (module_at U.written home)) k (k, K.member) m (first_is v F own)
        K.is_first refl in
        let alike : is_same_name x.name K.variable.name ≡ true =
        ap (λ n. is_same_name n K.variable.name) (sym (written_name S (v, x))) ∙ ap (is_member_named K.variable.name) (sym is) ∙ other in
        let of : shared_names.is_of_module file K.variable.owner ≡ true =
        ap (shared_names.is_of_module file) K.is_owner ∙ same_number K.file file (same_file U file K.file home at K.at) in
        let number : v ≡ 0 + u =
        differing (shared_names.is_of_module file) v x.name 0 u D.vars K.variable F.others K.is_variable of
        (name_joined x.name x.name K.variable.name (name_self x.name) alike) in
        omega (arith, number)

    -- a member that is written for no variable has the key of none
    no_key_here : (vs : List ℕ) → Laid S vs ms → Earlier before vs → (u : ℕ) → variable_key U u ≡ Some (key_of home k) → ⊥
    no_key_here vs more earlier u e =
        let K : KeyParts U home k u = key_parts U home k u e in
        let z : Variable = K.variable in
        let test : net.Member → Bool = is_member_named z.name in
        let of : is_of_module file z.owner ≡ true =
        ap (is_of_module file) K.is_owner ∙ same_number file K.file (sym (same_file U file K.file home at K.at)) in
        let here : 0 + u ≡ u = omega arith in
        let a : Among all u = subst (λ (n : ℕ). Among all n) here (listed file 0 D.vars u z K.is_variable of) in
        let F : FieldOf U file home u = field_of u a in
        let same : F.variable ≡ z = some_same F.variable z (sym F.is_variable ∙ K.is_variable) in
        let one : count_of (is_member_named z.name) w.members < 2 =
        subst (λ (y : Variable). count_of (is_member_named y.name) w.members < 2) same (single u F) in
        let f = first_stands (is_member_named z.name) 0 (members_of (module_at U.written home)) (k, K.member) K.is_first in
        let number : f.0 ≡ length before = (let g = f.1 in omega (arith, g, place)) in
        let member : K.member ≡ m =
        some_same K.member m
        (sym f.2 ∙ ap (λ ns. slice_get ns f.0) (members_are ∙ parts) ∙ ap (slice_get (before ++ m ∷ ms)) number ∙ at_length before m ms) in
        let passes : is_member_named z.name m ≡ true = ap (is_member_named z.name) (sym member) ∙ f.3 in
        two (one_if (is_member_named z.name m)) (count_of (is_member_named z.name) before) (count_of (is_member_named z.name) ms) (count_of (is_member_named z.name) w.members)
        (ap one_if passes) (total (is_member_named z.name)) one
        (⊎_elim (λ b. inr (laid_named vs ms more u b z K.is_variable)) (λ b. inl (b z K.is_variable)) (earlier u a))
      where
        two : (a b c n : ℕ) → a ≡ 1 → n ≡ b + (a + c) → n < 2 → (0 < b) ⊎ (0 < c) → ⊥
        two a b c n e f h (inl k) = omega (arith, e, f, h, k)
        two a b c n e f h (inr k) = omega (arith, e, f, h, k)

  -- ---- one after the other

  moved : (before : List net.Member) (m : net.Member) (ms : List net.Member) → w.members ≡ before ++ m ∷ ms → w.members ≡ (before ++ m ∷ []) ++ ms
  moved before m ms e = e ∙ sym (append_assoc before (m ∷ []) ms)

  longer : (before : List net.Member) (m : net.Member) (k : ℕ) → k ≡ length before → suc k ≡ length (before ++ m ∷ [])
  longer before m k e = ap suc e ∙ sym (one_longer before m)

  one_written : (v : ℕ) (F : FieldOf U file home v) → IsWrittenAs U home v (written_variable S (v, F.variable))
  one_written v F =
      field_written U I M.source home (ap (home_of U) M.is_file ∙ at) v F.variable F.is_variable F.covers dims
      (λ t e c. absurd (true≢false (sym F.no_user ∙ ap (λ ty. not (is_user ty)) e)))

  all_written : (before : List net.Member) (vs : List ℕ) (ms : List net.Member) (k : ℕ) → Laid S vs ms → w.members ≡ before ++ ms → k ≡ length before
      → Earlier before vs → ((u : ℕ) → Among vs u → Among all u) → AreWritten U home vs k ms
  all_written before _ _ k nothing_laid e p earlier within = none_written k
  all_written before _ _ k (other_laid vs m ms not more) e p earlier within =
      other_member vs k m ms not
      (all_written (before ++ m ∷ []) vs ms (suc k) more (moved before m ms e) (longer before m k p) (further before m vs earlier) within)
  all_written before _ _ k (constant_laid vs seen name ms more) e p earlier within =
      let m : net.Member = net.variable seen (object_variable name) in
      stands_for_none vs k seen (object_variable name) ms (object_begins U home name) (no_key_here before m ms e k p vs more earlier)
      (all_written (before ++ m ∷ []) vs ms (suc k) more (moved before m ms e) (longer before m k p) (further before m vs earlier) within)
  all_written before _ _ k (variable_laid v vs seen x ms is more) e p earlier within =
      let m : net.Member = module_variable S seen (v, x) in
      let F : FieldOf U file home v = field_of v (within v (inl refl)) in
      let same : F.variable ≡ x = some_same F.variable x (sym F.is_variable ∙ is) in
      let made : m ≡ module_variable S seen (v, F.variable) = ap (λ (y : Variable). module_variable S seen (v, y)) (sym same) in
      variable_written v vs k seen (written_variable S (v, x)) ms
      (key_is before m ms e k p v F (ap (is_member_named F.variable.name) made ∙ own_name v F.variable seen))
      (key_differs before m ms e k p v F seen made)
      (subst (λ (y : Variable). IsWrittenAs U home v (written_variable S (v, y))) same (one_written v F))
      (all_written (before ++ m ∷ []) vs ms (suc k) more (moved before m ms e) (longer before m k p) (past_variable before v vs seen x is earlier)
      (λ u a. within u (inr a)))

  class_written : declared_numbers D (M.source, placed_members M.numbers M.source.comments M.source.members) ≡ all
      → AreWritten U home all 0 (members_of (module_at U.written home))
  class_written order =
      let laid : Laid S all w.members =
      subst (λ vs. Laid S vs w.members) order
      (members_laid S U.program (has_initializer D M.source.file M.source) M.numbers M.source.comments M.source.members) in
      subst (λ ms. AreWritten U home all 0 ms) (sym members_are) (all_written [] all w.members 0 laid refl refl (λ u a. inl a) (λ u a. a))

-- ---- the law

no_one : {X : Type 0} (o : Option X) → not (is_some o) ≡ true → o ≡ None
no_one None h = refl
no_one (Some x) h = absurd (cc h)

pub fields_are_written : (U : Upgrade) → IsWritten U → ClassesAreWritten U
fields_are_written U I class covers =
    let D : Declarations = U.program.declarations in
    let file = covers_made_file D (slice_get (class_files D.project) class) in
    let laid = declares_variables D class && has_extents U.program in
    let class_test = both_true (covers_class D class) (file && laid) covers in
    let file_test = both_true file laid class_test.1 in
    let rest = both_true (declares_variables D class) (has_extents U.program) file_test.1 in
    let ends = both_true (covers_class_file D (slice_get (class_files D.project) class)) (not (is_some (terminator D class))) class_test.0 in
    let L : ClassLed D class = class_led D class class_test.0 in
    let M : HomeModule U L.file L.home = home_module U I L.file L.home L.is_home in
    let covered : covers_made_file D (Some L.file) ≡ true = ap (covers_made_file D) (sym L.is_file) ∙ file_test.0 in
    let tests : declares_variables_at D L.file (Some L.home) ≡ true = ap (declares_variables_at D L.file) (sym L.is_home) ∙ ap (declares_variables_in D) (sym L.is_file) ∙ rest.0 in
    let both =
    both_true (declares_in_order D L.file (placed_module D L.home))
    (list_all (λ (v : ℕ). has_own_name D L.file L.home v (slice_get D.vars v)) (variables_from L.file 0 D.vars)) tests in
    let ps : List Placed = placed_members M.numbers M.source.comments M.source.members in
    let order : declared_numbers D (M.source, ps) ≡ variables_from L.file 0 D.vars =
    same_numbers (declared_numbers D (M.source, ps)) (variables_from L.file 0 D.vars) (ap (declares_in_order D L.file) (sym M.is_placed) ∙ both.0) in
    record {
      file = L.file;
      is_file = L.is_file;
      no_terminator = no_one (terminator D class) ends.1;
      home = L.home;
      is_home = ap (option_and_then (home_of U)) L.is_file ∙ L.is_home;
      are_written = class_written U I class L.file L.home L.is_file L.is_home M both.1 covered rest.1 order;
    }
