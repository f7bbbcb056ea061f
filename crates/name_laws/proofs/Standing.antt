-- The member that is written for a variable of a module which declares nothing else of its name.
use Rattle.std.proofs.Common.{◌≡◌, refl, ap, sym, subst, ◌∙◌, ℕ, suc, ◌+◌, arith, Bool, true, false, cond, nat_eq, List, [], ◌∷◌, ◌++◌, Option, Some, option_map, slice_get}
use Rattle.std.specs.Prelude.{find, option_and_then}
use Rattle.std.specs.List.{list_all, list_any}
use Rattle.std.proofs.lemmas.Bool.{eqb-true}
use Rattle.up_base.specs.Names.{is_same_name}
use Rattle.vb_tree.specs.declared.declared.Owner.TheVariants as owner
use Rattle.vb_tree.specs.Tree.{Module}
use Rattle.bound_tree.specs.Tree.{Variable, Declarations}
use Rattle.bound_facts.specs.SelfMade.{is_number}
use Rattle.net_tree.specs.declared.declaration.NetVisibility.{NetVisibility}
use Rattle.net_tree.specs.Tree as net
use Rattle.net_tree.specs.Types.{TypeName}
use Rattle.run_base.specs.Positions.{Key}
use Rattle.written_trees.specs.Facts.{is_flagged_variable}
use Rattle.written_trees.specs.Members.{written_members}
use Rattle.written_trees.specs.Names.{Scope}
use Rattle.written_trees.specs.Projects.{first_numbers, has_initializer, makers, module_scope, written_module}
use Rattle.written_trees.specs.Prologues.{object_variable, typed_variable, written_variable}
use Rattle.written_trees.specs.Types.{type_with}
use Rattle.net_run.specs.Members.{is_member_named, member_named}
use Rattle.net_run.specs.Names.{key_of}
use Rattle.net_run.specs.Shapes.{first_from, members_of, module_at, module_in}
use Rattle.run_matches.specs.Shared.{declares_in, is_of_module, is_other_member}
use Rattle.run_matches.specs.Upgrades.{Upgrade, home_of, member_key, owned_key, declared_key, variable_key, is_flagged, is_unknown, type_of}
use Rattle.run_statements.specs.Written.{IsWritten}
use Rattle.name_laws.proofs.Lists.{all_append, among_right, neither, some_same}
use Rattle.name_laws.proofs.Looked.{name_joined, position_at}
use Rattle.name_laws.proofs.Led.{PlacedAt, Stands, differing, placed_at}
use Rattle.name_laws.proofs.MemberKeys.{KeyParts, key_parts}
use Rattle.name_laws.proofs.Reached.{is_word_of, is_allowed, members_allowed, members_there, FirstVariable, first_variable}
use Rattle.name_laws.proofs.Words.{VariableType, is_written_as}

-- ---- items found first

-- what is found first stands at its place and passes
pub first_stands : {X : Type 0} (test : X → Bool) (k : ℕ) (xs : List X) (f : ℕ × X) → first_from test k xs ≡ Some f
    → (i : ℕ) × (f.0 ≡ k + i) × (slice_get xs i ≡ Some f.1) × (test f.1 ≡ true)
first_stands test k [] f e = absurd (cc e)
first_stands {X} test k (x ∷ xs) f e = by (test x) refl e (λ h. first_stands test (suc k) xs f h)
  where
    here : k ≡ k + 0
    here = omega arith

    more_by_one : (i : ℕ) → f.0 ≡ suc k + i → f.0 ≡ k + suc i
    more_by_one i h = omega (arith, h)

    by : (b : Bool) → test x ≡ b → cond b (Some (k, x)) (first_from test (suc k) xs) ≡ Some f
        → (first_from test (suc k) xs ≡ Some f → (i : ℕ) × (f.0 ≡ suc k + i) × (slice_get xs i ≡ Some f.1) × (test f.1 ≡ true))
        → (i : ℕ) × (f.0 ≡ k + i) × (slice_get (x ∷ xs) i ≡ Some f.1) × (test f.1 ≡ true)
    by true p h more =
        let same : (k, x) ≡ f = some_same (k, x) f h in
        (0, sym (ap (λ (z : ℕ × X). z.0) same) ∙ here, ap (λ (z : ℕ × X). Some z.1) same, ap (λ (z : ℕ × X). test z.1) (sym same) ∙ p)
    by false p h more = let m = more h in (suc m.0, more_by_one m.0 m.1, m.2, m.3)

same_place : (n i j : ℕ) → n ≡ 0 + i → n ≡ 0 + j → i ≡ j
same_place n i j e f = omega (arith, e, f)

-- two searches that find something at one place find the same
pub found_same : {X : Type 0} (test other : X → Bool) (xs : List X) (n : ℕ) (f : ℕ × X) (x : X) → first_from test 0 xs ≡ Some (n, x) → first_from other 0 xs ≡ Some f
    → f.0 ≡ n → other x ≡ true
found_same {X} test other xs n f x e g same =
    let a = first_stands test 0 xs (n, x) e in
    let b = first_stands other 0 xs f g in
    let at : b.0 ≡ a.0 = same_place n b.0 a.0 (sym same ∙ b.1) a.1 in
    let item : f.1 ≡ x = some_same f.1 x (sym b.2 ∙ ap (slice_get xs) at ∙ a.2) in
    ap other (sym item) ∙ b.3

-- ---- the member

-- the Sub New of a class has no name
pub makers_allowed : (name : List ℕ) (o : Option TypeName) (has : Bool) → list_all (is_allowed name o) (makers has) ≡ true
makers_allowed name o true = refl
makers_allowed name o false = refl

-- the first member of the variable's name is the one that is written for it, and no other variable has its key
pub record VariableMember (U : Upgrade) (v : ℕ) (y : Variable) (file : ℕ) (M : Stands U.program.declarations v y.name file) : Type 0 where
  pub at_file : find (λ (n : Module). nat_eq n.file file) U.program.declarations.project.modules ≡ Some M.placed.0
  pub at : PlacedAt U.program U.facts first_numbers U.program.declarations.project.modules M.home M.placed
  pub is_module : module_at U.written M.home ≡ Some (written_module U.program U.facts at.numbers M.placed.0)
  pub type : VariableType U v y M.placed.0.file M.home
  pub number : ℕ
  pub visibility : NetVisibility
  pub made : net.Variable
  pub is_first : member_named y.name (members_of (module_at U.written M.home)) ≡ Some (number, net.variable visibility made)
  pub is_word : is_written_as made.ty type.word ≡ true
  pub is_key : variable_key U v ≡ Some (key_of M.home number)
  pub differs : (u : ℕ) → variable_key U u ≡ Some (key_of M.home number) → v ≡ u

module _ (U : Upgrade) (I : IsWritten U) (v : ℕ) (y : Variable) (is_variable : slice_get U.program.declarations.vars v ≡ Some y) (sound : is_flagged U v ≡ false)
    (types : (file home : ℕ) → home_of U file ≡ Some home → VariableType U v y file home) (file : ℕ) (of : y.owner ≡ owner.Module file)
    (M : Stands U.program.declarations v y.name file) where
  abbrev D : Declarations
  D = U.program.declarations

  abbrev N : net.Project
  N = U.written

  abbrev name : List ℕ
  name = y.name

  abbrev m : Module
  m = M.placed.0

  A : PlacedAt U.program U.facts first_numbers D.project.modules M.home M.placed
  A = placed_at U.program U.facts first_numbers D.project.modules M.home M.placed M.is_placed

  stands_there : module_at N M.home ≡ Some (written_module U.program U.facts A.numbers m)
  stands_there = ap (λ (K : net.Project). module_in K.modules M.home) I.is_written ∙ A.is_written

  abbrev S : Scope
  S = module_scope U.program U.facts m

  abbrev has : Bool
  has = has_initializer D m.file m

  abbrev rest : List net.Member
  rest = written_members U.program S A.numbers m.comments m.members

  abbrev members : List net.Member
  members = makers has ++ rest

  at_file : (nat_eq m.file file ≡ true) × (find (λ (n : Module). nat_eq n.file file) D.project.modules ≡ Some m)
  at_file = position_at (λ (n : Module). nat_eq n.file file) D.project.modules M.home m M.is_home A.stands

  file_is : m.file ≡ file
  file_is = eqb-true m.file file at_file.0

  abbrev type_is : VariableType U v y m.file M.home
  type_is = types m.file M.home (ap (home_of U) file_is ∙ M.is_home)

  abbrev word : TypeName
  word = type_is.word

  unflagged : is_flagged_variable U.facts v ≡ false
  unflagged = (neither (is_flagged_variable U.facts v) (is_unknown (type_of U v)) sound).0

  that_word : (u : ℕ × Variable) → slice_get D.vars u.0 ≡ Some u.1 → is_number (Some v) u.0 ≡ true
      → is_word_of (Some word) (written_variable S u).ty ≡ true
  that_word u e n =
      let number : v ≡ u.0 = eqb-true v u.0 n in
      let same : y ≡ u.1 = some_same y u.1 (sym is_variable ∙ ap (slice_get D.vars) number ∙ e) in
      let plain : is_flagged_variable U.facts u.0 ≡ false = ap (is_flagged_variable U.facts) (sym number) ∙ unflagged in
      ap (λ b. is_word_of (Some word) (cond b (object_variable u.1.name) (typed_variable S u.0 u.1)).ty) plain
      ∙ subst (λ (x : Variable). is_word_of (Some word) (typed_variable S u.0 x).ty ≡ true) same
      (subst (λ k. is_written_as (type_with D m.file y.qualified (U.facts.rank k) y.ty) word ≡ true) number type_is.is_written)

  allowed : list_all (is_allowed name (Some word)) members ≡ true
  allowed =
      all_append (is_allowed name (Some word)) (makers has) rest (makers_allowed name (Some word) has)
      (members_allowed U.program S name (Some v) (Some word) that_word A.numbers m.comments m.members
      (ap (list_all (is_other_member D name (Some v) m.file)) (sym A.placed) ∙ M.others))

  there : FirstVariable name word members
  there =
      let x = members_there U.program S v y is_variable A.numbers m.comments m.members
      (ap (list_any (declares_in D v m.file)) (sym A.placed) ∙ M.declares) in
      first_variable name word members x.0 allowed (among_right (makers has) rest x.0 x.1) x.2

  abbrev n : ℕ
  n = there.number

  first_is : member_named name (members_of (module_at N M.home)) ≡ Some (n, net.variable there.visibility there.made)
  first_is = ap (λ o. member_named name (members_of o)) stands_there ∙ there.is_first

  abbrev key : Key
  key = key_of M.home n

  key_is : variable_key U v ≡ Some key
  key_is =
      ap (declared_key U) is_variable ∙ ap (owned_key U name) of ∙ ap (option_and_then (member_key U name)) M.is_home
      ∙ ap (option_map (λ (found : ℕ × net.Member). key_of M.home found.0)) first_is

  -- ---- no other variable has the key

  same_file : (f : ℕ) → home_of U f ≡ Some M.home → f ≡ file
  same_file f e =
      let at = position_at (λ (n : Module). nat_eq n.file f) D.project.modules M.home m e A.stands in
      sym (eqb-true m.file f at.0) ∙ file_is

  differs : (u : ℕ) → variable_key U u ≡ Some key → v ≡ u
  differs u e =
      let K : KeyParts U M.home n u = key_parts U M.home n u e in
      let named : is_same_name there.made.name K.variable.name ≡ true =
      found_same (is_member_named name) (is_member_named K.variable.name) (members_of (module_at N M.home)) n (n, K.member)
      (net.variable there.visibility there.made) first_is K.is_first refl in
      let alike : is_same_name K.variable.name name ≡ true = name_joined there.made.name name K.variable.name there.named named in
      let same : K.file ≡ file = same_file K.file K.at in
      let of_file : is_of_module file K.variable.owner ≡ true =
      ap (is_of_module file) K.is_owner ∙ ap (λ k. nat_eq k file) (same ∙ sym file_is) ∙ at_file.0 in
      let number : v ≡ 0 + u = differing (is_of_module file) v name 0 u D.vars K.variable M.differs K.is_variable of_file alike in
      omega (arith, number)

  pub variable_member : VariableMember U v y file M
  variable_member = record {
    at_file = at_file.1;
    at = A;
    is_module = stands_there;
    type = type_is;
    number = n;
    visibility = there.visibility;
    made = there.made;
    is_first = first_is;
    is_word = there.is_word;
    is_key = key_is;
    differs = differs;
  }
