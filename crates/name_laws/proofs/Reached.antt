-- The first member of a variable's name is the one that is written for it, in a module that declares nothing else of the name.
use Rattle.std.proofs.Common.{◌≡◌, refl, ap, sym, subst, ◌∙◌, ℕ, suc, Bool, true, false, cond, not, List, [], ◌∷◌, ◌++◌, Option, Some, None, slice_get, ⊎_elim}
use Rattle.std.specs.Prelude.{◌||◌}
use Rattle.std.specs.List.{flat_map, list_all, list_any}
use Rattle.std.proofs.lemmas.Bool.{eqb-true}
use Rattle.up_base.specs.Names.{is_same_name}
use Rattle.vb_tree.specs.declared.value.Value6.{Value6}
use Rattle.vb_tree.specs.Tree.{Form, Member, Nodes, alone, group, proc}
use Rattle.vb_tree.specs.Tree as source
use Rattle.bound_tree.specs.Tree.{Variable, Constant, Procedure, Declarations, Program}
use Rattle.bound_facts.specs.SelfMade.{is_number}
use Rattle.net_tree.specs.declared.declaration.NetVisibility.{NetVisibility}
use Rattle.net_tree.specs.Tree as net
use Rattle.net_tree.specs.Types.{TypeName}
use Rattle.written_trees.specs.Comments.{Comment, texts}
use Rattle.written_trees.specs.DeclaredMembers.{member_comments, word_visibility, module_variable, constant_by, module_constant, declared_members, statement_comments, line_members}
use Rattle.written_trees.specs.Facts.{is_flagged_variable}
use Rattle.written_trees.specs.Heads.{is_function, head_of, written_visibility, params_of, result_type}
use Rattle.written_trees.specs.Members.{plain_member, written_at, written_member, written_members}
use Rattle.written_trees.specs.Names.{Scope}
use Rattle.written_trees.specs.Placing.{Numbers, Placed, placed_members, last_comments}
use Rattle.written_trees.specs.Prologues.{variables_of, constants_of, written_variable, object_variable, typed_variable, sound_value}
use Rattle.written_trees.specs.Bodies.{procedure_with}
use Rattle.net_tree.specs.declared.declaration.NetClose.TheVariants.{EndSub, EndFunction}
use Rattle.net_run.specs.Members.{is_head_named, is_member_named, member_named}
use Rattle.net_run.specs.Shapes.{first_from}
use Rattle.run_matches.specs.Shared.{line_owns, enum_owns, member_owns, is_other, is_other_own, is_other_member, is_variable_of, declares_in}
use Rattle.run_matches.specs.Sites.{Own, own_variable, own_constant, own_constants}
use Rattle.name_laws.proofs.Lists.{both_true, and_true, some_same, Among, among_append, among_left, among_right, among_map, map_among, flat_among, any_among}
use Rattle.name_laws.proofs.Looked.{name_self, FoundFirst, first_found, first_none}
use Rattle.name_laws.proofs.Others.{members_pass}
use Rattle.name_laws.proofs.Owned.{variable_of_statement}
use Rattle.name_laws.proofs.Words.{is_written_as}

-- ---- which members are allowed

abbrev pub is_word_of : Option TypeName → TypeName → Bool
is_word_of None ty = false
is_word_of (Some t) ty = is_written_as ty t

-- a member of another name, or a variable of this type
abbrev pub is_allowed : List ℕ → Option TypeName → net.Member → Bool
is_allowed name o (net.member_comment units) = true
is_allowed name o (net.variable visibility d) = is_other name d.name || is_word_of o d.ty
is_allowed name o (net.const_member visibility c) = is_other name c.name
is_allowed name o (net.structure s) = true
is_allowed name o (net.property p) = is_other name p.name
is_allowed name o (net.proc p) = not (is_head_named name p.head)

or_left : (a b : Bool) → a ≡ true → (a || b) ≡ true
or_left true b h = refl
or_left false b h = absurd (cc h)

or_right : (a b : Bool) → b ≡ true → (a || b) ≡ true
or_right true b h = refl
or_right false b h = h

pub either : (a b : Bool) → (a || b) ≡ true → {X : Type 0} → (a ≡ true → X) → (b ≡ true → X) → X
either true b h f g = f refl
either false b h f g = g h

pub written_name : (S : Scope) (u : ℕ × Variable) → (written_variable S u).name ≡ u.1.name
written_name S u = by (is_flagged_variable S.facts u.0)
  where
    by : (b : Bool) → (cond b (object_variable u.1.name) (typed_variable S u.0 u.1)).name ≡ u.1.name
    by true = refl
    by false = refl

module _ (P : Program) (S : Scope) (name : List ℕ) (except : Option ℕ) (o : Option TypeName)
    (that : (u : ℕ × Variable) → slice_get S.declarations.vars u.0 ≡ Some u.1 → is_number except u.0 ≡ true → is_word_of o (written_variable S u).ty ≡ true) where
  variable_allowed : (seen : NetVisibility) (u : ℕ × Variable) → slice_get S.declarations.vars u.0 ≡ Some u.1
      → is_other_own name except (own_variable u.0 u.1) ≡ true → is_allowed name o (module_variable S seen u) ≡ true
  variable_allowed seen u e h =
      either (is_number except u.0) (is_other name u.1.name) h
      (λ n. or_right (is_other name (written_variable S u).name) (is_word_of o (written_variable S u).ty) (that u e n))
      (λ n. or_left (is_other name (written_variable S u).name) (is_word_of o (written_variable S u).ty) (ap (is_other name) (written_name S u) ∙ n))

  constant_allowed : (seen : NetVisibility) (c : ℕ × Constant) → is_other_own name except (own_constant c.0 c.1) ≡ true
      → is_allowed name o (module_constant S seen c) ≡ true
  constant_allowed seen c h = by (sound_value S.facts c)
    where
      by : (x : Option Value6) → is_allowed name o (constant_by S seen c.1 x) ≡ true
      by None = or_left (is_other name c.1.name) (is_word_of o (object_variable c.1.name).ty) h
      by (Some x) = h

  procedure_allowed : (p : Placed) (body : Nodes) (q : Procedure) (n : List ℕ) → is_other name n ≡ true
      → is_allowed name o (plain_member P S p body q n) ≡ true
  procedure_allowed p body q n h = by (is_function q.kind) (head_named (is_function q.kind))
    where
      head_named : (b : Bool)
          → not (is_head_named name (cond b (net.function (written_visibility q.visibility) n (params_of S false q.params) (result_type S q))
          (net.sub (written_visibility q.visibility) n (params_of S false q.params)))) ≡ true
      head_named true = h
      head_named false = h

      by : (b : Bool) → not (is_head_named name (head_of S q n)) ≡ true
          → is_allowed name o (net.proc (cond b (procedure_with P S p body (head_of S q n) EndFunction) (procedure_with P S p body (head_of S q n) EndSub))) ≡ true
      by true e = e
      by false e = e

  pub members_allowed : (at : Numbers) (cs : List Comment) (ms : List Member)
      → list_all (is_other_member S.declarations name except S.file) (placed_members at cs ms) ≡ true
      → list_all (is_allowed name o) (written_members P S at cs ms) ≡ true
  members_allowed at cs ms h =
      members_pass P S (is_other_own name except) (is_other name) (is_allowed name o) variable_allowed constant_allowed (λ u. refl) (λ s. refl) procedure_allowed
      (λ q n get set e. e) at cs ms h

-- ---- where nothing has the name

allowed_other : (name : List ℕ) (m : net.Member) → is_allowed name None m ≡ true → not (is_member_named name m) ≡ true
allowed_other name (net.member_comment units) h = refl
allowed_other name (net.variable visibility d) h = either (is_other name d.name) false h (λ e. e) (λ e. absurd (cc e))
allowed_other name (net.const_member visibility c) h = h
allowed_other name (net.structure s) h = refl
allowed_other name (net.property p) h = h
allowed_other name (net.proc p) h = h

pub none_named : (name : List ℕ) (k : ℕ) (ms : List net.Member) → list_all (is_allowed name None) ms ≡ true → first_from (is_member_named name) k ms ≡ None
none_named name k ms h = first_none (is_member_named name) k ms (all ms h)
  where
    all : (ms : List net.Member) → list_all (is_allowed name None) ms ≡ true → list_all (λ (m : net.Member). not (is_member_named name m)) ms ≡ true
    all [] h = refl
    all (m ∷ ms) h =
        let b = both_true (is_allowed name None m) (list_all (is_allowed name None) ms) h in
        and_true (not (is_member_named name m)) (list_all (λ (m : net.Member). not (is_member_named name m)) ms) (allowed_other name m b.0) (all ms b.1)

-- ---- the variable is there

module _ (P : Program) (S : Scope) (v : ℕ) (y : Variable) (is : slice_get S.declarations.vars v ≡ Some y) where
  abbrev D : Declarations
  D = S.declarations

  abbrev IsThere : List net.Member → Type 0
  IsThere ms = (m : net.Member) × Among ms m × (is_member_named y.name m ≡ true)

  later : (xs ys : List net.Member) → IsThere ys → IsThere (xs ++ ys)
  later xs ys h = (h.0, among_right xs ys h.0 h.1, h.2)

  declared_there : (n : ℕ) (f : Form) (own : Own) → Among (line_owns D S.file n f) own → is_variable_of v own ≡ true → IsThere (declared_members S n f)
  declared_there n (source.variables w declarators) own a h =
      let vs = variables_of D S.file n in
      let b = among_map (λ (u : ℕ × Variable). own_variable u.0 u.1) vs own a in
      let number : v ≡ b.0.0 = eqb-true v b.0.0 (ap (is_variable_of v) b.2 ∙ h) in
      let same : b.0.1 ≡ y =
      some_same b.0.1 y (sym (variable_of_statement D S.file n b.0 b.1) ∙ ap (slice_get D.vars) (sym number) ∙ is) in
      let name : (written_variable S b.0).name ≡ y.name = written_name S b.0 ∙ ap (λ (z : Variable). z.name) same in (
        module_variable S (word_visibility w) b.0,
        map_among (module_variable S (word_visibility w)) vs b.0 b.1,
        ap (λ k. is_same_name k y.name) name ∙ name_self y.name,
      )
  declared_there n (source.constants visibility items) own a h =
      let b = among_map (λ (c : ℕ × Constant). own_constant c.0 c.1) (constants_of D S.file n) own a in
      absurd (cc (ap (is_variable_of v) b.2 ∙ h))
  declared_there n _ own a h = absurd a

  no_enum : (n : ℕ) (lines : List source.Line) (own : Own) → Among (enum_owns D S.file n lines) own → is_variable_of v own ≡ true → ⊥
  no_enum n [] own a h = a
  no_enum n (l ∷ ls) own a h =
      ⊎_elim
      (λ c. let b = among_map (λ (c : ℕ × Constant). own_constant c.0 c.1) (constants_of D S.file n) own c in
      absurd (cc (ap (is_variable_of v) b.2 ∙ h)))
      (λ c. no_enum (suc n) ls own c h) (among_append (own_constants (constants_of D S.file n)) (enum_owns D S.file (suc n) ls) own a)

  at_there : (ps : List Placed) (p : Placed) (m : Member) (own : Own) → Among (member_owns D S.file p m) own → is_variable_of v own ≡ true
      → IsThere (written_at P S ps p m)
  at_there ps p (alone l) own a h =
      later (member_comments (texts p.own)) (line_members S p.at.statement l)
      (later (member_comments (statement_comments S p.at.statement l)) (declared_members S p.at.statement l.form)
      (declared_there p.at.statement l.form own a h))
  at_there ps p (group head lines close) own a h = absurd (no_enum (suc p.at.statement) lines own a h)
  at_there ps p (proc head body close) own a h = absurd a

  pub members_there : (at : Numbers) (cs : List Comment) (ms : List Member) → list_any (declares_in D v S.file) (placed_members at cs ms) ≡ true
      → IsThere (written_members P S at cs ms)
  members_there at cs ms h =
      let ps = placed_members at cs ms in
      let a = any_among (declares_in D v S.file) ps h in
      let b = any_among (is_variable_of v) (member_owns D S.file a.0 a.0.member) a.2 in
      let c = later (member_comments (texts a.0.earlier)) (written_at P S ps a.0 a.0.member) (at_there ps a.0 a.0.member b.0 b.1 b.2) in (
        c.0,
        among_left (flat_map (written_member P S ps) ps) (member_comments (texts (last_comments cs ms))) c.0
            (flat_among (written_member P S ps) ps a.0 c.0 a.1 c.1),
        c.2,
      )

-- ---- the first member of the name

-- a variable of this type
pub record IsVariable (word : TypeName) (m : net.Member) : Type 0 where
  pub visibility : NetVisibility
  pub made : net.Variable
  pub is_made : m ≡ net.variable visibility made
  pub is_word : is_written_as made.ty word ≡ true

negated : (b : Bool) → b ≡ true → not b ≡ true → ⊥
negated true h e = cc e
negated false h e = cc h

variable_named : (name : List ℕ) (word : TypeName) (m : net.Member) → is_member_named name m ≡ true → is_allowed name (Some word) m ≡ true → IsVariable word m
variable_named name word (net.member_comment units) h e = absurd (cc h)
variable_named name word (net.variable visibility d) h e =
    either (is_other name d.name) (is_written_as d.ty word) e (λ f. absurd (negated (is_same_name d.name name) h f))
    (λ f. record { visibility = visibility; made = d; is_made = refl; is_word = f })
variable_named name word (net.const_member visibility c) h e = absurd (negated (is_same_name c.name name) h e)
variable_named name word (net.structure s) h e = absurd (cc h)
variable_named name word (net.property p) h e = absurd (negated (is_same_name p.name name) h e)
variable_named name word (net.proc p) h e = absurd (negated (is_head_named name p.head) h e)

pub record FirstVariable (name : List ℕ) (word : TypeName) (ms : List net.Member) : Type 0 where
  pub number : ℕ
  pub visibility : NetVisibility
  pub made : net.Variable
  pub is_first : member_named name ms ≡ Some (number, net.variable visibility made)
  pub is_word : is_written_as made.ty word ≡ true
  pub named : is_same_name made.name name ≡ true

pub first_variable : (name : List ℕ) (word : TypeName) (ms : List net.Member) (m : net.Member) → list_all (is_allowed name (Some word)) ms ≡ true → Among ms m
    → is_member_named name m ≡ true → FirstVariable name word ms
first_variable name word ms m h a e =
    let f : FoundFirst (is_member_named name) (is_allowed name (Some word)) 0 ms = first_found (is_member_named name) (is_allowed name (Some word)) 0 ms m h a e in
    let x : IsVariable word f.1 = variable_named name word f.1 f.3 f.4 in
    record {
      number = f.0;
      visibility = x.visibility;
      made = x.made;
      is_first = f.2 ∙ ap (λ (z : net.Member). Some (f.0, z)) x.is_made;
      is_word = x.is_word;
      named = subst (λ (z : net.Member). is_member_named name z ≡ true) x.is_made f.3;
    }
