-- What is written for the members of a module passes a test, where what declares them does.
use Rattle.std.proofs.Common.{◌≡◌, refl, ap, sym, ◌∙◌, ℕ, suc, Bool, true, false, cond, not, ◌&&◌, List, [], ◌∷◌, ◌++◌, map, Option, Some, None, slice_get, inl, inr}
use Rattle.std.specs.List.{flat_map, list_all}
use Rattle.vb_tree.specs.Tree.{Form, Nodes, Member, alone, group, proc}
use Rattle.vb_tree.specs.Tree as source
use Rattle.bound_tree.specs.Tree.{Variable, Constant, Procedure, Declarations, Program}
use Rattle.net_tree.specs.declared.declaration.NetVisibility.{NetVisibility}
use Rattle.net_tree.specs.declared.declaration.NetVisibility.TheVariants as net_seen
use Rattle.net_tree.specs.Tree as net
use Rattle.written_trees.specs.Arguments.{is_property_kind}
use Rattle.written_trees.specs.Comments.{Comment, up_to, past, texts, upgrade_texts}
use Rattle.written_trees.specs.DeclaredMembers.{member_comments, word_visibility, constant_visibility, module_variable, module_constant, declared_members, statement_comments, line_members, structure_of, is_standard, enum_constants, enum_from, group_rules, group_members}
use Rattle.written_trees.specs.Heads.{is_function}
use Rattle.written_trees.specs.Members.{plain_member, property_member, member_by, stays_inside, procedure_members, written_at, written_member, written_members}
use Rattle.written_trees.specs.Names.{Scope, procedure_name}
use Rattle.written_trees.specs.Placing.{Numbers, Placed, placed_members, last_comments, is_type_head}
use Rattle.written_trees.specs.Properties.{Part, is_counted, is_separate, separate_name, head_comments, joined_property, part_at, part_number, or_part, own_part, no_part, property_of, only_part}
use Rattle.written_trees.specs.Prologues.{variables_of, constants_of}
use Rattle.vb_tree.specs.declared.declared.ProcKind.TheVariants as kind
use Rattle.run_matches.specs.Shared.{line_owns, enum_owns, member_owns, names_by, procedure_names, member_names}
use Rattle.run_matches.specs.Sites.{Own, own_variable, own_constant, own_variables, own_constants}
use Rattle.name_laws.proofs.Lists.{both_true, and_true, Among, among_map, map_among, all_among, all_append, all_cond, all_mapped}
use Rattle.name_laws.proofs.Owned.{variable_of_statement}

-- ---- tests that all items pass

pub all_by : {X : Type 0} (p : X → Bool) (xs : List X) → ((x : X) → Among xs x → p x ≡ true) → list_all p xs ≡ true
all_by p [] each = refl
all_by p (x ∷ xs) each = and_true (p x) (list_all p xs) (each x (inl refl)) (all_by p xs (λ y m. each y (inr m)))

pub all_parts : {X : Type 0} (p : X → Bool) (xs ys : List X) → list_all p (xs ++ ys) ≡ true → (list_all p xs ≡ true) × (list_all p ys ≡ true)
all_parts p [] ys h = (refl, h)
all_parts p (x ∷ xs) ys h =
    let b = both_true (p x) (list_all p (xs ++ ys)) h in
    let c = all_parts p xs ys b.1 in
    (and_true (p x) (list_all p xs) b.0 c.0, c.1)

all_flat_by : {X Y : Type 0} (p : Y → Bool) (f : X → List Y) (q : X → Bool) (xs : List X) → list_all q xs ≡ true
    → ((x : X) → q x ≡ true → list_all p (f x) ≡ true) → list_all p (flat_map f xs) ≡ true
all_flat_by p f q [] h each = refl
all_flat_by p f q (x ∷ xs) h each =
    let b = both_true (q x) (list_all q xs) h in
    all_append p (f x) (flat_map f xs) (each x b.0) (all_flat_by p f q xs b.1 each)

pub one_passes : {X : Type 0} (p : X → Bool) (b : Bool) (x y : X) → p x ≡ true → p y ≡ true → p (cond b x y) ≡ true
one_passes p true x y h e = h
one_passes p false x y h e = e

-- ---- members

module _ (P : Program) (S : Scope) (own : Own → Bool) (named : List ℕ → Bool) (test : net.Member → Bool)
    (variable_passes : (seen : NetVisibility) (v : ℕ × Variable) → slice_get S.declarations.vars v.0 ≡ Some v.1 → own (own_variable v.0 v.1) ≡ true
    → test (module_variable S seen v) ≡ true)
    (constant_passes : (seen : NetVisibility) (c : ℕ × Constant) → own (own_constant c.0 c.1) ≡ true → test (module_constant S seen c) ≡ true)
    (comment_passes : (units : List ℕ) → test (net.member_comment units) ≡ true)
    (structure_passes : (s : net.Structure) → test (net.structure s) ≡ true)
    (procedure_passes : (p : Placed) (body : Nodes) (q : Procedure) (name : List ℕ) → named name ≡ true → test (plain_member P S p body q name) ≡ true)
    (property_passes : (q : Procedure) (name : List ℕ) (get set : Part) → named name ≡ true → test (joined_property S q name get set) ≡ true) where
  abbrev D : Declarations
  D = S.declarations

  comments_pass : (units : List (List ℕ)) → list_all test (member_comments units) ≡ true
  comments_pass units = all_mapped test net.member_comment units comment_passes

  variables_pass : (seen : NetVisibility) (n : ℕ) → list_all own (own_variables (variables_of D S.file n)) ≡ true
      → list_all test (map (module_variable S seen) (variables_of D S.file n)) ≡ true
  variables_pass seen n h =
      let vs = variables_of D S.file n in
      all_by test (map (module_variable S seen) vs)
      (λ m a.
      let b = among_map (module_variable S seen) vs m a in
      ap test (sym b.2)
      ∙ variable_passes seen b.0 (variable_of_statement D S.file n b.0 b.1)
      (all_among own (own_variables vs) (own_variable b.0.0 b.0.1) h (map_among (λ (v : ℕ × Variable). own_variable v.0 v.1) vs b.0 b.1)))

  constants_pass : (seen : NetVisibility) (n : ℕ) → list_all own (own_constants (constants_of D S.file n)) ≡ true
      → list_all test (map (module_constant S seen) (constants_of D S.file n)) ≡ true
  constants_pass seen n h =
      let cs = constants_of D S.file n in
      all_by test (map (module_constant S seen) cs)
      (λ m a.
      let b = among_map (module_constant S seen) cs m a in
      ap test (sym b.2)
      ∙ constant_passes seen b.0
      (all_among own (own_constants cs) (own_constant b.0.0 b.0.1) h (map_among (λ (c : ℕ × Constant). own_constant c.0 c.1) cs b.0 b.1)))

  declared_pass : (n : ℕ) (f : Form) → list_all own (line_owns D S.file n f) ≡ true → list_all test (declared_members S n f) ≡ true
  declared_pass n (source.variables w declarators) h = variables_pass (word_visibility w) n h
  declared_pass n (source.constants visibility items) h = constants_pass (constant_visibility visibility) n h
  declared_pass n _ h = refl

  line_passes : (n : ℕ) (l : source.Line) → list_all own (line_owns D S.file n l.form) ≡ true → list_all test (line_members S n l) ≡ true
  line_passes n l h =
      all_append test (member_comments (statement_comments S n l)) (declared_members S n l.form) (comments_pass (statement_comments S n l))
      (declared_pass n l.form h)

  enum_passes : (cs : List Comment) (n : ℕ) (lines : List source.Line) → list_all own (enum_owns D S.file n lines) ≡ true
      → list_all test (enum_from S cs n lines) ≡ true
  enum_passes cs n [] h = comments_pass (texts cs)
  enum_passes cs n (l ∷ ls) h =
      let parts = all_parts own (own_constants (constants_of D S.file n)) (enum_owns D S.file (suc n) ls) h in
      let rest = enum_passes (past l.place.line cs) (suc n) ls parts.1 in
      let here = all_cond test (is_standard S) (map (module_constant S net_seen.Public) (constants_of D S.file n)) []
      (constants_pass net_seen.Public n parts.0) refl in
      all_append test (member_comments (texts (up_to l.place.line cs)))
      (member_comments (statement_comments S n l) ++ (enum_constants S n ++ enum_from S (past l.place.line cs) (suc n) ls))
      (comments_pass (texts (up_to l.place.line cs)))
      (all_append test (member_comments (statement_comments S n l)) (enum_constants S n ++ enum_from S (past l.place.line cs) (suc n) ls)
      (comments_pass (statement_comments S n l)) (all_append test (enum_constants S n) (enum_from S (past l.place.line cs) (suc n) ls) here rest))

  group_passes : (p : Placed) (head : source.Line) (lines : List source.Line) → list_all own (enum_owns D S.file (suc p.at.statement) lines) ≡ true
      → list_all test (group_members S p head lines) ≡ true
  group_passes p head lines h =
      all_append test (member_comments (upgrade_texts (group_rules S p head.form) head.text))
      (cond (is_type_head head.form) (structure_of S p lines ∷ []) (enum_from S p.inside (suc p.at.statement) lines))
      (comments_pass (upgrade_texts (group_rules S p head.form) head.text))
      (all_cond test (is_type_head head.form) (structure_of S p lines ∷ []) (enum_from S p.inside (suc p.at.statement) lines)
      (and_true (test (structure_of S p lines)) true (structure_passes _) refl)
      (enum_passes p.inside (suc p.at.statement) lines h))

  -- ---- procedures

  of_property : (ps : List Placed) (p : Placed) (body : Nodes) (q : Procedure) → named (procedure_name D p.at.procedure) ≡ true
      → test (property_member P S ps p body q) ≡ true
  of_property ps p body q h =
      let name = procedure_name D p.at.procedure in
      one_passes test (is_counted D p.at.procedure q) (property_of P S ps p.at.procedure q) (only_part P S p body q)
      (property_passes q name (part_at P S p.at.procedure ps (part_number D kind.Get p.at.procedure))
      (part_at P S p.at.procedure ps (or_part (part_number D kind.Let p.at.procedure) (part_number D kind.Set p.at.procedure))) h)
      (one_passes test (is_function q.kind) (joined_property S q name (own_part P S p body q) no_part)
      (joined_property S q name no_part (own_part P S p body q)) (property_passes q name (own_part P S p body q) no_part h)
      (property_passes q name no_part (own_part P S p body q) h))

  by_passes : (ps : List Placed) (p : Placed) (body : Nodes) (q : Procedure) (b : Bool)
      → list_all named (names_by b q (procedure_name D p.at.procedure)) ≡ true
      → test (cond (not b) (plain_member P S p body q q.name)
      (cond (is_separate S q) (plain_member P S p body q (separate_name q.kind (procedure_name D p.at.procedure))) (property_member P S ps p body q))) ≡ true
  by_passes ps p body q false h = procedure_passes p body q q.name (both_true (named q.name) true h).0
  by_passes ps p body q true h =
      let first = procedure_name D p.at.procedure in
      let name = separate_name q.kind first in
      let a = both_true (named first) (list_all named (name ∷ [])) h in
      one_passes test (is_separate S q) (plain_member P S p body q name) (property_member P S ps p body q)
      (procedure_passes p body q name (both_true (named name) true a.1).0) (of_property ps p body q a.0)

  pub procedures_pass : (ps : List Placed) (p : Placed) (head : source.Line) (body : Nodes) (o : Option Procedure)
      → list_all named (procedure_names D p.at.procedure o) ≡ true → list_all test (procedure_members P S ps p head body o) ≡ true
  procedures_pass ps p head body None h = refl
  procedures_pass ps p head body (Some q) h =
      all_cond test (stays_inside S p.at.procedure q) [] (member_comments (head_comments S p head) ++ member_by P S ps p body q ∷ []) refl
      (all_append test (member_comments (head_comments S p head)) (member_by P S ps p body q ∷ []) (comments_pass (head_comments S p head))
      (and_true (test (member_by P S ps p body q)) true (by_passes ps p body q (is_property_kind q.kind) h) refl))

  -- ---- the members of a module

  abbrev passes : Placed → Bool
  passes p = list_all own (member_owns D S.file p p.member) && list_all named (member_names D p p.member)

  at_passes : (ps : List Placed) (p : Placed) (m : Member) → list_all own (member_owns D S.file p m) ≡ true → list_all named (member_names D p m) ≡ true
      → list_all test (written_at P S ps p m) ≡ true
  at_passes ps p (alone l) h e =
      all_append test (member_comments (texts p.own)) (line_members S p.at.statement l) (comments_pass (texts p.own)) (line_passes p.at.statement l h)
  at_passes ps p (group head lines close) h e =
      all_append test (member_comments (texts p.own)) (group_members S p head lines) (comments_pass (texts p.own)) (group_passes p head lines h)
  at_passes ps p (proc head body close) h e = procedures_pass ps p head body (slice_get D.procs p.at.procedure) e

  pub members_pass : (at : Numbers) (cs : List Comment) (ms : List Member) → list_all passes (placed_members at cs ms) ≡ true
      → list_all test (written_members P S at cs ms) ≡ true
  members_pass at cs ms h =
      let ps = placed_members at cs ms in
      all_append test (flat_map (written_member P S ps) ps) (member_comments (texts (last_comments cs ms)))
      (all_flat_by test (written_member P S ps) passes ps h
      (λ p e.
      let b = both_true (list_all own (member_owns D S.file p p.member)) (list_all named (member_names D p p.member)) e in
      all_append test (member_comments (texts p.earlier)) (written_at P S ps p p.member) (comments_pass (texts p.earlier)) (at_passes ps p p.member b.0 b.1)))
      (comments_pass (texts (last_comments cs ms)))
