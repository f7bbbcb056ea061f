-- The members of what is written for a module have free names.
use Rattle.std.proofs.Common.{◌≡◌, refl, ℕ, suc, Bool, true, false, cond, not, List, [], ◌∷◌, ◌++◌, map, Option, Some, None, slice_get}
use Rattle.std.specs.List.{flat_map, list_all}
use Rattle.vb_tree.specs.declared.value.Value6.{Value6}
use Rattle.vb_tree.specs.Tree.{Form, Nodes, Module, Member, alone, group, proc}
use Rattle.vb_tree.specs.Tree as source
use Rattle.bound_tree.specs.Tree.{Variable, Constant, Procedure, Program}
use Rattle.net_tree.specs.declared.declaration.NetClose.TheVariants.{EndSub, EndFunction}
use Rattle.net_tree.specs.declared.declaration.NetVisibility.{NetVisibility}
use Rattle.net_tree.specs.declared.declaration.NetVisibility.TheVariants as net_seen
use Rattle.net_tree.specs.Tree as net
use Rattle.written_trees.specs.Arguments.{is_property_kind}
use Rattle.written_trees.specs.Bodies.{procedure_with}
use Rattle.written_trees.specs.Comments.{Comment, up_to, past, texts, upgrade_texts}
use Rattle.written_trees.specs.DeclaredMembers.{member_comments, word_visibility, constant_visibility, module_variable, constant_by, module_constant, declared_members, statement_comments, line_members, structure_of, is_standard, enum_constants, enum_from, group_rules, group_members}
use Rattle.written_trees.specs.Facts.{Facts, is_flagged_variable}
use Rattle.written_trees.specs.Heads.{is_function, head_of, written_visibility, params_of, result_type}
use Rattle.written_trees.specs.Members.{plain_member, property_member, member_by, stays_inside, procedure_members, written_at, written_member, written_members}
use Rattle.written_trees.specs.Names.{Scope, procedure_name}
use Rattle.written_trees.specs.Placing.{Numbers, Placed, behind_members, placed_members, last_comments, is_type_head}
use Rattle.written_trees.specs.Projects.{has_initializer, makers, module_scope, next_module, written_module, modules_from}
use Rattle.written_trees.specs.Properties.{is_counted, is_separate, separate_name, head_comments, joined_property, property_of, only_part, own_part, no_part}
use Rattle.written_trees.specs.Prologues.{variables_of, constants_of, written_variable, object_variable, typed_variable, sound_value}
use Rattle.run_matches.specs.Covered.{is_free_name}
use Rattle.name_laws.specs.Free.{is_free_head, is_free_member, has_free_members}
use Rattle.name_laws.proofs.Lists.{both_true, and_true, all_append, all_cond, all_map, all_mapped, all_flat}
use Rattle.name_laws.proofs.Names.{HasFreeNames, procedure_free, procedure_name_free, separate_free, is_free_variable, is_free_constant, variables_free, constants_free}

-- ---- names of what is written for one declaration

pub written_name : (S : Scope) (v : ℕ × Variable) → is_free_name v.1.name ≡ true → is_free_name (written_variable S v).name ≡ true
written_name S v h = by (is_flagged_variable S.facts v.0)
  where
    by : (b : Bool) → is_free_name (cond b (object_variable v.1.name) (typed_variable S v.0 v.1)).name ≡ true
    by true = h
    by false = h

constant_member_free : (S : Scope) (seen : NetVisibility) (c : ℕ × Constant) → is_free_constant c ≡ true → is_free_member (module_constant S seen c) ≡ true
constant_member_free S seen c h = by (sound_value S.facts c)
  where
    by : (o : Option Value6) → is_free_member (constant_by S seen c.1 o) ≡ true
    by None = h
    by (Some x) = h

comments_free : (units : List (List ℕ)) → list_all is_free_member (member_comments units) ≡ true
comments_free units = all_mapped is_free_member net.member_comment units (λ u. refl)

one_free : (b : Bool) (m k : net.Member) → is_free_member m ≡ true → is_free_member k ≡ true → is_free_member (cond b m k) ≡ true
one_free true m k h e = h
one_free false m k h e = e

-- the head of a procedure with a free name
pub head_free : (S : Scope) (q : Procedure) (name : List ℕ) → is_free_name name ≡ true → is_free_head (head_of S q name) ≡ true
head_free S q name h = by (is_function q.kind)
  where
    by : (b : Bool) → is_free_head (cond b
        (net.function (written_visibility q.visibility) name (params_of S false q.params) (result_type S q))
        (net.sub (written_visibility q.visibility) name (params_of S false q.params))) ≡ true
    by true = h
    by false = h

module _ (P : Program) (S : Scope) (F : HasFreeNames S.declarations) where
  variable_members : (seen : NetVisibility) (n : ℕ) → list_all is_free_member (map (module_variable S seen) (variables_of S.declarations S.file n)) ≡ true
  variable_members seen n =
      all_map is_free_member (module_variable S seen) is_free_variable (variables_of S.declarations S.file n) (λ v h. written_name S v h)
      (variables_free S.file n 0 S.declarations.vars F.vars)

  constant_members : (seen : NetVisibility) (n : ℕ) → list_all is_free_member (map (module_constant S seen) (constants_of S.declarations S.file n)) ≡ true
  constant_members seen n =
      all_map is_free_member (module_constant S seen) is_free_constant (constants_of S.declarations S.file n) (λ c h. constant_member_free S seen c h)
      (constants_free S.file n 0 S.declarations.consts F.consts)

  declared_free : (n : ℕ) (f : Form) → list_all is_free_member (declared_members S n f) ≡ true
  declared_free n (source.variables w declarators) = variable_members (word_visibility w) n
  declared_free n (source.constants visibility items) = constant_members (constant_visibility visibility) n
  declared_free n _ = refl

  line_free : (n : ℕ) (l : source.Line) → list_all is_free_member (line_members S n l) ≡ true
  line_free n l =
      all_append is_free_member (member_comments (statement_comments S n l)) (declared_members S n l.form) (comments_free (statement_comments S n l))
      (declared_free n l.form)

  -- ---- Enums and Types

  enum_free : (cs : List Comment) (n : ℕ) (lines : List source.Line) → list_all is_free_member (enum_from S cs n lines) ≡ true
  enum_free cs n [] = comments_free (texts cs)
  enum_free cs n (l ∷ ls) =
      let rest = enum_free (past l.place.line cs) (suc n) ls in
      let own = all_cond is_free_member (is_standard S) (map (module_constant S net_seen.Public) (constants_of S.declarations S.file n)) []
      (constant_members net_seen.Public n) refl in
      all_append is_free_member (member_comments (texts (up_to l.place.line cs)))
      (member_comments (statement_comments S n l) ++ (enum_constants S n ++ enum_from S (past l.place.line cs) (suc n) ls))
      (comments_free (texts (up_to l.place.line cs)))
      (all_append is_free_member (member_comments (statement_comments S n l)) (enum_constants S n ++ enum_from S (past l.place.line cs) (suc n) ls)
      (comments_free (statement_comments S n l)) (all_append is_free_member (enum_constants S n) (enum_from S (past l.place.line cs) (suc n) ls) own rest))

  group_free : (p : Placed) (head : source.Line) (lines : List source.Line) → list_all is_free_member (group_members S p head lines) ≡ true
  group_free p head lines =
      all_append is_free_member (member_comments (upgrade_texts (group_rules S p head.form) head.text))
      (cond (is_type_head head.form) (structure_of S p lines ∷ []) (enum_from S p.inside (suc p.at.statement) lines))
      (comments_free (upgrade_texts (group_rules S p head.form) head.text))
      (all_cond is_free_member (is_type_head head.form) (structure_of S p lines ∷ []) (enum_from S p.inside (suc p.at.statement) lines) refl
      (enum_free p.inside (suc p.at.statement) lines))

  -- ---- procedures

  plain_free : (p : Placed) (body : Nodes) (q : Procedure) (name : List ℕ) → is_free_name name ≡ true → is_free_member (plain_member P S p body q name) ≡ true
  plain_free p body q name h = by (is_function q.kind)
    where
      by : (b : Bool)
          → is_free_member (net.proc (cond b (procedure_with P S p body (head_of S q name) EndFunction) (procedure_with P S p body (head_of S q name) EndSub))) ≡ true
      by true = head_free S q name h
      by false = head_free S q name h

  property_free : (ps : List Placed) (p : Placed) (body : Nodes) (q : Procedure) → is_free_member (property_member P S ps p body q) ≡ true
  property_free ps p body q =
      one_free (is_counted S.declarations p.at.procedure q) (property_of P S ps p.at.procedure q) (only_part P S p body q)
      (procedure_name_free S.declarations F p.at.procedure)
      (one_free (is_function q.kind) (joined_property S q (procedure_name S.declarations p.at.procedure) (own_part P S p body q) no_part)
      (joined_property S q (procedure_name S.declarations p.at.procedure) no_part (own_part P S p body q))
      (procedure_name_free S.declarations F p.at.procedure) (procedure_name_free S.declarations F p.at.procedure))

  by_free : (ps : List Placed) (p : Placed) (body : Nodes) (q : Procedure) → is_free_name q.name ≡ true → is_free_member (member_by P S ps p body q) ≡ true
  by_free ps p body q h =
      let name = separate_name q.kind (procedure_name S.declarations p.at.procedure) in
      let separate = plain_free p body q name (separate_free q.kind (procedure_name S.declarations p.at.procedure) (procedure_name_free S.declarations F p.at.procedure)) in
      one_free (not (is_property_kind q.kind)) (plain_member P S p body q q.name)
      (cond (is_separate S q) (plain_member P S p body q name) (property_member P S ps p body q)) (plain_free p body q q.name h)
      (one_free (is_separate S q) (plain_member P S p body q name) (property_member P S ps p body q) separate (property_free ps p body q))

  procedures_free : (ps : List Placed) (p : Placed) (head : source.Line) (body : Nodes)
      → list_all is_free_member (procedure_members P S ps p head body (slice_get S.declarations.procs p.at.procedure)) ≡ true
  procedures_free ps p head body = by (slice_get S.declarations.procs p.at.procedure) refl
    where
      by : (o : Option Procedure) → slice_get S.declarations.procs p.at.procedure ≡ o → list_all is_free_member (procedure_members P S ps p head body o) ≡ true
      by None e = refl
      by (Some q) e =
          all_cond is_free_member (stays_inside S p.at.procedure q) [] (member_comments (head_comments S p head) ++ member_by P S ps p body q ∷ []) refl
          (all_append is_free_member (member_comments (head_comments S p head)) (member_by P S ps p body q ∷ []) (comments_free (head_comments S p head))
          (and_true (is_free_member (member_by P S ps p body q)) true (by_free ps p body q (procedure_free S.declarations F p.at.procedure q e)) refl))

  -- ---- members

  at_free : (ps : List Placed) (p : Placed) (m : Member) → list_all is_free_member (written_at P S ps p m) ≡ true
  at_free ps p (alone l) =
      all_append is_free_member (member_comments (texts p.own)) (line_members S p.at.statement l) (comments_free (texts p.own)) (line_free p.at.statement l)
  at_free ps p (group head lines close) =
      all_append is_free_member (member_comments (texts p.own)) (group_members S p head lines) (comments_free (texts p.own)) (group_free p head lines)
  at_free ps p (proc head body close) = procedures_free ps p head body

  pub members_free : (at : Numbers) (cs : List Comment) (ms : List Member) → list_all is_free_member (written_members P S at cs ms) ≡ true
  members_free at cs ms =
      let ps = placed_members at cs ms in
      all_append is_free_member (flat_map (written_member P S ps) ps) (member_comments (texts (last_comments cs ms)))
      (all_flat is_free_member (written_member P S ps) ps
      (λ p. all_append is_free_member (member_comments (texts p.earlier)) (written_at P S ps p p.member) (comments_free (texts p.earlier)) (at_free ps p p.member)))
      (comments_free (texts (last_comments cs ms)))

-- ---- modules

makers_free : (b : Bool) → list_all is_free_member (makers b) ≡ true
makers_free true = refl
makers_free false = refl

pub modules_free : (P : Program) (facts : Facts) → HasFreeNames P.declarations → (at : Numbers) (ms : List Module)
    → list_all has_free_members (modules_from P facts at ms) ≡ true
modules_free P facts F at [] = refl
modules_free P facts F at (m ∷ ms) =
    let written = written_members P (module_scope P facts m) at m.comments m.members in
    and_true (has_free_members (written_module P facts at m)) (list_all has_free_members (modules_from P facts (next_module (behind_members at m.members)) ms))
    (all_append is_free_member (makers (has_initializer P.declarations m.file m)) written (makers_free (has_initializer P.declarations m.file m))
    (members_free P (module_scope P facts m) F at m.comments m.members))
    (modules_free P facts F (next_module (behind_members at m.members)) ms)

pub module_names_free : (P : Program) (facts : Facts) (at : Numbers) (ms : List Module) → list_all (λ (m : Module). is_free_name m.name) ms ≡ true
    → list_all (λ (m : net.Module). is_free_name m.name) (modules_from P facts at ms) ≡ true
module_names_free P facts at [] h = refl
module_names_free P facts at (m ∷ ms) h =
    let b = both_true (is_free_name m.name) (list_all (λ (m : Module). is_free_name m.name) ms) h in
    and_true (is_free_name m.name) (list_all (λ (m : net.Module). is_free_name m.name) (modules_from P facts (next_module (behind_members at m.members)) ms)) b.0
    (module_names_free P facts (next_module (behind_members at m.members)) ms b.1)
