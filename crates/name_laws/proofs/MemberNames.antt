-- What is written in a module has the names that the module declares, and none more often.
use Rattle.std.proofs.Common.{◌≡◌, refl, sym, ap, subst, ℕ, zero, suc, ◌+◌, ◌≤◌, Bool, true, false, cond, not, ◌&&◌, List, [], ◌∷◌, ◌++◌, map, Option, Some, None, slice_get, arith}
use Rattle.std.specs.List.{flat_map}
use Rattle.up_base.specs.Names.{is_same_name}
use Rattle.vb_tree.specs.Tree.{Form, Member, Module, Nodes, alone, group, proc}
use Rattle.vb_tree.specs.Tree as source
use Rattle.vb_tree.specs.declared.value.Value6.{Value6}
use Rattle.bound_tree.specs.Tree.{Variable, Constant, Procedure, Program}
use Rattle.net_tree.specs.declared.declaration.NetClose.TheVariants.{EndFunction, EndSub}
use Rattle.net_tree.specs.declared.declaration.NetVisibility.{NetVisibility}
use Rattle.net_tree.specs.declared.declaration.NetVisibility.TheVariants as net_seen
use Rattle.net_tree.specs.Tree as net
use Rattle.written_trees.specs.Arguments.{is_property_kind}
use Rattle.written_trees.specs.Bodies.{procedure_with}
use Rattle.written_trees.specs.Comments.{Comment, past, texts, up_to, upgrade_texts}
use Rattle.written_trees.specs.DeclaredMembers.{constant_by, constant_visibility, declared_members, enum_constants, enum_from, group_members, group_rules, is_standard, line_members, member_comments, module_constant, module_variable, statement_comments, structure_of, word_visibility}
use Rattle.written_trees.specs.Facts.{Facts, is_flagged_variable}
use Rattle.written_trees.specs.Heads.{head_of, is_function, params_of, result_type, written_visibility}
use Rattle.written_trees.specs.Members.{member_by, plain_member, procedure_members, property_member, stays_inside, written_at, written_member, written_members}
use Rattle.written_trees.specs.Names.{Scope, procedure_name}
use Rattle.written_trees.specs.Placing.{Numbers, Placed, behind_members, is_type_head, last_comments, placed_members}
use Rattle.written_trees.specs.Projects.{has_initializer, makers, module_scope, modules_from, next_module, written_module}
use Rattle.written_trees.specs.Prologues.{constants_of, object_variable, one_if, sound_value, typed_variable, variables_of, written_variable}
use Rattle.written_trees.specs.Properties.{head_comments, is_counted, is_separate, joined_property, no_part, own_part, property_of, separate_name}
use Rattle.net_run.specs.Members.{is_head_named, is_member_named}
use Rattle.run_matches.specs.Callees.{count_named, enum_names, names_among, names_at, names_from, is_inner, procedure_names}
use Rattle.run_matches.specs.Sites.{own_constants, own_name, own_variables, statement_owns}
use Rattle.name_laws.proofs.Counting.{count_append, count_of}
use Rattle.name_laws.proofs.Lists.{map_append}

-- the members that have a name are no more than the names
abbrev pub AtMost : List ℕ → List net.Member → List (List ℕ) → Type 0
AtMost name ms ns = count_of (is_member_named name) ms ≤ count_named name ns

pub named_append : (name : List ℕ) (xs ys : List (List ℕ)) → count_named name (xs ++ ys) ≡ count_named name xs + count_named name ys
named_append name [] ys = omega arith
named_append name (x ∷ xs) ys = let h = named_append name xs ys in omega (arith, h)

module _ (name : List ℕ) where
  most_append : (ks bs : List net.Member) (xs ys : List (List ℕ)) → AtMost name ks xs → AtMost name bs ys → AtMost name (ks ++ bs) (xs ++ ys)
  most_append ks bs xs ys h k =
      let m = count_append (is_member_named name) ks bs in
      let n = named_append name xs ys in
      omega (arith, h, k, m, n)

  -- what has no names comes before
  most_behind : (ks bs : List net.Member) (xs : List (List ℕ)) → count_of (is_member_named name) ks ≡ 0 → AtMost name bs xs → AtMost name (ks ++ bs) xs
  most_behind ks bs xs h k = let m = count_append (is_member_named name) ks bs in omega (arith, h, k, m)

  most_left : (ks : List net.Member) (xs ys : List (List ℕ)) → AtMost name ks xs → AtMost name ks (xs ++ ys)
  most_left ks xs ys h = let n = named_append name xs ys in omega (arith, h, n)

  most_right : (ks : List net.Member) (xs ys : List (List ℕ)) → AtMost name ks ys → AtMost name ks (xs ++ ys)
  most_right ks xs ys h = let n = named_append name xs ys in omega (arith, h, n)

  none_at_all : (xs : List (List ℕ)) → AtMost name [] xs
  none_at_all xs = omega arith

  comments_none : (units : List (List ℕ)) → count_of (is_member_named name) (member_comments units) ≡ 0
  comments_none [] = refl
  comments_none (u ∷ us) = let h = comments_none us in omega (arith, h)

  -- one member, under one name
  most_one : (b c : Bool) (ks : List net.Member) (xs : List (List ℕ)) → b ≡ c → count_of (is_member_named name) ks ≤ count_named name xs
      → one_if b + count_of (is_member_named name) ks ≤ one_if c + count_named name xs
  most_one b c ks xs e h = let q = ap one_if e in omega (arith, q, h)

  -- ---- variables and constants

  variable_name : (S : Scope) (v : ℕ × Variable) → (written_variable S v).name ≡ v.1.name
  variable_name S v = by (is_flagged_variable S.facts v.0)
    where
      by : (b : Bool) → (cond b (object_variable v.1.name) (typed_variable S v.0 v.1)).name ≡ v.1.name
      by true = refl
      by false = refl

  variables_most : (S : Scope) (seen : NetVisibility) (vs : List (ℕ × Variable))
      → AtMost name (map (module_variable S seen) vs) (map own_name (own_variables vs))
  variables_most S seen [] = omega arith
  variables_most S seen (v ∷ vs) =
      most_one (is_same_name (written_variable S v).name name) (is_same_name v.1.name name) (map (module_variable S seen) vs) (map own_name (own_variables vs))
      (ap (λ n. is_same_name n name) (variable_name S v)) (variables_most S seen vs)

  constant_named : (S : Scope) (seen : NetVisibility) (c : Constant) (o : Option Value6) → is_member_named name (constant_by S seen c o) ≡ is_same_name c.name name
  constant_named S seen c None = refl
  constant_named S seen c (Some x) = refl

  constants_most : (S : Scope) (seen : NetVisibility) (cs : List (ℕ × Constant))
      → AtMost name (map (module_constant S seen) cs) (map own_name (own_constants cs))
  constants_most S seen [] = omega arith
  constants_most S seen (c ∷ cs) =
      most_one (is_member_named name (module_constant S seen c)) (is_same_name c.1.name name) (map (module_constant S seen) cs) (map own_name (own_constants cs))
      (constant_named S seen c.1 (sound_value S.facts c)) (constants_most S seen cs)

  -- what a line declares
  declared_most : (S : Scope) (n : ℕ) (f : Form)
      → AtMost name (declared_members S n f) (map own_name (own_variables (variables_of S.declarations S.file n)) ++ map own_name (own_constants (constants_of S.declarations S.file n)))
  declared_most S n (source.variables w declarators) =
      most_left (map (module_variable S (word_visibility w)) (variables_of S.declarations S.file n)) (map own_name (own_variables (variables_of S.declarations S.file n)))
      (map own_name (own_constants (constants_of S.declarations S.file n))) (variables_most S (word_visibility w) (variables_of S.declarations S.file n))
  declared_most S n (source.constants visibility items) =
      most_right (map (module_constant S (constant_visibility visibility)) (constants_of S.declarations S.file n))
      (map own_name (own_variables (variables_of S.declarations S.file n))) (map own_name (own_constants (constants_of S.declarations S.file n)))
      (constants_most S (constant_visibility visibility) (constants_of S.declarations S.file n))
  declared_most S n _ =
      none_at_all (map own_name (own_variables (variables_of S.declarations S.file n)) ++ map own_name (own_constants (constants_of S.declarations S.file n)))

  line_most : (S : Scope) (n : ℕ) (l : source.Line) → AtMost name (line_members S n l) (map own_name (statement_owns S.declarations S.file n))
  line_most S n l =
      let vs = own_variables (variables_of S.declarations S.file n) in
      let cs = own_constants (constants_of S.declarations S.file n) in
      subst (λ ns. AtMost name (line_members S n l) ns) (sym (map_append own_name vs cs))
      (most_behind (member_comments (statement_comments S n l)) (declared_members S n l.form) (map own_name vs ++ map own_name cs)
      (comments_none (statement_comments S n l)) (declared_most S n l.form))

  -- ---- Enums

  enum_most : (S : Scope) (n : ℕ) → AtMost name (enum_constants S n) (map own_name (own_constants (constants_of S.declarations S.file n)))
  enum_most S n = by (is_standard S)
    where
      by : (b : Bool) → AtMost name (cond b (map (module_constant S net_seen.Public) (constants_of S.declarations S.file n)) [])
          (map own_name (own_constants (constants_of S.declarations S.file n)))
      by true = constants_most S net_seen.Public (constants_of S.declarations S.file n)
      by false = none_at_all (map own_name (own_constants (constants_of S.declarations S.file n)))

  enum_lines : (S : Scope) (cs : List Comment) (n : ℕ) (lines : List source.Line) → AtMost name (enum_from S cs n lines) (enum_names S.declarations S.file n lines)
  enum_lines S cs n [] = let h = comments_none (texts cs) in omega (arith, h)
  enum_lines S cs n (l ∷ ls) =
      let rest = enum_from S (past l.place.line cs) (suc n) ls in
      let names = map own_name (own_constants (constants_of S.declarations S.file n)) ++ enum_names S.declarations S.file (suc n) ls in
      most_behind (member_comments (texts (up_to l.place.line cs))) (member_comments (statement_comments S n l) ++ (enum_constants S n ++ rest)) names
      (comments_none (texts (up_to l.place.line cs)))
      (most_behind (member_comments (statement_comments S n l)) (enum_constants S n ++ rest) names (comments_none (statement_comments S n l))
      (most_append (enum_constants S n) rest (map own_name (own_constants (constants_of S.declarations S.file n))) (enum_names S.declarations S.file (suc n) ls)
      (enum_most S n) (enum_lines S (past l.place.line cs) (suc n) ls)))

  group_most : (S : Scope) (p : Placed) (head : source.Line) (lines : List source.Line)
      → AtMost name (group_members S p head lines) (cond (is_type_head head.form) [] (enum_names S.declarations S.file (suc p.at.statement) lines))
  group_most S p head lines = by (is_type_head head.form)
    where
      by : (b : Bool) → AtMost name (member_comments (upgrade_texts (group_rules S p head.form) head.text)
          ++ cond b (structure_of S p lines ∷ []) (enum_from S p.inside (suc p.at.statement) lines))
          (cond b [] (enum_names S.declarations S.file (suc p.at.statement) lines))
      by true =
          most_behind (member_comments (upgrade_texts (group_rules S p head.form) head.text)) (structure_of S p lines ∷ []) []
          (comments_none (upgrade_texts (group_rules S p head.form) head.text)) (omega arith)
      by false =
          most_behind (member_comments (upgrade_texts (group_rules S p head.form) head.text)) (enum_from S p.inside (suc p.at.statement) lines)
          (enum_names S.declarations S.file (suc p.at.statement) lines) (comments_none (upgrade_texts (group_rules S p head.form) head.text))
          (enum_lines S p.inside (suc p.at.statement) lines)

  -- ---- procedures

  pub head_named : (S : Scope) (q : Procedure) (n : List ℕ) → is_head_named name (head_of S q n) ≡ is_same_name n name
  head_named S q n = by (is_function q.kind)
    where
      by : (b : Bool) → is_head_named name (cond b
          (net.function (written_visibility q.visibility) n (params_of S false q.params) (result_type S q))
          (net.sub (written_visibility q.visibility) n (params_of S false q.params))) ≡ is_same_name n name
      by true = refl
      by false = refl

  module _ (P : Program) (S : Scope) where
    plain_named : (p : Placed) (body : Nodes) (q : Procedure) (n : List ℕ) → is_member_named name (plain_member P S p body q n) ≡ is_same_name n name
    plain_named p body q n = by (is_function q.kind)
      where
        by : (b : Bool)
            → is_member_named name (net.proc (cond b (procedure_with P S p body (head_of S q n) EndFunction) (procedure_with P S p body (head_of S q n) EndSub)))
            ≡ is_same_name n name
        by true = head_named S q n
        by false = head_named S q n

    property_named : (ps : List Placed) (p : Placed) (body : Nodes) (q : Procedure)
        → is_member_named name (property_member P S ps p body q) ≡ is_same_name (procedure_name S.declarations p.at.procedure) name
    property_named ps p body q = by (is_counted S.declarations p.at.procedure q) (is_function q.kind)
      where
        by : (b c : Bool)
            → is_member_named name
            (cond b (property_of P S ps p.at.procedure q)
            (cond c (joined_property S q (procedure_name S.declarations p.at.procedure) (own_part P S p body q) no_part)
            (joined_property S q (procedure_name S.declarations p.at.procedure) no_part (own_part P S p body q))))
            ≡ is_same_name (procedure_name S.declarations p.at.procedure) name
        by true c = refl
        by false true = refl
        by false false = refl

    one_member : (m : net.Member) (n : List ℕ) (xs : List (List ℕ)) → is_member_named name m ≡ is_same_name n name → AtMost name (m ∷ []) (n ∷ xs)
    one_member m n xs e = let q = ap one_if e in omega (arith, q)

    one_more_name : (m : net.Member) (n : List ℕ) (xs : List (List ℕ)) → AtMost name (m ∷ []) xs → AtMost name (m ∷ []) (n ∷ xs)
    one_more_name m n xs h = omega (arith, h)

    by_most : (ps : List Placed) (p : Placed) (body : Nodes) (q : Procedure) → stays_inside S p.at.procedure q ≡ false
        → AtMost name (member_by P S ps p body q ∷ []) (procedure_names S.declarations p.at.procedure (Some q))
    by_most ps p body q = by (is_property_kind q.kind) (is_separate S q) (is_inner S.declarations p.at.procedure q)
      where
        n : List ℕ
        n = procedure_name S.declarations p.at.procedure

        by : (b c d : Bool) → (b && (not c && d)) ≡ false
            → AtMost name
            (cond (not b) (plain_member P S p body q q.name)
            (cond c (plain_member P S p body q (separate_name q.kind (procedure_name S.declarations p.at.procedure))) (property_member P S ps p body q)) ∷ [])
            (cond b (cond d [] (procedure_name S.declarations p.at.procedure ∷ []) ++ separate_name q.kind (procedure_name S.declarations p.at.procedure) ∷ [])
            (q.name ∷ []))
        by false c d h = one_member (plain_member P S p body q q.name) q.name [] (plain_named p body q q.name)
        by true true true h =
            one_member (plain_member P S p body q (separate_name q.kind n)) (separate_name q.kind n) [] (plain_named p body q (separate_name q.kind n))
        by true true false h =
            one_more_name (plain_member P S p body q (separate_name q.kind n)) n (separate_name q.kind n ∷ [])
            (one_member (plain_member P S p body q (separate_name q.kind n)) (separate_name q.kind n) [] (plain_named p body q (separate_name q.kind n)))
        by true false true h = absurd (cc h)
        by true false false h = one_member (property_member P S ps p body q) n (separate_name q.kind n ∷ []) (property_named ps p body q)

    procedures_most : (ps : List Placed) (p : Placed) (head : source.Line) (body : Nodes) (o : Option Procedure)
        → AtMost name (procedure_members P S ps p head body o) (procedure_names S.declarations p.at.procedure o)
    procedures_most ps p head body None = none_at_all []
    procedures_most ps p head body (Some q) = by (stays_inside S p.at.procedure q) refl
      where
        by : (b : Bool) → stays_inside S p.at.procedure q ≡ b → AtMost name (cond b [] (member_comments (head_comments S p head) ++ member_by P S ps p body q ∷ []))
            (procedure_names S.declarations p.at.procedure (Some q))
        by true e = none_at_all (procedure_names S.declarations p.at.procedure (Some q))
        by false e =
            most_behind (member_comments (head_comments S p head)) (member_by P S ps p body q ∷ []) (procedure_names S.declarations p.at.procedure (Some q))
            (comments_none (head_comments S p head)) (by_most ps p body q e)

    -- ---- members

    at_most : (ps : List Placed) (p : Placed) (m : Member) → AtMost name (written_at P S ps p m) (names_at S.declarations S.file p.at m)
    at_most ps p (alone l) =
        most_behind (member_comments (texts p.own)) (line_members S p.at.statement l) (map own_name (statement_owns S.declarations S.file p.at.statement))
        (comments_none (texts p.own)) (line_most S p.at.statement l)
    at_most ps p (group head lines close) =
        most_behind (member_comments (texts p.own)) (group_members S p head lines) (cond (is_type_head head.form) [] (enum_names S.declarations S.file (suc p.at.statement) lines))
        (comments_none (texts p.own)) (group_most S p head lines)
    at_most ps p (proc head body close) = procedures_most ps p head body (slice_get S.declarations.procs p.at.procedure)

    placed_most : (all ps : List Placed)
        → AtMost name (flat_map (written_member P S all) ps) (flat_map (λ (p : Placed). names_at S.declarations S.file p.at p.member) ps)
    placed_most all [] = none_at_all []
    placed_most all (p ∷ ps) =
        most_append (written_member P S all p) (flat_map (written_member P S all) ps) (names_at S.declarations S.file p.at p.member)
        (flat_map (λ (p : Placed). names_at S.declarations S.file p.at p.member) ps)
        (most_behind (member_comments (texts p.earlier)) (written_at P S all p p.member) (names_at S.declarations S.file p.at p.member)
        (comments_none (texts p.earlier)) (at_most all p p.member)) (placed_most all ps)

    members_most : (at : Numbers) (cs : List Comment) (ms : List Member)
        → AtMost name (written_members P S at cs ms) (flat_map (λ (p : Placed). names_at S.declarations S.file p.at p.member) (placed_members at cs ms))
    members_most at cs ms =
        let ps = placed_members at cs ms in
        let h = placed_most ps ps in
        let m = count_append (is_member_named name) (flat_map (written_member P S ps) ps) (member_comments (texts (last_comments cs ms))) in
        let none = comments_none (texts (last_comments cs ms)) in
        omega (arith, h, m, none)

  -- ---- modules

  makers_none : (b : Bool) → count_of (is_member_named name) (makers b) ≡ 0
  makers_none true = refl
  makers_none false = refl

  module_most : (P : Program) (F : Facts) (at : Numbers) (m : Module) → AtMost name (written_module P F at m).members (names_from P.declarations at m)
  module_most P F at m =
      most_behind (makers (has_initializer P.declarations m.file m)) (written_members P (module_scope P F m) at m.comments m.members) (names_from P.declarations at m)
      (makers_none (has_initializer P.declarations m.file m)) (members_most P (module_scope P F m) at m.comments m.members)

  pub modules_most : (P : Program) (F : Facts) (at : Numbers) (ms : List Module) (home : ℕ) (w : net.Module) → slice_get (modules_from P F at ms) home ≡ Some w
      → AtMost name w.members (names_among P.declarations at ms home)
  modules_most P F at [] home w e = absurd (cc e)
  modules_most P F at (m ∷ ms) zero w e =
      let is : written_module P F at m ≡ w = cc e in
      subst (λ (x : net.Module). AtMost name x.members (names_from P.declarations at m)) is (module_most P F at m)
  modules_most P F at (m ∷ ms) (suc home) w e = modules_most P F (next_module (behind_members at m.members)) ms home w e
