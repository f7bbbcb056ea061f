-- The structures among the members that are written for a module: one for each Type, in order.
use Rattle.std.proofs.Common.{◌≡◌, refl, ap, sym, subst, ◌∙◌, ℕ, zero, suc, ◌+◌, ◌<◌, Bool, true, false, cond, not, List, [], ◌∷◌, ◌++◌, length, map, Option, Some, None, slice_get, append-nil, arith, inl, inr}
use Rattle.std.specs.Prelude.{filter, sum_by}
use Rattle.std.specs.List.{flat_map, list_all}
use Rattle.std.proofs.lemmas.List.Sums.{sum_by-cons}
use Rattle.vb_tree.specs.declared.value.Value6.{Value6}
use Rattle.vb_tree.specs.Tree.{Form, Nodes, Module, Member, alone, group, proc}
use Rattle.vb_tree.specs.Tree as source
use Rattle.bound_tree.specs.Tree.{Constant, Procedure, Program}
use Rattle.net_tree.specs.declared.declaration.NetVisibility.{NetVisibility}
use Rattle.net_tree.specs.Tree as net
use Rattle.written_trees.specs.Arguments.{is_property_kind}
use Rattle.written_trees.specs.Comments.{Comment, up_to, past, texts, upgrade_texts}
use Rattle.written_trees.specs.DeclaredMembers.{member_comments, module_variable, module_constant, constant_by, declared_members, statement_comments, line_members, structure_of, enum_constants, enum_from, group_rules, group_members, is_standard}
use Rattle.written_trees.specs.Facts.{Facts}
use Rattle.written_trees.specs.Heads.{is_function}
use Rattle.written_trees.specs.Members.{plain_member, property_member, member_by, stays_inside, procedure_members, written_at, written_member, written_members}
use Rattle.written_trees.specs.Names.{Scope, procedure_name}
use Rattle.written_trees.specs.Placing.{Numbers, Placed, placed_members, place_member, behind_member, behind_members, counts_group, last_comments, last_line, is_type_head}
use Rattle.written_trees.specs.Projects.{has_initializer, makers, module_scope, next_module, written_module, modules_from}
use Rattle.written_trees.specs.Properties.{is_counted, is_separate, separate_name, head_comments, joined_property, property_of, only_part, own_part, no_part}
use Rattle.written_trees.specs.Prologues.{constants_of, one_if, sound_value, variables_of}
use Rattle.net_run.specs.Shapes.{is_structure}
use Rattle.run_matches.specs.Shared.{placed_from}
use Rattle.name_laws.proofs.Lists.{Among, all_append, all_cond, all_mapped, and_true, both_true, some_same}
use Rattle.name_laws.proofs.Looked.{not_true}
use Rattle.name_laws.proofs.Others.{one_passes}

-- ---- lists

filter_append : {X : Type 0} (test : X → Bool) (xs ys : List X) → filter test (xs ++ ys) ≡ filter test xs ++ filter test ys
filter_append test [] ys = refl
filter_append {X} test (x ∷ xs) ys = by (test x) (filter_append test xs ys)
  where
    by : (b : Bool) → filter test (xs ++ ys) ≡ filter test xs ++ filter test ys
        → cond b (x ∷ filter test (xs ++ ys)) (filter test (xs ++ ys)) ≡ cond b (x ∷ filter test xs) (filter test xs) ++ filter test ys
    by true e = ap (λ (zs : List X). x ∷ zs) e
    by false e = e

filter_none : {X : Type 0} (test : X → Bool) (xs : List X) → list_all (λ (x : X). not (test x)) xs ≡ true → filter test xs ≡ []
filter_none test [] h = refl
filter_none {X} test (x ∷ xs) h =
    let b = both_true (not (test x)) (list_all (λ (x : X). not (test x)) xs) h in
    ap (λ t. cond t (x ∷ filter test xs) (filter test xs)) (not_true (test x) b.0) ∙ filter_none test xs b.1

filter_flat : {X Y : Type 0} (test : Y → Bool) (f g : X → List Y) → ((x : X) → filter test (f x) ≡ g x) → (xs : List X)
    → filter test (flat_map f xs) ≡ flat_map g xs
filter_flat test f g same [] = refl
filter_flat test f g same (x ∷ xs) =
    filter_append test (f x) (flat_map f xs) ∙ ap (λ zs. zs ++ filter test (flat_map f xs)) (same x)
    ∙ ap (λ zs. g x ++ zs) (filter_flat test f g same xs)

pub filter_among : {X : Type 0} (test : X → Bool) (xs : List X) (x : X) → Among xs x → test x ≡ true → Among (filter test xs) x
filter_among test [] x h e = h
filter_among {X} test (y ∷ ys) x (inl h) e = by (test y) (ap test h ∙ e)
  where
    by : (b : Bool) → b ≡ true → Among (cond b (y ∷ filter test ys) (filter test ys)) x
    by true q = inl h
    by false q = absurd (cc q)
filter_among {X} test (y ∷ ys) x (inr h) e = by (test y) (filter_among test ys x h e)
  where
    by : (b : Bool) → Among (filter test ys) x → Among (cond b (y ∷ filter test ys) (filter test ys)) x
    by true m = inr m
    by false m = m

pub among_filter : {X : Type 0} (test : X → Bool) (xs : List X) (x : X) → Among (filter test xs) x → Among xs x × (test x ≡ true)
among_filter test [] x h = absurd h
among_filter {X} test (y ∷ ys) x h = by (test y) refl h (λ m. among_filter test ys x m)
  where
    by : (b : Bool) → test y ≡ b → Among (cond b (y ∷ filter test ys) (filter test ys)) x → (Among (filter test ys) x → Among ys x × (test x ≡ true))
        → Among (y ∷ ys) x × (test x ≡ true)
    by true e (inl q) more = (inl q, sym (ap test q) ∙ e)
    by true e (inr m) more = let z = more m in (inr z.0, z.1)
    by false e m more = let z = more m in (inr z.0, z.1)

-- ---- members

abbrev is_none : net.Member → Bool
is_none m = not (is_structure m)

-- the structure of a Type
abbrev pub own_structures : Scope → Placed → Member → List net.Member
own_structures S p (alone l) = []
own_structures S p (group head lines close) = cond (is_type_head head.form) (structure_of S p lines ∷ []) []
own_structures S p (proc head body close) = []

abbrev pub structures_of : Scope → Placed → List net.Member
structures_of S p = own_structures S p p.member

comments_none : (units : List (List ℕ)) → list_all is_none (member_comments units) ≡ true
comments_none units = all_mapped is_none net.member_comment units (λ u. refl)

before_comments : (units : List (List ℕ)) (ms : List net.Member) → filter is_structure (member_comments units ++ ms) ≡ filter is_structure ms
before_comments units ms =
    filter_append is_structure (member_comments units) ms
    ∙ ap (λ (zs : List net.Member). zs ++ filter is_structure ms) (filter_none is_structure (member_comments units) (comments_none units))

module _ (P : Program) (S : Scope) where
  constant_none : (seen : NetVisibility) (c : ℕ × Constant) → is_none (module_constant S seen c) ≡ true
  constant_none seen c = by (sound_value S.facts c)
    where
      by : (o : Option Value6) → is_none (constant_by S seen c.1 o) ≡ true
      by None = refl
      by (Some x) = refl

  declared_none : (n : ℕ) (f : Form) → list_all is_none (declared_members S n f) ≡ true
  declared_none n (source.variables w declarators) =
      all_mapped is_none (module_variable S _) (variables_of S.declarations S.file n) (λ v. refl)
  declared_none n (source.constants visibility items) =
      all_mapped is_none (module_constant S _) (constants_of S.declarations S.file n) (λ c. constant_none _ c)
  declared_none n _ = refl

  enum_none : (cs : List Comment) (n : ℕ) (lines : List source.Line) → list_all is_none (enum_from S cs n lines) ≡ true
  enum_none cs n [] = comments_none (texts cs)
  enum_none cs n (l ∷ ls) =
      let rest = enum_none (past l.place.line cs) (suc n) ls in
      let own = all_cond is_none (is_standard S) (map (module_constant S _) (constants_of S.declarations S.file n)) []
      (all_mapped is_none (module_constant S _) (constants_of S.declarations S.file n) (λ c. constant_none _ c)) refl in
      all_append is_none (member_comments (texts (up_to l.place.line cs)))
      (member_comments (statement_comments S n l) ++ (enum_constants S n ++ enum_from S (past l.place.line cs) (suc n) ls))
      (comments_none (texts (up_to l.place.line cs)))
      (all_append is_none (member_comments (statement_comments S n l)) (enum_constants S n ++ enum_from S (past l.place.line cs) (suc n) ls)
      (comments_none (statement_comments S n l)) (all_append is_none (enum_constants S n) (enum_from S (past l.place.line cs) (suc n) ls) own rest))

  plain_none : (p : Placed) (body : Nodes) (q : Procedure) (name : List ℕ) → is_none (plain_member P S p body q name) ≡ true
  plain_none p body q name = refl

  property_none : (ps : List Placed) (p : Placed) (body : Nodes) (q : Procedure) → is_none (property_member P S ps p body q) ≡ true
  property_none ps p body q =
      one_passes is_none (is_counted S.declarations p.at.procedure q) (property_of P S ps p.at.procedure q) (only_part P S p body q) refl
      (one_passes is_none (is_function q.kind) (joined_property S q (procedure_name S.declarations p.at.procedure) (own_part P S p body q) no_part)
      (joined_property S q (procedure_name S.declarations p.at.procedure) no_part (own_part P S p body q)) refl refl)

  by_none : (ps : List Placed) (p : Placed) (body : Nodes) (q : Procedure) → is_none (member_by P S ps p body q) ≡ true
  by_none ps p body q =
      let name = separate_name q.kind (procedure_name S.declarations p.at.procedure) in
      one_passes is_none (not (is_property_kind q.kind)) (plain_member P S p body q q.name)
      (cond (is_separate S q) (plain_member P S p body q name) (property_member P S ps p body q)) refl
      (one_passes is_none (is_separate S q) (plain_member P S p body q name) (property_member P S ps p body q) refl (property_none ps p body q))

  procedures_none : (ps : List Placed) (p : Placed) (head : source.Line) (body : Nodes) (o : Option Procedure)
      → list_all is_none (procedure_members P S ps p head body o) ≡ true
  procedures_none ps p head body None = refl
  procedures_none ps p head body (Some q) =
      all_cond is_none (stays_inside S p.at.procedure q) [] (member_comments (head_comments S p head) ++ member_by P S ps p body q ∷ []) refl
      (all_append is_none (member_comments (head_comments S p head)) (member_by P S ps p body q ∷ []) (comments_none (head_comments S p head))
      (and_true (is_none (member_by P S ps p body q)) true (by_none ps p body q) refl))

  group_structures : (p : Placed) (head : source.Line) (lines : List source.Line) (b : Bool)
      → filter is_structure (cond b (structure_of S p lines ∷ []) (enum_from S p.inside (suc p.at.statement) lines)) ≡ cond b (structure_of S p lines ∷ []) []
  group_structures p head lines true = refl
  group_structures p head lines false =
      filter_none is_structure (enum_from S p.inside (suc p.at.statement) lines) (enum_none p.inside (suc p.at.statement) lines)

  at_structures : (ps : List Placed) (p : Placed) (m : Member) → filter is_structure (written_at P S ps p m) ≡ own_structures S p m
  at_structures ps p (alone l) =
      before_comments (texts p.own) (line_members S p.at.statement l)
      ∙ before_comments (statement_comments S p.at.statement l) (declared_members S p.at.statement l.form)
      ∙ filter_none is_structure (declared_members S p.at.statement l.form) (declared_none p.at.statement l.form)
  at_structures ps p (group head lines close) =
      before_comments (texts p.own) (group_members S p head lines)
      ∙ before_comments (upgrade_texts (group_rules S p head.form) head.text)
      (cond (is_type_head head.form) (structure_of S p lines ∷ []) (enum_from S p.inside (suc p.at.statement) lines))
      ∙ group_structures p head lines (is_type_head head.form)
  at_structures ps p (proc head body close) =
      filter_none is_structure (procedure_members P S ps p head body (slice_get S.declarations.procs p.at.procedure))
      (procedures_none ps p head body (slice_get S.declarations.procs p.at.procedure))

  member_structures : (ps : List Placed) (p : Placed) → filter is_structure (written_member P S ps p) ≡ structures_of S p
  member_structures ps p = before_comments (texts p.earlier) (written_at P S ps p p.member) ∙ at_structures ps p p.member

  -- the structures that are written are those of the Types
  pub members_structures : (at : Numbers) (cs : List Comment) (ms : List Member)
      → filter is_structure (written_members P S at cs ms) ≡ flat_map (structures_of S) (placed_members at cs ms)
  members_structures at cs ms =
      let ps = placed_members at cs ms in
      filter_append is_structure (flat_map (written_member P S ps) ps) (member_comments (texts (last_comments cs ms)))
      ∙ ap (λ (zs : List net.Member). zs ++ filter is_structure (member_comments (texts (last_comments cs ms))))
      (filter_flat is_structure (written_member P S ps) (structures_of S) (member_structures ps) ps)
      ∙ ap (λ (zs : List net.Member). flat_map (structures_of S) ps ++ zs)
      (filter_none is_structure (member_comments (texts (last_comments cs ms))) (comments_none (texts (last_comments cs ms))))
      ∙ append-nil (flat_map (structures_of S) ps)

-- ---- how many there are

count_member : (S : Scope) (at : Numbers) (cs : List Comment) (m : Member) → length (structures_of S (place_member at cs m)) ≡ counts_group is_type_head m
count_member S at cs (alone l) = refl
count_member S at cs (group head lines close) = by (is_type_head head.form)
  where
    by : (b : Bool) → length (cond b (structure_of S (place_member at cs (group head lines close)) lines ∷ []) []) ≡ one_if b
    by true = refl
    by false = refl
count_member S at cs (proc head body close) = refl

length_append : {X : Type 0} (xs ys : List X) → length (xs ++ ys) ≡ length xs + length ys
length_append [] ys = omega arith
length_append (x ∷ xs) ys = let h = length_append xs ys in omega (arith, h)

-- behind the members of a module as many Types are counted as structures are written
count_members : (S : Scope) (at : Numbers) (cs : List Comment) (ms : List Member)
    → (behind_members at ms).user_type ≡ at.user_type + length (flat_map (structures_of S) (placed_members at cs ms))
count_members S at cs [] = omega arith
count_members S at cs (m ∷ ms) =
    let own = structures_of S (place_member at cs m) in
    let rest = flat_map (structures_of S) (placed_members (behind_member at m) (past (last_line m) cs) ms) in
    let one = count_member S at cs m in
    let more = count_members S (behind_member at m) (past (last_line m) cs) ms in
    let all = length_append own rest in
    omega (arith, one, more, all)

-- a Type among the members is numbered below that
number_below : (S : Scope) (at : Numbers) (cs : List Comment) (ms : List Member) (p : Placed) → Among (placed_members at cs ms) p
    → length (structures_of S p) ≡ 1 → p.at.user_type < at.user_type + length (flat_map (structures_of S) (placed_members at cs ms))
number_below S at cs [] p h e = absurd h
number_below S at cs (m ∷ ms) p (inl h) e =
    let own = structures_of S (place_member at cs m) in
    let rest = flat_map (structures_of S) (placed_members (behind_member at m) (past (last_line m) cs) ms) in
    let one : length own ≡ 1 = ap (λ z. length (structures_of S z)) h ∙ e in
    let here : p.at.user_type ≡ at.user_type = ap (λ (z : Placed). z.at.user_type) (sym h) in
    let all = length_append own rest in
    omega (arith, one, here, all)
number_below S at cs (m ∷ ms) p (inr h) e =
    let own = structures_of S (place_member at cs m) in
    let rest = flat_map (structures_of S) (placed_members (behind_member at m) (past (last_line m) cs) ms) in
    let one = count_member S at cs m in
    let more = number_below S (behind_member at m) (past (last_line m) cs) ms p h e in
    let all = length_append own rest in
    omega (arith, one, more, all)

abbrev pub count_structures : List net.Module → ℕ
count_structures ms = sum_by (λ (m : net.Module). length (filter is_structure m.members)) ms

module _ (P : Program) (F : Facts) where
  makers_none : (b : Bool) → filter is_structure (makers b) ≡ []
  makers_none true = refl
  makers_none false = refl

  pub module_structures : (at : Numbers) (m : Module) → filter is_structure (written_module P F at m).members
      ≡ flat_map (structures_of (module_scope P F m)) (placed_members at m.comments m.members)
  module_structures at m =
      let made = makers (has_initializer P.declarations m.file m) in
      let rest = written_members P (module_scope P F m) at m.comments m.members in
      filter_append is_structure made rest
      ∙ ap (λ (zs : List net.Member). zs ++ filter is_structure rest) (makers_none (has_initializer P.declarations m.file m))
      ∙ members_structures P (module_scope P F m) at m.comments m.members

  count_first : (at : Numbers) (m : Module) (ms : List Module) → count_structures (modules_from P F at (m ∷ ms))
      ≡ length (filter is_structure (written_module P F at m).members) + count_structures (modules_from P F (next_module (behind_members at m.members)) ms)
  count_first at m ms =
      sum_by-cons (λ (m : net.Module). length (filter is_structure m.members)) (written_module P F at m)
      (modules_from P F (next_module (behind_members at m.members)) ms)

  -- the number of a Type is below that of the structures in the written modules
  pub type_below : (at : Numbers) (ms : List Module) (k : ℕ) (m : Module × List Placed) → placed_from at ms k ≡ Some m → (p : Placed) → Among m.1 p
      → length (structures_of (module_scope P F m.0) p) ≡ 1 → p.at.user_type < at.user_type + count_structures (modules_from P F at ms)
  type_below at [] k m e p a h = absurd (cc e)
  type_below at (n ∷ ms) zero m e p a h =
      let S = module_scope P F n in
      let same : (n, placed_members at n.comments n.members) ≡ m = some_same (n, placed_members at n.comments n.members) m e in
      let among : Among (placed_members at n.comments n.members) p = subst (λ (z : Module × List Placed). Among z.1 p) (sym same) a in
      let one : length (structures_of S p) ≡ 1 = subst (λ (z : Module × List Placed). length (structures_of (module_scope P F z.0) p) ≡ 1) (sym same) h in
      let below = number_below S at n.comments n.members p among one in
      let count = ap length (module_structures at n) in
      omega (arith, below, count, count_first at n ms)
  type_below at (n ∷ ms) (suc k) m e p a h =
      let S = module_scope P F n in
      let more = type_below (next_module (behind_members at n.members)) ms k m e p a h in
      let behind = count_members S at n.comments n.members in
      let count = ap length (module_structures at n) in
      omega (arith, more, behind, count, count_first at n ms)
