-- What is written for what stands in a module, with comments.
use Rattle.std.specs.Prelude.{ℕ, nat_eq, Bool, not, cond, ◌&&◌, List, [], ◌∷◌, ◌++◌, Option, Some, None, slice_get}
use Rattle.std.specs.List.{flat_map}
use Rattle.vb_tree.specs.Tree.{Nodes, Member, alone, group, proc}
use Rattle.vb_tree.specs.Tree as source
use Rattle.bound_tree.specs.Tree.{Procedure, Program}
use Rattle.net_tree.specs.declared.declaration.NetClose.TheVariants.{EndSub, EndFunction}
use Rattle.net_tree.specs.Tree as net
use Rattle.written_trees.specs.Names.{Scope, procedure_name}
use Rattle.written_trees.specs.Arguments.{is_property_kind}
use Rattle.written_trees.specs.Comments.{Comment, texts}
use Rattle.written_trees.specs.Placing.{Numbers, Placed, placed_members, last_comments}
use Rattle.written_trees.specs.DeclaredMembers.{member_comments, line_members, group_members}
use Rattle.written_trees.specs.Heads.{is_function, head_of}
use Rattle.written_trees.specs.Bodies.{procedure_with}
use Rattle.written_trees.specs.Properties.{is_counted, is_separate, separate_name, head_comments, property_of, only_part}

-- ---- procedures as members

abbrev pub plain_member : Program → Scope → Placed → Nodes → Procedure → List ℕ → net.Member
plain_member P S p body q name =
    net.proc (cond (is_function q.kind) (procedure_with P S p body (head_of S q name) EndFunction) (procedure_with P S p body (head_of S q name) EndSub))

-- a later part stands in its property, and leaves the comments before its head
abbrev pub is_later : Scope → (procedure : ℕ) → Procedure → Bool
is_later S p q = is_counted S.declarations p q && not (nat_eq q.first.0 p)

abbrev pub property_member : Program → Scope → List Placed → Placed → Nodes → Procedure → net.Member
property_member P S ps p body q = cond (is_counted S.declarations p.at.procedure q) (property_of P S ps p.at.procedure q) (only_part P S p body q)

abbrev pub member_by : Program → Scope → List Placed → Placed → Nodes → Procedure → net.Member
member_by P S ps p body q =
    cond (not (is_property_kind q.kind)) (plain_member P S p body q q.name)
    (cond (is_separate S q) (plain_member P S p body q (separate_name q.kind (procedure_name S.declarations p.at.procedure))) (property_member P S ps p body q))

abbrev pub stays_inside : Scope → (procedure : ℕ) → Procedure → Bool
stays_inside S p q = is_property_kind q.kind && (not (is_separate S q) && is_later S p q)

abbrev pub procedure_members : Program → Scope → List Placed → Placed → (head : source.Line) → Nodes → Option Procedure → List net.Member
procedure_members P S ps p head body None = []
procedure_members P S ps p head body (Some q) =
    cond (stays_inside S p.at.procedure q) []
    (member_comments (head_comments S p head) ++ member_by P S ps p body q ∷ [])

-- ---- members

-- what is written for a member, one of the members `ps`
abbrev pub written_at : Program → Scope → List Placed → Placed → Member → List net.Member
written_at P S ps p (alone l) = member_comments (texts p.own) ++ line_members S p.at.statement l
written_at P S ps p (group head lines close) = member_comments (texts p.own) ++ group_members S p head lines
written_at P S ps p (proc head body close) = procedure_members P S ps p head body (slice_get S.declarations.procs p.at.procedure)

abbrev pub written_member : Program → Scope → List Placed → Placed → List net.Member
written_member P S ps p = member_comments (texts p.earlier) ++ written_at P S ps p p.member

-- the members of a module in order, and the comments behind the last one
abbrev pub written_members : Program → Scope → Numbers → List Comment → List Member → List net.Member
written_members P S at cs ms =
    let ps = placed_members at cs ms in
    flat_map (written_member P S ps) ps ++ member_comments (texts (last_comments cs ms))
