-- What is written under names that aren't reserved.
use Rattle.std.specs.Prelude.{Bool, true, Option, Some, None}
use Rattle.std.specs.List.{list_all}
use Rattle.net_tree.specs.Tree.{Head, sub, function, sub_new, get_part, set_part, Property, Member, member_comment, variable, const_member, structure, property, proc, Module}
use Rattle.net_run.specs.Members.{Code}
use Rattle.run_matches.specs.Covered.{is_free_name}

abbrev pub is_free_head : Head → Bool
is_free_head (sub visibility name params) = is_free_name name
is_free_head (function visibility name params ty) = is_free_name name
is_free_head sub_new = true
is_free_head get_part = true
is_free_head (set_part name ty) = true

-- a structure names a type alone
abbrev pub is_free_member : Member → Bool
is_free_member (member_comment units) = true
is_free_member (variable visibility v) = is_free_name v.name
is_free_member (const_member visibility c) = is_free_name c.name
is_free_member (structure s) = true
is_free_member (property p) = is_free_name p.name
is_free_member (proc p) = is_free_head p.head

abbrev pub has_free_members : Module → Bool
has_free_members m = list_all is_free_member m.members

-- a part of a property has the name of that
abbrev pub is_free_by : Option Property → Head → Bool
is_free_by None head = is_free_head head
is_free_by (Some p) head = is_free_name p.name

abbrev pub is_free_code : Code → Bool
is_free_code c = is_free_by c.property c.procedure.head
