use Rattle.std.proofs.Common.{◌≡◌, ◌++◌, drop, map}
use Rattle.vb_tree.specs.View.{member_of}
use Rattle.declarations.specs.Finals.{suffixes_in, type_suffix}
use Rattle.declarations.proofs.groups.put_type_suffixes.Given as goal

abbrev pub invariant-loop-member : goal.invariant-loop-member
invariant-loop-member l =
    l.to.items ++ suffixes_in type_suffix (map member_of (drop l.member-index l.members))
    ≡ l.initial.to.items ++ suffixes_in type_suffix (map member_of l.members)
