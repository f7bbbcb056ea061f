-- The comments in the bodies and before the parts of properties.
use Rattle.std.proofs.Common.{ℕ, suc, Bool, true, false, not, ◌&&◌, cond, nat_eq, List, [], ◌∷◌, ◌++◌, Option, Some, None, refl, subst, append-nil}
use Rattle.std.specs.Prelude.{slice_get}
use Rattle.up_base.proofs.Lists.{by_test}
use Rattle.vb_tree.specs.FlatLines.{flat_lines}
use Rattle.vb_tree.specs.Tree.{Member, alone, group, proc, Nodes}
use Rattle.vb_tree.specs.Tree as source
use Rattle.bound_tree.specs.Labels.{labels}
use Rattle.bound_tree.specs.Tree.{Procedure, Program}
use Rattle.net_tree.specs.declared.declaration.NetClose.{NetClose}
use Rattle.net_tree.specs.declared.declaration.NetClose.TheVariants.{EndGet, EndSet}
use Rattle.net_tree.specs.Tree as net
use Rattle.written_trees.specs.Bodies.{lines_in, procedure_with}
use Rattle.written_trees.specs.Comments.{texts, upgrade_texts}
use Rattle.written_trees.specs.Heads.{is_function, set_head}
use Rattle.written_trees.specs.Names.{Scope}
use Rattle.written_trees.specs.Placing.{Placed}
use Rattle.written_trees.specs.Properties.{head_comments, head_rules, is_procedure_member, part_among, part_at, part_by, part_procedure}
use Rattle.correspondence.specs.Comments.{PartAt, PartComments, PartOf, PartStands, body_upgrades, comments_of_lines, placed_at}
use Rattle.correspondence.specs.Lists.{Merges}
use Rattle.correspondence.proofs.BodyComments.{body_merges}
use Rattle.correspondence.proofs.Merging.{first_then, merges_second}
use Rattle.correspondence.proofs.PlacedBodies.{HasBodyAt, HasPlacedBody, HavePlacedBodies}

pub inside_merges : (P : Program) (S : Scope) (p : Placed) (body : Nodes) → HasBodyAt P p body → (h : net.Head) (c : NetClose)
    → Merges (texts p.inside) (body_upgrades S p.at.procedure (suc p.at.statement) 0 (flat_lines body)) (comments_of_lines (procedure_with P S p body h c).lines)
inside_merges P S p body b h c =
    body_merges S p.at.procedure p.at.procedure (labels (flat_lines body)) p.inside (suc p.at.statement) 0 0 (flat_lines body)
    (lines_in (slice_get P.bodies p.at.procedure)) b

pub part_merges : (P : Program) (S : Scope) (p : Placed) (body : Nodes) → HasBodyAt P p body → (q : Procedure)
    → Merges (texts p.inside) (body_upgrades S p.at.procedure (suc p.at.statement) 0 (flat_lines body)) (comments_of_lines (part_procedure P S p body q).lines)
part_merges P S p body b q = by (is_function q.kind)
  where
    by : (f : Bool)
        → Merges (texts p.inside) (body_upgrades S p.at.procedure (suc p.at.statement) 0 (flat_lines body))
        (comments_of_lines (cond f (procedure_with P S p body net.get_part EndGet) (procedure_with P S p body (set_head S q) EndSet)).lines)
    by true = inside_merges P S p body b net.get_part EndGet
    by false = inside_merges P S p body b (set_head S q) EndSet

own_notes : (S : Scope) (later : Bool) (p : Placed) (head : source.Line) → PartComments S later p head (cond later (head_comments S p head) [])
own_notes S false p head = refl
own_notes S true p head =
    let us = upgrade_texts (head_rules S p) head.text in
    subst (λ (xs : List (List ℕ)). Merges xs us (texts p.own ++ us)) (append-nil (texts p.own)) (first_then (texts p.own) [] us us (merges_second us))

found_stands : (P : Program) (S : Scope) (later : Bool) (p : Placed) (x : Member) → HasPlacedBody P p x → (o : Option Procedure)
    → PartStands S later p x o (part_by P S later p x o).comments (part_by P S later p x o).procedure
found_stands P S later p (alone l) b o = (refl, refl)
found_stands P S later p (group head lines close) b o = (refl, refl)
found_stands P S later p (proc head body close) b None = (refl, refl)
found_stands P S later p (proc head body close) b (Some q) = (part_procedure P S p body q, refl, own_notes S later p head, part_merges P S p body b q)

among_stands : (P : Program) (S : Scope) (first n : ℕ) (ps : List Placed) → HavePlacedBodies P ps
    → PartOf S first n (placed_at n ps) (part_among P S first n ps).comments (part_among P S first n ps).procedure
among_stands P S first n [] h = (refl, refl)
among_stands P S first n (p ∷ ps) h =
    let later = not (nat_eq n first) in
    let here = part_by P S later p p.member (slice_get S.declarations.procs n) in
    by_test (is_procedure_member p.member && nat_eq p.at.procedure n)
    (λ t. PartOf S first n (cond t (Some p) (placed_at n ps)) (cond t here (part_among P S first n ps)).comments (cond t here (part_among P S first n ps)).procedure)
    (λ e. found_stands P S later p p.member h.0 (slice_get S.declarations.procs n))
    (λ e. among_stands P S first n ps h.1)

pub part_stands : (P : Program) (S : Scope) (ps : List Placed) → HavePlacedBodies P ps → (first : ℕ) (o : Option ℕ)
    → PartAt S ps first o (part_at P S first ps o).comments (part_at P S first ps o).procedure
part_stands P S ps h first None = (refl, refl)
part_stands P S ps h first (Some n) = among_stands P S first n ps h
