-- The lines that are bound in the procedures that stand among the members of a module.
use Rattle.std.proofs.Common.{◌≡◌, ℕ, suc, List, [], ◌∷◌, ◌++◌, map, Option, Some, refl, ap, ◌∙◌}
use Rattle.std.specs.List.{flat_map}
use Rattle.std.specs.Prelude.{slice_get}
use Rattle.vb_tree.specs.FlatLines.{code_lines, flat_lines}
use Rattle.vb_tree.specs.Tree.{Module, Member, alone, group, proc, Nodes}
use Rattle.bound_tree.specs.Tree.{Line, Program}
use Rattle.written_trees.specs.Bodies.{lines_in}
use Rattle.written_trees.specs.Placing.{Placed}
use Rattle.run_matches.specs.Sites.{Site, sites, member_sites}
use Rattle.run_matches.specs.Upgrades.{Upgrade}
use Rattle.run_statements.specs.Written.{HasBody, IsWritten}
use Rattle.correspondence.proofs.BodyComments.{source_of}
use Rattle.correspondence.proofs.Numbers.{site_procedure}

-- ---- bound lines

-- the lines that are bound in a procedure are the code lines of its body
abbrev pub HasBodyAt : Program → Placed → Nodes → Type 0
HasBodyAt P p body = map source_of (lines_in (slice_get P.bodies p.at.procedure)) ≡ code_lines (flat_lines body)

abbrev pub HasBodies : Program → List Site → Type 0
HasBodies P [] = Unit {0}
HasBodies P (s ∷ ss) = HasBodyAt P s.placed s.body × HasBodies P ss

pub bodies_first : (P : Program) (xs ys : List Site) → HasBodies P (xs ++ ys) → HasBodies P xs
bodies_first P [] ys h = tt
bodies_first P (x ∷ xs) ys h = (h.0, bodies_first P xs ys h.1)

pub bodies_rest : (P : Program) (xs ys : List Site) → HasBodies P (xs ++ ys) → HasBodies P ys
bodies_rest P [] ys h = h
bodies_rest P (x ∷ xs) ys h = bodies_rest P xs ys h.1

bodies_from : (P : Program) (ss : List Site) → ((i : ℕ) (s : Site) → slice_get ss i ≡ Some s → HasBodyAt P s.placed s.body) → HasBodies P ss
bodies_from P [] h = tt
bodies_from P (s ∷ ss) h = (h 0 s refl, bodies_from P ss (λ i t e. h (suc i) t e))

body_at : (P : Program) (i : ℕ) (s : Site) → s.placed.at.procedure ≡ i → HasBody P i s → HasBodyAt P s.placed s.body
body_at P i s number b =
    ap (λ (j : ℕ). map source_of (lines_in (slice_get P.bodies j))) number ∙ ap (λ (o : Option (List Line)). map source_of (lines_in o)) b.are_lines ∙ b.sources

pub has_bodies : (U : Upgrade) → IsWritten U → HasBodies U.program (sites U.program.declarations)
has_bodies U is =
    bodies_from U.program (sites U.program.declarations)
    (λ i s e. body_at U.program i s (site_procedure U.program.declarations i s e) (is.bodies i s e))

-- ---- members

abbrev pub HasPlacedBody : Program → Placed → Member → Type 0
HasPlacedBody P p (alone l) = Unit {0}
HasPlacedBody P p (group head lines close) = Unit {0}
HasPlacedBody P p (proc head body close) = HasBodyAt P p body

abbrev pub HavePlacedBodies : Program → List Placed → Type 0
HavePlacedBodies P [] = Unit {0}
HavePlacedBodies P (p ∷ ps) = HasPlacedBody P p p.member × HavePlacedBodies P ps

placed_body : (P : Program) (home : ℕ) (m : Module) (p : Placed) (x : Member) (rest : List Site) → HasBodies P (member_sites home m p x ++ rest)
    → HasPlacedBody P p x × HasBodies P rest
placed_body P home m p (alone l) rest h = (tt, h)
placed_body P home m p (group head lines close) rest h = (tt, h)
placed_body P home m p (proc head body close) rest h = (h.0, h.1)

pub placed_bodies : (P : Program) (home : ℕ) (m : Module) (ps : List Placed) → HasBodies P (flat_map (λ (p : Placed). member_sites home m p p.member) ps)
    → HavePlacedBodies P ps
placed_bodies P home m [] h = tt
placed_bodies P home m (p ∷ ps) h =
    let both = placed_body P home m p p.member (flat_map (λ (q : Placed). member_sites home m q q.member) ps) h in
    (both.0, placed_bodies P home m ps both.1)
