-- A line more in a module of the code, whatever is open there.
use Rattle.std.proofs.Common.{◌≡◌, true, false, List, [], ◌∷◌, ◌++◌, Option, Some, None, refl, sym, ap, ◌∙◌, subst}
use Rattle.std.proofs.lemmas.Bool.{false≢true}
use Rattle.vb_tree.specs.declared.block.BlockKind.{BlockKind}
use Rattle.vb_tree.specs.declared.block.Role.TheVariants.{Plain, Opens, Parts, Closes}
use Rattle.vb_tree.specs.declared.form.CodeLine.{CodeLine}
use Rattle.vb_tree.specs.declared.module.Member6.{Member6}
use Rattle.vb_tree.specs.declared.module.Member6.TheVariants as m
use Rattle.vb_tree.specs.declared.module.Node6.TheVariants as n
use Rattle.vb_tree.specs.Tree.{Line, Node, block}
use Rattle.vb_tree.specs.View.{line_of, node_of, nodes_of}
use Rattle.vb_tree.specs.Blocks.{role_of, is_group}
use Rattle.vb_lines.specs.declared.frame.Branch.{Branch}
use Rattle.vb_lines.specs.declared.frame.Frame.{Frame}
use Rattle.vb_lines.specs.declared.building.OpenGroup.{OpenGroup}
use Rattle.vb_lines.specs.Nesting.{fault_of}
use Rattle.vb_lines.specs.Building.{branches_of, AddsNode, frame_open, opens_in, AreBuilt, AreFrames}
use Rattle.vb_lines.proofs.FoundOpen.{opens_inner, group_opens_none, group_parts_none}
use Rattle.vb_lines.proofs.Builds.{last_of, frames_front, opens_push, top_is_no_group, plain_alone, plain_in_group, node_in_frame, group_opened, frame_opened, frame_parted, group_closed, procedure_closed, block_closed}

pub adds_plain_in_group : (l : CodeLine) (ms : List Member6) (g g' : Option OpenGroup) (group group' : OpenGroup) (fs : List Frame) (lines : List Line) → g ≡ Some group → g' ≡ Some group' → group'.kind ≡ group.kind → group'.head ≡ group.head → group'.lines ≡ group.lines ++ l ∷ [] → role_of (line_of l).form ≡ Plain → AreBuilt lines ms g fs → AreBuilt (lines ++ line_of l ∷ []) ms g' fs
adds_plain_in_group l ms g g' group group' fs lines was is kind head more plain old = rw is (plain_in_group l ms group group' fs lines kind head more plain (rw was at old))

pub adds_plain_alone : (l : CodeLine) (ms ms' : List Member6) (g g' : Option OpenGroup) (fs fs' : List Frame) (lines : List Line) → g ≡ None → g' ≡ None → (fs ≡ []) × (fs' ≡ []) → ms' ≡ ms ++ m.Line l ∷ [] → role_of (line_of l).form ≡ Plain → AreBuilt lines ms g fs → AreBuilt (lines ++ line_of l ∷ []) ms' g' fs'
adds_plain_alone l ms ms' g g' fs fs' lines was is none e plain old = rw (is, none.1) (plain_alone l ms ms' lines e plain (rw (was, none.0) at old))

pub adds_plain_in_frame : (l : CodeLine) (ms : List Member6) (g g' : Option OpenGroup) (fs before fs' : List Frame) (f f' : Frame) (lines : List Line) → g ≡ None → g' ≡ None → fs ≡ before ++ f ∷ [] → fs' ≡ before ++ f' ∷ [] → AddsNode (node_of (n.Line l)) f f' → role_of (line_of l).form ≡ Plain → AreBuilt lines ms g fs → AreBuilt (lines ++ line_of l ∷ []) ms g' fs'
adds_plain_in_frame l ms g g' fs before fs' f f' lines was is e e' adds plain old = rw (is, e') (node_in_frame (node_of (n.Line l)) (line_of l) ms before f f' lines refl adds plain plain (rw (was, e) at old))

pub adds_group : (l : CodeLine) (k : BlockKind) (ms : List Member6) (g : Option OpenGroup) (fs : List Frame) (group : OpenGroup) (lines : List Line) → group.kind ≡ k → group.head ≡ l → group.lines ≡ [] → role_of (line_of l).form ≡ Opens k → is_group k ≡ true → fault_of (opens_in g fs) (Opens k) ≡ None → AreBuilt lines ms g fs → AreBuilt (lines ++ line_of l ∷ []) ms (Some group) fs
adds_group l k ms (Some g) fs group lines kind head none opens is right old = absurd (group_opens_none (record { kind = g.kind; head = line_of g.head }) [] k old.nested.0.group right)
adds_group l k ms None [] group lines kind head none opens is right old = group_opened l k ms group lines kind head none opens is old
adds_group l k ms None (o ∷ fs) group lines kind head none opens is right old = by (last_of o fs) old.nested right
  where
    by : (w : (front : List Frame) × (last : Frame) × (o ∷ fs ≡ front ++ last ∷ [])) → AreFrames (o ∷ fs) → fault_of (opens_in None (o ∷ fs)) (Opens k) ≡ None → AreBuilt (lines ++ line_of l ∷ []) ms (Some group) (o ∷ fs)
    by w are h =
        let are' = frames_front w.0 w.1 (subst AreFrames w.2 are) in
        let right' : fault_of (frame_open w.1 ∷ opens_in None w.0) (Opens k) ≡ None = ap (λ os. fault_of os (Opens k)) (sym (ap (opens_in None) w.2 ∙ opens_push w.0 w.1)) ∙ h in
        absurd (false≢true (sym (opens_inner (frame_open w.1) (opens_in None w.0) k (top_is_no_group w.0 w.1 are'.1) right').1 ∙ is))

pub adds_frame : (l : CodeLine) (k : BlockKind) (ms : List Member6) (g : Option OpenGroup) (fs fs' : List Frame) (f : Frame) (lines : List Line) → fs' ≡ fs ++ f ∷ [] → f.kind ≡ k → f.head ≡ l → f.body.items ≡ [] → f.branches.items ≡ [] → role_of (line_of l).form ≡ Opens k → is_group k ≡ false → fault_of (opens_in g fs) (Opens k) ≡ None → AreBuilt lines ms g fs → AreBuilt (lines ++ line_of l ∷ []) ms g fs'
adds_frame l k ms (Some g) fs fs' f lines e kind head body branches opens is right old = absurd (group_opens_none (record { kind = g.kind; head = line_of g.head }) [] k old.nested.0.group right)
adds_frame l k ms None fs fs' f lines e kind head body branches opens is right old = rw e (frame_opened l k ms fs f lines kind head body branches opens is right old)

pub adds_middle : (l : CodeLine) (k : BlockKind) (ms : List Member6) (g : Option OpenGroup) (fs before fs' : List Frame) (f f' : Frame) (b : Branch) (lines : List Line) → fs ≡ before ++ f ∷ [] → fs' ≡ before ++ f' ∷ [] → f'.kind ≡ f.kind → f'.head ≡ f.head → f'.body ≡ f.body → f'.branches.items ≡ f.branches.items ++ b ∷ [] → b.line ≡ l → b.body.items ≡ [] → role_of (line_of l).form ≡ Parts k → fault_of (opens_in g fs) (Parts k) ≡ None → AreBuilt lines ms g fs → AreBuilt (lines ++ line_of l ∷ []) ms g fs'
adds_middle l k ms (Some g) fs before fs' f f' b lines e e' kind head body more is none parts right old = absurd (group_parts_none (record { kind = g.kind; head = line_of g.head }) [] k old.nested.0.group right)
adds_middle l k ms None fs before fs' f f' b lines e e' kind head body more is none parts right old = rw e' (frame_parted l k ms before f f' b lines kind head body more is none parts (rw e at right) (rw e at old))

pub adds_group_end : (l : CodeLine) (k : BlockKind) (ms ms' : List Member6) (g g' : Option OpenGroup) (group : OpenGroup) (fs : List Frame) (lines : List Line) → g ≡ Some group → g' ≡ None → ms' ≡ ms ++ m.Group group.head group.lines l ∷ [] → role_of (line_of l).form ≡ Closes k → fault_of (opens_in g fs) (Closes k) ≡ None → AreBuilt lines ms g fs → AreBuilt (lines ++ line_of l ∷ []) ms' g' fs
adds_group_end l k ms ms' g g' group fs lines was is e closes right old = rw is (group_closed l k ms ms' group fs lines e closes (rw was at right) (rw was at old))

pub adds_procedure_end : (l : CodeLine) (k : BlockKind) (ms ms' : List Member6) (g g' : Option OpenGroup) (fs before fs' : List Frame) (f : Frame) (lines : List Line) → g ≡ None → g' ≡ None → fs ≡ before ++ f ∷ [] → (before ≡ []) × (fs' ≡ []) → ms' ≡ ms ++ m.Proc f.head f.body.items l ∷ [] → role_of (line_of l).form ≡ Closes k → fault_of (opens_in g fs) (Closes k) ≡ None → AreBuilt lines ms g fs → AreBuilt (lines ++ line_of l ∷ []) ms' g' fs'
adds_procedure_end l k ms ms' g g' fs before fs' f lines was is e none e' closes right old = rw (is, none.1) (procedure_closed l k ms ms' f lines e' closes (rw (was, e, none.0) at right) (rw (was, e, none.0) at old))

pub adds_block_end : (l : CodeLine) (k : BlockKind) (ms : List Member6) (g g' : Option OpenGroup) (fs before front fs' : List Frame) (f o o' : Frame) (a : Node) (lines : List Line) → g ≡ None → g' ≡ None → fs ≡ before ++ f ∷ [] → before ≡ front ++ o ∷ [] → fs' ≡ front ++ o' ∷ [] → a ≡ block (line_of f.head) (nodes_of f.body.items) (branches_of f.branches.items) (line_of l) → AddsNode a o o' → role_of (line_of l).form ≡ Closes k → fault_of (opens_in g fs) (Closes k) ≡ None → AreBuilt lines ms g fs → AreBuilt (lines ++ line_of l ∷ []) ms g' fs'
adds_block_end l k ms g g' fs before front fs' f o o' a lines was is e e2 e3 node adds closes right old = rw (is, e3) (block_closed l k ms front o o' f a lines node adds closes (rw (was, e, e2) at right) (rw (was, e, e2) at old))
