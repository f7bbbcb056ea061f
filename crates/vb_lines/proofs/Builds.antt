-- What a module holds behind one more line.
use Rattle.std.proofs.Common.{◌≡◌, true, false, List, [], ◌∷◌, ◌++◌, length, map, reverse, Option, Some, None, refl, sym, ap, ◌∙◌, append_assoc, All, subst, ◌<◌, arith}
use Rattle.std.specs.List.{flat_map}
use Rattle.std.proofs.lemmas.List.{append-nil, reverse-append, map_push}
use Rattle.std.proofs.lemmas.List.Elements.{All-push, All-nil}
use Rattle.std.proofs.lemmas.Bool.{false≢true}
use Rattle.vb_tree.specs.declared.block.BlockKind.{BlockKind}
use Rattle.vb_tree.specs.declared.block.BlockKind.TheVariants as kind
use Rattle.vb_tree.specs.declared.block.Role.{Role}
use Rattle.vb_tree.specs.declared.block.Role.TheVariants.{Plain, Opens, Parts, Closes}
use Rattle.vb_tree.specs.declared.form.CodeLine.{CodeLine}
use Rattle.vb_tree.specs.declared.module.Member6.{Member6}
use Rattle.vb_tree.specs.declared.module.Member6.TheVariants as m
use Rattle.vb_tree.specs.Tree.{Form, Line, Node, Member, block}
use Rattle.vb_tree.specs.Tree as t
use Rattle.vb_tree.specs.View.{line_of, nodes_of, member_of}
use Rattle.vb_tree.specs.Blocks.{role_of, is_procedure, is_group}
use Rattle.vb_tree.specs.FlatLines.{flat_lines, node_lines, middle_lines, member_lines}
use Rattle.vb_tree.specs.ModuleTree.{IsPlain, IsInnerBlock, IsNestedNode, IsNested}
use Rattle.vb_lines.proofs.Frames.{branches_lines, branches_nested}
use Rattle.vb_lines.proofs.FoundOpen.{opens_inner, parts_same, closes_same, group_closes, module_opens, outermost_procedure}
use Rattle.vb_lines.specs.declared.frame.Branch.{Branch}
use Rattle.vb_lines.specs.declared.frame.Frame.{Frame}
use Rattle.vb_lines.specs.declared.building.OpenGroup.{OpenGroup}
use Rattle.vb_lines.specs.Nesting.{Open, outside, open_behind, open_after, fault_of}
use Rattle.vb_lines.specs.Building.{branches_of, frame_lines, IsNestedFrame, AddsNode, AreInside, AreFrames, frame_open, opens_in, IsOpenIn, lines_in, AreBuilt}

-- ---- what is open behind one more line

after_push : (opens : List Open) (lines : List Line) (l : Line) → open_after opens (lines ++ l ∷ []) ≡ open_behind (role_of l.form) l (open_after opens lines)
after_push opens [] l = refl
after_push opens (k ∷ lines) l = after_push (open_behind (role_of k.form) k opens) lines l

pub built_more : (l : Line) (ms ms' : List Member6) (g g' : Option OpenGroup) (fs fs' : List Frame) (lines : List Line) → lines_in ms' g' fs' ≡ lines_in ms g fs ++ l ∷ [] → opens_in g' fs' ≡ open_behind (role_of l.form) l (opens_in g fs) → All IsNested (map member_of ms') → IsOpenIn g' fs' → AreBuilt lines ms g fs → AreBuilt (lines ++ l ∷ []) ms' g' fs'
built_more l ms ms' g g' fs fs' lines same opens whole nested old = record {
  in_order = same ∙ ap (λ ls. ls ++ l ∷ []) old.in_order;
  opened = opens ∙ ap (open_behind (role_of l.form) l) old.opened ∙ sym (after_push [] lines l);
  whole = whole;
  nested = nested;
}

-- ---- a frame behind others

-- what holds of the innermost block: the first one is a procedure
abbrev pub IsTop : List Frame → Frame → Type 0
IsTop [] f = (is_procedure f.kind ≡ true) × (f.branches.items ≡ []) × IsNestedFrame f
IsTop (o ∷ frames) f = IsInnerBlock f.kind × IsNestedFrame f

inside_push : (fs : List Frame) (f : Frame) → AreInside fs → IsInnerBlock f.kind → IsNestedFrame f → AreInside (fs ++ f ∷ [])
inside_push [] f h i n = (i, n, tt)
inside_push (o ∷ fs) f h i n = (h.0, h.1, inside_push fs f h.2 i n)

inside_front : (fs : List Frame) (f : Frame) → AreInside (fs ++ f ∷ []) → AreInside fs × IsInnerBlock f.kind × IsNestedFrame f
inside_front [] f h = (tt, h.0, h.1)
inside_front (o ∷ fs) f h = let more = inside_front fs f h.2 in ((h.0, h.1, more.0), more.1, more.2)

pub frames_push : (fs : List Frame) (f : Frame) → AreFrames fs → IsTop fs f → AreFrames (fs ++ f ∷ [])
frames_push [] f h t = (t.0, t.1, t.2, tt)
frames_push (o ∷ fs) f h t = (h.0, h.1, h.2, inside_push fs f h.3 t.0 t.1)

pub frames_front : (fs : List Frame) (f : Frame) → AreFrames (fs ++ f ∷ []) → AreFrames fs × IsTop fs f
frames_front [] f h = (tt, (h.0, h.1, h.2))
frames_front (o ∷ fs) f h = let more = inside_front fs f h.3 in ((h.0, h.1, h.2, more.0), (more.1, more.2))

pub top_more : (fs : List Frame) (f f' : Frame) (a : Node) → AddsNode a f f' → IsNestedNode a → IsTop fs f → IsTop fs f'
top_more [] f f' a adds n t = (rw adds.kind t.0, adds.whole t.1, adds.nested n t.2)
top_more (o ∷ fs) f f' a adds n t = (rw adds.kind t.0, adds.nested n t.1)

top_nested : (fs : List Frame) (f : Frame) → IsTop fs f → IsNestedFrame f
top_nested [] f t = t.2
top_nested (o ∷ fs) f t = t.1

procedure_is_no_group : (k : BlockKind) → is_procedure k ≡ true → is_group k ≡ false
procedure_is_no_group kind.Type h = absurd (false≢true h)
procedure_is_no_group kind.Enum h = absurd (false≢true h)
procedure_is_no_group kind.Sub h = refl
procedure_is_no_group kind.Function h = refl
procedure_is_no_group kind.Property h = refl
procedure_is_no_group kind.If h = refl
procedure_is_no_group kind.Select h = refl
procedure_is_no_group kind.For h = refl
procedure_is_no_group kind.Do h = refl
procedure_is_no_group kind.While h = refl
procedure_is_no_group kind.With h = refl

pub top_is_no_group : (fs : List Frame) (f : Frame) → IsTop fs f → is_group f.kind ≡ false
top_is_no_group [] f t = procedure_is_no_group f.kind t.0
top_is_no_group (o ∷ fs) f t = t.0.1

pub flat_push : {X Y : Type 0} (f : X → List Y) (xs : List X) (x : X) → flat_map f (xs ++ x ∷ []) ≡ flat_map f xs ++ f x
flat_push f [] x = append-nil (f x)
flat_push f (y ∷ ys) x = ap (λ l. f y ++ l) (flat_push f ys x) ∙ sym (append_assoc (f y) (flat_map f ys) (f x))

pub opens_push : (fs : List Frame) (f : Frame) → opens_in None (fs ++ f ∷ []) ≡ frame_open f ∷ opens_in None fs
opens_push fs f = ap reverse (map_push frame_open fs f) ∙ reverse-append (map frame_open fs) (frame_open f ∷ [])

-- a line at the end of what is held
line_at_end : (ms : List Member6) (fs : List Frame) (f f' : Frame) (lines : List Line) → frame_lines f' ≡ frame_lines f ++ lines → lines_in ms None (fs ++ f' ∷ []) ≡ lines_in ms None (fs ++ f ∷ []) ++ lines
line_at_end ms fs f f' lines e =
    let held = flat_map member_lines (map member_of ms) in
    ap (λ l. held ++ l) (flat_push frame_lines fs f' ∙ ap (λ l. flat_map frame_lines fs ++ l) e ∙ sym (append_assoc (flat_map frame_lines fs) (frame_lines f) lines))
    ∙ sym (append_assoc held (flat_map frame_lines fs ++ frame_lines f) lines)
    ∙ ap (λ l. (held ++ l) ++ lines) (sym (flat_push frame_lines fs f))

-- ---- members

members_push : (ms : List Member6) (a : Member6) → flat_map member_lines (map member_of (ms ++ a ∷ [])) ≡ flat_map member_lines (map member_of ms) ++ member_lines (member_of a)
members_push ms a = ap (flat_map member_lines) (map_push member_of ms a) ∙ flat_push member_lines (map member_of ms) (member_of a)

members_nested : (ms : List Member6) (a : Member6) → All IsNested (map member_of ms) → IsNested (member_of a) → All IsNested (map member_of (ms ++ a ∷ []))
members_nested ms a h n = rw (map_push member_of ms a) (All-push IsNested (map member_of ms) (member_of a) h n)

-- ---- a line that neither opens nor parts nor closes a block

role_behind : (l : Line) (r : Role) (opens : List Open) → role_of l.form ≡ r → open_behind r l opens ≡ open_behind (role_of l.form) l opens
role_behind l r opens e = ap (λ r. open_behind r l opens) (sym e)

pub plain_alone : (l : CodeLine) (ms ms' : List Member6) (lines : List Line) → ms' ≡ ms ++ m.Line l ∷ [] → role_of (line_of l).form ≡ Plain → AreBuilt lines ms None [] → AreBuilt (lines ++ line_of l ∷ []) ms' None []
plain_alone l ms ms' lines e plain old =
    let held = flat_map member_lines (map member_of ms) in
    rw e (built_more (line_of l) ms (ms ++ m.Line l ∷ []) None None [] [] lines
    (append-nil _ ∙ members_push ms (m.Line l) ∙ ap (λ h. h ++ line_of l ∷ []) (sym (append-nil held)))
    (role_behind (line_of l) Plain [] plain)
    (members_nested ms (m.Line l) old.whole plain) tt old)

pub plain_in_group : (l : CodeLine) (ms : List Member6) (g g' : OpenGroup) (fs : List Frame) (lines : List Line) → g'.kind ≡ g.kind → g'.head ≡ g.head → g'.lines ≡ g.lines ++ l ∷ [] → role_of (line_of l).form ≡ Plain → AreBuilt lines ms (Some g) fs → AreBuilt (lines ++ line_of l ∷ []) ms (Some g') fs
plain_in_group l ms g g' fs lines kind head more plain old =
    let held = flat_map member_lines (map member_of ms) in
    built_more (line_of l) ms ms (Some g) (Some g') fs fs lines
    (ap (λ h. held ++ line_of h ∷ map line_of g'.lines) head
    ∙ ap (λ ls. held ++ line_of g.head ∷ map line_of ls) more
    ∙ ap (λ ls. held ++ line_of g.head ∷ ls) (map_push line_of g.lines l)
    ∙ sym (append_assoc held (line_of g.head ∷ map line_of g.lines) (line_of l ∷ [])))
    (ap (λ k. record { kind = k; head = line_of g'.head } ∷ []) kind ∙ ap (λ h. record { kind = g.kind; head = line_of h } ∷ []) head ∙ role_behind (line_of l) Plain (opens_in (Some g) fs) plain)
    old.whole (
      record {
        head = rw (head, kind) old.nested.0.head;
        group = rw kind old.nested.0.group;
        plain = rw (more, map_push line_of g.lines l) (All-push IsPlain (map line_of g.lines) (line_of l) old.nested.0.plain plain);
      },
      old.nested.1,
    )
    old

pub node_in_frame : (a : Node) (l : Line) (ms : List Member6) (fs : List Frame) (f f' : Frame) (lines : List Line) → node_lines a ≡ l ∷ [] → AddsNode a f f' → IsNestedNode a → role_of l.form ≡ Plain → AreBuilt lines ms None (fs ++ f ∷ []) → AreBuilt (lines ++ l ∷ []) ms None (fs ++ f' ∷ [])
node_in_frame a l ms fs f f' lines one adds nested plain old =
    let top = frames_front fs f old.nested in
    built_more l ms ms None None (fs ++ f ∷ []) (fs ++ f' ∷ []) lines
    (line_at_end ms fs f f' (l ∷ []) (adds.lines ∙ ap (λ ls. frame_lines f ++ ls) one))
    (opens_push fs f' ∙ same_open fs f f' adds.kind adds.head ∙ sym (opens_push fs f) ∙ role_behind l Plain (opens_in None (fs ++ f ∷ [])) plain)
    old.whole (frames_push fs f' top.0 (top_more fs f f' a adds nested top.1)) old
  where
    same_open : (fs : List Frame) (f f' : Frame) → f'.kind ≡ f.kind → f'.head ≡ f.head → frame_open f' ∷ opens_in None fs ≡ frame_open f ∷ opens_in None fs
    same_open fs f f' kind head = ap (λ k. record { kind = k; head = line_of f'.head } ∷ opens_in None fs) kind ∙ ap (λ h. record { kind = f.kind; head = line_of h } ∷ opens_in None fs) head

-- ---- a line that opens a block

pub last_of : (o : Frame) (fs : List Frame) → (front : List Frame) × (last : Frame) × (o ∷ fs ≡ front ++ last ∷ [])
last_of o [] = ([], o, refl)
last_of o (x ∷ fs) = let w = last_of x fs in (o ∷ w.0, w.1, ap (λ l. o ∷ l) w.2)

no_if : (k : BlockKind) → Parts kind.If ≡ Parts k → is_procedure k ≡ true → ⊥
no_if k e p = let same : kind.If ≡ k = cc in false≢true (rw (← same) at p)

no_select : (k : BlockKind) → Parts kind.Select ≡ Parts k → is_procedure k ≡ true → ⊥
no_select k e p = let same : kind.Select ≡ k = cc in false≢true (rw (← same) at p)

-- no line parts a procedure
no_procedure : (f : Form) (k : BlockKind) → role_of f ≡ Parts k → is_procedure k ≡ true → ⊥
no_procedure (t.else_if condition) k e p = no_if k e p
no_procedure t.else_line k e p = no_if k e p
no_procedure (t.case_line items) k e p = no_select k e p
no_procedure t.case_else k e p = no_select k e p
no_procedure (t.static_head kind s result) k e p = cc
no_procedure _ k e p = cc

pub group_opened : (l : CodeLine) (k : BlockKind) (ms : List Member6) (g : OpenGroup) (lines : List Line) → g.kind ≡ k → g.head ≡ l → g.lines ≡ [] → role_of (line_of l).form ≡ Opens k → is_group k ≡ true → AreBuilt lines ms None [] → AreBuilt (lines ++ line_of l ∷ []) ms (Some g) []
group_opened l k ms g lines kind head none opens group old =
    let held = flat_map member_lines (map member_of ms) in
    built_more (line_of l) ms ms None (Some g) [] [] lines
    (ap (λ h. held ++ line_of h ∷ map line_of g.lines) head ∙ ap (λ ls. held ++ line_of l ∷ map line_of ls) none ∙ ap (λ h. h ++ line_of l ∷ []) (sym (append-nil held)))
    (ap (λ k. record { kind = k; head = line_of g.head } ∷ []) kind ∙ ap (λ h. record { kind = k; head = line_of h } ∷ []) head ∙ role_behind (line_of l) (Opens k) [] opens)
    old.whole
    (record { head = rw (head, kind) opens; group = rw kind group; plain = rw none (All-nil IsPlain) }, refl)
    old

pub frame_opened : (l : CodeLine) (k : BlockKind) (ms : List Member6) (fs : List Frame) (f : Frame) (lines : List Line) → f.kind ≡ k → f.head ≡ l → f.body.items ≡ [] → f.branches.items ≡ [] → role_of (line_of l).form ≡ Opens k → is_group k ≡ false → fault_of (opens_in None fs) (Opens k) ≡ None → AreBuilt lines ms None fs → AreBuilt (lines ++ line_of l ∷ []) ms None (fs ++ f ∷ [])
frame_opened l k ms fs f lines kind head body branches opens no_group right old =
    let held = flat_map member_lines (map member_of ms) in
    built_more (line_of l) ms ms None None fs (fs ++ f ∷ []) lines
    (ap (λ ls. held ++ ls) (flat_push frame_lines fs f ∙ ap (λ ls. flat_map frame_lines fs ++ ls) only_head) ∙ sym (append_assoc held (flat_map frame_lines fs) (line_of l ∷ [])))
    (opens_push fs f ∙ ap (λ k. record { kind = k; head = line_of f.head } ∷ opens_in None fs) kind ∙ ap (λ h. record { kind = k; head = line_of h } ∷ opens_in None fs) head ∙ role_behind (line_of l) (Opens k) (opens_in None fs) opens)
    old.whole
    (frames_push fs f old.nested (by_last fs old.nested right))
    old
  where
    only_head : frame_lines f ≡ line_of l ∷ []
    only_head = ap (λ h. line_of h ∷ flat_lines (nodes_of f.body.items) ++ middle_lines (branches_of f.branches.items)) head ∙ ap (λ xs. line_of l ∷ flat_lines (nodes_of xs) ++ middle_lines (branches_of f.branches.items)) body ∙ ap (λ bs. line_of l ∷ middle_lines (branches_of bs)) branches

    nested : IsNestedFrame f
    nested = record { head = rw (head, kind) opens; body = rw body tt; branches = rw branches tt }

    top : (fs : List Frame) → IsInnerBlock k → 0 < length fs → IsTop fs f
    top [] inner h = absurd (omega arith)
    top (o ∷ fs) inner h = (rw kind inner, nested)

    -- by what is open, the innermost one last
    by_last : (fs : List Frame) → AreFrames fs → fault_of (opens_in None fs) (Opens k) ≡ None → IsTop fs f
    by_last [] are h = (rw kind (outermost_procedure k (module_opens k h) no_group), branches, nested)
    by_last (o ∷ fs) are h = by_front (last_of o fs) are h
      where
        by_front : (w : (front : List Frame) × (last : Frame) × (o ∷ fs ≡ front ++ last ∷ [])) → AreFrames (o ∷ fs) → fault_of (opens_in None (o ∷ fs)) (Opens k) ≡ None → IsTop (o ∷ fs) f
        by_front w are h =
            let is = frames_front w.0 w.1 (subst AreFrames w.2 are) in
            let right : fault_of (frame_open w.1 ∷ opens_in None w.0) (Opens k) ≡ None = ap (λ os. fault_of os (Opens k)) (sym (ap (opens_in None) w.2 ∙ opens_push w.0 w.1)) ∙ h in
            top (o ∷ fs) (opens_inner (frame_open w.1) (opens_in None w.0) k (top_is_no_group w.0 w.1 is.1) right) (omega arith)

-- ---- a line that parts a block

pub frame_parted : (l : CodeLine) (k : BlockKind) (ms : List Member6) (fs : List Frame) (f f' : Frame) (b : Branch) (lines : List Line) → f'.kind ≡ f.kind → f'.head ≡ f.head → f'.body ≡ f.body → f'.branches.items ≡ f.branches.items ++ b ∷ [] → b.line ≡ l → b.body.items ≡ [] → role_of (line_of l).form ≡ Parts k → fault_of (opens_in None (fs ++ f ∷ [])) (Parts k) ≡ None → AreBuilt lines ms None (fs ++ f ∷ []) → AreBuilt (lines ++ line_of l ∷ []) ms None (fs ++ f' ∷ [])
frame_parted l k ms fs f f' b lines kind head body more is none parts right old =
    let top = frames_front fs f old.nested in
    let right' : fault_of (frame_open f ∷ opens_in None fs) (Parts k) ≡ None = ap (λ os. fault_of os (Parts k)) (sym (opens_push fs f)) ∙ right in
    let same : k ≡ f.kind = parts_same (frame_open f) (opens_in None fs) k (top_is_no_group fs f top.1) right' in
    built_more (line_of l) ms ms None None (fs ++ f ∷ []) (fs ++ f' ∷ []) lines
    (line_at_end ms fs f f' (line_of l ∷ []) (
    ap (λ h. line_of h ∷ flat_lines (nodes_of f'.body.items) ++ middle_lines (branches_of f'.branches.items)) head
    ∙ ap (λ v. line_of f.head ∷ flat_lines (nodes_of v.items) ++ middle_lines (branches_of f'.branches.items)) body
    ∙ ap (λ bs. line_of f.head ∷ flat_lines (nodes_of f.body.items) ++ middle_lines (branches_of bs)) more
    ∙ ap (λ ls. line_of f.head ∷ flat_lines (nodes_of f.body.items) ++ ls) (branches_lines f.branches.items b ∙ ap (λ h. middle_lines (branches_of f.branches.items) ++ line_of h ∷ flat_lines (nodes_of b.body.items)) is ∙ ap (λ xs. middle_lines (branches_of f.branches.items) ++ line_of l ∷ flat_lines (nodes_of xs)) none)
    ∙ sym (append_assoc (line_of f.head ∷ flat_lines (nodes_of f.body.items)) (middle_lines (branches_of f.branches.items)) (line_of l ∷ []))))
    (opens_push fs f' ∙ ap (λ k. record { kind = k; head = line_of f'.head } ∷ opens_in None fs) kind ∙ ap (λ h. record { kind = f.kind; head = line_of h } ∷ opens_in None fs) head ∙ sym (opens_push fs f) ∙ role_behind (line_of l) (Parts k) (opens_in None (fs ++ f ∷ [])) parts)
    old.whole
    (frames_push fs f' top.0 (by_top fs same top.1))
    old
  where
    nested : k ≡ f.kind → IsNestedFrame f → IsNestedFrame f'
    nested same n = record {
      head = rw (head, kind) n.head;
      body = rw body n.body;
      branches = rw (more, kind) (branches_nested f.kind f.branches.items b n.branches (rw (is, ← same) parts) (rw none tt));
    }

    by_top : (fs : List Frame) → k ≡ f.kind → IsTop fs f → IsTop fs f'
    by_top [] same t = absurd (no_procedure (line_of l).form k parts (rw same t.0))
    by_top (o ∷ fs) same t = (rw kind t.0, nested same t.1)

-- ---- a line that closes a block

pub group_closed : (l : CodeLine) (k : BlockKind) (ms ms' : List Member6) (g : OpenGroup) (fs : List Frame) (lines : List Line) → ms' ≡ ms ++ m.Group g.head g.lines l ∷ [] → role_of (line_of l).form ≡ Closes k → fault_of (opens_in (Some g) fs) (Closes k) ≡ None → AreBuilt lines ms (Some g) fs → AreBuilt (lines ++ line_of l ∷ []) ms' None fs
group_closed l k ms ms' g fs lines e closes right old =
    let held = flat_map member_lines (map member_of ms) in
    let same : k ≡ g.kind = group_closes (record { kind = g.kind; head = line_of g.head }) [] k old.nested.0.group right in
    let empty : fs ≡ [] = old.nested.1 in
    rw (e, empty) (built_more (line_of l) ms (ms ++ m.Group g.head g.lines l ∷ []) (Some g) None [] [] lines
    (append-nil _ ∙ members_push ms (m.Group g.head g.lines l) ∙ sym (append_assoc held (line_of g.head ∷ map line_of g.lines) (line_of l ∷ [])))
    (role_behind (line_of l) (Closes k) (opens_in (Some g) []) closes)
    (members_nested ms (m.Group g.head g.lines l) old.whole (g.kind, old.nested.0.head, old.nested.0.group, old.nested.0.plain, rw (← same) closes))
    tt
    (rw empty at old))

pub procedure_closed : (l : CodeLine) (k : BlockKind) (ms ms' : List Member6) (f : Frame) (lines : List Line) → ms' ≡ ms ++ m.Proc f.head f.body.items l ∷ [] → role_of (line_of l).form ≡ Closes k → fault_of (opens_in None (f ∷ [])) (Closes k) ≡ None → AreBuilt lines ms None (f ∷ []) → AreBuilt (lines ++ line_of l ∷ []) ms' None []
procedure_closed l k ms ms' f lines e closes right old =
    let held = flat_map member_lines (map member_of ms) in
    let same : k ≡ f.kind = closes_same (frame_open f) [] k (top_is_no_group [] f (old.nested.0, old.nested.1, old.nested.2)) right in
    let body = line_of f.head ∷ flat_lines (nodes_of f.body.items) in
    rw e (built_more (line_of l) ms (ms ++ m.Proc f.head f.body.items l ∷ []) None None (f ∷ []) [] lines
    (append-nil _ ∙ members_push ms (m.Proc f.head f.body.items l) ∙ sym (append_assoc held body (line_of l ∷ []))
    ∙ ap (λ ls. (held ++ ls) ++ line_of l ∷ []) (sym (append-nil body))
    ∙ ap (λ bs. (held ++ (body ++ middle_lines (branches_of bs))) ++ line_of l ∷ []) (sym old.nested.1)
    ∙ ap (λ ls. (held ++ ls) ++ line_of l ∷ []) (sym (append-nil (frame_lines f))))
    (role_behind (line_of l) (Closes k) (opens_in None (f ∷ [])) closes)
    (members_nested ms (m.Proc f.head f.body.items l) old.whole (f.kind, old.nested.2.head, old.nested.0, old.nested.2.body, rw (← same) closes))
    tt old)

pub block_closed : (l : CodeLine) (k : BlockKind) (ms : List Member6) (fs : List Frame) (o o' f : Frame) (a : Node) (lines : List Line) → a ≡ block (line_of f.head) (nodes_of f.body.items) (branches_of f.branches.items) (line_of l) → AddsNode a o o' → role_of (line_of l).form ≡ Closes k → fault_of (opens_in None ((fs ++ o ∷ []) ++ f ∷ [])) (Closes k) ≡ None → AreBuilt lines ms None ((fs ++ o ∷ []) ++ f ∷ []) → AreBuilt (lines ++ line_of l ∷ []) ms None (fs ++ o' ∷ [])
block_closed l k ms fs o o' f a lines is adds closes right old =
    let held = flat_map member_lines (map member_of ms) in
    let tops = frames_front (fs ++ o ∷ []) f old.nested in
    let outer = frames_front fs o tops.0 in
    let inner = top_inside fs o f tops.1 in
    let right' : fault_of (frame_open f ∷ opens_in None (fs ++ o ∷ [])) (Closes k) ≡ None = ap (λ os. fault_of os (Closes k)) (sym (opens_push (fs ++ o ∷ []) f)) ∙ right in
    let same : k ≡ f.kind = closes_same (frame_open f) (opens_in None (fs ++ o ∷ [])) k inner.0.1 right' in
    let nested : IsNestedNode a = rw is (f.kind, inner.1.head, inner.0, inner.1.body, inner.1.branches, rw (← same) closes) in
    let lines_of_block : node_lines a ≡ frame_lines f ++ line_of l ∷ [] = ap node_lines is in
    built_more (line_of l) ms ms None None ((fs ++ o ∷ []) ++ f ∷ []) (fs ++ o' ∷ []) lines
    (line_at_end ms fs o o' (frame_lines f ++ line_of l ∷ []) (adds.lines ∙ ap (λ ls. frame_lines o ++ ls) lines_of_block)
    ∙ sym (append_assoc (held ++ flat_map frame_lines (fs ++ o ∷ [])) (frame_lines f) (line_of l ∷ []))
    ∙ ap (λ ls. ls ++ line_of l ∷ []) (append_assoc held (flat_map frame_lines (fs ++ o ∷ [])) (frame_lines f) ∙ ap (λ ls. held ++ ls) (sym (flat_push frame_lines (fs ++ o ∷ []) f))))
    (opens_push fs o' ∙ ap (λ k. record { kind = k; head = line_of o'.head } ∷ opens_in None fs) adds.kind ∙ ap (λ h. record { kind = o.kind; head = line_of h } ∷ opens_in None fs) adds.head ∙ sym (opens_push fs o)
    ∙ ap outside (sym (opens_push (fs ++ o ∷ []) f)) ∙ role_behind (line_of l) (Closes k) (opens_in None ((fs ++ o ∷ []) ++ f ∷ [])) closes)
    old.whole
    (frames_push fs o' outer.0 (top_more fs o o' a adds nested outer.1))
    old
  where
    top_inside : (fs : List Frame) (o f : Frame) → IsTop (fs ++ o ∷ []) f → IsInnerBlock f.kind × IsNestedFrame f
    top_inside [] o f t = t
    top_inside (x ∷ fs) o f t = t
