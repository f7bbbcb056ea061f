-- An open block and one more node, and the block that it becomes.
use Rattle.std.proofs.Common.{◌≡◌, ℕ, List, [], ◌∷◌, ◌++◌, ◌-◌, take, refl, sym, ap, ◌∙◌, append_assoc}
use Rattle.std.proofs.lemmas.List.{append-nil}
use Rattle.vb_tree.specs.declared.block.BlockKind.{BlockKind}
use Rattle.vb_tree.specs.declared.module.Middle6.{Middle6, roll-Middle6}
use Rattle.vb_tree.specs.declared.module.Node6.{Node6}
use Rattle.vb_tree.specs.declared.block.Role.TheVariants.{Parts}
use Rattle.vb_tree.specs.Tree.{Line, Nodes, Middles, no_middles, next_middle}
use Rattle.vb_tree.specs.View.{line_of, node_of, nodes_of, middles_of}
use Rattle.vb_tree.specs.Blocks.{role_of}
use Rattle.vb_tree.specs.FlatLines.{flat_lines, node_lines, middle_lines}
use Rattle.vb_tree.specs.ModuleTree.{AreNested, IsNestedNode, ArePartsOf}
use Rattle.vb_lines.specs.declared.frame.Branch.{Branch}
use Rattle.vb_lines.specs.declared.frame.Frame.{Frame}
use Rattle.vb_lines.specs.Building.{branches_of, AddsNode}

pub nodes_lines : (xs : List Node6) (x : Node6) → flat_lines (nodes_of (xs ++ x ∷ [])) ≡ flat_lines (nodes_of xs) ++ node_lines (node_of x)
nodes_lines [] x = append-nil (node_lines (node_of x))
nodes_lines (y ∷ ys) x = ap (λ l. node_lines (node_of y) ++ l) (nodes_lines ys x) ∙ sym (append_assoc (node_lines (node_of y)) (flat_lines (nodes_of ys)) (node_lines (node_of x)))

pub nodes_nested : (xs : List Node6) (x : Node6) → AreNested (nodes_of xs) → IsNestedNode (node_of x) → AreNested (nodes_of (xs ++ x ∷ []))
nodes_nested [] x h k = (k, tt)
nodes_nested (y ∷ ys) x h k = (h.0, nodes_nested ys x h.1 k)

pub branches_lines : (bs : List Branch) (b : Branch) → middle_lines (branches_of (bs ++ b ∷ [])) ≡ middle_lines (branches_of bs) ++ line_of b.line ∷ flat_lines (nodes_of b.body.items)
branches_lines [] b = ap (λ l. line_of b.line ∷ l) (append-nil (flat_lines (nodes_of b.body.items)))
branches_lines (a ∷ bs) b =
    ap (λ l. line_of a.line ∷ flat_lines (nodes_of a.body.items) ++ l) (branches_lines bs b)
    ∙ sym (append_assoc (line_of a.line ∷ flat_lines (nodes_of a.body.items)) (middle_lines (branches_of bs)) (line_of b.line ∷ flat_lines (nodes_of b.body.items)))

pub branches_nested : (k : BlockKind) (bs : List Branch) (b : Branch) → ArePartsOf k (branches_of bs) → role_of (line_of b.line).form ≡ Parts k → AreNested (nodes_of b.body.items) → ArePartsOf k (branches_of (bs ++ b ∷ []))
branches_nested k [] b h r n = (r, n, tt)
branches_nested k (a ∷ bs) b h r n = (h.0, h.1, branches_nested k bs b h.2 r n)

pub branches_front : (k : BlockKind) (bs : List Branch) (b : Branch) → ArePartsOf k (branches_of (bs ++ b ∷ [])) → ArePartsOf k (branches_of bs) × (role_of (line_of b.line).form ≡ Parts k) × AreNested (nodes_of b.body.items)
branches_front k [] b h = (tt, h.0, h.1)
branches_front k (a ∷ bs) b h = let more = branches_front k bs b h.2 in ((h.0, h.1, more.0), more.1, more.2)

pub adds_to_body : (a : Node6) (old new : Frame) → new.kind ≡ old.kind → new.head ≡ old.head → old.branches.items ≡ [] → new.branches.items ≡ [] → new.body.items ≡ old.body.items ++ a ∷ [] → AddsNode (node_of a) old new
adds_to_body a old new kind head none still body = record {
  kind = kind;
  head = head;
  whole = λ _. still;
  lines =
      ap (λ l. line_of l ∷ flat_lines (nodes_of new.body.items) ++ middle_lines (branches_of new.branches.items)) head
      ∙ ap (λ bs. line_of old.head ∷ flat_lines (nodes_of new.body.items) ++ middle_lines (branches_of bs)) still
      ∙ ap (λ xs. line_of old.head ∷ flat_lines (nodes_of xs) ++ []) body
      ∙ ap (λ l. line_of old.head ∷ l) (append-nil (flat_lines (nodes_of (old.body.items ++ a ∷ []))) ∙ nodes_lines old.body.items a)
      ∙ ap (λ l. line_of old.head ∷ l ++ node_lines (node_of a)) (sym (append-nil (flat_lines (nodes_of old.body.items))))
      ∙ ap (λ bs. line_of old.head ∷ (flat_lines (nodes_of old.body.items) ++ middle_lines (branches_of bs)) ++ node_lines (node_of a)) (sym none);
  nested = λ n f. record {
    head = rw (head, kind) f.head;
    body = rw body (nodes_nested old.body.items a f.body n);
    branches = rw still tt;
  };
}

pub adds_to_branch : (a : Node6) (old new : Frame) (bs : List Branch) (b b' : Branch) → new.kind ≡ old.kind → new.head ≡ old.head → new.body ≡ old.body → old.branches.items ≡ bs ++ b ∷ [] → new.branches.items ≡ bs ++ b' ∷ [] → b'.line ≡ b.line → b'.body.items ≡ b.body.items ++ a ∷ [] → AddsNode (node_of a) old new
adds_to_branch a old new bs b b' kind head body was is line more = record {
  kind = kind;
  head = head;
  whole = λ none. absurd (no_pushed bs (sym none ∙ was));
  lines =
      ap (λ l. line_of l ∷ flat_lines (nodes_of new.body.items) ++ middle_lines (branches_of new.branches.items)) head
      ∙ ap (λ v. line_of old.head ∷ flat_lines (nodes_of v.items) ++ middle_lines (branches_of new.branches.items)) body
      ∙ ap (λ l. line_of old.head ∷ flat_lines (nodes_of old.body.items) ++ l) (last_branch ∙ ap (λ bs. middle_lines (branches_of bs) ++ node_lines (node_of a)) (sym was))
      ∙ ap (λ l. line_of old.head ∷ l) (sym (append_assoc (flat_lines (nodes_of old.body.items)) (middle_lines (branches_of old.branches.items)) (node_lines (node_of a))));
  nested = λ n f. let front = branches_front old.kind bs b (rw was at f.branches) in record {
    head = rw (head, kind) f.head;
    body = rw body f.body;
    branches = rw (is, kind) (branches_nested old.kind bs b' front.0 (rw line front.1) (rw more (nodes_nested b.body.items a front.2 n)));
  };
}
  where
    no_pushed : (bs : List Branch) → [] ≡ bs ++ b ∷ [] → ⊥
    no_pushed [] e = cc
    no_pushed (x ∷ bs) e = cc

    last_branch : middle_lines (branches_of new.branches.items) ≡ middle_lines (branches_of (bs ++ b ∷ [])) ++ node_lines (node_of a)
    last_branch =
        ap (λ bs. middle_lines (branches_of bs)) is
        ∙ branches_lines bs b'
        ∙ ap (λ l. middle_lines (branches_of bs) ++ line_of l ∷ flat_lines (nodes_of b'.body.items)) line
        ∙ ap (λ xs. middle_lines (branches_of bs) ++ line_of b.line ∷ flat_lines (nodes_of xs)) more
        ∙ ap (λ l. middle_lines (branches_of bs) ++ line_of b.line ∷ l) (nodes_lines b.body.items a)
        ∙ sym (append_assoc (middle_lines (branches_of bs)) (line_of b.line ∷ flat_lines (nodes_of b.body.items)) (node_lines (node_of a)))
        ∙ ap (λ l. l ++ node_lines (node_of a)) (sym (branches_lines bs b))

-- a pop of nothing
pub none_popped : {X : Type 0} (n : ℕ) (old new : List X) → new ≡ take (n - 1) old → n ≡ 0 → old ≡ new ++ [] → (old ≡ []) × (new ≡ [])
none_popped n old new rest none items =
    let e : new ≡ [] = rest ∙ ap (λ k. take (k - 1) old) none in
    (items ∙ ap (λ xs. xs ++ []) e, e)

-- ---- the block

-- a line that parts it behind those that are there
abbrev push_middle : Middles → Line → Nodes → Middles
push_middle no_middles l body = next_middle l body no_middles
push_middle (next_middle k b more) l body = next_middle k b (push_middle more l body)

pub middles_push : (ms : List Middle6) (m : Middle6) → middles_of (ms ++ m ∷ []) ≡ push_middle (middles_of ms) (line_of m.line) (nodes_of m.body.items)
middles_push [] m = refl
middles_push (a ∷ ms) m = ap (next_middle (line_of a.line) (nodes_of a.body.items)) (middles_push ms m)

pub branches_push : (bs : List Branch) (b : Branch) → branches_of (bs ++ b ∷ []) ≡ push_middle (branches_of bs) (line_of b.line) (nodes_of b.body.items)
branches_push [] b = refl
branches_push (a ∷ bs) b = ap (next_middle (line_of a.line) (nodes_of a.body.items)) (branches_push bs b)

pub pushed_alike : (middles new : List Middle6) (bs : List Branch) (b : Branch) → new ≡ middles ++ roll-Middle6 (record { line = b.line; body = b.body }) ∷ [] → middles_of middles ≡ branches_of bs → middles_of new ≡ branches_of (bs ++ b ∷ [])
pushed_alike middles new bs b is same =
    ap middles_of is
    ∙ middles_push middles (roll-Middle6 (record { line = b.line; body = b.body }))
    ∙ ap (λ m. push_middle m (line_of b.line) (nodes_of b.body.items)) same
    ∙ sym (branches_push bs b)
