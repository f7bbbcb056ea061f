-- Lines are at most one tree.
use Rattle.std.proofs.Common.{◌≡◌, suc, true, List, [], ◌∷◌, ◌++◌, refl, sym, ap, ◌∙◌, append_assoc, arith, subst, All}
use Rattle.std.specs.List.{flat_map}
use Rattle.std.proofs.lemmas.Bool.{false≢true}
use Rattle.vb_tree.specs.declared.block.BlockKind.{BlockKind}
use Rattle.vb_tree.specs.declared.block.BlockKind.TheVariants as kind
use Rattle.vb_tree.specs.declared.block.Role.{Role}
use Rattle.vb_tree.specs.declared.block.Role.TheVariants.{Plain, Opens, Parts, Closes}
use Rattle.vb_tree.specs.Tree.{Line, Node, line, block, Nodes, no_nodes, next_node, Middles, no_middles, next_middle, Member, alone, group, proc}
use Rattle.vb_tree.specs.Blocks.{role_of, is_procedure, is_group}
use Rattle.vb_tree.specs.FlatLines.{flat_lines, node_lines, middle_lines, member_lines}
use Rattle.vb_tree.specs.ModuleTree.{IsPlain, AreNested, IsNestedNode, ArePartsOf, IsNested}

-- lines that go on outside of a list of nodes: none, or one that parts or closes a block is next
abbrev IsBeyond : Role → Type 0
IsBeyond Plain = ⊥
IsBeyond (Opens k) = ⊥
IsBeyond (Parts k) = Unit {0}
IsBeyond (Closes k) = Unit {0}

abbrev AreBeyond : List Line → Type 0
AreBeyond [] = Unit {0}
AreBeyond (l ∷ lines) = IsBeyond (role_of l.form)

plain_or_opens : (a : Node) (l : Line) (rest more : List Line) → IsNestedNode a → l ∷ rest ≡ node_lines a ++ more → IsBeyond (role_of l.form) → ⊥
plain_or_opens (line k) l rest more n e b = let same : l ≡ k = cc in subst IsBeyond (ap (λ x. role_of x.form) same ∙ n) b
plain_or_opens (block head body middles close) l rest more n e b =
    let same : l ≡ head = cc in
    subst IsBeyond (ap (λ x. role_of x.form) same ∙ n.1) b

beyond_or_node : (a : Node) (r more : List Line) → AreBeyond r → IsNestedNode a → r ≡ node_lines a ++ more → ⊥
beyond_or_node (line k) [] more b n e = cc
beyond_or_node (block head body middles close) [] more b n e = cc
beyond_or_node a (l ∷ r) more b n e = plain_or_opens a l r more n e b

parts_beyond : (r : Role) (k : BlockKind) → r ≡ Parts k → IsBeyond r
parts_beyond r k e = subst IsBeyond (sym e) tt

closes_beyond : (r : Role) (k : BlockKind) → r ≡ Closes k → IsBeyond r
closes_beyond r k e = subst IsBeyond (sym e) tt

middles_beyond : (k : BlockKind) (ms : Middles) (c : Line) (r : List Line) → ArePartsOf k ms → role_of c.form ≡ Closes k → AreBeyond (middle_lines ms ++ c ∷ r)
middles_beyond k no_middles c r h e = closes_beyond (role_of c.form) k e
middles_beyond k (next_middle l body more) c r h e = parts_beyond (role_of l.form) k h.0

block_lines : (head : Line) (body : Nodes) (middles : Middles) (close : Line) (r : List Line) → node_lines (block head body middles close) ++ r ≡ head ∷ (flat_lines body ++ (middle_lines middles ++ close ∷ r))
block_lines head body middles close r = append_assoc (head ∷ flat_lines body ++ middle_lines middles) (close ∷ []) r ∙ append_assoc (head ∷ flat_lines body) (middle_lines middles) (close ∷ r)

middle_parts : (l : Line) (body : Nodes) (more : Middles) (r : List Line) → middle_lines (next_middle l body more) ++ r ≡ l ∷ (flat_lines body ++ (middle_lines more ++ r))
middle_parts l body more r = append_assoc (l ∷ flat_lines body) (middle_lines more) r

no_open : (r : Role) (k : BlockKind) → r ≡ Plain → r ≡ Opens k → ⊥
no_open r k e f = cc

parts_or_closes : (r : Role) (k j : BlockKind) → r ≡ Parts k → r ≡ Closes j → ⊥
parts_or_closes r k j e f = cc

plain_or_closes : (r : Role) (k : BlockKind) → r ≡ Plain → r ≡ Closes k → ⊥
plain_or_closes r k e f = cc

neither : (k : BlockKind) → is_group k ≡ true → is_procedure k ≡ true → ⊥
neither kind.Type g p = false≢true p
neither kind.Enum g p = false≢true p
neither kind.Sub g p = false≢true g
neither kind.Function g p = false≢true g
neither kind.Property g p = false≢true g
neither kind.If g p = false≢true g
neither kind.Select g p = false≢true g
neither kind.For g p = false≢true g
neither kind.Do g p = false≢true g
neither kind.While g p = false≢true g
neither kind.With g p = false≢true g

first_same : (l k : Line) (r s : List Line) → l ∷ r ≡ k ∷ s → l ≡ k
first_same l k r s e = cc

mutual
  nodes_once : (xs ys : Nodes) (r s : List Line) → AreNested xs → AreNested ys → AreBeyond r → AreBeyond s → flat_lines xs ++ r ≡ flat_lines ys ++ s → (xs ≡ ys) × (r ≡ s)
  nodes_once no_nodes no_nodes r s h k b c e = (refl, e)
  nodes_once no_nodes (next_node a ys) r s h k b c e = absurd (beyond_or_node a r (flat_lines ys ++ s) b k.0 (e ∙ append_assoc (node_lines a) (flat_lines ys) s))
  nodes_once (next_node a xs) no_nodes r s h k b c e = absurd (beyond_or_node a s (flat_lines xs ++ r) c h.0 (sym e ∙ append_assoc (node_lines a) (flat_lines xs) r))
  nodes_once (next_node a xs) (next_node d ys) r s h k b c e =
      let first = node_once a d (flat_lines xs ++ r) (flat_lines ys ++ s) h.0 k.0 (sym (append_assoc (node_lines a) (flat_lines xs) r) ∙ e ∙ append_assoc (node_lines d) (flat_lines ys) s) in
      let more = nodes_once xs ys r s h.1 k.1 b c first.1 in
      (ap (λ z. next_node z xs) first.0 ∙ ap (next_node d) more.0, more.1)

  node_once : (a d : Node) (r s : List Line) → IsNestedNode a → IsNestedNode d → node_lines a ++ r ≡ node_lines d ++ s → (a ≡ d) × (r ≡ s)
  node_once (line l) (line k) r s h n e = let same : l ≡ k = cc in let rest : r ≡ s = cc in (ap line same, rest)
  node_once (line l) (block head body middles close) r s h n e = absurd (no_open (role_of l.form) n.0 h (let same : l ≡ head = cc in ap (λ x. role_of x.form) same ∙ n.1))
  node_once (block head body middles close) (line l) r s h n e = absurd (no_open (role_of l.form) h.0 n (let same : l ≡ head = cc in ap (λ x. role_of x.form) same ∙ h.1))
  node_once (block head body middles close) (block head' body' middles' close') r s h n e =
      let all = sym (block_lines head body middles close r) ∙ e ∙ block_lines head' body' middles' close' s in
      let same_head : head ≡ head' = cc in
      let tails : flat_lines body ++ (middle_lines middles ++ close ∷ r) ≡ flat_lines body' ++ (middle_lines middles' ++ close' ∷ s) = cc in
      let bodies = nodes_once body body' (middle_lines middles ++ close ∷ r) (middle_lines middles' ++ close' ∷ s) h.3 n.3 (middles_beyond h.0 middles close r h.4 h.5) (middles_beyond n.0 middles' close' s n.4 n.5) tails in
      let rest = middles_once h.0 n.0 middles middles' close close' r s h.4 n.4 h.5 n.5 bodies.1 in
      (ap (λ z. block z body middles close) same_head ∙ ap (λ z. block head' z middles close) bodies.0 ∙ ap (λ z. block head' body' z close) rest.0 ∙ ap (block head' body' middles') rest.1, rest.2)

  middles_once : (k j : BlockKind) (ms ns : Middles) (c d : Line) (r s : List Line) → ArePartsOf k ms → ArePartsOf j ns → role_of c.form ≡ Closes k → role_of d.form ≡ Closes j → middle_lines ms ++ c ∷ r ≡ middle_lines ns ++ d ∷ s → (ms ≡ ns) × (c ≡ d) × (r ≡ s)
  middles_once k j no_middles no_middles c d r s h n p q e = let same : c ≡ d = cc in let rest : r ≡ s = cc in (refl, same, rest)
  middles_once k j no_middles (next_middle l body more) c d r s h n p q e =
      absurd (parts_or_closes (role_of c.form) j k (let same : c ≡ l = first_same c l r _ (e ∙ middle_parts l body more (d ∷ s)) in ap (λ x. role_of x.form) same ∙ n.0) p)
  middles_once k j (next_middle l body more) no_middles c d r s h n p q e =
      absurd (parts_or_closes (role_of d.form) k j (let same : d ≡ l = first_same d l s _ (sym e ∙ middle_parts l body more (c ∷ r)) in ap (λ x. role_of x.form) same ∙ h.0) q)
  middles_once k j (next_middle l body more) (next_middle l' body' more') c d r s h n p q e =
      let all = sym (middle_parts l body more (c ∷ r)) ∙ e ∙ middle_parts l' body' more' (d ∷ s) in
      let same : l ≡ l' = cc in
      let tails : flat_lines body ++ (middle_lines more ++ c ∷ r) ≡ flat_lines body' ++ (middle_lines more' ++ d ∷ s) = cc in
      let bodies = nodes_once body body' (middle_lines more ++ c ∷ r) (middle_lines more' ++ d ∷ s) h.1 n.1 (middles_beyond k more c r h.2 p) (middles_beyond j more' d s n.2 q) tails in
      let rest = middles_once k j more more' c d r s h.2 n.2 p q bodies.1 in
      (ap (λ z. next_middle z body more) same ∙ ap (λ z. next_middle l' z more) bodies.0 ∙ ap (next_middle l' body') rest.0, rest.1, rest.2)

-- ---- the lines of a Type or Enum

all_first : (P : Line → Type 0) (x : Line) (xs : List Line) → All P (x ∷ xs) → P x
all_first P x xs h = h 0 x (omega arith)

all_more : (P : Line → Type 0) (x : Line) (xs : List Line) → All P (x ∷ xs) → All P xs
all_more P x xs h = λ k d lt. h (suc k) d (omega arith)

plain_once : (ls ks : List Line) (c d : Line) (k j : BlockKind) (r s : List Line) → All IsPlain ls → All IsPlain ks → role_of c.form ≡ Closes k → role_of d.form ≡ Closes j → ls ++ c ∷ r ≡ ks ++ d ∷ s → (ls ≡ ks) × (c ≡ d) × (r ≡ s)
plain_once [] [] c d k j r s h n p q e = let same : c ≡ d = cc in let rest : r ≡ s = cc in (refl, same, rest)
plain_once [] (y ∷ ks) c d k j r s h n p q e = absurd (plain_or_closes (role_of c.form) k (let same : c ≡ y = cc in ap (λ x. role_of x.form) same ∙ all_first IsPlain y ks n) p)
plain_once (x ∷ ls) [] c d k j r s h n p q e = absurd (plain_or_closes (role_of d.form) j (let same : d ≡ x = cc in ap (λ x. role_of x.form) same ∙ all_first IsPlain x ls h) q)
plain_once (x ∷ ls) (y ∷ ks) c d k j r s h n p q e =
    let same : x ≡ y = cc in
    let tails : ls ++ c ∷ r ≡ ks ++ d ∷ s = cc in
    let more = plain_once ls ks c d k j r s (all_more IsPlain x ls h) (all_more IsPlain y ks n) p q tails in
    (ap (λ z. z ∷ ls) same ∙ ap (λ zs. y ∷ zs) more.0, more.1, more.2)

-- ---- members

group_or_procedure : (r : Role) (k j : BlockKind) → r ≡ Opens k → r ≡ Opens j → is_group k ≡ true → is_procedure j ≡ true → ⊥
group_or_procedure r k j e f g p = let same : k ≡ j = cc in neither j (subst (λ z. is_group z ≡ true) same g) p

-- a member, by what it begins with
member_once : (a d : Member) (r s : List Line) → IsNested a → IsNested d → member_lines a ++ r ≡ member_lines d ++ s → (a ≡ d) × (r ≡ s)
member_once (alone l) (alone k) r s h n e = let same : l ≡ k = cc in let rest : r ≡ s = cc in (ap alone same, rest)
member_once (alone l) (group head lines close) r s h n e = absurd (no_open (role_of l.form) n.0 h (let same : l ≡ head = cc in ap (λ x. role_of x.form) same ∙ n.1))
member_once (alone l) (proc head body close) r s h n e = absurd (no_open (role_of l.form) n.0 h (let same : l ≡ head = cc in ap (λ x. role_of x.form) same ∙ n.1))
member_once (group head lines close) (alone l) r s h n e = absurd (no_open (role_of l.form) h.0 n (let same : l ≡ head = cc in ap (λ x. role_of x.form) same ∙ h.1))
member_once (proc head body close) (alone l) r s h n e = absurd (no_open (role_of l.form) h.0 n (let same : l ≡ head = cc in ap (λ x. role_of x.form) same ∙ h.1))
member_once (group head lines close) (proc head' body close') r s h n e = absurd (group_or_procedure (role_of head.form) h.0 n.0 h.1 (let same : head ≡ head' = cc in ap (λ x. role_of x.form) same ∙ n.1) h.2 n.2)
member_once (proc head body close) (group head' lines close') r s h n e = absurd (group_or_procedure (role_of head'.form) n.0 h.0 n.1 (let same : head' ≡ head = cc in ap (λ x. role_of x.form) same ∙ h.1) n.2 h.2)
member_once (group head lines close) (group head' lines' close') r s h n e =
    let all = sym (append_assoc (head ∷ lines) (close ∷ []) r) ∙ e ∙ append_assoc (head' ∷ lines') (close' ∷ []) s in
    let same : head ≡ head' = cc in
    let tails : lines ++ close ∷ r ≡ lines' ++ close' ∷ s = cc in
    let rest = plain_once lines lines' close close' h.0 n.0 r s h.3 n.3 h.4 n.4 tails in
    (ap (λ z. group z lines close) same ∙ ap (λ z. group head' z close) rest.0 ∙ ap (group head' lines') rest.1, rest.2)
member_once (proc head body close) (proc head' body' close') r s h n e =
    let all = sym (append_assoc (head ∷ flat_lines body) (close ∷ []) r) ∙ e ∙ append_assoc (head' ∷ flat_lines body') (close' ∷ []) s in
    let same : head ≡ head' = cc in
    let tails : flat_lines body ++ close ∷ r ≡ flat_lines body' ++ close' ∷ s = cc in
    let bodies = nodes_once body body' (close ∷ r) (close' ∷ s) h.3 n.3 (closes_beyond (role_of close.form) h.0 h.4) (closes_beyond (role_of close'.form) n.0 n.4) tails in
    let same_close : close ≡ close' = first_same close close' r s bodies.1 in
    let rest : r ≡ s = cc in
    (ap (λ z. proc z body close) same ∙ ap (λ z. proc head' z close) bodies.0 ∙ ap (proc head' body') same_close, rest)

some_line : (a : Member) (r : List Line) → member_lines a ++ r ≡ [] → ⊥
some_line (alone l) r e = cc
some_line (group head lines close) r e = cc
some_line (proc head body close) r e = cc

members_first : (x : Member) (xs : List Member) → All IsNested (x ∷ xs) → IsNested x
members_first x xs h = h 0 x (omega arith)

members_more : (x : Member) (xs : List Member) → All IsNested (x ∷ xs) → All IsNested xs
members_more x xs h = λ k d lt. h (suc k) d (omega arith)

pub members_once : (xs ys : List Member) → All IsNested xs → All IsNested ys → flat_map member_lines xs ≡ flat_map member_lines ys → xs ≡ ys
members_once [] [] h n e = refl
members_once [] (y ∷ ys) h n e = absurd (some_line y (flat_map member_lines ys) (sym e))
members_once (x ∷ xs) [] h n e = absurd (some_line x (flat_map member_lines xs) e)
members_once (x ∷ xs) (y ∷ ys) h n e =
    let first = member_once x y (flat_map member_lines xs) (flat_map member_lines ys) (members_first x xs h) (members_first y ys n) e in
    ap (λ z. z ∷ xs) first.0 ∙ ap (λ zs. y ∷ zs) (members_once xs ys (members_more x xs h) (members_more y ys n) first.1)
