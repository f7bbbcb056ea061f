-- Lines without a fault of nesting, behind which no block is open, are those of a tree.
use Rattle.std.proofs.Common.{◌≡◌, ◌⊎◌, inl, inr, ℕ, zero, suc, ◌<◌, ◌≤◌, Bool, true, false, ◌||◌, cond, List, [], ◌∷◌, ◌++◌, length, get_or, All, append_assoc, Option, Some, None, refl, sym, ap, ◌∙◌, eqb-true, arith}
use Rattle.std.specs.List.{flat_map}
use Rattle.std.proofs.lemmas.Bool.{false≢true}
use Rattle.std.proofs.lemmas.List.Elements.{All-nil, All-cons}
use Rattle.vb_tree.specs.declared.block.BlockKind.{BlockKind}
use Rattle.vb_tree.specs.declared.block.BlockKind.TheVariants as kind
use Rattle.vb_tree.specs.declared.block.Role.{Role}
use Rattle.vb_tree.specs.declared.block.Role.TheVariants.{Plain, Opens, Parts, Closes}
use Rattle.vb_tree.specs.Tree.{Form, Line, line, block, Nodes, no_nodes, next_node, Middles, no_middles, next_middle, Member, alone, group, proc}
use Rattle.vb_tree.specs.Tree as tree
use Rattle.vb_tree.specs.Blocks.{role_of, is_procedure, is_group}
use Rattle.vb_tree.specs.FlatLines.{flat_lines, node_lines, middle_lines, member_lines}
use Rattle.vb_tree.specs.ModuleTree.{IsPlain, IsInnerBlock, AreNested, ArePartsOf, IsNested}
use Rattle.vb_lines.specs.Nesting.{Open, open_behind, open_after, fault_of}
use Rattle.vb_lines.specs.Parts.{first_of, lines_fault}
use Rattle.vb_lines.proofs.FoundOpen.{opens_inner, parts_same, closes_same, group_closes, group_opens_none, group_parts_none, module_opens, module_parts_none, module_closes_none}

-- ---- lines and more lines

no_some : (k : ℕ) → ◌≡◌ {A = Option ℕ} (Some k) None → ⊥
no_some k e = cc

no_first : (o p : Option ℕ) → first_of o p ≡ None → (o ≡ None) × (p ≡ None)
no_first None p e = (refl, e)
no_first (Some k) p e = absurd (no_some k e)

neither_first : (o p : Option ℕ) → o ≡ None → p ≡ None → first_of o p ≡ None
neither_first o p e f = ap (λ x. first_of x p) e ∙ f

pub no_fault_append : (opens : List Open) (xs ys : List Line) → lines_fault opens xs ≡ None → lines_fault (open_after opens xs) ys ≡ None → lines_fault opens (xs ++ ys) ≡ None
no_fault_append opens [] ys h k = k
no_fault_append opens (x ∷ xs) ys h k =
    let both = no_first (fault_of opens (role_of x.form)) (lines_fault (open_behind (role_of x.form) x opens) xs) h in
    neither_first (fault_of opens (role_of x.form)) (lines_fault (open_behind (role_of x.form) x opens) (xs ++ ys)) both.0
    (no_fault_append (open_behind (role_of x.form) x opens) xs ys both.1 k)

group_or_procedure : (a b : Bool) → (a || b) ≡ true → (b ≡ true) ⊎ ((b ≡ false) × (a ≡ true))
group_or_procedure a true e = inl refl
group_or_procedure true false e = inr (refl, refl)
group_or_procedure false false e = absurd (false≢true e)

no_if : (k : BlockKind) → Parts kind.If ≡ Parts k → is_procedure k ≡ true → ⊥
no_if k e p = let same : kind.If ≡ k = cc in false≢true (rw (← same) at p)

no_select : (k : BlockKind) → Parts kind.Select ≡ Parts k → is_procedure k ≡ true → ⊥
no_select k e p = let same : kind.Select ≡ k = cc in false≢true (rw (← same) at p)

-- no line parts a procedure
no_procedure : (f : Form) (k : BlockKind) → role_of f ≡ Parts k → is_procedure k ≡ true → ⊥
no_procedure (tree.else_if condition) k e p = no_if k e p
no_procedure tree.else_line k e p = no_if k e p
no_procedure (tree.case_line items) k e p = no_select k e p
no_procedure tree.case_else k e p = no_select k e p
no_procedure (tree.static_head kind s result) k e p = cc
no_procedure _ k e p = cc

no_parts : (k : BlockKind) (ms : Middles) → is_procedure k ≡ true → ArePartsOf k ms → ms ≡ no_middles
no_parts k no_middles p h = refl
no_parts k (next_middle l body more) p h = absurd (no_procedure l.form k h.0 p)

still_open : (o : Open) (opens : List Open) → o ∷ opens ≡ [] → ⊥
still_open o opens e = cc

-- ---- a block

-- what is read of a block behind its head, up to its closing line, and the lines behind that
record Block (o : Open) (opens : List Open) (lines : List Line) : Type 0 where
  body : Nodes
  middles : Middles
  close : Line
  rest : List Line
  in_order : lines ≡ flat_lines body ++ (middle_lines middles ++ close ∷ rest)
  nested : AreNested body
  parts : ArePartsOf o.kind middles
  closes : role_of close.form ≡ Closes o.kind
  right : lines_fault opens rest ≡ None
  ended : open_after opens rest ≡ []
  shorter : length rest < length lines

-- lines of a block can be read, where they are no more than n
abbrev IsRead : ℕ → Type 0
IsRead n = (o : Open) (opens : List Open) (lines : List Line) → length lines ≤ n → is_group o.kind ≡ false → lines_fault (o ∷ opens) lines ≡ None → open_after (o ∷ opens) lines ≡ [] → Block o opens lines

with_line : (o : Open) (opens : List Open) (l : Line) (ls : List Line) → role_of l.form ≡ Plain → Block o opens ls → Block o opens (l ∷ ls)
with_line o opens l ls plain b = record {
  body = next_node (line l) b.body;
  middles = b.middles;
  close = b.close;
  rest = b.rest;
  in_order = ap (λ xs. l ∷ xs) b.in_order;
  nested = (plain, b.nested);
  parts = b.parts;
  closes = b.closes;
  right = b.right;
  ended = b.ended;
  shorter = let less = b.shorter in omega (arith, less);
}

block_lines : (head : Line) (body : Nodes) (middles : Middles) (close : Line) (r : List Line) → node_lines (block head body middles close) ++ r ≡ head ∷ (flat_lines body ++ (middle_lines middles ++ close ∷ r))
block_lines head body middles close r = append_assoc (head ∷ flat_lines body ++ middle_lines middles) (close ∷ []) r ∙ append_assoc (head ∷ flat_lines body) (middle_lines middles) (close ∷ r)

with_block : (o : Open) (opens : List Open) (l : Line) (ls : List Line) (k : BlockKind) → role_of l.form ≡ Opens k → IsInnerBlock k → (inner : Block (record { kind = k; head = l }) (o ∷ opens) ls) → Block o opens inner.rest → Block o opens (l ∷ ls)
with_block o opens l ls k opened is_inner inner b =
    let node = block l inner.body inner.middles inner.close in
    let less = inner.shorter in
    let less_again = b.shorter in
    record {
      body = next_node node b.body;
      middles = b.middles;
      close = b.close;
      rest = b.rest;
      in_order =
          ap (λ xs. l ∷ xs) (inner.in_order ∙ ap (λ xs. flat_lines inner.body ++ (middle_lines inner.middles ++ inner.close ∷ xs)) b.in_order)
          ∙ sym (block_lines l inner.body inner.middles inner.close (flat_lines b.body ++ (middle_lines b.middles ++ b.close ∷ b.rest)))
          ∙ sym (append_assoc (node_lines (block l inner.body inner.middles inner.close)) (flat_lines b.body) (middle_lines b.middles ++ b.close ∷ b.rest));
      nested = ((k, opened, is_inner, inner.nested, inner.parts, inner.closes), b.nested);
      parts = b.parts;
      closes = b.closes;
      right = b.right;
      ended = b.ended;
      shorter = omega (arith, less, less_again);
    }

with_part : (o : Open) (opens : List Open) (l : Line) (ls : List Line) → role_of l.form ≡ Parts o.kind → Block o opens ls → Block o opens (l ∷ ls)
with_part o opens l ls parted b = record {
  body = no_nodes;
  middles = next_middle l b.body b.middles;
  close = b.close;
  rest = b.rest;
  in_order = ap (λ xs. l ∷ xs) b.in_order ∙ sym (append_assoc (l ∷ flat_lines b.body) (middle_lines b.middles) (b.close ∷ b.rest));
  nested = tt;
  parts = (parted, b.nested, b.parts);
  closes = b.closes;
  right = b.right;
  ended = b.ended;
  shorter = let less = b.shorter in omega (arith, less);
}

closed : (o : Open) (opens : List Open) (l : Line) (ls : List Line) → role_of l.form ≡ Closes o.kind → lines_fault opens ls ≡ None → open_after opens ls ≡ [] → Block o opens (l ∷ ls)
closed o opens l ls closing h e = record {
  body = no_nodes;
  middles = no_middles;
  close = l;
  rest = ls;
  in_order = refl;
  nested = tt;
  parts = tt;
  closes = closing;
  right = h;
  ended = e;
  shorter = omega arith;
}

-- one line of a block, by its role
block_line : (n : ℕ) → IsRead n → (o : Open) (opens : List Open) (l : Line) (ls : List Line) → length ls ≤ n → is_group o.kind ≡ false → (r : Role) → role_of l.form ≡ r → fault_of (o ∷ opens) r ≡ None → lines_fault (open_behind r l (o ∷ opens)) ls ≡ None → open_after (open_behind r l (o ∷ opens)) ls ≡ [] → Block o opens (l ∷ ls)
block_line n read o opens l ls few no_group Plain is right h e = with_line o opens l ls is (read o opens ls few no_group h e)
block_line n read o opens l ls few no_group (Opens k) is right h e =
    let is_inner = opens_inner o opens k no_group right in
    let inner = read (record { kind = k; head = l }) (o ∷ opens) ls few is_inner.1 h e in
    let less = inner.shorter in
    let fewer : length inner.rest ≤ n = omega (arith, few, less) in
    with_block o opens l ls k is is_inner inner (read o opens inner.rest fewer no_group inner.right inner.ended)
block_line n read o opens l ls few no_group (Parts k) is right h e =
    with_part o opens l ls (is ∙ ap Parts (parts_same o opens k no_group right)) (read o opens ls few no_group h e)
block_line n read o opens l ls few no_group (Closes k) is right h e =
    closed o opens l ls (is ∙ ap Closes (closes_same o opens k no_group right)) h e

block_of : (n : ℕ) → IsRead n
block_of zero o opens [] few no_group h e = absurd (still_open o opens e)
block_of zero o opens (l ∷ ls) few no_group h e = absurd (omega (arith, few))
block_of (suc n) o opens [] few no_group h e = absurd (still_open o opens e)
block_of (suc n) o opens (l ∷ ls) few no_group h e =
    let both = no_first (fault_of (o ∷ opens) (role_of l.form)) (lines_fault (open_behind (role_of l.form) l (o ∷ opens)) ls) h in
    let fewer : length ls ≤ n = omega (arith, few) in
    block_line n (block_of n) o opens l ls fewer no_group (role_of l.form) refl both.0 both.1 e

-- ---- a Type or an Enum

-- what is read of a group behind its head, up to its closing line, and the lines behind that
record Group (o : Open) (lines : List Line) : Type 0 where
  items : List Line
  close : Line
  rest : List Line
  in_order : lines ≡ items ++ close ∷ rest
  plain : All IsPlain items
  closes : role_of close.form ≡ Closes o.kind
  right : lines_fault [] rest ≡ None
  ended : open_after [] rest ≡ []
  shorter : length rest < length lines

with_item : (o : Open) (l : Line) (ls : List Line) → role_of l.form ≡ Plain → Group o ls → Group o (l ∷ ls)
with_item o l ls is g = record {
  items = l ∷ g.items;
  close = g.close;
  rest = g.rest;
  in_order = ap (λ xs. l ∷ xs) g.in_order;
  plain = All-cons IsPlain l g.items is g.plain;
  closes = g.closes;
  right = g.right;
  ended = g.ended;
  shorter = let less = g.shorter in omega (arith, less);
}

group_line : (o : Open) (l : Line) (ls : List Line) → is_group o.kind ≡ true → (lines_fault (o ∷ []) ls ≡ None → open_after (o ∷ []) ls ≡ [] → Group o ls) → (r : Role) → role_of l.form ≡ r → fault_of (o ∷ []) r ≡ None → lines_fault (open_behind r l (o ∷ [])) ls ≡ None → open_after (open_behind r l (o ∷ [])) ls ≡ [] → Group o (l ∷ ls)
group_line o l ls in_one more Plain is right h e = with_item o l ls is (more h e)
group_line o l ls in_one more (Opens k) is right h e = absurd (group_opens_none o [] k in_one right)
group_line o l ls in_one more (Parts k) is right h e = absurd (group_parts_none o [] k in_one right)
group_line o l ls in_one more (Closes k) is right h e = record {
  items = [];
  close = l;
  rest = ls;
  in_order = refl;
  plain = All-nil IsPlain;
  closes = is ∙ ap Closes (group_closes o [] k in_one right);
  right = h;
  ended = e;
  shorter = omega arith;
}

group_of : (o : Open) (lines : List Line) → is_group o.kind ≡ true → lines_fault (o ∷ []) lines ≡ None → open_after (o ∷ []) lines ≡ [] → Group o lines
group_of o [] in_one h e = absurd (still_open o [] e)
group_of o (l ∷ ls) in_one h e =
    let both = no_first (fault_of (o ∷ []) (role_of l.form)) (lines_fault (open_behind (role_of l.form) l (o ∷ [])) ls) h in
    group_line o l ls in_one (λ h' e'. group_of o ls in_one h' e') (role_of l.form) refl both.0 both.1 e

-- ---- members

abbrev pub Members : List Line → Type 0
Members lines = (ms : List Member) × (flat_map member_lines ms ≡ lines) × All IsNested ms

abbrev AreMembers : ℕ → Type 0
AreMembers n = (lines : List Line) → length lines ≤ n → lines_fault [] lines ≡ None → open_after [] lines ≡ [] → Members lines

with_alone : (l : Line) (ls : List Line) → role_of l.form ≡ Plain → Members ls → Members (l ∷ ls)
with_alone l ls is ms = (alone l ∷ ms.0, ap (λ xs. l ∷ xs) ms.1, All-cons IsNested (alone l) ms.0 is ms.2)

with_group : (l : Line) (ls : List Line) (k : BlockKind) → role_of l.form ≡ Opens k → is_group k ≡ true → (g : Group (record { kind = k; head = l }) ls) → Members g.rest → Members (l ∷ ls)
with_group l ls k is in_one g ms =
    let m : Member = group l g.items g.close in (
      m ∷ ms.0,
      append_assoc (l ∷ g.items) (g.close ∷ []) (flat_map member_lines ms.0) ∙ ap (λ xs. l ∷ (g.items ++ g.close ∷ xs)) ms.1 ∙ sym (ap (λ xs. l ∷ xs) g.in_order),
      All-cons IsNested m ms.0 (k, is, in_one, g.plain, g.closes) ms.2,
    )

with_procedure : (l : Line) (ls : List Line) (k : BlockKind) → role_of l.form ≡ Opens k → is_procedure k ≡ true → (b : Block (record { kind = k; head = l }) [] ls) → Members b.rest → Members (l ∷ ls)
with_procedure l ls k is in_one b ms =
    let m : Member = proc l b.body b.close in
    let none = no_parts k b.middles in_one b.parts in (
      m ∷ ms.0,
      append_assoc (l ∷ flat_lines b.body) (b.close ∷ []) (flat_map member_lines ms.0)
          ∙ ap (λ xs. l ∷ (flat_lines b.body ++ b.close ∷ xs)) ms.1
          ∙ sym (ap (λ xs. l ∷ xs) (b.in_order ∙ ap (λ x. flat_lines b.body ++ (middle_lines x ++ b.close ∷ b.rest)) none)),
      All-cons IsNested m ms.0 (k, is, in_one, b.nested, b.closes) ms.2,
    )

-- a Type, an Enum or a procedure, behind its head
member_behind : (n : ℕ) → AreMembers n → (l : Line) (ls : List Line) (k : BlockKind) → length ls ≤ n → role_of l.form ≡ Opens k → (is_group k ≡ true) ⊎ ((is_group k ≡ false) × (is_procedure k ≡ true)) → lines_fault (record { kind = k; head = l } ∷ []) ls ≡ None → open_after (record { kind = k; head = l } ∷ []) ls ≡ [] → Members (l ∷ ls)
member_behind n more l ls k few is (inl in_one) h e =
    let g = group_of (record { kind = k; head = l }) ls in_one h e in
    let less = g.shorter in
    let fewer : length g.rest ≤ n = omega (arith, few, less) in
    with_group l ls k is in_one g (more g.rest fewer g.right g.ended)
member_behind n more l ls k few is (inr which) h e =
    let b = block_of n (record { kind = k; head = l }) [] ls few which.0 h e in
    let less = b.shorter in
    let fewer : length b.rest ≤ n = omega (arith, few, less) in
    with_procedure l ls k is which.1 b (more b.rest fewer b.right b.ended)

member_line : (n : ℕ) → AreMembers n → (l : Line) (ls : List Line) → length ls ≤ n → (r : Role) → role_of l.form ≡ r → fault_of [] r ≡ None → lines_fault (open_behind r l []) ls ≡ None → open_after (open_behind r l []) ls ≡ [] → Members (l ∷ ls)
member_line n more l ls few Plain is right h e = with_alone l ls is (more ls few h e)
member_line n more l ls few (Opens k) is right h e = member_behind n more l ls k few is (group_or_procedure (is_procedure k) (is_group k) (module_opens k right)) h e
member_line n more l ls few (Parts k) is right h e = absurd (module_parts_none k right)
member_line n more l ls few (Closes k) is right h e = absurd (module_closes_none k right)

members_within : (n : ℕ) → AreMembers n
members_within zero [] few h e = ([], refl, All-nil IsNested)
members_within zero (l ∷ ls) few h e = absurd (omega (arith, few))
members_within (suc n) [] few h e = ([], refl, All-nil IsNested)
members_within (suc n) (l ∷ ls) few h e =
    let both = no_first (fault_of [] (role_of l.form)) (lines_fault (open_behind (role_of l.form) l []) ls) h in
    let fewer : length ls ≤ n = omega (arith, few) in
    member_line n (members_within n) l ls fewer (role_of l.form) refl both.0 both.1 e

-- lines without a fault of nesting, behind which no block is open, are those of nested members
pub members_of : (lines : List Line) → lines_fault [] lines ≡ None → open_after [] lines ≡ [] → Members lines
members_of lines h e = members_within (length lines) lines (omega arith) h e
