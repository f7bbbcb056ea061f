-- Bodies have one item for each code line, in order, and what is bound of them shows them.
use Rattle.std.proofs.Common.{◌≡◌, ℕ, ◌+◌, Bool, true, false, List, [], ◌∷◌, ◌++◌, drop, get_or, length, map, refl, sym, ap, ◌∙◌, append_assoc, length-append, arith}
use Rattle.std.specs.Prelude.{cond, if◌then◌else◌, Option, Some, slice_get}
use Rattle.std.proofs.lemmas.List.{map-append}
use Rattle.std.proofs.lemmas.List.Elements.{filter-append}
use Rattle.vb_tree.specs.Blocks.{is_code}
use Rattle.vb_tree.specs.FlatLines.{code_lines, flat_lines, middle_lines, node_lines}
use Rattle.vb_tree.specs.Tree.{Middles, Node, Nodes, block, line, next_middle, next_node, no_middles, no_nodes}
use Rattle.vb_tree.specs.Tree as source
use Rattle.bound_tree.specs.declared.body.BoundBody.{BoundBody}
use Rattle.bound_tree.specs.declared.body.BoundLine.{BoundLine}
use Rattle.bound_tree.specs.Source.{code_of}
use Rattle.bound_tree.specs.Tree.{Bindings, Line}
use Rattle.bound_tree.specs.View.{bindings_of, joined, with_body, with_bindings}
use Rattle.typing_rows.specs.declared.cases.CaseType.{CaseType}
use Rattle.typing_rows.specs.declared.cases.CaseType.TheVariants.{Open}
use Rattle.expression_words.specs.Meanings.{Kept}
use Rattle.binder.specs.Bodies.{Inside, bound_if, bound_line, bound_middles, bound_node, bound_nodes, common_type, kept_inside}
use Rattle.binder.specs.View.{bound_shown}

-- ---- the lines that are bound

abbrev pub sources : List Line → List source.Line
sources ls = map (λ (l : Line). l.source) ls

code_if : (b : Bool) (x : Line) → sources (cond b (x ∷ []) []) ≡ (if b then x.source ∷ [] else [])
code_if true x = refl
code_if false x = refl

one_line : (I : Inside) (k : Kept) (c : CaseType) (n : ℕ) (l : source.Line) → sources (bound_if I k c n l) ≡ code_lines (l ∷ [])
one_line I k c n l = code_if (is_code l.form) (bound_line I k c n l)

-- lines in a row
two : (a b : List Line) (x y : List source.Line) → sources a ≡ code_lines x → sources b ≡ code_lines y → sources (a ++ b) ≡ code_lines (x ++ y)
two a b x y h k =
    map-append (λ (l : Line). l.source) a b
    ∙ ap (λ (s : List source.Line). s ++ sources b) h
    ∙ ap (λ (s : List source.Line). code_lines x ++ s) k
    ∙ sym (filter-append (λ (l : source.Line). is_code l.form) x y)

mutual
  pub nodes_sources : (I : Inside) (k : Kept) (n : ℕ) (nodes : Nodes) → sources (bound_nodes I k n nodes) ≡ code_lines (flat_lines nodes)
  nodes_sources I k n no_nodes = refl
  nodes_sources I k n (next_node a rest) =
      two (bound_node I k n a) (bound_nodes I k (n + length (bound_node I k n a)) rest) (node_lines a) (flat_lines rest)
      (node_sources I k n a) (nodes_sources I k (n + length (bound_node I k n a)) rest)

  node_sources : (I : Inside) (k : Kept) (n : ℕ) (a : Node) → sources (bound_node I k n a) ≡ code_lines (node_lines a)
  node_sources I k n (line l) = one_line I k Open n l
  node_sources I k n (block head body ms close) =
      let cases = common_type I k n head.form body ms in
      let inner = kept_inside I k n head.form in
      let first = bound_if I k cases n head in
      let second = bound_nodes I inner (n + length first) body in
      let third = bound_middles I inner cases (n + length first + length second) ms in
      two (first ++ (second ++ third)) (bound_if I k Open (n + length (first ++ (second ++ third))) close) ((head ∷ flat_lines body) ++ middle_lines ms) (close ∷ [])
      (ap sources (sym (append_assoc first second third))
      ∙ two (first ++ second) third (head ∷ flat_lines body) (middle_lines ms)
      (two first second (head ∷ []) (flat_lines body) (one_line I k cases n head) (nodes_sources I inner (n + length first) body))
      (middles_sources I inner cases (n + length first + length second) ms))
      (one_line I k Open (n + length (first ++ (second ++ third))) close)

  middles_sources : (I : Inside) (k : Kept) (c : CaseType) (n : ℕ) (ms : Middles) → sources (bound_middles I k c n ms) ≡ code_lines (middle_lines ms)
  middles_sources I k c n no_middles = refl
  middles_sources I k c n (next_middle l body more) =
      let first = bound_if I k c n l in
      let ls = first ++ bound_nodes I k (n + length first) body in
      two ls (bound_middles I k c (n + length ls) more) (l ∷ flat_lines body) (middle_lines more)
      (two first (bound_nodes I k (n + length first) body) (l ∷ []) (flat_lines body) (one_line I k c n l) (nodes_sources I k (n + length first) body))
      (middles_sources I k c (n + length ls) more)

-- ---- what is shown of them

pub at_seam : {X : Type 0} (before : List X) (b : X) (rest : List X) → slice_get (before ++ b ∷ rest) (length before) ≡ Some b
at_seam [] b rest = refl
at_seam (x ∷ before) b rest = at_seam before b rest

joined_behind : (before bs : List BoundLine) (ls : List Line) → map bindings_of bs ≡ map bound_shown ls → joined (before ++ bs) (length before) (sources ls) ≡ ls
joined_behind before bs [] h = refl
joined_behind before [] (l ∷ ls) h = absurd (omega (arith, ap length h))
joined_behind before (b ∷ bs) (l ∷ ls) h =
    let first : bindings_of b ≡ l.bindings = ap (λ (xs : List Bindings). get_or xs 0 (bindings_of b)) h in
    let rest : map bindings_of bs ≡ map bound_shown ls = ap (λ (xs : List Bindings). drop 1 xs) h in
    let counted : length before + 1 ≡ length (before ++ b ∷ []) = omega (arith, length-append before (b ∷ [])) in
    let behind : joined (before ++ b ∷ bs) (length before + 1) (sources ls) ≡ ls =
    ap (λ (xs : List BoundLine). joined xs (length before + 1) (sources ls)) (sym (append_assoc before (b ∷ []) bs))
    ∙ ap (λ (n : ℕ). joined ((before ++ b ∷ []) ++ bs) n (sources ls)) counted
    ∙ joined_behind (before ++ b ∷ []) bs ls rest in
    ap (λ (o : Option BoundLine). with_bindings l.source o ++ joined (before ++ b ∷ bs) (length before + 1) (sources ls)) (at_seam before b bs)
    ∙ ap (λ (x : Bindings). record { source = l.source; bindings = x } ∷ joined (before ++ b ∷ bs) (length before + 1) (sources ls)) first
    ∙ ap (λ (xs : List Line). l ∷ xs) behind

-- the lines of a body with what is bound in them
pub body_is : (body : Nodes) (b : BoundBody) (ls : List Line) → sources ls ≡ code_of body → map bindings_of b.lines ≡ map bound_shown ls → with_body body (Some b) ≡ ls ∷ []
body_is body b ls same h =
    ap (λ (xs : List source.Line). joined b.lines 0 xs ∷ []) (sym same)
    ∙ ap (λ (xs : List Line). xs ∷ []) (joined_behind [] b.lines ls h)
