-- Lines that are bound one after the other, and the blocks of the code.
use Rattle.std.proofs.Common.{◌≡◌, ℕ, ◌+◌, List, ◌++◌, length, map, sym, ap, ◌∙◌, append_assoc, arith}
use Rattle.std.proofs.lemmas.List.{length-append, length-map, map-append}
use Rattle.vb_tree.specs.declared.module.Block6.{Block6, Block6', out-Block6}
use Rattle.vb_tree.specs.declared.module.Node6.TheBlock as b
use Rattle.vb_tree.specs.Tree.{Middles, Nodes, block}
use Rattle.vb_tree.specs.View.{block_in, line_of, middles_in_row, middles_of, nodes_of}
use Rattle.vb_tree.proofs.Views.{middles_shown, nodes_shown}
use Rattle.bound_tree.specs.declared.body.BoundLine.{BoundLine}
use Rattle.bound_tree.specs.Tree.{Bindings, Line}
use Rattle.bound_tree.specs.View.{bindings_of}
use Rattle.binder.specs.View.{bound_shown}

-- the parts of a block
pub block_shown : (a : Block6) → block_in a ≡ block (line_of (out-Block6 a).head) (nodes_of (out-Block6 a).body.items) (middles_of (out-Block6 a).middles.items) (line_of (out-Block6 a).close)
unfolding out-Block6 b.shown-the_row-Node6-0 b.shown-the_row-Middle6-1 denote.Hole.Carrier.out
block_shown (Block6' head shape body shape' middles close) =
    ap (λ (x : Nodes). block (line_of head) x (middles_in_row middles) (line_of close)) (nodes_shown shape body)
    ∙ ap (λ (x : Middles). block (line_of head) (nodes_of (b.shown-the_row-Node6-0 shape body).items) x (line_of close)) (middles_shown shape' middles)

abbrev pub Pushed : (before after : List BoundLine) → List Line → Type 0
Pushed u v ls = map bindings_of v ≡ map bindings_of u ++ map bound_shown ls

-- how many there are then
count_pushed : (u v : List BoundLine) (ls : List Line) → Pushed u v ls → length v ≡ length u + length ls
count_pushed u v ls h =
    let lengths : length (map bindings_of v) ≡ length (map bindings_of u ++ map bound_shown ls) = ap length h in
    omega (arith, lengths, length-append (map bindings_of u) (map bound_shown ls), length-map v bindings_of, length-map u bindings_of, length-map ls bound_shown)

-- what comes behind lines, by how many there are
pub pushed_then : (f : ℕ → List Line) (u v : List BoundLine) (ls : List Line) → Pushed u v ls
    → map bindings_of v ++ map bound_shown (f (length v)) ≡ map bindings_of u ++ map bound_shown (ls ++ f (length u + length ls))
pushed_then f u v ls h =
    ap (λ (x : List Bindings). x ++ map bound_shown (f (length v))) h
    ∙ append_assoc (map bindings_of u) (map bound_shown ls) (map bound_shown (f (length v)))
    ∙ ap (λ (n : ℕ). map bindings_of u ++ (map bound_shown ls ++ map bound_shown (f n))) (count_pushed u v ls h)
    ∙ ap (λ (x : List Bindings). map bindings_of u ++ x) (sym (map-append bound_shown ls (f (length u + length ls))))

-- two pushes in a row
pub both_pushed : (f : ℕ → List Line) (u v w : List BoundLine) (ls : List Line) → Pushed u v ls → Pushed v w (f (length v)) → Pushed u w (ls ++ f (length u + length ls))
both_pushed f u v w ls h k = k ∙ pushed_then f u v ls h

-- the head of a block, what stands behind it, what parts it, and its closing line
pub block_pushed : (body middles close : ℕ → List Line) (u v w x y : List BoundLine) (head : List Line)
    → Pushed u v head → Pushed v w (body (length v)) → Pushed w x (middles (length w)) → Pushed x y (close (length x))
    → Pushed u y
    (let second = body (length u + length head) in
    let ls = head ++ (second ++ middles (length u + length head + length second)) in
    ls ++ close (length u + length ls))
block_pushed body middles close u v w x y head h1 h2 h3 h4 =
    let two : Pushed u w (head ++ body (length u + length head)) = both_pushed body u v w head h1 h2 in
    let three : Pushed u x ((head ++ body (length u + length head)) ++ middles (length u + length (head ++ body (length u + length head)))) =
    both_pushed middles u w x (head ++ body (length u + length head)) two h3 in
    let counted : length u + length (head ++ body (length u + length head)) ≡ length u + length head + length (body (length u + length head)) =
    omega (arith, length-append head (body (length u + length head))) in
    let inside : Pushed u x (head ++ (body (length u + length head) ++ middles (length u + length head + length (body (length u + length head))))) =
    three ∙ ap (λ (ls : List Line). map bindings_of u ++ map bound_shown ls)
    (append_assoc head (body (length u + length head)) (middles (length u + length (head ++ body (length u + length head))))
    ∙ ap (λ (n : ℕ). head ++ (body (length u + length head) ++ middles n)) counted) in
    both_pushed close u x y (head ++ (body (length u + length head) ++ middles (length u + length head + length (body (length u + length head))))) inside h4
