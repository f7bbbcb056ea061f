-- The lines of a block, bound one after the other.
use Rattle.std.proofs.Common.{◌≡◌, ℕ, suc, ◌+◌, ◌<◌, List, ◌∷◌, ◌++◌, drop, get_or, length, map, sym, ap, ◌∙◌, arith}
use Rattle.std.proofs.Math.Seq.{drop-cons}
use Rattle.vb_tree.specs.declared.form.Form6.{Form6}
use Rattle.vb_tree.specs.declared.module.Block6.{Block6, out-Block6}
use Rattle.vb_tree.specs.declared.module.Middle6.{Middle6}
use Rattle.vb_tree.specs.declared.module.Node6.{Node6}
use Rattle.vb_tree.specs.Tree as source
use Rattle.vb_tree.specs.Tree.{Node}
use Rattle.vb_tree.specs.View.{block_in, form_of, line_of, middles_of, nodes_of}
use Rattle.bound_tree.specs.declared.body.BoundLine.{BoundLine}
use Rattle.bound_tree.specs.Tree.{Bindings, Line}
use Rattle.bound_tree.specs.View.{bindings_of}
use Rattle.typing_rows.specs.declared.cases.CaseType.{CaseType}
use Rattle.typing_rows.specs.declared.cases.CaseType.TheVariants.{Open}
use Rattle.expression_words.specs.Meanings.{Kept}
use Rattle.binder.specs.Bodies.{Inside, bound_if, bound_middles, bound_node, bound_nodes, common_type, kept_inside}
use Rattle.binder.specs.View.{bound_shown}
use Rattle.binder.proofs.BodyLists.{Pushed, block_pushed, block_shown, both_pushed, pushed_then}

-- with the common type and what is kept, at the parts as the code holds them
pub block_bound : (I : Inside) (k inner : Kept) (cases : CaseType) (a : Block6) (f : Form6) (n : ℕ) (xs ys : List Node6) (ms ns : List Middle6) (u v w x y : List BoundLine)
    → n ≡ length u
    → f ≡ (out-Block6 a).head.form.value
    → xs ≡ (out-Block6 a).body.items
    → ms ≡ (out-Block6 a).middles.items
    → ys ≡ (out-Block6 a).body.items
    → ns ≡ (out-Block6 a).middles.items
    → cases ≡ common_type I k n (form_of f) (nodes_of xs) (middles_of ms)
    → inner ≡ kept_inside I k n (form_of f)
    → Pushed u v (bound_if I k cases (length u) (line_of (out-Block6 a).head))
    → Pushed v w (bound_nodes I inner (length v) (nodes_of ys))
    → Pushed w x (bound_middles I inner cases (length w) (middles_of ns))
    → Pushed x y (bound_if I k Open (length x) (line_of (out-Block6 a).close))
    → Pushed u y (bound_node I k (length u) (block_in a))
block_bound I k inner cases a f n xs ys ms ns u v w x y counted form body middles body' middles' typed keeps h1 h2 h3 h4 =
    let head : source.Line = line_of (out-Block6 a).head in
    let bs : List Node6 = (out-Block6 a).body.items in
    let gs : List Middle6 = (out-Block6 a).middles.items in
    let c : CaseType = common_type I k (length u) head.form (nodes_of bs) (middles_of gs) in
    let i : Kept = kept_inside I k (length u) head.form in
    let same_type : cases ≡ c =
    typed
    ∙ ap (λ (m : ℕ). common_type I k m (form_of f) (nodes_of xs) (middles_of ms)) counted
    ∙ ap (λ (g : Form6). common_type I k (length u) (form_of g) (nodes_of xs) (middles_of ms)) form
    ∙ ap (λ (zs : List Node6). common_type I k (length u) head.form (nodes_of zs) (middles_of ms)) body
    ∙ ap (λ (zs : List Middle6). common_type I k (length u) head.form (nodes_of bs) (middles_of zs)) middles in
    let same_kept : inner ≡ i = keeps ∙ ap (λ (m : ℕ). kept_inside I k m (form_of f)) counted ∙ ap (λ (g : Form6). kept_inside I k (length u) (form_of g)) form in
    let one : Pushed u v (bound_if I k c (length u) head) = h1 ∙ ap (λ (t : CaseType). map bindings_of u ++ map bound_shown (bound_if I k t (length u) head)) same_type in
    let two : Pushed v w (bound_nodes I i (length v) (nodes_of bs)) =
    h2
    ∙ ap (λ (j : Kept). map bindings_of v ++ map bound_shown (bound_nodes I j (length v) (nodes_of ys))) same_kept
    ∙ ap (λ (zs : List Node6). map bindings_of v ++ map bound_shown (bound_nodes I i (length v) (nodes_of zs))) body' in
    let three : Pushed w x (bound_middles I i c (length w) (middles_of gs)) =
    h3
    ∙ ap (λ (j : Kept). map bindings_of w ++ map bound_shown (bound_middles I j cases (length w) (middles_of ns))) same_kept
    ∙ ap (λ (t : CaseType). map bindings_of w ++ map bound_shown (bound_middles I i t (length w) (middles_of ns))) same_type
    ∙ ap (λ (zs : List Middle6). map bindings_of w ++ map bound_shown (bound_middles I i c (length w) (middles_of zs))) middles' in
    block_pushed (λ (m : ℕ). bound_nodes I i m (nodes_of bs)) (λ (m : ℕ). bound_middles I i c m (middles_of gs)) (λ (m : ℕ). bound_if I k Open m (line_of (out-Block6 a).close))
    u v w x y (bound_if I k c (length u) head) one two three h4
    ∙ ap (λ (b : Node). map bindings_of u ++ map bound_shown (bound_node I k (length u) b)) (sym (block_shown a))

-- one line that parts a block, and what stands behind it
middle_bound : (I : Inside) (k : Kept) (cases : CaseType) (m : Middle6) (more all : List Middle6) (xs : List Node6) (u v w : List BoundLine)
    → xs ≡ m.body.items
    → all ≡ m ∷ more
    → Pushed u v (bound_if I k cases (length u) (line_of m.line))
    → Pushed v w (bound_nodes I k (length v) (nodes_of xs))
    → map bindings_of w ++ map bound_shown (bound_middles I k cases (length w) (middles_of more)) ≡ map bindings_of u ++ map bound_shown (bound_middles I k cases (length u) (middles_of all))
middle_bound I k cases m more all xs u v w body front h1 h2 =
    let first : List Line = bound_if I k cases (length u) (line_of m.line) in
    let two : Pushed v w (bound_nodes I k (length v) (nodes_of m.body.items)) =
    h2 ∙ ap (λ (zs : List Node6). map bindings_of v ++ map bound_shown (bound_nodes I k (length v) (nodes_of zs))) body in
    let both : Pushed u w (first ++ bound_nodes I k (length u + length first) (nodes_of m.body.items)) =
    both_pushed (λ (n : ℕ). bound_nodes I k n (nodes_of m.body.items)) u v w first h1 two in
    pushed_then (λ (n : ℕ). bound_middles I k cases n (middles_of more)) u w (first ++ bound_nodes I k (length u + length first) (nodes_of m.body.items)) both
    ∙ ap (λ (zs : List Middle6). map bindings_of u ++ map bound_shown (bound_middles I k cases (length u) (middles_of zs))) (sym front)

pub middle_step : (I : Inside) (k : Kept) (cases : CaseType) (all : List Middle6) (i : ℕ) (m : Middle6) (xs : List Node6) (u v w : List BoundLine) (whole : List Bindings)
    → i < length all
    → m ≡ get_or all i m
    → xs ≡ m.body.items
    → Pushed u v (bound_if I k cases (length u) (line_of m.line))
    → Pushed v w (bound_nodes I k (length v) (nodes_of xs))
    → map bindings_of u ++ map bound_shown (bound_middles I k cases (length u) (middles_of (drop i all))) ≡ whole
    → map bindings_of w ++ map bound_shown (bound_middles I k cases (length w) (middles_of (drop (i + 1) all))) ≡ whole
middle_step I k cases all i m xs u v w whole low here body h1 h2 before =
    let next : suc i ≡ i + 1 = omega arith in
    let front : drop i all ≡ m ∷ drop (i + 1) all =
    drop-cons all i m low ∙ ap (λ (n : ℕ). get_or all i m ∷ drop n all) next ∙ ap (λ (z : Middle6). z ∷ drop (i + 1) all) (sym here) in
    middle_bound I k cases m (drop (i + 1) all) (drop i all) xs u v w body front h1 h2 ∙ before
