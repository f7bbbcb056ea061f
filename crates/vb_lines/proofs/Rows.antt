-- The lists in a block of the code are those of its plain block.
use Rattle.std.proofs.Common.{◌≡◌, refl, sym, ap, ◌∙◌, Global}
use Rattle.std.specs.Prelude.{Vec}
use Rattle.vb_tree.specs.declared.form.CodeLine.{CodeLine}
use Rattle.vb_tree.specs.declared.module.Block6.{roll-Block6, Row_of-Node6, end_of-Node6, more_of-Node6, items-the_row-Node6, items_shown-the_row-Node6-0, items_hidden-the_row-Node6-0, Row_of-Middle6, end_of-Middle6, more_of-Middle6, items-the_row-Middle6, items_hidden-the_row-Middle6-1}
use Rattle.vb_tree.specs.declared.module.Middle6.{Middle6, roll-Middle6}
use Rattle.vb_tree.specs.declared.module.Node6.{Node6}
use Rattle.vb_tree.specs.declared.module.Node6.TheBlock as b
use Rattle.vb_tree.specs.Tree.{next_node, next_middle, block}
use Rattle.vb_tree.specs.View.{line_of, node_of, nodes_of, nodes_in_row, block_in, middles_of, middles_in_row}

nodes_listed : {n : _} (k : Row_of-Node6 n) → nodes_in_row k ≡ nodes_of (items-the_row-Node6 n k)
nodes_listed end_of-Node6 = refl
nodes_listed (more_of-Node6 a rest) = ap (next_node (node_of a)) (nodes_listed rest)

nodes_shown : (shape : _) (k : Row_of-Node6 _) → nodes_in_row k ≡ nodes_of (b.shown-the_row-Node6-0 shape k).items
nodes_shown shape k = nodes_listed k ∙ ap nodes_of (sym (items_shown-the_row-Node6-0 shape k))

middles_listed : {n : _} (k : Row_of-Middle6 n) → middles_in_row k ≡ middles_of (items-the_row-Middle6 n k)
middles_listed end_of-Middle6 = refl
middles_listed (more_of-Middle6 l shape body rest) =
    ap (λ x. next_middle (line_of l) x (middles_in_row rest)) (nodes_shown shape body)
    ∙ ap (next_middle (line_of l) (nodes_of (b.shown-the_row-Node6-0 shape body).items)) (middles_listed rest)

pub nodes_hidden : (v : Vec Node6 Global) → nodes_in_row (b.hidden-the_row-Node6-0 v) ≡ nodes_of v.items
nodes_hidden v = nodes_listed (b.hidden-the_row-Node6-0 v) ∙ ap nodes_of (items_hidden-the_row-Node6-0 v)

pub middles_hidden : (v : Vec Middle6 Global) → middles_in_row (b.hidden-the_row-Middle6-1 v) ≡ middles_of v.items
middles_hidden v = middles_listed (b.hidden-the_row-Middle6-1 v) ∙ ap middles_of (items_hidden-the_row-Middle6-1 v)

pub rolled_body : (l : CodeLine) (v : Vec Node6 Global) → nodes_of (roll-Middle6 (record { line = l; body = v })).body.items ≡ nodes_of v.items
rolled_body l v = refl

pub rolled_block : (head close : CodeLine) (body : Vec Node6 Global) (middles : Vec Middle6 Global) → block_in (roll-Block6 (record { head = head; body = body; middles = middles; close = close })) ≡ block (line_of head) (nodes_of body.items) (middles_of middles.items) (line_of close)
unfolding roll-Block6 denote.Hole.Carrier.roll
rolled_block head close body middles =
    ap (λ n. block (line_of head) n (middles_in_row (b.hidden-the_row-Middle6-1 middles)) (line_of close)) (nodes_hidden body)
    ∙ ap (λ m. block (line_of head) (nodes_of body.items) m (line_of close)) (middles_hidden middles)
