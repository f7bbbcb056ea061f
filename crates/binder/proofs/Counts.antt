-- How many lines a member of a module has.
use Rattle.std.proofs.Common.{◌≡◌, ◌+◌, sym, ap, ◌∙◌, List, [], ◌∷◌, ◌++◌, map, length, arith}
use Rattle.std.proofs.lemmas.List.{length-append, length-map}
use Rattle.std.specs.Borrow.{Bor}
use Rattle.vb_tree.specs.declared.form.CodeLine.{CodeLine}
use Rattle.vb_tree.specs.declared.module.Node6.{Node6}
use Rattle.vb_tree.specs.Tree.{Line, group, proc}
use Rattle.vb_tree.specs.FlatLines.{flat_lines, member_lines}
use Rattle.vb_tree.specs.View.{line_of, nodes_of}

bracketed : (h c : Line) (ls : List Line) → length (h ∷ ls ++ c ∷ []) ≡ length ls + 2
bracketed h c ls = omega (arith, length-append ls (c ∷ []))

pub group_length : (h c : Line) (ls : List CodeLine) → length (member_lines (group h (map line_of ls) c)) ≡ length ls + 2
group_length h c ls = bracketed h c (map line_of ls) ∙ ap (λ n. n + 2) (length-map ls line_of)

pub proc_length : (h c : Line) (body : List Node6) (ls : List (Bor CodeLine)) → map (λ l. line_of l.now) ls ≡ flat_lines (nodes_of body)
    → length (member_lines (proc h (nodes_of body) c)) ≡ length ls + 2
proc_length h c body ls e =
    bracketed h c (flat_lines (nodes_of body)) ∙ ap (λ n. n + 2) (ap length (sym e) ∙ length-map ls (λ l. line_of l.now))
