use Rattle.std.proofs.Common.{◌≡◌, ℕ, ◌+◌, ◌<◌, List, ◌∷◌, ◌++◌, length, get_or, drop, map, ap, sym, ◌∙◌, append_assoc}
use Rattle.std.proofs.lemmas.List.{at_drop_more}
use Rattle.bound_tree.specs.declared.declared.ConstId.{ConstId}
use Rattle.bound_tree.specs.declared.declared.EnumDecl.{EnumDecl}
use Rattle.declarations.specs.Constants.{member_numbers}
use Rattle.declarations.proofs.constants.member_numbers.Goals as goal

one_more : (es : List EnumDecl) (i : ℕ) (e : EnumDecl) (made new whole : List ℕ) → i < length es → e ≡ get_or es i e
    → new ≡ made ++ map (λ (c : ConstId). c.0) e.members → made ++ member_numbers (drop i es) ≡ whole → new ++ member_numbers (drop (i + 1) es) ≡ whole
one_more es i e made new whole h is pushed so_far =
    ap (λ ns. ns ++ member_numbers (drop (i + 1) es)) pushed
    ∙ append_assoc made (map (λ (c : ConstId). c.0) e.members) (member_numbers (drop (i + 1) es))
    ∙ ap (λ (d : EnumDecl). made ++ member_numbers (d ∷ drop (i + 1) es)) is
    ∙ sym (ap (λ ns. made ++ ns) (at_drop_more member_numbers es i e h))
    ∙ so_far

pub loop-e-preserved : goal.loop-e-preserved
loop-e-preserved c =
    one_more c.args.enums.now c.loop-e.e-index c.e-item.result c.loop-e.all.items c.push_members.new.to.items (member_numbers c.args.enums.now)
    c.loop-e-test.true c.e-item.is
    (c.in_ok-push_members.ensures ∙ ap (λ ms. c.loop-e.all.items ++ map (λ (d : ConstId). d.0) ms) c.as_slice.ensures)
    c.loop-e.invariant
