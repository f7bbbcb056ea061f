use Rattle.std.proofs.Common.{◌∙◌, ap, length, map, sym, ℕ}
use Rattle.std.proofs.lemmas.List.{length-map}
use Rattle.vb_tree.specs.View.{line_of}
use Rattle.declared_names.specs.Declaring.{ids}
use Rattle.declared_names.specs.View.{variable_of, names_of}
use Rattle.declared_names.proofs.Following.{type_put}
use Rattle.declared_names.proofs.groups.put_type_head.Goals as goal

pub returns : goal.returns
returns c =
    type_put (names_of c.args.to.now) c.args.file c.args.place c.args.visibility c.args.name.now _ (map line_of c.args.lines.now) _ _ _ _ _ c.in_ok-put_name.ensures c.open_scope.ensures
    (c.in_ok-number.ensures ∙ c.len.ensures) c.in_ok-push.ensures.ok c.in_ok-copy.ensures
    (c.in_ok-fields.ensures
    ∙ ap (λ (n : ℕ). ids n (length c.args.lines.now)) (c.in_ok-number-2.ensures ∙ c.len-2.ensures ∙ sym (length-map c.args.to.now.vars variable_of))
    ∙ ap (ids (length (names_of c.args.to.now).vars)) (sym (length-map c.args.lines.now line_of)))
