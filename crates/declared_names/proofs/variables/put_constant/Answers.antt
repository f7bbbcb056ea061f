use Rattle.std.proofs.Common.{◌∙◌, sym, ap, map}
use Rattle.std.proofs.lemmas.List.{length-map, map-append}
use Rattle.declared_names.specs.View.{constant_of, names_of}
use Rattle.declared_names.proofs.Following.{constant_put}
use Rattle.declared_names.proofs.variables.put_constant.Goals as goal

pub returns : goal.returns
returns c =
    constant_put (names_of c.args.to.now) c.args.scope (constant_of c.args.constant) _ _ _ c.in_ok-put_name.ensures
    (c.in_ok-number.ensures ∙ c.len.ensures ∙ sym (length-map c.args.to.now.consts constant_of))
    (ap (map constant_of) c.in_ok-push.ensures.ok ∙ map-append constant_of c.args.to.now.consts _)
