use Rattle.std.proofs.Common.{◌∙◌, ap, map, List, ℕ}
use Rattle.up_base.specs.Names.{lower_case}
use Rattle.name_tables.specs.Places.{noted}
use Rattle.binder.specs.declared.locals.Implicit.{Implicit}
use Rattle.binder.specs.View.{implicit_of}
use Rattle.binder.proofs.Gathering.{as_found, known_is_kept, new_is_put}
use Rattle.binder.proofs.locals.put_new.Goals as goal

pub returns-then-is_some-clause-all : goal.returns-then-is_some-clause-all
returns-then-is_some-clause-all c =
    known_is_kept c.args.to.now c.args.x c.requires
    (as_found c.get.result (noted c.args.to.now.names (lower_case c.args.x.name)) c.is_some.result
    (c.get.ensures.value ∙ ap (λ (key : List ℕ). noted c.args.to.now.names key) c.lower_bytes.ensures) c.is_some.ensures
    ∙ c.if-is_some.true)

pub returns-clause-all : goal.returns-clause-all
returns-clause-all c =
    ap (λ (xs : List Implicit). map implicit_of xs) c.in_ok-push.ensures.items
    ∙ new_is_put c.args.to.now c.args.x c.requires
    (as_found c.get.result (noted c.args.to.now.names (lower_case c.args.x.name)) c.is_some.result
    (c.get.ensures.value ∙ ap (λ (key : List ℕ). noted c.args.to.now.names key) c.lower_bytes.ensures) c.is_some.ensures
    ∙ c.if-is_some.false)
