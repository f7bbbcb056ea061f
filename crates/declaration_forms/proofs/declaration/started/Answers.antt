use Rattle.std.proofs.Common.{sym, subst}
use Rattle.vb_tree.specs.View.{form_of}
use Rattle.form_parts.specs.Answer.{Answers}
use Rattle.declaration_forms.specs.DeclarationForms.{Fits, form_depth}
use Rattle.declaration_forms.proofs.declaration.started.Goals as goal

pub returns-in-Def : goal.returns-in-Def
returns-in-Def c = subst (λ s. Answers form_of (Fits s c.args.line.now c.args.rest.now) form_depth c.def_line.result) (sym c.in-Def.is) c.def_line.ensures

pub returns-in-Variables : goal.returns-in-Variables
returns-in-Variables c = subst (λ s. Answers form_of (Fits s c.args.line.now c.args.rest.now) form_depth c.variables_line.result) (sym c.in-Variables.is) c.variables_line.ensures

pub returns-in-Events : goal.returns-in-Events
returns-in-Events c = subst (λ s. Answers form_of (Fits s c.args.line.now c.args.rest.now) form_depth c.events_line.result) (sym c.in-Events.is) c.events_line.ensures

pub returns-in-StaticHead : goal.returns-in-StaticHead
returns-in-StaticHead c = subst (λ s. Answers form_of (Fits s c.args.line.now c.args.rest.now) form_depth c.static_line.result) (sym c.in-StaticHead.is) c.static_line.ensures
