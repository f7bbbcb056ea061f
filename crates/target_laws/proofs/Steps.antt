-- What written lines open, part and close, form by form.
use Rattle.std.proofs.Common.{◌≡◌, ℕ, true, false, List, [], ◌∷◌, Option, Some, None, refl}
use Rattle.vb_tree.specs.Tree.{Form}
use Rattle.vb_tree.specs.Tree as source
use Rattle.bound_tree.specs.declared.rule_set.RuleSet.{RuleSet}
use Rattle.bound_tree.specs.Labels.{Label}
use Rattle.bound_tree.specs.Targets.{plain, step_of}
use Rattle.bound_tree.specs.Tree.{Expr, Line}
use Rattle.net_run.specs.Steps as net_steps
use Rattle.written_trees.specs.Lines.{flagged_line, line_by, line_of, replaced_by, written_line}
use Rattle.written_trees.specs.Names.{Scope}
use Rattle.target_laws.specs.Kept.{keeps_step, keeps_step_by}
use Rattle.target_laws.proofs.Plain.{assigned, called, erased, object_set}

flagged_kept : (n k : ℕ) (f : Form) → net_steps.step_of (flagged_line n k f) ≡ step_of f
flagged_kept n k (source.if_head condition) = refl
flagged_kept n k _ = refl

form_kept : (S : Scope) (labels : List (Option Label)) (f : Form) (es : List Expr) → keeps_step_by None f es ≡ true → net_steps.step_of (line_of S labels f es) ≡ step_of f
form_kept S labels (source.assign target value) es h = (assigned S es).is_plain
form_kept S labels (source.set target value) es h = (object_set S es).is_plain
form_kept S labels (source.call callee) es h = (called S es).is_plain
form_kept S labels (source.invoke callee args) es h = (called S es).is_plain
form_kept S labels (source.erase array) es h = (erased S es).is_plain
form_kept S labels (source.for_head counter start limit step) [] h = absurd (cc h)
form_kept S labels (source.for_head counter start limit step) (a ∷ []) h = absurd (cc h)
form_kept S labels (source.for_head counter start limit step) (a ∷ b ∷ []) h = absurd (cc h)
form_kept S labels (source.for_head counter start limit step) (a ∷ b ∷ c ∷ es) h = refl
form_kept S labels (source.for_each name suffix items) es h = absurd (cc h)
form_kept S labels _ es h = refl

form_lost : (S : Scope) (labels : List (Option Label)) (f : Form) (es : List Expr) → keeps_step_by None f es ≡ false → net_steps.step_of (line_of S labels f es) ≡ plain
form_lost S labels (source.for_head counter start limit step) [] h = refl
form_lost S labels (source.for_head counter start limit step) (a ∷ []) h = refl
form_lost S labels (source.for_head counter start limit step) (a ∷ b ∷ []) h = refl
form_lost S labels (source.for_head counter start limit step) (a ∷ b ∷ c ∷ es) h = absurd (cc h)
form_lost S labels (source.for_each name suffix items) es h = refl
form_lost S labels _ es h = absurd (cc h)

kept_by : (S : Scope) (labels : List (Option Label)) (k : ℕ) (f : Form) (es : List Expr) (o : Option ℕ) → keeps_step_by o f es ≡ true → net_steps.step_of (line_by S labels k f es o) ≡ step_of f
kept_by S labels k f es None h = form_kept S labels f es h
kept_by S labels k f es (Some n) h = flagged_kept n k f

lost_by : (S : Scope) (labels : List (Option Label)) (k : ℕ) (f : Form) (es : List Expr) (o : Option ℕ) → keeps_step_by o f es ≡ false → net_steps.step_of (line_by S labels k f es o) ≡ plain
lost_by S labels k f es None h = form_lost S labels f es h
lost_by S labels k f es (Some n) h = absurd (cc h)

pub step_kept : (S : Scope) (labels : List (Option Label)) (rules : RuleSet) (k : ℕ) (l : Line) → keeps_step rules l ≡ true
    → net_steps.step_of (written_line S labels rules k l) ≡ step_of l.source.form
step_kept S labels rules k l h = kept_by S labels k l.source.form l.bindings.exprs (replaced_by rules) h

pub step_lost : (S : Scope) (labels : List (Option Label)) (rules : RuleSet) (k : ℕ) (l : Line) → keeps_step rules l ≡ false
    → net_steps.step_of (written_line S labels rules k l) ≡ plain
step_lost S labels rules k l h = lost_by S labels k l.source.form l.bindings.exprs (replaced_by rules) h
