-- The laws, from what is proved of expressions, lines and runs.
use Rattle.std.proofs.Common.{◌≡◌, ℕ, true, List}
use Rattle.vb_tree.specs.declared.value.Value6.{Value6}
use Rattle.vb_tree.specs.Tree.{Form}
use Rattle.bound_tree.specs.declared.body.Mention.{Mention}
use Rattle.bound_tree.specs.Tree.{Expr, Line}
use Rattle.bound_facts.specs.Node.{type_at}
use Rattle.run_base.specs.Outcomes.{Outcome, gives, raises, spent, outside}
use Rattle.vb6_run.specs.Expressions.{Context, declared, scalar_value}
use Rattle.vb6_run.specs.Forms.{form_does}
use Rattle.vb6_run.specs.Store.{Memory, SourceFrame}
use Rattle.run_matches.specs.CoveredExprs.{covers_expr}
use Rattle.run_matches.specs.Formed.{is_formed}
use Rattle.typing_laws.specs.Calls.{CallsAreSuited, CallsKeep, IsAt, SourceJob}
use Rattle.typing_laws.specs.Frames.{Footprint, HasOwn, IsSound, IsTypedFrame, ground}
use Rattle.typing_laws.specs.Leaving.{Leaves, LineLeaves, RunLeaves}
use Rattle.typing_laws.specs.Results.{IsLineResult, IsResult}
use Rattle.typing_laws.specs.Flat.{flat_uses}
use Rattle.typing_laws.specs.Typed.{is_typed}
use Rattle.typing_laws.proofs.Ends.{Ends}
use Rattle.typing_laws.proofs.Expressions.{IsScalarOf, scalar_ends}
use Rattle.typing_laws.proofs.Forms.{line_ends}
use Rattle.typing_laws.proofs.Frames.{frame_later}
use Rattle.typing_laws.proofs.Lines.{Good}
use Rattle.typing_laws.proofs.Trees.{value_ends}

expression_result : (C : Context) (F : Footprint) (X : SourceJob → Memory → Type 0) (e : Expr) (w : Memory) (r : Outcome Memory Value6)
    → Ends (ground (declared C) F) (IsScalarOf (type_at e)) (Leaves C X e w) w r → IsResult C F X e w r
expression_result C F X e w (gives o x v) h = h
expression_result C F X e w (raises o n v) h = h
expression_result C F X e w (spent o v) h = h
expression_result C F X e w (outside o) h = h

pub expression_has_type : (C : Context) (F : Footprint) (n : ℕ) (mentions : List Mention) (e : Expr) (w : Memory) → CallsKeep C F (RunLeaves C.runnable n)
    → covers_expr (flat_uses C.runnable.program C.procedure mentions) e ≡ true → is_formed e ≡ true → is_typed (declared C) e ≡ true
    → CallsAreSuited C.runnable e → IsSound (ground (declared C) F) w → HasOwn C.runnable.program F C.procedure w C.frame → IsResult C F (RunLeaves C.runnable n) e w (scalar_value C e w)
expression_has_type C F n mentions e w calls covers formed typed suited sound own =
    let X = RunLeaves C.runnable n in
    expression_result C F X e w (scalar_value C e w)
    (scalar_ends C F e (type_at e) (Leaves C X e w) w
    (value_ends C F X calls mentions e covers formed typed suited w (record { sound = sound; own = own })))

line_result : (C : Context) (F : Footprint) (X : SourceJob → Memory → Type 0) (f : Form) (es : List Expr) (w : Memory) (r : Outcome Memory SourceFrame)
    → IsTypedFrame F C.runnable C.procedure w C.frame → Ends (ground (declared C) F) (Good C F) (LineLeaves C X f es w) w r → IsLineResult C F X f es w r
line_result C F X f es w (gives o g v) t h = h
line_result C F X f es w (raises o n v) t h = (h, frame_later F C.runnable C.procedure w v C.frame h t)
line_result C F X f es w (spent o v) t h = h
line_result C F X f es w (outside o) t h = h

pub line_keeps_types : (C : Context) (F : Footprint) (n : ℕ) (l : Line) (w : Memory) → CallsKeep C F (RunLeaves C.runnable n) → IsAt C l → IsSound (ground (declared C) F) w
    → IsTypedFrame F C.runnable C.procedure w C.frame
    → IsLineResult C F (RunLeaves C.runnable n) l.source.form l.bindings.exprs w (form_does C l.source.form l.bindings.exprs w)
line_keeps_types C F n l w calls at sound t =
    let X = RunLeaves C.runnable n in
    line_result C F X l.source.form l.bindings.exprs w (form_does C l.source.form l.bindings.exprs w) t
    (line_ends C F X calls l at.lines at.are_lines at.stands w (record { sound = sound; frame = t }) at.covers at.typed at.suited at.part at.extents at.aimed)
