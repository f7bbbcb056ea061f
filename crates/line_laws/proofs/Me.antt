-- Me is the object of the frame.
use Rattle.std.proofs.Common.{◌≡◌, ◌∙◌, refl, sym, ap, ℕ, true, ◌&&◌, [], Option, Some, None, eqb-true, eq-eqb, true≢false}
use Rattle.vb_tree.specs.BoundTree as types
use Rattle.vb_tree.specs.declared.value.Value6.TheVariants as v
use Rattle.bound_tree.specs.Tree.{typed, me}
use Rattle.bound_facts.specs.Locks.{is_same_type}
use Rattle.run_base.specs.Outcomes.{after, gives, then}
use Rattle.vb6_run.specs.Expressions as source
use Rattle.vb6_run.specs.Expressions.{me_value, value_in}
use Rattle.vb6_run.specs.Store.{Memory, SourceFrame, provided}
use Rattle.vb6_run.specs.Values.{scalar}
use Rattle.net_run.specs.Lines.{NetFrame}
use Rattle.run_matches.specs.CoveredExprs.{is_number}
use Rattle.run_matches.specs.Frames.{FrameMatch, OwnObject}
use Rattle.run_matches.specs.Maps.{World}
use Rattle.run_matches.specs.Pledges.{Pledge}
use Rattle.run_matches.specs.Upgrades.{Upgrade}
use Rattle.run_statements.specs.Frames.{StandsInClass}
use Rattle.agreeing_laws.proofs.OwnObjects.{class_file}
use Rattle.line_laws.proofs.Calm.{Gives}

pub same_class : (k : ℕ) → is_same_type (types.class k) (types.class k) ≡ true
same_class k = eq-eqb k k refl

pub numbered : (c : ℕ) (o : Option ℕ) → is_number c o ≡ true → o ≡ Some c
numbered c None h = absurd (true≢false (sym h))
numbered c (Some d) h = ap (λ k. Some k) (sym (eqb-true c d h))

-- a procedure of a class has an object
pub has_object : (U : Upgrade) (K : Pledge) (w : World) (p : ℕ) (f : SourceFrame) (g : NetFrame) → FrameMatch U K w p f g → (of_class : ℕ)
    → StandsInClass U p of_class → (o : ℕ) × (f.me ≡ Some o)
has_object U K w p f g F of_class x =
    let y : OwnObject U w x.file f.me =
    F.own_object x.file x.stands (class_file U.program.declarations.project.modules of_class x.file x.is_file) in (y.object, y.is_me)

-- which is what Me is
pub me_gives : (C : source.Context) (of_class o : ℕ) → C.frame.me ≡ Some o → (s : Memory) → Gives C (typed (types.class of_class) me) (v.Object o) s
me_gives C of_class o is s =
    ap (λ m. then (then (me_value (types.class of_class) m s) (source.as_new C me)) (value_in C (typed (types.class of_class) me))) is
    ∙ ap (λ b. after [] (after [] (provided (b && true) (λ w. gives [] (scalar (types.class of_class) (v.Object o)) w) s))) (same_class of_class)
