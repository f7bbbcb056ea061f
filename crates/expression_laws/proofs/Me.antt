-- Me: the object of the frame, which is one of the class of its procedure, on both sides.
use Rattle.std.proofs.Common.{◌≡◌, ◌∙◌, refl, sym, ap, ℕ, ◌<◌, true, cond, Option, Some, None, option_map, eqb-true, true≢false}
use Rattle.vb_tree.specs.BoundTree as types
use Rattle.vb_tree.specs.BoundTree.{Ty}
use Rattle.net_meaning.specs.declared.value.ValueN.TheVariants as n
use Rattle.vb6_run.specs.Store.{SourceFrame}
use Rattle.net_run.specs.Expressions as target
use Rattle.net_run.specs.Lines.{NetFrame}
use Rattle.net_run.specs.Names as net_names
use Rattle.net_run.specs.Shapes as shape
use Rattle.net_run.specs.Store as net
use Rattle.net_run.specs.Values as net_value
use Rattle.run_matches.specs.CoveredExprs.{is_class_of, is_number}
use Rattle.run_matches.specs.Frames.{FrameMatch, OwnObject}
use Rattle.run_matches.specs.Maps.{World}
use Rattle.run_matches.specs.Pledges.{Later, Pledge}
use Rattle.run_matches.specs.Upgrades.{Upgrade, class_home}
use Rattle.run_statements.specs.Frames.{StandsInClass}
use Rattle.agreeing_laws.proofs.Made.{more}
use Rattle.agreeing_laws.proofs.OwnObjects.{class_file}

-- an object that was made, and what is written for Me is the one that stands for it
pub record IsMe (U : Upgrade) (f : SourceFrame) (S : net_names.Scope) (w : World) (class : ℕ) : Type 0 where
  pub object : ℕ
  pub is_me : f.me ≡ Some object
  pub is_made : object < w.src.next_object
  pub home : ℕ
  pub is_home : class_home U class ≡ Some home
  pub written : target.own_object S ≡ net.constant (shape.class home) (net_value.single (n.Object (w.map.objects object)))

-- ---- what is covered

pub numbered : (c : ℕ) (o : Option ℕ) → is_number c o ≡ true → o ≡ Some c
numbered c None h = absurd (true≢false (sym h))
numbered c (Some d) h = ap (λ k. Some k) (sym (eqb-true c d h))

-- Me is of the class of the procedure
pub me_class : (of : Option ℕ) (ty : Ty) → is_class_of of ty ≡ true → (c : ℕ) × (ty ≡ types.class c) × (of ≡ Some c)
me_class of (types.class c) h = (c, refl, numbered c of h)
me_class of _ h = absurd (true≢false (sym h))

-- ---- where a line begins, and later

module _ (U : Upgrade) (f : SourceFrame) (S : net_names.Scope) (class : ℕ) where
  pub me_now : (K : Pledge) (w : World) (p : ℕ) (g : NetFrame) → FrameMatch U K w p f g → S.me ≡ g.me → StandsInClass U p class
      → class_home U class ≡ Some S.home → net_names.is_class S.project S.home ≡ true → IsMe U f S w class
  me_now K w p g frames same x is_home is_class =
      let own : OwnObject U w x.file f.me =
      frames.own_object x.file x.stands (class_file U.program.declarations.project.modules class x.file x.is_file) in
      record {
        object = own.object;
        is_me = own.is_me;
        is_made = own.is_made;
        home = S.home;
        is_home = is_home;
        written =
            ap (λ b. cond b (target.object_address S.home S.me) net.nowhere) is_class
            ∙ ap (target.object_address S.home) (same ∙ frames.me ∙ ap (option_map w.map.objects) own.is_me);
      }

  pub me_later : (K : Pledge) (w0 w1 : World) → Later U K w0 w1 → IsMe U f S w0 class → IsMe U f S w1 class
  me_later K w0 w1 later x = record {
    object = x.object;
    is_me = x.is_me;
    is_made = more x.object w0.src.next_object w1.src.next_object later.grows.objects x.is_made;
    home = x.home;
    is_home = x.is_home;
    written =
        x.written
        ∙ ap (λ o. net.constant (shape.class x.home) (net_value.single (n.Object o))) (sym (later.extends.same_objects x.object x.is_made));
  }
