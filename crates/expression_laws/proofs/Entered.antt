-- The object of the frame that a call enters is one of the class of the procedure.
use Rattle.std.proofs.Common.{◌≡◌, inl, inr, ◌∙◌, refl, sym, ap, ℕ, ◌<◌, true, Option, Some, None, eqb-true, true≢false}
use Rattle.vb_tree.specs.BoundTree as types
use Rattle.bound_tree.specs.Tree.{typed, Term, no_object, of_object}
use Rattle.vb6_run.specs.Objects.{is_class}
use Rattle.run_matches.specs.Frames.{HasOwnObject}
use Rattle.run_matches.specs.Maps.{World}
use Rattle.run_matches.specs.Upgrades.{Upgrade}
use Rattle.run_statements.specs.Frames.{Receives, StandsInClass}
use Rattle.agreeing_laws.proofs.OwnObjects.{no_own_object}

-- a call for no object goes on with that of the caller, which stands in the same class where the procedure that is called stands in one
pub caller_received : (U : Upgrade) (w : World) (p q : ℕ) (me : Option ℕ) → Receives U p q no_object → HasOwnObject U w p me → HasOwnObject U w q me
caller_received U w p q o (inl standard) own = no_own_object U w q o standard
caller_received U w p q o (inr same) own = λ file of class. own file (sym same ∙ of) class

pub class_is : (c : ℕ) (o : Option ℕ) → is_class c o ≡ true → o ≡ Some c
class_is c None h = absurd (true≢false (sym h))
class_is c (Some d) h = ap (λ k. Some k) (sym (eqb-true c d h))

same_number : (c d : ℕ) → types.class c ≡ types.class d → c ≡ d
same_number c d e = cc e

-- an object of the class in which the procedure stands
pub object_stands : (U : Upgrade) (w : World) (q class o : ℕ) → StandsInClass U q class → o < w.src.next_object → w.src.class_of o ≡ Some class
    → HasOwnObject U w q (Some o)
object_stands U w q class o x is_made is_class file of standing = record {
  object = o;
  is_me = refl;
  is_made = is_made;
  class = class;
  is_class = is_class;
  is_file = x.is_file ∙ sym x.stands ∙ of;
}

-- so it is with the object of a call
pub object_received : (U : Upgrade) (w : World) (p q c : ℕ) (t : Term) (o : ℕ) → Receives U p q (of_object (typed (types.class c) t))
    → o < w.src.next_object → w.src.class_of o ≡ Some c → HasOwnObject U w q (Some o)
object_received U w p q c t o receives is_made is_class =
    object_stands U w q receives.0 o receives.2 is_made (is_class ∙ ap (λ n. Some n) (same_number c receives.0 receives.1))
