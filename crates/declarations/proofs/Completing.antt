-- All that a project declares, from what each stage finds.
use Rattle.std.proofs.Common.{◌≡◌, ℕ, Bool, List, length, ap, ◌∙◌, subst}
use Rattle.vb_tree.specs.Tree.{Project}
use Rattle.bound_tree.specs.declared.marks.Marks.{Marks}
use Rattle.bound_tree.specs.declared.rule_set.RuleSet.{RuleSet}
use Rattle.bound_tree.specs.Tree.{Declarations}
use Rattle.declared_names.specs.Declaring.{Lists}
use Rattle.declared_names.specs.Rules.{name_marks}
use Rattle.declarations.specs.Circles.{AreCircles}
use Rattle.declarations.specs.Constants.{is_member, settled}
use Rattle.declarations.specs.Finals.{AreDeclared, constants_rules, final, marks_by, marks_in, plans_of}
use Rattle.declarations.specs.Plans.{Plan}

pub declared_by : (P : Project) (L : Lists) (D E : Declarations) (M : Marks) (member circular : ℕ → Bool) (plans : List Plan) (constants : List RuleSet)
    → ((k : ℕ) → member k ≡ is_member L k) → D ≡ settled member P L → AreCircles (length L.types) D.vars circular → plans ≡ plans_of D L
    → constants ≡ constants_rules member D L → M ≡ marks_by (name_marks P L) P L D.vars circular plans constants → E ≡ final member D plans M
    → AreDeclared P L E M
declared_by P L D E M member circular plans constants members from circles planned ruled marked finished = record {
  member = member;
  members = members;
  circular = circular;
  circles = subst (λ (X : Declarations). AreCircles (length L.types) X.vars circular) from circles;
  marks =
      marked
      ∙ ap (λ ps. marks_by (name_marks P L) P L D.vars circular ps constants) planned
      ∙ ap (λ rs. marks_by (name_marks P L) P L D.vars circular (plans_of D L) rs) ruled
      ∙ ap (λ (X : Declarations). marks_in member P L X circular) from;
  declarations = finished ∙ ap (λ ps. final member D ps M) planned ∙ ap (λ (X : Declarations). final member X (plans_of X L) M) from;
}
