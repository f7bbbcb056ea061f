use Rattle.std.proofs.Common.{◌≡◌, nat_eq, true, false, refl, sym, ap, ◌∙◌, codes, Some}
use Rattle.std.specs.Cmp.Lexicographic.{pointwise}
use Rattle.vb_tree.specs.ProjectLines.{is_sub_main, is_known_startup}
use Rattle.project_file.proofs.Saying.{adds_startup, adds_first_startup, kept_known, more_unknown, starts_main, starts_nowhere, left_true, right_true, both_false}
use Rattle.project_file.proofs.reading.ProjectReading.take_startup.Goals as goal
use Rattle.project_file.proofs.reading.ProjectReading.take_startup.Goals.{then-is_text-2-via-then-is_text-2, then-is_text-2-via-else-is_text-2+then-is_text-3}

pub returns-then-self : goal.returns-then-self
returns-then-self c = adds_startup c.args.number c.args.value.now c.args.self.now c.if-self.true

pub returns-then-is_text : goal.returns-then-is_text
returns-then-is_text c =
    let value = c.args.value.now in
    let old = c.args.self.now in
    let main : is_sub_main value ≡ true = sym c.if-is_text.ensures in
    adds_first_startup c.args.number value old _ c.if-self.false refl
    (λ none. ap (λ t. Some (c.args.number, t)) c.in_ok-wide.ensures ∙ sym (starts_main c.args.number value main)) refl
    (kept_known (is_known_startup value) old.file.dropped c.args.number (left_true _ _ (left_true (is_sub_main value) _ main))) refl refl refl

pub returns-then-is_text-2 : goal.returns-then-is_text-2
returns-then-is_text-2 c =
    let value = c.args.value.now in
    let old = c.args.self.now in
    let main : is_sub_main value ≡ false = sym c.if-is_text.ensures in
    let known : is_known_startup value ≡ true = elim c.then-is_text-2.branch [
      | then-is_text-2-via-then-is_text-2 w ↦ left_true _ _ (right_true (is_sub_main value) _ (sym w.if-is_text-2.ensures))
      | then-is_text-2-via-else-is_text-2+then-is_text-3 w ↦ right_true _ _ (sym w.if-is_text-3.ensures)
    ] in
    adds_first_startup c.args.number value old _ c.if-self.false refl (λ none. none ∙ sym (starts_nowhere c.args.number value main)) refl
    (kept_known (is_known_startup value) old.file.dropped c.args.number known) refl refl refl

pub returns : goal.returns
returns c =
    let value = c.args.value.now in
    let old = c.args.self.now in
    let main : is_sub_main value ≡ false = sym c.if-is_text.ensures in
    let none : pointwise nat_eq value (codes "\"(None)\"") ≡ false = sym c.if-is_text-2.ensures in
    let also_none : pointwise nat_eq value (codes "\"!(None)!\"") ≡ false = sym c.if-is_text-3.ensures in
    adds_first_startup c.args.number value old _ c.if-self.false refl (λ none. none ∙ sym (starts_nowhere c.args.number value main)) refl
    (more_unknown (is_known_startup value) old.file.dropped _ c.args.number (both_false _ _ (both_false (is_sub_main value) _ main none) also_none) c.in_ok-push.ensures.ok) refl refl refl
