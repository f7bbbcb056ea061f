use Rattle.std.proofs.Common.{◌≡◌, nat_eq, true, false, refl, sym, codes}
use Rattle.std.specs.Cmp.Lexicographic.{pointwise}
use Rattle.vb_tree.specs.ProjectLines.{is_exe, is_known_type}
use Rattle.project_file.proofs.Saying.{adds_type, adds_first_type, kept_known, more_unknown, kind_exe, kind_dll, left_true, right_true, both_false}
use Rattle.project_file.proofs.reading.ProjectReading.take_type.Goals as goal

pub returns-then-self : goal.returns-then-self
returns-then-self c = adds_type c.args.number c.args.value.now c.args.self.now c.if-self.true

pub returns-then-is_text : goal.returns-then-is_text
returns-then-is_text c =
    let value = c.args.value.now in
    let old = c.args.self.now in
    let exe : is_exe value ≡ true = sym c.if-is_text.ensures in
    adds_first_type c.args.number value old _ c.if-self.false (sym (kind_exe value exe)) refl refl (kept_known (is_known_type value) old.file.dropped c.args.number (left_true (is_exe value) _ exe)) refl refl refl

pub returns-then-is_text-2 : goal.returns-then-is_text-2
returns-then-is_text-2 c =
    let value = c.args.value.now in
    let old = c.args.self.now in
    let exe : is_exe value ≡ false = sym c.if-is_text.ensures in
    let dll : pointwise nat_eq value (codes "OleDll") ≡ true = sym c.if-is_text-2.ensures in
    adds_first_type c.args.number value old _ c.if-self.false (sym (kind_dll value exe)) refl refl (kept_known (is_known_type value) old.file.dropped c.args.number (right_true (is_exe value) _ dll)) refl refl refl

pub returns : goal.returns
returns c =
    let value = c.args.value.now in
    let old = c.args.self.now in
    let exe : is_exe value ≡ false = sym c.if-is_text.ensures in
    let dll : pointwise nat_eq value (codes "OleDll") ≡ false = sym c.if-is_text-2.ensures in
    adds_first_type c.args.number value old _ c.if-self.false (sym (kind_dll value exe)) refl refl (more_unknown (is_known_type value) old.file.dropped _ c.args.number (both_false (is_exe value) _ exe dll) c.in_ok-push.ensures.ok) refl refl refl
