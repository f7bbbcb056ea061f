use Rattle.std.proofs.Common.{arith, refl, sym, ap, ◌∙◌, ◌≡◌, ◌<◌, ◌≤◌, ◌+◌, ◌++◌, ◌∷◌, [], List, ℕ, Some, take, drop, length, length-drop, length-append, length-take}
use Rattle.vb_tree.specs.LogicalLines.{physical_lines, joined, joints, continued}
use Rattle.vb_lexer.specs.Physical.{onto_first}
use Rattle.vb_lexer.proofs.PhysicalLines.{onto_none, onto_next, lines_some, joints-append, joints-take}
use Rattle.vb_lexer.proofs.physical.logical_line.Goals as goal

pub lines-init : goal.lines-init
lines-init c = record {
  within = c.requires;
  whole = rw c.new-units.ensures.items (sym (onto_none c.args.text.now c.requires));
  units = rw c.new-units.ensures.items (omega arith);
  joints = rw c.new-units.ensures.items (omega arith);
  continuations = rw c.new-units.ensures.items refl;
}

pub returns-in-None-clause-joints : goal.returns-in-None-clause-joints
returns-in-None-clause-joints c =
    let both = joints-append c.lines.units.items c.line_at-whole.result.0.now in
    let items : c.extend_from_slice.new.self.items ≡ c.lines.units.items ++ c.line_at-whole.result.0.now = c.in_ok-extend_from_slice-in-None.ensures.items in
    rw (items, both) (omega arith)

pub returns-in-None-clause-continuations : goal.returns-in-None-clause-continuations
returns-in-None-clause-continuations c =
    let both = joints-append c.lines.units.items c.line_at-whole.result.0.now in
    let items : c.extend_from_slice.new.self.items ≡ c.lines.units.items ++ c.line_at-whole.result.0.now = c.in_ok-extend_from_slice-in-None.ensures.items in
    rw (items, both) (omega arith)

pub returns-then-taken-text-clause-joints : goal.returns-then-taken-text-clause-joints
returns-then-taken-text-clause-joints c =
    let front : List ℕ = take c.in-Some.front c.line_at-whole.result.0.now in
    let kept : c.extend_from_slice-in-Some.new.self.items ≡ c.lines.units.items ++ front = c.in_ok-extend_from_slice-in-Some.ensures.items in
    let made : c.push.new.self.items ≡ c.extend_from_slice-in-Some.new.self.items ++ 13 ∷ [] = c.in_ok-push-in-Some.ensures.items in
    let room : c.in-Some.front + 2 ≤ length c.line_at-whole.result.0.now = c.in-Some.ensures.within in
    let few : joints front ≤ joints c.line_at-whole.result.0.now = joints-take c.in-Some.front c.line_at-whole.result.0.now in
    let all : joints ((c.lines.units.items ++ front) ++ 13 ∷ []) ≡ joints (c.lines.units.items ++ front) + 1 = joints-append (c.lines.units.items ++ front) (13 ∷ []) in
    let both : joints (c.lines.units.items ++ front) ≡ joints c.lines.units.items + joints front = joints-append c.lines.units.items front in
    rw (made, kept, all, both) (omega arith)

pub returns-then-taken-text-clause-continuations : goal.returns-then-taken-text-clause-continuations
returns-then-taken-text-clause-continuations c =
    let front : List ℕ = take c.in-Some.front c.line_at-whole.result.0.now in
    let kept : c.extend_from_slice-in-Some.new.self.items ≡ c.lines.units.items ++ front = c.in_ok-extend_from_slice-in-Some.ensures.items in
    let made : c.push.new.self.items ≡ c.extend_from_slice-in-Some.new.self.items ++ 13 ∷ [] = c.in_ok-push-in-Some.ensures.items in
    let few : joints front ≤ joints c.line_at-whole.result.0.now = joints-take c.in-Some.front c.line_at-whole.result.0.now in
    let all : joints ((c.lines.units.items ++ front) ++ 13 ∷ []) ≡ joints (c.lines.units.items ++ front) + 1 = joints-append (c.lines.units.items ++ front) (13 ∷ []) in
    let both : joints (c.lines.units.items ++ front) ≡ joints c.lines.units.items + joints front = joints-append c.lines.units.items front in
    rw (made, kept, all, both) (omega arith)

pub lines-preserved : goal.lines-preserved
lines-preserved c =
    let line : List ℕ = c.line_at-whole.result.0.now in
    let front : List ℕ = take c.in-Some.front line in
    let kept : c.extend_from_slice-in-Some.new.self.items ≡ c.lines.units.items ++ front = c.in_ok-extend_from_slice-in-Some.ensures.items in
    let made : c.push-in-Some.new.self.items ≡ c.extend_from_slice-in-Some.new.self.items ++ 10 ∷ [] = c.in_ok-push-in-Some-2.ensures.items in
    let whole : c.push-in-Some.new.self.items ≡ (c.lines.units.items ++ front) ++ 10 ∷ [] = rw (made, kept) refl in
    let room : c.in-Some.front + 2 ≤ length line = c.in-Some.ensures.within in
    let few : joints front ≤ joints line = joints-take c.in-Some.front line in
    let all : joints ((c.lines.units.items ++ front) ++ 10 ∷ []) ≡ joints (c.lines.units.items ++ front) + 1 = joints-append (c.lines.units.items ++ front) (10 ∷ []) in
    let both : joints (c.lines.units.items ++ front) ≡ joints c.lines.units.items + joints front = joints-append c.lines.units.items front in
    let after : List ℕ = drop (c.lines.taken + c.line_at-whole.result.1) c.args.text.now in
    let left : c.lines.taken + c.line_at-whole.result.1 < length c.args.text.now = omega arith in
    let some : 0 < length after = simp length-drop (omega arith) in
    let on : continued line ≡ Some front = c.in-Some.ensures.continued in
    record {
      within = left;
      whole = rw whole (c.lines.invariant.whole ∙ ap (λ (ls : List (List ℕ)). onto_first c.lines.units.items (joined ls)) c.line_at-whole.ensures.first
          ∙ onto_next c.lines.units.items front line (physical_lines after) on (lines_some after some));
      units = rw whole (simp (length-append, length-take) (omega arith));
      joints = rw (whole, all, both) (omega arith);
      continuations = rw (whole, all, both) (omega arith);
    }
