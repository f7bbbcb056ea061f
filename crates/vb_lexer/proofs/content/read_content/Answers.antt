use Rattle.std.proofs.Common.{arith, subst, sym, ap, ◌∙◌, ◌≡◌, ◌≤◌, ◌+◌, ◌++◌, ◌∷◌, [], Bool, List, ℕ, ◌<◌, ◌-◌, drop, length}
use Rattle.vb_tree.specs.declared.token.Token.{Token}
use Rattle.vb_tree.specs.LogicalLines.{Content, Part, note, lexeme, stuck, part_at, begins_statement, content_from, joints}
use Rattle.vb_lexer.specs.Contents.{part_of, kinds_back, with_front, IsBefore, IsPartWithin}
use Rattle.vb_lexer.specs.declared.content.Part.TheVariants as code
use Rattle.vb_tree.specs.declared.token.TokenKind.{TokenKind}
use Rattle.vb_lexer.proofs.ReadingContents.{joints-drop, drop_more, kinds_back-push, note_step, stuck_step, lexeme_step}
use Rattle.vb_lexer.proofs.Blanks.{blanks_step}
use Rattle.vb_lexer.proofs.content.read_content.Goals as goal

-- the part by what the tokens before say
there : (statement : Bool) (tokens : List Token) (units : List ℕ) (part : Part) → statement ≡ begins_statement (kinds_back tokens)
    → part ≡ part_at statement units → part_at (begins_statement (kinds_back tokens)) units ≡ part
there statement tokens units part s p = sym (p ∙ ap (λ (b : Bool). part_at b units) s)

pub returns-in-Note : goal.returns-in-Note
returns-in-Note c =
    let part : note c.in-Note.n ≡ part_at c.parts.before.statement (drop c.parts.at c.args.units.now) = ap part_of (sym c.in-Note.is) ∙ c.in_ok-part_from.ensures.part in
    rw c.in_ok-shown_from-in-Note.ensures
    (note_step c.parts.tokens c.parts.line c.parts.at c.in-Note.n c.args.units.now (content_from [] c.args.number 0 0 c.args.units.now) c.parts-test.true
    (there _ c.parts.tokens _ _ c.parts.invariant.before.statement part) c.parts.invariant.whole)

pub returns-in-Stuck : goal.returns-in-Stuck
returns-in-Stuck c =
    let part : stuck ≡ part_at c.parts.before.statement (drop c.parts.at c.args.units.now) = ap part_of (sym c.in-Stuck.is) ∙ c.in_ok-part_from.ensures.part in
    stuck_step c.parts.tokens c.parts.line c.parts.at c.args.units.now (content_from [] c.args.number 0 0 c.args.units.now) c.parts-test.true
    (there _ c.parts.tokens _ _ c.parts.invariant.before.statement part) c.parts.invariant.whole

pub parts-preserved-then-blanks-gt0 : goal.parts-preserved-then-blanks-gt0
parts-preserved-then-blanks-gt0 c =
    let units : List ℕ = c.args.units.now in
    let place : ℕ = c.parts.at in
    let n : ℕ = c.blanks_from-blanks.result in
    let room : place + n ≤ length units = c.blanks_from-blanks.ensures.within in
    let fewer : joints (drop n (drop place units)) ≤ joints (drop place units) = joints-drop n (drop place units) in
    record {
      within = room;
      lines = subst (λ (u : List ℕ). c.parts.line + joints u ≤ c.args.number + joints units) (drop_more place n units) (omega arith);
      before = c.parts.invariant.before;
      whole = blanks_step c.parts.tokens c.parts.line place n units (content_from [] c.args.number 0 0 units) c.blanks_from-blanks.ensures.count c.parts.invariant.whole;
    }

pub parts-preserved : goal.parts-preserved
parts-preserved c =
    let units : List ℕ = c.args.units.now in
    let n : ℕ = c.in-Lexeme.n in
    let place : ℕ = c.parts.at in
    let t : Token = record { kind = c.in-Lexeme.kind; line = c.parts.line; from = place; to = place + n } in
    let part : lexeme c.in-Lexeme.kind n ≡ part_at c.parts.before.statement (drop place units) = ap part_of (sym c.in-Lexeme.is) ∙ c.in_ok-part_from.ensures.part in
    let inside : IsPartWithin (length units - place) (code.Lexeme c.in-Lexeme.kind n) = subst (IsPartWithin (length units - place)) c.in-Lexeme.is c.in_ok-part_from.ensures.within in
    let some : 0 < n = inside.0 in
    let most : n ≤ length units - place = inside.1 in
    let made : c.push.new.self ≡ c.parts.tokens ++ t ∷ [] = c.in_ok-push-in-Lexeme.ensures.ok in
    let kinds : kinds_back (c.parts.tokens ++ t ∷ []) ≡ c.in-Lexeme.kind ∷ kinds_back c.parts.tokens = kinds_back-push c.parts.tokens t in
    let fewer : joints (drop n (drop place units)) ≤ joints (drop place units) = joints-drop n (drop place units) in
    let whole : Content = content_from [] c.args.number 0 0 units in
    let step = lexeme_step c.parts.tokens c.in-Lexeme.kind c.parts.line place n units whole c.parts-test.true some
    (there _ c.parts.tokens _ _ c.parts.invariant.before.statement part) c.parts.invariant.whole in
    record {
      within = omega arith;
      lines = subst (λ (u : List ℕ). c.parts.line + joints u ≤ c.args.number + joints units) (drop_more place n units) (omega arith);
      before = subst (λ (ts : List Token). IsBefore c.behind-before.result (kinds_back ts)) (sym made)
          (subst (IsBefore c.behind-before.result) (sym kinds) (c.behind-before.ensures (kinds_back c.parts.tokens) c.parts.invariant.before));
      whole = subst (λ (ts : List Token). with_front ts (content_from (kinds_back ts) c.parts.line (place + n) 0 (drop (place + n) units)) ≡ whole) (sym made)
          (subst (λ (ks : List TokenKind). with_front (c.parts.tokens ++ t ∷ []) (content_from ks c.parts.line (place + n) 0 (drop (place + n) units)) ≡ whole) (sym kinds) step);
    }
