-- From the answers of two parts to that of a form's part.
use Rattle.std.proofs.Common.{◌≡◌, ℕ, ◌≤◌, ◌<◌, max, List, [], ◌∷◌, length, take, drop, map, refl, sym, ap, ◌∙◌, subst, arith, codes, Option, Some, None, Result, Ok, Err, ◌⊎◌, inl, inr, Bool, true, false}
use Rattle.std.proofs.lemmas.List.{length-map}
use Rattle.vb_tree.specs.declared.expression.Expr6.{Expr6}
use Rattle.vb_tree.specs.declared.expression.Arg6.{Arg6}
use Rattle.vb_tree.specs.declared.token.Suffix.{Suffix}
use Rattle.vb_tree.specs.declared.token.Token.{Token}
use Rattle.vb_tree.specs.Tree.{Exp, ReDimItem}
use Rattle.vb_tree.specs.View.{exp_of}
use Rattle.vb_tree.specs.Expressions.{IsExpression, depth_of}
use Rattle.form_parts.specs.declared.answer.PartFail.{PartFail}
use Rattle.form_parts.specs.declared.answer.PartFail.TheVariants as fail
use Rattle.form_parts.specs.declared.cuts.Separator.TheVariants as sep
use Rattle.form_parts.specs.Answer.{Answers, FailsFor, both_of}
use Rattle.form_parts.specs.Arguments.{Argument, argument_of, IsArgument, argument_depth}
use Rattle.form_parts.specs.Chains.{IsCallee, IsCalleeLength}
use Rattle.form_parts.specs.Cuts.{pieces, Each}
use Rattle.form_parts.specs.Items.{deepest}
use Rattle.form_parts.specs.Parts.{IsJoined}
use Rattle.form_parts.specs.Redims.{IsReDimItem, redim_depth}
use Rattle.form_parts.proofs.Answering.{fails_along, both_answers}
use Rattle.form_parts.proofs.Joining.{one_joined, same_front, joined_not_whole, to_joint, step_joint, goto_joint, gosub_joint}
use Rattle.form_parts.proofs.Redimming.{one_length}
use Rattle.statement_forms.specs.Fronts.{behind_key, is_found, past_word, each_parts, behind_debug, has_column, before_semicolon}
use Rattle.statement_forms.specs.LineForms.{Behind, AreArrays, IsLimit, IsLimitFrom, limit_depth, IsRange, range_depth, IsForEach, AreArguments, AreItems, AreFew, IsPrinted, IsPrinting, printing_depth, IsJumpAt, NoJump, IsJumpFront, IsInvocation, invocation_depth}
use Rattle.statement_forms.specs.Answer.{range_of, printed_of, invocation_of}
use Rattle.statement_forms.proofs.Making.{behind_answers}

-- both parts, as one answer that is known
pub both_known : {A B X Y : Type 0} (v : A → X) (w : B → Y) (P : X → Type 0) (Q : Y → Type 0) (d : X → ℕ) (e : Y → ℕ) (r : Result A PartFail) (s : Result B PartFail) (whole : Result (A × B) PartFail) → Answers v P d r → Answers w Q e s → whole ≡ both_of r s → Answers {A = A × B} {X = X × Y} (λ p. (v p.0, w p.1)) (λ q. P q.0 × Q q.1) (λ q. max (d q.0) (e q.1)) whole
both_known {A = A} {B = B} {X = X} {Y = Y} v w P Q d e r s whole h k same = subst (λ z. Answers {A = A × B} {X = X × Y} (λ p. (v p.0, w p.1)) (λ q. P q.0 × Q q.1) (λ q. max (d q.0) (e q.1)) z) (sym same) (both_answers v w P Q d e r s h k)

module _ (tokens : List Token) where
  limits_of : (before after : List Token) → IsJoined (codes "step") tokens before after → (l : Exp) (s : Option Exp) → IsLimitFrom tokens l s → (p : Exp × Exp) × (IsExpression before p.0 × IsExpression after p.1)
  limits_of before after j l None q = absurd (joined_not_whole (codes "step") tokens before after step_joint j l q)
  limits_of before after j l (Some s) q =
      let same = one_joined (codes "step") tokens before after q.0 q.1 step_joint j q.2 in
      ((l, s), (subst (λ x. IsExpression x l) (sym same.0) q.3, subst (λ x. IsExpression x s) (sym same.1) q.4))

  pub stepped_fails : (before after : List Token) → IsJoined (codes "step") tokens before after → (f : PartFail) → FailsFor (λ (p : Exp × Exp). IsExpression before p.0 × IsExpression after p.1) (λ p. max (depth_of p.0) (depth_of p.1)) f → FailsFor (IsLimit tokens) limit_depth f
  stepped_fails before after j =
      fails_along (λ (p : Exp × Exp). IsExpression before p.0 × IsExpression after p.1) (λ p. max (depth_of p.0) (depth_of p.1)) (IsLimit tokens) limit_depth
      (λ p h. ((p.0, Some p.1), (before, after, j, h.0, h.1), omega arith))
      (λ x q. limits_of before after j x.0 x.1 q)

  limit_alone : ((before after : List Token) → IsJoined (codes "step") tokens before after → ⊥) → (l : Exp) (s : Option Exp) → IsLimitFrom tokens l s → (x : Exp) × IsExpression tokens x
  limit_alone none l None q = (l, q)
  limit_alone none l (Some s) q = absurd (none q.0 q.1 q.2)

  pub limit_fails : ((before after : List Token) → IsJoined (codes "step") tokens before after → ⊥) → (f : PartFail) → FailsFor (IsExpression tokens) depth_of f → FailsFor (IsLimit tokens) limit_depth f
  limit_fails none =
      fails_along (IsExpression tokens) depth_of (IsLimit tokens) limit_depth
      (λ x h. ((x, None), h, omega arith))
      (λ x q. limit_alone none x.0 x.1 q)

  pub range_answers : (before after : List Token) → IsJoined (codes "to") tokens before after → (r : Result (Expr6 × (Expr6 × Option Expr6)) PartFail) → Answers range_of (λ x. IsExpression before x.0 × IsLimit after x.1) range_depth r → Answers range_of (IsRange tokens) range_depth r
  range_answers before after j (Ok p) h = ((before, after, j, h.0.0, h.0.1), h.1)
  range_answers before after j (Err f) h =
      fails_along (λ (x : Exp × (Exp × Option Exp)). IsExpression before x.0 × IsLimit after x.1) range_depth (IsRange tokens) range_depth
      (λ x k. (x, (before, after, j, k.0, k.1), omega arith))
      (λ x q.
      let same = one_joined (codes "to") tokens before after q.0 q.1 to_joint j q.2 in
      (x, (subst (λ z. IsExpression z x.0) (sym same.0) q.3, subst (λ z. IsLimit z x.1) (sym same.1) q.4)))
      f h

  pub arrays_fail : (rest after : List Token) → behind_key (codes "redim") tokens ≡ Some rest → after ≡ past_word (codes "preserve") rest → (f : PartFail) → FailsFor (Each IsReDimItem (pieces sep.Comma after)) (deepest redim_depth) f → FailsFor (AreArrays tokens) (λ x. deepest redim_depth x.1) f
  arrays_fail rest after found same f h =
      let inner : FailsFor (λ (x : Bool × List ReDimItem). (x.0 ≡ is_found (behind_key (codes "preserve") rest)) × Each IsReDimItem (pieces sep.Comma (past_word (codes "preserve") rest)) x.1) (λ x. deepest redim_depth x.1) f =
      fails_along (Each IsReDimItem (pieces sep.Comma after)) (deepest redim_depth) (λ (x : Bool × List ReDimItem). (x.0 ≡ is_found (behind_key (codes "preserve") rest)) × Each IsReDimItem (pieces sep.Comma (past_word (codes "preserve") rest)) x.1) (λ x. deepest redim_depth x.1)
      (λ xs k. ((is_found (behind_key (codes "preserve") rest), xs), (refl, subst (λ z. Each IsReDimItem (pieces sep.Comma z) xs) same k), omega arith))
      (λ x q. (x.1, subst (λ z. Each IsReDimItem (pieces sep.Comma z) x.1) (sym same) q.1)) f h in
      subst (λ z. FailsFor (λ (x : Bool × List ReDimItem). Behind z (λ y. (x.0 ≡ is_found (behind_key (codes "preserve") y)) × Each IsReDimItem (pieces sep.Comma (past_word (codes "preserve") y)) x.1)) (λ x. deepest redim_depth x.1) f) (sym found) inner

  pub each_fails : (n : List ℕ × Suffix) (rest : List Token) → each_parts tokens ≡ Some (n, rest) → (f : PartFail) → FailsFor (IsExpression rest) depth_of f → FailsFor (IsForEach tokens) (λ x. depth_of x.1) f
  each_fails n rest found f h =
      let inner : FailsFor (λ (x : (List ℕ × Suffix) × Exp). (n ≡ x.0) × IsExpression rest x.1) (λ x. depth_of x.1) f =
      fails_along (IsExpression rest) depth_of (λ (x : (List ℕ × Suffix) × Exp). (n ≡ x.0) × IsExpression rest x.1) (λ x. depth_of x.1)
      (λ e k. ((n, e), (refl, k), omega arith)) (λ x q. (x.1, q.1)) f h in
      subst (λ z. FailsFor (λ (x : (List ℕ × Suffix) × Exp). Behind z (λ p. (p.0 ≡ x.0) × IsExpression p.1 x.1)) (λ x. depth_of x.1) f) (sym found) inner

  pub invocation_answers : (name rest : List Token) (len : ℕ) → IsCalleeLength tokens len → name ≡ take len tokens → rest ≡ drop len tokens → (r : Result (Expr6 × List Arg6) PartFail) → Answers invocation_of (λ x. IsCallee name x.0 × AreArguments rest x.1) invocation_depth r → Answers invocation_of (IsInvocation tokens) invocation_depth r
  invocation_answers name rest len longest front back (Ok p) h =
      ((len, longest, subst (λ z. IsCallee z (exp_of p.0)) front h.0.0, subst (λ z. AreArguments z (map argument_of p.1)) back h.0.1), h.1)
  invocation_answers name rest len longest front back (Err f) h =
      fails_along (λ (x : Exp × List Argument). IsCallee name x.0 × AreArguments rest x.1) invocation_depth (IsInvocation tokens) invocation_depth
      (λ x k. (x, (len, longest, subst (λ z. IsCallee z x.0) front k.0, subst (λ z. AreArguments z x.1) back k.1), omega arith))
      (λ x q.
      let same = one_length tokens q.0 len q.1 longest in
      (x, (subst (λ z. IsCallee z x.0) (ap (λ n. take n tokens) same ∙ sym front) q.2, subst (λ z. AreArguments z x.1) (ap (λ n. drop n tokens) same ∙ sym back) q.3)))
      f h

pub arguments_answers : (tokens : List Token) → 1 ≤ length tokens → (r : Result (List Arg6) PartFail) → Answers (map argument_of) (Each IsArgument (pieces sep.Comma tokens)) (deepest argument_depth) r → Answers (map argument_of) (AreArguments tokens) (deepest argument_depth) r
arguments_answers [] low r h = absurd (omega arith)
arguments_answers (t ∷ ts) low r h = h

pub one_front : (tokens a b c d : List Token) → (IsJoined (codes "goto") tokens a b ⊎ IsJoined (codes "gosub") tokens a b) → (IsJoined (codes "goto") tokens c d ⊎ IsJoined (codes "gosub") tokens c d) → a ≡ c
one_front tokens a b c d (inl j) (inl k) = same_front (codes "goto") (codes "goto") tokens a b c d goto_joint goto_joint j k
one_front tokens a b c d (inl j) (inr k) = same_front (codes "goto") (codes "gosub") tokens a b c d goto_joint gosub_joint j k
one_front tokens a b c d (inr j) (inl k) = same_front (codes "gosub") (codes "goto") tokens a b c d gosub_joint goto_joint j k
one_front tokens a b c d (inr j) (inr k) = same_front (codes "gosub") (codes "gosub") tokens a b c d gosub_joint gosub_joint j k

-- the expression before GoTo or GoSub
pub jump_answers : (tokens before : List Token) → IsJumpAt tokens before → (r : Result Expr6 PartFail) → Answers exp_of (IsExpression before) depth_of r → Answers exp_of (IsJumpFront tokens) depth_of r
jump_answers tokens before j (Ok e) h = ((before, j, h.0), h.1)
jump_answers tokens before j (Err f) h =
    fails_along (IsExpression before) depth_of (IsJumpFront tokens) depth_of (λ e k. (e, (before, j, k), omega arith)) (λ e q. (e, subst (λ z. IsExpression z e) (sym (one_front tokens before j.0 q.0 q.1.0 j.1 q.1.1)) q.2)) f h

pub no_jump : (tokens : List Token) → ((b a : List Token) → IsJoined (codes "goto") tokens b a → ⊥) → ((b a : List Token) → IsJoined (codes "gosub") tokens b a → ⊥) → NoJump tokens
no_jump tokens none other b (a, inl j) = none b a j
no_jump tokens none other b (a, inr j) = other b a j

pub few_fails : (tokens : List Token) (ended : Bool) (f : PartFail) → FailsFor (AreItems tokens) (deepest depth_of) f → FailsFor (AreFew tokens ended) printing_depth f
few_fails tokens ended = fails_along (AreItems tokens) (deepest depth_of) (AreFew tokens ended) printing_depth (λ xs h. ((xs, ended), (h, refl), omega arith)) (λ x q. (x.0, q.0))

pub items_answers : (tokens : List Token) → 1 ≤ length tokens → (r : Result (List Expr6) PartFail) → Answers (map exp_of) (Each IsExpression (pieces sep.Semicolon tokens)) (deepest depth_of) r → Answers (map exp_of) (AreItems tokens) (deepest depth_of) r
items_answers [] low r h = absurd (omega arith)
items_answers (t ∷ ts) low r h = h

pub printed_some : (ts front : List Token) (o : Option (List Token)) (r : Result (List Expr6 × Bool) PartFail) → o ≡ Some front → Answers printed_of (AreFew front true) printing_depth r → Answers printed_of (IsPrinted o ts) printing_depth r
printed_some ts front o r e h = subst (λ z. Answers printed_of (IsPrinted z ts) printing_depth r) (sym e) h

pub printed_none : (ts : List Token) (o : Option (List Token)) (r : Result (List Expr6 × Bool) PartFail) → o ≡ None → Answers printed_of (AreFew ts false) printing_depth r → Answers printed_of (IsPrinted o ts) printing_depth r
printed_none ts o r e h = subst (λ z. Answers printed_of (IsPrinted z ts) printing_depth r) (sym e) h

-- no word Tab or Spc stands there
pub printing_answers : (tokens rest : List Token) (r : Result (List Expr6 × Bool) PartFail) → behind_debug (codes "print") tokens ≡ Some rest → has_column false rest ≡ false → Answers printed_of (IsPrinted (before_semicolon rest) rest) printing_depth r → Answers printed_of (IsPrinting tokens) printing_depth r
printing_answers tokens rest r found plain h = behind_answers (behind_debug (codes "print") tokens) rest printed_of (λ y x. (has_column false y ≡ false) × IsPrinted (before_semicolon y) y x) printing_depth r found (go r h)
  where
    go : (q : Result (List Expr6 × Bool) PartFail) → Answers printed_of (IsPrinted (before_semicolon rest) rest) printing_depth q → Answers printed_of (λ x. (has_column false rest ≡ false) × IsPrinted (before_semicolon rest) rest x) printing_depth q
    go (Ok p) k = ((plain, k.0), k.1)
    go (Err fail.NotFound) k = λ x q. k x q.1
    go (Err fail.TooDeep) k = (k.0, (plain, k.1), k.2)
    go (Err fail.Mem) k = tt

-- what stands behind Tab or Spc is printed otherwise
pub column_none : (tokens rest : List Token) → behind_debug (codes "print") tokens ≡ Some rest → has_column false rest ≡ true → (x : List Exp × Bool) → IsPrinting tokens x → ⊥
column_none tokens rest found there x q =
    let at = subst (λ z. Behind z (λ y. (has_column false y ≡ false) × IsPrinted (before_semicolon y) y x)) found q in
    absurd (cc (there, at.0))

pub many_items : (tokens : List Token) (ended : Bool) (xs : List Expr6) → AreItems tokens (map exp_of xs) → 64 < length xs → FailsFor (AreFew tokens ended) printing_depth fail.TooDeep
many_items tokens ended xs h low = ((map exp_of xs, ended), (h, refl), let n = length-map xs exp_of in omega (arith, n))
