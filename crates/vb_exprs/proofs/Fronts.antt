-- From the longest front to the answer.
use Rattle.std.proofs.Common.{◌≡◌, ℕ, ◌<◌, ◌≤◌, List, [], ◌∷◌, ◌++◌, get_or, refl, sym, ap, ◌∙◌, subst, arith, append-nil, Option, Some, None, length, take}
use Rattle.std.proofs.lemmas.List.{length-append, length-map, take-map, take_at, get_or_at, map-append}
use Rattle.vb_tree.specs.declared.token.Token.{Token}
use Rattle.vb_tree.specs.Tree.{Exp}
use Rattle.vb_tree.specs.Expressions.{Symbol, leaf, literal, naming, constant, self, operator, access, opening, symbols, symbol_of, Written, spelling, tree_of, depth_of, IsExpression, Begins, BeginsLongest, IsStop}
use Rattle.vb_exprs.specs.declared.scan.Mode.TheVariants.{After}
use Rattle.vb_exprs.specs.declared.fail.ExprFail.{ExprFail}
use Rattle.vb_exprs.specs.declared.fail.ExprFail.TheVariants as fail
use Rattle.vb_exprs.specs.TokenClass.{class_of}
use Rattle.vb_exprs.specs.Scan.{step_of}
use Rattle.vb_exprs.specs.Reading.{IsWritten, IsLongestEnd, Stands, Fails}
use Rattle.vb_exprs.specs.Answer.{IsRead, IsNotExpr, IsFrontLength, FailsFor}
use Rattle.vb_exprs.proofs.Spelled.{accepted}
use Rattle.vb_exprs.proofs.Ends.{stuck_here}
use Rattle.vb_exprs.proofs.Spines.{below_15}

symbols-take : (n : ℕ) (ts : List Token) → take n (symbols ts) ≡ symbols (take n ts)
symbols-take n ts = take-map (λ t. symbol_of t.kind) n ts

written_front : (ts : List Token) (u : Exp) (m : ℕ) → (b : Begins ts u m) → IsWritten (take m (symbols ts)) b.expression.written
written_front ts u m b = (b.expression.grouped, symbols-take m ts ∙ b.expression.spelled)

length-symbols : (ts : List Token) → length (symbols ts) ≡ length ts
length-symbols ts = length-map ts (λ t. symbol_of t.kind)

pub no_front : (ts : List Token) → IsLongestEnd (length ts) (symbols ts) None → IsNotExpr ts
no_front ts none = λ u m b. none m b.expression.written b.within (written_front ts u m b)

stops : (s : Symbol) → IsStop s → step_of After [] (class_of s) ≡ None
stops (operator op w) h = absurd h
stops (access b) h = absurd h
stops opening h = absurd h
stops (leaf (literal l)) h = refl
stops (leaf (naming n)) h = refl
stops (leaf (constant n s)) h = refl
stops (leaf (self n)) h = refl
stops _ h = refl

-- what no expression goes on with ends the longest one
pub longest_before : (tokens : List Token) (t : Exp) (token : Token) (rest : List Token) → IsExpression tokens t → IsStop (symbol_of token.kind) → BeginsLongest (tokens ++ token ∷ rest) t (length tokens)
longest_before tokens t token rest it stop =
    let ts = tokens ++ token ∷ rest in
    let i = length tokens in
    let s = symbol_of token.kind in
    let parts : symbols ts ≡ symbols tokens ++ s ∷ symbols rest = map-append (λ t. symbol_of t.kind) tokens (token ∷ rest) in
    let front : take i ts ≡ tokens = take_at tokens (token ∷ rest) i refl in
    let now : take i (symbols ts) ≡ spelling it.written = symbols-take i ts ∙ ap symbols front ∙ it.spelled in
    let there : get_or (symbols ts) i s ≡ s = ap (λ x. get_or x i s) parts ∙ get_or_at (symbols tokens) s (symbols rest) s i (length-symbols tokens) in
    let stuck : step_of After [] (class_of (get_or (symbols ts) i s)) ≡ None = ap (λ x. step_of After [] (class_of x)) there ∙ stops s stop in
    let low : i < length (symbols ts) = omega (arith, length-symbols ts, length-append tokens (token ∷ rest)) in
    let end = stuck_here (symbols ts) i s After [] (Some i) low (accepted (take i (symbols ts)) it.written (it.grouped, now)) stuck (omega arith, (it.written, (it.grouped, now)), λ m u h k. h) in
    record {
      begins = record { within = omega (arith, length-append tokens (token ∷ rest)); expression = subst (λ x. IsExpression x t) (sym front) it };
      longest = λ u m b. end.2 m b.expression.written (omega (arith, b.within, length-symbols ts)) (written_front ts u m b);
    }

module _ (ts : List Token) (n : ℕ) (end : IsLongestEnd (length ts) (symbols ts) (Some n)) where
  pub found_longest : BeginsLongest ts (tree_of end.1.0) n
  found_longest = record {
    begins = record {
      within = end.0;
      expression = record { written = end.1.0; grouped = end.1.1.0; spelled = sym (symbols-take n ts) ∙ end.1.1.1; tree = refl };
    };
    longest = λ u m b. end.2 m b.expression.written b.within (written_front ts u m b);
  }

  stands_found : Stands 15 end.1.0 (symbols (take n ts)) []
  stands_found = record {
    grouped = end.1.1.0;
    joined = below_15 end.1.0;
    spelled = sym (symbols-take n ts) ∙ end.1.1.1 ∙ sym (append-nil (spelling end.1.0));
    closed = tt;
    stops = tt;
  }

  stands : (u : Exp) (m : ℕ) → (h : BeginsLongest ts u m) → Stands 15 h.begins.expression.written (symbols (take n ts)) []
  stands u m h =
      let it = h.begins.expression in
      let up = h.longest (tree_of end.1.0) n found_longest.begins in
      let down = end.2 m it.written h.begins.within (written_front ts u m h.begins) in
      let same : n ≡ m = omega (arith, up, down) in
      record {
        grouped = it.grouped;
        joined = below_15 it.written;
        spelled = ap (λ x. symbols (take x ts)) same ∙ it.spelled ∙ sym (append-nil (spelling it.written));
        closed = tt;
        stops = tt;
      }

  pub answer_err : (e : ExprFail) → ((t : Written) (rest : List Symbol) → Stands 15 t (symbols (take n ts)) rest → Fails 64 e (depth_of (tree_of t))) → FailsFor ts e
  answer_err fail.NotExpr h = absurd (h end.1.0 [] stands_found)
  answer_err fail.TooDeep h = record {
    tree = tree_of end.1.0;
    len = n;
    longest = found_longest;
    deep = λ u m k. subst (λ x. 64 < depth_of x) k.begins.expression.tree (h k.begins.expression.written [] (stands u m k));
  }
  answer_err fail.Mem h = tt

  pub answer_ok : (t : Exp) → depth_of t ≤ 64 → ((u : Written) → Stands 15 u (symbols (take n ts)) [] → t ≡ tree_of u) → IsRead ts t n
  answer_ok t shallow h = record {
    longest = subst (λ x. BeginsLongest ts x n) (sym (h end.1.0 stands_found)) found_longest;
    only = λ u m k. sym (h k.begins.expression.written (stands u m k) ∙ k.begins.expression.tree);
    shallow = shallow;
  }

pub front_length : (ts : List Token) (r : Option ℕ) → IsLongestEnd (length ts) (symbols ts) r → IsFrontLength ts r
front_length ts None h = no_front ts h
front_length ts (Some n) h = (tree_of h.1.0, found_longest ts n h)
