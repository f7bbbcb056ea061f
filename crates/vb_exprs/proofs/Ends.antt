-- Where the longest front ends.
use Rattle.std.proofs.Common.{◌≡◌, ℕ, ◌+◌, ◌<◌, ◌≤◌, List, [], ◌∷◌, ◌++◌, refl, sym, ap, ◌∙◌, subst, arith, Option, Some, None, option_and_then, length, get_or, take, drop, true, false, inl, inr}
use Rattle.std.proofs.lemmas.Bool.{cases_lt}
use Rattle.std.proofs.lemmas.List.{take-append-drop, take-take, drop_more, get_or-take, length-take-le, length-take, drop_all, get_or-map, length-map}
use Rattle.vb_tree.specs.declared.token.Token.{Token}
use Rattle.vb_tree.specs.Expressions.{Symbol, other, symbols, symbol_of, Written}
use Rattle.vb_exprs.specs.declared.token_class.Class.{Class}
use Rattle.vb_exprs.specs.declared.scan.Mode.{Mode}
use Rattle.vb_exprs.specs.declared.scan.Mode.TheVariants.{Operand, After}
use Rattle.vb_exprs.specs.declared.scan.Bracket.{Bracket}
use Rattle.vb_exprs.specs.TokenClass.{class_of}
use Rattle.vb_exprs.specs.Scan.{State, step_of, run, ends}
use Rattle.vb_exprs.specs.Reading.{IsWritten, IsLongestEnd}
use Rattle.vb_exprs.proofs.Spelled.{EndsScan, accepted}
use Rattle.vb_exprs.proofs.Scanned.{end_state, no_end, written}

-- the fronts of the symbols

run_append : (xs ys : List Symbol) (mode : Mode) (o : List Bracket) → run mode o (xs ++ ys) ≡ option_and_then (λ s. run s.0 s.1 ys) (run mode o xs)
run_append [] ys mode o = refl
run_append (x ∷ xs) ys mode o = go (run_append xs ys) (step_of mode o (class_of x))
  where
    go : ((m : Mode) (o : List Bracket) → run m o (xs ++ ys) ≡ option_and_then (λ s. run s.0 s.1 ys) (run m o xs)) → (s : Option State) → option_and_then (λ s. run s.0 s.1 (xs ++ ys)) s ≡ option_and_then (λ s. run s.0 s.1 ys) (option_and_then (λ s. run s.0 s.1 xs) s)
    go rest None = refl
    go rest (Some s) = rest s.0 s.1

-- a front of more than i tokens
front : (ts : List Symbol) (i m : ℕ) (d : Symbol) → i < m → m ≤ length ts → take m ts ≡ take i ts ++ (get_or ts i d ∷ drop (i + 1) (take m ts))
front ts i m d low high =
    let long : length (take m ts) ≡ m = length-take-le m ts high in
    let below : i < length (take m ts) = omega arith in
    let e : get_or (take m ts) i d ≡ get_or ts i d = get_or-take m ts i d low in
    sym (take-append-drop i (take m ts)) ∙ ap (λ x. x ++ drop i (take m ts)) (take-take i m ts (omega arith)) ∙ ap (λ x. take i ts ++ x) (drop_more (take m ts) i d below ∙ ap (λ x. x ∷ drop (i + 1) (take m ts)) e)

run_front : (ts : List Symbol) (i m : ℕ) (d : Symbol) (mode : Mode) (o : List Bracket) → i < m → m ≤ length ts → run Operand [] (take i ts) ≡ Some (mode, o) → run Operand [] (take m ts) ≡ option_and_then (λ s. run s.0 s.1 (drop (i + 1) (take m ts))) (step_of mode o (class_of (get_or ts i d)))
run_front ts i m d mode o low high reached =
    ap (run Operand []) (front ts i m d low high) ∙ run_append (take i ts) (get_or ts i d ∷ drop (i + 1) (take m ts)) Operand [] ∙ ap (option_and_then (λ s. run s.0 s.1 (get_or ts i d ∷ drop (i + 1) (take m ts)))) reached

pub reached_more : (ts : List Symbol) (i : ℕ) (d : Symbol) (mode : Mode) (o : List Bracket) (s : State) → i < length ts → run Operand [] (take i ts) ≡ Some (mode, o) → step_of mode o (class_of (get_or ts i d)) ≡ Some s → run Operand [] (take (i + 1) ts) ≡ Some s
reached_more ts i d mode o s low reached stepped =
    let none : drop (i + 1) (take (i + 1) ts) ≡ [] = drop_all (i + 1) (take (i + 1) ts) (omega (arith, length-take (i + 1) ts)) in
    run_front ts i (i + 1) d mode o (omega arith) (omega arith) reached
    ∙ ap (option_and_then (λ s. run s.0 s.1 (drop (i + 1) (take (i + 1) ts)))) stepped
    ∙ ap (run s.0 s.1) none

-- the scan ends at i + 1
pub ends_here : (ts : List Symbol) (i : ℕ) (mode : Mode) (o : List Bracket) → run Operand [] (take (i + 1) ts) ≡ Some (mode, o) → ends mode o ≡ true → IsLongestEnd (i + 1) ts (Some (i + 1))
ends_here ts i mode o reached e = (omega arith, written (take (i + 1) ts) (reached ∙ end_state mode o e), λ m t h k. h)

pub not_here : (ts : List Symbol) (i : ℕ) (mode : Mode) (o : List Bracket) (end : Option ℕ) → run Operand [] (take (i + 1) ts) ≡ Some (mode, o) → ends mode o ≡ false → IsLongestEnd i ts end → IsLongestEnd (i + 1) ts end
not_here ts i mode o end reached not_end best = go end best
  where
    never : (m : ℕ) (t : Written) → m ≤ i + 1 → IsWritten (take m ts) t → m ≤ i
    never m t h k = elim (cases_lt i m) [
      | inl over ↦
          let e : m ≡ i + 1 = omega arith in
          absurd (no_end mode o not_end (subst EndsScan (sym (accepted (take m ts) t k) ∙ ap (λ x. run Operand [] (take x ts)) e ∙ reached) refl))
      | inr fits ↦ fits
    ]

    go : (end : Option ℕ) → IsLongestEnd i ts end → IsLongestEnd (i + 1) ts end
    go None best = λ m t h k. best m t (never m t h k) k
    go (Some n) best = (omega arith, best.1, λ m t h k. best.2 m t (never m t h k) k)

not_nothing : ◌≡◌ {A = Option State} (Some (After, [])) (Some (Operand, [])) → ⊥
not_nothing e = no_end Operand [] refl (subst EndsScan e refl)

pub none_longest : (ts : List Symbol) → IsLongestEnd 0 ts None
none_longest ts m t h k =
    let zero : m ≡ 0 = omega arith in
    absurd (not_nothing (sym (accepted (take m ts) t k) ∙ ap (λ x. run Operand [] (take x ts)) zero))

pub stuck_here : (ts : List Symbol) (i : ℕ) (d : Symbol) (mode : Mode) (o : List Bracket) (end : Option ℕ) → i < length ts → run Operand [] (take i ts) ≡ Some (mode, o) → step_of mode o (class_of (get_or ts i d)) ≡ None → IsLongestEnd i ts end → IsLongestEnd (length ts) ts end
stuck_here ts i d mode o end low reached stuck best = go end best
  where
    never : (m : ℕ) (t : Written) → m ≤ length ts → IsWritten (take m ts) t → m ≤ i
    never m t h k = elim (cases_lt i m) [
      | inl over ↦
          let e = run_front ts i m d mode o over h reached ∙ ap (option_and_then (λ s. run s.0 s.1 (drop (i + 1) (take m ts)))) stuck in
          absurd (subst EndsScan (sym (accepted (take m ts) t k) ∙ e) refl)
      | inr fits ↦ fits
    ]

    go : (end : Option ℕ) → IsLongestEnd i ts end → IsLongestEnd (length ts) ts end
    go None best = λ m t h k. best m t (never m t h k) k
    go (Some n) best = (omega arith, best.1, λ m t h k. best.2 m t (never m t h k) k)

-- the class of the symbol at a place
pub class_here : (ts : List Token) (i : ℕ) (t : Token) (k : Class) → i < length ts → t ≡ get_or ts i t → k ≡ class_of (symbol_of t.kind) → class_of (get_or (symbols ts) i other) ≡ k
class_here ts i t k low e f =
    ap class_of (get_or-map (λ t. symbol_of t.kind) ts i t other low ∙ ap (λ x. symbol_of x.kind) (sym e)) ∙ sym f

pub length-symbols : (ts : List Token) → length (symbols ts) ≡ length ts
length-symbols ts = length-map ts (λ t. symbol_of t.kind)
