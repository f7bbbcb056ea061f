-- The first member that draws, token by token.
use Rattle.std.proofs.Common.{◌≡◌, ℕ, ◌+◌, ◌<◌, ◌≤◌, List, [], ◌∷◌, ◌++◌, refl, sym, ap, ◌∙◌, subst, arith, length, take, get_or, zero, suc, true, false, ◌&&◌, ◌⊎◌, inl, inr}
use Rattle.std.proofs.lemmas.Bool.{cases_lt}
use Rattle.std.proofs.lemmas.List.{take_more, length-append, take-append-le, length-take-le}
use Rattle.vb_tree.specs.declared.token.Token.{Token}
use Rattle.statement_forms.specs.Fronts.{ends_dot, ends_drawn, is_sign_of, dot_sign, draws}
use Rattle.statement_forms.specs.LineForms.{IsDrawn, NotDrawn, IsDrawing, FrontIs}
use Rattle.form_parts.specs.Chains.{IsCallee}
use Rattle.vb_tree.specs.Tree.{Exp}

dot-more : (xs : List Token) (t : Token) → ends_dot (xs ++ t ∷ []) ≡ is_sign_of dot_sign t.kind
dot-more [] t = refl
dot-more (a ∷ []) t = refl
dot-more (a ∷ b ∷ xs) t = dot-more (b ∷ xs) t

drawn-more : (xs : List Token) (t : Token) → ends_drawn (xs ++ t ∷ []) ≡ (ends_dot xs && draws t)
drawn-more [] t = refl
drawn-more (a ∷ []) t = refl
drawn-more (a ∷ b ∷ []) t = refl
drawn-more (a ∷ b ∷ c ∷ xs) t = drawn-more (b ∷ c ∷ xs) t

more : (tokens : List Token) (i : ℕ) (t : Token) → i < length tokens → t ≡ get_or tokens i t → take (i + 1) tokens ≡ take i tokens ++ t ∷ []
more tokens i t low e = take_more tokens i t low ∙ ap (λ x. take i tokens ++ x ∷ []) (sym e)

pub dotted_more : (tokens : List Token) (i : ℕ) (t : Token) → i < length tokens → t ≡ get_or tokens i t → ends_dot (take (i + 1) tokens) ≡ is_sign_of dot_sign t.kind
dotted_more tokens i t low e = ap ends_dot (more tokens i t low e) ∙ dot-more (take i tokens) t

pub drawn_at : (tokens : List Token) (i : ℕ) (t : Token) → i < length tokens → t ≡ get_or tokens i t → ends_drawn (take (i + 1) tokens) ≡ (ends_dot (take i tokens) && draws t)
drawn_at tokens i t low e = ap ends_drawn (more tokens i t low e) ∙ drawn-more (take i tokens) t

take-all : (xs : List Token) → take (length xs) xs ≡ xs
take-all [] = refl
take-all (x ∷ xs) = ap (λ r. x ∷ r) (take-all xs)

none_before : (xs : List Token) (t : Token) → NotDrawn xs → ends_drawn (xs ++ t ∷ []) ≡ false → NotDrawn (xs ++ t ∷ [])
none_before xs t none other = λ m low k. go m low k (cases_lt (length xs) m)
  where
    go : (m : ℕ) → m ≤ length (xs ++ t ∷ []) → ends_drawn (take m (xs ++ t ∷ [])) ≡ true → (length xs < m) ⊎ (m ≤ length xs) → ⊥
    go m low k (inr h) = none m h (subst (λ x. ends_drawn x ≡ true) (take-append-le m xs (t ∷ []) h) k)
    go m low k (inl h) =
        let e : m ≡ length (xs ++ t ∷ []) = omega (arith, length-append xs (t ∷ [])) in
        let all : take m (xs ++ t ∷ []) ≡ xs ++ t ∷ [] = ap (λ n. take n (xs ++ t ∷ [])) e ∙ take-all (xs ++ t ∷ []) in
        let is = subst (λ x. ends_drawn x ≡ true) all k in
        absurd (cc (is, other))

pub none_more : (tokens : List Token) (i : ℕ) (t : Token) → i < length tokens → t ≡ get_or tokens i t → NotDrawn (take i tokens) → ends_drawn (take (i + 1) tokens) ≡ false → NotDrawn (take (i + 1) tokens)
none_more tokens i t low e none other =
    let m = more tokens i t low e in
    subst NotDrawn (sym m) (none_before (take i tokens) t none (subst (λ x. ends_drawn x ≡ false) m other))

take-take : (m i : ℕ) (xs : List Token) → m ≤ i → take m (take i xs) ≡ take m xs
take-take zero i xs h = refl
take-take (suc m) zero xs h = absurd (omega arith)
take-take (suc m) (suc i) [] h = refl
take-take (suc m) (suc i) (x ∷ xs) h = ap (λ r. x ∷ r) (take-take m i xs (omega arith))

pub drawn_here : (tokens : List Token) (i : ℕ) → i < length tokens → NotDrawn (take i tokens) → ends_drawn (take (i + 1) tokens) ≡ true → IsDrawn tokens (i + 1)
drawn_here tokens i low none here = record {
  within = omega arith;
  drawn = here;
  shortest = λ m h k. go m h k (cases_lt i m);
}
  where
    go : (m : ℕ) → m ≤ length tokens → ends_drawn (take m tokens) ≡ true → (i < m) ⊎ (m ≤ i) → i + 1 ≤ m
    go m h k (inl lt) = omega arith
    go m h k (inr le) = absurd (none m (omega (arith, length-take-le i tokens (omega arith))) (subst (λ x. ends_drawn x ≡ true) (sym (take-take m i tokens le)) k))

pub one_drawn : (tokens : List Token) (n m : ℕ) → IsDrawn tokens n → IsDrawn tokens m → n ≡ m
one_drawn tokens n m h k = let a = h.shortest m k.within k.drawn in let b = k.shortest n h.within h.drawn in omega (arith, a, b)

pub no_drawing : (ts : List Token) → NotDrawn ts → (e : Exp) → IsDrawing ts e → ⊥
no_drawing ts none e q = none q.0 q.1.within q.1.drawn

pub not_drawing : (ts : List Token) (len : ℕ) → IsDrawn ts len → FrontIs (take len ts) false → (e : Exp) → IsDrawing ts e → ⊥
not_drawing ts len h none e q = none e (subst (λ n. IsCallee (take n ts) e) (one_drawn ts q.0 len q.1 h) q.2)
