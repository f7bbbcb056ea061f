-- Links of a list of tokens, token by token.
use Rattle.std.proofs.Common.{◌≡◌, ℕ, ◌+◌, ◌<◌, ◌≤◌, List, [], ◌∷◌, ◌++◌, refl, sym, ap, ◌∙◌, subst, arith, length, take, get_or, true, false, zero, suc, ◌⊎◌, inl, inr}
use Rattle.std.proofs.lemmas.List.{take_more, length-append, take-append-le, length-take-le}
use Rattle.std.proofs.Math.Seq.{take-nil}
use Rattle.std.proofs.lemmas.Bool.{cases_lt}
use Rattle.vb_tree.specs.declared.token.Token.{Token}
use Rattle.form_parts.specs.declared.chains.Link.{Link}
use Rattle.form_parts.specs.declared.chains.Link.TheVariants.{Begin}
use Rattle.form_parts.specs.Chains.{link_after, last_link, last_link_from, is_member, IsCalleeLength}

last_link-append : (l : Link) (xs : List Token) (t : Token) → last_link_from l (xs ++ t ∷ []) ≡ link_after (last_link_from l xs) t.kind
last_link-append l [] t = refl
last_link-append l (x ∷ xs) t = last_link-append (link_after l x.kind) xs t

pub last_link_more : (tokens : List Token) (i : ℕ) (t : Token) → i < length tokens → t ≡ get_or tokens i t → last_link (take (i + 1) tokens) ≡ link_after (last_link (take i tokens)) t.kind
last_link_more tokens i t low e =
    ap last_link (take_more tokens i t low ∙ ap (λ x. take i tokens ++ x ∷ []) (sym e)) ∙ last_link-append Begin (take i tokens) t

take-all : (xs : List Token) → take (length xs) xs ≡ xs
take-all [] = refl
take-all (x ∷ xs) = ap (λ r. x ∷ r) (take-all xs)

pub best_here : (xs : List Token) → is_member (last_link xs) ≡ true → IsCalleeLength xs (length xs)
best_here xs h = record {
  within = omega arith;
  member = λ low. subst (λ x. is_member (last_link x) ≡ true) (sym (take-all xs)) h;
  longest = λ m low k. low;
}

pub best_before : (xs : List Token) (t : Token) (len : ℕ) → IsCalleeLength xs len → is_member (last_link (xs ++ t ∷ [])) ≡ false → IsCalleeLength (xs ++ t ∷ []) len
best_before xs t len best other = record {
  within = omega (arith, best.within, length-append xs (t ∷ []));
  member = λ low. subst (λ x. is_member (last_link x) ≡ true) (sym (take-append-le len xs (t ∷ []) best.within)) (best.member low);
  longest = λ m low k. go m low k (cases_lt (length xs) m);
}
  where
    go : (m : ℕ) → m ≤ length (xs ++ t ∷ []) → is_member (last_link (take m (xs ++ t ∷ []))) ≡ true → (length xs < m) ⊎ (m ≤ length xs) → m ≤ len
    go m low k (inr h) = best.longest m h (subst (λ x. is_member (last_link x) ≡ true) (take-append-le m xs (t ∷ []) h) k)
    go m low k (inl h) =
        let e : m ≡ length (xs ++ t ∷ []) = omega (arith, length-append xs (t ∷ [])) in
        let all : take m (xs ++ t ∷ []) ≡ xs ++ t ∷ [] = ap (λ n. take n (xs ++ t ∷ [])) e ∙ take-all (xs ++ t ∷ []) in
        let is = subst (λ x. is_member (last_link x) ≡ true) all k in
        absurd (cc (is, other))

-- one more token, which ends a member or doesn't
pub best_more : (tokens : List Token) (i : ℕ) (t : Token) (len : ℕ) → i < length tokens → t ≡ get_or tokens i t → IsCalleeLength (take i tokens) len → is_member (last_link (take (i + 1) tokens)) ≡ false → IsCalleeLength (take (i + 1) tokens) len
best_more tokens i t len low e best other =
    let more : take (i + 1) tokens ≡ take i tokens ++ t ∷ [] = take_more tokens i t low ∙ ap (λ x. take i tokens ++ x ∷ []) (sym e) in
    subst (λ x. IsCalleeLength x len) (sym more) (best_before (take i tokens) t len best (subst (λ x. is_member (last_link x) ≡ false) more other))

pub best_all : (tokens : List Token) (i : ℕ) → i < length tokens → is_member (last_link (take (i + 1) tokens)) ≡ true → IsCalleeLength (take (i + 1) tokens) (i + 1)
best_all tokens i low h = subst (λ n. IsCalleeLength (take (i + 1) tokens) n) (length-take-le (i + 1) tokens (omega arith)) (best_here (take (i + 1) tokens) h)

pub take_whole : (tokens : List Token) (i : ℕ) → length tokens ≤ i → take i tokens ≡ tokens
take_whole [] i h = take-nil i
take_whole (x ∷ xs) zero h = absurd (omega arith)
take_whole (x ∷ xs) (suc i) h = ap (λ r. x ∷ r) (take_whole xs i (omega arith))
